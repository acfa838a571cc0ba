-- Which operations make their values anew.
use Rattle.std.specs.Prelude.{Bool, true, false}
use Rattle.fut_flat.specs.declared.act.Act.{Act}
use Rattle.fut_flat.specs.declared.act.Act.TheVariants as act

-- makes a value that shares with nothing
abbrev pub is_fresh : Act → Bool
is_fresh (act.Int n t) = true
is_fresh (act.Truth b) = true
is_fresh act.Array = true
is_fresh (act.Binary op) = true
is_fresh act.Negate = true
is_fresh act.Complement = true
is_fresh act.Assert = true
is_fresh (act.Range stepped end) = true
is_fresh a = false
