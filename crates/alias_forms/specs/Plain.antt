-- Which operations are looked at by their parts.
use Rattle.std.specs.Prelude.{Bool, true, false}
use Rattle.fut_flat.specs.declared.act.Act.{Act}
use Rattle.fut_flat.specs.declared.act.Act.TheVariants as act

-- whatever the parts are
abbrev pub is_plain : Act → Bool
is_plain (act.Project f) = false
is_plain (act.Declared t) = false
is_plain a = true
