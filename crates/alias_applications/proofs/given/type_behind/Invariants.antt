use Rattle.std.proofs.Common.{◌≡◌, drop}
use Rattle.fut_aliases.specs.Calls.{type_behind}
use Rattle.alias_values.specs.Trees.{type_of}
use Rattle.uniqueness.specs.Held.{helds_of}
use Rattle.alias_applications.proofs.given.type_behind.Given as goal

abbrev pub invariant-loop-i : goal.invariant-loop-i
invariant-loop-i l = type_behind (helds_of l.arguments) (type_of l.ty) ≡ type_behind (helds_of (drop l._i l.arguments)) (type_of l.rest)
