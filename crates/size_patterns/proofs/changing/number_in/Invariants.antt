use Rattle.std.proofs.Common.{◌≡◌, drop}
use Rattle.fut_sizes.specs.Scopes.{number_in}
use Rattle.size_patterns.proofs.changing.number_in.Given as goal

abbrev pub invariant-loop-one : goal.invariant-loop-one
invariant-loop-one l = number_in 0 l.sizes l.name ≡ number_in l.number (drop l.one-index l.sizes) l.name
