use Rattle.std.proofs.Common.{◌≡◌, drop}
use Rattle.fut_sizes.specs.Agreeing.{left}
use Rattle.size_arena.proofs.scopes.left.Given as goal

abbrev pub invariant-loop-one : goal.invariant-loop-one
invariant-loop-one l = left l.node 0 l.names l.name ≡ left l.node l.number (drop l.one-index l.names) l.name
