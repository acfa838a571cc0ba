use Rattle.size_arena.specs.Trees.{size_of}
use Rattle.size_walk.proofs.LeavingForms.{So_left}
use Rattle.size_walk.proofs.lambdas.leave_parts.Given as goal

abbrev pub invariant-loop-parameter : goal.invariant-loop-parameter
invariant-loop-parameter l = So_left l.node l.names (size_of l.body) l.parameters l.parameter-index
