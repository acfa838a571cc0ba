-- So many types were declared.
use Rattle.std.proofs.Common.{map, drop}
use Rattle.module_state.specs.Standing.{given_of, here_of}
use Rattle.module_members.proofs.Loops.{So_far}
use Rattle.module_members.proofs.RefinedLaws.{newest_before, types_left}
use Rattle.module_members.proofs.refining.with_types.Given as goal

abbrev pub invariant-loop-with : goal.invariant-loop-with
invariant-loop-with l = So_far (types_left (here_of l.fn.here) l.fn.withs (map given_of l.fn.older)) (types_left (here_of l.fn.here) (drop l.with-index l.fn.withs) (newest_before (map given_of l.fn.older) l.made.items)) l.fn.state l.state
