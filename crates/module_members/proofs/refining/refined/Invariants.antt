-- So many types were given.
use Rattle.std.proofs.Common.{drop}
use Rattle.elab_scopes.specs.Held.{module_ref_of}
use Rattle.module_state.specs.Standing.{here_of}
use Rattle.module_members.proofs.Loops.{So_far}
use Rattle.module_members.proofs.RefinedLaws.{refined_left}
use Rattle.module_members.proofs.refining.refined.Given as goal

abbrev pub invariant-loop-with : goal.invariant-loop-with
invariant-loop-with l = So_far (refined_left (here_of l.fn.here) l.fn.withs (module_ref_of l.fn.of)) (refined_left (here_of l.fn.here) (drop l.with-index l.fn.withs) (module_ref_of l.module)) l.fn.state l.state
