use Rattle.std.proofs.Common.{take}
use Rattle.type_scopes.proofs.Meeting.{So_far}
use Rattle.type_scopes.proofs.parameters.enter_parameters.Given as goal

abbrev pub invariant-loop-head : goal.invariant-loop-head
invariant-loop-head l = So_far l.places l.base l.depth (take l.head-index l.heads) l.fn.own l.own l.fn.inference l.inference
