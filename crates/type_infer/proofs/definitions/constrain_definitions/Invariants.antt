use Rattle.std.proofs.Common.{take}
use Rattle.type_infer.proofs.Rows.{Gone}
use Rattle.type_infer.proofs.definitions.constrain_definitions.Given as goal

abbrev pub invariant-loop-definition : goal.invariant-loop-definition
invariant-loop-definition l = Gone l.places l.base l.lo (take l.definition-index l.definitions) l.fn.inference l.inference
