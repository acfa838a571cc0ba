use Rattle.std.proofs.Common.{take}
use Rattle.type_graph.specs.Graph.{Each}
use Rattle.type_scopes.proofs.Fixing.{Deep_one}
use Rattle.type_scopes.proofs.ending.escapes.Given as goal

abbrev pub invariant-loop-parameter : goal.invariant-loop-parameter
invariant-loop-parameter l = Each (Deep_one l.depth l.inference) (take l.parameter-index l.own)
