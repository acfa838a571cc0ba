use Rattle.std.proofs.Common.{arith}
use Rattle.unfold_parts.proofs.Operated.{project_ok, project_read, project_none, project_many}
use Rattle.unfold_parts.proofs.operations.project.Goals as goal

pub returns-then-parts-ne1 : goal.returns-then-parts-ne1
returns-then-parts-ne1 c = project_many _ _ _ _ _ _ _ _ c.if-parts-ne1.true

pub returns-in-Some : goal.returns-in-Some
returns-in-Some c = project_read _ _ _ _ _ _ _ _ _ _ _ (omega (arith, c.if-parts-ne1.false)) c.in-Some.ensures c.part_read.ensures

pub returns-in-Some-part : goal.returns-in-Some-part
returns-in-Some-part c = project_ok _ _ _ _ _ _ _ _ (omega (arith, c.if-parts-ne1.false)) c.in-Some-part.ensures

pub returns-in-None-part : goal.returns-in-None-part
returns-in-None-part c = project_none _ _ _ _ _ _ _ _ _ _ (omega (arith, c.if-parts-ne1.false)) c.in-None.ensures c.in-None-part.ensures
