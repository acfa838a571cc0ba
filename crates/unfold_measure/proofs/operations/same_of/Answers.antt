use Rattle.unfold_measure.proofs.Making.{same_known}
use Rattle.unfold_measure.proofs.Parts.{only_part, many_parts, known_as_wanted}
use Rattle.unfold_measure.proofs.operations.same_of.Goals as goal

pub returns-then-parts-eq1 : goal.returns-then-parts-eq1
returns-then-parts-eq1 c = same_known c.index-parts-0.is (only_part _ _ c.if-parts-eq1.true)

pub returns-else-parts-eq1 : goal.returns-else-parts-eq1
returns-else-parts-eq1 c = known_as_wanted (many_parts _ c.if-parts-eq1.false) c.data_of.ensures
