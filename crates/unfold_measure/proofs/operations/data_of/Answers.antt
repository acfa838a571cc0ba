use Rattle.std.proofs.Common.{sym, ◌∙◌}
use Rattle.unfold_measure.proofs.Parts.{all_are, not_all}
use Rattle.unfold_measure.proofs.operations.data_of.Goals as goal

pub returns-then-all_data : goal.returns-then-all_data
returns-then-all_data c = all_are _ _ (sym c.if-all_data.true ∙ c.all_data.ensures) c.known_data.ensures

pub returns-else-all_data : goal.returns-else-all_data
returns-else-all_data c = not_all _ (sym c.if-all_data.false ∙ c.all_data.ensures)
