use Rattle.std.proofs.Common.{Some, sym, ap, ◌∙◌}
use Rattle.unfold_measure.specs.Answers.{known_is}
use Rattle.unfold_measure.proofs.Making.{made_known}
use Rattle.unfold_measure.proofs.Mirror.{known_tuple}
use Rattle.unfold_measure.proofs.Parts.{tuple_data, tuple_holds}
use Rattle.unfold_measure.proofs.operations.tuple_of.Goals as goal

pub returns-then-all_data : goal.returns-then-all_data
returns-then-all_data c = known_is (ap Some (sym (tuple_data _ _ (sym c.if-all_data.true ∙ c.all_data.ensures) c.known_data.ensures)))

pub returns-else-all_data : goal.returns-else-all_data
returns-else-all_data c = made_known _ (λ s is. ap Some (sym (tuple_holds _ s (sym c.if-all_data.false ∙ c.all_data.ensures) (known_tuple s _ is)))) c.held.ensures.ok c.held.ensures.err
