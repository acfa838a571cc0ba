use Rattle.std.proofs.Common.{Some, sym, ap, ◌∙◌}
use Rattle.fut_flat.specs.Erased.{texts}
use Rattle.unfold_measure.specs.Answers.{known_is}
use Rattle.unfold_measure.proofs.Making.{made_known}
use Rattle.unfold_measure.proofs.Mirror.{known_record}
use Rattle.unfold_measure.proofs.Fielding.{record_data, record_holds}
use Rattle.unfold_measure.proofs.records.known_record.Goals as goal

pub returns-then-all_data : goal.returns-then-all_data
returns-then-all_data c = known_is (ap Some (sym (record_data (texts c.args.names.now) _ _ (sym c.if-all_data.true ∙ c.all_data.ensures) c.known_data.ensures)))

pub returns-else-all_data : goal.returns-else-all_data
returns-else-all_data c = made_known _ (λ s is. ap Some (sym (record_holds (texts c.args.names.now) _ s (sym c.if-all_data.false ∙ c.all_data.ensures) (known_record s _ _ is)))) c.held.ensures.ok c.held.ensures.err
