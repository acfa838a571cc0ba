use Rattle.std.proofs.Common.{Some, sym, ap, ◌∙◌}
use Rattle.fut_meaning.specs.Knowns.{known_part}
use Rattle.unfold_measure.specs.Answers.{known_is, not_known}
use Rattle.unfold_measure.proofs.Mirror.{known_data, known_tuple, known_record}
use Rattle.unfold_measure.proofs.Parts.{known_as_wanted, part_neither}
use Rattle.unfold_measure.proofs.operations.part_of.Goals as goal

pub returns-in-Data : goal.returns-in-Data
returns-in-Data c = known_is (ap (known_part c.args.name.now) (known_data _ c.in-Data.is) ∙ ap Some (sym (known_data _ c.in-Data.is)))

pub returns-in-Tuple : goal.returns-in-Tuple
returns-in-Tuple c = known_as_wanted (ap (known_part c.args.name.now) (known_tuple _ _ c.in-Tuple.is)) c.position_of.ensures

pub returns-in-Some : goal.returns-in-Some
returns-in-Some c = known_is (ap (known_part c.args.name.now) (known_record _ _ _ c.in-Record.is) ∙ sym c.in-Some.ensures)

pub returns-in-None : goal.returns-in-None
returns-in-None c = not_known (ap (known_part c.args.name.now) (known_record _ _ _ c.in-Record.is) ∙ sym c.in-None.ensures)

pub returns-in_default : goal.returns-in_default
returns-in_default c = part_neither _ _ c.in_default.not-Data c.in_default.not-Tuple c.in_default.not-Record
