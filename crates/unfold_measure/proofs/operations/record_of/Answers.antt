use Rattle.std.proofs.Common.{ap}
use Rattle.fut_meaning.specs.Knowns.{some_record}
use Rattle.unfold_measure.specs.Answers.{not_known}
use Rattle.unfold_measure.proofs.Fielding.{fields_made}
use Rattle.unfold_measure.proofs.Parts.{unequal_record, known_as_wanted}
use Rattle.unfold_measure.proofs.operations.record_of.Goals as goal

pub returns-then-names-parts : goal.returns-then-names-parts
returns-then-names-parts c = known_as_wanted (ap some_record (fields_made _ _ c.if-names-parts.true)) c.known_record.ensures

pub returns-else-names-parts : goal.returns-else-names-parts
returns-else-names-parts c = not_known (unequal_record _ _ c.if-names-parts.false)
