use Rattle.std.proofs.Common.{sym, ap}
use Rattle.unfold_measure.specs.Patterns.{has_fields}
use Rattle.unfold_measure.proofs.Mirror.{known_data, known_record}
use Rattle.unfold_measure.proofs.Binding.{neither_fields}
use Rattle.unfold_measure.proofs.patterns.has_fields.Goals as goal

pub returns-in-Data : goal.returns-in-Data
returns-in-Data c = sym (ap has_fields (known_data _ c.in-Data.is))

pub returns-in-Record : goal.returns-in-Record
returns-in-Record c = sym (ap has_fields (known_record _ _ _ c.in-Record.is))

pub returns-in_default : goal.returns-in_default
returns-in_default c = sym (neither_fields _ c.in_default.not-Data c.in_default.not-Record)
