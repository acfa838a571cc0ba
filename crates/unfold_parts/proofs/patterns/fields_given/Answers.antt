use Rattle.unfold_parts.proofs.Binding.{fields_given_record, fields_given_component, record_other}
use Rattle.unfold_parts.proofs.Forms.{form_no_record, form_no_scalar}
use Rattle.unfold_parts.proofs.patterns.fields_given.Goals as goal

pub returns-in-Record : goal.returns-in-Record
returns-in-Record c = fields_given_record _ _ _ _ _ _ _ c.in-Record.is c.fields_known.ensures

pub returns-in-Scalar : goal.returns-in-Scalar
returns-in-Scalar c = fields_given_component _ _ _ _ _ _ _ _ c.in-Scalar.is c.fields_read.ensures

pub returns-in_default : goal.returns-in_default
returns-in_default c = record_other _ _ _ _ _ _ _ (form_no_record _ c.in_default.not-Record) (form_no_scalar _ c.in_default.not-Scalar)
