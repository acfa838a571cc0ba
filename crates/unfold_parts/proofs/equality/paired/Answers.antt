use Rattle.unfold_parts.specs.Answers.{no_pair}
use Rattle.unfold_parts.proofs.Equating.{paired_tuples, paired_records}
use Rattle.unfold_parts.proofs.equality.paired.Goals as goal

pub returns-in-Tuple-form : goal.returns-in-Tuple-form
returns-in-Tuple-form c = paired_tuples _ _ _ _ _ c.in-Tuple.is c.in-Tuple-form.is c.tuples_paired.ensures

pub returns-in_default-form : goal.returns-in_default-form
returns-in_default-form c = no_pair

pub returns-in-Record-form : goal.returns-in-Record-form
returns-in-Record-form c = paired_records _ _ _ _ _ c.in-Record.is c.in-Record-form.is c.records_paired.ensures

pub returns-in_default-form-2 : goal.returns-in_default-form-2
returns-in_default-form-2 c = no_pair

pub returns-in_default : goal.returns-in_default
returns-in_default c = no_pair
