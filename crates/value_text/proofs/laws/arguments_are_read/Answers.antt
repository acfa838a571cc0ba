use Rattle.value_text.proofs.OnlyValues.{only_arguments_are_read}
use Rattle.value_text.proofs.Spelt.{arguments_are_read}
use Rattle.value_text.proofs.laws.arguments_are_read.Goals as goal

pub returns-clause-all : goal.returns-clause-all
returns-clause-all c = arguments_are_read

pub returns-clause-only : goal.returns-clause-only
returns-clause-only c = only_arguments_are_read
