use Rattle.value_text.proofs.Sound.{only_texts_are_read}
use Rattle.value_text.proofs.Texts.{texts_are_read}
use Rattle.value_text.proofs.laws.texts_are_read.Goals as goal

pub returns-clause-all : goal.returns-clause-all
returns-clause-all c = texts_are_read

pub returns-clause-only : goal.returns-clause-only
returns-clause-only c = only_texts_are_read
