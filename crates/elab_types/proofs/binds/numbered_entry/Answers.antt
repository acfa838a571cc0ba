use Rattle.elab_types.specs.Numbering.{no_number}
use Rattle.elab_types.proofs.binds.numbered_entry.Goals as goal

pub returns-in-Err-push-clause-numbers : goal.returns-in-Err-push-clause-numbers
returns-in-Err-push-clause-numbers c = no_number
