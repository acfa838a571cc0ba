use Rattle.front.proofs.Entering.{has_entry, has_no_entry}
use Rattle.front.proofs.laws.entries_are_those_of_the_program.Goals as goal

pub returns-clause-somewhere : goal.returns-clause-somewhere
returns-clause-somewhere c = has_entry

pub returns-clause-nowhere : goal.returns-clause-nowhere
returns-clause-nowhere c = has_no_entry
