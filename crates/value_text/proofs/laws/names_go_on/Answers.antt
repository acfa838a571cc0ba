use Rattle.value_text.proofs.Names.{names_go_on, nothing_else_goes_on}
use Rattle.value_text.proofs.laws.names_go_on.Goals as goal

pub returns-clause-all : goal.returns-clause-all
returns-clause-all c = names_go_on

pub returns-clause-only : goal.returns-clause-only
returns-clause-only c = nothing_else_goes_on
