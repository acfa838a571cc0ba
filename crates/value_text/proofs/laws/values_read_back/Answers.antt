use Rattle.value_text.proofs.ReadBack.{lines_read_back, values_read_back}
use Rattle.value_text.proofs.laws.values_read_back.Goals as goal

pub returns-clause-one : goal.returns-clause-one
returns-clause-one c = values_read_back

pub returns-clause-all : goal.returns-clause-all
returns-clause-all c = lines_read_back
