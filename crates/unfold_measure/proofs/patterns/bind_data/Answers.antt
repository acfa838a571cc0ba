use Rattle.unfold_measure.proofs.Binding.{data_made, data_memory}
use Rattle.unfold_measure.proofs.patterns.bind_data.Goals as goal

pub returns-clause-ok : goal.returns-clause-ok
returns-clause-ok c = data_made _ _ _ c.known_data.ensures c.bind.ensures

pub returns-clause-err : goal.returns-clause-err
returns-clause-err c = data_memory _ _ _ c.known_data.ensures c.bind.ensures
