use Rattle.module_definitions.proofs.Values.{path_valued}
use Rattle.module_definitions.proofs.written.hidden_value.Goals as goal

pub returns : goal.returns
returns c = path_valued _ _ _ _ _ _ c.inner_path.ensures c.path_value.ensures
