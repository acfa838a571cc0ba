use Rattle.module_definitions.proofs.Values.{type_valued}
use Rattle.module_definitions.proofs.written.path_value.Goals as goal

pub returns : goal.returns
returns c = type_valued _ _ _ _ _ _ c.path_type.ensures c.type_node.ensures
