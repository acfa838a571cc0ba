use Rattle.module_definitions.proofs.Values.{same_went}
use Rattle.module_definitions.proofs.written.same_value.Goals as goal

pub returns : goal.returns
returns c = same_went _ _ _ _ _ _ _ _ _ c.inner_path.ensures c.type_value-value.ensures c.path_type-inner.ensures c.ascribed.ensures
