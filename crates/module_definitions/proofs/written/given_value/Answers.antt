use Rattle.module_definitions.proofs.Values.{path_valued, same_went}
use Rattle.module_definitions.proofs.written.given_value.Goals as goal

pub returns : goal.returns
returns c = same_went _ _ _ _ _ _ _ _ _ c.inner_path.ensures (path_valued _ _ _ _ _ _ c.given_path.ensures c.path_value-value.ensures) c.path_type-inner.ensures c.ascribed.ensures
