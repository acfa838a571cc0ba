use Rattle.module_definitions.proofs.Values.{sealed_went}
use Rattle.module_definitions.proofs.written.sealed_value.Goals as goal

pub returns : goal.returns
returns c = sealed_went _ _ _ _ _ _ _ _ _ c.inner_path.ensures c.resolved_type-ty.ensures.went c.used-inner.ensures c.declared.ensures
