use Rattle.std.proofs.Common.{rules, refl}
use Rattle.unfold_parts.proofs.Naming.{scalar_named}
use Rattle.unfold_parts.proofs.fresh.rename_scalar.Goals as goal

pub returns-in-Some-clause-ok : goal.returns-in-Some-clause-ok
returns-in-Some-clause-ok c = scalar_named _ _ _ refl (search rules)
