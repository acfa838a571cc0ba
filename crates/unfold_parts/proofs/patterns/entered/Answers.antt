use Rattle.std.proofs.Common.{refl}
use Rattle.unfold_parts.proofs.Binding.{entered_ok}
use Rattle.unfold_parts.proofs.patterns.entered.Goals as goal

pub returns-in-Ok-after-clause-ok : goal.returns-in-Ok-after-clause-ok
returns-in-Ok-after-clause-ok c = entered_ok _ _ _ _ _ c.in-Ok.ensures refl c.in-Ok-after.ensures
