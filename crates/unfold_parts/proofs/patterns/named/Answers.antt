use Rattle.std.proofs.Common.{refl}
use Rattle.unfold_parts.proofs.Binding.{named_ok}
use Rattle.unfold_parts.proofs.patterns.named.Goals as goal

pub returns-in-Ok-bound-clause-ok : goal.returns-in-Ok-bound-clause-ok
returns-in-Ok-bound-clause-ok c = named_ok _ _ _ _ _ _ _ c.in-Ok.ensures.ok c.in-Ok-bound.ensures.ok refl refl
