use Rattle.std.proofs.Common.{refl}
use Rattle.size_applying.proofs.GoingForms.{push_chained}
use Rattle.size_applying.proofs.going.use_later.Goals as goal

pub returns-else-not-is_use-clause-chained : goal.returns-else-not-is_use-clause-chained
returns-else-not-is_use-clause-chained c = push_chained c.args.later.now _ _ c.push.result c.push.ensures.ok refl
