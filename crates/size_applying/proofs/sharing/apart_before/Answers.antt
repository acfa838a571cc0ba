use Rattle.sized_types.specs.Sizes.{Fun}
use Rattle.size_applying.proofs.SharingForms.{next_apart, none_apart}
use Rattle.size_applying.proofs.sharing.apart_before.Goals as goal

pub returns-then-behind-eq0 : goal.returns-then-behind-eq0
returns-then-behind-eq0 c = λ k p r within apart. next_apart c.more_by_one.result c.args.behind.apart c.args.behind.frames k p r c.more_by_one.ensures c.if-behind-eq0.true within apart

pub returns-else-behind-eq0 : goal.returns-else-behind-eq0
returns-else-behind-eq0 c = λ k p r within apart. none_apart (Fun k p r)
