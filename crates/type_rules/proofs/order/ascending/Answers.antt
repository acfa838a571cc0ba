use Rattle.std.proofs.Common.{subst, sym}
use Rattle.type_rules.proofs.Taken.{taken, not_taken}
use Rattle.type_rules.proofs.Ordering.{Rises, all_found, none_found, rising_all}
use Rattle.type_rules.proofs.order.ascending.Goals as goal

pub returns-then-rises-clause-rising : goal.returns-then-rises-clause-rising
returns-then-rises-clause-rising c = rising_all c.in-Ok.list (subst Rises c.as_slice.ensures (taken c.rises.result c.rises.ensures c.if-rises.true))

pub returns-then-rises-clause-found : goal.returns-then-rises-clause-found
returns-then-rises-clause-found c = all_found c.args.row.now c.in-Ok.list c.in-Ok.ensures.moved (subst Rises c.as_slice.ensures (taken c.rises.result c.rises.ensures c.if-rises.true))

pub returns-else-rises-clause-found : goal.returns-else-rises-clause-found
returns-else-rises-clause-found c = none_found c.args.row.now c.in-Ok.list c.in-Ok.ensures.moved c.in-Ok.ensures.rises (λ r. not_taken c.rises.result c.rises.ensures c.if-rises.false (subst Rises (sym c.as_slice.ensures) r))
