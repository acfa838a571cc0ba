use Rattle.fut_aliases.specs.Values.{nth}
use Rattle.alias_joins.specs.SetRows.{sets_of}
use Rattle.alias_joins.proofs.UniteForms.{with_more}
use Rattle.alias_joins.proofs.uniting.+with_sets.Goals as goal

pub all_with_sets-loop-value-preserved : goal.all_with_sets-loop-value-preserved
all_with_sets-loop-value-preserved t c =
    with_more (λ i s. nth (sets_of c.args.sets.now) i) c.args.first c.args.values.now c.loop-value.value-index c.loop-value.next c.loop-value.made.items c.loop-value.invariant c.value-item.result c.in_ok-one.one.now c.in_ok-next.next c.push.new.self.items c.loop-value-test.true
    (rw (← c.value-item.is) c.in_ok-one.ensures) (rw (← c.value-item.is) c.in_ok-next.ensures) c.in_ok-push.ensures.items
