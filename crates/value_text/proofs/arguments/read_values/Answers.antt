use Rattle.std.proofs.lemmas.List.{drop_all}
use Rattle.std.proofs.Common.{refl}
use Rattle.value_text.proofs.Agreed.{next_is}
use Rattle.value_text.proofs.ArgumentValues as laws
use Rattle.value_text.proofs.Values.{count_step}
use Rattle.value_text.proofs.arguments.read_values.Goals as goal

pub returns-in-Err-clause-refused : goal.returns-in-Err-clause-refused
returns-in-Err-clause-refused c =
    laws.refused c.args.types.now c.loop-at.at c.loop-at.values c.loop-at.position c.loop-at.rest.now _ _ _ _ (next_is _ _ _ _ c.loop-at-test.true c.index-types-at.is) c.loop-at.invariant.same c.gap-blanks.ensures.value c.behind-front.ensures _ c.in-Err.ensures.refused

pub returns-then-blanks-rest-clause-refused : goal.returns-then-blanks-rest-clause-refused
returns-then-blanks-rest-clause-refused c =
    laws.extra c.args.types.now c.loop-at.at c.loop-at.position _ c.loop-at.values c.loop-at.rest.now _ (drop_all _ _ c.loop-at-test.false) c.loop-at.invariant.same c.gap-blanks-2.ensures.value _ c.if-blanks-rest.true refl

pub returns-clause-reads : goal.returns-clause-reads
returns-clause-reads c =
    laws.all_read c.args.types.now c.loop-at.at c.loop-at.position _ c.loop-at.values c.loop-at.rest.now _ (drop_all _ _ c.loop-at-test.false) c.loop-at.invariant.same c.gap-blanks-2.ensures.value c.if-blanks-rest.false

pub loop-at-preserved : goal.loop-at-preserved
loop-at-preserved c = record {
  within = count_step _ _ _ _ c.loop-at.rest.now c.behind-front.result.now _ c.loop-at.invariant.within c.gap-blanks.ensures.within c.in-Ok.ensures.within c.behind-front.ensures c.behind-rest.ensures;
  same = rw c.in_ok-push.ensures.ok (laws.followed c.args.types.now c.loop-at.at c.loop-at.values c.loop-at.position c.loop-at.rest.now _ _ _ _ (next_is _ _ _ _ c.loop-at-test.true c.index-types-at.is) c.loop-at.invariant.same c.gap-blanks.ensures.value c.behind-front.ensures
      _ _ _ c.behind-rest.ensures c.in-Ok.ensures.value);
}
