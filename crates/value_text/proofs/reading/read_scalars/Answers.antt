use Rattle.std.proofs.lemmas.List.{drop_all, drop_more}
use Rattle.std.proofs.lemmas.List.Elements.{All-push}
use Rattle.fut_scalar.specs.Integers.{FitsType}
use Rattle.value_text.proofs.Values as laws
use Rattle.value_text.proofs.reading.read_scalars.Goals as goal

pub returns-in-Err-clause-refused : goal.returns-in-Err-clause-refused
returns-in-Err-clause-refused c = laws.explains c.args.types.now c.args.text.now c.in-Err.err (laws.refused c.args.types.now c.loop-param.param c.loop-param.values c.loop-param.position c.loop-param.rest.now _ _ _ _ _
    (drop_more _ _ _ c.loop-param-test.true) c.loop-param.invariant.same c.gap-blanks.ensures.value c.behind-front.ensures c.in-Err.ensures.value)

pub returns-then-blanks-rest-clause-refused : goal.returns-then-blanks-rest-clause-refused
returns-then-blanks-rest-clause-refused c = laws.extra c.args.types.now c.loop-param.param c.loop-param.position _ c.loop-param.values c.loop-param.rest.now _
    (drop_all _ _ c.loop-param-test.false) c.loop-param.invariant.same c.gap-blanks-2.ensures.value c.if-blanks-rest.true

pub loop-param-preserved : goal.loop-param-preserved
loop-param-preserved c = record {
  within = laws.count_step _ _ _ _ c.loop-param.rest.now c.behind-front.result.now _ c.loop-param.invariant.within c.gap-blanks.ensures.within c.in-Ok.ensures.within c.behind-front.ensures c.behind-rest.ensures;
  same = rw c.in_ok-push.ensures.ok (laws.followed c.args.types.now c.loop-param.param c.loop-param.values c.loop-param.position c.loop-param.rest.now _ _ _ _ _ _ _
      (drop_more _ _ _ c.loop-param-test.true) c.loop-param.invariant.same c.gap-blanks.ensures.value c.behind-front.ensures c.behind-rest.ensures c.in-Ok.ensures.value);
  typed = rw c.in_ok-push.ensures.ok (laws.one_type c.args.types.now c.loop-param.param _ c.loop-param.values _ c.loop-param-test.true c.loop-param.invariant.typed c.in-Ok.ensures.typed.0);
  fit = rw c.in_ok-push.ensures.ok (All-push FitsType c.loop-param.values _ c.loop-param.invariant.fit c.in-Ok.ensures.typed.1);
}
