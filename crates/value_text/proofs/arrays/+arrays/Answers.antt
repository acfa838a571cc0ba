use Rattle.std.proofs.Common.{◌≡◌, arith, drop, sym, ap, ◌∙◌}
use Rattle.value_text.specs.Gaps.{begins_with}
use Rattle.value_text.proofs.Rows as rows
use Rattle.value_text.proofs.arrays.+arrays.Goals as goal

pub read_at-returns-then-not-begins_with-clause-refused : goal.read_at-returns-then-not-begins_with-clause-refused
read_at-returns-then-not-begins_with-clause-refused t c =
    rows.if_refused c.read_other.result _ _ (rows.at_other c.args.ty c.args.rank c.args.position c.args.text.now (omega (arith, c.if-rank-eq0.false)) (sym c.begins_with.ensures ∙ c.if-not-begins_with.true)) c.read_other.ensures.refused

pub read_at-returns-then-begins_with-clause-refused : goal.read_at-returns-then-begins_with-clause-refused
read_at-returns-then-begins_with-clause-refused t c =
    let inner = c.behind-inner.result.now in
    let mark : begins_with 93 (drop c.gap.result inner) ≡ c.begins_with-2.result = sym (ap (begins_with 93) c.behind.ensures) ∙ sym c.begins_with-2.ensures in
    rows.if_refused c.read_no_rows.result _ _ (rows.at_none c.args.ty c.args.rank c.args.position c.args.text.now inner (omega (arith, c.if-rank-eq0.false)) (sym c.begins_with.ensures ∙ c.if-not-begins_with.false) c.behind-inner.ensures
    (sym (ap (λ g. begins_with 93 (drop g inner)) c.gap.ensures.value) ∙ mark ∙ c.if-begins_with.true)) c.read_no_rows.ensures.refused

pub read_at-returns-clause-gives : goal.read_at-returns-clause-gives
read_at-returns-clause-gives t c =
    let inner = c.behind-inner.result.now in
    let mark : begins_with 93 (drop c.gap.result inner) ≡ c.begins_with-2.result = sym (ap (begins_with 93) c.behind.ensures) ∙ sym c.begins_with-2.ensures in
    rows.if_gives c.read_rows.result _ _ _ _ _ _ (rows.at_rows c.args.ty c.args.rank c.args.position c.args.text.now inner (omega (arith, c.if-rank-eq0.false)) (sym c.begins_with.ensures ∙ c.if-not-begins_with.false) c.behind-inner.ensures
    (sym (ap (λ g. begins_with 93 (drop g inner)) c.gap.ensures.value) ∙ mark ∙ c.if-begins_with.false)) c.read_rows.ensures.gives

pub read_at-returns-clause-refused : goal.read_at-returns-clause-refused
read_at-returns-clause-refused t c =
    let inner = c.behind-inner.result.now in
    let mark : begins_with 93 (drop c.gap.result inner) ≡ c.begins_with-2.result = sym (ap (begins_with 93) c.behind.ensures) ∙ sym c.begins_with-2.ensures in
    rows.if_refused c.read_rows.result _ _ (rows.at_rows c.args.ty c.args.rank c.args.position c.args.text.now inner (omega (arith, c.if-rank-eq0.false)) (sym c.begins_with.ensures ∙ c.if-not-begins_with.false) c.behind-inner.ensures
    (sym (ap (λ g. begins_with 93 (drop g inner)) c.gap.ensures.value) ∙ mark ∙ c.if-begins_with.false)) c.read_rows.ensures.refused

pub read_rows-returns-in-Err-clause-refused : goal.read_rows-returns-in-Err-clause-refused
read_rows-returns-in-Err-clause-refused t c =
    rows.one_refused _ _ _ _ _ _ _ _ _ _ c.loop-turn.invariant.going c.loop-turn-test.true _ _ c.gap-blanks.ensures.value c.behind-front.ensures _ c.in-Err.ensures.refused

pub read_rows-returns-then-begins_with-clause-gives : goal.read_rows-returns-then-begins_with-clause-gives
read_rows-returns-then-begins_with-clause-gives t c =
    let stepped = rows.one_more _ _ _ _ _ _ _ _ _ _ c.loop-turn.invariant.going c.loop-turn-test.true _ _ c.gap-blanks.ensures.value c.behind-front.ensures _ _ _ _ _ _ c.in-Ok.ensures.gives c.behind-tail.ensures c.gap-more.ensures.value c.behind-mark.ensures in
    let pushed = c.in_ok-push.ensures.ok in
    let appended = c.in_ok-append.ensures in
    let first = c.as_slice.ensures in
    let kept = c.loop-turn.invariant.kept in
    rows.closed _ _ _ _ _ _ _ _ _ _ stepped _ _ (sym c.begins_with.ensures ∙ c.if-begins_with.true) cc

pub read_rows-returns-then-not-begins_with-clause-refused : goal.read_rows-returns-then-not-begins_with-clause-refused
read_rows-returns-then-not-begins_with-clause-refused t c =
    let stepped = rows.one_more _ _ _ _ _ _ _ _ _ _ c.loop-turn.invariant.going c.loop-turn-test.true _ _ c.gap-blanks.ensures.value c.behind-front.ensures _ _ _ _ _ _ c.in-Ok.ensures.gives c.behind-tail.ensures c.gap-more.ensures.value c.behind-mark.ensures in
    rows.bad_mark _ _ _ _ _ _ _ _ _ _ stepped (sym c.begins_with.ensures ∙ c.if-begins_with.false) (sym c.begins_with-in-loop-turn.ensures ∙ c.if-not-begins_with.true)

pub read_rows-loop-turn-preserved : goal.read_rows-loop-turn-preserved
read_rows-loop-turn-preserved t c =
    let stepped = rows.one_more _ _ _ _ _ _ _ _ _ _ c.loop-turn.invariant.going c.loop-turn-test.true _ _ c.gap-blanks.ensures.value c.behind-front.ensures _ _ _ _ _ _ c.in-Ok.ensures.gives c.behind-tail.ensures c.gap-more.ensures.value c.behind-mark.ensures in
    let comma = sym c.begins_with-in-loop-turn.ensures ∙ c.if-not-begins_with.false in
    record {
      within = rows.row_within _ _ _ _ _ _ _ _ _ _ c.loop-turn.invariant.within c.gap-blanks.ensures.within c.behind-front.ensures c.in-Ok.ensures.within c.behind-tail.ensures c.gap-more.ensures.within c.behind-mark.ensures comma c.behind-rest.ensures;
      none = λ e. absurd (omega (arith, e));
      kept = c.loop-turn.invariant.kept;
      going = rows.goes_on _ _ _ _ _ _ _ _ _ _ stepped (sym c.begins_with.ensures ∙ c.if-begins_with.false) _ comma c.behind-rest.ensures;
    }
