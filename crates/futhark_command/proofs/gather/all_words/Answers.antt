use Rattle.std.proofs.Common.{◌∙◌}
use Rattle.futhark_command.proofs.GatheredLaws.{all_gathered, no_bad, one_more, one_text, first_bad}
use Rattle.futhark_command.proofs.gather.all_words.Goals as goal

pub returns-in_default-clause-given : goal.returns-in_default-clause-given
returns-in_default-clause-given g c =
    let none = rw c.in_default.is at c.in_ok-word.ensures in
    all_gathered _ _ _ c.loop-index.invariant.given none

pub returns-in_default-clause-texts : goal.returns-in_default-clause-texts
returns-in_default-clause-texts g c = no_bad _ _ c.loop-index.invariant.texts

pub returns-in_default-from_utf8-clause-refused : goal.returns-in_default-from_utf8-clause-refused
returns-in_default-from_utf8-clause-refused g c =
    let next = rw c.in-Some.is at c.in_ok-word.ensures in
    let bad = rw c.as_slice.ensures at c.in_default-from_utf8.ensures.cases in
    first_bad _ _ _ _ c.loop-index.invariant.given c.loop-index.invariant.texts next bad.0

pub loop-index-preserved : goal.loop-index-preserved
loop-index-preserved g c =
    let next = rw c.in-Some.is at c.in_ok-word.ensures in
    let good = rw c.as_slice.ensures at c.in-Ok.ensures.cases in
    let name = c.in_ok-new.ensures ∙ good.0 in
    rw (c.in_ok-push.ensures.ok, name) (record {
      given = one_more _ _ _ _ c.loop-index.invariant.given next;
      texts = one_text _ _ _ c.loop-index.invariant.texts good.1;
    })
