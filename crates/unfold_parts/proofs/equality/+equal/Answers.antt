use Rattle.std.proofs.Common.{refl, sym, subst, arith}
use Rattle.unfold.specs.Held.{known_of}
use Rattle.unfold_parts.specs.Answers.{unanswered}
use Rattle.unfold_parts.specs.Refused.{no_memory}
use Rattle.unfold_parts.specs.States.{steps_of}
use Rattle.unfold_parts.proofs.Equating.{So_far, compared_start, compared_on, parts_end, parts_many, parts_err, pairs_equal, unpaired, whole_is}
use Rattle.unfold_parts.proofs.equality.+equal.Goals as goal

pub equal-returns-then-deep-ge-MOST_DEEP : goal.equal-returns-then-deep-ge-MOST_DEEP
equal-returns-then-deep-ge-MOST_DEEP t c = unanswered no_memory

pub equal-returns-then-room-eq0 : goal.equal-returns-then-room-eq0
equal-returns-then-room-eq0 t c = unanswered no_memory

pub equal-returns-in-Err : goal.equal-returns-in-Err
equal-returns-in-Err t c = unpaired _ _ _ _ _ _ _ _ c.in-Err.ensures

pub equal_all-loop-left-init : goal.equal_all-loop-left-init
equal_all-loop-left-init t c = (refl, subst (So_far known_of c.args.place c.args.lefts.now c.args.rights.now c.args.work.now.next 0 0 c.args.work.now.next (steps_of c.args.work.now) (steps_of c.args.work.now)) (sym c.new-truths.ensures.items) (compared_start known_of _ _ _ _ _))

pub equal_all-loop-left-preserved : goal.equal_all-loop-left-preserved
equal_all-loop-left-preserved t c = (omega (arith, c.loop-left.invariant.0), compared_on known_of _ _ _ _ _ _ _ _ _ _ _ _ _ _ _ _ c.loop-left-test.true (omega (arith, c.loop-left.invariant.0, c.loop-left-test.true, c.if-lefts-rights.false)) c.loop-left.invariant.1 c.in-Ok.ensures c.in-Ok-push.ensures.items)

pub equal_all-returns-in-Err-push : goal.equal_all-returns-in-Err-push
equal_all-returns-in-Err-push t c = unanswered no_memory

pub equal_all-returns-then-lefts-rights : goal.equal_all-returns-then-lefts-rights
equal_all-returns-then-lefts-rights t c = parts_many _ _ _ _ _ _ _ c.if-lefts-rights.true

pub equal_all-returns-in-Err : goal.equal_all-returns-in-Err
equal_all-returns-in-Err t c = parts_err _ _ _ _ _ _ _ _ _ _ _ _ _ _ _ _ c.loop-left.invariant.0 c.loop-left-test.true (omega (arith, c.loop-left.invariant.0, c.loop-left-test.true, c.if-lefts-rights.false)) c.in-Err.ensures

pub equal_all-returns : goal.equal_all-returns
equal_all-returns t c = parts_end _ _ _ _ _ _ _ _ _ _ _ _ c.into_bump_slice.result _ (omega (arith, c.loop-left-test.false)) (omega (arith, c.loop-left.invariant.0, c.loop-left-test.false, c.if-lefts-rights.false)) c.loop-left.invariant.1 c.into_bump_slice.ensures c.all_hold.ensures

pub equal-returns-in-Ok-Some : goal.equal-returns-in-Ok-Some
equal-returns-in-Ok-Some t c = pairs_equal _ _ _ _ _ _ _ _ _ _ c.in-Ok-Some.ensures c.in-Ok-Some.field-0-is c.equal_all.ensures

pub equal-returns-in-Ok-None : goal.equal-returns-in-Ok-None
equal-returns-in-Ok-None t c = whole_is _ _ _ _ _ _ _ _ c.equal_whole.ensures
