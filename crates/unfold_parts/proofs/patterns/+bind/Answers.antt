use Rattle.std.proofs.Common.{refl, arith}
use Rattle.fut_flat.specs.declared.pat.Pat.{roll-Pat}
use Rattle.fut_flat.specs.declared.pat.PatForm.TheVariants as pattern
use Rattle.unfold_parts.specs.Answers.{unanswered}
use Rattle.unfold_parts.proofs.Binding.{bound_name, bound_wild, bound_typed, bound_tuple, bound_record, tuple_refused, record_refused, inside_ok, all_bound_unequal, all_bound_err, all_lead_start, all_lead_on, all_lead_end, part_smaller, tuple_smaller, record_smaller, typed_smaller, given_patterns}
use Rattle.unfold_parts.proofs.Refusing.{only_memory}
use Rattle.unfold_parts.proofs.patterns.+bind.Goals as goal

pub bind_known-returns-in-Bound : goal.bind_known-returns-in-Bound
bind_known-returns-in-Bound t c = bound_name _ _ _ _ _ _ _ _ c.in-Bound.is c.named.ensures.ok c.named.ensures.err

pub bind_known-returns-in-Wild : goal.bind_known-returns-in-Wild
bind_known-returns-in-Wild t c = bound_wild _ _ _ _ _ _ _ c.in-Wild.is c.entered.ensures.ok c.entered.ensures.err

pub bind_known-returns-in-Typed : goal.bind_known-returns-in-Typed
bind_known-returns-in-Typed t c = bound_typed _ _ _ _ _ _ _ _ _ _ _ c.in-Typed.is c.bind_known.ensures

pub bind_known-returns-in-Ok : goal.bind_known-returns-in-Ok
bind_known-returns-in-Ok t c = bound_tuple _ _ _ _ _ _ _ _ _ _ _ _ _ c.in-Tuple.is c.in-Ok.ensures c.bind_inside.ensures

pub bind_known-returns-in-Err : goal.bind_known-returns-in-Err
bind_known-returns-in-Err t c = tuple_refused _ _ _ _ _ _ _ _ _ _ _ _ c.in-Tuple.is c.in-Err.ensures

pub bind_known-returns-in-Ok-record_given : goal.bind_known-returns-in-Ok-record_given
bind_known-returns-in-Ok-record_given t c = bound_record _ _ _ _ _ _ _ _ _ _ _ _ _ c.in-Record.is c.in-Ok-record_given.ensures c.bind_inside-in-Ok-record_given.ensures

pub bind_known-returns-in-Err-record_given : goal.bind_known-returns-in-Err-record_given
bind_known-returns-in-Err-record_given t c = record_refused _ _ _ _ _ _ _ _ _ _ _ _ c.in-Record.is c.in-Err-record_given.ensures

pub bind_inside-returns-in-Ok : goal.bind_inside-returns-in-Ok
bind_inside-returns-in-Ok t c = inside_ok _ _ _ _ _ _ _ _ _ _ _ c.in-Ok.ensures.ok c.bind_all.ensures

pub bind_inside-returns-in-Err : goal.bind_inside-returns-in-Err
bind_inside-returns-in-Err t c = unanswered (only_memory c.in-Err.ensures.err)

pub bind_all-returns-then-parts-given : goal.bind_all-returns-then-parts-given
bind_all-returns-then-parts-given t c = all_bound_unequal _ _ _ _ _ _ _ _ c.if-parts-given.true

pub bind_all-loop-part-init : goal.bind_all-loop-part-init
bind_all-loop-part-init t c = (refl, all_lead_start _ _ _ _ _ _)

pub bind_all-loop-part-preserved : goal.bind_all-loop-part-preserved
bind_all-loop-part-preserved t c = (omega (arith, c.loop-part.invariant.0), all_lead_on _ _ _ _ _ _ _ _ _ _ _ _ _ _ _ _ c.loop-part-test.true (omega (arith, c.loop-part.invariant.0, c.loop-part-test.true, c.if-parts-given.false)) c.loop-part.invariant.1 c.in-Ok.ensures)

pub bind_all-returns-in-Err : goal.bind_all-returns-in-Err
bind_all-returns-in-Err t c = all_bound_err _ _ _ _ _ _ _ _ _ _ _ _ _ _ _ _ _ _ c.loop-part.invariant.0 c.loop-part-test.true (omega (arith, c.loop-part.invariant.0, c.loop-part-test.true, c.if-parts-given.false)) c.in-Err.ensures

pub bind_all-returns : goal.bind_all-returns
bind_all-returns t c = all_lead_end _ _ _ _ _ _ _ _ _ _ _ (omega (arith, c.loop-part-test.false)) (omega (arith, c.loop-part.invariant.0, c.loop-part-test.false, c.if-parts-given.false)) c.loop-part.invariant.1

pub bind_all-bind_known-requires : goal.bind_all-bind_known-requires
bind_all-bind_known-requires t c = (omega (arith, c.decreases, part_smaller c.args.parts.now c.loop-part.part-index (roll-Pat record { place = record { file = 0; line = 0; column = 0 }; form = pattern.Bound record { 0 = 0 } }) c.loop-part-test.true), tt)

pub bind_inside-bind_all-requires : goal.bind_inside-bind_all-requires
bind_inside-bind_all-requires t c = (omega (arith, c.decreases), tt)

pub bind_known-bind_inside-requires : goal.bind_known-bind_inside-requires
bind_known-bind_inside-requires t c = (omega (arith, c.decreases, tuple_smaller c.args.pat.now _ c.in-Tuple.is), tt)

pub bind_known-bind_inside-requires-in-Ok-record_given : goal.bind_known-bind_inside-requires-in-Ok-record_given
bind_known-bind_inside-requires-in-Ok-record_given t c = (omega (arith, c.decreases, record_smaller c.args.pat.now _ _ c.in-Record.is (given_patterns _ _ _ _ _ _ _ _ c.in-Ok-record_given.ensures)), tt)

pub bind_known-bind_known-requires : goal.bind_known-bind_known-requires
bind_known-bind_known-requires t c = (omega (arith, c.decreases, typed_smaller c.args.pat.now c.in-Typed.inner _ c.in-Typed.is), tt)
