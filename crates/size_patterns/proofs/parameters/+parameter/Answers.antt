use Rattle.std.proofs.Common.{◌∙◌, ap}
use Rattle.size_arena.specs.Trees.{size_of, sizes_of}
use Rattle.size_patterns.proofs.Results.{if_ok}
use Rattle.size_patterns.proofs.ParameterForms.{name_enters, none_enters, record_enters, no_parts_enter, parts_enter, typed_enters, one_entered, one_kept, all_entered}
use Rattle.size_patterns.proofs.parameters.+parameter.Goals as goal
use Rattle.size_patterns.proofs.parameters.+parameter.Goals.{in_patterns-then-i-parts+in_ok-part+in_ok-push, in_patterns-else-i-parts+in_ok-push-2}
use Rattle.std.proofs.Common.{refl}

pub in_pattern-returns-in-Bound : goal.in_pattern-returns-in-Bound
in_pattern-returns-in-Bound t c = λ N types k. name_enters N types c.args.pat.now (size_of c.args.size.now) (size_of c.args.size.now) c.in-Bound.field-0 c.in-Bound.is refl

pub in_pattern-returns-in-Wild : goal.in_pattern-returns-in-Wild
in_pattern-returns-in-Wild t c = λ N types k. none_enters N types c.args.pat.now (size_of c.args.size.now) (size_of c.args.size.now) c.in-Wild.is refl

pub in_pattern-returns-in-Record : goal.in_pattern-returns-in-Record
in_pattern-returns-in-Record t c = λ N types k. record_enters N types c.args.pat.now (size_of c.args.size.now) (size_of c.args.size.now) c.in-Record.field-0 c.in-Record.is refl

pub in_pattern-returns-in_ok-made-in-Some : goal.in_pattern-returns-in_ok-made-in-Some
in_pattern-returns-in_ok-made-in-Some t c = λ N types k. if_ok c.built.result (λ m h. parts_enter N types c.args.pat.now (size_of c.args.size.now) (size_of m.now) c.in-Tuple.parts c.in-Some.row (sizes_of c.in_ok-made-in-Some.made.now) c.in-Tuple.is c.in-Some.ensures (c.in_ok-made-in-Some.ensures N types k) h) c.built.ensures

pub in_pattern-returns-in-None : goal.in_pattern-returns-in-None
in_pattern-returns-in-None t c = λ N types k. no_parts_enter N types c.args.pat.now (size_of c.args.size.now) (size_of c.args.size.now) c.in-Tuple.parts c.in-Tuple.is c.in-None.ensures refl

pub in_pattern-returns-in_ok-same-in-Typed : goal.in_pattern-returns-in_ok-same-in-Typed
in_pattern-returns-in_ok-same-in-Typed t c = λ N types k. if_ok c.in_pattern.result (λ m h. typed_enters N types c.args.pat.now (size_of c.args.size.now) (size_of m.now) c.in-Typed.inner c.in-Typed.written (size_of c.in_ok-same-in-Typed.same.now) c.in-Typed.is (c.in_ok-same-in-Typed.ensures N k) h) (c.in_pattern.ensures N types k)

pub in_patterns-loop-i-preserved : goal.in_patterns-loop-i-preserved
in_patterns-loop-i-preserved t c = λ N types k. elim c.if-i-parts.branch [
  | in_patterns-then-i-parts+in_ok-part+in_ok-push w ↦ one_entered N types c.args.parts.now c.args.row.now c.loop-i.i c.loop-i.made.items (c.loop-i.invariant N types k) _ w.index-row-i.result w.in_ok-part.part.now _ w.if-i-parts.true c.loop-i-test.true w.index-row-i.is (w.in_ok-part.ensures N types k) (ap (λ z. z.items) w.made-is ∙ w.in_ok-push.ensures.items)
  | in_patterns-else-i-parts+in_ok-push-2 w ↦ one_kept N types c.args.parts.now c.args.row.now c.loop-i.i c.loop-i.made.items (c.loop-i.invariant N types k) w.index-row-i-else-i-parts.result w.index-row-i-else-i-parts.result _ w.if-i-parts.false c.loop-i-test.true w.index-row-i-else-i-parts.is (ap (λ z. z.items) w.made-is ∙ w.in_ok-push-2.ensures.items)
]

pub in_patterns-returns : goal.in_patterns-returns
in_patterns-returns t c = λ N types k. ap sizes_of c.into_bump_slice.ensures ∙ all_entered N types c.args.parts.now c.args.row.now c.loop-i.i c.loop-i.made.items (c.loop-i.invariant N types k) c.loop-i-test.false
