use Rattle.std.proofs.Common.{◌≡◌, ◌+◌, ◌<◌, ◌++◌, List, map, take, refl, sym, ◌∙◌, subst, ap, arith}
use Rattle.fut_flat.specs.Numbers.{pattern_numbers, all_pattern_numbers}
use Rattle.fut_flat.specs.Terms.{Record_pattern, Tuple_pattern}
use Rattle.fut_flat.specs.Erased.{FlatPattern, pattern_of, patterns, texts, type_of}
use Rattle.fut_flat.proofs.ErasedPatterns.{pattern_bound, pattern_wild, pattern_tuple, pattern_typed}
use Rattle.fut_typing.proofs.Ranges.{pattern_some}
use Rattle.fut_typing.specs.Homes.{At_home}
use Rattle.type_graph.specs.Graph.{Each}
use Rattle.type_rules.proofs.Adding.{tells}
use Rattle.type_patterns.proofs.Forms.{of_tuples, of_records}
use Rattle.type_scopes.specs.Scopes.{Claimed, field_pattern}
use Rattle.type_scopes.proofs.Binding.{bound_room, map_more, room_in, take_all, weigh}
use Rattle.type_constraints.specs.Parts.{Patterns_claim, pattern_name, pattern_starts}
use Rattle.type_constraints.proofs.Ends.{end_err, end_next, end_ok}
use Rattle.type_constraints.proofs.Functions.{starts_below}
use Rattle.type_patterns.proofs.Rows.{split_at}
use Rattle.type_constraints.proofs.Tuples.{Row_claimed, row_none, row_more, row_refused, made_ok, made_err1, made_err2, typed_ok, typed_err1, typed_err2, named_is, free_ok, falls_thrice, names_more, names_none, named_err, named_ok}
use Rattle.type_constraints.proofs.patterns.+pattern.Goals as goal

pub constrain_pattern-returns-in-Bound : goal.constrain_pattern-returns-in-Bound
constrain_pattern-returns-in-Bound t c = record { next = (let e = ap (λ (x : FlatPattern). c.args.lo + pattern_numbers x) (pattern_bound c.args.pat.now c.in-Bound.field-0 c.in-Bound.is) in omega (arith, e)); ok = free_ok c.args.setting.places c.args.setting.base c.args.lo (pattern_of c.args.pat.now) _ c.args.inference.now c.requires.safe (pattern_bound c.args.pat.now c.in-Bound.field-0 c.in-Bound.is) (λ N E K a. tt); err = tt }

pub constrain_pattern-returns-in-Wild : goal.constrain_pattern-returns-in-Wild
constrain_pattern-returns-in-Wild t c = record { next = (let e = ap (λ (x : FlatPattern). c.args.lo + pattern_numbers x) (pattern_wild c.args.pat.now c.in-Wild.is) in omega (arith, e)); ok = free_ok c.args.setting.places c.args.setting.base c.args.lo (pattern_of c.args.pat.now) _ c.args.inference.now c.requires.safe (pattern_wild c.args.pat.now c.in-Wild.is) (λ N E K a. tt); err = tt }

pub constrain_pattern-constrain_tuple-requires : goal.constrain_pattern-constrain_tuple-requires
constrain_pattern-constrain_tuple-requires t c = let e = ap (λ (x : FlatPattern). weigh x) (pattern_tuple c.args.pat.now c.in-Tuple.parts c.in-Tuple.is) in (omega (arith, e), (c.requires.safe, bound_room c.args.setting.base c.args.lo c.args.pat.now _ (pattern_tuple c.args.pat.now c.in-Tuple.parts c.in-Tuple.is) c.requires.room))

pub constrain_pattern-returns-in-Tuple : goal.constrain_pattern-returns-in-Tuple
constrain_pattern-returns-in-Tuple t c = record { next = rw (pattern_tuple c.args.pat.now c.in-Tuple.parts c.in-Tuple.is) c.constrain_tuple.ensures.next; ok = rw (pattern_tuple c.args.pat.now c.in-Tuple.parts c.in-Tuple.is) c.constrain_tuple.ensures.ok; err = rw (pattern_tuple c.args.pat.now c.in-Tuple.parts c.in-Tuple.is) c.constrain_tuple.ensures.err }

pub constrain_tuple-constrain_patterns-requires : goal.constrain_tuple-constrain_patterns-requires
constrain_tuple-constrain_patterns-requires t c = (omega arith, (c.requires.safe, omega (arith, c.requires.room)))

pub constrain_tuple-returns-in-Err : goal.constrain_tuple-returns-in-Err
constrain_tuple-returns-in-Err t c = record { next = tt; ok = tt; err = tells c.in-Err.error (made_err1 c.args.setting.places c.args.setting.base c.args.lo (Tuple_pattern (patterns (map pattern_of c.args.parts.now))) (patterns (map pattern_of c.args.parts.now)) of_tuples refl (λ N K a scope h. h) (λ N K a scope x y. (x, y)) c.args.inference.now c.constrain_patterns.new.inference) c.in-Err.ensures.err }

pub constrain_tuple-constrain_made-requires-clause-safe : goal.constrain_tuple-constrain_made-requires-clause-safe
constrain_tuple-constrain_made-requires-clause-safe t c = (c.in-Ok.ensures.ok 0).later.safe

pub constrain_tuple-constrain_made-requires-clause-parts : goal.constrain_tuple-constrain_made-requires-clause-parts
constrain_tuple-constrain_made-requires-clause-parts t c = subst (λ l. Each (λ n. n < c.args.setting.base) l) (sym (c.as_slice.ensures ∙ c.in-Ok.ensures.begins ∙ ap (λ l. l ++ pattern_starts (patterns (map pattern_of c.args.parts.now)) (1 + c.args.lo)) c.new-begins.ensures)) (starts_below c.args.setting.base (patterns (map pattern_of c.args.parts.now)) (1 + c.args.lo) (omega (arith, c.requires.room)))

pub constrain_tuple-returns : goal.constrain_tuple-returns
constrain_tuple-returns t c = record { next = rw c.and.ensures (end_next _ c.constrain_made.result c.in-Ok.next (omega (arith, c.in-Ok.ensures.next))); ok = rw c.and.ensures (end_ok c.constrain_made.result c.in-Ok.next (λ r. made_ok c.args.setting.places c.args.setting.base c.args.lo (Tuple_pattern (patterns (map pattern_of c.args.parts.now))) (patterns (map pattern_of c.args.parts.now)) of_tuples refl (λ N K a scope h. h) (λ N K a scope x y. (x, y)) c.args.inference.now c.constrain_patterns.new.inference c.constrain_made.new.inference c.as_slice.result.now (c.as_slice.ensures ∙ c.in-Ok.ensures.begins ∙ ap (λ l. l ++ pattern_starts (patterns (map pattern_of c.args.parts.now)) (1 + c.args.lo)) c.new-begins.ensures) c.requires.safe c.in-Ok.ensures.ok r) c.constrain_made.ensures.ok); err = rw c.and.ensures (end_err c.constrain_made.result c.in-Ok.next (made_err2 c.args.setting.places c.args.setting.base c.args.lo (Tuple_pattern (patterns (map pattern_of c.args.parts.now))) (patterns (map pattern_of c.args.parts.now)) of_tuples refl (λ N K a scope h. h) (λ N K a scope x y. (x, y)) c.args.inference.now c.constrain_patterns.new.inference c.constrain_made.new.inference c.as_slice.result.now (c.as_slice.ensures ∙ c.in-Ok.ensures.begins ∙ ap (λ l. l ++ pattern_starts (patterns (map pattern_of c.args.parts.now)) (1 + c.args.lo)) c.new-begins.ensures) c.requires.safe c.in-Ok.ensures.ok) c.constrain_made.ensures.err) }

pub constrain_patterns-loop-part-init : goal.constrain_patterns-loop-part-init
constrain_patterns-loop-part-init t c = row_none c.args.setting.places c.args.setting.base c.args.lo c.args.begins.now c.args.inference.now c.requires.safe

pub constrain_patterns-constrain_pattern-requires : goal.constrain_patterns-constrain_pattern-requires
constrain_patterns-constrain_pattern-requires t c = (falls_thrice pattern_of c.args.parts.now c.loop-part.part-index _ t c.loop-part-test.true (omega arith), ((c.loop-part.invariant.claimed 0).later.safe, room_in pattern_of c.args.parts.now c.loop-part.part-index _ c.args.lo c.loop-part.at c.args.setting.base c.loop-part-test.true c.loop-part.invariant.next c.requires.room))

pub constrain_patterns-returns-in-Err-constrain_pattern : goal.constrain_patterns-returns-in-Err-constrain_pattern
constrain_patterns-returns-in-Err-constrain_pattern t c = record {
  next = tt;
  begins = tt;
  ok = tt;
  err = (let w = split_at pattern_of c.args.parts.now c.loop-part.part-index _ c.loop-part-test.true in
      tells c.in-Err-constrain_pattern.error (row_refused c.args.setting.places c.args.setting.base c.args.lo c.loop-part.at (map pattern_of (take c.loop-part.part-index c.args.parts.now)) _ c.args.begins.now c.loop-part.begins c.args.inference.now c.loop-part.inference c.constrain_pattern.new.inference c.requires.safe c.loop-part.invariant (map pattern_of c.args.parts.now) w.0 w.1) c.in-Err-constrain_pattern.ensures.err);
}

pub constrain_patterns-loop-part-preserved : goal.constrain_patterns-loop-part-preserved
constrain_patterns-loop-part-preserved t c = subst (λ (l : List FlatPattern). Row_claimed c.args.setting.places c.args.setting.base c.args.lo c.in-Ok-constrain_pattern.next l c.args.begins.now c.push.new.self c.args.inference.now c.constrain_pattern.new.inference) (map_more pattern_of c.args.parts.now c.loop-part.part-index _ c.loop-part-test.true)
    (row_more c.args.setting.places c.args.setting.base c.args.lo c.loop-part.at (map pattern_of (take c.loop-part.part-index c.args.parts.now)) _ c.args.begins.now c.loop-part.begins c.args.inference.now c.loop-part.inference c.constrain_pattern.new.inference c.requires.safe c.loop-part.invariant c.in-Ok-constrain_pattern.next c.push.new.self c.in-Ok.ensures.ok c.in-Ok-constrain_pattern.ensures.next c.in-Ok-constrain_pattern.ensures.ok)

pub constrain_patterns-returns : goal.constrain_patterns-returns
constrain_patterns-returns t c = record { next = subst (λ l. c.loop-part.at ≡ c.args.lo + all_pattern_numbers (patterns (map pattern_of l))) (take_all c.args.parts.now c.loop-part.part-index c.loop-part-test.false) c.loop-part.invariant.next; begins = subst (λ l. c.loop-part.begins ≡ c.args.begins.now ++ pattern_starts (patterns (map pattern_of l)) c.args.lo) (take_all c.args.parts.now c.loop-part.part-index c.loop-part-test.false) c.loop-part.invariant.noted; ok = λ d. subst (λ l. Claimed c.args.setting.places c.args.setting.base d c.args.lo (Patterns_claim c.args.setting.places (patterns (map pattern_of l)) c.args.lo) (λ home. At_home home d c.args.lo (all_pattern_numbers (patterns (map pattern_of l)))) c.args.inference.now c.loop-part.inference) (take_all c.args.parts.now c.loop-part.part-index c.loop-part-test.false) (c.loop-part.invariant.claimed d); err = tt }

pub constrain_pattern-overflow_add-result : goal.constrain_pattern-overflow_add-result
constrain_pattern-overflow_add-result t c = let h = bound_room c.args.setting.base c.args.lo c.args.pat.now _ (pattern_bound c.args.pat.now c.in-Bound.field-0 c.in-Bound.is) c.requires.room in omega (arith, h, c.requires.safe.inside, c.requires.safe.sound)

pub constrain_pattern-overflow_add-result-in-Wild : goal.constrain_pattern-overflow_add-result-in-Wild
constrain_pattern-overflow_add-result-in-Wild t c = let h = bound_room c.args.setting.base c.args.lo c.args.pat.now _ (pattern_wild c.args.pat.now c.in-Wild.is) c.requires.room in omega (arith, h, c.requires.safe.inside, c.requires.safe.sound)

pub constrain_field_patterns-loop-field-init : goal.constrain_field_patterns-loop-field-init
constrain_field_patterns-loop-field-init t c = (row_none c.args.setting.places c.args.setting.base c.args.lo c.args.begins.now c.args.inference.now c.requires.safe, names_none (texts c.args.names.now))

pub constrain_field_patterns-constrain_pattern-requires : goal.constrain_field_patterns-constrain_pattern-requires
constrain_field_patterns-constrain_pattern-requires t c = (falls_thrice field_pattern c.args.fields.now c.loop-field.field-index _ t c.loop-field-test.true (omega arith), ((c.loop-field.invariant.0.claimed 0).later.safe, room_in field_pattern c.args.fields.now c.loop-field.field-index _ c.args.lo c.loop-field.at c.args.setting.base c.loop-field-test.true c.loop-field.invariant.0.next c.requires.room))

pub constrain_field_patterns-returns-in-Err-constrain_pattern : goal.constrain_field_patterns-returns-in-Err-constrain_pattern
constrain_field_patterns-returns-in-Err-constrain_pattern t c = record {
  next = tt;
  begins = tt;
  names = tt;
  ok = tt;
  err = (let w = split_at field_pattern c.args.fields.now c.loop-field.field-index _ c.loop-field-test.true in
      tells c.in-Err-constrain_pattern.error (row_refused c.args.setting.places c.args.setting.base c.args.lo c.loop-field.at (map field_pattern (take c.loop-field.field-index c.args.fields.now)) _ c.args.begins.now c.loop-field.begins c.args.inference.now c.loop-field.inference c.constrain_pattern.new.inference c.requires.safe c.loop-field.invariant.0 (map field_pattern c.args.fields.now) w.0 w.1) c.in-Err-constrain_pattern.ensures.err);
}

pub constrain_field_patterns-returns-in-Err-push : goal.constrain_field_patterns-returns-in-Err-push
constrain_field_patterns-returns-in-Err-push t c = record { next = tt; begins = tt; names = tt; ok = tt; err = tt }

pub constrain_field_patterns-loop-field-preserved : goal.constrain_field_patterns-loop-field-preserved
constrain_field_patterns-loop-field-preserved t c = (
  subst (λ (l : List FlatPattern). Row_claimed c.args.setting.places c.args.setting.base c.args.lo c.in-Ok-constrain_pattern.next l c.args.begins.now c.push.new.self c.args.inference.now c.constrain_pattern.new.inference) (map_more field_pattern c.args.fields.now c.loop-field.field-index _ c.loop-field-test.true)
      (row_more c.args.setting.places c.args.setting.base c.args.lo c.loop-field.at (map field_pattern (take c.loop-field.field-index c.args.fields.now)) _ c.args.begins.now c.loop-field.begins c.args.inference.now c.loop-field.inference c.constrain_pattern.new.inference c.requires.safe c.loop-field.invariant.0 c.in-Ok-constrain_pattern.next c.push.new.self c.in-Ok.ensures.ok c.in-Ok-constrain_pattern.ensures.next c.in-Ok-constrain_pattern.ensures.ok),
  names_more c.args.fields.now c.loop-field.field-index _ c.args.names.now c.loop-field.names c.push-in-loop-field.new.self c.loop-field-test.true c.in-Ok-push.ensures.ok c.loop-field.invariant.1,
)

pub constrain_field_patterns-returns : goal.constrain_field_patterns-returns
constrain_field_patterns-returns t c = record { next = subst (λ l. c.loop-field.at ≡ c.args.lo + all_pattern_numbers (patterns (map field_pattern l))) (take_all c.args.fields.now c.loop-field.field-index c.loop-field-test.false) c.loop-field.invariant.0.next; begins = subst (λ l. c.loop-field.begins ≡ c.args.begins.now ++ pattern_starts (patterns (map field_pattern l)) c.args.lo) (take_all c.args.fields.now c.loop-field.field-index c.loop-field-test.false) c.loop-field.invariant.0.noted; names = subst (λ l. texts c.loop-field.names ≡ texts c.args.names.now ++ map pattern_name l) (take_all c.args.fields.now c.loop-field.field-index c.loop-field-test.false) c.loop-field.invariant.1; ok = λ d. subst (λ l. Claimed c.args.setting.places c.args.setting.base d c.args.lo (Patterns_claim c.args.setting.places (patterns (map field_pattern l)) c.args.lo) (λ home. At_home home d c.args.lo (all_pattern_numbers (patterns (map field_pattern l)))) c.args.inference.now c.loop-field.inference) (take_all c.args.fields.now c.loop-field.field-index c.loop-field-test.false) (c.loop-field.invariant.0.claimed d); err = tt }

pub constrain_record-constrain_field_patterns-requires : goal.constrain_record-constrain_field_patterns-requires
constrain_record-constrain_field_patterns-requires t c = (omega arith, (c.requires.safe, omega (arith, c.requires.room)))

pub constrain_record-returns-in-Err : goal.constrain_record-returns-in-Err
constrain_record-returns-in-Err t c = record { next = tt; ok = tt; err = tells c.in-Err.error (made_err1 c.args.setting.places c.args.setting.base c.args.lo (Record_pattern (map pattern_name c.args.fields.now) (patterns (map field_pattern c.args.fields.now))) (patterns (map field_pattern c.args.fields.now)) (of_records (map pattern_name c.args.fields.now)) refl (λ N K a scope h. h) (λ N K a scope x y. (x, y)) c.args.inference.now c.constrain_field_patterns.new.inference) c.in-Err.ensures.err }

pub constrain_record-constrain_fields-requires-clause-safe : goal.constrain_record-constrain_fields-requires-clause-safe
constrain_record-constrain_fields-requires-clause-safe t c = (c.in-Ok.ensures.ok 0).later.safe

pub constrain_record-constrain_fields-requires-clause-parts : goal.constrain_record-constrain_fields-requires-clause-parts
constrain_record-constrain_fields-requires-clause-parts t c = subst (λ l. Each (λ n. n < c.args.setting.base) l) (sym (c.as_slice-2.ensures ∙ c.in-Ok.ensures.begins ∙ ap (λ l. l ++ pattern_starts (patterns (map field_pattern c.args.fields.now)) (1 + c.args.lo)) c.new-begins.ensures)) (starts_below c.args.setting.base (patterns (map field_pattern c.args.fields.now)) (1 + c.args.lo) (omega (arith, c.requires.room)))

pub constrain_record-returns : goal.constrain_record-returns
constrain_record-returns t c = record { next = rw c.and.ensures (end_next _ c.constrain_fields.result c.in-Ok.next (omega (arith, c.in-Ok.ensures.next))); ok = rw c.and.ensures (end_ok c.constrain_fields.result c.in-Ok.next (λ r. made_ok c.args.setting.places c.args.setting.base c.args.lo (Record_pattern (map pattern_name c.args.fields.now) (patterns (map field_pattern c.args.fields.now))) (patterns (map field_pattern c.args.fields.now)) (of_records (map pattern_name c.args.fields.now)) refl (λ N K a scope h. h) (λ N K a scope x y. (x, y)) c.args.inference.now c.constrain_field_patterns.new.inference c.constrain_fields.new.inference c.as_slice-2.result.now (c.as_slice-2.ensures ∙ c.in-Ok.ensures.begins ∙ ap (λ l. l ++ pattern_starts (patterns (map field_pattern c.args.fields.now)) (1 + c.args.lo)) c.new-begins.ensures) c.requires.safe c.in-Ok.ensures.ok (named_ok c.args.setting.base c.args.lo (texts c.as_slice.result.now) (map pattern_name c.args.fields.now) c.as_slice-2.result.now c.constrain_field_patterns.new.inference c.constrain_fields.new.inference (ap texts c.as_slice.ensures ∙ c.in-Ok.ensures.names ∙ ap (λ l. texts l ++ map pattern_name c.args.fields.now) c.new-names.ensures) r)) c.constrain_fields.ensures.ok); err = rw c.and.ensures (end_err c.constrain_fields.result c.in-Ok.next (λ r. (made_err2 c.args.setting.places c.args.setting.base c.args.lo (Record_pattern (map pattern_name c.args.fields.now) (patterns (map field_pattern c.args.fields.now))) (patterns (map field_pattern c.args.fields.now)) (of_records (map pattern_name c.args.fields.now)) refl (λ N K a scope h. h) (λ N K a scope x y. (x, y)) c.args.inference.now c.constrain_field_patterns.new.inference c.constrain_fields.new.inference c.as_slice-2.result.now (c.as_slice-2.ensures ∙ c.in-Ok.ensures.begins ∙ ap (λ l. l ++ pattern_starts (patterns (map field_pattern c.args.fields.now)) (1 + c.args.lo)) c.new-begins.ensures) c.requires.safe c.in-Ok.ensures.ok) (named_err c.args.setting.base c.args.lo (texts c.as_slice.result.now) (map pattern_name c.args.fields.now) c.as_slice-2.result.now c.constrain_field_patterns.new.inference c.constrain_fields.new.inference (ap texts c.as_slice.ensures ∙ c.in-Ok.ensures.names ∙ ap (λ l. texts l ++ map pattern_name c.args.fields.now) c.new-names.ensures) r)) c.constrain_fields.ensures.err) }

pub constrain_typed-constrain_pattern-requires : goal.constrain_typed-constrain_pattern-requires
constrain_typed-constrain_pattern-requires t c = (omega arith, (c.requires.safe, c.requires.room))

pub constrain_typed-returns-in-Err : goal.constrain_typed-returns-in-Err
constrain_typed-returns-in-Err t c = record { next = tt; ok = tt; err = tells c.in-Err.error (typed_err1 c.args.setting.places c.args.setting.base c.args.lo (pattern_of c.args.inner.now) (type_of c.args.ty.now) c.args.inference.now c.constrain_pattern.new.inference) c.in-Err.ensures.err }

pub constrain_typed-constrain_type-requires-clause-safe : goal.constrain_typed-constrain_type-requires-clause-safe
constrain_typed-constrain_type-requires-clause-safe t c = (c.in-Ok.ensures.ok 0).later.safe

pub constrain_typed-constrain_type-requires-clause-number : goal.constrain_typed-constrain_type-requires-clause-number
constrain_typed-constrain_type-requires-clause-number t c = omega (arith, c.requires.room, pattern_some (pattern_of c.args.inner.now))

pub constrain_typed-returns : goal.constrain_typed-returns
constrain_typed-returns t c = record { next = rw c.and.ensures (end_next _ c.constrain_type.result c.in-Ok.next (omega (arith, c.in-Ok.ensures.next))); ok = rw c.and.ensures (end_ok c.constrain_type.result c.in-Ok.next (typed_ok c.args.setting.places c.args.setting.base c.args.lo (pattern_of c.args.inner.now) (type_of c.args.ty.now) c.args.inference.now c.constrain_pattern.new.inference c.constrain_type.new.inference c.requires.safe c.in-Ok.ensures.ok) c.constrain_type.ensures.ok); err = rw c.and.ensures (end_err c.constrain_type.result c.in-Ok.next (typed_err2 c.args.setting.places c.args.setting.base c.args.lo (pattern_of c.args.inner.now) (type_of c.args.ty.now) c.args.inference.now c.constrain_pattern.new.inference c.constrain_type.new.inference c.requires.safe c.in-Ok.ensures.ok) c.constrain_type.ensures.err) }

pub constrain_pattern-constrain_record-requires : goal.constrain_pattern-constrain_record-requires
constrain_pattern-constrain_record-requires t c = let e = ap (λ (x : FlatPattern). weigh x) (named_is c.args.pat.now c.in-Record.fields c.in-Record.is) in (omega (arith, e), (c.requires.safe, bound_room c.args.setting.base c.args.lo c.args.pat.now _ (named_is c.args.pat.now c.in-Record.fields c.in-Record.is) c.requires.room))

pub constrain_pattern-returns-in-Record : goal.constrain_pattern-returns-in-Record
constrain_pattern-returns-in-Record t c = record { next = rw (named_is c.args.pat.now c.in-Record.fields c.in-Record.is) c.constrain_record.ensures.next; ok = rw (named_is c.args.pat.now c.in-Record.fields c.in-Record.is) c.constrain_record.ensures.ok; err = rw (named_is c.args.pat.now c.in-Record.fields c.in-Record.is) c.constrain_record.ensures.err }

pub constrain_pattern-constrain_typed-requires : goal.constrain_pattern-constrain_typed-requires
constrain_pattern-constrain_typed-requires t c = let e = ap (λ (x : FlatPattern). weigh x) (pattern_typed c.args.pat.now c.in-Typed.inner c.in-Typed.ty c.in-Typed.is) in (omega (arith, e), (c.requires.safe, bound_room c.args.setting.base c.args.lo c.args.pat.now _ (pattern_typed c.args.pat.now c.in-Typed.inner c.in-Typed.ty c.in-Typed.is) c.requires.room))

pub constrain_pattern-returns-in-Typed : goal.constrain_pattern-returns-in-Typed
constrain_pattern-returns-in-Typed t c = record { next = rw (pattern_typed c.args.pat.now c.in-Typed.inner c.in-Typed.ty c.in-Typed.is) c.constrain_typed.ensures.next; ok = rw (pattern_typed c.args.pat.now c.in-Typed.inner c.in-Typed.ty c.in-Typed.is) c.constrain_typed.ensures.ok; err = rw (pattern_typed c.args.pat.now c.in-Typed.inner c.in-Typed.ty c.in-Typed.is) c.constrain_typed.ensures.err }

pub constrain_patterns-returns-in-Err : goal.constrain_patterns-returns-in-Err
constrain_patterns-returns-in-Err t c = record { next = tt; begins = tt; ok = tt; err = tt }

pub constrain_field_patterns-returns-in-Err : goal.constrain_field_patterns-returns-in-Err
constrain_field_patterns-returns-in-Err t c = record { next = tt; begins = tt; names = tt; ok = tt; err = tt }
