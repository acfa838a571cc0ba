use Rattle.std.proofs.Common.{◌+◌, List, map, subst, sym, ap, refl, arith}
use Rattle.fut_flat.specs.Numbers.{pattern_numbers, all_pattern_numbers}
use Rattle.fut_flat.specs.Erased.{FlatPattern, pattern_of, patterns}
use Rattle.fut_flat.proofs.ErasedPatterns.{pattern_bound, pattern_wild, pattern_tuple, pattern_typed}
use Rattle.fut_typing.specs.Homes.{env_pattern, env_patterns}
use Rattle.type_rules.proofs.Adding.{on_ok}
use Rattle.type_scopes.specs.declared.Inference.{Inference}
use Rattle.type_scopes.specs.Scopes.{Safe, Binds, field_pattern}
use Rattle.type_scopes.proofs.Binding.{Entered, entered_none, entered_more, entered_safe, binds_none, binds_number, binds_within, binds_is, bound_room, inner_is, map_more, room_in, record_is, take_all, if_ok, weigh, weigh_all, falls_in, falls_row, falls_one}
use Rattle.type_scopes.proofs.patterns.+pattern.Goals as goal

pub enter_pattern-overflow_add-result : goal.enter_pattern-overflow_add-result
enter_pattern-overflow_add-result t c = let h = bound_room c.args.base c.args.lo c.args.pat.now _ (pattern_bound c.args.pat.now c.in-Bound.bind c.in-Bound.is) c.requires.room in omega (arith, h, c.ranges.base.fits)

pub enter_pattern-overflow_add-result-in-Wild : goal.enter_pattern-overflow_add-result-in-Wild
enter_pattern-overflow_add-result-in-Wild t c = let h = bound_room c.args.base c.args.lo c.args.pat.now _ (pattern_wild c.args.pat.now c.in-Wild.is) c.requires.room in omega (arith, h, c.ranges.base.fits)

pub enter_pattern-overflow_add-lo : goal.enter_pattern-overflow_add-lo
enter_pattern-overflow_add-lo t c = let h = bound_room c.args.base c.args.lo c.args.pat.now _ (pattern_tuple c.args.pat.now c.in-Tuple.parts c.in-Tuple.is) c.requires.room in omega (arith, h, c.ranges.base.fits)

pub enter_pattern-overflow_add-lo-in-Record : goal.enter_pattern-overflow_add-lo-in-Record
enter_pattern-overflow_add-lo-in-Record t c = let h = bound_room c.args.base c.args.lo c.args.pat.now _ (record_is c.args.pat.now c.in-Record.fields c.in-Record.is) c.requires.room in omega (arith, h, c.ranges.base.fits)

pub enter_pattern-enter_patterns-requires : goal.enter_pattern-enter_patterns-requires
enter_pattern-enter_patterns-requires t c = (falls_row (pattern_of c.args.pat.now) _ (weigh_all (patterns (map pattern_of c.in-Tuple.parts.now))) t (pattern_tuple c.args.pat.now c.in-Tuple.parts c.in-Tuple.is) refl (omega arith), (c.requires.safe, (let h = bound_room c.args.base c.args.lo c.args.pat.now _ (pattern_tuple c.args.pat.now c.in-Tuple.parts c.in-Tuple.is) c.requires.room in omega (arith, h))))

pub enter_pattern-enter_fields-requires : goal.enter_pattern-enter_fields-requires
enter_pattern-enter_fields-requires t c = (falls_row (pattern_of c.args.pat.now) _ (weigh_all (patterns (map field_pattern c.in-Record.fields.now))) t (record_is c.args.pat.now c.in-Record.fields c.in-Record.is) refl (omega arith), (c.requires.safe, (let h = bound_room c.args.base c.args.lo c.args.pat.now _ (record_is c.args.pat.now c.in-Record.fields c.in-Record.is) c.requires.room in omega (arith, h))))

pub enter_pattern-enter_pattern-requires : goal.enter_pattern-enter_pattern-requires
enter_pattern-enter_pattern-requires t c = (falls_one (pattern_of c.args.pat.now) _ (weigh (pattern_of c.in-Typed.inner.now)) t (pattern_typed c.args.pat.now c.in-Typed.inner c.in-Typed.field-1 c.in-Typed.is) refl (omega arith), (c.requires.safe, (let h = bound_room c.args.base c.args.lo c.args.pat.now _ (pattern_typed c.args.pat.now c.in-Typed.inner c.in-Typed.field-1 c.in-Typed.is) c.requires.room in omega (arith, h))))

pub enter_pattern-returns-in-Ok-clause-next : goal.enter_pattern-returns-in-Ok-clause-next
enter_pattern-returns-in-Ok-clause-next t c = let e = ap (λ (x : FlatPattern). c.args.lo + pattern_numbers x) (pattern_bound c.args.pat.now c.in-Bound.bind c.in-Bound.is) in omega (arith, e)

pub enter_pattern-returns-in-Wild-clause-next : goal.enter_pattern-returns-in-Wild-clause-next
enter_pattern-returns-in-Wild-clause-next t c = let e = ap (λ (x : FlatPattern). c.args.lo + pattern_numbers x) (pattern_wild c.args.pat.now c.in-Wild.is) in omega (arith, e)

pub enter_pattern-returns-in-Ok-clause-safe : goal.enter_pattern-returns-in-Ok-clause-safe
enter_pattern-returns-in-Ok-clause-safe t c = subst (λ (i : Inference). Safe c.args.base i) (sym c.in-Ok.ensures.ok) (entered_safe c.args.base c.in-Bound.bind.0 c.args.lo c.args.inference.now c.requires.safe c.in-Ok.ensures.within c.in-Ok.ensures.fresh (let h = bound_room c.args.base c.args.lo c.args.pat.now _ (pattern_bound c.args.pat.now c.in-Bound.bind c.in-Bound.is) c.requires.room in omega (arith, h)))

pub enter_pattern-returns-in-Ok-clause-ok : goal.enter_pattern-returns-in-Ok-clause-ok
enter_pattern-returns-in-Ok-clause-ok t c = subst (λ (i : Inference). Binds c.args.base c.args.lo (pattern_numbers (pattern_of c.args.pat.now)) (env_pattern (pattern_of c.args.pat.now) c.args.lo) c.args.inference.now i) (sym c.in-Ok.ensures.ok) (binds_is c.args.base c.args.lo c.args.pat.now _ 1 _ c.args.inference.now _ (pattern_bound c.args.pat.now c.in-Bound.bind c.in-Bound.is) refl refl (binds_number c.args.base c.in-Bound.bind.0 c.args.lo c.args.inference.now c.requires.safe c.in-Ok.ensures.within c.in-Ok.ensures.fresh (let h = bound_room c.args.base c.args.lo c.args.pat.now _ (pattern_bound c.args.pat.now c.in-Bound.bind c.in-Bound.is) c.requires.room in omega (arith, h))))

pub enter_pattern-returns-in-Wild-clause-ok : goal.enter_pattern-returns-in-Wild-clause-ok
enter_pattern-returns-in-Wild-clause-ok t c = binds_is c.args.base c.args.lo c.args.pat.now _ 1 _ c.args.inference.now c.args.inference.now (pattern_wild c.args.pat.now c.in-Wild.is) refl refl (binds_within c.args.base c.args.lo c.args.lo 0 1 (λ E. E) (λ E. E) c.args.inference.now c.args.inference.now (omega arith) (omega arith) refl (binds_none c.args.base c.args.lo c.args.inference.now c.requires.safe))

pub enter_pattern-returns-in-Tuple-clause-next : goal.enter_pattern-returns-in-Tuple-clause-next
enter_pattern-returns-in-Tuple-clause-next t c = if_ok c.enter_patterns.result (λ n e. let z = ap (λ (x : FlatPattern). c.args.lo + pattern_numbers x) (pattern_tuple c.args.pat.now c.in-Tuple.parts c.in-Tuple.is) in omega (arith, e, z)) c.enter_patterns.ensures.next

pub enter_pattern-returns-in-Tuple-clause-ok : goal.enter_pattern-returns-in-Tuple-clause-ok
enter_pattern-returns-in-Tuple-clause-ok t c = on_ok c.enter_patterns.result (λ b. binds_is c.args.base c.args.lo c.args.pat.now _ (1 + all_pattern_numbers (patterns (map pattern_of c.in-Tuple.parts.now))) _ c.args.inference.now c.enter_patterns.new.inference (pattern_tuple c.args.pat.now c.in-Tuple.parts c.in-Tuple.is) refl refl (inner_is c.args.base c.args.lo (map pattern_of c.in-Tuple.parts.now) c.args.inference.now c.enter_patterns.new.inference b)) c.enter_patterns.ensures.ok

pub enter_pattern-returns-in-Record-clause-next : goal.enter_pattern-returns-in-Record-clause-next
enter_pattern-returns-in-Record-clause-next t c = if_ok c.enter_fields.result (λ n e. let z = ap (λ (x : FlatPattern). c.args.lo + pattern_numbers x) (record_is c.args.pat.now c.in-Record.fields c.in-Record.is) in omega (arith, e, z)) c.enter_fields.ensures.next

pub enter_pattern-returns-in-Record-clause-ok : goal.enter_pattern-returns-in-Record-clause-ok
enter_pattern-returns-in-Record-clause-ok t c = on_ok c.enter_fields.result (λ b. binds_is c.args.base c.args.lo c.args.pat.now _ (1 + all_pattern_numbers (patterns (map field_pattern c.in-Record.fields.now))) _ c.args.inference.now c.enter_fields.new.inference (record_is c.args.pat.now c.in-Record.fields c.in-Record.is) refl refl (inner_is c.args.base c.args.lo (map field_pattern c.in-Record.fields.now) c.args.inference.now c.enter_fields.new.inference b)) c.enter_fields.ensures.ok

pub enter_pattern-returns-in-Typed-clause-next : goal.enter_pattern-returns-in-Typed-clause-next
enter_pattern-returns-in-Typed-clause-next t c = if_ok c.enter_pattern.result (λ n e. let z = ap (λ (x : FlatPattern). c.args.lo + pattern_numbers x) (pattern_typed c.args.pat.now c.in-Typed.inner c.in-Typed.field-1 c.in-Typed.is) in omega (arith, e, z)) c.enter_pattern.ensures.next

pub enter_pattern-returns-in-Typed-clause-ok : goal.enter_pattern-returns-in-Typed-clause-ok
enter_pattern-returns-in-Typed-clause-ok t c = on_ok c.enter_pattern.result (λ b. binds_is c.args.base c.args.lo c.args.pat.now _ (pattern_numbers (pattern_of c.in-Typed.inner.now)) _ c.args.inference.now c.enter_pattern.new.inference (pattern_typed c.args.pat.now c.in-Typed.inner c.in-Typed.field-1 c.in-Typed.is) refl refl b) c.enter_pattern.ensures.ok

pub enter_fields-loop-field-init : goal.enter_fields-loop-field-init
enter_fields-loop-field-init t c = entered_none c.args.base c.args.lo c.args.inference.now c.requires.safe

pub enter_fields-enter_pattern-requires : goal.enter_fields-enter_pattern-requires
enter_fields-enter_pattern-requires t c = (falls_in field_pattern c.args.fields.now c.loop-field.field-index _ t c.loop-field-test.true (omega arith), (c.loop-field.invariant.safe, room_in field_pattern c.args.fields.now c.loop-field.field-index _ c.args.lo c.loop-field.at c.args.base c.loop-field-test.true c.loop-field.invariant.next c.requires.room))

pub enter_fields-loop-field-preserved : goal.enter_fields-loop-field-preserved
enter_fields-loop-field-preserved t c = subst (λ (l : List FlatPattern). Entered c.args.base c.args.lo c.in-Ok.next l c.args.inference.now c.enter_pattern.new.inference) (map_more field_pattern c.args.fields.now c.loop-field.field-index _ c.loop-field-test.true) (entered_more c.args.base c.args.lo c.loop-field.at c.in-Ok.next _ _ c.args.inference.now c.loop-field.inference c.enter_pattern.new.inference c.loop-field.invariant c.in-Ok.ensures.next c.in-Ok.ensures.safe c.in-Ok.ensures.ok)

pub enter_fields-returns-clause-ok : goal.enter_fields-returns-clause-ok
enter_fields-returns-clause-ok t c = subst (λ l. Binds c.args.base c.args.lo (all_pattern_numbers (patterns (map field_pattern l))) (env_patterns (patterns (map field_pattern l)) c.args.lo) c.args.inference.now c.loop-field.inference) (take_all c.args.fields.now c.loop-field.field-index c.loop-field-test.false) c.loop-field.invariant.binds

pub enter_patterns-loop-part-init : goal.enter_patterns-loop-part-init
enter_patterns-loop-part-init t c = entered_none c.args.base c.args.lo c.args.inference.now c.requires.safe

pub enter_patterns-enter_pattern-requires : goal.enter_patterns-enter_pattern-requires
enter_patterns-enter_pattern-requires t c = (falls_in pattern_of c.args.parts.now c.loop-part.part-index _ t c.loop-part-test.true (omega arith), (c.loop-part.invariant.safe, room_in pattern_of c.args.parts.now c.loop-part.part-index _ c.args.lo c.loop-part.at c.args.base c.loop-part-test.true c.loop-part.invariant.next c.requires.room))

pub enter_patterns-loop-part-preserved : goal.enter_patterns-loop-part-preserved
enter_patterns-loop-part-preserved t c = subst (λ (l : List FlatPattern). Entered c.args.base c.args.lo c.in-Ok.next l c.args.inference.now c.enter_pattern.new.inference) (map_more pattern_of c.args.parts.now c.loop-part.part-index _ c.loop-part-test.true) (entered_more c.args.base c.args.lo c.loop-part.at c.in-Ok.next _ _ c.args.inference.now c.loop-part.inference c.enter_pattern.new.inference c.loop-part.invariant c.in-Ok.ensures.next c.in-Ok.ensures.safe c.in-Ok.ensures.ok)

pub enter_patterns-returns-clause-ok : goal.enter_patterns-returns-clause-ok
enter_patterns-returns-clause-ok t c = subst (λ l. Binds c.args.base c.args.lo (all_pattern_numbers (patterns (map pattern_of l))) (env_patterns (patterns (map pattern_of l)) c.args.lo) c.args.inference.now c.loop-part.inference) (take_all c.args.parts.now c.loop-part.part-index c.loop-part-test.false) c.loop-part.invariant.binds
