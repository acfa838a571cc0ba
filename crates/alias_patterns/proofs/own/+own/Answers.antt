use Rattle.std.proofs.Common.{rules, arith, refl, min, length, drop}
use Rattle.fut_aliases.specs.Aliases.{first_name_alone}
use Rattle.alias_values.specs.Trees.{value_of, values_of}
use Rattle.alias_patterns.proofs.OwnForms.{owns_name, owns_none, owns_parts, owns_scalar, owns_array, owns_function, owns_fields, owns_typed, parts_more, parts_end, fields_more, fields_end}
use Rattle.alias_patterns.proofs.own.+own.Goals as goal

pub own_names-returns-in_ok-made-in-Bound : goal.own_names-returns-in_ok-made-in-Bound
own_names-returns-in_ok-made-in-Bound t c = λ N k. owns_name first_name_alone N c.args.pattern.now c.args.node c.args.value.now (value_of c.in_ok-made-in-Bound.made.now) _ c.in-Bound.is c.in_ok-made-in-Bound.ensures

pub own_names-returns-in-Wild : goal.own_names-returns-in-Wild
own_names-returns-in-Wild t c = λ N k. owns_none first_name_alone N c.args.pattern.now c.args.node c.args.value.now c.in-Wild.is

pub own_names-returns-in_ok-made-in-Parts : goal.own_names-returns-in_ok-made-in-Parts
own_names-returns-in_ok-made-in-Parts t c = λ N k. owns_parts first_name_alone N c.args.pattern.now c.args.node c.args.value.now _ c.in-Tuple.is (value_of c.in_ok-made-in-Parts.made.now) c.in-Parts.head c.in-Parts.values c.in_ok-first-in-Parts.first (values_of c.in_ok-all-in-Parts.all.now) c.in-Parts.is c.in_ok-first-in-Parts.ensures (c.in_ok-all-in-Parts.ensures N k) c.in_ok-made-in-Parts.ensures

pub own_names-returns-in-Scalar : goal.own_names-returns-in-Scalar
own_names-returns-in-Scalar t c = λ N k. owns_scalar first_name_alone N c.args.pattern.now c.args.node c.args.value.now _ c.in-Tuple.is c.in-Scalar.is

pub own_names-returns-in-Array : goal.own_names-returns-in-Array
own_names-returns-in-Array t c = λ N k. owns_array first_name_alone N c.args.pattern.now c.args.node c.args.value.now _ c.in-Tuple.is c.in-Array.field-0 c.in-Array.is

pub own_names-returns-in-Function : goal.own_names-returns-in-Function
own_names-returns-in-Function t c = λ N k. owns_function first_name_alone N c.args.pattern.now c.args.node c.args.value.now _ c.in-Tuple.is c.in-Function.field-0 c.in-Function.field-1 c.in-Function.is

pub own_names-returns-in_ok-made-in-Record : goal.own_names-returns-in_ok-made-in-Record
own_names-returns-in_ok-made-in-Record t c = λ N k. owns_fields first_name_alone N c.args.pattern.now c.args.node c.args.value.now (value_of c.in_ok-made-in-Record.made.now) _ c.in_ok-first-in-Record.first c.in-Record.is c.in_ok-first-in-Record.ensures (c.in_ok-made-in-Record.ensures N k)

pub own_names-returns-in_ok-made-in-Typed : goal.own_names-returns-in_ok-made-in-Typed
own_names-returns-in_ok-made-in-Typed t c = λ N k. owns_typed first_name_alone N c.args.pattern.now c.args.node c.args.value.now (value_of c.in_ok-made-in-Typed.made.now) _ _ c.in-Typed.is (c.in_ok-made-in-Typed.ensures N k)

pub all_own_names-loop-i-preserved : goal.all_own_names-loop-i-preserved
all_own_names-loop-i-preserved t c = λ N k. parts_more first_name_alone N c.args.inner.now c.args.values.now c.args.node c.loop-i.i c.loop-i.at c.loop-i.made.items (c.loop-i.invariant N k) _ c.index-values-i.result c.in_ok-one.one.now c.push.new.self.items c.in_ok-at.at (omega (arith, c.loop-i-test.true, c.min-both.ensures)) (omega (arith, c.loop-i-test.true, c.min-both.ensures)) c.index-values-i.is (c.in_ok-one.ensures N k) c.in_ok-push.ensures.items c.in_ok-at.ensures

pub all_own_names-returns : goal.all_own_names-returns
all_own_names-returns t c = λ N k. parts_end first_name_alone N c.args.inner.now c.args.values.now c.args.node c.loop-i.i c.loop-i.at c.loop-i.made.items (c.loop-i.invariant N k) (min (length c.args.inner.now) (length c.args.values.now)) (drop (min (length c.args.inner.now) (length c.args.values.now)) c.args.values.now) _ refl (search rules) (search rules) refl (search rules)

pub fields_own_names-loop-field-preserved : goal.fields_own_names-loop-field-preserved
fields_own_names-loop-field-preserved t c = λ N k. fields_more first_name_alone N c.args.fields.now c.args.node (value_of c.args.value.now) c.loop-field.field-index c.loop-field.at (value_of c.loop-field.made.value.now) (c.loop-field.invariant N k) _ (value_of c.in_ok-part.part.now) (value_of c.in_ok-own.own.now) (value_of c.in_ok-value.value.now) c.in_ok-at.at c.loop-field-test.true (c.in_ok-part.ensures N k) (c.in_ok-own.ensures N k) (c.in_ok-value.ensures N k) c.in_ok-at.ensures

pub fields_own_names-returns : goal.fields_own_names-returns
fields_own_names-returns t c = λ N k. fields_end first_name_alone N c.args.fields.now c.args.node (value_of c.args.value.now) c.loop-field.field-index c.loop-field.at (value_of c.loop-field.made.value.now) (c.loop-field.invariant N k) (omega (arith, c.loop-field-test.false))
