use Rattle.std.proofs.Common.{refl, arith}
use Rattle.fut_aliases.specs.Aliases.{first_name_alone}
use Rattle.alias_program.specs.Program.{sub_of}
use Rattle.alias_scopes.specs.Scopes.{scope_of}
use Rattle.alias_values.specs.Trees.{stars_of, value_of}
use Rattle.alias_patterns.proofs.BindForms.{binds_name, binds_none, binds_parts, binds_scalar, binds_array, binds_function, binds_fields, binds_typed, parts_more, parts_short, parts_end, fields_more, fields_end}
use Rattle.alias_patterns.proofs.binding.+bind.Goals as goal

pub bound-returns-in_ok-made-in-Bound : goal.bound-returns-in_ok-made-in-Bound
bound-returns-in_ok-made-in-Bound t c = λ N k. binds_name first_name_alone N (sub_of c.args.program.now.types.now) c.args.parameter c.args.pattern.now c.args.node c.args.value.now (scope_of c.args.scope.now) (scope_of c.in_ok-made-in-Bound.made.now) _ (value_of c.in_ok-own-in-Bound.own.now) c.in-Bound.is c.in_ok-own-in-Bound.ensures c.in_ok-made-in-Bound.ensures

pub bound-returns-in-Wild : goal.bound-returns-in-Wild
bound-returns-in-Wild t c = λ N k. binds_none first_name_alone N (sub_of c.args.program.now.types.now) c.args.parameter c.args.pattern.now c.args.node c.args.value.now (scope_of c.args.scope.now) (scope_of c.args.scope.now) c.in-Wild.is refl

pub bound-returns-in_ok-made-in-Parts : goal.bound-returns-in_ok-made-in-Parts
bound-returns-in_ok-made-in-Parts t c = λ N k. binds_parts first_name_alone N (sub_of c.args.program.now.types.now) c.args.parameter c.args.pattern.now c.args.node c.args.value.now (scope_of c.args.scope.now) (scope_of c.in_ok-made-in-Parts.made.now) _ c.in-Tuple.is c.in-Parts.field-0 c.in-Parts.values c.in_ok-first-in-Parts.first c.in-Parts.is c.in_ok-first-in-Parts.ensures (c.in_ok-made-in-Parts.ensures N k)

pub bound-returns-in-Scalar : goal.bound-returns-in-Scalar
bound-returns-in-Scalar t c = λ N k. binds_scalar first_name_alone N (sub_of c.args.program.now.types.now) c.args.parameter c.args.pattern.now c.args.node c.args.value.now (scope_of c.args.scope.now) (scope_of c.args.scope.now) _ c.in-Tuple.is c.in-Scalar.is refl

pub bound-returns-in-Array : goal.bound-returns-in-Array
bound-returns-in-Array t c = λ N k. binds_array first_name_alone N (sub_of c.args.program.now.types.now) c.args.parameter c.args.pattern.now c.args.node c.args.value.now (scope_of c.args.scope.now) (scope_of c.args.scope.now) _ c.in-Tuple.is c.in-Array.field-0 c.in-Array.is refl

pub bound-returns-in-Function : goal.bound-returns-in-Function
bound-returns-in-Function t c = λ N k. binds_function first_name_alone N (sub_of c.args.program.now.types.now) c.args.parameter c.args.pattern.now c.args.node c.args.value.now (scope_of c.args.scope.now) (scope_of c.args.scope.now) _ c.in-Tuple.is c.in-Function.field-0 c.in-Function.field-1 c.in-Function.is refl

pub bound-returns-in_ok-made-in-Record : goal.bound-returns-in_ok-made-in-Record
bound-returns-in_ok-made-in-Record t c = λ N k. binds_fields first_name_alone N (sub_of c.args.program.now.types.now) c.args.parameter c.args.pattern.now c.args.node c.args.value.now (scope_of c.args.scope.now) (scope_of c.in_ok-made-in-Record.made.now) _ c.in_ok-first-in-Record.first c.in-Record.is c.in_ok-first-in-Record.ensures (c.in_ok-made-in-Record.ensures N k)

pub bound-returns-in_ok-made-in-Typed : goal.bound-returns-in_ok-made-in-Typed
bound-returns-in_ok-made-in-Typed t c = λ N k. binds_typed first_name_alone N (sub_of c.args.program.now.types.now) c.args.parameter c.args.pattern.now c.args.node c.args.value.now (scope_of c.args.scope.now) (scope_of c.in_ok-made-in-Typed.made.now) _ _ (stars_of c.in_ok-stars-in-Typed.stars.now) (value_of c.in_ok-same-in-Typed.same.now) c.in-Typed.is (c.in_ok-stars-in-Typed.ensures N k) c.in_ok-same-in-Typed.ensures (c.in_ok-made-in-Typed.ensures N k)

pub all_bound-loop-i-preserved : goal.all_bound-loop-i-preserved
all_bound-loop-i-preserved t c = λ N k. parts_more first_name_alone N (sub_of c.args.program.now.types.now) c.args.parameter c.args.parts.now c.args.values.now c.args.node (scope_of c.args.scope.now) c.loop-i.i c.loop-i.at (scope_of c.loop-i.inside.scope.now) (c.loop-i.invariant N k) _ c.index-values-i.result c.in_ok-at.at (scope_of c.in_ok-scope.scope.now) c.loop-i-test.true (omega (arith, c.if-i-values.false)) c.index-values-i.is (c.in_ok-scope.ensures N k) c.in_ok-at.ensures

pub all_bound-returns-then-i-values : goal.all_bound-returns-then-i-values
all_bound-returns-then-i-values t c = λ N k. parts_short first_name_alone N (sub_of c.args.program.now.types.now) c.args.parameter c.args.parts.now c.args.values.now c.args.node (scope_of c.args.scope.now) c.loop-i.i c.loop-i.at (scope_of c.loop-i.inside.scope.now) (c.loop-i.invariant N k) (omega (arith, c.if-i-values.true))

pub all_bound-returns : goal.all_bound-returns
all_bound-returns t c = λ N k. parts_end first_name_alone N (sub_of c.args.program.now.types.now) c.args.parameter c.args.parts.now c.args.values.now c.args.node (scope_of c.args.scope.now) c.loop-i.i c.loop-i.at (scope_of c.loop-i.inside.scope.now) (c.loop-i.invariant N k) (omega (arith, c.loop-i-test.false))

pub fields_bound-loop-field-preserved : goal.fields_bound-loop-field-preserved
fields_bound-loop-field-preserved t c = λ N k. fields_more first_name_alone N (sub_of c.args.program.now.types.now) c.args.parameter c.args.fields.now (value_of c.args.value.now) c.args.node (scope_of c.args.scope.now) c.loop-field.field-index c.loop-field.at (scope_of c.loop-field.inside.scope.now) (c.loop-field.invariant N k) _ (value_of c.in_ok-part.part.now) c.in_ok-at.at (scope_of c.in_ok-scope.scope.now) c.loop-field-test.true (c.in_ok-part.ensures N k) (c.in_ok-scope.ensures N k) c.in_ok-at.ensures

pub fields_bound-returns : goal.fields_bound-returns
fields_bound-returns t c = λ N k. fields_end first_name_alone N (sub_of c.args.program.now.types.now) c.args.parameter c.args.fields.now (value_of c.args.value.now) c.args.node (scope_of c.args.scope.now) c.loop-field.field-index c.loop-field.at (scope_of c.loop-field.inside.scope.now) (c.loop-field.invariant N k) (omega (arith, c.loop-field-test.false))
