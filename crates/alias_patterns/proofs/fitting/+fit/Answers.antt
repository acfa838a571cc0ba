use Rattle.std.proofs.Common.{rules, refl, arith, None}
use Rattle.fut_aliases.specs.Aliases.{first_name_alone}
use Rattle.alias_program.specs.Program.{sub_of}
use Rattle.alias_types.specs.Kinds.{kinds_of}
use Rattle.alias_values.specs.Trees.{stars_of, value_of}
use Rattle.uniqueness.specs.Held.{held_of}
use Rattle.alias_patterns.specs.Ruled.{rule_of}
use Rattle.alias_patterns.proofs.FitForms.{fits_name, fits_none, fits_parts, fits_scalar, fits_array, fits_function, fits_fields, fits_typed, parts_more, parts_here, parts_end, parts_short, fields_more, fields_here, fields_end}
use Rattle.alias_patterns.proofs.fitting.+fit.Goals as goal

pub misfit-returns-in-Bound : goal.misfit-returns-in-Bound
misfit-returns-in-Bound t c = λ N k. fits_name first_name_alone N (kinds_of c.args.program.now.kinds.now) (sub_of c.args.program.now.types.now) (rule_of c.args.rule) c.args.pattern.now c.args.node (held_of c.args.held.now) None _ c.in-Bound.is refl

pub misfit-returns-in-Wild : goal.misfit-returns-in-Wild
misfit-returns-in-Wild t c = λ N k. fits_none first_name_alone N (kinds_of c.args.program.now.kinds.now) (sub_of c.args.program.now.types.now) (rule_of c.args.rule) c.args.pattern.now c.args.node (held_of c.args.held.now) None c.in-Wild.is refl

pub misfit-returns-in_ok-broken-in-Parts : goal.misfit-returns-in_ok-broken-in-Parts
misfit-returns-in_ok-broken-in-Parts t c = λ N k. fits_parts first_name_alone N (kinds_of c.args.program.now.kinds.now) (sub_of c.args.program.now.types.now) (rule_of c.args.rule) c.args.pattern.now c.args.node (held_of c.args.held.now) c.in_ok-broken-in-Parts.broken _ c.in-Tuple.is c.args.held.now.value.now refl c.in-Parts.field-0 c.in-Parts.values c.in_ok-first-in-Parts.first c.in-Parts.is c.in_ok-first-in-Parts.ensures (c.in_ok-broken-in-Parts.ensures N k)

pub misfit-returns-in-Scalar : goal.misfit-returns-in-Scalar
misfit-returns-in-Scalar t c = λ N k. fits_scalar first_name_alone N (kinds_of c.args.program.now.kinds.now) (sub_of c.args.program.now.types.now) (rule_of c.args.rule) c.args.pattern.now c.args.node (held_of c.args.held.now) None _ c.in-Tuple.is c.args.held.now.value.now refl c.in-Scalar.is refl

pub misfit-returns-in-Array : goal.misfit-returns-in-Array
misfit-returns-in-Array t c = λ N k. fits_array first_name_alone N (kinds_of c.args.program.now.kinds.now) (sub_of c.args.program.now.types.now) (rule_of c.args.rule) c.args.pattern.now c.args.node (held_of c.args.held.now) None _ c.in-Tuple.is c.args.held.now.value.now refl c.in-Array.field-0 c.in-Array.is refl

pub misfit-returns-in-Function : goal.misfit-returns-in-Function
misfit-returns-in-Function t c = λ N k. fits_function first_name_alone N (kinds_of c.args.program.now.kinds.now) (sub_of c.args.program.now.types.now) (rule_of c.args.rule) c.args.pattern.now c.args.node (held_of c.args.held.now) None _ c.in-Tuple.is c.args.held.now.value.now refl c.in-Function.field-0 c.in-Function.field-1 c.in-Function.is refl

pub misfit-returns-in_ok-broken-in-Record : goal.misfit-returns-in_ok-broken-in-Record
misfit-returns-in_ok-broken-in-Record t c = λ N k. fits_fields first_name_alone N (kinds_of c.args.program.now.kinds.now) (sub_of c.args.program.now.types.now) (rule_of c.args.rule) c.args.pattern.now c.args.node (held_of c.args.held.now) c.in_ok-broken-in-Record.broken _ c.in_ok-first-in-Record.first c.in-Record.is c.in_ok-first-in-Record.ensures (c.in_ok-broken-in-Record.ensures N k)

pub misfit-returns-in_ok-broken-in-Typed : goal.misfit-returns-in_ok-broken-in-Typed
misfit-returns-in_ok-broken-in-Typed t c = λ N k. fits_typed first_name_alone N (kinds_of c.args.program.now.kinds.now) (sub_of c.args.program.now.types.now) (rule_of c.args.rule) c.args.pattern.now c.args.node (held_of c.args.held.now) c.in_ok-broken-in-Typed.broken _ _ (stars_of c.in_ok-wanted-in-Typed.wanted.now) c.in-Typed.is (c.in_ok-wanted-in-Typed.ensures N k) c.in_ok-broken-in-Typed.ensures

pub all_misfit-loop-i-preserved : goal.all_misfit-loop-i-preserved
all_misfit-loop-i-preserved t c = λ N k. parts_more first_name_alone N (kinds_of c.args.program.now.kinds.now) (sub_of c.args.program.now.types.now) (rule_of c.args.rule) c.args.parts.now c.args.values.now c.args.node (held_of c.args.held.now) c.loop-i.i c.loop-i.at (c.loop-i.invariant N k) _ c.index-values-i.result c.in_ok-broken.broken (held_of c.with_held-part.result) c.in_ok-at.at c.loop-i-test.true (omega (arith, c.if-i-values.false)) c.index-values-i.is c.with_held-part.ensures (c.in_ok-broken.ensures N k) (search rules) c.in_ok-at.ensures

pub all_misfit-returns-then-is_some : goal.all_misfit-returns-then-is_some
all_misfit-returns-then-is_some t c = λ N k. parts_here first_name_alone N (kinds_of c.args.program.now.kinds.now) (sub_of c.args.program.now.types.now) (rule_of c.args.rule) c.args.parts.now c.args.values.now c.args.node (held_of c.args.held.now) c.loop-i.i c.loop-i.at (c.loop-i.invariant N k) _ c.index-values-i.result c.in_ok-broken.broken (held_of c.with_held-part.result) c.loop-i-test.true (omega (arith, c.if-i-values.false)) c.index-values-i.is c.with_held-part.ensures (c.in_ok-broken.ensures N k) (search rules)

pub all_misfit-returns-then-i-values : goal.all_misfit-returns-then-i-values
all_misfit-returns-then-i-values t c = λ N k. parts_short first_name_alone N (kinds_of c.args.program.now.kinds.now) (sub_of c.args.program.now.types.now) (rule_of c.args.rule) c.args.parts.now c.args.values.now c.args.node (held_of c.args.held.now) c.loop-i.i c.loop-i.at (c.loop-i.invariant N k) (omega (arith, c.if-i-values.true))

pub all_misfit-returns : goal.all_misfit-returns
all_misfit-returns t c = λ N k. parts_end first_name_alone N (kinds_of c.args.program.now.kinds.now) (sub_of c.args.program.now.types.now) (rule_of c.args.rule) c.args.parts.now c.args.values.now c.args.node (held_of c.args.held.now) c.loop-i.i c.loop-i.at (c.loop-i.invariant N k) (omega (arith, c.loop-i-test.false))

pub fields_misfit-loop-field-preserved : goal.fields_misfit-loop-field-preserved
fields_misfit-loop-field-preserved t c = λ N k. fields_more first_name_alone N (kinds_of c.args.program.now.kinds.now) (sub_of c.args.program.now.types.now) (rule_of c.args.rule) c.args.fields.now c.args.node (held_of c.args.held.now) c.loop-field.field-index c.loop-field.at (c.loop-field.invariant N k) _ c.in_ok-broken.broken (value_of c.in_ok-value.value.now) (held_of c.with_held-part.result) c.loop-field-test.true (c.in_ok-value.ensures N k) c.with_held-part.ensures (c.in_ok-broken.ensures N k) c.in_ok-at.at (search rules) c.in_ok-at.ensures

pub fields_misfit-returns-then-is_some : goal.fields_misfit-returns-then-is_some
fields_misfit-returns-then-is_some t c = λ N k. fields_here first_name_alone N (kinds_of c.args.program.now.kinds.now) (sub_of c.args.program.now.types.now) (rule_of c.args.rule) c.args.fields.now c.args.node (held_of c.args.held.now) c.loop-field.field-index c.loop-field.at (c.loop-field.invariant N k) _ c.in_ok-broken.broken (value_of c.in_ok-value.value.now) (held_of c.with_held-part.result) c.loop-field-test.true (c.in_ok-value.ensures N k) c.with_held-part.ensures (c.in_ok-broken.ensures N k) (search rules)

pub fields_misfit-returns : goal.fields_misfit-returns
fields_misfit-returns t c = λ N k. fields_end first_name_alone N (kinds_of c.args.program.now.kinds.now) (sub_of c.args.program.now.types.now) (rule_of c.args.rule) c.args.fields.now c.args.node (held_of c.args.held.now) c.loop-field.field-index c.loop-field.at (c.loop-field.invariant N k) (omega (arith, c.loop-field-test.false))
