use Rattle.alias_values.specs.Trees.{value_of}
use Rattle.alias_parts.proofs.NameForms.{with_scalar_whole, with_array_whole, with_function_whole, parts_with}
use Rattle.alias_parts.proofs.named.with_part_named.Goals as goal

pub returns-in_ok-made-in-Parts : goal.returns-in_ok-made-in-Parts
returns-in_ok-made-in-Parts c =
    λ N k. parts_with N c.args.name.now c.args.value.now c.in-Parts.head c.in-Parts.values c.in_ok-place-in-Parts.place c.args.new.now c.in_ok-all-in-Parts.all.now _ c.in-Parts.is c.in_ok-all-in-Parts.ensures (c.in_ok-place-in-Parts.ensures N k) c.in_ok-short-in-Parts.ensures c.in_ok-made-in-Parts.ensures

pub returns-in-Scalar : goal.returns-in-Scalar
returns-in-Scalar c = λ N k. with_scalar_whole N c.args.name.now c.args.value.now (value_of c.args.new.now) c.in-Scalar.is

pub returns-in-Array : goal.returns-in-Array
returns-in-Array c = λ N k. with_array_whole N c.args.name.now c.args.value.now (value_of c.args.new.now) c.in-Array.field-0 c.in-Array.is

pub returns-in-Function : goal.returns-in-Function
returns-in-Function c = λ N k. with_function_whole N c.args.name.now c.args.value.now (value_of c.args.new.now) c.in-Function.field-0 c.in-Function.field-1 c.in-Function.is
