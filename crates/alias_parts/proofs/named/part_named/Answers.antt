use Rattle.alias_parts.proofs.NameForms.{scalar_whole, array_whole, function_whole, parts_found}
use Rattle.alias_parts.proofs.named.part_named.Goals as goal

pub returns-in_ok-found-in-Parts : goal.returns-in_ok-found-in-Parts
returns-in_ok-found-in-Parts c = λ N k. parts_found N c.args.name.now c.args.value.now c.in-Parts.head c.in-Parts.values c.in_ok-place-in-Parts.place _ c.in-Parts.is c.in_ok-found-in-Parts.ensures (c.in_ok-place-in-Parts.ensures N k) c.in_ok-short-in-Parts.ensures

pub returns-in-Scalar : goal.returns-in-Scalar
returns-in-Scalar c = λ N k. scalar_whole N c.args.name.now c.args.value.now c.in-Scalar.is

pub returns-in-Array : goal.returns-in-Array
returns-in-Array c = λ N k. array_whole N c.args.name.now c.args.value.now c.in-Array.field-0 c.in-Array.is

pub returns-in-Function : goal.returns-in-Function
returns-in-Function c = λ N k. function_whole N c.args.name.now c.args.value.now c.in-Function.field-0 c.in-Function.field-1 c.in-Function.is
