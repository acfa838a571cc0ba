use Rattle.alias_operations.proofs.WantedForms.{field_nowhere, field_of_var, field_placed}
use Rattle.alias_operations.proofs.wanted.field_place.Goals as goal

pub returns-then-index-fields : goal.returns-then-index-fields
returns-then-index-fields c = λ naming N K types k. field_nowhere naming N K types c.args.ty.now c.args.fields.now c.args.index c.in-Made.head _ c.in-Made.is c.if-index-fields.true

pub returns-in_ok-place-in-Made : goal.returns-in_ok-place-in-Made
returns-in_ok-place-in-Made c = λ naming N K types k. field_placed naming N K types c.args.ty.now c.args.fields.now c.args.index c.in-Made.head _ _ _ c.in-Made.is c.if-index-fields.false (c.in_ok-place-in-Made.ensures N k)

pub returns-in-Var : goal.returns-in-Var
returns-in-Var c = λ naming N K types k. field_of_var naming N K types c.args.ty.now c.args.fields.now c.args.index c.in-Var.field-0 c.in-Var.is
