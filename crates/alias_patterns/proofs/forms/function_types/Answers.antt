use Rattle.std.proofs.Common.{rules}
use Rattle.alias_patterns.proofs.HeadForms.{function_var, function_short, function_other, function_made}
use Rattle.alias_patterns.proofs.forms.function_types.Goals as goal

pub returns-then-not-is_fun : goal.returns-then-not-is_fun
returns-then-not-is_fun c = function_other c.args.ty.now c.in-Made.head c.in-Made.types c.in-Made.is (search rules)

pub returns-then-types-ne2 : goal.returns-then-types-ne2
returns-then-types-ne2 c = function_short c.args.ty.now c.in-Made.head c.in-Made.types c.in-Made.is c.if-types-ne2.true

pub returns-else-types-ne2 : goal.returns-else-types-ne2
returns-else-types-ne2 c = function_made c.args.ty.now c.in-Made.head c.in-Made.types c.in-Made.is (search rules) (search rules)

pub returns-in-Var : goal.returns-in-Var
returns-in-Var c = function_var c.args.ty.now c.in-Var.field-0 c.in-Var.is
