use Rattle.std.proofs.Common.{rules}
use Rattle.alias_patterns.proofs.HeadForms.{tuple_var, tuple_other, tuple_made}
use Rattle.alias_patterns.proofs.forms.tuple_types.Goals as goal

pub returns-then-not-is_tuple : goal.returns-then-not-is_tuple
returns-then-not-is_tuple c = tuple_other c.args.ty.now c.in-Made.head c.in-Made.types c.in-Made.is (search rules)

pub returns-else-not-is_tuple : goal.returns-else-not-is_tuple
returns-else-not-is_tuple c = tuple_made c.args.ty.now c.in-Made.head c.in-Made.types c.in-Made.is (search rules)

pub returns-in-Var : goal.returns-in-Var
returns-in-Var c = tuple_var c.args.ty.now c.in-Var.field-0 c.in-Var.is
