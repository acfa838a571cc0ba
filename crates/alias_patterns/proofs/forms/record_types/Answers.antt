use Rattle.std.proofs.Common.{rules}
use Rattle.alias_patterns.proofs.HeadForms.{record_var, record_other, record_made}
use Rattle.alias_patterns.proofs.forms.record_types.Goals as goal

pub returns-then-not-is_record : goal.returns-then-not-is_record
returns-then-not-is_record c = record_other c.args.ty.now c.in-Made.head c.in-Made.types c.in-Made.is (search rules)

pub returns-else-not-is_record : goal.returns-else-not-is_record
returns-else-not-is_record c = record_made c.args.ty.now c.in-Made.head c.in-Made.types c.in-Made.is (search rules)

pub returns-in-Var : goal.returns-in-Var
returns-in-Var c = record_var c.args.ty.now c.in-Var.field-0 c.in-Var.is
