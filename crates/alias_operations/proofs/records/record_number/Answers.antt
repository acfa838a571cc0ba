use Rattle.alias_operations.proofs.RecordForms.{number_made}
use Rattle.alias_operations.proofs.records.record_number.Goals as goal

pub returns-in-Made : goal.returns-in-Made
returns-in-Made c = number_made c.args.ty.now _ c.in-Made.head c.in-Made.field-1 c.in-Made.is c.number_of.ensures
