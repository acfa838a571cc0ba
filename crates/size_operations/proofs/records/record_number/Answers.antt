use Rattle.size_operations.proofs.RecordForms.{number_made}
use Rattle.size_operations.proofs.records.record_number.Goals as goal

pub returns-in-Made : goal.returns-in-Made
returns-in-Made c = number_made c.args.ty.now _ _ c.in-Made.head _ c.in-Made.is c.number_of.ensures
