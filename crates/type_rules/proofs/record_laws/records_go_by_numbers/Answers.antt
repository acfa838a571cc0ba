use Rattle.type_rules.proofs.Naming.{record_to, record_from}
use Rattle.type_rules.proofs.record_laws.records_go_by_numbers.Goals as goal

pub returns : goal.returns
returns c = λ N are fs once number all long t us. (record_to N are fs once number all long t us, record_from N are fs once number all long t us)
