use Rattle.type_rules.proofs.Named.{numbered}
use Rattle.type_rules.proofs.label_table.a_table_goes_on_to_names.Goals as goal

pub returns : goal.returns
returns c = numbered
