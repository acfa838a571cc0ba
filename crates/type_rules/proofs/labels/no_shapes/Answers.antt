use Rattle.type_rules.proofs.Numbering.{no_table}
use Rattle.type_rules.proofs.labels.no_shapes.Goals as goal

pub returns : goal.returns
returns c = λ labels none nothing. no_table labels (record { records = c.new.result; labels = c.new-2.result; positions = c.new-3.result }) c.new.ensures c.new-3.ensures none nothing
