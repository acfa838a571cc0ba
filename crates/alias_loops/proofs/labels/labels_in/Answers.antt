use Rattle.alias_loops.proofs.LabelForms.{labels_cut}
use Rattle.alias_loops.proofs.labels.labels_in.Goals as goal

pub returns : goal.returns
returns c = labels_cut c.args.labels.now _ c.args.row.first c.args.row.count c.as_slice.ensures c.requires.within
