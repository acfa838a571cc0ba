use Rattle.std.proofs.Common.{arith}
use Rattle.alias_loops.proofs.LabelForms.{row_labels, row_within}
use Rattle.alias_loops.proofs.labels.labels_of.Goals as goal

pub labels_in-requires : goal.labels_in-requires
labels_in-requires c = record { within = row_within c.args.names.now.table.now c.args.number _ (omega (arith, c.len.ensures, c.if-number-len.false)) c.as_slice.ensures c.requires.table }

pub returns : goal.returns
returns c = λ N k. row_labels c.args.names.now.table.now c.args.number _ (omega (arith, c.len.ensures, c.if-number-len.false)) c.as_slice.ensures N.shapes _ k.shapes c.labels_in.ensures
