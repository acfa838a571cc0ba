use Rattle.type_infer.proofs.begin.new_inference.Goals as goal

pub returns : goal.returns
returns c = c.no_shapes.ensures c.no_labels.result c.no_labels.ensures.names c.no_labels.ensures.records
