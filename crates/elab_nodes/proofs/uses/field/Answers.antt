use Rattle.elab_nodes.proofs.uses.field.Goals as goal

pub returns : goal.returns
returns c = c.on_part.ensures
