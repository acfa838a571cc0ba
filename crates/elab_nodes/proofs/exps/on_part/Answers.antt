use Rattle.elab_nodes.proofs.Parts.{part_made}
use Rattle.elab_nodes.proofs.exps.on_part.Goals as goal

pub returns : goal.returns
returns c = part_made c.args.act c.args.mark _ _ _ c.one.ensures c.strict.ensures
