use Rattle.std.proofs.Common.{length, sym, subst}
use Rattle.type_graph.specs.Graph.{Within}
use Rattle.type_infer.proofs.Layers.{made, within_default}
use Rattle.type_infer.proofs.types.type_at.Goals as goal

pub returns : goal.returns
returns c = record {
  made = made c.args.inference.now.nodes c.args.node c.root_of.result c.root_of.ensures.root c.with_default.result c.with_default.ensures;
  within = subst (Within (length c.args.inference.now.nodes) c.args.node) (sym c.with_default.ensures) (within_default (length c.args.inference.now.nodes) c.args.node c.root_of.result.kind c.root_of.result.form c.root_of.ensures.within);
}
