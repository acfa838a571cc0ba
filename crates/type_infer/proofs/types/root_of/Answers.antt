use Rattle.std.proofs.Common.{◌<◌, length, sym, ◌∙◌, ap, arith}
use Rattle.type_graph.specs.declared.Node.{Node}
use Rattle.type_graph.specs.Graph.{node_at}
use Rattle.type_infer.proofs.Layers.{linked, link_down}
use Rattle.type_infer.proofs.types.root_of.Goals as goal

pub loop-root-preserved : goal.loop-root-preserved
loop-root-preserved c =
    let is = ap (λ (x : Node). x.form) (sym c.loop-root.invariant.root) ∙ c.in-Link.is in
    let lower : c.in-Link.next < c.loop-root.at = link_down (length c.args.inference.now.nodes) c.loop-root.at c.in-Link.next (node_at c.args.inference.now.nodes c.loop-root.at).form is (c.requires.graph.within c.loop-root.at c.loop-root.invariant.within) in record {
      within = omega (arith, lower, c.loop-root.invariant.within);
      low = omega (arith, lower, c.loop-root.invariant.low);
      root = c.node_of-root-in-Link.ensures;
      reads = λ s t h. linked s c.args.inference.now.nodes c.loop-root.at c.in-Link.next is t (c.loop-root.invariant.reads s t h);
    }
