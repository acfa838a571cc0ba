use Rattle.std.proofs.Common.{ap, sym, ◌∙◌}
use Rattle.fut_typing.specs.Answers.{default_at}
use Rattle.type_graph.specs.declared.Node.{Node}
use Rattle.sized_programs.proofs.Rows.{free_type, link_ok, open_type, row_ok}
use Rattle.sized_programs.proofs.trees.tree_of_node.Goals as goal

pub returns-in-Free : goal.returns-in-Free
returns-in-Free c =
    free_type c.args.nodes.now c.args.at c.default_tree.result (ap (λ (x : Node). x.form) (sym c.node_of-node.ensures) ∙ c.in-Free.is) (c.default_tree.ensures ∙ ap (λ (x : Node). default_at c.args.at x.kind) c.node_of-node.ensures)

pub returns-in-Link : goal.returns-in-Link
returns-in-Link c = link_ok c.args.nodes.now c.args.at c.args.made.now c.requires.made c.in-Link.next (ap (λ (x : Node). x.form) (sym c.node_of-node.ensures) ∙ c.in-Link.is) c.made_tree.result c.made_tree.ensures

pub returns-in-Made : goal.returns-in-Made
returns-in-Made c =
    row_ok c.args.nodes.now c.args.at c.args.made.now c.requires.made c.in-Made.head c.in-Made.first c.in-Made.count (ap (λ (x : Node). x.form) (sym c.node_of-node.ensures) ∙ c.in-Made.is) c.tree_of_row.result c.tree_of_row.ensures

pub returns-in-Open : goal.returns-in-Open
returns-in-Open c = open_type c.args.nodes.now c.args.at c.in-Open.field-0 c.in-Open.field-1 (ap (λ (x : Node). x.form) (sym c.node_of-node.ensures) ∙ c.in-Open.is)
