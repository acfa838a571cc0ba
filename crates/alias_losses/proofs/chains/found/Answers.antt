use Rattle.std.proofs.Common.{get_or, sym, ap, ◌∙◌}
use Rattle.alias_losses.proofs.Finding.{walk_start, walk_more, walk_found, walk_end}
use Rattle.alias_losses.proofs.chains.found.Goals as goal

pub chain-init : goal.chain-init
chain-init c = walk_start c.args.count c.args.alias c.args.entries.now c.args.newest.now c.number_at-at.result c.requires.chained (c.number_at-at.ensures ∙ ap (λ n. get_or c.args.newest.now n 0) c.node_of.ensures)

pub chain-preserved : goal.chain-preserved
chain-preserved c = walk_more c.args.count c.args.alias c.args.entries.now c.chain.at c.chain.invariant c.chain-test.true _ (sym c.if-is_alias.false ∙ c.is_alias.ensures)

pub returns-then-is_alias : goal.returns-then-is_alias
returns-then-is_alias c = walk_found c.args.count c.args.alias c.args.entries.now c.chain.at c.chain.invariant c.chain-test.true _ (sym c.if-is_alias.true ∙ c.is_alias.ensures)

pub returns : goal.returns
returns c = walk_end c.args.count c.args.alias c.args.entries.now c.chain.at c.chain.invariant c.chain-test.false
