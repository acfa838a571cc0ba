-- Nothing goes on with it.
use Rattle.fut_grammar.specs.Phrases.{far_at, operands_at}
use Rattle.parse_exps.proofs.wholes.operands_below.Goals as goal

pub returns : goal.returns
unfolding operands_at far_at
returns g c = record { exact = c.whole_chain.ensures.exact _ c.chain_below.ensures.exact; low = c.whole_chain.ensures.low _ c.chain_below.ensures.low }
