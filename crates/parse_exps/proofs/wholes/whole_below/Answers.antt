-- Nothing goes on with it.
use Rattle.fut_grammar.specs.Phrases.{far_at, whole_at}
use Rattle.parse_exps.proofs.wholes.whole_below.Goals as goal

pub returns : goal.returns
unfolding whole_at far_at
returns g c = record { exact = c.whole_typed.ensures.exact _ c.last_below.ensures.exact; low = c.whole_typed.ensures.low _ c.last_below.ensures.low }
