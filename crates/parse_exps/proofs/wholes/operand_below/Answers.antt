-- By the token that stands next; nothing goes on with it.
use Rattle.std.proofs.Common.{sym, ◌∙◌}
use Rattle.fut_grammar.specs.Phrases.{ended, far_at, operand_at}
use Rattle.parse_exps.proofs.wholes.operand_below.Goals as goal

pub returns-then-begins_exp_operand : goal.returns-then-begins_exp_operand
unfolding operand_at far_at
returns-then-begins_exp_operand g c =
    record { exact = rw (sym c.begins_exp_operand.ensures ∙ c.if-begins_exp_operand.true) (c.whole_chain.ensures.exact _ c.chain_below.ensures.exact); low = c.whole_chain.ensures.low _ c.chain_below.ensures.low }

pub returns-else-begins_exp_operand : goal.returns-else-begins_exp_operand
unfolding operand_at far_at ended
returns-else-begins_exp_operand g c =
    record { exact = rw (sym c.begins_exp_operand.ensures ∙ c.if-begins_exp_operand.false) (c.whole_typed.ensures.exact _ c.big_below.ensures.exact); low = c.whole_typed.ensures.low _ c.big_below.ensures.low }
