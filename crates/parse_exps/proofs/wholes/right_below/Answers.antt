-- By the token that stands next; nothing goes on with it.
use Rattle.std.proofs.Common.{sym, ◌∙◌}
use Rattle.fut_grammar.specs.Phrases.{ended, far_at, right_at}
use Rattle.parse_exps.proofs.wholes.right_below.Goals as goal

pub returns-then-begins_exp_operand : goal.returns-then-begins_exp_operand
unfolding right_at far_at
returns-then-begins_exp_operand g c =
    record { exact = rw (sym c.begins_exp_operand.ensures ∙ c.if-begins_exp_operand.true) (c.whole_range.ensures.exact _ c.range_below.ensures.exact); low = c.whole_range.ensures.low _ c.range_below.ensures.low }

pub returns-else-begins_exp_operand : goal.returns-else-begins_exp_operand
unfolding right_at far_at ended
returns-else-begins_exp_operand g c =
    record { exact = rw (sym c.begins_exp_operand.ensures ∙ c.if-begins_exp_operand.false) (c.whole_typed.ensures.exact _ c.big_below.ensures.exact); low = c.whole_typed.ensures.low _ c.big_below.ensures.low }
