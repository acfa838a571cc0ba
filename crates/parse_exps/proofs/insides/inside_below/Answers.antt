-- By the token that stands next.
use Rattle.std.proofs.Common.{sym, ◌∙◌, refl}
use Rattle.fut_grammar.specs.Phrases.{far_at, inside_at, phrases, read_at}
use Rattle.parse_exps.proofs.InsideLaws.{inside_whole_as}
use Rattle.parse_types.proofs.ReadLaws.{fails_as}
use Rattle.parse_exps.proofs.insides.inside_below.Goals as goal

pub returns-then-not-begins_exp_operand : goal.returns-then-not-begins_exp_operand
unfolding inside_at far_at
returns-then-not-begins_exp_operand g c =
    record { exact = rw (sym c.begins_exp_operand.ensures ∙ c.if-not-begins_exp_operand.true, inside_whole_as (phrases (read_at c.args.inner)) _ c.args.tokens.now _ c.requires.begun) (c.whole_inside.ensures.exact _ (c.whole_typed.ensures.exact _ c.big_below.ensures.exact)); low = c.whole_inside.ensures.low _ (c.whole_typed.ensures.low _ c.big_below.ensures.low) }

pub returns-in-Ok : goal.returns-in-Ok
unfolding inside_at far_at
returns-in-Ok g c =
    let operand = sym c.begins_exp_operand.ensures ∙ c.if-not-begins_exp_operand.false in
    record { exact = rw (operand, c.in-Ok.ensures.exact, sym c.next_spot.ensures) (c.inside_behind.ensures.exact c.args.tokens.now operand); low = c.inside_behind.ensures.low }

pub returns-in-Err : goal.returns-in-Err
unfolding inside_at far_at
returns-in-Err g c =
    record { exact = fails_as c.in-Err.stop c.in-Err.ensures.exact (λ f read. rw (sym c.begins_exp_operand.ensures ∙ c.if-not-begins_exp_operand.false, read) refl); low = tt }
