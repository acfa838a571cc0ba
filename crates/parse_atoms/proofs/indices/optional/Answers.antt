-- Operands, or none.
use Rattle.std.proofs.Common.{◌≤◌, sym, ◌∙◌, refl, arith}
use Rattle.fut_grammar.specs.Phrases.{items}
use Rattle.fut_grammar.specs.Reading.{optional_at}
use Rattle.parse_types.proofs.ReadLaws.{fails_as}
use Rattle.parse_atoms.proofs.indices.optional.Goals as goal

pub returns-then-not-begins_exp_operand : goal.returns-then-not-begins_exp_operand
unfolding optional_at items
returns-then-not-begins_exp_operand g c = record { exact = rw (sym c.begins_exp_operand.ensures ∙ c.if-not-begins_exp_operand.true) refl; low = c.requires.room.1 }

pub returns-in-Err : goal.returns-in-Err
unfolding optional_at items
returns-in-Err g c = record { exact = fails_as c.in-Err.stop c.in-Err.ensures.exact (λ f read. rw (sym c.begins_exp_operand.ensures ∙ c.if-not-begins_exp_operand.false, read) refl); low = tt }

pub returns : goal.returns
unfolding optional_at items
returns g c =
    let low : c.greater.result ≤ c.args.inner = omega (arith, c.greater.ensures, c.in-Ok.ensures.low, c.requires.room.1) in
    record { exact = rw (sym c.begins_exp_operand.ensures ∙ c.if-not-begins_exp_operand.false, c.in-Ok.ensures.exact, sym c.greater.ensures) refl; low = low }
