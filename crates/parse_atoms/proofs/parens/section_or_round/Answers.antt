-- By the operator that stands next.
use Rattle.std.proofs.Common.{Some, sym, ap, ◌∙◌, arith}
use Rattle.fut_token.specs.declared.token.Fixed.TheVariants as fixed
use Rattle.fut_ast.specs.Behind.{is_section}
use Rattle.fut_ast.specs.Operators.{any_operator, behind_operator}
use Rattle.fut_ast.specs.Tokens.{starts, tail}
use Rattle.fut_grammar.specs.Phrases.{operator_section_at}
use Rattle.parse_types.proofs.ReadLaws.{low_as}
use Rattle.parse_atoms.proofs.parens.section_or_round.Goals as goal

pub returns-in-None : goal.returns-in-None
returns-in-None g c = record { exact = rw (ap any_operator (sym c.rest_of-inside.ensures) ∙ sym c.next_any_operator.ensures ∙ c.in-None.is) c.plain.ensures.exact; low = c.plain.ensures.low }

pub returns-then-not-makes_section : goal.returns-then-not-makes_section
returns-then-not-makes_section g c =
    let operator = ap any_operator (sym c.rest_of-inside.ensures) ∙ sym c.next_any_operator.ensures ∙ c.in-Some.is in
    let section = ap (λ us. is_section (Some c.in-Some.fixed) (tail us)) (sym c.rest_of-inside.ensures) ∙ ap (is_section (Some c.in-Some.fixed)) (sym c.rest_of.ensures) ∙ sym c.makes_section.ensures ∙ c.if-not-makes_section.true in
    record { exact = rw (operator, section) c.plain-then-not-makes_section.ensures.exact; low = c.plain-then-not-makes_section.ensures.low }

pub returns-then-starts_with : goal.returns-then-starts_with
unfolding operator_section_at
returns-then-starts_with g c =
    let operator = ap any_operator (sym c.rest_of-inside.ensures) ∙ sym c.next_any_operator.ensures ∙ c.in-Some.is in
    let section = ap (λ us. is_section (Some c.in-Some.fixed) (tail us)) (sym c.rest_of-inside.ensures) ∙ ap (is_section (Some c.in-Some.fixed)) (sym c.rest_of.ensures) ∙ sym c.makes_section.ensures ∙ c.if-not-makes_section.false in
    let close = ap (λ us. starts fixed.CloseParen (behind_operator c.in-Some.fixed (tail us))) (sym c.rest_of-inside.ensures) ∙ ap (λ us. starts fixed.CloseParen (behind_operator c.in-Some.fixed us)) (sym c.rest_of-else-not-makes_section.ensures) ∙ ap (starts fixed.CloseParen) (sym c.past_operator.ensures) ∙ sym c.starts_with.ensures ∙ c.if-starts_with.true in
    record { exact = rw (operator, section, close) (c.operator_in_parens.ensures.exact c.args.inner); low = low_as c.operator_in_parens.result c.operator_in_parens.ensures.low (omega arith) }

pub returns-else-starts_with : goal.returns-else-starts_with
unfolding operator_section_at
returns-else-starts_with g c =
    let operator = ap any_operator (sym c.rest_of-inside.ensures) ∙ sym c.next_any_operator.ensures ∙ c.in-Some.is in
    let section = ap (λ us. is_section (Some c.in-Some.fixed) (tail us)) (sym c.rest_of-inside.ensures) ∙ ap (is_section (Some c.in-Some.fixed)) (sym c.rest_of.ensures) ∙ sym c.makes_section.ensures ∙ c.if-not-makes_section.false in
    let close = ap (λ us. starts fixed.CloseParen (behind_operator c.in-Some.fixed (tail us))) (sym c.rest_of-inside.ensures) ∙ ap (λ us. starts fixed.CloseParen (behind_operator c.in-Some.fixed us)) (sym c.rest_of-else-not-makes_section.ensures) ∙ ap (starts fixed.CloseParen) (sym c.past_operator.ensures) ∙ sym c.starts_with.ensures ∙ c.if-starts_with.false in
    record { exact = rw (operator, section, close) c.operator_and_operand.ensures.exact; low = c.operator_and_operand.ensures.low }
