-- The operand is read at the level behind that of the operator.
use Rattle.std.proofs.Common.{◌≡◌, ◌+◌, ◌≤◌, suc, sym, ap, ◌∙◌, refl, arith}
use Rattle.std.proofs.Math.Nat.{zero-max}
use Rattle.fut_token.specs.declared.token.Fixed.TheVariants as fixed
use Rattle.fut_ast.specs.Operators.{level}
use Rattle.fut_ast.specs.Sorts.{Base}
use Rattle.fut_ast.specs.declared.node.Spot.{Spot}
use Rattle.fut_grammar.specs.Phrases.{phrases, read_at}
use Rattle.fut_grammar.specs.Reading.{expect, has_at, parts_at, row_at, sub_at}
use Rattle.parse_types.proofs.ReadLaws.{fails_as, low_as}
use Rattle.parse_atoms.proofs.ClosingLaws.{closes}
use Rattle.parse_atoms.proofs.parens.operator_and_operand.Goals as goal

pub returns-then-starts_with : goal.returns-then-starts_with
unfolding row_at parts_at has_at sub_at phrases expect
returns-then-starts_with g c = record { exact = rw (c.requires.first, sym c.rest_of-rest.ensures, sym c.starts_with.ensures ∙ c.if-starts_with.true, c.refused.ensures) refl; low = tt }

pub returns-in-Err : goal.returns-in-Err
unfolding row_at parts_at has_at sub_at phrases expect
returns-in-Err g c = record { exact = fails_as c.in-Err.stop c.in-Err.ensures (λ f read. rw (c.requires.first, sym c.rest_of-rest.ensures, sym c.starts_with.ensures ∙ c.if-starts_with.false, read) refl); low = tt }

pub returns-in-Err-read : goal.returns-in-Err-read
unfolding row_at parts_at has_at sub_at phrases expect
returns-in-Err-read g c =
    let least : c.level_of.result + 1 ≡ suc (level c.args.fixed) = omega (arith, c.level_of.ensures.exact) in
    record { exact = fails_as c.in-Err-read.stop (rw least at c.in-Err-read.ensures.exact) (λ f read. rw (c.requires.first, sym c.rest_of-rest.ensures, sym c.starts_with.ensures ∙ c.if-starts_with.false, c.in-Ok.ensures, read) refl); low = tt }

pub returns-in-Ok-read : goal.returns-in-Ok-read
unfolding row_at parts_at has_at sub_at phrases expect
returns-in-Ok-read g c =
    let least : c.level_of.result + 1 ≡ suc (level c.args.fixed) = omega (arith, c.level_of.ensures.exact) in
    let read = rw least at c.in-Ok-read.ensures.exact in
    let paren = ap (λ (s : Spot). s.place) (sym c.next_spot.ensures) in
    let low : c.in-Ok-read.operand.height + 1 ≤ c.args.inner + 1 = omega (arith, c.in-Ok-read.ensures.low) in
    record { exact = rw (c.requires.first, sym c.rest_of-rest.ensures, sym c.starts_with.ensures ∙ c.if-starts_with.false, c.in-Ok.ensures, read, zero-max c.in-Ok-read.operand.height, paren) (closes (phrases (read_at c.args.inner)) Base fixed.CloseParen _ c.in-Ok-read.operand.height c.in-Ok-read.operand.rest.now _ c.made_before.result (c.made_before.ensures.exact _ c.section_of_right-node.ensures)); low = low_as c.made_before.result c.made_before.ensures.low low }
