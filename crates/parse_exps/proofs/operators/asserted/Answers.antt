-- The two atoms of an assertion.
use Rattle.std.proofs.Common.{◌≡◌, ◌+◌, ◌≤◌, max, suc, sym, ap, ◌∙◌, refl, arith}
use Rattle.fut_token.specs.declared.token.Fixed.TheVariants as fixed
use Rattle.fut_ast.specs.Sorts.{Atom}
use Rattle.fut_ast.specs.declared.node.Spot.{Spot}
use Rattle.fut_grammar.specs.Phrases.{phrases, read_at}
use Rattle.fut_grammar.specs.Reading.{argument_at, expect, has_at, parts_at, row_at, sub_at}
use Rattle.parse_atoms.proofs.BehindLaws.{behind_fails}
use Rattle.parse_types.proofs.ReadLaws.{fails_as, low_as}
use Rattle.parse_exps.proofs.operators.asserted.Goals as goal

pub returns-in-Err : goal.returns-in-Err
unfolding row_at parts_at has_at sub_at phrases argument_at expect
returns-in-Err g c = record { exact = behind_fails c.in-Err.stop fixed.KeyAssert (read_at c.args.inner Atom) c.args.tokens.now c.in-Err.ensures.exact (λ sign f read. rw (sign, read) refl) (λ none. rw none refl); low = tt }

pub returns-then-not-begins_exp_argument : goal.returns-then-not-begins_exp_argument
unfolding row_at parts_at has_at sub_at phrases argument_at expect
returns-then-not-begins_exp_argument g c =
    let test = rw c.in-Ok.ensures.sign at c.in-Ok.ensures.exact in
    record { exact = rw (c.in-Ok.ensures.sign, test, sym c.begins_exp_argument.ensures ∙ c.if-not-begins_exp_argument.true, c.refused.ensures) refl; low = tt }

pub returns-in-Err-read : goal.returns-in-Err-read
unfolding row_at parts_at has_at sub_at phrases argument_at expect
returns-in-Err-read g c =
    let test = rw c.in-Ok.ensures.sign at c.in-Ok.ensures.exact in
    record { exact = fails_as c.in-Err-read.stop c.in-Err-read.ensures.exact (λ f read. rw (c.in-Ok.ensures.sign, test, sym c.begins_exp_argument.ensures ∙ c.if-not-begins_exp_argument.false, read) refl); low = tt }

pub returns-in-Ok-read : goal.returns-in-Ok-read
unfolding row_at parts_at has_at sub_at phrases argument_at expect
returns-in-Ok-read g c =
    let test = rw c.in-Ok.ensures.sign at c.in-Ok.ensures.exact in
    let place = ap (λ (s : Spot). s.place) (sym c.next_spot.ensures) in
    let one : suc (max (max 0 c.in-Ok.test.height) c.in-Ok-read.value.height) ≡ c.greater.result + 1 = omega (arith, c.greater.ensures) in
    let low : c.greater.result + 1 ≤ c.args.inner + 1 = omega (arith, c.greater.ensures, c.in-Ok.ensures.low, c.in-Ok-read.ensures.low) in
    record { exact = rw (c.in-Ok.ensures.sign, test, sym c.begins_exp_argument.ensures ∙ c.if-not-begins_exp_argument.false, c.in-Ok-read.ensures.exact, place, one) (c.made.ensures.exact _ c.assertion.ensures); low = low_as c.made.result c.made.ensures.low low }
