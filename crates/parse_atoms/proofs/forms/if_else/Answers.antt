-- What stops a part stops the production.
use Rattle.std.proofs.Common.{◌≡◌, ◌+◌, ◌≤◌, max, suc, sym, ap, refl, arith}
use Rattle.fut_token.specs.declared.token.Fixed.TheVariants as fixed
use Rattle.fut_ast.specs.declared.node.Spot.{Spot}
use Rattle.fut_ast.specs.Sorts.{Last, Whole}
use Rattle.fut_grammar.specs.Phrases.{phrases, read_at}
use Rattle.fut_grammar.specs.Reading.{expect, has_at, parts_at, row_at, sub_at}
use Rattle.parse_atoms.proofs.BehindLaws.{behind_fails}
use Rattle.parse_types.proofs.ReadLaws.{fails_as, low_as}
use Rattle.parse_atoms.proofs.forms.if_else.Goals as goal

pub returns-in-Err : goal.returns-in-Err
unfolding row_at parts_at has_at expect sub_at phrases
returns-in-Err g c = record { exact = fails_as c.in-Err.stop c.in-Err.ensures.exact (λ f read. rw (c.requires.first, sym c.rest_of.ensures, read) refl); low = tt }

pub returns-in-Err-read_behind : goal.returns-in-Err-read_behind
unfolding row_at parts_at has_at expect sub_at phrases
returns-in-Err-read_behind g c = record { exact = behind_fails c.in-Err-read_behind.stop fixed.KeyThen (read_at c.args.inner Whole) c.in-Ok.test.rest.now c.in-Err-read_behind.ensures.exact (λ sign f read. rw (c.requires.first, sym c.rest_of.ensures, c.in-Ok.ensures.exact, sign, read) refl) (λ none. rw (c.requires.first, sym c.rest_of.ensures, c.in-Ok.ensures.exact, none) refl); low = tt }

pub returns-in-Err-read_behind-2 : goal.returns-in-Err-read_behind-2
unfolding row_at parts_at has_at expect sub_at phrases
returns-in-Err-read_behind-2 g c = record { exact = behind_fails c.in-Err-read_behind-2.stop fixed.KeyElse (read_at c.args.inner Last) c.in-Ok-read_behind.yes.rest.now c.in-Err-read_behind-2.ensures.exact (λ sign f read. rw (c.requires.first, sym c.rest_of.ensures, c.in-Ok.ensures.exact, c.in-Ok-read_behind.ensures.sign, (rw c.in-Ok-read_behind.ensures.sign at c.in-Ok-read_behind.ensures.exact), sign, read) refl) (λ none. rw (c.requires.first, sym c.rest_of.ensures, c.in-Ok.ensures.exact, c.in-Ok-read_behind.ensures.sign, (rw c.in-Ok-read_behind.ensures.sign at c.in-Ok-read_behind.ensures.exact), none) refl); low = tt }

pub returns-in-Ok-read_behind-2 : goal.returns-in-Ok-read_behind-2
unfolding row_at parts_at has_at expect sub_at phrases
returns-in-Ok-read_behind-2 g c =
    let at = ap (λ (s : Spot). s.place) (sym c.next_spot.ensures) in
    let yes = rw c.in-Ok-read_behind.ensures.sign at c.in-Ok-read_behind.ensures.exact in
    let no = rw c.in-Ok-read_behind-2.ensures.sign at c.in-Ok-read_behind-2.ensures.exact in
    let one : suc (max (max (max 0 c.in-Ok.test.height) c.in-Ok-read_behind.yes.height) c.in-Ok-read_behind-2.no.height) ≡ c.greater-height.result + 1 = omega (arith, c.greater.ensures, c.greater-height.ensures) in
    let low : c.greater-height.result + 1 ≤ c.args.inner + 1 = omega (arith, c.greater.ensures, c.greater-height.ensures, c.in-Ok.ensures.low, c.in-Ok-read_behind.ensures.low, c.in-Ok-read_behind-2.ensures.low) in
    record { exact = rw (c.requires.first, sym c.rest_of.ensures, c.in-Ok.ensures.exact, c.in-Ok-read_behind.ensures.sign, yes, c.in-Ok-read_behind-2.ensures.sign, no, at, one) (c.ending_made.ensures.exact _ c.choice-node.ensures); low = low_as c.ending_made.result c.ending_made.ensures.low low }
