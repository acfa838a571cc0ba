-- What stops a part stops the production.
use Rattle.std.proofs.Common.{◌≡◌, ◌+◌, ◌≤◌, max, suc, sym, ap, refl, arith}
use Rattle.fut_token.specs.declared.token.Fixed.TheVariants as fixed
use Rattle.fut_ast.specs.declared.node.Spot.{Spot}
use Rattle.fut_ast.specs.Sorts.{Last}
use Rattle.fut_grammar.specs.Phrases.{phrases, read_at}
use Rattle.fut_grammar.specs.Reading.{expect, has_at, parts_at, row_at, sub_at}
use Rattle.parse_atoms.proofs.BehindLaws.{behind_fails}
use Rattle.parse_types.proofs.ReadLaws.{fails_as, low_as}
use Rattle.parse_atoms.proofs.forms.loop_form.Goals as goal

pub returns-in-Err : goal.returns-in-Err
unfolding row_at parts_at has_at expect sub_at phrases
returns-in-Err g c = record { exact = fails_as c.in-Err.stop c.in-Err.ensures (λ f read. rw read refl); low = tt }

pub returns-in-Err-size_names : goal.returns-in-Err-size_names
unfolding row_at parts_at has_at expect sub_at phrases
returns-in-Err-size_names g c = record { exact = fails_as c.in-Err-size_names.stop c.in-Err-size_names.ensures.exact (λ f read. rw (c.in-Ok.ensures, read) refl); low = tt }

pub returns-in-Err-loop_start : goal.returns-in-Err-loop_start
unfolding row_at parts_at has_at expect sub_at phrases
returns-in-Err-loop_start g c = record { exact = fails_as c.in-Err-loop_start.stop c.in-Err-loop_start.ensures.exact (λ f read. rw (c.in-Ok.ensures, c.in-Ok-size_names.ensures.exact, read) refl); low = tt }

pub returns-in-Err-loop_item : goal.returns-in-Err-loop_item
unfolding row_at parts_at has_at expect sub_at phrases
returns-in-Err-loop_item g c = record { exact = fails_as c.in-Err-loop_item.stop c.in-Err-loop_item.ensures.exact (λ f read. rw (c.in-Ok.ensures, c.in-Ok-size_names.ensures.exact, c.in-Ok-loop_start.ensures.exact, read) refl); low = tt }

pub returns-in-Err-read_behind : goal.returns-in-Err-read_behind
unfolding row_at parts_at has_at expect sub_at phrases
returns-in-Err-read_behind g c = record { exact = behind_fails c.in-Err-read_behind.stop fixed.KeyDo (read_at c.args.inner Last) c.in-Ok-loop_item.over.rest.now c.in-Err-read_behind.ensures.exact (λ sign f read. rw (c.in-Ok.ensures, c.in-Ok-size_names.ensures.exact, c.in-Ok-loop_start.ensures.exact, c.in-Ok-loop_item.ensures.exact, sign, read) refl) (λ none. rw (c.in-Ok.ensures, c.in-Ok-size_names.ensures.exact, c.in-Ok-loop_start.ensures.exact, c.in-Ok-loop_item.ensures.exact, none) refl); low = tt }

pub returns-in-Ok-read_behind : goal.returns-in-Ok-read_behind
unfolding row_at parts_at has_at expect sub_at phrases
returns-in-Ok-read_behind g c =
    let at = ap (λ (s : Spot). s.place) (sym c.next_spot.ensures) in
    let body = rw c.in-Ok-read_behind.ensures.sign at c.in-Ok-read_behind.ensures.exact in
    let one : suc (max (max c.in-Ok-loop_start.start.height c.in-Ok-loop_item.over.height) c.in-Ok-read_behind.body.height) ≡ c.greater-height.result + 1 = omega (arith, c.greater.ensures, c.greater-height.ensures) in
    let low : c.greater-height.result + 1 ≤ c.args.inner + 1 = omega (arith, c.greater.ensures, c.greater-height.ensures, c.in-Ok-loop_start.ensures.low, c.in-Ok-loop_item.ensures.low, c.in-Ok-read_behind.ensures.low) in
    record { exact = rw (c.in-Ok.ensures, c.in-Ok-size_names.ensures.exact, c.in-Ok-loop_start.ensures.exact, c.in-Ok-loop_item.ensures.exact, c.in-Ok-read_behind.ensures.sign, body, at, one) (c.ending_made.ensures.exact _ c.looping-node.ensures); low = low_as c.ending_made.result c.ending_made.ensures.low low }
