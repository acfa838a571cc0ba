-- A name and its type in parentheses, an arrow and a type.
use Rattle.std.proofs.Common.{max, ◌≡◌, ◌+◌, suc, Ok, Err, sym, ap, refl, ◌∙◌, arith}
use Rattle.fut_ast.specs.declared.node.Spot.{Spot}
use Rattle.fut_ast.specs.Tokens.{is_word, tail}
use Rattle.fut_grammar.specs.Phrases.{phrases, read_at}
use Rattle.fut_grammar.proofs.Bools.{and_left, and_right}
use Rattle.parse_types.proofs.ReadLaws.{fails_as, high_as}
use Rattle.parse_types.proofs.SortLaws.{named_as, named_low, named_read}
use Rattle.parse_types.proofs.types.named_arrow.Goals as goal

pub next_word-name-requires : goal.next_word-name-requires
next_word-name-requires g c = ap is_word c.rest_of-behind.ensures ∙ and_left _ _ (and_right _ _ c.requires.named)

pub returns-in-Err-clause-exact : goal.returns-in-Err-clause-exact
unfolding phrases
returns-in-Err-clause-exact g c =
    let row = named_as (phrases (read_at c.args.inner)) c.args.tokens.now c.rest_of-behind.result.now c.next_word-name.result.now c.rest_of-behind.ensures c.requires.named c.next_word-name.ensures in
    let first = named_read c.args.inner c.read-from.result c.closed_by-inside.result (Err c.in-Err.stop) c.rest_of-2.result.now (tail (tail c.rest_of-behind.result.now)) (c.rest_of-2.ensures ∙ ap tail c.rest_of.ensures) c.read-from.ensures.0 c.closed_by-inside.ensures c.in-Err.ensures in
    fails_as c.in-Err.stop first (λ f read. rw (row, read) refl)

pub returns-in-Err-read-clause-exact : goal.returns-in-Err-read-clause-exact
unfolding phrases
returns-in-Err-read-clause-exact g c =
    let row = named_as (phrases (read_at c.args.inner)) c.args.tokens.now c.rest_of-behind.result.now c.next_word-name.result.now c.rest_of-behind.ensures c.requires.named c.next_word-name.ensures in
    let first = named_read c.args.inner c.read-from.result c.closed_by-inside.result (Ok c.in-Ok.from) c.rest_of-2.result.now (tail (tail c.rest_of-behind.result.now)) (c.rest_of-2.ensures ∙ ap tail c.rest_of.ensures) c.read-from.ensures.0 c.closed_by-inside.ensures c.in-Ok.ensures in
    fails_as c.in-Err-read.stop c.in-Err-read.ensures.0 (λ f read. rw (row, first, read) refl)

pub returns-in-Ok-read-clause-exact : goal.returns-in-Ok-read-clause-exact
unfolding phrases
returns-in-Ok-read-clause-exact g c =
    let row = named_as (phrases (read_at c.args.inner)) c.args.tokens.now c.rest_of-behind.result.now c.next_word-name.result.now c.rest_of-behind.ensures c.requires.named c.next_word-name.ensures in
    let first = named_read c.args.inner c.read-from.result c.closed_by-inside.result (Ok c.in-Ok.from) c.rest_of-2.result.now (tail (tail c.rest_of-behind.result.now)) (c.rest_of-2.ensures ∙ ap tail c.rest_of.ensures) c.read-from.ensures.0 c.closed_by-inside.ensures c.in-Ok.ensures in
    let place = ap (λ (s : Spot). s.place) (sym c.next_spot.ensures) in
    let one : suc (max c.in-Ok.from.height c.in-Ok-read.to.height) ≡ c.greater-height.result + 1 = omega (arith, c.greater-height.ensures) in
    rw (row, first, c.in-Ok-read.ensures.0, place, one) c.made.ensures

pub returns-in-Ok-read-clause-low : goal.returns-in-Ok-read-clause-low
returns-in-Ok-read-clause-low g c =
    let low = named_low c.args.inner c.read-from.result c.closed_by-inside.result (Ok c.in-Ok.from) c.read-from.ensures.1 c.closed_by-inside.ensures c.in-Ok.ensures in
    high_as _ c.made.result _ _ c.made.ensures (omega (arith, c.greater-height.ensures, low, c.in-Ok-read.ensures.1))

pub overflow_add-height : goal.overflow_add-height
overflow_add-height g c =
    let low = named_low c.args.inner c.read-from.result c.closed_by-inside.result (Ok c.in-Ok.from) c.read-from.ensures.1 c.closed_by-inside.ensures c.in-Ok.ensures in
    omega (arith, c.greater-height.ensures, low, c.in-Ok-read.ensures.1, c.requires.room)
