-- What stops a part stops the production.
use Rattle.std.proofs.Common.{sym, ◌∙◌, ap, refl}
use Rattle.std.proofs.Math.Nat.{zero-max}
use Rattle.fut_token.specs.declared.token.Fixed.TheVariants as fixed
use Rattle.fut_ast.specs.Tokens.{starts, tail}
use Rattle.fut_grammar.specs.Phrases.{items}
use Rattle.fut_grammar.specs.Reading.{expect, has_at, parts_at, row_at, sub_at}
use Rattle.fut_grammar.proofs.Bools.{and_right}
use Rattle.parse_types.proofs.ReadLaws.{fails_as, low_as}
use Rattle.parse_atoms.proofs.forms.counted.Goals as goal

pub returns-in-Err : goal.returns-in-Err
unfolding row_at parts_at has_at expect sub_at items
returns-in-Err g c =
    let less = ap (λ ts. starts fixed.Less (tail ts)) c.rest_of-behind.ensures ∙ and_right _ _ c.requires.counter in
    record { exact = fails_as c.in-Err.stop c.in-Err.ensures.exact (λ f read. rw (c.requires.first, sym c.rest_of-behind.ensures, c.next_word-name.ensures, less, sym (c.rest_of-2.ensures ∙ ap tail c.rest_of.ensures), read) refl); low = tt }

pub returns-in-Ok : goal.returns-in-Ok
unfolding row_at parts_at has_at expect sub_at items
returns-in-Ok g c =
    let less = ap (λ ts. starts fixed.Less (tail ts)) c.rest_of-behind.ensures ∙ and_right _ _ c.requires.counter in
    record { exact = rw (c.requires.first, sym c.rest_of-behind.ensures, c.next_word-name.ensures, less, sym (c.rest_of-2.ensures ∙ ap tail c.rest_of.ensures), c.in-Ok.ensures.exact, zero-max c.in-Ok.bound.height) (c.loop_made.ensures.exact _ c.for_loop.ensures); low = low_as c.loop_made.result c.loop_made.ensures.low c.in-Ok.ensures.low }
