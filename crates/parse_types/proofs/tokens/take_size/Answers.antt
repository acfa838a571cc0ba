-- A path or a number, and the bracket behind it.
use Rattle.std.proofs.Common.{sym, ap, refl, ◌∙◌}
use Rattle.fut_ast.specs.declared.node.Spot.{Spot}
use Rattle.fut_grammar.specs.Reading.{size_at}
use Rattle.parse_types.proofs.ReadLaws.{fails_as}
use Rattle.parse_types.proofs.tokens.take_size.Goals as goal

pub returns-in-Ok-clause-exact : goal.returns-in-Ok-clause-exact
unfolding size_at
returns-in-Ok-clause-exact c =
    let place = ap (λ (s : Spot). s.place) (sym c.next_spot.ensures) in
    rw (sym c.starts_with.ensures ∙ c.if-starts_with.false, sym c.starts_with_word.ensures ∙ c.if-starts_with_word.true, c.in-Ok.ensures, place) c.closed.ensures.exact

pub returns-in-Ok-take_number-clause-exact : goal.returns-in-Ok-take_number-clause-exact
unfolding size_at
returns-in-Ok-take_number-clause-exact c =
    let place = ap (λ (s : Spot). s.place) (sym c.next_spot.ensures) in
    rw (sym c.starts_with.ensures ∙ c.if-starts_with.false, sym c.starts_with_word.ensures ∙ c.if-starts_with_word.false, sym c.starts_with_int.ensures ∙ c.if-starts_with_int.true, c.in-Ok-take_number.ensures, place) c.closed-in-Ok-take_number.ensures.exact

pub returns-in-Err-clause-exact : goal.returns-in-Err-clause-exact
unfolding size_at
returns-in-Err-clause-exact c =
    fails_as c.in-Err.stop c.in-Err.ensures (λ f read. rw (sym c.starts_with.ensures ∙ c.if-starts_with.false, sym c.starts_with_word.ensures ∙ c.if-starts_with_word.true, read) refl)

pub returns-in-Err-take_number-clause-exact : goal.returns-in-Err-take_number-clause-exact
unfolding size_at
returns-in-Err-take_number-clause-exact c =
    fails_as c.in-Err-take_number.stop c.in-Err-take_number.ensures (λ f read. rw (sym c.starts_with.ensures ∙ c.if-starts_with.false, sym c.starts_with_word.ensures ∙ c.if-starts_with_word.false, sym c.starts_with_int.ensures ∙ c.if-starts_with_int.true, read) refl)
