-- A name, which is bound to the field.
use Rattle.std.proofs.Common.{sym, ap, refl}
use Rattle.fut_ast.specs.declared.node.Spot.{Spot}
use Rattle.fut_grammar.specs.Reading.{row_at, parts_at, has_at}
use Rattle.parse_types.proofs.patterns.short_field.Goals as goal

pub returns-in-Ok-clause-exact : goal.returns-in-Ok-clause-exact
unfolding row_at parts_at has_at
returns-in-Ok-clause-exact c inner =
    let place = ap (λ (s : Spot). s.place) (sym c.next_spot.ensures) in
    rw (c.next_word-name.ensures, sym c.rest_of.ensures, place, c.in-Ok.ensures) refl
