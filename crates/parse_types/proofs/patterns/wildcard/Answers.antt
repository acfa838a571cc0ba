-- A sign.
use Rattle.std.proofs.Common.{sym, ap}
use Rattle.fut_ast.specs.declared.node.Spot.{Spot}
use Rattle.fut_grammar.specs.Reading.{row_at, parts_at, has_at, expect}
use Rattle.parse_types.proofs.patterns.wildcard.Goals as goal

pub returns-clause-exact : goal.returns-clause-exact
unfolding row_at parts_at has_at expect
returns-clause-exact c inner =
    let place = ap (λ (s : Spot). s.place) (sym c.next_spot.ensures) in
    rw (c.requires, sym c.rest_of.ensures, place) c.made.ensures
