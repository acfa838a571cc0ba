-- A name.
use Rattle.std.proofs.Common.{sym, ap}
use Rattle.fut_ast.specs.declared.node.Spot.{Spot}
use Rattle.fut_grammar.specs.Reading.{row_at, parts_at, has_at}
use Rattle.parse_types.proofs.ReadLaws.{high_is}
use Rattle.parse_types.proofs.patterns.name.Goals as goal

pub returns-clause-exact : goal.returns-clause-exact
unfolding row_at parts_at has_at
returns-clause-exact c inner =
    let place = ap (λ (s : Spot). s.place) (sym c.next_spot.ensures) in
    rw (c.next_word.ensures, sym c.rest_of.ensures, place) c.made.ensures

pub returns-clause-low : goal.returns-clause-low
returns-clause-low c = high_is _ c.made.result _ _ _ c.made.ensures
