-- The word and the text.
use Rattle.std.proofs.Common.{◌+◌, ◌≤◌, sym, ap, arith}
use Rattle.fut_token.specs.declared.token.Fixed.TheVariants as fixed
use Rattle.fut_ast.specs.declared.node.Spot.{Spot}
use Rattle.fut_grammar.specs.Reading.{has_at, parts_at, row_at}
use Rattle.parse_module_types.proofs.Stops.{part_stopped, taken}
use Rattle.parse_types.proofs.ReadLaws.{low_as}
use Rattle.fut_parser.proofs.modules.imported.Goals as goal

pub returns-in-Err : goal.returns-in-Err
unfolding row_at parts_at has_at
returns-in-Err c = record { exact = rw (taken fixed.KeyImport c.args.tokens.now c.requires.first, sym c.rest_of.ensures) (part_stopped c.in-Err.stop _ _ _ c.in-Err.ensures); low = tt }

pub returns : goal.returns
unfolding row_at parts_at has_at
returns c =
    let at = ap (λ (s : Spot). s.place) (sym c.next_spot.ensures) in
    let high : 1 ≤ c.args.inner + 1 = omega arith in
    record { exact = rw (taken fixed.KeyImport c.args.tokens.now c.requires.first, sym c.rest_of.ensures, c.in-Ok.ensures, at) c.made.ensures.exact; low = low_as c.made.result c.made.ensures.low high }
