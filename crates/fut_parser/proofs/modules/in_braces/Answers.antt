-- The parts of the production, one after the other.
use Rattle.std.proofs.Common.{◌≡◌, ◌+◌, ◌≤◌, suc, sym, ap, arith}
use Rattle.fut_token.specs.declared.token.Fixed.TheVariants as fixed
use Rattle.fut_ast.specs.declared.node.Spot.{Spot}
use Rattle.fut_grammar.specs.Reading.{has_at, parts_at, row_at}
use Rattle.parse_module_types.proofs.Stops.{part_stopped, stopped, taken}
use Rattle.parse_types.proofs.ReadLaws.{low_as}
use Rattle.fut_parser.proofs.modules.in_braces.Goals as goal

pub returns-in-Err : goal.returns-in-Err
unfolding row_at parts_at has_at
returns-in-Err g c = record { exact = rw (taken fixed.OpenBrace c.args.tokens.now c.requires.first, sym c.rest_of.ensures) (stopped c.in-Err.stop _ _ c.in-Err.ensures.exact); low = tt }

pub returns-in-Err-take : goal.returns-in-Err-take
unfolding row_at parts_at has_at
returns-in-Err-take g c = record { exact = rw (taken fixed.OpenBrace c.args.tokens.now c.requires.first, sym c.rest_of.ensures, c.in-Ok.ensures.exact) (part_stopped c.in-Err-take.stop _ _ _ c.in-Err-take.ensures); low = tt }

pub returns-in-Ok-take : goal.returns-in-Ok-take
unfolding row_at parts_at has_at
returns-in-Ok-take g c =
    let at = ap (λ (s : Spot). s.place) (sym c.next_spot.ensures) in
    let one : suc c.in-Ok.all.height ≡ c.in-Ok.all.height + 1 = omega arith in
    let high : c.in-Ok.all.height + 1 ≤ c.args.inner + 1 = omega (arith, c.in-Ok.ensures.low) in
    record { exact = rw (taken fixed.OpenBrace c.args.tokens.now c.requires.first, sym c.rest_of.ensures, c.in-Ok.ensures.exact, c.in-Ok-take.ensures, at, one) c.made.ensures.exact; low = low_as c.made.result c.made.ensures.low high }
