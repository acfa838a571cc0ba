-- The parts of the production, one after the other.
use Rattle.std.proofs.Common.{sym, ap, refl, arith}
use Rattle.fut_token.specs.declared.token.Fixed.TheVariants as fixed
use Rattle.fut_ast.specs.declared.node.Spot.{Spot}
use Rattle.fut_grammar.specs.Phrases.{items}
use Rattle.fut_grammar.specs.Reading.{has_at, parts_at, row_at, sub_at}
use Rattle.parse_module_types.proofs.Stops.{part_stopped, stopped, taken}
use Rattle.fut_parser.proofs.declarations.module_name.Goals as goal

pub returns-in-Err : goal.returns-in-Err
unfolding row_at parts_at has_at
returns-in-Err g c = record { exact = rw (taken fixed.KeyModule c.args.tokens.now c.requires.first, sym c.rest_of-rest.ensures) (part_stopped c.in-Err.stop _ _ _ c.in-Err.ensures); low = tt }

pub returns-in-Err-module_params : goal.returns-in-Err-module_params
unfolding row_at parts_at has_at
returns-in-Err-module_params g c = record { exact = rw (taken fixed.KeyModule c.args.tokens.now c.requires.first, sym c.rest_of-rest.ensures, c.in-Ok.ensures) (stopped c.in-Err-module_params.stop _ _ c.in-Err-module_params.ensures.exact); low = tt }

pub returns-in-Err-maybe_module_type : goal.returns-in-Err-maybe_module_type
unfolding row_at parts_at has_at
returns-in-Err-maybe_module_type g c = record { exact = rw (taken fixed.KeyModule c.args.tokens.now c.requires.first, sym c.rest_of-rest.ensures, c.in-Ok.ensures, c.in-Ok-module_params.ensures.exact) (stopped c.in-Err-maybe_module_type.stop _ _ c.in-Err-maybe_module_type.ensures.inside); low = tt }

pub returns-in-Err-take : goal.returns-in-Err-take
unfolding row_at parts_at has_at
returns-in-Err-take g c = record { exact = rw (taken fixed.KeyModule c.args.tokens.now c.requires.first, sym c.rest_of-rest.ensures, c.in-Ok.ensures, c.in-Ok-module_params.ensures.exact, c.in-Ok-maybe_module_type.ensures.inside) (part_stopped c.in-Err-take.stop _ _ _ c.in-Err-take.ensures); low = tt }

pub returns-in-Err-read : goal.returns-in-Err-read
unfolding row_at parts_at has_at sub_at items
returns-in-Err-read g c = record { exact = rw (taken fixed.KeyModule c.args.tokens.now c.requires.first, sym c.rest_of-rest.ensures, c.in-Ok.ensures, c.in-Ok-module_params.ensures.exact, c.in-Ok-maybe_module_type.ensures.inside, c.in-Ok-take.ensures) (part_stopped c.in-Err-read.stop _ _ _ c.in-Err-read.ensures.exact); low = tt }

pub returns : goal.returns
unfolding row_at parts_at has_at sub_at items
returns g c =
    let name_at = ap (λ (s : Spot). s.place) (sym c.next_spot.ensures) in
    record { exact = rw (taken fixed.KeyModule c.args.tokens.now c.requires.first, sym c.rest_of-rest.ensures, c.in-Ok.ensures, c.in-Ok-module_params.ensures.exact, c.in-Ok-maybe_module_type.ensures.inside, c.in-Ok-take.ensures, c.in-Ok-read.ensures.exact, sym c.greater.ensures, name_at) refl; low = omega (arith, c.greater.ensures, c.in-Ok-maybe_module_type.ensures.low, c.in-Ok-read.ensures.low) }
