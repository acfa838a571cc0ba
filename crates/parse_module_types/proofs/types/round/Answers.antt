-- The parts of the production, one after the other.
use Rattle.std.proofs.Common.{◌≡◌, ◌+◌, suc, sym, refl, arith}
use Rattle.std.proofs.Math.Nat.{zero-max}
use Rattle.fut_token.specs.declared.token.Fixed.TheVariants as fixed
use Rattle.fut_grammar.specs.Phrases.{phrases}
use Rattle.fut_grammar.specs.Reading.{has_at, parts_at, row_at, sub_at}
use Rattle.parse_module_types.proofs.Stops.{part_stopped, taken}
use Rattle.parse_module_types.proofs.types.round.Goals as goal

pub returns-in-Err : goal.returns-in-Err
unfolding row_at parts_at has_at sub_at phrases
returns-in-Err g c = record { exact = rw (taken fixed.OpenParen c.args.tokens.now c.requires.first, c.requires.unnamed, sym c.rest_of.ensures) (part_stopped c.in-Err.stop _ _ _ c.in-Err.ensures.exact); low = tt }

pub returns-in-Err-take : goal.returns-in-Err-take
unfolding row_at parts_at has_at sub_at phrases
returns-in-Err-take g c = record { exact = rw (taken fixed.OpenParen c.args.tokens.now c.requires.first, c.requires.unnamed, sym c.rest_of.ensures, c.in-Ok.ensures.exact) (part_stopped c.in-Err-take.stop _ _ _ c.in-Err-take.ensures); low = tt }

pub returns-in-Ok-take : goal.returns-in-Ok-take
unfolding row_at parts_at has_at sub_at phrases
returns-in-Ok-take g c =
    let one : suc c.in-Ok.found.height ≡ c.in-Ok.found.height + 1 = omega arith in
    record { exact = rw (taken fixed.OpenParen c.args.tokens.now c.requires.first, c.requires.unnamed, sym c.rest_of.ensures, c.in-Ok.ensures.exact, c.in-Ok-take.ensures, zero-max c.in-Ok.found.height, one) refl; low = omega (arith, c.in-Ok.ensures.low) }
