-- The parts of the production, one after the other.
use Rattle.std.proofs.Common.{◌≡◌, ◌+◌, suc, sym, ◌∙◌, refl, arith}
use Rattle.std.proofs.Math.Nat.{zero-max}
use Rattle.fut_token.specs.declared.token.Fixed.TheVariants as fixed
use Rattle.fut_grammar.specs.Phrases.{phrases}
use Rattle.fut_grammar.specs.Reading.{has_at, parts_at, row_at, sub_at}
use Rattle.parse_module_types.proofs.Stops.{missing, part_stopped, taken}
use Rattle.fut_parser.proofs.modules.round.Goals as goal

pub returns-in-Err : goal.returns-in-Err
unfolding row_at parts_at has_at sub_at phrases
returns-in-Err g c = record { exact = rw (taken fixed.OpenParen c.args.tokens.now c.requires.first, sym c.rest_of.ensures) (part_stopped c.in-Err.stop _ _ _ c.in-Err.ensures.exact); low = tt }

pub returns-then-not-starts_with : goal.returns-then-not-starts_with
unfolding row_at parts_at has_at sub_at phrases
returns-then-not-starts_with g c = record { exact = rw (taken fixed.OpenParen c.args.tokens.now c.requires.first, sym c.rest_of.ensures, c.in-Ok.ensures.exact, missing fixed.CloseParen c.in-Ok.found.rest.now (sym c.starts_with.ensures ∙ c.if-not-starts_with.true), c.refused.ensures) refl; low = tt }

pub returns : goal.returns
unfolding row_at parts_at has_at sub_at phrases
returns g c =
    let one : suc c.in-Ok.found.height ≡ c.in-Ok.found.height + 1 = omega arith in
    record { exact = rw (taken fixed.OpenParen c.args.tokens.now c.requires.first, sym c.rest_of.ensures, c.in-Ok.ensures.exact, taken fixed.CloseParen c.in-Ok.found.rest.now (sym c.starts_with.ensures ∙ c.if-not-starts_with.false), sym c.rest_of-2.ensures, zero-max c.in-Ok.found.height, one) refl; low = omega (arith, c.in-Ok.ensures.low) }
