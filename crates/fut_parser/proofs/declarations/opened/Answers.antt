-- The parts of the production, one after the other.
use Rattle.std.proofs.Common.{sym, refl}
use Rattle.std.proofs.Math.Nat.{zero-max}
use Rattle.fut_token.specs.declared.token.Fixed.TheVariants as fixed
use Rattle.fut_grammar.specs.Phrases.{items}
use Rattle.fut_grammar.specs.Reading.{has_at, parts_at, row_at, sub_at}
use Rattle.parse_module_types.proofs.Stops.{part_stopped, taken}
use Rattle.fut_parser.proofs.declarations.opened.Goals as goal

pub returns-in-Err : goal.returns-in-Err
unfolding row_at parts_at has_at sub_at items
returns-in-Err g c = record { exact = rw (taken fixed.KeyOpen c.args.tokens.now c.requires.first, sym c.rest_of.ensures) (part_stopped c.in-Err.stop _ _ _ c.in-Err.ensures.exact); low = tt }

pub returns : goal.returns
unfolding row_at parts_at has_at sub_at items
returns g c = record { exact = rw (taken fixed.KeyOpen c.args.tokens.now c.requires.first, sym c.rest_of.ensures, c.in-Ok.ensures.exact, zero-max c.in-Ok.found.height) refl; low = c.in-Ok.ensures.low }
