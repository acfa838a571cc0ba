-- The parts of the production, one after the other.
use Rattle.std.proofs.Common.{sym, ap, refl}
use Rattle.std.proofs.Math.Nat.{zero-max}
use Rattle.fut_token.specs.declared.token.Fixed.TheVariants as fixed
use Rattle.fut_ast.specs.declared.node.Spot.{Spot}
use Rattle.fut_ast.specs.Tokens.{tail}
use Rattle.fut_grammar.specs.Phrases.{items}
use Rattle.fut_grammar.specs.Reading.{has_at, parts_at, row_at, sub_at}
use Rattle.parse_module_types.proofs.Stops.{part_stopped, taken}
use Rattle.fut_parser.proofs.definitions.module_type_name.Goals as goal

pub returns-in-Err : goal.returns-in-Err
unfolding row_at parts_at has_at
returns-in-Err c = record { exact = rw (taken fixed.KeyModule c.args.tokens.now c.requires.first, taken fixed.KeyType (tail c.args.tokens.now) c.requires.second, sym c.rest_of.ensures, sym c.rest_of-rest.ensures) (part_stopped c.in-Err.stop _ _ _ c.in-Err.ensures); low = tt }

pub returns-in-Err-take_word : goal.returns-in-Err-take_word
unfolding row_at parts_at has_at
returns-in-Err-take_word c = record { exact = rw (taken fixed.KeyModule c.args.tokens.now c.requires.first, taken fixed.KeyType (tail c.args.tokens.now) c.requires.second, sym c.rest_of.ensures, sym c.rest_of-rest.ensures, c.in-Ok.ensures) (part_stopped c.in-Err-take_word.stop _ _ _ c.in-Err-take_word.ensures); low = tt }

pub returns-in-Err-take : goal.returns-in-Err-take
unfolding row_at parts_at has_at
returns-in-Err-take c = record { exact = rw (taken fixed.KeyModule c.args.tokens.now c.requires.first, taken fixed.KeyType (tail c.args.tokens.now) c.requires.second, sym c.rest_of.ensures, sym c.rest_of-rest.ensures, c.in-Ok.ensures, c.in-Ok-take_word.ensures) (part_stopped c.in-Err-take.stop _ _ _ c.in-Err-take.ensures); low = tt }

pub returns-in-Err-module_type : goal.returns-in-Err-module_type
unfolding row_at parts_at has_at sub_at items
returns-in-Err-module_type c = record { exact = rw (taken fixed.KeyModule c.args.tokens.now c.requires.first, taken fixed.KeyType (tail c.args.tokens.now) c.requires.second, sym c.rest_of.ensures, sym c.rest_of-rest.ensures, c.in-Ok.ensures, c.in-Ok-take_word.ensures, c.in-Ok-take.ensures) (part_stopped c.in-Err-module_type.stop _ _ _ c.in-Err-module_type.ensures.exact); low = tt }

pub returns : goal.returns
unfolding row_at parts_at has_at sub_at items
returns c =
    let name_at = ap (λ (s : Spot). s.place) (sym c.next_spot.ensures) in
    record { exact = rw (taken fixed.KeyModule c.args.tokens.now c.requires.first, taken fixed.KeyType (tail c.args.tokens.now) c.requires.second, sym c.rest_of.ensures, sym c.rest_of-rest.ensures, c.in-Ok.ensures, c.in-Ok-take_word.ensures, c.in-Ok-take.ensures, c.in-Ok-module_type.ensures.exact, zero-max c.in-Ok-module_type.ty.height, name_at) refl; low = c.in-Ok-module_type.ensures.low }
