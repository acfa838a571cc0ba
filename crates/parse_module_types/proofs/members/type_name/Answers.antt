-- The parts of the production, one after the other.
use Rattle.std.proofs.Common.{◌≡◌, ◌+◌, suc, sym, ap, refl, arith}
use Rattle.fut_token.specs.declared.token.Fixed.TheVariants as fixed
use Rattle.fut_ast.specs.declared.node.Spot.{Spot}
use Rattle.fut_grammar.specs.Reading.{has_at, parts_at, row_at}
use Rattle.parse_module_types.proofs.Stops.{part_stopped, stopped, taken}
use Rattle.parse_module_types.proofs.members.type_name.Goals as goal

pub returns-in-Err : goal.returns-in-Err
unfolding row_at parts_at has_at
returns-in-Err c = record { exact = rw (taken fixed.KeyType c.args.tokens.now c.requires.first, sym c.rest_of-rest.ensures) (part_stopped c.in-Err.stop _ _ _ c.in-Err.ensures); low = tt }

pub returns-in-Err-take_word : goal.returns-in-Err-take_word
unfolding row_at parts_at has_at
returns-in-Err-take_word c = record { exact = rw (taken fixed.KeyType c.args.tokens.now c.requires.first, sym c.rest_of-rest.ensures, c.in-Ok.ensures) (part_stopped c.in-Err-take_word.stop _ _ _ c.in-Err-take_word.ensures); low = tt }

pub returns-in-Err-maybe_type : goal.returns-in-Err-maybe_type
unfolding row_at parts_at has_at
returns-in-Err-maybe_type c = record { exact = rw (taken fixed.KeyType c.args.tokens.now c.requires.first, sym c.rest_of-rest.ensures, c.in-Ok.ensures, c.in-Ok-take_word.ensures) (stopped c.in-Err-maybe_type.stop _ _ c.in-Err-maybe_type.ensures.exact); low = tt }

pub returns : goal.returns
unfolding row_at parts_at has_at
returns c =
    let at = ap (λ (s : Spot). s.place) (sym c.next_spot-2.ensures) in
    let name_at = ap (λ (s : Spot). s.place) (sym c.next_spot.ensures) in
    let one : suc c.in-Ok-maybe_type.ty.height ≡ c.in-Ok-maybe_type.ty.height + 1 = omega arith in
    record { exact = rw (taken fixed.KeyType c.args.tokens.now c.requires.first, sym c.rest_of-rest.ensures, c.in-Ok.ensures, c.in-Ok-take_word.ensures, c.in-Ok-maybe_type.ensures.exact, at, name_at, one) refl; low = omega (arith, c.in-Ok-maybe_type.ensures.low) }
