-- The parts of the production, one after the other.
use Rattle.std.proofs.Common.{◌≡◌, ◌+◌, suc, sym, ap, refl, arith}
use Rattle.fut_token.specs.declared.token.Fixed.TheVariants as fixed
use Rattle.fut_ast.specs.declared.node.Spot.{Spot}
use Rattle.fut_grammar.specs.Phrases.{phrases}
use Rattle.fut_grammar.specs.Reading.{has_at, parts_at, row_at, sub_at}
use Rattle.parse_module_types.proofs.Stops.{part_stopped, stopped, taken}
use Rattle.parse_module_types.proofs.members.value.Goals as goal

pub returns-in-Err : goal.returns-in-Err
unfolding row_at parts_at has_at
returns-in-Err c = record { exact = rw (taken fixed.KeyVal c.args.tokens.now c.requires.first, sym c.rest_of-rest.ensures) (part_stopped c.in-Err.stop _ _ _ c.in-Err.ensures); low = tt }

pub returns-in-Err-take_word : goal.returns-in-Err-take_word
unfolding row_at parts_at has_at
returns-in-Err-take_word c = record { exact = rw (taken fixed.KeyVal c.args.tokens.now c.requires.first, sym c.rest_of-rest.ensures, c.in-Ok.ensures) (part_stopped c.in-Err-take_word.stop _ _ _ c.in-Err-take_word.ensures); low = tt }

pub returns-in-Err-heads : goal.returns-in-Err-heads
unfolding row_at parts_at has_at
returns-in-Err-heads c = record { exact = rw (taken fixed.KeyVal c.args.tokens.now c.requires.first, sym c.rest_of-rest.ensures, c.in-Ok.ensures, c.in-Ok-take_word.ensures) (stopped c.in-Err-heads.stop _ _ c.in-Err-heads.ensures.exact); low = tt }

pub returns-in-Err-take : goal.returns-in-Err-take
unfolding row_at parts_at has_at
returns-in-Err-take c = record { exact = rw (taken fixed.KeyVal c.args.tokens.now c.requires.first, sym c.rest_of-rest.ensures, c.in-Ok.ensures, c.in-Ok-take_word.ensures, c.in-Ok-heads.ensures.exact) (part_stopped c.in-Err-take.stop _ _ _ c.in-Err-take.ensures); low = tt }

pub returns-in-Err-whole_type : goal.returns-in-Err-whole_type
unfolding row_at parts_at has_at sub_at phrases
returns-in-Err-whole_type c = record { exact = rw (taken fixed.KeyVal c.args.tokens.now c.requires.first, sym c.rest_of-rest.ensures, c.in-Ok.ensures, c.in-Ok-take_word.ensures, c.in-Ok-heads.ensures.exact, c.in-Ok-take.ensures) (part_stopped c.in-Err-whole_type.stop _ _ _ c.in-Err-whole_type.ensures.exact); low = tt }

pub returns : goal.returns
unfolding row_at parts_at has_at sub_at phrases
returns c =
    let at = ap (λ (s : Spot). s.place) (sym c.next_spot-2.ensures) in
    let name_at = ap (λ (s : Spot). s.place) (sym c.next_spot.ensures) in
    let one : suc c.greater.result ≡ c.greater.result + 1 = omega arith in
    record { exact = rw (taken fixed.KeyVal c.args.tokens.now c.requires.first, sym c.rest_of-rest.ensures, c.in-Ok.ensures, c.in-Ok-take_word.ensures, c.in-Ok-heads.ensures.exact, c.in-Ok-take.ensures, c.in-Ok-whole_type.ensures.exact, sym c.greater.ensures, at, name_at, one) refl; low = omega (arith, c.greater.ensures, c.in-Ok-heads.ensures.low, c.in-Ok-whole_type.ensures.low) }
