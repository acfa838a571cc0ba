-- The parts of the production, one after the other.
use Rattle.std.proofs.Common.{sym, ap, refl, true}
use Rattle.std.proofs.Math.Nat.{zero-max}
use Rattle.fut_token.specs.declared.token.Fixed.TheVariants as fixed
use Rattle.fut_ast.specs.declared.node.Spot.{Spot}
use Rattle.fut_ast.specs.Sorts.{Whole_mtype}
use Rattle.fut_ast.specs.Tokens.{starts, tail}
use Rattle.fut_grammar.specs.Phrases.{items, read_at}
use Rattle.fut_grammar.specs.Reading.{has_at, parts_at, refuse, row_at, sub_at}
use Rattle.parse_module_types.proofs.Stops.{behind, fault_stopped, missing, part_stopped, taken}
use Rattle.parse_module_types.proofs.types.any_parameter.Goals as goal

pub returns-in-Err : goal.returns-in-Err
unfolding row_at parts_at has_at
returns-in-Err g c = record { exact = rw (taken fixed.OpenParen c.args.tokens.now c.requires.first, sym c.rest_of-rest.ensures) (part_stopped c.in-Err.stop _ _ _ c.in-Err.ensures); low = tt }

pub returns-in-Err-whole_behind : goal.returns-in-Err-whole_behind
unfolding row_at parts_at has_at sub_at items
returns-in-Err-whole_behind g c =
    let us = c.in-Ok.found.1.now in
    let e = c.in-Err-whole_behind.stop in
    record { exact = behind e (starts fixed.Colon us) (read_at c.args.inner (Whole_mtype true) (tail us)) (refuse us) c.in-Err-whole_behind.ensures.exact (λ b h. rw (taken fixed.OpenParen c.args.tokens.now c.requires.first, sym c.rest_of-rest.ensures, c.in-Ok.ensures, taken fixed.Colon us b) (part_stopped e _ _ _ h)) (λ b h. rw (taken fixed.OpenParen c.args.tokens.now c.requires.first, sym c.rest_of-rest.ensures, c.in-Ok.ensures, missing fixed.Colon us b) (fault_stopped _ _ e (refuse us) h)); low = tt }

pub returns-in-Err-take : goal.returns-in-Err-take
unfolding row_at parts_at has_at sub_at items
returns-in-Err-take g c =
    let colon = taken fixed.Colon c.in-Ok.found.1.now c.in-Ok-whole_behind.ensures.sign in
    let read = rw c.in-Ok-whole_behind.ensures.sign at c.in-Ok-whole_behind.ensures.exact in
    record { exact = rw (taken fixed.OpenParen c.args.tokens.now c.requires.first, sym c.rest_of-rest.ensures, c.in-Ok.ensures, colon, read) (part_stopped c.in-Err-take.stop _ _ _ c.in-Err-take.ensures); low = tt }

pub returns : goal.returns
unfolding row_at parts_at has_at sub_at items
returns g c =
    let name_at = ap (λ (s : Spot). s.place) (sym c.next_spot.ensures) in
    let colon = taken fixed.Colon c.in-Ok.found.1.now c.in-Ok-whole_behind.ensures.sign in
    let read = rw c.in-Ok-whole_behind.ensures.sign at c.in-Ok-whole_behind.ensures.exact in
    record { exact = rw (taken fixed.OpenParen c.args.tokens.now c.requires.first, sym c.rest_of-rest.ensures, c.in-Ok.ensures, colon, read, c.in-Ok-take.ensures, zero-max c.in-Ok-whole_behind.bound.height, name_at) refl; low = c.in-Ok-whole_behind.ensures.low }
