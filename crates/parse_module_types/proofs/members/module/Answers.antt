-- The parts of the production, one after the other.
use Rattle.std.proofs.Common.{◌≡◌, ◌+◌, suc, sym, ap, refl, arith, true}
use Rattle.std.proofs.Math.Nat.{zero-max}
use Rattle.fut_token.specs.declared.token.Fixed.TheVariants as fixed
use Rattle.fut_ast.specs.declared.node.Spot.{Spot}
use Rattle.fut_ast.specs.Sorts.{Whole_mtype}
use Rattle.fut_ast.specs.Tokens.{starts, tail}
use Rattle.fut_grammar.specs.Phrases.{phrases, read_at}
use Rattle.fut_grammar.specs.Reading.{has_at, parts_at, refuse, row_at, sub_at}
use Rattle.parse_module_types.proofs.Stops.{behind, fault_stopped, missing, part_stopped, taken}
use Rattle.parse_module_types.proofs.members.module.Goals as goal

pub returns-in-Err : goal.returns-in-Err
unfolding row_at parts_at has_at
returns-in-Err g c = record { exact = rw (taken fixed.KeyModule c.args.tokens.now c.requires.first, sym c.rest_of-rest.ensures) (part_stopped c.in-Err.stop _ _ _ c.in-Err.ensures); low = tt }

pub returns-in-Err-whole_behind : goal.returns-in-Err-whole_behind
unfolding row_at parts_at has_at sub_at phrases
returns-in-Err-whole_behind g c =
    let us = c.in-Ok.found.1.now in
    let e = c.in-Err-whole_behind.stop in
    record { exact = behind e (starts fixed.Colon us) (read_at c.args.inner (Whole_mtype true) (tail us)) (refuse us) c.in-Err-whole_behind.ensures.exact (λ b h. rw (taken fixed.KeyModule c.args.tokens.now c.requires.first, sym c.rest_of-rest.ensures, c.in-Ok.ensures, taken fixed.Colon us b) (part_stopped e _ _ _ h)) (λ b h. rw (taken fixed.KeyModule c.args.tokens.now c.requires.first, sym c.rest_of-rest.ensures, c.in-Ok.ensures, missing fixed.Colon us b) (fault_stopped _ _ e (refuse us) h)); low = tt }

pub returns : goal.returns
unfolding row_at parts_at has_at sub_at phrases
returns g c =
    let at = ap (λ (s : Spot). s.place) (sym c.next_spot-2.ensures) in
    let name_at = ap (λ (s : Spot). s.place) (sym c.next_spot.ensures) in
    let colon = taken fixed.Colon c.in-Ok.found.1.now c.in-Ok-whole_behind.ensures.sign in
    let read = rw c.in-Ok-whole_behind.ensures.sign at c.in-Ok-whole_behind.ensures.exact in
    let one : suc c.in-Ok-whole_behind.bound.height ≡ c.in-Ok-whole_behind.bound.height + 1 = omega arith in
    record { exact = rw (taken fixed.KeyModule c.args.tokens.now c.requires.first, sym c.rest_of-rest.ensures, c.in-Ok.ensures, colon, read, zero-max c.in-Ok-whole_behind.bound.height, at, name_at, one) refl; low = omega (arith, c.in-Ok-whole_behind.ensures.low) }
