-- The parts of the production, one after the other.
use Rattle.std.proofs.Common.{◌≡◌, ◌+◌, suc, sym, ap, refl, arith, true}
use Rattle.std.proofs.Math.Nat.{zero-max}
use Rattle.fut_token.specs.declared.token.Fixed.TheVariants as fixed
use Rattle.fut_ast.specs.declared.node.Spot.{Spot}
use Rattle.fut_ast.specs.Sorts.{Whole_mtype}
use Rattle.fut_ast.specs.Tokens.{starts, tail}
use Rattle.fut_grammar.specs.Phrases.{phrases, read_at}
use Rattle.fut_grammar.specs.Reading.{has_at, parts_at, refuse, row_at, sub_at}
use Rattle.parse_module_types.proofs.Stops.{behind, fault_stopped, missing, part_stopped, taken}
use Rattle.parse_module_types.proofs.members.include.Goals as goal

pub returns-in-Err : goal.returns-in-Err
unfolding row_at parts_at has_at sub_at phrases
returns-in-Err g c =
    let us = c.args.tokens.now in
    let e = c.in-Err.stop in
    record { exact = behind e (starts fixed.KeyInclude us) (read_at c.args.inner (Whole_mtype true) (tail us)) (refuse us) c.in-Err.ensures.exact (λ b h. rw (taken fixed.KeyInclude us b) (part_stopped e _ _ _ h)) (λ b h. rw (missing fixed.KeyInclude us b) (fault_stopped _ _ e (refuse us) h)); low = tt }

pub returns : goal.returns
unfolding row_at parts_at has_at sub_at phrases
returns g c =
    let at = ap (λ (s : Spot). s.place) (sym c.next_spot.ensures) in
    let word = taken fixed.KeyInclude c.args.tokens.now c.in-Ok.ensures.sign in
    let read = rw c.in-Ok.ensures.sign at c.in-Ok.ensures.exact in
    let one : suc c.in-Ok.found.height ≡ c.in-Ok.found.height + 1 = omega arith in
    record { exact = rw (word, read, zero-max c.in-Ok.found.height, at, one) refl; low = omega (arith, c.in-Ok.ensures.low) }
