-- The parts of the production, one after the other.
use Rattle.std.proofs.Common.{◌≡◌, ◌+◌, ◌≤◌, suc, sym, ap, arith}
use Rattle.std.proofs.Math.Nat.{zero-max}
use Rattle.fut_token.specs.declared.token.Fixed.TheVariants as fixed
use Rattle.fut_ast.specs.declared.node.Spot.{Spot}
use Rattle.fut_ast.specs.Sorts.{Whole_mtype}
use Rattle.fut_ast.specs.Tokens.{starts, tail}
use Rattle.fut_grammar.specs.Phrases.{phrases, read_at}
use Rattle.fut_grammar.specs.Reading.{has_at, parts_at, refuse, row_at, sub_at}
use Rattle.parse_module_types.proofs.Stops.{behind, fault_stopped, missing, part_stopped, taken}
use Rattle.parse_types.proofs.ReadLaws.{low_as}
use Rattle.parse_module_types.proofs.types.arrow.Goals as goal

pub returns-in-Err : goal.returns-in-Err
unfolding row_at parts_at has_at sub_at
returns-in-Err g c = record { exact = part_stopped c.in-Err.stop _ _ _ c.in-Err.ensures.exact; low = tt }

pub returns-in-Err-whole_behind : goal.returns-in-Err-whole_behind
unfolding row_at parts_at has_at sub_at phrases
returns-in-Err-whole_behind g c =
    let us = c.in-Ok.param.rest.now in
    let e = c.in-Err-whole_behind.stop in
    record { exact = behind e (starts fixed.Arrow us) (read_at c.args.inner (Whole_mtype c.args.arrows) (tail us)) (refuse us) c.in-Err-whole_behind.ensures.exact (λ b h. rw (c.in-Ok.ensures.exact, taken fixed.Arrow us b) (part_stopped e _ _ _ h)) (λ b h. rw (c.in-Ok.ensures.exact, missing fixed.Arrow us b) (fault_stopped _ _ e (refuse us) h)); low = tt }

pub returns : goal.returns
unfolding row_at parts_at has_at sub_at phrases
returns g c =
    let at = ap (λ (s : Spot). s.place) (sym c.next_spot.ensures) in
    let sign = taken fixed.Arrow c.in-Ok.param.rest.now c.in-Ok-whole_behind.ensures.sign in
    let read = rw c.in-Ok-whole_behind.ensures.sign at c.in-Ok-whole_behind.ensures.exact in
    let one : suc c.greater.result ≡ c.greater.result + 1 = omega arith in
    let high : c.greater.result + 1 ≤ c.args.inner + 1 = omega (arith, c.greater.ensures, c.in-Ok.ensures.low, c.in-Ok-whole_behind.ensures.low) in
    record { exact = rw (c.in-Ok.ensures.exact, sign, read, zero-max c.in-Ok.param.height, sym c.greater.ensures, at, one) c.made.ensures.exact; low = low_as c.made.result c.made.ensures.low high }
