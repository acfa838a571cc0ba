use Rattle.std.proofs.Common.{get_or, arith, ◌∙◌, ap}
use Rattle.fut_value.specs.Leaves.{extent}
use Rattle.core_steps.proofs.Taking.{part_ok, tail_whole, whole_list}
use Rattle.core_steps.proofs.rows.row_of.Goals as goal

pub returns-clause-told : goal.returns-clause-told
returns-clause-told c =
    part_ok c.args.at c.args.i c.in_ok-part.part c.args.arrays.now c.put_part.new.self c.in-Some.sizes.now c.in_ok-rest.rest (get_or c.in-Some.sizes.now 0 0) c.in-Some-checked_mul.from c.in-Some-extent.count
    c.in-Some.ensures (whole_list c.in-Some.sizes.now c.in_ok-rest.rest (λ e. absurd (omega (arith, e, c.if-sizes-eq0.false))) (c.in_ok-rest.ensures ∙ tail_whole c.in-Some.sizes.now)) (omega (arith, c.if-i-sizes.false)) (c.in-Some-extent.ensures ∙ ap extent c.as_slice.ensures) (c.in-Some-checked_mul.ensures.1) c.in_ok-part.ensures.number c.in_ok-part.ensures.put
