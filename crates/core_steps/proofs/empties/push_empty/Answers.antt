use Rattle.std.proofs.Common.{[], ◌∷◌, ◌++◌, ◌∙◌, ap}
use Rattle.core_arrays.specs.Arenas.{with_array}
use Rattle.core_code.specs.Registers.{state}
use Rattle.core_steps.proofs.Emptying.{empty_ok}
use Rattle.core_steps.proofs.empties.push_empty.Goals as goal

pub returns-clause-told : goal.returns-clause-told
returns-clause-told c =
    empty_ok c.args.told.now (state c.args.arrays.now c.args.table.now c.args.stack.now.items) (state c.put.new.self c.args.table.now c.push-2.new.stack.items) c.put_sizes.new.sizes c.push.new.self c.in_ok-number.number c.push-2.result
    (c.in_ok-push.ensures.ok ∙ ap (λ z. z ++ 0 ∷ []) c.new-sizes.ensures) c.in_ok-put_sizes.ensures.told c.in_ok-number.ensures.number (c.in_ok-number.ensures.put ∙ ap (with_array c.args.arrays.now c.put_sizes.new.sizes) c.new.ensures) c.push-2.ensures.told
