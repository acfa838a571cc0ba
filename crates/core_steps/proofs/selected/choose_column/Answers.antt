use Rattle.std.proofs.Common.{[], ◌∷◌, ◌++◌, ◌∙◌, ap, get_or, length, arith}
use Rattle.fut_value.specs.Leaves.{extent}
use Rattle.core_steps.proofs.Choosing.{column_ok}
use Rattle.core_steps.proofs.Taking.{tail_whole, whole_list}
use Rattle.core_steps.proofs.selected.choose_column.Goals as goal

pub returns-clause-told : goal.returns-clause-told
returns-clause-told c =
    column_ok c.args.at c.args.rows.now c.args.arrays.now c.put.new.self c.in-Some.old.now c.in_ok-rest.rest c.in_ok-cells.cells c.put_words.new.into c.in-Some-words.words.now c.push.new.self (get_or c.in-Some.old.now 0 0) c.in-Some-extent.each c.in_ok-number.number
    c.in-Some.ensures (whole_list c.in-Some.old.now c.in_ok-rest.rest (λ e. absurd (omega (arith, e, c.if-old-eq0.false))) (c.in_ok-rest.ensures ∙ tail_whole c.in-Some.old.now)) (c.in-Some-extent.ensures ∙ ap extent c.as_slice.ensures) c.in-Some-words.ensures c.in_ok-cells.ensures.told
    (c.in_ok-push.ensures.ok ∙ ap (λ z. z ++ length c.args.rows.now ∷ []) c.new-sizes.ensures) (c.in_ok-put_words.ensures ∙ ap (λ z. c.push.new.self ++ z) c.as_slice-2.ensures) c.in_ok-number.ensures.number c.in_ok-number.ensures.put
