use Rattle.std.proofs.Common.{◌+◌, ◌*◌, map, take}
use Rattle.fut_flat.specs.Terms.{Apply, If, Lambda, Strict}
use Rattle.fut_flat.specs.Numbers.{all_numbers, numbers, pattern_numbers, turn_numbers}
use Rattle.fut_flat.specs.Erased.{lets, operation_of, pattern_of, patterns, term_of, terms}
use Rattle.fut_flat.proofs.ErasedForms.{loop_of, row_of, turns_of}
use Rattle.fut_typing.specs.Rows.{behind, behind_all}
use Rattle.type_constraints.specs.Parts.{value_row}
use Rattle.type_constraints.proofs.Lets.{Lets_open}
use Rattle.type_constraints.proofs.Rows.{Gone_over}
use Rattle.type_constraints.proofs.expressions.+constrain.Given as goal

abbrev pub decreases-constrain : goal.decreases-constrain
decreases-constrain l = 3 * numbers (term_of l.exp.now) + 1

abbrev pub decreases-constrain_strict : goal.decreases-constrain_strict
decreases-constrain_strict l = 3 * numbers (Strict (operation_of l.act.now) l.mark (terms (map term_of l.parts.now)))

abbrev pub decreases-constrain_parts : goal.decreases-constrain_parts
decreases-constrain_parts l = 3 * all_numbers (terms (map term_of l.parts.now)) + 2

abbrev pub decreases-constrain_apply : goal.decreases-constrain_apply
decreases-constrain_apply l = 3 * numbers (Apply (term_of l.function.now) (term_of l.argument.now))

abbrev pub decreases-constrain_if : goal.decreases-constrain_if
decreases-constrain_if l = 3 * numbers (If (term_of l.test.now) (term_of l.yes.now) (term_of l.no.now))

abbrev pub invariant-constrain_parts-loop-part : goal.invariant-constrain_parts-loop-part
invariant-constrain_parts-loop-part l = Gone_over l.setting.places l.setting.base l.setting.depth l.lo l.at (take l.part-index l.parts) l.fn.begins l.begins l.fn.inference l.inference

abbrev pub decreases-constrain_lambda : goal.decreases-constrain_lambda
decreases-constrain_lambda l = 3 * numbers (Lambda (patterns (map pattern_of l.params.now)) (term_of l.body.now))

abbrev pub decreases-constrain_lets : goal.decreases-constrain_lets
decreases-constrain_lets l = 3 * numbers (lets (map row_of l.lets.now) (term_of l.body.now))

abbrev pub decreases-constrain_rows : goal.decreases-constrain_rows
decreases-constrain_rows l = 3 * behind_all (map row_of l.lets.now) 0 + 2

abbrev pub decreases-constrain_row : goal.decreases-constrain_row
decreases-constrain_row l = 3 * behind (row_of l.one.now) 0 + 1

abbrev pub decreases-constrain_value : goal.decreases-constrain_value
decreases-constrain_value l = 3 * behind (value_row l.sizes.now (pattern_of l.pat.now) (term_of l.value.now)) 0

abbrev pub invariant-constrain_rows-loop-one : goal.invariant-constrain_rows-loop-one
invariant-constrain_rows-loop-one l = Lets_open l.setting.places l.setting.base l.setting.depth l.lo l.at (map row_of (take l.one-index l.lets)) l.fn.inference l.inference

abbrev pub decreases-constrain_loop : goal.decreases-constrain_loop
decreases-constrain_loop l = 3 * numbers (loop_of l.whole.now)

abbrev pub decreases-constrain_head : goal.decreases-constrain_head
decreases-constrain_head l = 3 * (pattern_numbers (pattern_of l.whole.now.pat) + numbers (term_of l.whole.now.first) + turn_numbers (turns_of l.whole.now.form)) + 2

abbrev pub decreases-constrain_while : goal.decreases-constrain_while
decreases-constrain_while l = 3 * (pattern_numbers (pattern_of l.whole.now.pat) + numbers (term_of l.whole.now.first) + numbers (term_of l.test.now)) + 1

abbrev pub decreases-constrain_bound : goal.decreases-constrain_bound
decreases-constrain_bound l = 3 * (pattern_numbers (pattern_of l.pat.now) + numbers (term_of l.value.now)) + 2

abbrev pub decreases-constrain_counted : goal.decreases-constrain_counted
decreases-constrain_counted l = 3 * (pattern_numbers (pattern_of l.whole.now.pat) + numbers (term_of l.whole.now.first) + (1 + numbers (term_of l.bound.now))) + 1

abbrev pub decreases-constrain_over : goal.decreases-constrain_over
decreases-constrain_over l = 3 * (pattern_numbers (pattern_of l.whole.now.pat) + numbers (term_of l.whole.now.first) + (pattern_numbers (pattern_of l.part.now) + numbers (term_of l.array.now))) + 1

abbrev pub decreases-constrain_ruled : goal.decreases-constrain_ruled
decreases-constrain_ruled l = 3 * numbers (term_of l.exp.now) + 2

abbrev pub decreases-constrain_definition : goal.decreases-constrain_definition
decreases-constrain_definition l = 3 * (1 + numbers (term_of l.value.now))
