use Rattle.std.proofs.Common.{ℕ, ◌+◌, ◌-◌, ◌*◌}
use Rattle.fut_flat.specs.declared.exp.Exp.{size-Exp}
use Rattle.fut_flat.specs.Erased.{term_of}
use Rattle.unfold.specs.Held.{known_of, scope_of}
use Rattle.unfold_program.proofs.Programs.{Applied_from}
use Rattle.unfold_program.proofs.Rows.{Lets_lead, Parts_lead, Row_leads}
use Rattle.unfold_program.proofs.walk.+walk.Given as goal

-- how deep the walk may still go
abbrev pub room : ℕ → ℕ
room level = 16 * (2001 - level)

abbrev pub decreases-walk : goal.decreases-walk
decreases-walk l = room l.level + 2

abbrev pub decreases-walk_form : goal.decreases-walk_form
decreases-walk_form l = room l.level + 12

abbrev pub decreases-walk_strict : goal.decreases-walk_strict
decreases-walk_strict l = room l.level + 8

abbrev pub decreases-walk_parts : goal.decreases-walk_parts
decreases-walk_parts l = room l.level + 3

abbrev pub decreases-walk_apply : goal.decreases-walk_apply
decreases-walk_apply l = room l.level + 8

abbrev pub decreases-walk_scalar : goal.decreases-walk_scalar
decreases-walk_scalar l = room l.level + 3

abbrev pub decreases-walk_if : goal.decreases-walk_if
decreases-walk_if l = room l.level + 8

abbrev pub decreases-walk_branches : goal.decreases-walk_branches
decreases-walk_branches l = room l.level + 4

abbrev pub decreases-walk_block : goal.decreases-walk_block
decreases-walk_block l = room l.level + 3

abbrev pub decreases-walk_loop : goal.decreases-walk_loop
decreases-walk_loop l = room l.level + 8

abbrev pub decreases-walk_first : goal.decreases-walk_first
decreases-walk_first l = room l.level + 7

abbrev pub decreases-walk_turns : goal.decreases-walk_turns
decreases-walk_turns l = room l.level + 6

abbrev pub decreases-walk_for : goal.decreases-walk_for
decreases-walk_for l = room l.level + 5

abbrev pub decreases-walk_rows : goal.decreases-walk_rows
decreases-walk_rows l = room l.level + 5

abbrev pub decreases-walk_while : goal.decreases-walk_while
decreases-walk_while l = room l.level + 5

abbrev pub decreases-walk_test : goal.decreases-walk_test
decreases-walk_test l = room l.level + 4

abbrev pub decreases-walk_lets : goal.decreases-walk_lets
decreases-walk_lets l = room l.level + 8

abbrev pub decreases-walk_row : goal.decreases-walk_row
decreases-walk_row l = room l.level + 3

abbrev pub decreases-apply : goal.decreases-apply
decreases-apply l = room l.level + 6

abbrev pub decreases-apply_to : goal.decreases-apply_to
decreases-apply_to l = room l.level + 5

abbrev pub decreases-walk_job : goal.decreases-walk_job
decreases-walk_job l = room l.level + 4

abbrev pub decreases-apply_all : goal.decreases-apply_all
decreases-apply_all l = room l.level + 7

abbrev pub invariant-walk_parts-loop-exp : goal.invariant-walk_parts-loop-exp
invariant-walk_parts-loop-exp l = Parts_lead l.context (scope_of l.scope) l.at l.exps l.fn.state l.state l.knowns.items l.next l.exp-index

abbrev pub invariant-walk_row-loop-one : goal.invariant-walk_row-loop-one
invariant-walk_row-loop-one l = Row_leads l.context l.row l.lets l.fn.state l.state l.at l.one-index

abbrev pub invariant-walk_lets-loop-rest : goal.invariant-walk_lets-loop-rest
invariant-walk_lets-loop-rest l = Lets_lead l.context (scope_of l.scope) l.at (term_of l.exp) l.fn.state l.state l.row l.rest

abbrev pub decreases-walk_lets-loop-rest : goal.decreases-walk_lets-loop-rest
decreases-walk_lets-loop-rest l = size-Exp l.rest

abbrev pub invariant-apply_all-loop-argument : goal.invariant-apply_all-loop-argument
invariant-apply_all-loop-argument l = Applied_from l.context l.arguments (known_of l.function) l.fn.state l.state l.made l.argument-index
