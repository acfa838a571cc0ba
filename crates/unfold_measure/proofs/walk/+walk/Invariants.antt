use Rattle.std.proofs.Common.{◌≡◌, ℕ, ◌+◌, ◌-◌, ◌*◌, ◌≤◌, map, drop}
use Rattle.fut_flat.specs.Erased.{term_of}
use Rattle.unfold_measure.specs.Held.{known_of, knowns, scope_of}
use Rattle.unfold_measure.specs.Answers.{Leads}
use Rattle.unfold_measure.specs.Rows.{behind, how_many}
use Rattle.unfold_measure.proofs.Leads.{All_lead, Given_leads, Function_leads}
use Rattle.unfold_measure.proofs.walk.+walk.Given as goal

abbrev pub room : ℕ → ℕ → ℕ
room level nested = 8 * ((1001 - level) + (1001 - nested))

abbrev pub decreases-walk : goal.decreases-walk
decreases-walk l = room l.used.level l.used.nested + 3

abbrev pub decreases-walk_form : goal.decreases-walk_form
decreases-walk_form l = room l.used.level l.used.nested + 2

abbrev pub decreases-walk_strict : goal.decreases-walk_strict
decreases-walk_strict l = room l.used.level l.used.nested

abbrev pub decreases-walk_apply : goal.decreases-walk_apply
decreases-walk_apply l = room l.used.level l.used.nested

abbrev pub decreases-walk_loop : goal.decreases-walk_loop
decreases-walk_loop l = room l.used.level l.used.nested + 1

abbrev pub decreases-walk_steps : goal.decreases-walk_steps
decreases-walk_steps l = room l.used.level l.used.nested

abbrev pub decreases-walk_lets : goal.decreases-walk_lets
decreases-walk_lets l = room l.used.level l.used.nested + 1

abbrev pub decreases-walk_data : goal.decreases-walk_data
decreases-walk_data l = room l.used.level l.used.nested + 4

abbrev pub decreases-walk_parts : goal.decreases-walk_parts
decreases-walk_parts l = room l.used.level l.used.nested + 4

abbrev pub decreases-walk_row : goal.decreases-walk_row
decreases-walk_row l = room l.used.level l.used.nested

abbrev pub decreases-walk_assertion : goal.decreases-walk_assertion
decreases-walk_assertion l = room l.used.level l.used.nested

abbrev pub decreases-walk_behind : goal.decreases-walk_behind
decreases-walk_behind l = room l.used.level l.used.nested + 4

abbrev pub decreases-run : goal.decreases-run
decreases-run l = room l.used.level l.used.nested + 5

abbrev pub decreases-run_function : goal.decreases-run_function
decreases-run_function l = room l.used.level l.used.nested + 4

abbrev pub decreases-run_primitive : goal.decreases-run_primitive
decreases-run_primitive l = room l.used.level l.used.nested + 4

abbrev pub decreases-run_given : goal.decreases-run_given
decreases-run_given l = room l.used.level l.used.nested + 7

abbrev pub decreases-run_with_data : goal.decreases-run_with_data
decreases-run_with_data l = room l.used.level l.used.nested + 6

abbrev pub invariant-walk_parts-loop-exp : goal.invariant-walk_parts-loop-exp
invariant-walk_parts-loop-exp l = (All_lead (scope_of l.tops.known.now) (scope_of l.scope) (map term_of l.exps) l.nodes l.depth (map known_of l.knowns.items) (map term_of (drop l.exp-index l.exps))) × (l.used.spent + l.nodes ≤ 1048576) × (l.used.level + l.depth ≤ 1000)

abbrev pub invariant-run_given-loop-known : goal.invariant-run_given-loop-known
invariant-run_given-loop-known l = (Given_leads (scope_of l.tops.known.now) l.parameters (knowns (map known_of l.given)) l.made.nodes l.made.depth (drop l.at l.parameters) (knowns (map known_of (drop l.known-index l.given)))) × (l.known-index ≡ l.at) × (l.used.spent + l.made.nodes ≤ 1048576) × (l.used.level + l.made.depth ≤ 1000)

abbrev pub invariant-run_with_data-loop-left : goal.invariant-run_with_data-loop-left
invariant-run_with_data-loop-left l = (Function_leads (scope_of l.tops.known.now) l.arguments (known_of l.function) l.made.nodes l.made.depth l.left (known_of l.made.known)) × (l.used.spent + l.made.nodes ≤ 1048576) × (l.used.level + l.made.depth ≤ 1000)

abbrev pub decreases-run_with_data-loop-left : goal.decreases-run_with_data-loop-left
decreases-run_with_data-loop-left l = l.left

abbrev pub invariant-walk_row-loop-at : goal.invariant-walk_row-loop-at
invariant-walk_row-loop-at l = (Leads (scope_of l.tops.known.now) (scope_of l.scope) (behind l.lets l.body) l.row.nodes l.row.depth (scope_of l.row.scope.now) (behind l.left.lets.now l.left.body.now)) × (l.inside.spent + l.row.nodes ≤ 1048576) × (l.inside.level + l.row.depth ≤ 1000)

abbrev pub decreases-walk_row-loop-at : goal.decreases-walk_row-loop-at
decreases-walk_row-loop-at l = how_many (behind l.left.lets.now l.left.body.now)
