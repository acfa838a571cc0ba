use Rattle.std.proofs.Common.{◌≡◌, ◌+◌, ◌*◌, [], List, drop, length, true}
use Rattle.fut_flat.specs.Erased.{term_of}
use Rattle.fut_sizes.specs.Agreeing.{Answer}
use Rattle.fut_sizes.specs.Applications.{Argument, Wanting, applied, functions_met}
use Rattle.fut_sizes.specs.Matching as matching
use Rattle.fut_sizes.specs.Matching.{none_opened, nothing_found}
use Rattle.fut_sizes.specs.Scopes.{Scope}
use Rattle.fut_typing.specs.Names.{Names}
use Rattle.alias_parts.specs.Known.{Knows}
use Rattle.fut_flat.proofs.ErasedForms.{turns_of}
use Rattle.size_arena.specs.Trees.{size_of}
use Rattle.size_program.specs.Tables.{In_scope}
use Rattle.size_slots.specs.Held.{Held, Holds}
use Rattle.size_applying.specs.Wanted.{All_want, Are_arguments}
use Rattle.size_applying.proofs.FunctionLaws.{Functions_left}
use Rattle.size_applying.proofs.WayLaws.{Under_way}
use Rattle.size_forms.specs.Shown.{each_is}
use Rattle.size_walk.specs.Walked.{terms_of, turn_going, types_at}
use Rattle.size_walk.proofs.FormLaws.{Row_so_far}
use Rattle.size_walk.proofs.RowLaws.{Open_so_far}
use Rattle.size_walk.proofs.SpineLaws.{Given_so_far}
use Rattle.size_walk.proofs.TurnLaws.{Turns_so_far}
use Rattle.size_walk.proofs.walk.+walk.Given as goal

abbrev pub decreases-size_lambda : goal.decreases-size_lambda
decreases-size_lambda l = 16 * l.site.now.depth + 1

abbrev pub decreases-match_function : goal.decreases-match_function
decreases-match_function l = 16 * l.site.now.depth + 2

abbrev pub decreases-match_functions : goal.decreases-match_functions
decreases-match_functions l = 16 * l.site.now.depth + 3

abbrev pub decreases-match_all : goal.decreases-match_all
decreases-match_all l = 16 * l.site.now.depth + 4

abbrev pub decreases-take : goal.decreases-take
decreases-take l = 16 * l.site.now.depth + 5

abbrev pub decreases-apply : goal.decreases-apply
decreases-apply l = 16 * l.site.now.depth + 6

abbrev pub decreases-finish_applied : goal.decreases-finish_applied
decreases-finish_applied l = 16 * l.site.now.depth + 7

abbrev pub decreases-finish : goal.decreases-finish
decreases-finish l = 16 * l.site.now.depth + 8

abbrev pub decreases-compose : goal.decreases-compose
decreases-compose l = 16 * l.site.now.depth + 7

abbrev pub decreases-size_wanted : goal.decreases-size_wanted
decreases-size_wanted l = 16 * l.site.now.depth + 2

abbrev pub decreases-as_argument : goal.decreases-as_argument
decreases-as_argument l = 16 * l.site.now.depth + 9

abbrev pub decreases-give_argument : goal.decreases-give_argument
decreases-give_argument l = 16 * l.site.now.depth + 9

abbrev pub decreases-close : goal.decreases-close
decreases-close l = 16 * l.site.now.depth + 9

abbrev pub decreases-size_part : goal.decreases-size_part
decreases-size_part l = 16 * l.site.now.depth + 0

abbrev pub decreases-size_whole : goal.decreases-size_whole
decreases-size_whole l = 16 * l.site.now.depth + 9

abbrev pub decreases-size_argument : goal.decreases-size_argument
decreases-size_argument l = 16 * l.site.now.depth + 10

abbrev pub decreases-size_apply : goal.decreases-size_apply
decreases-size_apply l = 16 * l.site.now.depth + 11

abbrev pub decreases-size_row : goal.decreases-size_row
decreases-size_row l = 16 * l.site.now.depth + 10

abbrev pub decreases-size_strict : goal.decreases-size_strict
decreases-size_strict l = 16 * l.site.now.depth + 11

abbrev pub decreases-size_if : goal.decreases-size_if
decreases-size_if l = 16 * l.site.now.depth + 10

abbrev pub decreases-open_let : goal.decreases-open_let
decreases-open_let l = 16 * l.site.now.depth + 10

abbrev pub decreases-open_lets : goal.decreases-open_lets
decreases-open_lets l = 16 * l.site.now.depth + 11

abbrev pub decreases-size_composed : goal.decreases-size_composed
decreases-size_composed l = 16 * l.site.now.depth + 11

abbrev pub decreases-size_behind : goal.decreases-size_behind
decreases-size_behind l = 16 * l.site.now.depth + 12

abbrev pub decreases-size_lets : goal.decreases-size_lets
decreases-size_lets l = 16 * l.site.now.depth + 13

abbrev pub decreases-size_each : goal.decreases-size_each
decreases-size_each l = 16 * l.site.now.depth + 10

abbrev pub decreases-size_condition : goal.decreases-size_condition
decreases-size_condition l = 16 * l.site.now.depth + 10

abbrev pub decreases-size_turn : goal.decreases-size_turn
decreases-size_turn l = 16 * l.site.now.depth + 11

abbrev pub decreases-size_turns : goal.decreases-size_turns
decreases-size_turns l = 16 * l.site.now.depth + 12

abbrev pub decreases-size_loop : goal.decreases-size_loop
decreases-size_loop l = 16 * l.site.now.depth + 13

abbrev pub invariant-size_apply-loop-left : goal.invariant-size_apply-loop-left
invariant-size_apply-loop-left l = Given_so_far (types_at l.site) l.site.program l.site.names.now (term_of l.spine.function.now) (terms_of l.spine.arguments.now) l.node l.fn.tables l.left l.function l.arguments.items l.next l.tables

abbrev pub decreases-size_apply-loop-left : goal.decreases-size_apply-loop-left
decreases-size_apply-loop-left l = l.left

abbrev pub invariant-apply-loop-argument : goal.invariant-apply-loop-argument
invariant-apply-loop-argument l = ((N : Names) → Knows l.site.program.names N → (given : List Argument) → Are_arguments N (types_at l.site) l.arguments given → Under_way N (types_at l.site) l.node l.is_regular (applied l.node l.is_regular given [] none_opened true (size_of l.size) [] nothing_found) l.fn.tables l.tables l.application l.table (drop l.argument-index l.arguments)) × Held l.table × (l.left + l.argument-index ≡ length l.arguments)

abbrev pub invariant-match_functions-loop-wanting : goal.invariant-match_functions-loop-wanting
invariant-match_functions-loop-wanting l = ((N : Names) → Knows l.site.program.names N → (ws : List Wanting) → All_want N (types_at l.site) l.wantings ws → (σ : matching.Found) → Holds l.fn.table σ → Functions_left N (types_at l.site) l.is_regular (functions_met l.is_regular ws σ) l.fn.tables l.tables l.table (drop l.wanting-index l.wantings)) × Held l.table

abbrev pub invariant-size_row-loop-exp : goal.invariant-size_row-loop-exp
invariant-size_row-loop-exp l = Row_so_far (types_at l.site) l.site.program l.site.names.now l.exps l.node l.fn.tables l.exp-index l.next l.made.items l.tables

abbrev pub invariant-open_lets-loop-one : goal.invariant-open_lets-loop-one
invariant-open_lets-loop-one l = Open_so_far (types_at l.site) l.site.program l.site.names.now l.row l.node l.fn.tables l.one-index l.next l.known.names.now l.endings.items l.tables

abbrev pub invariant-size_turns-loop-turn : goal.invariant-size_turns-loop-turn
invariant-size_turns-loop-turn l = (N : Names) (scope : Scope) (f : Scope → Answer Scope) → Knows l.site.program.names N → In_scope l.site.names.now scope → each_is (turns_of l.whole.form) l.at N l.each f → Turns_so_far N (types_at l.site) l.node (size_of l.first) (turn_going (types_at l.site) l.whole l.node l.at f N scope) l.fn.tables l.left l.tables

abbrev pub decreases-size_turns-loop-turn : goal.decreases-size_turns-loop-turn
decreases-size_turns-loop-turn l = l.left
