-- Loops, turn by turn.
use Rattle.std.specs.Prelude.{ℕ, ◌+◌, List, [], ◌∷◌, Option, Some, None, Ok}
use Rattle.fut_scalar.specs.declared.place.BindId.{BindId}
use Rattle.fut_flat.specs.Erased.{FlatPattern, FlatTerm, FlatTurns}
use Rattle.fut_flat.specs.Numbers.{pattern_numbers, turn_numbers}
use Rattle.fut_flat.specs.Terms.{Counted, Over, While}
use Rattle.fut_types.specs.Types.{Sub}
use Rattle.fut_typing.specs.Names.{Names}
use Rattle.sized_types.specs.Sizes.{Size, renamed}
use Rattle.fut_sizes.specs.Agreeing.{Answer, then_do}
use Rattle.fut_sizes.specs.Matching.{Found}
use Rattle.fut_sizes.specs.Scopes.{Scope, with_name, as_taken, bound_at, bound_by}
use Rattle.fut_sizes.specs.Sizing.{sized, finished, pattern_noted, condition_sized, lacking, differing, row_of}
use Rattle.fut_sizes.specs.Steps.{Step, give, ask, and_then, note, drop, dropped_by}
use Rattle.size_program.specs.Answers.{Going}

-- ---- what each turn's names are

-- what is counted or gone over at a node has this sized type
abbrev pub each_given : Sub → FlatTurns → ℕ → Size → Names → Step (Scope → Answer Scope)
each_given types (Counted i m) at t N = and_then (note at t) (λ z. give (λ inner. Ok (with_name i.0 t inner)))
each_given types (Over p e) at t N = and_then (pattern_noted N types p at (row_of N types t)) (λ z. give (λ inner. then_do (bound_by N [] (at + pattern_numbers p) p (row_of N types t) inner) (λ k. Ok k.scope)))
each_given types (While c) at t N = give (λ inner. Ok inner)

-- ---- a turn

-- its scope, and what the size names of the parameter took
pub record Turned : Type 0 where
  pub scope : Scope
  pub found : Found

-- the parameter of a loop at a node takes what is carried; the body is at another
abbrev pub turn_entered : Sub → ℕ → ℕ → List BindId → FlatPattern → (Scope → Answer Scope) → Size → Going Turned
turn_entered types n body sizes p each carried N scope = and_then (ask (bound_at N sizes body (1 + n + pattern_numbers p) p carried scope)) (λ k. and_then (pattern_noted N types p (1 + n) carried) (λ z.
    and_then (ask (each k.scope)) (λ inner. give (record { scope = inner; found = k.found }))))

-- the turns begin at a node, the body behind them
abbrev pub turn_sized : Sub → ℕ → List BindId → FlatPattern → FlatTurns → ℕ → FlatTerm → (Scope → Answer Scope) → Size → Going Size
turn_sized types n sizes p turns at body each carried N scope = and_then (turn_entered types n (at + turn_numbers turns) sizes p each carried N scope) (λ inside. and_then (condition_sized N types turns at inside.scope) (λ z.
    and_then (and_then (sized N types body [] (at + turn_numbers turns) inside.scope) (λ part. finished N types (at + turn_numbers turns) part)) (λ u.
    give (renamed (as_taken sizes inside.found) u))))

-- ---- turns

-- a turn keeps all, so that this is the loop's, or levels are dropped
abbrev pub kept_or_dropped : ℕ → List ℕ → Size → Step (Option Size)
kept_or_dropped n [] t = give (Some t)
kept_or_dropped n (i ∷ is) t = and_then (drop n (i ∷ is)) (λ z. give None)

abbrev pub turn_taken : Names → Sub → ℕ → Size → (Size → Step Size) → Step (Option Size)
turn_taken N types n t turn = and_then (dropped_by n) (λ ds. and_then (turn (lacking N types n ds 0 t)) (λ u. kept_or_dropped n (differing N types ds 0 (lacking N types n ds 0 t) u) (lacking N types n ds 0 t)))

abbrev pub or_again : Option Size → Step Size → Step Size
or_again (Some t) again = give t
or_again None again = again
