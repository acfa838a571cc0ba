-- The three expressions of an `if` or of a loop, each of which has to give data.
use Rattle.std.specs.Prelude.{◌≡◌, ℕ, ◌+◌, max, Result, Ok, Err}
use Rattle.fut_scalar.specs.declared.place.BindId.{BindId}
use Rattle.fut_flat.specs.Erased.{FlatPattern, FlatTerm, FlatTurns}
use Rattle.fut_flat.specs.Terms.{Counted, Over, While}
use Rattle.fut_meaning.specs.Knowns.{Data, Scope, data_bound, known_as}
use Rattle.fut_meaning.specs.Walk.{Visits}
use Rattle.unfold_measure.specs.Held.{known_of}
use Rattle.unfold_measure.specs.Answers.{Data_to}
use Rattle.unfold_measure.specs.declared.stop.Stop.{Stop}
use Rattle.unfold_measure.specs.declared.walked.Walked.{Walked}

-- the term that says how many turns there are
abbrev pub test_of : FlatTurns → FlatTerm
test_of (Counted i n) = n
test_of (Over q a) = a
test_of (While c) = c

-- outside of a loop and inside; the names around that term, and those of a turn
pub data Turns_at (sc inside : Scope) : FlatTurns → Scope → Scope → Type 0 where
  at_counted : {i : BindId} {n : FlatTerm} → Turns_at sc inside (Counted i n) sc (known_as i Data inside)
  at_over : {q : FlatPattern} {a : FlatTerm} → Turns_at sc inside (Over q a) sc (data_bound q inside)
  at_while : {c : FlatTerm} → Turns_at sc inside (While c) inside inside

-- each of three terms gives data in its names, or the first that does not stops
pub data Stepped_to (tops sc sc1 sc2 : Scope) (level spent : ℕ) (e e1 e2 : FlatTerm) : Result Walked Stop → Type 0 where
  stepped : {r : Walked} {m d m1 d1 m2 d2 : ℕ} → Visits tops sc e Data m d → Visits tops sc1 e1 Data m1 d1 → Visits tops sc2 e2 Data m2 d2 → known_of r.known ≡ Data → r.nodes ≡ 1 + m + m1 + m2 → r.depth ≡ 1 + max d (max d1 d2) → Stepped_to tops sc sc1 sc2 level spent e e1 e2 (Ok r)
  first_stops : {r : Stop} → Data_to tops sc (level + 1) (spent + 1) e (Err r) → Stepped_to tops sc sc1 sc2 level spent e e1 e2 (Err r)
  second_stops : {r : Stop} {m d : ℕ} → Visits tops sc e Data m d → Data_to tops sc1 (level + 1) (spent + 1 + m) e1 (Err r) → Stepped_to tops sc sc1 sc2 level spent e e1 e2 (Err r)
  third_stops : {r : Stop} {m d m1 d1 : ℕ} → Visits tops sc e Data m d → Visits tops sc1 e1 Data m1 d1 → Data_to tops sc2 (level + 1) (spent + 1 + m + m1) e2 (Err r) → Stepped_to tops sc sc1 sc2 level spent e e1 e2 (Err r)
