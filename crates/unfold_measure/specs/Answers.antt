-- What the answers of the walk say: what is known of the value and the visits of the walk, or what it comes to where it stops.
-- `level` visits lie around it, and `spent` were before it.
use Rattle.std.specs.Prelude.{◌≡◌, ◌≤◌, ◌+◌, ℕ, max, List, map, Result, Ok, Err, Option, Some, None, false}
use Rattle.std.specs.Borrow.{Bor}
use Rattle.fut_scalar.specs.declared.place.BindId.{BindId}
use Rattle.fut_flat.specs.declared.prim.Ref.{Ref}
use Rattle.fut_flat.specs.Erased.{FlatTerm}
use Rattle.fut_flat.specs.Terms.{Terms}
use Rattle.fut_meaning.specs.Knowns.{Known, Data, Knowns, known_none, known_and, Scope, data_of, is_data}
use Rattle.fut_meaning.specs.Walk.{Visits, All_visits, Row_visits, Runs, Given_visits, Function_visits}
use Rattle.fut_meaning.specs.Comes.{Inside_run, Inside_given, Inside_function, Inside_all, Inside_row, Comes, Stuck_run, Stuck_given, Stuck_function, Stuck_row, Lost as Is_lost}
use Rattle.fut_meaning.specs.Measures.{most_nodes, most_depth}
use Rattle.unfold_measure.specs.Held.{known_of, knowns, scope_of}
use Rattle.unfold_measure.specs.declared.known.Known.{Known as Held_known}
use Rattle.unfold_measure.specs.declared.known.Scope.{Scope as Held_scope}
use Rattle.unfold_measure.specs.declared.stop.Stop.{Stop}
use Rattle.unfold_measure.specs.declared.stop.Stop.TheVariants.{Nodes, Depth, Lost, Memory}
use Rattle.unfold_measure.specs.declared.walked.Walked.{Walked}
use Rattle.unfold_measure.specs.declared.walked.Count.{Count}
use Rattle.unfold_measure.specs.declared.walked.Parts.{Parts}

-- what has one part is as that part
unfoldable pub one_or_data : Knowns → Option Known
one_or_data (known_and s known_none) = Some s
one_or_data ss = data_of ss

-- what is known of something, if it has the form that is asked for
pub data Known_to (wanted : Option Known) : Result Held_known Stop → Type 0 where
  known_is : {s : Held_known} → wanted ≡ Some (known_of s) → Known_to wanted (Ok s)
  not_known : wanted ≡ None → Known_to wanted (Err Lost)
  no_memory_to_know : Known_to wanted (Err Memory)

pub data Bound_to (wanted : Option Scope) : Result (Bor Held_scope) Stop → Type 0 where
  bound_is : {inner : Bor Held_scope} → wanted ≡ Some (scope_of inner.now) → Bound_to wanted (Ok inner)
  not_bound : wanted ≡ None → Bound_to wanted (Err Lost)
  no_memory_to_bind : Bound_to wanted (Err Memory)

-- the walk of a term stops: at a visit too many, one too deep, or where it is lost
pub data Stopped (tops sc : Scope) (level spent : ℕ) (e : FlatTerm) : Stop → Type 0 where
  over : {n k : ℕ} {sc' : Scope} {t : FlatTerm} → Comes tops sc e n k sc' t → most_nodes ≤ spent + n → Stopped tops sc level spent e Nodes
  deep : {n k : ℕ} {sc' : Scope} {t : FlatTerm} → Comes tops sc e n k sc' t → most_depth ≤ level + k → Stopped tops sc level spent e Depth
  astray : {n k : ℕ} {sc' : Scope} {t : FlatTerm} → Comes tops sc e n k sc' t → Is_lost tops sc' t → Stopped tops sc level spent e Lost
  no_memory : Stopped tops sc level spent e Memory

-- what stops inside of something, at a term that it reaches or where it is stuck itself
pub data Ended (tops : Scope) (Reach : ℕ → Scope → FlatTerm → Type 0) (Stuck : Type 0) (level spent : ℕ) : Stop → Type 0 where
  ended_at : {n at : ℕ} {sc : Scope} {t : FlatTerm} {r : Stop} → Reach n sc t → at ≡ spent + n → Stopped tops sc level at t r → Ended tops Reach Stuck level spent r
  is_stuck : Stuck → Ended tops Reach Stuck level spent Lost
  no_memory_left : Ended tops Reach Stuck level spent Memory

pub data Walked_to (tops sc : Scope) (level spent : ℕ) (e : FlatTerm) : Result Walked Stop → Type 0 where
  walked : {r : Walked} → Visits tops sc e (known_of r.known) r.nodes r.depth → Walked_to tops sc level spent e (Ok r)
  stopped : {r : Stop} → Stopped tops sc level spent e r → Walked_to tops sc level spent e (Err r)

-- a term that has to give data
pub data Data_to (tops sc : Scope) (level spent : ℕ) (e : FlatTerm) : Result Count Stop → Type 0 where
  gives_data : {r : Count} → Visits tops sc e Data r.nodes r.depth → Data_to tops sc level spent e (Ok r)
  not_walked : {r : Stop} → Stopped tops sc level spent e r → Data_to tops sc level spent e (Err r)
  gives_function : {s : Known} {m d : ℕ} → Visits tops sc e s m d → is_data s ≡ false → Data_to tops sc level spent e (Err Lost)

pub data Parts_to (tops sc : Scope) (level spent : ℕ) (ts : Terms Ref BindId) : Result Parts Stop → Type 0 where
  parts_walked : {r : Parts} → All_visits tops sc ts (knowns (map known_of r.knowns.now)) r.nodes r.depth → Parts_to tops sc level spent ts (Ok r)
  parts_stopped : {r : Stop} → Ended tops (Inside_all tops sc ts) ⊥ level spent r → Parts_to tops sc level spent ts (Err r)

-- what a row still has, from what it has had: `nodes` visits, and so many of them inside each other
pub record Leads (tops sc : Scope) (e : FlatTerm) (nodes depth : ℕ) (sc' : Scope) (e' : FlatTerm) : Type 0 where
  pub visits : (s : Known) (m d : ℕ) → Row_visits tops sc' e' s m d → Row_visits tops sc e s (nodes + m) (max depth d)
  pub inside : (n : ℕ) (inner : Scope) (t : FlatTerm) → Inside_row tops sc' e' n inner t → Inside_row tops sc e (nodes + n) inner t
  pub stuck : Stuck_row tops sc' e' → Stuck_row tops sc e

-- a known function applied to an argument
pub data Ran_to (tops : Scope) (level spent : ℕ) (h s : Known) : Result Walked Stop → Type 0 where
  ran : {r : Walked} → Runs tops h s (known_of r.known) r.nodes r.depth → Ran_to tops level spent h s (Ok r)
  run_stopped : {r : Stop} → Ended tops (Inside_run tops h s) (Stuck_run tops h s) level spent r → Ran_to tops level spent h s (Err r)

pub data Given_to (tops : Scope) (level spent : ℕ) (ks : List ℕ) (ss : Knowns) : Result Count Stop → Type 0 where
  given : {r : Count} → Given_visits tops ks ss r.nodes r.depth → Given_to tops level spent ks ss (Ok r)
  given_stopped : {r : Stop} → Ended tops (Inside_given tops ks ss) (Stuck_given tops ks ss) level spent r → Given_to tops level spent ks ss (Err r)

pub data Function_to (tops : Scope) (level spent k : ℕ) (h : Known) : Result Count Stop → Type 0 where
  function_ran : {r : Count} → Function_visits tops k h r.nodes r.depth → Function_to tops level spent k h (Ok r)
  function_stopped : {r : Stop} → Ended tops (Inside_function tops k h) (Stuck_function tops k h) level spent r → Function_to tops level spent k h (Err r)
