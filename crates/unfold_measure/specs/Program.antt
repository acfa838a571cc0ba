-- What the answers of the walk of a program say.
use Rattle.std.specs.Prelude.{◌≡◌, ℕ, ◌+◌, ◌≤◌, max, List, Option, Result, Ok, Err, Bool, true, false}
use Rattle.fut_scalar.specs.declared.place.BindId.{BindId}
use Rattle.fut_flat.specs.Erased.{FlatTerm}
use Rattle.fut_meaning.specs.declared.measured.Measured.{Measured}
use Rattle.fut_meaning.specs.Flats.{FlatTop}
use Rattle.fut_meaning.specs.Found.{Sizing}
use Rattle.fut_meaning.specs.Knowns.{Known, Scope, empty, known_as}
use Rattle.fut_meaning.specs.Walk.{Visits, Definition_visits, Program_visits}
use Rattle.fut_meaning.specs.Comes.{Program_comes, Program_lost}
use Rattle.fut_meaning.specs.Measures.{most_nodes, most_depth}
use Rattle.unfold_measure.specs.declared.stop.Stop.{Stop}
use Rattle.unfold_measure.specs.declared.stop.Stop.TheVariants.{Nodes, Depth, Lost, Memory}
use Rattle.unfold_measure.specs.declared.program.Made.{Made}
use Rattle.unfold_measure.specs.Held.{scope_of}
use Rattle.unfold_measure.specs.Answers.{Stopped}

-- why the walk of a program stops
pub data Program_stopped (sizes : Option Sizing) (entry arguments : ℕ) (ts : List FlatTop) : Stop → Type 0 where
  over_program : {n k : ℕ} {tops sc : Scope} {t : FlatTerm} → Program_comes sizes entry arguments ts n k tops sc t → most_nodes ≤ n → Program_stopped sizes entry arguments ts Nodes
  deep_program : {n k : ℕ} {tops sc : Scope} {t : FlatTerm} → Program_comes sizes entry arguments ts n k tops sc t → most_depth ≤ k → Program_stopped sizes entry arguments ts Depth
  lost_program : Program_lost sizes entry arguments ts → Program_stopped sizes entry arguments ts Lost
  program_memory : Program_stopped sizes entry arguments ts Memory

-- what is known of the definitions behind some of them
abbrev pub known_behind : Made → Scope
known_behind made = scope_of made.list.now

-- a definition behind others, which is passed over where it is not reached
pub data Definition_to (b : BindId) (e : FlatTerm) (reached : Bool) (before : Made) : Result Made Stop → Type 0 where
  definition_passed : {r : Made} → reached ≡ false → known_behind r ≡ known_behind before → r.nodes ≡ before.nodes → r.depth ≡ before.depth → Definition_to b e reached before (Ok r)
  definition_walked : {r : Made} {s : Known} {m d : ℕ} → reached ≡ true → Visits (known_behind before) empty e s m d → known_behind r ≡ known_as b s (known_behind before) → r.nodes ≡ before.nodes + m → r.depth ≡ max before.depth d → Definition_to b e reached before (Ok r)
  definition_stopped : {r : Stop} → reached ≡ true → Stopped (known_behind before) empty 0 before.nodes e r → Definition_to b e reached before (Err r)

-- the definitions, whatever the entry is applied to
pub data Definitions_to (sizes : Option Sizing) (entry : ℕ) (ts : List FlatTop) : Result Made Stop → Type 0 where
  definitions_walked : {r : Made} → Definition_visits sizes entry empty ts (known_behind r) r.nodes r.depth → Definitions_to sizes entry ts (Ok r)
  definitions_stopped : {r : Stop} → ((arguments : ℕ) → Program_stopped sizes entry arguments ts r) → Definitions_to sizes entry ts (Err r)

pub data Program_to (sizes : Option Sizing) (entry arguments : ℕ) (ts : List FlatTop) : Result Measured Stop → Type 0 where
  program_walked : {m : Measured} → Program_visits sizes entry arguments ts m.nodes m.depth → m.nodes ≤ most_nodes → m.depth ≤ most_depth → Program_to sizes entry arguments ts (Ok m)
  program_stopped : {r : Stop} → Program_stopped sizes entry arguments ts r → Program_to sizes entry arguments ts (Err r)
