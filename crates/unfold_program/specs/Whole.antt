-- What the calls for whole programs answer. Where one is lost, unfolding is stuck; want of memory says nothing.
use Rattle.std.specs.Prelude.{◌≡◌, ℕ, zero, suc, ◌+◌, ◌++◌, List, [], ◌∷◌, map, length, Bool, true, false, Result, Ok, Err, Some, None}
use Rattle.fut_scalar.specs.declared.place.BindId.{BindId}
use Rattle.fut_scalar.specs.declared.sizes.DataType.{DataType}
use Rattle.fut_flat.specs.Erased.{FlatTerm}
use Rattle.fut_flat.specs.Numbers.{numbers}
use Rattle.fut_meaning.specs.Flats.{FlatTop}
use Rattle.fut_blocks.specs.declared.block.Atom.{Atom}
use Rattle.fut_blocks.specs.declared.block.Program.{Program}
use Rattle.fut_blocks.specs.Meaning.{look}
use Rattle.fut_blocks.specs.Numbered.{Upward}
use Rattle.fut_blocks.specs.Plain.{body_of, lets}
use Rattle.unfold.specs.Held.{known_of}
use Rattle.unfold.specs.Knowns.{Known, Scope, knowns, nothing_seen}
use Rattle.unfold.specs.Shapes.{All_laid, Laid, Scalar_shape, Shape, Shapes, no_shape, shape_and}
use Rattle.unfold.specs.Stuck.{No_data}
use Rattle.unfold.specs.Unfolding.{Bindings, names}
use Rattle.unfold.specs.declared.known.Known.{Known as Held_known}
use Rattle.unfold_parts.specs.Layouts.{shape_of}
use Rattle.unfold_parts.specs.Refused.{Refused}
use Rattle.unfold_parts.specs.States.{steps_of}
use Rattle.unfold_parts.specs.declared.refusal.Refusal.{Refusal}
use Rattle.unfold_parts.specs.declared.refusal.Refusal.TheVariants.{Memory}
use Rattle.unfold_parts.specs.declared.steps.Unfolding.{Unfolding}
use Rattle.unfold_parts.specs.declared.told.Told.{Told as Held_told}
use Rattle.unfold_program.specs.declared.program.Given.{Given}
use Rattle.unfold_program.specs.declared.program.Made.{Made}
use Rattle.unfold_program.specs.declared.walked.Context.{Context}
use Rattle.unfold_program.specs.declared.walked.Walked.{Walked}
use Rattle.unfold_program.specs.Answers.{All_applied, defined, told}
use Rattle.unfold_parts.specs.Told.{Applies_all, Definitions_stuck, Definitions_unfold, Program_stuck, Program_unfolds, Sees, Stuck, Stuck_runs, Unfolds}

-- so many scalars
abbrev pub scalars : ℕ → Shapes
scalars zero = no_shape
scalars (suc k) = shape_and Scalar_shape (scalars k)

-- what is known of so many scalars
pub record Are_scalars (count : ℕ) (ss : List Known) : Type 0 where
  pub atoms : List Atom
  pub laid : All_laid (scalars count) (knowns ss) atoms []

-- new names for so many scalars
pub data Given_to (count n next : ℕ) : Result Given Refusal → Type 0 where
  given_to : {r : Given} → Upward n r.names.now next → All_laid (scalars count) (knowns (map known_of r.arguments.now)) (names r.names.now) [] → Given_to count n next (Ok r)
  not_given : Given_to count n next (Err Memory)

-- A definition whose term has been walked under `seen` is known behind the others, and data is entered below all names, by the
-- node of the definition's name.
pub record Is_kept (b : BindId) (before : Made) (w : Walked) (seen : Scope) (r : Made) (next : Scope) : Type 0 where
  pub same : told r.context ≡ told before.context
  pub more : defined r.context ≡ (b.0, known_of w.known) ∷ defined before.context
  pub sees : Sees (told before.context).sizes before.at (known_of w.known) seen next
  pub behind : r.at ≡ w.at

-- one more definition, which is passed over where it is not reached
pub data Defined_to (b : BindId) (e : FlatTerm) (reached : Bool) (before : Made) (seen : Scope) (old new : Unfolding) (next : Scope) : Result Made Refusal → Type 0 where
  passed_over : {r : Made} → reached ≡ false → steps_of new ≡ steps_of old → new.next ≡ old.next → told r.context ≡ told before.context → defined r.context ≡ defined before.context → next ≡ seen → r.at ≡ before.at + (1 + numbers e) → Defined_to b e reached before seen old new next (Ok r)
  defined_to : {r : Made} {w : Walked} (bs : Bindings) → reached ≡ true → steps_of new ≡ steps_of old ++ bs → Unfolds (told before.context) (defined before.context) seen (1 + before.at) e old.next bs (known_of w.known) new.next → w.at ≡ before.at + (1 + numbers e) → Is_kept b before w seen r next → Defined_to b e reached before seen old new next (Ok r)
  not_defined : {r : Refusal} → Refused ((reached ≡ true) × Stuck (told before.context) (defined before.context) seen (1 + before.at) e) r → Defined_to b e reached before seen old new next (Err r)

-- the definitions that an entry reaches
pub data Definitions_to (T : Held_told) (entry : ℕ) (ds : List FlatTop) (old new : Unfolding) : Result Made Refusal → Type 0 where
  definitions_to : {r : Made} (bs : Bindings) → steps_of new ≡ steps_of old ++ bs → told r.context ≡ T → Definitions_unfold T entry nothing_seen [] ds old.next bs (defined r.context) new.next → Definitions_to T entry ds old new (Ok r)
  no_definitions : {r : Refusal} → Refused (Definitions_stuck T entry nothing_seen [] ds) r → Definitions_to T entry ds old new (Err r)

-- all steps so far as a program, whose result this is
pub data Finished (params : List ℕ) (types : List DataType) (s : Known) (before : Unfolding) : Result Program Refusal → Type 0 where
  finished : {p : Program} {us : List Atom} → p.params.now ≡ params → p.types.now ≡ types → Laid (shape_of s) s us [] → body_of p.body ≡ lets (steps_of before) us → p.names ≡ before.next → Finished params types s before (Ok p)
  not_finished : {r : Refusal} → Refused (No_data s) r → Finished params types s before (Err r)

-- why an entry gives nothing: it was not defined, or there is no way on in it, or what it gives from these names on is no data
pub data Entry_stuck (c : Context) (entry : ℕ) (ss : List Known) (n : ℕ) : Type 0 where
  not_known : look (defined c) entry ≡ None → Entry_stuck c entry ss n
  stuck_there : {f : Known} → look (defined c) entry ≡ Some f → Stuck_runs (told c) (defined c) ss f → Entry_stuck c entry ss n
  no_data_there : {n' : ℕ} {bs : Bindings} {f s : Known} → look (defined c) entry ≡ Some f → Applies_all (told c) (defined c) ss f n bs s n' → No_data s → Entry_stuck c entry ss n

-- the entry, if it was defined, applied to its arguments, and all steps as a program
pub data Entry_to (c : Context) (entry : ℕ) (g : Given) (types : List DataType) (old : Unfolding) : Result Program Refusal → Type 0 where
  entry_to : {p : Program} {r : Held_known} {f : Known} (mid : Unfolding) → look (defined c) entry ≡ Some f → All_applied c (map known_of g.arguments.now) f old mid (Ok r) → Finished g.names.now types (known_of r) mid (Ok p) → Entry_to c entry g types old (Ok p)
  not_entered : {r : Refusal} → Refused (Entry_stuck c entry (map known_of g.arguments.now) old.next) r → Entry_to c entry g types old (Err r)

-- The public answer, for an entry with scalars of these types: the program that it unfolds to, whose result has some shape. It
-- is lost only where unfolding the program is stuck.
pub data Unfolds_to (T : Held_told) (ds : List FlatTop) (entry : ℕ) (types : List DataType) : Result Program Refusal → Type 0 where
  unfolds_to : {p : Program} (h : Shape) → Program_unfolds T ds entry (scalars (length types)) h p → p.types.now ≡ types → Unfolds_to T ds entry types (Ok p)
  no_program : {r : Refusal} → Refused (Program_stuck T ds entry (scalars (length types))) r → Unfolds_to T ds entry types (Err r)
