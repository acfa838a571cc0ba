-- Indices: what their parts ask for, tested against the sizes of a shape, and what they give.
use Rattle.std.specs.Prelude.{◌≡◌, ℕ, ◌≤◌, ℤ, pos, List, [], ◌∷◌, ◌++◌, map, length, drop, Bool, true, false, Option, Some, None, Result, Ok, Err}
use Rattle.fut_scalar.specs.declared.place.Place.{Place}
use Rattle.fut_scalar.specs.declared.report.Report.{Report}
use Rattle.fut_flat.specs.declared.act.Part.{Part}
use Rattle.fut_value.specs.Data.{Shape, Datum}
use Rattle.fut_meaning.specs.Arrays.{Cut, Cut_at, Cut_slice, Cut_backwards, each_out, exact_of, picks, cuts, cut, size, inner, or_else, indexed, within_weight}
use Rattle.fut_meaning.specs.Outcomes.{Out, Val, Fail, Wrong, and_then}
use Rattle.array_primitives.specs.declared.cuts.Cut.TheVariants as run
use Rattle.array_primitives.specs.declared.cuts.Cut.{Cut as Held_cut}
use Rattle.array_data.specs.declared.sizes.Exact.{Exact}
use Rattle.array_data.specs.declared.stop.Stop.{Stop}
use Rattle.array_data.specs.declared.stop.Stop.TheVariants.{Failed, Memory}
use Rattle.array_data.specs.Answers.{Tells, exact_held}

-- what an index gives of the first data, with the rest as the values of its parts
abbrev pub part_of : Place → List Part → List Datum → Out Datum
part_of at ps [] = Wrong
part_of at ps (d ∷ is) = indexed at ps d is

-- what the parts of an index ask for of rows of a shape
unfoldable pub cuts_asked : Place → List Part → List Datum → Shape → Out (List Cut)
cuts_asked at ps is h = and_then (each_out exact_of is) (λ zs. and_then (picks ps zs) (λ qs. cuts at qs h))

-- what an index gives of data, where its parts are tested against a shape
unfoldable pub taken : Place → List Part → Shape → Datum → List Datum → Out Datum
taken at ps h d is = and_then (cuts_asked at ps is h) (λ cs. and_then (cut cs d) (within_weight at))

abbrev pub cut_held : Held_cut → Cut
cut_held (run.At i) = Cut_at i
cut_held (run.Slice i j) = Cut_slice i j
cut_held run.Backwards = Cut_backwards

unfoldable pub cuts_held : List Held_cut → List Cut
cuts_held = map cut_held

-- a cut, or why there is none
pub data Cut_is (o : Out Cut) : Result Held_cut Stop → Type 0 where
  cut_is : {c : Held_cut} → o ≡ Val (cut_held c) → Cut_is o (Ok c)
  cut_fails : {r : Report} → o ≡ Fail r → Cut_is o (Err (Failed r))

-- an end, where it is written
abbrev pub if_written : Bool → ℤ → Option ℤ
if_written true z = Some z
if_written false z = None

abbrev pub all_written : Bool → ℤ → List ℤ
all_written true z = z ∷ []
all_written false z = []

-- an end of a slice, and how many of the values it takes
pub data End_read (written : Bool) (is : List Datum) (n : ℕ) : Result (Exact × ℕ) Stop → Type 0 where
  end_read : {c : Exact × ℕ} → c.1 ≤ length is → c.1 ≤ 1 → or_else (pos n) (if_written written (exact_held c.0)) ≡ exact_held c.0
      → each_out exact_of is ≡ and_then (each_out exact_of (drop c.1 is)) (λ zs. Val (all_written written (exact_held c.0) ++ zs)) → End_read written is n (Ok c)
  no_memory_end : End_read written is n (Err Memory)

-- what the first part of an index asks for of so many rows, and how many of the values it takes
pub data First_cut (at : Place) (p : Part) (is : List Datum) (n : ℕ) : Result (Held_cut × ℕ) Stop → Type 0 where
  first_cut : {c : Held_cut × ℕ} → c.1 ≤ length is
      → ((ps : List Part) (h : Shape) → size h ≡ n → cuts_asked at (p ∷ ps) is h ≡ and_then (cuts_asked at ps (drop c.1 is) (inner h)) (λ cs. Val (cut_held c.0 ∷ cs))) → First_cut at p is n (Ok c)
  first_fails : {r : Report} → ((ps : List Part) (h : Shape) → size h ≡ n → Tells (cuts_asked at (p ∷ ps) is h) (Err (Failed r))) → First_cut at p is n (Err (Failed r))
  no_memory_first : First_cut at p is n (Err Memory)

-- some cuts more
pub data Cuts_added (o : Out (List Cut)) (cs cs' : List Cut) : Result (Unit {0}) Stop → Type 0 where
  cuts_added : (more : List Cut) → o ≡ Val more → cs' ≡ cs ++ more → Cuts_added o cs cs' (Ok tt)
  cuts_fail : {r : Report} → o ≡ Fail r → Cuts_added o cs cs' (Err (Failed r))
  cuts_memory : Cuts_added o cs cs' (Err Memory)
  cuts_lost : {r : Result (Unit {0}) Stop} → o ≡ Wrong → Cuts_added o cs cs' r
