-- What the steps of a run answer, in words of the meaning. Want of memory may come anywhere; and where the meaning is wrong,
-- as it never is in a well-formed program, an answer says nothing.
use Rattle.std.specs.Prelude.{◌≡◌, ℕ, ◌<◌, ◌≤◌, List, [], ◌∷◌, ◌++◌, length, get_or, slice_get, slice_set, Bool, Option, Some, None, Result, Ok, Err}
use Rattle.fut_scalar.specs.declared.place.BindId.{BindId}
use Rattle.fut_scalar.specs.declared.report.Report.{Report}
use Rattle.fut_scalar.specs.declared.scalar.IntType.{IntType}
use Rattle.fut_scalar.specs.declared.scalar.Scalar.{Scalar}
use Rattle.fut_flat.specs.declared.prim.Ref.{Ref}
use Rattle.fut_meaning.specs.Datums.{as_values}
use Rattle.fut_meaning.specs.Operations.{equal, all_equal}
use Rattle.fut_meaning.specs.Values.{Values}
use Rattle.fut_meaning.specs.Outcomes.{Out, Val, Fail, Wrong, and_then, the}
use Rattle.fut_blocks.specs.declared.block.Atom.{Atom}
use Rattle.fut_blocks.specs.declared.block.Operation.{Operation}
use Rattle.fut_blocks.specs.Meaning.{Component, Names, as_flat, look, bound, value_of, values_of, operated, truth_of_atom, turns_of_datum, holds, the_one, Results}
use Rattle.fut_blocks.specs.Numbered.{Upward}
pub use Rattle.array_data.specs.Answers.{Tells, told, report_told, no_memory_told, lost, Copied, copied, not_copied}
use Rattle.fut_value.specs.Data.{Datum, Scalar_datum, datums}
use Rattle.array_data.specs.declared.data.Data.{Data}
use Rattle.array_data.specs.declared.data.Data.TheVariants as hold
use Rattle.array_data.specs.Held.{held, held_all}
use Rattle.array_data.specs.declared.stop.Stop.{Stop}
use Rattle.array_data.specs.declared.stop.Stop.TheVariants.{Failed, Stuck, Memory}

-- of a call that gives nothing
abbrev pub Answer : Type 0
Answer = Result (Unit {0}) Stop

-- a fact of an answer that is no error
pub data IfDone {X : Type 0} (P : Type 0) : Result X Stop → Type 0 where
  done : {x : X} → P → IfDone P (Ok x)
  not_done : {e : Stop} → IfDone P (Err e)

-- of components nothing more is asked
abbrev pub Fitting : Component → Type 0
Fitting v = Unit {0}

abbrev pub Fit : List Component → Type 0
Fit [] = Unit {0}
Fit (v ∷ vs) = Fitting v × Fit vs

-- the names that stand have numbers below `next`, and the table has their values
pub record Stands (env : Names Component) (next : ℕ) (table : List Component) : Type 0 where
  pub each : (x : ℕ) (v : Component) → look env x ≡ Some v → (x < next) × (slice_get table x ≡ Some v) × Fitting v

-- the values of the names below `next` are as before
pub record Kept (next : ℕ) (before after : List Component) : Type 0 where
  pub long : length after ≡ length before
  pub each : (x : ℕ) → x < next → slice_get after x ≡ slice_get before x

-- an outcome that the meaning has: values that are put on the stack, or a report
pub data Runs (m : Results) (next : ℕ) (table table' stack stack' : List Component) : Answer → Type 0 where
  ran : (vs : List Component) (f : ℕ) → stack' ≡ stack ++ vs → Fit vs → Kept next table table' → m (Val vs) f → Runs m next table table' stack stack' (Ok tt)
  failed : {r : Report} (f : ℕ) → m (Fail r) f → Runs m next table table' stack stack' (Err (Failed r))
  no_memory : Runs m next table table' stack stack' (Err Memory)
  gone : {r : Answer} (f : ℕ) → m Wrong f → Runs m next table table' stack stack' r

-- ---- what calls answer, whatever names stand in the table

unfoldable pub Reads : List Component → Atom → Result Component Stop → Type 0
Reads table u r = (env : Names Component) (n : ℕ) → Stands env n table → Tells (value_of env u) r

unfoldable pub Truth_at : List Component → Atom → Result Bool Stop → Type 0
Truth_at table u r = (env : Names Component) (n : ℕ) → Stands env n table → Tells (truth_of_atom env u) r

unfoldable pub Turns_at : List Component → Atom → Result (IntType × ℕ) Stop → Type 0
Turns_at table u r = (env : Names Component) (n : ℕ) → Stands env n table → Tells (and_then (value_of env u) turns_of_datum) r

unfoldable pub Operates : List Component → Operation → List Component → List Component → Answer → Type 0
Operates table o stack stack' r = (env : Names Component) (n : ℕ) → Stands env n table → Runs (the (operated env o)) n table table stack stack' r

-- on any stack: the one scalar that an operation puts there, or why it stops
unfoldable pub Gives : List Component → Operation → Result (Option Scalar) Stop → Type 0
Gives table o (Ok (Some v)) = (stack : List Component) → Operates table o stack (stack ++ held (hold.Scalar v) ∷ []) (Ok tt)
Gives table o (Ok None) = Unit {0}
Gives table o (Err e) = (stack : List Component) → Operates table o stack stack (Err e)

unfoldable pub Reads_all : List Component → List Atom → List Component → List Component → Answer → Type 0
Reads_all table us stack stack' r = (env : Names Component) (n : ℕ) → Stands env n table → Runs (the (values_of env us)) n table table stack stack' r

-- one value more on the stack
pub data Pushed (s : Component) (stack stack' : List Component) : Answer → Type 0 where
  pushed : stack' ≡ stack ++ s ∷ [] → Pushed s stack stack' (Ok tt)
  not_pushed : Pushed s stack stack' (Err Memory)

-- a name with its value
pub data Named (x : ℕ) (v : Component) (table table' : List Component) : Answer → Type 0 where
  named : table' ≡ slice_set table x v → Named x v table table' (Ok tt)
  beyond : length table ≤ x → Named x v table table' (Err Stuck)

-- the truth of the one value that lies above others
unfoldable pub Pops : ℕ → List Component → List Component → Result Bool Stop → Type 0
Pops mark stack stack' r = (below vs : List Component) → stack ≡ below ++ vs → length below ≡ mark → Tells (holds vs) r × IfDone (stack' ≡ below) r

-- the table with a value for each name
unfoldable pub stored : List ℕ → List Component → List Component → List Component
stored [] vs table = table
stored (x ∷ xs) [] table = table
stored (x ∷ xs) (v ∷ vs) table = stored xs vs (slice_set table x v)

-- each name has its value; or there are not as many of both, or a name lies past the table
pub data Stored (xs : List ℕ) (vs : List Component) (table table' : List Component) : Answer → Type 0 where
  is_stored : length xs ≡ length vs → table' ≡ stored xs vs table → Stored xs vs table table' (Ok tt)
  not_as_many : (length xs ≡ length vs → ⊥) → Stored xs vs table table' (Err Stuck)
  no_memory_stored : Stored xs vs table table' (Err Memory)
  past : (i : ℕ) → i < length xs → length table ≤ get_or xs i 0 → Stored xs vs table table' (Err Stuck)

-- names with values stand; or there are not as many of both
pub data Bound (env : Names Component) (next last : ℕ) (xs : List ℕ) (vs : List Component) (table table' : List Component) : Answer → Type 0 where
  is_bound : (e : Names Component) → bound xs vs env ≡ Some e → Stands e last table' → Kept next table table' → Bound env next last xs vs table table' (Ok tt)
  no_memory_bound : Bound env next last xs vs table table' (Err Memory)
  unbound : {r : Answer} → bound xs vs env ≡ None → Bound env next last xs vs table table' r

-- names get the values that lie on the stack from the mark on
unfoldable pub Binds : List ℕ → ℕ → List Component → List Component → List Component → Answer → Type 0
Binds xs mark table table' stack r =
    (env : Names Component) (next last : ℕ) (below : List Component) (vs : List Component)
    → Stands env next table → Upward next xs last → last ≤ length table → stack ≡ below ++ vs → length below ≡ mark → Fit vs → Bound env next last xs vs table table' r

-- and these are taken off
unfoldable pub Takes : List ℕ → ℕ → List Component → List Component → List Component → List Component → Answer → Type 0
Takes xs mark table table' stack stack' r =
    (env : Names Component) (next last : ℕ) (below : List Component) (vs : List Component)
    → Stands env next table → Upward next xs last → last ≤ length table → stack ≡ below ++ vs → length below ≡ mark → Fit vs
    → Bound env next last xs vs table table' r × IfDone (stack' ≡ below) r

abbrev pub as_scalar : Result Scalar Stop → Result Component Stop
as_scalar (Ok s) = Ok (Scalar_datum s)
as_scalar (Err e) = Err e

abbrev pub as_all_held : Result (List Data) Stop → Result (List Component) Stop
as_all_held (Ok ds) = Ok (held_all ds)
as_all_held (Err e) = Err e

-- of one value
abbrev pub as_only : Result Component Stop → Result (List Component) Stop
as_only (Ok d) = Ok (d ∷ [])
as_only (Err e) = Err e

unfoldable pub Reads_data : List Component → List Atom → Result (List Component) Stop → Type 0
Reads_data table us r = (env : Names Component) (n : ℕ) → Stands env n table → Tells (values_of env us) r

-- the one value that lies above others
unfoldable pub Pops_one : ℕ → List Component → List Component → Result Component Stop → Type 0
Pops_one mark stack stack' r = (below vs : List Component) → stack ≡ below ++ vs → length below ≡ mark → Tells (the_one vs) r × IfDone (stack' ≡ below) r

-- ---- equality of data

abbrev pub as_flats : List Datum → Values Ref BindId (Unit {0})
as_flats vs = as_values (datums vs)

-- whether data is equal, and whether all parts of two tuples are
unfoldable pub data_equal : Datum → Datum → Out Bool
data_equal v w = equal (as_flat v) (as_flat w)

unfoldable pub parts_equal : List Datum → List Datum → Out Bool
parts_equal vs ws = all_equal (as_flats vs) (as_flats ws)

-- whether the values of atoms are equal
unfoldable pub Same_at : List Component → Atom → Atom → Result Bool Stop → Type 0
Same_at table a b r = (env : Names Component) (n : ℕ) → Stands env n table → Tells (and_then (value_of env a) (λ v. and_then (value_of env b) (data_equal v))) r
