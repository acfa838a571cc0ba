-- What a step that takes one row of arrays answers, whatever names stand.
use Rattle.std.specs.Prelude.{◌≡◌, ℕ, suc, List, [], ◌∷◌, ◌++◌, nat_le, ℤ, pos, negsuc, Bool, true, false, Result, Ok, Err}
use Rattle.fut_scalar.specs.declared.place.Place.{Place}
use Rattle.fut_scalar.specs.declared.report.FailKind.TheVariants as kind
use Rattle.fut_scalar.specs.declared.report.Report.{Report}
use Rattle.fut_flat.specs.declared.act.Part.TheVariants as part
use Rattle.fut_meaning.specs.Arrays.{checked, failure, most_words}
use Rattle.fut_meaning.specs.Outcomes.{Out, Val, Fail, Wrong, and_then}
use Rattle.core_arrays.specs.Arenas.{Array}
use Rattle.core_ir.specs.declared.block.Atom.{Atom}
use Rattle.core_ir.specs.Arrays.{exact_in, first_sizes, indexed}
use Rattle.core_ir.specs.Bundles.{Component, Row, all_sizes, weight_of}
use Rattle.core_ir.specs.Meaning.{Env, value_of, values_of}
use Rattle.core_ir.specs.Plain.{Bundle}
use Rattle.core_ir.specs.Typed.{Sort, Sorts, Integer, Atom_is, Atoms_are, Rows_are}
use Rattle.core_code.specs.Registers.{State, AllShow, Stands}
use Rattle.core_code.specs.Answers.{Answer}
use Rattle.core_code.specs.declared.stop.Stop.{Stop}
use Rattle.core_code.specs.declared.stop.Stop.TheVariants.{Failed, Memory}
use Rattle.core_steps.specs.Rows.{CountTold, Grown}

-- the row that a number names, where arrays of these sizes have one
abbrev pub index_in : Place → ℤ → List ℕ → Out ℕ
index_in at z [] = Wrong
index_in at (pos i) (n ∷ ds) = checked (nat_le (suc i) n) kind.Bounds at (Val i)
index_in at (negsuc i) (n ∷ ds) = failure kind.Bounds at

unfoldable pub Index_read : List ℕ → List Array → Bundle → Atom → Place → Result ℕ Stop → Type 0
Index_read t rs r u at a =
    (G : Sorts) (env : Env) (n : ℕ) (row : List Sort) (s : Sort) (bs : Row) (c : Component) → Stands G env n rs t → Rows_are G r row → Integer s → Atom_is G u s → values_of env r.arrays ≡ Val bs → value_of env u ≡ Val c
    → CountTold (and_then (exact_in c) (λ z. index_in at z (first_sizes bs))) a

-- the stack is as it was, and the arrays are within the greatest weight, where the answer says so
unfoldable pub Bundle_within : List ℕ → List Array → List Atom → List ℕ → List ℕ → Result Bool Stop → Type 0
Bundle_within t rs us stack stack' (Ok true) =
    (G : Sorts) (env : Env) (n : ℕ) (ss : List Sort) (bs : Row) → Stands G env n rs t → Atoms_are G us ss → values_of env us ≡ Val bs → (stack' ≡ stack) × (nat_le (weight_of (all_sizes bs)) most_words ≡ true)
Bundle_within t rs us stack stack' (Ok false) = Unit {0}
Bundle_within t rs us stack stack' (Err e) = Unit {0}

-- words for a row, or a report
pub data IndexTold (o : Out Row) (row : List Sort) (S S' : State) : Answer → Type 0 where
  index_told : (cs : Row) (ws : List ℕ) → o ≡ Val cs → AllShow S'.arena.arrays row cs ws → S'.stack ≡ S.stack ++ ws → Grown S S' → IndexTold o row S S' (Ok tt)
  index_failed : {r : Report} → o ≡ Fail r → IndexTold o row S S' (Err (Failed r))
  no_index : IndexTold o row S S' (Err Memory)

unfoldable pub Index_told : Bundle → Atom → Place → State → State → Answer → Type 0
Index_told r u at S S' a =
    (G : Sorts) (env : Env) (n : ℕ) (row : List Sort) (s : Sort) (bs : Row) (c : Component) → Stands G env n S.arena.arrays S.words → Rows_are G r row → Integer s → Atom_is G u s → values_of env r.arrays ≡ Val bs → value_of env u ≡ Val c
    → IndexTold (indexed false at r.width (part.At ∷ []) bs (c ∷ [])) row S S' a
