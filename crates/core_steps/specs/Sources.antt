-- What the calls on that to which a function is applied answer, whatever names stand.
use Rattle.std.specs.Prelude.{◌≡◌, ℕ, ◌<◌, List, length, slice_get, Some, Result, Ok, Err, false}
use Rattle.fut_scalar.specs.declared.place.Place.{Place}
use Rattle.fut_scalar.specs.declared.report.Report.{Report}
use Rattle.fut_meaning.specs.Outcomes.{Out, Val, Fail, and_then}
use Rattle.core_arrays.specs.Arenas.{Array}
use Rattle.core_ir.specs.declared.block.Atom.{Atom}
use Rattle.core_ir.specs.Arrays.{sized_by}
use Rattle.core_ir.specs.Bundles.{Row}
use Rattle.core_ir.specs.Meaning.{Env, value_of, source_rows}
use Rattle.core_ir.specs.Plain.{Source}
use Rattle.core_ir.specs.Typed.{Sort, Sorts, Integer, Atom_is, Source_gives}
use Rattle.core_code.specs.Registers.{State, Stands}
use Rattle.core_code.specs.Answers.{Answer}
use Rattle.core_code.specs.declared.stop.Stop.{Stop}
use Rattle.core_code.specs.declared.stop.Stop.TheVariants.{Failed, Memory}
use Rattle.core_steps.specs.Rows.{CountTold, RowPushed}

unfoldable pub Size_asked : List ℕ → Atom → Place → Result ℕ Stop → Type 0
Size_asked t u at r = (G : Sorts) (env : Env) (n : ℕ) (rs : List Array) (s : Sort) → Stands G env n rs t → Integer s → Atom_is G u s → CountTold (and_then (value_of env u) (λ c. sized_by at c Val)) r

-- as many times as there are rows
pub data SourceTold (o : Out (List Row)) : Result ℕ Stop → Type 0 where
  source_told : (rows : List Row) → o ≡ Val rows → SourceTold o (Ok (length rows))
  source_failed : {r : Report} → o ≡ Fail r → SourceTold o (Err (Failed r))
  no_source : SourceTold o (Err Memory)

unfoldable pub Source_counted : List ℕ → List Array → Source → Place → Result ℕ Stop → Type 0
Source_counted t rs source at r = (G : Sorts) (env : Env) (n : ℕ) (row : List Sort) → Stands G env n rs t → Source_gives G source row → SourceTold (source_rows false at env source) r

unfoldable pub Source_pushed : Source → ℕ → State → State → Answer → Type 0
Source_pushed source i S S' r =
    (G : Sorts) (env : Env) (n : ℕ) (row : List Sort) (rows : List Row) (at : Place) → Stands G env n S.arena.arrays S.words → Source_gives G source row → source_rows false at env source ≡ Val rows → i < length rows
    → RowPushed (λ ds. slice_get rows i ≡ Some ds) row S S' r
