-- What unfolding answers is a program's blocks, with the types of integers as a typing tells them and the sizing that tables tell,
-- and never that it is lost.
use Rattle.std.proofs.Common.{◌≡◌, ℕ, List, length, refl, sym, ap, ◌∙◌, subst, get_or, Some, Bor}
use Rattle.std.specs.Prelude.{Result, Ok, Err, IfOk}
use Rattle.fut_scalar.specs.declared.place.BindId.{BindId}
use Rattle.fut_scalar.specs.declared.scalar.IntType.{IntType}
use Rattle.fut_scalar.specs.declared.scalar.IntType.TheVariants.{I32}
use Rattle.fut_scalar.specs.declared.sizes.DataType.{DataType}
use Rattle.fut_flat.specs.declared.program.Flat.{Flat}
use Rattle.fut_meaning.specs.declared.measured.Measured.{Measured}
use Rattle.fut_meaning.specs.Flats.{named_terms, flat_tops}
use Rattle.fut_meaning.specs.Found.{Sizing, Told as Meant}
use Rattle.fut_meaning.specs.Measures.{Measures}
use Rattle.fut_blocks.specs.declared.block.Program.{Program}
use Rattle.sizing_tables.specs.Told.{told_with}
use Rattle.told_rows.specs.Tables.{Tells, Told_by}
use Rattle.told_rows.specs.declared.tables.Sizes.{Sizes}
use Rattle.typed_programs.specs.Typed.{integer_at}
use Rattle.unfold.specs.Stuck.{Program_stuck}
use Rattle.unfold_parts.specs.Told.{Tell}
use Rattle.unfold_parts.specs.declared.told.Told.{Told}
use Rattle.unfold_program.specs.Whole.{scalars, Unfolds_to, unfolds_to, no_program}
use Rattle.unfold_parts.specs.Refused.{lost}
use Rattle.unfold_parts.specs.declared.refusal.Refusal.{Refusal}
use Rattle.unfold_parts.specs.declared.refusal.Refusal.TheVariants.{Lost}
use Rattle.unfolded_runs.specs.Prepared.{Is_blocks, Is_prepared}
use Rattle.unfolded_runs.specs.declared.preparing.PrepareErr.{PrepareErr}

integers_told : (integers : List IntType) (n : ℕ) → get_or integers n I32 ≡ integer_at integers n
unfolding integer_at
integers_told integers n = refl

-- the types of integers, and the sizing that the tables tell
tables_tell : (T : Told) (integers : List IntType) (s : Bor Sizes) (Z : Sizing) → T.types.now ≡ integers → T.sizes ≡ Some s → Tells s.now Z → Tell T (told_with (integer_at integers) Z)
tables_tell T integers s Z e some tells = record {
  integers = λ n. sym (ap (λ z. get_or z n I32) e ∙ integers_told integers n);
  sizes = subst (λ z. Told_by z (Some Z)) (sym some) tells;
}

pub blocks : (flat : Flat) (integers : List IntType) (entry : BindId) (params : List DataType) (p : Program) (T : Told) (ts : List IntType) (ps : List DataType) (s : Bor Sizes) → T.types.now ≡ ts → T.sizes ≡ Some s → ts ≡ integers → ps ≡ params → Unfolds_to T (flat_tops 0 (named_terms flat)) entry.0 ps (Ok p) → (Z : Sizing) → Tells s.now Z → Is_blocks flat (told_with (integer_at integers) Z) entry params p
blocks flat integers entry params p T ts ps s e some i q u Z tells = of_params (subst (λ z. Unfolds_to T (flat_tops 0 (named_terms flat)) entry.0 z (Ok p)) q u)
  where
    of_params : Unfolds_to T (flat_tops 0 (named_terms flat)) entry.0 params (Ok p) → Is_blocks flat (told_with (integer_at integers) Z) entry params p
    of_params (unfolds_to h f t) = record { shape = h; unfolds = f (told_with (integer_at integers) Z) (tables_tell T integers s Z (e ∙ i) some tells) }

-- it is lost only where it is stuck
module _ (flat : Flat) (integers : List IntType) (entry : BindId) (params : List DataType) (s : Bor Sizes) (unstuck : (Z : Sizing) × Tells s.now Z × (Program_stuck (told_with (integer_at integers) Z) (flat_tops 0 (named_terms flat)) entry.0 (scalars (length params)) → ⊥)) where
  not_lost : (T : Told) → Tell T (told_with (integer_at integers) unstuck.0) → Unfolds_to T (flat_tops 0 (named_terms flat)) entry.0 params (Err Lost) → ⊥
  not_lost T tl (no_program (lost w)) = unstuck.2 (w (told_with (integer_at integers) unstuck.0) tl)

  pub never_lost : (T : Told) (ts : List IntType) (ps : List DataType) (r : Refusal) → T.types.now ≡ ts → T.sizes ≡ Some s → ts ≡ integers → ps ≡ params → r ≡ Lost → Unfolds_to T (flat_tops 0 (named_terms flat)) entry.0 ps (Err r) → ⊥
  never_lost T ts ps r e some i q is u =
      not_lost T (tables_tell T integers s unstuck.0 (e ∙ i) some unstuck.1)
      (subst (λ z. Unfolds_to T (flat_tops 0 (named_terms flat)) entry.0 params (Err z)) is
      (subst (λ z. Unfolds_to T (flat_tops 0 (named_terms flat)) entry.0 z (Err r)) q u))

-- the blocks of a program that is within the limits
pub prepared : (flat : Flat) (told : Meant) (entry : BindId) (params : List DataType) (m : Measured) (r : Result Program PrepareErr) → Measures told.sizes (flat_tops 0 (named_terms flat)) entry.0 (length params) (Ok m) → IfOk r (Is_blocks flat told entry params) → IfOk r (Is_prepared flat told entry params)
prepared flat told entry params m (Ok p) measures is = record { measured = m; measures = measures; blocks = is }
prepared flat told entry params m (Err e) measures is = tt
