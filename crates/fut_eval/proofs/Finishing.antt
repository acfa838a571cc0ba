-- What is made of a function's results.
use Rattle.std.proofs.Common.{◌≡◌, ℕ, List, [], ◌∷◌, length, Ok, Err, Result, refl, sym, ap, ◌∙◌, subst}
use Rattle.fut_scalar.specs.declared.place.Place.{Place}
use Rattle.fut_value.specs.Data.{Shape, Datum}
use Rattle.fut_meaning.specs.Arrays.{array}
use Rattle.fut_meaning.specs.Outcomes.{Out, Val, Fail, Wrong, and_then}
use Rattle.fut_blocks.specs.Meaning.{Component}
use Rattle.fut_blocks.specs.Rows.{Row}
use Rattle.fut_blocks.specs.Sizes.{row_shape}
use Rattle.array_data.specs.declared.stop.Stop.{Stop}
use Rattle.array_data.specs.declared.stop.Stop.TheVariants.{Memory}
use Rattle.array_data.specs.Answers.{Tells, told, report_told, no_memory_told, lost}
use Rattle.array_primitives.specs.declared.jobs.Finish.{Finish}
use Rattle.array_primitives.specs.declared.jobs.Finish.TheVariants as finish
use Rattle.array_primitives.specs.Plans.{made_of, Counted_is, counted_fails, counted_memory, counted_lost}
use Rattle.fut_eval.specs.Primitives.{Finishes}
use Rattle.fut_eval.specs.Shapes.{Row_told, Missing_told, looked_up, not_missing}
use Rattle.fut_eval.proofs.RowsMet.{Reported, row_reports}

-- where there are results, nothing is told
filled : (g h : Shape) (f : Finish) (at : Place) (ds es : List Datum) → (length es ≡ 0 → ⊥) → made_of g f at ds es ≡ made_of h f at ds es
unfolding array
filled g h f at ds [] l = absurd (l refl)
filled g h finish.Mapped at ds (e ∷ es) l = refl
filled g h (finish.Tabulated n) at ds (e ∷ es) l = refl
filled g h finish.Kept at [] (e ∷ es) l = refl
filled g h finish.Kept at (d ∷ []) (e ∷ es) l = refl
filled g h finish.Kept at (d ∷ c ∷ ds) (e ∷ es) l = refl
filled g h finish.Parted at [] (e ∷ es) l = refl
filled g h finish.Parted at (d ∷ []) (e ∷ es) l = refl
filled g h finish.Parted at (d ∷ c ∷ ds) (e ∷ es) l = refl

module _ (t : List Component) (row : Row) (f : Finish) (at : Place) (ds es : List Datum) where
  pub finish_memory : Finishes t row f at ds es (Err Memory)
  unfolding Finishes
  finish_memory env n st = counted_memory

  pub finish_untold : (many : ℕ) (e : Stop) → Missing_told t row many (Err e) → Finishes t row f at ds es (Err e)
  unfolding Finishes Row_told
  finish_untold many e (looked_up h) env n st = by_row (h env n st)
    where
      by_row : {e : Stop} → Tells (row_shape env row) (Err e) → Counted_is (and_then (row_shape env row) (λ h. made_of h f at ds es)) (Err e)
      by_row (report_told q) = counted_fails (ap (λ z. and_then z (λ h. made_of h f at ds es)) q)
      by_row no_memory_told = counted_memory
      by_row (lost q) = counted_lost (ap (λ z. and_then z (λ h. made_of h f at ds es)) q)

  pub finish_made : (many : ℕ) (g : Shape) (r : Result Datum Stop) → many ≡ length es → Missing_told t row many (Ok g) → Counted_is (made_of g f at ds es) r → Finishes t row f at ds es r
  unfolding Finishes Row_told
  finish_made many g r e (looked_up h) k env n st = by_row (h env n st)
    where
      by_row : Tells (row_shape env row) (Ok g) → Counted_is (and_then (row_shape env row) (λ h. made_of h f at ds es)) r
      by_row (told q) = subst (λ z. Counted_is (and_then z (λ h. made_of h f at ds es)) r) (sym q) k
      by_row (lost q) = counted_lost (ap (λ z. and_then z (λ h. made_of h f at ds es)) q)
  finish_made many g r e (not_missing l) k env n st = by_row (row_shape env row) (row_reports env row)
    where
      by_row : (o : Out Shape) → (Reported o → ⊥) → Counted_is (and_then o (λ h. made_of h f at ds es)) r
      by_row (Val h) x = subst (λ z. Counted_is z r) (filled g h f at ds es (λ q. l (e ∙ q))) k
      by_row (Fail q) x = absurd (x tt)
      by_row Wrong x = counted_lost refl

pub ruleset finishing = (finish_memory, finish_untold, finish_made)
