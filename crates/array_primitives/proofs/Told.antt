-- The shape that is told of missing rows matters to maps and tables alone, and there only to what is made of results: which
-- function is applied to which rows, and every report before that, are the same.
use Rattle.std.proofs.Common.{◌≡◌, ℕ, List, [], ◌∷◌, Ok, Err, Result, refl, sym, subst, false}
use Rattle.std.specs.Prelude.{ℤ, pos, negsuc}
use Rattle.fut_scalar.specs.declared.place.Place.{Place}
use Rattle.fut_flat.specs.declared.prim.Folding.TheVariants as folding
use Rattle.fut_flat.specs.declared.prim.Primitive.{Primitive}
use Rattle.fut_flat.specs.declared.prim.Primitive.TheVariants as prim
use Rattle.fut_value.specs.Data.{Shape, Unmet_shape, Datum}
use Rattle.fut_meaning.specs.Arrays.{Rows, Counted, rows_of, exact_of}
use Rattle.fut_meaning.specs.Jobs.{Job, Done, Apply_each, job, mapped, columns, alone, array_of_results, array_of_indices, numbers_from, sized}
use Rattle.fut_meaning.specs.Outcomes.{Out, Val, Fail, Wrong, and_then}
use Rattle.array_data.specs.declared.stop.Stop.{Stop}
use Rattle.array_data.specs.declared.stop.Stop.TheVariants.{Failed, Memory}
use Rattle.array_data.specs.Answers.{Does, does, does_fail, does_memory, does_lost}

-- the same, but for what is made of a function's results
data But_for_results : Out Job → Out Job → Type 0 where
  the_same : {o : Out Job} → But_for_results o o
  same_rows : {rows : List (List Datum)} {k l : List Datum → Out Counted} → But_for_results (Val (Apply_each rows k)) (Val (Apply_each rows l))

module _ (told : Shape) (at : Place) where
  each_told : (o : Out (List (List Datum))) (k l : List Datum → Out Counted) → But_for_results (and_then o (λ rows. Val (Apply_each rows k))) (and_then o (λ rows. Val (Apply_each rows l)))
  each_told (Val rows) k l = same_rows
  each_told (Fail r) k l = the_same
  each_told Wrong k l = the_same

  mapped_told : (ds : List Datum) → But_for_results (mapped false Unmet_shape at ds) (mapped false told at ds)
  mapped_told [] = the_same
  mapped_told (d ∷ ds) = by_array (rows_of d)
    where
      by_array : (o : Out Rows) → But_for_results (and_then o (λ r. and_then (columns false at r ds) (λ rows. Val (Apply_each rows (array_of_results false Unmet_shape at))))) (and_then o (λ r. and_then (columns false at r ds) (λ rows. Val (Apply_each rows (array_of_results false told at)))))
      by_array (Val r) = each_told (columns false at r ds) (array_of_results false Unmet_shape at) (array_of_results false told at)
      by_array (Fail r) = the_same
      by_array Wrong = the_same

  table_told : (n : Datum) → But_for_results (job false Unmet_shape prim.Tabulate at (n ∷ [])) (job false told prim.Tabulate at (n ∷ []))
  unfolding job
  table_told n = by_size (exact_of n)
    where
      so_many : Shape → ℤ → Out Job
      so_many h z = sized at z (λ k. Val (Apply_each (alone (numbers_from k 0)) (array_of_indices false h at k)))

      by_size : (o : Out ℤ) → But_for_results (and_then o (so_many Unmet_shape)) (and_then o (so_many told))
      by_size (Val (pos k)) = same_rows
      by_size (Val (negsuc k)) = the_same
      by_size (Fail r) = the_same
      by_size Wrong = the_same

job_told : (told : Shape) (p : Primitive) (at : Place) (ds : List Datum) → But_for_results (job false Unmet_shape p at ds) (job false told p at ds)
unfolding job
job_told told prim.Map at ds = mapped_told told at ds
job_told told prim.Map2 at ds = mapped_told told at ds
job_told told prim.Map3 at ds = mapped_told told at ds
job_told told prim.Map4 at ds = mapped_told told at ds
job_told told prim.Map5 at ds = mapped_told told at ds
job_told told prim.Filter at [] = the_same
job_told told prim.Filter at (c ∷ []) = the_same
job_told told prim.Filter at (c ∷ d ∷ ds) = the_same
job_told told prim.Partition at [] = the_same
job_told told prim.Partition at (c ∷ []) = the_same
job_told told prim.Partition at (c ∷ d ∷ ds) = the_same
job_told told prim.Unzip at [] = the_same
job_told told prim.Unzip at (c ∷ []) = the_same
job_told told prim.Unzip at (c ∷ d ∷ ds) = the_same
job_told told prim.Unzip3 at [] = the_same
job_told told prim.Unzip3 at (c ∷ []) = the_same
job_told told prim.Unzip3 at (c ∷ d ∷ ds) = the_same
job_told told prim.Iota at [] = the_same
job_told told prim.Iota at (c ∷ []) = the_same
job_told told prim.Iota at (c ∷ d ∷ ds) = the_same
job_told told prim.Indices at [] = the_same
job_told told prim.Indices at (c ∷ []) = the_same
job_told told prim.Indices at (c ∷ d ∷ ds) = the_same
job_told told prim.Length at [] = the_same
job_told told prim.Length at (c ∷ []) = the_same
job_told told prim.Length at (c ∷ d ∷ ds) = the_same
job_told told prim.Null at [] = the_same
job_told told prim.Null at (c ∷ []) = the_same
job_told told prim.Null at (c ∷ d ∷ ds) = the_same
job_told told prim.Head at [] = the_same
job_told told prim.Head at (c ∷ []) = the_same
job_told told prim.Head at (c ∷ d ∷ ds) = the_same
job_told told prim.Last at [] = the_same
job_told told prim.Last at (c ∷ []) = the_same
job_told told prim.Last at (c ∷ d ∷ ds) = the_same
job_told told prim.Init at [] = the_same
job_told told prim.Init at (c ∷ []) = the_same
job_told told prim.Init at (c ∷ d ∷ ds) = the_same
job_told told prim.Tail at [] = the_same
job_told told prim.Tail at (c ∷ []) = the_same
job_told told prim.Tail at (c ∷ d ∷ ds) = the_same
job_told told prim.Reverse at [] = the_same
job_told told prim.Reverse at (c ∷ []) = the_same
job_told told prim.Reverse at (c ∷ d ∷ ds) = the_same
job_told told prim.Flatten at [] = the_same
job_told told prim.Flatten at (c ∷ []) = the_same
job_told told prim.Flatten at (c ∷ d ∷ ds) = the_same
job_told told prim.Transpose at [] = the_same
job_told told prim.Transpose at (c ∷ []) = the_same
job_told told prim.Transpose at (c ∷ d ∷ ds) = the_same
job_told told prim.Copy at [] = the_same
job_told told prim.Copy at (c ∷ []) = the_same
job_told told prim.Copy at (c ∷ d ∷ ds) = the_same
job_told told prim.Reduce at [] = the_same
job_told told prim.Reduce at (c ∷ []) = the_same
job_told told prim.Reduce at (c ∷ d ∷ []) = the_same
job_told told prim.Reduce at (c ∷ d ∷ e ∷ ds) = the_same
job_told told prim.ReduceComm at [] = the_same
job_told told prim.ReduceComm at (c ∷ []) = the_same
job_told told prim.ReduceComm at (c ∷ d ∷ []) = the_same
job_told told prim.ReduceComm at (c ∷ d ∷ e ∷ ds) = the_same
job_told told prim.Scan at [] = the_same
job_told told prim.Scan at (c ∷ []) = the_same
job_told told prim.Scan at (c ∷ d ∷ []) = the_same
job_told told prim.Scan at (c ∷ d ∷ e ∷ ds) = the_same
job_told told prim.Zip at [] = the_same
job_told told prim.Zip at (c ∷ []) = the_same
job_told told prim.Zip at (c ∷ d ∷ []) = the_same
job_told told prim.Zip at (c ∷ d ∷ e ∷ ds) = the_same
job_told told prim.Replicate at [] = the_same
job_told told prim.Replicate at (c ∷ []) = the_same
job_told told prim.Replicate at (c ∷ d ∷ []) = the_same
job_told told prim.Replicate at (c ∷ d ∷ e ∷ ds) = the_same
job_told told prim.Take at [] = the_same
job_told told prim.Take at (c ∷ []) = the_same
job_told told prim.Take at (c ∷ d ∷ []) = the_same
job_told told prim.Take at (c ∷ d ∷ e ∷ ds) = the_same
job_told told prim.Drop at [] = the_same
job_told told prim.Drop at (c ∷ []) = the_same
job_told told prim.Drop at (c ∷ d ∷ []) = the_same
job_told told prim.Drop at (c ∷ d ∷ e ∷ ds) = the_same
job_told told prim.Rotate at [] = the_same
job_told told prim.Rotate at (c ∷ []) = the_same
job_told told prim.Rotate at (c ∷ d ∷ []) = the_same
job_told told prim.Rotate at (c ∷ d ∷ e ∷ ds) = the_same
job_told told prim.Concat at [] = the_same
job_told told prim.Concat at (c ∷ []) = the_same
job_told told prim.Concat at (c ∷ d ∷ []) = the_same
job_told told prim.Concat at (c ∷ d ∷ e ∷ ds) = the_same
job_told told prim.Scatter at [] = the_same
job_told told prim.Scatter at (c ∷ []) = the_same
job_told told prim.Scatter at (c ∷ d ∷ []) = the_same
job_told told prim.Scatter at (c ∷ d ∷ e ∷ []) = the_same
job_told told prim.Scatter at (c ∷ d ∷ e ∷ f ∷ ds) = the_same
job_told told prim.Zip3 at [] = the_same
job_told told prim.Zip3 at (c ∷ []) = the_same
job_told told prim.Zip3 at (c ∷ d ∷ []) = the_same
job_told told prim.Zip3 at (c ∷ d ∷ e ∷ []) = the_same
job_told told prim.Zip3 at (c ∷ d ∷ e ∷ f ∷ ds) = the_same
job_told told prim.Unflatten at [] = the_same
job_told told prim.Unflatten at (c ∷ []) = the_same
job_told told prim.Unflatten at (c ∷ d ∷ []) = the_same
job_told told prim.Unflatten at (c ∷ d ∷ e ∷ []) = the_same
job_told told prim.Unflatten at (c ∷ d ∷ e ∷ f ∷ ds) = the_same
job_told told prim.ReduceByIndex at [] = the_same
job_told told prim.ReduceByIndex at (c ∷ []) = the_same
job_told told prim.ReduceByIndex at (c ∷ d ∷ []) = the_same
job_told told prim.ReduceByIndex at (c ∷ d ∷ e ∷ []) = the_same
job_told told prim.ReduceByIndex at (c ∷ d ∷ e ∷ f ∷ []) = the_same
job_told told prim.ReduceByIndex at (c ∷ d ∷ e ∷ f ∷ g ∷ ds) = the_same
job_told told (prim.Fold folding.Sum t) at [] = the_same
job_told told (prim.Fold folding.Sum t) at (c ∷ []) = the_same
job_told told (prim.Fold folding.Sum t) at (c ∷ d ∷ ds) = the_same
job_told told (prim.Fold folding.Product t) at [] = the_same
job_told told (prim.Fold folding.Product t) at (c ∷ []) = the_same
job_told told (prim.Fold folding.Product t) at (c ∷ d ∷ ds) = the_same
job_told told (prim.Fold folding.Minimum t) at [] = the_same
job_told told (prim.Fold folding.Minimum t) at (c ∷ []) = the_same
job_told told (prim.Fold folding.Minimum t) at (c ∷ d ∷ ds) = the_same
job_told told (prim.Fold folding.Maximum t) at [] = the_same
job_told told (prim.Fold folding.Maximum t) at (c ∷ []) = the_same
job_told told (prim.Fold folding.Maximum t) at (c ∷ d ∷ ds) = the_same
job_told told (prim.Convert to from) at ds = the_same
job_told told (prim.Min t) at ds = the_same
job_told told (prim.Max t) at ds = the_same
job_told told (prim.Abs t) at ds = the_same
job_told told (prim.Popc t) at ds = the_same
job_told told (prim.Lowest t) at ds = the_same
job_told told (prim.Highest t) at ds = the_same
job_told told (prim.NumBits t) at ds = the_same
job_told told prim.Tabulate at [] = the_same
job_told told prim.Tabulate at (c ∷ []) = table_told told at c
job_told told prim.Tabulate at (c ∷ d ∷ ds) = the_same

-- what is given at once is the same
pub does_told : (told : Shape) (p : Primitive) (at : Place) (ds : List Datum) (r : Result Datum Stop) → Does (job false Unmet_shape p at ds) r → Does (job false told p at ds) r
does_told told p at ds r h = by_job (job_told told p at ds) h
  where
    by_job : {o o' : Out Job} {r : Result Datum Stop} → But_for_results o o' → Does o r → Does o' r
    by_job the_same h = h
    by_job same_rows (does q) = cc
    by_job same_rows (does_fail q) = cc
    by_job same_rows does_memory = does_memory
    by_job same_rows (does_lost q) = cc

-- and writes look at no missing rows
writes_told : (told : Shape) (at : Place) (ds : List Datum) → (job false Unmet_shape prim.Scatter at ds ≡ job false told prim.Scatter at ds) × (job false Unmet_shape prim.ReduceByIndex at ds ≡ job false told prim.ReduceByIndex at ds)
unfolding job
writes_told told at [] = (refl, refl)
writes_told told at (c ∷ []) = (refl, refl)
writes_told told at (c ∷ d ∷ []) = (refl, refl)
writes_told told at (c ∷ d ∷ e ∷ []) = (refl, refl)
writes_told told at (c ∷ d ∷ e ∷ f ∷ []) = (refl, refl)
writes_told told at (c ∷ d ∷ e ∷ f ∷ g ∷ ds) = (refl, refl)

pub scatter_told : (told : Shape) (p : Primitive) (at : Place) (ds : List Datum) → p ≡ prim.Scatter → job false Unmet_shape p at ds ≡ job false told p at ds
scatter_told told p at ds e = subst (λ z. job false Unmet_shape z at ds ≡ job false told z at ds) (sym e) (writes_told told at ds).0

pub combine_told : (told : Shape) (p : Primitive) (at : Place) (ds : List Datum) → p ≡ prim.ReduceByIndex → job false Unmet_shape p at ds ≡ job false told p at ds
combine_told told p at ds e = subst (λ z. job false Unmet_shape z at ds ≡ job false told z at ds) (sym e) (writes_told told at ds).1
