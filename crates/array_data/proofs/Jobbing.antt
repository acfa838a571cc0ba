-- What primitives give at once, by what their parts come to.
use Rattle.std.proofs.Common.{◌≡◌, ℕ, ◌+◌, ◌<◌, ◌≤◌, List, [], ◌∷◌, ◌++◌, length, Ok, Err, Result, Bool, true, false, refl, sym, ap, ◌∙◌, subst}
use Rattle.std.specs.Prelude.{ℤ}
use Rattle.std.proofs.lemmas.List.{append-nil}
use Rattle.fut_scalar.specs.declared.place.Place.{Place}
use Rattle.fut_scalar.specs.declared.report.Report.{Report}
use Rattle.fut_value.specs.Data.{Shape, Datum, array_words, shape_of}
use Rattle.fut_meaning.specs.Arrays.{Rows, rows_of, exact_of, array_of, all_fresh, all_shared, fresh, shared}
use Rattle.fut_meaning.specs.Jobs.{Job, Done, done}
use Rattle.fut_meaning.specs.Outcomes.{Out, Val, Fail, Wrong, and_then}
use Rattle.array_data.specs.declared.sizes.Exact.{Exact}
use Rattle.array_data.specs.declared.data.Data.{Data}
use Rattle.array_data.specs.declared.stop.Stop.{Stop}
use Rattle.array_data.specs.declared.stop.Stop.TheVariants.{Failed, Stuck, Memory}
use Rattle.array_data.specs.Answers.{Tells, told, report_told, no_memory_told, lost, Counts, counts, no_array, All_added, all_added, not_all_added, Exact_is, exact_is, no_integer, exact_held, Does, does, does_fail, does_memory, does_lost}
use Rattle.array_data.specs.Held.{rows_in, row_shape_in, as_held}

pub rows_stop : (d : Datum) (k : Rows → Out Job) (e : Stop) → Counts d (Err e) → Does (and_then (rows_of d) k) (Err e)
rows_stop d k _ (no_array q) = does_lost (ap (λ z. and_then z k) q)

pub rows_go : (d : Datum) (k : Rows → Out Job) (n : ℕ) (r : Result Datum Stop) → Counts d (Ok n) → Does (k (row_shape_in d, rows_in d)) r → Does (and_then (rows_of d) k) r
rows_go d k n r (counts q p) h = subst (λ z. Does (and_then z k) r) (sym q) h

pub exact_stop : (d : Datum) (k : ℤ → Out Job) (e : Stop) → Exact_is d (Err e) → Does (and_then (exact_of d) k) (Err e)
exact_stop d k _ (no_integer q) = does_lost (ap (λ z. and_then z k) q)

pub exact_go : (d : Datum) (k : ℤ → Out Job) (z : Exact) (r : Result Datum Stop) → Exact_is d (Ok z) → Does (k (exact_held z)) r → Does (and_then (exact_of d) k) r
exact_go d k z r (exact_is q) h = subst (λ z. Does (and_then z k) r) (sym q) h

-- the number of rows that is told
pub rows_counted : (d : Datum) (n : ℕ) → Counts d (Ok n) → n ≡ length (rows_in d)
rows_counted d n (counts q p) = p

pub done_fresh : (o : Out Datum) (r : Result Datum Stop) → Tells o r → Does (done (all_fresh o)) r
done_fresh o _ (told {a} q) = does {c = array_words (shape_of a)} {d = a} (ap (λ z. done (all_fresh z)) q)
done_fresh o _ (report_told q) = does_fail (ap (λ z. done (all_fresh z)) q)
done_fresh o _ no_memory_told = does_memory
done_fresh o r (lost q) = does_lost (ap (λ z. done (all_fresh z)) q)

pub done_shared : (o : Out Datum) (r : Result Datum Stop) → Tells o r → Does (done (all_shared o)) r
done_shared o _ (told {a} q) = does {c = 0} {d = a} (ap (λ z. done (all_shared z)) q)
done_shared o _ (report_told q) = does_fail (ap (λ z. done (all_shared z)) q)
done_shared o _ no_memory_told = does_memory
done_shared o r (lost q) = does_lost (ap (λ z. done (all_shared z)) q)

-- where rows are put together
pub added_told : {A : Type 0} (o : Out A) (es ds ds' : List Datum) (e : Stop) → All_added es ds ds' (Err e) → Tells o (Err e)
added_told o es ds ds' _ not_all_added = no_memory_told

pub added_does : (o : Out Job) (es ds ds' : List Datum) (e : Stop) → All_added es ds ds' (Err e) → Does o (Err e)
added_does o es ds ds' _ not_all_added = does_memory

pub all_there : (es ds ds' : List Datum) → ds ≡ [] → All_added es ds ds' (Ok tt) → ds' ≡ es
all_there es ds ds' e (all_added q) = q ∙ ap (λ z. z ++ es) e

pub more_there : (es fs ds ds' : List Datum) → ds ≡ es → All_added fs ds ds' (Ok tt) → ds' ≡ es ++ fs
more_there es fs ds ds' e (all_added q) = q ∙ ap (λ z. z ++ fs) e

pub array_told : (at : Place) (h k : Shape) (ds es : List Datum) (r : Result Datum Stop) → h ≡ k → ds ≡ es → Tells (array_of at h ds) r → Tells (array_of at k es) r
array_told at h k ds es r e q t = subst (λ z. Tells (array_of at z es) r) e (subst (λ z. Tells (array_of at h z) r) q t)
