-- What is left to do of a primitive.
use Rattle.std.proofs.Common.{◌≡◌, ℕ, zero, suc, ◌+◌, ◌<◌, ◌≤◌, ◌^◌, List, [], ◌∷◌, ◌++◌, map, length, get_or, slice_get, Option, Some, None, Ok, Err, Result, Bool, true, false, refl, sym, ap, ◌∙◌, subst, arith}
use Rattle.std.specs.Prelude.{ℤ}
use Rattle.fut_scalar.specs.declared.place.Place.{Place}
use Rattle.fut_scalar.specs.declared.report.FailKind.TheVariants as kind
use Rattle.fut_flat.specs.declared.prim.Primitive.{Primitive}
use Rattle.fut_flat.specs.declared.prim.Primitive.TheVariants as prim
use Rattle.fut_value.specs.Data.{Shape, Unmet_shape, Datum, shape_of, array_words}
use Rattle.fut_meaning.specs.Arrays.{Rows, Counted, rows_of, exact_of, array, i64, all_fresh, fresh}
use Rattle.fut_meaning.specs.Jobs.{Job, Done, Apply_each, Reduce_each, job, mapped, columns, alone, array_of_results, array_of_indices, numbers_from, sized, prefixes_on}
use Rattle.fut_meaning.specs.Outcomes.{Out, Val, Fail, Wrong, and_then}
use Rattle.array_data.specs.declared.form.Form.{Form}
use Rattle.array_data.specs.declared.form.Form.TheVariants as form
use Rattle.array_data.specs.declared.data.Data.{Data}
use Rattle.array_primitives.specs.declared.jobs.Finish.{Finish}
use Rattle.array_primitives.specs.declared.jobs.Finish.TheVariants as finish
use Rattle.array_primitives.specs.declared.jobs.Plan.{Plan}
use Rattle.array_primitives.specs.declared.jobs.Plan.TheVariants as plan
use Rattle.array_data.specs.declared.sizes.Exact.{Exact}
use Rattle.array_data.specs.declared.sizes.Exact.TheVariants as exact
use Rattle.array_data.specs.declared.stop.Stop.{Stop}
use Rattle.array_data.specs.declared.stop.Stop.TheVariants.{Failed, Stuck, Memory}
use Rattle.array_data.specs.Answers.{Tells, told as is_told, report_told, no_memory_told, lost, Counts, counts, no_array, Columned, columned, columned_is, columned_fails, columned_memory, columned_lost, each_at, Put, put, not_put, Exact_is, exact_is, no_integer, exact_held, Does, does, does_fail, does_memory, does_lost}
use Rattle.array_data.specs.Held.{shape_held, held, held_all, as_held, rows_in, row_shape_in}
use Rattle.array_primitives.specs.Plans.{source_row, made_of, Source_is, first_fresh, Planned, Plans, Plans_map, plan_done, plan_each, plan_reduce, plan_scan, plan_fails, plan_memory, plan_lost, Two_rows, two_rows, no_second, two_memory, Put_row, put_row, no_row_put, Counted_is, counted_is, counted_fails, counted_memory, counted_lost, Sieved}
use Rattle.array_primitives.proofs.Columning.{get_alone, alone_long}
use Rattle.array_data.proofs.Forms.{map_push}
use Rattle.array_primitives.proofs.Told.{does_told}

-- ---- which primitive

pub of_this : (p q : Primitive) (at : Place) (ds : List Datum) (r : Result Datum Stop) → p ≡ q → Does (job false Unmet_shape q at ds) r → Does (job false Unmet_shape p at ds) r
of_this p q at ds r e h = subst (λ z. Does (job false Unmet_shape z at ds) r) (sym e) h

pub ruleset dispatch = (of_this, does_memory)

pub one_held : (ds : List Data) (d : Data) → length ds ≡ 1 → held_all ds ≡ held (get_or ds 0 d) ∷ []
unfolding held_all
one_held [] d e = absurd (omega arith)
one_held (c ∷ []) d e = refl
one_held (c ∷ b ∷ ds) d e = absurd (omega arith)

pub two_held : (ds : List Data) (d e : Data) → length ds ≡ 2 → held_all ds ≡ held (get_or ds 0 d) ∷ held (get_or ds 1 e) ∷ []
unfolding held_all
two_held [] d e l = absurd (omega arith)
two_held (c ∷ []) d e l = absurd (omega arith)
two_held (c ∷ b ∷ []) d e l = refl
two_held (c ∷ b ∷ a ∷ ds) d e l = absurd (omega arith)

pub three_held : (ds : List Data) (d e f : Data) → length ds ≡ 3 → held_all ds ≡ held (get_or ds 0 d) ∷ held (get_or ds 1 e) ∷ held (get_or ds 2 f) ∷ []
unfolding held_all
three_held [] d e f l = absurd (omega arith)
three_held (c ∷ []) d e f l = absurd (omega arith)
three_held (c ∷ b ∷ []) d e f l = absurd (omega arith)
three_held (c ∷ b ∷ a ∷ []) d e f l = refl
three_held (c ∷ b ∷ a ∷ x ∷ ds) d e f l = absurd (omega arith)

pub four_held : (ds : List Data) (d e f g : Data) → length ds ≡ 4 → held_all ds ≡ held (get_or ds 0 d) ∷ held (get_or ds 1 e) ∷ held (get_or ds 2 f) ∷ held (get_or ds 3 g) ∷ []
unfolding held_all
four_held [] d e f g l = absurd (omega arith)
four_held (c ∷ []) d e f g l = absurd (omega arith)
four_held (c ∷ b ∷ []) d e f g l = absurd (omega arith)
four_held (c ∷ b ∷ a ∷ []) d e f g l = absurd (omega arith)
four_held (c ∷ b ∷ a ∷ x ∷ []) d e f g l = refl
four_held (c ∷ b ∷ a ∷ x ∷ y ∷ ds) d e f g l = absurd (omega arith)

pub of_one : (p : Primitive) (at : Place) (ds : List Data) (d : Data) (r : Result Datum Stop) → length ds ≡ 1 → Does (job false Unmet_shape p at (held (get_or ds 0 d) ∷ [])) r → Does (job false Unmet_shape p at (held_all ds)) r
of_one p at ds d r e h = subst (λ z. Does (job false Unmet_shape p at z) r) (sym (one_held ds d e)) h

pub of_two : (p : Primitive) (at : Place) (ds : List Data) (d e : Data) (r : Result Datum Stop) → length ds ≡ 2 → Does (job false Unmet_shape p at (held (get_or ds 0 d) ∷ held (get_or ds 1 e) ∷ [])) r → Does (job false Unmet_shape p at (held_all ds)) r
of_two p at ds d e r l h = subst (λ z. Does (job false Unmet_shape p at z) r) (sym (two_held ds d e l)) h

pub of_three : (p : Primitive) (at : Place) (ds : List Data) (d e f : Data) (r : Result Datum Stop) → length ds ≡ 3 → Does (job false Unmet_shape p at (held (get_or ds 0 d) ∷ held (get_or ds 1 e) ∷ held (get_or ds 2 f) ∷ [])) r → Does (job false Unmet_shape p at (held_all ds)) r
of_three p at ds d e f r l h = subst (λ z. Does (job false Unmet_shape p at z) r) (sym (three_held ds d e f l)) h

pub ruleset arguments = (of_one, of_two, of_three, does_memory)

-- ---- maps

mapped_is : (told : Shape) (at : Place) (ds : List Datum) → mapped false told at ds ≡ and_then (columned at ds) (λ rows. Val (Apply_each rows (array_of_results false told at)))
mapped_is told at [] = refl
mapped_is told at (d ∷ ds) = by_array (rows_of d)
  where
    by_array : (o : Out Rows) → and_then o (λ r. and_then (columns false at r ds) (λ rows. Val (Apply_each rows (array_of_results false told at)))) ≡ and_then (and_then o (λ r. columns false at r ds)) (λ rows. Val (Apply_each rows (array_of_results false told at)))
    by_array (Val r) = refl
    by_array (Fail r) = refl
    by_array Wrong = refl

module _ (at : Place) (ds : List Datum) where
  pub map_stop : (e : Stop) → Columned at ds (Err e) → Plans_map at ds (Err e)
  unfolding Plans_map
  map_stop _ (columned_fails q) told = plan_fails (mapped_is told at ds ∙ ap (λ z. and_then z (λ rows. Val (Apply_each rows (array_of_results false told at)))) q)
  map_stop _ columned_memory told = plan_memory
  map_stop _ (columned_lost q) told = plan_lost (mapped_is told at ds ∙ ap (λ z. and_then z (λ rows. Val (Apply_each rows (array_of_results false told at)))) q)

  pub map_planned : (n : ℕ) → Columned at ds (Ok n) → Plans_map at ds (Ok (plan.Each finish.Mapped n))
  unfolding Plans_map
  map_planned n (columned_is rows q p w v) told = plan_each rows (mapped_is told at ds ∙ ap (λ z. and_then z (λ rows. Val (Apply_each rows (array_of_results false told at)))) q) p (λ i es l h. v i es h)
  map_planned n (columned_lost q) told = plan_lost (mapped_is told at ds ∙ ap (λ z. and_then z (λ rows. Val (Apply_each rows (array_of_results false told at)))) q)

pub ruleset maps = (map_stop, map_planned)

-- ---- tables

get_number : (n i k : ℕ) → k < n → slice_get (numbers_from n i) k ≡ Some (i64 (i + k))
get_number zero i k l = absurd (omega arith)
get_number (suc n) i zero l = let e : i ≡ i + 0 = omega arith in ap (λ z. Some (i64 z)) e
get_number (suc n) i (suc k) l = let e : suc i + k ≡ i + suc k = omega arith in get_number n (suc i) k (omega arith) ∙ ap (λ z. Some (i64 z)) e

numbers_long : (n i : ℕ) → length (numbers_from n i) ≡ n
numbers_long zero i = refl
numbers_long (suc n) i = ap suc (numbers_long n (suc i))

module _ (at : Place) (n : Datum) where
  pub table_no_size : (e : Stop) → Exact_is n (Err e) → Plans prim.Tabulate at (n ∷ []) (Err e)
  unfolding Plans job
  table_no_size _ (no_integer q) told = plan_lost (ap (λ z. and_then z (λ z. sized at z (λ k. Val (Apply_each (alone (numbers_from k 0)) (array_of_indices false told at k))))) q)

  table_is : (told : Shape) (z : Exact) → Exact_is n (Ok z) → job false told prim.Tabulate at (n ∷ []) ≡ sized at (exact_held z) (λ k. Val (Apply_each (alone (numbers_from k 0)) (array_of_indices false told at k)))
  unfolding job
  table_is told z (exact_is q) = ap (λ z. and_then z (λ z. sized at z (λ k. Val (Apply_each (alone (numbers_from k 0)) (array_of_indices false told at k))))) q

  pub table_below : (z : Exact) (k : ℕ) → Exact_is n (Ok z) → z ≡ exact.Below k → Plans prim.Tabulate at (n ∷ []) (Err (Failed (record { kind = kind.Range; place = at })))
  unfolding Plans exact_held
  table_below z k h e told = plan_fails (table_is told z h ∙ ap (λ z. sized at (exact_held z) (λ k. Val (Apply_each (alone (numbers_from k 0)) (array_of_indices false told at k)))) e)

  pub table_planned : (z : Exact) (k m : ℕ) → Exact_is n (Ok z) → z ≡ exact.Natural k → m ≡ k → Plans prim.Tabulate at (n ∷ []) (Ok (plan.Each (finish.Tabulated k) m))
  unfolding Plans exact_held
  table_planned z k m h e q told = plan_each (alone (numbers_from k 0)) (table_is told z h ∙ ap (λ z. sized at (exact_held z) (λ k. Val (Apply_each (alone (numbers_from k 0)) (array_of_indices false told at k)))) e) (q ∙ sym long) row
    where
      long : length (alone (numbers_from k 0)) ≡ k
      long = alone_long (numbers_from k 0) ∙ numbers_long k 0

      row : (i : ℕ) (es : List Datum) → i < length (alone (numbers_from k 0)) → Some (i64 i ∷ []) ≡ Some es → slice_get (alone (numbers_from k 0)) i ≡ Some es
      row i es l x = get_alone (numbers_from k 0) i (i64 i) (get_number k 0 i (omega (arith, long)) ∙ (let y : 0 + i ≡ i = omega arith in ap (λ z. Some (i64 z)) y)) ∙ x

pub ruleset tables = (table_no_size, table_below, table_planned)

-- ---- reductions

pub two_counted : (ds : List Data) (d : Data) (n : ℕ) → length ds ≡ 2 → Counts (held (get_or ds 1 d)) (Ok n) → Two_rows (held_all ds) (Ok tt)
two_counted ds d n e (counts q p) = two_rows (held (get_or ds 0 d)) (held (get_or ds 1 d)) (two_held ds d d e) q

pub two_not : (ds : List Data) (d : Data) (e : Stop) → length ds ≡ 2 → Counts (held (get_or ds 1 d)) (Err e) → Two_rows (held_all ds) (Err e)
two_not ds d _ e (no_array q) = no_second (held (get_or ds 0 d)) (held (get_or ds 1 d)) (two_held ds d d e) q

pub ruleset two_arguments = (two_counted, two_not, two_memory)

-- ---- plans

module _ (told : Shape) (at : Place) (ne d : Datum) where
  no_reduce : rows_of d ≡ Wrong → job false told prim.Reduce at (ne ∷ d ∷ []) ≡ Wrong
  unfolding job
  no_reduce x = ap (λ z. and_then z (λ r. Val (Reduce_each false ne (r.1 ∷ []) first_fresh))) x

  no_reduce_comm : rows_of d ≡ Wrong → job false told prim.ReduceComm at (ne ∷ d ∷ []) ≡ Wrong
  unfolding job
  no_reduce_comm x = ap (λ z. and_then z (λ r. Val (Reduce_each true ne (r.1 ∷ []) first_fresh))) x

  no_scan : rows_of d ≡ Wrong → job false told prim.Scan at (ne ∷ d ∷ []) ≡ Wrong
  unfolding job
  no_scan x = ap (λ z. and_then z (λ r. Val (Reduce_each false ne (prefixes_on [] r.1) (λ es. all_fresh (array false at r.0 es))))) x

  some_reduce : rows_of d ≡ Val (row_shape_in d, rows_in d) → job false told prim.Reduce at (ne ∷ d ∷ []) ≡ Val (Reduce_each false ne (rows_in d ∷ []) first_fresh)
  unfolding job
  some_reduce x = ap (λ z. and_then z (λ r. Val (Reduce_each false ne (r.1 ∷ []) first_fresh))) x

  some_reduce_comm : rows_of d ≡ Val (row_shape_in d, rows_in d) → job false told prim.ReduceComm at (ne ∷ d ∷ []) ≡ Val (Reduce_each true ne (rows_in d ∷ []) first_fresh)
  unfolding job
  some_reduce_comm x = ap (λ z. and_then z (λ r. Val (Reduce_each true ne (r.1 ∷ []) first_fresh))) x

  some_scan : rows_of d ≡ Val (row_shape_in d, rows_in d) → job false told prim.Scan at (ne ∷ d ∷ []) ≡ Val (Reduce_each false ne (prefixes_on [] (rows_in d)) (λ es. all_fresh (array false at (row_shape_in d) es)))
  unfolding job
  some_scan x = ap (λ z. and_then z (λ r. Val (Reduce_each false ne (prefixes_on [] r.1) (λ es. all_fresh (array false at r.0 es))))) x

module _ (p : Primitive) (at : Place) (ds : List Datum) where
  pub as_map : (r : Result Plan Stop) → p ≡ prim.Map → Plans_map at ds r → Plans p at ds r
  unfolding Plans Plans_map job
  as_map r e h told = subst (λ z. Planned told (job false told z at ds) at ds r) (sym e) (h told)

  pub as_map2 : (r : Result Plan Stop) → p ≡ prim.Map2 → Plans_map at ds r → Plans p at ds r
  unfolding Plans Plans_map job
  as_map2 r e h told = subst (λ z. Planned told (job false told z at ds) at ds r) (sym e) (h told)

  pub as_map3 : (r : Result Plan Stop) → p ≡ prim.Map3 → Plans_map at ds r → Plans p at ds r
  unfolding Plans Plans_map job
  as_map3 r e h told = subst (λ z. Planned told (job false told z at ds) at ds r) (sym e) (h told)

  pub as_map4 : (r : Result Plan Stop) → p ≡ prim.Map4 → Plans_map at ds r → Plans p at ds r
  unfolding Plans Plans_map job
  as_map4 r e h told = subst (λ z. Planned told (job false told z at ds) at ds r) (sym e) (h told)

  pub as_map5 : (r : Result Plan Stop) → p ≡ prim.Map5 → Plans_map at ds r → Plans p at ds r
  unfolding Plans Plans_map job
  as_map5 r e h told = subst (λ z. Planned told (job false told z at ds) at ds r) (sym e) (h told)

  reduce_stop_at : (told : Shape) (e : Stop) → ((ne d : Datum) → ds ≡ ne ∷ d ∷ [] → rows_of d ≡ Wrong → job false told p at ds ≡ Wrong) → Two_rows ds (Err e) → Planned told (job false told p at ds) at ds (Err e)
  reduce_stop_at told _ k (no_second ne d q x) = plan_lost (k ne d q x)
  reduce_stop_at told _ k two_memory = plan_memory

  reduce_lost : (told : Shape) (q : Primitive) (ne d : Datum) → p ≡ q → ds ≡ ne ∷ d ∷ [] → job false told q at (ne ∷ d ∷ []) ≡ Wrong → job false told p at ds ≡ Wrong
  reduce_lost told q ne d e f h = ap (λ z. job false told z at ds) e ∙ ap (job false told q at) f ∙ h

  pub reduce_stop : (e : Stop) → p ≡ prim.Reduce → Two_rows ds (Err e) → Plans p at ds (Err e)
  unfolding Plans
  reduce_stop e i h told = reduce_stop_at told e (λ ne d q x. reduce_lost told prim.Reduce ne d i q (no_reduce told at ne d x)) h

  pub reduce_comm_stop : (e : Stop) → p ≡ prim.ReduceComm → Two_rows ds (Err e) → Plans p at ds (Err e)
  unfolding Plans
  reduce_comm_stop e i h told = reduce_stop_at told e (λ ne d q x. reduce_lost told prim.ReduceComm ne d i q (no_reduce_comm told at ne d x)) h

  pub scan_stop : (e : Stop) → p ≡ prim.Scan → Two_rows ds (Err e) → Plans p at ds (Err e)
  unfolding Plans
  scan_stop e i h told = reduce_stop_at told e (λ ne d q x. reduce_lost told prim.Scan ne d i q (no_scan told at ne d x)) h

  pub reduce_planned : p ≡ prim.Reduce → Two_rows ds (Ok tt) → Plans p at ds (Ok plan.Reduce)
  unfolding Plans
  reduce_planned e (two_rows ne d q x) told = plan_reduce false ne d q (ap (λ z. job false told z at ds) e ∙ ap (job false told prim.Reduce at) q ∙ some_reduce told at ne d x)

  pub reduce_comm_planned : p ≡ prim.ReduceComm → Two_rows ds (Ok tt) → Plans p at ds (Ok plan.Reduce)
  unfolding Plans
  reduce_comm_planned e (two_rows ne d q x) told = plan_reduce true ne d q (ap (λ z. job false told z at ds) e ∙ ap (job false told prim.ReduceComm at) q ∙ some_reduce_comm told at ne d x)

  pub scan_planned : p ≡ prim.Scan → Two_rows ds (Ok tt) → Plans p at ds (Ok plan.Scan)
  unfolding Plans
  scan_planned e (two_rows ne d q x) told = plan_scan ne d q (ap (λ z. job false told z at ds) e ∙ ap (job false told prim.Scan at) q ∙ some_scan told at ne d x)

  pub done_planned : (v : Data) → Does (job false Unmet_shape p at ds) (as_held (Ok v)) → Plans p at ds (Ok (plan.Done v))
  unfolding Plans
  done_planned v h told = plan_done (does_told told p at ds (as_held (Ok v)) h)

  does_stop : (told : Shape) (o : Out Job) (e : Stop) → Does o (Err e) → Planned told o at ds (Err e)
  does_stop told o _ (does_fail q) = plan_fails q
  does_stop told o _ does_memory = plan_memory
  does_stop told o _ (does_lost q) = plan_lost q

  pub done_stop : (e : Stop) → Does (job false Unmet_shape p at ds) (as_held (Err e)) → Plans p at ds (Err e)
  unfolding Plans
  done_stop e h told = does_stop told (job false told p at ds) e (does_told told p at ds (Err e) h)

  pub no_plan : Plans p at ds (Err Memory)
  unfolding Plans
  no_plan told = plan_memory

pub as_table : (p : Primitive) (at : Place) (ds : List Data) (d : Data) (r : Result Plan Stop) → p ≡ prim.Tabulate → length ds ≡ 1 → Plans prim.Tabulate at (held (get_or ds 0 d) ∷ []) r → Plans p at (held_all ds) r
as_table p at ds d r e l h = subst (λ z. Plans z at (held_all ds) r) (sym e) (subst (λ z. Plans prim.Tabulate at z r) (sym (one_held ds d l)) h)

pub ruleset plans = (as_map, as_map2, as_map3, as_map4, as_map5, reduce_stop, reduce_comm_stop, scan_stop, reduce_planned, reduce_comm_planned, scan_planned, as_table, no_plan, done_planned, done_stop)

-- ---- arguments and results

pub columns_put : (f g : Finish) (ds : List Datum) (i : ℕ) (s s' : List Datum) (r : Result (Unit {0}) Stop) → f ≡ g → source_row g ds i ≡ each_at i ds → Put ds i s s' r → Put_row f ds i s s' r
columns_put f g ds i s s' _ e t (put es q p) = put_row es (ap (λ z. source_row z ds i) e ∙ t ∙ q) p
columns_put f g ds i s s' _ e t not_put = no_row_put

pub table_put : (f : Finish) (ds : List Datum) (i n : ℕ) (s s' : List Data) (v : Data) → f ≡ finish.Tabulated n → held v ≡ i64 i → s' ≡ s ++ v ∷ [] → Put_row f ds i (held_all s) (held_all s') (Ok tt)
unfolding held_all
table_put f ds i n s s' v e q p = put_row (i64 i ∷ []) (ap (λ z. source_row z ds i) e) (ap (map held) p ∙ map_push held s v ∙ ap (λ z. map held s ++ z ∷ []) q)

pub ruleset rows_put = (columns_put, table_put, no_row_put)

module _ (told : Shape) (f : Finish) (at : Place) (ds es : List Datum) where
  pub map_finished : (r : Result Datum Stop) → f ≡ finish.Mapped → Tells (array false at told es) r → Counted_is (made_of told f at ds es) r
  map_finished r e t = subst (λ z. Counted_is (made_of told z at ds es) r) (sym e) (by_array r t)
    where
      by_array : (r : Result Datum Stop) → Tells (array false at told es) r → Counted_is (array_of_results false told at es) r
      by_array _ (is_told {a} q) = counted_is {c = array_words (shape_of a)} {d = a} (ap all_fresh q)
      by_array _ (report_told q) = counted_fails (ap all_fresh q)
      by_array _ no_memory_told = counted_memory
      by_array r (lost q) = counted_lost (ap all_fresh q)

  pub table_finished : (n : ℕ) (r : Result Datum Stop) → f ≡ finish.Tabulated n → Tells (array false at told es) r → Counted_is (made_of told f at ds es) r
  table_finished n r e t = subst (λ z. Counted_is (made_of told z at ds es) r) (sym e) (by_array r t)
    where
      by_array : (r : Result Datum Stop) → Tells (array false at told es) r → Counted_is (array_of_indices false told at n es) r
      by_array _ (is_told {a} q) = counted_is {c = array_words (shape_of a) + n} {d = a} (ap (λ z. and_then z (λ e. Val (array_words (shape_of e) + n, e))) q)
      by_array _ (report_told q) = counted_fails (ap (λ z. and_then z (λ e. Val (array_words (shape_of e) + n, e))) q)
      by_array _ no_memory_told = counted_memory
      by_array r (lost q) = counted_lost (ap (λ z. and_then z (λ e. Val (array_words (shape_of e) + n, e))) q)

module _ (told : Shape) (f : Finish) (at : Place) (ds : List Data) (d : Data) (es : List Datum) (r : Result Datum Stop) (one : length ds ≡ 1) where
  pub kept_finished : f ≡ finish.Kept → Sieved finish.Kept at (held (get_or ds 0 d)) es r → Counted_is (made_of told f at (held_all ds) es) r
  unfolding Sieved
  kept_finished i h = subst (λ z. Counted_is (made_of told z at (held_all ds) es) r) (sym i) (subst (λ z. Counted_is (made_of told finish.Kept at z es) r) (sym (one_held ds d one)) h)

  pub parted_finished : f ≡ finish.Parted → Sieved finish.Parted at (held (get_or ds 0 d)) es r → Counted_is (made_of told f at (held_all ds) es) r
  unfolding Sieved
  parted_finished i h = subst (λ z. Counted_is (made_of told z at (held_all ds) es) r) (sym i) (subst (λ z. Counted_is (made_of told finish.Parted at z es) r) (sym (one_held ds d one)) h)

pub ruleset finishes = (kept_finished, parted_finished, map_finished, table_finished, counted_memory)
