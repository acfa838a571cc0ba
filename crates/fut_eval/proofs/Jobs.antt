-- Primitives, by what their plans and functions give.
use Rattle.std.proofs.Common.{◌≡◌, ℕ, ◌+◌, ◌≤◌, List, [], ◌∷◌, ◌++◌, length, get_or, Ok, Err, Result, Bool, true, false, refl, sym, ap, ◌∙◌, subst}
use Rattle.fut_scalar.specs.declared.place.Place.{Place}
use Rattle.fut_scalar.specs.declared.report.Report.{Report}
use Rattle.fut_flat.specs.declared.prim.Primitive.{Primitive}
use Rattle.fut_value.specs.Data.{Shape, Datum, Array_datum, datums, shape_of, array_words}
use Rattle.std.specs.Prelude.{ℤ}
use Rattle.fut_meaning.specs.Arrays.{array, all_fresh, fresh, each_out, exact_of}
use Rattle.fut_meaning.specs.Jobs.{Applied, in_place_of, writes, Job, Done, Apply_each, Reduce_each, Choose_each, Some_of, some_of, shown, scattered, places, or_old, all_of, prefixes_on, job}
use Rattle.fut_meaning.specs.Outcomes.{Rel, Out, Val, Fail, Wrong, and_then, exact, gives, the, Then, goes_on, stops, sticks, both, stops_left, sticks_left, each_of}
use Rattle.fut_blocks.specs.declared.block.Atom.{Atom}
use Rattle.fut_blocks.specs.Meaning.{Component, Names, Results, values_of, function_of, job_given, act_means, body_means}
use Rattle.fut_blocks.specs.Numbered.{Upward, Act_numbered, Body_numbered}
use Rattle.fut_blocks.specs.Plain.{Body}
use Rattle.fut_blocks.specs.Rows.{Row}
use Rattle.fut_blocks.specs.Sizes.{row_shape}
use Rattle.fut_blocks.specs.Plain as act
use Rattle.array_data.specs.declared.data.Data.{Data}
use Rattle.array_primitives.specs.declared.jobs.Finish.{Finish}
use Rattle.array_primitives.specs.declared.jobs.Plan.TheVariants as plan
use Rattle.array_data.specs.declared.stop.Stop.{Stop}
use Rattle.array_data.specs.declared.stop.Stop.TheVariants.{Failed, Memory}
use Rattle.array_data.specs.Answers.{Does, does, does_lost}
use Rattle.array_data.specs.Held.{held, held_all, rows_in, row_shape_in, shape_held}
use Rattle.array_data.specs.declared.form.Form.{Form}
use Rattle.array_data.specs.Changes.{Stands_in, stands_in, misfits, no_memory_for}
use Rattle.array_primitives.specs.Plans.{and_old, combines, plan_combine, made_of, first_fresh, Planned, Plans, plan_done, plan_scatter, plan_each, plan_reduce, plan_scan, plan_fails, plan_memory, plan_lost, Counted_is, counted_is, counted_fails, counted_memory, counted_lost}
use Rattle.array_primitives.specs.Writes.{All_chosen, none_chosen, one_chosen, in_array, Scatters, scatters, scatter_fails, scatter_memory, scatter_lost}
use Rattle.array_primitives.proofs.Planning.{two_held, three_held}
use Rattle.fut_eval.specs.Answers.{Answer, Tells, told, report_told, no_memory_told, lost, Stands, Kept, Runs, ran, failed, no_memory, gone, Pushed, pushed, not_pushed, Reads_data}
use Rattle.fut_eval.specs.Primitives.{Gives, gave, gave_failure, gave_memory, gave_wrong, applies, Each_runs, reduction, Fold_runs, Scan_runs, Combine_runs, Job_runs, Told_runs, told_by, Primitive_runs, Finishes}
use Rattle.fut_eval.specs.Runs.{Act_runs}
use Rattle.fut_eval.proofs.RowsMet.{Reported, row_reports}
use Rattle.fut_eval.proofs.Tells.{the_is, then_stop, then_next, kept_same, stands_kept}

-- ---- a primitive, once its data is read

module _ (budget : ℕ) (row : Row) (p : Primitive) (at : Place) (us : List Atom) (xs : List ℕ) (b : Body) (t s : List Component) where
  -- what is done with data, once it is read
  abbrev done_with : Names Component → List Component → Results
  done_with env vs = Then (the (told_by env row p at vs)) (job_given true (function_of (body_means true budget b) xs env))

  pub data_stop : (e : Stop) → Reads_data t us (Err e) → Act_runs budget (act.Job row p at us xs b) t t s s (Err e)
  unfolding Reads_data Act_runs act_means
  data_stop e h env n last st na l = then_stop n t t s s (values_of env us) (done_with env) e (h env n st)

  data_used : (ds : List Component) (t' s' : List Component) (r : Answer) → Reads_data t us (Ok ds) → Primitive_runs budget b xs row p at ds t t' s s' r → Act_runs budget (act.Job row p at us xs b) t t' s s' r
  unfolding Reads_data Act_runs Primitive_runs act_means Act_numbered
  data_used ds t' s' r h k env n last st (mid, u, nb) l = then_next n t t' s s' (values_of env us) (done_with env) ds r (h env n st) (k env n mid last st u nb l)

pub data_read : (budget : ℕ) (row : Row) (p : Primitive) (at : Place) (us : List Atom) (xs : List ℕ) (b : Body) (t given : List Data) (s : List Component) (ds : List Component) (t' s' : List Component) (r : Answer) → Reads_data (held_all t) us (Ok ds) → given ≡ t → Primitive_runs budget b xs row p at ds (held_all given) t' s s' r → Act_runs budget (act.Job row p at us xs b) (held_all t) t' s s' r
data_read budget row p at us xs b t given s ds t' s' r h e k = data_used budget row p at us xs b (held_all t) s ds t' s' r h (subst (λ z. Primitive_runs budget b xs row p at ds (held_all z) t' s s' r) e k)

-- what holds whatever is told holds of what a row tells
pub any_row : (budget : ℕ) (b : Body) (xs : List ℕ) (row : Row) (p : Primitive) (at : Place) (ds : List Datum) (t t' s s' : List Component) (r : Answer) → Told_runs budget b xs p at ds t t' s s' r → Primitive_runs budget b xs row p at ds t t' s s' r
unfolding Told_runs Job_runs Primitive_runs
any_row budget b xs row p at ds t t' s s' r k env n mid last st u nb l = by_row (row_shape env row) (row_reports env row)
  where
    by_row : (o : Out Shape) → (Reported o → ⊥) → Runs (Then (the (and_then o (λ h. job false h p at ds))) (job_given true (applies budget b xs env))) n t t' s s' r
    by_row (Val h) x = k h env n mid last st u nb l
    by_row (Fail q) x = absurd (x tt)
    by_row Wrong x = gone 0 (sticks (the_is Wrong Wrong refl))

pub ruleset acts = (data_stop, data_read, any_row)

-- ---- what a job gives

module _ (budget : ℕ) (b : Body) (xs : List ℕ) (o : Out Job) where
  job_memory : (t t' s s' : List Component) → Job_runs budget b xs o t t' s s' (Err Memory)
  unfolding Job_runs
  job_memory t t' s s' env n mid last st u nb l = no_memory

  job_lost : (t t' s s' : List Component) (r : Answer) → o ≡ Wrong → Job_runs budget b xs o t t' s s' r
  unfolding Job_runs
  job_lost t t' s s' r e env n mid last st u nb l = gone 0 (sticks (the_is o Wrong e))

  pub plan_stop : (missing : Shape) (at : Place) (ds : List Datum) (t s : List Component) (e : Stop) → Planned missing o at ds (Err e) → Job_runs budget b xs o t t s s (Err e)
  unfolding Job_runs
  plan_stop missing at ds t s _ (plan_fails {r} q) env n mid last st u nb l = failed 0 (stops (the_is o (Fail r) q))
  plan_stop missing at ds t s _ plan_memory env n mid last st u nb l = no_memory
  plan_stop missing at ds t s e (plan_lost q) env n mid last st u nb l = gone 0 (sticks (the_is o Wrong q))

  -- what a result that is put on the stack gives
  result_runs : (env : Names Component) (n : ℕ) (t t' s s1 s2 : List Component) (d : Datum) (f : ℕ) (r : Answer) → Kept n t t' → s1 ≡ s → Then (the o) (job_given true (applies budget b xs env)) (Val (d ∷ [])) f → Pushed d s1 s2 r → Runs (Then (the o) (job_given true (applies budget b xs env))) n t t' s s2 r
  result_runs env n t t' s s1 s2 d f _ k q h (pushed p) = ran (d ∷ []) f (p ∙ ap (λ z. z ++ d ∷ []) q) (tt, tt) k h
  result_runs env n t t' s s1 s2 d f _ k q h not_pushed = no_memory

  all_chosen : (xss : List (List Datum)) (ys : List Datum) → All_chosen xss ys → (c : ℕ) × all_of Some_of xss (Val ys) c
  all_chosen _ _ none_chosen = (0, exact)
  all_chosen _ _ (one_chosen {xss = xss} {ys = ys} h a) = let c = all_chosen xss ys a in (0 + c.0 + 0, both (some_of h) c.1 exact)

  -- rows that are written
  chosen_done : (t s s1 : List Component) (v : Datum) (r : Answer) → Scatters o (Ok v) → Pushed v s s1 r → Job_runs budget b xs o t t s s1 r
  unfolding Job_runs
  chosen_done t s s1 v r (scatter_lost q) h env n mid last st u nb l = gone 0 (sticks (the_is o Wrong q))
  chosen_done t s s1 v r (scatters ws old row es q a e) h env n mid last st u nb l = let c = all_chosen (places or_old 0 old ws) es a in
      result_runs env n t t s s s1 v (0 + (c.0 + (0 + 0) + 0)) r (kept_same n t) refl
      (goes_on (the_is o (Val (Choose_each ws old (in_array row))) q)
      (goes_on (goes_on (shown tt c.1) (goes_on exact (subst (λ d. gives 0 (Array_datum row (datums es)) (Val d) 0) (sym e) exact))) exact)) h

  chosen_stop : (t s : List Component) (e : Stop) → Scatters o (Err e) → Job_runs budget b xs o t t s s (Err e)
  unfolding Job_runs
  chosen_stop t s _ (scatter_fails {r} q) env n mid last st u nb l = failed 0 (stops (the_is o (Fail r) q))
  chosen_stop t s _ scatter_memory env n mid last st u nb l = no_memory
  chosen_stop t s e (scatter_lost q) env n mid last st u nb l = gone 0 (sticks (the_is o Wrong q))

  pub job_done : (missing : Shape) (at : Place) (ds : List Datum) (t s s1 : List Component) (v : Data) (r : Answer) → Planned missing o at ds (Ok (plan.Done v)) → Pushed (held v) s s1 r → Job_runs budget b xs o t t s s1 r
  unfolding Job_runs
  job_done missing at ds t s s1 v r (plan_lost q) h env n mid last st u nb l = gone 0 (sticks (the_is o Wrong q))
  job_done missing at ds t s s1 v r (plan_done d) h env n mid last st u nb l = by_does d
    where
      by_does : Does o (Ok (held v)) → Runs (Then (the o) (job_given true (applies budget b xs env))) n t t s s1 r
      by_does (does_lost q) = gone 0 (sticks (the_is o Wrong q))
      by_does (does {c} {d} q) = result_runs env n t t s s s1 (held v) (0 + (c + 0)) r (kept_same n t) refl (goes_on (the_is o (Val (Done (c, held v))) q) (goes_on exact exact)) h

  -- the function on each row
  module _ (missing : Shape) (at : Place) (ds : List Datum) (f : Finish) (n : ℕ) (p : Planned missing o at ds (Ok (plan.Each f n))) (t t1 s s1 : List Component) where
    each_rows_stop : (e : Stop) → Each_runs budget b xs f ds n t t1 s s1 (Err e) → Job_runs budget b xs o t t1 s s1 (Err e)
    unfolding Each_runs Job_runs
    each_rows_stop e h env k mid last st u nb l = by_plan p
      where
        by_each : {e : Stop} (rows : List (List Datum)) → o ≡ Val (Apply_each rows (made_of missing f at ds)) → Gives (each_of (applies budget b xs env) rows) k t t1 s s1 (Err e) → Runs (Then (the o) (job_given true (applies budget b xs env))) k t t1 s s1 (Err e)
        by_each rows q (gave_failure c y) = failed (0 + c) (goes_on (the_is o (Val (Apply_each rows (made_of missing f at ds))) q) (stops (stops y)))
        by_each rows q gave_memory = no_memory
        by_each rows q (gave_wrong c y) = gone (0 + c) (goes_on (the_is o (Val (Apply_each rows (made_of missing f at ds))) q) (sticks (sticks y)))

        by_plan : Planned missing o at ds (Ok (plan.Each f n)) → Runs (Then (the o) (job_given true (applies budget b xs env))) k t t1 s s1 (Err e)
        by_plan (plan_each rows q m w) = by_each rows q (h rows m w env k mid last st u nb l)
        by_plan (plan_lost q) = gone 0 (sticks (the_is o Wrong q))

    -- with what is made of the results, under names that stand in the table that the function leaves
    module _ (es : List Datum) (h : Each_runs budget b xs f ds n t t1 s s1 (Ok es)) (env : Names Component) (k mid last : ℕ) (st : Stands env k t) (u : Upward k xs mid) (nb : Body_numbered mid b last) (l : last ≤ length t) where
      each_made_stop : (e : Stop) → (Stands env k t1 → Counted_is (made_of missing f at ds es) (Err e)) → Runs (Then (the o) (job_given true (applies budget b xs env))) k t t1 s s1 (Err e)
      unfolding Each_runs
      each_made_stop e g = by_plan p
        where
          by_made : {e : Stop} (rows : List (List Datum)) (c : ℕ) → o ≡ Val (Apply_each rows (made_of missing f at ds)) → each_of (applies budget b xs env) rows (Val es) c → Counted_is (made_of missing f at ds es) (Err e) → Runs (Then (the o) (job_given true (applies budget b xs env))) k t t1 s s1 (Err e)
          by_made rows c q y (counted_fails {r} x) = failed (0 + (c + 0)) (goes_on (the_is o (Val (Apply_each rows (made_of missing f at ds))) q) (stops (goes_on y (stops (the_is (made_of missing f at ds es) (Fail r) x)))))
          by_made rows c q y counted_memory = no_memory
          by_made rows c q y (counted_lost x) = gone (0 + (c + 0)) (goes_on (the_is o (Val (Apply_each rows (made_of missing f at ds))) q) (sticks (goes_on y (sticks (the_is (made_of missing f at ds es) Wrong x)))))

          by_each : (rows : List (List Datum)) → o ≡ Val (Apply_each rows (made_of missing f at ds)) → Gives (each_of (applies budget b xs env) rows) k t t1 s s1 (Ok es) → Runs (Then (the o) (job_given true (applies budget b xs env))) k t t1 s s1 (Err e)
          by_each rows q (gave c y kr qr) = by_made rows c q y (g (stands_kept env k t t1 st kr))
          by_each rows q (gave_wrong c y) = gone (0 + c) (goes_on (the_is o (Val (Apply_each rows (made_of missing f at ds))) q) (sticks (sticks y)))

          by_plan : Planned missing o at ds (Ok (plan.Each f n)) → Runs (Then (the o) (job_given true (applies budget b xs env))) k t t1 s s1 (Err e)
          by_plan (plan_each rows q m w) = by_each rows q (h rows m w env k mid last st u nb l)
          by_plan (plan_lost q) = gone 0 (sticks (the_is o Wrong q))

      each_made : (d : Datum) (s2 : List Component) (r : Answer) → (Stands env k t1 → Counted_is (made_of missing f at ds es) (Ok d)) → Pushed d s1 s2 r → Runs (Then (the o) (job_given true (applies budget b xs env))) k t t1 s s2 r
      unfolding Each_runs
      each_made d s2 r g x = by_plan p
        where
          by_made : (rows : List (List Datum)) (c : ℕ) → o ≡ Val (Apply_each rows (made_of missing f at ds)) → each_of (applies budget b xs env) rows (Val es) c → Kept k t t1 → s1 ≡ s → Counted_is (made_of missing f at ds es) (Ok d) → Runs (Then (the o) (job_given true (applies budget b xs env))) k t t1 s s2 r
          by_made rows c q y kr qr (counted_is {c = w} z) =
              result_runs env k t t1 s s1 s2 d (0 + (c + (0 + w) + 0)) r kr qr
              (goes_on (the_is o (Val (Apply_each rows (made_of missing f at ds))) q) (goes_on (goes_on y (goes_on (the_is (made_of missing f at ds es) (Val (w, d)) z) exact)) exact)) x
          by_made rows c q y kr qr (counted_lost z) = gone (0 + (c + 0)) (goes_on (the_is o (Val (Apply_each rows (made_of missing f at ds))) q) (sticks (goes_on y (sticks (the_is (made_of missing f at ds es) Wrong z)))))

          by_each : (rows : List (List Datum)) → o ≡ Val (Apply_each rows (made_of missing f at ds)) → Gives (each_of (applies budget b xs env) rows) k t t1 s s1 (Ok es) → Runs (Then (the o) (job_given true (applies budget b xs env))) k t t1 s s2 r
          by_each rows q (gave c y kr qr) = by_made rows c q y kr qr (g (stands_kept env k t t1 st kr))
          by_each rows q (gave_wrong c y) = gone (0 + c) (goes_on (the_is o (Val (Apply_each rows (made_of missing f at ds))) q) (sticks (sticks y)))

          by_plan : Planned missing o at ds (Ok (plan.Each f n)) → Runs (Then (the o) (job_given true (applies budget b xs env))) k t t1 s s2 r
          by_plan (plan_each rows q m w) = by_each rows q (h rows m w env k mid last st u nb l)
          by_plan (plan_lost q) = gone 0 (sticks (the_is o Wrong q))

-- ---- reductions

-- both arguments are what the plan says
same_two : (ds : List Data) (k m : Data) (ne d : Datum) → length ds ≡ 2 → held_all ds ≡ ne ∷ d ∷ [] → (held (get_or ds 0 k) ≡ ne) × (held (get_or ds 1 m) ≡ d)
same_two ds k m ne d l e = let q : held (get_or ds 0 k) ∷ held (get_or ds 1 m) ∷ [] ≡ ne ∷ d ∷ [] = sym (two_held ds k m l) ∙ e in (let x : held (get_or ds 0 k) ≡ ne = cc in x, let y : held (get_or ds 1 m) ≡ d = cc in y)

module _ (budget : ℕ) (b : Body) (xs : List ℕ) (o : Out Job) (at : Place) (ds : List Data) (k m : Data) (two : length ds ≡ 2) (t t1 s s1 : List Component) where
  module _ (missing : Shape) (p : Planned missing o at (held_all ds) (Ok plan.Reduce)) where
    pub fold_no_result : (e : Stop) → Fold_runs budget b xs (held (get_or ds 0 k)) (held (get_or ds 1 m)) t t1 s s1 (Err e) → Job_runs budget b xs o t t1 s s1 (Err e)
    unfolding Fold_runs Job_runs
    fold_no_result e h env n mid last st u nb l = by_plan p
      where
        by_fold : {e : Stop} (any : Bool) (ne d : Datum) → o ≡ Val (Reduce_each any ne (rows_in d ∷ []) first_fresh) → Gives (reduction any (applies budget b xs env) ne (rows_in d)) n t t1 s s1 (Err e) → Runs (Then (the o) (job_given true (applies budget b xs env))) n t t1 s s1 (Err e)
        by_fold any ne d q (gave_failure c y) = failed (0 + c) (goes_on (the_is o (Val (Reduce_each any ne (rows_in d ∷ []) first_fresh)) q) (stops (stops (stops_left y))))
        by_fold any ne d q gave_memory = no_memory
        by_fold any ne d q (gave_wrong c y) = gone (0 + c) (goes_on (the_is o (Val (Reduce_each any ne (rows_in d ∷ []) first_fresh)) q) (sticks (sticks (sticks_left y))))

        by_plan : Planned missing o at (held_all ds) (Ok plan.Reduce) → Runs (Then (the o) (job_given true (applies budget b xs env))) n t t1 s s1 (Err e)
        by_plan (plan_reduce any ne d i q) =
            let x = same_two ds k m ne d two i in
            by_fold any ne d q (subst (λ z. Gives (reduction any (applies budget b xs env) ne (rows_in z)) n t t1 s s1 (Err e)) x.1 (subst (λ z. Gives (reduction any (applies budget b xs env) z (rows_in (held (get_or ds 1 m)))) n t t1 s s1 (Err e)) x.0 (h any env n mid last st u nb l)))
        by_plan (plan_lost q) = gone 0 (sticks (the_is o Wrong q))

    pub fold_result : (v : Datum) (s2 : List Component) (r : Answer) → Fold_runs budget b xs (held (get_or ds 0 k)) (held (get_or ds 1 m)) t t1 s s1 (Ok v) → Pushed v s1 s2 r → Job_runs budget b xs o t t1 s s2 r
    unfolding Fold_runs Job_runs
    fold_result v s2 r h x env n mid last st u nb l = by_plan p
      where
        by_fold : (any : Bool) (ne d : Datum) → o ≡ Val (Reduce_each any ne (rows_in d ∷ []) first_fresh) → Gives (reduction any (applies budget b xs env) ne (rows_in d)) n t t1 s s1 (Ok v) → Runs (Then (the o) (job_given true (applies budget b xs env))) n t t1 s s2 r
        by_fold any ne d q (gave c y kr qr) =
            result_runs budget b xs o env n t t1 s s1 s2 v (0 + (c + 0 + 0 + (0 + array_words (shape_of v)) + 0)) r kr qr
            (goes_on (the_is o (Val (Reduce_each any ne (rows_in d ∷ []) first_fresh)) q) (goes_on (goes_on (both y exact exact) (goes_on (the_is (fresh v) (Val (array_words (shape_of v), v)) refl) exact)) exact)) x
        by_fold any ne d q (gave_wrong c y) = gone (0 + c) (goes_on (the_is o (Val (Reduce_each any ne (rows_in d ∷ []) first_fresh)) q) (sticks (sticks (sticks_left y))))

        by_plan : Planned missing o at (held_all ds) (Ok plan.Reduce) → Runs (Then (the o) (job_given true (applies budget b xs env))) n t t1 s s2 r
        by_plan (plan_reduce any ne d i q) =
            let w = same_two ds k m ne d two i in
            by_fold any ne d q (subst (λ z. Gives (reduction any (applies budget b xs env) ne (rows_in z)) n t t1 s s1 (Ok v)) w.1 (subst (λ z. Gives (reduction any (applies budget b xs env) z (rows_in (held (get_or ds 1 m)))) n t t1 s s1 (Ok v)) w.0 (h any env n mid last st u nb l)))
        by_plan (plan_lost q) = gone 0 (sticks (the_is o Wrong q))

  -- what a scan makes of its values
  abbrev scan_job : (ne d : Datum) → Job
  scan_job ne d = Reduce_each false ne (prefixes_on [] (rows_in d)) (λ es. all_fresh (array false at (row_shape_in d) es))

  module _ (missing : Shape) (p : Planned missing o at (held_all ds) (Ok plan.Scan)) where
    pub scan_no_result : (e : Stop) → Scan_runs budget b xs (held (get_or ds 0 k)) (held (get_or ds 1 m)) t t1 s s1 (Err e) → Job_runs budget b xs o t t1 s s1 (Err e)
    unfolding Scan_runs Job_runs
    scan_no_result e h env n mid last st u nb l = by_plan p
      where
        by_scan : {e : Stop} (ne d : Datum) → o ≡ Val (scan_job ne d) → Gives (all_of (reduction false (applies budget b xs env) ne) (prefixes_on [] (rows_in d))) n t t1 s s1 (Err e) → Runs (Then (the o) (job_given true (applies budget b xs env))) n t t1 s s1 (Err e)
        by_scan ne d q (gave_failure c y) = failed (0 + c) (goes_on (the_is o (Val (scan_job ne d)) q) (stops (stops y)))
        by_scan ne d q gave_memory = no_memory
        by_scan ne d q (gave_wrong c y) = gone (0 + c) (goes_on (the_is o (Val (scan_job ne d)) q) (sticks (sticks y)))

        by_plan : Planned missing o at (held_all ds) (Ok plan.Scan) → Runs (Then (the o) (job_given true (applies budget b xs env))) n t t1 s s1 (Err e)
        by_plan (plan_scan ne d i q) =
            let x = same_two ds k m ne d two i in
            by_scan ne d q (subst (λ z. Gives (all_of (reduction false (applies budget b xs env) ne) (prefixes_on [] (rows_in z))) n t t1 s s1 (Err e)) x.1 (subst (λ z. Gives (all_of (reduction false (applies budget b xs env) z) (prefixes_on [] (rows_in (held (get_or ds 1 m))))) n t t1 s s1 (Err e)) x.0 (h env n mid last st u nb l)))
        by_plan (plan_lost q) = gone 0 (sticks (the_is o Wrong q))

    module _ (es : List Datum) (h : Scan_runs budget b xs (held (get_or ds 0 k)) (held (get_or ds 1 m)) t t1 s s1 (Ok es)) (g : Shape) (i : g ≡ row_shape_in (held (get_or ds 1 m))) where
      scan_told : (r : Result Datum Stop) → Tells (array false at g es) r → (env : Names Component) (n mid last : ℕ) → Stands env n t → Upward n xs mid → Body_numbered mid b last → last ≤ length t
          → (s2 : List Component) (a : Answer) → ((v : Datum) (f : ℕ) → r ≡ Ok v → Kept n t t1 → s1 ≡ s → Then (the o) (job_given true (applies budget b xs env)) (Val (v ∷ [])) f → Runs (Then (the o) (job_given true (applies budget b xs env))) n t t1 s s2 a)
          → ((q : Report) (f : ℕ) → r ≡ Err (Failed q) → Then (the o) (job_given true (applies budget b xs env)) (Fail q) f → Runs (Then (the o) (job_given true (applies budget b xs env))) n t t1 s s2 a)
          → (r ≡ Err Memory → Runs (Then (the o) (job_given true (applies budget b xs env))) n t t1 s s2 a)
          → Runs (Then (the o) (job_given true (applies budget b xs env))) n t t1 s s2 a
      unfolding Scan_runs
      scan_told r y env n mid last st u nb l s2 a good bad none = by_plan p
        where
          by_array : (ne d : Datum) (c : ℕ) (r : Result Datum Stop) → o ≡ Val (scan_job ne d) → all_of (reduction false (applies budget b xs env) ne) (prefixes_on [] (rows_in d)) (Val es) c → Kept n t t1 → s1 ≡ s
              → ((v : Datum) (f : ℕ) → r ≡ Ok v → Kept n t t1 → s1 ≡ s → Then (the o) (job_given true (applies budget b xs env)) (Val (v ∷ [])) f → Runs (Then (the o) (job_given true (applies budget b xs env))) n t t1 s s2 a)
              → ((q : Report) (f : ℕ) → r ≡ Err (Failed q) → Then (the o) (job_given true (applies budget b xs env)) (Fail q) f → Runs (Then (the o) (job_given true (applies budget b xs env))) n t t1 s s2 a)
              → (r ≡ Err Memory → Runs (Then (the o) (job_given true (applies budget b xs env))) n t t1 s s2 a)
              → Tells (array false at (row_shape_in d) es) r → Runs (Then (the o) (job_given true (applies budget b xs env))) n t t1 s s2 a
          by_array ne d c _ q z kr qr good bad none (told {a = v} x) = good v (0 + (c + (0 + array_words (shape_of v)) + 0)) refl kr qr (goes_on (the_is o (Val (scan_job ne d)) q) (goes_on (goes_on z (goes_on (the_is (all_fresh (array false at (row_shape_in d) es)) (Val (array_words (shape_of v), v)) (ap all_fresh x)) exact)) exact))
          by_array ne d c _ q z kr qr good bad none (report_told {r} x) = bad r (0 + (c + 0)) refl (goes_on (the_is o (Val (scan_job ne d)) q) (stops (goes_on z (stops (the_is (all_fresh (array false at (row_shape_in d) es)) (Fail r) (ap all_fresh x))))))
          by_array ne d c _ q z kr qr good bad none no_memory_told = none refl
          by_array ne d c r q z kr qr good bad none (lost x) = gone (0 + (c + 0)) (goes_on (the_is o (Val (scan_job ne d)) q) (sticks (goes_on z (sticks (the_is (all_fresh (array false at (row_shape_in d) es)) Wrong (ap all_fresh x))))))

          by_scan : (ne d : Datum) → o ≡ Val (scan_job ne d) → held (get_or ds 1 m) ≡ d → Gives (all_of (reduction false (applies budget b xs env) ne) (prefixes_on [] (rows_in d))) n t t1 s s1 (Ok es) → Runs (Then (the o) (job_given true (applies budget b xs env))) n t t1 s s2 a
          by_scan ne d q j (gave c z kr qr) = by_array ne d c r q z kr qr good bad none (subst (λ w. Tells (array false at w es) r) (i ∙ ap row_shape_in j) y)
          by_scan ne d q j (gave_wrong c z) = gone (0 + c) (goes_on (the_is o (Val (scan_job ne d)) q) (sticks (sticks z)))

          by_plan : Planned missing o at (held_all ds) (Ok plan.Scan) → Runs (Then (the o) (job_given true (applies budget b xs env))) n t t1 s s2 a
          by_plan (plan_scan ne d j q) =
              let x = same_two ds k m ne d two j in
              by_scan ne d q x.1 (subst (λ z. Gives (all_of (reduction false (applies budget b xs env) ne) (prefixes_on [] (rows_in z))) n t t1 s s1 (Ok es)) x.1 (subst (λ z. Gives (all_of (reduction false (applies budget b xs env) z) (prefixes_on [] (rows_in (held (get_or ds 1 m))))) n t t1 s s1 (Ok es)) x.0 (h env n mid last st u nb l)))
          by_plan (plan_lost q) = gone 0 (sticks (the_is o Wrong q))

      pub scan_misfits : (e : Stop) → Tells (array false at g es) (Err e) → Job_runs budget b xs o t t1 s s1 (Err e)
      unfolding Job_runs
      scan_misfits e y env n mid last st u nb l = scan_told (Err e) y env n mid last st u nb l s1 (Err e) (λ v f q kr qr z. cc) (λ r f q z. let x : e ≡ Failed r = cc in subst (λ w. Runs (Then (the o) (job_given true (applies budget b xs env))) n t t1 s s1 (Err w)) (sym x) (failed f z)) (λ q. let x : e ≡ Memory = cc in subst (λ w. Runs (Then (the o) (job_given true (applies budget b xs env))) n t t1 s s1 (Err w)) (sym x) no_memory)

      pub scan_result : (v : Datum) (s2 : List Component) (a : Answer) → Tells (array false at g es) (Ok v) → Pushed v s1 s2 a → Job_runs budget b xs o t t1 s s2 a
      unfolding Job_runs
      scan_result v s2 a y x env n mid last st u nb l = scan_told (Ok v) y env n mid last st u nb l s2 a (λ w f q kr qr z. let j : v ≡ w = cc in result_runs budget b xs o env n t t1 s s1 s2 w f a kr qr z (subst (λ w. Pushed w s1 s2 a) j x)) (λ r f q z. cc) (λ q. cc)

-- ---- rows that are written at places

-- the array is apart from the other arguments
module _ (whole x y : Data) (rest : List Data) where
  same_scattered : (d is vs : Datum) → length rest ≡ 2 → held_all (whole ∷ rest) ≡ d ∷ is ∷ vs ∷ [] → (held whole ≡ d) × (held (get_or rest 0 x) ≡ is) × (held (get_or rest 1 y) ≡ vs)
  unfolding held_all
  same_scattered d is vs l e =
      let q : held whole ∷ held (get_or rest 0 x) ∷ held (get_or rest 1 y) ∷ [] ≡ d ∷ is ∷ vs ∷ [] = ap (λ z. held whole ∷ z) (sym (two_held rest x y l)) ∙ e in
      (let i : held whole ≡ d = cc in i, let i : held (get_or rest 0 x) ≡ is = cc in i, let i : held (get_or rest 1 y) ≡ vs = cc in i)

module _ (budget : ℕ) (b : Body) (xs : List ℕ) (o : Out Job) (at : Place) (ds : List Data) (whole x y : Data) (rest : List Data) (missing : Shape) (p : Planned missing o at (held_all ds) (Ok plan.Scatter)) (apart : ds ≡ whole ∷ rest) (two : length rest ≡ 2) (t s : List Component) where
  scattered_or_lost : (r : Result Datum Stop) → Scatters (scattered false at (held whole) (held (get_or rest 0 x)) (held (get_or rest 1 y))) r → Scatters o r
  scattered_or_lost r h = by_plan p
    where
      by_plan : Planned missing o at (held_all ds) (Ok plan.Scatter) → Scatters o r
      by_plan (plan_lost q) = scatter_lost q
      by_plan (plan_scatter d is vs e q) =
          let c = same_scattered whole x y rest d is vs two (ap held_all (sym apart) ∙ e) in
          let i : scattered false at (held whole) (held (get_or rest 0 x)) (held (get_or rest 1 y)) ≡ o
          = ap (λ z. scattered false at z (held (get_or rest 0 x)) (held (get_or rest 1 y))) c.0 ∙ ap (λ z. scattered false at d z (held (get_or rest 1 y))) c.1 ∙ ap (scattered false at d is) c.2 ∙ sym q in
          subst (λ z. Scatters z r) i h

  pub scatter_stops : (e : Stop) → Scatters (scattered false at (held whole) (held (get_or rest 0 x)) (held (get_or rest 1 y))) (Err e) → Job_runs budget b xs o t t s s (Err e)
  scatter_stops e h = chosen_stop budget b xs o t s e (scattered_or_lost (Err e) h)

  pub scatter_result : (v : Datum) (s1 : List Component) (r : Answer) → Scatters (scattered false at (held whole) (held (get_or rest 0 x)) (held (get_or rest 1 y))) (Ok v) → Pushed v s s1 r → Job_runs budget b xs o t t s s1 r
  scatter_result v s1 r h put = chosen_done budget b xs o t s s1 v r (scattered_or_lost (Ok v) h) put

-- ---- reductions at places

module _ (budget : ℕ) (b : Body) (xs : List ℕ) (o : Out Job) (at : Place) (n : ℕ) (ds : List Data) (whole x y z : Data) (rest : List Data) (h : Form) (old : List Datum) (missing : Shape) (p : Planned missing o at (held_all ds) (Ok (plan.Combine n))) (apart : ds ≡ whole ∷ rest) (three : length rest ≡ 3) (g : shape_held h ≡ row_shape_in (held whole)) (k : old ≡ rows_in (held whole)) (t t1 s s1 : List Component) where
  abbrev all_combined : Applied → (d ne vs : Datum) → List ℤ → Rel (List Datum)
  all_combined f d ne vs zs = all_of (reduction true f ne) (places and_old 0 (rows_in d) (writes (length (rows_in d)) zs (rows_in vs)))

  -- the arguments are what the plan says
  same_combined : (d ne is vs : Datum) → held_all (whole ∷ rest) ≡ d ∷ ne ∷ is ∷ vs ∷ [] → (held whole ≡ d) × (held (get_or rest 1 y) ≡ is) × (held (get_or rest 2 z) ≡ vs)
  unfolding held_all
  same_combined d ne is vs e =
      let q : held whole ∷ held (get_or rest 0 x) ∷ held (get_or rest 1 y) ∷ held (get_or rest 2 z) ∷ [] ≡ d ∷ ne ∷ is ∷ vs ∷ [] = ap (λ l. held whole ∷ l) (sym (three_held rest x y z three)) ∙ e in
      (let i : held whole ≡ d = cc in i, let i : held (get_or rest 1 y) ≡ is = cc in i, let i : held (get_or rest 2 z) ≡ vs = cc in i)

  -- what the plan says of a run
  by_places : (r : Result (List Datum) Stop) → Combine_runs budget b xs old (held (get_or rest 1 y)) (held (get_or rest 2 z)) n t t1 s s1 r
      → (env : Names Component) (m mid last : ℕ) → Stands env m t → Upward m xs mid → Body_numbered mid b last → last ≤ length t
      → (s2 : List Component) (a : Answer)
      → ((d ne vs : Datum) (zs : List ℤ) → o ≡ Val (combines at d ne vs zs) → shape_held h ≡ row_shape_in d → Gives (all_combined (applies budget b xs env) d ne vs zs) m t t1 s s1 r → Runs (Then (the o) (job_given true (applies budget b xs env))) m t t1 s s2 a)
      → Runs (Then (the o) (job_given true (applies budget b xs env))) m t t1 s s2 a
  unfolding Combine_runs
  by_places r w env m mid last st u nb l s2 a with_plan = by_plan p
    where
      at_arguments : (d ne is vs : Datum) (zs : List ℤ) → (held whole ≡ d) × (held (get_or rest 1 y) ≡ is) × (held (get_or rest 2 z) ≡ vs) → each_out exact_of (rows_in is) ≡ Val zs → n ≡ length (rows_in is) → n ≡ length (rows_in vs) → Gives (all_combined (applies budget b xs env) d ne vs zs) m t t1 s s1 r
      at_arguments d ne is vs zs (i, i', i'') q e e' =
          subst (λ v. Gives (all_combined (applies budget b xs env) d ne v zs) m t t1 s s1 r) i''
          (subst (λ old. Gives (all_of (reduction true (applies budget b xs env) ne) (places and_old 0 old (writes (length old) zs (rows_in (held (get_or rest 2 z)))))) m t t1 s s1 r) (k ∙ ap rows_in i)
          (w ne zs (ap (λ v. each_out exact_of (rows_in v)) i' ∙ q) (e ∙ sym (ap (λ v. length (rows_in v)) i')) (e' ∙ sym (ap (λ v. length (rows_in v)) i'')) env m mid last st u nb l))

      by_plan : Planned missing o at (held_all ds) (Ok (plan.Combine n)) → Runs (Then (the o) (job_given true (applies budget b xs env))) m t t1 s s2 a
      by_plan (plan_combine d ne is vs zs i q e e' j) = let c = same_combined d ne is vs (ap held_all (sym apart) ∙ i) in with_plan d ne vs zs j (g ∙ ap row_shape_in c.0) (at_arguments d ne is vs zs c q e e')
      by_plan (plan_lost q) = gone 0 (sticks (the_is o Wrong q))

  pub combine_no_result : (e : Stop) → Combine_runs budget b xs old (held (get_or rest 1 y)) (held (get_or rest 2 z)) n t t1 s s1 (Err e) → Job_runs budget b xs o t t1 s s1 (Err e)
  unfolding Job_runs
  combine_no_result e w env m mid last st u nb l = by_places (Err e) w env m mid last st u nb l s1 (Err e) (λ d ne vs zs q i g. by_gives d ne vs zs q g)
    where
      by_gives : {e : Stop} (d ne vs : Datum) (zs : List ℤ) → o ≡ Val (combines at d ne vs zs) → Gives (all_combined (applies budget b xs env) d ne vs zs) m t t1 s s1 (Err e) → Runs (Then (the o) (job_given true (applies budget b xs env))) m t t1 s s1 (Err e)
      by_gives d ne vs zs q (gave_failure c g) = failed (0 + c) (goes_on (the_is o (Val (combines at d ne vs zs)) q) (stops (stops g)))
      by_gives d ne vs zs q gave_memory = no_memory
      by_gives d ne vs zs q (gave_wrong c g) = gone (0 + c) (goes_on (the_is o (Val (combines at d ne vs zs)) q) (sticks (sticks g)))

  module _ (es : List Datum) (w : Combine_runs budget b xs old (held (get_or rest 1 y)) (held (get_or rest 2 z)) n t t1 s s1 (Ok es)) where
    pub combine_misfits : (e : Stop) → Stands_in at (shape_held h) es (Err e) → Job_runs budget b xs o t t1 s s1 (Err e)
    unfolding Job_runs
    combine_misfits e fits env m mid last st u nb l = by_places (Ok es) w env m mid last st u nb l s1 (Err e) (λ d ne vs zs q i g. by_gives d ne vs zs q g (subst (λ row. Stands_in at row es (Err e)) i fits))
      where
        by_gives : {e : Stop} (d ne vs : Datum) (zs : List ℤ) → o ≡ Val (combines at d ne vs zs) → Gives (all_combined (applies budget b xs env) d ne vs zs) m t t1 s s1 (Ok es) → Stands_in at (row_shape_in d) es (Err e) → Runs (Then (the o) (job_given true (applies budget b xs env))) m t t1 s s1 (Err e)
        by_gives d ne vs zs q (gave c g kr qr) (misfits {r} j) = failed (0 + (c + 0)) (goes_on (the_is o (Val (combines at d ne vs zs)) q) (stops (goes_on g (stops (the_is (in_place_of false at (row_shape_in d) es) (Fail r) j)))))
        by_gives d ne vs zs q (gave c g kr qr) no_memory_for = no_memory
        by_gives d ne vs zs q (gave_wrong c g) f = gone (0 + c) (goes_on (the_is o (Val (combines at d ne vs zs)) q) (sticks (sticks g)))

    pub combine_result : (v : Datum) (s2 : List Component) (a : Answer) → Stands_in at (shape_held h) es (Ok v) → Pushed v s1 s2 a → Job_runs budget b xs o t t1 s s2 a
    unfolding Job_runs
    combine_result v s2 a fits put env m mid last st u nb l = by_places (Ok es) w env m mid last st u nb l s2 a (λ d ne vs zs q i g. by_gives d ne vs zs q g (subst (λ row. Stands_in at row es (Ok v)) i fits))
      where
        by_gives : (d ne vs : Datum) (zs : List ℤ) → o ≡ Val (combines at d ne vs zs) → Gives (all_combined (applies budget b xs env) d ne vs zs) m t t1 s s1 (Ok es) → Stands_in at (row_shape_in d) es (Ok v) → Runs (Then (the o) (job_given true (applies budget b xs env))) m t t1 s s2 a
        by_gives d ne vs zs q (gave c g kr qr) (stands_in j) =
            result_runs budget b xs o env m t t1 s s1 s2 v (0 + (c + (0 + 0) + 0)) a kr qr
            (goes_on (the_is o (Val (combines at d ne vs zs)) q) (goes_on (goes_on g (goes_on (the_is (in_place_of false at (row_shape_in d) es) (Val (0, v)) j) exact)) exact)) put
        by_gives d ne vs zs q (gave_wrong c g) f = gone (0 + c) (goes_on (the_is o (Val (combines at d ne vs zs)) q) (sticks (sticks g)))

-- ---- whatever shape is told of missing rows

module _ (budget : ℕ) (b : Body) (xs : List ℕ) (p : Primitive) (at : Place) where
  pub told_memory : (ds : List Datum) (t t' s s' : List Component) → Told_runs budget b xs p at ds t t' s s' (Err Memory)
  unfolding Told_runs
  told_memory ds t t' s s' h = job_memory budget b xs (job false h p at ds) t t' s s'

  pub told_stop : (ds : List Datum) (t s : List Component) (e : Stop) → Plans p at ds (Err e) → Told_runs budget b xs p at ds t t s s (Err e)
  unfolding Told_runs Plans
  told_stop ds t s e k h = plan_stop budget b xs (job false h p at ds) h at ds t s e (k h)

  pub told_done : (ds : List Datum) (t s s1 : List Component) (v : Data) (r : Answer) → Plans p at ds (Ok (plan.Done v)) → Pushed (held v) s s1 r → Told_runs budget b xs p at ds t t s s1 r
  unfolding Told_runs Plans
  told_done ds t s s1 v r k x h = job_done budget b xs (job false h p at ds) h at ds t s s1 v r (k h) x

  module _ (ds : List Data) (k m : Data) (two : length ds ≡ 2) (t t1 s s1 : List Component) where
    module _ (q : Plans p at (held_all ds) (Ok plan.Reduce)) where
      pub told_no_fold : (e : Stop) → Fold_runs budget b xs (held (get_or ds 0 k)) (held (get_or ds 1 m)) t t1 s s1 (Err e) → Told_runs budget b xs p at (held_all ds) t t1 s s1 (Err e)
      unfolding Told_runs Plans
      told_no_fold e w h = fold_no_result budget b xs (job false h p at (held_all ds)) at ds k m two t t1 s s1 h (q h) e w

      pub told_fold : (v : Datum) (s2 : List Component) (r : Answer) → Fold_runs budget b xs (held (get_or ds 0 k)) (held (get_or ds 1 m)) t t1 s s1 (Ok v) → Pushed v s1 s2 r → Told_runs budget b xs p at (held_all ds) t t1 s s2 r
      unfolding Told_runs Plans
      told_fold v s2 r w x h = fold_result budget b xs (job false h p at (held_all ds)) at ds k m two t t1 s s1 h (q h) v s2 r w x

    module _ (q : Plans p at (held_all ds) (Ok plan.Scan)) where
      pub told_no_scan : (e : Stop) → Scan_runs budget b xs (held (get_or ds 0 k)) (held (get_or ds 1 m)) t t1 s s1 (Err e) → Told_runs budget b xs p at (held_all ds) t t1 s s1 (Err e)
      unfolding Told_runs Plans
      told_no_scan e w h = scan_no_result budget b xs (job false h p at (held_all ds)) at ds k m two t t1 s s1 h (q h) e w

      module _ (es : List Datum) (w : Scan_runs budget b xs (held (get_or ds 0 k)) (held (get_or ds 1 m)) t t1 s s1 (Ok es)) (g : Shape) (i : g ≡ row_shape_in (held (get_or ds 1 m))) where
        pub told_scan_misfits : (e : Stop) → Tells (array false at g es) (Err e) → Told_runs budget b xs p at (held_all ds) t t1 s s1 (Err e)
        unfolding Told_runs Plans
        told_scan_misfits e y h = scan_misfits budget b xs (job false h p at (held_all ds)) at ds k m two t t1 s s1 h (q h) es w g i e y

        pub told_scan : (v : Datum) (s2 : List Component) (a : Answer) → Tells (array false at g es) (Ok v) → Pushed v s1 s2 a → Told_runs budget b xs p at (held_all ds) t t1 s s2 a
        unfolding Told_runs Plans
        told_scan v s2 a y x h = scan_result budget b xs (job false h p at (held_all ds)) at ds k m two t t1 s s1 h (q h) es w g i v s2 a y x

  module _ (ds : List Data) (whole x y : Data) (rest : List Data) (q : Plans p at (held_all ds) (Ok plan.Scatter)) (apart : ds ≡ whole ∷ rest) (two : length rest ≡ 2) (t s : List Component) where
    pub told_scatter_stops : (e : Stop) → Scatters (scattered false at (held whole) (held (get_or rest 0 x)) (held (get_or rest 1 y))) (Err e) → Told_runs budget b xs p at (held_all ds) t t s s (Err e)
    unfolding Told_runs Plans
    told_scatter_stops e k h = scatter_stops budget b xs (job false h p at (held_all ds)) at ds whole x y rest h (q h) apart two t s e k

    pub told_scatter : (v : Datum) (s1 : List Component) (r : Answer) → Scatters (scattered false at (held whole) (held (get_or rest 0 x)) (held (get_or rest 1 y))) (Ok v) → Pushed v s s1 r → Told_runs budget b xs p at (held_all ds) t t s s1 r
    unfolding Told_runs Plans
    told_scatter v s1 r k put h = scatter_result budget b xs (job false h p at (held_all ds)) at ds whole x y rest h (q h) apart two t s v s1 r k put

  module _ (n : ℕ) (ds : List Data) (whole x y z : Data) (rest : List Data) (f : Form) (old : List Datum) (q : Plans p at (held_all ds) (Ok (plan.Combine n))) (apart : ds ≡ whole ∷ rest) (three : length rest ≡ 3) (g : shape_held f ≡ row_shape_in (held whole)) (k : old ≡ rows_in (held whole)) (t t1 s s1 : List Component) where
    pub told_no_combine : (e : Stop) → Combine_runs budget b xs old (held (get_or rest 1 y)) (held (get_or rest 2 z)) n t t1 s s1 (Err e) → Told_runs budget b xs p at (held_all ds) t t1 s s1 (Err e)
    unfolding Told_runs Plans
    told_no_combine e w h = combine_no_result budget b xs (job false h p at (held_all ds)) at n ds whole x y z rest f old h (q h) apart three g k t t1 s s1 e w

    module _ (es : List Datum) (w : Combine_runs budget b xs old (held (get_or rest 1 y)) (held (get_or rest 2 z)) n t t1 s s1 (Ok es)) where
      pub told_combine_misfits : (e : Stop) → Stands_in at (shape_held f) es (Err e) → Told_runs budget b xs p at (held_all ds) t t1 s s1 (Err e)
      unfolding Told_runs Plans
      told_combine_misfits e fits h = combine_misfits budget b xs (job false h p at (held_all ds)) at n ds whole x y z rest f old h (q h) apart three g k t t1 s s1 es w e fits

      pub told_combine : (v : Datum) (s2 : List Component) (a : Answer) → Stands_in at (shape_held f) es (Ok v) → Pushed v s1 s2 a → Told_runs budget b xs p at (held_all ds) t t1 s s2 a
      unfolding Told_runs Plans
      told_combine v s2 a fits put h = combine_result budget b xs (job false h p at (held_all ds)) at n ds whole x y z rest f old h (q h) apart three g k t t1 s s1 es w v s2 a fits put

  -- the function on each row
  module _ (ds : List Datum) (f : Finish) (n : ℕ) (q : Plans p at ds (Ok (plan.Each f n))) (t t1 s s1 : List Component) where
    pub told_no_rows : (e : Stop) → Each_runs budget b xs f ds n t t1 s s1 (Err e) → Told_runs budget b xs p at ds t t1 s s1 (Err e)
    unfolding Told_runs Plans
    told_no_rows e w h = each_rows_stop budget b xs (job false h p at ds) h at ds f n (q h) t t1 s s1 e w

    module _ (row : Row) (es : List Datum) (w : Each_runs budget b xs f ds n t t1 s s1 (Ok es)) where
      pub each_no_result : (e : Stop) → Finishes t1 row f at ds es (Err e) → Primitive_runs budget b xs row p at ds t t1 s s1 (Err e)
      unfolding Primitive_runs Plans Finishes
      each_no_result e g env k mid last st u nb l = by_row (row_shape env row) (row_reports env row) (g env k)
        where
          by_row : (o : Out Shape) → (Reported o → ⊥) → (Stands env k t1 → Counted_is (and_then o (λ h. made_of h f at ds es)) (Err e)) → Runs (Then (the (and_then o (λ h. job false h p at ds))) (job_given true (applies budget b xs env))) k t t1 s s1 (Err e)
          by_row (Val h) x i = each_made_stop budget b xs (job false h p at ds) h at ds f n (q h) t t1 s s1 es w env k mid last st u nb l e i
          by_row (Fail r) x i = absurd (x tt)
          by_row Wrong x i = gone 0 (sticks (the_is Wrong Wrong refl))

      pub each_result : (d : Datum) (s2 : List Component) (r : Answer) → Finishes t1 row f at ds es (Ok d) → Pushed d s1 s2 r → Primitive_runs budget b xs row p at ds t t1 s s2 r
      unfolding Primitive_runs Plans Finishes
      each_result d s2 r g put env k mid last st u nb l = by_row (row_shape env row) (row_reports env row) (g env k)
        where
          by_row : (o : Out Shape) → (Reported o → ⊥) → (Stands env k t1 → Counted_is (and_then o (λ h. made_of h f at ds es)) (Ok d)) → Runs (Then (the (and_then o (λ h. job false h p at ds))) (job_given true (applies budget b xs env))) k t t1 s s2 r
          by_row (Val h) x i = each_made budget b xs (job false h p at ds) h at ds f n (q h) t t1 s s1 es w env k mid last st u nb l d s2 r i put
          by_row (Fail r) x i = absurd (x tt)
          by_row Wrong x i = gone 0 (sticks (the_is Wrong Wrong refl))

pub ruleset writing_jobs = (told_memory, told_stop, told_scatter_stops, told_scatter, told_no_combine, told_combine_misfits, told_combine)

pub ruleset jobs = (any_row, told_memory, told_stop, told_done, told_no_rows, each_no_result, each_result, told_no_fold, told_fold, told_no_scan, told_scan_misfits, told_scan)
