-- A function on rows, one after the other.
use Rattle.std.proofs.Common.{◌≡◌, ℕ, suc, ◌+◌, ◌<◌, ◌≤◌, List, [], ◌∷◌, ◌++◌, length, drop, slice_get, Some, Ok, Err, refl, sym, ◌∙◌, subst, arith, add-one, append_assoc}
use Rattle.std.proofs.lemmas.List.{append-nil}
use Rattle.fut_value.specs.Data.{Datum}
use Rattle.fut_meaning.specs.Jobs.{Applied}
use Rattle.fut_meaning.specs.Outcomes.{Out, Val, Fail, Wrong, Rel, exact, gives, Then, goes_on, stops, sticks, each_of}
use Rattle.fut_blocks.specs.Meaning.{Component, Names}
use Rattle.fut_blocks.specs.Numbered.{Upward, Body_numbered}
use Rattle.fut_blocks.specs.Plain.{Body}
use Rattle.array_data.specs.declared.data.Data.{Data}
use Rattle.array_data.specs.declared.stop.Stop.{Stop}
use Rattle.array_data.specs.declared.stop.Stop.TheVariants.{Memory}
use Rattle.array_data.specs.Held.{held_all}
use Rattle.fut_eval.specs.Answers.{Stands, Kept}
use Rattle.array_primitives.specs.declared.jobs.Finish.{Finish}
use Rattle.array_data.specs.Answers.{Added, added, not_added}
use Rattle.array_primitives.specs.Plans.{Source_is, Put_row, put_row, no_row_put}
use Rattle.array_data.proofs.RowsRead.{drop_row}
use Rattle.array_data.proofs.Forms.{drop_past}
use Rattle.fut_eval.specs.Primitives.{Gives, gave, gave_failure, gave_memory, gave_wrong, applies, Applied_runs, Each_runs}
use Rattle.fut_eval.proofs.Holding.{held_length}
use Rattle.fut_eval.proofs.Tells.{Leads, leads_trans, kept_same, kept_trans, stands_kept}

-- some are done: what the rest comes to, the whole may
pub data Going {A : Type 0} (whole rest : Rel A) (n : ℕ) (t0 t s0 s : List Component) : Type 0 where
  going : s ≡ s0 → Kept n t0 t → Leads whole rest → Going whole rest n t0 t s0 s
  gone_on : (f : ℕ) → whole Wrong f → Going whole rest n t0 t s0 s

-- what is left, where these results are there
abbrev pub rest_of : Applied → List (List Datum) → List Datum → Rel (List Datum)
rest_of f rows es = Then (each_of f rows) (λ ys. gives 0 (es ++ ys))

module _ (f : Applied) (x : List Datum) (rows : List (List Datum)) (es : List Datum) where
  rest_fails : (r : _) (n : ℕ) → f x (Fail r) n → rest_of f (x ∷ rows) es (Fail r) n
  rest_fails r n h = stops (stops h)

  rest_wrong : (n : ℕ) → f x Wrong n → rest_of f (x ∷ rows) es Wrong n
  rest_wrong n h = sticks (sticks h)

  rest_more : (d : Datum) (n : ℕ) → f x (Val d) n → Leads (rest_of f (x ∷ rows) es) (rest_of f rows (es ++ d ∷ []))
  rest_more d n h o g y = by_left o g y
    where
      by_end : (a : List Datum) (o : Out (List Datum)) (c e : ℕ) → each_of f rows (Val a) c → gives 0 ((es ++ d ∷ []) ++ a) o e → (k : ℕ) × rest_of f (x ∷ rows) es o k
      by_end a _ c _ q exact = (n + (c + 0) + 0, subst (λ z. rest_of f (x ∷ rows) es (Val z) (n + (c + 0) + 0)) (sym (append_assoc es (d ∷ []) a)) (goes_on (goes_on h (goes_on q exact)) exact))

      by_left : (o : Out (List Datum)) (g : ℕ) → rest_of f rows (es ++ d ∷ []) o g → (k : ℕ) × rest_of f (x ∷ rows) es o k
      by_left o _ (goes_on {a} {f = c} {g = e} q y) = by_end a o c e q y
      by_left _ _ (stops {f = c} q) = (n + c, stops (goes_on h (stops q)))
      by_left _ _ (sticks {f = c} q) = (n + c, sticks (goes_on h (sticks q)))

all_left : (f : Applied) (rows : List (List Datum)) → Leads (each_of f rows) (rest_of f rows [])
all_left F rows o g y = by_left o g y
  where
    by_end : (a : List Datum) (o : Out (List Datum)) (c e : ℕ) → each_of F rows (Val a) c → gives 0 ([] ++ a) o e → (k : ℕ) × each_of F rows o k
    by_end a _ c _ q exact = (c, q)

    by_left : (o : Out (List Datum)) (g : ℕ) → rest_of F rows [] o g → (k : ℕ) × each_of F rows o k
    by_left o _ (goes_on {a} {f = c} {g = e} q y) = by_end a o c e q y
    by_left _ _ (stops {f = c} q) = (c, q)
    by_left _ _ (sticks {f = c} q) = (c, q)

none_left : (f : Applied) (es : List Datum) → rest_of f [] es (Val es) 0
none_left f es = subst (λ z. rest_of f [] es (Val z) 0) (append-nil es) (goes_on exact exact)

unfoldable pub Each_goes : ℕ → Body → List ℕ → Finish → List Datum → ℕ → ℕ → List Datum → (t0 t s0 s : List Component) → Type 0
Each_goes budget b xs f ds n i es t0 t s0 s =
    (rows : List (List Datum)) → n ≡ length rows → Source_is f ds rows
    → (env : Names Component) (next mid last : ℕ) → Stands env next t0 → Upward next xs mid → Body_numbered mid b last → last ≤ length t0
    → Going (each_of (applies budget b xs env) rows) (rest_of (applies budget b xs env) (drop i rows) es) next t0 t s0 s

module _ (budget : ℕ) (b : Body) (xs : List ℕ) (f : Finish) (ds : List Datum) (n : ℕ) where
  pub each_start : (es : List Datum) (t s : List Component) → es ≡ [] → Each_goes budget b xs f ds n 0 es t t s s
  unfolding Each_goes
  each_start es t s e rows q p env next mid last st u nb l = going refl (kept_same next t) (subst (λ z. Leads (each_of (applies budget b xs env) rows) (rest_of (applies budget b xs env) rows z)) (sym e) (all_left (applies budget b xs env) rows))

  pub each_memory : (t t' s s' : List Component) → Each_runs budget b xs f ds n t t' s s' (Err Memory)
  unfolding Each_runs
  each_memory t t' s s' rows q p env next mid last st u nb l = gave_memory

  module _ (i : ℕ) (es : List Datum) (t0 t s0 : List Component) (s : List Data) (g : Each_goes budget b xs f ds n i es t0 t s0 (held_all s)) where
    pub each_no_row : (t1 s1 : List Component) (e : Stop) → Put_row f ds i (held_all s) s1 (Err e) → Each_runs budget b xs f ds n t0 t1 s0 s1 (Err e)
    each_no_row t1 s1 _ no_row_put = each_memory t0 t1 s0 s1

    module _ (mark : ℕ) (s1 t1 s2 : List Component) (m : mark ≡ length s) (i_in : i < n) (p : Put_row f ds i (held_all s) s1 (Ok tt)) where
      pub each_stop : (e : Stop) → Applied_runs budget b xs mark t t1 s1 s2 (Err e) → Each_runs budget b xs f ds n t0 t1 s0 s2 (Err e)
      unfolding Each_goes Applied_runs Each_runs
      each_stop e a rows q w env next mid last st u nb l = by_put p
        where
          F : Applied
          F = applies budget b xs env

          by_row : {e : Stop} (args : List Datum) → Leads (each_of F rows) (rest_of F (args ∷ drop (suc i) rows) es) → Gives (F args) next t t1 (held_all s) s2 (Err e) → Gives (each_of F rows) next t0 t1 s0 s2 (Err e)
          by_row args k (gave_failure {r} c y) = let z = k (Fail r) c (rest_fails F args (drop (suc i) rows) es r c y) in gave_failure z.0 z.1
          by_row args k gave_memory = gave_memory
          by_row args k (gave_wrong c y) = let z = k Wrong c (rest_wrong F args (drop (suc i) rows) es c y) in gave_wrong z.0 z.1

          by_going : (args : List Datum) → slice_get rows i ≡ Some args → s1 ≡ held_all s ++ args → Going (each_of F rows) (rest_of F (drop i rows) es) next t0 t s0 (held_all s) → Gives (each_of F rows) next t0 t1 s0 s2 (Err e)
          by_going args x y (going v k h) =
              by_row args (subst (λ z. Leads (each_of F rows) (rest_of F z es)) (drop_row rows i args x) h)
              (a env next mid last (held_all s) args (stands_kept env next t0 t st k) u nb (let z = k.long in omega arith) y (held_length s ∙ sym m))
          by_going args x y (gone_on c z) = gave_wrong c z

          by_put : Put_row f ds i (held_all s) s1 (Ok tt) → Gives (each_of F rows) next t0 t1 s0 s2 (Err e)
          by_put (put_row args x y) = by_going args (w i args (omega arith) x) y (g rows q w env next mid last st u nb l)

      pub each_more : (v : Datum) (es' : List Datum) → Applied_runs budget b xs mark t t1 s1 s2 (Ok v) → Added v es es' (Ok tt) → Each_goes budget b xs f ds n (i + 1) es' t0 t1 s0 s2
      unfolding Each_goes Applied_runs
      each_more v es' a (added j) rows q w env next mid last st u nb l = subst (λ z. Going (each_of F rows) (rest_of F (drop z rows) es') next t0 t1 s0 s2) (sym (add-one i)) (by_put p)
        where
          F : Applied
          F = applies budget b xs env

          by_row : (args : List Datum) → held_all s ≡ s0 → Kept next t0 t → Leads (each_of F rows) (rest_of F (args ∷ drop (suc i) rows) es) → Gives (F args) next t t1 (held_all s) s2 (Ok v) → Going (each_of F rows) (rest_of F (drop (suc i) rows) es') next t0 t1 s0 s2
          by_row args x k h (gave c y kr qr) =
              going (qr ∙ x) (kept_trans next t0 t t1 k kr) (subst (λ z. Leads (each_of F rows) (rest_of F (drop (suc i) rows) z)) (sym j)
              (leads_trans (each_of F rows) (rest_of F (args ∷ drop (suc i) rows) es) (rest_of F (drop (suc i) rows) (es ++ v ∷ [])) h (rest_more F args (drop (suc i) rows) es v c y)))
          by_row args x k h (gave_wrong c y) = let z = h Wrong c (rest_wrong F args (drop (suc i) rows) es c y) in gone_on z.0 z.1

          by_going : (args : List Datum) → slice_get rows i ≡ Some args → s1 ≡ held_all s ++ args → Going (each_of F rows) (rest_of F (drop i rows) es) next t0 t s0 (held_all s) → Going (each_of F rows) (rest_of F (drop (suc i) rows) es') next t0 t1 s0 s2
          by_going args x y (going e k h) =
              by_row args e k (subst (λ z. Leads (each_of F rows) (rest_of F z es)) (drop_row rows i args x) h)
              (a env next mid last (held_all s) args (stands_kept env next t0 t st k) u nb (let z = k.long in omega arith) y (held_length s ∙ sym m))
          by_going args x y (gone_on c z) = gone_on c z

          by_put : Put_row f ds i (held_all s) s1 (Ok tt) → Going (each_of F rows) (rest_of F (drop (suc i) rows) es') next t0 t1 s0 s2
          by_put (put_row args x y) = by_going args (w i args (omega arith) x) y (g rows q w env next mid last st u nb l)

    pub each_full : (v : Datum) (es' : List Datum) (t1 s1 : List Component) (e : Stop) → Added v es es' (Err e) → Each_runs budget b xs f ds n t0 t1 s0 s1 (Err e)
    each_full v es' t1 s1 _ not_added = each_memory t0 t1 s0 s1

  pub each_end : (i : ℕ) (es : List Datum) (t0 t s0 s : List Component) → n ≤ i → Each_goes budget b xs f ds n i es t0 t s0 s → Each_runs budget b xs f ds n t0 t s0 s (Ok es)
  unfolding Each_goes Each_runs
  each_end i es t0 t s0 s m g rows q w env next mid last st u nb l = by_going (g rows q w env next mid last st u nb l)
    where
      F : Applied
      F = applies budget b xs env

      by_going : Going (each_of F rows) (rest_of F (drop i rows) es) next t0 t s0 s → Gives (each_of F rows) next t0 t s0 s (Ok es)
      by_going (going e k h) =
          let z = subst (λ z. Leads (each_of F rows) (rest_of F z es)) (drop_past rows i (omega arith)) h (Val es) 0 (none_left F es) in
          gave z.0 z.1 k e
      by_going (gone_on c z) = gave_wrong c z

pub ruleset each_row = (each_start, each_no_row, each_stop, each_more, each_full, each_end)
