-- Functions that are applied to data, and primitives that wait for their arguments.
use Rattle.std.proofs.Common.{◌≡◌, Bool, true, false, ◌++◌, ℕ, zero, suc, ◌+◌, refl, sym, ap, ◌∙◌, subst, arith, List, [], ◌∷◌, length, nat_lt, lt-ltb, le-ltb, eq-eqb}
use Rattle.std.proofs.lemmas.List.{length-append, append_assoc}
use Rattle.fut_scalar.specs.declared.place.BindId.{BindId}
use Rattle.fut_scalar.specs.declared.place.Place.{Place}
use Rattle.fut_flat.specs.declared.prim.Primitive.{Primitive}
use Rattle.fut_flat.specs.declared.prim.Ref.{Ref}
use Rattle.fut_types.specs.declared.Kind.TheVariants as kind
use Rattle.fut_types.specs.Types.{Ty, Tys, none, more, Kinds, HasKind}
use Rattle.fut_typing.specs.Names.{Names, AreNames, count}
use Rattle.fut_typing.specs.Patterns.{arrows}
use Rattle.fut_meaning.specs.Found.{Told}
use Rattle.fut_meaning.specs.Outcomes.{Out, Val, Wrong, and_then, Rel, the, Then, choose}
use Rattle.fut_value.specs.Data.{Datum, Shape}
use Rattle.fut_meaning.specs.Datums.{as_value, datum_of, data_arguments, takes, function_argument}
use Rattle.fut_meaning.specs.Jobs.{Job, job}
use Rattle.fut_meaning.specs.Values.{Primitive_value, no_value, Meanings, Call, listed, values}
use Rattle.fut_meaning.specs.Operations.{parameters_of, arity, is_of_scalars, primitive}
use Rattle.fut_meaning.specs.Meaning.{Lang, called, called_on, no_function, given, runs, row_told, Of_function, Ever}
use Rattle.fut_meaning.specs.Claims.{HasOut, Correct}
use Rattle.fut_meaning.specs.Flats.{FlatValue, FlatTops, FlatMode}
use Rattle.fut_meaning.proofs.Correct.{correct_exact, correct_then}
use Rattle.type_soundness.specs.Fits.{FlatValues, Grows, lang, Fits}
use Rattle.type_soundness.proofs.Growing.{fits_grow, grows_self, grows_more}
use Rattle.type_soundness.proofs.Binding.{Each_fits}
use Rattle.type_soundness.proofs.Using.{opened, fits_function, function_fits}
use Rattle.type_soundness.proofs.DataFits.{fits_data}
use Rattle.type_soundness.proofs.Application.{Application, Takes_data, Each_data, Data_args, data_list, Function_fits, Job_fits, Jobs_fit}

-- what is known is taken
pub correct_known : {total : Bool} {A B : Type 0} (Q : B → Type 0) (o : Out A) (a : A) (k : A → Rel B) → o ≡ Val a → Correct total Q (k a) → Correct total Q (Then (the o) k)
correct_known {total} Q o a k e h = correct_then (λ z. z ≡ a) Q (the o) k (correct_exact (λ z. z ≡ a) 0 o (subst (λ x. HasOut (λ z. z ≡ a) x) (sym e) refl)) (λ z q. subst (λ y. Correct total Q (k y)) (sym q) h)

listed_values : (vs : List FlatValue) → listed (values vs) ≡ vs
listed_values [] = refl
listed_values (v ∷ vs) = ap (λ z. v ∷ z) (listed_values vs)

-- the mode asks nothing of operators and of writes where an outcome is to be shown
-- and reports what does not fit
pub record Is_free (M : FlatMode) (budget : ℕ) (total : Bool) : Type 0 where
  pub reports : M.misfit ≡ false
  pub operators : total ≡ true → (L : Lang Ref BindId (Unit {0})) (k : ℕ) (f : FlatValue) (any : Bool) (ne : Datum) (xs : List Datum) → M.operator_fits L budget k f any ne xs
  pub writes : total ≡ true → (ws : List (ℕ × Datum)) → M.scatter_fits ws

module _ (N : Names) (are : AreNames N) (T : Told) (M : FlatMode) (budget : ℕ) (total : Bool) (K : Kinds) where
  abbrev Of : FlatTops → Ty → FlatValue → Type 0
  Of tops t v = Fits N T M budget total t tops v

  abbrev D : FlatTops → Ty → Datum → Type 0
  D tops t d = Fits N T M budget total t tops (as_value d)

  abbrev R : FlatTops → Meanings Ref BindId (Unit {0})
  R tops = Ever (lang T tops) M budget

  abbrev Each : FlatTops → Tys → List FlatValue → Type 0
  Each tops ts vs = Each_fits N T M budget total ts tops vs

  abbrev Are_data : FlatTops → Tys → List Datum → Type 0
  Are_data tops ts ds = Each_data N are T M budget total K tops ts ds

  -- ---- functions on data

  called_fits : (tops : FlatTops) (ts : Tys) (u : Ty) (f : FlatValue) (ds : List Datum) → HasKind K kind.Data u → Of tops (arrows ts u) f → Are_data tops ts ds → Correct total (D tops u) (called (R tops) f ds)
  called_fits tops none u f [] k h e = let i = fits_data N are T M budget total tops K u f k h in correct_exact (D tops u) 0 (datum_of f) (subst (λ x. HasOut (D tops u) x) (sym i.1) (subst (λ x. Of tops u x) i.2 h))
  called_fits tops none u f (d ∷ ds) k h e = absurd e
  called_fits tops (more t ts) u f [] k h e = absurd e
  called_fits tops (more t ts) u f (d ∷ ds) k h e =
      correct_then (Of tops (arrows ts u)) (D tops u) _ _ (function_fits N T M budget total K tops t (arrows ts u) f h tops (grows_self tops) (as_value d) e.0) (λ g q. called_fits tops ts u g ds k q e.1)

  as_many : (tops : FlatTops) (ts : Tys) (ds : List Datum) → Are_data tops ts ds → length ds ≡ count ts
  as_many tops none [] e = refl
  as_many tops none (d ∷ ds) e = absurd e
  as_many tops (more t ts) [] e = absurd e
  as_many tops (more t ts) (d ∷ ds) e = let r = as_many tops ts ds e.1 in omega (arith, r)

  applied_fits : (tops : FlatTops) (ts : Tys) (u : Ty) (f : FlatValue) (ds : List Datum) → HasKind K kind.Data u → Of tops (arrows ts u) f → Are_data tops ts ds → Correct total (D tops u) (called_on (count ts) (R tops) f ds)
  applied_fits tops ts u f ds k h e = subst (λ b. Correct total (D tops u) (choose b (called (R tops) f ds) (the Wrong))) (sym (eq-eqb (length ds) (count ts) (as_many tops ts ds e))) (called_fits tops ts u f ds k h e)

  -- ---- primitives that wait

  -- with all its arguments it gives a value of this type
  abbrev pub Runs_on : FlatTops → Primitive → Place → List FlatValue → Tys → Ty → Type 0
  Runs_on tops p at done ts u = (tops' : FlatTops) → Grows tops tops' → (vs : List FlatValue) → Each tops' ts vs → Correct total (Of tops' u) (runs (lang T tops') M budget (R tops') p at (done ++ vs))

  behind : (vs : FlatValues) (v : FlatValue) → length (listed vs ++ v ∷ []) ≡ length (listed vs) + 1
  behind vs v = length-append (listed vs) (v ∷ [])

  waits : (p : Primitive) (at : Place) (t : Ty) (ts : Tys) (u : Ty) (vs : FlatValues) (tops : FlatTops) → is_of_scalars p ≡ false → length (listed vs) + (1 + count ts) ≡ arity p → Runs_on tops p at (listed vs) (more t ts) u → Of tops (arrows (more t ts) u) (Primitive_value p at vs)
  waits p at t none u vs tops s a h = fits_function N T M budget total K tops t u (Primitive_value p at vs) (λ tops' g v k.
      let b = behind vs v in
      let all : nat_lt (length (listed vs ++ v ∷ [])) (arity p) ≡ false = le-ltb (length (listed vs ++ v ∷ [])) (arity p) (omega (arith, a, b)) in
      opened N T M budget total K tops' (Of tops' u) (Call (Primitive_value p at vs) v)
      (subst (λ z. Correct total (Of tops' u) (given (lang T tops') M budget (R tops') p at (listed vs ++ v ∷ []) z)) (sym all)
      (subst (λ z. Correct total (Of tops' u) (choose z (the (primitive p at (listed vs ++ v ∷ []))) (runs (lang T tops') M budget (R tops') p at (listed vs ++ v ∷ [])))) (sym s) (h tops' g (v ∷ []) (k, tt)))))
  waits p at t (more x ts) u vs tops s a h = fits_function N T M budget total K tops t (arrows (more x ts) u) (Primitive_value p at vs) (λ tops' g v k.
      let b = behind vs v in
      let more-wait : nat_lt (length (listed vs ++ v ∷ [])) (arity p) ≡ true = lt-ltb (length (listed vs ++ v ∷ [])) (arity p) (omega (arith, a, b)) in
      let same : listed (values (listed vs ++ v ∷ [])) ≡ listed vs ++ v ∷ [] = listed_values (listed vs ++ v ∷ []) in
      let long : length (listed (values (listed vs ++ v ∷ []))) ≡ length (listed vs ++ v ∷ []) = ap length same in
      opened N T M budget total K tops' (Of tops' (arrows (more x ts) u)) (Call (Primitive_value p at vs) v)
      (subst (λ z. Correct total (Of tops' (arrows (more x ts) u)) (given (lang T tops') M budget (R tops') p at (listed vs ++ v ∷ []) z)) (sym more-wait)
      (correct_exact (Of tops' (arrows (more x ts) u)) 0 (Val (Primitive_value p at (values (listed vs ++ v ∷ []))))
      (waits p at x ts u (values (listed vs ++ v ∷ [])) tops' s (omega (arith, a, b, long)) (λ tops'' g' ws e.
      subst (λ z. Correct total (Of tops'' u) (runs (lang T tops'') M budget (R tops'') p at z)) (sym (ap (λ z. z ++ ws) same ∙ append_assoc (listed vs) (v ∷ []) ws))
      (h tops'' (grows_more tops tops' tops'' g g') (v ∷ ws) (fits_grow N T M budget total t tops' tops'' g' v k, e)))))))

  -- ---- their data and their function

  abbrev Args : FlatTops → List ℕ → Tys → Type 0
  Args tops ks ts = Data_args N are T M budget total K tops ks ts

  abbrev data_in : (tops : FlatTops) (ks : List ℕ) (ts : Tys) → Args tops ks ts → List Datum
  data_in tops ks ts h = data_list N are T M budget total K tops ks ts h

  data_are : (tops : FlatTops) (ks : List ℕ) (ts : Tys) (vs : List FlatValue) → Takes_data K ks ts → Each tops ts vs → (h : Args tops ks ts) × (data_arguments ks vs ≡ Val (data_in tops ks ts h))
  data_are tops [] none [] d e = (tt, refl)
  data_are tops [] none (v ∷ vs) d e = absurd e
  data_are tops [] (more t ts) vs d e = absurd d
  data_are tops (k ∷ ks) none vs d e = absurd d
  data_are tops (k ∷ ks) (more t ts) [] d e = absurd e
  data_are tops (zero ∷ ks) (more t ts) (v ∷ vs) d e =
      let i = fits_data N are T M budget total tops K t v d.0 e.0 in
      let r = data_are tops ks ts vs d.1 e.1 in
      ((i.0, subst (λ x. Of tops t x) i.2 e.0, r.0), ap (λ z. and_then z (λ d. and_then (data_arguments ks vs) (λ ds. Val (d ∷ ds)))) i.1 ∙ ap (λ z. and_then z (λ ds. Val (i.0 ∷ ds))) r.1)
  data_are tops (suc k ∷ ks) (more t ts) (v ∷ vs) d e = data_are tops ks ts vs d e.1

  module _ (free : Is_free M budget total) where
    -- a value that is applied to so many arguments
    abbrev value_applied : FlatTops → ℕ → FlatValue → Application total
    value_applied tops k f = record {
      applied = called_on k (R tops) f;
      tight = M.tight;
      operators = M.operator_fits (lang T tops) budget k f;
      writes = M.scatter_fits;
      operators_free = λ t any ne xs. free.operators t (lang T tops) k f any ne xs;
      writes_free = free.writes;
    }

    function_is : (tops : FlatTops) (ks : List ℕ) (ts : Tys) (vs : List FlatValue) (other : FlatValue) → Takes_data K ks ts → Each tops ts vs → Function_fits N are T M budget total K tops ks ts (value_applied tops (takes ks) (function_argument ks vs other))
    function_is tops [] ts vs other d e = tt
    function_is tops (k ∷ ks) none vs other d e = tt
    function_is tops (k ∷ ks) (more t ts) [] other d e = absurd e
    function_is tops (zero ∷ ks) (more t ts) (v ∷ vs) other d e = function_is tops ks ts vs other d.1 e.1
    function_is tops (suc k ∷ ks) (more t ts) (v ∷ vs) other d e = λ fs r is many small ds h. subst (λ n. Correct total (D tops r) (called_on n (R tops) v ds)) many (applied_fits tops fs r v ds small (subst (λ y. Of tops y v) is e.0) h)

    -- ---- what they do

    abbrev Fits_job : FlatTops → ℕ → FlatValue → Ty → Job → Type 0
    Fits_job tops k f u j = Job_fits N are T M budget total K tops (value_applied tops k f) (D tops u) j

    abbrev Jobs : FlatTops → Primitive → Place → Tys → Ty → Type 1
    Jobs tops p at ts u = Jobs_fit N are T M budget total K tops p at ts u

    runs_fit : (tops : FlatTops) (p : Primitive) (at : Place) (ts : Tys) (u : Ty) (vs : List FlatValue) → Takes_data K (parameters_of p) ts → Jobs tops p at ts u → Each tops ts vs → Correct total (Of tops u) (runs (lang T tops) M budget (R tops) p at vs)
    runs_fit tops p at ts u vs d jobs e =
        let a = data_are tops (parameters_of p) ts vs d e in
        let ds : List Datum = data_in tops (parameters_of p) ts a.0 in
        let f : FlatValue = function_argument (parameters_of p) vs no_function in
        let told : Shape = row_told (lang T tops) (Of_function p f ds) in
        let k : ℕ = takes (parameters_of p) in
        correct_known (Of tops u) (data_arguments (parameters_of p) vs) ds _ a.1
        (correct_then (Fits_job tops k f u) (Of tops u) _ _
        (correct_exact (Fits_job tops k f u) 0 (job M.misfit told p at ds) (subst (λ b. HasOut (Fits_job tops k f u) (job b told p at ds)) (sym free.reports) (jobs told (value_applied tops k f) (function_is tops (parameters_of p) ts vs no_function d e) a.0)))
        (λ j q. correct_then (D tops u) (Of tops u) _ _ q (λ d p. correct_exact (Of tops u) 0 (Val (as_value d)) p)))

    -- a primitive on arrays is a function of its type
    pub primitive_used : (tops : FlatTops) (p : Primitive) (at : Place) (t : Ty) (ts : Tys) (u : Ty) → is_of_scalars p ≡ false → 1 + count ts ≡ arity p → Takes_data K (parameters_of p) (more t ts) → ((tops' : FlatTops) → Jobs tops' p at (more t ts) u) → Of tops (arrows (more t ts) u) (Primitive_value p at no_value)
    primitive_used tops p at t ts u s a d jobs = waits p at t ts u no_value tops s (omega (arith, a)) (λ tops' g vs e. runs_fit tops' p at (more t ts) u vs d (jobs tops') e)
