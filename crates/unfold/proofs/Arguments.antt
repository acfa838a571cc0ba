-- The arguments of a primitive, and the step of one on arrays over what its function simulates.
use Rattle.std.proofs.Common.{◌≡◌, ℕ, zero, suc, ◌≤◌, List, [], ◌∷◌, Bool, true, false, Option, Some, None, refl, sym, ap, subst, arith, length}
use Rattle.fut_scalar.specs.declared.place.Place.{Place}
use Rattle.fut_flat.specs.declared.prim.Primitive.{Primitive}
use Rattle.fut_value.specs.Data.{Datum}
use Rattle.fut_value.specs.Data.{Shape as Data_shape}
use Rattle.fut_meaning.specs.Found.{Sizing}
use Rattle.fut_meaning.specs.Datums.{as_value, all_values, datum_of, all_data, data_arguments, function_argument}
use Rattle.fut_meaning.specs.Flats.{FlatValue}
use Rattle.fut_meaning.specs.Jobs.{Applied, job_means, job}
use Rattle.fut_meaning.specs.Knowns.{with_some}
use Rattle.fut_meaning.specs.Outcomes.{Out, Val, Wrong, and_then, Rel, exact, gives, the, Then, goes_on, stops, sticks}
use Rattle.fut_meaning.specs.Sames.{All_same, all_none, all_more, Same_out, same_value, same_wrong, left, right, Sim, back, forth}
use Rattle.fut_meaning.proofs.Sims.{the_sim, then_sim, job_sim, out_same}
use Rattle.fut_blocks.specs.declared.block.Atom.{Atom}
use Rattle.fut_blocks.specs.Meaning.{Component, Names, bound, values_of, job_given, function_of, act_means, body_means}
use Rattle.fut_blocks.specs.Plain.{Body}
use Rattle.fut_blocks.specs.Plain as act
use Rattle.fut_blocks.specs.Rows.{Row}
use Rattle.fut_blocks.specs.Sizes.{row_shape}
use Rattle.unfold.specs.Knowns.{Known}
use Rattle.unfold.specs.Shapes.{Scalar_shape, laid_scalar, split_scalar, Is_value}
use Rattle.unfold.specs.Unfolding.{step, names, named, data_known, function_known}
use Rattle.unfold.proofs.Alike.{known_left}
use Rattle.unfold.proofs.Components.{values_are}
use Rattle.unfold.proofs.Stands.{Has, Stands, s_scalar, some_inj}
use Rattle.unfold.proofs.Runs.{Gives, Standing, run, step_sim}

-- the arguments that are data
pub record Data_stand (sizes : Option Sizing) (d : Names Component) (n : ℕ) (us : List Known) (o : Out (List Datum)) : Type 0 where
  pub values : List FlatValue
  pub is : o ≡ all_data values
  pub stand : All_same (Stands sizes d n) us values

some_more : {s : Known} {o : Option (List Known)} {us : List Known} (G : Type 0) → with_some o (λ us. Some (s ∷ us)) ≡ Some us → ((ts : List Known) → o ≡ Some ts → s ∷ ts ≡ us → G) → G
some_more {o = None} G q h = absurd (let z : None ≡ Some _ = q in cc)
some_more {o = Some ts} G q h = h ts refl (some_inj q)

module _ {d : Names Component} {n : ℕ} where
  pub data_stand : {sizes : Option Sizing} (ks : List ℕ) {ss : List Known} {vs : List FlatValue} {us : List Known} → All_same (Stands sizes d n) ss vs → data_known ks ss ≡ Some us → Data_stand sizes d n us (data_arguments ks vs)
  data_stand {sizes = sizes} [] all_none q = record { values = []; is = refl; stand = subst (λ z. All_same (Stands sizes d n) z []) (some_inj q) all_none }
  data_stand [] {us = us} (all_more h hs) q = absurd (let z : None ≡ Some us = q in cc)
  data_stand (k ∷ ks) {us = us} all_none q = absurd (let z : None ≡ Some us = q in cc)
  data_stand {sizes = sizes} (zero ∷ ks) {us = us} (all_more {x = s} {x' = v} {xs = ss} {xs' = vs} h hs) q =
      some_more (Data_stand sizes d n us (data_arguments (zero ∷ ks) (v ∷ vs))) q
      (λ ts e f. let r = data_stand ks hs e in
      record {
        values = v ∷ r.values;
        is = ap (λ z. and_then (datum_of v) (λ d. and_then z (λ ds. Val (d ∷ ds)))) r.is;
        stand = subst (λ z. All_same (Stands sizes d n) z (v ∷ r.values)) f (all_more h r.stand);
      })
  data_stand (suc k ∷ ks) (all_more h hs) q = data_stand ks hs q

  pub function_stands : {sizes : Option Sizing} (ks : List ℕ) {ss : List Known} {vs : List FlatValue} {s : Known} {v : FlatValue} → All_same (Stands sizes d n) ss vs → Stands sizes d n s v → Stands sizes d n (function_known ks ss s) (function_argument ks vs v)
  function_stands [] hs k = k
  function_stands (i ∷ is) all_none k = k
  function_stands (zero ∷ is) (all_more h hs) k = function_stands is hs k
  function_stands (suc i ∷ is) (all_more h hs) k = h

  -- new names stand for data
  pub all_new : {sizes : Option Sizing} (xs : List ℕ) (ds : List Datum) → All_same (Has d n) (names xs) ds → All_same (Stands sizes d n) (Rattle.std.proofs.Common.map named xs) (all_values ds)
  all_new [] [] all_none = all_none
  all_new [] (c ∷ cs) hs = elim hs [ ]
  all_new (x ∷ xs) [] hs = elim hs [ ]
  all_new (x ∷ xs) (c ∷ cs) (all_more h hs) = all_more (s_scalar refl h) (all_new xs cs hs)

-- names that are not as many as data are not bound
pub none_bound : (xs : List ℕ) (ds : List Component) (e : Names Component) → (length xs ≡ length ds → ⊥) → bound xs ds e ≡ None
none_bound [] [] e h = absurd (h refl)
none_bound [] (d ∷ ds) e h = refl
none_bound (x ∷ xs) [] e h = refl
none_bound (x ∷ xs) (d ∷ ds) e h = none_bound xs ds ((x, d) ∷ e) (λ z. h (ap suc z))

stuck_back : {A B C : Type 0} (k : A → Rel B) (l : B → Rel C) (o : Out C) (f : ℕ) → Then (Then (the Wrong) k) l o f → the Wrong o f
stuck_back k l _ _ (goes_on (goes_on x y) z) = elim x [ ]
stuck_back k l _ _ (stops (goes_on x y)) = elim x [ ]
stuck_back k l _ _ (stops (stops x)) = elim x [ ]
stuck_back k l _ _ (sticks (goes_on x y)) = elim x [ ]
stuck_back k l _ _ (sticks (sticks exact)) = exact

pub stuck_sim : {A B C : Type 0} {k : A → Rel B} {l : B → Rel C} (dir : Bool) → Sim ◌≡◌ (Then (Then (the Wrong) k) l) (the Wrong) dir
stuck_sim true = back (λ o f x. left Wrong (wrong_here o f x) (only_wrong o f x))
  where
    wrong_here : {A B C : Type 0} {k : A → Rel B} {l : B → Rel C} (o : Out C) (f : ℕ) → the Wrong o f → Then (Then (the Wrong) k) l Wrong f
    wrong_here _ _ exact = sticks (sticks exact)

    only_wrong : {C : Type 0} (o : Out C) (f : ℕ) → the Wrong o f → Same_out ◌≡◌ Wrong o
    only_wrong _ _ exact = same_wrong
stuck_sim {k = k} {l} false = forth (λ o f x. right o (stuck_back k l o f x) (out_same o))

module _ (tight : Bool) (budget : ℕ) (dir : Bool) where
  equal_values : (c c' : Datum) → c ≡ c' → Sim (Is_value Scalar_shape) (gives 0 (c ∷ [])) (gives 0 (as_value c')) dir
  equal_values c c' e = subst (λ z. Sim (Is_value Scalar_shape) (gives 0 (c ∷ [])) (gives 0 (as_value z)) dir) e (the_sim dir (same_value (split_scalar refl)))

  -- the step of a primitive whose function is simulated by its block
  pub job_step : {sizes : Option Sizing} {d : Names Component} {n x : ℕ} {us : List Atom} {ds : List Datum} (told : Data_shape) (row : Row) (Fits : Bool → Datum → List Datum → Type 0) (Writes : List (ℕ × Datum) → Type 0) (p : Primitive) (at : Place) (xs : List ℕ) (b : Body) {f : Applied}
      → ((any : Bool) (ne : Datum) (es : List Datum) → Fits any ne es) → ((ws : List (ℕ × Datum)) → Writes ws) → n ≤ x → All_same (Has d n) us ds → ((es : List Datum) → Sim ◌≡◌ (function_of (body_means tight budget b) xs d es) (f es) dir) → row_shape d row ≡ Val told
      → Sim (Gives d n (Standing sizes (named x) (suc x))) (run tight budget (step (x ∷ []) (act.Job row p at us xs b)) d) (Then (the (job false told p at ds)) (λ j. Then (job_means tight Fits Writes f j) (λ e. gives 0 (as_value e)))) dir
  unfolding act_means
  job_step {d} {x = x} {us} {ds} told row Fits Writes p at xs b {f} fit write le h s r =
      step_sim tight budget dir {h = Scalar_shape} (x ∷ []) (act.Job row p at us xs b)
      (known_left dir (values_of d us) ds _ _ (values_are h)
      (then_sim dir (the_sim dir (subst (λ z. Same_out ◌≡◌ (and_then z (λ h. job false h p at ds)) (job false told p at ds)) (sym r) (out_same (job false told p at ds))))
      (λ j j' e. subst (λ z. Sim (Is_value Scalar_shape) (job_given tight (function_of (body_means tight budget b) xs d) j) (Then (job_means tight Fits Writes f z) (λ e. gives 0 (as_value e))) dir) e
      (then_sim dir (job_sim tight _ Fits _ Writes (function_of (body_means tight budget b) xs d) f dir (λ any ne es. (λ u. fit any ne es, λ u. tt)) (λ ws. (λ u. write ws, λ u. tt)) s j) (λ c c' e. equal_values c c' e)))))
      (le, omega arith) laid_scalar
