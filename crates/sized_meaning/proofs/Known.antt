-- What is known of sizes before functions run, where the sizes that a function type binds are given.
use Rattle.std.proofs.Common.{◌≡◌, ◌⊎◌, inl, inr, ℕ, zero, suc, ◌<◌, List, [], ◌∷◌, ◌++◌, length, Bool, true, false, cond, nat_eq, refl, arith, eqb-true}
use Rattle.std.proofs.lemmas.Bool.{eqb-false}
use Rattle.sized_types.specs.Sizes.{Free, Dim, At, Bound, Size, Hole, Open, Level, Built, Fun, Sizes, no_size, size_and, replaced, all_replaced, given}
use Rattle.fut_sizes.specs.Suiting.{Each, Each_all, Scoped, Of_positions, Data, All_data}
use Rattle.fut_sizes.specs.Rules.{Any_free}
use Rattle.fut_value.specs.Data.{Shape}
use Rattle.fut_meaning.specs.Flats.{FlatValue}
use Rattle.fut_meaning.specs.Found.{Sizing}
use Rattle.fut_meaning.specs.Telling.{is_function, tells}
use Rattle.fut_typing.specs.Names.{Names}
use Rattle.sized_meaning.specs.Worth.{Worth, Frames, push}
use Rattle.sized_meaning.specs.Shapes.{Meant, Has_shape}
use Rattle.sized_meaning.specs.Fits.{Chosen_in, Known_size, Known_data, Flat_result, Known_result, Told_right, Tells_right}
use Rattle.sized_meaning.proofs.Reading.{data_replaced, flat_result_replaced, each_as, each_and}

-- ---- of data, dim by dim
module _ (ok ok2 ok' : ℕ → Dim → Type 0) (n n2 n' : ℕ) where
  module _ (turn : (d : Dim) → ok n d → ok2 n2 d → ok' n' d) where
    mutual
      unfolding Each Each_all Data All_data

      pub data_each : (t : Size) → Data t → Each ok n t → Each ok2 n2 t → Each ok' n' t
      data_each (Hole a) h e f = tt
      data_each (Open k v u) h e f = tt
      data_each (Level d t) h e f = (turn d e.0 f.0, data_each t h e.1 f.1)
      data_each (Built k ts) h e f = all_data_each ts h e f
      data_each (Fun k p r) h e f = absurd h

      all_data_each : (ts : Sizes) → All_data ts → Each_all ok n ts → Each_all ok2 n2 ts → Each_all ok' n' ts
      all_data_each no_size h e f = tt
      all_data_each (size_and t ts) h e f = (data_each t h.0 e.0 f.0, all_data_each ts h.1 e.1 f.1)

  module _ (g : ℕ → Dim → Dim) (i : ℕ) (turn : (d : Dim) → ok n d → ok2 n2 d → ok' n' (g i d)) where
    mutual
      unfolding Each Each_all Data All_data replaced all_replaced

      pub into_replaced : (t : Size) → Data t → Each ok n t → Each ok2 n2 t → Each ok' n' (replaced g i t)
      into_replaced (Hole a) h e f = tt
      into_replaced (Open k v u) h e f = tt
      into_replaced (Level d t) h e f = (turn d e.0 f.0, into_replaced t h e.1 f.1)
      into_replaced (Built k ts) h e f = all_into_replaced ts h e f
      into_replaced (Fun k p r) h e f = absurd h

      all_into_replaced : (ts : Sizes) → All_data ts → Each_all ok n ts → Each_all ok2 n2 ts → Each_all ok' n' (all_replaced g i ts)
      all_into_replaced no_size h e f = tt
      all_into_replaced (size_and t ts) h e f = (into_replaced t h.0 e.0 f.0, all_into_replaced ts h.1 e.1 f.1)

  module _ (g : ℕ → Dim → Dim) (i : ℕ) (turn : (d : Dim) → ok n (g i d) → ok2 n2 d → ok' n' d) where
    mutual
      unfolding Each Each_all Data All_data replaced all_replaced

      pub from_replaced : (t : Size) → Data t → Each ok n (replaced g i t) → Each ok2 n2 t → Each ok' n' t
      from_replaced (Hole a) h e f = tt
      from_replaced (Open k v u) h e f = tt
      from_replaced (Level d t) h e f = (turn d e.0 f.0, from_replaced t h e.1 f.1)
      from_replaced (Built k ts) h e f = all_from_replaced ts h e f
      from_replaced (Fun k p r) h e f = absurd h

      all_from_replaced : (ts : Sizes) → All_data ts → Each_all ok n (all_replaced g i ts) → Each_all ok2 n2 ts → Each_all ok' n' ts
      all_from_replaced no_size h e f = tt
      all_from_replaced (size_and t ts) h e f = (from_replaced t h.0 e.0 f.0, all_from_replaced ts h.1 e.1 f.1)

pub scoped_both : (A B : Free → Type 0) (t : Size) (j : ℕ) → Each (Scoped A) j t → Each (Scoped B) j t → Each (Scoped (λ d. A d × B d)) j t
scoped_both A B t j e f = each_as (λ j d. Scoped A j d × Scoped B j d) (Scoped (λ d. A d × B d)) both t j (each_and (Scoped A) (Scoped B) t j e f)
  where
    both : (j : ℕ) (d : Dim) → Scoped A j d × Scoped B j d → Scoped (λ d. A d × B d) j d
    both j (At d) h = h
    both j (Bound k i) h = h.0

-- ---- the frame that is furthest out
within_last : (ks : List ℕ) (l j i : ℕ) → j ≡ length ks → Chosen_in (ks ++ l ∷ []) j i → i < l
unfolding Chosen_in
within_last [] l zero i e h = h
within_last [] l (suc j) i e h = absurd (omega (arith, e))
within_last (k ∷ ks) l zero i e h = absurd (omega (arith, e))
within_last (k ∷ ks) l (suc j) i e h = within_last ks l j i (omega (arith, e)) h

at_last : (ks : List ℕ) (l j i : ℕ) → j ≡ length ks → i < l → Chosen_in (ks ++ l ∷ []) j i
unfolding Chosen_in
at_last [] l zero i e h = h
at_last [] l (suc j) i e h = absurd (omega (arith, e))
at_last (k ∷ ks) l zero i e h = absurd (omega (arith, e))
at_last (k ∷ ks) l (suc j) i e h = at_last ks l j i (omega (arith, e)) h

before_last : (ks : List ℕ) (l j i : ℕ) → Chosen_in (ks ++ l ∷ []) j i → (j ≡ length ks → ⊥) → Chosen_in ks j i
unfolding Chosen_in
before_last [] l j i h n = tt
before_last (k ∷ ks) l zero i h n = h
before_last (k ∷ ks) l (suc j) i h n = before_last ks l j i h (λ e. n (omega (arith, e)))

more_last : (ks : List ℕ) (l j i : ℕ) → j < length ks → Chosen_in ks j i → Chosen_in (ks ++ l ∷ []) j i
unfolding Chosen_in
more_last [] l j i lt h = absurd (omega (arith, lt))
more_last (k ∷ ks) l zero i lt h = h
more_last (k ∷ ks) l (suc j) i lt h = more_last ks l j i (omega (arith, lt)) h

-- ---- what is known where its sizes are given
module _ (In Other In2 : Free → Type 0) (ρ : ℕ → Free) (l : ℕ) (sizes : (d : Free) → In d → Other d → In2 d) (places : (i : ℕ) → i < l → In2 (ρ i)) where
  turn_open : (ks : List ℕ) (n : ℕ) → n ≡ suc (length ks) → (d : Dim) → Known_size In (ks ++ l ∷ []) d → Scoped Other n d → Known_size In2 ks (given ρ n d)
  turn_open ks n e (At d) h s = sizes d h s
  turn_open ks n e (Bound j i) h s = by_test (nat_eq (suc j) n) refl
    where
      by_test : (b : Bool) → nat_eq (suc j) n ≡ b → Known_size In2 ks (cond b (At (ρ i)) (Bound j i))
      by_test true z = places i (within_last ks l j i (let a = eqb-true (suc j) n z in omega (arith, a, e)) h)
      by_test false z = before_last ks l j i h (λ w. eqb-false (suc j) n z (omega (arith, w, e)))

  data_opened : (ks : List ℕ) (n : ℕ) → n ≡ suc (length ks) → (t : Size) → Known_data In (ks ++ l ∷ []) t → Each (Scoped Other) n t → Known_data In2 ks (replaced (given ρ) n t)
  data_opened ks n e t h s = ((data_replaced (given ρ) t n).0 h.0, into_replaced (λ j d. Known_size In (ks ++ l ∷ []) d) (Scoped Other) (λ j d. Known_size In2 ks d) 0 n 0 (given ρ) n (turn_open ks n e) t h.0 h.1 s)

  known_opened : (t : Size) (ks : List ℕ) (n : ℕ) → n ≡ suc (length ks) → Known_result In (ks ++ l ∷ []) t → Each (Scoped Other) n t → Known_result In2 ks (replaced (given ρ) n t)
  unfolding Known_result replaced Each
  known_opened (Hole v) ks n e h s = data_opened ks n e (Hole v) h s
  known_opened (Open k v u) ks n e h s = data_opened ks n e (Open k v u) h s
  known_opened (Level d t) ks n e h s = data_opened ks n e (Level d t) h s
  known_opened (Built k ts) ks n e h s = data_opened ks n e (Built k ts) h s
  known_opened (Fun k p r) ks n e h s = (data_opened (k ∷ ks) (suc n) (omega (arith, e)) p h.0 s.0, known_opened r (k ∷ ks) (suc n) (omega (arith, e)) h.1 s.1, (flat_result_replaced (given ρ) r (suc n)).0 h.2)

  pub opened_known : (t : Size) → Known_result In (l ∷ []) t → Each (Scoped Other) 1 t → Known_result In2 [] (replaced (given ρ) 1 t)
  opened_known t h s = known_opened t [] 1 refl h s

  pub opened_data : (t : Size) → Known_data In (l ∷ []) t → Each (Scoped Other) 1 t → Known_data In2 [] (replaced (given ρ) 1 t)
  opened_data t h s = data_opened [] 1 refl t h s

-- ---- and back
module _ (In Other In2 : Free → Type 0) (δ : ℕ → Free) (l : ℕ) (sizes : (d : Free) → In2 d → Other d → In d) (places : (i : ℕ) → In2 (δ i) → i < l) where
  turn_back : (ks : List ℕ) (n : ℕ) → n ≡ suc (length ks) → (d : Dim) → Known_size In2 ks (given δ n d) → Scoped Other n d → Known_size In (ks ++ l ∷ []) d
  turn_back ks n e (At d) h s = sizes d h s
  turn_back ks n e (Bound j i) h s = by_test (nat_eq (suc j) n) refl h
    where
      by_test : (b : Bool) → nat_eq (suc j) n ≡ b → Known_size In2 ks (cond b (At (δ i)) (Bound j i)) → Chosen_in (ks ++ l ∷ []) j i
      by_test true z h = at_last ks l j i (let a = eqb-true (suc j) n z in omega (arith, a, e)) (places i h)
      by_test false z h = more_last ks l j i (let a = eqb-false (suc j) n z in omega (arith, a, e, s)) h

  data_back : (ks : List ℕ) (n : ℕ) → n ≡ suc (length ks) → (t : Size) → Known_data In2 ks (replaced (given δ) n t) → Each (Scoped Other) n t → Known_data In (ks ++ l ∷ []) t
  data_back ks n e t h s = let d : Data t = (data_replaced (given δ) t n).1 h.0 in (d, from_replaced (λ j d. Known_size In2 ks d) (Scoped Other) (λ j d. Known_size In (ks ++ l ∷ []) d) 0 n 0 (given δ) n (turn_back ks n e) t d h.1 s)

  back_known : (t : Size) (ks : List ℕ) (n : ℕ) → n ≡ suc (length ks) → Known_result In2 ks (replaced (given δ) n t) → Each (Scoped Other) n t → Known_result In (ks ++ l ∷ []) t
  unfolding Known_result replaced Each
  back_known (Hole v) ks n e h s = data_back ks n e (Hole v) h s
  back_known (Open k v u) ks n e h s = data_back ks n e (Open k v u) h s
  back_known (Level d t) ks n e h s = data_back ks n e (Level d t) h s
  back_known (Built k ts) ks n e h s = data_back ks n e (Built k ts) h s
  back_known (Fun k p r) ks n e h s = (data_back (k ∷ ks) (suc n) (omega (arith, e)) p h.0 s.0, back_known r (k ∷ ks) (suc n) (omega (arith, e)) h.1 s.1, (flat_result_replaced (given δ) r (suc n)).1 h.2)

  pub known_back : (t : Size) → Known_result In2 [] (replaced (given δ) 1 t) → Each (Scoped Other) 1 t → Known_result In (l ∷ []) t
  known_back t h s = back_known t [] 1 refl h s

  pub known_data_back : (t : Size) → Known_data In2 [] (replaced (given δ) 1 t) → Each (Scoped Other) 1 t → Known_data In (l ∷ []) t
  known_data_back t h s = data_back [] 1 refl t h s

-- ---- what is known names of its own frame what a caller chooses
module _ (In : Free → Type 0) (l : ℕ) where
  turn_low : (ks : List ℕ) (n : ℕ) → n ≡ suc (length ks) → (d : Dim) → Known_size In (ks ++ l ∷ []) d → Known_size In (ks ++ l ∷ []) d → Of_positions (λ i. i < l) n d
  turn_low ks n e (At d) h h' = tt
  turn_low ks n e (Bound j i) h h' = λ z. within_last ks l j i (omega (arith, e, z)) h

  data_low : (ks : List ℕ) (n : ℕ) → n ≡ suc (length ks) → (t : Size) → Known_data In (ks ++ l ∷ []) t → Each (Of_positions (λ i. i < l)) n t
  data_low ks n e t h = data_each (λ j d. Known_size In (ks ++ l ∷ []) d) (λ j d. Known_size In (ks ++ l ∷ []) d) (Of_positions (λ i. i < l)) 0 0 n (turn_low ks n e) t h.0 h.1 h.1

  all_low : (t : Size) (ks : List ℕ) (n : ℕ) → n ≡ suc (length ks) → Known_result In (ks ++ l ∷ []) t → Each (Of_positions (λ i. i < l)) n t
  unfolding Known_result Each
  all_low (Hole v) ks n e h = tt
  all_low (Open k v u) ks n e h = tt
  all_low (Level d t) ks n e h = data_low ks n e (Level d t) h
  all_low (Built k ts) ks n e h = data_low ks n e (Built k ts) h
  all_low (Fun k p r) ks n e h = (data_low (k ∷ ks) (suc n) (omega (arith, e)) p h.0, all_low r (k ∷ ks) (suc n) (omega (arith, e)) h.1)

  pub known_low : (t : Size) → Known_result In (l ∷ []) t → Each (Of_positions (λ i. i < l)) 1 t
  known_low t h = all_low t [] 1 refl h

-- ---- data
pub known_of_data : (In : Free → Type 0) (ks : List ℕ) (t : Size) → Known_data In ks t → Known_result In ks t
unfolding Known_result Data
known_of_data In ks (Hole v) h = h
known_of_data In ks (Open n v u) h = h
known_of_data In ks (Level d t) h = h
known_of_data In ks (Built k ts) h = h
known_of_data In ks (Fun k p r) h = absurd h.0

-- it is data, or wants more arguments and gives no arrays in the end
pub known_cases : (In : Free → Type 0) (ks : List ℕ) (t : Size) → Known_result In ks t → Data t ⊎ Flat_result t
unfolding Known_result Flat_result
known_cases In ks (Hole v) h = inl h.0
known_cases In ks (Open n v u) h = inl h.0
known_cases In ks (Level d t) h = inl h.0
known_cases In ks (Built k ts) h = inl h.0
known_cases In ks (Fun k p r) h = inr h.2

-- nothing is asked of sizes by themselves
module _ (In : Free → Type 0) where
  any_size : (ks : List ℕ) (d : Dim) → Known_size In ks d → Known_size In ks d → Known_size Any_free ks d
  any_size ks (At d) h h' = tt
  any_size ks (Bound j i) h h' = h

  any_data : (ks : List ℕ) (t : Size) → Known_data In ks t → Known_data Any_free ks t
  any_data ks t h = (h.0, data_each (λ j d. Known_size In ks d) (λ j d. Known_size In ks d) (λ j d. Known_size Any_free ks d) 0 0 0 (any_size ks) t h.0 h.1 h.1)

  any_known : (t : Size) (ks : List ℕ) → Known_result In ks t → Known_result Any_free ks t
  unfolding Known_result
  any_known (Hole v) ks h = any_data ks (Hole v) h
  any_known (Open n v u) ks h = any_data ks (Open n v u) h
  any_known (Level d t) ks h = any_data ks (Level d t) h
  any_known (Built k ts) ks h = any_data ks (Built k ts) h
  any_known (Fun k p r) ks h = (any_data (k ∷ ks) p h.0, any_known r (k ∷ ks) h.1, h.2)

pub every_known : (In : Free → Type 0) (t : Size) → Known_result In [] t → Known_result Any_free [] t
every_known In t h = any_known In t [] h

pub closed_known : (ks : List ℕ) (t : Size) → Data t → Each (Scoped Any_free) 0 t → Known_data Any_free ks t
closed_known ks t d e = (d, data_each (Scoped Any_free) (Scoped Any_free) (λ j d. Known_size Any_free ks d) 0 0 0 turn t d e e)
  where
    turn : (d : Dim) → Scoped Any_free 0 d → Scoped Any_free 0 d → Known_size Any_free ks d
    turn (At d) h h' = tt
    turn (Bound j i) h h' = absurd (omega (arith, h))

pub low_known : (k : ℕ) (t : Size) → Data t → Each (Of_positions (λ i. i < k)) 1 t → Known_data Any_free (k ∷ []) t
unfolding Chosen_in
low_known k t d e = (d, data_each (Of_positions (λ i. i < k)) (Of_positions (λ i. i < k)) (λ j d. Known_size Any_free (k ∷ []) d) 1 1 0 turn t d e e)
  where
    turn : (d : Dim) → Of_positions (λ i. i < k) 1 d → Of_positions (λ i. i < k) 1 d → Known_size Any_free (k ∷ []) d
    turn (At d) h h' = tt
    turn (Bound zero i) h h' = h refl
    turn (Bound (suc j) i) h h' = tt

module _ (N : Names) (τ : Meant) (m : Worth) (φ : Frames) where
  pub shape_told : (t : Size) → Data t → (tell : List Shape → Shape) → Told_right N τ m φ t tell → Has_shape N τ m φ t (tell [])
  unfolding Told_right Data
  shape_told (Hole v) d tell h = h
  shape_told (Open n v u) d tell h = h
  shape_told (Level e t) d tell h = h
  shape_told (Built k ts) d tell h = h
  shape_told (Fun k p r) d tell h = absurd d

  pub told_here : (t : Size) → Data t → (tell : List Shape → Shape) → Has_shape N τ m φ t (tell []) → Told_right N τ m φ t tell
  unfolding Told_right Data
  told_here (Hole v) d tell h = h
  told_here (Open n v u) d tell h = h
  told_here (Level e t) d tell h = h
  told_here (Built k ts) d tell h = h
  told_here (Fun k p r) d tell h = absurd d

-- ---- functions that give data at once
module _ (N : Names) (τ : Meant) (Z : Sizing) (m : Worth) (φ : Frames) (k : ℕ) (p r : Size) (f : FlatValue) (data_r : Data r) where
  abbrev pub Tells_one : Type 0
  Tells_one = (is_function f ≡ true) × (Data r → Each (Of_positions (λ i. i < k)) 1 r → (F : ℕ → ℕ) (h : Shape) → Has_shape N τ m (push F φ) p h → Has_shape N τ m (push F φ) r (tells Z f (h ∷ [])))

  pub one_tells : Tells_one → Tells_right N τ Z m φ k p r f
  one_tells t = (t.0, λ known F h hp. told_here N τ m (push F φ) r data_r (λ hs. tells Z f (h ∷ hs)) (t.1 data_r (known_low Any_free k r known) F h hp))

  pub tells_one : Each (Of_positions (λ i. i < k)) 1 r → Tells_right N τ Z m φ k p r f → (F : ℕ → ℕ) (h : Shape) → Has_shape N τ m (push F φ) p h → Has_shape N τ m (push F φ) r (tells Z f (h ∷ []))
  tells_one low t F h hp = shape_told N τ m (push F φ) r data_r (λ hs. tells Z f (h ∷ hs)) (t.1 (known_of_data Any_free (k ∷ []) r (low_known k r data_r low)) F h hp)
