-- Which sizes the sized types of nodes name.
use Rattle.std.proofs.Common.{◌≡◌, ℕ, zero, suc, ◌+◌, ◌<◌, ◌≤◌, Bool, true, false, ◌||◌, cond, nat_eq, refl, sym, ap, ◌∙◌, subst, arith, eq-eqb, eqb-true}
use Rattle.std.proofs.lemmas.Bool.{eqb-false}
use Rattle.fut_meaning.specs.Programs.{names_size, name_size, some_names}
use Rattle.sized_types.specs.Sizes.{Free, Const, Name, Own, Unknown, Slot, Dim, At, Bound, Size, Hole, Open, Level, Built, Fun, Sizes, no_size, size_and, is_free, is_dim, has, some_has}
use Rattle.fut_sizes.specs.Suiting.{Each, Each_all}

-- of sizes by themselves
abbrev pub On_free : (Free → Type 0) → Dim → Type 0
On_free P (At d) = P d
On_free P (Bound j i) = Unit {0}

same_self : (d : Free) → is_free d d ≡ true
unfolding is_free
same_self (Const c) = eq-eqb c c refl
same_self (Name b) = eq-eqb b b refl
same_self (Own n i) = ap (λ c. cond c (nat_eq i i) false) (eq-eqb n n refl) ∙ eq-eqb i i refl
same_self (Unknown n i) = ap (λ c. cond c (nat_eq i i) false) (eq-eqb n n refl) ∙ eq-eqb i i refl
same_self (Slot i) = eq-eqb i i refl

first_has : (x y : Bool) → x ≡ true → cond x true y ≡ true
first_has true y e = refl
first_has false y e = absurd (let z : false ≡ true = e in cc)

last_has : (x y : Bool) → y ≡ true → cond x true y ≡ true
last_has true y e = refl
last_has false y e = e

-- what holds of each size that is named, holds of all sizes that stand there
mutual
  unfolding Each Each_all has some_has is_dim

  pub each_named : (P : Free → Type 0) (t : Size) (j : ℕ) → ((d : Free) → has (is_dim (At d)) t ≡ true → P d) → Each (λ i. On_free P) j t
  each_named P (Hole v) j h = tt
  each_named P (Open n v u) j h = tt
  each_named P (Level (At d) t) j h = (h d (first_has (is_free d d) (has (is_dim (At d)) t) (same_self d)), each_named P t j (λ x e. h x (last_has (is_free x d) (has (is_dim (At x)) t) e)))
  each_named P (Level (Bound k i) t) j h = (tt, each_named P t j (λ x e. h x e))
  each_named P (Built k ts) j h = all_each_named P ts j h
  each_named P (Fun k p r) j h = (each_named P p (suc j) (λ x e. h x (first_has (has (is_dim (At x)) p) (has (is_dim (At x)) r) e)), each_named P r (suc j) (λ x e. h x (last_has (has (is_dim (At x)) p) (has (is_dim (At x)) r) e)))

  all_each_named : (P : Free → Type 0) (ts : Sizes) (j : ℕ) → ((d : Free) → some_has (is_dim (At d)) ts ≡ true → P d) → Each_all (λ i. On_free P) j ts
  all_each_named P no_size j h = tt
  all_each_named P (size_and t ts) j h = (each_named P t j (λ x e. h x (first_has (has (is_dim (At x)) t) (some_has (is_dim (At x)) ts) e)), all_each_named P ts j (λ x e. h x (last_has (has (is_dim (At x)) t) (some_has (is_dim (At x)) ts) e)))

-- ---- as the meaning asks which sizes a term names

or_true : (x y : Bool) → y ≡ true → x || y ≡ true
or_true true y e = refl
or_true false y e = e

either_has : (x y z w : Bool) → (x ≡ true → z ≡ true) → (y ≡ true → w ≡ true) → cond x true y ≡ true → z || w ≡ true
either_has true y z w f g e = ap (λ k. k || w) (f refl)
either_has false y z w f g e = or_true z w (g e)

mutual
  unfolding has some_has names_size name_size is_dim

  named_size : (b : ℕ) (t : Size) → has (is_dim (At (Name b))) t ≡ true → names_size b t ≡ true
  named_size b (Level d t) e = either_has (is_dim (At (Name b)) d) (has (is_dim (At (Name b))) t) (is_dim (At (Name b)) d) (names_size b t) (λ q. q) (named_size b t) e
  named_size b (Built h ts) e = named_sizes b ts e
  named_size b (Fun k p r) e = either_has (has (is_dim (At (Name b))) p) (has (is_dim (At (Name b))) r) (names_size b p) (names_size b r) (named_size b p) (named_size b r) e
  named_size b (Hole v) e = e
  named_size b (Open n v u) e = e

  named_sizes : (b : ℕ) (ts : Sizes) → some_has (is_dim (At (Name b))) ts ≡ true → name_size b ts ≡ true
  named_sizes b no_size e = e
  named_sizes b (size_and t ts) e = either_has (has (is_dim (At (Name b))) t) (some_has (is_dim (At (Name b))) ts) (names_size b t) (name_size b ts) (named_size b t) (named_sizes b ts) e

-- a name that one of so many nodes names is named by some
pub named_among : (s : ℕ → Size) (b k lo n : ℕ) → lo ≤ k → k < lo + n → has (is_dim (At (Name b))) (s k) ≡ true → some_names s b lo n ≡ true
unfolding some_names
named_among s b k lo zero l l' e = absurd (omega (arith, l, l'))
named_among s b k lo (suc n) l l' e = first_or_later (nat_eq lo k) refl (λ z. named_among s b k (suc lo) n (omega (arith, l, z)) (omega (arith, l')) e)
  where
    first_or_later : (c : Bool) → nat_eq lo k ≡ c → ((lo ≡ k → ⊥) → some_names s b (suc lo) n ≡ true) → names_size b (s lo) || some_names s b (suc lo) n ≡ true
    first_or_later true q later = ap (λ x. x || some_names s b (suc lo) n) (subst (λ i. names_size b (s i) ≡ true) (sym (eqb-true lo k q)) (named_size b (s k) e))
    first_or_later false q later = or_true (names_size b (s lo)) (some_names s b (suc lo) n) (later (eqb-false lo k q))
