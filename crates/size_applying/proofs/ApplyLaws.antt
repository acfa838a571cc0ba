-- How an application goes on: along an arrow, where none is left, and to its end.
use Rattle.std.proofs.Common.{◌≡◌, ℕ, suc, ◌+◌, ◌-◌, ◌≤◌, Bool, true, false, cond, nat_lt, List, [], ◌∷◌, ◌++◌, length, Ok, Err, refl, sym, ap, ◌∙◌, arith}
use Rattle.std.proofs.lemmas.Bool.{ltb-false}
use Rattle.sized_types.specs.Sizes.{Dim, At, Bound, Size, Hole, Open, Level, Built, Fun, Sizes, no_size, size_and, replaced, all_replaced}
use Rattle.fut_sizes.specs.Agreeing.{Refusal}
use Rattle.fut_sizes.specs.Applications.{Argument, Later, Met, Wanting, all_matched, applied, applied_frame, is_arrow, uses}
use Rattle.fut_sizes.specs.Levels.{levels_within}
use Rattle.fut_sizes.specs.Matching.{Found, Opened, counted, made_at, dim_in, in_opened, inside, lifted, none_opened, read}
use Rattle.fut_sizes.specs.Steps.{State, Done, Step}

-- ---- what stands in no opened function type is as it is

bound_closed : (j k i : ℕ) → dim_in none_opened j (Bound k i) ≡ Bound k i
bound_closed j k i = by_test (nat_lt k j) refl
  where
    by_test : (b : Bool) → nat_lt k j ≡ b → cond (nat_lt k j) (Bound k i) (lifted j (none_opened (k - j) i)) ≡ Bound k i
    by_test true e = ap (λ z. cond z (Bound k i) (Bound (j + (k - j)) i)) e
    by_test false e = let l : j ≤ k = ltb-false k j e in let m : j + (k - j) ≡ k = omega (arith, l) in ap (λ z. cond z (Bound k i) (Bound (j + (k - j)) i)) e ∙ ap (λ z. Bound z i) m

dim_closed : (j : ℕ) (d : Dim) → dim_in none_opened j d ≡ d
dim_closed j (At d) = refl
dim_closed j (Bound k i) = bound_closed j k i

mutual
  unfolding replaced all_replaced

  closed_at : (j : ℕ) (t : Size) → replaced (dim_in none_opened) j t ≡ t
  closed_at j (Hole v) = refl
  closed_at j (Open n v u) = refl
  closed_at j (Level d t) = rw (dim_closed j d, closed_at j t) refl
  closed_at j (Built h ts) = ap (Built h) (all_closed_at j ts)
  closed_at j (Fun k p r) = rw (closed_at (suc j) p, closed_at (suc j) r) refl

  all_closed_at : (j : ℕ) (ts : Sizes) → all_replaced (dim_in none_opened) j ts ≡ ts
  all_closed_at j no_size = refl
  all_closed_at j (size_and t ts) = rw (closed_at j t, all_closed_at j ts) refl

pub in_none : (t : Size) → in_opened none_opened t ≡ t
in_none t = closed_at 0 t

-- ---- along an arrow

-- what it wants of an argument, and what it is sized as later
abbrev pub wanting_at : ℕ → Argument → Opened → ℕ → Size → Found → Wanting
wanting_at n a φ k p σ = record { node = n; argument = a; opened = inside (applied_frame n σ.next k a) φ; wanted = p }

module _ (n : ℕ) (regular : Bool) (a : Argument) (rest : List Argument) where
  pub arrow_law : (ws : List Wanting) (φ : Opened) (goes_on : Bool) (t : Size) (ls : List Later) (σ : Found) (k : ℕ) (p r : Size) → t ≡ Fun k p r
      → applied n regular (a ∷ rest) ws φ goes_on t ls σ ≡ applied n regular rest (ws ++ wanting_at (n + length rest) a φ k p σ ∷ []) (inside (applied_frame (n + length rest) σ.next k a) φ) (is_arrow r) r
      (ls ++ record { node = suc (n + length rest); size = in_opened φ t } ∷ []) (counted (suc k + levels_within r) (made_at (n + length rest) σ))
  unfolding applied
  arrow_law ws φ goes_on t ls σ k p r is = rw is refl

  -- ---- where no arrow is left, all is matched, and what the application gives is read

  -- the same arrow, and later nodes that stand otherwise in brackets
  once_more : (ks : List Later) (ls : List Later) (k : ℕ) (p r : Size) (σ : Found)
      → applied n regular rest (wanting_at (n + length rest) a none_opened k p σ ∷ []) (inside (applied_frame (n + length rest) σ.next k a) none_opened) (is_arrow r) r (ks ++ ls ++ record { node = suc (n + length rest); size = Fun k p r } ∷ []) (counted (suc k + levels_within r) (made_at (n + length rest) σ))
      ≡ applied n regular (a ∷ rest) [] none_opened false (Fun k p r) (ks ++ ls) σ
  unfolding applied
  once_more ks ls k p r σ = ap (λ z. applied n regular rest (wanting_at (n + length rest) a none_opened k p σ ∷ []) (inside (applied_frame (n + length rest) σ.next k a) none_opened) (is_arrow r) r z (counted (suc k + levels_within r) (made_at (n + length rest) σ)))
      (ap (λ z. ks ++ ls ++ record { node = suc (n + length rest); size = z } ∷ []) (sym (in_none (Fun k p r))))

  module _ (ws : List Wanting) (φ : Opened) (goes_on : Bool) (ls : List Later) (σ : Found) (s : State) (d : Done Found) (matched : all_matched regular ws σ s ≡ Ok d) where
    taken_again : (t : Size) (k : ℕ) (p r : Size) → is_arrow t ≡ false → read d.result (in_opened φ t) ≡ Fun k p r
        → applied n regular (a ∷ rest) ws φ goes_on t ls σ s ≡ applied n regular rest (wanting_at (n + length rest) a none_opened k p d.result ∷ []) (inside (applied_frame (n + length rest) d.result.next k a) none_opened) (is_arrow r) r (ls ++ uses ws ++ record { node = suc (n + length rest); size = Fun k p r } ∷ []) (counted (suc k + levels_within r) (made_at (n + length rest) d.result)) d.state
    unfolding applied
    taken_again (Fun l q o) k p r h e = cc
    taken_again (Hole v) k p r h e = rw (matched, e) refl
    taken_again t k p r h e = rw (matched, e) refl

    pub again_law : (t : Size) (k : ℕ) (p r : Size) → is_arrow t ≡ false → read d.result (in_opened φ t) ≡ Fun k p r
        → applied n regular (a ∷ rest) ws φ goes_on t ls σ s ≡ applied n regular (a ∷ rest) [] none_opened false (read d.result (in_opened φ t)) (ls ++ uses ws) d.result d.state
    again_law t k p r h e = taken_again t k p r h e ∙ ap (λ (z : Step Met). z d.state) (once_more ls (uses ws) k p r d.result ∙ ap (λ z. applied n regular (a ∷ rest) [] none_opened false z (ls ++ uses ws) d.result) (sym e))

    over_by : (t u : Size) → is_arrow t ≡ false → is_arrow u ≡ false → read d.result (in_opened φ t) ≡ u
        → applied n regular (a ∷ rest) ws φ goes_on t ls σ s ≡ Ok (record { result = record { size = u; found = d.result; later = ls ++ uses ws; goes_on = false }; state = d.state })
    unfolding applied
    over_by (Fun l q o) u h i e = cc
    over_by t (Fun l q o) h i e = cc
    over_by t u h i e = rw (matched, e) refl

    pub over_law : (t : Size) → is_arrow t ≡ false → is_arrow (read d.result (in_opened φ t)) ≡ false
        → applied n regular (a ∷ rest) ws φ goes_on t ls σ s ≡ Ok (record { result = record { size = read d.result (in_opened φ t); found = d.result; later = ls ++ uses ws; goes_on = false }; state = d.state })
    over_law t h i = over_by t (read d.result (in_opened φ t)) h i refl

  pub again_stop : (ws : List Wanting) (φ : Opened) (goes_on : Bool) (ls : List Later) (σ : Found) (s : State) (t : Size) → is_arrow t ≡ false → (e : Refusal) → all_matched regular ws σ s ≡ Err e
      → applied n regular (a ∷ rest) ws φ goes_on t ls σ s ≡ Err e
  unfolding applied
  again_stop ws φ goes_on ls σ s (Fun l q o) h e p = cc
  again_stop ws φ goes_on ls σ s t h e p = rw p refl

-- ---- at the end

module _ (n : ℕ) (regular : Bool) (ws : List Wanting) (φ : Opened) (goes_on : Bool) (t : Size) (ls : List Later) (σ : Found) (s : State) where
  pub end_law : (d : Done Found) → all_matched regular ws σ s ≡ Ok d
      → applied n regular [] ws φ goes_on t ls σ s ≡ Ok (record { result = record { size = read d.result (in_opened φ t); found = d.result; later = ls ++ uses ws; goes_on = goes_on }; state = d.state })
  unfolding applied
  end_law d p = rw p refl

  pub end_stop : (e : Refusal) → all_matched regular ws σ s ≡ Err e → applied n regular [] ws φ goes_on t ls σ s ≡ Err e
  unfolding applied
  end_stop e p = rw p refl
