-- Sizes by themselves replaced, one after another.
use Rattle.std.proofs.Common.{◌≡◌, ℕ, suc, refl, ap}
use Rattle.sized_types.specs.Sizes.{Free, Dim, At, Bound, Size, Hole, Open, Level, Built, Fun, Sizes, no_size, size_and, replaced, all_replaced, renaming, renamed}

module _ (ρ π τ : Free → Free) (h : (e : Free) → ρ (π e) ≡ τ e) where
  dim_twice : (j : ℕ) (d : Dim) → renaming ρ j (renaming π j d) ≡ renaming τ j d
  dim_twice j (At e) = ap At (h e)
  dim_twice j (Bound k i) = refl

  mutual
    unfolding replaced all_replaced

    twice : (j : ℕ) (t : Size) → replaced (renaming ρ) j (replaced (renaming π) j t) ≡ replaced (renaming τ) j t
    twice j (Hole v) = refl
    twice j (Open n v u) = refl
    twice j (Level d t) = rw (dim_twice j d, twice j t) refl
    twice j (Built g ts) = ap (Built g) (all_twice j ts)
    twice j (Fun k p r) = rw (twice (suc j) p, twice (suc j) r) refl

    all_twice : (j : ℕ) (ts : Sizes) → all_replaced (renaming ρ) j (all_replaced (renaming π) j ts) ≡ all_replaced (renaming τ) j ts
    all_twice j no_size = refl
    all_twice j (size_and t ts) = rw (twice j t, all_twice j ts) refl

  pub renamed_twice : (t : Size) → renamed ρ (renamed π t) ≡ renamed τ t
  renamed_twice t = twice 0 t

-- at any depth
module _ (ρ : Free → Free) (i : ℕ) where
  dim_anywhere : (j : ℕ) (d : Dim) → renaming ρ j d ≡ renaming ρ i d
  dim_anywhere j (At e) = refl
  dim_anywhere j (Bound k l) = refl

  mutual
    unfolding replaced all_replaced

    anywhere : (m j : ℕ) (t : Size) → replaced (renaming ρ) j t ≡ replaced (renaming ρ) m t
    anywhere m j (Hole v) = refl
    anywhere m j (Open n v u) = refl
    anywhere m j (Level d t) = rw (dim_anywhere j d, dim_anywhere m d, anywhere m j t) refl
    anywhere m j (Built g ts) = ap (Built g) (all_anywhere m j ts)
    anywhere m j (Fun k p r) = rw (anywhere (suc m) (suc j) p, anywhere (suc m) (suc j) r) refl

    all_anywhere : (m j : ℕ) (ts : Sizes) → all_replaced (renaming ρ) j ts ≡ all_replaced (renaming ρ) m ts
    all_anywhere m j no_size = refl
    all_anywhere m j (size_and t ts) = rw (anywhere m j t, all_anywhere m j ts) refl

pub renamed_at : (ρ : Free → Free) (j : ℕ) (t : Size) → replaced (renaming ρ) j t ≡ renamed ρ t
renamed_at ρ j t = anywhere ρ 0 0 j t

-- by replacements that are alike
module _ (ρ π : Free → Free) (h : (e : Free) → ρ e ≡ π e) where
  dim_alike : (j : ℕ) (d : Dim) → renaming ρ j d ≡ renaming π j d
  dim_alike j (At e) = ap At (h e)
  dim_alike j (Bound k i) = refl

  mutual
    unfolding replaced all_replaced

    alike : (j : ℕ) (t : Size) → replaced (renaming ρ) j t ≡ replaced (renaming π) j t
    alike j (Hole v) = refl
    alike j (Open n v u) = refl
    alike j (Level d t) = rw (dim_alike j d, alike j t) refl
    alike j (Built g ts) = ap (Built g) (all_alike j ts)
    alike j (Fun k p r) = rw (alike (suc j) p, alike (suc j) r) refl

    all_alike : (j : ℕ) (ts : Sizes) → all_replaced (renaming ρ) j ts ≡ all_replaced (renaming π) j ts
    all_alike j no_size = refl
    all_alike j (size_and t ts) = rw (alike j t, all_alike j ts) refl

  pub renamed_alike : (t : Size) → renamed ρ t ≡ renamed π t
  renamed_alike t = alike 0 t
