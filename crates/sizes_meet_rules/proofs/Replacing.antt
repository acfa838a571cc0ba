-- Sized types whose dims are replaced.
use Rattle.std.proofs.Common.{◌≡◌, ℕ, suc, Bool, true, false, cond, nat_eq, refl, ap, ◌∙◌, subst, eqb-true, eq-eqb}
use Rattle.fut_types.specs.declared.Head.TheVariants as head
use Rattle.fut_types.specs.Types.{Made, none, more, fun_ty}
use Rattle.sized_types.specs.Sizes.{Free, Const, Name, Own, Unknown, Slot, Dim, At, Bound, Variable, Size, Hole, Open, Level, Built, Fun, Sizes, no_size, size_and, erased, all_erased, is_free, replaced, all_replaced, renaming, renamed}
use Rattle.fut_sizes.specs.Suiting.{Each, Each_all, Scoped}
use Rattle.fut_sizes.specs.Rules.{Each_hole, Each_holes}

-- ---- one dim or another

pub free_same : (d e : Free) → is_free d e ≡ true → d ≡ e
unfolding is_free
free_same (Const c) (Const d) q = ap Const (eqb-true c d q)
free_same (Name b) (Name c) q = ap Name (eqb-true b c q)
free_same (Own n i) (Own m j) q = two (nat_eq n m) refl q
  where
    two : (b : Bool) → nat_eq n m ≡ b → cond b (nat_eq i j) false ≡ true → Own n i ≡ Own m j
    two true e q = ap (λ z. Own z i) (eqb-true n m e) ∙ ap (Own m) (eqb-true i j q)
    two false e q = absurd (let z : false ≡ true = q in cc)
free_same (Unknown n i) (Unknown m j) q = two (nat_eq n m) refl q
  where
    two : (b : Bool) → nat_eq n m ≡ b → cond b (nat_eq i j) false ≡ true → Unknown n i ≡ Unknown m j
    two true e q = ap (λ z. Unknown z i) (eqb-true n m e) ∙ ap (Unknown m) (eqb-true i j q)
    two false e q = absurd (let z : false ≡ true = q in cc)
free_same (Slot i) (Slot j) q = ap Slot (eqb-true i j q)
free_same d e q = absurd (let z : false ≡ true = q in cc)

pub same_free : (d : Free) → is_free d d ≡ true
unfolding is_free
same_free (Const c) = eq-eqb c c refl
same_free (Name b) = eq-eqb b b refl
same_free (Own n i) = ap (λ z. cond z (nat_eq i i) false) (eq-eqb n n refl) ∙ eq-eqb i i refl
same_free (Unknown n i) = ap (λ z. cond z (nat_eq i i) false) (eq-eqb n n refl) ∙ eq-eqb i i refl
same_free (Slot i) = eq-eqb i i refl

-- ---- what holds of all dims

module _ (ok ok' : ℕ → Dim → Type 0) (as_well : (j : ℕ) (d : Dim) → ok j d → ok' j d) where
  mutual
    unfolding Each Each_all

    pub each_as : (t : Size) (j : ℕ) → Each ok j t → Each ok' j t
    each_as (Hole v) j h = tt
    each_as (Open n v u) j h = tt
    each_as (Level d t) j h = (as_well j d h.0, each_as t j h.1)
    each_as (Built k ts) j h = all_each_as ts j h
    each_as (Fun k p r) j h = (each_as p (suc j) h.0, each_as r (suc j) h.1)

    pub all_each_as : (ts : Sizes) (j : ℕ) → Each_all ok j ts → Each_all ok' j ts
    all_each_as no_size j h = tt
    all_each_as (size_and t ts) j h = (each_as t j h.0, all_each_as ts j h.1)

module _ (ok ok' : ℕ → Dim → Type 0) where
  mutual
    unfolding Each Each_all

    pub each_both : (t : Size) (j : ℕ) → Each ok j t → Each ok' j t → Each (λ i d. ok i d × ok' i d) j t
    each_both (Hole v) j h k = tt
    each_both (Open n v u) j h k = tt
    each_both (Level d t) j h k = ((h.0, k.0), each_both t j h.1 k.1)
    each_both (Built g ts) j h k = all_each_both ts j h k
    each_both (Fun l p r) j h k = (each_both p (suc j) h.0 k.0, each_both r (suc j) h.1 k.1)

    all_each_both : (ts : Sizes) (j : ℕ) → Each_all ok j ts → Each_all ok' j ts → Each_all (λ i d. ok i d × ok' i d) j ts
    all_each_both no_size j h k = tt
    all_each_both (size_and t ts) j h k = (each_both t j h.0 k.0, all_each_both ts j h.1 k.1)

-- ---- what holds where dims are replaced

module _ (g : ℕ → Dim → Dim) (ok : ℕ → Dim → Type 0) where
  mutual
    unfolding Each Each_all replaced all_replaced

    pub each_back : (t : Size) (j : ℕ) → Each ok j (replaced g j t) → Each (λ i d. ok i (g i d)) j t
    each_back (Hole v) j h = tt
    each_back (Open n v u) j h = tt
    each_back (Level d t) j h = (h.0, each_back t j h.1)
    each_back (Built k ts) j h = all_each_back ts j h
    each_back (Fun k p r) j h = (each_back p (suc j) h.0, each_back r (suc j) h.1)

    all_each_back : (ts : Sizes) (j : ℕ) → Each_all ok j (all_replaced g j ts) → Each_all (λ i d. ok i (g i d)) j ts
    all_each_back no_size j h = tt
    all_each_back (size_and t ts) j h = (each_back t j h.0, all_each_back ts j h.1)

-- ---- what replaces no dim, and what is put back

module _ (g : ℕ → Dim → Dim) where
  mutual
    unfolding Each Each_all replaced all_replaced

    pub not_replaced : (t : Size) (j : ℕ) → Each (λ i d. g i d ≡ d) j t → replaced g j t ≡ t
    not_replaced (Hole v) j h = refl
    not_replaced (Open n v u) j h = refl
    not_replaced (Level d t) j h = ap (λ e. Level e (replaced g j t)) h.0 ∙ ap (Level d) (not_replaced t j h.1)
    not_replaced (Built k ts) j h = ap (Built k) (none_replaced ts j h)
    not_replaced (Fun k p r) j h = ap (λ x. Fun k x (replaced g (suc j) r)) (not_replaced p (suc j) h.0) ∙ ap (Fun k p) (not_replaced r (suc j) h.1)

    none_replaced : (ts : Sizes) (j : ℕ) → Each_all (λ i d. g i d ≡ d) j ts → all_replaced g j ts ≡ ts
    none_replaced no_size j h = refl
    none_replaced (size_and t ts) j h = ap (λ x. size_and x (all_replaced g j ts)) (not_replaced t j h.0) ∙ ap (size_and t) (none_replaced ts j h.1)

  module _ (f : ℕ → Dim → Dim) where
    mutual
      unfolding Each Each_all replaced all_replaced

      -- inside one function type more
      pub put_back : (t : Size) (j : ℕ) → Each (λ i d. f (suc i) (g i d) ≡ d) j t → replaced f (suc j) (replaced g j t) ≡ t
      put_back (Hole v) j h = refl
      put_back (Open n v u) j h = refl
      put_back (Level d t) j h = ap (λ e. Level e (replaced f (suc j) (replaced g j t))) h.0 ∙ ap (Level d) (put_back t j h.1)
      put_back (Built k ts) j h = ap (Built k) (all_put_back ts j h)
      put_back (Fun k p r) j h = ap (λ x. Fun k x (replaced f (suc (suc j)) (replaced g (suc j) r))) (put_back p (suc j) h.0) ∙ ap (Fun k p) (put_back r (suc j) h.1)

      all_put_back : (ts : Sizes) (j : ℕ) → Each_all (λ i d. f (suc i) (g i d) ≡ d) j ts → all_replaced f (suc j) (all_replaced g j ts) ≡ ts
      all_put_back no_size j h = refl
      all_put_back (size_and t ts) j h = ap (λ x. size_and x (all_replaced f (suc j) (all_replaced g j ts))) (put_back t j h.0) ∙ ap (size_and t) (all_put_back ts j h.1)

  module _ (ok ok' : ℕ → Dim → Type 0) (inside : ℕ → ℕ) (deeper : (j : ℕ) → inside (suc j) ≡ suc (inside j)) (turns : (j : ℕ) (d : Dim) → ok j d → ok' (inside j) (g j d)) where
    mutual
      unfolding Each Each_all replaced all_replaced

      pub each_replaced : (t : Size) (j : ℕ) → Each ok j t → Each ok' (inside j) (replaced g j t)
      each_replaced (Hole v) j h = tt
      each_replaced (Open n v u) j h = tt
      each_replaced (Level d t) j h = (turns j d h.0, each_replaced t j h.1)
      each_replaced (Built k ts) j h = all_each_replaced ts j h
      each_replaced (Fun k p r) j h = (subst (λ i. Each ok' i (replaced g (suc j) p)) (deeper j) (each_replaced p (suc j) h.0), subst (λ i. Each ok' i (replaced g (suc j) r)) (deeper j) (each_replaced r (suc j) h.1))

      all_each_replaced : (ts : Sizes) (j : ℕ) → Each_all ok j ts → Each_all ok' (inside j) (all_replaced g j ts)
      all_each_replaced no_size j h = tt
      all_each_replaced (size_and t ts) j h = (each_replaced t j h.0, all_each_replaced ts j h.1)

  mutual
    unfolding erased all_erased replaced all_replaced

    pub erased_replaced : (t : Size) (j : ℕ) → erased (replaced g j t) ≡ erased t
    erased_replaced (Hole v) j = refl
    erased_replaced (Open n v u) j = refl
    erased_replaced (Level d t) j = ap (λ u. Made head.Array (more u none)) (erased_replaced t j)
    erased_replaced (Built k ts) j = ap (Made k) (all_erased_replaced ts j)
    erased_replaced (Fun k p r) j = ap (λ u. fun_ty u (erased (replaced g (suc j) r))) (erased_replaced p (suc j)) ∙ ap (fun_ty (erased p)) (erased_replaced r (suc j))

    all_erased_replaced : (ts : Sizes) (j : ℕ) → all_erased (all_replaced g j ts) ≡ all_erased ts
    all_erased_replaced no_size j = refl
    all_erased_replaced (size_and t ts) j = ap (λ u. more u (all_erased (all_replaced g j ts))) (erased_replaced t j) ∙ ap (more (erased t)) (all_erased_replaced ts j)

  module _ (ok : Variable → Type 0) where
    mutual
      unfolding Each_hole Each_holes replaced all_replaced

      pub hole_replaced : (t : Size) (j : ℕ) → Each_hole ok t → Each_hole ok (replaced g j t)
      hole_replaced (Hole v) j h = h
      hole_replaced (Open n v u) j h = h
      hole_replaced (Level d t) j h = hole_replaced t j h
      hole_replaced (Built k ts) j h = holes_replaced ts j h
      hole_replaced (Fun k p r) j h = (hole_replaced p (suc j) h.0, hole_replaced r (suc j) h.1)

      holes_replaced : (ts : Sizes) (j : ℕ) → Each_holes ok ts → Each_holes ok (all_replaced g j ts)
      holes_replaced no_size j h = tt
      holes_replaced (size_and t ts) j h = (hole_replaced t j h.0, holes_replaced ts j h.1)

module _ (ok ok' : Variable → Type 0) (as_well : (v : Variable) → ok v → ok' v) where
  mutual
    unfolding Each_hole Each_holes

    pub hole_as : (t : Size) → Each_hole ok t → Each_hole ok' t
    hole_as (Hole v) h = as_well v h
    hole_as (Open n v u) h = h
    hole_as (Level d t) h = hole_as t h
    hole_as (Built k ts) h = holes_as ts h
    hole_as (Fun k p r) h = (hole_as p h.0, hole_as r h.1)

    pub holes_as : (ts : Sizes) → Each_holes ok ts → Each_holes ok' ts
    holes_as no_size h = tt
    holes_as (size_and t ts) h = (hole_as t h.0, holes_as ts h.1)

-- ---- sizes by themselves, none of which is renamed

module _ (ρ : Free → Free) (same : (d : Free) → ρ d ≡ d) where
  mutual
    unfolding Each Each_all

    each_same : (t : Size) (j : ℕ) → Each (λ i d. renaming ρ i d ≡ d) j t
    each_same (Hole v) j = tt
    each_same (Open n v u) j = tt
    each_same (Level (At d) t) j = (ap At (same d), each_same t j)
    each_same (Level (Bound k i) t) j = (refl, each_same t j)
    each_same (Built k ts) j = all_same ts j
    each_same (Fun k p r) j = (each_same p (suc j), each_same r (suc j))

    all_same : (ts : Sizes) (j : ℕ) → Each_all (λ i d. renaming ρ i d ≡ d) j ts
    all_same no_size j = tt
    all_same (size_and t ts) j = (each_same t j, all_same ts j)

  pub not_renamed : (t : Size) → renamed ρ t ≡ t
  not_renamed t = not_replaced (renaming ρ) t 0 (each_same t 0)

-- ---- two ways to rename that are one for these sizes

module _ (ρ σ : Free → Free) (P : Free → Type 0) (same : (d : Free) → P d → ρ d ≡ σ d) where
  mutual
    unfolding Each Each_all replaced all_replaced

    renamed_there : (t : Size) (j : ℕ) → Each (Scoped P) j t → replaced (renaming ρ) j t ≡ replaced (renaming σ) j t
    renamed_there (Hole v) j h = refl
    renamed_there (Open n v u) j h = refl
    renamed_there (Level (At d) t) j h = ap (λ x. Level (At x) (replaced (renaming ρ) j t)) (same d h.0) ∙ ap (Level (At (σ d))) (renamed_there t j h.1)
    renamed_there (Level (Bound k i) t) j h = ap (Level (Bound k i)) (renamed_there t j h.1)
    renamed_there (Built k ts) j h = ap (Built k) (all_renamed_there ts j h)
    renamed_there (Fun k p r) j h = ap (λ x. Fun k x (replaced (renaming ρ) (suc j) r)) (renamed_there p (suc j) h.0) ∙ ap (Fun k (replaced (renaming σ) (suc j) p)) (renamed_there r (suc j) h.1)

    all_renamed_there : (ts : Sizes) (j : ℕ) → Each_all (Scoped P) j ts → all_replaced (renaming ρ) j ts ≡ all_replaced (renaming σ) j ts
    all_renamed_there no_size j h = refl
    all_renamed_there (size_and t ts) j h = ap (λ x. size_and x (all_replaced (renaming ρ) j ts)) (renamed_there t j h.0) ∙ ap (size_and (replaced (renaming σ) j t)) (all_renamed_there ts j h.1)

  pub renamed_as : (t : Size) → Each (Scoped P) 0 t → renamed ρ t ≡ renamed σ t
  renamed_as t h = renamed_there t 0 h
