-- What is told of sized types, agreement, and what branches keep: none of it asks for the numbers of records.
use Rattle.std.proofs.Common.{◌≡◌, ℕ, suc, ◌+◌, Bool, true, cond, refl, ap, ◌∙◌}
use Rattle.fut_types.specs.declared.Head.TheVariants as head
use Rattle.fut_types.specs.Types.{Ty, Var, Made, Tys, none, more}
use Rattle.sized_types.specs.Sizes.{Dim, Size, Hole, Open, Level, Built, Fun, Sizes, no_size, size_and, levels, all_levels, replaced, all_replaced, has, some_has, takes, some_takes}
use Rattle.fut_sizes.specs.Levels.{levels_within, all_levels_within}
use Rattle.fut_sizes.specs.Agreeing.{then_do, compare, agree, all_agree, kept_dim, kept, all_kept, element_of, in_frame, type_levels, all_type_levels, of_type, of_types}
use Rattle.sizing_laws.specs.Renumbering.{renumbered_head, renumbered_type, renumbered_types, renumbered, all_renumbered}

module _ (number : ℕ → ℕ) where
  abbrev to : Size → Size
  to = renumbered number

  abbrev tos : Sizes → Sizes
  tos = all_renumbered number

  abbrev to_type : Ty → Ty
  to_type = renumbered_type number

  abbrev to_types : Tys → Tys
  to_types = renumbered_types number

  -- ---- levels

  mutual
    unfolding levels

    pub levels_same : (t : Size) → levels (to t) ≡ levels t
    levels_same (Hole v) = refl
    levels_same (Open n v u) = refl
    levels_same (Level d t) = ap (λ k. 1 + k) (levels_same t)
    levels_same (Built h ts) = all_levels_same ts
    levels_same (Fun k p r) = refl

    pub all_levels_same : (ts : Sizes) → all_levels (tos ts) ≡ all_levels ts
    all_levels_same no_size = refl
    all_levels_same (size_and t ts) = λ i. levels_same t i + all_levels_same ts i

  mutual
    unfolding levels_within

    pub levels_within_same : (t : Size) → levels_within (to t) ≡ levels_within t
    levels_within_same (Hole v) = refl
    levels_within_same (Open n v u) = refl
    levels_within_same (Level d t) = ap (λ k. 1 + k) (levels_within_same t)
    levels_within_same (Built h ts) = all_levels_within_same ts
    levels_within_same (Fun k p r) = λ i. levels_within_same p i + levels_within_same r i

    all_levels_within_same : (ts : Sizes) → all_levels_within (tos ts) ≡ all_levels_within ts
    all_levels_within_same no_size = refl
    all_levels_within_same (size_and t ts) = λ i. levels_within_same t i + all_levels_within_same ts i

  -- ---- sizes replaced and found

  mutual
    unfolding replaced

    pub replaced_to : (g : ℕ → Dim → Dim) (j : ℕ) (t : Size) → replaced g j (to t) ≡ to (replaced g j t)
    replaced_to g j (Hole v) = refl
    replaced_to g j (Open n v u) = refl
    replaced_to g j (Level d t) = ap (Level (g j d)) (replaced_to g j t)
    replaced_to g j (Built h ts) = ap (Built (renumbered_head number h)) (all_replaced_to g j ts)
    replaced_to g j (Fun k p r) = λ i. Fun k (replaced_to g (suc j) p i) (replaced_to g (suc j) r i)

    all_replaced_to : (g : ℕ → Dim → Dim) (j : ℕ) (ts : Sizes) → all_replaced g j (tos ts) ≡ tos (all_replaced g j ts)
    all_replaced_to g j no_size = refl
    all_replaced_to g j (size_and t ts) = λ i. size_and (replaced_to g j t i) (all_replaced_to g j ts i)

  mutual
    unfolding has

    pub has_same : (q : Dim → Bool) (t : Size) → has q (to t) ≡ has q t
    has_same q (Hole v) = refl
    has_same q (Open n v u) = refl
    has_same q (Level d t) = ap (cond (q d) true) (has_same q t)
    has_same q (Built h ts) = some_has_same q ts
    has_same q (Fun k p r) = λ i. cond (has_same q p i) true (has_same q r i)

    some_has_same : (q : Dim → Bool) (ts : Sizes) → some_has q (tos ts) ≡ some_has q ts
    some_has_same q no_size = refl
    some_has_same q (size_and t ts) = λ i. cond (has_same q t i) true (some_has_same q ts i)

  mutual
    unfolding takes has

    pub takes_same : (q : Dim → Bool) (t : Size) → takes q (to t) ≡ takes q t
    takes_same q (Hole v) = refl
    takes_same q (Open n v u) = refl
    takes_same q (Level d t) = takes_same q t
    takes_same q (Built h ts) = some_takes_same q ts
    takes_same q (Fun k p r) = λ i. cond (has_same q p i) true (takes_same q r i)

    some_takes_same : (q : Dim → Bool) (ts : Sizes) → some_takes q (tos ts) ≡ some_takes q ts
    some_takes_same q no_size = refl
    some_takes_same q (size_and t ts) = λ i. cond (takes_same q t i) true (some_takes_same q ts i)

  -- ---- agreement

  mutual
    unfolding agree

    pub agree_same : (at : ℕ) (t u : Size) → agree at (to t) (to u) ≡ agree at t u
    agree_same at (Level d t) (Level e u) = λ i. then_do (compare at d e) (λ z. agree_same at t u i)
    agree_same at (Built h ts) (Built g us) = all_agree_same at ts us
    agree_same at (Fun k p r) (Fun l q s) = λ i. then_do (agree_same at p q i) (λ z. agree_same at r s i)
    agree_same at (Hole v) (Hole w) = refl
    agree_same at (Hole v) (Open m w y) = refl
    agree_same at (Hole v) (Level e u) = refl
    agree_same at (Hole v) (Built g us) = refl
    agree_same at (Hole v) (Fun l q s) = refl
    agree_same at (Open n v x) (Hole w) = refl
    agree_same at (Open n v x) (Open m w y) = refl
    agree_same at (Open n v x) (Level e u) = refl
    agree_same at (Open n v x) (Built g us) = refl
    agree_same at (Open n v x) (Fun l q s) = refl
    agree_same at (Level d t) (Hole w) = refl
    agree_same at (Level d t) (Open m w y) = refl
    agree_same at (Level d t) (Built g us) = refl
    agree_same at (Level d t) (Fun l q s) = refl
    agree_same at (Built h ts) (Hole w) = refl
    agree_same at (Built h ts) (Open m w y) = refl
    agree_same at (Built h ts) (Level e u) = refl
    agree_same at (Built h ts) (Fun l q s) = refl
    agree_same at (Fun k p r) (Hole w) = refl
    agree_same at (Fun k p r) (Open m w y) = refl
    agree_same at (Fun k p r) (Level e u) = refl
    agree_same at (Fun k p r) (Built g us) = refl

    all_agree_same : (at : ℕ) (ts us : Sizes) → all_agree at (tos ts) (tos us) ≡ all_agree at ts us
    all_agree_same at (size_and t ts) (size_and u us) = λ i. then_do (agree_same at t u i) (λ z. all_agree_same at ts us i)
    all_agree_same at (size_and t ts) no_size = refl
    all_agree_same at no_size (size_and u us) = refl
    all_agree_same at no_size no_size = refl

  mutual
    unfolding kept

    pub kept_to : (n i : ℕ) (t u : Size) → kept n i (to t) (to u) ≡ to (kept n i t u)
    kept_to n i (Level d t) (Level e u) = ap (Level (kept_dim n i d e)) (kept_to n (suc i) t u)
    kept_to n i (Built h ts) (Built g us) = ap (Built (renumbered_head number h)) (all_kept_to n i ts us)
    kept_to n i (Hole v) (Hole w) = refl
    kept_to n i (Hole v) (Open k w y) = refl
    kept_to n i (Hole v) (Level e u) = refl
    kept_to n i (Hole v) (Built g us) = refl
    kept_to n i (Hole v) (Fun l q s) = refl
    kept_to n i (Open m v x) (Hole w) = refl
    kept_to n i (Open m v x) (Open k w y) = refl
    kept_to n i (Open m v x) (Level e u) = refl
    kept_to n i (Open m v x) (Built g us) = refl
    kept_to n i (Open m v x) (Fun l q s) = refl
    kept_to n i (Level d t) (Hole w) = refl
    kept_to n i (Level d t) (Open k w y) = refl
    kept_to n i (Level d t) (Built g us) = refl
    kept_to n i (Level d t) (Fun l q s) = refl
    kept_to n i (Built h ts) (Hole w) = refl
    kept_to n i (Built h ts) (Open k w y) = refl
    kept_to n i (Built h ts) (Level e u) = refl
    kept_to n i (Built h ts) (Fun l q s) = refl
    kept_to n i (Fun k p r) (Hole w) = refl
    kept_to n i (Fun k p r) (Open m w y) = refl
    kept_to n i (Fun k p r) (Level e u) = refl
    kept_to n i (Fun k p r) (Built g us) = refl
    kept_to n i (Fun k p r) (Fun l q s) = refl

    all_kept_to : (n i : ℕ) (ts us : Sizes) → all_kept n i (tos ts) (tos us) ≡ tos (all_kept n i ts us)
    all_kept_to n i (size_and t ts) (size_and u us) = λ j. size_and (kept_to n i t u j) (((λ k. all_kept n (levels_same t k + i) (tos ts) (tos us)) ∙ all_kept_to n (levels t + i) ts us) j)
    all_kept_to n i (size_and t ts) no_size = refl
    all_kept_to n i no_size (size_and u us) = refl
    all_kept_to n i no_size no_size = refl

  -- ---- the sized type of a type

  mutual
    unfolding type_levels

    pub type_levels_same : (t : Ty) → type_levels (to_type t) ≡ type_levels t
    type_levels_same (Var v) = refl
    type_levels_same (Made head.Array ts) = ap suc (all_type_levels_same ts)
    type_levels_same (Made head.Fun ts) = refl
    type_levels_same (Made (head.Record r) ts) = all_type_levels_same ts
    type_levels_same (Made (head.Scalar s) ts) = all_type_levels_same ts
    type_levels_same (Made head.Tuple ts) = all_type_levels_same ts
    type_levels_same (Made (head.Rigid n k) ts) = all_type_levels_same ts
    type_levels_same (Made (head.Abstract n d) ts) = all_type_levels_same ts

    pub all_type_levels_same : (ts : Tys) → all_type_levels (to_types ts) ≡ all_type_levels ts
    all_type_levels_same none = refl
    all_type_levels_same (more t ts) = λ i. type_levels_same t i + all_type_levels_same ts i

  element_to : (ts : Sizes) → element_of (tos ts) ≡ to (element_of ts)
  element_to no_size = refl
  element_to (size_and t ts) = refl

  mutual
    unfolding of_type

    pub of_type_to : (dims : ℕ → Dim) (i : ℕ) (t : Ty) → of_type dims i (to_type t) ≡ to (of_type dims i t)
    of_type_to dims i (Var v) = refl
    of_type_to dims i (Made head.Array ts) = ap (Level (dims i)) (ap element_of (of_types_to dims (suc i) ts) ∙ element_to (of_types dims (suc i) ts))
    of_type_to dims i (Made head.Fun (more p (more r none))) = λ j. Fun (type_levels_same p j) (of_type_to (in_frame 0) 0 p j)
        (((λ k. of_type (in_frame (suc (type_levels_same p k))) 0 (to_type r)) ∙ of_type_to (in_frame (suc (type_levels p))) 0 r) j)
    of_type_to dims i (Made head.Fun none) = refl
    of_type_to dims i (Made head.Fun (more p none)) = ap (Built head.Fun) (of_types_to dims i (more p none))
    of_type_to dims i (Made head.Fun (more p (more r (more x ts)))) = ap (Built head.Fun) (of_types_to dims i (more p (more r (more x ts))))
    of_type_to dims i (Made (head.Record r) ts) = ap (Built (head.Record (number r))) (of_types_to dims i ts)
    of_type_to dims i (Made (head.Scalar s) ts) = ap (Built (head.Scalar s)) (of_types_to dims i ts)
    of_type_to dims i (Made head.Tuple ts) = ap (Built head.Tuple) (of_types_to dims i ts)
    of_type_to dims i (Made (head.Rigid n k) ts) = refl
    of_type_to dims i (Made (head.Abstract n d) ts) = ap (Built (head.Abstract n d)) (of_types_to dims i ts)

    of_types_to : (dims : ℕ → Dim) (i : ℕ) (ts : Tys) → of_types dims i (to_types ts) ≡ tos (of_types dims i ts)
    of_types_to dims i none = refl
    of_types_to dims i (more t ts) = λ j. size_and (of_type_to dims i t j) (((λ k. of_types dims (type_levels_same t k + i) (to_types ts)) ∙ of_types_to dims (type_levels t + i) ts) j)
