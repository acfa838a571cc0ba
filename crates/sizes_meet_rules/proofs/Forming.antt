-- The form of sized types: what is kept under replacing, and where branches meet.
use Rattle.std.proofs.Common.{◌≡◌, ℕ, suc, ◌+◌, ◌<◌, ◌≤◌, Bool, true, false, cond, Option, Some, None, refl, sym, ap, ◌∙◌, arith}
use Rattle.std.specs.Prelude.{min}
use Rattle.fut_scalar.specs.declared.scalar.ScalarType.TheVariants as sort
use Rattle.fut_scalar.specs.declared.scalar.IntType.TheVariants as int
use Rattle.fut_typing.specs.Primitives.{i64_ty}
use Rattle.fut_sizes.specs.Scopes.{i64_size}
use Rattle.fut_types.specs.declared.Head.{Head}
use Rattle.fut_types.specs.declared.Head.TheVariants as head
use Rattle.fut_types.specs.Types.{Ty, Var, Made, none, more, Kinds, rank, least, cap}
use Rattle.sized_types.specs.Sizes.{Free, Unknown, Dim, At, Bound, Variable, Inferred, Written, Size, Hole, Open, Level, Built, Fun, Sizes, no_size, size_and, erased, all_erased, is_dim, replaced, all_replaced, renaming, placed, binding, levels}
use Rattle.fut_sizes.specs.Agreeing.{kept, all_kept}
use Rattle.fut_sizes.specs.Rules.{Each_hole, Each_holes}
use Rattle.fut_sizes.specs.Scoping.{is_number}
use Rattle.fut_sizes.specs.Suiting.{Each, Each_all, Scoped, Of_positions, Data, All_data}
use Rattle.sizes_meet_rules.specs.Known.{head_i64, is_i64_size, Formed, All_formed}

-- sizes by themselves are renamed, or bound in a frame further out
pub renaming_keeps : (ρ : Free → Free) (Q : ℕ → Type 0) (m j : ℕ) (d : Dim) → m ≤ j → Of_positions Q m d → Of_positions Q m (renaming ρ j d)
renaming_keeps ρ Q m j (At x) l h = tt
renaming_keeps ρ Q m j (Bound k i) l h = h

pub binding_keeps : (position : Free → Option ℕ) (Q : ℕ → Type 0) (m j : ℕ) (d : Dim) → m ≤ j → Of_positions Q m d → Of_positions Q m (binding position j d)
binding_keeps position Q m j (At x) l h = one (position x)
  where
    one : (o : Option ℕ) → Of_positions Q m (placed j x o)
    one None = tt
    one (Some i) = λ e. absurd (omega (arith, e, l))
binding_keeps position Q m j (Bound k i) l h = h

-- and back: no position of the frame goes away
pub renaming_back : (ρ : Free → Free) (Q : ℕ → Type 0) (m j : ℕ) (d : Dim) → m ≤ j → Of_positions Q m (renaming ρ j d) → Of_positions Q m d
renaming_back ρ Q m j (At x) l h = tt
renaming_back ρ Q m j (Bound k i) l h = h

pub binding_back : (position : Free → Option ℕ) (Q : ℕ → Type 0) (m j : ℕ) (d : Dim) → m ≤ j → Of_positions Q m (binding position j d) → Of_positions Q m d
binding_back position Q m j (At x) l h = tt
binding_back position Q m j (Bound k i) l h = h

-- a type that is i64
abbrev pub is_i64_ty : Ty → Bool
is_i64_ty (Made h none) = head_i64 h
is_i64_ty t = false

head_is : (h : Head) → head_i64 h ≡ true → h ≡ head.Scalar (sort.Int int.I64)
head_is (head.Scalar (sort.Int int.I64)) e = refl
head_is (head.Scalar (sort.Int int.I8)) e = let z : false ≡ true = e in cc
head_is (head.Scalar (sort.Int int.I16)) e = let z : false ≡ true = e in cc
head_is (head.Scalar (sort.Int int.I32)) e = let z : false ≡ true = e in cc
head_is (head.Scalar (sort.Int int.U8)) e = let z : false ≡ true = e in cc
head_is (head.Scalar (sort.Int int.U16)) e = let z : false ≡ true = e in cc
head_is (head.Scalar (sort.Int int.U32)) e = let z : false ≡ true = e in cc
head_is (head.Scalar (sort.Int int.U64)) e = let z : false ≡ true = e in cc
head_is (head.Scalar sort.Bool) e = let z : false ≡ true = e in cc
head_is head.Array e = let z : false ≡ true = e in cc
head_is head.Tuple e = let z : false ≡ true = e in cc
head_is (head.Record n) e = let z : false ≡ true = e in cc
head_is head.Fun e = let z : false ≡ true = e in cc
head_is (head.Rigid n k) e = let z : false ≡ true = e in cc
head_is (head.Abstract n d) e = let z : false ≡ true = e in cc

pub i64_ty_is : (t : Ty) → is_i64_ty t ≡ true → t ≡ i64_ty
i64_ty_is (Made h none) e = ap (λ g. Made g none) (head_is h e)
i64_ty_is (Made h (more t ts)) e = let z : false ≡ true = e in cc
i64_ty_is (Var v) e = let z : false ≡ true = e in cc

pub i64_is : (t : Size) → is_i64_size t ≡ true → t ≡ i64_size
i64_is (Built h no_size) e = ap (λ g. Built g no_size) (head_is h e)
i64_is (Built h (size_and t ts)) e = let z : false ≡ true = e in cc
i64_is (Hole v) e = let z : false ≡ true = e in cc
i64_is (Open n v u) e = let z : false ≡ true = e in cc
i64_is (Level d t) e = let z : false ≡ true = e in cc
i64_is (Fun k p r) e = let z : false ≡ true = e in cc

-- it is a whole number
pub i64_number : (t : Size) → is_i64_size t ≡ true → is_number t ≡ true
i64_number t e = ap is_number (i64_is t e)

pub number_typed : (t : Size) → Formed t → is_i64_size t ≡ is_i64_ty (erased t)
unfolding Formed erased all_erased
number_typed (Hole (Inferred v)) f = refl
number_typed (Hole (Written b k)) f = refl
number_typed (Open n v u) f = absurd f
number_typed (Level d t) f = refl
number_typed (Built h no_size) f = refl
number_typed (Built h (size_and t ts)) f = refl
number_typed (Fun k p r) f = refl

pub number_replaced : (g : ℕ → Dim → Dim) (t : Size) (j : ℕ) → is_i64_size (replaced g j t) ≡ is_i64_size t
unfolding replaced all_replaced
number_replaced g (Hole v) j = refl
number_replaced g (Open n v u) j = refl
number_replaced g (Level d t) j = refl
number_replaced g (Built h no_size) j = refl
number_replaced g (Built h (size_and t ts)) j = refl
number_replaced g (Fun k p r) j = refl

module _ (g : ℕ → Dim → Dim) (keeps : (Q : ℕ → Type 0) (m j : ℕ) (d : Dim) → m ≤ j → Of_positions Q m d → Of_positions Q m (g j d)) where
  mutual
    unfolding Each Each_all replaced all_replaced

    low_replaced : (Q : ℕ → Type 0) (t : Size) (m j : ℕ) → m ≤ j → Each (Of_positions Q) m t → Each (Of_positions Q) m (replaced g j t)
    low_replaced Q (Hole v) m j l h = tt
    low_replaced Q (Open n v u) m j l h = tt
    low_replaced Q (Level d t) m j l h = (keeps Q m j d l h.0, low_replaced Q t m j l h.1)
    low_replaced Q (Built k ts) m j l h = all_low_replaced Q ts m j l h
    low_replaced Q (Fun k p r) m j l h = (low_replaced Q p (suc m) (suc j) (omega (arith, l)) h.0, low_replaced Q r (suc m) (suc j) (omega (arith, l)) h.1)

    all_low_replaced : (Q : ℕ → Type 0) (ts : Sizes) (m j : ℕ) → m ≤ j → Each_all (Of_positions Q) m ts → Each_all (Of_positions Q) m (all_replaced g j ts)
    all_low_replaced Q no_size m j l h = tt
    all_low_replaced Q (size_and t ts) m j l h = (low_replaced Q t m j l h.0, all_low_replaced Q ts m j l h.1)

module _ (g : ℕ → Dim → Dim) (keeps : (Q : ℕ → Type 0) (m j : ℕ) (d : Dim) → m ≤ j → Of_positions Q m d → Of_positions Q m (g j d)) (back : (Q : ℕ → Type 0) (m j : ℕ) (d : Dim) → m ≤ j → Of_positions Q m (g j d) → Of_positions Q m d) where
  mutual
    unfolding Each Each_all replaced all_replaced

    low_before : (Q : ℕ → Type 0) (t : Size) (m j : ℕ) → m ≤ j → Each (Of_positions Q) m (replaced g j t) → Each (Of_positions Q) m t
    low_before Q (Hole v) m j l h = tt
    low_before Q (Open n v u) m j l h = tt
    low_before Q (Level d t) m j l h = (back Q m j d l h.0, low_before Q t m j l h.1)
    low_before Q (Built k ts) m j l h = all_low_before Q ts m j l h
    low_before Q (Fun k p r) m j l h = (low_before Q p (suc m) (suc j) (omega (arith, l)) h.0, low_before Q r (suc m) (suc j) (omega (arith, l)) h.1)

    all_low_before : (Q : ℕ → Type 0) (ts : Sizes) (m j : ℕ) → m ≤ j → Each_all (Of_positions Q) m (all_replaced g j ts) → Each_all (Of_positions Q) m ts
    all_low_before Q no_size m j l h = tt
    all_low_before Q (size_and t ts) m j l h = (low_before Q t m j l h.0, all_low_before Q ts m j l h.1)

  mutual
    unfolding Formed All_formed replaced all_replaced

    pub formed_replaced : (t : Size) (j : ℕ) → Formed t → Formed (replaced g j t)
    formed_replaced (Hole v) j h = h
    formed_replaced (Open n v u) j h = h
    formed_replaced (Level d t) j h = formed_replaced t j h
    formed_replaced (Built k ts) j h = (h.0, all_formed_replaced ts j h.1)
    formed_replaced (Fun k p r) j h = (formed_replaced p (suc j) h.0, formed_replaced r (suc j) h.1, low_replaced g keeps (λ i. i < k) p 1 (suc j) (omega arith) h.2, (λ e. low_replaced g keeps (λ i. i ≡ k → ⊥) r 1 (suc j) (omega arith) (h.3 (sym (number_replaced g p (suc j)) ∙ e))), (λ i l e. h.4 i l (low_before (λ m. m ≡ i → ⊥) p 1 (suc j) (omega arith) e)))

    all_formed_replaced : (ts : Sizes) (j : ℕ) → All_formed ts → All_formed (all_replaced g j ts)
    all_formed_replaced no_size j h = tt
    all_formed_replaced (size_and t ts) j h = (formed_replaced t j h.0, all_formed_replaced ts j h.1)

-- a type that places may hold has no function
module _ (K : Kinds) where
  mutual
    unfolding Formed All_formed Data All_data erased all_erased rank least

    pub data_of : (t : Size) → Formed t → 1 ≤ rank K (erased t) → Data t
    data_of (Hole v) f h = tt
    data_of (Open n v u) f h = absurd f
    data_of (Level d t) f h = let z : 1 ≤ min 1 (min (rank K (erased t)) 4) = h in data_of t f (omega (arith, z))
    data_of (Built k ts) f h = let z : 1 ≤ min (cap k) (least K (all_erased ts)) = h in all_data_of ts f.1 (omega (arith, z))
    data_of (Fun k p r) f h = absurd (let z : 1 ≤ min 0 (min (rank K (erased p)) (min (rank K (erased r)) 4)) = h in omega (arith, z))

    all_data_of : (ts : Sizes) → All_formed ts → 1 ≤ least K (all_erased ts) → All_data ts
    all_data_of no_size f h = tt
    all_data_of (size_and t ts) f h = let z : 1 ≤ min (rank K (erased t)) (least K (all_erased ts)) = h in (data_of t f.0 (omega (arith, z)), all_data_of ts f.1 (omega (arith, z)))

-- ---- branches

module _ (n : ℕ) where
  mutual
    unfolding kept all_kept erased all_erased

    pub erased_kept : (t u : Size) (i : ℕ) → erased (kept n i t u) ≡ erased t
    erased_kept (Level d t) (Level e u) i = ap (λ x. Made head.Array (more x none)) (erased_kept t u (suc i))
    erased_kept (Built h ts) (Built g us) i = ap (Made h) (all_erased_kept ts us i)
    erased_kept t u i = refl

    all_erased_kept : (ts us : Sizes) (i : ℕ) → all_erased (all_kept n i ts us) ≡ all_erased ts
    all_erased_kept (size_and t ts) (size_and u us) i = ap (λ x. more x (all_erased (all_kept n (levels t + i) ts us))) (erased_kept t u i) ∙ ap (more (erased t)) (all_erased_kept ts us (levels t + i))
    all_erased_kept ts us i = refl

  mutual
    unfolding kept all_kept Formed All_formed

    pub formed_kept : (t u : Size) (i : ℕ) → Formed t → Formed (kept n i t u)
    formed_kept (Level d t) (Level e u) i h = formed_kept t u (suc i) h
    formed_kept (Built k ts) (Built g us) i h = (h.0, all_formed_kept ts us i h.1)
    formed_kept t u i h = h

    all_formed_kept : (ts us : Sizes) (i : ℕ) → All_formed ts → All_formed (all_kept n i ts us)
    all_formed_kept (size_and t ts) (size_and u us) i h = (formed_kept t u i h.0, all_formed_kept ts us (levels t + i) h.1)
    all_formed_kept ts us i h = h

  mutual
    unfolding kept all_kept Each_hole Each_holes

    pub variables_kept : (ok : Variable → Type 0) (t u : Size) (i : ℕ) → Each_hole ok t → Each_hole ok (kept n i t u)
    variables_kept ok (Level d t) (Level e u) i h = variables_kept ok t u (suc i) h
    variables_kept ok (Built k ts) (Built g us) i h = all_variables_kept ok ts us i h
    variables_kept ok t u i h = h

    all_variables_kept : (ok : Variable → Type 0) (ts us : Sizes) (i : ℕ) → Each_holes ok ts → Each_holes ok (all_kept n i ts us)
    all_variables_kept ok (size_and t ts) (size_and u us) i h = (variables_kept ok t u i h.0, all_variables_kept ok ts us (levels t + i) h.1)
    all_variables_kept ok ts us i h = h

  module _ (In : Free → Type 0) (met : (i : ℕ) → In (Unknown n i)) where
    dim_kept : (j i : ℕ) (d e : Dim) (b : Bool) → Scoped In j d → Scoped In j (cond b d (At (Unknown n i)))
    dim_kept j i d e true h = h
    dim_kept j i d e false h = met i

    mutual
      unfolding kept all_kept Each Each_all

      pub sizes_kept : (t u : Size) (j i : ℕ) → Each (Scoped In) j t → Each (Scoped In) j (kept n i t u)
      sizes_kept (Level d t) (Level e u) j i h = (dim_kept j i d e (is_dim d e) h.0, sizes_kept t u j (suc i) h.1)
      sizes_kept (Built k ts) (Built g us) j i h = all_sizes_kept ts us j i h
      sizes_kept t u j i h = h

      all_sizes_kept : (ts us : Sizes) (j i : ℕ) → Each_all (Scoped In) j ts → Each_all (Scoped In) j (all_kept n i ts us)
      all_sizes_kept (size_and t ts) (size_and u us) j i h = (sizes_kept t u j i h.0, all_sizes_kept ts us j (levels t + i) h.1)
      all_sizes_kept ts us j i h = h
