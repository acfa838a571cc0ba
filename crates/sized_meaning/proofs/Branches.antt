-- Where an if keeps the sizes that both of its branches have, the value of each is of its sized type: what it doesn't keep is met
-- at its node.
use Rattle.std.proofs.Common.{◌≡◌, ℕ, zero, suc, ◌+◌, List, [], ◌∷◌, ◌++◌, length, Bool, true, false, cond, refl, sym, ap, ◌∙◌, subst, arith}
use Rattle.fut_ast.specs.Sorts.{Text}
use Rattle.fut_types.specs.declared.Head.{Head}
use Rattle.fut_types.specs.declared.Head.TheVariants as head
use Rattle.fut_types.specs.Types.{Ty, Var, Made, Tys, none, more}
use Rattle.sized_types.specs.Sizes.{Free, Unknown, Dim, At, Bound, Variable, Inferred, Written, Size, Hole, Open, Level, Built, Fun, Sizes, no_size, size_and, erased, all_erased, is_dim, levels, all_levels}
use Rattle.fut_sizes.specs.Agreeing.{kept, all_kept, kept_dim}
use Rattle.fut_sizes.specs.Suiting.{Each, Each_all, Scoped, Data, All_data}
use Rattle.sized_meaning.specs.Worth.{Worth, no_frames, number}
use Rattle.sized_meaning.specs.Finding.{Parts_of, Well_formed, All_well_formed}
use Rattle.sized_meaning.proofs.Finding.{dim_same}
use Rattle.sized_meaning.proofs.Suiting.{at_node, node_here, free_is}
use Rattle.sized_meaning.proofs.Alike.{Alike, alike_hole, alike_level, alike_built, All_alike, alike_none, alike_more}

-- ---- the numbers of a sized type's levels, in order

unfoldable mutual
  level_numbers : Worth → Size → List ℕ
  level_numbers m (Hole v) = []
  level_numbers m (Open n v u) = []
  level_numbers m (Level d t) = number m no_frames d ∷ level_numbers m t
  level_numbers m (Built h ts) = all_level_numbers m ts
  level_numbers m (Fun k p r) = []

  all_level_numbers : Worth → Sizes → List ℕ
  all_level_numbers m no_size = []
  all_level_numbers m (size_and t ts) = level_numbers m t ++ all_level_numbers m ts

mutual
  unfolding level_numbers all_level_numbers levels all_levels

  as_many_numbers : (m : Worth) (t : Size) → length (level_numbers m t) ≡ levels t
  as_many_numbers m (Hole v) = refl
  as_many_numbers m (Open n v u) = refl
  as_many_numbers m (Level d t) = ap suc (as_many_numbers m t) ∙ omega arith
  as_many_numbers m (Built h ts) = all_as_many_numbers m ts
  as_many_numbers m (Fun k p r) = refl

  all_as_many_numbers : (m : Worth) (ts : Sizes) → length (all_level_numbers m ts) ≡ all_levels ts
  all_as_many_numbers m no_size = refl
  all_as_many_numbers m (size_and t ts) = long (level_numbers m t) (all_level_numbers m ts) ∙ ap (λ n. n + length (all_level_numbers m ts)) (as_many_numbers m t) ∙ ap (λ n. levels t + n) (all_as_many_numbers m ts)
    where
      long : (xs ys : List ℕ) → length (xs ++ ys) ≡ length xs + length ys
      long [] ys = omega arith
      long (x ∷ xs) ys = ap suc (long xs ys) ∙ omega arith

nth : List ℕ → ℕ → ℕ
nth [] k = 0
nth (x ∷ xs) zero = x
nth (x ∷ xs) (suc k) = nth xs k

nth_behind : (xs ys : List ℕ) (k : ℕ) → nth (xs ++ ys) (length xs + k) ≡ nth ys k
unfolding nth
nth_behind [] ys k = ap (nth ys) (let z : 0 + k ≡ k = omega arith in z)
nth_behind (x ∷ xs) ys k = ap (nth (x ∷ (xs ++ ys))) (let z : suc (length xs) + k ≡ suc (length xs + k) = omega arith in z) ∙ nth_behind xs ys k

joined : (xs ys zs : List ℕ) → (xs ++ ys) ++ zs ≡ xs ++ (ys ++ zs)
joined [] ys zs = refl
joined (x ∷ xs) ys zs = ap (λ l. x ∷ l) (joined xs ys zs)

-- F gives each level from number i on what it is worth
unfoldable mutual
  pub Numbered : (ℕ → ℕ) → Worth → ℕ → Size → Type 0
  Numbered F m i (Hole v) = Unit {0}
  Numbered F m i (Open n v u) = Unit {0}
  Numbered F m i (Level d t) = (F i ≡ number m no_frames d) × Numbered F m (suc i) t
  Numbered F m i (Built h ts) = All_numbered F m i ts
  Numbered F m i (Fun k p r) = Unit {0}

  pub All_numbered : (ℕ → ℕ) → Worth → ℕ → Sizes → Type 0
  All_numbered F m i no_size = Unit {0}
  All_numbered F m i (size_and t ts) = Numbered F m i t × All_numbered F m (levels t + i) ts

mutual
  unfolding Numbered All_numbered level_numbers all_level_numbers nth

  numbered : (F : ℕ → ℕ) (m : Worth) (i : ℕ) (t : Size) (rest : List ℕ) → ((k : ℕ) → F (k + i) ≡ nth (level_numbers m t ++ rest) k) → Numbered F m i t
  numbered F m i (Hole v) rest h = tt
  numbered F m i (Open n v u) rest h = tt
  numbered F m i (Level d t) rest h = (ap F (let z : i ≡ 0 + i = omega arith in z) ∙ h 0, numbered F m (suc i) t rest (λ k. ap F (let z : k + suc i ≡ suc k + i = omega arith in z) ∙ h (suc k)))
  numbered F m i (Built g ts) rest h = all_numbered F m i ts rest h
  numbered F m i (Fun k p r) rest h = tt

  all_numbered : (F : ℕ → ℕ) (m : Worth) (i : ℕ) (ts : Sizes) (rest : List ℕ) → ((k : ℕ) → F (k + i) ≡ nth (all_level_numbers m ts ++ rest) k) → All_numbered F m i ts
  all_numbered F m i no_size rest h = tt
  all_numbered F m i (size_and t ts) rest h =
      let there : (k : ℕ) → F (k + i) ≡ nth (level_numbers m t ++ (all_level_numbers m ts ++ rest)) k = λ k. h k ∙ ap (λ l. nth l k) (joined (level_numbers m t) (all_level_numbers m ts) rest) in (
        numbered F m i t (all_level_numbers m ts ++ rest) there,
        all_numbered F m (levels t + i) ts rest (λ k. ap F (let e = as_many_numbers m t in let z : k + (levels t + i) ≡ length (level_numbers m t) + k + i = omega (arith, e) in z) ∙ there (length (level_numbers m t) + k) ∙ nth_behind (level_numbers m t) (all_level_numbers m ts ++ rest) k),
      )

no_more : (xs : List ℕ) → xs ++ [] ≡ xs
no_more [] = refl
no_more (x ∷ xs) = ap (λ l. x ∷ l) (no_more xs)

-- the numbers of all levels of a type
pub all_of : Worth → Size → ℕ → ℕ
all_of m t k = nth (level_numbers m t) k

pub all_of_numbered : (m : Worth) (t : Size) → Numbered (all_of m t) m 0 t
unfolding all_of
all_of_numbered m t = numbered (all_of m t) m 0 t [] (λ k. ap (nth (level_numbers m t)) (let z : k + 0 ≡ k = omega arith in z) ∙ ap (λ l. nth l k) (sym (no_more (level_numbers m t))))

-- ---- sized types of one type have one form

mutual
  pub data Same_form : Size → Size → Type 0 where
    same_hole : {v : Variable} → Same_form (Hole v) (Hole v)
    same_level : {d e : Dim} {t u : Size} → Same_form t u → Same_form (Level d t) (Level e u)
    same_built : {h : Head} {ts us : Sizes} → All_same_form ts us → Same_form (Built h ts) (Built h us)

  pub data All_same_form : Sizes → Sizes → Type 0 where
    same_none : All_same_form no_size no_size
    same_more : {t u : Size} {ts us : Sizes} → Same_form t u → All_same_form ts us → All_same_form (size_and t ts) (size_and u us)

same_variable : (v w : Variable) → erased (Hole v) ≡ erased (Hole w) → Same_form (Hole v) (Hole w)
unfolding erased all_erased
same_variable (Inferred a) (Inferred b) e = let z : a ≡ b = (let y : ◌≡◌ {A = Ty} (Var a) (Var b) = e in cc) in subst (λ x. Same_form (Hole (Inferred a)) (Hole (Inferred x))) z same_hole
same_variable (Written b k) (Written c l) e =
    let y : ◌≡◌ {A = Ty} (Made (head.Rigid b k) none) (Made (head.Rigid c l) none) = e in
    let z : Written b k ≡ Written c l = (let p : b ≡ c = cc in let q : k ≡ l = cc in ap (λ x. Written x k) p ∙ ap (Written c) q) in
    subst (λ x. Same_form (Hole (Written b k)) (Hole x)) z same_hole
same_variable (Inferred a) (Written c l) e = absurd (let y : ◌≡◌ {A = Ty} (Var a) (Made (head.Rigid c l) none) = e in cc)
same_variable (Written b k) (Inferred a) e = absurd (let y : ◌≡◌ {A = Ty} (Made (head.Rigid b k) none) (Var a) = e in cc)

module _ (fields : ℕ → List Text) where
  no_variable : (v : Variable) (h : Head) (ts : Sizes) {X : Type 0} → Parts_of fields h ts → erased (Hole v) ≡ erased (Built h ts) → X
  unfolding erased all_erased
  no_variable (Inferred a) h ts f e = absurd (let y : ◌≡◌ {A = Ty} (Var a) (Made h (all_erased ts)) = e in cc)
  no_variable (Written b k) h ts f e = absurd (subst (λ x. Parts_of fields x ts) (let z : h ≡ head.Rigid b k = (let y : ◌≡◌ {A = Ty} (Made (head.Rigid b k) none) (Made h (all_erased ts)) = e in cc) in z) f)

  no_array : (t : Size) (h : Head) (ts : Sizes) {X : Type 0} → Parts_of fields h ts → Made head.Array (more (erased t) none) ≡ erased (Built h ts) → X
  unfolding erased all_erased
  no_array t h ts f e = absurd (subst (λ x. Parts_of fields x ts) (let z : h ≡ head.Array = (let y : ◌≡◌ {A = Ty} (Made head.Array (more (erased t) none)) (Made h (all_erased ts)) = e in cc) in z) f)

  variable_no_array : (v : Variable) (d : Dim) (t : Size) {X : Type 0} → erased (Hole v) ≡ erased (Level d t) → X
  unfolding erased all_erased
  variable_no_array (Inferred a) d t e = absurd (let y : ◌≡◌ {A = Ty} (Var a) (Made head.Array (more (erased t) none)) = e in cc)
  variable_no_array (Written b k) d t e = absurd (let y : ◌≡◌ {A = Ty} (Made (head.Rigid b k) none) (Made head.Array (more (erased t) none)) = e in cc)

  mutual
    unfolding Data All_data Well_formed All_well_formed erased all_erased

    pub same_form : (t u : Size) → Data t → Data u → Well_formed fields t → Well_formed fields u → erased t ≡ erased u → Same_form t u
    same_form (Hole v) (Hole w) a b f g e = same_variable v w e
    same_form (Hole v) (Open n w x) a b f g e = absurd b
    same_form (Hole v) (Level d t) a b f g e = variable_no_array v d t e
    same_form (Hole v) (Built h ts) a b f g e = no_variable v h ts g.0 e
    same_form (Hole v) (Fun k p r) a b f g e = absurd b
    same_form (Open n w x) u a b f g e = absurd a
    same_form (Level d t) (Hole v) a b f g e = variable_no_array v d t (sym e)
    same_form (Level d t) (Open n w x) a b f g e = absurd b
    same_form (Level d t) (Level d' u) a b f g e = same_level (same_form t u a b f g (let y : ◌≡◌ {A = Ty} (Made head.Array (more (erased t) none)) (Made head.Array (more (erased u) none)) = e in cc))
    same_form (Level d t) (Built h ts) a b f g e = no_array t h ts g.0 e
    same_form (Level d t) (Fun k p r) a b f g e = absurd b
    same_form (Built h ts) (Hole v) a b f g e = no_variable v h ts f.0 (sym e)
    same_form (Built h ts) (Open n w x) a b f g e = absurd b
    same_form (Built h ts) (Level d t) a b f g e = no_array t h ts f.0 (sym e)
    same_form (Built h ts) (Built h' us) a b f g e =
        let y : ◌≡◌ {A = Ty} (Made h (all_erased ts)) (Made h' (all_erased us)) = e in
        let z : h ≡ h' = cc in
        subst (λ x. Same_form (Built h ts) (Built x us)) z (same_built (all_same_form ts us a b f.1 g.1 (let w : all_erased ts ≡ all_erased us = cc in w)))
    same_form (Built h ts) (Fun k p r) a b f g e = absurd b
    same_form (Fun k p r) u a b f g e = absurd a

    all_same_form : (ts us : Sizes) → All_data ts → All_data us → All_well_formed fields ts → All_well_formed fields us → all_erased ts ≡ all_erased us → All_same_form ts us
    all_same_form no_size no_size a b f g e = same_none
    all_same_form no_size (size_and u us) a b f g e = absurd (let y : ◌≡◌ {A = Tys} none (more (erased u) (all_erased us)) = e in cc)
    all_same_form (size_and t ts) no_size a b f g e = absurd (let y : ◌≡◌ {A = Tys} (more (erased t) (all_erased ts)) none = e in cc)
    all_same_form (size_and t ts) (size_and u us) a b f g e =
        let y : ◌≡◌ {A = Tys} (more (erased t) (all_erased ts)) (more (erased u) (all_erased us)) = e in
        same_more (same_form t u a.0 b.0 f.0 g.0 (let w : erased t ≡ erased u = cc in w)) (all_same_form ts us a.1 b.1 f.1 g.1 (let w : all_erased ts ≡ all_erased us = cc in w))

mutual
  unfolding levels all_levels

  pub same_levels : {t u : Size} → Same_form t u → levels t ≡ levels u
  same_levels same_hole = refl
  same_levels (same_level q) = ap (λ n. 1 + n) (same_levels q)
  same_levels (same_built q) = all_same_levels q

  all_same_levels : {ts us : Sizes} → All_same_form ts us → all_levels ts ≡ all_levels us
  all_same_levels same_none = refl
  all_same_levels (same_more {t} {u} {ts} {us} q qs) = ap (λ n. n + all_levels ts) (same_levels q) ∙ ap (λ n. levels u + n) (all_same_levels qs)

-- ---- what is kept

module _ (In : Free → Type 0) (lo : ℕ) (F : ℕ → ℕ) (m : Worth) (still : (d : Free) → In d → at_node lo F m d ≡ m d) where
  pub same_number : (d : Dim) → Scoped In 0 d → number m no_frames d ≡ number (at_node lo F m) no_frames d
  same_number (At d) a = free_is m (at_node lo F m) d (sym (still d a))
  same_number (Bound j i) a = absurd (omega (arith, a))

  pub here : (i n : ℕ) → F i ≡ n → n ≡ number (at_node lo F m) no_frames (At (Unknown lo i))
  here i n e = sym e ∙ sym (node_here lo F m i)

  first_number : (i : ℕ) (d e : Dim) → Scoped In 0 d → F i ≡ number m no_frames d → number m no_frames d ≡ number (at_node lo F m) no_frames (kept_dim lo i d e)
  first_number i d e a n = by_test (is_dim d e)
    where
      by_test : (b : Bool) → number m no_frames d ≡ number (at_node lo F m) no_frames (cond b d (At (Unknown lo i)))
      by_test true = same_number d a
      by_test false = here i (number m no_frames d) n

  second_number : (i : ℕ) (d e : Dim) → Scoped In 0 d → F i ≡ number m no_frames e → number m no_frames e ≡ number (at_node lo F m) no_frames (kept_dim lo i d e)
  second_number i d e a n = by_test (is_dim d e) refl
    where
      by_test : (b : Bool) → is_dim d e ≡ b → number m no_frames e ≡ number (at_node lo F m) no_frames (cond b d (At (Unknown lo i)))
      by_test true q = ap (number m no_frames) (sym (dim_same d e q)) ∙ same_number d a
      by_test false q = here i (number m no_frames e) n

  mutual
    unfolding Data All_data Each Each_all

    pub stays : (t : Size) → Data t → Each (Scoped In) 0 t → Alike m (at_node lo F m) t t
    stays (Hole v) d a = alike_hole
    stays (Open n v u) d a = absurd d
    stays (Level x t) d a = alike_level (same_number x a.0) (stays t d a.1)
    stays (Built h ts) d a = alike_built (all_stay ts d a)
    stays (Fun k p r) d a = absurd d

    pub all_stay : (ts : Sizes) → All_data ts → Each_all (Scoped In) 0 ts → All_alike m (at_node lo F m) ts ts
    all_stay no_size d a = alike_none
    all_stay (size_and t ts) d a = alike_more (stays t d.0 a.0) (all_stay ts d.1 a.1)

  mutual
    unfolding Data All_data Each Each_all kept all_kept Numbered All_numbered

    first_kept : (i : ℕ) (t u : Size) → Data t → Each (Scoped In) 0 t → Numbered F m i t → Alike m (at_node lo F m) t (kept lo i t u)
    first_kept i (Level d t) (Level e u) dt a n = alike_level (first_number i d e a.0 n.0) (first_kept (suc i) t u dt a.1 n.1)
    first_kept i (Built h ts) (Built g us) dt a n = alike_built (all_first_kept i ts us dt a n)
    first_kept i t u dt a n = stays t dt a

    all_first_kept : (i : ℕ) (ts us : Sizes) → All_data ts → Each_all (Scoped In) 0 ts → All_numbered F m i ts → All_alike m (at_node lo F m) ts (all_kept lo i ts us)
    all_first_kept i (size_and t ts) (size_and u us) dt a n = alike_more (first_kept i t u dt.0 a.0 n.0) (all_first_kept (levels t + i) ts us dt.1 a.1 n.1)
    all_first_kept i ts us dt a n = all_stay ts dt a

  mutual
    unfolding Each Each_all kept all_kept Numbered All_numbered

    second_kept : (i : ℕ) {t u : Size} → Same_form t u → Each (Scoped In) 0 t → Numbered F m i u → Alike m (at_node lo F m) u (kept lo i t u)
    second_kept i same_hole a n = alike_hole
    second_kept i (same_level {d} {e} q) a n = alike_level (second_number i d e a.0 n.0) (second_kept (suc i) q a.1 n.1)
    second_kept i (same_built q) a n = alike_built (all_second_kept i q a n)

    all_second_kept : (i : ℕ) {ts us : Sizes} → All_same_form ts us → Each_all (Scoped In) 0 ts → All_numbered F m i us → All_alike m (at_node lo F m) us (all_kept lo i ts us)
    all_second_kept i same_none a n = alike_none
    all_second_kept i (same_more {t} {u} {ts} {us} q qs) a n = alike_more (second_kept i q a.0 n.0) (all_second_kept (levels t + i) qs a.1 (subst (λ k. All_numbered F m (k + i) us) (sym (same_levels q)) n.1))

-- the value of the first branch, and of the second
pub first_branch : (In : Free → Type 0) (lo : ℕ) (m : Worth) (t u : Size) → ((d : Free) → In d → at_node lo (all_of m t) m d ≡ m d) → Data t → Each (Scoped In) 0 t → Alike m (at_node lo (all_of m t) m) t (kept lo 0 t u)
first_branch In lo m t u still d a = first_kept In lo (all_of m t) m still 0 t u d a (all_of_numbered m t)

pub second_branch : (In : Free → Type 0) (lo : ℕ) (m : Worth) (t u : Size) → ((d : Free) → In d → at_node lo (all_of m u) m d ≡ m d) → Same_form t u → Each (Scoped In) 0 t → Alike m (at_node lo (all_of m u) m) u (kept lo 0 t u)
second_branch In lo m t u still q a = second_kept In lo (all_of m u) m still 0 q a (all_of_numbered m u)
