-- Named parts of a type, replaced.
use Rattle.std.proofs.Common.{◌≡◌, ◌≢◌, ℕ, zero, suc, ◌≤◌, ◌<◌, List, [], ◌∷◌, Option, Some, None, ◌==◌, cond, if◌then◌else◌, refl, sym, ◌∙◌, ap, subst, arith}
use mathlib.Core.Logic.{inl, inr}
use native.Mathlib.Decide.{ℕ_discrete}
use Rattle.std.proofs.lemmas.Bool.{eq-eqb}
use Rattle.std.proofs.lemmas.Bool.Decides.{eqb_tells}
use Rattle.fut_types.specs.declared.Head.{Head}
use Rattle.fut_types.specs.declared.Head.TheVariants as head
use Rattle.fut_types.specs.Types.{Ty, Var, Made, Tys, none, more, Sub, Kinds, least, rank}
use Rattle.fut_types.specs.Shapes.{Shapes, place_from, place, part_at, part_named, HasPart}
use Rattle.fut_types.proofs.ShapeLaws.{place_none, place_step}
use Rattle.type_graph.specs.declared.Entry.{Entry}
use Rattle.type_graph.specs.Graph.{Each, chained, All_named, Lacks, Distinct}
use Rattle.type_graph.specs.Rereading.{Apart}

some_same : {X : Type 0} (x y : X) → Some x ≡ Some y → x ≡ y
some_same {X} x y e = ap (back x) e
  where
    back : X → Option X → X
    back d (Some z) = z
    back d None = d

none_some : {X : Type 0} (x : X) → None ≡ Some x → ⊥
none_some {X} x e = subst is_none e tt
  where
    is_none : Option X → Type 0
    is_none (Some z) = ⊥
    is_none None = Unit {0}

-- one part replaced
unfoldable pub replaced : Option ℕ → Tys → Ty → Tys
replaced None ts u = ts
replaced (Some i) none u = none
replaced (Some zero) (more t ts) u = more u ts
replaced (Some (suc i)) (more t ts) u = more t (replaced (Some i) ts u)

unfoldable pub part_put : Shapes → ℕ → Ty → Ty → Ty
part_put S label u (Var n) = Var n
part_put S label u (Made h ts) = Made h (replaced (place S label h) ts u)

here_at : (o : Option ℕ) (ts : Tys) (t u : Ty) → part_at o ts ≡ Some t → part_at o (replaced o ts u) ≡ Some u
unfolding replaced part_at
here_at None ts t u e = absurd (none_some t e)
here_at (Some i) none t u e = absurd (none_some t e)
here_at (Some zero) (more x ts) t u e = refl
here_at (Some (suc i)) (more x ts) t u e = here_at (Some i) ts t u e

same_at : (o : Option ℕ) (ts : Tys) (t : Ty) → part_at o ts ≡ Some t → replaced o ts t ≡ ts
unfolding replaced part_at
same_at None ts t e = refl
same_at (Some i) none t e = refl
same_at (Some zero) (more x ts) t e = ap (λ y. more y ts) (sym (some_same x t e))
same_at (Some (suc i)) (more x ts) t e = ap (more x) (same_at (Some i) ts t e)

other_at : (i j : ℕ) (ts : Tys) (t u : Ty) → i ≢ j → part_at (Some i) ts ≡ Some t → part_at (Some i) (replaced (Some j) ts u) ≡ Some t
unfolding replaced part_at
other_at i j none t u ne e = e
other_at zero zero (more x ts) t u ne e = absurd (ne refl)
other_at zero (suc j) (more x ts) t u ne e = e
other_at (suc i) zero (more x ts) t u ne e = e
other_at (suc i) (suc j) (more x ts) t u ne e = other_at i j ts t u (λ q. ne (ap suc q)) e

least_at : (K : Kinds) (o : Option ℕ) (ts : Tys) (u : Ty) (k : ℕ) → k ≤ least K ts → k ≤ rank K u → k ≤ least K (replaced o ts u)
unfolding replaced rank
least_at K None ts u k p q = p
least_at K (Some i) none u k p q = p
least_at K (Some zero) (more x ts) u k p q = omega arith
least_at K (Some (suc i)) (more x ts) u k p q = let r : k ≤ least K (replaced (Some i) ts u) = least_at K (Some i) ts u k (omega arith) q in omega arith

-- a label has its own place
if_same : {X : Type 0} (x y : ℕ) (p q : X) → x ≡ y → (if x == y then p else q) ≡ p
if_same {X} x y p q e = ap (λ b. cond b p q) (eq-eqb x y e)

if_other : {X : Type 0} (x y : ℕ) (p q : X) → (x ≡ y → ⊥) → (if x == y then p else q) ≡ q
if_other {X} x y p q n = elim (eqb_tells x y) as (λ d. (if x == y then p else q) ≡ q) [ inl s ↦ absurd (n s.1) | inr s ↦ ap (λ b. cond b p q) s.0 ]

place_least : (at label : ℕ) (xs : List ℕ) (i : ℕ) → place_from at label xs ≡ Some i → at ≤ i
place_least at label [] i e = absurd (none_some i (sym (place_none at label) ∙ e))
place_least at label (x ∷ xs) i e = elim (ℕ_discrete x label) as (λ d. at ≤ i) [
  | yes is ↦ let z : at ≡ i = some_same at i (sym (place_step at label x xs ∙ if_same x label _ _ is) ∙ e) in omega arith
  | no ne ↦ let r : suc at ≤ i = place_least (suc at) label xs i (sym (place_step at label x xs ∙ if_other x label _ _ ne) ∙ e) in omega arith
]

one_place : (at l m : ℕ) (xs : List ℕ) (i : ℕ) → place_from at l xs ≡ Some i → place_from at m xs ≡ Some i → l ≡ m
one_place at l m [] i p q = absurd (none_some i (sym (place_none at l) ∙ p))
one_place at l m (x ∷ xs) i p q = elim (ℕ_discrete x l) as (λ d. l ≡ m) [
  | yes e ↦ elim (ℕ_discrete x m) as (λ d. l ≡ m) [
    | yes e' ↦ sym e ∙ e'
    | no ne ↦ let z : at ≡ i = some_same at i (sym (place_step at l x xs ∙ if_same x l _ _ e) ∙ p) in
        let r : suc at ≤ i = place_least (suc at) m xs i (sym (place_step at m x xs ∙ if_other x m _ _ ne) ∙ q) in absurd (omega arith)
  ]
  | no ne ↦ elim (ℕ_discrete x m) as (λ d. l ≡ m) [
    | yes e' ↦ let z : at ≡ i = some_same at i (sym (place_step at m x xs ∙ if_same x m _ _ e') ∙ q) in
        let r : suc at ≤ i = place_least (suc at) l xs i (sym (place_step at l x xs ∙ if_other x l _ _ ne) ∙ p) in absurd (omega arith)
    | no ne' ↦ one_place (suc at) l m xs i (sym (place_step at l x xs ∙ if_other x l _ _ ne) ∙ p) (sym (place_step at m x xs ∙ if_other x m _ _ ne') ∙ q)
  ]
]

own_place : (S : Shapes) (m : ℕ) → Apart S m → (h : Head) (x y i : ℕ) → x < m → y < m → place S x h ≡ Some i → place S y h ≡ Some i → x ≡ y
unfolding place
own_place S m ap' (head.Record n) x y i lx ly p q = one_place 0 x y (S.fields n) i p q
own_place S m ap' head.Tuple x y i lx ly p q = ap'.positions x y i lx ly p q
own_place S m ap' (head.Scalar s) x y i lx ly p q = absurd (none_some i p)
own_place S m ap' head.Array x y i lx ly p q = absurd (none_some i p)
own_place S m ap' head.Fun x y i lx ly p q = absurd (none_some i p)
own_place S m ap' (head.Rigid n k) x y i lx ly p q = absurd (none_some i p)
own_place S m ap' (head.Abstract n d) x y i lx ly p q = absurd (none_some i p)

part_here : (S : Shapes) (x : ℕ) (t v u : Ty) → HasPart S x t v → HasPart S x (part_put S x u t) u
unfolding part_put part_named
part_here S x (Var n) v u e = absurd (none_some v e)
part_here S x (Made h ts) v u e = here_at (place S x h) ts v u e

part_same : (S : Shapes) (x : ℕ) (t u : Ty) → HasPart S x t u → part_put S x u t ≡ t
unfolding part_put part_named
part_same S x (Var n) u e = refl
part_same S x (Made h ts) u e = ap (Made h) (same_at (place S x h) ts u e)

part_rank : (S : Shapes) (x : ℕ) (K : Kinds) (t u : Ty) (k : ℕ) → k ≤ rank K t → k ≤ rank K u → k ≤ rank K (part_put S x u t)
unfolding part_put rank
part_rank S x K (Var n) u k p q = p
part_rank S x K (Made h ts) u k p q = let r : k ≤ least K (replaced (place S x h) ts u) = least_at K (place S x h) ts u k (omega arith) q in omega arith

module _ (S : Shapes) (m : ℕ) (apart : Apart S m) where
  part_other : (x y : ℕ) (t v u : Ty) → x < m → y < m → x ≢ y → HasPart S y t v → HasPart S y (part_put S x u t) v
  unfolding part_put part_named replaced part_at
  part_other x y (Var n) v u lx ly ne e = e
  part_other x y (Made h ts) v u lx ly ne e = by_place (place S y h) (place S x h) refl refl e
    where
      by_place : (o o' : Option ℕ) → place S y h ≡ o → place S x h ≡ o' → part_at o ts ≡ Some v → part_at o (replaced o' ts u) ≡ Some v
      by_place o None p q e = e
      by_place None (Some j) p q e = absurd (none_some v e)
      by_place (Some i) (Some j) p q e = other_at i j ts v u (λ z. ne (own_place S m apart h x y j lx ly q (p ∙ ap (λ n. Some n) z))) e

-- all parts of a chain replaced by the types that b gives its children
unfoldable pub chain_put : Shapes → (ℕ → Entry) → Sub → Ty → ℕ → ℕ → Ty
chain_put S entry b t e zero = t
chain_put S entry b t e (suc n) = part_put S (entry e).label (b (entry e).child) (chain_put S entry b t (entry e).next n)

module _ (S : Shapes) (m : ℕ) (apart : Apart S m) (entry : ℕ → Entry) (last : ℕ) (labels : (e : ℕ) → e < last → ((entry e).label < m) × ((entry e).next < last)) where
  -- a part under a label that the chain lacks stays
  chain_other : (b : Sub) (y : ℕ) (t v : Ty) (e n : ℕ) → y < m → e < last → Lacks entry y e n → HasPart S y t v → HasPart S y (chain_put S entry b t e n) v
  unfolding chain_put Lacks
  chain_other b y t v e zero ly le l h = h
  chain_other b y t v e (suc n) ly le l h = part_other S m apart (entry e).label y (chain_put S entry b t (entry e).next n) v (b (entry e).child) (labels e le).0 ly l.0 (chain_other b y t v (entry e).next n ly (labels e le).1 l.1 h)

  -- parts under other labels stay where one more is replaced
  names_other : (b : Sub) (x : ℕ) (t u : Ty) (e n : ℕ) → x < m → e < last → Lacks entry x e n → All_named S entry b t e n → All_named S entry b (part_put S x u t) e n
  unfolding Lacks All_named
  names_other b x t u e zero lx le l h = tt
  names_other b x t u e (suc n) lx le l h = (part_other S m apart x (entry e).label t (b (entry e).child) u lx (labels e le).0 (λ z. l.0 (sym z)) h.0, names_other b x t u (entry e).next n lx (labels e le).1 l.1 h.1)

  -- the type has the parts that it was given
  pub chain_names : (a b : Sub) (t : Ty) (e n : ℕ) → e < last → Distinct entry e n → All_named S entry a t e n → All_named S entry b (chain_put S entry b t e n) e n
  unfolding chain_put Distinct All_named
  chain_names a b t e zero le d h = tt
  chain_names a b t e (suc n) le d h = (
    part_here S (entry e).label (chain_put S entry b t (entry e).next n) (a (entry e).child) (b (entry e).child) (chain_other b (entry e).label t (a (entry e).child) (entry e).next n (labels e le).0 (labels e le).1 d.0 h.0),
    names_other b (entry e).label (chain_put S entry b t (entry e).next n) (b (entry e).child) (entry e).next n (labels e le).0 (labels e le).1 d.0 (chain_names a b t (entry e).next n (labels e le).1 d.1 h.1),
  )

-- the kinds of the parts and of the whole
pub chain_rank : (S : Shapes) (entry : ℕ → Entry) (K : Kinds) (b : Sub) (t : Ty) (k e n : ℕ) → k ≤ rank K t → Each (λ c. k ≤ rank K (b c)) (chained entry e n) → k ≤ rank K (chain_put S entry b t e n)
unfolding chain_put chained
chain_rank S entry K b t k e zero p h = p
chain_rank S entry K b t k e (suc n) p h = part_rank S (entry e).label K (chain_put S entry b t (entry e).next n) (b (entry e).child) k (chain_rank S entry K b t k (entry e).next n p h.1) h.0

-- parts replaced by themselves
pub chain_same : (S : Shapes) (entry : ℕ → Entry) (a b : Sub) (t : Ty) (e n : ℕ) → All_named S entry a t e n → Each (λ c. b c ≡ a c) (chained entry e n) → chain_put S entry b t e n ≡ t
unfolding chain_put chained All_named
chain_same S entry a b t e zero p h = refl
chain_same S entry a b t e (suc n) p h = (λ i. part_put S (entry e).label (h.0 i) (chain_same S entry a b t (entry e).next n p.1 h.1 i)) ∙ part_same S (entry e).label t (a (entry e).child) p.0

-- only the types of the children matter
pub chain_agree : (S : Shapes) (entry : ℕ → Entry) (b c : Sub) (t : Ty) (e n : ℕ) → Each (λ x. b x ≡ c x) (chained entry e n) → chain_put S entry b t e n ≡ chain_put S entry c t e n
unfolding chain_put chained
chain_agree S entry b c t e zero h = refl
chain_agree S entry b c t e (suc n) h = λ i. part_put S (entry e).label (h.0 i) (chain_agree S entry b c t (entry e).next n h.1 i)
