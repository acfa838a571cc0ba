-- Parts in the order of other names.
use Rattle.std.proofs.Common.{◌≡◌, ◌≢◌, ℕ, zero, suc, ◌+◌, ◌≤◌, min, refl, sym, ◌∙◌, ap, subst, arith, List, [], ◌∷◌, length, map, Option, Some, None, if◌then◌else◌, ◌==◌, ne_eqb, eq-eqb}
use Rattle.std.proofs.lemmas.Option.{none-some, same_Some}
use mathlib.Core.Logic.{◌⊎◌, inl, inr}
use native.Mathlib.Decide.{ℕ_discrete}
use Rattle.fut_ast.specs.Sorts.{Text}
use Rattle.fut_types.specs.Types.{Ty, Tys, none, more, Sub, Kinds, rank, least, applied, all_applied}
use Rattle.fut_types.specs.Shapes.{place_from, part_at}
use Rattle.fut_types.proofs.ShapeLaws.{place_none}
use Rattle.fut_typing.specs.Names.{count}
use Rattle.fut_typing.specs.Primitives.{i64_ty}
use Rattle.fut_typing.specs.Answers.{Stands, Stands_in}
use Rattle.fut_typing.proofs.Members.{In, placed_in}
use Rattle.typing_laws.proofs.Moved.{Turn}
unfoldable use Rattle.typing_laws.proofs.Moved.{moved, all_moved}
use Rattle.typing_laws.proofs.Lists.{Apart, cut}

-- ---- the part that a label names, in parts that stand in the order of labels
abbrev pub part_under : List ℕ → ℕ → Tys → Option Ty
part_under ls l ts = part_at (place_from 0 l ls) ts

abbrev up : Option ℕ → Option ℕ
up None = None
up (Some i) = Some (suc i)

-- a label's place where the list begins one place further
place_up : (at l : ℕ) (ls : List ℕ) → place_from (suc at) l ls ≡ up (place_from at l ls)
unfolding place_from
place_up at l [] = refl
place_up at l (x ∷ xs) = elim (ℕ_discrete x l) as (λ d. (if x == l then Some (suc at) else place_from (suc (suc at)) l xs) ≡ up (if x == l then Some at else place_from (suc at) l xs)) [
  | yes e ↦ subst (λ b. (if b then Some (suc at) else place_from (suc (suc at)) l xs) ≡ up (if b then Some at else place_from (suc at) l xs)) (sym (eq-eqb x l e)) refl
  | no ne ↦ subst (λ b. (if b then Some (suc at) else place_from (suc (suc at)) l xs) ≡ up (if b then Some at else place_from (suc at) l xs)) (sym (ne_eqb x l ne)) (place_up (suc at) l xs)
]

part_up : (o : Option ℕ) (t : Ty) (ts : Tys) → part_at (up o) (more t ts) ≡ part_at o ts
unfolding part_at
part_up None t ts = refl
part_up (Some i) t ts = refl

under_first : (l x : ℕ) (xs : List ℕ) (t : Ty) (ts : Tys) → x ≡ l → part_under (x ∷ xs) l (more t ts) ≡ Some t
unfolding place_from part_at
under_first l x xs t ts e = ap (λ b. part_at (if b then Some 0 else place_from 1 l xs) (more t ts)) (eq-eqb x l e)

under_rest : (l x : ℕ) (xs : List ℕ) (t : Ty) (ts : Tys) → x ≢ l → part_under (x ∷ xs) l (more t ts) ≡ part_under xs l ts
unfolding place_from part_at
under_rest l x xs t ts ne = ap (λ b. part_at (if b then Some 0 else place_from 1 l xs) (more t ts)) (ne_eqb x l ne) ∙ ap (λ o. part_at o (more t ts)) (place_up 0 l xs) ∙ part_up (place_from 0 l xs) t ts

under_nothing : (o : Option ℕ) (u : Ty) → part_at o none ≡ Some u → ⊥
unfolding part_at
under_nothing None u e = none-some u e
under_nothing (Some i) u e = none-some u e

no_place : (ts : Tys) (u : Ty) → part_at None ts ≡ Some u → ⊥
unfolding part_at
no_place ts u e = none-some u e

-- ---- parts behind others
abbrev pub behind : Tys → Tys → Tys
behind none us = us
behind (more t ts) us = more t (behind ts us)

pub count_behind : (ts us : Tys) → count (behind ts us) ≡ count ts + count us
count_behind none us = omega arith
count_behind (more t ts) us = let z : count (behind ts us) ≡ count ts + count us = count_behind ts us in omega arith

pub part_behind : (ts us : Tys) (i : ℕ) → count ts ≡ i → part_at (Some i) (behind ts us) ≡ part_at (Some 0) us
unfolding part_at
part_behind none us zero e = refl
part_behind none us (suc i) e = absurd (omega arith)
part_behind (more t ts) us zero e = absurd (omega arith)
part_behind (more t ts) us (suc i) e = part_behind ts us i (omega arith)

least_most : (K : Kinds) (ts : Tys) → least K ts ≤ 4
unfolding rank
least_most K none = omega arith
least_most K (more t ts) = let z : least K ts ≤ 4 = least_most K ts in omega arith

-- ---- the part under a name among parts in the order of names; where there is none, some type of the highest kind
module _ (label : Text → ℕ) where
  abbrev pub found : List Text → Tys → Text → Ty
  found [] ts s = i64_ty
  found (f ∷ fs) none s = i64_ty
  found (f ∷ fs) (more t ts) s = elim (ℕ_discrete (label f) (label s)) as (λ d. Ty) [ yes e ↦ t | no ne ↦ found fs ts s ]

  -- the parts in the order of these names
  abbrev pub arranged : List Text → Tys → List Text → Tys
  arranged fs ts [] = none
  arranged fs ts (g ∷ gs) = more (found fs ts g) (arranged fs ts gs)

  pub count_arranged : (fs : List Text) (ts : Tys) (gs : List Text) → count (arranged fs ts gs) ≡ length gs
  count_arranged fs ts [] = refl
  count_arranged fs ts (g ∷ gs) = let z : count (arranged fs ts gs) ≡ length gs = count_arranged fs ts gs in omega arith

  -- what is found under a name
  found_is : (fs : List Text) (ts : Tys) (s : Text) (u : Ty) → part_under (map label fs) (label s) ts ≡ Some u → found fs ts s ≡ u
  found_is [] ts s u e = absurd (no_place ts u (sym (ap (λ o. part_at o ts) (place_none 0 (label s))) ∙ e))
  found_is (f ∷ fs) none s u e = absurd (under_nothing (place_from 0 (label s) (map label (f ∷ fs))) u e)
  found_is (f ∷ fs) (more t ts) s u e = elim (ℕ_discrete (label f) (label s)) as (λ d. (elim d as (λ d. Ty) [ yes e ↦ t | no ne ↦ found fs ts s ]) ≡ u) [
    | yes same ↦ same_Some t u (sym (under_first (label s) (label f) (map label fs) t ts same) ∙ e)
    | no ne ↦ found_is fs ts s u (sym (under_rest (label s) (label f) (map label fs) t ts ne) ∙ e)
  ]

  -- ---- what is said of all parts is said of those that are found
  found_rank : (K : Kinds) (fs : List Text) (ts : Tys) (s : Text) → least K ts ≤ rank K (found fs ts s)
  unfolding rank
  found_rank K [] ts s = let z : least K ts ≤ 4 = least_most K ts in omega arith
  found_rank K (f ∷ fs) none s = omega arith
  found_rank K (f ∷ fs) (more t ts) s = elim (ℕ_discrete (label f) (label s)) as (λ d. min (rank K t) (least K ts) ≤ rank K (elim d as (λ d. Ty) [ yes e ↦ t | no ne ↦ found fs ts s ])) [
    | yes e ↦ omega arith
    | no ne ↦ (let z : least K ts ≤ rank K (found fs ts s) = found_rank K fs ts s in omega arith)
  ]

  pub arranged_least : (K : Kinds) (fs : List Text) (ts us : Tys) (gs : List Text) (k : ℕ) → k ≤ least K ts → k ≤ least K us → k ≤ least K (behind (arranged fs ts gs) us)
  unfolding rank
  arranged_least K fs ts us [] k le le' = le'
  arranged_least K fs ts us (g ∷ gs) k le le' = let a : least K ts ≤ rank K (found fs ts g) = found_rank K fs ts g in let b : k ≤ least K (behind (arranged fs ts gs) us) = arranged_least K fs ts us gs k le le' in omega arith

  found_applied : (by : Sub) (fs : List Text) (ts : Tys) (s : Text) → found fs (all_applied by ts) s ≡ applied by (found fs ts s)
  unfolding applied
  found_applied by [] ts s = refl
  found_applied by (f ∷ fs) none s = refl
  found_applied by (f ∷ fs) (more t ts) s = elim (ℕ_discrete (label f) (label s)) as (λ d. (elim d as (λ d. Ty) [ yes e ↦ applied by t | no ne ↦ found fs (all_applied by ts) s ]) ≡ applied by (elim d as (λ d. Ty) [ yes e ↦ t | no ne ↦ found fs ts s ])) [
    | yes e ↦ refl
    | no ne ↦ found_applied by fs ts s
  ]

  pub arranged_applied : (by : Sub) (fs : List Text) (ts : Tys) (gs : List Text) → arranged fs (all_applied by ts) gs ≡ all_applied by (arranged fs ts gs)
  unfolding applied
  arranged_applied by fs ts [] = refl
  arranged_applied by fs ts (g ∷ gs) = λ i. more (found_applied by fs ts g i) (arranged_applied by fs ts gs i)

-- what stands under a name in the new order, whose labels are others
pub arranged_under : (label other : Text → ℕ) → ((s t : Text) → other s ≡ other t → s ≡ t) → (fs : List Text) (ts us : Tys) (gs : List Text) (s : Text) → In (other s) (map other gs)
    → part_under (map other gs) (other s) (behind (arranged label fs ts gs) us) ≡ Some (found label fs ts s)
arranged_under label other one fs ts us [] s i = absurd i
arranged_under label other one fs ts us (g ∷ gs) s i = elim (ℕ_discrete (other g) (other s)) as (λ d. part_under (map other (g ∷ gs)) (other s) (behind (arranged label fs ts (g ∷ gs)) us) ≡ Some (found label fs ts s)) [
  | yes e ↦ under_first (other s) (other g) (map other gs) (found label fs ts g) (behind (arranged label fs ts gs) us) e ∙ ap (λ x. Some (found label fs ts x)) (one g s e)
  | no ne ↦ under_rest (other s) (other g) (map other gs) (found label fs ts g) (behind (arranged label fs ts gs) us) ne ∙ arranged_under label other one fs ts us gs s (rest ne i)
]
  where
    rest : (other g ≢ other s) → In (other s) (map other (g ∷ gs)) → In (other s) (map other gs)
    rest ne (inl e) = absurd (ne (sym e))
    rest ne (inr i) = i

-- ---- there and back
found_again : (label other : Text → ℕ) → ((s t : Text) → other s ≡ other t → s ≡ t) → (fs : List Text) (ts : Tys) (gs : List Text) (s : Text) → In (other s) (map other gs) → found other gs (arranged label fs ts gs) s ≡ found label fs ts s
found_again label other one fs ts [] s i = absurd i
found_again label other one fs ts (g ∷ gs) s i = elim (ℕ_discrete (other g) (other s)) as (λ d. (elim d as (λ d. Ty) [ yes e ↦ found label fs ts g | no ne ↦ found other gs (arranged label fs ts gs) s ]) ≡ found label fs ts s) [
  | yes e ↦ ap (found label fs ts) (one g s e)
  | no ne ↦ found_again label other one fs ts gs s (rest ne i)
]
  where
    rest : (other g ≢ other s) → In (other s) (map other (g ∷ gs)) → In (other s) (map other gs)
    rest ne (inl e) = absurd (ne (sym e))
    rest ne (inr i) = i

arranged_again : (label other : Text → ℕ) → ((s t : Text) → other s ≡ other t → s ≡ t) → (fs : List Text) (ts : Tys) (gs hs : List Text) → ((s : Text) → In (label s) (map label hs) → In (other s) (map other gs))
    → arranged other gs (arranged label fs ts gs) hs ≡ arranged label fs ts hs
arranged_again label other one fs ts gs [] all = refl
arranged_again label other one fs ts gs (h ∷ hs) all = λ i. more (found_again label other one fs ts gs h (all h (inl refl)) i) (arranged_again label other one fs ts gs hs (λ s k. all s (inr k)) i)

arranged_later : (label : Text → ℕ) (f : Text) (fs : List Text) (t : Ty) (ts : Tys) (gs : List Text) → (In (label f) (map label gs) → ⊥) → arranged label (f ∷ fs) (more t ts) gs ≡ arranged label fs ts gs
arranged_later label f fs t ts [] out = refl
arranged_later label f fs t ts (g ∷ gs) out = λ i. more (here i) (arranged_later label f fs t ts gs (λ k. out (inr k)) i)
  where
    here : (elim (ℕ_discrete (label f) (label g)) as (λ d. Ty) [ yes e ↦ t | no ne ↦ found label fs ts g ]) ≡ found label fs ts g
    here = elim (ℕ_discrete (label f) (label g)) as (λ d. (elim d as (λ d. Ty) [ yes e ↦ t | no ne ↦ found label fs ts g ]) ≡ found label fs ts g) [ yes e ↦ absurd (out (inl e)) | no ne ↦ refl ]

arranged_self : (label : Text → ℕ) (fs : List Text) (ts : Tys) → Apart (map label fs) → count ts ≡ length fs → arranged label fs ts fs ≡ ts
arranged_self label [] none a e = refl
arranged_self label [] (more t ts) a e = absurd (let z : 1 + count ts ≡ 0 = e in omega arith)
arranged_self label (f ∷ fs) none a e = absurd (let z : 0 ≡ suc (length fs) = e in omega arith)
arranged_self label (f ∷ fs) (more t ts) a e = λ i. more (here i) ((arranged_later label f fs t ts fs a.0 ∙ arranged_self label fs ts a.1 (let z : 1 + count ts ≡ suc (length fs) = e in omega arith)) i)
  where
    here : (elim (ℕ_discrete (label f) (label f)) as (λ d. Ty) [ yes e ↦ t | no ne ↦ found label fs ts f ]) ≡ t
    here = elim (ℕ_discrete (label f) (label f)) as (λ d. (elim d as (λ d. Ty) [ yes e ↦ t | no ne ↦ found label fs ts f ]) ≡ t) [ yes e ↦ refl | no ne ↦ absurd (ne refl) ]

pub arranged_back : (label other : Text → ℕ) → ((s t : Text) → other s ≡ other t → s ≡ t) → (fs : List Text) (ts : Tys) (gs : List Text) → ((s : Text) → In (label s) (map label fs) → In (other s) (map other gs)) → Apart (map label fs) → count ts ≡ length fs
    → arranged other gs (arranged label fs ts gs) fs ≡ ts
arranged_back label other one fs ts gs all a e = arranged_again label other one fs ts gs fs all ∙ arranged_self label fs ts a e

-- ---- a name has a part if it is one of those of which there are parts
module _ (label : Text → ℕ) where
  pub part_present : (fs : List Text) (ts : Tys) (s : Text) (u : Ty) → part_under (map label fs) (label s) ts ≡ Some u → In (label s) (map label (cut fs ts))
  part_present [] ts s u e = absurd (no_place ts u (sym (ap (λ o. part_at o ts) (place_none 0 (label s))) ∙ e))
  part_present (f ∷ fs) none s u e = absurd (under_nothing (place_from 0 (label s) (map label (f ∷ fs))) u e)
  part_present (f ∷ fs) (more t ts) s u e = elim (ℕ_discrete (label f) (label s)) as (λ d. In (label s) (map label (cut (f ∷ fs) (more t ts)))) [
    | yes same ↦ inl (sym same)
    | no ne ↦ inr (part_present fs ts s u (sym (under_rest (label s) (label f) (map label fs) t ts ne) ∙ e))
  ]

  pub present_part : (fs : List Text) (ts : Tys) (s : Text) → In (label s) (map label (cut fs ts)) → part_under (map label fs) (label s) ts ≡ Some (found label fs ts s)
  present_part [] ts s i = absurd i
  present_part (f ∷ fs) none s i = absurd i
  present_part (f ∷ fs) (more t ts) s i = elim (ℕ_discrete (label f) (label s)) as (λ d. part_under (map label (f ∷ fs)) (label s) (more t ts) ≡ Some (elim d as (λ d. Ty) [ yes e ↦ t | no ne ↦ found label fs ts s ])) [
    | yes same ↦ under_first (label s) (label f) (map label fs) t ts same
    | no ne ↦ under_rest (label s) (label f) (map label fs) t ts ne ∙ present_part fs ts s (rest ne i)
  ]
    where
      rest : (label f ≢ label s) → In (label s) (map label (cut (f ∷ fs) (more t ts))) → In (label s) (map label (cut fs ts))
      rest ne (inl e) = absurd (ne (sym e))
      rest ne (inr i) = i

-- the label of a part is one of the labels
pub under_in : (l : ℕ) (ls : List ℕ) (ts : Tys) (u : Ty) → part_under ls l ts ≡ Some u → In l ls
under_in l ls ts u e = known (place_from 0 l ls) refl e
  where
    known : (o : Option ℕ) → place_from 0 l ls ≡ o → part_at o ts ≡ Some u → In l ls
    known None is h = absurd (no_place ts u h)
    known (Some i) is h = placed_in 0 l ls i is

-- ---- the parts of records become others
module _ (turn : Turn) where
  pub count_moved : (ts : Tys) → count (all_moved turn ts) ≡ count ts
  unfolding moved
  count_moved none = refl
  count_moved (more t ts) = ap (λ n. 1 + n) (count_moved ts)

  pub behind_moved : (ts us : Tys) → all_moved turn (behind ts us) ≡ behind (all_moved turn ts) (all_moved turn us)
  unfolding moved
  behind_moved none us = refl
  behind_moved (more t ts) us = ap (more (moved turn t)) (behind_moved ts us)

  found_moved : (label : Text → ℕ) (fs : List Text) (ts : Tys) (s : Text) → moved turn (found label fs ts s) ≡ found label fs (all_moved turn ts) s
  unfolding moved
  found_moved label [] ts s = refl
  found_moved label (f ∷ fs) none s = refl
  found_moved label (f ∷ fs) (more t ts) s = elim (ℕ_discrete (label f) (label s)) as (λ d. moved turn (elim d as (λ d. Ty) [ yes e ↦ t | no ne ↦ found label fs ts s ]) ≡ elim d as (λ d. Ty) [ yes e ↦ moved turn t | no ne ↦ found label fs (all_moved turn ts) s ]) [
    | yes e ↦ refl
    | no ne ↦ found_moved label fs ts s
  ]

  pub arranged_moved : (label : Text → ℕ) (fs : List Text) (ts : Tys) (gs : List Text) → all_moved turn (arranged label fs ts gs) ≡ arranged label fs (all_moved turn ts) gs
  unfolding moved
  arranged_moved label fs ts [] = refl
  arranged_moved label fs ts (g ∷ gs) = λ i. more (found_moved label fs ts g i) (arranged_moved label fs ts gs i)

pub count_applied : (by : Sub) (ts : Tys) → count (all_applied by ts) ≡ count ts
unfolding applied
count_applied by none = refl
count_applied by (more t ts) = ap (λ n. 1 + n) (count_applied by ts)

pub behind_applied : (by : Sub) (ts us : Tys) → all_applied by (behind ts us) ≡ behind (all_applied by ts) (all_applied by us)
unfolding applied
behind_applied by none us = refl
behind_applied by (more t ts) us = ap (more (applied by t)) (behind_applied by ts us)

pub behind_none : (ts : Tys) → behind ts none ≡ ts
behind_none none = refl
behind_none (more t ts) = ap (more t) (behind_none ts)

-- ---- what stands in parts
pub stands_behind : (ts us : Tys) (v : ℕ) → Stands_in v us → Stands_in v (behind ts us)
stands_behind none us v s = s
stands_behind (more t ts) us v s = inr (stands_behind ts us v s)

pub behind_stands : (ts us : Tys) (v : ℕ) → Stands_in v (behind ts us) → Stands_in v ts ⊎ Stands_in v us
behind_stands none us v s = inr s
behind_stands (more t ts) us v (inl s) = inl (inl s)
behind_stands (more t ts) us v (inr s) = elim (behind_stands ts us v s) as (λ d. Stands_in v (more t ts) ⊎ Stands_in v us) [ inl a ↦ inl (inr a) | inr b ↦ inr b ]

module _ (label : Text → ℕ) where
  stands_found : (fs : List Text) (ts : Tys) (s : Text) (v : ℕ) → Stands v (found label fs ts s) → Stands_in v ts
  stands_found [] ts s v = λ h. absurd h
  stands_found (f ∷ fs) none s v = λ h. absurd h
  stands_found (f ∷ fs) (more t ts) s v = elim (ℕ_discrete (label f) (label s)) as (λ d. Stands v (elim d as (λ d. Ty) [ yes e ↦ t | no ne ↦ found label fs ts s ]) → Stands_in v (more t ts)) [ yes e ↦ λ h. inl h | no ne ↦ λ h. inr (stands_found fs ts s v h) ]

  pub stands_arranged : (fs : List Text) (ts : Tys) (gs : List Text) (v : ℕ) → Stands_in v (arranged label fs ts gs) → Stands_in v ts
  stands_arranged fs ts [] v h = absurd h
  stands_arranged fs ts (g ∷ gs) v (inl h) = stands_found fs ts g v h
  stands_arranged fs ts (g ∷ gs) v (inr h) = stands_arranged fs ts gs v h
