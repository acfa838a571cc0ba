-- The fields that a record is made of are all labels of its type, each once.
use Rattle.std.proofs.Common.{◌≡◌, ◌≢◌, ℕ, suc, ◌≤◌, ◌<◌, refl, sym, ap, ◌∙◌, subst, arith, List, [], ◌∷◌, length, map, Option, Some, None, slice_index_or, ◌==◌, if◌then◌else◌, ne_eqb, eq-eqb}
use mathlib.Core.Logic.{◌⊎◌, inl, inr}
use native.Mathlib.Decide.{ℕ_discrete}
use Rattle.fut_ast.specs.Sorts.{Text}
use Rattle.fut_types.specs.declared.Head.TheVariants as head
use Rattle.fut_types.specs.Types.{Ty, Made, Tys, none, more}
use Rattle.fut_types.specs.Shapes.{place, place_from, part_at, part_named}
use Rattle.fut_typing.specs.Names.{Names, AreNames, Once, IsRecord, Parts_named}
use Rattle.fut_typing.proofs.Members.{In, list_in, placed_in}

-- ---- members
abbrev Named : Text → List Text → Type 0
Named s [] = ⊥
Named s (f ∷ fs) = (s ≡ f) ⊎ Named s fs

named_at : (fs : List Text) (s : Text) → Named s fs → (k : ℕ) × (k < length fs) × (s ≡ slice_index_or fs k [])
named_at [] s i = absurd i
named_at (x ∷ fs) s (inl e) = (0, omega arith, e)
named_at (x ∷ fs) s (inr i) = let r = named_at fs s i in let lt : r.0 < length fs = r.1 in (suc r.0, omega arith, r.2)

once_first : (f : Text) (fs : List Text) → Once (f ∷ fs) → Named f fs → ⊥
once_first f fs o i = let r = named_at fs f i in let lt : r.0 < length fs = r.1 in o 0 (suc r.0) [] (omega arith) (omega arith) r.2

once_rest : (f : Text) (fs : List Text) → Once (f ∷ fs) → Once fs
once_rest f fs o = λ i j d lt l. o (suc i) (suc j) d (omega arith) (omega arith)

-- lists without repetition
abbrev pub Apart : List ℕ → Type 0
Apart [] = Unit {0}
Apart (x ∷ xs) = (In x xs → ⊥) × Apart xs

drop_one : (x : ℕ) (ys : List ℕ) → In x ys → (zs : List ℕ) × (length ys ≡ suc (length zs)) × ((y : ℕ) → In y ys → (y ≡ x) ⊎ In y zs)
drop_one x [] i = absurd i
drop_one x (y ∷ ys) (inl e) = (ys, refl, (λ z h. elim h as (λ d. (z ≡ x) ⊎ In z ys) [ inl p ↦ inl (p ∙ sym e) | inr q ↦ inr q ]))
drop_one x (y ∷ ys) (inr i) = let r = drop_one x ys i in (
  y ∷ r.0,
  ap suc r.1,
  (λ z h. elim h as (λ d. (z ≡ x) ⊎ In z (y ∷ r.0)) [ inl p ↦ inr (inl p) | inr q ↦ elim (r.2 z q) as (λ d. (z ≡ x) ⊎ In z (y ∷ r.0)) [ inl e ↦ inl e | inr w ↦ inr (inr w) ] ]),
)

-- as many numbers as there is room for fill it
covers : (xs ys : List ℕ) → Apart xs → ((x : ℕ) → In x xs → In x ys) → length ys ≤ length xs → (y : ℕ) → In y ys → In y xs
covers [] [] a sub le y h = h
covers [] (z ∷ ys) a sub le y h = absurd (omega arith)
covers (x ∷ xs) ys a sub le y h = let r = drop_one x ys (sub x (inl refl)) in elim (r.2 y h) as (λ d. In y (x ∷ xs)) [
  | inl e ↦ inl e
  | inr w ↦ inr (covers xs r.0 a.1 (λ z i. elim (r.2 z (sub z (inr i))) as (λ d. In z r.0) [ inl e ↦ absurd (a.0 (subst (λ q. In q xs) e i)) | inr v ↦ v ]) (let l : length ys ≡ suc (length r.0) = r.1 in omega arith) y w)
]

long_map : (f : Text → ℕ) (fs : List Text) → length (map f fs) ≡ length fs
long_map f [] = refl
long_map f (x ∷ fs) = ap suc (long_map f fs)

label_named : (f : Text → ℕ) (fs : List Text) (l : ℕ) → In l (map f fs) → (s : Text) × Named s fs × (l ≡ f s)
label_named f [] l i = absurd i
label_named f (x ∷ fs) l (inl e) = (x, inl refl, e)
label_named f (x ∷ fs) l (inr i) = let r = label_named f fs l i in (r.0, inr r.1, r.2)

labels_apart : (N : Names) → AreNames N → (fs : List Text) → Once fs → Apart (map N.label fs)
labels_apart N are [] o = tt
labels_apart N are (f ∷ fs) o = ((λ i. let r = label_named N.label fs (N.label f) i in once_first f fs o (subst (λ s. Named s fs) (sym (are.one_label f r.0 r.2)) r.1)), labels_apart N are fs (once_rest f fs o))

pub numbers_apart : (xs : List ℕ) → Once xs → Apart xs
numbers_apart [] o = tt
numbers_apart (x ∷ xs) o = ((λ i. let r = list_in xs x i in let lt : r.0 < length xs = r.1 in o 0 (suc r.0) x (omega arith) (omega arith) (sym r.2)), numbers_apart xs (λ i j d lt l. o (suc i) (suc j) d (omega arith) (omega arith)))

-- ---- a part for each label

up : Option ℕ → Option ℕ
up None = None
up (Some i) = Some (suc i)

place_up : (at l : ℕ) (ls : List ℕ) → place_from (suc at) l ls ≡ up (place_from at l ls)
unfolding place_from up
place_up at l [] = refl
place_up at l (x ∷ xs) = elim (ℕ_discrete x l) as (λ d. (if x == l then Some (suc at) else place_from (suc (suc at)) l xs) ≡ up (if x == l then Some at else place_from (suc at) l xs)) [
  | yes e ↦ subst (λ b. (if b then Some (suc at) else place_from (suc (suc at)) l xs) ≡ up (if b then Some at else place_from (suc at) l xs)) (sym (eq-eqb x l e)) refl
  | no ne ↦ subst (λ b. (if b then Some (suc at) else place_from (suc (suc at)) l xs) ≡ up (if b then Some at else place_from (suc at) l xs)) (sym (ne_eqb x l ne)) (place_up (suc at) l xs)
]

part_up : (o : Option ℕ) (t : Ty) (ts : Tys) → part_at (up o) (more t ts) ≡ part_at o ts
unfolding part_at up
part_up None t ts = refl
part_up (Some i) t ts = refl

pub here_place : (x : ℕ) (xs : List ℕ) (t : Ty) (ts : Tys) → part_at (place_from 0 x (x ∷ xs)) (more t ts) ≡ Some t
unfolding place_from part_at
here_place x xs t ts = ap (λ b. part_at (if b then Some 0 else place_from 1 x xs) (more t ts)) (eq-eqb x x refl)

pub there_place : (l x : ℕ) (xs : List ℕ) (t : Ty) (ts : Tys) → x ≢ l → part_at (place_from 0 l (x ∷ xs)) (more t ts) ≡ part_at (place_from 0 l xs) ts
unfolding place_from part_at
there_place l x xs t ts ne = ap (λ b. part_at (if b then Some 0 else place_from 1 l xs) (more t ts)) (ne_eqb x l ne) ∙ ap (λ o. part_at o (more t ts)) (place_up 0 l xs) ∙ part_up (place_from 0 l xs) t ts

pub placed_label : (l : ℕ) (ls : List ℕ) (ts : Tys) (u : Ty) → part_at (place_from 0 l ls) ts ≡ Some u → In l ls
unfolding part_at
placed_label l ls ts u e = known (place_from 0 l ls) refl e
  where
    known : (o : Option ℕ) → place_from 0 l ls ≡ o → part_at o ts ≡ Some u → In l ls
    known None is e = absurd (let z : None ≡ Some u = e in cc)
    known (Some i) is e = placed_in 0 l ls i is

module _ (N : Names) (are : AreNames N) where
  labels_inside : (n : ℕ) (parts : Tys) (fs : List Text) (us : Tys) → Parts_named N fs (Made (head.Record n) parts) us → (l : ℕ) → In l (map N.label fs) → In l (N.shapes.fields n)
  unfolding part_named place
  labels_inside n parts [] us h l i = absurd i
  labels_inside n parts (f ∷ fs) none h l i = absurd h
  labels_inside n parts (f ∷ fs) (more u us) h l (inl e) = subst (λ x. In x (N.shapes.fields n)) (sym e) (placed_label (N.label f) (N.shapes.fields n) parts u h.0)
  labels_inside n parts (f ∷ fs) (more u us) h l (inr i) = labels_inside n parts fs us h.1 l i

  -- each label of the type is that of a field that is written
  pub all_written : (fs : List Text) (t : Ty) (us : Tys) (r : IsRecord N fs t us) (l : ℕ) → In l (N.shapes.fields r.number) → In l (map N.label fs)
  all_written fs t us r l i = covers (map N.label fs) (N.shapes.fields r.number) (labels_apart N are fs r.once) (labels_inside r.number r.parts fs us (subst (λ x. Parts_named N fs x us) r.made r.named))
      (let x = r.fields in let y = long_map N.label fs in omega (arith, x, y)) l i
