-- Records that are made of values of their types, and records of which a field is replaced.
use Rattle.std.proofs.Common.{◌≡◌, ◌≢◌, ℕ, suc, ◌+◌, ◌≤◌, ◌<◌, refl, sym, ap, ◌∙◌, subst, arith, List, [], ◌∷◌, length, map, Option, Some, None, slice_index_or, if◌then◌else◌, ne_eqb, eq-eqb, Bool}
use mathlib.Core.Logic.{◌⊎◌, inl, inr}
use Rattle.fut_ast.specs.Sorts.{Text}
use Rattle.fut_types.specs.declared.Head.TheVariants as head
use Rattle.fut_types.specs.Types.{Ty, Made, Tys, none, more}
use Rattle.fut_types.specs.Shapes.{place, place_from, part_at, part_named, HasPart}
use Rattle.fut_types.proofs.ShapeLaws.{one_part}
use Rattle.fut_typing.specs.Names.{Names, AreNames, Once, IsRecord, Parts_named, count}
use Rattle.fut_typing.proofs.Members.{In, in_list, list_in, placed_in}
use Rattle.fut_meaning.specs.Found.{Told}
use Rattle.fut_meaning.specs.Outcomes.{Val, and_then}
use Rattle.fut_meaning.specs.Values.{Record_value, with_field, field, fields}
use Rattle.fut_meaning.specs.Accessors.{or_wrong}
use Rattle.fut_meaning.specs.Operations.{with_name, named_values}
use Rattle.fut_meaning.specs.Claims.{HasOut}
use Rattle.fut_meaning.specs.Flats.{FlatValue, FlatTops, FlatMode}
use Rattle.type_soundness.specs.Fits.{FlatFields, Is_key, In_order, Fits, Fields_fit}
use Rattle.type_soundness.proofs.Binding.{Each_fits}
use Rattle.type_soundness.proofs.Fields.{Field_of, place_up, part_up}
use Rattle.type_soundness.proofs.Ordering.{same_text, key_put, key_stays, order_put, field_put, field_stays}

-- ---- members
abbrev pub Named : Text → List Text → Type 0
Named s [] = ⊥
Named s (f ∷ fs) = (s ≡ f) ⊎ Named s fs

named_at : (fs : List Text) (s : Text) → Named s fs → (k : ℕ) × (k < length fs) × (s ≡ slice_index_or fs k [])
named_at [] s i = absurd i
named_at (x ∷ fs) s (inl e) = (0, omega arith, e)
named_at (x ∷ fs) s (inr i) = let r = named_at fs s i in let lt : r.0 < length fs = r.1 in (suc r.0, omega arith, r.2)

once_first : (f : Text) (fs : List Text) → Once (f ∷ fs) → Named f fs → ⊥
once_first f fs o i = let r = named_at fs f i in let lt : r.0 < length fs = r.1 in o 0 (suc r.0) [] (omega arith) (omega arith) r.2

pub once_rest : (f : Text) (fs : List Text) → Once (f ∷ fs) → Once fs
once_rest f fs o = λ i j d lt l. o (suc i) (suc j) d (omega arith) (omega arith)

-- lists without repetition
abbrev pub Apart : List ℕ → Type 0
Apart [] = Unit {0}
Apart (x ∷ xs) = (In x xs → ⊥) × Apart xs

drop_one : (x : ℕ) (ys : List ℕ) → In x ys → (zs : List ℕ) × (length ys ≡ suc (length zs)) × ((y : ℕ) → In y ys → (y ≡ x) ⊎ In y zs)
drop_one x [] i = absurd i
drop_one x (y ∷ ys) (inl e) = (ys, refl, (λ z h. elim h as (λ d. (z ≡ x) ⊎ In z ys) [ inl p ↦ inl (p ∙ sym e) | inr q ↦ inr q ]))
drop_one x (y ∷ ys) (inr i) = let r = drop_one x ys i in (
  y ∷ r.0,
  ap suc r.1,
  (λ z h. elim h as (λ d. (z ≡ x) ⊎ In z (y ∷ r.0)) [ inl p ↦ inr (inl p) | inr q ↦ elim (r.2 z q) as (λ d. (z ≡ x) ⊎ In z (y ∷ r.0)) [ inl e ↦ inl e | inr w ↦ inr (inr w) ] ]),
)

-- as many numbers as there is room for fill it
pub covers : (xs ys : List ℕ) → Apart xs → ((x : ℕ) → In x xs → In x ys) → length ys ≤ length xs → (y : ℕ) → In y ys → In y xs
covers [] [] a sub le y h = h
covers [] (z ∷ ys) a sub le y h = absurd (omega arith)
covers (x ∷ xs) ys a sub le y h = let r = drop_one x ys (sub x (inl refl)) in elim (r.2 y h) as (λ d. In y (x ∷ xs)) [
  | inl e ↦ inl e
  | inr w ↦ inr (covers xs r.0 a.1 (λ z i. elim (r.2 z (sub z (inr i))) as (λ d. In z r.0) [ inl e ↦ absurd (a.0 (subst (λ q. In q xs) e i)) | inr v ↦ v ]) (let l : length ys ≡ suc (length r.0) = r.1 in omega arith) y w)
]

pub long_map : (f : Text → ℕ) (fs : List Text) → length (map f fs) ≡ length fs
long_map f [] = refl
long_map f (x ∷ fs) = ap suc (long_map f fs)

pub label_named : (f : Text → ℕ) (fs : List Text) (l : ℕ) → In l (map f fs) → (s : Text) × Named s fs × (l ≡ f s)
label_named f [] l i = absurd i
label_named f (x ∷ fs) l (inl e) = (x, inl refl, e)
label_named f (x ∷ fs) l (inr i) = let r = label_named f fs l i in (r.0, inr r.1, r.2)

pub labels_apart : (N : Names) → AreNames N → (fs : List Text) → Once fs → Apart (map N.label fs)
labels_apart N are [] o = tt
labels_apart N are (f ∷ fs) o = ((λ i. let r = label_named N.label fs (N.label f) i in once_first f fs o (subst (λ s. Named s fs) (sym (are.one_label f r.0 r.2)) r.1)), labels_apart N are fs (once_rest f fs o))

pub numbers_apart : (xs : List ℕ) → Once xs → Apart xs
numbers_apart [] o = tt
numbers_apart (x ∷ xs) o = ((λ i. let r = list_in xs x i in let lt : r.0 < length xs = r.1 in o 0 (suc r.0) x (omega arith) (omega arith) (sym r.2)), numbers_apart xs (λ i j d lt l. o (suc i) (suc j) d (omega arith) (omega arith)))

-- ---- a part for each label
some_is : {A : Type 0} {x y : A} → Some x ≡ Some y → x ≡ y
some_is e = cc

pub here_place : (x : ℕ) (xs : List ℕ) (t : Ty) (ts : Tys) → part_at (place_from 0 x (x ∷ xs)) (more t ts) ≡ Some t
unfolding place_from part_at
here_place x xs t ts = ap (λ b. part_at (if b then Some 0 else place_from 1 x xs) (more t ts)) (eq-eqb x x refl)

pub there_place : (l x : ℕ) (xs : List ℕ) (t : Ty) (ts : Tys) → x ≢ l → part_at (place_from 0 l (x ∷ xs)) (more t ts) ≡ part_at (place_from 0 l xs) ts
unfolding place_from
there_place l x xs t ts ne = ap (λ b. part_at (if b then Some 0 else place_from 1 l xs) (more t ts)) (ne_eqb x l ne) ∙ ap (λ o. part_at o (more t ts)) (place_up 0 l xs) ∙ part_up (place_from 0 l xs) t ts

pub placed_label : (l : ℕ) (ls : List ℕ) (ts : Tys) (u : Ty) → part_at (place_from 0 l ls) ts ≡ Some u → In l ls
unfolding part_at
placed_label l ls ts u e = known (place_from 0 l ls) refl e
  where
    known : (o : Option ℕ) → place_from 0 l ls ≡ o → part_at o ts ≡ Some u → In l ls
    known None is e = absurd (let z : None ≡ Some u = e in cc)
    known (Some i) is e = placed_in 0 l ls i is

module _ (N : Names) (T : Told) (M : FlatMode) (budget : ℕ) (total : Bool) (tops : FlatTops) where
  pub fit_all : (ls : List ℕ) (ts : Tys) (fs : FlatFields) → Apart ls → count ts ≡ length ls → ((l : ℕ) (t : Ty) → part_at (place_from 0 l ls) ts ≡ Some t → Field_of N T M budget total l t tops fs) → Fields_fit N T M budget total ls ts tops fs
  unfolding Fields_fit
  fit_all [] none fs a e h = tt
  fit_all [] (more t ts) fs a e h = absurd (let z : 1 + count ts ≡ 0 = e in omega arith)
  fit_all (l ∷ ls) none fs a e h = absurd (let z : 0 ≡ suc (length ls) = e in omega arith)
  fit_all (l ∷ ls) (more t ts) fs a e h = (
    h l t (here_place l ls t ts),
    fit_all ls ts fs a.1 (let z : 1 + count ts ≡ suc (length ls) = e in omega arith) (λ m u p. h m u (there_place m l ls t ts (λ same. a.0 (subst (λ x. In x ls) (sym same) (placed_label m ls ts u p))) ∙ p)),
  )

  -- values under their names, each of the type of its part
  record Built (t : Ty) (fs : List Text) (vs : List FlatValue) : Type 0 where
    pairs : List (Text × FlatValue)
    named : named_values fs vs ≡ Some pairs
    ordered : In_order (fields pairs)
    keys_to : (s : Text) → Is_key s (fields pairs) → Named s fs
    keys_from : (s : Text) → Named s fs → Is_key s (fields pairs)
    parts : (s : Text) → Named s fs → (u : Ty) × (v : FlatValue) × HasPart N.shapes (N.label s) t u × (field s (fields pairs) ≡ Some v) × Fits N T M budget total u tops v

  built : (t : Ty) (fs : List Text) (us : Tys) (vs : List FlatValue) → Once fs → Parts_named N fs t us → Each_fits N T M budget total us tops vs → Built t fs vs
  built t [] none [] o h k = record { pairs = []; named = refl; ordered = tt; keys_to = λ s i. i; keys_from = λ s i. i; parts = λ s i. absurd i }
  built t [] none (v ∷ vs) o h k = absurd k
  built t [] (more u us) vs o h k = absurd h
  built t (f ∷ fs) none vs o h k = absurd h
  built t (f ∷ fs) (more u us) [] o h k = absurd k
  built t (f ∷ fs) (more u us) (v ∷ vs) o h k = let r = built t fs us vs (once_rest f fs o) h.1 k.1 in let lacks : Is_key f (fields r.pairs) → ⊥ = λ i. once_first f fs o (r.keys_to f i) in record {
    pairs = (f, v) ∷ r.pairs;
    named = ap (with_name f v) r.named;
    ordered = order_put f v (fields r.pairs) lacks r.ordered;
    keys_to = λ s i. elim (key_put s f v (fields r.pairs) i) as (λ d. Named s (f ∷ fs)) [ inl e ↦ inl e | inr j ↦ inr (r.keys_to s j) ];
    keys_from = λ s i. key_stays s f v (fields r.pairs) (elim i as (λ d. (s ≡ f) ⊎ Is_key s (fields r.pairs)) [ inl e ↦ inl e | inr j ↦ inr (r.keys_from s j) ]);
    parts = λ s i. elim (same_text f s) as (λ d. (x : Ty) × (w : FlatValue) × HasPart N.shapes (N.label s) t x × (field s (with_field f v (fields r.pairs)) ≡ Some w) × Fits N T M budget total x tops w) [
      | inl e ↦ (u, v, subst (λ x. HasPart N.shapes (N.label x) t u) e h.0, subst (λ x. field x (with_field f v (fields r.pairs)) ≡ Some v) e (field_put f v (fields r.pairs) lacks), k.0)
      | inr ne ↦ let p = r.parts s (elim i as (λ d. Named s fs) [ inl e ↦ absurd (ne (sym e)) | inr j ↦ j ]) in (p.0, p.1, p.2, field_stays s f v (fields r.pairs) ne ∙ p.3, p.4)
    ];
  }

  module _ (are : AreNames N) where
    -- a record of values under the names of its type
    pub record_made : (fs : List Text) (t : Ty) (us : Tys) (vs : List FlatValue) → IsRecord N fs t us → Each_fits N T M budget total us tops vs → HasOut (Fits N T M budget total t tops) (and_then (or_wrong (named_values fs vs)) (λ l. Val (Record_value (fields l))))
    unfolding Fits part_named place
    record_made fs t us vs r k =
        let b : Built t fs vs = built t fs us vs r.once r.named k in
        let ls : List ℕ = N.shapes.fields r.number in
        let inside : (s : Text) → Named s fs → In (N.label s) (N.shapes.fields r.number) = λ s i. let p = b.parts s i in placed_label (N.label s) (N.shapes.fields r.number) r.parts p.0 (subst (λ x. HasPart N.shapes (N.label s) x p.0) r.made p.2) in
        let filled : (l : ℕ) → In l (N.shapes.fields r.number) → In l (map N.label fs) = covers (map N.label fs) (N.shapes.fields r.number) (labels_apart N are fs r.once)
        (λ l i. let q = label_named N.label fs l i in subst (λ x. In x (N.shapes.fields r.number)) (sym q.2) (inside q.0 q.1)) (let x = r.fields in let y = long_map N.label fs in omega (arith, x, y)) in
        let fit : Fits N T M budget total (Made (head.Record r.number) r.parts) tops (Record_value (fields b.pairs)) = (
          record {
            ordered = b.ordered;
            same = λ s. (
              (λ i. list_in (N.shapes.fields r.number) (N.label s) (inside s (b.keys_to s i))),
              (λ c. let q = label_named N.label fs (N.label s) (filled (N.label s) (in_list (N.shapes.fields r.number) (N.label s) c)) in b.keys_from s (subst (λ x. Named x fs) (sym (are.one_label s q.0 q.2)) q.1)),
            );
          },
          fit_all (N.shapes.fields r.number) r.parts (fields b.pairs) (numbers_apart (N.shapes.fields r.number) (are.once r.number)) (r.all ∙ sym r.fields) (λ l u p.
              let q = label_named N.label fs l (filled l (placed_label l (N.shapes.fields r.number) r.parts u p)) in
              let c = b.parts q.0 q.1 in
              let same : c.0 ≡ u = one_part N.shapes l (Made (head.Record r.number) r.parts) c.0 u (subst (λ x. HasPart N.shapes x (Made (head.Record r.number) r.parts) c.0) (sym q.2) (subst (λ x. HasPart N.shapes (N.label q.0) x c.0) r.made c.2)) p in
              (q.0, c.1, sym q.2, c.3, subst (λ x. Fits N T M budget total x tops c.1) same c.4)),
        ) in
        subst (λ o. HasOut (Fits N T M budget total t tops) (and_then (or_wrong o) (λ l. Val (Record_value (fields l))))) (sym b.named) (subst (λ x. Fits N T M budget total x tops (Record_value (fields b.pairs))) (sym r.made) fit)
