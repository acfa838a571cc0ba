-- A record by its number is the record of its names.
use Rattle.std.proofs.Common.{◌≡◌, ◌↔◌, ℕ, suc, ◌≤◌, ◌<◌, List, [], ◌∷◌, length, map, slice_index_or, Option, Some, None, refl, sym, ◌∙◌, ap, subst, arith}
use Rattle.std.specs.List.{Contains}
use Rattle.std.proofs.lemmas.Option.{none-some}
use mathlib.Core.Logic.{◌⊎◌, inl, inr}
use Rattle.fut_ast.specs.Sorts.{Text}
use Rattle.fut_types.specs.declared.Head.TheVariants as head
use Rattle.fut_types.specs.Types.{Ty, Made, Tys, none, more}
use Rattle.fut_types.specs.Shapes.{Shapes, place_from, place, part_at, HasPart}
use Rattle.fut_types.proofs.ShapeLaws.{part_made}
use Rattle.fut_typing.specs.Names.{Names, AreNames, Once, Parts_named, IsRecord}
use Rattle.fut_typing.proofs.Members.{In, in_list, list_in, placed_in}
use Rattle.type_rules.specs.Records.{Parts_labelled, Has_parts}

-- lists without repetition
abbrev pub Apart : List ℕ → Type 0
Apart [] = Unit {0}
Apart (x ∷ xs) = (In x xs → ⊥) × Apart xs

drop_one : (x : ℕ) (ys : List ℕ) → In x ys → (zs : List ℕ) × (length ys ≡ suc (length zs)) × ((y : ℕ) → In y ys → (y ≡ x) ⊎ In y zs)
drop_one x [] i = absurd i
drop_one x (y ∷ ys) (inl e) = (ys, refl, (λ z h. elim h as (λ d. (z ≡ x) ⊎ In z ys) [ inl p ↦ inl (p ∙ sym e) | inr q ↦ inr q ]))
drop_one x (y ∷ ys) (inr i) = let r = drop_one x ys i in (
  y ∷ r.0,
  ap suc r.1,
  (λ z h. elim h as (λ d. (z ≡ x) ⊎ In z (y ∷ r.0)) [ inl p ↦ inr (inl p) | inr q ↦ elim (r.2 z q) as (λ d. (z ≡ x) ⊎ In z (y ∷ r.0)) [ inl e ↦ inl e | inr w ↦ inr (inr w) ] ]),
)

-- as many numbers as there is room for fill it
covers : (xs ys : List ℕ) → Apart xs → ((x : ℕ) → In x xs → In x ys) → length ys ≤ length xs → (y : ℕ) → In y ys → In y xs
covers [] [] a sub le y h = h
covers [] (z ∷ ys) a sub le y h = absurd (omega arith)
covers (x ∷ xs) ys a sub le y h = let r = drop_one x ys (sub x (inl refl)) in elim (r.2 y h) as (λ d. In y (x ∷ xs)) [
  | inl e ↦ inl e
  | inr w ↦ inr (covers xs r.0 a.1 (λ z i. elim (r.2 z (sub z (inr i))) as (λ d. In z r.0) [ inl e ↦ absurd (a.0 (subst (λ q. In q xs) e i)) | inr v ↦ v ]) (let l : length ys ≡ suc (length r.0) = r.1 in omega arith) y w)
]

pub long_map : (f : Text → ℕ) (fs : List Text) → length (map f fs) ≡ length fs
long_map f [] = refl
long_map f (x ∷ fs) = ap suc (long_map f fs)

label_at : (f : Text → ℕ) (fs : List Text) (l : ℕ) → In l (map f fs) → (k : ℕ) × (k < length fs) × (l ≡ f (slice_index_or fs k []))
label_at f [] l i = absurd i
label_at f (x ∷ fs) l (inl e) = (0, omega arith, e)
label_at f (x ∷ fs) l (inr i) = let r = label_at f fs l i in let lt : r.0 < length fs = r.1 in (suc r.0, omega arith, r.2)

pub labels_apart : (N : Names) → AreNames N → (fs : List Text) → Once fs → Apart (map N.label fs)
labels_apart N are [] o = tt
labels_apart N are (f ∷ fs) o = (
  (λ i. let r = label_at N.label fs (N.label f) i in let lt : r.0 < length fs = r.1 in o 0 (suc r.0) [] (omega arith) (omega arith) (are.one_label f (slice_index_or fs r.0 []) r.2)),
  labels_apart N are fs (λ i j d lt l. o (suc i) (suc j) d (omega arith) (omega arith)),
)

made_in : (S : Shapes) (n l : ℕ) (ts : Tys) (u : Ty) → HasPart S l (Made (head.Record n) ts) u → In l (S.fields n)
unfolding place part_at
made_in S n l ts u h = known (place_from 0 l (S.fields n)) refl (sym (part_made S l (head.Record n) ts) ∙ h)
  where
    known : (o : Option ℕ) → place_from 0 l (S.fields n) ≡ o → part_at o ts ≡ Some u → In l (S.fields n)
    known None is e = absurd (none-some u e)
    known (Some i) is e = placed_in 0 l (S.fields n) i is

module _ (N : Names) where
  named_in : (n : ℕ) (ps : Tys) (fs : List Text) (us : Tys) → Parts_named N fs (Made (head.Record n) ps) us → (l : ℕ) → In l (map N.label fs) → In l (N.shapes.fields n)
  named_in n ps [] us h l i = absurd i
  named_in n ps (f ∷ fs) none h l i = absurd h
  named_in n ps (f ∷ fs) (more u us) h l (inl e) = subst (λ k. In k (N.shapes.fields n)) (sym e) (made_in N.shapes n (N.label f) ps u h.0)
  named_in n ps (f ∷ fs) (more u us) h l (inr i) = named_in n ps fs us h.1 l i

  named_to : (t : Ty) (fs : List Text) (us : Tys) → Parts_labelled N.shapes (map N.label fs) t us → Parts_named N fs t us
  named_to t [] none h = tt
  named_to t [] (more u us) h = h
  named_to t (f ∷ fs) none h = h
  named_to t (f ∷ fs) (more u us) h = (h.0, named_to t fs us h.1)

  named_from : (t : Ty) (fs : List Text) (us : Tys) → Parts_named N fs t us → Parts_labelled N.shapes (map N.label fs) t us
  named_from t [] none h = tt
  named_from t [] (more u us) h = h
  named_from t (f ∷ fs) none h = h
  named_from t (f ∷ fs) (more u us) h = (h.0, named_from t fs us h.1)

module _ (N : Names) (are : AreNames N) (fs : List Text) (once : Once fs) (number : ℕ) (all : (l : ℕ) → Contains (N.shapes.fields number) l ↔ Contains (map N.label fs) l) (long : length (N.shapes.fields number) ≡ length fs) (t : Ty) (us : Tys) where
  pub record_to : Has_parts N.shapes number (map N.label fs) t us → IsRecord N fs t us
  record_to h = record { once = once; number = number; parts = h.parts; made = h.made; fields = long; all = h.all ∙ long_map N.label fs; named = named_to N t fs us h.labelled }

  pub record_from : IsRecord N fs t us → Has_parts N.shapes number (map N.label fs) t us
  record_from r =
      let inside : (l : ℕ) → In l (map N.label fs) → In l (N.shapes.fields r.number) = named_in N r.number r.parts fs us (subst (λ u. Parts_named N fs u us) r.made r.named) in
      let outside : (l : ℕ) → In l (N.shapes.fields r.number) → In l (map N.label fs) = covers (map N.label fs) (N.shapes.fields r.number) (labels_apart N are fs once) inside (let p : length (N.shapes.fields r.number) ≡ length fs = r.fields in let q : length (map N.label fs) ≡ length fs = long_map N.label fs in omega arith) in
      let same : r.number ≡ number = are.one_record r.number number (λ l. (
        (λ c. (all l).1 (list_in (map N.label fs) l (outside l (in_list (N.shapes.fields r.number) l c)))),
        (λ c. list_in (N.shapes.fields r.number) l (inside l (in_list (map N.label fs) l ((all l).0 c)))),
      )) in record {
        parts = r.parts;
        made = r.made ∙ ap (λ n. Made (head.Record n) r.parts) same;
        all = r.all ∙ sym (long_map N.label fs);
        labelled = named_from N t fs us r.named;
      }
