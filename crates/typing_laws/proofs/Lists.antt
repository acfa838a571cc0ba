-- Lists of numbers without repetition, the labels of names under two numberings, and the record of the same names.
use Rattle.std.proofs.Common.{◌≡◌, ℕ, zero, suc, ◌+◌, ◌≤◌, ◌<◌, refl, sym, ◌∙◌, ap, subst, arith, List, [], ◌∷◌, length, map, slice_index_or}
use mathlib.Core.Logic.{◌⊎◌, inl, inr}
use Rattle.std.specs.List.{Contains}
use Rattle.fut_ast.specs.Sorts.{Text}
use Rattle.fut_types.specs.Types.{Tys, none, more}
use Rattle.fut_typing.specs.Names.{Names, AreNames, Once, count}
use Rattle.fut_typing.proofs.Members.{In, in_list, list_in}

long_map : (f : Text → ℕ) (fs : List Text) → length (map f fs) ≡ length fs
long_map f [] = refl
long_map f (x ∷ fs) = ap suc (long_map f fs)

map_at : (f : Text → ℕ) (fs : List Text) (i : ℕ) (d : Text) → slice_index_or (map f fs) i (f d) ≡ f (slice_index_or fs i d)
map_at f [] i d = refl
map_at f (x ∷ fs) zero d = refl
map_at f (x ∷ fs) (suc i) d = map_at f fs i d

-- names whose labels are apart are apart
once_back : (f : Text → ℕ) (fs : List Text) → Once (map f fs) → Once fs
once_back f fs once i j d lt within e = once i j (f d) lt (let z : length (map f fs) ≡ length fs = long_map f fs in omega arith) (map_at f fs i d ∙ ap f e ∙ sym (map_at f fs j d))

-- ---- by recursion
abbrev pub Apart : List ℕ → Type 0
Apart [] = Unit {0}
Apart (x ∷ xs) = (In x xs → ⊥) × Apart xs

apart_once : (xs : List ℕ) → Once xs → Apart xs
apart_once [] o = tt
apart_once (x ∷ xs) o = ((λ i. let r = list_in xs x i in let lt : r.0 < length xs = r.1 in o 0 (suc r.0) x (omega arith) (omega arith) (sym r.2)), apart_once xs (λ i j d lt l. o (suc i) (suc j) d (omega arith) (omega arith)))

at_in : (xs : List ℕ) (i d : ℕ) → i < length xs → In (slice_index_or xs i d) xs
at_in [] i d lt = absurd (omega arith)
at_in (x ∷ xs) zero d lt = inl refl
at_in (x ∷ xs) (suc i) d lt = inr (at_in xs i d (omega arith))

once_apart : (xs : List ℕ) → Apart xs → Once xs
once_apart [] a i j d lt within = absurd (omega arith)
once_apart (x ∷ xs) a i zero d lt within = absurd (omega arith)
once_apart (x ∷ xs) a zero (suc j) d lt within = λ e. a.0 (subst (λ y. In y xs) (sym e) (at_in xs j d (omega arith)))
once_apart (x ∷ xs) a (suc i) (suc j) d lt within = once_apart xs a.1 i j d (omega arith) (omega arith)

without : (x : ℕ) (ys : List ℕ) → In x ys → (zs : List ℕ) × (length ys ≡ suc (length zs)) × ((y : ℕ) → In y ys → (y ≡ x) ⊎ In y zs)
without x [] i = absurd i
without x (y ∷ ys) (inl e) = (ys, refl, λ z. elim [ inl p ↦ inl (p ∙ sym e) | inr q ↦ inr q ])
without x (y ∷ ys) (inr i) = let r = without x ys i in (
  y ∷ r.0,
  ap suc r.1,
  λ z. elim [ inl p ↦ inr (inl p) | inr q ↦ elim (r.2 z q) as (λ d. (z ≡ x) ⊎ In z (y ∷ r.0)) [ inl e ↦ inl e | inr w ↦ inr (inr w) ] ],
)

-- a part of a list is no longer
fewer : (xs ys : List ℕ) → Apart xs → ((x : ℕ) → In x xs → In x ys) → length xs ≤ length ys
fewer [] ys a sub = omega arith
fewer (x ∷ xs) ys a sub =
    let r = without x ys (sub x (inl refl)) in
    let le : length xs ≤ length r.0 = fewer xs r.0 a.1 (λ z i. elim (r.2 z (sub z (inr i))) as (λ d. In z r.0) [ inl e ↦ absurd (a.0 (subst (λ q. In q xs) e i)) | inr v ↦ v ]) in
    let l : length ys ≡ suc (length r.0) = r.1 in omega arith

-- ---- labels under two numberings
pub relabelled : (M N : Names) → AreNames M → (fs : List Text) (s : Text) → In (M.label s) (map M.label fs) → In (N.label s) (map N.label fs)
relabelled M N are [] s i = absurd i
relabelled M N are (f ∷ fs) s (inl e) = inl (ap N.label (are.one_label s f e))
relabelled M N are (f ∷ fs) s (inr i) = inr (relabelled M N are fs s i)

relabelled_apart : (M N : Names) → AreNames M → AreNames N → (fs : List Text) → Apart (map M.label fs) → Apart (map N.label fs)
relabelled_apart M N m n [] a = tt
relabelled_apart M N m n (f ∷ fs) a = ((λ i. a.0 (relabelled N M n fs f i)), relabelled_apart M N m n fs a.1)

-- the names of labels
spelled : (f : Text → ℕ) (ls : List ℕ) → ((l : ℕ) → In l ls → (s : Text) × (l ≡ f s)) → (fs : List Text) × (map f fs ≡ ls)
spelled f [] named = ([], refl)
spelled f (l ∷ ls) named = let here = named l (inl refl) in let rest = spelled f ls (λ x i. named x (inr i)) in (here.0 ∷ rest.0, λ i. sym here.1 i ∷ rest.1 i)

-- ---- the record of the same names
module _ (N : Names) (are : AreNames N) where
  spelled_record : (n : ℕ) → (fs : List Text) × (map N.label fs ≡ N.shapes.fields n)
  spelled_record n = spelled N.label (N.shapes.fields n) (λ l i. are.named n l (list_in (N.shapes.fields n) l i))

  pub names : ℕ → List Text
  names n = (spelled_record n).0

  pub names_are : (n : ℕ) → map N.label (names n) ≡ N.shapes.fields n
  unfolding names
  names_are n = (spelled_record n).1

  pub names_apart : (n : ℕ) → Apart (map N.label (names n))
  names_apart n = apart_once (map N.label (names n)) (subst Once (sym (names_are n)) (are.once n))

  pub names_long : (n : ℕ) → length (N.shapes.fields n) ≡ length (names n)
  names_long n = sym (ap length (names_are n)) ∙ long_map N.label (names n)

-- ---- as many names as there are parts, from the front on
abbrev pub cut : List Text → Tys → List Text
cut [] ts = []
cut (f ∷ fs) none = []
cut (f ∷ fs) (more t ts) = f ∷ cut fs ts

cut_same : (fs : List Text) (ts us : Tys) → count ts ≡ count us → cut fs ts ≡ cut fs us
cut_same [] ts us e = refl
cut_same (f ∷ fs) none none e = refl
cut_same (f ∷ fs) none (more u us) e = absurd (let z : 0 ≡ 1 + count us = e in omega arith)
cut_same (f ∷ fs) (more t ts) none e = absurd (let z : 1 + count ts ≡ 0 = e in omega arith)
cut_same (f ∷ fs) (more t ts) (more u us) e = ap (λ gs. f ∷ gs) (cut_same fs ts us (let z : 1 + count ts ≡ 1 + count us = e in omega arith))

cut_all : (fs : List Text) (ts : Tys) → count ts ≡ length fs → cut fs ts ≡ fs
cut_all [] ts e = refl
cut_all (f ∷ fs) none e = absurd (let z : 0 ≡ suc (length fs) = e in omega arith)
cut_all (f ∷ fs) (more t ts) e = ap (λ gs. f ∷ gs) (cut_all fs ts (let z : 1 + count ts ≡ suc (length fs) = e in omega arith))

cut_in : (label : Text → ℕ) (fs : List Text) (ts : Tys) (l : ℕ) → In l (map label (cut fs ts)) → In l (map label fs)
cut_in label [] ts l i = absurd i
cut_in label (f ∷ fs) none l i = absurd i
cut_in label (f ∷ fs) (more t ts) l (inl e) = inl e
cut_in label (f ∷ fs) (more t ts) l (inr i) = inr (cut_in label fs ts l i)

cut_apart : (label : Text → ℕ) (fs : List Text) (ts : Tys) → Apart (map label fs) → Apart (map label (cut fs ts))
cut_apart label [] ts a = tt
cut_apart label (f ∷ fs) none a = tt
cut_apart label (f ∷ fs) (more t ts) a = ((λ i. a.0 (cut_in label fs ts (label f) i)), cut_apart label fs ts a.1)

-- ---- the record of the names of which there are parts
module _ (M N : Names) (m : AreNames M) (n : AreNames N) where
  abbrev pub present : ℕ → Tys → List Text
  present r ts = cut (names M m r) ts

  present_once : (r : ℕ) (ts : Tys) → Once (present r ts)
  present_once r ts = once_back M.label (present r ts) (once_apart (map M.label (present r ts)) (cut_apart M.label (names M m r) ts (names_apart M m r)))

  pub number : ℕ → Tys → ℕ
  number r ts = (n.every (present r ts) (present_once r ts)).0

  pub number_has : (r : ℕ) (ts : Tys) (l : ℕ) → In l (map N.label (present r ts)) → In l (N.shapes.fields (number r ts))
  unfolding number
  number_has r ts l i = in_list (N.shapes.fields (number r ts)) l (((n.every (present r ts) (present_once r ts)).1 l).1 (list_in (map N.label (present r ts)) l i))

  pub number_only : (r : ℕ) (ts : Tys) (l : ℕ) → In l (N.shapes.fields (number r ts)) → In l (map N.label (present r ts))
  unfolding number
  number_only r ts l i = in_list (map N.label (present r ts)) l (((n.every (present r ts) (present_once r ts)).1 l).0 (list_in (N.shapes.fields (number r ts)) l i))

  -- it hangs on how many parts there are, and not on them
  pub number_same : (r : ℕ) (ts us : Tys) → count ts ≡ count us → number r ts ≡ number r us
  number_same r ts us e = n.one_record (number r ts) (number r us) (λ l. (step ts us e l, step us ts (sym e) l))
    where
      step : (ts us : Tys) → count ts ≡ count us → (l : ℕ) → Contains (N.shapes.fields (number r ts)) l → Contains (N.shapes.fields (number r us)) l
      step ts us e l c = list_in (N.shapes.fields (number r us)) l (number_has r us l (subst (λ fs. In l (map N.label fs)) (cut_same (names M m r) ts us e) (number_only r ts l (in_list (N.shapes.fields (number r ts)) l c))))

  number_long : (r : ℕ) (ts : Tys) → length (N.shapes.fields (number r ts)) ≡ length (present r ts)
  number_long r ts =
      let q : ℕ = number r ts in
      let here : length (map N.label (present r ts)) ≡ length (present r ts) = long_map N.label (present r ts) in
      let most : length (N.shapes.fields q) ≤ length (map N.label (present r ts)) = fewer (N.shapes.fields q) (map N.label (present r ts)) (apart_once (N.shapes.fields q) (n.once q)) (number_only r ts) in
      let least : length (map N.label (present r ts)) ≤ length (N.shapes.fields q) = fewer (map N.label (present r ts)) (N.shapes.fields q) (relabelled_apart M N m n (present r ts) (cut_apart M.label (names M m r) ts (names_apart M m r))) (number_has r ts) in omega arith

  -- where there are as many as names it has as many names
  pub number_whole : (r : ℕ) (ts : Tys) → count ts ≡ length (M.shapes.fields r) → length (N.shapes.fields (number r ts)) ≡ length (M.shapes.fields r)
  number_whole r ts e = number_long r ts ∙ ap length (cut_all (names M m r) ts (e ∙ names_long M m r)) ∙ sym (names_long M m r)

  -- and the same ones
  pub whole_has : (r : ℕ) (ts : Tys) (s : Text) → count ts ≡ length (M.shapes.fields r) → In (M.label s) (M.shapes.fields r) → In (N.label s) (N.shapes.fields (number r ts))
  whole_has r ts s e i = number_has r ts (N.label s) (relabelled M N m (present r ts) s (subst (In (M.label s)) (sym (names_are M m r) ∙ ap (map M.label) (sym (cut_all (names M m r) ts (e ∙ names_long M m r)))) i))

  whole_only : (r : ℕ) (ts : Tys) (s : Text) → count ts ≡ length (M.shapes.fields r) → In (N.label s) (N.shapes.fields (number r ts)) → In (M.label s) (M.shapes.fields r)
  whole_only r ts s e i = subst (In (M.label s)) (ap (map M.label) (cut_all (names M m r) ts (e ∙ names_long M m r)) ∙ names_are M m r) (relabelled N M n (present r ts) s (number_only r ts (N.label s) i))

pub number_back : (M N : Names) (m : AreNames M) (n : AreNames N) (r : ℕ) (ts us : Tys) → count ts ≡ length (M.shapes.fields r) → count us ≡ length (N.shapes.fields (number M N m n r ts)) → number N M n m (number M N m n r ts) us ≡ r
number_back M N m n r ts us e d = m.one_record (number N M n m (number M N m n r ts) us) r (λ l. (to l, back l))
  where
    q : ℕ
    q = number M N m n r ts

    to : (l : ℕ) → Contains (M.shapes.fields (number N M n m q us)) l → Contains (M.shapes.fields r) l
    to l c =
        let s = m.named (number N M n m q us) l c in
        let i = subst (λ x. In x (M.shapes.fields (number N M n m q us))) s.1 (in_list (M.shapes.fields (number N M n m q us)) l c) in
        subst (Contains (M.shapes.fields r)) (sym s.1) (list_in (M.shapes.fields r) (M.label s.0) (whole_only M N m n r ts s.0 e (whole_only N M n m q us s.0 d i)))

    back : (l : ℕ) → Contains (M.shapes.fields r) l → Contains (M.shapes.fields (number N M n m q us)) l
    back l c =
        let s = m.named r l c in
        let i = subst (λ x. In x (M.shapes.fields r)) s.1 (in_list (M.shapes.fields r) l c) in
        subst (Contains (M.shapes.fields (number N M n m q us))) (sym s.1) (list_in (M.shapes.fields (number N M n m q us)) (M.label s.0) (whole_has N M n m q us s.0 d (whole_has M N m n r ts s.0 e i)))
