-- Tables that go on.
use Rattle.std.proofs.Common.{◌≡◌, ℕ, zero, suc, ◌+◌, ◌≤◌, ◌<◌, List, [], ◌∷◌, ◌++◌, length, map, take, slice_index_or, Some, refl, sym, ◌∙◌, ap, subst, arith, append_assoc}
use Rattle.std.specs.Borrow.{Bor}
use Rattle.fut_ast.specs.Sorts.{Text}
use Rattle.fut_flat.specs.Erased.{texts}
use Rattle.fut_types.specs.declared.shapes.ShapeTable.{ShapeTable}
use Rattle.fut_typing.specs.Names.{Names}
use Rattle.type_rules.specs.declared.labels.Labels.{Labels}
use Rattle.type_rules.specs.Labels.{number_of, Goes_on, Labelled}
use Rattle.type_rules.specs.Fields.{Numbered}

append_none : {X : Type 0} (xs : List X) → xs ≡ xs ++ []
append_none [] = refl
append_none (x ∷ xs) = ap (λ l. x ∷ l) (append_none xs)

pub on_same : (labels : Labels) (table : ShapeTable) → Goes_on labels table labels table
on_same labels table = record { numbers = λ s n h. h; fields = []; records = append_none table.records; row = []; labels_are = append_none table.labels; places = []; positions = append_none table.positions }

joined : {X : Type 0} (xs ys zs us vs : List X) → ys ≡ xs ++ us → zs ≡ ys ++ vs → zs ≡ xs ++ (us ++ vs)
joined xs ys zs us vs e f = f ∙ ap (λ l. l ++ vs) e ∙ append_assoc xs us vs

pub on_then : (l0 l1 l2 : Labels) (t0 t1 t2 : ShapeTable) → Goes_on l0 t0 l1 t1 → Goes_on l1 t1 l2 t2 → Goes_on l0 t0 l2 t2
on_then l0 l1 l2 t0 t1 t2 x y = record {
  numbers = λ s n h. y.numbers s n (x.numbers s n h);
  fields = x.fields ++ y.fields;
  records = joined t0.records t1.records t2.records x.fields y.fields x.records y.records;
  row = x.row ++ y.row;
  labels_are = joined t0.labels t1.labels t2.labels x.row y.row x.labels_are y.labels_are;
  places = x.places ++ y.places;
  positions = joined t0.positions t1.positions t2.positions x.places y.places x.positions y.positions;
}

numbered_on : (l0 l1 : Labels) → ((s : Text) (n : ℕ) → number_of l0 s ≡ Some n → number_of l1 s ≡ Some n) → (ss : List Text) (ns : List ℕ) → Numbered l0 ss ns → Numbered l1 ss ns
unfolding Numbered
numbered_on l0 l1 f [] [] h = tt
numbered_on l0 l1 f [] (n ∷ ns) h = h
numbered_on l0 l1 f (s ∷ ss) [] h = h
numbered_on l0 l1 f (s ∷ ss) (n ∷ ns) h = (f s n h.0, numbered_on l0 l1 f ss ns h.1)

numbered_more : (labels : Labels) (ss : List Text) (ns : List ℕ) (s : Text) (n : ℕ) → Numbered labels ss ns → number_of labels s ≡ Some n → Numbered labels (ss ++ s ∷ []) (ns ++ n ∷ [])
unfolding Numbered
numbered_more labels [] [] s n h e = (e, tt)
numbered_more labels [] (m ∷ ns) s n h e = absurd h
numbered_more labels (t ∷ ss) [] s n h e = absurd h
numbered_more labels (t ∷ ss) (m ∷ ns) s n h e = (h.0, numbered_more labels ss ns s n h.1 e)

pub numbered_none : (labels : Labels) (ss : List Text) (ns : List ℕ) → ns ≡ [] → Numbered labels (take 0 ss) ns
unfolding Numbered
numbered_none labels ss ns e = subst (Numbered labels []) (sym e) tt

texts_at : (names : List (Bor Text)) (at : ℕ) (d : Bor Text) → at < length names → take (at + 1) (texts names) ≡ take at (texts names) ++ (slice_index_or names at d).now ∷ []
texts_at [] at d lt = absurd (omega arith)
texts_at (x ∷ names) zero d lt = refl
texts_at (x ∷ names) (suc at) d lt = ap (λ n. take n (x.now ∷ texts names)) (let e : suc at + 1 ≡ suc (at + 1) = omega arith in e) ∙ ap (λ l. x.now ∷ l) (texts_at names at d (omega arith))

pub numbered_step : (l0 l1 : Labels) (t0 t1 : ShapeTable) (names : List (Bor Text)) (at : ℕ) (d : Bor Text) (row row' : List ℕ) (n : ℕ) → Goes_on l0 t0 l1 t1 → at < length names → Numbered l0 (take at (texts names)) row → number_of l1 (slice_index_or names at d).now ≡ Some n → row' ≡ row ++ n ∷ []
    → Numbered l1 (take (at + 1) (texts names)) row'
numbered_step l0 l1 t0 t1 names at d row row' n on lt h e is = subst (Numbered l1 (take (at + 1) (texts names))) (sym is) (subst (λ ss. Numbered l1 ss (row ++ n ∷ [])) (sym (texts_at names at d lt))
    (numbered_more l1 (take at (texts names)) row (slice_index_or names at d).now n (numbered_on l0 l1 on.numbers (take at (texts names)) row h) e))

take_all : {X : Type 0} (xs : List X) (at : ℕ) → length xs ≤ at → take at xs ≡ xs
take_all [] zero h = refl
take_all [] (suc i) h = refl
take_all (x ∷ xs) zero h = absurd (omega arith)
take_all (x ∷ xs) (suc i) h = ap (λ l. x ∷ l) (take_all xs i (omega arith))

pub long_texts : (names : List (Bor Text)) → length (texts names) ≡ length names
long_texts [] = refl
long_texts (x ∷ names) = ap suc (long_texts names)

pub numbered_all : (labels : Labels) (names : List (Bor Text)) (at : ℕ) (row : List ℕ) → length names ≤ at → Numbered labels (take at (texts names)) row → Numbered labels (texts names) row
numbered_all labels names at row le h = subst (λ ss. Numbered labels ss row) (take_all (texts names) at (let e : length (texts names) ≡ length names = long_texts names in omega arith)) h

-- a numbering that goes on from the table numbers these names like that
pub numbered_map : (labels : Labels) (table : ShapeTable) (N : Names) → Labelled labels table N → (ss : List Text) (ns : List ℕ) → Numbered labels ss ns → ns ≡ map N.label ss
unfolding Numbered
numbered_map labels table N lab [] [] h = refl
numbered_map labels table N lab [] (n ∷ ns) h = absurd h
numbered_map labels table N lab (s ∷ ss) [] h = absurd h
numbered_map labels table N lab (s ∷ ss) (n ∷ ns) h = λ i. sym (lab.label s n h.0) i ∷ numbered_map labels table N lab ss ns h.1 i
