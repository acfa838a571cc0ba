-- The places of a record's labels among the fields that are written.
use Rattle.std.proofs.Common.{◌≡◌, ℕ, zero, suc, ◌+◌, ◌≤◌, ◌<◌, ◌^◌, Bool, true, false, cond, nat_eq, List, [], ◌∷◌, map, set, length, get_or, drop, replicate, Option, Some, None, refl, sym, ap, ◌∙◌, subst, arith}
use Rattle.std.specs.Prelude.{if◌then◌else◌, ◌==◌}
use Rattle.std.specs.Borrow.{Bor}
use mathlib.Core.Logic.{inl, inr}
use Rattle.std.proofs.Math.Seq.{drop-cons}
use Rattle.std.proofs.lemmas.Bool.{eq-eqb}
use Rattle.std.proofs.lemmas.Bool.Decides.{eqb_tells}
use Rattle.fut_ast.specs.Sorts.{Text}
use Rattle.fut_flat.specs.Erased.{texts}
use Rattle.fut_types.specs.declared.Head.TheVariants as head
use Rattle.fut_types.specs.Shapes.{Shapes, IsTable, Rising, Tells_position, labels_from, place, place_from, row_of}
use Rattle.fut_types.specs.declared.shapes.ShapeTable.{ShapeTable}
use Rattle.fut_types.specs.Shapes as shapes
use Rattle.fut_types.proofs.ShapeLaws.{place_none, place_step}
use Rattle.fut_typing.specs.Names.{Names}
use Rattle.alias_parts.specs.declared.names.PartNames.{PartNames}
use Rattle.alias_parts.specs.Known.{Knows}
use Rattle.record_places.specs.Places.{noted, written_at, written_places}

-- ---- the place of a label in a list that rises

none_some : {A : Type 0} {B : Type 0} (x : A) → None ≡ Some x → B
none_some x e = cc

some_same : (i j : ℕ) → Some i ≡ Some j → i ≡ j
some_same i j e = cc

if_same : {A : Type 0} (x y : ℕ) (p q : A) → x ≡ y → (if x == y then p else q) ≡ p
if_same x y p q e = ap (λ b. cond b p q) (eq-eqb x y e)

if_other : {A : Type 0} (x y : ℕ) (p q : A) → (x ≡ y → ⊥) → (if x == y then p else q) ≡ q
if_other {A} x y p q n = elim (eqb_tells x y) as (λ d. (if x == y then p else q) ≡ q) [ inl s ↦ absurd (n s.1) | inr s ↦ ap (λ b. cond b p q) s.0 ]

module _ (x : ℕ) where
  here : (at y : ℕ) (ys : List ℕ) → x ≡ y → place_from at x (y ∷ ys) ≡ Some at
  here at y ys e = place_step at x y ys ∙ if_same y x (Some at) (place_from (suc at) x ys) (sym e)

  later : (at y : ℕ) (ys : List ℕ) → (x ≡ y → ⊥) → place_from at x (y ∷ ys) ≡ place_from (suc at) x ys
  later at y ys n = place_step at x y ys ∙ if_other y x (Some at) (place_from (suc at) x ys) (λ e. n (sym e))

  -- a place is among those of the list
  within : (at : ℕ) (ls : List ℕ) (i : ℕ) → place_from at x ls ≡ Some i → (at ≤ i) × (i < at + length ls)
  within at [] i e = none_some i (sym (place_none at x) ∙ e)
  within at (y ∷ ys) i e = elim (eqb_tells x y) as (λ d. (at ≤ i) × (i < at + length (y ∷ ys))) [
    | inl s ↦ (let f : at ≡ i = some_same at i (sym (here at y ys s.1) ∙ e) in (omega (arith, f), omega (arith, f)))
    | inr s ↦ (let r : (suc at ≤ i) × (i < suc at + length ys) = within (suc at) ys i (sym (later at y ys s.1) ∙ e) in (omega (arith, r.0), omega (arith, r.1)))
  ]

  module _ (v : ℕ) (g : ℕ → ℕ) where
    abbrev marked : ℕ → ℕ
    marked l = cond (nat_eq x l) v (g l)

    marked_other : (y : ℕ) → nat_eq x y ≡ false → g y ≡ marked y
    marked_other y e = ap (λ b. cond b v (g y)) (sym e)

    marked_same : (y : ℕ) → nat_eq x y ≡ true → v ≡ marked y
    marked_same y e = ap (λ b. cond b v (g y)) (sym e)

    none_marked : (at : ℕ) (ls : List ℕ) → place_from at x ls ≡ None → map g ls ≡ map marked ls
    none_marked at [] e = refl
    none_marked at (y ∷ ys) e = elim (eqb_tells x y) as (λ d. map g (y ∷ ys) ≡ map marked (y ∷ ys)) [
      | inl s ↦ none_some at (sym e ∙ here at y ys s.1)
      | inr s ↦ ap (λ z. z ∷ map g ys) (marked_other y s.0) ∙ ap (λ z. marked y ∷ z) (none_marked (suc at) ys (sym (later at y ys s.1) ∙ e))
    ]

    above_marked : (from : ℕ) (ls : List ℕ) → Rising from ls → x < from → map g ls ≡ map marked ls
    above_marked from [] r l = refl
    above_marked from (y ∷ ys) r l = elim (eqb_tells x y) as (λ d. map g (y ∷ ys) ≡ map marked (y ∷ ys)) [
      | inl s ↦ absurd (omega (arith, l, r.0, s.1))
      | inr s ↦ ap (λ z. z ∷ map g ys) (marked_other y s.0) ∙ ap (λ z. marked y ∷ z) (above_marked (suc y) ys r.1 (omega (arith, l, r.0)))
    ]

    found_marked : (from at : ℕ) (ls : List ℕ) (i : ℕ) → Rising from ls → place_from at x ls ≡ Some (at + i) → set (map g ls) i v ≡ map marked ls
    found_marked from at [] i r e = none_some (at + i) (sym (place_none at x) ∙ e)
    found_marked from at (y ∷ ys) zero r e = elim (eqb_tells x y) as (λ d. set (map g (y ∷ ys)) 0 v ≡ map marked (y ∷ ys)) [
      | inl s ↦ ap (λ z. z ∷ map g ys) (marked_same y s.0) ∙ ap (λ z. marked y ∷ z) (above_marked (suc y) ys r.1 (omega (arith, s.1)))
      | inr s ↦ (let w : (suc at ≤ at + 0) × (at + 0 < suc at + length ys) = within (suc at) ys (at + 0) (sym (later at y ys s.1) ∙ e) in absurd (omega (arith, w.0)))
    ]
    found_marked from at (y ∷ ys) (suc i) r e = elim (eqb_tells x y) as (λ d. set (map g (y ∷ ys)) (suc i) v ≡ map marked (y ∷ ys)) [
      | inl s ↦ (let w : at ≡ at + suc i = some_same at (at + suc i) (sym (here at y ys s.1) ∙ e) in absurd (omega (arith, w)))
      | inr s ↦ ap (λ z. z ∷ set (map g ys) i v) (marked_other y s.0) ∙ ap (λ z. marked y ∷ z) (found_marked (suc y) (suc at) ys i r.1 (sym (later at y ys s.1) ∙ e ∙ ap Some (omega arith)))
    ]

    told_marked : (ls : List ℕ) (o : Option ℕ) → Rising 0 ls → length ls < 2 ^ 32 → Tells_position o (place_from 0 x ls) → noted o v (map g ls) ≡ map marked ls
    told_marked ls (Some i) r l t = found_marked 0 0 ls i r (t ∙ ap Some (omega arith))
    told_marked ls None r l t = by_place (place_from 0 x ls) refl
      where
        by_place : (q : Option ℕ) → place_from 0 x ls ≡ q → map g ls ≡ map marked ls
        by_place None e = none_marked 0 ls e
        by_place (Some i) e = let far : 2 ^ 32 ≤ i = t i e in let near : i < 0 + length ls = (within 0 ls i e).1 in absurd (omega (arith, far, near, l))

labels_long : (labels : List ℕ) (first count : ℕ) → length (labels_from labels first count) ≡ count
unfolding labels_from
labels_long labels first zero = refl
labels_long labels first (suc count) = ap suc (labels_long labels (suc first) count)

pub fields_long : (table : ShapeTable) (n : ℕ) → length (shapes.fields_of table n) ≡ (get_or table.records n (record { first = 0; count = 0 })).count
unfolding row_of
fields_long table n = labels_long table.labels (get_or table.records n (record { first = 0; count = 0 })).first (get_or table.records n (record { first = 0; count = 0 })).count

-- ---- from the last part that is written to the first

all_behind : (ls : List ℕ) (v : ℕ) → replicate (length ls) v ≡ map (λ (l : ℕ). v) ls
all_behind [] v = refl
all_behind (y ∷ ys) v = ap (λ z. v ∷ z) (all_behind ys v)

place_record : (S : Shapes) (l n : ℕ) → place S l (head.Record n) ≡ place_from 0 l (S.fields n)
unfolding place
place_record S l n = refl

module _ (names : PartNames) (n : ℕ) (fs : List (Bor Text)) where
  -- the places that are noted when the parts from here on were looked at
  pub record Noted (places : List ℕ) (at : ℕ) : Type 0 where
    pub placed : (N : Names) → Knows names N → places ≡ written_places N n (texts (drop at fs)) at
    pub behind : at ≤ length fs

  module _ (count : ℕ) (known : n < length names.table.now.records) (long : length (shapes.fields_of names.table.now n) ≡ count) where
    pub noted_begin : (places : List ℕ) → places ≡ replicate count (length fs) → Noted places (length fs)
    noted_begin places e = record {
      placed = λ N k. e ∙ ap (λ z. replicate z (length fs)) (sym long ∙ ap length (sym (k.shapes.fields n known))) ∙ all_behind (N.shapes.fields n) (length fs) ∙ ap (λ z. map (written_at N (texts z) (length fs)) (N.shapes.fields n)) (sym (all_dropped fs));
      behind = omega arith;
    }
      where
        all_dropped : (xs : List (Bor Text)) → drop (length xs) xs ≡ []
        all_dropped [] = refl
        all_dropped (x ∷ xs) = all_dropped xs

    pub noted_more : IsTable names.table.now → count < 2 ^ 32 → (places longer : List ℕ) (next at : ℕ) (d : Bor Text) (o : Option ℕ) → next ≡ suc at → Noted places next → ((N : Names) → Knows names N → Tells_position o (place N.shapes (N.label (get_or fs at d).now) (head.Record n))) → longer ≡ noted o at places → Noted longer at
    noted_more table few places longer next at d o step held t e = record {
      placed = λ N k.
          let h : Noted places (suc at) = subst (Noted places) step held in
          let fields : N.shapes.fields n ≡ shapes.fields_of names.table.now n = k.shapes.fields n known in
          let short : length (N.shapes.fields n) < 2 ^ 32 = omega (arith, few, long, ap length fields) in
          e ∙ ap (noted o at) (h.placed N k)
          ∙ told_marked (N.label (get_or fs at d).now) at (written_at N (texts (drop (suc at) fs)) (suc at)) (N.shapes.fields n) o (subst (Rising 0) (sym fields) (table.rising n known)) short
          (subst (Tells_position o) (place_record N.shapes (N.label (get_or fs at d).now) n) (t N k))
          ∙ ap (λ z. map (written_at N (texts z) at) (N.shapes.fields n)) (sym (drop-cons fs at d (omega (arith, held.behind, step))));
      behind = omega (arith, held.behind, step);
    }

  pub noted_end : (places : List ℕ) (at : ℕ) → Noted places at → at ≤ 0 → (N : Names) → Knows names N → places ≡ written_places N n (texts fs) 0
  noted_end places at h l N k = let e : at ≡ 0 = omega (arith, l) in h.placed N k ∙ ap (λ z. written_places N n (texts (drop z fs)) z) e

-- ---- a list that begins one place further on

pub written_shift : (N : Names) (fs : List Text) (at l : ℕ) → written_at N fs (suc at) l ≡ suc (written_at N fs at l)
written_shift N [] at l = refl
written_shift N (f ∷ fs) at l = ap (cond (nat_eq (N.label f) l) (suc at)) (written_shift N fs (suc at) l) ∙ shifted (nat_eq (N.label f) l) (written_at N fs (suc at) l)
  where
    shifted : (t : Bool) (j : ℕ) → cond t (suc at) (suc j) ≡ suc (cond t at j)
    shifted true j = refl
    shifted false j = refl
