-- The parts of a record of a type: the field of a name has the type that the name's label tells.
use Rattle.std.proofs.Common.{◌≡◌, ℕ, suc, refl, sym, ap, ◌∙◌, subst, List, [], ◌∷◌, Option, Some, None, if◌then◌else◌, ◌==◌, ne_eqb, eq-eqb, Bool}
use native.Mathlib.Decide.{ℕ_discrete}
use Rattle.fut_ast.specs.Sorts.{Text}
use Rattle.fut_types.specs.declared.Head.TheVariants as head
use Rattle.fut_types.specs.Types.{Ty, Made, Tys, none, more}
use Rattle.fut_types.specs.Shapes.{place, place_from, part_at, part_named, HasPart}
use Rattle.fut_typing.specs.Names.{Names, AreNames}
use Rattle.fut_meaning.specs.Found.{Told}
use Rattle.fut_meaning.specs.Values.{field}
use Rattle.fut_meaning.specs.Flats.{FlatValue, FlatTops, FlatMode}
use Rattle.type_soundness.specs.Fits.{FlatFields, Fits, Fields_fit}

abbrev pub up : Option ℕ → Option ℕ
up None = None
up (Some i) = Some (suc i)

-- a label's place where the list begins one place further
pub place_up : (at l : ℕ) (ls : List ℕ) → place_from (suc at) l ls ≡ up (place_from at l ls)
unfolding place_from
place_up at l [] = refl
place_up at l (x ∷ xs) = elim (ℕ_discrete x l) as (λ d. (if x == l then Some (suc at) else place_from (suc (suc at)) l xs) ≡ up (if x == l then Some at else place_from (suc at) l xs)) [
  | yes e ↦ subst (λ b. (if b then Some (suc at) else place_from (suc (suc at)) l xs) ≡ up (if b then Some at else place_from (suc at) l xs)) (sym (eq-eqb x l e)) refl
  | no ne ↦ subst (λ b. (if b then Some (suc at) else place_from (suc (suc at)) l xs) ≡ up (if b then Some at else place_from (suc at) l xs)) (sym (ne_eqb x l ne)) (place_up (suc at) l xs)
]

pub part_up : (o : Option ℕ) (t : Ty) (ts : Tys) → part_at (up o) (more t ts) ≡ part_at o ts
unfolding part_at
part_up None t ts = refl
part_up (Some i) t ts = refl

some_one : {A : Type 0} {x y : A} → Some x ≡ Some y → x ≡ y
some_one e = cc

no_some : {A : Type 0} {x : A} → None ≡ Some x → ⊥
no_some e = cc

module _ (N : Names) (T : Told) (M : FlatMode) (budget : ℕ) (total : Bool) where
  -- a field whose name has this label, with a value of this type
  abbrev pub Field_of : ℕ → Ty → FlatTops → FlatFields → Type 0
  Field_of l t tops fs = (s : Text) × (v : FlatValue) × (N.label s ≡ l) × (field s fs ≡ Some v) × Fits N T M budget total t tops v

  pub field_found : (l : ℕ) (u : Ty) (tops : FlatTops) (fs : FlatFields) (ls : List ℕ) (ts : Tys) → part_at (place_from 0 l ls) ts ≡ Some u → Fields_fit N T M budget total ls ts tops fs → Field_of l u tops fs
  unfolding Fields_fit place_from part_at
  field_found l u tops fs [] none e h = absurd (no_some e)
  field_found l u tops fs [] (more t ts) e h = absurd h
  field_found l u tops fs (x ∷ xs) none e h = absurd h
  field_found l u tops fs (x ∷ xs) (more t ts) e h = elim (ℕ_discrete x l) as (λ d. Field_of l u tops fs) [
    | yes same ↦
        let here : Some t ≡ Some u = subst (λ b. part_at (if b then Some 0 else place_from 1 l xs) (more t ts) ≡ Some u) (eq-eqb x l same) e in
        subst (λ w. Field_of l w tops fs) (some_one here) (h.0.0, h.0.1, h.0.2 ∙ same, h.0.3, h.0.4)
    | no ne ↦
        let there : part_at (place_from 1 l xs) (more t ts) ≡ Some u = subst (λ b. part_at (if b then Some 0 else place_from 1 l xs) (more t ts) ≡ Some u) (ne_eqb x l ne) e in
        field_found l u tops fs xs ts (sym (ap (λ o. part_at o (more t ts)) (place_up 0 l xs) ∙ part_up (place_from 0 l xs) t ts) ∙ there) h.1
  ]

  module _ (are : AreNames N) where
    field_value : (f : Text) (u : Ty) (tops : FlatTops) (fs : FlatFields) → Field_of (N.label f) u tops fs → (v : FlatValue) × (field f fs ≡ Some v) × Fits N T M budget total u tops v
    field_value f u tops fs h = (h.1, ap (λ s. field s fs) (sym (are.one_label h.0 f h.2)) ∙ h.3, h.4)

    -- the field of a name
    pub field_fits : (f : Text) (u : Ty) (tops : FlatTops) (n : ℕ) (ts : Tys) (fs : FlatFields) → HasPart N.shapes (N.label f) (Made (head.Record n) ts) u → Fields_fit N T M budget total (N.shapes.fields n) ts tops fs
        → (v : FlatValue) × (field f fs ≡ Some v) × Fits N T M budget total u tops v
    unfolding part_named place
    field_fits f u tops n ts fs h k = field_value f u tops fs (field_found (N.label f) u tops fs (N.shapes.fields n) ts h k)
