-- The principal typing under one numbering becomes the principal typing under the other: its types become others, and what is left
-- open is open under the labels of the same names.
use Rattle.std.proofs.Common.{◌≡◌, ◌≢◌, ℕ, zero, suc, ◌+◌, ◌≤◌, ◌<◌, refl, sym, ◌∙◌, ap, subst, arith, List, [], ◌∷◌, length, slice_index_or}
use Rattle.std.specs.List.{All, AllByRecursion, AllPairs, Contains}
use Rattle.std.proofs.lemmas.List.Elements.{All-from_recursion, recursion_from_All}
use Rattle.std.proofs.lemmas.List.Kept.{AllPairs-cons}
use native.Mathlib.Decide.{ℕ_discrete}
use Rattle.fut_ast.specs.Sorts.{Text}
use Rattle.fut_types.specs.declared.Kind.{Kind}
use Rattle.fut_types.specs.Types.{Sub, Kinds, HasKind, applied}
use Rattle.fut_types.specs.Shapes.{HasPart}
use Rattle.fut_typing.specs.Names.{Names, AreNames}
use Rattle.fut_typing.specs.Program.{Defined, program_numbers, Program_typed}
use Rattle.fut_typing.specs.Answers.{Open, Met, Principal}
use Rattle.fut_typing.proofs.Members.{label_of}
use Rattle.fut_typing.proofs.Generic.{all_then}
use Rattle.fut_typing.proofs.Programs.{program_same}
use Rattle.typing_laws.proofs.Moved.{moved}
use Rattle.typing_laws.proofs.Typings.{program_moves}
use Rattle.typing_laws.proofs.Exchange.{width}
use Rattle.typing_laws.proofs.Back.{to, to_faithful, to_applied, from, from_faithful, there_and_back, again_applied}

-- ---- how many parts there are in types
abbrev pub widest_type : Sub → ℕ → ℕ
widest_type a zero = 0
widest_type a (suc count) = width (a count) + widest_type a count

abbrev pub widest_part : List Open → ℕ
widest_part [] = 0
widest_part (o ∷ os) = width o.part + widest_part os

pub type_width : (a : Sub) (count v : ℕ) → v < count → width (a v) ≤ widest_type a count
type_width a zero v lt = absurd (omega arith)
type_width a (suc count) v lt = elim (ℕ_discrete v count) as (λ d. width (a v) ≤ width (a count) + widest_type a count) [
  | yes e ↦ (let z : width (a v) ≡ width (a count) = ap (λ i. width (a i)) e in omega arith)
  | no ne ↦ (let z : width (a v) ≤ widest_type a count = type_width a count v (apart v count lt ne) in omega arith)
]
  where
    apart : (v count : ℕ) → v < suc count → (v ≡ count → ⊥) → v < count
    apart v count lt ne = omega arith

module _ (M N : Names) (m : AreNames M) (n : AreNames N) (b : ℕ) where
  -- ---- what is left open
  abbrev pub Spelled : Open → Type 0
  Spelled o = (s : Text) × (o.label ≡ M.label s)

  abbrev other_open : Open → Text → Open
  other_open o s = record { variable = o.variable; label = N.label s; part = moved (to M N m n b) o.part }

  abbrev pub other_opens : (os : List Open) → AllByRecursion Spelled os → List Open
  other_opens [] h = []
  other_opens (o ∷ os) h = other_open o h.0.0 ∷ other_opens os h.1

  abbrev Apart : Open → Open → Type 0
  Apart o p = o.variable ≡ p.variable → o.label ≢ p.label

  others_apart : (o : Open) (s : Text) → o.label ≡ M.label s → (os : List Open) (h : AllByRecursion Spelled os) → AllByRecursion (Apart o) os → AllByRecursion (Apart (other_open o s)) (other_opens os h)
  others_apart o s e [] h a = tt
  others_apart o s e (p ∷ os) h a = ((λ same label. a.0 same (e ∙ ap M.label (n.one_label s h.0.0 label) ∙ sym h.0.1)), others_apart o s e os h.1 a.1)

  pub others_once : (os : List Open) (h : AllByRecursion Spelled os) → AllPairs Apart os → AllPairs Apart (other_opens os h)
  others_once [] h once = λ i j d lt within. absurd (let z : j < 0 = within in omega arith)
  others_once (o ∷ os) h once = AllPairs-cons Apart (other_open o h.0.0) (other_opens os h.1)
      (All-from_recursion (Apart (other_open o h.0.0)) (other_opens os h.1) (others_apart o h.0.0 h.0.1 os h.1 (recursion_from_All (Apart o) os (λ k d lt. once 0 (suc k) d (omega arith) (omega arith)))))
      (others_once os h.1 (λ i j d lt within. once (suc i) (suc j) d (omega arith) (omega arith)))

  met_there : (by : Sub) (os : List Open) (h : AllByRecursion Spelled os) → widest_part os ≤ b → AllByRecursion (Met M.shapes by) os → AllByRecursion (Met N.shapes (λ v. moved (to M N m n b) (by v))) (other_opens os h)
  met_there by [] h le met = tt
  met_there by (o ∷ os) h le met =
      let faithful = to_faithful M N m n b in
      let here = faithful.part h.0.0 (by o.variable) (applied by o.part) (subst (λ l. HasPart M.shapes l (by o.variable) (applied by o.part)) h.0.1 met.0) in (
        subst (HasPart N.shapes (N.label h.0.0) (moved (to M N m n b) (by o.variable))) (to_applied M N m n b by o.part (omega arith)) here,
        met_there by os h.1 (omega arith) met.1,
      )

  met_back : (by : Sub) (os : List Open) (h : AllByRecursion Spelled os) → widest_part os ≤ b → AllByRecursion (Met N.shapes by) (other_opens os h) → AllByRecursion (Met M.shapes (λ v. moved (from M N m n b) (by v))) os
  met_back by [] h le met = tt
  met_back by (o ∷ os) h le met =
      let faithful = from_faithful M N m n b in
      let here = faithful.part h.0.0 (by o.variable) (applied by (moved (to M N m n b) o.part)) met.0 in
      let there = subst (HasPart M.shapes (M.label h.0.0) (moved (from M N m n b) (by o.variable))) (again_applied M N m n b by o.part (omega arith)) here in (
        subst (λ l. HasPart M.shapes l (moved (from M N m n b) (by o.variable)) (applied (λ v. moved (from M N m n b) (by v)) o.part)) (sym h.0.1) there,
        met_back by os h.1 (omega arith) met.1,
      )

  -- a variable that is left open is left open
  pub others_have : (os : List Open) (h : AllByRecursion Spelled os) (k : ℕ) (o : Open) → k < length os → slice_index_or os k o ≡ o → (p : Open) × Contains (other_opens os h) p × (p.variable ≡ o.variable)
  others_have [] h k o lt e = absurd (omega arith)
  others_have (x ∷ os) h zero o lt e = (other_open x h.0.0, (0, omega arith, refl), ap (λ (y : Open). y.variable) e)
  others_have (x ∷ os) h (suc k) o lt e = let r = others_have os h.1 k o (omega arith) e in let within : r.1.0 < length (other_opens os h.1) = r.1.1 in (r.0, (suc r.1.0, omega arith, r.1.2), r.2)

  -- ---- the typing
  module _ (places : Kind) (ds : List Defined) (p : Principal M.shapes (program_numbers ds) (Program_typed M places ds)) (types_le : widest_type p.types (program_numbers ds) ≤ b) (parts_le : widest_part p.opens ≤ b) (spelled : AllByRecursion Spelled p.opens) where
    narrow_type : (v : ℕ) → v < program_numbers ds → width (p.types v) ≤ b
    narrow_type v lt = let z : width (p.types v) ≤ widest_type p.types (program_numbers ds) = type_width p.types (program_numbers ds) v lt in omega arith

    pub other_instance : (K : Kinds) (a : Sub) → Program_typed N places ds K a
        → (by : Sub) × ((v : ℕ) → HasKind K (p.kinds v) (by v)) × All (Met N.shapes by) (other_opens p.opens spelled) × ((v : ℕ) → v < program_numbers ds → a v ≡ applied by (moved (to M N m n b) (p.types v)))
    other_instance K a typed =
        let w = p.instance K (λ v. moved (from M N m n b) (a v)) (program_moves N M (from M N m n b) (from_faithful M N m n b) places ds K a typed) in
        let faithful = to_faithful M N m n b in
        let by : Sub = λ v. moved (to M N m n b) (w.0 v) in (
          by,
          λ v. faithful.kind K (p.kinds v) (w.0 v) (w.1 v),
          All-from_recursion (Met N.shapes by) (other_opens p.opens spelled) (met_there w.0 p.opens spelled parts_le (recursion_from_All (Met M.shapes w.0) p.opens w.2)),
          λ v lt. sym (there_and_back M N m n b (a v)) ∙ ap (moved (to M N m n b)) (w.3 v lt) ∙ to_applied M N m n b w.0 (p.types v) (narrow_type v lt),
        )

    pub other_typing : (K : Kinds) (by : Sub) → ((v : ℕ) → HasKind K (p.kinds v) (by v)) → All (Met N.shapes by) (other_opens p.opens spelled) → Program_typed N places ds K (λ v. applied by (moved (to M N m n b) (p.types v)))
    other_typing K by kinds met =
        let faithful = from_faithful M N m n b in
        let back : Sub = λ v. moved (from M N m n b) (by v) in
        let typed : Program_typed M places ds K (λ v. applied back (p.types v)) = p.typing K back (λ v. faithful.kind K (p.kinds v) (by v) (kinds v))
        (All-from_recursion (Met M.shapes back) p.opens (met_back by p.opens spelled parts_le (recursion_from_All (Met N.shapes by) (other_opens p.opens spelled) met))) in
        program_same N places ds K (λ v. moved (to M N m n b) (applied back (p.types v))) (λ v. applied by (moved (to M N m n b) (p.types v)))
        (λ v lt. to_applied M N m n b back (p.types v) (narrow_type v lt) ∙ (λ i. applied (λ x. there_and_back M N m n b (by x) i) (moved (to M N m n b) (p.types v))))
        (program_moves M N (to M N m n b) (to_faithful M N m n b) places ds K (λ v. applied back (p.types v)) typed)

    abbrev pub other_principal : Principal N.shapes (program_numbers ds) (Program_typed N places ds)
    other_principal = record {
      kinds = p.kinds;
      types = λ v. moved (to M N m n b) (p.types v);
      opens = other_opens p.opens spelled;
      once = others_once p.opens spelled p.once;
      instance = other_instance;
      typing = other_typing;
    }

-- the labels of what is left open are those of names, if there is a typing
pub open_spelled : (M N : Names) (m : AreNames M) (n : AreNames N) (b : ℕ) (by : Sub) (os : List Open) → AllByRecursion (Met M.shapes by) os → AllByRecursion (Spelled M N m n b) os
open_spelled M N m n b by = all_then (Met M.shapes by) (Spelled M N m n b) (λ o met. label_of M m o.label (by o.variable) (applied by o.part) met)

pub none_open : (M N : Names) (m : AreNames M) (n : AreNames N) (b : ℕ) (os : List Open) (h : AllByRecursion (Spelled M N m n b) os) → os ≡ [] → other_opens M N m n b os h ≡ []
none_open M N m n b [] h e = refl
none_open M N m n b (o ∷ os) h e = absurd cc
