-- What the demands of a use say together.
use Rattle.std.proofs.Common.{◌≡◌, ℕ, zero, suc, ◌+◌, ◌≤◌, ◌<◌, true, nat_lt, List, [], ◌∷◌, refl, sym, ◌∙◌, ap, subst, arith}
use Rattle.std.proofs.lemmas.Bool.{ltb-true}
use mathlib.Core.Logic.{inl, inr}
use Rattle.fut_flat.specs.declared.prim.Folding.TheVariants as folding
use Rattle.fut_flat.specs.declared.prim.Primitive.{Primitive}
use Rattle.fut_flat.specs.declared.prim.Primitive.TheVariants as prim
use Rattle.fut_primitives.specs.declared.written.Letter.{Letter}
use Rattle.fut_primitives.specs.declared.written.Letter.TheVariants as letter
use Rattle.fut_primitives.specs.Written.{number}
use Rattle.fut_primitives.specs.Table.{written, own_of, from_of}
use Rattle.fut_types.specs.declared.Kind.{Kind}
use Rattle.fut_types.specs.declared.shapes.ShapeTable.{ShapeTable}
use Rattle.fut_types.specs.Types.{Ty, Var, Sub, Kinds, HasKind, level, rank, least, applied}
use Rattle.fut_types.specs.Shapes.{Shapes}
use Rattle.fut_types.proofs.TyLaws.{level_most}
use Rattle.fut_typing.specs.Primitives.{i64_ty, plain_type, prim_type}
use Rattle.type_graph.proofs.Grown.{joined, joined_low, joined_high}
use Rattle.type_rules.specs.declared.demand.Demand.{Demand}
use Rattle.type_rules.specs.declared.demand.Demand.TheVariants as demand
use Rattle.type_rules.specs.Demands.{Met, All_met, Allows, All_allow}
use Rattle.type_rules.specs.Own.{Has_number, Own, All_own, Met_beside}
use Rattle.type_rules.proofs.RowSaid.{met_append, met_left, met_right}
use Rattle.type_rules.proofs.Rules.{beside_low, beside_high, all_allow_append, own_append}
use Rattle.type_primitives.specs.Uses.{Of_primitive, nodes, node, asked, variable_demands, use_demands}
use Rattle.type_primitives.proofs.Asking.{number_small, types, Stand, asked_to, asked_from, node_has, asked_own, asked_allow}

-- the type that typing has for a primitive is the written one without sizes and stars
prim_plain : (p : Primitive) → prim_type p ≡ plain_type (own_of p) (from_of p) (written p)
prim_plain prim.Map = refl
prim_plain (prim.Fold folding.Sum i) = refl
prim_plain (prim.Fold folding.Product i) = refl
prim_plain (prim.Fold folding.Minimum i) = refl
prim_plain (prim.Fold folding.Maximum i) = refl
prim_plain p = refl

-- no type of a primitive is large
few_here : (p : Primitive) → nat_lt (nodes (written p)) 64 ≡ true
few_here prim.Map = refl
few_here (prim.Fold folding.Sum i) = refl
few_here (prim.Fold folding.Product i) = refl
few_here (prim.Fold folding.Minimum i) = refl
few_here (prim.Fold folding.Maximum i) = refl
few_here p = refl

pub few_nodes : (p : Primitive) → nodes (written p) < 64
few_nodes p = ltb-true (nodes (written p)) 64 (few_here p)

-- the types of the six variables
pub pick : (ℕ → Ty) → ℕ → Ty
pick f zero = f 0
pick f (suc zero) = f 1
pick f (suc (suc zero)) = f 2
pick f (suc (suc (suc zero))) = f 3
pick f (suc (suc (suc (suc zero)))) = f 4
pick f (suc (suc (suc (suc (suc zero))))) = f 5
pick f (suc (suc (suc (suc (suc (suc n)))))) = i64_ty

module _ (S : Shapes) (K : Kinds) (b : Sub) (places : Kind) where
  variables_to : (first count : ℕ) → All_met S K b (variable_demands places first count) → (k : ℕ) → k < count → HasKind K places (b (first + k))
  unfolding All_met Met variable_demands
  variables_to first zero m k lt = absurd (omega arith)
  variables_to first (suc count) m zero lt = subst (λ n. HasKind K places (b n)) (let e : first ≡ first + 0 = omega arith in e) m.0
  variables_to first (suc count) m (suc k) lt = subst (λ n. HasKind K places (b n)) (let e : first + 1 + k ≡ first + suc k = omega arith in e) (variables_to (first + 1) count m.1 k (omega arith))

  variables_from : (first count : ℕ) → ((k : ℕ) → k < count → HasKind K places (b (first + k))) → All_met S K b (variable_demands places first count)
  unfolding All_met Met variable_demands
  variables_from first zero h = tt
  variables_from first (suc count) h = (
    subst (λ n. HasKind K places (b n)) (let e : first + 0 ≡ first = omega arith in e) (h 0 (omega arith)),
    variables_from (first + 1) count (λ k lt. subst (λ n. HasKind K places (b n)) (let e : first + suc k ≡ first + 1 + k = omega arith in e) (h (suc k) (omega arith))),
  )

any_place : (places : Kind) (K : Kinds) → HasKind K places i64_ty
unfolding rank least
any_place places K = let z : level places ≤ 4 = level_most places in omega arith

pick_kind : (places : Kind) (K : Kinds) (f : ℕ → Ty) → ((k : ℕ) → k < 6 → HasKind K places (f k)) → (n : ℕ) → HasKind K places (pick f n)
unfolding pick
pick_kind places K f h zero = h 0 (omega arith)
pick_kind places K f h (suc zero) = h 1 (omega arith)
pick_kind places K f h (suc (suc zero)) = h 2 (omega arith)
pick_kind places K f h (suc (suc (suc zero))) = h 3 (omega arith)
pick_kind places K f h (suc (suc (suc (suc zero)))) = h 4 (omega arith)
pick_kind places K f h (suc (suc (suc (suc (suc zero))))) = h 5 (omega arith)
pick_kind places K f h (suc (suc (suc (suc (suc (suc n)))))) = any_place places K

pick_letter : (f : ℕ → Ty) (x : Letter) → f (number x) ≡ applied (pick f) (Var (number x))
unfolding pick applied
pick_letter f letter.A = refl
pick_letter f letter.B = refl
pick_letter f letter.C = refl
pick_letter f letter.D = refl
pick_letter f letter.E = refl
pick_letter f letter.F = refl

-- numbers and homes
module _ (table : ShapeTable) (base first many : ℕ) where
  variables_own : (places : Kind) (at count : ℕ) → first ≤ at → at + count ≤ first + many → All_own table base first many (variable_demands places at count)
  unfolding All_own Own variable_demands
  variables_own places at zero f l = tt
  variables_own places at (suc count) f l = (inr (f, omega arith), variables_own places (at + 1) count (omega arith) (omega arith))

variables_allow : (home : ℕ → ℕ) (places : Kind) (at count : ℕ) → All_allow home (variable_demands places at count)
unfolding All_allow Allows variable_demands
variables_allow home places at zero = tt
variables_allow home places at (suc count) = (tt, variables_allow home places (at + 1) count)

same_numbers : (table : ShapeTable) (base first many i j : ℕ) → Has_number base first many i → Has_number base first many j → All_own table base first many (demand.Same i j ∷ [])
unfolding All_own Own
same_numbers table base first many i j h k = ((h, k), tt)

module _ (places : Kind) (base first id : ℕ) (p : Primitive) (le : base ≤ first) (lt : id < base) where
  abbrev before : List Demand
  before = variable_demands places first 6

  abbrev whole : List Demand
  whole = asked (own_of p) (from_of p) first (variable_demands places first 6) (first + 6) (written p)

  abbrev top : ℕ
  top = node first (first + 6) (written p)

  pub use_own : (table : ShapeTable) → All_own table base first (6 + nodes (written p)) (use_demands places first id p)
  use_own table = own_append table base first (6 + nodes (written p)) whole (demand.Same id top ∷ [])
      (asked_own (own_of p) (from_of p) table base first (6 + nodes (written p)) (written p) before (first + 6) (omega arith) (omega arith)
      (variables_own table base first (6 + nodes (written p)) places first 6 (omega arith) (omega arith)))
      (same_numbers table base first (6 + nodes (written p)) id top (inl lt) (node_has (own_of p) (from_of p) table base first (6 + nodes (written p)) (written p) (first + 6) (omega arith) (omega arith)))

  pub use_allow : (home : ℕ → ℕ) → All_allow home (use_demands places first id p)
  unfolding All_allow Allows
  use_allow home = all_allow_append home whole (demand.Same id top ∷ []) (asked_allow (own_of p) (from_of p) home first (written p) before (first + 6) (variables_allow home places first 6)) (tt, tt)

  module _ (S : Shapes) (K : Kinds) (a : Sub) where
    pub use_to : Met_beside base (use_demands places first id p) S K a → Of_primitive places p K (a id)
    unfolding All_met Met
    use_to m =
        let b = m.types in
        let last = met_right S K b whole (demand.Same id top ∷ []) m.met in
        let g : Sub = pick (λ k. b (first + k)) in
        let h = asked_to (own_of p) (from_of p) S K b first g (pick_letter (λ k. b (first + k))) (written p) before (first + 6) (met_left S K b whole (demand.Same id top ∷ []) m.met) in (
          g,
          pick_kind places K (λ k. b (first + k)) (variables_to S K b places first 6 h.0),
          sym (m.agrees id lt) ∙ last.0 ∙ h.1 ∙ ap (applied g) (sym (prim_plain p)),
        )

    pub use_from : Of_primitive places p K (a id) → Met_beside base (use_demands places first id p) S K a
    unfolding All_met Met applied
    use_from u =
        let g : Sub = u.0 in
        let f : Sub = joined 6 g (λ k. applied g (types (own_of p) (from_of p) (written p) k)) in
        let b : Sub = joined first a f in
        let low : (k : ℕ) → k < 6 → b (first + k) ≡ g k = λ k h. beside_high base first le a f k ∙ joined_low 6 g (λ k. applied g (types (own_of p) (from_of p) (written p) k)) k h in
        let vars : (x : Letter) → b (first + number x) ≡ applied g (Var (number x)) = λ x. low (number x) (number_small x) in
        let st : Stand (own_of p) (from_of p) S K b first g (first + 6) (nodes (written p)) (types (own_of p) (from_of p) (written p)) = λ k h.
        ap b (let e : first + 6 + k ≡ first + (6 + k) = omega arith in e) ∙ beside_high base first le a f (6 + k) ∙ joined_high 6 g (λ k. applied g (types (own_of p) (from_of p) (written p) k)) k in
        let agrees : (i : ℕ) → i < base → b i ≡ a i = beside_low base first le a f in
        let h = asked_from (own_of p) (from_of p) S K b first g vars (written p) before (first + 6) st (variables_from S K b places first 6 (λ k lt. subst (HasKind K places) (sym (low k lt)) (u.1 k))) in record {
          types = b;
          agrees = agrees;
          met = met_append S K b whole (demand.Same id top ∷ []) h.0 (agrees id lt ∙ u.2 ∙ ap (applied g) (prim_plain p) ∙ sym h.1, tt);
        }
