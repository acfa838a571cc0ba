-- What the demands of a written type say together: its nodes have the types that it has without sizes and stars.
use Rattle.std.proofs.Common.{◌≡◌, ℕ, ◌+◌, ◌≤◌, ◌<◌, List, [], ◌∷◌, ◌++◌, sym, ◌∙◌, ap, arith}
use mathlib.Core.Logic.{inr}
use Rattle.fut_scalar.specs.declared.scalar.ScalarType.{ScalarType}
use Rattle.fut_primitives.specs.declared.written.Letter.{Letter}
use Rattle.fut_primitives.specs.declared.written.Letter.TheVariants as letter
use Rattle.fut_primitives.specs.Written.{Written, number, Variable, Scalar, From, Array, Unique, Pair, Triple, Named, Function}
use Rattle.fut_primitives.specs.Written as shape
use Rattle.fut_types.specs.declared.shapes.ShapeTable.{ShapeTable}
use Rattle.fut_types.specs.Types.{Ty, Var, Sub, Kinds, applied, scalar_ty, fun_ty}
use Rattle.fut_types.specs.Shapes.{Shapes}
use Rattle.fut_typing.specs.Primitives.{array_ty, pair_ty, triple_ty, plain_type}
use Rattle.type_graph.proofs.Grown.{joined, joined_low, joined_high}
use Rattle.type_rules.specs.declared.demand.Demand.{Demand}
use Rattle.type_rules.specs.declared.demand.Demand.TheVariants as demand
use Rattle.type_rules.specs.Demands.{Met, All_met, Allows, All_allow}
use Rattle.type_rules.specs.Own.{Has_number, Own, All_own}
use Rattle.type_rules.proofs.RowSaid.{met_append, met_left, met_right}
use Rattle.type_rules.proofs.Rules.{all_allow_append, own_append}
use Rattle.type_primitives.specs.Uses.{nodes, node, asked}

pub number_small : (x : Letter) → number x < 6
number_small letter.A = omega arith
number_small letter.B = omega arith
number_small letter.C = omega arith
number_small letter.D = omega arith
number_small letter.E = omega arith
number_small letter.F = omega arith

module _ (own from : ScalarType) where
  -- the types of the nodes of its own
  abbrev pub types : Written → Sub
  types (Variable x) = λ k. Var 0
  types (Scalar s) = λ k. scalar_ty s
  types shape.Own = λ k. scalar_ty own
  types From = λ k. scalar_ty from
  types (Array n t) = joined (nodes t) (types t) (λ k. array_ty (plain_type own from t))
  types (Unique t) = types t
  types (Pair t u) = joined (nodes t) (types t) (joined (nodes u) (types u) (λ k. pair_ty (plain_type own from t) (plain_type own from u)))
  types (Triple t u v) = joined (nodes t) (types t) (joined (nodes u) (types u) (joined (nodes v) (types v) (λ k. triple_ty (plain_type own from t) (plain_type own from u) (plain_type own from v))))
  types (Named n t) = types t
  types (Function t u) = joined (nodes t) (types t) (joined (nodes u) (types u) (λ k. fun_ty (plain_type own from t) (plain_type own from u)))

  module _ (S : Shapes) (K : Kinds) (b : Sub) (first : ℕ) (g : Sub) where
    last_to : (ds : List Demand) (d : Demand) → All_met S K b (ds ++ d ∷ []) → All_met S K b ds × Met S K b d
    unfolding All_met
    last_to ds d m = (met_left S K b ds (d ∷ []) m, (met_right S K b ds (d ∷ []) m).0)

    last_from : (ds : List Demand) (d : Demand) → All_met S K b ds → Met S K b d → All_met S K b (ds ++ d ∷ [])
    unfolding All_met
    last_from ds d m e = met_append S K b ds (d ∷ []) m (e, tt)

    -- the nodes from a number on have these types
    abbrev pub Stand : ℕ → ℕ → Sub → Type 0
    Stand at n h = (k : ℕ) → k < n → b (at + k) ≡ applied g (h k)

    stand_left : (at n l : ℕ) (h h' : Sub) → n ≤ l → Stand at l (joined n h h') → Stand at n h
    stand_left at n l h h' le s k lt = s k (omega (arith, le, lt)) ∙ ap (applied g) (joined_low n h h' k lt)

    stand_right : (at n m l : ℕ) (h h' : Sub) → n + m ≤ l → Stand at l (joined n h h') → Stand (at + n) m h'
    stand_right at n m l h h' le s k lt = ap b (let e : at + n + k ≡ at + (n + k) = omega arith in e) ∙ s (n + k) (omega (arith, le, lt)) ∙ ap (applied g) (joined_high n h h' k)

    stand_one : (at : ℕ) (t : Ty) → Stand at 1 (λ k. t) → b at ≡ applied g t
    stand_one at t s = ap b (let e : at ≡ at + 0 = omega arith in e) ∙ s 0 (omega arith)

    module _ (vars : (x : Letter) → b (first + number x) ≡ applied g (Var (number x))) where
      pub asked_to : (w : Written) (ds : List Demand) (at : ℕ) → All_met S K b (asked own from first ds at w) → All_met S K b ds × (b (node first at w) ≡ applied g (plain_type own from w))
      unfolding Met applied
      asked_to (Variable x) ds at m = (m, vars x)
      asked_to (Scalar s) ds at m = last_to ds (demand.Is at s) m
      asked_to shape.Own ds at m = last_to ds (demand.Is at own) m
      asked_to From ds at m = last_to ds (demand.Is at from) m
      asked_to (Array n t) ds at m =
          let l = last_to (asked own from first ds at t) (demand.Array (at + nodes t) (node first at t)) m in
          let h = asked_to t ds at l.0 in
          (h.0, l.1 ∙ ap array_ty h.1)
      asked_to (Unique t) ds at m = asked_to t ds at m
      asked_to (Pair t u) ds at m =
          let l = last_to (asked own from first (asked own from first ds at t) (at + nodes t) u) (demand.Pair (at + nodes t + nodes u) (node first at t) (node first (at + nodes t) u)) m in
          let k = asked_to u (asked own from first ds at t) (at + nodes t) l.0 in
          let h = asked_to t ds at k.0 in
          (h.0, l.1 ∙ (λ i. pair_ty (h.1 i) (k.1 i)))
      asked_to (Triple t u v) ds at m =
          let l = last_to (asked own from first (asked own from first (asked own from first ds at t) (at + nodes t) u) (at + nodes t + nodes u) v)
          (demand.Triple (at + nodes t + nodes u + nodes v) (node first at t) (node first (at + nodes t) u) (node first (at + nodes t + nodes u) v)) m in
          let j = asked_to v (asked own from first (asked own from first ds at t) (at + nodes t) u) (at + nodes t + nodes u) l.0 in
          let k = asked_to u (asked own from first ds at t) (at + nodes t) j.0 in
          let h = asked_to t ds at k.0 in
          (h.0, l.1 ∙ (λ i. triple_ty (h.1 i) (k.1 i) (j.1 i)))
      asked_to (Named n t) ds at m = asked_to t ds at m
      asked_to (Function t u) ds at m =
          let l = last_to (asked own from first (asked own from first ds at t) (at + nodes t) u) (demand.Fun (at + nodes t + nodes u) (node first at t) (node first (at + nodes t) u)) m in
          let k = asked_to u (asked own from first ds at t) (at + nodes t) l.0 in
          let h = asked_to t ds at k.0 in
          (h.0, l.1 ∙ (λ i. fun_ty (h.1 i) (k.1 i)))

      pub asked_from : (w : Written) (ds : List Demand) (at : ℕ) → Stand at (nodes w) (types w) → All_met S K b ds → All_met S K b (asked own from first ds at w) × (b (node first at w) ≡ applied g (plain_type own from w))
      unfolding Met applied
      asked_from (Variable x) ds at s m = (m, vars x)
      asked_from (Scalar c) ds at s m = let e = stand_one at (scalar_ty c) s in (last_from ds (demand.Is at c) m e, e)
      asked_from shape.Own ds at s m = let e = stand_one at (scalar_ty own) s in (last_from ds (demand.Is at own) m e, e)
      asked_from From ds at s m = let e = stand_one at (scalar_ty from) s in (last_from ds (demand.Is at from) m e, e)
      asked_from (Array n t) ds at s m =
          let last : Sub = λ k. array_ty (plain_type own from t) in
          let h = asked_from t ds at (stand_left at (nodes t) (nodes t + 1) (types t) last (omega arith) s) m in
          let e = stand_one (at + nodes t) (array_ty (plain_type own from t)) (stand_right at (nodes t) 1 (nodes t + 1) (types t) last (omega arith) s) in
          (last_from (asked own from first ds at t) (demand.Array (at + nodes t) (node first at t)) h.0 (e ∙ ap array_ty (sym h.1)), e)
      asked_from (Unique t) ds at s m = asked_from t ds at s m
      asked_from (Pair t u) ds at s m =
          let last : Sub = λ k. pair_ty (plain_type own from t) (plain_type own from u) in
          let behind = stand_right at (nodes t) (nodes u + 1) (nodes t + nodes u + 1) (types t) (joined (nodes u) (types u) last) (omega arith) s in
          let h = asked_from t ds at (stand_left at (nodes t) (nodes t + nodes u + 1) (types t) (joined (nodes u) (types u) last) (omega arith) s) m in
          let k = asked_from u (asked own from first ds at t) (at + nodes t) (stand_left (at + nodes t) (nodes u) (nodes u + 1) (types u) last (omega arith) behind) h.0 in
          let e = stand_one (at + nodes t + nodes u) (pair_ty (plain_type own from t) (plain_type own from u)) (stand_right (at + nodes t) (nodes u) 1 (nodes u + 1) (types u) last (omega arith) behind) in
          (last_from (asked own from first (asked own from first ds at t) (at + nodes t) u) (demand.Pair (at + nodes t + nodes u) (node first at t) (node first (at + nodes t) u)) k.0 (e ∙ (λ i. pair_ty (sym h.1 i) (sym k.1 i))), e)
      asked_from (Triple t u v) ds at s m =
          let last : Sub = λ k. triple_ty (plain_type own from t) (plain_type own from u) (plain_type own from v) in
          let behind = stand_right at (nodes t) (nodes u + nodes v + 1) (nodes t + nodes u + nodes v + 1) (types t) (joined (nodes u) (types u) (joined (nodes v) (types v) last)) (omega arith) s in
          let later = stand_right (at + nodes t) (nodes u) (nodes v + 1) (nodes u + nodes v + 1) (types u) (joined (nodes v) (types v) last) (omega arith) behind in
          let h = asked_from t ds at (stand_left at (nodes t) (nodes t + nodes u + nodes v + 1) (types t) (joined (nodes u) (types u) (joined (nodes v) (types v) last)) (omega arith) s) m in
          let k = asked_from u (asked own from first ds at t) (at + nodes t) (stand_left (at + nodes t) (nodes u) (nodes u + nodes v + 1) (types u) (joined (nodes v) (types v) last) (omega arith) behind) h.0 in
          let j = asked_from v (asked own from first (asked own from first ds at t) (at + nodes t) u) (at + nodes t + nodes u) (stand_left (at + nodes t + nodes u) (nodes v) (nodes v + 1) (types v) last (omega arith) later) k.0 in
          let e = stand_one (at + nodes t + nodes u + nodes v) (triple_ty (plain_type own from t) (plain_type own from u) (plain_type own from v)) (stand_right (at + nodes t + nodes u) (nodes v) 1 (nodes v + 1) (types v) last (omega arith) later) in (
            last_from (asked own from first (asked own from first (asked own from first ds at t) (at + nodes t) u) (at + nodes t + nodes u) v)
                (demand.Triple (at + nodes t + nodes u + nodes v) (node first at t) (node first (at + nodes t) u) (node first (at + nodes t + nodes u) v)) j.0 (e ∙ (λ i. triple_ty (sym h.1 i) (sym k.1 i) (sym j.1 i))),
            e,
          )
      asked_from (Named n t) ds at s m = asked_from t ds at s m
      asked_from (Function t u) ds at s m =
          let last : Sub = λ k. fun_ty (plain_type own from t) (plain_type own from u) in
          let behind = stand_right at (nodes t) (nodes u + 1) (nodes t + nodes u + 1) (types t) (joined (nodes u) (types u) last) (omega arith) s in
          let h = asked_from t ds at (stand_left at (nodes t) (nodes t + nodes u + 1) (types t) (joined (nodes u) (types u) last) (omega arith) s) m in
          let k = asked_from u (asked own from first ds at t) (at + nodes t) (stand_left (at + nodes t) (nodes u) (nodes u + 1) (types u) last (omega arith) behind) h.0 in
          let e = stand_one (at + nodes t + nodes u) (fun_ty (plain_type own from t) (plain_type own from u)) (stand_right (at + nodes t) (nodes u) 1 (nodes u + 1) (types u) last (omega arith) behind) in
          (last_from (asked own from first (asked own from first ds at t) (at + nodes t) u) (demand.Fun (at + nodes t + nodes u) (node first at t) (node first (at + nodes t) u)) k.0 (e ∙ (λ i. fun_ty (sym h.1 i) (sym k.1 i))), e)

-- the numbers that they speak of
module _ (own from : ScalarType) (table : ShapeTable) (base first many : ℕ) where
  pub node_has : (w : Written) (at : ℕ) → first + 6 ≤ at → at + nodes w ≤ first + many → Has_number base first many (node first at w)
  node_has (Variable x) at f l = let n : number x < 6 = number_small x in inr (omega arith, omega (arith, n))
  node_has (Scalar s) at f l = inr (omega arith, omega arith)
  node_has shape.Own at f l = inr (omega arith, omega arith)
  node_has From at f l = inr (omega arith, omega arith)
  node_has (Array n t) at f l = inr (omega arith, omega arith)
  node_has (Unique t) at f l = node_has t at f l
  node_has (Pair t u) at f l = inr (omega arith, omega arith)
  node_has (Triple t u v) at f l = inr (omega arith, omega arith)
  node_has (Named n t) at f l = node_has t at f l
  node_has (Function t u) at f l = inr (omega arith, omega arith)

  last_own : (ds : List Demand) (d : Demand) → All_own table base first many ds → Own table base first many d → All_own table base first many (ds ++ d ∷ [])
  unfolding All_own
  last_own ds d m o = own_append table base first many ds (d ∷ []) m (o, tt)

  pub asked_own : (w : Written) (ds : List Demand) (at : ℕ) → first + 6 ≤ at → at + nodes w ≤ first + many → All_own table base first many ds → All_own table base first many (asked own from first ds at w)
  unfolding Own
  asked_own (Variable x) ds at f l m = m
  asked_own (Scalar s) ds at f l m = last_own ds (demand.Is at s) m (inr (omega arith, omega arith))
  asked_own shape.Own ds at f l m = last_own ds (demand.Is at own) m (inr (omega arith, omega arith))
  asked_own From ds at f l m = last_own ds (demand.Is at from) m (inr (omega arith, omega arith))
  asked_own (Array n t) ds at f l m =
      last_own (asked own from first ds at t) (demand.Array (at + nodes t) (node first at t)) (asked_own t ds at f (omega arith) m) (inr (omega arith, omega arith), node_has t at f (omega arith))
  asked_own (Unique t) ds at f l m = asked_own t ds at f l m
  asked_own (Pair t u) ds at f l m =
      last_own (asked own from first (asked own from first ds at t) (at + nodes t) u) (demand.Pair (at + nodes t + nodes u) (node first at t) (node first (at + nodes t) u))
      (asked_own u (asked own from first ds at t) (at + nodes t) (omega arith) (omega arith) (asked_own t ds at f (omega arith) m))
      (inr (omega arith, omega arith), node_has t at f (omega arith), node_has u (at + nodes t) (omega arith) (omega arith))
  asked_own (Triple t u v) ds at f l m =
      last_own (asked own from first (asked own from first (asked own from first ds at t) (at + nodes t) u) (at + nodes t + nodes u) v)
      (demand.Triple (at + nodes t + nodes u + nodes v) (node first at t) (node first (at + nodes t) u) (node first (at + nodes t + nodes u) v))
      (asked_own v (asked own from first (asked own from first ds at t) (at + nodes t) u) (at + nodes t + nodes u) (omega arith) (omega arith)
      (asked_own u (asked own from first ds at t) (at + nodes t) (omega arith) (omega arith) (asked_own t ds at f (omega arith) m)))
      (inr (omega arith, omega arith), node_has t at f (omega arith), node_has u (at + nodes t) (omega arith) (omega arith), node_has v (at + nodes t + nodes u) (omega arith) (omega arith))
  asked_own (Named n t) ds at f l m = asked_own t ds at f l m
  asked_own (Function t u) ds at f l m =
      last_own (asked own from first (asked own from first ds at t) (at + nodes t) u) (demand.Fun (at + nodes t + nodes u) (node first at t) (node first (at + nodes t) u))
      (asked_own u (asked own from first ds at t) (at + nodes t) (omega arith) (omega arith) (asked_own t ds at f (omega arith) m))
      (inr (omega arith, omega arith), node_has t at f (omega arith), node_has u (at + nodes t) (omega arith) (omega arith))

module _ (own from : ScalarType) (home : ℕ → ℕ) (first : ℕ) where
  last_allow : (ds : List Demand) (d : Demand) → All_allow home ds → Allows home d → All_allow home (ds ++ d ∷ [])
  unfolding All_allow
  last_allow ds d m o = all_allow_append home ds (d ∷ []) m (o, tt)

  pub asked_allow : (w : Written) (ds : List Demand) (at : ℕ) → All_allow home ds → All_allow home (asked own from first ds at w)
  unfolding Allows
  asked_allow (Variable x) ds at m = m
  asked_allow (Scalar s) ds at m = last_allow ds (demand.Is at s) m tt
  asked_allow shape.Own ds at m = last_allow ds (demand.Is at own) m tt
  asked_allow From ds at m = last_allow ds (demand.Is at from) m tt
  asked_allow (Array n t) ds at m = last_allow (asked own from first ds at t) (demand.Array (at + nodes t) (node first at t)) (asked_allow t ds at m) tt
  asked_allow (Unique t) ds at m = asked_allow t ds at m
  asked_allow (Pair t u) ds at m = last_allow _ (demand.Pair (at + nodes t + nodes u) (node first at t) (node first (at + nodes t) u)) (asked_allow u (asked own from first ds at t) (at + nodes t) (asked_allow t ds at m)) tt
  asked_allow (Triple t u v) ds at m = last_allow _ (demand.Triple (at + nodes t + nodes u + nodes v) (node first at t) (node first (at + nodes t) u) (node first (at + nodes t + nodes u) v))
      (asked_allow v (asked own from first (asked own from first ds at t) (at + nodes t) u) (at + nodes t + nodes u) (asked_allow u (asked own from first ds at t) (at + nodes t) (asked_allow t ds at m))) tt
  asked_allow (Named n t) ds at m = asked_allow t ds at m
  asked_allow (Function t u) ds at m = last_allow _ (demand.Fun (at + nodes t + nodes u) (node first at t) (node first (at + nodes t) u)) (asked_allow u (asked own from first ds at t) (at + nodes t) (asked_allow t ds at m)) tt
