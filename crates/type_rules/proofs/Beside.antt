-- What is asked of a rule's own nodes says that types can be found for them.
use Rattle.std.proofs.Common.{◌≡◌, ℕ, ◌+◌, ◌-◌, ◌≤◌, ◌<◌, List, [], ◌∷◌, length, refl, sym, ◌∙◌, ap, subst, arith}
use mathlib.Core.Logic.{inl, inr}
use Rattle.fut_types.specs.declared.shapes.ShapeTable.{ShapeTable}
use Rattle.fut_types.specs.Types.{Sub, Kinds, HasKind, fun_ty}
use Rattle.fut_types.specs.Shapes.{Shapes, HasPart}
use Rattle.fut_typing.specs.Primitives.{array_ty, pair_ty, triple_ty}
use Rattle.type_graph.specs.declared.Node.{Node}
use Rattle.type_graph.specs.declared.Entry.{Entry}
use Rattle.type_graph.specs.Graph.{far, Tables, IsGraph}
use Rattle.type_graph.specs.State.{AtMost, Sure, State}
use Rattle.type_graph.specs.Claims.{Sound, Extends, Inside, Possible, Adds, Nowhere}
use Rattle.type_graph.proofs.Grown.{joined, joined_low, joined_high, lt_or, solves_old, solves_agree}
use Rattle.type_graph.proofs.Adding.{entries_more}
use Rattle.type_rules.specs.declared.demand.Demand.{Demand}
use Rattle.type_rules.specs.declared.demand.Demand.TheVariants as demand
use Rattle.type_rules.specs.Demands.{Met, All_met, IsDemand, Are_demands, All_allow}
use Rattle.type_rules.specs.Own.{Freed, Has_number, Own, All_own, Beside, Met_beside}

number_below : (base first count n m : ℕ) → base ≤ first → m ≡ first + count → Has_number base first count n → n < m
number_below base first count n m le e (inl h) = omega arith
number_below base first count n m le e (inr h) = omega (arith, h.1)

demand_below : (table : ShapeTable) (base first count m : ℕ) (d : Demand) → base ≤ first → m ≡ first + count → Own table base first count d → IsDemand table m d
unfolding Own IsDemand
demand_below table base first count m (demand.Same i j) le e o = (number_below base first count i m le e o.0, number_below base first count j m le e o.1)
demand_below table base first count m (demand.Has i k) le e o = number_below base first count i m le e o
demand_below table base first count m (demand.Is i s) le e o = number_below base first count i m le e o
demand_below table base first count m (demand.Array i j) le e o = (number_below base first count i m le e o.0, number_below base first count j m le e o.1)
demand_below table base first count m (demand.Fun i x y) le e o = (number_below base first count i m le e o.0, number_below base first count x m le e o.1, number_below base first count y m le e o.2)
demand_below table base first count m (demand.Pair i x y) le e o = (number_below base first count i m le e o.0, number_below base first count x m le e o.1, number_below base first count y m le e o.2)
demand_below table base first count m (demand.Triple i x y z) le e o = (number_below base first count i m le e o.0, number_below base first count x m le e o.1, number_below base first count y m le e o.2, number_below base first count z m le e o.3)
demand_below table base first count m (demand.Part i l c) le e o = (number_below base first count i m le e o.0, number_below base first count c m le e o.1, o.2)

pub demands_below : (table : ShapeTable) (base first count m : ℕ) (ds : List Demand) → base ≤ first → m ≡ first + count → All_own table base first count ds → Are_demands table m ds
unfolding All_own Are_demands
demands_below table base first count m [] le e o = tt
demands_below table base first count m (d ∷ ds) le e o = (demand_below table base first count m d le e o.0, demands_below table base first count m ds le e o.1)

-- own demands depend on the program's nodes and on the rule's own alone
module _ (table : ShapeTable) (base first count : ℕ) (S : Shapes) (K : Kinds) (a b : Sub) (low : (i : ℕ) → i < base → a i ≡ b i) (high : (i : ℕ) → first ≤ i → a i ≡ b i) where
  same_at : (n : ℕ) → Has_number base first count n → a n ≡ b n
  same_at n (inl h) = low n h
  same_at n (inr h) = high n h.0

  same_met : (d : Demand) → Own table base first count d → Met S K a d → Met S K b d
  unfolding Own Met
  same_met (demand.Same i j) o m = sym (same_at i o.0) ∙ m ∙ same_at j o.1
  same_met (demand.Has i k) o m = subst (HasKind K k) (same_at i o) m
  same_met (demand.Is i s) o m = sym (same_at i o) ∙ m
  same_met (demand.Array i j) o m = sym (same_at i o.0) ∙ m ∙ ap array_ty (same_at j o.1)
  same_met (demand.Fun i x y) o m = sym (same_at i o.0) ∙ m ∙ (λ p. fun_ty (same_at x o.1 p) (same_at y o.2 p))
  same_met (demand.Pair i x y) o m = sym (same_at i o.0) ∙ m ∙ (λ p. pair_ty (same_at x o.1 p) (same_at y o.2 p))
  same_met (demand.Triple i x y z) o m = sym (same_at i o.0) ∙ m ∙ (λ p. triple_ty (same_at x o.1 p) (same_at y o.2 p) (same_at z o.3 p))
  same_met (demand.Part i l c) o m = subst (λ t. HasPart S l t (b c)) (same_at i o.0) (subst (HasPart S l (a i)) (same_at c o.1) m)

  pub all_same_met : (ds : List Demand) → All_own table base first count ds → All_met S K a ds → All_met S K b ds
  unfolding All_own All_met
  all_same_met [] o m = tt
  all_same_met (d ∷ ds) o m = (same_met d o.0 m.0, all_same_met ds o.1 m.1)

-- the program's numbers have their homes, all others none
abbrev pub near_home : ℕ → (ℕ → ℕ) → ℕ → ℕ
near_home base home m = elim (lt_or m base) as (λ d. ℕ) [ inl lt ↦ home m | inr le ↦ far ]

near_low : (base : ℕ) (home : ℕ → ℕ) (m : ℕ) → m < base → near_home base home m ≡ home m
near_low base home m h = elim (lt_or m base) as (λ d. elim d as (λ d. ℕ) [ inl lt ↦ home m | inr le ↦ far ] ≡ home m) [ inl lt ↦ refl | inr le ↦ absurd (omega arith) ]

near_high : (base : ℕ) (home : ℕ → ℕ) (m : ℕ) → base ≤ m → near_home base home m ≡ far
near_high base home m h = elim (lt_or m base) as (λ d. elim d as (λ d. ℕ) [ inl lt ↦ home m | inr le ↦ far ] ≡ far) [ inl lt ↦ absurd (omega arith) | inr le ↦ refl ]

-- nothing is at home above far
pub state_near : (T : Tables) (home : ℕ → ℕ) (base : ℕ) (nodes : List Node) → IsGraph nodes → base ≤ length nodes → State T home base nodes [] → State T (near_home base home) (length nodes) nodes []
state_near T home base nodes g le s = record {
  top = s.top;
  tops = s.tops;
  capped = s.capped;
  parts = s.parts;
  bare = s.bare;
  afar = s.afar;
  once = s.once;
  seated = s.seated;
  homes = λ m lt. elim (lt_or m base) as (λ d. Sure nodes [] s.top (AtMost (near_home base home m)) m) [
    | inl h ↦ subst (λ n. Sure nodes [] s.top (AtMost n) m) (sym (near_low base home m h)) (s.homes m h)
    | inr h ↦ subst (λ n. Sure nodes [] s.top (AtMost n) m) (sym (near_high base home m h)) (inl (g.near (s.top m) (s.tops.below m lt)))
  ];
}

pub state_back : (T : Tables) (home : ℕ → ℕ) (base many : ℕ) (nodes : List Node) → base ≤ many → State T (near_home base home) many nodes [] → State T home base nodes []
state_back T home base many nodes le s = record {
  top = s.top;
  tops = s.tops;
  capped = s.capped;
  parts = s.parts;
  bare = s.bare;
  afar = s.afar;
  once = s.once;
  seated = s.seated;
  homes = λ m lt. subst (λ n. Sure nodes [] s.top (AtMost n) m) (near_low base home m lt) (s.homes m (omega arith));
}

-- a claim on the program's nodes and the rule's own
module _ (T : Tables) (base count : ℕ) (n0 n1 : List Node) (P : Kinds → Sub → Type 0) (H : (ℕ → ℕ) → Type 0) (le : base ≤ length n0) (inn : Inside T n0) (graph : IsGraph n0) (f : Freed n0 count n1)
    (local : (K : Kinds) (a b : Sub) → ((i : ℕ) → i < base → a i ≡ b i) → ((i : ℕ) → length n0 ≤ i → a i ≡ b i) → P K a → P K b) where
  -- types for the rule's own nodes beside a solution
  beside : (K : Kinds) (a : Sub) → Possible T base K a n0 → Beside base P K a → (full : Sub) × ((i : ℕ) → i < base → full i ≡ a i) × Possible T (length n1) K full n1 × P K full
  beside K a p m =
      let full : Sub = joined (length n0) p.full (λ k. m.types (length n0 + k)) in
      let low : (i : ℕ) → i < length n0 → full i ≡ p.full i = λ i lt. joined_low (length n0) p.full _ i lt in
      let high : (i : ℕ) → length n0 ≤ i → full i ≡ m.types i = λ i ge. subst (λ j. joined (length n0) p.full (λ k. m.types (length n0 + k)) j ≡ m.types j) (let e : length n0 + (i - length n0) ≡ i = omega arith in e) (joined_high (length n0) p.full (λ k. m.types (length n0 + k)) (i - length n0)) in
      let near : (i : ℕ) → i < base → full i ≡ a i = λ i lt. low i (omega arith) ∙ p.agrees i lt in (
        full,
        near,
        record { full = full; agrees = λ i lt. refl; solves = f.solves T K full (solves_agree T K p.full full n0 graph inn (λ i lt. sym (low i lt)) p.solves) },
        local K m.types full (λ i lt. m.agrees i lt ∙ sym (near i lt)) (λ i ge. sym (high i ge)) m.met,
      )

  pub claim_adds : (n2 : List Node) → Adds T (length n1) P H n1 n2 → Adds T base (Beside base P) H n0 n2
  claim_adds n2 x = let long : length n1 ≡ length n0 + count = f.long in record {
    forth = λ K a p m. let b = beside K a p m in let q = x.forth K b.0 b.2 b.3 in record { full = q.full; agrees = λ i lt. q.agrees i (omega arith) ∙ b.1 i lt; solves = q.solves };
    back = λ K a p. let q = x.back K p.full (record { full = p.full; agrees = λ i lt. refl; solves = p.solves }) in record { full = q.full; agrees = λ i lt. q.agrees i (omega arith) ∙ p.agrees i lt; solves = solves_old T n0 n1 (f.grown T inn) K q.full q.solves };
    done = λ K a p. record { types = p.full; agrees = p.agrees; met = x.done K p.full (record { full = p.full; agrees = λ i lt. refl; solves = p.solves }) };
    keeps = λ K a s. solves_old T n0 n1 (f.grown T inn) K a (x.keeps K a s);
    state = λ home s. state_back T home base (length n1) n2 (omega arith) (x.state (near_home base home) (state_near T home base n1 f.graph (omega arith) ((f.grown T inn).state home base le s)));
    backed = λ home born h b. x.backed home born h ((f.grown T inn).backed home born b);
  }

  pub claim_nowhere : Nowhere T (length n1) P n1 → Nowhere T base (Beside base P) n0
  claim_nowhere x pl K a p m = let b = beside K a p m in x pl K b.0 b.2 b.3

module _ (table : ShapeTable) (T : Tables) (base count : ℕ) (n0 n1 : List Node) (ds : List Demand) (le : base ≤ length n0) (inn : Inside T n0) (graph : IsGraph n0) (f : Freed n0 count n1) (own : All_own table base (length n0) count ds) where
  pub beside_adds : (n2 : List Node) → Adds T (length n1) (λ K a. All_met T.shapes K a ds) (λ home. All_allow home ds) n1 n2 → Adds T base (Met_beside base ds T.shapes) (λ home. All_allow home ds) n0 n2
  beside_adds n2 x = claim_adds T base count n0 n1 (λ K a. All_met T.shapes K a ds) (λ home. All_allow home ds) le inn graph f (λ K a b low high m. all_same_met table base (length n0) count T.shapes K a b low high ds own m) n2 x

  pub beside_nowhere : Nowhere T (length n1) (λ K a. All_met T.shapes K a ds) n1 → Nowhere T base (Met_beside base ds T.shapes) n0
  beside_nowhere x = claim_nowhere T base count n0 n1 (λ K a. All_met T.shapes K a ds) (λ home. All_allow home ds) le inn graph f (λ K a b low high m. all_same_met table base (length n0) count T.shapes K a b low high ds own m) x

pub freed_sound : (table : ShapeTable) (count : ℕ) (n0 n1 : List Node) (entries : List Entry) → Sound table n0 entries → Freed n0 count n1 → Sound table n1 entries
freed_sound table count n0 n1 entries s f = record {
  graph = f.graph;
  bound = f.bound table (length entries) s.bound;
  are = entries_more table (length n0) (length n1) entries (let long : length n1 ≡ length n0 + count = f.long in omega arith) s.are;
}

pub freed_extends : (table : ShapeTable) (count : ℕ) (n0 n1 n2 : List Node) (entries entries' : List Entry) → Freed n0 count n1 → Extends table n1 entries n2 entries' → Extends table n0 entries n2 entries'
freed_extends table count n0 n1 n2 entries entries' f x = record {
  sound = x.sound;
  longer = let long : length n1 ≡ length n0 + count = f.long in let q : length n1 ≤ length n2 = x.longer in omega arith;
  told = x.told;
}
