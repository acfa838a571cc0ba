-- What the demands of a rule with any number of parts say together.
use Rattle.std.proofs.Common.{◌≡◌, ℕ, suc, ◌+◌, ◌-◌, ◌≤◌, ◌<◌, List, [], ◌∷◌, ◌++◌, length, drop, slice_index_or, refl, sym, ◌∙◌, ap, subst, arith}
use mathlib.Core.Logic.{inl, inr}
use Rattle.fut_flat.specs.declared.act.Part.{Part}
use Rattle.fut_flat.specs.declared.act.Part.TheVariants as part
use Rattle.fut_flat.specs.Terms.{Array_of, Index, Update}
use Rattle.fut_types.specs.declared.Kind.{Kind}
use Rattle.fut_types.specs.declared.shapes.ShapeTable.{ShapeTable}
use Rattle.fut_types.specs.Types.{more, Sub, Kinds, HasKind}
use Rattle.fut_types.specs.Shapes.{Shapes}
use Rattle.fut_typing.specs.Names.{Names, count}
use Rattle.fut_typing.specs.Primitives.{array_ty, i64_ty}
use Rattle.fut_typing.specs.Patterns.{arrows}
use Rattle.fut_typing.specs.Rules.{Rule, All_are, bounds, Indexed, Updated}
use Rattle.type_graph.specs.declared.Node.{Node}
use Rattle.type_graph.specs.Graph.{Tables, Each}
use Rattle.type_graph.specs.Claims.{types_of, Adds, Nowhere}
use Rattle.type_graph.proofs.Grown.{joined, joined_low, joined_high, same_types}
use Rattle.type_rules.specs.declared.demand.Demand.{Demand}
use Rattle.type_rules.specs.declared.demand.Demand.TheVariants as demand
use Rattle.type_rules.specs.Demands.{Met, All_met, Allows, All_allow}
use Rattle.type_rules.proofs.Adding.{adds_as, nowhere_as}
use Rattle.type_rules.specs.Own.{Has_number, Own, All_own, Met_beside}
use Rattle.type_rules.specs.Lists.{all_same, all_sizes, left_demand, index_demands, update_demands, function_demands}
use Rattle.type_rules.proofs.RowSaid.{met_append, met_left, met_right, same_to, same_from, sizes_to, sizes_from, index_to, index_chain, chain_met, update_to, update_steps, Steps, steps_met, function_to, function_left, function_met}

-- what demands say, in the words of a rule
module _ (T : Tables) (base : ℕ) (ds : List Demand) (R : Kinds → Sub → Type 0) (n0 n1 : List Node) (to : (K : Kinds) (a : Sub) → Met_beside base ds T.shapes K a → R K a) (fro : (K : Kinds) (a : Sub) → R K a → Met_beside base ds T.shapes K a) where
  pub rule_adds : ((home : ℕ → ℕ) → All_allow home ds) → Adds T base (Met_beside base ds T.shapes) (λ home. All_allow home ds) n0 n1 → Adds T base R (λ home. Unit {0}) n0 n1
  rule_adds allowed x = adds_as T base (Met_beside base ds T.shapes) R (λ home. All_allow home ds) (λ home. Unit {0}) n0 n1 fro to (λ home h. allowed home) x

  pub rule_nowhere : Nowhere T base (Met_beside base ds T.shapes) n0 → Nowhere T base R n0
  rule_nowhere x = nowhere_as T base (Met_beside base ds T.shapes) R n0 fro x

-- homes
pub all_allow_append : (home : ℕ → ℕ) (xs ys : List Demand) → All_allow home xs → All_allow home ys → All_allow home (xs ++ ys)
unfolding All_allow
all_allow_append home [] ys m n = n
all_allow_append home (x ∷ xs) ys m n = (m.0, all_allow_append home xs ys m.1 n)

same_allow : (home : ℕ → ℕ) (e : ℕ) (ps : List ℕ) → All_allow home (all_same e ps)
unfolding All_allow Allows all_same
same_allow home e [] = tt
same_allow home e (p ∷ ps) = (tt, same_allow home e ps)

sizes_allow : (home : ℕ → ℕ) (ps : List ℕ) → All_allow home (all_sizes ps)
unfolding All_allow Allows all_sizes
sizes_allow home [] = tt
sizes_allow home (p ∷ ps) = (tt, sizes_allow home ps)

left_allow : (home : ℕ → ℕ) (p : Part) (t u : ℕ) → Allows home (left_demand p t u)
unfolding Allows
left_allow home part.At t u = tt
left_allow home (part.Slice from to) t u = tt
left_allow home part.Backwards t u = tt

index_allow : (home : ℕ → ℕ) (places : Kind) (ps : List Part) (x t : ℕ) → All_allow home (index_demands places ps x t)
unfolding All_allow Allows index_demands
index_allow home places [] x t = (tt, tt)
index_allow home places (p ∷ ps) x t = (tt, (tt, (left_allow home p t (t + 1), index_allow home places ps (x + 1) (t + 1))))

update_allow : (home : ℕ → ℕ) (places : Kind) (vs : List ℕ) (x : ℕ) → All_allow home (update_demands places vs x)
unfolding All_allow Allows update_demands
update_allow home places [] x = tt
update_allow home places (v ∷ []) x = (tt, tt)
update_allow home places (i ∷ v ∷ vs) x = (tt, (tt, (tt, update_allow home places (v ∷ vs) (x + 1))))

-- numbers
module _ (table : ShapeTable) (base first many : ℕ) where
  pub own_append : (xs ys : List Demand) → All_own table base first many xs → All_own table base first many ys → All_own table base first many (xs ++ ys)
  unfolding All_own
  own_append [] ys m n = n
  own_append (x ∷ xs) ys m n = (m.0, own_append xs ys m.1 n)

  same_own : (e : ℕ) (ps : List ℕ) → Has_number base first many e → Each (λ p. p < base) ps → All_own table base first many (all_same e ps)
  unfolding All_own Own all_same
  same_own e [] h l = tt
  same_own e (p ∷ ps) h l = ((inl l.0, h), same_own e ps h l.1)

  sizes_own : (ps : List ℕ) → Each (λ p. p < base) ps → All_own table base first many (all_sizes ps)
  unfolding All_own Own all_sizes
  sizes_own [] l = tt
  sizes_own (p ∷ ps) l = (inl l.0, sizes_own ps l.1)

  left_own : (p : Part) (t u : ℕ) → Has_number base first many t → Has_number base first many u → Own table base first many (left_demand p t u)
  unfolding Own
  left_own part.At t u h i = (h, i)
  left_own (part.Slice from to) t u h i = (h, i)
  left_own part.Backwards t u h i = (h, i)

  index_own : (places : Kind) (ps : List Part) (x t : ℕ) → first ≤ x → x + length ps < first + many → first ≤ t → t + length ps < first + many → All_own table base first many (index_demands places ps x t)
  unfolding All_own Own index_demands
  index_own places [] x t fx lx ft lt = ((inr (ft, omega arith), inr (fx, omega arith)), tt)
  index_own places (p ∷ ps) x t fx lx ft lt = ((inr (fx, omega arith), inr (omega arith, omega arith)), (inr (omega arith, omega arith), (left_own p t (t + 1) (inr (ft, omega arith)) (inr (omega arith, omega arith)), index_own places ps (x + 1) (t + 1) (omega arith) (omega arith) (omega arith) (omega arith))))

  update_own : (places : Kind) (vs : List ℕ) (x : ℕ) → Each (λ v. v < base) vs → first ≤ x → x + length vs ≤ first + many → All_own table base first many (update_demands places vs x)
  unfolding All_own Own update_demands
  update_own places [] x l fx lx = tt
  update_own places (v ∷ []) x l fx lx = ((inl l.0, inr (fx, omega arith)), tt)
  update_own places (i ∷ v ∷ vs) x l fx lx = (inl l.0, ((inr (fx, omega arith), inr (omega arith, omega arith)), (inr (omega arith, omega arith), update_own places (v ∷ vs) (x + 1) l.1 (omega arith) (omega arith))))

-- types for a rule's own nodes
module _ (base own : ℕ) (le : base ≤ own) (a f : Sub) where
  pub beside_low : (i : ℕ) → i < base → joined own a f i ≡ a i
  beside_low i lt = joined_low own a f i (omega arith)

  pub beside_high : (k : ℕ) → joined own a f (own + k) ≡ f k
  beside_high k = joined_high own a f k

  pub beside_first : joined own a f own ≡ f 0
  beside_first = ap (joined own a f) (let e : own ≡ own + 0 = omega arith in e) ∙ beside_high 0

-- an array literal
module _ (table : ShapeTable) (base own id : ℕ) (ps : List ℕ) (places : Kind) (le : base ≤ own) (lt : id < base) (low : Each (λ p. p < base) ps) where
  pub array_own : All_own table base own 1 (demand.Array id own ∷ demand.Has own places ∷ all_same own ps)
  unfolding All_own Own
  array_own = ((inl lt, inr (omega arith, omega arith)), (inr (omega arith, omega arith), same_own table base own 1 own ps (inr (omega arith, omega arith)) low))

  pub array_allow : (home : ℕ → ℕ) → All_allow home (demand.Array id own ∷ demand.Has own places ∷ all_same own ps)
  unfolding All_allow Allows
  array_allow home = (tt, (tt, same_allow home own ps))

  module _ (S : Shapes) (N : Names) (K : Kinds) (a : Sub) where
    pub array_to : Met_beside base (demand.Array id own ∷ demand.Has own places ∷ all_same own ps) S K a → Rule N places K Array_of (a id) (a id) (types_of a ps)
    unfolding All_met Met
    array_to m = let b = m.types in (
      b own,
      (sym (m.agrees id lt) ∙ m.met.0, m.met.1.0),
      subst (All_are (b own)) (same_types base b a ps m.agrees low) (same_to S K b own ps m.met.1.1),
    )

    pub array_from : Rule N places K Array_of (a id) (a id) (types_of a ps) → Met_beside base (demand.Array id own ∷ demand.Has own places ∷ all_same own ps) S K a
    unfolding All_met Met
    array_from r =
        let b : Sub = joined own a (λ k. r.0) in
        let at : b own ≡ r.0 = beside_first base own le a (λ k. r.0) in
        let agrees : (i : ℕ) → i < base → b i ≡ a i = beside_low base own le a (λ k. r.0) in record {
          types = b;
          agrees = agrees;
          met = (
            agrees id lt ∙ r.1.0 ∙ ap array_ty (sym at),
            (
              subst (HasKind K places) (sym at) r.1.1,
              same_from S K b own ps (subst (λ t. All_are t (types_of b ps)) (sym at) (subst (All_are r.0) (sym (same_types base b a ps agrees low)) r.2)),
            ),
          );
        }

-- an index, of an array x and these bounds
module _ (table : ShapeTable) (base own id x : ℕ) (bs : List ℕ) (ps : List Part) (places : Kind) (le : base ≤ own) (lt : id < base) (lx : x < base) (low : Each (λ p. p < base) bs) where
  pub index_list_own : All_own table base own (length ps + 1 + (length ps + 1)) (demand.Same x own ∷ demand.Same id (own + (length ps + 1)) ∷ (all_sizes bs ++ index_demands places ps own (own + (length ps + 1))))
  unfolding All_own Own
  index_list_own = ((inl lx, inr (omega arith, omega arith)), ((inl lt, inr (omega arith, omega arith)), own_append table base own (length ps + 1 + (length ps + 1)) (all_sizes bs) _ (sizes_own table base own (length ps + 1 + (length ps + 1)) bs low) (index_own table base own (length ps + 1 + (length ps + 1)) places ps own (own + (length ps + 1)) (omega arith) (omega arith) (omega arith) (omega arith))))

  pub index_list_allow : (home : ℕ → ℕ) → All_allow home (demand.Same x own ∷ demand.Same id (own + (length ps + 1)) ∷ (all_sizes bs ++ index_demands places ps own (own + (length ps + 1))))
  unfolding All_allow Allows
  index_list_allow home = (tt, (tt, all_allow_append home (all_sizes bs) _ (sizes_allow home bs) (index_allow home places ps own (own + (length ps + 1)))))

  module _ (S : Shapes) (N : Names) (K : Kinds) (a : Sub) where
    pub index_rule_to : Met_beside base (demand.Same x own ∷ demand.Same id (own + (length ps + 1)) ∷ (all_sizes bs ++ index_demands places ps own (own + (length ps + 1)))) S K a → All_are i64_ty (types_of a bs) × Indexed N places K ps (a x) (a id)
    unfolding All_met Met
    index_rule_to m = let b = m.types in (
      subst (All_are i64_ty) (same_types base b a bs m.agrees low) (sizes_to S K b bs (met_left S K b (all_sizes bs) (index_demands places ps own (own + (length ps + 1))) m.met.1.1)),
      subst (λ t. Indexed N places K ps (a x) t) (sym m.met.1.0 ∙ m.agrees id lt) (subst (λ y. Indexed N places K ps y (b (own + (length ps + 1)))) (sym m.met.0 ∙ m.agrees x lx)
          (index_to S K b N places ps own (own + (length ps + 1)) (met_right S K b (all_sizes bs) (index_demands places ps own (own + (length ps + 1))) m.met.1.1))),
    )

    pub index_rule_from : All_are i64_ty (types_of a bs) → Indexed N places K ps (a x) (a id) → Met_beside base (demand.Same x own ∷ demand.Same id (own + (length ps + 1)) ∷ (all_sizes bs ++ index_demands places ps own (own + (length ps + 1)))) S K a
    unfolding All_met Met
    index_rule_from sizes r =
        let ch = index_chain N places K ps (a x) (a id) r in
        let rows : Sub = joined (length ps + 1) ch.0 ch.1 in
        let b : Sub = joined own a rows in
        let agrees : (i : ℕ) → i < base → b i ≡ a i = beside_low base own le a rows in
        let xs : (k : ℕ) → k ≤ length ps → b (own + k) ≡ ch.0 k = λ k h. beside_high base own le a rows k ∙ joined_low (length ps + 1) ch.0 ch.1 k (omega arith) in
        let ts : (k : ℕ) → k ≤ length ps → b (own + (length ps + 1) + k) ≡ ch.1 k = λ k h. ap b (let e : own + (length ps + 1) + k ≡ own + (length ps + 1 + k) = omega arith in e) ∙ beside_high base own le a rows (length ps + 1 + k) ∙ joined_high (length ps + 1) ch.0 ch.1 k in
        let x0 : b own ≡ a x = beside_first base own le a rows ∙ joined_low (length ps + 1) ch.0 ch.1 0 (omega arith) ∙ ch.2 in
        let t0 : b (own + (length ps + 1)) ≡ a id = ap b (let e : own + (length ps + 1) ≡ own + (length ps + 1) + 0 = omega arith in e) ∙ ts 0 (omega arith) ∙ ch.3 in record {
          types = b;
          agrees = agrees;
          met = (
            agrees x lx ∙ sym x0,
            (
              agrees id lt ∙ sym t0,
              met_append S K b (all_sizes bs) (index_demands places ps own (own + (length ps + 1)))
                  (sizes_from S K b bs (subst (All_are i64_ty) (sym (same_types base b a bs agrees low)) sizes))
                  (chain_met N places K S b ps ch.0 ch.1 own (own + (length ps + 1)) xs ts ch.4),
            ),
          );
        }

-- an update, of an array x
module _ (table : ShapeTable) (base own many id x : ℕ) (vs : List ℕ) (places : Kind) (le : base ≤ own) (lt : id < base) (lx : x < base) (low : Each (λ p. p < base) vs) (some : 1 ≤ length vs) (room : length vs < many) where
  pub update_list_own : All_own table base own many (demand.Same id x ∷ demand.Same x own ∷ update_demands places vs own)
  unfolding All_own Own
  update_list_own = ((inl lt, inl lx), ((inl lx, inr (omega arith, omega arith)), update_own table base own many places vs own low (omega arith) (omega arith)))

  pub update_list_allow : (home : ℕ → ℕ) → All_allow home (demand.Same id x ∷ demand.Same x own ∷ update_demands places vs own)
  unfolding All_allow Allows
  update_list_allow home = (tt, (tt, update_allow home places vs own))

  steps_agree : (N : Names) (K : Kinds) (a b : Sub) (vs : List ℕ) (f : Sub) → ((i : ℕ) → i < base → a i ≡ b i) → Each (λ p. p < base) vs → Steps N places K vs a f → Steps N places K vs b f
  steps_agree N K a b [] f e l s = absurd s
  steps_agree N K a b (v ∷ []) f e l s = sym (e v l.0) ∙ s
  steps_agree N K a b (i ∷ v ∷ vs) f e l s = (sym (e i l.0) ∙ s.0, s.1, steps_agree N K a b (v ∷ vs) (λ k. f (suc k)) e l.1 s.2)

  module _ (S : Shapes) (N : Names) (K : Kinds) (a : Sub) where
    pub update_rule_to : Met_beside base (demand.Same id x ∷ demand.Same x own ∷ update_demands places vs own) S K a → (a id ≡ a x) × Updated N places K (a x) (types_of a vs)
    unfolding All_met Met
    update_rule_to m = let b = m.types in (
      sym (m.agrees id lt) ∙ m.met.0 ∙ m.agrees x lx,
      subst (Updated N places K (a x)) (same_types base b a vs m.agrees low) (subst (λ y. Updated N places K y (types_of b vs)) (sym m.met.1.0 ∙ m.agrees x lx) (update_to S K b N places vs own some m.met.1.1)),
    )

    pub update_rule_from : a id ≡ a x → Updated N places K (a x) (types_of a vs) → Met_beside base (demand.Same id x ∷ demand.Same x own ∷ update_demands places vs own) S K a
    unfolding All_met Met
    update_rule_from same r =
        let st = update_steps N places K a vs (a x) r in
        let b : Sub = joined own a st.0 in
        let agrees : (i : ℕ) → i < base → b i ≡ a i = beside_low base own le a st.0 in
        let x0 : b own ≡ a x = beside_first base own le a st.0 ∙ st.1 in record {
          types = b;
          agrees = agrees;
          met = (
            agrees id lt ∙ same ∙ sym (agrees x lx),
            (
              agrees x lx ∙ sym x0,
              steps_met N places K S b vs st.0 own (λ k h. beside_high base own le a st.0 k) (steps_agree N K a b vs st.0 (λ i l. sym (agrees i l)) low st.2),
            ),
          );
        }

-- the first part and the others
types_split : (a : Sub) (ps : List ℕ) → 1 ≤ length ps → types_of a ps ≡ more (a (slice_index_or ps 0 0)) (types_of a (drop 1 ps))
unfolding types_of
types_split a [] h = absurd (omega arith)
types_split a (p ∷ ps) h = refl

pub first_low : (base : ℕ) (ps : List ℕ) → 1 ≤ length ps → Each (λ p. p < base) ps → slice_index_or ps 0 0 < base
first_low base [] h l = absurd (omega arith)
first_low base (p ∷ ps) h l = l.0

pub rest_low : (base : ℕ) (ps : List ℕ) → Each (λ p. p < base) ps → Each (λ p. p < base) (drop 1 ps)
rest_low base [] l = tt
rest_low base (p ∷ ps) l = l.1

pub long_rest : (ps : List ℕ) → length (drop 1 ps) ≡ length ps - 1
long_rest [] = refl
long_rest (p ∷ ps) = let e : length ps ≡ suc (length ps) - 1 = omega arith in e

count_types : (a : Sub) (ps : List ℕ) → count (types_of a ps) ≡ length ps
unfolding types_of
count_types a [] = refl
count_types a (p ∷ ps) = ap (λ n. 1 + n) (count_types a ps) ∙ (let e : 1 + length ps ≡ suc (length ps) = omega arith in e)

module _ (N : Names) (places : Kind) (K : Kinds) (a : Sub) (id : ℕ) (ps : List ℕ) where
  pub index_empty : (what : List Part) → length ps < 1 → Rule N places K (Index what) (a id) (a id) (types_of a ps) → ⊥
  unfolding types_of
  index_empty what h r = go ps h r
    where
      go : (qs : List ℕ) → length qs < 1 → Rule N places K (Index what) (a id) (a id) (types_of a qs) → ⊥
      go [] h r = r
      go (q ∷ qs) h r = absurd (omega arith)

  pub index_whole : (what : List Part) → 1 ≤ length ps → Rule N places K (Index what) (a id) (a id) (types_of a ps)
      → All_are i64_ty (types_of a (drop 1 ps)) × (length ps - 1 ≡ bounds what) × Indexed N places K what (a (slice_index_or ps 0 0)) (a id)
  index_whole what h r = let s = subst (λ ts. Rule N places K (Index what) (a id) (a id) ts) (types_split a ps h) r in (s.0, sym (long_rest ps) ∙ sym (count_types a (drop 1 ps)) ∙ s.1, s.2)

  pub index_parts : (what : List Part) → 1 ≤ length ps → length ps - 1 ≡ bounds what → All_are i64_ty (types_of a (drop 1 ps)) → Indexed N places K what (a (slice_index_or ps 0 0)) (a id)
      → Rule N places K (Index what) (a id) (a id) (types_of a ps)
  index_parts what h e sizes rows = subst (λ ts. Rule N places K (Index what) (a id) (a id) ts) (sym (types_split a ps h)) (sizes, count_types a (drop 1 ps) ∙ long_rest ps ∙ e, rows)

  pub update_empty : length ps < 2 → Rule N places K Update (a id) (a id) (types_of a ps) → ⊥
  unfolding types_of
  update_empty h r = go ps h r
    where
      go : (qs : List ℕ) → length qs < 2 → Rule N places K Update (a id) (a id) (types_of a qs) → ⊥
      go [] h r = r
      go (q ∷ []) h r = r.1
      go (q ∷ p ∷ qs) h r = absurd (omega arith)

  pub update_whole : 2 ≤ length ps → Rule N places K Update (a id) (a id) (types_of a ps) → (a id ≡ a (slice_index_or ps 0 0)) × Updated N places K (a (slice_index_or ps 0 0)) (types_of a (drop 1 ps))
  update_whole h r = subst (λ ts. Rule N places K Update (a id) (a id) ts) (types_split a ps (omega arith)) r

  pub update_parts : 2 ≤ length ps → (a id ≡ a (slice_index_or ps 0 0)) × Updated N places K (a (slice_index_or ps 0 0)) (types_of a (drop 1 ps)) → Rule N places K Update (a id) (a id) (types_of a ps)
  update_parts h r = subst (λ ts. Rule N places K Update (a id) (a id) ts) (sym (types_split a ps (omega arith))) r

-- a function of parameters
function_allow : (home : ℕ → ℕ) (ps : List ℕ) (body x : ℕ) → All_allow home (function_demands ps body x)
unfolding All_allow Allows function_demands
function_allow home [] body x = (tt, tt)
function_allow home (p ∷ ps) body x = (tt, function_allow home ps body (x + 1))

function_own : (table : ShapeTable) (base first many : ℕ) (ps : List ℕ) (body x : ℕ) → Each (λ p. p < base) ps → body < base → first ≤ x → x + length ps < first + many → All_own table base first many (function_demands ps body x)
unfolding All_own Own function_demands
function_own table base first many [] body x l lb fx lx = ((inr (fx, omega arith), inl lb), tt)
function_own table base first many (p ∷ ps) body x l lb fx lx = ((inr (fx, omega arith), inl l.0, inr (omega arith, omega arith)), function_own table base first many ps body (x + 1) l.1 lb (omega arith) (omega arith))

module _ (table : ShapeTable) (base own id body : ℕ) (ps : List ℕ) (le : base ≤ own) (lt : id < base) (lb : body < base) (low : Each (λ p. p < base) ps) where
  pub function_list_own : All_own table base own (length ps + 1) (demand.Same id own ∷ function_demands ps body own)
  unfolding All_own Own
  function_list_own = ((inl lt, inr (omega arith, omega arith)), function_own table base own (length ps + 1) ps body own low lb (omega arith) (omega arith))

  pub function_list_allow : (home : ℕ → ℕ) → All_allow home (demand.Same id own ∷ function_demands ps body own)
  unfolding All_allow Allows
  function_list_allow home = (tt, function_allow home ps body own)

  module _ (S : Shapes) (K : Kinds) (a : Sub) where
    pub function_rule_to : Met_beside base (demand.Same id own ∷ function_demands ps body own) S K a → a id ≡ arrows (types_of a ps) (a body)
    unfolding All_met Met
    function_rule_to m = let b = m.types in sym (m.agrees id lt) ∙ m.met.0 ∙ function_to S K b ps body own m.met.1 ∙ (λ k. arrows (same_types base b a ps m.agrees low k) (m.agrees body lb k))

    pub function_rule_from : a id ≡ arrows (types_of a ps) (a body) → Met_beside base (demand.Same id own ∷ function_demands ps body own) S K a
    unfolding All_met Met
    function_rule_from r =
        let rows : Sub = function_left (types_of a ps) (a body) in
        let b : Sub = joined own a rows in
        let agrees : (i : ℕ) → i < base → b i ≡ a i = beside_low base own le a rows in record {
          types = b;
          agrees = agrees;
          met = (
            agrees id lt ∙ r ∙ sym (beside_first base own le a rows),
            function_met S K b ps body own (λ k h. beside_high base own le a rows k ∙ (λ j. function_left (same_types base a b ps (λ i l. sym (agrees i l)) low j) (sym (agrees body lb) j) k)),
          );
        }
