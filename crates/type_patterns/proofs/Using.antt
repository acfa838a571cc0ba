-- Uses of names, of values and of types.
use Rattle.std.proofs.Common.{◌≡◌, ℕ, ◌+◌, ◌≤◌, ◌<◌, List, [], ◌∷◌, length, refl, sym, ◌∙◌, subst, arith}
use Rattle.fut_scalar.specs.declared.place.BindId.{BindId}
use Rattle.fut_scalar.specs.declared.scalar.ScalarType.{ScalarType}
use Rattle.fut_scalar.specs.declared.scalar.ScalarType.TheVariants as scalar
use Rattle.fut_scalar.specs.declared.scalar.IntType.TheVariants as int
use Rattle.fut_flat.specs.Terms.{Size_use}
use Rattle.fut_flat.specs.declared.prim.Ref.TheVariants as ref
use Rattle.fut_types.specs.declared.Kind.{Kind}
use Rattle.fut_types.specs.Types.{Ty, Sub, Kinds}
use Rattle.fut_types.specs.declared.shapes.ShapeTable.{ShapeTable}
use Rattle.fut_typing.specs.Names.{Names}
use Rattle.fut_typing.specs.Primitives.{i64_ty}
use Rattle.fut_typing.specs.Homes.{Env, scope_of}
use Rattle.fut_typing.proofs.Cong.{scope_local}
use Rattle.type_graph.specs.declared.Node.{Node}
use Rattle.type_graph.specs.declared.Entry.{Entry}
use Rattle.type_graph.specs.Graph.{Tables, Told, Solves}
use Rattle.type_graph.specs.Claims.{Possible, Adds, Nowhere, Extends as MoreNodes}
use Rattle.type_graph.proofs.Grown.{joined, joined_low, joined_high}
use Rattle.type_scopes.proofs.Going.{later_graph}
use Rattle.type_rules.specs.declared.demand.Demand.TheVariants as demand
use Rattle.type_rules.specs.Demands.{Met, All_met, IsDemand, Are_demands}
use Rattle.type_schemes.specs.Instances.{Instanced}
use Rattle.type_rules.proofs.Freeing.{freed_none}
use Rattle.type_scopes.specs.declared.names.Known.{Known}
use Rattle.type_scopes.specs.declared.names.Known.TheVariants as known
use Rattle.type_scopes.specs.declared.Inference.{Inference}
use Rattle.type_scopes.specs.Table.{known_at}
use Rattle.type_scopes.specs.Scopes.{Safe, Denoted, Means, Claim}
use Rattle.type_patterns.specs.Asking.{Scoped, Asked, Unasked, Added, Use_claim, Name_claim, Size_claim}
use Rattle.type_patterns.proofs.Asking.{anywhere, asked_as, unasked_as, asked_then, unasked_then}
use Rattle.type_patterns.proofs.Own.{safe_own, asked_own, unasked_own}

-- the uses are those where all nodes have types
module _ (places : Kind) (base : ℕ) (i : Inference) (N : Names) (T : Tables) (E : Env) (sc : Scoped N places T base E i) (name : ℕ) where
  uses_low : (K : Kinds) (a b : Sub) (t : Ty) → ((n : ℕ) → n < base → a n ≡ b n) → (scope_of N places E).uses name K a t → (scope_of N places E).uses name K b t
  uses_low K a b t same u = scope_local N places E name K a b t (λ n m. same n (sc.narrow n m)) u

  known_means : (k : Known) → name < length i.names → known_at i.names name ≡ k → (K : Kinds) (full : Sub) → Solves T K full i.nodes → Means T.shapes i.store k ((scope_of N places E).uses name) ((scope_of N places E).types name) K full
  known_means k inn is K full so = subst (λ (x : Known). Means T.shapes i.store x ((scope_of N places E).uses name) ((scope_of N places E).types name) K full) is (sc.knows K full so name inn)

module _ (places : Kind) (base name node : ℕ) (i i' : Inference) (inn : name < length i.names) (lt : node < base) where
  -- what is known of the name says what P says
  module _ (P : Claim) (says : (N : Names) (T : Tables) (E : Env) → Scoped N places T base E i → (K : Kinds) (a : Sub) → Possible T base K a i.nodes → (Use_claim name node N (scope_of N places E) K a → P N (scope_of N places E) K a) × (P N (scope_of N places E) K a → Use_claim name node N (scope_of N places E) K a)) where
    known_ok : Asked places base P i i' → Asked places base (Use_claim name node) i i'
    known_ok c = record {
      later = c.later;
      same = c.same;
      adds = λ N T born E r sc. let x = c.adds N T born E r sc in record {
        forth = λ K a p u. x.forth K a p ((says N T E sc K a p).0 u);
        back = x.back;
        done = λ K a p. (says N T E sc K a (x.back K a p)).1 (x.done K a p);
        keeps = x.keeps;
        state = x.state;
        backed = x.backed;
      };
    }

    known_err : Unasked places base P i i' → Unasked places base (Use_claim name node) i i'
    known_err c = record { labels = c.labels; reads = c.reads; nowhere = λ N T born E r sc pl K a p u. c.nowhere N T born E r sc pl K a p ((says N T E sc K a p).0 u) }

  pub nothing_err : Safe base i → known_at i.names name ≡ known.Nothing → Unasked places base (Use_claim name node) i i
  nothing_err s is = record { labels = s.labels; reads = λ N T born r. r; nowhere = λ N T born E r sc pl K a p u. (known_means places base i N T E sc name known.Nothing inn is K p.full p.solves).usable (a node) (uses_low places base i N T E sc name K a p.full (a node) (λ n q. sym (p.agrees n q)) u) }

  -- a type is no value
  pub not_used : Safe base i → (q : ℕ) → known_at i.names name ≡ known.Type q → Unasked places base (Use_claim name node) i i
  not_used s q is = record { labels = s.labels; reads = λ N T born r. r; nowhere = λ N T born E r sc pl K a p u. (known_means places base i N T E sc name (known.Type q) inn is K p.full p.solves).usable (a node) (uses_low places base i N T E sc name K a p.full (a node) (λ n q. sym (p.agrees n q)) u) }

  number_says : (q : ℕ) → q < base → known_at i.names name ≡ known.Number q → (N : Names) (T : Tables) (E : Env) → Scoped N places T base E i → (K : Kinds) (a : Sub) → Possible T base K a i.nodes
      → ((scope_of N places E).uses name K a (a node) → a node ≡ a q) × (a node ≡ a q → (scope_of N places E).uses name K a (a node))
  number_says q qb is N T E sc K a p = let m = known_means places base i N T E sc name (known.Number q) inn is K p.full p.solves in (
    (λ u. m.usable (a node) (uses_low places base i N T E sc name K a p.full (a node) (λ n x. sym (p.agrees n x)) u) ∙ p.agrees q qb),
    (λ e. uses_low places base i N T E sc name K p.full a (a node) p.agrees (m.used (a node) (e ∙ sym (p.agrees q qb)))),
  )

  size_says : known_at i.names name ≡ known.Size → (N : Names) (T : Tables) (E : Env) → Scoped N places T base E i → (K : Kinds) (a : Sub) → Possible T base K a i.nodes
      → ((scope_of N places E).uses name K a (a node) → a node ≡ i64_ty) × (a node ≡ i64_ty → (scope_of N places E).uses name K a (a node))
  size_says is N T E sc K a p = let m = known_means places base i N T E sc name known.Size inn is K p.full p.solves in (
    (λ u. m.usable (a node) (uses_low places base i N T E sc name K a p.full (a node) (λ n x. sym (p.agrees n x)) u)),
    (λ e. uses_low places base i N T E sc name K p.full a (a node) p.agrees (m.used (a node) e)),
  )

  pub number_ok : (q : ℕ) → q < base → known_at i.names name ≡ known.Number q → Asked places base (λ N scope K a. All_met N.shapes K a (demand.Same node q ∷ [])) i i' → Asked places base (Use_claim name node) i i'
  unfolding All_met Met
  number_ok q qb is c = known_ok (λ N scope K a. a node ≡ a q) (number_says q qb is) (asked_as places base (λ N scope K a. All_met N.shapes K a (demand.Same node q ∷ [])) (λ N scope K a. a node ≡ a q) i i' (λ N E K a h. (h, tt)) (λ N E K a h. h.0) c)

  pub number_err : (q : ℕ) → q < base → known_at i.names name ≡ known.Number q → Unasked places base (λ N scope K a. All_met N.shapes K a (demand.Same node q ∷ [])) i i' → Unasked places base (Use_claim name node) i i'
  unfolding All_met Met
  number_err q qb is c = known_err (λ N scope K a. a node ≡ a q) (number_says q qb is) (unasked_as places base (λ N scope K a. All_met N.shapes K a (demand.Same node q ∷ [])) (λ N scope K a. a node ≡ a q) i i' (λ N E K a h. (h, tt)) c)

  pub size_ok : known_at i.names name ≡ known.Size → Asked places base (λ N scope K a. All_met N.shapes K a (demand.Is node (scalar.Int int.I64) ∷ [])) i i' → Asked places base (Use_claim name node) i i'
  unfolding All_met Met
  size_ok is c = known_ok (λ N scope K a. a node ≡ i64_ty) (size_says is) (asked_as places base (λ N scope K a. All_met N.shapes K a (demand.Is node (scalar.Int int.I64) ∷ [])) (λ N scope K a. a node ≡ i64_ty) i i' (λ N E K a h. (h, tt)) (λ N E K a h. h.0) c)

  pub size_err : known_at i.names name ≡ known.Size → Unasked places base (λ N scope K a. All_met N.shapes K a (demand.Is node (scalar.Int int.I64) ∷ [])) i i' → Unasked places base (Use_claim name node) i i'
  unfolding All_met Met
  size_err is c = known_err (λ N scope K a. a node ≡ i64_ty) (size_says is) (unasked_as places base (λ N scope K a. All_met N.shapes K a (demand.Is node (scalar.Int int.I64) ∷ [])) (λ N scope K a. a node ≡ i64_ty) i i' (λ N E K a h. (h, tt)) c)

  -- a definition
  instance_says : (first count : ℕ) → known_at i.names name ≡ known.Definition first count → (N : Names) (T : Tables) (E : Env) → Scoped N places T base E i → (K : Kinds) (a : Sub) → Possible T base K a i.nodes
      → ((scope_of N places E).uses name K a (a node) → Instanced T base i.nodes i.store first count node K a) × (Instanced T base i.nodes i.store first count node K a → (scope_of N places E).uses name K a (a node))
  instance_says first count is N T E sc K a p = (
    (λ u. let m = known_means places base i N T E sc name (known.Definition first count) inn is K p.full p.solves in record { full = p.full; agrees = p.agrees; solves = p.solves; instance = m.usable (a node) (uses_low places base i N T E sc name K a p.full (a node) (λ n x. sym (p.agrees n x)) u) }),
    (λ h. let m = known_means places base i N T E sc name (known.Definition first count) inn is K h.full h.solves in uses_low places base i N T E sc name K h.full a (a node) h.agrees (m.used (a node) h.instance)),
  )

  pub definition_ok : (first count : ℕ) → known_at i.names name ≡ known.Definition first count → (nodes : List Node) (entries : List Entry) → Safe base i → MoreNodes i.table i.nodes i.entries nodes entries
      → ((T : Tables) → Told i.table entries T → Adds T base (Instanced T base i.nodes i.store first count node) anywhere i.nodes nodes) → Asked places base (Use_claim name node) i (record i { nodes = nodes; entries = entries })
  definition_ok first count is nodes entries s more f = record {
    later = later_graph base i nodes entries s more (λ N T born r. (f T r.told).keeps);
    same = record { names = refl; past = refl };
    adds = λ N T born E r sc. let x = f T r.told in record {
      forth = λ K a p u. x.forth K a p ((instance_says first count is N T E sc K a p).0 u);
      back = x.back;
      done = λ K a p. (instance_says first count is N T E sc K a (x.back K a p)).1 (x.done K a p);
      keeps = x.keeps;
      state = x.state;
      backed = λ home h b. x.backed home born h b;
    };
  }

  pub definition_err : Safe base i → (first count : ℕ) → known_at i.names name ≡ known.Definition first count → (nodes : List Node) (entries : List Entry) → ((T : Tables) → Told i.table entries T → Nowhere T base (Instanced T base i.nodes i.store first count node) i.nodes)
      → ((T : Tables) → Told i.table entries T → Told i.table i.entries T) → Unasked places base (Use_claim name node) i (record i { nodes = nodes; entries = entries })
  definition_err s first count is nodes entries un before = record {
    labels = s.labels;
    reads = λ N T born r. record { names = r.names; labelled = r.labelled; shapes = r.shapes; told = before T r.told; seats = r.seats };
    nowhere = λ N T born E r sc pl K a p u. un T r.told pl K a p ((instance_says first count is N T E sc K a p).0 u);
  }

-- the types of names
module _ (places : Kind) (base : ℕ) (b : BindId) (node : ℕ) (i i' : Inference) (inn : b.0 < length i.names) (lt : node < base) (s : Safe base i) where
  -- what is no type
  pub no_type_err : (k : Known) → ((full : Sub) (t : Ty) → Denoted k full t → ⊥) → known_at i.names b.0 ≡ k → Unasked places base (Name_claim (ref.Bound b) node) i i
  no_type_err k none is = record { labels = s.labels; reads = λ N T born r. r; nowhere = λ N T born E r sc pl K a p u. none p.full (a node) ((known_means places base i N T E sc b.0 k inn is K p.full p.solves).denoted (a node) u) }

  module _ (p : ℕ) (is : known_at i.names b.0 ≡ known.Type p) (all : ℕ) (ea : all ≡ length i.nodes) where
    abbrev same : Claim
    same N scope K a = All_met N.shapes K a (demand.Same node p ∷ [])

    give : (N : Names) (T : Tables) (E : Env) → Scoped N places T base E i → (K : Kinds) (a c : Sub) → ((n : ℕ) → n < base → c n ≡ a n) → Solves T K c i.nodes → Name_claim (ref.Bound b) node N (scope_of N places E) K a → (types : Sub) × ((n : ℕ) → n < length i.nodes → types n ≡ c n) × same N (scope_of N places E) K types
    unfolding All_met Met
    give N T E sc K a c agree so u = (c, (λ n lt. refl), (agree node lt ∙ (known_means places base i N T E sc b.0 (known.Type p) inn is K c so).denoted (a node) u, tt))

    take : (N : Names) (T : Tables) (E : Env) → Scoped N places T base E i → (K : Kinds) (a c : Sub) → ((n : ℕ) → n < base → c n ≡ a n) → Solves T K c i.nodes → same N (scope_of N places E) K c → Name_claim (ref.Bound b) node N (scope_of N places E) K a
    unfolding All_met Met
    take N T E sc K a c agree so h = (known_means places base i N T E sc b.0 (known.Type p) inn is K c so).denotes (a node) (sym (agree node lt) ∙ h.0)

    nothing_added : Added 0 i i
    nothing_added = record { freed = freed_none i.nodes s.sound.graph; is = refl }

    pub type_ok : Asked places all same i i' → Asked places base (Name_claim (ref.Bound b) node) i i'
    type_ok c = asked_own base 0 i i s nothing_added all ea places same (Name_claim (ref.Bound b) node) i' give take c

    pub type_err : Unasked places all same i i' → Unasked places base (Name_claim (ref.Bound b) node) i i'
    type_err c = unasked_own base 0 i i s nothing_added all ea places same (Name_claim (ref.Bound b) node) i' give c

-- a type of its name
pub is_ok : (places : Kind) (base node : ℕ) (t : ScalarType) (i i' : Inference) → Asked places base (λ N scope K a. All_met N.shapes K a (demand.Is node t ∷ [])) i i' → Asked places base (Name_claim (ref.Scalar t) node) i i'
unfolding All_met Met
is_ok places base node t i i' c = asked_as places base (λ N scope K a. All_met N.shapes K a (demand.Is node t ∷ [])) (Name_claim (ref.Scalar t) node) i i' (λ N E K a h. (h, tt)) (λ N E K a h. h.0) c

pub is_err : (places : Kind) (base node : ℕ) (t : ScalarType) (i i' : Inference) → Unasked places base (λ N scope K a. All_met N.shapes K a (demand.Is node t ∷ [])) i i' → Unasked places base (Name_claim (ref.Scalar t) node) i i'
unfolding All_met Met
is_err places base node t i i' c = unasked_as places base (λ N scope K a. All_met N.shapes K a (demand.Is node t ∷ [])) (Name_claim (ref.Scalar t) node) i i' (λ N E K a h. (h, tt)) c

-- a name in a size: a node of its own has the type i64
module _ (places : Kind) (base : ℕ) (b : BindId) (i0 i1 i2 i3 : Inference) (own : ℕ) (s : Safe base i0) (ad : Added 1 i0 i1) (first : own ≡ length i0.nodes) (all : ℕ) (ea : all ≡ length i1.nodes) where
  abbrev is_size : Claim
  is_size N scope K a = All_met N.shapes K a (demand.Is own (scalar.Int int.I64) ∷ [])

  abbrev both : Claim
  both N scope K a = is_size N scope K a × Use_claim b.0 own N scope K a

  abbrev sized : Claim
  sized = Size_claim (Size_use (ref.Bound b))

  size_give : (N : Names) (T : Tables) (E : Env) → Scoped N places T base E i0 → (K : Kinds) (a c : Sub) → ((n : ℕ) → n < base → c n ≡ a n) → Solves T K c i0.nodes → sized N (scope_of N places E) K a → (types : Sub) × ((n : ℕ) → n < length i0.nodes → types n ≡ c n) × both N (scope_of N places E) K types
  unfolding All_met Met
  size_give N T E sc K a c agree so u =
      let types : Sub = joined (length i0.nodes) c (λ k. i64_ty) in
      let low : (n : ℕ) → n < length i0.nodes → types n ≡ c n = λ n lt. joined_low (length i0.nodes) c (λ k. i64_ty) n lt in
      let high : types own ≡ i64_ty = subst (λ m. joined (length i0.nodes) c (λ k. i64_ty) m ≡ i64_ty) (let e : length i0.nodes + 0 ≡ own = omega (arith, first) in e) (joined_high (length i0.nodes) c (λ k. i64_ty) 0) in
      (types, low, ((high, tt), subst (λ t. (scope_of N places E).uses b.0 K types t) (sym high) (uses_low places base i0 N T E sc b.0 K a types i64_ty (λ n lt. sym (agree n lt) ∙ sym (low n (let q : base ≤ length i0.nodes = s.inside in omega arith))) u)))

  size_take : (N : Names) (T : Tables) (E : Env) → Scoped N places T base E i0 → (K : Kinds) (a c : Sub) → ((n : ℕ) → n < base → c n ≡ a n) → Solves T K c i0.nodes → both N (scope_of N places E) K c → sized N (scope_of N places E) K a
  unfolding All_met Met
  size_take N T E sc K a c agree so h = uses_low places base i0 N T E sc b.0 K c a i64_ty agree (subst (λ t. (scope_of N places E).uses b.0 K c t) h.0.0 h.1)

  pub sized_err1 : Unasked places all is_size i1 i2 → Unasked places base sized i0 i2
  sized_err1 c = unasked_own base 1 i0 i1 s ad all ea places both sized i2 size_give (unasked_as places all is_size both i1 i2 (λ N E K a h. h.0) c)

  module _ (c1 : Asked places all is_size i1 i2) where
    pub sized_ok : Asked places all (Use_claim b.0 own) i2 i3 → Asked places base sized i0 i3
    sized_ok c = asked_own base 1 i0 i1 s ad all ea places both sized i3 size_give size_take (asked_then places all is_size (Use_claim b.0 own) both i1 i2 i3 (safe_own base 1 i0 i1 s ad all ea) (λ N E K a h. h) c1 (λ N E K a p q. (p, q)) c)

    pub sized_err2 : Unasked places all (Use_claim b.0 own) i2 i3 → Unasked places base sized i0 i3
    sized_err2 c = unasked_own base 1 i0 i1 s ad all ea places both sized i3 size_give (unasked_then places all is_size (Use_claim b.0 own) both i1 i2 i3 (safe_own base 1 i0 i1 s ad all ea) (λ N E K a h. h) c1 c)

-- demands are within
pub same_within : (table : ShapeTable) (base i j : ℕ) → i < base → j < base → Are_demands table base (demand.Same i j ∷ [])
unfolding Are_demands IsDemand
same_within table base i j p q = ((p, q), tt)

pub is_within : (table : ShapeTable) (base i : ℕ) (t : ScalarType) → i < base → Are_demands table base (demand.Is i t ∷ [])
unfolding Are_demands IsDemand
is_within table base i t p = (p, tt)

pub fun_within : (table : ShapeTable) (base i j k : ℕ) → i < base → j < base → k < base → Are_demands table base (demand.Fun i j k ∷ [])
unfolding Are_demands IsDemand
fun_within table base i j k p q r = ((p, q, r), tt)

pub array_within : (table : ShapeTable) (base i j : ℕ) (k : Kind) → i < base → j < base → Are_demands table base (demand.Array i j ∷ demand.Has j k ∷ [])
unfolding Are_demands IsDemand
array_within table base i j k p q = ((p, q), (q, tt))
