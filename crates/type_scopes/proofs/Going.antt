-- Going on: what is known stays known of a larger graph and a larger store.
use Rattle.std.proofs.Common.{◌≡◌, ℕ, ◌+◌, ◌≤◌, ◌<◌, List, length, refl, sym, ◌∙◌, subst, arith}
use mathlib.Core.Logic.{inl, inr}
use Rattle.fut_types.specs.Shapes.{Shapes, HasPart}
use Rattle.fut_types.specs.declared.Kind.{Kind}
use Rattle.fut_types.specs.declared.shapes.ShapeTable.{ShapeTable}
use Rattle.fut_types.specs.Types.{Ty, Sub, Kinds}
use Rattle.fut_typing.specs.Names.{Names}
use Rattle.fut_typing.specs.Scopes.{Uses, Scope}
use Rattle.fut_typing.specs.Homes.{Env, scope_of}
use Rattle.type_graph.specs.declared.Node.{Node}
use Rattle.type_graph.specs.declared.Entry.{Entry}
use Rattle.type_graph.specs.Graph.{far, Tables, Solves}
use Rattle.type_graph.specs.Claims.{Extends as MoreNodes}
use Rattle.type_schemes.specs.declared.Part.{Part}
use Rattle.type_schemes.specs.declared.PartForm.{PartForm}
use Rattle.type_schemes.specs.declared.PartForm.TheVariants as part
use Rattle.type_schemes.specs.Schemes.{part_at, PartShows, PartFits, PartWithin, PartKnown, Extends, Region, Known as KnownHeads, Instance}
use Rattle.type_scopes.specs.declared.names.Known.{Known}
use Rattle.type_scopes.specs.declared.names.Known.TheVariants as known
use Rattle.type_scopes.specs.declared.names.Seat.{Seat}
use Rattle.type_scopes.specs.declared.Inference.{Inference}
use Rattle.type_scopes.specs.Table.{known_at}
use Rattle.type_scopes.specs.Scopes.{Stored, Puts, Safe, Reads, Usable, Means, Knows, Ready, Wider, Later, Same, Claim, Homes, Depends}

-- more nodes and more parts
within_more : (n n' f e k : ℕ) (o : PartForm) → n ≤ n' → PartWithin n f e k o → PartWithin n' f e k o
within_more n n' f e k part.Free le w = tt
within_more n n' f e k (part.Shared j) le w = omega arith
within_more n n' f e k (part.Again m) le w = w
within_more n n' f e k (part.Made h x c) le w = w
within_more n n' f e k (part.Open x c) le w = w

pub extends_none : (store : List Part) → Extends store store
extends_none store = (omega arith, λ k lt. refl)

pub extends_then : (s0 s1 s2 : List Part) → Extends s0 s1 → Extends s1 s2 → Extends s0 s2
extends_then s0 s1 s2 x y = ((let a : length s0 ≤ length s1 = x.0 in let b : length s1 ≤ length s2 = y.0 in omega arith), λ k lt. y.1 k (let a : length s0 ≤ length s1 = x.0 in omega arith) ∙ x.1 k lt)

pub region_more : (n n' : ℕ) (store store' : List Part) (f c : ℕ) → n ≤ n' → Extends store store' → length store' < 4294967295 → Region n store f c → Region n' store' f c
region_more n n' store store' f c le ex short r = record {
  some = r.some;
  within = let a : f + c ≤ length store = r.within in let b : length store ≤ length store' = ex.0 in omega arith;
  short = short;
  each = λ k p q. subst (λ (x : Part). PartWithin n' f (f + c) k x.form) (sym (ex.1 k (let a : f + c ≤ length store = r.within in omega arith))) (within_more n n' f (f + c) k (part_at store k).form le (r.each k p q));
}

part_known : (table table' : ShapeTable) (store store' : List Part) (n f e k : ℕ) (o : PartForm) → Wider table table' → e ≤ length store → Extends store store' → PartWithin n f e k o → PartKnown table store o → PartKnown table' store' o
part_known table table' store store' n f e k part.Free w le ex wi h = tt
part_known table table' store store' n f e k (part.Shared j) w le ex wi h = tt
part_known table table' store store' n f e k (part.Again m) w le ex wi h = tt
part_known table table' store store' n f e k (part.Made hd x c) w le ex wi h = w.heads hd h
part_known table table' store store' n f e k (part.Open x c) w le ex wi h = λ i lt. let q : x + c ≤ e = wi.1 in let z : (part_at store (x + i)).label < length table.positions = h i lt in let y : length table.positions ≤ length table'.positions = w.labels in
    subst (λ (p : Part). p.label < length table'.positions) (sym (ex.1 (x + i) (omega arith))) (omega arith)

heads_more : (table table' : ShapeTable) (store store' : List Part) (n f c : ℕ) → Wider table table' → Extends store store' → Region n store f c → KnownHeads table store f c → KnownHeads table' store' f c
heads_more table table' store store' n f c w ex r h k p q = subst (λ (x : Part). PartKnown table' store' x.form) (sym (ex.1 k (let a : f + c ≤ length store = r.within in omega arith)))
    (part_known table table' store store' n f (f + c) k (part_at store k).form w r.within ex (r.each k p q) (h k p q))

pub stored_more : (base n n' : ℕ) (table table' : ShapeTable) (store store' : List Part) (k : Known) → n ≤ n' → Wider table table' → Extends store store' → length store' < 4294967295 → Stored base n table store k → Stored base n' table' store' k
stored_more base n n' table table' store store' known.Nothing le w ex short s = tt
stored_more base n n' table table' store store' (known.Number p) le w ex short s = s
stored_more base n n' table table' store store' known.Size le w ex short s = tt
stored_more base n n' table table' store store' (known.Type p) le w ex short s = omega arith
stored_more base n n' table table' store store' (known.Definition f c) le w ex short s = (region_more n n' store store' f c le ex short s.0, heads_more table table' store store' n f c w ex s.0 s.1)

-- the types that parts show, in another store that has them
shows_moved : (S : Shapes) (store store' : List Part) (n f e k : ℕ) (full p : Sub) (t : Ty) (o : PartForm) → ((j : ℕ) → f ≤ j → j < e → part_at store' j ≡ part_at store j) → PartWithin n f e k o → PartShows S store full p t o → PartShows S store' full p t o
shows_moved S store store' n f e k full p t part.Free same w h = tt
shows_moved S store store' n f e k full p t (part.Shared j) same w h = h
shows_moved S store store' n f e k full p t (part.Again m) same w h = h
shows_moved S store store' n f e k full p t (part.Made hd x c) same w h = h
shows_moved S store store' n f e k full p t (part.Open x c) same w h = λ i lt. let q : f ≤ x = w.0 in let r : x + c ≤ e = w.1 in subst (λ (y : Part). HasPart S y.label t (p (x + i))) (sym (same (x + i) (omega arith) (omega arith))) (h i lt)

instance_moved : (S : Shapes) (store store' : List Part) (n f c : ℕ) (K : Kinds) (full : Sub) (t : Ty) → ((k : ℕ) → f ≤ k → k < f + c → part_at store' k ≡ part_at store k) → ((k : ℕ) → f ≤ k → k < f + c → PartWithin n f (f + c) k (part_at store k).form) → Instance S store f c K full t → Instance S store' f c K full t
instance_moved S store store' n f c K full t same wi i = record {
  parts = i.parts;
  fits = λ k p q. let x = i.fits k p q in subst (PartFits S store' K full i.parts (i.parts k)) (sym (same k p q)) (record { shows = shows_moved S store store' n f (f + c) k full i.parts (i.parts k) (part_at store k).form same (wi k p q) x.shows; has = x.has });
  is = i.is;
}

usable_more : (S : Shapes) (base n : ℕ) (table : ShapeTable) (store store' : List Part) (k : Known) (K : Kinds) (full : Sub) (t : Ty) → Extends store store' → Stored base n table store k → (Usable S store k K full t → Usable S store' k K full t) × (Usable S store' k K full t → Usable S store k K full t)
usable_more S base n table store store' known.Nothing K full t ex s = ((λ u. u), (λ u. u))
usable_more S base n table store store' (known.Number p) K full t ex s = ((λ u. u), (λ u. u))
usable_more S base n table store store' known.Size K full t ex s = ((λ u. u), (λ u. u))
usable_more S base n table store store' (known.Type p) K full t ex s = ((λ u. u), (λ u. u))
usable_more S base n table store store' (known.Definition f c) K full t ex s =
    let same : (k : ℕ) → f ≤ k → k < f + c → part_at store' k ≡ part_at store k = λ k p q. ex.1 k (let a : f + c ≤ length store = s.0.within in omega arith) in (
      (λ i. instance_moved S store store' n f c K full t same s.0.each i),
      (λ i. instance_moved S store' store n f c K full t (λ k p q. sym (same k p q)) (λ k p q. subst (λ (x : Part). PartWithin n f (f + c) k x.form) (sym (same k p q)) (s.0.each k p q)) i),
    )

pub means_more : (S : Shapes) (base n : ℕ) (table : ShapeTable) (store store' : List Part) (k : Known) (uses : Uses) (types : Ty → Type 0) (K : Kinds) (full : Sub) → Extends store store' → Stored base n table store k → Means S store k uses types K full → Means S store' k uses types K full
means_more S base n table store store' k uses types K full ex s m = record {
  usable = λ t u. (usable_more S base n table store store' k K full t ex s).0 (m.usable t u);
  used = λ t u. m.used t ((usable_more S base n table store store' k K full t ex s).1 u);
  denoted = m.denoted;
  denotes = m.denotes;
}

-- the same names, a larger store
pub knows_more : (S : Shapes) (base : ℕ) (i i' : Inference) (scope : Scope) (K : Kinds) (full : Sub) → Safe base i → i'.names ≡ i.names → Extends i.store i'.store → Knows S i scope K full → Knows S i' scope K full
knows_more S base i i' scope K full s same ex k b lt =
    let lt' : b < length i.names = subst (λ ns. b < length ns) same lt in
    subst (λ ns. Means S i'.store (known_at ns b) (scope.uses b) (scope.types b) K full) (sym same) (means_more S base (length i.nodes) i.table i.store i'.store (known_at i.names b) (scope.uses b) (scope.types b) K full ex (s.stored b lt') (k b lt'))

pub wider_none : (table : ShapeTable) → Wider table table
wider_none table = record { heads = λ h k. k; labels = omega arith }

pub wider_then : (t0 t1 t2 : ShapeTable) → Wider t0 t1 → Wider t1 t2 → Wider t0 t2
wider_then t0 t1 t2 x y = record { heads = λ h k. y.heads h (x.heads h k); labels = let a : length t0.positions ≤ length t1.positions = x.labels in let b : length t1.positions ≤ length t2.positions = y.labels in omega arith }

-- one step after the other
pub later_none : (base : ℕ) (i : Inference) → Safe base i → Later base i i
later_none base i s = record { safe = s; reads = λ N T born r. r; seats = λ n h. refl; keeps = λ N T born r K a so. so; longer = omega arith; store = extends_none i.store; names = refl; wider = wider_none i.table }

pub later_then : (base : ℕ) (i0 i1 i2 : Inference) → Later base i0 i1 → Later base i1 i2 → Later base i0 i2
later_then base i0 i1 i2 x y = record {
  safe = y.safe;
  reads = λ N T born r. x.reads N T born (y.reads N T born r);
  seats = λ n h. y.seats n (subst (λ (t : Seat). t.node < far) (sym (x.seats n h)) h) ∙ x.seats n h;
  keeps = λ N T born r K a so. x.keeps N T born (y.reads N T born r) K a (y.keeps N T born r K a so);
  longer = let a : length i0.nodes ≤ length i1.nodes = x.longer in let b : length i1.nodes ≤ length i2.nodes = y.longer in omega arith;
  store = extends_then i0.store i1.store i2.store x.store y.store;
  names = y.names ∙ x.names;
  wider = wider_then i0.table i1.table i2.table x.wider y.wider;
}

pub same_none : (i : Inference) → Same i i
same_none i = record { names = refl; past = refl }

pub same_then : (i0 i1 i2 : Inference) → Same i0 i1 → Same i1 i2 → Same i0 i2
same_then i0 i1 i2 x y = record { names = y.names ∙ x.names; past = y.past ∙ x.past }

-- a larger graph
module _ (base : ℕ) (i : Inference) (nodes : List Node) (entries : List Entry) (s : Safe base i) (x : MoreNodes i.table i.nodes i.entries nodes entries) where
  pub reads_less : (N : Names) (T : Tables) (born : ℕ → ℕ) → Reads (record i { nodes = nodes; entries = entries }) N T born → Reads i N T born
  reads_less N T born r = record { names = r.names; labelled = r.labelled; shapes = r.shapes; told = x.told T r.told; seats = r.seats }

  pub later_graph : ((N : Names) (T : Tables) (born : ℕ → ℕ) → Reads (record i { nodes = nodes; entries = entries }) N T born → (K : Kinds) (a : Sub) → Solves T K a nodes → Solves T K a i.nodes) → Later base i (record i { nodes = nodes; entries = entries })
  later_graph keeps = record {
    safe = record {
      table = s.table;
      labels = s.labels;
      sound = x.sound;
      inside = let a : base ≤ length i.nodes = s.inside in let b : length i.nodes ≤ length nodes = x.longer in omega arith;
      short = s.short;
      stored = λ b lt. stored_more base (length i.nodes) (length nodes) i.table i.table i.store i.store (known_at i.names b) x.longer (wider_none i.table) (extends_none i.store) s.short (s.stored b lt);
    };
    reads = reads_less;
    seats = λ n h. refl;
    keeps = keeps;
    longer = x.longer;
    store = extends_none i.store;
    names = refl;
    wider = wider_none i.table;
  }

module _ (N : Names) (places : Kind) (T : Tables) (home born : ℕ → ℕ) (base : ℕ) (E : Env) (d lo : ℕ) (i : Inference) where
  pub ready_up : (d' lo' : ℕ) → d ≤ d' → d' < far → lo ≤ lo' → Ready N places T home born base E d lo i → Ready N places T home born base E d' lo' i
  ready_up d' lo' dd df ll r = record {
    depth = df;
    outer = r.outer;
    state = r.state;
    backed = r.backed;
    plain = r.plain;
    narrow = λ n m. let q = r.narrow n m in let q0 : n < lo = q.0 in let q1 : home n ≤ d = q.1 in (omega arith, omega arith);
    knows = r.knows;
    below = λ K a b same p. r.below K a b (λ n lt. same n (omega arith)) p;
  }

  pub ready_on : (lo' : ℕ) → lo ≤ lo' → Ready N places T home born base E d lo i → Ready N places T home born base E d lo' i
  ready_on lo' ll r = ready_up d lo' (omega arith) r.depth ll r

  -- behind a part of a program, whose numbers end at hi
  pub ready_next : (hi : ℕ) (i' : Inference) (P : Claim) (H : Homes) → lo ≤ hi → Depends places P lo hi → Safe base i → i'.names ≡ i.names → Extends i.store i'.store → length i.nodes ≤ length i'.nodes → Ready N places T home born base E d lo i → H home
      → Puts T born base (P N (scope_of N places E)) H i.nodes i'.nodes → Ready N places T home born base E d hi i'
  ready_next hi i' P H le dep s names ex longer r h x = record {
    depth = r.depth;
    outer = r.outer;
    state = x.state home r.state;
    backed = x.backed home h r.backed;
    plain = λ n k p. r.plain n k (omega arith);
    narrow = λ n m. let q = r.narrow n m in let q0 : n < lo = q.0 in (omega arith, q.1);
    knows = λ K full so. knows_more T.shapes base i i' (scope_of N places E) K full s names ex (r.knows K full (x.keeps K full so));
    below = λ K a b same p. x.forth K b (r.below K a b (λ n lt. same n (omega arith)) (x.back K a p)) (dep N E K a b (λ n. elim [ inl m ↦ let q : n < lo = (r.narrow n m).0 in same n (omega arith) | inr w ↦ same n w.1 ]) (x.done K a p));
  }
