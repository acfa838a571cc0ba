-- Nodes of a written type's own, which stand behind base.
use Rattle.std.proofs.Common.{◌≡◌, ℕ, ◌+◌, ◌≤◌, ◌<◌, List, length, refl, sym, ◌∙◌, ap, subst, arith}
use Rattle.fut_types.specs.declared.Kind.{Kind}
use Rattle.fut_types.specs.declared.shapes.ShapeTable.{ShapeTable}
use Rattle.fut_types.specs.Types.{Sub, Kinds}
use Rattle.fut_typing.specs.Names.{Names}
use Rattle.fut_typing.specs.Homes.{Env, scope_of}
use Rattle.type_graph.specs.declared.Node.{Node}
use Rattle.type_graph.specs.Graph.{Tables, Solves, IsGraph}
use Rattle.type_graph.specs.Claims.{Inside, Possible}
use Rattle.type_graph.proofs.Grown.{solves_old, solves_agree, sound_inside}
use Rattle.type_schemes.specs.declared.Part.{Part}
use Rattle.type_rules.specs.Own.{Freed}
use Rattle.type_rules.proofs.Beside.{near_home, state_near, state_back, freed_sound}
use Rattle.type_scopes.specs.declared.names.Known.{Known}
use Rattle.type_scopes.specs.declared.names.Known.TheVariants as known
use Rattle.type_scopes.specs.declared.Inference.{Inference}
use Rattle.type_scopes.specs.Table.{known_at}
use Rattle.type_scopes.specs.Scopes.{Stored, Safe, Reads, Knows, Later, Claim, Puts, NotPossible}
use Rattle.type_scopes.proofs.Going.{stored_more, wider_none, extends_none}
use Rattle.type_scopes.proofs.Putting.{Says}
use Rattle.type_patterns.specs.Asking.{Scoped, Asked, Unasked, Added}
use Rattle.type_patterns.proofs.Asking.{anywhere}

-- P says of all nodes what R says of those below base
abbrev pub Gives : Tables → ℕ → List Node → Says → Says → Type 0
Gives T base nodes P R = (K : Kinds) (a b : Sub) → ((i : ℕ) → i < base → b i ≡ a i) → Solves T K b nodes → R K a → (types : Sub) × ((i : ℕ) → i < length nodes → types i ≡ b i) × P K types

abbrev pub Takes : Tables → ℕ → List Node → Says → Says → Type 0
Takes T base nodes P R = (K : Kinds) (a b : Sub) → ((i : ℕ) → i < base → b i ≡ a i) → Solves T K b nodes → P K b → R K a

module _ (T : Tables) (born : ℕ → ℕ) (base count : ℕ) (n0 n1 : List Node) (P R : Says) (le : base ≤ length n0) (inn : Inside T n0) (graph : IsGraph n0) (f : Freed n0 count n1) where
  -- a solution, with types for the nodes that are added
  full_of : (K : Kinds) (types b : Sub) → ((i : ℕ) → i < length n0 → types i ≡ b i) → Solves T K b n0 → Possible T (length n1) K types n1
  full_of K types b same s = record { full = types; agrees = λ i lt. refl; solves = f.solves T K types (solves_agree T K b types n0 graph inn (λ i lt. sym (same i lt)) s) }

  longer : base ≤ length n1
  longer = let long : length n1 ≡ length n0 + count = f.long in omega arith

  pub own_puts : (n2 : List Node) → Gives T base n0 P R → Takes T base n0 P R → Puts T born (length n1) P anywhere n1 n2 → Puts T born base R anywhere n0 n2
  own_puts n2 give take x = record {
    forth = λ K a p r. let w = give K a p.full p.agrees p.solves r in let q = x.forth K w.0 (full_of K w.0 p.full w.1 p.solves) w.2 in
        record { full = q.full; agrees = λ i lt. q.agrees i (let l : base ≤ length n1 = longer in omega arith) ∙ w.1 i (omega arith) ∙ p.agrees i lt; solves = q.solves };
    back = λ K a p. record { full = p.full; agrees = p.agrees; solves = old K p.full p.solves };
    done = λ K a p. take K a p.full p.agrees (old K p.full p.solves) (x.done K p.full (record { full = p.full; agrees = λ i lt. refl; solves = p.solves }));
    keeps = old;
    state = λ home s. state_back T home base (length n1) n2 longer (x.state (near_home base home) (state_near T home base n1 f.graph longer ((f.grown T inn).state home base le s)));
    backed = λ home h b. x.backed home h ((f.grown T inn).backed home born b);
  }
    where
      old : (K : Kinds) (a : Sub) → Solves T K a n2 → Solves T K a n0
      old K a s = solves_old T n0 n1 (f.grown T inn) K a (x.keeps K a s)

  pub own_not : Gives T base n0 P R → NotPossible T (length n1) P n1 → NotPossible T base R n0
  own_not give x pl K a p r = let w = give K a p.full p.agrees p.solves r in x pl K w.0 (full_of K w.0 p.full w.1 p.solves) w.2

-- what is there is below a higher base
stored_high : (base all n : ℕ) (table : ShapeTable) (store : List Part) (k : Known) → base ≤ all → Stored base n table store k → Stored all n table store k
stored_high base all n table store known.Nothing le s = tt
stored_high base all n table store (known.Number p) le s = omega arith
stored_high base all n table store known.Size le s = tt
stored_high base all n table store (known.Type p) le s = s
stored_high base all n table store (known.Definition f c) le s = s

pub high : (base : ℕ) (i : Inference) → Safe base i → (all : ℕ) → all ≡ length i.nodes → Safe all i
high base i s all ea = record {
  table = s.table;
  labels = s.labels;
  sound = s.sound;
  inside = omega arith;
  short = s.short;
  stored = λ b lt. stored_high base all (length i.nodes) i.table i.store (known_at i.names b) (let q : base ≤ length i.nodes = s.inside in omega arith) (s.stored b lt);
}

module _ (base count : ℕ) (i0 i1 : Inference) (s : Safe base i0) (ad : Added count i0 i1) (all : ℕ) (ea : all ≡ length i1.nodes) where
  long : length i1.nodes ≡ length i0.nodes + count
  long = ad.freed.long

  abbrev with_nodes : Inference
  with_nodes = record i0 { nodes = i1.nodes }

  pub safe_own : Safe all i1
  safe_own = subst (λ n. Safe n i1) (sym ea) (subst (λ (i : Inference). Safe (length i1.nodes) i) (sym ad.is) (record {
    table = s.table;
    labels = s.labels;
    sound = freed_sound i0.table count i0.nodes i1.nodes i0.entries s.sound ad.freed;
    inside = omega arith;
    short = s.short;
    stored = λ b lt. stored_more (length i1.nodes) (length i0.nodes) (length i1.nodes) i0.table i0.table i0.store i0.store (known_at i0.names b) (let l = long in omega arith) (wider_none i0.table) (extends_none i0.store) s.short
        (stored_high base (length i1.nodes) (length i0.nodes) i0.table i0.store (known_at i0.names b) (let l = long in let q : base ≤ length i0.nodes = s.inside in omega arith) (s.stored b lt));
  }))

  reads_own : (N : Names) (T : Tables) (born : ℕ → ℕ) → Reads i1 N T born → Reads i0 N T born
  reads_own N T born r = let q = subst (λ (i : Inference). Reads i N T born) ad.is r in record { names = q.names; labelled = q.labelled; shapes = q.shapes; told = q.told; seats = q.seats }

  module _ (places : Kind) (P R : Claim) (i2 : Inference) where
    scoped_own : (N : Names) (T : Tables) (E : Env) → Inside T i0.nodes → Scoped N places T base E i0 → Scoped N places T (length i1.nodes) E i1
    scoped_own N T E inn sc = record {
      narrow = λ n m. let q : n < base = sc.narrow n m in let l = long in let w : base ≤ length i0.nodes = s.inside in omega arith;
      knows = λ K full so. subst (λ (i : Inference). Knows T.shapes i (scope_of N places E) K full) (sym ad.is) (sc.knows K full (solves_old T i0.nodes i1.nodes (ad.freed.grown T inn) K full so));
    }

    inside : (N : Names) (T : Tables) (born : ℕ → ℕ) → Reads i0 N T born → Inside T i0.nodes
    inside N T born r = sound_inside i0.table i0.nodes i0.entries T s.sound r.told

    module _ (give : (N : Names) (T : Tables) (E : Env) → Scoped N places T base E i0 → Gives T base i0.nodes (P N (scope_of N places E)) (R N (scope_of N places E))) where
      pub asked_own : ((N : Names) (T : Tables) (E : Env) → Scoped N places T base E i0 → Takes T base i0.nodes (P N (scope_of N places E)) (R N (scope_of N places E))) → Asked places all P i1 i2 → Asked places base R i0 i2
      asked_own take c0 =
          let c : Asked places (length i1.nodes) P i1 i2 = subst (λ n. Asked places n P i1 i2) ea c0 in
          let names : i1.names ≡ i0.names = ap (λ (i : Inference). i.names) ad.is in
          let store : i1.store ≡ i0.store = ap (λ (i : Inference). i.store) ad.is in
          let table : i1.table ≡ i0.table = ap (λ (i : Inference). i.table) ad.is in
          let past : i1.past ≡ i0.past = ap (λ (i : Inference). i.past) ad.is in
          let longer : length i0.nodes ≤ length i2.nodes = (let l = long in let q : length i1.nodes ≤ length i2.nodes = c.later.longer in omega arith) in
          let more : Later (length i1.nodes) with_nodes i2 = subst (λ (i : Inference). Later (length i1.nodes) i i2) ad.is c.later in record {
            later = record {
              safe = record {
                table = c.later.safe.table;
                labels = c.later.safe.labels;
                sound = c.later.safe.sound;
                inside = let q : base ≤ length i0.nodes = s.inside in omega arith;
                short = c.later.safe.short;
                stored = λ b lt. let e : i2.names ≡ i0.names = c.same.names ∙ names in
                    subst (λ ns. Stored base (length i2.nodes) i2.table i2.store (known_at ns b)) (sym e) (stored_more base (length i0.nodes) (length i2.nodes) i0.table i2.table i0.store i2.store (known_at i0.names b) longer more.wider more.store c.later.safe.short (s.stored b (subst (λ ns. b < length ns) e lt)));
              };
              reads = λ N T born r. reads_own N T born (c.later.reads N T born r);
              seats = more.seats;
              keeps = λ N T born r K a so. let r1 = c.later.reads N T born r in solves_old T i0.nodes i1.nodes (ad.freed.grown T (inside N T born (reads_own N T born r1))) K a (c.later.keeps N T born r K a so);
              longer = longer;
              store = more.store;
              names = more.names;
              wider = more.wider;
            };
            same = record { names = c.same.names ∙ names; past = c.same.past ∙ past };
            adds = λ N T born E r sc. let r0 = reads_own N T born (c.later.reads N T born r) in let inn = inside N T born r0 in
                own_puts T born base count i0.nodes i1.nodes (P N (scope_of N places E)) (R N (scope_of N places E)) s.inside inn s.sound.graph ad.freed i2.nodes (give N T E sc) (take N T E sc) (c.adds N T born E r (scoped_own N T E inn sc));
          }

      pub unasked_own : Unasked places all P i1 i2 → Unasked places base R i0 i2
      unasked_own c0 = let c : Unasked places (length i1.nodes) P i1 i2 = subst (λ n. Unasked places n P i1 i2) ea c0 in record {
        labels = c.labels;
        reads = λ N T born r. reads_own N T born (c.reads N T born r);
        nowhere = λ N T born E r sc. let r0 = reads_own N T born (c.reads N T born r) in let inn = inside N T born r0 in
            own_not T born base count i0.nodes i1.nodes (P N (scope_of N places E)) (R N (scope_of N places E)) s.inside inn s.sound.graph ad.freed (give N T E sc) (c.nowhere N T born E r (scoped_own N T E inn sc));
      }

-- where old nodes and new ones stand
pub old_low : (base count node all : ℕ) (i0 i1 : Inference) → Safe base i0 → Added count i0 i1 → all ≡ length i1.nodes → node < base → node < all
old_low base count node all i0 i1 s ad ea lt = let q : base ≤ length i0.nodes = s.inside in let l : length i1.nodes ≡ length i0.nodes + count = ad.freed.long in omega arith

pub own_low : (count own all k : ℕ) (i0 i1 : Inference) → Added count i0 i1 → own ≡ length i0.nodes → all ≡ length i1.nodes → k < count → own + k < all
own_low count own all k i0 i1 ad first ea lt = let l : length i1.nodes ≡ length i0.nodes + count = ad.freed.long in omega arith

pub own_one : (count own all : ℕ) (i0 i1 : Inference) → Added count i0 i1 → own ≡ length i0.nodes → all ≡ length i1.nodes → 0 < count → own < all
own_one count own all i0 i1 ad first ea lt = let l : length i1.nodes ≡ length i0.nodes + count = ad.freed.long in omega arith

pub own_all : (count own all : ℕ) (i0 i1 : Inference) → Added count i0 i1 → own ≡ length i0.nodes → all ≡ length i1.nodes → own + count ≡ all
own_all count own all i0 i1 ad first ea = let l : length i1.nodes ≡ length i0.nodes + count = ad.freed.long in omega arith
