-- What parts of a program claim, one after the other.
use Rattle.std.proofs.Common.{ℕ, ◌≤◌, ◌<◌, List, refl, arith, Result, Ok, Err, OnOk}
use mathlib.Core.Logic.{inl, inr}
use Rattle.fut_types.specs.declared.Kind.{Kind}
use Rattle.fut_types.specs.Types.{Sub, Kinds}
use Rattle.fut_typing.specs.Names.{Names}
use Rattle.fut_typing.specs.Homes.{Env, empty, scope_of}
use Rattle.type_graph.specs.Graph.{Tables, Told}
use Rattle.type_graph.specs.declared.Node.{Node}
use Rattle.type_graph.specs.declared.Entry.{Entry}
use Rattle.type_graph.specs.Claims.{Adds, Extends as MoreNodes}
use Rattle.type_scopes.proofs.Putting.{puts_added, puts_none, puts_then, puts_as, not_as, not_then}
use Rattle.type_scopes.specs.declared.Inference.{Inference}
use Rattle.type_scopes.specs.Scopes.{Safe, Reads, Ready, Claim, Homes, Claimed, Refused, Depends}
use Rattle.type_scopes.proofs.Going.{later_graph, reads_less, later_none, later_then, same_none, same_then, ready_on, ready_next}

module _ (places : Kind) where
  -- what claims depend on
  pub depends_wider : (P : Claim) (lo hi lo' hi' : ℕ) → lo' ≤ lo → hi ≤ hi' → Depends places P lo hi → Depends places P lo' hi'
  depends_wider P lo hi lo' hi' l h dep N E K a b same p = dep N E K a b (λ n. elim [ inl m ↦ same n (inl m) | inr w ↦ let w0 : lo ≤ n = w.0 in let w1 : n < hi = w.1 in same n (inr (omega arith, omega arith)) ]) p

  pub depends_both : (P Q R : Claim) (lo mid mid' hi : ℕ) → lo ≤ mid → mid ≤ mid' → mid' ≤ hi → ((N : Names) (E : Env) (K : Kinds) (a : Sub) → R N (scope_of N places E) K a → P N (scope_of N places E) K a × Q N (scope_of N places E) K a)
      → ((N : Names) (E : Env) (K : Kinds) (a : Sub) → P N (scope_of N places E) K a → Q N (scope_of N places E) K a → R N (scope_of N places E) K a) → Depends places P lo mid → Depends places Q mid' hi → Depends places R lo hi
  depends_both P Q R lo mid mid' hi p q r split join dp dq N E K a b same h = let s = split N E K a h in
      join N E K b (depends_wider P lo mid lo hi (omega arith) (omega arith) dp N E K a b same s.0) (depends_wider Q mid' hi lo hi (omega arith) (omega arith) dq N E K a b same s.1)

  module _ (base d lo : ℕ) where
    pub claimed_low : (lo' : ℕ) (P : Claim) (H : Homes) (i i' : Inference) → lo ≤ lo' → Claimed places base d lo' P H i i' → Claimed places base d lo P H i i'
    claimed_low lo' P H i i' le c = record { later = c.later; same = c.same; adds = λ N T home born E r rd h. c.adds N T home born E r (ready_on N places T home born base E d lo i lo' le rd) h }

    pub refused_low : (lo' : ℕ) (P : Claim) (H : Homes) (i i' : Inference) → lo ≤ lo' → Refused places base d lo' P H i i' → Refused places base d lo P H i i'
    refused_low lo' P H i i' le c = record { labels = c.labels; reads = c.reads; nowhere = λ N T home born E r rd h. c.nowhere N T home born E r (ready_on N places T home born base E d lo i lo' le rd) h }

    pub claimed_as : (P R : Claim) (H I : Homes) (i i' : Inference) → ((N : Names) (E : Env) (K : Kinds) (a : Sub) → R N (scope_of N places E) K a → P N (scope_of N places E) K a)
        → ((N : Names) (E : Env) (K : Kinds) (a : Sub) → P N (scope_of N places E) K a → R N (scope_of N places E) K a) → ((home : ℕ → ℕ) → I home → H home) → Claimed places base d lo P H i i' → Claimed places base d lo R I i i'
    claimed_as P R H I i i' split join homes c = record {
      later = c.later;
      same = c.same;
      adds = λ N T home born E r rd h. puts_as T born base (P N (scope_of N places E)) (R N (scope_of N places E)) H I i.nodes i'.nodes (split N E) (join N E) homes (c.adds N T home born E r rd (homes home h));
    }

    pub refused_as : (P R : Claim) (H I : Homes) (i i' : Inference) → ((N : Names) (E : Env) (K : Kinds) (a : Sub) → R N (scope_of N places E) K a → P N (scope_of N places E) K a) → ((home : ℕ → ℕ) → I home → H home) → Refused places base d lo P H i i' → Refused places base d lo R I i i'
    refused_as P R H I i i' split homes c = record {
      labels = c.labels;
      reads = c.reads;
      nowhere = λ N T home born E r rd h. not_as T born base (P N (scope_of N places E)) (R N (scope_of N places E)) i.nodes (split N E) (c.nowhere N T home born E r rd (homes home h));
    }

    pub claimed_none : (R : Claim) (I : Homes) (i : Inference) → Safe base i → ((N : Names) (E : Env) (K : Kinds) (a : Sub) → R N (scope_of N places E) K a) → Claimed places base d lo R I i i
    claimed_none R I i s all = record { later = later_none base i s; same = same_none i; adds = λ N T home born E r rd h. puts_none T born base (R N (scope_of N places E)) I i.nodes (all N E) }

    -- a part, and the next, whose numbers begin at mid
    module _ (mid : ℕ) (P Q R : Claim) (G H I : Homes) (i0 i1 i2 : Inference) (s : Safe base i0) (le : lo ≤ mid) (dep : Depends places P lo mid) (split : (N : Names) (E : Env) (K : Kinds) (a : Sub) → R N (scope_of N places E) K a → P N (scope_of N places E) K a × Q N (scope_of N places E) K a)
        (homes : (home : ℕ → ℕ) → I home → G home × H home) (x : Claimed places base d lo P G i0 i1) where
      behind : (N : Names) (T : Tables) (home born : ℕ → ℕ) (E : Env) → Reads i1 N T born → Ready N places T home born base E d lo i0 → G home → Ready N places T home born base E d mid i1
      behind N T home born E r rd g = ready_next N places T home born base E d lo i0 mid i1 P G le dep s x.same.names x.later.store x.later.longer rd g (x.adds N T home born E r rd g)

      pub claimed_then : ((N : Names) (E : Env) (K : Kinds) (a : Sub) → P N (scope_of N places E) K a → Q N (scope_of N places E) K a → R N (scope_of N places E) K a) → Claimed places base d mid Q H i1 i2 → Claimed places base d lo R I i0 i2
      claimed_then join y = record {
        later = later_then base i0 i1 i2 x.later y.later;
        same = same_then i0 i1 i2 x.same y.same;
        adds = λ N T home born E r rd h. let g = homes home h in let r1 = y.later.reads N T born r in
            puts_then T born base (P N (scope_of N places E)) (Q N (scope_of N places E)) (R N (scope_of N places E)) G H I i0.nodes i1.nodes i2.nodes (x.adds N T home born E r1 rd g.0) (y.adds N T home born E r (behind N T home born E r1 rd g.0) g.1) (split N E) (join N E) homes;
      }

      pub refused_then : Refused places base d mid Q H i1 i2 → Refused places base d lo R I i0 i2
      refused_then y = record {
        labels = y.labels;
        reads = λ N T born r. x.later.reads N T born (y.reads N T born r);
        nowhere = λ N T home born E r rd h. let g = homes home h in let r1 = y.reads N T born r in
            not_then T born base (P N (scope_of N places E)) (Q N (scope_of N places E)) (R N (scope_of N places E)) G i0.nodes i1.nodes (x.adds N T home born E r1 rd g.0) (y.nowhere N T home born E r (behind N T home born E r1 rd g.0) g.1) (split N E);
      }

-- what is put into the graph alone, whatever stands in scope
pub claimed_graph : (places : Kind) (base d lo : ℕ) (P : Claim) (H : Homes) (i : Inference) (nodes : List Node) (entries : List Entry) → Safe base i → MoreNodes i.table i.nodes i.entries nodes entries
    → ((N : Names) (T : Tables) (born : ℕ → ℕ) (E : Env) → Reads i N T born → Told i.table entries T → Adds T base (P N (scope_of N places E)) H i.nodes nodes) → Claimed places base d lo P H i (record i { nodes = nodes; entries = entries })
claimed_graph places base d lo P H i nodes entries s x adds = record {
  later = later_graph base i nodes entries s x (λ N T born r. (adds N T born empty (reads_less base i nodes entries s x N T born r) r.told).keeps);
  same = record { names = refl; past = refl };
  adds = λ N T home born E r rd h. puts_added T born base (P N (scope_of N places E)) H i.nodes nodes (adds N T born E (reads_less base i nodes entries s x N T born r) r.told);
}

pub ok_both : {T E P Q R : Type 0} (r : Result T E) → (P → Q → R) → OnOk r P → OnOk r Q → OnOk r R
ok_both (Ok v) f p q = f p q
ok_both (Err e) f p q = tt
