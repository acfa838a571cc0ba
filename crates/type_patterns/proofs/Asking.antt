-- One claim after another.
use Rattle.std.proofs.Common.{◌≡◌, ℕ, ◌≤◌, ◌<◌, List, [], ◌∷◌, refl, subst, arith, Result, Ok, Err, OnOk, IfErr}
use mathlib.Core.Logic.{inl, inr}
use Rattle.type_graph.proofs.Grown.{lt_or}
use Rattle.fut_types.specs.declared.Kind.{Kind}
use Rattle.fut_types.specs.Types.{Sub, Kinds}
use Rattle.fut_typing.specs.Names.{Names}
use Rattle.fut_typing.specs.Homes.{Env, empty, Needs, scope_of}
use Rattle.type_graph.specs.declared.UnifyErr.{UnifyErr}
use Rattle.type_graph.specs.Graph.{far, Tables, Told, Tells}
use Rattle.fut_types.specs.Shapes.{Shapes}
use Rattle.type_rules.specs.declared.demand.Demand.{Demand}
use Rattle.type_rules.specs.declared.demand.Demand.TheVariants as demand
use Rattle.type_rules.specs.Demands.{All_met, Allows, All_allow}
use Rattle.type_rules.proofs.Adding.{adds_as, tells_both}
use Rattle.type_graph.specs.declared.Node.{Node}
use Rattle.type_graph.specs.declared.Entry.{Entry}
use Rattle.type_graph.specs.Claims.{Adds, Nowhere, Extends as MoreNodes}
use Rattle.type_schemes.specs.Schemes.{Extends}
use Rattle.type_scopes.specs.declared.Inference.{Inference}
use Rattle.type_scopes.specs.Scopes.{Safe, Reads, Ready, Claim, Homes, Puts, Claimed, Refused}
use Rattle.type_scopes.proofs.Going.{knows_more, later_graph, reads_less, later_none, later_then, same_none, same_then}
use Rattle.type_scopes.proofs.Putting.{puts_added, puts_none, puts_as, puts_then, not_as, not_then}
use Rattle.type_patterns.specs.Asking.{Scoped, Asked, Unasked}

-- a claim says no more of the homes of numbers
abbrev pub anywhere : Homes
anywhere home = Unit {0}

module _ (places : Kind) (base : ℕ) where
  -- what is known of names stays known
  pub scoped_on : (N : Names) (T : Tables) (born : ℕ → ℕ) (E : Env) (i i' : Inference) (P : Claim) → Safe base i → i'.names ≡ i.names → Extends i.store i'.store → Scoped N places T base E i → Puts T born base (P N (scope_of N places E)) anywhere i.nodes i'.nodes → Scoped N places T base E i'
  scoped_on N T born E i i' P s names ex sc x = record { narrow = sc.narrow; knows = λ K full so. knows_more T.shapes base i i' (scope_of N places E) K full s names ex (sc.knows K full (x.keeps K full so)) }

  pub asked_none : (R : Claim) (i : Inference) → Safe base i → ((N : Names) (E : Env) (K : Kinds) (a : Sub) → R N (scope_of N places E) K a) → Asked places base R i i
  asked_none R i s all = record { later = later_none base i s; same = same_none i; adds = λ N T born E r sc. puts_none T born base (R N (scope_of N places E)) anywhere i.nodes (all N E) }

  pub asked_as : (P R : Claim) (i i' : Inference) → ((N : Names) (E : Env) (K : Kinds) (a : Sub) → R N (scope_of N places E) K a → P N (scope_of N places E) K a)
      → ((N : Names) (E : Env) (K : Kinds) (a : Sub) → P N (scope_of N places E) K a → R N (scope_of N places E) K a) → Asked places base P i i' → Asked places base R i i'
  asked_as P R i i' split join c = record {
    later = c.later;
    same = c.same;
    adds = λ N T born E r sc. puts_as T born base (P N (scope_of N places E)) (R N (scope_of N places E)) anywhere anywhere i.nodes i'.nodes (split N E) (join N E) (λ home h. h) (c.adds N T born E r sc);
  }

  pub unasked_as : (P R : Claim) (i i' : Inference) → ((N : Names) (E : Env) (K : Kinds) (a : Sub) → R N (scope_of N places E) K a → P N (scope_of N places E) K a) → Unasked places base P i i' → Unasked places base R i i'
  unasked_as P R i i' split c = record {
    labels = c.labels;
    reads = c.reads;
    nowhere = λ N T born E r sc. not_as T born base (P N (scope_of N places E)) (R N (scope_of N places E)) i.nodes (split N E) (c.nowhere N T born E r sc);
  }

  -- a claim, and the next
  module _ (P Q R : Claim) (i0 i1 i2 : Inference) (s : Safe base i0) (split : (N : Names) (E : Env) (K : Kinds) (a : Sub) → R N (scope_of N places E) K a → P N (scope_of N places E) K a × Q N (scope_of N places E) K a) (x : Asked places base P i0 i1) where
    pub asked_then : ((N : Names) (E : Env) (K : Kinds) (a : Sub) → P N (scope_of N places E) K a → Q N (scope_of N places E) K a → R N (scope_of N places E) K a) → Asked places base Q i1 i2 → Asked places base R i0 i2
    asked_then join y = record {
      later = later_then base i0 i1 i2 x.later y.later;
      same = same_then i0 i1 i2 x.same y.same;
      adds = λ N T born E r sc. let r1 = y.later.reads N T born r in let p = x.adds N T born E r1 sc in
          puts_then T born base (P N (scope_of N places E)) (Q N (scope_of N places E)) (R N (scope_of N places E)) anywhere anywhere anywhere i0.nodes i1.nodes i2.nodes p (y.adds N T born E r (scoped_on N T born E i0 i1 P s x.same.names x.later.store sc p)) (split N E) (join N E) (λ home h. (h, h));
    }

    pub unasked_then : Unasked places base Q i1 i2 → Unasked places base R i0 i2
    unasked_then y = record {
      labels = y.labels;
      reads = λ N T born r. x.later.reads N T born (y.reads N T born r);
      nowhere = λ N T born E r sc. let r1 = y.reads N T born r in let p = x.adds N T born E r1 sc in
          not_then T born base (P N (scope_of N places E)) (Q N (scope_of N places E)) (R N (scope_of N places E)) anywhere i0.nodes i1.nodes p (y.nowhere N T born E r (scoped_on N T born E i0 i1 P s x.same.names x.later.store sc p)) (split N E);
    }

  -- what is put into the graph alone
  pub asked_graph : (P : Claim) (i : Inference) (nodes : List Node) (entries : List Entry) → Safe base i → MoreNodes i.table i.nodes i.entries nodes entries
      → ((N : Names) (T : Tables) (born : ℕ → ℕ) (E : Env) → Reads i N T born → Told i.table entries T → Adds T base (P N (scope_of N places E)) anywhere i.nodes nodes) → Asked places base P i (record i { nodes = nodes; entries = entries })
  asked_graph P i nodes entries s x adds = record {
    later = later_graph base i nodes entries s x (λ N T born r. (adds N T born empty (reads_less base i nodes entries s x N T born r) r.told).keeps);
    same = record { names = refl; past = refl };
    adds = λ N T born E r sc. puts_added T born base (P N (scope_of N places E)) anywhere i.nodes nodes (adds N T born E (reads_less base i nodes entries s x N T born r) r.told);
  }

  pub unasked_graph : (P : Claim) (i : Inference) (nodes : List Node) (entries : List Entry) → Safe base i → ((T : Tables) → Told i.table entries T → Told i.table i.entries T)
      → ((N : Names) (T : Tables) (born : ℕ → ℕ) (E : Env) → Reads i N T born → Told i.table entries T → Nowhere T base (P N (scope_of N places E)) i.nodes) → Unasked places base P i (record i { nodes = nodes; entries = entries })
  unasked_graph P i nodes entries s before un = record {
    labels = s.labels;
    reads = λ N T born r. record { names = r.names; labelled = r.labelled; shapes = r.shapes; told = before T r.told; seats = r.seats };
    nowhere = λ N T born E r sc. un N T born E (record { names = r.names; labelled = r.labelled; shapes = r.shapes; told = before T r.told; seats = r.seats }) r.told;
  }

  -- what holds of no types at all
  pub never_asked : (P : Claim) (i : Inference) → Safe base i → ((N : Names) (E : Env) (K : Kinds) (a : Sub) → P N (scope_of N places E) K a → ⊥) → Unasked places base P i i
  never_asked P i s never = record { labels = s.labels; reads = λ N T born r. r; nowhere = λ N T born E r sc pl K a p h. never N E K a h }

  -- where a part of a program may be gone over, its numbers stand below base
  pub scoped_ready : (N : Names) (T : Tables) (home born : ℕ → ℕ) (E : Env) (d lo : ℕ) (i : Inference) → Ready N places T home born base E d lo i → Scoped N places T base E i
  scoped_ready N T home born E d lo i rd = record {
    narrow = λ n m. below n m;
    knows = rd.knows;
  }
    where
      below : (n : ℕ) → Needs E n → n < base
      below n m = let q1 : home n ≤ d = (rd.narrow n m).1 in let q2 : d < far = rd.depth in elim (lt_or n base) as (λ x. n < base) [ inl h ↦ h | inr h ↦ let q3 : far ≤ home n = rd.outer n h in absurd (omega arith) ]

  pub asked_claimed : (P : Claim) (d from : ℕ) (i i' : Inference) → Asked places base P i i' → Claimed places base d from P anywhere i i'
  asked_claimed P d from i i' c = record { later = c.later; same = c.same; adds = λ N T home born E r rd h. c.adds N T born E r (scoped_ready N T home born E d from i rd) }

  pub unasked_refused : (P : Claim) (d from : ℕ) (i i' : Inference) → Unasked places base P i i' → Refused places base d from P anywhere i i'
  unasked_refused P d from i i' c = record { labels = c.labels; reads = c.reads; nowhere = λ N T home born E r rd h. c.nowhere N T born E r (scoped_ready N T home born E d from i rd) }

-- no demand lowers a level
all_allowed : (home : ℕ → ℕ) (ds : List Demand) → All_allow home ds
unfolding All_allow Allows
all_allowed home [] = tt
all_allowed home (demand.Same i j ∷ ds) = (tt, all_allowed home ds)
all_allowed home (demand.Has i k ∷ ds) = (tt, all_allowed home ds)
all_allowed home (demand.Is i s ∷ ds) = (tt, all_allowed home ds)
all_allowed home (demand.Array i j ∷ ds) = (tt, all_allowed home ds)
all_allowed home (demand.Fun i x y ∷ ds) = (tt, all_allowed home ds)
all_allowed home (demand.Pair i x y ∷ ds) = (tt, all_allowed home ds)
all_allowed home (demand.Triple i x y z ∷ ds) = (tt, all_allowed home ds)
all_allowed home (demand.Part i l c ∷ ds) = (tt, all_allowed home ds)

pub demands_added : (T : Tables) (S : Shapes) (base : ℕ) (ds : List Demand) (n0 n1 : List Node) → T.shapes ≡ S → Adds T base (λ K a. All_met T.shapes K a ds) (λ home. All_allow home ds) n0 n1 → Adds T base (λ K a. All_met S K a ds) anywhere n0 n1
demands_added T S base ds n0 n1 e x = subst (λ (S : Shapes). Adds T base (λ K a. All_met S K a ds) anywhere n0 n1) e
    (adds_as T base (λ K a. All_met T.shapes K a ds) (λ K a. All_met T.shapes K a ds) (λ home. All_allow home ds) anywhere n0 n1 (λ K a h. h) (λ K a h. h) (λ home h. all_allowed home ds) x)

pub err_both : {T P Q R : Type 0} (r : Result T UnifyErr) → (P → Q → R) → IfErr r (Tells P) → IfErr r (Tells Q) → IfErr r (Tells R)
err_both (Ok v) f p q = tt
err_both (Err e) f p q = tells_both e f p q

pub err_four : {X P Q R S V : Type 0} (r : Result X UnifyErr) → (P → Q → R → S → V) → IfErr r (Tells P) → IfErr r (Tells Q) → IfErr r (Tells R) → IfErr r (Tells S) → IfErr r (Tells V)
err_four (Ok v) f p q x y = tt
err_four (Err e) f p q x y = tells_both e (λ g r. g r) (tells_both e (λ g r. g r) (tells_both e f p q) x) y

pub ok_four : {X Y P Q R S V : Type 0} (r : Result X Y) → (P → Q → R → S → V) → OnOk r P → OnOk r Q → OnOk r R → OnOk r S → OnOk r V
ok_four (Ok v) f p q x y = f p q x y
ok_four (Err e) f p q x y = tt

pub demands_nowhere : (T : Tables) (S : Shapes) (base : ℕ) (ds : List Demand) (nodes : List Node) → T.shapes ≡ S → Nowhere T base (λ K a. All_met T.shapes K a ds) nodes → Nowhere T base (λ K a. All_met S K a ds) nodes
demands_nowhere T S base ds nodes e x = subst (λ (S : Shapes). Nowhere T base (λ K a. All_met S K a ds) nodes) e x
