-- Names of fields, which the table may get while a rule is put in.
use Rattle.std.proofs.Common.{◌≡◌, ℕ, List, refl, sym, subst, arith, Some}
use Rattle.fut_ast.specs.Sorts.{Text}
use Rattle.fut_scalar.specs.declared.place.BindId.{BindId}
use Rattle.fut_flat.specs.declared.prim.Ref.{Ref}
use Rattle.fut_flat.specs.Terms.{Operation}
use Rattle.fut_types.specs.declared.Kind.{Kind}
use Rattle.fut_types.specs.declared.shapes.ShapeTable.{ShapeTable}
use Rattle.fut_types.specs.Types.{Sub, Kinds, Tys}
use Rattle.fut_typing.specs.Names.{Names}
use Rattle.fut_typing.specs.Homes.{Env, scope_of}
use Rattle.fut_typing.specs.Rules.{Rule}
use Rattle.fut_typing.specs.Typing.{operand}
use Rattle.type_graph.specs.Graph.{Tables}
use Rattle.type_graph.specs.Claims.{types_of}
use Rattle.type_rules.specs.declared.labels.Labels.{Labels}
use Rattle.type_rules.specs.Labels.{IsLabels, Goes_on, number_of}
use Rattle.type_rules.specs.declared.demand.Demand.{Demand}
use Rattle.type_rules.specs.Demands.{All_met, All_allow, Always_allowed}
use Rattle.type_scopes.specs.declared.Inference.{Inference}
use Rattle.type_scopes.specs.Scopes.{Safe, Reads, Claim, Homes, Claimed, Refused, nothing_claimed}
use Rattle.type_patterns.proofs.Labelling.{given, later_labels}
use Rattle.type_scopes.proofs.Putting.{puts_none, puts_as, not_as}
use Rattle.type_scopes.proofs.Claiming.{claimed_then, refused_then}
use Rattle.type_constraints.specs.Parts.{Rule_claim, Rule_homes}
use Rattle.type_constraints.proofs.Forms.{anywhere}
use Rattle.type_constraints.proofs.Ruling.{Unwritten}

-- the table goes on
module _ (base : ℕ) (i : Inference) (labels : Labels) (table : ShapeTable) (s : Safe base i) (is : IsLabels labels table) (on : Goes_on i.labels i.table labels table) where
  module _ (places : Kind) (d from : ℕ) (Q : Claim) (H : Homes) (i2 : Inference) where
    nothing : Claimed places base d from nothing_claimed anywhere i (given base i labels table s is on)
    nothing = record { later = later_labels base i labels table s is on; same = record { names = refl; past = refl }; adds = λ N T home born E r rd h. puts_none T born base (λ K a. Unit {0}) anywhere i.nodes (λ K a. tt) }

    pub then_labels : Claimed places base d from Q H (given base i labels table s is on) i2 → Claimed places base d from Q H i i2
    then_labels y = claimed_then places base d from from nothing_claimed Q Q anywhere H H i (given base i labels table s is on) i2 s (omega arith) (λ N E K a b same h. tt) (λ N E K a h. (tt, h)) (λ home h. (tt, h)) nothing (λ N E K a p q. q) y

    pub refused_labels : Refused places base d from Q H (given base i labels table s is on) i2 → Refused places base d from Q H i i2
    refused_labels y = refused_then places base d from from nothing_claimed Q Q anywhere H H i (given base i labels table s is on) i2 s (omega arith) (λ N E K a b same h. tt) (λ N E K a h. (tt, h)) (λ home h. (tt, h)) nothing y

-- another claim, which says the same where names are read
module _ (places : Kind) (base d from : ℕ) (P R : Claim) (H I : Homes) (i i' : Inference) (homes : (home : ℕ → ℕ) → I home → H home)
    (says : (N : Names) (T : Tables) (born : ℕ → ℕ) → Reads i N T born → (E : Env) (K : Kinds) (a : Sub) → (P N (scope_of N places E) K a → R N (scope_of N places E) K a) × (R N (scope_of N places E) K a → P N (scope_of N places E) K a)) where
  pub claimed_read : Claimed places base d from P H i i' → Claimed places base d from R I i i'
  claimed_read c = record {
    later = c.later;
    same = c.same;
    adds = λ N T home born E r rd h. puts_as T born base (P N (scope_of N places E)) (R N (scope_of N places E)) H I i.nodes i'.nodes (λ K a. (says N T born (c.later.reads N T born r) E K a).1) (λ K a. (says N T born (c.later.reads N T born r) E K a).0) homes (c.adds N T home born E r rd (homes home h));
  }

  pub refused_read : Refused places base d from P H i i' → Refused places base d from R I i i'
  refused_read c = record {
    labels = c.labels;
    reads = c.reads;
    nowhere = λ N T home born E r rd h. not_as T born base (P N (scope_of N places E)) (R N (scope_of N places E)) i.nodes (λ K a. (says N T born (c.reads N T born r) E K a).1) (c.nowhere N T home born E r rd (homes home h));
  }

-- a rule that is put in by demands, which say it where a name has its number
module _ (base : ℕ) (i : Inference) (labels : Labels) (table : ShapeTable) (s : Safe base i) (is : IsLabels labels table) (on : Goes_on i.labels i.table labels table) (places : Kind) (lo : ℕ) (o : Operation Ref BindId) (parts : List ℕ) (plain : Unwritten places o)
    (ts : Sub → Tys) (same : (a : Sub) → types_of a parts ≡ ts a) (ds : List Demand) (name : Text) (n : ℕ) (number : number_of labels name ≡ Some n)
    (say : (N : Names) → N.label name ≡ n → (K : Kinds) (a : Sub) → (All_met N.shapes K a ds → Rule N places K o (a lo) (a (operand o lo)) (ts a)) × (Rule N places K o (a lo) (a (operand o lo)) (ts a) → All_met N.shapes K a ds)) (allowed : Always_allowed ds) (i2 : Inference) where
  abbrev goes : Inference
  goes = given base i labels table s is on

  abbrev met : Claim
  met N scope K a = All_met N.shapes K a ds

  says : (d : ℕ) (N : Names) (T : Tables) (born : ℕ → ℕ) → Reads goes N T born → (E : Env) (K : Kinds) (a : Sub) → (All_met N.shapes K a ds → Rule_claim places o lo parts N (scope_of N places E) K a) × (Rule_claim places o lo parts N (scope_of N places E) K a → All_met N.shapes K a ds)
  says d N T born r E K a = let w = say N (r.labelled.label name n number) K a in (
    (λ h. (subst (λ u. Rule N places K o (a lo) (a (operand o lo)) u) (sym (same a)) (w.0 h), plain N E K a lo)),
    (λ h. w.1 (subst (λ u. Rule N places K o (a lo) (a (operand o lo)) u) (same a) h.0)),
  )

  pub labelled_ok : ((places : Kind) (d lo : ℕ) → Claimed places base d lo (λ N scope K a. All_met N.shapes K a ds) (λ home. All_allow home ds) goes i2) → (d from : ℕ) → Claimed places base d from (Rule_claim places o lo parts) (Rule_homes d o lo) i i2
  labelled_ok c d from = then_labels base i labels table s is on places d from (Rule_claim places o lo parts) (Rule_homes d o lo) i2 (claimed_read places base d from met (Rule_claim places o lo parts) (λ home. All_allow home ds) (Rule_homes d o lo) goes i2 (λ home h. allowed home) (says d) (c places d from))

  pub labelled_err : ((places : Kind) (d lo : ℕ) → Refused places base d lo (λ N scope K a. All_met N.shapes K a ds) (λ home. All_allow home ds) goes i2) → (d from : ℕ) → Refused places base d from (Rule_claim places o lo parts) (Rule_homes d o lo) i i2
  labelled_err c d from = refused_labels base i labels table s is on places d from (Rule_claim places o lo parts) (Rule_homes d o lo) i2 (refused_read places base d from met (Rule_claim places o lo parts) (λ home. All_allow home ds) (Rule_homes d o lo) goes i2 (λ home h. allowed home) (says d) (c places d from))
