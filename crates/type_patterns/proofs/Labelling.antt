-- The table may get names while something is asked.
use Rattle.std.proofs.Common.{◌≡◌, ℕ, ◌≤◌, List, length, refl, subst, arith}
use Rattle.fut_types.specs.declared.Head.{Head}
use Rattle.fut_types.specs.declared.Head.TheVariants as head
use Rattle.fut_types.specs.declared.Kind.{Kind}
use Rattle.fut_types.specs.declared.shapes.ShapeTable.{ShapeTable}
use Rattle.fut_types.specs.Shapes.{IsKnown}
use Rattle.fut_typing.specs.Names.{Names}
use Rattle.fut_typing.specs.Homes.{Env, empty, scope_of}
use Rattle.type_graph.specs.declared.Node.{Node}
use Rattle.type_graph.specs.declared.Entry.{Entry}
use Rattle.type_graph.specs.Graph.{Tables, Told}
use Rattle.type_graph.specs.Claims.{Adds, Nowhere, Extends as MoreNodes}
use Rattle.type_rules.specs.declared.labels.Labels.{Labels}
use Rattle.type_rules.specs.Labels.{IsLabels, Goes_on, Labelled}
use Rattle.type_rules.proofs.Widening.{more_records, more_positions, labelled_less, told_less, sound_more}
use Rattle.type_scopes.specs.declared.Inference.{Inference}
use Rattle.type_scopes.specs.Table.{IsSeated, known_at, seat_at}
use Rattle.type_scopes.specs.Scopes.{Safe, Reads, Wider, Later, Claim}
use Rattle.type_scopes.proofs.Going.{extends_none, stored_more, later_graph, later_then, reads_less}
use Rattle.type_scopes.proofs.Putting.{puts_added}
use Rattle.type_patterns.specs.Asking.{Asked, Unasked}
use Rattle.type_patterns.proofs.Asking.{anywhere}

known_more : (t0 t1 : ShapeTable) → length t0.records ≤ length t1.records → (h : Head) → IsKnown t0 h → IsKnown t1 h
unfolding IsKnown
known_more t0 t1 le (head.Record n) k = omega arith
known_more t0 t1 le head.Tuple k = tt
known_more t0 t1 le (head.Scalar s) k = tt
known_more t0 t1 le head.Array k = tt
known_more t0 t1 le head.Fun k = tt
known_more t0 t1 le (head.Rigid n q) k = tt
known_more t0 t1 le (head.Abstract n d) k = tt

-- the table goes on
module _ (base : ℕ) (i : Inference) (labels : Labels) (table : ShapeTable) (s : Safe base i) (is : IsLabels labels table) (on : Goes_on i.labels i.table labels table) where
  abbrev pub given : Inference
  given = record i { labels = labels; table = table }

  wider : Wider i.table table
  wider = record { heads = known_more i.table table (more_records i.labels labels i.table table s.table on); labels = more_positions i.labels labels i.table table s.table on }

  pub later_labels : Later base i given
  later_labels = record {
    safe = record {
      table = is.is_table;
      labels = is;
      sound = sound_more i.labels labels i.table table s.table on i.nodes i.entries s.sound;
      inside = s.inside;
      short = s.short;
      stored = λ b lt. stored_more base (length i.nodes) (length i.nodes) i.table table i.store i.store (known_at i.names b) (omega arith) wider (extends_none i.store) s.short (s.stored b lt);
    };
    reads = λ N T born r. record { names = r.names; labelled = labelled_less i.labels labels i.table table s.table on N r.labelled; shapes = r.shapes; told = told_less i.labels labels i.table table s.table on i.entries T r.told; seats = r.seats };
    seats = λ n h. refl;
    keeps = λ N T born r K a so. so;
    longer = omega arith;
    store = extends_none i.store;
    names = refl;
    wider = wider;
  }

  pub asked_given : (places : Kind) (P : Claim) (nodes : List Node) (entries : List Entry) → MoreNodes table i.nodes i.entries nodes entries → ((N : Names) (T : Tables) (born : ℕ → ℕ) (E : Env) → Reads given N T born → Told table entries T → Adds T base (P N (scope_of N places E)) anywhere i.nodes nodes)
      → Asked places base P i (record given { nodes = nodes; entries = entries })
  asked_given places P nodes entries x adds = record {
    later = later_then base i given (record given { nodes = nodes; entries = entries }) later_labels (later_graph base given nodes entries later_labels.safe x (λ N T born r. (adds N T born empty (reads_less base given nodes entries later_labels.safe x N T born r) r.told).keeps));
    same = record { names = refl; past = refl };
    adds = λ N T born E r sc. puts_added T born base (P N (scope_of N places E)) anywhere i.nodes nodes (adds N T born E (reads_less base given nodes entries later_labels.safe x N T born r) r.told);
  }

pub unasked_given : (places : Kind) (base : ℕ) (P : Claim) (i i' : Inference) → IsLabels i'.labels i'.table → i'.seats ≡ i.seats → ((N : Names) → Labelled i'.labels i'.table N → Labelled i.labels i.table N) → ((T : Tables) → Told i'.table i'.entries T → Told i.table i.entries T)
    → ((N : Names) (T : Tables) (born : ℕ → ℕ) (E : Env) → Reads i' N T born → Nowhere T base (P N (scope_of N places E)) i.nodes) → Unasked places base P i i'
unasked_given places base P i i' is same lab before un = record {
  labels = is;
  reads = λ N T born r. record { names = r.names; labelled = lab N r.labelled; shapes = r.shapes; told = before T r.told; seats = subst (λ ss. (n : ℕ) → IsSeated ss n → (T.seat n ≡ (seat_at ss n).node) × (born n ≡ (seat_at ss n).depth)) same r.seats };
  nowhere = λ N T born E r sc. un N T born E r;
}
