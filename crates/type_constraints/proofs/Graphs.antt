-- What is put into the graph alone, and what stands in scope does not matter.
use Rattle.std.proofs.Common.{ℕ, List}
use Rattle.fut_types.specs.declared.Kind.{Kind}
use Rattle.fut_typing.specs.Names.{Names}
use Rattle.fut_typing.specs.Homes.{Env, scope_of}
use Rattle.type_graph.specs.declared.Node.{Node}
use Rattle.type_graph.specs.declared.Entry.{Entry}
use Rattle.type_graph.specs.Graph.{Tables, Told}
use Rattle.type_graph.specs.Claims.{Nowhere}
use Rattle.type_scopes.specs.declared.Inference.{Inference}
use Rattle.type_scopes.specs.Scopes.{Safe, Claim, Homes, Refused}

pub refused_graph : (places : Kind) (base d lo : ℕ) (P : Claim) (H : Homes) (i : Inference) (nodes : List Node) (entries : List Entry) → Safe base i → ((T : Tables) → Told i.table entries T → Told i.table i.entries T)
    → ((N : Names) (T : Tables) (E : Env) → Told i.table entries T → Nowhere T base (P N (scope_of N places E)) i.nodes) → Refused places base d lo P H i (record i { nodes = nodes; entries = entries })
refused_graph places base d lo P H i nodes entries s before un = record {
  labels = s.labels;
  reads = λ N T born r. record { names = r.names; labelled = r.labelled; shapes = r.shapes; told = before T r.told; seats = r.seats };
  nowhere = λ N T home born E r rd h. un N T E r.told;
}
