-- From the walk over definitions to the typings of the program.
use Rattle.std.proofs.Common.{ℕ, ◌≤◌, ◌<◌, List, [], length, refl, sym, subst}
use Rattle.fut_types.specs.declared.Kind.{Kind}
use Rattle.fut_types.specs.Types.{Sub, Kinds}
use Rattle.fut_typing.specs.Names.{Names}
use Rattle.fut_typing.specs.Homes.{Env, empty}
use Rattle.fut_typing.specs.Program.{Defined, Program_typed}
use Rattle.type_graph.specs.Graph.{Told, entry_at}
use Rattle.type_graph.specs.State.{State}
use Rattle.type_graph.specs.Resolving.{SettledIn, FoundedIn, Unsolvable}
use Rattle.type_graph.specs.Claims.{Possible}
use Rattle.type_graph.proofs.Grown.{sound_inside}
use Rattle.flat_numbers.specs.Listed.{AreHomes, Program_homed}
use Rattle.type_rules.specs.Labels.{Labelled}
use Rattle.type_scopes.specs.declared.Inference.{Inference}
use Rattle.type_scopes.specs.Scopes.{Ready, Puts, Opened, Refused}
use Rattle.type_answers.proofs.Richness.{rich}
use Rattle.type_infer.specs.Inferring.{Numbers}
use Rattle.type_infer.specs.Definitions.{Definitions_claim, Definitions_homes}
use Rattle.type_infer.specs.Graphs.{home_at, Begun, Graph_of, Graphs, Lacks, Keeps_numbers}
use Rattle.type_infer.proofs.Beginning.{tables_of, born_of, plain_tables, reads_tables, home_is, possible, ready}

module _ (places : Kind) (ds : List Defined) (homes : List ℕ) (i0 i1 i2 : Inference) (b : Begun homes i0 i1) (short : length homes < 4294967295) (are : AreHomes homes ds) where
  same_numbers : Keeps_numbers i0 i1
  same_numbers N n = record { names = n.names; labelled = subst (λ l. Labelled l i0.table N) b.labels (subst (λ t. Labelled i1.labels t N) b.table n.labelled) }

  homed : Program_homed (home_at homes) ds 0
  homed = are.homed (home_at homes) (home_is homes)

  -- what the program's numbers may have behind definitions that were gone over
  module _ (end : ℕ) (into : Env → Env) (o : Opened places (length homes) 0 0 end (Definitions_claim places ds 0) (Definitions_homes ds 0) into i1 i2) where
    module _ (N : Names) (n : Numbers i2 N) where
      puts : Puts (tables_of i2 N) (born_of i2) (length homes) (Program_typed N places ds) (Definitions_homes ds 0) i1.nodes i2.nodes
      puts = o.adds N (tables_of i2 N) (home_at homes) (born_of i2) empty (reads_tables i2 N n) (ready homes i0 i1 b N places (tables_of i2 N) (born_of i2) (plain_tables i2 N)) homed

      to : (K : Kinds) (a : Sub) → Program_typed N places ds K a → Possible (tables_of i2 N) (length homes) K a i2.nodes
      to K a t = puts.forth K a (possible homes i1 b.nodes (tables_of i2 N) (length homes) K a) t

      from : (K : Kinds) (a : Sub) → Possible (tables_of i2 N) (length homes) K a i2.nodes → Program_typed N places ds K a
      from K a p = puts.done K a p

      begun : Ready N places (tables_of i2 N) (home_at homes) (born_of i2) (length homes) empty 0 0 i1
      begun = ready homes i0 i1 b N places (tables_of i2 N) (born_of i2) (plain_tables i2 N)

      told : Told i2.table i2.entries (tables_of i2 N)
      told = (reads_tables i2 N n).told

      graph_of : ((i : ℕ) → i < length i2.nodes → SettledIn i2.nodes i) → ((i : ℕ) → i < length i2.nodes → FoundedIn i2.nodes i2.entries i) → Graph_of places ds i2 N
      graph_of settled founded = record {
        tables = tables_of i2 N;
        home = home_at homes;
        born = born_of i2;
        homed = homed;
        outer = λ m le. begun.outer m (subst (λ k. k ≤ m) (sym are.long) le);
        backed = puts.backed (home_at homes) homed begun.backed;
        done = record {
          plain = plain_tables i2 N;
          graph = o.later.safe.sound.graph;
          table = i2.table;
          bound = o.later.safe.sound.bound;
          are = o.later.safe.sound.are;
          told = told;
          low = subst (λ m. m ≤ length i2.nodes) are.long o.later.safe.inside;
          state = subst (λ m. State (tables_of i2 N) (home_at homes) m i2.nodes []) are.long (puts.state (home_at homes) (ready homes i0 i1 b N places (tables_of i2 N) (born_of i2) (plain_tables i2 N)).state);
          settled = settled;
          founded = founded;
          rich = rich N (tables_of i2 N) (length i2.entries) n.names refl (λ e lt. let w = o.later.safe.sound.are.within e lt in let label : ℕ = (entry_at i2.entries e).label in
              ((o.later.safe.labels.name label, sym (n.labelled.label (o.later.safe.labels.name label) label (o.later.safe.labels.named label w.1))), w.2));
        };
        inside = sound_inside i2.table i2.nodes i2.entries (tables_of i2 N) o.later.safe.sound told;
        exactly = record {
          shapes = refl;
          to = λ K a t. subst (λ m. Possible (tables_of i2 N) m K a i2.nodes) are.long (to K a t);
          from = λ K a p. from K a (subst (λ m. Possible (tables_of i2 N) m K a i2.nodes) (sym are.long) p);
        };
      }

    pub graphs : ((i : ℕ) → i < length i2.nodes → SettledIn i2.nodes i) → ((i : ℕ) → i < length i2.nodes → FoundedIn i2.nodes i2.entries i) → Graphs places ds i2
    graphs settled founded = record {
      labels = o.later.safe.labels;
      graph = o.later.safe.sound.graph;
      long = subst (λ m. m ≤ length i2.nodes) are.long o.later.safe.inside;
      found = λ N n. graph_of N n settled founded;
    }

    -- a type would be a part of itself
    pub lacks_types : Unsolvable i2.nodes i2.entries → Lacks places ds i2
    lacks_types un = record { labels = o.later.safe.labels; untyped = λ N n K a t. let p = to N n K a t in un (tables_of i2 N) (told N n).listed K p.full p.solves }

    pub keeps_numbers : Keeps_numbers i0 i2
    keeps_numbers N n = let r = o.later.reads N (tables_of i2 N) (born_of i2) (reads_tables i2 N n) in same_numbers N (record { names = r.names; labelled = r.labelled })

  -- and where they were refused
  module _ (r : Refused places (length homes) 0 0 (Definitions_claim places ds 0) (Definitions_homes ds 0) i1 i2) where
    pub lacks : Lacks places ds i2
    lacks = record {
      labels = r.labels;
      untyped = λ N n K a t. r.nowhere N (tables_of i2 N) (home_at homes) (born_of i2) empty (reads_tables i2 N n) (ready homes i0 i1 b N places (tables_of i2 N) (born_of i2) (plain_tables i2 N)) homed (plain_tables i2 N) K a (possible homes i1 b.nodes (tables_of i2 N) (length homes) K a) t;
    }

    pub keeps_numbers_refused : Keeps_numbers i0 i2
    keeps_numbers_refused N n = let x = r.reads N (tables_of i2 N) (born_of i2) (reads_tables i2 N n) in same_numbers N (record { names = x.names; labelled = x.labelled })
