-- From the typings of a program to the answer.
use Rattle.std.proofs.Common.{ℕ, ◌<◌, List}
use Rattle.fut_types.specs.declared.Kind.TheVariants as kind
use Rattle.fut_typing.specs.Names.{Names}
use Rattle.fut_typing.specs.Program.{Defined, program_numbers}
use Rattle.fut_typing.specs.Answers.{NoType, FunctionPlace, Ambiguous}
use Rattle.type_rules.specs.Labels.{IsLabels}
use Rattle.type_rules.proofs.Named.{numbered}
use Rattle.type_scopes.specs.declared.Inference.{Inference}
use Rattle.type_answers.specs.Left.{Decided, IsUndecided, Stands_in_type}
use Rattle.type_answers.proofs.Programs.{types_it, shows_ambiguous}
use Rattle.type_infer.specs.Inferring.{Numbers, Told_by, Has_typing, Infers}
use Rattle.type_infer.specs.Graphs.{Graphs, Lacks, Keeps_numbers}
use Rattle.type_infer.proofs.Schemes.{has_typing}

told_by : (P : Names → Type 0) (i : Inference) → IsLabels i.labels i.table → ((N : Names) → Numbers i N → P N) → Told_by P i
told_by P i labels holds = let w = numbered i.labels i.table labels in record { labels = labels; some = (w.0, record { names = w.1; labelled = w.2 }); holds = holds }

module _ (ds : List Defined) where
  module _ (i : Inference) (g : Graphs kind.Data ds i) where
    pub decided : ((n : ℕ) → n < program_numbers ds → Decided i.nodes n) → Infers ds i
    decided none = record {
      graph = g.graph;
      long = g.long;
      typing = told_by (Has_typing ds i) i g.labels (λ N n. let x = g.found N n in has_typing N ds x.tables x.home x.born i x.done x.exactly x.outer x.backed x.homed none);
    }

    pub undecided : (n v : ℕ) → n < program_numbers ds → Stands_in_type i.nodes n v → IsUndecided i.nodes v → Told_by (λ N. Ambiguous N ds) i
    undecided n v lt st u = told_by (λ N. Ambiguous N ds) i g.labels (λ N m. let x = g.found N m in shows_ambiguous N ds x.tables x.home i.nodes i.entries x.done x.exactly x.inside n v lt st u)

  -- after a refusal
  module _ (i1 i2 : Inference) (l : Lacks kind.Data ds i1) (keeps : Keeps_numbers i1 i2) where
    pub no_type : Lacks kind.Any ds i2 → Told_by (λ N. NoType N ds) i2
    no_type m = told_by (λ N. NoType N ds) i2 m.labels (λ N n. (l.untyped N (keeps N n), m.untyped N n))

    pub function_place : Graphs kind.Any ds i2 → Told_by (λ N. FunctionPlace N ds) i2
    function_place g = told_by (λ N. FunctionPlace N ds) i2 g.labels (λ N n. let x = g.found N n in (l.untyped N (keeps N n), types_it N kind.Any ds x.tables x.home i2.nodes i2.entries x.done x.exactly))
