-- What a graph that allows exactly the typings of a program tells of the program.
use Rattle.std.specs.Prelude.{ℕ, ◌≡◌, ◌<◌, List}
use Rattle.fut_types.specs.declared.Kind.{Kind}
use Rattle.fut_types.specs.declared.Kind.TheVariants as kind
use Rattle.fut_types.specs.Types.{Sub, Kinds, applied}
use Rattle.fut_typing.specs.Names.{Names}
use Rattle.fut_typing.specs.Program.{Defined, program_numbers, Program_typed}
use Rattle.fut_typing.specs.Answers.{Typing_is, Typable, Ambiguous, default}
use Rattle.type_graph.specs.declared.Node.{Node}
use Rattle.type_graph.specs.declared.Entry.{Entry}
use Rattle.type_graph.specs.Graph.{Tables}
use Rattle.type_graph.specs.Resolving.{resolved, noted, Stable}
use Rattle.type_graph.specs.Claims.{Possible, Inside}
use Rattle.type_answers.specs.Left.{Decided, IsUndecided, Stands_in_type}
use Rattle.type_answers.specs.Typings.{Done}

-- the types that the graph allows are the typings of the program
pub record Exactly (N : Names) (places : Kind) (ds : List Defined) (T : Tables) (nodes : List Node) : Type 0 where
  pub shapes : T.shapes ≡ N.shapes
  pub to : (K : Kinds) (a : Sub) → Program_typed N places ds K a → Possible T (program_numbers ds) K a nodes
  pub from : (K : Kinds) (a : Sub) → Possible T (program_numbers ds) K a nodes → Program_typed N places ds K a

-- the program has a typing
abbrev pub Types_it : Type 0
Types_it = (N : Names) (places : Kind) (ds : List Defined) (T : Tables) (home : ℕ → ℕ) (nodes : List Node) (entries : List Entry) → Done T home (program_numbers ds) nodes entries → Exactly N places ds T nodes → Typable N ds places

-- it has one that is its typing, where nothing is left undetermined
abbrev pub Gives_typing : Type 0
Gives_typing = (N : Names) (ds : List Defined) (T : Tables) (home : ℕ → ℕ) (nodes : List Node) (entries : List Entry) → Done T home (program_numbers ds) nodes entries → Exactly N kind.Data ds T nodes
    → ((n : ℕ) → n < program_numbers ds → Decided nodes n) → (D : ℕ) × Stable nodes D × Typing_is N ds (λ n. applied (default (noted nodes)) (resolved nodes D n))

-- it is ambiguous, where something is
abbrev pub Shows_ambiguous : Type 0
Shows_ambiguous = (N : Names) (ds : List Defined) (T : Tables) (home : ℕ → ℕ) (nodes : List Node) (entries : List Entry) → Done T home (program_numbers ds) nodes entries → Exactly N kind.Data ds T nodes → Inside T nodes
    → (n v : ℕ) → n < program_numbers ds → Stands_in_type nodes n v → IsUndecided nodes v → Ambiguous N ds
