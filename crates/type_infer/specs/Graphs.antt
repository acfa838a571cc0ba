-- Graphs of the types of a program.
use Rattle.std.specs.Prelude.{◌≡◌, ℕ, ◌<◌, ◌≤◌, List, [], length, map, slice_index_or}
use Rattle.fut_types.specs.declared.Kind.{Kind}
use Rattle.fut_types.specs.declared.Kind.TheVariants as kind
use Rattle.fut_typing.specs.Names.{Names}
use Rattle.fut_typing.specs.Program.{Defined, program_numbers}
use Rattle.fut_typing.specs.Answers.{Untyped}
use Rattle.type_graph.specs.declared.Form.TheVariants as form
use Rattle.type_graph.specs.declared.Node.{Node}
use Rattle.type_graph.specs.Graph.{far, Tables, Meeting, IsGraph}
use Rattle.type_graph.specs.State.{Backed}
use Rattle.type_graph.specs.Claims.{Inside}
use Rattle.flat_numbers.specs.Listed.{Program_homed}
use Rattle.type_rules.specs.Labels.{IsLabels}
use Rattle.type_scopes.specs.declared.Inference.{Inference}
use Rattle.type_scopes.specs.declared.names.Known.TheVariants as known
use Rattle.type_scopes.specs.Table.{IsSeated, known_at}
use Rattle.type_answers.specs.Typings.{Done}
use Rattle.type_answers.specs.Programs.{Exactly}
use Rattle.type_infer.specs.Inferring.{Numbers}

-- a number of the program of which nothing is known yet, at its home
abbrev pub base_node : ℕ → Node
base_node home = record { kind = kind.Any; level = home; form = form.Free }

-- the home of each number; those behind the program have none
abbrev pub home_at : List ℕ → ℕ → ℕ
home_at homes n = slice_index_or homes n far

-- nothing is known yet but the table of labels
pub record Begun (homes : List ℕ) (i i' : Inference) : Type 0 where
  pub labels : i'.labels ≡ i.labels
  pub table : i'.table ≡ i.table
  pub nodes : i'.nodes ≡ map base_node homes
  pub entries : i'.entries ≡ []
  pub store : i'.store ≡ []
  pub names : (b : ℕ) → known_at i'.names b ≡ known.Nothing
  pub near : (n : ℕ) → n < length homes → home_at homes n ≤ far
  pub seats : (n : ℕ) → IsSeated i'.seats n → ⊥

-- the graph allows just the typings of the program, and has been solved and resolved; levels have their reasons
pub record Graph_of (places : Kind) (ds : List Defined) (i : Inference) (N : Names) : Type 0 where
  pub tables : Tables
  pub home : ℕ → ℕ
  pub born : ℕ → ℕ
  pub homed : Program_homed home ds 0
  pub outer : (m : ℕ) → program_numbers ds ≤ m → far ≤ home m
  pub backed : Backed (Meeting tables i.nodes []) home born i.nodes []
  pub done : Done tables home (program_numbers ds) i.nodes i.entries
  pub inside : Inside tables i.nodes
  pub exactly : Exactly N places ds tables i.nodes

pub record Graphs (places : Kind) (ds : List Defined) (i : Inference) : Type 0 where
  pub labels : IsLabels i.labels i.table
  pub graph : IsGraph i.nodes
  pub long : program_numbers ds ≤ length i.nodes
  pub found : (N : Names) → Numbers i N → Graph_of places ds i N

-- the program has no typing
pub record Lacks (places : Kind) (ds : List Defined) (i : Inference) : Type 0 where
  pub labels : IsLabels i.labels i.table
  pub untyped : (N : Names) → Numbers i N → Untyped N ds places

-- each numbering that goes on from i' goes on from i
abbrev pub Keeps_numbers : Inference → Inference → Type 0
Keeps_numbers i i' = (N : Names) → Numbers i' N → Numbers i N
