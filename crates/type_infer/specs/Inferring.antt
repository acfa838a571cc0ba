-- What inference answers of a program. Names and records are numbered as they are met, so what is said holds of every
-- numbering that goes on from the numbers in hand, of which there is one.
use Rattle.std.specs.Prelude.{◌≡◌, ◌↔◌, ℕ, ◌<◌, ◌≤◌, Bool, true, false, List, ◌∷◌, ◌++◌, length}
use mathlib.Core.Logic.{◌⊎◌}
use Rattle.fut_types.specs.declared.Kind.TheVariants as kind
use Rattle.fut_types.specs.Types.{Ty, Var, Sub, Kinds, HasKind, applied}
use Rattle.fut_typing.specs.Names.{Names, AreNames}
use Rattle.fut_typing.specs.Free.{has_types}
use Rattle.fut_typing.specs.Generalised.{Scheme, Reused}
use Rattle.fut_typing.specs.Program.{Defined, program_numbers, Program_typed}
use Rattle.fut_typing.specs.Answers.{Typing_is, NoType, FunctionPlace, Ambiguous}
use Rattle.fut_typing.specs.Exact.{scheme_behind}
use Rattle.type_graph.specs.declared.Node.{Node}
use Rattle.type_graph.specs.Graph.{IsGraph}
use Rattle.type_rules.specs.Labels.{IsLabels, Labelled}
use Rattle.type_scopes.specs.declared.Inference.{Inference}
use Rattle.type_infer.specs.Reading.{Comes_to, Generally}
use Rattle.type_infer.specs.declared.InferErr.{InferErr}
use Rattle.type_infer.specs.declared.InferErr.TheVariants as err

-- N numbers names and records as the table in hand does
pub record Numbers (i : Inference) (N : Names) : Type 0 where
  pub names : AreNames N
  pub labelled : Labelled i.labels i.table N

-- P holds of every numbering that goes on from the table in hand, and there is one
pub record Told_by (P : Names → Type 0) (i : Inference) : Type 0 where
  pub labels : IsLabels i.labels i.table
  pub some : (N : Names) × Numbers i N
  pub holds : (N : Names) → Numbers i N → P N

-- a type scheme: a type, which of its variables are generalised, and of which kinds types may be put for them
pub record TypeScheme : Type 0 where
  pub type : Ty
  pub general : ℕ → Bool
  pub kinds : Kinds

-- by puts types of their kinds for what is generalised, and leaves all else
pub record Instantiates (q : TypeScheme) (K : Kinds) (by : Sub) : Type 0 where
  pub chosen : (v : ℕ) → q.general v ≡ true → HasKind K (q.kinds v) (by v)
  pub left : (v : ℕ) → q.general v ≡ false → by v ≡ Var v

-- in a typing a definition is used at exactly the instances of its type before any default for what is generalised
pub record Has_scheme (nodes : List Node) (s : Scheme) (K : Kinds) (a : Sub) : Type 0 where
  pub scheme : TypeScheme
  pub shown : Generally nodes s.first scheme.type
  pub uses : (t : Ty) → Reused kind.Data s s.first K a t ↔ ((by : Sub) × Instantiates scheme K by × (t ≡ applied by scheme.type))

-- so is each definition without written type parameters, where the program's numbers have these types
abbrev pub Has_schemes : Names → List Defined → List Node → Sub → Type 0
Has_schemes N ds nodes types = (before after : List Defined) (d : Defined) → ds ≡ before ++ d ∷ after → has_types d.parameters ≡ false
    → (K : Kinds) (a : Sub) → Program_typed N kind.Data ds K a → ((n : ℕ) → n < program_numbers ds → a n ≡ types n) → Has_scheme nodes (scheme_behind N kind.Data before d) K a

-- node n of the graph has the type of number n, for each number of the program
pub record Has_typing (ds : List Defined) (i : Inference) (N : Names) : Type 0 where
  pub types : Sub
  pub typing : Typing_is N ds types
  pub comes : (n : ℕ) → n < program_numbers ds → Comes_to i.nodes n (types n)
  pub schemes : Has_schemes N ds i.nodes types

pub record Infers (ds : List Defined) (i : Inference) : Type 0 where
  pub graph : IsGraph i.nodes
  pub long : program_numbers ds ≤ length i.nodes
  pub typing : Told_by (Has_typing ds i) i

-- memory aside, a refusal says what the program lacks
abbrev pub Says : List Defined → Inference → InferErr → Type 0
Says ds i (err.NoType at) = Told_by (λ N. NoType N ds) i
Says ds i (err.FunctionPlace at) = Told_by (λ N. FunctionPlace N ds) i
Says ds i (err.Ambiguous at) = Told_by (λ N. Ambiguous N ds) i
Says ds i err.Memory = Unit {0}

-- it shows at a number of the program, or at the first
abbrev pub Is_shown : List Defined → InferErr → Type 0
Is_shown ds (err.NoType at) = (at ≡ 0) ⊎ (at < program_numbers ds)
Is_shown ds (err.FunctionPlace at) = (at ≡ 0) ⊎ (at < program_numbers ds)
Is_shown ds (err.Ambiguous at) = (at ≡ 0) ⊎ (at < program_numbers ds)
Is_shown ds err.Memory = Unit {0}
