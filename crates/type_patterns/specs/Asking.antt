-- What is asked of the types of nodes where a written type is read. The program's numbers stand below base, and behind them
-- the nodes that were made for the written types around it.
use Rattle.std.specs.Prelude.{◌≡◌, ℕ, ◌<◌, List, length, Option}
use Rattle.fut_scalar.specs.declared.place.BindId.{BindId}
use Rattle.fut_ast.specs.Sorts.{Text}
use Rattle.fut_types.specs.declared.Kind.{Kind}
use Rattle.fut_types.specs.Types.{Sub, Kinds, row}
use Rattle.fut_flat.specs.declared.prim.Ref.{Ref}
use Rattle.fut_flat.specs.declared.ty.TypeField.{TypeField}
use Rattle.fut_flat.specs.Terms.{Size_term}
use Rattle.fut_flat.specs.Erased.{FlatType, type_of, types}
use Rattle.fut_typing.specs.Names.{Names}
use Rattle.fut_typing.specs.Scopes.{Named_type, IsSize, with_argument, Denotes, All_denote}
use Rattle.fut_typing.specs.Homes.{Env, Needs, scope_of}
use Rattle.type_graph.specs.Graph.{Tables, Solves}
use Rattle.type_rules.specs.Labels.{IsLabels}
use Rattle.type_rules.specs.Own.{Freed}
use Rattle.type_scopes.specs.declared.Inference.{Inference}
use Rattle.type_scopes.specs.Scopes.{Reads, Knows, Later, Same, Claim, Puts, NotPossible}

-- what is known of the names in scope, whose uses depend on nodes below base
pub record Scoped (N : Names) (places : Kind) (T : Tables) (base : ℕ) (E : Env) (i : Inference) : Type 0 where
  pub narrow : (n : ℕ) → Needs E n → n < base
  pub knows : (K : Kinds) (full : Sub) → Solves T K full i.nodes → Knows T.shapes i (scope_of N places E) K full

-- a claim on nodes below base is put into the graph
pub record Asked (places : Kind) (base : ℕ) (P : Claim) (i i' : Inference) : Type 0 where
  pub later : Later base i i'
  pub same : Same i i'
  pub adds : (N : Names) (T : Tables) (born : ℕ → ℕ) (E : Env) → Reads i' N T born → Scoped N places T base E i → Puts T born base (P N (scope_of N places E)) (λ home. Unit {0}) i.nodes i'.nodes

-- it holds of no types that the graph allows
pub record Unasked (places : Kind) (base : ℕ) (P : Claim) (i i' : Inference) : Type 0 where
  pub labels : IsLabels i'.labels i'.table
  pub reads : (N : Names) (T : Tables) (born : ℕ → ℕ) → Reads i' N T born → Reads i N T born
  pub nowhere : (N : Names) (T : Tables) (born : ℕ → ℕ) (E : Env) → Reads i' N T born → Scoped N places T base E i → NotPossible T base (P N (scope_of N places E)) i.nodes

-- so many nodes are added, of which nothing is known
pub record Added (count : ℕ) (i i' : Inference) : Type 0 where
  pub freed : Freed i.nodes count i'.nodes
  pub is : i' ≡ record i { nodes = i'.nodes }

-- a node has a type at which a name may be used
abbrev pub Use_claim : ℕ → ℕ → Claim
Use_claim name n N scope K a = scope.uses name K a (a n)

abbrev pub Size_claim : Size_term Ref BindId → Claim
Size_claim s N scope K a = IsSize scope K a s

-- a node has the type of this name
abbrev pub Name_claim : Ref → ℕ → Claim
Name_claim r n N scope K a = Named_type scope r (a n)

-- a node has the type that is written
abbrev pub Type_claim : Kind → FlatType → ℕ → Claim
Type_claim places e n N scope K a = Denotes N places K a e scope (a n)

-- two nodes have the type that is written
abbrev pub Ascribed_claim : Kind → FlatType → ℕ → ℕ → Claim
Ascribed_claim places e n part N scope K a = (a n ≡ a part) × Denotes N places K a e scope (a n)

-- a node has the type that is written of the result of functions, whose parameter has this name, and the type of this node
abbrev pub Result_claim : Kind → Option BindId → ℕ → FlatType → ℕ → Claim
Result_claim places b x e n N scope K a = Denotes N places K a e (with_argument b (a x) scope) (a n)

-- the nodes from one on have the types that are written in a row
abbrev pub Types_claim : Kind → List FlatType → ℕ → Claim
Types_claim places es first N scope K a = All_denote N places K a (types es) scope (row a first (length es))

-- the name and the type of a field
abbrev pub field_name : TypeField → Text
field_name f = f.name.now

abbrev pub field_type : TypeField → FlatType
field_type f = type_of f.ty
