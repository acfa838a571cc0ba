-- What a definition claims of the types of its numbers, and what stands behind it. A definition's numbers are those of its
-- name and of its value.
use Rattle.std.specs.Prelude.{◌≡◌, ℕ, ◌+◌, ◌<◌, List, [], length}
use Rattle.std.specs.List.{Contains}
use Rattle.fut_scalar.specs.declared.place.BindId.{BindId}
use Rattle.fut_types.specs.declared.Kind.{Kind}
use Rattle.fut_flat.specs.Terms.{Bound_pattern, Parameter}
use Rattle.fut_flat.specs.Numbers.{pattern_numbers}
use Rattle.fut_flat.specs.Erased.{FlatTerm}
use Rattle.fut_typing.specs.Free.{has_types}
use Rattle.fut_typing.specs.Generalised.{Generalised}
use Rattle.fut_typing.specs.Homes.{Env, env_function, At_home, written_if, Homed}
use Rattle.fut_typing.specs.Program.{Defined, definition_scheme}
use Rattle.type_graph.specs.Graph.{far, Tables, Meeting}
use Rattle.type_graph.specs.State.{State, Backed}
use Rattle.type_graph.specs.Rereading.{Bears_it, Deeper, Left}
use Rattle.type_schemes.specs.declared.Part.{Part}
use Rattle.type_schemes.specs.Schemes.{Copies, Extends, definition}
use Rattle.type_scopes.specs.declared.names.Known.TheVariants as known
use Rattle.type_scopes.specs.declared.Inference.{Inference}
use Rattle.type_scopes.specs.Table.{entered, known_at, seat_at}
use Rattle.type_scopes.specs.Scopes.{Around, Claim, Homes}

-- a definition of a name
abbrev pub named : BindId → List (Parameter BindId) → FlatTerm → Defined
named b ps v = record { name = Bound_pattern b; parameters = ps; value = v }

abbrev pub Definition_claim : Kind → Defined → ℕ → Claim
Definition_claim places x lo N scope K a = Generalised places (definition_scheme N places x lo scope) K a

-- d is the depth around it; it is one deeper
abbrev pub Definition_homes : ℕ → Defined → ℕ → Homes
Definition_homes d x lo home = (w : Around d) × (At_home home (1 + d) lo (pattern_numbers x.name) × Homed home (1 + d) (written_if (has_types x.parameters) (1 + d) w.0) x.value (lo + pattern_numbers x.name))

-- what stands in scope behind it
abbrev pub env_definition : Defined → ℕ → Env → Env
env_definition x lo E = env_function [] x.name x.parameters x.value lo E

-- no node of these type parameters has come to be fixed by what stands at the depth or outside
pub record Deep (own : List ℕ) (depth : ℕ) (i : Inference) : Type 0 where
  pub deeper : (T : Tables) (home : ℕ → ℕ) (base n : ℕ) → Contains own n → State T home base i.nodes [] → T.seat n ≡ (seat_at i.seats n).node → Deeper i.nodes n depth

-- one has
pub record Escapes (own : List ℕ) (depth : ℕ) (i : Inference) : Type 0 where
  pub number : ℕ
  pub own_one : Contains own number
  pub left : depth < far → (T : Tables) (home born : ℕ → ℕ) (k : Kind) → Backed (Meeting T i.nodes []) home born i.nodes [] → Bears_it T i.nodes (seat_at i.seats number).node number k → Left T home born i.nodes depth number k

-- the type of the node `root` is copied, and the name stands for the copy
pub record Generalises (own : List ℕ) (root depth name : ℕ) (i i' : Inference) : Type 0 where
  pub deep : Deep own depth i
  pub count : ℕ
  pub store : List Part
  pub memo : List ℕ
  pub copies : Copies (definition i.nodes i.entries own depth) store (length i.store) count root
  pub extends : Extends i.store store
  pub long : length store ≡ length i.store + count
  pub short : length store < 4294967295
  pub inside : name < length i.names
  pub fresh : known_at i.names name ≡ known.Nothing
  pub is : i' ≡ entered (record i { store = store; memo = memo }) name (known.Definition (length i.store) count)
