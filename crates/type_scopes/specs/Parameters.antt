-- The parameters of a definition, where they are met: a type parameter gets its node, at the depth of the definition.
use Rattle.std.specs.Prelude.{◌≡◌, ℕ, ◌<◌, List, [], ◌∷◌, ◌++◌, length}
use Rattle.fut_scalar.specs.declared.place.BindId.{BindId}
use Rattle.fut_flat.specs.Terms.{Parameter, Size_parameter, Type_parameter}
use Rattle.fut_types.specs.declared.Kind.{Kind}
use Rattle.fut_typing.specs.Generalised.{parameter_kind}
use Rattle.type_graph.specs.declared.Node.{Node}
use Rattle.type_graph.specs.Graph.{Tables, Told}
use Rattle.type_graph.specs.Claims.{Bears, Extends, parameter_node}
use Rattle.type_scopes.specs.declared.names.Known.TheVariants as known
use Rattle.type_scopes.specs.declared.Inference.{Inference}
use Rattle.type_scopes.specs.Table.{IsSeated, entered, known_at, seated}

abbrev pub with_parameter : List Node → ℕ → Kind → ℕ → List Node
with_parameter nodes n k depth = nodes ++ parameter_node n k depth ∷ []

-- a type parameter of this kind, and behind it a node that stands for it
abbrev pub with_type_parameter : Inference → ℕ → Kind → ℕ → Inference
with_type_parameter i n k depth = entered (seated (record i { nodes = with_parameter i.nodes n k depth }) n (record { node = length i.nodes; depth = depth })) n (known.Type (length i.nodes))

pub record Met_type (base depth n : ℕ) (k : Kind) (i i' : Inference) : Type 0 where
  pub named : n < length i.names
  pub fresh : known_at i.names n ≡ known.Nothing
  pub listed : n < length i.seats
  pub unmet : IsSeated i.seats n → ⊥
  pub extends : Extends i.table i.nodes i.entries (with_parameter i.nodes n k depth) i.entries
  pub bears : (T : Tables) → Told i.table i.entries T → T.seat n ≡ length i.nodes → Bears T base n k depth i.nodes (with_parameter i.nodes n k depth)
  pub is : i' ≡ with_type_parameter i n k depth

pub record Met_size (n : ℕ) (i i' : Inference) : Type 0 where
  pub named : n < length i.names
  pub fresh : known_at i.names n ≡ known.Nothing
  pub is : i' ≡ entered i n known.Size

abbrev pub Meets_one : Kind → ℕ → ℕ → Parameter BindId → Inference → Inference → Type 0
Meets_one places base depth (Size_parameter b) i i' = Met_size b.0 i i'
Meets_one places base depth (Type_parameter b lifted) i i' = Met_type base depth b.0 (parameter_kind places lifted) i i'

-- one after the other
unfoldable pub Meets_all : Kind → ℕ → ℕ → List (Parameter BindId) → Inference → Inference → Type 0
Meets_all places base depth [] i i' = i' ≡ i
Meets_all places base depth (p ∷ ps) i i' = (m : Inference) × Meets_one places base depth p i m × Meets_all places base depth ps m i'
