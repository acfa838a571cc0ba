-- The definitions that files declare, as the meaning takes them: each sees what the paths of its scope name, where no size of
-- its own has the name, and has the number of its flat definition.
use Rattle.std.specs.Prelude.{ℕ, ◌+◌, List, [], ◌∷◌, Bool, true, false, cond, Result, Ok, Err, map}
use Rattle.std.specs.Str.{bytes_eq}
use Rattle.fut_scalar.specs.declared.place.Place.{Place}
use Rattle.fut_ast.specs.Sorts.{Text, Path}
use Rattle.fut_ast.specs.declared.node.Label.{Label}
use Rattle.fut_flat.specs.declared.prim.Ref.{Ref}
use Rattle.fut_flat.specs.declared.prim.Ref.TheVariants as ref
use Rattle.fut_flat.specs.Numbers.{numbers}
use Rattle.fut_flat.specs.Sources.{source_parameters}
use Rattle.fut_flat.specs.Terms.{Parameter, Size_parameter, Type_parameter}
use Rattle.elab_scopes.specs.Names.{Refusal}
use Rattle.elab_scopes.specs.Scopes.{Scope, Found, value_at}
use Rattle.elab_scopes.specs.Programs.{FlatDefinition, FlatProgram}
use Rattle.elab_scopes.specs.Declarations.{Instance, State}
use Rattle.fut_meaning.specs.Flats.{Named_term, FlatTop, flat_tops}
use Rattle.fut_meaning.specs.Sources.{Named, Names_number, Names_primitive, Names_nothing, Outside, SourceTop}

abbrev pub named_ref : Ref → Path → Named
named_ref (ref.Bound b) fs = Names_number b.0 fs
named_ref (ref.Prim p) fs = Names_primitive p fs
named_ref (ref.Scalar s) fs = Names_nothing

abbrev pub named_of : Result Found Refusal → Named
named_of (Ok f) = named_ref f.names f.fields
named_of (Err e) = Names_nothing

-- what a path names does not depend on where it stands
abbrev pub some_place : Place
some_place = record { file = 0; line = 1; column = 1 }

abbrev pub outside_of : Scope → Outside
outside_of sc p = named_of (value_at sc some_place p)

-- no size is named
abbrev pub No_sizes : {B : Type 0} → List (Parameter B) → Type 0
No_sizes [] = Unit {0}
No_sizes (Size_parameter x ∷ hs) = ⊥
No_sizes (Type_parameter x lifted ∷ hs) = No_sizes hs

-- a size that a definition names hides what its name stands for outside
abbrev pub is_size_name : List (Parameter Label) → Text → Bool
is_size_name [] x = false
is_size_name (Size_parameter y ∷ hs) x = cond (bytes_eq y.name x) true (is_size_name hs x)
is_size_name (Type_parameter y lifted ∷ hs) x = is_size_name hs x

abbrev pub hiding : List (Parameter Label) → Outside → Outside
hiding hs outside [] = outside []
hiding hs outside (x ∷ rest) = cond (is_size_name hs x) Names_nothing (outside (x ∷ rest))

-- nodes are numbered from `lo` on
abbrev pub declared_tops : ℕ → List Instance → List SourceTop
declared_tops lo [] = []
declared_tops lo (i ∷ is) = record { number = i.flat.bind.0; first = 1 + lo; sees = hiding (source_parameters i.heads) (outside_of i.scope); value = i.value } ∷ declared_tops (lo + (1 + numbers i.value)) is

-- what was declared, by the names of the files
abbrev pub source_of : State → List SourceTop
source_of s = declared_tops 0 s.instances

-- the names and terms of flat definitions
abbrev pub named_values : List FlatDefinition → List Named_term
named_values = map (λ (d : FlatDefinition). (d.bind, d.value))

-- what a flat program defines
abbrev pub flat_of : FlatProgram → List FlatTop
flat_of flat = flat_tops 0 (named_values flat.definitions)
