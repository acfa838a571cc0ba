-- What is proved of the numbers that elaboration gives: each is bound at one place. So the type parameters of a definition are
-- its own, and generalisation is exact for each definition and each local function of a program that elaboration makes.
use Rattle.std.specs.Prelude.{◌≡◌, ◌↔◌, List, ◌∷◌, ◌++◌, map, flat_map, length, eqb, IsPermutation, Ok}
use Rattle.std.specs.List.{range_with_len, IsDistinct}
use Rattle.fut_scalar.specs.declared.place.BindId.{BindId}
use Rattle.fut_flat.specs.Terms.{Bound_pattern, Parameter}
use Rattle.fut_types.specs.declared.Kind.{Kind}
use Rattle.fut_types.specs.Types.{Ty, Sub, Kinds}
use Rattle.fut_typing.specs.Names.{Names, AreNames}
use Rattle.fut_typing.specs.Generalised.{Scheme, Reused}
use Rattle.fut_typing.specs.Program.{Defined, program_numbers, Program_typed}
use Rattle.fut_typing.specs.Answers.{Principal}
use Rattle.fut_typing.specs.Exact.{Way, scheme_behind, local_behind}
use Rattle.elab_scopes.specs.Programs.{FlatDefinition, FlatProgram}
use Rattle.elab_scopes.specs.Elaboration.{Elaborates}
use Rattle.elab_scopes.specs.Imports.{Source_file}
use Rattle.typing_laws.specs.Ways.{Ends_at, Function_let}
use Rattle.typing_laws.specs.Claims.{Alone, Alone_within, Chosen_instance}
use Rattle.elab_laws.specs.Binders.{definition_binders}
use Rattle.elab_laws.specs.Parameters.{definition_parameters}

-- a definition as typing speaks of it
abbrev pub defined_of : FlatDefinition → Defined
defined_of d = record { name = Bound_pattern d.bind; parameters = d.parameters; value = d.value }

abbrev pub definitions_of : FlatProgram → List Defined
definitions_of flat = map defined_of flat.definitions

-- The numbers that the program's definitions bind are those below the count of its names, each once.
abbrev pub EachIsBoundOnce : Type 0
EachIsBoundOnce =
    (files : List Source_file) (flat : FlatProgram) → Elaborates files (Ok flat)
    → IsPermutation (range_with_len 0 (length flat.names)) (flat_map definition_binders (definitions_of flat))

-- No two type parameters of the program, of definitions or of local ones, have one number.
abbrev pub ParametersDiffer : Type 0
ParametersDiffer =
    (files : List Source_file) (flat : FlatProgram) → Elaborates files (Ok flat)
    → IsDistinct eqb (flat_map definition_parameters (definitions_of flat))

-- No other definition of the program, and no local one, has one of a definition's type parameters.
abbrev pub ParametersAreAlone : Type 0
ParametersAreAlone =
    (files : List Source_file) (flat : FlatProgram) → Elaborates files (Ok flat)
    → (before after : List Defined) (d : Defined) → definitions_of flat ≡ before ++ d ∷ after → Alone before d after

-- No definition of the program, and no other local one, has one of the type parameters of a local function, to which a way in a
-- definition leads.
abbrev pub LocalParametersAreAlone : Type 0
LocalParametersAreAlone =
    (files : List Source_file) (flat : FlatProgram) → Elaborates files (Ok flat)
    → (before after : List Defined) (d : Defined) → definitions_of flat ≡ before ++ d ∷ after
    → (w : Way) (own : List (Parameter BindId)) → Ends_at (Function_let own) d.value w → Alone_within before d after w own

-- The uses of the function of this scheme are exactly the instances of its principal type, with types chosen for its parameters.
abbrev pub Exact_in : Names → Kind → List Defined → Scheme → Type 0
Exact_in N places ds s =
    (p : Principal N.shapes (program_numbers ds) (Program_typed N places ds)) (K : Kinds) (a : Sub) → Program_typed N places ds K a
    → (t : Ty) → Reused places s s.first K a t ↔ Chosen_instance N.shapes (program_numbers ds) (Program_typed N places ds) p places s K a t

-- Generalisation is exact for each definition of the program, whatever type parameters are written.
abbrev pub ElaboratedIsExact : Type 0
ElaboratedIsExact =
    (files : List Source_file) (flat : FlatProgram) → Elaborates files (Ok flat)
    → (before after : List Defined) (d : Defined) → definitions_of flat ≡ before ++ d ∷ after
    → (N : Names) → AreNames N → (places : Kind) → Exact_in N places (definitions_of flat) (scheme_behind N places before d)

-- And it is for each local function of the program.
abbrev pub ElaboratedLocalIsExact : Type 0
ElaboratedLocalIsExact =
    (files : List Source_file) (flat : FlatProgram) → Elaborates files (Ok flat)
    → (before after : List Defined) (d : Defined) → definitions_of flat ≡ before ++ d ∷ after
    → (w : Way) (own : List (Parameter BindId)) → Ends_at (Function_let own) d.value w
    → (N : Names) → AreNames N → (places : Kind) → Exact_in N places (definitions_of flat) (local_behind N places before d w)
