-- What the pass over sizes gives meets the rules: of terms by themselves, where no name is bound outside of them, and of programs.
use Rattle.std.specs.Prelude.{◌≡◌, ℕ, ◌+◌, ◌≤◌, List, [], ◌∷◌, Ok}
use Rattle.fut_flat.specs.Numbers.{pattern_numbers, numbers}
use Rattle.fut_flat.specs.Erased.{FlatTerm}
use Rattle.fut_types.specs.declared.Kind.{Kind}
use Rattle.fut_types.specs.Types.{Sub, Kinds, level}
use Rattle.fut_typing.specs.Names.{Names}
use Rattle.fut_typing.specs.Program.{Defined, Program_typed}
use Rattle.fut_typing.specs.Scopes.{nothing as no_types}
use Rattle.fut_typing.specs.Typing.{Typed}
use Rattle.sized_types.specs.Sizes.{Size, erased}
use Rattle.fut_sizes.specs.Applications.{Part}
use Rattle.fut_sizes.specs.Rules.{Sized}
use Rattle.fut_sizes.specs.Scopes.{nothing}
use Rattle.fut_sizes.specs.ProgramRules.{Program_sized}
use Rattle.fut_sizes.specs.Programs.{sizing}
use Rattle.fut_sizes.specs.Scoping.{nothing_known}
use Rattle.fut_sizes.specs.Sizing.{finished, sized}
use Rattle.fut_sizes.specs.Steps.{State, Done}
use Rattle.sizes_meet_rules.specs.Plain.{Plain_term, Plain_definitions}

-- the sized types of a term's nodes meet the rules, and its own one is, without its sizes, its type
abbrev pub SizingMeetsRules : Type 0
SizingMeetsRules = (N : Names) (types : Sub) (home : ℕ → ℕ) (K : Kinds) (places : Kind) (e : FlatTerm) (lo : ℕ) (st : State) (d : Done Part) (u : Done Size) → 1 ≤ level places
    → Plain_term types home K places N e lo → Typed N places e lo no_types K types
    → sized N types e [] lo nothing st ≡ Ok d → finished N types lo d.result d.state ≡ Ok u
    → Sized N types u.state.nodes home e lo nothing_known × (u.state.nodes lo ≡ u.result) × (erased u.result ≡ types lo)

-- without its sizes, the sized type of each definition is its type
abbrev pub Definitions_have_types : Sub → (ℕ → Size) → List Defined → ℕ → Type 0
Definitions_have_types types s [] lo = Unit {0}
Definitions_have_types types s (d ∷ ds) lo = (erased (s lo) ≡ types lo) × Definitions_have_types types s ds (lo + (pattern_numbers d.name + numbers d.value))

-- and so does what it gives for a program
abbrev pub ProgramSizingMeetsRules : Type 0
ProgramSizingMeetsRules = (N : Names) (types : Sub) (home : ℕ → ℕ) (K : Kinds) (places : Kind) (ds : List Defined) (nodes : ℕ → Size) → 1 ≤ level places
    → Plain_definitions types home K places N ds 0 → Program_typed N places ds K types → sizing N types ds ≡ Ok nodes → Program_sized N types nodes home ds × Definitions_have_types types nodes ds 0
