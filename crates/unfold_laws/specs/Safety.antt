-- Typed blocks never go wrong, whatever they come of: which data is of which types, and the law.
use Rattle.std.specs.Prelude.{◌≡◌, ℕ, List, [], ◌∷◌, length, Bool, false}
use Rattle.fut_types.specs.Types.{Ty, Tys, none, more, Kinds}
use Rattle.fut_typing.specs.Names.{Names, AreNames, count}
use Rattle.fut_meaning.specs.Found.{Told}
use Rattle.fut_meaning.specs.Claims.{Safe}
use Rattle.fut_meaning.specs.Datums.{as_value}
use Rattle.fut_meaning.specs.Meaning.{plain}
use Rattle.fut_blocks.specs.declared.block.Program.{Program}
use Rattle.fut_blocks.specs.Meaning.{Component}
use Rattle.fut_blocks.specs.Plain.{body_of}
use Rattle.fut_blocks.specs.Programs.{Program_means, Rising}
use Rattle.type_soundness.specs.Fits.{Fits}
use Rattle.unfold_laws.specs.Typed.{of_constants, with_names, Body_typed, any_types}

-- data of a type: as a value it is of that type
abbrev pub Is_of : Names → Told → Bool → ℕ → Ty → Component → Type 0
Is_of N T tight budget t d = Fits N T (plain tight) budget false t [] (as_value d)

abbrev pub Are_of : Names → Told → Bool → ℕ → Tys → List Component → Type 0
Are_of N T tight budget none [] = Unit {0}
Are_of N T tight budget none (d ∷ ds) = ⊥
Are_of N T tight budget (more t ts) [] = ⊥
Are_of N T tight budget (more t ts) (d ∷ ds) = Is_of N T tight budget t d × Are_of N T tight budget ts ds

-- On data of its parameters' types a well typed program of blocks gives results of its types, or a report, and never goes wrong,
-- whatever the budget of turns.
abbrev pub ProgramsNeverStuck : Type 0
ProgramsNeverStuck =
    (N : Names) → AreNames N → (K : Kinds) (T : Told) (tight : Bool) (budget : ℕ) (p : Program) (ts us : Tys) → Rising p → length p.params.now ≡ count ts → Body_typed N K any_types (body_of p.body) (with_names p.params.now ts of_constants) us
    → (ds : List Component) → Are_of N T tight budget ts ds → Safe (Are_of N T tight budget us) (Program_means tight budget p ds)
