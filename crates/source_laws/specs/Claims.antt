-- What is answered of a source's sizes and aliases is one, whichever numbering in the order of names and whichever typing tells it.
use Rattle.std.specs.Prelude.{◌≡◌, ℕ, List, Option, Some, None, Ok, Err}
use Rattle.fut_typing.specs.Names.{Names, AreNames}
use Rattle.fut_typing.specs.Program.{Defined}
use Rattle.sized_types.specs.Sizes.{Size}
use Rattle.fut_sizes.specs.Agreeing.{Answer, Refusal}
use Rattle.fut_aliases.specs.declared.refusals.Broken.{Broken}
use Rattle.sizing_laws.specs.Order.{In_order}
use Rattle.sizing_laws.specs.Renumbering.{Renumbers, renumbered_answer}
use Rattle.sizing_laws.specs.Sources.{Nothing_open}
use Rattle.sized_programs.specs.Sizings.{Is_sized}
use Rattle.unique_programs.specs.Rules.{First_broken}

-- what holds of any two numberings in order
abbrev pub By_any_two : (Names → Names → Type 0) → Type 0
By_any_two P = (M N : Names) → AreNames M → AreNames N → In_order M → In_order N → P M N

-- the first broken rule is one
abbrev pub RuleIsOne : Type 0
RuleIsOne = (ds : List Defined) (one other : Option Broken) → By_any_two (λ M N. First_broken ds one M → First_broken ds other N → other ≡ one)

-- so a source that breaks no rule is none that breaks one
abbrev pub NotBrokenToo : Type 0
NotBrokenToo = (ds : List Defined) (rule : Broken) → By_any_two (λ M N. First_broken ds None M → First_broken ds (Some rule) N → ⊥)

-- two answers on sizes are the same, but for the numbers of records
abbrev pub Same_answer : Names → Names → Answer (ℕ → Size) → Answer (ℕ → Size) → Type 0
Same_answer M N one other = (number : ℕ → ℕ) × Renumbers M N number × (other ≡ renumbered_answer number one)

-- what is answered of sizes is one where a typing leaves no variable open
abbrev pub SizingIsOne : Type 0
SizingIsOne = (ds : List Defined) (one other : Answer (ℕ → Size)) → By_any_two (λ M N. (s : Is_sized ds one M) → Nothing_open ds s.types → Is_sized ds other N → Same_answer M N one other)

-- so a source that has a sizing is then none whose sizes are refused
abbrev pub NotRefusedToo : Type 0
NotRefusedToo = (ds : List Defined) (sizes : ℕ → Size) (refusal : Refusal) → By_any_two (λ M N. (s : Is_sized ds (Ok sizes) M) → Nothing_open ds s.types → Is_sized ds (Err refusal) N → ⊥)
