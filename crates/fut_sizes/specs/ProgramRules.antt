-- What a sizing of a program is: definitions stand in a row, and each sees those before it by general names, whose uses choose all
-- of their type variables. A definition's numbers are those of its name and of its value.
use Rattle.std.specs.Prelude.{◌≡◌, ℕ, ◌+◌, true, List, [], ◌∷◌}
use Rattle.fut_flat.specs.Numbers.{pattern_numbers, numbers}
use Rattle.fut_flat.specs.Terms.{Bound_pattern}
use Rattle.fut_flat.specs.Erased.{FlatPattern}
use Rattle.fut_types.specs.Types.{Sub}
use Rattle.fut_typing.specs.Names.{Names}
use Rattle.fut_typing.specs.Program.{Defined, program_numbers}
use Rattle.sized_types.specs.Sizes.{Name, Size}
use Rattle.fut_sizes.specs.Agreeing.{is_among}
use Rattle.fut_sizes.specs.Rules.{Inside, Away, Sized}
use Rattle.fut_sizes.specs.Scopes.{names}
use Rattle.fut_sizes.specs.Scoping.{Context, nothing_known, with_scheme}

module _ (N : Names) (types : Sub) (s : ℕ → Size) (home : ℕ → ℕ) where
  -- a definition's name at a node: no pattern takes its value
  abbrev pub with_definition : FlatPattern → ℕ → Context → Context
  with_definition (Bound_pattern b) lo G = with_scheme b.0 (s lo) (λ v. true) G
  with_definition p lo G = G

  -- a definition has the sized type of its value, which knows nothing of the definitions behind it
  pub record Definition_sized (p : FlatPattern) (lo mid at hi : ℕ) : Type 0 where
    pub type : s lo ≡ s mid
    pub bound : (c : ℕ) → is_among (names p) c ≡ true → Inside N types s home lo mid (Name c)
    pub away : Away N types s home at hi (s mid)

  abbrev pub Definitions_sized : List Defined → ℕ → ℕ → Context → Type 0
  Definitions_sized [] lo hi G = Unit {0}
  Definitions_sized (d ∷ ds) lo hi G = Sized N types s home d.value (lo + pattern_numbers d.name) G
      × Definition_sized d.name lo (lo + pattern_numbers d.name) (lo + (pattern_numbers d.name + numbers d.value)) hi
      × Definitions_sized ds (lo + (pattern_numbers d.name + numbers d.value)) hi (with_definition d.name lo G)

  abbrev pub Program_sized : List Defined → Type 0
  Program_sized ds = Definitions_sized ds 0 (program_numbers ds) nothing_known
