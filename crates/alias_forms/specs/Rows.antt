-- A row of lets: the steps up to its body, and where the body stands.
use Rattle.std.specs.Prelude.{ℕ, ◌+◌, List, [], ◌∷◌, Option, None}
use Rattle.fut_flat.specs.Erased.{Row}
use Rattle.fut_flat.specs.Numbers.{numbers, pattern_numbers}
use Rattle.fut_types.specs.Types.{Kinds, Sub}
use Rattle.fut_typing.specs.Names.{Names}
use Rattle.fut_aliases.specs.Aliases.{Naming}
use Rattle.fut_aliases.specs.Calls.{Here}
use Rattle.fut_aliases.specs.Capturing.{or_name, some_name}
use Rattle.fut_aliases.specs.declared.refusals.Named.{Named}
use Rattle.fut_aliases.specs.Looking.{behind_let, by_itself, let_fits, looked}
use Rattle.fut_aliases.specs.Steps.{Step, and_then, give}

-- the number behind a let's own
abbrev pub behind_row : Row → ℕ → ℕ
behind_row l lo = 1 + lo + pattern_numbers l.0.pattern + numbers l.1

unfoldable pub behind_rows : List Row → ℕ → ℕ
behind_rows [] lo = lo
behind_rows (l ∷ ls) lo = behind_rows ls (behind_row l lo)

-- the first name in the values of a row
unfoldable pub row_name : List Row → Option Named
row_name [] = None
row_name (l ∷ ls) = or_name (some_name l.1) (row_name ls)

module _ (naming : Naming) (N : Names) (K : Kinds) (types : Sub) where
  -- a let's value, and what is in scope behind it
  abbrev pub let_looked : Row → ℕ → Here → Step Here
  let_looked l lo h =
      and_then (by_itself naming N K types l.1 (1 + lo + pattern_numbers l.0.pattern) h (looked naming N K types l.1 (1 + lo + pattern_numbers l.0.pattern) h None)) (λ a.
      and_then (let_fits naming N K types h l.0.pattern (1 + lo) a) (λ z. give (behind_let naming N K types l.0 lo a h)))

  unfoldable pub row_looked : List Row → ℕ → Here → Step Here
  row_looked [] lo h = give h
  row_looked (l ∷ ls) lo h = and_then (let_looked l lo h) (λ inside. row_looked ls (behind_row l lo) inside)
