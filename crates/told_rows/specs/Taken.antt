-- Sizes that functions take, as code tells them.
use Rattle.std.specs.Prelude.{◌≡◌, ◌<◌, ℕ, suc, ◌+◌, Bool, true, false, List, Option, Some, None}
use Rattle.fut_ast.specs.Sorts.{Text}
use Rattle.fut_blocks.specs.Rows.{Extent, Nowhere}
use Rattle.fut_meaning.specs.Found.{Sizing}
use Rattle.fut_meaning.specs.Places.{on_place}
use Rattle.fut_meaning.specs.Taken.{taken_place}
use Rattle.size_arena.specs.declared.dims.Dim.{Dim as Held_dim}
use Rattle.size_arena.specs.Trees.{dim_of}
use Rattle.sized_types.specs.Sizes.{Free, Dim, At, Size}
use Rattle.unfold.specs.Held.{entered_of}
use Rattle.unfold.specs.Knowns.{Known, Function_known, seeing, Entered, no_entry, entry}
use Rattle.unfold.specs.Telling.{expression, passed, says}
use Rattle.told_rows.specs.declared.taken.Step.{Step}

abbrev pub maybe_dim : Option Held_dim → Option Dim
maybe_dim None = None
maybe_dim (Some d) = Some (dim_of d)

abbrev pub is_taken_there : (ℕ → List Text) → Free → Size → Bool
is_taken_there fields d t = on_place (taken_place fields (At d) t) (λ p. true) false

-- how much was entered, here and where the functions stand that were entered
unfoldable mutual
  pub known_weight : Known → ℕ
  known_weight (Function_known ps e lo (seeing names es)) = suc (entered_weight es)
  known_weight s = 0

  pub entered_weight : Entered → ℕ
  entered_weight no_entry = 0
  entered_weight (entry q s r es) = suc (known_weight s + entered_weight es)

-- a size that is passed with a function is one by the names of the function
abbrev pub Says : Sizing → Known → Size → Free → Option Step → Type 0
Says Z s t d None = (e : Extent) → says Z s t (At d) e ≡ e
Says Z s t d (Some y) = (e : Extent) → says Z s t (At d) e ≡ expression Z (entered_of y.entered.now) (dim_of y.size)

abbrev pub Steps : Sizing → Entered → Free → Option Step → Type 0
Steps Z es d None = passed Z es d ≡ Nowhere
Steps Z es d (Some y) = passed Z es d ≡ expression Z (entered_of y.entered.now) (dim_of y.size)

-- of which fewer were entered
abbrev pub Lighter : ℕ → Option Step → Type 0
Lighter n None = Unit {0}
Lighter n (Some y) = entered_weight (entered_of y.entered.now) < n
