-- What is wanted of a parameter.
use Rattle.std.specs.Prelude.{◌≡◌, ℕ, Bool, true, false, [], Option, Some, None}
use Rattle.fut_flat.specs.Erased.{FlatPattern}
use Rattle.fut_types.specs.Types.{Sub}
use Rattle.fut_typing.specs.Names.{Names}
use Rattle.sized_types.specs.Sizes.{Size, Fun}
use Rattle.fut_sizes.specs.Matching as matching
use Rattle.fut_sizes.specs.Matching.{in_opened, inside, none_opened}
use Rattle.fut_sizes.specs.Scopes.{Scope}
use Rattle.fut_sizes.specs.Sizing as sizing
use Rattle.fut_sizes.specs.Sizing.{in_pattern, open_frame, parameter_frame}
use Rattle.size_arena.specs.Trees.{size_of}
use Rattle.size_patterns.specs.declared.entering.Arrow.{Arrow}
use Rattle.size_patterns.specs.declared.entering.Wanted.{Wanted}

abbrev pub arrow_size : Arrow → Size
arrow_size a = Fun a.chosen (size_of a.from.now) (size_of a.to.now)

abbrev pub wants_function : Option Size → Bool
wants_function (Some (Fun k p r)) = true
wants_function w = false

-- the function type that is wanted, if one is
pub data Is_arrow (w : Option Size) : Option Arrow → Type 0 where
  an_arrow : {a : Arrow} → w ≡ Some (arrow_size a) → Is_arrow w (Some a)
  no_arrow : wants_function w ≡ false → Is_arrow w None

-- at the node of a parameter: what it is to have, and what is wanted of the rest
abbrev pub wanted_from : FlatPattern → ℕ → Arrow → Size
wanted_from p q a = in_opened (inside (parameter_frame p q a.chosen) none_opened) (size_of a.from.now)

abbrev pub wanted_to : FlatPattern → ℕ → Arrow → Size
wanted_to p q a = in_opened (inside (parameter_frame p q a.chosen) none_opened) (size_of a.to.now)

-- the rest where what is wanted of the parameter is still open
abbrev pub open_to : FlatPattern → ℕ → Arrow → Size
open_to p q a = in_opened (inside (open_frame p q a.chosen) none_opened) (size_of a.to.now)

pub record Wanted_so (N : Names) (types : Sub) (p : FlatPattern) (q : ℕ) (a : Arrow) (w : Wanted) : Type 0 where
  pub given : size_of w.given.now ≡ wanted_from p q a
  pub size : size_of w.size.now ≡ in_pattern N types p (size_of w.given.now)
  pub rest : size_of w.rest.now ≡ wanted_to p q a

-- no parameter has been entered
abbrev pub starting : Scope → Option Size → matching.Found → sizing.Entered
starting scope w σ = record { scope = scope; parameters = []; wanted = w; found = σ }
