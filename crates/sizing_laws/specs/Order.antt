-- Numberings in which the parts of each record stand in the order of its names.
use Rattle.std.specs.Prelude.{◌≡◌, ℕ, Bool, true}
use Rattle.std.specs.List.{AllPairs}
use Rattle.std.specs.Ordering.{nat_cmp, is_lt}
use Rattle.std.specs.Cmp.Lexicographic.{slice_cmp}
use Rattle.fut_ast.specs.Sorts.{Text}
use Rattle.fut_typing.specs.Names.{Names}

-- byte by byte
abbrev pub is_before : Text → Text → Bool
is_before s t = is_lt (slice_cmp nat_cmp s t)

-- of two labels, the name of the first stands before that of the second
abbrev pub Labels_rise : Names → ℕ → ℕ → Type 0
Labels_rise N k l = (s t : Text) → N.label s ≡ k → N.label t ≡ l → is_before s t ≡ true

-- the labels of each record rise by their names
abbrev pub In_order : Names → Type 0
In_order N = (r : ℕ) → AllPairs (Labels_rise N) (N.shapes.fields r)
