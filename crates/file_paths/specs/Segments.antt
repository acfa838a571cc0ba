-- Segments of a path one after the other.
use Rattle.std.specs.Prelude.{◌||◌, cond, codes, reverse, Bool, List, ◌∷◌}
use Rattle.std.specs.Borrow.{Bor}
use Rattle.std.specs.Str.{bytes_eq}
use Rattle.fut_ast.specs.Sorts.{Text}
use Rattle.fut_tree.specs.Names.{names}
use Rattle.elab_scopes.specs.Imports.{is_empty, upwards}

-- the segments of a path, the newest first
abbrev pub newest : List (Bor Text) → List Text
newest xs = reverse (names xs)

-- one more segment behind those of a tidy path, the newest of which stands first
unfoldable pub with_segment : Text → List Text → List Text
with_segment x before = cond (bytes_eq x (codes ".")) before (cond (bytes_eq x (codes "..")) (upwards before) (x ∷ before))

-- `..` leaves a segment where it is that is empty or `..`
abbrev pub is_fixed : Text → Bool
is_fixed x = is_empty x || bytes_eq x (codes "..")
