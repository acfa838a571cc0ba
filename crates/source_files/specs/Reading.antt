-- Which files a program has, and in which order they are read: the named file, and behind each file what it imports, in the order
-- of its text, before what is imported next; and each once (Futhark Language Reference, "Referencing Other Files").
use Rattle.std.specs.Prelude.{◌≡◌, ℕ, ◌++◌, List, [], ◌∷◌, map, flat_map, Option, Some, None}
use Rattle.fut_ast.specs.Sorts.{Text}
use Rattle.elab_scopes.specs.Imports.{Source_file, file_number, imported_path}
use Rattle.file_order.specs.Order.{imported_texts}

-- the paths of the files that a file imports, in the order of its text
abbrev pub imported_paths : Source_file → List Text
imported_paths f = map (imported_path f.path) (flat_map imported_texts f.program.decs)

-- the files that were read, and the paths that are still to be looked at
pub data Reading (file : Text) : List Source_file → List Text → Type 0 where
  at_first : Reading file [] (file ∷ [])
  is_known : {fs : List Source_file} {p : Text} {ps : List Text} {k : ℕ} → Reading file fs (p ∷ ps) → file_number fs p ≡ Some k → Reading file fs ps
  is_read : {fs : List Source_file} {ps : List Text} (f : Source_file) → Reading file fs (f.path ∷ ps) → file_number fs f.path ≡ None → Reading file (fs ++ f ∷ []) (imported_paths f ++ ps)

-- all files are read
abbrev pub All_read : Text → List Source_file → Type 0
All_read file fs = Reading file fs []

-- the file at this path is the next one behind these
pub record Is_next (file : Text) (fs : List Source_file) (path : Text) : Type 0 where
  pub others : List Text
  pub reading : Reading file fs (path ∷ others)
  pub unknown : file_number fs path ≡ None

-- the next path at which no file was read, and those behind it; or there is none
abbrev pub Is_left : Text → List Source_file → List Text → Option Text → Type 0
Is_left file fs others None = All_read file fs
Is_left file fs others (Some path) = Reading file fs (path ∷ others) × (file_number fs path ≡ None)
