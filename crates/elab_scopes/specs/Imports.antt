-- Which file an import names: `import "p"` in the file at the path `d/x.fut` reads `d/p.fut` (Futhark Language Reference,
-- "Referencing Other Files").
use Rattle.std.specs.Prelude.{ℕ, zero, suc, ◌++◌, ◌||◌, cond, codes, nat_eq, reverse, Bool, true, false, List, [], ◌∷◌, Option, Some, None}
use Rattle.std.specs.Str.{bytes_eq}
use Rattle.fut_ast.specs.Sorts.{Text}
use Rattle.fut_ast.specs.declared.module.Program.{Program}

-- ---- paths

abbrev pub before_slash : ℕ → List Text → List Text
before_slash c [] = (c ∷ []) ∷ []
before_slash c (x ∷ xs) = (c ∷ x) ∷ xs

-- what stands between the slashes of a path
unfoldable pub segments : Text → List Text
segments [] = [] ∷ []
segments (c ∷ cs) = cond (nat_eq c 47) ([] ∷ segments cs) (before_slash c (segments cs))

abbrev pub slashed : List Text → Text
slashed [] = []
slashed (x ∷ []) = x
slashed (x ∷ y ∷ ys) = x ++ 47 ∷ slashed (y ∷ ys)

-- the folder of a file
abbrev pub folder : List Text → List Text
folder [] = []
folder (x ∷ []) = []
folder (x ∷ y ∷ ys) = x ∷ folder (y ∷ ys)

abbrev pub is_empty : Text → Bool
is_empty [] = true
is_empty (c ∷ cs) = false

-- `..` takes away the segment before it, unless that is empty or `..`; the newest segment stands first
abbrev pub upwards : List Text → List Text
upwards [] = codes ".." ∷ []
upwards (x ∷ xs) = cond (is_empty x || bytes_eq x (codes "..")) (codes ".." ∷ x ∷ xs) xs

-- `.` is left out
unfoldable pub tidied : List Text → List Text → List Text
tidied before [] = reverse before
tidied before (x ∷ xs) = cond (bytes_eq x (codes ".")) (tidied before xs) (cond (bytes_eq x (codes "..")) (tidied (upwards before) xs) (tidied (x ∷ before) xs))

-- the path of the file that the text `x` names in the file at the path `from`
unfoldable pub imported_path : Text → Text → Text
imported_path from x = slashed (tidied [] (folder (segments from) ++ segments (x ++ codes ".fut")))

-- ---- files

-- a file: its path, and its declarations
pub record Source_file : Type 0 where
  pub path : Text
  pub program : Program

unfoldable pub item : {A : Type 0} → List A → ℕ → Option A
item [] k = None
item (x ∷ xs) zero = Some x
item (x ∷ xs) (suc k) = item xs k

abbrev pub one_later : Option ℕ → Option ℕ
one_later None = None
one_later (Some k) = Some (suc k)

-- the number of the first file with this path
unfoldable pub file_number : List Source_file → Text → Option ℕ
file_number [] x = None
file_number (f ∷ fs) x = cond (bytes_eq f.path x) (Some 0) (one_later (file_number fs x))

abbrev pub path_of : Option Source_file → Text
path_of None = []
path_of (Some f) = f.path

-- the number of the file that the text `x` names in the file with the number `k`
unfoldable pub imported_file : List Source_file → ℕ → Text → Option ℕ
imported_file fs k x = file_number fs (imported_path (path_of (item fs k)) x)
