-- What is proved of the order in which files are loaded.
use Rattle.std.specs.Prelude.{◌≡◌, ℕ, List}
use Rattle.elab_scopes.specs.Imports.{Source_file}
use Rattle.file_order.specs.Order.{Among, First_cycle, Load_order, imports_of}

-- files have one order of load
abbrev pub OneLoadOrder : Type 0
OneLoadOrder = (fs : List Source_file) (all others : List ℕ) → Load_order fs all → Load_order fs others → all ≡ others

-- and in it stands each file that one of them imports
abbrev pub ImportsAreLoaded : Type 0
ImportsAreLoaded = (fs : List Source_file) (all : List ℕ) (k j : ℕ) → Load_order fs all → Among k all → Among j (imports_of fs k) → Among j all

-- at most one file is the first that imports itself
abbrev pub OneFirstCycle : Type 0
OneFirstCycle = (fs : List Source_file) (all : List ℕ) (k j : ℕ) → First_cycle fs k all → First_cycle fs j all → k ≡ j
