-- The homes of a term's numbers, in the order of the numbers.
use Rattle.std.specs.Prelude.{◌≡◌, ℕ, ◌+◌, ◌<◌, List, [], ◌∷◌, ◌++◌, length, replicate, slice_index_or}
use Rattle.fut_scalar.specs.declared.place.BindId.{BindId}
use Rattle.fut_flat.specs.declared.prim.Ref.{Ref}
use Rattle.fut_flat.specs.Terms.{Use, Strict, Lambda, Apply, Let, If, Loop, Terms, no_term, term_and, Counted, Over, While}
use Rattle.fut_flat.specs.Numbers.{pattern_numbers, all_pattern_numbers, own_numbers, numbers}
use Rattle.fut_flat.specs.Erased.{FlatTerm, FlatTurns}
use Rattle.fut_typing.specs.Free.{has_types, is_written, differs}
use Rattle.fut_typing.specs.Homes.{At_home, Homed, home_in, depth_if, written_if}
use Rattle.fut_typing.specs.Program.{Defined, program_numbers}

abbrev pub one : ℕ → List ℕ
one d = d ∷ []

-- at depth d, where w is the depth of the innermost definition that has written type parameters, and 0 where there is none
unfoldable mutual
  pub homes_of : ℕ → ℕ → FlatTerm → List ℕ
  homes_of d w (Use r at k) = replicate (1 + (k + k)) d
  homes_of d w (Strict o mark ts) = replicate (own_numbers o) (home_in (differs o) d w) ++ all_homes d w ts
  homes_of d w (Lambda ps e) = (one d ++ replicate (all_pattern_numbers ps) d) ++ homes_of d w e
  homes_of d w (Apply f e) = (one d ++ homes_of d w f) ++ homes_of d w e
  homes_of d w (Let b v e) = ((one d ++ replicate (pattern_numbers b.pattern) (depth_if b.is_function d)) ++ homes_of (depth_if b.is_function d) (written_if (is_written b) (1 + d) w) v) ++ homes_of d w e
  homes_of d w (If c t e) = ((one d ++ homes_of d w c) ++ homes_of d w t) ++ homes_of d w e
  homes_of d w (Loop mark sizes p first turns body) = (((one d ++ replicate (pattern_numbers p) d) ++ homes_of d w first) ++ turn_homes d w turns) ++ homes_of d w body

  pub all_homes : ℕ → ℕ → Terms Ref BindId → List ℕ
  all_homes d w no_term = []
  all_homes d w (term_and t ts) = homes_of d w t ++ all_homes d w ts

  pub turn_homes : ℕ → ℕ → FlatTurns → List ℕ
  turn_homes d w (Counted i n) = one d ++ homes_of d w n
  turn_homes d w (Over p e) = replicate (pattern_numbers p) d ++ homes_of d w e
  turn_homes d w (While c) = homes_of d w c

-- each definition is one deep
abbrev pub value_homes : Defined → List ℕ
value_homes d = homes_of 1 (written_if (has_types d.parameters) 1 0) d.value

unfoldable pub program_homes : List Defined → List ℕ
program_homes [] = []
program_homes (d ∷ ds) = (replicate (pattern_numbers d.name) 1 ++ value_homes d) ++ program_homes ds

abbrev pub Program_homed : (ℕ → ℕ) → List Defined → ℕ → Type 0
Program_homed home [] lo = Unit {0}
Program_homed home (d ∷ ds) lo = At_home home 1 lo (pattern_numbers d.name) × Homed home 1 (written_if (has_types d.parameters) 1 0) d.value (lo + pattern_numbers d.name)
    × Program_homed home ds (lo + (pattern_numbers d.name + numbers d.value))

-- the list has the home of each number of a program
pub record AreHomes (homes : List ℕ) (ds : List Defined) : Type 0 where
  pub long : length homes ≡ program_numbers ds
  pub homed : (home : ℕ → ℕ) → ((n : ℕ) → n < length homes → home n ≡ slice_index_or homes n 0) → Program_homed home ds 0
