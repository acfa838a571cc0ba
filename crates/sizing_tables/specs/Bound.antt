-- What a flat program binds: by the numbers of its nodes the names of patterns and of the counters of loops, and beside them the
-- names of sizes.
use Rattle.std.specs.Prelude.{ℕ, ◌+◌, Bool, true, false, cond, nat_eq, List, [], ◌∷◌, ◌++◌, map, replicate, Option, Some, None}
use Rattle.fut_scalar.specs.declared.place.BindId.{BindId}
use Rattle.fut_flat.specs.declared.prim.Ref.{Ref}
use Rattle.fut_flat.specs.Terms.{Bound_pattern, Wild_pattern, Tuple_pattern, Record_pattern, Typed_pattern, Patterns, no_pattern, pattern_and, Parameter, Size_parameter, Type_parameter, Use, Strict, Lambda, Apply, Let, If, Loop, Terms, no_term, term_and, Counted, Over, While}
use Rattle.fut_flat.specs.Numbers.{own_numbers}
use Rattle.fut_flat.specs.Erased.{FlatPattern, FlatTerm, FlatTurns}
use Rattle.fut_typing.specs.Program.{Defined}

-- a node that binds a name, and one that binds none
abbrev pub named : BindId → List (Option ℕ)
named b = Some b.0 ∷ []

abbrev pub unnamed : List (Option ℕ)
unnamed = None ∷ []

-- ---- names, node by node

unfoldable mutual
  pub pattern_names : FlatPattern → List (Option ℕ)
  pattern_names (Bound_pattern b) = named b
  pattern_names Wild_pattern = unnamed
  pattern_names (Tuple_pattern ps) = unnamed ++ all_pattern_names ps
  pattern_names (Record_pattern fs ps) = unnamed ++ all_pattern_names ps
  pattern_names (Typed_pattern p t) = pattern_names p

  pub all_pattern_names : Patterns Ref BindId → List (Option ℕ)
  all_pattern_names no_pattern = []
  all_pattern_names (pattern_and p ps) = pattern_names p ++ all_pattern_names ps

unfoldable mutual
  pub names_of : FlatTerm → List (Option ℕ)
  names_of (Use r at k) = replicate (1 + (k + k)) None
  names_of (Strict o mark ts) = replicate (own_numbers o) None ++ all_names ts
  names_of (Lambda ps e) = (unnamed ++ all_pattern_names ps) ++ names_of e
  names_of (Apply f e) = (unnamed ++ names_of f) ++ names_of e
  names_of (Let b v e) = ((unnamed ++ pattern_names b.pattern) ++ names_of v) ++ names_of e
  names_of (If c t e) = ((unnamed ++ names_of c) ++ names_of t) ++ names_of e
  names_of (Loop mark sizes p first turns body) = (((unnamed ++ pattern_names p) ++ names_of first) ++ turn_names turns) ++ names_of body

  pub all_names : Terms Ref BindId → List (Option ℕ)
  all_names no_term = []
  all_names (term_and t ts) = names_of t ++ all_names ts

  pub turn_names : FlatTurns → List (Option ℕ)
  turn_names (Counted i n) = named i ++ names_of n
  turn_names (Over p e) = pattern_names p ++ names_of e
  turn_names (While c) = names_of c

unfoldable pub program_names : List Defined → List (Option ℕ)
program_names [] = []
program_names (d ∷ ds) = (pattern_names d.name ++ names_of d.value) ++ program_names ds

-- ---- names of sizes

abbrev pub bind_numbers : List BindId → List ℕ
bind_numbers = map (λ (b : BindId). b.0)

unfoldable pub size_numbers : List (Parameter BindId) → List ℕ
size_numbers [] = []
size_numbers (Size_parameter b ∷ ps) = b.0 ∷ size_numbers ps
size_numbers (Type_parameter b lifted ∷ ps) = size_numbers ps

unfoldable mutual
  pub sizes_of : FlatTerm → List ℕ
  sizes_of (Use r at k) = []
  sizes_of (Strict o mark ts) = all_sizes ts
  sizes_of (Lambda ps e) = sizes_of e
  sizes_of (Apply f e) = sizes_of f ++ sizes_of e
  sizes_of (Let b v e) = ((bind_numbers b.sizes ++ size_numbers b.parameters) ++ sizes_of v) ++ sizes_of e
  sizes_of (If c t e) = (sizes_of c ++ sizes_of t) ++ sizes_of e
  sizes_of (Loop mark sizes p first turns body) = ((bind_numbers sizes ++ sizes_of first) ++ turn_sizes turns) ++ sizes_of body

  pub all_sizes : Terms Ref BindId → List ℕ
  all_sizes no_term = []
  all_sizes (term_and t ts) = sizes_of t ++ all_sizes ts

  pub turn_sizes : FlatTurns → List ℕ
  turn_sizes (Counted i n) = sizes_of n
  turn_sizes (Over p e) = sizes_of e
  turn_sizes (While c) = sizes_of c

unfoldable pub program_sizes : List Defined → List ℕ
program_sizes [] = []
program_sizes (d ∷ ds) = (size_numbers d.parameters ++ sizes_of d.value) ++ program_sizes ds

unfoldable pub is_among : ℕ → List ℕ → Bool
is_among k [] = false
is_among k (n ∷ ns) = cond (nat_eq n k) true (is_among k ns)
