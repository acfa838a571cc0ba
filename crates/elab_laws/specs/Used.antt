-- What a sizing has to tell of the uses of names in flat definitions: the size that the use at a node stands for, found by the
-- numbers of the nodes on the way to it.
use Rattle.std.specs.Prelude.{◌≡◌, ℕ, ◌+◌, List, [], ◌∷◌, Bool, false, cond, nat_lt, Option, Some, None, Ok}
use mathlib.Core.Logic.{◌⊎◌}
use Rattle.fut_scalar.specs.declared.place.BindId.{BindId}
use Rattle.fut_flat.specs.declared.prim.Ref.{Ref}
use Rattle.fut_flat.specs.declared.prim.Ref.TheVariants as ref
use Rattle.fut_flat.specs.Erased.{FlatTerm, FlatTurns}
use Rattle.fut_flat.specs.Numbers.{pattern_numbers, all_pattern_numbers, own_numbers, numbers, turn_numbers}
use Rattle.fut_flat.specs.Terms.{Use, Strict, Lambda, Apply, Let, If, Loop, Terms, no_term, term_and, Counted, Over, While}
use Rattle.fut_meaning.specs.Found.{Sizing}
use Rattle.fut_meaning.specs.Uses.{All_sizes, Parameter_sizes}
use Rattle.elab_scopes.specs.Programs.{FlatDefinition, FlatProgram}
use Rattle.elab_scopes.specs.Elaboration.{Elaborates}
use Rattle.elab_scopes.specs.Imports.{Source_file}
use Rattle.elab_laws.specs.Sized.{Sizes_are_told}

module _ (is_size : ℕ → Bool) where
  -- the size whose name this is
  abbrev pub size_of : Ref → Option ℕ
  size_of (ref.Bound b) = cond (is_size b.0) (Some b.0) None
  size_of (ref.Prim p) = None
  size_of (ref.Scalar s) = None

  -- of a term whose nodes are numbered from `lo` on, the use at a node or around it
  unfoldable mutual
    pub used_at : ℕ → FlatTerm → ℕ → Option ℕ
    used_at lo (Use r at k) node = size_of r
    used_at lo (Strict o mark ts) node = all_used_at (lo + own_numbers o) ts node
    used_at lo (Lambda ps e) node = used_at (1 + lo + all_pattern_numbers ps) e node
    used_at lo (Apply f e) node = cond (nat_lt node (1 + lo + numbers f)) (used_at (1 + lo) f node) (used_at (1 + lo + numbers f) e node)
    used_at lo (Let b v e) node = cond (nat_lt node (1 + lo + pattern_numbers b.pattern + numbers v)) (used_at (1 + lo + pattern_numbers b.pattern) v node) (used_at (1 + lo + pattern_numbers b.pattern + numbers v) e node)
    used_at lo (If c a b) node = cond (nat_lt node (1 + lo + numbers c)) (used_at (1 + lo) c node) (cond (nat_lt node (1 + lo + numbers c + numbers a)) (used_at (1 + lo + numbers c) a node) (used_at (1 + lo + numbers c + numbers a) b node))
    used_at lo (Loop mark sizes p first turns body) node =
        cond (nat_lt node (1 + lo + pattern_numbers p + numbers first)) (used_at (1 + lo + pattern_numbers p) first node)
        (cond (nat_lt node (1 + lo + pattern_numbers p + numbers first + turn_numbers turns)) (turns_used_at (1 + lo + pattern_numbers p + numbers first) turns node) (used_at (1 + lo + pattern_numbers p + numbers first + turn_numbers turns) body node))

    pub all_used_at : ℕ → Terms Ref BindId → ℕ → Option ℕ
    all_used_at lo no_term node = None
    all_used_at lo (term_and t ts) node = cond (nat_lt node (lo + numbers t)) (used_at lo t node) (all_used_at (lo + numbers t) ts node)

    pub turns_used_at : ℕ → FlatTurns → ℕ → Option ℕ
    turns_used_at lo (Counted i n) node = used_at (1 + lo) n node
    turns_used_at lo (Over p e) node = used_at (lo + pattern_numbers p) e node
    turns_used_at lo (While c) node = used_at lo c node

  unfoldable pub used_in_definitions : ℕ → List FlatDefinition → ℕ → Option ℕ
  used_in_definitions lo [] node = None
  used_in_definitions lo (d ∷ ds) node = cond (nat_lt node (lo + (1 + numbers d.value))) (used_at (1 + lo) d.value node) (used_in_definitions (lo + (1 + numbers d.value)) ds node)

-- behind a module stand numbers such as a condition asks, of definitions
module _ (S : ℕ → Type 0) where
  abbrev pub Use_plain : Ref → ℕ → Type 0
  Use_plain (ref.Bound b) modules = (modules ≡ 0) ⊎ S b.0
  Use_plain (ref.Prim p) modules = Unit {0}
  Use_plain (ref.Scalar s) modules = Unit {0}

  abbrev mutual
    pub Uses_plain : FlatTerm → Type 0
    Uses_plain (Use r at k) = Use_plain r k
    Uses_plain (Strict o mark ts) = All_plain ts
    Uses_plain (Lambda ps e) = Uses_plain e
    Uses_plain (Apply f e) = Uses_plain f × Uses_plain e
    Uses_plain (Let b v e) = Uses_plain v × Uses_plain e
    Uses_plain (If c a b) = Uses_plain c × Uses_plain a × Uses_plain b
    Uses_plain (Loop mark sizes p first turns body) = Uses_plain first × Turns_plain turns × Uses_plain body

    pub All_plain : Terms Ref BindId → Type 0
    All_plain no_term = Unit {0}
    All_plain (term_and t ts) = Uses_plain t × All_plain ts

    pub Turns_plain : FlatTurns → Type 0
    Turns_plain (Counted i n) = Uses_plain n
    Turns_plain (Over p e) = Uses_plain e
    Turns_plain (While c) = Uses_plain c

-- each name of a size that is bound has the number of one
module _ (z : Option Sizing) where
  abbrev mutual
    pub Sizes_bound : FlatTerm → Type 0
    Sizes_bound (Use r at k) = Unit {0}
    Sizes_bound (Strict o mark ts) = All_bound ts
    Sizes_bound (Lambda ps e) = Sizes_bound e
    Sizes_bound (Apply f e) = Sizes_bound f × Sizes_bound e
    Sizes_bound (Let b v e) = All_sizes z b.sizes × Parameter_sizes z b.parameters × Sizes_bound v × Sizes_bound e
    Sizes_bound (If c a b) = Sizes_bound c × Sizes_bound a × Sizes_bound b
    Sizes_bound (Loop mark sizes p first turns body) = All_sizes z sizes × Sizes_bound first × Turns_bound turns × Sizes_bound body

    pub All_bound : Terms Ref BindId → Type 0
    All_bound no_term = Unit {0}
    All_bound (term_and t ts) = Sizes_bound t × All_bound ts

    pub Turns_bound : FlatTurns → Type 0
    Turns_bound (Counted i n) = Sizes_bound n
    Turns_bound (Over p e) = Sizes_bound e
    Turns_bound (While c) = Sizes_bound c

  abbrev pub Definitions_bound : List FlatDefinition → Type 0
  Definitions_bound [] = Unit {0}
  Definitions_bound (d ∷ ds) = Parameter_sizes z d.parameters × Sizes_bound d.value × Definitions_bound ds

-- no number of a definition is that of a size
abbrev pub Definitions_are_no_sizes : (ℕ → Bool) → List FlatDefinition → Type 0
Definitions_are_no_sizes is_size [] = Unit {0}
Definitions_are_no_sizes is_size (d ∷ ds) = (is_size d.bind.0 ≡ false) × Definitions_are_no_sizes is_size ds

-- A sizing that tells these sizes, and the numbers of all sizes, is right about the sizes of an elaborated program.
abbrev pub UsesAreTold : Type 0
UsesAreTold =
    (files : List Source_file) (flat : FlatProgram) → Elaborates files (Ok flat)
    → (Z : Sizing) → Definitions_bound (Some Z) flat.definitions → Definitions_are_no_sizes Z.is_size flat.definitions → ((node : ℕ) → Z.used node ≡ used_in_definitions Z.is_size 0 flat.definitions node)
    → Sizes_are_told (Some Z) 0 flat.definitions
