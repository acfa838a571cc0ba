-- When a sizing is right about the sizes of flat terms: each name of a size that they bind has the number of one, and at each
-- use of such a number it tells that number. With no sizing these are terms that bind no size.
use Rattle.std.specs.Prelude.{◌≡◌, ℕ, ◌+◌, List, [], ◌∷◌, Bool, true, false, cond, Option, Some, None}
use Rattle.fut_scalar.specs.declared.place.BindId.{BindId}
use Rattle.fut_flat.specs.declared.prim.Ref.{Ref}
use Rattle.fut_flat.specs.declared.prim.Ref.TheVariants as ref
use Rattle.fut_flat.specs.Erased.{FlatTerm, FlatTurns}
use Rattle.fut_flat.specs.Numbers.{pattern_numbers, all_pattern_numbers, own_numbers, numbers, turn_numbers}
use Rattle.fut_flat.specs.Terms.{Parameter, Size_parameter, Type_parameter, Use, Strict, Lambda, Apply, Let, If, Loop, Terms, no_term, term_and, Counted, Over, While}
use Rattle.fut_meaning.specs.Found.{Sizing}

-- whether a number is that of a size's name, and the size that the use at a node stands for
abbrev pub is_size_in : Option Sizing → ℕ → Bool
is_size_in None k = false
is_size_in (Some Z) k = Z.is_size k

abbrev pub used_in : Option Sizing → ℕ → Option ℕ
used_in None node = None
used_in (Some Z) node = Z.used node

module _ (z : Option Sizing) where
  abbrev pub All_sizes : List BindId → Type 0
  All_sizes [] = Unit {0}
  All_sizes (b ∷ bs) = (is_size_in z b.0 ≡ true) × All_sizes bs

  abbrev pub Parameter_sizes : List (Parameter BindId) → Type 0
  Parameter_sizes [] = Unit {0}
  Parameter_sizes (Size_parameter b ∷ hs) = (is_size_in z b.0 ≡ true) × Parameter_sizes hs
  Parameter_sizes (Type_parameter b lifted ∷ hs) = Parameter_sizes hs

  -- the use of a name, before which so many names of modules stand: a size stands in no module
  abbrev pub Use_told : ℕ → Ref → ℕ → Type 0
  Use_told node (ref.Bound b) modules = (used_in z node ≡ cond (is_size_in z b.0) (Some b.0) None) × (is_size_in z b.0 ≡ true → modules ≡ 0)
  Use_told node (ref.Prim p) modules = used_in z node ≡ None
  Use_told node (ref.Scalar s) modules = used_in z node ≡ None

  -- nodes are numbered from `lo` on
  abbrev mutual
    pub Sizes_told : ℕ → FlatTerm → Type 0
    Sizes_told lo (Use r at k) = Use_told (lo + (k + k)) r k
    Sizes_told lo (Strict o mark ts) = All_sizes_told (lo + own_numbers o) ts
    Sizes_told lo (Lambda ps e) = Sizes_told (1 + lo + all_pattern_numbers ps) e
    Sizes_told lo (Apply f e) = Sizes_told (1 + lo) f × Sizes_told (1 + lo + numbers f) e
    Sizes_told lo (Let b v e) = All_sizes b.sizes × Parameter_sizes b.parameters × Sizes_told (1 + lo + pattern_numbers b.pattern) v × Sizes_told (1 + lo + pattern_numbers b.pattern + numbers v) e
    Sizes_told lo (If c a b) = Sizes_told (1 + lo) c × Sizes_told (1 + lo + numbers c) a × Sizes_told (1 + lo + numbers c + numbers a) b
    Sizes_told lo (Loop mark sizes p first turns body) =
        All_sizes sizes × Sizes_told (1 + lo + pattern_numbers p) first × Turns_told (1 + lo + pattern_numbers p + numbers first) turns × Sizes_told (1 + lo + pattern_numbers p + numbers first + turn_numbers turns) body

    pub All_sizes_told : ℕ → Terms Ref BindId → Type 0
    All_sizes_told lo no_term = Unit {0}
    All_sizes_told lo (term_and t ts) = Sizes_told lo t × All_sizes_told (lo + numbers t) ts

    pub Turns_told : ℕ → FlatTurns → Type 0
    Turns_told lo (Counted i n) = Sizes_told (1 + lo) n
    Turns_told lo (Over p e) = Sizes_told (lo + pattern_numbers p) e
    Turns_told lo (While c) = Sizes_told lo c
