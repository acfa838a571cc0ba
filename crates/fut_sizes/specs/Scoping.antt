-- Which sizes stand in a sized type outside of functions, and what is known of the names in scope where a sizing is judged by
-- its rules.
use Rattle.std.specs.Prelude.{ℕ, Bool, true, false, ◌||◌, cond, nat_eq, ◌+◌, List, [], ◌∷◌, Option, Some, None}
use Rattle.fut_scalar.specs.declared.place.BindId.{BindId}
use Rattle.fut_scalar.specs.declared.scalar.ScalarType.TheVariants as scalar
use Rattle.fut_types.specs.declared.Head.TheVariants as head
use Rattle.fut_flat.specs.declared.prim.Ref.{Ref}
use Rattle.fut_flat.specs.Terms.{Bound_pattern, Wild_pattern, Tuple_pattern, Record_pattern, Typed_pattern, Patterns, no_pattern, pattern_and}
use Rattle.fut_flat.specs.Numbers.{pattern_numbers}
use Rattle.fut_flat.specs.Erased.{FlatPattern}
use Rattle.sized_types.specs.Sizes.{Free, Name, Variable, Size, Built}
use Rattle.sized_types.specs.Standing.{stands, has_hole, stands_told, has_told}
use Rattle.fut_sizes.specs.Scopes.{i64_size}

-- ---- names in scope

pub record Context : Type 0 where
  -- the sized type of a name, and that of a general one
  pub sizes : ℕ → Option Size
  pub schemes : ℕ → Option Size
  -- the type variables that each use of a general name chooses
  pub general : ℕ → Variable → Bool
  -- what can be found when the program runs
  pub finds : Free → Bool
  pub finds_types : Variable → Bool

-- outside of all definitions
abbrev pub nothing_known : Context
nothing_known = record { sizes = λ b. None; schemes = λ b. None; general = λ b v. false; finds = λ d. false; finds_types = λ v. false }

abbrev pub is_name : ℕ → Free → Bool
is_name b (Name c) = nat_eq b c
is_name b d = false

-- a whole number: what is bound to one is found as a size
abbrev pub is_number : Size → Bool
is_number (Built (head.Scalar (scalar.Int t)) ts) = true
is_number t = false

abbrev pub with_name : ℕ → Size → Context → Context
with_name b t G = record { sizes = λ c. cond (nat_eq b c) (Some t) (G.sizes c); schemes = λ c. cond (nat_eq b c) None (G.schemes c); general = G.general; finds = λ d. cond (is_name b d) (is_number t) (G.finds d); finds_types = G.finds_types }

-- the name of a size has no value of its own: it is found where it stands
abbrev pub with_size_name : ℕ → Context → Context
with_size_name b G = record { sizes = λ c. cond (nat_eq b c) (Some i64_size) (G.sizes c); schemes = λ c. cond (nat_eq b c) None (G.schemes c); general = G.general; finds = G.finds; finds_types = G.finds_types }

-- a general name that is bound to a number is found as a size too: a definition has one value
abbrev pub with_scheme : ℕ → Size → (Variable → Bool) → Context → Context
with_scheme b t new G = record { sizes = λ c. cond (nat_eq b c) None (G.sizes c); schemes = λ c. cond (nat_eq b c) (Some t) (G.schemes c); general = λ c. cond (nat_eq b c) new (G.general c); finds = λ d. cond (is_name b d) (is_number t) (G.finds d); finds_types = G.finds_types }

-- a pattern took a value of this sized type
abbrev pub with_entered : Size → Context → Context
with_entered t G = record { sizes = G.sizes; schemes = G.schemes; general = G.general; finds = λ d. stands t d || (stands_told t d || G.finds d); finds_types = λ v. has_hole t v || (has_told t v || G.finds_types v) }

abbrev pub if_some : Option ℕ → Option Size → Option Size
if_some (Some i) o = Some i64_size
if_some None o = o

-- names that are sizes, which have a position in a frame
abbrev pub with_positions : (Free → Option ℕ) → Context → Context
with_positions position G = record { sizes = λ c. if_some (position (Name c)) (G.sizes c); schemes = G.schemes; general = G.general; finds = G.finds; finds_types = G.finds_types }

abbrev pub with_size_names : List ℕ → Context → Context
with_size_names [] G = G
with_size_names (b ∷ bs) G = with_size_names bs (with_size_name b G)

module _ (s : ℕ → Size) where
  -- a pattern at a node took a value of its node's sized type, and so did each of its parts; a name is of the type of its own node
  abbrev mutual
    pub with_pattern : FlatPattern → ℕ → Context → Context
    with_pattern (Bound_pattern b) q G = with_name b.0 (s q) (with_entered (s q) G)
    with_pattern Wild_pattern q G = with_entered (s q) G
    with_pattern (Tuple_pattern ps) q G = with_all_patterns ps (1 + q) (with_entered (s q) G)
    with_pattern (Record_pattern fs ps) q G = with_all_patterns ps (1 + q) (with_entered (s q) G)
    with_pattern (Typed_pattern p e) q G = with_pattern p q G

    pub with_all_patterns : Patterns Ref BindId → ℕ → Context → Context
    with_all_patterns no_pattern q G = G
    with_all_patterns (pattern_and p ps) q G = with_all_patterns ps (q + pattern_numbers p) (with_pattern p q G)
