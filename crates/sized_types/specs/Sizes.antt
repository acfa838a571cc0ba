-- Sized types: types with a size for each level of their arrays (Futhark Language Reference, "Size Types"). A function type
-- binds sizes, by a frame: first those that its caller chooses, then the value of its argument, then those that are met when
-- it runs. A bound size is told by how many function types stand between and by its position in the frame; so no name is
-- ever captured.
use Rattle.std.specs.Prelude.{ℕ, suc, ◌+◌, Bool, true, false, cond, nat_eq, Option, Some, None}
use Rattle.fut_types.specs.declared.Kind.{Kind}
use Rattle.fut_types.specs.declared.Head.{Head}
use Rattle.fut_types.specs.declared.Head.TheVariants as head
use Rattle.fut_types.specs.Types.{Ty, Var, Made, Tys, none, more, fun_ty}

-- a size by itself
pub data Free : Type 0 where
  Const : ℕ → Free
  -- the value of a name
  Name : ℕ → Free
  -- of the parameter at a node, a level whose size is not written: it agrees with itself alone
  Own : ℕ → ℕ → Free
  -- met at a node when that runs
  Unknown : ℕ → ℕ → Free
  -- one that a function's caller chooses, while the function is applied: it takes the first size that it meets
  Slot : ℕ → Free

pub data Dim : Type 0 where
  At : Free → Dim
  -- how many function types stand between, and the position in the frame
  Bound : ℕ → ℕ → Dim

-- a type variable: one that inference left open, or a type parameter that the program writes
pub data Variable : Type 0 where
  Inferred : ℕ → Variable
  Written : ℕ → Kind → Variable

mutual
  pub data Size : Type 0 where
    Hole : Variable → Size
    -- what the use at a node of a generalised name chooses for a variable, which is of this type, while the name is applied:
    -- it takes the first sized type that it meets
    Open : ℕ → Variable → Ty → Size
    Level : Dim → Size → Size
    -- a scalar, a tuple, a record, a type of its own
    Built : Head → Sizes → Size
    -- how many sizes the caller chooses: the position behind them is the argument's value, those behind it are met
    Fun : ℕ → Size → Size → Size

  pub data Sizes : Type 0 where
    no_size : Sizes
    size_and : Size → Sizes → Sizes

-- ---- a sized type without its sizes is a type

abbrev pub variable_ty : Variable → Ty
variable_ty (Inferred v) = Var v
variable_ty (Written b k) = Made (head.Rigid b k) none

unfoldable mutual
  pub erased : Size → Ty
  erased (Hole v) = variable_ty v
  erased (Open n v u) = u
  erased (Level d t) = Made head.Array (more (erased t) none)
  erased (Built h ts) = Made h (all_erased ts)
  erased (Fun k p r) = fun_ty (erased p) (erased r)

  pub all_erased : Sizes → Tys
  all_erased no_size = none
  all_erased (size_and t ts) = more (erased t) (all_erased ts)

-- ---- sizes agree where they are one constant, one name, one size of its own, or one unknown of one node

unfoldable pub is_free : Free → Free → Bool
is_free (Const c) (Const d) = nat_eq c d
is_free (Name b) (Name c) = nat_eq b c
is_free (Own n i) (Own m j) = cond (nat_eq n m) (nat_eq i j) false
is_free (Unknown n i) (Unknown m j) = cond (nat_eq n m) (nat_eq i j) false
is_free (Slot i) (Slot j) = nat_eq i j
is_free d e = false

unfoldable pub is_dim : Dim → Dim → Bool
is_dim (At d) (At e) = is_free d e
is_dim (Bound j i) (Bound k l) = cond (nat_eq j k) (nat_eq i l) false
is_dim d e = false

-- two variables are one where they have one number
abbrev pub is_variable : Variable → Variable → Bool
is_variable (Inferred v) (Inferred w) = nat_eq v w
is_variable (Written b k) (Written c l) = nat_eq b c
is_variable v w = false

-- ---- levels

-- how many levels a sized type has outside of functions; they are counted as they are read
unfoldable mutual
  pub levels : Size → ℕ
  levels (Hole v) = 0
  levels (Open n v u) = 0
  levels (Level d t) = 1 + levels t
  levels (Built h ts) = all_levels ts
  levels (Fun k p r) = 0

  pub all_levels : Sizes → ℕ
  all_levels no_size = 0
  all_levels (size_and t ts) = levels t + all_levels ts

-- each dim replaced; it is told how many function types are around it
unfoldable mutual
  pub replaced : (ℕ → Dim → Dim) → ℕ → Size → Size
  replaced g j (Hole v) = Hole v
  replaced g j (Open n v u) = Open n v u
  replaced g j (Level d t) = Level (g j d) (replaced g j t)
  replaced g j (Built h ts) = Built h (all_replaced g j ts)
  replaced g j (Fun k p r) = Fun k (replaced g (suc j) p) (replaced g (suc j) r)

  pub all_replaced : (ℕ → Dim → Dim) → ℕ → Sizes → Sizes
  all_replaced g j no_size = no_size
  all_replaced g j (size_and t ts) = size_and (replaced g j t) (all_replaced g j ts)

-- sizes by themselves replaced
abbrev pub renaming : (Free → Free) → ℕ → Dim → Dim
renaming ρ j (At d) = At (ρ d)
renaming ρ j (Bound k i) = Bound k i

abbrev pub renamed : (Free → Free) → Size → Size
renamed ρ t = replaced (renaming ρ) 0 t

-- the nearest frame's sizes given, in the parameter or the result of a function type
abbrev pub given : (ℕ → Free) → ℕ → Dim → Dim
given δ j (At d) = At d
given δ j (Bound k i) = cond (nat_eq (suc k) j) (At (δ i)) (Bound k i)

abbrev pub opened : (ℕ → Free) → Size → Size
opened δ t = replaced (given δ) 1 t

-- and back: the sizes that have a position are bound in the frame
abbrev pub placed : ℕ → Free → Option ℕ → Dim
placed j d None = At d
placed j d (Some i) = Bound j i

abbrev pub binding : (Free → Option ℕ) → ℕ → Dim → Dim
binding position j (At d) = placed j d (position d)
binding position j (Bound k i) = Bound k i

-- of what is to be the parameter or the result of a function type
abbrev pub bound : (Free → Option ℕ) → Size → Size
bound position t = replaced (binding position) 0 t

-- ---- whether a dim of some property stands in a sized type

unfoldable mutual
  pub has : (Dim → Bool) → Size → Bool
  has q (Hole v) = false
  has q (Open n v u) = false
  has q (Level d t) = cond (q d) true (has q t)
  has q (Built h ts) = some_has q ts
  has q (Fun k p r) = cond (has q p) true (has q r)

  pub some_has : (Dim → Bool) → Sizes → Bool
  some_has q no_size = false
  some_has q (size_and t ts) = cond (has q t) true (some_has q ts)

-- in the parameter part of a function type
unfoldable mutual
  pub takes : (Dim → Bool) → Size → Bool
  takes q (Hole v) = false
  takes q (Open n v u) = false
  takes q (Level d t) = takes q t
  takes q (Built h ts) = some_takes q ts
  takes q (Fun k p r) = cond (has q p) true (takes q r)

  pub some_takes : (Dim → Bool) → Sizes → Bool
  some_takes q no_size = false
  some_takes q (size_and t ts) = cond (takes q t) true (some_takes q ts)
