-- Which sizes and type variables stand in a sized type outside of functions, and what a function of data tells of its results.
use Rattle.std.specs.Prelude.{ℕ, zero, suc, Bool, true, false, ◌||◌, ◌&&◌, nat_lt}
use Rattle.sized_types.specs.Sizes.{Free, Const, Dim, At, Bound, Variable, is_variable, Size, Hole, Open, Level, Built, Fun, Sizes, no_size, size_and, is_dim}

-- ---- what stands in data

unfoldable mutual
  pub stands : Size → Free → Bool
  stands (Level d t) x = is_dim d (At x) || stands t x
  stands (Built h ts) x = some_stands ts x
  stands t x = false

  pub some_stands : Sizes → Free → Bool
  some_stands no_size x = false
  some_stands (size_and t ts) x = stands t x || some_stands ts x

unfoldable mutual
  pub has_hole : Size → Variable → Bool
  has_hole (Hole w) v = is_variable v w
  has_hole (Level d t) v = has_hole t v
  has_hole (Built h ts) v = some_hole ts v
  has_hole t v = false

  pub some_hole : Sizes → Variable → Bool
  some_hole no_size v = false
  some_hole (size_and t ts) v = has_hole t v || some_hole ts v

-- ---- what a function of data tells of its results: the shape of what it takes is known by itself, and what it gives names
-- nothing that is met when it runs

abbrev pub is_chosen : Dim → Bool
is_chosen (At (Const c)) = true
is_chosen (At d) = false
is_chosen (Bound zero i) = true
is_chosen (Bound (suc j) i) = false

unfoldable mutual
  pub is_known : Size → Bool
  is_known (Level d t) = is_chosen d && is_known t
  is_known (Built h ts) = all_known ts
  is_known t = false

  pub all_known : Sizes → Bool
  all_known no_size = true
  all_known (size_and t ts) = is_known t && all_known ts

abbrev pub is_low : ℕ → Dim → Bool
is_low k (Bound zero i) = nat_lt i k
is_low k d = true

unfoldable mutual
  pub gives_chosen : ℕ → Size → Bool
  gives_chosen k (Hole v) = true
  gives_chosen k (Open n v u) = false
  gives_chosen k (Level d t) = is_low k d && gives_chosen k t
  gives_chosen k (Built h ts) = all_chosen k ts
  gives_chosen k (Fun l p r) = false

  pub all_chosen : ℕ → Sizes → Bool
  all_chosen k no_size = true
  all_chosen k (size_and t ts) = gives_chosen k t && all_chosen k ts

abbrev pub stands_told : Size → Free → Bool
stands_told (Fun k p r) d = is_known p && (gives_chosen k r && stands r d)
stands_told t d = false

abbrev pub has_told : Size → Variable → Bool
has_told (Fun k p r) v = is_known p && (gives_chosen k r && has_hole r v)
has_told t v = false
