-- What a sizing and the values that were entered tell of sizes (Futhark Language Reference, "Size Types"): the shape of data of
-- a sized type, and what sizes and type variables are worth where data of a sized type has a shape.
use Rattle.std.specs.Prelude.{ℕ, zero, suc, Bool, true, false, ◌&&◌, cond, nat_eq, List, [], ◌∷◌, Option, Some, None, ℤ, pos, negsuc}
use Rattle.fut_scalar.specs.declared.scalar.IntType.{IntType}
use Rattle.fut_scalar.specs.declared.scalar.ScalarType.TheVariants as sort
use Rattle.fut_ast.specs.Sorts.{Text}
use Rattle.fut_types.specs.declared.Head.{Head}
use Rattle.fut_types.specs.declared.Head.TheVariants as head
use Rattle.fut_value.specs.Data.{Shape, Scalar_shape, Tuple_shape, Record_shape, Array_shape, Unmet_shape, Shapes, no_shape, shape_and, Named_shapes, no_named_shape, named_shape_and}
use Rattle.sized_types.specs.Sizes.{Free, Const, Name, Dim, At, Bound, Variable, Size, Hole, Open, Level, Built, Fun, Sizes, no_size, size_and}
use Rattle.sized_types.specs.Standing.{is_known, gives_chosen}
use Rattle.fut_meaning.specs.Accessors.{count_of}
use Rattle.fut_meaning.specs.Places.{size_place, type_place, on_place, size_of, at_path, field_shape, or_unmet}
use Rattle.fut_meaning.specs.Values.{is_before}

-- what a sizing tells of a program
pub record Sizing : Type 0 where
  -- the sized type of each node
  pub size_at : ℕ → Size
  -- the node of the pattern that binds a name
  pub home : ℕ → ℕ
  -- the names of the fields of a record type, by its number, in the order of its parts
  pub fields : ℕ → List Text
  -- whether a number is that of a size's name
  pub is_size : ℕ → Bool
  -- the number of the size that the use of a name at a node stands for, where it stands for one: a source's names have no numbers
  pub used : ℕ → Option ℕ

-- what a typing tells of a program, and a sizing where there is one
pub record Told : Type 0 where
  -- the type of an integer without a suffix, by the number of its node in the typing
  pub integer_at : ℕ → IntType
  pub sizes : Option Sizing

-- types alone: nothing is told of sizes
abbrev pub unsized : (ℕ → IntType) → Told
unsized integer_at = record { integer_at = integer_at; sizes = None }

-- ---- the shape of data of a sized type, where sizes are these numbers and type variables stand for these shapes

abbrev pub with_named : Text → Shape → Named_shapes → Named_shapes
with_named f h no_named_shape = named_shape_and f h no_named_shape
with_named f h (named_shape_and g k hs) = cond (is_before f g) (named_shape_and f h (named_shape_and g k hs)) (named_shape_and g k (with_named f h hs))

-- in order of the names
abbrev pub named_shapes : List Text → Shapes → Named_shapes
named_shapes [] hs = no_named_shape
named_shapes (f ∷ fs) no_shape = no_named_shape
named_shapes (f ∷ fs) (shape_and h hs) = with_named f h (named_shapes fs hs)

-- nothing is said of a type of its own
abbrev pub headed : Head → Shapes → (ℕ → Named_shapes) → Shape
headed (head.Scalar s) hs named = Scalar_shape s
headed head.Tuple hs named = Tuple_shape hs
headed (head.Record n) hs named = Record_shape (named n)
headed h hs named = Unmet_shape

unfoldable mutual
  pub told_shape : (ℕ → List Text) → (Dim → ℕ) → (Variable → Shape) → Size → Shape
  told_shape fields number type (Hole v) = type v
  told_shape fields number type (Open n v u) = Unmet_shape
  told_shape fields number type (Level d t) = Array_shape (number d) (told_shape fields number type t)
  told_shape fields number type (Built h ts) = headed h (told_shapes fields number type ts) (λ n. named_shapes (fields n) (told_shapes fields number type ts))
  told_shape fields number type (Fun k p r) = Unmet_shape

  pub told_shapes : (ℕ → List Text) → (Dim → ℕ) → (Variable → Shape) → Sizes → Shapes
  told_shapes fields number type no_size = no_shape
  told_shapes fields number type (size_and t ts) = shape_and (told_shape fields number type t) (told_shapes fields number type ts)

-- in the result of a function type, whose parameter's data has a shape: the sizes that the caller chooses stand in that
abbrev pub pushed : (ℕ → List Text) → Size → Shape → (Dim → ℕ) → Dim → ℕ
pushed fields p h number (At d) = number (At d)
pushed fields p h number (Bound zero i) = on_place (size_place fields (Bound 0 i) p) (λ q. size_of (at_path q h)) 0
pushed fields p h number (Bound (suc j) i) = number (Bound j i)

abbrev pub typed_by : (ℕ → List Text) → Size → Shape → (Variable → Shape) → Variable → Shape
typed_by fields p h type v = on_place (type_place fields v p) (λ q. at_path q h) (type v)

-- the shape of what a function of a sized type gives for arguments of these shapes
unfoldable pub result_shape : (ℕ → List Text) → (Dim → ℕ) → (Variable → Shape) → Size → List Shape → Shape
result_shape fields number type t [] = told_shape fields number type t
result_shape fields number type (Fun k p r) (h ∷ hs) = result_shape fields (pushed fields p h number) (typed_by fields p h type) r hs
result_shape fields number type t (h ∷ hs) = Unmet_shape

-- ---- what is found: the integers that sizes are worth, and what type variables stand for

pub record Found : Type 0 where
  pub size : Free → Option ℤ
  pub type : Variable → Option Shape

abbrev pub nothing_found : Found
nothing_found = record { size = λ d. None; type = λ v. None }

-- a constant is worth itself
abbrev pub worth : Found → Dim → Option ℤ
worth W (At (Const c)) = Some (pos c)
worth W (At d) = W.size d
worth W (Bound j i) = None

-- as many rows as an integer says; what is found nowhere counts 0
abbrev pub count : Option ℤ → ℕ
count (Some n) = count_of n
count None = 0

abbrev pub number : Found → Dim → ℕ
number W d = count (worth W d)

abbrev pub shape_found : Found → Variable → Shape
shape_found W v = or_unmet (W.type v)

-- data of a sized type has a shape: of what has a place in that type, what stands there
abbrev pub with_data : (ℕ → List Text) → Size → Shape → Found → Found
with_data fields t h W = record { size = λ d. on_place (size_place fields (At d) t) (λ p. Some (pos (size_of (at_path p h)))) (W.size d); type = λ v. on_place (type_place fields v t) (λ p. Some (at_path p h)) (W.type v) }

-- the shape of a function's parameter where each size that the caller chooses is 0
abbrev pub chosen_none : Dim → ℕ
chosen_none (At (Const c)) = c
chosen_none d = 0

abbrev pub chosen_shape : (ℕ → List Text) → Size → Shape
chosen_shape fields p = told_shape fields chosen_none (λ v. Unmet_shape) p

abbrev pub if_told : Bool → Found → Found → Found
if_told true told W = told
if_told false told W = W

-- a function of a sized type tells this of its results
unfoldable pub with_results : (ℕ → List Text) → Size → (List Shape → Shape) → Found → Found
with_results fields (Fun k p r) tell W = if_told (is_known p && gives_chosen k r) (with_data fields r (tell (chosen_shape fields p ∷ [])) W) W
with_results fields t tell W = W

abbrev pub is_number : Size → Bool
is_number (Built (head.Scalar (sort.Int t)) ts) = true
is_number t = false

abbrev pub named_worth : {A : Type 0} → (ℕ → ℕ) → ℕ → Size → A → Free → A → A
named_worth home q t n (Name b) o = cond (nat_eq (home b) q && is_number t) n o
named_worth home q t n d o = o

-- the name that a pattern of a sized type binds at a node is worth this, where it is a number
abbrev pub with_worth : (ℕ → ℕ) → ℕ → Size → Option ℤ → Found → Found
with_worth home q t n W = record { size = λ d. named_worth home q t n d (W.size d); type = W.type }

-- ---- whether data has the sizes of a type; a size that is not found agrees with each

abbrev pub is_integer : ℤ → ℕ → Bool
is_integer (pos m) n = nat_eq m n
is_integer (negsuc m) n = false

abbrev pub agrees : Option ℤ → ℕ → Bool
agrees (Some z) n = is_integer z n
agrees None n = true

abbrev pub array_has : Option ℤ → (Shape → Bool) → Shape → Bool
array_has z rows (Array_shape n h) = agrees z n && rows h
array_has z rows Unmet_shape = agrees z 0 && rows Unmet_shape
array_has z rows h = true

abbrev pub head_has : Head → (Shapes → Bool) → (ℕ → Named_shapes → Bool) → Shape → Bool
head_has head.Tuple parts named (Tuple_shape hs) = parts hs
head_has (head.Record n) parts named (Record_shape hs) = named n hs
head_has h parts named k = true

abbrev pub if_field : Option Shape → (Shape → Bool) → Bool
if_field (Some h) test = test h
if_field None test = true

unfoldable mutual
  pub has_sizes : (ℕ → List Text) → Found → Size → Shape → Bool
  has_sizes fields W (Hole v) h = true
  has_sizes fields W (Open n v u) h = true
  has_sizes fields W (Level d t) h = array_has (worth W d) (has_sizes fields W t) h
  has_sizes fields W (Built k ts) h = head_has k (have_sizes fields W ts) (λ n. named_sizes fields W (fields n) ts) h
  has_sizes fields W (Fun k p r) h = true

  pub have_sizes : (ℕ → List Text) → Found → Sizes → Shapes → Bool
  have_sizes fields W no_size hs = true
  have_sizes fields W (size_and t ts) no_shape = true
  have_sizes fields W (size_and t ts) (shape_and h hs) = has_sizes fields W t h && have_sizes fields W ts hs

  pub named_sizes : (ℕ → List Text) → Found → List Text → Sizes → Named_shapes → Bool
  named_sizes fields W fs no_size hs = true
  named_sizes fields W [] (size_and t ts) hs = true
  named_sizes fields W (f ∷ fs) (size_and t ts) hs = if_field (field_shape f hs) (has_sizes fields W t) && named_sizes fields W fs ts hs
