-- What a function value tells of its results without running, and what is found in the values that were entered: one
-- recursion on values and environments. A size is what its name is worth, or else where it stands in the sized type of
-- something that was entered, in that value's shape, or in what that function tells.
use Rattle.std.specs.Prelude.{ℕ, ◌+◌, ◌-◌, Bool, true, false, cond, List, [], ◌∷◌, map, Option, Some, None, ℤ, pos}
use Rattle.fut_scalar.specs.Integers.{integer_of}
use Rattle.fut_scalar.specs.declared.scalar.IntType.TheVariants.{I32, I64}
use Rattle.fut_scalar.specs.declared.scalar.Scalar.{Scalar}
use Rattle.fut_scalar.specs.declared.scalar.Scalar.TheVariants as scalar
use Rattle.fut_scalar.specs.declared.scalar.ScalarType.TheVariants as sort
use Rattle.fut_arithmetic.specs.Types.{type_of}
use Rattle.fut_flat.specs.declared.prim.Primitive.{Primitive}
use Rattle.fut_flat.specs.declared.prim.Primitive.TheVariants as prim
use Rattle.fut_flat.specs.Numbers.{pattern_numbers, all_pattern_numbers}
use Rattle.fut_flat.specs.Terms.{Patterns, no_pattern, pattern_and}
use Rattle.fut_value.specs.Data.{Shape, Scalar_shape, Tuple_shape, Record_shape, Array_shape, Unmet_shape, Shapes, no_shape, shape_and, Named_shapes, no_named_shape, named_shape_and, Datum, Array_datum, shape_of}
use Rattle.fut_meaning.specs.Values.{Value, Scalar_value, Tuple_value, Record_value, Array_value, Closure, Primitive_value, Values, no_value, value_and, Fields, no_field, field_and, Env, base, bind, entered}
use Rattle.fut_meaning.specs.Places.{row_of, size_of}
use Rattle.fut_meaning.specs.Found.{Sizing, Found, nothing_found, result_shape, number, shape_found, count, with_data, with_results, with_worth}

-- ---- primitives

-- data that a primitive has as an argument: its shape, and what it is worth as a size
abbrev pub Argument : Type 0
Argument = Shape × Option ℤ

-- what the result is: of a shape, or so many rows of what its function tells for arguments of these shapes
pub data Telling : Type 0 where
  Of_shape : Shape → Telling
  Of_rows : ℕ → List Shape → Telling

abbrev pub by_function : (List Shape → Shape) → Telling → Shape
by_function f (Of_shape h) = h
by_function f (Of_rows n hs) = Array_shape n (f hs)

abbrev pub argument_row : Argument → Shape
argument_row a = row_of a.0

abbrev pub same_shape : List Argument → Telling
same_shape (a ∷ []) = Of_shape a.0
same_shape bs = Of_shape Unmet_shape

abbrev pub mapped_rows : List Argument → Telling
mapped_rows [] = Of_shape Unmet_shape
mapped_rows (a ∷ bs) = Of_rows (size_of a.0) (map argument_row (a ∷ bs))

-- of the first argument, of the last one, and of the rows of the only one
abbrev pub first_shape : List Argument → Telling
first_shape [] = Of_shape Unmet_shape
first_shape (a ∷ bs) = Of_shape a.0

abbrev pub last_shape : List Argument → Telling
last_shape [] = Of_shape Unmet_shape
last_shape (a ∷ []) = Of_shape a.0
last_shape (a ∷ b ∷ bs) = last_shape (b ∷ bs)

abbrev pub row_shape : List Argument → Telling
row_shape (a ∷ []) = Of_shape (row_of a.0)
row_shape bs = Of_shape Unmet_shape

abbrev pub all_shapes : List Shape → Shapes
all_shapes [] = no_shape
all_shapes (h ∷ hs) = shape_and h (all_shapes hs)

abbrev pub zipped_shape : List Argument → Telling
zipped_shape [] = Of_shape Unmet_shape
zipped_shape (a ∷ bs) = Of_shape (Array_shape (size_of a.0) (Tuple_shape (all_shapes (map argument_row (a ∷ bs)))))

abbrev pub arrays_of : ℕ → Shapes → Shapes
arrays_of n no_shape = no_shape
arrays_of n (shape_and h hs) = shape_and (Array_shape n h) (arrays_of n hs)

abbrev pub parts_of : ℕ → Shape → Shape
parts_of n (Tuple_shape hs) = Tuple_shape (arrays_of n hs)
parts_of n h = Unmet_shape

abbrev pub unzipped_shape : List Argument → Telling
unzipped_shape (a ∷ []) = Of_shape (parts_of (size_of a.0) (row_of a.0))
unzipped_shape bs = Of_shape Unmet_shape

abbrev pub replicated : List Argument → Telling
replicated (n ∷ a ∷ []) = Of_shape (Array_shape (count n.1) a.0)
replicated bs = Of_shape Unmet_shape

abbrev pub counted : List Argument → Telling
counted (n ∷ []) = Of_shape (Array_shape (count n.1) (Scalar_shape (sort.Int I64)))
counted bs = Of_shape Unmet_shape

abbrev pub tabulated : List Argument → Telling
tabulated (n ∷ []) = Of_rows (count n.1) (Scalar_shape (sort.Int I64) ∷ [])
tabulated bs = Of_shape Unmet_shape

abbrev pub indices_shape : List Argument → Telling
indices_shape (a ∷ []) = Of_shape (Array_shape (size_of a.0) (Scalar_shape (sort.Int I64)))
indices_shape bs = Of_shape Unmet_shape

abbrev pub unflattened : List Argument → Telling
unflattened (n ∷ m ∷ a ∷ []) = Of_shape (Array_shape (count n.1) (Array_shape (count m.1) (row_of a.0)))
unflattened bs = Of_shape Unmet_shape

abbrev pub transposed : List Argument → Telling
transposed (a ∷ []) = Of_shape (Array_shape (size_of (row_of a.0)) (Array_shape (size_of a.0) (row_of (row_of a.0))))
transposed bs = Of_shape Unmet_shape

-- one line a primitive, from its type; nothing is told of what it meets when it runs
unfoldable pub primitive_tells : Primitive → List Argument → Telling
primitive_tells prim.Map bs = mapped_rows bs
primitive_tells prim.Map2 bs = mapped_rows bs
primitive_tells prim.Map3 bs = mapped_rows bs
primitive_tells prim.Map4 bs = mapped_rows bs
primitive_tells prim.Map5 bs = mapped_rows bs
primitive_tells prim.Reduce bs = first_shape bs
primitive_tells prim.ReduceComm bs = first_shape bs
primitive_tells prim.Scan bs = last_shape bs
primitive_tells prim.Scatter bs = first_shape bs
primitive_tells prim.ReduceByIndex bs = first_shape bs
primitive_tells prim.Zip bs = zipped_shape bs
primitive_tells prim.Zip3 bs = zipped_shape bs
primitive_tells prim.Unzip bs = unzipped_shape bs
primitive_tells prim.Unzip3 bs = unzipped_shape bs
primitive_tells prim.Iota bs = counted bs
primitive_tells prim.Replicate bs = replicated bs
primitive_tells prim.Tabulate bs = tabulated bs
primitive_tells prim.Indices bs = indices_shape bs
primitive_tells prim.Length bs = Of_shape (Scalar_shape (sort.Int I64))
primitive_tells prim.Null bs = Of_shape (Scalar_shape sort.Bool)
primitive_tells prim.Head bs = row_shape bs
primitive_tells prim.Last bs = row_shape bs
primitive_tells prim.Reverse bs = same_shape bs
primitive_tells prim.Rotate bs = last_shape bs
primitive_tells prim.Unflatten bs = unflattened bs
primitive_tells prim.Transpose bs = transposed bs
primitive_tells prim.Copy bs = same_shape bs
primitive_tells (prim.Convert to from) bs = Of_shape (Scalar_shape to)
primitive_tells (prim.Min t) bs = Of_shape (Scalar_shape (sort.Int t))
primitive_tells (prim.Max t) bs = Of_shape (Scalar_shape (sort.Int t))
primitive_tells (prim.Abs t) bs = Of_shape (Scalar_shape (sort.Int t))
primitive_tells (prim.Popc t) bs = Of_shape (Scalar_shape (sort.Int I32))
primitive_tells (prim.Fold k t) bs = Of_shape (Scalar_shape (sort.Int t))
primitive_tells p bs = Of_shape Unmet_shape

-- ---- values

abbrev pub scalar_worth : Scalar → Option ℤ
scalar_worth (scalar.Int t n) = Some (integer_of t n)
scalar_worth (scalar.Bool b) = None

module _ {P B S : Type 0} where
  -- what a value is worth as a size
  abbrev pub worth_of : Value P B S → Option ℤ
  worth_of (Scalar_value s) = scalar_worth s
  worth_of v = None

  -- the shape of a value; that of a function is not known
  unfoldable mutual
    pub value_shape : Value P B S → Shape
    value_shape (Scalar_value s) = Scalar_shape (type_of s)
    value_shape (Tuple_value vs) = Tuple_shape (value_shapes vs)
    value_shape (Record_value fs) = Record_shape (field_shapes fs)
    value_shape (Array_value row ds) = shape_of (Array_datum row ds)
    value_shape (Closure ps body lo env) = Unmet_shape
    value_shape (Primitive_value p at vs) = Unmet_shape

    pub value_shapes : Values P B S → Shapes
    value_shapes no_value = no_shape
    value_shapes (value_and v vs) = shape_and (value_shape v) (value_shapes vs)

    pub field_shapes : Fields P B S → Named_shapes
    field_shapes no_field = no_named_shape
    field_shapes (field_and f v fs) = named_shape_and f (value_shape v) (field_shapes fs)

  abbrev pub is_function : Value P B S → Bool
  is_function (Closure ps body lo env) = true
  is_function (Primitive_value p at vs) = true
  is_function v = false

  -- the arguments of a primitive that are data, and those that are still to come
  unfoldable pub data_told : Values P B S → List Argument → List Argument
  data_told no_value bs = bs
  data_told (value_and v vs) bs = cond (is_function v) (data_told vs bs) ((value_shape v, worth_of v) ∷ data_told vs bs)

abbrev pub to_come : List Shape → List Argument
to_come [] = []
to_come (h ∷ hs) = (h, None) ∷ to_come hs

-- the nodes of the patterns that are left
abbrev pub nodes_from : {P B : Type 0} → Patterns P B → ℕ → List ℕ
nodes_from no_pattern q = []
nodes_from (pattern_and p ps) q = q ∷ nodes_from ps (q + pattern_numbers p)

module _ (Z : Sizing) where
  -- the shape of what a function gives whose parameters' patterns stand at these nodes, and whose body's first is `lo`
  unfoldable pub closure_tells : List ℕ → ℕ → List Shape → Found → Shape
  closure_tells [] lo hs W = result_shape Z.fields (number W) (shape_found W) (Z.size_at lo) hs
  closure_tells (q ∷ qs) lo [] W = Unmet_shape
  closure_tells (q ∷ qs) lo (h ∷ hs) W = closure_tells qs lo hs (with_data Z.fields (Z.size_at q) h W)

  module _ {P B S : Type 0} where
    unfoldable mutual
      -- what is found under these names
      pub found : Env P B S → Found
      found (base s) = nothing_found
      found (bind b v env) = found env
      found (entered q v env) = with_worth Z.home q (Z.size_at q) (worth_of v) (with_data Z.fields (Z.size_at q) (value_shape v) (with_results Z.fields (Z.size_at q) (tells v) (found env)))

      -- the shape of what a function gives for arguments of these shapes
      pub tells : Value P B S → List Shape → Shape
      tells (Scalar_value s) hs = Unmet_shape
      tells (Tuple_value vs) hs = Unmet_shape
      tells (Record_value fs) hs = Unmet_shape
      tells (Array_value row ds) hs = Unmet_shape
      tells (Closure ps body lo env) hs = closure_tells (nodes_from ps (lo - all_pattern_numbers ps)) lo hs (found env)
      tells (Primitive_value p at vs) hs = by_function (function_tells vs) (primitive_tells p (data_told vs (to_come hs)))

      -- by the one function among the arguments of a primitive
      pub function_tells : Values P B S → List Shape → Shape
      function_tells no_value hs = Unmet_shape
      function_tells (value_and v vs) hs = cond (is_function v) (tells v hs) (function_tells vs hs)

-- the shapes of the arguments of a primitive's function, where it has these data
abbrev pub rows_for : Primitive → List Datum → List Shape
rows_for prim.Tabulate ds = Scalar_shape (sort.Int I64) ∷ []
rows_for p ds = map (λ d. row_of (shape_of d)) ds
