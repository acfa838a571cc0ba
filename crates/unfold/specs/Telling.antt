-- What the meaning finds of sizes in values that were entered, and what it lets functions tell of their results, found in what
-- is known of them before the program runs: the same search on rows in place of shapes. What a function tells of its results is
-- kept when it is entered, and of what is told a part is taken at once, so that no row is told twice and none grows with the
-- functions that it was found through.
use Rattle.std.specs.Prelude.{ℕ, zero, suc, ◌-◌, Bool, true, false, ◌&&◌, cond, nat_eq, List, [], ◌∷◌, map, Option, Some, None}
use Rattle.std.specs.Str.{bytes_eq}
use Rattle.fut_scalar.specs.declared.scalar.IntType.TheVariants.{I32, I64}
use Rattle.fut_scalar.specs.declared.scalar.ScalarType.TheVariants as sort
use Rattle.fut_ast.specs.Sorts.{Text}
use Rattle.fut_flat.specs.declared.prim.Primitive.{Primitive}
use Rattle.fut_flat.specs.declared.prim.Primitive.TheVariants as prim
use Rattle.fut_flat.specs.Numbers.{all_pattern_numbers}
use Rattle.fut_types.specs.declared.Head.{Head}
use Rattle.fut_types.specs.declared.Head.TheVariants as head
use Rattle.sized_types.specs.Sizes.{Free, Const, Name, Dim, At, Bound, Variable, Size, Hole, Open, Level, Built, Fun, Sizes, no_size, size_and}
use Rattle.sized_types.specs.Standing.{is_known, gives_chosen}
use Rattle.fut_meaning.specs.Found.{Sizing, is_number}
use Rattle.fut_meaning.specs.Places.{Path, Whole, In_rows, In_part, In_field, size_place, type_place, on_place}
use Rattle.fut_meaning.specs.Taken.{tells_size, takes_size, own_size, is_outer, outer_size, on_size}
use Rattle.fut_meaning.specs.Telling.{nodes_from}
use Rattle.fut_meaning.specs.Values.{is_before}
use Rattle.fut_blocks.specs.declared.block.Atom.{Atom}
use Rattle.fut_blocks.specs.Rows.{Row, Unknown_row, Scalar_row, Tuple_row, Record_row, Array_row, Shape_of, Rows_of, Part_of, Field_of, Unzipped_row, Rows, no_row, row_and, Named_rows, no_named_row, named_row_and, Extent, Nowhere, Exactly, Worth_of, Length_of, Size_test, Any_size, Array_test, Tuple_test, Record_test, Size_tests, no_test, test_and, Named_tests, no_named_test, named_test_and, rows}
use Rattle.unfold.specs.Knowns.{Known, Scalar_known, Tuple_known, Record_known, Function_known, Primitive_known, Knowns, no_known, known_and, Known_fields, no_known_field, known_field_and, Scope, seeing, names_in, entered_in, Entered, no_entry, entry}

-- ---- what stands at a place of data that has a shape; of what is made of parts, the part itself

abbrev pub rows_in : Row → Row
rows_in (Array_row e r) = r
rows_in r = Rows_of r

-- the parts of one tuple or record that is not there tell nothing
abbrev pub part_at : ℕ → Rows → Row
part_at k no_row = Unknown_row
part_at zero (row_and r rs) = r
part_at (suc k) (row_and r rs) = part_at k rs

abbrev pub part_in : ℕ → Row → Row
part_in k (Tuple_row rs) = part_at k rs
part_in k r = Part_of k r

abbrev pub field_at : Text → Named_rows → Row
field_at f no_named_row = Unknown_row
field_at f (named_row_and g r rs) = cond (bytes_eq g f) r (field_at f rs)

abbrev pub field_in : Text → Row → Row
field_in f (Record_row fs) = field_at f fs
field_in f r = Field_of f r

abbrev pub at_row : Path → Row → Row
at_row Whole r = r
at_row (In_rows p) r = at_row p (rows_in r)
at_row (In_part k p) r = at_row p (part_in k r)
at_row (In_field f p) r = at_row p (field_in f r)

-- as many rows as an extent says: what is told nowhere counts 0, and so does what is worth less
abbrev pub as_many : Extent → Extent
as_many Nowhere = Exactly 0
as_many (Exactly n) = Exactly n
as_many (Worth_of u) = Length_of (Array_row (Worth_of u) Unknown_row)
as_many (Length_of r) = Length_of r

abbrev pub length_of : Row → Extent
length_of (Array_row e r) = as_many e
length_of r = Length_of r

-- ---- data of a sized type, where sizes have these extents and type variables stand for these rows

abbrev pub with_named : Text → Row → Named_rows → Named_rows
with_named f r no_named_row = named_row_and f r no_named_row
with_named f r (named_row_and g q rs) = cond (is_before f g) (named_row_and f r (named_row_and g q rs)) (named_row_and g q (with_named f r rs))

-- in order of the names
abbrev pub named_rows : List Text → Rows → Named_rows
named_rows [] rs = no_named_row
named_rows (f ∷ fs) no_row = no_named_row
named_rows (f ∷ fs) (row_and r rs) = with_named f r (named_rows fs rs)

abbrev pub headed : Head → Rows → (ℕ → Named_rows) → Row
headed (head.Scalar s) rs named = Scalar_row s
headed head.Tuple rs named = Tuple_row rs
headed (head.Record n) rs named = Record_row (named n)
headed h rs named = Unknown_row

unfoldable mutual
  pub told_row : (ℕ → List Text) → (Dim → Extent) → (Variable → Row) → Size → Row
  told_row fields number type (Hole v) = type v
  told_row fields number type (Open n v u) = Unknown_row
  told_row fields number type (Level d t) = Array_row (number d) (told_row fields number type t)
  told_row fields number type (Built h ts) = headed h (told_rows fields number type ts) (λ n. named_rows (fields n) (told_rows fields number type ts))
  told_row fields number type (Fun k p r) = Unknown_row

  pub told_rows : (ℕ → List Text) → (Dim → Extent) → (Variable → Row) → Sizes → Rows
  told_rows fields number type no_size = no_row
  told_rows fields number type (size_and t ts) = row_and (told_row fields number type t) (told_rows fields number type ts)

-- in the result of a function type, whose parameter's data has a shape: the sizes that the caller chooses stand in that
abbrev pub pushed : (ℕ → List Text) → Size → Row → (Dim → Extent) → Dim → Extent
pushed fields p r number (At d) = number (At d)
pushed fields p r number (Bound zero i) = on_place (size_place fields (Bound 0 i) p) (λ q. length_of (at_row q r)) Nowhere
pushed fields p r number (Bound (suc j) i) = number (Bound j i)

abbrev pub typed_by : (ℕ → List Text) → Size → Row → (Variable → Row) → Variable → Row
typed_by fields p r type v = on_place (type_place fields v p) (λ q. at_row q r) (type v)

-- what a function of a sized type gives for arguments of these shapes
unfoldable pub result_row : (ℕ → List Text) → (Dim → Extent) → (Variable → Row) → Size → List Row → Row
result_row fields number type t [] = told_row fields number type t
result_row fields number type (Fun k p r) (h ∷ hs) = result_row fields (pushed fields p h number) (typed_by fields p h type) r hs
result_row fields number type t (h ∷ hs) = Unknown_row

-- ---- what is found: what sizes are worth, and what type variables stand for

pub record Found : Type 0 where
  pub size : Free → Extent
  pub type : Variable → Row

abbrev pub nothing_found : Found
nothing_found = record { size = λ d. Nowhere; type = λ v. Unknown_row }

-- a constant is worth itself
abbrev pub number : Found → Dim → Extent
number W (At (Const c)) = Exactly c
number W (At d) = W.size d
number W (Bound j i) = Nowhere

-- data of a sized type has a shape: of what has a place in that type, what stands there
abbrev pub with_data : (ℕ → List Text) → Size → Row → Found → Found
with_data fields t r W = record { size = λ d. on_place (size_place fields (At d) t) (λ p. length_of (at_row p r)) (W.size d); type = λ v. on_place (type_place fields v t) (λ p. at_row p r) (W.type v) }

-- a function's parameter, where each size that the caller chooses is 0
abbrev pub chosen_none : Dim → Extent
chosen_none (At (Const c)) = Exactly c
chosen_none d = Nowhere

abbrev pub chosen_row : (ℕ → List Text) → Size → Row
chosen_row fields p = told_row fields chosen_none (λ v. Unknown_row) p

-- what a function of a sized type tells of its results, where the shape of what it takes is known by itself
abbrev pub results_row : (ℕ → List Text) → Size → (List Row → Row) → Row
results_row fields (Fun k p r) tell = cond (is_known p && gives_chosen k r) (tell (chosen_row fields p ∷ [])) Unknown_row
results_row fields t tell = Unknown_row

abbrev pub if_told : Bool → Found → Found → Found
if_told true told W = told
if_told false told W = W

-- its results have this shape
abbrev pub with_results : (ℕ → List Text) → Size → Row → Found → Found
with_results fields (Fun k p q) r W = if_told (is_known p && gives_chosen k q) (with_data fields q r W) W
with_results fields t r W = W

abbrev pub named_worth : (ℕ → ℕ) → ℕ → Size → Extent → Free → Extent → Extent
named_worth home q t e (Name b) o = cond (nat_eq (home b) q && is_number t) e o
named_worth home q t e d o = o

-- the name of a number that the pattern at a node binds is worth this
abbrev pub with_worth : (ℕ → ℕ) → ℕ → Size → Extent → Found → Found
with_worth home q t e W = record { size = λ d. named_worth home q t e d (W.size d); type = W.type }

-- ---- primitives

-- data that a primitive has as an argument: its shape, and what it is worth as a size
abbrev pub Argument : Type 0
Argument = Row × Extent

-- what the result is, or so many rows of what its function tells for arguments of these shapes
pub data Telling : Type 0 where
  Of_row : Row → Telling
  Of_rows : Extent → List Row → Telling

abbrev pub by_function : (List Row → Row) → Telling → Row
by_function f (Of_row r) = r
by_function f (Of_rows e rs) = Array_row e (f rs)

abbrev pub argument_row : Argument → Row
argument_row a = rows_in a.0

abbrev pub i64_row : Row
i64_row = Scalar_row (sort.Int I64)

abbrev pub same_row : List Argument → Telling
same_row (a ∷ []) = Of_row a.0
same_row bs = Of_row Unknown_row

abbrev pub mapped_rows : List Argument → Telling
mapped_rows [] = Of_row Unknown_row
mapped_rows (a ∷ bs) = Of_rows (length_of a.0) (map argument_row (a ∷ bs))

abbrev pub first_row : List Argument → Telling
first_row [] = Of_row Unknown_row
first_row (a ∷ bs) = Of_row a.0

abbrev pub last_row : List Argument → Telling
last_row [] = Of_row Unknown_row
last_row (a ∷ []) = Of_row a.0
last_row (a ∷ b ∷ bs) = last_row (b ∷ bs)

abbrev pub element_row : List Argument → Telling
element_row (a ∷ []) = Of_row (rows_in a.0)
element_row bs = Of_row Unknown_row

abbrev pub zipped_row : List Argument → Telling
zipped_row [] = Of_row Unknown_row
zipped_row (a ∷ bs) = Of_row (Array_row (length_of a.0) (Tuple_row (rows (map argument_row (a ∷ bs)))))

abbrev pub unzipped_row : List Argument → Telling
unzipped_row (a ∷ []) = Of_row (Unzipped_row (length_of a.0) (rows_in a.0))
unzipped_row bs = Of_row Unknown_row

abbrev pub replicated : List Argument → Telling
replicated (n ∷ a ∷ []) = Of_row (Array_row n.1 a.0)
replicated bs = Of_row Unknown_row

abbrev pub counted : List Argument → Telling
counted (n ∷ []) = Of_row (Array_row n.1 i64_row)
counted bs = Of_row Unknown_row

abbrev pub tabulated : List Argument → Telling
tabulated (n ∷ []) = Of_rows n.1 (i64_row ∷ [])
tabulated bs = Of_row Unknown_row

abbrev pub indices_row : List Argument → Telling
indices_row (a ∷ []) = Of_row (Array_row (length_of a.0) i64_row)
indices_row bs = Of_row Unknown_row

abbrev pub unflattened : List Argument → Telling
unflattened (n ∷ m ∷ a ∷ []) = Of_row (Array_row n.1 (Array_row m.1 (rows_in a.0)))
unflattened bs = Of_row Unknown_row

abbrev pub transposed : List Argument → Telling
transposed (a ∷ []) = Of_row (Array_row (length_of (rows_in a.0)) (Array_row (length_of a.0) (rows_in (rows_in a.0))))
transposed bs = Of_row Unknown_row

-- one line a primitive, as the meaning has it
unfoldable pub primitive_tells : Primitive → List Argument → Telling
primitive_tells prim.Map bs = mapped_rows bs
primitive_tells prim.Map2 bs = mapped_rows bs
primitive_tells prim.Map3 bs = mapped_rows bs
primitive_tells prim.Map4 bs = mapped_rows bs
primitive_tells prim.Map5 bs = mapped_rows bs
primitive_tells prim.Reduce bs = first_row bs
primitive_tells prim.ReduceComm bs = first_row bs
primitive_tells prim.Scan bs = last_row bs
primitive_tells prim.Scatter bs = first_row bs
primitive_tells prim.ReduceByIndex bs = first_row bs
primitive_tells prim.Zip bs = zipped_row bs
primitive_tells prim.Zip3 bs = zipped_row bs
primitive_tells prim.Unzip bs = unzipped_row bs
primitive_tells prim.Unzip3 bs = unzipped_row bs
primitive_tells prim.Iota bs = counted bs
primitive_tells prim.Replicate bs = replicated bs
primitive_tells prim.Tabulate bs = tabulated bs
primitive_tells prim.Indices bs = indices_row bs
primitive_tells prim.Length bs = Of_row i64_row
primitive_tells prim.Null bs = Of_row (Scalar_row sort.Bool)
primitive_tells prim.Head bs = element_row bs
primitive_tells prim.Last bs = element_row bs
primitive_tells prim.Reverse bs = same_row bs
primitive_tells prim.Rotate bs = last_row bs
primitive_tells prim.Unflatten bs = unflattened bs
primitive_tells prim.Transpose bs = transposed bs
primitive_tells prim.Copy bs = same_row bs
primitive_tells (prim.Convert to from) bs = Of_row (Scalar_row to)
primitive_tells (prim.Min t) bs = Of_row (Scalar_row (sort.Int t))
primitive_tells (prim.Max t) bs = Of_row (Scalar_row (sort.Int t))
primitive_tells (prim.Abs t) bs = Of_row (Scalar_row (sort.Int t))
primitive_tells (prim.Popc t) bs = Of_row (Scalar_row (sort.Int I32))
primitive_tells (prim.Fold k t) bs = Of_row (Scalar_row (sort.Int t))
primitive_tells p bs = Of_row Unknown_row

-- ---- what is known of values

-- where a value's worth as a size stands
abbrev pub known_worth : Known → Extent
known_worth (Scalar_known u) = Worth_of u
known_worth s = Nowhere

-- the shape of a value; that of a function is not known
unfoldable mutual
  pub known_row : Known → Row
  known_row (Scalar_known u) = Shape_of u
  known_row (Tuple_known ss) = Tuple_row (known_rows ss)
  known_row (Record_known fs) = Record_row (field_rows fs)
  known_row (Function_known ps e lo sc) = Unknown_row
  known_row (Primitive_known p at ss) = Unknown_row

  pub known_rows : Knowns → Rows
  known_rows no_known = no_row
  known_rows (known_and s ss) = row_and (known_row s) (known_rows ss)

  pub field_rows : Known_fields → Named_rows
  field_rows no_known_field = no_named_row
  field_rows (known_field_and f s fs) = named_row_and f (known_row s) (field_rows fs)

abbrev pub is_function : Known → Bool
is_function (Function_known ps e lo sc) = true
is_function (Primitive_known p at ss) = true
is_function s = false

-- the arguments of a primitive that are data, and those that are still to come
unfoldable pub data_told : Knowns → List Argument → List Argument
data_told no_known bs = bs
data_told (known_and s ss) bs = cond (is_function s) (data_told ss bs) ((known_row s, known_worth s) ∷ data_told ss bs)

abbrev pub to_come : List Row → List Argument
to_come [] = []
to_come (r ∷ rs) = (r, Nowhere) ∷ to_come rs

module _ (Z : Sizing) where
  -- what is found in what was entered
  unfoldable pub found : Entered → Found
  found no_entry = nothing_found
  found (entry q s r es) = with_worth Z.home q (Z.size_at q) (known_worth s) (with_data Z.fields (Z.size_at q) (known_row s) (with_results Z.fields (Z.size_at q) r (found es)))

  -- what a function gives whose parameters' patterns stand at these nodes, and whose body's first is `lo`
  unfoldable pub closure_tells : List ℕ → ℕ → List Row → Found → Row
  closure_tells [] lo rs W = result_row Z.fields (number W) W.type (Z.size_at lo) rs
  closure_tells (q ∷ qs) lo [] W = Unknown_row
  closure_tells (q ∷ qs) lo (r ∷ rs) W = closure_tells qs lo rs (with_data Z.fields (Z.size_at q) r W)

  unfoldable mutual
    -- what a function gives for arguments of these shapes
    pub tells : Known → List Row → Row
    tells (Scalar_known u) rs = Unknown_row
    tells (Tuple_known ss) rs = Unknown_row
    tells (Record_known fs) rs = Unknown_row
    tells (Function_known ps e lo sc) rs = closure_tells (nodes_from ps (lo - all_pattern_numbers ps)) lo rs (found (entered_in sc))
    tells (Primitive_known p at ss) rs = by_function (function_tells ss) (primitive_tells p (data_told ss (to_come rs)))

    -- by the one function among the arguments of a primitive
    pub function_tells : Knowns → List Row → Row
    function_tells no_known rs = Unknown_row
    function_tells (known_and s ss) rs = cond (is_function s) (tells s rs) (function_tells ss rs)

-- ---- sizes as expressions

-- a size where these are found and told, or else passed with functions
abbrev pub size_extent : Found → (Free → Bool) → (Free → Extent) → Dim → Extent
size_extent W told passed (At (Const c)) = Exactly c
size_extent W told passed (At d) = cond (told d) (W.size d) (passed d)
size_extent W told passed (Bound j i) = Nowhere

module _ (Z : Sizing) where
  -- whether something that was entered tells a size, and whether a function takes it
  unfoldable pub told : Entered → Free → Bool
  told no_entry d = false
  told (entry q s r es) d = tells_size Z q d (told es d)

  unfoldable pub taken : Entered → Free → Bool
  taken no_entry d = false
  taken (entry q s r es) d = takes_size Z q d (taken es d)

  unfoldable mutual
    -- by the newest function that was entered and says it
    pub passed : Entered → Free → Extent
    passed no_entry d = Nowhere
    passed (entry q s r es) d = says s (Z.size_at q) (At d) (passed es d)

    -- what a function of a sized type says of a size that it takes
    pub says : Known → Size → Dim → Extent → Extent
    says (Function_known ps e lo (seeing names es)) t x otherwise = on_size (outer_size (is_outer (told es) (taken es)) (own_size Z t (nodes_from ps (lo - all_pattern_numbers ps)) x)) (size_extent (found Z es) (told es) (passed es)) otherwise
    says (Scalar_known u) t x otherwise = otherwise
    says (Tuple_known ss) t x otherwise = otherwise
    says (Record_known fs) t x otherwise = otherwise
    says (Primitive_known p at ss) t x otherwise = otherwise

  abbrev pub expression : Entered → Dim → Extent
  expression es = size_extent (found Z es) (told es) (passed es)

-- the rows of the arguments of a primitive's function, where it has these data
abbrev pub rows_for : Primitive → List Atom → List Row
rows_for prim.Tabulate us = i64_row ∷ []
rows_for p us = map (λ u. rows_in (Shape_of u)) us

-- ---- the sizes that data has to have

abbrev pub head_test : Head → Size_tests → (ℕ → Named_tests) → Size_test
head_test head.Tuple parts named = Tuple_test parts
head_test (head.Record n) parts named = Record_test (named n)
head_test h parts named = Any_size

unfoldable mutual
  pub size_test : (ℕ → List Text) → Found → Size → Size_test
  size_test fields W (Hole v) = Any_size
  size_test fields W (Open n v u) = Any_size
  size_test fields W (Level d t) = Array_test (number W d) (size_test fields W t)
  size_test fields W (Built h ts) = head_test h (size_tests fields W ts) (λ n. named_tests fields W (fields n) ts)
  size_test fields W (Fun k p r) = Any_size

  pub size_tests : (ℕ → List Text) → Found → Sizes → Size_tests
  size_tests fields W no_size = no_test
  size_tests fields W (size_and t ts) = test_and (size_test fields W t) (size_tests fields W ts)

  pub named_tests : (ℕ → List Text) → Found → List Text → Sizes → Named_tests
  named_tests fields W fs no_size = no_named_test
  named_tests fields W [] (size_and t ts) = no_named_test
  named_tests fields W (f ∷ fs) (size_and t ts) = named_test_and f (size_test fields W t) (named_tests fields W fs ts)

-- ---- where there is a sizing

-- the row of an array literal at a node without elements
abbrev pub literal_row : Option Sizing → Scope → ℕ → Row
literal_row None sc lo = Unknown_row
literal_row (Some Z) sc lo = rows_in (told_row Z.fields (number (found Z (entered_in sc))) (found Z (entered_in sc)).type (Z.size_at lo))

-- a result of the function of a primitive with these data
abbrev pub function_row : Option Sizing → Primitive → Known → List Atom → Row
function_row None p f us = Unknown_row
function_row (Some Z) p f us = tells Z f (rows_for p us)

-- the sizes of the type at a node
abbrev pub test_at : Option Sizing → Scope → ℕ → Option Size_test
test_at None sc lo = None
test_at (Some Z) sc lo = Some (size_test Z.fields (found Z (entered_in sc)) (Z.size_at lo))

-- where a number is that of a size, what the size is worth
abbrev pub size_used : Option Sizing → Scope → ℕ → Option Extent
size_used None sc k = None
size_used (Some Z) sc k = cond (Z.is_size k) (Some (expression Z (entered_in sc) (At (Name k)))) None

-- what is entered with a pattern at a node
abbrev pub entered_with : Sizing → ℕ → Known → Entered → Entered
entered_with Z q s es = entry q s (results_row Z.fields (Z.size_at q) (tells Z s)) es

-- the names, where a pattern at a node was entered with what is known
abbrev pub enter : Option Sizing → ℕ → Known → Scope → Scope
enter None q s sc = sc
enter (Some Z) q s sc = seeing (names_in sc) (entered_with Z q s (entered_in sc))
