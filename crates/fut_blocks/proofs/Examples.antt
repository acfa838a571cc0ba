-- Small blocks, by computation: what the definitions say of numbers, order, reports and turns.
use Rattle.std.proofs.Common.{◌≡◌, ℕ, List, [], ◌∷◌, map, true, false, Some, pos, refl, arith}
use Rattle.fut_scalar.specs.declared.operator.BinOp.TheVariants as binary
use Rattle.fut_scalar.specs.declared.place.Place.{Place}
use Rattle.fut_scalar.specs.declared.report.FailKind.TheVariants as kind
use Rattle.fut_scalar.specs.declared.scalar.IntType.TheVariants.{I8, U8}
use Rattle.fut_scalar.specs.declared.scalar.Scalar.{Scalar}
use Rattle.fut_scalar.specs.declared.scalar.Scalar.TheVariants as scalar
use Rattle.fut_scalar.specs.declared.scalar.ScalarType.TheVariants as sort
use Rattle.fut_value.specs.Data.{Datum, Scalar_datum, Tuple_datum, Record_datum, Array_datum, Scalar_shape, Tuple_shape, Array_shape, Unmet_shape, shape_and, no_shape, no_datum, datums, no_named, named_and, shape_of, words, array_words, weight, heaviest, same_sizes}
use Rattle.fut_flat.specs.declared.prim.Primitive.TheVariants as prim
use Rattle.fut_meaning.specs.Arrays.{Make_array, made, array, i64}
use Rattle.fut_meaning.specs.Jobs.{job}
use Rattle.fut_arithmetic.specs.Operations.{result_of}
use Rattle.fut_meaning.specs.Operations.{report}
use Rattle.fut_meaning.specs.Operators.{binary_result}
use Rattle.fut_meaning.specs.Outcomes.{Val, Fail, Wrong, exact, goes_on, stops}
use Rattle.fut_blocks.specs.declared.block.Atom.{Atom}
use Rattle.fut_blocks.specs.declared.block.Atom.TheVariants as atom
use Rattle.fut_blocks.specs.declared.block.Operation.TheVariants as operation
use Rattle.fut_blocks.specs.Plain.{Action, Operate, Make, Size_of, Coerce, Job, If, For, Over, While, Body, Give, Let, Record_with, Part_at, Replace_at, Fields_at}
use Rattle.fut_blocks.specs.Records.{reads}
use Rattle.fut_blocks.specs.Rows.{Unknown_row, Scalar_row, Tuple_row, Array_row, Shape_of, Rows_of, Part_of, Unzipped_row, no_row, row_and, Extent, Nowhere, Exactly, Worth_of, Length_of, Any_size, Array_test}
use Rattle.fut_blocks.specs.Sizes.{row_shape, extent_worth}
use Rattle.fut_blocks.specs.Meaning.{Component, Names, operated, act_means, body_means}
use Rattle.fut_blocks.specs.Numbered.{Body_numbered}

here : Place
here = record { file = 0; line = 1; column = 1 }

abbrev number : ℕ → Scalar
number n = scalar.Int U8 n

abbrev worth : ℕ → Extent
worth x = Worth_of (atom.Name x)

abbrev word : ℕ → Component
word n = Scalar_datum (number n)

-- loop p1 = 9 for n2 < x0 do if p1 < n2 then p1 / n2 else p1 / n2
abbrev turn : Body
turn =
    Let (3 ∷ []) (Operate (operation.Binary binary.Lt here (atom.Name 1) (atom.Name 2)))
    (Let (6 ∷ []) (If (atom.Name 3)
    (Let (4 ∷ []) (Operate (operation.Binary binary.Div here (atom.Name 1) (atom.Name 2))) (Give (atom.Name 4 ∷ [])))
    (Let (5 ∷ []) (Operate (operation.Binary binary.Div here (atom.Name 1) (atom.Name 2))) (Give (atom.Name 5 ∷ []))))
    (Give (atom.Name 6 ∷ [])))

abbrev whole : Body
whole = Let (7 ∷ []) (For (1 ∷ []) (atom.Constant (number 9) ∷ []) 2 (atom.Name 0) turn) (Give (atom.Name 7 ∷ []))

is_numbered : Body_numbered 1 whole 8
unfolding Body_numbered
is_numbered = (
  7,
  (
    2,
    (omega arith, omega arith),
    omega arith,
    (
      3,
      omega arith,
      4,
      (omega arith, omega arith),
      (6, (5, (4, omega arith, 5, (omega arith, omega arith), omega arith), (5, omega arith, 6, (omega arith, omega arith), omega arith)), 7, (omega arith, omega arith), omega arith),
    ),
  ),
  8,
  (omega arith, omega arith),
  omega arith,
)

abbrev c : ℕ → Atom
c n = atom.Constant (number n)

sums_wrap : operated [] (operation.Binary binary.Add here (c 250) (c 10)) ≡ Val (word 4 ∷ [])
unfolding operated binary_result result_of
sums_wrap = refl

constants_are_cut : operated [] (operation.Convert (sort.Int U8) (c 300)) ≡ Val (word 44 ∷ [])
unfolding operated
constants_are_cut = refl

divisions_fail : operated [] (operation.Binary binary.Mod here (c 7) (c 0)) ≡ Fail (report kind.Division here)
unfolding operated binary_result result_of
divisions_fail = refl

powers_fail : operated [] (operation.Binary binary.Pow here (atom.Constant (scalar.Int I8 2)) (atom.Constant (scalar.Int I8 255))) ≡ Fail (report kind.Power here)
unfolding operated binary_result result_of
powers_fail = refl

types_have_to_agree : operated [] (operation.Binary binary.Add here (c 1) (atom.Constant (scalar.Int I8 1))) ≡ Wrong
unfolding operated binary_result
types_have_to_agree = refl

assertions_fail : operated [] (operation.Assert here (atom.Constant (scalar.Bool false))) ≡ Fail (report kind.Assert here)
unfolding operated
assertions_fail = refl

assertions_give_nothing : operated [] (operation.Assert here (atom.Constant (scalar.Bool true))) ≡ Val []
unfolding operated
assertions_give_nothing = refl

-- both parameters get their values at once
abbrev swap : Scalar → Body
swap n = Let (5 ∷ 6 ∷ []) (For (1 ∷ 2 ∷ []) (c 1 ∷ c 2 ∷ []) 3 (atom.Constant n) (Give (atom.Name 2 ∷ atom.Name 1 ∷ []))) (Give (atom.Name 5 ∷ atom.Name 6 ∷ []))

one_turn_swaps : body_means false 0 (swap (number 1)) [] (Val (word 2 ∷ word 1 ∷ [])) 0
unfolding body_means
one_turn_swaps = goes_on {f = 0} {g = 0} (goes_on {f = 0} {g = 0} (goes_on {f = 0} {g = 0} exact (goes_on {f = 0} {g = 0} exact (goes_on {f = 0} {g = 0} (goes_on {f = 0} {g = 0} exact exact) exact))) exact) exact

a_count_below_0_takes_no_turn : body_means false 0 (swap (scalar.Int I8 255)) [] (Val (word 1 ∷ word 2 ∷ [])) 0
unfolding body_means
a_count_below_0_takes_no_turn = goes_on {f = 0} {g = 0} (goes_on {f = 0} {g = 0} (goes_on {f = 0} {g = 0} exact (goes_on {f = 0} {g = 0} exact exact)) exact) exact

-- a test that always holds
abbrev forever : Body
forever = Let [] (While here [] [] (Give (atom.Constant (scalar.Bool true) ∷ [])) (Give [])) (Give [])

no_turn_is_left : body_means false 0 forever [] (Fail (report kind.Turns here)) 0
unfolding body_means
no_turn_is_left = stops (stops (goes_on {f = 0} {g = 0} exact (goes_on {f = 0} {g = 0} (goes_on {f = 0} {g = 0} exact (goes_on {f = 0} {g = 0} exact exact)) exact)))

-- a name is seen below its step alone
names_of_a_branch_end : body_means false 0 (Let [] (If (atom.Constant (scalar.Bool true)) (Let (1 ∷ []) (Operate (operation.Convert (sort.Int U8) (c 7))) (Give [])) (Give [])) (Give (atom.Name 1 ∷ []))) [] Wrong 0
unfolding body_means operated
names_of_a_branch_end = goes_on {f = 0} {g = 0} (goes_on {f = 0} {g = 0} (goes_on {f = 0} {g = 0} exact (goes_on {f = 0} {g = 0} (goes_on {f = 0} {g = 0} exact exact) exact)) exact) exact

-- ---- arrays

abbrev row : List ℕ → Datum
row ns = Array_datum (Scalar_shape (sort.Int U8)) (datums (map word ns))

arrays_count_their_words : act_means false 0 (Make Unknown_row Make_array here (c 1 ∷ c 2 ∷ [])) [] (Val (row (1 ∷ 2 ∷ []) ∷ [])) 2
unfolding act_means made array shape_of words array_words weight heaviest same_sizes
arrays_count_their_words = goes_on {f = 0} {g = 2} exact (goes_on {f = 0} {g = 2} exact exact)

-- rows that are missing have the shape that is told
empty_rows_have_their_sizes : act_means false 0 (Make (Array_row (worth 0) (Scalar_row (sort.Int U8))) Make_array here []) ((0, word 2) ∷ []) (Val (Array_datum (Array_shape 2 (Scalar_shape (sort.Int U8))) no_datum ∷ [])) 0
unfolding act_means made array shape_of words array_words weight heaviest same_sizes
empty_rows_have_their_sizes = goes_on {f = 0} {g = 0} exact (goes_on {f = 0} {g = 0} exact exact)

-- 3 arrays of 2 words: their lengths
abbrev table : Names Component
table = (0, Array_datum (Array_shape 2 (Scalar_shape (sort.Int U8))) (datums (row (1 ∷ 2 ∷ []) ∷ row (3 ∷ 4 ∷ []) ∷ row (5 ∷ 6 ∷ []) ∷ []))) ∷ []

rows_are_counted : extent_worth table (Length_of (Shape_of (atom.Name 0))) ≡ Val (Some (pos 3))
unfolding shape_of
rows_are_counted = refl

words_of_a_row_are_counted : extent_worth table (Length_of (Rows_of (Shape_of (atom.Name 0)))) ≡ Val (Some (pos 2))
unfolding shape_of
words_of_a_row_are_counted = refl

-- a word has no rows
words_have_no_rows : extent_worth table (Length_of (Rows_of (Rows_of (Shape_of (atom.Name 0))))) ≡ Val (Some (pos 0))
unfolding shape_of
words_have_no_rows = refl

names_have_to_stand_for_something : row_shape table (Shape_of (atom.Name 9)) ≡ Wrong
names_have_to_stand_for_something = refl

-- a pair of arrays, as the rows of an array of pairs give one
pairs_come_apart : row_shape table (Unzipped_row (Exactly 3) (Tuple_row (row_and (Scalar_row sort.Bool) (row_and (Rows_of (Shape_of (atom.Name 0))) no_row)))) ≡ Val (Tuple_shape (shape_and (Array_shape 3 (Scalar_shape sort.Bool)) (shape_and (Array_shape 3 (Array_shape 2 (Scalar_shape (sort.Int U8)))) no_shape)))
unfolding shape_of
pairs_come_apart = refl

-- an array has no parts
what_is_not_there_is_unmet : row_shape table (Part_of 0 (Shape_of (atom.Name 0))) ≡ Val Unmet_shape
unfolding shape_of
what_is_not_there_is_unmet = refl

parts_are_counted_from_0 : row_shape table (Part_of 1 (Tuple_row (row_and (Scalar_row sort.Bool) (row_and (Scalar_row (sort.Int U8)) no_row)))) ≡ Val (Scalar_shape (sort.Int U8))
parts_are_counted_from_0 = refl

sizes_are_given_as_i64 : act_means false 0 (Size_of (worth 0)) ((0, word 7) ∷ []) (Val (i64 7 ∷ [])) 0
unfolding act_means
sizes_are_given_as_i64 = exact

-- 3 rows of 2 words, and not of 3
sizes_are_tested : act_means false 0 (Coerce here (Array_test (Exactly 3) (Array_test (Exactly 3) Any_size)) (Shape_of (atom.Name 0))) table (Fail (report kind.Size here)) 0
unfolding act_means shape_of
sizes_are_tested = exact

-- whatever a size is that nothing tells
the_same_sizes_pass : act_means false 0 (Coerce here (Array_test (Exactly 3) (Array_test Nowhere Any_size)) (Shape_of (atom.Name 0))) table (Val []) 0
unfolding act_means shape_of
the_same_sizes_pass = exact

rows_have_the_same_sizes : act_means false 0 (Make Unknown_row Make_array here (atom.Name 0 ∷ atom.Name 1 ∷ [])) ((0, row (1 ∷ [])) ∷ (1, row []) ∷ []) (Fail (report kind.Size here)) 0
unfolding act_means made array shape_of words array_words weight heaviest same_sizes
rows_have_the_same_sizes = goes_on {f = 0} {g = 0} exact (stops exact)

-- 12 / each row, whose function is a block that sees the names outside
abbrev divisions : Action
divisions = Job Unknown_row prim.Map here (atom.Name 0 ∷ []) (2 ∷ []) (Let (3 ∷ []) (Operate (operation.Binary binary.Div here (atom.Name 1) (atom.Name 2))) (Give (atom.Name 3 ∷ [])))

abbrev with_rows : List ℕ → Names Component
with_rows ns = (1, word 12) ∷ (0, row ns) ∷ []

maps_apply_their_block : act_means false 0 divisions (with_rows (3 ∷ 4 ∷ [])) (Val (row (4 ∷ 3 ∷ []) ∷ [])) 2
unfolding act_means body_means operated binary_result result_of job array shape_of words array_words weight heaviest same_sizes
maps_apply_their_block =
    goes_on {f = 0} {g = 2} exact (goes_on {f = 0} {g = 2} exact (goes_on {f = 2} {g = 0} (goes_on {f = 0} {g = 2}
    (goes_on {f = 0} {g = 0} (goes_on {f = 0} {g = 0} (goes_on {f = 0} {g = 0} exact (goes_on {f = 0} {g = 0} (goes_on {f = 0} {g = 0} exact exact) exact)) exact) (goes_on {f = 0} {g = 0} (goes_on {f = 0} {g = 0} (goes_on {f = 0} {g = 0} (goes_on {f = 0} {g = 0} exact (goes_on {f = 0} {g = 0} (goes_on {f = 0} {g = 0} exact exact) exact)) exact) (goes_on {f = 0} {g = 0} exact exact)) exact))
    (goes_on {f = 0} {g = 2} exact exact)) exact))

-- the rows are not looked at behind the first that fails
the_first_row_fails : act_means false 0 divisions (with_rows (0 ∷ 4 ∷ [])) (Fail (report kind.Division here)) 0
unfolding act_means body_means operated binary_result result_of job
the_first_row_fails =
    goes_on {f = 0} {g = 0} exact (goes_on {f = 0} {g = 0} exact (stops (stops (stops (stops (goes_on {f = 0} {g = 0} exact (stops (stops exact))))))))

-- the sum of all rows
abbrev sum : Action
sum = Over (1 ∷ []) (c 0 ∷ []) 2 (atom.Name 0) (Let (3 ∷ []) (Operate (operation.Binary binary.Add here (atom.Name 1) (atom.Name 2))) (Give (atom.Name 3 ∷ [])))

a_turn_for_each_row : act_means false 0 sum ((0, row (4 ∷ 5 ∷ [])) ∷ []) (Val (word 9 ∷ [])) 0
unfolding act_means body_means operated binary_result result_of
a_turn_for_each_row = goes_on {f = 0} {g = 0} exact (goes_on {f = 0} {g = 0} exact (goes_on {f = 0} {g = 0} (goes_on {f = 0} {g = 0} exact (goes_on {f = 0} {g = 0} (goes_on {f = 0} {g = 0} exact exact) exact)) (goes_on {f = 0} {g = 0} (goes_on {f = 0} {g = 0} exact (goes_on {f = 0} {g = 0} (goes_on {f = 0} {g = 0} exact exact) exact)) exact)))

-- ---- tuples and records

tuples_come_apart : operated ((0, Tuple_datum (datums (word 1 ∷ row [] ∷ []))) ∷ []) (operation.Parts (atom.Name 0)) ≡ Val (word 1 ∷ row [] ∷ [])
unfolding operated
tuples_come_apart = refl

abbrev a : List ℕ
a = 97 ∷ []

abbrev b : List ℕ
b = 98 ∷ []

abbrev record_of : Datum → Datum → Datum
record_of d e = Record_datum (named_and a d (named_and b e no_named))

records_are_made : reads (Record_with (a ∷ b ∷ [])) (word 1 ∷ word 2 ∷ []) ≡ Val (record_of (word 1) (word 2) ∷ [])
unfolding reads
records_are_made = refl

fields_are_found : reads (Part_at b) (record_of (word 1) (word 2) ∷ []) ≡ Val (word 2 ∷ [])
unfolding reads
fields_are_found = refl

one_field_is_replaced : reads (Replace_at a) (record_of (word 1) (word 2) ∷ word 3 ∷ []) ≡ Val (record_of (word 3) (word 2) ∷ [])
unfolding reads
one_field_is_replaced = refl

fields_come_in_the_order_of_the_pattern : reads (Fields_at (b ∷ a ∷ [])) (record_of (word 1) (word 2) ∷ []) ≡ Val (word 2 ∷ word 1 ∷ [])
unfolding reads
fields_come_in_the_order_of_the_pattern = refl
