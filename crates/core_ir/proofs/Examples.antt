-- Small steps, by computation: rows in and out of bundles, each group of steps with its failures, and what counts.
use Rattle.std.proofs.Common.{◌≡◌, ℕ, List, [], ◌∷◌, map, true, false, refl, arith}
use Rattle.fut_scalar.specs.declared.operator.BinOp.TheVariants as binary
use Rattle.fut_scalar.specs.declared.place.Place.{Place}
use Rattle.fut_scalar.specs.declared.report.FailKind.TheVariants as kind
use Rattle.fut_scalar.specs.declared.scalar.IntType.TheVariants.{I64}
use Rattle.fut_scalar.specs.declared.scalar.Scalar.{Scalar}
use Rattle.fut_scalar.specs.declared.scalar.Scalar.TheVariants as scalar
use Rattle.fut_scalar.specs.declared.scalar.ScalarType.TheVariants as sort
use Rattle.fut_arithmetic.specs.Operations.{result_of}
use Rattle.fut_ast.specs.declared.node.End.TheVariants as end
use Rattle.fut_flat.specs.declared.act.Part.TheVariants as part
use Rattle.fut_meaning.specs.Arrays.{failure, picks}
use Rattle.fut_meaning.specs.Operations.{report}
use Rattle.fut_meaning.specs.Operators.{binary_result}
use Rattle.fut_meaning.specs.Outcomes.{Val, Fail, Wrong, exact, goes_on, stops, both, element, node, bracket}
use Rattle.fut_meaning.specs.Jobs.{some_of}
use mathlib.Core.Logic.{inl, inr}
use Rattle.core_ir.specs.declared.block.Atom.{Atom}
use Rattle.core_ir.specs.declared.block.Atom.TheVariants as atom
use Rattle.core_ir.specs.declared.block.Operation.TheVariants as operation
use Rattle.core_ir.specs.declared.block.Var.{Var}
use Rattle.core_ir.specs.Bundles.{Component, One, Many, Row, rows_of, stacked, glued, within_weight}
use Rattle.core_ir.specs.Arrays.{cut, updated, done}
use Rattle.core_ir.specs.Plain.{Index, Transpose, Empty, Iota, Range, Replicate, Concat, Rotate, Zip, Flatten, Unflatten, Update, Of_rows, Action, Operate, Do, Map, Reduce, Scatter, Of_two, Body, Give, Let}
use Rattle.core_ir.specs.Meaning.{Env, operated, reduction, act_means, function_means, body_means}

here : Place
here = record { file = 0; line = 1; column = 1 }

abbrev i : ℕ → Scalar
i n = scalar.Int I64 n

abbrev one : ℕ → Component
one n = One (i n)

-- an array of integers
abbrev ints : List ℕ → List ℕ → Component
ints ds ns = Many ds (map i ns)

-- ---- rows and bundles

abbrev pairs : Row
pairs = ints (2 ∷ []) (1 ∷ 2 ∷ []) ∷ ints (2 ∷ 2 ∷ []) (3 ∷ 4 ∷ 5 ∷ 6 ∷ []) ∷ []

abbrev their_rows : List Row
their_rows = (one 1 ∷ ints (2 ∷ []) (3 ∷ 4 ∷ []) ∷ []) ∷ (one 2 ∷ ints (2 ∷ []) (5 ∷ 6 ∷ []) ∷ []) ∷ []

rows_come_out : rows_of false here 2 pairs ≡ Val their_rows
unfolding rows_of
rows_come_out = refl

and_go_in : glued false here [] their_rows ≡ Val pairs
unfolding glued stacked within_weight
and_go_in = refl

rows_without_components : rows_of false here 0 (ints (2 ∷ 0 ∷ []) [] ∷ []) ≡ Val ([] ∷ [] ∷ [])
unfolding rows_of
rows_without_components = refl

are_one_array_of_no_cells : glued false here [] ([] ∷ [] ∷ []) ≡ Val (ints (2 ∷ 0 ∷ []) [] ∷ [])
unfolding glued stacked within_weight
are_one_array_of_no_cells = refl

abbrev uneven : Row
uneven = ints (2 ∷ []) (1 ∷ 2 ∷ []) ∷ ints (1 ∷ []) (3 ∷ []) ∷ []

arrays_of_one_size : rows_of false here 2 uneven ≡ failure kind.Size here
unfolding rows_of
arrays_of_one_size = refl

or_wrong_where_nothing_misfits : rows_of true here 2 uneven ≡ Wrong
unfolding rows_of
or_wrong_where_nothing_misfits = refl

rows_of_one_size : glued false here [] ((ints (1 ∷ []) (1 ∷ []) ∷ []) ∷ (ints (2 ∷ []) (1 ∷ 2 ∷ []) ∷ []) ∷ []) ≡ failure kind.Size here
unfolding glued stacked within_weight
rows_of_one_size = refl

-- two arrays that are each light enough may be too large together
too_large_together : within_weight here (Many (20000000 ∷ []) [] ∷ Many (20000000 ∷ []) [] ∷ []) ≡ failure kind.TooLarge here
unfolding within_weight
too_large_together = refl

-- ---- new arrays

of_numbers : done false Iota here ((one 3 ∷ []) ∷ []) ≡ Val (ints (3 ∷ []) (0 ∷ 1 ∷ 2 ∷ []) ∷ [])
unfolding done within_weight
of_numbers = refl

of_a_negative_size : done false Iota here ((one 18446744073709551615 ∷ []) ∷ []) ≡ failure kind.Range here
unfolding done within_weight
of_a_negative_size = refl

of_no_rows : done false Empty here ((one 2 ∷ []) ∷ [] ∷ []) ≡ Val (Many (0 ∷ 2 ∷ []) [] ∷ Many (0 ∷ []) [] ∷ [])
unfolding done glued stacked within_weight
of_no_rows = refl

by_steps : done false (Range true end.Below) here ((one 1 ∷ one 3 ∷ one 6 ∷ []) ∷ []) ≡ Val (ints (3 ∷ []) (1 ∷ 3 ∷ 5 ∷ []) ∷ [])
unfolding done within_weight
by_steps = refl

of_one_row : done false Replicate here ((one 2 ∷ []) ∷ (one 7 ∷ ints (1 ∷ []) (8 ∷ []) ∷ []) ∷ []) ≡ Val (ints (2 ∷ []) (7 ∷ 7 ∷ []) ∷ ints (2 ∷ 1 ∷ []) (8 ∷ 8 ∷ []) ∷ [])
unfolding done glued stacked within_weight
of_one_row = refl

one_behind_the_other : done false Concat here (pairs ∷ (ints (1 ∷ []) (9 ∷ []) ∷ ints (1 ∷ 2 ∷ []) (7 ∷ 8 ∷ []) ∷ []) ∷ []) ≡ Val (ints (3 ∷ []) (1 ∷ 2 ∷ 9 ∷ []) ∷ ints (3 ∷ 2 ∷ []) (3 ∷ 4 ∷ 5 ∷ 6 ∷ 7 ∷ 8 ∷ []) ∷ [])
unfolding done rows_of glued stacked within_weight
one_behind_the_other = refl

an_empty_one_shows_no_sizes : done false Concat here ((ints (0 ∷ 3 ∷ []) [] ∷ []) ∷ (ints (1 ∷ 2 ∷ []) (7 ∷ 8 ∷ []) ∷ []) ∷ []) ≡ Val (ints (1 ∷ 2 ∷ []) (7 ∷ 8 ∷ []) ∷ [])
unfolding done rows_of glued stacked within_weight
an_empty_one_shows_no_sizes = refl

around : done false Rotate here ((one 1 ∷ []) ∷ (ints (3 ∷ []) (4 ∷ 5 ∷ 6 ∷ []) ∷ []) ∷ []) ≡ Val (ints (3 ∷ []) (5 ∷ 6 ∷ 4 ∷ []) ∷ [])
unfolding done rows_of glued stacked within_weight
around = refl

-- of rows without components only the size is told
side_by_side : done false (Zip (0 ∷ 1 ∷ [])) here ((ints (2 ∷ 0 ∷ []) [] ∷ []) ∷ (ints (2 ∷ []) (4 ∷ 5 ∷ []) ∷ []) ∷ []) ≡ Val (ints (2 ∷ []) (4 ∷ 5 ∷ []) ∷ [])
unfolding done rows_of glued stacked within_weight
side_by_side = refl

as_many_of_both : done false (Zip (0 ∷ 1 ∷ [])) here ((ints (3 ∷ 0 ∷ []) [] ∷ []) ∷ (ints (2 ∷ []) (4 ∷ 5 ∷ []) ∷ []) ∷ []) ≡ failure kind.Size here
unfolding done rows_of glued stacked within_weight
as_many_of_both = refl

abbrev table : Component
table = ints (2 ∷ 3 ∷ []) (1 ∷ 2 ∷ 3 ∷ 4 ∷ 5 ∷ 6 ∷ [])

rows_in_a_row : done false Flatten here ((table ∷ []) ∷ []) ≡ Val (ints (6 ∷ []) (1 ∷ 2 ∷ 3 ∷ 4 ∷ 5 ∷ 6 ∷ []) ∷ [])
unfolding done rows_of glued stacked within_weight
rows_in_a_row = refl

in_groups : done false Unflatten here ((one 2 ∷ one 3 ∷ []) ∷ (ints (6 ∷ []) (1 ∷ 2 ∷ 3 ∷ 4 ∷ 5 ∷ 6 ∷ []) ∷ []) ∷ []) ≡ Val (table ∷ [])
unfolding done rows_of glued stacked within_weight
in_groups = refl

-- which is a test of the step, and reported where nothing misfits too
groups_have_to_go_in : done true Unflatten here ((one 2 ∷ one 2 ∷ []) ∷ (ints (6 ∷ []) (1 ∷ 2 ∷ 3 ∷ 4 ∷ 5 ∷ 6 ∷ []) ∷ []) ∷ []) ≡ failure kind.Size here
unfolding done rows_of glued stacked within_weight
groups_have_to_go_in = refl

-- ---- views

columns_as_rows : done false Transpose here ((table ∷ []) ∷ []) ≡ Val (ints (3 ∷ 2 ∷ []) (1 ∷ 4 ∷ 2 ∷ 5 ∷ 3 ∷ 6 ∷ []) ∷ [])
unfolding done rows_of glued stacked within_weight
columns_as_rows = refl

no_rows_have_columns : done false Transpose here ((ints (0 ∷ 3 ∷ []) [] ∷ []) ∷ []) ≡ Val (ints (3 ∷ 0 ∷ []) [] ∷ [])
unfolding done rows_of glued stacked within_weight
no_rows_have_columns = refl

a_row : done false (Index 2 (part.At ∷ [])) here (pairs ∷ (one 1 ∷ []) ∷ []) ≡ Val (one 2 ∷ ints (2 ∷ []) (5 ∷ 6 ∷ []) ∷ [])
unfolding done picks cut rows_of stacked within_weight
a_row = refl

a_column_backwards : done false (Index 1 (part.Backwards ∷ part.At ∷ [])) here ((table ∷ []) ∷ (one 2 ∷ []) ∷ []) ≡ Val (ints (2 ∷ []) (6 ∷ 3 ∷ []) ∷ [])
unfolding done picks cut rows_of stacked within_weight
a_column_backwards = refl

a_slice : done false (Index 1 (part.Slice true false ∷ part.Slice true true ∷ [])) here ((table ∷ []) ∷ (one 1 ∷ one 0 ∷ one 2 ∷ []) ∷ []) ≡ Val (ints (1 ∷ 2 ∷ []) (4 ∷ 5 ∷ []) ∷ [])
unfolding done picks cut rows_of stacked within_weight
a_slice = refl

-- each part is tested, also where there are no rows
out_of_bounds : done false (Index 1 (part.Slice false false ∷ part.At ∷ [])) here ((ints (0 ∷ 3 ∷ []) [] ∷ []) ∷ (one 3 ∷ []) ∷ []) ≡ failure kind.Bounds here
unfolding done picks cut rows_of stacked within_weight
out_of_bounds = refl

-- ---- writing

another_row : done false Update here (pairs ∷ (one 0 ∷ []) ∷ (one 9 ∷ ints (2 ∷ []) (7 ∷ 8 ∷ []) ∷ []) ∷ []) ≡ Val (ints (2 ∷ []) (9 ∷ 2 ∷ []) ∷ ints (2 ∷ 2 ∷ []) (7 ∷ 8 ∷ 5 ∷ 6 ∷ []) ∷ [])
unfolding done updated rows_of stacked
another_row = refl

another_element : done false Update here ((table ∷ []) ∷ (one 1 ∷ one 0 ∷ []) ∷ (one 9 ∷ []) ∷ []) ≡ Val (ints (2 ∷ 3 ∷ []) (1 ∷ 2 ∷ 3 ∷ 9 ∷ 5 ∷ 6 ∷ []) ∷ [])
unfolding done updated rows_of stacked
another_element = refl

of_the_same_sizes : done false Update here ((table ∷ []) ∷ (one 1 ∷ []) ∷ (ints (2 ∷ []) (7 ∷ 8 ∷ []) ∷ []) ∷ []) ≡ failure kind.Size here
unfolding done updated rows_of stacked
of_the_same_sizes = refl

-- ---- blocks

abbrev var : ℕ → Var
var n = record { number = n; elem = sort.Int I64; rank = 0 }

abbrev name : ℕ → Atom
name n = atom.Var (var n)

abbrev c : ℕ → Atom
c n = atom.Constant (i n)

abbrev with_array : Env
with_array = (0, ints (2 ∷ []) (3 ∷ 4 ∷ [])) ∷ []

length_of_an_array : operated with_array (operation.Length (name 0)) here ≡ Val (one 2 ∷ [])
unfolding operated
length_of_an_array = refl

sizes_are_tested : operated [] (operation.CheckSize (c 2) (c 3)) here ≡ failure kind.Size here
unfolding operated
sizes_are_tested = refl

new_arrays_count : act_means false false 0 (Do Iota here ((c 2 ∷ []) ∷ [])) [] (Val (ints (2 ∷ []) (0 ∷ 1 ∷ []) ∷ [])) 2
unfolding act_means done within_weight
new_arrays_count = goes_on {f = 0} {g = 2} exact exact

views_count_nothing : act_means false false 0 (Do (Index 1 (part.Backwards ∷ [])) here ((name 0 ∷ []) ∷ [] ∷ [])) with_array (Val (ints (2 ∷ []) (4 ∷ 3 ∷ []) ∷ [])) 0
unfolding act_means done picks cut rows_of stacked within_weight
views_count_nothing = goes_on {f = 0} {g = 0} exact exact

-- twelve by each row
abbrev divided : Body
divided = Let (var 2 ∷ []) (Operate (operation.Binary binary.Div (c 12) (name 1)) here) (Give (name 2 ∷ []))

abbrev divisions : Action
divisions = Map here (Of_rows (record { width = 1; arrays = name 0 ∷ [] } ∷ [])) ([] ∷ []) (var 1 ∷ []) divided

rows_are_mapped : act_means false false 0 divisions with_array (Val (ints (2 ∷ []) (4 ∷ 3 ∷ []) ∷ [])) 2
unfolding act_means body_means operated binary_result result_of rows_of glued stacked within_weight
rows_are_mapped =
    goes_on {f = 0} {g = 2} exact (goes_on {f = 0} {g = 2}
    (goes_on {f = 0} {g = 0} (goes_on {f = 0} {g = 0} exact (goes_on {f = 0} {g = 0} (goes_on {f = 0} {g = 0} exact exact) exact)) (goes_on {f = 0} {g = 0} (goes_on {f = 0} {g = 0} (goes_on {f = 0} {g = 0} exact (goes_on {f = 0} {g = 0} (goes_on {f = 0} {g = 0} exact exact) exact)) (goes_on {f = 0} {g = 0} exact exact)) exact))
    (goes_on {f = 0} {g = 2} exact exact))

-- the rows are not looked at behind the first that fails
the_first_row_fails : act_means false false 0 divisions ((0, ints (2 ∷ []) (0 ∷ 4 ∷ [])) ∷ []) (Fail (report kind.Division here)) 0
unfolding act_means body_means operated binary_result result_of rows_of
the_first_row_fails = goes_on {f = 0} {g = 0} exact (stops (stops (goes_on {f = 0} {g = 0} exact (stops (stops exact)))))

abbrev sum : Action
sum = Reduce here (c 0 ∷ []) (record { width = 1; arrays = name 0 ∷ [] }) (Of_two (var 1 ∷ []) (var 2 ∷ []) (Let (var 3 ∷ []) (Operate (operation.Binary binary.Add (name 1) (name 2)) here) (Give (name 3 ∷ []))))

rows_are_reduced : act_means true false 0 sum with_array (Val (one 7 ∷ [])) 0
unfolding act_means function_means body_means operated binary_result result_of rows_of
rows_are_reduced =
    goes_on {f = 0} {g = 0} exact (goes_on {f = 0} {g = 0} exact (goes_on {f = 0} {g = 0} exact (goes_on {f = 0} {g = 0}
    (reduction refl (bracket (node (element (one 3 ∷ [])) (element (one 4 ∷ []))) refl (omega arith)
    (both {f = 0} {g = 0} {h = 0} exact exact (goes_on {f = 0} {g = 0} exact (goes_on {f = 0} {g = 0} exact (goes_on {f = 0} {g = 0} (goes_on {f = 0} {g = 0} exact exact) exact)))))) exact)))

-- either of two rows that are written at one place
abbrev racing : Action
racing = Scatter here (name 0 ∷ []) (name 1) (name 2 ∷ [])

abbrev with_writes : Env
with_writes = (2, ints (2 ∷ []) (8 ∷ 9 ∷ [])) ∷ (1, ints (2 ∷ []) (1 ∷ 1 ∷ [])) ∷ with_array

the_second_stays : act_means false false 0 racing with_writes (Val (ints (2 ∷ []) (3 ∷ 9 ∷ []) ∷ [])) 0
unfolding act_means rows_of stacked
the_second_stays =
    goes_on {f = 0} {g = 0} exact (goes_on {f = 0} {g = 0} exact (goes_on {f = 0} {g = 0} exact (goes_on {f = 0} {g = 0} exact (goes_on {f = 0} {g = 0}
    (both {f = 0} {g = 0} {h = 0} (some_of (inl refl)) (both {f = 0} {g = 0} {h = 0} (some_of (inr (inl refl))) exact exact) exact) exact))))
