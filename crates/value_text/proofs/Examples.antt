-- What texts of values read as, and why they are refused, computed from the definition.
use Rattle.std.proofs.Common.{◌≡◌, ℕ, List, [], ◌∷◌, refl}
use Rattle.std.specs.Prelude.{pos, negsuc, Some, None, codes}
use Rattle.fut_scalar.specs.declared.scalar.IntType.TheVariants as int
use Rattle.fut_scalar.specs.declared.scalar.ScalarType.{ScalarType}
use Rattle.fut_scalar.specs.declared.scalar.ScalarType.TheVariants as sort
use Rattle.fut_scalar.specs.declared.sizes.ArgType.{ArgType}
use Rattle.fut_scalar.specs.declared.sizes.Dim.{Dim}
use Rattle.fut_scalar.specs.declared.sizes.Dim.TheVariants as dim
use Rattle.fut_value.specs.declared.value.Value.{Value}
use Rattle.value_text.specs.Arguments.{Reads, Refuses}
use Rattle.value_text.specs.Empties.{digit_len, digits, dimension, dimensions, empty_len, mark, scalar_at, scalar_name}
use Rattle.value_text.specs.Arrays.{counted, empty_as, other_than_rows, spelled_scalar}
use Rattle.value_text.specs.Gaps.{gap_at}
use Rattle.value_text.specs.Numbers.{number_at, number_len}
use Rattle.value_text.specs.Spelled.{integer_at, word_at, word_front}
use Rattle.value_text.specs.Words.{is_word, name_goes_on, signed_front, suffix_at, type_at, type_front, unsigned_front}
use Rattle.fut_value.specs.Values.{datum_of}
use Rattle.value_text.specs.Printing.{data_text}
use Rattle.value_text.specs.Written.{digits_from, names_type, size_at, written}
use Rattle.value_text.specs.declared.reading.TextErr.TheVariants as text
use Rattle.name_characters.specs.Names.{goes_on_name}

abbrev array_of : ScalarType → List Dim → ArgType
array_of elem dims = record { elem = elem; dims = dims; name = None }

abbrev i32 : ScalarType
i32 = sort.Int int.I32

-- a size that nothing names
abbrev free : Dim
free = dim.Unknown (record { file = 0; number = 0 }) 0

abbrev scalar_named : ℕ → ArgType
scalar_named name = record { elem = sort.Int int.I64; dims = []; name = Some (record { 0 = name }) }

abbrev named : ℕ → Dim
named name = dim.Name (record { 0 = name })

abbrev value : List ℕ → List ℕ → Value
value sizes words = record { shape = record { elem = i32; sizes = sizes }; words = words }

-- ---- what is read

a_number : Reads (array_of i32 ([]) ∷ []) (codes "7") (value [] (7 ∷ []) ∷ [])
unfolding gap_at spelled_scalar counted other_than_rows empty_as empty_len dimension dimensions digits digit_len mark scalar_at scalar_name written size_at digits_from names_type integer_at word_at word_front number_at number_len suffix_at type_at type_front signed_front unsigned_front is_word name_goes_on goes_on_name
a_number = refl

a_row : Reads (array_of i32 (free ∷ []) ∷ []) (codes "[1, 2]") (value (2 ∷ []) (1 ∷ 2 ∷ []) ∷ [])
unfolding gap_at spelled_scalar counted other_than_rows empty_as empty_len dimension dimensions digits digit_len mark scalar_at scalar_name written size_at digits_from names_type integer_at word_at word_front number_at number_len suffix_at type_at type_front signed_front unsigned_front is_word name_goes_on goes_on_name
a_row = refl

rows : Reads (array_of i32 (free ∷ free ∷ []) ∷ []) (codes "[[1,2],[ 3 , 4 ]]") (value (2 ∷ 2 ∷ []) (1 ∷ 2 ∷ 3 ∷ 4 ∷ []) ∷ [])
unfolding gap_at spelled_scalar counted other_than_rows empty_as empty_len dimension dimensions digits digit_len mark scalar_at scalar_name written size_at digits_from names_type integer_at word_at word_front number_at number_len suffix_at type_at type_front signed_front unsigned_front is_word name_goes_on goes_on_name
rows = refl

no_row : Reads (array_of i32 (free ∷ []) ∷ []) (codes "[]") (value (0 ∷ []) [] ∷ [])
unfolding gap_at spelled_scalar counted other_than_rows empty_as empty_len dimension dimensions digits digit_len mark scalar_at scalar_name written size_at digits_from names_type integer_at word_at word_front number_at number_len suffix_at type_at type_front signed_front unsigned_front is_word name_goes_on goes_on_name
no_row = refl

rows_without_numbers : Reads (array_of i32 (free ∷ free ∷ []) ∷ []) (codes "[[], []]") (value (2 ∷ 0 ∷ []) [] ∷ [])
unfolding gap_at spelled_scalar counted other_than_rows empty_as empty_len dimension dimensions digits digit_len mark scalar_at scalar_name written size_at digits_from names_type integer_at word_at word_front number_at number_len suffix_at type_at type_front signed_front unsigned_front is_word name_goes_on goes_on_name
rows_without_numbers = refl

empty_of_one_dimension : Reads (array_of i32 (free ∷ []) ∷ []) (codes "empty([0]i32)") (value (0 ∷ []) [] ∷ [])
unfolding gap_at spelled_scalar counted other_than_rows empty_as empty_len dimension dimensions digits digit_len mark scalar_at scalar_name written size_at digits_from names_type integer_at word_at word_front number_at number_len suffix_at type_at type_front signed_front unsigned_front is_word name_goes_on goes_on_name
empty_of_one_dimension = refl

empty_of_two_dimensions : Reads (array_of i32 (free ∷ free ∷ []) ∷ []) (codes "empty([2][0]i32)") (value (2 ∷ 0 ∷ []) [] ∷ [])
unfolding gap_at spelled_scalar counted other_than_rows empty_as empty_len dimension dimensions digits digit_len mark scalar_at scalar_name written size_at digits_from names_type integer_at word_at word_front number_at number_len suffix_at type_at type_front signed_front unsigned_front is_word name_goes_on goes_on_name
empty_of_two_dimensions = refl

empty_of_three_dimensions : Reads (array_of i32 (free ∷ free ∷ free ∷ []) ∷ []) (codes "empty ( [0] [ 2 ][3] i32 )") (value (0 ∷ 2 ∷ 3 ∷ []) [] ∷ [])
unfolding gap_at spelled_scalar counted other_than_rows empty_as empty_len dimension dimensions digits digit_len mark scalar_at scalar_name written size_at digits_from names_type integer_at word_at word_front number_at number_len suffix_at type_at type_front signed_front unsigned_front is_word name_goes_on goes_on_name
empty_of_three_dimensions = refl

the_greatest_weight : Reads (array_of i32 (free ∷ free ∷ []) ∷ []) (codes "empty([33554432][0]i32)") (value (33554432 ∷ 0 ∷ []) [] ∷ [])
unfolding gap_at spelled_scalar counted other_than_rows empty_as empty_len dimension dimensions digits digit_len mark scalar_at scalar_name written size_at digits_from names_type integer_at word_at word_front number_at number_len suffix_at type_at type_front signed_front unsigned_front is_word name_goes_on goes_on_name
the_greatest_weight = refl

-- ---- what is refused

a_comma_before_the_end : Refuses (array_of i32 (free ∷ []) ∷ []) (codes "[1, ]") (text.BadText 4)
unfolding gap_at spelled_scalar counted other_than_rows empty_as empty_len dimension dimensions digits digit_len mark scalar_at scalar_name written size_at digits_from names_type integer_at word_at word_front number_at number_len suffix_at type_at type_front signed_front unsigned_front is_word name_goes_on goes_on_name
a_comma_before_the_end = refl

no_row_where_arrays_are_wanted : Refuses (array_of i32 (free ∷ free ∷ []) ∷ []) (codes "[]") (text.BadText 1)
unfolding gap_at spelled_scalar counted other_than_rows empty_as empty_len dimension dimensions digits digit_len mark scalar_at scalar_name written size_at digits_from names_type integer_at word_at word_front number_at number_len suffix_at type_at type_front signed_front unsigned_front is_word name_goes_on goes_on_name
no_row_where_arrays_are_wanted = refl

a_minus_before_a_blank : Refuses (array_of i32 ([]) ∷ []) (codes "- 1") (text.BadText 1)
unfolding gap_at spelled_scalar counted other_than_rows empty_as empty_len dimension dimensions digits digit_len mark scalar_at scalar_name written size_at digits_from names_type integer_at word_at word_front number_at number_len suffix_at type_at type_front signed_front unsigned_front is_word name_goes_on goes_on_name
a_minus_before_a_blank = refl

a_longer_name : Refuses (array_of i32 ([]) ∷ []) (codes "1x") (text.BadText 1)
unfolding gap_at spelled_scalar counted other_than_rows empty_as empty_len dimension dimensions digits digit_len mark scalar_at scalar_name written size_at digits_from names_type integer_at word_at word_front number_at number_len suffix_at type_at type_front signed_front unsigned_front is_word name_goes_on goes_on_name
a_longer_name = refl

a_truth_value_for_a_number : Refuses (array_of i32 ([]) ∷ []) (codes "true") (text.WrongType 0)
unfolding gap_at spelled_scalar counted other_than_rows empty_as empty_len dimension dimensions digits digit_len mark scalar_at scalar_name written size_at digits_from names_type integer_at word_at word_front number_at number_len suffix_at type_at type_front signed_front unsigned_front is_word name_goes_on goes_on_name
a_truth_value_for_a_number = refl

an_array_for_a_number : Refuses (array_of i32 ([]) ∷ []) (codes "[1") (text.WrongType 0)
unfolding gap_at spelled_scalar counted other_than_rows empty_as empty_len dimension dimensions digits digit_len mark scalar_at scalar_name written size_at digits_from names_type integer_at word_at word_front number_at number_len suffix_at type_at type_front signed_front unsigned_front is_word name_goes_on goes_on_name
an_array_for_a_number = refl

a_number_for_an_array : Refuses (array_of i32 (free ∷ []) ∷ []) (codes "1") (text.WrongType 0)
unfolding gap_at spelled_scalar counted other_than_rows empty_as empty_len dimension dimensions digits digit_len mark scalar_at scalar_name written size_at digits_from names_type integer_at word_at word_front number_at number_len suffix_at type_at type_front signed_front unsigned_front is_word name_goes_on goes_on_name
a_number_for_an_array = refl

an_empty_array_for_a_number : Refuses (array_of i32 ([]) ∷ []) (codes "empty([0]i32)") (text.WrongType 0)
unfolding gap_at spelled_scalar counted other_than_rows empty_as empty_len dimension dimensions digits digit_len mark scalar_at scalar_name written size_at digits_from names_type integer_at word_at word_front number_at number_len suffix_at type_at type_front signed_front unsigned_front is_word name_goes_on goes_on_name
an_empty_array_for_a_number = refl

another_type_in_brackets : Refuses (array_of i32 (free ∷ []) ∷ []) (codes "empty([0]i64)") (text.WrongType 0)
unfolding gap_at spelled_scalar counted other_than_rows empty_as empty_len dimension dimensions digits digit_len mark scalar_at scalar_name written size_at digits_from names_type integer_at word_at word_front number_at number_len suffix_at type_at type_front signed_front unsigned_front is_word name_goes_on goes_on_name
another_type_in_brackets = refl

another_number_of_dimensions : Refuses (array_of i32 (free ∷ []) ∷ []) (codes "empty([0][1]i32)") (text.WrongType 0)
unfolding gap_at spelled_scalar counted other_than_rows empty_as empty_len dimension dimensions digits digit_len mark scalar_at scalar_name written size_at digits_from names_type integer_at word_at word_front number_at number_len suffix_at type_at type_front signed_front unsigned_front is_word name_goes_on goes_on_name
another_number_of_dimensions = refl

no_size_is_0 : Refuses (array_of i32 (free ∷ []) ∷ []) (codes "empty([3]i32)") (text.WrongType 0)
unfolding gap_at spelled_scalar counted other_than_rows empty_as empty_len dimension dimensions digits digit_len mark scalar_at scalar_name written size_at digits_from names_type integer_at word_at word_front number_at number_len suffix_at type_at type_front signed_front unsigned_front is_word name_goes_on goes_on_name
no_size_is_0 = refl

rows_of_different_length : Refuses (array_of i32 (free ∷ free ∷ []) ∷ []) (codes "[[1, 2], [3]]") (text.Irregular 9)
unfolding gap_at spelled_scalar counted other_than_rows empty_as empty_len dimension dimensions digits digit_len mark scalar_at scalar_name written size_at digits_from names_type integer_at word_at word_front number_at number_len suffix_at type_at type_front signed_front unsigned_front is_word name_goes_on goes_on_name
rows_of_different_length = refl

a_number_out_of_range : Refuses (array_of (sort.Int int.U8) (free ∷ []) ∷ []) (codes "[1, 300]") (text.OutOfRange 4)
unfolding gap_at spelled_scalar counted other_than_rows empty_as empty_len dimension dimensions digits digit_len mark scalar_at scalar_name written size_at digits_from names_type integer_at word_at word_front number_at number_len suffix_at type_at type_front signed_front unsigned_front is_word name_goes_on goes_on_name
a_number_out_of_range = refl

a_size_out_of_range : Refuses (array_of i32 (free ∷ free ∷ []) ∷ []) (codes "empty([9223372036854775808][0]i32)") (text.OutOfRange 7)
unfolding gap_at spelled_scalar counted other_than_rows empty_as empty_len dimension dimensions digits digit_len mark scalar_at scalar_name written size_at digits_from names_type integer_at word_at word_front number_at number_len suffix_at type_at type_front signed_front unsigned_front is_word name_goes_on goes_on_name
a_size_out_of_range = refl

a_weight_above_the_greatest : Refuses (array_of i32 (free ∷ free ∷ []) ∷ []) (codes "empty([33554433][0]i32)") (text.TooLarge 0)
unfolding gap_at spelled_scalar counted other_than_rows empty_as empty_len dimension dimensions digits digit_len mark scalar_at scalar_name written size_at digits_from names_type integer_at word_at word_front number_at number_len suffix_at type_at type_front signed_front unsigned_front is_word name_goes_on goes_on_name
a_weight_above_the_greatest = refl

too_large_with_its_second_row : Refuses (array_of i32 (free ∷ free ∷ free ∷ []) ∷ []) (codes "[empty([20000000][0]i32), empty([20000000][0]i32)]") (text.TooLarge 26)
unfolding gap_at spelled_scalar counted other_than_rows empty_as empty_len dimension dimensions digits digit_len mark scalar_at scalar_name written size_at digits_from names_type integer_at word_at word_front number_at number_len suffix_at type_at type_front signed_front unsigned_front is_word name_goes_on goes_on_name
too_large_with_its_second_row = refl

a_parameter_is_missing : Refuses (array_of i32 ([]) ∷ array_of i32 ([]) ∷ []) (codes "1") (text.Missing 2)
unfolding gap_at spelled_scalar counted other_than_rows empty_as empty_len dimension dimensions digits digit_len mark scalar_at scalar_name written size_at digits_from names_type integer_at word_at word_front number_at number_len suffix_at type_at type_front signed_front unsigned_front is_word name_goes_on goes_on_name
a_parameter_is_missing = refl

something_behind_the_last_value : Refuses (array_of i32 ([]) ∷ []) (codes "1 2") (text.Extra 2)
unfolding gap_at spelled_scalar counted other_than_rows empty_as empty_len dimension dimensions digits digit_len mark scalar_at scalar_name written size_at digits_from names_type integer_at word_at word_front number_at number_len suffix_at type_at type_front signed_front unsigned_front is_word name_goes_on goes_on_name
something_behind_the_last_value = refl

a_point_behind_a_number : Refuses (array_of i32 ([]) ∷ []) (codes "1.5") (text.Extra 1)
unfolding gap_at spelled_scalar counted other_than_rows empty_as empty_len dimension dimensions digits digit_len mark scalar_at scalar_name written size_at digits_from names_type integer_at word_at word_front number_at number_len suffix_at type_at type_front signed_front unsigned_front is_word name_goes_on goes_on_name
a_point_behind_a_number = refl

-- ---- two at one position: text, then type, then range, then weight, then rows of different length

a_longer_name_of_another_type : Refuses (array_of i32 ([]) ∷ []) (codes "truex") (text.BadText 4)
unfolding gap_at spelled_scalar counted other_than_rows empty_as empty_len dimension dimensions digits digit_len mark scalar_at scalar_name written size_at digits_from names_type integer_at word_at word_front number_at number_len suffix_at type_at type_front signed_front unsigned_front is_word name_goes_on goes_on_name
a_longer_name_of_another_type = refl

type_before_range : Refuses (array_of (sort.Int int.U8) [] ∷ []) (codes "300u16") (text.WrongType 0)
unfolding gap_at spelled_scalar counted other_than_rows empty_as empty_len dimension dimensions digits digit_len mark scalar_at scalar_name written size_at digits_from names_type integer_at word_at word_front number_at number_len suffix_at type_at type_front signed_front unsigned_front is_word name_goes_on goes_on_name
type_before_range = refl

text_before_type : Refuses (array_of i32 (free ∷ []) ∷ []) (codes "empty([0]i64") (text.BadText 12)
unfolding gap_at spelled_scalar counted other_than_rows empty_as empty_len dimension dimensions digits digit_len mark scalar_at scalar_name written size_at digits_from names_type integer_at word_at word_front number_at number_len suffix_at type_at type_front signed_front unsigned_front is_word name_goes_on goes_on_name
text_before_type = refl

type_before_range_of_a_size : Refuses (array_of i32 (free ∷ []) ∷ []) (codes "empty([9223372036854775808][0]i32)") (text.WrongType 0)
unfolding gap_at spelled_scalar counted other_than_rows empty_as empty_len dimension dimensions digits digit_len mark scalar_at scalar_name written size_at digits_from names_type integer_at word_at word_front number_at number_len suffix_at type_at type_front signed_front unsigned_front is_word name_goes_on goes_on_name
type_before_range_of_a_size = refl

weight_before_rows : Refuses (array_of i32 (free ∷ free ∷ free ∷ []) ∷ []) (codes "[empty([20000000][0]i32), empty([20000001][0]i32)]") (text.TooLarge 26)
unfolding gap_at spelled_scalar counted other_than_rows empty_as empty_len dimension dimensions digits digit_len mark scalar_at scalar_name written size_at digits_from names_type integer_at word_at word_front number_at number_len suffix_at type_at type_front signed_front unsigned_front is_word name_goes_on goes_on_name
weight_before_rows = refl

the_row_inside_before_its_array : Refuses (array_of i32 (free ∷ free ∷ free ∷ []) ∷ []) (codes "[[[1, 2], [3]], [[1]]]") (text.Irregular 10)
unfolding gap_at spelled_scalar counted other_than_rows empty_as empty_len dimension dimensions digits digit_len mark scalar_at scalar_name written size_at digits_from names_type integer_at word_at word_front number_at number_len suffix_at type_at type_front signed_front unsigned_front is_word name_goes_on goes_on_name
the_row_inside_before_its_array = refl

-- ---- sizes that parameters agree on

sizes_that_agree : Reads (array_of i32 (named 5 ∷ []) ∷ array_of i32 (named 5 ∷ []) ∷ []) (codes "[1] [2]") (value (1 ∷ []) (1 ∷ []) ∷ value (1 ∷ []) (2 ∷ []) ∷ [])
unfolding gap_at spelled_scalar counted other_than_rows empty_as empty_len dimension dimensions digits digit_len mark scalar_at scalar_name written size_at digits_from names_type integer_at word_at word_front number_at number_len suffix_at type_at type_front signed_front unsigned_front is_word name_goes_on goes_on_name
sizes_that_agree = refl

sizes_that_clash : Refuses (array_of i32 (named 5 ∷ []) ∷ array_of i32 (named 5 ∷ []) ∷ []) (codes "[1] [1, 2]") (text.SizeClash 2 2 (pos 1))
unfolding gap_at spelled_scalar counted other_than_rows empty_as empty_len dimension dimensions digits digit_len mark scalar_at scalar_name written size_at digits_from names_type integer_at word_at word_front number_at number_len suffix_at type_at type_front signed_front unsigned_front is_word name_goes_on goes_on_name
sizes_that_clash = refl

a_parameter_is_a_size : Refuses (scalar_named 5 ∷ array_of i32 (named 5 ∷ []) ∷ []) (codes "-1 [1]") (text.SizeClash 2 1 (negsuc 0))
unfolding gap_at spelled_scalar counted other_than_rows empty_as empty_len dimension dimensions digits digit_len mark scalar_at scalar_name written size_at digits_from names_type integer_at word_at word_front number_at number_len suffix_at type_at type_front signed_front unsigned_front is_word name_goes_on goes_on_name
a_parameter_is_a_size = refl

a_written_size : Refuses (array_of i32 (dim.Const 3 ∷ []) ∷ []) (codes "[1]") (text.SizeClash 1 1 (pos 3))
unfolding gap_at spelled_scalar counted other_than_rows empty_as empty_len dimension dimensions digits digit_len mark scalar_at scalar_name written size_at digits_from names_type integer_at word_at word_front number_at number_len suffix_at type_at type_front signed_front unsigned_front is_word name_goes_on goes_on_name
a_written_size = refl

a_written_size_is_read_as_an_i64 : Refuses (array_of i32 (dim.Const 18446744073709551615 ∷ []) ∷ []) (codes "[1]") (text.SizeClash 1 1 (negsuc 0))
unfolding gap_at spelled_scalar counted other_than_rows empty_as empty_len dimension dimensions digits digit_len mark scalar_at scalar_name written size_at digits_from names_type integer_at word_at word_front number_at number_len suffix_at type_at type_front signed_front unsigned_front is_word name_goes_on goes_on_name
a_written_size_is_read_as_an_i64 = refl

sizes_after_all_else : Refuses (array_of i32 (dim.Const 3 ∷ []) ∷ array_of i32 ([]) ∷ []) (codes "[1] true") (text.WrongType 4)
unfolding gap_at spelled_scalar counted other_than_rows empty_as empty_len dimension dimensions digits digit_len mark scalar_at scalar_name written size_at digits_from names_type integer_at word_at word_front number_at number_len suffix_at type_at type_front signed_front unsigned_front is_word name_goes_on goes_on_name
sizes_after_all_else = refl

-- ---- what is printed

printed_rows : data_text (datum_of (record { shape = record { elem = sort.Bool; sizes = 2 ∷ 2 ∷ [] }; words = 1 ∷ 0 ∷ 0 ∷ 1 ∷ [] })) ≡ codes "[[true, false], [false, true]]"
unfolding data_text
printed_rows = refl
