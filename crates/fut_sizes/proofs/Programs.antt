-- Programs that are sized, and programs that are refused.
use Rattle.std.proofs.Common.{◌≡◌, ℕ, true, false, cond, nat_eq, [], ◌∷◌, length, Some, None, Ok, Err, refl}
use Rattle.fut_ast.specs.declared.node.End.TheVariants as end
use Rattle.fut_ast.specs.Sorts.{Text}
use Rattle.fut_scalar.specs.declared.place.BindId.{BindId}
use Rattle.fut_scalar.specs.declared.operator.BinOp.TheVariants as bin
use Rattle.fut_scalar.specs.declared.place.Place.{Place}
use Rattle.fut_scalar.specs.declared.scalar.ScalarType.TheVariants as scalar
use Rattle.fut_scalar.specs.declared.scalar.IntType.TheVariants as int
use Rattle.fut_flat.specs.declared.act.Part.TheVariants as part
use Rattle.fut_flat.specs.declared.prim.Primitive.{Primitive}
use Rattle.fut_flat.specs.declared.prim.Primitive.TheVariants as prim
use Rattle.fut_flat.specs.declared.prim.Ref.TheVariants as ref
use Rattle.fut_flat.specs.Terms.{Size_use, Size_blank, Type_use, no_arg, Array_type, Arrow_type, Bound_pattern, Tuple_pattern, Typed_pattern, no_pattern, pattern_and, Size_parameter, Type_parameter, Integer, Truth, Tuple_of, Record_of, Array_of, Binary, Index, Project, Update, Replace, Ascribe, Coerce, Declared, Range, Use, Strict, Lambda, Apply, Let, If, Loop, no_term, term_and, Counted, Over, While}
use Rattle.fut_flat.specs.Erased.{FlatTerm, FlatType, FlatPattern}
use Rattle.fut_types.specs.declared.Head.TheVariants as head
use Rattle.fut_types.specs.declared.Kind.TheVariants as kind
use Rattle.fut_types.specs.Shapes.{place, place_from}
use Rattle.fut_types.specs.Types.{Ty, Var, Made, none, more, Sub, fun_ty}
use Rattle.fut_typing.specs.Names.{Names}
use Rattle.fut_typing.specs.Primitives.{array_ty, i64_ty}
use Rattle.fut_sizes.specs.Agreeing.{Mismatch, Escapes, Irregular, Answer, then_do, agree, all_agree, kept, all_kept, leaving, type_levels, all_type_levels, of_type, of_types}
use Rattle.fut_sizes.specs.Applications.{all_settled, parts_settled, data_met, functions_met, all_matched, applied}
use Rattle.fut_sizes.specs.Functions.{collected, all_collected, sizes_in, function_size, chosen_in, quantified, closed}
use Rattle.fut_sizes.specs.Matching.{none_opened, in_opened, wanted_frame, filled, all_filled, read, all_read, inside as opened_inside, compared, all_compared, meet, all_meet}
use Rattle.fut_sizes.specs.Operations.{elements_agree, slice_size, indexed, updated, operation}
use Rattle.fut_sizes.specs.Primitives.{scalar_size, pair_size, sized_type, prim_size}
use Rattle.fut_sizes.specs.Programs.{no_state, sizing}
use Rattle.fut_sizes.specs.Scopes.{Scope, nothing, with_known, with_name, type_of, type_in, instance, instances, used, taken, all_taken, fields_taken, bound_by}
use Rattle.sized_types.specs.Sizes.{Const, Name, Own, Unknown, Dim, At, Bound, Inferred, Size, Hole, Level, Built, Fun, no_size, size_and, erased, all_erased, is_free, is_dim, levels, all_levels, replaced, all_replaced, has, some_has, takes, some_takes}
use Rattle.fut_sizes.specs.Levels.{levels_within, all_levels_within}
use Rattle.fut_sizes.specs.Sizing.{finished, is_open, some_open, matched, lacking, all_lacking, differing, all_differing, turns_from, pattern_noted, patterns_noted, fields_noted, sized, all_sized, turns_sized, condition_sized, right_sized, inner_sized}
use Rattle.fut_sizes.specs.WrittenSizes.{part_of, changed_part, has_sizes, all_have_sizes, fields_have_sizes, with_sizes, all_with_sizes, fields_with_sizes, ascribed, coerced, coercion, parameter_size, declared}

abbrev here : Place
here = record { file = 0; line = 1; column = 1 }

abbrev b : ℕ → BindId
b n = record { 0 = n }

abbrev var : ℕ → FlatTerm
var n = Use (ref.Bound (b n)) here 0

abbrev the : Primitive → FlatTerm
the p = Use (ref.Prim p) here 0

abbrev call : FlatTerm → FlatTerm → FlatTerm
call f x = Apply f x

abbrev call2 : FlatTerm → FlatTerm → FlatTerm → FlatTerm
call2 f x y = Apply (Apply f x) y

abbrev call3 : FlatTerm → FlatTerm → FlatTerm → FlatTerm → FlatTerm
call3 f x y z = Apply (Apply (Apply f x) y) z

abbrev iota : FlatTerm → FlatTerm
iota e = call (the prim.Iota) e

abbrev literal : ℕ → FlatTerm
literal c = Strict (Integer c None) here no_term

abbrev named : ℕ → FlatPattern
named n = Bound_pattern (b n)

abbrev function : ℕ → FlatTerm → FlatTerm
function x e = Lambda (pattern_and (named x) no_pattern) e

abbrev let_in : ℕ → FlatTerm → FlatTerm → FlatTerm
let_in x v e = Let (record { sizes = []; parameters = []; is_function = false; pattern = named x }) v e

abbrev array_of : FlatTerm → FlatTerm → FlatTerm
array_of x y = Strict Array_of here (term_and x (term_and y no_term))

abbrev i64_type : FlatType
i64_type = Type_use (ref.Scalar (scalar.Int int.I64)) no_arg

abbrev array_type : ℕ → FlatType
array_type n = Array_type (Size_use (ref.Bound (b n))) i64_type

-- no records stand in these programs
N : Names
N = record { label = λ s. 0; shapes = record { fields = λ n. []; position = λ n. None } }

-- i64 unless it is said
abbrev all_i64 : Sub
all_i64 n = i64_ty

abbrev i64 : Size
i64 = scalar_size (scalar.Int int.I64)

abbrev name : ℕ → Dim
name n = At (Name n)

abbrev unknown : ℕ → ℕ → Dim
unknown n i = At (Unknown n i)

abbrev array : Dim → Size
array d = Level d i64

abbrev to_i64 : Size
to_i64 = Fun 0 i64 i64

-- 0 is n, 1 is m, 2 an array of n, 3 a function from i64 to i64, 4 a predicate
abbrev scope : Scope
scope = with_name 4 (Fun 0 i64 (scalar_size scalar.Bool)) (with_name 3 to_i64 (with_name 2 (array (name 0)) (with_name 1 i64 (with_name 0 i64 nothing))))

-- the sized type of a term of these names, or the first refusal
abbrev size_in : Sub → FlatTerm → Answer Size
size_in types e = then_do (sized N types e [] 0 scope no_state) (λ d. then_do (finished N types 0 d.result d.state) (λ u. Ok u.result))

abbrev size_of : FlatTerm → Answer Size
size_of e = size_in all_i64 e

-- a node of another type
abbrev but : ℕ → Ty → Sub → Sub
but n t types m = cond (nat_eq n m) t (types m)

abbrev list_ty : Ty
list_ty = array_ty i64_ty

abbrev typed : ℕ → ℕ → FlatPattern
typed x n = Typed_pattern (named x) (array_type n)

abbrev first : FlatTerm
first = function 9 (function 10 (var 9))

abbrev let_function : ℕ → ℕ → FlatTerm → FlatTerm → FlatTerm
let_function f k v e = Let (record { sizes = []; parameters = Size_parameter (b k) ∷ []; is_function = true; pattern = named f }) v e

abbrev loop_over : ℕ → FlatTerm → FlatTerm → FlatTerm
loop_over x v e = Loop here [] (named x) v (Counted (b 20) (var 0)) e

-- iota n
counted : size_of (iota (var 0)) ≡ Ok (array (name 0))
unfolding agree all_agree kept all_kept leaving type_levels all_type_levels of_type of_types all_settled parts_settled data_met functions_met all_matched applied collected all_collected sizes_in function_size chosen_in quantified closed filled all_filled read all_read opened_inside compared all_compared meet all_meet elements_agree slice_size indexed updated operation sized_type prim_size sizing type_of type_in instance instances used taken all_taken fields_taken bound_by erased all_erased is_free is_dim levels all_levels levels_within all_levels_within replaced all_replaced has some_has takes some_takes is_open some_open matched lacking all_lacking differing all_differing turns_from pattern_noted patterns_noted fields_noted sized all_sized turns_sized condition_sized right_sized inner_sized part_of changed_part has_sizes all_have_sizes fields_have_sizes with_sizes all_with_sizes fields_with_sizes ascribed coerced coercion parameter_size declared
counted = refl

-- iota 9223372036854775807: the greatest i64
greatest_constant : size_of (iota (literal 9223372036854775807)) ≡ Ok (array (At (Const 9223372036854775807)))
unfolding agree all_agree kept all_kept leaving type_levels all_type_levels of_type of_types all_settled parts_settled data_met functions_met all_matched applied collected all_collected sizes_in function_size chosen_in quantified closed filled all_filled read all_read opened_inside compared all_compared meet all_meet elements_agree slice_size indexed updated operation sized_type prim_size sizing type_of type_in instance instances used taken all_taken fields_taken bound_by erased all_erased is_free is_dim levels all_levels levels_within all_levels_within replaced all_replaced has some_has takes some_takes is_open some_open matched lacking all_lacking differing all_differing turns_from pattern_noted patterns_noted fields_noted sized all_sized turns_sized condition_sized right_sized inner_sized part_of changed_part has_sizes all_have_sizes fields_have_sizes with_sizes all_with_sizes fields_with_sizes ascribed coerced coercion parameter_size declared
greatest_constant = refl

-- iota 9223372036854775808: no i64 is this number, so that its size is unknown
too_large_constant : size_of (iota (literal 9223372036854775808)) ≡ Ok (array (unknown 0 0))
unfolding agree all_agree kept all_kept leaving type_levels all_type_levels of_type of_types all_settled parts_settled data_met functions_met all_matched applied collected all_collected sizes_in function_size chosen_in quantified closed filled all_filled read all_read opened_inside compared all_compared meet all_meet elements_agree slice_size indexed updated operation sized_type prim_size sizing type_of type_in instance instances used taken all_taken fields_taken bound_by erased all_erased is_free is_dim levels all_levels levels_within all_levels_within replaced all_replaced has some_has takes some_takes is_open some_open matched lacking all_lacking differing all_differing turns_from pattern_noted patterns_noted fields_noted sized all_sized turns_sized condition_sized right_sized inner_sized part_of changed_part has_sizes all_have_sizes fields_have_sizes with_sizes all_with_sizes fields_with_sizes ascribed coerced coercion parameter_size declared
too_large_constant = refl

-- iota 3
constant : size_of (iota (literal 3)) ≡ Ok (array (At (Const 3)))
unfolding agree all_agree kept all_kept leaving type_levels all_type_levels of_type of_types all_settled parts_settled data_met functions_met all_matched applied collected all_collected sizes_in function_size chosen_in quantified closed filled all_filled read all_read opened_inside compared all_compared meet all_meet elements_agree slice_size indexed updated operation sized_type prim_size sizing type_of type_in instance instances used taken all_taken fields_taken bound_by erased all_erased is_free is_dim levels all_levels levels_within all_levels_within replaced all_replaced has some_has takes some_takes is_open some_open matched lacking all_lacking differing all_differing turns_from pattern_noted patterns_noted fields_noted sized all_sized turns_sized condition_sized right_sized inner_sized part_of changed_part has_sizes all_have_sizes fields_have_sizes with_sizes all_with_sizes fields_with_sizes ascribed coerced coercion parameter_size declared
constant = refl

-- let x = 7 in iota x: the size leaves its scope
leaves : size_of (let_in 9 (literal 7) (iota (var 9))) ≡ Ok (array (unknown 0 0))
unfolding agree all_agree kept all_kept leaving type_levels all_type_levels of_type of_types all_settled parts_settled data_met functions_met all_matched applied collected all_collected sizes_in function_size chosen_in quantified closed filled all_filled read all_read opened_inside compared all_compared meet all_meet elements_agree slice_size indexed updated operation sized_type prim_size sizing type_of type_in instance instances used taken all_taken fields_taken bound_by erased all_erased is_free is_dim levels all_levels levels_within all_levels_within replaced all_replaced has some_has takes some_takes is_open some_open matched lacking all_lacking differing all_differing turns_from pattern_noted patterns_noted fields_noted sized all_sized turns_sized condition_sized right_sized inner_sized part_of changed_part has_sizes all_have_sizes fields_have_sizes with_sizes all_with_sizes fields_with_sizes ascribed coerced coercion parameter_size declared
leaves = refl

-- if true then iota n else xs keeps n
one_size : size_of (If (Strict (Truth true) here no_term) (iota (var 0)) (var 2)) ≡ Ok (array (name 0))
unfolding agree all_agree kept all_kept leaving type_levels all_type_levels of_type of_types all_settled parts_settled data_met functions_met all_matched applied collected all_collected sizes_in function_size chosen_in quantified closed filled all_filled read all_read opened_inside compared all_compared meet all_meet elements_agree slice_size indexed updated operation sized_type prim_size sizing type_of type_in instance instances used taken all_taken fields_taken bound_by erased all_erased is_free is_dim levels all_levels levels_within all_levels_within replaced all_replaced has some_has takes some_takes is_open some_open matched lacking all_lacking differing all_differing turns_from pattern_noted patterns_noted fields_noted sized all_sized turns_sized condition_sized right_sized inner_sized part_of changed_part has_sizes all_have_sizes fields_have_sizes with_sizes all_with_sizes fields_with_sizes ascribed coerced coercion parameter_size declared
one_size = refl

-- if true then iota n else iota m knows no size
two_sizes : size_of (If (Strict (Truth true) here no_term) (iota (var 0)) (iota (var 1))) ≡ Ok (array (unknown 0 0))
unfolding agree all_agree kept all_kept leaving type_levels all_type_levels of_type of_types all_settled parts_settled data_met functions_met all_matched applied collected all_collected sizes_in function_size chosen_in quantified closed filled all_filled read all_read opened_inside compared all_compared meet all_meet elements_agree slice_size indexed updated operation sized_type prim_size sizing type_of type_in instance instances used taken all_taken fields_taken bound_by erased all_erased is_free is_dim levels all_levels levels_within all_levels_within replaced all_replaced has some_has takes some_takes is_open some_open matched lacking all_lacking differing all_differing turns_from pattern_noted patterns_noted fields_noted sized all_sized turns_sized condition_sized right_sized inner_sized part_of changed_part has_sizes all_have_sizes fields_have_sizes with_sizes all_with_sizes fields_with_sizes ascribed coerced coercion parameter_size declared
two_sizes = refl

-- map f xs
mapped : size_of (call2 (the prim.Map) (var 3) (var 2)) ≡ Ok (array (name 0))
unfolding agree all_agree kept all_kept leaving type_levels all_type_levels of_type of_types all_settled parts_settled data_met functions_met all_matched applied collected all_collected sizes_in function_size chosen_in quantified closed filled all_filled read all_read opened_inside compared all_compared meet all_meet elements_agree slice_size indexed updated operation sized_type prim_size sizing type_of type_in instance instances used taken all_taken fields_taken bound_by erased all_erased is_free is_dim levels all_levels levels_within all_levels_within replaced all_replaced has some_has takes some_takes is_open some_open matched lacking all_lacking differing all_differing turns_from pattern_noted patterns_noted fields_noted sized all_sized turns_sized condition_sized right_sized inner_sized part_of changed_part has_sizes all_have_sizes fields_have_sizes with_sizes all_with_sizes fields_with_sizes ascribed coerced coercion parameter_size declared
mapped = refl

-- filter p xs: its size is met
filtered : size_of (call2 (the prim.Filter) (var 4) (var 2)) ≡ Ok (array (unknown 0 5))
unfolding agree all_agree kept all_kept leaving type_levels all_type_levels of_type of_types all_settled parts_settled data_met functions_met all_matched applied collected all_collected sizes_in function_size chosen_in quantified closed filled all_filled read all_read opened_inside compared all_compared meet all_meet elements_agree slice_size indexed updated operation sized_type prim_size sizing type_of type_in instance instances used taken all_taken fields_taken bound_by erased all_erased is_free is_dim levels all_levels levels_within all_levels_within replaced all_replaced has some_has takes some_takes is_open some_open matched lacking all_lacking differing all_differing turns_from pattern_noted patterns_noted fields_noted sized all_sized turns_sized condition_sized right_sized inner_sized part_of changed_part has_sizes all_have_sizes fields_have_sizes with_sizes all_with_sizes fields_with_sizes ascribed coerced coercion parameter_size declared
filtered = refl

-- map (\i -> iota m) (iota n)
rows : size_of (call2 (the prim.Map) (function 9 (iota (var 1))) (iota (var 0))) ≡ Ok (Level (name 0) (array (name 1)))
unfolding agree all_agree kept all_kept leaving type_levels all_type_levels of_type of_types all_settled parts_settled data_met functions_met all_matched applied collected all_collected sizes_in function_size chosen_in quantified closed filled all_filled read all_read opened_inside compared all_compared meet all_meet elements_agree slice_size indexed updated operation sized_type prim_size sizing type_of type_in instance instances used taken all_taken fields_taken bound_by erased all_erased is_free is_dim levels all_levels levels_within all_levels_within replaced all_replaced has some_has takes some_takes is_open some_open matched lacking all_lacking differing all_differing turns_from pattern_noted patterns_noted fields_noted sized all_sized turns_sized condition_sized right_sized inner_sized part_of changed_part has_sizes all_have_sizes fields_have_sizes with_sizes all_with_sizes fields_with_sizes ascribed coerced coercion parameter_size declared
rows = refl

-- map (\i -> iota i) (iota n): rows of many sizes
irregular : size_of (call2 (the prim.Map) (function 9 (iota (var 9))) (iota (var 0))) ≡ Err (Irregular 3)
unfolding agree all_agree kept all_kept leaving type_levels all_type_levels of_type of_types all_settled parts_settled data_met functions_met all_matched applied collected all_collected sizes_in function_size chosen_in quantified closed filled all_filled read all_read opened_inside compared all_compared meet all_meet elements_agree slice_size indexed updated operation sized_type prim_size sizing type_of type_in instance instances used taken all_taken fields_taken bound_by erased all_erased is_free is_dim levels all_levels levels_within all_levels_within replaced all_replaced has some_has takes some_takes is_open some_open matched lacking all_lacking differing all_differing turns_from pattern_noted patterns_noted fields_noted sized all_sized turns_sized condition_sized right_sized inner_sized part_of changed_part has_sizes all_have_sizes fields_have_sizes with_sizes all_with_sizes fields_with_sizes ascribed coerced coercion parameter_size declared
irregular = refl

-- map2 (\x y -> x) (iota n) (iota m): the second array is refused
different : size_of (call3 (the prim.Map2) first (iota (var 0)) (iota (var 1))) ≡ Err (Mismatch 12 (name 0) (name 1))
unfolding agree all_agree kept all_kept leaving type_levels all_type_levels of_type of_types all_settled parts_settled data_met functions_met all_matched applied collected all_collected sizes_in function_size chosen_in quantified closed filled all_filled read all_read opened_inside compared all_compared meet all_meet elements_agree slice_size indexed updated operation sized_type prim_size sizing type_of type_in instance instances used taken all_taken fields_taken bound_by erased all_erased is_free is_dim levels all_levels levels_within all_levels_within replaced all_replaced has some_has takes some_takes is_open some_open matched lacking all_lacking differing all_differing turns_from pattern_noted patterns_noted fields_noted sized all_sized turns_sized condition_sized right_sized inner_sized part_of changed_part has_sizes all_have_sizes fields_have_sizes with_sizes all_with_sizes fields_with_sizes ascribed coerced coercion parameter_size declared
different = refl

-- map2 (\x y -> iota x) (iota n) (iota m): data is matched before functions
first_refusal : size_of (call3 (the prim.Map2) (function 9 (function 10 (iota (var 9)))) (iota (var 0)) (iota (var 1))) ≡ Err (Mismatch 14 (name 0) (name 1))
unfolding agree all_agree kept all_kept leaving type_levels all_type_levels of_type of_types all_settled parts_settled data_met functions_met all_matched applied collected all_collected sizes_in function_size chosen_in quantified closed filled all_filled read all_read opened_inside compared all_compared meet all_meet elements_agree slice_size indexed updated operation sized_type prim_size sizing type_of type_in instance instances used taken all_taken fields_taken bound_by erased all_erased is_free is_dim levels all_levels levels_within all_levels_within replaced all_replaced has some_has takes some_takes is_open some_open matched lacking all_lacking differing all_differing turns_from pattern_noted patterns_noted fields_noted sized all_sized turns_sized condition_sized right_sized inner_sized part_of changed_part has_sizes all_have_sizes fields_have_sizes with_sizes all_with_sizes fields_with_sizes ascribed coerced coercion parameter_size declared
first_refusal = refl

-- [iota n, xs]
elements : size_of (array_of (iota (var 0)) (var 2)) ≡ Ok (Level (At (Const 2)) (array (name 0)))
unfolding agree all_agree kept all_kept leaving type_levels all_type_levels of_type of_types all_settled parts_settled data_met functions_met all_matched applied collected all_collected sizes_in function_size chosen_in quantified closed filled all_filled read all_read opened_inside compared all_compared meet all_meet elements_agree slice_size indexed updated operation sized_type prim_size sizing type_of type_in instance instances used taken all_taken fields_taken bound_by erased all_erased is_free is_dim levels all_levels levels_within all_levels_within replaced all_replaced has some_has takes some_takes is_open some_open matched lacking all_lacking differing all_differing turns_from pattern_noted patterns_noted fields_noted sized all_sized turns_sized condition_sized right_sized inner_sized part_of changed_part has_sizes all_have_sizes fields_have_sizes with_sizes all_with_sizes fields_with_sizes ascribed coerced coercion parameter_size declared
elements = refl

-- [iota n, iota m]
elements_differ : size_of (array_of (iota (var 0)) (iota (var 1))) ≡ Err (Mismatch 4 (name 0) (name 1))
unfolding agree all_agree kept all_kept leaving type_levels all_type_levels of_type of_types all_settled parts_settled data_met functions_met all_matched applied collected all_collected sizes_in function_size chosen_in quantified closed filled all_filled read all_read opened_inside compared all_compared meet all_meet elements_agree slice_size indexed updated operation sized_type prim_size sizing type_of type_in instance instances used taken all_taken fields_taken bound_by erased all_erased is_free is_dim levels all_levels levels_within all_levels_within replaced all_replaced has some_has takes some_takes is_open some_open matched lacking all_lacking differing all_differing turns_from pattern_noted patterns_noted fields_noted sized all_sized turns_sized condition_sized right_sized inner_sized part_of changed_part has_sizes all_have_sizes fields_have_sizes with_sizes all_with_sizes fields_with_sizes ascribed coerced coercion parameter_size declared
elements_differ = refl

-- let g = map in g (\i -> iota m) (iota 0)
later : size_in (but 2 (fun_ty (fun_ty i64_ty list_ty) (fun_ty list_ty (array_ty list_ty))) all_i64) (let_in 9 (the prim.Map) (call2 (var 9) (function 10 (iota (var 1))) (iota (literal 0)))) ≡ Ok (Level (At (Const 0)) (array (name 1)))
unfolding agree all_agree kept all_kept leaving type_levels all_type_levels of_type of_types all_settled parts_settled data_met functions_met all_matched applied collected all_collected sizes_in function_size chosen_in quantified closed filled all_filled read all_read opened_inside compared all_compared meet all_meet elements_agree slice_size indexed updated operation sized_type prim_size sizing type_of type_in instance instances used taken all_taken fields_taken bound_by erased all_erased is_free is_dim levels all_levels levels_within all_levels_within replaced all_replaced has some_has takes some_takes is_open some_open matched lacking all_lacking differing all_differing turns_from pattern_noted patterns_noted fields_noted sized all_sized turns_sized condition_sized right_sized inner_sized part_of changed_part has_sizes all_have_sizes fields_have_sizes with_sizes all_with_sizes fields_with_sizes ascribed coerced coercion parameter_size declared
later = refl

-- loop ys = xs for i < n do map f ys
loop_keeps : size_of (loop_over 9 (var 2) (call2 (the prim.Map) (var 3) (var 9))) ≡ Ok (array (name 0))
unfolding agree all_agree kept all_kept leaving type_levels all_type_levels of_type of_types all_settled parts_settled data_met functions_met all_matched applied collected all_collected sizes_in function_size chosen_in quantified closed filled all_filled read all_read opened_inside compared all_compared meet all_meet elements_agree slice_size indexed updated operation sized_type prim_size sizing type_of type_in instance instances used taken all_taken fields_taken bound_by erased all_erased is_free is_dim levels all_levels levels_within all_levels_within replaced all_replaced has some_has takes some_takes is_open some_open matched lacking all_lacking differing all_differing turns_from pattern_noted patterns_noted fields_noted sized all_sized turns_sized condition_sized right_sized inner_sized part_of changed_part has_sizes all_have_sizes fields_have_sizes with_sizes all_with_sizes fields_with_sizes ascribed coerced coercion parameter_size declared
loop_keeps = refl

-- loop ys = xs for i < n do filter p ys: the size of no turn is known
loop_drops : size_of (loop_over 9 (var 2) (call2 (the prim.Filter) (var 4) (var 9))) ≡ Ok (array (unknown 0 0))
unfolding agree all_agree kept all_kept leaving type_levels all_type_levels of_type of_types all_settled parts_settled data_met functions_met all_matched applied collected all_collected sizes_in function_size chosen_in quantified closed filled all_filled read all_read opened_inside compared all_compared meet all_meet elements_agree slice_size indexed updated operation sized_type prim_size sizing type_of type_in instance instances used taken all_taken fields_taken bound_by erased all_erased is_free is_dim levels all_levels levels_within all_levels_within replaced all_replaced has some_has takes some_takes is_open some_open matched lacking all_lacking differing all_differing turns_from pattern_noted patterns_noted fields_noted sized all_sized turns_sized condition_sized right_sized inner_sized part_of changed_part has_sizes all_have_sizes fields_have_sizes with_sizes all_with_sizes fields_with_sizes ascribed coerced coercion parameter_size declared
loop_drops = refl

-- loop ys = xs for i < n do loop zs = ys for i < n do filter p zs
loops_in_loops : size_of (loop_over 9 (var 2) (loop_over 10 (var 9) (call2 (the prim.Filter) (var 4) (var 10)))) ≡ Ok (array (unknown 0 0))
unfolding agree all_agree kept all_kept leaving type_levels all_type_levels of_type of_types all_settled parts_settled data_met functions_met all_matched applied collected all_collected sizes_in function_size chosen_in quantified closed filled all_filled read all_read opened_inside compared all_compared meet all_meet elements_agree slice_size indexed updated operation sized_type prim_size sizing type_of type_in instance instances used taken all_taken fields_taken bound_by erased all_erased is_free is_dim levels all_levels levels_within all_levels_within replaced all_replaced has some_has takes some_takes is_open some_open matched lacking all_lacking differing all_differing turns_from pattern_noted patterns_noted fields_noted sized all_sized turns_sized condition_sized right_sized inner_sized part_of changed_part has_sizes all_have_sizes fields_have_sizes with_sizes all_with_sizes fields_with_sizes ascribed coerced coercion parameter_size declared
loops_in_loops = refl

-- let [k] (ys: [k]i64) = filter p xs in map2 (\x y -> x) ys (iota k)
size_bound : size_of (Let (record { sizes = b 8 ∷ []; parameters = []; is_function = false; pattern = typed 7 8 }) (call2 (the prim.Filter) (var 4) (var 2)) (call3 (the prim.Map2) first (var 7) (iota (var 8)))) ≡ Ok (array (unknown 0 1))
unfolding agree all_agree kept all_kept leaving type_levels all_type_levels of_type of_types all_settled parts_settled data_met functions_met all_matched applied collected all_collected sizes_in function_size chosen_in quantified closed filled all_filled read all_read opened_inside compared all_compared meet all_meet elements_agree slice_size indexed updated operation sized_type prim_size sizing type_of type_in instance instances used taken all_taken fields_taken bound_by erased all_erased is_free is_dim levels all_levels levels_within all_levels_within replaced all_replaced has some_has takes some_takes is_open some_open matched lacking all_lacking differing all_differing turns_from pattern_noted patterns_noted fields_noted sized all_sized turns_sized condition_sized right_sized inner_sized part_of changed_part has_sizes all_have_sizes fields_have_sizes with_sizes all_with_sizes fields_with_sizes ascribed coerced coercion parameter_size declared
size_bound = refl

-- let ys = filter p xs in map2 (\x y -> x) ys (iota n)
size_unknown : size_of (let_in 7 (call2 (the prim.Filter) (var 4) (var 2)) (call3 (the prim.Map2) first (var 7) (iota (var 0)))) ≡ Err (Mismatch 17 (unknown 2 5) (name 0))
unfolding agree all_agree kept all_kept leaving type_levels all_type_levels of_type of_types all_settled parts_settled data_met functions_met all_matched applied collected all_collected sizes_in function_size chosen_in quantified closed filled all_filled read all_read opened_inside compared all_compared meet all_meet elements_agree slice_size indexed updated operation sized_type prim_size sizing type_of type_in instance instances used taken all_taken fields_taken bound_by erased all_erased is_free is_dim levels all_levels levels_within all_levels_within replaced all_replaced has some_has takes some_takes is_open some_open matched lacking all_lacking differing all_differing turns_from pattern_noted patterns_noted fields_noted sized all_sized turns_sized condition_sized right_sized inner_sized part_of changed_part has_sizes all_have_sizes fields_have_sizes with_sizes all_with_sizes fields_with_sizes ascribed coerced coercion parameter_size declared
size_unknown = refl

-- xs : [n]i64
ascribed_right : size_of (Strict (Ascribe (array_type 0)) here (term_and (var 2) no_term)) ≡ Ok (array (name 0))
unfolding agree all_agree kept all_kept leaving type_levels all_type_levels of_type of_types all_settled parts_settled data_met functions_met all_matched applied collected all_collected sizes_in function_size chosen_in quantified closed filled all_filled read all_read opened_inside compared all_compared meet all_meet elements_agree slice_size indexed updated operation sized_type prim_size sizing type_of type_in instance instances used taken all_taken fields_taken bound_by erased all_erased is_free is_dim levels all_levels levels_within all_levels_within replaced all_replaced has some_has takes some_takes is_open some_open matched lacking all_lacking differing all_differing turns_from pattern_noted patterns_noted fields_noted sized all_sized turns_sized condition_sized right_sized inner_sized part_of changed_part has_sizes all_have_sizes fields_have_sizes with_sizes all_with_sizes fields_with_sizes ascribed coerced coercion parameter_size declared
ascribed_right = refl

-- xs : [m]i64
ascribed_wrong : size_of (Strict (Ascribe (array_type 1)) here (term_and (var 2) no_term)) ≡ Err (Mismatch 1 (name 1) (name 0))
unfolding agree all_agree kept all_kept leaving type_levels all_type_levels of_type of_types all_settled parts_settled data_met functions_met all_matched applied collected all_collected sizes_in function_size chosen_in quantified closed filled all_filled read all_read opened_inside compared all_compared meet all_meet elements_agree slice_size indexed updated operation sized_type prim_size sizing type_of type_in instance instances used taken all_taken fields_taken bound_by erased all_erased is_free is_dim levels all_levels levels_within all_levels_within replaced all_replaced has some_has takes some_takes is_open some_open matched lacking all_lacking differing all_differing turns_from pattern_noted patterns_noted fields_noted sized all_sized turns_sized condition_sized right_sized inner_sized part_of changed_part has_sizes all_have_sizes fields_have_sizes with_sizes all_with_sizes fields_with_sizes ascribed coerced coercion parameter_size declared
ascribed_wrong = refl

-- xs :> [m]i64
coerced_to : size_of (Strict (Coerce (array_type 1)) here (term_and (var 2) no_term)) ≡ Ok (array (name 1))
unfolding agree all_agree kept all_kept leaving type_levels all_type_levels of_type of_types all_settled parts_settled data_met functions_met all_matched applied collected all_collected sizes_in function_size chosen_in quantified closed filled all_filled read all_read opened_inside compared all_compared meet all_meet elements_agree slice_size indexed updated operation sized_type prim_size sizing type_of type_in instance instances used taken all_taken fields_taken bound_by erased all_erased is_free is_dim levels all_levels levels_within all_levels_within replaced all_replaced has some_has takes some_takes is_open some_open matched lacking all_lacking differing all_differing turns_from pattern_noted patterns_noted fields_noted sized all_sized turns_sized condition_sized right_sized inner_sized part_of changed_part has_sizes all_have_sizes fields_have_sizes with_sizes all_with_sizes fields_with_sizes ascribed coerced coercion parameter_size declared
coerced_to = refl

-- let f [k] (ys: [k]i64) (zs: [k]i64): [k]i64 = map2 (\x y -> x) ys zs in f
size_parameter : size_in (but 3 list_ty (but 4 list_ty all_i64)) (let_function 7 8 (Lambda (pattern_and (typed 11 8) (pattern_and (typed 12 8) no_pattern)) (Strict (Declared (array_type 8)) here (term_and (call3 (the prim.Map2) first (var 11) (var 12)) no_term))) (var 7)) ≡ Ok (Fun 1 (array (Bound 0 0)) (Fun 0 (array (Bound 1 0)) (array (Bound 1 0))))
unfolding agree all_agree kept all_kept leaving type_levels all_type_levels of_type of_types all_settled parts_settled data_met functions_met all_matched applied collected all_collected sizes_in function_size chosen_in quantified closed filled all_filled read all_read opened_inside compared all_compared meet all_meet elements_agree slice_size indexed updated operation sized_type prim_size sizing type_of type_in instance instances used taken all_taken fields_taken bound_by erased all_erased is_free is_dim levels all_levels levels_within all_levels_within replaced all_replaced has some_has takes some_takes is_open some_open matched lacking all_lacking differing all_differing turns_from pattern_noted patterns_noted fields_noted sized all_sized turns_sized condition_sized right_sized inner_sized part_of changed_part has_sizes all_have_sizes fields_have_sizes with_sizes all_with_sizes fields_with_sizes ascribed coerced coercion parameter_size declared
size_parameter = refl

-- .. in f xs xs
one_parameter : size_in (but 3 list_ty (but 4 list_ty all_i64)) (let_function 7 8 (Lambda (pattern_and (typed 11 8) (pattern_and (typed 12 8) no_pattern)) (Strict (Declared (array_type 8)) here (term_and (call3 (the prim.Map2) first (var 11) (var 12)) no_term))) (call2 (var 7) (var 2) (var 2))) ≡ Ok (array (name 0))
unfolding agree all_agree kept all_kept leaving type_levels all_type_levels of_type of_types all_settled parts_settled data_met functions_met all_matched applied collected all_collected sizes_in function_size chosen_in quantified closed filled all_filled read all_read opened_inside compared all_compared meet all_meet elements_agree slice_size indexed updated operation sized_type prim_size sizing type_of type_in instance instances used taken all_taken fields_taken bound_by erased all_erased is_free is_dim levels all_levels levels_within all_levels_within replaced all_replaced has some_has takes some_takes is_open some_open matched lacking all_lacking differing all_differing turns_from pattern_noted patterns_noted fields_noted sized all_sized turns_sized condition_sized right_sized inner_sized part_of changed_part has_sizes all_have_sizes fields_have_sizes with_sizes all_with_sizes fields_with_sizes ascribed coerced coercion parameter_size declared
one_parameter = refl

-- .. in f xs (iota m)
two_parameters : size_in (but 3 list_ty (but 4 list_ty all_i64)) (let_function 7 8 (Lambda (pattern_and (typed 11 8) (pattern_and (typed 12 8) no_pattern)) (Strict (Declared (array_type 8)) here (term_and (call3 (the prim.Map2) first (var 11) (var 12)) no_term))) (call2 (var 7) (var 2) (iota (var 1)))) ≡ Err (Mismatch 21 (name 0) (name 1))
unfolding agree all_agree kept all_kept leaving type_levels all_type_levels of_type of_types all_settled parts_settled data_met functions_met all_matched applied collected all_collected sizes_in function_size chosen_in quantified closed filled all_filled read all_read opened_inside compared all_compared meet all_meet elements_agree slice_size indexed updated operation sized_type prim_size sizing type_of type_in instance instances used taken all_taken fields_taken bound_by erased all_erased is_free is_dim levels all_levels levels_within all_levels_within replaced all_replaced has some_has takes some_takes is_open some_open matched lacking all_lacking differing all_differing turns_from pattern_noted patterns_noted fields_noted sized all_sized turns_sized condition_sized right_sized inner_sized part_of changed_part has_sizes all_have_sizes fields_have_sizes with_sizes all_with_sizes fields_with_sizes ascribed coerced coercion parameter_size declared
two_parameters = refl

-- let f [k] x = x in f: nothing chooses k
unchosen_size : size_of (let_function 7 8 (function 11 (var 11)) (var 7)) ≡ Err (Escapes 4)
unfolding agree all_agree kept all_kept leaving type_levels all_type_levels of_type of_types all_settled parts_settled data_met functions_met all_matched applied collected all_collected sizes_in function_size chosen_in quantified closed filled all_filled read all_read opened_inside compared all_compared meet all_meet elements_agree slice_size indexed updated operation sized_type prim_size sizing type_of type_in instance instances used taken all_taken fields_taken bound_by erased all_erased is_free is_dim levels all_levels levels_within all_levels_within replaced all_replaced has some_has takes some_takes is_open some_open matched lacking all_lacking differing all_differing turns_from pattern_noted patterns_noted fields_noted sized all_sized turns_sized condition_sized right_sized inner_sized part_of changed_part has_sizes all_have_sizes fields_have_sizes with_sizes all_with_sizes fields_with_sizes ascribed coerced coercion parameter_size declared
unchosen_size = refl

-- let k = 3 in \(ys: [k]i64) -> 1: callers cannot name k
taken_size : size_in (but 4 list_ty all_i64) (let_in 8 (literal 3) (Lambda (pattern_and (typed 9 8) no_pattern) (literal 1))) ≡ Err (Escapes 0)
unfolding agree all_agree kept all_kept leaving type_levels all_type_levels of_type of_types all_settled parts_settled data_met functions_met all_matched applied collected all_collected sizes_in function_size chosen_in quantified closed filled all_filled read all_read opened_inside compared all_compared meet all_meet elements_agree slice_size indexed updated operation sized_type prim_size sizing type_of type_in instance instances used taken all_taken fields_taken bound_by erased all_erased is_free is_dim levels all_levels levels_within all_levels_within replaced all_replaced has some_has takes some_takes is_open some_open matched lacking all_lacking differing all_differing turns_from pattern_noted patterns_noted fields_noted sized all_sized turns_sized condition_sized right_sized inner_sized part_of changed_part has_sizes all_have_sizes fields_have_sizes with_sizes all_with_sizes fields_with_sizes ascribed coerced coercion parameter_size declared
taken_size = refl

-- reduce (\x y -> filter p x) xs [xs]
irregular_operator : size_of (call3 (the prim.Reduce) (function 9 (function 10 (call2 (the prim.Filter) (var 4) (var 9)))) (var 2) (Strict Array_of here (term_and (var 2) no_term))) ≡ Err (Irregular 4)
unfolding agree all_agree kept all_kept leaving type_levels all_type_levels of_type of_types all_settled parts_settled data_met functions_met all_matched applied collected all_collected sizes_in function_size chosen_in quantified closed filled all_filled read all_read opened_inside compared all_compared meet all_meet elements_agree slice_size indexed updated operation sized_type prim_size sizing type_of type_in instance instances used taken all_taken fields_taken bound_by erased all_erased is_free is_dim levels all_levels levels_within all_levels_within replaced all_replaced has some_has takes some_takes is_open some_open matched lacking all_lacking differing all_differing turns_from pattern_noted patterns_noted fields_noted sized all_sized turns_sized condition_sized right_sized inner_sized part_of changed_part has_sizes all_have_sizes fields_have_sizes with_sizes all_with_sizes fields_with_sizes ascribed coerced coercion parameter_size declared
irregular_operator = refl

-- 0..<n
range_to : size_of (Strict (Range false end.Below) here (term_and (literal 0) (term_and (var 0) no_term))) ≡ Ok (array (name 0))
unfolding agree all_agree kept all_kept leaving type_levels all_type_levels of_type of_types all_settled parts_settled data_met functions_met all_matched applied collected all_collected sizes_in function_size chosen_in quantified closed filled all_filled read all_read opened_inside compared all_compared meet all_meet elements_agree slice_size indexed updated operation sized_type prim_size sizing type_of type_in instance instances used taken all_taken fields_taken bound_by erased all_erased is_free is_dim levels all_levels levels_within all_levels_within replaced all_replaced has some_has takes some_takes is_open some_open matched lacking all_lacking differing all_differing turns_from pattern_noted patterns_noted fields_noted sized all_sized turns_sized condition_sized right_sized inner_sized part_of changed_part has_sizes all_have_sizes fields_have_sizes with_sizes all_with_sizes fields_with_sizes ascribed coerced coercion parameter_size declared
range_to = refl

-- 1..<n
range_from : size_of (Strict (Range false end.Below) here (term_and (literal 1) (term_and (var 0) no_term))) ≡ Ok (array (unknown 0 0))
unfolding agree all_agree kept all_kept leaving type_levels all_type_levels of_type of_types all_settled parts_settled data_met functions_met all_matched applied collected all_collected sizes_in function_size chosen_in quantified closed filled all_filled read all_read opened_inside compared all_compared meet all_meet elements_agree slice_size indexed updated operation sized_type prim_size sizing type_of type_in instance instances used taken all_taken fields_taken bound_by erased all_erased is_free is_dim levels all_levels levels_within all_levels_within replaced all_replaced has some_has takes some_takes is_open some_open matched lacking all_lacking differing all_differing turns_from pattern_noted patterns_noted fields_noted sized all_sized turns_sized condition_sized right_sized inner_sized part_of changed_part has_sizes all_have_sizes fields_have_sizes with_sizes all_with_sizes fields_with_sizes ascribed coerced coercion parameter_size declared
range_from = refl

-- let rows [k] (f: i64 -> [k]i64) = map f (iota 0) in rows (\i -> iota m)
told_by_function : size_in (but 3 (fun_ty i64_ty list_ty) all_i64) (let_function 7 8 (Lambda (pattern_and (Typed_pattern (named 11) (Arrow_type None i64_type (array_type 8))) no_pattern) (call2 (the prim.Map) (var 11) (iota (literal 0)))) (call (var 7) (function 12 (iota (var 1))))) ≡ Ok (Level (At (Const 0)) (array (name 1)))
unfolding agree all_agree kept all_kept leaving type_levels all_type_levels of_type of_types all_settled parts_settled data_met functions_met all_matched applied collected all_collected sizes_in function_size chosen_in quantified closed filled all_filled read all_read opened_inside compared all_compared meet all_meet elements_agree slice_size indexed updated operation sized_type prim_size sizing type_of type_in instance instances used taken all_taken fields_taken bound_by erased all_erased is_free is_dim levels all_levels levels_within all_levels_within replaced all_replaced has some_has takes some_takes is_open some_open matched lacking all_lacking differing all_differing turns_from pattern_noted patterns_noted fields_noted sized all_sized turns_sized condition_sized right_sized inner_sized part_of changed_part has_sizes all_have_sizes fields_have_sizes with_sizes all_with_sizes fields_with_sizes ascribed coerced coercion parameter_size declared
told_by_function = refl

-- .. in rows (\i -> iota i): k takes no size that is unknown
told_by_none : size_in (but 3 (fun_ty i64_ty list_ty) all_i64) (let_function 7 8 (Lambda (pattern_and (Typed_pattern (named 11) (Arrow_type None i64_type (array_type 8))) no_pattern) (call2 (the prim.Map) (var 11) (iota (literal 0)))) (call (var 7) (function 12 (iota (var 12))))) ≡ Err (Irregular 13)
unfolding agree all_agree kept all_kept leaving type_levels all_type_levels of_type of_types all_settled parts_settled data_met functions_met all_matched applied collected all_collected sizes_in function_size chosen_in quantified closed filled all_filled read all_read opened_inside compared all_compared meet all_meet elements_agree slice_size indexed updated operation sized_type prim_size sizing type_of type_in instance instances used taken all_taken fields_taken bound_by erased all_erased is_free is_dim levels all_levels levels_within all_levels_within replaced all_replaced has some_has takes some_takes is_open some_open matched lacking all_lacking differing all_differing turns_from pattern_noted patterns_noted fields_noted sized all_sized turns_sized condition_sized right_sized inner_sized part_of changed_part has_sizes all_have_sizes fields_have_sizes with_sizes all_with_sizes fields_with_sizes ascribed coerced coercion parameter_size declared
told_by_none = refl

-- let h = map f in h (iota m)
partial : size_of (let_in 7 (call (the prim.Map) (var 3)) (call (var 7) (iota (var 1)))) ≡ Ok (array (name 1))
unfolding agree all_agree kept all_kept leaving type_levels all_type_levels of_type of_types all_settled parts_settled data_met functions_met all_matched applied collected all_collected sizes_in function_size chosen_in quantified closed filled all_filled read all_read opened_inside compared all_compared meet all_meet elements_agree slice_size indexed updated operation sized_type prim_size sizing type_of type_in instance instances used taken all_taken fields_taken bound_by erased all_erased is_free is_dim levels all_levels levels_within all_levels_within replaced all_replaced has some_has takes some_takes is_open some_open matched lacking all_lacking differing all_differing turns_from pattern_noted patterns_noted fields_noted sized all_sized turns_sized condition_sized right_sized inner_sized part_of changed_part has_sizes all_have_sizes fields_have_sizes with_sizes all_with_sizes fields_with_sizes ascribed coerced coercion parameter_size declared
partial = refl

-- let h = map2 (\x y -> x) xs in h (iota m): the size was taken with xs
partial_differs : size_of (let_in 7 (call2 (the prim.Map2) first (var 2)) (call (var 7) (iota (var 1)))) ≡ Err (Mismatch 13 (name 0) (name 1))
unfolding agree all_agree kept all_kept leaving type_levels all_type_levels of_type of_types all_settled parts_settled data_met functions_met all_matched applied collected all_collected sizes_in function_size chosen_in quantified closed filled all_filled read all_read opened_inside compared all_compared meet all_meet elements_agree slice_size indexed updated operation sized_type prim_size sizing type_of type_in instance instances used taken all_taken fields_taken bound_by erased all_erased is_free is_dim levels all_levels levels_within all_levels_within replaced all_replaced has some_has takes some_takes is_open some_open matched lacking all_lacking differing all_differing turns_from pattern_noted patterns_noted fields_noted sized all_sized turns_sized condition_sized right_sized inner_sized part_of changed_part has_sizes all_have_sizes fields_have_sizes with_sizes all_with_sizes fields_with_sizes ascribed coerced coercion parameter_size declared
partial_differs = refl

-- let h = map (\zs -> length zs) in h [xs]: the rows of what h takes have any size
open_rows : size_in (but 5 list_ty all_i64) (let_in 7 (call (the prim.Map) (function 9 (call (the prim.Length) (var 9)))) (call (var 7) (Strict Array_of here (term_and (var 2) no_term)))) ≡ Ok (array (At (Const 1)))
unfolding agree all_agree kept all_kept leaving type_levels all_type_levels of_type of_types all_settled parts_settled data_met functions_met all_matched applied collected all_collected sizes_in function_size chosen_in quantified closed filled all_filled read all_read opened_inside compared all_compared meet all_meet elements_agree slice_size indexed updated operation sized_type prim_size sizing type_of type_in instance instances used taken all_taken fields_taken bound_by erased all_erased is_free is_dim levels all_levels levels_within all_levels_within replaced all_replaced has some_has takes some_takes is_open some_open matched lacking all_lacking differing all_differing turns_from pattern_noted patterns_noted fields_noted sized all_sized turns_sized condition_sized right_sized inner_sized part_of changed_part has_sizes all_have_sizes fields_have_sizes with_sizes all_with_sizes fields_with_sizes ascribed coerced coercion parameter_size declared
open_rows = refl

-- map (\(row: [m]i64) -> row) [xs]
row_differs : size_of (call2 (the prim.Map) (Lambda (pattern_and (typed 9 1) no_pattern) (var 9)) (Strict Array_of here (term_and (var 2) no_term))) ≡ Err (Mismatch 3 (name 1) (name 0))
unfolding agree all_agree kept all_kept leaving type_levels all_type_levels of_type of_types all_settled parts_settled data_met functions_met all_matched applied collected all_collected sizes_in function_size chosen_in quantified closed filled all_filled read all_read opened_inside compared all_compared meet all_meet elements_agree slice_size indexed updated operation sized_type prim_size sizing type_of type_in instance instances used taken all_taken fields_taken bound_by erased all_erased is_free is_dim levels all_levels levels_within all_levels_within replaced all_replaced has some_has takes some_takes is_open some_open matched lacking all_lacking differing all_differing turns_from pattern_noted patterns_noted fields_noted sized all_sized turns_sized condition_sized right_sized inner_sized part_of changed_part has_sizes all_have_sizes fields_have_sizes with_sizes all_with_sizes fields_with_sizes ascribed coerced coercion parameter_size declared
row_differs = refl

-- map (\(row: [n]i64) -> row) [xs]
row_agrees : size_of (call2 (the prim.Map) (Lambda (pattern_and (typed 9 0) no_pattern) (var 9)) (Strict Array_of here (term_and (var 2) no_term))) ≡ Ok (Level (At (Const 1)) (array (name 0)))
unfolding agree all_agree kept all_kept leaving type_levels all_type_levels of_type of_types all_settled parts_settled data_met functions_met all_matched applied collected all_collected sizes_in function_size chosen_in quantified closed filled all_filled read all_read opened_inside compared all_compared meet all_meet elements_agree slice_size indexed updated operation sized_type prim_size sizing type_of type_in instance instances used taken all_taken fields_taken bound_by erased all_erased is_free is_dim levels all_levels levels_within all_levels_within replaced all_replaced has some_has takes some_takes is_open some_open matched lacking all_lacking differing all_differing turns_from pattern_noted patterns_noted fields_noted sized all_sized turns_sized condition_sized right_sized inner_sized part_of changed_part has_sizes all_have_sizes fields_have_sizes with_sizes all_with_sizes fields_with_sizes ascribed coerced coercion parameter_size declared
row_agrees = refl

-- let f (g: (x: i64) -> [x]i64) = g n in f (\i -> iota i)
value_in_result : size_in (but 3 (fun_ty i64_ty list_ty) all_i64) (Let (record { sizes = []; parameters = []; is_function = true; pattern = named 7 }) (Lambda (pattern_and (Typed_pattern (named 11) (Arrow_type (Some (b 30)) i64_type (array_type 30))) no_pattern) (call (var 11) (var 0))) (call (var 7) (function 12 (iota (var 12))))) ≡ Ok (array (name 0))
unfolding agree all_agree kept all_kept leaving type_levels all_type_levels of_type of_types all_settled parts_settled data_met functions_met all_matched applied collected all_collected sizes_in function_size chosen_in quantified closed filled all_filled read all_read opened_inside compared all_compared meet all_meet elements_agree slice_size indexed updated operation sized_type prim_size sizing type_of type_in instance instances used taken all_taken fields_taken bound_by erased all_erased is_free is_dim levels all_levels levels_within all_levels_within replaced all_replaced has some_has takes some_takes is_open some_open matched lacking all_lacking differing all_differing turns_from pattern_noted patterns_noted fields_noted sized all_sized turns_sized condition_sized right_sized inner_sized part_of changed_part has_sizes all_have_sizes fields_have_sizes with_sizes all_with_sizes fields_with_sizes ascribed coerced coercion parameter_size declared
value_in_result = refl

-- xs[:m]
sliced : size_of (Strict (Index (part.Slice false true ∷ [])) here (term_and (var 2) (term_and (var 1) no_term))) ≡ Ok (array (name 1))
unfolding agree all_agree kept all_kept leaving type_levels all_type_levels of_type of_types all_settled parts_settled data_met functions_met all_matched applied collected all_collected sizes_in function_size chosen_in quantified closed filled all_filled read all_read opened_inside compared all_compared meet all_meet elements_agree slice_size indexed updated operation sized_type prim_size sizing type_of type_in instance instances used taken all_taken fields_taken bound_by erased all_erased is_free is_dim levels all_levels levels_within all_levels_within replaced all_replaced has some_has takes some_takes is_open some_open matched lacking all_lacking differing all_differing turns_from pattern_noted patterns_noted fields_noted sized all_sized turns_sized condition_sized right_sized inner_sized part_of changed_part has_sizes all_have_sizes fields_have_sizes with_sizes all_with_sizes fields_with_sizes ascribed coerced coercion parameter_size declared
sliced = refl

-- xs[:9223372036854775808]
sliced_too_far : size_of (Strict (Index (part.Slice false true ∷ [])) here (term_and (var 2) (term_and (literal 9223372036854775808) no_term))) ≡ Ok (array (unknown 0 0))
unfolding agree all_agree kept all_kept leaving type_levels all_type_levels of_type of_types all_settled parts_settled data_met functions_met all_matched applied collected all_collected sizes_in function_size chosen_in quantified closed filled all_filled read all_read opened_inside compared all_compared meet all_meet elements_agree slice_size indexed updated operation sized_type prim_size sizing type_of type_in instance instances used taken all_taken fields_taken bound_by erased all_erased is_free is_dim levels all_levels levels_within all_levels_within replaced all_replaced has some_has takes some_takes is_open some_open matched lacking all_lacking differing all_differing turns_from pattern_noted patterns_noted fields_noted sized all_sized turns_sized condition_sized right_sized inner_sized part_of changed_part has_sizes all_have_sizes fields_have_sizes with_sizes all_with_sizes fields_with_sizes ascribed coerced coercion parameter_size declared
sliced_too_far = refl

-- xs with [0] = 1
updated_element : size_of (Strict Update here (term_and (var 2) (term_and (literal 0) (term_and (literal 1) no_term)))) ≡ Ok (array (name 0))
unfolding agree all_agree kept all_kept leaving type_levels all_type_levels of_type of_types all_settled parts_settled data_met functions_met all_matched applied collected all_collected sizes_in function_size chosen_in quantified closed filled all_filled read all_read opened_inside compared all_compared meet all_meet elements_agree slice_size indexed updated operation sized_type prim_size sizing type_of type_in instance instances used taken all_taken fields_taken bound_by erased all_erased is_free is_dim levels all_levels levels_within all_levels_within replaced all_replaced has some_has takes some_takes is_open some_open matched lacking all_lacking differing all_differing turns_from pattern_noted patterns_noted fields_noted sized all_sized turns_sized condition_sized right_sized inner_sized part_of changed_part has_sizes all_have_sizes fields_have_sizes with_sizes all_with_sizes fields_with_sizes ascribed coerced coercion parameter_size declared
updated_element = refl

-- [xs] with [0] = iota m
updated_row : size_of (Strict Update here (term_and (Strict Array_of here (term_and (var 2) no_term)) (term_and (literal 0) (term_and (iota (var 1)) no_term)))) ≡ Err (Mismatch 4 (name 0) (name 1))
unfolding agree all_agree kept all_kept leaving type_levels all_type_levels of_type of_types all_settled parts_settled data_met functions_met all_matched applied collected all_collected sizes_in function_size chosen_in quantified closed filled all_filled read all_read opened_inside compared all_compared meet all_meet elements_agree slice_size indexed updated operation sized_type prim_size sizing type_of type_in instance instances used taken all_taken fields_taken bound_by erased all_erased is_free is_dim levels all_levels levels_within all_levels_within replaced all_replaced has some_has takes some_takes is_open some_open matched lacking all_lacking differing all_differing turns_from pattern_noted patterns_noted fields_noted sized all_sized turns_sized condition_sized right_sized inner_sized part_of changed_part has_sizes all_have_sizes fields_have_sizes with_sizes all_with_sizes fields_with_sizes ascribed coerced coercion parameter_size declared
updated_row = refl

-- loop ys = xs for zs in [iota n] do zs
loop_over_rows : size_of (Loop here [] (named 9) (var 2) (Over (named 10) (Strict Array_of here (term_and (iota (var 0)) no_term))) (var 10)) ≡ Ok (array (name 0))
unfolding agree all_agree kept all_kept leaving type_levels all_type_levels of_type of_types all_settled parts_settled data_met functions_met all_matched applied collected all_collected sizes_in function_size chosen_in quantified closed filled all_filled read all_read opened_inside compared all_compared meet all_meet elements_agree slice_size indexed updated operation sized_type prim_size sizing type_of type_in instance instances used taken all_taken fields_taken bound_by erased all_erased is_free is_dim levels all_levels levels_within all_levels_within replaced all_replaced has some_has takes some_takes is_open some_open matched lacking all_lacking differing all_differing turns_from pattern_noted patterns_noted fields_noted sized all_sized turns_sized condition_sized right_sized inner_sized part_of changed_part has_sizes all_have_sizes fields_have_sizes with_sizes all_with_sizes fields_with_sizes ascribed coerced coercion parameter_size declared
loop_over_rows = refl

-- transpose (map (\i -> iota m) (iota n))
transposed : size_of (call (the prim.Transpose) (call2 (the prim.Map) (function 9 (iota (var 1))) (iota (var 0)))) ≡ Ok (Level (name 1) (array (name 0)))
unfolding agree all_agree kept all_kept leaving type_levels all_type_levels of_type of_types all_settled parts_settled data_met functions_met all_matched applied collected all_collected sizes_in function_size chosen_in quantified closed filled all_filled read all_read opened_inside compared all_compared meet all_meet elements_agree slice_size indexed updated operation sized_type prim_size sizing type_of type_in instance instances used taken all_taken fields_taken bound_by erased all_erased is_free is_dim levels all_levels levels_within all_levels_within replaced all_replaced has some_has takes some_takes is_open some_open matched lacking all_lacking differing all_differing turns_from pattern_noted patterns_noted fields_noted sized all_sized turns_sized condition_sized right_sized inner_sized part_of changed_part has_sizes all_have_sizes fields_have_sizes with_sizes all_with_sizes fields_with_sizes ascribed coerced coercion parameter_size declared
transposed = refl

-- let (ys, zs) = partition p xs in zs
second_of_two : size_of (Let (record { sizes = []; parameters = []; is_function = false; pattern = Tuple_pattern (pattern_and (named 9) (pattern_and (named 10) no_pattern)) }) (call2 (the prim.Partition) (var 4) (var 2)) (var 10)) ≡ Ok (array (unknown 4 7))
unfolding agree all_agree kept all_kept leaving type_levels all_type_levels of_type of_types all_settled parts_settled data_met functions_met all_matched applied collected all_collected sizes_in function_size chosen_in quantified closed filled all_filled read all_read opened_inside compared all_compared meet all_meet elements_agree slice_size indexed updated operation sized_type prim_size sizing type_of type_in instance instances used taken all_taken fields_taken bound_by erased all_erased is_free is_dim levels all_levels levels_within all_levels_within replaced all_replaced has some_has takes some_takes is_open some_open matched lacking all_lacking differing all_differing turns_from pattern_noted patterns_noted fields_noted sized all_sized turns_sized condition_sized right_sized inner_sized part_of changed_part has_sizes all_have_sizes fields_have_sizes with_sizes all_with_sizes fields_with_sizes ascribed coerced coercion parameter_size declared
second_of_two = refl

-- unflatten n m xs
unflattened : size_of (call3 (the prim.Unflatten) (var 0) (var 1) (var 2)) ≡ Ok (Level (name 0) (array (name 1)))
unfolding agree all_agree kept all_kept leaving type_levels all_type_levels of_type of_types all_settled parts_settled data_met functions_met all_matched applied collected all_collected sizes_in function_size chosen_in quantified closed filled all_filled read all_read opened_inside compared all_compared meet all_meet elements_agree slice_size indexed updated operation sized_type prim_size sizing type_of type_in instance instances used taken all_taken fields_taken bound_by erased all_erased is_free is_dim levels all_levels levels_within all_levels_within replaced all_replaced has some_has takes some_takes is_open some_open matched lacking all_lacking differing all_differing turns_from pattern_noted patterns_noted fields_noted sized all_sized turns_sized condition_sized right_sized inner_sized part_of changed_part has_sizes all_have_sizes fields_have_sizes with_sizes all_with_sizes fields_with_sizes ascribed coerced coercion parameter_size declared
unflattened = refl

-- zip xs (iota m)
zipped : size_of (call2 (the prim.Zip) (var 2) (iota (var 1))) ≡ Err (Mismatch 4 (name 0) (name 1))
unfolding agree all_agree kept all_kept leaving type_levels all_type_levels of_type of_types all_settled parts_settled data_met functions_met all_matched applied collected all_collected sizes_in function_size chosen_in quantified closed filled all_filled read all_read opened_inside compared all_compared meet all_meet elements_agree slice_size indexed updated operation sized_type prim_size sizing type_of type_in instance instances used taken all_taken fields_taken bound_by erased all_erased is_free is_dim levels all_levels levels_within all_levels_within replaced all_replaced has some_has takes some_takes is_open some_open matched lacking all_lacking differing all_differing turns_from pattern_noted patterns_noted fields_noted sized all_sized turns_sized condition_sized right_sized inner_sized part_of changed_part has_sizes all_have_sizes fields_have_sizes with_sizes all_with_sizes fields_with_sizes ascribed coerced coercion parameter_size declared
zipped = refl

-- ---- the sized types of nodes inside

-- the sized type that a node of a term of these names has
abbrev node_in : Sub → FlatTerm → ℕ → Answer Size
node_in types e n = then_do (sized N types e [] 0 scope no_state) (λ d. then_do (finished N types 0 d.result d.state) (λ u. Ok (u.state.nodes n)))

abbrev node_of : FlatTerm → ℕ → Answer Size
node_of e n = node_in all_i64 e n

abbrev blank_type : FlatType
blank_type = Array_type (Size_blank (b 40)) i64_type

-- a function's type: what it takes, what it gives
abbrev arrow_type : FlatType → FlatType → FlatType
arrow_type from to = Arrow_type None from to

-- a general name of a function of one parameter with a type
abbrev let_typed : ℕ → FlatType → FlatTerm → FlatTerm → FlatTerm
let_typed f t v e = Let (record { sizes = []; parameters = []; is_function = true; pattern = named f }) (Lambda (pattern_and (Typed_pattern (named 11) t) no_pattern) v) e

abbrev list_to : Ty → Ty
list_to t = fun_ty list_ty t

-- map f xs: what is applied to xs
function_applied : node_of (call2 (the prim.Map) (var 3) (var 2)) 1 ≡ Ok (Fun 1 (array (Bound 0 0)) (array (Bound 0 0)))
unfolding agree all_agree kept all_kept leaving type_levels all_type_levels of_type of_types all_settled parts_settled data_met functions_met all_matched applied collected all_collected sizes_in function_size chosen_in quantified closed filled all_filled read all_read opened_inside compared all_compared meet all_meet elements_agree slice_size indexed updated operation sized_type prim_size sizing type_of type_in instance instances used taken all_taken fields_taken bound_by erased all_erased is_free is_dim levels all_levels levels_within all_levels_within replaced all_replaced has some_has takes some_takes is_open some_open matched lacking all_lacking differing all_differing turns_from pattern_noted patterns_noted fields_noted sized all_sized turns_sized condition_sized right_sized inner_sized part_of changed_part has_sizes all_have_sizes fields_have_sizes with_sizes all_with_sizes fields_with_sizes ascribed coerced coercion parameter_size declared
function_applied = refl

-- and map itself
primitive_used : node_of (call2 (the prim.Map) (var 3) (var 2)) 2 ≡ Ok (Fun 0 to_i64 (Fun 1 (array (Bound 0 0)) (array (Bound 0 0))))
unfolding agree all_agree kept all_kept leaving type_levels all_type_levels of_type of_types all_settled parts_settled data_met functions_met all_matched applied collected all_collected sizes_in function_size chosen_in quantified closed filled all_filled read all_read opened_inside compared all_compared meet all_meet elements_agree slice_size indexed updated operation sized_type prim_size sizing type_of type_in instance instances used taken all_taken fields_taken bound_by erased all_erased is_free is_dim levels all_levels levels_within all_levels_within replaced all_replaced has some_has takes some_takes is_open some_open matched lacking all_lacking differing all_differing turns_from pattern_noted patterns_noted fields_noted sized all_sized turns_sized condition_sized right_sized inner_sized part_of changed_part has_sizes all_have_sizes fields_have_sizes with_sizes all_with_sizes fields_with_sizes ascribed coerced coercion parameter_size declared
primitive_used = refl

-- and f
function_used : node_of (call2 (the prim.Map) (var 3) (var 2)) 3 ≡ Ok to_i64
unfolding agree all_agree kept all_kept leaving type_levels all_type_levels of_type of_types all_settled parts_settled data_met functions_met all_matched applied collected all_collected sizes_in function_size chosen_in quantified closed filled all_filled read all_read opened_inside compared all_compared meet all_meet elements_agree slice_size indexed updated operation sized_type prim_size sizing type_of type_in instance instances used taken all_taken fields_taken bound_by erased all_erased is_free is_dim levels all_levels levels_within all_levels_within replaced all_replaced has some_has takes some_takes is_open some_open matched lacking all_lacking differing all_differing turns_from pattern_noted patterns_noted fields_noted sized all_sized turns_sized condition_sized right_sized inner_sized part_of changed_part has_sizes all_have_sizes fields_have_sizes with_sizes all_with_sizes fields_with_sizes ascribed coerced coercion parameter_size declared
function_used = refl

-- let g (f: []i64 -> i64) = f xs in g (\ys -> length ys): the lambda takes arrays of any size
lambda_chooses : node_in (but 3 (list_to i64_ty) (but 10 list_ty all_i64)) (let_typed 7 (arrow_type blank_type i64_type) (call (var 11) (var 2)) (call (var 7) (function 12 (call (the prim.Length) (var 12))))) 9 ≡ Ok (Fun 1 (array (Bound 0 0)) i64)
unfolding agree all_agree kept all_kept leaving type_levels all_type_levels of_type of_types all_settled parts_settled data_met functions_met all_matched applied collected all_collected sizes_in function_size chosen_in quantified closed filled all_filled read all_read opened_inside compared all_compared meet all_meet elements_agree slice_size indexed updated operation sized_type prim_size sizing type_of type_in instance instances used taken all_taken fields_taken bound_by erased all_erased is_free is_dim levels all_levels levels_within all_levels_within replaced all_replaced has some_has takes some_takes is_open some_open matched lacking all_lacking differing all_differing turns_from pattern_noted patterns_noted fields_noted sized all_sized turns_sized condition_sized right_sized inner_sized part_of changed_part has_sizes all_have_sizes fields_have_sizes with_sizes all_with_sizes fields_with_sizes ascribed coerced coercion parameter_size declared
lambda_chooses = refl

-- so its parameter has a size of its own
lambda_parameter : node_in (but 3 (list_to i64_ty) (but 10 list_ty all_i64)) (let_typed 7 (arrow_type blank_type i64_type) (call (var 11) (var 2)) (call (var 7) (function 12 (call (the prim.Length) (var 12))))) 10 ≡ Ok (array (At (Own 10 0)))
unfolding agree all_agree kept all_kept leaving type_levels all_type_levels of_type of_types all_settled parts_settled data_met functions_met all_matched applied collected all_collected sizes_in function_size chosen_in quantified closed filled all_filled read all_read opened_inside compared all_compared meet all_meet elements_agree slice_size indexed updated operation sized_type prim_size sizing type_of type_in instance instances used taken all_taken fields_taken bound_by erased all_erased is_free is_dim levels all_levels levels_within all_levels_within replaced all_replaced has some_has takes some_takes is_open some_open matched lacking all_lacking differing all_differing turns_from pattern_noted patterns_noted fields_noted sized all_sized turns_sized condition_sized right_sized inner_sized part_of changed_part has_sizes all_have_sizes fields_have_sizes with_sizes all_with_sizes fields_with_sizes ascribed coerced coercion parameter_size declared
lambda_parameter = refl

-- let g (f: []i64 -> i64) = f xs in g length
use_is_wanted : node_in (but 3 (list_to i64_ty) (but 10 list_ty all_i64)) (let_typed 7 (arrow_type blank_type i64_type) (call (var 11) (var 2)) (call (var 7) (the prim.Length))) 9 ≡ Ok (Fun 1 (array (Bound 0 0)) i64)
unfolding agree all_agree kept all_kept leaving type_levels all_type_levels of_type of_types all_settled parts_settled data_met functions_met all_matched applied collected all_collected sizes_in function_size chosen_in quantified closed filled all_filled read all_read opened_inside compared all_compared meet all_meet elements_agree slice_size indexed updated operation sized_type prim_size sizing type_of type_in instance instances used taken all_taken fields_taken bound_by erased all_erased is_free is_dim levels all_levels levels_within all_levels_within replaced all_replaced has some_has takes some_takes is_open some_open matched lacking all_lacking differing all_differing turns_from pattern_noted patterns_noted fields_noted sized all_sized turns_sized condition_sized right_sized inner_sized part_of changed_part has_sizes all_have_sizes fields_have_sizes with_sizes all_with_sizes fields_with_sizes ascribed coerced coercion parameter_size declared
use_is_wanted = refl

-- let g f = f xs in g (\ys -> ys), where g may call f with other arrays: what f gives has no size
size_of_caller : size_in (but 3 (list_to (Var 5)) (but 8 (fun_ty (list_to list_ty) list_ty) all_i64)) (Let (record { sizes = []; parameters = []; is_function = true; pattern = named 7 }) (function 11 (call (var 11) (var 2))) (call (var 7) (function 12 (var 12)))) ≡ Err (Irregular 9)
unfolding agree all_agree kept all_kept leaving type_levels all_type_levels of_type of_types all_settled parts_settled data_met functions_met all_matched applied collected all_collected sizes_in function_size chosen_in quantified closed filled all_filled read all_read opened_inside compared all_compared meet all_meet elements_agree slice_size indexed updated operation sized_type prim_size sizing type_of type_in instance instances used taken all_taken fields_taken bound_by erased all_erased is_free is_dim levels all_levels levels_within all_levels_within replaced all_replaced has some_has takes some_takes is_open some_open matched lacking all_lacking differing all_differing turns_from pattern_noted patterns_noted fields_noted sized all_sized turns_sized condition_sized right_sized inner_sized part_of changed_part has_sizes all_have_sizes fields_have_sizes with_sizes all_with_sizes fields_with_sizes ascribed coerced coercion parameter_size declared
size_of_caller = refl

-- map (\ys -> map f ys) [xs]: what the lambda takes has the size of a row
size_of_operand : node_in (but 4 list_ty all_i64) (call2 (the prim.Map) (function 9 (call2 (the prim.Map) (var 3) (var 9))) (Strict Array_of here (term_and (var 2) no_term))) 3 ≡ Ok (Fun 0 (array (name 0)) (array (name 0)))
unfolding agree all_agree kept all_kept leaving type_levels all_type_levels of_type of_types all_settled parts_settled data_met functions_met all_matched applied collected all_collected sizes_in function_size chosen_in quantified closed filled all_filled read all_read opened_inside compared all_compared meet all_meet elements_agree slice_size indexed updated operation sized_type prim_size sizing type_of type_in instance instances used taken all_taken fields_taken bound_by erased all_erased is_free is_dim levels all_levels levels_within all_levels_within replaced all_replaced has some_has takes some_takes is_open some_open matched lacking all_lacking differing all_differing turns_from pattern_noted patterns_noted fields_noted sized all_sized turns_sized condition_sized right_sized inner_sized part_of changed_part has_sizes all_have_sizes fields_have_sizes with_sizes all_with_sizes fields_with_sizes ascribed coerced coercion parameter_size declared
size_of_operand = refl

-- let g (f: (k: i64) -> [k]i64) = f n in g (\i -> iota i): the lambda gives as many as it is told
argument_value : node_in (but 3 (fun_ty i64_ty list_ty) all_i64) (let_typed 7 (Arrow_type (Some (b 30)) i64_type (array_type 30)) (call (var 11) (var 0)) (call (var 7) (function 12 (iota (var 12))))) 9 ≡ Ok (Fun 0 i64 (array (Bound 0 0)))
unfolding agree all_agree kept all_kept leaving type_levels all_type_levels of_type of_types all_settled parts_settled data_met functions_met all_matched applied collected all_collected sizes_in function_size chosen_in quantified closed filled all_filled read all_read opened_inside compared all_compared meet all_meet elements_agree slice_size indexed updated operation sized_type prim_size sizing type_of type_in instance instances used taken all_taken fields_taken bound_by erased all_erased is_free is_dim levels all_levels levels_within all_levels_within replaced all_replaced has some_has takes some_takes is_open some_open matched lacking all_lacking differing all_differing turns_from pattern_noted patterns_noted fields_noted sized all_sized turns_sized condition_sized right_sized inner_sized part_of changed_part has_sizes all_have_sizes fields_have_sizes with_sizes all_with_sizes fields_with_sizes ascribed coerced coercion parameter_size declared
argument_value = refl

-- let h = map (\zs -> length zs) in h [xs]: map itself takes functions of arrays of any size
open_function : node_in (but 5 list_ty all_i64) (let_in 7 (call (the prim.Map) (function 9 (call (the prim.Length) (var 9)))) (call (var 7) (Strict Array_of here (term_and (var 2) no_term)))) 3 ≡ Ok (Fun 1 (Fun 0 (array (Bound 1 0)) i64) (Fun 1 (Level (Bound 0 0) (array (Bound 1 0))) (array (Bound 0 0))))
unfolding agree all_agree kept all_kept leaving type_levels all_type_levels of_type of_types all_settled parts_settled data_met functions_met all_matched applied collected all_collected sizes_in function_size chosen_in quantified closed filled all_filled read all_read opened_inside compared all_compared meet all_meet elements_agree slice_size indexed updated operation sized_type prim_size sizing type_of type_in instance instances used taken all_taken fields_taken bound_by erased all_erased is_free is_dim levels all_levels levels_within all_levels_within replaced all_replaced has some_has takes some_takes is_open some_open matched lacking all_lacking differing all_differing turns_from pattern_noted patterns_noted fields_noted sized all_sized turns_sized condition_sized right_sized inner_sized part_of changed_part has_sizes all_have_sizes fields_have_sizes with_sizes all_with_sizes fields_with_sizes ascribed coerced coercion parameter_size declared
open_function = refl

-- and so does what h is
open_application : node_in (but 5 list_ty all_i64) (let_in 7 (call (the prim.Map) (function 9 (call (the prim.Length) (var 9)))) (call (var 7) (Strict Array_of here (term_and (var 2) no_term)))) 2 ≡ Ok (Fun 2 (Level (Bound 0 0) (array (Bound 0 1))) (array (Bound 0 0)))
unfolding agree all_agree kept all_kept leaving type_levels all_type_levels of_type of_types all_settled parts_settled data_met functions_met all_matched applied collected all_collected sizes_in function_size chosen_in quantified closed filled all_filled read all_read opened_inside compared all_compared meet all_meet elements_agree slice_size indexed updated operation sized_type prim_size sizing type_of type_in instance instances used taken all_taken fields_taken bound_by erased all_erased is_free is_dim levels all_levels levels_within all_levels_within replaced all_replaced has some_has takes some_takes is_open some_open matched lacking all_lacking differing all_differing turns_from pattern_noted patterns_noted fields_noted sized all_sized turns_sized condition_sized right_sized inner_sized part_of changed_part has_sizes all_have_sizes fields_have_sizes with_sizes all_with_sizes fields_with_sizes ascribed coerced coercion parameter_size declared
open_application = refl

-- ---- more programs

-- one record type, of two fields
abbrev label_a : Text
label_a = 97 ∷ []

abbrev label_bc : Text
label_bc = 98 ∷ 99 ∷ []

abbrev R : Names
R = record { label = λ s. length s; shapes = record { fields = λ n. 1 ∷ 2 ∷ []; position = λ n. None } }

abbrev pair_ty : Ty
pair_ty = Made (head.Record 0) (more list_ty (more list_ty none))

abbrev size_with : Names → Sub → FlatTerm → Answer Size
size_with names types e = then_do (sized names types e [] 0 scope no_state) (λ d. then_do (finished names types 0 d.result d.state) (λ u. Ok u.result))

-- n + m: the second number of an operator is that of its operands
operands : node_of (Strict (Binary bin.Add) here (term_and (var 0) (term_and (var 1) no_term))) 1 ≡ Ok i64
unfolding agree all_agree kept all_kept leaving type_levels all_type_levels of_type of_types all_settled parts_settled data_met functions_met all_matched applied collected all_collected sizes_in function_size chosen_in quantified closed filled all_filled read all_read opened_inside compared all_compared meet all_meet elements_agree slice_size indexed updated operation sized_type prim_size sizing type_of type_in instance instances used taken all_taken fields_taken bound_by erased all_erased is_free is_dim levels all_levels levels_within all_levels_within replaced all_replaced has some_has takes some_takes is_open some_open matched lacking all_lacking differing all_differing turns_from pattern_noted patterns_noted fields_noted sized all_sized turns_sized condition_sized right_sized inner_sized part_of changed_part has_sizes all_have_sizes fields_have_sizes with_sizes all_with_sizes fields_with_sizes ascribed coerced coercion parameter_size declared
operands = refl

-- let g x y z = z in g 1, of type i64 -> a -> a: the array that it takes at last may have any size
chosen_last : size_in (but 5 (Var 5) (but 8 (fun_ty i64_ty (fun_ty i64_ty (list_to list_ty))) all_i64)) (Let (record { sizes = []; parameters = []; is_function = true; pattern = named 7 }) (Lambda (pattern_and (named 11) (pattern_and (named 12) (pattern_and (named 13) no_pattern))) (var 13)) (call (var 7) (literal 1))) ≡ Ok (Fun 0 i64 (Fun 1 (array (Bound 0 0)) (array (Bound 0 0))))
unfolding agree all_agree kept all_kept leaving type_levels all_type_levels of_type of_types all_settled parts_settled data_met functions_met all_matched applied collected all_collected sizes_in function_size chosen_in quantified closed filled all_filled read all_read opened_inside compared all_compared meet all_meet elements_agree slice_size indexed updated operation sized_type prim_size sizing type_of type_in instance instances used taken all_taken fields_taken bound_by erased all_erased is_free is_dim levels all_levels levels_within all_levels_within replaced all_replaced has some_has takes some_takes is_open some_open matched lacking all_lacking differing all_differing turns_from pattern_noted patterns_noted fields_noted sized all_sized turns_sized condition_sized right_sized inner_sized part_of changed_part has_sizes all_have_sizes fields_have_sizes with_sizes all_with_sizes fields_with_sizes ascribed coerced coercion parameter_size declared
chosen_last = refl

-- let id 'a (x: a) = x in id f
lifted : size_in (but 3 (Made (head.Rigid 40 kind.Any) none) (but 6 (fun_ty (fun_ty i64_ty i64_ty) (fun_ty i64_ty i64_ty)) all_i64)) (Let (record { sizes = []; parameters = Type_parameter (b 40) true ∷ []; is_function = true; pattern = named 7 }) (Lambda (pattern_and (Typed_pattern (named 11) (Type_use (ref.Bound (b 40)) no_arg)) no_pattern) (var 11)) (call (var 7) (var 3))) ≡ Ok to_i64
unfolding agree all_agree kept all_kept leaving type_levels all_type_levels of_type of_types all_settled parts_settled data_met functions_met all_matched applied collected all_collected sizes_in function_size chosen_in quantified closed filled all_filled read all_read opened_inside compared all_compared meet all_meet elements_agree slice_size indexed updated operation sized_type prim_size sizing type_of type_in instance instances used taken all_taken fields_taken bound_by erased all_erased is_free is_dim levels all_levels levels_within all_levels_within replaced all_replaced has some_has takes some_takes is_open some_open matched lacking all_lacking differing all_differing turns_from pattern_noted patterns_noted fields_noted sized all_sized turns_sized condition_sized right_sized inner_sized part_of changed_part has_sizes all_have_sizes fields_have_sizes with_sizes all_with_sizes fields_with_sizes ascribed coerced coercion parameter_size declared
lifted = refl

-- map (let v = 1 in \x -> x) xs: a section is a function like any other
section : size_of (call2 (the prim.Map) (let_in 9 (literal 1) (function 10 (var 10))) (var 2)) ≡ Ok (array (name 0))
unfolding agree all_agree kept all_kept leaving type_levels all_type_levels of_type of_types all_settled parts_settled data_met functions_met all_matched applied collected all_collected sizes_in function_size chosen_in quantified closed filled all_filled read all_read opened_inside compared all_compared meet all_meet elements_agree slice_size indexed updated operation sized_type prim_size sizing type_of type_in instance instances used taken all_taken fields_taken bound_by erased all_erased is_free is_dim levels all_levels levels_within all_levels_within replaced all_replaced has some_has takes some_takes is_open some_open matched lacking all_lacking differing all_differing turns_from pattern_noted patterns_noted fields_noted sized all_sized turns_sized condition_sized right_sized inner_sized part_of changed_part has_sizes all_have_sizes fields_have_sizes with_sizes all_with_sizes fields_with_sizes ascribed coerced coercion parameter_size declared
section = refl

-- loop ys = xs while true do map f ys
while_keeps : size_of (Loop here [] (named 9) (var 2) (While (Strict (Truth true) here no_term)) (call2 (the prim.Map) (var 3) (var 9))) ≡ Ok (array (name 0))
unfolding agree all_agree kept all_kept leaving type_levels all_type_levels of_type of_types all_settled parts_settled data_met functions_met all_matched applied collected all_collected sizes_in function_size chosen_in quantified closed filled all_filled read all_read opened_inside compared all_compared meet all_meet elements_agree slice_size indexed updated operation sized_type prim_size sizing type_of type_in instance instances used taken all_taken fields_taken bound_by erased all_erased is_free is_dim levels all_levels levels_within all_levels_within replaced all_replaced has some_has takes some_takes is_open some_open matched lacking all_lacking differing all_differing turns_from pattern_noted patterns_noted fields_noted sized all_sized turns_sized condition_sized right_sized inner_sized part_of changed_part has_sizes all_have_sizes fields_have_sizes with_sizes all_with_sizes fields_with_sizes ascribed coerced coercion parameter_size declared
while_keeps = refl

-- loop ys = xs while true do filter p ys
while_drops : size_of (Loop here [] (named 9) (var 2) (While (Strict (Truth true) here no_term)) (call2 (the prim.Filter) (var 4) (var 9))) ≡ Ok (array (unknown 0 0))
unfolding agree all_agree kept all_kept leaving type_levels all_type_levels of_type of_types all_settled parts_settled data_met functions_met all_matched applied collected all_collected sizes_in function_size chosen_in quantified closed filled all_filled read all_read opened_inside compared all_compared meet all_meet elements_agree slice_size indexed updated operation sized_type prim_size sizing type_of type_in instance instances used taken all_taken fields_taken bound_by erased all_erased is_free is_dim levels all_levels levels_within all_levels_within replaced all_replaced has some_has takes some_takes is_open some_open matched lacking all_lacking differing all_differing turns_from pattern_noted patterns_noted fields_noted sized all_sized turns_sized condition_sized right_sized inner_sized part_of changed_part has_sizes all_have_sizes fields_have_sizes with_sizes all_with_sizes fields_with_sizes ascribed coerced coercion parameter_size declared
while_drops = refl

-- loop [k] (ys: [k]i64) = xs for i < n do iota k
loop_size : size_of (Loop here (b 8 ∷ []) (typed 9 8) (var 2) (Counted (b 20) (var 0)) (iota (var 8))) ≡ Ok (array (name 0))
unfolding agree all_agree kept all_kept leaving type_levels all_type_levels of_type of_types all_settled parts_settled data_met functions_met all_matched applied collected all_collected sizes_in function_size chosen_in quantified closed filled all_filled read all_read opened_inside compared all_compared meet all_meet elements_agree slice_size indexed updated operation sized_type prim_size sizing type_of type_in instance instances used taken all_taken fields_taken bound_by erased all_erased is_free is_dim levels all_levels levels_within all_levels_within replaced all_replaced has some_has takes some_takes is_open some_open matched lacking all_lacking differing all_differing turns_from pattern_noted patterns_noted fields_noted sized all_sized turns_sized condition_sized right_sized inner_sized part_of changed_part has_sizes all_have_sizes fields_have_sizes with_sizes all_with_sizes fields_with_sizes ascribed coerced coercion parameter_size declared
loop_size = refl

-- loop [k] ys = xs for i < n do ys: k stands in no type, which is told at the body
loop_size_unmet : size_of (Loop here (b 8 ∷ []) (named 9) (var 2) (Counted (b 20) (var 0)) (var 9)) ≡ Err (Escapes 5)
unfolding agree all_agree kept all_kept leaving type_levels all_type_levels of_type of_types all_settled parts_settled data_met functions_met all_matched applied collected all_collected sizes_in function_size chosen_in quantified closed filled all_filled read all_read opened_inside compared all_compared meet all_meet elements_agree slice_size indexed updated operation sized_type prim_size sizing type_of type_in instance instances used taken all_taken fields_taken bound_by erased all_erased is_free is_dim levels all_levels levels_within all_levels_within replaced all_replaced has some_has takes some_takes is_open some_open matched lacking all_lacking differing all_differing turns_from pattern_noted patterns_noted fields_noted sized all_sized turns_sized condition_sized right_sized inner_sized part_of changed_part has_sizes all_have_sizes fields_have_sizes with_sizes all_with_sizes fields_with_sizes ascribed coerced coercion parameter_size declared
loop_size_unmet = refl

-- loop [k] ys = xs while true do ys: behind the condition
while_size_unmet : size_of (Loop here (b 8 ∷ []) (named 9) (var 2) (While (Strict (Truth true) here no_term)) (var 9)) ≡ Err (Escapes 4)
unfolding agree all_agree kept all_kept leaving type_levels all_type_levels of_type of_types all_settled parts_settled data_met functions_met all_matched applied collected all_collected sizes_in function_size chosen_in quantified closed filled all_filled read all_read opened_inside compared all_compared meet all_meet elements_agree slice_size indexed updated operation sized_type prim_size sizing type_of type_in instance instances used taken all_taken fields_taken bound_by erased all_erased is_free is_dim levels all_levels levels_within all_levels_within replaced all_replaced has some_has takes some_takes is_open some_open matched lacking all_lacking differing all_differing turns_from pattern_noted patterns_noted fields_noted sized all_sized turns_sized condition_sized right_sized inner_sized part_of changed_part has_sizes all_have_sizes fields_have_sizes with_sizes all_with_sizes fields_with_sizes ascribed coerced coercion parameter_size declared
while_size_unmet = refl

-- loop [k] (ys: [n]i64) = iota m for i < n do ys: what differs is told at the first value
loop_size_differs : size_of (Loop here (b 8 ∷ []) (typed 9 0) (iota (var 1)) (Counted (b 20) (var 0)) (var 9)) ≡ Err (Mismatch 2 (name 0) (name 1))
unfolding agree all_agree kept all_kept leaving type_levels all_type_levels of_type of_types all_settled parts_settled data_met functions_met all_matched applied collected all_collected sizes_in function_size chosen_in quantified closed filled all_filled read all_read opened_inside compared all_compared meet all_meet elements_agree slice_size indexed updated operation sized_type prim_size sizing type_of type_in instance instances used taken all_taken fields_taken bound_by erased all_erased is_free is_dim levels all_levels levels_within all_levels_within replaced all_replaced has some_has takes some_takes is_open some_open matched lacking all_lacking differing all_differing turns_from pattern_noted patterns_noted fields_noted sized all_sized turns_sized condition_sized right_sized inner_sized part_of changed_part has_sizes all_have_sizes fields_have_sizes with_sizes all_with_sizes fields_with_sizes ascribed coerced coercion parameter_size declared
loop_size_differs = refl

-- [zip xs (iota m), map (\i -> iota i) xs]: the first refusal
first_of_two : size_of (array_of (call2 (the prim.Zip) (var 2) (iota (var 1))) (call2 (the prim.Map) (function 9 (iota (var 9))) (var 2))) ≡ Err (Mismatch 5 (name 0) (name 1))
unfolding agree all_agree kept all_kept leaving type_levels all_type_levels of_type of_types all_settled parts_settled data_met functions_met all_matched applied collected all_collected sizes_in function_size chosen_in quantified closed filled all_filled read all_read opened_inside compared all_compared meet all_meet elements_agree slice_size indexed updated operation sized_type prim_size sizing type_of type_in instance instances used taken all_taken fields_taken bound_by erased all_erased is_free is_dim levels all_levels levels_within all_levels_within replaced all_replaced has some_has takes some_takes is_open some_open matched lacking all_lacking differing all_differing turns_from pattern_noted patterns_noted fields_noted sized all_sized turns_sized condition_sized right_sized inner_sized part_of changed_part has_sizes all_have_sizes fields_have_sizes with_sizes all_with_sizes fields_with_sizes ascribed coerced coercion parameter_size declared
first_of_two = refl

-- map (\(row: [m]i64) -> zip xs (iota m)) [xs]: a parameter before the body
parameter_first : size_of (call2 (the prim.Map) (Lambda (pattern_and (typed 9 1) no_pattern) (call2 (the prim.Zip) (var 2) (iota (var 1)))) (Strict Array_of here (term_and (var 2) no_term))) ≡ Err (Mismatch 3 (name 1) (name 0))
unfolding agree all_agree kept all_kept leaving type_levels all_type_levels of_type of_types all_settled parts_settled data_met functions_met all_matched applied collected all_collected sizes_in function_size chosen_in quantified closed filled all_filled read all_read opened_inside compared all_compared meet all_meet elements_agree slice_size indexed updated operation sized_type prim_size sizing type_of type_in instance instances used taken all_taken fields_taken bound_by erased all_erased is_free is_dim levels all_levels levels_within all_levels_within replaced all_replaced has some_has takes some_takes is_open some_open matched lacking all_lacking differing all_differing turns_from pattern_noted patterns_noted fields_noted sized all_sized turns_sized condition_sized right_sized inner_sized part_of changed_part has_sizes all_have_sizes fields_have_sizes with_sizes all_with_sizes fields_with_sizes ascribed coerced coercion parameter_size declared
parameter_first = refl

-- (\ys -> 1) :> [n]i64 -> i64: no run tells the sizes of functions
coerced_function : size_in (but 2 list_ty all_i64) (Strict (Coerce (arrow_type (array_type 0) i64_type)) here (term_and (function 9 (literal 1)) no_term)) ≡ Err (Mismatch 1 (name 0) (At (Own 1 0)))
unfolding agree all_agree kept all_kept leaving type_levels all_type_levels of_type of_types all_settled parts_settled data_met functions_met all_matched applied collected all_collected sizes_in function_size chosen_in quantified closed filled all_filled read all_read opened_inside compared all_compared meet all_meet elements_agree slice_size indexed updated operation sized_type prim_size sizing type_of type_in instance instances used taken all_taken fields_taken bound_by erased all_erased is_free is_dim levels all_levels levels_within all_levels_within replaced all_replaced has some_has takes some_takes is_open some_open matched lacking all_lacking differing all_differing turns_from pattern_noted patterns_noted fields_noted sized all_sized turns_sized condition_sized right_sized inner_sized part_of changed_part has_sizes all_have_sizes fields_have_sizes with_sizes all_with_sizes fields_with_sizes ascribed coerced coercion parameter_size declared
coerced_function = refl

-- let g x: []i64 -> []i64 = \ys -> ys in g: callers know no size of what comes last
declared_function : size_in (but 6 list_ty all_i64) (Let (record { sizes = []; parameters = []; is_function = true; pattern = named 7 }) (function 11 (Strict (Declared (arrow_type blank_type blank_type)) here (term_and (function 12 (var 12)) no_term))) (var 7)) ≡ Ok (Fun 0 i64 (Fun 1 (array (Bound 0 0)) (array (Bound 0 2))))
unfolding agree all_agree kept all_kept leaving type_levels all_type_levels of_type of_types all_settled parts_settled data_met functions_met all_matched applied collected all_collected sizes_in function_size chosen_in quantified closed filled all_filled read all_read opened_inside compared all_compared meet all_meet elements_agree slice_size indexed updated operation sized_type prim_size sizing type_of type_in instance instances used taken all_taken fields_taken bound_by erased all_erased is_free is_dim levels all_levels levels_within all_levels_within replaced all_replaced has some_has takes some_takes is_open some_open matched lacking all_lacking differing all_differing turns_from pattern_noted patterns_noted fields_noted sized all_sized turns_sized condition_sized right_sized inner_sized part_of changed_part has_sizes all_have_sizes fields_have_sizes with_sizes all_with_sizes fields_with_sizes ascribed coerced coercion parameter_size declared
declared_function = refl

-- {a = xs, bc = iota m}.bc
record_part : size_with R (but 1 pair_ty (but 2 pair_ty all_i64)) (Strict (Project label_bc) here (term_and (Strict (Record_of (label_a ∷ label_bc ∷ [])) here (term_and (var 2) (term_and (iota (var 1)) no_term))) no_term)) ≡ Ok (array (name 1))
unfolding place place_from agree all_agree kept all_kept leaving type_levels all_type_levels of_type of_types all_settled parts_settled data_met functions_met all_matched applied collected all_collected sizes_in function_size chosen_in quantified closed filled all_filled read all_read opened_inside compared all_compared meet all_meet elements_agree slice_size indexed updated operation sized_type prim_size sizing type_of type_in instance instances used taken all_taken fields_taken bound_by erased all_erased is_free is_dim levels all_levels levels_within all_levels_within replaced all_replaced has some_has takes some_takes is_open some_open matched lacking all_lacking differing all_differing turns_from pattern_noted patterns_noted fields_noted sized all_sized turns_sized condition_sized right_sized inner_sized part_of changed_part has_sizes all_have_sizes fields_have_sizes with_sizes all_with_sizes fields_with_sizes ascribed coerced coercion parameter_size declared
record_part = refl

-- {a = xs, bc = iota m} with a = iota m
record_replaced : size_with R (but 0 pair_ty (but 1 pair_ty all_i64)) (Strict (Replace label_a) here (term_and (Strict (Record_of (label_a ∷ label_bc ∷ [])) here (term_and (var 2) (term_and (iota (var 1)) no_term))) (term_and (iota (var 1)) no_term))) ≡ Ok (Built (head.Record 0) (size_and (array (name 1)) (size_and (array (name 1)) no_size)))
unfolding place place_from agree all_agree kept all_kept leaving type_levels all_type_levels of_type of_types all_settled parts_settled data_met functions_met all_matched applied collected all_collected sizes_in function_size chosen_in quantified closed filled all_filled read all_read opened_inside compared all_compared meet all_meet elements_agree slice_size indexed updated operation sized_type prim_size sizing type_of type_in instance instances used taken all_taken fields_taken bound_by erased all_erased is_free is_dim levels all_levels levels_within all_levels_within replaced all_replaced has some_has takes some_takes is_open some_open matched lacking all_lacking differing all_differing turns_from pattern_noted patterns_noted fields_noted sized all_sized turns_sized condition_sized right_sized inner_sized part_of changed_part has_sizes all_have_sizes fields_have_sizes with_sizes all_with_sizes fields_with_sizes ascribed coerced coercion parameter_size declared
record_replaced = refl

-- ---- sizes that are met inside functions

-- 5 wants a function that gives an array of its second argument's value, and 6 gives one of a size that its first application meets
abbrev met_before : Scope
met_before = with_name 6 (Fun 0 i64 (Fun 0 i64 (array (Bound 1 1)))) (with_name 5 (Fun 0 (Fun 0 i64 (Fun 0 i64 (array (Bound 0 0)))) i64) scope)

abbrev size_among : Scope → Sub → FlatTerm → Answer Size
size_among among types e = then_do (sized N types e [] 0 among no_state) (λ d. then_do (finished N types 0 d.result d.state) (λ u. Ok u.result))

-- no size that is met is the value of an argument
met_is_no_value : size_among met_before all_i64 (call (var 5) (var 6)) ≡ Err (Mismatch 2 (unknown 0 5) (unknown 0 4))
unfolding agree all_agree kept all_kept leaving type_levels all_type_levels of_type of_types all_settled parts_settled data_met functions_met all_matched applied collected all_collected sizes_in function_size chosen_in quantified closed filled all_filled read all_read opened_inside compared all_compared meet all_meet elements_agree slice_size indexed updated operation sized_type prim_size sizing type_of type_in instance instances used taken all_taken fields_taken bound_by erased all_erased is_free is_dim levels all_levels levels_within all_levels_within replaced all_replaced has some_has takes some_takes is_open some_open matched lacking all_lacking differing all_differing turns_from pattern_noted patterns_noted fields_noted sized all_sized turns_sized condition_sized right_sized inner_sized part_of changed_part has_sizes all_have_sizes fields_have_sizes with_sizes all_with_sizes fields_with_sizes ascribed coerced coercion parameter_size declared
met_is_no_value = refl

-- 5 takes a function from functions that give some type, and an array of that type; 6 takes functions that give any array
abbrev any_array : Scope
any_array = with_name 6 (Fun 0 (Fun 0 i64 (array (Bound 0 1))) i64) (with_known 5 (record { size = Fun 0 (pair_size (Fun 0 (Fun 0 i64 (Hole (Inferred 0))) i64) (Hole (Inferred 0))) (Hole (Inferred 0)); is_general = true }) scope)

abbrev taking_ty : Ty
taking_ty = fun_ty (Made head.Tuple (more (fun_ty (fun_ty i64_ty list_ty) i64_ty) (more list_ty none))) list_ty

-- a type variable that took an array of any size takes the size of the next one
any_size_taken : size_among any_array (but 1 taking_ty all_i64) (call (var 5) (Strict Tuple_of here (term_and (var 6) (term_and (var 2) no_term)))) ≡ Ok (array (name 0))
unfolding agree all_agree kept all_kept leaving type_levels all_type_levels of_type of_types all_settled parts_settled data_met functions_met all_matched applied collected all_collected sizes_in function_size chosen_in quantified closed filled all_filled read all_read opened_inside compared all_compared meet all_meet elements_agree slice_size indexed updated operation sized_type prim_size sizing type_of type_in instance instances used taken all_taken fields_taken bound_by erased all_erased is_free is_dim levels all_levels levels_within all_levels_within replaced all_replaced has some_has takes some_takes is_open some_open matched lacking all_lacking differing all_differing turns_from pattern_noted patterns_noted fields_noted sized all_sized turns_sized condition_sized right_sized inner_sized part_of changed_part has_sizes all_have_sizes fields_have_sizes with_sizes all_with_sizes fields_with_sizes ascribed coerced coercion parameter_size declared
any_size_taken = refl

-- what is met outside of a function type keeps its frame inside
kept_frame : in_opened (opened_inside (wanted_frame 0 4 0) none_opened) (Fun 0 i64 (array (Bound 1 1))) ≡ Fun 0 i64 (array (Bound 1 5))
unfolding replaced all_replaced opened_inside
kept_frame = refl

-- ---- compositions

-- the sugar of f >-> g, and of f <-< g
abbrev then_apply : FlatTerm → FlatTerm → FlatTerm
then_apply f g = let_in 50 f (let_in 51 g (function 52 (call (var 51) (call (var 50) (var 52)))))

abbrev after_apply : FlatTerm → FlatTerm → FlatTerm
after_apply f g = let_in 50 f (let_in 51 g (function 52 (call (var 50) (call (var 51) (var 52)))))

abbrev there : Place
there = record { file = 0; line = 2; column = 1 }

abbrev to_list : Size
to_list = Fun 0 (array (name 0)) (array (name 0))

-- map2 (\x y -> x) xs >-> reverse
composed : size_in (but 15 list_ty (but 16 list_ty (but 18 list_ty all_i64))) (then_apply (call2 (the prim.Map2) first (var 2)) (the prim.Reverse)) ≡ Ok to_list
unfolding agree all_agree kept all_kept leaving type_levels all_type_levels of_type of_types all_settled parts_settled data_met functions_met all_matched applied collected all_collected sizes_in function_size chosen_in quantified closed filled all_filled read all_read opened_inside compared all_compared meet all_meet elements_agree slice_size indexed updated operation sized_type prim_size sizing type_of type_in instance instances used taken all_taken fields_taken bound_by erased all_erased is_free is_dim levels all_levels levels_within all_levels_within replaced all_replaced has some_has takes some_takes is_open some_open matched lacking all_lacking differing all_differing turns_from pattern_noted patterns_noted fields_noted sized all_sized turns_sized condition_sized right_sized inner_sized part_of changed_part has_sizes all_have_sizes fields_have_sizes with_sizes all_with_sizes fields_with_sizes ascribed coerced coercion parameter_size declared
composed = refl

-- what it is applied to has the size of xs
composed_parameter : node_in (but 15 list_ty (but 16 list_ty (but 18 list_ty all_i64))) (then_apply (call2 (the prim.Map2) first (var 2)) (the prim.Reverse)) 15 ≡ Ok (array (name 0))
unfolding agree all_agree kept all_kept leaving type_levels all_type_levels of_type of_types all_settled parts_settled data_met functions_met all_matched applied collected all_collected sizes_in function_size chosen_in quantified closed filled all_filled read all_read opened_inside compared all_compared meet all_meet elements_agree slice_size indexed updated operation sized_type prim_size sizing type_of type_in instance instances used taken all_taken fields_taken bound_by erased all_erased is_free is_dim levels all_levels levels_within all_levels_within replaced all_replaced has some_has takes some_takes is_open some_open matched lacking all_lacking differing all_differing turns_from pattern_noted patterns_noted fields_noted sized all_sized turns_sized condition_sized right_sized inner_sized part_of changed_part has_sizes all_have_sizes fields_have_sizes with_sizes all_with_sizes fields_with_sizes ascribed coerced coercion parameter_size declared
composed_parameter = refl

-- and reverse is used at that size
composed_second : node_in (but 15 list_ty (but 16 list_ty (but 18 list_ty all_i64))) (then_apply (call2 (the prim.Map2) first (var 2)) (the prim.Reverse)) 13 ≡ Ok to_list
unfolding agree all_agree kept all_kept leaving type_levels all_type_levels of_type of_types all_settled parts_settled data_met functions_met all_matched applied collected all_collected sizes_in function_size chosen_in quantified closed filled all_filled read all_read opened_inside compared all_compared meet all_meet elements_agree slice_size indexed updated operation sized_type prim_size sizing type_of type_in instance instances used taken all_taken fields_taken bound_by erased all_erased is_free is_dim levels all_levels levels_within all_levels_within replaced all_replaced has some_has takes some_takes is_open some_open matched lacking all_lacking differing all_differing turns_from pattern_noted patterns_noted fields_noted sized all_sized turns_sized condition_sized right_sized inner_sized part_of changed_part has_sizes all_have_sizes fields_have_sizes with_sizes all_with_sizes fields_with_sizes ascribed coerced coercion parameter_size declared
composed_second = refl

-- reverse <-< map2 (\x y -> x) xs
composed_after : size_in (but 15 list_ty (but 16 list_ty (but 18 list_ty all_i64))) (after_apply (the prim.Reverse) (call2 (the prim.Map2) first (var 2))) ≡ Ok to_list
unfolding agree all_agree kept all_kept leaving type_levels all_type_levels of_type of_types all_settled parts_settled data_met functions_met all_matched applied collected all_collected sizes_in function_size chosen_in quantified closed filled all_filled read all_read opened_inside compared all_compared meet all_meet elements_agree slice_size indexed updated operation sized_type prim_size sizing type_of type_in instance instances used taken all_taken fields_taken bound_by erased all_erased is_free is_dim levels all_levels levels_within all_levels_within replaced all_replaced has some_has takes some_takes is_open some_open matched lacking all_lacking differing all_differing turns_from pattern_noted patterns_noted fields_noted sized all_sized turns_sized condition_sized right_sized inner_sized part_of changed_part has_sizes all_have_sizes fields_have_sizes with_sizes all_with_sizes fields_with_sizes ascribed coerced coercion parameter_size declared
composed_after = refl

-- reverse >-> map2 (\x y -> x) xs
composed_before : size_in (but 15 list_ty (but 16 list_ty (but 18 list_ty all_i64))) (then_apply (the prim.Reverse) (call2 (the prim.Map2) first (var 2))) ≡ Ok to_list
unfolding agree all_agree kept all_kept leaving type_levels all_type_levels of_type of_types all_settled parts_settled data_met functions_met all_matched applied collected all_collected sizes_in function_size chosen_in quantified closed filled all_filled read all_read opened_inside compared all_compared meet all_meet elements_agree slice_size indexed updated operation sized_type prim_size sizing type_of type_in instance instances used taken all_taken fields_taken bound_by erased all_erased is_free is_dim levels all_levels levels_within all_levels_within replaced all_replaced has some_has takes some_takes is_open some_open matched lacking all_lacking differing all_differing turns_from pattern_noted patterns_noted fields_noted sized all_sized turns_sized condition_sized right_sized inner_sized part_of changed_part has_sizes all_have_sizes fields_have_sizes with_sizes all_with_sizes fields_with_sizes ascribed coerced coercion parameter_size declared
composed_before = refl

-- reverse >-> reverse takes arrays of any size
composed_open : size_in (but 2 (list_to list_ty) (but 5 (list_to list_ty) (but 7 list_ty (but 8 list_ty (but 10 list_ty all_i64))))) (then_apply (the prim.Reverse) (the prim.Reverse)) ≡ Ok (Fun 1 (array (Bound 0 0)) (array (Bound 0 0)))
unfolding agree all_agree kept all_kept leaving type_levels all_type_levels of_type of_types all_settled parts_settled data_met functions_met all_matched applied collected all_collected sizes_in function_size chosen_in quantified closed filled all_filled read all_read opened_inside compared all_compared meet all_meet elements_agree slice_size indexed updated operation sized_type prim_size sizing type_of type_in instance instances used taken all_taken fields_taken bound_by erased all_erased is_free is_dim levels all_levels levels_within all_levels_within replaced all_replaced has some_has takes some_takes is_open some_open matched lacking all_lacking differing all_differing turns_from pattern_noted patterns_noted fields_noted sized all_sized turns_sized condition_sized right_sized inner_sized part_of changed_part has_sizes all_have_sizes fields_have_sizes with_sizes all_with_sizes fields_with_sizes ascribed coerced coercion parameter_size declared
composed_open = refl

-- filter p >-> length: a type variable takes no size that is unknown in the result of a function
composed_irregular : size_in (but 9 list_ty (but 12 list_ty all_i64)) (then_apply (call (the prim.Filter) (var 4)) (the prim.Length)) ≡ Err (Irregular 2)
unfolding agree all_agree kept all_kept leaving type_levels all_type_levels of_type of_types all_settled parts_settled data_met functions_met all_matched applied collected all_collected sizes_in function_size chosen_in quantified closed filled all_filled read all_read opened_inside compared all_compared meet all_meet elements_agree slice_size indexed updated operation sized_type prim_size sizing type_of type_in instance instances used taken all_taken fields_taken bound_by erased all_erased is_free is_dim levels all_levels levels_within all_levels_within replaced all_replaced has some_has takes some_takes is_open some_open matched lacking all_lacking differing all_differing turns_from pattern_noted patterns_noted fields_noted sized all_sized turns_sized condition_sized right_sized inner_sized part_of changed_part has_sizes all_have_sizes fields_have_sizes with_sizes all_with_sizes fields_with_sizes ascribed coerced coercion parameter_size declared
composed_irregular = refl

-- let f = map2 (\x y -> x) xs let g = reverse in \x -> g (f x): no composition, and the parameter has a size of its own
no_composition : size_in (but 15 list_ty (but 16 list_ty (but 18 list_ty all_i64))) (let_in 50 (call2 (the prim.Map2) first (var 2)) (let_in 51 (the prim.Reverse) (function 52 (call (var 51) (call (var 50) (Use (ref.Bound (b 52)) there 0)))))) ≡ Err (Mismatch 20 (name 0) (At (Own 15 0)))
unfolding agree all_agree kept all_kept leaving type_levels all_type_levels of_type of_types all_settled parts_settled data_met functions_met all_matched applied collected all_collected sizes_in function_size chosen_in quantified closed filled all_filled read all_read opened_inside compared all_compared meet all_meet elements_agree slice_size indexed updated operation sized_type prim_size sizing type_of type_in instance instances used taken all_taken fields_taken bound_by erased all_erased is_free is_dim levels all_levels levels_within all_levels_within replaced all_replaced has some_has takes some_takes is_open some_open matched lacking all_lacking differing all_differing turns_from pattern_noted patterns_noted fields_noted sized all_sized turns_sized condition_sized right_sized inner_sized part_of changed_part has_sizes all_have_sizes fields_have_sizes with_sizes all_with_sizes fields_with_sizes ascribed coerced coercion parameter_size declared
no_composition = refl

-- ---- sizes that an argument leaves open

-- 5 takes a function of arrays and a number and gives such an array, 6 takes arrays of any size; 7 takes two functions of arrays
abbrev to_any : Size
to_any = Fun 1 (array (Bound 0 0)) i64

abbrev opening : Scope
opening = with_name 7 (Fun 1 (Fun 0 (array (Bound 1 0)) i64) (Fun 1 (Fun 0 (array (Bound 1 0)) i64) (Level (Bound 1 0) (array (Bound 0 0))))) (with_name 6 to_any (with_name 5 (Fun 1 (Fun 0 (array (Bound 1 0)) i64) (Fun 0 i64 (array (Bound 1 0)))) scope))

abbrev node_among : Scope → Sub → FlatTerm → ℕ → Answer Size
node_among among types e n = then_do (sized N types e [] 0 among no_state) (λ d. then_do (finished N types 0 d.result d.state) (λ u. Ok (u.state.nodes n)))

-- f h 3: what nothing says is unknown where f is applied to h
open_size : size_among opening all_i64 (call2 (var 5) (var 6) (literal 3)) ≡ Ok (array (unknown 1 0))
unfolding agree all_agree kept all_kept leaving type_levels all_type_levels of_type of_types all_settled parts_settled data_met functions_met all_matched applied collected all_collected sizes_in function_size chosen_in quantified closed filled all_filled read all_read opened_inside compared all_compared meet all_meet elements_agree slice_size indexed updated operation sized_type prim_size sizing type_of type_in instance instances used taken all_taken fields_taken bound_by erased all_erased is_free is_dim levels all_levels levels_within all_levels_within replaced all_replaced has some_has takes some_takes is_open some_open matched lacking all_lacking differing all_differing turns_from pattern_noted patterns_noted fields_noted sized all_sized turns_sized condition_sized right_sized inner_sized part_of changed_part has_sizes all_have_sizes fields_have_sizes with_sizes all_with_sizes fields_with_sizes ascribed coerced coercion parameter_size declared
open_size = refl

-- so the function that is applied to 3 knows nothing of that application
open_before : node_among opening all_i64 (call2 (var 5) (var 6) (literal 3)) 1 ≡ Ok (Fun 0 i64 (array (unknown 1 0)))
unfolding agree all_agree kept all_kept leaving type_levels all_type_levels of_type of_types all_settled parts_settled data_met functions_met all_matched applied collected all_collected sizes_in function_size chosen_in quantified closed filled all_filled read all_read opened_inside compared all_compared meet all_meet elements_agree slice_size indexed updated operation sized_type prim_size sizing type_of type_in instance instances used taken all_taken fields_taken bound_by erased all_erased is_free is_dim levels all_levels levels_within all_levels_within replaced all_replaced has some_has takes some_takes is_open some_open matched lacking all_lacking differing all_differing turns_from pattern_noted patterns_noted fields_noted sized all_sized turns_sized condition_sized right_sized inner_sized part_of changed_part has_sizes all_have_sizes fields_have_sizes with_sizes all_with_sizes fields_with_sizes ascribed coerced coercion parameter_size declared
open_before = refl

-- g h h: one is unknown where g is applied to the first h, the other where that is applied to the second
open_sizes : size_among opening all_i64 (call2 (var 7) (var 6) (var 6)) ≡ Ok (Level (unknown 1 0) (array (unknown 0 5)))
unfolding agree all_agree kept all_kept leaving type_levels all_type_levels of_type of_types all_settled parts_settled data_met functions_met all_matched applied collected all_collected sizes_in function_size chosen_in quantified closed filled all_filled read all_read opened_inside compared all_compared meet all_meet elements_agree slice_size indexed updated operation sized_type prim_size sizing type_of type_in instance instances used taken all_taken fields_taken bound_by erased all_erased is_free is_dim levels all_levels levels_within all_levels_within replaced all_replaced has some_has takes some_takes is_open some_open matched lacking all_lacking differing all_differing turns_from pattern_noted patterns_noted fields_noted sized all_sized turns_sized condition_sized right_sized inner_sized part_of changed_part has_sizes all_have_sizes fields_have_sizes with_sizes all_with_sizes fields_with_sizes ascribed coerced coercion parameter_size declared
open_sizes = refl

-- f h xs, where f 'a (g: a -> i64) (x: i64): a: the array that h takes is what a is
abbrev open_variable : Scope
open_variable = with_name 6 to_any (with_known 5 (record { size = Fun 0 (Fun 0 (Hole (Inferred 0)) i64) (Fun 0 i64 (Hole (Inferred 0))); is_general = true }) scope)

abbrev open_types : Sub
open_types = but 2 (fun_ty (list_to i64_ty) (fun_ty i64_ty list_ty)) all_i64

open_taken : node_among open_variable open_types (call2 (var 5) (var 6) (literal 3)) 1 ≡ Ok (Fun 0 i64 (array (unknown 1 3)))
unfolding agree all_agree kept all_kept leaving type_levels all_type_levels of_type of_types all_settled parts_settled data_met functions_met all_matched applied collected all_collected sizes_in function_size chosen_in quantified closed filled all_filled read all_read opened_inside compared all_compared meet all_meet elements_agree slice_size indexed updated operation sized_type prim_size sizing type_of type_in instance instances used taken all_taken fields_taken bound_by erased all_erased is_free is_dim levels all_levels levels_within all_levels_within replaced all_replaced has some_has takes some_takes is_open some_open matched lacking all_lacking differing all_differing turns_from pattern_noted patterns_noted fields_noted sized all_sized turns_sized condition_sized right_sized inner_sized part_of changed_part has_sizes all_have_sizes fields_have_sizes with_sizes all_with_sizes fields_with_sizes ascribed coerced coercion parameter_size declared
open_taken = refl

open_given : size_among open_variable open_types (call2 (var 5) (var 6) (literal 3)) ≡ Ok (array (unknown 1 3))
unfolding agree all_agree kept all_kept leaving type_levels all_type_levels of_type of_types all_settled parts_settled data_met functions_met all_matched applied collected all_collected sizes_in function_size chosen_in quantified closed filled all_filled read all_read opened_inside compared all_compared meet all_meet elements_agree slice_size indexed updated operation sized_type prim_size sizing type_of type_in instance instances used taken all_taken fields_taken bound_by erased all_erased is_free is_dim levels all_levels levels_within all_levels_within replaced all_replaced has some_has takes some_takes is_open some_open matched lacking all_lacking differing all_differing turns_from pattern_noted patterns_noted fields_noted sized all_sized turns_sized condition_sized right_sized inner_sized part_of changed_part has_sizes all_have_sizes fields_have_sizes with_sizes all_with_sizes fields_with_sizes ascribed coerced coercion parameter_size declared
open_given = refl

-- f 1 2, where f 'a (x: i64) (y: i64): a, and a is an array: it is unknown where f is used
abbrev open_use : Scope
open_use = with_known 5 (record { size = Fun 0 i64 (Fun 0 i64 (Hole (Inferred 0))); is_general = true }) scope

nothing_taken : node_among open_use (but 2 (fun_ty i64_ty (fun_ty i64_ty list_ty)) all_i64) (call2 (var 5) (literal 1) (literal 2)) 1 ≡ Ok (Fun 0 i64 (array (unknown 2 2)))
unfolding agree all_agree kept all_kept leaving type_levels all_type_levels of_type of_types all_settled parts_settled data_met functions_met all_matched applied collected all_collected sizes_in function_size chosen_in quantified closed filled all_filled read all_read opened_inside compared all_compared meet all_meet elements_agree slice_size indexed updated operation sized_type prim_size sizing type_of type_in instance instances used taken all_taken fields_taken bound_by erased all_erased is_free is_dim levels all_levels levels_within all_levels_within replaced all_replaced has some_has takes some_takes is_open some_open matched lacking all_lacking differing all_differing turns_from pattern_noted patterns_noted fields_noted sized all_sized turns_sized condition_sized right_sized inner_sized part_of changed_part has_sizes all_have_sizes fields_have_sizes with_sizes all_with_sizes fields_with_sizes ascribed coerced coercion parameter_size declared
nothing_taken = refl

-- ---- names of parts

abbrev pair : ℕ → ℕ → FlatPattern
pair x y = Tuple_pattern (pattern_and (named x) (pattern_and (named y) no_pattern))

abbrev two_i64 : Ty
two_i64 = Made head.Tuple (more i64_ty (more i64_ty none))

-- \(a, b) (xs: [a]i64) -> xs: callers cannot name a part
part_named : size_in (but 1 two_i64 (but 4 list_ty all_i64)) (Lambda (pattern_and (pair 8 9) (pattern_and (typed 10 8) no_pattern)) (var 10)) ≡ Err (Escapes 0)
unfolding agree all_agree kept all_kept leaving type_levels all_type_levels of_type of_types all_settled parts_settled data_met functions_met all_matched applied collected all_collected sizes_in function_size chosen_in quantified closed filled all_filled read all_read opened_inside compared all_compared meet all_meet elements_agree slice_size indexed updated operation sized_type prim_size sizing type_of type_in instance instances used taken all_taken fields_taken bound_by erased all_erased is_free is_dim levels all_levels levels_within all_levels_within replaced all_replaced has some_has takes some_takes is_open some_open matched lacking all_lacking differing all_differing turns_from pattern_noted patterns_noted fields_noted sized all_sized turns_sized condition_sized right_sized inner_sized part_of changed_part has_sizes all_have_sizes fields_have_sizes with_sizes all_with_sizes fields_with_sizes ascribed coerced coercion parameter_size declared
part_named = refl

-- \(a, b) (xs: [a]i64) -> 1: also where the result does not
part_taken : size_in (but 1 two_i64 (but 4 list_ty all_i64)) (Lambda (pattern_and (pair 8 9) (pattern_and (typed 10 8) no_pattern)) (literal 1)) ≡ Err (Escapes 0)
unfolding agree all_agree kept all_kept leaving type_levels all_type_levels of_type of_types all_settled parts_settled data_met functions_met all_matched applied collected all_collected sizes_in function_size chosen_in quantified closed filled all_filled read all_read opened_inside compared all_compared meet all_meet elements_agree slice_size indexed updated operation sized_type prim_size sizing type_of type_in instance instances used taken all_taken fields_taken bound_by erased all_erased is_free is_dim levels all_levels levels_within all_levels_within replaced all_replaced has some_has takes some_takes is_open some_open matched lacking all_lacking differing all_differing turns_from pattern_noted patterns_noted fields_noted sized all_sized turns_sized condition_sized right_sized inner_sized part_of changed_part has_sizes all_have_sizes fields_have_sizes with_sizes all_with_sizes fields_with_sizes ascribed coerced coercion parameter_size declared
part_taken = refl

-- \(a, b) (xs: [n]i64) -> xs
part_unnamed : size_in (but 1 two_i64 (but 4 list_ty all_i64)) (Lambda (pattern_and (pair 8 9) (pattern_and (typed 10 0) no_pattern)) (var 10)) ≡ Ok (Fun 0 (pair_size i64 i64) (Fun 0 (array (name 0)) (array (name 0))))
unfolding agree all_agree kept all_kept leaving type_levels all_type_levels of_type of_types all_settled parts_settled data_met functions_met all_matched applied collected all_collected sizes_in function_size chosen_in quantified closed filled all_filled read all_read opened_inside compared all_compared meet all_meet elements_agree slice_size indexed updated operation sized_type prim_size sizing type_of type_in instance instances used taken all_taken fields_taken bound_by erased all_erased is_free is_dim levels all_levels levels_within all_levels_within replaced all_replaced has some_has takes some_takes is_open some_open matched lacking all_lacking differing all_differing turns_from pattern_noted patterns_noted fields_noted sized all_sized turns_sized condition_sized right_sized inner_sized part_of changed_part has_sizes all_have_sizes fields_have_sizes with_sizes all_with_sizes fields_with_sizes ascribed coerced coercion parameter_size declared
part_unnamed = refl

-- \(a, b) -> iota a: the result's size is unknown
part_leaves : size_in (but 1 two_i64 all_i64) (Lambda (pattern_and (pair 8 9) no_pattern) (iota (var 8))) ≡ Ok (Fun 0 (pair_size i64 i64) (array (Bound 0 1)))
unfolding agree all_agree kept all_kept leaving type_levels all_type_levels of_type of_types all_settled parts_settled data_met functions_met all_matched applied collected all_collected sizes_in function_size chosen_in quantified closed filled all_filled read all_read opened_inside compared all_compared meet all_meet elements_agree slice_size indexed updated operation sized_type prim_size sizing type_of type_in instance instances used taken all_taken fields_taken bound_by erased all_erased is_free is_dim levels all_levels levels_within all_levels_within replaced all_replaced has some_has takes some_takes is_open some_open matched lacking all_lacking differing all_differing turns_from pattern_noted patterns_noted fields_noted sized all_sized turns_sized condition_sized right_sized inner_sized part_of changed_part has_sizes all_have_sizes fields_have_sizes with_sizes all_with_sizes fields_with_sizes ascribed coerced coercion parameter_size declared
part_leaves = refl

-- \a (xs: [a]i64) -> xs: a parameter that is a name is the argument's value
value_named : size_in (but 2 list_ty all_i64) (Lambda (pattern_and (named 8) (pattern_and (typed 10 8) no_pattern)) (var 10)) ≡ Ok (Fun 0 i64 (Fun 0 (array (Bound 1 0)) (array (Bound 1 0))))
unfolding agree all_agree kept all_kept leaving type_levels all_type_levels of_type of_types all_settled parts_settled data_met functions_met all_matched applied collected all_collected sizes_in function_size chosen_in quantified closed filled all_filled read all_read opened_inside compared all_compared meet all_meet elements_agree slice_size indexed updated operation sized_type prim_size sizing type_of type_in instance instances used taken all_taken fields_taken bound_by erased all_erased is_free is_dim levels all_levels levels_within all_levels_within replaced all_replaced has some_has takes some_takes is_open some_open matched lacking all_lacking differing all_differing turns_from pattern_noted patterns_noted fields_noted sized all_sized turns_sized condition_sized right_sized inner_sized part_of changed_part has_sizes all_have_sizes fields_have_sizes with_sizes all_with_sizes fields_with_sizes ascribed coerced coercion parameter_size declared
value_named = refl
