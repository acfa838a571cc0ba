-- A term and a program whose sizings meet the rules by the laws. The term is `\n -> 0..<n`, which gives an array of the size of its argument.
use Rattle.std.proofs.Common.{◌≡◌, inl, inr, arith, zero, suc, ℕ, Bool, true, false, ◌||◌, cond, nat_eq, List, [], ◌∷◌, None, Ok, refl, sym, ap, subst, eqb-true}
use Rattle.fut_scalar.specs.declared.place.BindId.{BindId}
use Rattle.fut_ast.specs.declared.node.End.TheVariants as end
use Rattle.fut_scalar.specs.declared.place.Place.{Place}
use Rattle.fut_scalar.specs.declared.scalar.ScalarType.TheVariants as scalar
use Rattle.fut_scalar.specs.declared.scalar.IntType.TheVariants as int
use Rattle.fut_flat.specs.declared.prim.Folding.TheVariants as folding
use Rattle.fut_flat.specs.declared.prim.Primitive.{Primitive}
use Rattle.fut_flat.specs.declared.prim.Primitive.TheVariants as prim
use Rattle.fut_flat.specs.declared.prim.Ref.TheVariants as ref
use Rattle.fut_flat.specs.Terms.{Size_use, Size_const, Array_type, Type_use, no_arg, Size_parameter, Typed_pattern, Bound_pattern, no_pattern, pattern_and, Integer, Declared, Array_of, Range, Use, Strict, Lambda, Apply, Let, no_term, term_and}
use Rattle.fut_flat.specs.Erased.{FlatTerm, FlatPattern}
use Rattle.fut_types.specs.declared.Kind.TheVariants as kind
use Rattle.fut_types.specs.Types.{Ty, Sub, fun_ty}
use Rattle.fut_typing.specs.Names.{Names}
use Rattle.fut_typing.specs.Primitives.{array_ty, i64_ty}
use Rattle.fut_sizes.specs.Agreeing.{is_among, Answer, then_do, agree, all_agree, kept, all_kept, leaving, type_levels, all_type_levels, of_type, of_types}
use Rattle.fut_sizes.specs.Applications.{all_settled, parts_settled, data_met, functions_met, all_matched, applied}
use Rattle.fut_sizes.specs.Functions.{stands_among, collected, all_collected, sizes_in, function_size, chosen_in, quantified, closed}
use Rattle.fut_sizes.specs.Matching.{filled, all_filled, read, all_read, inside as opened_inside, compared, all_compared, meet, all_meet}
use Rattle.fut_sizes.specs.Operations.{elements_agree, slice_size, indexed, updated, operation}
use Rattle.fut_sizes.specs.Primitives.{scalar_size, sized_type, prim_size}
use Rattle.fut_sizes.specs.Programs.{no_state, sizing}
use Rattle.fut_sizes.specs.Scopes.{nothing, type_of, type_in, instance, instances, used, taken, all_taken, fields_taken, bound_by}
use Rattle.sized_types.specs.Sizes.{Const, Name, At, Bound, Size, Level, Fun, erased, all_erased, is_free, is_dim, levels, all_levels, replaced, all_replaced, has, some_has, takes, some_takes}
use Rattle.fut_sizes.specs.Levels.{levels_within, all_levels_within}
use Rattle.fut_sizes.specs.Sizing.{finished, is_open, some_open, matched, lacking, all_lacking, differing, all_differing, turns_from, pattern_noted, patterns_noted, fields_noted, sized, all_sized, turns_sized, condition_sized, right_sized, inner_sized}
use Rattle.fut_sizes.specs.WrittenSizes.{part_of, changed_part, has_sizes, all_have_sizes, fields_have_sizes, with_sizes, all_with_sizes, fields_with_sizes, ascribed, coerced, coercion, parameter_size, declared}
use Rattle.fut_types.specs.Types.{Kinds, rank, least}
use native.Mathlib.Decide.{ℕ_discrete}
use Rattle.fut_typing.specs.Scopes.{Uses, the_one, nothing as no_types}
use Rattle.fut_typing.specs.Program.{Defined, Program_typed}
use Rattle.fut_typing.specs.Typing.{Typed}
use Rattle.fut_sizes.specs.ProgramRules.{Program_sized}
use Rattle.fut_sizes.specs.Applications.{Part}
use Rattle.fut_sizes.specs.Rules.{Sized}
use Rattle.fut_sizes.specs.Scoping.{nothing_known}
use Rattle.fut_sizes.specs.Steps.{Done}
use Rattle.sizes_meet_rules.specs.Plain.{Head_at, Plain_term, Plain_definitions, Formed_type, Formed_types, Flat_type, Flat_types}
use Rattle.sizes_meet_rules.proofs.Law.{sizing_meets_rules, program_sizing_meets_rules}
use Rattle.sizes_meet_rules.proofs.Heading.{none_chosen, headed_none}
use Rattle.sizes_meet_rules.proofs.Meeting.{then_ok}

here : Place
here = record { file = 0; line = 1; column = 1 }

abbrev N : Names
N = record { label = λ s. 0; shapes = record { fields = λ n. []; position = λ n. None } }

abbrev counts : FlatTerm
counts = Lambda (pattern_and (Bound_pattern (record { 0 = 9 })) no_pattern) (Strict (Range false end.Below) here (term_and (Strict (Integer 0 None) here no_term) (term_and (Use (ref.Bound (record { 0 = 9 })) here 0) no_term)))

-- 0 is the function, 1 its parameter, 2 the range, then come its bounds
abbrev types : Sub
types zero = fun_ty i64_ty (array_ty i64_ty)
types (suc zero) = i64_ty
types (suc (suc zero)) = array_ty i64_ty
types (suc (suc (suc k))) = i64_ty

abbrev home : ℕ → ℕ
home b = 1

abbrev K : Kinds
K v = kind.Data

plain : Plain_term types home K kind.Data N counts 0
unfolding Formed_type Formed_types rank least
plain = ((refl, tt, omega arith, tt), (tt, (((scalar.Int int.I64, refl), tt), (inl refl, tt))))

use_typed : (elim (ℕ_discrete 9 9) as (λ d. Uses) [ yes e ↦ the_one 1 | no ne ↦ no_types.uses 9 ]) K types i64_ty
use_typed = elim (ℕ_discrete 9 9) as (λ d. (elim d as (λ d. Uses) [ yes e ↦ the_one 1 | no ne ↦ no_types.uses 9 ]) K types i64_ty) [ yes e ↦ refl | no ne ↦ absurd (ne refl) ]

typed : Typed N kind.Data counts 0 no_types K types
unfolding rank least
typed = (((tt, tt), (((tt, omega arith, tt), (use_typed, tt)), (i64_ty, (refl, omega arith), omega arith, (refl, (refl, tt))), tt)), refl)

abbrev counts_part : Answer (Done Part)
counts_part = sized N types counts [] 0 nothing no_state

abbrev counts_size : Answer (Done Size)
counts_size = then_do counts_part (λ d. finished N types 0 d.result d.state)

-- its sized type: a caller that gives n gets an array of n numbers
its_size : then_do counts_size (λ d. Ok d.result) ≡ Ok (Fun 0 (scalar_size (scalar.Int int.I64)) (Level (Bound 0 0) (scalar_size (scalar.Int int.I64))))
unfolding agree all_agree kept all_kept leaving type_levels all_type_levels of_type of_types all_settled parts_settled data_met functions_met all_matched applied collected all_collected sizes_in function_size chosen_in quantified closed filled all_filled read all_read opened_inside compared all_compared meet all_meet elements_agree slice_size indexed updated operation sized_type prim_size sizing type_of type_in instance instances used taken all_taken fields_taken bound_by erased all_erased is_free is_dim levels all_levels levels_within all_levels_within replaced all_replaced has some_has takes some_takes is_open some_open matched lacking all_lacking differing all_differing turns_from pattern_noted patterns_noted fields_noted sized all_sized turns_sized condition_sized right_sized inner_sized part_of changed_part has_sizes all_have_sizes fields_have_sizes with_sizes all_with_sizes fields_with_sizes ascribed coerced coercion parameter_size declared
its_size = refl

-- and the whole sizing meets the rules
its_rules : (u : Done Size) → counts_size ≡ Ok u → Sized N types u.state.nodes home counts 0 nothing_known
its_rules u e = let x = then_ok counts_part e in (sizing_meets_rules N types home K kind.Data counts 0 no_state x.first u (omega arith) plain typed x.done x.rest).0

-- ---- a program: `def f [n] (xs: [n]i64) y = 0..<n` and `def main a = f (0..<a) a`

abbrev b : ℕ → BindId
b n = record { 0 = n }

abbrev named : ℕ → FlatTerm
named n = Use (ref.Bound (b n)) here 0

abbrev up_to : ℕ → FlatTerm
up_to n = Strict (Range false end.Below) here (term_and (Strict (Integer 0 None) here no_term) (term_and (named n) no_term))

abbrev of_n : FlatPattern
of_n = Typed_pattern (Bound_pattern (b 1)) (Array_type (Size_use (ref.Bound (b 5))) (Type_use (ref.Scalar (scalar.Int int.I64)) no_arg))

abbrev ranges : FlatTerm
ranges = Lambda (pattern_and of_n (pattern_and (Bound_pattern (b 2)) no_pattern)) (up_to 5)

abbrev twice : FlatTerm
twice = Lambda (pattern_and (Bound_pattern (b 4)) no_pattern) (Apply (Apply (named 0) (up_to 4)) (named 4))

abbrev f : Defined
f = record { name = Bound_pattern (b 0); parameters = Size_parameter (b 5) ∷ []; value = ranges }

abbrev main : Defined
main = record { name = Bound_pattern (b 3); parameters = []; value = twice }

abbrev program : List Defined
program = f ∷ main ∷ []

abbrev is_any : List ℕ → ℕ → Bool
is_any [] n = false
is_any (x ∷ xs) n = cond (nat_eq n x) true (is_any xs n)

-- 0 to 6 are those of f, 7 to 16 those of main
abbrev node_types : Sub
node_types n = cond (is_any (0 ∷ 1 ∷ 12 ∷ []) n) (fun_ty (array_ty i64_ty) (fun_ty i64_ty (array_ty i64_ty))) (cond (is_any (7 ∷ 8 ∷ 11 ∷ []) n) (fun_ty i64_ty (array_ty i64_ty)) (cond (is_any (2 ∷ 4 ∷ 10 ∷ 13 ∷ []) n) (array_ty i64_ty) i64_ty))

-- n is at home where f takes its array
abbrev homes : ℕ → ℕ
homes n = cond (nat_eq n 0) 0 (cond (nat_eq n 2) 3 (cond (nat_eq n 3) 7 (cond (nat_eq n 4) 9 2)))

one_among : (c x : ℕ) → is_among (x ∷ []) c ≡ true → c ≡ x
one_among c x e = by_name (nat_eq c x) refl e
  where
    by_name : (k : Bool) → nat_eq c x ≡ k → cond k true false ≡ true → c ≡ x
    by_name true f z = eqb-true c x f
    by_name false f z = absurd (let y : false ≡ true = z in cc)

one_chosen : (c x : ℕ) → stands_among (Name x ∷ []) (Name c) ≡ true → x ≡ c
unfolding is_free
one_chosen c x e = by_name (nat_eq x c) refl e
  where
    by_name : (k : Bool) → nat_eq x c ≡ k → k || false ≡ true → x ≡ c
    by_name true f z = eqb-true x c f
    by_name false f z = absurd (let y : false ≡ true = z in cc)

head_of_n : Head_at node_types homes K kind.Data N (5 ∷ []) of_n 2
unfolding agree all_agree kept all_kept leaving type_levels all_type_levels of_type of_types all_settled parts_settled data_met functions_met all_matched applied collected all_collected sizes_in function_size chosen_in quantified closed filled all_filled read all_read opened_inside compared all_compared meet all_meet elements_agree slice_size indexed updated operation sized_type prim_size sizing type_of type_in instance instances used taken all_taken fields_taken bound_by erased all_erased is_free is_dim levels all_levels levels_within all_levels_within replaced all_replaced has some_has takes some_takes is_open some_open matched lacking all_lacking differing all_differing turns_from pattern_noted patterns_noted fields_noted sized all_sized turns_sized condition_sized right_sized inner_sized part_of changed_part has_sizes all_have_sizes fields_have_sizes with_sizes all_with_sizes fields_with_sizes ascribed coerced coercion parameter_size declared
head_of_n = record { apart = λ c e. subst (λ d. is_among (5 ∷ []) d ≡ false) (sym (one_among c 1 e)) refl; at_home = λ c e. ap homes (sym (one_chosen c 5 e)) }

program_plain : Plain_definitions node_types homes K kind.Data N program 0
unfolding Formed_type Formed_types rank least agree all_agree kept all_kept leaving type_levels all_type_levels of_type of_types all_settled parts_settled data_met functions_met all_matched applied collected all_collected sizes_in function_size chosen_in quantified closed filled all_filled read all_read opened_inside compared all_compared meet all_meet elements_agree slice_size indexed updated operation sized_type prim_size sizing type_of type_in instance instances used taken all_taken fields_taken bound_by erased all_erased is_free is_dim levels all_levels levels_within all_levels_within replaced all_replaced has some_has takes some_takes is_open some_open matched lacking all_lacking differing all_differing turns_from pattern_noted patterns_noted fields_noted sized all_sized turns_sized condition_sized right_sized inner_sized part_of changed_part has_sizes all_have_sizes fields_have_sizes with_sizes all_with_sizes fields_with_sizes ascribed coerced coercion parameter_size declared
program_plain = (
  (refl, inl (tt, (tt, (tt, tt)), tt, (head_of_n, (none_chosen node_types homes K kind.Data N (Bound_pattern (b 2)) 3, tt)), (((tt, refl), tt, omega arith, (refl, tt, omega arith, tt)), (tt, (((scalar.Int int.I64, refl), tt), (inr refl, tt)))))),
  ((refl, inl (tt, (tt, tt), tt, headed_none node_types homes K kind.Data N twice tt 8, ((refl, tt, omega arith, tt), (inl (omega arith), (inl (omega arith, (inl (omega arith, (refl, refl)), (tt, (((scalar.Int int.I64, refl), tt), (inl refl, tt))))), inl refl))))), tt),
)

-- a caller that gives a gets an array of a numbers
its_main : then_do (sizing N node_types program) (λ s. Ok (s 7)) ≡ Ok (Fun 0 (scalar_size (scalar.Int int.I64)) (Level (Bound 0 0) (scalar_size (scalar.Int int.I64))))
unfolding agree all_agree kept all_kept leaving type_levels all_type_levels of_type of_types all_settled parts_settled data_met functions_met all_matched applied collected all_collected sizes_in function_size chosen_in quantified closed filled all_filled read all_read opened_inside compared all_compared meet all_meet elements_agree slice_size indexed updated operation sized_type prim_size sizing type_of type_in instance instances used taken all_taken fields_taken bound_by erased all_erased is_free is_dim levels all_levels levels_within all_levels_within replaced all_replaced has some_has takes some_takes is_open some_open matched lacking all_lacking differing all_differing turns_from pattern_noted patterns_noted fields_noted sized all_sized turns_sized condition_sized right_sized inner_sized part_of changed_part has_sizes all_have_sizes fields_have_sizes with_sizes all_with_sizes fields_with_sizes ascribed coerced coercion parameter_size declared
its_main = refl

-- the sizing of the whole program meets the rules, of any typing of this kind
program_rules : (nodes : ℕ → Size) → Program_typed N kind.Data program K node_types → sizing N node_types program ≡ Ok nodes → Program_sized N node_types nodes homes program
program_rules nodes t e = (program_sizing_meets_rules N node_types homes K kind.Data program nodes (omega arith) program_plain t e).0

-- ---- another: `def main a = let [k] (ys: [k]i64) = reverse (iota a) in 0..<k`

abbrev primitive : Primitive → FlatTerm
primitive p = Use (ref.Prim p) here 0

abbrev of_k : FlatPattern
of_k = Typed_pattern (Bound_pattern (b 7)) (Array_type (Size_use (ref.Bound (b 6))) (Type_use (ref.Scalar (scalar.Int int.I64)) no_arg))

abbrev counted_down : FlatTerm
counted_down = Lambda (pattern_and (Bound_pattern (b 4)) no_pattern) (Let (record { sizes = b 6 ∷ []; parameters = []; is_function = false; pattern = of_k }) (Apply (primitive prim.Reverse) (Apply (primitive prim.Iota) (named 4))) (up_to 6))

abbrev counting : List Defined
counting = record { name = Bound_pattern (b 3); parameters = []; value = counted_down } ∷ []

abbrev count_types : Sub
count_types n = cond (is_any (0 ∷ 1 ∷ 8 ∷ []) n) (fun_ty i64_ty (array_ty i64_ty)) (cond (nat_eq n 6) (fun_ty (array_ty i64_ty) (array_ty i64_ty)) (cond (is_any (3 ∷ 4 ∷ 5 ∷ 7 ∷ 10 ∷ []) n) (array_ty i64_ty) i64_ty))

abbrev count_homes : ℕ → ℕ
count_homes n = cond (nat_eq n 3) 0 (cond (nat_eq n 4) 2 4)

k_at_home : (c : ℕ) → is_among (6 ∷ []) c ≡ true → (count_homes c ≡ 4) × (is_among (7 ∷ []) c ≡ false)
k_at_home c e = subst (λ d. (count_homes d ≡ 4) × (is_among (7 ∷ []) d ≡ false)) (sym (one_among c 6 e)) (refl, refl)

counting_plain : Plain_definitions count_types count_homes K kind.Data N counting 0
unfolding Formed_type Formed_types rank least agree all_agree kept all_kept leaving type_levels all_type_levels of_type of_types all_settled parts_settled data_met functions_met all_matched applied collected all_collected sizes_in function_size chosen_in quantified closed filled all_filled read all_read opened_inside compared all_compared meet all_meet elements_agree slice_size indexed updated operation sized_type prim_size sizing type_of type_in instance instances used taken all_taken fields_taken bound_by erased all_erased is_free is_dim levels all_levels levels_within all_levels_within replaced all_replaced has some_has takes some_takes is_open some_open matched lacking all_lacking differing all_differing turns_from pattern_noted patterns_noted fields_noted sized all_sized turns_sized condition_sized right_sized inner_sized part_of changed_part has_sizes all_have_sizes fields_have_sizes with_sizes all_with_sizes fields_with_sizes ascribed coerced coercion parameter_size declared
counting_plain = (
  (
    refl,
    inl (
      tt,
      (tt, tt),
      tt,
      headed_none count_types count_homes K kind.Data N counted_down tt 1,
      (
        (refl, tt, omega arith, tt),
        (
          (tt, tt, refl, λ c e. k_at_home c e),
          refl,
          inl (omega arith),
          (inl (omega arith), (inl (omega arith, tt), (inl (omega arith), (inl (omega arith, tt), inl refl)))),
          (tt, (((scalar.Int int.I64, refl), tt), (inr refl, tt))),
        ),
      ),
    ),
  ),
  tt,
)

-- it gives an array of a size that nobody knows before it runs
its_count : then_do (sizing N count_types counting) (λ s. Ok (s 0)) ≡ Ok (Fun 0 (scalar_size (scalar.Int int.I64)) (Level (Bound 0 1) (scalar_size (scalar.Int int.I64))))
unfolding agree all_agree kept all_kept leaving type_levels all_type_levels of_type of_types all_settled parts_settled data_met functions_met all_matched applied collected all_collected sizes_in function_size chosen_in quantified closed filled all_filled read all_read opened_inside compared all_compared meet all_meet elements_agree slice_size indexed updated operation sized_type prim_size sizing type_of type_in instance instances used taken all_taken fields_taken bound_by erased all_erased is_free is_dim levels all_levels levels_within all_levels_within replaced all_replaced has some_has takes some_takes is_open some_open matched lacking all_lacking differing all_differing turns_from pattern_noted patterns_noted fields_noted sized all_sized turns_sized condition_sized right_sized inner_sized part_of changed_part has_sizes all_have_sizes fields_have_sizes with_sizes all_with_sizes fields_with_sizes ascribed coerced coercion parameter_size declared
its_count = refl

count_rules : (nodes : ℕ → Size) → Program_typed N kind.Data counting K count_types → sizing N count_types counting ≡ Ok nodes → Program_sized N count_types nodes count_homes counting
count_rules nodes t e = (program_sizing_meets_rules N count_types count_homes K kind.Data counting nodes (omega arith) counting_plain t e).0

-- ---- a primitive whose variable stands for an array: `\m -> reverse (replicate m (iota m))`

abbrev square : FlatTerm
square = Lambda (pattern_and (Bound_pattern (b 4)) no_pattern) (Apply (primitive prim.Reverse) (Apply (Apply (primitive prim.Replicate) (named 4)) (Apply (primitive prim.Iota) (named 4))))

abbrev rows : Ty
rows = array_ty (array_ty i64_ty)

-- 2 is the outer application, 4 the one of `replicate`, 8 the one of `iota`
abbrev square_types : Sub
square_types n = cond (nat_eq n 0) (fun_ty i64_ty rows) (cond (nat_eq n 3) (fun_ty rows rows) (cond (nat_eq n 5) (fun_ty (array_ty i64_ty) rows) (cond (nat_eq n 6) (fun_ty i64_ty (fun_ty (array_ty i64_ty) rows)) (cond (nat_eq n 8) (array_ty i64_ty) (cond (nat_eq n 9) (fun_ty i64_ty (array_ty i64_ty)) (cond (is_any (2 ∷ 4 ∷ []) n) rows i64_ty))))))

abbrev square_homes : ℕ → ℕ
square_homes n = 1

square_plain : Plain_term square_types square_homes K kind.Data N square 0
unfolding Formed_type Formed_types rank least
square_plain = ((refl, tt, omega arith, tt), (inl (omega arith), (inl (omega arith, tt), (inl (omega arith), (inl (omega arith, (inl (omega arith, tt), inl refl)), (inl (omega arith), (inl (omega arith, tt), inl refl)))))))

abbrev square_part : Answer (Done Part)
square_part = sized N square_types square [] 0 nothing no_state

abbrev square_size : Answer (Done Size)
square_size = then_do square_part (λ d. finished N square_types 0 d.result d.state)

its_square : then_do square_size (λ d. Ok d.result) ≡ Ok (Fun 0 (scalar_size (scalar.Int int.I64)) (Level (Bound 0 0) (Level (Bound 0 0) (scalar_size (scalar.Int int.I64)))))
unfolding agree all_agree kept all_kept leaving type_levels all_type_levels of_type of_types all_settled parts_settled data_met functions_met all_matched applied collected all_collected sizes_in function_size chosen_in quantified closed filled all_filled read all_read opened_inside compared all_compared meet all_meet elements_agree slice_size indexed updated operation sized_type prim_size sizing type_of type_in instance instances used taken all_taken fields_taken bound_by erased all_erased is_free is_dim levels all_levels levels_within all_levels_within replaced all_replaced has some_has takes some_takes is_open some_open matched lacking all_lacking differing all_differing turns_from pattern_noted patterns_noted fields_noted sized all_sized turns_sized condition_sized right_sized inner_sized part_of changed_part has_sizes all_have_sizes fields_have_sizes with_sizes all_with_sizes fields_with_sizes ascribed coerced coercion parameter_size declared
its_square = refl

square_rules : (u : Done Size) → Typed N kind.Data square 0 no_types K square_types → square_size ≡ Ok u → Sized N square_types u.state.nodes square_homes square 0 nothing_known
square_rules u t e = let x = then_ok square_part e in (sizing_meets_rules N square_types square_homes K kind.Data square 0 no_state x.first u (omega arith) square_plain t x.done x.rest).0

-- ---- a lambda among the arguments of a primitive: `\m -> map (\i -> iota m) (iota m)`

abbrev mapping : FlatTerm
mapping = Lambda (pattern_and (Bound_pattern (b 4)) no_pattern) (Apply (Apply (primitive prim.Map) (Lambda (pattern_and (Bound_pattern (b 5)) no_pattern) (Apply (primitive prim.Iota) (named 4)))) (Apply (primitive prim.Iota) (named 4)))

-- 2 is the application of `map`, 5 the inner lambda, and 7 and 10 those of `iota`
abbrev map_types : Sub
map_types n = cond (nat_eq n 0) (fun_ty i64_ty rows) (cond (nat_eq n 2) rows (cond (nat_eq n 3) (fun_ty (array_ty i64_ty) rows) (cond (nat_eq n 4) (fun_ty (fun_ty i64_ty (array_ty i64_ty)) (fun_ty (array_ty i64_ty) rows)) (cond (is_any (5 ∷ 8 ∷ 11 ∷ []) n) (fun_ty i64_ty (array_ty i64_ty)) (cond (is_any (7 ∷ 10 ∷ []) n) (array_ty i64_ty) i64_ty)))))

abbrev map_homes : ℕ → ℕ
map_homes n = cond (nat_eq n 5) 6 1

map_plain : Plain_term map_types map_homes K kind.Data N mapping 0
unfolding Formed_type Formed_types Flat_type Flat_types rank least
map_plain = (
  (refl, tt, omega arith, tt),
  (inl (omega arith), (inl (omega arith, (inr (inl (refl, ((tt, tt), inl (omega arith)), tt)), ((refl, tt, omega arith, tt), (inl (omega arith), (inl (omega arith, tt), inl refl))))), (inl (omega arith), (inl (omega arith, tt), inl refl)))),
)

abbrev map_part : Answer (Done Part)
map_part = sized N map_types mapping [] 0 nothing no_state

abbrev map_size : Answer (Done Size)
map_size = then_do map_part (λ d. finished N map_types 0 d.result d.state)

its_map : then_do map_size (λ d. Ok d.result) ≡ Ok (Fun 0 (scalar_size (scalar.Int int.I64)) (Level (Bound 0 0) (Level (Bound 0 0) (scalar_size (scalar.Int int.I64)))))
unfolding agree all_agree kept all_kept leaving type_levels all_type_levels of_type of_types all_settled parts_settled data_met functions_met all_matched applied collected all_collected sizes_in function_size chosen_in quantified closed filled all_filled read all_read opened_inside compared all_compared meet all_meet elements_agree slice_size indexed updated operation sized_type prim_size sizing type_of type_in instance instances used taken all_taken fields_taken bound_by erased all_erased is_free is_dim levels all_levels levels_within all_levels_within replaced all_replaced has some_has takes some_takes is_open some_open matched lacking all_lacking differing all_differing turns_from pattern_noted patterns_noted fields_noted sized all_sized turns_sized condition_sized right_sized inner_sized part_of changed_part has_sizes all_have_sizes fields_have_sizes with_sizes all_with_sizes fields_with_sizes ascribed coerced coercion parameter_size declared
its_map = refl

map_rules : (u : Done Size) → Typed N kind.Data mapping 0 no_types K map_types → map_size ≡ Ok u → Sized N map_types u.state.nodes map_homes mapping 0 nothing_known
map_rules u t e = let x = then_ok map_part e in (sizing_meets_rules N map_types map_homes K kind.Data mapping 0 no_state x.first u (omega arith) map_plain t x.done x.rest).0

-- ---- a lambda whose parameter is a row: `\xss -> map (\r -> reverse r) xss`

abbrev by_rows : FlatTerm
by_rows = Lambda (pattern_and (Bound_pattern (b 4)) no_pattern) (Apply (Apply (primitive prim.Map) (Lambda (pattern_and (Bound_pattern (b 5)) no_pattern) (Apply (primitive prim.Reverse) (named 5)))) (named 4))

-- 2 is the application of `map`, 5 the inner lambda, 7 the application of `reverse`
abbrev row_types : Sub
row_types n = cond (is_any (0 ∷ 3 ∷ []) n) (fun_ty rows rows) (cond (is_any (1 ∷ 2 ∷ 10 ∷ []) n) rows (cond (nat_eq n 4) (fun_ty (fun_ty (array_ty i64_ty) (array_ty i64_ty)) (fun_ty rows rows)) (cond (is_any (5 ∷ 8 ∷ []) n) (fun_ty (array_ty i64_ty) (array_ty i64_ty)) (array_ty i64_ty))))

abbrev row_homes : ℕ → ℕ
row_homes n = cond (nat_eq n 5) 6 1

rows_plain : Plain_term row_types row_homes K kind.Data N by_rows 0
unfolding Formed_type Formed_types Flat_type Flat_types rank least
rows_plain = ((refl, tt, omega arith, tt), (inl (omega arith), (inl (omega arith, (inr (inr (refl, inl (omega arith), tt)), ((refl, tt, omega arith, tt), (inl (omega arith), (inl (omega arith, tt), inl refl))))), inl refl)))

abbrev rows_part : Answer (Done Part)
rows_part = sized N row_types by_rows [] 0 nothing no_state

abbrev rows_size : Answer (Done Size)
rows_size = then_do rows_part (λ d. finished N row_types 0 d.result d.state)

its_rows : then_do rows_size (λ d. Ok d.result) ≡ Ok (Fun 2 (Level (Bound 0 0) (Level (Bound 0 1) (scalar_size (scalar.Int int.I64)))) (Level (Bound 0 0) (Level (Bound 0 1) (scalar_size (scalar.Int int.I64)))))
unfolding agree all_agree kept all_kept leaving type_levels all_type_levels of_type of_types all_settled parts_settled data_met functions_met all_matched applied collected all_collected sizes_in function_size chosen_in quantified closed filled all_filled read all_read opened_inside compared all_compared meet all_meet elements_agree slice_size indexed updated operation sized_type prim_size sizing type_of type_in instance instances used taken all_taken fields_taken bound_by erased all_erased is_free is_dim levels all_levels levels_within all_levels_within replaced all_replaced has some_has takes some_takes is_open some_open matched lacking all_lacking differing all_differing turns_from pattern_noted patterns_noted fields_noted sized all_sized turns_sized condition_sized right_sized inner_sized part_of changed_part has_sizes all_have_sizes fields_have_sizes with_sizes all_with_sizes fields_with_sizes ascribed coerced coercion parameter_size declared
its_rows = refl

rows_rules : (u : Done Size) → Typed N kind.Data by_rows 0 no_types K row_types → rows_size ≡ Ok u → Sized N row_types u.state.nodes row_homes by_rows 0 nothing_known
rows_rules u t e = let x = then_ok rows_part e in (sizing_meets_rules N row_types row_homes K kind.Data by_rows 0 no_state x.first u (omega arith) rows_plain t x.done x.rest).0

-- ---- a primitive that takes a row: `\xss -> map i64.sum xss`

abbrev sums : FlatTerm
sums = Lambda (pattern_and (Bound_pattern (b 4)) no_pattern) (Apply (Apply (primitive prim.Map) (primitive (prim.Fold folding.Sum int.I64))) (named 4))

-- 2 is the application of `map`, 5 the use of `i64.sum`
abbrev sum_types : Sub
sum_types n = cond (is_any (0 ∷ 3 ∷ []) n) (fun_ty rows (array_ty i64_ty)) (cond (is_any (1 ∷ 6 ∷ []) n) rows (cond (nat_eq n 4) (fun_ty (fun_ty (array_ty i64_ty) i64_ty) (fun_ty rows (array_ty i64_ty))) (cond (nat_eq n 5) (fun_ty (array_ty i64_ty) i64_ty) (array_ty i64_ty))))

sums_plain : Plain_term sum_types home K kind.Data N sums 0
unfolding Formed_type Formed_types Flat_type Flat_types rank least
sums_plain = ((refl, tt, omega arith, tt), (inl (omega arith), (inl (omega arith, (inr (inr (refl, inr (omega arith, inl (omega arith)), tt)), tt)), inl refl)))

abbrev sums_part : Answer (Done Part)
sums_part = sized N sum_types sums [] 0 nothing no_state

abbrev sums_size : Answer (Done Size)
sums_size = then_do sums_part (λ d. finished N sum_types 0 d.result d.state)

its_sums : then_do sums_size (λ d. Ok d.result) ≡ Ok (Fun 2 (Level (Bound 0 0) (Level (Bound 0 1) (scalar_size (scalar.Int int.I64)))) (Level (Bound 0 0) (scalar_size (scalar.Int int.I64))))
unfolding agree all_agree kept all_kept leaving type_levels all_type_levels of_type of_types all_settled parts_settled data_met functions_met all_matched applied collected all_collected sizes_in function_size chosen_in quantified closed filled all_filled read all_read opened_inside compared all_compared meet all_meet elements_agree slice_size indexed updated operation sized_type prim_size sizing type_of type_in instance instances used taken all_taken fields_taken bound_by erased all_erased is_free is_dim levels all_levels levels_within all_levels_within replaced all_replaced has some_has takes some_takes is_open some_open matched lacking all_lacking differing all_differing turns_from pattern_noted patterns_noted fields_noted sized all_sized turns_sized condition_sized right_sized inner_sized part_of changed_part has_sizes all_have_sizes fields_have_sizes with_sizes all_with_sizes fields_with_sizes ascribed coerced coercion parameter_size declared
its_sums = refl

sums_rules : (u : Done Size) → Typed N kind.Data sums 0 no_types K sum_types → sums_size ≡ Ok u → Sized N sum_types u.state.nodes home sums 0 nothing_known
sums_rules u t e = let x = then_ok sums_part e in (sizing_meets_rules N sum_types home K kind.Data sums 0 no_state x.first u (omega arith) sums_plain t x.done x.rest).0

-- ---- a reduction as an argument: `\xss -> map (reduce i64.max 0) xss`

abbrev folded : FlatTerm
folded = Lambda (pattern_and (Bound_pattern (b 4)) no_pattern) (Apply (Apply (primitive prim.Map) (Apply (Apply (primitive prim.Reduce) (primitive (prim.Max int.I64))) (Strict (Integer 0 None) here no_term))) (named 4))

-- 2 is the application of `map`, 5 and 6 are those of `reduce`, 9 is 0
abbrev fold_types : Sub
fold_types n = cond (is_any (0 ∷ 3 ∷ []) n) (fun_ty rows (array_ty i64_ty)) (cond (is_any (1 ∷ 10 ∷ []) n) rows (cond (nat_eq n 4) (fun_ty (fun_ty (array_ty i64_ty) i64_ty) (fun_ty rows (array_ty i64_ty))) (cond (nat_eq n 5) (fun_ty (array_ty i64_ty) i64_ty) (cond (nat_eq n 6) (fun_ty i64_ty (fun_ty (array_ty i64_ty) i64_ty)) (cond (nat_eq n 7) (fun_ty (fun_ty i64_ty (fun_ty i64_ty i64_ty)) (fun_ty i64_ty (fun_ty (array_ty i64_ty) i64_ty))) (cond (nat_eq n 8) (fun_ty i64_ty (fun_ty i64_ty i64_ty)) (cond (nat_eq n 9) i64_ty (array_ty i64_ty))))))))

folded_plain : Plain_term fold_types home K kind.Data N folded 0
unfolding Formed_type Formed_types Flat_type Flat_types rank least
folded_plain = (
  (refl, tt, omega arith, tt),
  (inl (omega arith), (inl (omega arith, (inr (inr (refl, inr (omega arith, inl (omega arith)), tt)), (inr (inr ((omega arith, omega arith), tt)), (inl (omega arith, (inr (inl (refl, ((tt, tt), inr ((tt, tt), inl (omega arith))), tt)), tt)), ((scalar.Int int.I64, refl), tt))))), inl refl)),
)

abbrev folded_part : Answer (Done Part)
folded_part = sized N fold_types folded [] 0 nothing no_state

abbrev folded_size : Answer (Done Size)
folded_size = then_do folded_part (λ d. finished N fold_types 0 d.result d.state)

its_folded : then_do folded_size (λ d. Ok d.result) ≡ Ok (Fun 2 (Level (Bound 0 0) (Level (Bound 0 1) (scalar_size (scalar.Int int.I64)))) (Level (Bound 0 0) (scalar_size (scalar.Int int.I64))))
unfolding agree all_agree kept all_kept leaving type_levels all_type_levels of_type of_types all_settled parts_settled data_met functions_met all_matched applied collected all_collected sizes_in function_size chosen_in quantified closed filled all_filled read all_read opened_inside compared all_compared meet all_meet elements_agree slice_size indexed updated operation sized_type prim_size sizing type_of type_in instance instances used taken all_taken fields_taken bound_by erased all_erased is_free is_dim levels all_levels levels_within all_levels_within replaced all_replaced has some_has takes some_takes is_open some_open matched lacking all_lacking differing all_differing turns_from pattern_noted patterns_noted fields_noted sized all_sized turns_sized condition_sized right_sized inner_sized part_of changed_part has_sizes all_have_sizes fields_have_sizes with_sizes all_with_sizes fields_with_sizes ascribed coerced coercion parameter_size declared
its_folded = refl

folded_rules : (u : Done Size) → Typed N kind.Data folded 0 no_types K fold_types → folded_size ≡ Ok u → Sized N fold_types u.state.nodes home folded 0 nothing_known
folded_rules u t e = let x = then_ok folded_part e in (sizing_meets_rules N fold_types home K kind.Data folded 0 no_state x.first u (omega arith) folded_plain t x.done x.rest).0

-- ---- a name that takes and gives rows: `def f xs = xs` and `def main xss = map f xss`

abbrev same : FlatTerm
same = Lambda (pattern_and (Bound_pattern (b 1)) no_pattern) (named 1)

abbrev each_row : FlatTerm
each_row = Lambda (pattern_and (Bound_pattern (b 4)) no_pattern) (Apply (Apply (primitive prim.Map) (named 0)) (named 4))

abbrev of_rows : List Defined
of_rows = record { name = Bound_pattern (b 0); parameters = []; value = same } ∷ record { name = Bound_pattern (b 3); parameters = []; value = each_row } ∷ []

-- 0 to 3 are those of f, 4 to 11 those of main: 7 is the application of `map`, 10 the use of f
abbrev each_types : Sub
each_types n = cond (is_any (0 ∷ 1 ∷ 10 ∷ []) n) (fun_ty (array_ty i64_ty) (array_ty i64_ty)) (cond (is_any (4 ∷ 5 ∷ 8 ∷ []) n) (fun_ty rows rows) (cond (is_any (6 ∷ 7 ∷ 11 ∷ []) n) rows (cond (nat_eq n 9) (fun_ty (fun_ty (array_ty i64_ty) (array_ty i64_ty)) (fun_ty rows rows)) (array_ty i64_ty))))

abbrev each_homes : ℕ → ℕ
each_homes n = cond (nat_eq n 0) 0 (cond (nat_eq n 1) 2 (cond (nat_eq n 3) 4 6))

each_plain : Plain_definitions each_types each_homes K kind.Data N of_rows 0
unfolding Formed_type Formed_types rank least
each_plain = (
  (refl, inl (tt, (tt, tt), tt, headed_none each_types each_homes K kind.Data N same tt 1, ((refl, tt, omega arith, tt), inl refl))),
  ((refl, inl (tt, (tt, tt), tt, headed_none each_types each_homes K kind.Data N each_row tt 5, ((refl, tt, omega arith, tt), (inl (omega arith), (inl (omega arith, (inr (inr (refl, inr (omega arith, inl (omega arith)), tt)), inl refl)), inl refl))))), tt),
)

-- main gives rows of the sizes that it takes
its_each : then_do (sizing N each_types of_rows) (λ s. Ok (s 4)) ≡ Ok (Fun 2 (Level (Bound 0 0) (Level (Bound 0 1) (scalar_size (scalar.Int int.I64)))) (Level (Bound 0 0) (Level (Bound 0 1) (scalar_size (scalar.Int int.I64)))))
unfolding agree all_agree kept all_kept leaving type_levels all_type_levels of_type of_types all_settled parts_settled data_met functions_met all_matched applied collected all_collected sizes_in function_size chosen_in quantified closed filled all_filled read all_read opened_inside compared all_compared meet all_meet elements_agree slice_size indexed updated operation sized_type prim_size sizing type_of type_in instance instances used taken all_taken fields_taken bound_by erased all_erased is_free is_dim levels all_levels levels_within all_levels_within replaced all_replaced has some_has takes some_takes is_open some_open matched lacking all_lacking differing all_differing turns_from pattern_noted patterns_noted fields_noted sized all_sized turns_sized condition_sized right_sized inner_sized part_of changed_part has_sizes all_have_sizes fields_have_sizes with_sizes all_with_sizes fields_with_sizes ascribed coerced coercion parameter_size declared
its_each = refl

each_rules : (nodes : ℕ → Size) → Program_typed N kind.Data of_rows K each_types → sizing N each_types of_rows ≡ Ok nodes → Program_sized N each_types nodes each_homes of_rows
each_rules nodes t e = (program_sizing_meets_rules N each_types each_homes K kind.Data of_rows nodes (omega arith) each_plain t e).0

-- ---- an application that gives a function of rows: `def f xs ys = ys` and `def main xs yss = map (f xs) yss`

abbrev second : FlatTerm
second = Lambda (pattern_and (Bound_pattern (b 1)) (pattern_and (Bound_pattern (b 2)) no_pattern)) (named 2)

abbrev each_with : FlatTerm
each_with = Lambda (pattern_and (Bound_pattern (b 4)) (pattern_and (Bound_pattern (b 5)) no_pattern)) (Apply (Apply (primitive prim.Map) (Apply (named 0) (named 4))) (named 5))

abbrev with_first : List Defined
with_first = record { name = Bound_pattern (b 0); parameters = []; value = second } ∷ record { name = Bound_pattern (b 3); parameters = []; value = each_with } ∷ []

-- 0 to 4 are those of f, 5 to 15 those of main: 9 is the application of `map`, 12 that of f
abbrev with_types : Sub
with_types n = cond (is_any (0 ∷ 1 ∷ 13 ∷ []) n) (fun_ty (array_ty i64_ty) (fun_ty (array_ty i64_ty) (array_ty i64_ty))) (cond (is_any (5 ∷ 6 ∷ []) n) (fun_ty (array_ty i64_ty) (fun_ty rows rows)) (cond (is_any (8 ∷ 9 ∷ 15 ∷ []) n) rows (cond (nat_eq n 10) (fun_ty rows rows) (cond (nat_eq n 11) (fun_ty (fun_ty (array_ty i64_ty) (array_ty i64_ty)) (fun_ty rows rows)) (cond (nat_eq n 12) (fun_ty (array_ty i64_ty) (array_ty i64_ty)) (array_ty i64_ty))))))

abbrev with_homes : ℕ → ℕ
with_homes n = cond (nat_eq n 0) 0 (cond (nat_eq n 1) 2 (cond (nat_eq n 2) 3 (cond (nat_eq n 3) 5 (cond (nat_eq n 4) 7 8))))

with_plain : Plain_definitions with_types with_homes K kind.Data N with_first 0
unfolding Formed_type Formed_types rank least
with_plain = (
  (refl, inl (tt, (tt, (tt, tt)), tt, headed_none with_types with_homes K kind.Data N second tt 1, ((refl, tt, omega arith, (refl, tt, omega arith, tt)), inl refl))),
  ((refl, inl (tt, (tt, (tt, tt)), tt, headed_none with_types with_homes K kind.Data N each_with tt 6, ((refl, tt, omega arith, (refl, tt, omega arith, tt)), (inl (omega arith), (inl (omega arith, (inr (inr (refl, inr (omega arith, inl (omega arith)), tt)), (inr (inl tt), (inl (omega arith, (refl, refl)), inl refl)))), inl refl))))), tt),
)

its_with : then_do (sizing N with_types with_first) (λ s. Ok (s 5)) ≡ Ok (Fun 1 (Level (Bound 0 0) (scalar_size (scalar.Int int.I64))) (Fun 2 (Level (Bound 0 0) (Level (Bound 0 1) (scalar_size (scalar.Int int.I64)))) (Level (Bound 0 0) (Level (Bound 0 1) (scalar_size (scalar.Int int.I64))))))
unfolding agree all_agree kept all_kept leaving type_levels all_type_levels of_type of_types all_settled parts_settled data_met functions_met all_matched applied collected all_collected sizes_in function_size chosen_in quantified closed filled all_filled read all_read opened_inside compared all_compared meet all_meet elements_agree slice_size indexed updated operation sized_type prim_size sizing type_of type_in instance instances used taken all_taken fields_taken bound_by erased all_erased is_free is_dim levels all_levels levels_within all_levels_within replaced all_replaced has some_has takes some_takes is_open some_open matched lacking all_lacking differing all_differing turns_from pattern_noted patterns_noted fields_noted sized all_sized turns_sized condition_sized right_sized inner_sized part_of changed_part has_sizes all_have_sizes fields_have_sizes with_sizes all_with_sizes fields_with_sizes ascribed coerced coercion parameter_size declared
its_with = refl

with_rules : (nodes : ℕ → Size) → Program_typed N kind.Data with_first K with_types → sizing N with_types with_first ≡ Ok nodes → Program_sized N with_types nodes with_homes with_first
with_rules nodes t e = (program_sizing_meets_rules N with_types with_homes K kind.Data with_first nodes (omega arith) with_plain t e).0

-- ---- a definition that is a number, and one that takes it as a size: `def n = 10` and `def main x = 0..<n`

abbrev to_n : FlatTerm
to_n = Lambda (pattern_and (Bound_pattern (b 2)) no_pattern) (up_to 0)

abbrev numbered : List Defined
numbered = record { name = Bound_pattern (b 0); parameters = []; value = Strict (Integer 10 None) here no_term } ∷ record { name = Bound_pattern (b 1); parameters = []; value = to_n } ∷ []

-- 0 and 1 are those of n, 2 to 7 those of main
abbrev number_types : Sub
number_types n = cond (is_any (2 ∷ 3 ∷ []) n) (fun_ty i64_ty (array_ty i64_ty)) (cond (nat_eq n 5) (array_ty i64_ty) i64_ty)

abbrev number_homes : ℕ → ℕ
number_homes n = cond (nat_eq n 0) 0 (cond (nat_eq n 1) 2 4)

numbered_plain : Plain_definitions number_types number_homes K kind.Data N numbered 0
unfolding Formed_type Formed_types rank least
numbered_plain = (
  (refl, inr (inl (refl, ((scalar.Int int.I64, refl), tt)))),
  ((refl, inl (tt, (tt, tt), tt, headed_none number_types number_homes K kind.Data N to_n tt 3, ((refl, tt, omega arith, tt), (tt, (((scalar.Int int.I64, refl), tt), (inl refl, tt)))))), tt),
)

-- main gives an array of n numbers
its_numbered : then_do (sizing N number_types numbered) (λ s. Ok (s 2)) ≡ Ok (Fun 0 (scalar_size (scalar.Int int.I64)) (Level (At (Name 0)) (scalar_size (scalar.Int int.I64))))
unfolding agree all_agree kept all_kept leaving type_levels all_type_levels of_type of_types all_settled parts_settled data_met functions_met all_matched applied collected all_collected sizes_in function_size chosen_in quantified closed filled all_filled read all_read opened_inside compared all_compared meet all_meet elements_agree slice_size indexed updated operation sized_type prim_size sizing type_of type_in instance instances used taken all_taken fields_taken bound_by erased all_erased is_free is_dim levels all_levels levels_within all_levels_within replaced all_replaced has some_has takes some_takes is_open some_open matched lacking all_lacking differing all_differing turns_from pattern_noted patterns_noted fields_noted sized all_sized turns_sized condition_sized right_sized inner_sized part_of changed_part has_sizes all_have_sizes fields_have_sizes with_sizes all_with_sizes fields_with_sizes ascribed coerced coercion parameter_size declared
its_numbered = refl

numbered_rules : (nodes : ℕ → Size) → Program_typed N kind.Data numbered K number_types → sizing N number_types numbered ≡ Ok nodes → Program_sized N number_types nodes number_homes numbered
numbered_rules nodes t e = (program_sizing_meets_rules N number_types number_homes K kind.Data numbered nodes (omega arith) numbered_plain t e).0

-- ---- a name among the arguments of a primitive: `def f x = x` and `def main m = map f (iota m)`

abbrev itself : FlatTerm
itself = Lambda (pattern_and (Bound_pattern (b 2)) no_pattern) (named 2)

abbrev map_itself : FlatTerm
map_itself = Lambda (pattern_and (Bound_pattern (b 3)) no_pattern) (Apply (Apply (primitive prim.Map) (named 0)) (Apply (primitive prim.Iota) (named 3)))

abbrev mapped : List Defined
mapped = record { name = Bound_pattern (b 0); parameters = []; value = itself } ∷ record { name = Bound_pattern (b 1); parameters = []; value = map_itself } ∷ []

-- 0 to 3 are those of f, 4 to 13 those of main
abbrev mapped_types : Sub
mapped_types n = cond (is_any (0 ∷ 1 ∷ 10 ∷ []) n) (fun_ty i64_ty i64_ty) (cond (is_any (4 ∷ 5 ∷ 12 ∷ []) n) (fun_ty i64_ty (array_ty i64_ty)) (cond (is_any (7 ∷ 11 ∷ []) n) (array_ty i64_ty) (cond (nat_eq n 8) (fun_ty (array_ty i64_ty) (array_ty i64_ty)) (cond (nat_eq n 9) (fun_ty (fun_ty i64_ty i64_ty) (fun_ty (array_ty i64_ty) (array_ty i64_ty))) i64_ty))))

abbrev mapped_homes : ℕ → ℕ
mapped_homes n = cond (nat_eq n 0) 0 (cond (nat_eq n 1) 4 (cond (nat_eq n 2) 2 6))

mapped_plain : Plain_definitions mapped_types mapped_homes K kind.Data N mapped 0
unfolding Formed_type Formed_types Flat_type Flat_types rank least
mapped_plain = (
  (refl, inl (tt, (tt, tt), tt, headed_none mapped_types mapped_homes K kind.Data N itself tt 1, ((refl, tt, omega arith, tt), inl refl))),
  (
    (refl, inl (tt, (tt, tt), tt, headed_none mapped_types mapped_homes K kind.Data N map_itself tt 5, ((refl, tt, omega arith, tt), (inl (omega arith), (inl (omega arith, (inr (inl (refl, ((tt, tt), inl (omega arith)), tt)), inl refl)), (inl (omega arith), (inl (omega arith, tt), inl refl))))))),
    tt,
  ),
)

-- main gives an array of as many numbers as its argument says
its_mapped : then_do (sizing N mapped_types mapped) (λ s. Ok (s 4)) ≡ Ok (Fun 0 (scalar_size (scalar.Int int.I64)) (Level (Bound 0 0) (scalar_size (scalar.Int int.I64))))
unfolding agree all_agree kept all_kept leaving type_levels all_type_levels of_type of_types all_settled parts_settled data_met functions_met all_matched applied collected all_collected sizes_in function_size chosen_in quantified closed filled all_filled read all_read opened_inside compared all_compared meet all_meet elements_agree slice_size indexed updated operation sized_type prim_size sizing type_of type_in instance instances used taken all_taken fields_taken bound_by erased all_erased is_free is_dim levels all_levels levels_within all_levels_within replaced all_replaced has some_has takes some_takes is_open some_open matched lacking all_lacking differing all_differing turns_from pattern_noted patterns_noted fields_noted sized all_sized turns_sized condition_sized right_sized inner_sized part_of changed_part has_sizes all_have_sizes fields_have_sizes with_sizes all_with_sizes fields_with_sizes ascribed coerced coercion parameter_size declared
its_mapped = refl

mapped_rules : (nodes : ℕ → Size) → Program_typed N kind.Data mapped K mapped_types → sizing N mapped_types mapped ≡ Ok nodes → Program_sized N mapped_types nodes mapped_homes mapped
mapped_rules nodes t e = (program_sizing_meets_rules N mapped_types mapped_homes K kind.Data mapped nodes (omega arith) mapped_plain t e).0

-- ---- and one that is applied to fewer arguments than it takes: `def first x y = x` and `def main m = map (first 1) (iota m)`

abbrev first : FlatTerm
first = Lambda (pattern_and (Bound_pattern (b 2)) (pattern_and (Bound_pattern (b 3)) no_pattern)) (named 2)

abbrev map_first : FlatTerm
map_first = Lambda (pattern_and (Bound_pattern (b 4)) no_pattern) (Apply (Apply (primitive prim.Map) (Apply (named 0) (Strict (Integer 1 None) here no_term))) (Apply (primitive prim.Iota) (named 4)))

abbrev firsts : List Defined
firsts = record { name = Bound_pattern (b 0); parameters = []; value = first } ∷ record { name = Bound_pattern (b 1); parameters = []; value = map_first } ∷ []

-- 0 to 4 are those of `first`, 5 to 16 those of main
abbrev first_types : Sub
first_types n = cond (is_any (0 ∷ 1 ∷ 12 ∷ []) n) (fun_ty i64_ty (fun_ty i64_ty i64_ty)) (cond (is_any (5 ∷ 6 ∷ 15 ∷ []) n) (fun_ty i64_ty (array_ty i64_ty)) (cond (is_any (8 ∷ 14 ∷ []) n) (array_ty i64_ty) (cond (nat_eq n 9) (fun_ty (array_ty i64_ty) (array_ty i64_ty)) (cond (nat_eq n 10) (fun_ty (fun_ty i64_ty i64_ty) (fun_ty (array_ty i64_ty) (array_ty i64_ty))) (cond (nat_eq n 11) (fun_ty i64_ty i64_ty) i64_ty)))))

abbrev first_homes : ℕ → ℕ
first_homes n = cond (nat_eq n 0) 0 (cond (nat_eq n 1) 5 (cond (nat_eq n 2) 2 (cond (nat_eq n 3) 3 7)))

firsts_plain : Plain_definitions first_types first_homes K kind.Data N firsts 0
unfolding Formed_type Formed_types Flat_type Flat_types rank least
firsts_plain = (
  (refl, inl (tt, (tt, (tt, tt)), tt, headed_none first_types first_homes K kind.Data N first tt 1, ((refl, tt, omega arith, (refl, tt, omega arith, tt)), inl refl))),
  (
    (
      refl,
      inl (
        tt,
        (tt, tt),
        tt,
        headed_none first_types first_homes K kind.Data N map_first tt 6,
        (
          (refl, tt, omega arith, tt),
          (inl (omega arith), (inl (omega arith, (inr (inl (refl, ((tt, tt), inl (omega arith)), tt)), (inr (inl tt), (inl (omega arith, (refl, refl)), ((scalar.Int int.I64, refl), tt))))), (inl (omega arith), (inl (omega arith, tt), inl refl)))),
        ),
      ),
    ),
    tt,
  ),
)

its_firsts : then_do (sizing N first_types firsts) (λ s. Ok (s 5)) ≡ Ok (Fun 0 (scalar_size (scalar.Int int.I64)) (Level (Bound 0 0) (scalar_size (scalar.Int int.I64))))
unfolding agree all_agree kept all_kept leaving type_levels all_type_levels of_type of_types all_settled parts_settled data_met functions_met all_matched applied collected all_collected sizes_in function_size chosen_in quantified closed filled all_filled read all_read opened_inside compared all_compared meet all_meet elements_agree slice_size indexed updated operation sized_type prim_size sizing type_of type_in instance instances used taken all_taken fields_taken bound_by erased all_erased is_free is_dim levels all_levels levels_within all_levels_within replaced all_replaced has some_has takes some_takes is_open some_open matched lacking all_lacking differing all_differing turns_from pattern_noted patterns_noted fields_noted sized all_sized turns_sized condition_sized right_sized inner_sized part_of changed_part has_sizes all_have_sizes fields_have_sizes with_sizes all_with_sizes fields_with_sizes ascribed coerced coercion parameter_size declared
its_firsts = refl

firsts_rules : (nodes : ℕ → Size) → Program_typed N kind.Data firsts K first_types → sizing N first_types firsts ≡ Ok nodes → Program_sized N first_types nodes first_homes firsts
firsts_rules nodes t e = (program_sizing_meets_rules N first_types first_homes K kind.Data firsts nodes (omega arith) firsts_plain t e).0

-- ---- a definition that is an array: `def xs: [2]i64 = [1, 2]` and `def f y = xs`

abbrev pair : FlatTerm
pair = Strict (Declared (Array_type (Size_const 2) (Type_use (ref.Scalar (scalar.Int int.I64)) no_arg))) here (term_and (Strict Array_of here (term_and (Strict (Integer 1 None) here no_term) (term_and (Strict (Integer 2 None) here no_term) no_term))) no_term)

abbrev to_pair : FlatTerm
to_pair = Lambda (pattern_and (Bound_pattern (b 2)) no_pattern) (named 0)

abbrev pairs : List Defined
pairs = record { name = Bound_pattern (b 0); parameters = []; value = pair } ∷ record { name = Bound_pattern (b 1); parameters = []; value = to_pair } ∷ []

-- 0 to 4 are those of xs, 5 to 8 those of f
abbrev pair_types : Sub
pair_types n = cond (is_any (0 ∷ 1 ∷ 2 ∷ 8 ∷ []) n) (array_ty i64_ty) (cond (is_any (5 ∷ 6 ∷ []) n) (fun_ty i64_ty (array_ty i64_ty)) i64_ty)

abbrev pair_homes : ℕ → ℕ
pair_homes n = cond (nat_eq n 0) 0 (cond (nat_eq n 1) 5 7)

no_number : array_ty i64_ty ≡ i64_ty → ⊥
no_number e = cc

pairs_plain : Plain_definitions pair_types pair_homes K kind.Data N pairs 0
unfolding Formed_type Formed_types rank least
pairs_plain = (
  (refl, inr (inr (no_number, tt, tt, (tt, ((tt, (((scalar.Int int.I64, refl), tt), (((scalar.Int int.I64, refl), tt), tt))), tt))))),
  ((refl, inl (tt, (tt, tt), tt, headed_none pair_types pair_homes K kind.Data N to_pair tt 6, ((refl, tt, omega arith, tt), inl refl))), tt),
)

its_pairs : then_do (sizing N pair_types pairs) (λ s. Ok (s 5)) ≡ Ok (Fun 0 (scalar_size (scalar.Int int.I64)) (Level (At (Const 2)) (scalar_size (scalar.Int int.I64))))
unfolding agree all_agree kept all_kept leaving type_levels all_type_levels of_type of_types all_settled parts_settled data_met functions_met all_matched applied collected all_collected sizes_in function_size chosen_in quantified closed filled all_filled read all_read opened_inside compared all_compared meet all_meet elements_agree slice_size indexed updated operation sized_type prim_size sizing type_of type_in instance instances used taken all_taken fields_taken bound_by erased all_erased is_free is_dim levels all_levels levels_within all_levels_within replaced all_replaced has some_has takes some_takes is_open some_open matched lacking all_lacking differing all_differing turns_from pattern_noted patterns_noted fields_noted sized all_sized turns_sized condition_sized right_sized inner_sized part_of changed_part has_sizes all_have_sizes fields_have_sizes with_sizes all_with_sizes fields_with_sizes ascribed coerced coercion parameter_size declared
its_pairs = refl

pairs_rules : (nodes : ℕ → Size) → Program_typed N kind.Data pairs K pair_types → sizing N pair_types pairs ≡ Ok nodes → Program_sized N pair_types nodes pair_homes pairs
pairs_rules nodes t e = (program_sizing_meets_rules N pair_types pair_homes K kind.Data pairs nodes (omega arith) pairs_plain t e).0
