-- Programs, and the first rule that each breaks.
use Rattle.std.proofs.Common.{◌≡◌, ℕ, zero, suc, true, false, List, [], ◌∷◌, ◌++◌, map, Option, Some, None, cond, refl}
use Rattle.std.specs.Prelude.{codes}
use Rattle.std.specs.Str.{bytes_eq}
use Rattle.fut_scalar.specs.declared.operator.BinOp.TheVariants as op
use Rattle.fut_scalar.specs.declared.place.BindId.{BindId}
use Rattle.fut_scalar.specs.declared.place.Place.{Place}
use Rattle.fut_scalar.specs.declared.scalar.ScalarType.TheVariants as scalar
use Rattle.fut_scalar.specs.declared.scalar.IntType.TheVariants as int
use Rattle.fut_flat.specs.declared.act.Part.TheVariants as part
use Rattle.fut_flat.specs.declared.prim.Primitive.{Primitive}
use Rattle.fut_flat.specs.declared.prim.Primitive.TheVariants as prim
use Rattle.fut_flat.specs.declared.prim.Ref.{Ref}
use Rattle.fut_flat.specs.declared.prim.Ref.TheVariants as ref
use Rattle.fut_flat.specs.Terms.{Size_blank, Type_use, no_arg, Array_type, Unique_type, Arrow_type, Tuple_type, no_type, type_and, Bound_pattern, Tuple_pattern, Record_pattern, Typed_pattern, Patterns, no_pattern, pattern_and, Operation, Integer, Tuple_of, Record_of, Array_of, Binary, Index, Project, Update, Replace, Ascribe, Declared, Use, Strict, Lambda, Apply, Let, If, Loop, Terms, no_term, term_and, Counted, Over, While}
use Rattle.fut_flat.specs.Erased.{FlatTerm, FlatTurns, FlatType, FlatPattern}
use Rattle.fut_types.specs.declared.Head.TheVariants as head
use Rattle.fut_types.specs.declared.Kind.TheVariants as kind
use Rattle.fut_types.specs.Shapes.{place_from, place, part_at}
use Rattle.fut_types.specs.Types.{Ty, Made, none, more, fun_ty, Sub, Kinds}
use Rattle.fut_typing.specs.Names.{Names}
use Rattle.fut_typing.specs.Primitives.{array_ty, pair_ty, i64_ty, bool_ty}
use Rattle.fut_typing.specs.Program.{Defined}
use Rattle.fut_aliases.specs.Aliases.{first_name_alone, is_in, with_alias, union, those}
use Rattle.fut_aliases.specs.declared.aliases.Alias.TheVariants.{Part, Own}
use Rattle.fut_aliases.specs.Stars.{spread, all_spread, written_stars, tuple_stars, record_stars, has_star, some_has_star, lacks_star, some_lacks_star, adds_star, some_adds_star, consumes, some_consumes, consumes_more, consumed_more, some_consumes_more, some_consumed_more, gives_less, given_less, some_gives_less, some_given_less, either, all_either}
use Rattle.fut_aliases.specs.Values.{of_type, of_types, with_stars, all_with_stars, at_type, all_at_type, components, all_components, with_sets, all_with_sets, named, all_named, starring, all_starring, functions, all_functions, ascribed, all_ascribed, part_named, with_part_named}
use Rattle.fut_aliases.specs.Steps.{lose_all, lost}
use Rattle.fut_aliases.specs.declared.refusals.Broken.TheVariants.{Consumed, NotConsumable, Captured, ResultAliases}
use Rattle.fut_aliases.specs.declared.refusals.Broken.{Broken}
use Rattle.fut_aliases.specs.declared.refusals.Named.TheVariants.{ByAlias, ByName, AFunction}
use Rattle.fut_aliases.specs.declared.refusals.Spot.TheVariants.{First, Mark}
use Rattle.fut_aliases.specs.Patterns.{pattern_stars, tuple_stars as patterns_stars, record_stars as fields_stars, bound, all_bound, fields_bound, kept, all_kept, fields_kept}
use Rattle.fut_aliases.specs.Capturing.{capture, all_captured, turns_captured, some_name, name_in, turns_name}
use Rattle.fut_aliases.specs.Loops.{own_names, all_own_names, fields_own_names, starts, all_starts, fields_start}
use Rattle.fut_aliases.specs.Looking.{misfit, all_misfit, fields_misfit, looked, all_looked, turns_looked, condition_looked, value_looked}
use Rattle.fut_aliases.specs.Programs.{first_broken, first_broken_rule}

-- ---- notation

abbrev b : ℕ → BindId
b n = record { 0 = n }

-- a place by its column
abbrev at : ℕ → Place
at column = record { file = 0; line = 1; column = column }

abbrev var : ℕ → ℕ → FlatTerm
var n column = Use (ref.Bound (b n)) (at column) 0

abbrev the : Primitive → FlatTerm
the p = Use (ref.Prim p) (at 0) 0

abbrev literal : ℕ → FlatTerm
literal c = Strict (Integer c None) (at 0) no_term

abbrev all_parts : List FlatTerm → Terms Ref BindId
all_parts [] = no_term
all_parts (t ∷ ts) = term_and t (all_parts ts)

-- an operation with its mark
abbrev strict : Operation Ref BindId → ℕ → List FlatTerm → FlatTerm
strict o column ts = Strict o (at column) (all_parts ts)

abbrev name : ℕ → FlatPattern
name n = Bound_pattern (b n)

abbrev all_patterns : List FlatPattern → Patterns Ref BindId
all_patterns [] = no_pattern
all_patterns (p ∷ ps) = pattern_and p (all_patterns ps)

abbrev lambda : List FlatPattern → FlatTerm → FlatTerm
lambda ps e = Lambda (all_patterns ps) e

abbrev let_in : FlatPattern → FlatTerm → FlatTerm → FlatTerm
let_in p v e = Let (record { sizes = []; parameters = []; is_function = false; pattern = p }) v e

abbrev loop_of : FlatPattern → FlatTerm → FlatTurns → FlatTerm → FlatTerm
loop_of p first turns body = Loop (at 0) [] p first turns body

abbrev i64_type : FlatType
i64_type = Type_use (ref.Scalar (scalar.Int int.I64)) no_arg

abbrev bool_type : FlatType
bool_type = Type_use (ref.Scalar scalar.Bool) no_arg

abbrev array_of : FlatType → FlatType
array_of t = Array_type (Size_blank (b 0)) t

abbrev define : ℕ → FlatTerm → Defined
define n e = record { name = name n; parameters = []; value = e }

abbrev ints : Ty
ints = array_ty i64_ty

-- ---- programs: the types of the nodes, the definitions, and the first rule that is broken

-- the only record has the fields x and y, and 0 and 1 name parts of tuples
abbrev label : List ℕ → ℕ
label f = cond (bytes_eq f (codes "x")) 10 (cond (bytes_eq f (codes "y")) 11 (cond (bytes_eq f (codes "0")) 0 1))

abbrev tuple_place : ℕ → Option ℕ
tuple_place zero = Some 0
tuple_place (suc zero) = Some 1
tuple_place (suc (suc n)) = None

abbrev N : Names
N = record { label = label; shapes = record { fields = λ n. 10 ∷ 11 ∷ []; position = tuple_place } }

record Case : Type 0 where
  types : List Ty
  program : List Defined
  answer : Option Broken

abbrev type_at : List Ty → Sub
type_at [] n = i64_ty
type_at (t ∷ ts) zero = t
type_at (t ∷ ts) (suc n) = type_at ts n

abbrev no_kinds : Kinds
no_kinds n = kind.Integer

-- by the rules, and where a name of what has a name already is left out
abbrev found : Case → Option Broken × Option Broken
found c = (first_broken_rule N no_kinds (type_at c.types) c.program, first_broken first_name_alone N no_kinds (type_at c.types) c.program)

abbrev answer : Case → Option Broken × Option Broken
answer c = (c.answer, c.answer)

-- ---- what a value shares with: names, rows, slices and fields share with their sources, elements and new arrays with nothing

-- def main (n: i64): i64 = let a = iota n let b = a let c = a with [0] = 9 in b[0]
abbrev a_name : Case
a_name = record { types = (fun_ty i64_ty i64_ty) ∷ (fun_ty i64_ty i64_ty) ∷ i64_ty ∷ i64_ty ∷ i64_ty ∷ ints ∷ ints ∷ (fun_ty i64_ty ints) ∷ i64_ty ∷ i64_ty ∷ ints ∷ ints ∷ i64_ty ∷ ints ∷ ints ∷ ints ∷ i64_ty ∷ i64_ty ∷ i64_ty ∷ ints ∷ i64_ty ∷ []; program = (define 0 (lambda (Typed_pattern (name 1) i64_type ∷ []) (strict (Declared i64_type) 26 (let_in (name 2) (Apply (the prim.Iota) (var 1 39)) (let_in (name 3) (var 2 49) (let_in (name 4) (strict Update 66 (var 2 59 ∷ literal 0 ∷ literal 9 ∷ [])) (strict (Index (part.At ∷ [])) 78 (var 3 77 ∷ literal 0 ∷ [])))) ∷ []))) ∷ []); answer = Some (Consumed (ByName (b 3)) (Mark (at 66)) (First 19)) }

-- def main (n: i64): i64 = let a = iota n let b = copy a let c = a with [0] = 9 in b[0]
abbrev a_copy : Case
a_copy = record { types = (fun_ty i64_ty i64_ty) ∷ (fun_ty i64_ty i64_ty) ∷ i64_ty ∷ i64_ty ∷ i64_ty ∷ ints ∷ ints ∷ (fun_ty i64_ty ints) ∷ i64_ty ∷ i64_ty ∷ ints ∷ ints ∷ (fun_ty ints ints) ∷ ints ∷ i64_ty ∷ ints ∷ ints ∷ ints ∷ i64_ty ∷ i64_ty ∷ i64_ty ∷ ints ∷ i64_ty ∷ []; program = (define 0 (lambda (Typed_pattern (name 1) i64_type ∷ []) (strict (Declared i64_type) 26 (let_in (name 2) (Apply (the prim.Iota) (var 1 39)) (let_in (name 3) (Apply (the prim.Copy) (var 2 54)) (let_in (name 4) (strict Update 71 (var 2 64 ∷ literal 0 ∷ literal 9 ∷ [])) (strict (Index (part.At ∷ [])) 83 (var 3 82 ∷ literal 0 ∷ [])))) ∷ []))) ∷ []); answer = None }

-- def main (n: i64): i64 = let a = replicate 2 (iota n) let r = a[0] let c = r with [0] = 1 in a[1, 0]
abbrev a_row : Case
a_row = record { types = (fun_ty i64_ty i64_ty) ∷ (fun_ty i64_ty i64_ty) ∷ i64_ty ∷ i64_ty ∷ i64_ty ∷ (array_ty ints) ∷ (array_ty ints) ∷ (fun_ty ints (array_ty ints)) ∷ (fun_ty i64_ty (fun_ty ints (array_ty ints))) ∷ i64_ty ∷ ints ∷ (fun_ty i64_ty ints) ∷ i64_ty ∷ i64_ty ∷ ints ∷ ints ∷ (array_ty ints) ∷ i64_ty ∷ i64_ty ∷ ints ∷ ints ∷ ints ∷ i64_ty ∷ i64_ty ∷ i64_ty ∷ (array_ty ints) ∷ i64_ty ∷ i64_ty ∷ []; program = (define 0 (lambda (Typed_pattern (name 1) i64_type ∷ []) (strict (Declared i64_type) 26 (let_in (name 2) (Apply (Apply (the prim.Replicate) (literal 2)) (Apply (the prim.Iota) (var 1 52))) (let_in (name 3) (strict (Index (part.At ∷ [])) 64 (var 2 63 ∷ literal 0 ∷ [])) (let_in (name 4) (strict Update 83 (var 3 76 ∷ literal 0 ∷ literal 1 ∷ [])) (strict (Index (part.At ∷ part.At ∷ [])) 95 (var 2 94 ∷ literal 1 ∷ literal 0 ∷ [])))) ∷ []))) ∷ []); answer = Some (Consumed (ByName (b 2)) (Mark (at 83)) (First 25)) }

-- def main (n: i64): i64 = let a = iota n let x = a[0] let c = a with [0] = 1 in x + c[0]
abbrev an_element : Case
an_element = record { types = (fun_ty i64_ty i64_ty) ∷ (fun_ty i64_ty i64_ty) ∷ i64_ty ∷ i64_ty ∷ i64_ty ∷ ints ∷ ints ∷ (fun_ty i64_ty ints) ∷ i64_ty ∷ i64_ty ∷ i64_ty ∷ i64_ty ∷ ints ∷ i64_ty ∷ i64_ty ∷ ints ∷ ints ∷ ints ∷ i64_ty ∷ i64_ty ∷ i64_ty ∷ i64_ty ∷ i64_ty ∷ i64_ty ∷ ints ∷ i64_ty ∷ []; program = (define 0 (lambda (Typed_pattern (name 1) i64_type ∷ []) (strict (Declared i64_type) 26 (let_in (name 2) (Apply (the prim.Iota) (var 1 39)) (let_in (name 3) (strict (Index (part.At ∷ [])) 50 (var 2 49 ∷ literal 0 ∷ [])) (let_in (name 4) (strict Update 69 (var 2 62 ∷ literal 0 ∷ literal 1 ∷ [])) (strict (Binary op.Add) 82 (var 3 80 ∷ strict (Index (part.At ∷ [])) 85 (var 4 84 ∷ literal 0 ∷ []) ∷ [])))) ∷ []))) ∷ []); answer = None }

-- def main (n: i64): i64 = let a = iota n let b = reverse a let c = b with [0] = 7 in a[0]
abbrev a_view : Case
a_view = record { types = (fun_ty i64_ty i64_ty) ∷ (fun_ty i64_ty i64_ty) ∷ i64_ty ∷ i64_ty ∷ i64_ty ∷ ints ∷ ints ∷ (fun_ty i64_ty ints) ∷ i64_ty ∷ i64_ty ∷ ints ∷ ints ∷ (fun_ty ints ints) ∷ ints ∷ i64_ty ∷ ints ∷ ints ∷ ints ∷ i64_ty ∷ i64_ty ∷ i64_ty ∷ ints ∷ i64_ty ∷ []; program = (define 0 (lambda (Typed_pattern (name 1) i64_type ∷ []) (strict (Declared i64_type) 26 (let_in (name 2) (Apply (the prim.Iota) (var 1 39)) (let_in (name 3) (Apply (the prim.Reverse) (var 2 57)) (let_in (name 4) (strict Update 74 (var 3 67 ∷ literal 0 ∷ literal 7 ∷ [])) (strict (Index (part.At ∷ [])) 86 (var 2 85 ∷ literal 0 ∷ [])))) ∷ []))) ∷ []); answer = Some (Consumed (ByName (b 2)) (Mark (at 74)) (First 21)) }

-- def main (n: i64): i64 = let a = iota n let b = map (\x -> x + 1) a let c = b with [0] = 7 in a[0] + c[0]
abbrev a_map : Case
a_map = record { types = (fun_ty i64_ty i64_ty) ∷ (fun_ty i64_ty i64_ty) ∷ i64_ty ∷ i64_ty ∷ i64_ty ∷ ints ∷ ints ∷ (fun_ty i64_ty ints) ∷ i64_ty ∷ i64_ty ∷ ints ∷ ints ∷ (fun_ty ints ints) ∷ (fun_ty (fun_ty i64_ty i64_ty) (fun_ty ints ints)) ∷ (fun_ty i64_ty i64_ty) ∷ i64_ty ∷ i64_ty ∷ i64_ty ∷ i64_ty ∷ i64_ty ∷ ints ∷ i64_ty ∷ ints ∷ ints ∷ ints ∷ i64_ty ∷ i64_ty ∷ i64_ty ∷ i64_ty ∷ i64_ty ∷ ints ∷ i64_ty ∷ i64_ty ∷ ints ∷ i64_ty ∷ []; program = (define 0 (lambda (Typed_pattern (name 1) i64_type ∷ []) (strict (Declared i64_type) 26 (let_in (name 2) (Apply (the prim.Iota) (var 1 39)) (let_in (name 4) (Apply (Apply (the prim.Map) (lambda (name 3 ∷ []) (strict (Binary op.Add) 62 (var 3 60 ∷ literal 1 ∷ [])))) (var 2 67)) (let_in (name 5) (strict Update 84 (var 4 77 ∷ literal 0 ∷ literal 7 ∷ [])) (strict (Binary op.Add) 100 (strict (Index (part.At ∷ [])) 96 (var 2 95 ∷ literal 0 ∷ []) ∷ strict (Index (part.At ∷ [])) 103 (var 5 102 ∷ literal 0 ∷ []) ∷ [])))) ∷ []))) ∷ []); answer = None }

-- def main (n: i64): i64 = let a = iota n let b = [a, a] let c = a with [0] = 7 in b[1, 0] + c[0]
abbrev a_literal : Case
a_literal = record { types = (fun_ty i64_ty i64_ty) ∷ (fun_ty i64_ty i64_ty) ∷ i64_ty ∷ i64_ty ∷ i64_ty ∷ ints ∷ ints ∷ (fun_ty i64_ty ints) ∷ i64_ty ∷ i64_ty ∷ (array_ty ints) ∷ (array_ty ints) ∷ ints ∷ ints ∷ i64_ty ∷ ints ∷ ints ∷ ints ∷ i64_ty ∷ i64_ty ∷ i64_ty ∷ i64_ty ∷ i64_ty ∷ (array_ty ints) ∷ i64_ty ∷ i64_ty ∷ i64_ty ∷ ints ∷ i64_ty ∷ []; program = (define 0 (lambda (Typed_pattern (name 1) i64_type ∷ []) (strict (Declared i64_type) 26 (let_in (name 2) (Apply (the prim.Iota) (var 1 39)) (let_in (name 3) (strict Array_of 49 (var 2 50 ∷ var 2 53 ∷ [])) (let_in (name 4) (strict Update 71 (var 2 64 ∷ literal 0 ∷ literal 7 ∷ [])) (strict (Binary op.Add) 90 (strict (Index (part.At ∷ part.At ∷ [])) 83 (var 3 82 ∷ literal 1 ∷ literal 0 ∷ []) ∷ strict (Index (part.At ∷ [])) 93 (var 4 92 ∷ literal 0 ∷ []) ∷ [])))) ∷ []))) ∷ []); answer = None }

-- def main (n: i64): i64 = let t = (iota n, iota n) let c = t.0 with [0] = 5 in t.1[0] + c[0]
abbrev other_component : Case
other_component = record { types = (fun_ty i64_ty i64_ty) ∷ (fun_ty i64_ty i64_ty) ∷ i64_ty ∷ i64_ty ∷ i64_ty ∷ (pair_ty ints ints) ∷ (pair_ty ints ints) ∷ ints ∷ (fun_ty i64_ty ints) ∷ i64_ty ∷ ints ∷ (fun_ty i64_ty ints) ∷ i64_ty ∷ i64_ty ∷ ints ∷ ints ∷ ints ∷ (pair_ty ints ints) ∷ (pair_ty ints ints) ∷ i64_ty ∷ i64_ty ∷ i64_ty ∷ i64_ty ∷ i64_ty ∷ ints ∷ (pair_ty ints ints) ∷ (pair_ty ints ints) ∷ i64_ty ∷ i64_ty ∷ ints ∷ i64_ty ∷ []; program = (define 0 (lambda (Typed_pattern (name 1) i64_type ∷ []) (strict (Declared i64_type) 26 (let_in (name 2) (strict Tuple_of 34 (Apply (the prim.Iota) (var 1 40) ∷ Apply (the prim.Iota) (var 1 48) ∷ [])) (let_in (name 3) (strict Update 68 (strict (Project (codes "0")) 59 (var 2 59 ∷ []) ∷ literal 0 ∷ literal 5 ∷ [])) (strict (Binary op.Add) 86 (strict (Index (part.At ∷ [])) 82 (strict (Project (codes "1")) 79 (var 2 79 ∷ []) ∷ literal 0 ∷ []) ∷ strict (Index (part.At ∷ [])) 89 (var 3 88 ∷ literal 0 ∷ []) ∷ []))) ∷ []))) ∷ []); answer = None }

-- def main (n: i64): i64 = let t = (iota n, iota n) let c = t.0 with [0] = 5 in t.0[0] + c[0]
abbrev same_component : Case
same_component = record { types = (fun_ty i64_ty i64_ty) ∷ (fun_ty i64_ty i64_ty) ∷ i64_ty ∷ i64_ty ∷ i64_ty ∷ (pair_ty ints ints) ∷ (pair_ty ints ints) ∷ ints ∷ (fun_ty i64_ty ints) ∷ i64_ty ∷ ints ∷ (fun_ty i64_ty ints) ∷ i64_ty ∷ i64_ty ∷ ints ∷ ints ∷ ints ∷ (pair_ty ints ints) ∷ (pair_ty ints ints) ∷ i64_ty ∷ i64_ty ∷ i64_ty ∷ i64_ty ∷ i64_ty ∷ ints ∷ (pair_ty ints ints) ∷ (pair_ty ints ints) ∷ i64_ty ∷ i64_ty ∷ ints ∷ i64_ty ∷ []; program = (define 0 (lambda (Typed_pattern (name 1) i64_type ∷ []) (strict (Declared i64_type) 26 (let_in (name 2) (strict Tuple_of 34 (Apply (the prim.Iota) (var 1 40) ∷ Apply (the prim.Iota) (var 1 48) ∷ [])) (let_in (name 3) (strict Update 68 (strict (Project (codes "0")) 59 (var 2 59 ∷ []) ∷ literal 0 ∷ literal 5 ∷ [])) (strict (Binary op.Add) 86 (strict (Index (part.At ∷ [])) 82 (strict (Project (codes "0")) 79 (var 2 79 ∷ []) ∷ literal 0 ∷ []) ∷ strict (Index (part.At ∷ [])) 89 (var 3 88 ∷ literal 0 ∷ []) ∷ []))) ∷ []))) ∷ []); answer = Some (Consumed (ByName (b 2)) (Mark (at 68)) (First 26)) }

-- def main (n: i64): i64 = let r = {x = iota n, y = iota n} let c = r.x with [0] = 5 in r.y[0] + c[0]
abbrev other_field : Case
other_field = record { types = (fun_ty i64_ty i64_ty) ∷ (fun_ty i64_ty i64_ty) ∷ i64_ty ∷ i64_ty ∷ i64_ty ∷ (Made (head.Record 0) (more ints (more ints none))) ∷ (Made (head.Record 0) (more ints (more ints none))) ∷ ints ∷ (fun_ty i64_ty ints) ∷ i64_ty ∷ ints ∷ (fun_ty i64_ty ints) ∷ i64_ty ∷ i64_ty ∷ ints ∷ ints ∷ ints ∷ (Made (head.Record 0) (more ints (more ints none))) ∷ (Made (head.Record 0) (more ints (more ints none))) ∷ i64_ty ∷ i64_ty ∷ i64_ty ∷ i64_ty ∷ i64_ty ∷ ints ∷ (Made (head.Record 0) (more ints (more ints none))) ∷ (Made (head.Record 0) (more ints (more ints none))) ∷ i64_ty ∷ i64_ty ∷ ints ∷ i64_ty ∷ []; program = (define 0 (lambda (Typed_pattern (name 1) i64_type ∷ []) (strict (Declared i64_type) 26 (let_in (name 2) (strict (Record_of (codes "x" ∷ codes "y" ∷ [])) 34 (Apply (the prim.Iota) (var 1 44) ∷ Apply (the prim.Iota) (var 1 56) ∷ [])) (let_in (name 3) (strict Update 76 (strict (Project (codes "x")) 67 (var 2 67 ∷ []) ∷ literal 0 ∷ literal 5 ∷ [])) (strict (Binary op.Add) 94 (strict (Index (part.At ∷ [])) 90 (strict (Project (codes "y")) 87 (var 2 87 ∷ []) ∷ literal 0 ∷ []) ∷ strict (Index (part.At ∷ [])) 97 (var 3 96 ∷ literal 0 ∷ []) ∷ []))) ∷ []))) ∷ []); answer = None }

-- def main (n: i64): i64 = let r = {x = iota n, y = iota n} let c = r.x with [0] = 5 let s = r in s.y[0]
abbrev whole_record : Case
whole_record = record { types = (fun_ty i64_ty i64_ty) ∷ (fun_ty i64_ty i64_ty) ∷ i64_ty ∷ i64_ty ∷ i64_ty ∷ (Made (head.Record 0) (more ints (more ints none))) ∷ (Made (head.Record 0) (more ints (more ints none))) ∷ ints ∷ (fun_ty i64_ty ints) ∷ i64_ty ∷ ints ∷ (fun_ty i64_ty ints) ∷ i64_ty ∷ i64_ty ∷ ints ∷ ints ∷ ints ∷ (Made (head.Record 0) (more ints (more ints none))) ∷ (Made (head.Record 0) (more ints (more ints none))) ∷ i64_ty ∷ i64_ty ∷ i64_ty ∷ (Made (head.Record 0) (more ints (more ints none))) ∷ (Made (head.Record 0) (more ints (more ints none))) ∷ i64_ty ∷ ints ∷ (Made (head.Record 0) (more ints (more ints none))) ∷ (Made (head.Record 0) (more ints (more ints none))) ∷ i64_ty ∷ []; program = (define 0 (lambda (Typed_pattern (name 1) i64_type ∷ []) (strict (Declared i64_type) 26 (let_in (name 2) (strict (Record_of (codes "x" ∷ codes "y" ∷ [])) 34 (Apply (the prim.Iota) (var 1 44) ∷ Apply (the prim.Iota) (var 1 56) ∷ [])) (let_in (name 3) (strict Update 76 (strict (Project (codes "x")) 67 (var 2 67 ∷ []) ∷ literal 0 ∷ literal 5 ∷ [])) (let_in (name 4) (var 2 92) (strict (Index (part.At ∷ [])) 100 (strict (Project (codes "y")) 97 (var 4 97 ∷ []) ∷ literal 0 ∷ [])))) ∷ []))) ∷ []); answer = Some (Consumed (ByName (b 2)) (Mark (at 76)) (First 23)) }

-- def main (n: i64): i64 = let r = {x = iota n, y = iota n} let {y = p, x = q} = r let c = p with [0] = 5 in q[0] + r.y[0]
abbrev record_pattern : Case
record_pattern = record { types = (fun_ty i64_ty i64_ty) ∷ (fun_ty i64_ty i64_ty) ∷ i64_ty ∷ i64_ty ∷ i64_ty ∷ (Made (head.Record 0) (more ints (more ints none))) ∷ (Made (head.Record 0) (more ints (more ints none))) ∷ ints ∷ (fun_ty i64_ty ints) ∷ i64_ty ∷ ints ∷ (fun_ty i64_ty ints) ∷ i64_ty ∷ i64_ty ∷ (Made (head.Record 0) (more ints (more ints none))) ∷ ints ∷ ints ∷ (Made (head.Record 0) (more ints (more ints none))) ∷ i64_ty ∷ ints ∷ ints ∷ ints ∷ i64_ty ∷ i64_ty ∷ i64_ty ∷ i64_ty ∷ i64_ty ∷ ints ∷ i64_ty ∷ i64_ty ∷ ints ∷ (Made (head.Record 0) (more ints (more ints none))) ∷ (Made (head.Record 0) (more ints (more ints none))) ∷ i64_ty ∷ []; program = (define 0 (lambda (Typed_pattern (name 1) i64_type ∷ []) (strict (Declared i64_type) 26 (let_in (name 2) (strict (Record_of (codes "x" ∷ codes "y" ∷ [])) 34 (Apply (the prim.Iota) (var 1 44) ∷ Apply (the prim.Iota) (var 1 56) ∷ [])) (let_in (Record_pattern (codes "y" ∷ codes "x" ∷ []) (all_patterns (name 3 ∷ name 4 ∷ []))) (var 2 80) (let_in (name 5) (strict Update 97 (var 3 90 ∷ literal 0 ∷ literal 5 ∷ [])) (strict (Binary op.Add) 113 (strict (Index (part.At ∷ [])) 109 (var 4 108 ∷ literal 0 ∷ []) ∷ strict (Index (part.At ∷ [])) 118 (strict (Project (codes "y")) 115 (var 2 115 ∷ []) ∷ literal 0 ∷ []) ∷ [])))) ∷ []))) ∷ []); answer = Some (Consumed (ByName (b 2)) (Mark (at 97)) (First 32)) }

-- def main (n: i64): i64 = let a = iota n let r = if n > 0 then a with [0] = 1 else a in r[0]
abbrev branches : Case
branches = record { types = (fun_ty i64_ty i64_ty) ∷ (fun_ty i64_ty i64_ty) ∷ i64_ty ∷ i64_ty ∷ i64_ty ∷ ints ∷ ints ∷ (fun_ty i64_ty ints) ∷ i64_ty ∷ i64_ty ∷ ints ∷ ints ∷ bool_ty ∷ i64_ty ∷ i64_ty ∷ i64_ty ∷ ints ∷ ints ∷ i64_ty ∷ i64_ty ∷ ints ∷ i64_ty ∷ ints ∷ i64_ty ∷ []; program = (define 0 (lambda (Typed_pattern (name 1) i64_type ∷ []) (strict (Declared i64_type) 26 (let_in (name 2) (Apply (the prim.Iota) (var 1 39)) (let_in (name 3) (If (strict (Binary op.Gt) 54 (var 1 52 ∷ literal 0 ∷ [])) (strict Update 70 (var 2 63 ∷ literal 0 ∷ literal 1 ∷ [])) (var 2 83)) (strict (Index (part.At ∷ [])) 89 (var 3 88 ∷ literal 0 ∷ []))) ∷ []))) ∷ []); answer = Some (Consumed (ByName (b 3)) (Mark (at 70)) (First 22)) }

-- def main (n: i64): i64 = let a = iota n in (if n > 0 then a with [0] = 1 else a)[0]
abbrev branches_without_name : Case
branches_without_name = record { types = (fun_ty i64_ty i64_ty) ∷ (fun_ty i64_ty i64_ty) ∷ i64_ty ∷ i64_ty ∷ i64_ty ∷ ints ∷ ints ∷ (fun_ty i64_ty ints) ∷ i64_ty ∷ i64_ty ∷ ints ∷ bool_ty ∷ i64_ty ∷ i64_ty ∷ i64_ty ∷ ints ∷ ints ∷ i64_ty ∷ i64_ty ∷ ints ∷ i64_ty ∷ []; program = (define 0 (lambda (Typed_pattern (name 1) i64_type ∷ []) (strict (Declared i64_type) 26 (let_in (name 2) (Apply (the prim.Iota) (var 1 39)) (strict (Index (part.At ∷ [])) 81 (If (strict (Binary op.Gt) 50 (var 1 48 ∷ literal 0 ∷ [])) (strict Update 66 (var 2 59 ∷ literal 0 ∷ literal 1 ∷ [])) (var 2 79) ∷ literal 0 ∷ [])) ∷ []))) ∷ []); answer = None }

sharing_answered : map found (a_name ∷ a_copy ∷ a_row ∷ an_element ∷ a_view ∷ a_map ∷ a_literal ∷ other_component ∷ same_component ∷ other_field ∷ whole_record ∷ record_pattern ∷ branches ∷ branches_without_name ∷ []) ≡ map answer (a_name ∷ a_copy ∷ a_row ∷ an_element ∷ a_view ∷ a_map ∷ a_literal ∷ other_component ∷ same_component ∷ other_field ∷ whole_record ∷ record_pattern ∷ branches ∷ branches_without_name ∷ [])
unfolding is_in with_alias union those spread all_spread written_stars tuple_stars record_stars has_star some_has_star lacks_star some_lacks_star adds_star some_adds_star consumes some_consumes consumes_more consumed_more some_consumes_more some_consumed_more gives_less given_less some_gives_less some_given_less either all_either of_type of_types with_stars all_with_stars at_type all_at_type components all_components with_sets all_with_sets named all_named starring all_starring functions all_functions ascribed all_ascribed part_named with_part_named lose_all lost pattern_stars patterns_stars fields_stars bound all_bound fields_bound kept all_kept fields_kept capture all_captured turns_captured some_name name_in turns_name own_names all_own_names fields_own_names starts all_starts fields_start misfit all_misfit fields_misfit looked all_looked turns_looked condition_looked value_looked first_broken place_from place part_at
sharing_answered = refl

-- ---- calls: what has no star in a result may share with all that was not consumed, and components without a star with one another

-- def f (a: []i64): []i64 = a def main (n: i64): i64 = let a = iota n let r = f a let d = r with [0] = 1 in a[0]
abbrev call_shares : Case
call_shares = record { types = (fun_ty ints ints) ∷ (fun_ty ints ints) ∷ ints ∷ ints ∷ ints ∷ (fun_ty i64_ty i64_ty) ∷ (fun_ty i64_ty i64_ty) ∷ i64_ty ∷ i64_ty ∷ i64_ty ∷ ints ∷ ints ∷ (fun_ty i64_ty ints) ∷ i64_ty ∷ i64_ty ∷ ints ∷ ints ∷ (fun_ty ints ints) ∷ ints ∷ i64_ty ∷ ints ∷ ints ∷ ints ∷ i64_ty ∷ i64_ty ∷ i64_ty ∷ ints ∷ i64_ty ∷ []; program = (define 0 (lambda (Typed_pattern (name 1) (array_of i64_type) ∷ []) (strict (Declared (array_of i64_type)) 27 (var 1 27 ∷ []))) ∷ define 2 (lambda (Typed_pattern (name 3) i64_type ∷ []) (strict (Declared i64_type) 54 (let_in (name 4) (Apply (the prim.Iota) (var 3 67)) (let_in (name 5) (Apply (var 0 77) (var 4 79)) (let_in (name 6) (strict Update 96 (var 5 89 ∷ literal 0 ∷ literal 1 ∷ [])) (strict (Index (part.At ∷ [])) 108 (var 4 107 ∷ literal 0 ∷ [])))) ∷ []))) ∷ []); answer = Some (Consumed (ByName (b 4)) (Mark (at 96)) (First 26)) }

-- def f (a: []i64): *[]i64 = copy a def main (n: i64): i64 = let a = iota n let r = f a let d = r with [0] = 1 in a[0] + d[0]
abbrev call_fresh : Case
call_fresh = record { types = (fun_ty ints ints) ∷ (fun_ty ints ints) ∷ ints ∷ ints ∷ ints ∷ (fun_ty ints ints) ∷ ints ∷ (fun_ty i64_ty i64_ty) ∷ (fun_ty i64_ty i64_ty) ∷ i64_ty ∷ i64_ty ∷ i64_ty ∷ ints ∷ ints ∷ (fun_ty i64_ty ints) ∷ i64_ty ∷ i64_ty ∷ ints ∷ ints ∷ (fun_ty ints ints) ∷ ints ∷ i64_ty ∷ ints ∷ ints ∷ ints ∷ i64_ty ∷ i64_ty ∷ i64_ty ∷ i64_ty ∷ i64_ty ∷ ints ∷ i64_ty ∷ i64_ty ∷ ints ∷ i64_ty ∷ []; program = (define 0 (lambda (Typed_pattern (name 1) (array_of i64_type) ∷ []) (strict (Declared (Unique_type (array_of i64_type))) 28 (Apply (the prim.Copy) (var 1 33) ∷ []))) ∷ define 2 (lambda (Typed_pattern (name 3) i64_type ∷ []) (strict (Declared i64_type) 60 (let_in (name 4) (Apply (the prim.Iota) (var 3 73)) (let_in (name 5) (Apply (var 0 83) (var 4 85)) (let_in (name 6) (strict Update 102 (var 5 95 ∷ literal 0 ∷ literal 1 ∷ [])) (strict (Binary op.Add) 118 (strict (Index (part.At ∷ [])) 114 (var 4 113 ∷ literal 0 ∷ []) ∷ strict (Index (part.At ∷ [])) 121 (var 6 120 ∷ literal 0 ∷ []) ∷ [])))) ∷ []))) ∷ []); answer = None }

-- def pair (n: i64): ([]i64, []i64) = (iota n, iota n) def main (n: i64): i64 = let (a, c) = pair n let d = a with [0] = 9 in c[0]
abbrev components_share : Case
components_share = record { types = (fun_ty i64_ty (pair_ty ints ints)) ∷ (fun_ty i64_ty (pair_ty ints ints)) ∷ i64_ty ∷ (pair_ty ints ints) ∷ (pair_ty ints ints) ∷ ints ∷ (fun_ty i64_ty ints) ∷ i64_ty ∷ ints ∷ (fun_ty i64_ty ints) ∷ i64_ty ∷ (fun_ty i64_ty i64_ty) ∷ (fun_ty i64_ty i64_ty) ∷ i64_ty ∷ i64_ty ∷ i64_ty ∷ (pair_ty ints ints) ∷ ints ∷ ints ∷ (pair_ty ints ints) ∷ (fun_ty i64_ty (pair_ty ints ints)) ∷ i64_ty ∷ i64_ty ∷ ints ∷ ints ∷ ints ∷ i64_ty ∷ i64_ty ∷ i64_ty ∷ ints ∷ i64_ty ∷ []; program = (define 0 (lambda (Typed_pattern (name 1) i64_type ∷ []) (strict (Declared (Tuple_type (type_and (array_of i64_type) (type_and (array_of i64_type) no_type)))) 37 (strict Tuple_of 37 (Apply (the prim.Iota) (var 1 43) ∷ Apply (the prim.Iota) (var 1 51) ∷ []) ∷ []))) ∷ define 2 (lambda (Typed_pattern (name 3) i64_type ∷ []) (strict (Declared i64_type) 79 (let_in (Tuple_pattern (all_patterns (name 4 ∷ name 5 ∷ []))) (Apply (var 0 92) (var 3 97)) (let_in (name 6) (strict Update 114 (var 4 107 ∷ literal 0 ∷ literal 9 ∷ [])) (strict (Index (part.At ∷ [])) 126 (var 5 125 ∷ literal 0 ∷ []))) ∷ []))) ∷ []); answer = Some (Consumed (ByName (b 5)) (Mark (at 114)) (First 29)) }

-- def pair (n: i64): (*[]i64, []i64) = (iota n, iota n) def main (n: i64): i64 = let (a, c) = pair n let d = a with [0] = 9 in c[0]
abbrev components_apart : Case
components_apart = record { types = (fun_ty i64_ty (pair_ty ints ints)) ∷ (fun_ty i64_ty (pair_ty ints ints)) ∷ i64_ty ∷ (pair_ty ints ints) ∷ (pair_ty ints ints) ∷ ints ∷ (fun_ty i64_ty ints) ∷ i64_ty ∷ ints ∷ (fun_ty i64_ty ints) ∷ i64_ty ∷ (fun_ty i64_ty i64_ty) ∷ (fun_ty i64_ty i64_ty) ∷ i64_ty ∷ i64_ty ∷ i64_ty ∷ (pair_ty ints ints) ∷ ints ∷ ints ∷ (pair_ty ints ints) ∷ (fun_ty i64_ty (pair_ty ints ints)) ∷ i64_ty ∷ i64_ty ∷ ints ∷ ints ∷ ints ∷ i64_ty ∷ i64_ty ∷ i64_ty ∷ ints ∷ i64_ty ∷ []; program = (define 0 (lambda (Typed_pattern (name 1) i64_type ∷ []) (strict (Declared (Tuple_type (type_and (Unique_type (array_of i64_type)) (type_and (array_of i64_type) no_type)))) 38 (strict Tuple_of 38 (Apply (the prim.Iota) (var 1 44) ∷ Apply (the prim.Iota) (var 1 52) ∷ []) ∷ []))) ∷ define 2 (lambda (Typed_pattern (name 3) i64_type ∷ []) (strict (Declared i64_type) 80 (let_in (Tuple_pattern (all_patterns (name 4 ∷ name 5 ∷ []))) (Apply (var 0 93) (var 3 98)) (let_in (name 6) (strict Update 115 (var 4 108 ∷ literal 0 ∷ literal 9 ∷ [])) (strict (Index (part.At ∷ [])) 127 (var 5 126 ∷ literal 0 ∷ []))) ∷ []))) ∷ []); answer = None }

-- def g (n: i64): ([]i64, []i64) = (iota n, iota n) def f (n: i64): (*[]i64, []i64) = g n
abbrev own_name : Case
own_name = record { types = (fun_ty i64_ty (pair_ty ints ints)) ∷ (fun_ty i64_ty (pair_ty ints ints)) ∷ i64_ty ∷ (pair_ty ints ints) ∷ (pair_ty ints ints) ∷ ints ∷ (fun_ty i64_ty ints) ∷ i64_ty ∷ ints ∷ (fun_ty i64_ty ints) ∷ i64_ty ∷ (fun_ty i64_ty (pair_ty ints ints)) ∷ (fun_ty i64_ty (pair_ty ints ints)) ∷ i64_ty ∷ (pair_ty ints ints) ∷ (pair_ty ints ints) ∷ (fun_ty i64_ty (pair_ty ints ints)) ∷ i64_ty ∷ []; program = (define 0 (lambda (Typed_pattern (name 1) i64_type ∷ []) (strict (Declared (Tuple_type (type_and (array_of i64_type) (type_and (array_of i64_type) no_type)))) 34 (strict Tuple_of 34 (Apply (the prim.Iota) (var 1 40) ∷ Apply (the prim.Iota) (var 1 48) ∷ []) ∷ []))) ∷ define 2 (lambda (Typed_pattern (name 3) i64_type ∷ []) (strict (Declared (Tuple_type (type_and (Unique_type (array_of i64_type)) (type_and (array_of i64_type) no_type)))) 85 (Apply (var 0 85) (var 3 87) ∷ []))) ∷ []); answer = Some (ResultAliases (ByAlias (Own 15)) (First 14)) }

-- def main (n: i64): i64 = let a = iota n let z = zip a a let w = z with [0] = (7, 8) in a[0]
abbrev zipped : Case
zipped = record { types = (fun_ty i64_ty i64_ty) ∷ (fun_ty i64_ty i64_ty) ∷ i64_ty ∷ i64_ty ∷ i64_ty ∷ ints ∷ ints ∷ (fun_ty i64_ty ints) ∷ i64_ty ∷ i64_ty ∷ (array_ty (pair_ty i64_ty i64_ty)) ∷ (array_ty (pair_ty i64_ty i64_ty)) ∷ (fun_ty ints (array_ty (pair_ty i64_ty i64_ty))) ∷ (fun_ty ints (fun_ty ints (array_ty (pair_ty i64_ty i64_ty)))) ∷ ints ∷ ints ∷ i64_ty ∷ (array_ty (pair_ty i64_ty i64_ty)) ∷ (array_ty (pair_ty i64_ty i64_ty)) ∷ (array_ty (pair_ty i64_ty i64_ty)) ∷ i64_ty ∷ (pair_ty i64_ty i64_ty) ∷ i64_ty ∷ i64_ty ∷ i64_ty ∷ ints ∷ i64_ty ∷ []; program = (define 0 (lambda (Typed_pattern (name 1) i64_type ∷ []) (strict (Declared i64_type) 26 (let_in (name 2) (Apply (the prim.Iota) (var 1 39)) (let_in (name 3) (Apply (Apply (the prim.Zip) (var 2 53)) (var 2 55)) (let_in (name 4) (strict Update 72 (var 3 65 ∷ literal 0 ∷ strict Tuple_of 78 (literal 7 ∷ literal 8 ∷ []) ∷ [])) (strict (Index (part.At ∷ [])) 89 (var 2 88 ∷ literal 0 ∷ [])))) ∷ []))) ∷ []); answer = None }

-- def main (n: i64): i64 = let z = zip (iota n) (iota n) let (x, y) = unzip z let c = x with [0] = 1 in y[0]
abbrev unzipped : Case
unzipped = record { types = (fun_ty i64_ty i64_ty) ∷ (fun_ty i64_ty i64_ty) ∷ i64_ty ∷ i64_ty ∷ i64_ty ∷ (array_ty (pair_ty i64_ty i64_ty)) ∷ (array_ty (pair_ty i64_ty i64_ty)) ∷ (fun_ty ints (array_ty (pair_ty i64_ty i64_ty))) ∷ (fun_ty ints (fun_ty ints (array_ty (pair_ty i64_ty i64_ty)))) ∷ ints ∷ (fun_ty i64_ty ints) ∷ i64_ty ∷ ints ∷ (fun_ty i64_ty ints) ∷ i64_ty ∷ i64_ty ∷ (pair_ty ints ints) ∷ ints ∷ ints ∷ (pair_ty ints ints) ∷ (fun_ty (array_ty (pair_ty i64_ty i64_ty)) (pair_ty ints ints)) ∷ (array_ty (pair_ty i64_ty i64_ty)) ∷ i64_ty ∷ ints ∷ ints ∷ ints ∷ i64_ty ∷ i64_ty ∷ i64_ty ∷ ints ∷ i64_ty ∷ []; program = (define 0 (lambda (Typed_pattern (name 1) i64_type ∷ []) (strict (Declared i64_type) 26 (let_in (name 2) (Apply (Apply (the prim.Zip) (Apply (the prim.Iota) (var 1 44))) (Apply (the prim.Iota) (var 1 53))) (let_in (Tuple_pattern (all_patterns (name 3 ∷ name 4 ∷ []))) (Apply (the prim.Unzip) (var 2 75)) (let_in (name 5) (strict Update 92 (var 3 85 ∷ literal 0 ∷ literal 1 ∷ [])) (strict (Index (part.At ∷ [])) 104 (var 4 103 ∷ literal 0 ∷ [])))) ∷ []))) ∷ []); answer = Some (Consumed (ByName (b 4)) (Mark (at 92)) (First 29)) }

-- def main (m: [][]i64) (n: i64): i64 = let a = iota n let r = reduce (\x y -> x) a m let c = copy r let d = scatter a [0] [1] in r[0] + c[0]
abbrev neutral_element : Case
neutral_element = record { types = (fun_ty (array_ty ints) (fun_ty i64_ty i64_ty)) ∷ (fun_ty (array_ty ints) (fun_ty i64_ty i64_ty)) ∷ (array_ty ints) ∷ i64_ty ∷ i64_ty ∷ i64_ty ∷ ints ∷ ints ∷ (fun_ty i64_ty ints) ∷ i64_ty ∷ i64_ty ∷ ints ∷ ints ∷ (fun_ty (array_ty ints) ints) ∷ (fun_ty ints (fun_ty (array_ty ints) ints)) ∷ (fun_ty (fun_ty ints (fun_ty ints ints)) (fun_ty ints (fun_ty (array_ty ints) ints))) ∷ (fun_ty ints (fun_ty ints ints)) ∷ ints ∷ ints ∷ ints ∷ ints ∷ (array_ty ints) ∷ i64_ty ∷ ints ∷ ints ∷ (fun_ty ints ints) ∷ ints ∷ i64_ty ∷ ints ∷ ints ∷ (fun_ty ints ints) ∷ (fun_ty ints (fun_ty ints ints)) ∷ (fun_ty ints (fun_ty ints (fun_ty ints ints))) ∷ ints ∷ ints ∷ i64_ty ∷ ints ∷ i64_ty ∷ i64_ty ∷ i64_ty ∷ i64_ty ∷ ints ∷ i64_ty ∷ i64_ty ∷ ints ∷ i64_ty ∷ []; program = (define 0 (lambda (Typed_pattern (name 1) (array_of (array_of i64_type)) ∷ Typed_pattern (name 2) i64_type ∷ []) (strict (Declared i64_type) 39 (let_in (name 3) (Apply (the prim.Iota) (var 2 52)) (let_in (name 6) (Apply (Apply (Apply (the prim.Reduce) (lambda (name 4 ∷ name 5 ∷ []) (var 4 78))) (var 3 81)) (var 1 83)) (let_in (name 7) (Apply (the prim.Copy) (var 6 98)) (let_in (name 8) (Apply (Apply (Apply (the prim.Scatter) (var 3 116)) (strict Array_of 118 (literal 0 ∷ []))) (strict Array_of 122 (literal 1 ∷ []))) (strict (Binary op.Add) 134 (strict (Index (part.At ∷ [])) 130 (var 6 129 ∷ literal 0 ∷ []) ∷ strict (Index (part.At ∷ [])) 137 (var 7 136 ∷ literal 0 ∷ []) ∷ []))))) ∷ []))) ∷ []); answer = Some (Consumed (ByName (b 6)) (First 33) (First 41)) }

-- def id 'a (x: a): a = x def main (n: i64): i64 = let a = iota n let c = iota n let (p, q) = id (a, c) let d = p with [0] = 1 in c[0]
abbrev components_of_variable : Case
components_of_variable = record { types = (fun_ty (Made (head.Rigid 1 kind.Data) none) (Made (head.Rigid 1 kind.Data) none)) ∷ (fun_ty (Made (head.Rigid 1 kind.Data) none) (Made (head.Rigid 1 kind.Data) none)) ∷ (Made (head.Rigid 1 kind.Data) none) ∷ (Made (head.Rigid 1 kind.Data) none) ∷ (Made (head.Rigid 1 kind.Data) none) ∷ (fun_ty i64_ty i64_ty) ∷ (fun_ty i64_ty i64_ty) ∷ i64_ty ∷ i64_ty ∷ i64_ty ∷ ints ∷ ints ∷ (fun_ty i64_ty ints) ∷ i64_ty ∷ i64_ty ∷ ints ∷ ints ∷ (fun_ty i64_ty ints) ∷ i64_ty ∷ i64_ty ∷ (pair_ty ints ints) ∷ ints ∷ ints ∷ (pair_ty ints ints) ∷ (fun_ty (pair_ty ints ints) (pair_ty ints ints)) ∷ (pair_ty ints ints) ∷ ints ∷ ints ∷ i64_ty ∷ ints ∷ ints ∷ ints ∷ i64_ty ∷ i64_ty ∷ i64_ty ∷ ints ∷ i64_ty ∷ []; program = (define 0 (lambda (Typed_pattern (name 2) (Type_use (ref.Bound (b 1)) no_arg) ∷ []) (strict (Declared (Type_use (ref.Bound (b 1)) no_arg)) 23 (var 2 23 ∷ []))) ∷ define 3 (lambda (Typed_pattern (name 4) i64_type ∷ []) (strict (Declared i64_type) 50 (let_in (name 5) (Apply (the prim.Iota) (var 4 63)) (let_in (name 6) (Apply (the prim.Iota) (var 4 78)) (let_in (Tuple_pattern (all_patterns (name 7 ∷ name 8 ∷ []))) (Apply (var 0 93) (strict Tuple_of 96 (var 5 97 ∷ var 6 100 ∷ []))) (let_in (name 9) (strict Update 118 (var 7 111 ∷ literal 0 ∷ literal 1 ∷ [])) (strict (Index (part.At ∷ [])) 130 (var 6 129 ∷ literal 0 ∷ []))))) ∷ []))) ∷ []); answer = Some (Consumed (ByName (b 6)) (Mark (at 118)) (First 35)) }

-- def h (a: []i64) (i: i64): []i64 = a def main (n: i64): i64 = let a = iota n let f = h a let r = f 0 let c = r with [0] = 1 in a[0]
abbrev partial_result : Case
partial_result = record { types = (fun_ty ints (fun_ty i64_ty ints)) ∷ (fun_ty ints (fun_ty i64_ty ints)) ∷ ints ∷ i64_ty ∷ ints ∷ ints ∷ (fun_ty i64_ty i64_ty) ∷ (fun_ty i64_ty i64_ty) ∷ i64_ty ∷ i64_ty ∷ i64_ty ∷ ints ∷ ints ∷ (fun_ty i64_ty ints) ∷ i64_ty ∷ i64_ty ∷ (fun_ty i64_ty ints) ∷ (fun_ty i64_ty ints) ∷ (fun_ty ints (fun_ty i64_ty ints)) ∷ ints ∷ i64_ty ∷ ints ∷ ints ∷ (fun_ty i64_ty ints) ∷ i64_ty ∷ i64_ty ∷ ints ∷ ints ∷ ints ∷ i64_ty ∷ i64_ty ∷ i64_ty ∷ ints ∷ i64_ty ∷ []; program = (define 0 (lambda (Typed_pattern (name 1) (array_of i64_type) ∷ Typed_pattern (name 2) i64_type ∷ []) (strict (Declared (array_of i64_type)) 36 (var 1 36 ∷ []))) ∷ define 3 (lambda (Typed_pattern (name 4) i64_type ∷ []) (strict (Declared i64_type) 63 (let_in (name 5) (Apply (the prim.Iota) (var 4 76)) (let_in (name 6) (Apply (var 0 86) (var 5 88)) (let_in (name 7) (Apply (var 6 98) (literal 0)) (let_in (name 8) (strict Update 117 (var 7 110 ∷ literal 0 ∷ literal 1 ∷ [])) (strict (Index (part.At ∷ [])) 129 (var 5 128 ∷ literal 0 ∷ []))))) ∷ []))) ∷ []); answer = Some (Consumed (ByName (b 5)) (Mark (at 117)) (First 32)) }

calls_answered : map found (call_shares ∷ call_fresh ∷ components_share ∷ components_apart ∷ own_name ∷ zipped ∷ unzipped ∷ neutral_element ∷ components_of_variable ∷ partial_result ∷ []) ≡ map answer (call_shares ∷ call_fresh ∷ components_share ∷ components_apart ∷ own_name ∷ zipped ∷ unzipped ∷ neutral_element ∷ components_of_variable ∷ partial_result ∷ [])
unfolding is_in with_alias union those spread all_spread written_stars tuple_stars record_stars has_star some_has_star lacks_star some_lacks_star adds_star some_adds_star consumes some_consumes consumes_more consumed_more some_consumes_more some_consumed_more gives_less given_less some_gives_less some_given_less either all_either of_type of_types with_stars all_with_stars at_type all_at_type components all_components with_sets all_with_sets named all_named starring all_starring functions all_functions ascribed all_ascribed part_named with_part_named lose_all lost pattern_stars patterns_stars fields_stars bound all_bound fields_bound kept all_kept fields_kept capture all_captured turns_captured some_name name_in turns_name own_names all_own_names fields_own_names starts all_starts fields_start misfit all_misfit fields_misfit looked all_looked turns_looked condition_looked value_looked first_broken place_from place part_at
calls_answered = refl

-- ---- a use after consumption

-- def f (a: *[]i64): i64 = a[0] def main (n: i64): i64 = let a = iota n let x = f a in a[0] + x
abbrev call_consumes : Case
call_consumes = record { types = (fun_ty ints i64_ty) ∷ (fun_ty ints i64_ty) ∷ ints ∷ i64_ty ∷ i64_ty ∷ ints ∷ i64_ty ∷ (fun_ty i64_ty i64_ty) ∷ (fun_ty i64_ty i64_ty) ∷ i64_ty ∷ i64_ty ∷ i64_ty ∷ ints ∷ ints ∷ (fun_ty i64_ty ints) ∷ i64_ty ∷ i64_ty ∷ i64_ty ∷ i64_ty ∷ (fun_ty ints i64_ty) ∷ ints ∷ i64_ty ∷ i64_ty ∷ i64_ty ∷ ints ∷ i64_ty ∷ i64_ty ∷ []; program = (define 0 (lambda (Typed_pattern (name 1) (Unique_type (array_of i64_type)) ∷ []) (strict (Declared i64_type) 26 (strict (Index (part.At ∷ [])) 27 (var 1 26 ∷ literal 0 ∷ []) ∷ []))) ∷ define 2 (lambda (Typed_pattern (name 3) i64_type ∷ []) (strict (Declared i64_type) 56 (let_in (name 4) (Apply (the prim.Iota) (var 3 69)) (let_in (name 5) (Apply (var 0 79) (var 4 81)) (strict (Binary op.Add) 91 (strict (Index (part.At ∷ [])) 87 (var 4 86 ∷ literal 0 ∷ []) ∷ var 5 93 ∷ []))) ∷ []))) ∷ []); answer = Some (Consumed (ByName (b 4)) (First 20) (First 24)) }

-- def f (a: *[]i64): i64 = a[0] def main (n: i64): i64 = let a = iota n let x = f (copy a) in a[0] + x
abbrev call_consumes_copy : Case
call_consumes_copy = record { types = (fun_ty ints i64_ty) ∷ (fun_ty ints i64_ty) ∷ ints ∷ i64_ty ∷ i64_ty ∷ ints ∷ i64_ty ∷ (fun_ty i64_ty i64_ty) ∷ (fun_ty i64_ty i64_ty) ∷ i64_ty ∷ i64_ty ∷ i64_ty ∷ ints ∷ ints ∷ (fun_ty i64_ty ints) ∷ i64_ty ∷ i64_ty ∷ i64_ty ∷ i64_ty ∷ (fun_ty ints i64_ty) ∷ ints ∷ (fun_ty ints ints) ∷ ints ∷ i64_ty ∷ i64_ty ∷ i64_ty ∷ ints ∷ i64_ty ∷ i64_ty ∷ []; program = (define 0 (lambda (Typed_pattern (name 1) (Unique_type (array_of i64_type)) ∷ []) (strict (Declared i64_type) 26 (strict (Index (part.At ∷ [])) 27 (var 1 26 ∷ literal 0 ∷ []) ∷ []))) ∷ define 2 (lambda (Typed_pattern (name 3) i64_type ∷ []) (strict (Declared i64_type) 56 (let_in (name 4) (Apply (the prim.Iota) (var 3 69)) (let_in (name 5) (Apply (var 0 79) (Apply (the prim.Copy) (var 4 87))) (strict (Binary op.Add) 98 (strict (Index (part.At ∷ [])) 94 (var 4 93 ∷ literal 0 ∷ []) ∷ var 5 100 ∷ []))) ∷ []))) ∷ []); answer = None }

-- def main (n: i64): i64 = let a = iota n let d = if n > 0 then (a with [0] = 1)[0] else 0 in a[0] + d
abbrev one_branch_consumes : Case
one_branch_consumes = record { types = (fun_ty i64_ty i64_ty) ∷ (fun_ty i64_ty i64_ty) ∷ i64_ty ∷ i64_ty ∷ i64_ty ∷ ints ∷ ints ∷ (fun_ty i64_ty ints) ∷ i64_ty ∷ i64_ty ∷ i64_ty ∷ i64_ty ∷ bool_ty ∷ i64_ty ∷ i64_ty ∷ i64_ty ∷ i64_ty ∷ ints ∷ ints ∷ i64_ty ∷ i64_ty ∷ i64_ty ∷ i64_ty ∷ i64_ty ∷ i64_ty ∷ i64_ty ∷ ints ∷ i64_ty ∷ i64_ty ∷ []; program = (define 0 (lambda (Typed_pattern (name 1) i64_type ∷ []) (strict (Declared i64_type) 26 (let_in (name 2) (Apply (the prim.Iota) (var 1 39)) (let_in (name 3) (If (strict (Binary op.Gt) 54 (var 1 52 ∷ literal 0 ∷ [])) (strict (Index (part.At ∷ [])) 79 (strict Update 71 (var 2 64 ∷ literal 0 ∷ literal 1 ∷ []) ∷ literal 0 ∷ [])) (literal 0)) (strict (Binary op.Add) 98 (strict (Index (part.At ∷ [])) 94 (var 2 93 ∷ literal 0 ∷ []) ∷ var 3 100 ∷ []))) ∷ []))) ∷ []); answer = Some (Consumed (ByName (b 2)) (Mark (at 71)) (First 26)) }

-- def main (n: i64): i64 = let a = iota n let f = \i -> a[i] let c = a with [0] = 1 in f 0
abbrev closure : Case
closure = record { types = (fun_ty i64_ty i64_ty) ∷ (fun_ty i64_ty i64_ty) ∷ i64_ty ∷ i64_ty ∷ i64_ty ∷ ints ∷ ints ∷ (fun_ty i64_ty ints) ∷ i64_ty ∷ i64_ty ∷ (fun_ty i64_ty i64_ty) ∷ (fun_ty i64_ty i64_ty) ∷ i64_ty ∷ i64_ty ∷ ints ∷ i64_ty ∷ i64_ty ∷ ints ∷ ints ∷ ints ∷ i64_ty ∷ i64_ty ∷ i64_ty ∷ (fun_ty i64_ty i64_ty) ∷ i64_ty ∷ []; program = (define 0 (lambda (Typed_pattern (name 1) i64_type ∷ []) (strict (Declared i64_type) 26 (let_in (name 2) (Apply (the prim.Iota) (var 1 39)) (let_in (name 4) (lambda (name 3 ∷ []) (strict (Index (part.At ∷ [])) 56 (var 2 55 ∷ var 3 57 ∷ []))) (let_in (name 5) (strict Update 75 (var 2 68 ∷ literal 0 ∷ literal 1 ∷ [])) (Apply (var 4 86) (literal 0)))) ∷ []))) ∷ []); answer = Some (Consumed (ByName (b 4)) (Mark (at 75)) (First 23)) }

-- def main (n: i64): i64 = let a = iota n let f = \i -> a[i] let x = f 0 let c = a with [0] = 1 in c[0] + x
abbrev closure_before : Case
closure_before = record { types = (fun_ty i64_ty i64_ty) ∷ (fun_ty i64_ty i64_ty) ∷ i64_ty ∷ i64_ty ∷ i64_ty ∷ ints ∷ ints ∷ (fun_ty i64_ty ints) ∷ i64_ty ∷ i64_ty ∷ (fun_ty i64_ty i64_ty) ∷ (fun_ty i64_ty i64_ty) ∷ i64_ty ∷ i64_ty ∷ ints ∷ i64_ty ∷ i64_ty ∷ i64_ty ∷ i64_ty ∷ (fun_ty i64_ty i64_ty) ∷ i64_ty ∷ i64_ty ∷ ints ∷ ints ∷ ints ∷ i64_ty ∷ i64_ty ∷ i64_ty ∷ i64_ty ∷ i64_ty ∷ ints ∷ i64_ty ∷ i64_ty ∷ []; program = (define 0 (lambda (Typed_pattern (name 1) i64_type ∷ []) (strict (Declared i64_type) 26 (let_in (name 2) (Apply (the prim.Iota) (var 1 39)) (let_in (name 4) (lambda (name 3 ∷ []) (strict (Index (part.At ∷ [])) 56 (var 2 55 ∷ var 3 57 ∷ []))) (let_in (name 5) (Apply (var 4 68) (literal 0)) (let_in (name 6) (strict Update 87 (var 2 80 ∷ literal 0 ∷ literal 1 ∷ [])) (strict (Binary op.Add) 103 (strict (Index (part.At ∷ [])) 99 (var 6 98 ∷ literal 0 ∷ []) ∷ var 5 105 ∷ []))))) ∷ []))) ∷ []); answer = None }

-- def h (a: []i64) (i: i64): i64 = a[i] def main (n: i64): i64 = let a = iota n let f = h a let c = a with [0] = 1 in f 0
abbrev partial_keeps : Case
partial_keeps = record { types = (fun_ty ints (fun_ty i64_ty i64_ty)) ∷ (fun_ty ints (fun_ty i64_ty i64_ty)) ∷ ints ∷ i64_ty ∷ i64_ty ∷ i64_ty ∷ ints ∷ i64_ty ∷ (fun_ty i64_ty i64_ty) ∷ (fun_ty i64_ty i64_ty) ∷ i64_ty ∷ i64_ty ∷ i64_ty ∷ ints ∷ ints ∷ (fun_ty i64_ty ints) ∷ i64_ty ∷ i64_ty ∷ (fun_ty i64_ty i64_ty) ∷ (fun_ty i64_ty i64_ty) ∷ (fun_ty ints (fun_ty i64_ty i64_ty)) ∷ ints ∷ i64_ty ∷ ints ∷ ints ∷ ints ∷ i64_ty ∷ i64_ty ∷ i64_ty ∷ (fun_ty i64_ty i64_ty) ∷ i64_ty ∷ []; program = (define 0 (lambda (Typed_pattern (name 1) (array_of i64_type) ∷ Typed_pattern (name 2) i64_type ∷ []) (strict (Declared i64_type) 34 (strict (Index (part.At ∷ [])) 35 (var 1 34 ∷ var 2 36 ∷ []) ∷ []))) ∷ define 3 (lambda (Typed_pattern (name 4) i64_type ∷ []) (strict (Declared i64_type) 64 (let_in (name 5) (Apply (the prim.Iota) (var 4 77)) (let_in (name 6) (Apply (var 0 87) (var 5 89)) (let_in (name 7) (strict Update 106 (var 5 99 ∷ literal 0 ∷ literal 1 ∷ [])) (Apply (var 6 117) (literal 0)))) ∷ []))) ∷ []); answer = Some (Consumed (ByName (b 6)) (Mark (at 106)) (First 29)) }

-- def main (n: i64): i64 = let a = iota n let f = \i -> a[i] let g = \i -> f i let c = a with [0] = 1 in g 0
abbrev function_in_function : Case
function_in_function = record { types = (fun_ty i64_ty i64_ty) ∷ (fun_ty i64_ty i64_ty) ∷ i64_ty ∷ i64_ty ∷ i64_ty ∷ ints ∷ ints ∷ (fun_ty i64_ty ints) ∷ i64_ty ∷ i64_ty ∷ (fun_ty i64_ty i64_ty) ∷ (fun_ty i64_ty i64_ty) ∷ i64_ty ∷ i64_ty ∷ ints ∷ i64_ty ∷ i64_ty ∷ (fun_ty i64_ty i64_ty) ∷ (fun_ty i64_ty i64_ty) ∷ i64_ty ∷ i64_ty ∷ (fun_ty i64_ty i64_ty) ∷ i64_ty ∷ i64_ty ∷ ints ∷ ints ∷ ints ∷ i64_ty ∷ i64_ty ∷ i64_ty ∷ (fun_ty i64_ty i64_ty) ∷ i64_ty ∷ []; program = (define 0 (lambda (Typed_pattern (name 1) i64_type ∷ []) (strict (Declared i64_type) 26 (let_in (name 2) (Apply (the prim.Iota) (var 1 39)) (let_in (name 4) (lambda (name 3 ∷ []) (strict (Index (part.At ∷ [])) 56 (var 2 55 ∷ var 3 57 ∷ []))) (let_in (name 6) (lambda (name 5 ∷ []) (Apply (var 4 74) (var 5 76))) (let_in (name 7) (strict Update 93 (var 2 86 ∷ literal 0 ∷ literal 1 ∷ [])) (Apply (var 6 104) (literal 0))))) ∷ []))) ∷ []); answer = Some (Consumed (ByName (b 6)) (Mark (at 93)) (First 30)) }

-- def main (n: i64): i64 = let a = iota n let c = scatter a [0] [1] in a[0]
abbrev scatter_consumes : Case
scatter_consumes = record { types = (fun_ty i64_ty i64_ty) ∷ (fun_ty i64_ty i64_ty) ∷ i64_ty ∷ i64_ty ∷ i64_ty ∷ ints ∷ ints ∷ (fun_ty i64_ty ints) ∷ i64_ty ∷ i64_ty ∷ ints ∷ ints ∷ (fun_ty ints ints) ∷ (fun_ty ints (fun_ty ints ints)) ∷ (fun_ty ints (fun_ty ints (fun_ty ints ints))) ∷ ints ∷ ints ∷ i64_ty ∷ ints ∷ i64_ty ∷ i64_ty ∷ ints ∷ i64_ty ∷ []; program = (define 0 (lambda (Typed_pattern (name 1) i64_type ∷ []) (strict (Declared i64_type) 26 (let_in (name 2) (Apply (the prim.Iota) (var 1 39)) (let_in (name 3) (Apply (Apply (Apply (the prim.Scatter) (var 2 57)) (strict Array_of 59 (literal 0 ∷ []))) (strict Array_of 63 (literal 1 ∷ []))) (strict (Index (part.At ∷ [])) 71 (var 2 70 ∷ literal 0 ∷ []))) ∷ []))) ∷ []); answer = Some (Consumed (ByName (b 2)) (First 15) (First 21)) }

-- def main (n: i64): i64 = let a = iota n let c = if n > 0 then (a with [0] = 1)[0] else (a with [1] = 2)[0] in a[0]
abbrev first_place : Case
first_place = record { types = (fun_ty i64_ty i64_ty) ∷ (fun_ty i64_ty i64_ty) ∷ i64_ty ∷ i64_ty ∷ i64_ty ∷ ints ∷ ints ∷ (fun_ty i64_ty ints) ∷ i64_ty ∷ i64_ty ∷ i64_ty ∷ i64_ty ∷ bool_ty ∷ i64_ty ∷ i64_ty ∷ i64_ty ∷ i64_ty ∷ ints ∷ ints ∷ i64_ty ∷ i64_ty ∷ i64_ty ∷ i64_ty ∷ ints ∷ ints ∷ i64_ty ∷ i64_ty ∷ i64_ty ∷ i64_ty ∷ ints ∷ i64_ty ∷ []; program = (define 0 (lambda (Typed_pattern (name 1) i64_type ∷ []) (strict (Declared i64_type) 26 (let_in (name 2) (Apply (the prim.Iota) (var 1 39)) (let_in (name 3) (If (strict (Binary op.Gt) 54 (var 1 52 ∷ literal 0 ∷ [])) (strict (Index (part.At ∷ [])) 79 (strict Update 71 (var 2 64 ∷ literal 0 ∷ literal 1 ∷ []) ∷ literal 0 ∷ [])) (strict (Index (part.At ∷ [])) 104 (strict Update 96 (var 2 89 ∷ literal 1 ∷ literal 2 ∷ []) ∷ literal 0 ∷ []))) (strict (Index (part.At ∷ [])) 112 (var 2 111 ∷ literal 0 ∷ []))) ∷ []))) ∷ []); answer = Some (Consumed (ByName (b 2)) (Mark (at 71)) (First 29)) }

later_uses_answered : map found (call_consumes ∷ call_consumes_copy ∷ one_branch_consumes ∷ closure ∷ closure_before ∷ partial_keeps ∷ function_in_function ∷ scatter_consumes ∷ first_place ∷ []) ≡ map answer (call_consumes ∷ call_consumes_copy ∷ one_branch_consumes ∷ closure ∷ closure_before ∷ partial_keeps ∷ function_in_function ∷ scatter_consumes ∷ first_place ∷ [])
unfolding is_in with_alias union those spread all_spread written_stars tuple_stars record_stars has_star some_has_star lacks_star some_lacks_star adds_star some_adds_star consumes some_consumes consumes_more consumed_more some_consumes_more some_consumed_more gives_less given_less some_gives_less some_given_less either all_either of_type of_types with_stars all_with_stars at_type all_at_type components all_components with_sets all_with_sets named all_named starring all_starring functions all_functions ascribed all_ascribed part_named with_part_named lose_all lost pattern_stars patterns_stars fields_stars bound all_bound fields_bound kept all_kept fields_kept capture all_captured turns_captured some_name name_in turns_name own_names all_own_names fields_own_names starts all_starts fields_start misfit all_misfit fields_misfit looked all_looked turns_looked condition_looked value_looked first_broken place_from place part_at
later_uses_answered = refl

-- ---- in one node: no part shares with what a later part, or the call itself, consumes

-- def main (n: i64): ([]i64, []i64) = let a = iota n in (a, a with [0] = 1)
abbrev tuple : Case
tuple = record { types = (fun_ty i64_ty (pair_ty ints ints)) ∷ (fun_ty i64_ty (pair_ty ints ints)) ∷ i64_ty ∷ (pair_ty ints ints) ∷ (pair_ty ints ints) ∷ ints ∷ ints ∷ (fun_ty i64_ty ints) ∷ i64_ty ∷ (pair_ty ints ints) ∷ ints ∷ ints ∷ ints ∷ i64_ty ∷ i64_ty ∷ []; program = (define 0 (lambda (Typed_pattern (name 1) i64_type ∷ []) (strict (Declared (Tuple_type (type_and (array_of i64_type) (type_and (array_of i64_type) no_type)))) 37 (let_in (name 2) (Apply (the prim.Iota) (var 1 50)) (strict Tuple_of 55 (var 2 56 ∷ strict Update 66 (var 2 59 ∷ literal 0 ∷ literal 1 ∷ []) ∷ [])) ∷ []))) ∷ []); answer = Some (Consumed (ByAlias (Part 5 0 (b 2))) (Mark (at 66)) (First 10)) }

-- def main (n: i64): ([]i64, []i64) = let a = iota n in (copy a, a with [0] = 1)
abbrev tuple_of_copy : Case
tuple_of_copy = record { types = (fun_ty i64_ty (pair_ty ints ints)) ∷ (fun_ty i64_ty (pair_ty ints ints)) ∷ i64_ty ∷ (pair_ty ints ints) ∷ (pair_ty ints ints) ∷ ints ∷ ints ∷ (fun_ty i64_ty ints) ∷ i64_ty ∷ (pair_ty ints ints) ∷ ints ∷ (fun_ty ints ints) ∷ ints ∷ ints ∷ ints ∷ i64_ty ∷ i64_ty ∷ []; program = (define 0 (lambda (Typed_pattern (name 1) i64_type ∷ []) (strict (Declared (Tuple_type (type_and (array_of i64_type) (type_and (array_of i64_type) no_type)))) 37 (let_in (name 2) (Apply (the prim.Iota) (var 1 50)) (strict Tuple_of 55 (Apply (the prim.Copy) (var 2 61) ∷ strict Update 71 (var 2 64 ∷ literal 0 ∷ literal 1 ∷ []) ∷ [])) ∷ []))) ∷ []); answer = None }

-- def g (a: *[]i64): i64 = a[0] def f (a: []i64) (i: i64): i64 = a[i] def main (n: i64): i64 = let a = iota n in f a (g a)
abbrev argument_consumed_later : Case
argument_consumed_later = record { types = (fun_ty ints i64_ty) ∷ (fun_ty ints i64_ty) ∷ ints ∷ i64_ty ∷ i64_ty ∷ ints ∷ i64_ty ∷ (fun_ty ints (fun_ty i64_ty i64_ty)) ∷ (fun_ty ints (fun_ty i64_ty i64_ty)) ∷ ints ∷ i64_ty ∷ i64_ty ∷ i64_ty ∷ ints ∷ i64_ty ∷ (fun_ty i64_ty i64_ty) ∷ (fun_ty i64_ty i64_ty) ∷ i64_ty ∷ i64_ty ∷ i64_ty ∷ ints ∷ ints ∷ (fun_ty i64_ty ints) ∷ i64_ty ∷ i64_ty ∷ (fun_ty i64_ty i64_ty) ∷ (fun_ty ints (fun_ty i64_ty i64_ty)) ∷ ints ∷ i64_ty ∷ (fun_ty ints i64_ty) ∷ ints ∷ []; program = (define 0 (lambda (Typed_pattern (name 1) (Unique_type (array_of i64_type)) ∷ []) (strict (Declared i64_type) 26 (strict (Index (part.At ∷ [])) 27 (var 1 26 ∷ literal 0 ∷ []) ∷ []))) ∷ define 2 (lambda (Typed_pattern (name 3) (array_of i64_type) ∷ Typed_pattern (name 4) i64_type ∷ []) (strict (Declared i64_type) 64 (strict (Index (part.At ∷ [])) 65 (var 3 64 ∷ var 4 66 ∷ []) ∷ []))) ∷ define 5 (lambda (Typed_pattern (name 6) i64_type ∷ []) (strict (Declared i64_type) 94 (let_in (name 7) (Apply (the prim.Iota) (var 6 107)) (Apply (Apply (var 2 112) (var 7 114)) (Apply (var 0 117) (var 7 119))) ∷ []))) ∷ []); answer = Some (Consumed (ByAlias (Part 20 0 (b 7))) (First 30) (First 27)) }

-- def g (a: *[]i64): i64 = a[0] def main (n: i64): i64 = let a = iota n in a[g a]
abbrev index_consumes : Case
index_consumes = record { types = (fun_ty ints i64_ty) ∷ (fun_ty ints i64_ty) ∷ ints ∷ i64_ty ∷ i64_ty ∷ ints ∷ i64_ty ∷ (fun_ty i64_ty i64_ty) ∷ (fun_ty i64_ty i64_ty) ∷ i64_ty ∷ i64_ty ∷ i64_ty ∷ ints ∷ ints ∷ (fun_ty i64_ty ints) ∷ i64_ty ∷ i64_ty ∷ ints ∷ i64_ty ∷ (fun_ty ints i64_ty) ∷ ints ∷ []; program = (define 0 (lambda (Typed_pattern (name 1) (Unique_type (array_of i64_type)) ∷ []) (strict (Declared i64_type) 26 (strict (Index (part.At ∷ [])) 27 (var 1 26 ∷ literal 0 ∷ []) ∷ []))) ∷ define 2 (lambda (Typed_pattern (name 3) i64_type ∷ []) (strict (Declared i64_type) 56 (let_in (name 4) (Apply (the prim.Iota) (var 3 69)) (strict (Index (part.At ∷ [])) 75 (var 4 74 ∷ Apply (var 0 76) (var 4 78) ∷ [])) ∷ []))) ∷ []); answer = Some (Consumed (ByAlias (Part 12 0 (b 4))) (First 20) (First 17)) }

-- def f (a: *[]i64) (c: []i64): i64 = a[0] + c[0] def main (n: i64): i64 = let a = iota n in f a a
abbrev two_arguments : Case
two_arguments = record { types = (fun_ty ints (fun_ty ints i64_ty)) ∷ (fun_ty ints (fun_ty ints i64_ty)) ∷ ints ∷ ints ∷ i64_ty ∷ i64_ty ∷ i64_ty ∷ i64_ty ∷ ints ∷ i64_ty ∷ i64_ty ∷ ints ∷ i64_ty ∷ (fun_ty i64_ty i64_ty) ∷ (fun_ty i64_ty i64_ty) ∷ i64_ty ∷ i64_ty ∷ i64_ty ∷ ints ∷ ints ∷ (fun_ty i64_ty ints) ∷ i64_ty ∷ i64_ty ∷ (fun_ty ints i64_ty) ∷ (fun_ty ints (fun_ty ints i64_ty)) ∷ ints ∷ ints ∷ []; program = (define 0 (lambda (Typed_pattern (name 1) (Unique_type (array_of i64_type)) ∷ Typed_pattern (name 2) (array_of i64_type) ∷ []) (strict (Declared i64_type) 37 (strict (Binary op.Add) 42 (strict (Index (part.At ∷ [])) 38 (var 1 37 ∷ literal 0 ∷ []) ∷ strict (Index (part.At ∷ [])) 45 (var 2 44 ∷ literal 0 ∷ []) ∷ []) ∷ []))) ∷ define 3 (lambda (Typed_pattern (name 4) i64_type ∷ []) (strict (Declared i64_type) 74 (let_in (name 5) (Apply (the prim.Iota) (var 4 87)) (Apply (Apply (var 0 92) (var 5 94)) (var 5 96)) ∷ []))) ∷ []); answer = Some (Consumed (ByAlias (Part 18 0 (b 5))) (First 25) (First 26)) }

-- def main (n: i64): i64 = let a = iota n let f = \(c: *[]i64): i64 -> a[0] + c[0] in f a
abbrev function_shares : Case
function_shares = record { types = (fun_ty i64_ty i64_ty) ∷ (fun_ty i64_ty i64_ty) ∷ i64_ty ∷ i64_ty ∷ i64_ty ∷ ints ∷ ints ∷ (fun_ty i64_ty ints) ∷ i64_ty ∷ i64_ty ∷ (fun_ty ints i64_ty) ∷ (fun_ty ints i64_ty) ∷ ints ∷ i64_ty ∷ i64_ty ∷ i64_ty ∷ i64_ty ∷ ints ∷ i64_ty ∷ i64_ty ∷ ints ∷ i64_ty ∷ i64_ty ∷ (fun_ty ints i64_ty) ∷ ints ∷ []; program = (define 0 (lambda (Typed_pattern (name 1) i64_type ∷ []) (strict (Declared i64_type) 26 (let_in (name 2) (Apply (the prim.Iota) (var 1 39)) (let_in (name 4) (lambda (Typed_pattern (name 3) (Unique_type (array_of i64_type)) ∷ []) (strict (Declared i64_type) 70 (strict (Binary op.Add) 75 (strict (Index (part.At ∷ [])) 71 (var 2 70 ∷ literal 0 ∷ []) ∷ strict (Index (part.At ∷ [])) 78 (var 3 77 ∷ literal 0 ∷ []) ∷ []) ∷ []))) (Apply (var 4 85) (var 2 87))) ∷ []))) ∷ []); answer = Some (Consumed (ByAlias (Part 5 0 (b 2))) (First 24) (First 23)) }

-- def f (t: (*[]i64, []i64)): i64 = t.1[0] def main (n: i64): i64 = let a = iota n in f (a, a)
abbrev components_of_argument : Case
components_of_argument = record { types = (fun_ty (pair_ty ints ints) i64_ty) ∷ (fun_ty (pair_ty ints ints) i64_ty) ∷ (pair_ty ints ints) ∷ i64_ty ∷ i64_ty ∷ ints ∷ (pair_ty ints ints) ∷ (pair_ty ints ints) ∷ i64_ty ∷ (fun_ty i64_ty i64_ty) ∷ (fun_ty i64_ty i64_ty) ∷ i64_ty ∷ i64_ty ∷ i64_ty ∷ ints ∷ ints ∷ (fun_ty i64_ty ints) ∷ i64_ty ∷ i64_ty ∷ (fun_ty (pair_ty ints ints) i64_ty) ∷ (pair_ty ints ints) ∷ ints ∷ ints ∷ []; program = (define 0 (lambda (Typed_pattern (name 1) (Tuple_type (type_and (Unique_type (array_of i64_type)) (type_and (array_of i64_type) no_type))) ∷ []) (strict (Declared i64_type) 35 (strict (Index (part.At ∷ [])) 38 (strict (Project (codes "1")) 35 (var 1 35 ∷ []) ∷ literal 0 ∷ []) ∷ []))) ∷ define 2 (lambda (Typed_pattern (name 3) i64_type ∷ []) (strict (Declared i64_type) 67 (let_in (name 4) (Apply (the prim.Iota) (var 3 80)) (Apply (var 0 85) (strict Tuple_of 87 (var 4 88 ∷ var 4 91 ∷ []))) ∷ []))) ∷ []); answer = Some (Consumed (ByAlias (Part 14 0 (b 4))) (First 20) (First 20)) }

-- def main (n: i64): i64 = let r = {x = iota n, y = iota n} let s = r with x = (r.x with [0] = 9) in s.y[0]
abbrev replaced_field : Case
replaced_field = record { types = (fun_ty i64_ty i64_ty) ∷ (fun_ty i64_ty i64_ty) ∷ i64_ty ∷ i64_ty ∷ i64_ty ∷ (Made (head.Record 0) (more ints (more ints none))) ∷ (Made (head.Record 0) (more ints (more ints none))) ∷ ints ∷ (fun_ty i64_ty ints) ∷ i64_ty ∷ ints ∷ (fun_ty i64_ty ints) ∷ i64_ty ∷ i64_ty ∷ (Made (head.Record 0) (more ints (more ints none))) ∷ (Made (head.Record 0) (more ints (more ints none))) ∷ (Made (head.Record 0) (more ints (more ints none))) ∷ ints ∷ ints ∷ (Made (head.Record 0) (more ints (more ints none))) ∷ (Made (head.Record 0) (more ints (more ints none))) ∷ i64_ty ∷ i64_ty ∷ i64_ty ∷ ints ∷ (Made (head.Record 0) (more ints (more ints none))) ∷ (Made (head.Record 0) (more ints (more ints none))) ∷ i64_ty ∷ []; program = (define 0 (lambda (Typed_pattern (name 1) i64_type ∷ []) (strict (Declared i64_type) 26 (let_in (name 2) (strict (Record_of (codes "x" ∷ codes "y" ∷ [])) 34 (Apply (the prim.Iota) (var 1 44) ∷ Apply (the prim.Iota) (var 1 56) ∷ [])) (let_in (name 3) (strict (Replace (codes "x")) 67 (var 2 67 ∷ strict Update 88 (strict (Project (codes "x")) 79 (var 2 79 ∷ []) ∷ literal 0 ∷ literal 9 ∷ []) ∷ [])) (strict (Index (part.At ∷ [])) 103 (strict (Project (codes "y")) 100 (var 3 100 ∷ []) ∷ literal 0 ∷ []))) ∷ []))) ∷ []); answer = None }

-- def main (n: i64): i64 = let r = {x = iota n, y = iota n} let s = r with x = (r.y with [0] = 9) in s.x[0]
abbrev other_field_replaced : Case
other_field_replaced = record { types = (fun_ty i64_ty i64_ty) ∷ (fun_ty i64_ty i64_ty) ∷ i64_ty ∷ i64_ty ∷ i64_ty ∷ (Made (head.Record 0) (more ints (more ints none))) ∷ (Made (head.Record 0) (more ints (more ints none))) ∷ ints ∷ (fun_ty i64_ty ints) ∷ i64_ty ∷ ints ∷ (fun_ty i64_ty ints) ∷ i64_ty ∷ i64_ty ∷ (Made (head.Record 0) (more ints (more ints none))) ∷ (Made (head.Record 0) (more ints (more ints none))) ∷ (Made (head.Record 0) (more ints (more ints none))) ∷ ints ∷ ints ∷ (Made (head.Record 0) (more ints (more ints none))) ∷ (Made (head.Record 0) (more ints (more ints none))) ∷ i64_ty ∷ i64_ty ∷ i64_ty ∷ ints ∷ (Made (head.Record 0) (more ints (more ints none))) ∷ (Made (head.Record 0) (more ints (more ints none))) ∷ i64_ty ∷ []; program = (define 0 (lambda (Typed_pattern (name 1) i64_type ∷ []) (strict (Declared i64_type) 26 (let_in (name 2) (strict (Record_of (codes "x" ∷ codes "y" ∷ [])) 34 (Apply (the prim.Iota) (var 1 44) ∷ Apply (the prim.Iota) (var 1 56) ∷ [])) (let_in (name 3) (strict (Replace (codes "x")) 67 (var 2 67 ∷ strict Update 88 (strict (Project (codes "y")) 79 (var 2 79 ∷ []) ∷ literal 0 ∷ literal 9 ∷ []) ∷ [])) (strict (Index (part.At ∷ [])) 103 (strict (Project (codes "x")) 100 (var 3 100 ∷ []) ∷ literal 0 ∷ []))) ∷ []))) ∷ []); answer = Some (Consumed (ByAlias (Part 5 1 (b 2))) (Mark (at 88)) (First 16)) }

one_node_answered : map found (tuple ∷ tuple_of_copy ∷ argument_consumed_later ∷ index_consumes ∷ two_arguments ∷ function_shares ∷ components_of_argument ∷ replaced_field ∷ other_field_replaced ∷ []) ≡ map answer (tuple ∷ tuple_of_copy ∷ argument_consumed_later ∷ index_consumes ∷ two_arguments ∷ function_shares ∷ components_of_argument ∷ replaced_field ∷ other_field_replaced ∷ [])
unfolding is_in with_alias union those spread all_spread written_stars tuple_stars record_stars has_star some_has_star lacks_star some_lacks_star adds_star some_adds_star consumes some_consumes consumes_more consumed_more some_consumes_more some_consumed_more gives_less given_less some_gives_less some_given_less either all_either of_type of_types with_stars all_with_stars at_type all_at_type components all_components with_sets all_with_sets named all_named starring all_starring functions all_functions ascribed all_ascribed part_named with_part_named lose_all lost pattern_stars patterns_stars fields_stars bound all_bound fields_bound kept all_kept fields_kept capture all_captured turns_captured some_name name_in turns_name own_names all_own_names fields_own_names starts all_starts fields_start misfit all_misfit fields_misfit looked all_looked turns_looked condition_looked value_looked first_broken place_from place part_at
one_node_answered = refl

-- ---- what may not be consumed

-- def main (xs: []i64): []i64 = xs with [0] = 1
abbrev parameter : Case
parameter = record { types = (fun_ty ints ints) ∷ (fun_ty ints ints) ∷ ints ∷ ints ∷ ints ∷ ints ∷ i64_ty ∷ i64_ty ∷ []; program = (define 0 (lambda (Typed_pattern (name 1) (array_of i64_type) ∷ []) (strict (Declared (array_of i64_type)) 31 (strict Update 39 (var 1 31 ∷ literal 0 ∷ literal 1 ∷ []) ∷ []))) ∷ []); answer = Some (NotConsumable (ByAlias (Part 2 0 (b 1))) (Mark (at 39))) }

-- def main (xs: *[]i64): []i64 = xs with [0] = 1
abbrev starred_parameter : Case
starred_parameter = record { types = (fun_ty ints ints) ∷ (fun_ty ints ints) ∷ ints ∷ ints ∷ ints ∷ ints ∷ i64_ty ∷ i64_ty ∷ []; program = (define 0 (lambda (Typed_pattern (name 1) (Unique_type (array_of i64_type)) ∷ []) (strict (Declared (array_of i64_type)) 32 (strict Update 40 (var 1 32 ∷ literal 0 ∷ literal 1 ∷ []) ∷ []))) ∷ []); answer = None }

-- def f (a: []i64): []i64 = let c = a[1:] in c with [0] = 1
abbrev view_of_parameter : Case
view_of_parameter = record { types = (fun_ty ints ints) ∷ (fun_ty ints ints) ∷ ints ∷ ints ∷ ints ∷ ints ∷ ints ∷ ints ∷ i64_ty ∷ ints ∷ ints ∷ i64_ty ∷ i64_ty ∷ []; program = (define 0 (lambda (Typed_pattern (name 1) (array_of i64_type) ∷ []) (strict (Declared (array_of i64_type)) 27 (let_in (name 2) (strict (Index (part.Slice true false ∷ [])) 36 (var 1 35 ∷ literal 1 ∷ [])) (strict Update 51 (var 2 44 ∷ literal 0 ∷ literal 1 ∷ [])) ∷ []))) ∷ []); answer = Some (NotConsumable (ByAlias (Part 2 0 (b 1))) (Mark (at 51))) }

-- def f (a: [][]i64): [][]i64 = map (\r -> r with [0] = 1) a
abbrev lambda_parameter : Case
lambda_parameter = record { types = (fun_ty (array_ty ints) (array_ty ints)) ∷ (fun_ty (array_ty ints) (array_ty ints)) ∷ (array_ty ints) ∷ (array_ty ints) ∷ (array_ty ints) ∷ (fun_ty (array_ty ints) (array_ty ints)) ∷ (fun_ty (fun_ty ints ints) (fun_ty (array_ty ints) (array_ty ints))) ∷ (fun_ty ints ints) ∷ ints ∷ ints ∷ ints ∷ i64_ty ∷ i64_ty ∷ (array_ty ints) ∷ []; program = (define 0 (lambda (Typed_pattern (name 1) (array_of (array_of i64_type)) ∷ []) (strict (Declared (array_of (array_of i64_type))) 31 (Apply (Apply (the prim.Map) (lambda (name 2 ∷ []) (strict Update 49 (var 2 42 ∷ literal 0 ∷ literal 1 ∷ [])))) (var 1 58) ∷ []))) ∷ []); answer = Some (NotConsumable (ByAlias (Part 8 0 (b 2))) (Mark (at 49))) }

-- def a: []i64 = iota 3 def main (n: i64): []i64 = a with [0] = n
abbrev top_level : Case
top_level = record { types = ints ∷ ints ∷ ints ∷ (fun_ty i64_ty ints) ∷ i64_ty ∷ (fun_ty i64_ty ints) ∷ (fun_ty i64_ty ints) ∷ i64_ty ∷ ints ∷ ints ∷ ints ∷ i64_ty ∷ i64_ty ∷ []; program = (define 0 (strict (Declared (array_of i64_type)) 16 (Apply (the prim.Iota) (literal 3) ∷ [])) ∷ define 1 (lambda (Typed_pattern (name 2) i64_type ∷ []) (strict (Declared (array_of i64_type)) 50 (strict Update 57 (var 0 50 ∷ literal 0 ∷ var 2 63 ∷ []) ∷ []))) ∷ []); answer = Some (NotConsumable (ByAlias (Part 0 0 (b 0))) (Mark (at 57))) }

-- def main (n: i64): []i64 = let a = iota n in loop x = iota n for i < n do a with [0] = i
abbrev outside_loop : Case
outside_loop = record { types = (fun_ty i64_ty ints) ∷ (fun_ty i64_ty ints) ∷ i64_ty ∷ ints ∷ ints ∷ ints ∷ ints ∷ (fun_ty i64_ty ints) ∷ i64_ty ∷ ints ∷ ints ∷ ints ∷ (fun_ty i64_ty ints) ∷ i64_ty ∷ i64_ty ∷ i64_ty ∷ ints ∷ ints ∷ i64_ty ∷ i64_ty ∷ []; program = (define 0 (lambda (Typed_pattern (name 1) i64_type ∷ []) (strict (Declared (array_of i64_type)) 28 (let_in (name 2) (Apply (the prim.Iota) (var 1 41)) (loop_of (name 3) (Apply (the prim.Iota) (var 1 60)) (Counted (b 4) (var 1 70)) (strict Update 82 (var 2 75 ∷ literal 0 ∷ var 4 88 ∷ []))) ∷ []))) ∷ []); answer = Some (NotConsumable (ByAlias (Part 5 0 (b 2))) (Mark (at 82))) }

-- def main (m: *[][]i64): i64 = loop s = 0 for r in m do s + (r with [0] = 1)[0]
abbrev element_of_loop : Case
element_of_loop = record { types = (fun_ty (array_ty ints) i64_ty) ∷ (fun_ty (array_ty ints) i64_ty) ∷ (array_ty ints) ∷ i64_ty ∷ i64_ty ∷ i64_ty ∷ i64_ty ∷ ints ∷ (array_ty ints) ∷ i64_ty ∷ i64_ty ∷ i64_ty ∷ i64_ty ∷ ints ∷ ints ∷ i64_ty ∷ i64_ty ∷ i64_ty ∷ []; program = (define 0 (lambda (Typed_pattern (name 1) (Unique_type (array_of (array_of i64_type))) ∷ []) (strict (Declared i64_type) 31 (loop_of (name 2) (literal 0) (Over (name 3) (var 1 51)) (strict (Binary op.Add) 58 (var 2 56 ∷ strict (Index (part.At ∷ [])) 76 (strict Update 68 (var 3 61 ∷ literal 0 ∷ literal 1 ∷ []) ∷ literal 0 ∷ []) ∷ [])) ∷ []))) ∷ []); answer = Some (NotConsumable (ByAlias (Part 2 0 (b 1))) (Mark (at 68))) }

-- def f (a: *[]i64) (i: i64): i64 = a[i] def main (n: i64): i64 = let g = f (iota n) in g 0
abbrev partial_application : Case
partial_application = record { types = (fun_ty ints (fun_ty i64_ty i64_ty)) ∷ (fun_ty ints (fun_ty i64_ty i64_ty)) ∷ ints ∷ i64_ty ∷ i64_ty ∷ i64_ty ∷ ints ∷ i64_ty ∷ (fun_ty i64_ty i64_ty) ∷ (fun_ty i64_ty i64_ty) ∷ i64_ty ∷ i64_ty ∷ i64_ty ∷ (fun_ty i64_ty i64_ty) ∷ (fun_ty i64_ty i64_ty) ∷ (fun_ty ints (fun_ty i64_ty i64_ty)) ∷ ints ∷ (fun_ty i64_ty ints) ∷ i64_ty ∷ i64_ty ∷ (fun_ty i64_ty i64_ty) ∷ i64_ty ∷ []; program = (define 0 (lambda (Typed_pattern (name 1) (Unique_type (array_of i64_type)) ∷ Typed_pattern (name 2) i64_type ∷ []) (strict (Declared i64_type) 35 (strict (Index (part.At ∷ [])) 36 (var 1 35 ∷ var 2 37 ∷ []) ∷ []))) ∷ define 3 (lambda (Typed_pattern (name 4) i64_type ∷ []) (strict (Declared i64_type) 65 (let_in (name 5) (Apply (var 0 73) (Apply (the prim.Iota) (var 4 81))) (Apply (var 5 87) (literal 0)) ∷ []))) ∷ []); answer = Some (NotConsumable (ByName (b 0)) (First 16)) }

-- def f (i: i64) (a: *[]i64): i64 = a[i] def main (n: i64): i64 = let g = f 0 in g (iota n)
abbrev partial_application_without_star : Case
partial_application_without_star = record { types = (fun_ty i64_ty (fun_ty ints i64_ty)) ∷ (fun_ty i64_ty (fun_ty ints i64_ty)) ∷ i64_ty ∷ ints ∷ i64_ty ∷ i64_ty ∷ ints ∷ i64_ty ∷ (fun_ty i64_ty i64_ty) ∷ (fun_ty i64_ty i64_ty) ∷ i64_ty ∷ i64_ty ∷ i64_ty ∷ (fun_ty ints i64_ty) ∷ (fun_ty ints i64_ty) ∷ (fun_ty i64_ty (fun_ty ints i64_ty)) ∷ i64_ty ∷ i64_ty ∷ (fun_ty ints i64_ty) ∷ ints ∷ (fun_ty i64_ty ints) ∷ i64_ty ∷ []; program = (define 0 (lambda (Typed_pattern (name 1) i64_type ∷ Typed_pattern (name 2) (Unique_type (array_of i64_type)) ∷ []) (strict (Declared i64_type) 35 (strict (Index (part.At ∷ [])) 36 (var 2 35 ∷ var 1 37 ∷ []) ∷ []))) ∷ define 3 (lambda (Typed_pattern (name 4) i64_type ∷ []) (strict (Declared i64_type) 65 (let_in (name 5) (Apply (var 0 73) (literal 0)) (Apply (var 5 80) (Apply (the prim.Iota) (var 4 88))) ∷ []))) ∷ []); answer = None }

-- def f (a: *[]i64): i64 = a[0] def g (h: []i64 -> i64): i64 = h (iota 2) def main: i64 = g f
abbrev passed : Case
passed = record { types = (fun_ty ints i64_ty) ∷ (fun_ty ints i64_ty) ∷ ints ∷ i64_ty ∷ i64_ty ∷ ints ∷ i64_ty ∷ (fun_ty (fun_ty ints i64_ty) i64_ty) ∷ (fun_ty (fun_ty ints i64_ty) i64_ty) ∷ (fun_ty ints i64_ty) ∷ i64_ty ∷ i64_ty ∷ (fun_ty ints i64_ty) ∷ ints ∷ (fun_ty i64_ty ints) ∷ i64_ty ∷ i64_ty ∷ i64_ty ∷ i64_ty ∷ (fun_ty (fun_ty ints i64_ty) i64_ty) ∷ (fun_ty ints i64_ty) ∷ []; program = (define 0 (lambda (Typed_pattern (name 1) (Unique_type (array_of i64_type)) ∷ []) (strict (Declared i64_type) 26 (strict (Index (part.At ∷ [])) 27 (var 1 26 ∷ literal 0 ∷ []) ∷ []))) ∷ define 2 (lambda (Typed_pattern (name 3) (Arrow_type None (array_of i64_type) i64_type) ∷ []) (strict (Declared i64_type) 62 (Apply (var 3 62) (Apply (the prim.Iota) (literal 2)) ∷ []))) ∷ define 4 (strict (Declared i64_type) 89 (Apply (var 2 89) (var 0 91) ∷ [])) ∷ []); answer = Some (NotConsumable (ByName (b 0)) (First 20)) }

-- def f (a: *[]i64): i64 = a[0] def g (h: *[]i64 -> i64): i64 = h (iota 2) def main: i64 = g f
abbrev passed_with_star : Case
passed_with_star = record { types = (fun_ty ints i64_ty) ∷ (fun_ty ints i64_ty) ∷ ints ∷ i64_ty ∷ i64_ty ∷ ints ∷ i64_ty ∷ (fun_ty (fun_ty ints i64_ty) i64_ty) ∷ (fun_ty (fun_ty ints i64_ty) i64_ty) ∷ (fun_ty ints i64_ty) ∷ i64_ty ∷ i64_ty ∷ (fun_ty ints i64_ty) ∷ ints ∷ (fun_ty i64_ty ints) ∷ i64_ty ∷ i64_ty ∷ i64_ty ∷ i64_ty ∷ (fun_ty (fun_ty ints i64_ty) i64_ty) ∷ (fun_ty ints i64_ty) ∷ []; program = (define 0 (lambda (Typed_pattern (name 1) (Unique_type (array_of i64_type)) ∷ []) (strict (Declared i64_type) 26 (strict (Index (part.At ∷ [])) 27 (var 1 26 ∷ literal 0 ∷ []) ∷ []))) ∷ define 2 (lambda (Typed_pattern (name 3) (Arrow_type None (Unique_type (array_of i64_type)) i64_type) ∷ []) (strict (Declared i64_type) 63 (Apply (var 3 63) (Apply (the prim.Iota) (literal 2)) ∷ []))) ∷ define 4 (strict (Declared i64_type) 90 (Apply (var 2 90) (var 0 92) ∷ [])) ∷ []); answer = None }

-- def g (h: []i64 -> i64): i64 = h (iota 2) def main: i64 = g (\(a: *[]i64): i64 -> a[0])
abbrev passed_lambda : Case
passed_lambda = record { types = (fun_ty (fun_ty ints i64_ty) i64_ty) ∷ (fun_ty (fun_ty ints i64_ty) i64_ty) ∷ (fun_ty ints i64_ty) ∷ i64_ty ∷ i64_ty ∷ (fun_ty ints i64_ty) ∷ ints ∷ (fun_ty i64_ty ints) ∷ i64_ty ∷ i64_ty ∷ i64_ty ∷ i64_ty ∷ (fun_ty (fun_ty ints i64_ty) i64_ty) ∷ (fun_ty ints i64_ty) ∷ ints ∷ i64_ty ∷ i64_ty ∷ ints ∷ i64_ty ∷ []; program = (define 0 (lambda (Typed_pattern (name 1) (Arrow_type None (array_of i64_type) i64_type) ∷ []) (strict (Declared i64_type) 32 (Apply (var 1 32) (Apply (the prim.Iota) (literal 2)) ∷ []))) ∷ define 2 (strict (Declared i64_type) 59 (Apply (var 0 59) (lambda (Typed_pattern (name 3) (Unique_type (array_of i64_type)) ∷ []) (strict (Declared i64_type) 83 (strict (Index (part.At ∷ [])) 84 (var 3 83 ∷ literal 0 ∷ []) ∷ []))) ∷ [])) ∷ []); answer = Some (NotConsumable AFunction (First 13)) }

-- def id 'a (x: a): a = x def main (n: i64): i64 = let f = \(a: *[]i64): i64 -> a[0] let g = id f in g (iota n)
abbrev passed_as_variable : Case
passed_as_variable = record { types = (fun_ty (Made (head.Rigid 1 kind.Data) none) (Made (head.Rigid 1 kind.Data) none)) ∷ (fun_ty (Made (head.Rigid 1 kind.Data) none) (Made (head.Rigid 1 kind.Data) none)) ∷ (Made (head.Rigid 1 kind.Data) none) ∷ (Made (head.Rigid 1 kind.Data) none) ∷ (Made (head.Rigid 1 kind.Data) none) ∷ (fun_ty i64_ty i64_ty) ∷ (fun_ty i64_ty i64_ty) ∷ i64_ty ∷ i64_ty ∷ i64_ty ∷ (fun_ty ints i64_ty) ∷ (fun_ty ints i64_ty) ∷ ints ∷ i64_ty ∷ i64_ty ∷ ints ∷ i64_ty ∷ i64_ty ∷ (fun_ty ints i64_ty) ∷ (fun_ty ints i64_ty) ∷ (fun_ty (fun_ty ints i64_ty) (fun_ty ints i64_ty)) ∷ (fun_ty ints i64_ty) ∷ i64_ty ∷ (fun_ty ints i64_ty) ∷ ints ∷ (fun_ty i64_ty ints) ∷ i64_ty ∷ []; program = (define 0 (lambda (Typed_pattern (name 2) (Type_use (ref.Bound (b 1)) no_arg) ∷ []) (strict (Declared (Type_use (ref.Bound (b 1)) no_arg)) 23 (var 2 23 ∷ []))) ∷ define 3 (lambda (Typed_pattern (name 4) i64_type ∷ []) (strict (Declared i64_type) 50 (let_in (name 6) (lambda (Typed_pattern (name 5) (Unique_type (array_of i64_type)) ∷ []) (strict (Declared i64_type) 79 (strict (Index (part.At ∷ [])) 80 (var 5 79 ∷ literal 0 ∷ []) ∷ []))) (let_in (name 7) (Apply (var 0 92) (var 6 95)) (Apply (var 7 100) (Apply (the prim.Iota) (var 4 108)))) ∷ []))) ∷ []); answer = Some (NotConsumable (ByName (b 6)) (First 21)) }

-- def mk (i: i64) = \(a: *[]i64): i64 -> a[i]
abbrev returned : Case
returned = record { types = (fun_ty i64_ty (fun_ty ints i64_ty)) ∷ (fun_ty i64_ty (fun_ty ints i64_ty)) ∷ i64_ty ∷ (fun_ty ints i64_ty) ∷ ints ∷ i64_ty ∷ i64_ty ∷ ints ∷ i64_ty ∷ []; program = (define 0 (lambda (Typed_pattern (name 1) i64_type ∷ []) (lambda (Typed_pattern (name 2) (Unique_type (array_of i64_type)) ∷ []) (strict (Declared i64_type) 40 (strict (Index (part.At ∷ [])) 41 (var 2 40 ∷ var 1 42 ∷ []) ∷ [])))) ∷ []); answer = Some (NotConsumable AFunction (First 3)) }

-- def mk (i: i64): *[]i64 -> i64 = \(a: *[]i64): i64 -> a[i]
abbrev returned_with_star : Case
returned_with_star = record { types = (fun_ty i64_ty (fun_ty ints i64_ty)) ∷ (fun_ty i64_ty (fun_ty ints i64_ty)) ∷ i64_ty ∷ (fun_ty ints i64_ty) ∷ (fun_ty ints i64_ty) ∷ ints ∷ i64_ty ∷ i64_ty ∷ ints ∷ i64_ty ∷ []; program = (define 0 (lambda (Typed_pattern (name 1) i64_type ∷ []) (strict (Declared (Arrow_type None (Unique_type (array_of i64_type)) i64_type)) 34 (lambda (Typed_pattern (name 2) (Unique_type (array_of i64_type)) ∷ []) (strict (Declared i64_type) 55 (strict (Index (part.At ∷ [])) 56 (var 2 55 ∷ var 1 57 ∷ []) ∷ [])) ∷ []))) ∷ []); answer = None }

-- def f (a: *[]i64): i64 = a[0] def main (n: i64): i64 = (f : []i64 -> i64) (iota n)
abbrev ascription : Case
ascription = record { types = (fun_ty ints i64_ty) ∷ (fun_ty ints i64_ty) ∷ ints ∷ i64_ty ∷ i64_ty ∷ ints ∷ i64_ty ∷ (fun_ty i64_ty i64_ty) ∷ (fun_ty i64_ty i64_ty) ∷ i64_ty ∷ i64_ty ∷ i64_ty ∷ (fun_ty ints i64_ty) ∷ (fun_ty ints i64_ty) ∷ ints ∷ (fun_ty i64_ty ints) ∷ i64_ty ∷ []; program = (define 0 (lambda (Typed_pattern (name 1) (Unique_type (array_of i64_type)) ∷ []) (strict (Declared i64_type) 26 (strict (Index (part.At ∷ [])) 27 (var 1 26 ∷ literal 0 ∷ []) ∷ []))) ∷ define 2 (lambda (Typed_pattern (name 3) i64_type ∷ []) (strict (Declared i64_type) 57 (Apply (strict (Ascribe (Arrow_type None (array_of i64_type) i64_type)) 57 (var 0 57 ∷ [])) (Apply (the prim.Iota) (var 3 81)) ∷ []))) ∷ []); answer = Some (NotConsumable (ByName (b 0)) (First 13)) }

-- def f (a: *[]i64): i64 = a[0] def main (n: i64): i64 = let g = f in g (iota n)
abbrev let_keeps_stars : Case
let_keeps_stars = record { types = (fun_ty ints i64_ty) ∷ (fun_ty ints i64_ty) ∷ ints ∷ i64_ty ∷ i64_ty ∷ ints ∷ i64_ty ∷ (fun_ty i64_ty i64_ty) ∷ (fun_ty i64_ty i64_ty) ∷ i64_ty ∷ i64_ty ∷ i64_ty ∷ (fun_ty ints i64_ty) ∷ (fun_ty ints i64_ty) ∷ i64_ty ∷ (fun_ty ints i64_ty) ∷ ints ∷ (fun_ty i64_ty ints) ∷ i64_ty ∷ []; program = (define 0 (lambda (Typed_pattern (name 1) (Unique_type (array_of i64_type)) ∷ []) (strict (Declared i64_type) 26 (strict (Index (part.At ∷ [])) 27 (var 1 26 ∷ literal 0 ∷ []) ∷ []))) ∷ define 2 (lambda (Typed_pattern (name 3) i64_type ∷ []) (strict (Declared i64_type) 56 (let_in (name 4) (var 0 64) (Apply (var 4 69) (Apply (the prim.Iota) (var 3 77))) ∷ []))) ∷ []); answer = None }

-- def main (n: i64): i64 = let a = iota n let c: *[]i64 = a let d = c with [0] = 1 in a[0]
abbrev star_without_effect : Case
star_without_effect = record { types = (fun_ty i64_ty i64_ty) ∷ (fun_ty i64_ty i64_ty) ∷ i64_ty ∷ i64_ty ∷ i64_ty ∷ ints ∷ ints ∷ (fun_ty i64_ty ints) ∷ i64_ty ∷ i64_ty ∷ ints ∷ ints ∷ i64_ty ∷ ints ∷ ints ∷ ints ∷ i64_ty ∷ i64_ty ∷ i64_ty ∷ ints ∷ i64_ty ∷ []; program = (define 0 (lambda (Typed_pattern (name 1) i64_type ∷ []) (strict (Declared i64_type) 26 (let_in (name 2) (Apply (the prim.Iota) (var 1 39)) (let_in (Typed_pattern (name 3) (Unique_type (array_of i64_type))) (var 2 57) (let_in (name 4) (strict Update 74 (var 3 67 ∷ literal 0 ∷ literal 1 ∷ [])) (strict (Index (part.At ∷ [])) 86 (var 2 85 ∷ literal 0 ∷ [])))) ∷ []))) ∷ []); answer = Some (Consumed (ByName (b 2)) (Mark (at 74)) (First 19)) }

-- def g (f: i64 -> []i64): []i64 = (f 0) with [0] = 9
abbrev function_result : Case
function_result = record { types = (fun_ty (fun_ty i64_ty ints) ints) ∷ (fun_ty (fun_ty i64_ty ints) ints) ∷ (fun_ty i64_ty ints) ∷ ints ∷ ints ∷ ints ∷ (fun_ty i64_ty ints) ∷ i64_ty ∷ i64_ty ∷ i64_ty ∷ []; program = (define 0 (lambda (Typed_pattern (name 1) (Arrow_type None i64_type (array_of i64_type)) ∷ []) (strict (Declared (array_of i64_type)) 35 (strict Update 45 (Apply (var 1 35) (literal 0) ∷ literal 0 ∷ literal 9 ∷ []) ∷ []))) ∷ []); answer = Some (NotConsumable (ByAlias (Part 2 0 (b 1))) (Mark (at 45))) }

-- def main (n: i64): i64 = let a = iota n let f = \i -> (a with [i] = 1)[0] in f 0
abbrev captured : Case
captured = record { types = (fun_ty i64_ty i64_ty) ∷ (fun_ty i64_ty i64_ty) ∷ i64_ty ∷ i64_ty ∷ i64_ty ∷ ints ∷ ints ∷ (fun_ty i64_ty ints) ∷ i64_ty ∷ i64_ty ∷ (fun_ty i64_ty i64_ty) ∷ (fun_ty i64_ty i64_ty) ∷ i64_ty ∷ i64_ty ∷ ints ∷ ints ∷ i64_ty ∷ i64_ty ∷ i64_ty ∷ i64_ty ∷ (fun_ty i64_ty i64_ty) ∷ i64_ty ∷ []; program = (define 0 (lambda (Typed_pattern (name 1) i64_type ∷ []) (strict (Declared i64_type) 26 (let_in (name 2) (Apply (the prim.Iota) (var 1 39)) (let_in (name 4) (lambda (name 3 ∷ []) (strict (Index (part.At ∷ [])) 71 (strict Update 63 (var 2 56 ∷ var 3 64 ∷ literal 1 ∷ []) ∷ literal 0 ∷ []))) (Apply (var 4 78) (literal 0))) ∷ []))) ∷ []); answer = Some (Captured (ByAlias (Part 5 0 (b 2))) (Mark (at 63))) }

-- def main (n: i64): i64 = let a = iota n let f = \i -> (copy a with [i] = 1)[0] in f 0
abbrev captured_copy : Case
captured_copy = record { types = (fun_ty i64_ty i64_ty) ∷ (fun_ty i64_ty i64_ty) ∷ i64_ty ∷ i64_ty ∷ i64_ty ∷ ints ∷ ints ∷ (fun_ty i64_ty ints) ∷ i64_ty ∷ i64_ty ∷ (fun_ty i64_ty i64_ty) ∷ (fun_ty i64_ty i64_ty) ∷ i64_ty ∷ i64_ty ∷ ints ∷ ints ∷ (fun_ty ints ints) ∷ ints ∷ i64_ty ∷ i64_ty ∷ i64_ty ∷ i64_ty ∷ (fun_ty i64_ty i64_ty) ∷ i64_ty ∷ []; program = (define 0 (lambda (Typed_pattern (name 1) i64_type ∷ []) (strict (Declared i64_type) 26 (let_in (name 2) (Apply (the prim.Iota) (var 1 39)) (let_in (name 4) (lambda (name 3 ∷ []) (strict (Index (part.At ∷ [])) 76 (strict Update 68 (Apply (the prim.Copy) (var 2 61) ∷ var 3 69 ∷ literal 1 ∷ []) ∷ literal 0 ∷ []))) (Apply (var 4 83) (literal 0))) ∷ []))) ∷ []); answer = None }

-- def main (n: i64): []i64 = let f (x: *[]i64): *[]i64 = x with [0] = 1 in f (iota n)
abbrev local_function : Case
local_function = record { types = (fun_ty i64_ty ints) ∷ (fun_ty i64_ty ints) ∷ i64_ty ∷ ints ∷ ints ∷ (fun_ty ints ints) ∷ (fun_ty ints ints) ∷ ints ∷ ints ∷ ints ∷ ints ∷ i64_ty ∷ i64_ty ∷ ints ∷ (fun_ty ints ints) ∷ ints ∷ (fun_ty i64_ty ints) ∷ i64_ty ∷ []; program = (define 0 (lambda (Typed_pattern (name 1) i64_type ∷ []) (strict (Declared (array_of i64_type)) 28 (let_in (name 3) (lambda (Typed_pattern (name 2) (Unique_type (array_of i64_type)) ∷ []) (strict (Declared (Unique_type (array_of i64_type))) 56 (strict Update 63 (var 2 56 ∷ literal 0 ∷ literal 1 ∷ []) ∷ []))) (Apply (var 3 74) (Apply (the prim.Iota) (var 1 82))) ∷ []))) ∷ []); answer = None }

-- def main (n: i64): []i64 = let f (x: []i64): []i64 = x with [0] = 1 in f (iota n)
abbrev local_parameter : Case
local_parameter = record { types = (fun_ty i64_ty ints) ∷ (fun_ty i64_ty ints) ∷ i64_ty ∷ ints ∷ ints ∷ (fun_ty ints ints) ∷ (fun_ty ints ints) ∷ ints ∷ ints ∷ ints ∷ ints ∷ i64_ty ∷ i64_ty ∷ ints ∷ (fun_ty ints ints) ∷ ints ∷ (fun_ty i64_ty ints) ∷ i64_ty ∷ []; program = (define 0 (lambda (Typed_pattern (name 1) i64_type ∷ []) (strict (Declared (array_of i64_type)) 28 (let_in (name 3) (lambda (Typed_pattern (name 2) (array_of i64_type) ∷ []) (strict (Declared (array_of i64_type)) 54 (strict Update 61 (var 2 54 ∷ literal 0 ∷ literal 1 ∷ []) ∷ []))) (Apply (var 3 72) (Apply (the prim.Iota) (var 1 80))) ∷ []))) ∷ []); answer = Some (NotConsumable (ByAlias (Part 7 0 (b 2))) (Mark (at 61))) }

unconsumable_answered : map found (parameter ∷ starred_parameter ∷ view_of_parameter ∷ lambda_parameter ∷ top_level ∷ outside_loop ∷ element_of_loop ∷ partial_application ∷ partial_application_without_star ∷ passed ∷ passed_with_star ∷ passed_lambda ∷ passed_as_variable ∷ returned ∷ returned_with_star ∷ ascription ∷ let_keeps_stars ∷ star_without_effect ∷ function_result ∷ captured ∷ captured_copy ∷ local_function ∷ local_parameter ∷ []) ≡ map answer (parameter ∷ starred_parameter ∷ view_of_parameter ∷ lambda_parameter ∷ top_level ∷ outside_loop ∷ element_of_loop ∷ partial_application ∷ partial_application_without_star ∷ passed ∷ passed_with_star ∷ passed_lambda ∷ passed_as_variable ∷ returned ∷ returned_with_star ∷ ascription ∷ let_keeps_stars ∷ star_without_effect ∷ function_result ∷ captured ∷ captured_copy ∷ local_function ∷ local_parameter ∷ [])
unfolding is_in with_alias union those spread all_spread written_stars tuple_stars record_stars has_star some_has_star lacks_star some_lacks_star adds_star some_adds_star consumes some_consumes consumes_more consumed_more some_consumes_more some_consumed_more gives_less given_less some_gives_less some_given_less either all_either of_type of_types with_stars all_with_stars at_type all_at_type components all_components with_sets all_with_sets named all_named starring all_starring functions all_functions ascribed all_ascribed part_named with_part_named lose_all lost pattern_stars patterns_stars fields_stars bound all_bound fields_bound kept all_kept fields_kept capture all_captured turns_captured some_name name_in turns_name own_names all_own_names fields_own_names starts all_starts fields_start misfit all_misfit fields_misfit looked all_looked turns_looked condition_looked value_looked first_broken place_from place part_at
unconsumable_answered = refl

-- ---- results that are declared with a star

-- def f (a: []i64): *[]i64 = a
abbrev result_is_parameter : Case
result_is_parameter = record { types = (fun_ty ints ints) ∷ (fun_ty ints ints) ∷ ints ∷ ints ∷ ints ∷ []; program = (define 0 (lambda (Typed_pattern (name 1) (array_of i64_type) ∷ []) (strict (Declared (Unique_type (array_of i64_type))) 28 (var 1 28 ∷ []))) ∷ []); answer = Some (ResultAliases (ByAlias (Part 2 0 (b 1))) (First 3)) }

-- def f (a: *[]i64): *[]i64 = a
abbrev result_is_consumed : Case
result_is_consumed = record { types = (fun_ty ints ints) ∷ (fun_ty ints ints) ∷ ints ∷ ints ∷ ints ∷ []; program = (define 0 (lambda (Typed_pattern (name 1) (Unique_type (array_of i64_type)) ∷ []) (strict (Declared (Unique_type (array_of i64_type))) 29 (var 1 29 ∷ []))) ∷ []); answer = None }

-- def f (n: i64): (*[]i64, []i64) = let c = iota n in (c, c)
abbrev result_components : Case
result_components = record { types = (fun_ty i64_ty (pair_ty ints ints)) ∷ (fun_ty i64_ty (pair_ty ints ints)) ∷ i64_ty ∷ (pair_ty ints ints) ∷ (pair_ty ints ints) ∷ ints ∷ ints ∷ (fun_ty i64_ty ints) ∷ i64_ty ∷ (pair_ty ints ints) ∷ ints ∷ ints ∷ []; program = (define 0 (lambda (Typed_pattern (name 1) i64_type ∷ []) (strict (Declared (Tuple_type (type_and (Unique_type (array_of i64_type)) (type_and (array_of i64_type) no_type)))) 35 (let_in (name 2) (Apply (the prim.Iota) (var 1 48)) (strict Tuple_of 53 (var 2 54 ∷ var 2 57 ∷ [])) ∷ []))) ∷ []); answer = Some (ResultAliases (ByAlias (Part 5 0 (b 2))) (First 3)) }

-- def g (f: i64 -> *[]i64): []i64 = (f 0) with [0] = 9 def main (n: i64): []i64 = let a = iota n let c = g (\i -> a) in a
abbrev result_wanted : Case
result_wanted = record { types = (fun_ty (fun_ty i64_ty ints) ints) ∷ (fun_ty (fun_ty i64_ty ints) ints) ∷ (fun_ty i64_ty ints) ∷ ints ∷ ints ∷ ints ∷ (fun_ty i64_ty ints) ∷ i64_ty ∷ i64_ty ∷ i64_ty ∷ (fun_ty i64_ty ints) ∷ (fun_ty i64_ty ints) ∷ i64_ty ∷ ints ∷ ints ∷ ints ∷ ints ∷ (fun_ty i64_ty ints) ∷ i64_ty ∷ ints ∷ ints ∷ ints ∷ (fun_ty (fun_ty i64_ty ints) ints) ∷ (fun_ty i64_ty ints) ∷ i64_ty ∷ ints ∷ ints ∷ []; program = (define 0 (lambda (Typed_pattern (name 1) (Arrow_type None i64_type (Unique_type (array_of i64_type))) ∷ []) (strict (Declared (array_of i64_type)) 36 (strict Update 46 (Apply (var 1 36) (literal 0) ∷ literal 0 ∷ literal 9 ∷ []) ∷ []))) ∷ define 2 (lambda (Typed_pattern (name 3) i64_type ∷ []) (strict (Declared (array_of i64_type)) 81 (let_in (name 4) (Apply (the prim.Iota) (var 3 94)) (let_in (name 6) (Apply (var 0 104) (lambda (name 5 ∷ []) (var 4 113))) (var 4 119)) ∷ []))) ∷ []); answer = Some (ResultAliases (ByAlias (Part 15 0 (b 4))) (First 25)) }

-- def g (f: i64 -> *[]i64): []i64 = (f 0) with [0] = 9 def main (n: i64): []i64 = let a = iota n let c = g (\i -> copy a) in a
abbrev result_wanted_fresh : Case
result_wanted_fresh = record { types = (fun_ty (fun_ty i64_ty ints) ints) ∷ (fun_ty (fun_ty i64_ty ints) ints) ∷ (fun_ty i64_ty ints) ∷ ints ∷ ints ∷ ints ∷ (fun_ty i64_ty ints) ∷ i64_ty ∷ i64_ty ∷ i64_ty ∷ (fun_ty i64_ty ints) ∷ (fun_ty i64_ty ints) ∷ i64_ty ∷ ints ∷ ints ∷ ints ∷ ints ∷ (fun_ty i64_ty ints) ∷ i64_ty ∷ ints ∷ ints ∷ ints ∷ (fun_ty (fun_ty i64_ty ints) ints) ∷ (fun_ty i64_ty ints) ∷ i64_ty ∷ ints ∷ (fun_ty ints ints) ∷ ints ∷ ints ∷ []; program = (define 0 (lambda (Typed_pattern (name 1) (Arrow_type None i64_type (Unique_type (array_of i64_type))) ∷ []) (strict (Declared (array_of i64_type)) 36 (strict Update 46 (Apply (var 1 36) (literal 0) ∷ literal 0 ∷ literal 9 ∷ []) ∷ []))) ∷ define 2 (lambda (Typed_pattern (name 3) i64_type ∷ []) (strict (Declared (array_of i64_type)) 81 (let_in (name 4) (Apply (the prim.Iota) (var 3 94)) (let_in (name 6) (Apply (var 0 104) (lambda (name 5 ∷ []) (Apply (the prim.Copy) (var 4 118)))) (var 4 124)) ∷ []))) ∷ []); answer = None }

-- def g (f: i64 -> *[]i64): []i64 = (f 0) with [0] = 9 def main (n: i64): []i64 = let a = iota n let c = g (let v = a in \i -> v) in a
abbrev result_wanted_behind_let : Case
result_wanted_behind_let = record { types = (fun_ty (fun_ty i64_ty ints) ints) ∷ (fun_ty (fun_ty i64_ty ints) ints) ∷ (fun_ty i64_ty ints) ∷ ints ∷ ints ∷ ints ∷ (fun_ty i64_ty ints) ∷ i64_ty ∷ i64_ty ∷ i64_ty ∷ (fun_ty i64_ty ints) ∷ (fun_ty i64_ty ints) ∷ i64_ty ∷ ints ∷ ints ∷ ints ∷ ints ∷ (fun_ty i64_ty ints) ∷ i64_ty ∷ ints ∷ ints ∷ ints ∷ (fun_ty (fun_ty i64_ty ints) ints) ∷ (fun_ty i64_ty ints) ∷ ints ∷ ints ∷ (fun_ty i64_ty ints) ∷ i64_ty ∷ ints ∷ ints ∷ []; program = (define 0 (lambda (Typed_pattern (name 1) (Arrow_type None i64_type (Unique_type (array_of i64_type))) ∷ []) (strict (Declared (array_of i64_type)) 36 (strict Update 46 (Apply (var 1 36) (literal 0) ∷ literal 0 ∷ literal 9 ∷ []) ∷ []))) ∷ define 2 (lambda (Typed_pattern (name 3) i64_type ∷ []) (strict (Declared (array_of i64_type)) 81 (let_in (name 4) (Apply (the prim.Iota) (var 3 94)) (let_in (name 7) (Apply (var 0 104) (let_in (name 5) (var 4 115) (lambda (name 6 ∷ []) (var 5 126)))) (var 4 132)) ∷ []))) ∷ []); answer = Some (ResultAliases (ByAlias (Part 15 0 (b 4))) (First 28)) }

-- def g (f: i64 -> *[]i64): []i64 = f 0 def h (i: i64): []i64 = iota 3 def main: []i64 = g h
abbrev result_passed : Case
result_passed = record { types = (fun_ty (fun_ty i64_ty ints) ints) ∷ (fun_ty (fun_ty i64_ty ints) ints) ∷ (fun_ty i64_ty ints) ∷ ints ∷ ints ∷ (fun_ty i64_ty ints) ∷ i64_ty ∷ (fun_ty i64_ty ints) ∷ (fun_ty i64_ty ints) ∷ i64_ty ∷ ints ∷ ints ∷ (fun_ty i64_ty ints) ∷ i64_ty ∷ ints ∷ ints ∷ ints ∷ (fun_ty (fun_ty i64_ty ints) ints) ∷ (fun_ty i64_ty ints) ∷ []; program = (define 0 (lambda (Typed_pattern (name 1) (Arrow_type None i64_type (Unique_type (array_of i64_type))) ∷ []) (strict (Declared (array_of i64_type)) 35 (Apply (var 1 35) (literal 0) ∷ []))) ∷ define 2 (lambda (Typed_pattern (name 3) i64_type ∷ []) (strict (Declared (array_of i64_type)) 63 (Apply (the prim.Iota) (literal 3) ∷ []))) ∷ define 4 (strict (Declared (array_of i64_type)) 88 (Apply (var 0 88) (var 2 90) ∷ [])) ∷ []); answer = Some (ResultAliases (ByName (b 2)) (First 18)) }

results_answered : map found (result_is_parameter ∷ result_is_consumed ∷ result_components ∷ result_wanted ∷ result_wanted_fresh ∷ result_wanted_behind_let ∷ result_passed ∷ []) ≡ map answer (result_is_parameter ∷ result_is_consumed ∷ result_components ∷ result_wanted ∷ result_wanted_fresh ∷ result_wanted_behind_let ∷ result_passed ∷ [])
unfolding is_in with_alias union those spread all_spread written_stars tuple_stars record_stars has_star some_has_star lacks_star some_lacks_star adds_star some_adds_star consumes some_consumes consumes_more consumed_more some_consumes_more some_consumed_more gives_less given_less some_gives_less some_given_less either all_either of_type of_types with_stars all_with_stars at_type all_at_type components all_components with_sets all_with_sets named all_named starring all_starring functions all_functions ascribed all_ascribed part_named with_part_named lose_all lost pattern_stars patterns_stars fields_stars bound all_bound fields_bound kept all_kept fields_kept capture all_captured turns_captured some_name name_in turns_name own_names all_own_names fields_own_names starts all_starts fields_start misfit all_misfit fields_misfit looked all_looked turns_looked condition_looked value_looked first_broken place_from place part_at
results_answered = refl

-- ---- loops

-- def main (n: i64): []i64 = loop a = iota n for i < n do if i > 2 then a with [i] = 0 - a[i] else a
abbrev loop_in_place : Case
loop_in_place = record { types = (fun_ty i64_ty ints) ∷ (fun_ty i64_ty ints) ∷ i64_ty ∷ ints ∷ ints ∷ ints ∷ ints ∷ (fun_ty i64_ty ints) ∷ i64_ty ∷ i64_ty ∷ i64_ty ∷ ints ∷ bool_ty ∷ i64_ty ∷ i64_ty ∷ i64_ty ∷ ints ∷ ints ∷ i64_ty ∷ i64_ty ∷ i64_ty ∷ i64_ty ∷ i64_ty ∷ ints ∷ i64_ty ∷ ints ∷ []; program = (define 0 (lambda (Typed_pattern (name 1) i64_type ∷ []) (strict (Declared (array_of i64_type)) 28 (loop_of (name 2) (Apply (the prim.Iota) (var 1 42)) (Counted (b 3) (var 1 52)) (If (strict (Binary op.Gt) 62 (var 3 60 ∷ literal 2 ∷ [])) (strict Update 78 (var 2 71 ∷ var 3 79 ∷ strict (Binary op.Sub) 86 (literal 0 ∷ strict (Index (part.At ∷ [])) 89 (var 2 88 ∷ var 3 90 ∷ []) ∷ []) ∷ [])) (var 2 98)) ∷ []))) ∷ []); answer = None }

-- def main (n: i64): i64 = let a = iota n let r = loop x = a for i < n do x let d = r with [0] = 1 in a[0]
abbrev loop_shares_first : Case
loop_shares_first = record { types = (fun_ty i64_ty i64_ty) ∷ (fun_ty i64_ty i64_ty) ∷ i64_ty ∷ i64_ty ∷ i64_ty ∷ ints ∷ ints ∷ (fun_ty i64_ty ints) ∷ i64_ty ∷ i64_ty ∷ ints ∷ ints ∷ ints ∷ ints ∷ i64_ty ∷ i64_ty ∷ ints ∷ i64_ty ∷ ints ∷ ints ∷ ints ∷ i64_ty ∷ i64_ty ∷ i64_ty ∷ ints ∷ i64_ty ∷ []; program = (define 0 (lambda (Typed_pattern (name 1) i64_type ∷ []) (strict (Declared i64_type) 26 (let_in (name 2) (Apply (the prim.Iota) (var 1 39)) (let_in (name 5) (loop_of (name 3) (var 2 58) (Counted (b 4) (var 1 68)) (var 3 73)) (let_in (name 6) (strict Update 90 (var 5 83 ∷ literal 0 ∷ literal 1 ∷ [])) (strict (Index (part.At ∷ [])) 102 (var 2 101 ∷ literal 0 ∷ [])))) ∷ []))) ∷ []); answer = Some (Consumed (ByName (b 2)) (Mark (at 90)) (First 24)) }

-- def main (n: i64): i64 = let a = iota n let (p, q) = (loop (x, y) = (a, a) for i < n do (x with [0] = 1, y)) in p[0]
abbrev first_values_share : Case
first_values_share = record { types = (fun_ty i64_ty i64_ty) ∷ (fun_ty i64_ty i64_ty) ∷ i64_ty ∷ i64_ty ∷ i64_ty ∷ ints ∷ ints ∷ (fun_ty i64_ty ints) ∷ i64_ty ∷ i64_ty ∷ (pair_ty ints ints) ∷ ints ∷ ints ∷ (pair_ty ints ints) ∷ (pair_ty ints ints) ∷ ints ∷ ints ∷ (pair_ty ints ints) ∷ ints ∷ ints ∷ i64_ty ∷ i64_ty ∷ (pair_ty ints ints) ∷ ints ∷ ints ∷ i64_ty ∷ i64_ty ∷ ints ∷ i64_ty ∷ ints ∷ i64_ty ∷ []; program = (define 0 (lambda (Typed_pattern (name 1) i64_type ∷ []) (strict (Declared i64_type) 26 (let_in (name 2) (Apply (the prim.Iota) (var 1 39)) (let_in (Tuple_pattern (all_patterns (name 6 ∷ name 7 ∷ []))) (loop_of (Tuple_pattern (all_patterns (name 3 ∷ name 4 ∷ []))) (strict Tuple_of 69 (var 2 70 ∷ var 2 73 ∷ [])) (Counted (b 5) (var 1 84)) (strict Tuple_of 89 (strict Update 97 (var 3 90 ∷ literal 0 ∷ literal 1 ∷ []) ∷ var 4 106 ∷ []))) (strict (Index (part.At ∷ [])) 114 (var 6 113 ∷ literal 0 ∷ []))) ∷ []))) ∷ []); answer = Some (ResultAliases (ByAlias (Part 5 0 (b 2))) (First 22)) }

-- def main (n: i64): i64 = let a = iota n let c = iota n let r = loop (x, y) = (a, c) for i < n do (x with [0] = 1, y) in a[0]
abbrev first_value_consumed : Case
first_value_consumed = record { types = (fun_ty i64_ty i64_ty) ∷ (fun_ty i64_ty i64_ty) ∷ i64_ty ∷ i64_ty ∷ i64_ty ∷ ints ∷ ints ∷ (fun_ty i64_ty ints) ∷ i64_ty ∷ i64_ty ∷ ints ∷ ints ∷ (fun_ty i64_ty ints) ∷ i64_ty ∷ i64_ty ∷ (pair_ty ints ints) ∷ (pair_ty ints ints) ∷ (pair_ty ints ints) ∷ ints ∷ ints ∷ (pair_ty ints ints) ∷ ints ∷ ints ∷ i64_ty ∷ i64_ty ∷ (pair_ty ints ints) ∷ ints ∷ ints ∷ i64_ty ∷ i64_ty ∷ ints ∷ i64_ty ∷ ints ∷ i64_ty ∷ []; program = (define 0 (lambda (Typed_pattern (name 1) i64_type ∷ []) (strict (Declared i64_type) 26 (let_in (name 2) (Apply (the prim.Iota) (var 1 39)) (let_in (name 3) (Apply (the prim.Iota) (var 1 54)) (let_in (name 7) (loop_of (Tuple_pattern (all_patterns (name 4 ∷ name 5 ∷ []))) (strict Tuple_of 78 (var 2 79 ∷ var 3 82 ∷ [])) (Counted (b 6) (var 1 93)) (strict Tuple_of 98 (strict Update 106 (var 4 99 ∷ literal 0 ∷ literal 1 ∷ []) ∷ var 5 115 ∷ []))) (strict (Index (part.At ∷ [])) 122 (var 2 121 ∷ literal 0 ∷ [])))) ∷ []))) ∷ []); answer = Some (Consumed (ByName (b 2)) (First 21) (First 32)) }

-- def main (n: i64): i64 = let a = iota n let c = iota n let r = loop (x, y) = (a, c) for i < n do (x with [0] = 1, y) in c[0]
abbrev other_first_value : Case
other_first_value = record { types = (fun_ty i64_ty i64_ty) ∷ (fun_ty i64_ty i64_ty) ∷ i64_ty ∷ i64_ty ∷ i64_ty ∷ ints ∷ ints ∷ (fun_ty i64_ty ints) ∷ i64_ty ∷ i64_ty ∷ ints ∷ ints ∷ (fun_ty i64_ty ints) ∷ i64_ty ∷ i64_ty ∷ (pair_ty ints ints) ∷ (pair_ty ints ints) ∷ (pair_ty ints ints) ∷ ints ∷ ints ∷ (pair_ty ints ints) ∷ ints ∷ ints ∷ i64_ty ∷ i64_ty ∷ (pair_ty ints ints) ∷ ints ∷ ints ∷ i64_ty ∷ i64_ty ∷ ints ∷ i64_ty ∷ ints ∷ i64_ty ∷ []; program = (define 0 (lambda (Typed_pattern (name 1) i64_type ∷ []) (strict (Declared i64_type) 26 (let_in (name 2) (Apply (the prim.Iota) (var 1 39)) (let_in (name 3) (Apply (the prim.Iota) (var 1 54)) (let_in (name 7) (loop_of (Tuple_pattern (all_patterns (name 4 ∷ name 5 ∷ []))) (strict Tuple_of 78 (var 2 79 ∷ var 3 82 ∷ [])) (Counted (b 6) (var 1 93)) (strict Tuple_of 98 (strict Update 106 (var 4 99 ∷ literal 0 ∷ literal 1 ∷ []) ∷ var 5 115 ∷ []))) (strict (Index (part.At ∷ [])) 122 (var 3 121 ∷ literal 0 ∷ [])))) ∷ []))) ∷ []); answer = None }

-- def main (n: i64): ([]i64, []i64, []i64) = loop (x, y, z) = (iota n, iota n, iota n) for i < n do (x with [i] = y[0], z, y)
abbrev one_of_three : Case
one_of_three = record { types = (fun_ty i64_ty (Made head.Tuple (more ints (more ints (more ints none))))) ∷ (fun_ty i64_ty (Made head.Tuple (more ints (more ints (more ints none))))) ∷ i64_ty ∷ (Made head.Tuple (more ints (more ints (more ints none)))) ∷ (Made head.Tuple (more ints (more ints (more ints none)))) ∷ (Made head.Tuple (more ints (more ints (more ints none)))) ∷ ints ∷ ints ∷ ints ∷ (Made head.Tuple (more ints (more ints (more ints none)))) ∷ ints ∷ (fun_ty i64_ty ints) ∷ i64_ty ∷ ints ∷ (fun_ty i64_ty ints) ∷ i64_ty ∷ ints ∷ (fun_ty i64_ty ints) ∷ i64_ty ∷ i64_ty ∷ i64_ty ∷ (Made head.Tuple (more ints (more ints (more ints none)))) ∷ ints ∷ ints ∷ i64_ty ∷ i64_ty ∷ ints ∷ i64_ty ∷ ints ∷ ints ∷ []; program = (define 0 (lambda (Typed_pattern (name 1) i64_type ∷ []) (strict (Declared (Tuple_type (type_and (array_of i64_type) (type_and (array_of i64_type) (type_and (array_of i64_type) no_type))))) 44 (loop_of (Tuple_pattern (all_patterns (name 2 ∷ name 3 ∷ name 4 ∷ []))) (strict Tuple_of 61 (Apply (the prim.Iota) (var 1 67) ∷ Apply (the prim.Iota) (var 1 75) ∷ Apply (the prim.Iota) (var 1 83) ∷ [])) (Counted (b 5) (var 1 94)) (strict Tuple_of 99 (strict Update 107 (var 2 100 ∷ var 5 108 ∷ strict (Index (part.At ∷ [])) 114 (var 3 113 ∷ literal 0 ∷ []) ∷ []) ∷ var 4 119 ∷ var 3 122 ∷ [])) ∷ []))) ∷ []); answer = None }

-- def main (n: i64): ([]i64, []i64, []i64) = loop (x, y, z) = (iota n, iota n, iota n) for i < n do let d = x with [i] = 1 in (z, d, y)
abbrev kept_for_consumed : Case
kept_for_consumed = record { types = (fun_ty i64_ty (Made head.Tuple (more ints (more ints (more ints none))))) ∷ (fun_ty i64_ty (Made head.Tuple (more ints (more ints (more ints none))))) ∷ i64_ty ∷ (Made head.Tuple (more ints (more ints (more ints none)))) ∷ (Made head.Tuple (more ints (more ints (more ints none)))) ∷ (Made head.Tuple (more ints (more ints (more ints none)))) ∷ ints ∷ ints ∷ ints ∷ (Made head.Tuple (more ints (more ints (more ints none)))) ∷ ints ∷ (fun_ty i64_ty ints) ∷ i64_ty ∷ ints ∷ (fun_ty i64_ty ints) ∷ i64_ty ∷ ints ∷ (fun_ty i64_ty ints) ∷ i64_ty ∷ i64_ty ∷ i64_ty ∷ (Made head.Tuple (more ints (more ints (more ints none)))) ∷ ints ∷ ints ∷ ints ∷ i64_ty ∷ i64_ty ∷ (Made head.Tuple (more ints (more ints (more ints none)))) ∷ ints ∷ ints ∷ ints ∷ []; program = (define 0 (lambda (Typed_pattern (name 1) i64_type ∷ []) (strict (Declared (Tuple_type (type_and (array_of i64_type) (type_and (array_of i64_type) (type_and (array_of i64_type) no_type))))) 44 (loop_of (Tuple_pattern (all_patterns (name 2 ∷ name 3 ∷ name 4 ∷ []))) (strict Tuple_of 61 (Apply (the prim.Iota) (var 1 67) ∷ Apply (the prim.Iota) (var 1 75) ∷ Apply (the prim.Iota) (var 1 83) ∷ [])) (Counted (b 5) (var 1 94)) (let_in (name 6) (strict Update 114 (var 2 107 ∷ var 5 115 ∷ literal 1 ∷ [])) (strict Tuple_of 125 (var 4 126 ∷ var 6 129 ∷ var 3 132 ∷ []))) ∷ []))) ∷ []); answer = Some (ResultAliases (ByAlias (Part 8 0 (b 4))) (First 21)) }

-- def main (n: i64): ([]i64, []i64) = loop (x, y) = (iota n, iota n) for i < n do let d = x with [0] = 9 let c = copy y in (c, c)
abbrev given_twice : Case
given_twice = record { types = (fun_ty i64_ty (pair_ty ints ints)) ∷ (fun_ty i64_ty (pair_ty ints ints)) ∷ i64_ty ∷ (pair_ty ints ints) ∷ (pair_ty ints ints) ∷ (pair_ty ints ints) ∷ ints ∷ ints ∷ (pair_ty ints ints) ∷ ints ∷ (fun_ty i64_ty ints) ∷ i64_ty ∷ ints ∷ (fun_ty i64_ty ints) ∷ i64_ty ∷ i64_ty ∷ i64_ty ∷ (pair_ty ints ints) ∷ ints ∷ ints ∷ ints ∷ i64_ty ∷ i64_ty ∷ (pair_ty ints ints) ∷ ints ∷ ints ∷ (fun_ty ints ints) ∷ ints ∷ (pair_ty ints ints) ∷ ints ∷ ints ∷ []; program = (define 0 (lambda (Typed_pattern (name 1) i64_type ∷ []) (strict (Declared (Tuple_type (type_and (array_of i64_type) (type_and (array_of i64_type) no_type)))) 37 (loop_of (Tuple_pattern (all_patterns (name 2 ∷ name 3 ∷ []))) (strict Tuple_of 51 (Apply (the prim.Iota) (var 1 57) ∷ Apply (the prim.Iota) (var 1 65) ∷ [])) (Counted (b 4) (var 1 76)) (let_in (name 5) (strict Update 96 (var 2 89 ∷ literal 0 ∷ literal 9 ∷ [])) (let_in (name 6) (Apply (the prim.Copy) (var 3 117)) (strict Tuple_of 122 (var 6 123 ∷ var 6 126 ∷ [])))) ∷ []))) ∷ []); answer = Some (ResultAliases (ByAlias (Part 24 0 (b 6))) (First 17)) }

-- def main (n: i64): []i64 = loop p = iota n for i < 3 do let c = copy p in if i > 0 then (let d = c with [0] = p[1] in if p[0] > 0 then d else d) else c
abbrev name_of_one_turn : Case
name_of_one_turn = record { types = (fun_ty i64_ty ints) ∷ (fun_ty i64_ty ints) ∷ i64_ty ∷ ints ∷ ints ∷ ints ∷ ints ∷ (fun_ty i64_ty ints) ∷ i64_ty ∷ i64_ty ∷ i64_ty ∷ ints ∷ ints ∷ ints ∷ (fun_ty ints ints) ∷ ints ∷ ints ∷ bool_ty ∷ i64_ty ∷ i64_ty ∷ i64_ty ∷ ints ∷ ints ∷ ints ∷ ints ∷ i64_ty ∷ i64_ty ∷ ints ∷ i64_ty ∷ ints ∷ bool_ty ∷ i64_ty ∷ i64_ty ∷ ints ∷ i64_ty ∷ i64_ty ∷ ints ∷ ints ∷ ints ∷ []; program = (define 0 (lambda (Typed_pattern (name 1) i64_type ∷ []) (strict (Declared (array_of i64_type)) 28 (loop_of (name 2) (Apply (the prim.Iota) (var 1 42)) (Counted (b 3) (literal 3)) (let_in (name 4) (Apply (the prim.Copy) (var 2 70)) (If (strict (Binary op.Gt) 80 (var 3 78 ∷ literal 0 ∷ [])) (let_in (name 5) (strict Update 105 (var 4 98 ∷ literal 0 ∷ strict (Index (part.At ∷ [])) 112 (var 2 111 ∷ literal 1 ∷ []) ∷ [])) (If (strict (Binary op.Gt) 127 (strict (Index (part.At ∷ [])) 123 (var 2 122 ∷ literal 0 ∷ []) ∷ literal 0 ∷ [])) (var 5 136) (var 5 143))) (var 4 151))) ∷ []))) ∷ []); answer = None }

-- def main (n: i64): i64 = let a = iota n let (p, q) = (loop (x, y) = (iota n, a) for i < n do (y, x)) let d = p with [0] = 1 in a[0]
abbrev over_all_turns : Case
over_all_turns = record { types = (fun_ty i64_ty i64_ty) ∷ (fun_ty i64_ty i64_ty) ∷ i64_ty ∷ i64_ty ∷ i64_ty ∷ ints ∷ ints ∷ (fun_ty i64_ty ints) ∷ i64_ty ∷ i64_ty ∷ (pair_ty ints ints) ∷ ints ∷ ints ∷ (pair_ty ints ints) ∷ (pair_ty ints ints) ∷ ints ∷ ints ∷ (pair_ty ints ints) ∷ ints ∷ (fun_ty i64_ty ints) ∷ i64_ty ∷ ints ∷ i64_ty ∷ i64_ty ∷ (pair_ty ints ints) ∷ ints ∷ ints ∷ i64_ty ∷ ints ∷ ints ∷ ints ∷ i64_ty ∷ i64_ty ∷ i64_ty ∷ ints ∷ i64_ty ∷ []; program = (define 0 (lambda (Typed_pattern (name 1) i64_type ∷ []) (strict (Declared i64_type) 26 (let_in (name 2) (Apply (the prim.Iota) (var 1 39)) (let_in (Tuple_pattern (all_patterns (name 6 ∷ name 7 ∷ []))) (loop_of (Tuple_pattern (all_patterns (name 3 ∷ name 4 ∷ []))) (strict Tuple_of 69 (Apply (the prim.Iota) (var 1 75) ∷ var 2 78 ∷ [])) (Counted (b 5) (var 1 89)) (strict Tuple_of 94 (var 4 95 ∷ var 3 98 ∷ []))) (let_in (name 8) (strict Update 117 (var 6 110 ∷ literal 0 ∷ literal 1 ∷ [])) (strict (Index (part.At ∷ [])) 129 (var 2 128 ∷ literal 0 ∷ [])))) ∷ []))) ∷ []); answer = Some (Consumed (ByName (b 2)) (Mark (at 117)) (First 34)) }

-- def main (n: i64): []i64 = loop p = iota n while (p with [0] = 1)[0] > n do p
abbrev condition_consumes : Case
condition_consumes = record { types = (fun_ty i64_ty ints) ∷ (fun_ty i64_ty ints) ∷ i64_ty ∷ ints ∷ ints ∷ ints ∷ ints ∷ (fun_ty i64_ty ints) ∷ i64_ty ∷ bool_ty ∷ i64_ty ∷ i64_ty ∷ ints ∷ ints ∷ i64_ty ∷ i64_ty ∷ i64_ty ∷ i64_ty ∷ ints ∷ []; program = (define 0 (lambda (Typed_pattern (name 1) i64_type ∷ []) (strict (Declared (array_of i64_type)) 28 (loop_of (name 2) (Apply (the prim.Iota) (var 1 42)) (While (strict (Binary op.Gt) 70 (strict (Index (part.At ∷ [])) 66 (strict Update 58 (var 2 51 ∷ literal 0 ∷ literal 1 ∷ []) ∷ literal 0 ∷ []) ∷ var 1 72 ∷ []))) (var 2 77) ∷ []))) ∷ []); answer = Some (Consumed (ByName (b 2)) (Mark (at 58)) (First 18)) }

-- def main (n: i64): []i64 = loop p = iota n for i < n do loop q = p for j < n do q with [j] = i
abbrev loop_in_loop : Case
loop_in_loop = record { types = (fun_ty i64_ty ints) ∷ (fun_ty i64_ty ints) ∷ i64_ty ∷ ints ∷ ints ∷ ints ∷ ints ∷ (fun_ty i64_ty ints) ∷ i64_ty ∷ i64_ty ∷ i64_ty ∷ ints ∷ ints ∷ ints ∷ i64_ty ∷ i64_ty ∷ ints ∷ ints ∷ i64_ty ∷ i64_ty ∷ []; program = (define 0 (lambda (Typed_pattern (name 1) i64_type ∷ []) (strict (Declared (array_of i64_type)) 28 (loop_of (name 2) (Apply (the prim.Iota) (var 1 42)) (Counted (b 3) (var 1 52)) (loop_of (name 4) (var 2 66) (Counted (b 5) (var 1 76)) (strict Update 88 (var 4 81 ∷ var 5 89 ∷ var 3 94 ∷ []))) ∷ []))) ∷ []); answer = None }

-- def main (n: i64): i64 = let a = iota n in loop s = 0 for i < n do (loop q = a for j < n do q with [j] = i)[0] + s
abbrev first_value_from_outside : Case
first_value_from_outside = record { types = (fun_ty i64_ty i64_ty) ∷ (fun_ty i64_ty i64_ty) ∷ i64_ty ∷ i64_ty ∷ i64_ty ∷ ints ∷ ints ∷ (fun_ty i64_ty ints) ∷ i64_ty ∷ i64_ty ∷ i64_ty ∷ i64_ty ∷ i64_ty ∷ i64_ty ∷ i64_ty ∷ i64_ty ∷ i64_ty ∷ ints ∷ ints ∷ ints ∷ i64_ty ∷ i64_ty ∷ ints ∷ ints ∷ i64_ty ∷ i64_ty ∷ i64_ty ∷ i64_ty ∷ []; program = (define 0 (lambda (Typed_pattern (name 1) i64_type ∷ []) (strict (Declared i64_type) 26 (let_in (name 2) (Apply (the prim.Iota) (var 1 39)) (loop_of (name 3) (literal 0) (Counted (b 4) (var 1 63)) (strict (Binary op.Add) 112 (strict (Index (part.At ∷ [])) 108 (loop_of (name 5) (var 2 78) (Counted (b 6) (var 1 88)) (strict Update 100 (var 5 93 ∷ var 6 101 ∷ var 4 106 ∷ [])) ∷ literal 0 ∷ []) ∷ var 3 114 ∷ []))) ∷ []))) ∷ []); answer = Some (NotConsumable (ByAlias (Part 5 0 (b 2))) (First 19)) }

-- def mk (a: *[]i64): (i64 -> []i64, i64 -> []i64) = (\i -> a, \i -> a) def main (n: i64): i64 = let (f, h) = mk (iota n) in loop s = 0 for i < n do (let r = f 0 let d = r with [0] = 1 in (h 0)[0] + d[0]) + s
abbrev own_name_from_outside : Case
own_name_from_outside = record { types = (fun_ty ints (pair_ty (fun_ty i64_ty ints) (fun_ty i64_ty ints))) ∷ (fun_ty ints (pair_ty (fun_ty i64_ty ints) (fun_ty i64_ty ints))) ∷ ints ∷ (pair_ty (fun_ty i64_ty ints) (fun_ty i64_ty ints)) ∷ (pair_ty (fun_ty i64_ty ints) (fun_ty i64_ty ints)) ∷ (fun_ty i64_ty ints) ∷ i64_ty ∷ ints ∷ (fun_ty i64_ty ints) ∷ i64_ty ∷ ints ∷ (fun_ty i64_ty i64_ty) ∷ (fun_ty i64_ty i64_ty) ∷ i64_ty ∷ i64_ty ∷ i64_ty ∷ (pair_ty (fun_ty i64_ty ints) (fun_ty i64_ty ints)) ∷ (fun_ty i64_ty ints) ∷ (fun_ty i64_ty ints) ∷ (pair_ty (fun_ty i64_ty ints) (fun_ty i64_ty ints)) ∷ (fun_ty ints (pair_ty (fun_ty i64_ty ints) (fun_ty i64_ty ints))) ∷ ints ∷ (fun_ty i64_ty ints) ∷ i64_ty ∷ i64_ty ∷ i64_ty ∷ i64_ty ∷ i64_ty ∷ i64_ty ∷ i64_ty ∷ i64_ty ∷ i64_ty ∷ ints ∷ ints ∷ (fun_ty i64_ty ints) ∷ i64_ty ∷ i64_ty ∷ ints ∷ ints ∷ ints ∷ i64_ty ∷ i64_ty ∷ i64_ty ∷ i64_ty ∷ i64_ty ∷ ints ∷ (fun_ty i64_ty ints) ∷ i64_ty ∷ i64_ty ∷ i64_ty ∷ ints ∷ i64_ty ∷ i64_ty ∷ []; program = (define 0 (lambda (Typed_pattern (name 1) (Unique_type (array_of i64_type)) ∷ []) (strict (Declared (Tuple_type (type_and (Arrow_type None i64_type (array_of i64_type)) (type_and (Arrow_type None i64_type (array_of i64_type)) no_type)))) 52 (strict Tuple_of 52 (lambda (name 2 ∷ []) (var 1 59) ∷ lambda (name 3 ∷ []) (var 1 68) ∷ []) ∷ []))) ∷ define 4 (lambda (Typed_pattern (name 5) i64_type ∷ []) (strict (Declared i64_type) 96 (let_in (Tuple_pattern (all_patterns (name 6 ∷ name 7 ∷ []))) (Apply (var 0 109) (Apply (the prim.Iota) (var 5 118))) (loop_of (name 8) (literal 0) (Counted (b 9) (var 5 143)) (strict (Binary op.Add) 204 (let_in (name 10) (Apply (var 6 157) (literal 0)) (let_in (name 11) (strict Update 176 (var 10 169 ∷ literal 0 ∷ literal 1 ∷ [])) (strict (Binary op.Add) 196 (strict (Index (part.At ∷ [])) 192 (Apply (var 7 188) (literal 0) ∷ literal 0 ∷ []) ∷ strict (Index (part.At ∷ [])) 199 (var 11 198 ∷ literal 0 ∷ []) ∷ []))) ∷ var 8 206 ∷ []))) ∷ []))) ∷ []); answer = Some (NotConsumable (ByAlias (Own 19)) (Mark (at 176))) }

loops_answered : map found (loop_in_place ∷ loop_shares_first ∷ first_values_share ∷ first_value_consumed ∷ other_first_value ∷ one_of_three ∷ kept_for_consumed ∷ given_twice ∷ name_of_one_turn ∷ over_all_turns ∷ condition_consumes ∷ loop_in_loop ∷ first_value_from_outside ∷ own_name_from_outside ∷ []) ≡ map answer (loop_in_place ∷ loop_shares_first ∷ first_values_share ∷ first_value_consumed ∷ other_first_value ∷ one_of_three ∷ kept_for_consumed ∷ given_twice ∷ name_of_one_turn ∷ over_all_turns ∷ condition_consumes ∷ loop_in_loop ∷ first_value_from_outside ∷ own_name_from_outside ∷ [])
unfolding is_in with_alias union those spread all_spread written_stars tuple_stars record_stars has_star some_has_star lacks_star some_lacks_star adds_star some_adds_star consumes some_consumes consumes_more consumed_more some_consumes_more some_consumed_more gives_less given_less some_gives_less some_given_less either all_either of_type of_types with_stars all_with_stars at_type all_at_type components all_components with_sets all_with_sets named all_named starring all_starring functions all_functions ascribed all_ascribed part_named with_part_named lose_all lost pattern_stars patterns_stars fields_stars bound all_bound fields_bound kept all_kept fields_kept capture all_captured turns_captured some_name name_in turns_name own_names all_own_names fields_own_names starts all_starts fields_start misfit all_misfit fields_misfit looked all_looked turns_looked condition_looked value_looked first_broken place_from place part_at
loops_answered = refl

-- ---- the value of an update

-- def main (n: i64): [][]i64 = let a = replicate n (iota n) in a with [0] = a[1]
abbrev value_shares : Case
value_shares = record { types = (fun_ty i64_ty (array_ty ints)) ∷ (fun_ty i64_ty (array_ty ints)) ∷ i64_ty ∷ (array_ty ints) ∷ (array_ty ints) ∷ (array_ty ints) ∷ (array_ty ints) ∷ (fun_ty ints (array_ty ints)) ∷ (fun_ty i64_ty (fun_ty ints (array_ty ints))) ∷ i64_ty ∷ ints ∷ (fun_ty i64_ty ints) ∷ i64_ty ∷ (array_ty ints) ∷ (array_ty ints) ∷ i64_ty ∷ ints ∷ (array_ty ints) ∷ i64_ty ∷ []; program = (define 0 (lambda (Typed_pattern (name 1) i64_type ∷ []) (strict (Declared (array_of (array_of i64_type))) 30 (let_in (name 2) (Apply (Apply (the prim.Replicate) (var 1 48)) (Apply (the prim.Iota) (var 1 56))) (strict Update 69 (var 2 62 ∷ literal 0 ∷ strict (Index (part.At ∷ [])) 76 (var 2 75 ∷ literal 1 ∷ []) ∷ [])) ∷ []))) ∷ []); answer = Some (ResultAliases (ByName (b 2)) (Mark (at 69))) }

-- def main (n: i64): [][]i64 = let a = replicate n (iota n) in a with [0] = copy a[1]
abbrev value_copied : Case
value_copied = record { types = (fun_ty i64_ty (array_ty ints)) ∷ (fun_ty i64_ty (array_ty ints)) ∷ i64_ty ∷ (array_ty ints) ∷ (array_ty ints) ∷ (array_ty ints) ∷ (array_ty ints) ∷ (fun_ty ints (array_ty ints)) ∷ (fun_ty i64_ty (fun_ty ints (array_ty ints))) ∷ i64_ty ∷ ints ∷ (fun_ty i64_ty ints) ∷ i64_ty ∷ (array_ty ints) ∷ (array_ty ints) ∷ i64_ty ∷ ints ∷ (fun_ty ints ints) ∷ ints ∷ (array_ty ints) ∷ i64_ty ∷ []; program = (define 0 (lambda (Typed_pattern (name 1) i64_type ∷ []) (strict (Declared (array_of (array_of i64_type))) 30 (let_in (name 2) (Apply (Apply (the prim.Replicate) (var 1 48)) (Apply (the prim.Iota) (var 1 56))) (strict Update 69 (var 2 62 ∷ literal 0 ∷ Apply (the prim.Copy) (strict (Index (part.At ∷ [])) 81 (var 2 80 ∷ literal 1 ∷ [])) ∷ [])) ∷ []))) ∷ []); answer = None }

values_answered : map found (value_shares ∷ value_copied ∷ []) ≡ map answer (value_shares ∷ value_copied ∷ [])
unfolding is_in with_alias union those spread all_spread written_stars tuple_stars record_stars has_star some_has_star lacks_star some_lacks_star adds_star some_adds_star consumes some_consumes consumes_more consumed_more some_consumes_more some_consumed_more gives_less given_less some_gives_less some_given_less either all_either of_type of_types with_stars all_with_stars at_type all_at_type components all_components with_sets all_with_sets named all_named starring all_starring functions all_functions ascribed all_ascribed part_named with_part_named lose_all lost pattern_stars patterns_stars fields_stars bound all_bound fields_bound kept all_kept fields_kept capture all_captured turns_captured some_name name_in turns_name own_names all_own_names fields_own_names starts all_starts fields_start misfit all_misfit fields_misfit looked all_looked turns_looked condition_looked value_looked first_broken place_from place part_at
values_answered = refl

-- ---- two rules at one place, and least names

-- def f (a: [][]i64): [][]i64 = a with [0] = a[1]
abbrev value_before_parameter : Case
value_before_parameter = record { types = (fun_ty (array_ty ints) (array_ty ints)) ∷ (fun_ty (array_ty ints) (array_ty ints)) ∷ (array_ty ints) ∷ (array_ty ints) ∷ (array_ty ints) ∷ (array_ty ints) ∷ i64_ty ∷ ints ∷ (array_ty ints) ∷ i64_ty ∷ []; program = (define 0 (lambda (Typed_pattern (name 1) (array_of (array_of i64_type)) ∷ []) (strict (Declared (array_of (array_of i64_type))) 31 (strict Update 38 (var 1 31 ∷ literal 0 ∷ strict (Index (part.At ∷ [])) 45 (var 1 44 ∷ literal 1 ∷ []) ∷ []) ∷ []))) ∷ []); answer = Some (ResultAliases (ByName (b 1)) (Mark (at 38))) }

-- def main (a: []i64): i64 = let f = \i -> (a with [i] = 1)[0] in f 0
abbrev parameter_before_captured : Case
parameter_before_captured = record { types = (fun_ty ints i64_ty) ∷ (fun_ty ints i64_ty) ∷ ints ∷ i64_ty ∷ i64_ty ∷ (fun_ty i64_ty i64_ty) ∷ (fun_ty i64_ty i64_ty) ∷ i64_ty ∷ i64_ty ∷ ints ∷ ints ∷ i64_ty ∷ i64_ty ∷ i64_ty ∷ i64_ty ∷ (fun_ty i64_ty i64_ty) ∷ i64_ty ∷ []; program = (define 0 (lambda (Typed_pattern (name 1) (array_of i64_type) ∷ []) (strict (Declared i64_type) 28 (let_in (name 3) (lambda (name 2 ∷ []) (strict (Index (part.At ∷ [])) 58 (strict Update 50 (var 1 43 ∷ var 2 51 ∷ literal 1 ∷ []) ∷ literal 0 ∷ []))) (Apply (var 3 65) (literal 0)) ∷ []))) ∷ []); answer = Some (NotConsumable (ByAlias (Part 2 0 (b 1))) (Mark (at 50))) }

-- def f (a: *[]i64) (c: []i64): i64 = a[0] + c[0] def g (xs: []i64): i64 = f xs xs
abbrev parameter_before_second_argument : Case
parameter_before_second_argument = record { types = (fun_ty ints (fun_ty ints i64_ty)) ∷ (fun_ty ints (fun_ty ints i64_ty)) ∷ ints ∷ ints ∷ i64_ty ∷ i64_ty ∷ i64_ty ∷ i64_ty ∷ ints ∷ i64_ty ∷ i64_ty ∷ ints ∷ i64_ty ∷ (fun_ty ints i64_ty) ∷ (fun_ty ints i64_ty) ∷ ints ∷ i64_ty ∷ i64_ty ∷ (fun_ty ints i64_ty) ∷ (fun_ty ints (fun_ty ints i64_ty)) ∷ ints ∷ ints ∷ []; program = (define 0 (lambda (Typed_pattern (name 1) (Unique_type (array_of i64_type)) ∷ Typed_pattern (name 2) (array_of i64_type) ∷ []) (strict (Declared i64_type) 37 (strict (Binary op.Add) 42 (strict (Index (part.At ∷ [])) 38 (var 1 37 ∷ literal 0 ∷ []) ∷ strict (Index (part.At ∷ [])) 45 (var 2 44 ∷ literal 0 ∷ []) ∷ []) ∷ []))) ∷ define 3 (lambda (Typed_pattern (name 4) (array_of i64_type) ∷ []) (strict (Declared i64_type) 74 (Apply (Apply (var 0 74) (var 4 76)) (var 4 79) ∷ []))) ∷ []); answer = Some (NotConsumable (ByAlias (Part 15 0 (b 4))) (First 20)) }

-- def f (a: *[]i64) (c: []i64): i64 = a[0] + c[0] def main (n: i64): i64 = let a = iota n let g = \i -> f a a + i in g 0
abbrev captured_before_second_argument : Case
captured_before_second_argument = record { types = (fun_ty ints (fun_ty ints i64_ty)) ∷ (fun_ty ints (fun_ty ints i64_ty)) ∷ ints ∷ ints ∷ i64_ty ∷ i64_ty ∷ i64_ty ∷ i64_ty ∷ ints ∷ i64_ty ∷ i64_ty ∷ ints ∷ i64_ty ∷ (fun_ty i64_ty i64_ty) ∷ (fun_ty i64_ty i64_ty) ∷ i64_ty ∷ i64_ty ∷ i64_ty ∷ ints ∷ ints ∷ (fun_ty i64_ty ints) ∷ i64_ty ∷ i64_ty ∷ (fun_ty i64_ty i64_ty) ∷ (fun_ty i64_ty i64_ty) ∷ i64_ty ∷ i64_ty ∷ i64_ty ∷ i64_ty ∷ (fun_ty ints i64_ty) ∷ (fun_ty ints (fun_ty ints i64_ty)) ∷ ints ∷ ints ∷ i64_ty ∷ i64_ty ∷ (fun_ty i64_ty i64_ty) ∷ i64_ty ∷ []; program = (define 0 (lambda (Typed_pattern (name 1) (Unique_type (array_of i64_type)) ∷ Typed_pattern (name 2) (array_of i64_type) ∷ []) (strict (Declared i64_type) 37 (strict (Binary op.Add) 42 (strict (Index (part.At ∷ [])) 38 (var 1 37 ∷ literal 0 ∷ []) ∷ strict (Index (part.At ∷ [])) 45 (var 2 44 ∷ literal 0 ∷ []) ∷ []) ∷ []))) ∷ define 3 (lambda (Typed_pattern (name 4) i64_type ∷ []) (strict (Declared i64_type) 74 (let_in (name 5) (Apply (the prim.Iota) (var 4 87)) (let_in (name 7) (lambda (name 6 ∷ []) (strict (Binary op.Add) 109 (Apply (Apply (var 0 103) (var 5 105)) (var 5 107) ∷ var 6 111 ∷ []))) (Apply (var 7 116) (literal 0))) ∷ []))) ∷ []); answer = Some (Captured (ByAlias (Part 18 0 (b 5))) (First 31)) }

-- def g (a: *[]i64) (c: []i64) (f: i64 -> *[]i64): i64 = a[0] + c[0] + (f 0)[0] def h (i: i64): []i64 = iota 3 def main (n: i64): i64 = let a = iota n in g a a h
abbrev second_argument_before_result : Case
second_argument_before_result = record { types = (fun_ty ints (fun_ty ints (fun_ty (fun_ty i64_ty ints) i64_ty))) ∷ (fun_ty ints (fun_ty ints (fun_ty (fun_ty i64_ty ints) i64_ty))) ∷ ints ∷ ints ∷ (fun_ty i64_ty ints) ∷ i64_ty ∷ i64_ty ∷ i64_ty ∷ i64_ty ∷ i64_ty ∷ i64_ty ∷ ints ∷ i64_ty ∷ i64_ty ∷ ints ∷ i64_ty ∷ i64_ty ∷ ints ∷ (fun_ty i64_ty ints) ∷ i64_ty ∷ i64_ty ∷ (fun_ty i64_ty ints) ∷ (fun_ty i64_ty ints) ∷ i64_ty ∷ ints ∷ ints ∷ (fun_ty i64_ty ints) ∷ i64_ty ∷ (fun_ty i64_ty i64_ty) ∷ (fun_ty i64_ty i64_ty) ∷ i64_ty ∷ i64_ty ∷ i64_ty ∷ ints ∷ ints ∷ (fun_ty i64_ty ints) ∷ i64_ty ∷ i64_ty ∷ (fun_ty (fun_ty i64_ty ints) i64_ty) ∷ (fun_ty ints (fun_ty (fun_ty i64_ty ints) i64_ty)) ∷ (fun_ty ints (fun_ty ints (fun_ty (fun_ty i64_ty ints) i64_ty))) ∷ ints ∷ ints ∷ (fun_ty i64_ty ints) ∷ []; program = (define 0 (lambda (Typed_pattern (name 1) (Unique_type (array_of i64_type)) ∷ Typed_pattern (name 2) (array_of i64_type) ∷ Typed_pattern (name 3) (Arrow_type None i64_type (Unique_type (array_of i64_type))) ∷ []) (strict (Declared i64_type) 56 (strict (Binary op.Add) 68 (strict (Binary op.Add) 61 (strict (Index (part.At ∷ [])) 57 (var 1 56 ∷ literal 0 ∷ []) ∷ strict (Index (part.At ∷ [])) 64 (var 2 63 ∷ literal 0 ∷ []) ∷ []) ∷ strict (Index (part.At ∷ [])) 75 (Apply (var 3 71) (literal 0) ∷ literal 0 ∷ []) ∷ []) ∷ []))) ∷ define 4 (lambda (Typed_pattern (name 5) i64_type ∷ []) (strict (Declared (array_of i64_type)) 103 (Apply (the prim.Iota) (literal 3) ∷ []))) ∷ define 6 (lambda (Typed_pattern (name 7) i64_type ∷ []) (strict (Declared i64_type) 135 (let_in (name 8) (Apply (the prim.Iota) (var 7 148)) (Apply (Apply (Apply (var 0 153) (var 8 155)) (var 8 157)) (var 4 159)) ∷ []))) ∷ []); answer = Some (Consumed (ByAlias (Part 33 0 (b 8))) (First 41) (First 42)) }

-- def main (xs: []i64) (n: i64): ([]i64, []i64) = let a = iota n let c = a with [0] = 1 in (a, xs with [0] = 1)
abbrev first_in_order : Case
first_in_order = record { types = (fun_ty ints (fun_ty i64_ty (pair_ty ints ints))) ∷ (fun_ty ints (fun_ty i64_ty (pair_ty ints ints))) ∷ ints ∷ i64_ty ∷ (pair_ty ints ints) ∷ (pair_ty ints ints) ∷ ints ∷ ints ∷ (fun_ty i64_ty ints) ∷ i64_ty ∷ (pair_ty ints ints) ∷ ints ∷ ints ∷ ints ∷ i64_ty ∷ i64_ty ∷ (pair_ty ints ints) ∷ ints ∷ ints ∷ ints ∷ i64_ty ∷ i64_ty ∷ []; program = (define 0 (lambda (Typed_pattern (name 1) (array_of i64_type) ∷ Typed_pattern (name 2) i64_type ∷ []) (strict (Declared (Tuple_type (type_and (array_of i64_type) (type_and (array_of i64_type) no_type)))) 49 (let_in (name 3) (Apply (the prim.Iota) (var 2 62)) (let_in (name 4) (strict Update 79 (var 3 72 ∷ literal 0 ∷ literal 1 ∷ [])) (strict Tuple_of 90 (var 3 91 ∷ strict Update 102 (var 1 94 ∷ literal 0 ∷ literal 1 ∷ []) ∷ []))) ∷ []))) ∷ []); answer = Some (Consumed (ByName (b 3)) (Mark (at 79)) (First 17)) }

-- def f (a: []i64) (c: []i64) (t: bool): []i64 = (if t then c else a) with [0] = 1
abbrev least_name : Case
least_name = record { types = (fun_ty ints (fun_ty ints (fun_ty bool_ty ints))) ∷ (fun_ty ints (fun_ty ints (fun_ty bool_ty ints))) ∷ ints ∷ ints ∷ bool_ty ∷ ints ∷ ints ∷ ints ∷ bool_ty ∷ ints ∷ ints ∷ i64_ty ∷ i64_ty ∷ []; program = (define 0 (lambda (Typed_pattern (name 1) (array_of i64_type) ∷ Typed_pattern (name 2) (array_of i64_type) ∷ Typed_pattern (name 3) bool_type ∷ []) (strict (Declared (array_of i64_type)) 49 (strict Update 74 (If (var 3 52) (var 2 59) (var 1 66) ∷ literal 0 ∷ literal 1 ∷ []) ∷ []))) ∷ []); answer = Some (NotConsumable (ByAlias (Part 2 0 (b 1))) (Mark (at 74))) }

-- def f (a: *[]i64) (c: []i64): i64 = 0 def main (n: i64): i64 = let x = (let y = iota n in y) in f x x
abbrev name_within : Case
name_within = record { types = (fun_ty ints (fun_ty ints i64_ty)) ∷ (fun_ty ints (fun_ty ints i64_ty)) ∷ ints ∷ ints ∷ i64_ty ∷ i64_ty ∷ (fun_ty i64_ty i64_ty) ∷ (fun_ty i64_ty i64_ty) ∷ i64_ty ∷ i64_ty ∷ i64_ty ∷ ints ∷ ints ∷ ints ∷ ints ∷ (fun_ty i64_ty ints) ∷ i64_ty ∷ ints ∷ i64_ty ∷ (fun_ty ints i64_ty) ∷ (fun_ty ints (fun_ty ints i64_ty)) ∷ ints ∷ ints ∷ []; program = (define 0 (lambda (Typed_pattern (name 1) (Unique_type (array_of i64_type)) ∷ Typed_pattern (name 2) (array_of i64_type) ∷ []) (strict (Declared i64_type) 37 (literal 0 ∷ []))) ∷ define 3 (lambda (Typed_pattern (name 4) i64_type ∷ []) (strict (Declared i64_type) 60 (let_in (name 5) (let_in (name 6) (Apply (the prim.Iota) (var 4 84)) (var 6 94)) (Apply (Apply (var 0 100) (var 5 102)) (var 5 104)) ∷ []))) ∷ []); answer = Some (Consumed (ByAlias (Part 11 0 (b 5))) (First 21) (First 22)) }

orders_answered : map found (value_before_parameter ∷ parameter_before_captured ∷ parameter_before_second_argument ∷ captured_before_second_argument ∷ second_argument_before_result ∷ first_in_order ∷ least_name ∷ name_within ∷ []) ≡ map answer (value_before_parameter ∷ parameter_before_captured ∷ parameter_before_second_argument ∷ captured_before_second_argument ∷ second_argument_before_result ∷ first_in_order ∷ least_name ∷ name_within ∷ [])
unfolding is_in with_alias union those spread all_spread written_stars tuple_stars record_stars has_star some_has_star lacks_star some_lacks_star adds_star some_adds_star consumes some_consumes consumes_more consumed_more some_consumes_more some_consumed_more gives_less given_less some_gives_less some_given_less either all_either of_type of_types with_stars all_with_stars at_type all_at_type components all_components with_sets all_with_sets named all_named starring all_starring functions all_functions ascribed all_ascribed part_named with_part_named lose_all lost pattern_stars patterns_stars fields_stars bound all_bound fields_bound kept all_kept fields_kept capture all_captured turns_captured some_name name_in turns_name own_names all_own_names fields_own_names starts all_starts fields_start misfit all_misfit fields_misfit looked all_looked turns_looked condition_looked value_looked first_broken place_from place part_at
orders_answered = refl

-- ---- one number for two names, which no source has: what a function shares with is told by its number, and the last name of a
-- component is its own

abbrev ints_to : ℕ → List Ty
ints_to zero = []
ints_to (suc n) = ints ∷ ints_to n

abbrev new_array : FlatTerm
new_array = strict Array_of 0 (literal 1 ∷ [])

abbrev overwritten : ℕ → FlatTerm → FlatTerm
overwritten column a = strict Update column (a ∷ literal 1 ∷ literal 0 ∷ [])

-- def main = let x = [1] let y = x let z = x with [0] = 1 in (\y -> y, (\y -> y) with [0] = 1)
abbrev named_twice : Case
named_twice = record { types = ints_to 24; program = define 0 (let_in (name 1) new_array (let_in (name 2) (var 1 0) (let_in (name 3) (overwritten 10 (var 1 0)) (strict Tuple_of 0 (lambda (name 2 ∷ []) (var 2 0) ∷ overwritten 20 (lambda (name 2 ∷ []) (var 2 0)) ∷ []))))) ∷ []; answer = Some (Consumed (ByAlias (Part 2 0 (b 1))) (Mark (at 10)) (First 15)) }

abbrev two_arrays : Ty
two_arrays = Made (head.Record 0) (more ints (more ints none))

-- def main = let a = [1] in loop {x = p, x = q} = {x = a, y = [1]} for i < 1 do (let d = q with [0] = 1 in {x = [1], y = [1]})
abbrev field_twice : Case
field_twice = record { types = ints_to 6 ++ two_arrays ∷ ints ∷ ints ∷ two_arrays ∷ ints_to 11 ++ two_arrays ∷ ints_to 4; program = define 0 (let_in (name 1) new_array (loop_of (Record_pattern (codes "x" ∷ codes "x" ∷ []) (all_patterns (name 2 ∷ name 3 ∷ []))) (strict (Record_of (codes "x" ∷ codes "y" ∷ [])) 0 (var 1 0 ∷ new_array ∷ [])) (Counted (b 4) (literal 1)) (let_in (name 5) (overwritten 30 (var 3 0)) (strict (Record_of (codes "x" ∷ codes "y" ∷ [])) 0 (new_array ∷ new_array ∷ []))))) ∷ []; answer = None }

numbers_answered : map found (named_twice ∷ field_twice ∷ []) ≡ map answer (named_twice ∷ field_twice ∷ [])
unfolding is_in with_alias union those spread all_spread written_stars tuple_stars record_stars has_star some_has_star lacks_star some_lacks_star adds_star some_adds_star consumes some_consumes consumes_more consumed_more some_consumes_more some_consumed_more gives_less given_less some_gives_less some_given_less either all_either of_type of_types with_stars all_with_stars at_type all_at_type components all_components with_sets all_with_sets named all_named starring all_starring functions all_functions ascribed all_ascribed part_named with_part_named lose_all lost pattern_stars patterns_stars fields_stars bound all_bound fields_bound kept all_kept fields_kept capture all_captured turns_captured some_name name_in turns_name own_names all_own_names fields_own_names starts all_starts fields_start misfit all_misfit fields_misfit looked all_looked turns_looked condition_looked value_looked first_broken place_from place part_at
numbers_answered = refl
