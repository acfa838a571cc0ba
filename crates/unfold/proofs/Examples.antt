-- Small terms with the steps to which they unfold: what the definitions say of functions, tuples, branches and loops.
use Rattle.std.proofs.Common.{ℕ, List, [], ◌∷◌, true, false, refl, arith}
use Rattle.fut_scalar.specs.declared.operator.BinOp.{BinOp}
use Rattle.fut_scalar.specs.declared.operator.BinOp.TheVariants as binary
use Rattle.fut_scalar.specs.declared.place.BindId.{BindId}
use Rattle.fut_scalar.specs.declared.place.Place.{Place}
use Rattle.fut_scalar.specs.declared.scalar.IntType.TheVariants.{I32}
use Rattle.fut_scalar.specs.declared.scalar.Scalar.TheVariants as scalar
use Rattle.fut_flat.specs.declared.prim.Primitive.TheVariants as prim
use Rattle.fut_flat.specs.declared.prim.Ref.TheVariants as ref
use Rattle.fut_flat.specs.Erased.{FlatTerm, FlatPattern}
use Rattle.fut_flat.specs.Terms.{Bound_pattern, Tuple_pattern, no_pattern, pattern_and, Truth, Tuple_of, Project, Binary, Use, Strict, Lambda, Apply, Let, If, Loop, no_term, term_and, Counted, Over}
use Rattle.fut_meaning.specs.Found.{unsized}
use Rattle.fut_blocks.specs.declared.block.Atom.TheVariants as atom
use Rattle.fut_blocks.specs.declared.block.Operation.TheVariants as operation
use Rattle.fut_blocks.specs.Plain.{Operate, Give}
use Rattle.fut_blocks.specs.Plain as act
use Rattle.fut_blocks.specs.Rows.{Unknown_row}
use Rattle.unfold.specs.Knowns.{Known, Tuple_known, Function_known, no_known, known_and, Scope, nothing_seen, name_by, name_and, Tops, local_by, local, find}
use Rattle.unfold.specs.Shapes.{Scalar_shape, Tuple_shape, no_shape, shape_and, Shape, laid_scalar, laid_tuple, laid_none, laid_more}
use Rattle.unfold.specs.Unfolding.{Bindings, named, both_hold, b_bound, b_tuple, b_parts, b_none, b_more, e_scalars, e_packed, e_tuples, e_none, e_more, p_atom, p_tuple, p_none, p_more, o_truth, o_tuple, o_binary, o_equal, o_part, Unfolds, u_name, u_primitive, u_strict, u_lambda, u_apply, u_let, u_packed, u_if, u_counted, u_over, u_none, u_more, a_body, a_waits, a_primitive_waits, a_job, a_none, a_more}

here : Place
here = record { file = 0; line = 1; column = 1 }

abbrev bind_id : ℕ → BindId
bind_id n = record { 0 = n }

abbrev var : ℕ → FlatTerm
var n = Use (ref.Bound (bind_id n)) here 0

abbrev name : ℕ → FlatPattern
name n = Bound_pattern (bind_id n)

abbrev truth : FlatTerm
truth = Strict (Truth true) here no_term

abbrev pair : FlatTerm → FlatTerm → FlatTerm
pair a b = Strict Tuple_of here (term_and a (term_and b no_term))

abbrev two : BinOp → FlatTerm → FlatTerm → FlatTerm
two op a b = Strict (Binary op) here (term_and a (term_and b no_term))

abbrev known_pair : Known → Known → Known
known_pair s t = Tuple_known (known_and s (known_and t no_known))

abbrev pair_shape : Shape
pair_shape = Tuple_shape (shape_and Scalar_shape (shape_and Scalar_shape no_shape))

-- where the definition 0 is `\x y -> x == y`, and names up to 2 are taken
abbrev defined : Tops
defined = (0, Function_known (pattern_and (name 1) (pattern_and (name 2) no_pattern)) (two binary.Eq (var 1) (var 2)) 3 nothing_seen) ∷ []

-- the local name 4 has the component 0, the name 5 the component 1
abbrev locals : Scope
locals = name_and (bind_id 5) (named 1) (name_and (bind_id 4) (named 0) nothing_seen)

abbrev Comes_to : FlatTerm → Bindings → Known → ℕ → Type 0
Comes_to t bs s m = Unfolds (unsized (λ n. I32)) defined locals 7 t 2 bs s m

abbrev equal : ℕ → ℕ → act.Action
equal x y = Operate (operation.Binary binary.Eq here (atom.Name x) (atom.Name y))

-- an application of a function to two tuples is the comparisons of their components, and that all of them hold
pairs_are_compared : Comes_to (Apply (Apply (var 0) (pair (var 4) (var 5))) (pair (var 5) (var 4)))
    ((2 ∷ [], equal 0 1) ∷ (3 ∷ [], equal 1 0) ∷ (4 ∷ [], both_hold (atom.Name 3) (atom.Constant (scalar.Bool true))) ∷ (5 ∷ [], both_hold (atom.Name 2) (atom.Name 4)) ∷ [])
    (named 5) 6
unfolding find local local_by name_and name_by
pairs_are_compared =
    u_apply
    (u_apply (u_name refl refl) (u_strict (u_more (u_name refl refl) (u_more (u_name refl refl) u_none)) o_tuple) (a_waits b_bound))
    (u_strict (u_more (u_name refl refl) (u_more (u_name refl refl) u_none)) o_tuple)
    (a_body b_bound (u_strict (u_more (u_name refl refl) (u_more (u_name refl refl) u_none))
    (o_equal (e_tuples (e_more (e_scalars (omega arith)) (e_more (e_scalars (omega arith)) e_none (omega arith)) (omega arith))))))

-- a branch gives each component of a tuple under a new name
branches_give_components : Comes_to (If truth (pair (var 4) (var 5)) (pair (var 5) (var 4)))
    ((2 ∷ 3 ∷ [], act.If (atom.Constant (scalar.Bool true)) (Give (atom.Name 0 ∷ atom.Name 1 ∷ [])) (Give (atom.Name 1 ∷ atom.Name 0 ∷ []))) ∷ [])
    (known_pair (named 2) (named 3)) 4
unfolding find local local_by name_and name_by Rattle.fut_blocks.specs.Plain.lets
branches_give_components =
    u_if {h = pair_shape} (2 ∷ 3 ∷ [])
    (u_strict u_none o_truth)
    (u_strict (u_more (u_name refl refl) (u_more (u_name refl refl) u_none)) o_tuple)
    (laid_tuple (laid_more laid_scalar (laid_more laid_scalar laid_none)))
    (u_strict (u_more (u_name refl refl) (u_more (u_name refl refl) u_none)) o_tuple)
    (laid_tuple (laid_more laid_scalar (laid_more laid_scalar laid_none)))
    (omega arith, (omega arith, omega arith))
    (laid_tuple (laid_more laid_scalar (laid_more laid_scalar laid_none)))

-- a loop has a parameter for each component: `loop (p, q) = (x, y) for i < y do (q, i)`
loops_have_components : Comes_to (Loop here [] (Tuple_pattern (pattern_and (name 6) (pattern_and (name 7) no_pattern))) (pair (var 4) (var 5)) (Counted (bind_id 8) (var 5)) (pair (var 7) (var 8)))
    ((5 ∷ 6 ∷ [], act.For (2 ∷ 3 ∷ []) (atom.Name 0 ∷ atom.Name 1 ∷ []) 4 (atom.Name 1) (Give (atom.Name 3 ∷ atom.Name 4 ∷ []))) ∷ [])
    (known_pair (named 5) (named 6)) 7
unfolding find local local_by name_and name_by Rattle.fut_blocks.specs.Plain.lets
loops_have_components =
    u_counted {n3 = 4} {h = pair_shape} (2 ∷ 3 ∷ []) (5 ∷ 6 ∷ [])
    (u_strict (u_more (u_name refl refl) (u_more (u_name refl refl) u_none)) o_tuple)
    (laid_tuple (laid_more laid_scalar (laid_more laid_scalar laid_none)))
    (u_name refl refl)
    (omega arith, (omega arith, omega arith))
    (laid_tuple (laid_more laid_scalar (laid_more laid_scalar laid_none)))
    (omega arith)
    (b_tuple (b_more b_bound (b_more b_bound b_none)))
    (u_strict (u_more (u_name refl refl) (u_more (u_name refl refl) u_none)) o_tuple)
    (laid_tuple (laid_more laid_scalar (laid_more laid_scalar laid_none)))
    (omega arith, (omega arith, omega arith))
    (laid_tuple (laid_more laid_scalar (laid_more laid_scalar laid_none)))

-- ---- arrays

-- the name of the second part of a tuple
abbrev one : List ℕ
one = 49 ∷ []

abbrev add : ℕ → ℕ → act.Action
add x y = Operate (operation.Binary binary.Add here (atom.Name x) (atom.Name y))

-- the function of a map is its block, on a new name, and sees the names outside: `map (\z -> z + y) x`
maps_have_blocks : Comes_to (Apply (Apply (Use (ref.Prim prim.Map) here 0) (Lambda (pattern_and (name 6) no_pattern) (two binary.Add (var 6) (var 5)))) (var 4))
    ((4 ∷ [], act.Job Unknown_row prim.Map here (atom.Name 0 ∷ []) (2 ∷ []) (act.Let (3 ∷ []) (add 2 1) (Give (atom.Name 3 ∷ [])))) ∷ [])
    (named 4) 5
unfolding find local local_by name_and name_by Rattle.fut_blocks.specs.Plain.lets
maps_have_blocks =
    u_apply
    (u_apply (u_primitive refl) u_lambda (a_primitive_waits refl))
    (u_name refl refl)
    (a_job {n2 = 3} (2 ∷ []) refl refl refl (p_more p_atom p_none) (omega arith, omega arith) refl
    (a_more (a_body b_bound (u_strict (u_more (u_name refl refl) (u_more (u_name refl refl) u_none)) (o_binary (omega arith)))) a_none) p_atom (omega arith))

-- a tuple that came out of an array is taken apart by a step
rows_come_apart : Comes_to (Let (record { sizes = []; parameters = []; is_function = false; pattern = Tuple_pattern (pattern_and (name 6) (pattern_and (name 7) no_pattern)) }) (var 4) (var 7)) ((2 ∷ 3 ∷ [], Operate (operation.Parts (atom.Name 0))) ∷ []) (named 3) 4
unfolding find local local_by name_and name_by
rows_come_apart = u_let (u_name refl refl) (b_parts (2 ∷ 3 ∷ []) (omega arith, (omega arith, omega arith)) (b_more b_bound (b_more b_bound b_none))) (u_name refl refl)

-- where one branch gives a tuple of names and the other one that came out of an array, both give one component
branches_are_packed : Comes_to (If truth (pair (var 4) (var 5)) (var 4))
    ((3 ∷ [], act.If (atom.Constant (scalar.Bool true)) (act.Let (2 ∷ []) (act.Tuple (atom.Name 0 ∷ atom.Name 1 ∷ [])) (Give (atom.Name 2 ∷ []))) (Give (atom.Name 0 ∷ []))) ∷ [])
    (named 3) 4
unfolding find local local_by name_and name_by Rattle.fut_blocks.specs.Plain.lets
branches_are_packed =
    u_if {h = Scalar_shape} (3 ∷ [])
    (u_strict u_none o_truth)
    (u_packed (u_strict (u_more (u_name refl refl) (u_more (u_name refl refl) u_none)) o_tuple) (p_tuple (p_more p_atom (p_more p_atom p_none)) (omega arith)))
    laid_scalar
    (u_name refl refl)
    laid_scalar
    (omega arith, omega arith)
    laid_scalar

-- a turn for each row: `loop s = y for z in x do s + z`
loops_go_over_rows : Comes_to (Loop here [] (name 6) (var 5) (Over (name 7) (var 4)) (two binary.Add (var 6) (var 7)))
    ((5 ∷ [], act.Over (2 ∷ []) (atom.Name 1 ∷ []) 3 (atom.Name 0) (act.Let (4 ∷ []) (add 2 3) (Give (atom.Name 4 ∷ [])))) ∷ [])
    (named 5) 6
unfolding find local local_by name_and name_by Rattle.fut_blocks.specs.Plain.lets
loops_go_over_rows =
    u_over {n3 = 3} {h = Scalar_shape} (2 ∷ []) (5 ∷ [])
    (u_name refl refl)
    laid_scalar
    (u_name refl refl)
    (omega arith, omega arith)
    laid_scalar
    (omega arith)
    b_bound
    b_bound
    (u_strict (u_more (u_name refl refl) (u_more (u_name refl refl) u_none)) (o_binary (omega arith)))
    laid_scalar
    (omega arith, omega arith)
    laid_scalar

-- a tuple of names is compared with one that came out of an array as one component
rows_are_compared : Comes_to (two binary.Eq (var 4) (pair (var 4) (var 5))) ((2 ∷ [], act.Tuple (atom.Name 0 ∷ atom.Name 1 ∷ [])) ∷ (3 ∷ [], equal 0 2) ∷ []) (named 3) 4
unfolding find local local_by name_and name_by
rows_are_compared =
    u_strict (u_more (u_name refl refl) (u_more (u_strict (u_more (u_name refl refl) (u_more (u_name refl refl) u_none)) o_tuple) u_none))
    (o_equal (e_packed (p_more p_atom (p_more (p_tuple (p_more p_atom (p_more p_atom p_none)) (omega arith)) p_none)) (omega arith)))

-- a part of a tuple that came out of an array is a step, and one of a known tuple is none
parts_are_steps : Comes_to (Strict (Project one) here (term_and (var 4) no_term)) ((2 ∷ [], act.Read (act.Part_at one) (atom.Name 0 ∷ [])) ∷ []) (named 2) 3
unfolding find local local_by name_and name_by
parts_are_steps = u_strict (u_more (u_name refl refl) u_none) (o_part (omega arith))
