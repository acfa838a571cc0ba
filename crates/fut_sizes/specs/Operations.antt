-- The sized type of what each operation makes of its parts (Futhark Language Reference, "Expressions", "Size Types").
use Rattle.std.specs.Prelude.{ℕ, suc, ◌+◌, Bool, true, false, cond, nat_eq, List, [], ◌∷◌, Option, Some, None, Ok, Err}
use Rattle.fut_ast.specs.Sorts.{Text}
use Rattle.fut_ast.specs.declared.node.End.{End}
use Rattle.fut_ast.specs.declared.node.End.TheVariants as end
use Rattle.fut_scalar.specs.declared.place.BindId.{BindId}
use Rattle.fut_scalar.specs.declared.scalar.ScalarType.TheVariants as scalar
use Rattle.fut_scalar.specs.declared.scalar.IntType.TheVariants as int
use Rattle.fut_flat.specs.declared.act.Part.{Part}
use Rattle.fut_flat.specs.declared.act.Part.TheVariants as part
use Rattle.fut_flat.specs.declared.prim.Ref.{Ref}
use Rattle.fut_flat.specs.declared.prim.Ref.TheVariants as ref
use Rattle.fut_flat.specs.Terms.{Operation, Integer, Tuple_of, Record_of, Array_of, Index, Project, Update, Replace, Ascribe, Coerce, Declared, Range, Use, Strict, Terms, no_term, term_and}
use Rattle.fut_flat.specs.Numbers.{numbers}
use Rattle.fut_flat.specs.Erased.{FlatTerm}
use Rattle.fut_types.specs.declared.Head.TheVariants as head
use Rattle.fut_types.specs.Types.{Ty, Made, none, more, Sub}
use Rattle.fut_typing.specs.Names.{Names}
use Rattle.sized_types.specs.Sizes.{Free, Const, Name, Unknown, At, Size, Level, Built, Sizes, no_size, size_and}
use Rattle.fut_sizes.specs.Agreeing.{fits_i64, Irregular, Answer, then_do, agree, no_size_of, type_levels, of_type}
use Rattle.fut_sizes.specs.WrittenSizes.{part_of, changed_part, ascribed, coercion, declared}

-- ---- what a size may name

-- a name or a constant that an i64 holds, else the unknown i of a node
abbrev pub value_of : ℕ → ℕ → FlatTerm → Free
value_of n i (Use (ref.Bound b) at k) = Name b.0
value_of n i (Strict (Integer c t) mark no_term) = cond (fits_i64 c) (Const c) (Unknown n i)
value_of n i e = Unknown n i

abbrev pub is_literal : ℕ → FlatTerm → Bool
is_literal c (Strict (Integer d t) mark no_term) = nat_eq c d
is_literal c e = false

abbrev pub is_i64 : Ty → Bool
is_i64 (Made (head.Scalar (scalar.Int int.I64)) ts) = true
is_i64 t = false

-- ---- arrays

-- no array is a size for the elements of an array without elements
abbrev pub empty_of : ℕ → Ty → Answer Size
empty_of n (Made head.Array (more e none)) = cond (nat_eq (type_levels e) 0) (Ok (Level (At (Const 0)) (of_type (no_size_of n) 0 e))) (Err (Irregular n))
empty_of n t = Ok (of_type (no_size_of n) 0 t)

-- each element agrees with the first
unfoldable pub elements_agree : Size → Terms Ref BindId → ℕ → Sizes → Answer (Unit {0})
elements_agree t (term_and e es) at (size_and u us) = then_do (agree at t u) (λ z. elements_agree t es (at + numbers e) us)
elements_agree t es at us = Ok tt

abbrev pub many : Sizes → ℕ
many no_size = 0
many (size_and t ts) = suc (many ts)

-- `[:]` and `[::-1]` keep a size, `[:n]` and `[0:n]` have the size n, every other slice is unknown
unfoldable pub slice_size : ℕ → ℕ → Bool → FlatTerm → Free
slice_size n i true e = value_of n i e
slice_size n i false e = Unknown n i

unfoldable pub indexed : ℕ → ℕ → List Part → Terms Ref BindId → Size → Size
indexed n i (part.At ∷ ps) (term_and e es) (Level d t) = indexed n i ps es t
indexed n i (part.Backwards ∷ ps) es (Level d t) = Level d (indexed n (suc i) ps es t)
indexed n i (part.Slice false false ∷ ps) es (Level d t) = Level d (indexed n (suc i) ps es t)
indexed n i (part.Slice false true ∷ ps) (term_and e es) (Level d t) = Level (At (value_of n i e)) (indexed n (suc i) ps es t)
indexed n i (part.Slice true false ∷ ps) (term_and e es) (Level d t) = Level (At (Unknown n i)) (indexed n (suc i) ps es t)
indexed n i (part.Slice true true ∷ ps) (term_and e (term_and f es)) (Level d t) = Level (At (slice_size n i (is_literal 0 e) f)) (indexed n (suc i) ps es t)
indexed n i ps es t = t

-- the new element agrees with the row that it replaces
unfoldable pub updated : Terms Ref BindId → ℕ → Sizes → Size → Answer (Unit {0})
updated (term_and e no_term) at (size_and v no_size) t = agree at t v
updated (term_and e es) at (size_and i is) (Level d t) = updated es (at + numbers e) is t
updated es at is t = Ok tt

-- `0..<n`, `0..1..<n` and `1..2...n`, where n is an i64, have the size n, and every other range is unknown
abbrev pub range_size : ℕ → Bool → FlatTerm → Free
range_size n true e = value_of n 0 e
range_size n false e = Unknown n 0

abbrev pub both : Bool → Bool → Bool
both true b = b
both false b = false

abbrev pub range_of : Bool → ℕ → Bool → End → Terms Ref BindId → Free
range_of i64 n false end.Below (term_and x (term_and z no_term)) = range_size n (both i64 (is_literal 0 x)) z
range_of i64 n true end.Below (term_and x (term_and y (term_and z no_term))) = range_size n (both i64 (both (is_literal 0 x) (is_literal 1 y))) z
range_of i64 n true end.Through (term_and x (term_and y (term_and z no_term))) = range_size n (both i64 (both (is_literal 1 x) (is_literal 2 y))) z
range_of i64 n stepped e es = Unknown n 0

-- ---- records: the parts in the order of their labels

abbrev pub labelled : Names → ℕ → List Text → Sizes → Sizes → Sizes
labelled N l (f ∷ fs) (size_and t ts) rest = cond (nat_eq (N.label f) l) (size_and t rest) (labelled N l fs ts rest)
labelled N l fs ts rest = rest

abbrev pub in_order : Names → List ℕ → List Text → Sizes → Sizes
in_order N [] fs ts = no_size
in_order N (l ∷ ls) fs ts = labelled N l fs ts (in_order N ls fs ts)

abbrev pub record_of : Names → List Text → Ty → Sizes → Size
record_of N fs (Made (head.Record n) us) ts = Built (head.Record n) (in_order N (N.shapes.fields n) fs ts)
record_of N fs t ts = Built head.Tuple ts

abbrev pub part_or : Option Size → Size → Size
part_or (Some t) u = t
part_or None u = u

abbrev pub element_ty : Ty → Ty
element_ty (Made head.Array (more e none)) = e
element_ty t = t

-- ---- an operation at a node, whose parts' nodes begin at `at`

module _ (N : Names) (types : Sub) where
  -- what holds no array
  abbrev pub plain : ℕ → Size
  plain n = of_type (no_size_of n) 0 (types n)

  unfoldable pub operation : Operation Ref BindId → ℕ → ℕ → Terms Ref BindId → Sizes → Answer Size
  operation Tuple_of n at es ts = Ok (Built head.Tuple ts)
  operation (Record_of fs) n at es ts = Ok (record_of N fs (types n) ts)
  operation Array_of n at no_term no_size = empty_of n (types n)
  operation Array_of n at (term_and e es) (size_and t ts) = then_do (elements_agree t es (at + numbers e) ts) (λ z. Ok (Level (At (Const (suc (many ts)))) t))
  operation (Index ps) n at (term_and e es) (size_and t ts) = Ok (indexed n 0 ps es t)
  operation (Project f) n at es (size_and t no_size) = Ok (part_or (part_of N f t) (plain n))
  operation Update n at (term_and e es) (size_and t ts) = then_do (updated es (at + numbers e) ts t) (λ z. Ok t)
  operation (Replace f) n at es (size_and t (size_and v no_size)) = Ok (changed_part N f (λ u. v) t)
  operation (Ascribe e) n at es (size_and t no_size) = ascribed N at e t
  operation (Coerce e) n at es (size_and t no_size) = coercion N at e t
  operation (Declared e) n at es (size_and t no_size) = declared N n at e t
  operation (Range stepped e) n at es ts = Ok (Level (At (range_of (is_i64 (element_ty (types n))) n stepped e es)) (of_type (no_size_of n) 0 (element_ty (types n))))
  operation o n at es ts = Ok (plain n)
