-- Functions removed: an application of a known function becomes the body, and each operation on data a step with a new name.
-- A primitive on arrays keeps its function as a block, which is unfolded once, on new names. Steps stand in the order of
-- evaluation. New names only go upward: `n` is the next that may be taken, before and behind (Hovgaard, Henriksen and Elsman,
-- "High-performance defunctionalisation in Futhark").
use Rattle.std.specs.Prelude.{◌≡◌, ℕ, zero, suc, ◌+◌, ◌≤◌, ◌++◌, List, [], ◌∷◌, map, Bool, true, false, Option, Some, None, pos, length, nat_lt}
use Rattle.std.specs.Str.{bytes_eq}
use Rattle.fut_scalar.specs.Integers.{width_of}
use Rattle.fut_scalar.specs.declared.operator.BinOp.{BinOp}
use Rattle.fut_scalar.specs.declared.operator.BinOp.TheVariants as binary
use Rattle.fut_scalar.specs.declared.operator.UnOp.TheVariants as unary
use Rattle.fut_scalar.specs.declared.place.BindId.{BindId}
use Rattle.fut_scalar.specs.declared.place.Place.{Place}
use Rattle.fut_scalar.specs.declared.scalar.IntType.{IntType}
use Rattle.fut_scalar.specs.declared.scalar.IntType.TheVariants.{I32}
use Rattle.fut_scalar.specs.declared.scalar.Scalar.{Scalar}
use Rattle.fut_scalar.specs.declared.scalar.Scalar.TheVariants as scalar
use Rattle.fut_scalar.specs.declared.scalar.ScalarType.{ScalarType}
use Rattle.fut_ast.specs.Sorts.{Text}
use Rattle.fut_flat.specs.declared.prim.Primitive.{Primitive}
use Rattle.fut_flat.specs.declared.prim.Primitive.TheVariants as prim
use Rattle.fut_flat.specs.declared.prim.Ref.{Ref}
use Rattle.fut_flat.specs.declared.prim.Ref.TheVariants as ref
use Rattle.fut_flat.specs.Erased.{FlatType, FlatTerm, FlatPattern}
use Rattle.fut_flat.specs.Numbers.{pattern_numbers, all_pattern_numbers, own_numbers, numbers}
use Rattle.fut_flat.specs.Terms.{Bound_pattern, Wild_pattern, Tuple_pattern, Record_pattern, Typed_pattern, Patterns, no_pattern, pattern_and, Operation, Integer, Truth, Tuple_of, Record_of, Binary, Negate, Complement, Project, Replace, Ascribe, Coerce, Declared, Assert, Binding, Use, Strict, Lambda, Apply, Let, If, Loop, Terms, no_term, term_and, Counted, Over, While}
use Rattle.fut_meaning.specs.Arrays.{Making, Make_array}
use Rattle.fut_meaning.specs.Datums.{takes}
use Rattle.fut_meaning.specs.Found.{Told, Sizing}
use Rattle.fut_meaning.specs.Knowns.{with_some}
use Rattle.fut_meaning.specs.Meaning.{first_node}
use Rattle.fut_meaning.specs.Operations.{named_values, parameters_of, arity, making, is_of_scalars}
use Rattle.fut_meaning.specs.Operators.{integer, lowest, highest}
use Rattle.fut_blocks.specs.declared.block.Atom.{Atom}
use Rattle.fut_blocks.specs.declared.block.Atom.TheVariants as atom
use Rattle.fut_blocks.specs.declared.block.Operation.TheVariants as operation
use Rattle.fut_blocks.specs.Plain.{Action, Operate, Give, lets}
use Rattle.fut_blocks.specs.Plain as act
use Rattle.fut_blocks.specs.Rows.{Row, Unknown_row, Extent, Size_test}
use Rattle.fut_blocks.specs.Meaning.{fitted}
use Rattle.fut_blocks.specs.Numbered.{Upward}
use Rattle.unfold.specs.Knowns.{Known, Scalar_known, Tuple_known, Record_known, Function_known, Primitive_known, Knowns, no_known, known_and, Known_fields, no_known_field, known_field_and, Scope, name_and, Tops, listed, knowns, find, fields, replaced, part, record_parts}
use Rattle.unfold.specs.Shapes.{Shape, Laid}
use Rattle.unfold.specs.Telling.{known_row, literal_row, function_row, test_at, size_used, enter}

-- steps: new names for what an act gives
abbrev pub Bindings : Type 0
Bindings = List (List ℕ × Action)

abbrev pub step : List ℕ → Action → Bindings
step xs a = (xs, a) ∷ []

abbrev pub names : List ℕ → List Atom
names = map atom.Name

abbrev pub named : ℕ → Known
named x = Scalar_known (atom.Name x)

abbrev pub constant : Scalar → Known
constant c = Scalar_known (atom.Constant c)

-- ---- patterns

-- The names of a pattern, whose node has a number, with what is known of the parts; each pattern inside is entered with its part.
-- A tuple that is one component is taken apart by a step.
mutual
  pub data Binds (sizes : Option Sizing) : ℕ → FlatPattern → Known → Scope → ℕ → Bindings → Scope → ℕ → Type 0 where
    b_bound : {q : ℕ} {b : BindId} {s : Known} {sc : Scope} {n : ℕ} → Binds sizes q (Bound_pattern b) s sc n [] (name_and b s (enter sizes q s sc)) n
    b_wild : {q : ℕ} {s : Known} {sc : Scope} {n : ℕ} → Binds sizes q Wild_pattern s sc n [] (enter sizes q s sc) n
    b_tuple : {q : ℕ} {ps : Patterns Ref BindId} {ss : Knowns} {sc inner : Scope} {n m : ℕ} {bs : Bindings} → All_bind sizes (1 + q) ps (listed ss) (enter sizes q (Tuple_known ss) sc) n bs inner m → Binds sizes q (Tuple_pattern ps) (Tuple_known ss) sc n bs inner m
    b_parts : {q : ℕ} {ps : Patterns Ref BindId} {u : Atom} {sc inner : Scope} {n k m : ℕ} {bs : Bindings} (xs : List ℕ) → Upward n xs k → All_bind sizes (1 + q) ps (map named xs) (enter sizes q (Scalar_known u) sc) k bs inner m → Binds sizes q (Tuple_pattern ps) (Scalar_known u) sc n (step xs (Operate (operation.Parts u)) ++ bs) inner m
    b_record : {q : ℕ} {fs : List Text} {ps : Patterns Ref BindId} {known : Known_fields} {ss : List Known} {sc inner : Scope} {n m : ℕ} {bs : Bindings} → record_parts fs known ≡ Some ss → All_bind sizes (1 + q) ps ss (enter sizes q (Record_known known) sc) n bs inner m → Binds sizes q (Record_pattern fs ps) (Record_known known) sc n bs inner m
    b_fields : {q : ℕ} {fs : List Text} {ps : Patterns Ref BindId} {u : Atom} {sc inner : Scope} {n k m : ℕ} {bs : Bindings} (xs : List ℕ) → Upward n xs k → length xs ≡ length fs → All_bind sizes (1 + q) ps (map named xs) (enter sizes q (Scalar_known u) sc) k bs inner m → Binds sizes q (Record_pattern fs ps) (Scalar_known u) sc n (step xs (act.Read (act.Fields_at fs) (u ∷ [])) ++ bs) inner m
    b_typed : {q : ℕ} {p : FlatPattern} {t : FlatType} {s : Known} {sc inner : Scope} {n m : ℕ} {bs : Bindings} → Binds sizes q p s sc n bs inner m → Binds sizes q (Typed_pattern p t) s sc n bs inner m

  pub data All_bind (sizes : Option Sizing) : ℕ → Patterns Ref BindId → List Known → Scope → ℕ → Bindings → Scope → ℕ → Type 0 where
    b_none : {q : ℕ} {sc : Scope} {n : ℕ} → All_bind sizes q no_pattern [] sc n [] sc n
    b_more : {q : ℕ} {p : FlatPattern} {ps : Patterns Ref BindId} {s : Known} {ss : List Known} {sc sc' inner : Scope} {n k m : ℕ} {bs cs : Bindings} → Binds sizes q p s sc n bs sc' k → All_bind sizes (q + pattern_numbers p) ps ss sc' k cs inner m → All_bind sizes q (pattern_and p ps) (s ∷ ss) sc n (bs ++ cs) inner m

-- ---- data as one component

abbrev pub field_names : Known_fields → List Text
field_names no_known_field = []
field_names (known_field_and f s fs) = f ∷ field_names fs

abbrev pub field_knowns : Known_fields → List Known
field_knowns no_known_field = []
field_knowns (known_field_and f s fs) = s ∷ field_knowns fs

-- data as one component: its parts in a tuple or a record
mutual
  pub data Packs : Known → ℕ → Bindings → Atom → ℕ → Type 0 where
    p_atom : {n : ℕ} {u : Atom} → Packs (Scalar_known u) n [] u n
    p_tuple : {n m x : ℕ} {ss : Knowns} {bs : Bindings} {us : List Atom} → Packs_all (listed ss) n bs us m → m ≤ x → Packs (Tuple_known ss) n (bs ++ step (x ∷ []) (act.Tuple us)) (atom.Name x) (suc x)
    p_record : {n m x : ℕ} {fs : Known_fields} {bs : Bindings} {us : List Atom} → Packs_all (field_knowns fs) n bs us m → m ≤ x → Packs (Record_known fs) n (bs ++ step (x ∷ []) (act.Read (act.Record_with (field_names fs)) us)) (atom.Name x) (suc x)

  pub data Packs_all : List Known → ℕ → Bindings → List Atom → ℕ → Type 0 where
    p_none : {n : ℕ} → Packs_all [] n [] [] n
    p_more : {n k m : ℕ} {s : Known} {ss : List Known} {bs cs : Bindings} {u : Atom} {us : List Atom} → Packs s n bs u k → Packs_all ss k cs us m → Packs_all (s ∷ ss) n (bs ++ cs) (u ∷ us) m

-- ---- operations

-- whether both truth values hold
abbrev pub both_hold : Atom → Atom → Action
both_hold u w = act.If u (Give (w ∷ [])) (Give (atom.Constant (scalar.Bool false) ∷ []))

-- `==`: the comparisons of all components, each of which has to hold; or one of both as whole data
mutual
  pub data Equals (at : Place) : Known → Known → ℕ → Bindings → Atom → ℕ → Type 0 where
    e_scalars : {u w : Atom} {n x : ℕ} → n ≤ x → Equals at (Scalar_known u) (Scalar_known w) n (step (x ∷ []) (Operate (operation.Binary binary.Eq at u w))) (atom.Name x) (suc x)
    -- data of other forms, each as one component
    e_packed : {s t : Known} {u w : Atom} {n m x : ℕ} {bs : Bindings} → Packs_all (s ∷ t ∷ []) n bs (u ∷ w ∷ []) m → m ≤ x → Equals at s t n (bs ++ step (x ∷ []) (Operate (operation.Binary binary.Eq at u w))) (atom.Name x) (suc x)
    e_tuples : {ss us : Knowns} {n n' : ℕ} {bs : Bindings} {u : Atom} → All_equal at ss us n bs u n' → Equals at (Tuple_known ss) (Tuple_known us) n bs u n'
    e_records : {fs gs : Known_fields} {n n' : ℕ} {bs : Bindings} {u : Atom} → Fields_equal at fs gs n bs u n' → Equals at (Record_known fs) (Record_known gs) n bs u n'

  pub data All_equal (at : Place) : Knowns → Knowns → ℕ → Bindings → Atom → ℕ → Type 0 where
    e_none : {n : ℕ} → All_equal at no_known no_known n [] (atom.Constant (scalar.Bool true)) n
    e_more : {s t : Known} {ss ts : Knowns} {n n1 n2 x : ℕ} {bs cs : Bindings} {u w : Atom} → Equals at s t n bs u n1 → All_equal at ss ts n1 cs w n2 → n2 ≤ x → All_equal at (known_and s ss) (known_and t ts) n (bs ++ (cs ++ step (x ∷ []) (both_hold u w))) (atom.Name x) (suc x)

  pub data Fields_equal (at : Place) : Known_fields → Known_fields → ℕ → Bindings → Atom → ℕ → Type 0 where
    e_no_field : {n : ℕ} → Fields_equal at no_known_field no_known_field n [] (atom.Constant (scalar.Bool true)) n
    e_field : {f g : Text} {s t : Known} {fs gs : Known_fields} {n n1 n2 x : ℕ} {bs cs : Bindings} {u w : Atom} → bytes_eq f g ≡ true → Equals at s t n bs u n1 → Fields_equal at fs gs n1 cs w n2 → n2 ≤ x → Fields_equal at (known_field_and f s fs) (known_field_and g t gs) n (bs ++ (cs ++ step (x ∷ []) (both_hold u w))) (atom.Name x) (suc x)

-- the type of a literal: that of its suffix, or else the one that is told
abbrev pub literal_type : IntType → Option IntType → IntType
literal_type t None = t
literal_type t (Some u) = u

-- of the arguments of a primitive those that are data, where its parameters are told, and the one that is a function
abbrev pub data_known : List ℕ → List Known → Option (List Known)
data_known [] [] = Some []
data_known [] (s ∷ ss) = None
data_known (k ∷ ks) [] = None
data_known (zero ∷ ks) (s ∷ ss) = with_some (data_known ks ss) (λ us. Some (s ∷ us))
data_known (suc k ∷ ks) (s ∷ ss) = data_known ks ss

abbrev pub function_known : List ℕ → List Known → Known → Known
function_known [] ss other = other
function_known (k ∷ ks) [] other = other
function_known (zero ∷ ks) (s ∷ ss) other = function_known ks ss other
function_known (suc k ∷ ks) (s ∷ ss) other = s

-- the test of `:>`, where there is a sizing: a step without names
abbrev pub tested : Option Size_test → Place → Known → Bindings
tested None at s = []
tested (Some test) at s = step [] (act.Coerce at test (known_row s))

-- of what is made, an array literal alone may be without rows
abbrev pub made_row : Row → Making → Row
made_row row Make_array = row
made_row row k = Unknown_row

-- An operation at its mark, where `t` is the type of an integer without a suffix; of what shape the rows of an array literal are
-- where it has none, and which sizes data has to have, is told.
pub data Operates (row : Row) (test : Option Size_test) (t : IntType) : Operation Ref BindId → Place → List Known → ℕ → Bindings → Known → ℕ → Type 0 where
  o_integer : {m n : ℕ} {suffix : Option IntType} {at : Place} {c : Scalar} → fitted c ≡ integer (literal_type t suffix) (pos m) → Operates row test t (Integer m suffix) at [] n [] (constant c) n
  o_truth : {b : Bool} {n : ℕ} {at : Place} → Operates row test t (Truth b) at [] n [] (constant (scalar.Bool b)) n
  o_tuple : {n : ℕ} {at : Place} {ss : List Known} → Operates row test t Tuple_of at ss n [] (Tuple_known (knowns ss)) n
  o_record : {n : ℕ} {at : Place} {ss : List Known} {fs : List Text} {known : List (Text × Known)} → named_values fs ss ≡ Some known → Operates row test t (Record_of fs) at ss n [] (Record_known (fields known)) n
  o_binary : {op : BinOp} {n x : ℕ} {at : Place} {u w : Atom} → n ≤ x → Operates row test t (Binary op) at (Scalar_known u ∷ Scalar_known w ∷ []) n (step (x ∷ []) (Operate (operation.Binary op at u w))) (named x) (suc x)
  o_equal : {n n' : ℕ} {at : Place} {s s' : Known} {bs : Bindings} {u : Atom} → Equals at s s' n bs u n' → Operates row test t (Binary binary.Eq) at (s ∷ s' ∷ []) n bs (Scalar_known u) n'
  o_unequal : {n n' x : ℕ} {at : Place} {s s' : Known} {bs : Bindings} {u : Atom} → Equals at s s' n bs u n' → n' ≤ x → Operates row test t (Binary binary.Ne) at (s ∷ s' ∷ []) n (bs ++ step (x ∷ []) (Operate (operation.Unary unary.Not u))) (named x) (suc x)
  o_negate : {n x : ℕ} {at : Place} {u : Atom} → n ≤ x → Operates row test t Negate at (Scalar_known u ∷ []) n (step (x ∷ []) (Operate (operation.Unary unary.Neg u))) (named x) (suc x)
  o_complement : {n x : ℕ} {at : Place} {u : Atom} → n ≤ x → Operates row test t Complement at (Scalar_known u ∷ []) n (step (x ∷ []) (Operate (operation.Unary unary.Not u))) (named x) (suc x)
  o_project : {n : ℕ} {at : Place} {f : Text} {s s' : Known} → part f s ≡ Some s' → Operates row test t (Project f) at (s ∷ []) n [] s' n
  -- of one component
  o_part : {n x : ℕ} {at : Place} {f : Text} {u : Atom} → n ≤ x → Operates row test t (Project f) at (Scalar_known u ∷ []) n (step (x ∷ []) (act.Read (act.Part_at f) (u ∷ []))) (named x) (suc x)
  o_changed : {n m x : ℕ} {at : Place} {f : Text} {u w : Atom} {s : Known} {bs : Bindings} → Packs s n bs w m → m ≤ x → Operates row test t (Replace f) at (Scalar_known u ∷ s ∷ []) n (bs ++ step (x ∷ []) (act.Read (act.Replace_at f) (u ∷ w ∷ []))) (named x) (suc x)
  o_replace : {n : ℕ} {at : Place} {f : Text} {fs : Known_fields} {s : Known} → Operates row test t (Replace f) at (Record_known fs ∷ s ∷ []) n [] (Record_known (replaced f s fs)) n
  o_ascribe : {n : ℕ} {at : Place} {u : FlatType} {s : Known} → Operates row test t (Ascribe u) at (s ∷ []) n [] s n
  o_coerce : {n : ℕ} {at : Place} {u : FlatType} {s : Known} → Operates row test t (Coerce u) at (s ∷ []) n (tested test at s) s n
  o_declared : {n : ℕ} {at : Place} {u : FlatType} {s : Known} → Operates row test t (Declared u) at (s ∷ []) n [] s n
  -- one that makes arrays or takes parts of them
  o_made : {n m x : ℕ} {o : Operation Ref BindId} {k : Making} {at : Place} {ss : List Known} {bs : Bindings} {us : List Atom} → making o ≡ Some k → Packs_all ss n bs us m → m ≤ x → Operates row test t o at ss n (bs ++ step (x ∷ []) (act.Make (made_row row k) k at us)) (named x) (suc x)
  -- the condition is asserted by a step without names
  o_assert : {n : ℕ} {at : Place} {u : Atom} → Operates row test t Assert at (Scalar_known u ∷ []) n (step [] (Operate (operation.Assert at u))) (Scalar_known u) n

-- the numbers of a type
abbrev pub constant_of : Primitive → Option Scalar
constant_of (prim.Lowest t) = Some (scalar.Int t (lowest t))
constant_of (prim.Highest t) = Some (scalar.Int t (highest t))
constant_of (prim.NumBits t) = Some (scalar.Int I32 (width_of t))
constant_of p = None

-- a primitive at its place with all its arguments
pub data Primitive_operates : Primitive → Place → List Known → ℕ → Bindings → Known → ℕ → Type 0 where
  p_convert : {to from : ScalarType} {n x : ℕ} {at : Place} {u : Atom} → n ≤ x → Primitive_operates (prim.Convert to from) at (Scalar_known u ∷ []) n (step (x ∷ []) (Operate (operation.Convert to u))) (named x) (suc x)
  p_min : {t : IntType} {n x : ℕ} {at : Place} {u w : Atom} → n ≤ x → Primitive_operates (prim.Min t) at (Scalar_known u ∷ Scalar_known w ∷ []) n (step (x ∷ []) (Operate (operation.Binary binary.Min at u w))) (named x) (suc x)
  p_max : {t : IntType} {n x : ℕ} {at : Place} {u w : Atom} → n ≤ x → Primitive_operates (prim.Max t) at (Scalar_known u ∷ Scalar_known w ∷ []) n (step (x ∷ []) (Operate (operation.Binary binary.Max at u w))) (named x) (suc x)
  p_abs : {t : IntType} {n x : ℕ} {at : Place} {u : Atom} → n ≤ x → Primitive_operates (prim.Abs t) at (Scalar_known u ∷ []) n (step (x ∷ []) (Operate (operation.Unary unary.Abs u))) (named x) (suc x)
  p_popc : {t : IntType} {n x : ℕ} {at : Place} {u : Atom} → n ≤ x → Primitive_operates (prim.Popc t) at (Scalar_known u ∷ []) n (step (x ∷ []) (Operate (operation.Unary unary.Popc u))) (named x) (suc x)

-- ---- terms

-- Under the names of a scope a term, whose nodes are numbered from a number on, unfolds to steps and what is then known of its
-- value. What a typing tells, and a sizing where there is one, and what is known of the definitions are told.
mutual
  pub data Unfolds (told : Told) (tops : Tops) : Scope → ℕ → FlatTerm → ℕ → Bindings → Known → ℕ → Type 0 where
    u_name : {sc : Scope} {lo k n : ℕ} {b : BindId} {at : Place} {s : Known} → size_used told.sizes sc b.0 ≡ None → find tops sc b.0 ≡ Some s → Unfolds told tops sc lo (Use (ref.Bound b) at k) n [] s n
    -- a size as an expression
    u_size : {sc : Scope} {lo k n x : ℕ} {b : BindId} {at : Place} {e : Extent} → size_used told.sizes sc b.0 ≡ Some e → n ≤ x → Unfolds told tops sc lo (Use (ref.Bound b) at k) n (step (x ∷ []) (act.Size_of e)) (named x) (suc x)
    u_primitive : {sc : Scope} {lo k n : ℕ} {p : Primitive} {at : Place} → constant_of p ≡ None → Unfolds told tops sc lo (Use (ref.Prim p) at k) n [] (Primitive_known p at no_known) n
    u_constant : {sc : Scope} {lo k n : ℕ} {p : Primitive} {at : Place} {c : Scalar} → constant_of p ≡ Some (fitted c) → Unfolds told tops sc lo (Use (ref.Prim p) at k) n [] (constant c) n
    u_strict : {sc : Scope} {lo n n1 n2 : ℕ} {o : Operation Ref BindId} {mark : Place} {ts : Terms Ref BindId} {bs cs : Bindings} {ss : List Known} {s : Known} → Unfold_all told tops sc (lo + own_numbers o) ts n bs ss n1 → Operates (literal_row told.sizes sc lo) (test_at told.sizes sc lo) (told.integer_at lo) o mark ss n1 cs s n2 → Unfolds told tops sc lo (Strict o mark ts) n (bs ++ cs) s n2
    u_lambda : {sc : Scope} {lo n : ℕ} {ps : Patterns Ref BindId} {e : FlatTerm} → Unfolds told tops sc lo (Lambda ps e) n [] (Function_known ps e (1 + lo + all_pattern_numbers ps) sc) n
    u_apply : {sc : Scope} {lo n n1 n2 n3 : ℕ} {f e : FlatTerm} {bs cs ds : Bindings} {h s s' : Known} → Unfolds told tops sc (1 + lo) f n bs h n1 → Unfolds told tops sc (1 + lo + numbers f) e n1 cs s n2 → Applies told tops h s n2 ds s' n3 → Unfolds told tops sc lo (Apply f e) n (bs ++ (cs ++ ds)) s' n3
    u_let : {sc inner : Scope} {lo n n1 n2 n3 : ℕ} {b : Binding Ref BindId} {v e : FlatTerm} {bs cs ds : Bindings} {s s' : Known} → Unfolds told tops sc (1 + lo + pattern_numbers b.pattern) v n bs s n1 → Binds told.sizes (1 + lo) b.pattern s sc n1 cs inner n2 → Unfolds told tops inner (1 + lo + pattern_numbers b.pattern + numbers v) e n2 ds s' n3 → Unfolds told tops sc lo (Let b v e) n (bs ++ (cs ++ ds)) s' n3
    -- what is known may be made one component, as where two branches meet that have not the same shape
    u_packed : {sc : Scope} {lo n n1 n2 : ℕ} {t : FlatTerm} {bs cs : Bindings} {s : Known} {u : Atom} → Unfolds told tops sc lo t n bs s n1 → Packs s n1 cs u n2 → Unfolds told tops sc lo t n (bs ++ cs) (Scalar_known u) n2
    -- both branches give data of one shape, whose components get new names
    u_if : {sc : Scope} {lo n n1 n2 n3 n4 : ℕ} {c a b : FlatTerm} {bs cs ds : Bindings} {u : Atom} {h : Shape} {s s' t : Known} {us ws : List Atom} (xs : List ℕ) → Unfolds told tops sc (1 + lo) c n bs (Scalar_known u) n1 → Unfolds told tops sc (1 + lo + numbers c) a n1 cs s n2 → Laid h s us [] → Unfolds told tops sc (1 + lo + numbers c + numbers a) b n2 ds s' n3 → Laid h s' ws [] → Upward n3 xs n4 → Laid h t (names xs) [] → Unfolds told tops sc lo (If c a b) n (bs ++ step xs (act.If u (lets cs us) (lets ds ws))) t n4
    -- each turn is unfolded once, on new names `ps` for the components of its value and `y` for the turn, and gives data of the same shape
    u_counted : {sc inner : Scope} {lo n n1 n2 n3 n4 n5 n6 y : ℕ} {mark : Place} {sizes : List BindId} {p : FlatPattern} {i : BindId} {first count body : FlatTerm} {bs cs es ds : Bindings} {u : Atom} {h : Shape} {s r s' t : Known} {us ws : List Atom} (ps xs : List ℕ) → Unfolds told tops sc (1 + lo + pattern_numbers p) first n bs s n1 → Laid h s us [] → Unfolds told tops sc (1 + (1 + lo + pattern_numbers p + numbers first)) count n1 cs (Scalar_known u) n2 → Upward n2 ps n3 → Laid h r (names ps) [] → n3 ≤ y → Binds told.sizes (1 + lo) p r sc (suc y) es inner n4 → Unfolds told tops (name_and i (named y) (enter told.sizes (1 + lo + pattern_numbers p + numbers first) (named y) inner)) (1 + lo + pattern_numbers p + numbers first + (1 + numbers count)) body n4 ds s' n5 → Laid h s' ws [] → Upward n5 xs n6 → Laid h t (names xs) [] → Unfolds told tops sc lo (Loop mark sizes p first (Counted i count) body) n (bs ++ (cs ++ step xs (act.For ps us y u (lets (es ++ ds) ws)))) t n6
    -- a turn for each row, which has the new name `y`
    u_over : {sc inside inner : Scope} {lo n n1 n2 n3 n4 n5 n6 n7 y : ℕ} {mark : Place} {sizes : List BindId} {p q : FlatPattern} {first rows body : FlatTerm} {bs cs es es' ds : Bindings} {u : Atom} {h : Shape} {s r s' t : Known} {us ws : List Atom} (ps xs : List ℕ) → Unfolds told tops sc (1 + lo + pattern_numbers p) first n bs s n1 → Laid h s us [] → Unfolds told tops sc (1 + lo + pattern_numbers p + numbers first + pattern_numbers q) rows n1 cs (Scalar_known u) n2 → Upward n2 ps n3 → Laid h r (names ps) [] → n3 ≤ y → Binds told.sizes (1 + lo) p r sc (suc y) es inside n4 → Binds told.sizes (1 + lo + pattern_numbers p + numbers first) q (named y) inside n4 es' inner n5 → Unfolds told tops inner (1 + lo + pattern_numbers p + numbers first + (pattern_numbers q + numbers rows)) body n5 ds s' n6 → Laid h s' ws [] → Upward n6 xs n7 → Laid h t (names xs) [] → Unfolds told tops sc lo (Loop mark sizes p first (Over q rows) body) n (bs ++ (cs ++ step xs (act.Over ps us y u (lets (es ++ (es' ++ ds)) ws)))) t n7
    u_while : {sc inner inner' : Scope} {lo n n1 n2 n3 n4 n5 n6 n7 : ℕ} {mark : Place} {sizes : List BindId} {p : FlatPattern} {first test body : FlatTerm} {bs es cs es' ds : Bindings} {u : Atom} {h : Shape} {s r s' t : Known} {us ws : List Atom} (ps xs : List ℕ) → Unfolds told tops sc (1 + lo + pattern_numbers p) first n bs s n1 → Laid h s us [] → Upward n1 ps n2 → Laid h r (names ps) [] → Binds told.sizes (1 + lo) p r sc n2 es inner n3 → Unfolds told tops inner (1 + lo + pattern_numbers p + numbers first) test n3 cs (Scalar_known u) n4 → Binds told.sizes (1 + lo) p r sc n4 es' inner' n5 → Unfolds told tops inner' (1 + lo + pattern_numbers p + numbers first + numbers test) body n5 ds s' n6 → Laid h s' ws [] → Upward n6 xs n7 → Laid h t (names xs) [] → Unfolds told tops sc lo (Loop mark sizes p first (While test) body) n (bs ++ step xs (act.While mark ps us (lets (es ++ cs) (u ∷ [])) (lets (es' ++ ds) ws))) t n7

  -- terms from left to right
  pub data Unfold_all (told : Told) (tops : Tops) : Scope → ℕ → Terms Ref BindId → ℕ → Bindings → List Known → ℕ → Type 0 where
    u_none : {sc : Scope} {lo n : ℕ} → Unfold_all told tops sc lo no_term n [] [] n
    u_more : {sc : Scope} {lo n n1 n2 : ℕ} {t : FlatTerm} {ts : Terms Ref BindId} {bs cs : Bindings} {s : Known} {ss : List Known} → Unfolds told tops sc lo t n bs s n1 → Unfold_all told tops sc (lo + numbers t) ts n1 cs ss n2 → Unfold_all told tops sc lo (term_and t ts) n (bs ++ cs) (s ∷ ss) n2

  -- a known function applied to an argument: its body is unfolded where there is an argument for each parameter
  pub data Applies (told : Told) (tops : Tops) : Known → Known → ℕ → Bindings → Known → ℕ → Type 0 where
    a_body : {sc inner : Scope} {p : FlatPattern} {e : FlatTerm} {lo n n1 n2 : ℕ} {bs cs : Bindings} {s s' : Known} → Binds told.sizes (first_node (pattern_and p no_pattern) lo) p s sc n bs inner n1 → Unfolds told tops inner lo e n1 cs s' n2 → Applies told tops (Function_known (pattern_and p no_pattern) e lo sc) s n (bs ++ cs) s' n2
    a_waits : {sc inner : Scope} {p q : FlatPattern} {ps : Patterns Ref BindId} {e : FlatTerm} {lo n m : ℕ} {bs : Bindings} {s : Known} → Binds told.sizes (first_node (pattern_and p (pattern_and q ps)) lo) p s sc n bs inner m → Applies told tops (Function_known (pattern_and p (pattern_and q ps)) e lo sc) s n bs (Function_known (pattern_and q ps) e lo inner) m
    a_primitive_waits : {p : Primitive} {at : Place} {ss : Knowns} {s : Known} {n : ℕ} → nat_lt (length (listed ss ++ s ∷ [])) (arity p) ≡ true → Applies told tops (Primitive_known p at ss) s n [] (Primitive_known p at (knowns (listed ss ++ s ∷ []))) n
    a_primitive : {p : Primitive} {at : Place} {ss : Knowns} {s s' : Known} {n n' : ℕ} {bs : Bindings} → nat_lt (length (listed ss ++ s ∷ [])) (arity p) ≡ false → is_of_scalars p ≡ true → Primitive_operates p at (listed ss ++ s ∷ []) n bs s' n' → Applies told tops (Primitive_known p at ss) s n bs s' n'
    -- a primitive on arrays: its data as components, and its function once, on new names
    a_job : {p : Primitive} {at : Place} {ss : Knowns} {s r : Known} {us : List Known} {n n1 n2 n3 n4 x : ℕ} {bs cs ds : Bindings} {ws : List Atom} {w : Atom} (xs : List ℕ) → nat_lt (length (listed ss ++ s ∷ [])) (arity p) ≡ false → is_of_scalars p ≡ false → data_known (parameters_of p) (listed ss ++ s ∷ []) ≡ Some us → Packs_all us n bs ws n1
        → Upward n1 xs n2 → length xs ≡ takes (parameters_of p) → Applies_all told tops (map named xs) (function_known (parameters_of p) (listed ss ++ s ∷ []) (Tuple_known no_known)) n2 cs r n3 → Packs r n3 ds w n4 → n4 ≤ x
        → Applies told tops (Primitive_known p at ss) s n (bs ++ step (x ∷ []) (act.Job (function_row told.sizes p (function_known (parameters_of p) (listed ss ++ s ∷ []) (Tuple_known no_known)) ws) p at ws xs (lets (cs ++ ds) (w ∷ [])))) (named x) (suc x)

  -- a function applied to arguments, one after the other
  pub data Applies_all (told : Told) (tops : Tops) : List Known → Known → ℕ → Bindings → Known → ℕ → Type 0 where
    a_none : {s : Known} {n : ℕ} → Applies_all told tops [] s n [] s n
    a_more : {s f g s' : Known} {ss : List Known} {n n1 n2 : ℕ} {bs cs : Bindings} → Applies told tops f s n bs g n1 → Applies_all told tops ss g n1 cs s' n2 → Applies_all told tops (s ∷ ss) f n (bs ++ cs) s' n2
