-- Each value that a sized term may give is of its sized type, and each report of a size comes from where a `:>` or an `unflatten`
-- stands. It is said here of the terms that use names and names of sizes,
-- primitives, reckon with scalars, make and update arrays, take elements, slices and parts, make ranges,
-- tuples, records and functions, say types, coerce, apply functions, bind names by lets, also those of functions of
-- one type, choose by conditions and take turns in loops. Patterns may take the parts of tuples and records, and name sizes.
use Rattle.std.specs.Prelude.{◌≡◌, ◌⊎◌, ℕ, suc, ◌+◌, ◌^◌, ◌<◌, ◌≤◌, Bool, true, false, List, [], ◌∷◌, map, Some, ℤ}
use Rattle.fut_ast.specs.Sorts.{Text}
use Rattle.fut_sizes.specs.WrittenSizes.{part_of}
use Rattle.fut_sizes.specs.Operations.{value_of, is_literal, slice_size, many, range_of, element_ty, is_i64}
use Rattle.fut_ast.specs.declared.node.End.{End}
use Rattle.fut_ast.specs.declared.node.End.TheVariants as end
use Rattle.fut_scalar.specs.declared.scalar.IntType.{IntType}
use Rattle.fut_scalar.specs.declared.scalar.IntType.TheVariants as int
use Rattle.fut_types.specs.declared.Head.{Head}
use Rattle.fut_types.specs.declared.Head.TheVariants as head
use Rattle.fut_flat.specs.declared.act.Part.{Part}
use Rattle.fut_flat.specs.declared.act.Part.TheVariants as part
use Rattle.fut_flat.specs.declared.prim.Primitive.{Primitive}
use Rattle.fut_flat.specs.declared.prim.Primitive.TheVariants as prim
use Rattle.fut_flat.specs.declared.prim.Ref.TheVariants as ref
use Rattle.fut_flat.specs.Numbers.{pattern_numbers, all_pattern_numbers, own_numbers, numbers, turn_numbers}
use Rattle.fut_flat.specs.Terms.{Integer, Operation, Bound_pattern, Wild_pattern, Tuple_pattern, Record_pattern, Typed_pattern, Patterns, no_pattern, pattern_and, Type_use, Array_type, Unique_type, Tuple_type, Type_terms, no_type, type_and, Tuple_of, Record_of, Array_of, Index, Update, Project, Replace, Ascribe, Coerce, Declared, Range, Size_term, Size_use, Size_const, Size_blank, Use, Strict, Lambda, Apply, Let, If, Loop, Terms, no_term, term_and, Counted, Over, While}
use Rattle.fut_flat.specs.Erased.{FlatTerm, FlatTurns, FlatPattern, FlatType}
use Rattle.fut_scalar.specs.declared.scalar.ScalarType.TheVariants as sort
use Rattle.fut_types.specs.Types.{Ty, Made, Tys, Sub, scalar_ty}
use Rattle.fut_typing.specs.Names.{Names, AreNames}
use Rattle.fut_typing.specs.Typing.{term_types}
use Rattle.fut_value.specs.Data.{Shape}
use Rattle.fut_meaning.specs.Accessors.{count_of}
use Rattle.fut_meaning.specs.Flats.{FlatValue, FlatEnv, FlatTops, flat_look, flat_names}
use Rattle.fut_meaning.specs.Found.{Told, Sizing, is_number}
use Rattle.fut_meaning.specs.Telling.{found}
use Rattle.fut_meaning.specs.Meaning.{plain, Ever}
use Rattle.fut_meaning.specs.Outcomes.{Val, Rel}
use Rattle.fut_meaning.specs.Values.{Task, Evaluate, Call}
use Rattle.sized_types.specs.Standing.{is_known}
use Rattle.sized_types.specs.Sizes.{Free, Const, Name, Unknown, Dim, At, Variable, Size, Level, Built, Fun, Sizes, is_dim, erased, has, no_size, size_and}
use Rattle.fut_sizes.specs.Agreeing.{is_among}
use Rattle.fut_sizes.specs.Scopes.{i64_size, names}
use Rattle.fut_sizes.specs.Sizing.{all_part_names, bind_ids}
use Rattle.fut_sizes.specs.Scoping.{Context}
use Rattle.fut_sizes.specs.Suiting.{Data}
use Rattle.fut_sizes.specs.Rules.{Each_hole, Outside, Inside, Away, Sized}
use Rattle.fut_scalar.specs.declared.place.BindId.{BindId}
use Rattle.fut_scalar.specs.declared.place.Place.{Place}
use Rattle.sized_meaning.specs.There.{There, Term_there}
use Rattle.fut_flat.specs.declared.prim.Ref.{Ref}
use Rattle.sized_meaning.specs.Worth.{Worth, free, no_frames}
use Rattle.sized_meaning.specs.Shapes.{Meant, exactly}
use Rattle.sized_meaning.specs.Finding.{Fields_are, One_shape_each, Well_formed}
use Rattle.sized_meaning.specs.Typed.{Scalar_rule}
use Rattle.sized_meaning.specs.Fits.{Gives, word, Flat_result, Fits}

-- ---- a sizing of a program: the fields of its records are those of the program's names, and its sized types have a form and are,
-- without their sizes, the types of a typing

pub record Sound (N : Names) (types : Sub) (Z : Sizing) : Type 0 where
  pub names : AreNames N
  pub fields : Fields_are N Z.fields
  pub formed : (n : ℕ) → Well_formed Z.fields (Z.size_at n)
  pub typed : (n : ℕ) → erased (Z.size_at n) ≡ types n

-- ---- the meaning in which terms are evaluated: under these definitions, where a typing tells the types of integers, and a sizing
-- sized types

pub record World : Type 0 where
  pub integer_at : ℕ → IntType
  pub sizing : Sizing
  pub tops : FlatTops
  pub tight : Bool
  pub budget : ℕ
  -- where sizes may be reported: each `:>` and each `unflatten` stands at one of these places
  pub is_there : Place → Bool

-- no lambda, whose name could be general
abbrev pub No_lambda : FlatTerm → Type 0
No_lambda (Lambda ps e) = ⊥
No_lambda e = Unit {0}

-- a type of which uses choose no type variable
abbrev pub One_type : (Variable → Bool) → Size → Type 0
One_type is_general t = Each_hole (λ v. is_general v ≡ false) t

-- ---- terms of these forms, whose nodes have the numbers from a number on

module _ (Z : Sizing) where
  -- a name stands at its home
  abbrev pub Name_home : FlatPattern → ℕ → Type 0
  Name_home (Bound_pattern b) q = Z.home b.0 ≡ q
  Name_home (Typed_pattern p t) q = Name_home p q
  Name_home p q = Unit {0}

  -- where a pattern's value is a number, its node is the home of no other name; the names of its parts stand at theirs
  abbrev mutual
    pub Simple : FlatPattern → ℕ → Type 0
    Simple (Bound_pattern b) q = (c : ℕ) → Z.home c ≡ q → is_number (Z.size_at q) ≡ true → c ≡ b.0
    Simple Wild_pattern q = (c : ℕ) → Z.home c ≡ q → is_number (Z.size_at q) ≡ true → ⊥
    Simple (Tuple_pattern ps) q = All_parts ps (1 + q)
    Simple (Record_pattern fs ps) q = All_parts ps (1 + q)
    Simple (Typed_pattern p t) q = Simple p q

    pub All_parts : Patterns Ref BindId → ℕ → Type 0
    All_parts no_pattern q = Unit {0}
    All_parts (pattern_and p ps) q = Name_home p q × Simple p q × All_parts ps (q + pattern_numbers p)

  abbrev pub All_simple : Patterns Ref BindId → ℕ → Type 0
  All_simple no_pattern q = Unit {0}
  All_simple (pattern_and p ps) q = Simple p q × All_simple ps (q + pattern_numbers p)

-- no two of these names are one
abbrev pub Apart_labels : Names → List Text → Type 0
Apart_labels N [] = Unit {0}
Apart_labels N (f ∷ fs) = (is_among (map N.label fs) (N.label f) ≡ false) × Apart_labels N fs

-- its first argument is a function that gives no arrays in the end
abbrev pub Flat_first : Size → Type 0
Flat_first (Fun k f r) = Flat_result f
Flat_first t = Unit {0}

-- a use of a primitive at a type
abbrev pub Plain_use : Primitive → Size → Type 0
Plain_use prim.Map2 t = Flat_first t
Plain_use prim.Map3 t = Flat_first t
Plain_use prim.Map4 t = Flat_first t
Plain_use prim.Map5 t = Flat_first t
Plain_use p t = Unit {0}

-- a written type of data, without records
abbrev mutual
  pub Written_data : FlatType → Type 0
  Written_data (Type_use p args) = Unit {0}
  Written_data (Array_type s e) = Written_data e
  Written_data (Unique_type e) = Written_data e
  Written_data (Tuple_type es) = All_written_data es
  Written_data e = ⊥

  pub All_written_data : Type_terms Ref BindId → Type 0
  All_written_data no_type = Unit {0}
  All_written_data (type_and e es) = Written_data e × All_written_data es

-- a size that is not written, or is a constant or a name
abbrev pub Named_or_constant : Size_term Ref BindId → Type 0
Named_or_constant (Size_const c) = Unit {0}
Named_or_constant (Size_blank b) = Unit {0}
Named_or_constant (Size_use (ref.Bound b)) = Unit {0}
Named_or_constant (Size_use r) = ⊥

-- a written type of the form of data, whose sizes are constants or names
abbrev mutual
  pub Coerces : FlatType → Size → Type 0
  Coerces (Type_use p args) t = Unit {0}
  Coerces (Array_type s e) (Level d t) = Named_or_constant s × Coerces e t
  Coerces (Unique_type e) t = Coerces e t
  Coerces (Tuple_type es) (Built head.Tuple ts) = All_coerce es ts
  Coerces e t = ⊥

  pub All_coerce : Type_terms Ref BindId → Sizes → Type 0
  All_coerce no_type no_size = Unit {0}
  All_coerce (type_and e es) (size_and t ts) = Coerces e t × All_coerce es ts
  All_coerce es ts = ⊥

-- an index for each of the first levels of a type
abbrev pub Indices : List Part → Terms Ref BindId → Size → Type 0
Indices [] es t = Unit {0}
Indices (part.At ∷ ps) (term_and e es) (Level d t) = Indices ps es t
Indices ps es t = ⊥

-- an index or a slice for each of the first levels of a type
abbrev pub Slices : List Part → Terms Ref BindId → Size → Type 0
Slices [] es t = Unit {0}
Slices (part.At ∷ ps) (term_and e es) (Level d t) = Slices ps es t
Slices (part.Backwards ∷ ps) es (Level d t) = Slices ps es t
Slices (part.Slice false false ∷ ps) es (Level d t) = Slices ps es t
Slices (part.Slice false true ∷ ps) (term_and e es) (Level d t) = Slices ps es t
Slices (part.Slice true false ∷ ps) (term_and e es) (Level d t) = Slices ps es t
Slices (part.Slice true true ∷ ps) (term_and e (term_and f es)) (Level d t) = Slices ps es t
Slices ps es t = ⊥

module _ (N : Names) (types : Sub) (W : World) where
  -- the types of a pattern's nodes mention nothing that these nodes make
  module _ (at hi : ℕ) where
    abbrev mutual
      pub Nodes_away : FlatPattern → ℕ → Type 0
      Nodes_away (Bound_pattern b) q = Away N types W.sizing.size_at W.sizing.home at hi (W.sizing.size_at q)
      Nodes_away Wild_pattern q = Away N types W.sizing.size_at W.sizing.home at hi (W.sizing.size_at q)
      Nodes_away (Tuple_pattern ps) q = Away N types W.sizing.size_at W.sizing.home at hi (W.sizing.size_at q) × All_nodes_away ps (1 + q)
      Nodes_away (Record_pattern fs ps) q = Away N types W.sizing.size_at W.sizing.home at hi (W.sizing.size_at q) × All_nodes_away ps (1 + q)
      Nodes_away (Typed_pattern p t) q = Nodes_away p q

      pub All_nodes_away : Patterns Ref BindId → ℕ → Type 0
      All_nodes_away no_pattern q = Unit {0}
      All_nodes_away (pattern_and p ps) q = Nodes_away p q × All_nodes_away ps (q + pattern_numbers p)

    -- sizes that a pattern names are none of its other names
    abbrev pub Sizes_apart : List BindId → FlatPattern → ℕ → Type 0
    Sizes_apart [] p q = Unit {0}
    Sizes_apart (b ∷ bs) p q = ((c : ℕ) → is_among (bind_ids (b ∷ bs)) c ≡ true → is_among (names p) c ≡ false) × Nodes_away p q

  -- where parts of a function's arguments leave, its body knows nothing of the unknowns that stand for them
  abbrev pub Leaves : List ℕ → ℕ → ℕ → Type 0
  Leaves [] lo at = Unit {0}
  Leaves (b ∷ bs) lo at = Away N types W.sizing.size_at W.sizing.home lo (1 + lo) (W.sizing.size_at at)

  -- elements of an array: data, all of one type
  abbrev pub Elements : Ty → Terms Ref BindId → ℕ → Type 0
  Elements t no_term at = Unit {0}
  Elements t (term_and e es) at = Data (W.sizing.size_at at) × (types at ≡ t) × Elements t es (at + numbers e)

  -- without elements their type says all that there is to be known
  abbrev pub Array_parts : ℕ → Terms Ref BindId → ℕ → Type 0
  Array_parts lo no_term at = (t : Size) × (W.sizing.size_at lo ≡ Level (At (Const 0)) t) × (is_known t ≡ true)
  Array_parts lo (term_and e es) at = Elements (types at) (term_and e es) at

  -- a literal of this value, an i64
  abbrev pub Literal : ℕ → FlatTerm → ℕ → Type 0
  Literal c e at = (is_literal c e ≡ true) × (W.sizing.size_at at ≡ i64_size)

  -- an i64 that a size may be: a name's, which is no size's name, or a literal below 2^63
  abbrev pub Size_number : FlatTerm → ℕ → Type 0
  Size_number (Use (ref.Bound b) mark k) at = (W.sizing.size_at at ≡ i64_size) × (W.sizing.is_size b.0 ≡ false)
  Size_number (Strict (Integer c t) mark no_term) at = (W.sizing.size_at at ≡ i64_size) × (c < 2 ^ 63)
  Size_number e at = ⊥

  -- the size of a slice is met at its node, where i is the number of the next level that is kept; or it is the number n of `xs[:n]` and
  -- `xs[0:n]`
  abbrev pub Slice_sizes : ℕ → ℕ → List Part → Terms Ref BindId → ℕ → Type 0
  Slice_sizes lo i (part.At ∷ ps) (term_and e es) at = Slice_sizes lo i ps es (at + numbers e)
  Slice_sizes lo i (part.Backwards ∷ ps) es at = Slice_sizes lo (suc i) ps es at
  Slice_sizes lo i (part.Slice false false ∷ ps) es at = Slice_sizes lo (suc i) ps es at
  Slice_sizes lo i (part.Slice false true ∷ ps) (term_and e es) at = ((value_of lo i e ≡ Unknown lo i) ⊎ Size_number e at) × Slice_sizes lo (suc i) ps es (at + numbers e)
  Slice_sizes lo i (part.Slice true false ∷ ps) (term_and e es) at = Slice_sizes lo (suc i) ps es (at + numbers e)
  Slice_sizes lo i (part.Slice true true ∷ ps) (term_and e (term_and f es)) at = ((slice_size lo i (is_literal 0 e) f ≡ Unknown lo i) ⊎ (Literal 0 e at × Size_number f (at + numbers e))) × Slice_sizes lo (suc i) ps es (at + numbers e + numbers f)
  Slice_sizes lo i ps es at = Unit {0}

  -- of data, which mentions nothing that the node of a slice meets
  abbrev pub Indexed_parts : ℕ → List Part → Terms Ref BindId → ℕ → Type 0
  Indexed_parts lo ps no_term at = ⊥
  Indexed_parts lo ps (term_and e es) at = Data (W.sizing.size_at at) × (Indices ps es (W.sizing.size_at at)
      ⊎ (Slices ps es (W.sizing.size_at at) × Slice_sizes lo 0 ps es (at + numbers e) × Away N types W.sizing.size_at W.sizing.home lo (1 + lo) (W.sizing.size_at at)))

  -- an index for each of the first levels of a type, and data of the type of what is left
  abbrev pub Updated_parts : Terms Ref BindId → ℕ → Size → Type 0
  Updated_parts no_term at t = ⊥
  Updated_parts (term_and v no_term) at t = Data (W.sizing.size_at at) × (types at ≡ erased t)
  Updated_parts (term_and i (term_and j es)) at (Level d t) = Updated_parts (term_and j es) (at + numbers i) t
  Updated_parts (term_and i (term_and j es)) at t = ⊥

  -- a record that has the field, or a tuple that has the part
  abbrev pub Has_part : Text → ℕ → Type 0
  Has_part f at = (h : Head) × (ts : Sizes) × (W.sizing.size_at at ≡ Built h ts) × (many ts < 2 ^ 64) × (u : Size) × (part_of N f (W.sizing.size_at at) ≡ Some u)

  -- a record whose fields are these
  abbrev pub Record_parts : List Text → ℕ → Type 0
  Record_parts fs lo = (n : ℕ) × (us : Tys) × (types lo ≡ Made (head.Record n) us) × Apart_labels N fs × ((l : ℕ) → is_among (N.shapes.fields n) l ≡ true → is_among (map N.label fs) l ≡ true)
      × ((l : ℕ) → is_among (map N.label fs) l ≡ true → is_among (N.shapes.fields n) l ≡ true)

  -- a record
  abbrev pub Is_record : ℕ → Type 0
  Is_record at = (n : ℕ) × (ts : Sizes) × (W.sizing.size_at at ≡ Built (head.Record n) ts)

  -- what is declared to be data of a type, and mentions nothing that the node meets
  abbrev pub Declared_part : FlatType → ℕ → Terms Ref BindId → ℕ → Type 0
  Declared_part e lo (term_and x no_term) at = Written_data e × Data (W.sizing.size_at at) × Away N types W.sizing.size_at W.sizing.home lo (1 + lo) (W.sizing.size_at at)
  Declared_part e lo ts at = ⊥

  -- `0..<n`, `0..1..<n` and `1..2...n`, which have n elements
  abbrev pub Counts_to : Bool → End → Terms Ref BindId → ℕ → Type 0
  Counts_to false end.Below (term_and x (term_and z no_term)) at = Literal 0 x at × Size_number z (at + numbers x)
  Counts_to true end.Below (term_and x (term_and y (term_and z no_term))) at = Literal 0 x at × Literal 1 y (at + numbers x) × Size_number z (at + numbers x + numbers y)
  Counts_to true end.Through (term_and x (term_and y (term_and z no_term))) at = Literal 1 x at × Literal 2 y (at + numbers x) × Size_number z (at + numbers x + numbers y)
  Counts_to stepped e ts at = ⊥

  -- a range of whole numbers, whose size no name and no constant tells, or which counts to a number
  abbrev pub Range_parts : Bool → End → ℕ → Terms Ref BindId → Type 0
  Range_parts stepped e lo ts = (t : IntType) × (element_ty (types lo) ≡ scalar_ty (sort.Int t)) × (types (lo + 1) ≡ scalar_ty (sort.Int t))
      × ((range_of (is_i64 (element_ty (types lo))) lo stepped e ts ≡ Unknown lo 0) ⊎ ((t ≡ int.I64) × Counts_to stepped e ts (lo + 1)))

  -- a function's name, of one type
  abbrev pub Single : FlatPattern → ℕ → Type 0
  Single (Bound_pattern x) lo = (is_number (W.sizing.size_at (1 + lo)) ≡ false) × One_type (λ v. true) (W.sizing.size_at (1 + lo))
  Single p lo = ⊥

  -- no use of a size's name: what that is as a value is not said to be the size
  abbrev pub No_size_use : FlatTerm → Type 0
  No_size_use (Use (ref.Bound b) at k) = W.sizing.is_size b.0 ≡ false
  No_size_use e = Unit {0}

  -- an operation of these, whose parts' nodes stand behind those of its own
  abbrev pub Plain_operation : Operation Ref BindId → ℕ → Terms Ref BindId → Type 0
  Plain_operation Tuple_of lo ts = Unit {0}
  Plain_operation Array_of lo ts = Array_parts lo ts (lo + 1)
  Plain_operation (Index ps) lo ts = Indexed_parts lo ps ts (lo + 1)
  Plain_operation Update lo (term_and x es) = Data (W.sizing.size_at (lo + 1)) × Updated_parts es (lo + 1 + numbers x) (W.sizing.size_at (lo + 1))
  Plain_operation (Record_of fs) lo ts = Record_parts fs lo
  Plain_operation (Replace f) lo (term_and x (term_and y no_term)) = Is_record (lo + 1)
  Plain_operation (Project f) lo (term_and x no_term) = Has_part f (lo + 2)
  Plain_operation (Declared e) lo ts = Declared_part e lo ts (lo + 1)
  Plain_operation (Ascribe e) lo (term_and x no_term) = Unit {0}
  Plain_operation (Coerce e) lo (term_and x no_term) = Data (W.sizing.size_at (lo + 1)) × Coerces e (W.sizing.size_at (lo + 1))
  Plain_operation (Range stepped e) lo (term_and x es) = Range_parts stepped e lo (term_and x es)
  Plain_operation o lo ts = Scalar_rule (W.integer_at lo) o (types lo) (term_types types ts (lo + own_numbers o))

  abbrev mutual
    pub Plain_term : FlatTerm → ℕ → Type 0
    Plain_term (Use (ref.Bound b) at k) lo = W.sizing.is_size b.0 ≡ true → W.sizing.size_at lo ≡ i64_size
    Plain_term (Use (ref.Prim p) at k) lo = Plain_use p (W.sizing.size_at lo)
    Plain_term (Strict o mark ts) lo = Plain_operation o lo ts × Plain_terms ts (lo + own_numbers o)
    Plain_term (Lambda (pattern_and p ps) e) lo = All_simple W.sizing (pattern_and p ps) (1 + lo) × Leaves (all_part_names (pattern_and p ps)) lo (1 + lo + (pattern_numbers p + all_pattern_numbers ps)) × Plain_term e (1 + lo + (pattern_numbers p + all_pattern_numbers ps))
    Plain_term (Apply f e) lo = Plain_term f (1 + lo) × Plain_term e (1 + lo + numbers f) × No_size_use e
    Plain_term (Let b v e) lo = Simple W.sizing b.pattern (1 + lo) × Sizes_apart (1 + lo + pattern_numbers b.pattern + numbers v) (1 + lo + pattern_numbers b.pattern + numbers v + numbers e) b.sizes b.pattern (1 + lo) × (No_lambda v ⊎ Single b.pattern lo)
        × Plain_term v (1 + lo + pattern_numbers b.pattern) × Plain_term e (1 + lo + pattern_numbers b.pattern + numbers v)
    Plain_term (If c a b) lo = Plain_term c (1 + lo) × Plain_term a (1 + lo + numbers c) × Plain_term b (1 + lo + numbers c + numbers a)
    Plain_term (Loop mark sizes p first turns body) lo = Simple W.sizing p (1 + lo)
        × Sizes_apart (1 + lo + pattern_numbers p + numbers first) (1 + lo + pattern_numbers p + numbers first + turn_numbers turns + numbers body) sizes p (1 + lo)
        × Data (W.sizing.size_at (1 + lo + pattern_numbers p + numbers first + turn_numbers turns))
        × Plain_turns turns lo (1 + lo + pattern_numbers p + numbers first) (1 + lo + pattern_numbers p + numbers first + turn_numbers turns) (1 + lo + pattern_numbers p + numbers first + turn_numbers turns + numbers body)
        × Plain_term first (1 + lo + pattern_numbers p) × Plain_term body (1 + lo + pattern_numbers p + numbers first + turn_numbers turns)
    Plain_term e lo = ⊥

    -- what says the turns of a loop, whose nodes are those from ts up to at: a number; or an array, whose type mentions nothing that turns
    -- make; or a condition, of which nothing is asked where sizes may be reported anywhere
    pub Plain_turns : FlatTurns → ℕ → ℕ → ℕ → ℕ → Type 0
    Plain_turns (Counted i m) lo ts at hi = (W.sizing.home i.0 ≡ ts) × Simple W.sizing (Bound_pattern i) ts × ((t : IntType) × (types (1 + ts) ≡ scalar_ty (sort.Int t))) × Plain_term m (1 + ts)
    Plain_turns (Over p e) lo ts at hi = Name_home W.sizing p ts × Simple W.sizing p ts × ((d : Dim) × (t : Size) × (W.sizing.size_at (ts + pattern_numbers p) ≡ Level d t))
        × Away N types W.sizing.size_at W.sizing.home lo (ts + pattern_numbers p) (W.sizing.size_at (ts + pattern_numbers p)) × Away N types W.sizing.size_at W.sizing.home at hi (W.sizing.size_at (ts + pattern_numbers p)) × Plain_term e (ts + pattern_numbers p)
    Plain_turns (While c) lo ts at hi = ((place : Place) → W.is_there place ≡ true) ⊎ Plain_term c ts

    pub Plain_terms : Terms Ref BindId → ℕ → Type 0
    Plain_terms no_term lo = Unit {0}
    Plain_terms (term_and t ts) lo = Plain_term t lo × Plain_terms ts (lo + numbers t)

abbrev pub told : World → Told
told W = record { integer_at = W.integer_at; sizes = Some W.sizing }

abbrev pub FlatTask : Type 0
FlatTask = Task Ref BindId (Unit {0})

abbrev pub means : World → FlatTask → Rel FlatValue
means W t = Ever ((flat_names (told W)).lang W.tops) (plain W.tight) W.budget t

abbrev pub calls : World → FlatValue → FlatValue → Rel FlatValue
calls W f v = means W (Call f v)

module _ (N : Names) (types : Sub) (τ : Meant) (W : World) where
  -- made or bound at none of these nodes
  abbrev pub Beyond : ℕ → ℕ → Free → Type 0
  Beyond lo hi d = Outside N types W.sizing.size_at W.sizing.home lo hi d

  -- a size that the sized type of one of these nodes names
  abbrev pub Named_at : ℕ → ℕ → Free → Type 0
  Named_at lo hi d = (n : ℕ) × (lo ≤ n) × (n < hi) × (has (is_dim (At d)) (W.sizing.size_at n) ≡ true)

  -- the names in scope have values of their sized types, which no node from lo up to hi makes
  pub record Env_fits (lo hi : ℕ) (m : Worth) (G : Context) (env : FlatEnv) : Type 0 where
    pub values : (b : ℕ) (t : Size) → G.sizes b ≡ Some t → (v : FlatValue) → flat_look W.tops env b ≡ Val v → Fits N τ W.sizing W.is_there (calls W) m no_frames t v × (word v ≡ m (Name b))
    pub away : (b : ℕ) (t : Size) → G.sizes b ≡ Some t → Away N types W.sizing.size_at W.sizing.home lo hi t × Beyond lo hi (Name b)
    -- a general name's value is of its type, which is one
    pub general : (b : ℕ) (t : Size) → G.schemes b ≡ Some t → One_type (G.general b) t × Away N types W.sizing.size_at W.sizing.home lo hi t × ((v : FlatValue) → flat_look W.tops env b ≡ Val v → Fits N τ W.sizing W.is_there (calls W) m no_frames t v)
    -- and where that is a number, the name is worth it
    pub general_worth : (b : ℕ) (t : Size) → G.schemes b ≡ Some t → is_number t ≡ true → Beyond lo hi (Name b) × ((v : FlatValue) → flat_look W.tops env b ≡ Val v → word v ≡ m (Name b))
    -- what these nodes bind has no value yet
    pub fresh : (b : ℕ) (v : FlatValue) → Inside N types W.sizing.size_at W.sizing.home lo hi (Name b) → flat_look W.tops env b ≡ Val v → ⊥
    -- what is found under the names is right, and made before
    pub sizes_right : (d : Free) (n : ℤ) → (found W.sizing env).size d ≡ Some n → (count_of n ≡ free m d) × Beyond lo hi d
    pub types_right : (v : Variable) (h : Shape) → (found W.sizing env).type v ≡ Some h → (τ v).shape h
    -- and all is found that is known to be, where one of these nodes names it
    pub finds : (d : Free) → Named_at lo hi d → G.finds d ≡ true → (n : ℤ) × ((found W.sizing env).size d ≡ Some n)
    pub finds_types : (v : Variable) → G.finds_types v ≡ true → (h : Shape) × ((found W.sizing env).type v ≡ Some h)

  -- the value is of this sized type, with what was met at these nodes
  pub record Result (lo hi : ℕ) (m : Worth) (t : Size) (v : FlatValue) : Type 0 where
    pub now : Worth
    pub old : (d : Free) → Beyond lo hi d → now d ≡ m d
    pub fits : Fits N τ W.sizing W.is_there (calls W) now no_frames t v

abbrev pub ValuesHaveTheirSizes : Type 0
ValuesHaveTheirSizes = (N : Names) (types : Sub) (τ : Variable → Shape) (W : World) (t : FlatTerm) (lo : ℕ) (G : Context) (env : FlatEnv) (m : Worth)
    → Sound N types W.sizing → One_shape_each τ → Plain_term N types W t lo → Term_there W.is_there t → Sized N types W.sizing.size_at W.sizing.home t lo G → Env_fits N types (exactly τ) W lo (lo + numbers t) m G env
    → Gives (There W.is_there) (Result N types (exactly τ) W lo (lo + numbers t) m (W.sizing.size_at lo)) (means W (Evaluate env lo t))
