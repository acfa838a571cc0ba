-- The terms of which the law speaks: names, operations, functions of data, lets of data and of functions, branches, loops and
-- applications of names and primitives to arguments of data; a primitive is applied to all that it takes, and one of them may be a
-- function whose parameters have no arrays, and which gives data, or the first of them a lambda, a name or an application of
-- this kind whose function takes and gives data; a name may be applied to fewer, and a reduction to all but its array. Programs are of functions, numbers and
-- other data whose sizes are told. A node that binds a name is the home of that name.
use Rattle.std.specs.Prelude.{◌≡◌, ◌⊎◌, ℕ, ◌+◌, Bool, true, false, List, [], ◌∷◌, None}
use Rattle.fut_scalar.specs.declared.place.BindId.{BindId}
use Rattle.fut_scalar.specs.declared.scalar.ScalarType.{ScalarType}
use Rattle.fut_flat.specs.declared.prim.Primitive.{Primitive}
use Rattle.fut_flat.specs.declared.prim.Primitive.TheVariants as prim
use Rattle.fut_flat.specs.declared.prim.Ref.{Ref}
use Rattle.fut_flat.specs.declared.prim.Ref.TheVariants as ref
use Rattle.fut_flat.specs.Numbers.{pattern_numbers, all_pattern_numbers, own_numbers, numbers, turn_numbers}
use Rattle.fut_flat.specs.Terms.{Size_use, Size_const, Size_parameter, Type_parameter, Type_use, Array_type, Unique_type, Arrow_type, Tuple_type, Record_type, Type_terms, no_arg, no_type, type_and, Coerce, Declared, Bound_pattern, Wild_pattern, Tuple_pattern, Record_pattern, Typed_pattern, Patterns, no_pattern, pattern_and, Parameter, Operation, Integer, Truth, Tuple_of, Record_of, Array_of, Binary, Negate, Complement, Index, Project, Update, Replace, Ascribe, Assert, Range, Use, Strict, Lambda, Apply, Let, If, Loop, Terms, no_term, term_and, Counted, Over, While}
use Rattle.fut_flat.specs.Erased.{FlatTerm, FlatTurns, FlatPattern, FlatType}
use Rattle.fut_types.specs.declared.Kind.{Kind}
use Rattle.fut_types.specs.declared.Head.TheVariants as head
use Rattle.fut_types.specs.Types.{Ty, Var, Made, Tys, none, more, Sub, Kinds, HasKind, scalar_ty}
use Rattle.fut_typing.specs.Free.{is_free}
use Rattle.fut_typing.specs.Names.{Names, AreNames}
use Rattle.fut_typing.specs.Primitives.{i64_ty}
use Rattle.fut_typing.specs.Program.{Defined}
use Rattle.sized_types.specs.Sizes.{Name}
use Rattle.sizes_meet_rules.specs.Known.{Is_made}
use Rattle.fut_sizes.specs.Agreeing.{is_among}
use Rattle.fut_sizes.specs.Compositions.{composition}
use Rattle.fut_sizes.specs.Functions.{Taking, stands_among, without, chosen_by, size_names}
use Rattle.fut_sizes.specs.Scopes.{names}
use Rattle.fut_sizes.specs.Sizing.{bind_ids, in_pattern, own_sizes}

-- a type without type variables, made as the language makes types: an array of one type, a function of two
unfoldable mutual
  pub Formed_type : Ty → Type 0
  Formed_type (Var v) = ⊥
  Formed_type (Made (head.Rigid b k) ts) = ⊥
  Formed_type (Made (head.Scalar s) none) = Unit {0}
  Formed_type (Made (head.Scalar s) ts) = ⊥
  Formed_type (Made head.Array (more t none)) = Formed_type t
  Formed_type (Made head.Array ts) = ⊥
  Formed_type (Made head.Fun (more p (more r none))) = Formed_type p × Formed_type r
  Formed_type (Made head.Fun ts) = ⊥
  Formed_type (Made h ts) = Formed_types ts

  pub Formed_types : Tys → Type 0
  Formed_types none = Unit {0}
  Formed_types (more t ts) = Formed_type t × Formed_types ts

-- a type of scalars, of tuples and of records
unfoldable mutual
  pub Flat_type : Ty → Type 0
  Flat_type (Var v) = ⊥
  Flat_type (Made h ts) = Is_made h × Flat_types ts

  pub Flat_types : Tys → Type 0
  Flat_types none = Unit {0}
  Flat_types (more t ts) = Flat_type t × Flat_types ts

-- a written type of data
abbrev mutual
  pub Written_data : FlatType → Type 0
  Written_data (Type_use r args) = Unit {0}
  Written_data (Array_type s e) = Written_data e
  Written_data (Unique_type e) = Written_data e
  Written_data (Tuple_type es) = All_written_data es
  Written_data (Record_type fs es) = All_written_data es
  Written_data (Arrow_type b from to) = ⊥

  pub All_written_data : Type_terms Ref BindId → Type 0
  All_written_data no_type = Unit {0}
  All_written_data (type_and e es) = Written_data e × All_written_data es

-- of scalars, arrays and tuples, with all of its sizes
abbrev mutual
  pub Written_whole : FlatType → Type 0
  Written_whole (Type_use (ref.Scalar s) no_arg) = Unit {0}
  Written_whole (Array_type (Size_use (ref.Bound b)) e) = Written_whole e
  Written_whole (Array_type (Size_const c) e) = Written_whole e
  Written_whole (Unique_type e) = Written_whole e
  Written_whole (Tuple_type es) = All_written_whole es
  Written_whole e = ⊥

  pub All_written_whole : Type_terms Ref BindId → Type 0
  All_written_whole no_type = Unit {0}
  All_written_whole (type_and e es) = Written_whole e × All_written_whole es

-- a definition's value, at a node, has one type in all uses: it is written, or that of truth values, or does not differ from use to use
abbrev pub One_type : FlatTerm → ℕ → Type 0
One_type (Strict (Declared e) mark ts) n = Written_whole e
One_type (Strict (Truth b) mark ts) n = Unit {0}
One_type v n = is_free false v n n ≡ false

-- its type has no arrays, or is written with all sizes
abbrev pub Sizes_told : FlatTerm → Ty → Type 0
Sizes_told (Strict (Declared e) mark ts) t = Written_whole e
Sizes_told v t = Flat_type t

abbrev pub Is_scalar : Ty → Type 0
Is_scalar t = (c : ScalarType) × (t ≡ scalar_ty c)

-- an operation whose result is of a type; the fields of a record have names
abbrev pub Plain_operation : Names → Operation Ref BindId → Ty → Terms Ref BindId → Type 0
Plain_operation N (Integer n i) t ts = Is_scalar t
Plain_operation N (Truth b) t ts = Is_scalar t
Plain_operation N (Binary o) t ts = Is_scalar t
Plain_operation N Negate t ts = Is_scalar t
Plain_operation N Complement t ts = Is_scalar t
Plain_operation N Assert t ts = Is_scalar t
Plain_operation N Tuple_of t ts = Unit {0}
Plain_operation N (Record_of fs) t ts = AreNames N
Plain_operation N Array_of t no_term = Formed_type t
Plain_operation N Array_of t (term_and e es) = Unit {0}
Plain_operation N (Range stepped end) t ts = Formed_type t
Plain_operation N (Index ps) t ts = Unit {0}
Plain_operation N Update t ts = Unit {0}
Plain_operation N (Project f) t ts = Unit {0}
Plain_operation N (Replace f) t ts = Unit {0}
Plain_operation N (Ascribe e) t ts = Unit {0}
Plain_operation N (Coerce e) t ts = Written_data e
Plain_operation N (Declared e) t ts = Written_data e

-- a primitive without type variables
abbrev pub Is_closed : Primitive → Type 0
Is_closed (prim.Lowest own) = Unit {0}
Is_closed (prim.Highest own) = Unit {0}
Is_closed (prim.NumBits own) = Unit {0}
Is_closed (prim.Convert to from) = Unit {0}
Is_closed (prim.Min own) = Unit {0}
Is_closed (prim.Max own) = Unit {0}
Is_closed (prim.Abs own) = Unit {0}
Is_closed (prim.Popc own) = Unit {0}
Is_closed prim.Iota = Unit {0}
Is_closed (prim.Fold f own) = Unit {0}
Is_closed p = ⊥

-- goes over an array behind a function and a value
abbrev pub Reduces : Primitive → Type 0
Reduces prim.Reduce = Unit {0}
Reduces prim.ReduceComm = Unit {0}
Reduces prim.Scan = Unit {0}
Reduces p = ⊥

-- such a primitive applied to arguments
abbrev pub Is_reduction : FlatTerm → Type 0
Is_reduction (Use (ref.Prim p) at k) = Reduces p
Is_reduction (Apply f e) = Is_reduction f
Is_reduction e = ⊥

-- a function under a name
abbrev pub Is_lambda : FlatTerm → Type 0
Is_lambda (Lambda (pattern_and p ps) e) = Unit {0}
Is_lambda e = ⊥

abbrev pub Is_bound : FlatPattern → Type 0
Is_bound (Bound_pattern b) = Unit {0}
Is_bound p = ⊥

abbrev pub Is_name : FlatPattern → Type 0
Is_name (Bound_pattern b) = Unit {0}
Is_name Wild_pattern = Unit {0}
Is_name p = ⊥

-- a name applied to arguments
abbrev pub Is_call : FlatTerm → Type 0
Is_call (Use (ref.Bound b) at k) = Unit {0}
Is_call (Apply f e) = Is_call f
Is_call e = ⊥

abbrev pub Is_primitive : FlatTerm → Type 0
Is_primitive (Use (ref.Prim p) at k) = Unit {0}
Is_primitive e = ⊥

-- size parameters alone
abbrev pub Are_sizes : List (Parameter BindId) → Type 0
Are_sizes [] = Unit {0}
Are_sizes (Size_parameter b ∷ ps) = Are_sizes ps
Are_sizes (Type_parameter b lifted ∷ ps) = ⊥

module _ (types : Sub) (home : ℕ → ℕ) (K : Kinds) (places : Kind) where
  -- a name, none, or the parts of a tuple or a record; each may have a written type of data
  abbrev mutual
    pub Plain_pattern : FlatPattern → ℕ → Type 0
    Plain_pattern (Bound_pattern b) q = home b.0 ≡ q
    Plain_pattern Wild_pattern q = Unit {0}
    Plain_pattern (Tuple_pattern ps) q = Plain_parts ps (1 + q)
    Plain_pattern (Record_pattern fs ps) q = Plain_parts ps (1 + q)
    Plain_pattern (Typed_pattern p e) q = Written_data e × Plain_pattern p q

    pub Plain_parts : Patterns Ref BindId → ℕ → Type 0
    Plain_parts no_pattern q = Unit {0}
    Plain_parts (pattern_and p ps) q = Plain_pattern p q × Plain_parts ps (q + pattern_numbers p)

  -- parameters of data without type variables
  abbrev pub Plain_patterns : Patterns Ref BindId → ℕ → Type 0
  Plain_patterns no_pattern q = Unit {0}
  Plain_patterns (pattern_and p ps) q = Plain_pattern p q × Formed_type (types q) × HasKind K places (types q) × Plain_patterns ps (q + pattern_numbers p)

  -- a pattern that may name sizes: then it is a name, or none, with a written type of data, the sizes are at home at its node, and its
  -- name is none of them
  abbrev pub Plain_sizes : List BindId → FlatPattern → ℕ → Type 0
  Plain_sizes [] p q = Plain_pattern p q
  Plain_sizes (b ∷ bs) (Typed_pattern p e) q = Is_name p × Written_data e × Plain_pattern p q × ((c : ℕ) → is_among (bind_ids (b ∷ bs)) c ≡ true → (home c ≡ q) × (is_among (names p) c ≡ false))
  Plain_sizes bs p q = ⊥

  -- ---- the size names of a function's head, as far as no parameter before has chosen them

  -- a parameter at a node, with the sized type that it has by itself
  abbrev pub parameter : Names → FlatPattern → ℕ → Taking
  parameter N p q = record { pattern = p; node = q; size = in_pattern N types p (own_sizes N types q) }

  -- no name of the parameter is one of them, and those that it chooses are at home there
  pub record Head_at (N : Names) (bs : List ℕ) (p : FlatPattern) (q : ℕ) : Type 0 where
    pub apart : (b : ℕ) → is_among (names p) b ≡ true → is_among bs b ≡ false
    pub at_home : (b : ℕ) → stands_among (chosen_by bs (parameter N p q)) (Name b) ≡ true → home b ≡ q

  abbrev pub Plain_head : Names → List ℕ → Patterns Ref BindId → ℕ → Type 0
  Plain_head N bs no_pattern q = Unit {0}
  Plain_head N bs (pattern_and p ps) q = Head_at N bs p q × Plain_head N (without (chosen_by bs (parameter N p q)) bs) ps (q + pattern_numbers p)

  abbrev pub Plain_headed : Names → List ℕ → FlatTerm → ℕ → Type 0
  Plain_headed N bs (Lambda ps e) lo = Plain_head N bs ps (1 + lo)
  Plain_headed N bs e lo = ⊥

  -- a let that is written as a function has no type parameters, and its type has no type variables
  abbrev pub Plain_let : Names → Bool → List BindId → List (Parameter BindId) → FlatPattern → FlatTerm → ℕ → Type 0
  Plain_let N false sizes [] p v q = Plain_sizes sizes p q
  Plain_let N true [] ps p v q = Plain_pattern p q × Is_bound p × Is_lambda v × Formed_type (types q) × Are_sizes ps × Plain_headed N (size_names ps) v (q + pattern_numbers p)
  Plain_let N is_function sizes parameters p v q = ⊥

  -- a function of parameters without arrays, which gives data
  abbrev pub Flat_function : Ty → Type 0
  Flat_function (Made head.Fun (more p (more r none))) = Flat_type p × (HasKind K places r ⊎ Flat_function r)
  Flat_function t = ⊥

  -- a function of data, which gives data
  abbrev pub Data_function : Ty → Type 0
  Data_function (Made head.Fun (more p (more r none))) = HasKind K places p × (HasKind K places r ⊎ Data_function r)
  Data_function t = ⊥

  -- one of data, which gives data
  abbrev pub One_left : Ty → Type 0
  One_left (Made head.Fun (more p (more r none))) = HasKind K places p × HasKind K places r
  One_left t = ⊥

  -- a name, a primitive or an application of such a type
  abbrev pub Used_function : FlatTerm → ℕ → Type 0
  Used_function (Use r at k) lo = Data_function (types lo)
  Used_function (Apply f e) lo = Data_function (types lo)
  Used_function e lo = ⊥

  -- a lambda whose body is data
  abbrev pub Gives_data : FlatTerm → ℕ → Type 0
  Gives_data (Lambda (pattern_and p ps) e) lo = HasKind K places (types (1 + lo + all_pattern_numbers (pattern_and p ps)))
  Gives_data e lo = ⊥

  module _ (N : Names) where
    abbrev mutual
      pub Plain_term : FlatTerm → ℕ → Type 0
      -- a name is used at the type of the node that binds it, or is a number as a size name is
      Plain_term (Use (ref.Bound b) at k) lo = (types lo ≡ types (home b.0)) ⊎ (types lo ≡ i64_ty)
      Plain_term (Use (ref.Prim p) at k) lo = Is_closed p
      Plain_term (Strict o mark ts) lo = Plain_operation N o (types lo) ts × Plain_terms ts (lo + own_numbers o)
      Plain_term (Lambda (pattern_and p ps) e) lo = Plain_patterns (pattern_and p ps) (1 + lo) × Plain_term e (1 + lo + all_pattern_numbers (pattern_and p ps))
      -- a function by its name, or a primitive, applied to arguments of data; a primitive may take one function of parameters without
      -- arrays, which gives data, or as its first argument a lambda, a name or an application of data, which gives data. The result
      -- is data, or a function by its name has arguments left, or a reduction its array
      Plain_term (Apply f e) lo = (HasKind K places (types lo) ⊎ (Is_call f ⊎ (One_left (types lo) × Is_reduction f))) × (((HasKind K places (types (1 + lo + numbers f)) × Plain_spine false f (1 + lo)) ⊎ (((false ≡ false) × Flat_function (types (1 + lo + numbers f)) × Plain_spine true f (1 + lo)) ⊎ ((false ≡ false) × (Gives_data e (1 + lo + numbers f) ⊎ Used_function e (1 + lo + numbers f)) × Is_primitive f))) × Plain_term e (1 + lo + numbers f))
      Plain_term (Let b v e) lo = Plain_let N b.is_function b.sizes b.parameters b.pattern v (1 + lo) × (composition b e ≡ None)
          × (HasKind K places (types (1 + lo + pattern_numbers b.pattern)) ⊎ (Is_lambda v × Is_bound b.pattern)) × Plain_term v (1 + lo + pattern_numbers b.pattern) × Plain_term e (1 + lo + pattern_numbers b.pattern + numbers v)
      Plain_term (If c a b) lo = Plain_term c (1 + lo) × Plain_term a (1 + lo + numbers c) × Plain_term b (1 + lo + numbers c + numbers a)
      Plain_term (Loop mark sizes p first turns body) lo = Plain_sizes sizes p (1 + lo) × Plain_term first (1 + lo + pattern_numbers p)
          × Plain_turns turns (1 + lo + pattern_numbers p + numbers first) × Plain_term body (1 + lo + pattern_numbers p + numbers first + turn_numbers turns)
      Plain_term e lo = ⊥

      -- a name, applied to arguments of data, or a primitive, applied to data and one function, where it is told whether it stands behind
      pub Plain_spine : Bool → FlatTerm → ℕ → Type 0
      Plain_spine lambda (Use (ref.Bound b) at k) lo = (lambda ≡ false) × (types lo ≡ types (home b.0))
      Plain_spine lambda (Use (ref.Prim p) at k) lo = Unit {0}
      Plain_spine lambda (Apply f e) lo = ((HasKind K places (types (1 + lo + numbers f)) × Plain_spine lambda f (1 + lo)) ⊎ (((lambda ≡ false) × Flat_function (types (1 + lo + numbers f)) × Plain_spine true f (1 + lo)) ⊎ ((lambda ≡ false) × (Gives_data e (1 + lo + numbers f) ⊎ Used_function e (1 + lo + numbers f)) × Is_primitive f))) × Plain_term e (1 + lo + numbers f)
      Plain_spine lambda e lo = ⊥

      pub Plain_terms : Terms Ref BindId → ℕ → Type 0
      Plain_terms no_term lo = Unit {0}
      Plain_terms (term_and t ts) lo = Plain_term t lo × Plain_terms ts (lo + numbers t)

      pub Plain_turns : FlatTurns → ℕ → Type 0
      Plain_turns (Counted i m) lo = (home i.0 ≡ lo) × Is_scalar (types lo) × Plain_term m (1 + lo)
      Plain_turns (Over p e) lo = Plain_pattern p lo × Plain_term e (lo + pattern_numbers p)
      Plain_turns (While c) lo = Plain_term c lo

    -- a definition of a function, without type parameters, whose type has no type variables
    abbrev pub Function_definition : List (Parameter BindId) → FlatTerm → ℕ → Type 0
    Function_definition ps v lo = Is_lambda v × Formed_type (types lo) × Are_sizes ps × Plain_headed N (size_names ps) v (lo + 1) × Plain_term v (lo + 1)

    -- a definition of a number of type i64
    abbrev pub Number_definition : List (Parameter BindId) → FlatTerm → ℕ → Type 0
    Number_definition [] v lo = (types lo ≡ i64_ty) × Plain_term v (lo + 1)
    Number_definition ps v lo = ⊥

    -- one of other data, which has one type in all uses, in which are no sizes but those that are written
    abbrev pub Data_definition : List (Parameter BindId) → FlatTerm → ℕ → Type 0
    Data_definition [] v lo = (types lo ≡ i64_ty → ⊥) × One_type v (lo + 1) × Sizes_told v (types lo) × Plain_term v (lo + 1)
    Data_definition ps v lo = ⊥

    abbrev pub Plain_definition : FlatPattern → List (Parameter BindId) → FlatTerm → ℕ → Type 0
    Plain_definition (Bound_pattern b) ps v lo = (home b.0 ≡ lo) × (Function_definition ps v lo ⊎ (Number_definition ps v lo ⊎ Data_definition ps v lo))
    Plain_definition p ps v lo = ⊥

    abbrev pub Plain_definitions : List Defined → ℕ → Type 0
    Plain_definitions [] lo = Unit {0}
    Plain_definitions (d ∷ ds) lo = Plain_definition d.name d.parameters d.value lo × Plain_definitions ds (lo + (pattern_numbers d.name + numbers d.value))
