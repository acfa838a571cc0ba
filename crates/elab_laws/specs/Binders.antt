-- The numbers that a flat program binds, in the order in which they stand, each as often as it is bound.
use Rattle.std.specs.Prelude.{ℕ, ◌++◌, List, [], ◌∷◌, map, Option, Some, None}
use Rattle.fut_scalar.specs.declared.place.BindId.{BindId}
use Rattle.fut_flat.specs.declared.prim.Ref.{Ref}
use Rattle.fut_flat.specs.Terms.{Size_term, Size_use, Size_const, Size_blank, Type_use, Array_type, Unique_type, Arrow_type, Tuple_type, Record_type, Type_terms, no_type, type_and, Type_args, no_arg, size_arg, type_arg, Bound_pattern, Wild_pattern, Tuple_pattern, Record_pattern, Typed_pattern, Patterns, no_pattern, pattern_and, Parameter, Size_parameter, Type_parameter, Operation, Ascribe, Coerce, Declared, Use, Strict, Lambda, Apply, Let, If, Loop, Terms, no_term, term_and, Counted, Over, While}
use Rattle.fut_flat.specs.Erased.{FlatType, FlatPattern, FlatTerm, FlatTurns}
use Rattle.fut_typing.specs.Program.{Defined}

abbrev pub binders : List BindId → List ℕ
binders = map (λ (b : BindId). b.0)

-- ---- written types: sizes that are not written, and the names of functions' parameters

abbrev pub size_binders : Size_term Ref BindId → List ℕ
size_binders (Size_use r) = []
size_binders (Size_const n) = []
size_binders (Size_blank b) = b.0 ∷ []

abbrev pub name_binders : Option BindId → List ℕ
name_binders None = []
name_binders (Some b) = b.0 ∷ []

abbrev mutual
  pub type_binders : FlatType → List ℕ
  type_binders (Type_use r given) = argument_binders given
  type_binders (Array_type s t) = size_binders s ++ type_binders t
  type_binders (Unique_type t) = type_binders t
  type_binders (Arrow_type b t u) = name_binders b ++ (type_binders t ++ type_binders u)
  type_binders (Tuple_type ts) = all_type_binders ts
  type_binders (Record_type fs ts) = all_type_binders ts

  pub all_type_binders : Type_terms Ref BindId → List ℕ
  all_type_binders no_type = []
  all_type_binders (type_and t ts) = type_binders t ++ all_type_binders ts

  pub argument_binders : Type_args Ref BindId → List ℕ
  argument_binders no_arg = []
  argument_binders (size_arg s rest) = size_binders s ++ argument_binders rest
  argument_binders (type_arg t rest) = type_binders t ++ argument_binders rest

-- ---- patterns

abbrev mutual
  pub pattern_binders : FlatPattern → List ℕ
  pattern_binders (Bound_pattern b) = b.0 ∷ []
  pattern_binders Wild_pattern = []
  pattern_binders (Tuple_pattern ps) = all_pattern_binders ps
  pattern_binders (Record_pattern fs ps) = all_pattern_binders ps
  pattern_binders (Typed_pattern p t) = pattern_binders p ++ type_binders t

  pub all_pattern_binders : Patterns Ref BindId → List ℕ
  all_pattern_binders no_pattern = []
  all_pattern_binders (pattern_and p ps) = pattern_binders p ++ all_pattern_binders ps

-- ---- size and type parameters

abbrev pub parameter_binder : Parameter BindId → ℕ
parameter_binder (Size_parameter b) = b.0
parameter_binder (Type_parameter b lifted) = b.0

abbrev pub parameter_binders : List (Parameter BindId) → List ℕ
parameter_binders = map parameter_binder

-- ---- terms

abbrev pub operation_binders : Operation Ref BindId → List ℕ
operation_binders (Ascribe t) = type_binders t
operation_binders (Coerce t) = type_binders t
operation_binders (Declared t) = type_binders t
operation_binders o = []

abbrev mutual
  pub term_binders : FlatTerm → List ℕ
  term_binders (Use r at k) = []
  term_binders (Strict o mark ts) = operation_binders o ++ all_term_binders ts
  term_binders (Lambda ps e) = all_pattern_binders ps ++ term_binders e
  term_binders (Apply f e) = term_binders f ++ term_binders e
  term_binders (Let b v e) = binders b.sizes ++ (pattern_binders b.pattern ++ (parameter_binders b.parameters ++ (term_binders v ++ term_binders e)))
  term_binders (If c t e) = term_binders c ++ (term_binders t ++ term_binders e)
  term_binders (Loop mark sizes p first turns body) = binders sizes ++ (pattern_binders p ++ (term_binders first ++ (turns_binders turns ++ term_binders body)))

  pub all_term_binders : Terms Ref BindId → List ℕ
  all_term_binders no_term = []
  all_term_binders (term_and t ts) = term_binders t ++ all_term_binders ts

  pub turns_binders : FlatTurns → List ℕ
  turns_binders (Counted b n) = b.0 ∷ term_binders n
  turns_binders (Over p e) = pattern_binders p ++ term_binders e
  turns_binders (While c) = term_binders c

-- ---- definitions

abbrev pub definition_binders : Defined → List ℕ
definition_binders d = pattern_binders d.name ++ (parameter_binders d.parameters ++ term_binders d.value)
