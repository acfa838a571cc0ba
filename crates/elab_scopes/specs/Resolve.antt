-- The flat term of a source's term: each use of a name has its binding, and what is bound is numbered in reading order.
use Rattle.std.specs.Prelude.{length, ◌++◌, cond, Bool, true, false, List, [], ◌∷◌, Option, Some, None, Result, Ok, Err}
use Rattle.std.specs.Str.{bytes_eq}
use Rattle.fut_scalar.specs.declared.place.BindId.{BindId}
use Rattle.fut_scalar.specs.declared.place.Place.{Place}
use Rattle.fut_ast.specs.Sorts.{Text, Path}
use Rattle.fut_ast.specs.Nodes.{held_name}
use Rattle.fut_ast.specs.declared.node.Label.{Label}
use Rattle.fut_flat.specs.declared.prim.Ref.{Ref}
use Rattle.fut_flat.specs.Terms.{Size_term, Size_use, Size_const, Size_blank, Type_use, Array_type, Unique_type, Arrow_type, Tuple_type, Record_type, Type_terms, no_type, type_and, Type_args, no_arg, size_arg, type_arg, Bound_pattern, Wild_pattern, Tuple_pattern, Record_pattern, Typed_pattern, Patterns, no_pattern, pattern_and, Parameter, Size_parameter, Type_parameter, Operation, Integer, Truth, Tuple_of, Record_of, Array_of, Binary, Negate, Complement, Index, Project, Update, Replace, Ascribe, Coerce, Declared, Assert, Range, Use, Strict, Lambda, Apply, Let, If, Loop, Terms, no_term, term_and, Counted, Over, While}
use Rattle.fut_flat.specs.Erased.{FlatType, FlatPattern, FlatTerm, FlatTurns}
use Rattle.fut_flat.specs.Sources.{Spelled, spelled, SourceSize, WrittenType, SourcePattern, SourceTerm, SourceTurns}
use Rattle.elab_scopes.specs.Names.{Refusal, Twice}
use Rattle.elab_scopes.specs.Scopes.{Entry, a_value, a_type, a_world, Scope, enter, Found, value_of, size_of, type_of}

-- A part with what was numbered up to and with it: the text of each number, in order. So the next number is their count.
abbrev pub Numbered : Type 0 → Type 0
Numbered A = Result (A × List Text) Refusal

-- and then: the first refusal is the answer
unfoldable pub after : {A B S T : Type 0} → Result (A × S) Refusal → (A → S → Result (B × T) Refusal) → Result (B × T) Refusal
after (Ok (a, s)) k = k a s
after (Err e) k = Err e

abbrev pub next : List Text → BindId
next made = record { 0 = length made }

abbrev pub with_text : List Text → Text → List Text
with_text made x = made ++ x ∷ []

abbrev pub refers : {A : Type 0} → List Text → (Ref → A) → Result Ref Refusal → Numbered A
refers made k (Ok r) = Ok (k r, made)
refers made k (Err e) = Err e

-- ---- written types

-- a size that is not written has a number of its own
unfoldable pub resolve_size : SourceSize → Scope → List Text → Numbered (Size_term Ref BindId)
resolve_size (Size_use p) sc made = refers made Size_use (size_of sc p)
resolve_size (Size_const n) sc made = Ok (Size_const n, made)
resolve_size (Size_blank x) sc made = Ok (Size_blank (next made), with_text made x.name)

unfoldable mutual
  -- the name of a function type's parameter is seen in its result
  pub resolve_type : WrittenType → Scope → List Text → Numbered FlatType
  resolve_type (Type_use p given) sc made = after (refers made (λ r. r) (type_of sc p)) (λ r made. after (resolve_arguments given sc made) (λ given made. Ok (Type_use r given, made)))
  resolve_type (Array_type s t) sc made = after (resolve_size s sc made) (λ s made. after (resolve_type t sc made) (λ t made. Ok (Array_type s t, made)))
  resolve_type (Unique_type t) sc made = after (resolve_type t sc made) (λ t made. Ok (Unique_type t, made))
  resolve_type (Arrow_type None t u) sc made = after (resolve_type t sc made) (λ t made. after (resolve_type u sc made) (λ u made. Ok (Arrow_type None t u, made)))
  resolve_type (Arrow_type (Some x) t u) sc made =
      after (resolve_type t sc (with_text made x.name)) (λ t more. after (resolve_type u (a_value x.name (next made) ∷ sc) more) (λ u more. Ok (Arrow_type (Some (next made)) t u, more)))
  resolve_type (Tuple_type ts) sc made = after (resolve_types ts sc made) (λ ts made. Ok (Tuple_type ts, made))
  resolve_type (Record_type fs ts) sc made = after (resolve_types ts sc made) (λ ts made. Ok (Record_type fs ts, made))

  pub resolve_types : Type_terms Spelled Label → Scope → List Text → Numbered (Type_terms Ref BindId)
  resolve_types no_type sc made = Ok (no_type, made)
  resolve_types (type_and t ts) sc made = after (resolve_type t sc made) (λ t made. after (resolve_types ts sc made) (λ ts made. Ok (type_and t ts, made)))

  pub resolve_arguments : Type_args Spelled Label → Scope → List Text → Numbered (Type_args Ref BindId)
  resolve_arguments no_arg sc made = Ok (no_arg, made)
  resolve_arguments (size_arg s rest) sc made = after (resolve_size s sc made) (λ s made. after (resolve_arguments rest sc made) (λ rest made. Ok (size_arg s rest, made)))
  resolve_arguments (type_arg t rest) sc made = after (resolve_type t sc made) (λ t made. after (resolve_arguments rest sc made) (λ rest made. Ok (type_arg t rest, made)))

-- ---- patterns

-- the names that a pattern has bound so far, with all that was numbered
pub record Naming : Type 0 where
  pub bound : List Entry
  pub made : List Text

abbrev pub has : List Entry → Text → Bool
has [] x = false
has (a_value y b ∷ es) x = cond (bytes_eq y x) true (has es x)
has (a_type y b ∷ es) x = has es x
has (a_world w ∷ es) x = has es x

-- a part that binds none of the pattern's names
abbrev pub beside : {A : Type 0} → List Entry → Numbered A → Result (A × Naming) Refusal
beside bound (Ok (a, made)) = Ok (a, record { bound = bound; made = made })
beside bound (Err e) = Err e

unfoldable mutual
  pub name_pattern : SourcePattern → Scope → Naming → Result (FlatPattern × Naming) Refusal
  name_pattern (Bound_pattern x) sc s = cond (has s.bound x.name) (Err (Twice x.name x.place)) (Ok (Bound_pattern (next s.made), record { bound = s.bound ++ a_value x.name (next s.made) ∷ []; made = with_text s.made x.name }))
  name_pattern Wild_pattern sc s = Ok (Wild_pattern, s)
  name_pattern (Tuple_pattern ps) sc s = after (name_patterns ps sc s) (λ ps s. Ok (Tuple_pattern ps, s))
  name_pattern (Record_pattern fs ps) sc s = after (name_patterns ps sc s) (λ ps s. Ok (Record_pattern fs ps, s))
  name_pattern (Typed_pattern p t) sc s = after (name_pattern p sc s) (λ p s. after (beside s.bound (resolve_type t sc s.made)) (λ t s. Ok (Typed_pattern p t, s)))

  pub name_patterns : Patterns Spelled Label → Scope → Naming → Result (Patterns Ref BindId × Naming) Refusal
  name_patterns no_pattern sc s = Ok (no_pattern, s)
  name_patterns (pattern_and p ps) sc s = after (name_pattern p sc s) (λ p s. after (name_patterns ps sc s) (λ ps s. Ok (pattern_and p ps, s)))

-- a part, and the names that it binds, the first one first
abbrev pub Bound : Type 0 → Type 0
Bound A = A × List Entry

abbrev pub whole : Result (FlatPattern × Naming) Refusal → Numbered (Bound FlatPattern)
whole (Ok (p, s)) = Ok ((p, s.bound), s.made)
whole (Err e) = Err e

-- a pattern's names are seen behind the whole pattern
unfoldable pub resolve_pattern : SourcePattern → Scope → List Text → Numbered (Bound FlatPattern)
resolve_pattern p sc made = whole (name_pattern p sc (record { bound = []; made = made }))

-- the parameters of a function, each of which sees those before it, and the scope of the body
unfoldable pub resolve_parameters : Patterns Spelled Label → Scope → List Text → Numbered (Patterns Ref BindId × Scope)
resolve_parameters no_pattern sc made = Ok ((no_pattern, sc), made)
resolve_parameters (pattern_and p ps) sc made =
    after (resolve_pattern p sc made) (λ p made. after (resolve_parameters ps (enter p.1 sc) made) (λ ps made. Ok ((pattern_and p.0 ps.0, ps.1), made)))

-- ---- size names and heads

abbrev pub and_size : BindId → Text → Bound (List BindId) × List Text → Bound (List BindId) × List Text
and_size b x s = ((b ∷ s.0.0, a_value x b ∷ s.0.1), s.1)

unfoldable pub number_sizes : List Label → List Text → Bound (List BindId) × List Text
number_sizes [] made = (([], []), made)
number_sizes (x ∷ xs) made = and_size (next made) x.name (number_sizes xs (with_text made x.name))

abbrev pub head_text : Parameter Label → Text
head_text (Size_parameter x) = x.name
head_text (Type_parameter x lifted) = x.name

abbrev pub head_with : BindId → Parameter Label → Parameter BindId
head_with b (Size_parameter x) = Size_parameter b
head_with b (Type_parameter x lifted) = Type_parameter b lifted

abbrev pub head_entry : BindId → Parameter Label → Entry
head_entry b (Size_parameter x) = a_value x.name b
head_entry b (Type_parameter x lifted) = a_type x.name b

abbrev pub and_head : BindId → Parameter Label → Bound (List (Parameter BindId)) × List Text → Bound (List (Parameter BindId)) × List Text
and_head b h s = ((head_with b h ∷ s.0.0, head_entry b h ∷ s.0.1), s.1)

unfoldable pub number_heads : List (Parameter Label) → List Text → Bound (List (Parameter BindId)) × List Text
number_heads [] made = (([], []), made)
number_heads (h ∷ hs) made = and_head (next made) h (number_heads hs (with_text made (head_text h)))

-- ---- expressions

-- the fields that are left of a path
unfoldable pub projected : Place → FlatTerm → Path → FlatTerm
projected at e [] = e
projected at e (f ∷ fs) = projected at (Strict (Project f) at (term_and e no_term)) fs

abbrev pub use_found : Place → List Text → Result Found Refusal → Numbered FlatTerm
use_found at made (Ok f) = Ok (projected at (Use f.names at f.modules) f.fields, made)
use_found at made (Err e) = Err e

-- an operation's type is read behind its parts
abbrev pub resolve_operation : Operation Spelled Label → Scope → List Text → Numbered (Operation Ref BindId)
resolve_operation (Integer n t) sc made = Ok (Integer n t, made)
resolve_operation (Truth b) sc made = Ok (Truth b, made)
resolve_operation Tuple_of sc made = Ok (Tuple_of, made)
resolve_operation (Record_of fs) sc made = Ok (Record_of fs, made)
resolve_operation Array_of sc made = Ok (Array_of, made)
resolve_operation (Binary op) sc made = Ok (Binary op, made)
resolve_operation Negate sc made = Ok (Negate, made)
resolve_operation Complement sc made = Ok (Complement, made)
resolve_operation (Index is) sc made = Ok (Index is, made)
resolve_operation (Project f) sc made = Ok (Project f, made)
resolve_operation Update sc made = Ok (Update, made)
resolve_operation (Replace f) sc made = Ok (Replace f, made)
resolve_operation (Ascribe t) sc made = after (resolve_type t sc made) (λ t made. Ok (Ascribe t, made))
resolve_operation (Coerce t) sc made = after (resolve_type t sc made) (λ t made. Ok (Coerce t, made))
resolve_operation (Declared t) sc made = after (resolve_type t sc made) (λ t made. Ok (Declared t, made))
resolve_operation Assert sc made = Ok (Assert, made)
resolve_operation (Range stepped end) sc made = Ok (Range stepped end, made)

-- the declared type of a result stands before the body
abbrev pub is_declared : Operation Spelled Label → Bool
is_declared (Declared t) = true
is_declared o = false

-- a name that stands behind what it is applied to
abbrev pub stands_behind : SourceTerm → Bool
stands_behind (Use p at k) = p.is_behind
stands_behind (Strict o mark ts) = false
stands_behind (Lambda ps e) = false
stands_behind (Apply f e) = false
stands_behind (Let b v e) = false
stands_behind (If c a b) = false
stands_behind (Loop mark sizes p first turns body) = false

abbrev pub is_held : Path → Bool
is_held [] = false
is_held (x ∷ []) = bytes_eq x held_name
is_held (x ∷ y ∷ ys) = false

abbrev pub where_found : {A : Type 0} → Result Found Refusal → Numbered A → Numbered A
where_found (Ok f) part = part
where_found (Err e) part = Err e

-- ``(`f` e)`` is `let v = e in \x -> f x v` with a v that no text spells: the name f, which stands before e, of the let's body
unfoldable pub section_name : SourceTerm → Option Spelled
section_name (Lambda ps (Apply (Apply (Use p at k) x) (Use v to l))) = cond (is_held v.path) (Some (spelled p.path p.place)) None
section_name e = None

-- a part before which a name stands: if that is refused, it is the first refusal
unfoldable pub led_by : {A : Type 0} → Option Spelled → Scope → Numbered A → Numbered A
led_by None sc part = part
led_by (Some p) sc part = where_found (value_of sc p) part

unfoldable mutual
  pub resolve : SourceTerm → Scope → List Text → Numbered FlatTerm
  resolve (Use p at k) sc made = use_found at made (value_of sc p)
  resolve (Strict o mark ts) sc made =
      cond (is_declared o)
      (after (resolve_operation o sc made) (λ o made. after (resolve_all ts sc made) (λ ts made. Ok (Strict o mark ts, made))))
      (after (resolve_all ts sc made) (λ ts made. after (resolve_operation o sc made) (λ o made. Ok (Strict o mark ts, made))))
  resolve (Lambda ps e) sc made = after (resolve_parameters ps sc made) (λ ps made. after (resolve e ps.1 made) (λ e made. Ok (Lambda ps.0 e, made)))
  -- the parts of an application in the order of the text
  resolve (Apply f e) sc made =
      cond (stands_behind f)
      (after (resolve e sc made) (λ e made. after (resolve f sc made) (λ f made. Ok (Apply f e, made))))
      (after (resolve f sc made) (λ f made. after (resolve e sc made) (λ e made. Ok (Apply f e, made))))
  -- the value of a let sees its size and type parameters, and the body what the pattern binds
  resolve (Let b v e) sc made =
      led_by (section_name e) sc (
      after (Ok (number_sizes b.sizes made)) (λ s made.
      after (resolve_pattern b.pattern (enter s.1 sc) made) (λ p made.
      after (Ok (number_heads b.parameters made)) (λ h made.
      after (resolve v (enter h.1 sc) made) (λ v made.
      after (resolve e (enter p.1 (enter s.1 sc)) made) (λ e made.
      Ok (Let (record { sizes = s.0; parameters = h.0; is_function = b.is_function; pattern = p.0 }) v e, made)))))))
  resolve (If c a b) sc made = after (resolve c sc made) (λ c made. after (resolve a sc made) (λ a made. after (resolve b sc made) (λ b made. Ok (If c a b, made))))
  -- the first value does not see what the loop binds
  resolve (Loop mark sizes p first turns body) sc made =
      after (Ok (number_sizes sizes made)) (λ s made.
      after (resolve_pattern p (enter s.1 sc) made) (λ p made.
      after (resolve first sc made) (λ first made.
      after (resolve_turns turns sc (enter p.1 (enter s.1 sc)) made) (λ t made.
      after (resolve body (enter t.1 (enter p.1 (enter s.1 sc))) made) (λ body made.
      Ok (Loop mark s.0 p.0 first t.0 body, made))))))

  pub resolve_all : Terms Spelled Label → Scope → List Text → Numbered (Terms Ref BindId)
  resolve_all no_term sc made = Ok (no_term, made)
  resolve_all (term_and t ts) sc made = after (resolve t sc made) (λ t made. after (resolve_all ts sc made) (λ ts made. Ok (term_and t ts, made)))

  -- Outside the loop a number of turns and an array are evaluated, inside it a condition; and the names that the form binds.
  pub resolve_turns : SourceTurns → Scope → Scope → List Text → Numbered (Bound FlatTurns)
  resolve_turns (Counted x n) outside inside made = after (resolve n outside (with_text made x.name)) (λ n more. Ok ((Counted (next made) n, a_value x.name (next made) ∷ []), more))
  resolve_turns (Over p e) outside inside made = after (resolve_pattern p inside made) (λ p made. after (resolve e outside made) (λ e made. Ok ((Over p.0 e, p.1), made)))
  resolve_turns (While c) outside inside made = after (resolve c inside made) (λ c made. Ok ((While c, []), made))
