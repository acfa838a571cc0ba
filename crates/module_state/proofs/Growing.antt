-- What is numbered while a part is resolved stands behind what was numbered before.
use Rattle.std.proofs.Common.{◌≡◌, ◌++◌, List, [], ◌∷◌, Bool, true, false, cond, Option, Some, None, Result, Ok, Err, refl, sym, ap, ◌∙◌, length, take}
use Rattle.std.proofs.lemmas.List.{append-nil, append_assoc, take_at}
use Rattle.fut_scalar.specs.declared.place.Place.{Place}
use Rattle.fut_ast.specs.Sorts.{Text}
use Rattle.fut_ast.specs.declared.node.Label.{Label}
use Rattle.fut_ast.specs.declared.pat.Head.{Head}
use Rattle.fut_flat.specs.declared.prim.Ref.{Ref}
use Rattle.fut_flat.specs.Sources.{Spelled, SourceSize, SourceTerm, SourceTurns, WrittenType, SourcePattern, source_parameters}
use Rattle.fut_flat.specs.Terms.{Size_use, Size_const, Size_blank, Type_use, Array_type, Unique_type, Arrow_type, Tuple_type, Record_type, Type_terms, no_type, type_and, Type_args, no_arg, size_arg, type_arg, Bound_pattern, Wild_pattern, Tuple_pattern, Record_pattern, Typed_pattern, Patterns, no_pattern, pattern_and, Parameter, Operation, Integer, Truth, Tuple_of, Record_of, Array_of, Binary, Negate, Complement, Index, Project, Update, Replace, Ascribe, Coerce, Declared, Assert, Range, Use, Strict, Lambda, Apply, Let, If, Loop, Terms, no_term, term_and, Counted, Over, While}
use Rattle.elab_scopes.specs.Names.{Refusal}
use Rattle.elab_scopes.specs.Programs.{define}
use Rattle.elab_scopes.specs.Scopes.{Entry, Found, Scope, a_value, enter, size_of, type_of, value_of}
use Rattle.elab_scopes.specs.Resolve.{Naming, Numbered, after, beside, has, head_text, is_declared, led_by, name_pattern, name_patterns, next, number_heads, number_sizes, refers, resolve, resolve_all, resolve_arguments, resolve_operation, resolve_parameters, resolve_pattern, resolve_size, resolve_turns, resolve_type, resolve_types, section_name, stands_behind, use_found, where_found, whole, with_text}

-- texts, and more behind them
pub data Begins (m n : List Text) : Type 0 where
  begins : (more : List Text) → n ≡ m ++ more → Begins m n

same : (m : List Text) → Begins m m
same m = begins [] (sym (append-nil m))

one_more : (m : List Text) (x : Text) → Begins m (with_text m x)
one_more m x = begins (x ∷ []) refl

both : {m n o : List Text} → Begins m n → Begins n o → Begins m o
both {m = m} (begins a is) (begins b more) = begins (a ++ b) (more ∙ ap (λ l. l ++ b) is ∙ append_assoc m a b)

pub taken : {m n : List Text} → Begins m n → take (length m) n ≡ m
taken {m = m} (begins more is) = ap (take (length m)) is ∙ take_at m more (length m) refl

-- what a part gives has more texts than there were, if it is not refused
abbrev pub Grows : {A S : Type 0} → (S → List Text) → List Text → Result (A × S) Refusal → Type 0
Grows f m (Ok q) = Begins m (f q.1)
Grows f m (Err e) = Unit {0}

abbrev made : Naming → List Text
made s = s.made

abbrev pub all : List Text → List Text
all m = m

further : {A S : Type 0} (f : S → List Text) {m n : List Text} → Begins m n → (r : Result (A × S) Refusal) → Grows f n r → Grows f m r
further f b (Ok q) g = both b g
further f b (Err e) g = tt

behind : {A B S T : Type 0} (f : S → List Text) (g : T → List Text) (m : List Text) (r : Result (A × S) Refusal) (k : A → S → Result (B × T) Refusal) → Grows f m r → ((a : A) (s : S) → Grows g (f s) (k a s)) → Grows g m (after r k)
unfolding after
behind f g m (Ok (a, s)) k b h = further g b (k a s) (h a s)
behind f g m (Err e) k b h = tt

either : {A S : Type 0} (f : S → List Text) (m : List Text) (t : Bool) (q r : Result (A × S) Refusal) → Grows f m q → Grows f m r → Grows f m (cond t q r)
either f m true q r a b = a
either f m false q r a b = b

-- ---- written types

refers_grows : {A : Type 0} (m : List Text) (k : Ref → A) (r : Result Ref Refusal) → Grows all m (refers m k r)
refers_grows m k (Ok r) = same m
refers_grows m k (Err e) = tt

size_grows : (s : SourceSize) (sc : Scope) (m : List Text) → Grows all m (resolve_size s sc m)
unfolding resolve_size
size_grows (Size_use p) sc m = refers_grows m Size_use (size_of sc p)
size_grows (Size_const n) sc m = same m
size_grows (Size_blank x) sc m = one_more m x.name

mutual
  unfolding resolve_type resolve_types resolve_arguments

  type_grows : (t : WrittenType) (sc : Scope) (m : List Text) → Grows all m (resolve_type t sc m)
  type_grows (Type_use p given) sc m = behind all all _ _ _ (refers_grows m (λ r. r) (type_of sc p)) (λ r n. behind all all _ _ _ (arguments_grow given sc n) (λ a n. same n))
  type_grows (Array_type s t) sc m = behind all all _ _ _ (size_grows s sc m) (λ a n. behind all all _ _ _ (type_grows t sc n) (λ b n. same n))
  type_grows (Unique_type t) sc m = behind all all _ _ _ (type_grows t sc m) (λ a n. same n)
  type_grows (Arrow_type None t u) sc m = behind all all _ _ _ (type_grows t sc m) (λ a n. behind all all _ _ _ (type_grows u sc n) (λ b n. same n))
  type_grows (Arrow_type (Some x) t u) sc m = further all (one_more m x.name) _ (behind all all _ _ _ (type_grows t sc (with_text m x.name)) (λ a n. behind all all _ _ _ (type_grows u (a_value x.name (next m) ∷ sc) n) (λ b n. same n)))
  type_grows (Tuple_type ts) sc m = behind all all _ _ _ (types_grow ts sc m) (λ a n. same n)
  type_grows (Record_type fs ts) sc m = behind all all _ _ _ (types_grow ts sc m) (λ a n. same n)

  types_grow : (ts : Type_terms Spelled Label) (sc : Scope) (m : List Text) → Grows all m (resolve_types ts sc m)
  types_grow no_type sc m = same m
  types_grow (type_and t ts) sc m = behind all all _ _ _ (type_grows t sc m) (λ a n. behind all all _ _ _ (types_grow ts sc n) (λ b n. same n))

  arguments_grow : (ts : Type_args Spelled Label) (sc : Scope) (m : List Text) → Grows all m (resolve_arguments ts sc m)
  arguments_grow no_arg sc m = same m
  arguments_grow (size_arg s rest) sc m = behind all all _ _ _ (size_grows s sc m) (λ a n. behind all all _ _ _ (arguments_grow rest sc n) (λ b n. same n))
  arguments_grow (type_arg t rest) sc m = behind all all _ _ _ (type_grows t sc m) (λ a n. behind all all _ _ _ (arguments_grow rest sc n) (λ b n. same n))

-- ---- patterns

beside_grows : {A : Type 0} (bound : List Entry) (m : List Text) (r : Numbered A) → Grows all m r → Grows made m (beside bound r)
beside_grows bound m (Ok (a, n)) g = g
beside_grows bound m (Err e) g = tt

mutual
  unfolding name_pattern name_patterns

  pattern_grows : (p : SourcePattern) (sc : Scope) (s : Naming) → Grows made s.made (name_pattern p sc s)
  pattern_grows (Bound_pattern x) sc s = either made _ (has s.bound x.name) _ _ tt (one_more s.made x.name)
  pattern_grows Wild_pattern sc s = same s.made
  pattern_grows (Tuple_pattern ps) sc s = behind made made _ _ _ (patterns_grow ps sc s) (λ a t. same t.made)
  pattern_grows (Record_pattern fs ps) sc s = behind made made _ _ _ (patterns_grow ps sc s) (λ a t. same t.made)
  pattern_grows (Typed_pattern p t) sc s =
      behind made made _ _ _ (pattern_grows p sc s) (λ a u. behind made made _ _ _ (beside_grows u.bound u.made _ (type_grows t sc u.made)) (λ b w. same w.made))

  patterns_grow : (ps : Patterns Spelled Label) (sc : Scope) (s : Naming) → Grows made s.made (name_patterns ps sc s)
  patterns_grow no_pattern sc s = same s.made
  patterns_grow (pattern_and p ps) sc s = behind made made _ _ _ (pattern_grows p sc s) (λ a t. behind made made _ _ _ (patterns_grow ps sc t) (λ b u. same u.made))

whole_grows : (m : List Text) (r : Result (Rattle.fut_flat.specs.Erased.FlatPattern × Naming) Refusal) → Grows made m r → Grows all m (whole r)
whole_grows m (Ok (p, s)) g = g
whole_grows m (Err e) g = tt

bound_grows : (p : SourcePattern) (sc : Scope) (m : List Text) → Grows all m (resolve_pattern p sc m)
unfolding resolve_pattern
bound_grows p sc m = whole_grows m _ (pattern_grows p sc (record { bound = []; made = m }))

parameters_grow : (ps : Patterns Spelled Label) (sc : Scope) (m : List Text) → Grows all m (resolve_parameters ps sc m)
unfolding resolve_parameters
parameters_grow no_pattern sc m = same m
parameters_grow (pattern_and p ps) sc m = behind all all _ _ _ (bound_grows p sc m) (λ q n. behind all all _ _ _ (parameters_grow ps (enter q.1 sc) n) (λ b n. same n))

sizes_grow : (xs : List Label) (m : List Text) → Begins m (number_sizes xs m).1
unfolding number_sizes
sizes_grow [] m = same m
sizes_grow (x ∷ xs) m = both (one_more m x.name) (sizes_grow xs (with_text m x.name))

heads_grow : (hs : List (Parameter Label)) (m : List Text) → Begins m (number_heads hs m).1
unfolding number_heads
heads_grow [] m = same m
heads_grow (h ∷ hs) m = both (one_more m (head_text h)) (heads_grow hs (with_text m (head_text h)))

-- ---- terms

found_grows : (at : Place) (m : List Text) (r : Result Found Refusal) → Grows all m (use_found at m r)
found_grows at m (Ok f) = same m
found_grows at m (Err e) = tt

operation_grows : (o : Operation Spelled Label) (sc : Scope) (m : List Text) → Grows all m (resolve_operation o sc m)
operation_grows (Integer n t) sc m = same m
operation_grows (Truth b) sc m = same m
operation_grows Tuple_of sc m = same m
operation_grows (Record_of fs) sc m = same m
operation_grows Array_of sc m = same m
operation_grows (Binary op) sc m = same m
operation_grows Negate sc m = same m
operation_grows Complement sc m = same m
operation_grows (Index is) sc m = same m
operation_grows (Project f) sc m = same m
operation_grows Update sc m = same m
operation_grows (Replace f) sc m = same m
operation_grows (Ascribe t) sc m = behind all all _ _ _ (type_grows t sc m) (λ a n. same n)
operation_grows (Coerce t) sc m = behind all all _ _ _ (type_grows t sc m) (λ a n. same n)
operation_grows (Declared t) sc m = behind all all _ _ _ (type_grows t sc m) (λ a n. same n)
operation_grows Assert sc m = same m
operation_grows (Range stepped end) sc m = same m

led_grows : {A : Type 0} (o : Option Spelled) (sc : Scope) (m : List Text) (r : Numbered A) → Grows all m r → Grows all m (led_by o sc r)
unfolding led_by
led_grows None sc m r g = g
led_grows {A = A} (Some p) sc m r g = where_so (value_of sc p)
  where
    where_so : (q : Result Found Refusal) → Grows all m (where_found q r)
    where_so (Ok f) = g
    where_so (Err e) = tt

mutual
  unfolding resolve resolve_all resolve_turns

  term_grows : (t : SourceTerm) (sc : Scope) (m : List Text) → Grows all m (resolve t sc m)
  term_grows (Use p at k) sc m = found_grows at m (value_of sc p)
  term_grows (Strict o mark ts) sc m = either all _ (is_declared o) _ _
      (behind all all _ _ _ (operation_grows o sc m) (λ a n. behind all all _ _ _ (terms_grow ts sc n) (λ b n. same n)))
      (behind all all _ _ _ (terms_grow ts sc m) (λ a n. behind all all _ _ _ (operation_grows o sc n) (λ b n. same n)))
  term_grows (Lambda ps e) sc m = behind all all _ _ _ (parameters_grow ps sc m) (λ a n. behind all all _ _ _ (term_grows e a.1 n) (λ b n. same n))
  term_grows (Apply f e) sc m = either all _ (stands_behind f) _ _
      (behind all all _ _ _ (term_grows e sc m) (λ a n. behind all all _ _ _ (term_grows f sc n) (λ b n. same n)))
      (behind all all _ _ _ (term_grows f sc m) (λ a n. behind all all _ _ _ (term_grows e sc n) (λ b n. same n)))
  term_grows (Let b v e) sc m = led_grows (section_name e) sc m _ (
      behind all all _ _ _ (sizes_grow b.sizes m) (λ s n.
      behind all all _ _ _ (bound_grows b.pattern (enter s.1 sc) n) (λ p n.
      behind all all _ _ _ (heads_grow b.parameters n) (λ h n.
      behind all all _ _ _ (term_grows v (enter h.1 sc) n) (λ w n.
      behind all all _ _ _ (term_grows e (enter p.1 (enter s.1 sc)) n) (λ w n. same n))))))
  term_grows (If c a b) sc m = behind all all _ _ _ (term_grows c sc m) (λ x n. behind all all _ _ _ (term_grows a sc n) (λ y n. behind all all _ _ _ (term_grows b sc n) (λ z n. same n)))
  term_grows (Loop mark sizes p first turns body) sc m =
      behind all all _ _ _ (sizes_grow sizes m) (λ s n.
      behind all all _ _ _ (bound_grows p (enter s.1 sc) n) (λ q n.
      behind all all _ _ _ (term_grows first sc n) (λ x n.
      behind all all _ _ _ (turns_grow turns sc (enter q.1 (enter s.1 sc)) n) (λ t n.
      behind all all _ _ _ (term_grows body (enter t.1 (enter q.1 (enter s.1 sc))) n) (λ y n. same n)))))

  terms_grow : (ts : Terms Spelled Label) (sc : Scope) (m : List Text) → Grows all m (resolve_all ts sc m)
  terms_grow no_term sc m = same m
  terms_grow (term_and t ts) sc m = behind all all _ _ _ (term_grows t sc m) (λ a n. behind all all _ _ _ (terms_grow ts sc n) (λ b n. same n))

  turns_grow : (t : SourceTurns) (outside inside : Scope) (m : List Text) → Grows all m (resolve_turns t outside inside m)
  turns_grow (Counted x n) outside inside m = further all (one_more m x.name) _ (behind all all _ _ _ (term_grows n outside (with_text m x.name)) (λ a n. same n))
  turns_grow (Over p e) outside inside m = behind all all _ _ _ (bound_grows p inside m) (λ q n. behind all all _ _ _ (term_grows e outside n) (λ a n. same n))
  turns_grow (While c) outside inside m = behind all all _ _ _ (term_grows c inside m) (λ a n. same n)

-- ---- definitions

pub definition_grows : (file : Rattle.std.specs.Prelude.ℕ) (is_entry : Bool) (x : Text) (hs : List Head) (v : SourceTerm) (sc : Scope) (m : List Text) → Grows all m (define file is_entry x hs v sc m)
unfolding define
definition_grows file is_entry x hs v sc m = further all (one_more m x) _ (
    behind all all _ _ _ (heads_grow (source_parameters hs) (with_text m x)) (λ h n.
    behind all all _ _ _ (term_grows v (enter h.1 sc) n) (λ w n. same n)))
