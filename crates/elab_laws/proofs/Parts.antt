-- Resolving sizes, types, patterns, parameters and operations binds each new number once.
use Rattle.std.proofs.Common.{◌≡◌, ℕ, ◌++◌, List, [], ◌∷◌, Bool, true, false, cond, Some, None, Result, Ok, Err, refl, sym, ap, subst, length}
use Rattle.fut_scalar.specs.declared.place.BindId.{BindId}
use Rattle.fut_ast.specs.Sorts.{Text}
use Rattle.fut_ast.specs.declared.node.Label.{Label}
use Rattle.fut_flat.specs.declared.prim.Ref.{Ref}
use Rattle.fut_flat.specs.Erased.{FlatPattern, FlatType}
use Rattle.fut_flat.specs.Sources.{Spelled, SourceSize, WrittenType, SourcePattern}
use Rattle.fut_flat.specs.Terms.{Size_term, Size_use, Size_const, Size_blank, Type_use, Array_type, Unique_type, Arrow_type, Tuple_type, Record_type, Type_terms, no_type, type_and, Type_args, no_arg, size_arg, type_arg, Bound_pattern, Wild_pattern, Tuple_pattern, Record_pattern, Typed_pattern, Patterns, no_pattern, pattern_and, Parameter, Size_parameter, Type_parameter, Operation, Ascribe, Coerce, Declared}
use Rattle.elab_scopes.specs.Names.{Refusal, Twice}
use Rattle.elab_scopes.specs.Scopes.{Entry, a_value, Scope, enter, size_of, type_of}
use Rattle.elab_scopes.specs.Resolve.{Numbered, next, with_text, refers, resolve_size, resolve_type, resolve_types, resolve_arguments, Naming, has, beside, name_pattern, name_patterns, Bound, whole, resolve_pattern, resolve_parameters, number_sizes, number_heads, resolve_operation}
use Rattle.elab_laws.proofs.Grown.{went, ok_part, ok_rest, more_text}
use Rattle.elab_laws.specs.Binders.{binders, size_binders, type_binders, all_type_binders, argument_binders, pattern_binders, all_pattern_binders, parameter_binders, operation_binders}
use Rattle.elab_laws.proofs.Filled.{Filled, fill_none, fill_one, fill_both, fill_end}

-- ---- written types

refers_filled : {A : Type 0} (binds : A → List ℕ) (k : Ref → A) → ((r : Ref) → binds (k r) ≡ []) → (made made' : List Text) (r : Result Ref Refusal) (a : A) → refers made k r ≡ Ok (a, made') → Filled (length made) (length made') (binds a)
refers_filled binds k none made made' (Ok r) a e = fill_end binds length (subst (Filled (length made) (length made)) (sym (none r)) (fill_none refl)) e
refers_filled {A} binds k none made made' (Err x) a e = absurd (let z : ◌≡◌ {A = Result (A × List Text) Refusal} (Err x) (Ok (a, made')) = e in cc)

size_filled : (s : SourceSize) (sc : Scope) (made made' : List Text) (t : Size_term Ref BindId) → resolve_size s sc made ≡ Ok (t, made') → Filled (length made) (length made') (size_binders t)
unfolding resolve_size
size_filled (Size_use p) sc made made' t e = refers_filled size_binders Size_use (λ r. refl) made made' (size_of sc p) t e
size_filled (Size_const n) sc made made' t e = fill_end size_binders length (fill_none refl) e
size_filled (Size_blank x) sc made made' t e = fill_end size_binders length (fill_one (more_text made x.name)) e

mutual
  unfolding resolve_type resolve_types resolve_arguments

  pub type_filled : (t : WrittenType) (sc : Scope) (made made' : List Text) (u : FlatType) → resolve_type t sc made ≡ Ok (u, made') → Filled (length made) (length made') (type_binders u)
  type_filled (Type_use p given) sc made made' u e =
      went _ _ _ e (λ r m h g. went _ _ _ g (λ a n i q. fill_end type_binders length (fill_both (refers_filled (λ r. []) (λ r. r) (λ r. refl) made m (type_of sc p) r h) (arguments_filled given sc m n a i)) q))
  type_filled (Array_type s t) sc made made' u e =
      went _ _ _ e (λ a m h g. went _ _ _ g (λ b n i q. fill_end type_binders length (fill_both (size_filled s sc made m a h) (type_filled t sc m n b i)) q))
  type_filled (Unique_type t) sc made made' u e = went _ _ _ e (λ a m h q. fill_end type_binders length (type_filled t sc made m a h) q)
  type_filled (Arrow_type None t w) sc made made' u e =
      went _ _ _ e (λ a m h g. went _ _ _ g (λ b n i q. fill_end type_binders length (fill_both (type_filled t sc made m a h) (type_filled w sc m n b i)) q))
  type_filled (Arrow_type (Some x) t w) sc made made' u e =
      went _ _ _ e (λ a m h g. went _ _ _ g (λ b n i q. fill_end type_binders length (fill_both (fill_one (more_text made x.name)) (fill_both (type_filled t sc (with_text made x.name) m a h) (type_filled w (a_value x.name (next made) ∷ sc) m n b i))) q))
  type_filled (Tuple_type ts) sc made made' u e = went _ _ _ e (λ a m h q. fill_end type_binders length (types_filled ts sc made m a h) q)
  type_filled (Record_type fs ts) sc made made' u e = went _ _ _ e (λ a m h q. fill_end type_binders length (types_filled ts sc made m a h) q)

  types_filled : (ts : Type_terms Spelled Label) (sc : Scope) (made made' : List Text) (us : Type_terms Ref BindId) → resolve_types ts sc made ≡ Ok (us, made') → Filled (length made) (length made') (all_type_binders us)
  types_filled no_type sc made made' us e = fill_end all_type_binders length (fill_none refl) e
  types_filled (type_and t ts) sc made made' us e =
      went _ _ _ e (λ a m h g. went _ _ _ g (λ b n i q. fill_end all_type_binders length (fill_both (type_filled t sc made m a h) (types_filled ts sc m n b i)) q))

  arguments_filled : (ts : Type_args Spelled Label) (sc : Scope) (made made' : List Text) (us : Type_args Ref BindId) → resolve_arguments ts sc made ≡ Ok (us, made') → Filled (length made) (length made') (argument_binders us)
  arguments_filled no_arg sc made made' us e = fill_end argument_binders length (fill_none refl) e
  arguments_filled (size_arg s rest) sc made made' us e =
      went _ _ _ e (λ a m h g. went _ _ _ g (λ b n i q. fill_end argument_binders length (fill_both (size_filled s sc made m a h) (arguments_filled rest sc m n b i)) q))
  arguments_filled (type_arg t rest) sc made made' us e =
      went _ _ _ e (λ a m h g. went _ _ _ g (λ b n i q. fill_end argument_binders length (fill_both (type_filled t sc made m a h) (arguments_filled rest sc m n b i)) q))

-- ---- patterns

abbrev named : Naming → ℕ
named s = length s.made

beside_filled : {A : Type 0} (binds : A → List ℕ) (bound : List Entry) (made : List Text) (r : Numbered A) (a : A) (s : Naming) → ((m : List Text) → r ≡ Ok (a, m) → Filled (length made) (length m) (binds a)) → beside bound r ≡ Ok (a, s) → Filled (length made) (named s) (binds a)
beside_filled binds bound made (Ok (b, m)) a s f e = f s.made (λ i. Ok (ok_part e i, (ok_rest e i).made))
beside_filled {A} binds bound made (Err x) a s f e = absurd (let z : ◌≡◌ {A = Result (A × Naming) Refusal} (Err x) (Ok (a, s)) = e in cc)

bound_filled : (x : Label) (s s' : Naming) (q : FlatPattern) → (t : Bool) → cond {A = Result (FlatPattern × Naming) Refusal} t (Err (Twice x.name x.place)) (Ok (Bound_pattern (next s.made), record { bound = s.bound ++ a_value x.name (next s.made) ∷ []; made = with_text s.made x.name })) ≡ Ok (q, s') → Filled (named s) (named s') (pattern_binders q)
bound_filled x s s' q true e = absurd (let z : Err (Twice x.name x.place) ≡ Ok (q, s') = e in cc)
bound_filled x s s' q false e = fill_end pattern_binders named (fill_one (more_text s.made x.name)) e

mutual
  unfolding name_pattern name_patterns

  pattern_filled : (p : SourcePattern) (sc : Scope) (s s' : Naming) (q : FlatPattern) → name_pattern p sc s ≡ Ok (q, s') → Filled (named s) (named s') (pattern_binders q)
  pattern_filled (Bound_pattern x) sc s s' q e = bound_filled x s s' q (has s.bound x.name) e
  pattern_filled Wild_pattern sc s s' q e = fill_end pattern_binders named (fill_none refl) e
  pattern_filled (Tuple_pattern ps) sc s s' q e = went _ _ _ e (λ a m h g. fill_end pattern_binders named (patterns_filled ps sc s m a h) g)
  pattern_filled (Record_pattern fs ps) sc s s' q e = went _ _ _ e (λ a m h g. fill_end pattern_binders named (patterns_filled ps sc s m a h) g)
  pattern_filled (Typed_pattern p t) sc s s' q e =
      went _ _ _ e (λ a m h g. went _ _ _ g (λ u n i w. fill_end pattern_binders named (fill_both (pattern_filled p sc s m a h) (beside_filled type_binders m.bound m.made (resolve_type t sc m.made) u n (λ k j. type_filled t sc m.made k u j) i)) w))

  patterns_filled : (ps : Patterns Spelled Label) (sc : Scope) (s s' : Naming) (qs : Patterns Ref BindId) → name_patterns ps sc s ≡ Ok (qs, s') → Filled (named s) (named s') (all_pattern_binders qs)
  patterns_filled no_pattern sc s s' qs e = fill_end all_pattern_binders named (fill_none refl) e
  patterns_filled (pattern_and p ps) sc s s' qs e =
      went _ _ _ e (λ a m h g. went _ _ _ g (λ b n i q. fill_end all_pattern_binders named (fill_both (pattern_filled p sc s m a h) (patterns_filled ps sc m n b i)) q))

whole_is : (made : List Text) (r : Result (FlatPattern × Naming) Refusal) (b : Bound FlatPattern) (made' : List Text) → ((s : Naming) → r ≡ Ok (b.0, s) → Filled (length made) (named s) (pattern_binders b.0)) → whole r ≡ Ok (b, made') → Filled (length made) (length made') (pattern_binders b.0)
whole_is made (Ok (q, s)) b made' f e = subst (λ z. Filled (length made) (length z) (pattern_binders b.0)) (ok_rest e) (f s (ap (λ z. Ok (z.0, s)) (ok_part e)))
whole_is made (Err x) b made' f e = absurd (let z : ◌≡◌ {A = Numbered (Bound FlatPattern)} (Err x) (Ok (b, made')) = e in cc)

pub whole_filled : (p : SourcePattern) (sc : Scope) (made made' : List Text) (b : Bound FlatPattern) → resolve_pattern p sc made ≡ Ok (b, made') → Filled (length made) (length made') (pattern_binders b.0)
unfolding resolve_pattern
whole_filled p sc made made' b e = let s : Naming = record { bound = []; made = made } in whole_is made (name_pattern p sc s) b made' (λ s' h. pattern_filled p sc s s' b.0 h) e

pub parameters_filled : (ps : Patterns Spelled Label) (sc : Scope) (made made' : List Text) (r : Patterns Ref BindId × Scope) → resolve_parameters ps sc made ≡ Ok (r, made') → Filled (length made) (length made') (all_pattern_binders r.0)
unfolding resolve_parameters
parameters_filled no_pattern sc made made' r e = fill_end (λ (r : Patterns Ref BindId × Scope). all_pattern_binders r.0) length (fill_none refl) e
parameters_filled (pattern_and p ps) sc made made' r e =
    went _ _ _ e (λ b m h g. went _ _ _ g (λ qs n i q. fill_end (λ (r : Patterns Ref BindId × Scope). all_pattern_binders r.0) length (fill_both (whole_filled p sc made m b h) (parameters_filled ps (enter b.1 sc) m n qs i)) q))

-- ---- size names and heads

sizes_number : (xs : List Label) (made : List Text) → Filled (length made) (length (number_sizes xs made).1) (binders (number_sizes xs made).0.0)
unfolding number_sizes
sizes_number [] made = fill_none refl
sizes_number (x ∷ xs) made = fill_both (fill_one (more_text made x.name)) (sizes_number xs (with_text made x.name))

pub sizes_filled : (xs : List Label) (made made' : List Text) (s : Bound (List BindId)) → ◌≡◌ {A = Numbered (Bound (List BindId))} (Ok (number_sizes xs made)) (Ok (s, made')) → Filled (length made) (length made') (binders s.0)
sizes_filled xs made made' s e = fill_end (λ (s : Bound (List BindId)). binders s.0) length {a = (number_sizes xs made).0} {s = (number_sizes xs made).1} (sizes_number xs made) e

heads_number : (hs : List (Parameter Label)) (made : List Text) → Filled (length made) (length (number_heads hs made).1) (parameter_binders (number_heads hs made).0.0)
unfolding number_heads
heads_number [] made = fill_none refl
heads_number (Size_parameter x ∷ hs) made = fill_both (fill_one (more_text made x.name)) (heads_number hs (with_text made x.name))
heads_number (Type_parameter x lifted ∷ hs) made = fill_both (fill_one (more_text made x.name)) (heads_number hs (with_text made x.name))

pub heads_filled : (hs : List (Parameter Label)) (made made' : List Text) (s : Bound (List (Parameter BindId))) → ◌≡◌ {A = Numbered (Bound (List (Parameter BindId)))} (Ok (number_heads hs made)) (Ok (s, made')) → Filled (length made) (length made') (parameter_binders s.0)
heads_filled hs made made' s e = fill_end (λ (s : Bound (List (Parameter BindId))). parameter_binders s.0) length {a = (number_heads hs made).0} {s = (number_heads hs made).1} (heads_number hs made) e

-- ---- operations

pub operation_filled : (o : Operation Spelled Label) (sc : Scope) (made made' : List Text) (u : Operation Ref BindId) → resolve_operation o sc made ≡ Ok (u, made') → Filled (length made) (length made') (operation_binders u)
operation_filled (Ascribe t) sc made made' u e = went _ _ _ e (λ a m h q. fill_end operation_binders length (type_filled t sc made m a h) q)
operation_filled (Coerce t) sc made made' u e = went _ _ _ e (λ a m h q. fill_end operation_binders length (type_filled t sc made m a h) q)
operation_filled (Declared t) sc made made' u e = went _ _ _ e (λ a m h q. fill_end operation_binders length (type_filled t sc made m a h) q)
operation_filled o sc made made' u e = fill_end operation_binders length (fill_none refl) e
