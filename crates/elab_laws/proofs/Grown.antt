-- Resolving a part numbers more and more, and the parts that bind names bind them by new numbers.
use Rattle.std.proofs.Common.{◌≡◌, suc, ◌≤◌, ◌++◌, List, [], ◌∷◌, Bool, true, false, cond, Option, Some, None, Result, Ok, Err, refl, sym, ap, ◌∙◌, subst, arith, length}
use Rattle.std.proofs.lemmas.List.{length-append}
use Rattle.fut_scalar.specs.declared.place.BindId.{BindId}
use Rattle.fut_ast.specs.Sorts.{Text}
use Rattle.fut_ast.specs.declared.node.Label.{Label}
use Rattle.fut_flat.specs.declared.prim.Ref.{Ref}
use Rattle.fut_flat.specs.Erased.{FlatPattern, FlatType}
use Rattle.fut_flat.specs.Sources.{Spelled, SourceSize, WrittenType, SourcePattern}
use Rattle.fut_flat.specs.Terms.{Size_term, Size_use, Size_const, Size_blank, Type_use, Array_type, Unique_type, Arrow_type, Tuple_type, Record_type, Type_terms, no_type, type_and, Type_args, no_arg, size_arg, type_arg, Bound_pattern, Wild_pattern, Tuple_pattern, Record_pattern, Typed_pattern, Patterns, no_pattern, pattern_and}
use Rattle.elab_scopes.specs.Names.{Refusal, Twice}
use Rattle.elab_scopes.specs.Scopes.{Entry, a_value, Found, Scope, size_of, type_of, value_of}
use Rattle.elab_scopes.specs.Resolve.{Numbered, after, led_by, where_found, next, with_text, refers, resolve_size, resolve_type, resolve_types, resolve_arguments, Naming, has, beside, name_pattern, name_patterns}
use Rattle.fut_meaning.specs.Resolved.{Locals, Pattern_resolved, p_bound, p_wild, p_tuple, p_record, p_typed, Patterns_resolved, p_none, p_and}
use Rattle.elab_laws.proofs.Readings.{entered, entered-append}
use Rattle.elab_laws.proofs.Downs.{pattern_up}

-- where one thing after another has a result, the first has one, and what follows it
pub went : {A B S T : Type 0} {C : Type 0} (r : Result (A × S) Refusal) (k : A → S → Result (B × T) Refusal) (z : B × T) → after r k ≡ Ok z → ((a : A) (s : S) → r ≡ Ok (a, s) → k a s ≡ Ok z → C) → C
unfolding after
went (Ok (a, s)) k z e c = c a s refl e
went (Err x) k z e c = absurd (let y : Err x ≡ Ok z = e in cc)

-- and where a name stands before it
pub led_so : {A : Type 0} {C : Type 0} (o : Option Spelled) (sc : Scope) (r : Numbered A) (z : A × List Text) → led_by o sc r ≡ Ok z → (r ≡ Ok z → C) → C
unfolding led_by
led_so None sc r z e c = c e
led_so {A = A} {C = C} (Some p) sc r z e c = found_so (value_of sc p) e
  where
    found_so : (q : Result Found Refusal) → where_found q r ≡ Ok z → C
    found_so (Ok f) g = c g
    found_so (Err x) g = absurd (let y : ◌≡◌ {A = Numbered A} (Err x) (Ok z) = g in cc)

pub ok_part : {A S : Type 0} {a b : A} {s t : S} → ◌≡◌ {A = Result (A × S) Refusal} (Ok (a, s)) (Ok (b, t)) → a ≡ b
ok_part {A} {S} {a} {b} {s} {t} h = let z : ◌≡◌ {A = A × S} (a, s) (b, t) = cc in ap (λ q. q.0) z

pub ok_rest : {A S : Type 0} {a b : A} {s t : S} → ◌≡◌ {A = Result (A × S) Refusal} (Ok (a, s)) (Ok (b, t)) → s ≡ t
ok_rest {A} {S} {a} {b} {s} {t} h = let z : ◌≡◌ {A = A × S} (a, s) (b, t) = cc in ap (λ q. q.1) z

abbrev pub More : List Text → List Text → Type 0
More made made' = length made ≤ length made'

pub more_same : {made made' : List Text} → made ≡ made' → More made made'
more_same e = let h = ap length e in omega (arith, h)

pub more_text : (made : List Text) (x : Text) → length (with_text made x) ≡ suc (length made)
more_text made x = length-append made (x ∷ []) ∙ omega arith

refers_more : {A : Type 0} (made made' : List Text) (k : Ref → A) (r : Result Ref Refusal) (a : A) → refers made k r ≡ Ok (a, made') → More made made'
refers_more made made' k (Ok r) a e = more_same (ok_rest e)
refers_more {A} made made' k (Err x) a e = absurd (let z : ◌≡◌ {A = Result (A × List Text) Refusal} (Err x) (Ok (a, made')) = e in cc)

pub size_more : (s : SourceSize) (sc : Scope) (made made' : List Text) (t : Size_term Ref BindId) → resolve_size s sc made ≡ Ok (t, made') → More made made'
unfolding resolve_size
size_more (Size_use p) sc made made' t e = refers_more made made' Size_use (size_of sc p) t e
size_more (Size_const n) sc made made' t e = more_same (ok_rest e)
size_more (Size_blank x) sc made made' t e = let h = ap length (ok_rest e) in omega (arith, h, more_text made x.name)

-- the end of a form: what it gives, after so much was numbered
ends : {A : Type 0} {a b : A} {m made' : List Text} (made : List Text) → More made m → ◌≡◌ {A = Result (A × List Text) Refusal} (Ok (a, m)) (Ok (b, made')) → More made made'
ends made le e = let h = ap length (ok_rest e) in omega (arith, h, le)

mutual
  unfolding resolve_type resolve_types resolve_arguments

  pub type_more : (t : WrittenType) (sc : Scope) (made made' : List Text) (u : FlatType) → resolve_type t sc made ≡ Ok (u, made') → More made made'
  type_more (Type_use p given) sc made made' u e =
      went _ _ _ e (λ r m h g. went _ _ _ g (λ a n i q. ends made (omega (arith, refers_more made m (λ r. r) (type_of sc p) r h, arguments_more given sc m n a i)) q))
  type_more (Array_type s t) sc made made' u e =
      went _ _ _ e (λ a m h g. went _ _ _ g (λ b n i q. ends made (omega (arith, size_more s sc made m a h, type_more t sc m n b i)) q))
  type_more (Unique_type t) sc made made' u e = went _ _ _ e (λ a m h q. ends made (type_more t sc made m a h) q)
  type_more (Arrow_type None t w) sc made made' u e =
      went _ _ _ e (λ a m h g. went _ _ _ g (λ b n i q. ends made (omega (arith, type_more t sc made m a h, type_more w sc m n b i)) q))
  type_more (Arrow_type (Some x) t w) sc made made' u e =
      went _ _ _ e (λ a m h g. went _ _ _ g (λ b n i q. ends made (omega (arith, more_text made x.name, type_more t sc (with_text made x.name) m a h, type_more w (a_value x.name (next made) ∷ sc) m n b i)) q))
  type_more (Tuple_type ts) sc made made' u e = went _ _ _ e (λ a m h q. ends made (types_more ts sc made m a h) q)
  type_more (Record_type fs ts) sc made made' u e = went _ _ _ e (λ a m h q. ends made (types_more ts sc made m a h) q)

  types_more : (ts : Type_terms Spelled Label) (sc : Scope) (made made' : List Text) (us : Type_terms Ref BindId) → resolve_types ts sc made ≡ Ok (us, made') → More made made'
  types_more no_type sc made made' us e = more_same (ok_rest e)
  types_more (type_and t ts) sc made made' us e =
      went _ _ _ e (λ a m h g. went _ _ _ g (λ b n i q. ends made (omega (arith, type_more t sc made m a h, types_more ts sc m n b i)) q))

  arguments_more : (ts : Type_args Spelled Label) (sc : Scope) (made made' : List Text) (us : Type_args Ref BindId) → resolve_arguments ts sc made ≡ Ok (us, made') → More made made'
  arguments_more no_arg sc made made' us e = more_same (ok_rest e)
  arguments_more (size_arg s rest) sc made made' us e =
      went _ _ _ e (λ a m h g. went _ _ _ g (λ b n i q. ends made (omega (arith, size_more s sc made m a h, arguments_more rest sc m n b i)) q))
  arguments_more (type_arg t rest) sc made made' us e =
      went _ _ _ e (λ a m h g. went _ _ _ g (λ b n i q. ends made (omega (arith, type_more t sc made m a h, arguments_more rest sc m n b i)) q))

-- ---- patterns

-- the names of a pattern so far, over the locals around it
abbrev pub naming : Naming → Locals → Locals
naming s ls = entered s.bound ls

unfoldable pub Named_so : Naming → SourcePattern → FlatPattern → Naming → Type 0
Named_so s p q s' = (ls : Locals) → Pattern_resolved (length s.made) (naming s ls) p q (length s'.made) (naming s' ls)

unfoldable pub All_named_so : Naming → Patterns Spelled Label → Patterns Ref BindId → Naming → Type 0
All_named_so s ps qs s' = (ls : Locals) → Patterns_resolved (length s.made) (naming s ls) ps qs (length s'.made) (naming s' ls)

pub beside_is : {A : Type 0} (bound : List Entry) (r : Numbered A) (a : A) (s : Naming) → beside bound r ≡ Ok (a, s) → (r ≡ Ok (a, s.made)) × (s.bound ≡ bound)
beside_is bound (Ok (b, made)) a s e = (ap (λ z. Ok (z, made)) (ok_part e) ∙ ap (λ z. Ok (a, z.made)) (ok_rest e), sym (ap (λ z. z.bound) (ok_rest e)))
beside_is {A} bound (Err x) a s e = absurd (let z : ◌≡◌ {A = Result (A × Naming) Refusal} (Err x) (Ok (a, s)) = e in cc)

bound_so : (x : Label) (s s' : Naming) (q : FlatPattern) → (t : Bool) → cond {A = Result (FlatPattern × Naming) Refusal} t (Err (Twice x.name x.place)) (Ok (Bound_pattern (next s.made), record { bound = s.bound ++ a_value x.name (next s.made) ∷ []; made = with_text s.made x.name })) ≡ Ok (q, s') → Named_so s (Bound_pattern x) q s'
unfolding Named_so
bound_so x s s' q true e ls = absurd (let z : Err (Twice x.name x.place) ≡ Ok (q, s') = e in cc)
bound_so x s s' q false e ls =
    subst (λ z. Pattern_resolved (length s.made) (naming s ls) (Bound_pattern x) z (length s'.made) (naming s' ls)) (ok_part e)
    (subst (λ z. Pattern_resolved (length s.made) (naming s ls) (Bound_pattern x) (Bound_pattern (next s.made)) (length z.made) (naming z ls)) (ok_rest e)
    (subst (λ z. Pattern_resolved (length s.made) (naming s ls) (Bound_pattern x) (Bound_pattern (next s.made)) (length (with_text s.made x.name)) z) (sym (entered-append s.bound x.name (next s.made) ls))
    (p_bound (omega arith) (omega (arith, more_text s.made x.name)))))

-- behind a pattern's parts nothing more is bound
same_end : (p : SourcePattern) {a q : FlatPattern} (s : Naming) {m s' : Naming} → Named_so s p a m → ◌≡◌ {A = Result (FlatPattern × Naming) Refusal} (Ok (a, m)) (Ok (q, s')) → Named_so s p q s'
unfolding Named_so
same_end p {a} {q} s {m} {s'} r e ls =
    subst (λ z. Pattern_resolved (length s.made) (naming s ls) p z (length s'.made) (naming s' ls)) (ok_part e)
    (subst (λ z. Pattern_resolved (length s.made) (naming s ls) p a (length z.made) (naming z ls)) (ok_rest e) (r ls))

typed_so : (p : SourcePattern) (a : FlatPattern) (t : WrittenType) (u : FlatType) (s m n : Naming) (sc : Scope) → Named_so s p a m → beside m.bound (resolve_type t sc m.made) ≡ Ok (u, n) → Named_so s (Typed_pattern p t) (Typed_pattern a u) n
unfolding Named_so
typed_so p a t u s m n sc r e ls =
    let i = beside_is m.bound (resolve_type t sc m.made) u n e in
    subst (λ z. Pattern_resolved (length s.made) (naming s ls) (Typed_pattern p t) (Typed_pattern a u) (length n.made) (entered z ls)) (sym i.1) (p_typed (pattern_up (type_more t sc m.made n.made u i.0) (r ls)))

mutual
  unfolding name_pattern name_patterns Named_so All_named_so

  pub pattern_so : (p : SourcePattern) (sc : Scope) (s s' : Naming) (q : FlatPattern) → name_pattern p sc s ≡ Ok (q, s') → Named_so s p q s'
  pattern_so (Bound_pattern x) sc s s' q e = bound_so x s s' q (has s.bound x.name) e
  pattern_so Wild_pattern sc s s' q e = same_end Wild_pattern s (λ ls. p_wild (omega arith)) e
  pattern_so (Tuple_pattern ps) sc s s' q e = went _ _ _ e (λ a m h g. same_end (Tuple_pattern ps) s (λ ls. p_tuple (patterns_so ps sc s m a h ls)) g)
  pattern_so (Record_pattern fs ps) sc s s' q e = went _ _ _ e (λ a m h g. same_end (Record_pattern fs ps) s (λ ls. p_record (patterns_so ps sc s m a h ls)) g)
  pattern_so (Typed_pattern p t) sc s s' q e = went _ _ _ e (λ a m h g. went _ _ _ g (λ u n i w. same_end (Typed_pattern p t) s (typed_so p a t u s m n sc (pattern_so p sc s m a h) i) w))

  pub patterns_so : (ps : Patterns Spelled Label) (sc : Scope) (s s' : Naming) (qs : Patterns Ref BindId) → name_patterns ps sc s ≡ Ok (qs, s') → All_named_so s ps qs s'
  patterns_so no_pattern sc s s' qs e ls =
      subst (λ z. Patterns_resolved (length s.made) (naming s ls) no_pattern z (length s'.made) (naming s' ls)) (ok_part e)
      (subst (λ z. Patterns_resolved (length s.made) (naming s ls) no_pattern no_pattern (length z.made) (naming z ls)) (ok_rest e) (p_none (omega arith)))
  patterns_so (pattern_and p ps) sc s s' qs e ls =
      went _ _ _ e (λ a m h g. went _ _ _ g (λ qs n i w.
      subst (λ z. Patterns_resolved (length s.made) (naming s ls) (pattern_and p ps) z (length s'.made) (naming s' ls)) (ok_part w)
      (subst (λ z. Patterns_resolved (length s.made) (naming s ls) (pattern_and p ps) (pattern_and a qs) (length z.made) (naming z ls)) (ok_rest w) (p_and (pattern_so p sc s m a h ls) (patterns_so ps sc m n qs i ls)))))
