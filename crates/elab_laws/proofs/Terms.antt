-- What resolving gives of a term stands for the term.
use Rattle.std.proofs.Common.{◌≡◌, ℕ, ◌+◌, ◌≤◌, ◌++◌, List, [], ◌∷◌, Bool, true, false, cond, Result, Ok, Err, sym, ap, ◌∙◌, subst, arith, length}
use Rattle.fut_scalar.specs.declared.place.BindId.{BindId}
use Rattle.fut_scalar.specs.declared.place.Place.{Place}
use Rattle.fut_ast.specs.Sorts.{Text}
use Rattle.fut_ast.specs.declared.node.Label.{Label}
use Rattle.fut_flat.specs.declared.prim.Ref.{Ref}
use Rattle.fut_flat.specs.Erased.{FlatTerm, FlatPattern, FlatTurns}
use Rattle.fut_flat.specs.Sources.{Spelled, SourceTerm, SourcePattern, SourceTurns, names_before}
use Rattle.fut_flat.specs.Terms.{Bound_pattern, Wild_pattern, Tuple_pattern, Record_pattern, Typed_pattern, Patterns, no_pattern, pattern_and, Parameter, Size_parameter, Type_parameter, Operation, Integer, Truth, Tuple_of, Record_of, Array_of, Binary, Negate, Complement, Index, Project, Update, Replace, Ascribe, Coerce, Declared, Assert, Range, Use, Strict, Lambda, Apply, Let, If, Loop, Terms, no_term, term_and, Counted, Over, While}
use Rattle.elab_scopes.specs.Names.{Refusal, Twice}
use Rattle.elab_scopes.specs.Scopes.{Entry, a_value, a_type, a_world, Scope, enter, value_of}
use Rattle.elab_scopes.specs.Resolve.{Numbered, next, with_text, Naming, Bound, has, name_pattern, name_patterns, whole, resolve_pattern, resolve_parameters, number_sizes, number_heads, resolve_operation, is_declared, section_name, use_found, resolve, resolve_all, resolve_turns, stands_behind}
use Rattle.fut_meaning.specs.Sources.{Outside}
use Rattle.fut_meaning.specs.Resolved.{Locals, flat_use, Pattern_resolved, p_bound, p_wild, p_tuple, p_record, p_typed, Patterns_resolved, p_none, p_and, Same_operation, o_integer, o_truth, o_tuple, o_record, o_array, o_binary, o_negate, o_complement, o_index, o_project, o_update, o_replace, o_ascribe, o_coerce, o_declared, o_assert, o_range, Resolved, r_use, r_strict, r_lambda, r_apply, r_let, r_if, r_loop, All_resolved, r_none, r_more, Turns_resolved, r_counted, r_over, r_while, Sizes_resolved, z_none, z_and, Parameters_resolved, g_none, g_size, g_type}
use Rattle.elab_laws.proofs.Told.{Told, All_told, Turns_told}
use Rattle.elab_laws.proofs.Readings.{any_number, Reads, entered, No_world, reads_entered, use_is}
use Rattle.elab_laws.proofs.Downs.{pattern_up, parameters_down, down, all_down, turns_down}
use Rattle.elab_laws.proofs.Grown.{went, led_so, beside_is, ok_part, ok_rest, More, more_same, more_text, type_more, Named_so, pattern_so}

mutual
  pattern_le : {n m : ℕ} {ls inner : Locals} {p : SourcePattern} {q : FlatPattern} → Pattern_resolved n ls p q m inner → n ≤ m
  pattern_le (p_bound a b) = omega (arith, a, b)
  pattern_le (p_wild a) = a
  pattern_le (p_tuple r) = patterns_le r
  pattern_le (p_record r) = patterns_le r
  pattern_le (p_typed r) = pattern_le r

  patterns_le : {n m : ℕ} {ls inner : Locals} {ps : Patterns Spelled Label} {qs : Patterns Ref BindId} → Patterns_resolved n ls ps qs m inner → n ≤ m
  patterns_le (p_none a) = a
  patterns_le (p_and r rs) = omega (arith, pattern_le r, patterns_le rs)

-- ---- patterns and parameters

whole_is : {C : Type 0} (r : Result (FlatPattern × Naming) Refusal) (b : Bound FlatPattern) (made' : List Text) → whole r ≡ Ok (b, made') → ((s : Naming) → r ≡ Ok (b.0, s) → s.bound ≡ b.1 → s.made ≡ made' → C) → C
whole_is (Ok (q, s)) b made' e c = c s (ap (λ z. Ok (z.0, s)) (ok_part e)) (ap (λ z. z.1) (ok_part e)) (ok_rest e)
whole_is (Err x) b made' e c = absurd (let z : ◌≡◌ {A = Numbered (Bound FlatPattern)} (Err x) (Ok (b, made')) = e in cc)

whole_so : (p : SourcePattern) (sc : Scope) (made made' : List Text) (b : Bound FlatPattern) (ls : Locals) → resolve_pattern p sc made ≡ Ok (b, made') → Pattern_resolved (length made) ls p b.0 (length made') (entered b.1 ls)
unfolding resolve_pattern Named_so entered
whole_so p sc made made' b ls e =
    whole_is _ b made' e (λ s h g i.
    subst (λ z. Pattern_resolved (length made) ls p b.0 (length z) (entered b.1 ls)) i
    (subst (λ z. Pattern_resolved (length made) ls p b.0 (length s.made) (entered z ls)) g (pattern_so p sc (record { bound = []; made = made }) s b.0 h ls)))

-- a pattern binds local names alone
local_more : (es : List Entry) (x : Text) (b : BindId) → No_world es → No_world (es ++ a_value x b ∷ [])
local_more [] x b n = tt
local_more (a_value y c ∷ es) x b n = local_more es x b n
local_more (a_type y c ∷ es) x b n = local_more es x b n
local_more (a_world w ∷ es) x b n = absurd n

bound_local : (x : Label) (s s' : Naming) (q : FlatPattern) → (t : Bool) → cond {A = Result (FlatPattern × Naming) Refusal} t (Err (Twice x.name x.place)) (Ok (Bound_pattern (next s.made), record { bound = s.bound ++ a_value x.name (next s.made) ∷ []; made = with_text s.made x.name })) ≡ Ok (q, s') → No_world s.bound → No_world s'.bound
bound_local x s s' q true e n = absurd (let z : Err (Twice x.name x.place) ≡ Ok (q, s') = e in cc)
bound_local x s s' q false e n = subst (λ z. No_world z.bound) (ok_rest e) (local_more s.bound x.name (next s.made) n)

mutual
  unfolding name_pattern name_patterns

  pattern_local : (p : SourcePattern) (sc : Scope) (s s' : Naming) (q : FlatPattern) → name_pattern p sc s ≡ Ok (q, s') → No_world s.bound → No_world s'.bound
  pattern_local (Bound_pattern x) sc s s' q e n = bound_local x s s' q (has s.bound x.name) e n
  pattern_local Wild_pattern sc s s' q e n = subst (λ z. No_world z.bound) (ok_rest e) n
  pattern_local (Tuple_pattern ps) sc s s' q e n = went _ _ _ e (λ a m h g. subst (λ z. No_world z.bound) (ok_rest g) (patterns_local ps sc s m a h n))
  pattern_local (Record_pattern fs ps) sc s s' q e n = went _ _ _ e (λ a m h g. subst (λ z. No_world z.bound) (ok_rest g) (patterns_local ps sc s m a h n))
  pattern_local (Typed_pattern p t) sc s s' q e n = went _ _ _ e (λ a m h g. went _ _ _ g (λ u k i w.
      subst (λ z. No_world z.bound) (ok_rest w) (subst No_world (sym (beside_is m.bound _ u k i).1) (pattern_local p sc s m a h n))))

  patterns_local : (ps : Patterns Spelled Label) (sc : Scope) (s s' : Naming) (qs : Patterns Ref BindId) → name_patterns ps sc s ≡ Ok (qs, s') → No_world s.bound → No_world s'.bound
  patterns_local no_pattern sc s s' qs e n = subst (λ z. No_world z.bound) (ok_rest e) n
  patterns_local (pattern_and p ps) sc s s' qs e n = went _ _ _ e (λ a m h g. went _ _ _ g (λ b k i w.
      subst (λ z. No_world z.bound) (ok_rest w) (patterns_local ps sc m k b i (pattern_local p sc s m a h n))))

pub whole_local : (p : SourcePattern) (sc : Scope) (made made' : List Text) (b : Bound FlatPattern) → resolve_pattern p sc made ≡ Ok (b, made') → No_world b.1
unfolding resolve_pattern
whole_local p sc made made' b e = whole_is _ b made' e (λ s h g i. subst No_world g (pattern_local p sc (record { bound = []; made = made }) s b.0 h tt))

record Parameters_so (ls : Locals) (outside : Outside) (made made' : List Text) (ps : Patterns Spelled Label) (qs : Patterns Ref BindId) (sc : Scope) : Type 0 where
  inner : Locals
  patterns : Patterns_resolved (length made) ls ps qs (length made') inner
  reads : Reads sc inner outside

parameters_so : (ps : Patterns Spelled Label) (sc : Scope) (made made' : List Text) (r : Patterns Ref BindId × Scope) (ls : Locals) (outside : Outside) → Reads sc ls outside → resolve_parameters ps sc made ≡ Ok (r, made') → Parameters_so ls outside made made' ps r.0 r.1
unfolding resolve_parameters
parameters_so no_pattern sc made made' r ls outside rd e =
    subst (λ z. Parameters_so ls outside made made' no_pattern z.0 z.1) (ok_part e)
    (subst (λ z. Parameters_so ls outside made z no_pattern no_pattern sc) (ok_rest e) (record { inner = ls; patterns = p_none (omega arith); reads = rd }))
parameters_so (pattern_and p ps) sc made made' r ls outside rd e =
    went _ _ _ e (λ b m h g. went _ _ _ g (λ qs n i w.
    let rest = parameters_so ps (enter b.1 sc) m n qs (entered b.1 ls) outside (reads_entered b.1 (whole_local p sc made m b h) rd) i in
    subst (λ z. Parameters_so ls outside made made' (pattern_and p ps) z.0 z.1) (ok_part w)
    (subst (λ z. Parameters_so ls outside made z (pattern_and p ps) (pattern_and b.0 qs.0) qs.1) (ok_rest w)
    (record { inner = rest.inner; patterns = p_and (whole_so p sc made m b ls h) rest.patterns; reads = rest.reads }))))

-- ---- sizes, and size and type parameters

sizes_le : {n m : ℕ} {ls inner : Locals} {xs : List Label} {ys : List BindId} → Sizes_resolved n ls xs ys m inner → n ≤ m
sizes_le (z_none a) = a
sizes_le (z_and a b r) = omega (arith, a, b, sizes_le r)

parameters_le : {n m : ℕ} {ls inner : Locals} {hs : List (Parameter Label)} {gs : List (Parameter BindId)} → Parameters_resolved n ls hs gs m inner → n ≤ m
parameters_le (g_none a) = a
parameters_le (g_size a b r) = omega (arith, a, b, parameters_le r)
parameters_le (g_type r) = parameters_le r

sizes_so : (xs : List Label) (made : List Text) (ls : Locals) → Sizes_resolved (length made) ls xs (number_sizes xs made).0.0 (length (number_sizes xs made).1) (entered (number_sizes xs made).0.1 ls)
unfolding number_sizes entered
sizes_so [] made ls = z_none (omega arith)
sizes_so (x ∷ xs) made ls = z_and (omega arith) (omega (arith, more_text made x.name)) (sizes_so xs (with_text made x.name) ((x.name, length made) ∷ ls))

pub sizes_local : (xs : List Label) (made : List Text) → No_world (number_sizes xs made).0.1
unfolding number_sizes
sizes_local [] made = tt
sizes_local (x ∷ xs) made = sizes_local xs (with_text made x.name)

heads_so : (hs : List (Parameter Label)) (made : List Text) (ls : Locals) → Parameters_resolved (length made) ls hs (number_heads hs made).0.0 (length (number_heads hs made).1) (entered (number_heads hs made).0.1 ls)
unfolding number_heads entered
heads_so [] made ls = g_none (omega arith)
heads_so (Size_parameter x ∷ hs) made ls = g_size (omega arith) (omega (arith, more_text made x.name)) (heads_so hs (with_text made x.name) ((x.name, length made) ∷ ls))
heads_so (Type_parameter x lifted ∷ hs) made ls = g_type (parameters_down (omega (arith, more_text made x.name)) (heads_so hs (with_text made x.name) ls))

pub heads_local : (hs : List (Parameter Label)) (made : List Text) → No_world (number_heads hs made).0.1
unfolding number_heads
heads_local [] made = tt
heads_local (Size_parameter x ∷ hs) made = heads_local hs (with_text made x.name)
heads_local (Type_parameter x lifted ∷ hs) made = heads_local hs (with_text made x.name)

record Sizes_are (made m : List Text) (ls : Locals) (xs : List Label) (s : Bound (List BindId)) : Type 0 where
  resolved : Sizes_resolved (length made) ls xs s.0 (length m) (entered s.1 ls)
  local : No_world s.1

sizes_are : (xs : List Label) (made m : List Text) (s : Bound (List BindId)) (ls : Locals) → ◌≡◌ {A = Numbered (Bound (List BindId))} (Ok (number_sizes xs made)) (Ok (s, m)) → Sizes_are made m ls xs s
sizes_are xs made m s ls e =
    subst (λ z. Sizes_are made m ls xs z) (ok_part e) (subst (λ z. Sizes_are made z ls xs (number_sizes xs made).0) (ok_rest e) (record { resolved = sizes_so xs made ls; local = sizes_local xs made }))

record Heads_are (made m : List Text) (ls : Locals) (hs : List (Parameter Label)) (g : Bound (List (Parameter BindId))) : Type 0 where
  resolved : Parameters_resolved (length made) ls hs g.0 (length m) (entered g.1 ls)
  local : No_world g.1

heads_are : (hs : List (Parameter Label)) (made m : List Text) (g : Bound (List (Parameter BindId))) (ls : Locals) → ◌≡◌ {A = Numbered (Bound (List (Parameter BindId)))} (Ok (number_heads hs made)) (Ok (g, m)) → Heads_are made m ls hs g
heads_are hs made m g ls e =
    subst (λ z. Heads_are made m ls hs z) (ok_part e) (subst (λ z. Heads_are made z ls hs (number_heads hs made).0) (ok_rest e) (record { resolved = heads_so hs made ls; local = heads_local hs made }))

pub heads_more : (hs : List (Parameter Label)) (made : List Text) → More made (number_heads hs made).1
heads_more hs made = parameters_le (heads_so hs made [])

-- ---- operations

record Operation_so (made made' : List Text) (o : Operation Spelled Label) (u : Operation Ref BindId) : Type 0 where
  same : Same_operation o u
  more : More made made'

op_ends : {made m made' : List Text} {o : Operation Spelled Label} {a u : Operation Ref BindId} → Same_operation o a → More made m → ◌≡◌ {A = Numbered (Operation Ref BindId)} (Ok (a, m)) (Ok (u, made')) → Operation_so made made' o u
op_ends {made} {m} {made'} {o} {a} {u} s le e = subst (λ z. Operation_so made made' o z) (ok_part e) (subst (λ z. Operation_so made z o a) (ok_rest e) (record { same = s; more = le }))

operation_so : (o : Operation Spelled Label) (sc : Scope) (made made' : List Text) (u : Operation Ref BindId) → resolve_operation o sc made ≡ Ok (u, made') → Operation_so made made' o u
operation_so (Integer n t) sc made made' u e = op_ends o_integer (omega arith) e
operation_so (Truth b) sc made made' u e = op_ends o_truth (omega arith) e
operation_so Tuple_of sc made made' u e = op_ends o_tuple (omega arith) e
operation_so (Record_of fs) sc made made' u e = op_ends o_record (omega arith) e
operation_so Array_of sc made made' u e = op_ends o_array (omega arith) e
operation_so (Binary op) sc made made' u e = op_ends o_binary (omega arith) e
operation_so Negate sc made made' u e = op_ends o_negate (omega arith) e
operation_so Complement sc made made' u e = op_ends o_complement (omega arith) e
operation_so (Index is) sc made made' u e = op_ends o_index (omega arith) e
operation_so (Project f) sc made made' u e = op_ends o_project (omega arith) e
operation_so Update sc made made' u e = op_ends o_update (omega arith) e
operation_so (Replace f) sc made made' u e = op_ends o_replace (omega arith) e
operation_so (Ascribe t) sc made made' u e = went _ _ _ e (λ a m h g. op_ends o_ascribe (type_more t sc made m a h) g)
operation_so (Coerce t) sc made made' u e = went _ _ _ e (λ a m h g. op_ends o_coerce (type_more t sc made m a h) g)
operation_so (Declared t) sc made made' u e = went _ _ _ e (λ a m h g. op_ends o_declared (type_more t sc made m a h) g)
operation_so Assert sc made made' u e = op_ends o_assert (omega arith) e
operation_so (Range stepped end) sc made made' u e = op_ends o_range (omega arith) e

-- ---- terms

pub record Term_so (made made' : List Text) (ls : Locals) (outside : Outside) (t : SourceTerm) (u : FlatTerm) : Type 0 where
  pub more : More made made'
  pub resolved : Resolved (length made) ls outside t u

record All_so (made made' : List Text) (ls : Locals) (outside : Outside) (ts : Terms Spelled Label) (us : Terms Ref BindId) : Type 0 where
  more : More made made'
  resolved : All_resolved (length made) ls outside ts us

-- with the number up to which a turn binds names
record Turns_so (made made' : List Text) (ls inside : Locals) (outside : Outside) (ts : SourceTurns) (us : FlatTurns) (es : List Entry) : Type 0 where
  more : More made made'
  upto : ℕ
  within : upto ≤ length made'
  local : No_world es
  resolved : Turns_resolved (length made) ls (length made) inside outside ts us upto (entered es inside)

term_ends : {made m made' : List Text} {ls : Locals} {outside : Outside} {t : SourceTerm} {a u : FlatTerm} → Resolved (length made) ls outside t a → More made m → ◌≡◌ {A = Numbered FlatTerm} (Ok (a, m)) (Ok (u, made')) → Term_so made made' ls outside t u
term_ends {made} {m} {made'} {ls} {outside} {t} {a} {u} r le e = subst (λ z. Term_so made made' ls outside t z) (ok_part e) (subst (λ z. Term_so made z ls outside t a) (ok_rest e) (record { more = le; resolved = r }))

all_ends : {made m made' : List Text} {ls : Locals} {outside : Outside} {ts : Terms Spelled Label} {a us : Terms Ref BindId} → All_resolved (length made) ls outside ts a → More made m → ◌≡◌ {A = Numbered (Terms Ref BindId)} (Ok (a, m)) (Ok (us, made')) → All_so made made' ls outside ts us
all_ends {made} {m} {made'} {ls} {outside} {ts} {a} {us} r le e = subst (λ z. All_so made made' ls outside ts z) (ok_part e) (subst (λ z. All_so made z ls outside ts a) (ok_rest e) (record { more = le; resolved = r }))

turns_ends : {made m made' : List Text} {ls inside : Locals} {outside : Outside} {ts : SourceTurns} {a b : Bound FlatTurns} → Turns_so made m ls inside outside ts a.0 a.1 → ◌≡◌ {A = Numbered (Bound FlatTurns)} (Ok (a, m)) (Ok (b, made')) → Turns_so made made' ls inside outside ts b.0 b.1
turns_ends {made} {m} {made'} {ls} {inside} {outside} {ts} {a} {b} r e = subst (λ z. Turns_so made made' ls inside outside ts z.0 z.1) (ok_part e) (subst (λ z. Turns_so made z ls inside outside ts a.0 a.1) (ok_rest e) r)

use_so : (sc : Scope) (p : Spelled) (at : Place) (k : ℕ) (made made' : List Text) (u : FlatTerm) (ls : Locals) (outside : Outside) → k ≡ names_before p.path → Reads sc ls outside → use_found at made (value_of sc p) ≡ Ok (u, made') → Term_so made made' ls outside (Use p at k) u
unfolding value_of
use_so sc p at k made made' u ls outside n r e =
    let i = use_is any_number sc p.place at p.path made made' u r.under e in
    record { more = more_same i.same; resolved = r_use i.modules (ap (flat_use at i.modules) (sym (r.reads p.place p.path)) ∙ i.is) n (i.many ∙ ap (λ z. 1 + (z + z)) (sym n)) }

pub either_order : {C A E : Type 0} (t : Bool) {x y : Result A E} {z : A} → cond t x y ≡ Ok z → (x ≡ Ok z → C) → (y ≡ Ok z → C) → C
either_order true e f g = f e
either_order false e f g = g e

counted_so : (x : Label) (n : SourceTerm) (made m : List Text) (a : FlatTerm) (ls inside : Locals) (outside : Outside) → Term_so (with_text made x.name) m ls outside n a → Turns_so made m ls inside outside (Counted x n) (Counted (next made) a) (a_value x.name (next made) ∷ [])
unfolding entered
counted_so x n made m a ls inside outside y =
    record { more = omega (arith, more_text made x.name, y.more); upto = length m; within = omega arith; local = tt; resolved = r_counted (down (omega (arith, more_text made x.name)) y.resolved) (omega arith) (omega (arith, more_text made x.name, y.more)) }

while_so : (c : SourceTerm) (made m : List Text) (a : FlatTerm) (ls inside : Locals) (outside : Outside) → Term_so made m inside outside c a → Turns_so made m ls inside outside (While c) (While a) []
unfolding entered
while_so c made m a ls inside outside y = record { more = y.more; upto = length made; within = y.more; local = tt; resolved = r_while y.resolved }

mutual
  unfolding resolve resolve_all resolve_turns

  pub term_so : (t : SourceTerm) (sc : Scope) (made made' : List Text) (u : FlatTerm) (ls : Locals) (outside : Outside) → Told t → Reads sc ls outside → resolve t sc made ≡ Ok (u, made') → Term_so made made' ls outside t u
  term_so (Use p at k) sc made made' u ls outside n r e = use_so sc p at k made made' u ls outside n r e
  term_so (Strict o mark ts) sc made made' u ls outside n r e =
      either_order (is_declared o) e
      (λ g. went _ _ _ g (λ a m h w. went _ _ _ w (λ us l i q.
      let x = operation_so o sc made m a h in
      let y = all_so ts sc m l us ls outside n r i in
      term_ends (r_strict x.same (all_down x.more y.resolved)) (omega (arith, x.more, y.more)) q)))
      (λ g. went _ _ _ g (λ us m h w. went _ _ _ w (λ a l i q.
      let y = all_so ts sc made m us ls outside n r h in
      let x = operation_so o sc m l a i in
      term_ends (r_strict x.same y.resolved) (omega (arith, x.more, y.more)) q)))
  term_so (Lambda ps body) sc made made' u ls outside n r e =
      went _ _ _ e (λ a m h g. went _ _ _ g (λ b l i q.
      let x = parameters_so ps sc made m a ls outside r h in
      let y = term_so body a.1 m l b x.inner outside n x.reads i in
      term_ends (r_lambda x.patterns y.resolved) (omega (arith, patterns_le x.patterns, y.more)) q))
  term_so (Apply f a) sc made made' u ls outside n r e =
      either_order (stands_behind f) e
      (λ g. went _ _ _ g (λ b m h w. went _ _ _ w (λ c l i q.
      let y = term_so a sc made m b ls outside n.1 r h in
      let x = term_so f sc m l c ls outside n.0 r i in
      term_ends (r_apply (down y.more x.resolved) y.resolved) (omega (arith, x.more, y.more)) q)))
      (λ g. went _ _ _ g (λ c m h w. went _ _ _ w (λ b l i q.
      let x = term_so f sc made m c ls outside n.0 r h in
      let y = term_so a sc m l b ls outside n.1 r i in
      term_ends (r_apply x.resolved (down x.more y.resolved)) (omega (arith, x.more, y.more)) q)))
  term_so (Let b v body) sc made made' u ls outside n r e =
      led_so (section_name body) sc _ _ e (λ g0. went _ _ _ g0 (λ s m1 h1 g1. went _ _ _ g1 (λ p m2 h2 g2. went _ _ _ g2 (λ hs m3 h3 g3. went _ _ _ g3 (λ v' m4 h4 g4. went _ _ _ g4 (λ e' m5 h5 q.
      let z = sizes_are b.sizes made m1 s ls h1 in
      let inner = reads_entered s.1 z.local r in
      let x = whole_so b.pattern (enter s.1 sc) m1 m2 p (entered s.1 ls) h2 in
      let g = heads_are b.parameters m2 m3 hs ls h3 in
      let y = term_so v (enter hs.1 sc) m3 m4 v' (entered hs.1 ls) outside n.0 (reads_entered hs.1 g.local r) h4 in
      let w = term_so body (enter p.1 (enter s.1 sc)) m4 m5 e' (entered p.1 (entered s.1 ls)) outside n.1 (reads_entered p.1 (whole_local b.pattern (enter s.1 sc) m1 m2 p h2) inner) h5 in
      term_ends (r_let z.resolved x (parameters_down (omega (arith, sizes_le z.resolved, pattern_le x)) g.resolved) y.resolved (down (omega (arith, parameters_le g.resolved, y.more)) w.resolved))
      (omega (arith, sizes_le z.resolved, pattern_le x, parameters_le g.resolved, y.more, w.more)) q))))))
  term_so (If c a b) sc made made' u ls outside n r e =
      went _ _ _ e (λ c' m h w. went _ _ _ w (λ a' l i w'. went _ _ _ w' (λ b' k j q.
      let x = term_so c sc made m c' ls outside n.0 r h in
      let y = term_so a sc m l a' ls outside n.1 r i in
      let z = term_so b sc l k b' ls outside n.2 r j in
      term_ends (r_if x.resolved (down x.more y.resolved) (down (omega (arith, x.more, y.more)) z.resolved)) (omega (arith, x.more, y.more, z.more)) q)))
  term_so (Loop mark sizes p first turns body) sc made made' u ls outside n r e =
      went _ _ _ e (λ s m1 h1 g1. went _ _ _ g1 (λ p' m2 h2 g2. went _ _ _ g2 (λ f m3 h3 g3. went _ _ _ g3 (λ t m4 h4 g4. went _ _ _ g4 (λ b m5 h5 q.
      let z = sizes_are sizes made m1 s ls h1 in
      let x = whole_so p (enter s.1 sc) m1 m2 p' (entered s.1 ls) h2 in
      let inner = reads_entered p'.1 (whole_local p (enter s.1 sc) m1 m2 p' h2) (reads_entered s.1 z.local r) in
      let y = term_so first sc m2 m3 f ls outside n.0 r h3 in
      let w = turns_so turns sc (enter p'.1 (enter s.1 sc)) m3 m4 t ls (entered p'.1 (entered s.1 ls)) outside n.1 r inner h4 in
      let v = term_so body (enter t.1 (enter p'.1 (enter s.1 sc))) m4 m5 b (entered t.1 (entered p'.1 (entered s.1 ls))) outside n.2 (reads_entered t.1 w.local inner) h5 in
      term_ends (r_loop (down (omega (arith, sizes_le z.resolved, pattern_le x)) y.resolved) z.resolved (pattern_up y.more x) (turns_down (omega (arith, sizes_le z.resolved, pattern_le x, y.more)) w.resolved) (down w.within v.resolved))
      (omega (arith, sizes_le z.resolved, pattern_le x, y.more, w.more, v.more)) q)))))

  all_so : (ts : Terms Spelled Label) (sc : Scope) (made made' : List Text) (us : Terms Ref BindId) (ls : Locals) (outside : Outside) → All_told ts → Reads sc ls outside → resolve_all ts sc made ≡ Ok (us, made') → All_so made made' ls outside ts us
  all_so no_term sc made made' us ls outside n r e = all_ends r_none (omega arith) e
  all_so (term_and t ts) sc made made' us ls outside n r e =
      went _ _ _ e (λ a m h w. went _ _ _ w (λ b l i q.
      let x = term_so t sc made m a ls outside n.0 r h in
      let y = all_so ts sc m l b ls outside n.1 r i in
      all_ends (r_more x.resolved (all_down x.more y.resolved)) (omega (arith, x.more, y.more)) q))

  turns_so : (ts : SourceTurns) (out inner : Scope) (made made' : List Text) (b : Bound FlatTurns) (ls inside : Locals) (outside : Outside) → Turns_told ts → Reads out ls outside → Reads inner inside outside → resolve_turns ts out inner made ≡ Ok (b, made') → Turns_so made made' ls inside outside ts b.0 b.1
  turns_so (Counted x n) out inner made made' b ls inside outside pl r ri e =
      went _ _ _ e (λ a m h q.
      let y = term_so n out (with_text made x.name) m a ls outside pl r h in
      turns_ends (counted_so x n made m a ls inside outside y) q)
  turns_so (Over p a) out inner made made' b ls inside outside pl r ri e =
      went _ _ _ e (λ p' m h w. went _ _ _ w (λ a' l i q.
      let x = whole_so p inner made m p' inside h in
      let y = term_so a out m l a' ls outside pl r i in
      turns_ends (record { more = omega (arith, pattern_le x, y.more); upto = length m; within = y.more; local = whole_local p inner made m p' h; resolved = r_over (down (pattern_le x) y.resolved) x }) q))
  turns_so (While c) out inner made made' b ls inside outside pl r ri e =
      went _ _ _ e (λ a m h q.
      let y = term_so c inner made m a inside outside pl ri h in
      turns_ends (while_so c made m a ls inside outside y) q)
