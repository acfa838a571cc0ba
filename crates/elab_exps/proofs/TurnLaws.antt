-- Which turns a loop takes, and whole loops.
use Rattle.std.proofs.Common.{◌≡◌, ℕ, List, [], ◌∷◌, length, refl, sym, ◌∙◌, ap, subst, Result, Ok, Err}
use Rattle.std.specs.Borrow.{Bor}
use Rattle.fut_scalar.specs.declared.place.BindId.{BindId}
use Rattle.fut_scalar.specs.declared.place.Place.{Place}
use Rattle.fut_ast.specs.Sorts.{Text}
use Rattle.fut_ast.specs.declared.exp.LoopForm.TheVariants as plain_loop
use Rattle.fut_tree.specs.declared.exp.LoopForm.{LoopForm}
use Rattle.fut_tree.specs.declared.exp.LoopForm.TheVariants as held_loop
use Rattle.fut_tree.specs.Exps.{loop_of}
use Rattle.fut_flat.specs.declared.exp.Exp.{Exp as Flat}
use Rattle.fut_flat.specs.declared.exp.LoopForm.TheVariants as flat_loop
use Rattle.fut_flat.specs.Terms.{Counted, Over, While, Loop}
use Rattle.fut_flat.specs.Erased.{FlatPattern, FlatTerm, FlatTurns, pattern_of}
use Rattle.fut_flat.specs.Sources.{SourcePattern, SourceTerm, labels, source_pattern, source_term}
use Rattle.fut_flat.proofs.ErasedForms.{turns_of, turns_counted, turns_over, turns_while}
use Rattle.fut_flat.proofs.SourceForms as sources
use Rattle.elab_scopes.specs.declared.refusal.Stop.{Stop}
use Rattle.elab_scopes.specs.declared.table.Names.{Names}
use Rattle.elab_scopes.specs.Scopes.{Entry, Scope, a_value, enter}
use Rattle.elab_scopes.specs.Resolve.{Bound, Numbered, after, next, with_text, resolve, resolve_pattern, resolve_turns}
use Rattle.elab_scopes.specs.Answers.{Went, went, refused, no_memory, Entered, entered, not_entered, no_memory_entered}
use Rattle.elab_scopes.specs.Table.{scope_of, made_of, entries_of, outside}
use Rattle.elab_scopes.proofs.Walking.{after_assoc}
use Rattle.elab_nodes.specs.declared.rows.Bound.{Bound as LoopBound}
use Rattle.elab_nodes.specs.declared.rows.Turning.{Turning}
use Rattle.elab_nodes.specs.Built.{Built2, built2, first_of_two, second_of_two, no_memory2, Built4, built4, second_of_four, third_of_four, fourth_of_four, no_memory4}
use Rattle.elab_nodes.specs.Held.{held_term}
use Rattle.elab_nodes.proofs.Steps.{Does, and_next, by_same, stopped}
use Rattle.elab_types.specs.declared.pats.Bound.{Bound as HeldBound}
use Rattle.elab_types.specs.Numbering.{Numbers, numbers, no_number, Comes, comes, comes_not, comes_stopped}
use Rattle.elab_types.specs.Bindings.{Brings, brings, bound_pattern_of, sizes_numbered}
use Rattle.elab_exps.specs.declared.heads.Head.{Head}
use Rattle.elab_exps.specs.Heads.{head_of, Behind, now_behind, not_behind, Brought_name, brought_name, not_brought_name, Brought_pattern, brought_pattern, no_bound, not_brought_pattern}
use Rattle.elab_exps.specs.Parts.{Headed, behind, counted_part, inside_pattern, over_part, sized_pattern, source_of, turns_part, while_part}
use Rattle.elab_exps.proofs.Above.{Rises, rises, above_all, enter_above, one_above, rises_behind, scoped}
use Rattle.elab_exps.proofs.RowLaws.{behind_above, entered_any, sizes_anywhere}

-- ---- as many as a number

pub count_made : (x : Text) (n : SourceTerm) (h : Head) (s s1 s2 s3 s4 : Names) (b c : BindId) (e : Bor Flat) (w : Unit {0}) → Numbers x s s1 (Ok b) → Went held_term (resolve n) s1 s2 (Ok e) → Behind (head_of h) s2 s3 (Ok w) → Comes x (Ok b) s3 s4 (Ok c)
    → Entered (λ (t : Turning). turns_of t.form) (counted_part x n (head_of h) (scope_of s) (made_of s)) s4 (Ok (record { form = flat_loop.For c e.now }))
unfolding counted_part after
count_made x n h s s1 s2 s3 s4 b c e w (numbers is more same held) (went g sg) (now_behind sb mb) (comes sc mc bc) = entered (
    ap (λ r. after r (λ n more. Ok ((Counted (next (made_of s)) n, a_value x (next (made_of s)) ∷ behind (head_of h) (scope_of s)), more))) ((λ i. resolve n (sym same i) (sym more i)) ∙ g)
    ∙ (λ i. Ok ((Counted (sym is i) (held_term e), a_value x (sym is i) ∷ place i), sym (mc ∙ mb) i))
    ∙ (λ i. Ok ((sym (turns_counted c e.now) i, sym sc i), made_of s4)))
  where
    place : behind (head_of h) (scope_of s) ≡ scope_of s3
    place = (λ i. behind (head_of h) (sym (sg ∙ same) i)) ∙ sym sb

pub count_second : (x : Text) (n : SourceTerm) (h : Headed) (s s1 s2 : Names) (b : BindId) (e : Stop) → Numbers x s s1 (Ok b) → Went held_term (resolve n) s1 s2 (Err e) → Entered (λ (t : Turning). turns_of t.form) (counted_part x n h (scope_of s) (made_of s)) s2 (Err e)
unfolding counted_part after
count_second x n h s s1 s2 b _ (numbers is more same held) (refused g) =
    not_entered (ap (λ r. after r (λ n more. Ok ((Counted (next (made_of s)) n, a_value x (next (made_of s)) ∷ behind h (scope_of s)), more))) ((λ i. resolve n (sym same i) (sym more i)) ∙ g))
count_second x n h s s1 s2 b _ (numbers is more same held) no_memory = no_memory_entered

pub counted_entered : (x : Text) (n : SourceTerm) (h : Head) (s s1 s2 t : Names) (b c : Result BindId Stop) (e : Result (Bor Flat) Stop) (r : Result Turning Stop)
    → Numbers x s s1 b → Went held_term (resolve n) s1 s2 e → Brought_name (head_of h) x b s2 t c → Built2 (λ (b : BindId) (e : Bor Flat) (t : Turning). t ≡ record { form = flat_loop.For b e.now }) c e r
    → Entered (λ (t : Turning). turns_of t.form) (counted_part x n (head_of h) (scope_of s) (made_of s)) t r
counted_entered x n h s s1 s2 t _ _ _ _ p w (brought_name {u = u} {w = k} behind (comes {b = b} sc mc bc)) (built2 {b = e} is) =
    subst (λ z. Entered (λ (t : Turning). turns_of t.form) (counted_part x n (head_of h) (scope_of s) (made_of s)) t (Ok z)) (sym is) (count_made x n h s s1 s2 u t b b e k p w behind (comes sc mc bc))
counted_entered x n h s s1 s2 t _ _ e _ no_number w (brought_name behind comes_stopped) first_of_two = no_memory_entered
counted_entered x n h s s1 s2 t b _ e _ p w (brought_name behind comes_not) first_of_two = no_memory_entered
counted_entered x n h s s1 s2 t b _ e _ p w not_brought_name first_of_two = no_memory_entered
counted_entered x n h s s1 s2 t _ _ _ _ p w (brought_name behind (comes {b = b} sc mc bc)) second_of_two = entered_any (count_second x n (head_of h) s s1 s2 b _ p w)
counted_entered x n h s s1 s2 t b c e _ p w k no_memory2 = no_memory_entered

-- ---- one for each element

pub array_made : (p : SourcePattern) (e : SourceTerm) (h : Head) (s s1 s2 s3 s4 : Names) (b : HeldBound) (a : Bor Flat) (w v : Unit {0}) → Went bound_pattern_of (inside_pattern p (head_of h)) s s1 (Ok b) → Went held_term (resolve e) s1 s2 (Ok a)
    → Behind (head_of h) s2 s3 (Ok w) → Brings b.names.now s3 s4 (Ok v) → Entered (λ (t : Turning). turns_of t.form) (over_part p e (head_of h) (scope_of s) (made_of s)) s4 (Ok (record { form = flat_loop.ForIn b.pat a.now }))
unfolding over_part after
array_made p e h s s1 s2 s3 s4 b a w v (went gp sp) (went ga sa) (now_behind sb mb) (brings sc mc) = entered (
    ap (λ r. after r (λ p m. after (resolve e (scope_of s) m) (λ e m. Ok ((Over p.0 e, enter p.1 (behind (head_of h) (scope_of s))), m)))) gp
    ∙ ap (λ r. after r (λ e m. Ok ((Over (pattern_of b.pat) e, enter (entries_of b.names.now) (behind (head_of h) (scope_of s))), m))) ((λ i. resolve e (sym sp i) (made_of s1)) ∙ ga)
    ∙ (λ i. Ok ((sym (turns_over b.pat a.now) i, (ap (enter (entries_of b.names.now)) place ∙ sym sc) i), sym (mc ∙ mb) i)))
  where
    place : behind (head_of h) (scope_of s) ≡ scope_of s3
    place = (λ i. behind (head_of h) (sym (sa ∙ sp) i)) ∙ sym sb

pub array_first : (p : SourcePattern) (e : SourceTerm) (h : Headed) (s s1 : Names) (x : Stop) → Went bound_pattern_of (inside_pattern p h) s s1 (Err x) → Entered (λ (t : Turning). turns_of t.form) (over_part p e h (scope_of s) (made_of s)) s1 (Err x)
unfolding over_part after
array_first p e h s s1 _ (refused g) = not_entered (ap (λ r. after r (λ p m. after (resolve e (scope_of s) m) (λ e m. Ok ((Over p.0 e, enter p.1 (behind h (scope_of s))), m)))) g)
array_first p e h s s1 _ no_memory = no_memory_entered

pub array_second : (p : SourcePattern) (e : SourceTerm) (h : Headed) (s s1 s2 : Names) (b : HeldBound) (x : Stop) → Went bound_pattern_of (inside_pattern p h) s s1 (Ok b) → Went held_term (resolve e) s1 s2 (Err x)
    → Entered (λ (t : Turning). turns_of t.form) (over_part p e h (scope_of s) (made_of s)) s2 (Err x)
unfolding over_part after
array_second p e h s s1 s2 b _ (went gp sp) (refused g) = not_entered (
    ap (λ r. after r (λ p m. after (resolve e (scope_of s) m) (λ e m. Ok ((Over p.0 e, enter p.1 (behind h (scope_of s))), m)))) gp
    ∙ ap (λ r. after r (λ e m. Ok ((Over (pattern_of b.pat) e, enter (entries_of b.names.now) (behind h (scope_of s))), m))) ((λ i. resolve e (sym sp i) (made_of s1)) ∙ g))
array_second p e h s s1 s2 b _ (went gp sp) no_memory = no_memory_entered

pub over_entered : (p : SourcePattern) (e : SourceTerm) (h : Head) (s s1 s2 t : Names) (b c : Result HeldBound Stop) (a : Result (Bor Flat) Stop) (r : Result Turning Stop)
    → Went bound_pattern_of (inside_pattern p (head_of h)) s s1 b → Went held_term (resolve e) s1 s2 a → Brought_pattern (head_of h) b s2 t c → Built2 (λ (b : HeldBound) (e : Bor Flat) (t : Turning). t ≡ record { form = flat_loop.ForIn b.pat e.now }) c a r
    → Entered (λ (t : Turning). turns_of t.form) (over_part p e (head_of h) (scope_of s) (made_of s)) t r
over_entered p e h s s1 s2 t _ _ _ _ q w (brought_pattern {p = b} {u = u} {w = k} {v = l} behind bs) (built2 {b = a} is) =
    subst (λ z. Entered (λ (t : Turning). turns_of t.form) (over_part p e (head_of h) (scope_of s) (made_of s)) t (Ok z)) (sym is) (array_made p e h s s1 s2 u t b a k l q w behind bs)
over_entered p e h s s1 s2 t _ _ a _ q w no_bound first_of_two = entered_any (array_first p e (head_of h) s s1 _ q)
over_entered p e h s s1 s2 t b _ a _ q w not_brought_pattern first_of_two = no_memory_entered
over_entered p e h s s1 s2 t _ _ _ _ q w (brought_pattern {p = b} behind bs) second_of_two = entered_any (array_second p e (head_of h) s s1 s2 b _ q w)
over_entered p e h s s1 s2 t b c a _ q w k no_memory2 = no_memory_entered

-- ---- while a condition holds

pub test_made : (c : SourceTerm) (h : Head) (s s1 s2 : Names) (e : Bor Flat) (w : Unit {0}) → Behind (head_of h) s s1 (Ok w) → Went held_term (resolve c) s1 s2 (Ok e)
    → Entered (λ (t : Turning). turns_of t.form) (while_part c (head_of h) (scope_of s) (made_of s)) s2 (Ok (record { form = flat_loop.While e.now }))
unfolding while_part after
test_made c h s s1 s2 e w (now_behind sb mb) (went g sg) = entered (
    ap (λ r. after r (λ c m. Ok ((While c, behind (head_of h) (scope_of s)), m))) ((λ i. resolve c (sym sb i) (sym mb i)) ∙ g)
    ∙ (λ i. Ok ((sym (turns_while e.now) i, sym (sg ∙ sb) i), made_of s2)))

pub test_second : (c : SourceTerm) (h : Headed) (s s1 s2 : Names) (e : Stop) (w : Unit {0}) → Behind h s s1 (Ok w) → Went held_term (resolve c) s1 s2 (Err e) → Entered (λ (t : Turning). turns_of t.form) (while_part c h (scope_of s) (made_of s)) s2 (Err e)
unfolding while_part after
test_second c h s s1 s2 _ w (now_behind sb mb) (refused g) = not_entered (ap (λ r. after r (λ c m. Ok ((While c, behind h (scope_of s)), m))) ((λ i. resolve c (sym sb i) (sym mb i)) ∙ g))
test_second c h s s1 s2 _ w (now_behind sb mb) no_memory = no_memory_entered

pub repeated_entered : (c : SourceTerm) (h : Head) (s s1 s2 : Names) (b : Result (Unit {0}) Stop) (e : Result (Bor Flat) Stop) (r : Result Turning Stop)
    → Behind (head_of h) s s1 b → Went held_term (resolve c) s1 s2 e → Built2 (λ (u : Unit {0}) (e : Bor Flat) (t : Turning). t ≡ record { form = flat_loop.While e.now }) b e r
    → Entered (λ (t : Turning). turns_of t.form) (while_part c (head_of h) (scope_of s) (made_of s)) s2 r
repeated_entered c h s s1 s2 _ _ _ p w (built2 {a = u} {b = e} is) =
    subst (λ z. Entered (λ (t : Turning). turns_of t.form) (while_part c (head_of h) (scope_of s) (made_of s)) s2 (Ok z)) (sym is) (test_made c h s s1 s2 e u p w)
repeated_entered c h s s1 s2 _ e _ not_behind w first_of_two = no_memory_entered
repeated_entered c h s s1 s2 _ _ _ p w (second_of_two {a = u}) = test_second c (head_of h) s s1 s2 _ u p w
repeated_entered c h s s1 s2 b e _ p w no_memory2 = no_memory_entered

-- ---- loops

inside_of : Headed → Scope → FlatTurns × List Entry → List Text → Numbered (FlatTurns × Scope)
inside_of h sc t m = Ok ((t.0, enter t.1 (behind h sc)), m)

counted_turns : Text → List Text → FlatTerm → List Text → Numbered (FlatTurns × List Entry)
counted_turns x m n more = Ok ((Counted (next m) n, a_value x (next m) ∷ []), more)

over_turns : Bound FlatPattern → FlatTerm → List Text → Numbered (FlatTurns × List Entry)
over_turns p e m = Ok ((Over p.0 e, p.1), m)

while_turns : FlatTerm → List Text → Numbered (FlatTurns × List Entry)
while_turns c m = Ok ((While c, []), m)

turns_same : (f : LoopForm) (at : Place) (h : Headed) (sc : Scope) (m : List Text) → after (resolve_turns (sources.turns_of (loop_of f) at) sc (behind h sc) m) (inside_of h sc) ≡ turns_part f h sc m
unfolding resolve_turns counted_part over_part while_part inside_pattern source_of enter after inside_of counted_turns over_turns while_turns
turns_same (held_loop.For x n) at h sc m =
    ap (λ t. after (resolve_turns t sc (behind h sc) m) (inside_of h sc)) (sources.turns_are (plain_loop.For x.now n.now) at ∙ ap (λ l. sources.turns_layer l at) (plain_loop.outs-For x.now n.now))
    ∙ after_assoc (resolve (source_term n.now) sc (with_text m x.now)) (counted_turns x.now m) (inside_of h sc)
turns_same (held_loop.ForIn p e) at h sc m =
    ap (λ t. after (resolve_turns t sc (behind h sc) m) (inside_of h sc)) (sources.turns_are (plain_loop.ForIn p.now e.now) at ∙ ap (λ l. sources.turns_layer l at) (plain_loop.outs-ForIn p.now e.now))
    ∙ after_assoc (resolve_pattern (source_pattern p.now) (behind h sc) m) (λ p m. after (resolve (source_term e.now) sc m) (over_turns p)) (inside_of h sc)
    ∙ (λ i. after (resolve_pattern (source_pattern p.now) (behind h sc) m) (λ p m. after_assoc (resolve (source_term e.now) sc m) (over_turns p) (inside_of h sc) i))
turns_same (held_loop.While c) at h sc m =
    ap (λ t. after (resolve_turns t sc (behind h sc) m) (inside_of h sc)) (sources.turns_are (plain_loop.While c.now) at ∙ ap (λ l. sources.turns_layer l at) (plain_loop.outs-While c.now))
    ∙ after_assoc (resolve (source_term c.now) (behind h sc) m) while_turns (inside_of h sc)

turns_rise : (f : LoopForm) (h : Headed) (sc : Scope) (m : List Text) → Rises sc (turns_part f h sc m)
unfolding counted_part over_part while_part
turns_rise (held_loop.For x n) h sc m = rises_behind _ _ (λ n m. rises (above_all (behind_above h sc) (one_above _ (behind h sc))))
turns_rise (held_loop.ForIn p e) h sc m = rises_behind _ _ (λ p m. rises_behind _ _ (λ e m. rises (above_all (behind_above h sc) (enter_above p.1 (behind h sc)))))
turns_rise (held_loop.While c) h sc m = rises_behind _ _ (λ c m. rises (behind_above h sc))

-- a loop's body, behind all that it binds
turned : LoopForm → SourceTerm → Place → Headed → FlatTerm → Does (List Text) FlatTerm
turned F body mark h f sc m = after (turns_part F h sc m) (λ t m. after (resolve body t.1 m) (λ b m. Ok (Loop mark h.0.0 h.1.0 f t.0 b, m)))

loop_same : (F : LoopForm) (mark at : Place) (xs : List Text) (p : SourcePattern) (first body : SourceTerm) (sc : Scope) (m : List Text)
    → resolve (Loop mark (labels at xs) p first (sources.turns_of (loop_of F) at) body) sc m ≡ after (sized_pattern xs p sc m) (λ h m. after (resolve first sc m) (λ f m. turned F body mark h f sc m))
unfolding resolve sized_pattern after turned behind sizes_numbered inside_of
loop_same F mark at xs p first body sc m = ap (λ r. after r from_sizes) (sizes_anywhere at xs sc m) ∙ at_sizes (sizes_numbered xs sc m)
  where
    from_sizes : Bound (List BindId) → List Text → Numbered FlatTerm
    from_sizes s m = after (resolve_pattern p (enter s.1 sc) m) (λ p m. after (resolve first sc m) (λ f m. after (resolve_turns (sources.turns_of (loop_of F) at) sc (enter p.1 (enter s.1 sc)) m) (λ t m. after (resolve body (enter t.1 (enter p.1 (enter s.1 sc))) m) (λ b m. Ok (Loop mark s.0 p.0 f t.0 b, m)))))

    body_of : Headed → FlatTerm → FlatTurns × Scope → List Text → Numbered FlatTerm
    body_of h f t m = after (resolve body t.1 m) (λ b m. Ok (Loop mark h.0.0 h.1.0 f t.0 b, m))

    at_turns : (h : Headed) (f : FlatTerm) (m : List Text) → after (resolve_turns (sources.turns_of (loop_of F) at) sc (behind h sc) m) (λ t m. after (resolve body (enter t.1 (behind h sc)) m) (λ b m. Ok (Loop mark h.0.0 h.1.0 f t.0 b, m))) ≡ turned F body mark h f sc m
    at_turns h f m =
        sym (after_assoc (resolve_turns (sources.turns_of (loop_of F) at) sc (behind h sc) m) (inside_of h sc) (body_of h f))
        ∙ ap (λ r. after r (body_of h f)) (turns_same F at h sc m)

    at_pattern : (s : Bound (List BindId)) (r : Numbered (Bound FlatPattern)) → after r (λ p m. after (resolve first sc m) (λ f m. after (resolve_turns (sources.turns_of (loop_of F) at) sc (behind (s, p) sc) m) (λ t m. after (resolve body (enter t.1 (behind (s, p) sc)) m) (λ b m. Ok (Loop mark s.0 p.0 f t.0 b, m)))))
        ≡ after (after r (λ p m. Ok ((s, p), m))) (λ h m. after (resolve first sc m) (λ f m. turned F body mark h f sc m))
    at_pattern s (Err e) = refl
    at_pattern s (Ok (p, m)) = λ i. after (resolve first sc m) (λ f m. at_turns (s, p) f m i)

    at_sizes : (r : Numbered (Bound (List BindId))) → after r from_sizes ≡ after (after r (λ s m. after (resolve_pattern p (enter s.1 sc) m) (λ p m. Ok ((s, p), m)))) (λ h m. after (resolve first sc m) (λ f m. turned F body mark h f sc m))
    at_sizes (Err e) = refl
    at_sizes (Ok (s, m)) = at_pattern s (resolve_pattern p (enter s.1 sc) m)

four_two : {A B C D E : Type 0} {P : A → B → C → D → E → Type 0} {a : A} {b : B} {c : Result C Stop} {d : Result D Stop} {e : Result E Stop} → Built4 P (Ok a) (Ok b) c d e → Built2 (P a b) c d e
four_two (built4 p) = built2 p
four_two third_of_four = first_of_two
four_two fourth_of_four = second_of_two
four_two no_memory4 = no_memory2

-- the first value, the turns and the body
from_first : (F : LoopForm) (mark : Place) (first body : SourceTerm) (s1 s2 s3 s4 u : Names) (hd : Head) (h : ℕ) (b : Result (Bor Flat) Stop) (r : Result Turning Stop) (c d : Result (Bor Flat) Stop)
    → Built4 (λ (b : LoopBound) e (t : Turning) f x. held_term x ≡ Loop mark b.sizes.now (pattern_of b.pat) (held_term e) (turns_of t.form) (held_term f)) (Ok (record { sizes = hd.sizes.binds; pat = hd.pat.pat })) b r c d
    → Went held_term (resolve first) s1 s2 b → h ≡ length (scope_of s1) → Entered (λ (t : Turning). turns_of t.form) (turns_part F (head_of hd) (scope_of s2) (made_of s2)) s3 r → Went held_term (resolve body) s3 s4 c
    → scope_of u ≡ outside h (scope_of s4) → made_of u ≡ made_of s4 → Went held_term (λ sc m. after (resolve first sc m) (λ f m. turned F body mark (head_of hd) f sc m)) s1 u d
unfolding turned head_of after
from_first F mark first body s1 s2 s3 s4 u hd h _ r c d q (went {x = e} g same) hs turns wb out mk =
    and_next {va = held_term} {vb = held_term} {da = resolve first} {s = s1} {t = s2} {u = u} (turned F body mark (head_of hd)) (went {x = e} g same)
    (scoped (turns_part F (head_of hd)) (resolve body) (λ t b. Loop mark (head_of hd).0.0 (head_of hd).1.0 (held_term e) t b) s2 s3 s4 u h r c d (hs ∙ ap length (sym same)) (turns_rise F (head_of hd) (scope_of s2) (made_of s2)) turns wb out mk (four_two q))
from_first F mark first body s1 s2 s3 s4 u hd h _ r c _ second_of_four (refused g) hs turns wb out mk = refused (ap (λ r. after r (λ f m. turned F body mark (head_of hd) f (scope_of s1) m)) g)
from_first F mark first body s1 s2 s3 s4 u hd h _ r c _ no_memory4 (refused g) hs turns wb out mk = no_memory
from_first F mark first body s1 s2 s3 s4 u hd h _ r c _ second_of_four no_memory hs turns wb out mk = no_memory
from_first F mark first body s1 s2 s3 s4 u hd h _ r c _ no_memory4 no_memory hs turns wb out mk = no_memory

pub loop_went : (F : LoopForm) (mark at : Place) (xs : List Text) (p : SourcePattern) (first body : SourceTerm) (s s1 s2 s3 s4 u : Names) (hd : Head) (h : ℕ) (b : Result (Bor Flat) Stop) (r : Result Turning Stop) (c d : Result (Bor Flat) Stop)
    → Went head_of (sized_pattern xs p) s s1 (Ok hd) → h ≡ length (scope_of s1) → Went held_term (resolve first) s1 s2 b
    → Entered (λ (t : Turning). turns_of t.form) (turns_part F (head_of hd) (scope_of s2) (made_of s2)) s3 r → Went held_term (resolve body) s3 s4 c → scope_of u ≡ outside h (scope_of s4) → made_of u ≡ made_of s4
    → Built4 (λ (b : LoopBound) e (t : Turning) f x. held_term x ≡ Loop mark b.sizes.now (pattern_of b.pat) (held_term e) (turns_of t.form) (held_term f)) (Ok (record { sizes = hd.sizes.binds; pat = hd.pat.pat })) b r c d
    → Went held_term (resolve (Loop mark (labels at xs) p first (sources.turns_of (loop_of F) at) body)) s u d
loop_went F mark at xs p first body s s1 s2 s3 s4 u hd h b r c d w hs wf turns wb out mk q =
    by_same (loop_same F mark at xs p first body) (and_next (λ h sc m. after (resolve first sc m) (λ f m. turned F body mark h f sc m)) w (from_first F mark first body s1 s2 s3 s4 u hd h b r c d q wf hs turns wb out mk))

pub loop_stops : (F : LoopForm) (mark at : Place) (xs : List Text) (p : SourcePattern) (first body : SourceTerm) (s s1 : Names) (e : Stop)
    → Went head_of (sized_pattern xs p) s s1 (Err e) → Went held_term (resolve (Loop mark (labels at xs) p first (sources.turns_of (loop_of F) at) body)) s s1 (Err e)
loop_stops F mark at xs p first body s s1 e w = by_same (loop_same F mark at xs p first body) (stopped (λ h sc m. after (resolve first sc m) (λ f m. turned F body mark h f sc m)) w)
