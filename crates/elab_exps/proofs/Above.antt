-- Scopes that stand on others, and what is left of one when the newest names go.
use Rattle.std.proofs.Common.{◌≡◌, ℕ, ◌++◌, List, [], ◌∷◌, length, refl, sym, ◌∙◌, ap, subst, Result, Ok, Err, append_assoc}
use Rattle.fut_ast.specs.Sorts.{Text}
use Rattle.fut_ast.specs.declared.node.Label.{Label}
use Rattle.fut_flat.specs.Terms.{Patterns, no_pattern, pattern_and}
use Rattle.fut_flat.specs.Sources.{Spelled}
use Rattle.elab_scopes.specs.Names.{Refusal}
use Rattle.elab_scopes.specs.Scopes.{Entry, Scope, enter}
use Rattle.elab_scopes.specs.Resolve.{Numbered, after, resolve_pattern, resolve_parameters}
use Rattle.elab_scopes.specs.Answers.{Went, went, refused, no_memory, Entered, entered, not_entered, no_memory_entered}
use Rattle.elab_scopes.specs.Table.{scope_of, made_of, outside}
use Rattle.elab_scopes.specs.declared.refusal.Stop.{Stop}
use Rattle.elab_scopes.specs.declared.table.Names.{Names}
use Rattle.elab_nodes.specs.Built.{Built2, built2, first_of_two, second_of_two, no_memory2}
use Rattle.elab_nodes.proofs.Steps.{Does}
use Rattle.elab_types.proofs.Leaving.{outside_over}

pub data Above (sc t : Scope) : Type 0 where
  above : (news : List Entry) → t ≡ news ++ sc → Above sc t

pub same_scope : (sc : Scope) → Above sc sc
same_scope sc = above [] refl

pub above_all : {sc t u : Scope} → Above sc t → Above t u → Above sc u
above_all {sc = sc} (above ns is) (above ms so) = above (ms ++ ns) (so ∙ ap (λ l. ms ++ l) is ∙ sym (append_assoc ms ns sc))

pub one_above : (e : Entry) (sc : Scope) → Above sc (e ∷ sc)
one_above e sc = above (e ∷ []) refl

pub enter_above : (es : List Entry) (sc : Scope) → Above sc (enter es sc)
unfolding enter
enter_above [] sc = same_scope sc
enter_above (e ∷ es) sc = above_all (one_above e sc) (enter_above es (e ∷ sc))

pub back : {sc t : Scope} → Above sc t → outside (length sc) t ≡ sc
back {sc = sc} (above ns is) = ap (outside (length sc)) is ∙ outside_over ns sc

-- an answer that brings names leaves those that were there below them
pub data Rises {A : Type 0} (sc : Scope) : Numbered (A × Scope) → Type 0 where
  rises : {a : A} {t : Scope} {m : List Text} → Above sc t → Rises sc (Ok ((a, t), m))
  rises_not : {e : Refusal} → Rises sc (Err e)

pub rises_behind : {A B : Type 0} {sc : Scope} (r : Numbered B) (k : B → List Text → Numbered (A × Scope)) → ((b : B) (m : List Text) → Rises sc (k b m)) → Rises sc (after r k)
unfolding after
rises_behind (Ok (b, m)) k so = so b m
rises_behind (Err e) k so = rises_not

pub rises_then : {A B : Type 0} {sc : Scope} {r : Numbered (B × Scope)} (k : B × Scope → List Text → Numbered (A × Scope)) → Rises sc r → ((b : B) (t : Scope) (m : List Text) → Above sc t → Rises sc (k (b, t) m)) → Rises sc (after r k)
unfolding after
rises_then k (rises {a = b} {t = t} {m = m} up) so = so b t m up
rises_then k rises_not so = rises_not

pub higher : {A B : Type 0} {sc t : Scope} {r : Numbered (A × Scope)} (f : A → B) → Above sc t → Rises t r → Rises sc (after r (λ x m. Ok ((f x.0, x.1), m)))
unfolding after
higher f up (rises more) = rises (above_all up more)
higher f up rises_not = rises_not

pub parameters_rise : (ps : Patterns Spelled Label) (sc : Scope) (m : List Text) → Rises sc (resolve_parameters ps sc m)
unfolding resolve_parameters
parameters_rise no_pattern sc m = rises (same_scope sc)
parameters_rise (pattern_and p ps) sc m = rises_behind (resolve_pattern p sc m) (λ p m. after (resolve_parameters ps (enter p.1 sc) m) (λ ps m. Ok ((pattern_and p.0 ps.0, ps.1), m))) (λ p m. higher (pattern_and p.0) (enter_above p.1 sc) (parameters_rise ps (enter p.1 sc) m))

-- names that come, a part that sees them, and they go
pub scoped : {A B C X Y Z : Type 0} {va : X → A} {vb : Y → B} {vc : Z → C} (does : Does (List Text) (A × Scope)) (inner : Does (List Text) B) (f : A → B → C) (s s1 s2 u : Names) (h : ℕ) (a : Result X Stop) (b : Result Y Stop) (d : Result Z Stop)
    → h ≡ length (scope_of s) → Rises (scope_of s) (does (scope_of s) (made_of s)) → Entered va (does (scope_of s) (made_of s)) s1 a → Went vb inner s1 s2 b → scope_of u ≡ outside h (scope_of s2) → made_of u ≡ made_of s2
    → Built2 (λ a b c. vc c ≡ f (va a) (vb b)) a b d
    → Went vc (λ sc m. after (does sc m) (λ x m. after (inner x.1 m) (λ y m. Ok (f x.0 y, m)))) s u d
unfolding after
scoped {va = va} {vb = vb} does inner f s s1 s2 u h _ _ _ hs up (entered {x = x} ga) (went {x = y} gb sb) out mk (built2 eq) =
    went (
    ap (λ r. after r (λ x m. after (inner x.1 m) (λ y m. Ok (f x.0 y, m)))) ga
    ∙ ap (λ r. after r (λ y m. Ok (f (va x) y, m))) gb
    ∙ (λ i. Ok (sym eq i, sym mk i)))
    (out ∙ (λ i. outside (hs i) (sb i)) ∙ left (subst (Rises (scope_of s)) ga up))
  where
    left : {Q : Type 0} {q : Q} {m : List Text} → Rises {A = Q} (scope_of s) (Ok ((q, scope_of s1), m)) → outside (length (scope_of s)) (scope_of s1) ≡ scope_of s
    left (rises up) = back up
scoped {va = va} does inner f s s1 s2 u h _ _ _ hs up (entered {x = x} ga) (refused gb) out mk second_of_two =
    refused (ap (λ r. after r (λ x m. after (inner x.1 m) (λ y m. Ok (f x.0 y, m)))) ga ∙ ap (λ r. after r (λ y m. Ok (f (va x) y, m))) gb)
scoped does inner f s s1 s2 u h _ _ _ hs up (entered ga) no_memory out mk second_of_two = no_memory
scoped does inner f s s1 s2 u h _ _ _ hs up (not_entered ga) b out mk first_of_two = refused (ap (λ r. after r (λ x m. after (inner x.1 m) (λ y m. Ok (f x.0 y, m)))) ga)
scoped does inner f s s1 s2 u h _ _ _ hs up no_memory_entered b out mk first_of_two = no_memory
scoped does inner f s s1 s2 u h _ _ _ hs up a b out mk no_memory2 = no_memory
