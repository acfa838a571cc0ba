-- What a term unfolds to, from what its parts do, or that it is stuck where one of them is.
use Rattle.std.proofs.Common.{◌≡◌, ℕ, ◌+◌, ◌++◌, List, [], map, Ok, Err, refl, sym, ap, ◌∙◌, subst, arith}
use Rattle.std.specs.Prelude.{IfErr, IfOk, Result}
use Rattle.std.specs.Borrow.{Bor}
use Rattle.fut_scalar.specs.declared.place.Place.{Place}
use Rattle.fut_flat.specs.declared.act.Act.{Act}
use Rattle.fut_flat.specs.declared.exp.Exp.{Exp}
use Rattle.fut_flat.specs.declared.exp.Form.TheVariants as form
use Rattle.fut_flat.specs.declared.exp.Loop.{Loop as LoopTree}
use Rattle.fut_flat.specs.declared.pat.Pat.{Pat}
use Rattle.fut_flat.specs.declared.prim.Ref.{Ref}
use Rattle.fut_flat.specs.Erased.{FlatTerm, operation_of, pattern_of, patterns, term_of, terms}
use Rattle.fut_flat.specs.Numbers.{all_pattern_numbers, numbers, own_numbers}
use Rattle.fut_flat.specs.Terms.{Apply, If, Lambda, Strict, Use}
use Rattle.fut_flat.proofs.ErasedForms.{loop_of, term_use, term_strict, term_lambda, term_apply, term_if, term_loop}
use Rattle.unfold.specs.Held.{known_of}
use Rattle.unfold.specs.Knowns.{Function_known, Scope}
use Rattle.unfold.specs.Stuck.{No_operation, no_operation, stuck_application, stuck_argument, stuck_function, stuck_parts}
use Rattle.unfold.specs.Unfolding.{u_strict, u_lambda, u_apply}
use Rattle.unfold.specs.declared.known.Known.{Known as Held_known}
use Rattle.unfold_parts.specs.Answers.{answered}
use Rattle.unfold_parts.specs.Refused.{no_memory}
use Rattle.unfold_parts.specs.States.{steps_of}
use Rattle.unfold_parts.specs.declared.refusal.Refusal.{Refusal}
use Rattle.unfold_parts.specs.declared.refusal.Refusal.TheVariants.{Memory}
use Rattle.unfold_parts.specs.declared.steps.Unfolding.{Unfolding}
use Rattle.unfold_parts.proofs.Refusing.{refused_as}
use Rattle.unfold_program.specs.declared.walked.Context.{Context}
use Rattle.unfold_program.specs.declared.walked.Parts.{Parts}
use Rattle.unfold_program.specs.declared.walked.Walked.{Walked}
use Rattle.unfold_program.specs.declared.walked.WalkedScalar.{WalkedScalar}
use Rattle.unfold_program.specs.Answers.{Unfolded, unfolded, refused, All_unfolded, all_unfolded, all_refused, Applied, applied, not_applied, Use_known, use_known, no_use, Lambda_known, lambda_known, no_lambda, Scalar_to, scalar_to, no_scalar, stuck_term, other_value, Scalar_unfolded, scalar_unfolded, no_scalar_unfolded, Walked_to, walked_to, not_walked, Operated_to, operated_to, not_operated, defined, told}
use Rattle.unfold_program.proofs.Growing.{grown, not_grown, moved, stuck_at, known_as}
use Rattle.unfold_parts.specs.Told.{Stuck_all, Unfold_all, Unfolds}

pub lambda_end : (sc : Scope) (inside first next : ℕ) (ps : List Pat) (e : FlatTerm) (s : Result Held_known Refusal) (r : Result Walked Refusal) → first ≡ inside + all_pattern_numbers (patterns (map pattern_of ps)) → next ≡ first + numbers e → IfOk s (λ k. known_of k ≡ Function_known (patterns (map pattern_of ps)) e first sc) → IfErr s (λ x. x ≡ Memory) → Walked_to next s r → Lambda_known sc inside (patterns (map pattern_of ps)) e r
lambda_end sc inside first next ps e _ _ q q' is m walked_to = lambda_known (is ∙ ap (λ z. Function_known (patterns (map pattern_of ps)) e z sc) q) (omega (arith, q, q'))
lambda_end sc inside first next ps e (Err x) _ q q' is m not_walked = subst (λ z. Lambda_known sc inside (patterns (map pattern_of ps)) e (Err z)) (sym m) no_lambda

module _ (c : Context) (sc : Scope) (lo : ℕ) where
  -- an expression, by its form
  module _ (e : Exp) (old : Unfolding) where
    pub form_lambda : (ps : Bor (List Pat)) (b : Bor Exp) (inside : ℕ) (r : Result Walked Refusal) → e.form ≡ form.Lambda ps b → inside ≡ lo + 1 → Lambda_known sc inside (patterns (map pattern_of ps.now)) (term_of b.now) r → Unfolded c sc lo (term_of e) old old r
    form_lambda ps b inside _ is q (lambda_known {r = r} k h) =
        let begins : inside + all_pattern_numbers (patterns (map pattern_of ps.now)) ≡ 1 + lo + all_pattern_numbers (patterns (map pattern_of ps.now)) = omega (arith, q) in
        let ends : r.at ≡ lo + numbers (Lambda (patterns (map pattern_of ps.now)) (term_of b.now)) = omega (arith, h, q) in
        unfolded [] (not_grown (steps_of old) (steps_of old) refl)
        (subst (λ z. Unfolds (told c) (defined c) sc lo z old.next [] (known_of r.known) old.next) (sym (term_lambda e ps b is)) (known_as c (sym (k ∙ ap (λ z. Function_known (patterns (map pattern_of ps.now)) (term_of b.now) z sc) begins)) (λ td tl. u_lambda)))
        (ends ∙ sym (ap (λ z. lo + numbers z) (term_lambda e ps b is)))
    form_lambda ps b inside _ is q no_lambda = refused no_memory

    module _ (new : Unfolding) (r : Result Walked Refusal) where
      as_term : (t : FlatTerm) → term_of e ≡ t → Unfolded c sc lo t old new r → Unfolded c sc lo (term_of e) old new r
      as_term t q h = subst (λ z. Unfolded c sc lo z old new r) (sym q) h

      pub form_use : (u : Ref) (k : ℕ) → e.form ≡ form.Use u k → Use_known c sc u lo e old new r → Unfolded c sc lo (term_of e) old new r
      form_use u k is h = as_term _ (term_use e u k is) (by_use r h)
        where
          by_use : (r : Result Walked Refusal) → Use_known c sc u lo e old new r → Unfolded c sc lo (Use u e.place k) old new r
          by_use _ (use_known {r = w} (answered bs g f) q) = unfolded bs g (λ td tl. f td tl.sizes lo k) (q ∙ ap (λ z. lo + numbers z) (term_use e u k is))
          by_use _ (no_use x) = refused (refused_as (λ f td tl. f td tl.sizes lo k) x)

      pub form_strict : (a : Act) (mark : Place) (es : Bor (List Exp)) → e.form ≡ form.Strict a mark es → Unfolded c sc lo (Strict (operation_of a) mark (terms (map term_of es.now))) old new r → Unfolded c sc lo (term_of e) old new r
      form_strict a mark es is h = as_term _ (term_strict e a mark es is) h

      pub form_apply : (f x : Bor Exp) → e.form ≡ form.Apply f x → Unfolded c sc lo (Apply (term_of f.now) (term_of x.now)) old new r → Unfolded c sc lo (term_of e) old new r
      form_apply f x is h = as_term _ (term_apply e f x is) h

      pub form_if : (t a b : Bor Exp) → e.form ≡ form.If t a b → Unfolded c sc lo (If (term_of t.now) (term_of a.now) (term_of b.now)) old new r → Unfolded c sc lo (term_of e) old new r
      form_if t a b is h = as_term _ (term_if e t a b is) h

      pub form_loop : (l : Bor LoopTree) → e.form ≡ form.Loop l → Unfolded c sc lo (loop_of l.now) old new r → Unfolded c sc lo (term_of e) old new r
      form_loop l is h = as_term _ (term_loop e l is) h

  -- operations
  pub strict_end : (a : Act) (mark : Place) (es : List Exp) (own first : ℕ) (old mid new : Unfolding) (made : Parts) (r : Result Walked Refusal) → own ≡ own_numbers (operation_of a) → first ≡ lo + own → All_unfolded c sc first (terms (map term_of es)) old mid (Ok made) → Operated_to (told c) sc lo (operation_of a) mark made mid new r → Unfolded c sc lo (Strict (operation_of a) mark (terms (map term_of es))) old new r
  strict_end a mark es own first old mid new made _ q q' (all_unfolded bs e u b) (operated_to {s = s} (answered cs e' o)) =
      let v : Unfold_all (told c) (defined c) sc (lo + own_numbers (operation_of a)) (terms (map term_of es)) old.next bs (map known_of made.knowns.now) mid.next = subst (λ z. Unfold_all (told c) (defined c) sc z (terms (map term_of es)) old.next bs (map known_of made.knowns.now) mid.next) (q' ∙ ap (λ z. lo + z) q) u in
      unfolded (bs ++ cs) (grown (steps_of old) (steps_of mid) (steps_of new) bs cs e e') (λ td tl. u_strict (v td tl) (o td tl)) (omega (arith, b, q, q'))
  strict_end a mark es own first old mid new made _ q q' (all_unfolded bs e u b) (not_operated x) =
      let v : Unfold_all (told c) (defined c) sc (lo + own_numbers (operation_of a)) (terms (map term_of es)) old.next bs (map known_of made.knowns.now) mid.next = subst (λ z. Unfold_all (told c) (defined c) sc z (terms (map term_of es)) old.next bs (map known_of made.knowns.now) mid.next) (q' ∙ ap (λ z. lo + z) q) u in
      refused (refused_as (λ lacks td tl. no_operation (v td tl) (subst (λ z. No_operation z (operation_of a) mark (map known_of made.knowns.now)) (sym (tl.integers lo)) lacks)) x)

  pub strict_parts_err : (a : Act) (mark : Place) (es : List Exp) (own first : ℕ) (old new : Unfolding) (r : Refusal) → own ≡ own_numbers (operation_of a) → first ≡ lo + own → All_unfolded c sc first (terms (map term_of es)) old new (Err r) → Unfolded c sc lo (Strict (operation_of a) mark (terms (map term_of es))) old new (Err r)
  strict_parts_err a mark es own first old new r q q' (all_refused h) = refused (refused_as (λ w td tl. stuck_parts ((subst (λ z. Stuck_all (told c) (defined c) sc z (terms (map term_of es))) (q' ∙ ap (λ z. lo + z) q) w) td tl)) h)

  -- applications
  pub apply_end : (f e : FlatTerm) (first : ℕ) (old m1 m2 new : Unfolding) (r1 r2 : Walked) (s : Result Held_known Refusal) (r : Result Walked Refusal) → first ≡ lo + 1 → Unfolded c sc first f old m1 (Ok r1) → Unfolded c sc r1.at e m1 m2 (Ok r2) → Applied c (known_of r1.known) (known_of r2.known) m2 new s → Walked_to r2.at s r → Unfolded c sc lo (Apply f e) old new r
  apply_end f e first old m1 m2 new r1 r2 _ _ q (unfolded bs g u b) (unfolded cs g' u' b') (applied ds g'' a) walked_to =
      unfolded (bs ++ (cs ++ ds)) (grown (steps_of old) (steps_of m1) (steps_of new) bs (cs ++ ds) g (grown (steps_of m1) (steps_of m2) (steps_of new) cs ds g' g''))
      (λ td tl. u_apply ((moved c (omega (arith, q)) u) td tl) ((moved c (omega (arith, b, q)) u') td tl) (a td tl))
      (omega (arith, b, b', q))
  apply_end f e first old m1 m2 new r1 r2 _ _ q (unfolded bs g u b) (unfolded cs g' u' b') (not_applied h) not_walked = refused (refused_as (λ w td tl. stuck_application ((moved c (omega (arith, q)) u) td tl) ((moved c (omega (arith, b, q)) u') td tl) (w td tl)) h)

  pub apply_function_err : (f e : FlatTerm) (first : ℕ) (old new : Unfolding) (r : Refusal) → first ≡ lo + 1 → Unfolded c sc first f old new (Err r) → Unfolded c sc lo (Apply f e) old new (Err r)
  apply_function_err f e first old new r q (refused h) = refused (refused_as (λ w td tl. stuck_function ((stuck_at c (omega (arith, q)) w) td tl)) h)

  pub apply_argument_err : (f e : FlatTerm) (first : ℕ) (old m1 new : Unfolding) (r1 : Walked) (r : Refusal) → first ≡ lo + 1 → Unfolded c sc first f old m1 (Ok r1) → Unfolded c sc r1.at e m1 new (Err r) → Unfolded c sc lo (Apply f e) old new (Err r)
  apply_argument_err f e first old m1 new r1 r q (unfolded bs g u b) (refused h) = refused (refused_as (λ w td tl. stuck_argument ((moved c (omega (arith, q)) u) td tl) ((stuck_at c (omega (arith, b, q)) w) td tl)) h)

  -- scalars
  pub scalar_end : (t : FlatTerm) (old new : Unfolding) (w : Walked) (r : Result WalkedScalar Refusal) → Unfolded c sc lo t old new (Ok w) → Scalar_to w r → Scalar_unfolded c sc lo t old new r
  scalar_end t old new w _ (unfolded bs g u b) (scalar_to is) = scalar_unfolded bs g (known_as c is u) b
  scalar_end t old new w _ (unfolded bs g u b) (no_scalar x) = no_scalar_unfolded (refused_as (other_value u) x)

  pub scalar_stuck : (t : FlatTerm) (old new : Unfolding) (r : Refusal) → Unfolded c sc lo t old new (Err r) → Scalar_unfolded c sc lo t old new (Err r)
  scalar_stuck t old new r (refused x) = no_scalar_unfolded (refused_as stuck_term x)
