-- Names are looked for in scopes, and one more is put into them.
use Rattle.std.proofs.Common.{◌≡◌, ℕ, ◌%◌, ◌/◌, Bool, true, false, nat_eq, Some, None, Result, Ok, Err, IfOk, refl, sym, ap, ◌∙◌, cond, eq-eqb}
use Rattle.std.proofs.lemmas.Bool.{ne_eqb}
use Rattle.std.specs.Borrow.{Bor}
use Rattle.fut_scalar.specs.declared.place.BindId.{BindId}
use Rattle.unfold_measure.specs.declared.known.Known.{Known as Held_known}
use Rattle.unfold_measure.specs.declared.known.Scope.{Scope as Held_scope}
use Rattle.unfold_measure.specs.declared.known.Scope.TheVariants as scope
use Rattle.unfold_measure.specs.Held.{known_of, scope_of}
use Rattle.fut_meaning.specs.Knowns.{Known, Scope, branch, is_odd, find_by, find, known_by, known_as}
use Rattle.unfold_measure.proofs.Mirror.{mirrors, scope_empty, scope_bind}
use Rattle.unfold_measure.specs.declared.stop.Stop.{Stop}

pub find_is : (sc : Scope) (k : ℕ) → find sc k ≡ find_by k sc k
unfolding find
find_is sc k = refl

pub bound_is : (b : BindId) (s : Known) (sc : Scope) → known_as b s sc ≡ known_by b.0 b s sc
unfolding known_as
bound_is b s sc = refl

module _ (sc : Held_scope) (digits k : ℕ) where
  pub find_none : sc ≡ scope.Empty → find_by digits (scope_of sc) k ≡ None
  unfolding find_by
  find_none e = ap (λ z. find_by digits (scope_of z) k) e ∙ ap (λ z. find_by digits z k) scope_empty

  module _ (b : BindId) (s : Held_known) (even odd : Bor Held_scope) (is : sc ≡ scope.Bind b s even odd) where
    below : find_by digits (scope_of sc) k ≡ cond (nat_eq b.0 k) (Some (known_of s)) (cond (is_odd digits) (find_by (digits / 2) (scope_of odd.now) k) (find_by (digits / 2) (scope_of even.now) k))
    unfolding find_by
    below = ap (λ z. find_by digits (scope_of z) k) is ∙ ap (λ z. find_by digits z k) (scope_bind b s even odd)

    pub find_here : b.0 ≡ k → find_by digits (scope_of sc) k ≡ Some (known_of s)
    find_here q = below ∙ ap (λ z. cond z (Some (known_of s)) (cond (is_odd digits) (find_by (digits / 2) (scope_of odd.now) k) (find_by (digits / 2) (scope_of even.now) k))) (eq-eqb b.0 k q)

    on : (c : Bool) → is_odd digits ≡ c → (b.0 ≡ k → ⊥) → find_by digits (scope_of sc) k ≡ cond c (find_by (digits / 2) (scope_of odd.now) k) (find_by (digits / 2) (scope_of even.now) k)
    on c e q = below ∙ ap (λ z. cond z (Some (known_of s)) (cond (is_odd digits) (find_by (digits / 2) (scope_of odd.now) k) (find_by (digits / 2) (scope_of even.now) k))) (ne_eqb b.0 k q) ∙ ap (λ z. cond z (find_by (digits / 2) (scope_of odd.now) k) (find_by (digits / 2) (scope_of even.now) k)) e

    pub find_odd : digits % 2 ≡ 1 → (b.0 ≡ k → ⊥) → find_by digits (scope_of sc) k ≡ find_by (digits / 2) (scope_of odd.now) k
    find_odd e = on true (eq-eqb (digits % 2) 1 e)

    pub find_even : (digits % 2 ≡ 1 → ⊥) → (b.0 ≡ k → ⊥) → find_by digits (scope_of sc) k ≡ find_by (digits / 2) (scope_of even.now) k
    find_even e = on false (ne_eqb (digits % 2) 1 e)

pub ruleset finding = (mirrors, find_none, find_here, find_odd, find_even)

-- ---- one more

pub ok_as : (r : Result (Bor Held_scope) Stop) {x y : Scope} → IfOk r (λ inner. scope_of inner.now ≡ x) → x ≡ y → IfOk r (λ inner. scope_of inner.now ≡ y)
ok_as (Ok inner) h e = h ∙ e
ok_as (Err r) h e = tt

module _ (digits : ℕ) (b : BindId) (s : Known) (sc : Held_scope) where
  pub bound_none : sc ≡ scope.Empty → known_by digits b s (scope_of sc) ≡ branch b s (scope_of sc) (scope_of sc)
  unfolding known_by
  bound_none e = ap (λ z. known_by digits b s (scope_of z)) e ∙ ap (λ z. known_by digits b s z) scope_empty ∙ sym (ap (λ z. branch b s (scope_of z) (scope_of z)) e ∙ ap (λ z. branch b s z z) scope_empty)

  module _ (c : BindId) (u : Held_known) (even odd : Bor Held_scope) (is : sc ≡ scope.Bind c u even odd) where
    beside : known_by digits b s (scope_of sc) ≡ cond (nat_eq c.0 b.0) (branch b s (scope_of even.now) (scope_of odd.now)) (cond (is_odd digits) (branch c (known_of u) (scope_of even.now) (known_by (digits / 2) b s (scope_of odd.now))) (branch c (known_of u) (known_by (digits / 2) b s (scope_of even.now)) (scope_of odd.now)))
    unfolding known_by
    beside = ap (λ z. known_by digits b s (scope_of z)) is ∙ ap (λ z. known_by digits b s z) (scope_bind c u even odd)

    abbrev by : Bool → Bool → Scope
    by here right = cond here (branch b s (scope_of even.now) (scope_of odd.now)) (cond right (branch c (known_of u) (scope_of even.now) (known_by (digits / 2) b s (scope_of odd.now))) (branch c (known_of u) (known_by (digits / 2) b s (scope_of even.now)) (scope_of odd.now)))

    pub bound_here : c.0 ≡ b.0 → known_by digits b s (scope_of sc) ≡ branch b s (scope_of even.now) (scope_of odd.now)
    bound_here q = beside ∙ ap (λ z. by z (is_odd digits)) (eq-eqb c.0 b.0 q)

    pub bound_odd : digits % 2 ≡ 1 → (c.0 ≡ b.0 → ⊥) → known_by digits b s (scope_of sc) ≡ branch c (known_of u) (scope_of even.now) (known_by (digits / 2) b s (scope_of odd.now))
    bound_odd e q = beside ∙ ap (λ z. by z (is_odd digits)) (ne_eqb c.0 b.0 q) ∙ ap (λ z. by false z) (eq-eqb (digits % 2) 1 e)

    pub bound_even : (digits % 2 ≡ 1 → ⊥) → (c.0 ≡ b.0 → ⊥) → known_by digits b s (scope_of sc) ≡ branch c (known_of u) (known_by (digits / 2) b s (scope_of even.now)) (scope_of odd.now)
    bound_even e q = beside ∙ ap (λ z. by z (is_odd digits)) (ne_eqb c.0 b.0 q) ∙ ap (λ z. by false z) (ne_eqb (digits % 2) 1 e)

pub ruleset binding = (mirrors, bound_is, bound_none, bound_here, bound_odd, bound_even)
