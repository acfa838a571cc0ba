-- Names are looked for in scopes, and one more is put into them.
use Rattle.std.proofs.Common.{◌≡◌, ℕ, ◌%◌, ◌/◌, Bool, true, false, nat_eq, Some, None, Result, Ok, Err, IfOk, refl, sym, ap, ◌∙◌, cond, eq-eqb}
use Rattle.std.proofs.lemmas.Bool.{ne_eqb}
use Rattle.std.specs.Borrow.{Bor}
use Rattle.fut_scalar.specs.declared.place.BindId.{BindId}
use Rattle.fut_meaning.specs.Knowns.{is_odd}
use Rattle.unfold.specs.declared.known.Known.{Known as Held_known}
use Rattle.unfold.specs.declared.known.Names.{Names as Held_names}
use Rattle.unfold.specs.declared.known.Names.TheVariants as held
use Rattle.unfold.specs.Held.{known_of, names_of}
use Rattle.unfold.specs.Knowns.{Known, Local_names, branch, Entered, seeing, local_by, local, name_by, name_and}
use Rattle.unfold.proofs.Mirror.{mirrors, names_empty, names_bind}
use Rattle.unfold_parts.specs.declared.refusal.Refusal.{Refusal}

pub local_is : (names : Held_names) (es : Entered) (k : ℕ) → local (seeing (names_of names) es) k ≡ local_by k (names_of names) k
unfolding local
local_is names es k = refl

-- the names with one more, where nothing more is entered
pub bound_is : (b : BindId) (s : Known) (names inner : Held_names) (es : Entered) → names_of inner ≡ name_by b.0 b s (names_of names) → seeing (names_of inner) es ≡ name_and b s (seeing (names_of names) es)
unfolding name_and
bound_is b s names inner es e = ap (λ z. seeing z es) e

module _ (sc : Held_names) (digits k : ℕ) where
  pub find_none : sc ≡ held.Empty → local_by digits (names_of sc) k ≡ None
  unfolding local_by
  find_none e = ap (λ z. local_by digits (names_of z) k) e ∙ ap (λ z. local_by digits z k) names_empty

  module _ (b : BindId) (s : Held_known) (even odd : Bor Held_names) (is : sc ≡ held.Bind b s even odd) where
    below : local_by digits (names_of sc) k ≡ cond (nat_eq b.0 k) (Some (known_of s)) (cond (is_odd digits) (local_by (digits / 2) (names_of odd.now) k) (local_by (digits / 2) (names_of even.now) k))
    unfolding local_by
    below = ap (λ z. local_by digits (names_of z) k) is ∙ ap (λ z. local_by digits z k) (names_bind b s even odd)

    pub find_here : b.0 ≡ k → local_by digits (names_of sc) k ≡ Some (known_of s)
    find_here q = below ∙ ap (λ z. cond z (Some (known_of s)) (cond (is_odd digits) (local_by (digits / 2) (names_of odd.now) k) (local_by (digits / 2) (names_of even.now) k))) (eq-eqb b.0 k q)

    on : (c : Bool) → is_odd digits ≡ c → (b.0 ≡ k → ⊥) → local_by digits (names_of sc) k ≡ cond c (local_by (digits / 2) (names_of odd.now) k) (local_by (digits / 2) (names_of even.now) k)
    on c e q = below ∙ ap (λ z. cond z (Some (known_of s)) (cond (is_odd digits) (local_by (digits / 2) (names_of odd.now) k) (local_by (digits / 2) (names_of even.now) k))) (ne_eqb b.0 k q) ∙ ap (λ z. cond z (local_by (digits / 2) (names_of odd.now) k) (local_by (digits / 2) (names_of even.now) k)) e

    pub find_odd : digits % 2 ≡ 1 → (b.0 ≡ k → ⊥) → local_by digits (names_of sc) k ≡ local_by (digits / 2) (names_of odd.now) k
    find_odd e = on true (eq-eqb (digits % 2) 1 e)

    pub find_even : (digits % 2 ≡ 1 → ⊥) → (b.0 ≡ k → ⊥) → local_by digits (names_of sc) k ≡ local_by (digits / 2) (names_of even.now) k
    find_even e = on false (ne_eqb (digits % 2) 1 e)

pub ruleset finding = (mirrors, find_none, find_here, find_odd, find_even)

-- ---- one more

pub ok_as : (r : Result (Bor Held_names) Refusal) {x y : Local_names} → IfOk r (λ inner. names_of inner.now ≡ x) → x ≡ y → IfOk r (λ inner. names_of inner.now ≡ y)
ok_as (Ok inner) h e = h ∙ e
ok_as (Err r) h e = tt

module _ (digits : ℕ) (b : BindId) (s : Known) (sc : Held_names) where
  pub bound_none : sc ≡ held.Empty → name_by digits b s (names_of sc) ≡ branch b s (names_of sc) (names_of sc)
  unfolding name_by
  bound_none e = ap (λ z. name_by digits b s (names_of z)) e ∙ ap (λ z. name_by digits b s z) names_empty ∙ sym (ap (λ z. branch b s (names_of z) (names_of z)) e ∙ ap (λ z. branch b s z z) names_empty)

  module _ (c : BindId) (u : Held_known) (even odd : Bor Held_names) (is : sc ≡ held.Bind c u even odd) where
    beside : name_by digits b s (names_of sc) ≡ cond (nat_eq c.0 b.0) (branch b s (names_of even.now) (names_of odd.now)) (cond (is_odd digits) (branch c (known_of u) (names_of even.now) (name_by (digits / 2) b s (names_of odd.now))) (branch c (known_of u) (name_by (digits / 2) b s (names_of even.now)) (names_of odd.now)))
    unfolding name_by
    beside = ap (λ z. name_by digits b s (names_of z)) is ∙ ap (λ z. name_by digits b s z) (names_bind c u even odd)

    abbrev by : Bool → Bool → Local_names
    by here right = cond here (branch b s (names_of even.now) (names_of odd.now)) (cond right (branch c (known_of u) (names_of even.now) (name_by (digits / 2) b s (names_of odd.now))) (branch c (known_of u) (name_by (digits / 2) b s (names_of even.now)) (names_of odd.now)))

    pub bound_here : c.0 ≡ b.0 → name_by digits b s (names_of sc) ≡ branch b s (names_of even.now) (names_of odd.now)
    bound_here q = beside ∙ ap (λ z. by z (is_odd digits)) (eq-eqb c.0 b.0 q)

    pub bound_odd : digits % 2 ≡ 1 → (c.0 ≡ b.0 → ⊥) → name_by digits b s (names_of sc) ≡ branch c (known_of u) (names_of even.now) (name_by (digits / 2) b s (names_of odd.now))
    bound_odd e q = beside ∙ ap (λ z. by z (is_odd digits)) (ne_eqb c.0 b.0 q) ∙ ap (λ z. by false z) (eq-eqb (digits % 2) 1 e)

    pub bound_even : (digits % 2 ≡ 1 → ⊥) → (c.0 ≡ b.0 → ⊥) → name_by digits b s (names_of sc) ≡ branch c (known_of u) (name_by (digits / 2) b s (names_of even.now)) (names_of odd.now)
    bound_even e q = beside ∙ ap (λ z. by z (is_odd digits)) (ne_eqb c.0 b.0 q) ∙ ap (λ z. by false z) (ne_eqb (digits % 2) 1 e)

pub ruleset binding = (mirrors, bound_none, bound_here, bound_odd, bound_even)
