-- What a loop begins with, and the names of a turn.
use Rattle.std.proofs.Common.{◌≡◌, ℕ, ◌++◌, List, true, false, cond, Option, Ok, Err, sym, ap, ◌∙◌, subst, append_assoc}
use Rattle.std.specs.Prelude.{IfErr, IfOk, Result}
use Rattle.std.specs.Borrow.{Bor}
use Rattle.fut_scalar.specs.declared.place.BindId.{BindId}
use Rattle.fut_flat.specs.Erased.{FlatPattern}
use Rattle.fut_blocks.specs.declared.block.Atom.{Atom}
use Rattle.unfold.specs.Held.{known_of, scope_of}
use Rattle.unfold.specs.Knowns.{Known, Scope, name_and}
use Rattle.fut_meaning.specs.Found.{Sizing}
use Rattle.told_rows.specs.Tables.{Told_by}
use Rattle.unfold.specs.Telling.{enter, is_function}
use Rattle.unfold.specs.Unfolding.{named}
use Rattle.unfold_parts.specs.Told.{Held_sizes, Enters, Sees}
use Rattle.unfold.specs.declared.known.Known.{Known as Held_known}
use Rattle.unfold.specs.declared.known.Scope.{Scope as Held_scope}
use Rattle.unfold_parts.specs.Answers.{answered, unanswered, Bound_to}
use Rattle.unfold_parts.specs.Layouts.{Laid_to, laid_to, not_laid, Renewed, renewed, not_renewed, shape_of}
use Rattle.unfold_parts.specs.States.{steps_of}
use Rattle.unfold_parts.specs.declared.fresh.Fresh.{Fresh}
use Rattle.unfold_parts.specs.declared.refusal.Refusal.{Refusal}
use Rattle.unfold_parts.specs.declared.refusal.Refusal.TheVariants.{Memory}
use Rattle.unfold_parts.specs.declared.steps.Unfolding.{Unfolding}
use Rattle.unfold_parts.proofs.Refusing.{refused_as, only_memory}
use Rattle.unfold_parts.proofs.Shapeless.{no_data}
use Rattle.unfold_program.specs.Answers.{Entered_to, entered_to, not_entered, Turn_bound_to, turn_bound_to, not_turn_bound, no_value_names, no_names_of_row, Row_bound_to, row_bound_to, not_row_bound}

pub enter_ok : (s : Known) (n next : ℕ) (us : Bor (List Atom)) (f : Fresh) → Laid_to (shape_of s) s (Ok us) → Renewed s n next (Ok f) → Entered_to s n next (Ok (record { first = us; params = f.names; known = f.known }))
enter_ok s n next us f (laid_to l) (renewed up k) = entered_to l up k

module _ (s : Known) (n next : ℕ) where
  pub enter_unlaid : (r : Refusal) → Laid_to (shape_of s) s (Err r) → Entered_to s n next (Err r)
  enter_unlaid r (not_laid x) = not_entered (refused_as (no_data s) x)

  pub enter_unnamed : (m m' : ℕ) (r : Refusal) → Renewed s m m' (Err r) → Entered_to s n next (Err r)
  enter_unnamed m m' r (not_renewed x) = not_entered x

module _ (S : Held_sizes) (at : ℕ) (p : FlatPattern) (sc : Scope) (s : Known) (old : Unfolding) where
  pub turn_end : (counter : ℕ) (i : BindId) (y : ℕ) (new : Unfolding) (inside entered : Held_scope) (k : Held_known) (r : Result Held_scope Refusal) → Bound_to S at p s sc old.next (steps_of old) (steps_of new) new.next (Ok inside) → known_of k ≡ named y → ((Z : Option Sizing) → Told_by S Z → scope_of entered ≡ enter Z counter (known_of k) (scope_of inside)) → IfOk r (λ inner. scope_of inner ≡ name_and i (known_of k) (scope_of entered)) → IfErr r (λ x. x ≡ Memory) → Turn_bound_to S at p counter i y sc s old new r
  turn_end counter i y new inside entered k (Ok inner) (answered bs e b) is f q m = turn_bound_to bs e b (λ Z t. q ∙ ap (name_and i (known_of k)) (f Z t) ∙ ap (λ z. name_and i z (enter Z counter z (scope_of inside))) is)
  turn_end counter i y new inside entered k (Err x) h is f q m = not_turn_bound (only_memory m)

  pub turn_err : (counter : ℕ) (i : BindId) (y : ℕ) (new later : Unfolding) (x : Refusal) → Bound_to S at p s sc old.next (steps_of old) (steps_of new) new.next (Err x) → Turn_bound_to S at p counter i y sc s old later (Err x)
  turn_err counter i y new later x (unanswered h) = not_turn_bound h

  module _ (row_at : ℕ) (q : FlatPattern) (y : ℕ) (mid : Unfolding) where
    pub row_value_err : (new : Unfolding) (x : Refusal) → Bound_to S at p s sc old.next (steps_of old) (steps_of mid) mid.next (Err x) → Row_bound_to S at p row_at q y sc s old new (Err x)
    row_value_err new x (unanswered h) = not_row_bound (refused_as no_value_names h)

    pub row_end : (new : Unfolding) (inside : Held_scope) (k : Known) (r : Result Held_scope Refusal) → k ≡ named y → Bound_to S at p s sc old.next (steps_of old) (steps_of mid) mid.next (Ok inside) → Bound_to S row_at q k (scope_of inside) mid.next (steps_of mid) (steps_of new) new.next r → Row_bound_to S at p row_at q y sc s old new r
    row_end new inside k r is h b = by_row r h (subst (λ z. Bound_to S row_at q z (scope_of inside) mid.next (steps_of mid) (steps_of new) new.next r) is b)
      where
        by_row : (r : Result Held_scope Refusal) → Bound_to S at p s sc old.next (steps_of old) (steps_of mid) mid.next (Ok inside) → Bound_to S row_at q (named y) (scope_of inside) mid.next (steps_of mid) (steps_of new) new.next r → Row_bound_to S at p row_at q y sc s old new r
        by_row _ (answered bs e b) (answered cs f b') = row_bound_to bs cs (f ∙ ap (λ z. z ++ cs) e ∙ append_assoc (steps_of old) bs cs) b b'
        by_row _ (answered bs e b) (unanswered h) = not_row_bound (refused_as (no_names_of_row (old.next, bs, mid.next, b)) h)

-- ---- what the definition behind one begins with

module _ (S : Held_sizes) (node : ℕ) (k : Held_known) (seen : Held_scope) where
  -- a function is not entered
  pub functions_pass : is_function (known_of k) ≡ true → Sees S node (known_of k) (scope_of seen) (scope_of seen)
  functions_pass is Z t = sym (ap (λ c. cond c (scope_of seen) (enter Z node (known_of k) (scope_of seen))) is)

  -- data is
  pub data_enters : (next : Held_scope) → is_function (known_of k) ≡ false → Enters S node (known_of k) (scope_of seen) (scope_of next) → Sees S node (known_of k) (scope_of seen) (scope_of next)
  data_enters next is h Z t = h Z t ∙ sym (ap (λ c. cond c (scope_of seen) (enter Z node (known_of k) (scope_of seen))) is)
