-- Walks over lists, step by step.
use Rattle.std.proofs.Common.{◌≡◌, ℕ, ◌+◌, ◌<◌, ◌≤◌, ◌++◌, List, [], ◌∷◌, map, length, drop, get_or, refl, sym, ◌∙◌, ap, Result, Ok, Err}
use Rattle.std.proofs.lemmas.List.{map-append, append_assoc, append-nil, drop_more}
use Rattle.std.proofs.Math.ListN.{drop_of_length-le}
use Rattle.elab_scopes.specs.declared.refusal.Stop.{Stop}
use Rattle.elab_scopes.specs.declared.table.Names.{Names}
use Rattle.elab_scopes.specs.Names.{Refusal}
use Rattle.elab_scopes.specs.Scopes.{Scope}
use Rattle.elab_scopes.specs.Resolve.{after}
use Rattle.elab_scopes.specs.Table.{scope_of}
use Rattle.elab_scopes.specs.Answers.{Walked, went, refused, no_memory}
use Rattle.elab_scopes.specs.Walks.{each, Doing, doing}

-- what stands from a place of a list on
pub from_here : {A : Type 0} (xs : List A) (i : ℕ) (x : A) → i < length xs → x ≡ get_or xs i x → drop i xs ≡ x ∷ drop (i + 1) xs
from_here xs i x k is = drop_more xs i x k ∙ ap (λ y. y ∷ drop (i + 1) xs) (sym is)

-- behind one step, whatever follows
pub after_assoc : {A B C S T U : Type 0} (r : Result (A × S) Refusal) (k : A → S → Result (B × T) Refusal) (h : B → T → Result (C × U) Refusal) → after (after r k) h ≡ after r (λ a s. after (k a s) h)
unfolding after
after_assoc (Ok (a, s)) k h = refl
after_assoc (Err e) k h = refl

module _ {S X Y R : Type 0} {state : Names → S} {view : R → Y} {g : X → Scope → S → Result (Y × S) Refusal} where
  pub doing_start : (xs : List X) (s : Names) → Doing state view g xs s xs [] s
  unfolding each after
  doing_start xs s = doing (sym (at_end (each g xs (scope_of s) (state s)))) refl
    where
      at_end : (r : Result (List Y × S) Refusal) → after r (λ ys made. Ok ([] ++ ys, made)) ≡ r
      at_end (Ok (ys, made)) = refl
      at_end (Err e) = refl

  -- one more
  pub doing_next : (xs : List X) (s t u : Names) (i : ℕ) (x : X) (done : List R) (y : R) → i < length xs → x ≡ get_or xs i x → Walked state view (g x) t u (Ok y) → Doing state view g xs s (drop i xs) done t → Doing state view g xs s (drop (i + 1) xs) (done ++ y ∷ []) u
  unfolding each after
  doing_next xs s t u i x done y k is (went gives same) (doing so still) = doing (
      so
      ∙ ap (λ l. after (each g l (scope_of t) (state t)) (λ ys made. Ok (map view done ++ ys, made))) (from_here xs i x k is)
      ∙ ap (λ r. after (after r (λ y made. after (each g (drop (i + 1) xs) (scope_of t) made) (λ ys made. Ok (y ∷ ys, made)))) (λ ys made. Ok (map view done ++ ys, made))) gives
      ∙ after_assoc (each g (drop (i + 1) xs) (scope_of t) (state u)) (λ ys made. Ok (view y ∷ ys, made)) (λ ys made. Ok (map view done ++ ys, made))
      ∙ ap (λ sc. after (each g (drop (i + 1) xs) sc (state u)) (λ ys made. Ok (map view done ++ view y ∷ ys, made))) (sym same)
      ∙ ap (λ h. after (each g (drop (i + 1) xs) (scope_of u) (state u)) h) (λ j ys made. Ok (longer ys j, made)))
      (same ∙ still)
    where
      longer : (ys : List Y) → map view done ++ view y ∷ ys ≡ map view (done ++ y ∷ []) ++ ys
      longer ys = sym (ap (λ l. l ++ ys) (map-append view done (y ∷ [])) ∙ append_assoc (map view done) (view y ∷ []) ys)

  -- an element is refused, or memory runs out
  pub doing_stops : {Q : Type 0} {show : Q → List Y} (xs : List X) (s t u : Names) (i : ℕ) (x : X) (done : List R) (e : Stop) → i < length xs → x ≡ get_or xs i x → Walked state view (g x) t u (Err e) → Doing state view g xs s (drop i xs) done t → Walked state show (each g xs) s u (Err e)
  unfolding each after
  doing_stops xs s t u i x done _ k is (refused gives) (doing so still) = refused (
      so
      ∙ ap (λ l. after (each g l (scope_of t) (state t)) (λ ys made. Ok (map view done ++ ys, made))) (from_here xs i x k is)
      ∙ ap (λ r. after (after r (λ y made. after (each g (drop (i + 1) xs) (scope_of t) made) (λ ys made. Ok (y ∷ ys, made)))) (λ ys made. Ok (map view done ++ ys, made))) gives)
  doing_stops xs s t u i x done _ k is no_memory d = no_memory

  pub doing_end : {Q : Type 0} {show : Q → List Y} (xs : List X) (s t : Names) (i : ℕ) (done : List R) (all : Q) → length xs ≤ i → show all ≡ map view done → Doing state view g xs s (drop i xs) done t → Walked state show (each g xs) s t (Ok all)
  unfolding each after
  doing_end xs s t i done all k is (doing so still) = went (
      so
      ∙ ap (λ l. after (each g l (scope_of t) (state t)) (λ ys made. Ok (map view done ++ ys, made))) (drop_of_length-le xs k)
      ∙ ap (λ l. Ok (l, state t)) (append-nil (map view done) ∙ sym is)) still
