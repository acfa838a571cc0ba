-- Rows whose items are taken one after the other.
use Rattle.std.proofs.Common.{◌≡◌, ℕ, ◌+◌, ◌<◌, ◌≤◌, zero, suc, List, [], ◌∷◌, length, drop, get_or, slice_index_or, Result, Ok, Err, refl, sym, ap, ◌∙◌, subst}
use Rattle.std.proofs.lemmas.List.{drop_more}
use Rattle.std.proofs.Math.ListN.{drop_of_length-le}
use Rattle.elab_scopes.specs.Resolve.{after}
use Rattle.elab_scopes.specs.Declarations.{State, Step}
use Rattle.elab_scopes.specs.declared.refusal.Stop.{Stop}
use Rattle.module_state.specs.declared.state.Declaring.{Declaring}
use Rattle.module_state.specs.Standing.{Stands, Does, does, refuses, stops}

-- ---- items by their numbers

pub same_at : {A : Type 0} (xs : List A) (i : ℕ) (d : A) → get_or xs i d ≡ slice_index_or xs i d
same_at [] i d = refl
same_at (x ∷ xs) zero d = refl
same_at (x ∷ xs) (suc i) d = same_at xs i d

pub from_item : {A : Type 0} (xs : List A) (i : ℕ) (x : A) → i < length xs → x ≡ get_or xs i x → drop i xs ≡ x ∷ drop (i + 1) xs
from_item xs i x lt is = drop_more xs i x lt ∙ ap (λ y. y ∷ drop (i + 1) xs) (sym is)

pub from_index : {A : Type 0} (xs : List A) (i : ℕ) (d : A) → i < length xs → drop i xs ≡ slice_index_or xs i d ∷ drop (i + 1) xs
from_index xs i d lt = drop_more xs i d lt ∙ ap (λ y. y ∷ drop (i + 1) xs) (same_at xs i d)

-- ---- how far a row has come

pub data So_far {C : Type 0} (step rest : Step C) (d d1 : Declaring) : Type 0 where
  so_far : ((s : State) → Stands d s → (t : State) × (step s ≡ rest t) × Stands d1 t) → So_far step rest d d1

pub at_start : {C : Type 0} (step : Step C) (d : Declaring) → So_far step step d d
at_start step d = so_far (λ s st. (s, refl, st))

module _ {D B H C : Type 0} (rest : List D → B → Step C) (one : D → B → Step B) (more : (x : D) (xs : List D) (b : B) (s : State) → rest (x ∷ xs) b s ≡ after (one x b s) (rest xs)) (view : H → B) (step : Step C) (ds : List D) (i : ℕ) (x : D) (from : drop i ds ≡ x ∷ drop (i + 1) ds) where
  pub item_next : (b c : H) {d d1 d2 : Declaring} {q : Result H Stop} → q ≡ Ok c → Does view (one x (view b)) d1 d2 q → So_far step (rest (drop i ds) (view b)) d d1 → So_far step (rest (drop (i + 1) ds) (view c)) d d2
  unfolding after
  item_next b c {d1 = d1} {d2 = d2} e w g = next (subst (λ r. Does view (one x (view b)) d1 d2 r) e w) g
    where
      next : {d d1 d2 : Declaring} → Does view (one x (view b)) d1 d2 (Ok c) → So_far step (rest (drop i ds) (view b)) d d1 → So_far step (rest (drop (i + 1) ds) (view c)) d d2
      next (does f) (so_far g) = so_far (λ s st.
          let t = g s st in
          let n = f t.0 t.2 in
          (n.state, t.1 ∙ ap (λ l. rest l (view b) t.0) from ∙ more x (drop (i + 1) ds) (view b) t.0 ∙ ap (λ r. after r (rest (drop (i + 1) ds))) n.is, n.stands))

  pub item_stops : {Q : Type 0} (show : Q → C) (b : H) {d d1 d2 : Declaring} {e : Stop} {q : Result H Stop} → q ≡ Err e → Does view (one x (view b)) d1 d2 q → So_far step (rest (drop i ds) (view b)) d d1 → Does show step d d2 (Err e)
  unfolding after
  item_stops show b {d1 = d1} {d2 = d2} {e = e} is w g = halt (subst (λ r. Does view (one x (view b)) d1 d2 r) is w) g
    where
      halt : {d d1 d2 : Declaring} {e : Stop} → Does view (one x (view b)) d1 d2 (Err e) → So_far step (rest (drop i ds) (view b)) d d1 → Does show step d d2 (Err e)
      halt (refuses f) (so_far g) = refuses (λ s st.
          let t = g s st in
          t.1 ∙ ap (λ l. rest l (view b) t.0) from ∙ more x (drop (i + 1) ds) (view b) t.0 ∙ ap (λ r. after r (rest (drop (i + 1) ds))) (f t.0 t.2))
      halt stops (so_far g) = stops

pub row_ends : {D B H C Q : Type 0} (rest : List D → B → Step C) (last : B → C) (none : (b : B) (s : State) → rest [] b s ≡ Ok (last b, s)) (view : H → B) (show : Q → C) (step : Step C) (ds : List D) (i : ℕ) (b : H) (y : Q) {d d1 : Declaring}
    → length ds ≤ i → show y ≡ last (view b) → So_far step (rest (drop i ds) (view b)) d d1 → Does show step d d1 (Ok y)
row_ends rest last none view show step ds i b y le e (so_far g) = does (λ s st.
    let t = g s st in
    record { state = t.0; is = t.1 ∙ ap (λ l. rest l (view b) t.0) (drop_of_length-le ds le) ∙ none (view b) t.0 ∙ (λ j. Ok (sym e j, t.0)); stands = t.2 })
