-- One more item of a list is done, of what a walk over it gave.
use Rattle.std.proofs.Common.{◌≡◌, ℕ, ◌+◌, ◌<◌, ◌≤◌, List, [], map, length, drop, get_or, refl, sym, subst, ◌∙◌, Result, Ok, Err}
use Rattle.std.specs.Borrow.{Bor}
use Rattle.elab_scopes.specs.declared.refusal.Stop.{Stop}
use Rattle.elab_scopes.specs.declared.table.Names.{Names}
use Rattle.elab_scopes.specs.Answers.{Walked, went, refused, no_memory, Entered, entered, not_entered, no_memory_entered}
use Rattle.elab_scopes.specs.Names.{Refusal}
use Rattle.elab_scopes.specs.Resolve.{Numbered}
use Rattle.elab_scopes.specs.Scopes.{Scope}
use Rattle.elab_scopes.specs.Table.{made_of, scope_of}
use Rattle.elab_scopes.specs.Walks.{Doing, each}
use Rattle.elab_scopes.proofs.Walking.{doing_start, doing_next, doing_stops, doing_end}
use Rattle.elab_nodes.specs.Built.{Built1, built1, stops1, no_memory1}
use Rattle.elab_types.specs.Lists.{Put, put, no_item, no_room}

module _ {S X Y R : Type 0} {state : Names → S} {view : R → Y} {g : X → Scope → S → Result (Y × S) Refusal} where
  pub start_of : (xs : List X) (s : Names) (done : List R) → done ≡ [] → Doing state view g xs s xs done s
  start_of xs s done none = subst (λ l. Doing state view g xs s xs l s) (sym none) (doing_start xs s)

  pub next_put : {P : Type 0} {item : P → R} (xs : List X) (s t u : Names) (i : ℕ) (x : X) (done more : List R) (r : Result P Stop) (w : Unit {0}) → i < length xs → x ≡ get_or xs i x
      → Walked state (λ p. view (item p)) (g x) t u r → Put item r done more (Ok w) → Doing state view g xs s (drop i xs) done t → Doing state view g xs s (drop (i + 1) xs) more u
  next_put {item = item} xs s t u i x done more _ w k is (went gives same) (put {x = p} so) d = subst (λ l. Doing state view g xs s (drop (i + 1) xs) l u) (sym so) (doing_next xs s t u i x done (item p) k is (went gives same) d)
  next_put xs s t u i x done more _ w k is (refused gives) p d = elim p [ ]
  next_put xs s t u i x done more _ w k is no_memory p d = elim p [ ]

  pub stops_put : {P Q : Type 0} {item : P → R} {show : Q → List Y} (xs : List X) (s t u : Names) (i : ℕ) (x : X) (done more : List R) (r : Result P Stop) (e : Stop) → i < length xs → x ≡ get_or xs i x
      → Walked state (λ p. view (item p)) (g x) t u r → Put item r done more (Err e) → Doing state view g xs s (drop i xs) done t → Walked state show (each g xs) s u (Err e)
  stops_put xs s t u i x done more _ _ k is (refused gives) no_item d = doing_stops xs s t u i x done _ k is (refused gives) d
  stops_put xs s t u i x done more _ _ k is no_memory no_item d = no_memory
  stops_put xs s t u i x done more r _ k is p no_room d = no_memory

  pub end_of : (xs : List X) (s t : Names) (i : ℕ) (done : List R) (w : Unit {0}) → length xs ≤ i → Doing state view g xs s (drop i xs) done t → Walked state (λ (u : Unit {0}). map view done) (each g xs) s t (Ok w)
  end_of xs s t i done w k d = doing_end xs s t i done w k refl d

-- the list that a walk made, in the arena
pub walked_list : {S A R : Type 0} {state : Names → S} {does : Scope → S → Result (A × S) Refusal} (show : List R → A) (s t : Names) (made held : List R) (a : Result (Unit {0}) Stop) (b : Result (Bor (List R)) Stop)
    → Walked state (λ (u : Unit {0}). show made) does s t a → held ≡ made → Built1 (λ (u : Unit {0}) (x : Bor (List R)). x.now ≡ held) a b → Walked state (λ (x : Bor (List R)). show x.now) does s t b
walked_list {state = state} show s t made held _ _ (went gives same) is (built1 so) = went (gives ∙ λ j. Ok (show (sym (so ∙ is) j), state t)) same
walked_list show s t made held _ _ (refused gives) is stops1 = refused gives
walked_list show s t made held _ _ no_memory is stops1 = no_memory
walked_list show s t made held a _ w is no_memory1 = no_memory

pub entered_list : {A R : Type 0} {does : Numbered (A × Scope)} (show : List R → A) (t : Names) (made held : List R) (a : Result (Unit {0}) Stop) (b : Result (Bor (List R)) Stop)
    → Entered (λ (u : Unit {0}). show made) does t a → held ≡ made → Built1 (λ (u : Unit {0}) (x : Bor (List R)). x.now ≡ held) a b → Entered (λ (x : Bor (List R)). show x.now) does t b
entered_list show t made held _ _ (entered gives) is (built1 so) = entered (gives ∙ λ j. Ok ((show (sym (so ∙ is) j), scope_of t), made_of t))
entered_list show t made held _ _ (not_entered gives) is stops1 = not_entered gives
entered_list show t made held _ _ no_memory_entered is stops1 = no_memory_entered
entered_list show t made held a _ w is no_memory1 = no_memory_entered
