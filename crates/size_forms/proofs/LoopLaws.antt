-- The equations of loops, turn by turn.
use Rattle.std.proofs.Common.{◌≡◌, ℕ, zero, suc, ◌+◌, List, [], ◌∷◌, Option, Some, None, Ok, Err, refl, sym, ap, ◌∙◌}
use Rattle.fut_scalar.specs.declared.place.BindId.{BindId}
use Rattle.fut_scalar.specs.declared.place.Place.{Place}
use Rattle.fut_flat.specs.Terms.{Loop, Counted, Over, While}
use Rattle.fut_flat.specs.Numbers.{numbers, pattern_numbers, turn_numbers}
use Rattle.fut_flat.specs.Erased.{FlatTerm, FlatTurns, FlatPattern}
use Rattle.fut_types.specs.Types.{Sub}
use Rattle.fut_typing.specs.Names.{Names}
use Rattle.sized_types.specs.Sizes.{Size, levels, renamed}
use Rattle.fut_sizes.specs.Agreeing.{Answer, then_do}
use Rattle.fut_sizes.specs.Applications.{Part, whole}
use Rattle.fut_sizes.specs.Scopes.{Scope, Taken, as_taken, bound_at}
use Rattle.fut_sizes.specs.Sizing.{sized, finished, pattern_noted, turns_sized, condition_sized, turns_from, lacking, differing, another}
use Rattle.fut_sizes.specs.Steps.{State, Done, Step, give, ask, and_then, dropped_by}
use Rattle.size_forms.specs.Walked.{whole_sized}
use Rattle.size_forms.specs.Loops.{each_given, Turned, turn_sized, kept_or_dropped, turn_taken, or_again}
use Rattle.size_forms.proofs.StepForms.{then_same}
use Rattle.size_forms.proofs.WalkLaws.{whole_first}

module _ (N : Names) (types : Sub) where
  -- ---- turns

  abbrev after_turn : ℕ → List ℕ → Size → Step Size → Step Size
  after_turn n ds t again = and_then (kept_or_dropped n ds t) (λ o. or_again o again)

  -- what follows a turn that has ended
  by_levels : (n : ℕ) (is : List ℕ) (t : Size) (again : Step Size) (s : State) → another N types n is t again s ≡ after_turn n is t again s
  by_levels n [] t again s = refl
  by_levels n (i ∷ is) t again s = refl

  pub turns_step : (left n : ℕ) (t : Size) (turn : Size → Step Size) (s : State) → turns_from N types (suc left) n t turn s ≡ and_then (turn_taken N types n t turn) (λ o. or_again o (turns_from N types left n t turn)) s
  unfolding turns_from
  turns_step left n t turn s = by_turn (s.dropped n) (turn (lacking N types n (s.dropped n) 0 t) s)
    where
      by_turn : (ds : List ℕ) (a : Answer (Done Size))
          → then_do a (λ d. another N types n (differing N types ds 0 (lacking N types n ds 0 t) d.result) (lacking N types n ds 0 t) (turns_from N types left n t turn) d.state)
          ≡ then_do (then_do a (λ d. kept_or_dropped n (differing N types ds 0 (lacking N types n ds 0 t) d.result) (lacking N types n ds 0 t) d.state)) (λ d. or_again d.result (turns_from N types left n t turn) d.state)
      by_turn ds (Ok d) = by_levels n (differing N types ds 0 (lacking N types n ds 0 t) d.result) (lacking N types n ds 0 t) (turns_from N types left n t turn) d.state
      by_turn ds (Err x) = refl

  pub turns_end : (n : ℕ) (t : Size) (turn : Size → Step Size) (s : State) → turns_from N types zero n t turn s ≡ and_then (dropped_by n) (λ ds. give (lacking N types n ds 0 t)) s
  unfolding turns_from
  turns_end n t turn s = refl

  -- turns that do the same
  turn_same : (n : ℕ) (t : Size) (f g : Size → Step Size) → ((u : Size) (s : State) → f u s ≡ g u s) → (s : State) → turn_taken N types n t f s ≡ turn_taken N types n t g s
  turn_same n t f g h s = ap (λ z. then_do z (λ d. kept_or_dropped n (differing N types (s.dropped n) 0 (lacking N types n (s.dropped n) 0 t) d.result) (lacking N types n (s.dropped n) 0 t) d.state)) (h (lacking N types n (s.dropped n) 0 t) s)

  again_same : (o : Option Size) (f g : Step Size) → ((s : State) → f s ≡ g s) → (s : State) → or_again o f s ≡ or_again o g s
  again_same (Some t) f g h s = refl
  again_same None f g h s = h s

  pub turns_same : (left n : ℕ) (t : Size) (f g : Size → Step Size) → ((u : Size) (s : State) → f u s ≡ g u s) → (s : State) → turns_from N types left n t f s ≡ turns_from N types left n t g s
  turns_same zero n t f g h s = turns_end n t f s ∙ sym (turns_end n t g s)
  turns_same (suc left) n t f g h s = turns_step left n t f s
      ∙ ap (λ z. then_do z (λ d. or_again d.result (turns_from N types left n t f) d.state)) (turn_same n t f g h s)
      ∙ then_same (turn_taken N types n t g) (λ o. or_again o (turns_from N types left n t f)) (λ o. or_again o (turns_from N types left n t g)) (λ o z. again_same o (turns_from N types left n t f) (turns_from N types left n t g) (turns_same left n t f g h) z) s
      ∙ sym (turns_step left n t g s)

  -- ---- what is counted or gone over

  pub counted_is : (i : BindId) (m : FlatTerm) (at : ℕ) (scope : Scope) (s : State) → turns_sized N types (Counted i m) at scope s ≡ and_then (whole_sized types m [] (1 + at) N scope) (λ t. each_given types (Counted i m) at t N) s
  unfolding turns_sized
  counted_is i m at scope s = whole_first N types scope m [] (1 + at) (λ t. each_given types (Counted i m) at t N) s

  pub over_is : (p : FlatPattern) (e : FlatTerm) (at : ℕ) (scope : Scope) (s : State) → turns_sized N types (Over p e) at scope s ≡ and_then (whole_sized types e [] (at + pattern_numbers p) N scope) (λ t. each_given types (Over p e) at t N) s
  unfolding turns_sized
  over_is p e at scope s = whole_first N types scope e [] (at + pattern_numbers p) (λ t. each_given types (Over p e) at t N) s

  pub while_is : (c : FlatTerm) (at : ℕ) (scope : Scope) (s : State) → turns_sized N types (While c) at scope s ≡ give (λ inner. Ok inner) s
  unfolding turns_sized
  while_is c at scope s = refl

  pub condition_is : (c : FlatTerm) (at : ℕ) (scope : Scope) (s : State) → condition_sized N types (While c) at scope s ≡ and_then (whole_sized types c [] at N scope) (λ z. give tt) s
  unfolding condition_sized
  condition_is c at scope s = whole_first N types scope c [] at (λ z. give tt) s

  -- ---- a loop

  module _ (sizes : List BindId) (p : FlatPattern) (turns : FlatTurns) (body : FlatTerm) (n at : ℕ) (scope : Scope) (each : Scope → Answer Scope) (carried : Size) where
    abbrev renamed_next : Taken → Size → Step Size
    renamed_next k u = give (renamed (as_taken sizes k.found) u)

    abbrev body_next : Taken → Scope → Step Size
    body_next k inner = and_then (condition_sized N types turns at inner) (λ z. and_then (sized N types body [] (at + turn_numbers turns) inner) (λ part. and_then (finished N types (at + turn_numbers turns) part) (renamed_next k)))

    abbrev a_turn : Step Size
    a_turn = and_then (ask (bound_at N sizes (at + turn_numbers turns) (1 + n + pattern_numbers p) p carried scope)) (λ k. and_then (pattern_noted N types p (1 + n) carried) (λ y. and_then (ask (each k.scope)) (body_next k)))

    abbrev inside_next : Turned → Step Size
    inside_next inside = and_then (condition_sized N types turns at inside.scope) (λ z. and_then (whole_sized types body [] (at + turn_numbers turns) N inside.scope) (λ u. give (renamed (as_taken sizes inside.found) u)))

    by_each : (k : Taken) (s : State) (a : Answer Scope) → and_then (ask a) (body_next k) s ≡ and_then (and_then (ask a) (λ inner. give (record { scope = inner; found = k.found }))) inside_next s
    by_each k s (Ok inner) = then_same (condition_sized N types turns at inner) (λ z. and_then (sized N types body [] (at + turn_numbers turns) inner) (λ part. and_then (finished N types (at + turn_numbers turns) part) (renamed_next k))) (λ z. and_then (whole_sized types body [] (at + turn_numbers turns) N inner) (renamed_next k))
        (λ z t. whole_first N types inner body [] (at + turn_numbers turns) (renamed_next k) t) s
    by_each k s (Err x) = refl

    by_noted : (k : Taken) (a : Answer (Done (Unit {0}))) → then_do a (λ d. and_then (ask (each k.scope)) (body_next k) d.state) ≡ then_do (then_do a (λ d. and_then (ask (each k.scope)) (λ inner. give (record { scope = inner; found = k.found })) d.state)) (λ d. inside_next d.result d.state)
    by_noted k (Ok d) = by_each k d.state (each k.scope)
    by_noted k (Err x) = refl

    by_bound : (s : State) (a : Answer Taken) → and_then (ask a) (λ k. and_then (pattern_noted N types p (1 + n) carried) (λ y. and_then (ask (each k.scope)) (body_next k))) s
        ≡ and_then (and_then (ask a) (λ k. and_then (pattern_noted N types p (1 + n) carried) (λ z. and_then (ask (each k.scope)) (λ inner. give (record { scope = inner; found = k.found }))))) inside_next s
    by_bound s (Ok k) = by_noted k (pattern_noted N types p (1 + n) carried s)
    by_bound s (Err x) = refl

    pub turn_is : (s : State) → a_turn s ≡ turn_sized types n sizes p turns at body each carried N scope s
    turn_is s = by_bound s (bound_at N sizes (at + turn_numbers turns) (1 + n + pattern_numbers p) p carried scope)

  abbrev pub turned : ℕ → List BindId → FlatPattern → FlatTurns → ℕ → FlatTerm → (Scope → Answer Scope) → Scope → Size → Step Size
  turned n sizes p turns at body each scope carried = turn_sized types n sizes p turns at body each carried N scope

  -- its turns, where its first value has a sized type
  abbrev pub each_next : ℕ → List BindId → FlatPattern → FlatTurns → ℕ → FlatTerm → Scope → Size → (Scope → Answer Scope) → Step Part
  each_next n sizes p turns at body scope t each = and_then (turns_from N types (suc (levels t)) n t (turned n sizes p turns at body each scope)) (λ r. give (whole r))

  abbrev pub first_next : ℕ → List BindId → FlatPattern → FlatTurns → ℕ → FlatTerm → Scope → Size → Step Part
  first_next n sizes p turns at body scope t = and_then (turns_sized N types turns at scope) (each_next n sizes p turns at body scope t)

  pub loop_is : (mark : Place) (sizes : List BindId) (p : FlatPattern) (first : FlatTerm) (turns : FlatTurns) (body : FlatTerm) (bs : List ℕ) (n i at : ℕ) (scope : Scope) (s : State) → i ≡ 1 + n + pattern_numbers p → at ≡ i + numbers first
      → sized N types (Loop mark sizes p first turns body) bs n scope s ≡ and_then (whole_sized types first [] i N scope) (first_next n sizes p turns at body scope) s
  unfolding sized
  loop_is mark sizes p first turns body bs n i at scope s a b = rw (b, a) (
      whole_first N types scope first [] (1 + n + pattern_numbers p) by_first s
      ∙ then_same (whole_sized types first [] (1 + n + pattern_numbers p) N scope) by_first (first_next n sizes p turns begin body scope) (λ t y. then_same (turns_sized N types turns begin scope) (by_each_of t) (each_next n sizes p turns begin body scope t) (λ each x. ap (λ z. then_do z (λ d. give (whole d.result) d.state)) (turns_same (suc (levels t)) n t (a_turn sizes p turns body n begin scope each) (turned n sizes p turns begin body each scope) (λ u w. turn_is sizes p turns body n begin scope each u w) x)) y) s)
    where
      begin : ℕ
      begin = 1 + n + pattern_numbers p + numbers first

      by_each_of : Size → (Scope → Answer Scope) → Step Part
      by_each_of t each = and_then (turns_from N types (suc (levels t)) n t (a_turn sizes p turns body n begin scope each)) (λ r. give (whole r))

      by_first : Size → Step Part
      by_first t = and_then (turns_sized N types turns begin scope) (by_each_of t)
