-- The parameters of a lambda are entered.
use Rattle.std.proofs.Common.{◌≡◌, ℕ, ◌+◌, ◌<◌, ◌≤◌, List, [], ◌∷◌, ◌++◌, map, length, get_or, drop, Bool, true, false, cond, Option, Some, None, Result, Ok, Err, refl, sym, ap, ◌∙◌, subst}
use Rattle.std.proofs.lemmas.List.{map-append}
use Rattle.std.specs.Borrow.{Bor}
use Rattle.fut_flat.specs.declared.pat.Pat.{Pat}
use Rattle.fut_flat.specs.Erased.{FlatPattern, pattern_of, patterns}
use Rattle.fut_flat.specs.Numbers.{pattern_numbers}
use Rattle.fut_types.specs.Types.{Sub}
use Rattle.fut_typing.specs.Names.{Names}
use Rattle.sized_types.specs.Sizes.{Size, Hole, Open, Level, Built, Fun, replaced}
use Rattle.fut_sizes.specs.Agreeing.{Answer, then_do}
use Rattle.fut_sizes.specs.Functions as functions
use Rattle.fut_sizes.specs.Functions.{value_name}
use Rattle.fut_sizes.specs.Matching as matching
use Rattle.fut_sizes.specs.Matching.{data_way, meet, none_opened}
use Rattle.fut_sizes.specs.Scopes.{Scope, Taken, bound_by}
use Rattle.fut_sizes.specs.Sizing as sizing
use Rattle.fut_sizes.specs.Sizing.{all_entered, enter, enter_wanted, entered, in_pattern, is_open, own_sizes}
use Rattle.size_arena.specs.declared.agreeing.SizeErr.{SizeErr}
use Rattle.size_arena.specs.declared.agreeing.SizeErr.TheVariants as size_err
use Rattle.size_arena.specs.declared.trees.SizeTree.{SizeTree}
use Rattle.size_arena.specs.Trees.{size_of}
use Rattle.size_functions.specs.declared.takings.Taking.{Taking}
use Rattle.size_functions.specs.Takings.{taking_of, takings_of}
use Rattle.size_program.specs.declared.maps.NumberMap.{NumberMap}
use Rattle.size_program.specs.Answers.{Answers, answers, refuses, no_memory}
use Rattle.size_program.specs.Tables.{In_scope}
use Rattle.size_program.proofs.StepLaws.{answered, answered_not}
use Rattle.size_slots.specs.declared.slots.Found.{Found}
use Rattle.size_slots.specs.Held.{Holds, Met, met, unmet, no_memory_met}
use Rattle.size_written.specs.Answers.{held}
use Rattle.size_patterns.specs.declared.binding.Bindings.{Bindings}
use Rattle.size_patterns.specs.declared.changing.Change.TheVariants as change
use Rattle.size_patterns.specs.declared.entering.Arrow.{Arrow}
use Rattle.size_patterns.specs.declared.entering.Entered.{Entered}
use Rattle.size_patterns.specs.declared.entering.Entry.{Entry}
use Rattle.size_patterns.specs.Arrows.{arrow_size, Is_arrow, an_arrow, no_arrow, open_to, starting, wanted_from, wanted_to, wants_function}
use Rattle.size_patterns.specs.Bound.{Bound_so, Entered_one, Entered_so}
use Rattle.size_patterns.specs.Changes.{change_of}
use Rattle.size_patterns.proofs.Chains.{Reaches, reach_as, reach_end, reach_more, reach_start, reach_stop}
use Rattle.size_patterns.proofs.Results.{answers_as, no_err, no_ok, same_err}
use Rattle.size_patterns.proofs.PatternForms.{patterns_at, patterns_end}

abbrev pub Entry_given : Type 0
Entry_given = Result Entry SizeErr

-- what is found is held
pub held_one : (g : Found) (σ : matching.Found) (before : List functions.Taking) (a : Answer sizing.Entered) (r : Entry_given) → Holds g σ → Answers (Entered_one (λ τ. τ ≡ σ) before) a r → Answers (Entered_one (Holds g) before) a r
held_one g σ before a r held done = answers_as (Entered_one (λ τ. τ ≡ σ) before) (Entered_one (Holds g) before) a r
    (λ e E so. record { scope = so.scope; parameters = so.parameters; wanted = so.wanted; found = subst (Holds g) (sym so.found) held }) done

-- ---- what is wanted, opened

module _ (p : FlatPattern) (q : ℕ) (a : Arrow) (name : Option ℕ) (e : name ≡ value_name p) where
  pub rest_open : (rest : Size) → rest ≡ replaced (change_of (change.Enter q a.chosen name true)) 0 (size_of a.to.now) → rest ≡ open_to p q a
  rest_open rest h = h ∙ ap (λ z. replaced (change_of (change.Enter q a.chosen z true)) 0 (size_of a.to.now)) e

  pub rest_wanted : (rest : Size) → rest ≡ replaced (change_of (change.Enter q a.chosen name false)) 0 (size_of a.to.now) → rest ≡ wanted_to p q a
  rest_wanted rest h = h ∙ ap (λ z. replaced (change_of (change.Enter q a.chosen z false)) 0 (size_of a.to.now)) e

  pub given_wanted : (given : Size) → given ≡ replaced (change_of (change.Enter q a.chosen name false)) 0 (size_of a.from.now) → given ≡ wanted_from p q a
  given_wanted given h = h ∙ ap (λ z. replaced (change_of (change.Enter q a.chosen z false)) 0 (size_of a.from.now)) e

module _ (N : Names) (types : Sub) where
  -- ---- one parameter, whose sized type is known

  module _ (p : Bor Pat) (q : ℕ) (size : Bor SizeTree) (t : Size) (rest : Option (Bor SizeTree)) (σ : matching.Found) (E : sizing.Entered) (is : size_of size.now ≡ in_pattern N types (pattern_of p.now) t) (k : Result Bindings SizeErr) (first : Answers Bound_so (bound_by N [] q (pattern_of p.now) (size_of size.now) E.scope) k) where
    abbrev enter_next : Size → Taken → Answer sizing.Entered
    enter_next u z = Ok (record { scope = z.scope; parameters = E.parameters ++ record { pattern = pattern_of p.now; node = q; size = u } ∷ []; wanted = held rest; found = σ })

    abbrev enter_at : Size → Answer sizing.Entered
    enter_at u = then_do (bound_by N [] q (pattern_of p.now) u E.scope) (enter_next u)

    abbrev pub Enters : Entry_given → Type 0
    Enters r = Answers (Entered_one (λ τ. τ ≡ σ) E.parameters) (entered N types (pattern_of p.now) q t (held rest) σ E) r

    pub sized_enters : (b : Bindings) → k ≡ Ok b → Enters (Ok (record { names = b.names; taking = record { pattern = p; node = q; size = size }; wanted = rest }))
    sized_enters b ok =
        let d = answered Bound_so (bound_by N [] q (pattern_of p.now) (size_of size.now) E.scope) k first b ok in
        answers (ap enter_at (sym is) ∙ ap (λ z. then_do z (enter_next (size_of size.now))) d.is) (record { scope = d.related.scope; parameters = refl; wanted = refl; found = refl })

    pub sized_not : (x : SizeErr) → k ≡ Err x → Enters (Err x)
    sized_not x err = subst (λ z. Answers (Entered_one (λ τ. τ ≡ σ) E.parameters) z (Err x)) (ap enter_at is) (answered_not Bound_so (bound_by N [] q (pattern_of p.now) (size_of size.now) E.scope) k first (Entered_one (λ τ. τ ≡ σ) E.parameters) (enter_next (size_of size.now)) x err)

  -- ---- one of which something is wanted

  module _ (lo : ℕ) (p : FlatPattern) (q : ℕ) (u t r : Size) (E : sizing.Entered) (is : u ≡ in_pattern N types p t) (g : Found) (k : Result (Unit {0}) SizeErr) (first : Met (meet lo data_way lo none_opened u none_opened t E.found) g k) where
    abbrev wanted_next : matching.Found → Answer sizing.Entered
    wanted_next found = entered N types p q t (Some r) found E

    wanted_is : enter_wanted N types lo p q t r E ≡ then_do (meet lo data_way lo none_opened u none_opened t E.found) wanted_next
    wanted_is = ap (λ z. then_do (meet lo data_way lo none_opened z none_opened t E.found) wanted_next) (sym is)

    abbrev pub Enters_wanted : Entry_given → Type 0
    Enters_wanted o = Answers (Entered_one (Holds g) E.parameters) (enter_wanted N types lo p q t r E) o

    pub met_enters : (x : Unit {0}) (o : Entry_given) → k ≡ Ok x → ((σ : matching.Found) → Answers (Entered_one (λ τ. τ ≡ σ) E.parameters) (entered N types p q t (Some r) σ E) o) → Enters_wanted o
    met_enters x o ok rest = by_met first ok
      where
        by_met : {k : Result (Unit {0}) SizeErr} → Met (meet lo data_way lo none_opened u none_opened t E.found) g k → k ≡ Ok x → Enters_wanted o
        by_met (met σ m there) ok = subst (λ z. Answers (Entered_one (Holds g) E.parameters) z o) (sym (wanted_is ∙ ap (λ z. then_do z wanted_next) m)) (held_one g σ E.parameters (wanted_next σ) o there (rest σ))
        by_met (unmet {e = y} m) ok = elim (no_err _ x ok) [ ]
        by_met no_memory_met ok = elim (no_err _ x ok) [ ]

    pub met_not : (x : SizeErr) → k ≡ Err x → Enters_wanted (Err x)
    met_not x err = by_met first err
      where
        by_met : {k : Result (Unit {0}) SizeErr} → Met (meet lo data_way lo none_opened u none_opened t E.found) g k → k ≡ Err x → Enters_wanted (Err x)
        by_met (met σ m there) err = elim (no_ok x tt err) [ ]
        by_met (unmet {e = y} m) err = subst (λ z. Enters_wanted (Err z)) (same_err (size_err.Refused y) x err) (refuses (wanted_is ∙ ap (λ z. then_do z wanted_next) m))
        by_met no_memory_met err = subst (λ z. Enters_wanted (Err z)) (same_err size_err.Memory x err) no_memory

  -- ---- by what is wanted

  module _ (lo : ℕ) (p : FlatPattern) (q : ℕ) (E : sizing.Entered) (g : Found) (o : Entry_given) where
    module _ (a : Arrow) where
      abbrev pub Enters_arrow : Type 0
      Enters_arrow = Answers (Entered_one (Holds g) E.parameters) (enter N types lo p q (Some (arrow_size a)) E) o

      abbrev either_way : Bool → Answer sizing.Entered
      either_way b = cond b (entered N types p q (own_sizes N types q) (Some (open_to p q a)) E.found E) (enter_wanted N types lo p q (wanted_from p q a) (wanted_to p q a) E)

      pub open_enters : (b : Bool) → b ≡ true → b ≡ is_open (size_of a.from.now) → Holds g E.found → Answers (Entered_one (λ τ. τ ≡ E.found) E.parameters) (entered N types p q (own_sizes N types q) (Some (open_to p q a)) E.found E) o → Enters_arrow
      open_enters b e is held done = subst (λ z. Answers (Entered_one (Holds g) E.parameters) z o) (ap either_way (sym e ∙ is)) (held_one g E.found E.parameters (either_way true) o held done)

      pub wanted_enters : (b : Bool) (given rest : Size) → b ≡ false → b ≡ is_open (size_of a.from.now) → given ≡ wanted_from p q a → rest ≡ wanted_to p q a → Answers (Entered_one (Holds g) E.parameters) (enter_wanted N types lo p q given rest E) o → Enters_arrow
      wanted_enters b given rest e is from to done = subst (λ z. Answers (Entered_one (Holds g) E.parameters) z o)
          (ap (λ z. enter_wanted N types lo p q z rest E) from ∙ ap (λ z. enter_wanted N types lo p q (wanted_from p q a) z E) to ∙ ap either_way (sym e ∙ is)) done

    abbrev pub Enters_by : Option Size → Type 0
    Enters_by w = Answers (Entered_one (Holds g) E.parameters) (enter N types lo p q w E) o

    pub arrow_enters : (w : Option Size) (a : Arrow) → Is_arrow w (Some a) → Enters_arrow a → Enters_by w
    arrow_enters w a (an_arrow e) done = subst Enters_by (sym e) done

    nothing_wanted : (w : Option Size) → wants_function w ≡ false → entered N types p q (own_sizes N types q) None E.found E ≡ enter N types lo p q w E
    nothing_wanted None e = refl
    nothing_wanted (Some (Hole v)) e = refl
    nothing_wanted (Some (Open n v u)) e = refl
    nothing_wanted (Some (Level d t)) e = refl
    nothing_wanted (Some (Built h ts)) e = refl
    nothing_wanted (Some (Fun k t r)) e = cc

    pub own_enters : (w : Option Size) → Is_arrow w None → Holds g E.found → Answers (Entered_one (λ τ. τ ≡ E.found) E.parameters) (entered N types p q (own_sizes N types q) None E.found E) o → Enters_by w
    own_enters w (no_arrow e) held done = subst (λ z. Answers (Entered_one (Holds g) E.parameters) z o) (nothing_wanted w e) (held_one g E.found E.parameters (entered N types p q (own_sizes N types q) None E.found E) o held done)

-- ---- one parameter after another

-- the first are entered, and these are they
pub record Entered_far (g : Found) (names : NumberMap) (left : Option (Bor SizeTree)) (made : List Taking) (E : sizing.Entered) : Type 0 where
  pub scope : In_scope names E.scope
  pub parameters : E.parameters ≡ takings_of made
  pub wanted : E.wanted ≡ held left
  pub found : Holds g E.found

abbrev pub entered_from : Names → Sub → ℕ → List Pat → ℕ → ℕ → sizing.Entered → Answer sizing.Entered
entered_from N types lo ps i q E = all_entered N types lo (patterns (map pattern_of (drop i ps))) q E

module _ (N : Names) (types : Sub) (lo : ℕ) (ps : List Pat) where
  pub none_entered : (g : Found) (names : NumberMap) (wanted : Option (Bor SizeTree)) (made : List Taking) (first : ℕ) (scope : Scope) (σ : matching.Found) → made ≡ [] → In_scope names scope → Holds g σ
      → Reaches (Entered_far g names wanted made) (all_entered N types lo (patterns (map pattern_of ps)) first (starting scope (held wanted) σ)) (entered_from N types lo ps 0 first)
  none_entered g names wanted made first scope σ e known there = reach_start (Entered_far g names wanted made) (entered_from N types lo ps 0 first) (starting scope (held wanted) σ) (record { scope = known; parameters = ap takings_of (sym e); wanted = refl; found = there })

  module _ (i q : ℕ) (g : Found) (names : NumberMap) (wanted : Option (Bor SizeTree)) (made : List Taking) (whole : Answer sizing.Entered) (reached : Reaches (Entered_far g names wanted made) whole (entered_from N types lo ps i q)) where
    pub enter_ends : (e : Entered) → length ps ≤ i → e.names.now ≡ names → e.parameters.now ≡ made → e.wanted ≡ wanted → Answers (Entered_so g) whole (Ok e)
    enter_ends e l n m w = reach_end (Entered_far g names wanted made) whole (entered_from N types lo ps i q) (Entered_so g) e reached (λ E. ap (λ z. all_entered N types lo z q E) (patterns_end pattern_of ps i l))
        (λ E so. record { scope = subst (λ z. In_scope z E.scope) (sym n) so.scope; parameters = so.parameters ∙ ap takings_of (sym m); wanted = so.wanted ∙ ap held (sym w); found = so.found })

    module _ (h : Found) (k : Entry_given) (p : Pat) (l : i < length ps) (first : (E : sizing.Entered) → In_scope names E.scope → Holds g E.found → Answers (Entered_one (Holds h) E.parameters) (enter N types lo (pattern_of (get_or ps i p)) q (held wanted) E) k) where
      abbrev one_step : sizing.Entered → Answer sizing.Entered
      one_step E = enter N types lo (pattern_of (get_or ps i p)) q (held wanted) E

      abbrev after_one : sizing.Entered → Answer sizing.Entered
      after_one E = entered_from N types lo ps (i + 1) (q + pattern_numbers (pattern_of (get_or ps i p))) E

      first_so : (E : sizing.Entered) → Entered_far g names wanted made E → Answers (Entered_one (Holds h) (takings_of made)) (one_step E) k
      first_so E so = subst (λ z. Answers (Entered_one (Holds h) z) (one_step E) k) so.parameters (first E so.scope so.found)

      next_so : (E : sizing.Entered) → Entered_far g names wanted made E → entered_from N types lo ps i q E ≡ then_do (one_step E) after_one
      next_so E so = ap (λ z. all_entered N types lo z q E) (patterns_at pattern_of ps i p l) ∙ ap (λ z. then_do (enter N types lo (pattern_of (get_or ps i p)) q z E) after_one) so.wanted

      pub enter_more : (e : Entry) (more : List Taking) (next : ℕ) → k ≡ Ok e → more ≡ made ++ e.taking ∷ [] → next ≡ q + pattern_numbers (pattern_of (get_or ps i p)) → Reaches (Entered_far h e.names.now e.wanted more) whole (entered_from N types lo ps (i + 1) next)
      enter_more e more next is by n = subst (λ z. Reaches (Entered_far h e.names.now e.wanted more) whole (entered_from N types lo ps (i + 1) z)) (sym n)
          (reach_as (Entered_one (Holds h) (takings_of made) e) (Entered_far h e.names.now e.wanted more) whole after_one
          (λ E so. record { scope = so.scope; parameters = so.parameters ∙ sym (map-append taking_of made (e.taking ∷ [])) ∙ ap takings_of (sym by); wanted = so.wanted; found = so.found })
          (reach_more (Entered_far g names wanted made) whole (entered_from N types lo ps i q) one_step after_one (Entered_one (Holds h) (takings_of made)) k reached first_so next_so e is))

      pub enter_stops : (x : SizeErr) → k ≡ Err x → Answers (Entered_so h) whole (Err x)
      enter_stops x is = reach_stop (Entered_far g names wanted made) whole (entered_from N types lo ps i q) one_step after_one (Entered_one (Holds h) (takings_of made)) k reached first_so next_so (Entered_so h) x is
