-- What is done with a lambda before and behind its body.
use Rattle.std.proofs.Common.{◌≡◌, ℕ, ◌+◌, true, List, [], ◌∷◌, length, Option, Some, None, Result, Ok, Err, refl, sym, ap, ◌∙◌, subst, arith}
use Rattle.std.specs.Borrow.{Bor}
use Rattle.fut_scalar.specs.declared.place.BindId.{BindId}
use Rattle.fut_flat.specs.declared.prim.Ref.{Ref}
use Rattle.fut_flat.specs.Terms.{Patterns}
use Rattle.fut_flat.specs.Numbers.{all_pattern_numbers}
use Rattle.fut_types.specs.Types.{Sub}
use Rattle.fut_typing.specs.Names.{Names}
use Rattle.sized_types.specs.Sizes.{Size}
use Rattle.fut_sizes.specs.Agreeing.{Answer, then_do}
use Rattle.fut_sizes.specs.Applications.{Want, Met}
use Rattle.fut_sizes.specs.Functions as functions
use Rattle.fut_sizes.specs.Functions.{function_size, unchosen}
use Rattle.fut_sizes.specs.Matching as matching
use Rattle.fut_sizes.specs.Matching.{function_way, meet, none_opened}
use Rattle.fut_sizes.specs.Scopes.{Scope}
use Rattle.fut_sizes.specs.Sizing.{Entered, wanted_size, all_part_names, all_entered, leaving_function, none_left, parameters_noted, matched}
use Rattle.fut_sizes.specs.Steps.{Step, give, ask, and_then, note}
use Rattle.size_arena.specs.declared.agreeing.Refusal.TheVariants as refusal
use Rattle.size_arena.specs.declared.agreeing.SizeErr.{SizeErr}
use Rattle.size_arena.specs.declared.agreeing.SizeErr.TheVariants as size_err
use Rattle.size_arena.specs.declared.trees.SizeTree.{SizeTree}
use Rattle.size_arena.specs.Answers.{Gives, gives, no_memory as no_memory_given}
use Rattle.size_arena.specs.Answers as arena
use Rattle.size_arena.specs.Trees.{size_of}
use Rattle.size_program.specs.declared.tables.Tables.{Tables}
use Rattle.size_program.specs.Answers.{Answers, answers, refuses, no_memory, Steps}
use Rattle.size_program.proofs.StepLaws.{ask_stop, ask_then, asked, err_in, given, out_of_memory, steps_stop, steps_then}
use Rattle.size_slots.specs.declared.slots.Found.{Found}
use Rattle.size_slots.specs.Held.{Holds, Met as Has_met, met, no_memory_met, unmet}
use Rattle.size_functions.specs.Takings.{takings_of}
use Rattle.size_patterns.specs.Bound.{Entered_so}
use Rattle.size_patterns.specs.declared.entering.Entered as entereds
use Rattle.size_applying.specs.declared.arguments.Want as wants
use Rattle.size_walk.specs.declared.lambdas.Begun.{Begun}
use Rattle.size_walk.specs.Lambdas.{Begun_so, lambda_begun, lambda_ended}
use Rattle.size_walk.specs.Walked.{Lambda_met, want_of}

-- ---- the size names of a head

module _ (N : Names) (types : Sub) (n : ℕ) (bs left : List ℕ) (ps qs : List functions.Taking) (rest : left ≡ unchosen bs ps) (same : qs ≡ ps) where
  left_is : left ≡ unchosen bs qs
  left_is = rest ∙ ap (unchosen bs) (sym same)

  pub none_is_left : length left ≡ 0 → Answers (λ (u : Unit {0}) y. y ≡ u) (none_left N types n (unchosen bs qs)) (Ok tt)
  none_is_left none = subst (λ z. Answers (λ (u : Unit {0}) y. y ≡ u) (none_left N types n z) (Ok tt)) left_is (by_list left none)
    where
      by_list : (xs : List ℕ) → length xs ≡ 0 → Answers (λ (u : Unit {0}) y. y ≡ u) (none_left N types n xs) (Ok tt)
      by_list [] none = answers refl refl
      by_list (x ∷ xs) none = cc

  pub one_is_left : (length left ≡ 0 → ⊥) → Answers (λ (u : Unit {0}) y. y ≡ u) (none_left N types n (unchosen bs qs)) (Err (size_err.Refused (refusal.Escapes n)))
  one_is_left some = subst (λ z. Answers (λ (u : Unit {0}) y. y ≡ u) (none_left N types n z) (Err (size_err.Refused (refusal.Escapes n)))) left_is (by_list left some)
    where
      by_list : (xs : List ℕ) → (length xs ≡ 0 → ⊥) → Answers (λ (u : Unit {0}) y. y ≡ u) (none_left N types n xs) (Err (size_err.Refused (refusal.Escapes n)))
      by_list [] some = elim (some refl) [ ]
      by_list (x ∷ xs) some = refuses refl

pub ruleset chosen = (none_is_left, one_is_left, no_memory)

-- ---- before the body

module _ (N : Names) (types : Sub) (ps : Patterns Ref BindId) (bs : List ℕ) (lo : ℕ) (w : Option Want) (scope : Scope) (σ : matching.Found) (table : Found) (f : Tables) where
  abbrev Entering : ℕ → Option Size → Answer Entered
  Entering first t = all_entered N types lo ps first (record { scope = scope; parameters = []; wanted = t; found = σ })

  abbrev the_body : ℕ
  the_body = 1 + lo + all_pattern_numbers ps

  abbrev noted_next : Entered → Step Entered
  noted_next E = and_then (parameters_noted N types E.parameters) (λ y. give E)

  abbrev entered_next : Entered → Step Entered
  entered_next E = and_then (ask (none_left N types the_body (unchosen bs E.parameters))) (λ z. noted_next E)

  module _ (first : ℕ) (t : Option Size) (at : first ≡ lo + 1) (wanted : t ≡ wanted_size w) where
    entered_there : {r : Result entereds.Entered SizeErr} → Answers (Entered_so table) (Entering first t) r → Answers (Entered_so table) (Entering (1 + lo) (wanted_size w)) r
    entered_there {r = r} x = subst (λ z. Answers (Entered_so table) (Entering (1 + lo) z) r) wanted (subst (λ z. Answers (Entered_so table) (Entering z t) r) (omega (arith, at)) x)

    pub enter_refused : (x : SizeErr) (g : Tables) → Answers (Entered_so table) (Entering first t) (Err x) → Steps (Begun_so table) (lambda_begun N types ps bs lo w scope σ) f g (Err x)
    enter_refused x g enters = ask_stop (Entered_so table) (Begun_so table) (Entering (1 + lo) (wanted_size w)) entered_next f g (Err x) x refl (entered_there enters)

    module _ (e : entereds.Entered) (enters : Answers (Entered_so table) (Entering first t) (Ok e)) (body : ℕ) (begins : body ≡ first + all_pattern_numbers ps) where
      begin_then : (g : Tables) (r : Result Begun SizeErr) → ((E : Entered) → Entered_so table e E → Steps (Begun_so table) (entered_next E) f g r) → Steps (Begun_so table) (lambda_begun N types ps bs lo w scope σ) f g r
      begin_then g r rest = ask_then (Entered_so table) (Begun_so table) (Entering (1 + lo) (wanted_size w)) entered_next f g (Ok e) e r refl (entered_there enters) rest

      abbrev Choosing : Result (Unit {0}) SizeErr → Type 0
      Choosing r = (qs : List functions.Taking) → qs ≡ takings_of e.parameters.now → Answers (λ (u : Unit {0}) y. y ≡ u) (none_left N types body (unchosen bs qs)) r

      chosen_there : {r : Result (Unit {0}) SizeErr} → Choosing r → (E : Entered) → Entered_so table e E → Answers (λ (u : Unit {0}) y. y ≡ u) (none_left N types the_body (unchosen bs E.parameters)) r
      chosen_there {r = r} chooses E so = subst (λ z. Answers (λ (u : Unit {0}) y. y ≡ u) (none_left N types z (unchosen bs E.parameters)) r) (omega (arith, begins, at)) (chooses E.parameters so.parameters)

      pub unchosen_refused : (x : SizeErr) (g : Tables) → Choosing (Err x) → Steps (Begun_so table) (lambda_begun N types ps bs lo w scope σ) f g (Err x)
      unchosen_refused x g chooses = begin_then g (Err x) (λ E so. ask_stop (λ (u : Unit {0}) y. y ≡ u) (Begun_so table) (none_left N types the_body (unchosen bs E.parameters)) (λ z. noted_next E) f g (Err x) x refl (chosen_there chooses E so))

      module _ (u : Unit {0}) (chooses : Choosing (Ok u)) (g : Tables) where
        chosen_then : (r : Result Begun SizeErr) → ((E : Entered) → Entered_so table e E → Steps (Begun_so table) (noted_next E) f g r) → Steps (Begun_so table) (lambda_begun N types ps bs lo w scope σ) f g r
        chosen_then r rest = begin_then g r (λ E so. ask_then (λ (u : Unit {0}) y. y ≡ u) (Begun_so table) (none_left N types the_body (unchosen bs E.parameters)) (λ z. noted_next E) f g (Ok u) u r refl (chosen_there chooses E so) (λ z done. rest E so))

        notes_there : {o : Result (Unit {0}) SizeErr} → Steps (λ (u : Unit {0}) y. y ≡ u) (parameters_noted N types (takings_of e.parameters.now)) f g o → (E : Entered) → Entered_so table e E → Steps (λ (u : Unit {0}) y. y ≡ u) (parameters_noted N types E.parameters) f g o
        notes_there {o = o} notes E so = subst (λ z. Steps (λ (u : Unit {0}) y. y ≡ u) (parameters_noted N types z) f g o) (sym so.parameters) notes

        pub noting_stops : (x : SizeErr) → Steps (λ (u : Unit {0}) y. y ≡ u) (parameters_noted N types (takings_of e.parameters.now)) f g (Err x) → Steps (Begun_so table) (lambda_begun N types ps bs lo w scope σ) f g (Err x)
        noting_stops x notes = chosen_then (Err x) (λ E so. steps_stop (λ (u : Unit {0}) y. y ≡ u) (Begun_so table) (parameters_noted N types E.parameters) (λ y. give E) f g g (Err x) x refl (notes_there notes E so))

        pub begun : (v : Unit {0}) → Steps (λ (u : Unit {0}) y. y ≡ u) (parameters_noted N types (takings_of e.parameters.now)) f g (Ok v) → Steps (Begun_so table) (lambda_begun N types ps bs lo w scope σ) f g (Ok (record { names = e.names; parameters = e.parameters; body = body }))
        begun v notes = chosen_then (Ok (record { names = e.names; parameters = e.parameters; body = body })) (λ E so. steps_then (λ (u : Unit {0}) y. y ≡ u) (Begun_so table) (parameters_noted N types E.parameters) (λ y. give E) f g g (Ok v) v (Ok (record { names = e.names; parameters = e.parameters; body = body })) refl (notes_there notes E so)
            (λ y done. given (Begun_so table) (record { names = e.names; parameters = e.parameters; body = body }) E g (record { scope = so.scope; parameters = so.parameters; found = so.found })))

pub ruleset memory_runs_out = (out_of_memory)

-- ---- what is wanted

module _ (N : Names) (types : Sub) (lo : ℕ) (own : Bor SizeTree) (σ : matching.Found) (table : Found) where
  pub nothing_wanted : (w : Option wants.Want) → w ≡ None → Holds table σ → Answers (Lambda_met table) (matched N types lo (want_of w) (size_of own.now) σ) (Ok own)
  unfolding matched
  nothing_wanted w is holds = answers (ap (λ z. matched N types lo (want_of z) (size_of own.now) σ) is) (record { size = refl; found = holds })

  module _ (w : Option wants.Want) (want : wants.Want) (is : w ≡ Some want) where
    abbrev the_meeting : Answer matching.Found
    the_meeting = meet want.node (function_way want.is_regular) lo none_opened (size_of want.size.now) none_opened (size_of own.now) σ

    pub wanted_met : Has_met the_meeting table (Ok tt) → Answers (Lambda_met table) (matched N types lo (want_of w) (size_of own.now) σ) (Ok own)
    unfolding matched
    wanted_met m = by_met m refl
      where
        by_met : {r : Result (Unit {0}) SizeErr} → Has_met the_meeting table r → r ≡ Ok tt → Answers (Lambda_met table) (matched N types lo (want_of w) (size_of own.now) σ) (Ok own)
        by_met (met τ p holds) e = answers (ap (λ z. matched N types lo (want_of z) (size_of own.now) σ) is ∙ ap (λ z. then_do z (λ found. Ok (record { size = size_of own.now; found = found; later = []; goes_on = true }))) p) (record { size = refl; found = holds })
        by_met (unmet p) e = cc
        by_met no_memory_met e = cc

    pub wanted_unmet : (x : SizeErr) → Has_met the_meeting table (Err x) → Answers (Lambda_met table) (matched N types lo (want_of w) (size_of own.now) σ) (Err x)
    unfolding matched
    wanted_unmet x m = by_met m refl
      where
        err_of : (y : SizeErr) → err_in (Unit {0}) SizeErr y ≡ Err x → err_in (Bor SizeTree) SizeErr y ≡ Err x
        err_of y e = cc

        by_met : {r : Result (Unit {0}) SizeErr} → Has_met the_meeting table r → r ≡ Err x → Answers (Lambda_met table) (matched N types lo (want_of w) (size_of own.now) σ) (Err x)
        by_met (met τ p holds) e = cc
        by_met (unmet {e = y} p) e = subst (λ z. Answers (Lambda_met table) (matched N types lo (want_of w) (size_of own.now) σ) z) (err_of (size_err.Refused y) e) (refuses (ap (λ z. matched N types lo (want_of z) (size_of own.now) σ) is ∙ ap (λ z. then_do z (λ found. Ok (record { size = size_of own.now; found = found; later = []; goes_on = true }))) p))
        by_met no_memory_met e = subst (λ z. Answers (Lambda_met table) (matched N types lo (want_of w) (size_of own.now) σ) z) (err_of size_err.Memory e) no_memory

-- ---- behind the body

tree_answers : (a : Answer Size) (r : Result (Bor SizeTree) SizeErr) → Gives a r → Answers (λ (t : Bor SizeTree) y. y ≡ size_of t.now) a r
tree_answers a r (gives p) = answers p refl
tree_answers a r (arena.refuses p) = refuses p
tree_answers a r no_memory_given = no_memory

module _ (N : Names) (types : Sub) (ps : Patterns Ref BindId) (bs : List ℕ) (lo end : ℕ) (w : Option Want) (E : Entered) (body : Size) (before table : Found) (b : Begun) (so : Begun_so before b E) (f : Tables) (names : List ℕ) (named : names ≡ all_part_names ps) where
  abbrev own_next : Size → Step Met
  own_next r = and_then (note lo (function_size bs lo end E.parameters r)) (λ own. ask (matched N types lo w own E.found))

  abbrev the_end : Step Met
  the_end = lambda_ended N types ps bs lo end w E body

  abbrev Leaves : Result (Bor SizeTree) SizeErr → Type 0
  Leaves = Gives (leaving_function lo names (takings_of b.parameters.now) body)

  abbrev the_left : Answer Size
  the_left = leaving_function lo (all_part_names ps) E.parameters body

  left_there : {k : Result (Bor SizeTree) SizeErr} → Leaves k → Answers (λ (t : Bor SizeTree) y. y ≡ size_of t.now) the_left k
  left_there {k = k} x = subst (λ z. Answers (λ (t : Bor SizeTree) y. y ≡ size_of t.now) (leaving_function lo (all_part_names ps) z body) k) (sym so.parameters)
      (subst (λ z. Answers (λ (t : Bor SizeTree) y. y ≡ size_of t.now) (leaving_function lo z (takings_of b.parameters.now) body) k) named (tree_answers (leaving_function lo names (takings_of b.parameters.now) body) k x))

  pub leaving_refused : (x : SizeErr) (g : Tables) → Leaves (Err x) → Steps (Lambda_met table) the_end f g (Err x)
  leaving_refused x g leaves = ask_stop (λ (t : Bor SizeTree) y. y ≡ size_of t.now) (Lambda_met table) the_left own_next f g (Err x) x refl (left_there leaves)

  module _ (r : Bor SizeTree) (leaves : Leaves (Ok r)) (own : Bor SizeTree) (made : size_of own.now ≡ function_size bs lo end (takings_of b.parameters.now) (size_of r.now)) where
    left_then : (g : Tables) (k : Result (Bor SizeTree) SizeErr) → Steps (Lambda_met table) (and_then (note lo (size_of own.now)) (λ u. ask (matched N types lo w u E.found))) f g k → Steps (Lambda_met table) the_end f g k
    left_then g k rest = ask_then (λ (t : Bor SizeTree) y. y ≡ size_of t.now) (Lambda_met table) the_left own_next f g (Ok r) r k refl (left_there leaves)
        (λ y same. subst (λ z. Steps (Lambda_met table) (and_then (note lo z) (λ u. ask (matched N types lo w u E.found))) f g k) (made ∙ ap (λ z. function_size bs lo end z (size_of r.now)) (sym so.parameters) ∙ ap (function_size bs lo end E.parameters) (sym same)) rest)

    pub own_not_noted : (x : SizeErr) (g h : Tables) → Steps (λ (u : Unit {0}) y. y ≡ size_of own.now) (note lo (size_of own.now)) f g (Err x) → Steps (Lambda_met table) the_end f h (Err x)
    own_not_noted x g h notes = left_then h (Err x) (steps_stop (λ (u : Unit {0}) y. y ≡ size_of own.now) (Lambda_met table) (note lo (size_of own.now)) (λ u. ask (matched N types lo w u E.found)) f g h (Err x) x refl notes)

    pub ended : (v : Unit {0}) (g : Tables) (k : Result (Bor SizeTree) SizeErr) → Steps (λ (u : Unit {0}) y. y ≡ size_of own.now) (note lo (size_of own.now)) f g (Ok v) → Answers (Lambda_met table) (matched N types lo w (size_of own.now) E.found) k → Steps (Lambda_met table) the_end f g k
    ended v g k notes met_so = left_then g k (steps_then (λ (u : Unit {0}) y. y ≡ size_of own.now) (Lambda_met table) (note lo (size_of own.now)) (λ u. ask (matched N types lo w u E.found)) f g g (Ok v) v k refl notes
        (λ y same. subst (λ z. Steps (Lambda_met table) (ask (matched N types lo w z E.found)) g g k) (sym same) (asked (Lambda_met table) (matched N types lo w (size_of own.now) E.found) g k met_so)))

-- outside of all function types
pub closed_met : (n : ℕ) (w : matching.Way) (at : ℕ) (φ ψ : matching.Opened) (t u : Size) (σ : matching.Found) (table : Found) (r : Result (Unit {0}) SizeErr) → φ ≡ none_opened → ψ ≡ none_opened → Has_met (meet n w at φ t ψ u σ) table r → Has_met (meet n w at none_opened t none_opened u σ) table r
closed_met n w at φ ψ t u σ table r p q m = subst (λ (z : matching.Opened). Has_met (meet n w at none_opened t z u σ) table r) q (subst (λ (z : matching.Opened). Has_met (meet n w at z t ψ u σ) table r) p m)
