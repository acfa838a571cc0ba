-- What each turn of a loop begins with.
use Rattle.std.proofs.Common.{◌≡◌, ℕ, ◌+◌, List, [], Option, Some, None, Result, Ok, Err, refl, sym, ap, ◌∙◌, subst, arith}
use Rattle.std.specs.Borrow.{Bor}
use Rattle.fut_scalar.specs.declared.place.BindId.{BindId}
use Rattle.fut_flat.specs.declared.exp.Exp.{Exp}
use Rattle.fut_flat.specs.declared.exp.LoopForm.{LoopForm}
use Rattle.fut_flat.specs.declared.exp.LoopForm.TheVariants as form
use Rattle.fut_flat.specs.declared.pat.Pat.{Pat}
use Rattle.fut_flat.specs.Terms.{Counted, Over, While}
use Rattle.fut_flat.specs.Numbers.{pattern_numbers}
use Rattle.fut_flat.specs.Erased.{FlatPattern, FlatTurns, pattern_of, term_of}
use Rattle.fut_flat.proofs.ErasedForms.{turns_counted, turns_of, turns_over, turns_while}
use Rattle.fut_types.specs.Types.{Sub}
use Rattle.fut_typing.specs.Names.{Names}
use Rattle.sized_types.specs.Sizes.{Size}
use Rattle.fut_sizes.specs.Agreeing.{Answer, then_do}
use Rattle.fut_sizes.specs.Scopes.{Scope, Taken, with_name, bound_at, bound_by}
use Rattle.fut_sizes.specs.Sizing.{pattern_noted, row_of}
use Rattle.fut_sizes.specs.Steps.{Step, give, ask, and_then, note}
use Rattle.size_arena.specs.declared.agreeing.SizeErr.{SizeErr}
use Rattle.size_arena.specs.declared.trees.SizeTree.{SizeTree}
use Rattle.size_arena.specs.Trees.{size_of}
use Rattle.size_program.specs.declared.maps.NumberMap.{NumberMap}
use Rattle.size_program.specs.declared.tables.Tables.{Tables}
use Rattle.size_program.specs.Answers.{Answers, answers, Steps}
use Rattle.size_program.specs.Tables.{In_scope}
use Rattle.size_program.proofs.StepLaws.{answers_then, answered_not, ask_then, ask_stop, steps_then, steps_stop, given}
use Rattle.size_patterns.specs.declared.binding.Bindings.{Bindings}
use Rattle.size_patterns.specs.Bound.{Bound_so}
use Rattle.size_patterns.specs.Heads.{Done}
use Rattle.size_forms.specs.declared.loops.Each.{Each}
use Rattle.size_forms.specs.declared.turns.Inside.{Inside}
use Rattle.size_forms.specs.Loops.{Turned, each_given, turn_entered}
use Rattle.size_forms.specs.Shown.{brings, each_is, inside_is, map_is}

-- ---- what is counted or gone over

module _ (form_of : LoopForm) (N : Names) (types : Sub) (at next : ℕ) (t : Bor SizeTree) (f g : Tables) where
  abbrev Given_each : FlatTurns → Result Each SizeErr → Tables → Type 0
  Given_each turns r h = Steps (each_is turns at N) (each_given types turns at (size_of t.now) N) f h r

  module _ (i : BindId) (m : Exp) (is : form_of ≡ form.For i m) where
    counted_so : {r : Result Each SizeErr} → Given_each (Counted i (term_of m)) r g → Given_each (turns_of form_of) r g
    counted_so {r = r} h = subst (λ z. Given_each z r g) (sym (ap turns_of is ∙ turns_counted i m)) h

    pub count_noted : (u : Unit {0}) → Steps (λ (u : Unit {0}) (y : Size). y ≡ size_of t.now) (note at (size_of t.now)) f g (Ok u) → Given_each (turns_of form_of) (Ok (record { size = Some t; next = next })) g
    count_noted u h = counted_so (steps_then (λ (u : Unit {0}) (y : Size). y ≡ size_of t.now) (each_is (Counted i (term_of m)) at N) (note at (size_of t.now)) (λ z. give (λ inner. Ok (with_name i.0 (size_of t.now) inner))) f g g (Ok u) u (Ok (record { size = Some t; next = next })) refl h
        (λ y e. given (each_is (Counted i (term_of m)) at N) (record { size = Some t; next = next }) (λ inner. Ok (with_name i.0 (size_of t.now) inner)) g (λ inner. refl)))

    pub count_stops : (x : SizeErr) → Steps (λ (u : Unit {0}) (y : Size). y ≡ size_of t.now) (note at (size_of t.now)) f g (Err x) → Given_each (turns_of form_of) (Err x) g
    count_stops x h = counted_so (steps_stop (λ (u : Unit {0}) (y : Size). y ≡ size_of t.now) (each_is (Counted i (term_of m)) at N) (note at (size_of t.now)) (λ z. give (λ inner. Ok (with_name i.0 (size_of t.now) inner))) f g g (Err x) x refl h)

  module _ (p : Pat) (e : Exp) (is : form_of ≡ form.ForIn p e) (r : Bor SizeTree) (row : size_of r.now ≡ row_of N types (size_of t.now)) where
    over_so : {x : Result Each SizeErr} → Given_each (Over (pattern_of p) (term_of e)) x g → Given_each (turns_of form_of) x g
    over_so {x = x} h = subst (λ z. Given_each z x g) (sym (ap turns_of is ∙ turns_over p e)) h

    abbrev taken_each : Size → Scope → Answer Scope
    taken_each u inner = then_do (bound_by N [] (at + pattern_numbers (pattern_of p)) (pattern_of p) u inner) (λ k. Ok k.scope)

    noted_row : {x : Result (Unit {0}) SizeErr} → Steps Done (pattern_noted N types (pattern_of p) at (size_of r.now)) f g x → Steps Done (pattern_noted N types (pattern_of p) at (row_of N types (size_of t.now))) f g x
    noted_row {x = x} h = subst (λ z. Steps Done (pattern_noted N types (pattern_of p) at z) f g x) row h

    pub row_noted : (u : Unit {0}) → Steps Done (pattern_noted N types (pattern_of p) at (size_of r.now)) f g (Ok u) → Given_each (turns_of form_of) (Ok (record { size = Some r; next = next })) g
    row_noted u h = over_so (steps_then Done (each_is (Over (pattern_of p) (term_of e)) at N) (pattern_noted N types (pattern_of p) at (row_of N types (size_of t.now))) (λ z. give (taken_each (row_of N types (size_of t.now)))) f g g (Ok u) u (Ok (record { size = Some r; next = next })) refl (noted_row h)
        (λ y q. given (each_is (Over (pattern_of p) (term_of e)) at N) (record { size = Some r; next = next }) (taken_each (row_of N types (size_of t.now))) g (λ inner. ap (λ z. taken_each z inner) (sym row))))

    pub row_stops : (x : SizeErr) → Steps Done (pattern_noted N types (pattern_of p) at (size_of r.now)) f g (Err x) → Given_each (turns_of form_of) (Err x) g
    row_stops x h = over_so (steps_stop Done (each_is (Over (pattern_of p) (term_of e)) at N) (pattern_noted N types (pattern_of p) at (row_of N types (size_of t.now))) (λ z. give (taken_each (row_of N types (size_of t.now)))) f g g (Err x) x refl (noted_row h))

pub while_noted : (form_of : LoopForm) (N : Names) (types : Sub) (at next : ℕ) (t : Size) (f : Tables) (c : Exp) → form_of ≡ form.While c → Steps (each_is (turns_of form_of) at N) (each_given types (turns_of form_of) at t N) f f (Ok (record { size = None; next = next }))
while_noted form_of N types at next t f c is = subst (λ z. Steps (each_is z at N) (each_given types z at t N) f f (Ok (record { size = None; next = next }))) (sym (ap turns_of is ∙ turns_while c))
    (given (each_is (While (term_of c)) at N) (record { size = None; next = next }) (λ inner. Ok inner) f (λ inner. refl))

-- ---- the scope of a turn

module _ (form_of : LoopForm) (N : Names) (at : ℕ) (scope : Scope) where
  abbrev Brought : Option (Bor SizeTree) → Result (Bor NumberMap) SizeErr → Type 0
  Brought e r = Answers map_is (brings N (turns_of form_of) at e scope) r

  brings_none : (turns : FlatTurns) → brings N turns at None scope ≡ Ok scope
  brings_none (Counted i m) = refl
  brings_none (Over p e) = refl
  brings_none (While c) = refl

  pub nothing_brought : (e : Option (Bor SizeTree)) (names : Bor NumberMap) → e ≡ None → In_scope names.now scope → Brought e (Ok names)
  nothing_brought e names none within = answers (ap (λ z. brings N (turns_of form_of) at z scope) none ∙ brings_none (turns_of form_of)) within

  module _ (e : Option (Bor SizeTree)) (t : Bor SizeTree) (some : e ≡ Some t) where
    brought_as : (turns : FlatTurns) → turns_of form_of ≡ turns → {r : Result (Bor NumberMap) SizeErr} → Answers map_is (brings N turns at (Some t) scope) r → Brought e r
    brought_as turns is {r = r} h = subst (λ z. Answers map_is z r) (sym (ap (λ z. brings N (turns_of form_of) at z scope) some ∙ ap (λ z. brings N z at (Some t) scope) is)) h

    pub count_brought : (i : BindId) (m : Exp) (made : Bor NumberMap) → form_of ≡ form.For i m → In_scope made.now (with_name i.0 (size_of t.now) scope) → Brought e (Ok made)
    count_brought i m made is within = brought_as (Counted i (term_of m)) (ap turns_of is ∙ turns_counted i m) (answers refl within)

    pub while_brought : (c : Exp) (made : Bor NumberMap) → form_of ≡ form.While c → In_scope made.now scope → Brought e (Ok made)
    while_brought c made is within = brought_as (While (term_of c)) (ap turns_of is ∙ turns_while c) (answers refl within)

    module _ (p : Pat) (a : Exp) (node : ℕ) (is : form_of ≡ form.ForIn p a) (begins : node ≡ at + pattern_numbers (pattern_of p)) where
      row_bound : {r : Result Bindings SizeErr} → Answers Bound_so (bound_by N [] node (pattern_of p) (size_of t.now) scope) r → Answers Bound_so (bound_by N [] (at + pattern_numbers (pattern_of p)) (pattern_of p) (size_of t.now) scope) r
      row_bound {r = r} h = subst (λ z. Answers Bound_so (bound_by N [] z (pattern_of p) (size_of t.now) scope) r) begins h

      pub row_brought : (b : Bindings) → Answers Bound_so (bound_by N [] node (pattern_of p) (size_of t.now) scope) (Ok b) → Brought e (Ok b.names)
      row_brought b h = brought_as (Over (pattern_of p) (term_of a)) (ap turns_of is ∙ turns_over p a)
          (answers_then Bound_so map_is (λ (k : Taken). Ok k.scope) (bound_by N [] (at + pattern_numbers (pattern_of p)) (pattern_of p) (size_of t.now) scope) (Ok b) b (Ok b.names) refl (row_bound h) (λ k so. answers refl so.scope))

      pub row_not_brought : (x : SizeErr) → Answers Bound_so (bound_by N [] node (pattern_of p) (size_of t.now) scope) (Err x) → Brought e (Err x)
      row_not_brought x h = brought_as (Over (pattern_of p) (term_of a)) (ap turns_of is ∙ turns_over p a)
          (answered_not Bound_so (bound_by N [] (at + pattern_numbers (pattern_of p)) (pattern_of p) (size_of t.now) scope) (Err x) (row_bound h) map_is (λ (k : Taken). Ok k.scope) x refl)

-- ---- a turn is entered

module _ (N : Names) (types : Sub) (n body first value : ℕ) (sizes : List BindId) (p : FlatPattern) (each : Scope → Answer Scope) (carried : Size) (scope : Scope) (f : Tables) (begins : value ≡ first + pattern_numbers p) (one : first ≡ n + 1) where
  first_is : first ≡ 1 + n
  first_is = omega (arith, one)

  abbrev each_next : Taken → Step Turned
  each_next k = and_then (ask (each k.scope)) (λ inner. give (record { scope = inner; found = k.found }))

  abbrev noted_next : Taken → Step Turned
  noted_next k = and_then (pattern_noted N types p (1 + n) carried) (λ z. each_next k)

  bound_there : {r : Result Bindings SizeErr} → Answers Bound_so (bound_at N sizes body value p carried scope) r → Answers Bound_so (bound_at N sizes body (1 + n + pattern_numbers p) p carried scope) r
  bound_there {r = r} h = subst (λ z. Answers Bound_so (bound_at N sizes body z p carried scope) r) (begins ∙ ap (λ z. z + pattern_numbers p) first_is) h

  noted_at : {g : Tables} {r : Result (Unit {0}) SizeErr} → Steps Done (pattern_noted N types p first carried) f g r → Steps Done (pattern_noted N types p (1 + n) carried) f g r
  noted_at {g = g} {r = r} h = subst (λ z. Steps Done (pattern_noted N types p z carried) f g r) first_is h

  pub bind_stops : (x : SizeErr) → Answers Bound_so (bound_at N sizes body value p carried scope) (Err x) → Steps inside_is (turn_entered types n body sizes p each carried N scope) f f (Err x)
  bind_stops x h = ask_stop Bound_so inside_is (bound_at N sizes body (1 + n + pattern_numbers p) p carried scope) noted_next f f (Err x) x refl (bound_there h)

  module _ (b : Bindings) (g : Tables) (bound : Answers Bound_so (bound_at N sizes body value p carried scope) (Ok b)) where
    bound_then : (r : Result Inside SizeErr) → ((k : Taken) → Bound_so b k → Steps inside_is (noted_next k) f g r) → Steps inside_is (turn_entered types n body sizes p each carried N scope) f g r
    bound_then r rest = ask_then Bound_so inside_is (bound_at N sizes body (1 + n + pattern_numbers p) p carried scope) noted_next f g (Ok b) b r refl (bound_there bound) rest

    pub turn_note_stops : (x : SizeErr) → Steps Done (pattern_noted N types p first carried) f g (Err x) → Steps inside_is (turn_entered types n body sizes p each carried N scope) f g (Err x)
    turn_note_stops x h = bound_then (Err x) (λ k so. steps_stop Done inside_is (pattern_noted N types p (1 + n) carried) (λ z. each_next k) f g g (Err x) x refl (noted_at h))

    module _ (u : Unit {0}) (noted : Steps Done (pattern_noted N types p first carried) f g (Ok u)) where
      pub bring_stops : (x : SizeErr) → ((inner : Scope) → In_scope b.names.now inner → Answers map_is (each inner) (Err x)) → Steps inside_is (turn_entered types n body sizes p each carried N scope) f g (Err x)
      bring_stops x h = bound_then (Err x) (λ k so. steps_then Done inside_is (pattern_noted N types p (1 + n) carried) (λ z. each_next k) f g g (Ok u) u (Err x) refl (noted_at noted)
          (λ z e. ask_stop map_is inside_is (each k.scope) (λ inner. give (record { scope = inner; found = k.found })) g g (Err x) x refl (h k.scope so.scope)))

      pub turn_enters : (made : Bor NumberMap) → ((inner : Scope) → In_scope b.names.now inner → Answers map_is (each inner) (Ok made)) → Steps inside_is (turn_entered types n body sizes p each carried N scope) f g (Ok (record { names = made; bindings = b }))
      turn_enters made h = bound_then (Ok (record { names = made; bindings = b })) (λ k so. steps_then Done inside_is (pattern_noted N types p (1 + n) carried) (λ z. each_next k) f g g (Ok u) u (Ok (record { names = made; bindings = b })) refl (noted_at noted)
          (λ z e. ask_then map_is inside_is (each k.scope) (λ inner. give (record { scope = inner; found = k.found })) g g (Ok made) made (Ok (record { names = made; bindings = b })) refl (h k.scope so.scope)
          (λ inner within. given inside_is (record { names = made; bindings = b }) (record { scope = inner; found = k.found }) g (within, so.found))))

-- what each turn brings is what the loop says
pub each_brings : (turns : FlatTurns) (at : ℕ) (N : Names) (e : Each) (f : Scope → Answer Scope) (inner : Scope) (r : Result (Bor NumberMap) SizeErr) → each_is turns at N e f → Answers map_is (brings N turns at e.size inner) r → Answers map_is (f inner) r
each_brings turns at N e f inner r is h = subst (λ z. Answers map_is z r) (sym (is inner)) h
