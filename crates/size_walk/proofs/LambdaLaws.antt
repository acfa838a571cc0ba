-- A lambda of which something is wanted: it begins, its body is sized by itself, it ends.
use Rattle.std.proofs.Common.{◌≡◌, ℕ, ◌+◌, List, [], Option, Result, Ok, Err, refl, sym, ap, ◌∙◌, subst}
use Rattle.fut_scalar.specs.declared.place.BindId.{BindId}
use Rattle.fut_flat.specs.declared.exp.Exp.{Exp}
use Rattle.fut_flat.specs.declared.prim.Ref.{Ref}
use Rattle.fut_flat.specs.Terms.{Patterns, Lambda}
use Rattle.fut_flat.specs.Numbers.{all_pattern_numbers, numbers}
use Rattle.fut_flat.specs.Erased.{FlatTerm, term_of}
use Rattle.fut_types.specs.Types.{Sub}
use Rattle.fut_typing.specs.Names.{Names}
use Rattle.sized_types.specs.Sizes.{Hole, Inferred}
use Rattle.fut_sizes.specs.Agreeing.{Answer, Escapes, then_do}
use Rattle.fut_sizes.specs.Applications.{Part, Applied, Waiting, Want, Met}
use Rattle.fut_sizes.specs.Functions.{unchosen}
use Rattle.fut_sizes.specs.Matching as matching
use Rattle.fut_sizes.specs.Scopes.{Scope}
use Rattle.fut_sizes.specs.Sizing.{Entered, wanted_size, all_entered, none_left, parameters_noted, sized, finished}
use Rattle.fut_sizes.specs.Steps.{State, Done, Step, give, ask, and_then}
use Rattle.alias_parts.specs.Known.{Knows}
use Rattle.size_arena.specs.declared.agreeing.SizeErr.{SizeErr}
use Rattle.size_arena.specs.Trees.{size_of}
use Rattle.size_program.specs.declared.maps.NumberMap.{NumberMap}
use Rattle.size_program.specs.declared.program.Program.{Program}
use Rattle.size_program.specs.declared.tables.Tables.{Tables}
use Rattle.size_program.specs.Answers.{Steps, Takes}
use Rattle.size_program.proofs.StepLaws.{regrouped, steps_then, steps_stop, same_step}
use Rattle.size_slots.specs.declared.slots.Found.{Found}
use Rattle.size_applying.specs.Wanted.{Waits}
use Rattle.size_forms.specs.declared.walked.Whole.{Whole}
use Rattle.size_forms.specs.Shown.{whole_is}
use Rattle.size_forms.specs.Walked.{whole_sized}
use Rattle.size_walk.specs.declared.lambdas.Begun.{Begun}
use Rattle.size_walk.specs.Lambdas.{Begun_so, lambda_begun, lambda_ended}

-- ---- what the definition makes of a lambda

module _ (N : Names) (types : Sub) (ps : Patterns Ref BindId) (e : FlatTerm) (bs : List ℕ) (lo : ℕ) (scope : Scope) where
  abbrev pub body_number : ℕ
  body_number = 1 + lo + all_pattern_numbers ps

  abbrev pub body_next : Option Want → Entered → Step Met
  body_next w E = and_then (whole_sized types e [] body_number N E.scope) (lambda_ended N types ps bs lo (body_number + numbers e) w E)

  abbrev pub lambda_sized : Option Want → matching.Found → Step Met
  lambda_sized w σ = and_then (lambda_begun N types ps bs lo w scope σ) (body_next w)

  -- behind the parameters
  abbrev raw_body : Option Want → Entered → Step Met
  raw_body w E = and_then (sized N types e [] body_number E.scope) (λ part. and_then (finished N types body_number part) (lambda_ended N types ps bs lo (body_number + numbers e) w E))

  abbrev raw_noted : Option Want → Entered → Step Met
  raw_noted w E = and_then (parameters_noted N types E.parameters) (λ y. raw_body w E)

  abbrev raw_chosen : Option Want → Entered → Step Met
  raw_chosen w E = and_then (ask (none_left N types body_number (unchosen bs E.parameters))) (λ z. raw_noted w E)

  by_noted : (w : Option Want) (E : Entered) (a : Answer (Done (Unit {0}))) → then_do a (λ d. raw_body w E d.state) ≡ then_do (then_do a (λ d. give E d.state)) (λ d. body_next w d.result d.state)
  by_noted w E (Ok d) = sym (regrouped (sized N types e [] body_number E.scope) (λ part. finished N types body_number part) (lambda_ended N types ps bs lo (body_number + numbers e) w E) d.state)
  by_noted w E (Err x) = refl

  by_chosen : (w : Option Want) (E : Entered) (s : State) (a : Answer (Unit {0})) → and_then (ask a) (λ z. raw_noted w E) s ≡ and_then (and_then (ask a) (λ z. and_then (parameters_noted N types E.parameters) (λ y. give E))) (body_next w) s
  by_chosen w E s (Ok z) = by_noted w E (parameters_noted N types E.parameters s)
  by_chosen w E s (Err x) = refl

  by_entered : (w : Option Want) (s : State) (a : Answer Entered) → and_then (ask a) (raw_chosen w) s
      ≡ and_then (and_then (ask a) (λ E. and_then (ask (none_left N types body_number (unchosen bs E.parameters))) (λ z. and_then (parameters_noted N types E.parameters) (λ y. give E)))) (body_next w) s
  by_entered w s (Ok E) = by_chosen w E s (none_left N types body_number (unchosen bs E.parameters))
  by_entered w s (Err x) = refl

  -- what a lambda that waits is
  waits_as : Part → Option Want → matching.Found → Step Met
  waits_as (Waiting f) = f
  waits_as (Applied t regular xs) = λ w σ s. Err (Escapes 0)

  waiting_of : Answer (Done Part) → Option Want → matching.Found → Step Met
  waiting_of (Ok d) = waits_as d.result
  waiting_of (Err x) = λ w σ s. Err x

  pub lambda_waits : (f : Option Want → matching.Found → Step Met) (s : State) → sized N types (Lambda ps e) bs lo scope s ≡ Ok (record { result = Waiting f; state = s }) → (w : Option Want) (σ : matching.Found) (t : State) → lambda_sized w σ t ≡ f w σ t
  unfolding sized waiting_of waits_as
  lambda_waits f s is w σ t = sym (by_entered w t (all_entered N types lo ps (1 + lo) (record { scope = scope; parameters = []; wanted = wanted_size w; found = σ }))) ∙ ap (λ z. waiting_of z w σ t) is

-- a state, of which nothing is asked
nothing_known : State
nothing_known = record { nodes = λ n. Hole (Inferred n); dropped = λ n. [] }

module _ (N : Names) (types : Sub) (x : Exp) (n : ℕ) (names : NumberMap) (bs : List ℕ) (f : Option Want → matching.Found → Step Met) (waits : Waits N types x n names bs f) (ps : Patterns Ref BindId) (e : FlatTerm) (is : term_of x ≡ Lambda ps e) (w : Option Want) (σ : matching.Found) where
  lambda_is : (s : State) → lambda_sized N types ps e bs n waits.scope w σ s ≡ f w σ s
  lambda_is s = lambda_waits N types ps e bs n waits.scope f nothing_known (ap (λ z. sized N types z bs n waits.scope nothing_known) (sym is) ∙ waits.sized_so nothing_known) w σ s

  module _ {D : Type 0} (Q : D → Met → Type 0) (table : Found) (old mid : Tables) where
    pub lambda_begin_stops : (y : SizeErr) (new : Tables) → Steps (Begun_so table) (lambda_begun N types ps bs n w waits.scope σ) old mid (Err y) → Steps Q (f w σ) old new (Err y)
    lambda_begin_stops y new x = same_step Q (lambda_sized N types ps e bs n waits.scope w σ) (f w σ) old new (Err y) lambda_is
        (steps_stop (Begun_so table) Q (lambda_begun N types ps bs n w waits.scope σ) (body_next N types ps e bs n waits.scope w) old mid new (Err y) y refl x)

    module _ (p : Program) (knows : Knows p.names N) (b : Begun) (begun : Steps (Begun_so table) (lambda_begun N types ps bs n w waits.scope σ) old mid (Ok b)) (at : b.body ≡ 1 + n + all_pattern_numbers ps) (behind : Tables) where
      lambda_then : (new : Tables) (r : Result D SizeErr) → ((E : Entered) → Begun_so table b E → Steps Q (body_next N types ps e bs n waits.scope w E) mid new r) → Steps Q (f w σ) old new r
      lambda_then new r rest = same_step Q (lambda_sized N types ps e bs n waits.scope w σ) (f w σ) old new r lambda_is
          (steps_then (Begun_so table) Q (lambda_begun N types ps bs n w waits.scope σ) (body_next N types ps e bs n waits.scope w) old mid new (Ok b) b r refl begun rest)

      sized_there : {k : Result Whole SizeErr} → Takes whole_is p b.names.now (whole_sized types e [] b.body) mid behind k → (E : Entered) → Begun_so table b E → Steps (whole_is N) (whole_sized types e [] (body_number N types ps e bs n waits.scope) N E.scope) mid behind k
      sized_there {k = k} x E so = subst (λ z. Steps (whole_is N) (whole_sized types e [] z N E.scope) mid behind k) at (x.takes N E.scope knows so.scope)

      pub lambda_body_stops : (y : SizeErr) (new : Tables) → Takes whole_is p b.names.now (whole_sized types e [] b.body) mid behind (Err y) → Steps Q (f w σ) old new (Err y)
      lambda_body_stops y new x = lambda_then new (Err y)
          (λ E so. steps_stop (whole_is N) Q (whole_sized types e [] (body_number N types ps e bs n waits.scope) N E.scope) (lambda_ended N types ps bs n (body_number N types ps e bs n waits.scope + numbers e) w E) mid behind new (Err y) y refl (sized_there x E so))

      pub lambda_done : (v : Whole) (new : Tables) (r : Result D SizeErr) → Takes whole_is p b.names.now (whole_sized types e [] b.body) mid behind (Ok v) → v.next ≡ b.body + numbers e
          → ((E : Entered) → Begun_so table b E → Steps Q (lambda_ended N types ps bs n v.next w E (size_of v.size.now)) behind new r) → Steps Q (f w σ) old new r
      lambda_done v new r x next ends = lambda_then new r
          (λ E so. steps_then (whole_is N) Q (whole_sized types e [] (body_number N types ps e bs n waits.scope) N E.scope) (lambda_ended N types ps bs n (body_number N types ps e bs n waits.scope + numbers e) w E) mid behind new (Ok v) v r refl (sized_there x E so)
          (λ t same. subst (λ z. Steps Q (lambda_ended N types ps bs n (body_number N types ps e bs n waits.scope + numbers e) w E z) behind new r) (sym same)
          (subst (λ z. Steps Q (lambda_ended N types ps bs n z w E (size_of v.size.now)) behind new r) (next ∙ ap (λ z. z + numbers e) at) (ends E so))))
