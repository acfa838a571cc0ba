-- A definition, from the answers for its parts.
use Rattle.std.proofs.Common.{◌≡◌, ℕ, ◌+◌, List, Result, Ok, Err, refl, sym, subst}
use Rattle.fut_flat.specs.Numbers.{pattern_numbers}
use Rattle.fut_types.specs.Types.{Sub}
use Rattle.fut_typing.specs.Names.{Names}
use Rattle.fut_typing.specs.Program.{Defined}
use Rattle.sized_types.specs.Sizes.{Size}
use Rattle.fut_sizes.specs.Functions.{size_names}
use Rattle.fut_sizes.specs.Scopes.{Scope}
use Rattle.fut_sizes.specs.Sizing.{finished, has_parameters, sized, with_general, with_head}
use Rattle.fut_sizes.specs.Steps.{Step, ask, and_then, give, note}
use Rattle.alias_parts.specs.Known.{Knows}
use Rattle.size_arena.specs.declared.agreeing.SizeErr.{SizeErr}
use Rattle.size_arena.specs.Trees.{size_of}
use Rattle.size_program.specs.declared.maps.NumberMap.{NumberMap}
use Rattle.size_program.specs.declared.program.Program.{Program}
use Rattle.size_program.specs.declared.tables.Tables.{Tables}
use Rattle.size_program.specs.Answers.{Answers, Steps, Going, Takes}
use Rattle.size_program.specs.Tables.{In_scope}
use Rattle.size_program.proofs.StepLaws.{ask_stop, ask_then, given, regrouped, same_step, steps_stop, steps_then}
use Rattle.size_patterns.specs.Heads.{Done}
use Rattle.size_forms.specs.declared.walked.Whole.{Whole}
use Rattle.size_forms.specs.Shown.{whole_is}
use Rattle.size_forms.specs.Walked.{whole_sized}
use Rattle.size_check.specs.declared.definitions.Behind.{Behind}
use Rattle.size_check.specs.Checked.{behind_is, defined_going}

abbrev pub noted_is : Size → Unit {0} → Size → Type 0
noted_is t u y = y ≡ t

module _ (types : Sub) (d : Defined) (lo : ℕ) (p : Program) (names : NumberMap) (bs : List ℕ) (v : ℕ) (heads : bs ≡ size_names d.parameters) (value : v ≡ lo + pattern_numbers d.name) where
  abbrev noting : Names → Scope → Size → Step Scope
  noting N scope t = and_then (note lo t) (λ u. give (with_general N types d.name t scope))

  abbrev sizing_value : Names → Scope → Unit {0} → Step Scope
  sizing_value N scope z = and_then (sized N types d.value bs v (with_head N types bs scope)) (λ part. and_then (finished N types v part) (noting N scope))

  -- with the names of the head and the number of the value as code has them
  abbrev going : Going Scope
  going N scope = and_then (ask (has_parameters N types bs d.value v)) (sizing_value N scope)

  told : {B : Type 0} (R : Names → B → Scope → Type 0) (f g : Tables) (r : Result B SizeErr) → Takes R p names going f g r → Takes R p names (defined_going types d lo) f g r
  told R f g r first = record {
    takes = λ N scope knows within.
        subst (λ w. Steps (R N) (and_then (ask (has_parameters N types (size_names d.parameters) d.value w)) (λ z. and_then (sized N types d.value (size_names d.parameters) w (with_head N types (size_names d.parameters) scope)) (λ part. and_then (finished N types w part) (noting N scope)))) f g r) value
        (subst (λ cs. Steps (R N) (and_then (ask (has_parameters N types cs d.value v)) (λ z. and_then (sized N types d.value cs v (with_head N types cs scope)) (λ part. and_then (finished N types v part) (noting N scope)))) f g r) heads (first.takes N scope knows within));
  }

  module _ (f : Tables) where
    -- size names without parameters that choose them
    pub head_refused : (x : SizeErr) (h : Tables) → ((N : Names) (types : Sub) → Answers {B = Unit {0}} Done (has_parameters N types bs d.value v) (Err x)) → Takes behind_is p names (defined_going types d lo) f h (Err x)
    head_refused x h has = told behind_is f h (Err x) (record {
      takes = λ N scope knows within. ask_stop Done (behind_is N) (has_parameters N types bs d.value v) (sizing_value N scope) f h (Err x) x refl (has N types);
    })

    module _ (u : Unit {0}) (has : (N : Names) (types : Sub) → Answers Done (has_parameters N types bs d.value v) (Ok u)) (inside : NumberMap) (enters : (N : Names) (types : Sub) (scope : Scope) → In_scope names scope → In_scope inside (with_head N types bs scope)) where
      behind_head : {B : Type 0} (R : Names → B → Scope → Type 0) (h : Tables) (r : Result B SizeErr)
          → ((N : Names) (scope : Scope) → Knows p.names N → In_scope names scope → Steps (R N) (and_then (whole_sized types d.value bs v N (with_head N types bs scope)) (noting N scope)) f h r)
          → Takes R p names (defined_going types d lo) f h r
      behind_head R h r rest = told R f h r (record {
        takes = λ N scope knows within. ask_then Done (R N) (has_parameters N types bs d.value v) (sizing_value N scope) f h (Ok u) u r refl (has N types)
            (λ y so. same_step (R N) (and_then (whole_sized types d.value bs v N (with_head N types bs scope)) (noting N scope)) (sizing_value N scope y) f h r
            (λ s. regrouped (sized N types d.value bs v (with_head N types bs scope)) (λ part. finished N types v part) (noting N scope) s) (rest N scope knows within));
      })

      pub value_refused : (x : SizeErr) (h : Tables) → Takes whole_is p inside (whole_sized types d.value bs v) f h (Err x) → Takes behind_is p names (defined_going types d lo) f h (Err x)
      value_refused x h first = behind_head behind_is h (Err x) (λ N scope knows within.
          steps_stop (whole_is N) (behind_is N) (whole_sized types d.value bs v N (with_head N types bs scope)) (noting N scope) f h h (Err x) x refl (first.takes N (with_head N types bs scope) knows (enters N types scope within)))

      module _ (w : Whole) (g : Tables) (first : Takes whole_is p inside (whole_sized types d.value bs v) f g (Ok w)) where
        behind_value : {B : Type 0} (R : Names → B → Scope → Type 0) (h : Tables) (r : Result B SizeErr)
            → ((N : Names) (scope : Scope) → In_scope names scope → Steps (R N) (noting N scope (size_of w.size.now)) g h r)
            → Takes R p names (defined_going types d lo) f h r
        behind_value R h r rest = behind_head R h r (λ N scope knows within.
            steps_then (whole_is N) (R N) (whole_sized types d.value bs v N (with_head N types bs scope)) (noting N scope) f g h (Ok w) w r refl (first.takes N (with_head N types bs scope) knows (enters N types scope within))
            (λ t is. subst (λ z. Steps (R N) (noting N scope z) g h r) (sym is) (rest N scope within)))

        pub note_refused : (x : SizeErr) (h : Tables) → Steps {B = Unit {0}} (noted_is (size_of w.size.now)) (note lo (size_of w.size.now)) g h (Err x) → Takes behind_is p names (defined_going types d lo) f h (Err x)
        note_refused x h noted = behind_value behind_is h (Err x) (λ N scope within.
            steps_stop (noted_is (size_of w.size.now)) (behind_is N) (note lo (size_of w.size.now)) (λ u. give (with_general N types d.name (size_of w.size.now) scope)) g h h (Err x) x refl noted)

        pub definition_done : (y : Unit {0}) (h : Tables) → Steps (noted_is (size_of w.size.now)) (note lo (size_of w.size.now)) g h (Ok y)
            → (b : Behind) → ((N : Names) (scope : Scope) → In_scope names scope → In_scope b.names.now (with_general N types d.name (size_of w.size.now) scope))
            → Takes behind_is p names (defined_going types d lo) f h (Ok b)
        definition_done y h noted b names_more = behind_value behind_is h (Ok b) (λ N scope within.
            steps_then (noted_is (size_of w.size.now)) (behind_is N) (note lo (size_of w.size.now)) (λ u. give (with_general N types d.name (size_of w.size.now) scope)) g h h (Ok y) y (Ok b) refl noted
            (λ z so. given (behind_is N) b (with_general N types d.name (size_of w.size.now) scope) h (names_more N scope within)))
