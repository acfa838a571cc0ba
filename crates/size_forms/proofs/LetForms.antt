-- Where a let begins.
use Rattle.std.proofs.Common.{◌≡◌, ℕ, ◌+◌, ◌++◌, List, Result, Ok, Err, refl, sym, ap, ◌∙◌, subst, arith}
use Rattle.std.specs.Borrow.{Bor}
use Rattle.fut_flat.specs.declared.exp.Let.{Let as LetTree}
use Rattle.fut_flat.specs.Numbers.{pattern_numbers}
use Rattle.fut_flat.specs.Erased.{Row, parameters, pattern_of, term_of}
use Rattle.fut_flat.proofs.ErasedForms.{row_is, row_of}
use Rattle.fut_types.specs.Types.{Sub}
use Rattle.fut_typing.specs.Names.{Names}
use Rattle.sized_types.specs.Sizes.{Size}
use Rattle.fut_sizes.specs.Functions.{size_names}
use Rattle.fut_sizes.specs.Scopes.{Scope, names}
use Rattle.fut_sizes.specs.Sizing.{has_parameters, with_head, let_scope, pattern_noted, bind_ids}
use Rattle.fut_sizes.specs.Steps.{Step, give, and_then}
use Rattle.alias_parts.specs.Known.{Knows}
use Rattle.size_arena.specs.declared.agreeing.SizeErr.{SizeErr}
use Rattle.size_program.specs.declared.maps.NumberMap.{NumberMap}
use Rattle.size_program.specs.declared.program.Program.{Program}
use Rattle.size_program.specs.declared.tables.Tables.{Tables}
use Rattle.size_program.specs.Answers.{Answers, answers, Steps, Takes}
use Rattle.size_program.specs.Tables.{In_scope}
use Rattle.size_program.proofs.StepLaws.{answers_then, answered_not, ask_then, ask_stop, steps_then, steps_stop, given}
use Rattle.size_patterns.specs.Bound.{Tells_scope}
use Rattle.size_patterns.specs.Heads.{Done}
use Rattle.size_forms.specs.declared.lets.Ending.{Ending}
use Rattle.size_forms.specs.Lets.{value_at, body_at, head_entered, let_bound, let_end}
use Rattle.size_forms.specs.Shown.{bound_is, end_of, head_is}

module _ (l : LetTree) (n : ℕ) where
  pub value_so : (value : ℕ) → value ≡ 1 + n + pattern_numbers (pattern_of l.pat) → value ≡ value_at (row_of l) n
  value_so value e = e ∙ sym (ap (λ (r : Row). value_at r n) (row_is l))

  pub names_so : (heads : List ℕ) → heads ≡ size_names (parameters l.heads.now) → heads ≡ size_names (row_of l).0.parameters
  names_so heads e = e ∙ sym (ap (λ (r : Row). size_names r.0.parameters) (row_is l))

  -- ---- the size names of its head

  module _ (value : ℕ) (heads : Bor (List ℕ)) (begins : value ≡ 1 + n + pattern_numbers (pattern_of l.pat)) (chosen : heads.now ≡ size_names (parameters l.heads.now)) where
    test_is : (N : Names) (types : Sub) → has_parameters N types heads.now (term_of l.value) value ≡ has_parameters N types (size_names (row_of l).0.parameters) (row_of l).1 (value_at (row_of l) n)
    test_is N types = ap (λ z. has_parameters N types z (term_of l.value) value) (names_so heads.now chosen)
        ∙ ap (λ z. has_parameters N types (size_names (row_of l).0.parameters) z value) (sym (ap (λ (r : Row). r.1) (row_is l)))
        ∙ ap (λ z. has_parameters N types (size_names (row_of l).0.parameters) (row_of l).1 z) (value_so value begins)

    tested : (N : Names) (types : Sub) (r : Result (Unit {0}) SizeErr) → Answers Done (has_parameters N types heads.now (term_of l.value) value) r → Answers Done (has_parameters N types (size_names (row_of l).0.parameters) (row_of l).1 (value_at (row_of l) n)) r
    tested N types r h = subst (λ z. Answers Done z r) (test_is N types) h

    pub head_stops : (x : SizeErr) → ((N : Names) (types : Sub) → Answers Done (has_parameters N types heads.now (term_of l.value) value) (Err x)) → (N : Names) (types : Sub) (scope : Scope) → Answers head_is (head_entered types (row_of l) n N scope) (Err x)
    head_stops x h N types scope = answered_not Done _ (Err x) (tested N types (Err x) (h N types)) head_is (λ z. Ok (with_head N types (size_names (row_of l).0.parameters) scope)) x refl

    pub head_enters : (outer : NumberMap) (made : Bor NumberMap) (u : Unit {0}) → ((N : Names) (types : Sub) → Answers Done (has_parameters N types heads.now (term_of l.value) value) (Ok u))
        → ((N : Names) (types : Sub) (scope : Scope) → In_scope outer scope → In_scope made.now (with_head N types heads.now scope))
        → (N : Names) (types : Sub) (scope : Scope) → In_scope outer scope → Answers head_is (head_entered types (row_of l) n N scope) (Ok (record { names = made; heads = heads; value = value }))
    head_enters outer made u h inside N types scope within = answers_then Done head_is (λ z. Ok (with_head N types (size_names (row_of l).0.parameters) scope)) (has_parameters N types (size_names (row_of l).0.parameters) (row_of l).1 (value_at (row_of l) n)) (Ok u) u (Ok (record { names = made; heads = heads; value = value })) refl (tested N types (Ok u) (h N types))
        (λ z e. answers refl (subst (λ z. In_scope made.now (with_head N types z scope)) (names_so heads.now chosen) (inside N types scope within)))

  -- ---- its names

  module _ (p : Program) (types : Sub) (outer : NumberMap) (value first : ℕ) (t : Size) (f : Tables) (begins : value ≡ first + pattern_numbers (pattern_of l.pat)) (one : first ≡ n + 1) where
    first_is : first ≡ 1 + n
    first_is = omega (arith, one)

    at_is : value ≡ value_at (row_of l) n
    at_is = value_so value (begins ∙ ap (λ z. z + pattern_numbers (pattern_of l.pat)) first_is)

    abbrev noted_next : Names → Scope → Step Scope
    noted_next N inner = and_then (pattern_noted N types (row_of l).0.pattern (1 + n) t) (λ z. give inner)

    scoped : {r : Result (Bor NumberMap) SizeErr} (N : Names) (scope : Scope) → Answers Tells_scope (let_scope N types (row_of l).0 value t scope) r → Answers Tells_scope (let_scope N types (row_of l).0 (value_at (row_of l) n) t scope) r
    scoped {r = r} N scope h = subst (λ z. Answers Tells_scope (let_scope N types (row_of l).0 z t scope) r) at_is h

    noted : {r : Result (Unit {0}) SizeErr} {g : Tables} (N : Names) → Steps Done (pattern_noted N types (pattern_of l.pat) first t) f g r → Steps Done (pattern_noted N types (row_of l).0.pattern (1 + n) t) f g r
    noted {r = r} {g = g} N h = subst (λ z. Steps Done (pattern_noted N types (row_of l).0.pattern z t) f g r) first_is (subst (λ z. Steps Done (pattern_noted N types z first t) f g r) (sym (ap (λ (r : Row). r.0.pattern) (row_is l))) h)

    pub scope_stops : (x : SizeErr) → ((N : Names) (scope : Scope) → Knows p.names N → In_scope outer scope → Answers Tells_scope (let_scope N types (row_of l).0 value t scope) (Err x)) → Takes bound_is p outer (let_bound types (row_of l) n t) f f (Err x)
    scope_stops x h = record { takes = λ N scope knows within. ask_stop Tells_scope (bound_is N) (let_scope N types (row_of l).0 (value_at (row_of l) n) t scope) (noted_next N) f f (Err x) x refl (scoped N scope (h N scope knows within)) }

    module _ (made : Bor NumberMap) (g : Tables) (inside : (N : Names) (scope : Scope) → Knows p.names N → In_scope outer scope → Answers Tells_scope (let_scope N types (row_of l).0 value t scope) (Ok made)) where
      pub note_stops : (x : SizeErr) → ((N : Names) → Knows p.names N → Steps Done (pattern_noted N types (pattern_of l.pat) first t) f g (Err x)) → Takes bound_is p outer (let_bound types (row_of l) n t) f g (Err x)
      note_stops x h = record {
        takes = λ N scope knows within. ask_then Tells_scope (bound_is N) (let_scope N types (row_of l).0 (value_at (row_of l) n) t scope) (noted_next N) f g (Ok made) made (Err x) refl (scoped N scope (inside N scope knows within))
            (λ inner e. steps_stop Done (bound_is N) (pattern_noted N types (row_of l).0.pattern (1 + n) t) (λ z. give inner) f g g (Err x) x refl (noted N (h N knows)));
      }

      pub let_binds : (x : Ending) (u : Unit {0}) → ((N : Names) → Knows p.names N → Steps Done (pattern_noted N types (pattern_of l.pat) first t) f g (Ok u)) → Takes bound_is p outer (let_bound types (row_of l) n t) f g (Ok (record { names = made; ending = x }))
      let_binds x u h = record {
        takes = λ N scope knows within. ask_then Tells_scope (bound_is N) (let_scope N types (row_of l).0 (value_at (row_of l) n) t scope) (noted_next N) f g (Ok made) made (Ok (record { names = made; ending = x })) refl (scoped N scope (inside N scope knows within))
            (λ inner e. steps_then Done (bound_is N) (pattern_noted N types (row_of l).0.pattern (1 + n) t) (λ z. give inner) f g g (Ok u) u (Ok (record { names = made; ending = x })) refl (noted N (h N knows)) (λ z q. given (bound_is N) (record { names = made; ending = x }) inner g e));
      }

  pub ending_is : (behind : ℕ) (bound : Bor (List ℕ)) → bound.now ≡ names (pattern_of l.pat) ++ bind_ids l.sizes.now → behind ≡ body_at (row_of l) n → end_of (record { node = n; inner = behind; names = bound }) ≡ let_end (row_of l) n
  ending_is behind bound b e = ap (λ z. record { node = n; inner = z; names = bound.now }) e ∙ ap (λ z. record { node = n; inner = body_at (row_of l) n; names = z }) (b ∙ sym (ap (λ (r : Row). names r.0.pattern ++ bind_ids r.0.sizes) (row_is l)))
