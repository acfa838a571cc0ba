-- The names of a composition's functions.
use Rattle.std.proofs.Common.{◌≡◌, ℕ, ◌+◌, List, Result, Ok, Err, refl, sym, ap, ◌∙◌, subst, arith}
use Rattle.std.specs.Borrow.{Bor}
use Rattle.std.specs.Prelude.{IfOk}
use Rattle.fut_scalar.specs.declared.memory.NoMemory.{NoMemory}
use Rattle.fut_scalar.specs.declared.place.BindId.{BindId}
use Rattle.fut_flat.specs.declared.exp.Let.{Let as LetTree}
use Rattle.fut_flat.specs.declared.pat.Pat.{Pat}
use Rattle.fut_flat.specs.declared.pat.PatField.{PatField}
use Rattle.fut_flat.specs.declared.pat.PatForm.TheVariants as form
use Rattle.fut_flat.specs.declared.ty.TypeExp.{TypeExp}
use Rattle.fut_flat.specs.Erased.{Row, pattern_of}
use Rattle.fut_flat.proofs.ErasedForms.{row_is, row_of}
use Rattle.fut_flat.proofs.ErasedPatterns.{pattern_bound, pattern_wild, pattern_tuple, pattern_record, pattern_typed}
use Rattle.fut_types.specs.Types.{Sub}
use Rattle.fut_typing.specs.Names.{Names}
use Rattle.sized_types.specs.Sizes.{Size}
use Rattle.fut_sizes.specs.Scopes.{Scope, with_name}
use Rattle.fut_sizes.specs.Sizing.{pattern_noted, with_pattern_name}
use Rattle.fut_sizes.specs.Steps.{State, Step, give, and_then, node_size}
use Rattle.alias_parts.specs.Known.{Knows}
use Rattle.size_arena.specs.declared.agreeing.SizeErr.{SizeErr}
use Rattle.size_arena.specs.declared.trees.SizeTree.{SizeTree}
use Rattle.size_arena.specs.Trees.{size_of}
use Rattle.size_program.specs.declared.maps.NumberMap.{NumberMap}
use Rattle.size_program.specs.declared.program.Program.{Program}
use Rattle.size_program.specs.declared.tables.Tables.{Tables}
use Rattle.size_program.specs.Answers.{Runs, Steps, Takes}
use Rattle.size_program.specs.Tables.{In_scope, Stands}
use Rattle.size_program.proofs.StepLaws.{steps_then, steps_stop, given}
use Rattle.size_patterns.specs.Heads.{Done}
use Rattle.size_forms.specs.Compositions.{second_at, function_entered, composition_entered}
use Rattle.size_forms.specs.Shown.{known_is}
use Rattle.size_forms.proofs.StepForms.{takes_then, takes_stop}

module _ (p : Pat) (t : Size) (names : NumberMap) where
  -- what is known behind the pattern
  abbrev pub Named : Result (Bor NumberMap) NoMemory → Type 0
  Named r = (N : Names) (types : Sub) (scope : Scope) → In_scope names scope → IfOk r (λ made. In_scope made.now (with_pattern_name N types (pattern_of p) t scope))

  pub named_bound : (b : BindId) (r : Result (Bor NumberMap) NoMemory) → p.form ≡ form.Bound b → ((scope : Scope) → In_scope names scope → IfOk r (λ made. In_scope made.now (with_name b.0 t scope))) → Named r
  named_bound b (Ok made) is h N types scope within = subst (λ z. In_scope made.now (with_pattern_name N types z t scope)) (sym (pattern_bound p b is)) (h scope within)
  named_bound b (Err x) is h N types scope within = tt

module _ (p : Pat) (t : Size) (made : Bor NumberMap) where
  pub named_wild : p.form ≡ form.Wild → Named p t made.now (Ok made)
  named_wild is N types scope within = subst (λ z. In_scope made.now (with_pattern_name N types z t scope)) (sym (pattern_wild p is)) within

  pub named_tuple : (ps : Bor (List Pat)) → p.form ≡ form.Tuple ps → Named p t made.now (Ok made)
  named_tuple ps is N types scope within = subst (λ z. In_scope made.now (with_pattern_name N types z t scope)) (sym (pattern_tuple p ps is)) within

  pub named_record : (fs : Bor (List PatField)) → p.form ≡ form.Record fs → Named p t made.now (Ok made)
  named_record fs is N types scope within = subst (λ z. In_scope made.now (with_pattern_name N types z t scope)) (sym (pattern_record p fs is)) within

  pub named_typed : (q : Bor Pat) (u : Bor TypeExp) → p.form ≡ form.Typed q u → Named p t made.now (Ok made)
  named_typed q u is N types scope within = subst (λ z. In_scope made.now (with_pattern_name N types z t scope)) (sym (pattern_typed p q u is)) within

-- ---- one function

-- a node's sized type is read, then what follows
pub read_then : {A B : Type 0} (R : B → A → Type 0) (m : ℕ) (next : Size → Step A) (f h : Tables) (t : Size) (r : Result B SizeErr) → ((s : State) → Stands f s → t ≡ s.nodes m) → Steps R (next t) f h r → Steps R (and_then (node_size m) next) f h r
read_then R m next f h t r is rest = record { steps = λ s stands. subst (λ z. Runs R (next z s) h r) (is s stands) (rest.steps s stands) }

module _ (p : Pat) (program : Program) (types : Sub) (names : NumberMap) (n first value : ℕ) (t : Bor SizeTree) (f g : Tables) (one : first ≡ n + 1) (two : value ≡ n + 2) (read : (s : State) → Stands f s → size_of t.now ≡ s.nodes value) where
  first_is : first ≡ 1 + n
  first_is = omega (arith, one)

  value_is : value ≡ 2 + n
  value_is = omega (arith, two)

  abbrev noted_next : Names → Scope → Size → Step Scope
  noted_next N scope u = and_then (pattern_noted N types (pattern_of p) (1 + n) u) (λ z. give (with_pattern_name N types (pattern_of p) u scope))

  entered : {B : Type 0} (R : B → Scope → Type 0) (h : Tables) (r : Result B SizeErr) (N : Names) (scope : Scope) → Steps R (noted_next N scope (size_of t.now)) f h r → Steps R (function_entered types (pattern_of p) n N scope) f h r
  entered R h r N scope rest = read_then R (2 + n) (noted_next N scope) f h (size_of t.now) r (λ s stands. read s stands ∙ ap (λ z. s.nodes z) value_is) rest

  pub function_stops : (x : SizeErr) → ((N : Names) → Knows program.names N → Steps Done (pattern_noted N types (pattern_of p) first (size_of t.now)) f g (Err x)) → Takes known_is program names (function_entered types (pattern_of p) n) f g (Err x)
  function_stops x h = record {
    takes = λ N scope knows within. entered (known_is N) g (Err x) N scope (steps_stop Done (known_is N) (pattern_noted N types (pattern_of p) (1 + n) (size_of t.now)) (λ z. give (with_pattern_name N types (pattern_of p) (size_of t.now) scope)) f g g (Err x) x refl (subst (λ z. Steps Done (pattern_noted N types (pattern_of p) z (size_of t.now)) f g (Err x)) first_is (h N knows)));
  }

  pub function_enters : (made : Bor NumberMap) (u : Unit {0}) → ((N : Names) → Knows program.names N → Steps Done (pattern_noted N types (pattern_of p) first (size_of t.now)) f g (Ok u))
      → ((N : Names) (types : Sub) (scope : Scope) → In_scope names scope → In_scope made.now (with_pattern_name N types (pattern_of p) (size_of t.now) scope)) → Takes known_is program names (function_entered types (pattern_of p) n) f g (Ok made)
  function_enters made u h inside = record {
    takes = λ N scope knows within. entered (known_is N) g (Ok made) N scope (steps_then Done (known_is N) (pattern_noted N types (pattern_of p) (1 + n) (size_of t.now)) (λ z. give (with_pattern_name N types (pattern_of p) (size_of t.now) scope)) f g g (Ok u) u (Ok made) refl (subst (λ z. Steps Done (pattern_noted N types (pattern_of p) z (size_of t.now)) f g (Ok u)) first_is (h N knows))
        (λ z e. given (known_is N) made (with_pattern_name N types (pattern_of p) (size_of t.now) scope) g (inside N types scope within)));
  }

-- ---- both

module _ (l m : LetTree) (program : Program) (types : Sub) (names : NumberMap) (n second : ℕ) (f g h : Tables) where
  pattern_so : (l : LetTree) → pattern_of l.pat ≡ (row_of l).0.pattern
  pattern_so l = sym (ap (λ (r : Row). r.0.pattern) (row_is l))

  first_so : {r : Result (Bor NumberMap) SizeErr} → Takes known_is program names (function_entered types (pattern_of l.pat) n) f g r → Takes known_is program names (function_entered types (row_of l).0.pattern n) f g r
  first_so {r = r} first = subst (λ z. Takes known_is program names (function_entered types z n) f g r) (pattern_so l) first

  pub first_stops : (x : SizeErr) → Takes known_is program names (function_entered types (pattern_of l.pat) n) f g (Err x) → Takes known_is program names (composition_entered types (row_of l) (row_of m) n) f g (Err x)
  first_stops x first = takes_stop known_is known_is program names (function_entered types (row_of l).0.pattern n) (λ N scope inner. function_entered types (row_of m).0.pattern (second_at (row_of l) n) N inner) f g g (Err x) x refl (first_so first)

  pub both_enter : (made : Bor NumberMap) (r : Result (Bor NumberMap) SizeErr) → second ≡ second_at (row_of l) n → Takes known_is program names (function_entered types (pattern_of l.pat) n) f g (Ok made) → Takes known_is program made.now (function_entered types (pattern_of m.pat) second) g h r → Takes known_is program names (composition_entered types (row_of l) (row_of m) n) f h r
  both_enter made r at first next = takes_then known_is known_is program names (function_entered types (row_of l).0.pattern n) (λ N scope inner. function_entered types (row_of m).0.pattern (second_at (row_of l) n) N inner) f g h (Ok made) made r refl (first_so first)
      (λ N scope knows within inner in_inner. (subst (λ z. Takes known_is program made.now (function_entered types (row_of m).0.pattern z) g h r) at (subst (λ z. Takes known_is program made.now (function_entered types z second) g h r) (pattern_so m) next)).takes N inner knows in_inner)
