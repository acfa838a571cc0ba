-- What a let or a loop binds.
use Rattle.std.proofs.Common.{◌≡◌, ℕ, zero, suc, ◌+◌, ◌<◌, ◌≤◌, List, [], ◌∷◌, length, drop, Bool, true, false, cond, Result, Ok, Err, refl, sym, ap, ◌∙◌, subst, add-one, arith}
use Rattle.std.specs.Borrow.{Bor}
use Rattle.fut_scalar.specs.declared.place.BindId.{BindId}
use Rattle.fut_flat.specs.declared.exp.Let.{Let as LetTree}
use Rattle.fut_flat.specs.declared.pat.Pat.{Pat}
use Rattle.fut_flat.specs.declared.pat.PatField.{PatField}
use Rattle.fut_flat.specs.declared.pat.PatForm.TheVariants as form
use Rattle.fut_flat.specs.declared.ty.TypeExp.{TypeExp}
use Rattle.fut_flat.specs.Erased.{FlatPattern, Row, pattern_of}
use Rattle.fut_flat.proofs.ErasedForms.{row_is, row_of}
use Rattle.fut_flat.proofs.ErasedPatterns.{pattern_bound, pattern_wild, pattern_tuple, pattern_typed}
use Rattle.fut_types.specs.Types.{Sub}
use Rattle.fut_typing.specs.Names.{Names}
use Rattle.sized_types.specs.Sizes.{Free, Size, replaced, renaming, renamed}
use Rattle.fut_sizes.specs.Agreeing.{Answer, Escapes, then_do}
use Rattle.fut_sizes.specs.Matching as matching
use Rattle.fut_sizes.specs.Matching.{counted, found_size, nothing_found}
use Rattle.fut_sizes.specs.Scopes.{Scope, Taken, all_met, as_slot, as_taken, bound_at, bound_by, is_still_open, taken, with_known}
use Rattle.fut_sizes.specs.Sizing.{let_scope, with_general}
use Rattle.size_arena.specs.declared.agreeing.Refusal.TheVariants as refusal
use Rattle.size_arena.specs.declared.agreeing.SizeErr.{SizeErr}
use Rattle.size_arena.specs.declared.agreeing.SizeErr.TheVariants as size_err
use Rattle.size_arena.proofs.Parts.{drop_past}
use Rattle.size_program.specs.declared.maps.NumberMap.{NumberMap}
use Rattle.size_program.specs.Answers.{Answers, answers, refuses, no_memory}
use Rattle.size_program.specs.Tables.{In_scope}
use Rattle.size_program.proofs.StepLaws.{answered, answered_not}
use Rattle.size_slots.specs.declared.slots.Found.{Found}
use Rattle.size_slots.specs.Held.{Holds}
use Rattle.size_slots.proofs.Renaming.{renamed_twice}
use Rattle.size_patterns.specs.declared.binding.Bindings.{Bindings}
use Rattle.size_patterns.specs.Bound.{Bound_so, Taken_in, Tells_scope, unbound}
use Rattle.size_patterns.specs.Heads.{Done}
use Rattle.size_patterns.proofs.Results.{same_err}
use Rattle.size_patterns.proofs.PatternForms.{one_more, record_pattern}

-- ---- each size name took the size of a level

at_place : (bs : List BindId) (i : ℕ) → i < length bs → BindId
at_place [] i l = absurd (omega (arith, l))
at_place (b ∷ bs) zero l = b
at_place (b ∷ bs) (suc i) l = at_place bs i (omega (arith, l))

module _ (at : ℕ) (bs : List BindId) (σ : matching.Found) (i : ℕ) where
  one_met : (t : Bool) → i < length bs → is_still_open (σ.size i) ≡ t → all_met at i (drop i bs) σ ≡ cond t (Err (Escapes at)) (all_met at (suc i) (drop (i + 1) bs) σ)
  one_met t l e = ap (λ z. all_met at i z σ) (one_more bs i (at_place bs i l) l) ∙ ap (λ z. cond z (Err (Escapes at)) (all_met at (suc i) (drop (i + 1) bs) σ)) e

  pub met_more : (d : Free) → i < length bs → false ≡ is_still_open d → d ≡ σ.size i → all_met at 0 bs σ ≡ all_met at i (drop i bs) σ → all_met at 0 bs σ ≡ all_met at (i + 1) (drop (i + 1) bs) σ
  met_more d l f e h = h ∙ one_met false l (ap is_still_open (sym e) ∙ sym f) ∙ ap (λ z. all_met at z (drop (i + 1) bs) σ) (sym (add-one i))

  pub not_met : (r : Result (Unit {0}) SizeErr) (d : Free) → i < length bs → true ≡ is_still_open d → d ≡ σ.size i → all_met at 0 bs σ ≡ all_met at i (drop i bs) σ → Answers Done (Err (Escapes at)) r → Answers Done (all_met at 0 bs σ) r
  not_met r d l t e h so = subst (λ z. Answers Done z r) (sym (h ∙ one_met true l (ap is_still_open (sym e) ∙ sym t))) so

  pub met_end : length bs ≤ i → all_met at 0 bs σ ≡ all_met at i (drop i bs) σ → Answers Done (all_met at 0 bs σ) (Ok tt)
  met_end l h = answers (h ∙ ap (λ z. all_met at i z σ) (drop_past bs i l)) refl

-- refused at a node, which is told
pub refused_at : (at n : ℕ) → n ≡ at → Answers Done (Err (Escapes at)) (Err (size_err.Refused (refusal.Escapes n)))
refused_at at n same = refuses (ap (λ z. Err (Escapes z)) (sym same))

-- ---- a pattern takes a value where its size names are bound

abbrev pub Given : Type 0
Given = Result Bindings SizeErr

module _ (N : Names) (bs : List BindId) (unmet at : ℕ) (p : FlatPattern) (t : Size) (scope : Scope) (f : Found) (k : Result (Bor NumberMap) SizeErr) (first : Answers (Taken_in f) (taken N bs at p t (unbound bs scope)) k) where
  abbrev met_next : Taken → Answer Taken
  met_next z = then_do (all_met unmet 0 bs z.found) (λ u. Ok z)

  bound_is : bound_at N bs unmet at p t scope ≡ then_do (taken N bs at p t (unbound bs scope)) met_next
  bound_is = refl

  pub met_stops : (x : SizeErr) → k ≡ Err x → Answers (Taken_in f) (bound_at N bs unmet at p t scope) (Err x)
  met_stops x is = subst (λ z. Answers (Taken_in f) z (Err x)) (sym bound_is) (answered_not (Taken_in f) (taken N bs at p t (unbound bs scope)) k first (Taken_in f) met_next x is)

  module _ (names : Bor NumberMap) (is : k ≡ Ok names) (m : Result (Unit {0}) SizeErr) (all : (σ : matching.Found) → Holds f σ → Answers Done (all_met unmet 0 bs σ) m) where
    pub met_ends : (u : Unit {0}) → m ≡ Ok u → Answers (Taken_in f) (bound_at N bs unmet at p t scope) (Ok names)
    met_ends u ok =
        let d = answered (Taken_in f) (taken N bs at p t (unbound bs scope)) k first names is in
        let e = answered Done (all_met unmet 0 bs d.result.found) m (all d.result.found d.related.found) u ok in
        answers (bound_is ∙ ap (λ z. then_do z met_next) d.is ∙ ap (λ z. then_do z (λ u. Ok d.result)) e.is) d.related

    pub met_refused : (x : SizeErr) → m ≡ Err x → Answers (Taken_in f) (bound_at N bs unmet at p t scope) (Err x)
    met_refused x err =
        let d = answered (Taken_in f) (taken N bs at p t (unbound bs scope)) k first names is in
        subst (λ z. Answers (Taken_in f) z (Err x)) (sym (bound_is ∙ ap (λ z. then_do z met_next) d.is)) (answered_not Done (all_met unmet 0 bs d.result.found) m (all d.result.found d.related.found) (Taken_in f) (λ u. Ok d.result) x err)

-- of a let the value is where a size name is refused
pub bound_value : (N : Names) (bs : List BindId) (at : ℕ) (p : FlatPattern) (t : Size) (scope : Scope) (r : Given) → Answers Bound_so (bound_at N bs at at p t scope) r → Answers Bound_so (bound_by N bs at p t scope) r
unfolding bound_by
bound_value N bs at p t scope r h = h

-- the same with the table
module _ (a : Answer Taken) (f : Found) (k : Result (Bor NumberMap) SizeErr) (first : Answers (Taken_in f) a k) where
  pub bind_ends : (names : Bor NumberMap) → k ≡ Ok names → Answers Bound_so a (Ok (record { names = names; found = f }))
  bind_ends names is = let d = answered (Taken_in f) a k first names is in answers d.is (record { scope = d.related.scope; found = d.related.found })

  pub bind_stops : (x : SizeErr) → k ≡ Err x → Answers Bound_so a (Err x)
  bind_stops x is = by_first first is
    where
      by_first : {k : Result (Bor NumberMap) SizeErr} → Answers (Taken_in f) a k → k ≡ Err x → Answers Bound_so a (Err x)
      by_first (answers {x = m} p h) is = cc
      by_first (refuses {e = y} p) is = subst (λ z. Answers Bound_so a (Err z)) (same_err (size_err.Refused y) x is) (refuses p)
      by_first no_memory is = subst (λ z. Answers Bound_so a (Err z)) (same_err size_err.Memory x is) no_memory

-- ---- what size names took stands for them

slot_found : (bs : List BindId) (σ : matching.Found) (d : Free) → found_size σ (as_slot bs d) ≡ as_taken bs σ d
slot_found bs σ d = refl

pub taken_renamed : (bs : List BindId) (σ : matching.Found) (t a b : Size) → a ≡ replaced (renaming (as_slot bs)) 0 t → b ≡ replaced (renaming (found_size σ)) 0 a → b ≡ renamed (as_taken bs σ) t
taken_renamed bs σ t a b slots read = read ∙ ap (replaced (renaming (found_size σ)) 0) slots ∙ renamed_twice (found_size σ) (as_slot bs) (as_taken bs σ) (slot_found bs σ) t

-- ---- a general name

module _ (N : Names) (types : Sub) (p : Pat) (t : Size) (scope : Scope) (m : NumberMap) where
  abbrev pub Generally : Type 0
  Generally = In_scope m (with_general N types (pattern_of p) t scope)

  pub generally_named : (b : BindId) → p.form ≡ form.Bound b → In_scope m (with_known b.0 (record { size = t; is_general = true }) scope) → Generally
  generally_named b is h = subst (λ z. In_scope m (with_general N types z t scope)) (sym (pattern_bound p b is)) h

  module _ (h : In_scope m scope) where
    pub generally_none : p.form ≡ form.Wild → Generally
    generally_none is = subst (λ z. In_scope m (with_general N types z t scope)) (sym (pattern_wild p is)) h

    pub generally_tuple : (ps : Bor (List Pat)) → p.form ≡ form.Tuple ps → Generally
    generally_tuple ps is = subst (λ z. In_scope m (with_general N types z t scope)) (sym (pattern_tuple p ps is)) h

    pub generally_record : (fs : Bor (List PatField)) → p.form ≡ form.Record fs → Generally
    generally_record fs is = subst (λ z. In_scope m (with_general N types z t scope)) (sym (record_pattern p fs is)) h

    pub generally_typed : (q : Bor Pat) (e : Bor TypeExp) → p.form ≡ form.Typed q e → Generally
    generally_typed q e is = subst (λ z. In_scope m (with_general N types z t scope)) (sym (pattern_typed p q e is)) h

-- ---- behind a let

module _ (N : Names) (types : Sub) (l : LetTree) (at : ℕ) (t : Size) (scope : Scope) where
  abbrev pub Behind_let : Result (Bor NumberMap) SizeErr → Type 0
  Behind_let r = Answers Tells_scope (let_scope N types (row_of l).0 at t scope) r

  abbrev let_next : Taken → Answer Scope
  let_next z = Ok z.scope

  abbrev either_scope : Bool → Answer Scope
  either_scope b = cond b (Ok (with_general N types (pattern_of l.pat) t scope)) (then_do (bound_by N l.sizes.now at (pattern_of l.pat) t scope) let_next)

  let_is : (b : Bool) → l.is_function ≡ b → let_scope N types (row_of l).0 at t scope ≡ either_scope b
  let_is b e = ap (λ (z : Row). let_scope N types z.0 at t scope) (row_is l) ∙ ap either_scope e

  pub let_general : (made : Bor NumberMap) → l.is_function ≡ true → In_scope made.now (with_general N types (pattern_of l.pat) t scope) → Behind_let (Ok made)
  let_general made e h = answers (let_is true e) h

  module _ (e : l.is_function ≡ false) (k : Given) (first : Answers Bound_so (bound_by N l.sizes.now at (pattern_of l.pat) t scope) k) where
    pub let_binds : (b : Bindings) → k ≡ Ok b → Behind_let (Ok b.names)
    let_binds b is =
        let d = answered Bound_so (bound_by N l.sizes.now at (pattern_of l.pat) t scope) k first b is in
        answers (let_is false e ∙ ap (λ z. then_do z let_next) d.is) d.related.scope

    pub let_stops : (x : SizeErr) → k ≡ Err x → Behind_let (Err x)
    let_stops x is = subst (λ z. Answers Tells_scope z (Err x)) (sym (let_is false e)) (answered_not Bound_so (bound_by N l.sizes.now at (pattern_of l.pat) t scope) k first Tells_scope let_next x is)
