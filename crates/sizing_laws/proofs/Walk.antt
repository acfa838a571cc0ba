-- The walk over a program by two numberings, form by form: the sizes are refused in the same way, or the sized types are alike.
use Rattle.std.proofs.Common.{◌≡◌, ℕ, suc, ◌+◌, ◌≤◌, ◌<◌, arith, Bool, true, false, List, [], ◌∷◌, ◌++◌, Option, Some, None, Ok, refl, sym, ap, ◌∙◌, subst}
use Rattle.fut_scalar.specs.declared.place.BindId.{BindId}
use Rattle.fut_flat.specs.declared.prim.Ref.{Ref}
use Rattle.fut_flat.specs.declared.prim.Ref.TheVariants as ref
use Rattle.fut_flat.specs.Terms.{Bound_pattern, Patterns, no_pattern, pattern_and, Binding, Use, Strict, Lambda, Apply, Let, If, Loop, Terms, no_term, term_and, Counted, Over, While}
use Rattle.fut_flat.specs.Numbers.{pattern_numbers, all_pattern_numbers, own_numbers, numbers, all_numbers, turn_numbers}
use Rattle.fut_flat.specs.Erased.{FlatTerm, FlatTurns, FlatPattern}
use Rattle.fut_types.specs.Types.{Ty, Sub}
use Rattle.fut_typing.specs.Names.{Names, AreNames}
use Rattle.fut_typing.specs.Program.{Defined, program_numbers}
use Rattle.fut_typing.proofs.Ranges.{pattern_some, own_some, numbers_some}
use Rattle.sized_types.specs.Sizes.{Free, Size, size_and, levels, replaced, renaming, renamed}
use Rattle.fut_sizes.specs.Agreeing.{Answer, then_do, kept, no_size_of, of_type}
use Rattle.fut_sizes.specs.Matching.{Found, nothing_found, none_opened, found_size}
use Rattle.fut_sizes.specs.Scopes.{Scope, nothing, names, as_slot, as_taken, bound_at}
use Rattle.fut_sizes.specs.Functions.{function_size, unchosen, size_names}
use Rattle.fut_sizes.specs.Compositions.{composed_body, composed_lambda, composed_second, composed_let, composition, composing, without_two}
use Rattle.fut_sizes.specs.Steps.{Done, Step, give, ask, and_then, note}
use Rattle.fut_sizes.specs.Applications.{Want, Met, Later, Argument, Early, Part, applied}
use Rattle.fut_sizes.specs.Sizing.{Entered, wanted_size, leaving_function, none_left, matched, all_part_names, bind_ids, composed_or, composition_met, has_parameters, right_numbers, row_of, with_head, with_pattern_name, turns_from, pattern_noted, parameters_noted, finished, sized, right_sized, inner_sized, all_sized, turns_sized, condition_sized}
use Rattle.fut_sizes.specs.Programs.{no_state, definition_sized, definitions_sized, sizing}
use Rattle.sizing_laws.specs.Renumbering.{Renumbers, renumbered_type, renumbered, all_renumbered, renumbered_answer}
use Rattle.sizing_laws.specs.Claims.{SizingIsOne}
use Rattle.sizing_laws.proofs.Agreeing.{levels_same, replaced_to, kept_to}
use Rattle.sizing_laws.proofs.Steps.{AnswerR, gives, refuses, One, then_are, same_are, SizeR, StateR, DoneR, done, StepR, then_step, ask_step, note_step, note_state}
use Rattle.sizing_laws.proofs.Matching.{FoundR, alike, nothing_alike}
use Rattle.sizing_laws.proofs.Scopes.{ScopeR, with_name_alike, bound_alike, bound_at_alike}
use Rattle.sizing_laws.proofs.Functions.{takings_to, unchosen_same, function_size_to}
use Rattle.sizing_laws.proofs.Applying.{want_to, laters_to, MetR, met, met_with, ArgumentR, early, no_arguments, more_arguments, no_wantings, applied_alike}
use Rattle.sizing_laws.proofs.Operations.{operated}
use Rattle.sizing_laws.proofs.Entering.{EnteredR, enters, all_entered_alike, matched_alike, leaving_alike, leaving_function_alike, turns_alike, row_to, PartR, waits, whole_alike, plain_at, with_head_alike, use_alike, pattern_alike, parameters_alike, met_noted_alike, finished_alike, as_argument_alike, with_argument_alike, general_alike, let_scope_alike, second_alike, pattern_name_alike, wanted_as_alike}

module _ (number : ℕ → ℕ) where
  composing_to : (left_first : Bool) (n : ℕ) (a b c : Ty) → composing left_first n (renumbered_type number a) (renumbered_type number b) (renumbered_type number c) ≡ renumbered number (composing left_first n a b c)
  composing_to true n a b c = refl
  composing_to false n a b c = refl

  without_two_to : (ls : List Later) → without_two (laters_to number ls) ≡ laters_to number (without_two ls)
  without_two_to [] = refl
  without_two_to (l ∷ []) = refl
  without_two_to (l ∷ k ∷ ls) = refl

  -- what a lambda is entered with
  first_entered : (w : Option Want) {x y : Scope} {σ τ : Found} → ScopeR number x y → FoundR number σ τ
      → EnteredR number (record { scope = x; parameters = []; wanted = wanted_size w; found = σ }) (record { scope = y; parameters = []; wanted = wanted_size (want_to number w); found = τ })
  first_entered (Some w) h f = enters {ps = []} {wanted = Some w.size} h f
  first_entered None h f = enters {ps = []} {wanted = None} h f

  found_same : {σ τ : Found} → FoundR number σ τ → (d : Free) → found_size τ d ≡ found_size σ d
  found_same (alike h) d = refl

  -- what says which names a turn has
  abbrev TurnsR : (Scope → Answer Scope) → (Scope → Answer Scope) → Type 0
  TurnsR f g = (s r : Scope) → ScopeR number s r → AnswerR (ScopeR number) (f s) (g r)

  composed_alike : (o : Option Bool) (f g : Bool → Step Part) (x y : Step Part) (M N : Names) (types others : Sub) → ((b : Bool) → o ≡ Some b → StepR number (PartR number) (f b) (g b)) → StepR number (PartR number) x y → StepR number (PartR number) (composed_or M types o f x) (composed_or N others o g y)
  composed_alike (Some b) f g x y M N types others h k s r z = h b refl s r z
  composed_alike None f g x y M N types others h k s r z = k s r z

-- ---- how many numbers a composition has

module _ (l : Bool) where
  body_room : (f g x : ℕ) (e : FlatTerm) → composed_body f g x e ≡ Some l → 5 ≤ numbers e
  body_room f g x (Apply (Use (ref.Bound h) at k) (Apply i j)) e = let one : 0 < numbers i = numbers_some i in let two : 0 < numbers j = numbers_some j in omega (arith, one, two)
  body_room f g x e h = absurd cc

  lambda_room : (f g : ℕ) (e : FlatTerm) → composed_lambda f g e ≡ Some l → 7 ≤ numbers e
  lambda_room f g (Lambda (pattern_and (Bound_pattern x) no_pattern) e) h = let some : 5 ≤ numbers e = body_room f g x.0 e h in omega (arith, some)
  lambda_room f g e h = absurd cc

  second_room : (f : ℕ) (p : FlatPattern) (e : FlatTerm) → composed_second f p e ≡ Some l → 7 ≤ numbers e
  second_room f (Bound_pattern g) e h = lambda_room f g.0 e h
  second_room f p e h = absurd cc

  let_room : (N : Names) (types : Sub) (f : ℕ) (e : FlatTerm) → composed_let f e ≡ Some l → 8 + right_numbers N types e ≤ numbers e
  let_room N types f (Let c w e) h = let some : 7 ≤ numbers e = second_room f c.pattern e h in omega (arith, some)
  let_room N types f e h = absurd cc

  composed_by : FlatTerm → FlatPattern → Option Bool
  composed_by e (Bound_pattern f) = composed_let f.0 e
  composed_by e p = None

  composed_as : (b : Binding Ref BindId) (e : FlatTerm) → composition b e ≡ composed_by e b.pattern
  unfolding composed_by
  composed_as b e = refl

  named_room : (N : Names) (types : Sub) (p : FlatPattern) (e : FlatTerm) → composed_by e p ≡ Some l → 8 + right_numbers N types e ≤ numbers e
  unfolding composed_by
  named_room N types (Bound_pattern f) e h = let_room N types f.0 e h
  named_room N types p e h = absurd cc

  room : (N : Names) (types : Sub) (b : Binding Ref BindId) (e : FlatTerm) → composition b e ≡ Some l → 8 + right_numbers N types e ≤ numbers e
  room N types b e h = named_room N types b.pattern e (sym (composed_as b e) ∙ h)

-- ---- the parts of a walk that stand inside others

module _ (N : Names) (types : Sub) where
  abbrev lambda_body : Patterns Ref BindId → FlatTerm → List ℕ → ℕ → Option Want → Entered → Step Met
  lambda_body ps e bs lo w E =
      and_then (ask (none_left N types (1 + lo + all_pattern_numbers ps) (unchosen bs E.parameters))) (λ z.
      and_then (parameters_noted N types E.parameters) (λ y.
      and_then (sized N types e [] (1 + lo + all_pattern_numbers ps) E.scope) (λ part.
      and_then (finished N types (1 + lo + all_pattern_numbers ps) part) (λ body.
      and_then (ask (leaving_function lo (all_part_names ps) E.parameters body)) (λ r.
      and_then (note lo (function_size bs lo (1 + lo + all_pattern_numbers ps + numbers e) E.parameters r)) (λ own. ask (matched N types lo w own E.found)))))))

  abbrev turn_of : List BindId → FlatPattern → FlatTurns → FlatTerm → ℕ → ℕ → (Scope → Answer Scope) → Scope → Size → Step Size
  turn_of sizes p turns body lo at each scope carried =
      and_then (ask (bound_at N sizes (at + turn_numbers turns) (1 + lo + pattern_numbers p) p carried scope)) (λ k.
      and_then (pattern_noted N types p (1 + lo) carried) (λ y.
      and_then (ask (each k.scope)) (λ inner.
      and_then (condition_sized N types turns at inner) (λ z.
      and_then (sized N types body [] (at + turn_numbers turns) inner) (λ given.
      and_then (finished N types (at + turn_numbers turns) given) (λ u.
      give (renamed (as_taken sizes k.found) u)))))))

module _ (M N : Names) (m : AreNames M) (n : AreNames N) (number : ℕ → ℕ) (renumbers : Renumbers M N number) (types others : Sub) (count : ℕ) (typed : (k : ℕ) → k < count → others k ≡ renumbered_type number (types k)) where
  abbrev go : Size → Size
  go = renumbered number

  has_parameters_same : (bs : List ℕ) (e : FlatTerm) (lo : ℕ) → has_parameters N others bs e lo ≡ has_parameters M types bs e lo
  has_parameters_same bs (Lambda ps e) lo = refl
  has_parameters_same bs e lo = refl

  none_left_same : (at : ℕ) (bs : List ℕ) → none_left N others at bs ≡ none_left M types at bs
  none_left_same at [] = refl
  none_left_same at (b ∷ bs) = refl

  composition_alike : (lo : ℕ) (left_first : Bool) {f g f' g' : Argument} → ArgumentR number f f' → ArgumentR number g g' → (at : ℕ) → 4 + at < count → StepR number (SizeR number) (composition_met M types lo left_first f g at) (composition_met N others lo left_first f' g' at)
  composition_alike lo left_first {f} {g} {f'} {g'} p q at lt s r z = then_step _ _
      (subst (λ x. AnswerR (DoneR number (MetR number)) (applied lo false (f ∷ g ∷ []) [] none_opened true (composing left_first lo (types (1 + at)) (types (4 + at)) (types (2 + at))) [] nothing_found s) (applied lo false (f' ∷ g' ∷ []) [] none_opened true x [] nothing_found r)) (sym ((λ i. composing left_first lo (typed (1 + at) (omega (arith, lt)) i) (typed (4 + at) lt i) (typed (2 + at) (omega (arith, lt)) i)) ∙ composing_to number left_first lo (types (1 + at)) (types (4 + at)) (types (2 + at))))
      (applied_alike number lo false (more_arguments p (more_arguments q no_arguments)) no_wantings none_opened true (composing left_first lo (types (1 + at)) (types (4 + at)) (types (2 + at))) [] (nothing_alike number) s r z))
      (λ a b s2 r2 h z2. met_noted_alike M N m n number renumbers types others count typed lo (without h) s2 r2 z2)
    where
      without : {a b : Met} → MetR number a b → MetR number (record { size = a.size; found = a.found; later = without_two a.later; goes_on = a.goes_on }) (record { size = b.size; found = b.found; later = without_two b.later; goes_on = b.goes_on })
      without (met {later = later} h) = met_with number refl (without_two_to number later) h

  -- a lambda, whose body is walked over once it is entered
  lambda_alike : (ps : Patterns Ref BindId) (e : FlatTerm) (bs : List ℕ) (lo : ℕ) (w : Option Want) → ((x y : Scope) → ScopeR number x y → StepR number (PartR number) (sized M types e [] (1 + lo + all_pattern_numbers ps) x) (sized N others e [] (1 + lo + all_pattern_numbers ps) y)) → {E F : Entered} → EnteredR number E F → StepR number (MetR number) (lambda_body M types ps e bs lo w E) (lambda_body N others ps e bs lo (want_to number w) F)
  lambda_alike ps e bs lo w walk (enters {s = x} {r = y} {ps = qs} h f) s r z =
      then_step _ _ (ask_step number (same_are (ap (none_left N others (1 + lo + all_pattern_numbers ps)) (unchosen_same number bs qs) ∙ none_left_same (1 + lo + all_pattern_numbers ps) (unchosen bs qs))) s r z) (λ a b s2 r2 p z2.
      then_step _ _ (parameters_alike M N m n number renumbers types others count typed qs s2 r2 z2) (λ c d s3 r3 q z3.
      then_step _ _ (walk x y h s3 r3 z3) (λ i j s4 r4 g z4.
      then_step _ _ (finished_alike M N m n number renumbers types others count typed (1 + lo + all_pattern_numbers ps) g s4 r4 z4) (λ t u s5 r5 k z5.
      then_step _ _ (ask_step number (leaving_function_alike number lo (all_part_names ps) qs t u k) s5 r5 z5) (λ v v' s6 r6 l z6.
      ask_step number (matched_alike M N m n number renumbers types others count typed lo w (function_size bs lo (1 + lo + all_pattern_numbers ps + numbers e) qs v) (function_size bs lo (1 + lo + all_pattern_numbers ps + numbers e) (takings_to number qs) v')
      (ap (function_size bs lo (1 + lo + all_pattern_numbers ps + numbers e) (takings_to number qs)) l ∙ function_size_to number bs lo (1 + lo + all_pattern_numbers ps + numbers e) qs v) f) _ _
      (note_state number lo _ _ (ap (function_size bs lo (1 + lo + all_pattern_numbers ps + numbers e) (takings_to number qs)) l ∙ function_size_to number bs lo (1 + lo + all_pattern_numbers ps + numbers e) qs v) z6))))))

  mutual
    unfolding sized

    pub sized_alike : (e : FlatTerm) (bs : List ℕ) (lo : ℕ) → lo + numbers e ≤ count → (x y : Scope) → ScopeR number x y → StepR number (PartR number) (sized M types e bs lo x) (sized N others e bs lo y)
    sized_alike (Use q at k) bs lo le x y h s r z = gives (done (use_alike M N m n number renumbers types others count typed lo (omega (arith, le)) x y h q) z)
    sized_alike (Strict o mark ts) bs lo le x y h s r z =
        then_step _ _ (all_sized_alike ts (lo + own_numbers o) (omega (arith, le)) x y h s r z) (λ us vs s2 r2 e z2.
        then_step _ _ (ask_step number (operated M N m n number renumbers types others lo (typed lo (let own : 0 < own_numbers o = own_some o in omega (arith, le, own))) o (lo + own_numbers o) ts us vs e) s2 r2 z2) (λ t u s3 r3 g z3.
        then_step _ _ (second_alike M N m n number renumbers types others count typed o lo us vs e s3 r3 z3) (λ a b s4 r4 k z4. gives (done (whole_alike number g) z4))))
    sized_alike (Lambda ps e) bs lo le x y h s r z = gives (done (waits (λ w σ τ f s r z.
        then_step _ _ (ask_step number (all_entered_alike M N m n number renumbers types others count typed lo ps (1 + lo) (omega (arith, le)) (first_entered number w h f)) s r z) (λ E F s2 r2 k z2. lambda_alike ps e bs lo w (λ v v' g. sized_alike e [] (1 + lo + all_pattern_numbers ps) (omega (arith, le)) v v' g) k s2 r2 z2))) z)
    sized_alike (Apply f e) bs lo le x y h s r z =
        then_step _ _ (sized_alike f [] (1 + lo) (omega (arith, le)) x y h s r z) (λ a b s2 r2 p z2.
        then_step _ _ (sized_alike e [] (1 + lo + numbers f) (omega (arith, le)) x y h s2 r2 z2) (λ c d s3 r3 q z3.
        then_step _ _ (as_argument_alike M N m n number renumbers types others count typed (1 + lo + numbers f) e q s3 r3 z3) (λ i j s4 r4 g z4.
        with_argument_alike M N m n number renumbers types others count typed p g s4 r4 z4)))
    sized_alike (Let b v e) bs lo le x y h s r z = composed_alike number (composition b e) _ _ _ _ M N types others
        (λ left_first is s r z.
        let name : 0 < pattern_numbers b.pattern = pattern_some b.pattern in
        let some : 8 + right_numbers N others e ≤ numbers e = room left_first N others b e is in
        then_step _ _ (sized_alike v [] (2 + lo) (omega (arith, le, name)) x y h s r z) (λ a a' s2 r2 p z2.
        then_step _ _ (as_argument_alike M N m n number renumbers types others count typed (2 + lo) v p s2 r2 z2) (λ f f' s3 r3 q z3.
        then_step _ _ (right_alike e (2 + lo + numbers v) (omega (arith, le, name)) x y h s3 r3 z3) (λ g g' s4 r4 k z4.
        then_step _ _ (composition_alike lo left_first q k (4 + lo + numbers v + right_numbers N others e) (omega (arith, le, name, some)) s4 r4 z4) (λ t u s5 r5 c z5.
        then_step _ _ (pattern_alike M N m n number renumbers types others count typed b.pattern (1 + lo) (s5.nodes (2 + lo)) (r5.nodes (2 + lo)) (z5.nodes (2 + lo)) s5 r5 z5) (λ i j s6 r6 d z6.
        then_step _ _ (inner_alike e (2 + lo + numbers v) (omega (arith, le, name)) t u c (with_pattern_name M types b.pattern (s5.nodes (2 + lo)) x) (with_pattern_name N others b.pattern (r5.nodes (2 + lo)) y) (pattern_name_alike M N m n number renumbers types others count typed b.pattern (s5.nodes (2 + lo)) (r5.nodes (2 + lo)) (z5.nodes (2 + lo)) x y h) s6 r6 z6) (λ w w' s7 r7 o z7.
        gives (done (whole_alike number o) z7))))))))
        (λ s r z.
        then_step _ _ (ask_step number (same_are (has_parameters_same (size_names b.parameters) v (1 + lo + pattern_numbers b.pattern))) s r z) (λ a a' s2 r2 p z2.
        then_step _ _ (sized_alike v (size_names b.parameters) (1 + lo + pattern_numbers b.pattern) (omega (arith, le)) (with_head M types (size_names b.parameters) x) (with_head N others (size_names b.parameters) y) (with_head_alike number M N types others (size_names b.parameters) x y h) s2 r2 z2) (λ c c' s3 r3 q z3.
        then_step _ _ (finished_alike M N m n number renumbers types others count typed (1 + lo + pattern_numbers b.pattern) q s3 r3 z3) (λ t u s4 r4 g z4.
        then_step _ _ (ask_step number (let_scope_alike M N m n number renumbers types others count typed b (1 + lo + pattern_numbers b.pattern) t u g x y h) s4 r4 z4) (λ i j s5 r5 k z5.
        then_step _ _ (pattern_alike M N m n number renumbers types others count typed b.pattern (1 + lo) t u g s5 r5 z5) (λ o o' s6 r6 l z6.
        then_step _ _ (sized_alike e [] (1 + lo + pattern_numbers b.pattern + numbers v) (omega (arith, le)) i j k s6 r6 z6) (λ d d' s7 r7 f z7.
        then_step _ _ (finished_alike M N m n number renumbers types others count typed (1 + lo + pattern_numbers b.pattern + numbers v) f s7 r7 z7) (λ w w' s8 r8 e8 z8.
        then_step _ _ (ask_step number (leaving_alike number lo (names b.pattern ++ bind_ids b.sizes) w w' e8) s8 r8 z8) (λ v1 v2 s9 r9 e9 z9.
        gives (done (whole_alike number e9) z9)))))))))) s r z
    sized_alike (If c t e) bs lo le x y h s r z =
        then_step _ _ (sized_alike c [] (1 + lo) (omega (arith, le)) x y h s r z) (λ a b s2 r2 p z2. then_step _ _ (finished_alike M N m n number renumbers types others count typed (1 + lo) p s2 r2 z2) (λ d f s3 r3 q z3.
        then_step _ _ (sized_alike t [] (1 + lo + numbers c) (omega (arith, le)) x y h s3 r3 z3) (λ a b s4 r4 p z4. then_step _ _ (finished_alike M N m n number renumbers types others count typed (1 + lo + numbers c) p s4 r4 z4) (λ u u' s5 r5 q z5.
        then_step _ _ (sized_alike e [] (1 + lo + numbers c + numbers t) (omega (arith, le)) x y h s5 r5 z5) (λ a b s6 r6 p z6. then_step _ _ (finished_alike M N m n number renumbers types others count typed (1 + lo + numbers c + numbers t) p s6 r6 z6) (λ w w' s7 r7 g z7.
        gives (done (whole_alike number ((λ i. kept lo 0 (q i) (g i)) ∙ kept_to number lo 0 u w)) z7)))))))
    sized_alike (Loop mark sizes p first turns body) bs lo le x y h s r z =
        then_step _ _ (sized_alike first [] (1 + lo + pattern_numbers p) (omega (arith, le)) x y h s r z) (λ a b s2 r2 q z2.
        then_step _ _ (finished_alike M N m n number renumbers types others count typed (1 + lo + pattern_numbers p) q s2 r2 z2) (λ t u s3 r3 e z3.
        then_step _ _ (turns_sized_alike turns (1 + lo + pattern_numbers p + numbers first) (omega (arith, le)) x y h s3 r3 z3) (λ each each' s4 r4 g z4.
        then_step _ _ (subst (λ k. AnswerR (DoneR number (SizeR number)) (turns_from M types (suc (levels t)) lo t (turn_of M types sizes p turns body lo (1 + lo + pattern_numbers p + numbers first) each x) s4) (turns_from N others (suc k) lo u (turn_of N others sizes p turns body lo (1 + lo + pattern_numbers p + numbers first) each' y) r4)) (sym (ap levels e ∙ levels_same number t))
        (turns_alike number M N types others lo (suc (levels t)) t u e (λ c d k s5 r5 z5.
        then_step _ _ (ask_step number (bound_at_alike M N m n number renumbers sizes (1 + lo + pattern_numbers p + numbers first + turn_numbers turns) (1 + lo + pattern_numbers p) p c d k x y h) s5 r5 z5) (λ i j s6 r6 l z6.
        then_step _ _ (pattern_alike M N m n number renumbers types others count typed p (1 + lo) c d k s6 r6 z6) (λ o o' s7 r7 e7 z7.
        then_step _ _ (ask_step number (g i.scope j.scope l.scope) s7 r7 z7) (λ inner inner' s8 r8 h8 z8.
        then_step _ _ (condition_alike turns (1 + lo + pattern_numbers p + numbers first) (omega (arith, le)) inner inner' h8 s8 r8 z8) (λ o o' s9 r9 e9 z9.
        then_step _ _ (sized_alike body [] (1 + lo + pattern_numbers p + numbers first + turn_numbers turns) (omega (arith, le)) inner inner' h8 s9 r9 z9) (λ v v' s10 r10 p10 z10.
        then_step _ _ (finished_alike M N m n number renumbers types others count typed (1 + lo + pattern_numbers p + numbers first + turn_numbers turns) p10 s10 r10 z10) (λ w w' s11 r11 e11 z11.
        gives (done ((λ a. replaced (renaming (λ d. found_same number l.found (as_slot sizes d) a)) 0 (e11 a)) ∙ replaced_to number (renaming (as_taken sizes i.found)) 0 w) z11)))))))) s4 r4 z4)) (λ c d s5 r5 k z5.
        gives (done (whole_alike number k) z5)))))

    right_alike : (e : FlatTerm) (lo : ℕ) → lo + numbers e ≤ count → (x y : Scope) → ScopeR number x y → StepR number (ArgumentR number) (right_sized M types e lo x) (right_sized N others e lo y)
    right_alike (Let c w e) lo le x y h s r z = then_step _ _ (sized_alike w [] (2 + lo) (let some : 0 < pattern_numbers c.pattern = pattern_some c.pattern in omega (arith, le, some)) x y h s r z) (λ a b s2 r2 p z2. as_argument_alike M N m n number renumbers types others count typed (2 + lo) w p s2 r2 z2)
    right_alike e lo le x y h s r z = gives (done (subst (λ u. ArgumentR number (Early lo None false (of_type (no_size_of lo) 0 (types lo))) (Early lo None false u)) (sym (plain_at M N m n number renumbers types others count typed lo (let some : 0 < numbers e = numbers_some e in omega (arith, le, some)))) early) z)

    inner_alike : (e : FlatTerm) (lo : ℕ) → lo + numbers e ≤ count → (t u : Size) → u ≡ go t → (x y : Scope) → ScopeR number x y → StepR number (SizeR number) (inner_sized M types e lo t x) (inner_sized N others e lo u y)
    inner_alike (Let c w e) lo le t u g x y h s r z =
        then_step _ _ (pattern_alike M N m n number renumbers types others count typed c.pattern (1 + lo) (s.nodes (2 + lo)) (r.nodes (2 + lo)) (z.nodes (2 + lo)) s r z) (λ a b s2 r2 p z2.
        then_step _ _ (sized_alike e [] (2 + lo + numbers w) (let some : 0 < pattern_numbers c.pattern = pattern_some c.pattern in omega (arith, le, some)) (with_pattern_name M types c.pattern (s.nodes (2 + lo)) x) (with_pattern_name N others c.pattern (r.nodes (2 + lo)) y) (pattern_name_alike M N m n number renumbers types others count typed c.pattern (s.nodes (2 + lo)) (r.nodes (2 + lo)) (z.nodes (2 + lo)) x y h) s2 r2 z2) (λ d f s3 r3 q z3.
        then_step _ _ (wanted_as_alike M N m n number renumbers types others count typed (2 + lo + numbers w) t u g q s3 r3 z3) (λ v v' s4 r4 k z4. note_step number lo v v' k s4 r4 z4)))
    inner_alike e lo le t u g x y h s r z = gives (done g z)

    all_sized_alike : (ts : Terms Ref BindId) (lo : ℕ) → lo + all_numbers ts ≤ count → (x y : Scope) → ScopeR number x y → StepR number (λ us vs. vs ≡ all_renumbered number us) (all_sized M types ts lo x) (all_sized N others ts lo y)
    all_sized_alike no_term lo le x y h s r z = gives (done refl z)
    all_sized_alike (term_and t ts) lo le x y h s r z =
        then_step _ _ (sized_alike t [] lo (omega (arith, le)) x y h s r z) (λ a b s2 r2 p z2. then_step _ _ (finished_alike M N m n number renumbers types others count typed lo p s2 r2 z2) (λ u u' s3 r3 q z3.
        then_step _ _ (all_sized_alike ts (lo + numbers t) (omega (arith, le)) x y h s3 r3 z3) (λ us us' s4 r4 g z4. gives (done (λ i. size_and (q i) (g i)) z4))))

    turns_sized_alike : (t : FlatTurns) (lo : ℕ) → lo + turn_numbers t ≤ count → (x y : Scope) → ScopeR number x y → StepR number (TurnsR number) (turns_sized M types t lo x) (turns_sized N others t lo y)
    turns_sized_alike (Counted i e) lo le x y h s r z =
        then_step _ _ (sized_alike e [] (1 + lo) (omega (arith, le)) x y h s r z) (λ a b s2 r2 p z2. then_step _ _ (finished_alike M N m n number renumbers types others count typed (1 + lo) p s2 r2 z2) (λ t u s3 r3 q z3.
        gives (done (λ v w k. gives (with_name_alike number i.0 t u q v w k)) (note_state number lo t u q z3))))
    turns_sized_alike (Over p e) lo le x y h s r z =
        then_step _ _ (sized_alike e [] (lo + pattern_numbers p) (omega (arith, le)) x y h s r z) (λ a b s2 r2 k z2. then_step _ _ (finished_alike M N m n number renumbers types others count typed (lo + pattern_numbers p) k s2 r2 z2) (λ t u s3 r3 q z3.
        then_step _ _ (pattern_alike M N m n number renumbers types others count typed p lo (row_of M types t) (row_of N others u) (ap (row_of N others) q ∙ row_to number M N types others t) s3 r3 z3) (λ c d s4 r4 g z4.
        gives (done (λ v w l. then_are _ _ (bound_alike M N m n number renumbers [] (lo + pattern_numbers p) p (row_of M types t) (row_of N others u) (ap (row_of N others) q ∙ row_to number M N types others t) v w l) (λ i j f. gives f.scope)) z4))))
    turns_sized_alike (While c) lo le x y h s r z = gives (done (λ v w k. gives k) z)

    condition_alike : (t : FlatTurns) (lo : ℕ) → lo + turn_numbers t ≤ count → (x y : Scope) → ScopeR number x y → StepR number One (condition_sized M types t lo x) (condition_sized N others t lo y)
    condition_alike (While c) lo le x y h s r z = then_step _ _ (sized_alike c [] lo (omega (arith, le)) x y h s r z) (λ a b s2 r2 p z2. then_step _ _ (finished_alike M N m n number renumbers types others count typed lo p s2 r2 z2) (λ t u s3 r3 q z3. gives (done refl z3)))
    condition_alike (Counted i e) lo le x y h s r z = gives (done refl z)
    condition_alike (Over p e) lo le x y h s r z = gives (done refl z)

  definition_alike : (d : Defined) (lo : ℕ) → lo + (pattern_numbers d.name + numbers d.value) ≤ count → (x y : Scope) → ScopeR number x y → StepR number (ScopeR number) (definition_sized M types d lo x) (definition_sized N others d lo y)
  definition_alike d lo le x y h s r z =
      then_step _ _ (ask_step number (same_are (has_parameters_same (size_names d.parameters) d.value (lo + pattern_numbers d.name))) s r z) (λ a b s2 r2 p z2.
      then_step _ _ (sized_alike d.value (size_names d.parameters) (lo + pattern_numbers d.name) (omega (arith, le)) (with_head M types (size_names d.parameters) x) (with_head N others (size_names d.parameters) y) (with_head_alike number M N types others (size_names d.parameters) x y h) s2 r2 z2) (λ c c' s3 r3 q z3.
      then_step _ _ (finished_alike M N m n number renumbers types others count typed (lo + pattern_numbers d.name) q s3 r3 z3) (λ t u s4 r4 g z4.
      gives (done (general_alike M N m n number renumbers types others count typed d.name t u g x y h) (note_state number lo t u g z4)))))

  definitions_alike : (ds : List Defined) (lo : ℕ) → lo + program_numbers ds ≤ count → (x y : Scope) → ScopeR number x y → StepR number (ScopeR number) (definitions_sized M types ds lo x) (definitions_sized N others ds lo y)
  definitions_alike [] lo le x y h s r z = gives (done h z)
  definitions_alike (d ∷ ds) lo le x y h s r z = then_step _ _ (definition_alike d lo (omega (arith, le)) x y h s r z) (λ a b s2 r2 k z2. definitions_alike ds (lo + (pattern_numbers d.name + numbers d.value)) (omega (arith, le)) a b k s2 r2 z2)

  nothing_known : ScopeR number nothing nothing
  nothing_known b = refl

  nothing_said : StateR number no_state no_state
  nothing_said = record { nodes = λ k. refl; dropped = refl }

  of_answers : {a b : Answer (Done Scope)} → AnswerR (DoneR number (ScopeR number)) a b → then_do b (λ d. Ok d.state.nodes) ≡ renumbered_answer number (then_do a (λ d. Ok d.state.nodes))
  of_answers (gives (done h z)) = λ i. Ok (λ k. z.nodes k i)
  of_answers refuses = refl

  sizing_same : (ds : List Defined) → program_numbers ds ≤ count → sizing N others ds ≡ renumbered_answer number (sizing M types ds)
  unfolding sizing
  sizing_same ds le = of_answers (definitions_alike ds 0 (omega (arith, le)) nothing nothing nothing_known no_state no_state nothing_said)

pub sizing_is_one : SizingIsOne
sizing_is_one M N m n number renumbers ds types others typed = sizing_same M N m n number renumbers types others (program_numbers ds) typed ds (omega arith)
