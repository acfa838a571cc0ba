-- Applications by two numberings: their arguments are matched to the same sizes.
use Rattle.std.proofs.Common.{◌≡◌, ℕ, suc, ◌+◌, Bool, true, false, List, [], ◌∷◌, ◌++◌, length, Option, Some, None, Ok, Err, refl, sym, ap, ◌∙◌, subst}
use Rattle.fut_types.specs.Types.{Ty, Made}
use Rattle.fut_types.specs.declared.Head.TheVariants as head
use Rattle.sized_types.specs.Sizes.{Free, Slot, Dim, At, Variable, Size, Hole, Open, Level, Built, Fun, Sizes, no_size, size_and, replaced, renaming}
use Rattle.fut_sizes.specs.Levels.{levels_within}
use Rattle.fut_sizes.specs.Agreeing.{Refusal, Answer, type_levels, of_type}
use Rattle.fut_sizes.specs.Matching.{Found, found_size, filled, counted, made_at, read, Opened, none_opened, inside, in_opened, data_way, function_way}
use Rattle.fut_sizes.specs.Steps.{State, Done, Step}
use Rattle.fut_sizes.specs.Applications.{Want, Later, Met, Argument, Early, Late, is_function_type, is_function, own_type, still_open, all_settled, parts_settled, is_arrow, Wanting, with_use, uses, applied_frame, data_met, functions_met, all_matched, applied}
use Rattle.sizing_laws.specs.Renumbering.{renumbered_type, renumbered, all_renumbered}
use Rattle.sizing_laws.proofs.Agreeing.{levels_within_same, replaced_to, type_levels_same, of_type_to}
use Rattle.sizing_laws.proofs.Steps.{AnswerR, gives, refuses, then_are, cond_are, StateR, DoneR, done, StepR, then_step, give_step, ask_step}
use Rattle.sizing_laws.proofs.Matching.{FoundR, alike, type_alike, counted_alike, made_alike, next_same, taken_as, in_opened_to, read_opened_to, meet_alike}

module _ (number : ℕ → ℕ) where
  abbrev to : Size → Size
  to = renumbered number

  -- ---- what an application knows

  abbrev pub want_to : Option Want → Option Want
  want_to (Some w) = Some (record { node = w.node; is_regular = w.is_regular; size = to w.size })
  want_to None = None

  abbrev pub later_to : Later → Later
  later_to l = record { node = l.node; size = to l.size }

  abbrev pub laters_to : List Later → List Later
  laters_to [] = []
  laters_to (l ∷ ls) = later_to l ∷ laters_to ls

  pub data MetR : Met → Met → Type 0 where
    met : {size : Size} {σ τ : Found} {later : List Later} {goes_on : Bool} → FoundR number σ τ → MetR (record { size = size; found = σ; later = later; goes_on = goes_on }) (record { size = to size; found = τ; later = laters_to later; goes_on = goes_on })

  abbrev pub WaitingR : (Option Want → Found → Step Met) → (Option Want → Found → Step Met) → Type 0
  WaitingR f g = (w : Option Want) (σ τ : Found) → FoundR number σ τ → StepR number MetR (f w σ) (g (want_to w) τ)

  pub data ArgumentR : Argument → Argument → Type 0 where
    early : {at : ℕ} {value : Option Free} {named : Bool} {t : Size} → ArgumentR (Early at value named t) (Early at value named (to t))
    late : {at : ℕ} {f g : Option Want → Found → Step Met} → WaitingR f g → ArgumentR (Late at f) (Late at g)

  pub data ArgumentsR : List Argument → List Argument → Type 0 where
    no_arguments : ArgumentsR [] []
    more_arguments : {a b : Argument} {xs ys : List Argument} → ArgumentR a b → ArgumentsR xs ys → ArgumentsR (a ∷ xs) (b ∷ ys)

  pub data WantingR : Wanting → Wanting → Type 0 where
    wants : {node : ℕ} {a b : Argument} {opened : Opened} {wanted : Size} → ArgumentR a b → WantingR (record { node = node; argument = a; opened = opened; wanted = wanted }) (record { node = node; argument = b; opened = opened; wanted = to wanted })

  pub data WantingsR : List Wanting → List Wanting → Type 0 where
    no_wantings : WantingsR [] []
    more_wantings : {a b : Wanting} {xs ys : List Wanting} → WantingR a b → WantingsR xs ys → WantingsR (a ∷ xs) (b ∷ ys)

  pub arguments_on : {xs ys zs ws : List Argument} → ArgumentsR xs ys → ArgumentsR zs ws → ArgumentsR (xs ++ zs) (ys ++ ws)
  arguments_on no_arguments q = q
  arguments_on (more_arguments a p) q = more_arguments a (arguments_on p q)

  wantings_on : {xs ys zs ws : List Wanting} → WantingsR xs ys → WantingsR zs ws → WantingsR (xs ++ zs) (ys ++ ws)
  wantings_on no_wantings q = q
  wantings_on (more_wantings a p) q = more_wantings a (wantings_on p q)

  same_length : {xs ys : List Argument} → ArgumentsR xs ys → length ys ≡ length xs
  same_length no_arguments = refl
  same_length (more_arguments a p) = ap suc (same_length p)

  laters_on : (xs ys : List Later) → laters_to (xs ++ ys) ≡ laters_to xs ++ laters_to ys
  laters_on [] ys = refl
  laters_on (x ∷ xs) ys = ap (λ zs. later_to x ∷ zs) (laters_on xs ys)

  pub met_with : {x y : Size} {σ τ : Found} {ls ms : List Later} {goes_on : Bool} → y ≡ to x → ms ≡ laters_to ls → FoundR number σ τ → MetR (record { size = x; found = σ; later = ls; goes_on = goes_on }) (record { size = y; found = τ; later = ms; goes_on = goes_on })
  met_with {x} {y} {σ} {τ} {ls} {ms} {goes_on} e l h = subst (λ (z : Later). (ns : List Later) → ns ≡ laters_to ls → MetR (record { size = x; found = σ; later = ls; goes_on = goes_on }) (record { size = z.size; found = τ; later = ns; goes_on = goes_on })) (λ i. record { node = 0; size = sym e i })
      (λ ns k. subst (λ (ks : List Later). MetR (record { size = x; found = σ; later = ls; goes_on = goes_on }) (record { size = to x; found = τ; later = ks; goes_on = goes_on })) (sym k) (met h)) ms l

  found_of : {m n : Met} → MetR m n → FoundR number m.found n.found
  found_of (met h) = h

  -- ---- what is still open takes sizes of its own

  is_function_type_same : (u : Ty) → is_function_type (renumbered_type number u) ≡ is_function_type u
  is_function_type_same (Made head.Fun ts) = refl
  is_function_type_same u = refl

  is_function_same : (t : Size) → is_function (to t) ≡ is_function t
  is_function_same (Open n v u) = is_function_type_same u
  is_function_same t = refl

  is_arrow_same : (t : Size) → is_arrow (to t) ≡ is_arrow t
  is_arrow_same (Fun k p r) = refl
  is_arrow_same t = refl

  own_type_alike : (n : ℕ) (v : Variable) (u : Ty) {σ τ : Found} → FoundR number σ τ → FoundR number (own_type n v u σ) (own_type n v (renumbered_type number u) τ)
  own_type_alike n v u (alike {size} {type} {other} {next} {maker} h) =
      let σ : Found = record { size = size; type = type; next = next; maker = maker } in
      let τ : Found = record { size = size; type = other; next = next; maker = maker } in
      let dims : ℕ → Dim = λ i. At (Slot (next + i)) in
      subst (λ (k : ℕ). FoundR number (own_type n v u σ) (own_with k (renumbered_type number u) τ)) (sym (type_levels_same number u))
      (type_alike number n v (replaced (renaming (found_size σ)) 0 (of_type dims 0 u)) (replaced (renaming (found_size τ)) 0 (of_type dims 0 (renumbered_type number u)))
      (ap (replaced (renaming (found_size σ)) 0) (of_type_to number dims 0 u) ∙ replaced_to number (renaming (found_size σ)) 0 (of_type dims 0 u)) (counted_alike number (type_levels u) (made_alike number n {σ = σ} {τ = τ} (alike h))))
    where
      own_with : ℕ → Ty → Found → Found
      own_with k x υ = record { size = υ.size; type = λ m w t. filled n v (replaced (renaming (found_size υ)) 0 (of_type (λ i. At (Slot (υ.next + i))) 0 x)) (υ.type m w t); next = k + υ.next; maker = (made_at n υ).maker }

  still_open_alike : (n : ℕ) (v : Variable) (t : Size) {σ τ : Found} → FoundR number σ τ → FoundR number (still_open n v t σ) (still_open n v (to t) τ)
  still_open_alike n v (Open m w u) h = own_type_alike m w u h
  still_open_alike n v t h = h

  mutual
    unfolding all_settled

    pub settled_alike : (t : Size) {σ τ : Found} → FoundR number σ τ → FoundR number (all_settled t σ) (all_settled (to t) τ)
    settled_alike (Hole v) h = h
    settled_alike (Open n v u) {σ} {τ} h = subst (λ x. FoundR number (still_open n v (σ.type n v u) σ) (still_open n v x τ)) (sym (taken_as number h n v u)) (still_open_alike n v (σ.type n v u) h)
    settled_alike (Level d t) h = settled_alike t h
    settled_alike (Built g ts) h = parts_settled_alike ts h
    settled_alike (Fun k p r) h = settled_alike r (settled_alike p h)

    parts_settled_alike : (ts : Sizes) {σ τ : Found} → FoundR number σ τ → FoundR number (parts_settled ts σ) (parts_settled (all_renumbered number ts) τ)
    parts_settled_alike no_size h = h
    parts_settled_alike (size_and t ts) h = parts_settled_alike ts (settled_alike t h)

  -- ---- arguments are matched

  with_use_to : {a b : Argument} → ArgumentR a b → (φ : Opened) (t : Size) (ls : List Later) → with_use b φ (to t) (laters_to ls) ≡ laters_to (with_use a φ t ls)
  with_use_to (early {at = at} {value = value} {named = true} {t = u}) φ t ls = λ i. record { node = at; size = in_opened_to number φ t i } ∷ laters_to ls
  with_use_to (early {named = false}) φ t ls = refl
  with_use_to (late h) φ t ls = refl

  uses_to : {ws vs : List Wanting} → WantingsR ws vs → uses vs ≡ laters_to (uses ws)
  uses_to no_wantings = refl
  uses_to (more_wantings {a} {b} {xs} {ys} (wants {node = node} {a = x} {b = y} {opened = opened} {wanted = wanted} h) q) = ap (with_use y opened (to wanted)) (uses_to q) ∙ with_use_to h opened wanted (uses xs)

  data_met_alike : {ws vs : List Wanting} → WantingsR ws vs → {σ τ : Found} → FoundR number σ τ → AnswerR (FoundR number) (data_met ws σ) (data_met vs τ)
  unfolding data_met
  data_met_alike no_wantings h = gives h
  data_met_alike (more_wantings (wants {node = node} {a = x} {b = y} {opened = opened} {wanted = wanted} (early {at = at} {value = value} {named = named} {t = t})) q) h = then_are _ _ (cond_are (AnswerR (FoundR number)) (is_function t) (is_function (to t)) (is_function_same t) (gives h) (meet_alike number node data_way at opened wanted none_opened t (made_alike number node h))) (λ a b g. data_met_alike q g)
  data_met_alike (more_wantings (wants (late f)) q) h = data_met_alike q h

  functions_met_alike : (regular : Bool) {ws vs : List Wanting} → WantingsR ws vs → {σ τ : Found} → FoundR number σ τ → StepR number (FoundR number) (functions_met regular ws σ) (functions_met regular vs τ)
  unfolding functions_met
  functions_met_alike regular no_wantings h s t z = gives (done h z)
  functions_met_alike regular (more_wantings (wants {node = node} {a = x} {b = y} {opened = opened} {wanted = wanted} (early {at = at} {value = value} {named = named} {t = u})) q) h s t z =
      then_step _ _ (cond_are (StepR number (FoundR number)) (is_function u) (is_function (to u)) (is_function_same u) (ask_step number (meet_alike number node (function_way regular) at opened wanted none_opened u (made_alike number node h))) (give_step number h) s t z) (λ a b s2 t2 g z2. functions_met_alike regular q g s2 t2 z2)
  functions_met_alike regular (more_wantings (wants {node = node} {a = x} {b = y} {opened = opened} {wanted = wanted} (late {at = at} {f = f} {g = g} w)) q) {σ} {τ} h s t z =
      then_step _ _ (then_step _ _ (subst (λ u. AnswerR (DoneR number MetR) (f (Some (record { node = node; is_regular = regular; size = read σ (in_opened opened wanted) })) (made_at node σ) s) (g (Some (record { node = node; is_regular = regular; size = u })) (made_at node τ) t)) (sym (read_opened_to number h opened wanted))
      (w (Some (record { node = node; is_regular = regular; size = read σ (in_opened opened wanted) })) (made_at node σ) (made_at node τ) (made_alike number node h) s t z)) (λ a b s2 t2 m z2. gives (done (found_of m) z2))) (λ a b s2 t2 m z2. functions_met_alike regular q m s2 t2 z2)

  all_matched_alike : (regular : Bool) {ws vs : List Wanting} → WantingsR ws vs → {σ τ : Found} → FoundR number σ τ → StepR number (FoundR number) (all_matched regular ws σ) (all_matched regular vs τ)
  unfolding all_matched
  all_matched_alike regular q h s t z = then_step _ _ (ask_step number (data_met_alike q h) s t z) (λ a b s2 t2 g z2. functions_met_alike regular q g s2 t2 z2)

  -- ---- arrow by arrow

  frame_same : (m next k : ℕ) {a b : Argument} → ArgumentR a b → applied_frame m next k b ≡ applied_frame m next k a
  frame_same m next k early = refl
  frame_same m next k (late h) = refl

  -- what an arrow that is taken tells of its function and its argument
  record Taken_arrow : Type 0 where
    node : ℕ
    frame : ℕ → Dim
    many : ℕ
    goes_on : Bool
    later : List Later

  module _ (n : ℕ) (regular : Bool) where
    abbrev taking : List Argument → List Wanting → Opened → Argument → ℕ → Size → Size → Found → Taken_arrow → Step Met
    taking rest ws φ a k p r σ x = applied n regular rest (ws ++ record { node = x.node; argument = a; opened = inside x.frame φ; wanted = p } ∷ []) (inside x.frame φ) x.goes_on r x.later (counted (suc k + x.many) (made_at x.node σ))

    abbrev Applied_alike : List Argument → List Argument → Type 0
    Applied_alike xs ys = (ws vs : List Wanting) → WantingsR ws vs → (φ : Opened) (goes_on : Bool) (t : Size) (ls : List Later) (σ τ : Found) → FoundR number σ τ → StepR number MetR (applied n regular xs ws φ goes_on t ls σ) (applied n regular ys vs φ goes_on (to t) (laters_to ls) τ)

    abbrev arrow_of : List Argument → ℕ → Argument → Size → ℕ → List Later → Taken_arrow
    arrow_of rest k a r next ls = record { node = n + length rest; frame = applied_frame (n + length rest) next k a; many = levels_within r; goes_on = is_arrow r; later = ls }

    taking_alike : {xs ys : List Argument} → ArgumentsR xs ys → Applied_alike xs ys → {ws vs : List Wanting} → WantingsR ws vs → (φ : Opened) {a b : Argument} → ArgumentR a b → (k : ℕ) (p r : Size) {σ τ : Found} → FoundR number σ τ → (ls ms : List Later) → ms ≡ laters_to ls
        → StepR number MetR (taking xs ws φ a k p r σ (arrow_of xs k a r σ.next ls)) (taking ys vs φ b k (to p) (to r) τ (arrow_of ys k b (to r) τ.next ms))
    taking_alike {xs} {ys} args go {ws} {vs} q φ {a} {b} h k p r {σ} {τ} f ls ms l =
        let m : ℕ = n + length xs in
        subst (λ (x : Taken_arrow). StepR number MetR (taking xs ws φ a k p r σ (arrow_of xs k a r σ.next ls)) (taking ys vs φ b k (to p) (to r) τ x))
        (λ i. record {
          node = n + sym (same_length args) i;
          frame = (sym (frame_same m σ.next k h) ∙ (λ j. applied_frame (n + sym (same_length args) j) (sym (next_same number f) j) k b)) i;
          many = sym (levels_within_same number r) i;
          goes_on = sym (is_arrow_same r) i;
          later = sym l i;
        })
        (go _ _ (wantings_on q (more_wantings (wants h) no_wantings)) (inside (applied_frame m σ.next k a) φ) (is_arrow r) r ls _ _ (counted_alike number (suc k + levels_within r) (made_alike number m f)))

    -- where no arrow is left, those that wait are matched, and the function goes on if an arrow has come
    module _ (rest : List Argument) (a : Argument) (ws : List Wanting) (φ : Opened) (goes_on : Bool) (ls : List Later) (σ : Found) (s : State) where
      refused_law : (t : Size) → is_arrow t ≡ false → (e : Refusal) → all_matched regular ws σ s ≡ Err e → applied n regular (a ∷ rest) ws φ goes_on t ls σ s ≡ Err e
      unfolding applied
      refused_law (Fun k p r) h e is = cc
      refused_law t h e is = rw is refl

      arrow_law : (t : Size) → is_arrow t ≡ false → (d : Done Found) → all_matched regular ws σ s ≡ Ok d → (k : ℕ) (p r : Size) → read d.result (in_opened φ t) ≡ Fun k p r
          → applied n regular (a ∷ rest) ws φ goes_on t ls σ s ≡ taking rest [] none_opened a k p r d.result (arrow_of rest k a r d.result.next (ls ++ uses ws ++ record { node = suc (n + length rest); size = Fun k p r } ∷ [])) d.state
      unfolding applied
      arrow_law (Fun l q o) h d is k p r e = cc
      arrow_law t h d is k p r e = rw (is, e) refl

      over_law : (t : Size) → is_arrow t ≡ false → (d : Done Found) → all_matched regular ws σ s ≡ Ok d → (x : Size) → is_arrow x ≡ false → read d.result (in_opened φ t) ≡ x
          → applied n regular (a ∷ rest) ws φ goes_on t ls σ s ≡ Ok (record { result = record { size = x; found = d.result; later = ls ++ uses ws; goes_on = false }; state = d.state })
      unfolding applied
      over_law (Fun l q o) h d is x low e = cc
      over_law t h d is (Fun k p r) low e = cc
      over_law t h d is x low e = rw (is, e) refl

    over_alike : {xs ys : List Argument} → ArgumentsR xs ys → Applied_alike xs ys → {a b : Argument} → ArgumentR a b → {ws vs : List Wanting} → WantingsR ws vs → (φ : Opened) (goes_on : Bool) (t : Size) → is_arrow t ≡ false → (ls : List Later) {σ τ : Found} → FoundR number σ τ
        → StepR number MetR (applied n regular (a ∷ xs) ws φ goes_on t ls σ) (applied n regular (b ∷ ys) vs φ goes_on (to t) (laters_to ls) τ)
    over_alike {xs} {ys} args go {a} {b} h {ws} {vs} q φ goes_on t low ls {σ} {τ} f s s' z = by_matched refl refl (all_matched_alike regular q f s s' z)
      where
        one : Step Met
        one = applied n regular (a ∷ xs) ws φ goes_on t ls σ

        other : Step Met
        other = applied n regular (b ∷ ys) vs φ goes_on (to t) (laters_to ls) τ

        lower : is_arrow (to t) ≡ false
        lower = is_arrow_same t ∙ low

        both : {x y x' y' : Answer (Done Met)} → x ≡ x' → y ≡ y' → AnswerR (DoneR number MetR) x' y' → AnswerR (DoneR number MetR) x y
        both {x} {y} {x'} {y'} e g p = subst (λ (w : Answer (Done Met) × Answer (Done Met)). AnswerR (DoneR number MetR) w.0 w.1) (λ i. (sym e i, sym g i)) p

        by_form : (d e : Done Found) → all_matched regular ws σ s ≡ Ok d → all_matched regular vs τ s' ≡ Ok e → FoundR number d.result e.result → StateR number d.state e.state → (x : Size) → read d.result (in_opened φ t) ≡ x → AnswerR (DoneR number MetR) (one s) (other s')
        by_form d e is is' g w (Fun k p r) form = both (arrow_law xs a ws φ goes_on ls σ s t low d is k p r form) (arrow_law ys b vs φ goes_on (laters_to ls) τ s' (to t) lower e is' k (to p) (to r) (read_opened_to number g φ t ∙ ap to form))
            (taking_alike args go no_wantings none_opened h k p r g (ls ++ uses ws ++ record { node = suc (n + length xs); size = Fun k p r } ∷ []) (laters_to ls ++ uses vs ++ record { node = suc (n + length ys); size = Fun k (to p) (to r) } ∷ [])
            ((λ i. (laters_to ls ++ uses_to q i) ++ record { node = suc (n + same_length args i); size = Fun k (to p) (to r) } ∷ [])
            ∙ sym (laters_on (ls ++ uses ws) (record { node = suc (n + length xs); size = Fun k p r } ∷ []) ∙ ap (λ y. y ++ record { node = suc (n + length xs); size = Fun k (to p) (to r) } ∷ []) (laters_on ls (uses ws)))) d.state e.state w)
        by_form d e is is' g w x form = over x refl form
          where
            over : (x : Size) → is_arrow x ≡ false → read d.result (in_opened φ t) ≡ x → AnswerR (DoneR number MetR) (one s) (other s')
            over x flat form = both (over_law xs a ws φ goes_on ls σ s t low d is x flat form) (over_law ys b vs φ goes_on (laters_to ls) τ s' (to t) lower e is' (to x) (is_arrow_same x ∙ flat) (read_opened_to number g φ t ∙ ap to form))
                (gives (done (met_with refl (ap (λ y. laters_to ls ++ y) (uses_to q) ∙ sym (laters_on ls (uses ws))) g) w))

        by_matched : {x y : Answer (Done Found)} → all_matched regular ws σ s ≡ x → all_matched regular vs τ s' ≡ y → AnswerR (DoneR number (FoundR number)) x y → AnswerR (DoneR number MetR) (one s) (other s')
        by_matched is is' (refuses {e = e}) = both (refused_law xs a ws φ goes_on ls σ s t low e is) (refused_law ys b vs φ goes_on (laters_to ls) τ s' (to t) lower e is') refuses
        by_matched is is' (gives (done {a = d} {b = e} {s = s2} {t = t2} g w)) = by_form (record { result = d; state = s2 }) (record { result = e; state = t2 }) is is' g w (read d (in_opened φ t)) refl

    pub applied_alike : {xs ys : List Argument} → ArgumentsR xs ys → {ws vs : List Wanting} → WantingsR ws vs → (φ : Opened) (goes_on : Bool) (t : Size) (ls : List Later) {σ τ : Found} → FoundR number σ τ
        → StepR number MetR (applied n regular xs ws φ goes_on t ls σ) (applied n regular ys vs φ goes_on (to t) (laters_to ls) τ)
    unfolding applied
    applied_alike no_arguments {ws} q φ goes_on t ls h = λ s s' z. then_step _ _ (all_matched_alike regular q h s s' z) (λ a b s2 t2 g w. gives (done (met_with (read_opened_to number g φ t) (ap (λ y. laters_to ls ++ y) (uses_to q) ∙ sym (laters_on ls (uses ws))) g) w))
    applied_alike (more_arguments {a = a} {b = b} {xs = xs} {ys = ys} h args) q φ goes_on (Fun k p r) ls f =
        taking_alike args (λ ws vs q φ goes_on t ls σ τ f. applied_alike args q φ goes_on t ls f) q φ h k p r f (ls ++ record { node = suc (n + length xs); size = in_opened φ (Fun k p r) } ∷ []) (laters_to ls ++ record { node = suc (n + length ys); size = in_opened φ (Fun k (to p) (to r)) } ∷ [])
        ((λ i. laters_to ls ++ record { node = suc (n + same_length args i); size = in_opened_to number φ (Fun k p r) i } ∷ []) ∙ sym (laters_on ls (record { node = suc (n + length xs); size = in_opened φ (Fun k p r) } ∷ [])))
    applied_alike (more_arguments h args) q φ goes_on t ls f = over_alike args (λ ws vs q φ goes_on t ls σ τ f. applied_alike args q φ goes_on t ls f) h q φ goes_on t refl ls f
