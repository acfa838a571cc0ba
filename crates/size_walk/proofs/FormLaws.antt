-- Operations and choices, from the answers for their parts.
use Rattle.std.proofs.Common.{◌≡◌, ℕ, ◌+◌, ◌<◌, ◌≤◌, List, [], ◌∷◌, ◌++◌, length, get_or, drop, map, Result, Ok, Err, refl, sym, ap, ◌∙◌, subst, arith, add-one}
use Rattle.std.proofs.Math.Seq.{drop-cons}
use Rattle.std.specs.Borrow.{Bor}
use Rattle.fut_scalar.specs.declared.place.BindId.{BindId}
use Rattle.fut_scalar.specs.declared.place.Place.{Place}
use Rattle.fut_flat.specs.declared.exp.Exp.{Exp}
use Rattle.fut_flat.specs.declared.prim.Ref.{Ref}
use Rattle.fut_flat.specs.Terms.{Operation, Strict, If, Terms, no_term, term_and}
use Rattle.fut_flat.specs.Numbers.{own_numbers, numbers, all_numbers}
use Rattle.fut_flat.specs.Erased.{FlatTerm, term_of, terms}
use Rattle.fut_types.specs.Types.{Sub}
use Rattle.fut_typing.specs.Names.{Names}
use Rattle.sized_types.specs.Sizes.{Size, Sizes, no_size, size_and}
use Rattle.fut_sizes.specs.Agreeing.{Answer, kept, then_do}
use Rattle.fut_sizes.specs.Applications.{Part, whole}
use Rattle.fut_sizes.specs.Scopes.{Scope}
use Rattle.fut_sizes.specs.Steps.{State, Done, Step, give, and_then}
use Rattle.alias_parts.specs.Known.{Knows}
use Rattle.size_arena.specs.declared.agreeing.SizeErr.{SizeErr}
use Rattle.size_arena.specs.declared.trees.SizeTree.{SizeTree}
use Rattle.size_arena.specs.Trees.{size_of, sizes_of}
use Rattle.size_arena.proofs.Parts.{drop_past, before, before_more, before_none}
use Rattle.size_program.specs.declared.maps.NumberMap.{NumberMap}
use Rattle.size_program.specs.declared.program.Program.{Program}
use Rattle.size_program.specs.declared.tables.Tables.{Tables}
use Rattle.size_program.specs.Answers.{Steps, Going, Takes}
use Rattle.size_program.specs.Tables.{In_scope}
use Rattle.size_program.proofs.StepLaws.{given, regrouped, same_step, steps_then, steps_stop}
use Rattle.size_applying.specs.Wanted.{Is_part}
use Rattle.size_forms.specs.declared.walked.Row.{Row}
use Rattle.size_forms.specs.declared.walked.Walked.{Walked}
use Rattle.size_forms.specs.declared.walked.Whole.{Whole}
use Rattle.size_forms.specs.Shown.{part_is, row_is, whole_is}
use Rattle.size_forms.specs.Walked.{part_sized, row_sized, whole_sized}
use Rattle.size_forms.proofs.StepForms.{then_same, same_takes, takes_then, takes_stop}
use Rattle.size_forms.proofs.WalkLaws.{if_is, strict_is, yes_next, no_next, no_row}
use Rattle.size_forms.proofs.WalkLaws as walk
use Rattle.size_walk.specs.Walked.{operated_on}
use Rattle.size_walk.proofs.Joining.{halted, retold}
use Rattle.size_walk.proofs.Leading.{Leads, leads_start, leads_on, leads_to, then_leads, same_lead}

-- what is applied to nothing
abbrev pub whole_told : Names → Bor SizeTree → Part → Type 0
whole_told N t y = y ≡ whole (size_of t.now)

module _ (types : Sub) (p : Program) (names : NumberMap) where
  -- a form that gives a whole term gives this part
  pub as_walked : (go : Going Part) (f g : Tables) (t : Bor SizeTree) (w : Walked) → ((N : Names) (types : Sub) → Is_part N types w.part (whole (size_of t.now))) → Takes whole_told p names go f g (Ok t) → Takes (part_is types) p names go f g (Ok w)
  as_walked go f g t w part first = record {
    takes = λ N scope knows within. retold (whole_told N) (part_is types N) (go N scope) f g t w (λ y same. subst (λ z. Is_part N types w.part z) (sym same) (part N types)) (first.takes N scope knows within);
  }

  -- ---- operations

  module _ (o : Operation Ref BindId) (mark : Place) (ts : Terms Ref BindId) (bs : List ℕ) (n m : ℕ) (at : m ≡ n + own_numbers o) (f g h : Tables) where
    as_strict : {B : Type 0} (R : Names → B → Part → Type 0) (r : Result B SizeErr) → Takes R p names (λ N scope. and_then (row_sized types ts m N scope) (operated_on N types o ts n m)) f h r → Takes R p names (part_sized types (Strict o mark ts) bs n) f h r
    as_strict R r x = same_takes R p names (λ N scope. and_then (row_sized types ts m N scope) (operated_on N types o ts n m)) (part_sized types (Strict o mark ts) bs n) f h r (λ N scope s. sym (strict_is N types scope o mark ts bs n m s at)) x

    pub strict_stops : {B : Type 0} (R : Names → B → Part → Type 0) (x : SizeErr) → Takes row_is p names (row_sized types ts m) f g (Err x) → Takes R p names (part_sized types (Strict o mark ts) bs n) f h (Err x)
    strict_stops R x first = as_strict R (Err x) (takes_stop row_is R p names (row_sized types ts m) (λ N scope. operated_on N types o ts n m) f g h (Err x) x refl first)

    module _ (row : Row) (first : Takes row_is p names (row_sized types ts m) f g (Ok row)) where
      strict_then : {B : Type 0} (R : Names → B → Part → Type 0) (r : Result B SizeErr) → ((N : Names) → Knows p.names N → Steps (R N) (operated_on N types o ts n m (sizes_of row.sizes.now)) g h r) → Takes R p names (part_sized types (Strict o mark ts) bs n) f h r
      strict_then R r rest = as_strict R r (takes_then row_is R p names (row_sized types ts m) (λ N scope. operated_on N types o ts n m) f g h (Ok row) row r refl first
          (λ N scope knows within us same. subst (λ z. Steps (R N) (operated_on N types o ts n m z) g h r) (sym same) (rest N knows)))

      pub strict_refused : {B : Type 0} (R : Names → B → Part → Type 0) (x : SizeErr) → ((N : Names) → Knows p.names N → Steps (whole_told N) (operated_on N types o ts n m (sizes_of row.sizes.now)) g h (Err x)) → Takes R p names (part_sized types (Strict o mark ts) bs n) f h (Err x)
      strict_refused R x rest = strict_then R (Err x) (λ N knows. halted (whole_told N) (R N) (operated_on N types o ts n m (sizes_of row.sizes.now)) g h x h (rest N knows))

      pub strict_done : (t : Bor SizeTree) (w : Walked) → ((N : Names) → Knows p.names N → Steps (whole_told N) (operated_on N types o ts n m (sizes_of row.sizes.now)) g h (Ok t)) → ((N : Names) (types : Sub) → Is_part N types w.part (whole (size_of t.now))) → Takes (part_is types) p names (part_sized types (Strict o mark ts) bs n) f h (Ok w)
      strict_done t w rest part = as_walked (part_sized types (Strict o mark ts) bs n) f h t w part (strict_then whole_told (Ok t) rest)

  -- ---- choices

  module _ (c a b : FlatTerm) (bs : List ℕ) (n m i j : ℕ) (first_at : m ≡ 1 + n) (second_at : i ≡ m + numbers c) (third_at : j ≡ i + numbers a) where
    abbrev if_going : Going Part
    if_going = part_sized types (If c a b) bs n

    abbrev after_test : Names → Scope → Size → Step Part
    after_test N scope z = yes_next N types scope c a b n i j

    abbrev after_yes : Names → Scope → Size → Step Part
    after_yes N scope = no_next N types scope c a b n i j

    abbrev after_no : Size → Size → Step Part
    after_no u x = give (whole (kept n 0 u x))

    as_if : {B : Type 0} (R : Names → B → Part → Type 0) (f h : Tables) (r : Result B SizeErr) → Takes R p names (λ N scope. and_then (whole_sized types c [] m N scope) (after_test N scope)) f h r → Takes R p names if_going f h r
    as_if R f h r x = same_takes R p names (λ N scope. and_then (whole_sized types c [] m N scope) (after_test N scope)) if_going f h r (λ N scope s. sym (if_is N types scope c a b bs n m i j s first_at second_at third_at)) x

    module _ {B : Type 0} (R : Names → B → Part → Type 0) (f : Tables) where
      pub test_stops : (x : SizeErr) (g h : Tables) → Takes whole_is p names (whole_sized types c [] m) f g (Err x) → Takes R p names if_going f h (Err x)
      test_stops x g h first = as_if R f h (Err x) (takes_stop whole_is R p names (whole_sized types c [] m) after_test f g h (Err x) x refl first)

      module _ (tested : Whole) (g : Tables) (first : Takes whole_is p names (whole_sized types c [] m) f g (Ok tested)) where
        test_then : (h : Tables) (r : Result B SizeErr) → ((N : Names) (scope : Scope) → Knows p.names N → In_scope names scope → (z : Size) → Steps (R N) (after_test N scope z) g h r) → Takes R p names if_going f h r
        test_then h r rest = as_if R f h r (takes_then whole_is R p names (whole_sized types c [] m) after_test f g h (Ok tested) tested r refl first (λ N scope knows within z same. rest N scope knows within z))

        pub yes_stops : (x : SizeErr) (h k : Tables) → Takes whole_is p names (whole_sized types a [] i) g h (Err x) → Takes R p names if_going f k (Err x)
        yes_stops x h k second = test_then k (Err x) (λ N scope knows within z. steps_stop (whole_is N) (R N) (whole_sized types a [] i N scope) (after_yes N scope) g h k (Err x) x refl (second.takes N scope knows within))

        module _ (one : Whole) (h : Tables) (second : Takes whole_is p names (whole_sized types a [] i) g h (Ok one)) where
          yes_then : (k : Tables) (r : Result B SizeErr) → ((N : Names) (scope : Scope) → Knows p.names N → In_scope names scope → Steps (R N) (after_yes N scope (size_of one.size.now)) h k r) → Takes R p names if_going f k r
          yes_then k r rest = test_then k r (λ N scope knows within z. steps_then (whole_is N) (R N) (whole_sized types a [] i N scope) (after_yes N scope) g h k (Ok one) one r refl (second.takes N scope knows within)
              (λ u same. subst (λ y. Steps (R N) (after_yes N scope y) h k r) (sym same) (rest N scope knows within)))

          pub no_stops : (x : SizeErr) (k l : Tables) → Takes whole_is p names (whole_sized types b [] j) h k (Err x) → Takes R p names if_going f l (Err x)
          no_stops x k l third = yes_then l (Err x) (λ N scope knows within. steps_stop (whole_is N) (R N) (whole_sized types b [] j N scope) (after_no (size_of one.size.now)) h k l (Err x) x refl (third.takes N scope knows within))

          pub no_then : (other : Whole) (k : Tables) (r : Result B SizeErr) → Takes whole_is p names (whole_sized types b [] j) h k (Ok other) → ((N : Names) → Steps (R N) (after_no (size_of one.size.now) (size_of other.size.now)) k k r) → Takes R p names if_going f k r
          no_then other k r third rest = yes_then k r (λ N scope knows within. steps_then (whole_is N) (R N) (whole_sized types b [] j N scope) (after_no (size_of one.size.now)) h k k (Ok other) other r refl (third.takes N scope knows within)
              (λ u same. subst (λ y. Steps (R N) (after_no (size_of one.size.now) y) k k r) (sym same) (rest N)))

    pub if_done : (f g h k : Tables) (tested one other : Whole) → Takes whole_is p names (whole_sized types c [] m) f g (Ok tested) → Takes whole_is p names (whole_sized types a [] i) g h (Ok one) → Takes whole_is p names (whole_sized types b [] j) h k (Ok other)
        → (t : Bor SizeTree) → size_of t.now ≡ kept n 0 (size_of one.size.now) (size_of other.size.now) → (w : Walked) → ((N : Names) (types : Sub) → Is_part N types w.part (whole (size_of t.now))) → Takes (part_is types) p names if_going f k (Ok w)
    if_done f g h k tested one other first second third t kept_so w part = as_walked if_going f k t w part (no_then whole_told f tested g first one h second other k (Ok t) third
        (λ N. given (whole_told N) t (whole (kept n 0 (size_of one.size.now) (size_of other.size.now))) k (ap whole (sym kept_so))))

-- ---- terms in a row

pub terms_at : (es : List Exp) (i : ℕ) (e : Exp) → i < length es → terms (map term_of (drop i es)) ≡ term_and (term_of (get_or es i e)) (terms (map term_of (drop (i + 1) es)))
unfolding terms
terms_at es i e l = ap (λ z. terms (map term_of z)) (drop-cons es i e l) ∙ ap (λ j. term_and (term_of (get_or es i e)) (terms (map term_of (drop j es)))) (sym (add-one i))

pub terms_end : (es : List Exp) (i : ℕ) → length es ≤ i → terms (map term_of (drop i es)) ≡ no_term
unfolding terms
terms_end es i l = ap (λ z. terms (map term_of z)) (drop_past es i l)

abbrev No_more : Unit {0} → Type 0
No_more u = Unit {0}

pub given_same : {A : Type 0} (m : Step A) (s : State) → m s ≡ and_then m give s
given_same {A = A} m s = by_answer (m s)
  where
    by_answer : (a : Answer (Done A)) → a ≡ then_do a (λ d. give d.result d.state)
    by_answer (Ok d) = refl
    by_answer (Err e) = refl

module _ (types : Sub) (p : Program) (names : NumberMap) (es : List Exp) (n : ℕ) (f : Tables) where
  abbrev row_left : ℕ → ℕ → List SizeTree → Names → Scope → Step Sizes
  row_left i m made N scope = and_then (row_sized types (terms (map term_of (drop i es))) m N scope) (λ us. give (before made us))

  -- the first are sized, and gave these
  pub record Row_so_far (i m : ℕ) (made : List SizeTree) (g : Tables) : Type 0 where
    pub number : m + all_numbers (terms (map term_of (drop i es))) ≡ n + all_numbers (terms (map term_of es))
    pub goes : (N : Names) (scope : Scope) → Knows p.names N → In_scope names scope → Leads No_more (row_sized types (terms (map term_of es)) n N scope) (λ z. row_left i m made N scope) f g

  pub row_begins : (made : List SizeTree) → made ≡ [] → Row_so_far 0 n made f
  row_begins made none = subst (λ z. Row_so_far 0 n z f) (sym none) (record {
    number = refl;
    goes = λ N scope knows within. same_lead No_more (λ z. row_left 0 n [] N scope) (row_left 0 n [] N scope) (row_sized types (terms (map term_of es)) n N scope) f f (λ s. given_same (row_sized types (terms (map term_of es)) n N scope) s)
        (leads_start No_more (λ z. row_left 0 n [] N scope) tt tt f);
  })

  module _ (i m : ℕ) (made : List SizeTree) (g : Tables) (so_far : Row_so_far i m made g) where
    module _ (e : Exp) (l : i < length es) where
      abbrev after_one : ℕ → Names → Scope → Size → Step Sizes
      after_one k N scope u = and_then (row_sized types (terms (map term_of (drop (i + 1) es))) k N scope) (λ us. give (before made (size_and u us)))

      one_first : (k : ℕ) → k ≡ m + numbers (term_of (get_or es i e)) → (N : Names) (scope : Scope) (s : State) → row_left i m made N scope s ≡ and_then (whole_sized types (term_of (get_or es i e)) [] m N scope) (after_one k N scope) s
      one_first k at N scope s =
          ap (λ z. and_then (row_sized types z m N scope) (λ us. give (before made us)) s) (terms_at es i e l)
          ∙ ap (λ z. then_do z (λ d. give (before made d.result) d.state)) (walk.row_is N types scope (term_of (get_or es i e)) (terms (map term_of (drop (i + 1) es))) m k s at)
          ∙ regrouped (whole_sized types (term_of (get_or es i e)) [] m N scope) with_first (λ us. give (before made us)) s
          ∙ then_same (whole_sized types (term_of (get_or es i e)) [] m N scope) (λ u. and_then (with_first u) (λ us. give (before made us))) (after_one k N scope) (λ u t. regrouped (row_sized types (terms (map term_of (drop (i + 1) es))) k N scope) (λ us. give (size_and u us)) (λ us. give (before made us)) t) s
        where
          with_first : Size → Step Sizes
          with_first u = and_then (row_sized types (terms (map term_of (drop (i + 1) es))) k N scope) (λ us. give (size_and u us))

      pub row_stops : {B : Type 0} (R : Names → B → Sizes → Type 0) (x : SizeErr) (h : Tables) → Takes whole_is p names (whole_sized types (term_of (get_or es i e)) [] m) g h (Err x) → Takes R p names (row_sized types (terms (map term_of es)) n) f h (Err x)
      row_stops R x h first = record {
        takes = λ N scope knows within. leads_to No_more (λ z. row_left i m made N scope) (row_sized types (terms (map term_of es)) n N scope) f g h (so_far.goes N scope knows within) (R N) (Err x)
            (λ z so. same_step (R N) (and_then (whole_sized types (term_of (get_or es i e)) [] m N scope) (after_one (m + numbers (term_of (get_or es i e))) N scope)) (row_left i m made N scope) g h (Err x) (λ s. sym (one_first (m + numbers (term_of (get_or es i e))) refl N scope s))
            (steps_stop (whole_is N) (R N) (whole_sized types (term_of (get_or es i e)) [] m N scope) (after_one (m + numbers (term_of (get_or es i e))) N scope) g h h (Err x) x refl (first.takes N scope knows within)));
      }

      pub row_goes : (w : Whole) (more : List SizeTree) (h : Tables) → Takes whole_is p names (whole_sized types (term_of (get_or es i e)) [] m) g h (Ok w) → w.next ≡ m + numbers (term_of (get_or es i e)) → more ≡ made ++ w.size.now ∷ [] → Row_so_far (i + 1) w.next more h
      row_goes w more h first at by = record {
        number = let a = ap all_numbers (terms_at es i e l) in omega (arith, so_far.number, a, at);
        goes = λ N scope knows within. leads_on No_more (λ z. row_left i m made N scope) (row_sized types (terms (map term_of es)) n N scope) f g h (so_far.goes N scope knows within) No_more (λ z. row_left (i + 1) w.next more N scope)
            (λ z so. same_lead No_more (λ z. row_left (i + 1) w.next more N scope) (and_then (whole_sized types (term_of (get_or es i e)) [] m N scope) (after_one w.next N scope)) (row_left i m made N scope) g h (one_first w.next at N scope)
            (then_leads (whole_is N) (whole_sized types (term_of (get_or es i e)) [] m N scope) (after_one w.next N scope) No_more (λ z. row_left (i + 1) w.next more N scope) g h h (Ok w) w refl (first.takes N scope knows within)
            (λ u same. same_lead No_more (λ z. row_left (i + 1) w.next more N scope) (row_left (i + 1) w.next more N scope) (after_one w.next N scope u) h h
            (λ t. then_same (row_sized types (terms (map term_of (drop (i + 1) es))) w.next N scope) (λ us. give (before made (size_and u us))) (λ us. give (before more us)) (λ us y. ap (λ z. give z y) (ap (λ z. before made (size_and z us)) same ∙ sym (before_more made w.size.now us) ∙ ap (λ z. before z us) (sym by))) t)
            (leads_start No_more (λ z. row_left (i + 1) w.next more N scope) tt tt h))));
      }

    module _ (l : length es ≤ i) where
      pub row_ends : (row : Row) → row.sizes.now ≡ made → Takes row_is p names (row_sized types (terms (map term_of es)) n) f g (Ok row)
      row_ends row all = record {
        takes = λ N scope knows within. leads_to No_more (λ z. row_left i m made N scope) (row_sized types (terms (map term_of es)) n N scope) f g g (so_far.goes N scope knows within) (row_is N) (Ok row)
            (λ z so. same_step (row_is N) (give (before made no_size)) (row_left i m made N scope) g g (Ok row) (λ s. sym (at_end N scope s)) (given (row_is N) row (before made no_size) g (before_none made ∙ ap sizes_of (sym all))));
      }
        where
          at_end : (N : Names) (scope : Scope) (s : State) → row_left i m made N scope s ≡ give (before made no_size) s
          at_end N scope s = ap (λ z. and_then (row_sized types z m N scope) (λ us. give (before made us)) s) (terms_end es i l) ∙ ap (λ z. then_do z (λ d. give (before made d.result) d.state)) (no_row N types scope m s)

      pub row_numbers : m ≡ n + all_numbers (terms (map term_of es))
      row_numbers = let a = ap all_numbers (terms_end es i l) in omega (arith, so_far.number, a)
