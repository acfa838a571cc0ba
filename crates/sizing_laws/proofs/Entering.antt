-- Parameters, loops, patterns and what an application notes, by two numberings.
use Rattle.std.proofs.Common.{◌≡◌, ℕ, zero, suc, ◌+◌, ◌≤◌, ◌<◌, arith, Bool, true, false, ◌||◌, cond, List, [], ◌∷◌, ◌++◌, length, Option, Some, None, refl, sym, ap, ◌∙◌, subst}
use Rattle.fut_ast.specs.Sorts.{Text}
use Rattle.fut_scalar.specs.declared.place.BindId.{BindId}
use Rattle.fut_scalar.specs.declared.scalar.ScalarType.{ScalarType}
use Rattle.fut_flat.specs.declared.prim.Primitive.{Primitive}
use Rattle.fut_flat.specs.declared.prim.Ref.{Ref}
use Rattle.fut_flat.specs.declared.prim.Ref.TheVariants as ref
use Rattle.fut_flat.specs.Terms.{Bound_pattern, Wild_pattern, Tuple_pattern, Record_pattern, Typed_pattern, Patterns, no_pattern, pattern_and, Operation, Binary, Project, Binding}
use Rattle.fut_flat.specs.Numbers.{pattern_numbers, all_pattern_numbers}
use Rattle.fut_flat.specs.Erased.{FlatTerm, FlatPattern}
use Rattle.fut_primitives.specs.Written.{Written, Variable, Scalar, Own, From, Array, Unique, Pair, Triple, Named, Function}
use Rattle.fut_primitives.specs.Table.{written, own_of, from_of}
use Rattle.fut_types.specs.declared.Head.TheVariants as head
use Rattle.fut_types.specs.Types.{Sub}
use Rattle.fut_typing.specs.Names.{Names, AreNames}
use Rattle.fut_typing.proofs.Ranges.{pattern_some}
use Rattle.sized_types.specs.Sizes.{Own as Own_size, Dim, At, Size, Hole, Open, Level, Built, Fun, Sizes, no_size, size_and, levels, renaming, has, takes}
use Rattle.fut_sizes.specs.Primitives.{Frames, letter, chosen, argument, sized_type, prim_size, is_regular}
use Rattle.fut_sizes.specs.Agreeing.{of_type, no_size_of, names_one, leave, leaving}
use Rattle.fut_sizes.specs.WrittenSizes.{part_of, coerced, same_dim, parameter_size}
use Rattle.fut_sizes.specs.Matching.{Found, nothing_found, read, none_opened, inside, in_opened, data_way, function_way, meet}
use Rattle.fut_sizes.specs.Scopes.{Known, Scope, with_name, i64_size, used}
use Rattle.fut_sizes.specs.Functions.{Taking, quantified, closed}
use Rattle.fut_sizes.specs.Steps.{State, Step, note}
use Rattle.fut_sizes.specs.Applications.{Want, Met, Later, Argument, Early, Part, Applied, Waiting, whole, named_value, is_use, all_settled}
use Rattle.fut_sizes.specs.Sizing.{Entered, has_open_slot, is_open, some_open, parameter_frame, open_frame, leaving_function, field_noted, in_pattern, in_patterns, entered, enter_wanted, own_sizes, enter, all_entered, matched, lacking_dim, lacking, all_lacking, differing_level, differing, all_differing, another, turns_from, row_of, use_known, use_of, pattern_noted, patterns_noted, fields_noted, parameters_noted, all_noted, met_noted, finished, as_argument, with_argument, with_head, with_general, let_scope, second_noted, with_pattern_name, wanted_as}
use Rattle.sizing_laws.specs.Renumbering.{Renumbers, renumbered_head, renumbered_type, renumbered, all_renumbered}
use Rattle.sizing_laws.proofs.Agreeing.{levels_same, replaced_to, has_same, takes_same, of_type_to}
use Rattle.sizing_laws.proofs.Steps.{AnswerR, gives, refuses, One, then_are, cond_are, SizeR, StateR, DoneR, done, StepR, then_step, give_step, note_state, drop_state, note_step}
use Rattle.sizing_laws.proofs.Written.{if_some, coerced_to, parameter_size_to, part_of_to}
use Rattle.sizing_laws.proofs.Matching.{FoundR, nothing_alike, maker_same, read_to, in_opened_to, meet_alike}
use Rattle.sizing_laws.proofs.Scopes.{known_to, ScopeR, with_known_alike, with_name_alike, used_to, bound_alike}
use Rattle.sizing_laws.proofs.Functions.{taking_to, takings_to, quantified_to, closed_to}
use Rattle.sizing_laws.proofs.Applying.{want_to, laters_to, MetR, met, met_with, WaitingR, ArgumentR, early, late, ArgumentsR, no_arguments, more_arguments, arguments_on, no_wantings, settled_alike, applied_alike}

module _ (number : ℕ → ℕ) where
  abbrev to : Size → Size
  to = renumbered number

  abbrev tos : Sizes → Sizes
  tos = all_renumbered number

  -- ---- primitives have no records

  sized_type_to : (own from : ScalarType) (φ : Frames) (i : ℕ) (w : Written) → sized_type own from φ i w ≡ to (sized_type own from φ i w)
  unfolding sized_type
  sized_type_to own from φ i (Variable x) = refl
  sized_type_to own from φ i (Scalar s) = refl
  sized_type_to own from φ i Own = refl
  sized_type_to own from φ i From = refl
  sized_type_to own from φ i (Array n t) = ap (Level (letter φ i n)) (sized_type_to own from φ (suc i) t)
  sized_type_to own from φ i (Unique t) = sized_type_to own from φ i t
  sized_type_to own from φ i (Pair t u) = λ j. Built head.Tuple (size_and (sized_type_to own from φ i t j) (size_and (sized_type_to own from φ (levels (sized_type own from φ i t) + i) u j) no_size))
  sized_type_to own from φ i (Triple t u v) = λ j. Built head.Tuple (size_and (sized_type_to own from φ i t j) (size_and (sized_type_to own from φ i u j) (size_and (sized_type_to own from φ i v j) no_size)))
  sized_type_to own from φ i (Named n t) = sized_type_to own from φ i t
  sized_type_to own from φ i (Function t u) = λ j. Fun (length (chosen φ t)) (sized_type_to own from (chosen φ t ∷ φ) 0 t j) (sized_type_to own from ((chosen φ t ++ argument t) ∷ φ) (suc (length (chosen φ t))) u j)

  prim_size_to : (p : Primitive) → prim_size p ≡ to (prim_size p)
  unfolding prim_size
  prim_size_to p = sized_type_to (own_of p) (from_of p) [] 0 (written p)

  -- ---- what is entered

  mutual
    unfolding is_open

    is_open_same : (t : Size) → is_open (to t) ≡ is_open t
    is_open_same (Hole v) = refl
    is_open_same (Open n v u) = refl
    is_open_same (Level d t) = ap (λ b. has_open_slot d || b) (is_open_same t)
    is_open_same (Built h ts) = some_open_same ts
    is_open_same (Fun k p r) = λ i. is_open_same p i || is_open_same r i

    some_open_same : (ts : Sizes) → some_open (tos ts) ≡ some_open ts
    some_open_same no_size = refl
    some_open_same (size_and t ts) = λ i. is_open_same t i || some_open_same ts i

  pub data EnteredR : Entered → Entered → Type 0 where
    enters : {s r : Scope} {ps : List Taking} {wanted : Option Size} {σ τ : Found} → ScopeR number s r → FoundR number σ τ → EnteredR (record { scope = s; parameters = ps; wanted = wanted; found = σ }) (record { scope = r; parameters = takings_to number ps; wanted = if_some number wanted; found = τ })

  takings_on : (xs ys : List Taking) → takings_to number (xs ++ ys) ≡ takings_to number xs ++ takings_to number ys
  takings_on [] ys = refl
  takings_on (x ∷ xs) ys = ap (λ zs. taking_to number x ∷ zs) (takings_on xs ys)

  pub leaving_alike : (n : ℕ) (xs : List ℕ) (t u : Size) → u ≡ to t → AnswerR (SizeR number) (leaving n xs t) (leaving n xs u)
  unfolding leaving
  leaving_alike n xs t u e = subst (λ x. AnswerR (SizeR number) (leaving n xs t) (leaving n xs x)) (sym e)
      (cond_are (AnswerR (SizeR number)) (takes (names_one xs) t) (takes (names_one xs) (to t)) (takes_same number (names_one xs) t) refuses (gives (replaced_to number (renaming (leave n xs)) 0 t)))

  pub leaving_function_alike : (n : ℕ) (parts : List ℕ) (ps : List Taking) (t u : Size) → u ≡ to t → AnswerR (SizeR number) (leaving_function n parts ps t) (leaving_function n parts (takings_to number ps) u)
  leaving_function_alike n parts [] t u e = leaving_alike n parts t u e
  leaving_function_alike n parts (p ∷ ps) t u e = cond_are (AnswerR (SizeR number)) (has (names_one parts) p.size) (has (names_one parts) (to p.size)) (has_same number (names_one parts) p.size) refuses (leaving_function_alike n parts ps t u e)

  -- ---- loops

  mutual
    unfolding lacking

    lacking_to : (n : ℕ) (ds : List ℕ) (i : ℕ) (t : Size) → (M N : Names) (types others : Sub) → lacking N others n ds i (to t) ≡ to (lacking M types n ds i t)
    lacking_to n ds i (Level d t) M N types others = ap (Level (lacking_dim M types n ds i d)) (lacking_to n ds (suc i) t M N types others)
    lacking_to n ds i (Built h ts) M N types others = ap (Built (renumbered_head number h)) (all_lacking_to n ds i ts M N types others)
    lacking_to n ds i t M N types others = refl

    all_lacking_to : (n : ℕ) (ds : List ℕ) (i : ℕ) (ts : Sizes) → (M N : Names) (types others : Sub) → all_lacking N others n ds i (tos ts) ≡ tos (all_lacking M types n ds i ts)
    all_lacking_to n ds i no_size M N types others = refl
    all_lacking_to n ds i (size_and t ts) M N types others = λ j. size_and (lacking_to n ds i t M N types others j) (((λ k. all_lacking N others n ds (levels_same number t k + i) (tos ts)) ∙ all_lacking_to n ds (levels t + i) ts M N types others) j)

  mutual
    unfolding differing

    differing_same : (ds : List ℕ) (i : ℕ) (t u : Size) → (M N : Names) (types others : Sub) → differing N others ds i (to t) (to u) ≡ differing M types ds i t u
    differing_same ds i (Level d t) (Level e u) M N types others = ap (differing_level M types ds i d e) (differing_same ds (suc i) t u M N types others)
    differing_same ds i (Built h ts) (Built g us) M N types others = all_differing_same ds i ts us M N types others
    differing_same ds i t u M N types others = refl

    all_differing_same : (ds : List ℕ) (i : ℕ) (ts us : Sizes) → (M N : Names) (types others : Sub) → all_differing N others ds i (tos ts) (tos us) ≡ all_differing M types ds i ts us
    all_differing_same ds i (size_and t ts) (size_and u us) M N types others = λ j. differing_same ds i t u M N types others j ++ ((λ k. all_differing N others ds (levels_same number t k + i) (tos ts) (tos us)) ∙ all_differing_same ds (levels t + i) ts us M N types others) j
    all_differing_same ds i ts us M N types others = refl

  module _ (M N : Names) (types others : Sub) (n : ℕ) where
    another_alike : (ls : List ℕ) (t u : Size) → u ≡ to t → {x y : Step Size} → StepR number (SizeR number) x y → StepR number (SizeR number) (another M types n ls t x) (another N others n ls u y)
    another_alike [] t u e h s r z = gives (done e z)
    another_alike (l ∷ ls) t u e h s r z = h _ _ (drop_state number n (l ∷ ls) z)

    -- the levels that a loop keeps so far
    kept_levels : (t u : Size) → u ≡ to t → (s r : State) → StateR number s r → lacking N others n (r.dropped n) 0 u ≡ to (lacking M types n (s.dropped n) 0 t)
    kept_levels t u e s r z = (λ i. lacking N others n (z.dropped i n) 0 (e i)) ∙ lacking_to n (s.dropped n) 0 t M N types others

    pub turns_alike : (left : ℕ) (t u : Size) → u ≡ to t → {turn other : Size → Step Size} → ((x y : Size) → y ≡ to x → StepR number (SizeR number) (turn x) (other y)) → StepR number (SizeR number) (turns_from M types left n t turn) (turns_from N others left n u other)
    unfolding turns_from
    turns_alike zero t u e h s r z = gives (done (kept_levels t u e s r z) z)
    turns_alike (suc left) t u e {turn} {other} h s r z = then_step _ _ (h (lacking M types n (s.dropped n) 0 t) (lacking N others n (r.dropped n) 0 u) (kept_levels t u e s r z) s r z) (λ x y s3 r3 q z3.
        subst (λ ls. AnswerR (DoneR number (SizeR number)) (another M types n (differing M types (s.dropped n) 0 (lacking M types n (s.dropped n) 0 t) x) (lacking M types n (s.dropped n) 0 t) (turns_from M types left n t turn) s3) (another N others n ls (lacking N others n (r.dropped n) 0 u) (turns_from N others left n u other) r3))
        (sym ((λ i. differing N others (z.dropped i n) 0 (kept_levels t u e s r z i) (q i)) ∙ differing_same (s.dropped n) 0 (lacking M types n (s.dropped n) 0 t) x M N types others))
        (another_alike (differing M types (s.dropped n) 0 (lacking M types n (s.dropped n) 0 t) x) (lacking M types n (s.dropped n) 0 t) (lacking N others n (r.dropped n) 0 u) (kept_levels t u e s r z) (turns_alike left t u e h) s3 r3 z3))

  field_alike : (o : Option Size) (f g : Size → Step (Unit {0})) → ((x : Size) → StepR number One (f x) (g (to x))) → StepR number One (field_noted o f) (field_noted (if_some number o) g)
  field_alike (Some t) f g h s r z = h t s r z
  field_alike None f g h s r z = gives (done refl z)

  pub row_to : (M N : Names) (types others : Sub) (t : Size) → row_of N others (to t) ≡ to (row_of M types t)
  row_to M N types others (Level d t) = refl
  row_to M N types others t = refl

  -- ---- parts of terms

  pub data PartR : Part → Part → Type 0 where
    applies : {t : Size} {regular : Bool} {xs ys : List Argument} → ArgumentsR number xs ys → PartR (Applied t regular xs) (Applied (to t) regular ys)
    waits : {f g : Option Want → Found → Step Met} → WaitingR number f g → PartR (Waiting f) (Waiting g)

  pub whole_alike : {t u : Size} → u ≡ to t → PartR (whole t) (whole u)
  whole_alike {t} {u} e = subst (λ x. PartR (whole t) (whole x)) (sym e) (applies no_arguments)

  pub with_head_alike : (M N : Names) (types others : Sub) (bs : List ℕ) (s r : Scope) → ScopeR number s r → ScopeR number (with_head M types bs s) (with_head N others bs r)
  with_head_alike M N types others [] s r h = h
  with_head_alike M N types others (b ∷ bs) s r h = with_head_alike M N types others bs (with_name b i64_size s) (with_name b i64_size r) (with_name_alike number b i64_size i64_size refl s r h)

module _ (M N : Names) (m : AreNames M) (n : AreNames N) (number : ℕ → ℕ) (renumbers : Renumbers M N number) (types others : Sub) (count : ℕ) (typed : (k : ℕ) → k < count → others k ≡ renumbered_type number (types k)) where
  abbrev go : Size → Size
  go = renumbered number

  type_at : (dims : ℕ → Dim) (k : ℕ) → k < count → of_type dims 0 (others k) ≡ go (of_type dims 0 (types k))
  type_at dims k lt = ap (of_type dims 0) (typed k lt) ∙ of_type_to number dims 0 (types k)

  pub plain_at : (k : ℕ) → k < count → of_type (no_size_of k) 0 (others k) ≡ go (of_type (no_size_of k) 0 (types k))
  plain_at k lt = type_at (no_size_of k) k lt

  mutual
    in_pattern_to : (p : FlatPattern) (t : Size) → in_pattern N others p (go t) ≡ go (in_pattern M types p t)
    in_pattern_to (Typed_pattern p e) t = ap (in_pattern N others p) (parameter_size_to M N m n number renumbers same_dim e t) ∙ in_pattern_to p (parameter_size M same_dim e t)
    in_pattern_to (Tuple_pattern ps) (Built h ts) = ap (Built (renumbered_head number h)) (in_patterns_to ps ts)
    in_pattern_to p t = refl

    in_patterns_to : (ps : Patterns Ref BindId) (ts : Sizes) → in_patterns N others ps (all_renumbered number ts) ≡ all_renumbered number (in_patterns M types ps ts)
    in_patterns_to (pattern_and p ps) (size_and t ts) = λ i. size_and (in_pattern_to p t i) (in_patterns_to ps ts i)
    in_patterns_to ps ts = refl

  entered_alike : (p : FlatPattern) (q : ℕ) (t u : Size) → u ≡ go t → (rest : Option Size) (other : Option Size) → other ≡ if_some number rest → {σ τ : Found} → FoundR number σ τ → {E F : Entered} → EnteredR number E F
      → AnswerR (EnteredR number) (entered M types p q t rest σ E) (entered N others p q u other τ F)
  entered_alike p q t u e rest other o {σ} {τ} f (enters {s = s} {r = r} {ps = ps} h g) =
      then_are _ _ (bound_alike M N m n number renumbers [] q p (in_pattern M types p t) (in_pattern N others p u) (ap (in_pattern N others p) e ∙ in_pattern_to p t) s r h)
      (λ a b k. gives (subst (λ (x : Entered). EnteredR number (record { scope = a.scope; parameters = ps ++ record { pattern = p; node = q; size = in_pattern M types p t } ∷ []; wanted = rest; found = σ }) (record { scope = b.scope; parameters = x.parameters; wanted = x.wanted; found = τ }))
      (λ i. record {
        scope = s;
        parameters = (takings_on number ps (record { pattern = p; node = q; size = in_pattern M types p t } ∷ []) ∙ (λ j. takings_to number ps ++ record { pattern = p; node = q; size = sym (ap (in_pattern N others p) e ∙ in_pattern_to p t) j } ∷ [])) i;
        wanted = sym o i;
        found = σ;
      })
      (enters k.scope f)))

  enter_alike : (lo : ℕ) (p : FlatPattern) (q : ℕ) → q < count → (w : Option Size) {E F : Entered} → EnteredR number E F → AnswerR (EnteredR number) (enter M types lo p q w E) (enter N others lo p q (if_some number w) F)
  enter_alike lo p q lt (Some (Fun k t x)) {E} {F} h =
      let f : FoundR number E.found F.found = found_of h in
      cond_are (AnswerR (EnteredR number)) (is_open t) (is_open (go t)) (is_open_same number t)
      (entered_alike p q (own_sizes M types q) (own_sizes N others q) (type_at (λ i. At (Own_size q i)) q lt) (Some (in_opened (inside (open_frame p q k) none_opened) x)) (Some (in_opened (inside (open_frame p q k) none_opened) (go x))) (ap Some (in_opened_to number (inside (open_frame p q k) none_opened) x)) f h)
      (wanted_alike (in_opened (inside (parameter_frame p q k) none_opened) t) (in_opened (inside (parameter_frame p q k) none_opened) (go t)) (in_opened_to number (inside (parameter_frame p q k) none_opened) t) (in_opened (inside (parameter_frame p q k) none_opened) x) (in_opened (inside (parameter_frame p q k) none_opened) (go x)) (in_opened_to number (inside (parameter_frame p q k) none_opened) x) f)
    where
      found_of : {E F : Entered} → EnteredR number E F → FoundR number E.found F.found
      found_of (enters s f) = f

      wanted_alike : (t u : Size) → u ≡ go t → (x y : Size) → y ≡ go x → FoundR number E.found F.found → AnswerR (EnteredR number) (enter_wanted M types lo p q t x E) (enter_wanted N others lo p q u y F)
      wanted_alike t u e x y g f = then_are _ _
          (subst (λ (z : Size × Size). AnswerR (FoundR number) (meet lo data_way lo none_opened (in_pattern M types p t) none_opened t E.found) (meet lo data_way lo none_opened z.0 none_opened z.1 F.found)) (λ i. (sym (ap (in_pattern N others p) e ∙ in_pattern_to p t) i, sym e i))
          (meet_alike number lo data_way lo none_opened (in_pattern M types p t) none_opened t f))
          (λ a b k. entered_alike p q t u e (Some x) (Some y) (ap Some g) k h)
  enter_alike lo p q lt w (enters {wanted = wanted} h f) = entered_alike p q (own_sizes M types q) (own_sizes N others q) (type_at (λ i. At (Own_size q i)) q lt) None None refl f (enters {wanted = wanted} h f)

  pub all_entered_alike : (lo : ℕ) (ps : Patterns Ref BindId) (q : ℕ) → q + all_pattern_numbers ps ≤ count → {E F : Entered} → EnteredR number E F → AnswerR (EnteredR number) (all_entered M types lo ps q E) (all_entered N others lo ps q F)
  all_entered_alike lo no_pattern q le h = gives h
  all_entered_alike lo (pattern_and p ps) q le {E} (enters {wanted = wanted} h f) = let some : 0 < pattern_numbers p = pattern_some p in then_are _ _ (enter_alike lo p q (omega (arith, le, some)) wanted (enters h f)) (λ a b k. all_entered_alike lo ps (q + pattern_numbers p) (omega (arith, le)) k)

  pub matched_alike : (lo : ℕ) (w : Option Want) (t u : Size) → u ≡ go t → {σ τ : Found} → FoundR number σ τ → AnswerR (MetR number) (matched M types lo w t σ) (matched N others lo (want_to number w) u τ)
  unfolding matched
  matched_alike lo (Some w) t u e {σ} {τ} h = then_are _ _ (subst (λ x. AnswerR (FoundR number) (meet w.node (function_way w.is_regular) lo none_opened w.size none_opened t σ) (meet w.node (function_way w.is_regular) lo none_opened (go w.size) none_opened x τ)) (sym e) (meet_alike number w.node (function_way w.is_regular) lo none_opened w.size none_opened t h)) (λ a b g. gives (met_with number e refl g))
  matched_alike lo None t u e h = gives (met_with number e refl h)

  -- ---- uses

  used_at : (lo : ℕ) → lo < count → (t : Size) → used lo (others lo) (go t) ≡ go (used lo (types lo) t)
  used_at lo lt t = ap (λ u. used lo u (go t)) (typed lo lt) ∙ used_to number lo (types lo) t

  use_known_to : (lo : ℕ) → lo < count → (o : Option Known) → use_known N others lo (known_to number o) ≡ go (use_known M types lo o)
  use_known_to lo lt (Some k) = by_test k.is_general
    where
      by_test : (b : Bool) → cond b (used lo (others lo) (go k.size)) (go k.size) ≡ go (cond b (used lo (types lo) k.size) k.size)
      by_test true = used_at lo lt k.size
      by_test false = refl
  use_known_to lo lt None = plain_at lo lt

  pub use_alike : (lo : ℕ) → lo < count → (s r : Scope) → ScopeR number s r → (x : Ref) → PartR number (use_of M types lo s x) (use_of N others lo r x)
  use_alike lo lt s r h (ref.Bound b) = whole_alike number (ap (use_known N others lo) (h b.0) ∙ use_known_to lo lt (s b.0))
  use_alike lo lt s r h (ref.Prim p) = subst (λ x. PartR number (Applied (used lo (types lo) (prim_size p)) (is_regular p) []) (Applied x (is_regular p) [])) (sym (ap (used lo (others lo)) (prim_size_to number p) ∙ used_at lo lt (prim_size p))) (applies no_arguments)
  use_alike lo lt s r h (ref.Scalar x) = whole_alike number (plain_at lo lt)

  -- ---- what is noted

  mutual
    unfolding pattern_noted

    noted_as : (p : FlatPattern) (q : ℕ) (t : Size) → StepR number One (pattern_noted M types p q t) (pattern_noted N others p q (go t))
    noted_as (Typed_pattern p e) q t s r z = subst (λ x. AnswerR (DoneR number One) (pattern_noted M types p q (coerced M e t) s) (pattern_noted N others p q x r)) (sym (coerced_to M N m n number renumbers e t)) (noted_as p q (coerced M e t) s r z)
    noted_as (Tuple_pattern ps) q (Built h ts) s r z = all_noted_as ps (1 + q) ts _ _ (note_state number q (Built h ts) (go (Built h ts)) refl z)
    noted_as (Tuple_pattern ps) q t s r z = gives (done refl (note_state number q t (go t) refl z))
    noted_as (Record_pattern fs ps) q t s r z = fields_noted_as fs ps (1 + q) t _ _ (note_state number q t (go t) refl z)
    noted_as (Bound_pattern b) q t s r z = gives (done refl (note_state number q t (go t) refl z))
    noted_as Wild_pattern q t s r z = gives (done refl (note_state number q t (go t) refl z))

    all_noted_as : (ps : Patterns Ref BindId) (q : ℕ) (ts : Sizes) → StepR number One (patterns_noted M types ps q ts) (patterns_noted N others ps q (all_renumbered number ts))
    all_noted_as (pattern_and p ps) q (size_and t ts) s r z = then_step _ _ (noted_as p q t s r z) (λ a b s2 r2 k z2. all_noted_as ps (q + pattern_numbers p) ts s2 r2 z2)
    all_noted_as (pattern_and p ps) q no_size s r z = gives (done refl z)
    all_noted_as no_pattern q ts s r z = gives (done refl z)

    fields_noted_as : (fs : List Text) (ps : Patterns Ref BindId) (q : ℕ) (t : Size) → StepR number One (fields_noted M types fs ps q t) (fields_noted N others fs ps q (go t))
    fields_noted_as (f ∷ fs) (pattern_and p ps) q t s r z = then_step _ _
        (subst (λ o. AnswerR (DoneR number One) (field_noted (part_of M f t) (pattern_noted M types p q) s) (field_noted o (pattern_noted N others p q) r)) (sym (part_of_to M N m n number renumbers f t))
        (field_alike number (part_of M f t) (pattern_noted M types p q) (pattern_noted N others p q) (λ x. noted_as p q x) s r z)) (λ a b s2 r2 k z2. fields_noted_as fs ps (q + pattern_numbers p) t s2 r2 z2)
    fields_noted_as (f ∷ fs) no_pattern q t s r z = gives (done refl z)
    fields_noted_as [] ps q t s r z = gives (done refl z)

  pub pattern_alike : (p : FlatPattern) (q : ℕ) (t u : Size) → u ≡ go t → StepR number One (pattern_noted M types p q t) (pattern_noted N others p q u)
  pattern_alike p q t u e s r z = subst (λ x. AnswerR (DoneR number One) (pattern_noted M types p q t s) (pattern_noted N others p q x r)) (sym e) (noted_as p q t s r z)

  pub parameters_alike : (ps : List Taking) → StepR number One (parameters_noted M types ps) (parameters_noted N others (takings_to number ps))
  parameters_alike [] s r z = gives (done refl z)
  parameters_alike (p ∷ ps) s r z = then_step _ _ (noted_as p.pattern p.node p.size s r z) (λ a b s2 r2 k z2. parameters_alike ps s2 r2 z2)

  -- ---- what an application notes

  note_of : (n : ℕ) (t u : Size) → u ≡ go t → {σ τ : Found} → FoundR number σ τ → quantified (all_settled u τ).maker (read (all_settled u τ) u) ≡ go (quantified (all_settled t σ).maker (read (all_settled t σ) t))
  note_of n t u e {σ} {τ} h = let k : FoundR number (all_settled t σ) (all_settled (go t) τ) = settled_alike number t h in
      ap (λ x. quantified (all_settled x τ).maker (read (all_settled x τ) x)) e
      ∙ (λ i. quantified (maker_same number k i) (read_to number k t i))
      ∙ quantified_to number (all_settled t σ).maker (read (all_settled t σ) t)

  all_noted_alike : (ls : List Later) {σ τ : Found} → FoundR number σ τ → StepR number One (all_noted M types ls σ) (all_noted N others (laters_to number ls) τ)
  all_noted_alike [] h s r z = gives (done refl z)
  all_noted_alike (l ∷ ls) {σ} {τ} h s r z = all_noted_alike ls (settled_alike number l.size h) _ _ (note_state number l.node (quantified (all_settled l.size σ).maker (read (all_settled l.size σ) l.size)) (quantified (all_settled (go l.size) τ).maker (read (all_settled (go l.size) τ) (go l.size))) (note_of l.node l.size (go l.size) refl h) z)

  pub met_noted_alike : (k : ℕ) {a b : Met} → MetR number a b → StepR number (SizeR number) (met_noted M types k a) (met_noted N others k b)
  met_noted_alike k (met {size = size} {σ = σ} {τ = τ} {later = later} {goes_on = goes_on} h) s r z =
      let w : FoundR number (all_settled size σ) (all_settled (go size) τ) = settled_alike number size h in
      then_step _ _ (all_noted_alike later w s r z) (λ a b s2 r2 g z2.
      note_step number k _ _ ((λ i. closed goes_on (maker_same number w i) (read_to number w size i)) ∙ closed_to number (all_settled size σ).maker goes_on (read (all_settled size σ) size)) s2 r2 z2)

  pub finished_alike : (lo : ℕ) {x y : Part} → PartR number x y → StepR number (SizeR number) (finished M types lo x) (finished N others lo y)
  finished_alike lo (applies {t = t} {regular = regular} args) s r z = then_step _ _ (applied_alike number lo regular args no_wantings none_opened true t [] (nothing_alike number) s r z) (λ a b s2 r2 g z2. met_noted_alike lo g s2 r2 z2)
  finished_alike lo (waits w) s r z = then_step _ _ (w None nothing_found nothing_found (nothing_alike number) s r z) (λ a b s2 r2 g z2. note_met g s2 r2 z2)
    where
      note_met : {a b : Met} → MetR number a b → (s r : State) → StateR number s r → AnswerR (DoneR number (SizeR number)) (note lo a.size s) (note lo b.size r)
      note_met (met {size = size} h) s r z = note_step number lo size (go size) refl s r z

  pub as_argument_alike : (lo : ℕ) (e : FlatTerm) {x y : Part} → PartR number x y → StepR number (ArgumentR number) (as_argument M types lo e x) (as_argument N others lo e y)
  as_argument_alike lo e (applies {t = t} {regular = regular} no_arguments) s r z =
      then_step _ _ (cond_are (StepR number (SizeR number)) (is_use e) (is_use e) refl (give_step number refl) (note_step number lo t (go t) refl) s r z) (λ a b s2 r2 g z2. gives (done (early_as (named_value e) (is_use e) g) z2))
    where
      early_as : (v : _) (b : Bool) {t u : Size} → u ≡ go t → ArgumentR number (Early lo v b t) (Early lo v b u)
      early_as v b {t} {u} g = subst (λ x. ArgumentR number (Early lo v b t) (Early lo v b x)) (sym g) early
  as_argument_alike lo e (applies {t = t} {regular = regular} (more_arguments h args)) s r z =
      then_step _ _ (finished_alike lo (applies {regular = regular} (more_arguments h args)) s r z) (λ a b s2 r2 g z2. gives (done (subst (λ x. ArgumentR number (Early lo None false a) (Early lo None false x)) (sym g) early) z2))
  as_argument_alike lo e (waits w) s r z = gives (done (late w) z)

  pub with_argument_alike : {x y : Part} → PartR number x y → {a b : Argument} → ArgumentR number a b → StepR number (PartR number) (with_argument M types x a) (with_argument N others y b)
  with_argument_alike (applies args) h s r z = gives (done (applies (arguments_on number args (more_arguments h no_arguments))) z)
  with_argument_alike (waits w) {a} {b} h s r z = then_step _ _ (w None nothing_found nothing_found (nothing_alike number) s r z) (λ c d s2 r2 g z2. gives (done (of_met g) z2))
    where
      of_met : {c d : Met} → MetR number c d → PartR number (Applied c.size false (a ∷ [])) (Applied d.size false (b ∷ []))
      of_met (met g) = applies (more_arguments h no_arguments)

  -- ---- lets

  pub general_alike : (p : FlatPattern) (t u : Size) → u ≡ go t → (s r : Scope) → ScopeR number s r → ScopeR number (with_general M types p t s) (with_general N others p u r)
  general_alike (Bound_pattern b) t u e s r h = with_known_alike number b.0 true t u e s r h
  general_alike p t u e s r h = h

  pub let_scope_alike : (b : Binding Ref BindId) (at : ℕ) (t u : Size) → u ≡ go t → (s r : Scope) → ScopeR number s r → AnswerR (ScopeR number) (let_scope M types b at t s) (let_scope N others b at u r)
  let_scope_alike b at t u e s r h = cond_are (AnswerR (ScopeR number)) b.is_function b.is_function refl (gives (general_alike b.pattern t u e s r h)) (then_are _ _ (bound_alike M N m n number renumbers b.sizes at b.pattern t u e s r h) (λ k l g. gives g.scope))

  pub second_alike : (o : Operation Ref BindId) (lo : ℕ) (ts us : Sizes) → us ≡ all_renumbered number ts → StepR number One (second_noted M types o lo ts) (second_noted N others o lo us)
  second_alike o lo ts us e = subst (λ vs. StepR number One (second_noted M types o lo ts) (second_noted N others o lo vs)) (sym e) (second o ts)
    where
      second : (o : Operation Ref BindId) (ts : Sizes) → StepR number One (second_noted M types o lo ts) (second_noted N others o lo (all_renumbered number ts))
      second (Binary op) (size_and t ts) s r z = gives (done refl (note_state number (1 + lo) t (go t) refl z))
      second (Project f) (size_and t ts) s r z = gives (done refl (note_state number (1 + lo) t (go t) refl z))
      second o ts s r z = gives (done refl z)

  pub pattern_name_alike : (p : FlatPattern) (t u : Size) → u ≡ go t → (s r : Scope) → ScopeR number s r → ScopeR number (with_pattern_name M types p t s) (with_pattern_name N others p u r)
  pattern_name_alike (Bound_pattern b) t u e s r h = with_name_alike number b.0 t u e s r h
  pattern_name_alike p t u e s r h = h

  pub wanted_as_alike : (k : ℕ) (t u : Size) → u ≡ go t → {x y : Part} → PartR number x y → StepR number (SizeR number) (wanted_as M types k t x) (wanted_as N others k u y)
  wanted_as_alike k t u e (applies args) s r z = gives (done e z)
  wanted_as_alike k t u e (waits {f = f} {g = g} w) s r z = then_step _ _
      (subst (λ x. AnswerR (DoneR number (MetR number)) (f (Some (record { node = k; is_regular = false; size = t })) nothing_found s) (g (Some (record { node = k; is_regular = false; size = x })) nothing_found r)) (sym e)
      (w (Some (record { node = k; is_regular = false; size = t })) nothing_found nothing_found (nothing_alike number) s r z)) (λ a b s2 r2 h z2. gives (done (size_of h) z2))
    where
      size_of : {a b : Met} → MetR number a b → b.size ≡ go a.size
      size_of (met h) = refl
