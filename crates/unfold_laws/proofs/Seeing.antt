-- Names with what is known of them: where more definitions are known, and behind a pattern.
use Rattle.std.proofs.Common.{◌≡◌, ℕ, zero, suc, ◌+◌, ◌≤◌, ◌<◌, refl, sym, ap, ◌∙◌, subst, arith, List, [], ◌∷◌, map, length, Bool, true, false, Option, Some, None}
use mathlib.Core.Logic.{◌⊎◌, inl, inr}
use native.Mathlib.Decide.{ℕ_discrete}
use Rattle.fut_meaning.specs.Found.{Told, Sizing}
use Rattle.fut_scalar.specs.declared.place.BindId.{BindId}
use Rattle.fut_ast.specs.Sorts.{Text}
use Rattle.fut_flat.specs.declared.prim.Ref.{Ref}
use Rattle.fut_flat.specs.Terms.{Parameter, Size_parameter, Type_parameter, Bound_pattern, Wild_pattern, Tuple_pattern, Record_pattern, Typed_pattern, Patterns, no_pattern, pattern_and}
use Rattle.fut_flat.specs.Numbers.{pattern_numbers}
use Rattle.fut_flat.specs.Erased.{FlatPattern}
use Rattle.fut_types.specs.declared.Kind.{Kind}
use Rattle.fut_types.specs.declared.Head.TheVariants as head
use Rattle.fut_types.specs.Types.{Ty, Made, Tys, none, more, Sub, Kinds}
use Rattle.fut_typing.specs.Names.{Names, AreNames, Parts_named, count}
use Rattle.fut_typing.specs.Primitives.{i64_ty}
use Rattle.fut_typing.specs.Scopes.{Uses, Scope, with_uses, with_type, with_sizes, the_one, this_type}
use Rattle.fut_typing.specs.Patterns.{pattern_types, with_pattern, with_patterns, with_parameters, Pattern_typed, Patterns_typed}
use Rattle.fut_typing.proofs.Local.{AllLocal, Agree}
use Rattle.fut_blocks.specs.declared.block.Atom.{Atom}
use Rattle.fut_blocks.specs.declared.block.Atom.TheVariants as atom
use Rattle.fut_blocks.specs.declared.block.Operation.TheVariants as operation
use Rattle.fut_blocks.specs.Numbered.{Upward}
use Rattle.fut_blocks.specs.Plain.{Action, Operate}
use Rattle.fut_blocks.specs.Plain as act
use Rattle.type_soundness.specs.Fits.{widest}
use Rattle.fut_meaning.specs.Uses.{is_size_in}
use Rattle.type_soundness.specs.Formed.{Are_sizes, Heads_sized, Pattern_apart, Patterns_apart}
use Rattle.unfold.proofs.Locals.{found_here, found_on}
use Rattle.unfold.specs.Knowns.{Known, Scalar_known, Tuple_known, Record_known, Knowns, Known_fields, Scope as Seen, name_and, listed, find, local, local_by, record_parts}
use Rattle.unfold.specs.Telling.{enter}
use Rattle.unfold.specs.Unfolding.{Bindings, step, names, named, Binds, b_bound, b_wild, b_tuple, b_parts, b_record, b_fields, b_typed, All_bind, b_none, b_more}
use Rattle.unfold_laws.specs.Fits.{Given, Bound, World, types_of, Learns, Comes, All_data, Fits, All_fit, Name_fits, Names_fit}
use Rattle.unfold_laws.specs.Entered.{All_in_known}
use Rattle.unfold_laws.specs.Typed.{Are, Stands, Act_typed, any_types}
use Rattle.unfold_laws.proofs.Entered.{entered_as, named_entered}
use Rattle.unfold_laws.proofs.Fitting.{some_same, find_learns, stands_learn, fits_learn, fits_stand, fits_data, data_fits}
use Rattle.unfold_laws.proofs.Recording.{Each_fits, each_learn, each_listed, record_parts_fit, known_parts_fit, component_parts}
use Rattle.unfold_laws.proofs.Shaping.{tuple_is}
use Rattle.unfold_laws.proofs.Telling.{enter_all}
use Rattle.unfold_laws.proofs.TypedSteps.{comes_none, comes_then, comes_step, stand_are, names_length}

-- a pattern binds its names, whatever they stand before
abbrev pub Bindable : FlatPattern → Known → Type 0
Bindable p s = (sizes : Option Sizing) (q : ℕ) (sc : Seen) (n : ℕ) → (inner : Seen) × (bs : Bindings) × (m : ℕ) × Binds sizes q p s sc n bs inner m

abbrev All_bindable : Patterns Ref BindId → List Known → Type 0
All_bindable ps ss = (sizes : Option Sizing) (q : ℕ) (sc : Seen) (n : ℕ) → (inner : Seen) × (bs : Bindings) × (m : ℕ) × All_bind sizes q ps ss sc n bs inner m

-- so many new names
some_names : (k n : ℕ) → (xs : List ℕ) × (m : ℕ) × Upward n xs m × (length xs ≡ k)
some_names zero n = ([], n, (let z : n ≤ n = omega arith in z), refl)
some_names (suc k) n = let r = some_names k (suc n) in (n ∷ r.0, r.1, ((let z : n ≤ n = omega arith in z), r.2), ap suc r.3)

module _ (N : Names) (T : Told) (P : ℕ → Type 0) (K : Kinds) where
  pub names_learn : (world world' : World) → Learns N K world world' → (scope : Scope) (a : Sub) (sc : Seen) → Names_fit N T world P scope K a sc → Names_fit N T world' P scope K a sc
  names_learn world world' g scope a sc h = (entered_as _ _ (stands_learn N T K world world' g) sc h.0, λ b p t u. learnt b t (is_size_in T.sizes b) (h.1 b p t u))
    where
      learnt : (b : ℕ) (t : Ty) (is : Bool) → Name_fits N T K world t (find world.0 sc b) is → Name_fits N T K world' t (find world'.0 sc b) is
      learnt b t true e = e
      learnt b t false r = (r.0, find_learns world.0 world'.0 g.0 sc b r.0 r.1, fits_learn N T K t world world' g r.0 r.2)

  -- types of other numbers do not matter
  pub names_move : (world : World) (scope : Scope) (lo : ℕ) (a a' : Sub) (sc : Seen) → AllLocal (λ n. n < lo) scope → Agree (λ n. n < lo) a' a → Names_fit N T world P scope K a sc → Names_fit N T world P scope K a' sc
  names_move world scope lo a a' sc all same h = (h.0, λ b p t u. h.1 b p t (all b K a' a t same u))

  -- names of sizes: what is bound stays as it is
  names_sized : (world : World) (b : BindId) (scope : Scope) (a : Sub) (sc : Seen) → is_size_in T.sizes b.0 ≡ true → Names_fit N T world P scope K a sc → Names_fit N T world P (with_uses b.0 (this_type i64_ty) scope) K a sc
  names_sized world b scope a sc is h = (
    h.0,
    λ n p t. elim (ℕ_discrete n b.0) as (λ d. (elim d as (λ d. Uses) [ yes e ↦ this_type i64_ty | no ne ↦ scope.uses n ]) K a t → Name_fits N T K world t (find world.0 sc n) (is_size_in T.sizes n)) [
      | yes e ↦ λ u. subst (Name_fits N T K world t (find world.0 sc n)) (sym (ap (is_size_in T.sizes) e ∙ is)) u
      | no ne ↦ h.1 n p t
    ],
  )

  pub names_sizes : (world : World) (bs : List BindId) (scope : Scope) (a : Sub) (sc : Seen) → Are_sizes (is_size_in T.sizes) bs → Names_fit N T world P scope K a sc → Names_fit N T world P (with_sizes bs scope) K a sc
  names_sizes world [] scope a sc s h = h
  names_sizes world (b ∷ bs) scope a sc s h = names_sizes world bs (with_uses b.0 (this_type i64_ty) scope) a sc s.1 (names_sized world b scope a sc s.0 h)

  pub names_types : (world : World) (ps : List (Parameter BindId)) (c : Sub) (scope : Scope) (a : Sub) (sc : Seen) → Heads_sized (is_size_in T.sizes) ps → Names_fit N T world P scope K a sc → Names_fit N T world P (with_parameters ps c scope) K a sc
  names_types world [] c scope a sc s h = h
  names_types world (Size_parameter b ∷ ps) c scope a sc s h = names_types world ps c (with_uses b.0 (this_type i64_ty) scope) a sc s.1 (names_sized world b scope a sc s.0 h)
  names_types world (Type_parameter b lifted ∷ ps) c scope a sc s h = names_types world ps c (with_type b.0 (c b.0) scope) a sc s h

  -- names are found where something was entered as before
  pub entered_fit : (z : Option Sizing) (world : World) (q : ℕ) (s : Known) (scope : Scope) (a : Sub) (sc : Seen) → All_in_known (Stands (types_of N K world.1)) s → Names_fit N T world P scope K a sc → Names_fit N T world P scope K a (enter z q s sc)
  unfolding find local local_by
  entered_fit None world q s scope a sc k h = h
  entered_fit (Some Z) world q s scope a sc k h = (enter_all (Stands (types_of N K world.1)) (Some Z) q s sc k h.0, h.1)

  pub names_enter : (world : World) (q : ℕ) (t : Ty) (s : Known) (scope : Scope) (a : Sub) (sc : Seen) → Fits N T K t world s → Names_fit N T world P scope K a sc → Names_fit N T world P scope K a (enter T.sizes q s sc)
  names_enter world q t s scope a sc k h = entered_fit T.sizes world q s scope a sc (fits_stand N T K world t s k) h

  module _ (a : Sub) where
    abbrev At : World → Ty → Known → Type 0
    At world t s = Fits N T K t world s

    abbrev Sees : World → Scope → Seen → Type 0
    Sees world scope sc = Names_fit N T world P scope K a sc

    pub name_fits : (world : World) (b : BindId) (v : Known) (u : Uses) (scope : Scope) (sc : Seen) → is_size_in T.sizes b.0 ≡ false → ((t : Ty) → u K a t → At world t v) → Sees world scope sc → Sees world (with_uses b.0 u scope) (name_and b v sc)
    name_fits world b v u scope sc apart here rest = (
      named_entered _ b v sc rest.0,
      λ n p t. elim (ℕ_discrete n b.0) as (λ d. (elim d as (λ d. Uses) [ yes e ↦ u | no ne ↦ scope.uses n ]) K a t → Name_fits N T K world t (find world.0 (name_and b v sc) n) (is_size_in T.sizes n)) [
        | yes e ↦ λ h. subst (Name_fits N T K world t (find world.0 (name_and b v sc) n)) (sym (ap (is_size_in T.sizes) e ∙ apart)) (v, found_here world.0 b v sc n (sym e), here t h)
        | no ne ↦ λ h. subst (λ o. Name_fits N T K world t o (is_size_in T.sizes n)) (sym (found_on world.0 b v sc n (λ e. ne (sym e)))) (rest.1 n p t h)
      ],
    )

    pub same_fits : (world : World) (t u : Ty) (s : Known) → t ≡ u → At world t s → At world u s
    same_fits world t u s e h = subst (λ x. At world x s) e h

    tuple_known_parts : (world : World) (ts : Tys) (t : Ty) (ss : Knowns) → t ≡ Made head.Tuple ts → At world t (Tuple_known ss) → Each_fits N T K world ts (listed ss)
    unfolding Fits
    tuple_known_parts world ts t ss e h = let k : At world (Made head.Tuple ts) (Tuple_known ss) = same_fits world t (Made head.Tuple ts) (Tuple_known ss) e h in each_listed N T K world ts ss k.1

    tuple_component : (world : World) (ts : Tys) (t : Ty) (w : Atom) → t ≡ Made head.Tuple ts → At world t (Scalar_known w) → All_data N ts × types_of N K world.1 w (Made head.Tuple ts)
    unfolding Fits
    tuple_component world ts t w e h = same_fits world t (Made head.Tuple ts) (Scalar_known w) e h

    abbrev Tuple_parts : World → Tys → Known → Type 0
    Tuple_parts world ts s = ((w : Atom) × (s ≡ Scalar_known w) × All_data N ts) ⊎ ((ss : Knowns) × (s ≡ Tuple_known ss) × Each_fits N T K world ts (listed ss))

    tuple_parts : (world : World) (ts : Tys) (t : Ty) (s : Known) → t ≡ Made head.Tuple ts → At world t s → Tuple_parts world ts s
    unfolding Fits
    tuple_parts world ts t s e h =
        let k : At world (Made head.Tuple ts) s = same_fits world t (Made head.Tuple ts) s e h in
        elim (tuple_is (λ u. All_data N ts × types_of N K world.1 u (Made head.Tuple ts)) (λ ss. (count ts < widest) × All_fit N T K ts world ss) s k) as (λ d. Tuple_parts world ts s) [ inl r ↦ inl (r.0, r.1, r.2.0) | inr r ↦ inr (r.0, r.1, each_listed N T K world ts r.0 r.2.1) ]

    -- names of parts that are data
    named_each : (world : World) (ts : Tys) (xs : List ℕ) → All_data N ts → Are (types_of N K world.1) (names xs) ts → Each_fits N T K world ts (map named xs)
    unfolding All_data
    named_each world none [] d h = tt
    named_each world none (x ∷ xs) d h = absurd h
    named_each world (more t ts) [] d h = absurd h
    named_each world (more t ts) (x ∷ xs) d h = (data_fits N T K t world (atom.Name x) d.0 h.0, named_each world ts xs d.1 h.1)

    -- with new ones
    given_each : (world : World) (ts : Tys) (xs : List ℕ) → All_data N ts → length xs ≡ count ts → Each_fits N T K (world.0, Given (names xs) ts ∷ world.1) ts (map named xs)
    given_each world ts xs d e = named_each (world.0, Given (names xs) ts ∷ world.1) ts xs d (stand_are (types_of N K (Given (names xs) ts ∷ world.1)) (names xs) ts (λ u t h. inl h) (names_length xs ∙ e))

    step_each : (world : World) (ts : Tys) (xs : List ℕ) (b : Action) → All_data N ts → Act_typed N K any_types b (types_of N K world.1) ts → length xs ≡ count ts → Comes N K world (step xs b) (λ there. Each_fits N T K there ts (map named xs))
    step_each world ts xs b d h e =
        comes_step N K world xs b ts (λ there. Each_fits N T K there ts (map named xs)) h e
        (named_each (world.0, Bound xs b ∷ world.1) ts xs d (stand_are (types_of N K (Bound xs b ∷ world.1)) (names xs) ts (λ u t s. inl (ts, (tt, h), s)) (names_length xs ∙ e)))

    bound_length : (ps : Patterns Ref BindId) (lo : ℕ) (xs : List ℕ) {sizes : Option Sizing} {q : ℕ} {sc inner : Seen} {n m : ℕ} {bs : Bindings} → All_bind sizes q ps (map named xs) sc n bs inner m → length xs ≡ count (pattern_types a ps lo)
    bound_length no_pattern lo [] b = refl
    bound_length no_pattern lo (x ∷ xs) b = elim b [ ]
    bound_length (pattern_and p ps) lo [] b = elim b [ ]
    bound_length (pattern_and p ps) lo (x ∷ xs) (b_more b bs) = let r : length xs ≡ count (pattern_types a ps (lo + pattern_numbers p)) = bound_length ps (lo + pattern_numbers p) xs bs in omega (arith, r)

    tuple_binds : (world : World) (ps : Patterns Ref BindId) (ts : Tys) (s : Known) → ((there : World) (ss : List Known) → Each_fits N T K there ts ss → All_bindable ps ss) → Tuple_parts world ts s → Bindable (Tuple_pattern ps) s
    tuple_binds world ps ts s each (inl (w, e, d)) = subst (Bindable (Tuple_pattern ps)) (sym e) (λ sizes k sc n. let x = some_names (count ts) n in let q = each _ (map named x.0) (given_each world ts x.0 d x.3) sizes (1 + k) (enter sizes k (Scalar_known w) sc) x.1 in (q.0, _, q.2, b_parts x.0 x.2 q.3))
    tuple_binds world ps ts s each (inr (ss, e, h)) = subst (Bindable (Tuple_pattern ps)) (sym e) (λ sizes k sc n. let q = each world (listed ss) h sizes (1 + k) (enter sizes k (Tuple_known ss) sc) n in (q.0, q.1, q.2, b_tuple q.3))

    abbrev Record_parts : World → List Text → Tys → Known → Type 0
    Record_parts world names us s = ((w : Atom) × (s ≡ Scalar_known w) × All_data N us) ⊎ ((fs : Known_fields) × (s ≡ Record_known fs) × ((ss : List Known) × (record_parts names fs ≡ Some ss) × Each_fits N T K world us ss))

    record_binds : (world : World) (names : List Text) (ps : Patterns Ref BindId) (us : Tys) (s : Known) → length names ≡ count us → ((there : World) (ss : List Known) → Each_fits N T K there us ss → All_bindable ps ss) → Record_parts world names us s → Bindable (Record_pattern names ps) s
    record_binds world names ps us s long each (inl (w, e, d)) = subst (Bindable (Record_pattern names ps)) (sym e) (λ sizes k sc n. let x = some_names (length names) n in let q = each _ (map named x.0) (given_each world us x.0 d (x.3 ∙ long)) sizes (1 + k) (enter sizes k (Scalar_known w) sc) x.1 in (q.0, _, q.2, b_fields x.0 x.2 x.3 q.3))
    record_binds world names ps us s long each (inr (fs, e, r)) = subst (Bindable (Record_pattern names ps)) (sym e) (λ sizes k sc n. let q = each world r.0 r.2 sizes (1 + k) (enter sizes k (Record_known fs) sc) n in (q.0, q.1, q.2, b_record r.1 q.3))

    named_count : (names : List Text) (t : Ty) (us : Tys) → Parts_named N names t us → length names ≡ count us
    named_count [] t none h = refl
    named_count [] t (more u us) h = absurd h
    named_count (f ∷ names) t none h = absurd h
    named_count (f ∷ names) t (more u us) h = let r : length names ≡ count us = named_count names t us h.1 in omega (arith, r)

    module _ (are : AreNames N) (places : Kind) where
      mutual
        pub bindable : (p : FlatPattern) (lo : ℕ) (inside : Scope) (world : World) (s : Known) → Pattern_typed N places K a p lo inside → At world (a lo) s → Bindable p s
        bindable (Bound_pattern b) lo inside world s typed h sizes k sc n = (name_and b s (enter sizes k s sc), [], n, b_bound)
        bindable Wild_pattern lo inside world s typed h sizes k sc n = (enter sizes k s sc, [], n, b_wild)
        bindable (Tuple_pattern ps) lo inside world s typed h sizes k sc n =
            tuple_binds world ps (pattern_types a ps (1 + lo)) s (λ there ss e. all_bindable ps (1 + lo) inside there ss typed.0 e) (tuple_parts world (pattern_types a ps (1 + lo)) (a lo) s typed.1 h) sizes k sc n
        bindable (Record_pattern names ps) lo inside world s typed h sizes k sc n =
            record_binds world names ps (pattern_types a ps (1 + lo)) s (named_count names (a lo) (pattern_types a ps (1 + lo)) typed.1.named) (λ there ss e. all_bindable ps (1 + lo) inside there ss typed.0 e) (record_parts_fit N T K world are names (a lo) (pattern_types a ps (1 + lo)) s typed.1 h) sizes k sc n
        bindable (Typed_pattern p t) lo inside world s typed h sizes k sc n = let q = bindable p lo inside world s typed.0 h sizes k sc n in (q.0, q.1, q.2, b_typed q.3)

        all_bindable : (ps : Patterns Ref BindId) (lo : ℕ) (inside : Scope) (world : World) (ss : List Known) → Patterns_typed N places K a ps lo inside → Each_fits N T K world (pattern_types a ps lo) ss → All_bindable ps ss
        all_bindable no_pattern lo inside world [] typed h sizes k sc n = (sc, [], n, b_none)
        all_bindable no_pattern lo inside world (s ∷ ss) typed h sizes k sc n = absurd h
        all_bindable (pattern_and p ps) lo inside world [] typed h sizes k sc n = absurd h
        all_bindable (pattern_and p ps) lo inside world (s ∷ ss) typed h sizes k sc n =
            let q = bindable p lo inside world s typed.0 h.0 sizes k sc n in
            let r = all_bindable ps (lo + pattern_numbers p) inside world ss typed.1 h.1 sizes (k + pattern_numbers p) q.0 q.2 in (r.0, _, r.2, b_more q.3 r.3)

      -- its steps are typed, and its names are known by their types
      mutual
        unfolding Act_typed

        pub binds_fit : (p : FlatPattern) (lo : ℕ) (inside scope : Scope) (world : World) (s : Known) (q : ℕ) (sc inner : Seen) (n m : ℕ) (bs : Bindings) → Pattern_apart (is_size_in T.sizes) p → Pattern_typed N places K a p lo inside → At world (a lo) s → Sees world scope sc → Binds T.sizes q p s sc n bs inner m → Comes N K world bs (λ there. Sees there (with_pattern the_one p lo scope) inner)
        binds_fit (Bound_pattern b) lo inside scope world s q sc _ _ _ _ apart typed h rest b_bound =
            comes_none N K world (λ there. Sees there (with_uses b.0 (the_one lo) scope) (name_and b s (enter T.sizes q s sc))) (name_fits world b s (the_one lo) scope (enter T.sizes q s sc) apart (λ t e. same_fits world (a lo) t s (sym e) h) (names_enter world q (a lo) s scope a sc h rest))
        binds_fit Wild_pattern lo inside scope world s q sc _ _ _ _ apart typed h rest b_wild = comes_none N K world (λ there. Sees there scope (enter T.sizes q s sc)) (names_enter world q (a lo) s scope a sc h rest)
        binds_fit (Tuple_pattern ps) lo inside scope world _ q sc inner n m bs apart typed h rest (b_tuple {ss = ss} b) =
            all_binds_fit ps (1 + lo) inside scope world (listed ss) (1 + q) (enter T.sizes q (Tuple_known ss) sc) inner n m bs apart typed.0 (tuple_known_parts world (pattern_types a ps (1 + lo)) (a lo) ss typed.1 h) (names_enter world q (a lo) (Tuple_known ss) scope a sc h rest) b
        binds_fit (Tuple_pattern ps) lo inside scope world _ q sc inner n m _ apart typed h rest (b_parts {u = u} {k = k} {bs = bs} xs up b) =
            let d = tuple_component world (pattern_types a ps (1 + lo)) (a lo) u typed.1 h in
            comes_then N K world (step xs (Operate (operation.Parts u))) bs (λ there. Each_fits N T K there (pattern_types a ps (1 + lo)) (map named xs)) (λ there. Sees there (with_patterns the_one ps (1 + lo) scope) inner)
            (step_each world (pattern_types a ps (1 + lo)) xs (Operate (operation.Parts u)) d.0 d.1 (bound_length ps (1 + lo) xs b))
            (λ C g e. all_binds_fit ps (1 + lo) inside scope (world.0, C) (map named xs) (1 + q) (enter T.sizes q (Scalar_known u) sc) inner k m bs apart typed.0 e (names_learn world (world.0, C) g scope a (enter T.sizes q (Scalar_known u) sc) (names_enter world q (a lo) (Scalar_known u) scope a sc h rest)) b)
        binds_fit (Record_pattern names ps) lo inside scope world _ q sc inner n m bs apart typed h rest (b_record {known = fs} {ss = ss} e b) =
            let r = known_parts_fit N T K world are names (a lo) (pattern_types a ps (1 + lo)) fs typed.1 h in
            all_binds_fit ps (1 + lo) inside scope world ss (1 + q) (enter T.sizes q (Record_known fs) sc) inner n m bs apart typed.0 (subst (Each_fits N T K world (pattern_types a ps (1 + lo))) (some_same (sym r.1 ∙ e)) r.2) (names_enter world q (a lo) (Record_known fs) scope a sc h rest) b
        binds_fit (Record_pattern names ps) lo inside scope world _ q sc inner n m _ apart typed h rest (b_fields {u = u} {k = k} {bs = bs} xs up l b) =
            let d = component_parts N T K world are names (a lo) (pattern_types a ps (1 + lo)) u typed.1 h in
            comes_then N K world (step xs (act.Read (act.Fields_at names) (u ∷ []))) bs (λ there. Each_fits N T K there (pattern_types a ps (1 + lo)) (map named xs)) (λ there. Sees there (with_patterns the_one ps (1 + lo) scope) inner)
            (step_each world (pattern_types a ps (1 + lo)) xs (act.Read (act.Fields_at names) (u ∷ [])) d (more (a lo) none, ((fits_data N T K (a lo) world u h).1, tt), typed.1) (bound_length ps (1 + lo) xs b))
            (λ C g e. all_binds_fit ps (1 + lo) inside scope (world.0, C) (map named xs) (1 + q) (enter T.sizes q (Scalar_known u) sc) inner k m bs apart typed.0 e (names_learn world (world.0, C) g scope a (enter T.sizes q (Scalar_known u) sc) (names_enter world q (a lo) (Scalar_known u) scope a sc h rest)) b)
        binds_fit (Typed_pattern p t) lo inside scope world s q sc inner n m bs apart typed h rest (b_typed b) = binds_fit p lo inside scope world s q sc inner n m bs apart typed.0 h rest b

        all_binds_fit : (ps : Patterns Ref BindId) (lo : ℕ) (inside scope : Scope) (world : World) (ss : List Known) (q : ℕ) (sc inner : Seen) (n m : ℕ) (bs : Bindings) → Patterns_apart (is_size_in T.sizes) ps → Patterns_typed N places K a ps lo inside → Each_fits N T K world (pattern_types a ps lo) ss → Sees world scope sc → All_bind T.sizes q ps ss sc n bs inner m → Comes N K world bs (λ there. Sees there (with_patterns the_one ps lo scope) inner)
        all_binds_fit no_pattern lo inside scope world _ q sc _ _ _ _ apart typed h rest b_none = comes_none N K world (λ there. Sees there scope sc) rest
        all_binds_fit (pattern_and p ps) lo inside scope world _ q sc inner n m _ apart typed h rest (b_more {s = s} {ss = ss} {sc' = sc'} {k = k} {bs = bs} {cs = cs} b rs) =
            comes_then N K world bs cs (λ there. Sees there (with_pattern the_one p lo scope) sc') (λ there. Sees there (with_patterns the_one ps (lo + pattern_numbers p) (with_pattern the_one p lo scope)) inner) (binds_fit p lo inside scope world s q sc sc' n k bs apart.0 typed.0 h.0 rest b)
            (λ C g sees. all_binds_fit ps (lo + pattern_numbers p) inside (with_pattern the_one p lo scope) (world.0, C) ss (q + pattern_numbers p) sc' inner k m cs apart.1 typed.1 (each_learn N T K world (world.0, C) g (pattern_types a ps (lo + pattern_numbers p)) ss h.1) sees rs)
