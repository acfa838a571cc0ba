-- Functions written in a term are of their sized types.
use Rattle.sized_meaning.specs.There.{There}
use Rattle.std.specs.Prelude.{ℤ, pos}
use Rattle.std.proofs.Common.{◌≡◌, ◌⊎◌, ℕ, ◌+◌, ◌-◌, ◌<◌, ◌≤◌, suc, List, [], ◌∷◌, Bool, true, false, cond, nat_eq, Option, Some, None, refl, sym, ap, ◌∙◌, subst, arith, inl, inr, eq-eqb, eqb-true}
use Rattle.std.proofs.lemmas.Bool.{eqb-false}
use Rattle.fut_scalar.specs.declared.place.BindId.{BindId}
use Rattle.fut_flat.specs.declared.prim.Ref.{Ref}
use Rattle.fut_flat.specs.Numbers.{pattern_numbers, all_pattern_numbers}
use Rattle.fut_flat.specs.Terms.{Bound_pattern, Wild_pattern, Tuple_pattern, Record_pattern, Typed_pattern, Patterns, no_pattern, pattern_and}
use Rattle.fut_flat.specs.Erased.{FlatTerm, FlatPattern}
use Rattle.fut_types.specs.Types.{Sub}
use Rattle.fut_typing.specs.Names.{Names}
use Rattle.fut_value.specs.Data.{Shape}
use Rattle.fut_meaning.specs.Accessors.{bound}
use Rattle.fut_meaning.specs.Flats.{FlatValue, FlatEnv}
use Rattle.fut_meaning.specs.Places.{size_place, type_place, size_of, at_path}
use Rattle.fut_meaning.specs.Found.{Found, result_shape, number, shape_found, told_shape, with_data}
use Rattle.fut_meaning.specs.Telling.{found, closure_tells, nodes_from, tells}
use Rattle.fut_meaning.specs.Outcomes.{Val}
use Rattle.fut_meaning.specs.Values.{Closure, Evaluate, Call}
use Rattle.sized_types.specs.Sizes.{Free, Const, Name, Own, Unknown, Slot, Dim, At, Bound, Variable, Size, Hole, Open, Level, Built, Fun, Sizes, no_size, size_and, replaced, all_replaced, has, some_has, given, renaming, opened, renamed}
use Rattle.sized_types.specs.Standing.{stands, has_hole}
use Rattle.fut_sizes.specs.Agreeing.{left, leave, is_among, names_one}
use Rattle.fut_sizes.specs.Functions.{value_name}
use Rattle.fut_sizes.specs.Scopes.{i64_size, names}
use Rattle.fut_sizes.specs.Scoping.{Context, with_positions, with_pattern}
use Rattle.fut_sizes.specs.Sizing.{part_names, all_part_names}
use Rattle.fut_sizes.specs.Suiting.{Each, Each_all, Scoped, Of_positions, Data}
use Rattle.fut_sizes.specs.Rules.{Any_free, Inside, Away, Each_hole, Binder, Tells_size, Tells_type, Telling, Takes, Sized, Named_value}
use Rattle.sized_meaning.specs.Worth.{Worth, free, no_frames, push}
use Rattle.sized_meaning.specs.Shapes.{Meant, Has_shape}
use Rattle.sized_meaning.specs.Finding.{One_kind_each, Well_formed}
use Rattle.sized_meaning.specs.Entered.{Is_found, Type_is_found}
use Rattle.sized_meaning.specs.Fits.{Out_fits, Gives, word, Flat_result, Known_result, Told_right, Tells_right, Fits}
use Rattle.sized_meaning.specs.Law.{Sound, Name_home, Simple, All_simple, Leaves, World, told, means, calls, Beyond as Out_beyond, Named_at, Env_fits, Result as Res}
use Rattle.sized_meaning.proofs.Named.{On_free, each_named}
use Rattle.sized_meaning.proofs.Ways.{gives_as}
use Rattle.sized_meaning.proofs.Outcomes.{gives_exact, gives_then}
use Rattle.sized_meaning.proofs.Reading.{flat_result_replaced, each_and, each_replaced, each_as, each_data, each_hole_as, data_replaced, shape_same, shape_opened, opened_shape, shape_renamed_in, fits_same, fits_opened, opened_fits, fits_renamed}
use Rattle.sized_meaning.proofs.Suiting.{a_function}
use Rattle.sized_meaning.proofs.Known.{known_low, known_cases, told_here}
use Rattle.sized_meaning.proofs.Flats.{always_right, always_opened, closure_always}
use Rattle.sized_meaning.proofs.Finding.{some_same, none_no, some_place, some_else, data_formed, data_reads, size_placed, type_placed}
use Rattle.sized_meaning.proofs.Datas.{shaped_data}
use Rattle.sized_meaning.proofs.Entered.{data_right, told_found}
use Rattle.sized_meaning.proofs.Applications.{evaluates}
use Rattle.sized_meaning.proofs.Environments.{outside_narrower, apart, env_moves, env_positions}
use Rattle.sized_meaning.proofs.Patterns.{among_first, among_later, named_by, others_keep, Names_worth, names_inside, beyond_unnamed, names_worth, nodes_away, enters}
use Rattle.sized_meaning.proofs.Lets.{names_leave}

-- what stands at a position
or_worth : (ℕ → ℕ) → ℕ → Option ℕ → ℕ
or_worth F n None = n
or_worth F n (Some i) = F i

placed_as : (Free → Option ℕ) → (ℕ → ℕ) → Worth → Worth
placed_as position F m d = or_worth F (m d) (position d)

-- parts of a parameter are worth what they are; a parameter that is a name is worth what its position is
abbrev pub parts_by : FlatPattern → FlatValue → Worth → Worth
parts_by (Bound_pattern b) v m = m
parts_by (Typed_pattern p t) v m = parts_by p v m
parts_by p v m = named_by p v m

parts_else : (p : FlatPattern) (v : FlatValue) (m : Worth) (d : Free) → names_one (part_names p) (At d) ≡ false → parts_by p v m d ≡ m d
parts_else (Bound_pattern b) v m d e = refl
parts_else (Typed_pattern p t) v m d e = parts_else p v m d e
parts_else Wild_pattern v m d e = refl
parts_else (Tuple_pattern ps) v m d e = others_keep (Tuple_pattern ps) v m d e
parts_else (Record_pattern fs ps) v m d e = others_keep (Record_pattern fs ps) v m d e

part_among : (p : FlatPattern) (c : ℕ) → is_among (part_names p) c ≡ true → is_among (names p) c ≡ true
part_among (Bound_pattern b) c e = absurd (let z : false ≡ true = e in cc)
part_among (Typed_pattern p t) c e = part_among p c e
part_among Wild_pattern c e = e
part_among (Tuple_pattern ps) c e = e
part_among (Record_pattern fs ps) c e = e

unnamed_as : (xs ys : List ℕ) → ((c : ℕ) → is_among xs c ≡ false → is_among ys c ≡ false) → (d : Free) → names_one xs (At d) ≡ false → names_one ys (At d) ≡ false
unnamed_as xs ys sub (Name c) e = sub c e
unnamed_as xs ys sub (Const c) e = refl
unnamed_as xs ys sub (Own n i) e = refl
unnamed_as xs ys sub (Unknown n i) e = refl
unnamed_as xs ys sub (Slot i) e = refl

-- ---- what holds of a dim wherever it stands
module _ (P : Dim → Type 0) where
  mutual
    unfolding Each Each_all

    each_shift : (t : Size) (j j' : ℕ) → Each (λ j d. P d) j t → Each (λ j d. P d) j' t
    each_shift (Hole v) j j' e = tt
    each_shift (Open n v u) j j' e = tt
    each_shift (Level d t) j j' e = (e.0, each_shift t j j' e.1)
    each_shift (Built h ts) j j' e = all_each_shift ts j j' e
    each_shift (Fun k p r) j j' e = (each_shift p (suc j) (suc j') e.0, each_shift r (suc j) (suc j') e.1)

    all_each_shift : (ts : Sizes) (j j' : ℕ) → Each_all (λ j d. P d) j ts → Each_all (λ j d. P d) j' ts
    all_each_shift no_size j j' e = tt
    all_each_shift (size_and t ts) j j' e = (each_shift t j j' e.0, all_each_shift ts j j' e.1)

module _ (ok ok' : ℕ → Dim → Type 0) (g : ℕ → Dim → Dim) (turn : (j : ℕ) (d : Dim) → ok' j (g j d) → ok j d) where
  mutual
    unfolding Each Each_all replaced all_replaced

    each_from : (t : Size) (j : ℕ) → Each ok' j (replaced g j t) → Each ok j t
    each_from (Hole v) j e = tt
    each_from (Open n v u) j e = tt
    each_from (Level d t) j e = (turn j d e.0, each_from t j e.1)
    each_from (Built h ts) j e = all_each_from ts j e
    each_from (Fun k p r) j e = (each_from p (suc j) e.0, each_from r (suc j) e.1)

    all_each_from : (ts : Sizes) (j : ℕ) → Each_all ok' j (all_replaced g j ts) → Each_all ok j ts
    all_each_from no_size j e = tt
    all_each_from (size_and t ts) j e = (each_from t j e.0, all_each_from ts j e.1)

module _ (xs : List ℕ) where
  not_first : (a b : Bool) → cond a true b ≡ false → (a ≡ false) × (b ≡ false)
  not_first true b e = absurd (let z : true ≡ false = e in cc)
  not_first false b e = (refl, e)

  mutual
    unfolding Each Each_all has some_has

    unnamed_each : (t : Size) (j : ℕ) → has (names_one xs) t ≡ false → Each (λ j d. names_one xs d ≡ false) j t
    unnamed_each (Hole v) j e = tt
    unnamed_each (Open n v u) j e = tt
    unnamed_each (Level d t) j e = let b = not_first (names_one xs d) (has (names_one xs) t) e in (b.0, unnamed_each t j b.1)
    unnamed_each (Built h ts) j e = all_unnamed_each ts j e
    unnamed_each (Fun k p r) j e = let b = not_first (has (names_one xs) p) (has (names_one xs) r) e in (unnamed_each p (suc j) b.0, unnamed_each r (suc j) b.1)

    all_unnamed_each : (ts : Sizes) (j : ℕ) → some_has (names_one xs) ts ≡ false → Each_all (λ j d. names_one xs d ≡ false) j ts
    all_unnamed_each no_size j e = tt
    all_unnamed_each (size_and t ts) j e = let b = not_first (has (names_one xs) t) (some_has (names_one xs) ts) e in (unnamed_each t j b.0, all_unnamed_each ts j b.1)

  -- in a part under a frame, and of what stands at the frame's positions
  named_position : (inside : ℕ → Free) (j : ℕ) (d : Dim) → names_one xs (given inside j d) ≡ false → (names_one xs d ≡ false) × Of_positions (λ i. names_one xs (At (inside i)) ≡ false) j d
  named_position inside j (At d) e = (e, tt)
  named_position inside j (Bound k i) e = (refl, λ z. subst (λ b. names_one xs (cond b (At (inside i)) (Bound k i)) ≡ false) (eq-eqb (suc k) j z) e)

  unnamed_inside : (inside : ℕ → Free) (t : Size) → Each (λ j d. names_one xs d ≡ false) 1 (opened inside t) → Each (λ j d. (names_one xs d ≡ false) × Of_positions (λ i. names_one xs (At (inside i)) ≡ false) j d) 1 t
  unnamed_inside inside t e = each_from (λ j d. (names_one xs d ≡ false) × Of_positions (λ i. names_one xs (At (inside i)) ≡ false) j d) (λ j d. names_one xs d ≡ false) (given inside) (named_position inside) t 1 e

-- ---- names that leave
module _ (lo : ℕ) where
  left_is : (i b : ℕ) (xs : List ℕ) → ((k : ℕ) × (left lo i xs b ≡ Unknown lo k)) ⊎ ((left lo i xs b ≡ Name b) × (is_among xs b ≡ false))
  left_is i b [] = inr (refl, refl)
  left_is i b (x ∷ xs) = tested (nat_eq b x) (left_is (suc i) b xs)
    where
      tested : (c : Bool) → ((k : ℕ) × (left lo (suc i) xs b ≡ Unknown lo k)) ⊎ ((left lo (suc i) xs b ≡ Name b) × (is_among xs b ≡ false))
          → ((k : ℕ) × (cond c (Unknown lo i) (left lo (suc i) xs b) ≡ Unknown lo k)) ⊎ ((cond c (Unknown lo i) (left lo (suc i) xs b) ≡ Name b) × (cond c true (is_among xs b) ≡ false))
      tested true r = inl (i, refl)
      tested false r = r

  none_stays : (xs : List ℕ) (d : Free) → names_one xs (At (leave lo xs d)) ≡ false
  none_stays xs (Const c) = refl
  none_stays xs (Own n i) = refl
  none_stays xs (Unknown n i) = refl
  none_stays xs (Slot i) = refl
  none_stays xs (Name b) = by_way (left_is 0 b xs)
    where
      by_way : ((k : ℕ) × (left lo 0 xs b ≡ Unknown lo k)) ⊎ ((left lo 0 xs b ≡ Name b) × (is_among xs b ≡ false)) → names_one xs (At (left lo 0 xs b)) ≡ false
      by_way (inl r) = subst (λ d. names_one xs (At d) ≡ false) (sym r.1) refl
      by_way (inr r) = subst (λ d. names_one xs (At d) ≡ false) (sym r.0) r.1

  dim_cleared : (xs : List ℕ) (j : ℕ) (d : Dim) → names_one xs (renaming (leave lo xs) j d) ≡ false
  dim_cleared xs j (At d) = none_stays xs d
  dim_cleared xs j (Bound k i) = refl

  mutual
    unfolding Each Each_all replaced all_replaced

    cleared : (xs : List ℕ) (t : Size) (j j' : ℕ) → Each (λ j d. names_one xs d ≡ false) j (replaced (renaming (leave lo xs)) j' t)
    cleared xs (Hole v) j j' = tt
    cleared xs (Open n v u) j j' = tt
    cleared xs (Level d t) j j' = (dim_cleared xs j' d, cleared xs t j j')
    cleared xs (Built h ts) j j' = all_cleared xs ts j j'
    cleared xs (Fun k p r) j j' = (cleared xs p (suc j) (suc j'), cleared xs r (suc j) (suc j'))

    all_cleared : (xs : List ℕ) (ts : Sizes) (j j' : ℕ) → Each_all (λ j d. names_one xs d ≡ false) j (all_replaced (renaming (leave lo xs)) j' ts)
    all_cleared xs no_size j j' = tt
    all_cleared xs (size_and t ts) j j' = (cleared xs t j j', all_cleared xs ts j j')

module _ (N : Names) (types : Sub) (τ : Meant) (W : World) (S : Sound N types W.sizing) (one : One_kind_each τ) where
  abbrev s : ℕ → Size
  s n = W.sizing.size_at n

  abbrev home : ℕ → ℕ
  home b = W.sizing.home b

  abbrev Env_of : ℕ → ℕ → Worth → Context → FlatEnv → Type 0
  Env_of lo hi m G env = Env_fits N types τ W lo hi m G env

  abbrev R_of : ℕ → ℕ → Worth → Size → FlatValue → Type 0
  R_of lo hi m t v = Res N types τ W lo hi m t v

  abbrev Beyond : ℕ → ℕ → Free → Type 0
  Beyond lo hi d = Out_beyond N types τ W lo hi d

  abbrev Of : Worth → Size → FlatValue → Type 0
  Of m t v = Fits N τ W.sizing W.is_there (calls W) m no_frames t v

  -- what names and nodes may be worth under an environment
  abbrev Worths : ℕ → ℕ → Context → FlatEnv → Type 0
  Worths lo hi G env = (m : Worth) × Env_of lo hi m G env

  abbrev All_results : ℕ → ℕ → Context → FlatEnv → Size → FlatValue → Type 0
  All_results lo hi G env t v = (w : Worths lo hi G env) → R_of lo hi w.0 t v

  -- ---- functions
  abbrev pub Body_law : FlatTerm → ℕ → ℕ → Type 0
  Body_law e at hi = (G : Context) (env : FlatEnv) (m : Worth) → Sized N types W.sizing.size_at W.sizing.home e at G → Env_of at hi m G env → Gives (There W.is_there) (R_of at hi m (s at)) (means W (Evaluate env at e))

  free_made : (lo hi : ℕ) (m : Worth) (d : Free) → Inside N types W.sizing.size_at W.sizing.home lo hi d → free m d ≡ m d
  free_made lo hi m (Const c) i = absurd i
  free_made lo hi m (Name b) i = refl
  free_made lo hi m (Own n k) i = refl
  free_made lo hi m (Unknown n k) i = refl
  free_made lo hi m (Slot k) i = absurd i

  in_front_of : (lo q hi : ℕ) → 1 + lo ≤ q → (d : Free) → Inside N types W.sizing.size_at W.sizing.home q hi d → Beyond lo (1 + lo) d
  in_front_of lo q hi l (Const c) i = absurd i
  in_front_of lo q hi l (Name b) i = λ j. let x = i.0 in let y = j.1 in omega (arith, x, y, l)
  in_front_of lo q hi l (Own n k) i = λ j. let x = i.0 in let y = j.1 in omega (arith, x, y, l)
  in_front_of lo q hi l (Unknown n k) i = λ j. let x = i.0 in let y = j.1 in omega (arith, x, y, l)
  in_front_of lo q hi l (Slot k) i = absurd i

  placed_none : (position : Free → Option ℕ) (F : ℕ → ℕ) (m : Worth) (d : Free) → position d ≡ None → placed_as position F m d ≡ m d
  unfolding placed_as or_worth
  placed_none position F m d e = ap (or_worth F (m d)) e

  placed_some : (position : Free → Option ℕ) (F : ℕ → ℕ) (m : Worth) (d : Free) (i : ℕ) → position d ≡ Some i → placed_as position F m d ≡ F i
  unfolding placed_as or_worth
  placed_some position F m d i e = ap (or_worth F (m d)) e

  none_or_some : (o : Option ℕ) → (o ≡ None) ⊎ ((i : ℕ) × (o ≡ Some i))
  none_or_some None = inl refl
  none_or_some (Some i) = inr (i, refl)

  named_is : (o : Option ℕ) (d : Free) (b : ℕ) → Named_value N types W.sizing.size_at W.sizing.home o d → o ≡ Some b → d ≡ Name b
  named_is (Some c) d b h e = h ∙ ap Name (some_same e)
  named_is None d b h e = none_no e

  home_there : (p : FlatPattern) (q : ℕ) → ((b : ℕ) → value_name p ≡ Some b → Inside N types W.sizing.size_at W.sizing.home q (q + pattern_numbers p) (Name b)) → Name_home W.sizing p q
  home_there (Bound_pattern b) q h = let i = h b.0 refl in let x = i.0 in let y = i.1 in omega (arith, x, y)
  home_there (Typed_pattern p t) q h = home_there p q h
  home_there p q h = tt

  parts_worth : (p : FlatPattern) (q : ℕ) (v : FlatValue) (m : Worth) → Name_home W.sizing p q → Simple W.sizing p q → ((b : ℕ) → value_name p ≡ Some b → word v ≡ m (Name b)) → Names_worth (parts_by p v m) p v
  parts_worth (Bound_pattern b) q v m h g worth = worth b.0 refl
  parts_worth (Typed_pattern p t) q v m h g worth = parts_worth p q v m h g worth
  parts_worth Wild_pattern q v m h g worth = tt
  parts_worth (Tuple_pattern ps) q v m h g worth = names_worth N types τ W (Tuple_pattern ps) q v m h g
  parts_worth (Record_pattern fs ps) q v m h g worth = names_worth N types τ W (Record_pattern fs ps) q v m h g

  pub i64_away : (lo hi : ℕ) → Away N types W.sizing.size_at W.sizing.home lo hi i64_size
  unfolding Each Each_all
  i64_away lo hi = tt

  module _ (lo at hi : ℕ) (p : FlatPattern) (q : ℕ) (u : Size) (B : Binder N types W.sizing.size_at W.sizing.home lo at hi p q u) (le : q + pattern_numbers p ≤ at) (le' : at ≤ hi) (m : Worth) (F : ℕ → ℕ) where
    abbrev Kept : Free → Type 0
    Kept d = (B.position d ≡ None) × Beyond at hi d × Beyond lo (1 + lo) d

    outside_still : (d : Free) → Beyond q hi d → placed_as B.position F m d ≡ m d
    outside_still d o = by_place (none_or_some (B.position d))
      where
        by_place : (B.position d ≡ None) ⊎ ((i : ℕ) × (B.position d ≡ Some i)) → placed_as B.position F m d ≡ m d
        by_place (inl e) = placed_none B.position F m d e
        by_place (inr e) = absurd (outside_narrower N types τ W q hi q (q + pattern_numbers p) (omega arith) (omega (arith, le, le')) d o (B.own d e.0 e.1))

    position_worth : (i : ℕ) → i ≤ B.chosen → F i ≡ free (placed_as B.position F m) (B.inside i)
    position_worth i l = sym (free_made q (q + pattern_numbers p) (placed_as B.position F m) (B.inside i) (B.own (B.inside i) i (B.placed i l)) ∙ placed_some B.position F m (B.inside i) i (B.placed i l))

    kept : Each (Scoped (λ d. (B.position d ≡ None) × Beyond at hi d × Beyond lo (1 + lo) d)) 1 B.from × Each (Scoped (λ d. (B.position d ≡ None) × Beyond at hi d × Beyond lo (1 + lo) d)) 1 B.to
    unfolding Each
    kept = subst (λ x. Each (Scoped (λ d. (B.position d ≡ None) × Beyond at hi d × Beyond lo (1 + lo) d)) 0 x) B.function B.kept

    -- the argument under what is then met
    taken : (v : FlatValue) → Fits N τ W.sizing W.is_there (calls W) m (push F no_frames) B.from v → Of (placed_as B.position F m) (s q) v
    taken v h = subst (λ x. Of (placed_as B.position F m) x v) (sym B.parameter)
        (fits_opened N τ (placed_as B.position F m) B.inside (λ i. i < B.chosen) (λ d. (B.position d ≡ None) × Beyond at hi d × Beyond lo (1 + lo) d) F B.from B.low kept.0 (λ i l. position_worth i (omega (arith, l))) W.sizing W.is_there (calls W) no_frames no_frames v
        (fits_same (λ d. (B.position d ≡ None) × Beyond at hi d × Beyond lo (1 + lo) d) m (placed_as B.position F m) N τ W.sizing W.is_there (calls W) (λ d k. sym (placed_none B.position F m d k.0)) B.from 1 (push F no_frames) (push F no_frames) kept.0 (λ j i l. refl) v h))

    abbrev Given_back : FlatValue → Type 0
    Given_back w = (F' : ℕ → ℕ) × ((i : ℕ) → i ≤ B.chosen → F' i ≡ F i) × Fits N τ W.sizing W.is_there (calls W) m (push F' no_frames) B.to w

    -- inside the function its parts are worth what they are: they stand nowhere in what it gives
    module _ (before : 1 + lo ≤ q) (parts : List ℕ) (sub : (c : ℕ) → is_among parts c ≡ false → is_among (part_names p) c ≡ false) (v : FlatValue) where
      abbrev inner : Worth
      inner = parts_by p v (placed_as B.position F m)

      inner_else : (d : Free) → names_one parts (At d) ≡ false → parts_by p v (placed_as B.position F m) d ≡ placed_as B.position F m d
      inner_else d e = parts_else p v (placed_as B.position F m) d (unnamed_as parts (part_names p) sub d e)

      back : (now : Worth) → ((d : Free) → Beyond at hi d → Beyond lo (1 + lo) d → now d ≡ parts_by p v (placed_as B.position F m) d) → (w : FlatValue) → Each (λ j d. names_one parts d ≡ false) 1 (opened B.inside B.to) → Of now (opened B.inside B.to) w → Given_back w
      back now old w unnamed h = (
        frame,
        agrees,
        fits_same (λ d. Kept d × (names_one parts (At d) ≡ false)) now m N τ W.sizing W.is_there (calls W) (λ d k. let x = k.0 in old d x.1 x.2 ∙ inner_else d k.1 ∙ placed_none B.position F m d x.0) B.to 1 (push frame no_frames) (push frame no_frames) all_kept (λ j i l. refl) w
            (opened_fits N τ now B.inside (λ i. names_one parts (At (B.inside i)) ≡ false) Kept frame B.to
            (each_as (λ j d. (names_one parts d ≡ false) × Of_positions (λ i. names_one parts (At (B.inside i)) ≡ false) j d) (Of_positions (λ i. names_one parts (At (B.inside i)) ≡ false)) (λ j d e. e.1) B.to 1 apart_here) kept.1 frame_is W.sizing W.is_there (calls W) no_frames no_frames w h),
      )
        where
          frame : ℕ → ℕ
          frame i = cond (names_one parts (At (B.inside i))) (F i) (free now (B.inside i))

          frame_is : (i : ℕ) → names_one parts (At (B.inside i)) ≡ false → cond (names_one parts (At (B.inside i))) (F i) (free now (B.inside i)) ≡ free now (B.inside i)
          frame_is i e = ap (λ b. cond b (F i) (free now (B.inside i))) e

          apart_here : Each (λ j d. (names_one parts d ≡ false) × Of_positions (λ i. names_one parts (At (B.inside i)) ≡ false) j d) 1 B.to
          apart_here = unnamed_inside parts B.inside B.to unnamed

          both_kept : (j : ℕ) (d : Dim) → Scoped Kept j d × ((names_one parts d ≡ false) × Of_positions (λ i. names_one parts (At (B.inside i)) ≡ false) j d) → Scoped (λ d. Kept d × (names_one parts (At d) ≡ false)) j d
          both_kept j (At d) e = (e.0, e.1.0)
          both_kept j (Bound k i) e = e.0

          all_kept : Each (Scoped (λ d. Kept d × (names_one parts (At d) ≡ false))) 1 B.to
          all_kept = each_as (λ j d. Scoped Kept j d × ((names_one parts d ≡ false) × Of_positions (λ i. names_one parts (At (B.inside i)) ≡ false) j d)) (Scoped (λ d. Kept d × (names_one parts (At d) ≡ false))) both_kept B.to 1
              (each_and (Scoped Kept) (λ j d. (names_one parts d ≡ false) × Of_positions (λ i. names_one parts (At (B.inside i)) ≡ false) j d) B.to 1 kept.1 apart_here)

          agrees : (i : ℕ) → i ≤ B.chosen → cond (names_one parts (At (B.inside i))) (F i) (free now (B.inside i)) ≡ F i
          agrees i l = tested (names_one parts (At (B.inside i))) refl
            where
              own : Inside N types W.sizing.size_at W.sizing.home q (q + pattern_numbers p) (B.inside i)
              own = B.own (B.inside i) i (B.placed i l)

              behind : Beyond at hi (B.inside i)
              behind = outside_narrower N types τ W (q + pattern_numbers p) hi at hi le (omega arith) (B.inside i) (apart N types τ W q (q + pattern_numbers p) hi (B.inside i) own)

              in_front : Beyond lo (1 + lo) (B.inside i)
              in_front = in_front_of lo q (q + pattern_numbers p) before (B.inside i) own

              tested : (b : Bool) → names_one parts (At (B.inside i)) ≡ b → cond b (F i) (free now (B.inside i)) ≡ F i
              tested true e = refl
              tested false e = free_made q (q + pattern_numbers p) now (B.inside i) own ∙ old (B.inside i) behind in_front ∙ inner_else (B.inside i) e ∙ placed_some B.position F m (B.inside i) i (B.placed i l)

    -- the shape of the argument, and that of the result
    shape_taken : (h : Shape) → Has_shape N τ m (push F no_frames) B.from h → Has_shape N τ (placed_as B.position F m) no_frames (s q) h
    shape_taken h x = subst (λ t. Has_shape N τ (placed_as B.position F m) no_frames t h) (sym B.parameter)
        (shape_opened N τ (placed_as B.position F m) B.inside (λ i. i < B.chosen) Kept F B.from B.low kept.0 (λ i l. position_worth i (omega (arith, l))) no_frames no_frames h
        (shape_same Kept m (placed_as B.position F m) N τ (λ d k. sym (placed_none B.position F m d k.0)) B.from 1 (push F no_frames) (push F no_frames) kept.0 (λ j i l. refl) h x))

    shape_back : Each (Of_positions (λ i. i < B.chosen)) 1 B.to → (h : Shape) → Has_shape N τ (placed_as B.position F m) no_frames (opened B.inside B.to) h → Has_shape N τ m (push F no_frames) B.to h
    shape_back names_low h x = shape_same Kept (placed_as B.position F m) m N τ (λ d k. placed_none B.position F m d k.0) B.to 1 (push F no_frames) (push F no_frames) kept.1 (λ j i l. refl) h
        (opened_shape N τ (placed_as B.position F m) B.inside (λ i. i < B.chosen) Kept F B.to names_low kept.1 (λ i l. position_worth i (omega (arith, l))) no_frames no_frames h x)

    -- what a function tells that wants this argument alone
    module _ (G : Context) (env : FlatEnv) (E : Env_of q hi m G env) (h : Shape) (hx : Has_shape N τ m (push F no_frames) B.from h) where
      abbrev V : Found
      V = with_data W.sizing.fields (s q) h (found W.sizing env)

      moved : Env_of q hi (placed_as B.position F m) G env
      moved = env_moves N types τ W q hi q hi m (placed_as B.position F m) G env (omega arith) (omega arith) outside_still E

      data_taken : Data (s q)
      data_taken = shaped_data N τ W.sizing.fields S.fields (placed_as B.position F m) no_frames (s q) h (S.formed q) (shape_taken h hx)

      data_from : Data B.from
      data_from = (data_replaced (given B.inside) B.from 1).1 (subst Data B.parameter data_taken)

      size_known : (d : Free) → Named_at N types τ W q hi d → (stands (s q) d ≡ true) ⊎ (G.finds d ≡ true) → (n : ℤ) × (V.size d ≡ Some n)
      size_known d k (inl e) = some_place (size_place W.sizing.fields (At d) (s q)) (λ p. pos (size_of (at_path p h))) ((found W.sizing env).size d) (size_placed W.sizing.fields d (s q) (S.formed q) e)
      size_known d k (inr e) = some_else (size_place W.sizing.fields (At d) (s q)) (λ p. pos (size_of (at_path p h))) ((found W.sizing env).size d) (E.finds d k e)

      dim_known : (d : Dim) → Scoped (Tells_size N types W.sizing.size_at W.sizing.home q G) 0 d × On_free (Named_at N types τ W q hi) d → Is_found V d
      dim_known (At (Const c)) w = tt
      dim_known (At (Name b)) w = size_known (Name b) w.1 w.0
      dim_known (At (Own n i)) w = size_known (Own n i) w.1 w.0
      dim_known (At (Unknown n i)) w = size_known (Unknown n i) w.1 w.0
      dim_known (At (Slot i)) w = size_known (Slot i) w.1 w.0
      dim_known (Bound k i) w = absurd (let z = w.0 in omega (arith, z))

      type_known : (a : Variable) → (has_hole (s q) a ≡ true) ⊎ (G.finds_types a ≡ true) → Type_is_found V a
      type_known a (inl e) = some_place (type_place W.sizing.fields a (s q)) (λ p. at_path p h) ((found W.sizing env).type a) (type_placed W.sizing.fields a (s q) (S.formed q) e)
      type_known a (inr e) = some_else (type_place W.sizing.fields a (s q)) (λ p. at_path p h) ((found W.sizing env).type a) (E.finds_types a e)

      told_body : (t : Size) → Data t → Well_formed W.sizing.fields t → Each (Scoped (Tells_size N types W.sizing.size_at W.sizing.home q G)) 0 t → Each (λ j. On_free (Named_at N types τ W q hi)) 0 t → Each_hole (Tells_type N types W.sizing.size_at W.sizing.home q G) t
          → Has_shape N τ (placed_as B.position F m) no_frames t (told_shape W.sizing.fields (number V) (shape_found V) t)
      told_body t d f sizes there holes = told_found N τ W.sizing (placed_as B.position F m) S.fields one S.names V
          (data_right N τ W.sizing (placed_as B.position F m) S.fields one no_frames (s q) h (found W.sizing env) (data_reads N τ (placed_as B.position F m) no_frames (s q) h (shape_taken h hx)) ((λ d n e. (moved.sizes_right d n e).0), moved.types_right))
          t (data_formed W.sizing.fields t d f) (each_data (λ j d. Scoped (Tells_size N types W.sizing.size_at W.sizing.home q G) j d × On_free (Named_at N types τ W q hi) d) (λ j x. Is_found V x) dim_known t d (each_and (Scoped (Tells_size N types W.sizing.size_at W.sizing.home q G)) (λ j. On_free (Named_at N types τ W q hi)) t 0 sizes there)) (each_hole_as (Tells_type N types W.sizing.size_at W.sizing.home q G) (Type_is_found V) type_known t holes)

    module _ (G : Context) (env : FlatEnv) (v : FlatValue) (E : Env_of q hi m G env) (eF : F B.chosen ≡ word v) (h : Fits N τ W.sizing W.is_there (calls W) m (push F no_frames) B.from v) (simple : Simple W.sizing p q) (parts : List ℕ) (sub : (c : ℕ) → is_among parts c ≡ false → is_among (part_names p) c ≡ false) (unnamed : has (names_one parts) (W.sizing.size_at q) ≡ false) where
      value_named : (b : ℕ) → value_name p ≡ Some b → B.inside B.chosen ≡ Name b
      value_named b e = named_is (value_name p) (B.inside B.chosen) b B.named e

      value_worth : (b : ℕ) → value_name p ≡ Some b → word v ≡ placed_as B.position F m (Name b)
      value_worth b e = sym eF ∙ position_worth B.chosen (omega arith) ∙ ap (free (placed_as B.position F m)) (value_named b e)

      at_home : Name_home W.sizing p q
      at_home = home_there p q (λ b e. subst (λ d. Inside N types W.sizing.size_at W.sizing.home q (q + pattern_numbers p) d) (value_named b e) (B.own (B.inside B.chosen) B.chosen (B.placed B.chosen (omega arith))))

      inner_beyond : (d : Free) → Beyond q hi d → parts_by p v (placed_as B.position F m) d ≡ m d
      inner_beyond d o = parts_else p v (placed_as B.position F m) d
          (beyond_unnamed N types τ W (part_names p) q (q + pattern_numbers p) (λ c e. names_inside N types τ W p q at_home simple c (part_among p c e)) d (outside_narrower N types τ W q hi q (q + pattern_numbers p) (omega arith) (omega (arith, le, le')) d o))
          ∙ outside_still d o

      fits_inside : Of (parts_by p v (placed_as B.position F m)) (s q) v
      fits_inside = fits_same (λ d. names_one parts (At d) ≡ false) (placed_as B.position F m) (parts_by p v (placed_as B.position F m)) N τ W.sizing W.is_there (calls W)
          (λ d e. sym (parts_else p v (placed_as B.position F m) d (unnamed_as parts (part_names p) sub d e))) (s q) 0 no_frames no_frames unnamed_here (λ j i l. refl) v (taken v h)
        where
          both : (j : ℕ) (d : Dim) → Scoped (Beyond (q + pattern_numbers p) hi) j d × (names_one parts d ≡ false) → Scoped (λ d. names_one parts (At d) ≡ false) j d
          both j (At d) e = e.1
          both j (Bound k i) e = e.0

          unnamed_here : Each (Scoped (λ d. names_one parts (At d) ≡ false)) 0 (s q)
          unnamed_here = each_as (λ j d. Scoped (Beyond (q + pattern_numbers p) hi) j d × (names_one parts d ≡ false)) (Scoped (λ d. names_one parts (At d) ≡ false)) both (s q) 0
              (each_and (Scoped (Beyond (q + pattern_numbers p) hi)) (λ j d. names_one parts d ≡ false) (s q) 0 B.away (unnamed_each parts (s q) 0 unnamed))

      entered_here : Out_fits (There W.is_there) (λ x. Env_of (q + pattern_numbers p) hi (parts_by p v (placed_as B.position F m)) (with_pattern W.sizing.size_at p q (with_positions B.position G)) x) (bound q p v env)
      entered_here =
          enters N types τ W S one (q + pattern_numbers p) hi (parts_by p v (placed_as B.position F m)) (λ d. d) (λ d. refl) p q (s q) v (with_positions B.position G) env at_home simple (omega arith)
          (nodes_away N types τ W (q + pattern_numbers p) hi (λ d. d) (λ d. refl) p q (s q) B.parts B.away) B.parts fits_inside (parts_worth p q v (placed_as B.position F m) at_home simple value_worth)
          (env_positions N types τ W q (q + pattern_numbers p) hi m G env B.position (omega (arith, le, le')) B.own E (i64_away (q + pattern_numbers p) hi) (parts_by p v (placed_as B.position F m)) inner_beyond (omega arith))

  entered_fits : (lo at hi : ℕ) (p : FlatPattern) (q : ℕ) (u : Size) (B : Binder N types W.sizing.size_at W.sizing.home lo at hi p q u) (le : q + pattern_numbers p ≤ at) (le' : at ≤ hi) (m : Worth) (F : ℕ → ℕ) (G : Context) (env : FlatEnv) (v : FlatValue) → Simple W.sizing p q → Env_of q hi m G env → F B.chosen ≡ word v → Fits N τ W.sizing W.is_there (calls W) m (push F no_frames) B.from v → (q' : ℕ) → q' ≡ q
      → (parts : List ℕ) → ((c : ℕ) → is_among parts c ≡ false → is_among (part_names p) c ≡ false) → has (names_one parts) (W.sizing.size_at q) ≡ false
      → Out_fits (There W.is_there) (λ x. Env_of (q + pattern_numbers p) hi (parts_by p v (placed_as B.position F m)) (with_pattern W.sizing.size_at p q (with_positions B.position G)) x) (bound q' p v env)
  entered_fits lo at hi p q u B le le' m F G env v simple E eF h q' e parts sub unnamed = subst (λ z. Out_fits (There W.is_there) (λ x. Env_of (q + pattern_numbers p) hi (parts_by p v (placed_as B.position F m)) (with_pattern W.sizing.size_at p q (with_positions B.position G)) x) (bound z p v env)) (sym e)
      (entered_here lo at hi p q u B le le' m F G env v E eF h simple parts sub unnamed)

  nothing_renamed : (lo : ℕ) (m : Worth) (d : Free) → free m (leave lo [] d) ≡ free m d
  nothing_renamed lo m (Const c) = refl
  nothing_renamed lo m (Name b) = refl
  nothing_renamed lo m (Own n i) = refl
  nothing_renamed lo m (Unknown n i) = refl
  nothing_renamed lo m (Slot i) = refl

  -- a value of the body's type, where names that are parts have left
  parts_leave : (lo at hi : ℕ) (parts : List ℕ) (m : Worth) (v : FlatValue) → lo < at → at ≤ hi → Leaves N types W parts lo at → R_of at hi m (s at) v
      → (now : Worth) × ((d : Free) → Beyond at hi d → Beyond lo (1 + lo) d → now d ≡ m d) × Of now (renamed (leave lo parts) (s at)) v
  parts_leave lo at hi [] m v l l' away r = (r.now, (λ d o o'. r.old d o), (fits_renamed N τ W.sizing W.is_there (calls W) r.now r.now (leave lo []) (nothing_renamed lo r.now) (s at) no_frames v).1 r.fits)
  parts_leave lo at hi (x ∷ xs) m v l l' away r = let y = names_leave N types τ W S one lo at hi (x ∷ xs) m v l l' away r in (y.0, (λ d o o'. y.1 d o' o), y.2)

  -- a size that is not unknown after it left has not left
  still_there : (lo : ℕ) (parts : List ℕ) (m : Worth) (d : Free) → Beyond lo (1 + lo) (leave lo parts d) → free m (leave lo parts d) ≡ free m d
  still_there lo parts m (Name b) o = by_way (left_is lo 0 b parts)
    where
      by_way : ((k : ℕ) × (left lo 0 parts b ≡ Unknown lo k)) ⊎ ((left lo 0 parts b ≡ Name b) × (is_among parts b ≡ false)) → free m (left lo 0 parts b) ≡ m (Name b)
      by_way (inl r) = absurd (subst (λ d. Beyond lo (1 + lo) d) r.1 o (omega arith, omega arith))
      by_way (inr r) = ap (free m) r.0
  still_there lo parts m (Const c) o = refl
  still_there lo parts m (Own n i) o = refl
  still_there lo parts m (Unknown n i) o = refl
  still_there lo parts m (Slot i) o = refl

  -- a function's type names no part of a parameter
  takes_unnamed : (body : Context → Type 0) (parts : List ℕ) (ps : Patterns Ref BindId) (lo q at hi : ℕ) (u : Size) (G : Context) → Takes N types W.sizing.size_at W.sizing.home body parts ps lo q at hi u G → (j : ℕ) → Each (λ j d. names_one parts d ≡ false) j u
  unfolding Each
  takes_unnamed body parts no_pattern lo q at hi u G h j = subst (Each (λ j d. names_one parts d ≡ false) j) (sym h.1) (cleared lo parts (s at) j 0)
  takes_unnamed body parts (pattern_and p ps) lo q at hi u G h j =
      let B = h.0 in
      let P : Dim → Type 0 = λ d. names_one parts d ≡ false in
      let from_part = each_as (λ j d. (names_one parts d ≡ false) × Of_positions (λ i. names_one parts (At (B.inside i)) ≡ false) j d) (λ j d. names_one parts d ≡ false) (λ j d e. e.0) B.from 1
      (unnamed_inside parts B.inside B.from (subst (Each (λ j d. names_one parts d ≡ false) 1) B.parameter (unnamed_each parts (s q) 1 h.1))) in
      let to_part = each_as (λ j d. (names_one parts d ≡ false) × Of_positions (λ i. names_one parts (At (B.inside i)) ≡ false) j d) (λ j d. names_one parts d ≡ false) (λ j d e. e.0) B.to 1
      (unnamed_inside parts B.inside B.to (takes_unnamed body parts ps lo (q + pattern_numbers p) at hi (opened B.inside B.to) (with_pattern W.sizing.size_at p q (with_positions B.position G)) h.3 1)) in
      subst (Each (λ j d. names_one parts d ≡ false) j) (sym B.function) (each_shift (λ d. names_one parts d ≡ false) B.from 1 (suc j) from_part, each_shift (λ d. names_one parts d ≡ false) B.to 1 (suc j) to_part)

  -- one that waits for more arguments
  waits_fits : (ps : Patterns Ref BindId) (p p2 : FlatPattern) (e : FlatTerm) (parts : List ℕ) (lo q at hi : ℕ) (u : Size) (G : Context) (env : FlatEnv) (m : Worth) (z : q + pattern_numbers p ≤ at) (le : at ≤ hi) (before : 1 + lo ≤ q) (B : Binder N types W.sizing.size_at W.sizing.home lo at hi p q u) → Tells_right N τ W.sizing m no_frames B.chosen B.from B.to (Closure (pattern_and p (pattern_and p2 ps)) e at env) → Simple W.sizing p q → Env_of q hi m G env → at - all_pattern_numbers (pattern_and p (pattern_and p2 ps)) ≡ q
      → (sub : (c : ℕ) → is_among parts c ≡ false → is_among (part_names p) c ≡ false) → has (names_one parts) (W.sizing.size_at q) ≡ false → Each (λ j d. names_one parts d ≡ false) 1 (opened B.inside B.to)
      → ((F : ℕ → ℕ) (v : FlatValue) (x : FlatEnv) → Env_of (q + pattern_numbers p) hi (parts_by p v (placed_as B.position F m)) (with_pattern W.sizing.size_at p q (with_positions B.position G)) x → Of (parts_by p v (placed_as B.position F m)) (opened B.inside B.to) (Closure (pattern_and p2 ps) e at x))
      → Of m u (Closure (pattern_and p (pattern_and p2 ps)) e at env)
  waits_fits ps p p2 e parts lo q at hi u G env m z le before B tells_all simple E node sub unnamed apart_to inner = subst (λ x. Of m x (Closure (pattern_and p (pattern_and p2 ps)) e at env)) (sym B.function)
      (a_function N τ W.sizing W.is_there (calls W) m B.chosen B.from B.to (Closure (pattern_and p (pattern_and p2 ps)) e at env) tells_all (λ F v eF h. evaluates N types τ W S one (Given_back lo at hi p q u B z le m F) (Call (Closure (pattern_and p (pattern_and p2 ps)) e at env) v)
      (gives_then (λ x. Env_of (q + pattern_numbers p) hi (parts_by p v (placed_as B.position F m)) (with_pattern W.sizing.size_at p q (with_positions B.position G)) x) (Given_back lo at hi p q u B z le m F) _ _
      (gives_exact _ _ 0 _ (entered_fits lo at hi p q u B z le m F G env v simple E eF h (at - all_pattern_numbers (pattern_and p (pattern_and p2 ps))) node parts sub unnamed))
      (λ x E'. gives_exact _ (Given_back lo at hi p q u B z le m F) 0 (Val (Closure (pattern_and p2 ps) e at x)) (back lo at hi p q u B z le m F before parts sub v (parts_by p v (placed_as B.position F m)) (λ d o o'. refl) (Closure (pattern_and p2 ps) e at x) apart_to (inner F v x E'))))))

  -- what one tells that wants one argument more
  last_tells : (p : FlatPattern) (e : FlatTerm) (parts : List ℕ) (lo q at hi : ℕ) (u : Size) (G : Context) (env : FlatEnv) (m : Worth) (z : q + pattern_numbers p ≤ at) (lt : at < hi) (before : 1 + lo ≤ q) (B : Binder N types W.sizing.size_at W.sizing.home lo at hi p q u)
      → Telling N types W.sizing.size_at W.sizing.home no_pattern q at B.chosen B.from B.to G → opened B.inside B.to ≡ renamed (leave lo parts) (s at) → Env_of q hi m G env → at - all_pattern_numbers (pattern_and p no_pattern) ≡ q
      → Data B.to → Each (Of_positions (λ i. i < B.chosen)) 1 B.to → (F : ℕ → ℕ) (h : Shape) → Has_shape N τ m (push F no_frames) B.from h → Has_shape N τ m (push F no_frames) B.to (tells W.sizing (Closure (pattern_and p no_pattern) e at env) (h ∷ []))
  unfolding tells closure_tells result_shape
  last_tells p e parts lo q at hi u G env m z lt before B telling same E node dr names_low F h hx =
      let T = telling (data_from lo at hi p q u B z (omega (arith, lt)) m F G env E h hx) dr names_low in
      let d2 : Data (renamed (leave lo parts) (s at)) = subst Data same ((data_replaced (given B.inside) B.to 1).0 dr) in
      let d3 : Data (s at) = (data_replaced (renaming (leave lo parts)) (s at) 0).1 d2 in
      shape_back lo at hi p q u B z (omega (arith, lt)) m F names_low _
      (subst (λ t. Has_shape N τ (placed_as B.position F m) no_frames t (tells W.sizing (Closure (pattern_and p no_pattern) e at env) (h ∷ []))) (sym same)
      (shape_renamed_in N τ W.sizing W.is_there (calls W) (placed_as B.position F m) (placed_as B.position F m) (leave lo parts) (λ d. free (placed_as B.position F m) (leave lo parts d) ≡ free (placed_as B.position F m) d) (λ d k. k) (s at) no_frames _ stays
      (subst (λ y. Has_shape N τ (placed_as B.position F m) no_frames (s at) (closure_tells W.sizing (y ∷ []) at (h ∷ []) (found W.sizing env))) (sym node)
      (told_body lo at hi p q u B z (omega (arith, lt)) m F G env E h hx (s at) d3 (S.formed at) T.0 (each_named (Named_at N types τ W q hi) (s at) 0 (λ d e. (at, omega (arith, z), lt, e))) T.1))))
    where
      known : (j : ℕ) (d : Dim) → Scoped (λ d. (B.position d ≡ None) × Beyond at hi d × Beyond lo (1 + lo) d) (suc j) d × Of_positions (λ i. i < B.chosen) (suc j) d → Scoped (Beyond lo (1 + lo)) j (given B.inside (suc j) d)
      known j (At d) k = k.0.2
      known j (Bound k i) w = by_test (nat_eq (suc k) (suc j)) refl
        where
          by_test : (b : Bool) → nat_eq (suc k) (suc j) ≡ b → Scoped (Beyond lo (1 + lo)) j (cond b (At (B.inside i)) (Bound k i))
          by_test true e = let l = w.1 (eqb-true (suc k) (suc j) e) in in_front_of lo q (q + pattern_numbers p) before (B.inside i) (B.own (B.inside i) i (B.placed i (omega (arith, l))))
          by_test false e = let l = w.0 in let n = eqb-false (suc k) (suc j) e in omega (arith, l, n)

      turned : (j : ℕ) (d : Dim) → Scoped (Beyond lo (1 + lo)) j (renaming (leave lo parts) j d) → Scoped (λ d. free (placed_as B.position F m) (leave lo parts d) ≡ free (placed_as B.position F m) d) j d
      turned j (At d) o = still_there lo parts (placed_as B.position F m) d o
      turned j (Bound k i) o = o

      -- what is told names nothing that has left
      stays : Each (Scoped (λ d. free (placed_as B.position F m) (leave lo parts d) ≡ free (placed_as B.position F m) d)) 0 (s at)
      stays = each_from (Scoped (λ d. free (placed_as B.position F m) (leave lo parts d) ≡ free (placed_as B.position F m) d)) (Scoped (Beyond lo (1 + lo))) (renaming (leave lo parts)) turned (s at) 0
          (subst (Each (Scoped (Beyond lo (1 + lo))) 0) same
          (each_replaced (λ j d. Scoped (λ d. (B.position d ≡ None) × Beyond at hi d × Beyond lo (1 + lo) d) j d × Of_positions (λ i. i < B.chosen) j d) (Scoped (Beyond lo (1 + lo))) (given B.inside) known B.to 0
          (each_and (Scoped (λ d. (B.position d ≡ None) × Beyond at hi d × Beyond lo (1 + lo) d)) (Of_positions (λ i. i < B.chosen)) B.to 1 (kept lo at hi p q u B z (omega (arith, lt)) m F).1 names_low)))

  no_function_data : (k : ℕ) (p r : Size) → Data (Fun k p r) → ⊥
  unfolding Data
  no_function_data k p r d = d

  -- what one tells that gives no arrays in the end
  closure_tells_flat : (ps : Patterns Ref BindId) (p : FlatPattern) (e : FlatTerm) (parts : List ℕ) (lo q at hi : ℕ) (u : Size) (G : Context) (env : FlatEnv) (m : Worth) → at - (pattern_numbers p + all_pattern_numbers ps) ≡ q → (B : Binder N types W.sizing.size_at W.sizing.home lo at hi p q u)
      → (has (names_one parts) (W.sizing.size_at q) ≡ false) × Telling N types W.sizing.size_at W.sizing.home ps q at B.chosen B.from B.to G × Takes N types W.sizing.size_at W.sizing.home (Sized N types W.sizing.size_at W.sizing.home e at) parts ps lo (q + pattern_numbers p) at hi (opened B.inside B.to) (with_pattern W.sizing.size_at p q (with_positions B.position G))
      → Flat_result B.to → (F : ℕ → ℕ) (h : Shape) → Told_right N τ m (push F no_frames) B.to (λ hs. tells W.sizing (Closure (pattern_and p ps) e at env) (h ∷ hs))
  unfolding tells closure_tells
  closure_tells_flat ps p e parts lo q at hi u G env m node B taken flat F h =
      subst (λ y. Told_right N τ m (push F no_frames) B.to (λ hs. closure_tells W.sizing (y ∷ nodes_from ps (y + pattern_numbers p)) at (h ∷ hs) (found W.sizing env))) (sym node)
      (always_right N types τ W S m no_frames (push F no_frames) B.to (λ hs. closure_tells W.sizing (nodes_from ps (q + pattern_numbers p)) at hs (with_data W.sizing.fields (W.sizing.size_at q) h (found W.sizing env))) flat
      (always_opened N types τ W S m m no_frames no_frames B.inside B.to (λ hs. closure_tells W.sizing (nodes_from ps (q + pattern_numbers p)) at hs (with_data W.sizing.fields (W.sizing.size_at q) h (found W.sizing env))) flat
      (closure_always N types τ W S (Sized N types W.sizing.size_at W.sizing.home e at) parts ps lo (q + pattern_numbers p) at hi (opened B.inside B.to) (with_pattern W.sizing.size_at p q (with_positions B.position G)) (with_data W.sizing.fields (W.sizing.size_at q) h (found W.sizing env)) m no_frames taken.2
      ((flat_result_replaced (given B.inside) B.to 1).0 flat))))

  pub closure_fits : (ps : Patterns Ref BindId) (p : FlatPattern) (e : FlatTerm) (parts : List ℕ) (lo q at hi : ℕ) (u : Size) (G : Context) (env : FlatEnv) (m : Worth) → All_simple W.sizing (pattern_and p ps) q → ((c : ℕ) → is_among parts c ≡ false → is_among (all_part_names (pattern_and p ps)) c ≡ false) → Leaves N types W parts lo at → 1 + lo ≤ q → q + (pattern_numbers p + all_pattern_numbers ps) ≡ at → at < hi → Body_law e at hi
      → Takes N types W.sizing.size_at W.sizing.home (Sized N types W.sizing.size_at W.sizing.home e at) parts (pattern_and p ps) lo q at hi u G → Env_of q hi m G env → Of m u (Closure (pattern_and p ps) e at env)
  closure_fits no_pattern p e parts lo q at hi u G env m simple sub leaves before z lt body (B, unnamed, telling, (inside_parameter, same, sized)) E =
      let node : at - (pattern_numbers p + 0) ≡ q = omega (arith, z) in
      let first : (c : ℕ) → is_among parts c ≡ false → is_among (part_names p) c ≡ false = λ c e. among_first (part_names p) [] c (sub c e) in
      let apart_to : Each (λ j d. names_one parts d ≡ false) 1 (opened B.inside B.to) = takes_unnamed (Sized N types W.sizing.size_at W.sizing.home e at) parts no_pattern lo (q + pattern_numbers p) at hi (opened B.inside B.to) (with_pattern W.sizing.size_at p q (with_positions B.position G)) (inside_parameter, same, sized) 1 in
      subst (λ x. Of m x (Closure (pattern_and p no_pattern) e at env)) (sym B.function)
      (a_function N τ W.sizing W.is_there (calls W) m B.chosen B.from B.to (Closure (pattern_and p no_pattern) e at env) (refl, λ known F h hx. by_result known F h hx (known_cases Any_free (B.chosen ∷ []) B.to known))
      (λ F v eF h. evaluates N types τ W S one (Given_back lo at hi p q u B (omega (arith, z)) (omega (arith, lt)) m F) (Call (Closure (pattern_and p no_pattern) e at env) v)
      (gives_then (λ x. Env_of (q + pattern_numbers p) hi (parts_by p v (placed_as B.position F m)) (with_pattern W.sizing.size_at p q (with_positions B.position G)) x) (Given_back lo at hi p q u B (omega (arith, z)) (omega (arith, lt)) m F) _ _
      (gives_exact _ _ 0 _ (entered_fits lo at hi p q u B (omega (arith, z)) (omega (arith, lt)) m F G env v simple.0 E eF h (at - all_pattern_numbers (pattern_and p no_pattern)) node parts first unnamed))
      (λ x E'. gives_as (R_of at hi (parts_by p v (placed_as B.position F m)) (s at)) (Given_back lo at hi p q u B (omega (arith, z)) (omega (arith, lt)) m F) (means W (Evaluate x at e))
      (body (with_pattern W.sizing.size_at p q (with_positions B.position G)) x (parts_by p v (placed_as B.position F m)) sized (env_moves N types τ W (q + pattern_numbers p) hi at hi (parts_by p v (placed_as B.position F m)) (parts_by p v (placed_as B.position F m)) (with_pattern W.sizing.size_at p q (with_positions B.position G)) x (omega (arith, z)) (omega arith) (λ d o. refl) E'))
      (λ w r. let y = parts_leave lo at hi parts (parts_by p v (placed_as B.position F m)) w (omega (arith, before, z)) (omega (arith, lt)) leaves r in
      back lo at hi p q u B (omega (arith, z)) (omega (arith, lt)) m F before parts first v y.0 y.1 w apart_to (subst (λ x. Of y.0 x w) (sym same) y.2))))))
    where
      flat_tells : Flat_result B.to → (F : ℕ → ℕ) (h : Shape) → Told_right N τ m (push F no_frames) B.to (λ hs. tells W.sizing (Closure (pattern_and p no_pattern) e at env) (h ∷ hs))
      flat_tells fl F h = closure_tells_flat no_pattern p e parts lo q at hi u G env m (omega (arith, z)) B (unnamed, telling, (inside_parameter, same, sized)) fl F h

      by_result : Known_result Any_free (B.chosen ∷ []) B.to → (F : ℕ → ℕ) (h : Shape) → Has_shape N τ m (push F no_frames) B.from h → Data B.to ⊎ Flat_result B.to → Told_right N τ m (push F no_frames) B.to (λ hs. tells W.sizing (Closure (pattern_and p no_pattern) e at env) (h ∷ hs))
      by_result known F h hx (inl d) = told_here N τ m (push F no_frames) B.to d (λ hs. tells W.sizing (Closure (pattern_and p no_pattern) e at env) (h ∷ hs))
          (last_tells p e parts lo q at hi u G env m (omega (arith, z)) lt before B telling same E (let y : at - (pattern_numbers p + 0) ≡ q = omega (arith, z) in y) d (known_low Any_free B.chosen B.to known) F h hx)
      by_result known F h hx (inr fl) = flat_tells fl F h
  closure_fits (pattern_and p2 ps) p e parts lo q at hi u G env m simple sub leaves before z lt body (B, unnamed, told, more) E =
      let node : at - (pattern_numbers p + (pattern_numbers p2 + all_pattern_numbers ps)) ≡ q = omega (arith, z) in
      let first : (c : ℕ) → is_among parts c ≡ false → is_among (part_names p) c ≡ false = λ c e. among_first (part_names p) (all_part_names (pattern_and p2 ps)) c (sub c e) in
      waits_fits ps p p2 e parts lo q at hi u G env m (omega (arith, z)) (omega (arith, lt)) before B (refl, λ known F h hx. by_result F h (known_cases Any_free (B.chosen ∷ []) B.to known)) simple.0 E node first unnamed
      (takes_unnamed (Sized N types W.sizing.size_at W.sizing.home e at) parts (pattern_and p2 ps) lo (q + pattern_numbers p) at hi (opened B.inside B.to) (with_pattern W.sizing.size_at p q (with_positions B.position G)) more 1)
      (λ F v x E'. closure_fits ps p2 e parts lo (q + pattern_numbers p) at hi (opened B.inside B.to) (with_pattern W.sizing.size_at p q (with_positions B.position G)) x (parts_by p v (placed_as B.position F m)) simple.1 (λ c e. among_later (part_names p) (all_part_names (pattern_and p2 ps)) c (sub c e)) leaves (omega (arith, before)) (omega (arith, z)) lt body more E')
    where
      by_result : (F : ℕ → ℕ) (h : Shape) → Data B.to ⊎ Flat_result B.to → Told_right N τ m (push F no_frames) B.to (λ hs. tells W.sizing (Closure (pattern_and p (pattern_and p2 ps)) e at env) (h ∷ hs))
      by_result F h (inl d) = absurd (no_function_data _ _ _ (subst Data more.0.function ((data_replaced (given B.inside) B.to 1).0 d)))
      by_result F h (inr fl) = closure_tells_flat (pattern_and p2 ps) p e parts lo q at hi u G env m (omega (arith, z)) B (unnamed, told, more) fl F h
