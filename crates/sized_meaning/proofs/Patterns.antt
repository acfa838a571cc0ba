-- Patterns with parts: the names of each part are worth what it is, and keep values of their sized types.
use Rattle.fut_scalar.specs.declared.report.Report.{Report}
use Rattle.sized_meaning.proofs.Size_reports.{record_parts_fine}
use Rattle.sized_meaning.specs.There.{There}
use Rattle.std.proofs.Common.{◌≡◌, ◌⊎◌, ℕ, zero, suc, ◌+◌, ◌<◌, ◌≤◌, List, [], ◌∷◌, ◌++◌, Bool, true, false, ◌||◌, cond, nat_eq, Option, Some, None, refl, sym, ap, ◌∙◌, subst, arith, inl, inr, eqb-true, eq-eqb}
use Rattle.fut_ast.specs.Sorts.{Text}
use Rattle.fut_scalar.specs.declared.place.BindId.{BindId}
use Rattle.fut_flat.specs.declared.prim.Ref.{Ref}
use Rattle.fut_flat.specs.Numbers.{pattern_numbers, all_pattern_numbers}
use Rattle.fut_flat.specs.Terms.{Bound_pattern, Wild_pattern, Tuple_pattern, Record_pattern, Typed_pattern, Patterns, no_pattern, pattern_and}
use Rattle.fut_flat.specs.Erased.{FlatPattern}
use Rattle.fut_types.specs.declared.Head.TheVariants as head
use Rattle.fut_types.specs.Shapes.{place}
use Rattle.fut_types.specs.Types.{Sub}
use Rattle.fut_typing.specs.Names.{Names}
use Rattle.fut_meaning.specs.Accessors.{or_wrong, tuple_parts, fields_of, record_parts, bound, all_bound}
use Rattle.fut_meaning.specs.Flats.{FlatValue, FlatEnv}
use Rattle.fut_meaning.specs.Telling.{found}
use Rattle.fut_meaning.specs.Outcomes.{Out, Val, Fail, Wrong, and_then}
use Rattle.fut_meaning.specs.Values.{Tuple_value, Record_value, no_value, value_and, field, listed, entered}
use Rattle.sized_types.specs.Sizes.{Free, Const, Name, Own, Unknown, Slot, Dim, At, Bound, Size, Hole, Open, Level, Built, Fun, Sizes, no_size, size_and, replaced, all_replaced, renaming, renamed}
use Rattle.sized_types.specs.Standing.{stands, has_hole, stands_told, has_told}
use Rattle.fut_sizes.specs.Agreeing.{left, is_among, names_one}
use Rattle.fut_sizes.specs.WrittenSizes.{part, part_of}
use Rattle.fut_sizes.specs.Scopes.{names, all_names}
use Rattle.fut_sizes.specs.Scoping.{Context, with_entered, with_pattern, with_all_patterns}
use Rattle.fut_sizes.specs.Suiting.{Each, Each_all, Scoped}
use Rattle.fut_sizes.specs.Rules.{Inside, Away, part_fits, Pattern_takes, All_take, Fields_take}
use Rattle.sized_meaning.specs.Worth.{Worth, free, no_frames}
use Rattle.sized_meaning.specs.Shapes.{Meant}
use Rattle.sized_meaning.specs.Finding.{One_kind_each}
use Rattle.sized_meaning.specs.Fits.{FlatValues, FlatFields, Out_fits, word, Fits, All_fit, Named_fit}
use Rattle.sized_meaning.specs.Law.{Sound, Name_home, Simple, All_parts, Nodes_away, All_nodes_away, World, calls, Beyond as Out_beyond, Env_fits}
use Rattle.sized_meaning.proofs.Scalars.{out_then}
use Rattle.sized_meaning.proofs.Finding.{some_same, none_no}
use Rattle.sized_meaning.proofs.Datas.{value_same, the_value}
use Rattle.sized_meaning.proofs.Reading.{fits_renamed}
use Rattle.sized_meaning.proofs.Suiting.{at_node, node_here}
use Rattle.sized_meaning.proofs.Environments.{word_is, name_found, inside_wider, outside_narrower, apart, env_bind, env_entered}

-- ---- names among others

among_if : (b r t : Bool) → cond b true r ≡ false → (r ≡ false → t ≡ false) → cond b true t ≡ false
among_if true r t e go = e
among_if false r t e go = go e

pub among_first : (xs ys : List ℕ) (c : ℕ) → is_among (xs ++ ys) c ≡ false → is_among xs c ≡ false
among_first [] ys c e = refl
among_first (x ∷ xs) ys c e = among_if (nat_eq c x) (is_among (xs ++ ys) c) (is_among xs c) e (λ q. among_first xs ys c q)

no_later : (b r t : Bool) → cond b true r ≡ false → (r ≡ false → t ≡ false) → t ≡ false
no_later true r t e go = absurd (let z : true ≡ false = e in cc)
no_later false r t e go = go e

pub among_later : (xs ys : List ℕ) (c : ℕ) → is_among (xs ++ ys) c ≡ false → is_among ys c ≡ false
among_later [] ys c e = e
among_later (x ∷ xs) ys c e = no_later (nat_eq c x) (is_among (xs ++ ys) c) (is_among ys c) e (λ q. among_later xs ys c q)

is_one : (b r t : Bool) → cond b true r ≡ true → (r ≡ true → t ≡ true) → cond b true t ≡ true
is_one true r t e go = refl
is_one false r t e go = go e

pub among_front : (xs ys : List ℕ) (c : ℕ) → is_among xs c ≡ true → is_among (xs ++ ys) c ≡ true
among_front [] ys c e = absurd (let z : false ≡ true = e in cc)
among_front (x ∷ xs) ys c e = is_one (nat_eq c x) (is_among xs c) (is_among (xs ++ ys) c) e (λ q. among_front xs ys c q)

one_of : (b r t u : Bool) → cond b true r ≡ true → (r ≡ true → (t ≡ true) ⊎ (u ≡ true)) → (cond b true t ≡ true) ⊎ (u ≡ true)
one_of true r t u e go = inl refl
one_of false r t u e go = go e

pub among_either : (xs ys : List ℕ) (c : ℕ) → is_among (xs ++ ys) c ≡ true → (is_among xs c ≡ true) ⊎ (is_among ys c ≡ true)
among_either [] ys c e = inr e
among_either (x ∷ xs) ys c e = one_of (nat_eq c x) (is_among (xs ++ ys) c) (is_among xs c) (is_among ys c) e (λ q. among_either xs ys c q)

or_one : (b r : Bool) → r ≡ true → cond b true r ≡ true
or_one true r e = refl
or_one false r e = e

pub among_back : (xs ys : List ℕ) (c : ℕ) → is_among ys c ≡ true → is_among (xs ++ ys) c ≡ true
among_back [] ys c e = e
among_back (x ∷ xs) ys c e = or_one (nat_eq c x) (is_among (xs ++ ys) c) (among_back xs ys c e)

-- ---- what names are worth

unfoldable pub named_as : ℕ → ℕ → Worth → Worth
named_as x w m (Const c) = m (Const c)
named_as x w m (Name b) = cond (nat_eq b x) w (m (Name b))
named_as x w m (Own n i) = m (Own n i)
named_as x w m (Unknown n i) = m (Unknown n i)
named_as x w m (Slot i) = m (Slot i)

pub named_else : (x w : ℕ) (m : Worth) (d : Free) → names_one (x ∷ []) (At d) ≡ false → named_as x w m d ≡ m d
unfolding named_as
named_else x w m (Const c) n = refl
named_else x w m (Name b) n = tested (nat_eq b x) n
  where
    tested : (c : Bool) → cond c true false ≡ false → cond c w (m (Name b)) ≡ m (Name b)
    tested true e = absurd (let z : true ≡ false = e in cc)
    tested false e = refl
named_else x w m (Own n' i) n = refl
named_else x w m (Unknown n' i) n = refl
named_else x w m (Slot i) n = refl

pub named_here : (x w : ℕ) (m : Worth) → named_as x w m (Name x) ≡ w
unfolding named_as
named_here x w m = ap (λ b. cond b w (m (Name x))) (eq-eqb x x refl)

abbrev or_nothing : Out (List FlatValue) → List FlatValue
or_nothing (Val vs) = vs
or_nothing (Fail r) = []
or_nothing Wrong = []

abbrev fields_parts : List Text → FlatValue → Out (List FlatValue)
fields_parts fs v = and_then (fields_of v) (λ gs. record_parts fs gs)

-- all names of a pattern that takes a value
abbrev mutual
  pub named_by : FlatPattern → FlatValue → Worth → Worth
  named_by (Bound_pattern b) v m = named_as b.0 (word v) m
  named_by Wild_pattern v m = m
  named_by (Tuple_pattern ps) v m = all_named_by ps (or_nothing (tuple_parts v)) m
  named_by (Record_pattern fs ps) v m = all_named_by ps (or_nothing (fields_parts fs v)) m
  named_by (Typed_pattern p t) v m = named_by p v m

  pub all_named_by : Patterns Ref BindId → List FlatValue → Worth → Worth
  all_named_by no_pattern vs m = m
  all_named_by (pattern_and p ps) [] m = m
  all_named_by (pattern_and p ps) (v ∷ vs) m = all_named_by ps vs (named_by p v m)

-- other sizes keep their worth
mutual
  pub others_keep : (p : FlatPattern) (v : FlatValue) (m : Worth) (d : Free) → names_one (names p) (At d) ≡ false → named_by p v m d ≡ m d
  others_keep (Bound_pattern b) v m d n = named_else b.0 (word v) m d n
  others_keep Wild_pattern v m d n = refl
  others_keep (Tuple_pattern ps) v m d n = all_others_keep ps (or_nothing (tuple_parts v)) m d n
  others_keep (Record_pattern fs ps) v m d n = all_others_keep ps (or_nothing (fields_parts fs v)) m d n
  others_keep (Typed_pattern p t) v m d n = others_keep p v m d n

  all_others_keep : (ps : Patterns Ref BindId) (vs : List FlatValue) (m : Worth) (d : Free) → names_one (all_names ps) (At d) ≡ false → all_named_by ps vs m d ≡ m d
  all_others_keep no_pattern vs m d n = refl
  all_others_keep (pattern_and p ps) [] m d n = refl
  all_others_keep (pattern_and p ps) (v ∷ vs) m (Name c) n = all_others_keep ps vs (named_by p v m) (Name c) (among_later (names p) (all_names ps) c n) ∙ others_keep p v m (Name c) (among_first (names p) (all_names ps) c n)
  all_others_keep (pattern_and p ps) (v ∷ vs) m (Const c) n = all_others_keep ps vs (named_by p v m) (Const c) refl ∙ others_keep p v m (Const c) refl
  all_others_keep (pattern_and p ps) (v ∷ vs) m (Own k i) n = all_others_keep ps vs (named_by p v m) (Own k i) refl ∙ others_keep p v m (Own k i) refl
  all_others_keep (pattern_and p ps) (v ∷ vs) m (Unknown k i) n = all_others_keep ps vs (named_by p v m) (Unknown k i) refl ∙ others_keep p v m (Unknown k i) refl
  all_others_keep (pattern_and p ps) (v ∷ vs) m (Slot i) n = all_others_keep ps vs (named_by p v m) (Slot i) refl ∙ others_keep p v m (Slot i) refl

-- each name is worth its part
abbrev mutual
  pub Names_worth : Worth → FlatPattern → FlatValue → Type 0
  Names_worth m (Bound_pattern b) v = word v ≡ m (Name b.0)
  Names_worth m Wild_pattern v = Unit {0}
  Names_worth m (Tuple_pattern ps) v = All_worth m ps (or_nothing (tuple_parts v))
  Names_worth m (Record_pattern fs ps) v = All_worth m ps (or_nothing (fields_parts fs v))
  Names_worth m (Typed_pattern p t) v = Names_worth m p v

  pub All_worth : Worth → Patterns Ref BindId → List FlatValue → Type 0
  All_worth m no_pattern vs = Unit {0}
  All_worth m (pattern_and p ps) [] = Unit {0}
  All_worth m (pattern_and p ps) (v ∷ vs) = Names_worth m p v × All_worth m ps vs

-- ---- at the node that ends their scope names are unknowns, worth what the names were

pub name_at : List ℕ → ℕ → ℕ
name_at [] k = 0
name_at (x ∷ xs) zero = x
name_at (x ∷ xs) (suc k) = name_at xs k

module _ (lo : ℕ) (F : ℕ → ℕ) (m : Worth) where
  pub name_left : (i b : ℕ) (xs : List ℕ) → ((k : ℕ) → F (k + i) ≡ m (Name (name_at xs k))) → free (at_node lo F m) (left lo i xs b) ≡ m (Name b)
  unfolding at_node name_at
  name_left i b [] h = refl
  name_left i b (x ∷ xs) h = tested (nat_eq b x) refl (name_left (suc i) b xs (λ k. ap F (let z : k + suc i ≡ suc k + i = omega arith in z) ∙ h (suc k)))
    where
      tested : (c : Bool) → nat_eq b x ≡ c → free (at_node lo F m) (left lo (suc i) xs b) ≡ m (Name b) → free (at_node lo F m) (cond c (Unknown lo i) (left lo (suc i) xs b)) ≡ m (Name b)
      tested true e rest = node_here lo F m i ∙ ap F (let z : i ≡ 0 + i = omega arith in z) ∙ h 0 ∙ sym (ap (λ z. m (Name z)) (eqb-true b x e))
      tested false e rest = rest

-- ---- names stand at their homes

module _ (N : Names) (types : Sub) (τ : Meant) (W : World) where
  abbrev s : ℕ → Size
  s n = W.sizing.size_at n

  abbrev home : ℕ → ℕ
  home b = W.sizing.home b

  abbrev Beyond : ℕ → ℕ → Free → Type 0
  Beyond lo hi d = Out_beyond N types τ W lo hi d

  abbrev In_nodes : ℕ → ℕ → Free → Type 0
  In_nodes lo hi d = Inside N types W.sizing.size_at W.sizing.home lo hi d

  mutual
    pub names_inside : (p : FlatPattern) (q : ℕ) → Name_home W.sizing p q → Simple W.sizing p q → (c : ℕ) → is_among (names p) c ≡ true → In_nodes q (q + pattern_numbers p) (Name c)
    names_inside (Bound_pattern b) q h g c e = tested (nat_eq c b.0) refl e
      where
        tested : (z : Bool) → nat_eq c b.0 ≡ z → cond z true false ≡ true → (q ≤ W.sizing.home c) × (W.sizing.home c < q + 1)
        tested true i e = let k : W.sizing.home c ≡ q = ap W.sizing.home (eqb-true c b.0 i) ∙ h in (omega (arith, k), omega (arith, k))
        tested false i e = absurd (let z : false ≡ true = e in cc)
    names_inside Wild_pattern q h g c e = absurd (let z : false ≡ true = e in cc)
    names_inside (Tuple_pattern ps) q h g c e = inside_wider N types τ W q (q + (1 + all_pattern_numbers ps)) (1 + q) (1 + q + all_pattern_numbers ps) (omega arith) (omega arith) (Name c) (all_names_inside ps (1 + q) g c e)
    names_inside (Record_pattern fs ps) q h g c e = inside_wider N types τ W q (q + (1 + all_pattern_numbers ps)) (1 + q) (1 + q + all_pattern_numbers ps) (omega arith) (omega arith) (Name c) (all_names_inside ps (1 + q) g c e)
    names_inside (Typed_pattern p t) q h g c e = names_inside p q h g c e

    pub all_names_inside : (ps : Patterns Ref BindId) (q : ℕ) → All_parts W.sizing ps q → (c : ℕ) → is_among (all_names ps) c ≡ true → In_nodes q (q + all_pattern_numbers ps) (Name c)
    all_names_inside no_pattern q g c e = absurd (let z : false ≡ true = e in cc)
    all_names_inside (pattern_and p ps) q g c e = by_part (among_either (names p) (all_names ps) c e) (λ i. names_inside p q g.0 g.1 c i) (λ i. all_names_inside ps (q + pattern_numbers p) g.2 c i)
      where
        by_part : (is_among (names p) c ≡ true) ⊎ (is_among (all_names ps) c ≡ true) → (is_among (names p) c ≡ true → In_nodes q (q + pattern_numbers p) (Name c)) → (is_among (all_names ps) c ≡ true → In_nodes (q + pattern_numbers p) (q + pattern_numbers p + all_pattern_numbers ps) (Name c)) → In_nodes q (q + (pattern_numbers p + all_pattern_numbers ps)) (Name c)
        by_part (inl i) first later = inside_wider N types τ W q (q + (pattern_numbers p + all_pattern_numbers ps)) q (q + pattern_numbers p) (omega arith) (omega arith) (Name c) (first i)
        by_part (inr i) first later = inside_wider N types τ W q (q + (pattern_numbers p + all_pattern_numbers ps)) (q + pattern_numbers p) (q + pattern_numbers p + all_pattern_numbers ps) (omega arith) (omega arith) (Name c) (later i)

  -- names that stand beyond these nodes are none of theirs
  pub beyond_unnamed : (xs : List ℕ) (lo hi : ℕ) → ((c : ℕ) → is_among xs c ≡ true → In_nodes lo hi (Name c)) → (d : Free) → Beyond lo hi d → names_one xs (At d) ≡ false
  beyond_unnamed xs lo hi inside (Name c) o = tested (is_among xs c) refl
    where
      tested : (b : Bool) → is_among xs c ≡ b → b ≡ false
      tested true e = absurd (o (inside c e))
      tested false e = refl
  beyond_unnamed xs lo hi inside (Const c) o = refl
  beyond_unnamed xs lo hi inside (Own n i) o = refl
  beyond_unnamed xs lo hi inside (Unknown n i) o = refl
  beyond_unnamed xs lo hi inside (Slot i) o = refl

  -- what names are worth stays where theirs does
  mutual
    worth_stays : (m m' : Worth) (p : FlatPattern) (v : FlatValue) → ((c : ℕ) → is_among (names p) c ≡ true → m' (Name c) ≡ m (Name c)) → Names_worth m p v → Names_worth m' p v
    worth_stays m m' (Bound_pattern b) v same h = h ∙ sym (same b.0 (ap (λ z. cond z true false) (eq-eqb b.0 b.0 refl)))
    worth_stays m m' Wild_pattern v same h = tt
    worth_stays m m' (Tuple_pattern ps) v same h = all_worth_stays m m' ps (or_nothing (tuple_parts v)) same h
    worth_stays m m' (Record_pattern fs ps) v same h = all_worth_stays m m' ps (or_nothing (fields_parts fs v)) same h
    worth_stays m m' (Typed_pattern p t) v same h = worth_stays m m' p v same h

    all_worth_stays : (m m' : Worth) (ps : Patterns Ref BindId) (vs : List FlatValue) → ((c : ℕ) → is_among (all_names ps) c ≡ true → m' (Name c) ≡ m (Name c)) → All_worth m ps vs → All_worth m' ps vs
    all_worth_stays m m' no_pattern vs same h = tt
    all_worth_stays m m' (pattern_and p ps) [] same h = tt
    all_worth_stays m m' (pattern_and p ps) (v ∷ vs) same h = (
      worth_stays m m' p v (λ c e. same c (among_front (names p) (all_names ps) c e)) h.0,
      all_worth_stays m m' ps vs (λ c e. same c (among_back (names p) (all_names ps) c e)) h.1,
    )

  mutual
    pub names_worth : (p : FlatPattern) (q : ℕ) (v : FlatValue) (m : Worth) → Name_home W.sizing p q → Simple W.sizing p q → Names_worth (named_by p v m) p v
    names_worth (Bound_pattern b) q v m h g = sym (named_here b.0 (word v) m)
    names_worth Wild_pattern q v m h g = tt
    names_worth (Tuple_pattern ps) q v m h g = all_names_worth ps (1 + q) (or_nothing (tuple_parts v)) m g
    names_worth (Record_pattern fs ps) q v m h g = all_names_worth ps (1 + q) (or_nothing (fields_parts fs v)) m g
    names_worth (Typed_pattern p t) q v m h g = names_worth p q v m h g

    all_names_worth : (ps : Patterns Ref BindId) (q : ℕ) (vs : List FlatValue) (m : Worth) → All_parts W.sizing ps q → All_worth (all_named_by ps vs m) ps vs
    all_names_worth no_pattern q vs m g = tt
    all_names_worth (pattern_and p ps) q [] m g = tt
    all_names_worth (pattern_and p ps) q (v ∷ vs) m g = (
      worth_stays (named_by p v m) (all_named_by ps vs (named_by p v m)) p v (λ c e. all_others_keep ps vs (named_by p v m) (Name c)
          (beyond_unnamed (all_names ps) (q + pattern_numbers p) (q + pattern_numbers p + all_pattern_numbers ps) (all_names_inside ps (q + pattern_numbers p) g.2) (Name c)
          (apart N types τ W q (q + pattern_numbers p) (q + pattern_numbers p + all_pattern_numbers ps) (Name c) (names_inside p q g.0 g.1 c e)))) (names_worth p q v m g.0 g.1),
      all_names_worth ps (q + pattern_numbers p) vs (named_by p v m) g.2,
    )

-- ---- parts of types

-- where nothing is replaced
module _ (ρ : Free → Free) (same : (d : Free) → ρ d ≡ d) where
  dim_kept : (j : ℕ) (d : Dim) → renaming ρ j d ≡ d
  dim_kept j (At d) = ap At (same d)
  dim_kept j (Bound k i) = refl

  mutual
    unfolding replaced all_replaced

    pub size_kept : (j : ℕ) (t : Size) → replaced (renaming ρ) j t ≡ t
    size_kept j (Hole v) = refl
    size_kept j (Open n v u) = refl
    size_kept j (Level d t) = ap (λ x. Level x (replaced (renaming ρ) j t)) (dim_kept j d) ∙ ap (Level d) (size_kept j t)
    size_kept j (Built h ts) = ap (Built h) (sizes_kept j ts)
    size_kept j (Fun k p r) = ap (λ x. Fun k x (replaced (renaming ρ) (suc j) r)) (size_kept (suc j) p) ∙ ap (Fun k p) (size_kept (suc j) r)

    sizes_kept : (j : ℕ) (ts : Sizes) → all_replaced (renaming ρ) j ts ≡ ts
    sizes_kept j no_size = refl
    sizes_kept j (size_and t ts) = ap (λ x. size_and x (all_replaced (renaming ρ) j ts)) (size_kept j t) ∙ ap (size_and t) (sizes_kept j ts)

  pub kept : (t : Size) → renamed ρ t ≡ t
  kept t = size_kept 0 t

module _ (ok : ℕ → Dim → Type 0) where
  part_each : (o : Option ℕ) (ts : Sizes) (u : Size) → part o ts ≡ Some u → Each_all ok 0 ts → Each ok 0 u
  unfolding Each_all
  part_each None ts u e a = none_no e
  part_each (Some i) no_size u e a = none_no e
  part_each (Some zero) (size_and t ts) u e a = subst (Each ok 0) (some_same e) a.0
  part_each (Some (suc i)) (size_and t ts) u e a = part_each (Some i) ts u e a.1

  part_of_each : (N : Names) (f : Text) (t u : Size) → part_of N f t ≡ Some u → Each ok 0 t → Each ok 0 u
  unfolding part_of Each
  part_of_each N f (Built h ts) u e a = part_each (place N.shapes (N.label f) h) ts u e a
  part_of_each N f t u e a = none_no e

module _ (N : Names) (types : Sub) (τ : Meant) (W : World) (at hi : ℕ) (what : Free → Free) (same : (d : Free) → what d ≡ d) where
  abbrev Apart : Size → Type 0
  Apart t = Away N types W.sizing.size_at W.sizing.home at hi t

  if_part : (o : Option Size) (fits : Size → Type 0) → part_fits N types W.sizing.size_at W.sizing.home o fits → (u : Size) × (o ≡ Some u) × fits u
  if_part (Some u) fits h = (u, refl, h)
  if_part None fits h = absurd h

  -- a pattern's nodes are away from what its value's type is away from
  mutual
    unfolding Pattern_takes All_take Fields_take Each Each_all

    pub nodes_away : (p : FlatPattern) (q : ℕ) (t : Size) → Pattern_takes N types W.sizing.size_at W.sizing.home what p q t → Apart t → Nodes_away N types W at hi p q
    nodes_away (Bound_pattern b) q t k a = subst Apart (sym k ∙ kept what same (W.sizing.size_at q)) a
    nodes_away Wild_pattern q t k a = subst Apart (sym k ∙ kept what same (W.sizing.size_at q)) a
    nodes_away (Tuple_pattern ps) q t k a = (subst Apart (sym k.0 ∙ kept what same (W.sizing.size_at q)) a, all_nodes_away ps (1 + q) k.1 k.3 (subst Apart k.2 a))
    nodes_away (Record_pattern fs ps) q t k a = (subst Apart (sym k.0 ∙ kept what same (W.sizing.size_at q)) a, fields_away fs ps (1 + q) t k.1 a)
    nodes_away (Typed_pattern p e) q t k a = nodes_away p q t k a

    all_nodes_away : (ps : Patterns Ref BindId) (q : ℕ) (ts : Sizes) → All_take N types W.sizing.size_at W.sizing.home what ps q ts → Each_all (Scoped (λ d. Inside N types W.sizing.size_at W.sizing.home at hi d → ⊥)) 0 ts → All_nodes_away N types W at hi ps q
    all_nodes_away no_pattern q ts k a = tt
    all_nodes_away (pattern_and p ps) q no_size k a = absurd k
    all_nodes_away (pattern_and p ps) q (size_and t ts) k a = (nodes_away p q t k.0 a.0, all_nodes_away ps (q + pattern_numbers p) ts k.1 a.1)

    fields_away : (fs : List Text) (ps : Patterns Ref BindId) (q : ℕ) (t : Size) → Fields_take N types W.sizing.size_at W.sizing.home what fs ps q t → Apart t → All_nodes_away N types W at hi ps q
    fields_away fs no_pattern q t k a = tt
    fields_away [] (pattern_and p ps) q t k a = absurd k
    fields_away (f ∷ fs) (pattern_and p ps) q t k a =
        let r = if_part (part_of N f t) (λ u. Pattern_takes N types W.sizing.size_at W.sizing.home what p q u) k.0 in
        (nodes_away p q r.0 r.2 (part_of_each (Scoped (λ d. Inside N types W.sizing.size_at W.sizing.home at hi d → ⊥)) N f t r.0 r.1 a), fields_away fs ps (q + pattern_numbers p) t k.1 a)

-- ---- what is entered

or_last : (a b c : Bool) → c ≡ true → a || (b || c) ≡ true
or_last true b c e = refl
or_last false true c e = refl
or_last false false c e = e

pub out_known : (quiet : Report → Type 0) {A B : Type 0} (Q : B → Type 0) (o : Out A) (k : A → Out B) → Out_fits quiet (λ a. Unit {0}) o → ((a : A) → o ≡ Val a → Out_fits quiet Q (k a)) → Out_fits quiet Q (and_then o k)
out_known quiet Q (Val a) k q go = go a refl
out_known quiet Q (Fail r) k q go = q
out_known quiet Q Wrong k q go = tt

abbrev List_fit : (Size → FlatValue → Type 0) → Sizes → List FlatValue → Type 0
List_fit P no_size [] = Unit {0}
List_fit P no_size (v ∷ vs) = ⊥
List_fit P (size_and t ts) [] = ⊥
List_fit P (size_and t ts) (v ∷ vs) = P t v × List_fit P ts vs

module _ (N : Names) (types : Sub) (τ : Meant) (W : World) (S : Sound N types W.sizing) (one : One_kind_each τ) (at hi : ℕ) (m : Worth) where
  abbrev Of : Size → FlatValue → Type 0
  Of t v = Fits N τ W.sizing W.is_there (calls W) m no_frames t v

  abbrev Env_of : Context → FlatEnv → Type 0
  Env_of G env = Env_fits N types τ W at hi m G env

  -- less may be asked to be found
  pub keeps_less : (t : Size) (G : Context) (env : FlatEnv) → Env_of (with_entered t G) env → Env_of G env
  keeps_less t G env E = record {
    values = E.values;
    away = E.away;
    general = E.general;
    general_worth = E.general_worth;
    fresh = E.fresh;
    sizes_right = E.sizes_right;
    types_right = E.types_right;
    finds = λ d k e. E.finds d k (or_last (stands t d) (stands_told t d) (G.finds d) e);
    finds_types = λ v e. E.finds_types v (or_last (has_hole t v) (has_told t v) (G.finds_types v) e);
  }

  tuple_fit : (ts : Sizes) (vs : FlatValues) → All_fit N τ W.sizing W.is_there (calls W) m no_frames ts vs → List_fit Of ts (listed vs)
  unfolding All_fit
  tuple_fit no_size no_value h = tt
  tuple_fit no_size (value_and v vs) h = absurd h
  tuple_fit (size_and t ts) no_value h = absurd h
  tuple_fit (size_and t ts) (value_and v vs) h = (h.0, tuple_fit ts vs h.1)

  tuple_parts_fit : (ts : Sizes) (vs : FlatValues) → Of (Built head.Tuple ts) (Tuple_value vs) → List_fit Of ts (listed vs)
  unfolding Fits
  tuple_parts_fit ts vs h = tuple_fit ts vs h

  -- a field of a record
  field_at : (n i k : ℕ) (ts : Sizes) (f : Text) (u : Size) (gs : FlatFields) → place N.shapes (N.label f) (head.Record n) ≡ Some (k + i) → part (Some k) ts ≡ Some u → Named_fit N τ W.sizing W.is_there (calls W) m no_frames n i ts gs → (v : FlatValue) × (field f gs ≡ Some v) × Of u v
  unfolding Named_fit
  field_at n i k no_size f u gs p e h = none_no e
  field_at n i zero (size_and t ts) f u gs p e h = let c = h.0 f (p ∙ ap Some (let z : 0 + i ≡ i = omega arith in z)) in (c.0, c.1, subst (λ x. Of x c.0) (some_same e) c.2)
  field_at n i (suc k) (size_and t ts) f u gs p e h = field_at n (suc i) k ts f u gs (p ∙ ap Some (let z : suc k + i ≡ k + suc i = omega arith in z)) e h.1

  placed_field : (o : Option ℕ) (n : ℕ) (ts : Sizes) (f : Text) (u : Size) (gs : FlatFields) → place N.shapes (N.label f) (head.Record n) ≡ o → part o ts ≡ Some u → Named_fit N τ W.sizing W.is_there (calls W) m no_frames n 0 ts gs → (v : FlatValue) × (field f gs ≡ Some v) × Of u v
  placed_field None n ts f u gs p e h = none_no e
  placed_field (Some k) n ts f u gs p e h = field_at n 0 k ts f u gs (p ∙ ap Some (let z : k ≡ k + 0 = omega arith in z)) e h

  pub field_fits : (f : Text) (t u : Size) (gs : FlatFields) → part_of N f t ≡ Some u → Of t (Record_value gs) → (v : FlatValue) × (field f gs ≡ Some v) × Of u v
  unfolding part_of Fits
  field_fits f (Built (head.Record n) ts) u gs e h = placed_field (place N.shapes (N.label f) (head.Record n)) n ts f u gs refl e h
  field_fits f (Built k ts) u gs e h = absurd h
  field_fits f t u gs e h = none_no e

  module _ (what : Free → Free) (stays : (d : Free) → free m (what d) ≡ free m d) where
    at_node_fits : (q : ℕ) (t : Size) (v : FlatValue) → renamed what (s N types τ W q) ≡ t → Of t v → Of (s N types τ W q) v
    at_node_fits q t v e h = (fits_renamed N τ W.sizing W.is_there (calls W) m m what stays (W.sizing.size_at q) no_frames v).0 (subst (λ x. Of x v) (sym e) h)

    -- the parts of a record that a pattern names
    record_out : (fs : List Text) (ps : Patterns Ref BindId) (q : ℕ) (t : Size) (gs : FlatFields) → Fields_take N types W.sizing.size_at W.sizing.home what fs ps q t → Of t (Record_value gs) → (vs : List FlatValue) → record_parts fs gs ≡ Val vs
        → (ts : Sizes) × All_take N types W.sizing.size_at W.sizing.home what ps q ts × List_fit Of ts vs
    unfolding Fields_take All_take
    record_out [] no_pattern q t gs k h vs e = (no_size, tt, subst (List_fit Of no_size) (let z : ◌≡◌ {A = Out (List FlatValue)} (Val []) (Val vs) = e in let y : ◌≡◌ {A = List FlatValue} [] vs = cc in y) tt)
    record_out [] (pattern_and p ps) q t gs k h vs e = absurd k
    record_out (f ∷ fs) no_pattern q t gs k h vs e = absurd k
    record_out (f ∷ fs) (pattern_and p ps) q t gs k h vs e =
        let r = if_part N types τ W at hi (λ d. d) (λ d. refl) (part_of N f t) (λ u. Pattern_takes N types W.sizing.size_at W.sizing.home what p q u) k.0 in
        let c = field_fits f t r.0 gs r.1 h in
        let first : and_then (Val c.0) (λ v. and_then (record_parts fs gs) (λ vs. Val (v ∷ vs))) ≡ Val vs = subst (λ o. and_then (or_wrong o) (λ v. and_then (record_parts fs gs) (λ vs. Val (v ∷ vs))) ≡ Val vs) c.1 e in
        let y = value_same (record_parts fs gs) (λ vs. Val (c.0 ∷ vs)) vs first in
        let x = record_out fs ps (q + pattern_numbers p) t gs k.1 h y.0 y.1 in
        (size_and r.0 x.0, (r.2, x.1), subst (List_fit Of (size_and r.0 x.0)) (the_value (c.0 ∷ y.0) vs y.2) (c.2, x.2))

    mutual
      unfolding bound all_bound Pattern_takes All_take found

      -- its names have values of their sized types
      pub enters : (p : FlatPattern) (q : ℕ) (t : Size) (v : FlatValue) (G : Context) (env : FlatEnv) → Name_home W.sizing p q → Simple W.sizing p q → q + pattern_numbers p ≤ at → Nodes_away N types W at hi p q → Pattern_takes N types W.sizing.size_at W.sizing.home what p q t → Of t v → Names_worth m p v → Env_of G env
          → Out_fits (There W.is_there) (λ x. Env_of (with_pattern W.sizing.size_at p q G) x) (bound q p v env)
      enters (Bound_pattern b) q t v G env at_home simple le away takes h worth E =
          let fits = at_node_fits q t v takes h in
          let inside : Inside N types W.sizing.size_at W.sizing.home q (q + 1) (Name b.0) = (omega (arith, at_home), omega (arith, at_home)) in
          let outside = outside_narrower N types τ W (q + 1) hi at hi le (omega arith) (Name b.0) (apart N types τ W q (q + 1) hi (Name b.0) inside) in
          env_bind N types τ W at hi m (with_entered (W.sizing.size_at q) G) (entered q v env) b (W.sizing.size_at q) v
          (env_entered N types τ W S one at hi m q G env v E fits away
          (λ c z e k w. let same : c ≡ b.0 = simple c e k in (word_is v z w ∙ worth ∙ ap (λ k. m (Name k)) (sym same), subst (λ k. Out_beyond N types τ W at hi (Name k)) (sym same) outside)))
          fits away outside worth
          (λ e. name_found N types τ W S one at hi m q b.0 v _ fits at_home e)
      enters Wild_pattern q t v G env at_home simple le away takes h worth E =
          let fits = at_node_fits q t v takes h in
          env_entered N types τ W S one at hi m q G env v E fits away (λ c z e k w. absurd (simple c e k))
      enters (Typed_pattern p e) q t v G env at_home simple le away takes h worth E = enters p q t v G env at_home simple le away takes h worth E
      enters (Tuple_pattern ps) q t (Tuple_value vs) G env at_home simple le away takes h worth E =
          all_enter ps (1 + q) takes.1 (listed vs) (with_entered (W.sizing.size_at q) G) (entered q (Tuple_value vs) env) simple (omega (arith, le)) away.1 takes.3 (tuple_parts_fit takes.1 vs (subst (λ x. Of x (Tuple_value vs)) takes.2 h)) worth
          (env_entered N types τ W S one at hi m q G env (Tuple_value vs) E (at_node_fits q t (Tuple_value vs) takes.0 h) away.0 (λ c z e k w. none_no w))
      enters (Tuple_pattern ps) q t v G env at_home simple le away takes h worth E = tt
      enters (Record_pattern fs ps) q t (Record_value gs) G env at_home simple le away takes h worth E =
          out_known _ (λ x. Env_of (with_all_patterns W.sizing.size_at ps (1 + q) (with_entered (W.sizing.size_at q) G)) x) (record_parts fs gs) (λ vs. all_bound (1 + q) ps vs (entered q (Record_value gs) env)) (record_parts_fine W.is_there fs gs)
          (λ vs e. let r = record_out fs ps (1 + q) t gs takes.1 h vs e in
          all_enter ps (1 + q) r.0 vs (with_entered (W.sizing.size_at q) G) (entered q (Record_value gs) env) simple (omega (arith, le)) away.1 r.1 r.2 (subst (λ o. All_worth m ps (or_nothing o)) e worth)
          (env_entered N types τ W S one at hi m q G env (Record_value gs) E (at_node_fits q t (Record_value gs) takes.0 h) away.0 (λ c z e k w. none_no w)))
      enters (Record_pattern fs ps) q t v G env at_home simple le away takes h worth E = tt

      all_enter : (ps : Patterns Ref BindId) (q : ℕ) (ts : Sizes) (vs : List FlatValue) (G : Context) (env : FlatEnv) → All_parts W.sizing ps q → q + all_pattern_numbers ps ≤ at → All_nodes_away N types W at hi ps q → All_take N types W.sizing.size_at W.sizing.home what ps q ts → List_fit Of ts vs → All_worth m ps vs → Env_of G env
          → Out_fits (There W.is_there) (λ x. Env_of (with_all_patterns W.sizing.size_at ps q G) x) (all_bound q ps vs env)
      all_enter no_pattern q ts [] G env simple le away takes h worth E = E
      all_enter no_pattern q ts (v ∷ vs) G env simple le away takes h worth E = tt
      all_enter (pattern_and p ps) q ts [] G env simple le away takes h worth E = tt
      all_enter (pattern_and p ps) q no_size (v ∷ vs) G env simple le away takes h worth E = absurd takes
      all_enter (pattern_and p ps) q (size_and t ts) (v ∷ vs) G env simple le away takes h worth E =
          out_then _ (λ x. Env_of (with_pattern W.sizing.size_at p q G) x) (λ x. Env_of (with_all_patterns W.sizing.size_at ps (q + pattern_numbers p) (with_pattern W.sizing.size_at p q G)) x) (bound q p v env) (λ e. all_bound (q + pattern_numbers p) ps vs e)
          (enters p q t v G env simple.0 simple.1 (omega (arith, le)) away.0 takes.0 h.0 worth.0 E)
          (λ e E'. all_enter ps (q + pattern_numbers p) ts vs (with_pattern W.sizing.size_at p q G) e simple.2 (omega (arith, le)) away.1 takes.1 h.1 worth.1 E')
