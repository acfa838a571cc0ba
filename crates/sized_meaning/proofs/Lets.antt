-- Lets: the names of a pattern are worth what its parts are, and sizes that it names what they take.
use Rattle.sized_meaning.specs.There.{There}
use Rattle.fut_meaning.specs.Found.{is_number as is_whole}
use Rattle.fut_meaning.specs.Telling.{found}
use Rattle.fut_meaning.specs.Values.{bind, entered}
use Rattle.std.specs.Prelude.{ℤ}
use Rattle.std.proofs.Common.{◌≡◌, ℕ, ◌+◌, ◌<◌, ◌≤◌, List, [], ◌∷◌, ◌++◌, Bool, true, false, ◌||◌, cond, nat_eq, Some, None, refl, sym, ap, ◌∙◌, subst, arith, eqb-true, eq-eqb}
use Rattle.fut_scalar.specs.declared.place.BindId.{BindId}
use Rattle.fut_flat.specs.Numbers.{pattern_numbers}
use Rattle.fut_flat.specs.Terms.{Bound_pattern, Typed_pattern}
use Rattle.fut_flat.specs.Erased.{FlatPattern}
use Rattle.fut_types.specs.Types.{Sub}
use Rattle.fut_typing.specs.Names.{Names}
use Rattle.fut_meaning.specs.Accessors.{bound}
use Rattle.fut_meaning.specs.Flats.{FlatValue, FlatEnv, flat_look}
use Rattle.fut_meaning.specs.Outcomes.{Val}
use Rattle.sized_types.specs.Sizes.{Free, Const, Name, Own, Unknown, Slot, Dim, At, Size, Hole, Open, Level, Built, Fun, Sizes, no_size, size_and, is_dim, renamed, Variable}
use Rattle.sized_types.specs.Standing.{stands, some_stands}
use Rattle.fut_sizes.specs.Agreeing.{leave, is_among, names_one}
use Rattle.fut_sizes.specs.Scopes.{i64_size, names}
use Rattle.fut_sizes.specs.Scoping.{Context, with_size_name, with_size_names, with_entered, with_pattern, with_scheme, is_name}
use Rattle.fut_sizes.specs.Sizing.{bind_ids}
use Rattle.fut_sizes.specs.Suiting.{Each, Each_all, Scoped}
use Rattle.fut_sizes.specs.Rules.{taken_by, Inside, Away, Pattern_takes}
use Rattle.sized_meaning.specs.Worth.{Worth, free, no_frames}
use Rattle.sized_meaning.specs.Shapes.{Meant}
use Rattle.sized_meaning.specs.Finding.{One_kind_each}
use Rattle.sized_meaning.specs.Fits.{Out_fits, word, Fits}
use Rattle.sized_meaning.specs.Law.{Sound, One_type, Name_home, Simple, Nodes_away, World, calls, Beyond as Out_beyond, Named_at, Env_fits, Result as Res}
use Rattle.sized_meaning.proofs.Finding.{dim_same, none_no}
use Rattle.sized_meaning.proofs.Reading.{fits_renamed_in}
use Rattle.sized_meaning.proofs.Suiting.{at_node, free_is}
use Rattle.sized_meaning.proofs.Environments.{same_some, beyond_node, inside_wider, outside_narrower, apart, fits_away, env_moves, same_val, env_entered}
use Rattle.sized_meaning.proofs.Patterns.{among_first, among_later, among_front, among_back, named_by, others_keep, names_worth, name_at, name_left, beyond_unnamed, enters}

-- a size that stands in a type is of those that its dims are of
module _ (In : Free → Type 0) (x : Free) where
  dim_in : (d : Dim) → is_dim d (At x) ≡ true → Scoped In 0 d → In x
  dim_in d e a = subst (Scoped In 0) (dim_same d (At x) e) a

  here_or_deeper : (A B : Bool) {X : Type 0} → A || B ≡ true → (A ≡ true → X) → (B ≡ true → X) → X
  here_or_deeper true B e a b = a refl
  here_or_deeper false B e a b = b e

  mutual
    unfolding stands some_stands Each Each_all

    pub stands_in : (t : Size) → stands t x ≡ true → Each (Scoped In) 0 t → In x
    stands_in (Hole v) e a = absurd (let z : false ≡ true = e in cc)
    stands_in (Open n v u) e a = absurd (let z : false ≡ true = e in cc)
    stands_in (Level d t) e a = here_or_deeper (is_dim d (At x)) (stands t x) e (λ q. dim_in d q a.0) (λ q. stands_in t q a.1)
    stands_in (Built h ts) e a = some_in ts e a
    stands_in (Fun k p r) e a = absurd (let z : false ≡ true = e in cc)

    some_in : (ts : Sizes) → some_stands ts x ≡ true → Each_all (Scoped In) 0 ts → In x
    some_in no_size e a = absurd (let z : false ≡ true = e in cc)
    some_in (size_and t ts) e a = here_or_deeper (stands t x) (some_stands ts x) e (λ q. stands_in t q a.0) (λ q. some_in ts q a.1)

-- size names are worth what they take
abbrev pub taking : (ℕ → Free) → List ℕ → Worth → Worth
taking what bs m (Name c) = cond (is_among bs c) (free m (what c)) (m (Name c))
taking what bs m d = m d

pub taking_else : (what : ℕ → Free) (bs : List ℕ) (m : Worth) (d : Free) → names_one bs (At d) ≡ false → taking what bs m d ≡ m d
taking_else what bs m (Name c) e = ap (λ b. cond b (free m (what c)) (m (Name c))) e
taking_else what bs m (Const c) e = refl
taking_else what bs m (Own n i) e = refl
taking_else what bs m (Unknown n i) e = refl
taking_else what bs m (Slot i) e = refl

pub none_first : (xs ys : List ℕ) (d : Free) → names_one (xs ++ ys) (At d) ≡ false → names_one xs (At d) ≡ false
none_first xs ys (Name c) e = among_first xs ys c e
none_first xs ys (Const c) e = refl
none_first xs ys (Own n i) e = refl
none_first xs ys (Unknown n i) e = refl
none_first xs ys (Slot i) e = refl

pub none_later : (xs ys : List ℕ) (d : Free) → names_one (xs ++ ys) (At d) ≡ false → names_one ys (At d) ≡ false
none_later xs ys (Name c) e = among_later xs ys c e
none_later xs ys (Const c) e = refl
none_later xs ys (Own n i) e = refl
none_later xs ys (Unknown n i) e = refl
none_later xs ys (Slot i) e = refl

module _ (N : Names) (types : Sub) (τ : Meant) (W : World) (S : Sound N types W.sizing) (one : One_kind_each τ) where
  abbrev s : ℕ → Size
  s n = W.sizing.size_at n

  abbrev Env_of : ℕ → ℕ → Worth → Context → FlatEnv → Type 0
  Env_of lo hi m G env = Env_fits N types τ W lo hi m G env

  abbrev R_of : ℕ → ℕ → Worth → Size → FlatValue → Type 0
  R_of lo hi m t v = Res N types τ W lo hi m t v

  abbrev Beyond : ℕ → ℕ → Free → Type 0
  Beyond lo hi d = Out_beyond N types τ W lo hi d

  abbrev In_nodes : ℕ → ℕ → Free → Type 0
  In_nodes lo hi d = Inside N types W.sizing.size_at W.sizing.home lo hi d

  abbrev Of : Worth → Size → FlatValue → Type 0
  Of m t v = Fits N τ W.sizing W.is_there (calls W) m no_frames t v

  -- ---- names of sizes have no values

  size_named : (lo hi : ℕ) (m : Worth) (G : Context) (env : FlatEnv) (b : ℕ) → Env_of lo hi m G env → Beyond lo hi (Name b) → ((v : FlatValue) → flat_look W.tops env b ≡ Val v → ⊥) → Env_of lo hi m (with_size_name b G) env
  unfolding Each Each_all
  size_named lo hi m G env b E o none = record {
    values = λ k u e v l. values k u v (nat_eq b k) refl e l;
    away = λ k u e. away k u (nat_eq b k) refl e;
    general = λ k u e. general k u (nat_eq b k) e;
    general_worth = λ k u e i. general_worth k u (nat_eq b k) e i;
    fresh = E.fresh;
    sizes_right = E.sizes_right;
    types_right = E.types_right;
    finds = E.finds;
    finds_types = E.finds_types;
  }
    where
      values : (k : ℕ) (u : Size) (v : FlatValue) (c : Bool) → nat_eq b k ≡ c → cond c (Some i64_size) (G.sizes k) ≡ Some u → flat_look W.tops env k ≡ Val v → Of m u v × (word v ≡ m (Name k))
      values k u v true q e l = absurd (none v (subst (λ n. flat_look W.tops env n ≡ Val v) (sym (eqb-true b k q)) l))
      values k u v false q e l = E.values k u e v l

      away : (k : ℕ) (u : Size) (c : Bool) → nat_eq b k ≡ c → cond c (Some i64_size) (G.sizes k) ≡ Some u → Away N types W.sizing.size_at W.sizing.home lo hi u × Beyond lo hi (Name k)
      away k u true q e = (subst (λ y. Away N types W.sizing.size_at W.sizing.home lo hi y) (same_some i64_size u e) tt, subst (λ n. Beyond lo hi (Name n)) (eqb-true b k q) o)
      away k u false q e = E.away k u e

      general : (k : ℕ) (u : Size) (c : Bool) → cond c None (G.schemes k) ≡ Some u → One_type (G.general k) u × Away N types W.sizing.size_at W.sizing.home lo hi u × ((v : FlatValue) → flat_look W.tops env k ≡ Val v → Of m u v)
      general k u true e = none_no e
      general k u false e = E.general k u e

      general_worth : (k : ℕ) (u : Size) (c : Bool) → cond c None (G.schemes k) ≡ Some u → is_whole u ≡ true → Beyond lo hi (Name k) × ((v : FlatValue) → flat_look W.tops env k ≡ Val v → word v ≡ m (Name k))
      general_worth k u true e i = none_no e
      general_worth k u false e i = E.general_worth k u e i

  pub sizes_named : (lo hi : ℕ) (m : Worth) (G : Context) (env : FlatEnv) (bs : List ℕ) → Env_of lo hi m G env → ((b : ℕ) → is_among bs b ≡ true → Beyond lo hi (Name b) × ((v : FlatValue) → flat_look W.tops env b ≡ Val v → ⊥)) → Env_of lo hi m (with_size_names bs G) env
  sizes_named lo hi m G env [] E h = E
  sizes_named lo hi m G env (b ∷ bs) E h =
      let first = h b (ap (λ c. cond c true (is_among bs b)) (eq-eqb b b refl)) in
      sizes_named lo hi m (with_size_name b G) env bs (size_named lo hi m G env b E first.0 first.1) (λ c e. h c (later (nat_eq c b) (is_among bs c) e))
    where
      later : (x y : Bool) → y ≡ true → cond x true y ≡ true
      later true y e = refl
      later false y e = e

  -- what is known of a pattern that takes a value, found at a node, of a type, with these names of sizes; the names' scope has the nodes from
  -- at up to hi
  pub record Taken_value (p : FlatPattern) (sizes : List BindId) (lo mid at hi : ℕ) (t : Size) : Type 0 where
    pub simple : Simple W.sizing p (1 + lo)
    pub what : ℕ → Free
    pub taken : Pattern_takes N types W.sizing.size_at W.sizing.home (taken_by what (bind_ids sizes)) p (1 + lo) t
    pub sizes_met : (c : ℕ) → is_among (bind_ids sizes) c ≡ true → stands t (what c) ≡ true
    pub sizes_apart : (c : ℕ) → is_among (bind_ids sizes) c ≡ true → is_among (names p) c ≡ false
    pub bound_here : (c : ℕ) → is_among (names p ++ bind_ids sizes) c ≡ true → In_nodes (1 + lo) mid (Name c)
    pub value_away : Away N types W.sizing.size_at W.sizing.home (1 + lo) mid t
    pub nodes : Nodes_away N types W at hi p (1 + lo)

  home_here : (p : FlatPattern) (lo mid : ℕ) → mid ≡ 1 + lo + pattern_numbers p → ((c : ℕ) → is_among (names p) c ≡ true → In_nodes (1 + lo) mid (Name c)) → Name_home W.sizing p (1 + lo)
  home_here (Bound_pattern b) lo mid z h = let i = h b.0 (ap (λ c. cond c true false) (eq-eqb b.0 b.0 refl)) in let x = i.0 in let y = i.1 in omega (arith, x, y, z)
  home_here (Typed_pattern p t) lo mid z h = home_here p lo mid z h
  home_here p lo mid z h = tt

  module _ (p : FlatPattern) (sizes : List BindId) (lo mid at hi : ℕ) (t : Size) (T : Taken_value p sizes lo mid at hi t) (l0 : mid ≡ 1 + lo + pattern_numbers p) (l1 : mid ≤ at) (l2 : at ≤ hi) (w : FlatValue) where
    abbrev here : List ℕ
    here = names p ++ bind_ids sizes

    abbrev pub worth_inside : Worth → Worth
    worth_inside m = named_by p w (taking T.what (bind_ids sizes) m)

    pub inside_else : (m : Worth) (d : Free) → names_one (names p ++ bind_ids sizes) (At d) ≡ false → named_by p w (taking T.what (bind_ids sizes) m) d ≡ m d
    inside_else m d e = others_keep p w (taking T.what (bind_ids sizes) m) d (none_first (names p) (bind_ids sizes) d e) ∙ taking_else T.what (bind_ids sizes) m d (none_later (names p) (bind_ids sizes) d e)

    pub inside_beyond : (m : Worth) (d : Free) → Beyond (1 + lo) mid d → named_by p w (taking T.what (bind_ids sizes) m) d ≡ m d
    inside_beyond m d o = inside_else m d (beyond_unnamed N types τ W (names p ++ bind_ids sizes) (1 + lo) mid T.bound_here d o)

    -- a size name is worth what it takes
    pub taken_stays : (m : Worth) (d : Free) → free (named_by p w (taking T.what (bind_ids sizes) m)) (taken_by T.what (bind_ids sizes) d) ≡ free (named_by p w (taking T.what (bind_ids sizes) m)) d
    taken_stays m (Name c) = by_test (is_among (bind_ids sizes) c) refl
      where
        by_test : (b : Bool) → is_among (bind_ids sizes) c ≡ b → free (named_by p w (taking T.what (bind_ids sizes) m)) (cond b (T.what c) (Name c)) ≡ named_by p w (taking T.what (bind_ids sizes) m) (Name c)
        by_test true e = free_is (named_by p w (taking T.what (bind_ids sizes) m)) m (T.what c) (inside_beyond m (T.what c) (stands_in (Beyond (1 + lo) mid) (T.what c) t (T.sizes_met c e) T.value_away))
            ∙ sym (others_keep p w (taking T.what (bind_ids sizes) m) (Name c) (T.sizes_apart c e) ∙ ap (λ b. cond b (free m (T.what c)) (m (Name c))) e)
        by_test false e = refl
    taken_stays m (Const c) = refl
    taken_stays m (Own n i) = refl
    taken_stays m (Unknown n i) = refl
    taken_stays m (Slot i) = refl

    pub inside_fits : (m : Worth) → Of m t w → Of (named_by p w (taking T.what (bind_ids sizes) m)) t w
    inside_fits m h = fits_away N types τ W (1 + lo) mid m (named_by p w (taking T.what (bind_ids sizes) m)) t w T.value_away (λ d o. inside_beyond m d o) h

    -- the environment inside, where the value fits at a worth that differs from that of the one around at these nodes alone
    pub taken_env : (m now : Worth) (G : Context) (env : FlatEnv) → Env_of lo hi m G env → ((d : Free) → Beyond lo hi d → now d ≡ m d) → Of now t w
        → Out_fits (There W.is_there) (λ x. Env_of at hi (named_by p w (taking T.what (bind_ids sizes) now)) (with_pattern W.sizing.size_at p (1 + lo) (with_size_names (bind_ids sizes) G)) x) (bound (1 + lo) p w env)
    taken_env m now G env E old h =
        let m' : Worth = named_by p w (taking T.what (bind_ids sizes) now) in
        let moved : (d : Free) → Beyond lo hi d → m' d ≡ m d = λ d o. inside_beyond now d (outside_narrower N types τ W lo hi (1 + lo) mid (omega arith) (omega (arith, l1, l2)) d o) ∙ old d o in
        let G' : Context = with_size_names (bind_ids sizes) G in
        let E' : Env_of at hi m' G' env = sizes_named at hi m' G env (bind_ids sizes) (env_moves N types τ W lo hi at hi m m' G env (omega (arith, l0, l1)) (omega arith) moved E)
        (λ b e. let i = T.bound_here b (among_back (names p) (bind_ids sizes) b e) in (
          outside_narrower N types τ W mid hi at hi l1 (omega arith) (Name b) (apart N types τ W (1 + lo) mid hi (Name b) i),
          λ v l. E.fresh b v (inside_wider N types τ W lo hi (1 + lo) mid (omega arith) (omega (arith, l1, l2)) (Name b) i) l,
        )) in
        let at_home : Name_home W.sizing p (1 + lo) = home_here p lo mid l0 (λ c e. T.bound_here c (among_front (names p) (bind_ids sizes) c e)) in
        enters N types τ W S one at hi m' (taken_by T.what (bind_ids sizes)) (λ d. taken_stays now d) p (1 + lo) t w G' env at_home T.simple (omega (arith, l0, l1)) T.nodes T.taken (inside_fits now h)
        (names_worth N types τ W p (1 + lo) w (taking T.what (bind_ids sizes) now) at_home T.simple) E'

  -- ---- names leave

  left_worth : (lo : ℕ) (xs : List ℕ) (m : Worth) (d : Free) → Beyond lo (1 + lo) d → free (at_node lo (λ i. m (Name (name_at xs i))) m) (leave lo xs d) ≡ free m d
  unfolding at_node
  left_worth lo xs m (Const c) o = refl
  left_worth lo xs m (Name y) o = name_left lo (λ i. m (Name (name_at xs i))) m 0 y xs (λ k. ap (λ i. m (Name (name_at xs i))) (let z : k + 0 ≡ k = omega arith in z))
  left_worth lo xs m (Own n i) o = beyond_node N types τ W lo (λ i. m (Name (name_at xs i))) m (Own n i) o
  left_worth lo xs m (Unknown n i) o = beyond_node N types τ W lo (λ i. m (Name (name_at xs i))) m (Unknown n i) o
  left_worth lo xs m (Slot i) o = refl

  -- a value of the body's type, as one of the type that is left
  pub names_leave : (lo at hi : ℕ) (xs : List ℕ) (m : Worth) (v : FlatValue) → lo < at → at ≤ hi → Away N types W.sizing.size_at W.sizing.home lo (1 + lo) (s at) → R_of at hi m (s at) v
      → (now : Worth) × ((d : Free) → Beyond lo (1 + lo) d → Beyond at hi d → now d ≡ m d) × Of now (renamed (leave lo xs) (s at)) v
  names_leave lo at hi xs m v l l' away r = (
    at_node lo (λ i. r.now (Name (name_at xs i))) r.now,
    λ d o o'. beyond_node N types τ W lo (λ i. r.now (Name (name_at xs i))) r.now d o ∙ r.old d o',
    fits_renamed_in N τ W.sizing W.is_there (calls W) (at_node lo (λ i. r.now (Name (name_at xs i))) r.now) r.now (leave lo xs) (Beyond lo (1 + lo)) (left_worth lo xs r.now) (s at) no_frames v away r.fits,
  )

  pub let_result : (p : FlatPattern) (sizes : List BindId) (lo mid at hi : ℕ) (t : Size) (T : Taken_value p sizes lo mid at hi t) (l0 : mid ≡ 1 + lo + pattern_numbers p) (l1 : mid ≤ at) (l2 : at ≤ hi) (w : FlatValue) (m now : Worth) → lo < hi → ((d : Free) → Beyond lo hi d → now d ≡ m d)
      → Away N types W.sizing.size_at W.sizing.home lo (1 + lo) (s at) → s lo ≡ renamed (leave lo (names p ++ bind_ids sizes)) (s at) → (v : FlatValue) → R_of at hi (named_by p w (taking T.what (bind_ids sizes) now)) (s at) v → R_of lo hi m (s lo) v
  let_result p sizes lo mid at hi t T l0 l1 l2 w m now l3 old away result v r =
      let x = names_leave lo at hi (names p ++ bind_ids sizes) (named_by p w (taking T.what (bind_ids sizes) now)) v (omega (arith, l0, l1)) l2 away r in record {
        now = x.0;
        old = λ d o. x.1 d (outside_narrower N types τ W lo hi lo (1 + lo) (omega arith) (omega (arith, l3)) d o) (outside_narrower N types τ W lo hi at hi (omega (arith, l0, l1)) (omega arith) d o)
            ∙ inside_beyond p sizes lo mid at hi t T l0 l1 l2 w now d (outside_narrower N types τ W lo hi (1 + lo) mid (omega arith) (omega (arith, l1, l2)) d o) ∙ old d o;
        fits = subst (λ u. Of x.0 u v) (sym result) x.2;
      }

  -- ---- a general name

  -- in its scope the name has its value
  pub general_env : (b : BindId) (lo at hi : ℕ) (w : FlatValue) (new : Variable → Bool) (G : Context) (env : FlatEnv) (m : Worth) → Env_of at hi m G env → Of m (s (1 + lo)) w → Away N types W.sizing.size_at W.sizing.home at hi (s (1 + lo)) → One_type new (s (1 + lo)) → is_whole (s (1 + lo)) ≡ false → Beyond at hi (Name b.0)
      → Env_of at hi m (with_scheme b.0 (s (1 + lo)) new (with_entered (s (1 + lo)) G)) (bind b w (entered (1 + lo) w env))
  unfolding flat_look found
  general_env b lo at hi w new G env m E h a one_type no_number o =
      let E1 : Env_of at hi m (with_entered (s (1 + lo)) G) (entered (1 + lo) w env) = env_entered N types τ W S one at hi m (1 + lo) G env w E h a (λ c z e k v. absurd (let y : false ≡ true = sym no_number ∙ k in cc)) in record {
        values = λ k u e x l. values E1 k u (nat_eq b.0 k) e x l;
        away = λ k u e. away E1 k u (nat_eq b.0 k) e;
        general = λ k u e. general E1 k u (nat_eq b.0 k) e;
        general_worth = λ k u e i. general_worth E1 k u (nat_eq b.0 k) e i;
        fresh = λ k x i l. fresh E1 k x (nat_eq b.0 k) refl i l;
        sizes_right = E1.sizes_right;
        types_right = E1.types_right;
        finds = λ d k e. finds E1 d k (is_name b.0 d) e;
        finds_types = E1.finds_types;
      }
    where
      values : Env_of at hi m (with_entered (s (1 + lo)) G) (entered (1 + lo) w env) → (k : ℕ) (u : Size) (c : Bool) → cond c None (G.sizes k) ≡ Some u → (x : FlatValue) → cond c (Val w) (flat_look W.tops env k) ≡ Val x → Of m u x × (word x ≡ m (Name k))
      values E1 k u true e x l = none_no e
      values E1 k u false e x l = E1.values k u e x l

      away : Env_of at hi m (with_entered (s (1 + lo)) G) (entered (1 + lo) w env) → (k : ℕ) (u : Size) (c : Bool) → cond c None (G.sizes k) ≡ Some u → Away N types W.sizing.size_at W.sizing.home at hi u × Beyond at hi (Name k)
      away E1 k u true e = none_no e
      away E1 k u false e = E1.away k u e

      general : Env_of at hi m (with_entered (s (1 + lo)) G) (entered (1 + lo) w env) → (k : ℕ) (u : Size) (c : Bool) → cond c (Some (s (1 + lo))) (G.schemes k) ≡ Some u → One_type (cond c new (G.general k)) u × Away N types W.sizing.size_at W.sizing.home at hi u × ((x : FlatValue) → cond c (Val w) (flat_look W.tops env k) ≡ Val x → Of m u x)
      general E1 k u true e = subst (λ y. One_type new y × Away N types W.sizing.size_at W.sizing.home at hi y × ((x : FlatValue) → Val w ≡ Val x → Of m y x)) (same_some (s (1 + lo)) u e) (one_type, a, (λ x l. subst (λ z. Of m (s (1 + lo)) z) (same_val w x l) h))
      general E1 k u false e = E1.general k u e

      general_worth : Env_of at hi m (with_entered (s (1 + lo)) G) (entered (1 + lo) w env) → (k : ℕ) (u : Size) (c : Bool) → cond c (Some (s (1 + lo))) (G.schemes k) ≡ Some u → is_whole u ≡ true → Beyond at hi (Name k) × ((x : FlatValue) → cond c (Val w) (flat_look W.tops env k) ≡ Val x → word x ≡ m (Name k))
      general_worth E1 k u true e i = absurd (let y : false ≡ true = sym no_number ∙ ap is_whole (same_some (s (1 + lo)) u e) ∙ i in cc)
      general_worth E1 k u false e i = E1.general_worth k u e i

      fresh : Env_of at hi m (with_entered (s (1 + lo)) G) (entered (1 + lo) w env) → (k : ℕ) (x : FlatValue) (c : Bool) → nat_eq b.0 k ≡ c → In_nodes at hi (Name k) → cond c (Val w) (flat_look W.tops env k) ≡ Val x → ⊥
      fresh E1 k x true q i l = o (subst (λ n. In_nodes at hi (Name n)) (sym (eqb-true b.0 k q)) i)
      fresh E1 k x false q i l = E1.fresh k x i l

      finds : Env_of at hi m (with_entered (s (1 + lo)) G) (entered (1 + lo) w env) → (d : Free) → Named_at N types τ W at hi d → (c : Bool) → cond c (is_whole (s (1 + lo))) ((with_entered (s (1 + lo)) G).finds d) ≡ true → (n : ℤ) × ((found W.sizing (entered (1 + lo) w env)).size d ≡ Some n)
      finds E1 d k true e = absurd (let y : false ≡ true = sym no_number ∙ e in cc)
      finds E1 d k false e = E1.finds d k e
