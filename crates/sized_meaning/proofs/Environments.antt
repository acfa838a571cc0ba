-- The names in scope keep values of their sized types, and what is found under them stays right.
use Rattle.fut_scalar.specs.declared.report.Report.{Report}
use Rattle.sized_meaning.specs.There.{There}
use Rattle.std.proofs.Common.{◌≡◌, ◌⊎◌, ℕ, zero, suc, ◌<◌, ◌≤◌, [], ◌∷◌, Bool, true, false, ◌&&◌, ◌||◌, cond, nat_eq, Option, Some, None, refl, sym, ap, ◌∙◌, subst, arith, inl, inr, eqb-true, eq-eqb, ltb-true, ◌+◌}
use Rattle.std.specs.Prelude.{ℤ, pos, nat_lt}
use Rattle.fut_scalar.specs.declared.place.BindId.{BindId}
use Rattle.fut_types.specs.declared.Head.TheVariants as head
use Rattle.fut_types.specs.Types.{Sub}
use Rattle.fut_typing.specs.Names.{Names}
use Rattle.fut_value.specs.Data.{Shape, Unmet_shape}
use Rattle.fut_scalar.specs.declared.scalar.Scalar.TheVariants as scalar
use Rattle.fut_scalar.specs.declared.scalar.ScalarType.TheVariants as sort
use Rattle.fut_meaning.specs.Accessors.{count_of}
use Rattle.fut_meaning.specs.Flats.{FlatValue, FlatEnv, flat_look}
use Rattle.fut_meaning.specs.Found.{Found, is_number as is_whole, named_worth, with_data, with_results, with_worth, if_told, chosen_none, chosen_shape}
use Rattle.fut_meaning.specs.Places.{size_place, type_place, size_of, at_path}
use Rattle.fut_meaning.specs.Telling.{worth_of, value_shape, found, tells}
use Rattle.fut_meaning.specs.Outcomes.{Out, Val, Fail, Wrong}
use Rattle.fut_meaning.specs.Values.{Scalar_value, bind, entered}
use Rattle.sized_types.specs.Sizes.{Free, Const, Name, Own, Unknown, Slot, Dim, At, Bound, Variable, Size, Hole, Open, Level, Built, Fun, Sizes, no_size, size_and}
use Rattle.sized_types.specs.Standing.{stands, has_hole, is_chosen, is_known, all_known, is_low, gives_chosen, all_chosen, stands_told, has_told}
use Rattle.fut_sizes.specs.Scopes.{i64_size}
use Rattle.fut_sizes.specs.Scoping.{Context, is_name, is_number, with_name, with_entered, with_positions, if_some}
use Rattle.fut_sizes.specs.Suiting.{Each, Each_all, Scoped, Of_positions, Data, All_data}
use Rattle.fut_sizes.specs.Rules.{Each_hole, Each_holes, Inside, Away}
use Rattle.sized_meaning.specs.Worth.{Worth, free, Frames, no_frames, push, number}
use Rattle.fut_scalar.specs.Integers.{integer_of}
use Rattle.sized_meaning.specs.Shapes.{Meant, Has_shape}
use Rattle.sized_meaning.specs.Finding.{One_kind_each, Well_formed, Reads}
use Rattle.sized_meaning.specs.Entered.{none_chosen}
use Rattle.sized_meaning.specs.Fits.{word, Fits}
use Rattle.sized_meaning.specs.Law.{Sound, One_type, World, calls, Beyond, Named_at, Env_fits}
use Rattle.sized_meaning.proofs.Reading.{fits_same, each_as}
use Rattle.std.proofs.lemmas.Bool.{ne_eqb}
use Rattle.sized_meaning.proofs.Known.{tells_one}
use Rattle.sized_meaning.proofs.Suiting.{at_node, free_is, function_of}
use Rattle.sized_meaning.proofs.Finding.{some_same, none_no, some_place, some_else, from_place, either, data_formed, data_reads, told_right, size_scoped, size_right, type_right, size_placed, type_placed}
use Rattle.sized_meaning.proofs.Entered.{both_true, fits_read}

the_size : Size → Option Size → Size
the_size u (Some t) = t
the_size u None = u

pub same_some : (t u : Size) → Some t ≡ Some u → t ≡ u
unfolding the_size
same_some t u e = ap (the_size t) e

value_or : FlatValue → Out FlatValue → FlatValue
value_or d (Val v) = v
value_or d (Fail r) = d
value_or d Wrong = d

pub same_val : (v w : FlatValue) → Val v ≡ Val w → v ≡ w
unfolding value_or
same_val v w e = ap (value_or v) e

-- ---- what is known by itself, and what names nothing that is met

mutual
  unfolding is_known all_known Data All_data

  pub known_data : (t : Size) → is_known t ≡ true → Data t
  known_data (Hole v) e = tt
  known_data (Open n v u) e = absurd (let z : false ≡ true = e in cc)
  known_data (Level d t) e = known_data t (both_true (is_chosen d) (is_known t) e).1
  known_data (Built k ts) e = all_known_data ts e
  known_data (Fun k p r) e = absurd (let z : false ≡ true = e in cc)

  all_known_data : (ts : Sizes) → all_known ts ≡ true → All_data ts
  all_known_data no_size e = tt
  all_known_data (size_and t ts) e = let b = both_true (is_known t) (all_known ts) e in (known_data t b.0, all_known_data ts b.1)

chosen_number : (m : Worth) (d : Dim) → is_chosen d ≡ true → chosen_none d ≡ number m (push none_chosen no_frames) d
unfolding push
chosen_number m (At (Const c)) e = refl
chosen_number m (At (Name b)) e = absurd (let z : false ≡ true = e in cc)
chosen_number m (At (Own n i)) e = absurd (let z : false ≡ true = e in cc)
chosen_number m (At (Unknown n i)) e = absurd (let z : false ≡ true = e in cc)
chosen_number m (At (Slot i)) e = absurd (let z : false ≡ true = e in cc)
chosen_number m (Bound zero i) e = refl
chosen_number m (Bound (suc j) i) e = absurd (let z : false ≡ true = e in cc)

mutual
  unfolding is_known all_known Each Each_all

  known_numbers : (m : Worth) (t : Size) → is_known t ≡ true → Each (λ j d. chosen_none d ≡ number m (push none_chosen no_frames) d) 0 t
  known_numbers m (Hole v) e = tt
  known_numbers m (Open n v u) e = tt
  known_numbers m (Level d t) e = let b = both_true (is_chosen d) (is_known t) e in (chosen_number m d b.0, known_numbers m t b.1)
  known_numbers m (Built k ts) e = all_known_numbers m ts e
  known_numbers m (Fun k p r) e = absurd (let z : false ≡ true = e in cc)

  all_known_numbers : (m : Worth) (ts : Sizes) → all_known ts ≡ true → Each_all (λ j d. chosen_none d ≡ number m (push none_chosen no_frames) d) 0 ts
  all_known_numbers m no_size e = tt
  all_known_numbers m (size_and t ts) e = let b = both_true (is_known t) (all_known ts) e in (known_numbers m t b.0, all_known_numbers m ts b.1)

mutual
  unfolding is_known all_known Each_hole Each_holes

  pub known_holes : (ok : Variable → Type 0) (t : Size) → is_known t ≡ true → Each_hole ok t
  known_holes ok (Hole v) e = absurd (let z : false ≡ true = e in cc)
  known_holes ok (Open n v u) e = absurd (let z : false ≡ true = e in cc)
  known_holes ok (Level d t) e = known_holes ok t (both_true (is_chosen d) (is_known t) e).1
  known_holes ok (Built k ts) e = all_known_holes ok ts e
  known_holes ok (Fun k p r) e = absurd (let z : false ≡ true = e in cc)

  all_known_holes : (ok : Variable → Type 0) (ts : Sizes) → all_known ts ≡ true → Each_holes ok ts
  all_known_holes ok no_size e = tt
  all_known_holes ok (size_and t ts) e = let b = both_true (is_known t) (all_known ts) e in (known_holes ok t b.0, all_known_holes ok ts b.1)

less_is : (i k : ℕ) → nat_lt i k ≡ true → i < k
less_is i k e = ltb-true i k e

low_position : (k : ℕ) (d : Dim) → is_low k d ≡ true → Of_positions (λ i. i < k) 1 d
low_position k (At x) e = tt
low_position k (Bound zero i) e = λ q. less_is i k e
low_position k (Bound (suc j) i) e = λ q. absurd (omega (arith, q))

mutual
  unfolding gives_chosen all_chosen Data All_data Each Each_all

  pub low_data : (k : ℕ) (t : Size) → gives_chosen k t ≡ true → Data t × Each (Of_positions (λ i. i < k)) 1 t
  low_data k (Hole v) e = (tt, tt)
  low_data k (Open n v u) e = absurd (let z : false ≡ true = e in cc)
  low_data k (Level d t) e = let b = both_true (is_low k d) (gives_chosen k t) e in let z = low_data k t b.1 in (z.0, (low_position k d b.0, z.1))
  low_data k (Built g ts) e = all_low_data k ts e
  low_data k (Fun l p r) e = absurd (let z : false ≡ true = e in cc)

  all_low_data : (k : ℕ) (ts : Sizes) → all_chosen k ts ≡ true → All_data ts × Each_all (Of_positions (λ i. i < k)) 1 ts
  all_low_data k no_size e = (tt, tt)
  all_low_data k (size_and t ts) e = let b = both_true (gives_chosen k t) (all_chosen k ts) e in let x = low_data k t b.0 in let y = all_low_data k ts b.1 in ((x.0, y.0), (x.1, y.1))

-- ---- a value that is a number

pub word_is : (v : FlatValue) (z : ℤ) → worth_of v ≡ Some z → count_of z ≡ word v
unfolding word
word_is (Scalar_value (scalar.Int t n)) z e = ap count_of (sym (some_same e))
word_is (Scalar_value (scalar.Bool b)) z e = none_no e
word_is v z e = none_no e

-- the sizing and the meaning tell the same types to be numbers
pub number_there : (t : Size) → is_number t ≡ true → is_whole t ≡ true
number_there (Built (head.Scalar (sort.Int i)) ts) e = refl
number_there t e = absurd (let x : false ≡ true = e in cc)

pub number_here : (t : Size) → is_whole t ≡ true → is_number t ≡ true
number_here (Built (head.Scalar (sort.Int i)) ts) e = refl
number_here t e = absurd (let x : false ≡ true = e in cc)

module _ (N : Names) (τ : Meant) (W : World) (m : Worth) (φ : Frames) where
  -- a whole number is worth one
  pub number_value : (t : Size) (v : FlatValue) → Fits N τ W.sizing W.is_there (calls W) m φ t v → is_whole t ≡ true → (z : ℤ) × (worth_of v ≡ Some z)
  unfolding Fits
  number_value (Built (head.Scalar (sort.Int i)) ts) (Scalar_value (scalar.Int t n)) h e = (integer_of t n, refl)
  number_value (Built (head.Scalar (sort.Int i)) ts) (Scalar_value (scalar.Bool b)) h e = absurd (let x : sort.Bool ≡ sort.Int i = h in cc)
  number_value (Built (head.Scalar (sort.Int i)) ts) v h e = absurd h
  number_value t v h e = absurd (let x : false ≡ true = e in cc)

module _ (N : Names) (types : Sub) (τ : Meant) (W : World) where
  abbrev s : ℕ → Size
  s n = W.sizing.size_at n

  abbrev home : ℕ → ℕ
  home b = W.sizing.home b

  abbrev Of : Worth → Size → FlatValue → Type 0
  Of m t v = Fits N τ W.sizing W.is_there (calls W) m no_frames t v

  abbrev In_nodes : ℕ → ℕ → Free → Type 0
  In_nodes lo hi d = Inside N types W.sizing.size_at W.sizing.home lo hi d

  abbrev Apart : ℕ → ℕ → Size → Type 0
  Apart lo hi t = Away N types W.sizing.size_at W.sizing.home lo hi t

  abbrev Out_of : ℕ → ℕ → Free → Type 0
  Out_of lo hi d = Beyond N types τ W lo hi d

  pub inside_wider : (lo hi lo' hi' : ℕ) → lo ≤ lo' → hi' ≤ hi → (d : Free) → In_nodes lo' hi' d → In_nodes lo hi d
  inside_wider lo hi lo' hi' p q (Const c) i = i
  inside_wider lo hi lo' hi' p q (Name b) i = let x = i.0 in let y = i.1 in (omega (arith, p, x), omega (arith, q, y))
  inside_wider lo hi lo' hi' p q (Own n k) i = let x = i.0 in let y = i.1 in (omega (arith, p, x), omega (arith, q, y))
  inside_wider lo hi lo' hi' p q (Unknown n k) i = let x = i.0 in let y = i.1 in (omega (arith, p, x), omega (arith, q, y))
  inside_wider lo hi lo' hi' p q (Slot k) i = i

  pub outside_narrower : (lo hi lo' hi' : ℕ) → lo ≤ lo' → hi' ≤ hi → (d : Free) → Out_of lo hi d → Out_of lo' hi' d
  outside_narrower lo hi lo' hi' p q d o i = o (inside_wider lo hi lo' hi' p q d i)

  pub apart : (lo mid hi : ℕ) (d : Free) → In_nodes lo mid d → Out_of mid hi d
  apart lo mid hi (Const c) i = λ j. absurd i
  apart lo mid hi (Name b) i = λ j. let x = i.1 in let y = j.0 in omega (arith, x, y)
  apart lo mid hi (Own n k) i = λ j. let x = i.1 in let y = j.0 in omega (arith, x, y)
  apart lo mid hi (Unknown n k) i = λ j. let x = i.1 in let y = j.0 in omega (arith, x, y)
  apart lo mid hi (Slot k) i = λ j. absurd i

  pub away_narrower : (lo hi lo' hi' : ℕ) → lo ≤ lo' → hi' ≤ hi → (t : Size) → Apart lo hi t → Apart lo' hi' t
  away_narrower lo hi lo' hi' p q t a = each_as (Scoped (Out_of lo hi)) (Scoped (Out_of lo' hi')) turns t 0 a
    where
      turns : (j : ℕ) (d : Dim) → Scoped (Out_of lo hi) j d → Scoped (Out_of lo' hi') j d
      turns j (At d) o = outside_narrower lo hi lo' hi' p q d o
      turns j (Bound j' i) o = o

  -- what is met at a node changes nothing beyond it
  pub beyond_node : (lo : ℕ) (F : ℕ → ℕ) (m : Worth) (d : Free) → Out_of lo (1 + lo) d → at_node lo F m d ≡ m d
  unfolding at_node
  beyond_node lo F m (Const c) o = refl
  beyond_node lo F m (Name b) o = refl
  beyond_node lo F m (Own n i) o = ap (λ b. cond b (F i) (m (Own n i))) (ne_eqb n lo (λ e. o (omega (arith, e), omega (arith, e))))
  beyond_node lo F m (Unknown n i) o = ap (λ b. cond b (F i) (m (Unknown n i))) (ne_eqb n lo (λ e. o (omega (arith, e), omega (arith, e))))
  beyond_node lo F m (Slot i) o = refl

  -- a report is quiet where the environment fits
  abbrev pub Quiet : ℕ → ℕ → Context → FlatEnv → Report → Type 0
  Quiet lo hi G env r = ((m : Worth) × Env_fits N types τ W lo hi m G env) → There W.is_there r

  pub fits_away : (lo hi : ℕ) (m m' : Worth) (t : Size) (v : FlatValue) → Apart lo hi t → ((d : Free) → Out_of lo hi d → m' d ≡ m d) → Of m t v → Of m' t v
  fits_away lo hi m m' t v a old h = fits_same (Out_of lo hi) m m' N τ W.sizing W.is_there (calls W) (λ d o. sym (old d o)) t 0 no_frames no_frames a (λ j i lt. refl) v h

  pub named_wider : (lo hi lo' hi' : ℕ) → lo ≤ lo' → hi' ≤ hi → (d : Free) → Named_at N types τ W lo' hi' d → Named_at N types τ W lo hi d
  named_wider lo hi lo' hi' p q d k = let x = k.1 in let y = k.2 in (k.0, omega (arith, p, x), omega (arith, q, y), k.3)

  pub env_moves : (lo hi lo' hi' : ℕ) (m m' : Worth) (G : Context) (env : FlatEnv) → lo ≤ lo' → hi' ≤ hi → ((d : Free) → Out_of lo hi d → m' d ≡ m d) → Env_fits N types τ W lo hi m G env → Env_fits N types τ W lo' hi' m' G env
  env_moves lo hi lo' hi' m m' G env p q old E = record {
    values = λ b t e v l. let h = E.values b t e v l in (fits_away lo hi m m' t v (E.away b t e).0 old h.0, h.1 ∙ sym (old (Name b) (E.away b t e).1));
    away = λ b t e. (away_narrower lo hi lo' hi' p q t (E.away b t e).0, outside_narrower lo hi lo' hi' p q (Name b) (E.away b t e).1);
    general = λ b t e. let g = E.general b t e in (g.0, away_narrower lo hi lo' hi' p q t g.1, λ v l. fits_away lo hi m m' t v g.1 old (g.2 v l));
    general_worth = λ b t e i. let g = E.general_worth b t e i in (outside_narrower lo hi lo' hi' p q (Name b) g.0, λ v l. g.1 v l ∙ sym (old (Name b) g.0));
    fresh = λ b v i l. E.fresh b v (inside_wider lo hi lo' hi' p q (Name b) i) l;
    sizes_right = λ d n e. let r = E.sizes_right d n e in (r.0 ∙ sym (free_is m' m d (old d r.1)), outside_narrower lo hi lo' hi' p q d r.1);
    types_right = E.types_right;
    finds = λ d k e. E.finds d (named_wider lo hi lo' hi' p q d k) e;
    finds_types = E.finds_types;
  }

  is_the_name : (b : ℕ) (d : Free) → is_name b d ≡ true → d ≡ Name b
  is_the_name b (Name c) e = ap Name (sym (eqb-true b c e))
  is_the_name b (Const c) e = absurd (let z : false ≡ true = e in cc)
  is_the_name b (Own n i) e = absurd (let z : false ≡ true = e in cc)
  is_the_name b (Unknown n i) e = absurd (let z : false ≡ true = e in cc)
  is_the_name b (Slot i) e = absurd (let z : false ≡ true = e in cc)

  pub env_bind : (lo hi : ℕ) (m : Worth) (G : Context) (env : FlatEnv) (b : BindId) (t : Size) (v : FlatValue) → Env_fits N types τ W lo hi m G env → Of m t v → Apart lo hi t → Out_of lo hi (Name b.0) → word v ≡ m (Name b.0)
      → (is_number t ≡ true → (n : ℤ) × ((found W.sizing env).size (Name b.0) ≡ Some n)) → Env_fits N types τ W lo hi m (with_name b.0 t G) (bind b v env)
  unfolding flat_look found
  env_bind lo hi m G env b t v E h a o w number_found = record {
    values = λ k u e x l. values k u x (nat_eq b.0 k) refl e l;
    away = λ k u e. away k u (nat_eq b.0 k) refl e;
    general = λ k u e. general k u (nat_eq b.0 k) e;
    general_worth = λ k u e i. general_worth k u (nat_eq b.0 k) e i;
    fresh = λ k x i l. fresh k x (nat_eq b.0 k) refl i l;
    sizes_right = E.sizes_right;
    types_right = E.types_right;
    finds = λ d k e. finds d k (is_name b.0 d) refl e;
    finds_types = E.finds_types;
  }
    where
      values : (k : ℕ) (u : Size) (x : FlatValue) (c : Bool) → nat_eq b.0 k ≡ c → cond c (Some t) (G.sizes k) ≡ Some u → cond c (Val v) (flat_look W.tops env k) ≡ Val x → Of m u x × (word x ≡ m (Name k))
      values k u x true q e l = (subst (λ y. Of m y x) (same_some t u e) (subst (λ y. Of m t y) (same_val v x l) h), sym (ap word (same_val v x l)) ∙ w ∙ ap (λ n. m (Name n)) (eqb-true b.0 k q))
      values k u x false q e l = E.values k u e x l

      away : (k : ℕ) (u : Size) (c : Bool) → nat_eq b.0 k ≡ c → cond c (Some t) (G.sizes k) ≡ Some u → Apart lo hi u × Out_of lo hi (Name k)
      away k u true q e = (subst (λ y. Apart lo hi y) (same_some t u e) a, subst (λ n. Out_of lo hi (Name n)) (eqb-true b.0 k q) o)
      away k u false q e = E.away k u e

      general : (k : ℕ) (u : Size) (c : Bool) → cond c None (G.schemes k) ≡ Some u → One_type (G.general k) u × Apart lo hi u × ((x : FlatValue) → cond c (Val v) (flat_look W.tops env k) ≡ Val x → Of m u x)
      general k u true e = none_no e
      general k u false e = E.general k u e

      general_worth : (k : ℕ) (u : Size) (c : Bool) → cond c None (G.schemes k) ≡ Some u → is_whole u ≡ true → Out_of lo hi (Name k) × ((x : FlatValue) → cond c (Val v) (flat_look W.tops env k) ≡ Val x → word x ≡ m (Name k))
      general_worth k u true e i = none_no e
      general_worth k u false e i = E.general_worth k u e i

      fresh : (k : ℕ) (x : FlatValue) (c : Bool) → nat_eq b.0 k ≡ c → In_nodes lo hi (Name k) → cond c (Val v) (flat_look W.tops env k) ≡ Val x → ⊥
      fresh k x true q i l = o (subst (λ n. In_nodes lo hi (Name n)) (sym (eqb-true b.0 k q)) i)
      fresh k x false q i l = E.fresh k x i l

      finds : (d : Free) → Named_at N types τ W lo hi d → (c : Bool) → is_name b.0 d ≡ c → cond c (is_number t) (G.finds d) ≡ true → (n : ℤ) × ((found W.sizing env).size d ≡ Some n)
      finds d k true q e = subst (λ x. (n : ℤ) × ((found W.sizing env).size x ≡ Some n)) (sym (is_the_name b.0 d q)) (number_found e)
      finds d k false q e = E.finds d k e

  -- sizes that a parameter chooses have names, and no values
  pub env_positions : (lo mid hi : ℕ) (m : Worth) (G : Context) (env : FlatEnv) (position : Free → Option ℕ) → mid ≤ hi → ((d : Free) (i : ℕ) → position d ≡ Some i → In_nodes lo mid d) → Env_fits N types τ W lo hi m G env → Apart mid hi i64_size
      → (m' : Worth) → ((d : Free) → Out_of lo hi d → m' d ≡ m d) → lo ≤ mid → Env_fits N types τ W mid hi m' (with_positions position G) env
  env_positions lo mid hi m G env position le own E plain m' old l = record {
    values = λ k u e x z. values k u x (position (Name k)) refl e z;
    away = λ k u e. away k u (position (Name k)) refl e;
    general = (env_moves lo hi mid hi m m' G env l (omega arith) old E).general;
    general_worth = (env_moves lo hi mid hi m m' G env l (omega arith) old E).general_worth;
    fresh = λ k x i z. E.fresh k x (inside_wider lo hi mid hi l (omega arith) (Name k) i) z;
    sizes_right = (env_moves lo hi mid hi m m' G env l (omega arith) old E).sizes_right;
    types_right = E.types_right;
    finds = λ d k e. E.finds d (named_wider lo hi mid hi l (omega arith) d k) e;
    finds_types = E.finds_types;
  }
    where
      values : (k : ℕ) (u : Size) (x : FlatValue) (o : Option ℕ) → position (Name k) ≡ o → if_some o (G.sizes k) ≡ Some u → flat_look W.tops env k ≡ Val x → Of m' u x × (word x ≡ m' (Name k))
      values k u x (Some i) p e z = absurd (E.fresh k x (inside_wider lo hi lo mid (omega arith) le (Name k) (own (Name k) i p)) z)
      values k u x None p e z = (env_moves lo hi lo hi m m' G env (omega arith) (omega arith) old E).values k u e x z

      away : (k : ℕ) (u : Size) (o : Option ℕ) → position (Name k) ≡ o → if_some o (G.sizes k) ≡ Some u → Apart mid hi u × Out_of mid hi (Name k)
      away k u (Some i) p e = (subst (λ y. Apart mid hi y) (same_some i64_size u e) plain, apart lo mid hi (Name k) (own (Name k) i p))
      away k u None p e = (env_moves lo hi mid hi m m' G env l (omega arith) old E).away k u e

  -- ---- a pattern takes a value

  module _ (S : Sound N types W.sizing) (one : One_kind_each τ) (lo hi : ℕ) (m : Worth) where
    -- what is found is right and made before; type variables stand for what is found
    abbrev pub Right_before : Found → Type 0
    Right_before V = ((d : Free) (n : ℤ) → V.size d ≡ Some n → (count_of n ≡ free m d) × Out_of lo hi d) × ((v : Variable) (h : Shape) → V.type v ≡ Some h → (τ v).shape h)

    pub data_right : (j : ℕ) (φ : Frames) (t : Size) (h : Shape) (V : Found) → Each (Scoped (Out_of lo hi)) j t → Reads N τ m φ t h → Right_before V → Right_before (with_data W.sizing.fields t h V)
    data_right j φ t h V a k r = (
      λ d n e. from_place (size_place W.sizing.fields (At d) t) (λ p. pos (size_of (at_path p h))) (V.size d) n e
          (λ p q z. (ap count_of (sym z) ∙ size_right N W.sizing.fields τ m φ S.fields (At d) t h k p q, size_scoped W.sizing.fields (Out_of lo hi) d j t a p q)) (λ q. r.0 d n q),
      λ v g e. from_place (type_place W.sizing.fields v t) (λ p. at_path p h) (V.type v) g e (λ p q z. subst (λ x. (τ v).shape x) z (type_right N W.sizing.fields τ m φ S.fields one v t h k p q)) (λ q. r.1 v g q),
    )

    -- the shape of a parameter that is known by itself
    known_shape : (p : Size) → is_known p ≡ true → Well_formed W.sizing.fields p → Has_shape N τ m (push none_chosen no_frames) p (chosen_shape W.sizing.fields p)
    known_shape p e f = told_right N W.sizing.fields S.fields τ m (push none_chosen no_frames) S.names chosen_none (λ v. Unmet_shape) p (data_formed W.sizing.fields p (known_data p e) f) (known_numbers m p e) (known_holes (λ v. (τ v).shape Unmet_shape) p e)

    -- and what a function tells of its results there
    told_reads : (k : ℕ) (p r : Size) (v : FlatValue) → Well_formed W.sizing.fields p → is_known p && gives_chosen k r ≡ true → Of m (Fun k p r) v → Reads N τ m (push none_chosen no_frames) r (tells W.sizing v (chosen_shape W.sizing.fields p ∷ []))
    told_reads k p r v f e h =
        let b = both_true (is_known p) (gives_chosen k r) e in
        let z = low_data k r b.1 in
        data_reads N τ m (push none_chosen no_frames) r _ (tells_one N τ W.sizing m no_frames k p r v z.0 z.1 (function_of N τ W.sizing W.is_there (calls W) m k p r v h).0 none_chosen (chosen_shape W.sizing.fields p) (known_shape p b.0 f))

    results_right : (t : Size) (v : FlatValue) (V : Found) → Well_formed W.sizing.fields t → Apart lo hi t → Of m t v → Right_before V → Right_before (with_results W.sizing.fields t (tells W.sizing v) V)
    unfolding with_results Well_formed Each
    results_right (Hole a) v V f w h r = r
    results_right (Open n a u) v V f w h r = r
    results_right (Level d t) v V f w h r = r
    results_right (Built k ts) v V f w h r = r
    results_right (Fun k p q) v V f w h r = told_or_not (is_known p && gives_chosen k q) refl
      where
        told_or_not : (b : Bool) → is_known p && gives_chosen k q ≡ b → Right_before (if_told b (with_data W.sizing.fields q (tells W.sizing v (chosen_shape W.sizing.fields p ∷ [])) V) V)
        told_or_not true e = data_right 1 (push none_chosen no_frames) q (tells W.sizing v (chosen_shape W.sizing.fields p ∷ [])) V w.1 (told_reads k p q v f.0 e h) r
        told_or_not false e = r

    -- what stands in a function's result is found in what it tells
    told_found : (t : Size) (v : FlatValue) (V : Found) (d : Free) → Well_formed W.sizing.fields t → Of m t v → (stands_told t d ≡ true) ⊎ ((n : ℤ) × (V.size d ≡ Some n)) → (n : ℤ) × ((with_results W.sizing.fields t (tells W.sizing v) V).size d ≡ Some n)
    unfolding with_results Well_formed
    told_found (Hole a) v V d f h (inl e) = absurd (let z : false ≡ true = e in cc)
    told_found (Hole a) v V d f h (inr e) = e
    told_found (Open n a u) v V d f h (inl e) = absurd (let z : false ≡ true = e in cc)
    told_found (Open n a u) v V d f h (inr e) = e
    told_found (Level x t) v V d f h (inl e) = absurd (let z : false ≡ true = e in cc)
    told_found (Level x t) v V d f h (inr e) = e
    told_found (Built k ts) v V d f h (inl e) = absurd (let z : false ≡ true = e in cc)
    told_found (Built k ts) v V d f h (inr e) = e
    told_found (Fun k p r) v V d f h (inl e) =
        let a = both_true (is_known p) (gives_chosen k r && stands r d) e in
        let b = both_true (gives_chosen k r) (stands r d) a.1 in
        let c = here (is_known p) (gives_chosen k r) a.0 b.0 in
        subst (λ z. (n : ℤ) × ((if_told z (with_data W.sizing.fields r (tells W.sizing v (chosen_shape W.sizing.fields p ∷ [])) V) V).size d ≡ Some n)) (sym c)
        (some_place (size_place W.sizing.fields (At d) r) (λ q. pos (size_of (at_path q (tells W.sizing v (chosen_shape W.sizing.fields p ∷ []))))) (V.size d) (size_placed W.sizing.fields d r f.1 b.1))
      where
        here : (x y : Bool) → x ≡ true → y ≡ true → x && y ≡ true
        here true true q w = refl
        here true false q w = w
        here false y q w = q
    told_found (Fun k p r) v V d f h (inr e) = told_or_not (is_known p && gives_chosen k r)
      where
        told_or_not : (b : Bool) → (n : ℤ) × ((if_told b (with_data W.sizing.fields r (tells W.sizing v (chosen_shape W.sizing.fields p ∷ [])) V) V).size d ≡ Some n)
        told_or_not true = some_else (size_place W.sizing.fields (At d) r) (λ q. pos (size_of (at_path q (tells W.sizing v (chosen_shape W.sizing.fields p ∷ []))))) (V.size d) e
        told_or_not false = e

    type_told : (t : Size) (v : FlatValue) (V : Found) (a : Variable) → Well_formed W.sizing.fields t → Of m t v → (has_told t a ≡ true) ⊎ ((g : Shape) × (V.type a ≡ Some g)) → (g : Shape) × ((with_results W.sizing.fields t (tells W.sizing v) V).type a ≡ Some g)
    unfolding with_results Well_formed
    type_told (Hole b) v V a f h (inl e) = absurd (let z : false ≡ true = e in cc)
    type_told (Hole b) v V a f h (inr e) = e
    type_told (Open n b u) v V a f h (inl e) = absurd (let z : false ≡ true = e in cc)
    type_told (Open n b u) v V a f h (inr e) = e
    type_told (Level x t) v V a f h (inl e) = absurd (let z : false ≡ true = e in cc)
    type_told (Level x t) v V a f h (inr e) = e
    type_told (Built k ts) v V a f h (inl e) = absurd (let z : false ≡ true = e in cc)
    type_told (Built k ts) v V a f h (inr e) = e
    type_told (Fun k p r) v V a f h (inl e) =
        let x = both_true (is_known p) (gives_chosen k r && has_hole r a) e in
        let b = both_true (gives_chosen k r) (has_hole r a) x.1 in
        let c = here (is_known p) (gives_chosen k r) x.0 b.0 in
        subst (λ z. (g : Shape) × ((if_told z (with_data W.sizing.fields r (tells W.sizing v (chosen_shape W.sizing.fields p ∷ [])) V) V).type a ≡ Some g)) (sym c)
        (some_place (type_place W.sizing.fields a r) (λ q. at_path q (tells W.sizing v (chosen_shape W.sizing.fields p ∷ []))) (V.type a) (type_placed W.sizing.fields a r f.1 b.1))
      where
        here : (x y : Bool) → x ≡ true → y ≡ true → x && y ≡ true
        here true true q w = refl
        here true false q w = w
        here false y q w = q
    type_told (Fun k p r) v V a f h (inr e) = told_or_not (is_known p && gives_chosen k r)
      where
        told_or_not : (b : Bool) → (g : Shape) × ((if_told b (with_data W.sizing.fields r (tells W.sizing v (chosen_shape W.sizing.fields p ∷ [])) V) V).type a ≡ Some g)
        told_or_not true = some_else (type_place W.sizing.fields a r) (λ q. at_path q (tells W.sizing v (chosen_shape W.sizing.fields p ∷ []))) (V.type a) e
        told_or_not false = e

    -- a name that has its home at the node is worth the value, where that is a number
    abbrev pub Named_here : ℕ → FlatValue → Type 0
    Named_here q v = (b : ℕ) (z : ℤ) → W.sizing.home b ≡ q → is_whole (s q) ≡ true → worth_of v ≡ Some z → (count_of z ≡ m (Name b)) × Out_of lo hi (Name b)

    worth_right : (q : ℕ) (v : FlatValue) (V : Found) → Named_here q v → Right_before V → Right_before (with_worth W.sizing.home q (s q) (worth_of v) V)
    worth_right q v V h w = ((λ d z e. here d z e), w.1)
      where
        tested : (b : ℕ) (z : ℤ) (x y : Bool) → nat_eq (W.sizing.home b) q ≡ x → is_whole (s q) ≡ y → cond (x && y) (worth_of v) (V.size (Name b)) ≡ Some z → (count_of z ≡ m (Name b)) × Out_of lo hi (Name b)
        tested b z true true i k e = h b z (eqb-true (W.sizing.home b) q i) k e
        tested b z true false i k e = w.0 (Name b) z e
        tested b z false y i k e = w.0 (Name b) z e

        here : (d : Free) (z : ℤ) → named_worth W.sizing.home q (s q) (worth_of v) d (V.size d) ≡ Some z → (count_of z ≡ free m d) × Out_of lo hi d
        here (Name b) z e = tested b z (nat_eq (W.sizing.home b) q) (is_whole (s q)) refl refl e
        here (Const c) z e = w.0 (Const c) z e
        here (Own k i) z e = w.0 (Own k i) z e
        here (Unknown k i) z e = w.0 (Unknown k i) z e
        here (Slot i) z e = w.0 (Slot i) z e

    -- a name of a number is found at its home
    pub name_found : (q b : ℕ) (v : FlatValue) (rest : Option ℤ) → Of m (s q) v → W.sizing.home b ≡ q → is_number (s q) ≡ true → (n : ℤ) × (cond (nat_eq (W.sizing.home b) q && is_whole (s q)) (worth_of v) rest ≡ Some n)
    name_found q b v rest h at_home e = tested (nat_eq (W.sizing.home b) q) (is_whole (s q)) (eq-eqb (W.sizing.home b) q at_home) (number_there (s q) e)
      where
        tested : (x y : Bool) → x ≡ true → y ≡ true → (n : ℤ) × (cond (x && y) (worth_of v) rest ≡ Some n)
        tested true true i k = number_value N τ W m no_frames (s q) v h (number_there (s q) e)
        tested true false i k = absurd (let z : false ≡ true = k in cc)
        tested false y i k = absurd (let z : false ≡ true = i in cc)

    -- what was found stays right where a value of its node's type is entered
    pub entered_right : (q : ℕ) (env : FlatEnv) (v : FlatValue) → Right_before (found W.sizing env) → Of m (s q) v → Apart lo hi (s q) → Named_here q v → Right_before (found W.sizing (entered q v env))
    unfolding found
    entered_right q env v r h a named =
        worth_right q v _ named (data_right 0 no_frames (s q) (value_shape v) _ a (fits_read N τ W.sizing W.is_there (calls W) m no_frames (s q) v h) (results_right (s q) v (found W.sizing env) (S.formed q) a h r))

    -- what a value of its node's type shows and tells, above what was found
    abbrev Shown : ℕ → FlatEnv → FlatValue → Found
    Shown q env v = with_data W.sizing.fields (s q) (value_shape v) (with_results W.sizing.fields (s q) (tells W.sizing v) (found W.sizing env))

    -- and is found, as is what stands in that type
    pub size_entered : (q : ℕ) (env : FlatEnv) (v : FlatValue) (d : Free) → Of m (s q) v → (stands (s q) d ≡ true) ⊎ ((stands_told (s q) d ≡ true) ⊎ ((n : ℤ) × ((found W.sizing env).size d ≡ Some n))) → (n : ℤ) × ((found W.sizing (entered q v env)).size d ≡ Some n)
    unfolding found
    size_entered q env v d h k = name_first d (size_found k)
      where
        name_first : (d : Free) → (n : ℤ) × ((Shown q env v).size d ≡ Some n) → (n : ℤ) × (named_worth W.sizing.home q (s q) (worth_of v) d ((Shown q env v).size d) ≡ Some n)
        name_first (Name b) r = tested (nat_eq (W.sizing.home b) q) (is_whole (s q)) refl
          where
            tested : (x y : Bool) → is_whole (s q) ≡ y → (n : ℤ) × (cond (x && y) (worth_of v) ((Shown q env v).size (Name b)) ≡ Some n)
            tested true true e = number_value N τ W m no_frames (s q) v h e
            tested true false e = r
            tested false y e = r
        name_first (Const c) r = r
        name_first (Own k i) r = r
        name_first (Unknown k i) r = r
        name_first (Slot i) r = r

        size_found : (stands (s q) d ≡ true) ⊎ ((stands_told (s q) d ≡ true) ⊎ ((n : ℤ) × ((found W.sizing env).size d ≡ Some n))) → (n : ℤ) × ((Shown q env v).size d ≡ Some n)
        size_found (inl e) = some_place (size_place W.sizing.fields (At d) (s q)) (λ p. pos (size_of (at_path p (value_shape v)))) _ (size_placed W.sizing.fields d (s q) (S.formed q) e)
        size_found (inr e) = some_else (size_place W.sizing.fields (At d) (s q)) (λ p. pos (size_of (at_path p (value_shape v)))) _ (told_found (s q) v (found W.sizing env) d (S.formed q) h e)

    pub env_entered : (q : ℕ) (G : Context) (env : FlatEnv) (v : FlatValue) → Env_fits N types τ W lo hi m G env → Of m (s q) v → Apart lo hi (s q) → Named_here q v → Env_fits N types τ W lo hi m (with_entered (s q) G) (entered q v env)
    unfolding flat_look found
    env_entered q G env v E h a named =
        let right = entered_right q env v (E.sizes_right, E.types_right) h a named in record {
          values = E.values;
          away = E.away;
          general = E.general;
          general_worth = E.general_worth;
          fresh = E.fresh;
          sizes_right = right.0;
          types_right = right.1;
          finds = λ d k e. size_entered q env v d h (size_known d k (either (stands (s q) d) (stands_told (s q) d || G.finds d) e));
          finds_types = λ b e. type_found b (either (has_hole (s q) b) (has_told (s q) b || G.finds_types b) e);
        }
      where
        size_known : (d : Free) → Named_at N types τ W lo hi d → (stands (s q) d ≡ true) ⊎ (stands_told (s q) d || G.finds d ≡ true) → (stands (s q) d ≡ true) ⊎ ((stands_told (s q) d ≡ true) ⊎ ((n : ℤ) × ((found W.sizing env).size d ≡ Some n)))
        size_known d k (inl e) = inl e
        size_known d k (inr e) = inr (by_told (either (stands_told (s q) d) (G.finds d) e))
          where
            by_told : (stands_told (s q) d ≡ true) ⊎ (G.finds d ≡ true) → (stands_told (s q) d ≡ true) ⊎ ((n : ℤ) × ((found W.sizing env).size d ≡ Some n))
            by_told (inl e) = inl e
            by_told (inr e) = inr (E.finds d k e)

        type_found : (b : Variable) → (has_hole (s q) b ≡ true) ⊎ (has_told (s q) b || G.finds_types b ≡ true) → (g : Shape) × ((with_data W.sizing.fields (s q) (value_shape v) (with_results W.sizing.fields (s q) (tells W.sizing v) (found W.sizing env))).type b ≡ Some g)
        type_found b (inl e) = some_place (type_place W.sizing.fields b (s q)) (λ p. at_path p (value_shape v)) _ (type_placed W.sizing.fields b (s q) (S.formed q) e)
        type_found b (inr e) = some_else (type_place W.sizing.fields b (s q)) (λ p. at_path p (value_shape v)) _ (type_told (s q) v (found W.sizing env) b (S.formed q) h (by_told (either (has_told (s q) b) (G.finds_types b) e)))
          where
            by_told : (has_told (s q) b ≡ true) ⊎ (G.finds_types b ≡ true) → (has_told (s q) b ≡ true) ⊎ ((g : Shape) × ((found W.sizing env).type b ≡ Some g))
            by_told (inl e) = inl e
            by_told (inr e) = inr (E.finds_types b e)
