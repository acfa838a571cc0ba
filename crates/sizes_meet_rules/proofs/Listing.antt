-- The sizes of some property that stand in a sized type, in a list: each stands in it once.
use Rattle.std.proofs.Common.{◌≡◌, ◌⊎◌, ℕ, zero, suc, ◌+◌, ◌<◌, List, [], ◌∷◌, ◌++◌, length, Bool, true, false, not, ◌||◌, ◌&&◌, cond, nat_eq, Some, None, refl, sym, ap, ◌∙◌, subst, arith, inl, inr, eqb-true}
use Rattle.sized_types.specs.Sizes.{Free, Const, Name, Dim, At, Bound, Size, Hole, Open, Level, Built, Fun, Sizes, no_size, size_and, is_free}
use Rattle.fut_sizes.specs.Functions.{stands_among, with_free, collected, all_collected, sizes_in, position_from, without}
use Rattle.fut_sizes.specs.Suiting.{Each, Each_all, Scoped}
use Rattle.sizes_meet_rules.proofs.Replacing.{free_same, same_free, each_as}
use Rattle.fut_sizes.specs.Agreeing.{is_among}
use Rattle.sizes_meet_rules.proofs.Naming.{or_first, or_later}
use Rattle.sizes_meet_rules.proofs.Taking.{among_later}

unfoldable pub nth : List Free → ℕ → Free
nth [] i = Const 0
nth (e ∷ es) zero = e
nth (e ∷ es) (suc i) = nth es i

abbrev pub Some_at : List Free → ℕ → Free → ℕ → Type 0
Some_at es k d i = (j : ℕ) × (i ≡ k + j) × (j < length es) × (nth es j ≡ d)

-- what is found stands there
pub found_at : (es : List Free) (k : ℕ) (d : Free) (i : ℕ) → position_from k es d ≡ Some i → Some_at es k d i
unfolding nth
found_at [] k d i e = absurd (let z : None ≡ Some i = e in cc)
found_at (x ∷ es) k d i e = by_first (found_at es (suc k) d i) (is_free x d) refl e
  where
    one_later : Some_at es (suc k) d i → Some_at (x ∷ es) k d i
    one_later (j, a, b, c) = (suc j, omega (arith, a), omega (arith, b), c)

    by_first : (position_from (suc k) es d ≡ Some i → Some_at es (suc k) d i) → (b : Bool) → is_free x d ≡ b → cond b (Some k) (position_from (suc k) es d) ≡ Some i → Some_at (x ∷ es) k d i
    by_first go true q z = (zero, (let y : k ≡ i = cc in omega (arith, y)), omega arith, free_same x d q)
    by_first go false q z = one_later (go z)

pub among_found : (es : List Free) (k : ℕ) (d : Free) → stands_among es d ≡ true → (i : ℕ) × (position_from k es d ≡ Some i)
among_found [] k d e = absurd (let z : false ≡ true = e in cc)
among_found (x ∷ es) k d e = by_first (among_found es (suc k) d) (is_free x d) refl e
  where
    by_first : (stands_among es d ≡ true → (i : ℕ) × (position_from (suc k) es d ≡ Some i)) → (b : Bool) → is_free x d ≡ b → b || stands_among es d ≡ true → (i : ℕ) × (position_from k (x ∷ es) d ≡ Some i)
    by_first go true q z = (k, ap (λ c. cond c (Some k) (position_from (suc k) es d)) q)
    by_first go false q z = let r = go z in (r.0, ap (λ c. cond c (Some k) (position_from (suc k) es d)) q ∙ r.1)

pub among_nth : (es : List Free) (j : ℕ) → j < length es → stands_among es (nth es j) ≡ true
unfolding nth
among_nth [] j l = absurd (omega (arith, l))
among_nth (x ∷ es) zero l = or_first (is_free x x) (stands_among es x) (same_free x)
among_nth (x ∷ es) (suc j) l = or_later (is_free x (nth es j)) (stands_among es (nth es j)) (among_nth es j (omega (arith, l)))

-- ---- each once

abbrev pub Once : List Free → Type 0
Once [] = Unit {0}
Once (x ∷ es) = (stands_among es x ≡ false) × Once es

pub once_found : (es : List Free) → Once es → (k j : ℕ) → j < length es → position_from k es (nth es j) ≡ Some (k + j)
unfolding nth
once_found [] o k j l = absurd (omega (arith, l))
once_found (x ∷ es) o k zero l = ap (λ c. cond c (Some k) (position_from (suc k) es x)) (same_free x) ∙ ap Some (let z : k ≡ k + 0 = omega arith in z)
once_found (x ∷ es) o k (suc j) l = by_first (once_found es o.1 (suc k) j (omega (arith, l))) (is_free x (nth es j)) refl
  where
    by_first : position_from (suc k) es (nth es j) ≡ Some (suc k + j) → (b : Bool) → is_free x (nth es j) ≡ b → cond (is_free x (nth es j)) (Some k) (position_from (suc k) es (nth es j)) ≡ Some (k + suc j)
    by_first go true q = absurd (let y : stands_among es x ≡ true = ap (stands_among es) (free_same x (nth es j) q) ∙ among_nth es j (omega (arith, l)) in let z : false ≡ true = sym o.0 ∙ y in cc)
    by_first go false q = ap (λ c. cond c (Some k) (position_from (suc k) es (nth es j))) q ∙ go ∙ ap Some (let z : suc k + j ≡ k + suc j = omega arith in z)

both_false : (a b : Bool) → a || b ≡ false → (a ≡ false) × (b ≡ false)
both_false true b e = absurd (let z : true ≡ false = e in cc)
both_false false b e = (refl, e)

among_behind : (es ds : List Free) (x : Free) → stands_among (es ++ ds) x ≡ stands_among es x || stands_among ds x
among_behind [] ds x = refl
among_behind (e ∷ es) ds x = ap (λ b. is_free e x || b) (among_behind es ds x) ∙ joined (is_free e x) (stands_among es x) (stands_among ds x)
  where
    joined : (a b c : Bool) → a || (b || c) ≡ (a || b) || c
    joined true b c = refl
    joined false b c = refl

not_back : (x d : Free) → is_free x d ≡ false → is_free d x || false ≡ false
not_back x d e = by_other (is_free d x) refl
  where
    by_other : (b : Bool) → is_free d x ≡ b → is_free d x || false ≡ false
    by_other true q = absurd (let z : true ≡ false = sym (ap (λ y. is_free y d) (sym (free_same d x q)) ∙ same_free d) ∙ e in cc)
    by_other false q = ap (λ b. b || false) q

once_more : (es : List Free) (d : Free) → Once es → stands_among es d ≡ false → Once (es ++ d ∷ [])
once_more [] d o e = (refl, tt)
once_more (x ∷ es) d o e = let b = both_false (is_free x d) (stands_among es d) e in (among_behind es (d ∷ []) x ∙ ap (λ c. c || (is_free d x || false)) o.0 ∙ not_back x d b.0, once_more es d o.1 b.1)

module _ (q : Free → Bool) where
  abbrev pub All_are : List Free → Type 0
  All_are [] = Unit {0}
  All_are (x ∷ es) = (q x ≡ true) × All_are es

  pub all_nth : (es : List Free) → All_are es → (j : ℕ) → j < length es → q (nth es j) ≡ true
  unfolding nth
  all_nth [] a j l = absurd (omega (arith, l))
  all_nth (x ∷ es) a zero l = a.0
  all_nth (x ∷ es) a (suc j) l = all_nth es a.1 j (omega (arith, l))

  all_more : (es : List Free) (d : Free) → All_are es → q d ≡ true → All_are (es ++ d ∷ [])
  all_more [] d a e = (e, tt)
  all_more (x ∷ es) d a e = (a.0, all_more es d a.1 e)

  -- ---- one size more, where it has the property and does not stand there yet
  Kept_list : List Free → List Free → Type 0
  Kept_list ds es = (Once ds → Once es) × (All_are ds → All_are es) × ((x : Free) → stands_among ds x ≡ true → stands_among es x ≡ true)

  kept_then : (ds es fs : List Free) → Kept_list ds es → Kept_list es fs → Kept_list ds fs
  unfolding Kept_list
  kept_then ds es fs a b = ((λ o. b.0 (a.0 o)), (λ o. b.1 (a.1 o)), λ x e. b.2 x (a.2 x e))

  one_listed : (d : Dim) (ds : List Free) → Kept_list ds (with_free q d ds) × ((x : Free) → d ≡ At x → q x ≡ true → stands_among (with_free q d ds) x ≡ true)
  unfolding Kept_list
  one_listed (Bound j i) ds = (((λ o. o), (λ o. o), λ x e. e), λ x e h. absurd (let z : Bound j i ≡ At x = e in cc))
  one_listed (At y) ds = by_property (q y) refl (stands_among ds y) refl
    where
      unchanged : (b : Bool) → q y && not (stands_among ds y) ≡ b → b ≡ false → with_free q (At y) ds ≡ ds
      unchanged b e f = ap (λ c. cond c (ds ++ y ∷ []) ds) (e ∙ f)

      same_size : (x : Free) → At y ≡ At x → y ≡ x
      same_size x e = cc

      by_property : (b : Bool) → q y ≡ b → (c : Bool) → stands_among ds y ≡ c
          → ((Once ds → Once (with_free q (At y) ds)) × (All_are ds → All_are (with_free q (At y) ds)) × ((x : Free) → stands_among ds x ≡ true → stands_among (with_free q (At y) ds) x ≡ true))
          × ((x : Free) → At y ≡ At x → q x ≡ true → stands_among (with_free q (At y) ds) x ≡ true)
      by_property false e c f = let z = unchanged false (ap (λ b. b && not (stands_among ds y)) e) refl in
          (((λ o. subst Once (sym z) o), (λ o. subst All_are (sym z) o), λ x h. ap (λ l. stands_among l x) z ∙ h), λ x g h. absurd (let w : false ≡ true = sym e ∙ ap q (same_size x g) ∙ h in cc))
      by_property true e true f = let z = unchanged false (ap (λ b. b && not (stands_among ds y)) e ∙ ap not f) refl in
          (((λ o. subst Once (sym z) o), (λ o. subst All_are (sym z) o), λ x h. ap (λ l. stands_among l x) z ∙ h), λ x g h. ap (λ l. stands_among l x) z ∙ ap (stands_among ds) (sym (same_size x g)) ∙ f)
      by_property true e false f = let z : with_free q (At y) ds ≡ ds ++ y ∷ [] = ap (λ c. cond c (ds ++ y ∷ []) ds) (ap (λ b. b && not (stands_among ds y)) e ∙ ap not f) in (
        ((λ o. subst Once (sym z) (once_more ds y o f)), (λ o. subst All_are (sym z) (all_more ds y o e)), λ x h. ap (λ l. stands_among l x) z ∙ among_behind ds (y ∷ []) x ∙ or_first (stands_among ds x) (stands_among (y ∷ []) x) h),
        λ x g h. ap (λ l. stands_among l x) z ∙ among_behind ds (y ∷ []) x ∙ or_later (stands_among ds x) (stands_among (y ∷ []) x) (or_first (is_free y x) false (ap (is_free y) (sym (same_size x g)) ∙ same_free y)),
      )

  mutual
    unfolding Kept_list collected all_collected

    all_listed : (t : Size) (ds : List Free) → Kept_list ds (collected q t ds)
    all_listed (Hole v) ds = ((λ o. o), (λ o. o), λ x e. e)
    all_listed (Open n v u) ds = ((λ o. o), (λ o. o), λ x e. e)
    all_listed (Level d t) ds = kept_then ds (with_free q d ds) (collected q t (with_free q d ds)) (one_listed d ds).0 (all_listed t (with_free q d ds))
    all_listed (Built k ts) ds = parts_listed ts ds
    all_listed (Fun k p r) ds = kept_then ds (collected q p ds) (collected q r (collected q p ds)) (all_listed p ds) (all_listed r (collected q p ds))

    parts_listed : (ts : Sizes) (ds : List Free) → Kept_list ds (all_collected q ts ds)
    parts_listed no_size ds = ((λ o. o), (λ o. o), λ x e. e)
    parts_listed (size_and t ts) ds = kept_then ds (collected q t ds) (all_collected q ts (collected q t ds)) (all_listed t ds) (parts_listed ts (collected q t ds))

  abbrev Listed : List Free → ℕ → Dim → Type 0
  Listed es j d = (x : Free) → d ≡ At x → q x ≡ true → stands_among es x ≡ true

  listed_still : (es fs : List Free) → Kept_list es fs → (j : ℕ) (d : Dim) → Listed es j d → Listed fs j d
  unfolding Kept_list
  listed_still es fs k j d h x e g = k.2 x (h x e g)

  mutual
    unfolding collected all_collected Each Each_all

    each_listed : (t : Size) (j : ℕ) (ds : List Free) → Each (Listed (collected q t ds)) j t
    each_listed (Hole v) j ds = tt
    each_listed (Open n v u) j ds = tt
    each_listed (Level d t) j ds = (listed_still (with_free q d ds) (collected q t (with_free q d ds)) (all_listed t (with_free q d ds)) j d (one_listed d ds).1, each_listed t j (with_free q d ds))
    each_listed (Built k ts) j ds = parts_each_listed ts j ds
    each_listed (Fun k p r) j ds = (each_as (Listed (collected q p ds)) (Listed (collected q r (collected q p ds))) (listed_still (collected q p ds) (collected q r (collected q p ds)) (all_listed r (collected q p ds))) p (suc j) (each_listed p (suc j) ds), each_listed r (suc j) (collected q p ds))

    parts_each_listed : (ts : Sizes) (j : ℕ) (ds : List Free) → Each_all (Listed (all_collected q ts ds)) j ts
    parts_each_listed no_size j ds = tt
    parts_each_listed (size_and t ts) j ds = (each_as (Listed (collected q t ds)) (Listed (all_collected q ts (collected q t ds))) (listed_still (collected q t ds) (all_collected q ts (collected q t ds)) (parts_listed ts (collected q t ds))) t j (each_listed t j ds), parts_each_listed ts j (collected q t ds))

  pub sizes_once : (t : Size) → Once (sizes_in q t)
  unfolding sizes_in Kept_list
  sizes_once t = (all_listed t []).0 tt

  pub sizes_are : (t : Size) → All_are (sizes_in q t)
  unfolding sizes_in Kept_list
  sizes_are t = (all_listed t []).1 tt

  pub sizes_listed : (t : Size) → Each (λ j d. (x : Free) → d ≡ At x → q x ≡ true → stands_among (sizes_in q t) x ≡ true) 0 t
  unfolding sizes_in
  sizes_listed t = each_listed t 0 []

-- what is listed has the property
pub listed_is : (q : Free → Bool) (t : Size) (x : Free) → stands_among (sizes_in q t) x ≡ true → q x ≡ true
listed_is q t x e = by_place (found_at (sizes_in q t) 0 x w.0 w.1)
  where
    w : (i : ℕ) × (position_from 0 (sizes_in q t) x ≡ Some i)
    w = among_found (sizes_in q t) 0 x e

    by_place : Some_at (sizes_in q t) 0 x w.0 → q x ≡ true
    by_place (j, a, b, c) = ap q (sym c) ∙ all_nth q (sizes_in q t) (sizes_are q t) j b

-- what is listed has what all sizes of the type have
module _ (P : Free → Type 0) (q : Free → Bool) where
  abbrev All_listed : List Free → Type 0
  All_listed ds = (x : Free) → stands_among ds x ≡ true → P x

  one_has : (d : Dim) (j : ℕ) (ds : List Free) → Scoped P j d → All_listed ds → All_listed (with_free q d ds)
  one_has (Bound k i) j ds h a = a
  one_has (At y) j ds h a = by_kept (q y && not (stands_among ds y))
    where
      by_last : (x : Free) (b : Bool) → stands_among ds x ≡ b → b || stands_among (y ∷ []) x ≡ true → P x
      by_last x true e z = a x e
      by_last x false e z = by_size (is_free y x) refl z
        where
          by_size : (c : Bool) → is_free y x ≡ c → c || false ≡ true → P x
          by_size true f w = subst P (free_same y x f) h
          by_size false f w = absurd (let v : false ≡ true = w in cc)

      by_kept : (b : Bool) → All_listed (cond b (ds ++ y ∷ []) ds)
      by_kept false = a
      by_kept true = λ x e. by_last x (stands_among ds x) refl (sym (among_behind ds (y ∷ []) x) ∙ e)

  mutual
    unfolding collected all_collected Each Each_all

    all_has : (t : Size) (j : ℕ) (ds : List Free) → Each (Scoped P) j t → All_listed ds → All_listed (collected q t ds)
    all_has (Hole v) j ds h a = a
    all_has (Open n v u) j ds h a = a
    all_has (Level d t) j ds h a = all_has t j (with_free q d ds) h.1 (one_has d j ds h.0 a)
    all_has (Built k ts) j ds h a = parts_have ts j ds h a
    all_has (Fun k p r) j ds h a = all_has r (suc j) (collected q p ds) h.1 (all_has p (suc j) ds h.0 a)

    parts_have : (ts : Sizes) (j : ℕ) (ds : List Free) → Each_all (Scoped P) j ts → All_listed ds → All_listed (all_collected q ts ds)
    parts_have no_size j ds h a = a
    parts_have (size_and t ts) j ds h a = parts_have ts j (collected q t ds) h.1 (all_has t j ds h.0 a)

  pub listed_has : (t : Size) → Each (Scoped P) 0 t → (x : Free) → stands_among (sizes_in q t) x ≡ true → P x
  unfolding sizes_in
  listed_has t h = all_has t 0 [] h (λ x e. absurd (let z : false ≡ true = e in cc))

-- ---- names without those that are chosen

abbrev Chosen_or : List Free → ℕ → List ℕ → ℕ → Bool → Type 0
Chosen_or ds x xs b c = (stands_among ds (Name b) ≡ true) ⊎ (is_among (cond c (without ds xs) (x ∷ without ds xs)) b ≡ true)

pub without_or : (ds : List Free) (bs : List ℕ) (b : ℕ) → is_among bs b ≡ true → (stands_among ds (Name b) ≡ true) ⊎ (is_among (without ds bs) b ≡ true)
without_or ds [] b e = absurd (let z : false ≡ true = e in cc)
without_or ds (x ∷ xs) b e = by_choice (stands_among ds (Name x)) refl (nat_eq b x) refl e (without_or ds xs b)
  where
    later : (c : Bool) → (stands_among ds (Name b) ≡ true) ⊎ (is_among (without ds xs) b ≡ true) → Chosen_or ds x xs b c
    later c (inl y) = inl y
    later true (inr y) = inr y
    later false (inr y) = inr (among_later (x ∷ []) (without ds xs) b y)

    by_choice : (c : Bool) → stands_among ds (Name x) ≡ c → (k : Bool) → nat_eq b x ≡ k → cond k true (is_among xs b) ≡ true → (is_among xs b ≡ true → (stands_among ds (Name b) ≡ true) ⊎ (is_among (without ds xs) b ≡ true)) → Chosen_or ds x xs b c
    by_choice c f false g e go = later c (go e)
    by_choice true f true g e go = inl (ap (λ y. stands_among ds (Name y)) (eqb-true b x g) ∙ f)
    by_choice false f true g e go = inr (ap (λ k. cond k true (is_among (without ds xs) b)) g)

pub without_among : (ds : List Free) (bs : List ℕ) (b : ℕ) → is_among (without ds bs) b ≡ true → is_among bs b ≡ true
without_among ds [] b e = e
without_among ds (x ∷ xs) b e = by_choice (stands_among ds (Name x)) (without_among ds xs b) e
  where
    by_name : (k : Bool) → (is_among (without ds xs) b ≡ true → is_among xs b ≡ true) → cond k true (is_among (without ds xs) b) ≡ true → cond k true (is_among xs b) ≡ true
    by_name true go e = refl
    by_name false go e = go e

    by_choice : (c : Bool) → (is_among (without ds xs) b ≡ true → is_among xs b ≡ true) → is_among (cond c (without ds xs) (x ∷ without ds xs)) b ≡ true → cond (nat_eq b x) true (is_among xs b) ≡ true
    by_choice true go e = among_later (x ∷ []) xs b (go e)
    by_choice false go e = by_name (nat_eq b x) go e
