-- A pattern that names sizes: each name takes the size that its level has, and stands in the pattern's own sized type.
use Rattle.std.proofs.Common.{◌≡◌, ◌⊎◌, ℕ, suc, ◌≤◌, List, [], ◌∷◌, Bool, true, false, ◌||◌, cond, nat_eq, Ok, Err, refl, sym, ap, ◌∙◌, subst, arith, inl, inr, eqb-true, eq-eqb}
use Rattle.std.proofs.lemmas.Bool.{ne_eqb, eqb-false}
use Rattle.fut_scalar.specs.declared.place.BindId.{BindId}
use Rattle.sized_types.specs.Sizes.{Free, Const, Name, Own, Unknown, Slot, Dim, At, Bound, Size, Hole, Open, Level, Built, Fun, Sizes, no_size, size_and, is_free, is_dim, replaced, all_replaced, renaming, renamed}
use Rattle.sized_types.specs.Standing.{stands, some_stands}
use Rattle.fut_sizes.specs.Agreeing.{Answer, Mismatch, Escapes, is_among}
use Rattle.fut_sizes.specs.Functions.{is_slot}
use Rattle.fut_sizes.specs.Matching.{Found, put, size_found, found_size, read, all_read, none_opened, dim_in, in_opened, meet_size, data_way, meet, all_meet}
use Rattle.fut_sizes.specs.Rules.{taken_by}
use Rattle.fut_sizes.specs.Scopes.{number_in, as_slot, as_taken, is_still_open, all_met}
use Rattle.fut_sizes.specs.Sizing.{bind_ids}
use Rattle.fut_sizes.specs.Suiting.{Each, Each_all, Scoped, Data, All_data}
use Rattle.sizes_meet_rules.proofs.Meeting.{then_ok, same_ok, refused_ok}
use Rattle.sizes_meet_rules.proofs.Naming.{or_first, or_later}
use Rattle.sizes_meet_rules.proofs.Reading.{put_settled, found_settled, settled_met, slot_met, Opens}
use Rattle.sizes_meet_rules.proofs.Replacing.{free_same, same_free, each_both, each_replaced}
use Rattle.sizes_meet_rules.proofs.Settling.{Is_settled}

-- ---- a slot that no level of the pattern has takes nothing

-- each slot has taken nothing, or a size that is settled
abbrev pub Unlinked : Found → Type 0
Unlinked σ = (j : ℕ) → (σ.size j ≡ Slot j) ⊎ (is_slot (σ.size j) ≡ false)

module _ (lo at i : ℕ) where
  -- what is found is unlinked still, and the slot is as it was
  abbrev Untouched : Found → Found → Type 0
  Untouched σ τ = Unlinked τ × (σ.size i ≡ Slot i → τ.size i ≡ Slot i)

  same_untouched : (σ τ : Found) → Unlinked σ → ◌≡◌ {A = Answer Found} (Ok σ) (Ok τ) → Untouched σ τ
  same_untouched σ τ u q = subst (Untouched σ) (same_ok q) (u, λ e. e)

  settled_untouched : (σ τ : Found) (d e : Free) → is_slot d ≡ false → is_slot e ≡ false → Unlinked σ → meet_size data_way at d e σ ≡ Ok τ → Untouched σ τ
  settled_untouched σ τ d e a b u q = by_same (is_free d e) (sym (settled_met at σ d e a b) ∙ q)
    where
      by_same : (c : Bool) → ◌≡◌ {A = Answer Found} (cond c (Ok σ) (Err (Mismatch at (At d) (At e)))) (Ok τ) → Untouched σ τ
      by_same true z = same_untouched σ τ u z
      by_same false z = refused_ok z

  slot_taken : (σ : Found) (j : ℕ) (e : Free) → (j ≡ i → ⊥) → is_slot e ≡ false → Unlinked σ → Untouched σ (size_found j e σ)
  slot_taken σ j e ne s u = (λ m. by_slot m (u m), λ z. ap (put j e) z ∙ ap (λ c. cond c e (Slot i)) (ne_eqb j i ne))
    where
      here : (m : ℕ) (c : Bool) → (cond c e (Slot m) ≡ Slot m) ⊎ (is_slot (cond c e (Slot m)) ≡ false)
      here m true = inr s
      here m false = inl refl

      by_slot : (m : ℕ) → (σ.size m ≡ Slot m) ⊎ (is_slot (σ.size m) ≡ false) → (put j e (σ.size m) ≡ Slot m) ⊎ (is_slot (put j e (σ.size m)) ≡ false)
      by_slot m (inl z) = subst (λ (x : Free). (put j e x ≡ Slot m) ⊎ (is_slot (put j e x) ≡ false)) (sym z) (here m (nat_eq j m))
      by_slot m (inr z) = inr (ap is_slot (put_settled j e (σ.size m) z) ∙ z)

  free_untouched : (σ τ : Found) (x e : Free) → (x ≡ Slot i → ⊥) → is_slot e ≡ false → Unlinked σ → meet_size data_way at (found_size σ x) e σ ≡ Ok τ → Untouched σ τ
  free_untouched σ τ (Slot j) e ne s u q = by_slot (u j) refl
    where
      by_slot : (σ.size j ≡ Slot j) ⊎ (is_slot (σ.size j) ≡ false) → ◌≡◌ {A = Free} (σ.size j) (σ.size j) → Untouched σ τ
      by_slot (inl z) y = subst (Untouched σ) (same_ok (sym (slot_met at j σ e s) ∙ ap (λ (w : Free). meet_size data_way at w e σ) (sym z) ∙ q)) (slot_taken σ j e (λ w. ne (ap Slot w)) s u)
      by_slot (inr z) y = settled_untouched σ τ (σ.size j) e z s u q
  free_untouched σ τ (Const c) e ne s u q = settled_untouched σ τ (Const c) e refl s u q
  free_untouched σ τ (Name c) e ne s u q = settled_untouched σ τ (Name c) e refl s u q
  free_untouched σ τ (Own n c) e ne s u q = settled_untouched σ τ (Own n c) e refl s u q
  free_untouched σ τ (Unknown n c) e ne s u q = settled_untouched σ τ (Unknown n c) e refl s u q

  abbrev Other : ℕ → Dim → Type 0
  Other j d = d ≡ At (Slot i) → ⊥

  abbrev Any_size : Free → Type 0
  Any_size d = Unit {0}

  mutual
    unfolding meet all_meet Each Each_all Data All_data

    pub untouched : (p t : Size) (σ τ : Found) → Data p → Data t → Each (Scoped Any_size) 0 p → Each Other 0 p → Each (Scoped Is_settled) 0 t → Unlinked σ → meet lo data_way at none_opened p none_opened t σ ≡ Ok τ → Untouched σ τ
    untouched (Open n v u) t σ τ dp dt b o s l q = absurd dp
    untouched (Fun k p r) t σ τ dp dt b o s l q = absurd dp
    untouched p (Open n v u) σ τ dp dt b o s l q = absurd dt
    untouched p (Fun k t r) σ τ dp dt b o s l q = absurd dt
    untouched (Hole v) (Hole w) σ τ dp dt b o s l q = same_untouched σ τ l q
    untouched (Hole v) (Level e t) σ τ dp dt b o s l q = same_untouched σ τ l q
    untouched (Hole v) (Built g ts) σ τ dp dt b o s l q = same_untouched σ τ l q
    untouched (Level d p) (Hole w) σ τ dp dt b o s l q = same_untouched σ τ l q
    untouched (Level d p) (Built g ts) σ τ dp dt b o s l q = same_untouched σ τ l q
    untouched (Level (Bound k m) p) (Level e t) σ τ dp dt b o s l q = absurd (let z = b.0 in omega (arith, z))
    untouched (Level (At x) p) (Level (Bound k m) t) σ τ dp dt b o s l q = absurd (let z = s.0 in omega (arith, z))
    untouched (Level (At x) p) (Level (At e) t) σ τ dp dt b o s l q =
        let r = then_ok (meet_size data_way at (found_size σ x) (found_size σ e) σ) q in
        let a = free_untouched σ r.first x e (λ z. o.0 (ap At z)) s.0 l (ap (λ (w : Free). meet_size data_way at (found_size σ x) w σ) (sym (found_settled σ e s.0)) ∙ r.done) in
        let c = untouched p t r.first τ dp dt b.1 o.1 s.1 a.0 r.rest in (c.0, λ z. c.1 (a.1 z))
    untouched (Built h ps) (Hole w) σ τ dp dt b o s l q = same_untouched σ τ l q
    untouched (Built h ps) (Level e t) σ τ dp dt b o s l q = same_untouched σ τ l q
    untouched (Built h ps) (Built g ts) σ τ dp dt b o s l q = all_untouched ps ts σ τ dp dt b o s l q

    all_untouched : (ps ts : Sizes) (σ τ : Found) → All_data ps → All_data ts → Each_all (Scoped Any_size) 0 ps → Each_all Other 0 ps → Each_all (Scoped Is_settled) 0 ts → Unlinked σ → all_meet lo data_way at none_opened ps none_opened ts σ ≡ Ok τ → Untouched σ τ
    all_untouched no_size no_size σ τ dp dt b o s l q = same_untouched σ τ l q
    all_untouched no_size (size_and t ts) σ τ dp dt b o s l q = same_untouched σ τ l q
    all_untouched (size_and p ps) no_size σ τ dp dt b o s l q = same_untouched σ τ l q
    all_untouched (size_and p ps) (size_and t ts) σ τ dp dt b o s l q =
        let r = then_ok (meet lo data_way at none_opened p none_opened t σ) q in
        let a = untouched p t σ r.first dp.0 dt.0 b.0 o.0 s.0 l r.done in
        let c = all_untouched ps ts r.first τ dp.1 dt.1 b.1 o.1 s.1 a.0 r.rest in (c.0, λ z. c.1 (a.1 z))

-- ---- the slots of size names

other_name : (x c : ℕ) → nat_eq x c ≡ false → nat_eq c x ≡ false
other_name x c e = ne_eqb c x (λ z. eqb-false x c e (sym z))

pub number_not : (k : ℕ) (xs : List BindId) (c : ℕ) → is_among (bind_ids xs) c ≡ false → number_in k xs c ≡ Name c
number_not k [] c e = refl
number_not k (x ∷ xs) c e = by_name (nat_eq c x.0) refl (number_not (suc k) xs c) e
  where
    by_name : (b : Bool) → nat_eq c x.0 ≡ b → (is_among (bind_ids xs) c ≡ false → number_in (suc k) xs c ≡ Name c) → cond b true (is_among (bind_ids xs) c) ≡ false → cond (nat_eq x.0 c) (Slot k) (number_in (suc k) xs c) ≡ Name c
    by_name true f go z = absurd (let y : true ≡ false = z in cc)
    by_name false f go z = ap (λ b. cond b (Slot k) (number_in (suc k) xs c)) (other_name c x.0 f) ∙ go z

number_there : (k : ℕ) (xs : List BindId) (c : ℕ) → is_among (bind_ids xs) c ≡ true → (i : ℕ) × (k ≤ i) × (number_in k xs c ≡ Slot i)
number_there k [] c e = absurd (let z : false ≡ true = e in cc)
number_there k (x ∷ xs) c e = by_name (nat_eq c x.0) refl (number_there (suc k) xs c) e
  where
    later : (i : ℕ) × (suc k ≤ i) × (number_in (suc k) xs c ≡ Slot i) → nat_eq c x.0 ≡ false → (i : ℕ) × (k ≤ i) × (cond (nat_eq x.0 c) (Slot k) (number_in (suc k) xs c) ≡ Slot i)
    later (i, l, z) f = (i, omega (arith, l), ap (λ b. cond b (Slot k) (number_in (suc k) xs c)) (other_name c x.0 f) ∙ z)

    by_name : (b : Bool) → nat_eq c x.0 ≡ b → (is_among (bind_ids xs) c ≡ true → (i : ℕ) × (suc k ≤ i) × (number_in (suc k) xs c ≡ Slot i)) → cond b true (is_among (bind_ids xs) c) ≡ true → (i : ℕ) × (k ≤ i) × (cond (nat_eq x.0 c) (Slot k) (number_in (suc k) xs c) ≡ Slot i)
    by_name true f go z = (k, omega arith, ap (λ b. cond b (Slot k) (number_in (suc k) xs c)) (eq-eqb x.0 c (sym (eqb-true c x.0 f))))
    by_name false f go z = later (go z) f

-- a slot is that of one name, and no slot before the first
number_from : (k : ℕ) (xs : List BindId) (c i : ℕ) → number_in k xs c ≡ Slot i → k ≤ i
number_from k [] c i e = absurd (let z : Name c ≡ Slot i = e in cc)
number_from k (x ∷ xs) c i e = by_name (nat_eq x.0 c) (number_from (suc k) xs c i) e
  where
    by_name : (b : Bool) → (number_in (suc k) xs c ≡ Slot i → suc k ≤ i) → cond b (Slot k) (number_in (suc k) xs c) ≡ Slot i → k ≤ i
    by_name true go z = let y : k ≡ i = (let w : Slot k ≡ Slot i = z in cc) in omega (arith, y)
    by_name false go z = let y = go z in omega (arith, y)

number_one : (k : ℕ) (xs : List BindId) (b c i : ℕ) → number_in k xs b ≡ Slot i → number_in k xs c ≡ Slot i → b ≡ c
number_one k [] b c i e f = absurd (let z : Name b ≡ Slot i = e in cc)
number_one k (x ∷ xs) b c i e f = by_names (nat_eq x.0 b) refl (nat_eq x.0 c) refl (number_one (suc k) xs b c i) e f
  where
    same : (n : ℕ) → Slot k ≡ Slot i → number_in (suc k) xs n ≡ Slot i → ⊥
    same n z w = let y : k ≡ i = cc in let l = number_from (suc k) xs n i w in omega (arith, y, l)

    by_names : (p : Bool) → nat_eq x.0 b ≡ p → (q : Bool) → nat_eq x.0 c ≡ q → (number_in (suc k) xs b ≡ Slot i → number_in (suc k) xs c ≡ Slot i → b ≡ c) → cond p (Slot k) (number_in (suc k) xs b) ≡ Slot i → cond q (Slot k) (number_in (suc k) xs c) ≡ Slot i → b ≡ c
    by_names true f true g go z w = sym (eqb-true x.0 b f) ∙ eqb-true x.0 c g
    by_names true f false g go z w = absurd (same c z w)
    by_names false f true g go z w = absurd (same b w z)
    by_names false f false g go z w = go z w

-- each size name has taken a size
pub names_met : (at k : ℕ) (xs : List BindId) (σ : Found) (z : Unit {0}) → all_met at k xs σ ≡ Ok z → (c : ℕ) → is_among (bind_ids xs) c ≡ true → is_still_open (found_size σ (number_in k xs c)) ≡ false
names_met at k [] σ z e c h = absurd (let y : false ≡ true = h in cc)
names_met at k (x ∷ xs) σ z e c h = by_open (is_still_open (σ.size k)) refl (λ y. names_met at (suc k) xs σ z y c) e
  where
    by_name : is_still_open (σ.size k) ≡ false → (b : Bool) → nat_eq x.0 c ≡ b → (is_among (bind_ids xs) c ≡ true → is_still_open (found_size σ (number_in (suc k) xs c)) ≡ false) → is_still_open (found_size σ (cond b (Slot k) (number_in (suc k) xs c))) ≡ false
    by_name f true g go = f
    by_name f false g go = go (ap (λ b. cond b true (is_among (bind_ids xs) c)) (sym (other_name x.0 c g)) ∙ h)

    by_open : (b : Bool) → is_still_open (σ.size k) ≡ b → (all_met at (suc k) xs σ ≡ Ok z → is_among (bind_ids xs) c ≡ true → is_still_open (found_size σ (number_in (suc k) xs c)) ≡ false) → ◌≡◌ {A = Answer (Unit {0})} (cond b (Err (Escapes at)) (all_met at (suc k) xs σ)) (Ok z) → is_still_open (found_size σ (cond (nat_eq x.0 c) (Slot k) (number_in (suc k) xs c))) ≡ false
    by_open true f go y = refused_ok y
    by_open false f go y = by_name f (nat_eq x.0 c) refl (go y)

-- ---- what each name takes

module _ (sizes : List BindId) (τ : Found) where
  abbrev pub what : ℕ → Free
  what c = as_taken sizes τ (Name c)

  pub taken_as : (d : Free) → is_slot d ≡ false → as_taken sizes τ d ≡ taken_by what (bind_ids sizes) d
  taken_as (Name c) s = by_name (is_among (bind_ids sizes) c) refl
    where
      by_name : (b : Bool) → is_among (bind_ids sizes) c ≡ b → as_taken sizes τ (Name c) ≡ cond b (what c) (Name c)
      by_name true e = refl
      by_name false e = ap (found_size τ) (number_not 0 sizes c e)
  taken_as (Const c) s = refl
  taken_as (Own n i) s = refl
  taken_as (Unknown n i) s = refl
  taken_as (Slot i) s = absurd (let z : true ≡ false = s in cc)

  mutual
    unfolding read all_read replaced all_replaced Each Each_all Data All_data

    -- the pattern's sized type with its names as slots, read, is that with what they take
    pub reads_taken : (w : Size) → Data w → Each (Scoped Is_settled) 0 w → read τ (in_opened none_opened (renamed (as_slot sizes) w)) ≡ renamed (taken_by what (bind_ids sizes)) w
    reads_taken (Hole v) d s = refl
    reads_taken (Open n v u) d s = absurd d
    reads_taken (Level (At x) w) d s = ap (λ e. Level (At e) (read τ (in_opened none_opened (renamed (as_slot sizes) w)))) (taken_as x s.0) ∙ ap (Level (At (taken_by what (bind_ids sizes) x))) (reads_taken w d s.1)
    reads_taken (Level (Bound k i) w) d s = absurd (let l = s.0 in omega (arith, l))
    reads_taken (Built h ws) d s = ap (Built h) (all_reads_taken ws d s)
    reads_taken (Fun k p r) d s = absurd d

    all_reads_taken : (ws : Sizes) → All_data ws → Each_all (Scoped Is_settled) 0 ws → all_read τ (all_replaced (dim_in none_opened) 0 (all_replaced (renaming (as_slot sizes)) 0 ws)) ≡ all_replaced (renaming (taken_by what (bind_ids sizes))) 0 ws
    all_reads_taken no_size d s = refl
    all_reads_taken (size_and w ws) d s = ap (λ e. size_and e (all_read τ (all_replaced (dim_in none_opened) 0 (all_replaced (renaming (as_slot sizes)) 0 ws)))) (reads_taken w d.0 s.0) ∙ ap (size_and (renamed (taken_by what (bind_ids sizes)) w)) (all_reads_taken ws d.1 s.1)

  mutual
    unfolding replaced all_replaced Data All_data

    pub data_renamed : (ρ : Free → Free) (w : Size) → Data w → Data (renamed ρ w)
    data_renamed ρ (Hole v) d = d
    data_renamed ρ (Open n v u) d = d
    data_renamed ρ (Level l w) d = data_renamed ρ w d
    data_renamed ρ (Built h ws) d = all_data_renamed ρ ws d
    data_renamed ρ (Fun k p r) d = d

    all_data_renamed : (ρ : Free → Free) (ws : Sizes) → All_data ws → All_data (all_replaced (renaming ρ) 0 ws)
    all_data_renamed ρ no_size d = d
    all_data_renamed ρ (size_and w ws) d = (data_renamed ρ w d.0, all_data_renamed ρ ws d.1)

  -- the slots stand by themselves
  slots_any : (w : Size) → Each (Scoped Is_settled) 0 w → Each (Scoped (λ x. Unit {0})) 0 (renamed (as_slot sizes) w)
  slots_any w s = each_replaced (renaming (as_slot sizes)) (Scoped Is_settled) (Scoped (λ x. Unit {0})) (λ j. j) (λ j. refl) turned w 0 s
    where
      turned : (j : ℕ) (d : Dim) → Scoped Is_settled j d → Scoped (λ x. Unit {0}) j (renaming (as_slot sizes) j d)
      turned j (At x) h = tt
      turned j (Bound k i) h = h

  -- outside of all function types they are opened
  mutual
    unfolding Each Each_all Data All_data

    pub all_open : (lo at : ℕ) (w : Size) → Data w → Each (Scoped (λ x. Unit {0})) 0 w → Each (Opens lo at none_opened) 0 w
    all_open lo at (Hole v) d s = tt
    all_open lo at (Open n v u) d s = absurd d
    all_open lo at (Level (At x) w) d s = ((x, refl), all_open lo at w d s.1)
    all_open lo at (Level (Bound k i) w) d s = absurd (let l = s.0 in omega (arith, l))
    all_open lo at (Built h ws) d s = parts_open lo at ws d s
    all_open lo at (Fun k p r) d s = absurd d

    parts_open : (lo at : ℕ) (ws : Sizes) → All_data ws → Each_all (Scoped (λ x. Unit {0})) 0 ws → Each_all (Opens lo at none_opened) 0 ws
    parts_open lo at no_size d s = tt
    parts_open lo at (size_and w ws) d s = (all_open lo at w d.0 s.0, parts_open lo at ws d.1 s.1)

  pub slots_open : (lo at : ℕ) (w : Size) → Data w → Each (Scoped Is_settled) 0 w → Each (Opens lo at none_opened) 0 (renamed (as_slot sizes) w)
  slots_open lo at w d s = all_open lo at (renamed (as_slot sizes) w) (data_renamed (as_slot sizes) w d) (slots_any w s)

-- what stands in no level is no level
module _ (y : Free) where
  mutual
    unfolding is_dim stands some_stands Each Each_all Data All_data

    pub nowhere : (w : Size) → Data w → stands w y ≡ false → Each (λ j d. d ≡ At y → ⊥) 0 w
    nowhere (Hole v) d e = tt
    nowhere (Open n v u) d e = absurd d
    nowhere (Level (At x) w) d e = by_first (is_free x y) refl (nowhere w d) e
      where
        by_first : (b : Bool) → is_free x y ≡ b → (stands w y ≡ false → Each (λ j d. d ≡ At y → ⊥) 0 w) → b || stands w y ≡ false → (At x ≡ At y → ⊥) × Each (λ j d. d ≡ At y → ⊥) 0 w
        by_first true f go z = absurd (let v : true ≡ false = z in cc)
        by_first false f go z = ((λ g. let v : true ≡ false = sym (same_free y) ∙ ap (λ u. is_free u y) (let u : y ≡ x = cc in u) ∙ f in cc), go z)
    nowhere (Level (Bound k i) w) d e = ((λ g. let v : Bound k i ≡ At y = g in cc), nowhere w d e)
    nowhere (Built h ws) d e = all_nowhere ws d e
    nowhere (Fun k p r) d e = absurd d

    all_nowhere : (ws : Sizes) → All_data ws → some_stands ws y ≡ false → Each_all (λ j d. d ≡ At y → ⊥) 0 ws
    all_nowhere no_size d e = tt
    all_nowhere (size_and w ws) d e = by_first (stands w y) refl (nowhere w d.0) (all_nowhere ws d.1) e
      where
        by_first : (b : Bool) → stands w y ≡ b → (stands w y ≡ false → Each (λ j d. d ≡ At y → ⊥) 0 w) → (some_stands ws y ≡ false → Each_all (λ j d. d ≡ At y → ⊥) 0 ws) → b || some_stands ws y ≡ false → Each (λ j d. d ≡ At y → ⊥) 0 w × Each_all (λ j d. d ≡ At y → ⊥) 0 ws
        by_first true f go rest z = absurd (let v : true ≡ false = z in cc)
        by_first false f go rest z = (go f, rest z)

  module _ (ρ : Free → Free) where
    mutual
      unfolding is_dim stands some_stands replaced all_replaced Data All_data

      -- and what stands in one is there where sizes are renamed
      pub stands_renamed : (w : Size) → Data w → stands w y ≡ true → stands (renamed ρ w) (ρ y) ≡ true
      stands_renamed (Hole v) d e = absurd (let z : false ≡ true = e in cc)
      stands_renamed (Open n v u) d e = absurd d
      stands_renamed (Level (At x) w) d e = by_first (is_free x y) refl (stands_renamed w d) e
        where
          by_first : (b : Bool) → is_free x y ≡ b → (stands w y ≡ true → stands (renamed ρ w) (ρ y) ≡ true) → b || stands w y ≡ true → is_free (ρ x) (ρ y) || stands (renamed ρ w) (ρ y) ≡ true
          by_first true f go z = or_first (is_free (ρ x) (ρ y)) (stands (renamed ρ w) (ρ y)) (ap (λ u. is_free (ρ u) (ρ y)) (free_same x y f) ∙ same_free (ρ y))
          by_first false f go z = or_later (is_free (ρ x) (ρ y)) (stands (renamed ρ w) (ρ y)) (go z)
      stands_renamed (Level (Bound k i) w) d e = stands_renamed w d e
      stands_renamed (Built h ws) d e = some_stand_renamed ws d e
      stands_renamed (Fun k p r) d e = absurd d

      some_stand_renamed : (ws : Sizes) → All_data ws → some_stands ws y ≡ true → some_stands (all_replaced (renaming ρ) 0 ws) (ρ y) ≡ true
      some_stand_renamed no_size d e = absurd (let z : false ≡ true = e in cc)
      some_stand_renamed (size_and w ws) d e = by_first (stands w y) refl (stands_renamed w d.0) (some_stand_renamed ws d.1) e
        where
          by_first : (b : Bool) → stands w y ≡ b → (stands w y ≡ true → stands (renamed ρ w) (ρ y) ≡ true) → (some_stands ws y ≡ true → some_stands (all_replaced (renaming ρ) 0 ws) (ρ y) ≡ true) → b || some_stands ws y ≡ true → stands (renamed ρ w) (ρ y) || some_stands (all_replaced (renaming ρ) 0 ws) (ρ y) ≡ true
          by_first true f go rest z = or_first (stands (renamed ρ w) (ρ y)) (some_stands (all_replaced (renaming ρ) 0 ws) (ρ y)) (go f)
          by_first false f go rest z = or_later (stands (renamed ρ w) (ρ y)) (some_stands (all_replaced (renaming ρ) 0 ws) (ρ y)) (rest z)

-- each size name stands in the pattern's own sized type, since it takes a size
module _ (lo at : ℕ) (sizes : List BindId) (w t : Size) (dw : Data w) (dt : Data t) (sw : Each (Scoped Is_settled) 0 w) (st : Each (Scoped Is_settled) 0 t) (σ τ : Found) (none_taken : (j : ℕ) → σ.size j ≡ Slot j)
    (met : meet lo data_way at none_opened (renamed (as_slot sizes) w) none_opened t σ ≡ Ok τ) (taken_all : (c : ℕ) → is_among (bind_ids sizes) c ≡ true → is_still_open (found_size τ (number_in 0 sizes c)) ≡ false) where
  pub name_stands : (c : ℕ) → is_among (bind_ids sizes) c ≡ true → stands w (Name c) ≡ true
  name_stands c h = by_standing (stands w (Name c)) refl
    where
      slot : (i : ℕ) × (0 ≤ i) × (number_in 0 sizes c ≡ Slot i)
      slot = number_there 0 sizes c h

      other : stands w (Name c) ≡ false → Each (λ j d. d ≡ At (Slot slot.0) → ⊥) 0 (renamed (as_slot sizes) w)
      other e = each_replaced (renaming (as_slot sizes)) (λ j d. Scoped Is_settled j d × (d ≡ At (Name c) → ⊥)) (λ j d. d ≡ At (Slot slot.0) → ⊥) (λ j. j) (λ j. refl) turned w 0 (each_both (Scoped Is_settled) (λ j d. d ≡ At (Name c) → ⊥) w 0 sw (nowhere (Name c) w dw e))
        where
          free : (x : Free) → is_slot x ≡ false → (At x ≡ At (Name c) → ⊥) → as_slot sizes x ≡ Slot slot.0 → ⊥
          free (Name b) s ne z = ne (ap (λ n. At (Name n)) (number_one 0 sizes b c slot.0 z slot.2))
          free (Const b) s ne z = let y : Const b ≡ Slot slot.0 = z in cc
          free (Own n b) s ne z = let y : Own n b ≡ Slot slot.0 = z in cc
          free (Unknown n b) s ne z = let y : Unknown n b ≡ Slot slot.0 = z in cc
          free (Slot b) s ne z = let y : true ≡ false = s in cc

          turned : (j : ℕ) (d : Dim) → Scoped Is_settled j d × (d ≡ At (Name c) → ⊥) → renaming (as_slot sizes) j d ≡ At (Slot slot.0) → ⊥
          turned j (At x) o z = free x o.0 o.1 (let y : as_slot sizes x ≡ Slot slot.0 = cc in y)
          turned j (Bound k i) o z = let y : Bound k i ≡ At (Slot slot.0) = z in cc

      by_standing : (b : Bool) → stands w (Name c) ≡ b → stands w (Name c) ≡ true
      by_standing true e = e
      by_standing false e =
          let u = untouched lo at slot.0 (renamed (as_slot sizes) w) t σ τ (data_renamed sizes τ (as_slot sizes) w dw) dt (slots_any sizes τ w sw) (other e) st (λ j. inl (none_taken j)) met in
          absurd (let z : true ≡ false = sym (ap is_still_open (ap (found_size τ) slot.2 ∙ u.1 (none_taken slot.0))) ∙ taken_all c h in cc)

  -- so what it takes stands in the value
  pub taken_stands : renamed (taken_by (what sizes τ) (bind_ids sizes)) w ≡ t → (c : ℕ) → is_among (bind_ids sizes) c ≡ true → stands t (what sizes τ c) ≡ true
  taken_stands e c h = ap (λ u. stands u (what sizes τ c)) (sym e) ∙ ap (stands (renamed (taken_by (what sizes τ) (bind_ids sizes)) w)) (ap (λ b. cond b (what sizes τ c) (Name c)) (sym h)) ∙ stands_renamed (Name c) (taken_by (what sizes τ) (bind_ids sizes)) w dw (name_stands c h)
