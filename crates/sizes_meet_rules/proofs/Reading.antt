-- An argument that is data says the sizes of its parameter: what is found of it reads as the argument.
use Rattle.std.proofs.Common.{◌≡◌, ℕ, Bool, true, false, cond, Ok, Err, refl, sym, ap, ◌∙◌, subst, arith, eq-eqb}
use Rattle.fut_types.specs.declared.Head.TheVariants as head
use Rattle.fut_types.specs.Types.{Made, none, more}
use Rattle.sized_types.specs.Sizes.{Free, Const, Name, Own, Unknown, Slot, Dim, At, Bound, Size, Hole, Open, Level, Built, Fun, Sizes, no_size, size_and, erased, all_erased, is_free, replaced, all_replaced}
use Rattle.fut_sizes.specs.Agreeing.{Answer, Mismatch}
use Rattle.fut_sizes.specs.Functions.{is_slot}
use Rattle.fut_sizes.specs.Matching.{Found, put, size_found, found_size, found_dim, read, all_read, Opened, none_opened, dim_in, in_opened, meet_size, meet_dims, data_way, meet, all_meet}
use Rattle.fut_sizes.specs.Suiting.{Each, Each_all, Scoped, Data, All_data}
use Rattle.sizes_meet_rules.specs.Known.{Is_made, Formed, All_formed}
use Rattle.sizes_meet_rules.proofs.Meeting.{then_ok, same_ok, refused_ok}
use Rattle.sizes_meet_rules.proofs.Replacing.{free_same}
use Rattle.sizes_meet_rules.proofs.Settling.{Is_settled}
use Rattle.sizes_meet_rules.proofs.Taking.{head_same, parts_same, variable_same, not_variable, no_variable_array}

-- what a slot has taken stays
abbrev pub Extends : Found → Found → Type 0
Extends σ τ = (j : ℕ) (d : Free) → is_slot d ≡ false → σ.size j ≡ d → τ.size j ≡ d

extends_then : (σ τ υ : Found) → Extends σ τ → Extends τ υ → Extends σ υ
extends_then σ τ υ a b j d s e = b j d s (a j d s e)

pub put_settled : (i : ℕ) (d e : Free) → is_slot e ≡ false → put i d e ≡ e
put_settled i d (Slot j) s = absurd (let z : true ≡ false = s in cc)
put_settled i d (Const c) s = refl
put_settled i d (Name c) s = refl
put_settled i d (Own n c) s = refl
put_settled i d (Unknown n c) s = refl

pub found_settled : (σ : Found) (e : Free) → is_slot e ≡ false → found_size σ e ≡ e
found_settled σ (Slot j) s = absurd (let z : true ≡ false = s in cc)
found_settled σ (Const c) s = refl
found_settled σ (Name c) s = refl
found_settled σ (Own n c) s = refl
found_settled σ (Unknown n c) s = refl

-- what is found of a size stays where that is settled
pub found_still : (σ τ : Found) → Extends σ τ → (x e : Free) → is_slot e ≡ false → found_size σ x ≡ e → found_size τ x ≡ e
found_still σ τ a (Slot j) e s q = a j e s q
found_still σ τ a (Const c) e s q = q
found_still σ τ a (Name c) e s q = q
found_still σ τ a (Own n c) e s q = q
found_still σ τ a (Unknown n c) e s q = q

pub settled_met : (at : ℕ) (σ : Found) (d e : Free) → is_slot d ≡ false → is_slot e ≡ false → meet_size data_way at d e σ ≡ cond (is_free d e) (Ok σ) (Err (Mismatch at (At d) (At e)))
unfolding is_free
settled_met at σ (Slot i) e a b = absurd (let z : true ≡ false = a in cc)
settled_met at σ d (Slot j) a b = absurd (let z : true ≡ false = b in cc)
settled_met at σ d e a b = refl

pub slot_met : (at i : ℕ) (σ : Found) (e : Free) → is_slot e ≡ false → meet_size data_way at (Slot i) e σ ≡ Ok (size_found i e σ)
slot_met at i σ (Slot j) s = absurd (let z : true ≡ false = s in cc)
slot_met at i σ (Const c) s = refl
slot_met at i σ (Name c) s = refl
slot_met at i σ (Own n c) s = refl
slot_met at i σ (Unknown n c) s = refl

-- a wanted size, of which y is found so far, and one that is settled
one_met : (at : ℕ) (σ τ : Found) (x y e : Free) → is_slot e ≡ false → found_size σ x ≡ y → meet_size data_way at y e σ ≡ Ok τ → (found_size τ x ≡ e) × Extends σ τ
one_met at σ τ x y e s f q = by_slot (is_slot y) refl
  where
    settled : is_slot y ≡ false → (c : Bool) → is_free y e ≡ c → ◌≡◌ {A = Answer Found} (cond c (Ok σ) (Err (Mismatch at (At y) (At e)))) (Ok τ) → (found_size τ x ≡ e) × Extends σ τ
    settled t true g z = subst (λ υ. (found_size υ x ≡ e) × Extends σ υ) (same_ok z) (f ∙ free_same y e g, λ j d t e. e)
    settled t false g z = refused_ok z

    slot : (w : Free) (i : ℕ) → w ≡ Slot i → found_size σ x ≡ w → meet_size data_way at w e σ ≡ Ok τ → (found_size τ x ≡ e) × Extends σ τ
    slot w i g h z = subst (λ υ. (found_size υ x ≡ e) × Extends σ υ) (same_ok (sym (slot_met at i σ e s) ∙ ap (λ v. meet_size data_way at v e σ) (sym g) ∙ z)) (here x (h ∙ g), λ j d t k. ap (put i e) k ∙ put_settled i e d t)
      where
        here : (v : Free) → found_size σ v ≡ Slot i → found_size (size_found i e σ) v ≡ e
        here (Slot j) k = ap (put i e) k ∙ ap (λ b. cond b e (Slot i)) (eq-eqb i i refl)
        here (Const c) k = absurd (let z : Const c ≡ Slot i = k in cc)
        here (Name c) k = absurd (let z : Name c ≡ Slot i = k in cc)
        here (Own n c) k = absurd (let z : Own n c ≡ Slot i = k in cc)
        here (Unknown n c) k = absurd (let z : Unknown n c ≡ Slot i = k in cc)

    slot_is : (w : Free) → is_slot w ≡ true → (i : ℕ) × (w ≡ Slot i)
    slot_is (Slot i) k = (i, refl)
    slot_is (Const c) k = absurd (let z : false ≡ true = k in cc)
    slot_is (Name c) k = absurd (let z : false ≡ true = k in cc)
    slot_is (Own n c) k = absurd (let z : false ≡ true = k in cc)
    slot_is (Unknown n c) k = absurd (let z : false ≡ true = k in cc)

    by_slot : (b : Bool) → is_slot y ≡ b → (found_size τ x ≡ e) × Extends σ τ
    by_slot false t = settled t (is_free y e) refl (sym (settled_met at σ y e t s) ∙ q)
    by_slot true t = let w = slot_is y t in slot y w.0 w.1 f q

module _ (lo at : ℕ) (φ : Opened) where
  -- the function types around are opened
  abbrev pub Opens : ℕ → Dim → Type 0
  Opens j d = (x : Free) × (dim_in φ 0 d ≡ At x)

  module _ (σ τ : Found) (a : Extends σ τ) where
    mutual
      unfolding read all_read replaced all_replaced Each Each_all Data All_data

      pub read_still : (p : Size) → Data p → Each Opens 0 p → Each (Scoped Is_settled) 0 (read σ (replaced (dim_in φ) 0 p)) → read τ (replaced (dim_in φ) 0 p) ≡ read σ (replaced (dim_in φ) 0 p)
      read_still (Hole v) d o h = refl
      read_still (Open n v u) d o h = absurd d
      read_still (Level l p) d o h =
          let k = found_still σ τ a o.0.0 (found_size σ o.0.0) (subst (λ w. Scoped Is_settled 0 (found_dim σ 0 w)) o.0.1 h.0) refl in
          ap (λ w. Level (found_dim τ 0 w) (read τ (replaced (dim_in φ) 0 p))) o.0.1 ∙ ap (λ w. Level (At w) (read τ (replaced (dim_in φ) 0 p))) k ∙ ap (λ w. Level (found_dim σ 0 w) (read τ (replaced (dim_in φ) 0 p))) (sym o.0.1)
          ∙ ap (Level (found_dim σ 0 (dim_in φ 0 l))) (read_still p d o.1 h.1)
      read_still (Built g ps) d o h = ap (Built g) (all_read_still ps d o h)
      read_still (Fun k p r) d o h = absurd d

      all_read_still : (ps : Sizes) → All_data ps → Each_all Opens 0 ps → Each_all (Scoped Is_settled) 0 (all_read σ (all_replaced (dim_in φ) 0 ps)) → all_read τ (all_replaced (dim_in φ) 0 ps) ≡ all_read σ (all_replaced (dim_in φ) 0 ps)
      all_read_still no_size d o h = refl
      all_read_still (size_and p ps) d o h = ap (λ w. size_and w (all_read τ (all_replaced (dim_in φ) 0 ps))) (read_still p d.0 o.0 h.0) ∙ ap (size_and (read σ (replaced (dim_in φ) 0 p))) (all_read_still ps d.1 o.1 h.1)

  mutual
    unfolding meet all_meet read all_read replaced all_replaced Each Each_all Data All_data Formed All_formed erased all_erased

    pub met_reads : (p t : Size) (σ τ : Found) → Data p → Data t → Formed p → Formed t → Each Opens 0 p → Each (Scoped Is_settled) 0 t → erased p ≡ erased t → meet lo data_way at φ p none_opened t σ ≡ Ok τ → (read τ (in_opened φ p) ≡ t) × Extends σ τ
    met_reads (Open n v u) t σ τ dp dt fp ft o s z q = absurd dp
    met_reads (Fun k p r) t σ τ dp dt fp ft o s z q = absurd dp
    met_reads p (Open n v u) σ τ dp dt fp ft o s z q = absurd dt
    met_reads p (Fun k t r) σ τ dp dt fp ft o s z q = absurd dt
    met_reads (Hole v) (Hole w) σ τ dp dt fp ft o s z q = (ap Hole (variable_same v w z), subst (Extends σ) (same_ok q) (λ j d t e. e))
    met_reads (Hole v) (Level e t) σ τ dp dt fp ft o s z q = absurd (no_variable_array v (more (erased t) none) z)
    met_reads (Hole v) (Built g ts) σ τ dp dt fp ft o s z q = absurd (not_variable v g (all_erased ts) ft.0 z)
    met_reads (Level d p) (Hole w) σ τ dp dt fp ft o s z q = absurd (no_variable_array w (more (erased p) none) (sym z))
    met_reads (Level d p) (Built g ts) σ τ dp dt fp ft o s z q = absurd (subst Is_made (sym (head_same z)) ft.0)
    met_reads (Level d p) (Level (Bound k i) t) σ τ dp dt fp ft o s z q = absurd (let l = s.0 in omega (arith, l))
    met_reads (Level d p) (Level (At e) t) σ τ dp dt fp ft o s z q =
        let r = then_ok (meet_dims data_way at (dim_in φ 0 d) (At e) σ) q in
        let a = one_met at σ r.first o.0.0 (found_size σ o.0.0) e s.0 refl (ap (λ w. meet_size data_way at (found_size σ o.0.0) w σ) (sym (found_settled σ e s.0)) ∙ ap (λ w. meet_dims data_way at w (At e) σ) (sym o.0.1) ∙ r.done) in
        let b = met_reads p t r.first τ dp dt fp ft o.1 s.1 (let y : Made head.Array (more (erased p) none) ≡ Made head.Array (more (erased t) none) = z in cc) r.rest in (
          ap (λ w. Level (found_dim τ 0 w) (read τ (replaced (dim_in φ) 0 p))) o.0.1 ∙ ap (λ w. Level (At w) (read τ (replaced (dim_in φ) 0 p))) (found_still r.first τ b.1 o.0.0 e s.0 a.0) ∙ ap (Level (At e)) b.0,
          extends_then σ r.first τ a.1 b.1,
        )
    met_reads (Built h ps) (Hole w) σ τ dp dt fp ft o s z q = absurd (not_variable w h (all_erased ps) fp.0 (sym z))
    met_reads (Built h ps) (Level e t) σ τ dp dt fp ft o s z q = absurd (subst Is_made (head_same z) fp.0)
    met_reads (Built h ps) (Built g ts) σ τ dp dt fp ft o s z q =
        let b = all_met_read ps ts σ τ dp dt fp.1 ft.1 o s (parts_same z) q in (ap (λ f. Built f (all_read τ (all_replaced (dim_in φ) 0 ps))) (head_same z) ∙ ap (Built g) b.0, b.1)

    all_met_read : (ps ts : Sizes) (σ τ : Found) → All_data ps → All_data ts → All_formed ps → All_formed ts → Each_all Opens 0 ps → Each_all (Scoped Is_settled) 0 ts → all_erased ps ≡ all_erased ts → all_meet lo data_way at φ ps none_opened ts σ ≡ Ok τ → (all_read τ (all_replaced (dim_in φ) 0 ps) ≡ ts) × Extends σ τ
    all_met_read no_size no_size σ τ dp dt fp ft o s z q = (refl, subst (Extends σ) (same_ok q) (λ j d t e. e))
    all_met_read no_size (size_and t ts) σ τ dp dt fp ft o s z q = absurd (let y : none ≡ more (erased t) (all_erased ts) = z in cc)
    all_met_read (size_and p ps) no_size σ τ dp dt fp ft o s z q = absurd (let y : more (erased p) (all_erased ps) ≡ none = z in cc)
    all_met_read (size_and p ps) (size_and t ts) σ τ dp dt fp ft o s z q =
        let y : more (erased p) (all_erased ps) ≡ more (erased t) (all_erased ts) = z in
        let r = then_ok (meet lo data_way at φ p none_opened t σ) q in
        let a = met_reads p t σ r.first dp.0 dt.0 fp.0 ft.0 o.0 s.0 (let w : erased p ≡ erased t = cc in w) r.done in
        let b = all_met_read ps ts r.first τ dp.1 dt.1 fp.1 ft.1 o.1 s.1 (let w : all_erased ps ≡ all_erased ts = cc in w) r.rest in
        (ap (λ w. size_and w (all_read τ (all_replaced (dim_in φ) 0 ps))) (read_still r.first τ b.1 p dp.0 o.0 (subst (λ w. Each (Scoped Is_settled) 0 w) (sym a.0) s.0) ∙ a.0) ∙ ap (size_and t) b.0, extends_then σ r.first τ a.1 b.1)
