-- How the shapes and values of a sized type depend on what its sizes are worth.
use Rattle.fut_scalar.specs.declared.place.Place.{Place}
use Rattle.std.proofs.Common.{◌≡◌, ℕ, zero, suc, ◌+◌, ◌<◌, ◌≤◌, List, [], ◌∷◌, length, Bool, true, false, cond, nat_eq, refl, sym, ap, ◌∙◌, subst, arith, eqb-true}
use Rattle.std.proofs.lemmas.Bool.{eqb-false}
use Rattle.fut_typing.specs.Names.{Names}
use Rattle.fut_value.specs.Data.{Shape, Shapes, Named_shapes, Datum, Datums, Named_datums}
use Rattle.fut_meaning.specs.Flats.{FlatValue}
use Rattle.fut_meaning.specs.Found.{Sizing}
use Rattle.fut_meaning.specs.Outcomes.{Rel}
use Rattle.fut_meaning.specs.Telling.{tells}
use Rattle.sized_types.specs.Sizes.{Free, Const, Name, Own, Unknown, Slot, Dim, At, Bound, Variable, Size, Hole, Open, Level, Built, Fun, Sizes, no_size, size_and, replaced, all_replaced, given, opened, renaming, renamed}
use Rattle.fut_sizes.specs.Suiting.{Each, Each_all, Scoped, Of_positions, Data, All_data}
use Rattle.fut_sizes.specs.Rules.{Any_free, Each_hole, Each_holes}
use Rattle.sized_meaning.specs.Worth.{Worth, free, Frames, push, number}
use Rattle.sized_meaning.specs.Shapes.{Meant, Has_shape, Have_shapes, Have_named, Has_datum, Have_data, Named_data}
use Rattle.sized_meaning.specs.Fits.{FlatValues, FlatFields, Chosen_in, Known_size, Known_data, Flat, All_flat, Flat_result, Known_result, Told_right, Tells_right, Fits, All_fit, Named_fit}
use Rattle.sized_meaning.proofs.Ways.{Ways, same_ways, on_array_shape_as, first_shape_as, shape_of_head_as, on_array_datum_as, first_datum_as, every_datum_as, datum_of_head_as, data_as, of_head_as, first_value_as, gives_as}

abbrev pub Numbers_as : Worth → Worth → (ℕ → Dim → Dim) → (ℕ → Dim → Type 0) → (ℕ → Frames → Frames → Type 0) → Type 0
Numbers_as m m' g ok S = (j : ℕ) (φ φ' : Frames) (d : Dim) → S j φ φ' → ok j d → number m φ (g j d) ≡ number m' φ' d

abbrev pub Goes_in : (ℕ → Frames → Frames → Type 0) → Type 0
Goes_in S = (j : ℕ) (φ φ' : Frames) (F : ℕ → ℕ) → S j φ φ' → S (suc j) (push F φ) (push F φ')

-- what replaces dims leaves those of the frames inside as they are, and with them whether they are known
abbrev pub Keeps_own : (ℕ → Dim → Dim) → (ℕ → Frames → Frames → Type 0) → Type 0
Keeps_own g S = (j : ℕ) (φ φ' : Frames) → S j φ φ' → (ks : List ℕ) (i : ℕ) → length ks + j ≡ i → (d : Dim) → Ways (Known_size Any_free ks d) (Known_size Any_free ks (g i d))

module _ (g : ℕ → Dim → Dim) where
  mutual
    unfolding Data All_data replaced all_replaced

    pub data_replaced : (t : Size) (j : ℕ) → Ways (Data t) (Data (replaced g j t))
    data_replaced (Hole a) j = same_ways
    data_replaced (Open n v u) j = same_ways
    data_replaced (Level d t) j = data_replaced t j
    data_replaced (Built k ts) j = all_data_replaced ts j
    data_replaced (Fun k p r) j = same_ways

    all_data_replaced : (ts : Sizes) (j : ℕ) → Ways (All_data ts) (All_data (all_replaced g j ts))
    all_data_replaced no_size j = same_ways
    all_data_replaced (size_and t ts) j = let a = data_replaced t j in let b = all_data_replaced ts j in ((λ h. (a.0 h.0, b.0 h.1)), (λ h. (a.1 h.0, b.1 h.1)))

  module _ (ok : ℕ → Dim → Type 0) (n j : ℕ) (turns : (d : Dim) → Ways (ok n d) (ok n (g j d))) where
    mutual
      unfolding Each Each_all Data All_data replaced all_replaced

      pub own_replaced : (t : Size) → Data t → Ways (Each ok n t) (Each ok n (replaced g j t))
      own_replaced (Hole a) h = same_ways
      own_replaced (Open k v u) h = same_ways
      own_replaced (Level d t) h = let a = turns d in let b = own_replaced t h in ((λ e. (a.0 e.0, b.0 e.1)), (λ e. (a.1 e.0, b.1 e.1)))
      own_replaced (Built k ts) h = all_own_replaced ts h
      own_replaced (Fun k p r) h = absurd h

      all_own_replaced : (ts : Sizes) → All_data ts → Ways (Each_all ok n ts) (Each_all ok n (all_replaced g j ts))
      all_own_replaced no_size h = same_ways
      all_own_replaced (size_and t ts) h = let a = own_replaced t h.0 in let b = all_own_replaced ts h.1 in ((λ e. (a.0 e.0, b.0 e.1)), (λ e. (a.1 e.0, b.1 e.1)))

  mutual
    unfolding Flat All_flat replaced all_replaced

    pub flat_replaced : (t : Size) (j : ℕ) → Ways (Flat t) (Flat (replaced g j t))
    flat_replaced (Hole a) j = same_ways
    flat_replaced (Open n v u) j = same_ways
    flat_replaced (Level d t) j = same_ways
    flat_replaced (Built k ts) j = all_flat_replaced ts j
    flat_replaced (Fun k p r) j = same_ways

    all_flat_replaced : (ts : Sizes) (j : ℕ) → Ways (All_flat ts) (All_flat (all_replaced g j ts))
    all_flat_replaced no_size j = same_ways
    all_flat_replaced (size_and t ts) j = let a = flat_replaced t j in let b = all_flat_replaced ts j in ((λ h. (a.0 h.0, b.0 h.1)), (λ h. (a.1 h.0, b.1 h.1)))

  pub flat_result_replaced : (t : Size) (j : ℕ) → Ways (Flat_result t) (Flat_result (replaced g j t))
  unfolding Flat_result replaced
  flat_result_replaced (Hole a) j = flat_replaced (Hole a) j
  flat_result_replaced (Open n v u) j = flat_replaced (Open n v u) j
  flat_result_replaced (Level d t) j = flat_replaced (Level d t) j
  flat_result_replaced (Built k ts) j = flat_replaced (Built k ts) j
  flat_result_replaced (Fun k p r) j = flat_result_replaced r (suc j)

  known_data_replaced : (ks : List ℕ) (i : ℕ) → ((d : Dim) → Ways (Known_size Any_free ks d) (Known_size Any_free ks (g i d))) → (t : Size) → Ways (Known_data Any_free ks t) (Known_data Any_free ks (replaced g i t))
  known_data_replaced ks i turns t = (
    (λ x. ((data_replaced t i).0 x.0, (own_replaced (λ j d. Known_size Any_free ks d) 0 i turns t x.0).0 x.1)),
    (λ x. let d = (data_replaced t i).1 x.0 in (d, (own_replaced (λ j d. Known_size Any_free ks d) 0 i turns t d).1 x.1)),
  )

  pub known_replaced : (j : ℕ) → ((ks : List ℕ) (i : ℕ) → length ks + j ≡ i → (d : Dim) → Ways (Known_size Any_free ks d) (Known_size Any_free ks (g i d))) → (t : Size) (ks : List ℕ) (i : ℕ) → length ks + j ≡ i → Ways (Known_result Any_free ks t) (Known_result Any_free ks (replaced g i t))
  unfolding Known_result replaced
  known_replaced j keeps (Hole a) ks i e = known_data_replaced ks i (keeps ks i e) (Hole a)
  known_replaced j keeps (Open n v u) ks i e = known_data_replaced ks i (keeps ks i e) (Open n v u)
  known_replaced j keeps (Level d t) ks i e = known_data_replaced ks i (keeps ks i e) (Level d t)
  known_replaced j keeps (Built k ts) ks i e = known_data_replaced ks i (keeps ks i e) (Built k ts)
  known_replaced j keeps (Fun k p r) ks i e =
      let e' : length (k ∷ ks) + j ≡ suc i = omega (arith, e) in
      let a = known_data_replaced (k ∷ ks) (suc i) (keeps (k ∷ ks) (suc i) e') p in
      let b = known_replaced j keeps r (k ∷ ks) (suc i) e' in
      let c = flat_result_replaced r (suc i) in
      ((λ x. (a.0 x.0, b.0 x.1, c.0 x.2)), (λ x. (a.1 x.0, b.1 x.1, c.1 x.2)))

module _ (N : Names) (τ : Meant) (m m' : Worth) (g : ℕ → Dim → Dim) (ok : ℕ → Dim → Type 0) (S : ℕ → Frames → Frames → Type 0) (numbers : Numbers_as m m' g ok S) where
  mutual
    unfolding Has_shape Have_shapes Have_named replaced all_replaced Each Each_all

    pub shape_replaced : (t : Size) (j : ℕ) (φ φ' : Frames) → Each ok j t → S j φ φ' → (h : Shape) → Ways (Has_shape N τ m φ (replaced g j t) h) (Has_shape N τ m' φ' t h)
    shape_replaced (Hole v) j φ φ' e q h = same_ways
    shape_replaced (Open n v u) j φ φ' e q h = same_ways
    shape_replaced (Level d t) j φ φ' e q h = on_array_shape_as _ _ (λ n row. let a = numbers j φ φ' d q e.0 in let b = shape_replaced t j φ φ' e.1 q row in
        ((λ x. (x.0 ∙ a, b.0 x.1)), (λ x. (x.0 ∙ sym a, b.1 x.1)))) h
    shape_replaced (Built k ts) j φ φ' e q h = shape_of_head_as k _ _ _ _ (λ hs. shapes_replaced ts j φ φ' e q hs) (λ n hs. named_replaced ts j φ φ' e q n 0 hs) h
    shape_replaced (Fun k p r) j φ φ' e q h = same_ways

    shapes_replaced : (ts : Sizes) (j : ℕ) (φ φ' : Frames) → Each_all ok j ts → S j φ φ' → (hs : Shapes) → Ways (Have_shapes N τ m φ (all_replaced g j ts) hs) (Have_shapes N τ m' φ' ts hs)
    shapes_replaced no_size j φ φ' e q hs = same_ways
    shapes_replaced (size_and t ts) j φ φ' e q hs = first_shape_as _ _ _ _ (λ h. shape_replaced t j φ φ' e.0 q h) (λ hs. shapes_replaced ts j φ φ' e.1 q hs) hs

    named_replaced : (ts : Sizes) (j : ℕ) (φ φ' : Frames) → Each_all ok j ts → S j φ φ' → (n i : ℕ) (hs : Named_shapes) → Ways (Have_named N τ m φ n i (all_replaced g j ts) hs) (Have_named N τ m' φ' n i ts hs)
    named_replaced no_size j φ φ' e q n i hs = same_ways
    named_replaced (size_and t ts) j φ φ' e q n i hs = let b = named_replaced ts j φ φ' e.1 q n (suc i) hs in
        ((λ x. ((λ f p. let c = x.0 f p in (c.0, c.1, (shape_replaced t j φ φ' e.0 q c.0).0 c.2)), b.0 x.1)), (λ x. ((λ f p. let c = x.0 f p in (c.0, c.1, (shape_replaced t j φ φ' e.0 q c.0).1 c.2)), b.1 x.1)))

  mutual
    unfolding Has_datum Have_data Named_data replaced all_replaced Each Each_all

    pub datum_replaced : (t : Size) (j : ℕ) (φ φ' : Frames) → Each ok j t → S j φ φ' → (x : Datum) → Ways (Has_datum N τ m φ (replaced g j t) x) (Has_datum N τ m' φ' t x)
    datum_replaced (Hole v) j φ φ' e q x = same_ways
    datum_replaced (Open n v u) j φ φ' e q x = same_ways
    datum_replaced (Level d t) j φ φ' e q x = on_array_datum_as _ _ (λ row ds. let a = numbers j φ φ' d q e.0 in let b = shape_replaced t j φ φ' e.1 q row in let c = every_datum_as _ _ (λ y. datum_replaced t j φ φ' e.1 q y) ds in
        ((λ z. (z.0 ∙ a, b.0 z.1, c.0 z.2)), (λ z. (z.0 ∙ sym a, b.1 z.1, c.1 z.2)))) x
    datum_replaced (Built k ts) j φ φ' e q x = datum_of_head_as k _ _ _ _ (λ ds. data_replaced_all ts j φ φ' e q ds) (λ n fs. named_data_replaced ts j φ φ' e q n 0 fs) x
    datum_replaced (Fun k p r) j φ φ' e q x = same_ways

    data_replaced_all : (ts : Sizes) (j : ℕ) (φ φ' : Frames) → Each_all ok j ts → S j φ φ' → (ds : Datums) → Ways (Have_data N τ m φ (all_replaced g j ts) ds) (Have_data N τ m' φ' ts ds)
    data_replaced_all no_size j φ φ' e q ds = same_ways
    data_replaced_all (size_and t ts) j φ φ' e q ds = first_datum_as _ _ _ _ (λ x. datum_replaced t j φ φ' e.0 q x) (λ ds. data_replaced_all ts j φ φ' e.1 q ds) ds

    named_data_replaced : (ts : Sizes) (j : ℕ) (φ φ' : Frames) → Each_all ok j ts → S j φ φ' → (n i : ℕ) (fs : Named_datums) → Ways (Named_data N τ m φ n i (all_replaced g j ts) fs) (Named_data N τ m' φ' n i ts fs)
    named_data_replaced no_size j φ φ' e q n i fs = same_ways
    named_data_replaced (size_and t ts) j φ φ' e q n i fs = let b = named_data_replaced ts j φ φ' e.1 q n (suc i) fs in
        ((λ x. ((λ f p. let c = x.0 f p in (c.0, c.1, (datum_replaced t j φ φ' e.0 q c.0).0 c.2)), b.0 x.1)), (λ x. ((λ f p. let c = x.0 f p in (c.0, c.1, (datum_replaced t j φ φ' e.0 q c.0).1 c.2)), b.1 x.1)))

  module _ (pushed : Goes_in S) where
    pub told_replaced : (t : Size) (j : ℕ) (φ φ' : Frames) → Each ok j t → S j φ φ' → (tell : List Shape → Shape) → Ways (Told_right N τ m φ (replaced g j t) tell) (Told_right N τ m' φ' t tell)
    unfolding Told_right replaced Each
    told_replaced (Hole v) j φ φ' e q tell = shape_replaced (Hole v) j φ φ' e q (tell [])
    told_replaced (Open n v u) j φ φ' e q tell = shape_replaced (Open n v u) j φ φ' e q (tell [])
    told_replaced (Level d t) j φ φ' e q tell = shape_replaced (Level d t) j φ φ' e q (tell [])
    told_replaced (Built k ts) j φ φ' e q tell = shape_replaced (Built k ts) j φ φ' e q (tell [])
    told_replaced (Fun k p r) j φ φ' e q tell = (
      (λ x F h hp. (told_replaced r (suc j) (push F φ) (push F φ') e.1 (pushed j φ φ' F q) (λ hs. tell (h ∷ hs))).0 (x F h ((shape_replaced p (suc j) (push F φ) (push F φ') e.0 (pushed j φ φ' F q) h).1 hp))),
      (λ x F h hp. (told_replaced r (suc j) (push F φ) (push F φ') e.1 (pushed j φ φ' F q) (λ hs. tell (h ∷ hs))).1 (x F h ((shape_replaced p (suc j) (push F φ) (push F φ') e.0 (pushed j φ φ' F q) h).0 hp))),
    )

  module _ (Z : Sizing) (is_there : Place → Bool) (calls : FlatValue → FlatValue → Rel FlatValue) (pushed : Goes_in S) (owns : Keeps_own g S) where
    tells_out : (k : ℕ) (p r : Size) (j : ℕ) (φ φ' : Frames) → Each ok (suc j) p → Each ok (suc j) r → S j φ φ' → (f : FlatValue) → Tells_right N τ Z m φ k (replaced g (suc j) p) (replaced g (suc j) r) f → Tells_right N τ Z m' φ' k p r f
    tells_out k p r j φ φ' ep er q f t = (
      t.0,
      λ known F h hp.
          (told_replaced pushed r (suc j) (push F φ) (push F φ') er (pushed j φ φ' F q) (λ hs. tells Z f (h ∷ hs))).0
          (t.1 ((known_replaced g j (owns j φ φ' q) r (k ∷ []) (suc j) (let z : length (k ∷ []) + j ≡ suc j = omega arith in z)).0 known) F h
          ((shape_replaced p (suc j) (push F φ) (push F φ') ep (pushed j φ φ' F q) h).1 hp)),
    )

    tells_in : (k : ℕ) (p r : Size) (j : ℕ) (φ φ' : Frames) → Each ok (suc j) p → Each ok (suc j) r → S j φ φ' → (f : FlatValue) → Tells_right N τ Z m' φ' k p r f → Tells_right N τ Z m φ k (replaced g (suc j) p) (replaced g (suc j) r) f
    tells_in k p r j φ φ' ep er q f t = (
      t.0,
      λ known F h hp.
          (told_replaced pushed r (suc j) (push F φ) (push F φ') er (pushed j φ φ' F q) (λ hs. tells Z f (h ∷ hs))).1
          (t.1 ((known_replaced g j (owns j φ φ' q) r (k ∷ []) (suc j) (let z : length (k ∷ []) + j ≡ suc j = omega arith in z)).1 known) F h
          ((shape_replaced p (suc j) (push F φ) (push F φ') ep (pushed j φ φ' F q) h).0 hp)),
    )

    mutual
      unfolding Fits All_fit Named_fit replaced all_replaced Each Each_all

      pub fits_replaced : (t : Size) (j : ℕ) (φ φ' : Frames) → Each ok j t → S j φ φ' → (v : FlatValue) → Ways (Fits N τ Z is_there calls m φ (replaced g j t) v) (Fits N τ Z is_there calls m' φ' t v)
      fits_replaced (Hole a) j φ φ' e q v = data_as _ _ (datum_replaced (Hole a) j φ φ' e q) v
      fits_replaced (Open n a u) j φ φ' e q v = same_ways
      fits_replaced (Level d t) j φ φ' e q v = data_as _ _ (datum_replaced (Level d t) j φ φ' e q) v
      fits_replaced (Built k ts) j φ φ' e q v = of_head_as k _ _ _ _ (λ vs. all_fit_replaced ts j φ φ' e q vs) (λ n fs. named_fit_replaced ts j φ φ' e q n 0 fs) v
      fits_replaced (Fun k p r) j φ φ' e q v = (
        (λ h. (tells_out k p r j φ φ' e.0 e.1 q v h.0, (λ F u w a. gives_as _ _ _ (h.1 F u w ((fits_replaced p (suc j) (push F φ) (push F φ') e.0 (pushed j φ φ' F q) u).1 a)) (λ x b. (b.0, b.1, (fits_replaced r (suc j) (push b.0 φ) (push b.0 φ') e.1 (pushed j φ φ' b.0 q) x).0 b.2))))),
        (λ h. (tells_in k p r j φ φ' e.0 e.1 q v h.0, (λ F u w a. gives_as _ _ _ (h.1 F u w ((fits_replaced p (suc j) (push F φ) (push F φ') e.0 (pushed j φ φ' F q) u).0 a)) (λ x b. (b.0, b.1, (fits_replaced r (suc j) (push b.0 φ) (push b.0 φ') e.1 (pushed j φ φ' b.0 q) x).1 b.2))))),
      )

      all_fit_replaced : (ts : Sizes) (j : ℕ) (φ φ' : Frames) → Each_all ok j ts → S j φ φ' → (vs : FlatValues) → Ways (All_fit N τ Z is_there calls m φ (all_replaced g j ts) vs) (All_fit N τ Z is_there calls m' φ' ts vs)
      all_fit_replaced no_size j φ φ' e q vs = same_ways
      all_fit_replaced (size_and t ts) j φ φ' e q vs = first_value_as _ _ _ _ (λ v. fits_replaced t j φ φ' e.0 q v) (λ vs. all_fit_replaced ts j φ φ' e.1 q vs) vs

      named_fit_replaced : (ts : Sizes) (j : ℕ) (φ φ' : Frames) → Each_all ok j ts → S j φ φ' → (n i : ℕ) (fs : FlatFields) → Ways (Named_fit N τ Z is_there calls m φ n i (all_replaced g j ts) fs) (Named_fit N τ Z is_there calls m' φ' n i ts fs)
      named_fit_replaced no_size j φ φ' e q n i fs = same_ways
      named_fit_replaced (size_and t ts) j φ φ' e q n i fs = let b = named_fit_replaced ts j φ φ' e.1 q n (suc i) fs in
          ((λ x. ((λ f p. let c = x.0 f p in (c.0, c.1, (fits_replaced t j φ φ' e.0 q c.0).0 c.2)), b.0 x.1)), (λ x. ((λ f p. let c = x.0 f p in (c.0, c.1, (fits_replaced t j φ φ' e.0 q c.0).1 c.2)), b.1 x.1)))

-- ---- nothing replaced
abbrev pub same : ℕ → Dim → Dim
same j d = d

mutual
  unfolding replaced all_replaced

  pub same_size : (t : Size) (j : ℕ) → replaced same j t ≡ t
  same_size (Hole a) j = refl
  same_size (Open n v u) j = refl
  same_size (Level d t) j = ap (Level d) (same_size t j)
  same_size (Built h ts) j = ap (Built h) (same_sizes ts j)
  same_size (Fun k p r) j = rw (same_size p (suc j), same_size r (suc j)) refl

  same_sizes : (ts : Sizes) (j : ℕ) → all_replaced same j ts ≡ ts
  same_sizes no_size j = refl
  same_sizes (size_and t ts) j = rw (same_size t j, same_sizes ts j) refl

-- frames that are there are the same
abbrev pub Same_below : ℕ → Frames → Frames → Type 0
Same_below j φ φ' = (j' i : ℕ) → j' < j → φ j' i ≡ φ' j' i

below_goes_in : Goes_in Same_below
unfolding push
below_goes_in j φ φ' F q zero i lt = refl
below_goes_in j φ φ' F q (suc j') i lt = q j' i (omega (arith, lt))

module _ (In : Free → Type 0) (m m' : Worth) where
  numbers_same : ((d : Free) → In d → free m d ≡ free m' d) → Numbers_as m m' same (Scoped In) Same_below
  numbers_same all j φ φ' (At d) q s = all d s
  numbers_same all j φ φ' (Bound j' i) q s = q j' i s

  free_same : ((d : Free) → In d → m d ≡ m' d) → (d : Free) → In d → free m d ≡ free m' d
  free_same all (Const c) i = refl
  free_same all (Name b) i = all (Name b) i
  free_same all (Own n k) i = all (Own n k) i
  free_same all (Unknown n k) i = all (Unknown n k) i
  free_same all (Slot k) i = all (Slot k) i

  module _ (N : Names) (τ : Meant) where
    pub shape_same : ((d : Free) → In d → m d ≡ m' d) → (t : Size) (j : ℕ) (φ φ' : Frames) → Each (Scoped In) j t → Same_below j φ φ' → (h : Shape) → Has_shape N τ m φ t h → Has_shape N τ m' φ' t h
    shape_same all t j φ φ' e q h x = (shape_replaced N τ m m' same (Scoped In) Same_below (numbers_same (free_same all)) t j φ φ' e q h).0 (subst (λ u. Has_shape N τ m φ u h) (sym (same_size t j)) x)

    pub datum_same : ((d : Free) → In d → m d ≡ m' d) → (t : Size) (j : ℕ) (φ φ' : Frames) → Each (Scoped In) j t → Same_below j φ φ' → (x : Datum) → Has_datum N τ m φ t x → Has_datum N τ m' φ' t x
    datum_same all t j φ φ' e q y x = (datum_replaced N τ m m' same (Scoped In) Same_below (numbers_same (free_same all)) t j φ φ' e q y).0 (subst (λ u. Has_datum N τ m φ u y) (sym (same_size t j)) x)

    pub told_same : ((d : Free) → In d → m d ≡ m' d) → (t : Size) (j : ℕ) (φ φ' : Frames) → Each (Scoped In) j t → Same_below j φ φ' → (tell : List Shape → Shape) → Told_right N τ m φ t tell → Told_right N τ m' φ' t tell
    told_same all t j φ φ' e q tell x = (told_replaced N τ m m' same (Scoped In) Same_below (numbers_same (free_same all)) below_goes_in t j φ φ' e q tell).0 (subst (λ u. Told_right N τ m φ u tell) (sym (same_size t j)) x)

    module _ (Z : Sizing) (is_there : Place → Bool) (calls : FlatValue → FlatValue → Rel FlatValue) where
      pub fits_same : ((d : Free) → In d → m d ≡ m' d) → (t : Size) (j : ℕ) (φ φ' : Frames) → Each (Scoped In) j t → Same_below j φ φ' → (v : FlatValue) → Fits N τ Z is_there calls m φ t v → Fits N τ Z is_there calls m' φ' t v
      fits_same all t j φ φ' e q v h = (fits_replaced N τ m m' same (Scoped In) Same_below (numbers_same (free_same all)) Z is_there calls below_goes_in (λ j φ φ' q ks i z d. same_ways) t j φ φ' e q v).0 (subst (λ u. Fits N τ Z is_there calls m φ u v) (sym (same_size t j)) h)

-- ---- the nearest frame's sizes given
abbrev Opens : Worth → (ℕ → Free) → (ℕ → Type 0) → ℕ → Frames → Frames → Type 0
Opens m δ Q j φ φ' = (1 ≤ j) × ((j' i : ℕ) → φ j' i ≡ φ' j' i) × ((j0 i : ℕ) → suc j0 ≡ j → Q i → φ' j0 i ≡ free m (δ i))

opens_goes_in : (m : Worth) (δ : ℕ → Free) (Q : ℕ → Type 0) → Goes_in (Opens m δ Q)
unfolding push
opens_goes_in m δ Q j φ φ' F q = (omega arith, frames, here)
  where
    frames : (j' i : ℕ) → push F φ j' i ≡ push F φ' j' i
    frames zero i = refl
    frames (suc j') i = q.1 j' i

    here : (j0 i : ℕ) → suc j0 ≡ suc j → Q i → push F φ' j0 i ≡ free m (δ i)
    here zero i e w = absurd (let l = q.0 in omega (arith, e, l))
    here (suc j0) i e w = q.2 j0 i (omega (arith, e)) w

numbers_opened : (m : Worth) (δ : ℕ → Free) (Q : ℕ → Type 0) → Numbers_as m m (given δ) (Of_positions Q) (Opens m δ Q)
numbers_opened m δ Q j φ φ' (At d) q s = refl
numbers_opened m δ Q j φ φ' (Bound j' i) q s = by_test (nat_eq (suc j') j) refl
  where
    by_test : (b : Bool) → nat_eq (suc j') j ≡ b → number m φ (cond b (At (δ i)) (Bound j' i)) ≡ φ' j' i
    by_test true e = let p = eqb-true (suc j') j e in sym (q.2 j' i p (s p))
    by_test false e = q.1 j' i

chosen_beyond : (ks : List ℕ) (j i : ℕ) → length ks ≤ j → Chosen_in ks j i
unfolding Chosen_in
chosen_beyond [] j i l = tt
chosen_beyond (k ∷ ks) zero i l = absurd (omega (arith, l))
chosen_beyond (k ∷ ks) (suc j) i l = chosen_beyond ks j i (omega (arith, l))

opens_own : (m : Worth) (δ : ℕ → Free) (Q : ℕ → Type 0) → Keeps_own (given δ) (Opens m δ Q)
opens_own m δ Q j φ φ' q ks n e (At d) = same_ways
opens_own m δ Q j φ φ' q ks n e (Bound j' i) = by_test (nat_eq (suc j') n) refl
  where
    by_test : (b : Bool) → nat_eq (suc j') n ≡ b → Ways (Known_size Any_free ks (Bound j' i)) (Known_size Any_free ks (cond b (At (δ i)) (Bound j' i)))
    by_test true z = ((λ x. tt), (λ x. chosen_beyond ks j' i (let a = eqb-true (suc j') n z in let l = q.0 in omega (arith, a, l, e))))
    by_test false z = same_ways

-- every dim has another property where it is replaced, one function type further out
module _ (ok ok' : ℕ → Dim → Type 0) (g : ℕ → Dim → Dim) (turns : (j : ℕ) (d : Dim) → ok (suc j) d → ok' j (g (suc j) d)) where
  mutual
    unfolding Each Each_all replaced all_replaced

    pub each_replaced : (t : Size) (j : ℕ) → Each ok (suc j) t → Each ok' j (replaced g (suc j) t)
    each_replaced (Hole a) j e = tt
    each_replaced (Open n v u) j e = tt
    each_replaced (Level d t) j e = (turns j d e.0, each_replaced t j e.1)
    each_replaced (Built h ts) j e = all_each_replaced ts j e
    each_replaced (Fun k p r) j e = (each_replaced p (suc j) e.0, each_replaced r (suc j) e.1)

    all_each_replaced : (ts : Sizes) (j : ℕ) → Each_all ok (suc j) ts → Each_all ok' j (all_replaced g (suc j) ts)
    all_each_replaced no_size j e = tt
    all_each_replaced (size_and t ts) j e = (each_replaced t j e.0, all_each_replaced ts j e.1)

module _ (ok ok' : ℕ → Dim → Type 0) where
  mutual
    unfolding Each Each_all

    pub each_and : (t : Size) (j : ℕ) → Each ok j t → Each ok' j t → Each (λ j d. ok j d × ok' j d) j t
    each_and (Hole a) j e e' = tt
    each_and (Open n v u) j e e' = tt
    each_and (Level d t) j e e' = ((e.0, e'.0), each_and t j e.1 e'.1)
    each_and (Built k ts) j e e' = all_each_and ts j e e'
    each_and (Fun k p r) j e e' = (each_and p (suc j) e.0 e'.0, each_and r (suc j) e.1 e'.1)

    all_each_and : (ts : Sizes) (j : ℕ) → Each_all ok j ts → Each_all ok' j ts → Each_all (λ j d. ok j d × ok' j d) j ts
    all_each_and no_size j e e' = tt
    all_each_and (size_and t ts) j e e' = (each_and t j e.0 e'.0, all_each_and ts j e.1 e'.1)

module _ (ok ok' : ℕ → Dim → Type 0) (turns : (j : ℕ) (d : Dim) → ok j d → ok' j d) where
  mutual
    unfolding Each Each_all

    pub each_as : (t : Size) (j : ℕ) → Each ok j t → Each ok' j t
    each_as (Hole a) j e = tt
    each_as (Open n v u) j e = tt
    each_as (Level d t) j e = (turns j d e.0, each_as t j e.1)
    each_as (Built h ts) j e = all_each_as ts j e
    each_as (Fun k p r) j e = (each_as p (suc j) e.0, each_as r (suc j) e.1)

    all_each_as : (ts : Sizes) (j : ℕ) → Each_all ok j ts → Each_all ok' j ts
    all_each_as no_size j e = tt
    all_each_as (size_and t ts) j e = (each_as t j e.0, all_each_as ts j e.1)

module _ (ok ok' : ℕ → Dim → Type 0) (turn : (d : Dim) → ok 0 d → ok' 0 d) where
  mutual
    unfolding Each Each_all Data All_data

    pub each_data : (t : Size) → Data t → Each ok 0 t → Each ok' 0 t
    each_data (Hole a) h e = tt
    each_data (Open n v u) h e = tt
    each_data (Level d t) h e = (turn d e.0, each_data t h e.1)
    each_data (Built k ts) h e = all_each_data ts h e
    each_data (Fun k p r) h e = absurd h

    all_each_data : (ts : Sizes) → All_data ts → Each_all ok 0 ts → Each_all ok' 0 ts
    all_each_data no_size h e = tt
    all_each_data (size_and t ts) h e = (each_data t h.0 e.0, all_each_data ts h.1 e.1)

module _ (ok ok' : Variable → Type 0) (turn : (v : Variable) → ok v → ok' v) where
  mutual
    unfolding Each_hole Each_holes

    pub each_hole_as : (t : Size) → Each_hole ok t → Each_hole ok' t
    each_hole_as (Hole v) e = turn v e
    each_hole_as (Open n v u) e = e
    each_hole_as (Level d t) e = each_hole_as t e
    each_hole_as (Built k ts) e = all_each_hole_as ts e
    each_hole_as (Fun k p r) e = (each_hole_as p e.0, each_hole_as r e.1)

    all_each_hole_as : (ts : Sizes) → Each_holes ok ts → Each_holes ok' ts
    all_each_hole_as no_size e = tt
    all_each_hole_as (size_and t ts) e = (each_hole_as t e.0, all_each_hole_as ts e.1)

abbrev pub Any : Free → Type 0
Any d = Unit {0}

abbrev pub Any_position : ℕ → Type 0
Any_position i = Unit {0}

closes : (In : Free → Type 0) (δ : ℕ → Free) (j : ℕ) (d : Dim) → Scoped In (suc j) d → Scoped Any j (given δ (suc j) d)
closes In δ j (At d) s = tt
closes In δ j (Bound j' i) s = by_test (nat_eq (suc j') (suc j)) refl
  where
    by_test : (b : Bool) → nat_eq (suc j') (suc j) ≡ b → Scoped Any j (cond b (At (δ i)) (Bound j' i))
    by_test true e = tt
    by_test false e = let p = eqb-false (suc j') (suc j) e in omega (arith, s, p)

-- the part of a function type under a frame is the part with the sizes given that the frame has
module _ (N : Names) (τ : Meant) (m : Worth) (δ : ℕ → Free) (Q : ℕ → Type 0) (In : Free → Type 0) (F : ℕ → ℕ) (t : Size) (positions : Each (Of_positions Q) 1 t) (scoped : Each (Scoped In) 1 t) (same_frame : (i : ℕ) → Q i → F i ≡ free m (δ i)) where
  starts : (φ : Frames) → Opens m δ Q 1 (push F φ) (push F φ)
  unfolding push
  starts φ = (omega arith, (λ j' i. refl), (λ j0 i e w. subst (λ j. push F φ j i ≡ free m (δ i)) (let z : zero ≡ j0 = omega (arith, e) in z) (same_frame i w)))

  closed : Each (Scoped Any) 0 (opened δ t)
  closed = each_replaced (Scoped In) (Scoped Any) (given δ) (closes In δ) t 0 scoped

  any_frames : (φ φ' : Frames) → Same_below 0 φ φ'
  any_frames φ φ' j' i lt = absurd (omega (arith, lt))

  pub shape_opened : (φ φ' : Frames) (h : Shape) → Has_shape N τ m (push F φ) t h → Has_shape N τ m φ' (opened δ t) h
  shape_opened φ φ' h x = shape_same Any m m N τ (λ d i. refl) (opened δ t) 0 (push F φ) φ' closed (any_frames (push F φ) φ') h
      ((shape_replaced N τ m m (given δ) (Of_positions Q) (Opens m δ Q) (numbers_opened m δ Q) t 1 (push F φ) (push F φ) positions (starts φ) h).1 x)

  pub opened_shape : (φ φ' : Frames) (h : Shape) → Has_shape N τ m φ' (opened δ t) h → Has_shape N τ m (push F φ) t h
  opened_shape φ φ' h x = (shape_replaced N τ m m (given δ) (Of_positions Q) (Opens m δ Q) (numbers_opened m δ Q) t 1 (push F φ) (push F φ) positions (starts φ) h).0
      (shape_same Any m m N τ (λ d i. refl) (opened δ t) 0 φ' (push F φ) closed (any_frames φ' (push F φ)) h x)

  pub told_opened : (φ φ' : Frames) (tell : List Shape → Shape) → Told_right N τ m (push F φ) t tell → Told_right N τ m φ' (opened δ t) tell
  told_opened φ φ' tell x = told_same Any m m N τ (λ d i. refl) (opened δ t) 0 (push F φ) φ' closed (any_frames (push F φ) φ') tell
      ((told_replaced N τ m m (given δ) (Of_positions Q) (Opens m δ Q) (numbers_opened m δ Q) (opens_goes_in m δ Q) t 1 (push F φ) (push F φ) positions (starts φ) tell).1 x)

  pub opened_told : (φ φ' : Frames) (tell : List Shape → Shape) → Told_right N τ m φ' (opened δ t) tell → Told_right N τ m (push F φ) t tell
  opened_told φ φ' tell x = (told_replaced N τ m m (given δ) (Of_positions Q) (Opens m δ Q) (numbers_opened m δ Q) (opens_goes_in m δ Q) t 1 (push F φ) (push F φ) positions (starts φ) tell).0
      (told_same Any m m N τ (λ d i. refl) (opened δ t) 0 φ' (push F φ) closed (any_frames φ' (push F φ)) tell x)

  module _ (Z : Sizing) (is_there : Place → Bool) (calls : FlatValue → FlatValue → Rel FlatValue) where
    pub fits_opened : (φ φ' : Frames) (v : FlatValue) → Fits N τ Z is_there calls m (push F φ) t v → Fits N τ Z is_there calls m φ' (opened δ t) v
    fits_opened φ φ' v h = fits_same Any m m N τ Z is_there calls (λ d i. refl) (opened δ t) 0 (push F φ) φ' closed (any_frames (push F φ) φ') v
        ((fits_replaced N τ m m (given δ) (Of_positions Q) (Opens m δ Q) (numbers_opened m δ Q) Z is_there calls (opens_goes_in m δ Q) (opens_own m δ Q) t 1 (push F φ) (push F φ) positions (starts φ) v).1 h)

    pub opened_fits : (φ φ' : Frames) (v : FlatValue) → Fits N τ Z is_there calls m φ' (opened δ t) v → Fits N τ Z is_there calls m (push F φ) t v
    opened_fits φ φ' v h = (fits_replaced N τ m m (given δ) (Of_positions Q) (Opens m δ Q) (numbers_opened m δ Q) Z is_there calls (opens_goes_in m δ Q) (opens_own m δ Q) t 1 (push F φ) (push F φ) positions (starts φ) v).0
        (fits_same Any m m N τ Z is_there calls (λ d i. refl) (opened δ t) 0 φ' (push F φ) closed (any_frames φ' (push F φ)) v h)

-- ---- sizes by themselves replaced
abbrev Same_frames : ℕ → Frames → Frames → Type 0
Same_frames j φ φ' = (j' i : ℕ) → φ j' i ≡ φ' j' i

frames_go_in : Goes_in Same_frames
unfolding push
frames_go_in j φ φ' F q zero i = refl
frames_go_in j φ φ' F q (suc j') i = q j' i

abbrev Any_dim : ℕ → Dim → Type 0
Any_dim j d = Unit {0}

mutual
  unfolding Each Each_all

  each_any : (t : Size) (j : ℕ) → Each Any_dim j t
  each_any (Hole a) j = tt
  each_any (Open n v u) j = tt
  each_any (Level d t) j = (tt, each_any t j)
  each_any (Built h ts) j = all_each_any ts j
  each_any (Fun k p r) j = (each_any p (suc j), each_any r (suc j))

  all_each_any : (ts : Sizes) (j : ℕ) → Each_all Any_dim j ts
  all_each_any no_size j = tt
  all_each_any (size_and t ts) j = (each_any t j, all_each_any ts j)

module _ (N : Names) (τ : Meant) (Z : Sizing) (is_there : Place → Bool) (calls : FlatValue → FlatValue → Rel FlatValue) (m m' : Worth) (ρ : Free → Free) where
  numbers_renamed : ((d : Free) → free m (ρ d) ≡ free m' d) → Numbers_as m m' (renaming ρ) Any_dim Same_frames
  numbers_renamed worth j φ φ' (At d) q s = worth d
  numbers_renamed worth j φ φ' (Bound j' i) q s = q j' i

  renames_own : Keeps_own (renaming ρ) Same_frames
  renames_own j φ φ' q ks i e (At d) = same_ways
  renames_own j φ φ' q ks n e (Bound j' i) = same_ways

  pub fits_renamed : ((d : Free) → free m (ρ d) ≡ free m' d) → (t : Size) (φ : Frames) (v : FlatValue) → Ways (Fits N τ Z is_there calls m φ (renamed ρ t) v) (Fits N τ Z is_there calls m' φ t v)
  fits_renamed worth t φ v = fits_replaced N τ m m' (renaming ρ) Any_dim Same_frames (numbers_renamed worth) Z is_there calls frames_go_in renames_own t 0 φ φ (each_any t 0) (λ j' i. refl) v

  pub shape_renamed : ((d : Free) → free m (ρ d) ≡ free m' d) → (t : Size) (φ : Frames) (h : Shape) → Ways (Has_shape N τ m φ (renamed ρ t) h) (Has_shape N τ m' φ t h)
  shape_renamed worth t φ h = shape_replaced N τ m m' (renaming ρ) Any_dim Same_frames (numbers_renamed worth) t 0 φ φ (each_any t 0) (λ j' i. refl) h

  -- those of these alone
  numbers_in : (In : Free → Type 0) → ((d : Free) → In d → free m (ρ d) ≡ free m' d) → Numbers_as m m' (renaming ρ) (Scoped In) Same_frames
  numbers_in In worth j φ φ' (At d) q s = worth d s
  numbers_in In worth j φ φ' (Bound j' i) q s = q j' i

  pub fits_renamed_in : (In : Free → Type 0) → ((d : Free) → In d → free m (ρ d) ≡ free m' d) → (t : Size) (φ : Frames) (v : FlatValue) → Each (Scoped In) 0 t → Fits N τ Z is_there calls m' φ t v → Fits N τ Z is_there calls m φ (renamed ρ t) v
  fits_renamed_in In worth t φ v e h = (fits_replaced N τ m m' (renaming ρ) (Scoped In) Same_frames (numbers_in In worth) Z is_there calls frames_go_in renames_own t 0 φ φ e (λ j' i. refl) v).1 h

  pub shape_renamed_in : (In : Free → Type 0) → ((d : Free) → In d → free m (ρ d) ≡ free m' d) → (t : Size) (φ : Frames) (h : Shape) → Each (Scoped In) 0 t → Has_shape N τ m' φ t h → Has_shape N τ m φ (renamed ρ t) h
  shape_renamed_in In worth t φ h e x = (shape_replaced N τ m m' (renaming ρ) (Scoped In) Same_frames (numbers_in In worth) t 0 φ φ e (λ j' i. refl) h).1 x
