-- Data of one type looks alike where its shapes have the same sizes.
use Rattle.std.proofs.Common.{◌≡◌, Bool, true, false, ◌&&◌, ℕ, ◌≤◌, refl, sym, ◌∙◌, subst, arith, suc, length, nat_eq}
use Rattle.std.proofs.lemmas.Bool.{eqb-true}
use Rattle.fut_scalar.specs.declared.scalar.ScalarType.{ScalarType}
use Rattle.fut_types.specs.declared.Kind.TheVariants as kind
use Rattle.fut_types.specs.declared.Head.TheVariants as head
use Rattle.fut_types.specs.Types.{Ty, Var, Made, Tys, none, more, Kinds, HasKind, least}
use Rattle.fut_typing.specs.Names.{Names, AreNames}
use Rattle.fut_typing.specs.Primitives.{array_ty}
use Rattle.fut_value.specs.Data.{Shape, Scalar_shape, Tuple_shape, Record_shape, Array_shape, Unmet_shape, Shapes, no_shape, shape_and, Datum, Scalar_datum, Tuple_datum, Record_datum, Array_datum, Datums, no_datum, datum_and, listed, shape_of, shapes_of, is_unmet, all_unmet, same_sizes, all_same_sizes}
use Rattle.fut_meaning.specs.Found.{Told}
use Rattle.fut_meaning.specs.Datums.{as_value, as_values}
use Rattle.fut_meaning.specs.Flats.{FlatTops, FlatMode}
use Rattle.type_soundness.specs.Likeness.{All_datums, Is_empty, All_empty, Like, All_like}
use Rattle.type_soundness.specs.Fits.{Fits, All_fit}
use Rattle.type_soundness.proofs.DataFits.{parts_kind, first_kind, rest_kind}
use Rattle.type_soundness.proofs.Scalars.{below_kind}

pub both_are : (a b : Bool) → (a && b) ≡ true → (a ≡ true) × (b ≡ true)
both_are true b e = (refl, e)
both_are false b e = absurd (let z : false ≡ true = e in cc)

-- where there are no rows
pub no_rows : (P : Datum → Type 0) (ds : Datums) → length (listed ds) ≡ 0 → All_datums P ds
no_rows P no_datum e = tt
no_rows P (datum_and d ds) e = absurd (omega (arith, e))

-- scalars look like anything
pub scalar_like : (h : Shape) (s : _) → Like h (Scalar_datum s)
unfolding Like Is_empty
scalar_like (Scalar_shape t) s = tt
scalar_like (Tuple_shape hs) s = tt
scalar_like (Record_shape hs) s = tt
scalar_like (Array_shape n h) s = tt
scalar_like Unmet_shape s = tt

pub record_like : (h : Shape) (fs : _) → Like h (Record_datum fs)
unfolding Like Is_empty
record_like (Scalar_shape t) fs = tt
record_like (Tuple_shape hs) fs = tt
record_like (Record_shape hs) fs = tt
record_like (Array_shape n h) fs = tt
record_like Unmet_shape fs = tt

empty_like : (e : Datum) → Is_empty e → Like Unmet_shape e
unfolding Like
empty_like e h = h

-- data that looks as a shape without rows says has none
mutual
  unfolding Like All_like Is_empty All_empty is_unmet all_unmet

  pub unmet_like : (k : Shape) (e : Datum) → is_unmet k ≡ true → Like k e → Is_empty e
  unmet_like k (Scalar_datum s) u l = tt
  unmet_like k (Record_datum fs) u l = tt
  unmet_like (Scalar_shape t) (Tuple_datum es) u l = absurd l
  unmet_like (Record_shape hs) (Tuple_datum es) u l = absurd l
  unmet_like (Tuple_shape ks) (Tuple_datum es) u l = all_unmet_like ks es u l
  unmet_like (Array_shape n h) (Tuple_datum es) u l = absurd l
  unmet_like Unmet_shape (Tuple_datum es) u l = l
  unmet_like (Scalar_shape t) (Array_datum row es) u l = absurd l
  unmet_like (Record_shape hs) (Array_datum row es) u l = absurd l
  unmet_like (Tuple_shape ks) (Array_datum row es) u l = absurd l
  unmet_like (Array_shape n h) (Array_datum row es) u l = l.0 ∙ eqb-true n 0 (both_are (nat_eq n 0) (is_unmet h) u).0
  unmet_like Unmet_shape (Array_datum row es) u l = l

  all_unmet_like : (ks : Shapes) (es : Datums) → all_unmet ks ≡ true → All_like ks es → All_empty es
  all_unmet_like no_shape no_datum u l = tt
  all_unmet_like no_shape (datum_and e es) u l = absurd l
  all_unmet_like (shape_and k ks) no_datum u l = absurd l
  all_unmet_like (shape_and k ks) (datum_and e es) u l = let b = both_are (is_unmet k) (all_unmet ks) u in (unmet_like k e b.0 l.0, all_unmet_like ks es b.1 l.1)

module _ (N : Names) (are : AreNames N) (T : Told) (M : FlatMode) (budget : ℕ) (total : Bool) (tops : FlatTops) (K : Kinds) where
  abbrev D : Ty → Datum → Type 0
  D t d = Fits N T M budget total t tops (as_value d)

  abbrev All_D : Tys → Datums → Type 0
  All_D ts ds = All_fit N T M budget total ts tops (as_values ds)

  -- ---- what data of a type is
  pub scalar_view : (s : ScalarType) (ts : Tys) (d : Datum) → D (Made (head.Scalar s) ts) d → (h : Shape) → Like h d
  unfolding Fits
  scalar_view s ts (Scalar_datum c) h = λ g. scalar_like g c
  scalar_view s ts (Record_datum fs) h = absurd h
  scalar_view s ts (Tuple_datum ds) h = absurd h
  scalar_view s ts (Array_datum row ds) h = absurd h

  record_view : (n : ℕ) (ts : Tys) (d : Datum) → D (Made (head.Record n) ts) d → (h : Shape) → Like h d
  unfolding Fits
  record_view n ts (Scalar_datum c) h = absurd h
  record_view n ts (Record_datum fs) h = λ g. record_like g fs
  record_view n ts (Tuple_datum ds) h = absurd h
  record_view n ts (Array_datum row ds) h = absurd h

  pub tuple_view : (ts : Tys) (d : Datum) → D (Made head.Tuple ts) d → (ds : Datums) × (d ≡ Tuple_datum ds) × All_D ts ds
  unfolding Fits
  tuple_view ts (Tuple_datum ds) h = (ds, refl, h.1)
  tuple_view ts (Scalar_datum c) h = absurd h.1
  tuple_view ts (Record_datum fs) h = absurd h.1
  tuple_view ts (Array_datum row ds) h = absurd h.1

  pub array_view : (t : Ty) (d : Datum) → D (array_ty t) d → (row : Shape) × (ds : Datums) × (d ≡ Array_datum row ds) × All_datums (λ d. D t d × Like row d) ds
  unfolding Fits
  array_view t (Array_datum row ds) h = (row, ds, refl, h)
  array_view t (Scalar_datum c) h = absurd h
  array_view t (Record_datum fs) h = absurd h
  array_view t (Tuple_datum ds) h = absurd h

  rows_like : (P : Datum → Type 0) (h : Shape) (ds : Datums) → ((d : Datum) → P d → Like h d) → All_datums P ds → All_datums (Like h) ds
  rows_like P h no_datum go a = tt
  rows_like P h (datum_and d ds) go a = (go d a.0, rows_like P h ds go a.1)

  first_row : (P : Datum → Type 0) (ds : Datums) (n : ℕ) → All_datums P ds → length (listed ds) ≡ suc n → (d : Datum) × P d
  first_row P no_datum n a e = absurd (omega (arith, e))
  first_row P (datum_and d ds) n a e = (d, a.0)

  -- of rows of one array, if there is one
  each_row : (P Q : Datum → Type 0) (h : Shape) (xs es : Datums) → length (listed xs) ≡ length (listed es) → All_datums P xs → All_datums Q es → ((x e : Datum) → P x → Q e → Like h e) → All_datums (Like h) es
  each_row P Q h xs no_datum l a b go = tt
  each_row P Q h xs (datum_and e es) l a b go = let x = first_row P xs (length (listed es)) a l in rows_like Q h (datum_and e es) (λ d q. go x.0 d x.1 q) b

  -- ---- data looks as its shape says
  mutual
    unfolding Fits All_fit Like All_like shape_of shapes_of

    pub self_like : (t : Ty) (d : Datum) → HasKind K kind.Data t → D t d → Like (shape_of d) d
    self_like (Var n) d k h = absurd h
    self_like (Made (head.Scalar s) ts) d k h = scalar_view s ts d h (shape_of d)
    self_like (Made head.Array none) d k h = absurd h
    self_like (Made head.Array (more t none)) d k h = let v = array_view t d h in subst (λ z. Like (shape_of z) z) (sym v.2) (refl, rows_like (λ d. D t d × Like v.0 d) v.0 v.1 (λ d p. p.1) v.3)
    self_like (Made head.Array (more t (more u ts))) d k h = absurd h
    self_like (Made head.Tuple ts) d k h = let v = tuple_view ts d h in subst (λ z. Like (shape_of z) z) (sym v.1) (all_self_like ts v.0 (parts_kind N are T M budget total tops K head.Tuple ts k) v.2)
    self_like (Made (head.Record n) ts) d k h = record_view n ts d h (shape_of d)
    self_like (Made head.Fun ts) d k h = absurd (let p : 1 ≤ 0 = below_kind K kind.Data head.Fun ts k in omega arith)
    self_like (Made (head.Rigid n j) ts) d k h = absurd h
    self_like (Made (head.Abstract n j) ts) d k h = absurd h

    all_self_like : (ts : Tys) (ds : Datums) → 1 ≤ least K ts → All_D ts ds → All_like (shapes_of ds) ds
    all_self_like none no_datum k h = tt
    all_self_like none (datum_and d ds) k h = absurd h
    all_self_like (more t ts) no_datum k h = absurd h
    all_self_like (more t ts) (datum_and d ds) k h = (self_like t d (first_kind N are T M budget total tops K t ts k) h.0, all_self_like ts ds (rest_kind N are T M budget total tops K t ts k) h.1)

  -- ---- data looks as other data of its type does
  unmet_sizes : (h : Shape) → is_unmet h ≡ true → same_sizes h Unmet_shape ≡ true
  unfolding is_unmet same_sizes
  unmet_sizes (Scalar_shape t) e = refl
  unmet_sizes (Tuple_shape hs) e = e
  unmet_sizes (Record_shape hs) e = e
  unmet_sizes (Array_shape n h) e = e
  unmet_sizes Unmet_shape e = refl

  -- of arrays
  abbrev Goes : Ty → Type 0
  Goes t = (h k : Shape) (x e : Datum) → D t x → D t e → Like h x → Like k e → same_sizes h k ≡ true → Like h e

  arrays_same : (t : Ty) → Goes t → (h k : Shape) (rx re : Shape) (xs es : Datums) → All_datums (λ d. D t d × Like rx d) xs → All_datums (λ d. D t d × Like re d) es → Like h (Array_datum rx xs) → Like k (Array_datum re es) → same_sizes h k ≡ true → Like h (Array_datum re es)
  unfolding Like Is_empty is_unmet same_sizes
  arrays_same t go (Scalar_shape s) k rx re xs es a b l m e = absurd l
  arrays_same t go (Tuple_shape hs) k rx re xs es a b l m e = absurd l
  arrays_same t go (Record_shape hs) k rx re xs es a b l m e = absurd l
  arrays_same t go Unmet_shape k rx re xs es a b l m e = unmet_like k (Array_datum re es) e m
  arrays_same t go (Array_shape n h) (Scalar_shape s) rx re xs es a b l m e = absurd m
  arrays_same t go (Array_shape n h) (Tuple_shape hs) rx re xs es a b l m e = absurd m
  arrays_same t go (Array_shape n h) (Record_shape hs) rx re xs es a b l m e = absurd m
  arrays_same t go (Array_shape n h) Unmet_shape rx re xs es a b l m e = let z : n ≡ 0 = eqb-true n 0 (both_are (nat_eq n 0) (is_unmet h) e).0 in (m ∙ sym z, no_rows (Like h) es m)
  arrays_same t go (Array_shape n h) (Array_shape j k) rx re xs es a b l m e =
      let q = both_are (nat_eq n j) (same_sizes h k) e in
      let same : n ≡ j = eqb-true n j q.0 in
      (m.0 ∙ sym same, each_row (λ x. D t x × Like h x) (λ x. D t x × Like k x) h xs es (l.0 ∙ same ∙ sym m.0) (with_both rx h xs a l.1) (with_both re k es b m.1) (λ x d p r. go h k x d p.0 r.0 p.1 r.1 q.1))
    where
      with_both : (rx h : Shape) (xs : Datums) → All_datums (λ d. D t d × Like rx d) xs → All_datums (Like h) xs → All_datums (λ d. D t d × Like h d) xs
      with_both rx h no_datum a l = tt
      with_both rx h (datum_and d ds) a l = ((a.0.0, l.0), with_both rx h ds a.1 l.1)

  tuples_same : (ts : Tys) → ((h k : Shapes) (xs es : Datums) → All_D ts xs → All_D ts es → All_like h xs → All_like k es → all_same_sizes h k ≡ true → All_like h es)
      → ((h : Shapes) (xs es : Datums) → All_D ts xs → All_D ts es → All_like h xs → All_empty es → all_unmet h ≡ true → All_like h es)
      → (h k : Shape) (xs es : Datums) → All_D ts xs → All_D ts es → Like h (Tuple_datum xs) → Like k (Tuple_datum es) → same_sizes h k ≡ true → Like h (Tuple_datum es)
  unfolding Like Is_empty is_unmet same_sizes
  tuples_same ts go none-there (Scalar_shape s) k xs es a b l m e = absurd l
  tuples_same ts go none-there (Array_shape n h) k xs es a b l m e = absurd l
  tuples_same ts go none-there (Record_shape hs) k xs es a b l m e = absurd l
  tuples_same ts go none-there Unmet_shape k xs es a b l m e = unmet_like k (Tuple_datum es) e m
  tuples_same ts go none-there (Tuple_shape hs) (Scalar_shape s) xs es a b l m e = absurd m
  tuples_same ts go none-there (Tuple_shape hs) (Array_shape n h) xs es a b l m e = absurd m
  tuples_same ts go none-there (Tuple_shape hs) (Record_shape ks) xs es a b l m e = absurd m
  tuples_same ts go none-there (Tuple_shape hs) Unmet_shape xs es a b l m e = none-there hs xs es a b l m e
  tuples_same ts go none-there (Tuple_shape hs) (Tuple_shape ks) xs es a b l m e = go hs ks xs es a b l m e

  mutual
    unfolding Fits All_fit All_like All_empty all_unmet all_same_sizes

    pub same_like : (t : Ty) → HasKind K kind.Data t → (h k : Shape) (x e : Datum) → D t x → D t e → Like h x → Like k e → same_sizes h k ≡ true → Like h e
    same_like (Var n) kd h k x e a b l m s = absurd a
    same_like (Made (head.Scalar c) ts) kd h k x e a b l m s = scalar_view c ts e b h
    same_like (Made head.Array none) kd h k x e a b l m s = absurd a
    same_like (Made head.Array (more t none)) kd h k x e a b l m s =
        let v = array_view t x a in
        let w = array_view t e b in
        subst (Like h) (sym w.2) (arrays_same t (same_like t (first_kind N are T M budget total tops K t none (parts_kind N are T M budget total tops K head.Array (more t none) kd))) h k v.0 w.0 v.1 w.1 v.3 w.3 (subst (Like h) v.2 l) (subst (Like k) w.2 m) s)
    same_like (Made head.Array (more t (more u ts))) kd h k x e a b l m s = absurd a
    same_like (Made head.Tuple ts) kd h k x e a b l m s =
        let v = tuple_view ts x a in
        let w = tuple_view ts e b in
        let p = parts_kind N are T M budget total tops K head.Tuple ts kd in
        subst (Like h) (sym w.1) (tuples_same ts (all_same_like ts p) (all_none_like ts p) h k v.0 w.0 v.2 w.2 (subst (Like h) v.1 l) (subst (Like k) w.1 m) s)
    same_like (Made (head.Record n) ts) kd h k x e a b l m s = record_view n ts e b h
    same_like (Made head.Fun ts) kd h k x e a b l m s = absurd (let p : 1 ≤ 0 = below_kind K kind.Data head.Fun ts kd in omega arith)
    same_like (Made (head.Rigid n j) ts) kd h k x e a b l m s = absurd a
    same_like (Made (head.Abstract n j) ts) kd h k x e a b l m s = absurd a

    all_same_like : (ts : Tys) → 1 ≤ least K ts → (hs ks : Shapes) (xs es : Datums) → All_D ts xs → All_D ts es → All_like hs xs → All_like ks es → all_same_sizes hs ks ≡ true → All_like hs es
    all_same_like none kd hs ks (datum_and x xs) es a b l m s = absurd a
    all_same_like none kd hs ks no_datum (datum_and e es) a b l m s = absurd b
    all_same_like none kd hs ks no_datum no_datum a b l m s = l
    all_same_like (more t ts) kd hs ks no_datum es a b l m s = absurd a
    all_same_like (more t ts) kd hs ks (datum_and x xs) no_datum a b l m s = absurd b
    all_same_like (more t ts) kd no_shape ks (datum_and x xs) (datum_and e es) a b l m s = absurd l
    all_same_like (more t ts) kd (shape_and h hs) no_shape (datum_and x xs) (datum_and e es) a b l m s = absurd m
    all_same_like (more t ts) kd (shape_and h hs) (shape_and k ks) (datum_and x xs) (datum_and e es) a b l m s =
        let q = both_are (same_sizes h k) (all_same_sizes hs ks) s in
        (same_like t (first_kind N are T M budget total tops K t ts kd) h k x e a.0 b.0 l.0 m.0 q.0, all_same_like ts (rest_kind N are T M budget total tops K t ts kd) hs ks xs es a.1 b.1 l.1 m.1 q.1)

    all_none_like : (ts : Tys) → 1 ≤ least K ts → (hs : Shapes) (xs es : Datums) → All_D ts xs → All_D ts es → All_like hs xs → All_empty es → all_unmet hs ≡ true → All_like hs es
    all_none_like none kd hs (datum_and x xs) es a b l m s = absurd a
    all_none_like none kd hs no_datum (datum_and e es) a b l m s = absurd b
    all_none_like none kd hs no_datum no_datum a b l m s = l
    all_none_like (more t ts) kd hs no_datum es a b l m s = absurd a
    all_none_like (more t ts) kd hs (datum_and x xs) no_datum a b l m s = absurd b
    all_none_like (more t ts) kd no_shape (datum_and x xs) (datum_and e es) a b l m s = absurd l
    all_none_like (more t ts) kd (shape_and h hs) (datum_and x xs) (datum_and e es) a b l m s =
        let q = both_are (is_unmet h) (all_unmet hs) s in
        (same_like t (first_kind N are T M budget total tops K t ts kd) h Unmet_shape x e a.0 b.0 l.0 (empty_like e m.0) (unmet_sizes h q.0), all_none_like ts (rest_kind N are T M budget total tops K t ts kd) hs xs es a.1 b.1 l.1 m.1 q.1)

  -- ---- data looks as what looks like it does
  arrays_through : (t : Ty) → ((h k : Shape) (x e : Datum) → D t x → D t e → Like h x → Like k x → Like k e → Like h e) → (h k : Shape) (rx re : Shape) (xs es : Datums) → All_datums (λ d. D t d × Like rx d) xs → All_datums (λ d. D t d × Like re d) es
      → Like h (Array_datum rx xs) → Like k (Array_datum rx xs) → Like k (Array_datum re es) → Like h (Array_datum re es)
  unfolding Like Is_empty
  arrays_through t go h (Scalar_shape s) rx re xs es a b l m n = absurd m
  arrays_through t go h (Tuple_shape s) rx re xs es a b l m n = absurd m
  arrays_through t go h (Record_shape s) rx re xs es a b l m n = absurd m
  arrays_through t go (Scalar_shape s) k rx re xs es a b l m n = absurd l
  arrays_through t go (Tuple_shape s) k rx re xs es a b l m n = absurd l
  arrays_through t go (Record_shape s) k rx re xs es a b l m n = absurd l
  arrays_through t go Unmet_shape Unmet_shape rx re xs es a b l m n = n
  arrays_through t go Unmet_shape (Array_shape j k) rx re xs es a b l m n = n.0 ∙ sym m.0 ∙ l
  arrays_through t go (Array_shape i h) Unmet_shape rx re xs es a b l m n = (n ∙ sym m ∙ l.0, no_rows (Like h) es n)
  arrays_through t go (Array_shape i h) (Array_shape j k) rx re xs es a b l m n =
      (n.0 ∙ sym m.0 ∙ l.0, each_row (λ x. D t x × (Like h x × Like k x)) (λ x. D t x × Like k x) h xs es (m.0 ∙ sym n.0) (with_three rx h k xs a l.1 m.1) (with_two re k es b n.1) (λ x d p r. go h k x d p.0 r.0 p.1.0 p.1.1 r.1))
    where
      with_two : (rx k : Shape) (xs : Datums) → All_datums (λ d. D t d × Like rx d) xs → All_datums (Like k) xs → All_datums (λ d. D t d × Like k d) xs
      with_two rx k no_datum a l = tt
      with_two rx k (datum_and d ds) a l = ((a.0.0, l.0), with_two rx k ds a.1 l.1)

      with_three : (rx h k : Shape) (xs : Datums) → All_datums (λ d. D t d × Like rx d) xs → All_datums (Like h) xs → All_datums (Like k) xs → All_datums (λ d. D t d × (Like h d × Like k d)) xs
      with_three rx h k no_datum a l m = tt
      with_three rx h k (datum_and d ds) a l m = ((a.0.0, (l.0, m.0)), with_three rx h k ds a.1 l.1 m.1)

  -- a shape of parts, where no shape is given too
  abbrev unmet_parts : Datums → Shapes
  unmet_parts no_datum = no_shape
  unmet_parts (datum_and d ds) = shape_and Unmet_shape (unmet_parts ds)

  empty_parts : (ts : Tys) (xs es : Datums) → All_D ts xs → All_D ts es → All_empty es → All_like (unmet_parts xs) es
  unfolding All_fit All_like All_empty Like
  empty_parts none no_datum no_datum a b m = tt
  empty_parts none (datum_and x xs) es a b m = absurd a
  empty_parts none no_datum (datum_and e es) a b m = absurd b
  empty_parts (more t ts) no_datum es a b m = absurd a
  empty_parts (more t ts) (datum_and x xs) no_datum a b m = absurd b
  empty_parts (more t ts) (datum_and x xs) (datum_and e es) a b m = (m.0, empty_parts ts xs es a.1 b.1 m.1)

  parts_empty : (xs es : Datums) → All_like (unmet_parts xs) es → All_empty es
  unfolding All_like All_empty Like
  parts_empty no_datum no_datum m = tt
  parts_empty no_datum (datum_and e es) m = absurd m
  parts_empty (datum_and x xs) no_datum m = absurd m
  parts_empty (datum_and x xs) (datum_and e es) m = (m.0, parts_empty xs es m.1)

  tuples_through : (ts : Tys) → ((hs ks : Shapes) (xs es : Datums) → All_D ts xs → All_D ts es → All_like hs xs → All_like ks xs → All_like ks es → All_like hs es)
      → (h k : Shape) (xs es : Datums) → All_D ts xs → All_D ts es → Like h (Tuple_datum xs) → Like k (Tuple_datum xs) → Like k (Tuple_datum es) → Like h (Tuple_datum es)
  unfolding Like Is_empty
  tuples_through ts go h (Scalar_shape s) xs es a b l m n = absurd m
  tuples_through ts go h (Array_shape j k) xs es a b l m n = absurd m
  tuples_through ts go h (Record_shape s) xs es a b l m n = absurd m
  tuples_through ts go (Scalar_shape s) k xs es a b l m n = absurd l
  tuples_through ts go (Array_shape j s) k xs es a b l m n = absurd l
  tuples_through ts go (Record_shape s) k xs es a b l m n = absurd l
  tuples_through ts go Unmet_shape Unmet_shape xs es a b l m n = n
  tuples_through ts go Unmet_shape (Tuple_shape ks) xs es a b l m n = parts_empty xs es (go (unmet_parts xs) ks xs es a b (empty_parts ts xs xs a a l) m n)
  tuples_through ts go (Tuple_shape hs) Unmet_shape xs es a b l m n = go hs (unmet_parts xs) xs es a b l (empty_parts ts xs xs a a m) (empty_parts ts xs es a b n)
  tuples_through ts go (Tuple_shape hs) (Tuple_shape ks) xs es a b l m n = go hs ks xs es a b l m n

  mutual
    unfolding Fits All_fit All_like

    pub through_like : (t : Ty) → HasKind K kind.Data t → (h k : Shape) (x e : Datum) → D t x → D t e → Like h x → Like k x → Like k e → Like h e
    through_like (Var n) kd h k x e a b l m s = absurd a
    through_like (Made (head.Scalar c) ts) kd h k x e a b l m s = scalar_view c ts e b h
    through_like (Made head.Array none) kd h k x e a b l m s = absurd a
    through_like (Made head.Array (more t none)) kd h k x e a b l m s =
        let v = array_view t x a in
        let w = array_view t e b in
        subst (Like h) (sym w.2) (arrays_through t (through_like t (first_kind N are T M budget total tops K t none (parts_kind N are T M budget total tops K head.Array (more t none) kd))) h k v.0 w.0 v.1 w.1 v.3 w.3 (subst (Like h) v.2 l) (subst (Like k) v.2 m) (subst (Like k) w.2 s))
    through_like (Made head.Array (more t (more u ts))) kd h k x e a b l m s = absurd a
    through_like (Made head.Tuple ts) kd h k x e a b l m s =
        let v = tuple_view ts x a in
        let w = tuple_view ts e b in
        subst (Like h) (sym w.1) (tuples_through ts (all_through_like ts (parts_kind N are T M budget total tops K head.Tuple ts kd)) h k v.0 w.0 v.2 w.2 (subst (Like h) v.1 l) (subst (Like k) v.1 m) (subst (Like k) w.1 s))
    through_like (Made (head.Record n) ts) kd h k x e a b l m s = record_view n ts e b h
    through_like (Made head.Fun ts) kd h k x e a b l m s = absurd (let p : 1 ≤ 0 = below_kind K kind.Data head.Fun ts kd in omega arith)
    through_like (Made (head.Rigid n j) ts) kd h k x e a b l m s = absurd a
    through_like (Made (head.Abstract n j) ts) kd h k x e a b l m s = absurd a

    all_through_like : (ts : Tys) → 1 ≤ least K ts → (hs ks : Shapes) (xs es : Datums) → All_D ts xs → All_D ts es → All_like hs xs → All_like ks xs → All_like ks es → All_like hs es
    all_through_like none kd hs ks (datum_and x xs) es a b l m n = absurd a
    all_through_like none kd hs ks no_datum (datum_and e es) a b l m n = absurd b
    all_through_like none kd hs ks no_datum no_datum a b l m n = l
    all_through_like (more t ts) kd hs ks no_datum es a b l m n = absurd a
    all_through_like (more t ts) kd hs ks (datum_and x xs) no_datum a b l m n = absurd b
    all_through_like (more t ts) kd no_shape ks (datum_and x xs) (datum_and e es) a b l m n = absurd l
    all_through_like (more t ts) kd (shape_and h hs) no_shape (datum_and x xs) (datum_and e es) a b l m n = absurd m
    all_through_like (more t ts) kd (shape_and h hs) (shape_and k ks) (datum_and x xs) (datum_and e es) a b l m n =
        (through_like t (first_kind N are T M budget total tops K t ts kd) h k x e a.0 b.0 l.0 m.0 n.0, all_through_like ts (rest_kind N are T M budget total tops K t ts kd) hs ks xs es a.1 b.1 l.1 m.1 n.1)
