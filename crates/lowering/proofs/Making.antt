-- Arrays that are made of parts, updated, and ranges.
use Rattle.std.proofs.Common.{◌≡◌, ℕ, zero, suc, ◌+◌, ◌*◌, max, nat_le, List, [], ◌∷◌, ◌++◌, Bool, true, false, Option, Some, None, ℤ, ◌+ℤ◌, ◌-ℤ◌, map, flat_map, length, refl, sym, ap, ◌∙◌, subst, arith}
use Rattle.fut_scalar.specs.declared.place.Place.{Place}
use Rattle.fut_scalar.specs.declared.report.FailKind.TheVariants as kind
use Rattle.fut_scalar.specs.declared.scalar.IntType.{IntType}
use Rattle.fut_scalar.specs.declared.scalar.Scalar.{Scalar}
use Rattle.fut_scalar.specs.declared.scalar.Scalar.TheVariants as scalar
use Rattle.fut_scalar.specs.declared.scalar.ScalarType.{ScalarType}
use Rattle.fut_scalar.specs.declared.scalar.ScalarType.TheVariants as sort
use Rattle.fut_scalar.specs.Integers.{integer_of, reduced}
use Rattle.fut_arithmetic.specs.Types.{type_of}
use Rattle.fut_ast.specs.declared.node.End.{End}
use Rattle.fut_value.specs.Data.{Shape, Scalar_shape, Datum, Scalar_datum, Array_datum, listed, datums, shape_of}
use Rattle.fut_value.specs.Leaves.{leaves}
use Rattle.fut_meaning.specs.Arrays.{checked, if_light, last_apart, most_words, range_count, unit_step, all_fresh, all_shared, each_out, exact_of}
use Rattle.fut_meaning.specs.Arrays as meaning
use Rattle.fut_meaning.specs.Outcomes.{Out, Val, Fail, Wrong, and_then}
use Rattle.fut_meaning.specs.Sames.{All_same, all_none, all_more}
use Rattle.core_ir.specs.Arrays as core
use Rattle.core_ir.specs.Arrays.{scalar_in, flat, stepped_from, range}
use Rattle.core_ir.specs.Bundles.{Many, Row, first_cells, within_weight, glued}
use Rattle.core_values.specs.Claims.{apart, Fits_at, fits_here, fits_inside}
use Rattle.core_values.specs.Components.{components, each_components, One_type, scalars, arrays, a_scalar, an_array, Rows_regular, no_row, and_row, Of_type, none_of, one_of}
use Rattle.core_values.proofs.Making.{arrays_are_made, made_are_regular, made_are_typed, failed}
use Rattle.core_values.proofs.Updating.{On_value, on_then, on_given, updates_agree, updated_are_regular}
use Rattle.lowering.specs.Arrays.{array, Has_rows, its_row, in_row}
use Rattle.lowering.specs.Programs.{Is_data}
use Rattle.lowering.proofs.Indexing.{on_checked}
use Rattle.lowering.proofs.Types.{turned, one_then}

-- ---- arrays of some parts

of_type : {h : Shape} (ds : List Datum) → All_same Is_data (map (λ d. h) ds) ds → Of_type h ds
of_type [] all_none = none_of
of_type (d ∷ ds) (all_more i a) = one_of i.regular i.typed (of_type ds a)

module _ (at : Place) (h : Shape) (d : Datum) (ds : List Datum) (a : All_same Is_data (map (λ d. h) (d ∷ ds)) (d ∷ ds)) (o : One_type h h) where
  -- whatever rows are told
  pub literal_agrees : (told : Shape) → glued false at [] (map components (d ∷ ds)) ≡ apart (meaning.array false at told (d ∷ ds))
  unfolding glued meaning.array
  literal_agrees told = arrays_are_made false at h (d ∷ ds) o (of_type (d ∷ ds) a)

  pub literal_data : (told : Shape) → On_value (Is_data (array h)) (meaning.array false at told (d ∷ ds))
  unfolding meaning.array
  literal_data told e q = record { regular = made_are_regular false at h (d ∷ ds) o (of_type (d ∷ ds) a) e q; typed = made_are_typed false at h (d ∷ ds) o (of_type (d ∷ ds) a) e q }

-- ---- updates

fits_at : {k h h' : Shape} {v : Datum} (zs : List ℤ) (n : ℕ) → length zs ≡ n → Has_rows k n h → One_type h h' → Is_data k v → Fits_at v zs h'
fits_at [] n e (its_row o) p i = absurd (omega (arith, e))
fits_at [] n e (in_row r) p i = absurd (omega (arith, e))
fits_at (z ∷ []) n e (its_row o) (arrays p) i = fits_inside (fits_here (one_then (turned p) (one_then o i.typed)))
fits_at (z ∷ w ∷ zs) n e (its_row o) p i = absurd (omega (arith, e))
fits_at (z ∷ zs) n e (in_row {m = m} r) (arrays p) i = fits_inside (fits_at zs (suc m) (omega (arith, e)) r p i)

last_is : (ds : List Datum) (v : Datum) → last_apart (ds ++ v ∷ []) ≡ Val (ds, v)
last_is [] v = refl
last_is (d ∷ []) v = refl
last_is (d ∷ e ∷ ds) v = ap (λ z. and_then z (λ r. Val (d ∷ r.0, r.1))) (last_is (e ∷ ds) v)

module _ (at : Place) {h k : Shape} (d v : Datum) (a : Is_data h d) (b : Is_data k v) where
  abbrev pub updated_by : List Datum → Out Datum
  updated_by is = and_then (each_out exact_of is) (λ zs. meaning.updated false at zs v d)

  exact_long : (is : List Datum) → On_value (λ zs. length zs ≡ length is) (each_out exact_of is)
  exact_long [] = on_given (λ zs. length zs ≡ 0) [] refl
  exact_long (i ∷ is) = on_then (λ z. Unit {0}) (λ zs. length zs ≡ suc (length is)) (exact_of i) _ (λ z q. tt) (λ z u. on_then (λ zs. length zs ≡ length is) (λ zs. length zs ≡ suc (length is)) (each_out exact_of is) _ (exact_long is) (λ zs e. on_given (λ zs. length zs ≡ suc (length is)) (z ∷ zs) (ap suc e)))

  pub update_agrees : (cs : Row) (is : List Datum) → Has_rows k (length is) h → each_out core.exact_in cs ≡ each_out exact_of is → and_then (each_out core.exact_in cs) (λ zs. core.updated false at zs (components v) (components d)) ≡ apart (updated_by is)
  update_agrees cs is r e = ap (λ z. and_then z (λ zs. core.updated false at zs (components v) (components d))) e ∙ over (each_out exact_of is) (exact_long is)
    where
      over : (o : Out (List ℤ)) → On_value (λ zs. length zs ≡ length is) o → and_then o (λ zs. core.updated false at zs (components v) (components d)) ≡ apart (and_then o (λ zs. meaning.updated false at zs v d))
      over (Val zs) g = updates_agree false at zs v d b.regular a.regular (fits_at zs (length is) (g zs refl) r a.typed b)
      over (Fail w) g = refl
      over Wrong g = refl

  pub update_data : (is : List Datum) → Has_rows k (length is) h → On_value (Is_data h) (updated_by is)
  update_data is r =
      on_then (λ zs. length zs ≡ length is) (Is_data h) (each_out exact_of is) (λ zs. meaning.updated false at zs v d) (exact_long is) (λ zs l e q.
      let g = updated_are_regular false at zs v d b.regular a.regular (fits_at zs (length is) l r a.typed b) e q in
      record { regular = g.0; typed = subst (λ z. One_type h z) (sym g.1) a.typed })

  pub update_made : (told : Shape) (is : List Datum) → meaning.made false told meaning.Make_update at (d ∷ (is ++ v ∷ [])) ≡ all_shared (updated_by is)
  unfolding meaning.made
  update_made told is = ap (λ z. and_then z (λ r. and_then (each_out exact_of r.0) (λ zs. all_shared (meaning.updated false at zs r.1 d)))) (last_is is v) ∙ over (each_out exact_of is)
    where
      over : (o : Out (List ℤ)) → and_then o (λ zs. all_shared (meaning.updated false at zs v d)) ≡ all_shared (and_then o (λ zs. meaning.updated false at zs v d))
      over (Val zs) = refl
      over (Fail w) = refl
      over Wrong = refl

-- ---- arrays of scalars

-- scalars of one type
pub data All_of (t : ScalarType) : List Scalar → Type 0 where
  no_scalar : All_of t []
  scalar_and : {s : Scalar} {ss : List Scalar} → type_of s ≡ t → All_of t ss → All_of t (s ∷ ss)

abbrev pub scalar_array : ScalarType → List Scalar → Datum
scalar_array t ss = Array_datum (Scalar_shape t) (datums (map Scalar_datum ss))

scalar_rows : {t : ScalarType} {ss : List Scalar} → All_of t ss → Rows_regular (Scalar_shape t) (datums (map Scalar_datum ss))
unfolding shape_of
scalar_rows no_scalar = no_row
scalar_rows (scalar_and e a) = and_row a_scalar (ap Scalar_shape e) (scalar_rows a)

pub scalar_array_data : {t : ScalarType} {ss : List Scalar} → All_of t ss → Is_data (array (Scalar_shape t)) (scalar_array t ss)
unfolding shape_of
scalar_array_data a = record { regular = an_array scalars (scalar_rows a); typed = arrays scalars }

scalar_cells : (ss : List Scalar) → flat_map first_cells (each_components (datums (map Scalar_datum ss))) ≡ ss
unfolding components each_components
scalar_cells [] = refl
scalar_cells (s ∷ ss) = ap (λ z. s ∷ z) (scalar_cells ss)

listed_many : (ss : List Scalar) → length (listed (datums (map Scalar_datum ss))) ≡ length ss
listed_many [] = refl
listed_many (s ∷ ss) = ap suc (listed_many ss)

pub scalar_components : (t : ScalarType) (ss : List Scalar) → components (scalar_array t ss) ≡ Many (length ss ∷ []) ss ∷ []
unfolding components leaves
scalar_components t ss = ap (λ z. Many (length (listed (datums (map Scalar_datum ss))) ∷ []) z ∷ []) (scalar_cells ss) ∙ ap (λ n. Many (n ∷ []) ss ∷ []) (listed_many ss)

line_weight : (n : ℕ) → max (max (max (1 * n) 0) 0) (n * 1 + 0) ≡ n
line_weight n = omega arith

light : (b : Bool) (at : Place) (d : Datum) (cs : Row) → cs ≡ components d → checked b kind.TooLarge at (Val cs) ≡ apart (checked b kind.TooLarge at (Val d))
light true at d cs e = ap Val e
light false at d cs e = refl

pub flat_agrees : (at : Place) (t : ScalarType) (n : ℕ) (ss : List Scalar) → length ss ≡ n → flat at n ss ≡ apart (if_light at n (Val (scalar_array t ss)))
unfolding within_weight
flat_agrees at t n ss e =
    ap (λ z. checked (nat_le z most_words) kind.TooLarge at (Val (Many (n ∷ []) ss ∷ []))) (line_weight n)
    ∙ light (nat_le n most_words) at (scalar_array t ss) (Many (n ∷ []) ss ∷ []) (ap (λ m. Many (m ∷ []) ss ∷ []) (sym e) ∙ sym (scalar_components t ss))

pub flat_data : (at : Place) (n : ℕ) {t : ScalarType} {ss : List Scalar} → All_of t ss → On_value (Is_data (array (Scalar_shape t))) (if_light at n (Val (scalar_array t ss)))
flat_data at n {t} {ss} a = on_checked (Is_data (array (Scalar_shape t))) (nat_le n most_words) kind.TooLarge at (Val (scalar_array t ss)) (λ e. on_given (Is_data (array (Scalar_shape t))) (scalar_array t ss) (scalar_array_data a))

-- ---- ranges

stepped_same : (t : IntType) (z step : ℤ) (n : ℕ) → meaning.stepped_from t z step n ≡ map Scalar_datum (stepped_from t z step n)
stepped_same t z step zero = refl
stepped_same t z step (suc n) = ap (λ x. Scalar_datum (scalar.Int t (reduced t z)) ∷ x) (stepped_same t (z +ℤ step) step n)

stepped_many : (t : IntType) (z step : ℤ) (n : ℕ) → length (stepped_from t z step n) ≡ n
stepped_many t z step zero = refl
stepped_many t z step (suc n) = ap suc (stepped_many t (z +ℤ step) step n)

stepped_types : (t : IntType) (z step : ℤ) (n : ℕ) → All_of (sort.Int t) (stepped_from t z step n)
stepped_types t z step zero = no_scalar
stepped_types t z step (suc n) = scalar_and refl (stepped_types t (z +ℤ step) step n)

module _ (at : Place) (t : IntType) (from step : ℤ) where
  range_agrees : (o : Option ℕ) → core.range_of at t from step o ≡ apart (meaning.range_of at t from step o)
  range_agrees None = refl
  range_agrees (Some n) = flat_agrees at (sort.Int t) n (stepped_from t from step n) (stepped_many t from step n) ∙ ap (λ z. apart (if_light at n (Val (Array_datum (Scalar_shape (sort.Int t)) (datums z))))) (sym (stepped_same t from step n))

  range_data : (o : Option ℕ) → On_value (Is_data (array (Scalar_shape (sort.Int t)))) (meaning.range_of at t from step o)
  range_data None = λ e q. failed q
  range_data (Some n) = subst (λ z. On_value (Is_data (array (Scalar_shape (sort.Int t)))) (if_light at n (Val (Array_datum (Scalar_shape (sort.Int t)) (datums z))))) (sym (stepped_same t from step n)) (flat_data at n (stepped_types t from step n))

-- from scalars
pub record Ranged (t : IntType) (o : Out Row) (p : Out Datum) : Type 0 where
  pub agrees : o ≡ apart p
  pub is_data : On_value (Is_data (array (Scalar_shape (sort.Int t)))) p

int_is : {t u : IntType} → sort.Int t ≡ sort.Int u → t ≡ u
int_is e = cc

pub range_out : (at : Place) (e : End) (t : IntType) (a b : Scalar) → type_of a ≡ sort.Int t → type_of b ≡ sort.Int t → Ranged t (range at false e (a ∷ b ∷ [])) (meaning.range at false e (Scalar_datum a ∷ Scalar_datum b ∷ []))
unfolding meaning.range
range_out at e t (scalar.Int u m) (scalar.Int v n) p q =
    let o = range_count e (integer_of u m) (unit_step e) (integer_of u n) in
    record { agrees = range_agrees at u (integer_of u m) (unit_step e) o; is_data = subst (λ z. On_value (Is_data (array (Scalar_shape (sort.Int z)))) (meaning.range_of at u (integer_of u m) (unit_step e) o)) (int_is p) (range_data at u (integer_of u m) (unit_step e) o) }
range_out at e t (scalar.Int u m) (scalar.Bool b) p q = absurd (let z : sort.Bool ≡ sort.Int t = q in cc)
range_out at e t (scalar.Bool a) b p q = absurd (let z : sort.Bool ≡ sort.Int t = p in cc)

pub stepped_out : (at : Place) (e : End) (t : IntType) (a b c : Scalar) → type_of a ≡ sort.Int t → type_of b ≡ sort.Int t → type_of c ≡ sort.Int t → Ranged t (range at true e (a ∷ b ∷ c ∷ [])) (meaning.range at true e (Scalar_datum a ∷ Scalar_datum b ∷ Scalar_datum c ∷ []))
unfolding meaning.range
stepped_out at e t (scalar.Int u m) (scalar.Int v k) (scalar.Int w n) p q r =
    let step = integer_of u k -ℤ integer_of u m in
    let o = range_count e (integer_of u m) step (integer_of u n) in
    record { agrees = range_agrees at u (integer_of u m) step o; is_data = subst (λ z. On_value (Is_data (array (Scalar_shape (sort.Int z)))) (meaning.range_of at u (integer_of u m) step o)) (int_is p) (range_data at u (integer_of u m) step o) }
stepped_out at e t (scalar.Int u m) (scalar.Int v k) (scalar.Bool c) p q r = absurd (let z : sort.Bool ≡ sort.Int t = r in cc)
stepped_out at e t (scalar.Int u m) (scalar.Bool b) c p q r = absurd (let z : sort.Bool ≡ sort.Int t = q in cc)
stepped_out at e t (scalar.Bool a) b c p q r = absurd (let z : sort.Bool ≡ sort.Int t = p in cc)
