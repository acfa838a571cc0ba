-- The primitives on arrays without a function: each gives data of the type of its result.
use Rattle.std.proofs.Common.{◌≡◌, ◌⊎◌, Bool, ℕ, zero, suc, ◌+◌, ◌*◌, ◌-◌, ◌≤◌, ◌<◌, refl, sym, subst, arith, List, [], ◌∷◌, length, map, take, drop, reverse, replicate, nat_eq, nat_le, not, ℤ, pos, negsuc, unsigned_abs, true, false, ◌++◌, ap, ◌∙◌, suc-mul, ne_eqb, cond}
use Rattle.std.proofs.lemmas.Bool.{eqb-true}
use Rattle.std.proofs.lemmas.List.{length-take, length-drop}
use mathlib.Core.Logic.{inl, inr}
use Rattle.std.specs.Int.{int_rem_euclid}
use Rattle.fut_scalar.specs.declared.operator.BinOp.{BinOp}
use Rattle.fut_scalar.specs.declared.operator.BinOp.TheVariants as binary
use Rattle.fut_scalar.specs.declared.place.Place.{Place}
use Rattle.fut_scalar.specs.declared.report.FailKind.TheVariants as fail
use Rattle.fut_scalar.specs.declared.scalar.IntType.{IntType}
use Rattle.fut_scalar.specs.declared.scalar.IntType.TheVariants as int
use Rattle.fut_scalar.specs.declared.scalar.Scalar.{Scalar}
use Rattle.fut_scalar.specs.declared.scalar.Scalar.TheVariants as scalar
use Rattle.fut_scalar.specs.declared.scalar.ScalarType.TheVariants as types
use Rattle.fut_flat.specs.declared.prim.Primitive.{Primitive}
use Rattle.fut_flat.specs.declared.prim.Folding.TheVariants as folding
use Rattle.fut_flat.specs.declared.prim.Primitive.TheVariants as prim
use Rattle.fut_types.specs.declared.Kind.TheVariants as kind
use Rattle.fut_types.specs.declared.Head.TheVariants as head
use Rattle.fut_types.specs.Types.{Ty, Made, Tys, none, more, Kinds, HasKind, scalar_ty}
use Rattle.fut_typing.specs.Names.{Names, AreNames, count}
use Rattle.fut_typing.specs.Primitives.{array_ty, bool_ty, i64_ty, pair_ty, triple_ty}
use Rattle.fut_meaning.specs.Found.{Told}
use Rattle.fut_meaning.specs.Outcomes.{Out, Val, and_then}
use Rattle.fut_value.specs.Data.{Shape, Scalar_shape, Tuple_shape, Record_shape, Array_shape, Unmet_shape, Shapes, no_shape, shape_and, Datum, Scalar_datum, Tuple_datum, Record_datum, Array_datum, Datums, no_datum, datum_and, listed, datums, shape_of, weight}
use Rattle.fut_meaning.specs.Datums.{as_value, as_values}
use Rattle.fut_meaning.specs.Arrays.{most_words, Rows, rows_of, scalar_of_datum, array_of, size, inner, i64, Counted, fresh, shared, all_fresh}
use Rattle.fut_meaning.specs.Jobs.{Job, done, on_rows, on_exact, size_of, shown_to_agree, either_row, or_met, columns, zipped, tupled, row_of, part_shape, part_at, tuple_part, column, all_columns, i64_shape, numbers_from, combined, summary, some_rows, all_but_last, last_of, first_of_rows, counted_rows, around, joined, inner_rows, grouped, crossed, job}
use Rattle.fut_meaning.specs.Operators.{binary_result}
use Rattle.fut_meaning.specs.Operations.{reported}
use Rattle.fut_meaning.specs.Claims.{HasOut}
use Rattle.fut_meaning.specs.Flats.{FlatTops, FlatMode}
use Rattle.fut_meaning.proofs.Safe.{Every}
use Rattle.type_soundness.specs.Likeness.{All_datums, Is_empty, All_empty, Like, All_like}
use Rattle.type_soundness.specs.Fits.{widest, Is_scalar, Fits, All_fit}
use Rattle.type_soundness.proofs.Binding.{has_then}
use Rattle.type_soundness.proofs.Scalars.{result_type, integers_give}
use Rattle.type_soundness.proofs.LikeLaws.{scalar_like, tuple_view, array_view, self_like}
use Rattle.type_soundness.proofs.Making.{every_more, every_taken, every_dropped, every_reversed, every_copy, If_some, every_datums, listed_datums, has_so_many, has_checked, has_fitting, has_each, has_bounds, Of_counted, has_shared, Row, Rows_fit, of_rows, row_data, number_fits, truth_fits, every_as, every_listed}
use Rattle.type_soundness.proofs.Application.{Application, Each_data, Jobs_fit}
use Rattle.type_soundness.proofs.Jobs.{arrays, Gives_data, done_fits, on_rows_fits, on_exact_fits, sized_fits, array_done, array_taken, Each_row, row_shapes, each_row_data, columns_rows, rows_as}

module _ (N : Names) (are : AreNames N) (T : Told) (M : FlatMode) (budget : ℕ) (total : Bool) (K : Kinds) (tops : FlatTops) where
  abbrev D : Ty → Datum → Type 0
  D t d = Fits N T M budget total t tops (as_value d)

  abbrev Gives : Application total → Ty → Job → Type 0
  Gives f u j = Gives_data N are T M budget total K tops f u j

  abbrev Rows_are : Ty → Rows → Type 0
  Rows_are t r = Rows_fit N are T M budget total tops K t r

  abbrev A_row : Ty → Shape → Datum → Type 0
  A_row t row d = Row N are T M budget total tops K t row d

  abbrev Jobs : Primitive → Place → Tys → Ty → Type 1
  Jobs p at ts u = Jobs_fit N are T M budget total K tops p at ts u

  on_array : (f : Application total) (u t : Ty) (d : Datum) (g : Rows → Out Job) → D (array_ty t) d → ((r : Rows) → Rows_are t r → HasOut (Gives f u) (g r)) → HasOut (Gives f u) (on_rows d g)
  on_array f u t d g h go = on_rows_fits N are T M budget total K tops f u t d g h go

  gives_new : (f : Application total) (t : Ty) (at : Place) (row : Shape) (ds : List Datum) → Every (A_row t row) ds → HasOut (Gives f (array_ty t)) (done (all_fresh (array_of at row ds)))
  gives_new f t at row ds e = array_done N are T M budget total K tops f t at row ds e

  gives_old : (f : Application total) (t : Ty) (at : Place) (row : Shape) (ds : List Datum) → Every (A_row t row) ds → HasOut (Gives f (array_ty t)) (some_rows at row ds)
  gives_old f t at row ds e = array_taken N are T M budget total K tops f t at row ds e

  gives : (f : Application total) (u : Ty) (o : Out Counted) → HasOut (Of_counted (D u)) o → HasOut (Gives f u) (done o)
  gives f u o h = done_fits N are T M budget total K tops f u o h

  data_of : (t : Ty) (r : Rows) → Rows_are t r → Every (D t) r.1
  data_of t r e = row_data N are T M budget total tops K t r.0 r.1 e

  on_number : (f : Application total) (u : Ty) (d : Datum) (g : ℤ → Out Job) → D i64_ty d → ((z : ℤ) → HasOut (Gives f u) (g z)) → HasOut (Gives f u) (on_exact d g)
  on_number f u d g h go = on_exact_fits N are T M budget total K tops f u d g h go

  -- ---- numbers
  numbers_are : (n i : ℕ) → Every (A_row i64_ty i64_shape) (numbers_from n i)
  numbers_are zero i = tt
  numbers_are (suc n) i = ((number_fits N are T M budget total tops K int.I64 i, scalar_like i64_shape (scalar.Int int.I64 i)), numbers_are n (suc i))

  numbers_made : (n : ℕ) → D (array_ty i64_ty) (Array_datum i64_shape (datums (numbers_from n 0)))
  numbers_made n = of_rows N are T M budget total tops K i64_ty i64_shape (numbers_from n 0) (numbers_are n 0)

  pub iota_fits : (at : Place) → Jobs prim.Iota at (more i64_ty none) (array_ty i64_ty)
  unfolding job
  iota_fits at told f g h = on_number f (array_ty i64_ty) h.0 _ h.1 (λ z. sized_fits N are T M budget total K tops f (array_ty i64_ty) at z _ (λ n.
      gives f (array_ty i64_ty) _ (has_checked (Of_counted (D (array_ty i64_ty))) (nat_le n most_words) fail.TooLarge at _ (λ l. numbers_made n))))

  pub indices_fits : (t : Ty) (at : Place) → Jobs prim.Indices at (more (array_ty t) none) (array_ty i64_ty)
  unfolding job
  indices_fits t at told f g h = on_array f (array_ty i64_ty) t h.0 _ h.1 (λ r e. gives f (array_ty i64_ty) (fresh (Array_datum i64_shape (datums (numbers_from (size_of r) 0)))) (numbers_made (size_of r)))

  pub length_fits : (t : Ty) (at : Place) → Jobs prim.Length at (more (array_ty t) none) i64_ty
  unfolding job
  length_fits t at told f g h = on_array f i64_ty t h.0 _ h.1 (λ r e. gives f i64_ty (shared (i64 (size_of r))) (number_fits N are T M budget total tops K int.I64 (size_of r)))

  pub null_fits : (t : Ty) (at : Place) → Jobs prim.Null at (more (array_ty t) none) bool_ty
  unfolding job
  null_fits t at told f g h = on_array f bool_ty t h.0 _ h.1 (λ r e. gives f bool_ty (shared (Scalar_datum (scalar.Bool (nat_eq (size_of r) 0)))) (truth_fits N are T M budget total tops K (nat_eq (size_of r) 0)))

  pub replicate_fits : (t : Ty) → HasKind K kind.Data t → (at : Place) → Jobs prim.Replicate at (more i64_ty (more t none)) (array_ty t)
  unfolding job
  replicate_fits t k at told f g h = on_number f (array_ty t) h.0 _ h.1 (λ z. sized_fits N are T M budget total K tops f (array_ty t) at z _ (λ n.
      has_checked (Gives f (array_ty t)) (nat_le (weight (Array_shape n (shape_of h.2.0))) most_words) fail.TooLarge at _ (λ l.
      gives f (array_ty t) (fresh (Array_datum (shape_of h.2.0) (datums (replicate n h.2.0)))) (of_rows N are T M budget total tops K t (shape_of h.2.0) (replicate n h.2.0)
      (every_copy (A_row t (shape_of h.2.0)) n h.2.0 (h.2.1, self_like N are T M budget total tops K t h.2.0 k h.2.1))))))

  -- ---- one row
  found_first : (P : Datum → Type 0) (ds : List Datum) → Every P ds → If_some P (first_of_rows ds)
  found_first P [] e = tt
  found_first P (d ∷ ds) e = e.0

  found_last : (P : Datum → Type 0) (ds : List Datum) → Every P ds → If_some P (last_of ds)
  found_last P [] e = tt
  found_last P (d ∷ []) e = e.0
  found_last P (d ∷ x ∷ ds) e = found_last P (x ∷ ds) e.1

  but_last : (P : Datum → Type 0) (ds : List Datum) → Every P ds → Every P (all_but_last ds)
  but_last P [] e = tt
  but_last P (d ∷ []) e = tt
  but_last P (d ∷ x ∷ ds) e = (e.0, but_last P (x ∷ ds) e.1)

  pub head_fits : (t : Ty) (at : Place) → Jobs prim.Head at (more (array_ty t) none) t
  unfolding job
  head_fits t at told f g h = on_array f t t h.0 _ h.1 (λ r e. gives f t _ (has_shared (D t) _ (has_bounds (D t) at (first_of_rows r.1) (found_first (D t) r.1 (data_of t r e)))))

  pub last_fits : (t : Ty) (at : Place) → Jobs prim.Last at (more (array_ty t) none) t
  unfolding job
  last_fits t at told f g h = on_array f t t h.0 _ h.1 (λ r e. gives f t _ (has_shared (D t) _ (has_bounds (D t) at (last_of r.1) (found_last (D t) r.1 (data_of t r e)))))

  -- ---- some rows, or all in another order
  pub init_fits : (t : Ty) (at : Place) → Jobs prim.Init at (more (array_ty t) none) (array_ty t)
  unfolding job
  init_fits t at told f g h = on_array f (array_ty t) t h.0 _ h.1 (λ r e. has_checked (Gives f (array_ty t)) (not (nat_eq (length r.1) 0)) fail.Bounds at _ (λ some. gives_old f t at r.0 (all_but_last r.1) (but_last (A_row t r.0) r.1 e)))

  pub tail_fits : (t : Ty) (at : Place) → Jobs prim.Tail at (more (array_ty t) none) (array_ty t)
  unfolding job
  tail_fits t at told f g h = on_array f (array_ty t) t h.0 _ h.1 (λ r e. has_checked (Gives f (array_ty t)) (not (nat_eq (length r.1) 0)) fail.Bounds at _ (λ some. gives_old f t at r.0 (drop 1 r.1) (every_dropped (A_row t r.0) 1 r.1 e)))

  counted_fits : (f : Application total) (t : Ty) (at : Place) (z : ℤ) (r : Rows) (go : ℕ → List Datum) → ((n : ℕ) → Every (A_row t r.0) (go n)) → HasOut (Gives f (array_ty t)) (counted_rows at z r go)
  counted_fits f t at (negsuc n) r go e = tt
  counted_fits f t at (pos n) r go e = has_checked (Gives f (array_ty t)) (nat_le n (size_of r)) fail.Bounds at _ (λ l. gives_old f t at r.0 (go n) (e n))

  pub take_fits : (t : Ty) (at : Place) → Jobs prim.Take at (more i64_ty (more (array_ty t) none)) (array_ty t)
  unfolding job
  take_fits t at told f g h = on_number f (array_ty t) h.0 _ h.1 (λ z. on_array f (array_ty t) t h.2.0 _ h.2.1 (λ r e. counted_fits f t at z r _ (λ n. every_taken (A_row t r.0) n r.1 e)))

  pub drop_fits : (t : Ty) (at : Place) → Jobs prim.Drop at (more i64_ty (more (array_ty t) none)) (array_ty t)
  unfolding job
  drop_fits t at told f g h = on_number f (array_ty t) h.0 _ h.1 (λ z. on_array f (array_ty t) t h.2.0 _ h.2.1 (λ r e. counted_fits f t at z r _ (λ n. every_dropped (A_row t r.0) n r.1 e)))

  pub reverse_fits : (t : Ty) (at : Place) → Jobs prim.Reverse at (more (array_ty t) none) (array_ty t)
  unfolding job
  reverse_fits t at told f g h = on_array f (array_ty t) t h.0 _ h.1 (λ r e. gives_new f t at r.0 (reverse r.1) (every_reversed (A_row t r.0) r.1 e))

  pub rotate_fits : (t : Ty) (at : Place) → Jobs prim.Rotate at (more i64_ty (more (array_ty t) none)) (array_ty t)
  unfolding job
  rotate_fits t at told f g h = on_number f (array_ty t) h.0 _ h.1 (λ z. on_array f (array_ty t) t h.2.0 _ h.2.1 (λ r e.
      gives_new f t at r.0 (around z r.1) (let n : ℕ = unsigned_abs (int_rem_euclid z (pos (length r.1))) in every_more (A_row t r.0) (drop n r.1) (take n r.1) (every_dropped (A_row t r.0) n r.1 e) (every_taken (A_row t r.0) n r.1 e))))

  -- rows of both arrays, where they are shown to agree
  both_rows : (t : Ty) → HasKind K kind.Data t → (r s : Rows) → Rows_are t r → Rows_are t s → shown_to_agree r s ≡ true → Every (A_row t (either_row r s)) (r.1 ++ s.1)
  both_rows t k (h, []) (j, []) e i a = tt
  both_rows t k (h, []) (j, y ∷ ys) e i a = subst (λ b. Every (A_row t (cond b (or_met h j) j)) (y ∷ ys)) (sym (ne_eqb (suc (length ys)) 0 (omega arith))) i
  both_rows t k (h, x ∷ xs) s e i a = subst (λ b. Every (A_row t (cond b (cond (nat_eq (size_of s) 0) (or_met h s.0) s.0) h)) (x ∷ xs ++ s.1)) (sym (ne_eqb (suc (length xs)) 0 (omega arith))) (also (rows_as N are T M budget total K tops t k (h, x ∷ xs) s e i a))
    where
      also : (suc (length xs) ≡ 0) ⊎ Every (A_row t h) s.1 → Every (A_row t h) (x ∷ xs ++ s.1)
      also (inl z) = absurd (omega (arith, z))
      also (inr m) = every_more (A_row t h) (x ∷ xs) s.1 e m

  pub concat_fits : (t : Ty) → HasKind K kind.Data t → (at : Place) → Jobs prim.Concat at (more (array_ty t) (more (array_ty t) none)) (array_ty t)
  unfolding job
  concat_fits t k at told f g h = on_array f (array_ty t) t h.0 _ h.1 (λ r e. on_array f (array_ty t) t h.2.0 _ h.2.1 (λ s i. has_fitting (Gives f (array_ty t)) (shown_to_agree r s) at _ (λ a.
      gives_new f t at (either_row r s) (r.1 ++ s.1) (both_rows t k r s e i a))))

  pub copy_fits : (t : Ty) (at : Place) → Jobs prim.Copy at (more t none) t
  unfolding job
  copy_fits t at told f g h = gives f t (fresh h.0) h.1

  -- ---- all elements combined
  number_of : (i : IntType) (d : Datum) → D (scalar_ty (types.Int i)) d → HasOut (Is_scalar (types.Int i)) (scalar_of_datum d)
  unfolding Fits
  number_of i (Scalar_datum s) h = h
  number_of i (Tuple_datum ds) h = absurd h
  number_of i (Record_datum fs) h = absurd h
  number_of i (Array_datum row ds) h = absurd h

  one_type : (o : BinOp) (at : Place) (i : IntType) → result_type o i ≡ types.Int i → (s c : Scalar) → Is_scalar (types.Int i) s → Is_scalar (types.Int i) c → HasOut (Is_scalar (types.Int i)) (reported at (binary_result o s c))
  one_type o at i e (scalar.Bool b) c h k = absurd h
  one_type o at i e (scalar.Int u m) (scalar.Bool b) h k = absurd k
  one_type o at i e (scalar.Int u m) (scalar.Int v n) h k = subst (λ z. HasOut (Is_scalar (types.Int i)) (reported at (binary_result o (scalar.Int z m) (scalar.Int v n)))) (sym h) (subst (λ z. HasOut (Is_scalar (types.Int i)) (reported at (binary_result o (scalar.Int i m) (scalar.Int z n)))) (sym k) (subst (λ t. HasOut (Is_scalar t) (reported at (binary_result o (scalar.Int i m) (scalar.Int i n)))) e (integers_give o at i m n)))

  combined_fits : (o : BinOp) (at : Place) (i : IntType) → result_type o i ≡ types.Int i → (s : Scalar) (ds : List Datum) → Is_scalar (types.Int i) s → Every (D (scalar_ty (types.Int i))) ds → HasOut (Is_scalar (types.Int i)) (combined o at s ds)
  combined_fits o at i e s [] h a = h
  combined_fits o at i e s (d ∷ ds) h a = has_then (Is_scalar (types.Int i)) (Is_scalar (types.Int i)) (scalar_of_datum d) _ (number_of i d a.0) (λ c k.
      has_then (Is_scalar (types.Int i)) (Is_scalar (types.Int i)) (reported at (binary_result o s c)) _ (one_type o at i e s c h k) (λ r q. combined_fits o at i e r ds q a.1))

  pub summary_fits : (f : Application total) (o : BinOp) (at : Place) (i : IntType) → result_type o i ≡ types.Int i → (n : ℕ) (d : Datum) → D (array_ty (scalar_ty (types.Int i))) d → HasOut (Gives f (scalar_ty (types.Int i))) (summary o at (scalar.Int i n) d)
  unfolding Fits
  summary_fits f o at i e n d h = on_array f (scalar_ty (types.Int i)) (scalar_ty (types.Int i)) d _ h (λ r a. gives f (scalar_ty (types.Int i)) _ (has_then (Is_scalar (types.Int i)) (Of_counted (D (scalar_ty (types.Int i)))) (combined o at (scalar.Int i n) r.1) _ (combined_fits o at i e (scalar.Int i n) r.1 refl (data_of (scalar_ty (types.Int i)) r a)) (λ s k. k)))

  abbrev One_number : Primitive → IntType → Place → Type 1
  One_number p i at = Jobs p at (more (array_ty (scalar_ty (types.Int i))) none) (scalar_ty (types.Int i))

  pub sum_fits : (i : IntType) (at : Place) → One_number (prim.Fold folding.Sum i) i at
  unfolding job
  sum_fits i at told f g h = summary_fits f binary.Add at i refl _ h.0 h.1

  pub product_fits : (i : IntType) (at : Place) → One_number (prim.Fold folding.Product i) i at
  unfolding job
  product_fits i at told f g h = summary_fits f binary.Mul at i refl _ h.0 h.1

  pub minimum_fits : (i : IntType) (at : Place) → One_number (prim.Fold folding.Minimum i) i at
  unfolding job
  minimum_fits i at told f g h = summary_fits f binary.Min at i refl _ h.0 h.1

  pub maximum_fits : (i : IntType) (at : Place) → One_number (prim.Fold folding.Maximum i) i at
  unfolding job
  maximum_fits i at told f g h = summary_fits f binary.Max at i refl _ h.0 h.1

  -- ---- arrays of arrays

  -- rows that look alike, of which there are so many at least
  abbrev Long_rows : Ty → Shape → ℕ → List Datum → Type 0
  Long_rows t row n ds = Every (A_row t row) ds × (n ≤ length ds)

  rows_like : (t : Ty) (n : ℕ) (h : Shape) (row : Shape) (ds : Datums) → All_datums (λ d. D t d × Like row d) ds → Like (Array_shape n h) (Array_datum row ds) → Every (A_row t h) (listed ds) × (length (listed ds) ≡ n)
  unfolding Like
  rows_like t n h row ds a l = (each ds a l.1, l.0)
    where
      each : (ds : Datums) → All_datums (λ d. D t d × Like row d) ds → All_datums (Like h) ds → Every (A_row t h) (listed ds)
      each no_datum a l = tt
      each (datum_and d ds) a l = ((a.0.0, l.0), each ds a.1 l.1)

  inner_of : (t : Ty) (row : Shape) (d : Datum) → A_row (array_ty t) row d → HasOut (Long_rows t (inner row) (size row)) (and_then (rows_of d) (λ r. Val r.1))
  unfolding Like Is_empty
  inner_of t row d h = let v = array_view N are T M budget total tops K t d h.0 in
      subst (λ z. HasOut (Long_rows t (inner row) (size row)) (and_then (rows_of z) (λ r. Val r.1))) (sym v.2) (by_shape row v.0 v.1 v.3 (subst (Like row) v.2 h.1))
    where
      by_shape : (row r : Shape) (ds : Datums) → All_datums (λ d. D t d × Like r d) ds → Like row (Array_datum r ds) → Long_rows t (inner row) (size row) (listed ds)
      by_shape (Scalar_shape s) r ds a l = absurd l
      by_shape (Tuple_shape hs) r ds a l = absurd l
      by_shape (Record_shape hs) r ds a l = absurd l
      by_shape (Array_shape n h) r ds a l = let q = rows_like t n h r ds a l in (q.0, (let e = q.1 in omega (arith, e)))
      by_shape Unmet_shape r no_datum a l = (tt, omega arith)
      by_shape Unmet_shape r (datum_and d ds) a l = absurd (omega (arith, l))

  all_inner : (t : Ty) (r : Rows) → Rows_are (array_ty t) r → HasOut (λ dss. Every (Long_rows t (inner r.0) (size r.0)) dss × (length dss ≡ length r.1)) (inner_rows r.1)
  all_inner t r e = has_so_many (A_row (array_ty t) r.0) (Long_rows t (inner r.0) (size r.0)) _ (λ d q. inner_of t r.0 d q) r.1 e

  joined_rows : (t : Ty) (row : Shape) (n : ℕ) (dss : List (List Datum)) → Every (Long_rows t row n) dss → Every (A_row t row) (joined dss)
  joined_rows t row n [] e = tt
  joined_rows t row n (ds ∷ dss) e = every_more (A_row t row) ds (joined dss) e.0.0 (joined_rows t row n dss e.1)

  pub flatten_fits : (t : Ty) (at : Place) → Jobs prim.Flatten at (more (array_ty (array_ty t)) none) (array_ty t)
  unfolding job
  flatten_fits t at told f g h = on_array f (array_ty t) (array_ty t) h.0 _ h.1 (λ r e.
      has_then (λ dss. Every (Long_rows t (inner r.0) (size r.0)) dss × (length dss ≡ length r.1)) (Gives f (array_ty t)) (inner_rows r.1) _ (all_inner t r e) (λ dss q. gives_new f t at (inner r.0) (joined dss) (joined_rows t (inner r.0) (size r.0) dss q.0)))

  -- an array of so many rows
  an_array : (t : Ty) (row : Shape) (n : ℕ) (ds : List Datum) → Every (A_row t row) ds → length ds ≡ n → A_row (array_ty t) (Array_shape n row) (Array_datum row (datums ds))
  unfolding Like
  an_array t row n ds e l = (of_rows N are T M budget total tops K t row ds e, (ap length (listed_datums ds) ∙ l, every_datums (Like row) ds (every_as (A_row t row) (Like row) ds (λ d q. q.1) e)))

  groups_fit : (t : Ty) (row : Shape) (n m : ℕ) (ds : List Datum) → Every (A_row t row) ds → n * m ≤ length ds → Every (A_row (array_ty t) (Array_shape m row)) (grouped row n m ds)
  groups_fit t row zero m ds e le = tt
  groups_fit t row (suc n) m ds e le =
      let e1 = suc-mul n m in
      let more-rows : m + n * m ≤ length ds = omega (arith, e1, le) in
      let t1 = length-take m ds in
      let t2 = length-drop m ds in
      (an_array t row m (take m ds) (every_taken (A_row t row) m ds e) (omega (arith, more-rows, t1)), groups_fit t row n m (drop m ds) (every_dropped (A_row t row) m ds e) (omega (arith, more-rows, t2)))

  pub unflatten_fits : (t : Ty) (at : Place) → Jobs prim.Unflatten at (more i64_ty (more i64_ty (more (array_ty t) none))) (array_ty (array_ty t))
  unfolding job
  unflatten_fits t at told f g h =
      let u : Ty = array_ty (array_ty t) in
      on_number f u h.0 _ h.1 (λ z. on_number f u h.2.0 _ h.2.1 (λ w. on_array f u t h.2.2.0 _ h.2.2.1 (λ r e.
      sized_fits N are T M budget total K tops f u at z _ (λ i. sized_fits N are T M budget total K tops f u at w _ (λ j.
      has_checked (Gives f u) (nat_eq (i * j) (size_of r)) fail.Size at _ (λ same.
      has_checked (Gives f u) (nat_le (weight (Array_shape i (Array_shape j r.0))) most_words) fail.TooLarge at _ (λ l.
      gives f u (fresh (Array_datum (Array_shape j r.0) (datums (grouped r.0 i j r.1)))) (of_rows N are T M budget total tops K (array_ty t) (Array_shape j r.0) (grouped r.0 i j r.1)
      (groups_fit t r.0 i j r.1 e (let q : i * j ≡ size_of r = eqb-true (i * j) (size_of r) same in omega (arith, q)))))))))))

  -- the columns that stand below the size of the rows
  part_found : (P : Datum → Type 0) (k n : ℕ) (ds : List Datum) → Every P ds → n ≤ length ds → k < n → HasOut P (part_at k ds)
  part_found P k n [] e l lt = absurd (omega (arith, l, lt))
  part_found P zero n (d ∷ ds) e l lt = e.0
  part_found P (suc k) n (d ∷ ds) e l lt = part_found P k (n - 1) ds e.1 (omega (arith, l, lt)) (omega (arith, lt))

  crossed_fits : (t : Ty) (row : Shape) (m k n : ℕ) (dss : List (List Datum)) → Every (Long_rows t row n) dss → k + m ≤ n → HasOut (Every (A_row (array_ty t) (Array_shape (length dss) row))) (crossed row m k dss)
  crossed_fits t row zero k n dss e le = tt
  crossed_fits t row (suc m) k n dss e le =
      has_then (λ ds. Every (A_row t row) ds × (length ds ≡ length dss)) (Every (A_row (array_ty t) (Array_shape (length dss) row))) _ _ (has_so_many (Long_rows t row n) (A_row t row) (part_at k) (λ ds q. part_found (A_row t row) k n ds q.0 q.1 (omega (arith, le))) dss e) (λ ds q.
      has_then (Every (A_row (array_ty t) (Array_shape (length dss) row))) (Every (A_row (array_ty t) (Array_shape (length dss) row))) _ _ (crossed_fits t row m (suc k) n dss e (omega (arith, le))) (λ es p. (an_array t row (length dss) ds q.0 q.1, p)))

  pub transpose_fits : (t : Ty) (at : Place) → Jobs prim.Transpose at (more (array_ty (array_ty t)) none) (array_ty (array_ty t))
  unfolding job
  transpose_fits t at told f g h =
      let u : Ty = array_ty (array_ty t) in
      on_array f u (array_ty t) h.0 _ h.1 (λ r e.
      has_checked (Gives f u) (nat_le (weight (Array_shape (size r.0) (Array_shape (size_of r) (inner r.0)))) most_words) fail.TooLarge at _ (λ l.
      has_then (λ dss. Every (Long_rows t (inner r.0) (size r.0)) dss × (length dss ≡ length r.1)) (Gives f u) (inner_rows r.1) _ (all_inner t r e) (λ dss q.
      has_then (Every (A_row (array_ty t) (Array_shape (length dss) (inner r.0)))) (Gives f u) (crossed (inner r.0) (size r.0) 0 dss) _ (crossed_fits t (inner r.0) (size r.0) 0 (size r.0) dss q.0 (omega arith)) (λ ds p.
      gives f u (shared (Array_datum (Array_shape (size_of r) (inner r.0)) (datums ds))) (of_rows N are T M budget total tops K (array_ty t) (Array_shape (size_of r) (inner r.0)) ds (subst (λ n. Every (A_row (array_ty t) (Array_shape n (inner r.0))) ds) q.1 p))))))

  -- ---- tuples of rows
  abbrev Data : Tys → List Datum → Type 0
  Data ts ds = Each_data N are T M budget total K tops ts ds

  parts_fit : (ts : Tys) (ds : List Datum) → Data ts ds → All_fit N T M budget total ts tops (as_values (datums ds))
  unfolding All_fit
  parts_fit none [] h = tt
  parts_fit none (d ∷ ds) h = absurd h
  parts_fit (more t ts) [] h = absurd h
  parts_fit (more t ts) (d ∷ ds) h = (h.0, parts_fit ts ds h.1)

  pub tupled_fits : (ts : Tys) (ds : List Datum) → count ts < widest → Data ts ds → D (Made head.Tuple ts) (tupled ds)
  unfolding Fits
  tupled_fits ts ds lt h = (lt, parts_fit ts ds h)

  abbrev Each_look : Tys → Shapes → List Datum → Type 0
  Each_look ts hs ds = Each_row N are T M budget total K tops ts hs ds

  looks_data : (ts : Tys) (hs : Shapes) (ds : List Datum) → Each_look ts hs ds → Data ts ds
  looks_data ts hs ds h = each_row_data N are T M budget total K tops ts hs ds h

  -- a tuple looks as its parts do, of which there are as many as shapes
  abbrev As_many : Tys → Shapes → Type 0
  As_many none no_shape = Unit {0}
  As_many none (shape_and h hs) = ⊥
  As_many (more t ts) no_shape = ⊥
  As_many (more t ts) (shape_and h hs) = As_many ts hs

  parts_look : (ts : Tys) (hs : Shapes) (ds : List Datum) → As_many ts hs → Each_look ts hs ds → All_like hs (datums ds)
  unfolding All_like
  parts_look none no_shape [] m h = tt
  parts_look none no_shape (d ∷ ds) m h = absurd h
  parts_look none (shape_and k hs) ds m h = absurd m
  parts_look (more t ts) no_shape ds m h = absurd m
  parts_look (more t ts) (shape_and k hs) [] m h = absurd h
  parts_look (more t ts) (shape_and k hs) (d ∷ ds) m h = (h.0.1, parts_look ts hs ds m h.1)

  tuples_fit : (ts : Tys) (hs : Shapes) (rows : List (List Datum)) → count ts < widest → As_many ts hs → Every (Each_look ts hs) rows → Every (A_row (Made head.Tuple ts) (Tuple_shape hs)) (map tupled rows)
  unfolding Like
  tuples_fit ts hs [] lt m e = tt
  tuples_fit ts hs (r ∷ rs) lt m e = ((tupled_fits ts r lt (looks_data ts hs r e.0), parts_look ts hs r m e.0), tuples_fit ts hs rs lt m e.1)

  zipped_fits : (f : Application total) (t : Ty) (ts : Tys) (at : Place) (d : Datum) (ds : List Datum) → count (more t ts) < widest → D (array_ty t) d → Data (arrays ts) ds → HasOut (Gives f (array_ty (Made head.Tuple (more t ts)))) (zipped false at (Tuple_shape (shape_and (row_of d) (row_shapes N are T M budget total K tops ds))) (d ∷ ds))
  zipped_fits f t ts at d ds lt e es = let v = array_view N are T M budget total tops K t d e in
      subst (λ z. HasOut (Gives f (array_ty (Made head.Tuple (more t ts)))) (zipped false at (Tuple_shape (shape_and (row_of z) (row_shapes N are T M budget total K tops ds))) (z ∷ ds))) (sym v.2) (inside v.0 v.1 v.3)
    where
      many : (ts : Tys) (ds : List Datum) → Data (arrays ts) ds → As_many ts (row_shapes N are T M budget total K tops ds)
      many none [] h = tt
      many none (x ∷ xs) h = absurd h
      many (more u us) [] h = absurd h
      many (more u us) (x ∷ xs) h = many us xs h.1

      inside : (row : Shape) (xs : Datums) → All_datums (λ x. D t x × Like row x) xs → HasOut (Gives f (array_ty (Made head.Tuple (more t ts)))) (zipped false at (Tuple_shape (shape_and row (row_shapes N are T M budget total K tops ds))) (Array_datum row xs ∷ ds))
      inside row xs a =
          let hs : Shapes = shape_and row (row_shapes N are T M budget total K tops ds) in
          has_then (Every (Each_look (more t ts) hs)) (Gives f (array_ty (Made head.Tuple (more t ts)))) (columns false at (row, listed xs) ds) _ (columns_rows N are T M budget total K tops at t ts (row, listed xs) ds (every_listed (A_row t row) xs a) es) (λ rows p.
          gives_new f (Made head.Tuple (more t ts)) at (Tuple_shape hs) (map tupled rows) (tuples_fit (more t ts) hs rows lt (many ts ds es) p))

  pub zip_fits : (t u : Ty) (at : Place) → Jobs prim.Zip at (more (array_ty t) (more (array_ty u) none)) (array_ty (pair_ty t u))
  unfolding job
  zip_fits t u at told f g h = zipped_fits f t (more u none) at h.0 (h.2.0 ∷ []) (omega arith) h.1 (h.2.1, tt)

  pub zip3_fits : (t u v : Ty) (at : Place) → Jobs prim.Zip3 at (more (array_ty t) (more (array_ty u) (more (array_ty v) none))) (array_ty (triple_ty t u v))
  unfolding job
  zip3_fits t u v at told f g h = zipped_fits f t (more u (more v none)) at h.0 (h.2.0 ∷ h.2.2.0 ∷ []) (omega arith) h.1 (h.2.1, (h.2.2.1, tt))

  -- the part of each row at a position
  abbrev pub part_of : ℕ → Tys → Ty
  part_of k none = Made head.Tuple none
  part_of zero (more t ts) = t
  part_of (suc k) (more t ts) = part_of k ts

  part_like : (k : ℕ) (ts : Tys) (hs : Shapes) (ds : Datums) → k < count ts → All_fit N T M budget total ts tops (as_values ds) → All_like hs ds → HasOut (A_row (part_of k ts) (part_shape k (Tuple_shape hs))) (part_at k (listed ds))
  unfolding All_fit All_like
  part_like k none hs ds lt a l = absurd (omega (arith, lt))
  part_like k (more t ts) hs no_datum lt a l = absurd a
  part_like k (more t ts) no_shape (datum_and d ds) lt a l = absurd l
  part_like zero (more t ts) (shape_and h hs) (datum_and d ds) lt a l = (a.0, l.0)
  part_like (suc k) (more t ts) (shape_and h hs) (datum_and d ds) lt a l = part_like k ts hs ds (omega (arith, lt)) a.1 l.1

  part_empty : (k : ℕ) (ts : Tys) (ds : Datums) → k < count ts → All_fit N T M budget total ts tops (as_values ds) → All_empty ds → HasOut (A_row (part_of k ts) Unmet_shape) (part_at k (listed ds))
  unfolding All_fit All_empty Like
  part_empty k none ds lt a l = absurd (omega (arith, lt))
  part_empty k (more t ts) no_datum lt a l = absurd a
  part_empty zero (more t ts) (datum_and d ds) lt a l = (a.0, l.0)
  part_empty (suc k) (more t ts) (datum_and d ds) lt a l = part_empty k ts ds (omega (arith, lt)) a.1 l.1

  no_part : (k : ℕ) → part_shape k Unmet_shape ≡ Unmet_shape
  no_part zero = refl
  no_part (suc k) = refl

  tuple_part_fits : (k : ℕ) (ts : Tys) (row : Shape) (d : Datum) → k < count ts → A_row (Made head.Tuple ts) row d → HasOut (A_row (part_of k ts) (part_shape k row)) (tuple_part k d)
  unfolding Like Is_empty
  tuple_part_fits k ts row d lt h = let v = tuple_view N are T M budget total tops K ts d h.0 in
      subst (λ z. HasOut (A_row (part_of k ts) (part_shape k row)) (tuple_part k z)) (sym v.1) (by_shape row v.0 v.2 (subst (Like row) v.1 h.1))
    where
      by_shape : (row : Shape) (ds : Datums) → All_fit N T M budget total ts tops (as_values ds) → Like row (Tuple_datum ds) → HasOut (A_row (part_of k ts) (part_shape k row)) (part_at k (listed ds))
      by_shape (Scalar_shape s) ds a l = absurd l
      by_shape (Tuple_shape hs) ds a l = part_like k ts hs ds lt a l
      by_shape (Record_shape hs) ds a l = absurd l
      by_shape (Array_shape n h) ds a l = absurd l
      by_shape Unmet_shape ds a l = subst (λ z. HasOut (A_row (part_of k ts) z) (part_at k (listed ds))) (sym (no_part k)) (part_empty k ts ds lt a l)

  column_fits : (k : ℕ) (ts : Tys) (r : Rows) → k < count ts → Rows_are (Made head.Tuple ts) r → HasOut (D (array_ty (part_of k ts))) (column k r)
  column_fits k ts r lt e = has_then (Every (A_row (part_of k ts) (part_shape k r.0))) (D (array_ty (part_of k ts))) _ _ (has_each (A_row (Made head.Tuple ts) r.0) (A_row (part_of k ts) (part_shape k r.0)) (tuple_part k) (λ d q. tuple_part_fits k ts r.0 d lt q) r.1 e) (λ ds q.
      of_rows N are T M budget total tops K (part_of k ts) (part_shape k r.0) ds q)

  abbrev parts_of : List ℕ → Tys → Tys
  parts_of [] ts = none
  parts_of (k ∷ ks) ts = more (array_ty (part_of k ts)) (parts_of ks ts)

  columns_fit : (ks : List ℕ) (ts : Tys) (r : Rows) → Every (λ k. k < count ts) ks → Rows_are (Made head.Tuple ts) r → HasOut (Data (parts_of ks ts)) (all_columns ks r)
  columns_fit [] ts r l e = tt
  columns_fit (k ∷ ks) ts r l e = has_then (D (array_ty (part_of k ts))) (Data (parts_of (k ∷ ks) ts)) (column k r) _ (column_fits k ts r l.0 e) (λ d q.
      has_then (Data (parts_of ks ts)) (Data (parts_of (k ∷ ks) ts)) (all_columns ks r) _ (columns_fit ks ts r l.1 e) (λ ds p. (q, p)))

  pub unzip_fits : (t u : Ty) (at : Place) → Jobs prim.Unzip at (more (array_ty (pair_ty t u)) none) (pair_ty (array_ty t) (array_ty u))
  unfolding job
  unzip_fits t u at told f g h = on_array f _ (pair_ty t u) h.0 _ h.1 (λ r e. has_then (Data (more (array_ty t) (more (array_ty u) none))) (Gives f (pair_ty (array_ty t) (array_ty u))) (all_columns (0 ∷ 1 ∷ []) r) _ (columns_fit (0 ∷ 1 ∷ []) (more t (more u none)) r (omega arith, (omega arith, tt)) e) (λ ds q.
      gives f _ (shared (tupled ds)) (tupled_fits (more (array_ty t) (more (array_ty u) none)) ds (omega arith) q)))

  pub unzip3_fits : (t u v : Ty) (at : Place) → Jobs prim.Unzip3 at (more (array_ty (triple_ty t u v)) none) (triple_ty (array_ty t) (array_ty u) (array_ty v))
  unfolding job
  unzip3_fits t u v at told f g h = on_array f _ (triple_ty t u v) h.0 _ h.1 (λ r e. has_then (Data (more (array_ty t) (more (array_ty u) (more (array_ty v) none)))) (Gives f (triple_ty (array_ty t) (array_ty u) (array_ty v))) (all_columns (0 ∷ 1 ∷ 2 ∷ []) r) _ (columns_fit (0 ∷ 1 ∷ 2 ∷ []) (more t (more u (more v none))) r (omega arith, (omega arith, (omega arith, tt))) e) (λ ds q.
      gives f _ (shared (tupled ds)) (tupled_fits (more (array_ty t) (more (array_ty u) (more (array_ty v) none))) ds (omega arith) q)))
