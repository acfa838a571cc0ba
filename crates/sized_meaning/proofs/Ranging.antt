-- Ranges are of their sized types: how many elements one has is met at its node, or the number that it counts to.
use Rattle.sized_meaning.proofs.Quiet.{bad_range, too_large}
use Rattle.sized_meaning.proofs.Size_reports.{all_fine}
use Rattle.sized_meaning.specs.There.{There}
use Rattle.std.specs.Prelude.{cond, ◌&&◌, ◌||◌, int_lt, int_le, unsigned_abs, ℤ, pos, negsuc, ◌+ℤ◌, ◌-ℤ◌, ◌-◌, ◌/◌, nat_le}
use Rattle.std.proofs.Math.Nat.{div-one}
use Rattle.std.proofs.Common.{◌≡◌, ℕ, zero, suc, ◌+◌, List, [], ◌∷◌, length, Bool, true, false, Option, Some, None, Ok, refl, sym, ap, ◌∙◌, subst, arith, leb-true, inl, inr}
use Rattle.fut_ast.specs.declared.node.End.{End}
use Rattle.fut_ast.specs.declared.node.End.TheVariants as end
use Rattle.fut_scalar.specs.Integers.{integer_of}
use Rattle.fut_scalar.specs.declared.place.BindId.{BindId}
use Rattle.fut_scalar.specs.declared.place.Place.{Place}
use Rattle.fut_scalar.specs.declared.report.FailKind.TheVariants as kind
use Rattle.fut_scalar.specs.declared.scalar.IntType.{IntType}
use Rattle.fut_scalar.specs.declared.scalar.IntType.TheVariants.{I64}
use Rattle.fut_scalar.specs.declared.scalar.Scalar.TheVariants as scalar
use Rattle.fut_scalar.specs.declared.scalar.ScalarType.TheVariants as sort
use Rattle.fut_flat.specs.declared.prim.Ref.{Ref}
use Rattle.fut_flat.specs.Numbers.{numbers}
use Rattle.fut_flat.specs.Terms.{Range, Terms, no_term, term_and}
use Rattle.fut_types.specs.Types.{Sub, scalar_ty}
use Rattle.fut_typing.specs.Names.{Names}
use Rattle.fut_value.specs.Data.{Scalar_shape, Datum, Scalar_datum, Array_datum, datums}
use Rattle.fut_meaning.specs.Accessors.{count_of}
use Rattle.fut_meaning.specs.Arrays.{checked, most_words, fresh, stepped_from, range_of, range_count, unit_step, range, made, Make_range}
use Rattle.fut_meaning.specs.Datums.{as_value, datum_of, all_data}
use Rattle.fut_meaning.specs.Flats.{FlatValue, FlatEnv, flat_names}
use Rattle.fut_meaning.specs.Meaning.{row_told, fits_type, Of_literal}
use Rattle.fut_meaning.specs.Operations.{operated}
use Rattle.fut_meaning.specs.Operators.{integer}
use Rattle.fut_meaning.specs.Outcomes.{Val, and_then, gives, the, Then}
use Rattle.fut_meaning.specs.Values.{Scalar_value, values}
use Rattle.fut_meaning.proofs.Safe.{Every}
use Rattle.sized_types.specs.Sizes.{Free, Unknown, At, Size, Level, Sizes}
use Rattle.fut_sizes.specs.Agreeing.{no_size_of, of_type, of_types}
use Rattle.fut_sizes.specs.Operations.{operation, value_of, is_literal, both, range_size as range_end, range_of as range_size, element_ty, is_i64}
use Rattle.fut_sizes.specs.Primitives.{scalar_size}
use Rattle.fut_sizes.specs.Rules.{part_sizes}
use Rattle.fut_sizes.specs.Scopes.{i64_size}
use Rattle.sized_meaning.specs.Worth.{Worth, free, no_frames}
use Rattle.sized_meaning.specs.Shapes.{Meant, Has_shape, Has_datum}
use Rattle.sized_meaning.specs.Finding.{One_kind_each}
use Rattle.sized_meaning.specs.Fits.{Out_fits, Gives, word, Is_scalar, Fits, All_fit}
use Rattle.sized_meaning.specs.Law.{Sound, Counts_to, Range_parts, World, told, calls, Result as Res}
use Rattle.sized_meaning.proofs.Outcomes.{gives_exact, gives_then, out_of}
use Rattle.sized_meaning.proofs.Words.{Part_words, literal_is, number_is}
use Rattle.sized_meaning.proofs.Suiting.{same_ok, at_node, node_here}
use Rattle.sized_meaning.proofs.Scalars.{out_then}
use Rattle.sized_meaning.proofs.Environments.{beyond_node}
use Rattle.sized_meaning.proofs.Mapping.{array_of_rows, array_value}

many_steps : (t : IntType) (z step : ℤ) (n : ℕ) → length (stepped_from t z step n) ≡ n
many_steps t z step zero = refl
many_steps t z step (suc n) = ap suc (many_steps t (z +ℤ step) step n)

module _ (N : Names) (types : Sub) (τ : Meant) (W : World) (S : Sound N types W.sizing) (one : One_kind_each τ) (m : Worth) where
  each_step : (now : Worth) (t : IntType) (z step : ℤ) (n : ℕ) → Every (Has_datum N τ now no_frames (scalar_size (sort.Int t))) (stepped_from t z step n)
  unfolding Has_datum
  each_step now t z step zero = tt
  each_step now t z step (suc n) = (refl, each_step now t (z +ℤ step) step n)

  -- so many elements, which are met at the node
  abbrev Ranged : ℕ → IntType → Datum → Type 0
  Ranged lo t d = (n : ℕ) × Has_datum N τ (at_node lo (λ i. n) m) no_frames (Level (At (Unknown lo 0)) (scalar_size (sort.Int t))) d

  counted : (mark : Place) (lo : ℕ) (t : IntType) (from step : ℤ) (o : Option ℕ) → Out_fits (There W.is_there) (Ranged lo t) (range_of mark t from step o)
  unfolding Has_shape
  counted mark lo t from step None = bad_range W.is_there mark
  counted mark lo t from step (Some n) = tested (nat_le n most_words)
    where
      tested : (b : Bool) → Out_fits (There W.is_there) (Ranged lo t) (checked b kind.TooLarge mark (Val (Array_datum (Scalar_shape (sort.Int t)) (datums (stepped_from t from step n)))))
      tested true = (n, array_of_rows N types τ W S one (at_node lo (λ i. n) m) no_frames (At (Unknown lo 0)) (scalar_size (sort.Int t)) (Scalar_shape (sort.Int t)) (stepped_from t from step n) (many_steps t from step n ∙ sym (node_here lo (λ i. n) m 0)) refl (each_step (at_node lo (λ i. n) m) t from step n))
      tested false = too_large W.is_there mark

  ranged_out : (mark : Place) (lo : ℕ) (stepped : Bool) (e : End) (t : IntType) (k : ℕ) (ds : List Datum) → Out_fits (There W.is_there) (Ranged lo t) (range mark stepped e (Scalar_datum (scalar.Int t k) ∷ ds))
  unfolding range
  ranged_out mark lo false e t k (Scalar_datum (scalar.Int u n) ∷ []) = counted mark lo t (integer_of t k) (unit_step e) (range_count e (integer_of t k) (unit_step e) (integer_of t n))
  ranged_out mark lo true e t k (Scalar_datum (scalar.Int u j) ∷ Scalar_datum (scalar.Int w n) ∷ []) = counted mark lo t (integer_of t k) (integer_of t j -ℤ integer_of t k) (range_count e (integer_of t k) (integer_of t j -ℤ integer_of t k) (integer_of t n))
  ranged_out mark lo stepped e t k ds = tt

  abbrev First_is : IntType → List Datum → Type 0
  First_is t ds = (k : ℕ) × (es : List Datum) × (ds ≡ Scalar_datum (scalar.Int t k) ∷ es)

  first_out : (t : IntType) (v : FlatValue) (ws : List FlatValue) → Is_scalar (sort.Int t) v → Out_fits (There W.is_there) (First_is t) (all_data (v ∷ ws))
  unfolding datum_of
  first_out t (Scalar_value (scalar.Int u k)) ws h = out_then _ (λ ds. Unit {0}) (First_is t) (all_data ws) (λ ds. Val (Scalar_datum (scalar.Int u k) ∷ ds)) (all_fine W.is_there ws) (λ ds z. (k, ds, ap (λ x. Scalar_datum (scalar.Int x k) ∷ ds) (let y : u ≡ t = (let x : sort.Int u ≡ sort.Int t = h in cc) in y)))
  first_out t (Scalar_value (scalar.Bool b)) ws h = absurd (let z : sort.Bool ≡ sort.Int t = h in cc)
  first_out t v ws h = absurd h

  -- a range of elements of a type, whose size no name and no constant tells
  abbrev Unknown_range : Bool → End → ℕ → Terms Ref BindId → Type 0
  Unknown_range stepped e lo ts = (t : IntType) × (element_ty (types lo) ≡ scalar_ty (sort.Int t)) × (types (lo + 1) ≡ scalar_ty (sort.Int t)) × (range_size (is_i64 (element_ty (types lo))) lo stepped e ts ≡ Unknown lo 0)

  met_range : (stepped : Bool) (e : End) (mark : Place) (ts : Terms Ref BindId) (lo : ℕ) (env : FlatEnv) (v : FlatValue) (ws : List FlatValue) (p : Unknown_range stepped e lo ts) → Is_scalar (sort.Int p.0) v
      → operation N types (Range stepped e) lo (lo + 1) ts (part_sizes N types W.sizing.size_at W.sizing.home ts (lo + 1)) ≡ Ok (W.sizing.size_at lo)
      → Gives (There W.is_there) (Res N types τ W lo (1 + lo) m (W.sizing.size_at lo)) (operated false (row_told ((flat_names (told W)).lang W.tops) (Of_literal env lo)) (fits_type ((flat_names (told W)).lang W.tops) env lo) (W.integer_at lo) (Range stepped e) mark (v ∷ ws))
  unfolding operation made of_type of_types
  met_range stepped e mark ts lo env v ws p h q =
      let same : Level (At (Unknown lo 0)) (scalar_size (sort.Int p.0)) ≡ W.sizing.size_at lo = ap (λ d. Level (At d) (scalar_size (sort.Int p.0))) (sym p.3)
      ∙ ap (λ y. Level (At (range_size (is_i64 (element_ty (types lo))) lo stepped e ts)) (of_type (no_size_of lo) 0 y)) (sym p.1) ∙ same_ok _ (W.sizing.size_at lo) q in
      gives_then (First_is p.0) (Res N types τ W lo (1 + lo) m (W.sizing.size_at lo)) _ _
      (gives_exact _ (First_is p.0) 0 (all_data (v ∷ ws)) (first_out p.0 v ws h))
      (λ ds r. subst (λ z. Gives (There W.is_there) (Res N types τ W lo (1 + lo) m (W.sizing.size_at lo)) (Then (the (made false (row_told ((flat_names (told W)).lang W.tops) (Of_literal env lo)) (Make_range stepped e) mark z)) (λ r. gives r.0 (as_value r.1)))) (sym r.2)
      (gives_then (λ r. Ranged lo p.0 r.1) (Res N types τ W lo (1 + lo) m (W.sizing.size_at lo)) _ _
      (gives_exact _ (λ r. Ranged lo p.0 r.1) 0 _ (out_then _ (Ranged lo p.0) (λ r. Ranged lo p.0 r.1) (range mark stepped e (Scalar_datum (scalar.Int p.0 r.0) ∷ r.1)) fresh (ranged_out mark lo stepped e p.0 r.0 r.1) (λ d x. x)))
      (λ r x. gives_exact _ (Res N types τ W lo (1 + lo) m (W.sizing.size_at lo)) r.0 (Val (as_value r.1)) (record {
        now = at_node lo (λ i. x.0) m;
        old = λ d o. beyond_node N types τ W lo (λ i. x.0) m d o;
        fits = subst (λ u. Fits N τ W.sizing W.is_there (calls W) (at_node lo (λ i. x.0) m) no_frames u (as_value r.1)) same (array_value N types τ W S one (at_node lo (λ i. x.0) m) no_frames (At (Unknown lo 0)) (scalar_size (sort.Int p.0)) r.1 x.1);
      }))))

  -- ---- ranges that count to a number

  abbrev s : ℕ → Size
  s n = W.sizing.size_at n

  abbrev parts : Terms Ref BindId → ℕ → Sizes
  parts ts at = part_sizes N types W.sizing.size_at W.sizing.home ts at

  -- so many numbers
  abbrev Numbers : Free → Datum → Type 0
  Numbers d x = Has_datum N τ m no_frames (Level (At d) i64_size) x

  numbered : (mark : Place) (d : Free) (from step : ℤ) (n : ℕ) → n ≡ free m d → Out_fits (There W.is_there) (Numbers d) (range_of mark I64 from step (Some n))
  unfolding Has_shape
  numbered mark d from step n e = tested (nat_le n most_words)
    where
      tested : (b : Bool) → Out_fits (There W.is_there) (Numbers d) (checked b kind.TooLarge mark (Val (Array_datum (Scalar_shape (sort.Int I64)) (datums (stepped_from I64 from step n)))))
      tested true = array_of_rows N types τ W S one m no_frames (At d) i64_size (Scalar_shape (sort.Int I64)) (stepped_from I64 from step n) (many_steps I64 from step n ∙ e) refl (each_step m I64 from step n)
      tested false = too_large W.is_there mark

  numbered_if : (mark : Place) (d : Free) (from step : ℤ) (b : Bool) (n : ℕ) → n ≡ free m d → Out_fits (There W.is_there) (Numbers d) (range_of mark I64 from step (cond b (Some n) None))
  numbered_if mark d from step true n e = numbered mark d from step n e
  numbered_if mark d from step false n e = bad_range W.is_there mark

  -- from 0 to below a number, and from 1 through it
  from_zero : (mark : Place) (d : Free) (z : ℤ) → count_of z ≡ free m d → Out_fits (There W.is_there) (Numbers d) (range_of mark I64 (pos 0) (pos 1) (range_count end.Below (pos 0) (pos 1) z))
  from_zero mark d (pos n) e = numbered_if mark d (pos 0) (pos 1) (int_lt (pos 0) (pos 1) && int_le (pos 0) (pos n)) ((n + 0 + 1 - 1) / 1) (div-one (n + 0 + 1 - 1) ∙ (let z : n + 0 + 1 - 1 ≡ n = omega arith in z) ∙ e)
  from_zero mark d (negsuc n) e = bad_range W.is_there mark

  one_less : (n : ℕ) → unsigned_abs (pos (suc n) -ℤ pos 1) ≡ n
  one_less n = tested (nat_le (suc (suc n)) 1) refl
    where
      tested : (b : Bool) → nat_le (suc (suc n)) 1 ≡ b → unsigned_abs (cond b (negsuc (1 - suc (suc n))) (pos (suc n - 1))) ≡ n
      tested true e = let l = leb-true (suc (suc n)) 1 e in absurd (omega (arith, l))
      tested false e = omega arith

  from_one : (mark : Place) (d : Free) (z : ℤ) → count_of z ≡ free m d → Out_fits (There W.is_there) (Numbers d) (range_of mark I64 (pos 1) (pos 1) (range_count end.Through (pos 1) (pos 1) z))
  from_one mark d (pos zero) e = bad_range W.is_there mark
  from_one mark d (pos (suc n)) e = numbered_if mark d (pos 1) (pos 1) ((int_lt (pos 0) (pos 1) && int_le (pos 1) (pos (suc n))) || (int_lt (pos 1) (pos 0) && int_le (pos (suc n)) (pos 1))) (unsigned_abs (pos (suc n) -ℤ pos 1) / 1 + 1)
      (ap (λ k. k + 1) (div-one (unsigned_abs (pos (suc n) -ℤ pos 1)) ∙ one_less n) ∙ (let z : n + 1 ≡ suc n = omega arith in z) ∙ e)
  from_one mark d (negsuc n) e = bad_range W.is_there mark

  -- an i64 that is worth a size
  abbrev Worth_of : Free → FlatValue → Type 0
  Worth_of d v = Is_scalar (sort.Int I64) v × (word v ≡ free m d)

  counted_size : (d : Free) (u : IntType) (n : ℕ) → Worth_of d (Scalar_value (scalar.Int u n)) → count_of (integer_of I64 n) ≡ free m d
  unfolding word
  counted_size d u n h = ap (λ t. count_of (integer_of t n)) (let z : I64 ≡ u = (let y : sort.Int u ≡ sort.Int I64 = h.0 in cc) in z) ∙ h.1

  abbrev Ranges_to : Free → Bool → End → List FlatValue → Type 0
  Ranges_to d stepped e vs = (mark : Place) → Out_fits (There W.is_there) (Numbers d) (and_then (all_data vs) (range mark stepped e))

  below : (d : Free) (w : FlatValue) → Worth_of d w → Ranges_to d false end.Below (Scalar_value (integer I64 (pos 0)) ∷ w ∷ [])
  unfolding datum_of range
  below d (Scalar_value (scalar.Int u n)) h = λ mark. from_zero mark d (integer_of I64 n) (counted_size d u n h)
  below d (Scalar_value (scalar.Bool b)) h = absurd (let z : sort.Bool ≡ sort.Int I64 = h.0 in cc)
  below d w h = absurd h.0

  below_by_one : (d : Free) (w : FlatValue) → Worth_of d w → Ranges_to d true end.Below (Scalar_value (integer I64 (pos 0)) ∷ Scalar_value (integer I64 (pos 1)) ∷ w ∷ [])
  unfolding datum_of range
  below_by_one d (Scalar_value (scalar.Int u n)) h = λ mark. from_zero mark d (integer_of I64 n) (counted_size d u n h)
  below_by_one d (Scalar_value (scalar.Bool b)) h = absurd (let z : sort.Bool ≡ sort.Int I64 = h.0 in cc)
  below_by_one d w h = absurd h.0

  through : (d : Free) (w : FlatValue) → Worth_of d w → Ranges_to d true end.Through (Scalar_value (integer I64 (pos 1)) ∷ Scalar_value (integer I64 (pos 2)) ∷ w ∷ [])
  unfolding datum_of range
  through d (Scalar_value (scalar.Int u n)) h = λ mark. from_one mark d (integer_of I64 n) (counted_size d u n h)
  through d (Scalar_value (scalar.Bool b)) h = absurd (let z : sort.Bool ≡ sort.Int I64 = h.0 in cc)
  through d w h = absurd h.0

  -- the number that such a range counts to is its size
  counts : (stepped : Bool) (e : End) (ts : Terms Ref BindId) (lo : ℕ) (vs : List FlatValue) → Counts_to N types W stepped e ts (lo + 1) → Part_words N types τ W S one m ts (lo + 1) vs → All_fit N τ W.sizing W.is_there (calls W) m no_frames (parts ts (lo + 1)) (values vs) → Ranges_to (range_size true lo stepped e ts) stepped e vs
  unfolding All_fit
  counts false end.Below (term_and x (term_and z no_term)) lo (v ∷ w ∷ []) K P h =
      let first = literal_is N types τ W S one m 0 x (lo + 1) v K.0 P.0 h.0 in
      subst (λ b. Ranges_to (range_end lo b z) false end.Below (v ∷ w ∷ [])) (sym K.0.0)
      (subst (λ a. Ranges_to (value_of lo 0 z) false end.Below (a ∷ w ∷ [])) (sym first)
      (below (value_of lo 0 z) w (number_is N types τ W S one m lo 0 z (lo + 1 + numbers x) w K.1 P.1.0 h.1.0)))
  counts true end.Below (term_and x (term_and y (term_and z no_term))) lo (v ∷ u ∷ w ∷ []) K P h =
      let first = literal_is N types τ W S one m 0 x (lo + 1) v K.0 P.0 h.0 in
      let second = literal_is N types τ W S one m 1 y (lo + 1 + numbers x) u K.1 P.1.0 h.1.0 in
      subst (λ b. Ranges_to (range_end lo (both b (is_literal 1 y)) z) true end.Below (v ∷ u ∷ w ∷ [])) (sym K.0.0)
      (subst (λ b. Ranges_to (range_end lo b z) true end.Below (v ∷ u ∷ w ∷ [])) (sym K.1.0)
      (subst (λ a. Ranges_to (value_of lo 0 z) true end.Below (a ∷ u ∷ w ∷ [])) (sym first)
      (subst (λ a. Ranges_to (value_of lo 0 z) true end.Below (Scalar_value (integer I64 (pos 0)) ∷ a ∷ w ∷ [])) (sym second)
      (below_by_one (value_of lo 0 z) w (number_is N types τ W S one m lo 0 z (lo + 1 + numbers x + numbers y) w K.2 P.1.1.0 h.1.1.0)))))
  counts true end.Through (term_and x (term_and y (term_and z no_term))) lo (v ∷ u ∷ w ∷ []) K P h =
      let first = literal_is N types τ W S one m 1 x (lo + 1) v K.0 P.0 h.0 in
      let second = literal_is N types τ W S one m 2 y (lo + 1 + numbers x) u K.1 P.1.0 h.1.0 in
      subst (λ b. Ranges_to (range_end lo (both b (is_literal 2 y)) z) true end.Through (v ∷ u ∷ w ∷ [])) (sym K.0.0)
      (subst (λ b. Ranges_to (range_end lo b z) true end.Through (v ∷ u ∷ w ∷ [])) (sym K.1.0)
      (subst (λ a. Ranges_to (value_of lo 0 z) true end.Through (a ∷ u ∷ w ∷ [])) (sym first)
      (subst (λ a. Ranges_to (value_of lo 0 z) true end.Through (Scalar_value (integer I64 (pos 1)) ∷ a ∷ w ∷ [])) (sym second)
      (through (value_of lo 0 z) w (number_is N types τ W S one m lo 0 z (lo + 1 + numbers x + numbers y) w K.2 P.1.1.0 h.1.1.0)))))
  counts false end.Below (term_and x (term_and z no_term)) lo [] K P h = absurd h
  counts false end.Below (term_and x (term_and z no_term)) lo (v ∷ []) K P h = absurd h.1
  counts false end.Below (term_and x (term_and z no_term)) lo (v ∷ w ∷ a ∷ vs) K P h = absurd h.1.1
  counts true end.Below (term_and x (term_and y (term_and z no_term))) lo [] K P h = absurd h
  counts true end.Below (term_and x (term_and y (term_and z no_term))) lo (v ∷ []) K P h = absurd h.1
  counts true end.Below (term_and x (term_and y (term_and z no_term))) lo (v ∷ u ∷ []) K P h = absurd h.1.1
  counts true end.Below (term_and x (term_and y (term_and z no_term))) lo (v ∷ u ∷ w ∷ a ∷ vs) K P h = absurd h.1.1.1
  counts true end.Through (term_and x (term_and y (term_and z no_term))) lo [] K P h = absurd h
  counts true end.Through (term_and x (term_and y (term_and z no_term))) lo (v ∷ []) K P h = absurd h.1
  counts true end.Through (term_and x (term_and y (term_and z no_term))) lo (v ∷ u ∷ []) K P h = absurd h.1.1
  counts true end.Through (term_and x (term_and y (term_and z no_term))) lo (v ∷ u ∷ w ∷ a ∷ vs) K P h = absurd h.1.1.1
  counts stepped e ts lo vs K P h = absurd K

  known_range : (stepped : Bool) (e : End) (mark : Place) (ts : Terms Ref BindId) (lo : ℕ) (env : FlatEnv) (vs : List FlatValue) → element_ty (types lo) ≡ scalar_ty (sort.Int I64) → Ranges_to (range_size true lo stepped e ts) stepped e vs
      → operation N types (Range stepped e) lo (lo + 1) ts (parts ts (lo + 1)) ≡ Ok (s lo)
      → Gives (There W.is_there) (Res N types τ W lo (1 + lo) m (s lo)) (operated false (row_told ((flat_names (told W)).lang W.tops) (Of_literal env lo)) (fits_type ((flat_names (told W)).lang W.tops) env lo) (W.integer_at lo) (Range stepped e) mark vs)
  unfolding operation made of_type of_types
  known_range stepped e mark ts lo env vs element known q =
      let d : Free = range_size true lo stepped e ts in
      let same : Level (At d) i64_size ≡ s lo = ap (λ y. Level (At (range_size (is_i64 y) lo stepped e ts)) (of_type (no_size_of lo) 0 y)) (sym element) ∙ same_ok _ (s lo) q in
      gives_then (λ ds. all_data vs ≡ Val ds) (Res N types τ W lo (1 + lo) m (s lo)) _ _
      (gives_exact _ (λ ds. all_data vs ≡ Val ds) 0 (all_data vs) (out_of _ (λ ds. all_data vs ≡ Val ds) (all_data vs) (all_fine W.is_there vs) (λ ds r. r)))
      (λ ds r. gives_then (λ c. Numbers d c.1) (Res N types τ W lo (1 + lo) m (s lo)) _ _
      (gives_exact _ (λ c. Numbers d c.1) 0 _ (out_then _ (Numbers d) (λ c. Numbers d c.1) (range mark stepped e ds) fresh (subst (λ o. Out_fits (There W.is_there) (Numbers d) (and_then o (range mark stepped e))) r (known mark)) (λ y x. x)))
      (λ c x. gives_exact _ (Res N types τ W lo (1 + lo) m (s lo)) c.0 (Val (as_value c.1)) (record {
        now = m;
        old = λ d o. refl;
        fits = subst (λ u. Fits N τ W.sizing W.is_there (calls W) m no_frames u (as_value c.1)) same (array_value N types τ W S one m no_frames (At d) i64_size c.1 x);
      })))

  pub range_fits : (stepped : Bool) (e : End) (mark : Place) (ts : Terms Ref BindId) (lo : ℕ) (env : FlatEnv) (v : FlatValue) (ws : List FlatValue) (p : Range_parts N types W stepped e lo ts) → Is_scalar (sort.Int p.0) v
      → Part_words N types τ W S one m ts (lo + 1) (v ∷ ws) → All_fit N τ W.sizing W.is_there (calls W) m no_frames (parts ts (lo + 1)) (values (v ∷ ws)) → operation N types (Range stepped e) lo (lo + 1) ts (parts ts (lo + 1)) ≡ Ok (s lo)
      → Gives (There W.is_there) (Res N types τ W lo (1 + lo) m (s lo)) (operated false (row_told ((flat_names (told W)).lang W.tops) (Of_literal env lo)) (fits_type ((flat_names (told W)).lang W.tops) env lo) (W.integer_at lo) (Range stepped e) mark (v ∷ ws))
  range_fits stepped e mark ts lo env v ws (t, element, first, inl unknown) h P f q = met_range stepped e mark ts lo env v ws (t, element, first, unknown) h q
  range_fits stepped e mark ts lo env v ws (t, element, first, inr known) h P f q = known_range stepped e mark ts lo env (v ∷ ws) (element ∙ ap (λ u. scalar_ty (sort.Int u)) known.0) (counts stepped e ts lo (v ∷ ws) known.1 P f) q
