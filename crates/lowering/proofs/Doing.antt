-- Primitives without a function: what their steps give.
use Rattle.core_values.proofs.Same.{leaves_many, shape_is}
use Rattle.lowering.proofs.Mapping.{Typed_arrays, no_typed, typed_and}
use Rattle.core_values.proofs.Zipping.{zips_are_agreed, Row_of_each, columns_each, tuples_are}
use Rattle.std.proofs.Common.{◌≡◌, ℕ, zero, suc, nat_le, List, [], ◌∷◌, Bool, true, false, cond, ℤ, pos, negsuc, map, reverse, replicate, length, refl, sym, ap, ◌∙◌, subst, arith, nat_eq, ne_eqb, ◌||◌, ◌++◌}
use Rattle.std.proofs.lemmas.List.{length-replicate}
use Rattle.fut_scalar.specs.declared.place.Place.{Place}
use Rattle.fut_scalar.specs.declared.report.FailKind.TheVariants as kind
use Rattle.fut_scalar.specs.declared.scalar.IntType.TheVariants.{I64}
use Rattle.fut_scalar.specs.declared.scalar.Scalar.{Scalar}
use Rattle.fut_scalar.specs.declared.scalar.Scalar.TheVariants as scalar
use Rattle.fut_scalar.specs.declared.scalar.ScalarType.TheVariants as sort
use Rattle.fut_scalar.specs.Integers.{integer_of}
use Rattle.fut_flat.specs.declared.act.Part.TheVariants as part
use Rattle.fut_flat.specs.declared.prim.Primitive.{Primitive}
use Rattle.fut_flat.specs.declared.prim.Primitive.TheVariants as prim
use Rattle.fut_value.specs.Data.{Shape, Scalar_shape, Tuple_shape, Array_shape, Datum, Scalar_datum, Array_datum, Datums, listed, datums, shape_of, weight}
use Rattle.fut_value.specs.Data as shape
use Rattle.fut_value.specs.Leaves.{leaves}
use Rattle.fut_meaning.specs.Arrays.{Counted, fresh, all_fresh, all_shared, array_of, checked, failure, if_light, integer_of_scalar, most_words, fitting}
use Rattle.fut_meaning.specs.Arrays as meaning
use Rattle.fut_meaning.specs.Jobs.{Job, Done, job, numbers_from, of_weight}
use Rattle.fut_meaning.specs.Jobs as jobs
use Rattle.fut_meaning.specs.Meaning.{counts}
use Rattle.fut_meaning.specs.Outcomes.{Out, Val, Fail, Wrong, and_then, gives, the, Then}
use Rattle.fut_meaning.specs.Sames.{all_none, all_more, same_value}
use Rattle.fut_meaning.proofs.Safe.{Every}
use Rattle.fut_blocks.specs.declared.block.Atom.{Atom as Source_atom}
use Rattle.fut_blocks.specs.Meaning.{Names}
use Rattle.fut_blocks.specs.Meaning as source
use Rattle.fut_blocks.specs.Plain as block
use Rattle.fut_blocks.specs.Rows.{Row as Told_row}
use Rattle.steps_simulate.specs.Covers.{Covers}
use Rattle.steps_simulate.proofs.Covers.{covers_exact, covers_more_words, covers_known_left, covers_known_right, covers_report, covers_wrong}
use Rattle.core_ir.specs.declared.block.Atom.{Atom}
use Rattle.core_ir.specs.Arrays.{flat, numbers_below, done, is_new}
use Rattle.core_ir.specs.Arrays as core_arrays
use Rattle.core_ir.specs.Bundles.{Row, array_words}
use Rattle.core_ir.specs.Meaning.{Env, groups_of, act_means}
use Rattle.core_ir.specs.Plain.{Deed, Do}
use Rattle.core_ir.specs.Plain as core
use Rattle.core_values.specs.Claims.{apart}
use Rattle.core_values.specs.Components.{components, One_type, arrays, Regular, an_array, Components_of, array_in, all_arrays, Told, wide, All_arrays, no_array, array_and, row_shapes, All_one_type, no_part, part_and, tuples, scalars, records}
use Rattle.core_values.proofs.Counts.{counts_agree}
use Rattle.core_values.proofs.Cutting.{each_whole, every_turned}
use Rattle.core_values.proofs.Joining.{copies_agree, every_copy, concats_agree}
use Rattle.core_values.proofs.Making.{listed_datums, failed}
use Rattle.core_values.proofs.Selecting.{rotated_agree, every_around}
use Rattle.core_values.proofs.Updating.{Is_row, On_value, on_given, listed_rows, on_then}
use Rattle.lowering.specs.Arrays.{array, bundle_of, Indexed, at_end, reverse_then}
use Rattle.lowering.specs.Arrays as rule
use Rattle.lowering.specs.Deeds.{Deed_lowers, iota_lowers, replicate_lowers, rotate_lowers, reverse_lowers, copy_lowers, zip_lowers, zip3_lowers, concat_lowers}
use Rattle.lowering.specs.Knowns.{Scope, width, shapes}
use Rattle.lowering.specs.Programs.{Is_data, Are_components}
use Rattle.lowering.proofs.Deeds.{values_so, stood, valued, grouped, group_is, atoms_so, groups_so}
use Rattle.lowering.proofs.Functions.{array_found, regular_rows, means, job_covers}
use Rattle.lowering.proofs.Indexing.{index_agrees, on_checked}
use Rattle.lowering.proofs.Making.{All_of, no_scalar, scalar_and, scalar_array, flat_agrees, flat_data}
use Rattle.lowering.proofs.Scalars.{scalar_found}
use Rattle.lowering.proofs.Stands.{Holds, operand_found}
use Rattle.lowering.proofs.Types.{same_left, turned, one_then}

-- ---- results

abbrev counted_by : Bool → Out Datum → Out Counted
counted_by true p = all_fresh p
counted_by false p = all_shared p

-- whether a step counts no more than the primitive
pub data Fewer : Bool → Bool → Type 0 where
  both_count : Fewer true true
  none_counts : {b : Bool} → Fewer false b

pub record Deed_done (d : Env) (env : Names Datum) (p : Primitive) (at : Place) (us : List Source_atom) (deed : Deed) (uss : List (List Atom)) (k : Shape) : Type 0 where
  pub list : List Datum
  pub is : source.values_of env us ≡ Val list
  pub result : Out Datum
  pub fresh : Bool
  pub fewer : Fewer (is_new deed) fresh
  pub step_gives : and_then (groups_of d uss) (done false deed at) ≡ apart result
  pub job_gives : (told : Shape) → job false told p at list ≡ jobs.done (counted_by fresh result)
  pub is_data : On_value (Is_data k) result

given_value : {k : Shape} {b c : Bool} {f : jobs.Applied} (tight : Bool) (d : Datum) → Fewer b c → Is_data k d → Covers (Components_of k) (gives (cond b (array_words (components d)) 0) (components d)) (Then (the (jobs.done (counted_by c (Val d)))) (means tight f))
given_value {f = f} tight d both_count i =
    covers_known_right (Val (Done (shape.array_words (shape_of d), d))) (Done (shape.array_words (shape_of d), d)) (means tight f) _ refl
    (covers_more_words (let e = counts_agree d i.regular in omega (arith, e)) (same_value (record { are = refl; regular = i.regular; typed = i.typed })))
given_value {f = f} tight d (none_counts {b = true}) i =
    covers_known_right (Val (Done (shape.array_words (shape_of d), d))) (Done (shape.array_words (shape_of d), d)) (means tight f) _ refl
    (covers_more_words (omega arith) (same_value (record { are = refl; regular = i.regular; typed = i.typed })))
given_value {f = f} tight d (none_counts {b = false}) i =
    covers_known_right (Val (Done (0, d))) (Done (0, d)) (means tight f) _ refl (covers_exact (same_value (record { are = refl; regular = i.regular; typed = i.typed })))

given_out : {b c : Bool} (k : Shape) (f : jobs.Applied) (tight : Bool) (p : Out Datum) → Fewer b c → On_value (Is_data k) p → Covers (Components_of k) (Then (the (apart p)) (λ cs. gives (cond b (array_words cs) 0) cs)) (Then (the (jobs.done (counted_by c p))) (means tight f))
given_out {b} k f tight (Val d) w g = covers_known_left (Val (components d)) (components d) (λ cs. gives (cond b (array_words cs) 0) cs) _ refl (given_value tight d w (g d refl))
given_out {c = true} k f tight (Fail r) w g = covers_report r _ _
given_out {c = false} k f tight (Fail r) w g = covers_report r _ _
given_out {c = true} k f tight Wrong w g = covers_wrong _ _
given_out {c = false} k f tight Wrong w g = covers_wrong _ _

pub deed_covers : (tight : Bool) (budget : ℕ) (d : Env) (env : Names Datum) (r : Told_row) (p : Primitive) (at : Place) (us : List Source_atom) (xs : List ℕ) (b : block.Body) (deed : Deed) (uss : List (List Atom)) (h k : Shape) → source.row_shape env r ≡ Val h → Deed_done d env p at us deed uss k → Covers (Are_components (k ∷ [])) (act_means tight false budget (Do deed at uss) d) (source.act_means tight budget (block.Job r p at us xs b) env)
unfolding act_means
deed_covers tight budget d env r p at us xs b deed uss h k s g =
    job_covers tight budget env r p at us xs b g.list h k _ (jobs.done (counted_by g.fresh g.result)) g.is s (g.job_gives h)
    (subst (λ z. Covers (Components_of k) (Then (the z) (λ cs. gives (cond (is_new deed) (array_words cs) 0) cs)) (Then (the (jobs.done (counted_by g.fresh g.result))) (means tight (source.function_of (source.body_means tight budget b) xs env)))) (sym g.step_gives)
    (given_out k (source.function_of (source.body_means tight budget b) xs env) tight g.result g.fewer g.is_data))

-- ---- arrays of rows that are known

known_rows : (h row : Shape) (ds : List Datum) → One_type h row → One_type row row → Every (Is_row row) ds → Is_data (array h) (Array_datum row (datums ds))
unfolding shape_of
known_rows h row ds o m e = record { regular = an_array m (listed_rows row ds e); typed = arrays o }

array_data : (at : Place) (h row : Shape) (ds : List Datum) → One_type h row → One_type row row → Every (Is_row row) ds → On_value (Is_data (array h)) (array_of at row ds)
array_data at h row ds o m e = on_checked (Is_data (array h)) (nat_le (weight (shape_of (Array_datum row (datums ds)))) most_words) kind.TooLarge at (Val (Array_datum row (datums ds))) (λ q. on_given (Is_data (array h)) (Array_datum row (datums ds)) (known_rows h row ds o m e))

-- ---- sizes that are asked for

abbrev sized : Place → ℤ → (ℕ → Out Datum) → Out Datum
sized at (pos n) k = k n
sized at (negsuc n) k = failure kind.Range at

abbrev by_scalar : Scalar → (ℤ → Out Datum) → Out Datum
by_scalar s k = and_then (integer_of_scalar s) k

sized_data : (P : Datum → Type 0) (at : Place) (s : Scalar) (k : ℕ → Out Datum) → ((n : ℕ) → On_value P (k n)) → On_value P (by_scalar s (λ z. sized at z k))
sized_data P at (scalar.Int t m) k g = by (integer_of t m)
  where
    by : (z : ℤ) → On_value P (sized at z k)
    by (pos n) = g n
    by (negsuc n) = λ e q. failed q
sized_data P at (scalar.Bool b) k g = λ e q. absurd (let z : Wrong ≡ Val e = q in cc)

sized_apart : (at : Place) (s : Scalar) (k : ℕ → Out Row) (l : ℕ → Out Datum) → ((n : ℕ) → k n ≡ apart (l n)) → and_then (integer_of_scalar s) (λ z. core_arrays.sized at z k) ≡ apart (by_scalar s (λ z. sized at z l))
sized_apart at (scalar.Int t m) k l g = by (integer_of t m)
  where
    by : (z : ℤ) → core_arrays.sized at z k ≡ apart (sized at z l)
    by (pos n) = g n
    by (negsuc n) = refl
sized_apart at (scalar.Bool b) k l g = refl

sized_job : (at : Place) (s : Scalar) (k : ℕ → Out Job) (l : ℕ → Out Datum) → ((n : ℕ) → k n ≡ jobs.done (all_fresh (l n))) → and_then (integer_of_scalar s) (λ z. jobs.sized at z k) ≡ jobs.done (all_fresh (by_scalar s (λ z. sized at z l)))
sized_job at (scalar.Int t m) k l g = by (integer_of t m)
  where
    by : (z : ℤ) → jobs.sized at z k ≡ jobs.done (all_fresh (sized at z l))
    by (pos n) = g n
    by (negsuc n) = refl
sized_job at (scalar.Bool b) k l g = refl

-- ---- iota

numbers_typed : (n i : ℕ) → All_of (sort.Int I64) (map core_arrays.i64 (counts n i))
numbers_typed zero i = no_scalar
numbers_typed (suc n) i = scalar_and refl (numbers_typed n (suc i))

numbers_long : (n i : ℕ) → length (map core_arrays.i64 (counts n i)) ≡ n
numbers_long zero i = refl
numbers_long (suc n) i = ap suc (numbers_long n (suc i))

numbers_same : (n i : ℕ) → numbers_from n i ≡ map Scalar_datum (map core_arrays.i64 (counts n i))
numbers_same zero i = refl
numbers_same (suc n) i = ap (λ z. meaning.i64 i ∷ z) (numbers_same n (suc i))

abbrev iota_of : Place → ℕ → Out Datum
iota_of at n = if_light at n (Val (scalar_array (sort.Int I64) (numbers_below n)))

light_job : (b : Bool) (at : Place) (d : Datum) → checked b kind.TooLarge at (fresh d) ≡ all_fresh (checked b kind.TooLarge at (Val d))
light_job true at d = refl
light_job false at d = refl

iota_job : (at : Place) (n : ℕ) → jobs.done (checked (nat_le n most_words) kind.TooLarge at (fresh (Array_datum jobs.i64_shape (datums (numbers_from n 0))))) ≡ jobs.done (all_fresh (iota_of at n))
iota_job at n = ap (λ z. jobs.done (checked (nat_le n most_words) kind.TooLarge at (fresh (Array_datum jobs.i64_shape (datums z))))) (numbers_same n 0) ∙ ap jobs.done (light_job (nat_le n most_words) at (scalar_array (sort.Int I64) (numbers_below n)))

-- ---- replicate

copied : (at : Place) (d : Datum) → ℕ → Out Datum
copied at d n = array_of at (shape_of d) (replicate n d)

weighed_job : (b : Bool) (at : Place) (d : Datum) → checked b kind.TooLarge at (jobs.done (fresh d)) ≡ jobs.done (all_fresh (checked b kind.TooLarge at (Val d)))
weighed_job true at d = refl
weighed_job false at d = refl

replicate_job : (at : Place) (d : Datum) (n : ℕ) → of_weight at (Array_shape n (shape_of d)) (jobs.done (fresh (Array_datum (shape_of d) (datums (replicate n d))))) ≡ jobs.done (all_fresh (copied at d n))
unfolding copied shape_of
replicate_job at d n =
    ap (λ z. checked (nat_le (weight (Array_shape z (shape_of d))) most_words) kind.TooLarge at (jobs.done (fresh (Array_datum (shape_of d) (datums (replicate n d)))))) (sym (ap length (listed_datums (replicate n d)) ∙ length-replicate n d))
    ∙ weighed_job (nat_le (weight (shape_of (Array_datum (shape_of d) (datums (replicate n d))))) most_words) at (Array_datum (shape_of d) (datums (replicate n d)))

-- ---- around, and backwards

scalar_apart : (s : Scalar) (k : ℤ → Out Row) (l : ℤ → Out Datum) → ((z : ℤ) → k z ≡ apart (l z)) → and_then (integer_of_scalar s) k ≡ apart (by_scalar s l)
scalar_apart (scalar.Int t m) k l g = g (integer_of t m)
scalar_apart (scalar.Bool b) k l g = refl

scalar_job : (s : Scalar) (l : ℤ → Out Datum) → and_then (integer_of_scalar s) (λ z. jobs.done (all_fresh (l z))) ≡ jobs.done (all_fresh (by_scalar s l))
scalar_job (scalar.Int t m) l = refl
scalar_job (scalar.Bool b) l = refl

scalar_data : (P : Datum → Type 0) (s : Scalar) (l : ℤ → Out Datum) → ((z : ℤ) → On_value P (l z)) → On_value P (by_scalar s l)
scalar_data P (scalar.Int t m) l g = g (integer_of t m)
scalar_data P (scalar.Bool b) l g = λ e q. absurd (let z : Wrong ≡ Val e = q in cc)

reversed_is : (at : Place) (row : Shape) (ds : Datums) → meaning.indexed at (part.Backwards ∷ []) (Array_datum row ds) [] ≡ array_of at row (reverse (listed ds))
unfolding meaning.indexed meaning.picks meaning.cuts meaning.cut shape_of
reversed_is at row ds = ap (λ z. and_then (and_then z (λ es. Val (Array_datum row (datums es)))) (meaning.within_weight at)) (each_whole false at 0 (reverse (listed ds)))

-- ---- side by side

zip_job : (o : Out (List (List Datum))) (g : List (List Datum) → Out Datum) → and_then o (λ rows. jobs.done (all_fresh (g rows))) ≡ jobs.done (all_fresh (and_then o g))
zip_job (Val rs) g = refl
zip_job (Fail r) g = refl
zip_job Wrong g = refl

rows_typed : {hs : List Shape} {list : List Told} → Typed_arrays hs list → All_one_type (shapes hs) (row_shapes list)
rows_typed no_typed = no_part
rows_typed (typed_and o t) = part_and o (rows_typed t)

rows_met : {hs : List Shape} {list : List Told} → Typed_arrays hs list → All_one_type (row_shapes list) (row_shapes list)
rows_met no_typed = no_part
rows_met (typed_and o t) = part_and (same_left (turned o)) (rows_met t)

module _ (at : Place) {hs : List Shape} (a : Told) (rest : List Told) (g : Regular (array_in a)) (v : All_arrays rest) (t : Typed_arrays hs (a ∷ rest)) where
  abbrev zipped_rows : Out Datum
  zipped_rows = and_then (jobs.columns false at (a.0, listed a.1) (all_arrays rest)) (λ rs. array_of at (Tuple_shape (row_shapes (a ∷ rest))) (map jobs.tupled rs))

  zip_gives : (d : Env) (rs : List core.Bundle) → groups_of d (map (λ r. r.arrays) rs) ≡ Val (map components (all_arrays (a ∷ rest))) → map (λ r. r.width) rs ≡ map wide (a ∷ rest) → and_then (groups_of d (map (λ r. r.arrays) rs)) (done false (core.Zip (map (λ r. r.width) rs)) at) ≡ apart zipped_rows
  unfolding done
  zip_gives d rs e q = ap (λ z. and_then z (done false (core.Zip (map (λ r. r.width) rs)) at)) e ∙ ap (λ z. core_arrays.zipped false at z (map components (all_arrays (a ∷ rest)))) q ∙ zips_are_agreed false at a rest g v

  zip_data : On_value (Is_data (array (Tuple_shape (shapes hs)))) zipped_rows
  zip_data = on_then (Every (Row_of_each (a ∷ rest))) (Is_data (array (Tuple_shape (shapes hs)))) (jobs.columns false at (a.0, listed a.1) (all_arrays rest)) (λ rs. array_of at (Tuple_shape (row_shapes (a ∷ rest))) (map jobs.tupled rs)) (columns_each false at a rest g v) (λ rs e.
      array_data at (Tuple_shape (shapes hs)) (Tuple_shape (row_shapes (a ∷ rest))) (map jobs.tupled rs) (tuples (rows_typed t)) (tuples (rows_met t)) (tuples_are (a ∷ rest) rs e))

-- ---- one behind the other

fitting_job : (b : Bool) (at : Place) (p : Out Datum) → fitting false b at (jobs.done (all_fresh p)) ≡ jobs.done (all_fresh (fitting false b at p))
fitting_job true at p = refl
fitting_job false at p = refl

both_rows : (row : Shape) (ds es : List Datum) → Every (Is_row row) ds → Every (Is_row row) es → Every (Is_row row) (ds ++ es)
both_rows row [] es e f = f
both_rows row (d ∷ ds) es e f = (e.0, both_rows row ds es e.1 f)

met_row : {h row : Shape} (other : Shape) → One_type h row → jobs.or_met row other ≡ row
met_row other scalars = refl
met_row other (tuples o) = refl
met_row other (records o) = refl
met_row other (arrays o) = refl

some_rows : (d : Datum) (ds : List Datum) → nat_eq (length (d ∷ ds)) 0 ≡ false
some_rows d ds = ne_eqb (length (d ∷ ds)) 0 (λ e. omega (arith, e))

module _ (at : Place) (h row row' : Shape) (o : One_type h row) (o' : One_type h row') where
  abbrev appended : Bool → List Datum → List Datum → Out Datum
  appended b ds es = fitting false b at (array_of at (jobs.either_row (row, ds) (row', es)) (ds ++ es))

  appended_data : (ds es : List Datum) (b : Bool) → jobs.shown_to_agree (row, ds) (row', es) ≡ b → Every (Is_row row) ds → Every (Is_row row') es → On_value (Is_data (array h)) (appended b ds es)
  appended_data ds es false q e f = λ x y. failed y
  appended_data [] [] true q e f = subst (λ z. On_value (Is_data (array h)) (array_of at z [])) (sym (met_row row' o)) (array_data at h row [] o (same_left (turned o)) tt)
  appended_data [] (x ∷ es) true q e f = subst (λ z. On_value (Is_data (array h)) (array_of at (cond z (jobs.or_met row row') row') (x ∷ es))) (sym (some_rows x es)) (array_data at h row' (x ∷ es) o' (same_left (turned o')) f)
  appended_data (d ∷ ds) es true q e f = subst (λ z. On_value (Is_data (array h)) (array_of at (cond z (cond (nat_eq (length es) 0) (jobs.or_met row row') row') row) (d ∷ ds ++ es))) (sym (some_rows d ds)) (array_data at h row (d ∷ ds ++ es) o (same_left (turned o)) (both_rows row (d ∷ ds) es e (like es f (ap (λ z. z || (nat_eq (length es) 0 || shape.same_sizes row row')) (sym (some_rows d ds)) ∙ q))))
    where
      like : (es : List Datum) → Every (Is_row row') es → (false || (nat_eq (length es) 0 || shape.same_sizes row row')) ≡ true → Every (Is_row row) es
      like [] f q = tt
      like (x ∷ es) f q = subst (λ z. Every (Is_row z) (x ∷ es)) (sym (shape_is (one_then (turned o) o') (ap (λ z. z || shape.same_sizes row row') (sym (some_rows x es)) ∙ q))) f

-- ---- all of them

whole : {h row : Shape} {ds : Datums} → Regular (Array_datum row ds) → One_type h row → Is_data (array h) (Array_datum row ds)
unfolding shape_of
whole g o = record { regular = g; typed = arrays o }

module _ {d : Env} {n : ℕ} {sc : Scope} {env : Names Datum} (k : Holds d n sc env) where
  zip_two : (at : Place) {a b : Source_atom} {h l : Shape} {rs : List core.Bundle} → rule.Array_operands sc (a ∷ b ∷ []) (h ∷ l ∷ []) rs → Deed_done d env prim.Zip at (a ∷ b ∷ []) (core.Zip (map (λ r. r.width) rs)) (map (λ r. r.arrays) rs) (array (Tuple_shape (shapes (h ∷ l ∷ []))))
  unfolding job
  zip_two at {a} {b} {h} {l} (rule.array_and {ws = ws} x (rule.array_and {ws = vs} y rule.no_array)) =
      let f = array_found (operand_found k x) in
      let g = array_found (operand_found k y) in
      let first : Told = (f.row, f.rows) in
      let rest : List Told = (g.row, g.rows) ∷ [] in
      let t = typed_and {a = first} f.typed (typed_and {a = (g.row, g.rows)} g.typed no_typed) in
      let v = array_and g.regular no_array in
      record {
        list = Array_datum f.row f.rows ∷ Array_datum g.row g.rows ∷ [];
        is = values_so (all_more (stood env a f.is) (all_more (stood env b g.is) all_none));
        result = zipped_rows at first rest f.regular v t;
        fresh = true;
        fewer = both_count;
        step_gives = zip_gives at first rest f.regular v t d (bundle_of h ws ∷ bundle_of l vs ∷ []) (groups_so (all_more (grouped d ws f.values) (all_more (grouped d vs g.values) all_none))) (ap (λ z. z ∷ width l ∷ []) (leaves_many f.typed) ∙ ap (λ z. length (leaves f.row) ∷ z ∷ []) (leaves_many g.typed));
        job_gives = λ told. zip_job (jobs.columns false at (f.row, listed f.rows) (all_arrays rest)) (λ rs. array_of at (Tuple_shape (row_shapes (first ∷ rest))) (map jobs.tupled rs));
        is_data = zip_data at first rest f.regular v t;
      }

  zip_three : (at : Place) {a b c : Source_atom} {h l m : Shape} {rs : List core.Bundle} → rule.Array_operands sc (a ∷ b ∷ c ∷ []) (h ∷ l ∷ m ∷ []) rs → Deed_done d env prim.Zip3 at (a ∷ b ∷ c ∷ []) (core.Zip (map (λ r. r.width) rs)) (map (λ r. r.arrays) rs) (array (Tuple_shape (shapes (h ∷ l ∷ m ∷ []))))
  unfolding job
  zip_three at {a} {b} {c} {h} {l} {m} (rule.array_and {ws = ws} x (rule.array_and {ws = vs} y (rule.array_and {ws = zs} z rule.no_array))) =
      let f = array_found (operand_found k x) in
      let g = array_found (operand_found k y) in
      let i = array_found (operand_found k z) in
      let first : Told = (f.row, f.rows) in
      let rest : List Told = (g.row, g.rows) ∷ (i.row, i.rows) ∷ [] in
      let t = typed_and {a = first} f.typed (typed_and {a = (g.row, g.rows)} g.typed (typed_and {a = (i.row, i.rows)} i.typed no_typed)) in
      let v = array_and g.regular (array_and i.regular no_array) in
      record {
        list = Array_datum f.row f.rows ∷ Array_datum g.row g.rows ∷ Array_datum i.row i.rows ∷ [];
        is = values_so (all_more (stood env a f.is) (all_more (stood env b g.is) (all_more (stood env c i.is) all_none)));
        result = zipped_rows at first rest f.regular v t;
        fresh = true;
        fewer = both_count;
        step_gives = zip_gives at first rest f.regular v t d (bundle_of h ws ∷ bundle_of l vs ∷ bundle_of m zs ∷ []) (groups_so (all_more (grouped d ws f.values) (all_more (grouped d vs g.values) (all_more (grouped d zs i.values) all_none)))) (ap (λ z. z ∷ width l ∷ width m ∷ []) (leaves_many f.typed) ∙ ap (λ z. length (leaves f.row) ∷ z ∷ width m ∷ []) (leaves_many g.typed) ∙ ap (λ z. length (leaves f.row) ∷ length (leaves g.row) ∷ z ∷ []) (leaves_many i.typed));
        job_gives = λ told. zip_job (jobs.columns false at (f.row, listed f.rows) (all_arrays rest)) (λ rs. array_of at (Tuple_shape (row_shapes (first ∷ rest))) (map jobs.tupled rs));
        is_data = zip_data at first rest f.regular v t;
      }

  pub deed_done : {p : Primitive} {us : List Source_atom} {deed : Deed} {uss : List (List Atom)} {h : Shape} (at : Place) → Deed_lowers sc p us deed uss h → Deed_done d env p at us deed uss h
  unfolding done job copied
  deed_done at (iota_lowers {a = a} {u = u} p) =
      let f = scalar_found (operand_found k p) in
      record {
        list = Scalar_datum f.scalar ∷ [];
        is = values_so (all_more (stood env a f.is) all_none);
        result = by_scalar f.scalar (λ z. sized at z (iota_of at));
        fresh = true;
        fewer = both_count;
        step_gives = ap (λ z. and_then z (done false core.Iota at)) (groups_so (all_more (grouped d (u ∷ []) (atoms_so (all_more (valued d u f.value) all_none))) all_none)) ∙ sized_apart at f.scalar (λ n. flat at n (numbers_below n)) (iota_of at) (λ n. flat_agrees at (sort.Int I64) n (numbers_below n) (numbers_long n 0));
        job_gives = λ told. sized_job at f.scalar _ (iota_of at) (iota_job at);
        is_data = sized_data (Is_data (array (Scalar_shape (sort.Int I64)))) at f.scalar (iota_of at) (λ n. flat_data at n (numbers_typed n 0));
      }
  deed_done at (replicate_lowers {a = a} {b} {u = u} {h} {ws} p q) =
      let f = scalar_found (operand_found k p) in
      let g = operand_found k q in
      let o = g.is_data.typed in
      let m = same_left (turned o) in
      record {
        list = Scalar_datum f.scalar ∷ g.datum ∷ [];
        is = values_so (all_more (stood env a f.is) (all_more (stood env b g.is) all_none));
        result = by_scalar f.scalar (λ z. sized at z (copied at g.datum));
        fresh = true;
        fewer = both_count;
        step_gives = ap (λ z. and_then z (done false core.Replicate at)) (groups_so (all_more (grouped d (u ∷ []) (atoms_so (all_more (valued d u f.value) all_none))) (all_more (group_is g.have) all_none))) ∙ sized_apart at f.scalar _ (copied at g.datum) (λ n. copies_agree false at n g.datum g.is_data.regular m);
        job_gives = λ told. sized_job at f.scalar _ (copied at g.datum) (replicate_job at g.datum);
        is_data = sized_data (Is_data (array h)) at f.scalar (copied at g.datum) (λ n. array_data at h (shape_of g.datum) (replicate n g.datum) o m (every_copy (Is_row (shape_of g.datum)) n g.datum (record { regular = g.is_data.regular; shaped = refl })));
      }
  deed_done at (rotate_lowers {a = a} {b} {u = u} {h = h} {ws} p q) =
      let f = scalar_found (operand_found k p) in
      let g = array_found (operand_found k q) in
      let turn : ℤ → Out Datum = λ z. array_of at g.row (jobs.around z (listed g.rows)) in
      record {
        list = Scalar_datum f.scalar ∷ Array_datum g.row g.rows ∷ [];
        is = values_so (all_more (stood env a f.is) (all_more (stood env b g.is) all_none));
        result = by_scalar f.scalar turn;
        fresh = true;
        fewer = both_count;
        step_gives = ap (λ z. and_then z (done false core.Rotate at)) (groups_so (all_more (grouped d (u ∷ []) (atoms_so (all_more (valued d u f.value) all_none))) (all_more (grouped d ws g.values) all_none))) ∙ scalar_apart f.scalar _ turn (λ z. rotated_agree false at z g.row g.rows g.regular);
        job_gives = λ told. scalar_job f.scalar turn;
        is_data = scalar_data (Is_data (array h)) f.scalar turn (λ z. array_data at h g.row (jobs.around z (listed g.rows)) g.typed g.met (every_around (Is_row g.row) z (listed g.rows) (regular_rows g.regular)));
      }
  deed_done at (reverse_lowers {a = a} {h = h} {ws} p) =
      let o = operand_found k p in
      let g = array_found o in
      let i : Is_data (array h) (Array_datum g.row g.rows) = whole g.regular g.typed in
      record {
        list = Array_datum g.row g.rows ∷ [];
        is = values_so (all_more (stood env a g.is) all_none);
        result = array_of at g.row (reverse (listed g.rows));
        fresh = true;
        fewer = none_counts;
        step_gives = ap (λ z. and_then z (done false (core.Index (width h) (part.Backwards ∷ [])) at)) (groups_so (all_more (grouped d ws g.values) (all_more (grouped d [] refl) all_none))) ∙ index_agrees at (reverse_then at_end) (Array_datum g.row g.rows) i [] [] refl ∙ ap apart (reversed_is at g.row g.rows);
        job_gives = λ told. refl;
        is_data = array_data at h g.row (reverse (listed g.rows)) g.typed g.met (every_turned (Is_row g.row) (listed g.rows) [] (regular_rows g.regular) tt);
      }
  deed_done at (copy_lowers {a = a} {h = h} {ws} p) =
      let g = array_found (operand_found k p) in
      record {
        list = Array_datum g.row g.rows ∷ [];
        is = values_so (all_more (stood env a g.is) all_none);
        result = Val (Array_datum g.row g.rows);
        fresh = true;
        fewer = both_count;
        step_gives = ap (λ z. and_then z (done false core.Copy at)) (groups_so (all_more (grouped d ws g.values) all_none));
        job_gives = λ told. refl;
        is_data = on_given (Is_data (array h)) (Array_datum g.row g.rows) (whole g.regular g.typed);
      }
  deed_done at (zip_lowers q) = zip_two at q
  deed_done at (zip3_lowers q) = zip_three at q
  deed_done at (concat_lowers {a = a} {b} {h = h} {ws} {vs} p q) =
      let f = array_found (operand_found k p) in
      let g = array_found (operand_found k q) in
      let c = jobs.shown_to_agree (f.row, listed f.rows) (g.row, listed g.rows) in
      record {
        list = Array_datum f.row f.rows ∷ Array_datum g.row g.rows ∷ [];
        is = values_so (all_more (stood env a f.is) (all_more (stood env b g.is) all_none));
        result = appended at h f.row g.row f.typed g.typed c (listed f.rows) (listed g.rows);
        fresh = true;
        fewer = both_count;
        step_gives = ap (λ z. and_then z (done false core.Concat at)) (groups_so (all_more (grouped d ws f.values) (all_more (grouped d vs g.values) all_none))) ∙ concats_agree at f.row g.row f.rows g.rows (one_then (turned f.typed) g.typed) f.regular g.regular;
        job_gives = λ told. fitting_job c at (array_of at (jobs.either_row (f.row, listed f.rows) (g.row, listed g.rows)) (listed f.rows ++ listed g.rows));
        is_data = appended_data at h f.row g.row f.typed g.typed (listed f.rows) (listed g.rows) c refl (regular_rows f.regular) (regular_rows g.regular);
      }
