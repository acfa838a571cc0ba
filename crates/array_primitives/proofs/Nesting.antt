-- Arrays of arrays.
use Rattle.std.proofs.Common.{◌≡◌, ℕ, zero, suc, ◌+◌, ◌*◌, ◌<◌, ◌≤◌, ◌^◌, List, [], ◌∷◌, ◌++◌, map, length, get_or, take, drop, slice_get, Option, Some, None, Ok, Err, Result, Bool, true, false, nat_eq, refl, sym, ap, ◌∙◌, subst, arith, add-one, append_assoc}
use Rattle.std.specs.Prelude.{nat_le}
use Rattle.std.proofs.Math.Nat.{mul-le-mul_right}
use Rattle.std.proofs.lemmas.Bool.{eqb-true, eq-eqb, ne_eqb}
use Rattle.std.proofs.lemmas.List.{append-nil, take_all}
use Rattle.fut_scalar.specs.declared.place.Place.{Place}
use Rattle.fut_scalar.specs.declared.report.FailKind.TheVariants as kind
use Rattle.fut_flat.specs.declared.prim.Primitive.TheVariants as prim
use Rattle.fut_value.specs.Data.{Shape, Array_shape, Unmet_shape, Datum, Array_datum, datums, weight, shape_of, array_words}
use Rattle.fut_meaning.specs.Arrays.{rows_of, each_out, array_of, all_fresh, inner, size, most_words, checked, fresh, shared}
use Rattle.fut_meaning.specs.Jobs.{Job, Done, done, job, joined, inner_rows, crossed, grouped, part_at, transposed, unflattened}
use Rattle.fut_meaning.specs.Outcomes.{Out, Val, Fail, Wrong, and_then}
use Rattle.array_data.specs.declared.form.Form.{Form}
use Rattle.array_data.specs.declared.form.Form.TheVariants as form
use Rattle.array_data.specs.declared.data.Data.{Data}
use Rattle.array_data.specs.declared.data.Data.TheVariants as hold
use Rattle.array_data.specs.declared.sizes.Exact.{Exact}
use Rattle.array_data.specs.declared.sizes.Exact.TheVariants as exact
use Rattle.array_data.specs.declared.stop.Stop.{Stop}
use Rattle.array_data.specs.declared.stop.Stop.TheVariants.{Failed}
use Rattle.array_data.specs.Answers.{Tells, Counts, counts, no_array, Row_is, row_is, no_memory_row, Added, added, not_added, All_added, all_added, not_all_added, Exact_is, exact_held, and_row, each_at, Does, does, does_fail, does_memory, does_lost}
use Rattle.array_data.specs.Held.{shape_held, held, held_all, rows_in, row_shape_in}
use Rattle.array_primitives.specs.Nested.{Column_of}
use Rattle.array_primitives.proofs.Columning.{each_more}
use Rattle.array_data.proofs.Forms.{map_push, listed_datums, held_length}
use Rattle.array_data.proofs.Holding.{held_rows, form_array}
use Rattle.array_data.proofs.Jobbing.{rows_stop, rows_go, exact_stop, exact_go, rows_counted, done_fresh, all_there, array_told}
use Rattle.array_primitives.proofs.Joining.{all_within}
use Rattle.array_data.proofs.RowsRead.{get_held}
use Rattle.array_data.proofs.Tupling.{taken_more}

-- ---- weights

pub light_is : (w k h : Form) (n : ℕ) (b : Bool) → k ≡ h → w ≡ form.Array n k → b ≡ nat_le (weight (shape_held w)) most_words → b ≡ nat_le (weight (Array_shape n (shape_held h))) most_words
light_is w k h n b e q p = p ∙ ap (λ z. nat_le (weight z) most_words) (ap shape_held q ∙ form_array n k ∙ ap (λ z. Array_shape n (shape_held z)) e)

pub ruleset light_arrays = (light_is)

-- ---- one outcome more

module _ {A B : Type 0} (f : A → B) where
  one_more : (o : Out A) (p q : Out (List B)) (ys : List B) (y : B) → ((zs : List B) → p ≡ Val zs → q ≡ Val (zs ++ y ∷ [])) → and_then o (λ b. and_then p (λ bs. Val (f b ∷ bs))) ≡ Val ys → and_then o (λ b. and_then q (λ bs. Val (f b ∷ bs))) ≡ Val (ys ++ y ∷ [])
  one_more (Val b) (Val zs) q ys y k e = let x : f b ∷ zs ≡ ys = cc in ap (λ z. and_then z (λ bs. Val (f b ∷ bs))) (k zs refl) ∙ ap (λ z. Val (z ++ y ∷ [])) x
  one_more (Val b) (Fail r) q ys y k e = cc
  one_more (Val b) Wrong q ys y k e = cc
  one_more (Fail r) p q ys y k e = cc
  one_more Wrong p q ys y k e = cc

pub each_out_more : {A B : Type 0} (g : A → Out B) (xs : List A) (x : A) (ys : List B) (y : B) → each_out g xs ≡ Val ys → g x ≡ Val y → each_out g (xs ++ x ∷ []) ≡ Val (ys ++ y ∷ [])
each_out_more g [] x ys y e q = let p : [] ≡ ys = cc in ap (λ z. and_then z (λ y. and_then (Val []) (λ ys. Val (y ∷ ys)))) q ∙ ap (λ z. Val (z ++ y ∷ [])) p
each_out_more g (z ∷ xs) x ys y e q = one_more (λ b. b) (g z) (each_out g xs) (each_out g (xs ++ x ∷ [])) ys y (λ zs p. each_out_more g xs x zs y p q) e

-- ---- rows that are arrays

unfoldable pub Arrays_to : List Data → ℕ → Type 0
Arrays_to ds i = inner_rows (held_all (take i ds)) ≡ Val (map rows_in (held_all (take i ds)))

inner_is : (d : Datum) (n : ℕ) → Counts d (Ok n) → and_then (rows_of d) (λ r. Val r.1) ≡ Val (rows_in d)
inner_is d n (counts q p) = ap (λ z. and_then z (λ r. Val r.1)) q

module _ (ds : List Data) where
  pub arrays_start : Arrays_to ds 0
  unfolding Arrays_to held_all
  arrays_start = refl

  pub arrays_more : (i n : ℕ) (d : Data) → i < length ds → Arrays_to ds i → Counts (held (get_or ds i d)) (Ok n) → Arrays_to ds (i + 1)
  unfolding Arrays_to
  arrays_more i n d l h g = subst (λ z. inner_rows (held_all (take z ds)) ≡ Val (map rows_in (held_all (take z ds)))) (sym (add-one i))
      (subst (λ z. inner_rows z ≡ Val (map rows_in z)) (sym (taken_more ds i d l))
      (each_out_more (λ d. and_then (rows_of d) (λ r. Val r.1)) (held_all (take i ds)) (held (get_or ds i d)) (map rows_in (held_all (take i ds))) (rows_in (held (get_or ds i d))) h (inner_is (held (get_or ds i d)) n g)
      ∙ ap Val (sym (map_push rows_in (held_all (take i ds)) (held (get_or ds i d))))))

  pub arrays_end : (i : ℕ) → length ds ≤ i → Arrays_to ds i → inner_rows (held_all ds) ≡ Val (map rows_in (held_all ds))
  unfolding Arrays_to
  arrays_end i l h = subst (λ z. inner_rows (held_all z) ≡ Val (map rows_in (held_all z))) (take_all i ds l) h

pub ruleset arrays = (arrays_start, arrays_more, arrays_end)

-- ---- rows of rows

unfoldable pub Joined_to : List Data → ℕ → List Datum → Type 0
Joined_to ds i s = s ≡ joined (map rows_in (held_all (take i ds)))

joined_push : (xss : List (List Datum)) (xs : List Datum) → joined (xss ++ xs ∷ []) ≡ joined xss ++ xs
joined_push [] xs = append-nil xs
joined_push (ys ∷ xss) xs = ap (λ z. ys ++ z) (joined_push xss xs) ∙ sym (append_assoc ys (joined xss) xs)

module _ (ds : List Data) where
  pub joined_start : (s : List Datum) → s ≡ [] → Joined_to ds 0 s
  unfolding Joined_to held_all
  joined_start s e = e

  pub joined_more : (i n : ℕ) (d : Data) (s s' : List Datum) → i < length ds → Joined_to ds i s → Counts (held (get_or ds i d)) (Ok n) → All_added (take n (drop 0 (rows_in (held (get_or ds i d))))) s s' (Ok tt) → Joined_to ds (i + 1) s'
  unfolding Joined_to
  joined_more i n d s s' l h g (all_added a) =
      a ∙ ap (λ z. z ++ take n (rows_in (held (get_or ds i d)))) h ∙ ap (λ z. joined (map rows_in (held_all (take i ds))) ++ z) (take_all n (rows_in (held (get_or ds i d))) (let q : n ≡ length (rows_in (held (get_or ds i d))) = rows_counted (held (get_or ds i d)) n g in omega arith))
      ∙ sym (joined_push (map rows_in (held_all (take i ds))) (rows_in (held (get_or ds i d)))) ∙ ap joined (sym (map_push rows_in (held_all (take i ds)) (held (get_or ds i d))) ∙ ap (map rows_in) (sym (taken_more ds i d l)))
      ∙ ap (λ z. joined (map rows_in (held_all (take z ds)))) (sym (add-one i))

  pub joined_end : (i : ℕ) (s : List Datum) → length ds ≤ i → Joined_to ds i s → s ≡ joined (map rows_in (held_all ds))
  unfolding Joined_to
  joined_end i s l h = h ∙ ap (λ z. joined (map rows_in (held_all z))) (take_all i ds l)

pub ruleset joins = (joined_start, joined_more, joined_end, all_within)

rows_known : (d : Data) (n : ℕ) (h : Form) (ds : List Data) → d ≡ hold.Rows n h ds → rows_of (held d) ≡ Val (shape_held h, held_all ds)
rows_known d n h ds e = ap rows_of (ap held e ∙ held_rows n h ds) ∙ ap (λ z. Val (shape_held h, z)) (listed_datums (held_all ds))

module _ (at : Place) (d : Data) (n : ℕ) (h : Form) (ds : List Data) (e : d ≡ hold.Rows n h ds) (k : Form) (q : k ≡ h) (xs : List Data) (p : xs ≡ ds) (w : inner_rows (held_all xs) ≡ Val (map rows_in (held_all xs))) where
  pub flatten_done : (g : Form) (s : List Datum) (r : Result Datum Stop) → shape_held g ≡ inner (shape_held k) → s ≡ joined (map rows_in (held_all xs)) → Tells (array_of at (shape_held g) s) r → Does (job false Unmet_shape prim.Flatten at (held d ∷ [])) r
  unfolding job
  flatten_done g s r x y t = subst (λ z. Does z r) (sym flat) (done_fresh (array_of at (inner (shape_held h)) (joined (map rows_in (held_all xs)))) r
      (array_told at (shape_held g) (inner (shape_held h)) s (joined (map rows_in (held_all xs))) r (x ∙ ap (λ z. inner (shape_held z)) q) y t))
    where
      flat : job false Unmet_shape prim.Flatten at (held d ∷ []) ≡ done (all_fresh (array_of at (inner (shape_held h)) (joined (map rows_in (held_all xs)))))
      flat = ap (λ z. and_then z (λ r. and_then (inner_rows r.1) (λ dss. done (all_fresh (array_of at (inner r.0) (joined dss)))))) (rows_known d n h ds e)
          ∙ ap (λ z. and_then (inner_rows (held_all z)) (λ dss. done (all_fresh (array_of at (inner (shape_held h)) (joined dss))))) (sym p)
          ∙ ap (λ z. and_then z (λ dss. done (all_fresh (array_of at (inner (shape_held h)) (joined dss))))) w

pub ruleset flattenings = (flatten_done, does_memory)

-- ---- columns

unfoldable pub Elements_to : List Data → ℕ → ℕ → List Datum → Type 0
Elements_to ds at i s = each_at at (take i (held_all ds)) ≡ Some s

module _ (ds : List Data) (at : ℕ) where
  pub elements_start : (s : List Datum) → s ≡ [] → Elements_to ds at 0 s
  unfolding Elements_to
  elements_start s e = ap Some (sym e)

  pub elements_more : (i : ℕ) (d : Data) (v : Datum) (s s' : List Datum) → i < length ds → Elements_to ds at i s → Row_is (held (get_or ds i d)) at (Ok v) → Added v s s' (Ok tt) → Elements_to ds at (i + 1) s'
  unfolding Elements_to
  elements_more i d v s s' l h (row_is k) (added a) = ap (λ z. each_at at (take z (held_all ds))) (add-one i) ∙ each_more (held_all ds) at i (held (get_or ds i d)) v s (get_held ds i d l) k h ∙ ap Some (sym a)

  pub elements_end : (i : ℕ) (s : List Datum) → length ds ≤ i → Elements_to ds at i s → each_at at (held_all ds) ≡ Some s
  unfolding Elements_to
  elements_end i s l h = ap (each_at at) (sym (take_all i (held_all ds) (omega (arith, held_length ds)))) ∙ h

pub ruleset elements = (elements_start, elements_more, elements_end)

pub column_is : (h k : Form) (at : ℕ) (ds s : List Datum) (v : Datum) → each_at at ds ≡ Some s → k ≡ h → v ≡ Array_datum (shape_held k) (datums s) → Column_of (shape_held h) at ds v
unfolding Column_of
column_is h k at ds s v e q p = (s, e, p ∙ ap (λ z. Array_datum (shape_held z) (datums s)) q)

pub ruleset column_made = (column_is)

-- ---- all columns

pub get_part : (xs : List Datum) (k : ℕ) (e : Datum) → slice_get xs k ≡ Some e → part_at k xs ≡ Val e
get_part [] k e h = cc
get_part (x ∷ xs) zero e h = let q : x ≡ e = cc in ap Val q
get_part (x ∷ xs) (suc k) e h = get_part xs k e h

row_got : (o : Option Datum) (q : Option (List Datum)) (p : Out Datum) (r : Out (List Datum)) (es : List Datum) → ((e : Datum) → o ≡ Some e → p ≡ Val e) → ((fs : List Datum) → q ≡ Some fs → r ≡ Val fs) → and_row o q ≡ Some es → and_then p (λ y. and_then r (λ ys. Val (y ∷ ys))) ≡ Val es
row_got None q p r es k m h = cc
row_got (Some e) None p r es k m h = cc
row_got (Some e) (Some fs) p r es k m h = let x : e ∷ fs ≡ es = cc in ap (λ z. and_then z (λ y. and_then r (λ ys. Val (y ∷ ys)))) (k e refl) ∙ ap (λ z. and_then z (λ ys. Val (e ∷ ys))) (m fs refl) ∙ ap Val x

column_got : (ds : List Datum) (k : ℕ) (es : List Datum) → each_at k ds ≡ Some es → each_out (part_at k) (map rows_in ds) ≡ Val es
column_got [] k es h = let x : [] ≡ es = cc in ap Val x
column_got (d ∷ ds) k es h = row_got (slice_get (rows_in d) k) (each_at k ds) (part_at k (rows_in d)) (each_out (part_at k) (map rows_in ds)) es (get_part (rows_in d) k) (λ fs e. column_got ds k fs e) h

crossed_more : (h : Shape) (m k : ℕ) (rs : List (List Datum)) (es ds : List Datum) → crossed h m k rs ≡ Val es → each_out (part_at (k + m)) rs ≡ Val ds → crossed h (suc m) k rs ≡ Val (es ++ Array_datum h (datums ds) ∷ [])
crossed_more h zero k rs es ds e q =
    let p : [] ≡ es = cc in
    let x : k + 0 ≡ k = omega arith in
    ap (λ z. and_then z (λ ds. and_then (Val []) (λ es. Val (Array_datum h (datums ds) ∷ es)))) (ap (λ z. each_out (part_at z) rs) (sym x) ∙ q) ∙ ap (λ z. Val (z ++ Array_datum h (datums ds) ∷ [])) p
crossed_more h (suc m) k rs es ds e q =
    one_more (λ ds. Array_datum h (datums ds)) (each_out (part_at k) rs) (crossed h m (suc k) rs) (crossed h (suc m) (suc k) rs) es (Array_datum h (datums ds))
    (λ zs p. crossed_more h m (suc k) rs zs ds p (ap (λ z. each_out (part_at z) rs) (let x : suc k + m ≡ k + suc m = omega arith in x) ∙ q)) e

unfoldable pub Crossed_to : Shape → List Datum → ℕ → List Datum → Type 0
Crossed_to h ds i s = crossed h i 0 (map rows_in ds) ≡ Val s

module _ (h : Shape) (ds : List Datum) where
  pub crossed_start : (s : List Datum) → s ≡ [] → Crossed_to h ds 0 s
  unfolding Crossed_to
  crossed_start s e = ap Val (sym e)

  pub crossed_one : (i : ℕ) (v : Datum) (s s' : List Datum) → Crossed_to h ds i s → Column_of h i ds v → Added v s s' (Ok tt) → Crossed_to h ds (i + 1) s'
  unfolding Crossed_to Column_of
  crossed_one i v s s' c (es, q, p) (added a) =
      ap (λ z. crossed h z 0 (map rows_in ds)) (add-one i) ∙ crossed_more h i 0 (map rows_in ds) s es c (ap (λ z. each_out (part_at z) (map rows_in ds)) (let x : 0 + i ≡ i = omega arith in x) ∙ column_got ds i es q)
      ∙ ap (λ z. Val (s ++ z ∷ [])) (sym p) ∙ ap Val (sym a)

  pub crossed_end : (i n : ℕ) (s : List Datum) → n ≤ i → i ≤ n → Crossed_to h ds i s → crossed h n 0 (map rows_in ds) ≡ Val s
  unfolding Crossed_to
  crossed_end i n s l m c = let q : n ≡ i = omega arith in ap (λ z. crossed h z 0 (map rows_in ds)) q ∙ c

pub ruleset crossings = (crossed_start, crossed_one, crossed_end)

-- ---- transposed

module _ (at : Place) (h : Form) (ds : List Data) (w : inner_rows (held_all ds) ≡ Val (map rows_in (held_all ds))) (n : ℕ) (e : n ≡ size (shape_held h)) (g k : Form) (q : shape_held g ≡ inner (shape_held h)) (p : k ≡ g) (m : ℕ) (y : m ≡ length ds) (c : Form) (x : c ≡ form.Array m k) (b : Bool) (t : b ≡ nat_le (weight (Array_shape n (shape_held c))) most_words) where
  column_shape : shape_held c ≡ Array_shape (length (held_all ds)) (inner (shape_held h))
  column_shape = ap shape_held x ∙ form_array m k ∙ ap (λ z. Array_shape z (shape_held k)) (y ∙ sym (held_length ds)) ∙ ap (Array_shape (length (held_all ds))) (ap shape_held p ∙ q)

  abbrev crossed_rows : Out Job
  crossed_rows = and_then (inner_rows (held_all ds)) (λ dss. and_then (crossed (inner (shape_held h)) (size (shape_held h)) 0 dss) (λ es. done (shared (Array_datum (Array_shape (length (held_all ds)) (inner (shape_held h))) (datums es)))))

  tested : transposed at (shape_held h, held_all ds) ≡ checked b kind.TooLarge at crossed_rows
  tested = ap (λ z. checked z kind.TooLarge at crossed_rows) (sym (t ∙ ap (λ z. nat_le (weight (Array_shape z (shape_held c))) most_words) e ∙ ap (λ z. nat_le (weight (Array_shape (size (shape_held h)) z)) most_words) column_shape))

  pub transpose_heavy : b ≡ false → (v : Stop) → v ≡ Failed (record { kind = kind.TooLarge; place = at }) → Does (transposed at (shape_held h, held_all ds)) (Err v)
  transpose_heavy l v u = subst (λ z. Does (transposed at (shape_held h, held_all ds)) (Err z)) (sym u) (does_fail (tested ∙ ap (λ z. checked z kind.TooLarge at crossed_rows) l))

  pub transpose_done : b ≡ true → (i : ℕ) (s : List Datum) (v : Datum) → i ≡ n → crossed (shape_held g) i 0 (map rows_in (held_all ds)) ≡ Val s → v ≡ Array_datum (shape_held c) (datums s) → Does (transposed at (shape_held h, held_all ds)) (Ok v)
  transpose_done l i s v j u a = does {c = 0} {d = v} (tested ∙ ap (λ z. checked z kind.TooLarge at crossed_rows) l
      ∙ ap (λ z. and_then z (λ dss. and_then (crossed (inner (shape_held h)) (size (shape_held h)) 0 dss) (λ es. done (shared (Array_datum (Array_shape (length (held_all ds)) (inner (shape_held h))) (datums es)))))) w
      ∙ ap (λ z. and_then z (λ es. done (shared (Array_datum (Array_shape (length (held_all ds)) (inner (shape_held h))) (datums es))))) (ap (λ z. crossed z (size (shape_held h)) 0 (map rows_in (held_all ds))) (sym q) ∙ ap (λ z. crossed (shape_held g) z 0 (map rows_in (held_all ds))) (sym (j ∙ e)) ∙ u)
      ∙ ap (λ z. done (shared (Array_datum z (datums s)))) (sym column_shape) ∙ ap (λ z. done (shared z)) (sym a))

pub ruleset columns_done = (does_memory)

pub transpose_rows : (at : Place) (d : Data) (n : ℕ) (h : Form) (ds : List Data) (k : Form) (xs : List Data) (r : Result Datum Stop) → d ≡ hold.Rows n h ds → k ≡ h → xs ≡ ds → Does (transposed at (shape_held k, held_all xs)) r → Does (job false Unmet_shape prim.Transpose at (held d ∷ [])) r
unfolding job
transpose_rows at d n h ds k xs r e q p t = subst (λ z. Does z r) (sym (ap (λ z. and_then z (transposed at)) (rows_known d n h ds e) ∙ ap (λ z. transposed at (shape_held z, held_all ds)) (sym q) ∙ ap (λ z. transposed at (shape_held k, held_all z)) (sym p))) t

pub ruleset transposings = (transpose_rows, does_memory)

-- ---- groups

pub group_is : (h k : Form) (xs s s' : List Datum) (v : Datum) → s ≡ [] → All_added xs s s' (Ok tt) → k ≡ h → v ≡ Array_datum (shape_held k) (datums s') → v ≡ Array_datum (shape_held h) (datums xs)
group_is h k xs s s' v e a q p = p ∙ ap (λ z. Array_datum (shape_held z) (datums s')) q ∙ ap (λ z. Array_datum (shape_held h) (datums z)) (all_there xs s s' e a)

pub ruleset group_made = (group_is)

drop_none : {A : Type 0} (n : ℕ) → drop {A = A} n [] ≡ []
drop_none zero = refl
drop_none (suc n) = refl

drop_on : {A : Type 0} (xs : List A) (m n : ℕ) → drop n (drop m xs) ≡ drop (m + n) xs
drop_on xs zero n = let e : n ≡ zero + n = omega arith in ap (λ z. drop z xs) e
drop_on [] (suc m) n = drop_none n ∙ sym (drop_none (suc m + n))
drop_on (x ∷ xs) (suc m) n = let e : suc (m + n) ≡ suc m + n = omega arith in drop_on xs m n ∙ ap (λ z. drop z (x ∷ xs)) e

grouped_more : (h : Shape) (i long : ℕ) (xs : List Datum) → grouped h (suc i) long xs ≡ grouped h i long xs ++ Array_datum h (datums (take long (drop (i * long) xs))) ∷ []
grouped_more h zero long xs = let e : 0 ≡ zero * long = omega arith in ap (λ z. Array_datum h (datums (take long (drop z xs))) ∷ []) e
grouped_more h (suc i) long xs = let e : long + i * long ≡ suc i * long = omega arith in
    ap (λ z. Array_datum h (datums (take long xs)) ∷ z) (grouped_more h i long (drop long xs) ∙ ap (λ z. grouped h i long (drop long xs) ++ Array_datum h (datums (take long z)) ∷ []) (drop_on xs long (i * long) ∙ ap (λ z. drop z xs) e))

unfoldable pub Grouped_to : Shape → ℕ → List Datum → ℕ → List Datum → Type 0
Grouped_to h long xs i s = s ≡ grouped h i long xs

module _ (h : Shape) (long : ℕ) (xs : List Datum) where
  pub grouped_start : (s : List Datum) → s ≡ [] → Grouped_to h long xs 0 s
  unfolding Grouped_to
  grouped_start s e = e

  pub grouped_one : (i j : ℕ) (v : Datum) (s s' : List Datum) → Grouped_to h long xs i s → j ≡ i * long → v ≡ Array_datum h (datums (take long (drop j xs))) → Added v s s' (Ok tt) → Grouped_to h long xs (i + 1) s'
  unfolding Grouped_to
  grouped_one i j v s s' g e p (added a) = a ∙ ap (λ z. z ++ v ∷ []) g ∙ ap (λ z. grouped h i long xs ++ z ∷ []) (p ∙ ap (λ z. Array_datum h (datums (take long (drop z xs)))) e) ∙ sym (grouped_more h i long xs) ∙ ap (λ z. grouped h z long xs) (sym (add-one i))

  pub grouped_end : (i n : ℕ) (s : List Datum) → n ≤ i → i ≤ n → Grouped_to h long xs i s → s ≡ grouped h n long xs
  unfolding Grouped_to
  grouped_end i n s l m g = let q : i ≡ n = omega arith in g ∙ ap (λ z. grouped h z long xs) q

  pub group_there : (i j n : ℕ) → i < n → j ≡ i * long → n * long ≤ length xs → j + long ≤ length xs
  group_there i j n l e m = let q : i * long + long ≡ suc i * long = omega arith in let p : suc i * long ≤ n * long = mul-le-mul_right {m = suc i} {n = n} long l in omega arith

pub ruleset groupings = (grouped_start, grouped_one, grouped_end, group_there)

module _ (at : Place) (d : Datum) (i j : ℕ) (g k c : Form) (q : shape_held g ≡ row_shape_in d) (p : k ≡ g) (x : c ≡ form.Array j k) (b : Bool) (t : b ≡ nat_le (weight (Array_shape i (shape_held c))) most_words) where
  group_shape : shape_held c ≡ Array_shape j (row_shape_in d)
  group_shape = ap shape_held x ∙ form_array j k ∙ ap (Array_shape j) (ap shape_held p ∙ q)

  abbrev all_groups : Out Job
  all_groups = done (fresh (Array_datum (Array_shape j (row_shape_in d)) (datums (grouped (row_shape_in d) i j (rows_in d)))))

  weighed : unflattened at i j (row_shape_in d, rows_in d) ≡ checked b kind.TooLarge at all_groups
  weighed = ap (λ z. checked z kind.TooLarge at all_groups) (sym (t ∙ ap (λ z. nat_le (weight (Array_shape i z)) most_words) group_shape))

  pub groups_heavy : b ≡ false → (v : Stop) → v ≡ Failed (record { kind = kind.TooLarge; place = at }) → Does (unflattened at i j (row_shape_in d, rows_in d)) (Err v)
  groups_heavy l v u = subst (λ z. Does (unflattened at i j (row_shape_in d, rows_in d)) (Err z)) (sym u) (does_fail (weighed ∙ ap (λ z. checked z kind.TooLarge at all_groups) l))

  pub groups_told : b ≡ true → (i' j' : ℕ) (s : List Datum) (v : Datum) → i' ≡ i → j' ≡ j → s ≡ grouped (shape_held g) i' j' (rows_in d) → v ≡ Array_datum (shape_held c) (datums s) → Does (unflattened at i j (row_shape_in d, rows_in d)) (Ok v)
  groups_told l i' j' s v y w u a = does {c = array_words (shape_of (Array_datum (Array_shape j (row_shape_in d)) (datums (grouped (row_shape_in d) i j (rows_in d)))))} {d = v} (weighed ∙ ap (λ z. checked z kind.TooLarge at all_groups) l
      ∙ ap (λ z. Val (Done (array_words (shape_of (Array_datum (Array_shape j (row_shape_in d)) (datums (grouped (row_shape_in d) i j (rows_in d))))), z)))
      (sym (a ∙ ap (λ z. Array_datum z (datums s)) group_shape ∙ ap (λ z. Array_datum (Array_shape j (row_shape_in d)) (datums z))
      (u ∙ ap (λ z. grouped z i' j' (rows_in d)) q ∙ ap (λ z. grouped (row_shape_in d) z j' (rows_in d)) y ∙ ap (λ z. grouped (row_shape_in d) i z (rows_in d)) w))))

-- in words of other numbers that are the same
pub groups_within : (i j i' j' n : ℕ) → i' ≡ i → j' ≡ j → i * j ≡ n → i' * j' ≤ n
groups_within i j i' j' n e q p = let x : i' * j' ≡ n = ap (λ z. z * j') e ∙ ap (λ z. i * z) q ∙ p in omega arith

pub ruleset groups_done = (groups_within, does_memory)

pub product_same : (a b n p : ℕ) → p ≡ a * b → p ≡ n → true ≡ nat_eq (a * b) n
product_same a b n p e q = sym (eq-eqb (a * b) n (sym e ∙ q))

pub product_other : (a b n p : ℕ) → p ≡ a * b → (p ≡ n → ⊥) → false ≡ nat_eq (a * b) n
product_other a b n p e q = sym (ne_eqb (a * b) n (λ x. q (e ∙ x)))

pub product_beyond : (a b n : ℕ) → 2 ^ 64 ≤ a * b → n < 2 ^ 64 → false ≡ nat_eq (a * b) n
product_beyond a b n l m = sym (ne_eqb (a * b) n (λ x. absurd (omega arith)))

pub ruleset products = (product_same, product_other, product_beyond)

module _ (at : Place) (n m d : Datum) where
  pub unflatten_no_first : (e : Stop) → Exact_is n (Err e) → Does (job false Unmet_shape prim.Unflatten at (n ∷ m ∷ d ∷ [])) (Err e)
  unfolding job
  unflatten_no_first e h = exact_stop n _ e h

  pub unflatten_no_second : (z : Exact) (e : Stop) → Exact_is n (Ok z) → Exact_is m (Err e) → Does (job false Unmet_shape prim.Unflatten at (n ∷ m ∷ d ∷ [])) (Err e)
  unfolding job
  unflatten_no_second z e h k = exact_go n _ z (Err e) h (exact_stop m _ e k)

  pub unflatten_no_rows : (z w : Exact) (e : Stop) → Exact_is n (Ok z) → Exact_is m (Ok w) → Counts d (Err e) → Does (job false Unmet_shape prim.Unflatten at (n ∷ m ∷ d ∷ [])) (Err e)
  unfolding job
  unflatten_no_rows z w e h k g = exact_go n _ z (Err e) h (exact_go m _ w (Err e) k (rows_stop d _ e g))

  pub unflatten_first_below : (z w : Exact) (c i : ℕ) → Exact_is n (Ok z) → Exact_is m (Ok w) → Counts d (Ok c) → z ≡ exact.Below i → Does (job false Unmet_shape prim.Unflatten at (n ∷ m ∷ d ∷ [])) (Err (Failed (record { kind = kind.Range; place = at })))
  unfolding job exact_held
  unflatten_first_below z w c i h k g e = exact_go n _ (exact.Below i) _ (subst (λ z. Exact_is n (Ok z)) e h) (exact_go m _ w _ k (rows_go d _ c _ g (does_fail refl)))

  pub unflatten_second_below : (z w : Exact) (c i j : ℕ) → Exact_is n (Ok z) → Exact_is m (Ok w) → Counts d (Ok c) → z ≡ exact.Natural i → w ≡ exact.Below j → Does (job false Unmet_shape prim.Unflatten at (n ∷ m ∷ d ∷ [])) (Err (Failed (record { kind = kind.Range; place = at })))
  unfolding job exact_held
  unflatten_second_below z w c i j h k g e q = exact_go n _ (exact.Natural i) _ (subst (λ z. Exact_is n (Ok z)) e h) (exact_go m _ (exact.Below j) _ (subst (λ z. Exact_is m (Ok z)) q k) (rows_go d _ c _ g (does_fail refl)))

  module _ (z w : Exact) (c i j : ℕ) (h : Exact_is n (Ok z)) (k : Exact_is m (Ok w)) (g : Counts d (Ok c)) (e : z ≡ exact.Natural i) (q : w ≡ exact.Natural j) where
    pub unflatten_misfits : (b : Bool) → b ≡ nat_eq (i * j) c → b ≡ false → Does (job false Unmet_shape prim.Unflatten at (n ∷ m ∷ d ∷ [])) (Err (Failed (record { kind = kind.Size; place = at })))
    unfolding job exact_held
    unflatten_misfits b p l = exact_go n _ (exact.Natural i) _ (subst (λ z. Exact_is n (Ok z)) e h) (exact_go m _ (exact.Natural j) _ (subst (λ z. Exact_is m (Ok z)) q k) (rows_go d _ c _ g
        (does_fail (ap (λ z. checked z kind.Size at (unflattened at i j (row_shape_in d, rows_in d))) (sym (p ∙ ap (nat_eq (i * j)) (rows_counted d c g)) ∙ l)))))

    pub unflatten_done : (b : Bool) (r : Result Datum Stop) → b ≡ nat_eq (i * j) c → b ≡ true → Does (unflattened at i j (row_shape_in d, rows_in d)) r → Does (job false Unmet_shape prim.Unflatten at (n ∷ m ∷ d ∷ [])) r
    unfolding job exact_held
    unflatten_done b r p l t = exact_go n _ (exact.Natural i) r (subst (λ z. Exact_is n (Ok z)) e h) (exact_go m _ (exact.Natural j) r (subst (λ z. Exact_is m (Ok z)) q k) (rows_go d _ c r g
        (subst (λ z. Does (checked z kind.Size at (unflattened at i j (row_shape_in d, rows_in d))) r) (sym (sym (p ∙ ap (nat_eq (i * j)) (rows_counted d c g)) ∙ l)) t)))

    pub unflatten_fits : (b : Bool) → b ≡ nat_eq (i * j) c → b ≡ true → i * j ≡ length (rows_in d)
    unflatten_fits b p l = eqb-true (i * j) c (sym p ∙ l) ∙ rows_counted d c g

pub ruleset unflattenings = (unflatten_no_first, unflatten_no_second, unflatten_no_rows, unflatten_first_below, unflatten_second_below, unflatten_misfits, unflatten_done, unflatten_fits)
