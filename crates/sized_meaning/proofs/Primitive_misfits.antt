-- Primitives on data of the shapes that they take do the same whether what does not fit is reported or goes wrong.
use Rattle.sized_meaning.specs.There.{There, anywhere}
use Rattle.std.specs.Prelude.{ℤ, pos, negsuc, ◌&&◌, map, ◌++◌}
use Rattle.std.proofs.Common.{◌≡◌, ℕ, zero, suc, ◌+◌, List, [], ◌∷◌, length, Bool, true, false, cond, nat_eq, refl, sym, ap, ◌∙◌, subst, eq-eqb, arith}
use Rattle.fut_scalar.specs.declared.place.Place.{Place}
use Rattle.fut_flat.specs.declared.prim.Primitive.{Primitive}
use Rattle.fut_flat.specs.declared.prim.Primitive.TheVariants as prim
use Rattle.fut_primitives.specs.declared.written.Letter.{Letter}
use Rattle.fut_primitives.specs.declared.written.Letter.TheVariants as letter
use Rattle.fut_primitives.specs.declared.written.Size.{Size as Length}
use Rattle.fut_primitives.specs.declared.written.Size.TheVariants as length_of
use Rattle.fut_primitives.specs.Table.{written, own_of, from_of}
use Rattle.fut_value.specs.Data.{Shape, Scalar_shape, Tuple_shape, Record_shape, Array_shape, Unmet_shape, Datum, Scalar_datum, Tuple_datum, Record_datum, Array_datum, datums, listed, shape_of, array_words}
use Rattle.fut_meaning.specs.Arrays.{array, array_of, rows_of, each_out, exact_of, Rows, Counted, fresh, shared, all_fresh, all_like}
use Rattle.fut_meaning.specs.Datums.{as_value}
use Rattle.fut_meaning.specs.Flats.{FlatValue}
use Rattle.fut_meaning.specs.Jobs.{Job, Apply_each, Reduce_each, Choose_each, Applied, Reduces, all_of, finished, job_means, job, done, on_rows, size_of, same_size, rows_agree, shown_to_agree, fitting_rows, fitting_neutral, either_row, columns, beside, alone, array_of_results, array_of_indices, mapped, tupled, zipped, writes, written as written_rows, scattered, places, in_place_of, histogram, reduced, scanned, prefixes_on, numbers_from, sized, i64_shape, part_at, concatenated}
use Rattle.fut_meaning.specs.Meaning.{unrestricted}
use Rattle.fut_meaning.specs.Outcomes.{Out, Val, Fail, Wrong, and_then, Rel, gives, the, Exactly, exact, Then, goes_on, stops, sticks, each_of}
use Rattle.fut_meaning.proofs.Safe.{Every}
use Rattle.sized_meaning.specs.Shapes.{Whole}
use Rattle.sized_meaning.specs.Fits.{Gives}
use Rattle.sized_meaning.specs.Misfits.{Of_shape, Of_shapes, All_of_shape, data_taken, Function_fits, Same_outcomes, applies, NoPrimitiveMisfits}
use Rattle.sized_meaning.proofs.Datas.{the_value}
use Rattle.sized_meaning.proofs.Mapping.{gives_each}
use Rattle.sized_meaning.proofs.Misfits.{both_hold, same_self, fits_here, like_all, array_same, whole_rows, shown_same}
use Rattle.sized_meaning.proofs.Reducing.{gives_all_of, gives_reduced, every_prefix}
use Rattle.sized_meaning.proofs.Scattering.{every_place, every_writes}

-- ---- the same outcomes

pub same_rel : {A : Type 0} (m : Rel A) → Same_outcomes m m
same_rel m o f = ((λ x. x), (λ x. x))

turned : {A : Type 0} (m k : Rel A) → Same_outcomes m k → Same_outcomes k m
turned m k s o f = ((s o f).1, (s o f).0)

and_same : {A : Type 0} (m k l : Rel A) → Same_outcomes m k → Same_outcomes k l → Same_outcomes m l
and_same m k l s t o f = ((λ x. (t o f).0 ((s o f).0 x)), (λ x. (s o f).1 ((t o f).1 x)))

module _ {A B : Type 0} (P : A → Type 0) (m : Rel A) (k l : A → Rel B) (h : Gives (There anywhere) P m) (go : (a : A) → P a → (o : Out B) (f : ℕ) → k a o f → l a o f) where
  goes_over : (o : Out B) (f : ℕ) → Then m k o f → Then m l o f
  goes_over _ _ (goes_on {a} {o} {f} {g} x y) = goes_on x (go a (h (Val a) f x) o g y)
  goes_over _ _ (stops {r} {f} x) = stops x
  goes_over _ _ (sticks {f} x) = sticks x

-- behind what has a property
same_behind : {A B : Type 0} (P : A → Type 0) (m : Rel A) (k l : A → Rel B) → Gives (There anywhere) P m → ((a : A) → P a → Same_outcomes (k a) (l a)) → Same_outcomes (Then m k) (Then m l)
same_behind P m k l h go o f = ((λ x. goes_over P m k l h (λ a p o f y. (go a p o f).0 y) o f x), (λ x. goes_over P m l k h (λ a p o f y. (go a p o f).1 y) o f x))

-- in front of what is done then
module _ {A B : Type 0} (m n : Rel A) (k : A → Rel B) (s : Same_outcomes m n) where
  goes_first : (o : Out B) (f : ℕ) → Then m k o f → Then n k o f
  goes_first _ _ (goes_on {a} {o} {f} {g} x y) = goes_on ((s (Val a) f).0 x) y
  goes_first _ _ (stops {r} {f} x) = stops ((s (Fail r) f).0 x)
  goes_first _ _ (sticks {f} x) = sticks ((s Wrong f).0 x)

same_first : {A B : Type 0} (m n : Rel A) (k : A → Rel B) → Same_outcomes m n → Same_outcomes (Then m k) (Then n k)
same_first m n k s o f = ((λ x. goes_first m n k s o f x), (λ x. goes_first n m k (turned m n s) o f x))

none_before : (g : ℕ) → g ≡ 0 + g
none_before g = omega arith

-- a value and then what is done with it
module _ {A B : Type 0} (a : A) (k : A → Rel B) where
  of_value : (p : Out A) (f : ℕ) → Exactly 0 (Val a) p f → (b : A) → p ≡ Val b → (o : Out B) (g : ℕ) → k b o g → k a o (f + g)
  of_value _ _ exact b e o g y = subst (λ n. k a o n) (none_before g) (subst (λ z. k z o g) (sym (the_value a b e)) y)

  no_stop : (p : Out A) (f : ℕ) → Exactly 0 (Val a) p f → ((b : A) → p ≡ Val b → ⊥) → ⊥
  no_stop _ _ exact never = never a refl

  value_first : (o : Out B) (f : ℕ) → Then (the (Val a)) k o f → k a o f
  value_first _ _ (goes_on {a = b} {o} {f} {g} x y) = of_value (Val b) f x b refl o g y
  value_first _ _ (stops {r} {f} x) = absurd (no_stop (Fail r) f x (λ b e. let z : ◌≡◌ {A = Out A} (Fail r) (Val b) = e in cc))
  value_first _ _ (sticks {f} x) = absurd (no_stop Wrong f x (λ b e. let z : ◌≡◌ {A = Out A} Wrong (Val b) = e in cc))

same_value : {A B : Type 0} (a : A) (k : A → Rel B) → Same_outcomes (Then (the (Val a)) k) (k a)
same_value a k o f = ((λ x. value_first a k o f x), (λ y. subst (λ n. Then (the (Val a)) k o n) (sym (none_before f)) (goes_on exact y)))

-- ---- jobs

module _ (tight : Bool) (Asked : Bool → Datum → List Datum → Type 0) (Writes : List (ℕ × Datum) → Type 0) (f : Applied) (last : Datum → Rel FlatValue) where
  abbrev Means : Job → Rel Datum
  Means j = job_means tight Asked Writes f j

  abbrev Ends : Job → Rel FlatValue
  Ends j = Then (Means j) last

  abbrev Does : Out Job → Rel FlatValue
  Does o = Then (the o) (λ j. Ends j)

  same_job : (o o' : Out Job) → o ≡ o' → Same_outcomes (Does o) (Does o')
  same_job o o' e = subst (λ p. Same_outcomes (Does o) (Does p)) e (same_rel (Does o))

  same_jobs : (j j' : Job) → Same_outcomes (Means j) (Means j') → Same_outcomes (Does (Val j)) (Does (Val j'))
  same_jobs j j' s = and_same (Does (Val j)) (Ends j) (Does (Val j')) (same_value j (λ j. Ends j)) (and_same (Ends j) (Ends j') (Does (Val j')) (same_first (Means j) (Means j') last s) (turned (Does (Val j')) (Ends j') (same_value j' (λ j. Ends j))))

  same_finished : (k l : List Datum → Out Counted) (ds : List Datum) → k ds ≡ l ds → Same_outcomes (finished k ds) (finished l ds)
  same_finished k l ds e = subst (λ p. Same_outcomes (finished k ds) (Then (the p) (λ r. gives r.0 r.1))) e (same_rel (finished k ds))

  -- whatever data comes first
  same_choice : {A : Type 0} (o : Out A) (j j' : A → Job) → ((a : A) → Same_outcomes (Means (j a)) (Means (j' a))) → Same_outcomes (Does (and_then o (λ a. Val (j a)))) (Does (and_then o (λ a. Val (j' a))))
  same_choice (Val a) j j' go = same_jobs (j a) (j' a) (go a)
  same_choice (Fail r) j j' go = same_rel _
  same_choice Wrong j j' go = same_rel _

  -- ---- arrays of one size, side by side

  abbrev arrays : ℕ → List Shape → List Shape
  arrays n [] = []
  arrays n (h ∷ hs) = Array_shape n h ∷ arrays n hs

  abbrev Lists_of : List Shape → List (List Datum) → Type 0
  Lists_of hs rows = Every (Of_shapes hs) rows

  -- an array of a shape, as its rows
  record Array_parts (n : ℕ) (h : Shape) (d : Datum) : Type 0 where
    row : Shape
    rows : List Datum
    is : rows_of d ≡ Val (row, rows)
    size : length rows ≡ n
    shape : row ≡ h
    each : Every (Of_shape h) rows

  array_parts : (n : ℕ) (h : Shape) (d : Datum) → Of_shape (Array_shape n h) d → Array_parts n h d
  unfolding shape_of Whole
  array_parts n h (Array_datum row ds) x =
      let e : Array_shape (length (listed ds)) row ≡ Array_shape n h = x.0 in
      let same : row ≡ h = cc in
      record { row = row; rows = listed ds; is = refl; size = cc; shape = same; each = subst (λ k. Every (Of_shape k) (listed ds)) same (whole_rows row ds x.1) }
  array_parts n h (Scalar_datum s) x = absurd (let z = x.0 in cc)
  array_parts n h (Tuple_datum ds) x = absurd (let z = x.0 in cc)
  array_parts n h (Record_datum fs) x = absurd (let z = x.0 in cc)

  on_array : {A : Type 0} (d : Datum) (r : Rows) (k : Rows → Out A) → rows_of d ≡ Val r → and_then (rows_of d) k ≡ k r
  on_array d r k e = ap (λ o. and_then o k) e

  alone_of : (h : Shape) (ds : List Datum) → Every (Of_shape h) ds → Lists_of (h ∷ []) (alone ds)
  alone_of h [] e = tt
  alone_of h (d ∷ ds) e = ((e.0, tt), alone_of h ds e.1)

  beside_of : (h : Shape) (hs : List Shape) (ds : List Datum) (rows : List (List Datum)) → Every (Of_shape h) ds → Lists_of hs rows → Lists_of (h ∷ hs) (beside ds rows)
  beside_of h hs [] rows e f = tt
  beside_of h hs (d ∷ ds) [] e f = tt
  beside_of h hs (d ∷ ds) (r ∷ rows) e f = ((e.0, f.0), beside_of h hs ds rows e.1 f.1)

  record Columns (at : Place) (r : Rows) (ds : List Datum) (hs : List Shape) : Type 0 where
    lists : List (List Datum)
    are : (misfit : Bool) → columns misfit at r ds ≡ Val lists
    each : Lists_of hs lists

  columns_are : (n : ℕ) (at : Place) (h : Shape) (hs : List Shape) (row : Shape) (xs : List Datum) (ds : List Datum) → length xs ≡ n → Every (Of_shape h) xs → Of_shapes (arrays n hs) ds → Columns at (row, xs) ds (h ∷ hs)
  columns_are n at h [] row xs [] l e x = record { lists = alone xs; are = λ b. refl; each = alone_of h xs e }
  columns_are n at h [] row xs (d ∷ ds) l e x = absurd x
  columns_are n at h (g ∷ hs) row xs [] l e x = absurd x
  columns_are n at h (g ∷ hs) row xs (d ∷ ds) l e x =
      let p = array_parts n g d x.0 in
      let c = columns_are n at g hs p.row p.rows ds p.size p.each x.1 in
      record {
        lists = beside xs c.lists;
        are = λ b. on_array d (p.row, p.rows) (λ s. same_size b at (row, xs) s (and_then (columns b at s ds) (λ rs. Val (beside xs rs)))) p.is
            ∙ fits_here b (nat_eq (length xs) (length p.rows)) at (and_then (columns b at (p.row, p.rows) ds) (λ rs. Val (beside xs rs))) (eq-eqb (length xs) (length p.rows) (l ∙ sym p.size)) ∙ ap (λ o. and_then o (λ rs. Val (beside xs rs))) (c.are b);
        each = beside_of h (g ∷ hs) xs c.lists e c.each;
      }

  -- ---- `map`, of one array or several, and `zip`

  all_shapes : (h : Shape) (ds : List Datum) → Every (Of_shape h) ds → All_of_shape h ds
  all_shapes h [] e = tt
  all_shapes h (d ∷ ds) e = ((e.0).0, all_shapes h ds e.1)

  results_same : (row h : Shape) (at : Place) (ds : List Datum) → Every (Of_shape h) ds → array_of_results true row at ds ≡ array_of_results false row at ds
  results_same row h at ds e = ap (λ o. all_fresh o) (array_same at row h ds (all_shapes h ds e))

  -- the function on each of these lists
  same_each : (hs : List Shape) (h : Shape) (lists : List (List Datum)) (k l : List Datum → Out Counted) → Lists_of hs lists → ((ds : List Datum) → Of_shapes hs ds → Gives (There anywhere) (Of_shape h) (f ds)) → ((ds : List Datum) → Every (Of_shape h) ds → k ds ≡ l ds) → Same_outcomes (Means (Apply_each lists k)) (Means (Apply_each lists l))
  same_each hs h lists k l e go same = same_behind (λ ys. Every (Of_shape h) ys × (length ys ≡ length lists)) (each_of f lists) (finished k) (finished l) (gives_each (Of_shapes hs) (Of_shape h) f go lists e) (λ ys q. same_finished k l ys (same ys q.0))

  mapped_is : (b : Bool) (row : Shape) (at : Place) (d : Datum) (ds : List Datum) (r : Rows) (lists : List (List Datum)) → rows_of d ≡ Val r → columns b at r ds ≡ Val lists → mapped b row at (d ∷ ds) ≡ Val (Apply_each lists (array_of_results b row at))
  mapped_is b row at d ds r lists e q = on_array d r (λ r. and_then (columns b at r ds) (λ rows. Val (Apply_each rows (array_of_results b row at)))) e ∙ ap (λ o. and_then o (λ rows. Val (Apply_each rows (array_of_results b row at)))) q

  mapped_same : (n : ℕ) (h : Shape) (hs : List Shape) (g row : Shape) (at : Place) (ds : List Datum) → Of_shapes (arrays n (h ∷ hs)) ds → ((es : List Datum) → Of_shapes (h ∷ hs) es → Gives (There anywhere) (Of_shape g) (f es)) → Same_outcomes (Does (mapped true row at ds)) (Does (mapped false row at ds))
  mapped_same n h hs g row at [] x go = absurd x
  mapped_same n h hs g row at (d ∷ ds) x go =
      let p = array_parts n h d x.0 in
      let c = columns_are n at h hs p.row p.rows ds p.size p.each x.1 in
      subst (λ o. Same_outcomes (Does o) (Does (mapped false row at (d ∷ ds)))) (sym (mapped_is true row at d ds (p.row, p.rows) c.lists p.is (c.are true)))
      (subst (λ o. Same_outcomes (Does (Val (Apply_each c.lists (array_of_results true row at)))) (Does o)) (sym (mapped_is false row at d ds (p.row, p.rows) c.lists p.is (c.are false)))
      (same_jobs (Apply_each c.lists (array_of_results true row at)) (Apply_each c.lists (array_of_results false row at))
      (same_each (h ∷ hs) g c.lists (array_of_results true row at) (array_of_results false row at) c.each go (λ es e. results_same row g at es e))))

  abbrev tupled_rows : Place → Shape → List (List Datum) → Out Job
  tupled_rows at row rows = done (all_fresh (array_of at row (map tupled rows)))

  zipped_is : (b : Bool) (at : Place) (row : Shape) (d : Datum) (ds : List Datum) (r : Rows) → rows_of d ≡ Val r → zipped b at row (d ∷ ds) ≡ and_then (columns b at r ds) (tupled_rows at row)
  zipped_is b at row d ds r e = on_array d r (λ r. and_then (columns b at r ds) (tupled_rows at row)) e

  zipped_same : (n : ℕ) (h : Shape) (hs : List Shape) (row : Shape) (at : Place) (ds : List Datum) → Of_shapes (arrays n (h ∷ hs)) ds → zipped true at row ds ≡ zipped false at row ds
  zipped_same n h hs row at [] x = absurd x
  zipped_same n h hs row at (d ∷ ds) x =
      let p = array_parts n h d x.0 in
      let c = columns_are n at h hs p.row p.rows ds p.size p.each x.1 in
      zipped_is true at row d ds (p.row, p.rows) p.is ∙ ap (λ o. and_then o (tupled_rows at row)) (c.are true ∙ sym (c.are false)) ∙ sym (zipped_is false at row d ds (p.row, p.rows) p.is)

  -- ---- reductions

  agree_self : (h : Shape) → rows_agree h h ≡ true
  agree_self (Scalar_shape t) = same_self (Scalar_shape t)
  agree_self (Tuple_shape hs) = same_self (Tuple_shape hs)
  agree_self (Record_shape hs) = same_self (Record_shape hs)
  agree_self (Array_shape n h) = same_self (Array_shape n h)
  agree_self Unmet_shape = refl

  agree_as : (h k : Shape) → h ≡ k → rows_agree h k ≡ true
  agree_as h k e = subst (λ z. rows_agree h z ≡ true) e (agree_self h)

  neutral_fits : (b : Bool) (r : Rows) (ne : Datum) (o : Out Job) → rows_agree r.0 (shape_of ne) ≡ true → fitting_neutral b r ne o ≡ o
  neutral_fits false r ne o e = refl
  neutral_fits true r ne o e = ap (λ c. cond c o Wrong) e

  abbrev Operates : Shape → Type 0
  Operates h = (es : List Datum) → Of_shapes (h ∷ h ∷ []) es → Gives (There anywhere) (Of_shape h) (f es)

  same_reduce : (any : Bool) (h : Shape) (ne : Datum) (lists : List (List Datum)) (k l : List Datum → Out Counted) → Of_shape h ne → Operates h → Every (Every (Of_shape h)) lists → ((ds : List Datum) → Every (Of_shape h) ds → k ds ≡ l ds) → Same_outcomes (Means (Reduce_each any ne lists k)) (Means (Reduce_each any ne lists l))
  same_reduce any h ne lists k l n go e same =
      same_behind (λ ys. Every (Of_shape h) ys × (length ys ≡ length lists)) (all_of (Reduces tight any (Asked any) f ne) lists) (finished k) (finished l)
      (gives_all_of (Every (Of_shape h)) (Of_shape h) (Reduces tight any (Asked any) f ne) (λ xs e. gives_reduced (Of_shape h) tight any (Asked any) f ne n (λ a b p q. go (a ∷ b ∷ []) (p, (q, tt))) xs e) lists e)
      (λ ys q. same_finished k l ys (same ys q.0))

  reduced_is : (b any : Bool) (n : ℕ) (h : Shape) (ne d : Datum) → Of_shape h ne → (p : Array_parts n h d) → reduced b any ne d ≡ Val (Reduce_each any ne (p.rows ∷ []) (λ ds. and_then (part_at 0 ds) fresh))
  reduced_is b any n h ne d x p =
      on_array d (p.row, p.rows) (λ r. fitting_neutral b r ne (Val (Reduce_each any ne (r.1 ∷ []) (λ ds. and_then (part_at 0 ds) fresh)))) p.is
      ∙ neutral_fits b (p.row, p.rows) ne (Val (Reduce_each any ne (p.rows ∷ []) (λ ds. and_then (part_at 0 ds) fresh))) (agree_as p.row (shape_of ne) (p.shape ∙ sym x.0))

  reduced_same : (any : Bool) (n : ℕ) (h : Shape) (ne d : Datum) → Of_shape h ne → Of_shape (Array_shape n h) d → reduced true any ne d ≡ reduced false any ne d
  reduced_same any n h ne d x y = let p = array_parts n h d y in reduced_is true any n h ne d x p ∙ sym (reduced_is false any n h ne d x p)

  abbrev scan_of : Bool → Place → Datum → Rows → Job
  scan_of b at ne r = Reduce_each false ne (prefixes_on [] r.1) (λ ds. all_fresh (array b at r.0 ds))

  scanned_is : (b : Bool) (at : Place) (n : ℕ) (h : Shape) (ne d : Datum) → Of_shape h ne → (p : Array_parts n h d) → scanned b at ne d ≡ Val (scan_of b at ne (p.row, p.rows))
  scanned_is b at n h ne d x p =
      on_array d (p.row, p.rows) (λ r. fitting_neutral b r ne (Val (scan_of b at ne r))) p.is
      ∙ neutral_fits b (p.row, p.rows) ne (Val (scan_of b at ne (p.row, p.rows))) (agree_as p.row (shape_of ne) (p.shape ∙ sym x.0))

  scanned_same : (n : ℕ) (h : Shape) (at : Place) (ne d : Datum) → Of_shape h ne → Of_shape (Array_shape n h) d → Operates h → Same_outcomes (Does (scanned true at ne d)) (Does (scanned false at ne d))
  scanned_same n h at ne d x y go =
      let p = array_parts n h d y in
      subst (λ o. Same_outcomes (Does o) (Does (scanned false at ne d))) (sym (scanned_is true at n h ne d x p))
      (subst (λ o. Same_outcomes (Does (Val (scan_of true at ne (p.row, p.rows)))) (Does o)) (sym (scanned_is false at n h ne d x p))
      (same_jobs (scan_of true at ne (p.row, p.rows)) (scan_of false at ne (p.row, p.rows))
      (same_reduce false h ne (prefixes_on [] p.rows) (λ ds. all_fresh (array true at p.row ds)) (λ ds. all_fresh (array false at p.row ds)) x go (every_prefix (Of_shape h) [] p.rows tt p.each) (λ ds e. ap (λ o. all_fresh o) (array_same at p.row h ds (all_shapes h ds e))))))

  -- ---- rows that are written at places

  rows_fit : (b : Bool) (at : Place) (r s : Rows) (o : Out Job) → r.0 ≡ s.0 → fitting_rows b at r s o ≡ o
  rows_fit false at r s o e = fits_here false (shown_to_agree r s) at o (shown_same r s e)
  rows_fit true at r s o e = fits_here true (shown_to_agree r s && rows_agree r.0 s.0) at o (both_hold (shown_to_agree r s) (rows_agree r.0 s.0) (shown_same r s e) (agree_as r.0 s.0 e))

  written_is : (b : Bool) (at : Place) (n : ℕ) (g h : Shape) (r : Rows) (is vs : Datum) (k : List (ℕ × Datum) → Out Job) → r.0 ≡ h → (i : Array_parts n g is) → (v : Array_parts n h vs) → written_rows b at r is vs k ≡ and_then (each_out exact_of i.rows) (λ zs. k (writes (size_of r) zs v.rows))
  written_is b at n g h r is vs k e i v =
      on_array is (i.row, i.rows) (λ x. on_rows vs (λ y. same_size b at x y (fitting_rows b at r y (and_then (each_out exact_of x.1) (λ zs. k (writes (size_of r) zs y.1)))))) i.is
      ∙ on_array vs (v.row, v.rows) (λ y. same_size b at (i.row, i.rows) y (fitting_rows b at r y (and_then (each_out exact_of i.rows) (λ zs. k (writes (size_of r) zs y.1))))) v.is
      ∙ fits_here b (nat_eq (length i.rows) (length v.rows)) at _ (eq-eqb (length i.rows) (length v.rows) (i.size ∙ sym v.size))
      ∙ rows_fit b at r (v.row, v.rows) (and_then (each_out exact_of i.rows) (λ zs. k (writes (size_of r) zs v.rows))) (e ∙ sym v.shape)

  scattered_same : (m n : ℕ) (g h : Shape) (at : Place) (d is vs : Datum) → Of_shape (Array_shape m h) d → Of_shape (Array_shape n g) is → Of_shape (Array_shape n h) vs → scattered true at d is vs ≡ scattered false at d is vs
  scattered_same m n g h at d is vs x y z =
      let p = array_parts m h d x in
      on_array d (p.row, p.rows) (λ r. written_rows true at r is vs (λ ws. Val (Choose_each ws r.1 (λ ds. shared (Array_datum r.0 (datums ds)))))) p.is
      ∙ written_is true at n g h (p.row, p.rows) is vs (λ ws. Val (Choose_each ws p.rows (λ ds. shared (Array_datum p.row (datums ds))))) p.shape (array_parts n g is y) (array_parts n h vs z)
      ∙ sym (written_is false at n g h (p.row, p.rows) is vs (λ ws. Val (Choose_each ws p.rows (λ ds. shared (Array_datum p.row (datums ds))))) p.shape (array_parts n g is y) (array_parts n h vs z))
      ∙ sym (on_array d (p.row, p.rows) (λ r. written_rows false at r is vs (λ ws. Val (Choose_each ws r.1 (λ ds. shared (Array_datum r.0 (datums ds)))))) p.is)

  abbrev histogram_of : Bool → Place → Datum → Rows → List (ℕ × Datum) → Job
  histogram_of b at ne r ws = Reduce_each true ne (places (λ v vs. v ∷ vs) 0 r.1 ws) (in_place_of b at r.0)

  histogram_is : (b : Bool) (at : Place) (m n : ℕ) (g h : Shape) (d ne is vs : Datum) → (p : Array_parts m h d) → Of_shape h ne → (i : Array_parts n g is) → (v : Array_parts n h vs) → histogram b at d ne is vs ≡ and_then (each_out exact_of i.rows) (λ zs. Val (histogram_of b at ne (p.row, p.rows) (writes (length p.rows) zs v.rows)))
  histogram_is b at m n g h d ne is vs p x i v =
      on_array d (p.row, p.rows) (λ r. fitting_neutral b r ne (written_rows b at r is vs (λ ws. Val (histogram_of b at ne r ws)))) p.is
      ∙ neutral_fits b (p.row, p.rows) ne (written_rows b at (p.row, p.rows) is vs (λ ws. Val (histogram_of b at ne (p.row, p.rows) ws))) (agree_as p.row (shape_of ne) (p.shape ∙ sym x.0))
      ∙ written_is b at n g h (p.row, p.rows) is vs (λ ws. Val (histogram_of b at ne (p.row, p.rows) ws)) p.shape i v

  in_place_same : (at : Place) (row h : Shape) (ds : List Datum) → row ≡ h → Every (Of_shape h) ds → in_place_of true at row ds ≡ in_place_of false at row ds
  in_place_same at row h ds e x = let like = like_all row ds (subst (λ k. All_of_shape k ds) (sym e) (all_shapes h ds x)) in fits_here true (all_like row ds) at _ like ∙ sym (fits_here false (all_like row ds) at _ like)

  histogram_same : (m n : ℕ) (g h : Shape) (at : Place) (d ne is vs : Datum) → Of_shape (Array_shape m h) d → Of_shape h ne → Of_shape (Array_shape n g) is → Of_shape (Array_shape n h) vs → Operates h → Same_outcomes (Does (histogram true at d ne is vs)) (Does (histogram false at d ne is vs))
  histogram_same m n g h at d ne is vs x y z w go =
      let p = array_parts m h d x in
      let i = array_parts n g is z in
      let v = array_parts n h vs w in
      subst (λ o. Same_outcomes (Does o) (Does (histogram false at d ne is vs))) (sym (histogram_is true at m n g h d ne is vs p y i v))
      (subst (λ o. Same_outcomes (Does (and_then (each_out exact_of i.rows) (λ zs. Val (histogram_of true at ne (p.row, p.rows) (writes (length p.rows) zs v.rows))))) (Does o)) (sym (histogram_is false at m n g h d ne is vs p y i v))
      (same_choice (each_out exact_of i.rows) (λ zs. histogram_of true at ne (p.row, p.rows) (writes (length p.rows) zs v.rows)) (λ zs. histogram_of false at ne (p.row, p.rows) (writes (length p.rows) zs v.rows))
      (λ zs. same_reduce true h ne (places (λ v vs. v ∷ vs) 0 p.rows (writes (length p.rows) zs v.rows)) (in_place_of true at p.row) (in_place_of false at p.row) y go
      (every_place (Of_shape h) (λ v vs. v ∷ vs) (λ v ws x y. (x, y)) 0 p.rows (writes (length p.rows) zs v.rows) p.each (every_writes (Of_shape h) (length p.rows) zs v.rows v.each)).0
      (λ ds e. in_place_same at p.row h ds p.shape e))))

  -- ---- two arrays, one behind the other; and results by index

  concatenated_is : (b : Bool) (m n : ℕ) (h : Shape) (at : Place) (d e : Datum) → (p : Array_parts m h d) → (q : Array_parts n h e) → concatenated b at d e ≡ done (all_fresh (array_of at (either_row (p.row, p.rows) (q.row, q.rows)) (p.rows ++ q.rows)))
  concatenated_is b m n h at d e p q =
      on_array d (p.row, p.rows) (λ r. on_rows e (λ s. fitting_rows b at r s (done (all_fresh (array_of at (either_row r s) (r.1 ++ s.1)))))) p.is
      ∙ on_array e (q.row, q.rows) (λ s. fitting_rows b at (p.row, p.rows) s (done (all_fresh (array_of at (either_row (p.row, p.rows) s) (p.rows ++ s.1))))) q.is
      ∙ rows_fit b at (p.row, p.rows) (q.row, q.rows) (done (all_fresh (array_of at (either_row (p.row, p.rows) (q.row, q.rows)) (p.rows ++ q.rows)))) (p.shape ∙ sym q.shape)

  concatenated_same : (m n : ℕ) (h : Shape) (at : Place) (d e : Datum) → Of_shape (Array_shape m h) d → Of_shape (Array_shape n h) e → concatenated true at d e ≡ concatenated false at d e
  concatenated_same m n h at d e x y = let p = array_parts m h d x in let q = array_parts n h e y in concatenated_is true m n h at d e p q ∙ sym (concatenated_is false m n h at d e p q)

  number_lists : (k i : ℕ) → Lists_of (i64_shape ∷ []) (alone (numbers_from k i))
  unfolding shape_of Whole
  number_lists zero i = tt
  number_lists (suc k) i = (((refl, tt), tt), number_lists k (suc i))

  indices_same : (row h : Shape) (at : Place) (k : ℕ) (ds : List Datum) → Every (Of_shape h) ds → array_of_indices true row at k ds ≡ array_of_indices false row at k ds
  indices_same row h at k ds e = ap (λ o. and_then o (λ e. Val (array_words (shape_of e) + k, e))) (array_same at row h ds (all_shapes h ds e))

  tabulated_same : (h row : Shape) (at : Place) (o : Out ℤ) → ((es : List Datum) → Of_shapes (i64_shape ∷ []) es → Gives (There anywhere) (Of_shape h) (f es))
      → Same_outcomes (Does (and_then o (λ z. sized at z (λ k. Val (Apply_each (alone (numbers_from k 0)) (array_of_indices true row at k)))))) (Does (and_then o (λ z. sized at z (λ k. Val (Apply_each (alone (numbers_from k 0)) (array_of_indices false row at k))))))
  tabulated_same h row at (Val (pos k)) go =
      same_jobs (Apply_each (alone (numbers_from k 0)) (array_of_indices true row at k)) (Apply_each (alone (numbers_from k 0)) (array_of_indices false row at k))
      (same_each (i64_shape ∷ []) h (alone (numbers_from k 0)) (array_of_indices true row at k) (array_of_indices false row at k) (number_lists k 0) go (λ es e. indices_same row h at k es e))
  tabulated_same h row at (Val (negsuc k)) go = same_rel _
  tabulated_same h row at (Fail r) go = same_rel _
  tabulated_same h row at Wrong go = same_rel _

  module _ (size : Length → ℕ) (shape : Letter → Shape) (row : Shape) (at : Place) where
    primitive_same : (p : Primitive) (ds : List Datum) → Of_shapes (data_taken size shape (own_of p) (from_of p) (written p)) ds → Function_fits size shape (own_of p) (from_of p) f (written p) → Same_outcomes (Does (job true row p at ds)) (Does (job false row p at ds))
    unfolding job
    primitive_same prim.Map ds x g = mapped_same (size length_of.N) (shape letter.A) [] (shape letter.B) row at ds x g
    primitive_same prim.Map2 ds x g = mapped_same (size length_of.N) (shape letter.A) (shape letter.B ∷ []) (shape letter.C) row at ds x g
    primitive_same prim.Map3 ds x g = mapped_same (size length_of.N) (shape letter.A) (shape letter.B ∷ shape letter.C ∷ []) (shape letter.D) row at ds x g
    primitive_same prim.Map4 ds x g = mapped_same (size length_of.N) (shape letter.A) (shape letter.B ∷ shape letter.C ∷ shape letter.D ∷ []) (shape letter.E) row at ds x g
    primitive_same prim.Map5 ds x g = mapped_same (size length_of.N) (shape letter.A) (shape letter.B ∷ shape letter.C ∷ shape letter.D ∷ shape letter.E ∷ []) (shape letter.F) row at ds x g
    primitive_same prim.Reduce (ne ∷ d ∷ []) x g = same_job _ _ (reduced_same false (size length_of.N) (shape letter.A) ne d x.0 x.1.0)
    primitive_same prim.ReduceComm (ne ∷ d ∷ []) x g = same_job _ _ (reduced_same true (size length_of.N) (shape letter.A) ne d x.0 x.1.0)
    primitive_same prim.Scan (ne ∷ d ∷ []) x g = scanned_same (size length_of.N) (shape letter.A) at ne d x.0 x.1.0 g
    primitive_same prim.Scatter (d ∷ is ∷ vs ∷ []) x g = same_job _ _ (scattered_same (size length_of.K) (size length_of.N) i64_shape (shape letter.A) at d is vs x.0 x.1.0 x.1.1.0)
    primitive_same prim.ReduceByIndex (d ∷ ne ∷ is ∷ vs ∷ []) x g = histogram_same (size length_of.K) (size length_of.N) i64_shape (shape letter.A) at d ne is vs x.0 x.1.0 x.1.1.0 x.1.1.1.0 g
    primitive_same prim.Zip (d ∷ e ∷ []) x g = same_job _ _ (zipped_same (size length_of.N) (shape letter.A) (shape letter.B ∷ []) _ at (d ∷ e ∷ []) x)
    primitive_same prim.Zip3 (d ∷ e ∷ c ∷ []) x g = same_job _ _ (zipped_same (size length_of.N) (shape letter.A) (shape letter.B ∷ shape letter.C ∷ []) _ at (d ∷ e ∷ c ∷ []) x)
    primitive_same prim.Tabulate (n ∷ []) x g = tabulated_same (shape letter.A) row at (exact_of n) g
    primitive_same prim.Concat (d ∷ e ∷ []) x g = same_job _ _ (concatenated_same (size length_of.N) (size length_of.M) (shape letter.A) at d e x.0 x.1.0)
    primitive_same p ds x g = same_rel _

pub no_primitive_misfits : NoPrimitiveMisfits
unfolding unrestricted
no_primitive_misfits size shape W row p at ds f x g = primitive_same W.tight (λ any ne ds. Unit {0}) (λ ws. Unit {0}) (applies W p f) (λ d. gives 0 (as_value d)) size shape row at p ds x g
