-- What primitives on arrays do with data of their types gives data of the types of their results.
use Rattle.std.proofs.Common.{◌≡◌, ◌⊎◌, ◌||◌, Bool, true, false, cond, ℕ, suc, refl, sym, ap, subst, arith, List, [], ◌∷◌, length, nat_eq, nat_lt, ne_eqb, le-ltb, ℤ, pos, negsuc}
use mathlib.Core.Logic.{inl, inr}
use Rattle.fut_scalar.specs.declared.place.Place.{Place}
use Rattle.fut_scalar.specs.declared.scalar.IntType.TheVariants as int
use Rattle.fut_types.specs.declared.Kind.TheVariants as kind
use Rattle.fut_types.specs.Types.{Ty, Tys, none, more, Kinds, HasKind}
use Rattle.fut_typing.specs.Names.{Names, AreNames}
use Rattle.fut_typing.specs.Primitives.{array_ty, bool_ty, i64_ty}
use Rattle.fut_meaning.specs.Found.{Told}
use Rattle.fut_meaning.specs.Outcomes.{Out, Val}
use Rattle.fut_value.specs.Data.{Shape, Shapes, no_shape, shape_and, Datum, shape_of, same_sizes}
use Rattle.fut_meaning.specs.Datums.{as_value}
use Rattle.fut_meaning.specs.Arrays.{all_like, Rows, rows_of, exact_of, truth_of_datum, each_out, array_of, Counted, all_fresh}
use Rattle.fut_meaning.specs.Jobs.{Job, Done, Apply_each, Reduce_each, Choose_each, done, on_rows, on_exact, sized, size_of, shown_to_agree, beside, alone, columns, mapped, array_of_results, row_of, truths, written, in_place_of, some_rows, and_write, writes, written_at, places}
use Rattle.fut_meaning.specs.Claims.{HasOut, Correct}
use Rattle.fut_meaning.specs.Flats.{FlatTops, FlatMode}
use Rattle.fut_meaning.proofs.Correct.{correct_exact}
use Rattle.fut_meaning.proofs.JobCorrect.{good_apply, good_reduce, good_choose, correct_job}
use Rattle.fut_meaning.proofs.Safe.{Every}
use Rattle.type_soundness.specs.Fits.{Fits}
use Rattle.type_soundness.proofs.Binding.{has_then}
use Rattle.type_soundness.proofs.LikeLaws.{both_are, array_view, self_like, same_like}
use Rattle.type_soundness.proofs.Making.{every_as, every_listed, has_fitting, has_each, Of_counted, has_fresh, has_shared, Row, Rows_fit, of_rows, rows_fit, rows_made, row_data, array_made, integer_exact, truth_exact}
use Rattle.type_soundness.proofs.Application.{Application, Each_data, Applies, Job_fits}

-- arrays of each of these types
abbrev pub arrays : Tys → Tys
arrays none = none
arrays (more t ts) = more (array_ty t) (arrays ts)

module _ (N : Names) (are : AreNames N) (T : Told) (M : FlatMode) (budget : ℕ) (total : Bool) (K : Kinds) (tops : FlatTops) where
  abbrev D : Ty → Datum → Type 0
  D t d = Fits N T M budget total t tops (as_value d)

  abbrev Data : Tys → List Datum → Type 0
  Data ts ds = Each_data N are T M budget total K tops ts ds

  -- a job that gives data of a type
  abbrev pub Gives_data : Application total → Ty → Job → Type 0
  Gives_data f u j = Job_fits N are T M budget total K tops f (D u) j

  abbrev On_data : Tys → Ty → Application total → Type 0
  On_data ts u f = Applies N are T M budget total K tops ts u f

  abbrev Rows_are : Ty → Rows → Type 0
  Rows_are t r = Rows_fit N are T M budget total tops K t r

  pub done_fits : (f : Application total) (u : Ty) (o : Out Counted) → HasOut (Of_counted (D u)) o → HasOut (Gives_data f u) (done o)
  done_fits f u o h = has_then (Of_counted (D u)) (Gives_data f u) o (λ r. Val (Done r)) h (λ r p. correct_exact (D u) r.0 (Val r.1) p)

  pub on_rows_fits : (f : Application total) (u t : Ty) (d : Datum) (g : Rows → Out Job) → D (array_ty t) d → ((r : Rows) → Rows_are t r → HasOut (Gives_data f u) (g r)) → HasOut (Gives_data f u) (on_rows d g)
  on_rows_fits f u t d g h go = has_then (Rows_are t) (Gives_data f u) (rows_of d) g (rows_fit N are T M budget total tops K t d h) go

  pub on_exact_fits : (f : Application total) (u : Ty) (d : Datum) (g : ℤ → Out Job) → D i64_ty d → ((z : ℤ) → HasOut (Gives_data f u) (g z)) → HasOut (Gives_data f u) (on_exact d g)
  on_exact_fits f u d g h go = has_then (λ z. Unit {0}) (Gives_data f u) (exact_of d) g (integer_exact N are T M budget total tops K int.I64 d h) (λ z p. go z)

  pub sized_fits : (f : Application total) (u : Ty) (at : Place) (z : ℤ) (g : ℕ → Out Job) → ((n : ℕ) → HasOut (Gives_data f u) (g n)) → HasOut (Gives_data f u) (sized at z g)
  sized_fits f u at (pos n) g go = go n
  sized_fits f u at (negsuc n) g go = tt

  -- an array of rows that look alike
  pub array_done : (f : Application total) (t : Ty) (at : Place) (row : Shape) (ds : List Datum) → Every (Row N are T M budget total tops K t row) ds → HasOut (Gives_data f (array_ty t)) (done (all_fresh (array_of at row ds)))
  array_done f t at row ds e = done_fits f (array_ty t) _ (has_fresh (D (array_ty t)) _ (rows_made N are T M budget total tops K t at row ds e))

  pub array_taken : (f : Application total) (t : Ty) (at : Place) (row : Shape) (ds : List Datum) → Every (Row N are T M budget total tops K t row) ds → HasOut (Gives_data f (array_ty t)) (some_rows at row ds)
  array_taken f t at row ds e = done_fits f (array_ty t) _ (has_shared (D (array_ty t)) _ (rows_made N are T M budget total tops K t at row ds e))

  -- ---- a function on rows

  pub apply_fits : (f : Application total) (q u : Ty) (rows : List (List Datum)) (g : List Datum → Out Counted) → Every (λ row. Correct total (D q) (f.applied row)) rows
      → ((es : List Datum) → Every (D q) es → length es ≡ length rows → HasOut (Of_counted (D u)) (g es)) → Gives_data f u (Apply_each rows g)
  apply_fits f q u rows g e go = correct_job total f.tight f.operators f.writes f.applied (D q) (D u) (Apply_each rows g) (good_apply e go)

  -- rows of arguments, each of which looks as the rows of its array do
  abbrev pub Each_row : Tys → Shapes → List Datum → Type 0
  Each_row none hs [] = Unit {0}
  Each_row none hs (d ∷ ds) = ⊥
  Each_row (more t ts) hs [] = ⊥
  Each_row (more t ts) no_shape (d ∷ ds) = ⊥
  Each_row (more t ts) (shape_and h hs) (d ∷ ds) = Row N are T M budget total tops K t h d × Each_row ts hs ds

  abbrev pub row_shapes : List Datum → Shapes
  row_shapes [] = no_shape
  row_shapes (d ∷ ds) = shape_and (row_of d) (row_shapes ds)

  pub each_row_data : (ts : Tys) (hs : Shapes) (ds : List Datum) → Each_row ts hs ds → Data ts ds
  each_row_data none hs [] h = tt
  each_row_data none hs (d ∷ ds) h = absurd h
  each_row_data (more t ts) hs [] h = absurd h
  each_row_data (more t ts) no_shape (d ∷ ds) h = absurd h
  each_row_data (more t ts) (shape_and k hs) (d ∷ ds) h = (h.0.0, each_row_data ts hs ds h.1)

  pub alone_data : (t : Ty) (ds : List Datum) → Every (D t) ds → Every (Data (more t none)) (alone ds)
  alone_data t [] e = tt
  alone_data t (d ∷ ds) e = ((e.0, tt), alone_data t ds e.1)

  alone_rows : (t : Ty) (row : Shape) (ds : List Datum) → Every (Row N are T M budget total tops K t row) ds → Every (Each_row (more t none) (shape_and row no_shape)) (alone ds)
  alone_rows t row [] e = tt
  alone_rows t row (d ∷ ds) e = ((e.0, tt), alone_rows t row ds e.1)

  beside_rows : (t : Ty) (ts : Tys) (row : Shape) (hs : Shapes) (ds : List Datum) (rs : List (List Datum)) → Every (Row N are T M budget total tops K t row) ds → Every (Each_row ts hs) rs → Every (Each_row (more t ts) (shape_and row hs)) (beside ds rs)
  beside_rows t ts row hs [] rs e h = tt
  beside_rows t ts row hs (d ∷ ds) [] e h = tt
  beside_rows t ts row hs (d ∷ ds) (r ∷ rs) e h = ((e.0, h.0), beside_rows t ts row hs ds rs e.1 h.1)

  row_is : (t : Ty) (d : Datum) → D (array_ty t) d → HasOut (λ r. Rows_are t r × (row_of d ≡ r.0)) (rows_of d)
  row_is t d h = let v = array_view N are T M budget total tops K t d h in
      subst (λ z. HasOut (λ r. Rows_are t r × (row_of z ≡ r.0)) (rows_of z)) (sym v.2) (every_listed (Row N are T M budget total tops K t v.0) v.1 v.3, refl)

  pub columns_rows : (at : Place) (t : Ty) (ts : Tys) (r : Rows) (ds : List Datum) → Rows_are t r → Data (arrays ts) ds → HasOut (Every (Each_row (more t ts) (shape_and r.0 (row_shapes ds)))) (columns false at r ds)
  columns_rows at t none r [] e h = alone_rows t r.0 r.1 e
  columns_rows at t none r (d ∷ ds) e h = absurd h
  columns_rows at t (more u ts) r [] e h = absurd h
  columns_rows at t (more u ts) r (d ∷ ds) e h =
      let Q : List (List Datum) → Type 0 = Every (Each_row (more t (more u ts)) (shape_and r.0 (shape_and (row_of d) (row_shapes ds)))) in
      has_then (λ s. Rows_are u s × (row_of d ≡ s.0)) Q (rows_of d) _ (row_is u d h.0) (λ s q.
      has_fitting Q (nat_eq (size_of r) (size_of s)) at _ (λ same.
      has_then (Every (Each_row (more u ts) (shape_and s.0 (row_shapes ds)))) Q (columns false at s ds) _ (columns_rows at u ts s ds q.0 h.1) (λ rs p.
      beside_rows t (more u ts) r.0 (shape_and (row_of d) (row_shapes ds)) r.1 rs e (subst (λ z. Every (Each_row (more u ts) (shape_and z (row_shapes ds))) rs) (sym q.1) p))))

  pub rows_applied : (ts : Tys) (u : Ty) (f : Application total) → On_data ts u f → (rows : List (List Datum)) → Every (Data ts) rows → Every (λ row. Correct total (D u) (f.applied row)) rows
  rows_applied ts u f h rows e = every_as (Data ts) (λ row. Correct total (D u) (f.applied row)) rows h e

  pub mapped_fits : (t : Ty) (ts : Tys) (u : Ty) (told : Shape) (f : Application total) (at : Place) (d : Datum) (ds : List Datum) → HasKind K kind.Data u → On_data (more t ts) u f → D (array_ty t) d → Data (arrays ts) ds → HasOut (Gives_data f (array_ty u)) (mapped false told at (d ∷ ds))
  mapped_fits t ts u told f at d ds k h e es = on_rows_fits f (array_ty u) t d _ e (λ r q.
      has_then (Every (Each_row (more t ts) (shape_and r.0 (row_shapes ds)))) (Gives_data f (array_ty u)) (columns false at r ds) _ (columns_rows at t ts r ds q es) (λ rows p.
      apply_fits f u (array_ty u) rows (array_of_results false told at) (rows_applied (more t ts) u f h rows (every_as (Each_row (more t ts) (shape_and r.0 (row_shapes ds))) (Data (more t ts)) rows (λ y z. each_row_data (more t ts) (shape_and r.0 (row_shapes ds)) y z) p))
      (λ xs x l. has_fresh (D (array_ty u)) _ (array_made N are T M budget total tops K u k at told xs x))))

  -- results of tests
  pub truths_fit : (u : Ty) (es : List Datum) (g : List Bool → Out Counted) → Every (D bool_ty) es → ((bs : List Bool) → HasOut (Of_counted (D u)) (g bs)) → HasOut (Of_counted (D u)) (truths g es)
  truths_fit u es g e go = has_then (Every (λ b. Unit {0})) (Of_counted (D u)) (each_out truth_of_datum es) g (has_each (D bool_ty) (λ b. Unit {0}) truth_of_datum (truth_exact N are T M budget total tops K) es e) (λ bs p. go bs)

  -- ---- reductions

  pub reduce_fits : (t u : Ty) (any : Bool) (f : Application total) (ne : Datum) (lists : List (List Datum)) (g : List Datum → Out Counted) → On_data (more t (more t none)) t f → D t ne → Every (Every (D t)) lists
      → ((es : List Datum) → Every (D t) es → length es ≡ length lists → HasOut (Of_counted (D u)) (g es)) → Gives_data f u (Reduce_each any ne lists g)
  reduce_fits t u any f ne lists g h n e go = correct_job total f.tight f.operators f.writes f.applied (D t) (D u) (Reduce_each any ne lists g) (good_reduce n (λ a b p q. h (a ∷ b ∷ []) (p, (q, tt))) (λ z xs. f.operators_free z any ne xs) e go)

  -- ---- writes
  pub choose_fits : (Q : Datum → Type 0) (u : Ty) (f : Application total) (ws : List (ℕ × Datum)) (old : List Datum) (g : List Datum → Out Counted) → Every (λ w. Q w.1) ws → Every Q old → ((es : List Datum) → Every Q es → length es ≡ length old → HasOut (Of_counted (D u)) (g es)) → Gives_data f u (Choose_each ws old g)
  choose_fits Q u f ws old g e o go = correct_job total f.tight f.operators f.writes f.applied Q (D u) (Choose_each ws old g) (good_choose e o (λ z. f.writes_free z ws) go)

  module _ (Q : Datum → Type 0) where
    and_written : (n : ℕ) (z : ℤ) (v : Datum) (ws : List (ℕ × Datum)) → Q v → Every (λ w. Q w.1) ws → Every (λ w. Q w.1) (and_write n z v ws)
    and_written n (negsuc k) v ws d e = e
    and_written n (pos k) v ws d e = one (nat_lt k n)
      where
        one : (b : Bool) → Every (λ w. Q w.1) (cond b ((k, v) ∷ ws) ws)
        one true = (d, e)
        one false = e

    pub writes_data : (n : ℕ) (zs : List ℤ) (vs : List Datum) → Every Q vs → Every (λ w. Q w.1) (writes n zs vs)
    writes_data n [] vs e = tt
    writes_data n (z ∷ zs) [] e = tt
    writes_data n (z ∷ zs) (v ∷ vs) e = and_written n z v (writes n zs vs) e.0 (writes_data n zs vs e.1)

    -- where there are no places, nothing is written
    no_write : (z : ℤ) (v : Datum) (ws : List (ℕ × Datum)) → Every (λ w. Q w.1) ws → Every (λ w. Q w.1) (and_write 0 z v ws)
    no_write (negsuc k) v ws e = e
    no_write (pos k) v ws e = subst (λ b. Every (λ w. Q w.1) (cond b ((k, v) ∷ ws) ws)) (sym (le-ltb k 0 (omega arith))) e

    pub no_writes : (zs : List ℤ) (vs : List Datum) → Every (λ w. Q w.1) (writes 0 zs vs)
    no_writes [] vs = tt
    no_writes (z ∷ zs) [] = tt
    no_writes (z ∷ zs) (v ∷ vs) = no_write z v (writes 0 zs vs) (no_writes zs vs)

    pub nothing_written : (n : ℕ) (zs : List ℤ) → Every (λ w. Q w.1) (writes n zs [])
    nothing_written n [] = tt
    nothing_written n (z ∷ zs) = tt

    written_data : (k : ℕ) (ws : List (ℕ × Datum)) → Every (λ w. Q w.1) ws → Every Q (written_at k ws)
    written_data k [] e = tt
    written_data k (w ∷ ws) e = one (nat_eq w.0 k) (written_data k ws e.1)
      where
        one : (b : Bool) → Every Q (written_at k ws) → Every Q (cond b (w.1 ∷ written_at k ws) (written_at k ws))
        one true r = (e.0, r)
        one false r = r

    -- the old row and those that are written at its place
    pub places_data : (k : ℕ) (old : List Datum) (ws : List (ℕ × Datum)) → Every Q old → Every (λ w. Q w.1) ws → Every (Every Q) (places (λ v vs. v ∷ vs) k old ws)
    places_data k [] ws e h = tt
    places_data k (v ∷ old) ws e h = ((e.0, written_data k ws h), places_data (suc k) old ws e.1 h)

  pub places_many : (k : ℕ) (old : List Datum) (ws : List (ℕ × Datum)) → length (places (λ v vs. v ∷ vs) k old ws) ≡ length old
  places_many k [] ws = refl
  places_many k (v ∷ old) ws = ap suc (places_many (suc k) old ws)

  -- rows that look as those of another array do, where both have some
  agreed : (t : Ty) → HasKind K kind.Data t → (h : Shape) (x : Datum) → Row N are T M budget total tops K t h x → (k : Shape) → same_sizes h k ≡ true → (ds : List Datum) → Every (Row N are T M budget total tops K t k) ds → Every (Row N are T M budget total tops K t h) ds
  agreed t kd h x p k s ds e = every_as (Row N are T M budget total tops K t k) (Row N are T M budget total tops K t h) ds (λ d q. (q.0, same_like N are T M budget total tops K t kd h k x d p.0 q.0 p.1 q.1 s)) e

  pub rows_as : (t : Ty) → HasKind K kind.Data t → (r s : Rows) → Rows_are t r → Rows_are t s → shown_to_agree r s ≡ true → (size_of r ≡ 0) ⊎ Every (Row N are T M budget total tops K t r.0) s.1
  rows_as t kd (h, []) s e i a = inl refl
  rows_as t kd (h, x ∷ xs) (k, []) e i a = inr tt
  rows_as t kd (h, x ∷ xs) (k, y ∷ ys) e i a = inr (agreed t kd h x e.0 k (shown (nat_eq (suc (length xs)) 0) (nat_eq (suc (length ys)) 0) (same_sizes h k) (no_size (length xs)) (no_size (length ys)) a) (y ∷ ys) i)
    where
      no_size : (n : ℕ) → nat_eq (suc n) 0 ≡ false
      no_size n = ne_eqb (suc n) 0 (omega arith)

      shown : (a b c : Bool) → a ≡ false → b ≡ false → (a || (b || c)) ≡ true → c ≡ true
      shown false false c p q r = r
      shown true b c p q r = absurd (let z : true ≡ false = p in cc)
      shown false true c p q r = absurd (let z : true ≡ false = q in cc)

  -- what is written looks as the rows of the array do
  written_rows : (t : Ty) (r s : Rows) (zs : List ℤ) → (size_of r ≡ 0) ⊎ Every (Row N are T M budget total tops K t r.0) s.1 → Every (λ w. Row N are T M budget total tops K t r.0 w.1) (writes (size_of r) zs s.1)
  written_rows t r s zs (inl z) = subst (λ n. Every (λ w. Row N are T M budget total tops K t r.0 w.1) (writes n zs s.1)) (sym z) (no_writes (Row N are T M budget total tops K t r.0) zs s.1)
  written_rows t r s zs (inr e) = writes_data (Row N are T M budget total tops K t r.0) (size_of r) zs s.1 e

  pub written_fits : (f : Application total) (u t : Ty) → HasKind K kind.Data t → (at : Place) (r : Rows) (is vs : Datum) (g : List (ℕ × Datum) → Out Job) → Rows_are t r → D (array_ty i64_ty) is → D (array_ty t) vs
      → ((ws : List (ℕ × Datum)) → Every (λ w. Row N are T M budget total tops K t r.0 w.1) ws → HasOut (Gives_data f u) (g ws)) → HasOut (Gives_data f u) (written false at r is vs g)
  written_fits f u t kd at r is vs g e hi hv go = on_rows_fits f u i64_ty is _ hi (λ i q. on_rows_fits f u t vs _ hv (λ s p.
      has_fitting (Gives_data f u) (nat_eq (size_of i) (size_of s)) at _ (λ same.
      has_fitting (Gives_data f u) (shown_to_agree r s) at _ (λ agree.
      has_then (Every (λ z. Unit {0})) (Gives_data f u) (each_out exact_of i.1) (λ zs. g (writes (size_of r) zs s.1))
      (has_each (D i64_ty) (λ z. Unit {0}) exact_of (integer_exact N are T M budget total tops K int.I64) i.1 (row_data N are T M budget total tops K i64_ty i.0 i.1 q))
      (λ zs z. go (writes (size_of r) zs s.1) (written_rows t r s zs (rows_as t kd r s e p agree)))))))

  -- results that look like the rows in whose places they are
  pub in_place_fits : (t : Ty) → HasKind K kind.Data t → (at : Place) (r : Rows) (es : List Datum) → Rows_are t r → Every (D t) es → length es ≡ length r.1 → HasOut (Of_counted (D (array_ty t))) (in_place_of false at r.0 es)
  in_place_fits t kd at r es e q l = has_fitting (Of_counted (D (array_ty t))) (all_like r.0 es) at _ (λ a. of_rows N are T M budget total tops K t r.0 es (looks r.1 es e q l a))
    where
      each : (x : Datum) → Row N are T M budget total tops K t r.0 x → (es : List Datum) → Every (D t) es → all_like r.0 es ≡ true → Every (Row N are T M budget total tops K t r.0) es
      each x p [] q a = tt
      each x p (y ∷ ys) q a = let b = both_are (same_sizes r.0 (shape_of y)) (all_like r.0 ys) a in
          ((q.0, same_like N are T M budget total tops K t kd r.0 (shape_of y) x y p.0 q.0 p.1 (self_like N are T M budget total tops K t y kd q.0) b.0), each x p ys q.1 b.1)

      looks : (xs es : List Datum) → Every (Row N are T M budget total tops K t r.0) xs → Every (D t) es → length es ≡ length xs → all_like r.0 es ≡ true → Every (Row N are T M budget total tops K t r.0) es
      looks xs [] e q l a = tt
      looks [] (y ∷ ys) e q l a = absurd (omega (arith, l))
      looks (x ∷ xs) (y ∷ ys) e q l a = each x e.0 (y ∷ ys) q a
