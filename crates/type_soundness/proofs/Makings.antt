-- Array literals, indices, updates and ranges give data of their types.
use Rattle.std.proofs.Common.{◌≡◌, Bool, true, false, ◌&&◌, ℕ, zero, suc, ◌-◌, ◌≤◌, ◌<◌, refl, sym, ap, ◌∙◌, subst, arith, List, [], ◌∷◌, length, take, drop, reverse, slice_get, slice_set, nat_le, leb-true, Option, Some, None, ℤ, pos, negsuc, ◌+ℤ◌, ◌-ℤ◌, unsigned_abs}
use Rattle.std.proofs.lemmas.List.{length-take, length-drop, length-reverse, length-set}
use Rattle.fut_scalar.specs.Integers.{integer_of}
use Rattle.fut_scalar.specs.declared.place.Place.{Place}
use Rattle.fut_scalar.specs.declared.report.FailKind.TheVariants as fail
use Rattle.fut_scalar.specs.declared.scalar.IntType.{IntType}
use Rattle.fut_scalar.specs.declared.scalar.IntType.TheVariants as int
use Rattle.fut_scalar.specs.declared.scalar.Scalar.TheVariants as scalar
use Rattle.fut_scalar.specs.declared.scalar.ScalarType.TheVariants as types
use Rattle.fut_ast.specs.declared.node.End.{End}
use Rattle.fut_flat.specs.declared.act.Part.{Part}
use Rattle.fut_flat.specs.declared.act.Part.TheVariants as part
use Rattle.fut_types.specs.declared.Kind.{Kind}
use Rattle.fut_types.specs.declared.Kind.TheVariants as kind
use Rattle.fut_types.specs.declared.Head.TheVariants as head
use Rattle.fut_types.specs.Types.{Ty, Made, Tys, none, more, Kinds, HasKind, level}
use Rattle.fut_typing.specs.Names.{Names, AreNames, count}
use Rattle.fut_typing.specs.Primitives.{array_ty, i64_ty}
use Rattle.fut_typing.specs.Rules.{All_are, bounds, left_of, Indexed, Updated}
use Rattle.fut_typing.specs.Scopes.{IsArray}
use Rattle.fut_meaning.specs.Found.{Told}
use Rattle.fut_meaning.specs.Outcomes.{Out, Val, and_then}
use Rattle.fut_value.specs.Data.{Shape, Scalar_shape, Tuple_shape, Record_shape, Array_shape, Unmet_shape, Datum, Scalar_datum, Tuple_datum, Record_datum, Array_datum, Datums, no_datum, datum_and, listed, datums, shape_of, same_sizes, weight}
use Rattle.fut_meaning.specs.Datums.{as_value, all_data}
use Rattle.fut_meaning.specs.Arrays.{most_words, exact_of, each_out, Counted, or_bounds, Pick, Pick_at, Pick_slice, Pick_backwards, and_pick, picks, Cut, Cut_at, Cut_slice, Cut_backwards, size, inner, slice_cut, or_else, cut_of, cuts, cut_shape, row_or_wrong, cut, indexed, updated, last_apart, stepped_from, range_of, range_by, range_count, unit_step, range, Make_array, Make_index, Make_update, Make_range, made}
use Rattle.fut_meaning.specs.Claims.{HasOut}
use Rattle.fut_meaning.specs.Flats.{FlatValue, FlatTops, FlatMode}
use Rattle.fut_meaning.proofs.Safe.{Every}
use Rattle.type_soundness.specs.Likeness.{All_datums, Is_empty, Like}
use Rattle.type_soundness.specs.Fits.{Fits}
use Rattle.type_soundness.proofs.Binding.{has_then, Each_fits}
use Rattle.type_soundness.proofs.DataFits.{fits_data}
use Rattle.type_soundness.proofs.LikeLaws.{both_are, no_rows, scalar_like, array_view, self_like, same_like, through_like}
use Rattle.type_soundness.proofs.Making.{some_is, has_as, has_so_many, listed_datums, has_fitting, every_as, every_taken, every_dropped, every_reversed, every_set, every_datums, every_listed, has_checked, Of_counted, has_fresh, has_shared, Row, of_rows, array_made, array_kind, integer_exact}
use Rattle.type_soundness.proofs.Scalars.{integer_fits}
use Rattle.type_soundness.proofs.Application.{Each_data}

-- the row at an index below their number
row_there : (P Q : Datum → Type 0) (i : ℕ) (xs : List Datum) (k : Datum → Out Datum) → i < length xs → Every P xs → ((d : Datum) → P d → HasOut Q (k d)) → HasOut Q (row_or_wrong (slice_get xs i) k)
row_there P Q i [] k lt e go = absurd (omega (arith, lt))
row_there P Q zero (x ∷ xs) k lt e go = go x e.0
row_there P Q (suc i) (x ∷ xs) k lt e go = row_there P Q i xs k (omega (arith, lt)) e.1 go

-- ---- how many rows there are, and how each looks

size_like : (h row : Shape) (ds : Datums) → Like h (Array_datum row ds) → length (listed ds) ≡ size h
unfolding Like Is_empty
size_like (Scalar_shape s) row ds l = absurd l
size_like (Tuple_shape hs) row ds l = absurd l
size_like (Record_shape hs) row ds l = absurd l
size_like (Array_shape n h) row ds l = l.0
size_like Unmet_shape row ds l = l

inner_like : (h row : Shape) (ds : Datums) → Like h (Array_datum row ds) → All_datums (Like (inner h)) ds
unfolding Like Is_empty
inner_like (Scalar_shape s) row ds l = absurd l
inner_like (Tuple_shape hs) row ds l = absurd l
inner_like (Record_shape hs) row ds l = absurd l
inner_like (Array_shape n h) row ds l = l.1
inner_like Unmet_shape row ds l = no_rows (Like Unmet_shape) ds l

array_like : (n : ℕ) (h row : Shape) (ds : Datums) → length (listed ds) ≡ n → All_datums (Like h) ds → Like (Array_shape n h) (Array_datum row ds)
unfolding Like
array_like n h row ds e a = (e, a)

-- other rows, as many, each of which looks as those did
other_rows : (h row : Shape) (ds es : Datums) → length (listed es) ≡ length (listed ds) → (All_datums (Like (inner h)) ds → All_datums (Like (inner h)) es) → Like h (Array_datum row ds) → Like h (Array_datum row es)
unfolding Like Is_empty
other_rows (Scalar_shape s) row ds es e go l = absurd l
other_rows (Tuple_shape hs) row ds es e go l = absurd l
other_rows (Record_shape hs) row ds es e go l = absurd l
other_rows (Array_shape n h) row ds es e go l = (e ∙ l.0, go l.1)
other_rows Unmet_shape row ds es e go l = e ∙ l

-- picks of the parts of an index
abbrev Picked : List Part → List Pick → Type 0
Picked [] [] = Unit {0}
Picked [] (q ∷ qs) = ⊥
Picked (p ∷ ps) [] = ⊥
Picked (part.At ∷ ps) (Pick_at z ∷ qs) = Picked ps qs
Picked (part.At ∷ ps) (q ∷ qs) = ⊥
Picked (part.Slice from to ∷ ps) (Pick_slice i j ∷ qs) = Picked ps qs
Picked (part.Slice from to ∷ ps) (q ∷ qs) = ⊥
Picked (part.Backwards ∷ ps) (Pick_backwards ∷ qs) = Picked ps qs
Picked (part.Backwards ∷ ps) (q ∷ qs) = ⊥

and_picked : (p : Part) (ps : List Part) (q : Pick) (o : Out (List Pick)) → ((qs : List Pick) → Picked ps qs → Picked (p ∷ ps) (q ∷ qs)) → HasOut (Picked ps) o → HasOut (Picked (p ∷ ps)) (and_pick q o)
and_picked p ps q o go h = has_then (Picked ps) (Picked (p ∷ ps)) o (λ qs. Val (q ∷ qs)) h go

picks_fit : (ps : List Part) (zs : List ℤ) → length zs ≡ bounds ps → HasOut (Picked ps) (picks ps zs)
unfolding picks
picks_fit [] [] e = tt
picks_fit [] (z ∷ zs) e = absurd (omega (arith, e))
picks_fit (part.At ∷ ps) [] e = absurd (omega (arith, e))
picks_fit (part.At ∷ ps) (z ∷ zs) e = and_picked part.At ps (Pick_at z) (picks ps zs) (λ qs q. q) (picks_fit ps zs (omega (arith, e)))
picks_fit (part.Slice true true ∷ ps) [] e = absurd (omega (arith, e))
picks_fit (part.Slice true true ∷ ps) (z ∷ []) e = absurd (omega (arith, e))
picks_fit (part.Slice true true ∷ ps) (z ∷ w ∷ zs) e = and_picked (part.Slice true true) ps (Pick_slice (Some z) (Some w)) (picks ps zs) (λ qs q. q) (picks_fit ps zs (omega (arith, e)))
picks_fit (part.Slice true false ∷ ps) [] e = absurd (omega (arith, e))
picks_fit (part.Slice true false ∷ ps) (z ∷ zs) e = and_picked (part.Slice true false) ps (Pick_slice (Some z) None) (picks ps zs) (λ qs q. q) (picks_fit ps zs (omega (arith, e)))
picks_fit (part.Slice false true ∷ ps) [] e = absurd (omega (arith, e))
picks_fit (part.Slice false true ∷ ps) (z ∷ zs) e = and_picked (part.Slice false true) ps (Pick_slice None (Some z)) (picks ps zs) (λ qs q. q) (picks_fit ps zs (omega (arith, e)))
picks_fit (part.Slice false false ∷ ps) zs e = and_picked (part.Slice false false) ps (Pick_slice None None) (picks ps zs) (λ qs q. q) (picks_fit ps zs (omega (arith, e)))
picks_fit (part.Backwards ∷ ps) zs e = and_picked part.Backwards ps Pick_backwards (picks ps zs) (λ qs q. q) (picks_fit ps zs (omega (arith, e)))

-- a first and a last number, and one between them where there is a step
abbrev pub count_of : Bool → ℕ
count_of true = 3
count_of false = 2

module _ (N : Names) (are : AreNames N) (T : Told) (M : FlatMode) (budget : ℕ) (total : Bool) (tops : FlatTops) (K : Kinds) where
  abbrev D : Ty → Datum → Type 0
  D t d = Fits N T M budget total t tops (as_value d)

  abbrev Data : Tys → List Datum → Type 0
  Data ts ds = Each_data N are T M budget total K tops ts ds

  abbrev A_row : Ty → Shape → Datum → Type 0
  A_row t row d = Row N are T M budget total tops K t row d

  as_type : (t u : Ty) (d : Datum) → t ≡ u → D u d → D t d
  as_type t u d e h = subst (λ x. D x d) (sym e) h

  all_as : (u : Ty) (ts : Tys) (ds : List Datum) → All_are u ts → Data ts ds → Every (D u) ds
  all_as u none [] a h = tt
  all_as u none (d ∷ ds) a h = absurd h
  all_as u (more t ts) [] a h = absurd h
  all_as u (more t ts) (d ∷ ds) a h = (as_type u t d (sym a.0) h.0, all_as u ts ds a.1 h.1)

  -- ---- indices

  -- what is taken of data of x is of t, and looks as the cut shape of what the data looks like
  abbrev Taken : Ty → List Cut → Datum → Datum → Type 0
  Taken t cs d e = D t e × ((row : Shape) → Like row d → Like (cut_shape cs row) e)

  abbrev Cuts_fit : Ty → Ty → Shape → List Cut → Type 0
  Cuts_fit x t h cs = (d : Datum) → D x d → Like h d → HasOut (Taken t cs d) (cut cs d)

  -- it looks as all rows do
  abbrev Among : Datums → Datum → Type 0
  Among ds x = (row : Shape) → All_datums (Like row) ds → Like row x

  each_among : (ds : Datums) → Every (Among ds) (listed ds)
  each_among no_datum = tt
  each_among (datum_and d ds) = ((λ row m. m.0), every_as (Among ds) (Among (datum_and d ds)) (listed ds) (λ x h row m. h row m.1) (each_among ds))

  abbrev Known_row : Ty → Shape → Datums → Datum → Type 0
  Known_row x h ds d = (D x d × Like h d) × Among ds d

  known_rows : (x : Ty) (h r : Shape) (ds : Datums) → All_datums (λ d. D x d × Like r d) ds → All_datums (Like h) ds → Every (Known_row x h ds) (listed ds)
  known_rows x h r ds a l = both (listed ds) (each ds a l) (each_among ds)
    where
      each : (ds : Datums) → All_datums (λ d. D x d × Like r d) ds → All_datums (Like h) ds → Every (λ d. D x d × Like h d) (listed ds)
      each no_datum a l = tt
      each (datum_and d ds) a l = ((a.0.0, l.0), each ds a.1 l.1)

      both : (xs : List Datum) → Every (λ d. D x d × Like h d) xs → Every (Among ds) xs → Every (Known_row x h ds) xs
      both [] a b = tt
      both (y ∷ ys) a b = ((a.0, b.0), both ys a.1 b.1)

  -- a row that is cut, and looks as the cut shape of what all rows look like
  abbrev Cut_row : Ty → List Cut → Datums → Datum → Type 0
  Cut_row u cs ds e = D u e × ((row : Shape) → All_datums (Like row) ds → Like (cut_shape cs row) e)

  cut_row : (x u : Ty) (h : Shape) (cs : List Cut) (ds : Datums) → Cuts_fit x u h cs → (d : Datum) → Known_row x h ds d → HasOut (Cut_row u cs ds) (cut cs d)
  cut_row x u h cs ds rest d k = has_as (Taken u cs d) (Cut_row u cs ds) (cut cs d) (λ e q. (q.0, λ row m. q.1 row (k.1 row m))) (rest d k.0.0 k.0.1)

  cut_one : (x u : Ty) (h : Shape) (i : ℕ) (cs : List Cut) → i < size h → Cuts_fit x u (inner h) cs → Cuts_fit (array_ty x) u h (Cut_at i ∷ cs)
  unfolding cut
  cut_one x u h i cs lt rest d a l = let v = array_view N are T M budget total tops K x d a in
      subst (λ z. HasOut (Taken u (Cut_at i ∷ cs) z) (cut (Cut_at i ∷ cs) z)) (sym v.2) (inside v.0 v.1 v.3 (subst (Like h) v.2 l))
    where
      inside : (r : Shape) (ds : Datums) → All_datums (λ d. D x d × Like r d) ds → Like h (Array_datum r ds) → HasOut (Taken u (Cut_at i ∷ cs) (Array_datum r ds)) (cut (Cut_at i ∷ cs) (Array_datum r ds))
      inside r ds b m = let z = size_like h r ds m in
          has_as (Cut_row u cs ds) (Taken u (Cut_at i ∷ cs) (Array_datum r ds)) _ (λ e q. (q.0, λ row n. q.1 (inner row) (inner_like row r ds n)))
          (row_there (Known_row x (inner h) ds) (Cut_row u cs ds) i (listed ds) (cut cs) (omega (arith, z, lt)) (known_rows x (inner h) r ds b (inner_like h r ds m)) (λ e k. cut_row x u (inner h) cs ds rest e k))

  -- so many of the rows, each cut
  some_cut : (x u : Ty) (h r : Shape) (ds : Datums) (cs : List Cut) (xs : List Datum) → Cuts_fit x u h cs → Every (Known_row x h ds) xs → All_datums (Like r) ds
      → HasOut (λ e. D (array_ty u) e × ((row : Shape) → All_datums (Like row) ds → Like (Array_shape (length xs) (cut_shape cs row)) e)) (and_then (each_out (cut cs) xs) (λ es. Val (Array_datum (cut_shape cs r) (datums es))))
  some_cut x u h r ds cs xs rest e own = has_then (λ es. Every (Cut_row u cs ds) es × (length es ≡ length xs)) _ (each_out (cut cs) xs) (λ es. Val (Array_datum (cut_shape cs r) (datums es))) (has_so_many (Known_row x h ds) (Cut_row u cs ds) (cut cs) (λ d k. cut_row x u h cs ds rest d k) xs e)
      (λ es q. (
        of_rows N are T M budget total tops K u (cut_shape cs r) es (every_as (Cut_row u cs ds) (A_row u (cut_shape cs r)) es (λ y p. (p.0, p.1 r own)) q.0),
        λ row m. array_like (length xs) (cut_shape cs row) (cut_shape cs r) (datums es) (ap length (listed_datums es) ∙ q.1) (every_datums (Like (cut_shape cs row)) es (every_as (Cut_row u cs ds) (Like (cut_shape cs row)) es (λ y p. p.1 row m) q.0)),
      ))

  own_rows : (x : Ty) (r : Shape) (ds : Datums) → All_datums (λ d. D x d × Like r d) ds → All_datums (Like r) ds
  own_rows x r no_datum a = tt
  own_rows x r (datum_and d ds) a = (a.0.1, own_rows x r ds a.1)

  cut_slice : (x u : Ty) (h : Shape) (i j : ℕ) (cs : List Cut) → i ≤ j → j ≤ size h → Cuts_fit x u (inner h) cs → Cuts_fit (array_ty x) (array_ty u) h (Cut_slice i j ∷ cs)
  unfolding cut
  cut_slice x u h i j cs le below rest d a l = let v = array_view N are T M budget total tops K x d a in
      subst (λ z. HasOut (Taken (array_ty u) (Cut_slice i j ∷ cs) z) (cut (Cut_slice i j ∷ cs) z)) (sym v.2) (inside v.0 v.1 v.3 (subst (Like h) v.2 l))
    where
      inside : (r : Shape) (ds : Datums) → All_datums (λ d. D x d × Like r d) ds → Like h (Array_datum r ds) → HasOut (Taken (array_ty u) (Cut_slice i j ∷ cs) (Array_datum r ds)) (cut (Cut_slice i j ∷ cs) (Array_datum r ds))
      inside r ds b m =
          let z = size_like h r ds m in
          let xs : List Datum = take (j - i) (drop i (listed ds)) in
          let t1 = length-take (j - i) (drop i (listed ds)) in
          let t2 = length-drop i (listed ds) in
          let many : length xs ≡ j - i = omega (arith, z, le, below, t1, t2) in
          has_as _ (Taken (array_ty u) (Cut_slice i j ∷ cs) (Array_datum r ds)) _ (λ e q. (q.0, λ row n. subst (λ k. Like (Array_shape k (cut_shape cs (inner row))) e) many (q.1 (inner row) (inner_like row r ds n))))
          (some_cut x u (inner h) r ds cs xs rest (every_taken (Known_row x (inner h) ds) (j - i) (drop i (listed ds)) (every_dropped (Known_row x (inner h) ds) i (listed ds) (known_rows x (inner h) r ds b (inner_like h r ds m)))) (own_rows x r ds b))

  cut_backwards : (x u : Ty) (h : Shape) (cs : List Cut) → Cuts_fit x u (inner h) cs → Cuts_fit (array_ty x) (array_ty u) h (Cut_backwards ∷ cs)
  unfolding cut
  cut_backwards x u h cs rest d a l = let v = array_view N are T M budget total tops K x d a in
      subst (λ z. HasOut (Taken (array_ty u) (Cut_backwards ∷ cs) z) (cut (Cut_backwards ∷ cs) z)) (sym v.2) (inside v.0 v.1 v.3 (subst (Like h) v.2 l))
    where
      inside : (r : Shape) (ds : Datums) → All_datums (λ d. D x d × Like r d) ds → Like h (Array_datum r ds) → HasOut (Taken (array_ty u) (Cut_backwards ∷ cs) (Array_datum r ds)) (cut (Cut_backwards ∷ cs) (Array_datum r ds))
      inside r ds b m =
          has_as _ (Taken (array_ty u) (Cut_backwards ∷ cs) (Array_datum r ds)) _ (λ e q. (q.0, λ row n. subst (λ k. Like (Array_shape k (cut_shape cs (inner row))) e) (length-reverse (listed ds) ∙ size_like row r ds n) (q.1 (inner row) (inner_like row r ds n))))
          (some_cut x u (inner h) r ds cs (reverse (listed ds)) rest (every_reversed (Known_row x (inner h) ds) (listed ds) (known_rows x (inner h) r ds b (inner_like h r ds m))) (own_rows x r ds b))

  as_types : (x y t u : Ty) (h : Shape) (cs : List Cut) → x ≡ y → t ≡ u → Cuts_fit y u h cs → Cuts_fit x t h cs
  as_types x y t u h cs e f c = subst (λ z. Cuts_fit z t h cs) (sym e) (subst (λ z. Cuts_fit y z h cs) (sym f) c)

  -- one part and the rest
  abbrev One_cut : Shape → Pick → Cut → Type 0
  One_cut h (Pick_at z) (Cut_at i) = i < size h
  One_cut h (Pick_slice i j) (Cut_slice k l) = (k ≤ l) × (l ≤ size h)
  One_cut h Pick_backwards Cut_backwards = Unit {0}
  One_cut h q c = ⊥

  slice_is : (at : Place) (h : Shape) (i j : Option ℤ) (a b : ℤ) → HasOut (One_cut h (Pick_slice i j)) (slice_cut at (size h) a b)
  slice_is at h i j (pos a) (pos b) = has_checked (One_cut h (Pick_slice i j)) (nat_le a b && nat_le b (size h)) fail.Bounds at _ (λ e. let q = both_are (nat_le a b) (nat_le b (size h)) e in (leb-true a b q.0, leb-true b (size h) q.1))
  slice_is at h i j (pos a) (negsuc b) = tt
  slice_is at h i j (negsuc a) b = tt

  one_cut : (at : Place) (h : Shape) (q : Pick) → HasOut (One_cut h q) (cut_of at (size h) q)
  one_cut at h (Pick_at (pos i)) = has_checked (One_cut h (Pick_at (pos i))) (nat_le (suc i) (size h)) fail.Bounds at _ (λ e. leb-true (suc i) (size h) e)
  one_cut at h (Pick_at (negsuc i)) = tt
  one_cut at h (Pick_slice i j) = slice_is at h i j (or_else (pos 0) i) (or_else (pos (size h)) j)
  one_cut at h Pick_backwards = tt

  first_cut : (p : Part) (x u : Ty) (h : Shape) (q : Pick) (c : Cut) (cs : List Cut) → Picked (p ∷ []) (q ∷ []) → One_cut h q c → Cuts_fit x u (inner h) cs → Cuts_fit (array_ty x) (left_of p u) h (c ∷ cs)
  first_cut part.At x u h (Pick_at z) (Cut_at i) cs k o r = cut_one x u h i cs o r
  first_cut part.At x u h (Pick_at z) (Cut_slice i j) cs k o r = absurd o
  first_cut part.At x u h (Pick_at z) Cut_backwards cs k o r = absurd o
  first_cut part.At x u h (Pick_slice i j) c cs k o r = absurd k
  first_cut part.At x u h Pick_backwards c cs k o r = absurd k
  first_cut (part.Slice from to) x u h (Pick_at z) c cs k o r = absurd k
  first_cut (part.Slice from to) x u h (Pick_slice i j) (Cut_at n) cs k o r = absurd o
  first_cut (part.Slice from to) x u h (Pick_slice i j) (Cut_slice n m) cs k o r = cut_slice x u h n m cs o.0 o.1 r
  first_cut (part.Slice from to) x u h (Pick_slice i j) Cut_backwards cs k o r = absurd o
  first_cut (part.Slice from to) x u h Pick_backwards c cs k o r = absurd k
  first_cut part.Backwards x u h (Pick_at z) c cs k o r = absurd k
  first_cut part.Backwards x u h (Pick_slice i j) c cs k o r = absurd k
  first_cut part.Backwards x u h Pick_backwards (Cut_at n) cs k o r = absurd o
  first_cut part.Backwards x u h Pick_backwards (Cut_slice n m) cs k o r = absurd o
  first_cut part.Backwards x u h Pick_backwards Cut_backwards cs k o r = cut_backwards x u h cs r

  picked_both : (p : Part) (ps : List Part) (q : Pick) (qs : List Pick) → Picked (p ∷ ps) (q ∷ qs) → Picked (p ∷ []) (q ∷ []) × Picked ps qs
  picked_both part.At ps (Pick_at z) qs k = (tt, k)
  picked_both part.At ps (Pick_slice i j) qs k = absurd k
  picked_both part.At ps Pick_backwards qs k = absurd k
  picked_both (part.Slice from to) ps (Pick_at z) qs k = absurd k
  picked_both (part.Slice from to) ps (Pick_slice i j) qs k = (tt, k)
  picked_both (part.Slice from to) ps Pick_backwards qs k = absurd k
  picked_both part.Backwards ps (Pick_at z) qs k = absurd k
  picked_both part.Backwards ps (Pick_slice i j) qs k = absurd k
  picked_both part.Backwards ps Pick_backwards qs k = (tt, k)

  module _ (places : Kind) where
    cuts_fit : (at : Place) (ps : List Part) (qs : List Pick) (x t : Ty) (h : Shape) → Picked ps qs → Indexed N places K ps x t → HasOut (Cuts_fit x t h) (cuts at qs h)
    unfolding cuts cut
    cuts_fit at [] [] x t h k r = λ d a l. (as_type t x d r a, λ row m. m)
    cuts_fit at [] (q ∷ qs) x t h k r = absurd k
    cuts_fit at (p ∷ ps) [] x t h k r = absurd k
    cuts_fit at (p ∷ ps) (q ∷ qs) x t h k r = let b = picked_both p ps q qs k in
        has_then (One_cut h q) (Cuts_fit x t h) (cut_of at (size h) q) _ (one_cut at h q) (λ c o.
        has_then (Cuts_fit r.0 r.1 (inner h)) (Cuts_fit x t h) (cuts at qs (inner h)) _ (cuts_fit at ps qs r.0 r.1 (inner h) b.1 r.3) (λ cs w.
        as_types x (array_ty r.0) t (left_of p r.1) h (c ∷ cs) r.2.0 r.4 (first_cut p r.0 r.1 h q c cs b.0 o w)))

    indexed_fits : (at : Place) (ps : List Part) (x t : Ty) (d : Datum) (is : List Datum) → HasKind K kind.Data x → length is ≡ bounds ps → Indexed N places K ps x t → D x d → Every (D i64_ty) is → HasOut (D t) (indexed at ps d is)
    unfolding indexed
    indexed_fits at ps x t d is k long r a e =
        has_then (λ zs. Every (λ z. Unit {0}) zs × (length zs ≡ length is)) (D t) (each_out exact_of is) _ (has_so_many (D i64_ty) (λ z. Unit {0}) exact_of (integer_exact N are T M budget total tops K int.I64) is e) (λ zs z.
        has_then (Picked ps) (D t) (picks ps zs) _ (picks_fit ps zs (z.1 ∙ long)) (λ qs q.
        has_then (Cuts_fit x t (shape_of d)) (D t) (cuts at qs (shape_of d)) _ (cuts_fit at ps qs x t (shape_of d) q r) (λ cs w.
        has_then (Taken t cs d) (D t) (cut cs d) _ (w d a (self_like N are T M budget total tops K x d k a)) (λ y v.
        has_checked (D t) (nat_le (weight (shape_of y)) most_words) fail.TooLarge at _ (λ l. v.0)))))

  -- ---- updates

  abbrev Update_fits : Place → Ty → List ℤ → Datum → Type 0
  Update_fits at x zs v = (d : Datum) → D x d → HasOut (λ e. D x e × ((h : Shape) → Like h d → Like h e)) (updated false at zs v d)

  whole_fits : (at : Place) (x : Ty) (v : Datum) → HasKind K kind.Data x → D x v → Update_fits at x [] v
  unfolding updated
  whole_fits at x v k b d a = has_fitting (λ e. D x e × ((h : Shape) → Like h d → Like h e)) (same_sizes (shape_of d) (shape_of v)) at _ (λ s.
      let own = self_like N are T M budget total tops K x d k a in
      (b, λ h l. through_like N are T M budget total tops K x k h (shape_of d) d v a b l own (same_like N are T M budget total tops K x k (shape_of d) (shape_of v) d v a b own (self_like N are T M budget total tops K x v k b) s)))

  get_every : (P : Datum → Type 0) (n : ℕ) (xs : List Datum) (e : Datum) → slice_get xs n ≡ Some e → Every P xs → P e
  get_every P n [] e q a = let z : None ≡ Some e = q in cc
  get_every P zero (x ∷ xs) e q a = let z : Some x ≡ Some e = q in subst P (some_is z) a.0
  get_every P (suc n) (x ∷ xs) e q a = get_every P n xs e q a.1

  row_fits : (at : Place) (x : Ty) (zs : List ℤ) (v : Datum) → Update_fits at x zs v → (z : ℤ) → Update_fits at (array_ty x) (z ∷ zs) v
  unfolding updated
  row_fits at x zs v go z d a = let w = array_view N are T M budget total tops K x d a in
      subst (λ y. HasOut (λ e. D (array_ty x) e × ((h : Shape) → Like h y → Like h e)) (updated false at (z ∷ zs) v y)) (sym w.2) (inside z w.0 w.1 w.3)
    where
      inside : (z : ℤ) (r : Shape) (ds : Datums) → All_datums (λ d. D x d × Like r d) ds → HasOut (λ e. D (array_ty x) e × ((h : Shape) → Like h (Array_datum r ds) → Like h e)) (updated false at (z ∷ zs) v (Array_datum r ds))
      inside (negsuc n) r ds b = tt
      inside (pos n) r ds b = found (slice_get (listed ds) n) refl
        where
          found : (o : Option Datum) → slice_get (listed ds) n ≡ o → HasOut (λ e. D (array_ty x) e × ((h : Shape) → Like h (Array_datum r ds) → Like h e)) (and_then (or_bounds at o) (λ e. and_then (updated false at zs v e) (λ e'. Val (Array_datum r (datums (slice_set (listed ds) (unsigned_abs (pos n)) e'))))))
          found None q = tt
          found (Some e) q =
              let rows = every_listed (λ d. D x d × Like r d) ds b in
              let own = get_every (λ d. D x d × Like r d) n (listed ds) e q rows in
              has_then (λ y. D x y × ((h : Shape) → Like h e → Like h y)) (λ y. D (array_ty x) y × ((h : Shape) → Like h (Array_datum r ds) → Like h y)) (updated false at zs v e) _ (go e own.0) (λ y p. (
                of_rows N are T M budget total tops K x r (slice_set (listed ds) n y) (every_set (A_row x r) n (listed ds) y rows (p.0, p.1 r own.1)),
                λ h l. other_rows h r ds (datums (slice_set (listed ds) n y)) (ap length (listed_datums (slice_set (listed ds) n y)) ∙ length-set (listed ds) n y)
                    (λ m. every_datums (Like (inner h)) (slice_set (listed ds) n y) (every_set (Like (inner h)) n (listed ds) y (every_listed (Like (inner h)) ds m) (p.1 (inner h) (get_every (Like (inner h)) n (listed ds) e q (every_listed (Like (inner h)) ds m))))) l,
              ))

  module _ (places : Kind) (wide : level kind.Data ≤ level places) where
    pub data_kind : (x : Ty) → HasKind K places x → HasKind K kind.Data x
    data_kind x k = omega (arith, wide, k)

    updates_fit : (at : Place) (vs : Tys) (x : Ty) (ds : List Datum) → HasKind K kind.Data x → Updated N places K x vs → Data vs ds → HasOut (λ r. HasOut (λ zs. Update_fits at x zs r.1) (each_out exact_of r.0)) (last_apart ds)
    updates_fit at none x ds k u h = absurd u
    updates_fit at (more v none) x [] k u h = absurd h
    updates_fit at (more v none) x (d ∷ []) k u h = whole_fits at x d k (as_type x v d (sym u) h.0)
    updates_fit at (more v none) x (d ∷ e ∷ ds) k u h = absurd h.1
    updates_fit at (more i (more v vs)) x [] k u h = absurd h
    updates_fit at (more i (more v vs)) x (d ∷ []) k u h = absurd h.1
    updates_fit at (more i (more v vs)) x (d ∷ e ∷ ds) k u h =
        let el : Ty = u.1.0 in
        let arr = u.1.1 in
        has_then (λ r. HasOut (λ zs. Update_fits at el zs r.1) (each_out exact_of r.0)) _ (last_apart (e ∷ ds)) _ (updates_fit at (more v vs) el (e ∷ ds) (data_kind el arr.1) u.1.2 h.1) (λ r q.
        has_then (λ z. Unit {0}) _ (exact_of d) _ (integer_exact N are T M budget total tops K int.I64 d (as_type i64_ty i d (sym u.0) h.0)) (λ z any.
        has_then (λ zs. Update_fits at el zs r.1) _ (each_out exact_of r.0) _ q (λ zs w.
        subst (λ y. Update_fits at y (z ∷ zs) r.1) (sym arr.0) (row_fits at el zs r.1 w z))))

    -- ---- ranges

    stepped_rows : (i : IntType) (ts : Tys) (z step : ℤ) (n : ℕ) → Every (A_row (Made (head.Scalar (types.Int i)) ts) (Scalar_shape (types.Int i))) (stepped_from i z step n)
    unfolding Fits
    stepped_rows i ts z step zero = tt
    stepped_rows i ts z step (suc n) = ((refl, scalar_like (Scalar_shape (types.Int i)) _), stepped_rows i ts (z +ℤ step) step n)

    range_of_fits : (at : Place) (i : IntType) (ts : Tys) (z step : ℤ) (o : Option ℕ) → HasOut (D (array_ty (Made (head.Scalar (types.Int i)) ts))) (range_of at i z step o)
    range_of_fits at i ts z step None = tt
    range_of_fits at i ts z step (Some n) = has_checked (D (array_ty (Made (head.Scalar (types.Int i)) ts))) (nat_le n most_words) fail.TooLarge at _ (λ l.
        of_rows N are T M budget total tops K (Made (head.Scalar (types.Int i)) ts) (Scalar_shape (types.Int i)) (stepped_from i z step n) (stepped_rows i ts z step n))

    range_by_fits : (at : Place) (i : IntType) (ts : Tys) (e : End) (from step to : ℤ) → HasOut (D (array_ty (Made (head.Scalar (types.Int i)) ts))) (range_by at e i from step to)
    range_by_fits at i ts e from step to = range_of_fits at i ts from step (range_count e from step to)

    integer_is : (i : IntType) (ts : Tys) (d : Datum) → D (Made (head.Scalar (types.Int i)) ts) d → (n : ℕ) × (d ≡ Scalar_datum (scalar.Int i n))
    unfolding Fits
    integer_is i ts (Scalar_datum (scalar.Int u n)) h = (n, ap (λ y. Scalar_datum (scalar.Int y n)) h)
    integer_is i ts (Scalar_datum (scalar.Bool b)) h = absurd h
    integer_is i ts (Tuple_datum ds) h = absurd h
    integer_is i ts (Record_datum fs) h = absurd h
    integer_is i ts (Array_datum row ds) h = absurd h

    -- all numbers of a range have one integer type
    range_fits : (at : Place) (stepped : Bool) (e : End) (i : IntType) (us : Tys) (ds : List Datum) → Every (D (Made (head.Scalar (types.Int i)) us)) ds → length ds ≡ count_of stepped → HasOut (D (array_ty (Made (head.Scalar (types.Int i)) us))) (range at stepped e ds)
    unfolding range
    range_fits at false e i us [] a l = absurd (omega (arith, l))
    range_fits at false e i us (x ∷ []) a l = absurd (omega (arith, l))
    range_fits at false e i us (x ∷ y ∷ z ∷ ds) a l = absurd (omega (arith, l))
    range_fits at false e i us (x ∷ y ∷ []) a l =
        let p = integer_is i us x a.0 in
        let q = integer_is i us y a.1.0 in
        subst (λ v. HasOut (D (array_ty (Made (head.Scalar (types.Int i)) us))) (range at false e (v ∷ y ∷ []))) (sym p.1)
        (subst (λ v. HasOut (D (array_ty (Made (head.Scalar (types.Int i)) us))) (range at false e (Scalar_datum (scalar.Int i p.0) ∷ v ∷ []))) (sym q.1) (range_by_fits at i us e (integer_of i p.0) (unit_step e) (integer_of i q.0)))
    range_fits at true e i us [] a l = absurd (omega (arith, l))
    range_fits at true e i us (x ∷ []) a l = absurd (omega (arith, l))
    range_fits at true e i us (x ∷ y ∷ []) a l = absurd (omega (arith, l))
    range_fits at true e i us (x ∷ y ∷ z ∷ w ∷ ds) a l = absurd (omega (arith, l))
    range_fits at true e i us (x ∷ y ∷ z ∷ []) a l =
        let p = integer_is i us x a.0 in
        let q = integer_is i us y a.1.0 in
        let r = integer_is i us z a.1.1.0 in
        subst (λ v. HasOut (D (array_ty (Made (head.Scalar (types.Int i)) us))) (range at true e (v ∷ y ∷ z ∷ []))) (sym p.1)
        (subst (λ v. HasOut (D (array_ty (Made (head.Scalar (types.Int i)) us))) (range at true e (Scalar_datum (scalar.Int i p.0) ∷ v ∷ z ∷ []))) (sym q.1)
        (subst (λ v. HasOut (D (array_ty (Made (head.Scalar (types.Int i)) us))) (range at true e (Scalar_datum (scalar.Int i p.0) ∷ Scalar_datum (scalar.Int i q.0) ∷ v ∷ []))) (sym r.1) (range_by_fits at i us e (integer_of i p.0) (integer_of i q.0 -ℤ integer_of i p.0) (integer_of i r.0))))

    -- ---- what is made

    same_made : (t x : Ty) (o : Out Counted) → t ≡ x → HasOut (Of_counted (D x)) o → HasOut (Of_counted (D t)) o
    same_made t x o e h = subst (λ y. HasOut (Of_counted (D y)) o) (sym e) h

    pub array_is : (told : Shape) (at : Place) (t el : Ty) (ts : Tys) (ds : List Datum) → IsArray places K t el → All_are el ts → Data ts ds → HasOut (Of_counted (D t)) (made false told Make_array at ds)
    unfolding made
    array_is told at t el ts ds arr a h = same_made t (array_ty el) _ arr.0 (has_fresh (D (array_ty el)) _ (array_made N are T M budget total tops K el (data_kind el arr.1) at told ds (all_as el ts ds a h)))

    as_long : (ts : Tys) (ds : List Datum) → Data ts ds → length ds ≡ count ts
    as_long none [] h = refl
    as_long none (d ∷ ds) h = absurd h
    as_long (more t ts) [] h = absurd h
    as_long (more t ts) (d ∷ ds) h = let r = as_long ts ds h.1 in omega (arith, r)

    pub array_has : (x el : Ty) → IsArray places K x el → HasKind K kind.Data x
    array_has x el arr = subst (λ y. HasKind K kind.Data y) (sym arr.0) (array_kind N are T M budget total tops K el (data_kind el arr.1))

    pub index_is : (told : Shape) (at : Place) (ps : List Part) (t x : Ty) (is : Tys) (ds : List Datum) → HasKind K kind.Data x → All_are i64_ty is → count is ≡ bounds ps → Indexed N places K ps x t → Data (more x is) ds → HasOut (Of_counted (D t)) (made false told (Make_index ps) at ds)
    unfolding made
    index_is told at ps t x is [] k a c r h = absurd h
    index_is told at ps t x is (d ∷ ds) k a c r h = has_shared (D t) _ (indexed_fits places at ps x t d ds k (as_long is ds h.1 ∙ c) r h.0 (all_as i64_ty is ds a h.1))

    pub update_is : (told : Shape) (at : Place) (t x : Ty) (vs : Tys) (ds : List Datum) → HasKind K kind.Data x → t ≡ x → Updated N places K x vs → Data (more x vs) ds → HasOut (Of_counted (D t)) (made false told Make_update at ds)
    unfolding made
    update_is told at t x vs [] k e u h = absurd h
    update_is told at t x vs (d ∷ ds) k e u h = same_made t x _ e
        (has_then (λ r. HasOut (λ zs. Update_fits at x zs r.1) (each_out exact_of r.0)) (Of_counted (D x)) (last_apart ds) _ (updates_fit at vs x ds k u h.1) (λ r q.
        has_then (λ zs. Update_fits at x zs r.1) (Of_counted (D x)) (each_out exact_of r.0) _ q (λ zs w. has_shared (D x) _ (has_as _ (D x) (updated false at zs r.1 d) (λ y p. p.0) (w d h.0)))))

    pub range_is : (told : Shape) (at : Place) (stepped : Bool) (e : End) (t el : Ty) (ts : Tys) (ds : List Datum) → IsArray places K t el → HasKind K kind.Integer el → All_are el ts → count ts ≡ count_of stepped → Data ts ds → HasOut (Of_counted (D t)) (made false told (Make_range stepped e) at ds)
    unfolding made
    range_is told at stepped e t el ts ds arr k a c h = same_made t (array_ty el) _ arr.0 (has_fresh (D (array_ty el)) _ (by_first ds (all_as el ts ds a h) (as_long ts ds h ∙ c)))
      where
        some_count : (b : Bool) → 0 ≡ count_of b → ⊥
        some_count true e = omega (arith, e)
        some_count false e = omega (arith, e)

        by_first : (ds : List Datum) → Every (D el) ds → length ds ≡ count_of stepped → HasOut (D (array_ty el)) (range at stepped e ds)
        by_first [] b l = absurd (some_count stepped l)
        by_first (d ∷ ds) b l = let r = integer_fits N T M budget total tops K el (as_value d) k b.0 in
            subst (λ y. HasOut (D (array_ty y)) (range at stepped e (d ∷ ds))) (sym r.3) (range_fits at stepped e r.0 r.1 (d ∷ ds) (subst (λ y. Every (D y) (d ∷ ds)) r.3 b) l)

    -- ---- data of the parts
    abbrev pub All_kinds : Tys → Type 0
    All_kinds none = Unit {0}
    All_kinds (more t ts) = HasKind K kind.Data t × All_kinds ts

    pub kinds_are : (u : Ty) (ts : Tys) → HasKind K kind.Data u → All_are u ts → All_kinds ts
    kinds_are u none k a = tt
    kinds_are u (more t ts) k a = (subst (λ y. HasKind K kind.Data y) (sym a.0) k, kinds_are u ts k a.1)

    pub all_data_are : (ts : Tys) (vs : List FlatValue) → All_kinds ts → Each_fits N T M budget total ts tops vs → (ds : List Datum) × (all_data vs ≡ Val ds) × Data ts ds
    all_data_are none [] k h = ([], refl, tt)
    all_data_are none (v ∷ vs) k h = absurd h
    all_data_are (more t ts) [] k h = absurd h
    all_data_are (more t ts) (v ∷ vs) k h =
        let i = fits_data N are T M budget total tops K t v k.0 h.0 in
        let r = all_data_are ts vs k.1 h.1 in
        (i.0 ∷ r.0, ap (λ z. and_then z (λ d. and_then (all_data vs) (λ ds. Val (d ∷ ds)))) i.1 ∙ ap (λ z. and_then z (λ ds. Val (i.0 ∷ ds))) r.1, (subst (λ y. Fits N T M budget total t tops y) i.2 h.0, r.2))
