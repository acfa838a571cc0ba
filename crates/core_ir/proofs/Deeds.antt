-- Steps on arrays of their sorts report, or give arrays of their sorts.
use Rattle.std.proofs.Common.{◌≡◌, ℕ, zero, suc, ◌*◌, ◌-◌, ◌≤◌, nat_eq, nat_lt, Bool, true, false, cond, List, [], ◌∷◌, ◌++◌, map, take, drop, reverse, length, replicate, slice_get, slice_set, Option, Some, None, ℤ, pos, negsuc, ◌+ℤ◌, ◌-ℤ◌, unsigned_abs, refl, sym, ap, ◌∙◌, subst, arith, mul-one}
use Rattle.std.specs.Int.{int_rem_euclid}
use Rattle.std.proofs.lemmas.List.{append-nil, length-map}
use Rattle.fut_scalar.specs.Integers.{integer_of}
use Rattle.fut_scalar.specs.declared.place.Place.{Place}
use Rattle.fut_scalar.specs.declared.report.FailKind.TheVariants as kind
use Rattle.fut_scalar.specs.declared.scalar.IntType.{IntType}
use Rattle.fut_scalar.specs.declared.scalar.IntType.TheVariants.{I64}
use Rattle.fut_scalar.specs.declared.scalar.Scalar.{Scalar}
use Rattle.fut_scalar.specs.declared.scalar.Scalar.TheVariants as scalar
use Rattle.fut_scalar.specs.declared.scalar.ScalarType.{ScalarType}
use Rattle.fut_scalar.specs.declared.scalar.ScalarType.TheVariants as sort
use Rattle.fut_arithmetic.specs.Types.{type_of}
use Rattle.fut_ast.specs.declared.node.End.{End}
use Rattle.fut_flat.specs.declared.act.Part.{Part}
use Rattle.fut_flat.specs.declared.act.Part.TheVariants as part
use Rattle.fut_value.specs.Leaves.{in_rows}
use Rattle.fut_meaning.specs.Accessors.{count_of}
use Rattle.fut_meaning.specs.Arrays.{each_out, or_bounds, Pick, Pick_at, Pick_slice, Pick_backwards, and_pick, picks, Cut, Cut_at, Cut_slice, Cut_backwards, slice_cut, or_else, cut_of, integer_of_scalar, unit_step, range_count}
use Rattle.fut_meaning.specs.Claims.{HasOut}
use Rattle.fut_meaning.specs.Meaning.{counts}
use Rattle.fut_meaning.specs.Outcomes.{Out, Val, and_then}
use Rattle.fut_meaning.specs.Sames.{All_same, all_none, all_more}
use Rattle.fut_meaning.proofs.Safe.{Every}
use Rattle.fut_meaning.proofs.Sims.{append_same, length_same}
use Rattle.core_ir.specs.Lists.{parts, paired, around, joined, at_position, crossed, and_write, writes}
use Rattle.core_ir.specs.Bundles.{Component, Many, Row, all_sizes, all_same_sizes, rows_of, row_sizes, stacked}
use Rattle.core_ir.specs.Arrays.{exact_in, sized, sized_by, i64, told_sizes, all_told, flat, numbers_below, stepped_from, range_of, range, array_rows, array_sizes, rows_together, sizes_together, inner_rows, inner_sizes, stacked_twice, first_size, cuts, cut_sizes, cut, first_sizes, indexed, row_at, in_place_of, updated, numbers_in, agree, written, done}
use Rattle.core_ir.specs.Plain.{Deed}
use Rattle.core_ir.specs.Typed.{Sort, lifted, Bundled, bare, full, Integer, integer, Integers, no_integer, integer_and, Told, Each_is, no_more, and_more, asked, Index_gives, at_end, last_row, row_then, slice_then, reverse_then, Has_row, its_row, in_row, Together, one_bundle, and_bundles, Deed_gives, index_gives, transpose_gives, own_gives, literal_gives, empty_gives, iota_gives, range_gives, stepped_gives, replicate_gives, concat_gives, rotate_gives, copy_gives, zip_gives, flatten_gives, unflatten_gives, update_gives}
use Rattle.core_ir.specs.Programs.{All_of_type, no_cell, cell_and, Is_of, one_is, many_is, AreOf}
use Rattle.core_ir.proofs.Having.{every_more, every_taken, every_dropped, every_reversed, every_copy, every_set, every_made, every_found, has_then, has_fitting, has_checked, has_each, has_bounds}
use Rattle.core_ir.proofs.Sorted.{Rows, rows_full, rows_bundled, Sizes_fit, sizes_of, dropped_fit, row_sizes_fit, row_sizes_full, row_sizes_bundled, in_rows_fit, stacked_has, within_has, glued_has, glued_some}

abbrev pub Any : {A : Type 0} → A → Type 0
Any a = Unit {0}

-- ---- integers

exact_scalar : (s : Scalar) (t : IntType) → type_of s ≡ sort.Int t → HasOut Any (integer_of_scalar s)
exact_scalar (scalar.Int u n) t e = tt
exact_scalar (scalar.Bool b) t e = absurd (let z : sort.Bool ≡ sort.Int t = e in cc)

pub exact_has : (c : Component) (s : Sort) → Integer s → Is_of c s → HasOut Any (exact_in c)
exact_has _ _ (integer {t}) (one_is {s = x} e) = exact_scalar x t e

abbrev So_many : {A : Type 0} → ℕ → List A → Type 0
So_many n xs = length xs ≡ n

pub integers_have : (cs : Row) (ss : List Sort) → Integers ss → AreOf cs ss → HasOut (So_many (length ss)) (each_out exact_in cs)
integers_have _ _ no_integer all_none = refl
integers_have _ _ (integer_and {s} {ss} i is) (all_more {x = c} {xs = cs} h a) =
    has_then Any (So_many (suc (length ss))) (exact_in c) _ (exact_has c s i h) (λ z u. has_then (So_many (length ss)) (So_many (suc (length ss))) (each_out exact_in cs) _ (integers_have cs ss is a) (λ zs e. ap suc e))

told_has : (cs : Row) (ss : List Sort) (s : Sort) → Told ss s → AreOf cs ss → HasOut (So_many s.1) (told_sizes cs)
told_has cs ss s t a = has_then (So_many (length ss)) (So_many s.1) (each_out exact_in cs) _ (integers_have cs ss t.are a) (λ zs e. length-map zs count_of ∙ e ∙ t.many)

abbrev pub Groups_of : List Row → List (List Sort) → Type 0
Groups_of = All_same AreOf

pub all_told_have : (css : List Row) (sss : List (List Sort)) (row : List Sort) → All_same Told sss row → Groups_of css sss → HasOut (λ ds. Sizes_fit ds row) (all_told css)
all_told_have _ _ _ all_none all_none = all_none
all_told_have _ _ _ (all_more {x = ss} {x' = s} {xs = sss} {xs' = row} t ts) (all_more {x = cs} {xs = css} h a) =
    has_then (So_many s.1) (λ ds. Sizes_fit ds (s ∷ row)) (told_sizes cs) _ (told_has cs ss s t h) (λ d e. has_then (λ ds. Sizes_fit ds row) (λ ds. Sizes_fit ds (s ∷ row)) (all_told css) _ (all_told_have css sss row ts a) (λ ds f. all_more e f))

sized_has : {A : Type 0} (P : A → Type 0) (at : Place) (z : ℤ) (k : ℕ → Out A) → ((n : ℕ) → HasOut P (k n)) → HasOut P (sized at z k)
sized_has P at (pos n) k h = h n
sized_has P at (negsuc n) k h = tt

pub sized_by_has : {A : Type 0} (P : A → Type 0) (at : Place) (c : Component) (s : Sort) → Integer s → Is_of c s → (k : ℕ → Out A) → ((n : ℕ) → HasOut P (k n)) → HasOut P (sized_by at c k)
sized_by_has P at c s i h k l = has_then Any P (exact_in c) _ (exact_has c s i h) (λ z u. sized_has P at z k l)

-- ---- arrays of scalars

abbrev One_array : ScalarType → Row → Type 0
One_array t bs = AreOf bs ((t, 1) ∷ [])

flat_has : (at : Place) (t : ScalarType) (n : ℕ) (ws : List Scalar) → length ws ≡ n → All_of_type t ws → HasOut (One_array t) (flat at n ws)
flat_has at t n ws e a = within_has (One_array t) at (Many (n ∷ []) ws ∷ []) (all_more (many_is refl (e ∙ sym (mul-one n)) a) all_none)

counts_long : (n i : ℕ) → length (counts n i) ≡ n
counts_long zero i = refl
counts_long (suc n) i = ap suc (counts_long n (suc i))

i64_are : (ns : List ℕ) → All_of_type (sort.Int I64) (map i64 ns)
i64_are [] = no_cell
i64_are (n ∷ ns) = cell_and refl (i64_are ns)

stepped_long : (t : IntType) (z step : ℤ) (n : ℕ) → length (stepped_from t z step n) ≡ n
stepped_long t z step zero = refl
stepped_long t z step (suc n) = ap suc (stepped_long t (z +ℤ step) step n)

stepped_are : (t : IntType) (z step : ℤ) (n : ℕ) → All_of_type (sort.Int t) (stepped_from t z step n)
stepped_are t z step zero = no_cell
stepped_are t z step (suc n) = cell_and refl (stepped_are t (z +ℤ step) step n)

range_of_has : (at : Place) (t : IntType) (from step : ℤ) (o : Option ℕ) → HasOut (One_array (sort.Int t)) (range_of at t from step o)
range_of_has at t from step None = tt
range_of_has at t from step (Some n) = flat_has at (sort.Int t) n (stepped_from t from step n) (stepped_long t from step n) (stepped_are t from step n)

no_truth : {X : Type 0} (t : IntType) → sort.Bool ≡ sort.Int t → X
no_truth t e = absurd (let z : sort.Bool ≡ sort.Int t = e in cc)

range_has : (at : Place) (e : End) (t : IntType) (x y : Scalar) → type_of x ≡ sort.Int t → type_of y ≡ sort.Int t → HasOut (One_array (sort.Int t)) (range at false e (x ∷ y ∷ []))
range_has at e t (scalar.Int u m) (scalar.Int v n) p q = subst (λ z. HasOut (One_array z) (range at false e (scalar.Int u m ∷ scalar.Int v n ∷ []))) p (range_of_has at u (integer_of u m) (unit_step e) (range_count e (integer_of u m) (unit_step e) (integer_of u n)))
range_has at e t (scalar.Int u m) (scalar.Bool b) p q = no_truth t q
range_has at e t (scalar.Bool b) y p q = no_truth t p

stepped_has : (at : Place) (e : End) (t : IntType) (x y w : Scalar) → type_of x ≡ sort.Int t → type_of y ≡ sort.Int t → type_of w ≡ sort.Int t → HasOut (One_array (sort.Int t)) (range at true e (x ∷ y ∷ w ∷ []))
stepped_has at e t (scalar.Int u m) (scalar.Int v k) (scalar.Int w n) p q r = subst (λ z. HasOut (One_array z) (range at true e (scalar.Int u m ∷ scalar.Int v k ∷ scalar.Int w n ∷ []))) p (range_of_has at u (integer_of u m) (integer_of u k -ℤ integer_of u m) (range_count e (integer_of u m) (integer_of u k -ℤ integer_of u m) (integer_of u n)))
stepped_has at e t (scalar.Int u m) (scalar.Int v k) (scalar.Bool b) p q r = no_truth t r
stepped_has at e t (scalar.Int u m) (scalar.Bool b) w p q r = no_truth t q
stepped_has at e t (scalar.Bool b) y w p q r = no_truth t p

-- ---- rows side by side, joined, in groups and crossed

around_are : {A : Type 0} (P : A → Type 0) (z : ℤ) (xs : List A) → Every P xs → Every P (around z xs)
around_are P z xs e = every_more P (drop (unsigned_abs (int_rem_euclid z (pos (length xs)))) xs) (take (unsigned_abs (int_rem_euclid z (pos (length xs)))) xs) (every_dropped P _ xs e) (every_taken P _ xs e)

paired_are : (ss ts : List Sort) (rs qs : List Row) → Rows ss rs → Rows ts qs → Rows (ss ++ ts) (paired rs qs)
paired_are ss ts [] qs e f = tt
paired_are ss ts (r ∷ rs) [] e f = tt
paired_are ss ts (r ∷ rs) (q ∷ qs) e f = (append_same e.0 f.0, paired_are ss ts rs qs e.1 f.1)

joined_are : {A : Type 0} (P : A → Type 0) (xss : List (List A)) → Every (Every P) xss → Every P (joined xss)
joined_are P [] e = tt
joined_are P (xs ∷ xss) e = every_more P xs (joined xss) e.0 (joined_are P xss e.1)

parts_are : {A : Type 0} (P : A → Type 0) (n k : ℕ) (xs : List A) → Every P xs → Every (Every P) (parts n k xs)
parts_are P zero k xs e = tt
parts_are P (suc n) k xs e = (every_taken P k xs e, parts_are P n k (drop k xs) (every_dropped P k xs e))

position_are : {A : Type 0} (P : A → Type 0) (k : ℕ) (xss : List (List A)) → Every (Every P) xss → Every P (at_position k xss)
position_are P k [] e = tt
position_are P k (xs ∷ xss) e = every_more P (take 1 (drop k xs)) (at_position k xss) (every_taken P 1 (drop k xs) (every_dropped P k xs e.0)) (position_are P k xss e.1)

crossed_are : {A : Type 0} (P : A → Type 0) (m : ℕ) (xss : List (List A)) → Every (Every P) xss → Every (Every P) (crossed m xss)
crossed_are P m xss e = every_made (Every P) (λ k. at_position k xss) (λ k. position_are P k xss e) (counts m 0)

inner_have : (at : Place) (s : Sort) (ss : List Sort) (rs : List Row) → Rows (lifted (s ∷ ss)) rs → HasOut (Every (Rows (s ∷ ss))) (inner_rows false at rs)
inner_have at s ss rs e = has_each (λ r. AreOf r (lifted (s ∷ ss))) (Rows (s ∷ ss)) (array_rows false at) (λ r a. rows_full at 0 s ss r a) rs e

drop_two : (d : List ℕ) (r : ℕ) → length d ≡ suc (suc r) → length (drop 2 d) ≡ r
drop_two [] r e = absurd (omega (arith, e))
drop_two (n ∷ []) r e = absurd (omega (arith, e))
drop_two (n ∷ m ∷ d) r e = omega (arith, e)

dropped_twice : (ss : List Sort) (ds : List (List ℕ)) → Sizes_fit ds (lifted (lifted ss)) → Sizes_fit (map (drop 2) ds) ss
dropped_twice [] _ all_none = all_none
dropped_twice (s ∷ ss) _ (all_more {x = d} {xs = ds} q f) = all_more (drop_two d s.1 q) (dropped_twice ss ds f)

inner_sizes_fit : (s : Sort) (ss : List Sort) (bs : Row) → AreOf bs (lifted (lifted (s ∷ ss))) → Sizes_fit (inner_sizes bs) (s ∷ ss)
inner_sizes_fit s ss bs a = dropped_twice (s ∷ ss) (all_sizes bs) (sizes_of (lifted (lifted (s ∷ ss))) bs a)

twice_has : (at : Place) (m : ℕ) (s : Sort) (ss : List Sort) (ds : List (List ℕ)) (rss : List (List Row)) → Sizes_fit ds (s ∷ ss) → Every (Rows (s ∷ ss)) rss → HasOut (λ bs. AreOf bs (lifted (lifted (s ∷ ss)))) (stacked_twice false at m ds rss)
twice_has at m s ss ds rss f e =
    has_then (Rows (lifted (s ∷ ss))) (λ bs. AreOf bs (lifted (lifted (s ∷ ss)))) (each_out (stacked false at ds) rss) _
    (has_each (Rows (s ∷ ss)) (λ r. AreOf r (lifted (s ∷ ss))) (stacked false at ds) (λ rs a. stacked_has at ds rs full f a) rss e)
    (λ rs a. glued_has at (in_rows m ds) rs full (in_rows_fit m ds full f) a)

-- ---- bundles side by side

pub together_have : (at : Place) (ws : List ℕ) (css : List Row) {bss : List (List Sort)} {row : List Sort} → Together ws bss row → Groups_of css bss → HasOut (Rows row) (rows_together false at ws css)
together_have at _ _ (one_bundle {w} b e) (all_more {x = bs} a all_none) = rows_bundled at w bs b e a
together_have at _ _ (and_bundles {w} {v} {ws} {ss} {rest = rest} b e t) (all_more {x = bs} {xs = css} a k) =
    has_then (Rows ss) (Rows (ss ++ rest)) (rows_of false at w bs) _ (rows_bundled at w bs b e a)
    (λ rs p. has_then (Rows rest) (Rows (ss ++ rest)) (rows_together false at (v ∷ ws) css) _ (together_have at (v ∷ ws) css t k) (λ qs q. has_fitting (Rows (ss ++ rest)) (nat_eq (length rs) (length qs)) at _ (λ z. paired_are ss rest rs qs p q)))

together_fit : (ws : List ℕ) (css : List Row) {bss : List (List Sort)} {row : List Sort} → Together ws bss row → Groups_of css bss → Sizes_fit (sizes_together ws css) row
together_fit _ _ (one_bundle {w} {ss} b e) (all_more {x = bs} a all_none) = subst (λ z. Sizes_fit z ss) (sym (append-nil (row_sizes w bs))) (row_sizes_bundled w bs b e a)
together_fit _ _ (and_bundles {w} {v} {ws} b e t) (all_more {x = bs} {xs = css} a k) = append_same (row_sizes_bundled w bs b e a) (together_fit (v ∷ ws) css t k)

-- ---- indices

-- what the parts of an index ask for
abbrev Picked : List Part → List Pick → Type 0
Picked [] [] = Unit {0}
Picked [] (q ∷ qs) = ⊥
Picked (p ∷ ps) [] = ⊥
Picked (part.At ∷ ps) (Pick_at z ∷ qs) = Picked ps qs
Picked (part.At ∷ ps) (q ∷ qs) = ⊥
Picked (part.Slice from to ∷ ps) (Pick_slice i j ∷ qs) = Picked ps qs
Picked (part.Slice from to ∷ ps) (q ∷ qs) = ⊥
Picked (part.Backwards ∷ ps) (Pick_backwards ∷ qs) = Picked ps qs
Picked (part.Backwards ∷ ps) (q ∷ qs) = ⊥

and_picked : (p : Part) (ps : List Part) (q : Pick) (o : Out (List Pick)) → ((qs : List Pick) → Picked ps qs → Picked (p ∷ ps) (q ∷ qs)) → HasOut (Picked ps) o → HasOut (Picked (p ∷ ps)) (and_pick q o)
and_picked p ps q o go h = has_then (Picked ps) (Picked (p ∷ ps)) o (λ qs. Val (q ∷ qs)) h go

picks_have : (ps : List Part) (zs : List ℤ) → length zs ≡ asked ps → HasOut (Picked ps) (picks ps zs)
unfolding picks
picks_have [] [] e = tt
picks_have [] (z ∷ zs) e = absurd (omega (arith, e))
picks_have (part.At ∷ ps) [] e = absurd (omega (arith, e))
picks_have (part.At ∷ ps) (z ∷ zs) e = and_picked part.At ps (Pick_at z) (picks ps zs) (λ qs q. q) (picks_have ps zs (omega (arith, e)))
picks_have (part.Slice true true ∷ ps) [] e = absurd (omega (arith, e))
picks_have (part.Slice true true ∷ ps) (z ∷ []) e = absurd (omega (arith, e))
picks_have (part.Slice true true ∷ ps) (z ∷ w ∷ zs) e = and_picked (part.Slice true true) ps (Pick_slice (Some z) (Some w)) (picks ps zs) (λ qs q. q) (picks_have ps zs (omega (arith, e)))
picks_have (part.Slice true false ∷ ps) [] e = absurd (omega (arith, e))
picks_have (part.Slice true false ∷ ps) (z ∷ zs) e = and_picked (part.Slice true false) ps (Pick_slice (Some z) None) (picks ps zs) (λ qs q. q) (picks_have ps zs (omega (arith, e)))
picks_have (part.Slice false true ∷ ps) [] e = absurd (omega (arith, e))
picks_have (part.Slice false true ∷ ps) (z ∷ zs) e = and_picked (part.Slice false true) ps (Pick_slice None (Some z)) (picks ps zs) (λ qs q. q) (picks_have ps zs (omega (arith, e)))
picks_have (part.Slice false false ∷ ps) zs e = and_picked (part.Slice false false) ps (Pick_slice None None) (picks ps zs) (λ qs q. q) (picks_have ps zs (omega (arith, e)))
picks_have (part.Backwards ∷ ps) zs e = and_picked part.Backwards ps Pick_backwards (picks ps zs) (λ qs q. q) (picks_have ps zs (omega (arith, e)))

-- and what is taken
pub data Cuts_for : List Part → List Cut → Type 0 where
  no_cut : Cuts_for [] []
  row_cut : {i : ℕ} {ps : List Part} {cs : List Cut} → Cuts_for ps cs → Cuts_for (part.At ∷ ps) (Cut_at i ∷ cs)
  slice_cut_is : {a b : Bool} {i j : ℕ} {ps : List Part} {cs : List Cut} → Cuts_for ps cs → Cuts_for (part.Slice a b ∷ ps) (Cut_slice i j ∷ cs)
  reverse_cut : {ps : List Part} {cs : List Cut} → Cuts_for ps cs → Cuts_for (part.Backwards ∷ ps) (Cut_backwards ∷ cs)

data One_cut : Part → Cut → Type 0 where
  one_row : {i : ℕ} → One_cut part.At (Cut_at i)
  one_slice : {a b : Bool} {i j : ℕ} → One_cut (part.Slice a b) (Cut_slice i j)
  one_reverse : One_cut part.Backwards Cut_backwards

slice_has : (at : Place) (n : ℕ) (a b : Bool) (i j : ℤ) → HasOut (One_cut (part.Slice a b)) (slice_cut at n i j)
slice_has at n a b (pos i) (pos j) = has_checked (One_cut (part.Slice a b)) _ kind.Bounds at (Val (Cut_slice i j)) one_slice
slice_has at n a b (pos i) (negsuc j) = tt
slice_has at n a b (negsuc i) j = tt

cut_of_has : (at : Place) (n : ℕ) (p : Part) (ps : List Part) (q : Pick) (qs : List Pick) → Picked (p ∷ ps) (q ∷ qs) → HasOut (One_cut p) (cut_of at n q)
cut_of_has at n part.At ps (Pick_at (pos i)) qs h = has_checked (One_cut part.At) _ kind.Bounds at (Val (Cut_at i)) one_row
cut_of_has at n part.At ps (Pick_at (negsuc i)) qs h = tt
cut_of_has at n part.At ps (Pick_slice i j) qs h = absurd h
cut_of_has at n part.At ps Pick_backwards qs h = absurd h
cut_of_has at n (part.Slice a b) ps (Pick_at z) qs h = absurd h
cut_of_has at n (part.Slice a b) ps (Pick_slice i j) qs h = slice_has at n a b (or_else (pos 0) i) (or_else (pos n) j)
cut_of_has at n (part.Slice a b) ps Pick_backwards qs h = absurd h
cut_of_has at n part.Backwards ps (Pick_at z) qs h = absurd h
cut_of_has at n part.Backwards ps (Pick_slice i j) qs h = absurd h
cut_of_has at n part.Backwards ps Pick_backwards qs h = one_reverse

behind_picked : (p : Part) (ps : List Part) (q : Pick) (qs : List Pick) → Picked (p ∷ ps) (q ∷ qs) → Picked ps qs
behind_picked part.At ps (Pick_at z) qs h = h
behind_picked part.At ps (Pick_slice i j) qs h = absurd h
behind_picked part.At ps Pick_backwards qs h = absurd h
behind_picked (part.Slice a b) ps (Pick_at z) qs h = absurd h
behind_picked (part.Slice a b) ps (Pick_slice i j) qs h = h
behind_picked (part.Slice a b) ps Pick_backwards qs h = absurd h
behind_picked part.Backwards ps (Pick_at z) qs h = absurd h
behind_picked part.Backwards ps (Pick_slice i j) qs h = absurd h
behind_picked part.Backwards ps Pick_backwards qs h = h

cut_and : {p : Part} {ps : List Part} {c : Cut} {cs : List Cut} → One_cut p c → Cuts_for ps cs → Cuts_for (p ∷ ps) (c ∷ cs)
cut_and one_row k = row_cut k
cut_and one_slice k = slice_cut_is k
cut_and one_reverse k = reverse_cut k

cuts_have : (at : Place) (ps : List Part) (qs : List Pick) (ds : List ℕ) → Picked ps qs → length ps ≤ length ds → HasOut (Cuts_for ps) (cuts at qs ds)
cuts_have at [] [] ds h le = no_cut
cuts_have at [] (q ∷ qs) ds h le = absurd h
cuts_have at (p ∷ ps) [] ds h le = absurd h
cuts_have at (p ∷ ps) (q ∷ qs) [] h le = absurd (omega (arith, le))
cuts_have at (p ∷ ps) (q ∷ qs) (n ∷ ds) h le =
    has_then (One_cut p) (Cuts_for (p ∷ ps)) (cut_of at n q) _ (cut_of_has at n p ps q qs h)
    (λ c k. has_then (Cuts_for ps) (Cuts_for (p ∷ ps)) (cuts at qs ds) _ (cuts_have at ps qs ds (behind_picked p ps q qs h) (omega (arith, le))) (λ cs l. cut_and k l))

-- how many dimensions the first array has
first_rank : List Sort → ℕ
first_rank [] = 0
first_rank (s ∷ ss) = s.1

deep_bundle : {ss bs : List Sort} → Bundled ss bs → 1 ≤ first_rank bs
unfolding first_rank
deep_bundle bare = omega arith
deep_bundle full = omega arith

deep_enough : {w : ℕ} {ps : List Part} {ss out : List Sort} → Index_gives w ps ss out → length ps ≤ first_rank ss
unfolding first_rank
deep_enough at_end = omega arith
deep_enough (last_row b e) = deep_bundle b
deep_enough (row_then i) = let h = deep_enough i in omega (arith, h)
deep_enough (slice_then i b) = let h = deep_enough i in omega (arith, h)
deep_enough (reverse_then i b) = let h = deep_enough i in omega (arith, h)

first_long : (bs : Row) (ss : List Sort) → Sizes_fit (all_sizes bs) ss → length (first_sizes bs) ≡ first_rank ss
unfolding first_rank
first_long [] _ all_none = refl
first_long (c ∷ bs) _ (all_more q f) = q

cut_sizes_fit : (w : ℕ) (cs : List Cut) {ps : List Part} {ss out : List Sort} (ds : List (List ℕ)) → Index_gives w ps ss out → Cuts_for ps cs → Sizes_fit ds ss → Sizes_fit (cut_sizes w cs ds) out
cut_sizes_fit w _ ds at_end no_cut f = f
cut_sizes_fit w _ ds (last_row b e) (row_cut no_cut) f = row_sizes_fit w ds b e f
cut_sizes_fit w _ ds (row_then {s} {ss} i) (row_cut (row_cut {i = k} {cs = cs} c)) f = cut_sizes_fit w (Cut_at k ∷ cs) (map (drop 1) ds) i (row_cut c) (dropped_fit (s ∷ ss) ds f)
cut_sizes_fit w _ ds (row_then {s} {ss} i) (row_cut (slice_cut_is {i = k} {j} {cs = cs} c)) f = cut_sizes_fit w (Cut_slice k j ∷ cs) (map (drop 1) ds) i (slice_cut_is c) (dropped_fit (s ∷ ss) ds f)
cut_sizes_fit w _ ds (row_then {s} {ss} i) (row_cut (reverse_cut {cs = cs} c)) f = cut_sizes_fit w (Cut_backwards ∷ cs) (map (drop 1) ds) i (reverse_cut c) (dropped_fit (s ∷ ss) ds f)
cut_sizes_fit w _ ds (slice_then {s = s} {ss} i b) (slice_cut_is {i = k} {j} {cs = cs} c) f = in_rows_fit (j - k) _ b (cut_sizes_fit w cs (map (drop 1) ds) i c (dropped_fit (s ∷ ss) ds f))
cut_sizes_fit w _ ds (reverse_then {s = s} {ss} i b) (reverse_cut {cs = cs} c) f = in_rows_fit (first_size ds) _ b (cut_sizes_fit w cs (map (drop 1) ds) i c (dropped_fit (s ∷ ss) ds f))

module _ (at : Place) (w : ℕ) where
  abbrev Is_cut : List Sort → Row → Type 0
  Is_cut out bs = AreOf bs out

  -- one row, of which the rest is cut
  row_cut_has : (v i : ℕ) (cs : List Cut) (bs : Row) (row out : List Sort) → HasOut (Rows row) (rows_of false at v bs) → ((r : Row) → AreOf r row → HasOut (Is_cut out) (cut false at w cs r)) → HasOut (Is_cut out) (and_then (rows_of false at v bs) (λ rs. and_then (or_bounds at (slice_get rs i)) (cut false at w cs)))
  row_cut_has v i cs bs row out h l = has_then (Rows row) (Is_cut out) (rows_of false at v bs) _ h (λ rs e. has_then (Is_cut row) (Is_cut out) (or_bounds at (slice_get rs i)) _ (has_bounds (Is_cut row) at (slice_get rs i) (every_found (Is_cut row) i rs e)) l)

  -- several of them
  rows_cut_have : (cs : List Cut) (ds : List (List ℕ)) (rs : List Row) {row mid out : List Sort} → Bundled mid out → Sizes_fit ds mid → Rows row rs → ((r : Row) → AreOf r row → HasOut (Is_cut mid) (cut false at w cs r)) → HasOut (Is_cut out) (and_then (each_out (cut false at w cs) rs) (stacked false at ds))
  rows_cut_have cs ds rs {row} {mid} {out} b f e l = has_then (Rows mid) (Is_cut out) (each_out (cut false at w cs) rs) _ (has_each (Is_cut row) (Is_cut mid) (cut false at w cs) l rs e) (λ rows a. stacked_has at ds rows b f a)

  cut_has : (cs : List Cut) (bs : Row) {ps : List Part} {ss out : List Sort} → Index_gives w ps ss out → Cuts_for ps cs → AreOf bs ss → HasOut (Is_cut out) (cut false at w cs bs)
  unfolding cut
  cut_has _ bs at_end no_cut a = a
  cut_has _ bs (last_row {ss} b e) (row_cut {i = k} no_cut) a = row_cut_has w k [] bs ss ss (rows_bundled at w bs b e a) (λ r h. h)
  cut_has _ bs (row_then {s} {ss} {out} i) (row_cut {i = k} (row_cut {i = l} {cs = cs} c)) a = row_cut_has 1 k (Cut_at l ∷ cs) bs (s ∷ ss) out (rows_full at 0 s ss bs a) (λ r h. cut_has (Cut_at l ∷ cs) r i (row_cut c) h)
  cut_has _ bs (row_then {s} {ss} {out} i) (row_cut {i = k} (slice_cut_is {i = l} {j} {cs = cs} c)) a = row_cut_has 1 k (Cut_slice l j ∷ cs) bs (s ∷ ss) out (rows_full at 0 s ss bs a) (λ r h. cut_has (Cut_slice l j ∷ cs) r i (slice_cut_is c) h)
  cut_has _ bs (row_then {s} {ss} {out} i) (row_cut {i = k} (reverse_cut {cs = cs} c)) a = row_cut_has 1 k (Cut_backwards ∷ cs) bs (s ∷ ss) out (rows_full at 0 s ss bs a) (λ r h. cut_has (Cut_backwards ∷ cs) r i (reverse_cut c) h)
  cut_has _ bs (slice_then {s = s} {ss} {bs = out} i b) (slice_cut_is {i = k} {j} {cs = cs} c) a =
      has_then (Rows (s ∷ ss)) (Is_cut out) (array_rows false at bs) _ (rows_full at 0 s ss bs a)
      (λ rs e. rows_cut_have cs _ (take (j - k) (drop k rs)) b (cut_sizes_fit w cs (array_sizes bs) i c (row_sizes_full 0 s ss bs a)) (every_taken (Is_cut (s ∷ ss)) (j - k) (drop k rs) (every_dropped (Is_cut (s ∷ ss)) k rs e)) (λ r h. cut_has cs r i c h))
  cut_has _ bs (reverse_then {s = s} {ss} {bs = out} i b) (reverse_cut {cs = cs} c) a =
      has_then (Rows (s ∷ ss)) (Is_cut out) (array_rows false at bs) _ (rows_full at 0 s ss bs a)
      (λ rs e. rows_cut_have cs _ (reverse rs) b (cut_sizes_fit w cs (array_sizes bs) i c (row_sizes_full 0 s ss bs a)) (every_reversed (Is_cut (s ∷ ss)) rs e) (λ r h. cut_has cs r i c h))

  indexed_has : (ps : List Part) (bs is : Row) (ss ns out : List Sort) → Index_gives w ps ss out → Integers ns → length ns ≡ asked ps → AreOf bs ss → AreOf is ns → HasOut (Is_cut out) (indexed false at w ps bs is)
  indexed_has ps bs is ss ns out i n e a b =
      has_then (So_many (length ns)) (Is_cut out) (each_out exact_in is) _ (integers_have is ns n b) (λ zs l.
      has_then (Picked ps) (Is_cut out) (picks ps zs) _ (picks_have ps zs (l ∙ e)) (λ qs q.
      has_then (Cuts_for ps) (Is_cut out) (cuts at qs (first_sizes bs)) _ (cuts_have at ps qs (first_sizes bs) q (let d = deep_enough i in let f = first_long bs ss (sizes_of ss bs a) in omega (arith, d, f))) (λ cs c.
      has_then (Is_cut out) (Is_cut out) (cut false at w cs bs) _ (cut_has cs bs i c a) (λ r h. within_has (Is_cut out) at r h))))

-- ---- writing

row_at_has : (P : Row → Type 0) (at : Place) (z : ℤ) (rs : List Row) → Every P rs → HasOut P (row_at at z rs)
row_at_has P at (pos n) rs e = has_bounds P at (slice_get rs n) (every_found P n rs e)
row_at_has P at (negsuc n) rs e = tt

place_has : (P : Row → Type 0) (at : Place) (ds : List (List ℕ)) (v : Row) → P v → HasOut P (in_place_of false at ds v)
place_has P at ds v p = has_fitting P (all_same_sizes (all_sizes v) ds) at (Val v) (λ e. p)

updated_has : (at : Place) (n : ℕ) (zs : List ℤ) (v bs : Row) {row ss : List Sort} → Has_row row n ss → length zs ≡ n → AreOf v row → AreOf bs ss → HasOut (λ r. AreOf r ss) (updated false at zs v bs)
unfolding updated
updated_has at _ [] v bs (its_row b) e h a = absurd (omega (arith, e))
updated_has at _ (z ∷ []) v bs {row} (its_row {bs = ss} b) e h a =
    has_then (Rows row) (λ r. AreOf r ss) (rows_of false at (length v) bs) _ (rows_bundled at (length v) bs b (length_same h) a) (λ rs p.
    has_then (λ r. AreOf r row) (λ r. AreOf r ss) (row_at at z rs) _ (row_at_has (λ r. AreOf r row) at z rs p) (λ r q.
    has_then (λ r. AreOf r row) (λ r. AreOf r ss) (in_place_of false at (all_sizes r) v) _ (place_has (λ r. AreOf r row) at (all_sizes r) v h) (λ r' q'.
    stacked_has at (row_sizes (length v) bs) (slice_set rs (unsigned_abs z) r') b (row_sizes_bundled (length v) bs b (length_same h) a) (every_set (λ r. AreOf r row) (unsigned_abs z) rs r' p q'))))
updated_has at _ (z ∷ z' ∷ zs) v bs (its_row b) e h a = absurd (omega (arith, e))
updated_has at _ [] v bs (in_row i) e h a = absurd (omega (arith, e))
updated_has at _ (z ∷ []) v bs (in_row i) e h a = absurd (omega (arith, e))
updated_has at _ (z ∷ z' ∷ zs) v bs (in_row {n} {s} {ss} i) e h a =
    has_then (Rows (s ∷ ss)) (λ r. AreOf r (lifted (s ∷ ss))) (rows_of false at 1 bs) _ (rows_full at 0 s ss bs a) (λ rs p.
    has_then (λ r. AreOf r (s ∷ ss)) (λ r. AreOf r (lifted (s ∷ ss))) (row_at at z rs) _ (row_at_has (λ r. AreOf r (s ∷ ss)) at z rs p) (λ r q.
    has_then (λ r. AreOf r (s ∷ ss)) (λ r. AreOf r (lifted (s ∷ ss))) (updated false at (z' ∷ zs) v r) _ (updated_has at (suc n) (z' ∷ zs) v r i (omega (arith, e)) h q) (λ r' q'.
    stacked_has at (row_sizes 1 bs) (slice_set rs (unsigned_abs z) r') full (row_sizes_full 0 s ss bs a) (every_set (λ r. AreOf r (s ∷ ss)) (unsigned_abs z) rs r' p q'))))

cells_exact : (t : IntType) (ws : List Scalar) → All_of_type (sort.Int t) ws → HasOut Any (each_out integer_of_scalar ws)
cells_exact t _ no_cell = tt
cells_exact t _ (cell_and {s} {ws} e a) = has_then Any Any (integer_of_scalar s) _ (exact_scalar s t e) (λ z u. has_then Any Any (each_out integer_of_scalar ws) _ (cells_exact t ws a) (λ zs v. tt))

numbers_have : (c : Component) (t : IntType) → Is_of c (sort.Int t, 1) → HasOut Any (numbers_in c)
numbers_have _ t (many_is {ws = ws} e l a) = cells_exact t ws a

abbrev pub Write_is : List Sort → ℕ × Row → Type 0
Write_is row w = AreOf w.1 row

pub record Written_is (row : List Sort) (r : List Row × List (ℕ × Row)) : Type 0 where
  pub old : Rows row r.0
  pub new : Every (Write_is row) r.1

write_is : (row : List Sort) (n : ℕ) (z : ℤ) (x : Row) (ws : List (ℕ × Row)) → AreOf x row → Every (Write_is row) ws → Every (Write_is row) (and_write n z x ws)
write_is row n (pos k) x ws p e = by (nat_lt k n)
  where
    by : (b : Bool) → Every (Write_is row) (cond b ((k, x) ∷ ws) ws)
    by true = (p, e)
    by false = e
write_is row n (negsuc k) x ws p e = e

writes_are : (row : List Sort) (n : ℕ) (zs : List ℤ) (xs : List Row) → Rows row xs → Every (Write_is row) (writes n zs xs)
writes_are row n [] xs e = tt
writes_are row n (z ∷ zs) [] e = tt
writes_are row n (z ∷ zs) (x ∷ xs) e = write_is row n z x (writes n zs xs) e.0 (writes_are row n zs xs e.1)

pub written_has : (at : Place) (w : ℕ) (bs : Row) (c : Component) (vs : Row) (t : IntType) {row ss ts : List Sort} → Bundled row ss → Bundled row ts → w ≡ length row → AreOf bs ss → Is_of c (sort.Int t, 1) → AreOf vs ts → HasOut (Written_is row) (written false at w bs c vs)
written_has at w bs c vs t {row} b b' e a h k =
    has_then (Rows row) (Written_is row) (rows_of false at w bs) _ (rows_bundled at w bs b e a) (λ rs p.
    has_then Any (Written_is row) (numbers_in c) _ (numbers_have c t h) (λ zs u.
    has_then (Rows row) (Written_is row) (rows_of false at w vs) _ (rows_bundled at w vs b' e k) (λ qs q.
    has_fitting (Written_is row) (nat_eq (length zs) (length qs)) at _ (λ e'.
    has_fitting (Written_is row) (agree rs qs (row_sizes w bs) (row_sizes w vs)) at _ (λ e''. record { old = p; new = writes_are row (length rs) zs qs q })))))

-- rows by the arrays themselves, which one without cells is too
pub written_full : (at : Place) (bs : Row) (c : Component) (vs : Row) (t : IntType) (s : Sort) (ss : List Sort) → AreOf bs (lifted (s ∷ ss)) → Is_of c (sort.Int t, 1) → AreOf vs (lifted (s ∷ ss)) → HasOut (Written_is (s ∷ ss)) (written false at 1 bs c vs)
written_full at bs c vs t s ss a h k =
    has_then (Rows (s ∷ ss)) (Written_is (s ∷ ss)) (rows_of false at 1 bs) _ (rows_full at 0 s ss bs a) (λ rs p.
    has_then Any (Written_is (s ∷ ss)) (numbers_in c) _ (numbers_have c t h) (λ zs u.
    has_then (Rows (s ∷ ss)) (Written_is (s ∷ ss)) (rows_of false at 1 vs) _ (rows_full at 0 s ss vs k) (λ qs q.
    has_fitting (Written_is (s ∷ ss)) (nat_eq (length zs) (length qs)) at _ (λ e'.
    has_fitting (Written_is (s ∷ ss)) (agree rs qs (row_sizes 1 bs) (row_sizes 1 vs)) at _ (λ e''. record { old = p; new = writes_are (s ∷ ss) (length rs) zs qs q })))))

-- ---- all of them

same_rows : (row : List Sort) (rows : List (List Sort)) (css : List Row) → Each_is row rows → Groups_of css rows → Rows row css
same_rows row _ _ no_more all_none = tt
same_rows row _ _ (and_more {rows} e) (all_more {xs = css} h a) = (h, same_rows row rows css e a)

pub done_has : (d : Deed) (at : Place) (css : List Row) {sss : List (List Sort)} {out : List Sort} → Deed_gives d sss out → Groups_of css sss → HasOut (λ bs. AreOf bs out) (done false d at css)
unfolding done
done_has _ at _ (index_gives {w} {ps} {bs = ss} {is = ns} {out} i n e) (all_more {x = bs} a (all_more {x = is} b all_none)) = indexed_has at w ps bs is ss ns out i n e a b
done_has _ at _ (transpose_gives s ss) (all_more {x = bs} a all_none) =
    has_then (Rows (lifted (s ∷ ss))) (λ bs. AreOf bs (lifted (lifted (s ∷ ss)))) (array_rows false at bs) _ (rows_full at 0 (s.0, suc s.1) (lifted ss) bs a) (λ rs e.
    has_then (Every (Rows (s ∷ ss))) (λ bs. AreOf bs (lifted (lifted (s ∷ ss)))) (inner_rows false at rs) _ (inner_have at s ss rs e) (λ rss f.
    twice_has at (length rs) s ss (inner_sizes bs) (crossed (first_size (array_sizes bs)) rss) (inner_sizes_fit s ss bs a) (crossed_are (λ r. AreOf r (s ∷ ss)) (first_size (array_sizes bs)) rss f)))
done_has _ at _ (own_gives s ss) (all_more a all_none) = a
done_has _ at _ (literal_gives {row} {rows = rows} e b) (all_more {x = cs} {xs = css} a k) = glued_some at [] cs css b (a, same_rows row rows css e k)
done_has _ at css (empty_gives {row} {out} {told} t b) k = has_then (λ ds. Sizes_fit ds row) (λ bs. AreOf bs out) (all_told css) _ (all_told_have css told row t k) (λ ds f. glued_has at ds [] b f tt)
done_has _ at _ (iota_gives {s} i) (all_more (all_more {x = c} h all_none) all_none) =
    sized_by_has (One_array (sort.Int I64)) at c s i h _ (λ n. flat_has at (sort.Int I64) n (numbers_below n) (length-map (counts n 0) i64 ∙ counts_long n 0) (i64_are (counts n 0)))
done_has _ at _ (range_gives {e} {t}) (all_more (all_more (one_is {s = x} p) (all_more (one_is {s = y} q) all_none)) all_none) = range_has at e t x y p q
done_has _ at _ (stepped_gives {e} {t}) (all_more (all_more (one_is {s = x} p) (all_more (one_is {s = y} q) (all_more (one_is {s = z} r) all_none))) all_none) = stepped_has at e t x y z p q r
done_has _ at _ (replicate_gives {s} {row} {out} i b) (all_more (all_more {x = c} h all_none) (all_more {x = r} a all_none)) =
    sized_by_has (λ bs. AreOf bs out) at c s i h _ (λ n. glued_has at (all_sizes r) (replicate n r) b (sizes_of row r a) (every_copy (λ r. AreOf r row) n r a))
done_has _ at _ (concat_gives s ss) (all_more {x = bs} a (all_more {x = cs} b all_none)) =
    has_then (Rows (s ∷ ss)) (λ bs. AreOf bs (lifted (s ∷ ss))) (array_rows false at bs) _ (rows_full at 0 s ss bs a) (λ rs e.
    has_then (Rows (s ∷ ss)) (λ bs. AreOf bs (lifted (s ∷ ss))) (array_rows false at cs) _ (rows_full at 0 s ss cs b) (λ qs f.
    glued_has at (array_sizes bs) (rs ++ qs) full (row_sizes_full 0 s ss bs a) (every_more (λ r. AreOf r (s ∷ ss)) rs qs e f)))
done_has _ at _ (rotate_gives {n} s ss i) (all_more (all_more {x = c} h all_none) (all_more {x = bs} a all_none)) =
    has_then Any (λ bs. AreOf bs (lifted (s ∷ ss))) (exact_in c) _ (exact_has c n i h) (λ z u.
    has_then (Rows (s ∷ ss)) (λ bs. AreOf bs (lifted (s ∷ ss))) (array_rows false at bs) _ (rows_full at 0 s ss bs a) (λ rs e.
    glued_has at (array_sizes bs) (around z rs) full (row_sizes_full 0 s ss bs a) (around_are (λ r. AreOf r (s ∷ ss)) z rs e)))
done_has _ at _ (copy_gives s ss) (all_more a all_none) = a
done_has _ at css (zip_gives {ws} {row} {out} t b) k =
    has_then (Rows row) (λ bs. AreOf bs out) (rows_together false at ws css) _ (together_have at ws css t k) (λ rs e. glued_has at (sizes_together ws css) rs b (together_fit ws css t k) e)
done_has _ at _ (flatten_gives s ss) (all_more {x = bs} a all_none) =
    has_then (Rows (lifted (s ∷ ss))) (λ bs. AreOf bs (lifted (s ∷ ss))) (array_rows false at bs) _ (rows_full at 0 (s.0, suc s.1) (lifted ss) bs a) (λ rs e.
    has_then (Every (Rows (s ∷ ss))) (λ bs. AreOf bs (lifted (s ∷ ss))) (inner_rows false at rs) _ (inner_have at s ss rs e) (λ rss f.
    glued_has at (inner_sizes bs) (joined rss) full (inner_sizes_fit s ss bs a) (joined_are (λ r. AreOf r (s ∷ ss)) rss f)))
done_has _ at _ (unflatten_gives {n} {m} s ss i j) (all_more (all_more {x = c} h (all_more {x = d} k all_none)) (all_more {x = bs} a all_none)) =
    has_then Any (λ bs. AreOf bs (lifted (lifted (s ∷ ss)))) (exact_in c) _ (exact_has c n i h) (λ z u.
    has_then Any (λ bs. AreOf bs (lifted (lifted (s ∷ ss)))) (exact_in d) _ (exact_has d m j k) (λ w v.
    has_then (Rows (s ∷ ss)) (λ bs. AreOf bs (lifted (lifted (s ∷ ss)))) (array_rows false at bs) _ (rows_full at 0 s ss bs a) (λ rs e.
    sized_has (λ bs. AreOf bs (lifted (lifted (s ∷ ss)))) at z _ (λ x. sized_has (λ bs. AreOf bs (lifted (lifted (s ∷ ss)))) at w _ (λ y.
    has_checked (λ bs. AreOf bs (lifted (lifted (s ∷ ss)))) (nat_eq (x * y) (length rs)) kind.Size at _ (twice_has at y s ss (array_sizes bs) (parts x y rs) (row_sizes_full 0 s ss bs a) (parts_are (λ r. AreOf r (s ∷ ss)) x y rs e)))))))
done_has _ at _ (update_gives {bs = ss} {is = ns} n i) (all_more {x = bs} a (all_more {x = is} b (all_more {x = v} h all_none))) =
    has_then (So_many (length ns)) (λ r. AreOf r ss) (each_out exact_in is) _ (integers_have is ns n b) (λ zs e. updated_has at (length ns) zs v bs i e h a)
