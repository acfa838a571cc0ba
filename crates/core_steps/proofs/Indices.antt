-- A row of arrays by its number.
use Rattle.std.proofs.Common.{◌≡◌, ℕ, zero, suc, ◌+◌, ◌-◌, ◌*◌, ◌<◌, ◌≤◌, max, List, [], ◌∷◌, ◌++◌, map, length, get_or, take, drop, replicate, slice_get, Some, None, Option, Bor, Ok, Err, Result, Bool, true, false, nat_le, refl, sym, ap, ◌∙◌, subst, arith}
use Rattle.std.specs.Prelude.{ℤ, pos, negsuc}
use Rattle.std.proofs.Math.Nat.{mul-le-mul_right}
use Rattle.std.proofs.Math.Seq.{drop-append_seam, take-append_seam}
use Rattle.std.proofs.lemmas.Bool.{leb-true}
use Rattle.std.proofs.lemmas.List.{length-append, take_all}
use Rattle.fut_scalar.specs.Integers.{integer_of}
use Rattle.fut_scalar.specs.declared.place.Place.{Place}
use Rattle.fut_scalar.specs.declared.report.FailKind.TheVariants as kind
use Rattle.fut_scalar.specs.declared.report.Report.{Report}
use Rattle.fut_scalar.specs.declared.scalar.IntType.{IntType}
use Rattle.fut_scalar.specs.declared.scalar.Scalar.{Scalar}
use Rattle.fut_scalar.specs.declared.scalar.Scalar.TheVariants as scalar
use Rattle.fut_scalar.specs.declared.scalar.ScalarType.TheVariants as sort
use Rattle.fut_arithmetic.specs.Types.{IsOf}
use Rattle.fut_arithmetic.specs.Words.{word_of}
use Rattle.fut_value.specs.Leaves.{extent, extents, peak, peaks}
use Rattle.fut_value.specs.Values.{weight_of as weight_with}
use Rattle.fut_flat.specs.declared.act.Part.{Part}
use Rattle.fut_flat.specs.declared.act.Part.TheVariants as part
use Rattle.fut_meaning.specs.Arrays.{checked, or_bounds, picks, Cut, Cut_at, most_words}
use Rattle.fut_meaning.specs.Operations.{report}
use Rattle.fut_meaning.specs.Outcomes.{Out, Val, Fail, Wrong, and_then, exact, gives, the, Then, goes_on, stops}
use Rattle.fut_meaning.specs.Sames.{all_none, all_more}
use Rattle.core_arrays.specs.Arenas.{Array}
use Rattle.core_ir.specs.declared.block.Atom.{Atom}
use Rattle.core_ir.specs.declared.block.Rows.{Rows}
use Rattle.core_ir.specs.declared.block.View.{View}
use Rattle.core_ir.specs.declared.block.View.TheVariants as view
use Rattle.core_ir.specs.Arrays.{exact_in, first_sizes, cuts, cut, indexed, done, fresh_words}
use Rattle.core_ir.specs.Bundles.{Component, One, Many, Row, formed, column, across, of_width, sizes, all_sizes, rows_in, rows_of, weight_of, within_weight}
use Rattle.core_ir.specs.Lists.{parts, beside}
use Rattle.core_ir.specs.Meaning.{Env, value_of, values_of, groups_of, act_means}
use Rattle.core_ir.specs.Plain.{Do, Index, Bundle, bundle_form, view_form}
use Rattle.core_ir.specs.Typed.{Sort, Sorts, lifted, Bundled, bare, full, Integer, integer, Integers, integer_and, no_integer, Index_gives, last_row, Atom_is, Atoms_are, Groups_are, Rows_are, Deed_gives, index_gives, deed_gives}
use Rattle.core_code.specs.Registers.{State, state, elem_of, rank_of, ShowsScalar, AllShow, Stands}
use Rattle.core_code.specs.Answers.{Answer, asked, Read, read, Reads, ReadAll, read_all, Reads_all, Runs, ran, failed, no_memory}
use Rattle.core_code.specs.Runs.{Act_runs}
use Rattle.core_code.specs.declared.stop.Stop.{Stop}
use Rattle.core_code.specs.declared.stop.Stop.TheVariants.{Failed, Memory}
use Rattle.core_code.proofs.Frames.{the_is}
use Rattle.core_code.proofs.Reading.{elem_is}
use Rattle.core_steps.specs.Gluing.{sort_at, sorts_at, TestTold, test_told, Within_told}
use Rattle.core_steps.specs.Indexing.{index_in, Index_read, Bundle_within, IndexTold, index_told, index_failed, no_index, Index_told}
use Rattle.core_steps.specs.Rows.{CountTold, count_told, count_failed, no_count, Long_read, Bundle_counted, BundleTold, bundle_told, bundle_failed, no_bundle, RowPushed, row_pushed, no_row, Bundle_pushed}
use Rattle.core_steps.proofs.Makes.{act_memory}
use Rattle.core_steps.proofs.Glueing.{test_yes, test_no}
use Rattle.core_steps.proofs.Operands.{First_value, first_value, values_there}
use Rattle.core_steps.proofs.Bundling.{rows_read}
use Rattle.core_steps.proofs.Taking.{rank_is}
use Rattle.core_steps.proofs.Weighing.{peak_is}

-- ---- the number

exact_word : (ty : IntType) (c : Component) (w : ℕ) → ShowsScalar (sort.Int ty) c w → exact_in c ≡ Val (integer_of ty w)
exact_word ty c w x = ap exact_in x.is ∙ by_scalar x.scalar x.typed x.word
  where
    by_scalar : (s : Scalar) → IsOf (sort.Int ty) s → w ≡ word_of s → exact_in (One s) ≡ Val (integer_of ty w)
    by_scalar (scalar.Int u m) i q =
        let z : u ≡ ty = let y : sort.Int u ≡ sort.Int ty = i.0 in cc in
        ap (λ z. Val (integer_of z m)) z ∙ ap (λ z. Val (integer_of ty z)) (sym q)
    by_scalar (scalar.Bool b) i q = let z : sort.Bool ≡ sort.Int ty = i.0 in cc

-- the first of a bundle's arrays
first_long : (c : Component) (m : ℕ) → rows_in c ≡ Val m → (ds : List ℕ) × (sizes c ≡ m ∷ ds)
first_long (One s) m e = cc
first_long (Many [] ws) m e = cc
first_long (Many (n ∷ ds) ws) m e = let q : n ≡ m = let z : Val n ≡ Val m = e in cc in (ds, ap (λ z. z ∷ ds) q)

rank_above : (row bs : List Sort) → Bundled row bs → (s : Sort) × (ss : List Sort) × (bs ≡ (s.0, suc s.1) ∷ ss)
rank_above _ _ (bare {t}) = ((t, 1), [], refl)
rank_above _ _ (full {s} {ss}) = (s, lifted ss, refl)

module _ (t : List ℕ) (rs : List Array) (r : Bundle) (u : Atom) (at : Place) (ty : IntType) (e : elem_of u ≡ sort.Int ty) (w : ℕ) (h : Reads t u (Ok w)) (d : Atom) (l : 0 < length r.arrays) (count : ℕ) (k : Long_read t rs (get_or r.arrays 0 d) (Ok count)) where
  by_answer : (a : Result ℕ Stop) → ((ds : List ℕ) → CountTold (index_in at (integer_of ty w) (count ∷ ds)) a) → Index_read t rs r u at a
  unfolding Reads Long_read Index_read
  by_answer a g G env n row s bs c st x i b v q = by_sorts (rank_above row x.sorts x.bundled) (by_word s i b (h G env n rs s st b))
    where
      by_word : (s : Sort) → Integer s → Atom_is G u s → Read (value_of env u) rs s (Ok w) → exact_in c ≡ Val (integer_of ty w)
      by_word _ (integer {t = t'}) b (read {c = c'} y z) =
          let same : c' ≡ c = let p : Val c' ≡ Val c = sym y ∙ q in cc in
          let type : t' ≡ ty = let p : sort.Int t' ≡ sort.Int ty = sym (elem_is G u (sort.Int t', 0) b) ∙ e in cc in
          subst (λ z. exact_in z ≡ Val (integer_of ty w)) same (subst (λ z. exact_in c' ≡ Val (integer_of z w)) type (exact_word t' c' w z))

      by_first : (us : List Atom) → r.arrays ≡ us → (s : Sort) (ss : List Sort) → Atoms_are G us ((s.0, suc s.1) ∷ ss) → exact_in c ≡ Val (integer_of ty w) → CountTold (and_then (exact_in c) (λ z. index_in at z (first_sizes bs))) a
      by_first _ p s ss (all_more {x = u0} {xs = us} y ys) z = by_count (k G env n s.1 s.0 st (subst (λ z. Atom_is G z (s.0, suc s.1)) (ap (λ z. get_or z 0 d) (sym p)) y))
        where
          f : First_value env u0 us bs
          f = first_value env u0 us bs (ap (values_of env) (sym p) ∙ v)

          by_size : rows_in f.first ≡ Val count → CountTold (and_then (exact_in c) (λ z. index_in at z (first_sizes bs))) a
          by_size y =
              let m = first_long f.first count y in
              subst (λ z. CountTold z a) (sym (ap (λ z. and_then z (λ z. index_in at z (first_sizes bs))) z ∙ ap (index_in at (integer_of ty w)) (ap first_sizes f.whole ∙ m.1))) (g m.0)

          by_count : CountTold (and_then (value_of env (get_or r.arrays 0 d)) rows_in) (Ok count) → CountTold (and_then (exact_in c) (λ z. index_in at z (first_sizes bs))) a
          by_count (count_told y) = by_size (sym (ap (λ z. and_then z rows_in) (ap (λ z. value_of env (get_or z 0 d)) p ∙ f.value)) ∙ y)

      by_sorts : (s : Sort) × (ss : List Sort) × (x.sorts ≡ (s.0, suc s.1) ∷ ss) → exact_in c ≡ Val (integer_of ty w) → CountTold (and_then (exact_in c) (λ z. index_in at z (first_sizes bs))) a
      by_sorts y z = by_first r.arrays refl y.0 y.1 (subst (Atoms_are G r.arrays) y.2 x.are) z

  pub index_ok : (o : Option ℕ) (i : ℕ) → o ≡ asked (integer_of ty w) → o ≡ Some i → i < count → Index_read t rs r u at (Ok i)
  index_ok o i p q m = by_answer (Ok i) (λ ds. by_integer ds (integer_of ty w) (sym p ∙ q))
    where
      by_integer : (ds : List ℕ) (z : ℤ) → asked z ≡ Some i → CountTold (index_in at z (count ∷ ds)) (Ok i)
      by_integer ds (pos j) e = let y : j ≡ i = let x : Some j ≡ Some i = e in cc in count_told (ap (λ z. checked (nat_le (suc z) count) kind.Bounds at (Val z)) y ∙ ap (λ z. checked z kind.Bounds at (Val i)) (test_yes (suc i) count m))
      by_integer ds (negsuc j) e = let x : None ≡ Some i = e in cc

  pub index_out : (o : Option ℕ) (f : Report) → o ≡ asked (integer_of ty w) → ((i : ℕ) → o ≡ Some i → count ≤ i) → f ≡ report kind.Bounds at → Index_read t rs r u at (Err (Failed f))
  index_out o f p q m = by_answer (Err (Failed f)) (λ ds. by_integer ds (integer_of ty w) p)
    where
      by_integer : (ds : List ℕ) (z : ℤ) → o ≡ asked z → CountTold (index_in at z (count ∷ ds)) (Err (Failed f))
      by_integer ds (pos j) e = count_failed (ap (λ z. checked z kind.Bounds at (Val j)) (test_no (suc j) count (let k = q j e in omega (arith, k))) ∙ ap Fail (sym m))
      by_integer ds (negsuc j) e = count_failed (ap Fail (sym m))

  pub index_none : (o : Option ℕ) (f : Stop) → o ≡ asked (integer_of ty w) → o ≡ None → f ≡ Failed (report kind.Bounds at) → Index_read t rs r u at (Err f)
  index_none o f p q m = subst (λ z. Index_read t rs r u at (Err z)) (sym m) (index_out o (report kind.Bounds at) p (λ i e. let x : None ≡ Some i = sym q ∙ e in cc) refl)

  pub index_far : (o : Option ℕ) (j : ℕ) (f : Stop) → o ≡ asked (integer_of ty w) → o ≡ Some j → count ≤ j → f ≡ Failed (report kind.Bounds at) → Index_read t rs r u at (Err f)
  index_far o j f p q l m = subst (λ z. Index_read t rs r u at (Err z)) (sym m) (index_out o (report kind.Bounds at) p (λ i e. let x : Some j ≡ Some i = sym q ∙ e in let y : j ≡ i = cc in omega (arith, l, y)) refl)

pub index_stop : (t : List ℕ) (rs : List Array) (r : Bundle) (u : Atom) (at : Place) (e : Stop) → e ≡ Memory → Index_read t rs r u at (Err e)
unfolding Index_read
index_stop t rs r u at e q G env n row s bs c st x i b v y = subst (λ z. CountTold (and_then (exact_in c) (λ z. index_in at z (first_sizes bs))) (Err z)) (sym q) no_count

pub ruleset numbers = (index_stop)

-- ---- the weight of a bundle and of its rows

sorts_are : (G : Sorts) (us : List Atom) (ss : List Sort) → Atoms_are G us ss → sorts_at us ≡ ss
sorts_are G _ _ all_none = refl
sorts_are G _ _ (all_more {x = u} {x' = s} {xs = us} {xs' = ss} x a) =
    let e : sort_at u ≡ s = ap (λ z. (z, rank_of u)) (elem_is G u s x) ∙ ap (λ z. (s.0, z)) (rank_is G u s x) in
    ap (λ z. z ∷ sorts_at us) e ∙ ap (λ z. s ∷ z) (sorts_are G us ss a)

one_more : (dss : List (List ℕ)) → (peaks 1 dss ≤ peaks 1 (map (λ d. 1 ∷ d) dss)) × (extents dss ≡ extents (map (λ d. 1 ∷ d) dss))
one_more [] = (omega arith, refl)
one_more (d ∷ dss) =
    let k = one_more dss in
    let p : peak 1 d ≤ peak 1 (1 ∷ d) = omega arith in
    let e : extent d ≡ extent (1 ∷ d) = omega arith in
    (omega (arith, p, k.0), omega (arith, e, k.1))

within_less : (a b : ℕ) → a ≤ b → nat_le b most_words ≡ true → nat_le a most_words ≡ true
within_less a b l e = let k = leb-true b most_words e in test_yes a most_words (omega (arith, l, k))

told_is : (b c : Bool) → TestTold b (Ok c) → b ≡ c
told_is _ _ test_told = refl

pub within_ok : (t : List ℕ) (rs : List Array) (us : List Atom) (stack s1 s2 words : List ℕ) (mark : ℕ) (b : Bool) → mark ≡ length stack → Reads_all t us stack s1 (Ok tt) → words ≡ take (length s1 - mark) (drop mark s1) → Within_told rs us 1 words (Ok b) → s2 ≡ take mark s1 → Bundle_within t rs us stack s2 (Ok b)
unfolding Reads_all Within_told Bundle_within
within_ok t rs us stack s1 s2 words mark false m h p k q = tt
within_ok t rs us stack s1 s2 words mark true m h p k q = λ G env n ss bs st a v. by_read G env ss bs a v (h G env n rs ss st a)
  where
    by_read : (G : Sorts) (env : Env) (ss : List Sort) (bs : Row) → Atoms_are G us ss → values_of env us ≡ Val bs → ReadAll (values_of env us) rs ss stack s1 (Ok tt) → (s2 ≡ stack) × (nat_le (weight_of (all_sizes bs)) most_words ≡ true)
    by_read G env ss bs a v (read_all {cs} {ws} y sh z) =
        let same : cs ≡ bs = let x : Val cs ≡ Val bs = sym y ∙ v in cc in
        let d : drop mark s1 ≡ ws = ap (λ z. drop mark z) z ∙ ap (λ k. drop k (stack ++ ws)) m ∙ drop-append_seam stack ws in
        let n : length s1 ≡ length stack + length ws = ap length z ∙ length-append stack ws in
        let w : words ≡ ws = p ∙ ap (take (length s1 - mark)) d ∙ take_all (length s1 - mark) ws (omega (arith, n, m)) in
        let x = told_is (nat_le (weight_of (map (λ d. 1 ∷ d) (all_sizes cs))) most_words) true (k cs (subst (λ z. AllShow rs z cs words) (sym (sorts_are G us ss a)) (subst (AllShow rs ss cs) (sym w) sh))) in
        let g = one_more (all_sizes cs) in
        (q ∙ ap (λ z. take mark z) z ∙ ap (λ k. take k (stack ++ ws)) m ∙ take-append_seam stack ws, subst (λ z. nat_le (weight_of (all_sizes z)) most_words ≡ true) same (within_less (weight_of (all_sizes cs)) (weight_of (map (λ d. 1 ∷ d) (all_sizes cs))) (omega (arith, g.0, g.1)) x))

pub within_stop : (t : List ℕ) (rs : List Array) (us : List Atom) (stack s2 : List ℕ) (e : Stop) → Bundle_within t rs us stack s2 (Err e)
unfolding Bundle_within
within_stop t rs us stack s2 e = tt

pub ruleset weights = (within_stop)

peak_less : (n : ℕ) (ds : List ℕ) → 0 < n → peak 1 ds ≤ peak 1 (n ∷ ds)
peak_less n [] l = omega arith
peak_less n (m ∷ ds) l =
    let a = peak_is 1 m ds in
    let b = peak_is 1 n (m ∷ ds) in
    let w : ℕ = weight_with (m ∷ ds) in
    let c : 1 * max 1 w ≤ n * max 1 w = mul-le-mul_right (max 1 w) l in
    omega (arith, a, b, c)

extent_less : (n : ℕ) (ds : List ℕ) → 0 < n → extent ds ≤ extent (n ∷ ds)
extent_less n ds l = let c : 1 * extent ds ≤ n * extent ds = mul-le-mul_right (extent ds) l in omega (arith, c)

formed_sizes : (ds : List ℕ) (ws : List Scalar) → sizes (formed ds ws) ≡ ds
formed_sizes [] [] = refl
formed_sizes [] (w ∷ ws) = refl
formed_sizes (d ∷ ds) ws = refl

map_at : {A B : Type 0} (g : A → B) (xs : List A) (i : ℕ) (y : B) → slice_get (map g xs) i ≡ Some y → (x : A) × (y ≡ g x) × (i < length xs)
map_at g [] i y e = cc
map_at g (x ∷ xs) zero y e = (x, (let z : Some (g x) ≡ Some y = e in cc), omega arith)
map_at g (x ∷ xs) (suc i) y e = let k = map_at g xs i y e in (k.0, k.1, omega (arith, k.2))

record Column_at (c d : Component) : Type 0 where
  count : ℕ
  rest : List ℕ
  whole : sizes c ≡ count ∷ rest
  part : sizes d ≡ rest
  some : 0 < count

column_at : (c d : Component) (i : ℕ) → slice_get (column c) i ≡ Some d → Column_at c d
column_at (One s) d i e = cc
column_at (Many [] ws) d i e = cc
column_at (Many (n ∷ ds) ws) d i e =
    let k = map_at (formed ds) (parts n (extent ds) ws) i d e in
    record { count = n; rest = ds; whole = refl; part = ap sizes k.1 ∙ formed_sizes ds k.0; some = let m = parts_many n (extent ds) ws in omega (arith, k.2, m) }
  where
    parts_many : {A : Type 0} (n k : ℕ) (xs : List A) → length (parts n k xs) ≡ n
    parts_many zero k xs = refl
    parts_many (suc n) k xs = ap suc (parts_many n k _)

record Beside_at {A : Type 0} (xs : List A) (rs : List (List A)) (i : ℕ) (row : List A) : Type 0 where
  first : A
  others : List A
  is : row ≡ first ∷ others
  in_first : slice_get xs i ≡ Some first
  in_others : slice_get rs i ≡ Some others

beside_at : {A : Type 0} (xs : List A) (rs : List (List A)) (i : ℕ) (row : List A) → slice_get (beside xs rs) i ≡ Some row → Beside_at xs rs i row
beside_at [] rs i row e = cc
beside_at (x ∷ xs) [] i row e = cc
beside_at (x ∷ xs) (r ∷ rs) zero row e = record { first = x; others = r; is = (let z : Some (x ∷ r) ≡ Some row = e in cc); in_first = refl; in_others = refl }
beside_at (x ∷ xs) (r ∷ rs) (suc i) row e = let k = beside_at xs rs i row e in record { first = k.first; others = k.others; is = k.is; in_first = k.in_first; in_others = k.in_others }

replicate_at : (n i : ℕ) (row : Row) → slice_get (replicate n []) i ≡ Some row → row ≡ []
replicate_at zero i row e = cc
replicate_at (suc n) zero row e = let z : Some [] ≡ Some row = e in cc
replicate_at (suc n) (suc i) row e = replicate_at n i row e

row_less : (n i : ℕ) (cs row : Row) → slice_get (across n cs) i ≡ Some row → (peaks 1 (all_sizes row) ≤ peaks 1 (all_sizes cs)) × (extents (all_sizes row) ≤ extents (all_sizes cs))
row_less n i [] row e = let q = replicate_at n i row e in (subst (λ z. peaks 1 (all_sizes z) ≤ 0) (sym q) (omega arith), subst (λ z. extents (all_sizes z) ≤ 0) (sym q) (omega arith))
row_less n i (c ∷ cs) row e =
    let k = beside_at (column c) (across n cs) i row e in
    let z = column_at c k.first i k.in_first in
    let m = row_less n i cs k.others k.in_others in
    let p = peak_less z.count z.rest z.some in
    let q = extent_less z.count z.rest z.some in
    let a : peaks 1 (all_sizes row) ≡ max (peak 1 z.rest) (peaks 1 (all_sizes k.others)) = ap (λ y. peaks 1 (all_sizes y)) k.is ∙ ap (λ y. max (peak 1 y) (peaks 1 (all_sizes k.others))) z.part in
    let b : extents (all_sizes row) ≡ extent z.rest + extents (all_sizes k.others) = ap (λ y. extents (all_sizes y)) k.is ∙ ap (λ y. extent y + extents (all_sizes k.others)) z.part in
    let c1 : peak 1 (sizes c) ≡ peak 1 (z.count ∷ z.rest) = ap (peak 1) z.whole in
    let d1 : extent (sizes c) ≡ extent (z.count ∷ z.rest) = ap extent z.whole in
    (omega (arith, a, c1, p, m.0), omega (arith, b, d1, q, m.1))

width_less : (w : ℕ) (cs : Row) → (peaks 1 (all_sizes (of_width w cs)) ≤ peaks 1 (all_sizes cs)) × (extents (all_sizes (of_width w cs)) ≤ extents (all_sizes cs))
width_less zero cs = (omega arith, omega arith)
width_less (suc w) cs = (omega arith, omega arith)

row_within : (at : Place) (w i : ℕ) (bs : Row) (rows : List Row) (row : Row) → rows_of false at w bs ≡ Val rows → slice_get rows i ≡ Some row → nat_le (weight_of (all_sizes bs)) most_words ≡ true → within_weight at row ≡ Val row
unfolding within_weight
row_within at w i bs rows row e f k =
    let z = rows_read at w bs rows e in
    let m = row_less z.many i (of_width w bs) row (ap (λ y. slice_get y i) (sym z.are) ∙ f) in
    let n = width_less w bs in
    ap (λ y. checked y kind.TooLarge at (Val row)) (within_less (weight_of (all_sizes row)) (weight_of (all_sizes bs)) (omega (arith, m.0, m.1, n.0, n.1)) k)

-- ---- the row

index_eq : (at : Place) (w : ℕ) (bs : Row) (c : Component) → indexed false at w (part.At ∷ []) bs (c ∷ []) ≡ and_then (and_then (exact_in c) (λ z. index_in at z (first_sizes bs))) (λ i. and_then (cut false at w (Cut_at i ∷ []) bs) (within_weight at))
unfolding picks
index_eq at w bs c = by_exact (exact_in c) (first_sizes bs)
  where
    rest : Cut → Out Row
    rest k = and_then (cut false at w (k ∷ []) bs) (within_weight at)

    by_test : (i : ℕ) (b : Bool) → and_then (and_then (checked b kind.Bounds at (Val (Cut_at i))) (λ k. and_then (Val []) (λ ks. Val (k ∷ ks)))) (λ ks. and_then (cut false at w ks bs) (within_weight at)) ≡ and_then (checked b kind.Bounds at (Val i)) (λ i. rest (Cut_at i))
    by_test i true = refl
    by_test i false = refl

    by_exact : (o : Out ℤ) (ds : List ℕ) → and_then (and_then o (λ z. and_then (Val []) (λ zs. Val (z ∷ zs)))) (λ zs. and_then (picks (part.At ∷ []) zs) (λ qs. and_then (cuts at qs ds) (λ cs. and_then (cut false at w cs bs) (within_weight at)))) ≡ and_then (and_then o (λ z. index_in at z ds)) (λ i. rest (Cut_at i))
    by_exact (Val z) [] = refl
    by_exact (Val (pos i)) (n ∷ ds) = by_test i (nat_le (suc i) n)
    by_exact (Val (negsuc i)) (n ∷ ds) = refl
    by_exact (Fail r) ds = refl
    by_exact Wrong ds = refl

cut_row : (at : Place) (w i : ℕ) (bs : Row) → cut false at w (Cut_at i ∷ []) bs ≡ and_then (rows_of false at w bs) (λ rs. or_bounds at (slice_get rs i))
unfolding cut
cut_row at w i bs = by_rows (rows_of false at w bs)
  where
    by_get : (o : Option Row) → and_then (or_bounds at o) (λ r. Val r) ≡ or_bounds at o
    by_get None = refl
    by_get (Some r) = refl

    by_rows : (o : Out (List Row)) → and_then o (λ rs. and_then (or_bounds at (slice_get rs i)) (λ r. Val r)) ≡ and_then o (λ rs. or_bounds at (slice_get rs i))
    by_rows (Val rs) = by_get (slice_get rs i)
    by_rows (Fail r) = refl
    by_rows Wrong = refl

module _ (r : Bundle) (u : Atom) (at : Place) (S : State) where
  pub index_failed_at : (S' : State) (e : Stop) → Index_read S.words S.arena.arrays r u at (Err e) → Index_told r u at S S' (Err e)
  unfolding Index_read Index_told
  index_failed_at S' e h G env n row s bs c st x i b v y = by_told (h G env n row s bs c st x i b v y)
    where
      by_told : {e : Stop} → CountTold (and_then (exact_in c) (λ z. index_in at z (first_sizes bs))) (Err e) → IndexTold (indexed false at r.width (part.At ∷ []) bs (c ∷ [])) row S S' (Err e)
      by_told (count_failed q) = index_failed (index_eq at r.width bs c ∙ ap (λ z. and_then z (λ i. and_then (cut false at r.width (Cut_at i ∷ []) bs) (within_weight at))) q)
      by_told no_count = no_index

  module _ (i : ℕ) (h : Index_read S.words S.arena.arrays r u at (Ok i)) where
    -- behind the test of the number
    here : (G : Sorts) (env : Env) (n : ℕ) (row : List Sort) (s : Sort) (bs : Row) (c : Component) → Stands G env n S.arena.arrays S.words → Rows_are G r row → Integer s → Atom_is G u s → values_of env r.arrays ≡ Val bs → value_of env u ≡ Val c
        → indexed false at r.width (part.At ∷ []) bs (c ∷ []) ≡ and_then (and_then (rows_of false at r.width bs) (λ rs. or_bounds at (slice_get rs i))) (within_weight at)
    unfolding Index_read
    here G env n row s bs c st x j b v y = by_told i refl (h G env n row s bs c st x j b v y)
      where
        by_told : (k : ℕ) → k ≡ i → CountTold (and_then (exact_in c) (λ z. index_in at z (first_sizes bs))) (Ok k) → indexed false at r.width (part.At ∷ []) bs (c ∷ []) ≡ and_then (and_then (rows_of false at r.width bs) (λ rs. or_bounds at (slice_get rs i))) (within_weight at)
        by_told k e (count_told q) =
            index_eq at r.width bs c ∙ ap (λ z. and_then z (λ i. and_then (cut false at r.width (Cut_at i ∷ []) bs) (within_weight at))) q
            ∙ ap (λ z. and_then (cut false at r.width (Cut_at z ∷ []) bs) (within_weight at)) e ∙ ap (λ z. and_then z (within_weight at)) (cut_row at r.width i bs)

    pub index_misfit : (S' : State) (e : Stop) → Bundle_counted S.words S.arena.arrays r at (Err e) → Index_told r u at S S' (Err e)
    unfolding Bundle_counted Index_told
    index_misfit S' e k G env n row s bs c st x j b v y = by_told (k G env n row st x)
      where
        by_told : {e : Stop} → BundleTold env r at (Err e) → IndexTold (indexed false at r.width (part.At ∷ []) bs (c ∷ [])) row S S' (Err e)
        by_told (bundle_failed cs v' q) =
            let same : cs ≡ bs = let z : Val cs ≡ Val bs = sym v' ∙ v in cc in
            index_failed (here G env n row s bs c st x j b v y ∙ ap (λ z. and_then (and_then z (λ rs. or_bounds at (slice_get rs i))) (within_weight at)) (ap (rows_of false at r.width) (sym same) ∙ q))
        by_told no_bundle = no_index

    pub index_done : (count : ℕ) (s1 : List ℕ) (S' : State) (a : Answer) → Bundle_counted S.words S.arena.arrays r at (Ok count) → i < count → Bundle_within S.words S.arena.arrays r.arrays S.stack s1 (Ok true) → Bundle_pushed r i (state S.arena S.words s1) S' a → Index_told r u at S S' a
    unfolding Bundle_counted Bundle_within Bundle_pushed Index_told
    index_done count s1 S' a k l w p G env n row s bs c st x j b v y = by_told count refl (k G env n row st x)
      where
        by_push : {a : Answer} (rows : List Row) → rows_of false at r.width bs ≡ Val rows → RowPushed (λ ds. slice_get rows i ≡ Some ds) row (state S.arena S.words s1) S' a → IndexTold (indexed false at r.width (part.At ∷ []) bs (c ∷ [])) row S S' a
        by_push rows q (row_pushed ds ws z sh t g) =
            index_told ds ws
            (here G env n row s bs c st x j b v y ∙ ap (λ z. and_then (and_then z (λ rs. or_bounds at (slice_get rs i))) (within_weight at)) q ∙ ap (λ z. and_then (or_bounds at z) (within_weight at)) z
            ∙ row_within at r.width i bs rows ds q z (w G env n x.sorts bs st x.are v).1)
            sh (t ∙ ap (λ z. z ++ ws) (w G env n x.sorts bs st x.are v).0) (record { arrays = g.arrays; handed = g.handed })
        by_push rows q no_row = no_index

        by_told : (m : ℕ) → m ≡ count → BundleTold env r at (Ok m) → IndexTold (indexed false at r.width (part.At ∷ []) bs (c ∷ [])) row S S' a
        by_told _ e (bundle_told cs rows v' q) =
            let same : cs ≡ bs = let z : Val cs ≡ Val bs = sym v' ∙ v in cc in
            let q' : rows_of false at r.width bs ≡ Val rows = ap (rows_of false at r.width) (sym same) ∙ q in
            by_push rows q' (p G env n row bs rows at st x v q' (omega (arith, l, e)))

pub index_memory : (r : Bundle) (u : Atom) (at : Place) (S S' : State) (e : Stop) → e ≡ Memory → Index_told r u at S S' (Err e)
unfolding Index_told
index_memory r u at S S' e q G env n row s bs c st x i b v y = subst (λ z. IndexTold (indexed false at r.width (part.At ∷ []) bs (c ∷ [])) row S S' (Err z)) (sym q) no_index

pub ruleset indices = (index_memory)

-- ---- as a step

pub index_act : (budget : ℕ) (r : Bundle) (u : Atom) (at : Place) (S S' : State) (a : Answer) → S'.words ≡ S.words → Index_told r u at S S' a → Act_runs budget (Do (Index r.width (part.At ∷ [])) at (r.arrays ∷ (u ∷ []) ∷ [])) S S' a
unfolding Index_told Act_runs act_means done
index_act budget r u at S S' a w h G env ss n last st (deed_gives g d) nb = by_groups ss g d
  where
    o : Out Row
    o = and_then (groups_of env (r.arrays ∷ (u ∷ []) ∷ [])) (done false (Index r.width (part.At ∷ [])) at)

    by_told : {a : Answer} (ss : List Sort) (bs : Row) (c : Component) → o ≡ indexed false at r.width (part.At ∷ []) bs (c ∷ []) → IndexTold (indexed false at r.width (part.At ∷ []) bs (c ∷ [])) ss S S' a → Runs (Then (the o) (λ cs. gives (fresh_words (Index r.width (part.At ∷ [])) cs) cs)) ss n S S' a
    by_told ss bs c q (index_told cs ws e sh t g) =
        ran cs ws (0 + 0) t sh (record { words = λ x l. ap (λ t. slice_get t x) w; arrays = g.arrays; handed = omega (arith, g.handed) }) (goes_on (the_is o (Val cs) (q ∙ e)) exact)
    by_told ss bs c q (index_failed {r = f} e) = failed 0 (stops (the_is o (Fail f) (q ∙ e)))
    by_told ss bs c q no_index = no_memory

    same : (bs : Row) (c : Component) → values_of env r.arrays ≡ Val bs → value_of env u ≡ Val c → o ≡ indexed false at r.width (part.At ∷ []) bs (c ∷ [])
    same bs c v y =
        ap (λ z. and_then (and_then z (λ cs. and_then (and_then (and_then (value_of env u) (λ c. and_then (Val []) (λ cs. Val (c ∷ cs)))) (λ cs. and_then (Val []) (λ css. Val (cs ∷ css)))) (λ css. Val (cs ∷ css)))) (done false (Index r.width (part.At ∷ [])) at)) v
        ∙ ap (λ z. and_then (and_then (and_then (and_then z (λ c. and_then (Val []) (λ cs. Val (c ∷ cs)))) (λ cs. and_then (Val []) (λ css. Val (cs ∷ css)))) (λ css. Val (bs ∷ css))) (done false (Index r.width (part.At ∷ [])) at)) y

    by_gives : (ss bss iss : List Sort) → Atoms_are G r.arrays bss → Atoms_are G (u ∷ []) iss → Index_gives r.width (part.At ∷ []) bss ss → Integers iss → Runs (Then (the o) (λ cs. gives (fresh_words (Index r.width (part.At ∷ [])) cs) cs)) ss n S S' a
    by_gives ss bss _ x (all_more {x' = s} y all_none) (last_row bd e) (integer_and i no_integer) =
        let v = values_there G env n S.arena.arrays S.words r.arrays bss st x in
        let q = values_there G env n S.arena.arrays S.words (u ∷ []) (s ∷ []) st (all_more y all_none) in
        let f = first_value env u [] q.0 q.1 in
        by_told ss v.0 f.first (same v.0 f.first v.1 f.value) (h G env n ss s v.0 f.first st (record { sorts = bss; bundled = bd; wide = e; are = x }) i y v.1 f.value)

    by_groups : {sss : List (List Sort)} (ss : List Sort) → Groups_are G (r.arrays ∷ (u ∷ []) ∷ []) sss → Deed_gives (Index r.width (part.At ∷ [])) sss ss → Runs (Then (the o) (λ cs. gives (fresh_words (Index r.width (part.At ∷ [])) cs) cs)) ss n S S' a
    by_groups ss (all_more {x' = bss} x (all_more {x' = iss} y all_none)) (index_gives z i m) = by_gives ss bss iss x y z i

one_list : {A : Type 0} (xs : List A) (d : A) → length xs ≡ 1 → xs ≡ get_or xs 0 d ∷ []
one_list [] d e = absurd (omega (arith, e))
one_list (x ∷ []) d e = refl
one_list (x ∷ y ∷ xs) d e = absurd (omega (arith, e))

pub view_index : (budget : ℕ) (v : View) (r : Rows) (ps : Bor (List Part)) (us : Bor (List Atom)) (d : Part) (e : Atom) (at : Place) (S S' : State) (a : Answer) → v ≡ view.Index r ps us → length us.now ≡ 1 → length ps.now ≡ 1 → get_or ps.now 0 d ≡ part.At → S'.words ≡ S.words → Index_told (bundle_form r) (get_or us.now 0 e) at S S' a → Act_runs budget (view_form v at) S S' a
unfolding view_form
view_index budget v r ps us d e at S S' a q m n p w h =
    subst (λ z. Act_runs budget z S S' a)
    (sym (ap (λ z. view_form z at) q ∙ ap (λ z. Do (Index r.width z) at (r.arrays.now ∷ us.now ∷ [])) (one_list ps.now d n ∙ ap (λ z. z ∷ []) p) ∙ ap (λ z. Do (Index r.width (part.At ∷ [])) at (r.arrays.now ∷ z ∷ [])) (one_list us.now e m)))
    (index_act budget (bundle_form r) (get_or us.now 0 e) at S S' a w h)

pub ruleset viewings = (act_memory)
