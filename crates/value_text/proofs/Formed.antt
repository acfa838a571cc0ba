-- What is read is well formed, of the wanted rank, and of no greater weight than arrays may have.
use Rattle.std.proofs.Common.{◌≡◌, ◌+◌, ◌*◌, ◌<◌, ◌≤◌, ◌^◌, ℕ, zero, suc, List, [], ◌∷◌, ◌++◌, All, length, drop, arith, refl, sym, ap, ◌∙◌, subst, eqb-true, ltb-true, ltb-false, length-append}
use Rattle.std.specs.Prelude.{Bool, true, false, cond, max, nat_lt, ◌==◌, ◌&&◌, ◌||◌, Option, Some, None, Result, Ok, Err}
use Rattle.std.proofs.lemmas.List.Elements.{All-append, All-cons, All-nil}
use Rattle.std.proofs.Math.Nat.{mul-le-mul_left}
use Rattle.fut_scalar.specs.declared.scalar.Scalar.{Scalar}
use Rattle.fut_scalar.specs.declared.scalar.Scalar.TheVariants as scalar
use Rattle.fut_scalar.specs.declared.scalar.ScalarType.{ScalarType}
use Rattle.fut_scalar.specs.declared.scalar.ScalarType.TheVariants as sort
use Rattle.fut_scalar.specs.declared.sizes.ArgType.{ArgType}
use Rattle.fut_arithmetic.specs.Types.{IsOf}
use Rattle.fut_arithmetic.specs.Words.{word_of}
use Rattle.fut_value.specs.Values.{IsWellFormed, greatest_weight, product, weight_of, word_count}
use Rattle.fut_value.specs.declared.value.Value.{Value}
use Rattle.fut_value.proofs.Flats.{word_fits}
use Rattle.value_text.specs.Arguments.{Reader, Values, nothing_at, value_at, value_of, values_on, with_front}
use Rattle.value_text.specs.Arrays.{Array_reader, Read, Rows, and_then, behind_row, counted, empty_as, first_sizes, form_as_array, in_limits, is_wanted_empty, no_row, no_rows, other_than_rows, read_at, rows_at, rows_up_to, same_sizes, scalar_as, scalar_read, spelled_as_array, spelled_scalar}
use Rattle.value_text.specs.Gaps.{begins_with, gap_at}
use Rattle.value_text.specs.Gives.{HaveTypes, IsLight}
use Rattle.value_text.specs.Reading.{in_range, may_be, signed, value_as, value_in}
use Rattle.value_text.specs.Spelled.{spelled_at}
use Rattle.value_text.specs.Written.{Dimension, first_beyond, has_zero, names_type, size_limit, sizes_of, written}
use Rattle.value_text.specs.declared.reading.TextErr.{TextErr}
use Rattle.value_text.specs.declared.reading.TextErr.TheVariants as text
use Rattle.value_text.specs.declared.spelled.Form.{Form}
use Rattle.value_text.specs.declared.spelled.Form.TheVariants as form
use Rattle.value_text.specs.declared.spelled.Spelled.{Spelled}
use Rattle.value_text.proofs.Integers.{found_integers_stand}
use Rattle.value_text.proofs.Sound.{ok_is}

pub record Is_read (ty : ScalarType) (rank : ℕ) (read : Read) : Type 0 where
  pub ranks : length read.sizes ≡ rank
  pub all : length read.words ≡ product read.sizes
  pub fit : All (λ w. w < word_count ty) read.words
  pub below : All (λ n. n < 2 ^ 63) read.sizes
  pub light : weight_of read.sizes ≤ greatest_weight

-- ---- one after the other

pub record Then {A B : Type 0} (x : Result A TextErr) (f : A → Result B TextErr) (b : B) : Type 0 where
  pub a : A
  pub first : x ≡ Ok a
  pub next : f a ≡ Ok b

pub both : {A B : Type 0} (x : Result A TextErr) (f : A → Result B TextErr) (b : B) → and_then x f ≡ Ok b → Then x f b
both (Ok a) f b h = record { a = a; first = refl; next = h }
both (Err err) f b h = absurd cc

and_left : (s t : Bool) → (s && t) ≡ true → s ≡ true
and_left true t h = refl
and_left false t h = absurd cc

and_right : (s t : Bool) → (s && t) ≡ true → t ≡ true
and_right true t h = h
and_right false t h = absurd cc

-- ---- scalars

value_typed : (ty : ScalarType) (position : ℕ) (f : Form) (value : Scalar) → value_as ty position f ≡ Ok value → IsOf ty value
value_typed (sort.Int ty) position (form.Integer negative magnitude suffix) value h = by_name (may_be ty suffix) h
  where
    by_range : (r : Option Scalar) → value_in ty (signed negative magnitude) ≡ r → in_range position r ≡ Ok value → IsOf (sort.Int ty) value
    by_range (Some v) e k =
        let s = found_integers_stand ty (signed negative magnitude) v e in
        subst (IsOf (sort.Int ty)) (sym s.1 ∙ ok_is v value k) (refl, s.2)
    by_range None e k = absurd cc

    by_name : (t : Bool) → cond t (in_range position (value_in ty (signed negative magnitude))) (Err (text.WrongType position)) ≡ Ok value → IsOf (sort.Int ty) value
    by_name true k = by_range (value_in ty (signed negative magnitude)) refl k
    by_name false k = absurd cc
value_typed (sort.Int ty) position (form.Truth b) value h = absurd cc
value_typed (sort.Int ty) position form.Array value h = absurd cc
value_typed sort.Bool position (form.Truth b) value h = subst (IsOf sort.Bool) (ok_is (scalar.Bool b) value h) (refl, tt)
value_typed sort.Bool position (form.Integer negative magnitude suffix) value h = absurd cc
value_typed sort.Bool position form.Array value h = absurd cc

scalar_is : (ty : ScalarType) (position : ℕ) (bytes : List ℕ) (read : Read) → spelled_scalar ty position bytes ≡ Ok read → Is_read ty 0 read
unfolding spelled_scalar
scalar_is ty position bytes read h = by_spelled (spelled_at bytes) h
  where
    by_value : (s : Spelled) (r : Result Scalar TextErr) → value_as ty position s.form ≡ r → scalar_read s.length r ≡ Ok read → Is_read ty 0 read
    by_value s (Ok value) e k =
        let o = value_typed ty position s.form value e in
        subst (Is_read ty 0) (ok_is _ read k) (record {
          ranks = refl;
          all = refl;
          fit = All-cons (λ w. w < word_count ty) (word_of value) [] (subst (λ t. word_of value < word_count t) o.0 (word_fits value o.1)) (All-nil _);
          below = All-nil _;
          light = omega arith;
        })
    by_value s (Err err) e k = absurd cc

    by_spelled : (r : Result Spelled ℕ) → scalar_as ty position r ≡ Ok read → Is_read ty 0 read
    by_spelled (Ok s) k = by_value s (value_as ty position s.form) refl k
    by_spelled (Err offset) k = absurd cc

-- ---- empty arrays

pub zero_product : (ns : List ℕ) → has_zero ns ≡ true → product ns ≡ 0
zero_product [] h = absurd cc
zero_product (n ∷ ns) h = by_test (n == 0) refl (zero_product ns) h
  where
    by_test : (t : Bool) → (n == 0) ≡ t → (has_zero ns ≡ true → product ns ≡ 0) → (t || has_zero ns) ≡ true → n * product ns ≡ 0
    by_test true e f k = ap (λ m. m * product ns) (eqb-true n 0 e) ∙ omega arith
    by_test false e f k = ap (λ m. n * m) (f k) ∙ omega arith

pub all_below : (ds : List Dimension) → first_beyond ds ≡ None → All (λ n. n < 2 ^ 63) (sizes_of ds)
all_below [] h = All-nil _
all_below (d ∷ ds) h = by_test (nat_lt d.size size_limit) refl (all_below ds) h
  where
    by_test : (t : Bool) → nat_lt d.size size_limit ≡ t → (first_beyond ds ≡ None → All (λ n. n < 2 ^ 63) (sizes_of ds)) → cond t (first_beyond ds) (Some d.from) ≡ None → All (λ n. n < 2 ^ 63) (d.size ∷ sizes_of ds)
    by_test true e f k = All-cons (λ n. n < 2 ^ 63) d.size (sizes_of ds) (ltb-true d.size size_limit e) (f k)
    by_test false e f k = absurd cc

-- an empty array that was read is wanted, and within the limits
pub record Is_sized (ty : ScalarType) (rank long : ℕ) (dims : List Dimension) (after : List ℕ) (read : Read) : Type 0 where
  pub ranks : length (sizes_of dims) ≡ rank
  pub zero : has_zero (sizes_of dims) ≡ true
  pub names : names_type ty (drop (gap_at after) after) ≡ true
  pub within : first_beyond dims ≡ None
  pub light : weight_of (sizes_of dims) ≤ greatest_weight
  pub read_is : ◌≡◌ {A = Read} (record { sizes = sizes_of dims; words = []; length = long }) read

pub sized_is : (ty : ScalarType) (rank position from long : ℕ) (bytes : List ℕ) (read : Read) → empty_as ty rank position from long bytes ≡ Ok read → Is_sized ty rank long (written bytes).all (drop (written bytes).end bytes) read
unfolding empty_as
sized_is ty rank position from long bytes read h = by_wanted (is_wanted_empty ty rank ns after) refl h
  where
    dims : List Dimension
    dims = (written bytes).all

    ns : List ℕ
    ns = sizes_of dims

    after : List ℕ
    after = drop (written bytes).end bytes

    by_weight : (t : Bool) → is_wanted_empty ty rank ns after ≡ true → first_beyond dims ≡ None → nat_lt greatest_weight (weight_of ns) ≡ t → cond t (Err (text.TooLarge position)) (Ok (record { sizes = ns; words = []; length = long })) ≡ Ok read → Is_sized ty rank long dims after read
    by_weight true w b e k = absurd cc
    by_weight false w b e k = record {
      ranks = eqb-true (length ns) rank (and_left (length ns == rank) (has_zero ns) (and_left (length ns == rank && has_zero ns) (names_type ty (drop (gap_at after) after)) w));
      zero = and_right (length ns == rank) (has_zero ns) (and_left (length ns == rank && has_zero ns) (names_type ty (drop (gap_at after) after)) w);
      names = and_right (length ns == rank && has_zero ns) (names_type ty (drop (gap_at after) after)) w;
      within = b;
      light = ltb-false greatest_weight (weight_of ns) e;
      read_is = ok_is _ read k;
    }

    by_beyond : (o : Option ℕ) → is_wanted_empty ty rank ns after ≡ true → first_beyond dims ≡ o → in_limits position from long ns o ≡ Ok read → Is_sized ty rank long dims after read
    by_beyond (Some offset) w e k = absurd cc
    by_beyond None w e k = by_weight (nat_lt greatest_weight (weight_of ns)) w e refl k

    by_wanted : (t : Bool) → is_wanted_empty ty rank ns after ≡ t → cond t (in_limits position from long ns (first_beyond dims)) (Err (text.WrongType position)) ≡ Ok read → Is_sized ty rank long dims after read
    by_wanted true w k = by_beyond (first_beyond dims) w refl k
    by_wanted false w k = absurd cc

pub record Is_other (ty : ScalarType) (rank position : ℕ) (bytes : List ℕ) (read : Read) : Type 0 where
  pub spelled : Spelled
  pub is : spelled_at bytes ≡ Ok spelled
  pub array : spelled.form ≡ form.Array
  pub sized : Is_sized ty rank spelled.length (written (drop (gap_at (drop 5 bytes) + 1) (drop 5 bytes))).all (drop (written (drop (gap_at (drop 5 bytes) + 1) (drop 5 bytes))).end (drop (gap_at (drop 5 bytes) + 1) (drop 5 bytes))) read

pub other_is : (ty : ScalarType) (rank position : ℕ) (bytes : List ℕ) (read : Read) → other_than_rows ty rank position bytes ≡ Ok read → Is_other ty rank position bytes read
unfolding other_than_rows
other_is ty rank position bytes read h = by_spelled (spelled_at bytes) refl h
  where
    by_form : (s : Spelled) (f : Form) → spelled_at bytes ≡ Ok s → s.form ≡ f → form_as_array ty rank position s.length (drop 5 bytes) f ≡ Ok read → Is_other ty rank position bytes read
    by_form s form.Array e g k = record { spelled = s; is = e; array = g; sized = sized_is ty rank position _ s.length (drop (gap_at (drop 5 bytes) + 1) (drop 5 bytes)) read k }
    by_form s (form.Truth b) e g k = absurd cc
    by_form s (form.Integer negative n suffix) e g k = absurd cc

    by_spelled : (r : Result Spelled ℕ) → spelled_at bytes ≡ r → spelled_as_array ty rank position bytes r ≡ Ok read → Is_other ty rank position bytes read
    by_spelled (Ok s) e k = by_form s s.form e refl k
    by_spelled (Err offset) e k = absurd cc

empty_read : (ty : ScalarType) (rank position : ℕ) (bytes : List ℕ) (read : Read) → other_than_rows ty rank position bytes ≡ Ok read → Is_read ty rank read
empty_read ty rank position bytes read h =
    let s = (other_is ty rank position bytes read h).sized in
    subst (Is_read ty rank) s.read_is (record { ranks = s.ranks; all = sym (zero_product _ s.zero); fit = All-nil _; below = all_below _ s.within; light = s.light })

-- ---- rows

same_is : (a b : List ℕ) → same_sizes a b ≡ true → a ≡ b
same_is [] [] h = refl
same_is [] (n ∷ ns) h = absurd cc
same_is (m ∷ ms) [] h = absurd cc
same_is (m ∷ ms) (n ∷ ns) h =
    let e = eqb-true m n (and_left (m == n) (same_sizes ms ns) h) in
    ap (λ k. k ∷ ms) e ∙ ap (λ ks. n ∷ ks) (same_is ms ns (and_right (m == n) (same_sizes ms ns) h))

-- a row that counts has the sizes of the first
pub record Counts (count : ℕ) (first row sizes : List ℕ) : Type 0 where
  pub same : sizes ≡ row
  pub first_is : (count ≡ 0 → ⊥) → first ≡ row
  pub light : weight_of ((count + 1) ∷ row) ≤ greatest_weight

pub counted_is : (position count : ℕ) (first row sizes : List ℕ) → counted position count first row ≡ Ok sizes → Counts count first row sizes
unfolding counted
counted_is position count first row sizes h = by_weight (nat_lt greatest_weight (weight_of ((count + 1) ∷ kept))) refl h
  where
    kept : List ℕ
    kept = first_sizes count first row

    not_zero : (count == 0) ≡ true → (count ≡ 0 → ⊥) → ⊥
    not_zero e apart = apart (eqb-true count 0 e)

    by_count : (t : Bool) → (count == 0) ≡ t → row ≡ cond t row first → ((count ≡ 0 → ⊥) → first ≡ row)
    by_count true e k apart = absurd (not_zero e apart)
    by_count false e k apart = sym k

    by_same : (t : Bool) → same_sizes row kept ≡ t → weight_of ((count + 1) ∷ kept) ≤ greatest_weight → cond t (Ok kept) (Err (text.Irregular position)) ≡ Ok sizes → Counts count first row sizes
    by_same true e l k =
        let same = same_is row kept e in
        record { same = sym (ok_is kept sizes k) ∙ sym same; first_is = by_count (count == 0) refl same; light = subst (λ ns. weight_of ((count + 1) ∷ ns) ≤ greatest_weight) (sym same) l }
    by_same false e l k = absurd cc

    by_weight : (t : Bool) → nat_lt greatest_weight (weight_of ((count + 1) ∷ kept)) ≡ t → cond t (Err (text.TooLarge position)) (cond (same_sizes row kept) (Ok kept) (Err (text.Irregular position))) ≡ Ok sizes → Counts count first row sizes
    by_weight true e k = absurd cc
    by_weight false e k = by_same (same_sizes row kept) refl (ltb-false greatest_weight (weight_of ((count + 1) ∷ kept)) e) k

-- the rows so far
record So_far (ty : ScalarType) (rows : Rows) : Type 0 where
  pub all : length rows.words ≡ rows.count * product rows.sizes
  pub fit : All (λ w. w < word_count ty) rows.words

few : (n : ℕ) (ns : List ℕ) → weight_of (n ∷ ns) ≤ greatest_weight → n < 2 ^ 63
few n ns h =
    let more : n ≤ n * max 1 (weight_of ns) = omega (arith, mul-le-mul_left {m = 1} {n = max 1 (weight_of ns)} n (omega arith)) in
    omega (arith, more, h)

zero_plus : (p n : ℕ) → n ≡ 0 → (n + 1) * p ≡ p
zero_plus p n z = ap (λ k. (k + 1) * p) z ∙ omega arith

module _ (ty : ScalarType) (rank : ℕ) (row : Array_reader) (each : (position : ℕ) (bytes : List ℕ) (read : Read) → row position bytes ≡ Ok read → Is_read ty rank read) where
  next_so_far : (rows : Rows) (read : Read) (sizes : List ℕ) → So_far ty rows → Is_read ty rank read → Counts rows.count rows.sizes read.sizes sizes → So_far ty (record { count = rows.count + 1; sizes = sizes; words = rows.words ++ read.words })
  next_so_far rows read sizes s r c = record {
    all = length-append rows.words read.words ∙ long rows.count s.all;
    fit = All-append (λ w. w < word_count ty) rows.words read.words s.fit r.fit;
  }
    where
      product_is : product read.sizes ≡ product sizes
      product_is = ap product (sym c.same)

      long : (count : ℕ) → length rows.words ≡ rows.count * product rows.sizes → length rows.words + length read.words ≡ (rows.count + 1) * product sizes
      long count e = by_count rows.count refl
        where
          by_count : (n : ℕ) → rows.count ≡ n → length rows.words + length read.words ≡ (rows.count + 1) * product sizes
          by_count zero z =
              let none : length rows.words ≡ 0 = e ∙ ap (λ k. k * product rows.sizes) z ∙ omega arith in
              let one : length read.words ≡ product sizes = r.all ∙ product_is in
              omega (arith, none, one, z, zero_plus (product sizes) rows.count z)
          by_count (suc n) z =
              let more : length rows.words ≡ rows.count * product sizes = e ∙ ap (λ ns. rows.count * product ns) (c.first_is (λ k. absurd (omega (arith, k, z))) ∙ sym c.same) in
              let one : length read.words ≡ product sizes = r.all ∙ product_is in
              omega (arith, more, one)

  -- behind a row the array ends, or others follow
  behind_read : (n : ℕ) → ((rows : Rows) (start before : ℕ) (bytes : List ℕ) (read : Read) → So_far ty rows → rows_up_to n row rows start before bytes ≡ Ok read → Is_read ty (suc rank) read)
      → (after : Rows) (start at : ℕ) (mark : List ℕ) (read : Read) → So_far ty after → length after.sizes ≡ rank → All (λ n. n < 2 ^ 63) after.sizes → weight_of (after.count ∷ after.sizes) ≤ greatest_weight
      → behind_row (rows_up_to n row) after start at mark ≡ Ok read → Is_read ty (suc rank) read
  behind_read n others after start at mark read s2 ranks below light k = by_close (begins_with 93 mark) k
    where
      by_comma : (t : Bool) → cond t (rows_up_to n row after start (at + 1) (drop 1 mark)) (Err (text.BadText (start + at))) ≡ Ok read → Is_read ty (suc rank) read
      by_comma true k = others after start (at + 1) (drop 1 mark) read s2 k
      by_comma false k = absurd cc

      by_close : (t : Bool) → cond t (Ok (record { sizes = after.count ∷ after.sizes; words = after.words; length = at + 1 })) (cond (begins_with 44 mark) (rows_up_to n row after start (at + 1) (drop 1 mark)) (Err (text.BadText (start + at)))) ≡ Ok read → Is_read ty (suc rank) read
      by_close true k = subst (Is_read ty (suc rank)) (ok_is _ read k) (record {
        ranks = ap suc ranks;
        all = s2.all;
        fit = s2.fit;
        below = All-cons (λ n. n < 2 ^ 63) after.count after.sizes (few after.count after.sizes light) below;
        light = light;
      })
      by_close false k = by_comma (begins_with 44 mark) k

  rows_read : (fuel : ℕ) (rows : Rows) (start before : ℕ) (bytes : List ℕ) (read : Read) → So_far ty rows → rows_up_to fuel row rows start before bytes ≡ Ok read → Is_read ty (suc rank) read
  rows_read zero rows start before bytes read s h = absurd cc
  rows_read (suc n) rows start before bytes read s h =
      let here = before + gap_at bytes in
      let front = drop (gap_at bytes) bytes in
      let one = both (row (start + here) front) (λ read. and_then (counted (start + here) rows.count rows.sizes read.sizes) (λ sizes. behind_row (rows_up_to n row) (record { count = rows.count + 1; sizes = sizes; words = rows.words ++ read.words }) start (here + read.length + gap_at (drop read.length front)) (drop (gap_at (drop read.length front)) (drop read.length front)))) read h in
      let r = one.a in
      let two = both (counted (start + here) rows.count rows.sizes r.sizes) (λ sizes. behind_row (rows_up_to n row) (record { count = rows.count + 1; sizes = sizes; words = rows.words ++ r.words }) start (here + r.length + gap_at (drop r.length front)) (drop (gap_at (drop r.length front)) (drop r.length front))) read one.next in
      let is_row = each (start + here) front r one.first in
      let counts = counted_is (start + here) rows.count rows.sizes r.sizes two.a two.first in
      behind_read n (rows_read n) (record { count = rows.count + 1; sizes = two.a; words = rows.words ++ r.words }) start (here + r.length + gap_at (drop r.length front)) (drop (gap_at (drop r.length front)) (drop r.length front)) read
      (next_so_far rows r two.a s is_row counts) (ap length counts.same ∙ is_row.ranks) (subst (All (λ n. n < 2 ^ 63)) (sym counts.same) is_row.below) (subst (λ ns. weight_of ((rows.count + 1) ∷ ns) ≤ greatest_weight) (sym counts.same) counts.light) two.next

no_rows_read : (ty : ScalarType) (rank position long : ℕ) (read : Read) → no_rows rank position long ≡ Ok read → Is_read ty (suc rank) read
no_rows_read ty zero position long read h =
    subst (Is_read ty 1) (ok_is _ read h) (record { ranks = refl; all = refl; fit = All-nil _; below = All-cons (λ n. n < 2 ^ 63) 0 [] (omega arith) (All-nil _); light = omega arith })
no_rows_read ty (suc n) position long read h = absurd cc

pub read_is : (ty : ScalarType) (rank position : ℕ) (bytes : List ℕ) (read : Read) → read_at ty rank position bytes ≡ Ok read → Is_read ty rank read
read_is ty zero position bytes read h = scalar_is ty position bytes read h
read_is ty (suc n) position bytes read h = by_open (read_is ty n) (begins_with 91 bytes) h
  where
    inner : List ℕ
    inner = drop 1 bytes

    by_close : ((position : ℕ) (bytes : List ℕ) (read : Read) → read_at ty n position bytes ≡ Ok read → Is_read ty n read) → (t : Bool) → cond t (no_rows n (position + 1 + gap_at inner) (gap_at inner + 2)) (rows_up_to (length inner) (read_at ty n) no_row position 1 inner) ≡ Ok read → Is_read ty (suc n) read
    by_close each true k = no_rows_read ty n (position + 1 + gap_at inner) (gap_at inner + 2) read k
    by_close each false k = rows_read ty n (read_at ty n) each (length inner) no_row position 1 inner read (record { all = refl; fit = All-nil _ }) k

    by_open : ((position : ℕ) (bytes : List ℕ) (read : Read) → read_at ty n position bytes ≡ Ok read → Is_read ty n read) → (t : Bool) → cond t (rows_at n (read_at ty n) position inner) (other_than_rows ty (suc n) position bytes) ≡ Ok read → Is_read ty (suc n) read
    by_open each true k = by_close each (begins_with 93 (drop (gap_at inner) inner)) k
    by_open each false k = empty_read ty (suc n) position bytes read k

-- ---- arguments

pub record Are_read (types : List ArgType) (values : List Value) : Type 0 where
  pub typed : HaveTypes types values
  pub formed : All IsWellFormed values
  pub light : All IsLight values

value_formed : (t : ArgType) (read : Read) → Is_read t.elem (length t.dims) read → IsWellFormed (value_of t read)
value_formed t read r = record { all = r.all; fit = r.fit; below = r.below }

module _ (t : ArgType) (types : List ArgType) (others : Reader) (after : (param position : ℕ) (bytes : List ℕ) (values : List Value) → others param position bytes ≡ Ok values → Are_read types values) where
  with_is : (read : Read) (values : List Value) (r : Values) → Is_read t.elem (length t.dims) read → ((more : List Value) → r ≡ Ok more → Are_read types more) → with_front (value_of t read) r ≡ Ok values → Are_read (t ∷ types) values
  with_is read values (Ok more) i f h =
      let m = f more refl in
      subst (Are_read (t ∷ types)) (ok_is (value_of t read ∷ more) values h) (record {
        typed = (refl, i.ranks, m.typed);
        formed = All-cons IsWellFormed (value_of t read) more (value_formed t read i) m.formed;
        light = All-cons IsLight (value_of t read) more i.light m.light;
      })
  with_is read values (Err err) i f h = absurd cc

  one_is : (param position : ℕ) (bytes : List ℕ) (values : List Value) → value_at t others param position bytes ≡ Ok values → Are_read (t ∷ types) values
  one_is param position [] values h = absurd cc
  one_is param position (b ∷ bs) values h =
      let b2 = both (read_at t.elem (length t.dims) position (b ∷ bs)) (λ read. with_front (value_of t read) (others (param + 1) (position + read.length) (drop read.length (b ∷ bs)))) values h in
      with_is b2.a values (others (param + 1) (position + b2.a.length) (drop b2.a.length (b ∷ bs))) (read_is t.elem (length t.dims) position (b ∷ bs) b2.a b2.first) (λ more e. after (param + 1) (position + b2.a.length) (drop b2.a.length (b ∷ bs)) more e) b2.next

nothing_is : (position : ℕ) (bytes : List ℕ) (values : List Value) → nothing_at position bytes ≡ Ok values → Are_read [] values
nothing_is position [] values h = subst (Are_read []) (ok_is [] values h) (record { typed = tt; formed = All-nil _; light = All-nil _ })
nothing_is position (b ∷ bs) values h = absurd cc

pub are_read : (types : List ArgType) (param position : ℕ) (bytes : List ℕ) (values : List Value) → values_on types param position bytes ≡ Ok values → Are_read types values
are_read [] param position bytes values h = nothing_is (position + gap_at bytes) (drop (gap_at bytes) bytes) values h
are_read (t ∷ types) param position bytes values h = one_is t types (values_on types) (are_read types) param (position + gap_at bytes) (drop (gap_at bytes) bytes) values h
