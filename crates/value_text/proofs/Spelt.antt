-- Texts of the grammar of arrays are read.
use Rattle.std.proofs.Common.{◌≡◌, ◌+◌, ◌*◌, ◌<◌, ◌≤◌, ℕ, zero, suc, List, [], ◌∷◌, ◌++◌, length, take, drop, arith, refl, sym, ap, ◌∙◌, subst, append_assoc, length-append, lt-ltb, le-ltb, eqb-true}
use Rattle.std.specs.Prelude.{Bool, true, false, cond, max, min, nat_lt, ◌==◌, ◌&&◌, ◌||◌, Some, None, Result, Ok, Err, codes}
use Rattle.std.specs.List.{prefix_len}
use Rattle.std.proofs.Math.Nat.{min-eq_left, mul-le-mul_right}
use Rattle.std.proofs.Math.Seq.{take-append_seam, drop-append_seam}
use Rattle.std.proofs.lemmas.Bool.{eq-eqb, ne_eqb}
use Rattle.std.proofs.lemmas.List.{drop-drop, drop_all}
use Rattle.fut_scalar.specs.declared.scalar.IntType.TheVariants.{I8, I16, I32, I64, U8, U16, U32, U64}
use Rattle.fut_scalar.specs.declared.scalar.ScalarType.{ScalarType}
use Rattle.fut_scalar.specs.declared.scalar.ScalarType.TheVariants as sort
use Rattle.fut_scalar.specs.declared.sizes.ArgType.{ArgType}
use Rattle.fut_value.specs.Values.{greatest_weight, weight_of}
use Rattle.fut_value.specs.declared.value.Value.{Value}
use Rattle.name_characters.specs.Names.{goes_on_name}
use Rattle.value_text.specs.Arguments.{Reader, in_agreement, nothing_at, value_at, value_of, values_on, with_front}
use Rattle.value_text.specs.Arrays.{Array_reader, Read, Rows_reader, and_then, behind_row, counted, empty_as, first_sizes, in_limits, is_wanted_empty, no_row, no_rows, other_than_rows, read_at, row_and, rows_at, rows_up_to, same_sizes, scalar_as, scalar_read, spelled_as_array, spelled_scalar}
use Rattle.value_text.specs.Claims.{ArgumentsAreRead}
use Rattle.value_text.specs.Empties.{Part, and_behind, digit_len, digits, dimension, dimensions, dimensions_up_to, empty_len, ending, mark, scalar_at, scalar_name, shift, size, then_part}
use Rattle.value_text.specs.Gaps.{begins_with, gap_at, is_blank}
use Rattle.value_text.specs.Grammar.{Gap, nothing, blank, comment}
use Rattle.value_text.specs.Numbers.{value_on}
use Rattle.value_text.specs.Printing.{type_text}
use Rattle.value_text.specs.Sizes.{values_for}
use Rattle.value_text.specs.Spelled.{empty_array, spelled_at, word_at}
use Rattle.value_text.specs.Values.{All_digits, Brackets, no_bracket, bracket_and, Row, Rows, last_row, row_and as rows_and, Spells_array, rows, no_rows as none_there, empty, Spells_scalar, Spells_value, Ends, Spelled_all, ended, value_and}
use Rattle.value_text.specs.Words.{common, is_digit, is_word, name_goes_on, type_at}
use Rattle.value_text.specs.Written.{digits_from, dimension_from, dimensions_in, first_beyond, has_zero, if_dimension, names_type, size_at, size_limit, sizes_of, with_dimension, written}
use Rattle.value_text.specs.declared.numbers.Base.TheVariants.{Decimal}
use Rattle.value_text.specs.declared.reading.TextErr.{TextErr}
use Rattle.value_text.specs.declared.reading.TextErr.TheVariants as text
use Rattle.value_text.specs.declared.spelled.Form.TheVariants as form
use Rattle.value_text.proofs.Names.{ascii_goes_on}
use Rattle.value_text.proofs.Texts.{found, gap_is, last_gap, no_blank, no_gap_at, no_minus, none_common, type_is}

-- ---- lists

pub two_drops : (n m : ℕ) (xs ys zs : List ℕ) → drop n xs ≡ ys → drop m ys ≡ zs → drop (n + m) xs ≡ zs
two_drops n m xs ys zs e f = sym (drop-drop m n xs) ∙ ap (drop m) e ∙ f

-- ---- blanks

after_gap : (gap rest : List ℕ) → Gap gap → gap_at rest ≡ 0 → gap_at (gap ++ rest) ≡ length gap
unfolding gap_at
after_gap gap rest g z = gap_is gap rest g ∙ omega (arith, z)

after_gap_drop : (gap rest : List ℕ) → Gap gap → gap_at rest ≡ 0 → drop (gap_at (gap ++ rest)) (gap ++ rest) ≡ rest
after_gap_drop gap rest g z = ap (λ k. drop k (gap ++ rest)) (after_gap gap rest g z) ∙ drop-append_seam gap rest

four : {P : Type 0} (a b c d : Bool) → (a ≡ true → P) → (b ≡ true → P) → (c ≡ true → P) → (d ≡ true → P) → (a || b || c || d) ≡ true → P
four true b c d f g h k e = f refl
four false true c d f g h k e = g refl
four false false true d f g h k e = h refl
four false false false true f g h k e = k refl
four false false false false f g h k e = absurd cc

byte_ends : (b c : ℕ) (bs : List ℕ) → name_goes_on (c ∷ bs) ≡ false → (b == c) ≡ true → name_goes_on (b ∷ bs) ≡ false
byte_ends b c bs h e = ap (λ x. name_goes_on (x ∷ bs)) (eqb-true b c e) ∙ h

blank_ends : (b : ℕ) (bs : List ℕ) → is_blank b ≡ true → name_goes_on (b ∷ bs) ≡ false
unfolding goes_on_name
blank_ends b bs e =
    four (b == 32) (b == 9) (b == 10) (b == 13) (byte_ends b 32 bs (ascii_goes_on 32 bs refl)) (byte_ends b 9 bs (ascii_goes_on 9 bs refl)) (byte_ends b 10 bs (ascii_goes_on 10 bs refl))
    (byte_ends b 13 bs (ascii_goes_on 13 bs refl)) e

-- what stands between values continues no name
gap_ends : (gap : List ℕ) (c : ℕ) (rest : List ℕ) → Gap gap → name_goes_on (c ∷ rest) ≡ false → name_goes_on (gap ++ c ∷ rest) ≡ false
unfolding goes_on_name
gap_ends _ c rest nothing h = h
gap_ends _ c rest (blank {b} {bs} e g) h = blank_ends b (bs ++ c ∷ rest) e
gap_ends _ c rest (comment line bs l g) h = ascii_goes_on 45 _ refl

mark_ends : (c : ℕ) (rest : List ℕ) → nat_lt c 128 ≡ true → goes_on_name c ≡ false → name_goes_on (c ∷ rest) ≡ false
mark_ends c rest low h = ascii_goes_on c rest low ∙ h

-- ---- parts

record Reads_part (part : Part) (bytes rest : List ℕ) (n : ℕ) : Type 0 where
  is : part bytes ≡ Ok n
  behind : drop n bytes ≡ rest

then_reads : (first next : Part) (bytes mid rest : List ℕ) (m k : ℕ) → Reads_part first bytes mid m → Reads_part next mid rest k → Reads_part (then_part first next) bytes rest (m + k)
then_reads first next bytes mid rest m k e f = record {
  is = ap (λ r. and_behind r (λ n. next (drop n bytes))) e.is ∙ ap (λ b. shift m (next b)) e.behind ∙ ap (shift m) f.is;
  behind = two_drops m k bytes mid rest e.behind f.behind;
}

mark_reads : (c : ℕ) (gap rest : List ℕ) → Gap gap → gap_at (c ∷ rest) ≡ 0 → (c == c) ≡ true → Reads_part (mark c) (gap ++ c ∷ rest) rest (length gap + 1)
unfolding mark
mark_reads c gap rest g z t = record {
  is = ap (λ b. cond b (Ok (gap_at (gap ++ c ∷ rest) + 1)) (Err (gap_at (gap ++ c ∷ rest)))) (ap (begins_with c) (after_gap_drop gap (c ∷ rest) g z) ∙ t) ∙ ap (λ k. Ok (k + 1)) (after_gap gap (c ∷ rest) g z);
  behind = two_drops (length gap) 1 (gap ++ c ∷ rest) (c ∷ rest) rest (drop-append_seam gap (c ∷ rest)) refl;
}

-- ---- digits

run : (ds rest : List ℕ) → All_digits ds → prefix_len is_digit (ds ++ rest) ≡ length ds + prefix_len is_digit rest
run [] rest a = omega arith
run (d ∷ ds) rest a = ap (λ t. cond t (1 + prefix_len is_digit (ds ++ rest)) 0) a.0 ∙ ap (λ n. 1 + n) (run ds rest a.1) ∙ omega arith

no_digit : (b : ℕ) → is_blank b ≡ true → is_digit b ≡ false
no_digit b e = by_test (is_digit b) refl
  where
    by_test : (t : Bool) → is_digit b ≡ t → t ≡ false
    by_test true h = absurd (let z = no_blank b h in let w : true ≡ false = sym e ∙ z in cc)
    by_test false h = refl

digits_stop : (behind : List ℕ) (rest : List ℕ) → Gap behind → prefix_len is_digit (behind ++ 93 ∷ rest) ≡ 0
digits_stop _ rest nothing = refl
digits_stop _ rest (blank {b} {bs} e g) = ap (λ t. cond t (1 + prefix_len is_digit (bs ++ 93 ∷ rest)) 0) (no_digit b e)
digits_stop _ rest (comment line bs l g) = refl

module _ (ds rest : List ℕ) (some : 0 < length ds) (all : All_digits ds) (stop : prefix_len is_digit rest ≡ 0) where
  digit_run : digit_len (ds ++ rest) ≡ length ds
  unfolding digit_len
  digit_run = run ds rest all ∙ omega (arith, stop)

  digits_gap : gap_at (ds ++ rest) ≡ 0
  digits_gap = by_first ds some all
    where
      by_first : (ds : List ℕ) → 0 < length ds → All_digits ds → gap_at (ds ++ rest) ≡ 0
      by_first [] h a = absurd (omega arith)
      by_first (d ∷ ds) h a = no_gap_at d (ds ++ rest) (ap (λ t. t && begins_with 45 (ds ++ rest)) (no_minus d a.0)) (no_blank d a.0)

  digits_read : (gap : List ℕ) → Gap gap → Reads_part digits (gap ++ (ds ++ rest)) rest (length gap + length ds)
  unfolding digits
  digits_read gap g =
      let there = after_gap_drop gap (ds ++ rest) g digits_gap in
      let run_there : digit_len (drop (gap_at (gap ++ (ds ++ rest))) (gap ++ (ds ++ rest))) ≡ length ds = ap digit_len there ∙ digit_run in
      record {
        is = ap (λ k. cond (k == 0) (Err (gap_at (gap ++ (ds ++ rest)))) (Ok (gap_at (gap ++ (ds ++ rest)) + k))) run_there
            ∙ ap (λ t. cond t (Err (gap_at (gap ++ (ds ++ rest)))) (Ok (gap_at (gap ++ (ds ++ rest)) + length ds))) (ne_eqb (length ds) 0 (λ e. omega (arith, e, some)))
            ∙ ap (λ k. Ok (k + length ds)) (after_gap gap (ds ++ rest) g digits_gap);
        behind = two_drops (length gap) (length ds) (gap ++ (ds ++ rest)) (ds ++ rest) rest (drop-append_seam gap (ds ++ rest)) (drop-append_seam ds rest);
      }

  size_read : (n : ℕ) → value_on Decimal 0 ds ≡ n → n < size_limit → size_at (ds ++ rest) ≡ n
  unfolding size_at
  size_read n v l =
      ap (λ k. min (value_on Decimal 0 (take k (ds ++ rest))) size_limit) digit_run ∙ ap (λ b. min (value_on Decimal 0 b) size_limit) (take-append_seam ds rest) ∙ ap (λ k. min k size_limit) v
      ∙ min-eq_left (omega (arith, l))

-- ---- a dimension

record Reads_dimension (n : ℕ) (bytes rest : List ℕ) (k : ℕ) : Type 0 where
  part : Reads_part dimension bytes rest k
  opens : begins_with 91 (drop (gap_at bytes) bytes) ≡ true
  size : size_at (drop (digits_from bytes) bytes) ≡ n

module _ (n : ℕ) (before inside ds behind rest : List ℕ) (g : Gap before) (h : Gap inside) (some : 0 < length ds) (all : All_digits ds) (value : value_on Decimal 0 ds ≡ n) (less : n < size_limit) (k : Gap behind) where
  abbrev dimension_bytes : List ℕ
  dimension_bytes = before ++ (91 ∷ (inside ++ (ds ++ (behind ++ 93 ∷ rest))))

  stops : prefix_len is_digit (behind ++ 93 ∷ rest) ≡ 0
  stops = digits_stop behind rest k

  behind_open : drop (length before + 1) dimension_bytes ≡ inside ++ (ds ++ (behind ++ 93 ∷ rest))
  behind_open = two_drops (length before) 1 dimension_bytes (91 ∷ (inside ++ (ds ++ (behind ++ 93 ∷ rest)))) (inside ++ (ds ++ (behind ++ 93 ∷ rest))) (drop-append_seam before _) refl

  gap_before : gap_at dimension_bytes ≡ length before
  unfolding gap_at
  gap_before = after_gap before (91 ∷ (inside ++ (ds ++ (behind ++ 93 ∷ rest)))) g refl

  from_is : digits_from dimension_bytes ≡ length before + 1 + length inside
  unfolding digits_from
  from_is =
      ap (λ m. m + 1 + gap_at (drop (m + 1) dimension_bytes)) gap_before ∙ ap (λ b. length before + 1 + gap_at b) behind_open
      ∙ ap (λ m. length before + 1 + m) (after_gap inside (ds ++ (behind ++ 93 ∷ rest)) h (digits_gap ds (behind ++ 93 ∷ rest) some all stops))

  bracket_reads : Reads_dimension n dimension_bytes rest (length before + 1 + (length inside + length ds + (length behind + 1)))
  unfolding dimension gap_at
  bracket_reads = record {
    part = then_reads (mark 91) size dimension_bytes (inside ++ (ds ++ (behind ++ 93 ∷ rest))) rest (length before + 1) (length inside + length ds + (length behind + 1)) (mark_reads 91 before (inside ++ (ds ++ (behind ++ 93 ∷ rest))) g refl refl)
        (then_reads digits (mark 93) (inside ++ (ds ++ (behind ++ 93 ∷ rest))) (behind ++ 93 ∷ rest) rest (length inside + length ds) (length behind + 1) (digits_read ds (behind ++ 93 ∷ rest) some all stops inside h) (mark_reads 93 behind rest k refl refl));
    opens = ap (begins_with 91) (ap (λ m. drop m dimension_bytes) gap_before ∙ drop-append_seam before _);
    size = ap size_at (ap (λ m. drop m dimension_bytes) from_is ∙ two_drops (length before + 1) (length inside) dimension_bytes (inside ++ (ds ++ (behind ++ 93 ∷ rest))) (ds ++ (behind ++ 93 ∷ rest)) behind_open (drop-append_seam inside _))
        ∙ size_read ds (behind ++ 93 ∷ rest) some all stops n value less;
  }

pub length_is : (before inside ds behind more : List ℕ) → length (before ++ (91 ∷ (inside ++ (ds ++ (behind ++ 93 ∷ more))))) ≡ length before + 1 + (length inside + length ds + (length behind + 1)) + length more
length_is before inside ds behind more =
    let a = length-append before (91 ∷ (inside ++ (ds ++ (behind ++ 93 ∷ more)))) in
    let b = length-append inside (ds ++ (behind ++ 93 ∷ more)) in
    let c = length-append ds (behind ++ 93 ∷ more) in
    let d = length-append behind (93 ∷ more) in
    omega (arith, a, b, c, d)

pub one_bracket : (before inside ds behind more rest : List ℕ) → (before ++ (91 ∷ (inside ++ (ds ++ (behind ++ 93 ∷ more))))) ++ rest ≡ before ++ (91 ∷ (inside ++ (ds ++ (behind ++ 93 ∷ (more ++ rest)))))
one_bracket before inside ds behind more rest =
    append_assoc before (91 ∷ (inside ++ (ds ++ (behind ++ 93 ∷ more)))) rest
    ∙ ap (λ z. before ++ (91 ∷ z)) (append_assoc inside (ds ++ (behind ++ 93 ∷ more)) rest ∙ ap (λ z. inside ++ z) (append_assoc ds (behind ++ 93 ∷ more) rest ∙ ap (λ z. ds ++ z) (append_assoc behind (93 ∷ more) rest)))

-- ---- dimensions

record Reads_all (ns : List ℕ) (fuel offset : ℕ) (bytes rest : List ℕ) (k : ℕ) : Type 0 where
  part : Reads_part (dimensions_up_to fuel) bytes rest k
  sizes : sizes_of (dimensions_in fuel offset bytes).all ≡ ns
  within : first_beyond (dimensions_in fuel offset bytes).all ≡ None
  end : (dimensions_in fuel offset bytes).end ≡ offset + k

module _ (rest : List ℕ) (at : ℕ) (no_more : dimension rest ≡ Err at) (no_open : begins_with 91 (drop (gap_at rest) rest) ≡ false) where
  none_read : (fuel offset : ℕ) → Reads_all [] fuel offset rest rest 0
  none_read zero offset = record { part = record { is = refl; behind = refl }; sizes = refl; within = refl; end = omega arith }
  none_read (suc n) offset =
      let e : dimensions_in (suc n) offset rest ≡ record { all = []; end = offset } = ap (λ r. if_dimension offset r (λ k. with_dimension (dimension_from offset rest) (dimensions_in n (offset + k) (drop k rest)))) no_more in
      record {
        part = record { is = ap (λ t. cond t (then_part dimension (dimensions_up_to n) rest) (Ok 0)) no_open; behind = refl };
        sizes = ap (λ d. sizes_of d.all) e;
        within = ap (λ d. first_beyond d.all) e;
        end = ap (λ d. d.end) e ∙ omega arith;
      }

  one_more : (n : ℕ) (ns : List ℕ) (fuel offset : ℕ) (bytes mid : List ℕ) (m k : ℕ) → n < size_limit → Reads_dimension n bytes mid m → Reads_all ns fuel (offset + m) mid rest k → Reads_all (n ∷ ns) (suc fuel) offset bytes rest (m + k)
  one_more n ns fuel offset bytes mid m k less d more =
      let opened : dimensions_in (suc fuel) offset bytes ≡ with_dimension (dimension_from offset bytes) (dimensions_in fuel (offset + m) mid) =
      ap (λ r. if_dimension offset r (λ k. with_dimension (dimension_from offset bytes) (dimensions_in fuel (offset + k) (drop k bytes)))) d.part.is ∙ ap (λ b. with_dimension (dimension_from offset bytes) (dimensions_in fuel (offset + m) b)) d.part.behind in
      let both = then_reads dimension (dimensions_up_to fuel) bytes mid rest m k d.part more.part in
      record {
        part = record { is = ap (λ t. cond t (then_part dimension (dimensions_up_to fuel) bytes) (Ok 0)) d.opens ∙ both.is; behind = both.behind };
        sizes = ap (λ x. sizes_of x.all) opened ∙ ap (λ s. s ∷ sizes_of (dimensions_in fuel (offset + m) mid).all) d.size ∙ ap (λ s. n ∷ s) more.sizes;
        within = ap (λ x. first_beyond x.all) opened
            ∙ ap (λ t. cond t (first_beyond (dimensions_in fuel (offset + m) mid).all) (Some (offset + digits_from bytes))) (ap (λ s. nat_lt s size_limit) d.size ∙ lt-ltb n size_limit less) ∙ more.within;
        end = ap (λ x. x.end) opened ∙ more.end ∙ omega arith;
      }

  brackets_read : (ns bytes : List ℕ) → Brackets ns bytes → (fuel offset : ℕ) → length bytes ≤ fuel → Reads_all ns fuel offset (bytes ++ rest) rest (length bytes)
  brackets_read _ _ no_bracket fuel offset l = none_read fuel offset
  brackets_read _ _ (bracket_and {n} {ns} before inside ds behind more g h some all value less k b) zero offset l = absurd (let e = length-append before (91 ∷ (inside ++ (ds ++ (behind ++ 93 ∷ more)))) in omega (arith, e, l))
  brackets_read _ _ (bracket_and {n} {ns} before inside ds behind more g h some all value less k b) (suc fuel) offset l =
      let long = length_is before inside ds behind more in
      let others = brackets_read ns more b fuel (offset + (length before + 1 + (length inside + length ds + (length behind + 1)))) (omega (arith, long, l)) in
      let one = one_more n ns fuel offset (before ++ (91 ∷ (inside ++ (ds ++ (behind ++ 93 ∷ (more ++ rest)))))) (more ++ rest) (length before + 1 + (length inside + length ds + (length behind + 1))) (length more) less
      (bracket_reads n before inside ds behind (more ++ rest) g h some all value less k) others in
      subst (Reads_all (n ∷ ns) (suc fuel) offset ((before ++ (91 ∷ (inside ++ (ds ++ (behind ++ 93 ∷ more))))) ++ rest) rest) (sym long)
      (subst (λ b. Reads_all (n ∷ ns) (suc fuel) offset b rest (length before + 1 + (length inside + length ds + (length behind + 1)) + length more)) (sym (one_bracket before inside ds behind more rest)) one)

-- ---- an empty array

bool_common : (rest : List ℕ) → common (codes "bool" ++ rest) (codes "bool") ≡ 4
bool_common rest = ap (λ n. 1 + (1 + (1 + (1 + n)))) (none_common rest)

bool_word : (rest : List ℕ) → name_goes_on rest ≡ false → is_word (codes "bool" ++ rest) (codes "bool") ≡ true
unfolding is_word
bool_word rest z = rw (z, bool_common rest) refl

same_type : (ty : ScalarType) (rest : List ℕ) → name_goes_on rest ≡ false → names_type ty (type_text ty ++ rest) ≡ true
unfolding names_type
same_type (sort.Int I8) rest z = rw (type_is I8 rest z) refl
same_type (sort.Int I16) rest z = rw (type_is I16 rest z) refl
same_type (sort.Int I32) rest z = rw (type_is I32 rest z) refl
same_type (sort.Int I64) rest z = rw (type_is I64 rest z) refl
same_type (sort.Int U8) rest z = rw (type_is U8 rest z) refl
same_type (sort.Int U16) rest z = rw (type_is U16 rest z) refl
same_type (sort.Int U32) rest z = rw (type_is U32 rest z) refl
same_type (sort.Int U64) rest z = rw (type_is U64 rest z) refl
same_type sort.Bool rest z = bool_word rest z

bool_type : (rest : List ℕ) → name_goes_on rest ≡ false → scalar_at (codes "bool" ++ rest) ≡ Ok 4
unfolding scalar_at type_at is_word
bool_type rest z = rw (z, bool_common rest) refl

type_read : (ty : ScalarType) (rest : List ℕ) → name_goes_on rest ≡ false → scalar_at (type_text ty ++ rest) ≡ Ok (length (type_text ty))
unfolding scalar_at
type_read (sort.Int ty) rest z = rw (type_is ty rest z) refl
type_read sort.Bool rest z = bool_type rest z

-- how a type's name begins
type_gap : (ty : ScalarType) (rest : List ℕ) → gap_at (type_text ty ++ rest) ≡ 0
unfolding gap_at
type_gap (sort.Int I8) rest = refl
type_gap (sort.Int I16) rest = refl
type_gap (sort.Int I32) rest = refl
type_gap (sort.Int I64) rest = refl
type_gap (sort.Int U8) rest = refl
type_gap (sort.Int U16) rest = refl
type_gap (sort.Int U32) rest = refl
type_gap (sort.Int U64) rest = refl
type_gap sort.Bool rest = refl

type_open : (ty : ScalarType) (rest : List ℕ) → begins_with 91 (type_text ty ++ rest) ≡ false
type_open (sort.Int I8) rest = refl
type_open (sort.Int I16) rest = refl
type_open (sort.Int I32) rest = refl
type_open (sort.Int I64) rest = refl
type_open (sort.Int U8) rest = refl
type_open (sort.Int U16) rest = refl
type_open (sort.Int U32) rest = refl
type_open (sort.Int U64) rest = refl
type_open sort.Bool rest = refl

no_mark : (c : ℕ) (bytes : List ℕ) → begins_with c (drop (gap_at bytes) bytes) ≡ false → mark c bytes ≡ Err (gap_at bytes)
unfolding mark
no_mark c bytes h = ap (λ t. cond t (Ok (gap_at bytes + 1)) (Err (gap_at bytes))) h

empty_common : (rest : List ℕ) → common (codes "empty" ++ rest) (codes "empty") ≡ 5
empty_common rest = ap (λ n. 1 + (1 + (1 + (1 + (1 + n))))) (none_common rest)

empty_spelled : (rest : List ℕ) (n : ℕ) → name_goes_on rest ≡ false → empty_len rest ≡ Ok n → spelled_at (codes "empty" ++ rest) ≡ Ok (record { form = form.Array; length = 5 + n })
unfolding word_at is_word
empty_spelled rest n z e = rw (z, empty_common rest) (ap empty_array e)

module _ (ty : ScalarType) (ns opening brackets before behind rest : List ℕ) (g : Gap opening) (sized : Brackets ns brackets) (h : Gap before) (k : Gap behind) where
  abbrev tail : List ℕ
  tail = before ++ (type_text ty ++ (behind ++ 41 ∷ rest))

  name_ends : name_goes_on (behind ++ 41 ∷ rest) ≡ false
  unfolding goes_on_name
  name_ends = gap_ends behind 41 rest k (ascii_goes_on 41 rest refl)

  tail_drop : drop (gap_at tail) tail ≡ type_text ty ++ (behind ++ 41 ∷ rest)
  tail_drop = after_gap_drop before (type_text ty ++ (behind ++ 41 ∷ rest)) h (type_gap ty (behind ++ 41 ∷ rest))

  no_open : begins_with 91 (drop (gap_at tail) tail) ≡ false
  no_open = ap (begins_with 91) tail_drop ∙ type_open ty (behind ++ 41 ∷ rest)

  no_more : dimension tail ≡ Err (gap_at tail)
  unfolding dimension
  no_more = ap (λ r. and_behind r (λ n. size (drop n tail))) (no_mark 91 tail no_open)

  ending_read : Reads_part ending tail rest (length before + length (type_text ty) + (length behind + 1))
  unfolding scalar_name gap_at
  ending_read =
      then_reads scalar_name (mark 41) tail (behind ++ 41 ∷ rest) rest (length before + length (type_text ty)) (length behind + 1)
      (record {
        is = ap (λ b. shift (gap_at tail) (scalar_at b)) tail_drop ∙ ap (shift (gap_at tail)) (type_read ty (behind ++ 41 ∷ rest) name_ends) ∙ ap (λ m. Ok (m + length (type_text ty))) (after_gap before (type_text ty ++ (behind ++ 41 ∷ rest)) h (type_gap ty (behind ++ 41 ∷ rest)));
        behind = two_drops (length before) (length (type_text ty)) tail (type_text ty ++ (behind ++ 41 ∷ rest)) (behind ++ 41 ∷ rest) (drop-append_seam before _) (drop-append_seam (type_text ty) _);
      })
      (mark_reads 41 behind rest k refl refl)

  abbrev ending_length : ℕ
  ending_length = length before + length (type_text ty) + (length behind + 1)

  parts_read : (ms bytes : List ℕ) → Brackets ms bytes → has_zero ms ≡ true → Reads_part (then_part dimension (then_part dimensions ending)) (bytes ++ tail) rest (length bytes + ending_length)
  unfolding dimensions
  parts_read _ _ no_bracket z = absurd cc
  parts_read _ _ (bracket_and {n} {ns} first inside ds last more a b some all value less c d) z =
      let m = length first + 1 + (length inside + length ds + (length last + 1)) in
      let e = length-append more tail in
      let one = bracket_reads n first inside ds last (more ++ tail) a b some all value less c in
      let others = brackets_read tail (gap_at tail) no_more no_open ns more d (length (more ++ tail)) 0 (omega (arith, e)) in
      let both = then_reads dimension (then_part dimensions ending) (first ++ (91 ∷ (inside ++ (ds ++ (last ++ 93 ∷ (more ++ tail)))))) (more ++ tail) rest m (length more + ending_length) one.part
      (then_reads dimensions ending (more ++ tail) tail rest (length more) ending_length (record { is = others.part.is; behind = others.part.behind }) ending_read) in
      let long : m + (length more + ending_length) ≡ length (first ++ (91 ∷ (inside ++ (ds ++ (last ++ 93 ∷ more))))) + ending_length = (let l = length_is first inside ds last more in omega (arith, l)) in
      subst (λ w. Reads_part (then_part dimension (then_part dimensions ending)) w rest (length (first ++ (91 ∷ (inside ++ (ds ++ (last ++ 93 ∷ more))))) + ending_length)) (sym (one_bracket first inside ds last more tail))
      (subst (Reads_part (then_part dimension (then_part dimensions ending)) (first ++ (91 ∷ (inside ++ (ds ++ (last ++ 93 ∷ (more ++ tail)))))) rest) long both)

  module _ (zero : has_zero ns ≡ true) (light : weight_of ns ≤ greatest_weight) where
    abbrev spelled : List ℕ
    spelled = opening ++ (40 ∷ (brackets ++ tail))

    abbrev long : ℕ
    long = length opening + 1 + (length brackets + ending_length)

    spelled_read : Reads_part empty_len spelled rest long
    unfolding empty_len gap_at
    spelled_read = then_reads (mark 40) (then_part dimension (then_part dimensions ending)) spelled (brackets ++ tail) rest (length opening + 1) (length brackets + ending_length) (mark_reads 40 opening (brackets ++ tail) g refl refl) (parts_read ns brackets sized zero)

    spelled_ends : name_goes_on spelled ≡ false
    unfolding goes_on_name
    spelled_ends = gap_ends opening 40 (brackets ++ tail) g (ascii_goes_on 40 _ refl)

    opened : drop (gap_at spelled + 1) spelled ≡ brackets ++ tail
    unfolding gap_at
    opened = ap (λ m. drop (m + 1) spelled) (after_gap opening (40 ∷ (brackets ++ tail)) g refl) ∙ two_drops (length opening) 1 spelled (40 ∷ (brackets ++ tail)) (brackets ++ tail) (drop-append_seam opening _) refl

    found_all : Reads_all ns (length (brackets ++ tail)) 0 (brackets ++ tail) tail (length brackets)
    found_all = let e = length-append brackets tail in brackets_read tail (gap_at tail) no_more no_open ns brackets sized (length (brackets ++ tail)) 0 (omega (arith, e))

    behind_all : drop (dimensions_in (length (brackets ++ tail)) 0 (brackets ++ tail)).end (brackets ++ tail) ≡ tail
    behind_all = ap (λ m. drop m (brackets ++ tail)) (found_all.end ∙ omega arith) ∙ drop-append_seam brackets tail

    same_length : (n : ℕ) → (n == n) ≡ true
    same_length n = eq-eqb n n refl

    wanted : is_wanted_empty ty (length ns) ns tail ≡ true
    wanted =
        ap (λ t. t && has_zero ns && names_type ty (drop (gap_at tail) tail)) (same_length (length ns)) ∙ ap (λ t. t && names_type ty (drop (gap_at tail) tail)) zero
        ∙ ap (names_type ty) tail_drop ∙ same_type ty (behind ++ 41 ∷ rest) name_ends

    sized_read : (position from : ℕ) → empty_as ty (length ns) position from (5 + long) (brackets ++ tail) ≡ Ok (record { sizes = ns; words = []; length = 5 + long })
    unfolding empty_as written
    sized_read position from =
        let all = (dimensions_in (length (brackets ++ tail)) 0 (brackets ++ tail)).all in
        ap (λ a. cond (is_wanted_empty ty (length ns) (sizes_of all) a) (in_limits position from (5 + long) (sizes_of all) (first_beyond all)) (Err (text.WrongType position))) behind_all
        ∙ ap (λ s. cond (is_wanted_empty ty (length ns) s tail) (in_limits position from (5 + long) s (first_beyond all)) (Err (text.WrongType position))) found_all.sizes
        ∙ ap (λ t. cond t (in_limits position from (5 + long) ns (first_beyond all)) (Err (text.WrongType position))) wanted
        ∙ ap (in_limits position from (5 + long) ns) found_all.within
        ∙ ap (λ t. cond t (Err (text.TooLarge position)) (Ok (record { sizes = ns; words = []; length = 5 + long }))) (le-ltb greatest_weight (weight_of ns) light)

    empty_read : (position : ℕ) → other_than_rows ty (length ns) position (codes "empty" ++ spelled) ≡ Ok (record { sizes = ns; words = []; length = 5 + long })
    unfolding other_than_rows
    empty_read position =
        ap (spelled_as_array ty (length ns) position (codes "empty" ++ spelled)) (empty_spelled spelled long spelled_ends spelled_read.is)
        ∙ ap (empty_as ty (length ns) position (position + 5 + (gap_at spelled + 1)) (5 + long)) opened
        ∙ sized_read position (position + 5 + (gap_at spelled + 1))

pub empty_bytes : (name opening brackets before behind rest : List ℕ)
    → (codes "empty" ++ (opening ++ (40 ∷ (brackets ++ (before ++ (name ++ (behind ++ 41 ∷ []))))))) ++ rest ≡ codes "empty" ++ (opening ++ (40 ∷ (brackets ++ (before ++ (name ++ (behind ++ 41 ∷ rest))))))
empty_bytes name opening brackets before behind rest =
    ap (λ z. codes "empty" ++ z) (append_assoc opening (40 ∷ (brackets ++ (before ++ (name ++ (behind ++ 41 ∷ []))))) rest
    ∙ ap (λ z. opening ++ (40 ∷ z)) (append_assoc brackets (before ++ (name ++ (behind ++ 41 ∷ []))) rest
    ∙ ap (λ z. brackets ++ z) (append_assoc before (name ++ (behind ++ 41 ∷ [])) rest ∙ ap (λ z. before ++ z) (append_assoc name (behind ++ 41 ∷ []) rest ∙ ap (λ z. name ++ z) (append_assoc behind (41 ∷ []) rest)))))

pub empty_length : (name opening brackets before behind : List ℕ)
    → length (codes "empty" ++ (opening ++ (40 ∷ (brackets ++ (before ++ (name ++ (behind ++ 41 ∷ []))))))) ≡ 5 + (length opening + 1 + (length brackets + (length before + length name + (length behind + 1))))
empty_length name opening brackets before behind =
    let a = length-append opening (40 ∷ (brackets ++ (before ++ (name ++ (behind ++ 41 ∷ []))))) in
    let b = length-append brackets (before ++ (name ++ (behind ++ 41 ∷ []))) in
    let c = length-append before (name ++ (behind ++ 41 ∷ [])) in
    let d = length-append name (behind ++ 41 ∷ []) in
    let e = length-append behind (41 ∷ []) in
    omega (arith, a, b, c, d, e)

-- ---- a value

pub record Value_reads (ty : ScalarType) (ns ws word rest : List ℕ) : Type 0 where
  pub is : (position : ℕ) → read_at ty (length ns) position (word ++ rest) ≡ Ok (record { sizes = ns; words = ws; length = length word })
  pub no_gap : gap_at (word ++ rest) ≡ 0
  pub no_close : begins_with 93 (word ++ rest) ≡ false

scalar_reads : (ty : ScalarType) (ws word rest : List ℕ) → Spells_scalar ty ws word → name_goes_on rest ≡ false → Value_reads ty [] ws word rest
unfolding spelled_scalar
scalar_reads ty ws word rest s z =
    let f = found ty word rest s.value s.spells z in
    record {
      is = λ position. ap (scalar_as ty position) f.spelled ∙ ap (scalar_read (length word)) (f.is position) ∙ ap (λ w. Ok (record { sizes = []; words = w; length = length word })) (sym s.is);
      no_gap = f.no_gap;
      no_close = f.no_close;
    }

-- ---- rows

same_sizes_is : (ns : List ℕ) → same_sizes ns ns ≡ true
same_sizes_is [] = refl
same_sizes_is (n ∷ ns) = ap (λ t. t && same_sizes ns ns) (eq-eqb n n refl) ∙ same_sizes_is ns

same_either : (t : Bool) (ns : List ℕ) → cond t ns ns ≡ ns
same_either true ns = refl
same_either false ns = refl

counts : (position count : ℕ) (first ns : List ℕ) → first_sizes count first ns ≡ ns → weight_of ((count + 1) ∷ ns) ≤ greatest_weight → counted position count first ns ≡ Ok ns
unfolding counted
counts position count first ns f l =
    ap (λ kept. cond (nat_lt greatest_weight (weight_of ((count + 1) ∷ kept))) (Err (text.TooLarge position)) (cond (same_sizes ns kept) (Ok kept) (Err (text.Irregular position)))) f
    ∙ ap (λ t. cond t (Err (text.TooLarge position)) (cond (same_sizes ns ns) (Ok ns) (Err (text.Irregular position)))) (le-ltb greatest_weight (weight_of ((count + 1) ∷ ns)) l)
    ∙ ap (λ t. cond t (Ok ns) (Err (text.Irregular position))) (same_sizes_is ns)

lighter : (k n w : ℕ) → (k + suc n) * w ≤ greatest_weight → (k + 1) * w ≤ greatest_weight
lighter k n w h = let m = mul-le-mul_right {m = k + 1} {n = k + suc n} w (omega arith) in omega (arith, h, m)

row_ends : (ns behind : List ℕ) (c : ℕ) (rest : List ℕ) → Gap behind → name_goes_on (c ∷ rest) ≡ false → Ends ns (behind ++ c ∷ rest)
row_ends [] behind c rest g h = gap_ends behind c rest g h
row_ends (n ∷ ns) behind c rest g h = tt

pub row_bytes : (before word behind rest tail : List ℕ) → (before ++ (word ++ (behind ++ rest))) ++ tail ≡ before ++ (word ++ (behind ++ (rest ++ tail)))
row_bytes before word behind rest tail = append_assoc before (word ++ (behind ++ rest)) tail ∙ ap (λ z. before ++ z) (append_assoc word (behind ++ rest) tail ∙ ap (λ z. word ++ z) (append_assoc behind rest tail))

module _ (ty : ScalarType) (ns : List ℕ) (row : Row) (each : (ws word rest : List ℕ) → row ws word → Ends ns rest → Value_reads ty ns ws word rest) (start : ℕ) where
  abbrev reader : Array_reader
  reader = read_at ty (length ns)

  -- a row is read, up to the mark behind it
  one_row : (others : Rows_reader) (count : ℕ) (first words : List ℕ) (at : ℕ) (ws word behind rest : List ℕ) (c : ℕ) → first_sizes count first ns ≡ ns → weight_of ((count + 1) ∷ ns) ≤ greatest_weight
      → Value_reads ty ns ws word (behind ++ c ∷ rest) → Gap behind → gap_at (c ∷ rest) ≡ 0
      → row_and reader others (record { count = count; sizes = first; words = words }) start at (word ++ (behind ++ c ∷ rest)) ≡ behind_row others (record { count = count + 1; sizes = ns; words = words ++ ws }) start (at + length word + length behind) (c ∷ rest)
  one_row others count first words at ws word behind rest c f l v g z =
      let bytes = word ++ (behind ++ c ∷ rest) in
      ap (λ r. and_then r (λ read. and_then (counted (start + at) count first read.sizes) (λ sizes. behind_row others (record { count = count + 1; sizes = sizes; words = words ++ read.words }) start (at + read.length + gap_at (drop read.length bytes)) (drop (gap_at (drop read.length bytes)) (drop read.length bytes))))) (v.is (start + at))
      ∙ ap (λ r. and_then r (λ sizes. behind_row others (record { count = count + 1; sizes = sizes; words = words ++ ws }) start (at + length word + gap_at (drop (length word) bytes)) (drop (gap_at (drop (length word) bytes)) (drop (length word) bytes)))) (counts (start + at) count first ns f l)
      ∙ ap (λ b. behind_row others (record { count = count + 1; sizes = ns; words = words ++ ws }) start (at + length word + gap_at b) (drop (gap_at b) b)) (drop-append_seam word (behind ++ c ∷ rest))
      ∙ ap (λ m. behind_row others (record { count = count + 1; sizes = ns; words = words ++ ws }) start (at + length word + m) (drop m (behind ++ c ∷ rest))) (after_gap behind (c ∷ rest) g z)
      ∙ ap (behind_row others (record { count = count + 1; sizes = ns; words = words ++ ws }) start (at + length word + length behind)) (drop-append_seam behind (c ∷ rest))

  row_front : (fuel count : ℕ) (first words : List ℕ) (at : ℕ) (before front : List ℕ) → Gap before → gap_at front ≡ 0
      → rows_up_to (suc fuel) reader (record { count = count; sizes = first; words = words }) start at (before ++ front) ≡ row_and reader (rows_up_to fuel reader) (record { count = count; sizes = first; words = words }) start (at + length before) front
  row_front fuel count first words at before front g z =
      ap (λ m. row_and reader (rows_up_to fuel reader) (record { count = count; sizes = first; words = words }) start (at + m) (drop m (before ++ front))) (after_gap before front g z)
      ∙ ap (row_and reader (rows_up_to fuel reader) (record { count = count; sizes = first; words = words }) start (at + length before)) (drop-append_seam before front)

  row_length : (before word behind rest : List ℕ) → length (before ++ (word ++ (behind ++ rest))) ≡ length before + length word + length behind + length rest
  row_length before word behind rest =
      let a = length-append before (word ++ (behind ++ rest)) in
      let b = length-append word (behind ++ rest) in
      let c = length-append behind rest in
      omega (arith, a, b, c)

  read_is : (c c2 : ℕ) (ws ws2 : List ℕ) (n n2 : ℕ) → c ≡ c2 → ws ≡ ws2 → n ≡ n2 → ◌≡◌ {A = Result Read TextErr} (Ok (record { sizes = c ∷ ns; words = ws; length = n })) (Ok (record { sizes = c2 ∷ ns; words = ws2; length = n2 }))
  read_is c c2 ws ws2 n n2 e f g = ap (λ k. Ok (record { sizes = k ∷ ns; words = ws; length = n })) e ∙ ap (λ w. Ok (record { sizes = c2 ∷ ns; words = w; length = n })) f ∙ ap (λ k. Ok (record { sizes = c2 ∷ ns; words = ws2; length = k })) g

  rows_read : (total : ℕ) (ws body rest : List ℕ) → Rows row total ws body → (fuel count : ℕ) (first words : List ℕ) (at : ℕ) → length body ≤ fuel → first_sizes count first ns ≡ ns → (count + total) * max 1 (weight_of ns) ≤ greatest_weight
      → rows_up_to fuel reader (record { count = count; sizes = first; words = words }) start at (body ++ rest) ≡ Ok (record { sizes = (count + total) ∷ ns; words = words ++ ws; length = at + length body })
  unfolding goes_on_name gap_at
  rows_read _ _ _ rest (last_row {words = ws} before word behind g s b) zero count first words at l f w = absurd (let e = row_length before word behind (93 ∷ []) in omega (arith, e, l))
  rows_read _ _ _ rest (last_row {words = ws} before word behind g s b) (suc fuel) count first words at l f w =
      let v = each ws word (behind ++ 93 ∷ rest) s (row_ends ns behind 93 rest b (ascii_goes_on 93 rest refl)) in
      let long = row_length before word behind (93 ∷ []) in
      ap (rows_up_to (suc fuel) reader (record { count = count; sizes = first; words = words }) start at) (row_bytes before word behind (93 ∷ []) rest)
      ∙ row_front fuel count first words at before (word ++ (behind ++ 93 ∷ rest)) g v.no_gap
      ∙ one_row (rows_up_to fuel reader) count first words (at + length before) ws word behind rest 93 f w v b refl
      ∙ read_is (count + 1) (count + 1) (words ++ ws) (words ++ ws) (at + length before + length word + length behind + 1) (at + length (before ++ (word ++ (behind ++ 93 ∷ [])))) refl refl (omega (arith, long))
  rows_read _ _ _ rest (rows_and {count = total} {words = ws} {more = more} before word behind body g s b r) zero count first words at l f w = absurd (let e = row_length before word behind (44 ∷ body) in omega (arith, e, l))
  rows_read _ _ _ rest (rows_and {count = total} {words = ws} {more = more} before word behind body g s b r) (suc fuel) count first words at l f w =
      let v = each ws word (behind ++ 44 ∷ (body ++ rest)) s (row_ends ns behind 44 (body ++ rest) b (ascii_goes_on 44 (body ++ rest) refl)) in
      let long = row_length before word behind (44 ∷ body) in
      let others = rows_read total more body rest r fuel (count + 1) ns (words ++ ws) (at + length before + length word + length behind + 1) (omega (arith, long, l)) (same_either (count + 1 == 0) ns)
      (subst (λ k. k * max 1 (weight_of ns) ≤ greatest_weight) (omega arith) w) in
      ap (rows_up_to (suc fuel) reader (record { count = count; sizes = first; words = words }) start at) (row_bytes before word behind (44 ∷ body) rest)
      ∙ row_front fuel count first words at before (word ++ (behind ++ 44 ∷ (body ++ rest))) g v.no_gap
      ∙ one_row (rows_up_to fuel reader) count first words (at + length before) ws word behind (body ++ rest) 44 f (lighter count total (max 1 (weight_of ns)) w) v b refl
      ∙ others
      ∙ read_is (count + 1 + total) (count + suc total) ((words ++ ws) ++ more) (words ++ (ws ++ more)) (at + length before + length word + length behind + 1 + length body) (at + length (before ++ (word ++ (behind ++ 44 ∷ body)))) (omega arith) (append_assoc words ws more) (omega (arith, long))

  -- the first row begins no bracket that closes
  first_row : (total : ℕ) (ws body rest : List ℕ) → Rows row total ws body → begins_with 93 (drop (gap_at (body ++ rest)) (body ++ rest)) ≡ false
  unfolding goes_on_name
  first_row _ _ _ rest (last_row {words = ws} before word behind g s b) =
      let v = each ws word (behind ++ 93 ∷ rest) s (row_ends ns behind 93 rest b (ascii_goes_on 93 rest refl)) in
      ap (λ z. begins_with 93 (drop (gap_at z) z)) (row_bytes before word behind (93 ∷ []) rest) ∙ ap (begins_with 93) (after_gap_drop before (word ++ (behind ++ 93 ∷ rest)) g v.no_gap) ∙ v.no_close
  first_row _ _ _ rest (rows_and {count = total} {words = ws} {more = more} before word behind body g s b r) =
      let v = each ws word (behind ++ 44 ∷ (body ++ rest)) s (row_ends ns behind 44 (body ++ rest) b (ascii_goes_on 44 (body ++ rest) refl)) in
      ap (λ z. begins_with 93 (drop (gap_at z) z)) (row_bytes before word behind (44 ∷ body) rest) ∙ ap (begins_with 93) (after_gap_drop before (word ++ (behind ++ 44 ∷ (body ++ rest))) g v.no_gap) ∙ v.no_close

-- ---- arrays

module _ (ty : ScalarType) (n : ℕ) (ns : List ℕ) (each : (ws word rest : List ℕ) → Spells_value ty ns ws word → Ends ns rest → Value_reads ty ns ws word rest) where
  closed_read : (position : ℕ) (gap rest : List ℕ) → Gap gap → n ≡ 0 → ns ≡ [] → rows_at (length ns) (read_at ty (length ns)) position ((gap ++ 93 ∷ []) ++ rest) ≡ Ok (record { sizes = n ∷ ns; words = []; length = 1 + length (gap ++ 93 ∷ []) })
  unfolding gap_at
  closed_read position gap rest g z e =
      let long = length-append gap (93 ∷ []) in
      let bytes : (gap ++ 93 ∷ []) ++ rest ≡ gap ++ 93 ∷ rest = append_assoc gap (93 ∷ []) rest in
      ap (rows_at (length ns) (read_at ty (length ns)) position) bytes
      ∙ ap (λ t. cond t (no_rows (length ns) (position + 1 + gap_at (gap ++ 93 ∷ rest)) (gap_at (gap ++ 93 ∷ rest) + 2)) (rows_up_to (length (gap ++ 93 ∷ rest)) (read_at ty (length ns)) no_row position 1 (gap ++ 93 ∷ rest))) (ap (begins_with 93) (after_gap_drop gap (93 ∷ rest) g refl))
      ∙ ap (λ ms. no_rows (length ms) (position + 1 + gap_at (gap ++ 93 ∷ rest)) (gap_at (gap ++ 93 ∷ rest) + 2)) e
      ∙ ap (λ k. Ok (record { sizes = 0 ∷ []; words = []; length = k + 2 })) (after_gap gap (93 ∷ rest) g refl)
      ∙ ap (λ k. Ok (record { sizes = 0 ∷ []; words = []; length = k })) (omega (arith, long))
      ∙ ap (λ ms. Ok (record { sizes = 0 ∷ ms; words = []; length = 1 + length (gap ++ 93 ∷ []) })) (sym e)
      ∙ ap (λ m. Ok (record { sizes = m ∷ ns; words = []; length = 1 + length (gap ++ 93 ∷ []) })) (sym z)

  array_reads : (ws word rest : List ℕ) → Spells_array ty (Spells_value ty ns) n ns ws word → Value_reads ty (n ∷ ns) ws word rest
  unfolding gap_at
  array_reads ws _ rest (rows {body} r l) = record {
    is = λ position.
        ap (λ t. cond t (no_rows (length ns) (position + 1 + gap_at (body ++ rest)) (gap_at (body ++ rest) + 2)) (rows_up_to (length (body ++ rest)) (read_at ty (length ns)) no_row position 1 (body ++ rest))) (first_row ty ns (Spells_value ty ns) each position n ws body rest r)
        ∙ rows_read ty ns (Spells_value ty ns) each position n ws body rest r (length (body ++ rest)) 0 [] [] 1 (let e = length-append body rest in omega (arith, e)) refl (subst (λ k. k * max 1 (weight_of ns) ≤ greatest_weight) (omega arith) l)
        ∙ ap (λ k. Ok (record { sizes = k ∷ ns; words = ws; length = 1 + length body })) (omega arith)
        ∙ ap (λ k. Ok (record { sizes = n ∷ ns; words = ws; length = k })) (omega arith);
    no_gap = refl;
    no_close = refl;
  }
  array_reads ws _ rest (none_there gap g z e w) = record {
    is = λ position. closed_read position gap rest g z e ∙ ap (λ v. Ok (record { sizes = n ∷ ns; words = v; length = 1 + length (gap ++ 93 ∷ []) })) (sym w) ∙ ap (λ k. Ok (record { sizes = n ∷ ns; words = ws; length = k })) (omega arith);
    no_gap = refl;
    no_close = refl;
  }
  array_reads ws _ rest (empty {word} s w) = record {
    is = λ position.
        ap (read_at ty (suc (length ns)) position) whole
        ∙ empty_read ty (n ∷ ns) s.opening s.brackets s.before s.behind rest s.opening_gap s.sized s.before_gap s.behind_gap s.zero s.light position
        ∙ ap (λ k. Ok (record { sizes = n ∷ ns; words = []; length = k })) long_is ∙ ap (λ v. Ok (record { sizes = n ∷ ns; words = v; length = length word })) (sym w);
    no_gap = ap gap_at whole;
    no_close = ap (begins_with 93) whole;
  }
    where
      whole : word ++ rest ≡ codes "empty" ++ (s.opening ++ (40 ∷ (s.brackets ++ (s.before ++ (type_text ty ++ (s.behind ++ 41 ∷ rest))))))
      whole = ap (λ z. z ++ rest) s.is ∙ empty_bytes (type_text ty) s.opening s.brackets s.before s.behind rest

      long_is : 5 + (length s.opening + 1 + (length s.brackets + (length s.before + length (type_text ty) + (length s.behind + 1)))) ≡ length word
      long_is = sym (ap length s.is ∙ empty_length (type_text ty) s.opening s.brackets s.before s.behind)

pub value_reads : (ty : ScalarType) (ns ws word rest : List ℕ) → Spells_value ty ns ws word → Ends ns rest → Value_reads ty ns ws word rest
value_reads ty [] ws word rest s e = scalar_reads ty ws word rest s e
value_reads ty (n ∷ ns) ws word rest s e = array_reads ty n ns (value_reads ty ns) ws word rest s

-- ---- the whole text

pub some_bytes : (bytes : List ℕ) (ty : ScalarType) (rank position : ℕ) (read : Read) → read_at ty rank position bytes ≡ Ok read → 0 < length bytes
unfolding spelled_scalar other_than_rows
some_bytes [] ty zero position read h = absurd cc
some_bytes [] ty (suc n) position read h = absurd cc
some_bytes (b ∷ bs) ty rank position read h = omega arith

value_by : (t : ArgType) (others : Reader) (param position : ℕ) (bytes : List ℕ) (read : Read) → read_at t.elem (length t.dims) position bytes ≡ Ok read → 0 < length bytes
    → value_at t others param position bytes ≡ with_front (value_of t read) (others (param + 1) (position + read.length) (drop read.length bytes))
value_by t others param position [] read h some = absurd (omega arith)
value_by t others param position (b ∷ bs) read h some = ap (λ r. and_then r (λ read. with_front (value_of t read) (others (param + 1) (position + read.length) (drop read.length (b ∷ bs))))) h

nothing_left : (position n : ℕ) (bytes : List ℕ) → n ≡ length bytes → nothing_at (position + n) (drop n bytes) ≡ Ok []
nothing_left position n bytes e = ap (nothing_at (position + n)) (drop_all n bytes (omega arith))

all_read : (types : List ArgType) (bytes : List ℕ) (values : List Value) (param position : ℕ) → Spelled_all types bytes values → values_on types param position bytes ≡ Ok values
all_read _ bytes _ param position (ended g) = nothing_left position (gap_at bytes) bytes (last_gap bytes g)
all_read _ _ _ param position (value_and {t} {types} {value} {values} gap word rest g elem rank s e more) =
    let v = value_reads t.elem value.shape.sizes value.words word rest s e in
    let at = position + length gap in
    let is : read_at t.elem (length t.dims) at (word ++ rest) ≡ Ok (record { sizes = value.shape.sizes; words = value.words; length = length word }) = ap (λ r. read_at t.elem r at (word ++ rest)) (sym rank) ∙ v.is at in
    ap (λ m. value_at t (values_on types) param (position + m) (drop m (gap ++ (word ++ rest)))) (after_gap gap (word ++ rest) g v.no_gap)
    ∙ ap (value_at t (values_on types) param at) (drop-append_seam gap (word ++ rest))
    ∙ value_by t (values_on types) param at (word ++ rest) (record { sizes = value.shape.sizes; words = value.words; length = length word }) is (some_bytes (word ++ rest) t.elem (length t.dims) at _ is)
    ∙ ap (λ b. with_front (value_of t (record { sizes = value.shape.sizes; words = value.words; length = length word })) (values_on types (param + 1) (at + length word) b)) (drop-append_seam word rest)
    ∙ ap (with_front (value_of t (record { sizes = value.shape.sizes; words = value.words; length = length word }))) (all_read types rest values (param + 1) (at + length word) more)
    ∙ ap (λ ty. Ok (record { shape = record { elem = ty; sizes = value.shape.sizes }; words = value.words } ∷ values)) (sym elem)

pub arguments_are_read : ArgumentsAreRead
arguments_are_read types bytes values t =
    ap (λ r. and_then r (λ vs. in_agreement types vs (values_for 1 types vs []))) (all_read types bytes values 1 0 t.spelled) ∙ ap (in_agreement types values) t.agree
