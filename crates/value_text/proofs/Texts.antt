-- Texts of the grammar are read.
use Rattle.std.proofs.Common.{◌≡◌, ◌+◌, ◌*◌, ◌^◌, ◌<◌, ◌≤◌, ℕ, suc, List, [], ◌∷◌, ◌++◌, length, take, drop, arith, refl, sym, ap, ◌∙◌, lt-ltb, eqb-true, append_assoc, append-nil, length-append}
use Rattle.std.proofs.lemmas.List.{drop_all}
use Rattle.std.specs.Prelude.{Bool, true, false, not, cond, nat_lt, ◌==◌, ◌&&◌, ◌||◌, Option, Some, None, Ok, Err, codes}
use Rattle.std.specs.List.{prefix_len}
use Rattle.std.proofs.Math.Seq.{take-append_seam, drop-append_seam}
use Rattle.fut_scalar.specs.declared.scalar.IntType.{IntType}
use Rattle.fut_scalar.specs.declared.scalar.IntType.TheVariants.{I8, I16, I32, I64, U8, U16, U32, U64}
use Rattle.fut_scalar.specs.declared.scalar.Scalar.{Scalar}
use Rattle.fut_scalar.specs.declared.scalar.ScalarType.{ScalarType}
use Rattle.fut_scalar.specs.declared.scalar.ScalarType.TheVariants as sort
use Rattle.name_characters.specs.Names.{goes_on_name}
use Rattle.value_text.specs.Claims.{TextsAreRead}
use Rattle.value_text.specs.Gaps.{is_blank, begins_with, gap_at, gap_from, one_more}
use Rattle.value_text.specs.Grammar.{IsLine, Gap, nothing, blank, comment, Last_gap, closed, in_comment, All_in_number, IsNumber, sign, prefix, suffix, Spells, truth, falsehood, integer, Text, ended, value_and}
use Rattle.value_text.specs.Numbers.{base_at, digit_of, is_in_number, ends_in_underscore, number_len, number_on, number_at, prefix_of, radix, starts_digit, value_on}
use Rattle.value_text.specs.Reading.{Reader, in_range, may_be, nothing_at, signed, value_as, value_at, value_in, values_on, with_front, with_spelled, with_value}
use Rattle.value_text.specs.Spelled.{integer_at, minus_at, spelled_at, unsigned_at, word_at}
use Rattle.value_text.specs.Words.{is_digit, is_word, common, name_goes_on, name_of, suffix_at, type_at}
use Rattle.value_text.specs.declared.numbers.Base.{Base}
use Rattle.value_text.specs.declared.reading.TextErr.TheVariants as text
use Rattle.value_text.specs.declared.spelled.Form.{Form}
use Rattle.value_text.specs.declared.spelled.Form.TheVariants as form
use Rattle.value_text.specs.declared.spelled.Spelled.{Spelled}
use Rattle.value_text.specs.declared.numbers.Base.TheVariants.{Decimal, Hexadecimal, Binary}
use Rattle.value_text.proofs.Names.{ends_letter, ends_number}

-- ---- tests

pub second : {A : Type 0} (s t : Bool) (x y z : A) → s ≡ false → t ≡ true → cond s x (cond t y z) ≡ y
second s t x y z e f = ap (λ b. cond b x (cond t y z)) e ∙ ap (λ b. cond b y z) f

pub third : {A : Type 0} (s t : Bool) (x y z : A) → s ≡ false → t ≡ false → cond s x (cond t y z) ≡ z
third s t x y z e f = ap (λ b. cond b x (cond t y z)) e ∙ ap (λ b. cond b y z) f

never : (s t : Bool) → t ≡ false → (s && t) ≡ false
never true t e = e
never false t e = refl

right_holds : (s t : Bool) → t ≡ true → (s || t) ≡ true
right_holds true t e = refl
right_holds false t e = e

-- a byte of which a test holds is none of which it doesn't
pub differs : (p : ℕ → Bool) (b c : ℕ) (s t : Bool) → p b ≡ s → p c ≡ t → (s ≡ t → ⊥) → (b == c) ≡ false
differs p b c s t e f apart = by_test (b == c) refl
  where
    by_test : (r : Bool) → (b == c) ≡ r → r ≡ false
    by_test true h = absurd (apart (sym e ∙ ap p (eqb-true b c h) ∙ f))
    by_test false h = refl

-- ---- where a value ends

letter_i : (base : Base) → is_in_number base 105 ≡ false
letter_i Decimal = refl
letter_i Hexadecimal = refl
letter_i Binary = refl

letter_u : (base : Base) → is_in_number base 117 ≡ false
letter_u Decimal = refl
letter_u Hexadecimal = refl
letter_u Binary = refl

stops_at : (base : Base) (b : ℕ) (bs : List ℕ) → is_in_number base b ≡ false → prefix_len (is_in_number base) (b ∷ bs) ≡ 0
stops_at base b bs e = ap (λ t. cond t (1 + prefix_len (is_in_number base) bs) 0) e

-- the digits of a number go up to the type behind them
number_stops : (base : Base) (named : Option IntType) (rest : List ℕ) → name_goes_on rest ≡ false → prefix_len (is_in_number base) (suffix named ++ rest) ≡ 0
number_stops base None [] z = refl
number_stops base None (b ∷ bs) z = stops_at base b bs (ends_number base b bs z)
number_stops base (Some I8) rest z = stops_at base 105 (56 ∷ rest) (letter_i base)
number_stops base (Some I16) rest z = stops_at base 105 (49 ∷ 54 ∷ rest) (letter_i base)
number_stops base (Some I32) rest z = stops_at base 105 (51 ∷ 50 ∷ rest) (letter_i base)
number_stops base (Some I64) rest z = stops_at base 105 (54 ∷ 52 ∷ rest) (letter_i base)
number_stops base (Some U8) rest z = stops_at base 117 (56 ∷ rest) (letter_u base)
number_stops base (Some U16) rest z = stops_at base 117 (49 ∷ 54 ∷ rest) (letter_u base)
number_stops base (Some U32) rest z = stops_at base 117 (51 ∷ 50 ∷ rest) (letter_u base)
number_stops base (Some U64) rest z = stops_at base 117 (54 ∷ 52 ∷ rest) (letter_u base)

-- ---- a number

module _ (base : Base) where
  run : (cs tail : List ℕ) → All_in_number base cs → prefix_len (is_in_number base) (cs ++ tail) ≡ length cs + prefix_len (is_in_number base) tail
  run [] tail p = omega arith
  run (c ∷ cs) tail p = ap (λ t. cond t (1 + prefix_len (is_in_number base) (cs ++ tail)) 0) p.0 ∙ ap (λ n. 1 + n) (run cs tail p.1) ∙ omega arith

  at_least : (n : ℕ) → n ≤ radix base * n
  at_least n = by_base base
    where
      by_base : (b : Base) → n ≤ radix b * n
      by_base Decimal = omega arith
      by_base Hexadecimal = omega arith
      by_base Binary = omega arith

  pub grows : (n : ℕ) (cs : List ℕ) → n ≤ value_on base n cs
  grows n [] = omega arith
  grows n (c ∷ cs) = by_test (c == 95) (grows n cs) (grows (radix base * n + digit_of c) cs) (at_least n)
    where
      by_test : (t : Bool) → n ≤ value_on base n cs → radix base * n + digit_of c ≤ value_on base (radix base * n + digit_of c) cs → n ≤ radix base * n → n ≤ cond t (value_on base n cs) (value_on base (radix base * n + digit_of c) cs)
      by_test true h k l = h
      by_test false h k l = omega arith

  reads_on : (n at : ℕ) (cs : List ℕ) → value_on base n cs < 2 ^ 64 → number_on base n at cs ≡ Ok (value_on base n cs)
  reads_on n at [] h = refl
  reads_on n at (c ∷ cs) h = by_test (c == 95) (radix base * n + digit_of c) (grows (radix base * n + digit_of c) cs) (reads_on n (at + 1) cs) (reads_on (radix base * n + digit_of c) (at + 1) cs) h
    where
      by_test : (t : Bool) (next : ℕ) → next ≤ value_on base next cs → (value_on base n cs < 2 ^ 64 → number_on base n (at + 1) cs ≡ Ok (value_on base n cs)) → (value_on base next cs < 2 ^ 64 → number_on base next (at + 1) cs ≡ Ok (value_on base next cs))
          → cond t (value_on base n cs) (value_on base next cs) < 2 ^ 64 → cond t (number_on base n (at + 1) cs) (cond (nat_lt next (2 ^ 64)) (number_on base next (at + 1) cs) (Err at)) ≡ Ok (cond t (value_on base n cs) (value_on base next cs))
      by_test true next g passed read k = passed k
      by_test false next g passed read k = ap (λ t. cond t (number_on base next (at + 1) cs) (Err at)) (lt-ltb next (2 ^ 64) (omega (arith, g, k))) ∙ read k

  starts_so : (cs tail : List ℕ) → starts_digit base cs ≡ true → starts_digit base (cs ++ tail) ≡ true
  starts_so [] tail h = absurd cc
  starts_so (c ∷ cs) tail h = h

  number_by : (at n v : ℕ) (bytes digits : List ℕ) → starts_digit base bytes ≡ true → number_len base bytes ≡ n → take n bytes ≡ digits
      → number_on base 0 at digits ≡ Ok v → ends_in_underscore digits ≡ false → number_at base at bytes ≡ Ok (record { value = v; length = n })
  unfolding number_at
  number_by at n v bytes digits s l t o e = rw (s, l, t, o, e) refl

  number_is : (at : ℕ) (digits tail : List ℕ) → IsNumber base digits → prefix_len (is_in_number base) tail ≡ 0 → number_at base at (digits ++ tail) ≡ Ok (record { value = value_on base 0 digits; length = length digits })
  unfolding number_len
  number_is at digits tail h z =
      let r = run digits tail h.all in
      number_by at (length digits) (value_on base 0 digits) (digits ++ tail) digits (starts_so digits tail h.starts) (omega (arith, r, z)) (take-append_seam digits tail) (reads_on 0 at digits h.below) h.ends

-- ---- the type behind it

pub none_common : (bytes : List ℕ) → common bytes [] ≡ 0
none_common [] = refl
none_common (b ∷ bs) = refl

name_common : (ty : IntType) (rest : List ℕ) → common (name_of ty ++ rest) (name_of ty) ≡ length (name_of ty)
name_common I8 rest = ap (λ n. 1 + (1 + n)) (none_common rest)
name_common I16 rest = ap (λ n. 1 + (1 + (1 + n))) (none_common rest)
name_common I32 rest = ap (λ n. 1 + (1 + (1 + n))) (none_common rest)
name_common I64 rest = ap (λ n. 1 + (1 + (1 + n))) (none_common rest)
name_common U8 rest = ap (λ n. 1 + (1 + n)) (none_common rest)
name_common U16 rest = ap (λ n. 1 + (1 + (1 + n))) (none_common rest)
name_common U32 rest = ap (λ n. 1 + (1 + (1 + n))) (none_common rest)
name_common U64 rest = ap (λ n. 1 + (1 + (1 + n))) (none_common rest)

pub type_is : (ty : IntType) (rest : List ℕ) → name_goes_on rest ≡ false → type_at (name_of ty ++ rest) ≡ Some ty
unfolding type_at is_word
type_is I8 rest z = rw (z, name_common I8 rest) refl
type_is I16 rest z = rw (z, name_common I16 rest) refl
type_is I32 rest z = rw (z, name_common I32 rest) refl
type_is I64 rest z = rw (z, name_common I64 rest) refl
type_is U8 rest z = rw (z, name_common U8 rest) refl
type_is U16 rest z = rw (z, name_common U16 rest) refl
type_is U32 rest z = rw (z, name_common U32 rest) refl
type_is U64 rest z = rw (z, name_common U64 rest) refl

suffix_by : (bytes : List ℕ) (ty : IntType) → type_at bytes ≡ Some ty → suffix_at bytes ≡ Ok (record { ty = Some ty; length = length (name_of ty) })
unfolding suffix_at
suffix_by bytes ty t = rw t refl

no_type : (bytes : List ℕ) → name_goes_on bytes ≡ false → type_at bytes ≡ None
unfolding type_at is_word goes_on_name
no_type [] z = refl
no_type (b ∷ bs) z = rw (ends_letter b 105 bs z refl refl, ends_letter b 117 bs z refl refl) refl

no_suffix : (bytes : List ℕ) → type_at bytes ≡ None → name_goes_on bytes ≡ false → suffix_at bytes ≡ Ok (record { ty = None; length = 0 })
unfolding suffix_at
no_suffix bytes t z = rw (t, z) refl

suffix_is : (named : Option IntType) (rest : List ℕ) → name_goes_on rest ≡ false → suffix_at (suffix named ++ rest) ≡ Ok (record { ty = named; length = length (suffix named) })
suffix_is None rest z = no_suffix rest (no_type rest z) z
suffix_is (Some ty) rest z = suffix_by (name_of ty ++ rest) ty (type_is ty rest z)

-- ---- an integer

-- the second byte is neither `x` nor `b`
second_byte : (z x : ℕ) (bs : List ℕ) → (x == 120) ≡ false → (x == 98) ≡ false → base_at (z ∷ x ∷ bs) ≡ Decimal
second_byte z x bs e f = third (z == 48 && x == 120) (z == 48 && x == 98) _ _ _ (never (z == 48) (x == 120) e) (never (z == 48) (x == 98) f)

one_digit : (c : ℕ) (named : Option IntType) (rest : List ℕ) → name_goes_on rest ≡ false → base_at (c ∷ (suffix named ++ rest)) ≡ Decimal
unfolding goes_on_name
one_digit c None [] z = refl
one_digit c None (b ∷ bs) z = second_byte c b bs (ends_letter b 120 bs z refl refl) (ends_letter b 98 bs z refl refl)
one_digit c (Some I8) rest z = second_byte c 105 (56 ∷ rest) refl refl
one_digit c (Some I16) rest z = second_byte c 105 (49 ∷ 54 ∷ rest) refl refl
one_digit c (Some I32) rest z = second_byte c 105 (51 ∷ 50 ∷ rest) refl refl
one_digit c (Some I64) rest z = second_byte c 105 (54 ∷ 52 ∷ rest) refl refl
one_digit c (Some U8) rest z = second_byte c 117 (56 ∷ rest) refl refl
one_digit c (Some U16) rest z = second_byte c 117 (49 ∷ 54 ∷ rest) refl refl
one_digit c (Some U32) rest z = second_byte c 117 (51 ∷ 50 ∷ rest) refl refl
one_digit c (Some U64) rest z = second_byte c 117 (54 ∷ 52 ∷ rest) refl refl

base_is : (base : Base) (digits : List ℕ) (named : Option IntType) (rest : List ℕ) → IsNumber base digits → name_goes_on rest ≡ false → base_at (prefix base ++ (digits ++ (suffix named ++ rest))) ≡ base
base_is Hexadecimal digits named rest h z = refl
base_is Binary digits named rest h z = refl
base_is Decimal [] named rest h z = let s = h.starts in absurd cc
base_is Decimal (c ∷ []) named rest h z = one_digit c named rest z
base_is Decimal (c ∷ d ∷ cs) named rest h z =
    let e = h.all.1.0 in
    second_byte c d (cs ++ (suffix named ++ rest)) (differs (is_in_number Decimal) d 120 true false e refl (λ k. cc)) (differs (is_in_number Decimal) d 98 true false e refl (λ k. cc))

abbrev spelled_so : (minus : ℕ) (base : Base) (digits : List ℕ) (named : Option IntType) → Spelled
spelled_so minus base digits named = record { form = form.Integer (minus == 1) (value_on base 0 digits) named; length = minus + prefix_of base + length digits + length (suffix named) }

-- a base's prefix has the length that is skipped
skipped : (base : Base) (bytes : List ℕ) → drop (prefix_of base) (prefix base ++ bytes) ≡ bytes
skipped Decimal bytes = refl
skipped Hexadecimal bytes = refl
skipped Binary bytes = refl

unsigned_by : (minus n v m : ℕ) (base : Base) (ty : Option IntType) (bytes digits tail : List ℕ) → base_at bytes ≡ base → drop (prefix_of base) bytes ≡ digits → number_at base (minus + prefix_of base) digits ≡ Ok (record { value = v; length = n }) → drop n digits ≡ tail
    → suffix_at tail ≡ Ok (record { ty = ty; length = m }) → unsigned_at minus bytes ≡ Ok (record { form = form.Integer (minus == 1) v ty; length = minus + prefix_of base + n + m })
unsigned_by minus n v m base ty bytes digits tail b s o d t = rw (b, s, o, d, t) refl

unsigned_is : (minus : ℕ) (base : Base) (digits : List ℕ) (named : Option IntType) (rest : List ℕ) → IsNumber base digits → name_goes_on rest ≡ false
    → unsigned_at minus (prefix base ++ (digits ++ (suffix named ++ rest))) ≡ Ok (spelled_so minus base digits named)
unsigned_is minus base digits named rest h z =
    unsigned_by minus (length digits) (value_on base 0 digits) (length (suffix named)) base named (prefix base ++ (digits ++ (suffix named ++ rest))) (digits ++ (suffix named ++ rest)) (suffix named ++ rest) (base_is base digits named rest h z)
    (skipped base (digits ++ (suffix named ++ rest))) (number_is base (minus + prefix_of base) digits (suffix named ++ rest) h (number_stops base named rest z)) (drop-append_seam digits (suffix named ++ rest)) (suffix_is named rest z)

-- ---- how values begin

-- a digit of a base begins an integer
pub digit_first : (base : Base) (digits tail : List ℕ) → IsNumber base digits → (c : ℕ) × (cs : List ℕ) × ((prefix base ++ (digits ++ tail)) ≡ c ∷ cs) × (is_digit c ≡ true)
digit_first Hexadecimal digits tail h = (48, 120 ∷ (digits ++ tail), refl, refl)
digit_first Binary digits tail h = (48, 98 ∷ (digits ++ tail), refl, refl)
digit_first Decimal [] tail h = let s = h.starts in absurd cc
digit_first Decimal (c ∷ cs) tail h = (c, cs ++ tail, refl, h.starts)

pub no_gap_at : (b : ℕ) (bs : List ℕ) → (b == 45 && begins_with 45 bs) ≡ false → is_blank b ≡ false → gap_at (b ∷ bs) ≡ 0
unfolding gap_at
no_gap_at b bs e f = ap (λ r. one_more r (λ inside. gap_from inside bs)) (third (b == 45 && begins_with 45 bs) (is_blank b) _ _ _ e f)

module _ (c : ℕ) (d : is_digit c ≡ true) where
  pub no_minus : (c == 45) ≡ false
  no_minus = differs is_digit c 45 true false d refl (λ k. cc)

  no_bracket : (c == 91) ≡ false
  no_bracket = differs is_digit c 91 true false d refl (λ k. cc)

  pub no_blank : is_blank c ≡ false
  no_blank = rw (differs is_digit c 32 true false d refl (λ k. cc), differs is_digit c 9 true false d refl (λ k. cc), differs is_digit c 10 true false d refl (λ k. cc), differs is_digit c 13 true false d refl (λ k. cc)) refl

integer_by : (minus : ℕ) (bytes digits : List ℕ) → minus_at bytes ≡ minus → drop minus bytes ≡ digits → integer_at bytes ≡ unsigned_at minus digits
unfolding integer_at
integer_by minus bytes digits m d = ap (λ n. unsigned_at n (drop n bytes)) m ∙ ap (unsigned_at minus) d

plain : (c : ℕ) (cs : List ℕ) → is_digit c ≡ true → spelled_at (c ∷ cs) ≡ unsigned_at 0 (c ∷ cs)
plain c cs d =
    second (c == 91) (c == 45 || is_digit c) _ _ _ (no_bracket c d) (right_holds (c == 45) (is_digit c) d)
    ∙ integer_by 0 (c ∷ cs) (c ∷ cs) (ap (λ t. cond t 1 0) (no_minus c d)) refl

abbrev one_if : Bool → ℕ
one_if true = 1
one_if false = 0

is_one : (negative : Bool) → (one_if negative == 1) ≡ negative
is_one true = refl
is_one false = refl

signed_is : (negative : Bool) (bytes : List ℕ) → (c : ℕ) × (cs : List ℕ) × (bytes ≡ c ∷ cs) × (is_digit c ≡ true) → (spelled_at (sign negative ++ bytes) ≡ unsigned_at (one_if negative) bytes) × (gap_at (sign negative ++ bytes) ≡ 0)
signed_is true bytes first =
    let c = first.0 in
    let e = first.2 in
    let not_two : begins_with 45 bytes ≡ false = ap (begins_with 45) e ∙ no_minus c first.3 in
    (integer_by 1 (45 ∷ bytes) bytes refl refl, no_gap_at 45 bytes not_two refl)
signed_is false bytes first =
    let c = first.0 in
    let cs = first.1 in
    let e = first.2 in
    let d = first.3 in
    (ap spelled_at e ∙ plain c cs d ∙ ap (unsigned_at 0) (sym e), ap gap_at e ∙ no_gap_at c cs (ap (λ t. t && begins_with 45 cs) (no_minus c d)) (no_blank c d))

integer_is : (negative : Bool) (base : Base) (digits : List ℕ) (named : Option IntType) (rest : List ℕ) → IsNumber base digits → name_goes_on rest ≡ false
    → (spelled_at (sign negative ++ (prefix base ++ (digits ++ (suffix named ++ rest)))) ≡ Ok (record { form = form.Integer negative (value_on base 0 digits) named; length = one_if negative + prefix_of base + length digits + length (suffix named) }))
    × (gap_at (sign negative ++ (prefix base ++ (digits ++ (suffix named ++ rest)))) ≡ 0)
integer_is negative base digits named rest h z =
    let first = digit_first base digits (suffix named ++ rest) h in
    let both = signed_is negative (prefix base ++ (digits ++ (suffix named ++ rest))) first in (
      both.0 ∙ unsigned_is (one_if negative) base digits named rest h z
          ∙ ap (λ t. Ok (record { form = form.Integer t (value_on base 0 digits) named; length = one_if negative + prefix_of base + length digits + length (suffix named) })) (is_one negative),
      both.1,
    )

-- ---- a value

-- what a spelling gives before this text
pub record Found (ty : ScalarType) (word rest : List ℕ) (value : Scalar) : Type 0 where
  pub no_gap : gap_at (word ++ rest) ≡ 0
  pub form : Form
  pub spelled : spelled_at (word ++ rest) ≡ Ok (record { form = form; length = length word })
  pub is : (position : ℕ) → value_as ty position form ≡ Ok value
  pub no_close : begins_with 93 (word ++ rest) ≡ false

pub integer_word : (negative : Bool) (base : Base) (digits : List ℕ) (named : Option IntType) (rest : List ℕ)
    → (sign negative ++ (prefix base ++ (digits ++ suffix named))) ++ rest ≡ sign negative ++ (prefix base ++ (digits ++ (suffix named ++ rest)))
integer_word negative base digits named rest =
    append_assoc (sign negative) (prefix base ++ (digits ++ suffix named)) rest
    ∙ ap (λ z. sign negative ++ z) (append_assoc (prefix base) (digits ++ suffix named) rest ∙ ap (λ z. prefix base ++ z) (append_assoc digits (suffix named) rest))

sign_len : (negative : Bool) → length (sign negative) ≡ one_if negative
sign_len true = refl
sign_len false = refl

pub prefix_len_is : (base : Base) → length (prefix base) ≡ prefix_of base
prefix_len_is Decimal = refl
prefix_len_is Hexadecimal = refl
prefix_len_is Binary = refl

integer_len : (negative : Bool) (base : Base) (digits : List ℕ) (named : Option IntType)
    → one_if negative + prefix_of base + length digits + length (suffix named) ≡ length (sign negative ++ (prefix base ++ (digits ++ suffix named)))
integer_len negative base digits named =
    let a = length-append (sign negative) (prefix base ++ (digits ++ suffix named)) in
    let b = length-append (prefix base) (digits ++ suffix named) in
    let c = length-append digits (suffix named) in
    omega (arith, a, b, c, sign_len negative, prefix_len_is base)

integer_as : (ty : IntType) (value : Scalar) (negative : Bool) (n : ℕ) (named : Option IntType) (position : ℕ) → may_be ty named ≡ true → value_in ty (signed negative n) ≡ Some value → value_as (sort.Int ty) position (form.Integer negative n named) ≡ Ok value
integer_as ty value negative n named position m v =
    ap (λ t. cond t (in_range position (value_in ty (signed negative n))) (Err (text.WrongType position))) m ∙ ap (in_range position) v

true_common : (rest : List ℕ) → common (codes "true" ++ rest) (codes "true") ≡ 4
true_common rest = ap (λ n. 1 + (1 + (1 + (1 + n)))) (none_common rest)

false_common : (rest : List ℕ) → common (codes "false" ++ rest) (codes "false") ≡ 5
false_common rest = ap (λ n. 1 + (1 + (1 + (1 + (1 + n))))) (none_common rest)

no_close : (negative : Bool) (bytes : List ℕ) → (c : ℕ) × (cs : List ℕ) × (bytes ≡ c ∷ cs) × (is_digit c ≡ true) → begins_with 93 (sign negative ++ bytes) ≡ false
no_close true bytes first = refl
no_close false bytes first = ap (begins_with 93) first.2 ∙ differs is_digit first.0 93 true false first.3 refl (λ k. cc)

pub found : (ty : ScalarType) (word rest : List ℕ) (value : Scalar) → Spells ty word value → name_goes_on rest ≡ false → Found ty word rest value
unfolding gap_at word_at is_word
found _ _ rest _ truth z = record { no_gap = refl; form = form.Truth true; spelled = rw (z, true_common rest) refl; is = λ position. refl; no_close = refl }
found _ _ rest _ falsehood z = record { no_gap = refl; form = form.Truth false; spelled = rw (z, false_common rest) refl; is = λ position. refl; no_close = refl }
found _ _ rest _ (integer {ty} {value} negative base digits named h m v) z =
    let e = integer_word negative base digits named rest in
    let both = integer_is negative base digits named rest h z in
    record {
      no_gap = ap gap_at e ∙ both.1;
      form = form.Integer negative (value_on base 0 digits) named;
      spelled = ap spelled_at e ∙ both.0 ∙ ap (λ k. Ok (record { form = form.Integer negative (value_on base 0 digits) named; length = k })) (integer_len negative base digits named);
      is = λ position. integer_as ty value negative (value_on base 0 digits) named position m v;
      no_close = ap (begins_with 93) e ∙ no_close negative (prefix base ++ (digits ++ (suffix named ++ rest))) (digit_first base digits (suffix named ++ rest) h);
    }

-- ---- blanks and comments

line_is : (line bs bytes : List ℕ) → IsLine line → gap_from true ((line ++ 10 ∷ bs) ++ bytes) ≡ length line + (1 + gap_from false (bs ++ bytes))
line_is [] bs bytes l = omega arith
line_is (b ∷ line) bs bytes l =
    let more = line_is line bs bytes l.1 in
    ap (λ t. one_more (Some (not t)) (λ inside. gap_from inside ((line ++ 10 ∷ bs) ++ bytes))) l.0 ∙ omega (arith, more)

open_line : (line : List ℕ) → IsLine line → gap_from true line ≡ length line
open_line [] l = refl
open_line (b ∷ line) l = ap (λ t. one_more (Some (not t)) (λ inside. gap_from inside line)) l.0 ∙ ap suc (open_line line l.1)

pub gap_is : (gap bytes : List ℕ) → Gap gap → gap_from false (gap ++ bytes) ≡ length gap + gap_from false bytes
gap_is _ bytes nothing = omega arith
gap_is _ bytes (blank {b} {bs} e h) =
    let more = gap_is bs bytes h in
    let no : (b == 45 && begins_with 45 (bs ++ bytes)) ≡ false = ap (λ t. t && begins_with 45 (bs ++ bytes)) (differs is_blank b 45 true false e refl (λ k. cc)) in
    ap (λ r. one_more r (λ inside. gap_from inside (bs ++ bytes))) (second (b == 45 && begins_with 45 (bs ++ bytes)) (is_blank b) _ _ _ no e) ∙ omega (arith, more)
gap_is _ bytes (comment line bs l h) =
    let more = gap_is bs bytes h in
    let this = line_is line bs bytes l in
    let long = length-append line (10 ∷ bs) in
    omega (arith, more, this, long)

pub last_gap : (bytes : List ℕ) → Last_gap bytes → gap_at bytes ≡ length bytes
unfolding gap_at
last_gap bytes (closed h) = ap (gap_from false) (sym (append-nil bytes)) ∙ gap_is bytes [] h ∙ omega arith
last_gap _ (in_comment bs line h l) =
    let this = open_line line l in
    let long = length-append bs (45 ∷ 45 ∷ line) in
    gap_is bs (45 ∷ 45 ∷ line) h ∙ omega (arith, this, long)

-- ---- the whole text

value_by : (ty : ScalarType) (others : Reader) (param position : ℕ) (bytes : List ℕ) (spelled : Spelled) (value : Scalar) → spelled_at bytes ≡ Ok spelled → value_as ty position spelled.form ≡ Ok value
    → value_at ty others param position bytes ≡ with_front value (others (param + 1) (position + spelled.length) (drop spelled.length bytes))
value_by ty others param position [] spelled value s v = absurd cc
value_by ty others param position (b ∷ bs) spelled value s v =
    ap (λ r. with_spelled position r (λ found. with_value (value_as ty position found.form) (λ value. with_front value (others (param + 1) (position + found.length) (drop found.length (b ∷ bs)))))) s
    ∙ ap (λ r. with_value r (λ value. with_front value (others (param + 1) (position + spelled.length) (drop spelled.length (b ∷ bs))))) v

module _ (ty : ScalarType) (types : List ScalarType) (param position : ℕ) (gap word rest : List ℕ) (value : Scalar) (g : Gap gap) (f : Found ty word rest value) where
  gap_len : gap_at (gap ++ (word ++ rest)) ≡ length gap
  unfolding gap_at
  gap_len = let none = f.no_gap in gap_is gap (word ++ rest) g ∙ omega (arith, none)

  value_reads : values_on (ty ∷ types) param position (gap ++ (word ++ rest)) ≡ with_front value (values_on types (param + 1) (position + length gap + length word) rest)
  value_reads =
      ap (λ n. value_at ty (values_on types) param (position + n) (drop n (gap ++ (word ++ rest)))) gap_len
      ∙ ap (value_at ty (values_on types) param (position + length gap)) (drop-append_seam gap (word ++ rest))
      ∙ value_by ty (values_on types) param (position + length gap) (word ++ rest) (record { form = f.form; length = length word }) value f.spelled (f.is (position + length gap))
      ∙ ap (λ r. with_front value (values_on types (param + 1) (position + length gap + length word) r)) (drop-append_seam word rest)

nothing_left : (position n : ℕ) (bytes : List ℕ) → n ≡ length bytes → nothing_at (position + n) (drop n bytes) ≡ Ok []
nothing_left position n bytes e = ap (nothing_at (position + n)) (drop_all n bytes (omega arith))

text_reads : (types : List ScalarType) (bytes : List ℕ) (values : List Scalar) (param position : ℕ) → Text types bytes values → values_on types param position bytes ≡ Ok values
text_reads _ bytes _ param position (ended g) = nothing_left position (gap_at bytes) bytes (last_gap bytes g)
text_reads _ _ _ param position (value_and {ty} {types} {value} {values} gap word rest g s z t) =
    value_reads ty types param position gap word rest value g (found ty word rest value s z) ∙ ap (with_front value) (text_reads types rest values (param + 1) (position + length gap + length word) t)

pub texts_are_read : TextsAreRead
texts_are_read types bytes values t = text_reads types bytes values 1 0 t
