-- What is read is a text of the grammar.
use Rattle.std.proofs.Common.{◌≡◌, ◌+◌, ◌*◌, ◌^◌, ◌<◌, ℕ, zero, suc, List, [], ◌∷◌, ◌++◌, length, take, drop, arith, refl, sym, ap, ◌∙◌, subst, eqb-true, ltb-true, append_assoc, append-nil, length-append}
use Rattle.std.specs.Prelude.{Bool, true, false, not, cond, nat_lt, ◌==◌, ◌&&◌, ◌||◌, Option, Some, None, Result, Ok, Err, codes}
use Rattle.std.specs.List.{prefix_len}
use Rattle.std.proofs.Math.Seq.{drop-append_seam}
use Rattle.std.proofs.lemmas.List.{take-append-drop, drop_all}
use Rattle.std.proofs.lemmas.List.Folds.{length-prefix_len}
use Rattle.fut_scalar.specs.declared.scalar.IntType.{IntType}
use Rattle.fut_scalar.specs.declared.scalar.IntType.TheVariants.{I8, I16, I32, I64, U8, U16, U32, U64}
use Rattle.fut_scalar.specs.declared.scalar.Scalar.{Scalar}
use Rattle.fut_scalar.specs.declared.scalar.Scalar.TheVariants as scalar
use Rattle.fut_scalar.specs.declared.scalar.ScalarType.{ScalarType}
use Rattle.fut_scalar.specs.declared.scalar.ScalarType.TheVariants as sort
use Rattle.value_text.specs.Claims.{OnlyTextsAreRead}
use Rattle.value_text.specs.Empties.{empty_len}
use Rattle.value_text.specs.Gaps.{is_blank, gap_at, gap_from, one_more}
use Rattle.value_text.specs.Grammar.{IsLine, Gap, nothing, blank, comment, Last_gap, closed, in_comment, All_in_number, IsNumber, sign, prefix, suffix, Spells, truth, falsehood, integer, Text, ended, value_and}
use Rattle.value_text.specs.Numbers.{base_at, digit_of, is_in_number, ends_in_underscore, number_len, number_on, number_of, number_at, prefix_of, radix, starts_digit, value_on}
use Rattle.value_text.specs.Reading.{Reader, Values, in_range, may_be, nothing_at, signed, value_as, value_at, value_in, values_on, with_front, with_spelled, with_value}
use Rattle.value_text.specs.Spelled.{empty_array, word_front, integer_at, integer_of_number, integer_of_suffix, spelled_at, spelled_by, unsigned_at, word_at}
use Rattle.value_text.specs.Words.{is_digit, is_word, common, name_goes_on, name_of, suffix_at, suffix_of, type_at, type_front}
use Rattle.value_text.specs.declared.numbers.Base.{Base}
use Rattle.value_text.specs.declared.numbers.Base.TheVariants.{Decimal, Hexadecimal, Binary}
use Rattle.value_text.specs.declared.numbers.Number.{Number}
use Rattle.value_text.specs.declared.reading.TextErr.{TextErr}
use Rattle.value_text.specs.declared.reading.TextErr.TheVariants as text
use Rattle.value_text.specs.declared.spelled.Form.TheVariants as form
use Rattle.value_text.specs.declared.spelled.Spelled.{Spelled}
use Rattle.value_text.specs.declared.words.Suffix.{Suffix}
use Rattle.value_text.proofs.Texts.{integer_word, prefix_len_is, second, third}

-- ---- tests

and_left : (s t : Bool) → (s && t) ≡ true → s ≡ true
and_left true t h = refl
and_left false t h = absurd cc

and_right : (s t : Bool) → (s && t) ≡ true → t ≡ true
and_right true t h = h
and_right false t h = absurd cc

is_not : (t : Bool) → not t ≡ true → t ≡ false
is_not true h = absurd cc
is_not false h = refl

-- ---- blanks and comments

-- what stands at the front of a text, outside of a comment
pub data Gapped (bytes : List ℕ) : Type 0 where
  gapped : (gap rest : List ℕ) → bytes ≡ gap ++ rest → Gap gap → gap_from false bytes ≡ length gap → Gapped bytes
  all_gap : Last_gap bytes → gap_from false bytes ≡ length bytes → Gapped bytes

-- and inside of one
data Commented (bytes : List ℕ) : Type 0 where
  line_ends : (line gap rest : List ℕ) → bytes ≡ line ++ 10 ∷ (gap ++ rest) → IsLine line → Gap gap → gap_from true bytes ≡ length line + (1 + length gap) → Commented bytes
  line_before : (line bs : List ℕ) → bytes ≡ line ++ 10 ∷ bs → IsLine line → Last_gap bs → gap_from true bytes ≡ length bytes → Commented bytes
  line_open : IsLine bytes → gap_from true bytes ≡ length bytes → Commented bytes

newline_is : (bs : List ℕ) → Gapped bs → Commented (10 ∷ bs)
newline_is bs (gapped gap rest e g n) = line_ends [] gap rest (ap (λ z. 10 ∷ z) e) tt g (omega (arith, n))
newline_is bs (all_gap g n) = line_before [] bs refl tt g (omega (arith, n))

line_more : (b : ℕ) (bs : List ℕ) → (b == 10) ≡ false → Commented bs → Commented (b ∷ bs)
line_more b bs h c =
    let step : gap_from true (b ∷ bs) ≡ suc (gap_from true bs) = ap (λ t. one_more (Some (not t)) (λ inside. gap_from inside bs)) h in
    by_line step c
  where
    by_line : gap_from true (b ∷ bs) ≡ suc (gap_from true bs) → Commented bs → Commented (b ∷ bs)
    by_line step (line_ends line gap rest e l g n) = line_ends (b ∷ line) gap rest (ap (λ z. b ∷ z) e) (h, l) g (omega (arith, step, n))
    by_line step (line_before line cs e l g n) = line_before (b ∷ line) cs (ap (λ z. b ∷ z) e) (h, l) g (omega (arith, step, n))
    by_line step (line_open l n) = line_open (h, l) (omega (arith, step, n))

blank_more : (b : ℕ) (bs : List ℕ) → is_blank b ≡ true → gap_from false (b ∷ bs) ≡ suc (gap_from false bs) → Gapped bs → Gapped (b ∷ bs)
blank_more b bs h step (gapped gap rest e g n) = gapped (b ∷ gap) rest (ap (λ z. b ∷ z) e) (blank h g) (omega (arith, step, n))
blank_more b bs h step (all_gap (closed g) n) = all_gap (closed (blank h g)) (omega (arith, step, n))
blank_more b _ h step (all_gap (in_comment bs line g l) n) = all_gap (in_comment (b ∷ bs) line (blank h g) l) (omega (arith, step, n))

comment_before : (line : List ℕ) → IsLine line → (bs : List ℕ) → Last_gap bs → Last_gap (45 ∷ 45 ∷ (line ++ 10 ∷ bs))
comment_before line l bs (closed g) = closed (comment line bs l g)
comment_before line l _ (in_comment bs more g m) =
    subst Last_gap (ap (λ z. 45 ∷ 45 ∷ z) (append_assoc line (10 ∷ bs) (45 ∷ 45 ∷ more))) (in_comment (45 ∷ 45 ∷ (line ++ 10 ∷ bs)) more (comment line bs l g) m)

comment_more : (bs : List ℕ) → Commented bs → Gapped (45 ∷ 45 ∷ bs)
comment_more bs (line_ends line gap rest e l g n) =
    let long = length-append line (10 ∷ gap) in
    gapped (45 ∷ 45 ∷ (line ++ 10 ∷ gap)) rest (ap (λ z. 45 ∷ 45 ∷ z) (e ∙ sym (append_assoc line (10 ∷ gap) rest))) (comment line gap l g) (omega (arith, n, long))
comment_more bs (line_before line cs e l g n) = all_gap (subst (λ z. Last_gap (45 ∷ 45 ∷ z)) (sym e) (comment_before line l cs g)) (omega (arith, n))
comment_more bs (line_open l n) = all_gap (in_comment [] bs nothing l) (omega (arith, n))

one_byte : (b : ℕ) (t : Bool) → is_blank b ≡ t → (b == 45 && false) ≡ false → Gapped (b ∷ [])
one_byte b true h n = blank_more b [] h (ap (λ r. one_more r (λ inside. gap_from inside [])) (second (b == 45 && false) (is_blank b) (Some true) (Some false) None n h)) (gapped [] [] refl nothing refl)
one_byte b false h n = gapped [] (b ∷ []) refl nothing (ap (λ r. one_more r (λ inside. gap_from inside [])) (third (b == 45 && false) (is_blank b) (Some true) (Some false) None n h))

no_and : (s : Bool) → (s && false) ≡ false
no_and true = refl
no_and false = refl

by_front : (b c : ℕ) (cs : List ℕ) (s t : Bool) → (b == 45 && c == 45) ≡ s → is_blank b ≡ t → Gapped (c ∷ cs) → Commented cs → Gapped (b ∷ c ∷ cs)
by_front b c cs true t e f g k =
    let x : b ≡ 45 = eqb-true b 45 (and_left (b == 45) (c == 45) e) in
    let y : c ≡ 45 = eqb-true c 45 (and_right (b == 45) (c == 45) e) in
    subst (λ z. Gapped (z ∷ c ∷ cs)) (sym x) (subst (λ z. Gapped (45 ∷ z ∷ cs)) (sym y) (comment_more cs k))
by_front b c cs false true e f g k =
    blank_more b (c ∷ cs) f (ap (λ r. one_more r (λ inside. gap_from inside (c ∷ cs))) (second (b == 45 && c == 45) (is_blank b) (Some true) (Some false) None e f)) g
by_front b c cs false false e f g k =
    gapped [] (b ∷ c ∷ cs) refl nothing (ap (λ r. one_more r (λ inside. gap_from inside (c ∷ cs))) (third (b == 45 && c == 45) (is_blank b) (Some true) (Some false) None e f))

by_newline : (b : ℕ) (bs : List ℕ) (t : Bool) → (b == 10) ≡ t → Gapped bs → Commented bs → Commented (b ∷ bs)
by_newline b bs true h g c = subst (λ z. Commented (z ∷ bs)) (sym (eqb-true b 10 h)) (newline_is bs g)
by_newline b bs false h g c = line_more b bs h c

mutual
  pub outside : (bytes : List ℕ) → Gapped bytes
  outside [] = gapped [] [] refl nothing refl
  outside (b ∷ []) = one_byte b (is_blank b) refl (no_and (b == 45))
  outside (b ∷ c ∷ cs) = by_front b c cs (b == 45 && c == 45) (is_blank b) refl refl (outside (c ∷ cs)) (inside cs)

  inside : (bytes : List ℕ) → Commented bytes
  inside [] = line_open tt refl
  inside (b ∷ bs) = by_newline b bs (b == 10) refl (outside bs) (inside bs)

-- ---- words

pub ok_is : {A B : Type 0} (x y : A) → ◌≡◌ {A = Result A B} (Ok x) (Ok y) → x ≡ y
ok_is x y e = cc

common_is : (bytes word : List ℕ) → common bytes word ≡ length word → bytes ≡ word ++ drop (length word) bytes
common_is [] [] h = refl
common_is [] (c ∷ cs) h = absurd (omega arith)
common_is (b ∷ bs) [] h = refl
common_is (b ∷ bs) (c ∷ cs) h = by_test (b == c) refl h (common_is bs cs)
  where
    by_test : (t : Bool) → (b == c) ≡ t → cond t (1 + common bs cs) 0 ≡ suc (length cs) → (common bs cs ≡ length cs → bs ≡ cs ++ drop (length cs) bs) → b ∷ bs ≡ c ∷ (cs ++ drop (length cs) bs)
    by_test true e k more = ap (λ z. z ∷ bs) (eqb-true b c e) ∙ ap (λ z. c ∷ z) (more (omega arith))
    by_test false e k more = absurd (omega arith)

-- a word at the front, and what stands behind it
pub record Stands (bytes word : List ℕ) : Type 0 where
  pub rest : List ℕ
  pub is : bytes ≡ word ++ rest
  pub ends : name_goes_on rest ≡ false

pub word_is : (bytes word : List ℕ) → is_word bytes word ≡ true → Stands bytes word
unfolding is_word
word_is bytes word h =
    let rest = drop (length word) bytes in
    let n = eqb-true (common bytes word) (length word) (and_left (common bytes word == length word) (not (name_goes_on rest)) h) in
    record { rest = rest; is = common_is bytes word n; ends = is_not (name_goes_on rest) (and_right (common bytes word == length word) (not (name_goes_on rest)) h) }

some_is : {A : Type 0} (x y : A) → Some x ≡ Some y → x ≡ y
some_is x y e = cc

named_by : (bytes : List ℕ) (x : IntType) (other : Option IntType) (ty : IntType) → cond (is_word bytes (name_of x)) (Some x) other ≡ Some ty → (other ≡ Some ty → is_word bytes (name_of ty) ≡ true) → is_word bytes (name_of ty) ≡ true
named_by bytes x other ty h k = by_test (is_word bytes (name_of x)) refl h
  where
    by_test : (t : Bool) → is_word bytes (name_of x) ≡ t → cond t (Some x) other ≡ Some ty → is_word bytes (name_of ty) ≡ true
    by_test true e f = subst (λ z. is_word bytes (name_of z) ≡ true) (some_is x ty f) e
    by_test false e f = k f

pub type_is : (bytes : List ℕ) (ty : IntType) → type_at bytes ≡ Some ty → is_word bytes (name_of ty) ≡ true
unfolding type_at
type_is bytes ty h =
    named_by bytes I8 _ ty h
    (λ h. named_by bytes I16 _ ty h
    (λ h. named_by bytes I32 _ ty h
    (λ h. named_by bytes I64 _ ty h
    (λ h. named_by bytes U8 _ ty h
    (λ h. named_by bytes U16 _ ty h
    (λ h. named_by bytes U32 _ ty h
    (λ h. named_by bytes U64 _ ty h (λ h. absurd cc))))))))

record Suffix_is (bytes : List ℕ) (s : Suffix) : Type 0 where
  pub rest : List ℕ
  pub is : bytes ≡ suffix s.ty ++ rest
  pub long : length (suffix s.ty) ≡ s.length
  pub ends : name_goes_on rest ≡ false

suffix_is : (bytes : List ℕ) (s : Suffix) → suffix_at bytes ≡ Ok s → Suffix_is bytes s
unfolding suffix_at
suffix_is bytes s h = by_type (type_at bytes) refl h
  where
    by_type : (t : Option IntType) → type_at bytes ≡ t → suffix_of t bytes ≡ Ok s → Suffix_is bytes s
    by_type (Some ty) e f =
        let w = word_is bytes (name_of ty) (type_is bytes ty e) in
        subst (Suffix_is bytes) (ok_is _ _ f) (record { rest = w.rest; is = w.is; long = refl; ends = w.ends })
    by_type None e f = by_test (name_goes_on bytes) refl f
      where
        by_test : (t : Bool) → name_goes_on bytes ≡ t → cond t (Err (type_front bytes)) (Ok (record { ty = None; length = 0 })) ≡ Ok s → Suffix_is bytes s
        by_test false n k = subst (Suffix_is bytes) (ok_is _ _ k) (record { rest = bytes; is = refl; long = refl; ends = n })
        by_test true n k = absurd cc

-- ---- numbers

module _ (base : Base) where
  value_is : (n at : ℕ) (cs : List ℕ) (v : ℕ) → n < 2 ^ 64 → number_on base n at cs ≡ Ok v → (v ≡ value_on base n cs) × (v < 2 ^ 64)
  value_is n at [] v l h = let e = ok_is n v h in (sym e, subst (λ z. z < 2 ^ 64) e l)
  value_is n at (c ∷ cs) v l h = by_test (c == 95) (nat_lt (radix base * n + digit_of c) (2 ^ 64)) refl (value_is n (at + 1) cs v l) (value_is (radix base * n + digit_of c) (at + 1) cs v) h
    where
      by_test : (s t : Bool) → nat_lt (radix base * n + digit_of c) (2 ^ 64) ≡ t → (number_on base n (at + 1) cs ≡ Ok v → (v ≡ value_on base n cs) × (v < 2 ^ 64))
          → (radix base * n + digit_of c < 2 ^ 64 → number_on base (radix base * n + digit_of c) (at + 1) cs ≡ Ok v → (v ≡ value_on base (radix base * n + digit_of c) cs) × (v < 2 ^ 64))
          → cond s (number_on base n (at + 1) cs) (cond t (number_on base (radix base * n + digit_of c) (at + 1) cs) (Err at)) ≡ Ok v
          → (v ≡ cond s (value_on base n cs) (value_on base (radix base * n + digit_of c) cs)) × (v < 2 ^ 64)
      by_test true t e f g k = f k
      by_test false true e f g k = g (ltb-true (radix base * n + digit_of c) (2 ^ 64) e) k
      by_test false false e f g k = absurd cc

  front_all : (d : List ℕ) → All_in_number base (take (prefix_len (is_in_number base) d) d)
  front_all [] = tt
  front_all (b ∷ bs) = by_test (is_in_number base b) refl (front_all bs)
    where
      by_test : (t : Bool) → is_in_number base b ≡ t → All_in_number base (take (prefix_len (is_in_number base) bs) bs) → All_in_number base (take (cond t (1 + prefix_len (is_in_number base) bs) 0) (b ∷ bs))
      by_test true e h = let n : suc (prefix_len (is_in_number base) bs) ≡ 1 + prefix_len (is_in_number base) bs = omega arith in subst (λ n. All_in_number base (take n (b ∷ bs))) n (e, h)
      by_test false e h = tt

  some_front : (d : List ℕ) → starts_digit base d ≡ true → 0 < prefix_len (is_in_number base) d
  some_front [] h = absurd cc
  some_front (c ∷ cs) h =
      let e : prefix_len (is_in_number base) (c ∷ cs) ≡ 1 + prefix_len (is_in_number base) cs = ap (λ t. cond (t || c == 95) (1 + prefix_len (is_in_number base) cs) 0) h in
      omega (arith, e)

  starts_so : (n : ℕ) (d : List ℕ) → starts_digit base d ≡ true → 0 < n → starts_digit base (take n d) ≡ true
  starts_so n [] h l = absurd cc
  starts_so zero (c ∷ cs) h l = absurd (omega arith)
  starts_so (suc n) (c ∷ cs) h l = h

  record Number_is (d : List ℕ) (m : Number) : Type 0 where
    pub digits : List ℕ
    pub rest : List ℕ
    pub is : d ≡ digits ++ rest
    pub number : IsNumber base digits
    pub value : m.value ≡ value_on base 0 digits
    pub long : m.length ≡ length digits

  number_is : (at : ℕ) (d : List ℕ) (m : Number) → number_at base at d ≡ Ok m → Number_is d m
  unfolding number_at number_len
  number_is at d m h = by_start (starts_digit base d) refl h
    where
      by_end : (v : ℕ) (t : Bool) → starts_digit base d ≡ true → number_on base 0 at (take (prefix_len (is_in_number base) d) d) ≡ Ok v → ends_in_underscore (take (prefix_len (is_in_number base) d) d) ≡ t
          → cond t (Err (at + prefix_len (is_in_number base) d)) (Ok (record { value = v; length = prefix_len (is_in_number base) d })) ≡ Ok m → Number_is d m
      by_end v true s o e k = absurd cc
      by_end v false s o e k =
          let x = value_is 0 at (take (prefix_len (is_in_number base) d) d) v (omega arith) o in
          subst (Number_is d) (ok_is _ _ k) (record {
            digits = take (prefix_len (is_in_number base) d) d;
            rest = drop (prefix_len (is_in_number base) d) d;
            is = sym (take-append-drop (prefix_len (is_in_number base) d) d);
            number = record {
              starts = starts_so (prefix_len (is_in_number base) d) d s (some_front d s);
              all = front_all d;
              ends = e;
              below = subst (λ z. z < 2 ^ 64) x.0 x.1;
            };
            value = x.0;
            long = sym (length-prefix_len (is_in_number base) d);
          })

      by_value : (r : Result ℕ ℕ) → starts_digit base d ≡ true → number_on base 0 at (take (prefix_len (is_in_number base) d) d) ≡ r
          → number_of at (prefix_len (is_in_number base) d) (take (prefix_len (is_in_number base) d) d) r ≡ Ok m → Number_is d m
      by_value (Ok v) s o k = by_end v (ends_in_underscore (take (prefix_len (is_in_number base) d) d)) s o refl k
      by_value (Err a) s o k = absurd cc

      by_start : (t : Bool) → starts_digit base d ≡ t
          → cond t (number_of at (prefix_len (is_in_number base) d) (take (prefix_len (is_in_number base) d) d) (number_on base 0 at (take (prefix_len (is_in_number base) d) d))) (Err at) ≡ Ok m → Number_is d m
      by_start true s k = by_value (number_on base 0 at (take (prefix_len (is_in_number base) d) d)) s refl k
      by_start false s k = absurd cc

-- ---- integers

base_is : (bytes : List ℕ) → bytes ≡ prefix (base_at bytes) ++ drop (prefix_of (base_at bytes)) bytes
base_is [] = refl
base_is (z ∷ []) = refl
base_is (z ∷ x ∷ bs) = by_test (z == 48 && x == 120) (z == 48 && x == 98) refl refl
  where
    same : (c : ℕ) → z ≡ 48 → x ≡ c → z ∷ x ∷ bs ≡ 48 ∷ c ∷ bs
    same c e f = ap (λ a. a ∷ x ∷ bs) e ∙ ap (λ a. 48 ∷ a ∷ bs) f

    by_test : (s t : Bool) → (z == 48 && x == 120) ≡ s → (z == 48 && x == 98) ≡ t
        → z ∷ x ∷ bs ≡ prefix (cond s Hexadecimal (cond t Binary Decimal)) ++ drop (prefix_of (cond s Hexadecimal (cond t Binary Decimal))) (z ∷ x ∷ bs)
    by_test true t e f = same 120 (eqb-true z 48 (and_left (z == 48) (x == 120) e)) (eqb-true x 120 (and_right (z == 48) (x == 120) e))
    by_test false true e f = same 98 (eqb-true z 48 (and_left (z == 48) (x == 98) f)) (eqb-true x 98 (and_right (z == 48) (x == 98) f))
    by_test false false e f = refl

record Unsigned_is (minus : ℕ) (bytes : List ℕ) (s : Spelled) : Type 0 where
  pub base : Base
  pub digits : List ℕ
  pub named : Option IntType
  pub rest : List ℕ
  pub is : bytes ≡ prefix base ++ (digits ++ (suffix named ++ rest))
  pub number : IsNumber base digits
  pub ends : name_goes_on rest ≡ false
  pub form : s.form ≡ form.Integer (minus == 1) (value_on base 0 digits) named
  pub long : s.length ≡ minus + prefix_of base + length digits + length (suffix named)

unsigned_is : (minus : ℕ) (bytes : List ℕ) (s : Spelled) → unsigned_at minus bytes ≡ Ok s → Unsigned_is minus bytes s
unsigned_is minus bytes s h = by_number (number_at (base_at bytes) (minus + prefix_of (base_at bytes)) (drop (prefix_of (base_at bytes)) bytes)) refl h
  where
    by_suffix : (m : Number) (r : Result Suffix ℕ) → Number_is (base_at bytes) (drop (prefix_of (base_at bytes)) bytes) m → suffix_at (drop m.length (drop (prefix_of (base_at bytes)) bytes)) ≡ r
        → integer_of_suffix minus (minus + prefix_of (base_at bytes) + m.length) m.value r ≡ Ok s → Unsigned_is minus bytes s
    by_suffix m (Ok t) n e k =
        let d = drop (prefix_of (base_at bytes)) bytes in
        let behind : drop m.length d ≡ n.rest = ap (λ z. drop z d) n.long ∙ ap (drop (length n.digits)) n.is ∙ drop-append_seam n.digits n.rest in
        let x = suffix_is (drop m.length d) t e in
        let all : n.rest ≡ suffix t.ty ++ x.rest = sym behind ∙ x.is in
        let l = n.long in
        let o = x.long in
        subst (Unsigned_is minus bytes) (ok_is _ _ k) (record {
          base = base_at bytes;
          digits = n.digits;
          named = t.ty;
          rest = x.rest;
          is = base_is bytes ∙ ap (λ z. prefix (base_at bytes) ++ z) (n.is ∙ ap (λ z. n.digits ++ z) all);
          number = n.number;
          ends = x.ends;
          form = ap (λ v. form.Integer (minus == 1) v t.ty) n.value;
          long = omega (arith, l, o);
        })
    by_suffix m (Err a) n e k = absurd cc

    by_number : (r : Result Number ℕ) → number_at (base_at bytes) (minus + prefix_of (base_at bytes)) (drop (prefix_of (base_at bytes)) bytes) ≡ r
        → integer_of_number minus (minus + prefix_of (base_at bytes)) (drop (prefix_of (base_at bytes)) bytes) r ≡ Ok s → Unsigned_is minus bytes s
    by_number (Ok m) e k = by_suffix m (suffix_at (drop m.length (drop (prefix_of (base_at bytes)) bytes))) (number_is (base_at bytes) (minus + prefix_of (base_at bytes)) (drop (prefix_of (base_at bytes)) bytes) m e) refl k
    by_number (Err a) e k = absurd cc

pub record Integer_is (bytes : List ℕ) (s : Spelled) : Type 0 where
  pub negative : Bool
  pub base : Base
  pub digits : List ℕ
  pub named : Option IntType
  pub rest : List ℕ
  pub is : bytes ≡ sign negative ++ (prefix base ++ (digits ++ (suffix named ++ rest)))
  pub number : IsNumber base digits
  pub ends : name_goes_on rest ≡ false
  pub form : s.form ≡ form.Integer negative (value_on base 0 digits) named
  pub long : s.length ≡ length (sign negative) + prefix_of base + length digits + length (suffix named)

plain : (bytes : List ℕ) (s : Spelled) → Unsigned_is 0 bytes s → Integer_is bytes s
plain bytes s u = record { negative = false; base = u.base; digits = u.digits; named = u.named; rest = u.rest; is = u.is; number = u.number; ends = u.ends; form = u.form; long = u.long }

turned : (bytes : List ℕ) (s : Spelled) → Unsigned_is 1 bytes s → Integer_is (45 ∷ bytes) s
turned bytes s u =
    record { negative = true; base = u.base; digits = u.digits; named = u.named; rest = u.rest; is = ap (λ z. 45 ∷ z) u.is; number = u.number; ends = u.ends; form = u.form; long = u.long }

pub integer_is : (bytes : List ℕ) (s : Spelled) → integer_at bytes ≡ Ok s → Integer_is bytes s
unfolding integer_at
integer_is [] s h = plain [] s (unsigned_is 0 [] s h)
integer_is (b ∷ bs) s h = by_test (b == 45) refl h
  where
    by_test : (t : Bool) → (b == 45) ≡ t → unsigned_at (cond t 1 0) (drop (cond t 1 0) (b ∷ bs)) ≡ Ok s → Integer_is (b ∷ bs) s
    by_test true e k = subst (λ z. Integer_is (z ∷ bs) s) (sym (eqb-true b 45 e)) (turned bs s (unsigned_is 1 bs s k))
    by_test false e k = plain (b ∷ bs) s (unsigned_is 0 (b ∷ bs) s k)

-- ---- values

pub record Value_is (ty : ScalarType) (bytes : List ℕ) (n : ℕ) (value : Scalar) : Type 0 where
  pub word : List ℕ
  pub rest : List ℕ
  pub is : bytes ≡ word ++ rest
  pub spells : Spells ty word value
  pub ends : name_goes_on rest ≡ false
  pub long : n ≡ length word

no_array : (ty : ScalarType) (position : ℕ) (value : Scalar) → value_as ty position form.Array ≡ Ok value → ⊥
no_array (sort.Int ty) position value h = cc
no_array sort.Bool position value h = cc

integer_value : (ty : ScalarType) (position : ℕ) (bytes : List ℕ) (s : Spelled) (value : Scalar) → Integer_is bytes s → value_as ty position s.form ≡ Ok value → Value_is ty bytes s.length value
integer_value ty position bytes s value i h = by_type ty (sym (ap (value_as ty position) i.form) ∙ h)
  where
    word : List ℕ
    word = sign i.negative ++ (prefix i.base ++ (i.digits ++ suffix i.named))

    split : bytes ≡ word ++ i.rest
    split = i.is ∙ sym (integer_word i.negative i.base i.digits i.named i.rest)

    whole : s.length ≡ length word
    whole =
        let a = length-append (sign i.negative) (prefix i.base ++ (i.digits ++ suffix i.named)) in
        let b = length-append (prefix i.base) (i.digits ++ suffix i.named) in
        let c = length-append i.digits (suffix i.named) in
        let l = i.long in
        omega (arith, a, b, c, l, prefix_len_is i.base)

    by_range : (ty : IntType) (r : Option Scalar) → may_be ty i.named ≡ true → value_in ty (signed i.negative (value_on i.base 0 i.digits)) ≡ r → in_range position r ≡ Ok value → Value_is (sort.Int ty) bytes s.length value
    by_range ty (Some v) m e k = record { word = word; rest = i.rest; is = split; spells = integer i.negative i.base i.digits i.named i.number m (e ∙ ap Some (ok_is v value k)); ends = i.ends; long = whole }
    by_range ty None m e k = absurd cc

    by_name : (ty : IntType) (t : Bool) → may_be ty i.named ≡ t → cond t (in_range position (value_in ty (signed i.negative (value_on i.base 0 i.digits)))) (Err (text.WrongType position)) ≡ Ok value → Value_is (sort.Int ty) bytes s.length value
    by_name ty true m k = by_range ty (value_in ty (signed i.negative (value_on i.base 0 i.digits))) m refl k
    by_name ty false m k = absurd cc

    by_type : (ty : ScalarType) → value_as ty position (form.Integer i.negative (value_on i.base 0 i.digits) i.named) ≡ Ok value → Value_is ty bytes s.length value
    by_type (sort.Int ty) k = by_name ty (may_be ty i.named) refl k
    by_type sort.Bool k = absurd cc

truth_is : (ty : ScalarType) (position : ℕ) (b : Bool) (value : Scalar) → value_as ty position (form.Truth b) ≡ Ok value → (ty ≡ sort.Bool) × (value ≡ scalar.Bool b)
truth_is (sort.Int ty) position b value h = absurd cc
truth_is sort.Bool position b value h = (refl, sym (ok_is (scalar.Bool b) value h))

bool_value : (ty : ScalarType) (position : ℕ) (b : Bool) (bytes word : List ℕ) (n : ℕ) (value : Scalar) → Spells sort.Bool word (scalar.Bool b) → (w : Stands bytes word) → n ≡ length word → value_as ty position (form.Truth b) ≡ Ok value → Value_is ty bytes n value
bool_value ty position b bytes word n value s w l h =
    let t = truth_is ty position b value h in
    subst (λ ty. Value_is ty bytes n value) (sym t.0) (subst (Value_is sort.Bool bytes n) (sym t.1) (record { word = word; rest = w.rest; is = w.is; spells = s; ends = w.ends; long = l }))

word_value : (ty : ScalarType) (position : ℕ) (bytes : List ℕ) (s : Spelled) (value : Scalar) → word_at bytes ≡ Ok s → value_as ty position s.form ≡ Ok value → Value_is ty bytes s.length value
unfolding word_at
word_value ty position bytes s value h v = by_true (is_word bytes (codes "true")) refl h
  where
    of_array : (r : Result ℕ ℕ) → empty_array r ≡ Ok s → Value_is ty bytes s.length value
    of_array (Ok n) k = absurd (no_array ty position value (ap (λ z. value_as ty position z.form) (ok_is _ _ k) ∙ v))
    of_array (Err n) k = absurd cc

    by_empty : (t : Bool) → cond t (empty_array (empty_len (drop 5 bytes))) (Err (word_front bytes)) ≡ Ok s → Value_is ty bytes s.length value
    by_empty true k = of_array (empty_len (drop 5 bytes)) k
    by_empty false k = absurd cc

    by_false : (t : Bool) → is_word bytes (codes "false") ≡ t → cond t (Ok (record { form = form.Truth false; length = 5 })) (cond (is_word bytes (codes "empty")) (empty_array (empty_len (drop 5 bytes))) (Err (word_front bytes))) ≡ Ok s → Value_is ty bytes s.length value
    by_false true e k =
        let w = word_is bytes (codes "false") e in
        let o : ◌≡◌ {A = Spelled} (record { form = form.Truth false; length = 5 }) s = ok_is _ _ k in
        bool_value ty position false bytes (codes "false") s.length value falsehood w (sym (ap (λ z. z.length) o)) (ap (λ z. value_as ty position z.form) o ∙ v)
    by_false false e k = by_empty (is_word bytes (codes "empty")) k

    by_true : (t : Bool) → is_word bytes (codes "true") ≡ t
        → cond t (Ok (record { form = form.Truth true; length = 4 })) (cond (is_word bytes (codes "false")) (Ok (record { form = form.Truth false; length = 5 })) (cond (is_word bytes (codes "empty")) (empty_array (empty_len (drop 5 bytes))) (Err (word_front bytes)))) ≡ Ok s
        → Value_is ty bytes s.length value
    by_true true e k =
        let w = word_is bytes (codes "true") e in
        let o : ◌≡◌ {A = Spelled} (record { form = form.Truth true; length = 4 }) s = ok_is _ _ k in
        bool_value ty position true bytes (codes "true") s.length value truth w (sym (ap (λ z. z.length) o)) (ap (λ z. value_as ty position z.form) o ∙ v)
    by_true false e k = by_false (is_word bytes (codes "false")) refl k

pub spelled_value : (ty : ScalarType) (position b : ℕ) (bytes : List ℕ) (s : Spelled) (value : Scalar) → spelled_by b bytes ≡ Ok s → value_as ty position s.form ≡ Ok value → Value_is ty bytes s.length value
spelled_value ty position b bytes s value h v = by_bracket (b == 91) h
  where
    by_digit : (t : Bool) → cond t (integer_at bytes) (word_at bytes) ≡ Ok s → Value_is ty bytes s.length value
    by_digit true k = integer_value ty position bytes s value (integer_is bytes s k) v
    by_digit false k = word_value ty position bytes s value k v

    by_bracket : (t : Bool) → cond t (Ok (record { form = form.Array; length = 1 })) (cond (b == 45 || is_digit b) (integer_at bytes) (word_at bytes)) ≡ Ok s → Value_is ty bytes s.length value
    by_bracket true k = absurd (no_array ty position value (ap (λ z. value_as ty position z.form) (ok_is _ _ k) ∙ v))
    by_bracket false k = by_digit (b == 45 || is_digit b) k

-- ---- the whole text

nothing_more : (position : ℕ) (rest : List ℕ) (values : List Scalar) → nothing_at position rest ≡ Ok values → (rest ≡ []) × (values ≡ [])
nothing_more position [] values h = (refl, sym (ok_is [] values h))
nothing_more position (b ∷ bs) values h = absurd cc

last_is : (position : ℕ) (bytes : List ℕ) (values : List Scalar) → Gapped bytes → nothing_at (position + gap_at bytes) (drop (gap_at bytes) bytes) ≡ Ok values → Text [] bytes values
unfolding gap_at
last_is position bytes values (gapped gap rest e g n) h =
    let there : drop (gap_from false bytes) bytes ≡ rest = ap (λ z. drop z bytes) n ∙ ap (drop (length gap)) e ∙ drop-append_seam gap rest in
    let z = nothing_more (position + gap_from false bytes) (drop (gap_from false bytes) bytes) values h in
    let none : bytes ≡ gap = e ∙ ap (λ r. gap ++ r) (sym there ∙ z.0) ∙ append-nil gap in
    subst (Text [] bytes) (sym z.1) (ended (closed (subst Gap (sym none) g)))
last_is position bytes values (all_gap g n) h =
    let z = nothing_more (position + gap_from false bytes) (drop (gap_from false bytes) bytes) values h in
    subst (Text [] bytes) (sym z.1) (ended g)

module _ (ty : ScalarType) (types : List ScalarType) (others : Reader) (param position : ℕ) (values : List Scalar) (only : (bytes : List ℕ) (values : List Scalar) (param position : ℕ) → others param position bytes ≡ Ok values → Text types bytes values) where
  front_is : (gap : List ℕ) → Gap gap → (b : ℕ) (bs : List ℕ) (s : Spelled) (value : Scalar) → Value_is ty (b ∷ bs) s.length value → with_front value (others (param + 1) (position + s.length) (drop s.length (b ∷ bs))) ≡ Ok values → Text (ty ∷ types) (gap ++ (b ∷ bs)) values
  front_is gap g b bs s value i h = by_others (others (param + 1) (position + s.length) (drop s.length (b ∷ bs))) refl h
    where
      by_others : (r : Values) → others (param + 1) (position + s.length) (drop s.length (b ∷ bs)) ≡ r → with_front value r ≡ Ok values → Text (ty ∷ types) (gap ++ (b ∷ bs)) values
      by_others (Ok more) e k =
          let behind : drop s.length (b ∷ bs) ≡ i.rest = ap (λ z. drop z (b ∷ bs)) i.long ∙ ap (drop (length i.word)) i.is ∙ drop-append_seam i.word i.rest in
          let t = subst (λ z. Text types z more) behind (only (drop s.length (b ∷ bs)) more (param + 1) (position + s.length) e) in
          subst (λ z. Text (ty ∷ types) (gap ++ z) values) (sym i.is) (subst (Text (ty ∷ types) (gap ++ (i.word ++ i.rest))) (ok_is (value ∷ more) values k) (value_and gap i.word i.rest g i.spells i.ends t))
      by_others (Err err) e k = absurd cc

  value_reads : (gap : List ℕ) → Gap gap → (rest : List ℕ) → value_at ty others param position rest ≡ Ok values → Text (ty ∷ types) (gap ++ rest) values
  value_reads gap g [] h = absurd cc
  value_reads gap g (b ∷ bs) h = by_spelled (spelled_at (b ∷ bs)) refl h
    where
      by_value : (s : Spelled) (r : Result Scalar TextErr) → spelled_at (b ∷ bs) ≡ Ok s → value_as ty position s.form ≡ r → with_value r (λ value. with_front value (others (param + 1) (position + s.length) (drop s.length (b ∷ bs)))) ≡ Ok values → Text (ty ∷ types) (gap ++ (b ∷ bs)) values
      by_value s (Ok value) e v k = front_is gap g b bs s value (spelled_value ty position b (b ∷ bs) s value e v) k
      by_value s (Err err) e v k = absurd cc

      by_spelled : (r : Result Spelled ℕ) → spelled_at (b ∷ bs) ≡ r
          → with_spelled position r (λ s. with_value (value_as ty position s.form) (λ value. with_front value (others (param + 1) (position + s.length) (drop s.length (b ∷ bs))))) ≡ Ok values → Text (ty ∷ types) (gap ++ (b ∷ bs)) values
      by_spelled (Ok s) e k = by_value s (value_as ty position s.form) e refl k
      by_spelled (Err a) e k = absurd cc

value_missing : (ty : ScalarType) (others : Reader) (param position : ℕ) (values : List Scalar) (rest : List ℕ) → rest ≡ [] → value_at ty others param position rest ≡ Ok values → ⊥
value_missing ty others param position values [] e h = cc
value_missing ty others param position values (b ∷ bs) e h = absurd cc

first_is : (ty : ScalarType) (types : List ScalarType) (param position : ℕ) (bytes : List ℕ) (values : List Scalar) → ((bytes : List ℕ) (values : List Scalar) (param position : ℕ) → values_on types param position bytes ≡ Ok values → Text types bytes values)
    → Gapped bytes → value_at ty (values_on types) param (position + gap_at bytes) (drop (gap_at bytes) bytes) ≡ Ok values → Text (ty ∷ types) bytes values
unfolding gap_at
first_is ty types param position bytes values only (gapped gap rest e g n) h =
    let there : drop (gap_from false bytes) bytes ≡ rest = ap (λ z. drop z bytes) n ∙ ap (drop (length gap)) e ∙ drop-append_seam gap rest in
    subst (λ z. Text (ty ∷ types) z values) (sym e) (value_reads ty types (values_on types) param (position + gap_from false bytes) values only gap g rest (sym (ap (value_at ty (values_on types) param (position + gap_from false bytes)) there) ∙ h))
first_is ty types param position bytes values only (all_gap g n) h =
    absurd (value_missing ty (values_on types) param (position + gap_from false bytes) values (drop (gap_from false bytes) bytes) (drop_all (gap_from false bytes) bytes (omega (arith, n))) h)

text_is : (types : List ScalarType) (bytes : List ℕ) (values : List Scalar) (param position : ℕ) → values_on types param position bytes ≡ Ok values → Text types bytes values
text_is [] bytes values param position h = last_is position bytes values (outside bytes) h
text_is (ty ∷ types) bytes values param position h = first_is ty types param position bytes values (text_is types) (outside bytes) h

pub only_texts_are_read : OnlyTextsAreRead
only_texts_are_read types bytes values h = text_is types bytes values 1 0 h
