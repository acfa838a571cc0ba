-- What is read as scalars and arrays is a text of the grammar.
use Rattle.std.proofs.Common.{◌≡◌, ◌+◌, ◌<◌, ◌≤◌, ℕ, zero, suc, List, [], ◌∷◌, ◌++◌, length, length-drop, take, drop, arith, refl, sym, ap, ◌∙◌, subst, append_assoc, append-nil, length-append, eqb-true, ltb-true}
use Rattle.std.specs.Prelude.{Bool, true, false, cond, max, min, nat_lt, ◌==◌, Option, Some, None, Result, Ok, Err, codes}
use Rattle.std.specs.List.{prefix_len}
use Rattle.std.proofs.Math.Seq.{take-append_seam, drop-append_seam}
use Rattle.std.proofs.lemmas.Bool.{eqb-false}
use Rattle.std.proofs.lemmas.List.{drop-drop, length-take-le, take-append-drop}
use Rattle.std.proofs.lemmas.List.Sums.{prefix_len-le-length}
use Rattle.fut_scalar.specs.declared.scalar.IntType.{IntType}
use Rattle.fut_scalar.specs.declared.scalar.IntType.TheVariants.{I8, I16, I32, I64, U8, U16, U32, U64}
use Rattle.fut_scalar.specs.declared.scalar.Scalar.{Scalar}
use Rattle.fut_scalar.specs.declared.scalar.ScalarType.{ScalarType}
use Rattle.fut_scalar.specs.declared.scalar.ScalarType.TheVariants as sort
use Rattle.fut_scalar.specs.declared.sizes.ArgType.{ArgType}
use Rattle.fut_value.specs.Values.{greatest_weight, weight_of}
use Rattle.fut_value.specs.declared.value.Value.{Value}
use Rattle.value_text.specs.Arguments.{Reader, Reads, Values, in_agreement, nothing_at, value_at, value_of, values_on, with_front}
use Rattle.value_text.specs.Arrays.{Read, Rows as Rows_so_far, Rows_reader, and_then, behind_row, counted, no_row, no_rows, other_than_rows, read_at, row_and, rows_at, rows_up_to, scalar_as, scalar_read, spelled_scalar}
use Rattle.value_text.specs.Claims.{OnlyArgumentsAreRead}
use Rattle.value_text.specs.Empties.{and_behind, digit_len, digits, dimension, dimensions, dimensions_up_to, empty_len, ending, mark, name_or_bool, scalar_at, scalar_name, shift, size, then_part}
use Rattle.value_text.specs.Gaps.{begins_with, gap_at, gap_from}
use Rattle.value_text.specs.Grammar.{Gap, closed}
use Rattle.value_text.specs.Numbers.{value_on}
use Rattle.value_text.specs.Printing.{type_text}
use Rattle.value_text.specs.Reading.{may_be, type_number, value_as}
use Rattle.value_text.specs.Sizes.{Known, values_for}
use Rattle.value_text.specs.Spelled.{spelled_at}
use Rattle.value_text.specs.Values.{All_digits, Brackets, no_bracket, bracket_and, Spells_empty, Rows, last_row, row_and as rows_and, rows, no_rows as none_there, empty, Spells_value, Ends, Spelled_all, ended, value_and}
use Rattle.value_text.specs.Words.{common, is_digit, is_word, name_of, type_at, type_front}
use Rattle.value_text.specs.Written.{Dimensions, digits_from, dimension_from, dimensions_in, first_beyond, has_zero, if_dimension, is_int, names_type, size_at, size_limit, sizes_of, with_dimension, written}
use Rattle.value_text.specs.declared.numbers.Base.TheVariants.{Decimal}
use Rattle.value_text.specs.declared.reading.TextErr.{TextErr}
use Rattle.value_text.specs.declared.reading.TextErr.TheVariants as text
use Rattle.value_text.specs.declared.spelled.Spelled.{Spelled}
use Rattle.value_text.proofs.Emptied.{both_are, empty_is, mark_is}
use Rattle.value_text.proofs.Formed.{Are_read, are_read, both, counted_is, other_is, read_is}
use Rattle.value_text.proofs.Sound.{Gapped, gapped, all_gap, ok_is, outside, spelled_value, type_is, word_is}
use Rattle.value_text.proofs.Spelt.{length_is, one_bracket, row_bytes, some_bytes, two_drops, empty_bytes, empty_length}

zero_plus : (n : ℕ) → 0 + n ≡ n
zero_plus n = omega arith

-- ---- blanks, and what is behind them

record Fronted (bytes : List ℕ) : Type 0 where
  gap : List ℕ
  rest : List ℕ
  is : bytes ≡ gap ++ rest
  blanks : Gap gap
  long : gap_at bytes ≡ length gap
  there : drop (gap_at bytes) bytes ≡ rest

fronted : (bytes : List ℕ) → 0 < length (drop (gap_at bytes) bytes) → Fronted bytes
unfolding gap_at
fronted bytes some = by_gapped (outside bytes)
  where
    by_gapped : Gapped bytes → Fronted bytes
    by_gapped (gapped gap rest e g n) = record { gap = gap; rest = rest; is = e; blanks = g; long = n; there = ap (λ z. drop z bytes) n ∙ ap (drop (length gap)) e ∙ drop-append_seam gap rest }
    by_gapped (all_gap g n) = absurd (let l = length-drop (gap_from false bytes) bytes in omega (arith, l, n, some))

stands : (c : ℕ) (bytes : List ℕ) → begins_with c bytes ≡ true → 0 < length bytes
stands c [] h = absurd cc
stands c (b ∷ bs) h = omega arith

begins_is : (c : ℕ) (bytes : List ℕ) → begins_with c bytes ≡ true → bytes ≡ c ∷ drop 1 bytes
begins_is c [] h = absurd cc
begins_is c (b ∷ bs) h = ap (λ x. x ∷ bs) (eqb-true b c h)

record Marked (c : ℕ) (bytes : List ℕ) : Type 0 where
  gap : List ℕ
  rest : List ℕ
  is : bytes ≡ gap ++ c ∷ rest
  blanks : Gap gap
  long : gap_at bytes ≡ length gap
  behind : drop (gap_at bytes + 1) bytes ≡ rest

marked : (c : ℕ) (bytes : List ℕ) → begins_with c (drop (gap_at bytes) bytes) ≡ true → Marked c bytes
marked c bytes h =
    let f = fronted bytes (stands c (drop (gap_at bytes) bytes) h) in
    let e = begins_is c f.rest (sym (ap (begins_with c) f.there) ∙ h) in
    record { gap = f.gap; rest = drop 1 f.rest; is = f.is ∙ ap (λ r. f.gap ++ r) e; blanks = f.blanks; long = f.long; behind = two_drops (gap_at bytes) 1 bytes f.rest (drop 1 f.rest) f.there refl }

-- ---- digits

take_digits : (xs : List ℕ) → All_digits (take (prefix_len is_digit xs) xs)
take_digits [] = tt
take_digits (x ∷ xs) = by_test (is_digit x) refl (take_digits xs)
  where
    by_test : (t : Bool) → is_digit x ≡ t → All_digits (take (prefix_len is_digit xs) xs) → All_digits (take (cond t (1 + prefix_len is_digit xs) 0) (x ∷ xs))
    by_test true e f = let one : suc (prefix_len is_digit xs) ≡ 1 + prefix_len is_digit xs = omega arith in subst (λ n. All_digits (take n (x ∷ xs))) one (e, f)
    by_test false e f = tt

record Digits_are (bytes : List ℕ) (n : ℕ) : Type 0 where
  gap : List ℕ
  ds : List ℕ
  rest : List ℕ
  is : bytes ≡ gap ++ (ds ++ rest)
  blanks : Gap gap
  some : 0 < length ds
  all : All_digits ds
  long : n ≡ length gap + length ds
  behind : drop n bytes ≡ rest
  front : drop (gap_at bytes) bytes ≡ ds ++ rest
  run : digit_len (ds ++ rest) ≡ length ds

digits_are : (bytes : List ℕ) (n : ℕ) → digits bytes ≡ Ok n → Digits_are bytes n
unfolding digits digit_len
digits_are bytes n h = by_some (prefix_len is_digit front == 0) refl h
  where
    front : List ℕ
    front = drop (gap_at bytes) bytes

    by_some : (t : Bool) → (prefix_len is_digit front == 0) ≡ t → cond t (Err (gap_at bytes)) (Ok (gap_at bytes + prefix_len is_digit front)) ≡ Ok n → Digits_are bytes n
    by_some true e k = absurd cc
    by_some false e k =
        let apart = eqb-false (prefix_len is_digit front) 0 e in
        let within = prefix_len-le-length is_digit front in
        let f = fronted bytes (omega (arith, apart, within)) in
        let run = prefix_len is_digit front in
        let ds = take run front in
        let rest = drop run front in
        let split : ds ++ rest ≡ front = take-append-drop run front in
        let long : length ds ≡ run = length-take-le run front within in
        record {
          gap = f.gap;
          ds = ds;
          rest = rest;
          is = f.is ∙ ap (λ r. f.gap ++ r) (sym f.there ∙ sym split);
          blanks = f.blanks;
          some = omega (arith, long, apart);
          all = take_digits front;
          long = sym (ok_is (gap_at bytes + run) n k) ∙ (let l = f.long in omega (arith, l, long));
          behind = ap (λ m. drop m bytes) (sym (ok_is (gap_at bytes + run) n k)) ∙ two_drops (gap_at bytes) run bytes front rest refl refl;
          front = sym split;
          run = ap (prefix_len is_digit) split ∙ sym long;
        }

-- ---- a dimension

record Bracket_is (bytes : List ℕ) (k : ℕ) : Type 0 where
  before : List ℕ
  inside : List ℕ
  ds : List ℕ
  behind : List ℕ
  rest : List ℕ
  is : bytes ≡ before ++ (91 ∷ (inside ++ (ds ++ (behind ++ 93 ∷ rest))))
  before_gap : Gap before
  inside_gap : Gap inside
  behind_gap : Gap behind
  some : 0 < length ds
  all : All_digits ds
  long : k ≡ length before + 1 + (length inside + length ds + (length behind + 1))
  there : drop k bytes ≡ rest
  size : size_at (drop (digits_from bytes) bytes) ≡ min (value_on Decimal 0 ds) size_limit
  opens : begins_with 91 (drop (gap_at bytes) bytes) ≡ true

bracket_is : (bytes : List ℕ) (k : ℕ) → dimension bytes ≡ Ok k → Bracket_is bytes k
unfolding dimension size_at digits_from
bracket_is bytes k h =
    let b1 = both_are (mark 91) size bytes k h in
    let m1 = mark_is 91 bytes b1.m b1.front in
    let o = marked 91 bytes m1.0 in
    let mid : drop b1.m bytes ≡ o.rest = ap (λ m. drop m bytes) m1.1 ∙ o.behind in
    let b2 = both_are digits (mark 93) (drop b1.m bytes) b1.k b1.behind in
    let d = digits_are (drop b1.m bytes) b2.m b2.front in
    let m2 = mark_is 93 (drop b2.m (drop b1.m bytes)) b2.k b2.behind in
    let c = marked 93 (drop b2.m (drop b1.m bytes)) m2.0 in
    let x = o.long in
    let y = d.long in
    let z = c.long in
    let u = m1.1 in
    let v = m2.1 in
    let s = b1.sum in
    let t = b2.sum in
    let digits_at : drop (gap_at bytes + 1 + gap_at (drop (gap_at bytes + 1) bytes)) bytes ≡ d.ds ++ d.rest =
    two_drops (gap_at bytes + 1) (gap_at (drop (gap_at bytes + 1) bytes)) bytes (drop b1.m bytes) (d.ds ++ d.rest) (ap (λ m. drop m bytes) (sym m1.1)) (ap (λ b. drop (gap_at b) (drop b1.m bytes)) (ap (λ m. drop m bytes) (sym m1.1)) ∙ d.front) in
    record {
      before = o.gap;
      inside = d.gap;
      ds = d.ds;
      behind = c.gap;
      rest = c.rest;
      is = o.is ∙ ap (λ r. o.gap ++ (91 ∷ r)) (sym mid ∙ d.is ∙ ap (λ r. d.gap ++ (d.ds ++ r)) (sym d.behind ∙ c.is));
      before_gap = o.blanks;
      inside_gap = d.blanks;
      behind_gap = c.blanks;
      some = d.some;
      all = d.all;
      long = omega (arith, x, y, z, u, v, s, t);
      there = ap (λ m. drop m bytes) s ∙ two_drops b1.m b1.k bytes (drop b1.m bytes) c.rest refl
          (ap (λ m. drop m (drop b1.m bytes)) t ∙ two_drops b2.m b2.k (drop b1.m bytes) (drop b2.m (drop b1.m bytes)) c.rest refl (ap (λ m. drop m (drop b2.m (drop b1.m bytes))) m2.1 ∙ c.behind));
      size = ap (λ b. min (value_on Decimal 0 (take (digit_len b) b)) size_limit) digits_at ∙ ap (λ n. min (value_on Decimal 0 (take n (d.ds ++ d.rest))) size_limit) d.run ∙ ap (λ b. min (value_on Decimal 0 b) size_limit) (take-append_seam d.ds d.rest);
      opens = m1.0;
    }

-- ---- dimensions

record Brackets_are (offset : ℕ) (bytes : List ℕ) (dims : Dimensions) : Type 0 where
  front : List ℕ
  rest : List ℕ
  is : bytes ≡ front ++ rest
  sized : Brackets (sizes_of dims.all) front
  end : dims.end ≡ offset + length front

small : (s v : ℕ) → s ≡ min v size_limit → s < size_limit → v ≡ s
small s v e l = omega (arith, e, l)

brackets_are : (n offset : ℕ) (bytes : List ℕ) → first_beyond (dimensions_in n offset bytes).all ≡ None → Brackets_are offset bytes (dimensions_in n offset bytes)
brackets_are zero offset bytes h = record { front = []; rest = bytes; is = refl; sized = no_bracket; end = omega arith }
brackets_are (suc n) offset bytes h = by_dimension (dimension bytes) refl (λ k. brackets_are n (offset + k) (drop k bytes)) h
  where
    none_here : Brackets_are offset bytes (record { all = []; end = offset })
    none_here = record { front = []; rest = bytes; is = refl; sized = no_bracket; end = omega arith }

    one_here : (k : ℕ) → Bracket_is bytes k → size_at (drop (digits_from bytes) bytes) < size_limit → Brackets_are (offset + k) (drop k bytes) (dimensions_in n (offset + k) (drop k bytes))
        → Brackets_are offset bytes (with_dimension (dimension_from offset bytes) (dimensions_in n (offset + k) (drop k bytes)))
    one_here k d less more =
        let l = length_is d.before d.inside d.ds d.behind more.front in
        let x = d.long in
        let y = more.end in
        record {
          front = d.before ++ (91 ∷ (d.inside ++ (d.ds ++ (d.behind ++ 93 ∷ more.front))));
          rest = more.rest;
          is = d.is ∙ ap (λ r. d.before ++ (91 ∷ (d.inside ++ (d.ds ++ (d.behind ++ 93 ∷ r))))) (sym d.there ∙ more.is) ∙ sym (one_bracket d.before d.inside d.ds d.behind more.front more.rest);
          sized = bracket_and d.before d.inside d.ds d.behind more.front d.before_gap d.inside_gap d.some d.all (small (size_at (drop (digits_from bytes) bytes)) (value_on Decimal 0 d.ds) d.size less) less d.behind_gap more.sized;
          end = omega (arith, l, x, y);
        }

    by_limit : (k : ℕ) (t : Bool) → Bracket_is bytes k → nat_lt (size_at (drop (digits_from bytes) bytes)) size_limit ≡ t → (first_beyond (dimensions_in n (offset + k) (drop k bytes)).all ≡ None → Brackets_are (offset + k) (drop k bytes) (dimensions_in n (offset + k) (drop k bytes)))
        → cond t (first_beyond (dimensions_in n (offset + k) (drop k bytes)).all) (Some (offset + digits_from bytes)) ≡ None → Brackets_are offset bytes (with_dimension (dimension_from offset bytes) (dimensions_in n (offset + k) (drop k bytes)))
    by_limit k true d e f g = one_here k d (ltb-true (size_at (drop (digits_from bytes) bytes)) size_limit e) (f g)
    by_limit k false d e f g = absurd cc

    by_dimension : (r : Result ℕ ℕ) → dimension bytes ≡ r → ((k : ℕ) → first_beyond (dimensions_in n (offset + k) (drop k bytes)).all ≡ None → Brackets_are (offset + k) (drop k bytes) (dimensions_in n (offset + k) (drop k bytes)))
        → first_beyond (if_dimension offset r (λ k. with_dimension (dimension_from offset bytes) (dimensions_in n (offset + k) (drop k bytes)))).all ≡ None
        → Brackets_are offset bytes (if_dimension offset r (λ k. with_dimension (dimension_from offset bytes) (dimensions_in n (offset + k) (drop k bytes))))
    by_dimension (Ok k) e f g = by_limit k (nat_lt (size_at (drop (digits_from bytes) bytes)) size_limit) (bracket_is bytes k e) refl (f k) g
    by_dimension (Err k) e f g = none_here

none_up_to : (f : ℕ) (bytes : List ℕ) (k at : ℕ) → dimension bytes ≡ Err at → dimensions_up_to f bytes ≡ Ok k → k ≡ 0
none_up_to zero bytes k at e h = sym (ok_is 0 k h)
none_up_to (suc f) bytes k at e h = by_open (begins_with 91 (drop (gap_at bytes) bytes)) h
  where
    by_open : (t : Bool) → cond t (then_part dimension (dimensions_up_to f) bytes) (Ok 0) ≡ Ok k → k ≡ 0
    by_open true g = absurd (let z : Err at ≡ Ok k = sym (ap (λ r. and_behind r (λ n. dimensions_up_to f (drop n bytes))) e) ∙ g in cc)
    by_open false g = sym (ok_is 0 k g)

-- the dimensions that are told end where those that are read end
ends_same : (n offset : ℕ) (bytes : List ℕ) (f k : ℕ) → dimensions_up_to f bytes ≡ Ok k → length bytes ≤ f → length bytes ≤ n → (dimensions_in n offset bytes).end ≡ offset + k
ends_same zero offset bytes f k h l m = by_dimension (dimension bytes) refl
  where
    by_dimension : (r : Result ℕ ℕ) → dimension bytes ≡ r → offset ≡ offset + k
    by_dimension (Err at) e = let z = none_up_to f bytes k at e h in omega (arith, z)
    by_dimension (Ok j) e =
        let d = bracket_is bytes j e in
        let x = length-append d.before (91 ∷ (d.inside ++ (d.ds ++ (d.behind ++ 93 ∷ d.rest)))) in
        let y = ap length d.is in
        absurd (omega (arith, x, y, m))
ends_same (suc n) offset bytes f k h l m = by_dimension (dimension bytes) refl (λ j g q more less. ends_same n (offset + j) (drop j bytes) g q more less)
  where
    by_dimension : (r : Result ℕ ℕ) → dimension bytes ≡ r → ((j g q : ℕ) → dimensions_up_to g (drop j bytes) ≡ Ok q → length (drop j bytes) ≤ g → length (drop j bytes) ≤ n → (dimensions_in n (offset + j) (drop j bytes)).end ≡ offset + j + q)
        → (if_dimension offset r (λ k. with_dimension (dimension_from offset bytes) (dimensions_in n (offset + k) (drop k bytes)))).end ≡ offset + k
    by_dimension (Err at) e ih = let z = none_up_to f bytes k at e h in omega (arith, z)
    by_dimension (Ok j) e ih = by_fuel f h l
      where
        d : Bracket_is bytes j
        d = bracket_is bytes j e

        some : 1 ≤ j
        some = let x = d.long in omega (arith, x)

        fewer : length (drop j bytes) + 1 ≤ length bytes
        fewer =
            let x = length-append d.before (91 ∷ (d.inside ++ (d.ds ++ (d.behind ++ 93 ∷ d.rest)))) in
            let y = ap length d.is in
            let z = length-drop j bytes in
            let s = some in
            omega (arith, x, y, z, s)

        by_fuel : (f : ℕ) → dimensions_up_to f bytes ≡ Ok k → length bytes ≤ f → (dimensions_in n (offset + j) (drop j bytes)).end ≡ offset + k
        by_fuel zero g q = absurd (let x = fewer in omega (arith, q, x))
        by_fuel (suc f) g q =
            let b = both_are dimension (dimensions_up_to f) bytes k (sym (ap (λ t. cond t (then_part dimension (dimensions_up_to f) bytes) (Ok 0)) d.opens) ∙ g) in
            let same : b.m ≡ j = ok_is b.m j (sym b.front ∙ e) in
            let x = fewer in
            let y = b.sum in
            let more = ih j f b.k (ap (λ i. dimensions_up_to f (drop i bytes)) (sym same) ∙ b.behind) (omega (arith, x, q)) (omega (arith, x, m)) in
            more ∙ omega (arith, y, same)

-- ---- the name of a type

number_type : ℕ → IntType
number_type n = cond (n == 0) I8 (cond (n == 1) I16 (cond (n == 2) I32 (cond (n == 3) I64 (cond (n == 4) U8 (cond (n == 5) U16 (cond (n == 6) U32 U64))))))

type_back : (ty : IntType) → number_type (type_number ty) ≡ ty
unfolding number_type
type_back I8 = refl
type_back I16 = refl
type_back I32 = refl
type_back I64 = refl
type_back U8 = refl
type_back U16 = refl
type_back U32 = refl
type_back U64 = refl

same_type : (ty named : IntType) → may_be ty (Some named) ≡ true → ty ≡ named
same_type ty named h = sym (type_back ty) ∙ ap number_type (eqb-true (type_number ty) (type_number named) h) ∙ type_back named

int_named : (ty : IntType) (bytes : List ℕ) (named : Option IntType) → type_at bytes ≡ named → is_int ty named ≡ true → type_at bytes ≡ Some ty
int_named ty bytes None e h = absurd cc
int_named ty bytes (Some named) e h = e ∙ ap Some (sym (same_type ty named h))

record Named (ty : ScalarType) (bytes : List ℕ) : Type 0 where
  rest : List ℕ
  is : bytes ≡ type_text ty ++ rest
  long : scalar_at bytes ≡ Ok (length (type_text ty))

bool_at : (rest : List ℕ) → is_word (codes "bool" ++ rest) (codes "bool") ≡ true → scalar_at (codes "bool" ++ rest) ≡ Ok 4
unfolding scalar_at type_at is_word
bool_at rest h = ap (λ t. cond t (Ok 4) (Err (max (type_front (codes "bool" ++ rest)) (common (codes "bool" ++ rest) (codes "bool"))))) h

named_is : (ty : ScalarType) (bytes : List ℕ) → names_type ty bytes ≡ true → Named ty bytes
unfolding names_type scalar_at
named_is (sort.Int ty) bytes h =
    let t = int_named ty bytes (type_at bytes) refl h in
    let w = word_is bytes (name_of ty) (type_is bytes ty t) in
    record { rest = w.rest; is = w.is; long = ap (λ o. name_or_bool o bytes) t }
named_is sort.Bool bytes h =
    let w = word_is bytes (codes "bool") h in
    record { rest = w.rest; is = w.is; long = ap scalar_at w.is ∙ bool_at w.rest (ap (λ b. is_word b (codes "bool")) (sym w.is) ∙ h) }

-- ---- values

-- a value that was read, as it is spelled
record Value_spelled (ty : ScalarType) (bytes : List ℕ) (read : Read) : Type 0 where
  word : List ℕ
  rest : List ℕ
  is : bytes ≡ word ++ rest
  spells : Spells_value ty read.sizes read.words word
  ends : Ends read.sizes rest
  long : read.length ≡ length word

scalar_spelled : (ty : ScalarType) (position : ℕ) (bytes : List ℕ) (read : Read) → spelled_scalar ty position bytes ≡ Ok read → Value_spelled ty bytes read
unfolding spelled_scalar
scalar_spelled ty position [] read h = absurd cc
scalar_spelled ty position (b ∷ bs) read h = by_spelled (spelled_at (b ∷ bs)) refl h
  where
    by_value : (s : Spelled) (r : Result Scalar TextErr) → spelled_at (b ∷ bs) ≡ Ok s → value_as ty position s.form ≡ r → scalar_read s.length r ≡ Ok read → Value_spelled ty (b ∷ bs) read
    by_value s (Ok value) e f k =
        let v = spelled_value ty position b (b ∷ bs) s value e f in
        subst (Value_spelled ty (b ∷ bs)) (ok_is _ read k) (record { word = v.word; rest = v.rest; is = v.is; spells = record { value = value; spells = v.spells; is = refl }; ends = v.ends; long = v.long })
    by_value s (Err err) e f k = absurd cc

    by_spelled : (r : Result Spelled ℕ) → spelled_at (b ∷ bs) ≡ r → scalar_as ty position r ≡ Ok read → Value_spelled ty (b ∷ bs) read
    by_spelled (Ok s) e k = by_value s (value_as ty position s.form) e refl k
    by_spelled (Err offset) e k = absurd cc

-- ---- empty arrays

empty_value : (ty : ScalarType) (ns word : List ℕ) → Spells_empty ty ns word → Spells_value ty ns [] word
empty_value ty [] word s = absurd (let z = s.zero in cc)
empty_value ty (n ∷ ns) word s = empty s refl

empty_ends : (ns rest : List ℕ) → has_zero ns ≡ true → Ends ns rest
empty_ends [] rest z = absurd cc
empty_ends (n ∷ ns) rest z = tt

name_some : (ty : ScalarType) (rest : List ℕ) → 0 < length (type_text ty ++ rest)
name_some (sort.Int I8) rest = omega arith
name_some (sort.Int I16) rest = omega arith
name_some (sort.Int I32) rest = omega arith
name_some (sort.Int I64) rest = omega arith
name_some (sort.Int U8) rest = omega arith
name_some (sort.Int U16) rest = omega arith
name_some (sort.Int U32) rest = omega arith
name_some (sort.Int U64) rest = omega arith
name_some sort.Bool rest = omega arith

-- where the name of the type begins
ends_at : (bytes : List ℕ) (m k : ℕ) → dimension bytes ≡ Ok m → dimensions_up_to (length (drop m bytes)) (drop m bytes) ≡ Ok k → (dimensions_in (length bytes) 0 bytes).end ≡ m + k
ends_at bytes m k e h = by_length (length bytes) refl
  where
    by_length : (n : ℕ) → length bytes ≡ n → (dimensions_in n 0 bytes).end ≡ m + k
    by_length zero l =
        let d = bracket_is bytes m e in
        let x = length-append d.before (91 ∷ (d.inside ++ (d.ds ++ (d.behind ++ 93 ∷ d.rest)))) in
        let y = ap length d.is in
        absurd (omega (arith, x, y, l))
    by_length (suc n) l =
        let d = bracket_is bytes m e in
        let w = d.long in
        let z = length-drop m bytes in
        ap (λ r. (if_dimension 0 r (λ k. with_dimension (dimension_from 0 bytes) (dimensions_in n (0 + k) (drop k bytes)))).end) e
        ∙ ends_same n (0 + m) (drop m bytes) (length (drop m bytes)) k h (omega arith) (omega (arith, l, w, z)) ∙ omega arith

empty_spelled : (ty : ScalarType) (rank position : ℕ) (bytes : List ℕ) (read : Read) → begins_with 91 bytes ≡ false → other_than_rows ty rank position bytes ≡ Ok read → Value_spelled ty bytes read
unfolding empty_len written dimensions scalar_name
empty_spelled ty rank position bytes read no_open h =
    let o = other_is ty rank position bytes read h in
    let i = empty_is bytes o.spelled o.is o.array no_open in
    let st = word_is bytes (codes "empty") i.word in
    let X = drop 5 bytes in
    let rest_is : X ≡ st.rest = ap (drop 5) st.is in
    let b1 = both_are (mark 40) (then_part dimension (then_part dimensions ending)) X i.n i.spelled in
    let m1 = mark_is 40 X b1.m b1.front in
    let op = marked 40 X m1.0 in
    let B = drop (gap_at X + 1) X in
    let b2 = both_are dimension (then_part dimensions ending) B b1.k (ap (λ m. then_part dimension (then_part dimensions ending) (drop m X)) (sym m1.1) ∙ b1.behind) in
    let b3 = both_are dimensions ending (drop b2.m B) b2.k b2.behind in
    let T = drop b3.m (drop b2.m B) in
    let b4 = both_are scalar_name (mark 41) T b3.k b3.behind in
    let m4 = mark_is 41 (drop b4.m T) b4.k b4.behind in
    let cl = marked 41 (drop b4.m T) m4.0 in
    let s = o.sized in
    let brs = brackets_are (length B) 0 B s.within in
    let end_is = ends_at B b2.m b3.m b2.front b3.front in
    let tail : drop (dimensions_in (length B) 0 B).end B ≡ T = ap (λ m. drop m B) end_is ∙ two_drops b2.m b3.m B (drop b2.m B) T refl refl in
    let left : brs.rest ≡ T = sym (ap (λ m. drop m B) (brs.end ∙ zero_plus (length brs.front)) ∙ ap (drop (length brs.front)) brs.is ∙ drop-append_seam brs.front brs.rest) ∙ tail in
    let nm = named_is ty (drop (gap_at T) T) (ap (λ t. names_type ty (drop (gap_at t) t)) (sym tail) ∙ s.names) in
    let ft = fronted T (subst (λ b. 0 < length b) (sym nm.is) (name_some ty nm.rest)) in
    let name_long : b4.m ≡ gap_at T + length (type_text ty) = sym (ok_is (gap_at T + length (type_text ty)) b4.m (sym (ap (shift (gap_at T)) nm.long) ∙ b4.front)) in
    let name_rest : drop b4.m T ≡ nm.rest = ap (λ m. drop m T) name_long ∙ two_drops (gap_at T) (length (type_text ty)) T (type_text ty ++ nm.rest) nm.rest nm.is (drop-append_seam (type_text ty) nm.rest) in
    let word = codes "empty" ++ (op.gap ++ (40 ∷ (brs.front ++ (ft.gap ++ (type_text ty ++ (cl.gap ++ 41 ∷ [])))))) in
    let e1 = i.sum in
    let e2 = b1.sum in
    let e3 = b2.sum in
    let e4 = b3.sum in
    let e5 = b4.sum in
    let e6 = m1.1 in
    let e7 = m4.1 in
    let e8 = op.long in
    let e9 = cl.long in
    let e10 = brs.end in
    let e11 = ft.long in
    let e12 = empty_length (type_text ty) op.gap brs.front ft.gap cl.gap in
    subst (Value_spelled ty bytes) s.read_is (record {
      word = word;
      rest = cl.rest;
      is = st.is
          ∙ ap (λ z. codes "empty" ++ z) (sym rest_is ∙ op.is ∙ ap (λ z. op.gap ++ (40 ∷ z)) (sym op.behind ∙ brs.is ∙ ap (λ z. brs.front ++ z) (left ∙ ft.is ∙ ap (λ z. ft.gap ++ z) (sym ft.there ∙ nm.is ∙ ap (λ z. type_text ty ++ z) (sym name_rest ∙ cl.is)))))
          ∙ sym (empty_bytes (type_text ty) op.gap brs.front ft.gap cl.gap cl.rest);
      spells = empty_value ty (sizes_of (dimensions_in (length B) 0 B).all) word (record {
        opening = op.gap;
        brackets = brs.front;
        before = ft.gap;
        behind = cl.gap;
        is = refl;
        opening_gap = op.blanks;
        sized = brs.sized;
        before_gap = ft.blanks;
        behind_gap = cl.blanks;
        zero = s.zero;
        light = s.light;
      });
      ends = empty_ends (sizes_of (dimensions_in (length B) 0 B).all) cl.rest s.zero;
      long = omega (arith, e1, e2, e3, e4, e5, e6, e7, e8, e9, e10, e11, e12, end_is, name_long);
    })

-- ---- rows

record Rows_spelled (ty : ScalarType) (rows_before : Rows_so_far) (before : ℕ) (bytes : List ℕ) (read : Read) : Type 0 where
  ns : List ℕ
  ws : List ℕ
  body : List ℕ
  rest : List ℕ
  total : ℕ
  is : bytes ≡ body ++ rest
  spells : Rows (Spells_value ty ns) total ws body
  sizes_are : read.sizes ≡ (rows_before.count + total) ∷ ns
  words_are : read.words ≡ rows_before.words ++ ws
  long : read.length ≡ before + length body
  first_is : (rows_before.count ≡ 0 → ⊥) → rows_before.sizes ≡ ns
  light : weight_of ((rows_before.count + total) ∷ ns) ≤ greatest_weight

module _ (ty : ScalarType) (rank : ℕ) (each : (position : ℕ) (bytes : List ℕ) (read : Read) → read_at ty rank position bytes ≡ Ok read → Value_spelled ty bytes read) where
  -- a row, and what is behind it
  record One_row (rows_before : Rows_so_far) (start before : ℕ) (bytes : List ℕ) (others : Rows_reader) (read : Read) : Type 0 where
    gap : List ℕ
    word : List ℕ
    tail : List ℕ
    sizes : List ℕ
    words : List ℕ
    is : bytes ≡ gap ++ (word ++ tail)
    blanks : Gap gap
    spells : Spells_value ty sizes words word
    first_is : (rows_before.count ≡ 0 → ⊥) → rows_before.sizes ≡ sizes
    light : weight_of ((rows_before.count + 1) ∷ sizes) ≤ greatest_weight
    behind : behind_row others (record { count = rows_before.count + 1; sizes = sizes; words = rows_before.words ++ words }) start (before + length gap + length word + gap_at tail) (drop (gap_at tail) tail) ≡ Ok read

  one_row : (rows_before : Rows_so_far) (start before : ℕ) (bytes : List ℕ) (others : Rows_reader) (read : Read)
      → row_and (read_at ty rank) others rows_before start (before + gap_at bytes) (drop (gap_at bytes) bytes) ≡ Ok read → One_row rows_before start before bytes others read
  one_row rows_before start before bytes others read h =
      let here = before + gap_at bytes in
      let front = drop (gap_at bytes) bytes in
      let one = both (read_at ty rank (start + here) front) (λ read. and_then (counted (start + here) rows_before.count rows_before.sizes read.sizes) (λ sizes. behind_row others (record { count = rows_before.count + 1; sizes = sizes; words = rows_before.words ++ read.words }) start (here + read.length + gap_at (drop read.length front)) (drop (gap_at (drop read.length front)) (drop read.length front)))) read h in
      let r = one.a in
      let two = both (counted (start + here) rows_before.count rows_before.sizes r.sizes) (λ sizes. behind_row others (record { count = rows_before.count + 1; sizes = sizes; words = rows_before.words ++ r.words }) start (here + r.length + gap_at (drop r.length front)) (drop (gap_at (drop r.length front)) (drop r.length front))) read one.next in
      let v = each (start + here) front r one.first in
      let c = counted_is (start + here) rows_before.count rows_before.sizes r.sizes two.a two.first in
      let f = fronted bytes (some_bytes front ty rank (start + here) r one.first) in
      let tail : drop r.length front ≡ v.rest = ap (λ m. drop m front) v.long ∙ ap (drop (length v.word)) v.is ∙ drop-append_seam v.word v.rest in
      let next : ℕ → List ℕ → Result Read TextErr = λ at t. behind_row others (record { count = rows_before.count + 1; sizes = r.sizes; words = rows_before.words ++ r.words }) start (at + gap_at t) (drop (gap_at t) t) in
      let x = f.long in
      let y = v.long in
      record {
        gap = f.gap;
        word = v.word;
        tail = v.rest;
        sizes = r.sizes;
        words = r.words;
        is = f.is ∙ ap (λ z. f.gap ++ z) (sym f.there ∙ v.is);
        blanks = f.blanks;
        spells = v.spells;
        first_is = c.first_is;
        light = c.light;
        behind = ap (λ at. next at v.rest) (omega (arith, x, y)) ∙ ap (next (here + r.length)) (sym tail)
            ∙ ap (λ ns. behind_row others (record { count = rows_before.count + 1; sizes = ns; words = rows_before.words ++ r.words }) start (here + r.length + gap_at (drop r.length front)) (drop (gap_at (drop r.length front)) (drop r.length front))) (sym c.same) ∙ two.next;
      }

  rows_spelled : (fuel : ℕ) (rows_before : Rows_so_far) (start before : ℕ) (bytes : List ℕ) (read : Read) → rows_up_to fuel (read_at ty rank) rows_before start before bytes ≡ Ok read → Rows_spelled ty rows_before before bytes read
  rows_spelled zero rows_before start before bytes read h = absurd cc
  rows_spelled (suc n) rows_before start before bytes read h =
      let o = one_row rows_before start before bytes (rows_up_to n (read_at ty rank)) read h in
      by_close o (begins_with 93 (drop (gap_at o.tail) o.tail)) refl (rows_spelled n) o.behind
    where
      closes : (o : One_row rows_before start before bytes (rows_up_to n (read_at ty rank)) read) → Marked 93 o.tail
          → ◌≡◌ {A = Read} (record { sizes = (rows_before.count + 1) ∷ o.sizes; words = rows_before.words ++ o.words; length = before + length o.gap + length o.word + gap_at o.tail + 1 }) read → Rows_spelled ty rows_before before bytes read
      closes o m e =
          let a = length-append o.gap (o.word ++ (m.gap ++ 93 ∷ [])) in
          let b = length-append o.word (m.gap ++ 93 ∷ []) in
          let c = length-append m.gap (93 ∷ []) in
          let d = m.long in
          subst (Rows_spelled ty rows_before before bytes) e (record {
            ns = o.sizes;
            ws = o.words;
            body = o.gap ++ (o.word ++ (m.gap ++ 93 ∷ []));
            rest = m.rest;
            total = 1;
            is = o.is ∙ ap (λ z. o.gap ++ (o.word ++ z)) m.is ∙ sym (row_bytes o.gap o.word m.gap (93 ∷ []) m.rest);
            spells = last_row o.gap o.word m.gap o.blanks o.spells m.blanks;
            sizes_are = refl;
            words_are = refl;
            long = omega (arith, a, b, c, d);
            first_is = o.first_is;
            light = o.light;
          })

      goes_on : (o : One_row rows_before start before bytes (rows_up_to n (read_at ty rank)) read) → (m : Marked 44 o.tail)
          → Rows_spelled ty (record { count = rows_before.count + 1; sizes = o.sizes; words = rows_before.words ++ o.words }) (before + length o.gap + length o.word + gap_at o.tail + 1) m.rest read → Rows_spelled ty rows_before before bytes read
      goes_on o m more =
          let a = length-append o.gap (o.word ++ (m.gap ++ 44 ∷ more.body)) in
          let b = length-append o.word (m.gap ++ 44 ∷ more.body) in
          let c = length-append m.gap (44 ∷ more.body) in
          let d = m.long in
          let l = more.long in
          let same : o.sizes ≡ more.ns = more.first_is (λ z. absurd (omega (arith, z))) in
          record {
            ns = more.ns;
            ws = o.words ++ more.ws;
            body = o.gap ++ (o.word ++ (m.gap ++ 44 ∷ more.body));
            rest = more.rest;
            total = suc more.total;
            is = o.is ∙ ap (λ z. o.gap ++ (o.word ++ z)) (m.is ∙ ap (λ z. m.gap ++ 44 ∷ z) more.is) ∙ sym (row_bytes o.gap o.word m.gap (44 ∷ more.body) more.rest);
            spells = rows_and o.gap o.word m.gap more.body o.blanks (subst (λ ns. Spells_value ty ns o.words o.word) same o.spells) m.blanks more.spells;
            sizes_are = more.sizes_are ∙ ap (λ k. k ∷ more.ns) (omega arith);
            words_are = more.words_are ∙ append_assoc rows_before.words o.words more.ws;
            long = omega (arith, a, b, c, d, l);
            first_is = λ k. o.first_is k ∙ same;
            light = subst (λ k. weight_of (k ∷ more.ns) ≤ greatest_weight) (omega arith) more.light;
          }

      by_comma : (o : One_row rows_before start before bytes (rows_up_to n (read_at ty rank)) read) (t : Bool) → begins_with 44 (drop (gap_at o.tail) o.tail) ≡ t
          → ((rows_before : Rows_so_far) (start before : ℕ) (bytes : List ℕ) (read : Read) → rows_up_to n (read_at ty rank) rows_before start before bytes ≡ Ok read → Rows_spelled ty rows_before before bytes read)
          → cond t (rows_up_to n (read_at ty rank) (record { count = rows_before.count + 1; sizes = o.sizes; words = rows_before.words ++ o.words }) start (before + length o.gap + length o.word + gap_at o.tail + 1) (drop 1 (drop (gap_at o.tail) o.tail)))
          (Err (text.BadText (start + (before + length o.gap + length o.word + gap_at o.tail)))) ≡ Ok read
          → Rows_spelled ty rows_before before bytes read
      by_comma o true e others k =
          let m = marked 44 o.tail e in
          let rest_is : drop 1 (drop (gap_at o.tail) o.tail) ≡ m.rest = drop-drop 1 (gap_at o.tail) o.tail ∙ m.behind in
          goes_on o m (subst (λ b. Rows_spelled ty (record { count = rows_before.count + 1; sizes = o.sizes; words = rows_before.words ++ o.words }) (before + length o.gap + length o.word + gap_at o.tail + 1) b read) rest_is
          (others (record { count = rows_before.count + 1; sizes = o.sizes; words = rows_before.words ++ o.words }) start (before + length o.gap + length o.word + gap_at o.tail + 1) (drop 1 (drop (gap_at o.tail) o.tail)) read k))
      by_comma o false e others k = absurd cc

      by_close : (o : One_row rows_before start before bytes (rows_up_to n (read_at ty rank)) read) (t : Bool) → begins_with 93 (drop (gap_at o.tail) o.tail) ≡ t
          → ((rows_before : Rows_so_far) (start before : ℕ) (bytes : List ℕ) (read : Read) → rows_up_to n (read_at ty rank) rows_before start before bytes ≡ Ok read → Rows_spelled ty rows_before before bytes read)
          → cond t (Ok (record { sizes = (rows_before.count + 1) ∷ o.sizes; words = rows_before.words ++ o.words; length = before + length o.gap + length o.word + gap_at o.tail + 1 }))
          (cond (begins_with 44 (drop (gap_at o.tail) o.tail)) (rows_up_to n (read_at ty rank) (record { count = rows_before.count + 1; sizes = o.sizes; words = rows_before.words ++ o.words }) start (before + length o.gap + length o.word + gap_at o.tail + 1) (drop 1 (drop (gap_at o.tail) o.tail)))
          (Err (text.BadText (start + (before + length o.gap + length o.word + gap_at o.tail))))) ≡ Ok read
          → Rows_spelled ty rows_before before bytes read
      by_close o true e others k = closes o (marked 93 o.tail e) (ok_is _ read k)
      by_close o false e others k = by_comma o (begins_with 44 (drop (gap_at o.tail) o.tail)) refl others k

-- ---- arrays

closed_spelled : (ty : ScalarType) (rank position : ℕ) (inner : List ℕ) (read : Read) → Marked 93 inner → no_rows rank position (gap_at inner + 2) ≡ Ok read → Value_spelled ty (91 ∷ inner) read
closed_spelled ty zero position inner read m h =
    let a = length-append m.gap (93 ∷ []) in
    let b = m.long in
    subst (Value_spelled ty (91 ∷ inner)) (ok_is _ read h) (record {
      word = 91 ∷ (m.gap ++ 93 ∷ []);
      rest = m.rest;
      is = ap (λ z. 91 ∷ z) (m.is ∙ sym (append_assoc m.gap (93 ∷ []) m.rest));
      spells = none_there m.gap m.blanks refl refl refl;
      ends = tt;
      long = omega (arith, a, b);
    })
closed_spelled ty (suc n) position inner read m h = absurd cc

array_spelled : (ty : ScalarType) (inner : List ℕ) (read : Read) → Rows_spelled ty no_row 1 inner read → Value_spelled ty (91 ∷ inner) read
array_spelled ty inner read r = record {
  word = 91 ∷ r.body;
  rest = r.rest;
  is = ap (λ z. 91 ∷ z) r.is;
  spells = subst (λ z. Spells_value ty z read.words (91 ∷ r.body)) (sym sizes_are) (subst (λ w. Spells_value ty (r.total ∷ r.ns) w (91 ∷ r.body)) (sym r.words_are) (rows r.spells (subst (λ k. weight_of (k ∷ r.ns) ≤ greatest_weight) (zero_plus r.total) r.light)));
  ends = subst (λ z. Ends z r.rest) (sym sizes_are) tt;
  long = r.long ∙ omega arith;
}
  where
    sizes_are : read.sizes ≡ r.total ∷ r.ns
    sizes_are = r.sizes_are ∙ ap (λ k. k ∷ r.ns) (zero_plus r.total)

value_spelled : (ty : ScalarType) (rank position : ℕ) (bytes : List ℕ) (read : Read) → read_at ty rank position bytes ≡ Ok read → Value_spelled ty bytes read
value_spelled ty zero position bytes read h = scalar_spelled ty position bytes read h
value_spelled ty (suc n) position bytes read h = by_open (begins_with 91 bytes) refl (value_spelled ty n) h
  where
    inner : List ℕ
    inner = drop 1 bytes

    by_close : ((position : ℕ) (bytes : List ℕ) (read : Read) → read_at ty n position bytes ≡ Ok read → Value_spelled ty bytes read) → (t : Bool) → begins_with 93 (drop (gap_at inner) inner) ≡ t
        → cond t (no_rows n (position + 1 + gap_at inner) (gap_at inner + 2)) (rows_up_to (length inner) (read_at ty n) no_row position 1 inner) ≡ Ok read → Value_spelled ty (91 ∷ inner) read
    by_close each true e k = closed_spelled ty n (position + 1 + gap_at inner) inner read (marked 93 inner e) k
    by_close each false e k = array_spelled ty inner read (rows_spelled ty n each (length inner) no_row position 1 inner read k)

    by_open : (t : Bool) → begins_with 91 bytes ≡ t → ((position : ℕ) (bytes : List ℕ) (read : Read) → read_at ty n position bytes ≡ Ok read → Value_spelled ty bytes read)
        → cond t (rows_at n (read_at ty n) position inner) (other_than_rows ty (suc n) position bytes) ≡ Ok read → Value_spelled ty bytes read
    by_open true e each k = subst (λ b. Value_spelled ty b read) (sym (begins_is 91 bytes e)) (by_close each (begins_with 93 (drop (gap_at inner) inner)) refl k)
    by_open false e each k = empty_spelled ty (suc n) position bytes read e k

-- ---- the whole text

nothing_more : (position : ℕ) (rest : List ℕ) (values : List Value) → nothing_at position rest ≡ Ok values → (rest ≡ []) × (values ≡ [])
nothing_more position [] values h = (refl, sym (ok_is [] values h))
nothing_more position (b ∷ bs) values h = absurd cc

last_is : (position : ℕ) (bytes : List ℕ) (values : List Value) → Gapped bytes → nothing_at (position + gap_at bytes) (drop (gap_at bytes) bytes) ≡ Ok values → Spelled_all [] bytes values
unfolding gap_at
last_is position bytes values (gapped gap rest e g n) h =
    let there : drop (gap_from false bytes) bytes ≡ rest = ap (λ z. drop z bytes) n ∙ ap (drop (length gap)) e ∙ drop-append_seam gap rest in
    let z = nothing_more (position + gap_from false bytes) (drop (gap_from false bytes) bytes) values h in
    let none : bytes ≡ gap = e ∙ ap (λ r. gap ++ r) (sym there ∙ z.0) ∙ append-nil gap in
    subst (Spelled_all [] bytes) (sym z.1) (ended (closed (subst Gap (sym none) g)))
last_is position bytes values (all_gap g n) h =
    let z = nothing_more (position + gap_from false bytes) (drop (gap_from false bytes) bytes) values h in
    subst (Spelled_all [] bytes) (sym z.1) (ended g)

module _ (t : ArgType) (types : List ArgType) (others : Reader) (values : List Value) (only : (bytes : List ℕ) (values : List Value) (param position : ℕ) → others param position bytes ≡ Ok values → Spelled_all types bytes values) where
  with_is : (gap : List ℕ) → Gap gap → (front : List ℕ) (read : Read) (param position : ℕ) → Value_spelled t.elem front read → length read.sizes ≡ length t.dims
      → (r : Values) → others param position (drop read.length front) ≡ r → with_front (value_of t read) r ≡ Ok values → Spelled_all (t ∷ types) (gap ++ front) values
  with_is gap g front read param position v rank (Ok more) e k =
      let rest_is : drop read.length front ≡ v.rest = ap (λ m. drop m front) v.long ∙ ap (drop (length v.word)) v.is ∙ drop-append_seam v.word v.rest in
      let after = subst (λ b. Spelled_all types b more) rest_is (only (drop read.length front) more param position e) in
      subst (λ b. Spelled_all (t ∷ types) (gap ++ b) values) (sym v.is) (subst (Spelled_all (t ∷ types) (gap ++ (v.word ++ v.rest))) (ok_is (value_of t read ∷ more) values k) (value_and gap v.word v.rest g refl rank v.spells v.ends after))
  with_is gap g front read param position v rank (Err err) e k = absurd cc

  front_is : (gap : List ℕ) → Gap gap → (front : List ℕ) (param position : ℕ) → value_at t others param position front ≡ Ok values → Spelled_all (t ∷ types) (gap ++ front) values
  front_is gap g [] param position h = absurd cc
  front_is gap g (b ∷ bs) param position h =
      let x = both (read_at t.elem (length t.dims) position (b ∷ bs)) (λ read. with_front (value_of t read) (others (param + 1) (position + read.length) (drop read.length (b ∷ bs)))) values h in
      with_is gap g (b ∷ bs) x.a (param + 1) (position + x.a.length) (value_spelled t.elem (length t.dims) position (b ∷ bs) x.a x.first) (read_is t.elem (length t.dims) position (b ∷ bs) x.a x.first).ranks
      (others (param + 1) (position + x.a.length) (drop x.a.length (b ∷ bs))) refl x.next

value_some : (t : ArgType) (others : Reader) (param position : ℕ) (bytes : List ℕ) (values : List Value) → value_at t others param position bytes ≡ Ok values → 0 < length bytes
value_some t others param position [] values h = absurd cc
value_some t others param position (b ∷ bs) values h = omega arith

all_spelled : (types : List ArgType) (bytes : List ℕ) (values : List Value) (param position : ℕ) → values_on types param position bytes ≡ Ok values → Spelled_all types bytes values
all_spelled [] bytes values param position h = last_is position bytes values (outside bytes) h
all_spelled (t ∷ types) bytes values param position h =
    let f = fronted bytes (value_some t (values_on types) param (position + gap_at bytes) (drop (gap_at bytes) bytes) values h) in
    subst (λ b. Spelled_all (t ∷ types) b values) (sym f.is) (front_is t types (values_on types) values (all_spelled types) f.gap f.blanks f.rest param (position + gap_at bytes) (sym (ap (value_at t (values_on types) param (position + gap_at bytes)) f.there) ∙ h))

agreement_is : (types : List ArgType) (vs values : List Value) (r : Result Known TextErr) → values_for 1 types vs [] ≡ r → in_agreement types vs r ≡ Ok values → (known : Known) × (values_for 1 types values [] ≡ Ok known) × (vs ≡ values)
agreement_is types vs values (Ok known) e h = let same = ok_is vs values h in (known, ap (λ v. values_for 1 types v []) (sym same) ∙ e, same)
agreement_is types vs values (Err err) e h = absurd cc

pub only_arguments_are_read : OnlyArgumentsAreRead
only_arguments_are_read types bytes values h =
    let x = both (values_on types 1 0 bytes) (λ vs. in_agreement types vs (values_for 1 types vs [])) values h in
    let a = agreement_is types x.a values (values_for 1 types x.a []) refl x.next in
    record { spelled = subst (Spelled_all types bytes) a.2 (all_spelled types bytes x.a 1 0 x.first); known = a.0; agree = a.1 }

pub arguments_fit : (types : List ArgType) (bytes : List ℕ) (values : List Value) → Reads types bytes values → Are_read types values
arguments_fit types bytes values h =
    let x = both (values_on types 1 0 bytes) (λ vs. in_agreement types vs (values_for 1 types vs [])) values h in
    let a = agreement_is types x.a values (values_for 1 types x.a []) refl x.next in
    subst (Are_read types) a.2 (are_read types 1 0 bytes x.a x.first)
