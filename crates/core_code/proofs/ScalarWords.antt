-- Operations on scalars that are held as words.
use Rattle.std.proofs.Common.{◌≡◌, ℕ, suc, ◌<◌, ◌≤◌, ◌^◌, Ok, Err, Bool, true, false, cond, refl, sym, ap, ◌∙◌, subst, arith}
use Rattle.std.specs.Prelude.{ℤ, pos, ◌+◌, ◌-◌, ◌%◌, nat_lt, Option, Some, None, Result}
use Rattle.std.specs.Int.{cast_signed}
use Rattle.std.proofs.Math.Nat.{mod-eq_of_lt}
use Rattle.std.proofs.lemmas.Bool.{ltb-true, ltb-false}
use Rattle.std.proofs.lemmas.Int.{to_z_pos}
use Rattle.std.proofs.Math.Facts.{to_z-neg}
use mir.Syntax.{Width, w8, w16, w32, w64}
use mir.Val.{bits, hbits}
use Rattle.fut_scalar.specs.Integers.{integer_of, width_of, FitsType}
use Rattle.fut_scalar.specs.Reports.{kind_of}
use Rattle.fut_scalar.specs.declared.operator.BinOp.{BinOp}
use Rattle.fut_scalar.specs.declared.operator.BinOp.TheVariants as binary
use Rattle.fut_scalar.specs.declared.operator.ScalarFault.{ScalarFault}
use Rattle.fut_scalar.specs.declared.operator.UnOp.{UnOp}
use Rattle.fut_scalar.specs.declared.operator.UnOp.TheVariants as unary
use Rattle.fut_scalar.specs.declared.place.Place.{Place}
use Rattle.fut_scalar.specs.declared.report.Report.{Report}
use Rattle.fut_scalar.specs.declared.scalar.IntType.{IntType}
use Rattle.fut_scalar.specs.declared.scalar.IntType.TheVariants.{I8, I16, I32, I64, U8, U16, U32, U64}
use Rattle.fut_scalar.specs.declared.scalar.Scalar.{Scalar}
use Rattle.fut_scalar.specs.declared.scalar.Scalar.TheVariants as scalar
use Rattle.fut_scalar.specs.declared.scalar.ScalarType.{ScalarType}
use Rattle.fut_scalar.specs.declared.scalar.ScalarType.TheVariants as sort
use Rattle.fut_arithmetic.specs.Conversions.{converted}
use Rattle.fut_arithmetic.specs.Operations.{result_of, result_of_one}
use Rattle.fut_arithmetic.specs.Types.{type_of, IsOf, IsDefined, IsDefinedOfOne, result_type, result_type_of_one}
use Rattle.fut_arithmetic.specs.Words.{word_of, scalar_of_word}
use Rattle.fut_blocks.specs.Meaning.{fitted}
use Rattle.fut_meaning.specs.Accessors.{count_of, or_wrong}
use Rattle.fut_meaning.specs.Operations.{report, reported}
use Rattle.fut_meaning.specs.Operators.{by_kind, is_same_type, binary_result, unary_result}
use Rattle.fut_meaning.specs.Outcomes.{Val, Fail}
use Rattle.core_code.specs.Answers.{asked, WordTold, word_told, word_failed, no_word, Binary_told, Unary_told, Converts}
use Rattle.core_code.specs.declared.stop.Stop.TheVariants.{Failed, Memory}

-- ---- words of scalars

pub constant_is : (s : Scalar) → word_of (scalar_of_word (type_of s) (word_of s)) ≡ word_of (fitted s)
constant_is (scalar.Int t n) = refl
constant_is (scalar.Bool true) = refl
constant_is (scalar.Bool false) = refl

pub constant_word : (s d : Scalar) (t : ScalarType) (w r : ℕ) → t ≡ type_of s → w ≡ word_of s → d ≡ scalar_of_word t w → r ≡ word_of d → r ≡ word_of (fitted s)
constant_word s d t w r e f g h = h ∙ ap word_of g ∙ ap (λ z. word_of (scalar_of_word z w)) e ∙ ap (λ z. word_of (scalar_of_word (type_of s) z)) f ∙ constant_is s

pub ruleset constants = (constant_word)

-- a scalar of a type is that of its word
pub given_back : (t : ScalarType) (x : Scalar) → IsOf t x → scalar_of_word t (word_of x) ≡ x
given_back t (scalar.Int u n) h = ap (λ z. scalar_of_word z n) (sym h.0) ∙ ap (scalar.Int u) (mod-eq_of_lt h.1)
given_back t (scalar.Bool true) h = ap (λ z. scalar_of_word z 1) (sym h.0)
given_back t (scalar.Bool false) h = ap (λ z. scalar_of_word z 0) (sym h.0)

decoded : (t : ScalarType) (a : ℕ) (d x : Scalar) → d ≡ scalar_of_word t a → IsOf t x → a ≡ word_of x → d ≡ x
decoded t a d x e h w = e ∙ ap (scalar_of_word t) w ∙ given_back t x h

-- ---- definitions

pub of_integers : (op : BinOp) (ty : ScalarType) (t : IntType) → ty ≡ sort.Int t → IsDefined op ty
of_integers op ty t e = subst (IsDefined op) (sym e) (by_op op)
  where
    by_op : (op : BinOp) → IsDefined op (sort.Int t)
    by_op op = tt

pub of_truths_equal : (op : BinOp) (ty : ScalarType) → ty ≡ sort.Bool → op ≡ binary.Eq → IsDefined op ty
of_truths_equal op ty e f = subst (λ z. IsDefined z ty) (sym f) (subst (IsDefined binary.Eq) (sym e) tt)

pub of_truths_apart : (op : BinOp) (ty : ScalarType) → ty ≡ sort.Bool → op ≡ binary.Ne → IsDefined op ty
of_truths_apart op ty e f = subst (λ z. IsDefined z ty) (sym f) (subst (IsDefined binary.Ne) (sym e) tt)

pub of_integer : (op : UnOp) (ty : ScalarType) (t : IntType) → ty ≡ sort.Int t → IsDefinedOfOne op ty
of_integer op ty t e = subst (IsDefinedOfOne op) (sym e) (by_op op)
  where
    by_op : (op : UnOp) → IsDefinedOfOne op (sort.Int t)
    by_op op = tt

pub of_truth : (op : UnOp) (ty : ScalarType) → ty ≡ sort.Bool → op ≡ unary.Not → IsDefinedOfOne op ty
of_truth op ty e f = subst (λ z. IsDefinedOfOne z ty) (sym f) (subst (IsDefinedOfOne unary.Not) (sym e) tt)

pub ruleset definitions = (of_integers, of_truths_equal, of_truths_apart, of_integer, of_truth)

-- ---- operations

pub defined_at : (op : BinOp) (t : ScalarType) (d : Scalar) → IsDefined op t → IsOf t d → IsDefined op (type_of d)
defined_at op t d h i = subst (IsDefined op) (sym i.0) h

pub defined_of_one_at : (op : UnOp) (t : ScalarType) (d : Scalar) → IsDefinedOfOne op t → IsOf t d → IsDefinedOfOne op (type_of d)
defined_of_one_at op t d h i = subst (IsDefinedOfOne op) (sym i.0) h

pub one_type : (t : ScalarType) (a b : Scalar) → IsOf t a → IsOf t b → type_of b ≡ type_of a
one_type t a b h i = i.0 ∙ sym h.0

pub it_fits : (t : ScalarType) (a : Scalar) → IsOf t a → FitsType a
it_fits t a h = h.1

pub same_type : (t : IntType) → is_same_type t t ≡ true
same_type I8 = refl
same_type I16 = refl
same_type I32 = refl
same_type I64 = refl
same_type U8 = refl
same_type U16 = refl
same_type U32 = refl
same_type U64 = refl

defined_result : (op : BinOp) (a b : Scalar) → IsDefined op (type_of a) → type_of b ≡ type_of a → binary_result op a b ≡ Some (by_kind (result_of op a b))
unfolding binary_result
defined_result op (scalar.Int t m) (scalar.Int u n) d e =
    let q : t ≡ u = cc in
    ap (λ z. cond z (Some (by_kind (result_of op (scalar.Int t m) (scalar.Int u n)))) None) (ap (is_same_type t) (sym q) ∙ same_type t)
defined_result op (scalar.Int t m) (scalar.Bool b) d e = cc
defined_result op (scalar.Bool a) (scalar.Int u n) d e = cc
defined_result binary.Eq (scalar.Bool a) (scalar.Bool b) d e = refl
defined_result binary.Ne (scalar.Bool a) (scalar.Bool b) d e = refl
defined_result op (scalar.Bool a) (scalar.Bool b) d e = absurd d

module _ (op : BinOp) (at : Place) (t : ScalarType) (a b : ℕ) (d1 d2 : Scalar) (e1 : d1 ≡ scalar_of_word t a) (e2 : d2 ≡ scalar_of_word t b) (i1 : IsOf t d1) (i2 : IsOf t d2) where
  result_told : (x y : Scalar) → IsOf t x → IsOf t y → IsDefined op t → a ≡ word_of x → b ≡ word_of y → reported at (binary_result op x y) ≡ reported at (Some (by_kind (result_of op d1 d2)))
  result_told x y h k d p q =
      let r1 = decoded t a d1 x e1 h p in
      let r2 = decoded t b d2 y e2 k q in
      ap (λ z. reported at (binary_result op z y)) (sym r1) ∙ ap (λ z. reported at (binary_result op d1 z)) (sym r2)
      ∙ ap (reported at) (defined_result op d1 d2 (defined_at op t d1 d i1) (one_type t d1 d2 i1 i2))

  pub binary_ok : (v : Scalar) (w : ℕ) → Ok v ≡ result_of op d1 d2 → IsOf (result_type op (type_of d1)) v → w ≡ word_of v → Binary_told op at t a b (Ok w)
  unfolding Binary_told
  binary_ok v w r i g x y h k d p q = word_told (result_told x y h k d p q ∙ ap (λ z. reported at (Some (by_kind z))) (sym r)) (subst (λ z. IsOf (result_type op z) v) i1.0 i) g

  pub binary_err : (f : ScalarFault) (k : Report) → Err f ≡ result_of op d1 d2 → k ≡ report (kind_of f) at → Binary_told op at t a b (Err (Failed k))
  unfolding Binary_told
  binary_err f k r g x y h i d p q = word_failed (result_told x y h i d p q ∙ ap (λ z. reported at (Some (by_kind z))) (sym r) ∙ ap Fail (sym g))

pub binary_memory : (op : BinOp) (at : Place) (t : ScalarType) (a b : ℕ) → Binary_told op at t a b (Err Memory)
unfolding Binary_told
binary_memory op at t a b x y h k d p q = no_word

pub ruleset binaries = (defined_at, one_type, it_fits, binary_ok, binary_err, binary_memory)

unary_defined : (op : UnOp) (x : Scalar) → IsDefinedOfOne op (type_of x) → or_wrong (unary_result op x) ≡ Val (result_of_one op x)
unfolding unary_result
unary_defined op (scalar.Int t n) d = refl
unary_defined unary.Not (scalar.Bool b) d = refl
unary_defined op (scalar.Bool b) d = absurd d

pub unary_ok : (op : UnOp) (t : ScalarType) (a : ℕ) (d v : Scalar) (w : ℕ) → d ≡ scalar_of_word t a → IsOf t d → v ≡ result_of_one op d → IsOf (result_type_of_one op (type_of d)) v → w ≡ word_of v → Unary_told op t a (Ok w)
unfolding Unary_told
unary_ok op t a d v w e i r j g x h k p =
    let q = decoded t a d x e h p in
    word_told (ap (λ z. or_wrong (unary_result op z)) (sym q) ∙ unary_defined op d (defined_of_one_at op t d k i) ∙ ap Val (sym r)) (subst (λ z. IsOf (result_type_of_one op z) v) i.0 j) g

pub unary_memory : (op : UnOp) (t : ScalarType) (a : ℕ) → Unary_told op t a (Err Memory)
unfolding Unary_told
unary_memory op t a x h d p = no_word

pub ruleset unaries = (defined_of_one_at, it_fits, unary_ok, unary_memory)

pub convert_ok : (to t : ScalarType) (a : ℕ) (d v : Scalar) (w : ℕ) → d ≡ scalar_of_word t a → v ≡ converted to d → IsOf to v → w ≡ word_of v → Converts to t a w
unfolding Converts
convert_ok to t a d v w e r i g x h p =
    let q = decoded t a d x e h p in
    let u : v ≡ converted to x = r ∙ ap (converted to) q in
    (subst (IsOf to) u i, g ∙ ap word_of u)

pub ruleset conversions = (it_fits, convert_ok)

-- ---- how many turns an integer says

below_none : (w : Width) (n k : ℕ) → k < 2 ^ hbits w → n + suc k ≡ 2 ^ bits w → count_of (cast_signed w n) ≡ 0
below_none w n k h e = let q : 2 ^ bits w - suc k ≡ n = omega arith in ap (λ m. count_of (cast_signed w m)) (sym q) ∙ ap count_of (to_z-neg w k h)

above_same : (z : ℤ) (n : ℕ) → z ≡ pos n → n ≡ count_of z
above_same z n e = sym (ap count_of e)

-- a test of a number against a limit
by_limit : (P : Type 0) (n limit : ℕ) → (n < limit → P) → (limit ≤ n → P) → P
by_limit P n limit h k = by_test (nat_lt n limit) refl
  where
    by_test : (b : Bool) → nat_lt n limit ≡ b → P
    by_test true q = h (ltb-true n limit q)
    by_test false q = k (ltb-false n limit q)

module _ (n r : ℕ) where
  pub count_8 : n < 2 ^ 8 → (n < 0x80 → r ≡ n) → (0x80 ≤ n → r ≡ 0) → r ≡ count_of (cast_signed w8 n)
  count_8 h low high = by_limit (r ≡ count_of (cast_signed w8 n)) n 0x80 (λ l. low l ∙ above_same (cast_signed w8 n) n (to_z_pos w8 n l)) (λ l. high l ∙ sym (below_none w8 n (255 - n) (omega arith) (omega arith)))

  pub count_16 : n < 2 ^ 16 → (n < 0x8000 → r ≡ n) → (0x8000 ≤ n → r ≡ 0) → r ≡ count_of (cast_signed w16 n)
  count_16 h low high = by_limit (r ≡ count_of (cast_signed w16 n)) n 0x8000 (λ l. low l ∙ above_same (cast_signed w16 n) n (to_z_pos w16 n l)) (λ l. high l ∙ sym (below_none w16 n (65535 - n) (omega arith) (omega arith)))

  pub count_32 : n < 2 ^ 32 → (n < 0x8000_0000 → r ≡ n) → (0x8000_0000 ≤ n → r ≡ 0) → r ≡ count_of (cast_signed w32 n)
  count_32 h low high = by_limit (r ≡ count_of (cast_signed w32 n)) n 0x8000_0000 (λ l. low l ∙ above_same (cast_signed w32 n) n (to_z_pos w32 n l)) (λ l. high l ∙ sym (below_none w32 n (4294967295 - n) (omega arith) (omega arith)))

  pub count_64 : n < 2 ^ 64 → (n < 0x8000_0000_0000_0000 → r ≡ n) → (0x8000_0000_0000_0000 ≤ n → r ≡ 0) → r ≡ count_of (cast_signed w64 n)
  count_64 h low high = by_limit (r ≡ count_of (cast_signed w64 n)) n 0x8000_0000_0000_0000 (λ l. low l ∙ above_same (cast_signed w64 n) n (to_z_pos w64 n l)) (λ l. high l ∙ sym (below_none w64 n (18446744073709551615 - n) (omega arith) (omega arith)))

  pub no_more : (limit m : ℕ) → n < m → (n < limit → r ≡ n) → (limit ≤ n → r ≡ 0) → r < m
  no_more limit m h low high = by_limit (r < m) n limit (λ l. omega (arith, low l)) (λ l. omega (arith, high l))

-- ---- the size that an integer asks for

below_asks : (w : Width) (n k : ℕ) → k < 2 ^ hbits w → n + suc k ≡ 2 ^ bits w → asked (cast_signed w n) ≡ None
below_asks w n k h e = let q : 2 ^ bits w - suc k ≡ n = omega arith in ap (λ m. asked (cast_signed w m)) (sym q) ∙ ap asked (to_z-neg w k h)

module _ (n : ℕ) (r : Option ℕ) where
  pub asked_8 : n < 2 ^ 8 → (n < 0x80 → r ≡ Some n) → (0x80 ≤ n → r ≡ None) → r ≡ asked (cast_signed w8 n)
  asked_8 h low high = by_limit (r ≡ asked (cast_signed w8 n)) n 0x80 (λ l. low l ∙ sym (ap asked (to_z_pos w8 n l))) (λ l. high l ∙ sym (below_asks w8 n (255 - n) (omega arith) (omega arith)))

  pub asked_16 : n < 2 ^ 16 → (n < 0x8000 → r ≡ Some n) → (0x8000 ≤ n → r ≡ None) → r ≡ asked (cast_signed w16 n)
  asked_16 h low high = by_limit (r ≡ asked (cast_signed w16 n)) n 0x8000 (λ l. low l ∙ sym (ap asked (to_z_pos w16 n l))) (λ l. high l ∙ sym (below_asks w16 n (65535 - n) (omega arith) (omega arith)))

  pub asked_32 : n < 2 ^ 32 → (n < 0x8000_0000 → r ≡ Some n) → (0x8000_0000 ≤ n → r ≡ None) → r ≡ asked (cast_signed w32 n)
  asked_32 h low high = by_limit (r ≡ asked (cast_signed w32 n)) n 0x8000_0000 (λ l. low l ∙ sym (ap asked (to_z_pos w32 n l))) (λ l. high l ∙ sym (below_asks w32 n (4294967295 - n) (omega arith) (omega arith)))

  pub asked_64 : n < 2 ^ 64 → (n < 0x8000_0000_0000_0000 → r ≡ Some n) → (0x8000_0000_0000_0000 ≤ n → r ≡ None) → r ≡ asked (cast_signed w64 n)
  asked_64 h low high = by_limit (r ≡ asked (cast_signed w64 n)) n 0x8000_0000_0000_0000 (λ l. low l ∙ sym (ap asked (to_z_pos w64 n l))) (λ l. high l ∙ sym (below_asks w64 n (18446744073709551615 - n) (omega arith) (omega arith)))
