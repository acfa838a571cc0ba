-- What is printed is a text of the grammar, and so reads back.
use Rattle.std.proofs.Common.{◌≡◌, ◌+◌, ◌-◌, ◌*◌, ◌^◌, ◌<◌, ℕ, suc, List, [], ◌∷◌, ◌++◌, length, map, All, arith, refl, sym, ap, ◌∙◌, subst, le-leb, append_assoc, append-nil}
use Rattle.std.specs.Prelude.{Bool, true, false, cond, nat_le, ◌==◌, ◌&&◌, ◌||◌, ℤ, pos, negsuc, Some, codes, decimal}
use Rattle.std.specs.Fmt.{signed_decimal}
use Rattle.std.specs.Int.{IsInRange}
use Rattle.std.proofs.lemmas.Bool.{ne_eqb}
use Rattle.std.proofs.lemmas.Fmt.{digits_decimal, digits_value-decimal, decimal_nonempty}
use Rattle.std.proofs.lemmas.Int.{ints}
use Rattle.std.proofs.lemmas.Str.Parse.{IsNumeralModel, numerals_by_fold}
use Rattle.fut_scalar.specs.Integers.{FitsType, integer_of, width_of}
use Rattle.fut_scalar.specs.declared.scalar.IntType.{IntType}
use Rattle.fut_scalar.specs.declared.scalar.IntType.TheVariants.{I8, I16, I32, I64, U8, U16, U32, U64}
use Rattle.fut_scalar.specs.declared.scalar.Scalar.{Scalar}
use Rattle.fut_scalar.specs.declared.scalar.Scalar.TheVariants as scalar
use Rattle.fut_scalar.specs.declared.scalar.ScalarType.{ScalarType}
use Rattle.fut_scalar.specs.declared.scalar.ScalarType.TheVariants as sort
use Rattle.fut_arithmetic.specs.Types.{type_of}
use Rattle.name_characters.specs.Names.{goes_on_name}
use Rattle.value_text.specs.Claims.{TextReadsBack, OutputReadsBack}
use Rattle.value_text.specs.Grammar.{nothing, blank, closed, in_comment, All_in_number, IsNumber, Spells, truth, falsehood, integer, Text, ended, value_and}
use Rattle.value_text.specs.Numbers.{digit_of, ends_in_underscore, is_in_number, starts_digit, value_on}
use Rattle.value_text.specs.Printing.{text_of, output_of}
use Rattle.value_text.specs.Reading.{may_be, signed, value_in}
use Rattle.value_text.specs.Words.{is_digit, name_goes_on, name_of}
use Rattle.value_text.specs.declared.numbers.Base.TheVariants.{Decimal}
use Rattle.value_text.proofs.Integers.{integers_are_found}
use Rattle.value_text.proofs.Names.{ascii_goes_on}
use Rattle.value_text.proofs.Texts.{texts_are_read}

-- ---- decimal digits

abbrev pub IsDigits : List ℕ → Type 0
IsDigits [] = Unit {0}
IsDigits (c ∷ cs) = IsInRange 48 57 c × IsDigits cs

module _ (c : ℕ) (r : IsInRange 48 57 c) where
  pub digit : is_digit c ≡ true
  digit = ap (λ t. t && nat_le c 57) (le-leb 48 c r.0) ∙ le-leb c 57 r.1

  in_number : is_in_number Decimal c ≡ true
  in_number = ap (λ t. t || c == 95) digit

  no_underscore : (c == 95) ≡ false
  no_underscore = ne_eqb c 95 (λ e. omega (arith, r.1, e))

  digit_is : digit_of c ≡ c - 48
  digit_is = ap (λ t. cond t (c - 48) (cond (nat_le c 70) (c - 55) (c - 87))) (le-leb c 57 r.1)

  value_more : (n : ℕ) (cs : List ℕ) → value_on Decimal n (c ∷ cs) ≡ value_on Decimal (n * 10 + (c - 48)) cs
  value_more n cs =
      let e = digit_is in
      let next : 10 * n + digit_of c ≡ n * 10 + (c - 48) = omega (arith, e) in
      ap (λ t. cond t (value_on Decimal n cs) (value_on Decimal (10 * n + digit_of c) cs)) no_underscore ∙ ap (λ m. value_on Decimal m cs) next

pub own : IsNumeralModel IsDigits (value_on Decimal 0)
own =
    numerals_by_fold IsDigits (record { empty = tt; parts = λ c cs p. p; more = λ c cs r p. (r, p) }) (value_on Decimal)
    (record { empty = λ n. refl; more = λ n c cs r. value_more c r n cs })

all_in : (cs : List ℕ) → IsDigits cs → All_in_number Decimal cs
all_in [] p = tt
all_in (c ∷ cs) p = (in_number c p.0, all_in cs p.1)

ends_so : (cs : List ℕ) → IsDigits cs → ends_in_underscore cs ≡ false
ends_so [] p = refl
ends_so (c ∷ []) p = no_underscore c p.0
ends_so (c ∷ d ∷ cs) p = ends_so (d ∷ cs) p.1

starts_so : (cs : List ℕ) → IsDigits cs → 0 < length cs → starts_digit Decimal cs ≡ true
starts_so [] p h = absurd (omega arith)
starts_so (c ∷ cs) p h = digit c p.0

decimal_is : (n : ℕ) → n < 2 ^ 64 → IsNumber Decimal (decimal n)
decimal_is n h =
    let p = digits_decimal own n h in
    let v = digits_value-decimal own n h in
    record { starts = starts_so (decimal n) p (decimal_nonempty n h); all = all_in (decimal n) p; ends = ends_so (decimal n) p; below = omega (arith, v, h) }

-- ---- values

same_type : (ty : IntType) → may_be ty (Some ty) ≡ true
same_type I8 = refl
same_type I16 = refl
same_type I32 = refl
same_type I64 = refl
same_type U8 = refl
same_type U16 = refl
same_type U32 = refl
same_type U64 = refl

-- an integer's size is below 2^64
small : (ty : IntType) (m n : ℕ) → m < 2 ^ width_of ty → pos n ≡ integer_of ty m → n < 2 ^ 64
small I8 m n h e = omega (arith, ints)
small I16 m n h e = omega (arith, ints)
small I32 m n h e = omega (arith, ints)
small I64 m n h e = omega (arith, ints)
small U8 m n h e = omega (arith, ints)
small U16 m n h e = omega (arith, ints)
small U32 m n h e = omega (arith, ints)
small U64 m n h e = omega (arith, ints)

small_below : (ty : IntType) (m n : ℕ) → m < 2 ^ width_of ty → negsuc n ≡ integer_of ty m → suc n < 2 ^ 64
small_below I8 m n h e = omega (arith, ints)
small_below I16 m n h e = omega (arith, ints)
small_below I32 m n h e = omega (arith, ints)
small_below I64 m n h e = omega (arith, ints)
small_below U8 m n h e = omega (arith, ints)
small_below U16 m n h e = omega (arith, ints)
small_below U32 m n h e = omega (arith, ints)
small_below U64 m n h e = omega (arith, ints)

spells_integer : (ty : IntType) (bits n : ℕ) (negative : Bool) → bits < 2 ^ width_of ty → n < 2 ^ 64 → signed negative n ≡ integer_of ty bits → value_in ty (signed negative (value_on Decimal 0 (decimal n))) ≡ Some (scalar.Int ty bits)
spells_integer ty bits n negative h l e = ap (λ v. value_in ty (signed negative v)) (digits_value-decimal own n l) ∙ ap (value_in ty) e ∙ integers_are_found ty bits h

pub spells : (value : Scalar) → FitsType value → Spells (type_of value) (text_of value) value
spells (scalar.Bool true) h = truth
spells (scalar.Bool false) h = falsehood
spells (scalar.Int ty bits) h = by_sign (integer_of ty bits) refl
  where
    by_sign : (z : ℤ) → z ≡ integer_of ty bits → Spells (sort.Int ty) (signed_decimal z ++ name_of ty) (scalar.Int ty bits)
    by_sign (pos n) e = let l = small ty bits n h e in integer false Decimal (decimal n) (Some ty) (decimal_is n l) (same_type ty) (spells_integer ty bits n false h l e)
    by_sign (negsuc n) e = let l = small_below ty bits n h e in integer true Decimal (decimal (suc n)) (Some ty) (decimal_is (suc n) l) (same_type ty) (spells_integer ty bits (suc n) true h l e)

-- ---- texts

pub text_reads_back : TextReadsBack
unfolding name_goes_on
text_reads_back value h =
    texts_are_read (type_of value ∷ []) (text_of value) (value ∷ [])
    (subst (λ bytes. Text (type_of value ∷ []) bytes (value ∷ [])) (append-nil (text_of value)) (value_and [] (text_of value) [] nothing (spells value h) refl (ended (closed nothing))))

-- a newline may stand before a text
newline : (types : List ScalarType) (bytes : List ℕ) (values : List Scalar) → Text types bytes values → Text types (10 ∷ bytes) values
newline _ bytes _ (ended (closed g)) = ended (closed (blank refl g))
newline _ _ _ (ended (in_comment bs line g l)) = ended (in_comment (10 ∷ bs) line (blank refl g) l)
newline _ _ _ (value_and gap word rest g s z t) = value_and (10 ∷ gap) word rest (blank refl g) s z t

lines : (values : List Scalar) → All FitsType values → Text (map type_of values) (output_of values) values
unfolding goes_on_name
lines [] h = ended (closed nothing)
lines (v ∷ values) h =
    let rest = 10 ∷ output_of values in
    let more = newline (map type_of values) (output_of values) values (lines values (λ k d l. h (suc k) d (omega arith))) in
    subst (λ bytes. Text (map type_of (v ∷ values)) bytes (v ∷ values)) (sym (append_assoc (text_of v) (codes "\n") (output_of values)))
    (value_and [] (text_of v) rest nothing (spells v (h 0 v (omega arith))) (ascii_goes_on 10 (output_of values) refl) more)

pub output_reads_back : OutputReadsBack
output_reads_back values h = texts_are_read (map type_of values) (output_of values) values (lines values h)
