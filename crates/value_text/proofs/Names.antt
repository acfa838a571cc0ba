-- Where names go on, and where they do not.
use Rattle.std.proofs.Common.{◌≡◌, ℕ, List, ◌∷◌, ◌++◌, length, slice_index, arith, refl, sym, ap, ◌∙◌, eqb-true}
use Rattle.std.specs.Prelude.{Bool, true, false, nat_lt, ◌==◌, Option, Some, None}
use Rattle.std.proofs.lemmas.Bool.{ne_eqb}
use Rattle.std.proofs.lemmas.Bool.Decides.{nat_tests}
use Rattle.std.specs.Char.{encode_utf8, IsScalar}
use Rattle.bstr.specs.Utf8.{decoded, decoded_by, good}
use Rattle.bstr.proofs.lemmas.EncodeLemmas.{decoded-encode}
use Rattle.bstr.proofs.lemmas.SoundLemmas.{SpellsChar-decoded}
use Rattle.name_characters.specs.Names.{goes_on_name}
use Rattle.value_text.specs.Claims.{NamesGoOn, NothingElseGoesOn}
use Rattle.value_text.specs.Numbers.{is_in_number}
use Rattle.value_text.specs.Words.{continues_name, name_goes_on}
use Rattle.value_text.specs.declared.numbers.Base.{Base}
use Rattle.value_text.specs.declared.numbers.Base.TheVariants.{Decimal, Hexadecimal, Binary}

-- ---- a character of one byte

first_byte : (n b c d e : ℕ) → (n == 0) ≡ false → nat_lt b 128 ≡ true → decoded_by n b c d e ≡ good b 1
first_byte n b c d e some low = rw (some, low) refl

pub ascii_goes_on : (b : ℕ) (bs : List ℕ) → nat_lt b 128 ≡ true → name_goes_on (b ∷ bs) ≡ goes_on_name b
unfolding name_goes_on
ascii_goes_on b bs low = ap (λ d. continues_name d.char) (first_byte (length (b ∷ bs)) b (slice_index (b ∷ bs) 1) (slice_index (b ∷ bs) 2) (slice_index (b ∷ bs) 3) (ne_eqb (length (b ∷ bs)) 0 (λ e. omega (arith, e))) low)

-- a byte of a number continues a name
in_name : (base : Base) (b : ℕ) → nat_lt b 128 ≡ true → goes_on_name b ≡ false → is_in_number base b ≡ false
unfolding goes_on_name
in_name Decimal b low h = grind (arith, nat_tests)
in_name Hexadecimal b low h = grind (arith, nat_tests)
in_name Binary b low h = grind (arith, nat_tests)

beyond : (base : Base) (b : ℕ) → nat_lt b 128 ≡ false → is_in_number base b ≡ false
beyond Decimal b high = grind (arith, nat_tests)
beyond Hexadecimal b high = grind (arith, nat_tests)
beyond Binary b high = grind (arith, nat_tests)

-- what stands behind a value begins with no byte of a number
pub ends_number : (base : Base) (b : ℕ) (bs : List ℕ) → name_goes_on (b ∷ bs) ≡ false → is_in_number base b ≡ false
ends_number base b bs z = by_test (nat_lt b 128) refl
  where
    by_test : (t : Bool) → nat_lt b 128 ≡ t → is_in_number base b ≡ false
    by_test true low = in_name base b low (sym (ascii_goes_on b bs low) ∙ z)
    by_test false high = beyond base b high

-- and with no byte that alone continues a name
pub ends_letter : (b c : ℕ) (bs : List ℕ) → name_goes_on (b ∷ bs) ≡ false → nat_lt c 128 ≡ true → goes_on_name c ≡ true → (b == c) ≡ false
ends_letter b c bs z low h = by_test (b == c) refl
  where
    by_test : (t : Bool) → (b == c) ≡ t → t ≡ false
    by_test true e = let there = sym (ascii_goes_on c bs low) ∙ ap (λ x. name_goes_on (x ∷ bs)) (sym (eqb-true b c e)) ∙ z in absurd cc
    by_test false e = refl

-- ---- any character

pub names_go_on : NamesGoOn
unfolding name_goes_on
names_go_on c rest s h = ap (λ d. continues_name d.char) (decoded-encode c rest s) ∙ h

pub nothing_else_goes_on : NothingElseGoesOn
unfolding name_goes_on
nothing_else_goes_on bytes h = by_char (decoded bytes).char refl h
  where
    by_char : (found : Option ℕ) → (decoded bytes).char ≡ found → continues_name found ≡ true → (c : ℕ) × (rest : List ℕ) × IsScalar c × (goes_on_name c ≡ true) × (bytes ≡ encode_utf8 c ++ rest)
    by_char None e k = absurd cc
    by_char (Some c) e k = let s = SpellsChar-decoded bytes c e in (c, _, s.scalar, k, s.bytes)
