-- Integers without a sign: decimal, hexadecimal or binary, with underscores between the digits, and below 2^64.
use Rattle.std.specs.Prelude.{ℕ, ◌+◌, ◌-◌, ◌*◌, ◌^◌, Bool, false, cond, nat_lt, nat_le, ◌==◌, ◌&&◌, ◌||◌, List, [], ◌∷◌, take, Result, Ok, Err}
use Rattle.std.specs.List.{prefix_len}
use Rattle.value_text.specs.Words.{is_digit}
use Rattle.value_text.specs.declared.numbers.Base.{Base}
use Rattle.value_text.specs.declared.numbers.Base.TheVariants.{Decimal, Hexadecimal, Binary}
use Rattle.value_text.specs.declared.numbers.Number.{Number}

abbrev pub radix : Base → ℕ
radix Decimal = 10
radix Hexadecimal = 16
radix Binary = 2

-- `0x` stands before hexadecimal digits, `0b` before binary ones
abbrev pub prefix_of : Base → ℕ
prefix_of Decimal = 0
prefix_of Hexadecimal = 2
prefix_of Binary = 2

abbrev pub base_at : List ℕ → Base
base_at [] = Decimal
base_at (z ∷ []) = Decimal
base_at (z ∷ x ∷ bs) = cond (z == 48 && x == 120) Hexadecimal (cond (z == 48 && x == 98) Binary Decimal)

abbrev pub is_digit_of : Base → ℕ → Bool
is_digit_of Decimal b = is_digit b
is_digit_of Hexadecimal b = is_digit b || (nat_le 97 b && nat_le b 102) || (nat_le 65 b && nat_le b 70)
is_digit_of Binary b = b == 48 || b == 49

abbrev pub is_in_number : Base → ℕ → Bool
is_in_number base b = is_digit_of base b || b == 95

-- of a digit in any base
abbrev pub digit_of : ℕ → ℕ
digit_of b = cond (nat_le b 57) (b - 48) (cond (nat_le b 70) (b - 55) (b - 87))

-- the value of a number and the digits behind it, passing over underscores
abbrev pub value_on : Base → ℕ → List ℕ → ℕ
value_on base n [] = n
value_on base n (b ∷ bs) = cond (b == 95) (value_on base n bs) (value_on base (radix base * n + digit_of b) bs)

-- the value of a number and the digits behind it, or the position of the first digit with which it reaches 2^64
abbrev pub number_on : Base → (value position : ℕ) → List ℕ → Result ℕ ℕ
number_on base value position [] = Ok value
number_on base value position (d ∷ ds) =
    cond (d == 95) (number_on base value (position + 1) ds)
    (cond (nat_lt (radix base * value + digit_of d) (2 ^ 64)) (number_on base (radix base * value + digit_of d) (position + 1) ds) (Err position))

abbrev pub starts_digit : Base → List ℕ → Bool
starts_digit base [] = false
starts_digit base (b ∷ bs) = is_digit_of base b

abbrev pub ends_in_underscore : List ℕ → Bool
ends_in_underscore [] = false
ends_in_underscore (b ∷ []) = b == 95
ends_in_underscore (b ∷ c ∷ bs) = ends_in_underscore (c ∷ bs)

unfoldable pub number_len : Base → List ℕ → ℕ
number_len base bytes = prefix_len (is_in_number base) bytes

-- digits whose value is known, if a digit is the last of them
abbrev pub number_of : (position run : ℕ) → List ℕ → Result ℕ ℕ → Result Number ℕ
number_of position run digits (Ok value) = cond (ends_in_underscore digits) (Err (position + run)) (Ok (record { value = value; length = run }))
number_of position run digits (Err at) = Err at

-- the number at the front of a text that begins at this position, or the position of the first byte that continues none
unfoldable pub number_at : Base → (position : ℕ) → List ℕ → Result Number ℕ
number_at base position bytes =
    cond (starts_digit base bytes)
    (number_of position (number_len base bytes) (take (number_len base bytes) bytes) (number_on base 0 position (take (number_len base bytes) bytes)))
    (Err position)
