-- The digits and the value of an integer.
use Rattle.std.specs.Prelude.{ℕ, ◌+◌, ◌-◌, ◌*◌, Bool, false, ◌&&◌, ◌||◌, ◌==◌, List, [], ◌∷◌, nat_le, if◌then◌else◌}
use Rattle.fut_lexer.specs.declared.number.Base.{Base}
use Rattle.fut_lexer.specs.declared.number.Base.TheVariants as base
use Rattle.fut_lexer.specs.Words.{is_digit}

abbrev pub radix : Base → ℕ
radix base.Decimal = 10
radix base.Hexadecimal = 16
radix base.Binary = 2

unfoldable pub is_digit_of : Base → ℕ → Bool
is_digit_of base.Decimal c = is_digit c
is_digit_of base.Hexadecimal c = is_digit c || (nat_le 97 c && nat_le c 102) || (nat_le 65 c && nat_le c 70)
is_digit_of base.Binary c = c == 48 || c == 49

-- Underscores may stand between the digits.
unfoldable pub is_in_number : Base → ℕ → Bool
is_in_number b c = is_digit_of b c || c == 95

-- of a digit in any base
unfoldable pub digit_of : ℕ → ℕ
digit_of c = if nat_le c 57 then c - 48 else if nat_le c 70 then c - 55 else c - 87

-- the value of a number n and the digits behind it, which passes over underscores
abbrev pub value_on : Base → ℕ → List ℕ → ℕ
value_on b n [] = n
value_on b n (c ∷ cs) = if c == 95 then value_on b n cs else value_on b (n * radix b + digit_of c) cs

abbrev pub value : Base → List ℕ → ℕ
value b cs = value_on b 0 cs

abbrev pub ends_in_underscore : List ℕ → Bool
ends_in_underscore [] = false
ends_in_underscore (c ∷ []) = c == 95
ends_in_underscore (c ∷ d ∷ cs) = ends_in_underscore (d ∷ cs)

abbrev pub starts_digit : Base → List ℕ → Bool
starts_digit b [] = false
starts_digit b (c ∷ cs) = is_digit_of b c

-- `f16`, `f32` or `f64`
abbrev pub begins_float_suffix : List ℕ → Bool
begins_float_suffix [] = false
begins_float_suffix (a ∷ []) = false
begins_float_suffix (a ∷ b ∷ []) = false
begins_float_suffix (a ∷ b ∷ c ∷ cs) = a == 102 && ((b == 49 && c == 54) || (b == 51 && c == 50) || (b == 54 && c == 52))

-- `.` and a digit, or `e` or `E` and a digit or a sign
abbrev pub begins_fraction : List ℕ → Bool
begins_fraction [] = false
begins_fraction (a ∷ []) = false
begins_fraction (a ∷ b ∷ cs) = (a == 46 && is_digit b) || ((a == 101 || a == 69) && (is_digit b || b == 43 || b == 45))

-- A decimal integer with this directly behind it is a float. The next characters alone are looked at.
unfoldable pub is_float : Base → List ℕ → Bool
is_float base.Decimal rest = begins_fraction rest || begins_float_suffix rest
is_float base.Hexadecimal rest = false
is_float base.Binary rest = false

-- `0x` or `0b` and a digit of that base
abbrev pub begins_in : ℕ → Base → List ℕ → Bool
begins_in letter b [] = false
begins_in letter b (z ∷ []) = false
begins_in letter b (z ∷ x ∷ cs) = z == 48 && x == letter && starts_digit b cs
