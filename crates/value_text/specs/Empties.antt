-- How an empty array is spelled behind the word `empty`: `(`, its dimensions in brackets, the name of its scalar type, `)`.
use Rattle.std.specs.Prelude.{ℕ, zero, suc, ◌+◌, cond, max, ◌==◌, List, length, drop, Option, Some, None, Result, Ok, Err, codes}
use Rattle.std.specs.List.{prefix_len}
use Rattle.fut_scalar.specs.declared.scalar.IntType.{IntType}
use Rattle.value_text.specs.Gaps.{begins_with, gap_at}
use Rattle.value_text.specs.Words.{is_digit, common, is_word, name_of, type_at, type_front}

-- what reads a part answers how many bytes it takes, or how many at the front begin such a part
abbrev pub Part : Type 0
Part = List ℕ → Result ℕ ℕ

abbrev pub shift : ℕ → Result ℕ ℕ → Result ℕ ℕ
shift n (Ok m) = Ok (n + m)
shift n (Err m) = Err (n + m)

abbrev pub and_behind : Result ℕ ℕ → (ℕ → Result ℕ ℕ) → Result ℕ ℕ
and_behind (Ok n) next = shift n (next n)
and_behind (Err n) next = Err n

-- one part, and then the next one
abbrev pub then_part : Part → Part → Part
then_part first next bytes = and_behind (first bytes) (λ n. next (drop n bytes))

-- each part may have blanks and comments before it
unfoldable pub mark : ℕ → Part
mark c bytes = cond (begins_with c (drop (gap_at bytes) bytes)) (Ok (gap_at bytes + 1)) (Err (gap_at bytes))

unfoldable pub digit_len : List ℕ → ℕ
digit_len bytes = prefix_len is_digit bytes

unfoldable pub digits : Part
digits bytes = cond (digit_len (drop (gap_at bytes) bytes) == 0) (Err (gap_at bytes)) (Ok (gap_at bytes + digit_len (drop (gap_at bytes) bytes)))

abbrev pub name_or_bool : Option IntType → Part
name_or_bool (Some ty) bytes = Ok (length (name_of ty))
name_or_bool None bytes = cond (is_word bytes (codes "bool")) (Ok 4) (Err (max (type_front bytes) (common bytes (codes "bool"))))

-- the name of a scalar type at the front
unfoldable pub scalar_at : Part
scalar_at bytes = name_or_bool (type_at bytes) bytes

unfoldable pub scalar_name : Part
scalar_name bytes = shift (gap_at bytes) (scalar_at (drop (gap_at bytes) bytes))

abbrev pub size : Part
size = then_part digits (mark 93)

unfoldable pub dimension : Part
dimension = then_part (mark 91) size

-- dimensions up to what is none, and at most so many
abbrev pub dimensions_up_to : ℕ → Part
dimensions_up_to zero bytes = Ok 0
dimensions_up_to (suc n) bytes = cond (begins_with 91 (drop (gap_at bytes) bytes)) (then_part dimension (dimensions_up_to n) bytes) (Ok 0)

-- no text has more dimensions than bytes
unfoldable pub dimensions : Part
dimensions bytes = dimensions_up_to (length bytes) bytes

abbrev pub ending : Part
ending = then_part scalar_name (mark 41)

unfoldable pub empty_len : Part
empty_len = then_part (mark 40) (then_part dimension (then_part dimensions ending))
