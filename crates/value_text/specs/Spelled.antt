-- How values are spelled: an integer with an optional `-` and an optional type behind it, `true`, `false`; `empty(..)`, which is read
-- to its end; and of any other array its `[`.
use Rattle.std.specs.Prelude.{ℕ, ◌+◌, true, false, cond, max, ◌==◌, ◌||◌, List, [], ◌∷◌, drop, Result, Ok, Err, codes}
use Rattle.value_text.specs.Empties.{empty_len}
use Rattle.value_text.specs.Words.{is_digit, common, is_word, suffix_at}
use Rattle.value_text.specs.Numbers.{prefix_of, base_at, number_at}
use Rattle.value_text.specs.declared.numbers.Number.{Number}
use Rattle.value_text.specs.declared.spelled.Form.TheVariants as form
use Rattle.value_text.specs.declared.spelled.Spelled.{Spelled}
use Rattle.value_text.specs.declared.words.Suffix.{Suffix}

-- 1 where a `-` stands at the front
abbrev pub minus_at : List ℕ → ℕ
minus_at [] = 0
minus_at (b ∷ bs) = cond (b == 45) 1 0

abbrev pub integer_of_suffix : (minus before magnitude : ℕ) → Result Suffix ℕ → Result Spelled ℕ
integer_of_suffix minus before magnitude (Ok suffix) = Ok (record { form = form.Integer (minus == 1) magnitude suffix.ty; length = before + suffix.length })
integer_of_suffix minus before magnitude (Err offset) = Err (before + offset)

abbrev pub integer_of_number : (minus skip : ℕ) → List ℕ → Result Number ℕ → Result Spelled ℕ
integer_of_number minus skip digits (Ok number) = integer_of_suffix minus (skip + number.length) number.value (suffix_at (drop number.length digits))
integer_of_number minus skip digits (Err at) = Err at

-- behind the sign
abbrev pub unsigned_at : (minus : ℕ) → List ℕ → Result Spelled ℕ
unsigned_at minus bytes =
    integer_of_number minus (minus + prefix_of (base_at bytes)) (drop (prefix_of (base_at bytes)) bytes)
    (number_at (base_at bytes) (minus + prefix_of (base_at bytes)) (drop (prefix_of (base_at bytes)) bytes))

unfoldable pub integer_at : List ℕ → Result Spelled ℕ
integer_at bytes = unsigned_at (minus_at bytes) (drop (minus_at bytes) bytes)

-- how many bytes at the front begin a word that begins a value
unfoldable pub word_front : List ℕ → ℕ
word_front bytes = max (common bytes (codes "true")) (max (common bytes (codes "false")) (common bytes (codes "empty")))

abbrev pub empty_array : Result ℕ ℕ → Result Spelled ℕ
empty_array (Ok n) = Ok (record { form = form.Array; length = 5 + n })
empty_array (Err n) = Err (5 + n)

unfoldable pub word_at : List ℕ → Result Spelled ℕ
word_at bytes =
    cond (is_word bytes (codes "true")) (Ok (record { form = form.Truth true; length = 4 }))
    (cond (is_word bytes (codes "false")) (Ok (record { form = form.Truth false; length = 5 }))
    (cond (is_word bytes (codes "empty")) (empty_array (empty_len (drop 5 bytes))) (Err (word_front bytes))))

abbrev pub spelled_by : ℕ → List ℕ → Result Spelled ℕ
spelled_by b bytes = cond (b == 91) (Ok (record { form = form.Array; length = 1 })) (cond (b == 45 || is_digit b) (integer_at bytes) (word_at bytes))

-- the value at the front, or how many bytes at the front begin a value
abbrev pub spelled_at : List ℕ → Result Spelled ℕ
spelled_at [] = Err 0
spelled_at (b ∷ bs) = spelled_by b (b ∷ bs)
