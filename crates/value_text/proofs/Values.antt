-- Digits one after the other; and one value more, or a refusal, behind values that are read already.
use Rattle.std.proofs.Common.{◌≡◌, ◌+◌, ◌-◌, ◌<◌, ◌≤◌, ℕ, zero, suc, eqb, arith, get_or, length-drop, List, [], ◌∷◌, ◌++◌, length, map, take, drop, refl, sym, ap, ◌∙◌, append_assoc}
use Rattle.std.specs.Prelude.{Ok, Err}
use Rattle.std.proofs.lemmas.List.{drop_more, take_more, map-append}
use Rattle.fut_scalar.specs.declared.scalar.Scalar.{Scalar}
use Rattle.fut_scalar.specs.declared.scalar.ScalarType.{ScalarType}
use Rattle.fut_arithmetic.specs.Types.{type_of}
use Rattle.value_text.specs.Gaps.{gap_at}
use Rattle.value_text.specs.Numbers.{ends_in_underscore}
use Rattle.value_text.specs.Reading.{Values, values_on, value_at, with_front, Reader, Refuses, Explains}
use Rattle.value_text.specs.declared.reading.TextErr.{TextErr}
use Rattle.value_text.specs.declared.reading.TextErr.TheVariants as text

pub last_underscore : (bs : List ℕ) (n : ℕ) → length bs ≡ suc n → ends_in_underscore bs ≡ eqb (get_or bs n 0) 95
last_underscore [] n e = absurd (omega arith)
last_underscore (b ∷ []) zero e = refl
last_underscore (b ∷ []) (suc n) e = absurd (omega arith)
last_underscore (b ∷ c ∷ bs) zero e = absurd (omega arith)
last_underscore (b ∷ c ∷ bs) (suc n) e = last_underscore (c ∷ bs) n (omega arith)

-- what is read behind values that are read already
abbrev pub behind_front : List Scalar → Values → Values
behind_front front (Ok values) = Ok (front ++ values)
behind_front front (Err err) = Err err

pub explains : (types : List ScalarType) (bytes : List ℕ) (err : TextErr) → Refuses types bytes err → Explains types bytes err
explains types bytes text.Memory h = tt
explains types bytes (text.BadText position) h = h
explains types bytes (text.WrongType position) h = h
explains types bytes (text.OutOfRange position) h = h
explains types bytes (text.Irregular position) h = h
explains types bytes (text.TooLarge position) h = h
explains types bytes (text.SizeClash param have want) h = h
explains types bytes (text.Missing param) h = h
explains types bytes (text.Extra position) h = h

shift : (values : List Scalar) (v : Scalar) (rest : Values) → behind_front (values ++ v ∷ []) rest ≡ behind_front values (with_front v rest)
shift values v (Ok others) = ap Ok (append_assoc values (v ∷ []) others)
shift values v (Err err) = refl

module _ (types : List ScalarType) (i : ℕ) (values : List Scalar) (position : ℕ) (bytes : List ℕ) (whole : Values) (ty : ScalarType) (gap : ℕ) (front : List ℕ) where
  -- what is read from here on is a value of this type, and then the others
  opened : drop i types ≡ ty ∷ drop (i + 1) types → behind_front values (values_on (drop i types) (i + 1) position bytes) ≡ whole →
      gap ≡ gap_at bytes → front ≡ drop gap bytes →
      behind_front values (value_at ty (values_on (drop (i + 1) types)) (i + 1) (position + gap) front) ≡ whole
  opened here same is_gap is_front =
      let next = rw here at same in
      rw (is_front, is_gap) next

  pub refused : (err : TextErr) → drop i types ≡ ty ∷ drop (i + 1) types → behind_front values (values_on (drop i types) (i + 1) position bytes) ≡ whole →
      gap ≡ gap_at bytes → front ≡ drop gap bytes →
      ((others : Reader) → value_at ty others (i + 1) (position + gap) front ≡ Err err) → whole ≡ Err err
  refused err here same is_gap is_front gives =
      sym (opened here same is_gap is_front) ∙ ap (behind_front values) (gives (values_on (drop (i + 1) types)))

  pub followed : (v : Scalar) (n : ℕ) (rest : List ℕ) → drop i types ≡ ty ∷ drop (i + 1) types → behind_front values (values_on (drop i types) (i + 1) position bytes) ≡ whole →
      gap ≡ gap_at bytes → front ≡ drop gap bytes → rest ≡ drop n front →
      ((others : Reader) → value_at ty others (i + 1) (position + gap) front ≡ with_front v (others (i + 1 + 1) (position + gap + n) (drop n front))) →
      behind_front (values ++ v ∷ []) (values_on (drop (i + 1) types) (i + 1 + 1) (position + gap + n) rest) ≡ whole
  followed v n rest here same is_gap is_front is_rest gives =
      rw is_rest (shift values v _ ∙ sym (ap (behind_front values) (gives (values_on (drop (i + 1) types)))) ∙ opened here same is_gap is_front)

pub count_step : (position gap n total : ℕ) (bytes front rest : List ℕ) → position + length bytes ≡ total → gap ≤ length bytes → n ≤ length front →
    front ≡ drop gap bytes → rest ≡ drop n front → position + gap + n + length rest ≡ total
count_step position gap n total bytes front rest whole p q is_front is_rest =
    let a : length front ≡ length bytes - gap = ap length is_front ∙ length-drop gap bytes in
    let b : length rest ≡ length front - n = ap length is_rest ∙ length-drop n front in
    omega arith

-- behind the last value something else than blanks stands
pub extra : (types : List ScalarType) (i position gap : ℕ) (values : List Scalar) (bytes : List ℕ) (whole : Values) →
    drop i types ≡ [] → behind_front values (values_on (drop i types) (i + 1) position bytes) ≡ whole → gap ≡ gap_at bytes → gap < length bytes →
    whole ≡ Err (text.Extra (position + gap))
extra types i position gap values bytes whole none same is_gap more =
    let here = rw none at same in
    let some : drop gap bytes ≡ get_or bytes gap 0 ∷ drop (gap + 1) bytes = drop_more bytes gap 0 more in
    let there = rw (← is_gap, some) at here in
    sym there

pub one_type : (types : List ScalarType) (i : ℕ) (d : ScalarType) (values : List Scalar) (v : Scalar) → i < length types → map type_of values ≡ take i types → type_of v ≡ get_or types i d → map type_of (values ++ v ∷ []) ≡ take (i + 1) types
one_type types i d values v within same e =
    map-append type_of values (v ∷ []) ∙ ap (λ ts. ts ++ type_of v ∷ []) same ∙ ap (λ t. take i types ++ t ∷ []) e ∙ sym (take_more types i d within)
