-- One value more, or a refusal, behind values that are read already.
use Rattle.std.proofs.Common.{◌≡◌, ◌+◌, ◌<◌, ◌≤◌, ℕ, arith, get_or, List, [], ◌∷◌, ◌++◌, length, drop, refl, sym, ap, ◌∙◌, append_assoc, append-nil}
use Rattle.std.specs.Prelude.{Ok, Err, ℤ, nat_eq}
use Rattle.std.specs.Map.{lookup}
use Rattle.std.proofs.lemmas.List.{drop_all, drop_more}
use Rattle.fut_scalar.specs.declared.sizes.ArgType.{ArgType}
use Rattle.fut_value.specs.declared.value.Value.{Value}
use Rattle.value_text.specs.Arguments.{Explains, Reader, Reads, Values, arguments_in, in_agreement, nothing_at, value_at, value_of, values_on, with_front}
use Rattle.value_text.specs.Arrays.{and_then, read_at}
use Rattle.value_text.specs.Gaps.{gap_at}
use Rattle.value_text.specs.Gives.{Gives, Refused_so, Value_gives}
use Rattle.value_text.specs.Sizes.{Known, found, values_for}
use Rattle.value_text.specs.declared.reading.TextErr.{TextErr}
use Rattle.value_text.specs.declared.reading.TextErr.TheVariants as text
use Rattle.value_text.proofs.Rows.{carry, first_err, refused_is}

-- ---- one value

module _ (wanted : ArgType) (param position : ℕ) (bytes : List ℕ) where
  opened : (others : Reader) → 0 < length bytes
      → value_at wanted others param position bytes ≡ and_then (read_at wanted.elem (length wanted.dims) position bytes) (λ read. with_front (value_of wanted read) (others (param + 1) (position + read.length) (drop read.length bytes)))
  opened others some = by_bytes bytes some
    where
      by_bytes : (bytes : List ℕ) → 0 < length bytes
          → value_at wanted others param position bytes ≡ and_then (read_at wanted.elem (length wanted.dims) position bytes) (λ read. with_front (value_of wanted read) (others (param + 1) (position + read.length) (drop read.length bytes)))
      by_bytes [] h = absurd (omega arith)
      by_bytes (b ∷ bs) h = refl

  pub missing : (others : Reader) (err : TextErr) → length bytes ≡ 0 → err ≡ text.Missing param → Refused_so (value_at wanted others param position bytes) err
  missing others err none e = refused_is (value_at wanted others param position bytes) err (by_bytes bytes none ∙ ap Err (sym e))
    where
      by_bytes : (bytes : List ℕ) → length bytes ≡ 0 → value_at wanted others param position bytes ≡ Err (text.Missing param)
      by_bytes [] h = refl
      by_bytes (b ∷ bs) h = absurd (omega arith)

  pub unread : (others : Reader) (err : TextErr) → 0 < length bytes → Refused_so (read_at wanted.elem (length wanted.dims) position bytes) err → Refused_so (value_at wanted others param position bytes) err
  unread others err some r =
      carry (read_at wanted.elem (length wanted.dims) position bytes) (value_at wanted others param position bytes)
      (λ e k. opened others some ∙ ap (λ x. and_then x (λ read. with_front (value_of wanted read) (others (param + 1) (position + read.length) (drop read.length bytes)))) k) err r

  pub was_read : (words sizes : List ℕ) (n : ℕ) (value : Value) → 0 < length bytes → Gives (read_at wanted.elem (length wanted.dims) position bytes) [] words [] sizes n → value ≡ record { shape = record { elem = wanted.elem; sizes = sizes }; words = words }
      → Value_gives wanted param position bytes value n
  was_read words sizes n value some g e = λ others.
      opened others some
      ∙ ap (λ x. and_then x (λ read. with_front (value_of wanted read) (others (param + 1) (position + read.length) (drop read.length bytes)))) g.is
      ∙ ap (λ k. with_front (value_of wanted g.read) (others (param + 1) (position + k) (drop k bytes))) (sym g.long)
      ∙ ap (λ v. with_front v (others (param + 1) (position + n) (drop n bytes))) (same ∙ sym e)
    where
      same : value_of wanted g.read ≡ record { shape = record { elem = wanted.elem; sizes = sizes }; words = words }
      same =
          ap (λ ws. record { shape = record { elem = wanted.elem; sizes = g.read.sizes }; words = ws }) (sym g.words_behind)
          ∙ ap (λ ns. record { shape = record { elem = wanted.elem; sizes = ns }; words = words }) (sym g.sizes_behind)

pub ruleset one_value = (missing, unread, was_read)

-- ---- values one after the other

-- what is read behind values that are read already
abbrev pub behind_front : List Value → Values → Values
behind_front front (Ok values) = Ok (front ++ values)
behind_front front (Err err) = Err err

pub none_before : (values : Values) → behind_front [] values ≡ values
none_before (Ok values) = refl
none_before (Err err) = refl

shift : (values : List Value) (v : Value) (rest : Values) → behind_front (values ++ v ∷ []) rest ≡ behind_front values (with_front v rest)
shift values v (Ok others) = ap Ok (append_assoc values (v ∷ []) others)
shift values v (Err err) = refl

module _ (types : List ArgType) (i : ℕ) (values : List Value) (position : ℕ) (bytes : List ℕ) (whole : Values) (t : ArgType) (gap : ℕ) (front : List ℕ)
    (here : drop i types ≡ t ∷ drop (i + 1) types) (same : behind_front values (values_on (drop i types) (i + 1) position bytes) ≡ whole) (is_gap : gap ≡ gap_at bytes) (is_front : front ≡ drop gap bytes) where
  -- what is read from here on is a value of this type, and then the others
  here_is : behind_front values (value_at t (values_on (drop (i + 1) types)) (i + 1) (position + gap) front) ≡ whole
  here_is =
      let next = rw here at same in
      rw (is_front, is_gap) next

  pub refused : (err : TextErr) → ((others : Reader) → Refused_so (value_at t others (i + 1) (position + gap) front) err) → Refused_so whole err
  refused err r =
      let others = values_on (drop (i + 1) types) in
      carry (value_at t others (i + 1) (position + gap) front) whole (λ e k. sym here_is ∙ ap (behind_front values) k) err (r others)

  pub followed : (v : Value) (n : ℕ) (rest : List ℕ) → rest ≡ drop n front → Value_gives t (i + 1) (position + gap) front v n
      → behind_front (values ++ v ∷ []) (values_on (drop (i + 1) types) (i + 1 + 1) (position + gap + n) rest) ≡ whole
  followed v n rest is_rest gives =
      rw is_rest (shift values v _ ∙ sym (ap (behind_front values) (gives (values_on (drop (i + 1) types)))) ∙ here_is)

module _ (types : List ArgType) (i position gap : ℕ) (values : List Value) (bytes : List ℕ) (whole : Values) (none : drop i types ≡ []) (same : behind_front values (values_on (drop i types) (i + 1) position bytes) ≡ whole) (is_gap : gap ≡ gap_at bytes) where
  at_end : behind_front values (nothing_at (position + gap) (drop gap bytes)) ≡ whole
  at_end =
      let here = rw none at same in
      rw is_gap here

  -- behind the last value something else than blanks stands
  pub extra : (err : TextErr) → gap < length bytes → err ≡ text.Extra (position + gap) → Refused_so whole err
  extra err more e =
      let some : drop gap bytes ≡ get_or bytes gap 0 ∷ drop (gap + 1) bytes = drop_more bytes gap 0 more in
      refused_is whole err (sym at_end ∙ ap (λ b. behind_front values (nothing_at (position + gap) b)) some ∙ ap Err (sym e))

  pub all_read : length bytes ≤ gap → whole ≡ Ok values
  all_read l = sym at_end ∙ ap (λ b. behind_front values (nothing_at (position + gap) b)) (drop_all gap bytes l) ∙ ap Ok (append-nil values)

-- ---- sizes after all

module _ (types : List ArgType) (bytes : List ℕ) (values : List Value) (reads : values_on types 1 0 bytes ≡ Ok values) where
  pub agreed : (known : Known) → values_for 1 types values [] ≡ Ok known → Reads types bytes values
  agreed known h = ap (λ r. and_then r (λ vs. in_agreement types vs (values_for 1 types vs []))) reads ∙ ap (in_agreement types values) h

  clashed_is : (err : TextErr) → values_for 1 types values [] ≡ Err err → arguments_in types bytes ≡ Err err
  clashed_is err h = ap (λ r. and_then r (λ vs. in_agreement types vs (values_for 1 types vs []))) reads ∙ ap (in_agreement types values) h

  pub clashed : (err : TextErr) → Refused_so (values_for 1 types values []) err → Refused_so (arguments_in types bytes) err
  clashed err r = carry (values_for 1 types values []) (arguments_in types bytes) clashed_is err r

pub not_read : (types : List ArgType) (bytes : List ℕ) (err : TextErr) → Refused_so (values_on types 1 0 bytes) err → Refused_so (arguments_in types bytes) err
not_read types bytes err r = carry (values_on types 1 0 bytes) (arguments_in types bytes) (λ e k. first_err (values_on types 1 0 bytes) (λ vs. in_agreement types vs (values_for 1 types vs [])) e k) err r

pub explains : (types : List ArgType) (bytes : List ℕ) (err : TextErr) → Refused_so (arguments_in types bytes) err → Explains types bytes err
explains types bytes text.Memory h = tt
explains types bytes (text.BadText at) h = h
explains types bytes (text.WrongType at) h = h
explains types bytes (text.OutOfRange at) h = h
explains types bytes (text.Irregular at) h = h
explains types bytes (text.TooLarge at) h = h
explains types bytes (text.SizeClash param have want) h = h
explains types bytes (text.Missing param) h = h
explains types bytes (text.Extra at) h = h

-- an empty map knows nothing
pub none_known : (entries : List (ℕ × ℤ)) (name : ℕ) → entries ≡ [] → found name [] ≡ lookup (nat_eq name) entries
none_known entries name e = sym (ap (lookup (nat_eq name)) e)
