-- An empty array where an array is wanted.
use Rattle.std.proofs.Common.{◌≡◌, ◌+◌, ◌≤◌, ◌<◌, ◌^◌, ◌-◌, ℕ, List, [], ◌++◌, drop, arith, refl, sym, ap, ◌∙◌, subst, append-nil, lt-ltb, le-ltb}
use Rattle.std.specs.Prelude.{Bool, true, false, cond, min, Option, Some, None, Ok, Err}
use Rattle.fut_scalar.specs.declared.scalar.ScalarType.{ScalarType}
use Rattle.fut_value.specs.Values.{greatest_weight, weight_of}
use Rattle.fut_scalar.specs.declared.scalar.IntType.{IntType}
use Rattle.value_text.specs.Arrays.{dimensions_as, empty_as, form_as_array, in_limits, is_wanted_empty, other_than_rows, spelled_as_array}
use Rattle.value_text.specs.Gaps.{gap_at}
use Rattle.value_text.specs.Gives.{Gives, Refused_so}
use Rattle.value_text.specs.Spelled.{spelled_at}
use Rattle.value_text.specs.Written.{first_beyond, sizes_of, written}
use Rattle.value_text.specs.declared.reading.TextErr.{TextErr}
use Rattle.value_text.specs.declared.reading.TextErr.TheVariants as text
use Rattle.value_text.specs.declared.spelled.Form.TheVariants as form
use Rattle.value_text.specs.declared.spelled.Spelled.{Spelled}
use Rattle.value_text.proofs.Rows.{carry, refused_is}

module _ (ty : ScalarType) (rank position from : ℕ) (bytes own after : List ℕ) (is_own : own ≡ [] ++ sizes_of (written bytes).all) (is_after : after ≡ drop (written bytes).end bytes) where
  by_wanted : (n : ℕ) (t : Bool) → is_wanted_empty ty rank own after ≡ t → empty_as ty rank position from n bytes ≡ cond t (in_limits position from n own (first_beyond (written bytes).all)) (Err (text.WrongType position))
  unfolding empty_as
  by_wanted n t h =
      ap (λ a. dimensions_as ty rank position from n (written bytes) a) (sym is_after)
      ∙ ap (λ s. cond (is_wanted_empty ty rank s after) (in_limits position from n s (first_beyond (written bytes).all)) (Err (text.WrongType position))) (sym is_own)
      ∙ ap (λ b. cond b (in_limits position from n own (first_beyond (written bytes).all)) (Err (text.WrongType position))) h

  pub not_wanted : (n : ℕ) (err : TextErr) → is_wanted_empty ty rank own after ≡ false → err ≡ text.WrongType position → Refused_so (empty_as ty rank position from n bytes) err
  not_wanted n err h e = refused_is (empty_as ty rank position from n bytes) err (by_wanted n false h ∙ ap Err (sym e))

  pub too_great : (n : ℕ) (err : TextErr) (offset : ℕ) → is_wanted_empty ty rank own after ≡ true → Some offset ≡ first_beyond (written bytes).all → err ≡ text.OutOfRange (from + offset)
      → Refused_so (empty_as ty rank position from n bytes) err
  too_great n err offset h o e = refused_is (empty_as ty rank position from n bytes) err (by_wanted n true h ∙ ap (in_limits position from n own) (sym o) ∙ ap Err (sym e))

  pub too_large : (n : ℕ) (err : TextErr) (all : ℕ) → is_wanted_empty ty rank own after ≡ true → None ≡ first_beyond (written bytes).all → all ≡ min (weight_of own) (2 ^ 64 - 1) → 33554432 < all → err ≡ text.TooLarge position
      → Refused_so (empty_as ty rank position from n bytes) err
  too_large n err all h o w l e =
      refused_is (empty_as ty rank position from n bytes) err
      (by_wanted n true h ∙ ap (in_limits position from n own) (sym o) ∙ ap (λ t. cond t (Err (text.TooLarge position)) (Ok (record { sizes = own; words = []; length = n }))) (lt-ltb greatest_weight (weight_of own) (omega (arith, w, l))) ∙ ap Err (sym e))

  pub given : (n : ℕ) (ws old new : List ℕ) (all : ℕ) → is_wanted_empty ty rank own after ≡ true → None ≡ first_beyond (written bytes).all → all ≡ min (weight_of own) (2 ^ 64 - 1) → all ≤ 33554432 → new ≡ old ++ own
      → Gives (empty_as ty rank position from n bytes) ws ws old new n
  given n ws old new all h o w l e = record {
    read = record { sizes = own; words = []; length = n };
    is = by_wanted n true h ∙ ap (in_limits position from n own) (sym o) ∙ ap (λ t. cond t (Err (text.TooLarge position)) (Ok (record { sizes = own; words = []; length = n }))) (le-ltb greatest_weight (weight_of own) (omega (arith, w, l)));
    long = refl;
    words_behind = sym (append-nil ws);
    sizes_behind = e;
  }

pub ruleset empties = (not_wanted, too_great, too_large, given)

-- ---- behind the word

module _ (ty : ScalarType) (rank position : ℕ) (bytes : List ℕ) where
  pub not_spelled : (offset : ℕ) (err : TextErr) → Err offset ≡ spelled_at bytes → err ≡ text.BadText (position + offset) → Refused_so (other_than_rows ty rank position bytes) err
  unfolding other_than_rows
  not_spelled offset err h e = refused_is (other_than_rows ty rank position bytes) err (ap (spelled_as_array ty rank position bytes) (sym h) ∙ ap Err (sym e))

  module _ (s : Spelled) (h : Ok s ≡ spelled_at bytes) where
    pub integer_there : (negative : Bool) (n : ℕ) (suffix : Option IntType) (err : TextErr) → s.form ≡ form.Integer negative n suffix → err ≡ text.WrongType position → Refused_so (other_than_rows ty rank position bytes) err
    unfolding other_than_rows
    integer_there negative n suffix err f e =
        refused_is (other_than_rows ty rank position bytes) err (ap (spelled_as_array ty rank position bytes) (sym h) ∙ ap (form_as_array ty rank position s.length (drop 5 bytes)) f ∙ ap Err (sym e))

    pub truth_there : (b : Bool) (err : TextErr) → s.form ≡ form.Truth b → err ≡ text.WrongType position → Refused_so (other_than_rows ty rank position bytes) err
    unfolding other_than_rows
    truth_there b err f e =
        refused_is (other_than_rows ty rank position bytes) err (ap (spelled_as_array ty rank position bytes) (sym h) ∙ ap (form_as_array ty rank position s.length (drop 5 bytes)) f ∙ ap Err (sym e))

    module _ (word inner : List ℕ) (gap from : ℕ) (f : s.form ≡ form.Array) (is_word : word ≡ drop 5 bytes) (is_gap : gap ≡ gap_at word) (is_inner : inner ≡ drop (gap + 1) word) (is_from : from ≡ position + 5 + (gap + 1)) where
      same : other_than_rows ty rank position bytes ≡ empty_as ty rank position from s.length inner
      unfolding other_than_rows
      same =
          ap (spelled_as_array ty rank position bytes) (sym h) ∙ ap (form_as_array ty rank position s.length (drop 5 bytes)) f
          ∙ ap (λ w. empty_as ty rank position (position + 5 + (gap_at w + 1)) s.length (drop (gap_at w + 1) w)) (sym is_word)
          ∙ ap (λ g. empty_as ty rank position (position + 5 + (g + 1)) s.length (drop (g + 1) word)) (sym is_gap)
          ∙ ap (λ k. empty_as ty rank position k s.length (drop (gap + 1) word)) (sym is_from)
          ∙ ap (empty_as ty rank position from s.length) (sym is_inner)

      pub empty_refused : (err : TextErr) → ((n : ℕ) → Refused_so (empty_as ty rank position from n inner) err) → Refused_so (other_than_rows ty rank position bytes) err
      empty_refused err r = carry (empty_as ty rank position from s.length inner) (other_than_rows ty rank position bytes) (λ e k. same ∙ k) err (r s.length)

      pub empty_gives : (ws old new : List ℕ) → ((n : ℕ) (ws : List ℕ) → Gives (empty_as ty rank position from n inner) ws ws old new n) → Gives (other_than_rows ty rank position bytes) ws ws old new s.length
      empty_gives ws old new g = subst (λ r. Gives r ws ws old new s.length) (sym same) (g s.length ws)

pub ruleset others = (not_spelled, integer_there, truth_there, empty_refused, empty_gives)
