-- The loop over the bytes of a name.
use Rattle.std.proofs.Common.{◌≡◌, ℕ, ◌+◌, ◌<◌, ◌≤◌, List, length, drop, drop_of_length-le, slice_index_or, refl, sym, ap}
use Rattle.elab_scopes.specs.Numbers.{digits_from, digits_of, one_more}
use Rattle.elab_scopes.proofs.Slices.{from_index}

pub begins : (x : List ℕ) → digits_from 0 x ≡ digits_of x
unfolding digits_of
begins x = refl

pub goes_on : (n i : ℕ) (xs : List ℕ) → i < length xs → digits_from (one_more n (slice_index_or xs i 0)) (drop (i + 1) xs) ≡ digits_from n (drop i xs)
unfolding digits_from
goes_on n i xs lt = sym (ap (digits_from n) (from_index xs i 0 lt))

pub ends : (n i : ℕ) (xs : List ℕ) → length xs ≤ i → digits_from n (drop i xs) ≡ n
unfolding digits_from
ends n i xs le = ap (digits_from n) (drop_of_length-le xs le)

pub ruleset digit_steps = (begins, ends)
