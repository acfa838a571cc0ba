-- Integers that say sizes and indices.
use Rattle.std.proofs.Common.{◌≡◌, ℕ, zero, suc, ◌+◌, ◌<◌, ◌≤◌, ◌^◌, Bool, true, false, Ok, Err, List, refl, sym, ap, ◌∙◌, subst, arith}
use Rattle.std.specs.Prelude.{ℤ, pos, negsuc, ◌-◌, nat_lt}
use Rattle.std.specs.Int.{cast_signed}
use Rattle.std.proofs.lemmas.Bool.{ltb-true, ltb-false}
use Rattle.std.proofs.lemmas.Int.{to_z_pos}
use Rattle.std.proofs.Math.Facts.{to_z-neg}
use Rattle.std.proofs.Math.Nat.{mod-lt}
use Rattle.std.proofs.Math.Pow.{pow_pos}
use mir.Syntax.{Width, w8, w16, w32, w64}
use mir.Val.{bits, hbits}
use Rattle.fut_scalar.specs.Integers.{FitsType, integer_of, width_of}
use Rattle.fut_scalar.specs.declared.scalar.IntType.{IntType}
use Rattle.fut_scalar.specs.declared.scalar.Scalar.{Scalar}
use Rattle.fut_scalar.specs.declared.scalar.Scalar.TheVariants as scalar
use Rattle.fut_scalar.specs.declared.scalar.ScalarType.{ScalarType}
use Rattle.fut_meaning.specs.Arrays.{exact_of, integer_of_scalar}
use Rattle.fut_meaning.specs.Outcomes.{Val, Wrong}
use Rattle.array_data.specs.declared.form.Form.{Form}
use Rattle.array_data.specs.declared.data.Data.{Data}
use Rattle.array_data.specs.declared.data.Data.TheVariants as hold
use Rattle.array_data.specs.declared.sizes.Exact.{Exact}
use Rattle.array_data.specs.declared.sizes.Exact.TheVariants as exact
use Rattle.array_data.specs.declared.stop.Stop.TheVariants.{Stuck}
use Rattle.array_data.specs.Answers.{Exact_is, exact_is, no_integer, exact_held}
use Rattle.array_data.specs.Held.{fitted, held}
use Rattle.array_data.proofs.Holding.{held_scalar, held_words, held_rows, held_tuple}

-- a test of a number against a limit
by_limit : (P : Type 0) (n limit : ℕ) → (n < limit → P) → (limit ≤ n → P) → P
by_limit P n limit h k = by_test (nat_lt n limit) refl
  where
    by_test : (b : Bool) → nat_lt n limit ≡ b → P
    by_test true q = h (ltb-true n limit q)
    by_test false q = k (ltb-false n limit q)

below_zero : (w : Width) (n k : ℕ) → k < 2 ^ hbits w → n + suc k ≡ 2 ^ bits w → cast_signed w n ≡ negsuc k
below_zero w n k h e = let q : 2 ^ bits w - suc k ≡ n = omega arith in ap (cast_signed w) (sym q) ∙ to_z-neg w k h

natural_is : (e : Exact) (n : ℕ) (z : ℤ) → e ≡ exact.Natural n → z ≡ pos n → exact_held e ≡ z
unfolding exact_held
natural_is e n z p q = ap exact_held p ∙ sym q

below_is : (e : Exact) (n : ℕ) (z : ℤ) → e ≡ exact.Below n → z ≡ negsuc n → exact_held e ≡ z
unfolding exact_held
below_is e n z p q = ap exact_held p ∙ sym q

pub natural_same : (n : ℕ) → exact_held (exact.Natural n) ≡ pos n
unfolding exact_held
natural_same n = refl

module _ (n : ℕ) (e : Exact) where
  pub exact_8 : n < 2 ^ 8 → (n < 0x80 → e ≡ exact.Natural n) → (0x80 ≤ n → e ≡ exact.Below (0x80 + 0x80 - 1 - n)) → exact_held e ≡ cast_signed w8 n
  exact_8 h low high = by_limit (exact_held e ≡ cast_signed w8 n) n 0x80 (λ l. natural_is e n (cast_signed w8 n) (low l) (to_z_pos w8 n l)) (λ l. below_is e (255 - n) (cast_signed w8 n) (high l) (below_zero w8 n (255 - n) (omega arith) (omega arith)))

  pub exact_16 : n < 2 ^ 16 → (n < 0x8000 → e ≡ exact.Natural n) → (0x8000 ≤ n → e ≡ exact.Below (0x8000 + 0x8000 - 1 - n)) → exact_held e ≡ cast_signed w16 n
  exact_16 h low high = by_limit (exact_held e ≡ cast_signed w16 n) n 0x8000 (λ l. natural_is e n (cast_signed w16 n) (low l) (to_z_pos w16 n l)) (λ l. below_is e (65535 - n) (cast_signed w16 n) (high l) (below_zero w16 n (65535 - n) (omega arith) (omega arith)))

  pub exact_32 : n < 2 ^ 32 → (n < 0x8000_0000 → e ≡ exact.Natural n) → (0x8000_0000 ≤ n → e ≡ exact.Below (0x8000_0000 + 0x8000_0000 - 1 - n)) → exact_held e ≡ cast_signed w32 n
  exact_32 h low high = by_limit (exact_held e ≡ cast_signed w32 n) n 0x8000_0000 (λ l. natural_is e n (cast_signed w32 n) (low l) (to_z_pos w32 n l)) (λ l. below_is e (4294967295 - n) (cast_signed w32 n) (high l) (below_zero w32 n (4294967295 - n) (omega arith) (omega arith)))

  pub exact_64 : n < 2 ^ 64 → (n < 0x8000_0000_0000_0000 → e ≡ exact.Natural n) → (0x8000_0000_0000_0000 ≤ n → e ≡ exact.Below (0x8000_0000_0000_0000 + 0x8000_0000_0000_0000 - 1 - n)) → exact_held e ≡ cast_signed w64 n
  exact_64 h low high = by_limit (exact_held e ≡ cast_signed w64 n) n 0x8000_0000_0000_0000 (λ l. natural_is e n (cast_signed w64 n) (low l) (to_z_pos w64 n l)) (λ l. below_is e (18446744073709551615 - n) (cast_signed w64 n) (high l) (below_zero w64 n (18446744073709551615 - n) (omega arith) (omega arith)))

-- ---- scalars that fit

pub fitted_is : (s : Scalar) (t : _) (n : ℕ) (r : Scalar) → s ≡ scalar.Int t n → r ≡ fitted (scalar.Int t n) → r ≡ fitted s
fitted_is s t n r e q = q ∙ ap fitted (sym e)

fits : (s : Scalar) → FitsType (fitted s)
fits (scalar.Int t n) = mod-lt n (pow_pos (width_of t))
fits (scalar.Bool b) = tt

pub fitted_fits : (s r : Scalar) → r ≡ fitted s → FitsType r
fitted_fits s r e = subst FitsType (sym e) (fits s)

pub ruleset fitted_scalars = (fitted_is, fitted_fits)

-- ---- the integer that data is

pub exact_scalar : (d : Data) (s r : Scalar) (t : IntType) (n : ℕ) (e : Exact) → d ≡ hold.Scalar s → r ≡ fitted s → r ≡ scalar.Int t n → exact_held e ≡ integer_of t n → Exact_is (held d) (Ok e)
exact_scalar d s r t n e p q x y = exact_is (ap exact_of (ap held p ∙ held_scalar s) ∙ ap integer_of_scalar (sym q ∙ x) ∙ ap Val (sym y))

pub exact_truth : (d : Data) (s r : Scalar) (b : Bool) → d ≡ hold.Scalar s → r ≡ fitted s → r ≡ scalar.Bool b → Exact_is (held d) (Err Stuck)
exact_truth d s r b p q x = no_integer (ap exact_of (ap held p ∙ held_scalar s) ∙ ap integer_of_scalar (sym q ∙ x))

pub exact_words : (d : Data) (t : ScalarType) (ws : List ℕ) → d ≡ hold.Words t ws → Exact_is (held d) (Err Stuck)
exact_words d t ws e = no_integer (ap exact_of (ap held e ∙ held_words t ws))

pub exact_rows : (d : Data) (m : ℕ) (h : Form) (ds : List Data) → d ≡ hold.Rows m h ds → Exact_is (held d) (Err Stuck)
exact_rows d m h ds e = no_integer (ap exact_of (ap held e ∙ held_rows m h ds))

pub exact_tuple : (d : Data) (m : ℕ) (ds : List Data) → d ≡ hold.Tuple m ds → Exact_is (held d) (Err Stuck)
exact_tuple d m ds e = no_integer (ap exact_of (ap held e ∙ held_tuple m ds))

pub ruleset exacts = (exact_scalar, exact_truth, exact_words, exact_rows, exact_tuple)
