-- Integers of a wanted type.
use Rattle.std.proofs.Common.{◌≡◌, ◌+◌, ◌-◌, ◌^◌, ◌<◌, ◌≤◌, ℕ, zero, suc, arith, refl, sym, ap, ◌∙◌, lt-ltb, le-ltb, ltb-true}
use Rattle.std.specs.Prelude.{Bool, true, false, cond, nat_lt, pos, negsuc, neg_ℤ, Some, None}
use Rattle.std.proofs.lemmas.Int.{ints}
use mir.Val.{sel}
use Rattle.fut_scalar.specs.Integers.{integer_of, width_of}
use Rattle.fut_scalar.specs.declared.scalar.IntType.{IntType}
use Rattle.fut_scalar.specs.declared.scalar.IntType.TheVariants.{I8, I16, I32, I64, U8, U16, U32, U64}
use Rattle.fut_scalar.specs.declared.scalar.Scalar.TheVariants as scalar
use Rattle.fut_arithmetic.specs.Quotients.{is_below_zero}
use Rattle.fut_arithmetic.specs.Words.{below_zero_count}
use Rattle.fut_arithmetic.proofs.Congruent.{below_zero as turned_bits, from_zero as same_bits}
use Rattle.value_text.specs.Reading.{value_in}
use Rattle.value_text.specs.Claims.{FoundIntegersStand, IntegersAreFound}

less : (a b : ℕ) → a < b → nat_lt a b ≡ true
less a b h = lt-ltb a b h

not_less : (a b : ℕ) → b ≤ a → nat_lt a b ≡ false
not_less a b h = le-ltb a b h

module _ (ty : IntType) (n : ℕ) where
  pub pos_some : n < 2 ^ width_of ty - below_zero_count ty → value_in ty (pos n) ≡ Some (scalar.Int ty n)
  pos_some h = ap (λ t. cond t (Some (scalar.Int ty n)) None) (less n _ h)

  pub pos_none : 2 ^ width_of ty - below_zero_count ty ≤ n → value_in ty (pos n) ≡ None
  pos_none h = ap (λ t. cond t (Some (scalar.Int ty n)) None) (not_less n _ h)

  pub neg_some : n < below_zero_count ty → value_in ty (negsuc n) ≡ Some (scalar.Int ty (2 ^ width_of ty - suc n))
  neg_some h = ap (λ t. cond t (Some (scalar.Int ty (2 ^ width_of ty - suc n))) None) (less n _ h)

  pub neg_none : below_zero_count ty ≤ n → value_in ty (negsuc n) ≡ None
  neg_none h = ap (λ t. cond t (Some (scalar.Int ty (2 ^ width_of ty - suc n))) None) (not_less n _ h)

-- ---- in words of what the code computes

module _ (ty : IntType) (n all below : ℕ) (a : all + 1 ≡ 2 ^ width_of ty) (b : below ≡ below_zero_count ty) where
  pub from_zero_none : all - below < n → below < 2 ^ width_of ty → None ≡ value_in ty (pos n)
  from_zero_none h k = sym (pos_none ty n (omega arith))

  pub from_zero_some : n ≤ all - below → below < 2 ^ width_of ty → Some (scalar.Int ty n) ≡ value_in ty (pos n)
  from_zero_some h k = sym (pos_some ty n (omega arith))

pub ruleset from_zero = (from_zero_none, from_zero_some)

pub below_zero_none : (ty : IntType) (n below : ℕ) → 0 < n → below ≡ below_zero_count ty → below ≤ n - 1 → None ≡ value_in ty (neg_ℤ (pos n))
below_zero_none ty zero below h b k = absurd (omega arith)
below_zero_none ty (suc n) below h b k = sym (neg_none ty n (omega arith))

pub below_zero_some : (ty : IntType) (n all below : ℕ) → 0 < n → all + 1 ≡ 2 ^ width_of ty → below ≡ below_zero_count ty → n - 1 < below → Some (scalar.Int ty (all - (n - 1))) ≡ value_in ty (neg_ℤ (pos n))
below_zero_some ty zero all below h a b k = absurd (omega arith)
below_zero_some ty (suc n) all below h a b k =
    let e : all - (suc n - 1) ≡ 2 ^ width_of ty - suc n = omega arith in
    ap (λ z. Some (scalar.Int ty z)) e ∙ sym (neg_some ty n (omega arith))

pub ruleset below_zero = (below_zero_none, below_zero_some)

-- ---- each value of a type is found, and what is found stands for the integer

low : (ty : IntType) (m : ℕ) → m < 2 ^ width_of ty → integer_of ty m ≡ pos m → m < 2 ^ width_of ty - below_zero_count ty
low I8 m h e = omega (arith, ints)
low I16 m h e = omega (arith, ints)
low I32 m h e = omega (arith, ints)
low I64 m h e = omega (arith, ints)
low U8 m h e = omega arith
low U16 m h e = omega arith
low U32 m h e = omega arith
low U64 m h e = omega arith

high : (ty : IntType) (m : ℕ) → m < 2 ^ width_of ty → integer_of ty m ≡ negsuc (2 ^ width_of ty - suc m) → 2 ^ width_of ty - suc m < below_zero_count ty
high I8 m h e = omega (arith, ints)
high I16 m h e = omega (arith, ints)
high I32 m h e = omega (arith, ints)
high I64 m h e = omega (arith, ints)
high U8 m h e = absurd cc
high U16 m h e = absurd cc
high U32 m h e = absurd cc
high U64 m h e = absurd cc

pub integers_are_found : IntegersAreFound
integers_are_found ty m h = by_sign (is_below_zero (integer_of ty m)) refl
  where
    by_sign : (s : Bool) → is_below_zero (integer_of ty m) ≡ s → value_in ty (integer_of ty m) ≡ Some (scalar.Int ty m)
    by_sign true e =
        let z = turned_bits ty m e in
        let back : 2 ^ width_of ty - suc (2 ^ width_of ty - suc m) ≡ m = omega arith in
        ap (value_in ty) z ∙ neg_some ty _ (high ty m h z) ∙ ap (λ x. Some (scalar.Int ty x)) back
    by_sign false e =
        let z = same_bits ty m e in
        ap (value_in ty) z ∙ pos_some ty m (low ty m h z)

stands_low : (ty : IntType) (n : ℕ) → n < 2 ^ width_of ty - below_zero_count ty → integer_of ty n ≡ pos n
stands_low I8 n h = omega (arith, ints)
stands_low I16 n h = omega (arith, ints)
stands_low I32 n h = omega (arith, ints)
stands_low I64 n h = omega (arith, ints)
stands_low U8 n h = refl
stands_low U16 n h = refl
stands_low U32 n h = refl
stands_low U64 n h = refl

turned : (all half n : ℕ) (low : Bool) → low ≡ false → sel low (pos (all - suc n)) (negsuc (all - suc (all - suc n))) ≡ negsuc (all - suc (all - suc n))
turned all half n low e = ap (λ b. sel b (pos (all - suc n)) (negsuc (all - suc (all - suc n)))) e

stands_high : (ty : IntType) (n : ℕ) → n < below_zero_count ty → integer_of ty (2 ^ width_of ty - suc n) ≡ negsuc n
stands_high I8 n h = turned (2 ^ 8) (2 ^ 7) n _ (not_less (2 ^ 8 - suc n) (2 ^ 7) (omega arith)) ∙ ap negsuc (omega arith)
stands_high I16 n h = turned (2 ^ 16) (2 ^ 15) n _ (not_less (2 ^ 16 - suc n) (2 ^ 15) (omega arith)) ∙ ap negsuc (omega arith)
stands_high I32 n h = turned (2 ^ 32) (2 ^ 31) n _ (not_less (2 ^ 32 - suc n) (2 ^ 31) (omega arith)) ∙ ap negsuc (omega arith)
stands_high I64 n h = turned (2 ^ 64) (2 ^ 63) n _ (not_less (2 ^ 64 - suc n) (2 ^ 63) (omega arith)) ∙ ap negsuc (omega arith)
stands_high U8 n h = absurd (omega arith)
stands_high U16 n h = absurd (omega arith)
stands_high U32 n h = absurd (omega arith)
stands_high U64 n h = absurd (omega arith)

below_all : (ty : IntType) → below_zero_count ty < 2 ^ width_of ty
below_all I8 = omega arith
below_all I16 = omega arith
below_all I32 = omega arith
below_all I64 = omega arith
below_all U8 = omega arith
below_all U16 = omega arith
below_all U32 = omega arith
below_all U64 = omega arith

some_is : {A : Type 0} (x y : A) → Some x ≡ Some y → y ≡ x
some_is x y e = cc

pub found_integers_stand : FoundIntegersStand
found_integers_stand ty (pos n) value h = by_test (nat_lt n (2 ^ width_of ty - below_zero_count ty)) refl h
  where
    by_test : (t : Bool) → nat_lt n (2 ^ width_of ty - below_zero_count ty) ≡ t → cond t (Some (scalar.Int ty n)) None ≡ Some value → (bits : ℕ) × (value ≡ scalar.Int ty bits) × (bits < 2 ^ width_of ty) × (integer_of ty bits ≡ pos n)
    by_test true e k = let l = ltb-true _ _ e in (n, some_is _ _ k, omega arith, stands_low ty n l)
    by_test false e k = absurd cc
found_integers_stand ty (negsuc n) value h = by_test (nat_lt n (below_zero_count ty)) refl h
  where
    by_test : (t : Bool) → nat_lt n (below_zero_count ty) ≡ t → cond t (Some (scalar.Int ty (2 ^ width_of ty - suc n))) None ≡ Some value → (bits : ℕ) × (value ≡ scalar.Int ty bits) × (bits < 2 ^ width_of ty) × (integer_of ty bits ≡ negsuc n)
    by_test true e k = let l = ltb-true _ _ e in let b = below_all ty in (2 ^ width_of ty - suc n, some_is _ _ k, omega arith, stands_high ty n l)
    by_test false e k = absurd cc
