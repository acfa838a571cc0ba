-- The weight of sizes is that of the shape of data of these sizes.
use Rattle.std.proofs.Common.{◌≡◌, ◌*◌, ◌<◌, ◌≤◌, ◌^◌, ◌-◌, ℕ, zero, suc, List, [], ◌∷◌, arith, refl, sym, ap, ◌∙◌}
use Rattle.std.specs.Prelude.{max, min}
use Rattle.std.proofs.Math.Nat.{max-eq_left, max-eq_right, mul-le-mul_left, mul_assoc}
use Rattle.fut_scalar.specs.declared.scalar.ScalarType.{ScalarType}
use Rattle.fut_value.specs.Data.{weight, heaviest, words}
use Rattle.fut_value.specs.Values.{greatest_weight, product, shape_with, weight_of}

words_of : (ty : ScalarType) (ns : List ℕ) → words (shape_with ty ns) ≡ product ns
unfolding words
words_of ty [] = refl
words_of ty (n ∷ ns) = ap (λ k. n * k) (words_of ty ns)

at_least_one : (n w : ℕ) → max n (n * w) ≡ n * max 1 w
at_least_one n zero = omega arith
at_least_one n (suc w) =
    let one : max 1 (suc w) ≡ suc w = max-eq_right (omega arith) in
    let more : n ≤ n * suc w = omega (arith, mul-le-mul_left {m = 1} {n = suc w} n (omega arith)) in
    max-eq_right more ∙ ap (λ k. n * k) (sym one)

-- a scalar has no size, and any other value the weight of its sizes
heavy : (ty : ScalarType) (k n : ℕ) (ns : List ℕ) → heaviest k (shape_with ty (n ∷ ns)) ≡ k * weight_of (n ∷ ns)
unfolding heaviest
heavy ty k n [] = omega arith
heavy ty k n (m ∷ ms) = ap (max (k * n)) (heavy ty (k * n) m ms) ∙ at_least_one (k * n) (weight_of (m ∷ ms)) ∙ mul_assoc k n (max 1 (weight_of (m ∷ ms)))

product_within : (ns : List ℕ) → product ns ≤ weight_of ns
product_within [] = omega arith
product_within (n ∷ ns) =
    let more = product_within ns in
    mul-le-mul_left n (omega (arith, more))

pub weight_is : (ty : ScalarType) (ns : List ℕ) → weight (shape_with ty ns) ≡ weight_of ns
unfolding weight heaviest words
weight_is ty [] = refl
weight_is ty (n ∷ ns) =
    let h = heavy ty 1 n ns in
    let w = words_of ty (n ∷ ns) in
    let less = product_within (n ∷ ns) in
    max-eq_left (omega (arith, h, w, less)) ∙ h ∙ omega arith

pub weighs_some : (ty : ScalarType) (ns : List ℕ) (all : ℕ) → all ≡ min (weight_of ns) (2 ^ 64 - 1) → all ≤ 33554432 → (all ≡ weight (shape_with ty ns)) × (all ≤ greatest_weight)
weighs_some ty ns all e l = (omega (arith, e, l) ∙ sym (weight_is ty ns), l)

pub weighs_none : (ty : ScalarType) (ns : List ℕ) (all : ℕ) → all ≡ min (weight_of ns) (2 ^ 64 - 1) → 33554432 < all → greatest_weight < weight (shape_with ty ns)
weighs_none ty ns all e l = let w = weight_is ty ns in omega (arith, e, l, w)

pub ruleset weighs = (weighs_some, weighs_none)
