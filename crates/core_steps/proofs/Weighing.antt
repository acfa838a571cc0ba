-- The weight of arrays that are to be made.
use Rattle.std.proofs.Common.{◌≡◌, ℕ, zero, suc, ◌+◌, ◌-◌, ◌*◌, ◌<◌, ◌≤◌, ◌^◌, min, max, List, [], ◌∷◌, map, length, get_or, drop, Ok, Err, Bool, true, false, nat_le, refl, sym, ap, ◌∙◌, subst, arith, add-one}
use Rattle.std.proofs.Math.Nat.{mul_assoc, mul-le-mul_left, suc-mul}
use Rattle.std.proofs.lemmas.Bool.{leb-true, leb-false}
use Rattle.std.proofs.lemmas.List.{length-map}
use Rattle.fut_value.specs.Leaves.{extent, extents, peak, peaks}
use Rattle.fut_value.specs.Values.{weight_of as weight_with}
use Rattle.fut_meaning.specs.Arrays.{most_words}
use Rattle.core_arrays.specs.Arenas.{Array}
use Rattle.core_ir.specs.declared.block.Atom.{Atom}
use Rattle.core_ir.specs.Bundles.{Row, sizes, all_sizes, weight_of}
use Rattle.core_code.specs.Registers.{AllShow}
use Rattle.core_code.specs.declared.stop.Stop.{Stop}
use Rattle.core_code.specs.declared.stop.Stop.TheVariants.{Memory}
use Rattle.core_steps.specs.Gluing.{sort_at, sorts_at, Sized_at, TestTold, test_told, no_test, Within_told}
use Rattle.core_steps.proofs.Operands.{drop_past}
use Rattle.core_steps.proofs.Sizing.{shown_at, shown_many}

abbrev pub most : ℕ
most = 2 ^ 64 - 1

abbrev pub in_rows_of : ℕ → Row → List (List ℕ)
in_rows_of n cs = map (λ d. n ∷ d) (all_sizes cs)

-- a product of sizes as the program has it
at_least : (k w : ℕ) → max k (k * w) ≡ k * max 1 w
at_least k zero = let a : k * 0 ≡ 0 = omega arith in let b : k * max 1 0 ≡ k = omega arith in omega (arith, a, b)
at_least k (suc w) = let a : max 1 (suc w) ≡ suc w = omega arith in let b : k * 1 ≤ k * suc w = mul-le-mul_left k (omega arith) in ap (λ z. max k z) refl ∙ (let c : max k (k * suc w) ≡ k * suc w = omega (arith, b) in c) ∙ ap (λ z. k * z) (sym a)

pub peak_is : (k n : ℕ) (ds : List ℕ) → peak k (n ∷ ds) ≡ k * weight_with (n ∷ ds)
peak_is k n [] = let a : k * n ≡ k * (n * max 1 1) = (let b : n * max 1 1 ≡ n = omega arith in ap (λ z. k * z) (sym b)) in omega (arith, a)
peak_is k n (m ∷ ds) = ap (max (k * n)) (peak_is (k * n) m ds) ∙ at_least (k * n) (weight_with (m ∷ ds)) ∙ mul_assoc k n (max 1 (weight_with (m ∷ ds)))

-- a test that two numbers pass alike
same_test : (a b m : ℕ) → (a ≤ m → b ≤ m) → (b ≤ m → a ≤ m) → nat_le a m ≡ nat_le b m
same_test a b m f g = by_test (nat_le a m) (nat_le b m) refl refl
  where
    by_test : (x y : Bool) → nat_le a m ≡ x → nat_le b m ≡ y → nat_le a m ≡ nat_le b m
    by_test true true p q = p ∙ sym q
    by_test false false p q = p ∙ sym q
    by_test true false p q = let k = leb-false b m q in let l = f (leb-true a m p) in absurd (omega (arith, k, l))
    by_test false true p q = let k = leb-false a m p in let l = g (leb-true b m q) in absurd (omega (arith, k, l))

capped : (w : ℕ) → nat_le (min w most) 33554432 ≡ nat_le w most_words
capped w = same_test (min w most) w 33554432 (λ l. omega (arith, l)) (λ l. omega (arith, l))

bounded : (n m x : ℕ) → m ≡ min x most → min (n * m) most ≡ min (n * x) most
bounded zero m x r = let a : 0 * m ≡ 0 = omega arith in let b : 0 * x ≡ 0 = omega arith in omega (arith, a, b)
bounded (suc n) m x r = by_test (nat_le x most) refl
  where
    by_test : (b : Bool) → nat_le x most ≡ b → min (suc n * m) most ≡ min (suc n * x) most
    by_test true q = let l = leb-true x most q in let e : m ≡ x = omega (arith, r, l) in ap (λ z. min (suc n * z) most) e
    by_test false q = let l = leb-false x most q in omega (arith, r, l, suc-mul n m, suc-mul n x)

-- what is weighed so far
pub record Weighs_so (count heaviest all : ℕ) (cs rest : Row) : Type 0 where
  pub peaks_are : min (peaks 1 (in_rows_of count cs)) most ≡ max heaviest (min (peaks 1 (in_rows_of count rest)) most)
  pub words_are : min (extents (in_rows_of count cs)) most ≡ min (all + extents (in_rows_of count rest)) most

unfoldable pub Weighs : List Array → List Atom → ℕ → List ℕ → ℕ → ℕ → ℕ → Type 0
Weighs rs us count ws heaviest all j = (row : Row) → AllShow rs (sorts_at us) row ws → Weighs_so count heaviest all row (drop j row)

module _ (rs : List Array) (us : List Atom) (count : ℕ) (ws : List ℕ) where
  pub weighs_start : Weighs rs us count ws 0 0 0
  unfolding Weighs
  weighs_start row sh = record { peaks_are = omega arith; words_are = omega arith }

  pub weighs_more : (heaviest all j : ℕ) (d : Atom) (e : ℕ) → j < length us → Weighs rs us count ws heaviest all j → (ds : List ℕ) → Sized_at rs (get_or us j d) (get_or ws j e) ds
      → (w m h' a' : ℕ) → w ≡ min (count * max 1 (weight_with ds)) most → m ≡ min (extent ds) most → h' ≡ max heaviest w → a' ≡ min (all + min (count * m) most) most → Weighs rs us count ws h' a' (j + 1)
  unfolding Weighs Sized_at
  weighs_more heaviest all j d e l h ds p w m h' a' q r s t row sh =
      let x = shown_at rs us (sorts_at us) row ws j d e l refl sh in
      let so = h row sh in
      let here : ds ≡ sizes x.component = p x.component x.shown in
      let rest : Row = drop (suc j) row in
      let a : peaks 1 (in_rows_of count (drop j row)) ≡ max (peak 1 (count ∷ ds)) (peaks 1 (in_rows_of count rest)) = ap (λ z. peaks 1 (in_rows_of count z)) x.left ∙ ap (λ z. max (peak 1 (count ∷ z)) (peaks 1 (in_rows_of count rest))) (sym here) in
      let b : extents (in_rows_of count (drop j row)) ≡ count * extent ds + extents (in_rows_of count rest) = ap (λ z. extents (in_rows_of count z)) x.left ∙ ap (λ z. count * extent z + extents (in_rows_of count rest)) (sym here) in
      let c : peak 1 (count ∷ ds) ≡ count * max 1 (weight_with ds) = peak_is 1 count ds ∙ (let z : 1 * weight_with (count ∷ ds) ≡ weight_with (count ∷ ds) = omega arith in z) in
      let k : min (count * m) most ≡ min (count * extent ds) most = bounded count m (extent ds) r in
      subst (λ z. Weighs_so count h' a' row (drop z row)) (sym (add-one j))
      (record { peaks_are = omega (arith, so.peaks_are, a, c, q, s); words_are = omega (arith, so.words_are, b, k, t) })

  pub weighs_end : (heaviest all j : ℕ) (b : Bool) → length us ≤ j → heaviest ≤ most → all ≤ most → Weighs rs us count ws heaviest all j → b ≡ nat_le (max heaviest all) 33554432 → Within_told rs us count ws (Ok b)
  unfolding Weighs Within_told
  weighs_end heaviest all j b l f g h e row sh =
      let none : drop j row ≡ [] = drop_past row j (omega (arith, l, length-map us sort_at, (shown_many rs (sorts_at us) row ws sh).0)) in
      let so = subst (λ z. Weighs_so count heaviest all row z) none (h row sh) in
      let k : max heaviest all ≡ min (weight_of (in_rows_of count row)) most = omega (arith, so.peaks_are, so.words_are, f, g) in
      subst (λ z. TestTold z (Ok b)) (e ∙ ap (λ z. nat_le z 33554432) k ∙ capped (weight_of (in_rows_of count row))) test_told

  pub weighs_stop : (e : Stop) → e ≡ Memory → Within_told rs us count ws (Err e)
  unfolding Within_told
  weighs_stop e q row sh = subst (λ z. TestTold (nat_le (weight_of (in_rows_of count row)) most_words) (Err z)) (sym q) no_test

pub ruleset weighing = (weighs_start, weighs_more, weighs_end, weighs_stop)
