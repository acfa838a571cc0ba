-- The parts of a tree, one after another.
use Rattle.std.proofs.Common.{◌≡◌, ℕ, zero, suc, ◌+◌, ◌<◌, ◌≤◌, List, [], ◌∷◌, ◌++◌, length, get_or, drop, refl, sym, ap, ◌∙◌, add-one, arith}
use Rattle.std.proofs.Math.Seq.{drop-cons}
use Rattle.sized_types.specs.Sizes.{Sizes, no_size, size_and}
use Rattle.size_arena.specs.declared.trees.SizeTree.{SizeTree}
use Rattle.size_arena.specs.Trees.{size_of, sizes, sizes_of}

pub drop_past : {A : Type 0} (ts : List A) (i : ℕ) → length ts ≤ i → drop i ts ≡ []
drop_past [] zero l = refl
drop_past [] (suc i) l = refl
drop_past (t ∷ ts) zero l = absurd (omega arith)
drop_past (t ∷ ts) (suc i) l = drop_past ts i (omega arith)

pub parts_none : sizes_of [] ≡ no_size
unfolding sizes_of sizes
parts_none = refl

pub parts_and : (t : SizeTree) (ts : List SizeTree) → sizes_of (t ∷ ts) ≡ size_and (size_of t) (sizes_of ts)
unfolding sizes_of sizes
parts_and t ts = refl

module _ (ts : List SizeTree) (i : ℕ) where
  pub parts_at : (t : SizeTree) → i < length ts → sizes_of (drop i ts) ≡ size_and (size_of (get_or ts i t)) (sizes_of (drop (i + 1) ts))
  parts_at t l = ap sizes_of (drop-cons ts i t l) ∙ parts_and (get_or ts i t) (drop (suc i) ts) ∙ ap (λ j. size_and (size_of (get_or ts i t)) (sizes_of (drop j ts))) (sym (add-one i))

  pub parts_end : length ts ≤ i → sizes_of (drop i ts) ≡ no_size
  parts_end l = ap sizes_of (drop_past ts i l) ∙ parts_none

-- these parts before others
abbrev pub before : List SizeTree → Sizes → Sizes
before [] us = us
before (t ∷ ts) us = size_and (size_of t) (before ts us)

pub before_more : (ts : List SizeTree) (t : SizeTree) (us : Sizes) → before (ts ++ t ∷ []) us ≡ before ts (size_and (size_of t) us)
before_more [] t us = refl
before_more (x ∷ ts) t us = ap (size_and (size_of x)) (before_more ts t us)

pub before_none : (ts : List SizeTree) → before ts no_size ≡ sizes_of ts
unfolding sizes_of sizes
before_none [] = refl
before_none (t ∷ ts) = ap (size_and (size_of t)) (before_none ts)
