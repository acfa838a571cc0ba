-- Parts of rows, by their places.
use Rattle.std.proofs.Common.{◌≡◌, ℕ, zero, suc, ◌+◌, ◌<◌, ◌≤◌, List, [], ◌∷◌, ◌++◌, length, get_or, take, drop, Some, None, refl, sym, ap, ◌∙◌, arith, append_assoc, add-one}
use Rattle.fut_aliases.specs.Stars.{StarRow, star_and, star_at, no_stars}
use Rattle.fut_aliases.specs.Values.{Scalar, Values, value_and, part, with_part}
use Rattle.alias_values.specs.declared.trees.StarTree.{StarTree}
use Rattle.alias_values.specs.declared.trees.ValueTree.{ValueTree}
use Rattle.alias_values.specs.Trees.{row, row_of, stars_of, values, value_of, values_of}

-- ---- values

pub part_none : (vs : Values) → Scalar ≡ part None vs
part_none vs = refl

pub part_here : (vs : List ValueTree) (i : ℕ) (v : ValueTree) → i < length vs → value_of (get_or vs i v) ≡ part (Some i) (values_of vs)
unfolding values_of values
part_here [] i v l = absurd (omega (arith, l))
part_here (x ∷ vs) zero v l = refl
part_here (x ∷ vs) (suc i) v l = part_here vs i v (omega (arith, l))

pub part_past : (vs : List ValueTree) (i : ℕ) → length vs ≤ i → Scalar ≡ part (Some i) (values_of vs)
unfolding values_of values
part_past [] i l = refl
part_past (x ∷ vs) zero l = absurd (omega (arith, l))
part_past (x ∷ vs) (suc i) l = part_past vs i (omega (arith, l))

pub ruleset part_forms = (part_none, part_here, part_past)

pub behind_one : (xs ys : List ValueTree) (a : ValueTree) → (xs ++ a ∷ []) ++ ys ≡ xs ++ a ∷ ys
behind_one [] ys a = refl
behind_one (x ∷ xs) ys a = ap (λ z. x ∷ z) (behind_one xs ys a)

pub ruleset replacing = (behind_one, append_assoc)

pub with_none : (w : ValueTree) (vs : List ValueTree) → values_of vs ≡ with_part None (value_of w) (values_of vs)
with_none w vs = refl

put_here : (w : ValueTree) (vs : List ValueTree) (i : ℕ) → i < length vs → values_of (take i vs ++ w ∷ drop (suc i) vs) ≡ with_part (Some i) (value_of w) (values_of vs)
unfolding values_of values
put_here w [] i l = absurd (omega (arith, l))
put_here w (x ∷ vs) zero l = refl
put_here w (x ∷ vs) (suc i) l = ap (value_and (value_of x)) (put_here w vs i (omega (arith, l)))

pub with_here : (w : ValueTree) (vs made : List ValueTree) (i : ℕ) → i < length vs → made ≡ take i vs ++ w ∷ drop (i + 1) vs → values_of made ≡ with_part (Some i) (value_of w) (values_of vs)
with_here w vs made i l e = ap values_of e ∙ ap (λ k. values_of (take i vs ++ w ∷ drop k vs)) (add-one i) ∙ put_here w vs i l

pub with_past : (w : ValueTree) (vs : List ValueTree) (i : ℕ) → length vs ≤ i → values_of vs ≡ with_part (Some i) (value_of w) (values_of vs)
unfolding values_of values
with_past w [] i l = refl
with_past w (x ∷ vs) zero l = absurd (omega (arith, l))
with_past w (x ∷ vs) (suc i) l = ap (value_and (value_of x)) (with_past w vs i (omega (arith, l)))

pub ruleset with_part_forms = (with_none, with_here, with_past)

-- ---- stars

pub star_none : (us : StarRow) → no_stars ≡ star_at None us
star_none us = refl

pub star_here : (us : List StarTree) (i : ℕ) (u : StarTree) → i < length us → stars_of (get_or us i u) ≡ star_at (Some i) (row_of us)
unfolding row_of row
star_here [] i u l = absurd (omega (arith, l))
star_here (x ∷ us) zero u l = refl
star_here (x ∷ us) (suc i) u l = star_here us i u (omega (arith, l))

pub star_past : (us : List StarTree) (i : ℕ) → length us ≤ i → no_stars ≡ star_at (Some i) (row_of us)
unfolding row_of row
star_past [] i l = refl
star_past (x ∷ us) zero l = absurd (omega (arith, l))
star_past (x ∷ us) (suc i) l = star_past us i (omega (arith, l))

pub ruleset star_at_forms = (star_none, star_here, star_past)
