-- The parts of a tree, one after another.
use Rattle.std.proofs.Common.{◌≡◌, ℕ, zero, suc, ◌+◌, ◌<◌, ◌≤◌, List, [], ◌∷◌, ◌++◌, length, get_or, drop, refl, sym, ap, ◌∙◌, add-one, arith}
use Rattle.std.proofs.Math.Seq.{drop-cons}
use Rattle.fut_types.specs.Types.{more, none}
use Rattle.fut_aliases.specs.Stars.{StarRow, no_star, star_and}
use Rattle.fut_aliases.specs.Values.{Values, no_value, value_and}
use Rattle.alias_values.specs.declared.trees.StarTree.{StarTree}
use Rattle.alias_values.specs.declared.trees.ValueTree.{ValueTree}
use Rattle.alias_values.specs.declared.trees.TypeTree.{TypeTree}
use Rattle.alias_values.specs.Trees.{row, row_of, stars_of, tys, type_of, types_of, values, value_of, values_of}

pub drop_past : {A : Type 0} (ts : List A) (i : ℕ) → length ts ≤ i → drop i ts ≡ []
drop_past [] zero l = refl
drop_past [] (suc i) l = refl
drop_past (t ∷ ts) zero l = absurd (omega arith)
drop_past (t ∷ ts) (suc i) l = drop_past ts i (omega arith)

pub one_more : {A : Type 0} (ts : List A) (i : ℕ) (t : A) → i < length ts → drop i ts ≡ get_or ts i t ∷ drop (i + 1) ts
one_more ts i t l = drop-cons ts i t l ∙ ap (λ j. get_or ts i t ∷ drop j ts) (sym (add-one i))

row_none : row_of [] ≡ no_star
unfolding row_of row
row_none = refl

row_and : (u : StarTree) (us : List StarTree) → row_of (u ∷ us) ≡ star_and (stars_of u) (row_of us)
unfolding row_of row
row_and u us = refl

module _ (us : List StarTree) (i : ℕ) where
  pub stars_at : (u : StarTree) → i < length us → row_of (drop i us) ≡ star_and (stars_of (get_or us i u)) (row_of (drop (i + 1) us))
  stars_at u l = ap row_of (one_more us i u l) ∙ row_and (get_or us i u) (drop (i + 1) us)

  pub stars_end : length us ≤ i → row_of (drop i us) ≡ no_star
  stars_end l = ap row_of (drop_past us i l) ∙ row_none

values_none : values_of [] ≡ no_value
unfolding values_of values
values_none = refl

values_and : (v : ValueTree) (vs : List ValueTree) → values_of (v ∷ vs) ≡ value_and (value_of v) (values_of vs)
unfolding values_of values
values_and v vs = refl

module _ (vs : List ValueTree) (i : ℕ) where
  pub values_at : (v : ValueTree) → i < length vs → values_of (drop i vs) ≡ value_and (value_of (get_or vs i v)) (values_of (drop (i + 1) vs))
  values_at v l = ap values_of (one_more vs i v l) ∙ values_and (get_or vs i v) (drop (i + 1) vs)

  pub values_end : length vs ≤ i → values_of (drop i vs) ≡ no_value
  values_end l = ap values_of (drop_past vs i l) ∙ values_none

types_none : types_of [] ≡ none
unfolding types_of tys
types_none = refl

types_and : (t : TypeTree) (ts : List TypeTree) → types_of (t ∷ ts) ≡ more (type_of t) (types_of ts)
unfolding types_of tys
types_and t ts = refl

module _ (ts : List TypeTree) (i : ℕ) where
  pub types_at : (t : TypeTree) → i < length ts → types_of (drop i ts) ≡ more (type_of (get_or ts i t)) (types_of (drop (i + 1) ts))
  types_at t l = ap types_of (one_more ts i t l) ∙ types_and (get_or ts i t) (drop (i + 1) ts)

  pub types_end : length ts ≤ i → types_of (drop i ts) ≡ none
  types_end l = ap types_of (drop_past ts i l) ∙ types_none

-- ---- these before others

abbrev pub row_before : List StarTree → StarRow → StarRow
row_before [] us = us
row_before (t ∷ ts) us = star_and (stars_of t) (row_before ts us)

pub row_before_more : (ts : List StarTree) (t : StarTree) (us : StarRow) → row_before (ts ++ t ∷ []) us ≡ row_before ts (star_and (stars_of t) us)
row_before_more [] t us = refl
row_before_more (x ∷ ts) t us = ap (star_and (stars_of x)) (row_before_more ts t us)

pub row_before_none : (ts : List StarTree) → row_before ts no_star ≡ row_of ts
unfolding row_of row
row_before_none [] = refl
row_before_none (t ∷ ts) = ap (star_and (stars_of t)) (row_before_none ts)

abbrev pub values_before : List ValueTree → Values → Values
values_before [] us = us
values_before (t ∷ ts) us = value_and (value_of t) (values_before ts us)

pub values_before_more : (ts : List ValueTree) (t : ValueTree) (us : Values) → values_before (ts ++ t ∷ []) us ≡ values_before ts (value_and (value_of t) us)
values_before_more [] t us = refl
values_before_more (x ∷ ts) t us = ap (value_and (value_of x)) (values_before_more ts t us)

pub values_before_none : (ts : List ValueTree) → values_before ts no_value ≡ values_of ts
unfolding values_of values
values_before_none [] = refl
values_before_none (t ∷ ts) = ap (value_and (value_of t)) (values_before_none ts)
