-- The values of parts one after another, and that of the first.
use Rattle.std.proofs.Common.{◌≡◌, ℕ, ◌+◌, ◌<◌, ◌≤◌, List, [], ◌∷◌, ◌++◌, length, get_or, drop, refl, sym, ap, ◌∙◌, arith}
use Rattle.fut_aliases.specs.Operations.{first_value, row}
use Rattle.fut_aliases.specs.Values.{Value, Scalar}
use Rattle.alias_values.specs.declared.trees.ValueTree.{ValueTree}
use Rattle.alias_values.specs.Trees.{value_of, values_of}
use Rattle.alias_values.proofs.Rows.{one_more, drop_past, values_before, values_before_more, values_before_none}
use Rattle.uniqueness.specs.declared.held.Held.{Held}
use Rattle.uniqueness.specs.Held.{helds_of}

module _ (xs : List Held) (i : ℕ) (made : List ValueTree) (h : row (helds_of xs) ≡ values_before made (row (helds_of (drop i xs)))) where
  pub row_more : (d : Held) (longer : List ValueTree) → i < length xs → longer ≡ made ++ (get_or xs i d).value.now ∷ [] → row (helds_of xs) ≡ values_before longer (row (helds_of (drop (i + 1) xs)))
  row_more d longer l e = h ∙ ap (λ z. values_before made (row (helds_of z))) (one_more xs i d l) ∙ sym (values_before_more made (get_or xs i d).value.now (row (helds_of (drop (i + 1) xs)))) ∙ ap (λ z. values_before z (row (helds_of (drop (i + 1) xs)))) (sym e)

  pub row_end : length xs ≤ i → values_of made ≡ row (helds_of xs)
  row_end l = sym (h ∙ ap (λ z. values_before made (row (helds_of z))) (drop_past xs i l) ∙ values_before_none made)

pub ruleset row_forms = (row_more, row_end)

pub first_of_none : (xs : List Held) (v : Value) → length xs ≡ 0 → v ≡ Scalar → v ≡ first_value (helds_of xs)
first_of_none [] v l e = e
first_of_none (x ∷ xs) v l e = absurd (omega (arith, l))

pub first_of_some : (xs : List Held) (d : Held) → 0 < length xs → value_of (get_or xs 0 d).value.now ≡ first_value (helds_of xs)
first_of_some [] d l = absurd (omega (arith, l))
first_of_some (x ∷ xs) d l = refl

pub ruleset first_ones = (first_of_none, first_of_some)
