-- Forms of sizes.
use Rattle.std.proofs.Common.{◌≡◌, ◌≤◌, ℕ, List, [], ◌∷◌, ◌-◌, length, take, drop, get_or, ap, ◌∙◌, arith}
use Rattle.std.proofs.lemmas.List.{length-drop, take_all}
use Rattle.fut_scalar.specs.declared.scalar.ScalarType.{ScalarType}
use Rattle.fut_value.specs.Data.{Array_shape}
use Rattle.fut_value.specs.Values.{shape_with}
use Rattle.array_data.specs.declared.form.Form.{Form}
use Rattle.array_data.specs.declared.form.Form.TheVariants as form
use Rattle.array_data.specs.Held.{shape_held}
use Rattle.array_data.proofs.Holding.{form_scalar, form_array}

-- the sizes below the outermost one
pub rest_of : {A : Type 0} (xs : List A) → take (length xs - 1) (drop 1 xs) ≡ drop 1 xs
rest_of xs = take_all (length xs - 1) (drop 1 xs) (omega (arith, length-drop 1 xs))

pub shaped_none : (t : ScalarType) (ns : List ℕ) → length ns ≡ 0 → shape_held (form.Scalar t) ≡ shape_with t ns
shaped_none t [] e = form_scalar t
shaped_none t (n ∷ ns) e = absurd (omega (arith, e))

pub shaped_more : (t : ScalarType) (h : Form) (ns : List ℕ) → 1 ≤ length ns → shape_held h ≡ shape_with t (drop 1 ns) → shape_held (form.Array (get_or ns 0 0) h) ≡ shape_with t ns
shaped_more t h [] l q = absurd (omega (arith, l))
shaped_more t h (n ∷ ns) l q = form_array n h ∙ ap (Array_shape n) q

pub ruleset shaping = (shaped_none, shaped_more)
