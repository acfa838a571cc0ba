-- How many rows arrays of a form have, and what these look like.
use Rattle.std.proofs.Common.{◌≡◌, ℕ, List, sym, ap, ◌∙◌}
use Rattle.fut_scalar.specs.declared.scalar.ScalarType.{ScalarType}
use Rattle.fut_ast.specs.Sorts.{Text}
use Rattle.fut_meaning.specs.Arrays.{inner, size}
use Rattle.array_data.specs.declared.form.Form.{Form}
use Rattle.array_data.specs.declared.form.Form.TheVariants as form
use Rattle.array_data.specs.Held.{shape_held}
use Rattle.array_data.proofs.Holding.{form_unmet, form_scalar, form_tuple, form_record, form_array}

module _ (h f : Form) where
  pub inner_array : (n : ℕ) (k : Form) → h ≡ form.Array n k → f ≡ k → shape_held f ≡ inner (shape_held h)
  inner_array n k e q = ap shape_held q ∙ sym (ap inner (ap shape_held e ∙ form_array n k))

  pub inner_unmet : h ≡ form.Unmet → f ≡ form.Unmet → shape_held f ≡ inner (shape_held h)
  inner_unmet e q = ap shape_held q ∙ form_unmet ∙ sym (ap inner (ap shape_held e ∙ form_unmet))

  pub inner_scalar : (t : ScalarType) → h ≡ form.Scalar t → f ≡ form.Unmet → shape_held f ≡ inner (shape_held h)
  inner_scalar t e q = ap shape_held q ∙ form_unmet ∙ sym (ap inner (ap shape_held e ∙ form_scalar t))

  pub inner_tuple : (hs : List Form) → h ≡ form.Tuple hs → f ≡ form.Unmet → shape_held f ≡ inner (shape_held h)
  inner_tuple hs e q = ap shape_held q ∙ form_unmet ∙ sym (ap inner (ap shape_held e ∙ form_tuple hs))

  pub inner_record : (fs : List Text) (hs : List Form) → h ≡ form.Record fs hs → f ≡ form.Unmet → shape_held f ≡ inner (shape_held h)
  inner_record fs hs e q = ap shape_held q ∙ form_unmet ∙ sym (ap inner (ap shape_held e ∙ form_record fs hs))

pub ruleset inner_forms = (inner_array, inner_unmet, inner_scalar, inner_tuple, inner_record)

module _ (h : Form) where
  pub array_size : (n : ℕ) (k : Form) → h ≡ form.Array n k → n ≡ size (shape_held h)
  array_size n k e = sym (ap size (ap shape_held e ∙ form_array n k))

  pub unmet_size : h ≡ form.Unmet → 0 ≡ size (shape_held h)
  unmet_size e = sym (ap size (ap shape_held e ∙ form_unmet))

  pub scalar_size : (t : ScalarType) → h ≡ form.Scalar t → 0 ≡ size (shape_held h)
  scalar_size t e = sym (ap size (ap shape_held e ∙ form_scalar t))

  pub tuple_size : (hs : List Form) → h ≡ form.Tuple hs → 0 ≡ size (shape_held h)
  tuple_size hs e = sym (ap size (ap shape_held e ∙ form_tuple hs))

  pub record_size : (fs : List Text) (hs : List Form) → h ≡ form.Record fs hs → 0 ≡ size (shape_held h)
  record_size fs hs e = sym (ap size (ap shape_held e ∙ form_record fs hs))

pub ruleset form_sizes = (array_size, unmet_size, scalar_size, tuple_size, record_size)
