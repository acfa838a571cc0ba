-- What code holds, one level at a time.
use Rattle.std.proofs.Common.{◌≡◌, ℕ, arith, List, [], ◌∷◌, ◌++◌, length, map, refl, sym, ap, ◌∙◌, Ok, Err}
use Rattle.std.specs.Prelude.{remove, slice_index_or}
use Rattle.fut_scalar.specs.declared.scalar.Scalar.{Scalar}
use Rattle.fut_scalar.specs.declared.scalar.ScalarType.{ScalarType}
use Rattle.fut_ast.specs.Sorts.{Text}
use Rattle.fut_value.specs.Data.{Shape, Scalar_shape, Tuple_shape, Record_shape, Array_shape, Unmet_shape, Datum, Scalar_datum, Tuple_datum, Record_datum, Array_datum, datums}
use Rattle.array_data.specs.declared.form.Form.{Form, fold-roll-Form}
use Rattle.array_data.specs.declared.form.Form.TheOpen as open_form
use Rattle.array_data.specs.declared.form.Form.TheVariants as form
use Rattle.array_data.specs.declared.data.Data.{Data, fold-roll-Data}
use Rattle.array_data.specs.declared.data.Data.TheOpen as open_data
use Rattle.array_data.specs.declared.data.Data.TheVariants as hold
use Rattle.array_data.specs.declared.stop.Stop.TheVariants.{Memory}
use Rattle.array_data.specs.Held.{shapes, named_shapes, named_parts, form_step, shape_held, fitted, scalars, data_step, held, held_all}
use Rattle.array_data.specs.Answers.{Copied, copied, not_copied}

pub held_scalar : (s : Scalar) → held (hold.Scalar s) ≡ Scalar_datum (fitted s)
unfolding held data_step
held_scalar s = ap held (sym (hold.rolls-Scalar s)) ∙ fold-roll-Data Datum data_step (open_data.Scalar s)

pub held_words : (t : ScalarType) (ws : List ℕ) → held (hold.Words t ws) ≡ Array_datum (Scalar_shape t) (datums (scalars t ws))
unfolding held data_step
held_words t ws = ap held (sym (hold.rolls-Words t ws)) ∙ fold-roll-Data Datum data_step (open_data.Words t ws)

pub held_rows : (n : ℕ) (h : Form) (ds : List Data) → held (hold.Rows n h ds) ≡ Array_datum (shape_held h) (datums (held_all ds))
unfolding held held_all data_step
held_rows n h ds = ap held (sym (hold.rolls-Rows n h ds)) ∙ fold-roll-Data Datum data_step (open_data.Rows n h ds)

pub held_tuple : (n : ℕ) (ds : List Data) → held (hold.Tuple n ds) ≡ Tuple_datum (datums (held_all ds))
unfolding held held_all data_step
held_tuple n ds = ap held (sym (hold.rolls-Tuple n ds)) ∙ fold-roll-Data Datum data_step (open_data.Tuple n ds)

pub held_record : (n : ℕ) (fs : List Text) (ds : List Data) → held (hold.Record n fs ds) ≡ Record_datum (named_parts fs (held_all ds))
unfolding held held_all data_step
held_record n fs ds = ap held (sym (hold.rolls-Record n fs ds)) ∙ fold-roll-Data Datum data_step (open_data.Record n fs ds)

pub form_unmet : shape_held form.Unmet ≡ Unmet_shape
unfolding shape_held form_step
form_unmet = ap shape_held (sym form.rolls-Unmet) ∙ fold-roll-Form Shape form_step open_form.Unmet

pub form_scalar : (t : ScalarType) → shape_held (form.Scalar t) ≡ Scalar_shape t
unfolding shape_held form_step
form_scalar t = ap shape_held (sym (form.rolls-Scalar t)) ∙ fold-roll-Form Shape form_step (open_form.Scalar t)

pub form_tuple : (hs : List Form) → shape_held (form.Tuple hs) ≡ Tuple_shape (shapes (map shape_held hs))
unfolding shape_held form_step
form_tuple hs = ap shape_held (sym (form.rolls-Tuple hs)) ∙ fold-roll-Form Shape form_step (open_form.Tuple hs)

pub form_record : (fs : List Text) (hs : List Form) → shape_held (form.Record fs hs) ≡ Record_shape (named_shapes fs (map shape_held hs))
unfolding shape_held form_step
form_record fs hs = ap shape_held (sym (form.rolls-Record fs hs)) ∙ fold-roll-Form Shape form_step (open_form.Record fs hs)

pub form_array : (n : ℕ) (h : Form) → shape_held (form.Array n h) ≡ Array_shape n (shape_held h)
unfolding shape_held form_step
form_array n h = ap shape_held (sym (form.rolls-Array n h)) ∙ fold-roll-Form Shape form_step (open_form.Array n h)

pub copied_is : (d c : Data) → c ≡ d → Copied d (Ok c)
copied_is d c e = copied (ap held e)

pub ruleset copies = (copied_is, not_copied)

pub first_of : (ds rest : List Data) (d e : Data) → (length ds ≡ 0 → ⊥) → d ≡ slice_index_or ds 0 e → rest ≡ remove ds 0 → ds ≡ d ∷ rest
first_of [] rest d e l q r = absurd (l refl)
first_of (x ∷ ds) rest d e l q r = ap (λ z. z ∷ ds) (sym q) ∙ ap (λ z. d ∷ z) (sym r)

pub none_of : (ds : List Data) → length ds ≡ 0 → ds ≡ []
none_of [] l = refl
none_of (d ∷ ds) l = absurd (omega arith)

pub ruleset parting = (first_of, none_of)
