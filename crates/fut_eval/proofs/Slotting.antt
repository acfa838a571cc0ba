-- What the table still knows of arrays that were given up.
use Rattle.std.proofs.Common.{◌≡◌, ℕ, List, length, Option, Some, None, Ok, Err, Result, refl, sym, ap, ◌∙◌, subst}
use Rattle.fut_scalar.specs.declared.scalar.ScalarType.{ScalarType}
use Rattle.fut_value.specs.Data.{Array_shape, shape_of}
use Rattle.fut_meaning.specs.Outcomes.{Val}
use Rattle.fut_meaning.specs.Places.{size_of}
use Rattle.array_data.specs.declared.data.Data.{Data}
use Rattle.array_data.specs.declared.form.Form.{Form}
use Rattle.array_data.specs.declared.form.Form.TheVariants as form
use Rattle.array_data.specs.declared.stop.Stop.{Stop}
use Rattle.array_data.specs.declared.stop.Stop.TheVariants.{Memory}
use Rattle.array_data.specs.Answers.{Tells, told, no_memory_told}
use Rattle.array_data.specs.Held.{held, shape_held}
use Rattle.array_data.proofs.Forms.{form_of_words, form_of_rows}
use Rattle.array_data.proofs.Holding.{form_array}
use Rattle.form_parts.specs.Met.{as_shape}
use Rattle.fut_eval.specs.declared.slots.Content.{Content}
use Rattle.fut_eval.specs.declared.slots.Content.TheVariants as content
use Rattle.fut_eval.specs.Slots.{shown, So_long, Knows_length}

-- the shape of an array that was given up
words_shape : (t : ScalarType) (n : ℕ) (o : Option (List ℕ)) (f : Form) → f ≡ form.Scalar t → So_long n o → Array_shape n (shape_held f) ≡ shape_of (held (shown (content.Words t n o)))
words_shape t n None f e l = elim l [ ]
words_shape t n (Some ws) f e l = sym (form_array n f) ∙ form_of_words t ws f n e l

rows_shape : (m : ℕ) (h : Form) (n : ℕ) (o : Option (List Data)) (f : Form) → f ≡ h → So_long n o → shape_held (form.Array n f) ≡ shape_of (held (shown (content.Rows m h n o)))
rows_shape m h n None f e l = elim l [ ]
rows_shape m h n (Some ds) f e l = form_of_rows m h ds f n e l

module _ (x : Content) (d : Data) (v : shown x ≡ d) (k : Knows_length x) where
  as_known : (y : Content) → x ≡ y → shape_of (held (shown y)) ≡ shape_of (held d)
  as_known y e = ap (λ z. shape_of (held (shown z))) (sym e) ∙ ap (λ z. shape_of (held z)) v

  known_as : (y : Content) → x ≡ y → Knows_length y
  known_as y e = subst Knows_length e k

  pub here_form : (c : Data) (f : Form) → x ≡ content.Here c → shape_held f ≡ shape_of (held c) → Tells (Val (shape_of (held d))) (as_shape (Ok f))
  here_form c f e q = told (ap Val (sym (q ∙ as_known (content.Here c) e)))

  pub words_form : (t : ScalarType) (n : ℕ) (o : Option (List ℕ)) (f : Form) (r : Result Form Stop) → x ≡ content.Words t n o → f ≡ form.Scalar t → Tells (Val (Array_shape n (shape_held f))) (as_shape r) → Tells (Val (shape_of (held d))) (as_shape r)
  words_form t n o f r e q h = subst (λ z. Tells (Val z) (as_shape r)) (words_shape t n o f q (known_as (content.Words t n o) e) ∙ as_known (content.Words t n o) e) h

  pub rows_form : (m : ℕ) (h : Form) (n : ℕ) (o : Option (List Data)) (f : Form) → x ≡ content.Rows m h n o → f ≡ h → Tells (Val (shape_of (held d))) (as_shape (Ok (form.Array n f)))
  rows_form m h n o f e q = told (ap Val (sym (rows_shape m h n o f q (known_as (content.Rows m h n o) e) ∙ as_known (content.Rows m h n o) e)))

  pub here_length : (c : Data) (n : ℕ) → x ≡ content.Here c → n ≡ size_of (shape_of (held c)) → n ≡ size_of (shape_of (held d))
  here_length c n e q = q ∙ ap size_of (as_known (content.Here c) e)

  pub words_length : (t : ScalarType) (n : ℕ) (o : Option (List ℕ)) → x ≡ content.Words t n o → n ≡ size_of (shape_of (held d))
  words_length t n o e = ap size_of (words_shape t n o (form.Scalar t) refl (known_as (content.Words t n o) e) ∙ as_known (content.Words t n o) e)

  pub rows_length : (m : ℕ) (h : Form) (n : ℕ) (o : Option (List Data)) → x ≡ content.Rows m h n o → n ≡ size_of (shape_of (held d))
  rows_length m h n o e = ap size_of (sym (form_array n h) ∙ rows_shape m h n o h refl (known_as (content.Rows m h n o) e) ∙ as_known (content.Rows m h n o) e)

pub no_memory_for_form : (d : Data) → Tells (Val (shape_of (held d))) (as_shape (Err Memory))
no_memory_for_form d = no_memory_told

pub ruleset slot_forms = (no_memory_for_form, here_form, words_form, rows_form)

pub ruleset slot_lengths = (here_length, words_length, rows_length)

pub long_rest : {A : Type 0} (n : ℕ) (o : Option (List A)) (xs : List A) → o ≡ Some xs → n ≡ length xs → So_long n o
long_rest n o xs e l = subst (So_long n) (sym e) l

pub ruleset rests = (long_rest)
