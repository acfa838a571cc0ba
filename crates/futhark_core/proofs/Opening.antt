-- Components of which a tuple is the only one, opened.
use Rattle.std.proofs.Common.{◌≡◌, ℕ, List, [], ◌∷◌, length, get_or, Bool, true, false, refl, sym, ap, ◌∙◌, subst}
use Rattle.fut_scalar.specs.declared.scalar.Scalar.{Scalar}
use Rattle.fut_scalar.specs.declared.scalar.ScalarType.{ScalarType}
use Rattle.fut_ast.specs.Sorts.{Text}
use Rattle.fut_value.specs.Data.{Datum, Scalar_datum, Tuple_datum, Record_datum, Array_datum}
use Rattle.array_data.specs.Held.{held, held_all}
use Rattle.array_data.specs.declared.data.Data.{Data}
use Rattle.array_data.specs.declared.data.Data.TheVariants as hold
use Rattle.array_data.specs.declared.form.Form.{Form}
use Rattle.array_primitives.proofs.Planning.{one_held}
use Rattle.array_data.proofs.Holding.{held_scalar, held_words, held_rows, held_tuple, held_record}
use Rattle.unfolded_runs.specs.Results.{opened}
use Rattle.unfolded_runs.proofs.Data.{listed_datums}

pub unopened : (b : Bool) (ds : List Data) → b ≡ false → held_all ds ≡ opened b (held_all ds)
unopened b ds e = subst (λ c. held_all ds ≡ opened c (held_all ds)) (sym e) (other (held_all ds))
  where
    other : (xs : List Datum) → xs ≡ opened false xs
    other [] = refl
    other (Scalar_datum s ∷ xs) = refl
    other (Tuple_datum es ∷ []) = refl
    other (Tuple_datum es ∷ x ∷ xs) = refl
    other (Record_datum fs ∷ xs) = refl
    other (Array_datum row es ∷ xs) = refl

several : (b : Bool) (x y : Datum) (xs : List Datum) → opened b (x ∷ y ∷ xs) ≡ x ∷ y ∷ xs
several true (Scalar_datum s) y xs = refl
several true (Tuple_datum ds) y xs = refl
several true (Record_datum fs) y xs = refl
several true (Array_datum row ds) y xs = refl
several false (Scalar_datum s) y xs = refl
several false (Tuple_datum ds) y xs = refl
several false (Record_datum fs) y xs = refl
several false (Array_datum row ds) y xs = refl

none : (b : Bool) → opened b [] ≡ []
none true = refl
none false = refl

pub not_alone : (b : Bool) (ds : List Data) → (length ds ≡ 1 → ⊥) → held_all ds ≡ opened b (held_all ds)
unfolding held_all
not_alone b [] n = sym (none b)
not_alone b (d ∷ []) n = absurd (n refl)
not_alone b (d ∷ e ∷ ds) n = sym (several b (held d) (held e) (held_all ds))

-- the only component, and what it is
module _ (b : Bool) (ds : List Data) (d : Data) (tuple : b ≡ true) (long : length ds ≡ 1) where
  alone : held_all ds ≡ held (get_or ds 0 d) ∷ []
  alone = one_held ds d long

  is_opened : (x : Datum) (c : Data) → get_or ds 0 d ≡ c → held c ≡ x → opened b (held_all ds) ≡ opened true (x ∷ [])
  is_opened x c e h = ap (λ z. opened z (held_all ds)) tuple ∙ ap (opened true) alone ∙ ap (λ z. opened true (held z ∷ [])) e ∙ ap (λ z. opened true (z ∷ [])) h

  kept : (x : Datum) (c : Data) → get_or ds 0 d ≡ c → held c ≡ x → opened true (x ∷ []) ≡ x ∷ [] → held_all ds ≡ opened b (held_all ds)
  kept x c e h k = alone ∙ ap (λ z. held z ∷ []) e ∙ ap (λ z. z ∷ []) h ∙ sym (is_opened x c e h ∙ k)

  pub opened_tuple : (n : ℕ) (parts : List Data) → get_or ds 0 d ≡ hold.Tuple n parts → held_all parts ≡ opened b (held_all ds)
  opened_tuple n parts e = sym (is_opened _ (hold.Tuple n parts) e (held_tuple n parts) ∙ listed_datums (held_all parts))

  pub opened_scalar : (s : Scalar) → get_or ds 0 d ≡ hold.Scalar s → held_all ds ≡ opened b (held_all ds)
  opened_scalar s e = kept _ (hold.Scalar s) e (held_scalar s) refl

  pub opened_words : (t : ScalarType) (ws : List ℕ) → get_or ds 0 d ≡ hold.Words t ws → held_all ds ≡ opened b (held_all ds)
  opened_words t ws e = kept _ (hold.Words t ws) e (held_words t ws) refl

  pub opened_rows : (n : ℕ) (row : Form) (rows : List Data) → get_or ds 0 d ≡ hold.Rows n row rows → held_all ds ≡ opened b (held_all ds)
  opened_rows n row rows e = kept _ (hold.Rows n row rows) e (held_rows n row rows) refl

  pub opened_record : (n : ℕ) (fs : List Text) (parts : List Data) → get_or ds 0 d ≡ hold.Record n fs parts → held_all ds ≡ opened b (held_all ds)
  opened_record n fs parts e = kept _ (hold.Record n fs parts) e (held_record n fs parts) refl

pub ruleset openings = (unopened, not_alone, opened_tuple, opened_scalar, opened_words, opened_rows, opened_record)
