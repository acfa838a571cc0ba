-- Integers that sizes are worth.
use Rattle.std.proofs.Common.{◌≡◌, ℕ, List, length, Option, Some, None, Ok, Err, Bool, true, false, nat_eq, refl, sym, ap, ◌∙◌}
use Rattle.std.specs.Prelude.{ℤ}
use Rattle.fut_scalar.specs.declared.scalar.Scalar.TheVariants as scalar
use Rattle.fut_scalar.specs.declared.scalar.ScalarType.{ScalarType}
use Rattle.fut_ast.specs.Sorts.{Text}
use Rattle.fut_value.specs.Data.{Datum, Scalar_datum, Tuple_datum, Record_datum, Array_datum, shape_of}
use Rattle.fut_meaning.specs.Arrays.{exact_of, rows_of}
use Rattle.fut_meaning.specs.Found.{count, agrees}
use Rattle.fut_meaning.specs.Outcomes.{Val, Wrong}
use Rattle.fut_meaning.specs.Places.{size_of}
use Rattle.fut_blocks.specs.Sizes.{datum_worth}
use Rattle.array_data.specs.declared.form.Form.{Form}
use Rattle.array_data.specs.declared.form.Form.TheVariants as form
use Rattle.array_data.specs.declared.sizes.Exact.{Exact}
use Rattle.array_data.specs.declared.sizes.Exact.TheVariants as exact
use Rattle.array_data.specs.declared.stop.Stop.{Stop}
use Rattle.array_data.specs.Answers.{Exact_is, exact_is, no_integer, Counts, counts, no_array, exact_held}
use Rattle.array_data.specs.Held.{shape_held, rows_in, row_shape_in}
use Rattle.array_data.proofs.Holding.{form_unmet, form_scalar, form_tuple, form_record, form_array}
use Rattle.form_parts.specs.Met.{exact_met}

-- ---- data

worth_is : (d : Datum) (z : ℤ) → exact_of d ≡ Val z → datum_worth d ≡ Some z
worth_is (Scalar_datum (scalar.Int t n)) z e = cc
worth_is (Scalar_datum (scalar.Bool b)) z e = cc
worth_is (Tuple_datum ds) z e = cc
worth_is (Record_datum ds) z e = cc
worth_is (Array_datum h ds) z e = cc

no_worth : (d : Datum) → exact_of d ≡ Wrong → datum_worth d ≡ None
no_worth (Scalar_datum (scalar.Int t n)) e = cc
no_worth (Scalar_datum (scalar.Bool b)) e = refl
no_worth (Tuple_datum ds) e = refl
no_worth (Record_datum ds) e = refl
no_worth (Array_datum h ds) e = refl

pub is_worth : (d : Datum) (z : Exact) → Exact_is d (Ok z) → exact_met (Some z) ≡ datum_worth d
is_worth d z (exact_is e) = sym (worth_is d (exact_held z) e)

pub worth_nothing : (d : Datum) (x : Stop) → Exact_is d (Err x) → exact_met None ≡ datum_worth d
worth_nothing d _ (no_integer e) = sym (no_worth d e)

pub ruleset worths = (is_worth, worth_nothing)

length_is : (d : Datum) → rows_of d ≡ Val (row_shape_in d, rows_in d) → size_of (shape_of d) ≡ length (rows_in d)
unfolding shape_of
length_is (Scalar_datum s) e = cc
length_is (Tuple_datum ds) e = cc
length_is (Record_datum ds) e = cc
length_is (Array_datum h ds) e = refl

no_length : (d : Datum) → rows_of d ≡ Wrong → size_of (shape_of d) ≡ 0
unfolding shape_of
no_length (Scalar_datum s) e = refl
no_length (Tuple_datum ds) e = refl
no_length (Record_datum ds) e = refl
no_length (Array_datum h ds) e = cc

pub is_long : (d : Datum) (n m : ℕ) → Counts d (Ok n) → m ≡ n → m ≡ size_of (shape_of d)
is_long d n m (counts e q) p = p ∙ q ∙ sym (length_is d e)

pub long_nothing : (d : Datum) (x : Stop) → Counts d (Err x) → 0 ≡ size_of (shape_of d)
long_nothing d _ (no_array e) = sym (no_length d e)

pub ruleset lengths = (is_long, long_nothing)

-- ---- forms

module _ (f : Form) where
  pub array_long : (n : ℕ) (k : Form) → f ≡ form.Array n k → n ≡ size_of (shape_held f)
  array_long n k q = sym (ap size_of (ap shape_held q ∙ form_array n k))

  pub unmet_long : f ≡ form.Unmet → 0 ≡ size_of (shape_held f)
  unmet_long q = sym (ap size_of (ap shape_held q ∙ form_unmet))

  pub scalar_long : (t : ScalarType) → f ≡ form.Scalar t → 0 ≡ size_of (shape_held f)
  scalar_long t q = sym (ap size_of (ap shape_held q ∙ form_scalar t))

  pub tuple_long : (hs : List Form) → f ≡ form.Tuple hs → 0 ≡ size_of (shape_held f)
  tuple_long hs q = sym (ap size_of (ap shape_held q ∙ form_tuple hs))

  pub record_long : (fs : List Text) (hs : List Form) → f ≡ form.Record fs hs → 0 ≡ size_of (shape_held f)
  record_long fs hs q = sym (ap size_of (ap shape_held q ∙ form_record fs hs))

pub ruleset form_lengths = (array_long, unmet_long, scalar_long, tuple_long, record_long)

-- ---- sizes

pub count_natural : (z : Option Exact) (n : ℕ) → z ≡ Some (exact.Natural n) → n ≡ count (exact_met z)
unfolding exact_held
count_natural z n e = sym (ap (λ y. count (exact_met y)) e)

pub count_below : (z : Option Exact) (n : ℕ) → z ≡ Some (exact.Below n) → 0 ≡ count (exact_met z)
unfolding exact_held
count_below z n e = sym (ap (λ y. count (exact_met y)) e)

pub count_nothing : (z : Option Exact) → z ≡ None → 0 ≡ count (exact_met z)
count_nothing z e = sym (ap (λ y. count (exact_met y)) e)

pub ruleset counting = (count_natural, count_below, count_nothing)

module _ (z : Option Exact) (m : ℕ) where
  pub agree_natural : (n : ℕ) (b : Bool) → z ≡ Some (exact.Natural n) → b ≡ nat_eq n m → b ≡ agrees (exact_met z) m
  unfolding exact_held
  agree_natural n b e q = q ∙ sym (ap (λ y. agrees (exact_met y) m) e)

  pub agree_below : (n : ℕ) → z ≡ Some (exact.Below n) → false ≡ agrees (exact_met z) m
  unfolding exact_held
  agree_below n e = sym (ap (λ y. agrees (exact_met y) m) e)

  pub agree_nothing : z ≡ None → true ≡ agrees (exact_met z) m
  agree_nothing e = sym (ap (λ y. agrees (exact_met y) m) e)

pub ruleset agreeing = (agree_natural, agree_below, agree_nothing)
