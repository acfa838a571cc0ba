-- Data as values, and back.
use Rattle.std.proofs.Common.{◌≡◌, refl, sym, ap, ◌∙◌}
use Rattle.fut_scalar.specs.declared.place.BindId.{BindId}
use Rattle.fut_flat.specs.declared.prim.Ref.{Ref}
use Rattle.fut_meaning.specs.Outcomes.{Val, Fail, and_then}
use Rattle.fut_value.specs.Data.{Datum, Scalar_datum, Tuple_datum, Record_datum, Array_datum, Datums, no_datum, datum_and, Named_datums, no_named, named_and}
use Rattle.fut_meaning.specs.Values.{Value}
use Rattle.fut_meaning.specs.Answers.{Answer, Gives, Fails, out_of}
use Rattle.fut_meaning.proofs.Agree.{same_report}
use Rattle.fut_meaning.specs.Datums.{as_value, as_values, as_fields, datum_of, datums_of, named_datums_of}

module _ (P B S : Type 0) where
  mutual
    unfolding datum_of datums_of named_datums_of

    pub datum_of_as : (d : Datum) → datum_of {P = P} {B = B} {S = S} (as_value d) ≡ Val d
    datum_of_as (Scalar_datum s) = refl
    datum_of_as (Tuple_datum ds) = ap (λ z. and_then z (λ ds. Val (Tuple_datum ds))) (datums_of_as ds)
    datum_of_as (Record_datum fs) = ap (λ z. and_then z (λ ds. Val (Record_datum ds))) (named_datums_of_as fs)
    datum_of_as (Array_datum row ds) = refl

    pub datums_of_as : (ds : Datums) → datums_of {P = P} {B = B} {S = S} (as_values ds) ≡ Val ds
    datums_of_as no_datum = refl
    datums_of_as (datum_and d ds) = ap (λ z. and_then z (λ d. and_then (datums_of {P = P} {B = B} {S = S} (as_values ds)) (λ ds. Val (datum_and d ds)))) (datum_of_as d) ∙ ap (λ z. and_then z (λ ds. Val (datum_and d ds))) (datums_of_as ds)

    named_datums_of_as : (fs : Named_datums) → named_datums_of {P = P} {B = B} {S = S} (as_fields fs) ≡ Val fs
    named_datums_of_as no_named = refl
    named_datums_of_as (named_and f d fs) = ap (λ z. and_then z (λ d. and_then (named_datums_of {P = P} {B = B} {S = S} (as_fields fs)) (λ ds. Val (named_and f d ds)))) (datum_of_as d) ∙ ap (λ z. and_then z (λ ds. Val (named_and f d ds))) (named_datums_of_as fs)

-- of flat programs
pub datum_of-as : (d : Datum) → datum_of {P = Ref} {B = BindId} {S = Unit {0}} (as_value d) ≡ Val d
datum_of-as d = datum_of_as Ref BindId (Unit {0}) d

pub datums_of-as : (ds : Datums) → datums_of {P = Ref} {B = BindId} {S = Unit {0}} (as_values ds) ≡ Val ds
datums_of-as ds = datums_of_as Ref BindId (Unit {0}) ds

module _ (P B S : Type 0) where
  -- data that are the same value are the same
  pub as_value_one : (d e : Datum) → as_value {P = P} {B = B} {S = S} d ≡ as_value e → d ≡ e
  as_value_one d e h = of_val (sym (datum_of_as P B S d) ∙ ap datum_of h ∙ datum_of_as P B S e)
    where
      of_val : {a b : Datum} → Val a ≡ Val b → a ≡ b
      of_val k = cc

  pub answer_is_one : (a b : Answer) → out_of {P = P} {B = B} {S = S} a ≡ out_of b → a ≡ b
  answer_is_one (Gives d) (Gives e) h = ap Gives (as_value_one d e (let k : Val (as_value {P = P} {B = B} {S = S} d) ≡ Val (as_value e) = h in cc))
  answer_is_one (Fails r) (Fails s) h = ap Fails (same_report (Value P B S) h)
  answer_is_one (Gives d) (Fails s) h = absurd (let k : Val (as_value {P = P} {B = B} {S = S} d) ≡ Fail s = h in cc)
  answer_is_one (Fails r) (Gives e) h = absurd (let k : Fail r ≡ Val (as_value {P = P} {B = B} {S = S} e) = h in cc)
