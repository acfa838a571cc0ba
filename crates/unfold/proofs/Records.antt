-- Records and tuples as data have the parts of the values that they are.
use Rattle.std.proofs.Common.{◌≡◌, ℕ, suc, List, [], ◌∷◌, length, Bool, true, false, cond, Option, Some, None, refl, sym, ap, ◌∙◌}
use Rattle.std.specs.Prelude.{decimal}
use Rattle.std.specs.Str.{bytes_eq}
use Rattle.fut_ast.specs.Sorts.{Text}
use Rattle.fut_meaning.specs.Accessors as accessors
use Rattle.fut_meaning.specs.Accessors.{or_wrong}
use Rattle.fut_value.specs.Data.{Datum, Scalar_datum, Tuple_datum, Record_datum, Array_datum, Datums, no_datum, datum_and, Named_datums, no_named, named_and}
use Rattle.fut_meaning.specs.Datums.{as_value, as_values, as_fields, all_values}
use Rattle.fut_meaning.specs.Flats.{FlatValue}
use Rattle.fut_meaning.specs.Outcomes.{Out, Val, Fail, Wrong, and_then}
use Rattle.fut_meaning.specs.Sames.{Same_out, same_value, same_report, same_wrong}
use Rattle.fut_meaning.specs.Values as values
use Rattle.fut_meaning.specs.Values.{Record_value}
use Rattle.fut_blocks.specs.Meaning.{as_flat}
use Rattle.fut_blocks.specs.Records.{datum_field, datum_part_from, datum_part, datum_replaced, datum_parts, reads}
use Rattle.fut_blocks.specs.Plain.{Part_at, Replace_at}
use Rattle.unfold.specs.Shapes.{Scalar_shape, split_scalar, Is_value}
use Rattle.unfold.proofs.Stands.{FlatFields}

pub and_then_twice : {A B C : Type 0} (o : Out A) (k : A → Out B) (l : B → Out C) → and_then (and_then o k) l ≡ and_then o (λ a. and_then (k a) l)
and_then_twice (Val a) k l = refl
and_then_twice (Fail r) k l = refl
and_then_twice Wrong k l = refl

abbrev valued : Option Datum → Option FlatValue
valued None = None
valued (Some d) = Some (as_value d)

cond_valued : (b : Bool) (d : Datum) (k : Option Datum) (o : Option FlatValue) → o ≡ valued k → cond b (Some (as_flat d)) o ≡ valued (cond b (Some d) k)
cond_valued true d k o e = refl
cond_valued false d k o e = e

field_as : (f : Text) (ds : Named_datums) → values.field f (as_fields ds) ≡ valued (datum_field f ds)
field_as f no_named = refl
field_as f (named_and g d ds) = cond_valued (bytes_eq g f) d (datum_field f ds) (values.field f (as_fields ds)) (field_as f ds)

part_from_as : (k : ℕ) (f : Text) (ds : Datums) → accessors.part_from k f (as_values ds) ≡ valued (datum_part_from k f ds)
part_from_as k f no_datum = refl
part_from_as k f (datum_and d ds) = cond_valued (bytes_eq (decimal k) f) d (datum_part_from (suc k) f ds) (accessors.part_from (suc k) f (as_values ds)) (part_from_as (suc k) f ds)

abbrev one_of : Out Datum → Out FlatValue
one_of o = and_then o (λ d. Val (as_value d))

or_valued : (k : Option Datum) → or_wrong (valued k) ≡ one_of (or_wrong k)
or_valued None = refl
or_valued (Some d) = refl

part_as : (f : Text) (d : Datum) → accessors.part f (as_flat d) ≡ one_of (datum_part f d)
part_as f (Tuple_datum ds) = ap or_wrong (part_from_as 0 f ds) ∙ or_valued (datum_part_from 0 f ds)
part_as f (Record_datum ds) = ap or_wrong (field_as f ds) ∙ or_valued (datum_field f ds)
part_as f (Scalar_datum s) = refl
part_as f (Array_datum row ds) = refl

cond_fields : (b : Bool) (gs hs : Named_datums) (fs : FlatFields) → fs ≡ as_fields hs → cond b (as_fields gs) fs ≡ as_fields (cond b gs hs)
cond_fields true gs hs fs e = refl
cond_fields false gs hs fs e = e

replaced_as : (f : Text) (e : Datum) (ds : Named_datums) → values.replaced f (as_flat e) (as_fields ds) ≡ as_fields (datum_replaced f e ds)
replaced_as f e no_named = refl
replaced_as f e (named_and g d ds) =
    cond_fields (bytes_eq g f) (named_and g e ds) (named_and g d (datum_replaced f e ds)) (values.field_and g (as_value d) (values.replaced f (as_flat e) (as_fields ds))) (ap (λ z. values.field_and g (as_value d) z) (replaced_as f e ds))

abbrev all_of_them : Out (List Datum) → Out (List FlatValue)
all_of_them o = and_then o (λ ds. Val (all_values ds))

pub record_parts_as : (names : List Text) (ds : Named_datums) → accessors.record_parts names (as_fields ds) ≡ all_of_them (datum_parts names ds)
record_parts_as [] ds = refl
record_parts_as (f ∷ names) ds =
    ap (λ z. and_then (or_wrong z) (λ v. and_then (accessors.record_parts names (as_fields ds)) (λ vs. Val (v ∷ vs)))) (field_as f ds)
    ∙ ap (λ z. and_then (or_wrong (valued (datum_field f ds))) (λ v. and_then z (λ vs. Val (v ∷ vs)))) (record_parts_as names ds)
    ∙ by_field (datum_field f ds)
  where
    by_rest : (d : Datum) (o : Out (List Datum)) → and_then (all_of_them o) (λ vs. Val (as_flat d ∷ vs)) ≡ all_of_them (and_then o (λ es. Val (d ∷ es)))
    by_rest d (Val es) = refl
    by_rest d (Fail r) = refl
    by_rest d Wrong = refl

    by_field : (k : Option Datum) → and_then (or_wrong (valued k)) (λ v. and_then (all_of_them (datum_parts names ds)) (λ vs. Val (v ∷ vs))) ≡ all_of_them (and_then (or_wrong k) (λ d. and_then (datum_parts names ds) (λ es. Val (d ∷ es))))
    by_field None = refl
    by_field (Some d) = by_rest d (datum_parts names ds)

-- as many as are asked for
pub parts_number : (names : List Text) (ds : Named_datums) (es : List Datum) → datum_parts names ds ≡ Val es → length es ≡ length names
parts_number [] ds es q = let e : [] ≡ es = cc in sym (ap length e)
parts_number (f ∷ names) ds es q = by_field (or_wrong (datum_field f ds)) (datum_parts names ds) (λ xs e. parts_number names ds xs e) q
  where
    by_field : (o : Out Datum) (p : Out (List Datum)) → ((xs : List Datum) → p ≡ Val xs → length xs ≡ length names) → and_then o (λ d. and_then p (λ xs. Val (d ∷ xs))) ≡ Val es → length es ≡ suc (length names)
    by_field (Val d) (Val xs) h q = let e : (d ∷ xs) ≡ es = cc in sym (ap length e) ∙ ap suc (h xs refl)
    by_field (Val d) (Fail r) h q = absurd (cc)
    by_field (Val d) Wrong h q = absurd (cc)
    by_field (Fail r) p h q = absurd (cc)
    by_field Wrong p h q = absurd (cc)

-- what a step reads of one component
pub part_read : (f : Text) (c : Datum) → Same_out (Is_value Scalar_shape) (reads (Part_at f) (c ∷ [])) (accessors.part f (as_flat c))
unfolding reads
part_read f c = Rattle.std.proofs.Common.subst (λ z. Same_out (Is_value Scalar_shape) (and_then (datum_part f c) (λ e. Val (e ∷ []))) z) (sym (part_as f c)) (by_part (datum_part f c))
  where
    by_part : (o : Out Datum) → Same_out (Is_value Scalar_shape) (and_then o (λ e. Val (e ∷ []))) (one_of o)
    by_part (Val d) = same_value (split_scalar refl)
    by_part (Fail r) = same_report
    by_part Wrong = same_wrong

pub replace_read : (f : Text) (c e : Datum) → Same_out (Is_value Scalar_shape) (reads (Replace_at f) (c ∷ e ∷ [])) (and_then (accessors.fields_of (as_flat c)) (λ fs. Val (Record_value (values.replaced f (as_flat e) fs))))
unfolding reads
replace_read f (Record_datum ds) e = same_value (split_scalar (ap (λ z. Record_value z) (replaced_as f e ds)))
replace_read f (Tuple_datum ds) e = same_wrong
replace_read f (Scalar_datum s) e = same_wrong
replace_read f (Array_datum row ds) e = same_wrong
