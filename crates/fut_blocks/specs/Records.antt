-- Records and tuples as data: their parts, found as those of values are.
use Rattle.std.specs.Prelude.{ℕ, suc, List, [], ◌∷◌, cond, decimal, Option, Some, None}
use Rattle.std.specs.Str.{bytes_eq}
use Rattle.fut_ast.specs.Sorts.{Text}
use Rattle.fut_meaning.specs.Accessors.{or_wrong}
use Rattle.fut_value.specs.Data.{Datum, Tuple_datum, Record_datum, Datums, no_datum, datum_and, Named_datums, no_named, named_and}
use Rattle.fut_meaning.specs.Outcomes.{Out, Val, Wrong, and_then}
use Rattle.fut_blocks.specs.Plain.{Reading, Record_with, Part_at, Replace_at, Fields_at}

abbrev pub datum_field : Text → Named_datums → Option Datum
datum_field f no_named = None
datum_field f (named_and g d ds) = cond (bytes_eq g f) (Some d) (datum_field f ds)

abbrev pub datum_part_from : ℕ → Text → Datums → Option Datum
datum_part_from k f no_datum = None
datum_part_from k f (datum_and d ds) = cond (bytes_eq (decimal k) f) (Some d) (datum_part_from (suc k) f ds)

abbrev pub datum_part : Text → Datum → Out Datum
datum_part f (Tuple_datum ds) = or_wrong (datum_part_from 0 f ds)
datum_part f (Record_datum ds) = or_wrong (datum_field f ds)
datum_part f d = Wrong

abbrev pub datum_fields : Datum → Out Named_datums
datum_fields (Record_datum ds) = Val ds
datum_fields d = Wrong

abbrev pub datum_replaced : Text → Datum → Named_datums → Named_datums
datum_replaced f e no_named = no_named
datum_replaced f e (named_and g d ds) = cond (bytes_eq g f) (named_and g e ds) (named_and g d (datum_replaced f e ds))

abbrev pub datum_parts : List Text → Named_datums → Out (List Datum)
datum_parts [] ds = Val []
datum_parts (f ∷ names) ds = and_then (or_wrong (datum_field f ds)) (λ d. and_then (datum_parts names ds) (λ es. Val (d ∷ es)))

abbrev pub named_data : List Text → List Datum → Named_datums
named_data [] ds = no_named
named_data (f ∷ fs) [] = no_named
named_data (f ∷ fs) (d ∷ ds) = named_and f d (named_data fs ds)

unfoldable pub reads : Reading → List Datum → Out (List Datum)
reads (Record_with fs) ds = Val (Record_datum (named_data fs ds) ∷ [])
reads (Part_at f) (d ∷ []) = and_then (datum_part f d) (λ e. Val (e ∷ []))
reads (Replace_at f) (d ∷ e ∷ []) = and_then (datum_fields d) (λ ds. Val (Record_datum (datum_replaced f e ds) ∷ []))
reads (Fields_at fs) (d ∷ []) = and_then (datum_fields d) (datum_parts fs)
reads k ds = Wrong
