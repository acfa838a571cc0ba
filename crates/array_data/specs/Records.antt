-- Records, by what the meaning says of them.
use Rattle.std.specs.Prelude.{◌≡◌, ℕ, zero, suc, List, [], ◌∷◌, ◌++◌, Bool, true, false, Result, Ok, Err}
use Rattle.std.specs.Str.{bytes_eq}
use Rattle.fut_ast.specs.Sorts.{Text}
use Rattle.fut_value.specs.Data.{Datum, Record_datum}
use Rattle.fut_meaning.specs.Outcomes.{Out, Val, and_then}
use Rattle.fut_blocks.specs.Records.{datum_fields, datum_parts, datum_replaced}
use Rattle.array_data.specs.declared.stop.Stop.{Stop}
use Rattle.array_data.specs.declared.stop.Stop.TheVariants.{Memory}

-- exactly this datum, or no memory
pub data Comes_to (o : Out Datum) : Result Datum Stop → Type 0 where
  comes_to : {d : Datum} → o ≡ Val d → Comes_to o (Ok d)
  no_memory_comes : Comes_to o (Err Memory)

-- exactly these data are put on a stack
pub data All_put (o : Out (List Datum)) (stack stack' : List Datum) : Result (Unit {0}) Stop → Type 0 where
  all_put : {es : List Datum} → o ≡ Val es → stack' ≡ stack ++ es → All_put o stack stack' (Ok tt)
  not_all_put : All_put o stack stack' (Err Memory)

-- a name stands here, and nowhere before
abbrev pub Is_first : Text → List Text → ℕ → Type 0
Is_first f [] i = ⊥
Is_first f (g ∷ gs) zero = bytes_eq g f ≡ true
Is_first f (g ∷ gs) (suc i) = (bytes_eq g f ≡ false) × Is_first f gs i

-- a record with another datum for a field
abbrev pub replaced_of : Text → Datum → Datum → Out Datum
replaced_of f d e = and_then (datum_fields d) (λ ds. Val (Record_datum (datum_replaced f e ds)))

-- the parts of a record under these names
abbrev pub fields_of : List Text → Datum → Out (List Datum)
fields_of fs d = and_then (datum_fields d) (datum_parts fs)
