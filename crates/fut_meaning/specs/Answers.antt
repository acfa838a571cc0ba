-- What a program answers: a result, which is data, or the report of a failure.
use Rattle.fut_scalar.specs.declared.report.Report.{Report}
use Rattle.fut_value.specs.Data.{Datum}
use Rattle.fut_meaning.specs.Outcomes.{Out, Val, Fail}
use Rattle.fut_meaning.specs.Values.{Value}
use Rattle.fut_meaning.specs.Datums.{as_value}

pub data Answer : Type 0 where
  Gives : Datum → Answer
  Fails : Report → Answer

abbrev pub out_of : {P B S : Type 0} → Answer → Out (Value P B S)
out_of (Gives d) = Val (as_value d)
out_of (Fails r) = Fail r
