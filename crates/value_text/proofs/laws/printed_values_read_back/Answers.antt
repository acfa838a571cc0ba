use Rattle.value_text.proofs.RoundTrip.{text_reads_back, output_reads_back}
use Rattle.value_text.proofs.laws.printed_values_read_back.Goals as goal

pub returns-clause-one : goal.returns-clause-one
returns-clause-one c = text_reads_back

pub returns-clause-all : goal.returns-clause-all
returns-clause-all c = output_reads_back
