use Rattle.sized_meaning.proofs.Given.{sized_programs_report_no_other_sizes}
use Rattle.sized_meaning.proofs.laws.sized_programs_report_no_other_sizes.Goals as goal

pub returns : goal.returns
returns c = sized_programs_report_no_other_sizes
