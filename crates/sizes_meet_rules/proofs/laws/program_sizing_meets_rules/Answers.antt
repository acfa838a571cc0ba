use Rattle.sizes_meet_rules.proofs.Law.{program_sizing_meets_rules}
use Rattle.sizes_meet_rules.proofs.laws.program_sizing_meets_rules.Goals as goal

pub returns : goal.returns
returns c = program_sizing_meets_rules
