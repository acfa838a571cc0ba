use Rattle.sizes_meet_rules.proofs.Law.{sizing_meets_rules}
use Rattle.sizes_meet_rules.proofs.laws.sizing_meets_rules.Goals as goal

pub returns : goal.returns
returns c = sizing_meets_rules
