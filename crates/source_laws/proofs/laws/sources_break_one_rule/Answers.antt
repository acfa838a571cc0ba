use Rattle.source_laws.proofs.Sources.{rule_is_one, not_broken_too}
use Rattle.source_laws.proofs.laws.sources_break_one_rule.Goals as goal

pub returns-clause-one : goal.returns-clause-one
returns-clause-one c = rule_is_one

pub returns-clause-broken : goal.returns-clause-broken
returns-clause-broken c = not_broken_too
