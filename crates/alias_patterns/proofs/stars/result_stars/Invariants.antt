use Rattle.alias_values.specs.Trees.{stars_of}
use Rattle.alias_patterns.proofs.StarForms.{Result_from}
use Rattle.alias_patterns.proofs.stars.result_stars.Given as goal

abbrev pub invariant-loop-i : goal.invariant-loop-i
invariant-loop-i l = Result_from l.parameters (stars_of l.stars) l.i l.rest
