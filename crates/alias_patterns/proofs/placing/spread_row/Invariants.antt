use Rattle.alias_patterns.proofs.PlaceForms.{Spread_made}
use Rattle.alias_patterns.proofs.placing.spread_row.Given as goal

abbrev pub invariant-loop-ty : goal.invariant-loop-ty
invariant-loop-ty l = Spread_made l.starred l.types l.ty-index l.row.items
