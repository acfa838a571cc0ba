use Rattle.alias_scopes.proofs.scopes.+put.Given as goal

abbrev pub decreases-put : goal.decreases-put
decreases-put l = l.number
