use Rattle.size_applying.proofs.going.go_along.Goals as goal

pub returns-clause-levels : goal.returns-clause-levels
returns-clause-levels c = λ rest is. c.in_ok-levels.ensures rest is
