use Rattle.type_patterns.proofs.sizes.ask_size.Goals as goal

pub returns-in-Use-clause-ok : goal.returns-in-Use-clause-ok
returns-in-Use-clause-ok c = rw c.in-Use.is c.ask_size_use.ensures.ok

pub returns-in-Use-clause-err : goal.returns-in-Use-clause-err
returns-in-Use-clause-err c = rw c.in-Use.is c.ask_size_use.ensures.err
