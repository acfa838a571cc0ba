use Rattle.size_applying.proofs.ArgumentForms.{hole_arrow, open_arrow, level_arrow, built_arrow}
use Rattle.size_applying.proofs.GoingForms.{arrow_done, no_arrow}
use Rattle.size_applying.proofs.going.take_arrow.Goals as goal

pub returns-in-Ok-clause-taken : goal.returns-in-Ok-clause-taken
returns-in-Ok-clause-taken c = arrow_done c.args.node c.args.argument.now c.in-Fun.height c.in-Fun.chosen c.in-Fun.from c.in-Fun.to c.args.application.now c.go_along.new.application c.args.table.now c.go_along.new.table c.in-Fun.is
    c.in-Ok.ensures.frames c.in-Ok.ensures.wants c.in-Ok.ensures.later c.in-Ok.ensures.gives c.in-Ok.ensures.goes_on c.in-Ok.ensures.levels c.in-Ok.ensures.counted

pub returns-in-Hole-clause-taken : goal.returns-in-Hole-clause-taken
returns-in-Hole-clause-taken c = λ N types a ws φ goes_on t ls σ is goes holds. no_arrow N types c.args.node a ws φ goes_on t ls σ c.args.application.now c.args.table.now (hole_arrow c.args.application.now.gives.size.now c.in-Hole.field-0 c.in-Hole.is) goes holds

pub returns-in-Open-clause-taken : goal.returns-in-Open-clause-taken
returns-in-Open-clause-taken c = λ N types a ws φ goes_on t ls σ is goes holds. no_arrow N types c.args.node a ws φ goes_on t ls σ c.args.application.now c.args.table.now (open_arrow c.args.application.now.gives.size.now c.in-Open.node c.in-Open.variable c.in-Open.ty c.in-Open.is) goes holds

pub returns-in-Level-clause-taken : goal.returns-in-Level-clause-taken
returns-in-Level-clause-taken c = λ N types a ws φ goes_on t ls σ is goes holds. no_arrow N types c.args.node a ws φ goes_on t ls σ c.args.application.now c.args.table.now (level_arrow c.args.application.now.gives.size.now c.in-Level.height c.in-Level.size c.in-Level.row c.in-Level.is) goes holds

pub returns-in-Built-clause-taken : goal.returns-in-Built-clause-taken
returns-in-Built-clause-taken c = λ N types a ws φ goes_on t ls σ is goes holds. no_arrow N types c.args.node a ws φ goes_on t ls σ c.args.application.now c.args.table.now (built_arrow c.args.application.now.gives.size.now c.in-Built.height c.in-Built.head c.in-Built.parts c.in-Built.is) goes holds
