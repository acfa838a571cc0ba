use Rattle.fut_flat.specs.Erased.{pattern_of}
use Rattle.size_arena.specs.Trees.{size_of}
use Rattle.size_patterns.proofs.EnterForms.{met_enters, met_not}
use Rattle.size_patterns.proofs.WrittenForms.{met_closed}
use Rattle.size_patterns.proofs.entering.enter_met.Goals as goal

pub returns-in-Ok-clause-gives : goal.returns-in-Ok-clause-gives
returns-in-Ok-clause-gives c = λ N types E k known held is. met_enters N types c.args.lambda (pattern_of c.args.pattern.now) c.args.node (size_of c.args.wanted.size.now) (size_of c.args.wanted.given.now) (size_of c.args.wanted.rest.now) E is c.meet.new.table c.meet.result
    (met_closed c.args.lambda c.args.lambda c.data_way.result (size_of c.args.wanted.size.now) (size_of c.args.wanted.given.now) E.found c.meet.new.table c.meet.result c.data_way.ensures (c.meet.ensures.met E.found held)) c.in-Ok.field-0 c.enter_sized.result c.in-Ok.is (λ σ. c.enter_sized.ensures N types (size_of c.args.wanted.given.now) σ E k known is)

pub returns-in-Err-clause-gives : goal.returns-in-Err-clause-gives
returns-in-Err-clause-gives c = λ N types E k known held is. met_not N types c.args.lambda (pattern_of c.args.pattern.now) c.args.node (size_of c.args.wanted.size.now) (size_of c.args.wanted.given.now) (size_of c.args.wanted.rest.now) E is c.meet.new.table c.meet.result
    (met_closed c.args.lambda c.args.lambda c.data_way.result (size_of c.args.wanted.size.now) (size_of c.args.wanted.given.now) E.found c.meet.new.table c.meet.result c.data_way.ensures (c.meet.ensures.met E.found held)) c.in-Err.error c.in-Err.is
