use Rattle.fut_flat.specs.Erased.{type_of}
use Rattle.size_arena.specs.Trees.{size_of}
use Rattle.size_patterns.proofs.WrittenForms.{met_closed, sizes_agree, sizes_differ}
use Rattle.size_patterns.proofs.taking.agree_written.Goals as goal

pub returns-in-Ok-clause-gives : goal.returns-in-Ok-clause-gives
returns-in-Ok-clause-gives c = λ N σ knows so held. sizes_agree N c.args.sizes.now c.args.at (type_of c.args.written.now) (size_of c.args.size.now) σ c.args.both so c.meet.new.table c.meet.result
    (met_closed c.args.at c.args.at c.data_way.result (size_of c.args.both.slotted.now) (size_of c.args.size.now) σ c.meet.new.table c.meet.result c.data_way.ensures (c.meet.ensures.met σ held)) c.in-Ok.field-0 c.has_sizes.result c.in-Ok.is (c.has_sizes.ensures N knows)

pub returns-in-Err-clause-gives : goal.returns-in-Err-clause-gives
returns-in-Err-clause-gives c = λ N σ knows so held. sizes_differ N c.args.sizes.now c.args.at (type_of c.args.written.now) (size_of c.args.size.now) σ c.args.both so c.meet.new.table c.meet.result
    (met_closed c.args.at c.args.at c.data_way.result (size_of c.args.both.slotted.now) (size_of c.args.size.now) σ c.meet.new.table c.meet.result c.data_way.ensures (c.meet.ensures.met σ held)) c.in-Err.error c.in-Err.is
