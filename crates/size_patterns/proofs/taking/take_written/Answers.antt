use Rattle.fut_flat.specs.Erased.{type_of}
use Rattle.size_arena.specs.Trees.{size_of}
use Rattle.size_program.specs.Answers.{no_memory}
use Rattle.size_patterns.proofs.WrittenForms.{written_gives, written_refuses}
use Rattle.size_patterns.proofs.taking.take_written.Goals as goal

pub returns-in-Ok-agree_written-clause-gives : goal.returns-in-Ok-agree_written-clause-gives
returns-in-Ok-agree_written-clause-gives c = λ N σ knows held. written_gives N c.args.sizes.now c.args.at (type_of c.args.written.now) (size_of c.args.size.now) σ c.agree_written.new.table c.agree_written.result
    (c.agree_written.ensures.gives N σ knows (c.in-Ok.ensures N knows) held) c.in-Ok.both.coerced c.in-Ok-agree_written.field-0 c.in-Ok-agree_written.is (c.in-Ok.ensures N knows).is_coerced

pub returns-in-Err-agree_written-clause-gives : goal.returns-in-Err-agree_written-clause-gives
returns-in-Err-agree_written-clause-gives c = λ N σ knows held. written_refuses N c.args.sizes.now c.args.at (type_of c.args.written.now) (size_of c.args.size.now) σ c.agree_written.new.table c.agree_written.result
    (c.agree_written.ensures.gives N σ knows (c.in-Ok.ensures N knows) held) c.in-Err-agree_written.error c.in-Err-agree_written.is

pub returns-in-Err-clause-gives : goal.returns-in-Err-clause-gives
returns-in-Err-clause-gives c = λ N σ knows held. no_memory
