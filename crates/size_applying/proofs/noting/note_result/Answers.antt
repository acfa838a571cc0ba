use Rattle.fut_sizes.specs.Applications.{all_settled}
use Rattle.size_arena.specs.Trees.{size_of}
use Rattle.size_applying.specs.Wanted.{laters_of}
use Rattle.size_applying.proofs.NotingForms.{result_told}
use Rattle.size_applying.proofs.noting.note_result.Goals as goal

pub returns-in-Ok : goal.returns-in-Ok
returns-in-Ok c = λ N types σ held chained. result_told N types c.args.node (size_of c.args.size.now) c.args.goes_on (laters_of c.args.later.now) σ c.args.tables.now c.note_whole.new.tables (size_of c.in-Ok.whole.now) c.note_whole.result
    (c.in-Ok.ensures.closed σ held) (c.note_whole.ensures N types (all_settled (size_of c.args.size.now) σ) (c.in-Ok.ensures.settled σ held) chained)
