use Rattle.size_arena.specs.Trees.{size_of, sizes_of}
use Rattle.size_written.specs.Answers.{held}
use Rattle.size_written.proofs.PartForms.{named_built, named_other}
use Rattle.size_written.proofs.parts.part_of.Goals as goal

pub returns-in_ok-found-in-Some : goal.returns-in_ok-found-in-Some
returns-in_ok-found-in-Some c = λ N k. named_built N c.args.name.now c.in-Some.row.head (sizes_of c.in-Some.row.parts.now) (size_of c.args.tree.now) c.in-Some.ensures (held c.in_ok-found-in-Some.found)
    (c.in_ok-found-in-Some.ensures _ (c.in_ok-place-in-Some.ensures N k))

pub returns-in-None : goal.returns-in-None
returns-in-None c = λ N k. named_other N c.args.name.now (size_of c.args.tree.now) c.in-None.ensures
