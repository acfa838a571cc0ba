use Rattle.fut_flat.specs.Erased.{type_of}
use Rattle.size_arena.specs.Trees.{size_of}
use Rattle.size_written.proofs.AnswerForms.{is_coerced}
use Rattle.size_written.proofs.written.coerced.Goals as goal

pub returns : goal.returns
returns c = λ N k. is_coerced N (type_of c.args.written.now) (size_of c.args.tree.now) (size_of c.in_ok-made.made.now) (c.in_ok-made.ensures N k)
