use Rattle.fut_flat.specs.Erased.{type_of}
use Rattle.size_arena.specs.Trees.{size_of}
use Rattle.size_written.proofs.AnswerForms.{is_parameter}
use Rattle.size_written.proofs.written.parameter_size.Goals as goal

pub returns : goal.returns
returns c = λ N k. is_parameter N (type_of c.args.written.now) (size_of c.args.tree.now) (size_of c.in_ok-made.made.now) (c.in_ok-made.ensures N k)
