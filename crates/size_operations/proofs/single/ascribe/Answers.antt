use Rattle.fut_flat.specs.Erased.{type_of}
use Rattle.size_program.specs.Answers.{no_memory}
use Rattle.size_operations.proofs.AnswerForms.{from_gives}
use Rattle.size_operations.proofs.SingleForms.{ascribe_is}
use Rattle.size_operations.proofs.single.ascribe.Goals as goal

pub returns-then-sizes-ne1 : goal.returns-then-sizes-ne1
returns-then-sizes-ne1 c = λ N k types node es. no_memory

pub returns : goal.returns
returns c = λ N k types node es. rw (ascribe_is N types node c.args.first es c.args.sizes.now c.index-sizes-0.result c.if-sizes-ne1.false (type_of c.args.written.now), ← c.index-sizes-0.is) (from_gives _ _ (c.ascribed.ensures N k))
