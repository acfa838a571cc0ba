use Rattle.size_program.specs.Answers.{no_memory}
use Rattle.size_operations.proofs.SingleForms.{replace_is}
use Rattle.size_operations.proofs.single.replace.Goals as goal

pub returns-then-sizes-ne2 : goal.returns-then-sizes-ne2
returns-then-sizes-ne2 c = λ N k types node at es. no_memory

pub returns : goal.returns
returns c = λ N k types node at es. rw (replace_is N types node at es c.args.sizes.now c.index-sizes-0.result c.args.name.now c.index-sizes-1.result c.if-sizes-ne2.false, ← c.index-sizes-0.is, ← c.index-sizes-1.is) (c.sized.ensures _ (c.changed_part.ensures N k))
