use Rattle.std.proofs.lemmas.List.{take_rest}
use Rattle.size_program.specs.Answers.{no_memory}
use Rattle.size_operations.proofs.IndexForms.{index_is}
use Rattle.size_operations.proofs.indices.index.Goals as goal

pub returns-then-parts-eq0 : goal.returns-then-parts-eq0
returns-then-parts-eq0 c = λ N types at. no_memory

pub returns-then-sizes-eq0 : goal.returns-then-sizes-eq0
returns-then-sizes-eq0 c = λ N types at. no_memory

pub returns : goal.returns
returns c = λ N types at. rw (index_is N types c.args.node at c.args.asked.now c.args.parts.now c.args.sizes.now c.index-sizes-0.result c.if-parts-eq0.false c.if-sizes-eq0.false, ← c.index-sizes-0.is, ← take_rest c.args.parts.now 1) (c.sized.ensures _ c.indexed.ensures)
