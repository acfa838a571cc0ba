use Rattle.std.proofs.Common.{map}
use Rattle.fut_flat.specs.Erased.{term_of, terms, texts}
use Rattle.size_arena.specs.Trees.{sizes_of}
use Rattle.size_program.specs.Answers.{no_memory}
use Rattle.size_program.specs.Program.{sub_of}
use Rattle.size_operations.proofs.OperationForms.{range_is, record_is, tuple_is}
use Rattle.size_operations.proofs.operations.operation.Goals as goal

pub returns-then-parts-sizes : goal.returns-then-parts-sizes
returns-then-parts-sizes c = λ N k. no_memory

pub returns-then-is_plain : goal.returns-then-is_plain
returns-then-is_plain c = λ N k. rw (c.is_plain.ensures.plain c.if-is_plain.true N (sub_of c.args.program.now.types.now) c.args.node c.args.first (terms (map term_of c.args.parts.now)) (sizes_of c.args.sizes.now)) (c.sized.ensures _ c.plain_size.ensures)

pub returns-in-Tuple : goal.returns-in-Tuple
returns-in-Tuple c = λ N k. rw (c.in-Tuple.is, tuple_is N (sub_of c.args.program.now.types.now) c.args.node c.args.first (terms (map term_of c.args.parts.now)) (sizes_of c.args.sizes.now)) (c.sized-in-Tuple.ensures _ c.built.ensures)

pub returns-in-Record : goal.returns-in-Record
returns-in-Record c = λ N k. rw (c.in-Record.is, record_is N (sub_of c.args.program.now.types.now) c.args.node c.args.first (terms (map term_of c.args.parts.now)) (sizes_of c.args.sizes.now) (texts c.in-Record.fields.now)) (c.sized-in-Record.ensures _ (c.record_of.ensures N k))

pub returns-in-Array : goal.returns-in-Array
returns-in-Array c = λ N k. rw c.in-Array.is (c.array.ensures N)

pub returns-in-Index : goal.returns-in-Index
returns-in-Index c = λ N k. rw c.in-Index.is (c.index.ensures N (sub_of c.args.program.now.types.now) c.args.first)

pub returns-in-Project : goal.returns-in-Project
returns-in-Project c = λ N k. rw c.in-Project.is (c.project.ensures N k c.args.first (terms (map term_of c.args.parts.now)))

pub returns-in-Update : goal.returns-in-Update
returns-in-Update c = λ N k. rw c.in-Update.is (c.update.ensures N (sub_of c.args.program.now.types.now))

pub returns-in-Replace : goal.returns-in-Replace
returns-in-Replace c = λ N k. rw c.in-Replace.is (c.replace.ensures N k (sub_of c.args.program.now.types.now) c.args.node c.args.first (terms (map term_of c.args.parts.now)))

pub returns-in-Ascribe : goal.returns-in-Ascribe
returns-in-Ascribe c = λ N k. rw c.in-Ascribe.is (c.ascribe.ensures N k (sub_of c.args.program.now.types.now) c.args.node (terms (map term_of c.args.parts.now)))

pub returns-in-Coerce : goal.returns-in-Coerce
returns-in-Coerce c = λ N k. rw c.in-Coerce.is (c.coerce.ensures N k (sub_of c.args.program.now.types.now) c.args.node (terms (map term_of c.args.parts.now)))

pub returns-in-Declared : goal.returns-in-Declared
returns-in-Declared c = λ N k. rw c.in-Declared.is (c.declare.ensures N k (sub_of c.args.program.now.types.now) (terms (map term_of c.args.parts.now)))

pub returns-in-Range : goal.returns-in-Range
returns-in-Range c = λ N k. rw (c.in-Range.is, range_is N (sub_of c.args.program.now.types.now) c.args.node c.args.first (terms (map term_of c.args.parts.now)) (sizes_of c.args.sizes.now) c.in-Range.stepped c.in-Range.end) (c.sized-in-Range.ensures _ c.range.ensures)

pub returns-in_default : goal.returns-in_default
returns-in_default c = λ N k. no_memory
