use Rattle.std.proofs.Common.{sym, ◌∙◌}
use Rattle.fut_flat.specs.Erased.{type_of}
use Rattle.uniqueness.specs.Answers.{no_memory}
use Rattle.uniqueness.specs.Held.{helds_of, here_of}
use Rattle.alias_program.specs.Program.{sub_of}
use Rattle.alias_types.specs.Kinds.{kinds_of}
use Rattle.alias_operations.proofs.OperateForms.{coerce_is, declared_is}
use Rattle.alias_operations.proofs.operations.operate.Goals as goal

pub returns-then-is_fresh : goal.returns-then-is_fresh
returns-then-is_fresh c = λ N k scope. c.anew.ensures N scope c.args.mark c.args.act.now (sym c.is_fresh.ensures ∙ c.if-is_fresh.true)

pub returns-in-Tuple : goal.returns-in-Tuple
returns-in-Tuple c = λ N k scope. rw c.in-Tuple.is (c.tuple.ensures N (kinds_of c.args.program.now.kinds.now) (sub_of c.args.program.now.types.now) scope c.args.node c.args.mark)

pub returns-in-Record : goal.returns-in-Record
returns-in-Record c = λ N k scope. rw c.in-Record.is (c.record.ensures N k scope c.args.mark)

pub returns-in-Index : goal.returns-in-Index
returns-in-Index c = λ N k scope. rw c.in-Index.is (c.index.ensures N scope c.in-Index.field-0.now c.args.mark)

pub returns-in-Project : goal.returns-in-Project
returns-in-Project c = λ N k scope. rw c.in-Project.is (c.project.ensures N k (kinds_of c.args.program.now.kinds.now) (sub_of c.args.program.now.types.now) (here_of scope c.args.here.now) c.args.node c.args.mark)

pub returns-in-Update : goal.returns-in-Update
returns-in-Update c = λ N k scope. rw c.in-Update.is (c.updated.ensures N scope)

pub returns-in-Replace : goal.returns-in-Replace
returns-in-Replace c = λ N k scope. rw c.in-Replace.is (c.replace.ensures N k (kinds_of c.args.program.now.kinds.now) (sub_of c.args.program.now.types.now) scope c.args.node c.args.mark)

pub returns-in-Ascribe : goal.returns-in-Ascribe
returns-in-Ascribe c = λ N k scope. rw c.in-Ascribe.is (c.ascribed.ensures N k scope c.args.mark)

pub returns-in-Coerce : goal.returns-in-Coerce
returns-in-Coerce c = λ N k scope. rw (c.in-Coerce.is, coerce_is N (kinds_of c.args.program.now.kinds.now) (sub_of c.args.program.now.types.now) (here_of scope c.args.here.now) (type_of c.in-Coerce.written.now) c.args.node c.args.mark (helds_of c.args.held.now)) (c.ascribed-in-Coerce.ensures N k scope c.args.mark)

pub returns-in-Declared : goal.returns-in-Declared
returns-in-Declared c = λ N k scope. rw (c.in-Declared.is, declared_is N (kinds_of c.args.program.now.kinds.now) (sub_of c.args.program.now.types.now) (here_of scope c.args.here.now) (type_of c.in-Declared.written.now) c.args.node c.args.mark (helds_of c.args.held.now)) (c.ascribed-in-Declared.ensures N k scope c.args.mark)

pub returns-in_default : goal.returns-in_default
returns-in_default c = λ N k scope. no_memory
