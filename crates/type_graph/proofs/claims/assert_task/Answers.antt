use Rattle.type_graph.proofs.Ends.{on_ok, if_err, told_grows}
use Rattle.type_graph.proofs.Adding.{task_within, task_adds, task_nowhere, extends_kept}
use Rattle.std.proofs.Common.{arith}
use Rattle.type_graph.proofs.claims.assert_task.Goals as goal

pub settle-requires-clause-within : goal.settle-requires-clause-within
settle-requires-clause-within c = task_within c.args.table.now c.args.base _ c.args.task c.requires.base c.requires.within

pub returns-clause-extends : goal.returns-clause-extends
returns-clause-extends c = on_ok c.settle.result (extends_kept c.args.table.now c.args.nodes.now c.args.nodes.now c.settle.new.nodes c.args.entries.now c.settle.new.entries (omega arith)) c.settle.ensures.kept

pub returns-clause-ok : goal.returns-clause-ok
returns-clause-ok c = on_ok c.settle.result (λ so T told. task_adds c.args.table.now T c.args.base c.args.nodes.now c.settle.new.nodes c.args.entries.now c.settle.new.entries c.args.task c.requires.sound (told_grows _ _ c.args.entries.now c.settle.new.entries T c.settle.ensures.grows told) c.requires.base c.requires.within (so T told)) c.settle.ensures.ok

pub returns-clause-err : goal.returns-clause-err
returns-clause-err c = if_err c.settle.result (λ un T told. task_nowhere c.args.table.now T c.args.base c.args.nodes.now c.settle.new.nodes c.args.entries.now c.settle.new.entries c.args.task c.requires.sound (told_grows _ _ c.args.entries.now c.settle.new.entries T c.settle.ensures.grows told) c.requires.base c.requires.within (un T told)) c.settle.ensures.err

pub returns-clause-before : goal.returns-clause-before
returns-clause-before c = if_err c.settle.result (λ un T told. told_grows _ _ c.args.entries.now c.settle.new.entries T c.settle.ensures.grows told) c.settle.ensures.err
