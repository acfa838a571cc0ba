use Rattle.std.proofs.Common.{arith}
use Rattle.type_graph.proofs.Walking.{this_step, in_marks, leaves, over_of, none_over, row_over, chain_over, row_splits, chain_splits, chain_starts, row_short, ok_of}
use Rattle.type_graph.proofs.resolving.go_on.Goals as goal

pub look-requires-clause-splits : goal.look-requires-clause-splits
look-requires-clause-splits c = row_splits c.args.nodes.now c.args.entries.now c.args.step c.in-Made.head c.in-Made.at c.in-Made.count c.in-Made.is (omega (arith, c.if-count-eq0.false)) (this_step c.args.nodes.now c.args.entries.now c.requires.placed c.args.marks.now c.args.steps.now c.args.step c.requires.underway)

pub overflow_add-after : goal.overflow_add-after
overflow_add-after c = omega (arith, row_short c.args.nodes.now c.args.entries.now c.requires.placed c.args.step c.in-Made.head c.in-Made.at c.in-Made.count c.in-Made.is (omega (arith, c.if-count-eq0.false)) (this_step c.args.nodes.now c.args.entries.now c.requires.placed c.args.marks.now c.args.steps.now c.args.step c.requires.underway))

pub leave-requires : goal.leave-requires
leave-requires c = in_marks c.args.nodes.now c.args.entries.now c.requires.placed c.args.marks.now c.args.steps.now c.args.step c.requires.underway

pub leave-requires-then-count-eq0 : goal.leave-requires-then-count-eq0
leave-requires-then-count-eq0 c = in_marks c.args.nodes.now c.args.entries.now c.requires.placed c.args.marks.now c.args.steps.now c.args.step c.requires.underway

pub leave-requires-then-count-eq0-2 : goal.leave-requires-then-count-eq0-2
leave-requires-then-count-eq0-2 c = in_marks c.args.nodes.now c.args.entries.now c.requires.placed c.args.marks.now c.args.steps.now c.args.step c.requires.underway

pub returns-in-Free-clause-ok : goal.returns-in-Free-clause-ok
returns-in-Free-clause-ok c = ok_of c.leave.result (leaves c.args.nodes.now c.args.entries.now c.requires.placed c.args.marks.now c.args.steps.now c.args.step c.requires.underway (none_over c.args.step.left c.in-Free.is) c.leave.new.marks c.leave.ensures.marks)

pub returns-then-count-eq0-clause-ok : goal.returns-then-count-eq0-clause-ok
returns-then-count-eq0-clause-ok c = ok_of c.leave-then-count-eq0.result (leaves c.args.nodes.now c.args.entries.now c.requires.placed c.args.marks.now c.args.steps.now c.args.step c.requires.underway (over_of c.args.step.left _ c.in-Made.is (λ T. row_over T c.in-Made.head c.in-Made.at c.in-Made.count c.if-count-eq0.true)) c.leave-then-count-eq0.new.marks c.leave-then-count-eq0.ensures.marks)

pub returns-then-count-eq0-2-clause-ok : goal.returns-then-count-eq0-2-clause-ok
returns-then-count-eq0-2-clause-ok c = ok_of c.leave-then-count-eq0-2.result (leaves c.args.nodes.now c.args.entries.now c.requires.placed c.args.marks.now c.args.steps.now c.args.step c.requires.underway (over_of c.args.step.left _ c.in-Open.is (λ T. chain_over T c.in-Open.start c.in-Open.count c.if-count-eq0-2.true)) c.leave-then-count-eq0-2.new.marks c.leave-then-count-eq0-2.ensures.marks)

pub entry_of-entry-requires : goal.entry_of-entry-requires
entry_of-entry-requires c = chain_starts c.args.nodes.now c.args.entries.now c.args.step c.in-Open.start c.in-Open.count c.in-Open.is (this_step c.args.nodes.now c.args.entries.now c.requires.placed c.args.marks.now c.args.steps.now c.args.step c.requires.underway)

pub look-requires-in-Open-clause-splits : goal.look-requires-in-Open-clause-splits
look-requires-in-Open-clause-splits c = chain_splits c.args.nodes.now c.args.entries.now c.args.step c.in-Open.start c.in-Open.count c.entry_of-entry.result c.requires.placed c.in-Open.is (omega (arith, c.if-count-eq0-2.false)) c.entry_of-entry.ensures (this_step c.args.nodes.now c.args.entries.now c.requires.placed c.args.marks.now c.args.steps.now c.args.step c.requires.underway)
