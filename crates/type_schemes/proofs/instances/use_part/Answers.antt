use Rattle.std.proofs.Common.{◌≤◌, ◌+◌, ◌-◌, length, subst, arith}
use Rattle.type_graph.proofs.Ends.{on_ok}
use Rattle.type_schemes.specs.Schemes.{PartKnown}
use Rattle.type_schemes.proofs.Pushing.{use_free, use_shared, use_again, use_made, use_open, one_label, two_labels, open_labels, open_in, open_tasks, two_tasks, made_graph, made_bound, made_more}
use Rattle.type_schemes.proofs.instances.use_part.Goals as goal

pub returns-in-Free-clause-ok : goal.returns-in-Free-clause-ok
returns-in-Free-clause-ok c T ins = use_free c.args.nodes.now c.args.tasks.now c.push_task.new.tasks c.args.store.now c.args.part c.args.first c.args.count c.args.start c.args.at c.requires.graph c.requires.room c.requires.at c.requires.within c.in-Ok.ensures.ok c.requires.tasks T ins c.in-Free.is

pub returns-in-Shared-clause-ok : goal.returns-in-Shared-clause-ok
returns-in-Shared-clause-ok c = on_ok c.push_task-in-Shared.result (λ is T ins. use_shared c.args.nodes.now c.args.tasks.now c.push_task.new.tasks c.args.store.now c.args.part c.args.first c.args.count c.args.start c.args.at c.requires.graph c.requires.room c.requires.at c.requires.within c.in-Ok.ensures.ok c.requires.tasks T ins c.push_task-in-Shared.new.tasks c.in-Shared.node c.in-Shared.is is) c.push_task-in-Shared.ensures.ok

pub returns-in-Again-clause-ok : goal.returns-in-Again-clause-ok
returns-in-Again-clause-ok c = on_ok c.push_task-in-Again.result (λ is T ins. use_again c.args.nodes.now c.args.tasks.now c.push_task.new.tasks c.args.store.now c.args.part c.args.first c.args.count c.args.start c.args.at c.requires.graph c.requires.room c.requires.at c.requires.within c.in-Ok.ensures.ok c.requires.tasks T ins c.push_task-in-Again.new.tasks c.in-Again.place c.in-Again.is is) c.push_task-in-Again.ensures.ok

pub returns-in-Ok-push_node-clause-graph : goal.returns-in-Ok-push_node-clause-graph
returns-in-Ok-push_node-clause-graph c = on_ok c.push_task-in-Ok-push_node.result (λ is. made_graph c.args.nodes.now c.args.tasks.now c.push_task.new.tasks c.args.store.now c.args.part c.args.first c.args.count c.args.start c.args.at c.requires.graph c.requires.room c.requires.at c.requires.within c.in-Ok.ensures.ok c.requires.tasks c.push_node.new.nodes c.in-Made.head c.in-Made.row c.in-Made.parts c.in-Made.is c.in-Ok-push_node.ensures.ok c.in-Ok-push_node.ensures.room) c.push_task-in-Ok-push_node.ensures.ok

pub returns-in-Ok-push_node-clause-tasks : goal.returns-in-Ok-push_node-clause-tasks
returns-in-Ok-push_node-clause-tasks c = on_ok c.push_task-in-Ok-push_node.result (λ is. let m = made_more c.args.nodes.now c.args.tasks.now c.push_task.new.tasks c.args.store.now c.args.part c.args.first c.args.count c.args.start c.args.at c.requires.graph c.requires.room c.requires.at c.requires.within c.in-Ok.ensures.ok c.requires.tasks c.push_node.new.nodes c.in-Made.head c.in-Made.row c.in-Made.parts c.in-Ok-push_node.made c.in-Ok-push_node.ensures.ok c.in-Ok-push_node.ensures.number in two_tasks c.args.nodes.now c.args.tasks.now c.push_task.new.tasks c.args.store.now c.args.part c.args.first c.args.count c.args.start c.args.at c.requires.graph c.requires.room c.requires.at c.requires.within c.in-Ok.ensures.ok c.requires.tasks (length c.push_node.new.nodes) c.push_task-in-Ok-push_node.new.tasks c.in-Ok-push_node.made m.0 m.1 is) c.push_task-in-Ok-push_node.ensures.ok

pub returns-in-Ok-push_node-clause-bound : goal.returns-in-Ok-push_node-clause-bound
returns-in-Ok-push_node-clause-bound c = on_ok c.push_task-in-Ok-push_node.result (λ is table m known b. made_bound c.args.nodes.now c.args.tasks.now c.push_task.new.tasks c.args.store.now c.args.part c.args.first c.args.count c.args.start c.args.at c.requires.graph c.requires.room c.requires.at c.requires.within c.in-Ok.ensures.ok c.requires.tasks c.push_node.new.nodes c.in-Made.head c.in-Made.row c.in-Made.parts table m (subst (PartKnown table c.args.store.now) c.in-Made.is known) b c.in-Ok-push_node.ensures.ok) c.push_task-in-Ok-push_node.ensures.ok

pub returns-in-Ok-push_node-clause-ok : goal.returns-in-Ok-push_node-clause-ok
returns-in-Ok-push_node-clause-ok c = on_ok c.push_task-in-Ok-push_node.result (λ is T ins. use_made c.args.nodes.now c.args.tasks.now c.push_task.new.tasks c.args.store.now c.args.part c.args.first c.args.count c.args.start c.args.at c.requires.graph c.requires.room c.requires.at c.requires.within c.in-Ok.ensures.ok c.requires.tasks T ins c.push_node.new.nodes c.push_task-in-Ok-push_node.new.tasks c.in-Ok-push_node.made c.in-Made.head c.in-Made.row c.in-Made.parts c.in-Made.is c.in-Ok-push_node.ensures.ok c.in-Ok-push_node.ensures.number c.in-Ok-push_node.ensures.room is) c.push_task-in-Ok-push_node.ensures.ok

pub ask_parts-requires-clause-child : goal.ask_parts-requires-clause-child
ask_parts-requires-clause-child c = let q : c.args.start + (c.in-Open.row - c.args.first) + c.in-Open.parts ≤ c.args.start + c.args.count = open_in c.args.nodes.now c.args.tasks.now c.push_task.new.tasks c.args.store.now c.args.part c.args.first c.args.count c.args.start c.args.at c.requires.graph c.requires.room c.requires.at c.requires.within c.in-Ok.ensures.ok c.requires.tasks c.in-Open.row c.in-Open.parts c.in-Open.is in omega (arith, c.requires.room, c.requires.graph.short)

pub returns-in-Open-clause-ok : goal.returns-in-Open-clause-ok
returns-in-Open-clause-ok c = on_ok c.ask_parts.result (λ is T ins. use_open c.args.nodes.now c.args.tasks.now c.push_task.new.tasks c.args.store.now c.args.part c.args.first c.args.count c.args.start c.args.at c.requires.graph c.requires.room c.requires.at c.requires.within c.in-Ok.ensures.ok c.requires.tasks T ins c.ask_parts.new.tasks c.in-Open.row c.in-Open.parts c.in-Open.is is) c.ask_parts.ensures.ok

pub returns-in-Open-clause-tasks : goal.returns-in-Open-clause-tasks
returns-in-Open-clause-tasks c = on_ok c.ask_parts.result (λ is. open_tasks c.args.nodes.now c.args.tasks.now c.push_task.new.tasks c.args.store.now c.args.part c.args.first c.args.count c.args.start c.args.at c.requires.graph c.requires.room c.requires.at c.requires.within c.in-Ok.ensures.ok c.requires.tasks c.in-Open.row c.in-Open.parts c.ask_parts.new.tasks c.in-Open.is is) c.ask_parts.ensures.ok

pub returns-in-Open-clause-labels : goal.returns-in-Open-clause-labels
returns-in-Open-clause-labels c = on_ok c.ask_parts.result (λ is table known l. open_labels c.args.nodes.now c.args.tasks.now c.push_task.new.tasks c.args.store.now c.args.part c.args.first c.args.count c.args.start c.args.at c.requires.graph c.requires.room c.requires.at c.requires.within c.in-Ok.ensures.ok c.requires.tasks table l c.in-Open.row c.in-Open.parts c.ask_parts.new.tasks c.in-Open.is known is) c.ask_parts.ensures.ok

pub returns-in-Free-clause-labels : goal.returns-in-Free-clause-labels
returns-in-Free-clause-labels c table known l = one_label c.args.nodes.now c.args.tasks.now c.push_task.new.tasks c.args.store.now c.args.part c.args.first c.args.count c.args.start c.args.at c.requires.graph c.requires.room c.requires.at c.requires.within c.in-Ok.ensures.ok c.requires.tasks table l

pub returns-in-Shared-clause-labels : goal.returns-in-Shared-clause-labels
returns-in-Shared-clause-labels c = on_ok c.push_task-in-Shared.result (λ is table known l. two_labels c.args.nodes.now c.args.tasks.now c.push_task.new.tasks c.args.store.now c.args.part c.args.first c.args.count c.args.start c.args.at c.requires.graph c.requires.room c.requires.at c.requires.within c.in-Ok.ensures.ok c.requires.tasks table l (c.args.start + c.args.at) c.in-Shared.node c.push_task-in-Shared.new.tasks is) c.push_task-in-Shared.ensures.ok

pub returns-in-Again-clause-labels : goal.returns-in-Again-clause-labels
returns-in-Again-clause-labels c = on_ok c.push_task-in-Again.result (λ is table known l. two_labels c.args.nodes.now c.args.tasks.now c.push_task.new.tasks c.args.store.now c.args.part c.args.first c.args.count c.args.start c.args.at c.requires.graph c.requires.room c.requires.at c.requires.within c.in-Ok.ensures.ok c.requires.tasks table l (c.args.start + c.args.at) (c.args.start + (c.in-Again.place - c.args.first)) c.push_task-in-Again.new.tasks is) c.push_task-in-Again.ensures.ok

pub returns-in-Ok-push_node-clause-labels : goal.returns-in-Ok-push_node-clause-labels
returns-in-Ok-push_node-clause-labels c = on_ok c.push_task-in-Ok-push_node.result (λ is table known l. two_labels c.args.nodes.now c.args.tasks.now c.push_task.new.tasks c.args.store.now c.args.part c.args.first c.args.count c.args.start c.args.at c.requires.graph c.requires.room c.requires.at c.requires.within c.in-Ok.ensures.ok c.requires.tasks table l (c.args.start + c.args.at) c.in-Ok-push_node.made c.push_task-in-Ok-push_node.new.tasks is) c.push_task-in-Ok-push_node.ensures.ok
