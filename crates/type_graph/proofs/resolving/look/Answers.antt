use Rattle.std.proofs.Common.{sym, ◌∙◌}
use Rattle.type_graph.proofs.Walking.{loops, goes_by, goes_in}
use Rattle.type_graph.proofs.resolving.look.Goals as goal

pub returns-in-Open-clause-err : goal.returns-in-Open-clause-err
returns-in-Open-clause-err c = loops c.args.nodes.now c.args.entries.now c.requires.placed c.args.marks.now c.args.steps.now c.args.step c.requires.underway c.args.child c.args.after c.requires.splits c.find-root.result c.find-root.ensures (sym c.mark_of.ensures ∙ c.in-Open.is)

pub returns-in_ok-push-in-Done-clause-ok : goal.returns-in_ok-push-in-Done-clause-ok
returns-in_ok-push-in-Done-clause-ok c = goes_by c.args.nodes.now c.args.entries.now c.requires.placed c.args.marks.now c.args.steps.now c.args.step c.requires.underway c.args.child c.args.after c.requires.splits c.find-root.result c.find-root.ensures (sym c.mark_of.ensures ∙ c.in-Done.is) c.push.new.self c.in_ok-push-in-Done.ensures.ok

pub returns-in_ok-open-in-White-clause-ok : goal.returns-in_ok-open-in-White-clause-ok
returns-in_ok-open-in-White-clause-ok c = goes_in c.args.nodes.now c.args.entries.now c.requires.placed c.args.marks.now c.args.steps.now c.args.step c.requires.underway c.args.child c.args.after c.requires.splits c.find-root.result c.find-root.ensures (sym c.mark_of.ensures ∙ c.in-White.is) c.open.new.marks c.push-in-White.new.self c.open.new.steps c.open.ensures.marks c.in_ok-push-in-White.ensures.ok c.in_ok-open-in-White.ensures.steps
