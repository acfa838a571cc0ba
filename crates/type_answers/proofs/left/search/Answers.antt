use Rattle.std.proofs.Common.{sym, ◌∙◌}
use Rattle.type_answers.proofs.LeftLaws.{stands_here, searching_seen, searching_more, more_less}
use Rattle.type_answers.proofs.left.search.Goals as goal

pub returns-in-Ok-true-clause-stands : goal.returns-in-Ok-true-clause-stands
returns-in-Ok-true-clause-stands c = stands_here c.args.nodes.now c.args.seen.now c.loop-at.seen c.loop-at.stack c.pop.new.self c.args.start c.in-Some.at c.find-root.result c.requires.graph c.loop-at.invariant c.in-Some.ensures c.find-root.ensures (c.in-Ok-true.ensures.found c.in-Ok-true.field-0-test)

pub loop-at-smaller-in-Ok-false : goal.loop-at-smaller-in-Ok-false
loop-at-smaller-in-Ok-false c = more_less c.args.nodes.now c.args.seen.now c.loop-at.seen c.loop-at.stack c.pop.new.self c.args.start c.in-Some.at c.find-root.result c.requires.graph c.loop-at.invariant c.in-Some.ensures c.find-root.ensures
    c.set_seen.new.seen c.look.new.stack c.set_seen.ensures (c.in-Ok-false.ensures.parts c.in-Ok-false.field-0-test) (c.in-Ok-false.ensures.fine c.in-Ok-false.field-0-test) (sym c.is_seen.ensures ∙ c.if-not-is_seen.true)

pub loop-at-preserved-in-Ok-false : goal.loop-at-preserved-in-Ok-false
loop-at-preserved-in-Ok-false c = searching_more c.args.nodes.now c.args.seen.now c.loop-at.seen c.loop-at.stack c.pop.new.self c.args.start c.in-Some.at c.find-root.result c.requires.graph c.loop-at.invariant c.in-Some.ensures c.find-root.ensures
    c.set_seen.new.seen c.look.new.stack c.set_seen.ensures (c.in-Ok-false.ensures.parts c.in-Ok-false.field-0-test) (c.in-Ok-false.ensures.fine c.in-Ok-false.field-0-test)

pub loop-at-preserved : goal.loop-at-preserved
loop-at-preserved c = searching_seen c.args.nodes.now c.args.seen.now c.loop-at.seen c.loop-at.stack c.pop.new.self c.args.start c.in-Some.at c.find-root.result c.requires.graph c.loop-at.invariant c.in-Some.ensures c.find-root.ensures (sym c.is_seen.ensures ∙ c.if-not-is_seen.false)
