use Rattle.std.proofs.Common.{refl, ◌∙◌, arith}
use Rattle.type_graph.specs.Resolving.{Walked}
use Rattle.type_graph.proofs.Marks.{one_more}
use Rattle.type_graph.proofs.Walking.{none_open}
use Rattle.type_graph.proofs.resolving.resolve.Goals as goal

pub loop-at-init : goal.loop-at-init
loop-at-init c = record { empty = c.new-steps.ensures; underway = none_open c.args.nodes.now c.args.entries.now c.in_ok-marks.marks (c.in_ok-marks.ensures.long ∙ c.len.ensures) c.in_ok-marks.ensures.white; here = λ i lt. absurd (omega arith); within = omega arith }

pub loop-at-preserved : goal.loop-at-preserved
loop-at-preserved c = record {
  empty = c.in-Ok.ensures.empty;
  underway = c.in-Ok.ensures.underway;
  here = λ i lt. one_more (Walked c.args.nodes.now c.args.entries.now) c.loop-at.at _ i lt refl c.loop-at.invariant.here c.in-Ok.ensures.here;
  within = omega (arith, c.len.ensures, c.loop-at-test.true);
}

pub returns-clause-ok : goal.returns-clause-ok
returns-clause-ok c i lt = (c.loop-at.invariant.here i (omega (arith, c.loop-at-test.false))).0

pub returns-clause-founded : goal.returns-clause-founded
returns-clause-founded c i lt = (c.loop-at.invariant.here i (omega (arith, c.loop-at-test.false))).1
