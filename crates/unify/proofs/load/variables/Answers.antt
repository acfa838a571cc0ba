use Rattle.std.proofs.Common.{◌≡◌, ◌≤◌, subst, arith}
use Rattle.unify.specs.Putting.{Blank}
use Rattle.unify.proofs.Putting.{blank_none, blank_more}
use Rattle.unify.proofs.load.variables.Goals as goal

pub loop-at-init : goal.loop-at-init
loop-at-init c = record { blank = blank_none _ c.new-nodes.ensures; within = omega arith }

pub loop-at-preserved : goal.loop-at-preserved
loop-at-preserved c = record {
  blank = blank_more c.loop-at.at c.loop-at.nodes c.push_node.new.nodes c.loop-at.invariant.blank c.in-Ok.ensures.ok c.in-Ok.ensures.room;
  within = omega (arith, c.loop-at-test.true);
}

pub returns-clause-ok : goal.returns-clause-ok
returns-clause-ok c = subst (λ n. Blank n c.loop-at.nodes) (let le : c.loop-at.at ≤ c.args.count = c.loop-at.invariant.within in let ge : c.args.count ≤ c.loop-at.at = c.loop-at-test.false in let e : c.loop-at.at ≡ c.args.count = omega arith in e) c.loop-at.invariant.blank
