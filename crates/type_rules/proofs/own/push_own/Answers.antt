use Rattle.std.proofs.Common.{◌≡◌, ◌≤◌, subst, arith}
use Rattle.type_rules.specs.Own.{Freed}
use Rattle.type_rules.proofs.Freeing.{freed_none, freed_more}
use Rattle.type_rules.proofs.own.push_own.Goals as goal

pub loop-at-init : goal.loop-at-init
loop-at-init c = record { so_far = freed_none c.args.nodes.now c.requires; within = omega arith }

pub loop-at-preserved : goal.loop-at-preserved
loop-at-preserved c = record {
  so_far = freed_more c.args.nodes.now c.loop-at.nodes c.push_node.new.nodes c.loop-at.at c.loop-at.invariant.so_far c.in-Ok.ensures.ok c.in-Ok.ensures.room;
  within = omega (arith, c.loop-at-test.true);
}

pub returns-clause-ok : goal.returns-clause-ok
returns-clause-ok c = subst (λ n. Freed c.args.nodes.now n c.loop-at.nodes) (let le : c.loop-at.at ≤ c.args.count = c.loop-at.invariant.within in let ge : c.args.count ≤ c.loop-at.at = c.loop-at-test.false in let e : c.loop-at.at ≡ c.args.count = omega arith in e) c.loop-at.invariant.so_far
