use Rattle.std.proofs.Common.{subst}
use Rattle.type_graph.specs.Claims.{Adds}
use Rattle.type_rules.specs.Demands.{All_met, All_allow}
use Rattle.type_rules.proofs.Adding.{tells_both, extends_same, extends_then, no_demand, demand_at, put_more, put_refused, take_all}
use Rattle.type_rules.proofs.demand.put.Goals as goal

pub loop-at-init : goal.loop-at-init
loop-at-init c = record { extends = extends_same c.args.table.now c.args.nodes.now c.args.entries.now c.requires.sound; adds = λ T told. no_demand T c.args.base c.args.nodes.now }

pub put_one-requires-clause-within : goal.put_one-requires-clause-within
put_one-requires-clause-within c = demand_at c.args.table.now c.args.base c.args.demands.now c.loop-at.at _ c.loop-at-test.true c.requires.within

pub returns-in-Err-clause-err : goal.returns-in-Err-clause-err
returns-in-Err-clause-err c = tells_both c.in-Err.error (λ un before T told. put_refused T c.args.base c.args.demands.now c.loop-at.at _ c.args.nodes.now c.loop-at.nodes c.loop-at.nodes c.loop-at-test.true (c.loop-at.invariant.adds T (before T told)) (un T told)) c.in-Err.ensures.err c.in-Err.ensures.before

pub returns-in-Err-clause-before : goal.returns-in-Err-clause-before
returns-in-Err-clause-before c = tells_both c.in-Err.error (λ before again T told. c.loop-at.invariant.extends.told T (before T told)) c.in-Err.ensures.before c.in-Err.ensures.before

pub loop-at-preserved : goal.loop-at-preserved
loop-at-preserved c = record {
  extends = extends_then c.args.table.now c.args.nodes.now c.loop-at.nodes c.put_one.new.nodes c.args.entries.now c.loop-at.entries c.put_one.new.entries c.loop-at.invariant.extends c.in-Ok.ensures.extends;
  adds = λ T told. put_more T c.args.base c.args.demands.now c.loop-at.at _ c.args.nodes.now c.loop-at.nodes c.put_one.new.nodes c.loop-at-test.true (c.loop-at.invariant.adds T (c.in-Ok.ensures.extends.told T told)) (c.in-Ok.ensures.ok T told);
}

pub returns-clause-ok : goal.returns-clause-ok
returns-clause-ok c T told = subst (λ ds. Adds T c.args.base (λ K a. All_met T.shapes K a ds) (λ home. All_allow home ds) c.args.nodes.now c.loop-at.nodes) (take_all c.args.demands.now c.loop-at.at c.loop-at-test.false) (c.loop-at.invariant.adds T told)
