use Rattle.std.proofs.Common.{subst, ap, ◌∙◌, ◌++◌}
use Rattle.fut_flat.specs.Erased.{parameters}
use Rattle.type_schemes.specs.Uses.{type_numbers}
use Rattle.type_scopes.specs.Parameters.{Meets_all}
use Rattle.type_scopes.proofs.Meeting.{so_far_none, so_far_more}
use Rattle.type_scopes.proofs.Rows.{take_all}
use Rattle.type_scopes.proofs.parameters.enter_parameters.Goals as goal

pub loop-head-init : goal.loop-head-init
loop-head-init c = so_far_none c.args.places c.args.base c.args.depth c.args.own.now c.args.inference.now c.requires.safe

pub loop-head-preserved : goal.loop-head-preserved
loop-head-preserved c = so_far_more c.args.places c.args.base c.args.depth c.args.own.now c.args.inference.now c.args.heads.now c.loop-head.head-index _ c.loop-head.own c.enter_parameter.new.own c.loop-head.inference c.enter_parameter.new.inference c.loop-head-test.true c.loop-head.invariant c.in-Ok.ensures.own c.in-Ok.ensures.ok

pub returns-clause-own : goal.returns-clause-own
returns-clause-own c = c.loop-head.invariant.noted ∙ ap (λ hs. c.args.own.now ++ type_numbers (parameters hs)) (take_all c.args.heads.now c.loop-head.head-index c.loop-head-test.false)

pub returns-clause-ok : goal.returns-clause-ok
returns-clause-ok c = subst (λ hs. Meets_all c.args.places c.args.base c.args.depth (parameters hs) c.args.inference.now c.loop-head.inference) (take_all c.args.heads.now c.loop-head.head-index c.loop-head-test.false) c.loop-head.invariant.meets
