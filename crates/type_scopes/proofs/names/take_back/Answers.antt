use Rattle.std.proofs.Common.{sym, subst, arith}
use Rattle.type_scopes.specs.declared.Inference.{Inference}
use Rattle.type_scopes.proofs.Table.{Left, left_all, left_less, left_none}
use Rattle.type_scopes.proofs.names.take_back.Goals as goal

pub loop-inference-init : goal.loop-inference-init
loop-inference-init c before added is long = left_all c.args.inference.now before added is

pub loop-inference-preserved : goal.loop-inference-preserved
loop-inference-preserved c before added is long = subst (λ (i : Inference). Left c.args.inference.now i before added) (sym c.put_back.ensures)
    (left_less c.args.inference.now c.loop-inference.inference c.pop.new.self before added c.in-Some.past (omega (arith, long, c.loop-inference-test.true, c.len.ensures)) c.in-Some.ensures (c.loop-inference.invariant before added is long))

pub returns : goal.returns
returns c before added is long = left_none c.args.inference.now c.loop-inference.inference before added (omega (arith, long, c.loop-inference-test.false, c.len.ensures)) (c.loop-inference.invariant before added is long)
