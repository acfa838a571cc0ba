use Rattle.std.proofs.lemmas.Result.{err_from_is_err_and}
use Rattle.size_arena.proofs.FrameLaws.{opened_closed}
use Rattle.size_walk.proofs.LambdaForms.{closed_met, nothing_wanted, wanted_met, wanted_unmet}
use Rattle.size_walk.proofs.lambdas.match_lambda.Goals as goal

pub returns-in_err-meet-in-Some-clause-met : goal.returns-in_err-meet-in-Some-clause-met
returns-in_err-meet-in-Some-clause-met c =
    let p = err_from_is_err_and c.from_residual.result c.from_residual.ensures.1 in
    rw (p.1, p.2) (λ N types σ holds. wanted_unmet N types c.args.node c.args.own σ c.meet.new.table c.args.want.now c.in-Some.want c.in-Some.is _ (closed_met _ _ _ _ _ _ _ σ _ _ opened_closed opened_closed (c.in_err-meet-in-Some.ensures.met σ holds)))

pub returns-in_ok-meet-in-Some-clause-met : goal.returns-in_ok-meet-in-Some-clause-met
returns-in_ok-meet-in-Some-clause-met c = λ N types σ holds. wanted_met N types c.args.node c.args.own σ c.meet.new.table c.args.want.now c.in-Some.want c.in-Some.is (closed_met _ _ _ _ _ _ _ σ _ _ opened_closed opened_closed (c.in_ok-meet-in-Some.ensures.met σ holds))

pub returns-in-None-clause-met : goal.returns-in-None-clause-met
returns-in-None-clause-met c = λ N types σ holds. nothing_wanted N types c.args.node c.args.own σ c.args.table.now c.args.want.now c.in-None.is holds
