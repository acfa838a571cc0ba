use Rattle.alias_loops.proofs.StepForms.{flow_lost}
use Rattle.alias_loops.proofs.steps.lose_flow.Goals as goal

pub returns : goal.returns
returns c = λ before flow g h b. flow_lost before c.args.losses.now flow c.args.later.now c.lose_all.new.self g h b c.in_ok-lose_all.ensures
