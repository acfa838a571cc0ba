use Rattle.std.proofs.Common.{◌+◌, length, ap, ◌∙◌, rules}
use Rattle.uniqueness.proofs.Branching.{joined}
use Rattle.uniqueness.proofs.steps.join_branches.Goals as goal

pub returns : goal.returns
returns c = λ one other g h a b. joined c.args.losses.now one other c.args.first.now c.args.second.now c.lose_all.new.self c.lose_all-2.new.self g h a b c.in_ok-lose_all.ensures
    (c.has_grown-has_all.ensures (search rules) ∙ ap (λ z. z + length c.args.first.now) c.len-before.ensures) c.in_ok-lose_all-2.ensures
