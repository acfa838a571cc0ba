use Rattle.std.proofs.Common.{sym, ◌∙◌}
use Rattle.size_functions.specs.Takings.{takings_of}
use Rattle.size_walk.proofs.LambdaForms.{none_is_left, one_is_left}
use Rattle.size_walk.proofs.lambdas.all_chosen.Goals as goal

pub returns-then-len-eq0 : goal.returns-then-len-eq0
returns-then-len-eq0 c = λ N types params same. none_is_left N types c.args.node c.args.heads.now c.in_ok-left.left (takings_of c.args.parameters.now) params c.in_ok-left.ensures same (sym c.len.ensures ∙ c.if-len-eq0.true)

pub returns : goal.returns
returns c = λ N types params same. one_is_left N types c.args.node c.args.heads.now c.in_ok-left.left (takings_of c.args.parameters.now) params c.in_ok-left.ensures same (λ none. c.if-len-eq0.false (c.len.ensures ∙ none))
