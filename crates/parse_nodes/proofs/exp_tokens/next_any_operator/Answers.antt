-- Any operator is one of the loosest level or tighter.
use Rattle.std.proofs.Common.{◌∙◌}
use Rattle.parse_nodes.proofs.TokenLaws.{any_level}
use Rattle.parse_nodes.proofs.exp_tokens.next_any_operator.Goals as goal

pub returns : goal.returns
returns c = c.next_operator.ensures ∙ any_level c.args.tokens.now
