-- What is no sugar is a node of its own.
use Rattle.std.proofs.Common.{sym, ap, ◌∙◌}
use Rattle.fut_ast.specs.declared.node.Oper.{Oper}
use Rattle.fut_ast.specs.declared.node.Joining.TheVariants as way
use Rattle.parse_nodes.proofs.JoinLaws.{plain}
use Rattle.parse_nodes.proofs.joins.joining_of.Goals as goal

pub returns-in_default : goal.returns-in_default
returns-in_default c =
    let other = c.in_default in
    ap (λ (o : Oper). way.Plain o) c.oper_for.ensures ∙ sym (plain c.args.fixed other.not-AndAnd other.not-OrOr other.not-PipeRight other.not-PipeLeft other.not-Backtick)
