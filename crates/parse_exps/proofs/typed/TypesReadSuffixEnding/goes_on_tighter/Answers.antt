-- Updates and what is tighter.
use Rattle.std.proofs.Common.{sym, ◌∙◌}
use Rattle.parse_exps.proofs.SuffixLaws.{type_tighter}
use Rattle.parse_exps.proofs.typed.TypesReadSuffixEnding.goes_on_tighter.Goals as goal

pub returns : goal.returns
returns c = c.goes_on_updated.ensures ∙ sym (type_tighter c.args.first.now.rest.now (c.args.first.now.tree.exp.now, c.args.first.now.tree.ended))
