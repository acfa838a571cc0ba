-- Ranges and what is tighter.
use Rattle.std.proofs.Common.{sym, ◌∙◌}
use Rattle.parse_exps.proofs.SuffixLaws.{update_tighter}
use Rattle.parse_exps.proofs.updates.UpdatesReadSuffixEnding.goes_on_tighter.Goals as goal

pub returns : goal.returns
returns g c = c.goes_on_range.ensures ∙ sym (update_tighter c.args.first.now.rest.now (c.args.first.now.tree.exp.now, c.args.first.now.tree.ended))
