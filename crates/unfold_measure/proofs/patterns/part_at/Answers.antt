use Rattle.std.proofs.Common.{sym, ap, ◌∙◌}
use Rattle.unfold_measure.specs.Patterns.{part_at}
use Rattle.unfold_measure.proofs.Mirror.{known_tuple}
use Rattle.unfold_measure.proofs.Binding.{no_part}
use Rattle.unfold_measure.proofs.patterns.part_at.Goals as goal

pub returns-in-Tuple : goal.returns-in-Tuple
returns-in-Tuple c = c.one_of.ensures ∙ sym (ap (part_at c.args.at) (known_tuple c.args.known _ c.in-Tuple.is))

pub returns-in_default : goal.returns-in_default
returns-in_default c = c.known_data.ensures ∙ sym (no_part _ c.args.at c.in_default.not-Tuple)
