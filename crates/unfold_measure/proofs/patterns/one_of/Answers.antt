use Rattle.std.proofs.Common.{sym, ap, ◌∙◌, arith}
use Rattle.unfold_measure.specs.Held.{known_of}
use Rattle.unfold_measure.proofs.Binding.{one_held, none_held}
use Rattle.unfold_measure.proofs.patterns.one_of.Goals as goal

pub returns-then-at-parts : goal.returns-then-at-parts
returns-then-at-parts c = ap known_of c.index-parts-at.is ∙ sym (one_held c.args.parts.now c.args.at _ c.if-at-parts.true)

pub returns-else-at-parts : goal.returns-else-at-parts
returns-else-at-parts c = c.known_data.ensures ∙ sym (none_held c.args.parts.now c.args.at (omega (arith, c.if-at-parts.false)))
