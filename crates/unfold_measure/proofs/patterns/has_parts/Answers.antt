use Rattle.std.proofs.Common.{sym, ap, ◌∙◌}
use Rattle.std.specs.Prelude.{nat_eq}
use Rattle.unfold_measure.specs.Patterns.{has_parts}
use Rattle.unfold_measure.proofs.Mirror.{known_data, known_tuple}
use Rattle.unfold_measure.proofs.Parts.{count_knowns}
use Rattle.unfold_measure.proofs.Binding.{neither_parts}
use Rattle.unfold_measure.proofs.patterns.has_parts.Goals as goal

pub returns-in-Data : goal.returns-in-Data
returns-in-Data c = sym (ap (has_parts c.args.count) (known_data _ c.in-Data.is))

pub returns-in-Tuple : goal.returns-in-Tuple
returns-in-Tuple c = sym (ap (has_parts c.args.count) (known_tuple _ _ c.in-Tuple.is) ∙ ap (λ z. nat_eq z c.args.count) (count_knowns c.in-Tuple.parts.now))

pub returns-in_default : goal.returns-in_default
returns-in_default c = sym (neither_parts _ c.args.count c.in_default.not-Data c.in_default.not-Tuple)
