use Rattle.std.proofs.Common.{ap, ◌∙◌}
use Rattle.unfold.specs.Telling.{primitive_tells}
use Rattle.told_rows.specs.Arguments.{arguments_of}
use Rattle.told_rows.proofs.ArgumentForms.{told_as}
use Rattle.told_rows.proofs.arguments.primitive_told.Goals as goal

pub returns : goal.returns
returns c = told_as c.told_by.result _ _ c.told_by.ensures (c.rule_of.ensures (arguments_of c.in_ok-arguments.arguments.now) ∙ ap (primitive_tells c.args.primitive) c.in_ok-arguments.ensures)
