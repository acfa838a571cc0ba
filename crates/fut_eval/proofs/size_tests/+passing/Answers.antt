use Rattle.fut_blocks.specs.Rows.{test_of}
use Rattle.array_data.specs.Held.{held_all}
use Rattle.fut_eval.proofs.Testing.{field_nowhere}
use Rattle.fut_eval.proofs.size_tests.+passing.Goals as goal

pub field_passes-returns-in-None : goal.field_passes-returns-in-None
field_passes-returns-in-None t c = field_nowhere (held_all c.args.table.now) c.args.field.now.name.now (test_of c.args.field.now.test) c.args.names.now c.args.forms.now c.in_ok-form.field-0 c.in-None.is c.in_ok-form.ensures
