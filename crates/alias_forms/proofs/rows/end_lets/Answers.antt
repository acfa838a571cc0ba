use Rattle.std.proofs.Common.{refl}
use Rattle.alias_program.specs.Program.{sub_of}
use Rattle.alias_values.specs.Trees.{value_of}
use Rattle.alias_forms.proofs.NameForms.{lets_end, lets_told}
use Rattle.alias_forms.proofs.rows.end_lets.Goals as goal

pub returns-clause-step : goal.returns-clause-step
returns-clause-step c = λ naming N K ls e count row n. lets_end ls e c.args.one.now.after (value_of c.args.found.now.held.value.now) (sub_of c.args.program.now.types.now c.args.at) (c.hold.ensures _ (lets_told ls e row n.first_so c.or_name-later_name.ensures c.or_function.ensures (c.row_called.ensures ls e count n.called_so))) refl c.in-Ok.ensures c.no_held.ensures
