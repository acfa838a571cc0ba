use Rattle.told_rows.proofs.CallForms.{tabulated_rows, other_rows, list_as}
use Rattle.told_rows.proofs.calls.rows_for.Goals as goal

pub returns-in_ok-row-in-Tabulate : goal.returns-in_ok-row-in-Tabulate
returns-in_ok-row-in-Tabulate c = tabulated_rows c.args.primitive c.args.atoms.now c.in_ok-row-in-Tabulate.row _ c.in-Tabulate.is c.in_ok-row-in-Tabulate.ensures c.from_ref.ensures.value

pub returns-in_default : goal.returns-in_default
returns-in_default c = list_as c.rows_of_data.result _ _ c.rows_of_data.ensures (other_rows c.args.primitive c.args.atoms.now c.in_default.not-Tabulate)
