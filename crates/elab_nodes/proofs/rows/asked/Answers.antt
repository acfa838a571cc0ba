use Rattle.elab_nodes.proofs.Parts.{asked_made, asked_stops}
use Rattle.elab_nodes.proofs.rows.asked.Goals as goal

pub returns-in-Ok : goal.returns-in-Ok
returns-in-Ok c = asked_made _ _ _ _ _ c.in-Ok.ensures c.unnamed_value.ensures c.held_rows.ensures

pub returns-in-Err : goal.returns-in-Err
returns-in-Err c = asked_stops _ _ _ c.in-Err.ensures
