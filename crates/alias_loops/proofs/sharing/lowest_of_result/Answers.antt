use Rattle.alias_loops.proofs.SharingForms.{lowest_two}
use Rattle.alias_loops.proofs.sharing.lowest_of_result.Goals as goal

pub returns : goal.returns
returns c = lowest_two _ _ _ _ _ _ c.if-not-is_eaten.false c.lowest_shared-lower.ensures c.lowest_kept.ensures
