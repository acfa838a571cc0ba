use Rattle.elab_types.specs.Bindings.{none_brought}
use Rattle.elab_types.proofs.BindLaws.{names_brought, names_gone}
use Rattle.elab_types.proofs.binds.brought.Goals as goal

pub returns-in-Ok-bring : goal.returns-in-Ok-bring
returns-in-Ok-bring c = rw c.in-Ok.is (names_brought _ _ _ _ c.in-Ok-bring.ensures)

pub returns-in-Err-bring : goal.returns-in-Err-bring
returns-in-Err-bring c = names_gone _ _ _ _ _ c.in-Err-bring.ensures

pub returns-in-Err : goal.returns-in-Err
returns-in-Err c = rw c.in-Err.is none_brought
