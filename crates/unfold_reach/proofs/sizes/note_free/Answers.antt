use Rattle.unfold_reach.proofs.SizeForms.{free_name, free_const, free_own, free_unknown, free_slot}
use Rattle.unfold_reach.proofs.sizes.note_free.Goals as goal

pub returns-in-Name : goal.returns-in-Name
returns-in-Name c = free_name _ _ _ _ c.in-Name.is c.name.ensures

pub returns-in-Const : goal.returns-in-Const
returns-in-Const c = free_const _ _ _ c.in-Const.is

pub returns-in-Own : goal.returns-in-Own
returns-in-Own c = free_own _ _ _ _ c.in-Own.is

pub returns-in-Unknown : goal.returns-in-Unknown
returns-in-Unknown c = free_unknown _ _ _ _ c.in-Unknown.is

pub returns-in-Slot : goal.returns-in-Slot
returns-in-Slot c = free_slot _ _ _ c.in-Slot.is
