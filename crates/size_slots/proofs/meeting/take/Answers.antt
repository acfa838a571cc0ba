use Rattle.std.proofs.Common.{refl}
use Rattle.size_slots.specs.Held.{no_memory_met}
use Rattle.size_slots.proofs.MeetLaws.{slot_taken}
use Rattle.size_slots.proofs.meeting.take.Goals as goal

pub returns-in-Ok : goal.returns-in-Ok
returns-in-Ok c = λ σ held stays fixed. slot_taken c.args.table.now _ c.args.number c.args.free σ c.requires.below c.in-Ok.ensures refl refl refl held stays fixed

pub returns-in-Err : goal.returns-in-Err
returns-in-Err c = λ σ held stays fixed. no_memory_met
