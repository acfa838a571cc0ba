use Rattle.std.proofs.Common.{sym, ◌∙◌}
use Rattle.size_slots.specs.Held.{way_of}
use Rattle.size_slots.proofs.MeetLaws.{slot_refuses}
use Rattle.size_slots.proofs.meeting.slot_takes.Goals as goal

pub returns-then-is_refused : goal.returns-then-is_refused
returns-then-is_refused c = slot_refuses c.args.table.now c.args.table.now (way_of c.args.way) c.args.at c.args.number c.args.free (sym c.if-is_refused.true ∙ c.is_refused.ensures)
