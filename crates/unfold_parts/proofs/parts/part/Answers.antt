use Rattle.unfold_parts.proofs.Parting.{part_tuple, part_record, part_none}
use Rattle.unfold_parts.proofs.parts.part.Goals as goal

pub returns-in-Tuple : goal.returns-in-Tuple
returns-in-Tuple c = part_tuple _ _ _ _ c.in-Tuple.is c.part_at.ensures

pub returns-in-Record : goal.returns-in-Record
returns-in-Record c = part_record _ _ _ _ c.in-Record.is c.field_known.ensures

pub returns-in_default : goal.returns-in_default
returns-in_default c = part_none _ _ c.in_default.not-Tuple c.in_default.not-Record
