-- One of the two sorts.
use Rattle.parse_module_types.proofs.types.type_of_sort.Goals as goal

pub returns-then-arrows : goal.returns-then-arrows
returns-then-arrows c = record { exact = rw c.if-arrows.true c.whole_type.ensures.exact; low = c.whole_type.ensures.low }

pub returns-else-arrows : goal.returns-else-arrows
returns-else-arrows c = record { exact = rw c.if-arrows.false c.applied_type.ensures.exact; low = c.applied_type.ensures.low }
