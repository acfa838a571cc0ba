use Rattle.unfold_measure.proofs.Definitions.{program_unwalked, all_visits}
use Rattle.unfold_measure.proofs.program.measure_or_lost.Goals as goal

pub returns-in-Err-walk_definitions : goal.returns-in-Err-walk_definitions
returns-in-Err-walk_definitions c = λ z w. program_unwalked z _ _ _ _ (c.in-Err-walk_definitions.ensures.walk z (c.in-Ok.ensures.ok z w))

pub returns : goal.returns
returns c = λ z w. c.walk_entry.ensures z (all_visits z _ c.args.arguments _ _ (c.in-Ok-walk_definitions.ensures.walk z (c.in-Ok.ensures.ok z w)))
