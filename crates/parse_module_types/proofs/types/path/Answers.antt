-- The names are all of it.
use Rattle.fut_grammar.specs.Reading.{has_at, parts_at, row_at}
use Rattle.parse_module_types.proofs.Stops.{part_stopped}
use Rattle.parse_module_types.proofs.types.path.Goals as goal

pub returns-in-Err : goal.returns-in-Err
unfolding row_at parts_at has_at
returns-in-Err c = record { exact = part_stopped c.in-Err.stop _ _ _ c.in-Err.ensures; low = tt }
