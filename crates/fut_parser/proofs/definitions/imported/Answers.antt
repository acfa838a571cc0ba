-- The word and the text.
use Rattle.std.proofs.Common.{refl, arith}
use Rattle.fut_grammar.specs.Reading.{has_at, parts_at, row_at}
use Rattle.parse_module_types.proofs.Stops.{part_stopped}
use Rattle.fut_parser.proofs.definitions.imported.Goals as goal

pub returns-in-Err : goal.returns-in-Err
unfolding row_at parts_at has_at
returns-in-Err c = record { exact = part_stopped c.in-Err.stop _ _ _ c.in-Err.ensures; low = tt }

pub returns-in-Err-take_text : goal.returns-in-Err-take_text
unfolding row_at parts_at has_at
returns-in-Err-take_text c = record { exact = rw (c.in-Ok.ensures) (part_stopped c.in-Err-take_text.stop _ _ _ c.in-Err-take_text.ensures); low = tt }

pub returns : goal.returns
unfolding row_at parts_at has_at
returns c = record { exact = rw (c.in-Ok.ensures, c.in-Ok-take_text.ensures) refl; low = omega arith }
