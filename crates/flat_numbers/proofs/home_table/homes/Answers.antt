use Rattle.flat_numbers.proofs.Homed.{noted_homes}
use Rattle.flat_numbers.proofs.home_table.homes.Goals as goal

pub returns : goal.returns
returns c = noted_homes c.args.flat.now.definitions.now _ _ _ c.new-homes.ensures.homes c.note_definitions.ensures c.noted.ensures
