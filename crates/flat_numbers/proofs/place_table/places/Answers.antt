use Rattle.flat_numbers.proofs.Counted.{noted_counted, noted_places}
use Rattle.flat_numbers.proofs.place_table.places.Goals as goal

pub returns-clause-places : goal.returns-clause-places
returns-clause-places c = noted_places _ _ _ _ c.new-places.ensures.places c.note_definitions.ensures c.noted.ensures

pub returns-clause-one_each : goal.returns-clause-one_each
returns-clause-one_each c = noted_counted _ _ _ _ c.new-places.ensures.places c.note_definitions.ensures c.noted.ensures
