use Rattle.sizing_tables.proofs.Making.{names_are, sizes_are}
use Rattle.sizing_tables.proofs.tables.names_bound.Goals as goal

pub returns-clause-names : goal.returns-clause-names
returns-clause-names c = names_are c.args.flat.now.definitions.now _ _ _ c.new-noting.ensures.names c.note_definitions.ensures c.noted.ensures

pub returns-clause-sizes : goal.returns-clause-sizes
returns-clause-sizes c = sizes_are c.args.flat.now.definitions.now _ _ _ c.new-noting.ensures.sizes c.note_definitions.ensures c.noted.ensures
