use Rattle.told_rows.proofs.arguments.told_by_one.Goals as goal

pub returns-in-Element : goal.returns-in-Element
returns-in-Element c = rw c.in-Element.is c.element_row.ensures

pub returns-in-Unzipped : goal.returns-in-Unzipped
returns-in-Unzipped c = rw c.in-Unzipped.is c.unzipped_row.ensures

pub returns-in-Counted : goal.returns-in-Counted
returns-in-Counted c = rw c.in-Counted.is c.counted.ensures

pub returns-in-Tabulated : goal.returns-in-Tabulated
returns-in-Tabulated c = rw c.in-Tabulated.is c.tabulated.ensures

pub returns-in-Indices : goal.returns-in-Indices
returns-in-Indices c = rw c.in-Indices.is c.indices_row.ensures

pub returns-in-Transposed : goal.returns-in-Transposed
returns-in-Transposed c = rw c.in-Transposed.is c.transposed.ensures
