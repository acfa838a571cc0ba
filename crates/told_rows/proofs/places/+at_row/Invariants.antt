use Rattle.told_rows.specs.Places.{path_of}
use Rattle.told_rows.proofs.PlaceForms.{path_size}
use Rattle.told_rows.proofs.places.+at_row.Given as goal

abbrev pub decreases-at_row : goal.decreases-at_row
decreases-at_row l = path_size (path_of l.path.now)
