-- The parameters that code has.
use Rattle.std.specs.Prelude.{List, map}
use Rattle.fut_flat.specs.Erased.{pattern_of}
use Rattle.fut_sizes.specs.Functions as functions
use Rattle.size_arena.specs.Trees.{size_of}
use Rattle.size_functions.specs.declared.takings.Taking.{Taking}

abbrev pub taking_of : Taking → functions.Taking
taking_of p = record { pattern = pattern_of p.pattern.now; node = p.node; size = size_of p.size.now }

abbrev pub takings_of : List Taking → List functions.Taking
takings_of = map taking_of
