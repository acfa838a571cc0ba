-- What is read so far, one file a turn.
use Rattle.std.proofs.Common.{◌≡◌, length, reverse}
use Rattle.fut_tree.specs.Names.{names}
use Rattle.source_files.proofs.Steps.{So_far}
use Rattle.source_files.proofs.files.read_files.Given as goal

abbrev pub invariant-loop : goal.invariant-loop
invariant-loop g l = (length l.files.items ≡ l.counter) × So_far l.fn.file (g.L.Loader.seen l.fn.loader) (g.L.Loader.seen l.loader) l.files.items (reverse (names l.pending))
