use Rattle.std.proofs.Common.{◌≡◌}
use Rattle.fut_flat.specs.Erased.{texts}
use Rattle.unfold_measure.specs.Fields.{put_named}
use Rattle.unfold_measure.proofs.Fielding.{put_from}
use Rattle.unfold_measure.proofs.lists.put_named.Given as goal

abbrev pub invariant-loop-at : goal.invariant-loop-at
invariant-loop-at g l = put_from l.name l.item l.at (texts l.names) l.made ≡ put_named l.name l.item (texts l.names) l.items
