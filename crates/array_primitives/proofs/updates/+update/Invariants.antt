-- Each call is on fewer indices, or hands them on with a row.
use Rattle.std.proofs.Common.{◌+◌, ◌*◌, length}
use Rattle.array_primitives.proofs.updates.+update.Given as goal

abbrev pub decreases-update_at : goal.decreases-update_at
decreases-update_at l = 2 * length l.indices.now

abbrev pub decreases-update_inside : goal.decreases-update_inside
decreases-update_inside l = 2 * length l.indices.now + 1
