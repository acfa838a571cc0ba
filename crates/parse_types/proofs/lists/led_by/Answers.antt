-- The first item, and the others.
use Rattle.std.proofs.Common.{refl}
use Rattle.parse_types.proofs.lists.led_by.Goals as goal

pub returns-in-Ok-extend_from_slice : goal.returns-in-Ok-extend_from_slice
returns-in-Ok-extend_from_slice g c =
    rw (c.into_bump_slice.ensures, c.in-Ok-extend_from_slice.ensures.items, c.in-Ok.ensures.items, c.new-made.ensures.items) refl
