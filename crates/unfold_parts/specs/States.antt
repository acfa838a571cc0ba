-- The steps so far.
use Rattle.std.specs.Prelude.{map}
use Rattle.fut_blocks.specs.Plain.{binding_of}
use Rattle.unfold.specs.Unfolding.{Bindings}
use Rattle.unfold_parts.specs.declared.steps.Unfolding.{Unfolding}

abbrev pub steps_of : Unfolding → Bindings
steps_of u = map binding_of u.steps.items
