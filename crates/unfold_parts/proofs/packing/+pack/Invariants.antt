use Rattle.std.proofs.Common.{◌+◌, ◌-◌, ◌*◌}
use Rattle.unfold.specs.Held.{known_of}
use Rattle.unfold_parts.specs.States.{steps_of}
use Rattle.unfold_parts.proofs.Packs.{Pack_lead}
use Rattle.unfold_parts.proofs.packing.+pack.Given as goal

abbrev pub decreases-pack_inside : goal.decreases-pack_inside
decreases-pack_inside l = 3 * (1001 - l.deep)

abbrev pub decreases-pack_record : goal.decreases-pack_record
decreases-pack_record l = 3 * (1001 - l.deep) + 2

abbrev pub decreases-pack_parts : goal.decreases-pack_parts
decreases-pack_parts l = 3 * (1001 - l.deep) + 1

abbrev pub invariant-pack_parts-loop-part : goal.invariant-pack_parts-loop-part
invariant-pack_parts-loop-part l = Pack_lead known_of l.parts l.fn.work.next l.part-index l.work.next (steps_of l.fn.work) (steps_of l.work) l.atoms.items
