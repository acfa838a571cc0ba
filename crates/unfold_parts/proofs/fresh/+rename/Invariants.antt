use Rattle.std.proofs.Common.{◌+◌, ◌-◌, ◌*◌, map}
use Rattle.unfold.specs.Held.{field_of, known_of}
use Rattle.unfold_parts.proofs.Naming.{All_named, Fields_named, Names_lead}
use Rattle.unfold_parts.proofs.fresh.+rename.Given as goal

abbrev pub decreases-rename : goal.decreases-rename
decreases-rename l = 2 * (1001 - l.deep)

abbrev pub decreases-rename_all : goal.decreases-rename_all
decreases-rename_all l = 2 * (1001 - l.deep) + 1

abbrev pub decreases-rename_fields : goal.decreases-rename_fields
decreases-rename_fields l = 2 * (1001 - l.deep) + 1

abbrev pub invariant-rename_all-loop-like : goal.invariant-rename_all-loop-like
invariant-rename_all-loop-like l = Names_lead (All_named l.likes 0) (All_named l.likes l.like-index) l.fn.naming.next l.naming.next (map known_of l.parts.items)

abbrev pub invariant-rename_fields-loop-like : goal.invariant-rename_fields-loop-like
invariant-rename_fields-loop-like l = Names_lead (Fields_named l.likes 0) (Fields_named l.likes l.like-index) l.fn.naming.next l.naming.next (map field_of l.fields.items)
