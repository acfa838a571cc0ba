use Rattle.std.proofs.Common.{◌+◌, ◌*◌, map}
use Rattle.array_data.specs.Held.{held_all, named_shapes, shape_held}
use Rattle.fut_eval.proofs.Testing.{All_from, Named_from}
use Rattle.fut_eval.proofs.size_tests.+passing.Given as goal

abbrev pub decreases-passes : goal.decreases-passes
decreases-passes l = 4 * l.room

abbrev pub decreases-array_passes : goal.decreases-array_passes
decreases-array_passes l = 4 * l.room + 3

abbrev pub decreases-rows_pass : goal.decreases-rows_pass
decreases-rows_pass l = 4 * l.room + 2

abbrev pub decreases-all_pass : goal.decreases-all_pass
decreases-all_pass l = 4 * l.room + 2

abbrev pub decreases-named_pass : goal.decreases-named_pass
decreases-named_pass l = 4 * l.room + 2

abbrev pub decreases-field_passes : goal.decreases-field_passes
decreases-field_passes l = 4 * l.room + 1

abbrev pub invariant-all_pass-loop-i : goal.invariant-all_pass-loop-i
invariant-all_pass-loop-i l = All_from (held_all l.table) l.tests l.forms l.i

abbrev pub invariant-named_pass-loop-field : goal.invariant-named_pass-loop-field
invariant-named_pass-loop-field l = Named_from (held_all l.table) l.fields (named_shapes l.names (map shape_held l.forms)) l.field-index
