use Rattle.std.proofs.Common.{ap, ◌∙◌}
use Rattle.alias_types.specs.Kinds.{kinds_of}
use Rattle.alias_values.specs.Trees.{values_of}
use Rattle.alias_types.proofs.MakeForms.{with_short}
use Rattle.alias_types.proofs.making.+with_stars.Goals as goal

pub all_with_stars-returns-then-i-types : goal.all_with_stars-returns-then-i-types
all_with_stars-returns-then-i-types t c = ap values_of c.into_bump_slice.ensures ∙ with_short (kinds_of c.args.kinds.now) c.args.set.now c.args.row.now c.args.types.now c.loop-i.i c.loop-i.made.items c.loop-i.invariant c.loop-i-test.true c.if-i-types.true
