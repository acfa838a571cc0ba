use Rattle.std.proofs.Common.{◌++◌, sym}
use Rattle.fut_aliases.specs.Loops.{firsts}
use Rattle.fut_aliases.proofs.Sets.{has_union}
use Rattle.alias_loops.specs.Carried.{carrieds_of}
use Rattle.alias_loops.proofs.LowestForms.{or_else, or_then}
use Rattle.alias_loops.proofs.lowest.is_shared_first.Goals as goal

pub returns-then-is_in : goal.returns-then-is_in
returns-then-is_in c = or_then _ _ _ _ c.if-is_in.true c.is_in.ensures (sym (has_union c.args.alias c.args.over.now (firsts (carrieds_of c.args.before.now ++ carrieds_of c.args.behind.now))))

pub returns-else-is_in : goal.returns-else-is_in
returns-else-is_in c = or_else _ _ _ _ _ c.if-is_in.false c.is_in.ensures c.is_other_first.ensures (sym (has_union c.args.alias c.args.over.now (firsts (carrieds_of c.args.before.now ++ carrieds_of c.args.behind.now))))
