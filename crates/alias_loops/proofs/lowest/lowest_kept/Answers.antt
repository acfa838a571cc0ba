use Rattle.std.proofs.Common.{◌-◌, ◌||◌, arith}
use Rattle.fut_aliases.specs.declared.aliases.Alias.{Alias}
use Rattle.fut_aliases.specs.Aliases.{is_in, is_outside}
use Rattle.fut_aliases.specs.Loops.{kept_names}
use Rattle.alias_loops.specs.Carried.{carrieds_of}
use Rattle.alias_loops.proofs.LowestForms.{low_more, low_start}
use Rattle.alias_loops.proofs.lowest.lowest_kept.Goals as goal

pub members-init : goal.members-init
members-init c = record { lowest = low_start (λ (a : Alias). is_outside c.args.from a || is_in a (kept_names (carrieds_of c.args.carried.now))) c.args.set.now c.args.one; within = omega arith }

pub members-preserved : goal.members-preserved
members-preserved c = record {
  lowest = low_more (λ (a : Alias). is_outside c.args.from a || is_in a (kept_names (carrieds_of c.args.carried.now))) c.args.set.now c.args.one c.members.i (c.members.i - 1) _ _ _ _ (omega (arith, c.members-test.true)) c.members.invariant.within c.members.invariant.lowest c.is_from_outside-counts.ensures c.lesser_if-least.ensures;
  within = omega (arith, c.members.invariant.within);
}
