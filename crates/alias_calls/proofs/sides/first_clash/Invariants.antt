use Rattle.std.proofs.Common.{◌≡◌, drop}
use Rattle.fut_aliases.specs.Calls.{clash, first_broken}
use Rattle.alias_calls.specs.Sides.{side_of, sides_of}
use Rattle.alias_calls.proofs.sides.first_clash.Given as goal

abbrev pub invariant-loop-i : goal.invariant-loop-i
invariant-loop-i l = first_broken (clash (side_of l.one)) (sides_of l.others) ≡ first_broken (clash (side_of l.one)) (sides_of (drop l.i l.others))
