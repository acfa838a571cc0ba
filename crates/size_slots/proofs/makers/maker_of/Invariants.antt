use Rattle.std.proofs.Common.{◌≡◌, drop}
use Rattle.size_slots.specs.Held.{maker_of}
use Rattle.size_slots.proofs.MakerLaws.{maker_from}
use Rattle.size_slots.proofs.makers.maker_of.Given as goal

abbrev pub invariant-loop-one : goal.invariant-loop-one
invariant-loop-one l = maker_of l.makers l.number ≡ maker_from l.node l.number (drop l.one-index l.makers)
