use Rattle.std.proofs.Common.{take}
use Rattle.std.specs.List.{All}
use Rattle.typed_programs.specs.Trees.{Is_digit}
use Rattle.typed_programs.proofs.positions.are_digits.Given as goal

abbrev pub invariant-loop-byte : goal.invariant-loop-byte
invariant-loop-byte l = All Is_digit (take l.byte-index l.bytes)
