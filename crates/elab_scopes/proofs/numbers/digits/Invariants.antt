-- The bytes that are left lead from the number so far to that of the whole name.
use Rattle.std.proofs.Common.{◌≡◌, drop}
use Rattle.elab_scopes.specs.Numbers.{digits_from, digits_of}
use Rattle.elab_scopes.proofs.numbers.digits.Given as goal

abbrev pub invariant-loop-byte : goal.invariant-loop-byte
invariant-loop-byte l = digits_from l.number (drop l.byte-index l.byte-items) ≡ digits_of l.name
