use Rattle.std.proofs.Common.{replicate}
use Rattle.flat_numbers.specs.Noted.{Noted}
use Rattle.flat_numbers.proofs.home_terms.note.Given as goal

abbrev pub invariant-loop : goal.invariant-loop
invariant-loop l = Noted l.fn.homes l.homes (replicate l.counter l.home)
