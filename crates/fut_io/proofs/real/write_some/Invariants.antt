use Rattle.std.specs.Io.KnownBytes.{Keeps}
use Rattle.fut_io.proofs.real.write_some.Given as goal

abbrev pub invariant-writes : goal.invariant-writes
invariant-writes g l = Keeps (g.W.Write.contents l.initial.to) (g.W.Write.contents l.to)
