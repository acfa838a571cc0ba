use Rattle.std.specs.Io.KnownBytes.{Keeps}
use Rattle.fut_io.proofs.real.read_some.Given as goal

abbrev pub invariant-reads : goal.invariant-reads
invariant-reads g l = Keeps (g.R.Read.remaining l.initial.from) (g.R.Read.remaining l.from)
