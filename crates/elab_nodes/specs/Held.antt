-- What the arena holds.
use Rattle.std.specs.Borrow.{Bor}
use Rattle.fut_flat.specs.declared.exp.Exp.{Exp}
use Rattle.fut_flat.specs.Erased.{FlatTerm, term_of}

-- the term of an expression
abbrev pub held_term : Bor Exp → FlatTerm
held_term e = term_of e.now
