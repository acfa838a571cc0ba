use Rattle.futhark_status.proofs.pieces.write_differing.Goals as goal

pub returns-clause-ok : goal.returns-clause-ok
returns-clause-ok g c = rw (c.path_at.ensures, c.from.ensures, c.from-2.ensures) at c.write_pieces.ensures.ok

pub returns-clause-failed : goal.returns-clause-failed
returns-clause-failed g c = rw (c.path_at.ensures, c.from.ensures, c.from-2.ensures) at c.write_pieces.ensures.failed
