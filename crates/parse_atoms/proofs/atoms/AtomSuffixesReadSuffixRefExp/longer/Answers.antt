-- By the token that stands next.
use Rattle.std.proofs.Common.{sym, ◌∙◌}
use Rattle.parse_atoms.proofs.atoms.AtomSuffixesReadSuffixRefExp.longer.Goals as goal

pub returns-then-starts_with : goal.returns-then-starts_with
returns-then-starts_with g c = record { exact = rw (sym c.starts_with.ensures ∙ c.if-starts_with.true) c.index_behind.ensures.exact; low = c.index_behind.ensures.low }

pub returns-then-starts_with-2 : goal.returns-then-starts_with-2
returns-then-starts_with-2 g c = record { exact = rw (sym c.starts_with.ensures ∙ c.if-starts_with.false, sym c.starts_with-else-starts_with.ensures ∙ c.if-starts_with-2.true) c.field_behind.ensures.exact; low = c.field_behind.ensures.low }

pub returns-else-starts_with-2 : goal.returns-else-starts_with-2
returns-else-starts_with-2 g c = record { exact = rw (sym c.starts_with.ensures ∙ c.if-starts_with.false, sym c.starts_with-else-starts_with.ensures ∙ c.if-starts_with-2.false) c.digits_behind.ensures.exact; low = c.digits_behind.ensures.low }
