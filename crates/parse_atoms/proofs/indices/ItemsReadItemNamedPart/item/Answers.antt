-- The part that is written so, with the names of its expressions.
use Rattle.std.proofs.Common.{sym, refl}
use Rattle.fut_grammar.specs.Phrases.{read_at}
use Rattle.parse_types.proofs.ReadLaws.{fails_as}
use Rattle.parse_atoms.proofs.PartLaws.{named_written}
use Rattle.parse_atoms.proofs.indices.ItemsReadItemNamedPart.item.Goals as goal

pub returns-in-Err : goal.returns-in-Err
returns-in-Err g c = record { exact = fails_as c.in-Err.stop c.in-Err.ensures.exact (λ f read. rw (named_written (read_at c.args.inner) c.args.tokens.now, read) refl); low = tt }

pub returns-in-Ok-named_part : goal.returns-in-Ok-named_part
returns-in-Ok-named_part g c = record { exact = rw (named_written (read_at c.args.inner) c.args.tokens.now, c.in-Ok.ensures.exact, sym c.in-Ok-named_part.ensures) refl; low = c.in-Ok.ensures.low }
