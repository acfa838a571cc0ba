-- The size between the brackets.
use Rattle.std.proofs.Common.{sym, refl}
use Rattle.fut_grammar.specs.Reading.{row_at, parts_at, has_at, expect}
use Rattle.parse_types.proofs.ReadLaws.{fails_as}
use Rattle.parse_types.proofs.types.size_argument.Goals as goal

pub returns-in-Ok-clause-exact : goal.returns-in-Ok-clause-exact
unfolding row_at parts_at has_at expect
returns-in-Ok-clause-exact c inner =
    rw (c.requires, sym c.rest_of.ensures, c.in-Ok.ensures.exact, c.in-Ok.ensures.close, sym c.rest_of-in-Ok.ensures) refl

pub returns-in-Err-clause-exact : goal.returns-in-Err-clause-exact
unfolding row_at parts_at has_at expect
returns-in-Err-clause-exact c inner = fails_as c.in-Err.stop c.in-Err.ensures.exact (λ f read. rw (c.requires, sym c.rest_of.ensures, read) refl)
