-- A name, with a value behind the sign or alone.
use Rattle.std.proofs.Common.{ap, sym, ◌∙◌, refl, arith}
use Rattle.fut_ast.specs.declared.node.Spot.{Spot}
use Rattle.fut_grammar.specs.Phrases.{read_at}
use Rattle.parse_types.proofs.ReadLaws.{fails_as, low_as}
use Rattle.parse_atoms.specs.Parts.{field_at}
use Rattle.parse_atoms.proofs.ItemLaws.{field_is}
use Rattle.parse_atoms.proofs.fields.ItemsReadItemExpField.item.Goals as goal

pub returns-then-starts_with : goal.returns-then-starts_with
unfolding field_at
returns-then-starts_with g c = record { exact = rw (field_is (read_at c.args.inner) c.args.tokens.now, c.in-Ok.ensures, sym c.starts_with.ensures ∙ c.if-starts_with.true, sym c.rest_of.ensures) (c.set_to.ensures.exact _ c.read.ensures.exact); low = c.set_to.ensures.low _ c.read.ensures.low }

pub returns-else-starts_with : goal.returns-else-starts_with
unfolding field_at
returns-else-starts_with g c =
    let place = ap (λ (s : Spot). s.place) (sym c.next_spot.ensures) in
    record { exact = rw (field_is (read_at c.args.inner) c.args.tokens.now, c.in-Ok.ensures, sym c.starts_with.ensures ∙ c.if-starts_with.false, place) (c.named_alike.ensures.exact _ c.name_used.ensures); low = low_as c.named_alike.result c.named_alike.ensures.low (omega arith) }

pub returns-in-Err : goal.returns-in-Err
unfolding field_at
returns-in-Err g c = record { exact = fails_as c.in-Err.stop c.in-Err.ensures (λ f read. rw (field_is (read_at c.args.inner) c.args.tokens.now, read) refl); low = tt }
