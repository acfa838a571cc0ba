-- Each kind of update.
use Rattle.std.proofs.Common.{◌≡◌, ◌+◌, ◌≤◌, max, suc, sym, ap, ◌∙◌, refl, arith}
use Rattle.std.proofs.lemmas.Result.{err_from_is_err_and}
use Rattle.fut_token.specs.declared.token.Fixed.TheVariants as fixed
use Rattle.fut_ast.specs.Tokens.{starts}
use Rattle.fut_grammar.specs.Phrases.{phrases, read_at}
use Rattle.parse_exps.proofs.SuffixLaws.{record_parts}
use Rattle.parse_types.proofs.ReadLaws.{fails_as, low_as}
use Rattle.parse_exps.proofs.updates.UpdatesReadSuffixEnding.longer.Goals as goal

pub index_replaced-requires : goal.index_replaced-requires
index_replaced-requires g c =
    let bracket = ap (starts fixed.OpenBracket) (sym c.rest_of-behind.ensures) ∙ sym c.starts_with.ensures ∙ c.if-starts_with.true in
    λ k. ((refl, tt), (c.requires.sign, (bracket, (c.requires.law, c.requires.room))))

pub returns-then-starts_with : goal.returns-then-starts_with
returns-then-starts_with g c =
    let bracket = ap (starts fixed.OpenBracket) (sym c.rest_of-behind.ensures) ∙ sym c.starts_with.ensures ∙ c.if-starts_with.true in
    record { exact = rw bracket c.index_replaced.ensures.exact; low = c.index_replaced.ensures.low }

pub returns-in_err-found : goal.returns-in_err-found
returns-in_err-found g c =
    let p = err_from_is_err_and c.from_residual.result c.from_residual.ensures.1 in
    let bracket = ap (starts fixed.OpenBracket) (sym c.rest_of-behind.ensures) ∙ sym c.starts_with.ensures ∙ c.if-starts_with.false in
    record { exact = rw (p.1, p.2) (fails_as _ c.in_err-found.ensures.exact (λ f read. rw (record_parts (phrases (read_at c.args.inner)) c.args.inner c.args.at c.args.first.now.height c.args.first.now.rest.now (c.args.first.now.tree.exp.now, c.args.first.now.tree.ended) c.requires.sign bracket, sym c.rest_of-behind.ensures, read) refl)); low = rw p.1 tt }

pub returns : goal.returns
returns g c =
    let bracket = ap (starts fixed.OpenBracket) (sym c.rest_of-behind.ensures) ∙ sym c.starts_with.ensures ∙ c.if-starts_with.false in
    let one : suc (max c.args.first.now.height c.in_ok-found.found.height) ≡ c.greater-height.result + 1 = omega (arith, c.greater-height.ensures) in
    let low : c.greater-height.result + 1 ≤ c.args.inner + 1 = omega (arith, c.greater-height.ensures, c.in_ok-found.ensures.low, c.requires.room.1) in
    record { exact = rw (record_parts (phrases (read_at c.args.inner)) c.args.inner c.args.at c.args.first.now.height c.args.first.now.rest.now (c.args.first.now.tree.exp.now, c.args.first.now.tree.ended) c.requires.sign bracket, sym c.rest_of-behind.ensures, c.in_ok-found.ensures.exact, one) (c.ending_made.ensures.exact _ c.with_field_replaced-node.ensures); low = low_as c.ending_made.result c.ending_made.ensures.low low }
