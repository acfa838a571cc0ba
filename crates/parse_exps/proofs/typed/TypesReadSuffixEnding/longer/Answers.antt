-- A type behind an expression, by the sign between them.
use Rattle.std.proofs.Common.{◌≡◌, ◌+◌, ◌≤◌, max, suc, sym, refl, arith}
use Rattle.std.proofs.lemmas.Result.{err_from_is_err_and}
use Rattle.fut_grammar.specs.Phrases.{phrases, read_at}
use Rattle.parse_exps.proofs.SuffixLaws.{type_parts}
use Rattle.parse_types.proofs.ReadLaws.{fails_as, low_as}
use Rattle.parse_exps.proofs.typed.TypesReadSuffixEnding.longer.Goals as goal

pub returns-in_err-ty : goal.returns-in_err-ty
unfolding phrases
returns-in_err-ty c =
    let p = err_from_is_err_and c.from_residual.result c.from_residual.ensures.1 in
    record { exact = rw (p.1, p.2) (fails_as _ c.in_err-ty.ensures.exact (λ f read. rw (type_parts (phrases (read_at c.args.inner)) c.args.inner c.args.at c.args.first.now.height c.args.first.now.rest.now (c.args.first.now.tree.exp.now, c.args.first.now.tree.ended) c.requires.sign, sym c.rest_of.ensures, read) refl)); low = rw p.1 tt }

pub returns : goal.returns
unfolding phrases
returns c =
    let one : suc (max c.args.first.now.height c.in_ok-ty.ty.height) ≡ c.greater-height.result + 1 = omega (arith, c.greater-height.ensures) in
    let low : c.greater-height.result + 1 ≤ c.args.inner + 1 = omega (arith, c.greater-height.ensures, c.in_ok-ty.ensures.low, c.requires.room.1) in
    record { exact = rw (type_parts (phrases (read_at c.args.inner)) c.args.inner c.args.at c.args.first.now.height c.args.first.now.rest.now (c.args.first.now.tree.exp.now, c.args.first.now.tree.ended) c.requires.sign, sym c.rest_of.ensures, c.in_ok-ty.ensures.exact, one) (c.ending_made.ensures.exact _ c.with_type-node.ensures); low = low_as c.ending_made.result c.ending_made.ensures.low low }
