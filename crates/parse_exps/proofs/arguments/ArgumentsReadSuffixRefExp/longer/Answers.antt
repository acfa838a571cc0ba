-- One more argument.
use Rattle.std.proofs.Common.{◌≡◌, ◌+◌, ◌≤◌, max, suc, refl, arith}
use Rattle.std.proofs.lemmas.Result.{err_from_is_err_and}
use Rattle.fut_grammar.specs.Phrases.{phrases, read_at}
use Rattle.parse_exps.proofs.SuffixLaws.{argument_parts}
use Rattle.parse_types.proofs.ReadLaws.{fails_as, low_as}
use Rattle.parse_exps.proofs.arguments.ArgumentsReadSuffixRefExp.longer.Goals as goal

pub returns : goal.returns
unfolding phrases
returns g c =
    let one : suc (max c.args.first.now.height c.in_ok-value.value.height) ≡ c.greater.result + 1 = omega (arith, c.greater.ensures) in
    let low : c.greater.result + 1 ≤ c.args.inner + 1 = omega (arith, c.greater.ensures, c.in_ok-value.ensures.low, c.requires.room.1) in
    record { exact = rw (argument_parts (phrases (read_at c.args.inner)) c.args.inner c.args.at c.args.first.now.height c.args.first.now.rest.now c.args.first.now.tree.now c.requires.sign, c.in_ok-value.ensures.exact, one) (c.made.ensures.exact _ c.call.ensures); low = low_as c.made.result c.made.ensures.low low }

pub returns-in_err-value : goal.returns-in_err-value
unfolding phrases
returns-in_err-value g c =
    let p = err_from_is_err_and c.from_residual.result c.from_residual.ensures.1 in
    record { exact = rw (p.1, p.2) (fails_as _ c.in_err-value.ensures.exact (λ f read. rw (argument_parts (phrases (read_at c.args.inner)) c.args.inner c.args.at c.args.first.now.height c.args.first.now.rest.now c.args.first.now.tree.now c.requires.sign, read) refl)); low = rw p.1 tt }
