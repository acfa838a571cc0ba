-- One operator and its right operand, behind what nothing goes on with.
use Rattle.std.proofs.Common.{nat_lt, ◌≡◌, ◌+◌, ◌≤◌, max, suc, sym, subst, refl, arith}
use Rattle.fut_ast.specs.Sorts.{Ending}
use Rattle.fut_grammar.specs.Phrases.{phrases, read_at}
use Rattle.fut_grammar.specs.Reading.{Fails, Read, has_at, parts_at, sub_at}
use Rattle.parse_atoms.proofs.SuffixLaws.{tested}
use Rattle.parse_exps.proofs.SuffixLaws.{operation_free, operation_full}
use Rattle.parse_types.proofs.ReadLaws.{fails_as, low_as}
use Rattle.parse_exps.proofs.operators.operation.Goals as goal

pub returns-then-is_full : goal.returns-then-is_full
returns-then-is_full g c =
    let full = tested (nat_lt c.args.inner c.args.first.height) c.is_full.ensures.full c.goes_on_app.ensures c.if-is_full.true in
    record { exact = subst (λ (r : Read Ending). Fails c.too_many_operators.result r) (sym (operation_full (phrases (read_at c.args.inner)) c.args.inner c.args.at c.args.first.height c.args.first.rest.now (c.args.first.tree.exp.now, c.args.first.tree.ended) c.args.least c.args.fixed full)) (c.too_many_operators.ensures c.args.inner); low = tt }

pub returns-in-Err : goal.returns-in-Err
unfolding parts_at has_at sub_at phrases
returns-in-Err g c =
    let free = tested (nat_lt c.args.inner c.args.first.height) c.is_full.ensures.full c.goes_on_app.ensures c.if-is_full.false in
    record { exact = fails_as c.in-Err.stop c.in-Err.ensures (λ f read. rw (operation_free (phrases (read_at c.args.inner)) c.args.inner c.args.at c.args.first.height c.args.first.rest.now (c.args.first.tree.exp.now, c.args.first.tree.ended) c.args.least c.args.fixed free, read) refl); low = tt }

pub returns-in-Err-read : goal.returns-in-Err-read
unfolding parts_at has_at sub_at phrases
returns-in-Err-read g c =
    let free = tested (nat_lt c.args.inner c.args.first.height) c.is_full.ensures.full c.goes_on_app.ensures c.if-is_full.false in
    record { exact = fails_as c.in-Err-read.stop (rw c.right_level_of.ensures at c.in-Err-read.ensures.exact) (λ f read. rw (operation_free (phrases (read_at c.args.inner)) c.args.inner c.args.at c.args.first.height c.args.first.rest.now (c.args.first.tree.exp.now, c.args.first.tree.ended) c.args.least c.args.fixed free, c.in-Ok.ensures, read) refl); low = tt }

pub returns-in-Ok-read : goal.returns-in-Ok-read
unfolding parts_at has_at sub_at phrases
returns-in-Ok-read g c =
    let free = tested (nat_lt c.args.inner c.args.first.height) c.is_full.ensures.full c.goes_on_app.ensures c.if-is_full.false in
    let fits = c.is_full.ensures.free c.if-is_full.false in
    let second = rw c.right_level_of.ensures at c.in-Ok-read.ensures.exact in
    let one : suc (max c.args.first.height c.in-Ok-read.second.height) ≡ c.greater-height.result + 1 = omega (arith, c.greater-height.ensures) in
    let low : c.greater-height.result + 1 ≤ c.args.inner + 1 = omega (arith, c.greater-height.ensures, c.in-Ok-read.ensures.low, fits) in
    record { exact = rw (operation_free (phrases (read_at c.args.inner)) c.args.inner c.args.at c.args.first.height c.args.first.rest.now (c.args.first.tree.exp.now, c.args.first.tree.ended) c.args.least c.args.fixed free, c.in-Ok.ensures, second, one) (c.ending_made.ensures.exact _ c.join-node.ensures); low = low_as c.ending_made.result c.ending_made.ensures.low low }
