use Rattle.std.proofs.Common.{◌≡◌, ◌∙◌, ap, arith, None, replicate}
use Rattle.size_check.proofs.TableForms.{nothing_more}
use Rattle.size_check.proofs.definitions.nothing_of.Goals as goal

pub loop-at-init : goal.loop-at-init
loop-at-init g c = c.new-table.ensures

pub loop-at-preserved : goal.loop-at-preserved
loop-at-preserved g c = nothing_more c.loop-at.table c.push.new.self c.loop-at._at c.loop-at.invariant c.in_ok-push.ensures.ok

pub returns : goal.returns
returns g c =
    let same : c.loop-at._at ≡ c.args.count = omega (arith, c.loop-at-test.false, c.loop-at.auto._at-end) in
    c.loop-at.invariant ∙ ap (λ n. replicate n None) same
