use Rattle.std.proofs.Common.{rules, ◌≡◌, ◌+◌, ◌<◌, length, get_or, sym, ap, ◌∙◌, subst, arith}
use Rattle.phase_code.specs.Ranges.{Carry_gives}
use Rattle.phase_code.specs.Carries.{rows_at}
use Rattle.phase_code.proofs.Numbered.{rows_at_is}
use Rattle.phase_code.proofs.carry.CarryTaskTaskApplied.run.Goals as goal

pub returns : goal.returns
returns g c =
    let rows = g.W.Rows.rows in
    let m = g.O.OperatorCode.monoid c.args.self.now.op.now in
    let cs = c.args.self.now.carries.now in
    let ps = c.args.self.now.parts.now in
    let k = c.args.chunk in
    let lt : k < length cs = c.requires in
    let long : length cs + 1 ≡ length ps = search rules in
    let u = c.index-self-chunk.result in
    let v = c.index-self-chunk-2.result in
    let a = rows_at_is rows cs k u lt c.index-self-chunk.is ∙ ap (λ y. rows y.words) c.index-self-chunk.is in
    let b = rows_at_is rows ps (k + 1) v (omega arith) c.index-self-chunk-2.is ∙ ap (λ y. rows y.words) c.index-self-chunk-2.is in
    subst (λ us. Carry_gives rows m us (rows_at rows ps (k + 1)) c.in_ok-carried.carried) (sym a) (subst (λ ws. Carry_gives rows m (rows (get_or cs k u).words) ws c.in_ok-carried.carried) (sym b) c.in_ok-carried.ensures)
