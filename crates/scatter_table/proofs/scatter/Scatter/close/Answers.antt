use Rattle.std.proofs.Common.{◌≡◌, ap, sym, ◌∙◌, subst}
use Rattle.phase_model.specs.Kept.{DoneOnce, stores}
use Rattle.phase_model.specs.Machine.{puts}
use Rattle.phase_model.proofs.Words.{words_follow}
use Rattle.pair_table.specs.Pairs.{op_of}
use Rattle.pair_table.specs.declared.operation.Operation.TheVariants.{Store}
use Rattle.scatter_table.proofs.scatter.Scatter.close.Goals as goal

pub returns : goal.returns
returns c =
    let table = c.args.self in
    let done : DoneOnce (op_of table.operation) table.old c.close.result c.args.seat.pairs = subst (λ t. DoneOnce (op_of t.operation) t.old c.close.result c.args.seat.pairs) c.self.view_is c.close.ensures in
    let is : table.operation ≡ Store = ap (λ t. t.operation) (sym c.self.view_is) ∙ c.self.invariant in
    let order : DoneOnce stores table.old c.close.result c.args.seat.pairs = subst (λ o. DoneOnce (op_of o) table.old c.close.result c.args.seat.pairs) is done in
    let each = words_follow puts table.old c.close.result c.args.seat.pairs order in
    record { order = order; length = each.0; words = each.1 }
