use Rattle.std.proofs.Common.{◌≡◌, ap, sym, ◌∙◌, subst, take, length}
use Rattle.std.specs.Slots.{slots_items}
use Rattle.phase_model.specs.Kept.{DoneOnce}
use Rattle.pair_table.specs.Pairs.{op_of}
use Rattle.pair_table.proofs.Keeps.{last_did}
use Rattle.pair_table.proofs.table.PairTable.close.Goals as goal

pub returns : goal.returns
returns c =
    let key = c.self.inside.table.shared.key in
    let operation : key.operation ≡ c.args.self.operation = c.self.invariant.4 ∙ ap (λ t. t.operation) c.self.view_is in
    let old : key.words ≡ c.args.self.old = c.self.invariant.3 ∙ ap (λ t. t.old) c.self.view_is in
    let pairs : c.seat.inside.seat.me.0.seen ≡ c.args.seat.pairs = ap (λ s. s.pairs) c.seat.view_is in
    let parts : c.seat.inside.seat.me.0.parts ≡ key.parts = ap (λ s. s.parts) c.seat.view_is ∙ c.requires.parts ∙ sym (ap (λ t. t.parts) c.self.view_is) in
    let read : c.read_back.result ≡ take (length key.words) (slots_items c.close_with.result.words) = c.read_back.ensures ∙ ap (λ l. take (length l) (slots_items c.close_with.result.words)) (sym c.self.invariant.3) in
    let did = last_did (op_of key.operation) key.words key.parts _ _ _ _ c.close_with.ensures.values.2 parts in
    rw (operation, old, pairs) at (subst (λ l. DoneOnce (op_of key.operation) key.words l c.seat.inside.seat.me.0.seen) (sym read) did)
