use Rattle.std.proofs.Common.{rules, ◌≡◌, sym, ◌∙◌, ap, arith, false}
use Rattle.chunk_draw.specs.Drawing.{ends}
use Rattle.chunk_draw.proofs.Keeps.{splits_keep}
use Rattle.chunk_draw.proofs.Draw.split.Goals as goal

pub split_seat-other-requires : goal.split_seat-other-requires
split_seat-other-requires c =
    let chunks : c.seat.inside.chunks ≡ c.self.inside.table.shared.key.chunks =
    ap (λ s. s.chunks) c.seat.view_is ∙ c.requires.own.1 ∙ sym (ap (λ d. d.chunks) c.self.view_is) ∙ sym c.self.invariant.2 in
    let parts : c.seat.inside.seat.me.0.parts ≡ c.args.seat.now.parts = ap (λ s. s.parts) c.seat.view_is in
    let two = c.requires.parts in
    let numbers = ap (λ s. s.numbers) c.seat.view_is in
    let no_end : ends c.self.inside.table.shared.key.chunks c.seat.inside.seat.me.0.seen ≡ false = ap (λ k. ends k c.seat.inside.seat.me.0.seen) (sym chunks) ∙ ap (λ s. ends s.chunks s.numbers) c.seat.view_is ∙ c.requires.open in
    (search rules, search rules, splits_keep _ _ _ _ (omega arith) no_end)
