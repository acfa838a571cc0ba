use Rattle.std.proofs.Common.{◌≡◌, sym, ◌∙◌, ap, true}
use Rattle.chunk_draw.specs.Drawing.{ends}
use Rattle.chunk_draw.proofs.Keeps.{last_has_each}
use Rattle.chunk_draw.proofs.Draw.finish.Goals as goal

pub returns : goal.returns
returns c = λ ended.
    let chunks : c.args.seat.chunks ≡ c.args.self.chunks = c.requires.own.1 in
    let key : c.self.inside.table.shared.key.chunks ≡ c.args.self.chunks = c.self.invariant.2 ∙ ap (λ d. d.chunks) c.self.view_is in
    let numbers : c.seat.inside.seat.me.0.seen ≡ c.args.seat.numbers = ap (λ s. s.numbers) c.seat.view_is in
    let parts : c.seat.inside.seat.me.0.parts ≡ c.self.inside.table.shared.key.parts = ap (λ s. s.parts) c.seat.view_is ∙ c.requires.parts ∙ sym (ap (λ d. d.parts) c.self.view_is) in
    let past : ends c.self.inside.table.shared.key.chunks c.seat.inside.seat.me.0.seen ≡ true = (λ i. ends (key i) (numbers i)) ∙ ap (λ k. ends k c.args.seat.numbers) (sym chunks) ∙ ended in
    rw (key, numbers) at (last_has_each _ _ _ _ _ _ c.close_with.ensures.values.2 parts past)
