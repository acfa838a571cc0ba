use Rattle.std.proofs.Common.{rules, ◌≡◌, ◌≤◌, sym, ◌∙◌, ap, [], ◌∷◌, ◌++◌, arith}
use Rattle.chunk_draw.specs.Drawing.{ends}
use Rattle.chunk_draw.proofs.Keeps.{draws_keep, ends_more, all_one}
use Rattle.chunk_draw.proofs.Draw.next.Goals as goal

pub fetch_add-drawn-requires : goal.fetch_add-drawn-requires
fetch_add-drawn-requires c =
    let chunks : c.seat.inside.chunks ≡ c.self.inside.table.shared.key.chunks =
    ap (λ s. s.chunks) c.seat.view_is ∙ c.requires.1 ∙ sym (ap (λ d. d.chunks) c.self.view_is) ∙ sym c.self.invariant.2 in
    (search rules, search rules, draws_keep _ _ _ _ _ c.seat.invariant.1 (ap (λ k. ends k c.seat.inside.seat.me.0.seen) (sym chunks) ∙ sym c.seat.invariant.2 ∙ c.if-seat.false))

pub returns-clause-none : goal.returns-clause-none
returns-clause-none c =
    let n = c.fetch_add-drawn.result in
    let seen : c.fetch_add-drawn.new.seat.me.0.seen ≡ c.seat.inside.seat.me.0.seen ++ n ∷ [] = ap (λ m. m.0.seen) c.fetch_add-drawn.ensures.2.0 in
    let chunks : c.seat.inside.chunks ≡ c.args.self.now.chunks = ap (λ s. s.chunks) c.seat.view_is ∙ c.requires.1 in
    let le : c.self.inside.chunks ≤ n = c.if-drawn-self.false in
    let table : c.self.inside.chunks ≡ c.args.self.now.chunks = ap (λ d. d.chunks) c.self.view_is in
    let le' : c.args.self.now.chunks ≤ n = omega arith in (
      ends_more c.seat.inside.chunks n c.seat.inside.seat.me.0.seen c.fetch_add-drawn.new.seat.me.0.seen (omega arith) seen,
      n ∷ [],
      all_one (λ m. c.args.self.now.chunks ≤ m) n le',
      seen ∙ ap (λ l. l ++ n ∷ []) (ap (λ s. s.numbers) c.seat.view_is),
    )
