use Rattle.std.proofs.Common.{arith, ap, ◌∙◌, length}
use Rattle.block_store.specs.Blocks.{with_word, words_at}
use Rattle.block_store.proofs.Placing.{index_long, place_in}
use Rattle.block_store.proofs.store.Store.update.Goals as goal

pub place_of-place-requires : goal.place_of-place-requires
place_of-place-requires c = omega (arith, index_long c.args.at.now c.args.view.now.shape c.requires.index, c.requires.within.levels, ap length c.as_slice.ensures)

pub set-requires : goal.set-requires
set-requires c =
    let v = c.args.view.now in
    (place_in (length (words_at c.args.self.now v.block)) v.offset c.place_of-place.result v.strides c.as_slice.result.now c.args.at.now v.shape c.requires.within.short c.as_slice.ensures c.requires.within.places c.requires.index c.place_of-place.ensures).0

pub returns : goal.returns
returns c =
    let v = c.args.view.now in
    let p = place_in (length (words_at c.args.self.now v.block)) v.offset c.place_of-place.result v.strides c.as_slice.result.now c.args.at.now v.shape c.requires.within.short c.as_slice.ensures c.requires.within.places c.requires.index c.place_of-place.ensures in
    c.set.ensures ∙ ap (λ z. with_word c.args.self.now v.block z c.args.word) p.1
