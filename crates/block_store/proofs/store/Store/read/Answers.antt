use Rattle.std.proofs.Common.{arith, ap, ◌∙◌, length}
use Rattle.std.specs.Prelude.{slice_index}
use Rattle.block_store.specs.Blocks.{words_at}
use Rattle.block_store.proofs.Placing.{index_long, place_in}
use Rattle.block_store.proofs.store.Store.read.Goals as goal

pub place_of-place-requires : goal.place_of-place-requires
place_of-place-requires c = omega (arith, index_long c.args.at.now c.args.view.now.shape c.requires.index, c.requires.within.levels, ap length c.as_slice.ensures)

pub returns : goal.returns
returns c =
    let v = c.args.view.now in
    let ws = words_at c.args.self.now v.block in
    let p = place_in (length ws) v.offset c.place_of-place.result v.strides c.as_slice.result.now c.args.at.now v.shape c.requires.within.short c.as_slice.ensures c.requires.within.places c.requires.index c.place_of-place.ensures in
    c.word_at.ensures ∙ ap (λ z. slice_index z c.place_of-place.result) c.words.ensures ∙ ap (slice_index ws) p.1
