use Rattle.std.proofs.Common.{◌≡◌}
use Rattle.block_store.specs.Blocks.{words_at}
use Rattle.block_store.specs.Views.{cells}
use Rattle.block_store.specs.Walks.{read_from}
use Rattle.block_store.proofs.Reading.{if_ok_weaker, view_read}
use Rattle.block_store.proofs.store.Store.cells.Goals as goal

pub returns : goal.returns
returns c =
    let v = c.args.view.now in
    if_ok_weaker (λ read. read ≡ read_from c.words.result.now c.as_slice.result.now c.as_slice-2.result.now v.offset) (λ read. read ≡ cells c.args.self.now v) c.words_from.result
    (λ read is. view_read (words_at c.args.self.now v.block) c.words.result.now v.offset v.strides c.as_slice.result.now v.shape c.as_slice-2.result.now read c.requires.short c.requires.levels c.requires.places c.words.ensures c.as_slice.ensures c.as_slice-2.ensures is)
    c.words_from.ensures
