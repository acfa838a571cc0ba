use Rattle.std.proofs.Common.{◌≡◌, refl, sym}
use Rattle.block_store.specs.declared.view.View.{View}
use Rattle.block_store.specs.Blocks.{In, with_block}
use Rattle.block_store.specs.Walks.{strides_of}
use Rattle.block_store.proofs.Valuing.{array_stored, only_scalar}
use Rattle.block_store.proofs.store.Store.put_arg.Goals as goal

pub returns-in-Some-clause-same : goal.returns-in-Some-clause-same
returns-in-Some-clause-same c = sym (only_scalar c.args.value.now c.in-Some.scalar c.requires.formed c.in-Some.ensures.0)

pub returns-clause-same : goal.returns-clause-same
returns-clause-same c =
    let value = c.args.value.now in
    let v : View = record { block = c.in_ok-block.block; offset = 0; strides = c.in_ok-strides.strides; shape = c.in_ok-shape.shape } in
    let er : c.in_ok-strides.strides ≡ strides_of value.shape.sizes = cc (c.in_ok-strides.ensures) in
    let eh : c.in_ok-shape.shape ≡ value.shape.sizes = cc (c.in_ok-shape.ensures) in
    let ew : c.in_ok-words.words ≡ value.words = cc (c.in_ok-words.ensures) in
    (array_stored c.args.self.now c.put_block.new.self v value c.in_ok-words.words c.requires.formed c.requires.light refl er eh ew c.in_ok-block.ensures.put).0

pub returns-clause-held : goal.returns-clause-held
returns-clause-held c =
    let value = c.args.value.now in
    let v : View = record { block = c.in_ok-block.block; offset = 0; strides = c.in_ok-strides.strides; shape = c.in_ok-shape.shape } in
    let er : c.in_ok-strides.strides ≡ strides_of value.shape.sizes = cc (c.in_ok-strides.ensures) in
    let eh : c.in_ok-shape.shape ≡ value.shape.sizes = cc (c.in_ok-shape.ensures) in
    let ew : c.in_ok-words.words ≡ value.words = cc (c.in_ok-words.ensures) in
    (array_stored c.args.self.now c.put_block.new.self v value c.in_ok-words.words c.requires.formed c.requires.light refl er eh ew c.in_ok-block.ensures.put).1
