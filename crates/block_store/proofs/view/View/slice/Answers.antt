use Rattle.std.proofs.Common.{get_or, refl}
use Rattle.std.specs.Prelude.{pos}
use Rattle.block_store.proofs.Turning.{shows_slice, stepped}
use Rattle.block_store.proofs.view.View.slice.Goals as goal

pub returns-clause-shows : goal.returns-clause-shows
returns-clause-shows c =
    let v = c.args.self.now in
    shows_slice v _ c.args.low c.args.high (get_or v.strides 0 (pos 0)) c.requires.placed c.requires.levels c.requires.within.0 c.requires.within.1 refl refl
    (stepped v.strides c.as_slice.result.now c.step_at.result v.offset c.moved-self.result c.args.low c.as_slice.ensures c.step_at.ensures c.moved-self.ensures)
    refl c.set.ensures
