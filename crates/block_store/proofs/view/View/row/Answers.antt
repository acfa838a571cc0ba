use Rattle.std.proofs.Common.{◌≡◌, arith, get_or, refl, drop}
use Rattle.std.specs.Prelude.{pos}
use Rattle.std.proofs.lemmas.Grind.{common_steps}
use Rattle.block_store.proofs.Turning.{rest_is, shows_row, stepped}
use Rattle.block_store.proofs.view.View.row.Goals as goal

pub returns-clause-shows : goal.returns-clause-shows
returns-clause-shows c =
    let v = c.args.self.now in
    let er : c.in_ok-strides.strides ≡ drop 1 v.strides = first_of (grind (arith, common_steps), grind (arith, rest_is)) in
    let eh : c.in_ok-shape.shape ≡ drop 1 v.shape = first_of (grind (arith, common_steps), grind (arith, rest_is)) in
    shows_row v _ c.args.i (get_or v.strides 0 (pos 0)) c.requires.placed c.requires.levels c.requires.within refl refl
    (stepped v.strides c.as_slice.result.now c.step_at.result v.offset c.moved-offset.result c.args.i c.as_slice.ensures c.step_at.ensures c.moved-offset.ensures)
    er eh
