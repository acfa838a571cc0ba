use Rattle.std.proofs.Common.{◌∙◌, ap, sym, arith}
use Rattle.core_arrays.specs.declared.arrays.Cells.TheVariants as cells
use Rattle.core_arrays.proofs.Finding.{own_are, shown_part}
use Rattle.core_arrays.proofs.arrays.words_in.Goals as goal

pub returns-in-Own : goal.returns-in-Own
returns-in-Own c = own_are c.args.wholes.now c.args.at c.in_ok-whole.whole.now c.as_slice.result.now c.in_ok-whole.ensures (c.in-Own.is ∙ ap cells.Own (sym c.as_slice.ensures))

pub returns-else-owner-at : goal.returns-else-owner-at
returns-else-owner-at c = shown_part c.args.wholes.now c.args.at c.in_ok-whole.whole.now c.in-Part.owner c.in-Part.from c.in-Part.count c.own_in.result.now c.part_in.result c.in_ok-whole.ensures c.in-Part.is (omega (arith, c.if-owner-at.false)) c.own_in.ensures c.part_in.ensures
