use Rattle.std.proofs.Common.{ap, ◌∙◌}
use Rattle.told_rows.specs.Arguments.{rows_of}
use Rattle.told_rows.proofs.CallForms.{atoms_more, atoms_over}
use Rattle.told_rows.proofs.calls.rows_of_data.Goals as goal

pub loop-atom-preserved : goal.loop-atom-preserved
loop-atom-preserved c = atoms_more c.args.atoms.now c.loop-atom.atom-index c.loop-atom.made.items c.loop-atom.invariant _ c.in_ok-data.data _ c.loop-atom-test.true c.in_ok-data.ensures c.in_ok-push.ensures.items

pub returns : goal.returns
returns c = ap rows_of c.into_bump_slice.ensures ∙ atoms_over c.args.atoms.now c.loop-atom.atom-index c.loop-atom.made.items c.loop-atom.invariant c.loop-atom-test.false
