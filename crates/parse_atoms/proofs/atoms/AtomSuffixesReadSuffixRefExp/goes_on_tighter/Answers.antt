-- Nothing is tighter.
use Rattle.std.proofs.Common.{sym}
use Rattle.parse_atoms.proofs.SuffixLaws.{atom_whole}
use Rattle.parse_atoms.proofs.atoms.AtomSuffixesReadSuffixRefExp.goes_on_tighter.Goals as goal

pub returns : goal.returns
returns g c = sym (atom_whole c.args.first.now.rest.now c.args.first.now.tree.now)
