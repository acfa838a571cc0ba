use Rattle.std.proofs.Common.{sym, ap}
use Rattle.fut_meaning.specs.Knowns.{is_data}
use Rattle.unfold_measure.proofs.Mirror.{known_data, not_data}
use Rattle.unfold_measure.proofs.known.is_data.Goals as goal

pub returns-in-Data : goal.returns-in-Data
returns-in-Data c = sym (ap is_data (known_data _ c.in-Data.is))

pub returns-in_default : goal.returns-in_default
returns-in_default c = sym (not_data _ c.in_default.not-Data)
