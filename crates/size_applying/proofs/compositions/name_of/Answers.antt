use Rattle.std.proofs.Common.{ap, sym}
use Rattle.fut_flat.proofs.ErasedPatterns.{pattern_tuple, pattern_record, pattern_typed}
use Rattle.size_applying.specs.Composed.{pattern_name}
use Rattle.size_applying.proofs.compositions.name_of.Goals as goal

pub returns-in-Tuple : goal.returns-in-Tuple
returns-in-Tuple c = sym (ap pattern_name (pattern_tuple c.args.pat.now c.in-Tuple.field-0 c.in-Tuple.is))

pub returns-in-Record : goal.returns-in-Record
returns-in-Record c = sym (ap pattern_name (pattern_record c.args.pat.now c.in-Record.field-0 c.in-Record.is))

pub returns-in-Typed : goal.returns-in-Typed
returns-in-Typed c = sym (ap pattern_name (pattern_typed c.args.pat.now c.in-Typed.field-0 c.in-Typed.field-1 c.in-Typed.is))
