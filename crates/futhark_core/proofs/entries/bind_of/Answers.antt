use Rattle.std.proofs.Common.{ap}
use Rattle.std.proofs.lemmas.Option.{get_or_from_slice_get, slice_get-get_or}
use Rattle.fut_flat.specs.declared.program.Definition.{Definition}
use Rattle.futhark_core.proofs.entries.bind_of.Goals as goal

pub returns : goal.returns
returns c = λ other. ap (λ (d : Definition). d.bind.0) (get_or_from_slice_get c.args.flat.now.definitions.now c.args.at _ other (slice_get-get_or c.args.flat.now.definitions.now c.args.at _ c.requires))
