use Rattle.std.proofs.Common.{sym}
use Rattle.alias_parts.proofs.NameForms.{placed}
use Rattle.alias_parts.proofs.names.place_named.Goals as goal

pub returns : goal.returns
returns c = λ N k. placed c.args.names.now c.args.name.now _ c.args.head c.place_of.result (sym c.in-Some.ensures) c.place_of.ensures N k
