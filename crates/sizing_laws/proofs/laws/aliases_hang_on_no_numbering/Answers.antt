use Rattle.sizing_laws.proofs.AliasWalk.{aliases_are_one}
use Rattle.sizing_laws.proofs.laws.aliases_hang_on_no_numbering.Goals as goal

-- src/laws.rt:17:1
pub returns : goal.returns
returns c = aliases_are_one
