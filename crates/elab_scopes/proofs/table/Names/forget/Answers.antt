use Rattle.std.proofs.Common.{map, ap, ◌∙◌, Bor}
use Rattle.fut_ast.specs.Sorts.{Text}
use Rattle.elab_scopes.specs.Table.{made_of}
use Rattle.elab_scopes.proofs.Tables.{made_left}
use Rattle.elab_scopes.proofs.table.Names.forget.Goals as goal

pub returns-clause-made : goal.returns-clause-made
unfolding made_of
returns-clause-made c = ap (map (λ (x : Bor Text). x.now)) c.truncate.ensures ∙ made_left _ _
