use Rattle.std.proofs.Common.{[], refl}
use Rattle.std.proofs.lemmas.Result.{err_from_is_err_and}
use Rattle.fut_aliases.specs.Aliases.{first_name_alone}
use Rattle.alias_program.specs.Program.{sub_of}
use Rattle.alias_scopes.specs.Scopes.{scope_of}
use Rattle.alias_types.specs.Kinds.{kinds_of}
use Rattle.alias_check.proofs.DefinitionForms.{as_refused, from_none, one_fits, one_refused, same_stop}
use Rattle.alias_check.proofs.definitions.definition_checked.Goals as goal

pub returns-clause-fits : goal.returns-clause-fits
returns-clause-fits c = λ N k more_of. one_fits first_name_alone N (kinds_of c.args.program.now.kinds.now) (sub_of c.args.program.now.types.now) c.args.definition.now more_of c.args.before.now.at c.in-Ok.node (scope_of c.args.before.now.scope.now) c.no_alias.result.now _ c.in_ok-found.found _ _ _ c.no_alias.ensures c.in-Ok.ensures (from_none c.new-losses.ensures (c.in_ok-found.ensures.step N k)) c.in_ok-found.ensures.ends c.in-Ok-named.ensures c.in-Ok-with_value.ensures refl

pub returns-in_err-found-clause-refused : goal.returns-in_err-found-clause-refused
returns-in_err-found-clause-refused c =
    let p = err_from_is_err_and c.from_residual.result c.from_residual.ensures.1 in
    λ N k more_of b e. one_refused first_name_alone N (kinds_of c.args.program.now.kinds.now) (sub_of c.args.program.now.types.now) c.args.definition.now more_of c.args.before.now.at c.in-Ok.node (scope_of c.args.before.now.scope.now) c.no_alias.result.now [] c.no_alias.ensures c.in-Ok.ensures (from_none c.new-losses.ensures (as_refused (same_stop (rw (p.1, p.2) at e)) (c.in_err-found.ensures.step N k)))
