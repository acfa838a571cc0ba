use Rattle.std.proofs.lemmas.Result.{err_from_is_err_and}
use Rattle.fut_aliases.specs.Aliases.{first_name_alone}
use Rattle.alias_parts.specs.Known.{Knows}
use Rattle.alias_program.specs.Program.{sub_of}
use Rattle.alias_scopes.specs.Scopes.{scope_of}
use Rattle.alias_types.specs.Kinds.{kinds_of}
use Rattle.alias_check.proofs.DefinitionForms.{reach_ends, reach_goes, reach_refused, same_stop}
use Rattle.alias_check.proofs.definitions.check.Goals as goal

pub returns-in_err-next-clause-refused : goal.returns-in_err-next-clause-refused
returns-in_err-next-clause-refused c =
    let p = err_from_is_err_and c.from_residual.result c.from_residual.ensures.1 in
    λ N k b e. reach_refused first_name_alone (kinds_of c.args.program.now.kinds.now) (sub_of c.args.program.now.types.now) (Knows c.args.program.now.names) c.args.flat.now.definitions.now c.loop-definition.behind.at (scope_of c.loop-definition.behind.scope.now) c.loop-definition.definition-index c.loop-definition.invariant _ c.loop-definition-test.true N k (λ more_of. c.in_err-next.ensures.refused N k more_of b (same_stop (rw (p.1, p.2) at e)))

pub loop-definition-preserved : goal.loop-definition-preserved
loop-definition-preserved c = reach_goes first_name_alone (kinds_of c.args.program.now.kinds.now) (sub_of c.args.program.now.types.now) (Knows c.args.program.now.names) c.args.flat.now.definitions.now c.loop-definition.behind.at (scope_of c.loop-definition.behind.scope.now) c.loop-definition.definition-index c.loop-definition.invariant _ c.loop-definition-test.true _ _ (λ N k more_of. c.in_ok-next.ensures.fits N k more_of)

pub returns-clause-accepted : goal.returns-clause-accepted
returns-clause-accepted c = λ N k. reach_ends first_name_alone (kinds_of c.args.program.now.kinds.now) (sub_of c.args.program.now.types.now) (Knows c.args.program.now.names) c.args.flat.now.definitions.now c.loop-definition.behind.at (scope_of c.loop-definition.behind.scope.now) c.loop-definition.definition-index c.loop-definition.invariant c.loop-definition-test.false N k
