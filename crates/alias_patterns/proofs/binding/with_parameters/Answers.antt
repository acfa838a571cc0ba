use Rattle.std.proofs.Common.{arith}
use Rattle.fut_aliases.specs.Aliases.{first_name_alone}
use Rattle.alias_program.specs.Program.{sub_of}
use Rattle.alias_types.specs.Kinds.{kinds_of}
use Rattle.alias_scopes.specs.Scopes.{scope_of}
use Rattle.alias_values.specs.Trees.{value_of}
use Rattle.alias_patterns.proofs.BindForms.{parameters_more, parameters_end}
use Rattle.alias_patterns.proofs.binding.with_parameters.Goals as goal

pub loop-pattern-preserved : goal.loop-pattern-preserved
loop-pattern-preserved c = λ N k. parameters_more first_name_alone N (kinds_of c.args.program.now.kinds.now) (sub_of c.args.program.now.types.now) c.args.parameters.now c.args.node (scope_of c.args.scope.now) c.loop-pattern.pattern-index c.loop-pattern.at (scope_of c.loop-pattern.inside.scope.now) (c.loop-pattern.invariant N k) _ (value_of c.in_ok-given.given.value.now) c.in_ok-at.at (scope_of c.in_ok-scope.scope.now) c.loop-pattern-test.true (c.in_ok-given.ensures.value N k) (c.in_ok-scope.ensures N k) c.in_ok-at.ensures

pub returns : goal.returns
returns c = λ N k. parameters_end first_name_alone N (kinds_of c.args.program.now.kinds.now) (sub_of c.args.program.now.types.now) c.args.parameters.now c.args.node (scope_of c.args.scope.now) c.loop-pattern.pattern-index c.loop-pattern.at (scope_of c.loop-pattern.inside.scope.now) (c.loop-pattern.invariant N k) (omega (arith, c.loop-pattern-test.false))
