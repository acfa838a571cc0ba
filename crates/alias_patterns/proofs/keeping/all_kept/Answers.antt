use Rattle.fut_aliases.specs.Values.{all_of}
use Rattle.alias_patterns.specs.Placing.{sets_of}
use Rattle.std.proofs.Common.{arith, ap, ◌∙◌}
use Rattle.fut_aliases.specs.Aliases.{first_name_alone}
use Rattle.alias_program.specs.Program.{sub_of}
use Rattle.alias_types.specs.Kinds.{kinds_of}
use Rattle.alias_values.specs.Trees.{stars_of, value_of}
use Rattle.alias_patterns.proofs.KeepForms.{parameters_more, parameters_end}
use Rattle.alias_patterns.proofs.keeping.all_kept.Goals as goal

pub loop-pattern-preserved : goal.loop-pattern-preserved
loop-pattern-preserved c = λ N k. parameters_more first_name_alone N (kinds_of c.args.program.now.kinds.now) (sub_of c.args.program.now.types.now) c.args.parameters.now c.args.node c.loop-pattern.pattern-index c.loop-pattern.at c.loop-pattern.sets.items (c.loop-pattern.invariant N k) _ (stars_of c.in_ok-given.given.stars.now) (value_of c.in_ok-given.given.value.now) c.in_ok-at.at c.in_ok-set.set c.push.new.self.items c.loop-pattern-test.true (c.in_ok-given.ensures.stars N k) (c.in_ok-given.ensures.value N k) (c.in_ok-set.ensures N k) c.in_ok-push.ensures.items c.in_ok-at.ensures

pub returns : goal.returns
returns c = λ N k. parameters_end first_name_alone N (kinds_of c.args.program.now.kinds.now) (sub_of c.args.program.now.types.now) c.args.parameters.now c.args.node c.loop-pattern.pattern-index c.loop-pattern.at c.loop-pattern.sets.items (c.loop-pattern.invariant N k) _ (omega (arith, c.loop-pattern-test.false)) (c.in_ok-all.ensures ∙ ap (λ z. all_of (sets_of z)) c.into_bump_slice.ensures)
