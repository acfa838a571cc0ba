use Rattle.fut_flat.specs.Erased.{pattern_of, patterns, term_of}
use Rattle.std.proofs.Common.{arith, map}
use Rattle.alias_applications.specs.Shown.{wanted_of}
use Rattle.alias_forms.specs.Walked.{kinds_at, types_at}
use Rattle.fut_aliases.specs.Aliases.{first_name_alone}
use Rattle.alias_forms.proofs.FunctionForms.{enters_as}
use Rattle.alias_forms.proofs.functions.enter_body.Goals as goal

pub returns-clause-enters : goal.returns-clause-enters
returns-clause-enters c = λ N k. enters_as N c.args.site.now (patterns (map pattern_of c.args.parameters.now)) (term_of c.args.body.now) c.args.at (wanted_of c.args.wanted) _ c.in_ok-first.first (wanted_of c.in_ok-declared.declared) (wanted_of c.in_ok-also.also) c.in_ok-first.ensures c.in_ok-node.ensures (c.in_ok-here.ensures N k) (c.in_ok-scope.ensures N k) (c.in_ok-declared.ensures N k) c.in_ok-also.ensures (c.in_ok-both.ensures first_name_alone N (kinds_at c.args.site.now) (types_at c.args.site.now)) c.in_ok-stars.ensures

pub returns-clause-node : goal.returns-clause-node
returns-clause-node c = omega (arith, c.in_ok-first.ensures, c.in_ok-node.ensures)
