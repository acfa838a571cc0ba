-- How it ended tells what goes on with the last part of a form.
use Rattle.std.proofs.Common.{◌≡◌, sym, subst}
use Rattle.fut_ast.specs.Behind.{continues}
use Rattle.parse_atoms.specs.declared.tie.ExpSort.{ExpSort}
use Rattle.parse_atoms.specs.Tie.{seen, sort_of}
use Rattle.parse_exps.proofs.expressions.goes_on_sort.Goals as goal

pub returns-in-Last : goal.returns-in-Last
returns-in-Last c = subst (λ (s : ExpSort). c.goes_on_typed.result ≡ continues (sort_of s) (seen s c.args.found.tree) c.args.found.rest.now) (sym c.in-Last.is) c.goes_on_typed.ensures
