-- The turns of the loop are those of the reading.
use Rattle.std.proofs.Common.{sym, subst, ◌∙◌, arith}
use Rattle.fut_ast.specs.Sorts.{Ending}
use Rattle.fut_grammar.specs.Reading.{Fails, Read}
use Rattle.fut_grammar.proofs.Turns.{operators_end, operators_spent, operators_turn, operators_fail}
use Rattle.parse_exps.proofs.operators.operators_behind.Goals as goal

pub returns-then-turns-eq0-clause-exact : goal.returns-then-turns-eq0-clause-exact
returns-then-turns-eq0-clause-exact g c =
    let next = sym c.next_between.ensures ∙ c.in-Some.is in
    let is = operators_spent _ _ _ _ _ _ _ _ _ _ c.behind.invariant.0 c.in-Some.operator next (omega arith) in
    subst (λ (r : Read Ending). Fails c.too_many_operators.result r) (sym is) (c.too_many_operators.ensures c.args.inner)

pub returns-in-Err-clause-exact : goal.returns-in-Err-clause-exact
returns-in-Err-clause-exact g c =
    operators_fail _ _ _ _ _ _ _ _ _ _ c.behind.invariant.0 c.in-Some.operator c.in-Err.stop (sym c.next_between.ensures ∙ c.in-Some.is) (omega arith) c.in-Err.ensures.exact

pub behind-preserved : goal.behind-preserved
behind-preserved g c =
    let next = sym c.next_between.ensures ∙ c.in-Some.is in
    (operators_turn _ _ _ _ _ _ _ _ _ _ c.behind.invariant.0 c.in-Some.operator _ next (omega arith) c.in-Ok.ensures.exact, omega (arith, c.in-Ok.ensures.low))

pub returns-clause-exact : goal.returns-clause-exact
returns-clause-exact g c = operators_end _ _ _ _ _ _ _ _ _ _ c.behind.invariant.0 (sym c.next_between.ensures ∙ c.in_default.is)
