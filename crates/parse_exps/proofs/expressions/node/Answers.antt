-- The law of a sort, by what was found.
use Rattle.std.proofs.Common.{Ok, Err, sym, ◌∙◌, refl}
use Rattle.parse_types.specs.Found.{found_as}
use Rattle.parse_atoms.specs.Tie.{seen}
use Rattle.parse_exps.proofs.NodeLaws.{every_sort, not_begun, below_fails, goes_on_behind, read_below}
use Rattle.parse_exps.proofs.expressions.node.Goals as goal

pub returns-then-not-begins_sort : goal.returns-then-not-begins_sort
returns-then-not-begins_sort g c =
    record { exact = rw c.refused.ensures (not_begun c.args.sort c.args.inner c.args.tokens.now (sym c.begins_sort.ensures ∙ c.if-not-begins_sort.true)); low = tt }

pub below-requires : goal.below-requires
below-requires g c = λ k. ((refl, tt), (sym c.begins_sort.ensures ∙ c.if-not-begins_sort.false, (c.requires.law, c.requires.room)))

pub returns-in-Err : goal.returns-in-Err
returns-in-Err g c =
    record { exact = below_fails c.args.sort c.args.inner c.args.tokens.now c.in-Err.stop (sym c.begins_sort.ensures ∙ c.if-not-begins_sort.false) (every_sort c.args.sort c.args.inner c.args.tokens.now (Err c.in-Err.stop) c.in-Err.ensures.exact); low = tt }

pub returns-then-goes_on_sort : goal.returns-then-goes_on_sort
returns-then-goes_on_sort g c =
    record { exact = rw c.refused-then-goes_on_sort.ensures (goes_on_behind c.args.sort c.args.inner c.args.tokens.now (found_as (seen c.args.sort) c.in-Ok.found) (sym c.begins_sort.ensures ∙ c.if-not-begins_sort.false) (every_sort c.args.sort c.args.inner c.args.tokens.now (Ok c.in-Ok.found) c.in-Ok.ensures.exact) (sym c.goes_on_sort.ensures ∙ c.if-goes_on_sort.true)); low = tt }

pub returns : goal.returns
returns g c =
    record { exact = read_below c.args.sort c.args.inner c.args.tokens.now (found_as (seen c.args.sort) c.in-Ok.found) (sym c.begins_sort.ensures ∙ c.if-not-begins_sort.false) (every_sort c.args.sort c.args.inner c.args.tokens.now (Ok c.in-Ok.found) c.in-Ok.ensures.exact) (sym c.goes_on_sort.ensures ∙ c.if-goes_on_sort.false); low = c.in-Ok.ensures.low }
