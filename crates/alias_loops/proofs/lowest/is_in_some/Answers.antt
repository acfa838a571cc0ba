use Rattle.std.proofs.Common.{sym, ap, ◌∙◌, arith}
use Rattle.fut_aliases.specs.Aliases.{is_in}
use Rattle.alias_loops.proofs.LowestForms.{sets_are, set_of, some_end, some_here, some_more}
use Rattle.alias_loops.proofs.lowest.is_in_some.Goals as goal

pub returns-then-is_in : goal.returns-then-is_in
returns-then-is_in c = some_here set_of c.args.alias c.args.sets.now c.loop-i.i _ c.loop-i-test.true (sym c.if-is_in.true ∙ c.is_in.ensures) c.loop-i.invariant ∙ ap (is_in c.args.alias) (sym (sets_are c.args.sets.now))

pub loop-i-preserved : goal.loop-i-preserved
loop-i-preserved c = some_more set_of c.args.alias c.args.sets.now c.loop-i.i _ c.loop-i-test.true (sym c.if-is_in.false ∙ c.is_in.ensures) c.loop-i.invariant

pub returns : goal.returns
returns c = some_end set_of c.args.alias c.args.sets.now c.loop-i.i (omega (arith, c.loop-i-test.false)) c.loop-i.invariant ∙ ap (is_in c.args.alias) (sym (sets_are c.args.sets.now))
