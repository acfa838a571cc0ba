use Rattle.std.proofs.Common.{sym, ap, ◌∙◌, arith}
use Rattle.fut_aliases.specs.Aliases.{is_in}
use Rattle.alias_loops.specs.Carried.{kept_of}
use Rattle.alias_loops.proofs.LowestForms.{kept_are, some_end, some_here, some_more}
use Rattle.alias_loops.proofs.lowest.is_kept.Goals as goal

pub returns-then-is_kept_of : goal.returns-then-is_kept_of
returns-then-is_kept_of c = some_here kept_of c.args.alias c.args.carried.now c.loop-i.i _ c.loop-i-test.true (sym c.if-is_kept_of.true ∙ c.is_kept_of.ensures) c.loop-i.invariant ∙ ap (is_in c.args.alias) (sym (kept_are c.args.carried.now))

pub loop-i-preserved : goal.loop-i-preserved
loop-i-preserved c = some_more kept_of c.args.alias c.args.carried.now c.loop-i.i _ c.loop-i-test.true (sym c.if-is_kept_of.false ∙ c.is_kept_of.ensures) c.loop-i.invariant

pub returns : goal.returns
returns c = some_end kept_of c.args.alias c.args.carried.now c.loop-i.i (omega (arith, c.loop-i-test.false)) c.loop-i.invariant ∙ ap (is_in c.args.alias) (sym (kept_are c.args.carried.now))
