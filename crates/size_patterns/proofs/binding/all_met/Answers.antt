use Rattle.std.proofs.Common.{◌≡◌, ◌∙◌, sym, ap, arith}
use Rattle.size_arena.specs.Trees.{free_of}
use Rattle.size_program.specs.Answers.{no_memory}
use Rattle.size_patterns.specs.Bound.{unmet_at}
use Rattle.size_patterns.proofs.BindForms.{met_more, not_met, met_end}
use Rattle.size_patterns.proofs.binding.all_met.Goals as goal

pub returns-in-Err : goal.returns-in-Err
returns-in-Err c = λ σ held. no_memory

pub returns-then-is_still_open : goal.returns-then-is_still_open
returns-then-is_still_open c = λ σ held.
    let e : c.in-Ok.number ≡ c.loop-i.i = grind (arith, c.in-Ok.ensures) in
    not_met (unmet_at c.args.unmet) c.args.sizes.now σ c.loop-i.i c.refused.result (free_of c.read_free.result) c.loop-i-test.true (sym c.if-is_still_open.true ∙ c.is_still_open.ensures) (c.read_free.ensures σ held ∙ ap σ.size e) (c.loop-i.invariant σ held) c.refused.ensures

pub loop-i-preserved : goal.loop-i-preserved
loop-i-preserved c = λ σ held.
    let e : c.in-Ok.number ≡ c.loop-i.i = grind (arith, c.in-Ok.ensures) in
    met_more (unmet_at c.args.unmet) c.args.sizes.now σ c.loop-i.i (free_of c.read_free.result) c.loop-i-test.true (sym c.if-is_still_open.false ∙ c.is_still_open.ensures) (c.read_free.ensures σ held ∙ ap σ.size e) (c.loop-i.invariant σ held)

pub returns : goal.returns
returns c = λ σ held. met_end (unmet_at c.args.unmet) c.args.sizes.now σ c.loop-i.i c.loop-i-test.false (c.loop-i.invariant σ held)
