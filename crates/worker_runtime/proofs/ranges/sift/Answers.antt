use Rattle.std.proofs.Common.{rules, ◌≡◌, ℕ, ◌+◌, ◌*◌, ◌++◌, ◌∷◌, [], suc, length, refl, subst, arith}
use Rattle.std.proofs.lemmas.List.{length-append}
use Rattle.chunk_work.specs.Runs.{InOrder}
use Rattle.phase_code.specs.declared.outcome.Chunk.{Chunk}
use Rattle.phase_code.specs.Ranges.{Went, chunk_end}
use Rattle.worker_runtime.proofs.Sifting.{so_far_one}
use Rattle.worker_runtime.proofs.ranges.sift.Goals as goal

pub loop-outcome-preserved : goal.loop-outcome-preserved
loop-outcome-preserved g c =
    let i = c.loop-outcome.invariant in
    let o = c.in-Some.outcome in
    let ys = c.loop-outcome.yielded in
    let fn = g.P.Phase.function c.args.phase.now in
    let made = g.P.Phase.made c.args.phase.now in
    let fails = g.P.Phase.fails c.args.phase.now in
    let ran : ℕ → Chunk _ → Type 0 = λ k x. Went g.W.Rows.rows fn made fails (k * c.args.size) (chunk_end c.args.size c.args.count k) x in
    let step : c.loop-outcome.outcome-iterator.rest.items ≡ o ∷ c.next.new.self.rest.items = search rules in
    let left : InOrder ran (length ys) (o ∷ c.next.new.self.rest.items) = subst (InOrder ran (length ys)) step i.left in
    let all : length ys + suc (length c.next.new.self.rest.items) ≡ length c.args.outcomes.items = subst (λ l. length ys + length l ≡ length c.args.outcomes.items) step i.all in
    let n = length-append ys (o ∷ []) in
    let m : length ys + 1 ≡ length (ys ++ o ∷ []) = omega arith in
    record {
      so_far = so_far_one c.args.size c.args.count g.W.Rows.rows fn made fails (g.met.P.Phase.behind c.args.phase.now) (g.met.P.Phase.before c.args.phase.now) (length c.args.outcomes.items) c.requires.tiled ys (ys ++ o ∷ []) o (length c.next.new.self.rest.items) refl all c.loop-outcome.parts.items c.take_in.new.parts.items c.loop-outcome.fault c.in_ok-fault.fault c.in_ok-fault.ensures left.0 i.so_far;
      left = subst (λ k. InOrder ran k c.next.new.self.rest.items) m left.1;
      all = omega arith;
    }
