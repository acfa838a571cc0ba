use mir.Syntax.{w64}
use mir.Val.{SFits}
use Rattle.std.proofs.lemmas.Int.{to_z-of_z}
use Rattle.std.proofs.Common.{arith, ◌≡◌, ◌-◌, ◌<◌, get_or, set, refl, rules, subst, ap, ◌∙◌}
use Rattle.std.specs.Prelude.{pos, slice_index}
use Rattle.block_store.specs.Walks.{moved}
use Rattle.block_store.proofs.Turning.{shows_reverse, stepped, turned}
use Rattle.block_store.proofs.view.View.reverse.Goals as goal

pub returns-then-count-gt1-clause-shows : goal.returns-then-count-gt1-clause-shows
returns-then-count-gt1-clause-shows c =
    let v = c.args.self.now in
    let l : 1 < slice_index v.shape 0 = subst (λ z. 1 < slice_index z 0) c.as_slice.ensures c.if-count-gt1.true in
    let f : SFits w64 c.negated-back.result = search rules in
    let g = to_z-of_z w64 c.negated-back.result f in
    let er : c.set.new.self ≡ set v.strides 0 c.negated-back.result = first_of (grind (arith, to_z-of_z), cc (g), search (rules, to_z-of_z)) in
    shows_reverse v _ (get_or v.strides 0 (pos 0)) c.negated-back.result c.requires.placed c.requires.levels l refl
    (turned v.strides c.as_slice-then-count-gt1-2.result.now c.negated-back.result c.as_slice-then-count-gt1-2.ensures c.negated-back.ensures)
    refl
    (stepped v.strides c.as_slice-then-count-gt1.result.now c.step_at-step.result v.offset c.moved-self.result (slice_index v.shape 0 - 1) c.as_slice-then-count-gt1.ensures c.step_at-step.ensures (c.moved-self.ensures ∙ ap (λ z. moved v.offset (slice_index z 0 - 1) c.step_at-step.result) c.as_slice.ensures))
    er refl
