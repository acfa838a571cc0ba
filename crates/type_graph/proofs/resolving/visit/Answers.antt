use Rattle.std.proofs.Common.{◌<◌, sym, ◌∙◌, ap, subst}
use Rattle.type_graph.specs.Resolving.{mark_at}
use Rattle.type_graph.specs.Walking.{Underway}
use Rattle.type_graph.proofs.Walking.{first_root, walked_end, mark_no_longer}
use Rattle.type_graph.proofs.resolving.visit.Goals.{in-White+in_ok-open, in_default}
use Rattle.type_graph.proofs.resolving.visit.Goals as goal

pub loop-step-init : goal.loop-step-init
loop-step-init c = elim c.match-mark_of.branch [
  | in-White+in_ok-open w ↦ record {
    underway = subst (λ m. Underway c.args.nodes.now c.args.entries.now m c.match-mark_of.steps) (sym w.marks-is) (subst (Underway c.args.nodes.now c.args.entries.now w.open.new.marks) (sym w.steps-is) (first_root c.args.nodes.now c.args.entries.now c.requires.placed c.args.marks.now w.open.new.marks c.args.steps.now w.open.new.steps c.find-root.result c.requires.underway c.find-root.ensures.within c.find-root.ensures.is_root (sym c.mark_of.ensures ∙ w.in-White.is) w.open.ensures.marks c.requires.empty w.in_ok-open.ensures.steps));
    seen = λ i h. h;
  }
  | in_default w ↦ record {
    underway = subst (λ m. Underway c.args.nodes.now c.args.entries.now m c.match-mark_of.steps) (sym w.marks-is) (subst (Underway c.args.nodes.now c.args.entries.now c.args.marks.now) (sym (w.steps-is ∙ c.requires.empty)) c.requires.underway);
    seen = λ i h. h;
  }
]

pub returns-clause-here : goal.returns-clause-here
returns-clause-here c = walked_end c.args.nodes.now c.args.entries.now c.loop-step.marks c.args.start c.find-root.result c.requires.placed c.requires.start c.find-root.ensures (subst (Underway c.args.nodes.now c.args.entries.now c.loop-step.marks) c.in_default-pop.ensures.0 c.loop-step.invariant.underway) (λ h. elim c.match-mark_of.branch as (λ b. ⊥) [
  | in-White+in_ok-open w ↦ mark_no_longer c.args.marks.now w.open.new.marks c.find-root.result (subst (λ n. c.find-root.result < n) (sym c.requires.underway.long) c.find-root.ensures.within) w.open.ensures.marks (ap (λ m. mark_at m c.find-root.result) (sym w.marks-is) ∙ c.loop-step.invariant.seen c.find-root.result h)
  | in_default w ↦ w.in_default.not-White (c.mark_of.ensures ∙ ap (λ m. mark_at m c.find-root.result) (sym w.marks-is) ∙ c.loop-step.invariant.seen c.find-root.result h)
])
