use Rattle.std.proofs.Common.{refl, ap, ◌∙◌}
use Rattle.size_arena.specs.Trees.{size_of}
use Rattle.size_arena.proofs.Forms.{size_hole, size_open, size_level, size_built, size_fun}
use Rattle.size_loops.proofs.DifferForms.{none_differs, levels_differ, parts_differ, parts_more, began_ends, ended_ends}
use Rattle.size_loops.proofs.loops.+differing.Goals as goal

pub note_differing-returns-in-Hole : goal.note_differing-returns-in-Hole
note_differing-returns-in-Hole t c = λ N types. none_differs N types c.args.dropped.now c.args.first c.args.began.now c.args.ended.now _ _ _ (ap size_of c.in-Hole.is ∙ size_hole _) refl refl

pub note_differing-returns-in-Open : goal.note_differing-returns-in-Open
note_differing-returns-in-Open t c = λ N types. none_differs N types c.args.dropped.now c.args.first c.args.began.now c.args.ended.now _ _ _ (ap size_of c.in-Open.is ∙ size_open _ _ _) refl refl

pub note_differing-returns-in-Fun : goal.note_differing-returns-in-Fun
note_differing-returns-in-Fun t c = λ N types. none_differs N types c.args.dropped.now c.args.first c.args.began.now c.args.ended.now _ _ _ (ap size_of c.in-Fun.is ∙ size_fun _ _ _ _) refl refl

pub note_differing-returns-in-Hole-ended : goal.note_differing-returns-in-Hole-ended
note_differing-returns-in-Hole-ended t c = λ N types. none_differs N types c.args.dropped.now c.args.first c.args.began.now c.args.ended.now _ _ _ (ap size_of c.in-Level.is ∙ size_level _ _ _) (ap size_of c.in-Hole-ended.is ∙ size_hole _) refl

pub note_differing-returns-in-Open-ended : goal.note_differing-returns-in-Open-ended
note_differing-returns-in-Open-ended t c = λ N types. none_differs N types c.args.dropped.now c.args.first c.args.began.now c.args.ended.now _ _ _ (ap size_of c.in-Level.is ∙ size_level _ _ _) (ap size_of c.in-Open-ended.is ∙ size_open _ _ _) refl

pub note_differing-returns-in_ok-next-in-Level-ended : goal.note_differing-returns-in_ok-next-in-Level-ended
note_differing-returns-in_ok-next-in-Level-ended t c = λ N types.
    levels_differ N types c.args.dropped.now c.args.first c.args.began.now c.args.ended.now _ c.in-Level.height c.in-Level-ended.height c.in_ok-next-in-Level-ended.next c.in-Level.size c.in-Level-ended.other c.in-Level.row c.in-Level-ended.rest _ _ c.note_differing.result
    c.in-Level.is c.in-Level-ended.is c.in_ok-note_level-in-Level-ended.ensures c.in_ok-next-in-Level-ended.ensures (c.note_differing.ensures N types)

pub note_differing-returns-in-Built-ended : goal.note_differing-returns-in-Built-ended
note_differing-returns-in-Built-ended t c = λ N types. none_differs N types c.args.dropped.now c.args.first c.args.began.now c.args.ended.now _ _ _ (ap size_of c.in-Level.is ∙ size_level _ _ _) (ap size_of c.in-Built-ended.is ∙ size_built _ _ _) refl

pub note_differing-returns-in-Fun-ended : goal.note_differing-returns-in-Fun-ended
note_differing-returns-in-Fun-ended t c = λ N types. none_differs N types c.args.dropped.now c.args.first c.args.began.now c.args.ended.now _ _ _ (ap size_of c.in-Level.is ∙ size_level _ _ _) (ap size_of c.in-Fun-ended.is ∙ size_fun _ _ _ _) refl

pub note_differing-returns-in-Hole-ended-2 : goal.note_differing-returns-in-Hole-ended-2
note_differing-returns-in-Hole-ended-2 t c = λ N types. none_differs N types c.args.dropped.now c.args.first c.args.began.now c.args.ended.now _ _ _ (ap size_of c.in-Built.is ∙ size_built _ _ _) (ap size_of c.in-Hole-ended-2.is ∙ size_hole _) refl

pub note_differing-returns-in-Open-ended-2 : goal.note_differing-returns-in-Open-ended-2
note_differing-returns-in-Open-ended-2 t c = λ N types. none_differs N types c.args.dropped.now c.args.first c.args.began.now c.args.ended.now _ _ _ (ap size_of c.in-Built.is ∙ size_built _ _ _) (ap size_of c.in-Open-ended-2.is ∙ size_open _ _ _) refl

pub note_differing-returns-in-Level-ended-2 : goal.note_differing-returns-in-Level-ended-2
note_differing-returns-in-Level-ended-2 t c = λ N types. none_differs N types c.args.dropped.now c.args.first c.args.began.now c.args.ended.now _ _ _ (ap size_of c.in-Built.is ∙ size_built _ _ _) (ap size_of c.in-Level-ended-2.is ∙ size_level _ _ _) refl

pub note_differing-returns-in-Built-ended-2 : goal.note_differing-returns-in-Built-ended-2
note_differing-returns-in-Built-ended-2 t c = λ N types.
    parts_differ N types c.args.dropped.now c.args.first c.args.began.now c.args.ended.now _ c.in-Built.height c.in-Built-ended-2.height c.in-Built.head c.in-Built-ended-2.head c.in-Built.parts c.in-Built-ended-2.others _ c.note_all.result
    c.in-Built.is c.in-Built-ended-2.is (c.note_all.ensures N types)

pub note_differing-returns-in-Fun-ended-2 : goal.note_differing-returns-in-Fun-ended-2
note_differing-returns-in-Fun-ended-2 t c = λ N types. none_differs N types c.args.dropped.now c.args.first c.args.began.now c.args.ended.now _ _ _ (ap size_of c.in-Built.is ∙ size_built _ _ _) (ap size_of c.in-Fun-ended-2.is ∙ size_fun _ _ _ _) refl

pub note_all-loop-i-preserved : goal.note_all-loop-i-preserved
note_all-loop-i-preserved t c = λ N types.
    parts_more N types c.args.dropped.now c.args.began.now c.args.ended.now c.loop-i.i c.args.first c.loop-i.number _ _ (c.loop-i.invariant N types) c.index-began-i.result c.index-ended-i.result c.in_ok-number.number _ c.loop-i-test.true c.if-i-ended.false
    (rw (← c.index-began-i.is, ← c.index-ended-i.is) (c.in_ok-note_differing.ensures N types)) (rw (← c.index-began-i.is) c.in_ok-number.ensures)

pub note_all-returns-then-i-ended : goal.note_all-returns-then-i-ended
note_all-returns-then-i-ended t c = λ N types. ended_ends N types c.args.dropped.now c.args.began.now c.args.ended.now c.loop-i.i c.args.first c.loop-i.number _ _ (c.loop-i.invariant N types) c.loop-i-test.true c.if-i-ended.true

pub note_all-returns : goal.note_all-returns
note_all-returns t c = λ N types. began_ends N types c.args.dropped.now c.args.began.now c.args.ended.now c.loop-i.i c.args.first c.loop-i.number _ _ (c.loop-i.invariant N types) c.loop-i-test.false
