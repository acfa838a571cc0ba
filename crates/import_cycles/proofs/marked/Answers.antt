use Rattle.std.proofs.Common.{length, ap, sym, ◌∙◌, arith, subst, false, get_or}
use Rattle.import_cycles.proofs.Marking.{Marks, all_marked, behind_none, fewer, last_leads, marked_before, marked_now, marks_begin, the_row, within_files}
use Rattle.import_cycles.proofs.marked.Goals as goal

pub loop-next-init : goal.loop-next-init
loop-next-init c = marks_begin _ _ _ _ c.in_ok-seen.ensures.length c.in_ok-seen.ensures.none (behind_none c.in_ok-put_all.ensures c.new-pending.ensures ∙ the_row _ _ _ c.requires.from)

pub bounds-as_slice-at : goal.bounds-as_slice-at
bounds-as_slice-at c =
    let lt = within_files _ _ _ c.requires.within (last_leads _ _ _ _ _ _ c.in-Some.ensures c.loop-next.invariant) in
    omega (arith, lt, c.loop-next.invariant.size, ap length c.as_slice.ensures)

pub set-requires : goal.set-requires
set-requires c =
    let lt = within_files _ _ _ c.requires.within (last_leads _ _ _ _ _ _ c.in-Some.ensures c.loop-next.invariant) in
    omega (arith, lt, c.loop-next.invariant.size)

pub bounds-imports-at : goal.bounds-imports-at
bounds-imports-at c = within_files _ _ _ c.requires.within (last_leads _ _ _ _ _ _ c.in-Some.ensures c.loop-next.invariant)

pub loop-next-smaller-in-Continue-branch-3 : goal.loop-next-smaller-in-Continue-branch-3
loop-next-smaller-in-Continue-branch-3 c =
    let lt = within_files _ _ _ c.requires.within (last_leads _ _ _ _ _ _ c.in-Some.ensures c.loop-next.invariant) in
    fewer c.args.imports.now c.loop-next.seen c.set.new.self c.in-Some.next c.loop-next.pending c.pop.new.self _ c.put_all-then-not-as_slice-at.new.pending c.in-Some.ensures c.in_ok-put_all-2.ensures (the_row _ _ _ lt) c.set.ensures
    (omega (arith, lt, c.loop-next.invariant.size)) c.loop-next.invariant.size (ap (λ l. get_or l c.in-Some.next false) (sym c.as_slice.ensures) ∙ c.if-not-as_slice-at.true)

pub loop-next-preserved-in-Continue-branch-3 : goal.loop-next-preserved-in-Continue-branch-3
loop-next-preserved-in-Continue-branch-3 c =
    let lt = within_files _ _ _ c.requires.within (last_leads _ _ _ _ _ _ c.in-Some.ensures c.loop-next.invariant) in
    subst (λ s. Marks c.args.imports.now c.args.from s c.put_all-then-not-as_slice-at.new.pending) (sym c.set.ensures)
    (marked_now c.args.imports.now c.args.from c.loop-next.seen c.loop-next.pending c.pop.new.self c.in-Some.next c.in-Some.ensures c.loop-next.invariant _ c.put_all-then-not-as_slice-at.new.pending
    (omega (arith, lt, c.loop-next.invariant.size)) (the_row _ _ _ lt) c.in_ok-put_all-2.ensures)

pub loop-next-preserved : goal.loop-next-preserved
loop-next-preserved c = marked_before c.args.imports.now c.args.from c.loop-next.seen c.loop-next.pending c.pop.new.self c.in-Some.next c.in-Some.ensures c.loop-next.invariant
    (ap (λ l. get_or l c.in-Some.next false) (sym c.as_slice.ensures) ∙ c.if-not-as_slice-at.false)

pub returns-clause-marks : goal.returns-clause-marks
returns-clause-marks c = λ k.
    let done = subst (Marks c.args.imports.now c.args.from c.loop-next.seen) c.in_default.ensures.0 c.loop-next.invariant in
    (done.leads k, all_marked c.args.imports.now c.args.from c.loop-next.seen done k)
