use Rattle.std.proofs.Common.{arith, rules, ◌∙◌, refl, ◌≡◌, ◌+◌, length}
use Rattle.std.proofs.lemmas.Grind.{common_steps}
use Rattle.fut_io.proofs.Pieces.{left_more, bytes_more, room_more, counted_more, part_more, left_first, bytes_first, room_first, counted_first}
use Rattle.fut_io.proofs.all.read_all.Goals as goal

pub loop-count-init : goal.loop-count-init
loop-count-init g c =
    let e = c.new-bytes.ensures.items in
    record {
      short = grind (arith, common_steps);
      bytes = bytes_first _ _ e;
      held = room_first _ _ e;
      left = left_first _ _ e;
      taken = counted_first _ _ e;
      faults = refl;
    }

pub loop-count-preserved : goal.loop-count-preserved
loop-count-preserved g c =
    let next : length c.append.new.bytes.items ≡ length c.loop-count.bytes.items + c.in-Ok.count = grind (arith, common_steps, c.in-Ok.ensures.ok.within, c.in_ok-append.ensures.len) in
    record {
      short = grind (arith, common_steps);
      bytes = bytes_more _ _ _ _ _ _ c.in_ok-append.ensures.items next c.loop-count.invariant.left c.loop-count.invariant.bytes c.in-Ok.ensures.ok.bytes;
      held = room_more _ _ _ _ _ next c.loop-count.invariant.left c.loop-count.invariant.held c.in-Ok.ensures.ok.held;
      left = left_more _ _ _ _ _ _ next c.loop-count.invariant.left c.in-Ok.ensures.ok.left;
      taken = counted_more _ _ _ _ _ _ next c.loop-count.invariant.taken c.in-Ok.ensures.ok.taken;
      faults = c.in-Ok.ensures.ok.faults ∙ c.loop-count.invariant.faults;
    }

pub returns-then-room-count-clause-part : goal.returns-then-room-count-clause-part
returns-then-room-count-clause-part g c =
    let read = c.loop-count.invariant in
    part_more _ _ _ _ _ _ read.held read.left read.taken read.faults c.in-Ok.ensures.ok

pub returns-in_err-append-clause-part : goal.returns-in_err-append-clause-part
returns-in_err-append-clause-part g c =
    let read = c.loop-count.invariant in
    let part = part_more _ _ _ _ _ _ read.held read.left read.taken read.faults c.in-Ok.ensures.ok in
    search rules
