use Rattle.std.proofs.Common.{sym, subst, arith}
use Rattle.unfold.specs.Held.{known_of}
use Rattle.unfold_parts.specs.Answers.{unanswered}
use Rattle.unfold_parts.specs.Refused.{no_memory}
use Rattle.unfold_parts.specs.States.{steps_of}
use Rattle.unfold_parts.proofs.Packed.{atom_packed, tuple_packed, tuple_not_packed, record_packed, record_of, record_err, function_not_packed}
use Rattle.unfold_parts.proofs.Packs.{Pack_lead, pack_start, pack_on, pack_end, pack_err}
use Rattle.unfold_parts.proofs.Refusing.{only_memory}
use Rattle.unfold_parts.proofs.packing.+pack.Goals as goal

pub pack_inside-returns-in-Scalar : goal.pack_inside-returns-in-Scalar
pack_inside-returns-in-Scalar t c = atom_packed _ _ _ _ c.in-Scalar.is

pub pack_inside-returns-in-Ok : goal.pack_inside-returns-in-Ok
pack_inside-returns-in-Ok t c = tuple_packed _ _ _ _ _ _ _ _ _ _ _ c.in-Tuple.is c.in-Ok.ensures c.made.ensures

pub pack_inside-returns-in-Err : goal.pack_inside-returns-in-Err
pack_inside-returns-in-Err t c = tuple_not_packed _ _ _ _ _ _ _ _ _ c.in-Tuple.is c.in-Err.ensures

pub pack_inside-returns-in-Record : goal.pack_inside-returns-in-Record
pack_inside-returns-in-Record t c = record_packed _ _ _ _ _ _ _ c.in-Record.is c.pack_record.ensures

pub pack_inside-returns-in_default : goal.pack_inside-returns-in_default
pack_inside-returns-in_default t c = function_not_packed _ _ _ _ _ c.in_default.not-Scalar c.in_default.not-Tuple c.in_default.not-Record

pub pack_inside-returns-then-deep-ge-MOST_DEEP : goal.pack_inside-returns-then-deep-ge-MOST_DEEP
pack_inside-returns-then-deep-ge-MOST_DEEP t c = unanswered no_memory

pub pack_inside-returns-then-room-eq0 : goal.pack_inside-returns-then-room-eq0
pack_inside-returns-then-room-eq0 t c = unanswered no_memory

pub pack_record-returns-in-Err : goal.pack_record-returns-in-Err
pack_record-returns-in-Err t c = unanswered (only_memory c.in-Err.ensures.err)

pub pack_record-returns-in-Err-parts_of : goal.pack_record-returns-in-Err-parts_of
pack_record-returns-in-Err-parts_of t c = unanswered (only_memory c.in-Err-parts_of.ensures.err)

pub pack_record-returns-in-Ok-pack_parts : goal.pack_record-returns-in-Ok-pack_parts
pack_record-returns-in-Ok-pack_parts t c = record_of _ _ _ _ _ _ _ _ _ _ _ _ c.in-Ok.ensures.ok c.in-Ok-parts_of.ensures.ok c.in-Ok-pack_parts.ensures c.made.ensures

pub pack_record-returns-in-Err-pack_parts : goal.pack_record-returns-in-Err-pack_parts
pack_record-returns-in-Err-pack_parts t c = record_err _ _ _ _ _ _ _ _ _ c.in-Ok-parts_of.ensures.ok c.in-Err-pack_parts.ensures

pub pack_parts-loop-part-init : goal.pack_parts-loop-part-init
pack_parts-loop-part-init t c = subst (Pack_lead known_of c.args.parts.now c.args.work.now.next 0 c.args.work.now.next (steps_of c.args.work.now) (steps_of c.args.work.now)) (sym c.new-atoms.ensures.items) (pack_start known_of _ _ _)

pub pack_parts-loop-part-preserved : goal.pack_parts-loop-part-preserved
pack_parts-loop-part-preserved t c = pack_on known_of _ _ _ _ _ _ _ _ _ _ _ _ c.loop-part-test.true c.loop-part.invariant c.in-Ok.ensures c.in-Ok-push.ensures.items

pub pack_parts-returns : goal.pack_parts-returns
pack_parts-returns t c = pack_end known_of _ _ _ _ _ _ _ c.into_bump_slice.result (omega (arith, c.loop-part-test.false)) c.loop-part.invariant c.into_bump_slice.ensures

pub pack_parts-returns-in-Err : goal.pack_parts-returns-in-Err
pack_parts-returns-in-Err t c = pack_err known_of _ _ _ _ _ _ _ _ _ _ _ _ c.loop-part-test.true c.in-Err.ensures

pub pack_parts-returns-in-Err-push : goal.pack_parts-returns-in-Err-push
pack_parts-returns-in-Err-push t c = unanswered no_memory
