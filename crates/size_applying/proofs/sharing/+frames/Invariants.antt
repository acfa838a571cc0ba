use Rattle.size_applying.proofs.SharingForms.{So_within}
use Rattle.size_applying.proofs.sharing.+frames.Given as goal

abbrev pub invariant-frames_around_all-loop-part : goal.invariant-frames_around_all-loop-part
invariant-frames_around_all-loop-part l = So_within l.parts l.most l.part-index
