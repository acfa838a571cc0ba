use Rattle.unfold_reach.proofs.Reaching.{All_noted, Lets_noted}
use Rattle.unfold_reach.proofs.uses.+note.Given as goal

abbrev pub invariant-note_all-loop-exp : goal.invariant-note_all-loop-exp
invariant-note_all-loop-exp l = All_noted l.exps l.fn.named l.named l.exp-index

abbrev pub invariant-note_lets-loop-one : goal.invariant-note_lets-loop-one
invariant-note_lets-loop-one l = Lets_noted l.lets l.fn.named l.named l.one-index
