use Rattle.futhark_command.proofs.GatheredLaws.{Gathered, TextsUpTo}
use Rattle.futhark_command.proofs.gather.all_words.Given as goal

abbrev pub invariant-loop-index : goal.invariant-loop-index
invariant-loop-index g l = record {
  given : Gathered (g.W.Words.told l.words) l.names l.index;
  texts : TextsUpTo l.names l.index;
}
