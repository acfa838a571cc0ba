use Rattle.std.proofs.Common.{◌≡◌, ◌+◌, drop}
use Rattle.command_words.specs.CommandLine.{nothing_said, words_on}
use Rattle.command_words.specs.Held.{said_of}
use Rattle.command_words.proofs.command.said_by.Given as goal

abbrev pub invariant-loop-word : goal.invariant-loop-word
invariant-loop-word l = record {
  counted : l.number ≡ 2 + l.word-index;
  same : words_on l.action (said_of l.said) l.number (drop l.word-index l.words) ≡ words_on l.action nothing_said 2 l.words;
}
