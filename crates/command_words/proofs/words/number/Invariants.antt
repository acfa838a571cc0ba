use Rattle.std.proofs.Common.{◌≡◌, ◌≤◌, drop}
use Rattle.command_words.specs.CommandLine.{number_on}
use Rattle.command_words.proofs.words.number.Given as goal

abbrev pub invariant-loop-digit : goal.invariant-loop-digit
invariant-loop-digit l = record {
  small : l.number ≤ 1099511627777;
  same : number_on l.number (drop l.digit-index l.word) ≡ number_on 0 l.word;
}
