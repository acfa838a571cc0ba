use Rattle.std.proofs.Common.{◌+◌, ◌≤◌, ◌++◌, length, true, false, List}
use Rattle.fut_token.specs.declared.token.Token.{Token}
use Rattle.fut_lexer.specs.declared.lexer.LexErr.{LexErr}
use Rattle.fut_lexer.specs.Positions.{HasRoom, text_start}
use Rattle.fut_lexer.specs.Scanned.{Tokens, Refused}
use Rattle.fut_lexer.proofs.lexer.read.Given as goal

-- what the rest is read into, the text is read into behind the tokens so far
abbrev pub invariant-text : goal.invariant-text
invariant-text l = record {
  goes_on : (ts : List Token) → Tokens l.file l.position l.tight l.joined l.rest ts → Tokens l.file text_start true false l.text (l.tokens ++ ts);
  refuses : (e : LexErr) → Refused l.file l.position l.joined l.rest e → Refused l.file text_start false l.text e;
  room : HasRoom l.position (length l.rest);
  shorter : l._step + length l.rest ≤ length l.text;
}
