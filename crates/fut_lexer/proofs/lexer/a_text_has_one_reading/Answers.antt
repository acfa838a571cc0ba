use Rattle.fut_lexer.proofs.Readings.{one_reading}
use Rattle.fut_lexer.proofs.lexer.a_text_has_one_reading.Goals as goal

pub returns : goal.returns
returns c = one_reading
