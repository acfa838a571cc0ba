-- What comes on err.
use Rattle.std.specs.Prelude.{◌≡◌, ◌⊎◌, ℕ, List, decimal}
use Rattle.std.specs.Fmt.{signed_decimal}
use Rattle.fut_io.specs.Outside.{SinkSeen, Took, TookPart}
use Rattle.futhark_status.specs.Status.{Line, Nothing, Said, Counted, Clashing, Named, Placed, PlacedTwice, Differing, line_of}
use Rattle.futhark_status.specs.declared.line.Line.{Line as HeldLine}
use Rattle.futhark_status.specs.declared.line.Line.TheVariants as held
use Rattle.futhark_status.specs.declared.pieces.Piece.{Piece}
use Rattle.futhark_status.specs.declared.pieces.Piece.TheVariants.{Text, Number, Signed}
use Rattle.futhark_status.specs.declared.status.Status.{Status}
use Rattle.futhark_status.specs.declared.status.Status.TheVariants.{Done}

abbrev pub piece_bytes : Piece → List ℕ
piece_bytes (Text text) = text.now
piece_bytes (Number n) = decimal n
piece_bytes (Signed z) = signed_decimal z

-- what a line that code holds says
abbrev pub line_in : HeldLine → Line
line_in held.Nothing = Nothing
line_in (held.Said said) = Said said.now
line_in (held.Counted before number behind) = Counted before.now number behind.now
line_in (held.Clashing param have want) = Clashing param have want
line_in (held.Named before name behind) = Named before.now name.now behind.now
line_in (held.Placed path place before name behind) = Placed path.now place before.now name.now behind.now
line_in (held.PlacedTwice path place name said other) = PlacedTwice path.now place name.now said.now other
line_in (held.Differing path place left right) = Differing path.now place (piece_bytes left) (piece_bytes right)

-- the line came on err whole, or a prefix of it and a fault of err
abbrev pub Told : SinkSeen → SinkSeen → List ℕ → Type 0
Told old new line = Took old new line ⊎ TookPart old new line

-- what came on err with a status: its line, and after Done nothing
abbrev pub Reported : Status → SinkSeen → SinkSeen → Type 0
Reported Done old new = new ≡ old
Reported status old new = Told old new (line_of status)
