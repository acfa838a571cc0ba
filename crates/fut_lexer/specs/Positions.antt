-- Where something stands in a text: how many bytes stand before it, and its line and column.
use Rattle.std.specs.Prelude.{ℕ, ◌+◌, ◌*◌, ◌≤◌, ◌==◌, List, [], ◌∷◌, if◌then◌else◌}
use Rattle.std.specs.Char.{len_utf8}
use Rattle.fut_scalar.specs.declared.place.Place.{Place}
use Rattle.fut_lexer.specs.declared.position.Position.{Position}

-- lines and columns count from 1
abbrev pub text_start : Position
text_start = record { at = 0; line = 1; column = 1 }

-- Behind a character: a line feed begins the next line, every other character takes one column.
abbrev pub behind_char : Position → ℕ → Position
behind_char p c = record { at = p.at + len_utf8 c; line = (if c == 10 then p.line + 1 else p.line); column = (if c == 10 then 1 else p.column + 1) }

-- behind these characters
abbrev pub moved : Position → List ℕ → Position
moved p [] = p
moved p (c ∷ cs) = moved (behind_char p c) cs

abbrev pub place_of : ℕ → Position → Place
place_of file p = record { file = file; line = p.line; column = p.column }

-- n more characters can be counted
abbrev pub HasRoom : Position → ℕ → Type 0
HasRoom p n = (p.at + 4 * n ≤ 16777216) × (p.line + n ≤ 4194305) × (p.column + n ≤ 4194305)
