-- What clauses see of the chunks that are drawn, and of a worker's seat.
use Rattle.std.specs.Prelude.{◌≡◌, ℕ, Bool, List, ◌∷◌, [], ◌++◌, MatchBool}
use Rattle.atomic_table.specs.Seated.{TableId}
use Rattle.chunk_draw.specs.Drawing.{ends}

-- which table it is, how many chunks it has, and how many parts its seats have taken together
pub record DrawTable : Type 0 where
  pub id : TableId
  pub chunks : ℕ
  pub parts : ℕ

-- the table that a seat is of, the chunks of that table, how many parts the seat has, and the numbers that it drew
pub record Drawn : Type 0 where
  pub id : TableId
  pub chunks : ℕ
  pub parts : ℕ
  pub numbers : List ℕ

-- the seat is of that table
abbrev pub IsSeatOf : DrawTable → Drawn → Type 0
IsSeatOf d s = (s.id ≡ d.id) × (s.chunks ≡ d.chunks)

-- the seat drew a number past the chunks, so it has been told that none is left
abbrev pub has_ended : Drawn → Bool
has_ended s = ends s.chunks s.numbers

-- a seat that has ended draws nothing, and any other draws one number
abbrev pub DrawsOne : Drawn → Drawn → Type 0
DrawsOne s t = MatchBool (has_ended s) (t.numbers ≡ s.numbers) ((n : ℕ) × (t.numbers ≡ s.numbers ++ n ∷ []))
