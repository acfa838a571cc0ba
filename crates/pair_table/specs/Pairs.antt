-- What clauses see of a table of pairs and of a worker's seat, and what its operations make of words.
use Rattle.std.specs.Prelude.{◌≡◌, ℕ, ◌+◌, ◌%◌, ◌^◌, max, min, bit_and, bit_or, bit_xor, List}
use Rattle.atomic_table.specs.Seated.{TableId}
use Rattle.phase_model.specs.declared.Pair.{Pair}
use Rattle.phase_model.specs.Kept.{stores}
use Rattle.pair_table.specs.declared.operation.Operation.{Operation}
use Rattle.pair_table.specs.declared.operation.Operation.TheVariants.{Store, Add, And, Or, Xor, Max, Min}

-- what a step makes of a word and a pair's
abbrev pub op_of : Operation → ℕ → ℕ → ℕ
op_of Store = stores
op_of Add = λ old x. (old + x) % 2 ^ 64
op_of And = bit_and
op_of Or = bit_or
op_of Xor = bit_xor
op_of Max = max
op_of Min = min

-- which table it is, its operation, the words that it was opened with, and how many parts its seats have taken together
pub record Raced : Type 0 where
  pub id : TableId
  pub operation : Operation
  pub old : List ℕ
  pub parts : ℕ

-- the table that a seat is of, how many parts the seat has, and the pairs that it did
pub record Did : Type 0 where
  pub id : TableId
  pub parts : ℕ
  pub pairs : List Pair

-- the seat is of that table
abbrev pub IsSeatOf : Raced → Did → Type 0
IsSeatOf t s = s.id ≡ t.id
