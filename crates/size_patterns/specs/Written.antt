-- A pattern with a written type, and a field's pattern, take a value.
use Rattle.std.specs.Prelude.{◌≡◌, ℕ, true, List, Ok}
use Rattle.std.specs.Borrow.{Bor}
use Rattle.fut_ast.specs.Sorts.{Text}
use Rattle.fut_scalar.specs.declared.place.BindId.{BindId}
use Rattle.fut_flat.specs.Erased.{FlatPattern, FlatType}
use Rattle.fut_types.specs.Types.{Sub}
use Rattle.fut_typing.specs.Names.{Names}
use Rattle.sized_types.specs.Sizes.{Size, renamed}
use Rattle.fut_sizes.specs.Agreeing.{Answer, then_do}
use Rattle.fut_sizes.specs.Matching as matching
use Rattle.fut_sizes.specs.Matching.{data_way, meet, none_opened}
use Rattle.fut_sizes.specs.Scopes.{Taken, as_slot, some_part, taken}
use Rattle.fut_sizes.specs.Sizing.{field_noted, pattern_noted}
use Rattle.fut_sizes.specs.Steps.{Step}
use Rattle.fut_sizes.specs.WrittenSizes.{coerced, has_sizes, part_of}
use Rattle.size_arena.specs.declared.trees.SizeTree.{SizeTree}
use Rattle.size_arena.specs.Trees.{size_of}
use Rattle.size_slots.specs.declared.slots.Found.{Found}
use Rattle.size_slots.specs.Held.{Holds}
use Rattle.size_patterns.specs.declared.taking.Written.{Written}

-- what is found once a value has the sizes that are written
abbrev pub written_taken : Names → List BindId → ℕ → FlatType → Size → matching.Found → Answer matching.Found
written_taken N sizes at e t σ = then_do (meet at data_way at none_opened (renamed (as_slot sizes) (coerced N e t)) none_opened t σ) (λ found. then_do (has_sizes N true at e (coerced N e t)) (λ z. Ok found))

-- the table has what was found, and the value the sizes that are written
pub record Written_in (new : Found) (N : Names) (e : FlatType) (t : Size) (made : Bor SizeTree) (σ : matching.Found) : Type 0 where
  pub found : Holds new σ
  pub size : size_of made.now ≡ coerced N e t

pub record Written_so (N : Names) (sizes : List BindId) (e : FlatType) (t : Size) (w : Written) : Type 0 where
  pub is_coerced : size_of w.coerced.now ≡ coerced N e t
  pub is_slotted : size_of w.slotted.now ≡ renamed (as_slot sizes) (coerced N e t)

-- one field of a record's pattern
abbrev pub field_taken : Names → List BindId → ℕ → Text → FlatPattern → Size → Taken → Answer Taken
field_taken N sizes at f p t k = some_part (part_of N f t) (λ u. taken N sizes at p u k) k

-- and its nodes
abbrev pub one_noted : Names → Sub → Text → FlatPattern → ℕ → Size → Step (Unit {0})
one_noted N types f p q t = field_noted (part_of N f t) (pattern_noted N types p q)
