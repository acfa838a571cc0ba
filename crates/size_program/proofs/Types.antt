-- The type at a node is that of the definitions.
use Rattle.std.proofs.Common.{◌≡◌, ℕ, zero, suc, ◌<◌, List, [], ◌∷◌, length, get_or, ap, arith}
use Rattle.size_arena.specs.declared.types.TypeTree.{TypeTree}
use Rattle.size_arena.specs.Trees.{type_of}
use Rattle.size_program.specs.Program.{sub_of}

pub type_known : (ts : List TypeTree) (i : ℕ) (d t : TypeTree) → t ≡ get_or ts i d → i < length ts → type_of t ≡ sub_of ts i
type_known [] i d t e l = absurd (omega (arith, l))
type_known (x ∷ ts) zero d t e l = ap type_of e
type_known (x ∷ ts) (suc i) d t e l = type_known ts i d t e (omega (arith, l))

pub ruleset known_types = (type_known)
