-- Types in which records stand otherwise: each record is turned into a type by its number and its parts, all else stays.
use Rattle.std.proofs.Common.{ℕ, List}
use Rattle.fut_ast.specs.Sorts.{Text}
use Rattle.fut_types.specs.declared.Kind.{Kind}
use Rattle.fut_types.specs.declared.Head.{Head}
use Rattle.fut_types.specs.declared.Head.TheVariants as head
use Rattle.fut_types.specs.Types.{Ty, Var, Made, Tys, none, more, Sub, Kinds, HasKind}
use Rattle.fut_types.specs.Shapes.{HasPart}
use Rattle.fut_typing.specs.Names.{Names, IsRecord}
use Rattle.fut_typing.proofs.Readings.{Reading, read, read_all}

-- what a record of this number with these parts becomes
abbrev pub Turn : Type 0
Turn = ℕ → Tys → Ty

module _ (turn : Turn) where
  abbrev pub turned : Head → Tys → Ty
  turned (head.Record n) ts = turn n ts
  turned h ts = Made h ts

  unfoldable mutual
    pub moved : Ty → Ty
    moved (Var n) = Var n
    moved (Made h ts) = turned h (all_moved ts)

    pub all_moved : Tys → Tys
    all_moved none = none
    all_moved (more t ts) = more (moved t) (all_moved ts)

  -- a reading of that
  abbrev pub sent : Reading → Ty → Ty
  sent I t = read I (moved t)

  abbrev pub all_sent : Reading → Tys → Tys
  all_sent I ts = read_all I (all_moved ts)

  abbrev pub sent_types : Reading → Sub → Sub
  sent_types I a n = sent I (a n)

-- what is said of a type under one numbering is said of the other type under the other
pub record Faithful (M N : Names) (turn : Turn) : Type 0 where
  pub kind : (K : Kinds) (k : Kind) (t : Ty) → HasKind K k t → HasKind K k (moved turn t)
  pub part : (s : Text) (t u : Ty) → HasPart M.shapes (M.label s) t u → HasPart N.shapes (N.label s) (moved turn t) (moved turn u)
  pub row : (fs : List Text) (t : Ty) (us : Tys) → IsRecord M fs t us → IsRecord N fs (moved turn t) (all_moved turn us)
