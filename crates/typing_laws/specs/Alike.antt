-- Types under two numberings: the number of a record and the order of its parts may differ.
use Rattle.std.specs.Prelude.{◌≡◌}
use Rattle.fut_types.specs.declared.Head.TheVariants as head
use Rattle.fut_types.specs.Types.{Ty, Var, Made, Tys, none, more}

-- no record stands in it
abbrev mutual
  pub Plain : Ty → Type 0
  Plain (Var v) = Unit {0}
  Plain (Made (head.Record r) ts) = ⊥
  Plain (Made h ts) = All_plain ts

  pub All_plain : Tys → Type 0
  All_plain none = Unit {0}
  All_plain (more t ts) = Plain t × All_plain ts

-- they are the same if no record stands in one of them
pub record Alike (t u : Ty) : Type 0 where
  pub there : Plain t → u ≡ t
  pub back : Plain u → t ≡ u

-- neither a variable nor a record stands in it
abbrev mutual
  pub Settled : Ty → Type 0
  Settled (Var v) = ⊥
  Settled (Made (head.Record r) ts) = ⊥
  Settled (Made h ts) = All_settled ts

  pub All_settled : Tys → Type 0
  All_settled none = Unit {0}
  All_settled (more t ts) = Settled t × All_settled ts
