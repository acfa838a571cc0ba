-- A record's type by its number, and its parts by their labels.
use Rattle.std.specs.Prelude.{◌≡◌, ℕ, List, [], ◌∷◌, length}
use Rattle.fut_types.specs.declared.Head.TheVariants as head
use Rattle.fut_types.specs.Types.{Ty, Made, Tys, none, more}
use Rattle.fut_types.specs.Shapes.{Shapes, HasPart}
use Rattle.fut_typing.specs.Names.{count}
use Rattle.type_rules.specs.declared.demand.Demand.{Demand}
use Rattle.type_rules.specs.declared.demand.Demand.TheVariants as demand

-- t has these parts under these labels
abbrev pub Parts_labelled : Shapes → List ℕ → Ty → Tys → Type 0
Parts_labelled S [] t none = Unit {0}
Parts_labelled S [] t (more u us) = ⊥
Parts_labelled S (l ∷ ls) t none = ⊥
Parts_labelled S (l ∷ ls) t (more u us) = HasPart S l t u × Parts_labelled S ls t us

-- t is made by the head of a record of as many parts as labels, and has these parts under them
pub record Has_parts (S : Shapes) (number : ℕ) (row : List ℕ) (t : Ty) (us : Tys) : Type 0 where
  pub parts : Tys
  pub made : t ≡ Made (head.Record number) parts
  pub all : count parts ≡ length row
  pub labelled : Parts_labelled S row t us

unfoldable pub part_demands : ℕ → List ℕ → List ℕ → List Demand
part_demands id [] ps = []
part_demands id (l ∷ ls) [] = []
part_demands id (l ∷ ls) (p ∷ ps) = demand.Part id l p ∷ part_demands id ls ps
