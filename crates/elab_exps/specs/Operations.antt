-- Operations on parts that are evaluated one after another.
use Rattle.std.specs.Prelude.{◌≡◌, ◌<◌, ℕ, max, List, [], ◌∷◌, map}
use Rattle.fut_ast.specs.Sorts.{SourceExp}
use Rattle.fut_ast.specs.declared.node.Label.{Label}
use Rattle.fut_tree.specs.declared.exp.Exp.TheDeep.{size-Exp}
use Rattle.fut_tree.specs.Names.{all}
use Rattle.fut_flat.specs.declared.act.Act.{Act}
use Rattle.fut_flat.specs.Erased.{operation_of}
use Rattle.fut_flat.specs.Sources.{Spelled, placed, terms}
use Rattle.fut_flat.specs.Terms.{Operation, Strict, Terms}
use Rattle.elab_exps.specs.declared.operations.Operation.{Operation as HeldOperation}
use Rattle.elab_exps.specs.Parts.{source_of}
use Rattle.elab_exps.specs.Plain.{Plain}

-- the size of the biggest
abbrev pub biggest : List SourceExp → ℕ
biggest [] = 0
biggest (e ∷ es) = max (size-Exp e) (biggest es)

-- this operation on these parts
pub data On (o : Operation Spelled Label) (es : List SourceExp) (f : HeldOperation) : Type 0 where
  on : Plain o (operation_of f.act) → all f.parts.now ≡ es → On o es f

-- what the expression does with its parts
pub data Acts (e : SourceExp) (a : Act) : Type 0 where
  acts : {o : Operation Spelled Label} {ts : Terms Spelled Label} → source_of e ≡ Strict o e.mark ts → Plain o (operation_of a) → Acts e a

-- its parts, each of which is smaller than it
pub data Parted (e : SourceExp) (es : List SourceExp) : Type 0 where
  parted : {o : Operation Spelled Label} → source_of e ≡ Strict o e.mark (terms (map placed es)) → biggest es < size-Exp e → Parted e es

-- both
pub data Operates (e : SourceExp) (f : HeldOperation) : Type 0 where
  operates : {o : Operation Spelled Label} → source_of e ≡ Strict o e.mark (terms (map placed (all f.parts.now))) → Plain o (operation_of f.act) → biggest (all f.parts.now) < size-Exp e → Operates e f
