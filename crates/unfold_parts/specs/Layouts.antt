-- Data laid out in components, and new names for it.
use Rattle.std.specs.Prelude.{◌≡◌, ℕ, zero, suc, ◌+◌, ◌++◌, List, [], ◌∷◌, Result, Ok, Err}
use Rattle.std.specs.Borrow.{Bor}
use Rattle.fut_blocks.specs.declared.block.Atom.{Atom}
use Rattle.fut_blocks.specs.Numbered.{Upward}
use Rattle.unfold.specs.Held.{known_of}
use Rattle.unfold.specs.Knowns.{Known, Scalar_known, Tuple_known, Record_known, Function_known, Primitive_known, Knowns, no_known, known_and, Known_fields, no_known_field, known_field_and}
use Rattle.unfold.specs.Shapes.{Shape, Scalar_shape, Tuple_shape, Record_shape, Shapes, no_shape, shape_and, Field_shapes, no_field_shape, field_shape_and, Laid, All_laid, Fields_laid}
use Rattle.unfold.specs.Stuck.{Not_laid, No_data}
use Rattle.unfold.specs.Unfolding.{names}
use Rattle.unfold_parts.specs.Refused.{Refused}
use Rattle.unfold_parts.specs.declared.fresh.Fresh.{Fresh}
use Rattle.unfold_parts.specs.declared.refusal.Refusal.{Refusal}
use Rattle.unfold_parts.specs.declared.refusal.Refusal.TheVariants.{Memory}

-- the shape of data; functions have none, and are not laid out in the one that stands here for them
unfoldable mutual
  pub shape_of : Known → Shape
  shape_of (Scalar_known u) = Scalar_shape
  shape_of (Tuple_known ss) = Tuple_shape (shapes_of ss)
  shape_of (Record_known fs) = Record_shape (field_shapes_of fs)
  shape_of (Function_known ps e lo sc) = Scalar_shape
  shape_of (Primitive_known p at ss) = Scalar_shape

  pub shapes_of : Knowns → Shapes
  shapes_of no_known = no_shape
  shapes_of (known_and s ss) = shape_and (shape_of s) (shapes_of ss)

  pub field_shapes_of : Known_fields → Field_shapes
  field_shapes_of no_known_field = no_field_shape
  field_shapes_of (known_field_and f s fs) = field_shape_and f (shape_of s) (field_shapes_of fs)

pub data Laid_to (h : Shape) (s : Known) : Result (Bor (List Atom)) Refusal → Type 0 where
  laid_to : {us : Bor (List Atom)} → Laid h s us.now [] → Laid_to h s (Ok us)
  not_laid : {r : Refusal} → Refused (Not_laid h s) r → Laid_to h s (Err r)

-- one more component
pub data Put (u : Atom) (before after : List Atom) : Result (Unit {0}) Refusal → Type 0 where
  put : {x : Unit {0}} → after ≡ before ++ u ∷ [] → Put u before after (Ok x)
  not_put : Put u before after (Err Memory)

-- there are no such components
abbrev pub None_are : (List Atom → List Atom → Type 0) → Type 0
None_are Is = (us rest : List Atom) → Is us rest → ⊥

-- components behind others, whatever comes behind them
pub data Behind (Is : List Atom → List Atom → Type 0) (before after : List Atom) : Result (Unit {0}) Refusal → Type 0 where
  behind : {x : Unit {0}} (us : List Atom) → after ≡ before ++ us → ((rest : List Atom) → Is (us ++ rest) rest) → Behind Is before after (Ok x)
  not_behind : {r : Refusal} → Refused (None_are Is) r → Behind Is before after (Err r)

abbrev pub Laid_behind : Shape → Known → List Atom → List Atom → Result (Unit {0}) Refusal → Type 0
Laid_behind h s = Behind (Laid h s)

abbrev pub All_laid_behind : Shapes → Knowns → List Atom → List Atom → Result (Unit {0}) Refusal → Type 0
All_laid_behind hs ss = Behind (All_laid hs ss)

abbrev pub Fields_laid_behind : Field_shapes → Known_fields → List Atom → List Atom → Result (Unit {0}) Refusal → Type 0
Fields_laid_behind hs fs = Behind (Fields_laid hs fs)

-- ---- new names

-- so many numbers from one on
abbrev pub numbers_from : ℕ → ℕ → List ℕ
numbers_from n zero = []
numbers_from n (suc k) = n ∷ numbers_from (suc n) k

-- the components are so many names from one on, whatever comes behind them
pub data Has_names (Is : List Atom → List Atom → Type 0) (n next : ℕ) : Type 0 where
  has_names : (k : ℕ) → next ≡ n + k → ((rest : List Atom) → Is (names (numbers_from n k) ++ rest) rest) → Has_names Is n next

-- functions have no components
pub data Renewed (like : Known) (n next : ℕ) : Result Fresh Refusal → Type 0 where
  renewed : {r : Fresh} → Upward n r.names.now next → Laid (shape_of like) (known_of r.known) (names r.names.now) [] → Renewed like n next (Ok r)
  not_renewed : {r : Refusal} → Refused (No_data like) r → Renewed like n next (Err r)
