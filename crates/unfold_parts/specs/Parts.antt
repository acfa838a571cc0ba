-- Parts of values, by how many there are.
use Rattle.std.specs.Borrow.{Bor}
use Rattle.std.specs.Prelude.{◌≡◌, ℕ, map, get_or, set, List, [], ◌∷◌, Option, Some, None, Result, Ok, Err}
use Rattle.fut_scalar.specs.declared.scalar.Scalar.{Scalar}
use Rattle.fut_ast.specs.Sorts.{Text}
use Rattle.fut_blocks.specs.declared.block.Atom.{Atom}
use Rattle.fut_blocks.specs.declared.block.Atom.TheVariants as atom
use Rattle.fut_meaning.specs.Operations.{named_values}
use Rattle.unfold.specs.Held.{known_of, field_of, fields_known}
use Rattle.unfold.specs.Knowns.{Known, Scalar_known, Record_known, Known_fields, fields, replaced, record_parts}
use Rattle.unfold.specs.Stuck.{No_scalar}
use Rattle.unfold.specs.declared.known.Field.{Field}
use Rattle.unfold.specs.declared.known.Known.{Known as Held_known}
use Rattle.unfold_parts.specs.Refused.{Refused}
use Rattle.unfold_parts.specs.declared.parts.Scalars.{Scalars}
use Rattle.unfold_parts.specs.declared.refusal.Refusal.{Refusal}
use Rattle.unfold_parts.specs.declared.refusal.Refusal.TheVariants.{Lost}

abbrev pub Not_one : List Known → Type 0
Not_one ss = (s : Known) → ss ≡ s ∷ [] → ⊥

abbrev pub Not_one_scalar : List Known → Type 0
Not_one_scalar ss = (u : Atom) → ss ≡ Scalar_known u ∷ [] → ⊥

abbrev pub Not_two_scalars : List Known → Type 0
Not_two_scalars ss = (u w : Atom) → ss ≡ Scalar_known u ∷ Scalar_known w ∷ [] → ⊥

pub data Is_scalar (s : Known) : Option Atom → Type 0 where
  a_scalar : {u : Atom} → s ≡ Scalar_known u → Is_scalar s (Some u)
  no_scalar : No_scalar s → Is_scalar s None

pub data Is_one_scalar (ss : List Known) : Option Atom → Type 0 where
  one_scalar : {u : Atom} → ss ≡ Scalar_known u ∷ [] → Is_one_scalar ss (Some u)
  not_one_scalar : Not_one_scalar ss → Is_one_scalar ss None

pub data Is_two_scalars (ss : List Known) : Option Scalars → Type 0 where
  two_scalars : {p : Scalars} → ss ≡ Scalar_known p.first ∷ Scalar_known p.second ∷ [] → Is_two_scalars ss (Some p)
  not_two_scalars : Not_two_scalars ss → Is_two_scalars ss None

-- a constant, which has no parts
pub data Constant_to (c : Scalar) (ss : List Known) : Result Held_known Refusal → Type 0 where
  constant_to : {s : Held_known} → ss ≡ [] → known_of s ≡ Scalar_known (atom.Constant c) → Constant_to c ss (Ok s)
  not_constant : (ss ≡ [] → ⊥) → Constant_to c ss (Err Lost)

pub data One_to (ss : List Known) : Result Held_known Refusal → Type 0 where
  one_to : {s : Held_known} → ss ≡ known_of s ∷ [] → One_to ss (Ok s)
  not_one_to : Not_one ss → One_to ss (Err Lost)

-- the record of these names and values
pub data Is_record (names : List Text) (ss : List Known) (s : Known) : Type 0 where
  is_record : {known : List (Text × Known)} → named_values names ss ≡ Some known → s ≡ Record_known (fields known) → Is_record names ss s

-- there is none where there are not as many values as names
pub data Recorded_to (names : List Text) (ss : List Known) : Result Held_known Refusal → Type 0 where
  recorded_to : {s : Held_known} → Is_record names ss (known_of s) → Recorded_to names ss (Ok s)
  not_recorded : {r : Refusal} → Refused (named_values names ss ≡ None) r → Recorded_to names ss (Err r)

-- what is known of the fields of these names, where each is there
pub data Fields_to (names : List Text) (fs : Known_fields) : Result (Bor (List Held_known)) Refusal → Type 0 where
  fields_to : {ss : Bor (List Held_known)} → record_parts names fs ≡ Some (map known_of ss.now) → Fields_to names fs (Ok ss)
  not_fields : {r : Refusal} → Refused ((ss : List Known) → record_parts names fs ≡ Some ss → ⊥) r → Fields_to names fs (Err r)

-- where a field of that name stands: the fields with another one of its name there are those with another value of it
pub data Place_to (name : Text) (fs : List Field) : Option ℕ → Type 0 where
  stands_at : {at : ℕ} → ((g : Field) → g.name.now ≡ (get_or fs at g).name.now → fields_known (map field_of (set fs at g)) ≡ replaced name (known_of g.known) (fields_known (map field_of fs))) → Place_to name fs (Some at)
  stands_nowhere : ((s : Known) → replaced name s (fields_known (map field_of fs)) ≡ fields_known (map field_of fs)) → Place_to name fs None
