-- Which values are of a type. Each row of an array looks as the array says that its rows do. A function is of a type where it
-- takes each value of its parameter's type to an outcome of its result's: to a value of that type or to a report, and never to
-- what goes wrong; and so it stays where further definitions are evaluated. A total function has some outcome for each.
use Rattle.std.specs.Prelude.{◌≡◌, ◌↔◌, ℕ, ◌<◌, List, [], ◌∷◌, Bool, true, Some}
use Rattle.std.specs.List.{Contains}
use mathlib.Core.Logic.{◌⊎◌}
use Rattle.fut_scalar.specs.declared.place.BindId.{BindId}
use Rattle.fut_scalar.specs.declared.scalar.ScalarType.{ScalarType}
use Rattle.fut_scalar.specs.declared.scalar.ScalarType.TheVariants as types
use Rattle.fut_scalar.specs.declared.scalar.Scalar.{Scalar}
use Rattle.fut_scalar.specs.declared.scalar.Scalar.TheVariants as scalar
use Rattle.fut_ast.specs.Sorts.{Text}
use Rattle.fut_flat.specs.declared.prim.Ref.{Ref}
use Rattle.fut_types.specs.declared.Head.TheVariants as head
use Rattle.fut_types.specs.Types.{Ty, Var, Made, Tys, none, more}
use Rattle.fut_typing.specs.Names.{Names, count}
use Rattle.fut_meaning.specs.Found.{Told}
use Rattle.fut_meaning.specs.Outcomes.{Val}
use Rattle.fut_meaning.specs.Values.{Array_value, Scalar_value, Tuple_value, Record_value, Values, no_value, value_and, Fields, no_field, field_and, field, is_before, Call}
use Rattle.fut_value.specs.Data.{Datums, Shape}
use Rattle.fut_meaning.specs.Datums.{as_value}
use Rattle.fut_meaning.specs.Meaning.{Lang, Ever}
use Rattle.fut_meaning.specs.Programs.{top}
use Rattle.fut_meaning.specs.Flats.{FlatValue, FlatTops, FlatMode, flat_names}
use Rattle.fut_meaning.specs.Claims.{Correct}
use Rattle.type_soundness.specs.Likeness.{All_datums, Like}

abbrev pub FlatValues : Type 0
FlatValues = Values Ref BindId (Unit {0})

abbrev pub FlatFields : Type 0
FlatFields = Fields Ref BindId (Unit {0})

-- the definitions that have been evaluated are among these, with the same values
abbrev pub Grows : FlatTops → FlatTops → Type 0
Grows tops tops' = (k : ℕ) (v : FlatValue) → top tops k ≡ Val v → top tops' k ≡ Val v

abbrev pub Is_scalar : ScalarType → Scalar → Type 0
Is_scalar (types.Int t) (scalar.Int u n) = u ≡ t
Is_scalar (types.Int t) (scalar.Bool b) = ⊥
Is_scalar types.Bool (scalar.Int u n) = ⊥
Is_scalar types.Bool (scalar.Bool b) = Unit {0}

abbrev pub On_scalar : (Scalar → Type 0) → FlatValue → Type 0
On_scalar P (Scalar_value s) = P s
On_scalar P v = ⊥

abbrev pub On_tuple : (FlatValues → Type 0) → FlatValue → Type 0
On_tuple P (Tuple_value vs) = P vs
On_tuple P v = ⊥

abbrev pub On_record : (FlatFields → Type 0) → FlatValue → Type 0
On_record P (Record_value fs) = P fs
On_record P v = ⊥

abbrev pub On_array : (Shape → Datums → Type 0) → FlatValue → Type 0
On_array P (Array_value row ds) = P row ds
On_array P v = ⊥

abbrev pub No_value : FlatValues → Type 0
No_value no_value = Unit {0}
No_value (value_and v vs) = ⊥

abbrev pub First_value : (FlatValue → Type 0) → (FlatValues → Type 0) → FlatValues → Type 0
First_value P Q no_value = ⊥
First_value P Q (value_and v vs) = P v × Q vs

-- the fields have this name among theirs; all their names are behind it; they stand in order of their names
abbrev pub Is_key : Text → FlatFields → Type 0
Is_key s no_field = ⊥
Is_key s (field_and f v fs) = (s ≡ f) ⊎ Is_key s fs

abbrev pub All_behind : Text → FlatFields → Type 0
All_behind s no_field = Unit {0}
All_behind s (field_and f v fs) = (is_before s f ≡ true) × All_behind s fs

abbrev pub In_order : FlatFields → Type 0
In_order no_field = Unit {0}
In_order (field_and f v fs) = All_behind f fs × In_order fs

-- a tuple is no wider than what a machine counts
abbrev pub widest : ℕ
widest = 18446744073709551616

-- a record's fields are those of the labels, in order of their names
pub record Are_keys (N : Names) (labels : List ℕ) (fs : FlatFields) : Type 0 where
  pub ordered : In_order fs
  pub same : (s : Text) → Is_key s fs ↔ Contains labels (N.label s)

abbrev pub lang : Told → FlatTops → Lang Ref BindId (Unit {0})
lang T tops = (flat_names T).lang tops

module _ (N : Names) (T : Told) (M : FlatMode) (budget : ℕ) (total : Bool) where
  -- the values of a type, where these definitions have been evaluated
  unfoldable mutual
    pub Fits : Ty → FlatTops → FlatValue → Type 0
    Fits (Var n) tops v = ⊥
    Fits (Made (head.Scalar s) ts) tops v = On_scalar (Is_scalar s) v
    Fits (Made head.Array none) tops v = ⊥
    Fits (Made head.Array (more t none)) tops v = On_array (λ row ds. All_datums (λ d. Fits t tops (as_value d) × Like row d) ds) v
    Fits (Made head.Array (more t (more u ts))) tops v = ⊥
    Fits (Made head.Tuple ts) tops v = (count ts < widest) × On_tuple (All_fit ts tops) v
    Fits (Made (head.Record n) ts) tops v = On_record (λ fs. Are_keys N (N.shapes.fields n) fs × Fields_fit (N.shapes.fields n) ts tops fs) v
    Fits (Made head.Fun none) tops v = ⊥
    Fits (Made head.Fun (more t none)) tops v = ⊥
    Fits (Made head.Fun (more t (more u none))) tops f = (tops' : FlatTops) → Grows tops tops' → (v : FlatValue) → Fits t tops' v → Correct total (Fits u tops') (Ever (lang T tops') M budget (Call f v))
    Fits (Made head.Fun (more t (more u (more w ts)))) tops v = ⊥
    Fits (Made (head.Rigid n k) ts) tops v = ⊥
    Fits (Made (head.Abstract n d) ts) tops v = ⊥

    pub All_fit : Tys → FlatTops → FlatValues → Type 0
    All_fit none tops vs = No_value vs
    All_fit (more t ts) tops vs = First_value (Fits t tops) (All_fit ts tops) vs

    -- each part is the field of its label's name
    pub Fields_fit : List ℕ → Tys → FlatTops → FlatFields → Type 0
    Fields_fit [] none tops fs = Unit {0}
    Fields_fit [] (more t ts) tops fs = ⊥
    Fields_fit (l ∷ ls) none tops fs = ⊥
    Fields_fit (l ∷ ls) (more t ts) tops fs = ((s : Text) × (v : FlatValue) × (N.label s ≡ l) × (field s fs ≡ Some v) × Fits t tops v) × Fields_fit ls ts tops fs
