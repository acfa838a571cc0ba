-- Environments in which what was entered is right, and what the meaning finds under their names.
use Rattle.std.specs.Prelude.{◌≡◌, ℕ, Bool, true, ◌&&◌, [], ◌∷◌, Some, ℤ}
use Rattle.fut_scalar.specs.declared.place.Place.{Place}
use Rattle.fut_typing.specs.Names.{Names, AreNames}
use Rattle.fut_value.specs.Data.{Shape}
use Rattle.fut_meaning.specs.Accessors.{count_of}
use Rattle.fut_meaning.specs.Found.{Sizing, Found, chosen_shape, is_number}
use Rattle.fut_meaning.specs.Telling.{worth_of, value_shape, found, tells}
use Rattle.fut_meaning.specs.Flats.{FlatValue, FlatEnv}
use Rattle.fut_meaning.specs.Meaning.{row_told, fits_type, Of_literal}
use Rattle.fut_meaning.specs.Values.{base, bind, entered}
use Rattle.sized_types.specs.Sizes.{Free, Const, Name, Dim, At, Bound, Variable, Size, Level, Fun}
use Rattle.sized_types.specs.Standing.{is_known, gives_chosen}
use Rattle.fut_sizes.specs.Rules.{Each_hole}
use Rattle.fut_sizes.specs.Suiting.{Each}
use Rattle.sized_meaning.specs.Worth.{Worth, free, no_frames, push}
use Rattle.sized_meaning.specs.Shapes.{Meant, exactly, Has_shape}
use Rattle.sized_meaning.specs.Fits.{Fits}
use Rattle.sized_meaning.specs.Claims.{FlatLang, calls_of}
use Rattle.sized_meaning.specs.Finding.{Fields_are, One_shape_each, Formed, Reads}

-- in the frame of a function whose caller chooses 0 for each size
abbrev pub none_chosen : ℕ → ℕ
none_chosen i = 0

module _ (N : Names) (τ : Meant) (Z : Sizing) (m : Worth) where
  -- the pattern at node q took a value of its sized type; a name that is bound there to a number is worth it; and a function tells right
  pub record Right_entry (q : ℕ) (v : FlatValue) : Type 0 where
    pub shape : Reads N τ m no_frames (Z.size_at q) (value_shape v)
    pub named : (b : ℕ) (n : ℤ) → Z.home b ≡ q → is_number (Z.size_at q) ≡ true → worth_of v ≡ Some n → count_of n ≡ m (Name b)
    pub told : (k : ℕ) (p r : Size) → Z.size_at q ≡ Fun k p r → is_known p && gives_chosen k r ≡ true → Reads N τ m (push none_chosen no_frames) r (tells Z v (chosen_shape Z.fields p ∷ []))

  abbrev pub All_entered : FlatEnv → Type 0
  All_entered (base u) = Unit {0}
  All_entered (bind b v env) = All_entered env
  All_entered (entered q v env) = Right_entry q v × All_entered env

  -- sizes that are found are what they are worth, and type variables what they stand for
  abbrev pub Right_found : Found → Type 0
  Right_found W = ((d : Free) (n : ℤ) → W.size d ≡ Some n → count_of n ≡ free m d) × ((v : Variable) (h : Shape) → W.type v ≡ Some h → (τ v).shape h)

abbrev pub FoundUnderNamesIsRight : Type 0
FoundUnderNamesIsRight = (N : Names) (τ : Variable → Shape) (Z : Sizing) (m : Worth) (env : FlatEnv) → Fields_are N Z.fields → One_shape_each τ → All_entered N (exactly τ) Z m env → Right_found N (exactly τ) Z m (found Z env)

-- what is found of a size, or it is a constant
abbrev pub Is_found : Found → Dim → Type 0
Is_found W (At (Const c)) = Unit {0}
Is_found W (At d) = (n : ℤ) × (W.size d ≡ Some n)
Is_found W (Bound j i) = ⊥

abbrev pub Type_is_found : Found → Variable → Type 0
Type_is_found W v = (h : Shape) × (W.type v ≡ Some h)

-- an array literal without elements has rows of its element's sized type, where what stands in that is found
abbrev pub LiteralRowsAreRight : Type 0
LiteralRowsAreRight = (N : Names) → AreNames N → (τ : Variable → Shape) (Z : Sizing) (m : Worth) (L : FlatLang) (env : FlatEnv) (lo : ℕ) (d : Dim) (t : Size) → L.told.sizes ≡ Some Z → Z.size_at lo ≡ Level d t → Formed Z.fields t
    → Fields_are N Z.fields → One_shape_each τ → All_entered N (exactly τ) Z m env → Each (λ j x. Is_found (found Z env) x) 0 t → Each_hole (Type_is_found (found Z env)) t
    → Has_shape N (exactly τ) m no_frames t (row_told L (Of_literal env lo))

-- and data of the type's form for which `:>` does not report has the sizes of the type, where they are found
abbrev pub CoercedHasItsSizes : Type 0
CoercedHasItsSizes = (N : Names) → AreNames N → (τ : Variable → Shape) (Z : Sizing) (m other : Worth) (L : FlatLang) (env : FlatEnv) (lo : ℕ) (v : FlatValue) → L.told.sizes ≡ Some Z → Formed Z.fields (Z.size_at lo)
    → Fields_are N Z.fields → One_shape_each τ → All_entered N (exactly τ) Z m env → Each (λ j x. Is_found (found Z env) x) 0 (Z.size_at lo)
    → Has_shape N (exactly τ) other no_frames (Z.size_at lo) (value_shape v) → fits_type L env lo v ≡ true → Has_shape N (exactly τ) m no_frames (Z.size_at lo) (value_shape v)

-- a value of a sized type has its shape
abbrev pub ValuesRead : Type 0
ValuesRead = (N : Names) (τ : Variable → Shape) (Z : Sizing) (L : FlatLang) (is_there : Place → Bool) (tight : Bool) (budget : ℕ) (m : Worth) (t : Size) (v : FlatValue) → Fits N (exactly τ) Z is_there (calls_of L tight budget) m no_frames t v → Reads N (exactly τ) m no_frames t (value_shape v)
