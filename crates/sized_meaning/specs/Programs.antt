-- What whole programs give: on arguments of its entry's sized type each value is of the sized type of its results, for the sizes of
-- these arguments and of the definitions that are numbers. It is said here of programs whose definitions have one type each.
use Rattle.sized_meaning.specs.There.{There}
use Rattle.std.specs.Prelude.{◌≡◌, ℕ, ◌+◌, ◌≤◌, true, List, [], ◌∷◌, map}
use Rattle.fut_scalar.specs.declared.place.BindId.{BindId}
use Rattle.fut_scalar.specs.declared.report.FailKind.TheVariants as kind
use Rattle.fut_scalar.specs.declared.report.Report.{Report}
use Rattle.fut_flat.specs.declared.prim.Ref.{Ref}
use Rattle.fut_flat.specs.Numbers.{numbers}
use Rattle.fut_flat.specs.Terms.{Bound_pattern}
use Rattle.fut_types.specs.Types.{Sub}
use Rattle.fut_typing.specs.Names.{Names}
use Rattle.fut_typing.specs.Program.{Defined}
use Rattle.fut_value.specs.Data.{Shape}
use Rattle.fut_meaning.specs.Flats.{FlatValue, FlatTops, Named_term, flat_names, flat_tops, Flat_means}
use Rattle.fut_meaning.specs.Found.{is_number}
use Rattle.fut_meaning.specs.Meaning.{plain}
use Rattle.fut_meaning.specs.Outcomes.{Out, Val, Fail}
use Rattle.fut_meaning.specs.Programs.{Seen, seeing, below_names, top, evaluated}
use Rattle.fut_meaning.specs.Telling.{value_shape}
use Rattle.sized_types.specs.Sizes.{Name, Variable, Size, Hole, Open, Level, Built, Fun}
use Rattle.fut_sizes.specs.ProgramRules.{Program_sized}
use Rattle.fut_sizes.specs.Suiting.{Data}
use Rattle.sized_meaning.specs.Worth.{Worth, Frames, no_frames, push}
use Rattle.sized_meaning.specs.Shapes.{Meant, exactly, Has_shape, Has_datum}
use Rattle.sized_meaning.specs.Finding.{One_shape_each}
use Rattle.sized_meaning.specs.Entered.{All_entered}
use Rattle.sized_meaning.specs.Fits.{Gives, word, Is_data, Fits}
use Rattle.sized_meaning.specs.Reports.{Definitions_there}
use Rattle.sized_meaning.specs.Law.{Sound, World, One_type, Plain_term, told, calls}

-- a definition as the rules have it
abbrev pub as_defined : Named_term → Defined
as_defined d = record { name = Bound_pattern d.0; parameters = []; value = d.1 }

-- where definitions have these values
abbrev pub at_tops : World → FlatTops → World
at_tops W tops = record { integer_at = W.integer_at; sizing = W.sizing; tops = tops; tight = W.tight; budget = W.budget; is_there = W.is_there }

-- definitions of one type each, whose terms are of the forms of `Law`; the first number is that of the first name
abbrev pub Plain_definitions : Names → Sub → World → List Named_term → ℕ → Type 0
Plain_definitions N types W [] lo = Unit {0}
Plain_definitions N types W (d ∷ ds) lo = One_type (λ v. true) (W.sizing.size_at lo) × Plain_term N types W d.1 (1 + lo) × Plain_definitions N types W ds (lo + (1 + numbers d.1))

-- the definitions were evaluated to these values, and the name of each that is a number is a size, worth that number
pub record Definitions_are (W : World) (ds : List Named_term) (entry : BindId) (tops : FlatTops) (m : Worth) : Type 0 where
  pub evaluated_to : (words : ℕ) × evaluated (flat_names (told W)) (plain W.tight) W.budget entry.0 (flat_tops 0 ds) [] [] (Val tops) words
  pub numbers : (b : ℕ) (v : FlatValue) → top tops b ≡ Val v → is_number (W.sizing.size_at (W.sizing.home b)) ≡ true → word v ≡ m (Name b)

-- what definitions of these values are entered as, the last one first: data, by the node of its name
abbrev pub and_seen : ℕ → Out FlatValue → Seen Ref BindId (Unit {0}) → Seen Ref BindId (Unit {0})
and_seen q (Val v) seen = seeing q v seen
and_seen q o seen = seen

abbrev pub seen_behind : List Named_term → ℕ → FlatTops → Seen Ref BindId (Unit {0}) → Seen Ref BindId (Unit {0})
seen_behind [] lo tops seen = seen
seen_behind (d ∷ ds) lo tops seen = seen_behind ds (lo + (1 + numbers d.1)) tops (and_seen lo (top tops d.0.0) seen)

-- Definitions are entered right, and so they are for each definition, which begins with those before it. What is found there is
-- right then (`specs/Entered.antt`): an array literal without elements has rows of so many as such a number says.
abbrev pub DefinitionsAreEntered : Type 0
DefinitionsAreEntered = (N : Names) (types : Sub) (τ : Variable → Shape) (W : World) (ds : List Named_term) (entry : BindId) (tops : FlatTops) (words : ℕ)
    → Sound N types W.sizing → One_shape_each τ → Program_sized N types W.sizing.size_at W.sizing.home (map as_defined ds) → Plain_definitions N types W ds 0 → Definitions_there W.is_there ds
    → evaluated (flat_names (told W)) (plain W.tight) W.budget entry.0 (flat_tops 0 ds) [] [] (Val tops) words
    → (m : Worth) × Definitions_are W ds entry tops m × All_entered N (exactly τ) W.sizing m (below_names (seen_behind ds 0 tops []) tt)

module _ (N : Names) (τ : Meant) (W : World) (m : Worth) where
  -- arguments for a function of a sized type, with the sizes that are chosen by them, whatever is met
  abbrev pub Arguments_fit : Frames → Size → List FlatValue → Type 0
  Arguments_fit φ t [] = Unit {0}
  Arguments_fit φ (Hole a) (v ∷ vs) = ⊥
  Arguments_fit φ (Open n a u) (v ∷ vs) = ⊥
  Arguments_fit φ (Level d t) (v ∷ vs) = ⊥
  Arguments_fit φ (Built h ts) (v ∷ vs) = ⊥
  Arguments_fit φ (Fun k p r) (v ∷ vs) = (F : ℕ → ℕ) × (F k ≡ word v) × Fits N τ W.sizing W.is_there (calls W) m (push F φ) p v × ((F' : ℕ → ℕ) → ((i : ℕ) → i ≤ k → F' i ≡ F i) → Arguments_fit (push F' φ) r vs)

  -- what it gives for these arguments, for some sizes that are met
  abbrev pub Result_fits : (φ : Frames) (t : Size) (vs : List FlatValue) → Arguments_fit φ t vs → FlatValue → Type 0
  Result_fits φ t [] a w = Fits N τ W.sizing W.is_there (calls W) m φ t w
  Result_fits φ (Hole a) (v ∷ vs) x w = ⊥
  Result_fits φ (Open n a u) (v ∷ vs) x w = ⊥
  Result_fits φ (Level d t) (v ∷ vs) x w = ⊥
  Result_fits φ (Built h ts) (v ∷ vs) x w = ⊥
  Result_fits φ (Fun k p r) (v ∷ vs) a w = (F' : ℕ → ℕ) × (e : (i : ℕ) → i ≤ k → F' i ≡ a.0 i) × Result_fits (push F' φ) r vs (a.3 F' e) w

-- the arguments fit what definitions have as values and what sizes by themselves are worth
abbrev pub ProgramsHaveTheirSizes : Type 0
ProgramsHaveTheirSizes = (N : Names) (types : Sub) (τ : Variable → Shape) (W : World) (ds : List Named_term) (entry : BindId) (arguments : List FlatValue)
    → Sound N types W.sizing → One_shape_each τ → Program_sized N types W.sizing.size_at W.sizing.home (map as_defined ds) → Plain_definitions N types W ds 0 → Definitions_there W.is_there ds
    → (fit : (tops : FlatTops) (m : Worth) → Definitions_are W ds entry tops m → Arguments_fit N (exactly τ) (at_tops W tops) m no_frames (W.sizing.size_at (W.sizing.home entry.0)) arguments)
    → Gives (There W.is_there) (λ w. (tops : FlatTops) × (m : Worth) × (are : Definitions_are W ds entry tops m) × Result_fits N (exactly τ) (at_tops W tops) m no_frames (W.sizing.size_at (W.sizing.home entry.0)) arguments (fit tops m are) w) (Flat_means (told W) (plain W.tight) W.budget ds entry arguments)

-- ---- arguments that are data, of which sizes tell all

module _ (N : Names) (τ : Meant) (m : Worth) where
  -- data for each parameter, of its sized type where sizes are chosen by it, whatever is met
  abbrev pub Data_arguments : Frames → Size → List FlatValue → Type 0
  Data_arguments φ t [] = Unit {0}
  Data_arguments φ (Hole a) (v ∷ vs) = ⊥
  Data_arguments φ (Open n a u) (v ∷ vs) = ⊥
  Data_arguments φ (Level d t) (v ∷ vs) = ⊥
  Data_arguments φ (Built h ts) (v ∷ vs) = ⊥
  Data_arguments φ (Fun k p r) (v ∷ vs) = (F : ℕ → ℕ) × (F k ≡ word v) × Data p × Is_data (Has_datum N τ m (push F φ) p) v × ((F' : ℕ → ℕ) → ((i : ℕ) → i ≤ k → F' i ≡ F i) → Data_arguments (push F' φ) r vs)

  -- the shape of what is given, for these sizes and some that are met
  abbrev pub Result_shaped : (φ : Frames) (t : Size) (vs : List FlatValue) → Data_arguments φ t vs → Shape → Type 0
  Result_shaped φ t [] a h = Has_shape N τ m φ t h
  Result_shaped φ (Hole b) (v ∷ vs) a h = ⊥
  Result_shaped φ (Open n b u) (v ∷ vs) a h = ⊥
  Result_shaped φ (Level d t) (v ∷ vs) a h = ⊥
  Result_shaped φ (Built k ts) (v ∷ vs) a h = ⊥
  Result_shaped φ (Fun k p r) (v ∷ vs) a h = (F' : ℕ → ℕ) × (e : (i : ℕ) → i ≤ k → F' i ≡ a.0 i) × Result_shaped (push F' φ) r vs (a.4 F' e) h

-- what is left of a function type behind these arguments is data
abbrev pub Gives_data : Size → List FlatValue → Type 0
Gives_data t [] = Data t
Gives_data (Hole a) (v ∷ vs) = ⊥
Gives_data (Open n a u) (v ∷ vs) = ⊥
Gives_data (Level d t) (v ∷ vs) = ⊥
Gives_data (Built h ts) (v ∷ vs) = ⊥
Gives_data (Fun k p r) (v ∷ vs) = Gives_data r vs

-- each value that a program gives for them has the shape that its entry's sized type says
abbrev pub ProgramsGiveTheirShapes : Type 0
ProgramsGiveTheirShapes = (N : Names) (types : Sub) (τ : Variable → Shape) (W : World) (ds : List Named_term) (entry : BindId) (arguments : List FlatValue)
    → Sound N types W.sizing → One_shape_each τ → Program_sized N types W.sizing.size_at W.sizing.home (map as_defined ds) → Plain_definitions N types W ds 0 → Definitions_there W.is_there ds
    → (fit : (tops : FlatTops) (m : Worth) → Definitions_are W ds entry tops m → Data_arguments N (exactly τ) m no_frames (W.sizing.size_at (W.sizing.home entry.0)) arguments) → Gives_data (W.sizing.size_at (W.sizing.home entry.0)) arguments
    → Gives (There W.is_there) (λ w. (tops : FlatTops) × (m : Worth) × (are : Definitions_are W ds entry tops m) × Result_shaped N (exactly τ) m no_frames (W.sizing.size_at (W.sizing.home entry.0)) arguments (fit tops m are) (value_shape w)) (Flat_means (told W) (plain W.tight) W.budget ds entry arguments)

-- and where it reports a size, that is at one of the places where `:>` and `unflatten` stand in its definitions
abbrev pub SizedProgramsReportNoOtherSizes : Type 0
SizedProgramsReportNoOtherSizes = (N : Names) (types : Sub) (τ : Variable → Shape) (W : World) (ds : List Named_term) (entry : BindId) (arguments : List FlatValue)
    → Sound N types W.sizing → One_shape_each τ → Program_sized N types W.sizing.size_at W.sizing.home (map as_defined ds) → Plain_definitions N types W ds 0 → Definitions_there W.is_there ds
    → ((tops : FlatTops) (m : Worth) → Definitions_are W ds entry tops m → Data_arguments N (exactly τ) m no_frames (W.sizing.size_at (W.sizing.home entry.0)) arguments)
    → (r : Report) (words : ℕ) → Flat_means (told W) (plain W.tight) W.budget ds entry arguments (Fail r) words → r.kind ≡ kind.Size → W.is_there r.place ≡ true
