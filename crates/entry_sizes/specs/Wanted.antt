-- What an entry wants of its arguments (Futhark Language Reference, "Size Types"; Futhark User's Guide, "Entry points"): the
-- types of their elements and the size of each level. An entry's function type binds sizes by a frame at each arrow: first those
-- that its caller chooses, then the value of its argument. Each of them has a number of its own here, in the order of the
-- arrows; by it the sizes of arguments name it.
use Rattle.std.specs.Prelude.{◌≡◌, ℕ, zero, suc, ◌+◌, ◌-◌, nat_le, nat_lt, cond, List, [], ◌∷◌, ◌++◌, length, slice_get, Option, Some, None}
use Rattle.fut_scalar.specs.declared.sizes.ArgType.{ArgType}
use Rattle.fut_scalar.specs.declared.sizes.DataType.{DataType}
use Rattle.fut_scalar.specs.declared.sizes.Dim.{Dim as Wanted_size}
use Rattle.fut_scalar.specs.declared.sizes.Dim.TheVariants as wanted
use Rattle.sized_types.specs.Sizes.{Const, Dim, At, Bound, Size, Level, Fun}
use Rattle.entry_sizes.specs.declared.wanted.Frame.{Frame}
use Rattle.entry_sizes.specs.declared.wanted.WantedErr.{WantedErr}
use Rattle.entry_sizes.specs.declared.wanted.WantedErr.TheVariants as err

-- what stands in a frame: the sizes that are chosen, and behind them the argument's value
abbrev pub in_frame : Option Frame → ℕ → Option Wanted_size
in_frame None i = None
in_frame (Some f) i = cond (nat_le i f.chosen) (Some (wanted.Name (record { 0 = f.first + i }))) None

-- Frames stand in the order of the arrows. The nearest is the last.
abbrev pub frame_at : List Frame → ℕ → Option Frame
frame_at frames j = cond (nat_lt j (length frames)) (slice_get frames (length frames - 1 - j)) None

-- a size that is a number, or that of a size parameter or of an earlier parameter
abbrev pub size_wanted : List Frame → Dim → Option Wanted_size
size_wanted frames (At (Const c)) = Some (wanted.Const c)
size_wanted frames (Bound j i) = in_frame (frame_at frames j) i
size_wanted frames d = None

abbrev pub on_some : {A B : Type 0} → Option A → (A → Option B) → Option B
on_some {A} {B} (Some x) next = next x
on_some {A} {B} None next = None

-- the sizes of so many levels, behind others
abbrev pub sizes_wanted : List Frame → List Wanted_size → (levels : ℕ) → Size → Option (List Wanted_size)
sizes_wanted frames before zero t = Some before
sizes_wanted frames before (suc n) (Level d t) = on_some (size_wanted frames d) (λ size. sizes_wanted frames (before ++ size ∷ []) n t)
sizes_wanted frames before (suc n) t = None

abbrev pub argument : DataType → List Wanted_size → (value : ℕ) → ArgType
argument s dims value = record { elem = s.elem; dims = dims; name = Some (record { 0 = value }) }

-- the arguments that are wanted of these types behind others, where so many numbers are taken
abbrev pub wanted_on : List ArgType → List Frame → (first : ℕ) → List DataType → Size → Option (List ArgType)
wanted_on before frames first [] t = Some before
wanted_on before frames first (s ∷ ss) (Fun k p r) =
    on_some (sizes_wanted (frames ++ record { first = first; chosen = k } ∷ []) [] s.rank p)
    (λ dims. wanted_on (before ++ argument s dims (first + k) ∷ []) (frames ++ record { first = first; chosen = k } ∷ []) (first + k + 1) ss r)
wanted_on before frames first (s ∷ ss) t = None

-- the arguments of these types that an entry of this sized type wants, if all sizes of its parameters are such
abbrev pub wanted_of : List DataType → Size → Option (List ArgType)
wanted_of params t = wanted_on [] [] 0 params t

-- an argument for each parameter: of its type
abbrev pub Are_wanted : List DataType → List ArgType → Type 0
Are_wanted [] [] = Unit {0}
Are_wanted [] (a ∷ more) = ⊥
Are_wanted (s ∷ ss) [] = ⊥
Are_wanted (s ∷ ss) (a ∷ more) = ((a.elem ≡ s.elem) × (length a.dims ≡ s.rank)) × Are_wanted ss more

-- want of memory aside, P is the reason
abbrev pub Because : Type 0 → WantedErr → Type 0
Because P err.Outside = P
Because P err.Memory = Unit {0}
