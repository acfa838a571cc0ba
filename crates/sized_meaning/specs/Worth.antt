-- What sizes are worth: names have values, and numbers are met at nodes.
use Rattle.std.specs.Prelude.{ℕ, zero, suc}
use Rattle.sized_types.specs.Sizes.{Free, Const, Name, Own, Unknown, Slot, Dim, At, Bound}

abbrev pub Worth : Type 0
Worth = Free → ℕ

-- a constant is worth itself
abbrev pub free : Worth → Free → ℕ
free m (Const c) = c
free m (Name b) = m (Name b)
free m (Own n i) = m (Own n i)
free m (Unknown n i) = m (Unknown n i)
free m (Slot i) = m (Slot i)

-- the frames of the function types around, the nearest first
abbrev pub Frames : Type 0
Frames = ℕ → ℕ → ℕ

unfoldable pub push : (ℕ → ℕ) → Frames → Frames
push F φ zero = F
push F φ (suc j) = φ j

abbrev pub no_frames : Frames
no_frames j i = 0

abbrev pub number : Worth → Frames → Dim → ℕ
number m φ (At d) = free m d
number m φ (Bound j i) = φ j i
