-- What the positions of opened function types stand for.
use Rattle.std.specs.Prelude.{ℕ, ◌+◌, cond, nat_eq, nat_lt, Option, Some, None}
use Rattle.sized_types.specs.Sizes.{Free, Unknown, Slot, Dim, At}
use Rattle.fut_sizes.specs.Matching.{Opened, none_opened, inside, wanted_frame, found_frame}
use Rattle.size_arena.specs.declared.dims.Free as frees
use Rattle.size_arena.specs.Trees.{free_of}
use Rattle.size_arena.specs.declared.opened.Frame as frames
use Rattle.size_arena.specs.declared.opened.Frame.TheVariants as frame
use Rattle.size_arena.specs.declared.opened.Frames.{Frames, Frames-F, fold-Frames}
use Rattle.size_arena.specs.declared.opened.Frames.TheOpen as layer

-- the argument's value, where it is a name or a constant
abbrev pub value_at : Option frees.Free → Free → Free
value_at (Some d) e = free_of d
value_at None e = e

-- of a function that is applied at n: slots, the argument's value, and what is met there
abbrev pub applied_at : ℕ → ℕ → ℕ → Option frees.Free → ℕ → Dim
applied_at n next k value i = cond (nat_lt i k) (At (Slot (next + i))) (cond (nat_eq i k) (At (value_at value (Unknown n (next + k)))) (At (Unknown n (next + i))))

abbrev pub frame_of : frames.Frame → ℕ → Dim
frame_of (frame.Wanted n next k) = wanted_frame n next k
frame_of (frame.Found n next argument l) = found_frame n next argument l
frame_of (frame.Applied n next k value) = applied_at n next k value

unfoldable pub frames_form : Frames-F Opened → Opened
frames_form layer.Closed = none_opened
frames_form (layer.Inside f rest) = inside (frame_of f) rest.now

unfoldable pub opened_of : Frames → Opened
opened_of f = fold-Frames Opened frames_form f
