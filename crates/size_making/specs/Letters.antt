-- The sizes of the table that the function types around bind.
use Rattle.std.specs.Prelude.{[], ◌∷◌}
use Rattle.fut_sizes.specs.Primitives.{Frames}
use Rattle.size_making.specs.declared.primitives.Letters.{Letters, Letters-F, fold-Letters}
use Rattle.size_making.specs.declared.primitives.Letters.TheOpen as layer

unfoldable pub letters_form : Letters-F Frames → Frames
letters_form layer.Outside = []
letters_form (layer.Inside f rest) = f.now ∷ rest.now

unfoldable pub letters_of : Letters → Frames
letters_of l = fold-Letters Frames letters_form l
