-- What is told of a part of a shape, or else what says where it stands.
use Rattle.std.specs.Prelude.{Option, Some, None}
use Rattle.std.specs.Borrow.{Bor}
use Rattle.fut_blocks.specs.declared.row.Extent.{Extent as Held_extent}
use Rattle.fut_blocks.specs.declared.row.RowShape.{RowShape}
use Rattle.fut_blocks.specs.Rows.{Row, Extent, extent_of, row_of}
use Rattle.unfold.specs.Telling.{as_many}

abbrev pub row_or : Row → Option (Bor RowShape) → Row
row_or otherwise None = otherwise
row_or otherwise (Some r) = row_of r.now

-- as many as an extent says
abbrev pub length_or : Extent → Option Held_extent → Extent
length_or otherwise None = otherwise
length_or otherwise (Some e) = as_many (extent_of e)
