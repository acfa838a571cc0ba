-- What calls answer that may answer nothing.
use Rattle.std.specs.Prelude.{Option, Some, None}
use Rattle.std.specs.Borrow.{Bor}
use Rattle.fut_blocks.specs.declared.row.Extent.{Extent as Held_extent}
use Rattle.fut_blocks.specs.declared.row.SizeTest.{SizeTest}
use Rattle.fut_blocks.specs.Rows.{Extent, extent_of, Size_test, test_of}

abbrev pub maybe_extent : Option Held_extent → Option Extent
maybe_extent None = None
maybe_extent (Some e) = Some (extent_of e)

abbrev pub maybe_test : Option (Bor SizeTest) → Option Size_test
maybe_test None = None
maybe_test (Some t) = Some (test_of t.now)
