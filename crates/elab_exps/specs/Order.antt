-- The order in which a function and its argument stand.
use Rattle.std.specs.Prelude.{Bool, ◌&&◌}
use Rattle.fut_ast.specs.Sorts.{SourceExp}
use Rattle.fut_flat.specs.Sources.{is_before, is_use, placed}
use Rattle.elab_exps.specs.Parts.{source_of}

-- an expression that is the use of a name
unfoldable pub is_named : SourceExp → Bool
is_named e = is_use (source_of e)

-- a function that is a name behind its argument
unfoldable pub is_turned : SourceExp → SourceExp → Bool
is_turned f e = is_named f && is_before (placed e).place (placed f).place
