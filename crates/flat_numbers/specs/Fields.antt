-- The patterns of a record's fields.
use Rattle.std.specs.Prelude.{List, map}
use Rattle.fut_scalar.specs.declared.place.BindId.{BindId}
use Rattle.fut_flat.specs.declared.pat.PatField.{PatField}
use Rattle.fut_flat.specs.declared.prim.Ref.{Ref}
use Rattle.fut_flat.specs.Terms.{Patterns}
use Rattle.fut_flat.specs.Erased.{patterns, pattern_of}

abbrev pub field_patterns : List PatField → Patterns Ref BindId
field_patterns fs = patterns (map (λ (f : PatField). pattern_of f.pat) fs)
