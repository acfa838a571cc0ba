-- The patterns of a record's fields, and the parts of the values that patterns take apart.
use Rattle.std.specs.Prelude.{ℕ, zero, suc, Bool, true, false, List, map, nat_eq}
use Rattle.fut_scalar.specs.declared.place.BindId.{BindId}
use Rattle.fut_ast.specs.Sorts.{Text}
use Rattle.fut_flat.specs.declared.pat.PatField.{PatField}
use Rattle.fut_flat.specs.declared.prim.Ref.{Ref}
use Rattle.fut_flat.specs.Terms.{Patterns}
use Rattle.fut_flat.specs.Erased.{patterns, pattern_of}
use Rattle.fut_meaning.specs.Knowns.{Known, Data, Known_tuple, Known_record, Knowns, known_none, known_and, count}

abbrev pub field_patterns : List PatField → Patterns Ref BindId
field_patterns fs = patterns (map (λ (f : PatField). pattern_of f.pat) fs)

abbrev pub field_names : List PatField → List Text
field_names = map (λ (f : PatField). f.name.now)

-- a tuple of so many parts, or data
abbrev pub has_parts : ℕ → Known → Bool
has_parts n Data = true
has_parts n (Known_tuple ss) = nat_eq (count ss) n
has_parts n s = false

-- a record, or data
abbrev pub has_fields : Known → Bool
has_fields Data = true
has_fields (Known_record fs) = true
has_fields s = false

-- one of several values; there is data behind the last one
abbrev pub one_of : ℕ → Knowns → Known
one_of zero known_none = Data
one_of (suc k) known_none = Data
one_of zero (known_and s ss) = s
one_of (suc k) (known_and s ss) = one_of k ss

-- a part of a tuple, or of data
abbrev pub part_at : ℕ → Known → Known
part_at k (Known_tuple ss) = one_of k ss
part_at k s = Data
