-- Tables by number: what is known of the definitions, and the types of integers without a suffix.
use Rattle.std.specs.Prelude.{◌≡◌, ℕ, List, [], ◌∷◌, Option, None, get_or}
use Rattle.fut_blocks.specs.Meaning.{look}
use Rattle.fut_scalar.specs.declared.scalar.IntType.{IntType}
use Rattle.fut_scalar.specs.declared.scalar.IntType.TheVariants.{I32}
use Rattle.unfold.specs.Held.{known_of}
use Rattle.unfold.specs.Knowns.{Tops}
use Rattle.unfold.specs.declared.known.Known.{Known as Held_known}
use Rattle.unfold_parts.specs.Held.{maybe_known}
use Rattle.unfold_parts.specs.declared.tops.Defined.{Defined, Defined-F, fold-Defined}
use Rattle.unfold_parts.specs.declared.tops.Tops.{Tops as Held_tops}

unfoldable pub defined_form : Defined-F Tops → Tops
defined_form Defined-F.Nothing = []
defined_form (Defined-F.Behind b s ds) = (b.0, known_of s) ∷ ds.now

unfoldable pub definitions_of : Defined → Tops
definitions_of = fold-Defined Tops defined_form

abbrev pub tops_of : Held_tops → Tops
tops_of tops = definitions_of tops.list.now

-- the table has what the list has
pub data Tabled (tops : Tops) (table : List (Option Held_known)) : Type 0 where
  tabled : ((k : ℕ) → maybe_known (get_or table k None) ≡ look tops k) → Tabled tops table

abbrev pub Kept : Held_tops → Type 0
Kept tops = Tabled (tops_of tops) tops.table.items

-- the type of the integer whose node has this number: 32 bits where the table has none
abbrev pub integer_at : List IntType → ℕ → IntType
integer_at ts n = get_or ts n I32
