-- The tables by the numbers of names: what each stands for, and the nodes of type parameters.
use Rattle.std.specs.Prelude.{ℕ, ◌<◌, List, [], ◌∷◌, ◌++◌, slice_index_or, slice_set}
use Rattle.type_graph.specs.Graph.{far}
use Rattle.type_scopes.specs.declared.names.Known.{Known}
use Rattle.type_scopes.specs.declared.names.Known.TheVariants as known
use Rattle.type_scopes.specs.declared.names.Past.{Past}
use Rattle.type_scopes.specs.declared.names.Seat.{Seat}
use Rattle.type_scopes.specs.declared.Inference.{Inference}

unfoldable pub known_at : List Known → ℕ → Known
known_at names b = slice_index_or names b known.Nothing

unfoldable pub with_known : List Known → ℕ → Known → List Known
with_known names b k = slice_set names b k

-- what was noted last is taken back first
unfoldable pub undone : List Past → List Known → List Known
undone [] names = names
undone (p ∷ ps) names = with_known (undone ps names) p.name p.known

-- a name stands for something, and what it stood for is noted
abbrev pub entered : Inference → ℕ → Known → Inference
entered i b k = record i { names = with_known i.names b k; past = i.past ++ record { name = b; known = known_at i.names b } ∷ [] }

-- where a type parameter was met: its node, and the depth of the definition that writes it
abbrev pub no_seat : Seat
no_seat = record { node = far; depth = 0 }

unfoldable pub seat_at : List Seat → ℕ → Seat
seat_at seats n = slice_index_or seats n no_seat

unfoldable pub with_seat : List Seat → ℕ → Seat → List Seat
with_seat seats n s = slice_set seats n s

abbrev pub IsSeated : List Seat → ℕ → Type 0
IsSeated seats n = (seat_at seats n).node < far

abbrev pub seated : Inference → ℕ → Seat → Inference
seated i n s = record i { seats = with_seat i.seats n s }
