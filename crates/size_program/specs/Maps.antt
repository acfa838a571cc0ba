-- What a map knows of each name.
use Rattle.std.specs.Prelude.{ℕ, ◌/◌, ◌%◌, ◌-◌, nat_eq, cond, Option, Some, None}
use Rattle.std.specs.Borrow.{Bor}
use Rattle.size_program.specs.declared.maps.Known.{Known}
use Rattle.size_program.specs.declared.maps.NumberMap.{NumberMap, NumberMap-F, fold-NumberMap}
use Rattle.size_program.specs.declared.maps.NumberMap.TheOpen as layer

abbrev pub Entries : Type 0
Entries = ℕ → Option (Bor Known)

-- what is known of 0, and where odd numbers and all others are looked up
abbrev pub forked : Option (Bor Known) → Entries → Entries → Entries
forked own odd even n = cond (nat_eq n 0) own (cond (nat_eq (n % 2) 1) (odd (n / 2)) (even (n / 2 - 1)))

unfoldable pub map_form : NumberMap-F Entries → Entries
map_form layer.Empty n = None
map_form (layer.Fork own odd even) n = forked own odd.now even.now n

unfoldable pub entry_of : NumberMap → Entries
entry_of m = fold-NumberMap Entries map_form m

-- the same with another value at a number
abbrev pub with_entry : ℕ → Bor Known → Entries → Entries
with_entry n t before m = cond (nat_eq m n) (Some t) (before m)
