-- What may be known.
use Rattle.std.specs.Prelude.{Option, option_map}
use Rattle.std.specs.Borrow.{Bor}
use Rattle.unfold.specs.Knowns.{Known}
use Rattle.unfold.specs.declared.known.Known.{Known as Held_known}
use Rattle.unfold.specs.Held.{known_of}

abbrev pub maybe_known : Option Held_known → Option Known
maybe_known = option_map known_of

abbrev pub maybe_held : Option (Bor Held_known) → Option Known
maybe_held = option_map (λ (s : Bor Held_known). known_of s.now)
