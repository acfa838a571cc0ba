-- What the words that code holds have said.
use Rattle.std.specs.Prelude.{ℕ, List, Option, option_map}
use Rattle.std.specs.Borrow.{Bor}
use Rattle.command_words.specs.CommandLine.{Next, Anything, Value, Positional, Said, Command}
use Rattle.command_words.specs.declared.said.Next.{Next as HeldNext}
use Rattle.command_words.specs.declared.said.Next.TheVariants as held
use Rattle.command_words.specs.declared.said.Said.{Said as HeldSaid}
use Rattle.command_words.specs.declared.command.Command.{Command as HeldCommand}

abbrev pub next_of : HeldNext → Next
next_of held.Anything = Anything
next_of (held.Value name) = Value name
next_of held.Positional = Positional

abbrev pub text_in : Option (Bor (List ℕ)) → Option (List ℕ)
text_in = option_map (λ text. text.now)

abbrev pub said_of : HeldSaid → Said
said_of s = record { next = next_of s.next; file = text_in s.file; entry = text_in s.entry; turns = s.turns }

abbrev pub command_in : HeldCommand → Command
command_in c = record { action = c.action; file = c.file.now; entry = c.entry.now; turns = c.turns }
