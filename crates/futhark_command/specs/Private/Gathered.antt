-- What is answered where the words can't be had as texts.
use Rattle.std.specs.Prelude.{◌≡◌, ℕ, List, Option, Some, IfSome}
use Rattle.futhark_command.specs.Call.{bad_word}
use Rattle.futhark_command.specs.declared.gather.WordsErr.{WordsErr}
use Rattle.futhark_command.specs.declared.gather.WordsErr.TheVariants as err

-- a word is no text, and is the first, or memory ran out
abbrev pub ExplainsWords : Option (List (List ℕ)) → WordsErr → Type 0
ExplainsWords told (err.NotText number) = IfSome told (λ all. bad_word 1 all ≡ Some number)
ExplainsWords told err.Memory = Unit {0}
