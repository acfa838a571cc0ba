-- What a call of the program does, from the words that it is given.
use Rattle.std.specs.Prelude.{◌≡◌, ◌⊎◌, ℕ, ◌+◌, cond, List, [], ◌∷◌, Option, Some, None, IfSome, Result, Ok, Err, codes}
use Rattle.std.specs.Str.{bytes_eq, is_utf8}
use Rattle.fut_io.specs.Outside.{SinkSeen, Took, TookPart}
use Rattle.futhark_core.specs.Row.{Outside, RunRow}
use Rattle.futhark_core.specs.Comes.{Stage, Then, Ending, Told, Comes, NoFault, Agrees, Complete}
use Rattle.futhark_status.specs.declared.status.Status.{Status}
use Rattle.futhark_status.specs.declared.status.Status.TheVariants.{Done, Usage, WriteFault, Memory}
use Rattle.futhark_command.specs.declared.told.TheConstants.{HELP, VERSION}

-- the number of the first word that is no UTF-8; that of the first of the words is given
abbrev pub bad_word : (number : ℕ) → List (List ℕ) → Option ℕ
bad_word number [] = None
bad_word number (word ∷ words) = cond (is_utf8 word) (bad_word (number + 1) words) (Some number)

-- the text that `--help` or `--version` asks for, as the only word
abbrev pub text_asked : List (List ℕ) → Option (List ℕ)
text_asked [] = None
text_asked (word ∷ []) = cond (bytes_eq word (codes "--help")) (Some HELP.now) (cond (bytes_eq word (codes "--version")) (Some VERSION.now) None)
text_asked (word ∷ other ∷ words) = None

-- ---- each status comes only where its row holds

-- out grew by exactly the text, or by a prefix of it where out has failed
abbrev pub WrittenRow : Status → List ℕ → SinkSeen → SinkSeen → Type 0
WrittenRow Done text old new = Took old new text
WrittenRow WriteFault text old new = TookPart old new text
WrittenRow status text old new = ⊥

-- a text was asked for, and nothing but out was touched
pub record ToldRow (status : Status) (text : List ℕ) (old new : Outside) : Type 0 where
  pub loader : new.loader ≡ old.loader
  pub input : new.input ≡ old.input
  pub out : WrittenRow status text old.out new.out

abbrev pub AskedRow : Option (List ℕ) → Status → List (List ℕ) → Outside → Outside → Type 0
AskedRow (Some text) status words old new = ToldRow status text old new
AskedRow None status words old new = RunRow status words old new

-- what these words ask for was done; where words are told, they are these
pub record Answered (status : Status) (told : Option (List (List ℕ))) (old new : Outside) : Type 0 where
  pub words : List (List ℕ)
  pub given : IfSome told (λ all. all ≡ words)
  pub texts : bad_word 1 words ≡ None
  pub row : AskedRow (text_asked words) status words old new

-- a word is no UTF-8, and nothing was touched
pub record BadWord (status : Status) (told : Option (List (List ℕ))) (old new : Outside) : Type 0 where
  pub number : ℕ
  pub is : status ≡ Usage number
  pub first : IfSome told (λ all. bad_word 1 all ≡ Some number)
  pub quiet : new ≡ old

-- memory ran out before the words were there, and nothing was touched
pub record NoWords (status : Status) (old new : Outside) : Type 0 where
  pub is : status ≡ Memory
  pub quiet : new ≡ old

abbrev pub CallRow : Status → Option (List (List ℕ)) → Outside → Outside → Type 0
CallRow status told old new = Answered status told old new ⊎ (BadWord status told old new ⊎ NoWords status old new)

-- ---- what comes where it is told and nothing fails

-- all words are texts, or one is not
abbrev pub Texts : List (List ℕ) → Stage (List (List ℕ))
Texts words (Ok same) = (bad_word 1 words ≡ None) × (same ≡ words)
Texts words (Err status) = (number : ℕ) × (bad_word 1 words ≡ Some number) × (status ≡ Usage number)

abbrev pub Asked : Option (List ℕ) → List (List ℕ) → Option (List (List ℕ × List ℕ)) → Option (List ℕ) → Stage Ending
Asked (Some text) words files left end = end ≡ Ok Told
Asked None words files left end = Comes words files left end

-- the call with these words over these files and this input comes to an end, or to a status
abbrev pub CallComes : List (List ℕ) → Option (List (List ℕ × List ℕ)) → Option (List ℕ) → Stage Ending
CallComes words files left = Then (Texts words) (λ texts. Asked (text_asked texts) texts files left)

abbrev pub AskedComplete : Option (List ℕ) → Status → List (List ℕ) → Outside → Outside → Type 0
AskedComplete (Some text) status words old new = NoFault old new → status ≡ Done
AskedComplete None status words old new = Complete status words old new

-- Where the call comes to an end by what is told, and no fault rose, its status agrees with that, or memory ran out.
abbrev pub CallComplete : Status → Option (List (List ℕ)) → Outside → Outside → Type 0
CallComplete status told old new = (words : List (List ℕ)) → told ≡ Some words → (end : Result Ending Status) →
    CallComes words old.loader.files old.input.left end → NoFault old new → Agrees status end ⊎ (status ≡ Memory)
