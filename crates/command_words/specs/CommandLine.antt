-- The words of the command line: `run FILE [--entry NAME] [--turns NUMBER]` and `check FILE`. Options and the file stand in
-- any order; behind `--` no word is an option.
use Rattle.std.specs.Prelude.{ℕ, suc, ◌+◌, ◌*◌, ◌-◌, ◌==◌, ◌&&◌, ◌||◌, Bool, true, false, not, cond, nat_le, nat_lt, min, List, [], ◌∷◌, length, Option, Some, None, is_some, option_map, Result, Ok, Err, codes}
use Rattle.std.specs.List.{before_first, after_first, position_or_len}
use Rattle.std.proofs.Math.Dec.{eqb}
use Rattle.std.specs.Str.{bytes_eq}
use Rattle.fut_lexer.specs.Words.{is_name}
use Rattle.command_words.specs.declared.words.Action.{Action}
use Rattle.command_words.specs.declared.words.Action.TheVariants.{Run, Check}
use Rattle.command_words.specs.declared.words.OptionName.{OptionName}
use Rattle.command_words.specs.declared.words.OptionName.TheVariants as named

-- what the next word may be: anything, the value of an option, or, behind `--`, a positional word alone
pub data Next : Type 0 where
  Anything : Next
  Value : OptionName → Next
  Positional : Next

-- what the words have said so far
pub record Said : Type 0 where
  pub next : Next
  pub file : Option (List ℕ)
  pub entry : Option (List ℕ)
  pub turns : Option ℕ

abbrev pub nothing_said : Said
nothing_said = record { next = Anything; file = None; entry = None; turns = None }

abbrev pub with_some : {A B : Type 0} → Option A → (A → Option B) → Option B
with_some None k = None
with_some (Some a) k = k a

-- a word that begins with `-`
abbrev pub is_option : List ℕ → Bool
is_option [] = false
is_option (c ∷ cs) = c == 45

abbrev pub is_end_of_options : List ℕ → Bool
is_end_of_options word = bytes_eq word (codes "--")

-- the name of an option, and the value behind its `=`, where it has one
abbrev pub before_equal : List ℕ → List ℕ
before_equal = before_first (λ b. eqb b 61)

abbrev pub behind_equal : List ℕ → Option (List ℕ)
behind_equal word = cond (nat_lt (position_or_len (λ b. eqb b 61) word) (length word)) (Some (after_first (λ b. eqb b 61) word)) None

-- Digits behind a number, None where another byte is among them. A number past the range of turns is held just past it.
abbrev pub number_on : ℕ → List ℕ → Option ℕ
number_on n [] = Some n
number_on n (d ∷ ds) = cond (nat_le 48 d && nat_le d 57) (number_on (min (10 * n + (d - 48)) 1099511627777) ds) None

abbrev pub in_turns : ℕ → Option ℕ
in_turns n = cond (nat_le 1 n && nat_le n 1099511627776) (Some n) None

-- 1 to 13 digits, in the range of turns
abbrev pub turns_of : List ℕ → Option ℕ
turns_of word = cond (nat_le 1 (length word) && nat_le (length word) 13) (with_some (number_on 0 word) in_turns) None

-- one more word, or None where it breaks a rule

abbrev pub file_word : List ℕ → Said → Option Said
file_word word s = cond (is_some s.file) None (Some (record { next = s.next; file = Some word; entry = s.entry; turns = s.turns }))

abbrev pub value_word : OptionName → List ℕ → Said → Option Said
value_word named.Entry word s = cond (is_name word) (Some (record { next = Anything; file = s.file; entry = Some word; turns = s.turns })) None
value_word named.Turns word s = option_map (λ n. record { next = Anything; file = s.file; entry = s.entry; turns = Some n }) (turns_of word)

-- an option that has not come yet
abbrev pub option_named : List ℕ → Said → Option OptionName
option_named name s =
    cond (bytes_eq name (codes "--entry") && not (is_some s.entry)) (Some named.Entry)
    (cond (bytes_eq name (codes "--turns") && not (is_some s.turns)) (Some named.Turns) None)

abbrev pub named_word : Option OptionName → Option (List ℕ) → Said → Option Said
named_word None value s = None
named_word (Some name) None s = Some (record { next = Value name; file = s.file; entry = s.entry; turns = s.turns })
named_word (Some name) (Some value) s = value_word name value s

-- `run` has options, and `check` has none
abbrev pub option_word : Action → List ℕ → Said → Option Said
option_word Run word s = named_word (option_named (before_equal word) s) (behind_equal word) s
option_word Check word s = None

abbrev pub any_word : Action → List ℕ → Said → Option Said
any_word action word s =
    cond (is_end_of_options word) (Some (record { next = Positional; file = s.file; entry = s.entry; turns = s.turns }))
    (cond (is_option word) (option_word action word s) (file_word word s))

abbrev pub word_next : Next → Action → List ℕ → Said → Option Said
word_next Anything action word s = any_word action word s
word_next (Value name) action word s = value_word name word s
word_next Positional action word s = file_word word s

unfoldable pub one_word : Action → List ℕ → Said → Option Said
one_word action word s = word_next s.next action word s

-- the words are at an end where the file is named and no value is wanted
abbrev pub is_whole : Next → Option (List ℕ) → Bool
is_whole (Value name) file = false
is_whole next file = is_some file

abbrev pub or_refused : ℕ → Option Said → (Said → Result Said ℕ) → Result Said ℕ
or_refused number None next = Err number
or_refused number (Some s) next = next s

-- all words, of which the first has this number, or the number of the first that breaks a rule
abbrev pub words_on : Action → Said → ℕ → List (List ℕ) → Result Said ℕ
words_on action s number [] = cond (is_whole s.next s.file) (Ok s) (Err number)
words_on action s number (word ∷ words) = or_refused number (one_word action word s) (λ more. words_on action more (number + 1) words)

-- what a command does
abbrev pub action_of : List ℕ → Option Action
action_of word = cond (bytes_eq word (codes "run")) (Some Run) (cond (bytes_eq word (codes "check")) (Some Check) None)

-- what is asked for: of `run` the entry and the budget of turns too, `main` and 1,073,741,824 where the words do not say
pub record Command : Type 0 where
  pub action : Action
  pub file : List ℕ
  pub entry : List ℕ
  pub turns : ℕ

abbrev pub or_else : {A : Type 0} → Option A → A → A
or_else None a = a
or_else (Some b) a = b

abbrev pub with_said : Action → Result Said ℕ → Result Command ℕ
with_said action (Ok s) = Ok (record { action = action; file = or_else s.file []; entry = or_else s.entry (codes "main"); turns = or_else s.turns 1073741824 })
with_said action (Err number) = Err number

abbrev pub command_with : Option Action → List (List ℕ) → Result Command ℕ
command_with None words = Err 1
command_with (Some action) words = with_said action (words_on action nothing_said 2 words)

-- what is to be done, or the number of the first word that breaks a rule, from 1
abbrev pub command_of : List (List ℕ) → Result Command ℕ
command_of [] = Err 1
command_of (command ∷ words) = command_with (action_of command) words
