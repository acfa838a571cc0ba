-- What a file is that is read, and why one is not.
use Rattle.std.specs.Prelude.{◌≡◌, ◌≤◌, ◌<◌, ◌⊎◌, ◌++◌, ℕ, suc, List, [], ◌∷◌, length, true, None, Some}
use Rattle.fut_scalar.specs.declared.place.Place.{Place}
use Rattle.fut_token.specs.declared.token.Token.{Token}
use Rattle.fut_ast.specs.Sorts.{Text}
use Rattle.fut_ast.specs.Grammar.{Derives}
use Rattle.fut_ast.specs.LeftOut.{begins_left_out}
use Rattle.fut_ast.specs.Nesting.{Too_deep}
use Rattle.fut_ast.specs.declared.module.Program.{Program}
use Rattle.fut_io.specs.Outside.{LoaderSeen, Loaded, LoadFailed, LoadOver}
use Rattle.fut_lexer.specs.Lexing.{HasTokens, RefusesText}
use Rattle.fut_lexer.specs.declared.lexer.LexErr.TheVariants as lex
use Rattle.fut_parser.specs.Places.{Ends, place_of}
use Rattle.fut_parser.specs.declared.programs.ParseErr.{ParseErr}
use Rattle.fut_parser.specs.declared.programs.ParseErr.TheVariants as parse
use Rattle.elab_scopes.specs.Imports.{Source_file}
use Rattle.unbuilt_tokens.specs.Unbuilt.{first_unbuilt}
use Rattle.source_files.specs.Reading.{All_read, Is_next, imported_paths}
use Rattle.source_files.specs.declared.reading.Unread.{Unread}
use Rattle.source_files.specs.declared.reading.Unread.TheVariants as unread

-- the tokens spell this program and no other, nested at most 200 deep
pub record Spells (tokens : List Token) (program : Program) : Type 0 where
  pub height : ℕ
  pub derives : Derives tokens program height
  pub nested : height ≤ 201
  pub only : (other : Program) (h : ℕ) → Derives tokens other h → other ≡ program

-- where the loader tells this, the file has a text with tokens that spell its program, none of which is of a form that is not built;
-- places in it have this number
pub record Is_file (seen : LoaderSeen) (number : ℕ) (file : Source_file) : Type 0 where
  pub text : List ℕ
  pub loaded : Loaded seen seen file.path text
  pub tokens : List Token
  pub lexed : HasTokens number text tokens
  pub spelled : Spells tokens file.program
  pub built : first_unbuilt tokens ≡ None

-- they are all files, and the places in each have its number, from this one on
pub data Are_files (seen : LoaderSeen) : ℕ → List Source_file → Type 0 where
  no_more : {n : ℕ} → Are_files seen n []
  one_more : {n : ℕ} {f : Source_file} {fs : List Source_file} → Is_file seen n f → Are_files seen (suc n) fs → Are_files seen n (f ∷ fs)

-- the files of the program that begins with the file at this path: 256 at most
pub record Are_read (seen : LoaderSeen) (file : Text) (fs : List Source_file) : Type 0 where
  pub read : All_read file fs
  pub files : Are_files seen 1 fs
  pub few : length fs ≤ 256

-- this is the place of one of the tokens, or of the last one, and of the tokens from there on this holds
abbrev pub Stands_at : ℕ → List Token → Place → (List Token → Type 0) → Type 0
Stands_at number tokens place Holds = (rest : List Token) × Ends tokens rest × (place ≡ place_of number tokens rest) × Holds rest

-- the tokens are no program
pub record Spells_none (number : ℕ) (tokens : List Token) (place : Place) (Holds : List Token → Type 0) : Type 0 where
  pub none : (program : Program) (h : ℕ) → Derives tokens program h → ⊥
  pub stands : Stands_at number tokens place Holds

-- each program that they are is nested too deep
pub record Spells_too_deep (number : ℕ) (tokens : List Token) (place : Place) : Type 0 where
  pub deep : (program : Program) (h : ℕ) → Derives tokens program h → 201 < h
  pub stands : Stands_at number tokens place (Too_deep tokens)

-- why the tokens spell no program that is nested at most 200 deep
abbrev pub Unspelled : ℕ → List Token → ParseErr → Type 0
Unspelled number tokens (parse.Syntax place) = Spells_none number tokens place (λ rest. Unit {0})
Unspelled number tokens (parse.LeftOut place what) = Spells_none number tokens place (λ rest. begins_left_out what rest ≡ true)
Unspelled number tokens (parse.TooDeep place) = Spells_too_deep number tokens place
Unspelled number tokens parse.Memory = ⊥

-- memory ran out, or the tokens spell no such program for this reason
abbrev pub Misspells : ℕ → List Token → ParseErr → Type 0
Misspells number tokens parse.Memory = Unit {0}
Misspells number tokens err = Unspelled number tokens err

-- they spell a program, in which at this place a token of a form stands that is not built, and none before
pub record Is_unbuilt (tokens : List Token) (at : Place) : Type 0 where
  pub program : Program
  pub spelled : Spells tokens program
  pub unbuilt : first_unbuilt tokens ≡ Some at

-- the file at this path has a text, with tokens where it has some
pub record Has_text (old new : LoaderSeen) (path : Text) (Holds : List ℕ → Type 0) : Type 0 where
  pub text : List ℕ
  pub loaded : Loaded old new path text
  pub holds : Holds text

-- Why the file at this path is not read, which would be the file of this number: a load fails, its text is too long, has no tokens,
-- or they spell no program, or one with a form that is not built; or there are 256 files before it.
abbrev pub Is_unread : LoaderSeen → LoaderSeen → ℕ → Text → Unread → Type 0
Is_unread old new number path unread.Load = LoadFailed old new path
Is_unread old new number path unread.TooLong = LoadOver old new path
Is_unread old new number path (unread.Lex lex.Memory) = ⊥
Is_unread old new number path (unread.Lex err) = Has_text old new path (λ text. RefusesText number text err)
Is_unread old new number path (unread.Parse err) = Has_text old new path (λ text. (tokens : List Token) × HasTokens number text tokens × Unspelled number tokens err)
Is_unread old new number path (unread.NotBuilt at) = Has_text old new path (λ text. (tokens : List Token) × HasTokens number text tokens × Is_unbuilt tokens at)
Is_unread old new number path unread.TooMany = (number ≡ 257) × (new ≡ old)
Is_unread old new number path unread.Memory = new ≡ old

-- the file at this path is not read, which a refusal tells of with a path; of want of memory it tells no path
abbrev pub Is_unread_at : LoaderSeen → LoaderSeen → ℕ → Text → Text → Unread → Type 0
Is_unread_at old new number path told unread.Memory = new ≡ old
Is_unread_at old new number path told why = (told ≡ path) × Is_unread old new number path why

-- reading would go on at this path with one file too many, or memory ran out
abbrev pub Is_one_too_many : Text → Text → Unread → Type 0
Is_one_too_many path told unread.Memory = Unit {0}
Is_one_too_many path told unread.TooMany = told ≡ path
Is_one_too_many path told why = ⊥

-- the file at this path has these tokens
pub record Lexed (old new : LoaderSeen) (number : ℕ) (path : Text) (tokens : List Token) : Type 0 where
  pub text : List ℕ
  pub loaded : Loaded old new path text
  pub lexed : HasTokens number text tokens

-- memory ran out, or the tokens spell no program for this reason
abbrev pub Is_unspelled : ℕ → List Token → Unread → Type 0
Is_unspelled number tokens (unread.Parse err) = Unspelled number tokens err
Is_unspelled number tokens (unread.NotBuilt at) = Is_unbuilt tokens at
Is_unspelled number tokens unread.Memory = Unit {0}
Is_unspelled number tokens why = ⊥

-- Reading ends at this path: these files were read before it, fewer than 256 unless that is the reason, it is the next one behind
-- them, and this is why it is not read.
pub record Stops (file : Text) (old new : LoaderSeen) (path : Text) (why : Unread) : Type 0 where
  pub before : List Source_file
  pub files : Are_files old 1 before
  pub few : (length before < 256) ⊎ (why ≡ unread.TooMany)
  pub next : Is_next file before path
  pub unread : Is_unread old new (suc (length before)) path why

-- reading ends at this path, or memory ran out
abbrev pub Ends_reading : Text → LoaderSeen → LoaderSeen → Text → Unread → Type 0
Ends_reading file old new path unread.Memory = new ≡ old
Ends_reading file old new path why = Stops file old new path why

-- the file at this path, of this number, is put behind the files, and what it imports before what is still to be looked at
pub record Goes_on (seen : LoaderSeen) (number : ℕ) (path : Text) (old new : List Source_file) (pending left : List Text) : Type 0 where
  pub file : Source_file
  pub is : Is_file seen number file
  pub at_path : file.path ≡ path
  pub behind : new ≡ old ++ file ∷ []
  pub before : left ≡ imported_paths file ++ pending
