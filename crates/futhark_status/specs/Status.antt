-- The number of each status, which is the program's exit status, and its line on err.
use Rattle.std.specs.Prelude.{ℕ, ℤ, List, [], ◌∷◌, ◌==◌, cond, codes, decimal, flat_map}
use Rattle.std.specs.Fmt.{signed_decimal}
use Rattle.fut_scalar.specs.declared.place.Place.{Place}
use Rattle.fut_lexer.specs.declared.lexer.LexErr.{LexErr}
use Rattle.fut_lexer.specs.declared.lexer.LexErr.TheVariants as lex
use Rattle.fut_ast.specs.LeftOut.{name_of}
use Rattle.fut_parser.specs.declared.programs.ParseErr.{ParseErr}
use Rattle.fut_parser.specs.declared.programs.ParseErr.TheVariants as parse
use Rattle.fut_scalar.specs.declared.report.FailKind.{FailKind}
use Rattle.fut_scalar.specs.declared.report.FailKind.TheVariants as kind
use Rattle.front.specs.declared.refusals.NameErr.{NameErr}
use Rattle.front.specs.declared.refusals.NameErr.TheVariants as names
use Rattle.typed_programs.specs.declared.typed.TypeErr.{TypeErr}
use Rattle.typed_programs.specs.declared.typed.TypeErr.TheVariants as types
use Rattle.sized_programs.specs.declared.misfit.Misfit.{Misfit}
use Rattle.sized_programs.specs.declared.misfit.Misfit.TheVariants as misfit
use Rattle.sized_programs.specs.declared.misfit.Shown.{Shown}
use Rattle.sized_programs.specs.declared.misfit.Shown.TheVariants as shown
use Rattle.unique_programs.specs.declared.misuse.Misuse.{Misuse}
use Rattle.unique_programs.specs.declared.misuse.Misuse.TheVariants as misuse
use Rattle.futhark_status.specs.declared.status.EntryErr.{EntryErr}
use Rattle.futhark_status.specs.declared.status.EntryErr.TheVariants as entry
use Rattle.value_text.specs.declared.reading.TextErr.{TextErr}
use Rattle.value_text.specs.declared.reading.TextErr.TheVariants as text
use Rattle.futhark_status.specs.declared.status.Why.{Why}
use Rattle.futhark_status.specs.declared.status.Why.TheVariants as why
use Rattle.futhark_status.specs.declared.status.LimitKind.{LimitKind}
use Rattle.futhark_status.specs.declared.status.LimitKind.TheVariants as limit
use Rattle.futhark_status.specs.declared.status.Status.{Status}
use Rattle.futhark_status.specs.declared.status.Status.TheVariants.{Done, Usage, LoadFault, Text, Names, Types, Sizes, Unique, Entry, Limit, ReadFault, Input, Failure, Turns, WriteFault, Memory}

abbrev pub code_of : Status → ℕ
code_of Done = 0
code_of (Usage word) = 1
code_of (LoadFault refused) = 2
code_of (Text refused) = 3
code_of (Names refused) = 4
code_of (Types refused) = 5
code_of (Sizes refused) = 6
code_of (Unique refused) = 7
code_of (Entry err name) = 8
code_of (Limit what) = 9
code_of ReadFault = 10
code_of (Input err) = 11
code_of (Failure report path) = 12
code_of (Turns report path) = 13
code_of WriteFault = 14
code_of Memory = 15

-- a line without its beginning `futhark: ` and the newline at its end
pub data Line : Type 0 where
  -- no line at all
  Nothing : Line
  Said : List ℕ → Line
  -- a number between texts
  Counted : List ℕ → ℕ → List ℕ → Line
  -- the size of a parameter that is another one than is wanted
  Clashing : (param have : ℕ) → (want : ℤ) → Line
  -- a text between texts
  Named : List ℕ → List ℕ → List ℕ → Line
  -- what is said of a place of a file, with a name inside
  Placed : List ℕ → Place → List ℕ → List ℕ → List ℕ → Line
  -- what is said of a name at a place of a file, with another place of it behind
  PlacedTwice : (path : List ℕ) → Place → (name said : List ℕ) → Place → Line
  -- two sizes that differ at a place of a file
  Differing : (path : List ℕ) → Place → (left right : List ℕ) → Line

-- parts one after another
unfoldable pub joined : List (List ℕ) → List ℕ
joined parts = flat_map (λ part. part) parts

abbrev pub beginning : List ℕ
beginning = codes "futhark: "

abbrev pub newline : List ℕ
newline = codes "\n"

-- what stands in the prelude is told by its name
abbrev pub path_at : Place → List ℕ → List ℕ
path_at place path = cond (place.file == 0) (codes "prelude") path

abbrev pub bytes_of : Line → List ℕ
bytes_of Nothing = joined []
bytes_of (Said said) = joined (beginning ∷ said ∷ newline ∷ [])
bytes_of (Counted before number behind) = joined (beginning ∷ before ∷ decimal number ∷ behind ∷ newline ∷ [])
bytes_of (Clashing param have want) =
    joined (beginning ∷ codes "input: size of parameter " ∷ decimal param ∷ codes ": have " ∷ decimal have ∷ codes ", want " ∷ signed_decimal want ∷ newline ∷ [])
bytes_of (Named before name behind) = joined (beginning ∷ before ∷ name ∷ behind ∷ newline ∷ [])
bytes_of (Placed path place before name behind) =
    joined (beginning ∷ path_at place path ∷ codes ":" ∷ decimal place.line ∷ codes ":" ∷ decimal place.column ∷ codes ": " ∷ before ∷ name ∷ behind ∷ newline ∷ [])
bytes_of (PlacedTwice path place name said other) =
    joined (beginning ∷ path_at place path ∷ codes ":" ∷ decimal place.line ∷ codes ":" ∷ decimal place.column ∷ codes ": " ∷ name ∷ said ∷ decimal other.line ∷ codes ":" ∷ decimal other.column ∷ newline ∷ [])
bytes_of (Differing path place left right) =
    joined (beginning ∷ path_at place path ∷ codes ":" ∷ decimal place.line ∷ codes ":" ∷ decimal place.column ∷ codes ": sizes differ: " ∷ left ∷ codes " and " ∷ right ∷ newline ∷ [])

-- without a name
abbrev pub at_place : List ℕ → Place → List ℕ → Line
at_place path place said = Placed path place said [] []

abbrev pub lex_line : LexErr → List ℕ → Line
lex_line (lex.NotUtf8 place) path = at_place path place (codes "not UTF-8 text")
lex_line (lex.BadToken place) path = at_place path place (codes "bad token")
lex_line (lex.Float place) path = at_place path place (codes "float is left out")
lex_line lex.Memory path = Nothing

abbrev pub parse_line : ParseErr → List ℕ → Line
parse_line (parse.Syntax place) path = at_place path place (codes "syntax")
parse_line (parse.LeftOut place what) path = Placed path place [] (name_of what) (codes " is left out")
parse_line (parse.TooDeep place) path = Nothing
parse_line parse.Memory path = Nothing

abbrev pub names_line : NameErr → List ℕ → Line
names_line (names.Unbound name place) path = Placed path place [] name (codes " is not bound")
names_line (names.Twice name place) path = Placed path place [] name (codes " is bound twice")
names_line (names.NoMember name place) path = Placed path place (codes "no member ") name []
names_line (names.SealMissing name place) path = Placed path place (codes "the seal lacks ") name []
names_line (names.TooManyApplications place) path = Nothing

abbrev pub types_line : TypeErr → List ℕ → Line
types_line (types.NoType place) path = at_place path place (codes "no type")
types_line (types.FunctionPlace place) path = at_place path place (codes "a function stands where data must")
types_line (types.Ambiguous place) path = at_place path place (codes "ambiguous type")
types_line types.Memory path = Nothing

-- a size is shown as its number, its name, or `unknown`
abbrev pub size_text : Shown → List ℕ
size_text (shown.Number n) = decimal n
size_text (shown.Named name) = name
size_text shown.Unknown = codes "unknown"

abbrev pub misfit_line : Misfit → List ℕ → Line
misfit_line (misfit.SizesDiffer left right place) path = Differing path place (size_text left) (size_text right)
misfit_line (misfit.Escapes place) path = at_place path place (codes "a size escapes")
misfit_line (misfit.Irregular place) path = at_place path place (codes "irregular")
misfit_line misfit.Memory path = Nothing

abbrev pub misuse_line : Misuse → List ℕ → Line
misuse_line (misuse.Consumed name place used) path = PlacedTwice path used name (codes " is used after it was consumed at ") place
misuse_line (misuse.NotConsumable name place) path = Placed path place [] name (codes " may not be consumed")
misuse_line (misuse.ResultAliases name place) path = Placed path place (codes "a value here aliases ") name []
misuse_line (misuse.Captured name place) path = Placed path place [] name (codes " is captured and may not be consumed")
misuse_line misuse.Memory path = Nothing

abbrev pub why_line : Why → List ℕ → Line
why_line why.Load path = Named (codes "cannot load ") path []
why_line (why.Lex err) path = lex_line err path
why_line (why.Parse err) path = parse_line err path
why_line (why.NotBuilt place) path = at_place path place (codes "not built yet")
why_line why.ImportCycle path = Named [] path (codes " imports itself")
why_line (why.Names err) path = names_line err path
why_line (why.Types err) path = types_line err path
why_line (why.Sizes err) path = misfit_line err path
why_line (why.Unique err) path = misuse_line err path
why_line why.FileBytes path = Nothing
why_line why.Files path = Nothing
why_line why.Memory path = Nothing

abbrev pub entry_line : EntryErr → List ℕ → Line
entry_line entry.NoEntry name = Named (codes "no entry ") name []
entry_line entry.OutsideProfile name = Named (codes "entry ") name (codes " is outside the profile")

abbrev pub limit_line : LimitKind → Line
limit_line limit.FileBytes = Said (codes "limit: file bytes over 4194304")
limit_line limit.Files = Said (codes "limit: files over 256")
limit_line limit.Nesting = Said (codes "limit: nesting over 200")
limit_line limit.Applications = Said (codes "limit: module applications over 1024")
limit_line limit.Nodes = Said (codes "limit: unfolded nodes over 1048576")
limit_line limit.Depth = Said (codes "limit: unfolded depth over 1000")
limit_line limit.InputBytes = Said (codes "limit: input bytes over 67108864")

abbrev pub input_line : TextErr → Line
input_line (text.BadText position) = Counted (codes "input: ") position (codes ": bad text")
input_line (text.WrongType position) = Counted (codes "input: ") position (codes ": wrong type")
input_line (text.OutOfRange position) = Counted (codes "input: ") position (codes ": number out of range")
input_line (text.Irregular position) = Counted (codes "input: ") position (codes ": rows of different length")
input_line (text.TooLarge position) = Counted (codes "input: ") position (codes ": too large")
input_line (text.SizeClash param have want) = Clashing param have want
input_line (text.Missing param) = Counted (codes "input: parameter ") param (codes " is missing")
input_line (text.Extra position) = Counted (codes "input: ") position (codes ": extra text")
input_line text.Memory = Nothing

-- what a failure is called
abbrev pub kind_text : FailKind → List ℕ
kind_text kind.Bounds = codes "index out of bounds"
kind_text kind.Division = codes "division by zero"
kind_text kind.Power = codes "negative exponent"
kind_text kind.Assert = codes "assertion failed"
kind_text kind.Size = codes "size mismatch"
kind_text kind.Range = codes "bad range"
kind_text kind.TooLarge = codes "array too large"
kind_text kind.Turns = codes "turns spent"

abbrev pub line_form : Status → Line
line_form Done = Nothing
line_form (Usage word) = Counted (codes "usage: word ") word []
line_form (LoadFault refused) = why_line refused.why refused.path
line_form (Text refused) = why_line refused.why refused.path
line_form (Names refused) = why_line refused.why refused.path
line_form (Types refused) = why_line refused.why refused.path
line_form (Sizes refused) = why_line refused.why refused.path
line_form (Unique refused) = why_line refused.why refused.path
line_form (Entry err name) = entry_line err name
line_form (Limit what) = limit_line what
line_form ReadFault = Said (codes "read failed")
line_form (Input err) = input_line err
line_form (Failure report path) = Placed path report.place (codes "failure: ") (kind_text report.kind) []
line_form (Turns report path) = at_place path report.place (codes "turns spent")
line_form WriteFault = Said (codes "write failed")
line_form Memory = Said (codes "out of memory")

-- the line of a status, which is empty at Done
abbrev pub line_of : Status → List ℕ
line_of status = bytes_of (line_form status)
