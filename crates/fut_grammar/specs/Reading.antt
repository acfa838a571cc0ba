-- Reading from left to right: tokens, and the parts of a production over what reads the phrases in it.
use Rattle.std.specs.Prelude.{◌≡◌, ℕ, zero, suc, max, Bool, true, ◌||◌, List, [], ◌∷◌, length, Option, Some, None, Result, Ok, Err, nat_lt, nat_le, ◌==◌, if◌then◌else◌}
use Rattle.fut_scalar.specs.declared.scalar.IntType.{IntType}
use Rattle.fut_token.specs.declared.token.Fixed.{Fixed}
use Rattle.fut_token.specs.declared.token.Fixed.TheVariants as fixed
use Rattle.fut_token.specs.declared.token.TokenKind.{TokenKind}
use Rattle.fut_token.specs.declared.token.TokenKind.TheVariants as kind
use Rattle.fut_token.specs.declared.token.Token.{Token}
use Rattle.fut_ast.specs.declared.node.Spot.{Spot}
use Rattle.fut_ast.specs.declared.node.What.{What}
use Rattle.fut_ast.specs.declared.node.What.TheVariants as what
use Rattle.fut_ast.specs.declared.node.End.{End}
use Rattle.fut_ast.specs.declared.node.End.TheVariants as range_end
use Rattle.fut_ast.specs.declared.pat.Head.{Head}
use Rattle.fut_ast.specs.declared.pat.HeadForm.TheVariants as head_form
use Rattle.fut_ast.specs.declared.ty.SizeExp.{SizeExp}
use Rattle.fut_ast.specs.declared.ty.SizeForm.TheVariants as size_form
use Rattle.fut_ast.specs.Tokens.{spot_of, tail, starts, starts_tight, is_word, is_int, is_text}
use Rattle.fut_ast.specs.Operators.{level}
use Rattle.fut_ast.specs.LeftOut.{begins_left_out, is_char, is_constructor}
use Rattle.fut_ast.specs.Sorts.{Sort, Tree, Text, Path, SourcePat, SourceExp, is_node, Whole_type, Applied_type, Atomic_type, Whole_pat, Atom, Whole, Operands, Written_item}
use Rattle.fut_ast.specs.Parts.{Part, Look, Test, going_back, without, Sign, Tight, Word, Names, Number, One, Quoted, Digits, Variable, Size, Operator, Sub, Commas, Many, Several, Maybe, Optional, Upto, End_sign, Argument, Loop_start, Value, Builds}
use Rattle.fut_ast.specs.Nodes.{exp_of_pat, has_wild}
use Rattle.fut_ast.specs.Rows.{Row, parts, tree, Suffix, suffix_parts, suffix_tree}
use Rattle.fut_ast.specs.Behind.{begins, begins_argument, goes_on, passes}
use Rattle.fut_ast.specs.Grammar.{is_lifted, raised}
use Rattle.fut_grammar.specs.declared.fault.Fault.{Fault}
use Rattle.fut_grammar.specs.declared.fault.Fault.TheVariants.{Syntax, TooDeep, LeftOut}
use Rattle.fut_grammar.specs.declared.fault.Stop.{Stop}
use Rattle.fut_grammar.specs.declared.fault.Stop.TheVariants as stop

infixl 10 ◌>>=◌
abbrev pub ◌>>=◌ : {A B : Type 0} → Result A Fault → (A → Result B Fault) → Result B Fault
(Ok x) >>= f = f x
(Err e) >>= f = Err e

-- What a function returned, seen by view, is what reading gives, unless memory ran out.
abbrev pub Fails : {Y : Type 0} → Stop → Result Y Fault → Type 0
Fails stop.Memory read = Unit {0}
Fails (stop.Fault f) read = read ≡ Err f

abbrev pub Gives : {X Y : Type 0} → (X → Y) → Result X Stop → Result Y Fault → Type 0
Gives view (Ok x) read = read ≡ Ok (view x)
Gives view (Err e) read = Fails e read

-- a tree, its height, and the tokens after it
abbrev pub Read : Type 0 → Type 0
Read A = Result (A × ℕ × List Token) Fault

-- where nothing goes on with the next token: a form that is left out everywhere, else this fault
unfoldable pub refuse_as : Fault → List Token → Fault
refuse_as other ts =
    if is_char ts then LeftOut (length ts) what.Character
    else (if is_text ts then LeftOut (length ts) what.Text
    else (if starts fixed.KeyMatch ts || starts fixed.KeyCase ts || is_constructor ts then LeftOut (length ts) what.SumType
    else other))

unfoldable pub refuse : List Token → Fault
refuse ts = refuse_as (Syntax (length ts)) ts

-- the same where a form may begin that is left out there
abbrev pub refuse_form : Option What → List Token → Fault
refuse_form None ts = refuse ts
refuse_form (Some w) ts = if begins_left_out w ts then LeftOut (length ts) w else refuse ts

-- where a phrase of the sort must begin
abbrev pub form_of_sort : Sort → Option What
form_of_sort Whole_type = Some what.ExistentialSize
form_of_sort Applied_type = Some what.ExistentialSize
form_of_sort Atomic_type = Some what.ExistentialSize
form_of_sort Written_item = Some what.SliceUpdate
form_of_sort n = None

unfoldable pub refuse_sort : Sort → List Token → Fault
refuse_sort n ts = refuse_form (form_of_sort n) ts

-- where the next tokens must pass a test
abbrev pub form_of_test : Test → Option What
form_of_test (without w) = Some w
form_of_test going_back = Some what.Stride
form_of_test c = None

abbrev pub look_at : Test → List Token → Result (Unit {0}) Fault
look_at c ts = if passes c ts then Ok tt else Err (refuse_form (form_of_test c) ts)

-- ---- tokens

unfoldable pub expect : Fixed → List Token → Result (List Token) Fault
expect f ts = if starts f ts then Ok (tail ts) else Err (refuse ts)

abbrev pub word_from : TokenKind → List Token → List Token → Result (Text × List Token) Fault
word_from (kind.Name x) ts us = Ok (x, us)
word_from k ts us = Err (refuse ts)

unfoldable pub word_at : List Token → Result (Text × List Token) Fault
word_at [] = Err (refuse [])
word_at (t ∷ us) = word_from t.kind (t ∷ us) us

abbrev pub number_from : TokenKind → List Token → List Token → Result ((ℕ × Option IntType) × List Token) Fault
number_from (kind.Int v s) ts us = Ok ((v, s), us)
number_from k ts us = Err (refuse ts)

unfoldable pub number_at : List Token → Result ((ℕ × Option IntType) × List Token) Fault
number_at [] = Err (refuse [])
number_at (t ∷ us) = number_from t.kind (t ∷ us) us

abbrev pub text_from : TokenKind → List Token → List Token → Result (Text × List Token) Fault
text_from (kind.Text x) ts us = Ok (x, us)
text_from k ts us = Err (refuse ts)

unfoldable pub text_at : List Token → Result (Text × List Token) Fault
text_at [] = Err (refuse [])
text_at (t ∷ us) = text_from t.kind (t ∷ us) us

abbrev pub digits_from : TokenKind → List Token → List Token → Result (Text × List Token) Fault
digits_from (kind.Field x) ts us = Ok (x, us)
digits_from k ts us = Err (refuse ts)

unfoldable pub digits_at : List Token → Result (Text × List Token) Fault
digits_at [] = Err (refuse [])
digits_at (t ∷ us) = digits_from t.kind (t ∷ us) us

abbrev pub variable_from : TokenKind → List Token → List Token → Result (Head × List Token) Fault
variable_from (kind.TypeVar l x) ts us = Ok (record { place = (spot_of ts).place; form = head_form.Var x (is_lifted l) }, us)
variable_from k ts us = Err (refuse ts)

unfoldable pub variable_at : List Token → Result (Head × List Token) Fault
variable_at [] = Err (refuse [])
variable_at (t ∷ us) = variable_from t.kind (t ∷ us) us

-- name { "." name }, with so many turns; "." and "(" open a module
unfoldable pub names_at : ℕ → List Token → Result (Path × List Token) Fault
names_at zero ts = Err (refuse ts)
names_at (suc n) ts =
    word_at ts >>= λ x. look_at (without what.LocalOpen) x.1 >>= λ u. if starts fixed.Dot x.1 then (names_at n (tail x.1) >>= λ xs. Ok (x.0 ∷ xs.0, xs.1)) else Ok (x.0 ∷ [], x.1)

unfoldable pub path_at : List Token → Result (Path × List Token) Fault
path_at ts = names_at (length ts) ts

-- a size, before its bracket
abbrev pub size_left_out : List Token → Fault
size_left_out [] = Syntax 0
size_left_out (t ∷ ts) = refuse_as (LeftOut (length (t ∷ ts)) what.SizeExpression) (t ∷ ts)

-- behind a size
abbrev pub refuse_behind_size : List Token → Fault
refuse_behind_size ts = if starts fixed.Plus ts || starts fixed.Minus ts || starts fixed.Star ts then LeftOut (length ts) what.SizeExpression else refuse ts

abbrev pub closed_size : SizeExp → List Token → Result (Option SizeExp × List Token) Fault
closed_size size ts = if starts fixed.CloseBracket ts then Ok (Some size, ts) else Err (refuse_behind_size ts)

unfoldable pub size_at : List Token → Result (Option SizeExp × List Token) Fault
size_at ts =
    if starts fixed.CloseBracket ts then Ok (None, ts)
    else (if is_word ts then (path_at ts >>= λ xs. closed_size (record { place = (spot_of ts).place; form = size_form.Path xs.0 }) xs.1)
    else (if is_int ts then (number_at ts >>= λ v. closed_size (record { place = (spot_of ts).place; form = size_form.Const v.0.0 }) v.1)
    else Err (size_left_out ts)))

-- an operator: one token, or a name in backticks
unfoldable pub backtick_at : List Token → Result ((Spot × Text) × List Token) Fault
backtick_at ts = word_at ts >>= λ x. expect fixed.Backtick x.1 >>= λ us. Ok ((spot_of ts, x.0), us)

abbrev pub operator_from : Fixed → Spot → List Token → Result ((Spot × Text) × List Token) Fault
operator_from fixed.Backtick at us = backtick_at us
operator_from o at us = Ok ((at, []), us)

unfoldable pub operator_taken : Fixed → List Token → Result ((Spot × Text) × List Token) Fault
operator_taken o ts = expect o ts >>= λ us. if nat_le 1 (level o) then operator_from o (spot_of ts) us else Err (refuse ts)

unfoldable pub end_at : List Token → Result (End × List Token) Fault
end_at ts =
    if starts fixed.DotDotLess ts then Ok (range_end.Below, tail ts)
    else (if starts fixed.DotDotGreater ts then Ok (range_end.Above, tail ts)
    else (if starts fixed.DotDotDot ts then Ok (range_end.Through, tail ts)
    else Err (refuse ts)))

-- the integer 1
abbrev pub one_if : ℕ → List Token → List Token → Result (List Token) Fault
one_if v ts us = if v == 1 then Ok us else Err (refuse ts)

unfoldable pub one_at : List Token → Result (List Token) Fault
one_at ts = number_at ts >>= λ v. one_if v.0.0 ts v.1

-- ---- parts, over what reads a phrase

-- what has no phrase in it
abbrev pub flat_part : {A : Type 0} → ℕ → Result (A × List Token) Fault → Read A
flat_part g read = read >>= λ y. Ok (y.0, g, y.1)

module _ (sub : (n : Sort) → List Token → Read (Tree n)) where
  -- a phrase, on top of what is g deep
  unfoldable pub sub_at : (n : Sort) → ℕ → List Token → Read (Tree n)
  sub_at n g ts = sub n ts >>= λ y. Ok (y.0, max g y.1, y.2)

  unfoldable pub commas_at : (turns : ℕ) → (n : Sort) → ℕ → List Token → Read (List (Tree n))
  commas_at zero n g ts = Err (refuse ts)
  commas_at (suc k) n g ts =
      sub n ts >>= λ p. if starts fixed.Comma p.2 then (commas_at k n (max g p.1) (tail p.2) >>= λ ps. Ok (p.0 ∷ ps.0, ps.1, ps.2)) else Ok (p.0 ∷ [], max g p.1, p.2)

  unfoldable pub many_at : (turns : ℕ) → (n : Sort) → ℕ → List Token → Read (List (Tree n))
  many_at zero n g ts = if begins n ts then Err (refuse ts) else Ok ([], g, ts)
  many_at (suc k) n g ts =
      if begins n ts then (sub n ts >>= λ p. many_at k n (max g p.1) p.2 >>= λ ps. Ok (p.0 ∷ ps.0, ps.1, ps.2)) else Ok ([], g, ts)

  unfoldable pub several_at : (n : Sort) → ℕ → List Token → Read (List (Tree n))
  several_at n g ts = sub n ts >>= λ p. many_at (length p.2) n (max g p.1) p.2 >>= λ ps. Ok (p.0 ∷ ps.0, ps.1, ps.2)

  unfoldable pub maybe_at : Fixed → (n : Sort) → ℕ → List Token → Read (Option (Tree n))
  maybe_at f n g ts = if starts f ts then (sub n (tail ts) >>= λ y. Ok (Some y.0, max g y.1, y.2)) else Ok (None, g, ts)

  unfoldable pub optional_at : (n : Sort) → ℕ → List Token → Read (Option (Tree n))
  optional_at n g ts = if begins n ts then (sub n ts >>= λ y. Ok (Some y.0, max g y.1, y.2)) else Ok (None, g, ts)

  unfoldable pub upto_at : ℕ → List Token → Read (Option (Spot × Option SourceExp))
  upto_at g ts = if starts fixed.Colon ts then (optional_at (Operands 1) g (tail ts) >>= λ y. Ok (Some (spot_of ts, y.0), y.1, y.2)) else Ok (None, g, ts)

  unfoldable pub argument_at : ℕ → List Token → Read SourceExp
  argument_at g ts = if begins_argument ts then sub_at Atom g ts else Err (refuse ts)

  unfoldable pub start_at : ℕ → List Token → Read (SourcePat × SourceExp)
  start_at g ts =
      sub Whole_pat ts >>= λ p. if starts fixed.Equal p.2 then (sub Whole (tail p.2) >>= λ e. Ok ((p.0, e.0), max (max g p.1) e.1, e.2)) else (if has_wild p.0 then Err (refuse p.2) else Ok ((p.0, exp_of_pat p.0), max g p.1, p.2))

  unfoldable pub has_at : (q : Part) → ℕ → List Token → Read (Value q)
  has_at (Look c) g ts = look_at c ts >>= λ u. Ok (u, g, ts)
  has_at (Sign f) g ts = expect f ts >>= λ us. Ok (spot_of ts, g, us)
  has_at Tight g ts = if starts_tight ts then Ok (spot_of ts, g, tail ts) else Err (refuse ts)
  has_at Word g ts = word_at ts >>= λ x. Ok ((spot_of ts, x.0), g, x.1)
  has_at Names g ts = path_at ts >>= λ xs. Ok ((spot_of ts, xs.0), g, xs.1)
  has_at Number g ts = flat_part g (number_at ts)
  has_at One g ts = one_at ts >>= λ us. Ok (spot_of ts, g, us)
  has_at Quoted g ts = flat_part g (text_at ts)
  has_at Digits g ts = digits_at ts >>= λ x. Ok ((spot_of ts, x.0), g, x.1)
  has_at Variable g ts = flat_part g (variable_at ts)
  has_at Size g ts = flat_part g (size_at ts)
  has_at (Operator o) g ts = flat_part g (operator_taken o ts)
  has_at (Sub n) g ts = sub_at n g ts
  has_at (Commas n) g ts = commas_at (length ts) n g ts
  has_at (Many n) g ts = many_at (length ts) n g ts
  has_at (Several n) g ts = several_at n g ts
  has_at (Maybe f n) g ts = maybe_at f n g ts
  has_at (Optional n) g ts = optional_at n g ts
  has_at Upto g ts = upto_at g ts
  has_at End_sign g ts = flat_part g (end_at ts)
  has_at Argument g ts = argument_at g ts
  has_at Loop_start g ts = start_at g ts

  -- the parts of a production, of which up is whether it is a node
  unfoldable pub parts_at : (up : Bool) → (n : Sort) → (ps : List Part) → Builds ps n → ℕ → List Token → Read (Tree n)
  parts_at up n [] b h ts = Ok (b, raised up h, ts)
  parts_at up n (q ∷ ps) b g ts = has_at q g ts >>= λ y. parts_at up n ps (b y.0) y.1 y.2

  unfoldable pub row_at : {n : Sort} → Row n → List Token → Read (Tree n)
  row_at {n} r ts = parts_at (is_node n) n (parts r) (tree r (spot_of ts)) 0 ts

  -- a suffix behind what was read, for trees of a height up to the limit
  unfoldable pub suffix_at : {n m : Sort} → (s : Suffix n m) → (limit : ℕ) → Spot → Tree m → ℕ → List Token → Read (Tree n)
  suffix_at {n} s limit from a h ts =
      if goes_on s a ts then Err (refuse ts)
      else (if nat_lt h limit then parts_at true n (suffix_parts s) (suffix_tree s from (spot_of ts) a) h ts else Err (TooDeep (length ts)))
