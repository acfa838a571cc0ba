-- What reads the expressions in a production is handed over to the function that reads the production.
use Rattle.std.specs.Prelude.{◌≤◌, ℕ, List, Option, Result, Err, IfOk, if◌then◌else◌}
use Rattle.std.specs.Borrow.{Bor}
use Rattle.fut_token.specs.declared.token.Fixed.{Fixed}
use Rattle.fut_token.specs.declared.token.Token.{Token}
use Rattle.fut_ast.specs.declared.node.Ended.{Ended}
use Rattle.fut_ast.specs.Sorts.{Sort, Tree, Path, SourceExp, Atom, Unary, Operands, Operand, Right, Whole, Last, Inside, Replacing}
use Rattle.fut_ast.specs.Tokens.{starts, tail}
use Rattle.fut_tree.specs.Names.{names}
use Rattle.fut_grammar.specs.declared.fault.Stop.{Stop}
use Rattle.fut_grammar.specs.Reading.{Gives, Read, refuse}
use Rattle.fut_grammar.specs.Phrases.{read_at}
use Rattle.parse_types.specs.declared.found.Found.{Found}
use Rattle.parse_types.specs.Found.{found_as}
use Rattle.parse_atoms.specs.declared.tie.AnyExp.{AnyExp}
use Rattle.parse_atoms.specs.declared.tie.Ending.{Ending}
use Rattle.parse_atoms.specs.declared.tie.FirstInside.{FirstInside}
use Rattle.parse_atoms.specs.declared.tie.Replacement.{Replacement}
use Rattle.parse_atoms.specs.declared.tie.ExpSort.{ExpSort}
use Rattle.parse_atoms.specs.declared.tie.ExpSort.TheVariants as sort

-- an expression and how it ended
abbrev pub ending_found : Found Ending → (SourceExp × Ended) × ℕ × List Token
ending_found = found_as (λ t. (t.exp.now, t.ended))

-- an expression first in parentheses, and the operator of its section
abbrev pub inside_found : Found FirstInside → (SourceExp × Option Fixed) × ℕ × List Token
inside_found = found_as (λ t. (t.exp.now, t.section))

-- the names of a field inside, and its new value
abbrev pub replacing_found : Found Replacement → (Path × SourceExp) × ℕ × List Token
replacing_found = found_as (λ t. (names t.path.now, t.exp.now))

-- an expression of any sort, or why none was read
abbrev pub Answer : Type 0
Answer = Result (Found AnyExp) Stop

-- the sort of the grammar, and what is read of it
abbrev pub sort_of : ExpSort → Sort
sort_of sort.Atom = Atom
sort_of sort.Unary = Unary
sort_of (sort.Operands k) = Operands k
sort_of (sort.Operand k) = Operand k
sort_of sort.Right = Right
sort_of sort.Whole = Whole
sort_of sort.Last = Last
sort_of sort.Inside = Inside
sort_of sort.Replacing = Replacing

abbrev pub seen : (s : ExpSort) → AnyExp → Tree (sort_of s)
seen sort.Atom t = t.exp.now
seen sort.Unary t = t.exp.now
seen (sort.Operands k) t = t.exp.now
seen (sort.Operand k) t = t.exp.now
seen sort.Right t = t.exp.now
seen sort.Whole t = t.exp.now
seen sort.Last t = (t.exp.now, t.ended)
seen sort.Inside t = (t.exp.now, t.section)
seen sort.Replacing t = (names t.path.now, t.exp.now)

-- the answer is what reading gives
abbrev pub Reads : ExpSort → ℕ → List Token → Answer → Type 0
Reads s d ts r = Gives (found_as (seen s)) r (read_at d (sort_of s) ts)

-- each answer is what reading gives, where post says what is answered
abbrev pub Law : (ExpSort → Bor (List Token) → Answer → Type 0) → ℕ → Type 0
Law post d = (n : ExpSort) (ts : Bor (List Token)) (r : Answer) → post n ts r → Reads n d ts.now r × IfOk r (λ x. x.height ≤ d)

-- a keyword or symbol, and a phrase behind it
abbrev pub behind : {A : Type 0} → Fixed → (List Token → Read A) → List Token → Read A
behind f read ts = if starts f ts then read (tail ts) else Err (refuse ts)
