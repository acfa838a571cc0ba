-- What reads the phrases of a sort in a production is handed over to the function that reads the production.
use Rattle.std.specs.Prelude.{◌≤◌, ℕ, List, Result, IfOk}
use Rattle.std.specs.Borrow.{Bor}
use Rattle.fut_token.specs.declared.token.Token.{Token}
use Rattle.fut_ast.specs.Sorts.{Sort, Tree, Whole_type, Applied_type, Atomic_type, Whole_pat, Atomic_pat}
use Rattle.fut_grammar.specs.declared.fault.Stop.{Stop}
use Rattle.parse_types.specs.declared.found.Found.{Found}
use Rattle.parse_types.specs.declared.patterns.PatSort.{PatSort}
use Rattle.parse_types.specs.declared.patterns.PatSort.TheVariants as pat_sort
use Rattle.parse_types.specs.declared.types.TypeSort.{TypeSort}
use Rattle.parse_types.specs.declared.types.TypeSort.TheVariants as sort
use Rattle.parse_types.specs.Found.{tree_found}
use Rattle.fut_grammar.specs.Reading.{Gives}
use Rattle.fut_grammar.specs.Phrases.{read_at}

-- a tree, its height, and the tokens behind it
abbrev pub Answer : Sort → Type 0
Answer n = Result (Found (Bor (Tree n))) Stop

-- the answer is what reading gives, up to a height of d
abbrev pub Reads : (n : Sort) → ℕ → List Token → Answer n → Type 0
Reads n d ts r = Gives tree_found r (read_at d n ts) × IfOk r (λ x. x.height ≤ d)

-- each answer is what reading gives, where post says what is answered
abbrev pub Law : (n : Sort) → (Bor (List Token) → Answer n → Type 0) → ℕ → Type 0
Law n post d = (ts : Bor (List Token)) (r : Answer n) → post ts r → Reads n d ts.now r

-- the sort of a phrase
abbrev pub sort_of : TypeSort → Sort
sort_of sort.Whole = Whole_type
sort_of sort.Applied = Applied_type
sort_of sort.Atomic = Atomic_type

-- types of three sorts are read by one function
abbrev pub ReadsType : TypeSort → ℕ → List Token → Answer Whole_type → Type 0
ReadsType sort.Whole d ts r = Reads Whole_type d ts r
ReadsType sort.Applied d ts r = Reads Applied_type d ts r
ReadsType sort.Atomic d ts r = Reads Atomic_type d ts r

abbrev pub TypeLaw : (TypeSort → Bor (List Token) → Answer Whole_type → Type 0) → ℕ → Type 0
TypeLaw post d = (n : TypeSort) (ts : Bor (List Token)) (r : Answer Whole_type) → post n ts r → ReadsType n d ts.now r

-- patterns of two sorts are read by one function
abbrev pub ReadsPat : PatSort → ℕ → List Token → Answer Whole_pat → Type 0
ReadsPat pat_sort.Whole d ts r = Reads Whole_pat d ts r
ReadsPat pat_sort.Atomic d ts r = Reads Atomic_pat d ts r
