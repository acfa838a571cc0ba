-- What reads the phrases in a production is handed over to the function that reads the production.
use Rattle.std.specs.Prelude.{◌≤◌, ℕ, Bool, List, Result, IfOk}
use Rattle.std.specs.Borrow.{Bor}
use Rattle.fut_token.specs.declared.token.Token.{Token}
use Rattle.fut_ast.specs.declared.module.ModType.{ModType}
use Rattle.fut_ast.specs.Sorts.{Sort, Tree, Whole_mtype}
use Rattle.fut_grammar.specs.declared.fault.Stop.{Stop}
use Rattle.fut_grammar.specs.Reading.{Gives}
use Rattle.fut_grammar.specs.Phrases.{read_at}
use Rattle.parse_types.specs.declared.found.Found.{Found}
use Rattle.parse_types.specs.Found.{tree_found}

-- the answer is what reading gives, seen by view, up to a height of d
abbrev pub Reads_sort : {X : Type 0} → (n : Sort) → (Found X → Tree n × ℕ × List Token) → ℕ → List Token → Result (Found X) Stop → Type 0
Reads_sort n view d ts r = Gives view r (read_at d n ts) × IfOk r (λ x. x.height ≤ d)

-- each answer is what reading gives, where post says what is answered
abbrev pub Law : {X : Type 0} → (n : Sort) → (Found X → Tree n × ℕ × List Token) → (Bor (List Token) → Result (Found X) Stop → Type 0) → ℕ → Type 0
Law {X} n view post d = (ts : Bor (List Token)) (r : Result (Found X) Stop) → post ts r → Reads_sort n view d ts.now r

-- module types of both sorts are read by one function
abbrev pub Mtype_law : (Bool → Bor (List Token) → Result (Found (Bor ModType)) Stop → Type 0) → ℕ → Type 0
Mtype_law post d = (b : Bool) (ts : Bor (List Token)) (r : Result (Found (Bor ModType)) Stop) → post b ts r → Reads_sort (Whole_mtype b) tree_found d ts.now r
