-- Compositions behind a row of lets, step by step.
use Rattle.std.specs.Prelude.{◌≡◌, ℕ, ◌+◌, Bool, Option, Some, None}
use Rattle.fut_flat.specs.declared.exp.Exp.{Exp}
use Rattle.fut_flat.specs.declared.exp.Let.{Let as LetTree}
use Rattle.fut_flat.specs.Terms.{Let}
use Rattle.fut_flat.specs.Erased.{FlatPattern, FlatTerm, Row, term_of}
use Rattle.fut_flat.proofs.ErasedForms.{row_of}
use Rattle.fut_flat.specs.Numbers.{numbers}
use Rattle.fut_types.specs.Types.{Sub}
use Rattle.fut_sizes.specs.Compositions.{composition}
use Rattle.fut_sizes.specs.Scopes.{Scope}
use Rattle.fut_sizes.specs.Sizing.{pattern_noted, with_pattern_name}
use Rattle.fut_sizes.specs.Steps.{give, and_then, node_size}
use Rattle.size_program.specs.Answers.{Going}

-- whether what stands here is a composition, and what it applies first
abbrev pub composition_at : FlatTerm → Option Bool
composition_at (Let b v e) = composition b e
composition_at e = None

-- two lets and a lambda, which compose
abbrev pub composed_term : LetTree → LetTree → Exp → FlatTerm
composed_term l m e = Let (row_of l).0 (row_of l).1 (Let (row_of m).0 (row_of m).1 (term_of e))

abbrev pub Composing : Bool → LetTree → LetTree → Exp → Type 0
Composing left_first l m e = composition (row_of l).0 (Let (row_of m).0 (row_of m).1 (term_of e)) ≡ Some left_first

-- where the second let of a composition begins, its value and the lambda
abbrev pub second_at : Row → ℕ → ℕ
second_at l n = 2 + n + numbers l.1

abbrev pub lambda_at : Row → Row → ℕ → ℕ
lambda_at l m n = 2 + second_at l n + numbers m.1

-- a let at a node binds the name of a function, which has the sized type of its value's node
abbrev pub function_entered : Sub → FlatPattern → ℕ → Going Scope
function_entered types p n N scope = and_then (node_size (2 + n)) (λ t. and_then (pattern_noted N types p (1 + n) t) (λ z. give (with_pattern_name N types p t scope)))

-- the names of both functions are known
abbrev pub composition_entered : Sub → Row → Row → ℕ → Going Scope
composition_entered types l m n N scope = and_then (function_entered types l.0.pattern n N scope) (λ inner. function_entered types m.0.pattern (second_at l n) N inner)
