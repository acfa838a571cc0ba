-- Lets in a row: each is opened, what stands behind them is sized, and their scopes end, the innermost first.
use Rattle.std.specs.Prelude.{◌≡◌, ℕ, ◌+◌, List, [], ◌∷◌, ◌++◌, Ok, None}
use Rattle.fut_flat.specs.Erased.{FlatTerm, Row, lets}
use Rattle.fut_flat.specs.Numbers.{numbers, pattern_numbers}
use Rattle.fut_types.specs.Types.{Sub}
use Rattle.fut_typing.specs.Names.{Names}
use Rattle.sized_types.specs.Sizes.{Size}
use Rattle.fut_sizes.specs.Agreeing.{Answer, then_do, leaving}
use Rattle.fut_sizes.specs.Applications.{Part, whole}
use Rattle.fut_sizes.specs.Compositions.{composition}
use Rattle.fut_sizes.specs.Functions.{size_names}
use Rattle.fut_sizes.specs.Scopes.{Scope, names}
use Rattle.fut_sizes.specs.Sizing.{sized, finished, has_parameters, with_head, let_scope, pattern_noted, bind_ids}
use Rattle.fut_sizes.specs.Steps.{Step, give, ask, and_then}
use Rattle.size_program.specs.Answers.{Going}

-- ---- one let

-- where its value begins, and what stands behind it
abbrev pub value_at : Row → ℕ → ℕ
value_at l n = 1 + n + pattern_numbers l.0.pattern

abbrev pub body_at : Row → ℕ → ℕ
body_at l n = value_at l n + numbers l.1

-- the size names of its head are known in its value, whose parameters have to choose them
abbrev pub head_entered : Sub → Row → ℕ → Names → Scope → Answer Scope
head_entered types l n N scope = then_do (has_parameters N types (size_names l.0.parameters) l.1 (value_at l n)) (λ z. Ok (with_head N types (size_names l.0.parameters) scope))

-- its names are bound to a value of this sized type
abbrev pub let_bound : Sub → Row → ℕ → Size → Going Scope
let_bound types l n t N scope = and_then (ask (let_scope N types l.0 (value_at l n) t scope)) (λ inner. and_then (pattern_noted N types l.0.pattern (1 + n) t) (λ z. give inner))

-- up to what stands behind it
abbrev pub let_opened : Sub → Row → ℕ → Going Scope
let_opened types l n N scope = and_then (ask (head_entered types l n N scope)) (λ inside.
    and_then (and_then (sized N types l.1 (size_names l.0.parameters) (value_at l n) inside) (λ value. finished N types (value_at l n) value)) (λ t. let_bound types l n t N scope))

-- the end of its scope: its node, that of what stands behind it, and the names that it binds
pub record End : Type 0 where
  pub node : ℕ
  pub inner : ℕ
  pub names : List ℕ

abbrev pub let_end : Row → ℕ → End
let_end l n = record { node = n; inner = body_at l n; names = names l.0.pattern ++ bind_ids l.0.sizes }

abbrev pub closed : Sub → End → Part → Names → Step Part
closed types x part N = and_then (finished N types x.inner part) (λ u. and_then (ask (leaving x.node x.names u)) (λ r. give (whole r)))

-- ---- in a row

unfoldable pub row_opened : Sub → List Row → ℕ → Going Scope
row_opened types [] n N scope = give scope
row_opened types (l ∷ ls) n N scope = and_then (let_opened types l n N scope) (λ inner. row_opened types ls (body_at l n) N inner)

abbrev pub behind_row : List Row → ℕ → ℕ
behind_row [] n = n
behind_row (l ∷ ls) n = behind_row ls (body_at l n)

-- the size names that are to be chosen there
abbrev pub behind_heads : List Row → List ℕ → List ℕ
behind_heads [] bs = bs
behind_heads (l ∷ ls) bs = []

abbrev pub row_ends : List Row → ℕ → List End
row_ends [] n = []
row_ends (l ∷ ls) n = let_end l n ∷ row_ends ls (body_at l n)

-- the outermost first
unfoldable pub all_closed : Sub → List End → Part → Names → Step Part
all_closed types [] part N = give part
all_closed types (x ∷ xs) part N = and_then (all_closed types xs part N) (λ p. closed types x p N)

-- no let of a row begins a composition, which is sized in another way
pub data Plain : List Row → FlatTerm → Type 0 where
  no_let : {e : FlatTerm} → Plain [] e
  plain_let : {l : Row} {ls : List Row} {e : FlatTerm} → composition l.0 (lets ls e) ≡ None → Plain ls e → Plain (l ∷ ls) e
