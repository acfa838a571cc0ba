-- What the parts of an expression claim of the types of its numbers.
use Rattle.std.specs.Prelude.{◌≡◌, ℕ, ◌+◌, false, List, [], ◌∷◌}
use mathlib.Core.Logic.{◌⊎◌}
use Rattle.fut_scalar.specs.declared.place.BindId.{BindId}
use Rattle.fut_scalar.specs.declared.place.Place.{Place}
use Rattle.fut_types.specs.declared.Kind.{Kind}
use Rattle.fut_ast.specs.Sorts.{Text}
use Rattle.fut_flat.specs.declared.pat.PatField.{PatField}
use Rattle.fut_flat.specs.declared.prim.Ref.{Ref}
use Rattle.fut_flat.specs.Terms.{Patterns, no_pattern, pattern_and, Operation, Use, Terms, no_term, term_and}
use Rattle.fut_flat.specs.Numbers.{pattern_numbers, own_numbers, numbers, turn_numbers}
use Rattle.fut_flat.specs.Erased.{FlatTerm, FlatPattern, FlatTurns, Row}
use Rattle.fut_typing.specs.Rules.{Rule, Written}
use Rattle.fut_typing.specs.Free.{differs}
use Rattle.fut_typing.specs.Homes.{Env, env_bound, env_pattern, env_sizes, env_turns, At_home, home_in, Homed, All_homed, Turns_homed}
use Rattle.fut_typing.specs.Scopes.{with_sizes, the_one}
use Rattle.fut_typing.specs.Rows.{behind, row_scheme, with_row, Row_homed, Rows_homed}
use Rattle.fut_typing.specs.Patterns.{with_pattern, Pattern_typed, Patterns_typed, Parameters_typed}
use Rattle.fut_typing.specs.Typing.{operand, Function_name, Let_typed, Typed, All_typed, Turns_typed}
use Rattle.type_graph.specs.Claims.{types_of}
use Rattle.type_rules.specs.declared.demand.Demand.{Demand}
use Rattle.type_rules.specs.Demands.{All_allow, All_met}
use Rattle.type_scopes.specs.declared.Inference.{Inference}
use Rattle.type_scopes.specs.Scopes.{Around, Claim, Homes, Claimed, Refused}

-- a use of a name, as a term
abbrev pub use_term : Ref → Place → ℕ → FlatTerm
use_term r at k = Use r at k

abbrev pub Term_claim : Kind → FlatTerm → ℕ → Claim
Term_claim places t lo N scope = Typed N places t lo scope

abbrev pub Term_homes : ℕ → FlatTerm → ℕ → Homes
Term_homes d t lo home = (w : Around d) × Homed home d w.0 t lo

-- the rules of all numbers of a term are put in
abbrev pub Constrained : Kind → ℕ → ℕ → ℕ → FlatTerm → Inference → Inference → Type 0
Constrained places base d lo t i i' = Claimed places base d lo (Term_claim places t lo) (Term_homes d t lo) i i'

-- no types that are possible meet them
abbrev pub Unconstrained : Kind → ℕ → ℕ → ℕ → FlatTerm → Inference → Inference → Type 0
Unconstrained places base d lo t i i' = Refused places base d lo (Term_claim places t lo) (Term_homes d t lo) i i'

-- demands are put in, wherever they are made
abbrev pub Demands_put : ℕ → List Demand → Inference → Inference → Type 0
Demands_put base ds i i' = (places : Kind) (d lo : ℕ) → Claimed places base d lo (λ N scope K a. All_met N.shapes K a ds) (λ home. All_allow home ds) i i'

abbrev pub Demands_refused : ℕ → List Demand → Inference → Inference → Type 0
Demands_refused base ds i i' = (places : Kind) (d lo : ℕ) → Refused places base d lo (λ N scope K a. All_met N.shapes K a ds) (λ home. All_allow home ds) i i'

-- the rules of all numbers of a term are put in, and then a rule's demands
abbrev pub Ruled : Kind → ℕ → ℕ → ℕ → FlatTerm → List Demand → Inference → Inference → Type 0
Ruled places base d lo t ds i i' = (between : Inference) × (Constrained places base d lo t i between × Demands_put base ds between i')

-- no types that are possible meet the rules of the term; or they are put in, and none meet the demands
abbrev pub Unruled : Kind → ℕ → ℕ → ℕ → FlatTerm → List Demand → Inference → Inference → Type 0
Unruled places base d lo t ds i i' = Unconstrained places base d lo t i i' ⊎ ((between : Inference) × (Constrained places base d lo t i between × Demands_refused base ds between i'))

-- the same of terms in a row
abbrev pub Terms_claim : Kind → Terms Ref BindId → ℕ → Claim
Terms_claim places ts lo N scope = All_typed N places ts lo scope

abbrev pub Terms_homes : ℕ → Terms Ref BindId → ℕ → Homes
Terms_homes d ts lo home = (w : Around d) × All_homed home d w.0 ts lo

-- where the numbers of terms in a row begin
unfoldable pub starts : Terms Ref BindId → ℕ → List ℕ
starts no_term lo = []
starts (term_and t ts) lo = lo ∷ starts ts (lo + numbers t)

-- the rule of an operation on parts of these numbers
abbrev pub Rule_claim : Kind → Operation Ref BindId → ℕ → List ℕ → Claim
Rule_claim places o lo parts N scope K a = Rule N places K o (a lo) (a (operand o lo)) (types_of a parts) × Written N places K o scope a (a lo)

abbrev pub Rule_homes : ℕ → Operation Ref BindId → ℕ → Homes
Rule_homes d o lo home = (w : Around d) × At_home home (home_in (differs o) d w.0) lo (own_numbers o)

abbrev pub Pattern_claim : Kind → FlatPattern → ℕ → Claim
Pattern_claim places p lo N scope K a = Pattern_typed N places K a p lo scope

abbrev pub Patterns_claim : Kind → Patterns Ref BindId → ℕ → Claim
Patterns_claim places ps lo N scope K a = Patterns_typed N places K a ps lo scope

-- each parameter sees the names of those before it
abbrev pub Parameters_claim : Kind → Patterns Ref BindId → ℕ → Claim
Parameters_claim places ps lo N scope K a = Parameters_typed N places K a ps lo scope

-- the name of a field's pattern
abbrev pub pattern_name : PatField → Text
pattern_name f = f.name.now

-- where the numbers of patterns in a row begin
unfoldable pub pattern_starts : Patterns Ref BindId → ℕ → List ℕ
pattern_starts no_pattern lo = []
pattern_starts (pattern_and p ps) lo = lo ∷ pattern_starts ps (lo + pattern_numbers p)

-- a let that is not written as a function
abbrev pub value_row : List BindId → FlatPattern → FlatTerm → Row
value_row sizes p v = (record { sizes = sizes; parameters = []; is_function = false; pattern = p }, v)

-- what a let says of its pattern and value: all but that its whole has the type of what stands behind it
abbrev pub Row_claim : Kind → Row → ℕ → Claim
Row_claim places l lo N scope K a = Let_typed N places l.0.is_function (Function_name l.0.sizes l.0.pattern) (row_scheme N places l lo scope) K a

abbrev pub Row_homes : ℕ → Row → ℕ → Homes
Row_homes d l lo home = (w : Around d) × Row_homed home d w.0 l lo

-- what stands in scope behind a let
abbrev pub env_row : Row → ℕ → Env → Env
env_row l lo E = env_bound l.0.is_function l.0 l.1 (1 + lo) E

-- the same of lets in a row, the whole of each of which has the type of a number
unfoldable pub Rows_claim : Kind → ℕ → List Row → ℕ → Claim
Rows_claim places whole [] lo N scope K a = Unit {0}
Rows_claim places whole (l ∷ ls) lo N scope K a = (Row_claim places l lo N scope K a × (a whole ≡ a lo)) × Rows_claim places whole ls (behind l lo) N (with_row N places l lo scope) K a

abbrev pub Rows_homes : ℕ → List Row → ℕ → Homes
Rows_homes d ls lo home = (w : Around d) × Rows_homed home d w.0 ls lo

-- a loop's pattern with its first value is as a let is
abbrev pub behind_first : FlatPattern → FlatTerm → ℕ → ℕ
behind_first p first lo = 1 + lo + pattern_numbers p + numbers first

abbrev pub behind_head : FlatPattern → FlatTerm → FlatTurns → ℕ → ℕ
behind_head p first turns lo = behind_first p first lo + turn_numbers turns

-- what a loop says of its pattern, its first value and its turns
abbrev pub Head_claim : Kind → List BindId → FlatPattern → FlatTerm → FlatTurns → ℕ → Claim
Head_claim places sizes p first turns lo N scope K a = Row_claim places (value_row sizes p first) lo N scope K a × Turns_typed N places turns (behind_first p first lo) scope (with_pattern the_one p (1 + lo) (with_sizes sizes scope)) K a

abbrev pub Head_homes : ℕ → List BindId → FlatPattern → FlatTerm → FlatTurns → ℕ → Homes
Head_homes d sizes p first turns lo home = (w : Around d) × (Row_homed home d w.0 (value_row sizes p first) lo × Turns_homed home d w.0 turns (behind_first p first lo))

-- what stands in scope in the body of a loop
abbrev pub env_head : List BindId → FlatPattern → FlatTerm → FlatTurns → ℕ → Env → Env
env_head sizes p first turns lo E = env_turns turns (behind_first p first lo) (env_pattern p (1 + lo) (env_sizes sizes E))
