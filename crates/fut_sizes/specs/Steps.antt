-- Sizing goes by steps: each gives a result or the first refusal, and keeps the sized type of each node.
use Rattle.std.specs.Prelude.{ℕ, cond, nat_eq, List, ◌++◌, Ok}
use Rattle.sized_types.specs.Sizes.{Size}
use Rattle.fut_sizes.specs.Agreeing.{Answer, then_do}

pub record State : Type 0 where
  pub nodes : ℕ → Size
  -- of the loop at a node, the levels of its parameter that it does not keep
  pub dropped : ℕ → List ℕ

pub record Done (A : Type 0) : Type 0 where
  pub result : A
  pub state : State

abbrev pub Step : Type 0 → Type 0
Step A = State → Answer (Done A)

abbrev pub give : {A : Type 0} → A → Step A
give a s = Ok (record { result = a; state = s })

abbrev pub ask : {A : Type 0} → Answer A → Step A
ask r s = then_do r (λ a. Ok (record { result = a; state = s }))

abbrev pub and_then : {A B : Type 0} → Step A → (A → Step B) → Step B
and_then m next s = then_do (m s) (λ d. next d.result d.state)

abbrev pub at_node : {A : Type 0} → ℕ → A → (ℕ → A) → ℕ → A
at_node n a f = λ m. cond (nat_eq n m) a (f m)

-- the sized type of a node
abbrev pub note : ℕ → Size → Step Size
note n t s = Ok (record { result = t; state = record { nodes = at_node n t s.nodes; dropped = s.dropped } })

abbrev pub node_size : ℕ → Step Size
node_size n s = Ok (record { result = s.nodes n; state = s })

-- levels that a loop does not keep either
abbrev pub drop : ℕ → List ℕ → Step (Unit {0})
drop n levels s = Ok (record { result = tt; state = record { nodes = s.nodes; dropped = at_node n (s.dropped n ++ levels) s.dropped } })

abbrev pub dropped_by : ℕ → Step (List ℕ)
dropped_by n s = Ok (record { result = s.dropped n; state = s })
