-- What a settled graph tells of the program's nodes: principal types, and what is left open in them.
use Rattle.std.specs.Prelude.{◌≡◌, ℕ, zero, suc, ◌<◌, ◌≤◌, List, [], ◌∷◌, length}
use Rattle.fut_types.specs.Types.{Sub}
use Rattle.fut_typing.specs.Answers.{Open, Principal}
use Rattle.type_graph.specs.declared.Form.{Form}
use Rattle.type_graph.specs.declared.Form.TheVariants as form
use Rattle.type_graph.specs.declared.Node.{Node}
use Rattle.type_graph.specs.declared.Entry.{Entry}
use Rattle.type_graph.specs.Graph.{node_at, Tables, Plain, IsGraph}
use Rattle.type_graph.specs.State.{State}
use Rattle.type_graph.specs.Resolving.{resolved, noted, Stable, SettledIn}
use Rattle.type_graph.specs.Claims.{Inside, Possible}

-- the named parts of a variable v, in a chain, before others; s has the types of all nodes
unfoldable pub chain_opens : (ℕ → Entry) → Sub → ℕ → ℕ → ℕ → List Open → List Open
chain_opens entry s v e zero rest = rest
chain_opens entry s v e (suc count) rest = record { variable = v; label = (entry e).label; part = s (entry e).child } ∷ chain_opens entry s v (entry e).next count rest

abbrev pub form_opens : Tables → Sub → ℕ → Form → List Open → List Open
form_opens T s v form.Free rest = rest
form_opens T s v (form.Link j) rest = rest
form_opens T s v (form.Made h x n) rest = rest
form_opens T s v (form.Open e n) rest = chain_opens T.entry s v e n rest

-- what is open in the first nodes
unfoldable pub opens_below : Tables → List Node → Sub → ℕ → List Open
opens_below T nodes s zero = []
opens_below T nodes s (suc i) = form_opens T s i (node_at nodes i).form (opens_below T nodes s i)

-- the resolved types are the principal ones of the numbers below base
pub record Tells_all (T : Tables) (base : ℕ) (nodes : List Node) : Type 0 where
  pub depth : ℕ
  pub stable : Stable nodes depth
  pub principal : Principal T.shapes base (λ K a. Possible T base K a nodes)
  pub kinds : principal.kinds ≡ noted nodes
  pub types : principal.types ≡ resolved nodes depth
  pub opens : principal.opens ≡ opens_below T nodes (resolved nodes depth) (length nodes)

-- each settled graph tells them, where type parameters stand for themselves
abbrev pub Law : Type 0
Law = (T : Tables) (home : ℕ → ℕ) (base : ℕ) (nodes : List Node) → Plain T → IsGraph nodes → Inside T nodes → base ≤ length nodes → State T home base nodes [] → ((i : ℕ) → i < length nodes → SettledIn nodes i) → Tells_all T base nodes
