-- How a phrase ended whose production makes all its trees end alike.
use Rattle.std.proofs.Common.{◌≡◌, ℕ, List, [], ◌∷◌}
use Rattle.fut_token.specs.declared.token.Token.{Token}
use Rattle.fut_ast.specs.declared.node.Ended.{Ended}
use Rattle.fut_ast.specs.Sorts.{Sort, Tree}
use Rattle.fut_ast.specs.Parts.{Part, Value, Builds}
use Rattle.fut_ast.specs.Grammar.{Parts, done, then_}

-- each tree that b makes ends so
abbrev pub Ends : (n : Sort) → (Tree n → Ended) → (ps : List Part) → Builds ps n → Ended → Type 0
Ends n end [] b e = end b ≡ e
Ends n end (q ∷ ps) b e = (v : Value q) → Ends n end ps (b v) e

pub ends_so : {n : Sort} (end : Tree n → Ended) {ps : List Part} {b : Builds ps n} {p : Tree n} {e : Ended} {g h : ℕ} {ts rest : List Token} → Parts n ps b p g h ts rest → Ends n end ps b e → end p ≡ e
ends_so end done x = x
ends_so end (then_ {v = v} y xs) x = ends_so end xs (x v)
