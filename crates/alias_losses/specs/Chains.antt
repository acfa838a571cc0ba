-- What was consumed, by nodes: each entry tells where the one before it at its node is.
use Rattle.std.specs.Prelude.{◌≡◌, ℕ, suc, cond, nat_eq, nat_lt, List, [], ◌∷◌, length, reverse, get_or, Option, Some, None}
use Rattle.fut_aliases.specs.declared.aliases.Alias.{Alias}
use Rattle.fut_aliases.specs.declared.aliases.Alias.TheVariants.{Part, Own}
use Rattle.fut_aliases.specs.declared.refusals.Spot.{Spot}
use Rattle.fut_aliases.specs.Aliases.{is_alias}
use Rattle.alias_losses.specs.declared.chains.Entry.{Entry}

abbrev pub node_of : Alias → ℕ
node_of (Part n i b) = n
node_of (Own n) = n

-- of entries, the newest first: how many there are from the newest at a node on
unfoldable pub last : ℕ → List Entry → ℕ
last n [] = 0
last n (e ∷ es) = cond (nat_eq n (node_of e.loss.alias)) (suc (length es)) (last n es)

-- where an alias was consumed, among those behind the oldest so many
unfoldable pub seen : ℕ → Alias → List Entry → Option Spot
seen k a [] = None
seen k a (e ∷ es) = cond (nat_lt (length es) k) None (cond (is_alias a e.loss.alias) (Some e.loss.at) (seen k a es))

-- each tells of the one before it at its node, and its alias stands once
unfoldable pub Chain : List Entry → Type 0
Chain [] = Unit {0}
Chain (e ∷ es) = (e.before ≡ last (node_of e.loss.alias) es) × (seen 0 e.loss.alias es ≡ None) × Chain es

-- and the table tells of the newest at each node
unfoldable pub Chained : List Entry → List ℕ → Type 0
Chained es newest = Chain (reverse es) × ((n : ℕ) → get_or newest n 0 ≡ last n (reverse es))
