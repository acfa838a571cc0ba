-- What was read, as it is seen.
use Rattle.std.specs.Prelude.{ℕ, List}
use Rattle.std.specs.Borrow.{Bor}
use Rattle.fut_token.specs.declared.token.Token.{Token}
use Rattle.fut_ast.specs.Sorts.{Text, Path}
use Rattle.fut_ast.specs.declared.pat.Head.{Head as PlainHead}
use Rattle.fut_tree.specs.declared.held.Held.{Held}
use Rattle.fut_tree.specs.declared.pat.Head.{Head}
use Rattle.fut_tree.specs.Names.{names, all}
use Rattle.fut_tree.specs.Pats.{heads_of}
use Rattle.parse_types.specs.declared.found.Found.{Found}

-- a tree seen by view, its height, and the tokens behind it
abbrev pub found_as : {X Y : Type 0} → (X → Y) → Found X → Y × ℕ × List Token
found_as view x = (view x.tree, x.height, x.rest.now)

-- a tree held by reference
abbrev pub tree_found : {X : Type 0} → Found (Bor X) → X × ℕ × List Token
tree_found = found_as (λ t. t.now)

-- a list of trees
abbrev pub list_found : {X : Type 0} → Found (Bor (List (Held X))) → List X × ℕ × List Token
list_found = found_as (λ t. all t.now)

-- names
abbrev pub names_found : Found (Bor (List (Bor Text))) → Path × ℕ × List Token
names_found = found_as (λ t. names t.now)

-- size and type parameters
abbrev pub heads_found : Found (Bor (List Head)) → List PlainHead × ℕ × List Token
heads_found = found_as (λ t. heads_of t.now)
