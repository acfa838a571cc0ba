-- The scopes that trees in the arena are.
use Rattle.std.specs.Prelude.{ℕ, ◌/◌, ◌%◌, ◌-◌, nat_eq, cond, Option, Some, None}
use Rattle.std.specs.Borrow.{Bor}
use Rattle.fut_aliases.specs.Patterns.{Scope}
use Rattle.fut_aliases.specs.Values.{Value}
use Rattle.alias_values.specs.declared.trees.ValueTree.{ValueTree}
use Rattle.alias_values.specs.Trees.{value_of}
use Rattle.alias_scopes.specs.declared.trees.ScopeTree.{ScopeTree, ScopeTree-F, fold-ScopeTree}
use Rattle.alias_scopes.specs.declared.trees.ScopeTree.TheOpen as layer

abbrev pub held : Option (Bor ValueTree) → Option Value
held (Some v) = Some (value_of v.now)
held None = None

-- what 0 stands for, and where odd numbers and all others are looked up
abbrev pub forked : Option Value → Scope → Scope → Scope
forked own odd even = λ n. cond (nat_eq n 0) own (cond (nat_eq (n % 2) 1) (odd (n / 2)) (even (n / 2 - 1)))

unfoldable pub scope_form : ScopeTree-F Scope → Scope
scope_form layer.Empty = λ n. None
scope_form (layer.Fork own odd even) = forked (held own) odd.now even.now

unfoldable pub scope_of : ScopeTree → Scope
scope_of s = fold-ScopeTree Scope scope_form s
