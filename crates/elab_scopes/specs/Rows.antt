-- The list of members that a row stands for.
use Rattle.std.specs.Prelude.{List, [], ◌∷◌, Option, Some, None}
use Rattle.std.specs.Borrow.{Bor}
use Rattle.elab_scopes.specs.Scopes.{Member}
use Rattle.elab_scopes.specs.declared.meanings.Member.{Member as HeldMember}
use Rattle.elab_scopes.specs.Held.{member_of}

abbrev pub row_of : Option (HeldMember × Bor (List Member)) → List Member
row_of None = []
row_of (Some (m, older)) = member_of m ∷ older.now
