-- Walks over lists, for the parts of any list that is resolved from left to right in one scope.
use Rattle.std.specs.Prelude.{◌≡◌, ◌++◌, List, [], ◌∷◌, map, Result, Ok}
use Rattle.elab_scopes.specs.declared.table.Names.{Names}
use Rattle.elab_scopes.specs.Names.{Refusal}
use Rattle.elab_scopes.specs.Scopes.{Scope}
use Rattle.elab_scopes.specs.Resolve.{after}
use Rattle.elab_scopes.specs.Table.{scope_of}

unfoldable pub each : {S X Y : Type 0} → (X → Scope → S → Result (Y × S) Refusal) → List X → Scope → S → Result (List Y × S) Refusal
each g [] sc s = Ok ([], s)
each g (x ∷ xs) sc s = after (g x sc s) (λ y s. after (each g xs sc s) (λ ys s. Ok (y ∷ ys, s)))

-- so far these are done, with the names as they are now, and the rest is to be done
pub data Doing {S X Y R : Type 0} (state : Names → S) (view : R → Y) (g : X → Scope → S → Result (Y × S) Refusal) (xs : List X) (s : Names) (rest : List X) (done : List R) (t : Names) : Type 0 where
  doing : each g xs (scope_of s) (state s) ≡ after (each g rest (scope_of t) (state t)) (λ ys made. Ok (map view done ++ ys, made)) → scope_of t ≡ scope_of s → Doing state view g xs s rest done t
