-- What walks make lists of.
use Rattle.std.specs.Prelude.{◌≡◌, ◌++◌, List, [], ◌∷◌, Result, Ok, Err}
use Rattle.elab_scopes.specs.declared.refusal.Stop.{Stop}
use Rattle.elab_scopes.specs.declared.refusal.Stop.TheVariants as stop

-- what a walk gave, put behind a list
pub data Put {A R : Type 0} (item : R → A) : Result R Stop → List A → List A → Result (Unit {0}) Stop → Type 0 where
  put : {x : R} {done more : List A} {w : Unit {0}} → more ≡ done ++ item x ∷ [] → Put item (Ok x) done more (Ok w)
  no_item : {e : Stop} {done more : List A} → Put item (Err e) done more (Err e)
  no_room : {r : Result R Stop} {done more : List A} → Put item r done more (Err stop.Memory)
