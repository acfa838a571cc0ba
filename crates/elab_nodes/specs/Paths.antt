-- A path's fields, as they are taken one after another.
use Rattle.std.specs.Prelude.{◌≡◌, List, Result, Ok, Err}
use Rattle.std.specs.Borrow.{Bor}
use Rattle.fut_ast.specs.Sorts.{Text}
use Rattle.fut_scalar.specs.declared.place.Place.{Place}
use Rattle.fut_flat.specs.declared.exp.Exp.{Exp}
use Rattle.fut_flat.specs.Erased.{FlatTerm, term_of, texts}
use Rattle.elab_scopes.specs.declared.refusal.Stop.{Stop}
use Rattle.elab_scopes.specs.declared.refusal.Stop.TheVariants as stop
use Rattle.elab_scopes.specs.Resolve.{projected}

-- with these fields left
pub data Projects (at : Place) (all : FlatTerm) (rest : List (Bor Text)) : Result (Bor Exp) Stop → Type 0 where
  projects : {x : Bor Exp} → projected at (term_of x.now) (texts rest) ≡ all → Projects at all rest (Ok x)
  projects_not : Projects at all rest (Err stop.Memory)
