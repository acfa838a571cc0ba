-- Expressions that are visits of their own.
use Rattle.std.specs.Prelude.{◌≡◌, ◌<◌, List, length, map, Bool, true, false}
use Rattle.std.specs.Borrow.{Bor}
use Rattle.fut_scalar.specs.declared.place.Place.{Place}
use Rattle.fut_flat.specs.declared.act.Act.{Act}
use Rattle.fut_flat.specs.declared.act.Act.TheVariants as act
use Rattle.fut_flat.specs.declared.exp.Exp.{Exp}
use Rattle.fut_flat.specs.declared.exp.Form.TheVariants as form
use Rattle.fut_flat.specs.declared.exp.Let.{Let}
use Rattle.fut_flat.specs.Erased.{FlatType, FlatTerm, operation_of, term_of, terms}
use Rattle.fut_flat.specs.Terms.{Declared, Strict, no_term, term_and}
use Rattle.fut_meaning.specs.Walk.{is_visit}

abbrev pub is_declared : Act → Bool
is_declared (act.Declared t) = true
is_declared a = false

-- a term without declared types around it
pub data Peels : FlatTerm → FlatTerm → Type 0 where
  bare : {t : FlatTerm} → Peels t t
  declared : {u : FlatType} {mark : Place} {e t : FlatTerm} → Peels e t → Peels (Strict (Declared u) mark (term_and e no_term)) t

-- an operation is a visit, and a list of lets is not empty
pub record Plain (e : Exp) : Type 0 where
  pub strict : (a : Act) (mark : Place) (es : Bor (List Exp)) → e.form ≡ form.Strict a mark es → is_visit (operation_of a) (terms (map term_of es.now)) ≡ true
  pub row : (ls : Bor (List Let)) (b : Bor Exp) → e.form ≡ form.Lets ls b → 0 < length ls.now
