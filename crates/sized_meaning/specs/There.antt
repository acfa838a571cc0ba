-- Where sizes may be reported: each `:>` and each `unflatten` stands at one of these places.
use Rattle.std.specs.Prelude.{◌≡◌, Bool, true}
use Rattle.fut_scalar.specs.declared.place.BindId.{BindId}
use Rattle.fut_scalar.specs.declared.place.Place.{Place}
use Rattle.fut_scalar.specs.declared.report.FailKind.TheVariants as kind
use Rattle.fut_scalar.specs.declared.report.Report.{Report}
use Rattle.fut_flat.specs.declared.prim.Primitive.{Primitive}
use Rattle.fut_flat.specs.declared.prim.Primitive.TheVariants as prim
use Rattle.fut_flat.specs.declared.prim.Ref.{Ref}
use Rattle.fut_flat.specs.declared.prim.Ref.TheVariants as ref
use Rattle.fut_flat.specs.Erased.{FlatTerm, FlatTurns}
use Rattle.fut_flat.specs.Terms.{Operation, Coerce, Use, Strict, Lambda, Apply, Let, If, Loop, Terms, no_term, term_and, Counted, Over, While}

module _ (is_there : Place → Bool) where
  -- a report of sizes that differ comes from there
  abbrev pub There : Report → Type 0
  There r = r.kind ≡ kind.Size → is_there r.place ≡ true

  abbrev pub Primitive_there : Primitive → Place → Type 0
  Primitive_there prim.Unflatten at = is_there at ≡ true
  Primitive_there p at = Unit {0}

  abbrev pub Use_there : Ref → Place → Type 0
  Use_there (ref.Prim p) at = Primitive_there p at
  Use_there r at = Unit {0}

  abbrev pub Operation_there : Operation Ref BindId → Place → Type 0
  Operation_there (Coerce e) at = is_there at ≡ true
  Operation_there o at = Unit {0}

  unfoldable mutual
    pub Term_there : FlatTerm → Type 0
    Term_there (Use r at k) = Use_there r at
    Term_there (Strict o mark ts) = Operation_there o mark × Terms_there ts
    Term_there (Lambda ps e) = Term_there e
    Term_there (Apply f e) = Term_there f × Term_there e
    Term_there (Let b v e) = Term_there v × Term_there e
    Term_there (If c a b) = Term_there c × Term_there a × Term_there b
    Term_there (Loop mark sizes p first turns body) = Term_there first × Turns_there turns × Term_there body

    pub Terms_there : Terms Ref BindId → Type 0
    Terms_there no_term = Unit {0}
    Terms_there (term_and t ts) = Term_there t × Terms_there ts

    pub Turns_there : FlatTurns → Type 0
    Turns_there (Counted i n) = Term_there n
    Turns_there (Over p e) = Term_there e
    Turns_there (While c) = Term_there c

-- where that is anywhere, nothing is asked of terms
abbrev pub anywhere : Place → Bool
anywhere at = true
