-- Reports of other kinds than sizes are told anywhere; and where sizes may be reported anywhere, nothing is asked of terms.
use Rattle.std.specs.Prelude.{Bool}
use Rattle.std.proofs.Common.{◌≡◌, List, [], ◌∷◌, refl}
use Rattle.fut_scalar.specs.declared.place.Place.{Place}
use Rattle.fut_scalar.specs.declared.report.FailKind.TheVariants as kind
use Rattle.fut_scalar.specs.declared.place.BindId.{BindId}
use Rattle.fut_flat.specs.declared.prim.Primitive.{Primitive}
use Rattle.fut_flat.specs.declared.prim.Primitive.TheVariants as prim
use Rattle.fut_flat.specs.declared.prim.Ref.{Ref}
use Rattle.fut_flat.specs.declared.prim.Ref.TheVariants as ref
use Rattle.fut_flat.specs.Erased.{FlatTerm, FlatTurns}
use Rattle.fut_flat.specs.Terms.{Operation, Coerce, Use, Strict, Lambda, Apply, Let, If, Loop, Terms, no_term, term_and, Counted, Over, While}
use Rattle.fut_meaning.specs.Flats.{Named_term}
use Rattle.fut_meaning.specs.Operations.{report}
use Rattle.sized_meaning.specs.There.{There, Primitive_there, Use_there, Operation_there, Term_there, Terms_there, Turns_there, anywhere}
use Rattle.sized_meaning.specs.Reports.{Definitions_there}
use Rattle.sized_meaning.proofs.Reporting.{bounds, range_kind, heavy}

no_turns : kind.Turns ≡ kind.Size → ⊥
no_turns e = let z = e in cc

no_division : kind.Division ≡ kind.Size → ⊥
no_division e = let z = e in cc

no_power : kind.Power ≡ kind.Size → ⊥
no_power e = let z = e in cc

no_assertion : kind.Assert ≡ kind.Size → ⊥
no_assertion e = let z = e in cc

module _ (is_there : Place → Bool) (at : Place) where
  pub too_large : There is_there (report kind.TooLarge at)
  too_large = λ e. absurd (heavy is_there e)

  pub out_of_bounds : There is_there (report kind.Bounds at)
  out_of_bounds = λ e. absurd (bounds is_there e)

  pub bad_range : There is_there (report kind.Range at)
  bad_range = λ e. absurd (range_kind is_there e)

  pub too_many_turns : There is_there (report kind.Turns at)
  too_many_turns = λ e. absurd (no_turns e)

  pub divided : There is_there (report kind.Division at)
  divided = λ e. absurd (no_division e)

  pub raised : There is_there (report kind.Power at)
  raised = λ e. absurd (no_power e)

  pub asserted : There is_there (report kind.Assert at)
  asserted = λ e. absurd (no_assertion e)

-- ---- where sizes may be reported anywhere

primitive_anywhere : (p : Primitive) (at : Place) → Primitive_there anywhere p at
primitive_anywhere prim.Unflatten at = refl
primitive_anywhere p at = tt

use_anywhere : (r : Ref) (at : Place) → Use_there anywhere r at
use_anywhere (ref.Prim p) at = primitive_anywhere p at
use_anywhere (ref.Bound b) at = tt
use_anywhere (ref.Scalar s) at = tt

operation_anywhere : (o : Operation Ref BindId) (at : Place) → Operation_there anywhere o at
operation_anywhere (Coerce e) at = refl
operation_anywhere o at = tt

mutual
  unfolding Term_there Terms_there Turns_there

  pub term_anywhere : (t : FlatTerm) → Term_there anywhere t
  term_anywhere (Use r at k) = use_anywhere r at
  term_anywhere (Strict o mark ts) = (operation_anywhere o mark, terms_anywhere ts)
  term_anywhere (Lambda ps e) = term_anywhere e
  term_anywhere (Apply f e) = (term_anywhere f, term_anywhere e)
  term_anywhere (Let b v e) = (term_anywhere v, term_anywhere e)
  term_anywhere (If c a b) = (term_anywhere c, term_anywhere a, term_anywhere b)
  term_anywhere (Loop mark sizes p first turns body) = (term_anywhere first, turns_anywhere turns, term_anywhere body)

  terms_anywhere : (ts : Terms Ref BindId) → Terms_there anywhere ts
  terms_anywhere no_term = tt
  terms_anywhere (term_and t ts) = (term_anywhere t, terms_anywhere ts)

  turns_anywhere : (turns : FlatTurns) → Turns_there anywhere turns
  turns_anywhere (Counted i n) = term_anywhere n
  turns_anywhere (Over p e) = term_anywhere e
  turns_anywhere (While c) = term_anywhere c

pub definitions_anywhere : (ds : List Named_term) → Definitions_there anywhere ds
definitions_anywhere [] = tt
definitions_anywhere (d ∷ ds) = (term_anywhere d.1, definitions_anywhere ds)
