-- Paths of fields, and fields of values.
use Rattle.std.proofs.Common.{◌≡◌, ℕ, suc, ◌+◌, Bool, true, false, List, [], ◌∷◌, length, Option, Some, None, Result, Ok, Err, refl, sym, ap, ◌∙◌, subst, arith}
use Rattle.std.specs.Prelude.{◌==◌}
use Rattle.std.specs.Borrow.{Bor}
use mathlib.Core.Logic.{inl, inr}
use Rattle.std.proofs.lemmas.Bool.Decides.{eqb_tells}
use Rattle.fut_ast.specs.Sorts.{Text}
use Rattle.fut_scalar.specs.declared.place.BindId.{BindId}
use Rattle.fut_flat.specs.Erased.{FlatTerm}
use Rattle.fut_types.specs.Types.{Ty, Kinds, Sub}
use Rattle.fut_typing.specs.Names.{Names}
use Rattle.fut_aliases.specs.Aliases.{Naming}
use Rattle.fut_aliases.specs.declared.refusals.Named.TheVariants.{AFunction}
use Rattle.fut_aliases.specs.Calls as definition
use Rattle.fut_aliases.specs.Calls.{Here, finished}
use Rattle.fut_aliases.specs.Looking.{projected, whole}
use Rattle.fut_aliases.specs.Steps.{Losses, Step, give, and_then}
use Rattle.fut_aliases.specs.Values.{Value, part_named}
use Rattle.alias_applications.specs.Shown.{shown_value}
use Rattle.alias_program.specs.declared.parts.Part.{Part}
use Rattle.alias_program.specs.Parts.{part_of}
use Rattle.alias_values.specs.declared.trees.ValueTree.{ValueTree}
use Rattle.alias_values.specs.Trees.{value_of}
use Rattle.uniqueness.specs.Answers.{Stepped}
use Rattle.uniqueness.specs.declared.held.Held.{Held}
use Rattle.uniqueness.specs.declared.held.Stop.{Stop}
use Rattle.uniqueness.specs.Held.{helds_of}
use Rattle.alias_applications.proofs.StepForms.{bind_ok, bind_stop, given, reworded}
use Rattle.alias_operations.specs.Paths.{field_of_path, is_path, is_path_of}

pub path_some : (b : BindId) (xs : List Held) (name : Option BindId) (t : Bool) → name ≡ Some b → t ≡ (length xs == 0) → t ≡ is_path_of name (helds_of xs)
path_some b xs name t i e = e ∙ by_arguments xs ∙ ap (λ z. is_path_of z (helds_of xs)) (sym i)
  where
    by_arguments : (ys : List Held) → (length ys == 0) ≡ is_path_of (Some b) (helds_of ys)
    by_arguments [] = refl
    by_arguments (y ∷ ys) = elim (eqb_tells (suc (length ys)) 0) as (λ d. (suc (length ys) == 0) ≡ false) [ inl s ↦ absurd (omega (arith, s.1)) | inr s ↦ s.0 ]

pub path_none : (xs : List Held) (name : Option BindId) → name ≡ None → false ≡ is_path_of name (helds_of xs)
path_none xs name i = ap (λ z. is_path_of z (helds_of xs)) (sym i)

pub path_made : (N : Names) (f : Text) (p : definition.Part) (t u : Ty) (v : Value) → t ≡ u → v ≡ part_named N f p.head.value
    → record { head = record { node = p.head.node; called = AFunction; first_name = p.head.first_name; value = v; losses = p.head.losses }; name = p.name; type = t; arguments = p.arguments } ≡ field_of_path N f u p
path_made N f p t u v e g =
    ap (λ z. record { head = record { node = p.head.node; called = AFunction; first_name = p.head.first_name; value = v; losses = p.head.losses }; name = p.name; type = z; arguments = p.arguments }) e
    ∙ ap (λ z. record { head = record { node = p.head.node; called = AFunction; first_name = p.head.first_name; value = z; losses = p.head.losses }; name = p.name; type = u; arguments = p.arguments }) g

module _ (naming : Naming) (N : Names) (K : Kinds) (types : Sub) (h : Here) (e : FlatTerm) (f : Text) (lo : ℕ) (p : definition.Part) where
  pub path_is : is_path p ≡ true → projected naming N K types h e f lo p ≡ give (field_of_path N f (types lo) p)
  path_is t = by_parts p.name p.arguments t
    where
      by_parts : (name : Option BindId) (arguments : List definition.Held) → is_path_of name arguments ≡ true → projected naming N K types h e f lo (record { head = p.head; name = name; type = p.type; arguments = arguments }) ≡ give (field_of_path N f (types lo) (record { head = p.head; name = name; type = p.type; arguments = arguments }))
      by_parts (Some b) [] t = refl
      by_parts (Some b) (a ∷ more_of) t = cc
      by_parts None arguments t = cc

  pub field_is : is_path p ≡ false → projected naming N K types h e f lo p ≡ and_then (finished K h (2 + lo) p) (λ v. whole naming N K types e lo (part_named N f v))
  field_is t = by_parts p.name p.arguments t
    where
      by_parts : (name : Option BindId) (arguments : List definition.Held) → is_path_of name arguments ≡ false
          → projected naming N K types h e f lo (record { head = p.head; name = name; type = p.type; arguments = arguments }) ≡ and_then (finished K h (2 + lo) (record { head = p.head; name = name; type = p.type; arguments = arguments })) (λ v. whole naming N K types e lo (part_named N f v))
      by_parts (Some b) [] t = cc
      by_parts (Some b) (a ∷ more_of) t = refl
      by_parts None arguments t = refl

  abbrev this : Step definition.Part
  this = projected naming N K types h e f lo p

  pub path_done : (q : Part) (ls : Losses) → is_path p ≡ true → part_of q ≡ field_of_path N f (types lo) p → Stepped part_of this ls ls (Ok q)
  path_done q ls t i = reworded part_of (give (field_of_path N f (types lo) p)) this ls ls (Ok q) (ap (λ (z : Step definition.Part). z ls) (path_is t)) (given part_of (field_of_path N f (types lo) p) q ls i)

  module _ (other : is_path p ≡ false) (n : ℕ) (two : n ≡ lo + 2) (old mid : Losses) where
    abbrev field_of_value : Step definition.Part
    field_of_value = and_then (finished K h n p) (λ v. whole naming N K types e lo (part_named N f v))

    by_value : this old ≡ field_of_value old
    by_value = let k : 2 + lo ≡ n = omega (arith, two) in ap (λ (z : Step definition.Part). z old) (field_is other ∙ ap (λ z. and_then (finished K h z p) (λ v. whole naming N K types e lo (part_named N f v))) k)

    pub field_stop : (s : Stop) → Stepped shown_value (finished K h n p) old mid (Err s) → Stepped part_of this old mid (Err s)
    field_stop s t = reworded part_of field_of_value this old mid (Err s) by_value (bind_stop shown_value part_of (finished K h n p) (λ v. whole naming N K types e lo (part_named N f v)) old mid mid s t)

    pub field_done : (v : Bor ValueTree) (found : Value) (r : Result Part Stop) → Stepped shown_value (finished K h n p) old mid (Ok v) → found ≡ part_named N f (value_of v.now) → Stepped part_of (whole naming N K types e lo found) mid mid r → Stepped part_of this old mid r
    field_done v found r t i s = reworded part_of field_of_value this old mid r by_value
        (bind_ok shown_value part_of (finished K h n p) (λ v. whole naming N K types e lo (part_named N f v)) old mid mid v r t (subst (λ z. Stepped part_of (whole naming N K types e lo z) mid mid r) i s))
