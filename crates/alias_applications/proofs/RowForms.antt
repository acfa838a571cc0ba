-- A row of applications, one argument after another.
use Rattle.std.proofs.Common.{◌≡◌, ℕ, ◌<◌, List, [], ◌∷◌, length, true, false, is_some, Option, Some, None, Result, Ok, Err, refl, sym, ap, ◌∙◌, subst, arith}
use Rattle.std.specs.Borrow.{Bor}
use Rattle.fut_flat.specs.Erased.{FlatTerm}
use Rattle.fut_types.specs.Types.{Sub, Kinds}
use Rattle.fut_typing.specs.Names.{Names}
use Rattle.fut_aliases.specs.Aliases.{Naming}
use Rattle.fut_aliases.specs.Calls as definition
use Rattle.fut_aliases.specs.Calls.{Here, finished, stars_behind, stars_of as function_stars, use_name}
use Rattle.fut_aliases.specs.Looking.{part_of as definition_part, ready, wanted_parameter, whole}
use Rattle.fut_aliases.specs.Stars.{Stars, Leaf, Arrow, Row}
use Rattle.fut_aliases.specs.Steps.{Answer, Losses, Done, Step, give, and_then}
use Rattle.fut_aliases.specs.Values.{Value}
use Rattle.alias_values.specs.declared.trees.StarTree.{StarTree}
use Rattle.alias_values.specs.declared.trees.ValueTree.{ValueTree}
use Rattle.alias_values.specs.Trees.{type_of, value_of}
use Rattle.uniqueness.specs.Answers.{Stepped, stepped, refused, no_memory}
use Rattle.uniqueness.specs.declared.held.Held.{Held}
use Rattle.uniqueness.specs.declared.held.Stop.{Stop}
use Rattle.uniqueness.specs.Held.{held_of, helds_of}
use Rattle.alias_program.specs.declared.parts.Part.{Part}
use Rattle.alias_program.specs.Parts.{part_of}
use Rattle.alias_applications.specs.Givens.{is_arrow}
use Rattle.alias_applications.specs.Shown.{part_with, shown_value, wanted_of}
use Rattle.alias_applications.proofs.StepForms.{bind_ok, bind_stop, given, reworded}

abbrev parameter_of : Stars → Option Stars
parameter_of (Arrow b q r) = Some q
parameter_of u = None

-- whether something is wanted, and whether a parameter is left
arrow_wanted : (w : Option (Bor StarTree)) (u : Stars) → wanted_of w ≡ parameter_of u → true ≡ is_some w → is_arrow u ≡ true
arrow_wanted (Some q) (Arrow b p r) e h = refl
arrow_wanted (Some q) (Leaf b) e h = cc
arrow_wanted (Some q) (Row us) e h = cc
arrow_wanted None u e h = cc

arrow_not : (w : Option (Bor StarTree)) (u : Stars) → wanted_of w ≡ parameter_of u → false ≡ is_some w → is_arrow u ≡ false
arrow_not (Some q) u e h = cc
arrow_not None (Arrow b p r) e h = cc
arrow_not None (Leaf b) e h = refl
arrow_not None (Row us) e h = refl

no_helds : (xs : List Held) → length xs ≡ 0 → helds_of xs ≡ []
no_helds [] l = refl
no_helds (x ∷ xs) l = absurd (omega (arith, l))

-- the same arguments
pub wanted_as : (p : Part) (xs ys : List Held) (w : Option (Bor StarTree)) → xs ≡ ys → wanted_of w ≡ wanted_parameter (part_with p xs) → wanted_of w ≡ wanted_parameter (part_with p ys)
wanted_as p xs ys w e h = h ∙ ap (λ z. wanted_parameter (part_with p z)) e

pub finished_as : (K : Kinds) (h : Here) (n : ℕ) (p : Part) (xs ys : List Held) (ls ms : Losses) (r : Result (Bor ValueTree) Stop) → xs ≡ ys → Stepped shown_value (finished K h n (part_with p xs)) ls ms r → Stepped shown_value (finished K h n (part_with p ys)) ls ms r
finished_as K h n p xs ys ls ms r e m = subst (λ z. Stepped shown_value (finished K h n (part_with p z)) ls ms r) e m

module _ (naming : Naming) (N : Names) (K : Kinds) (types : Sub) (h : Here) (f : FlatTerm) (n : ℕ) where
  -- a function with these arguments, of which these stars are left
  abbrev as_function : definition.Part → List definition.Held → Stars → Step definition.Part
  as_function p [] u = and_then (use_name K h p) (λ z. give (definition_part p.head None p.type))
  as_function p (a ∷ more_of) (Arrow b q r) = give p
  as_function p (a ∷ more_of) u = and_then (finished K h n p) (λ v. whole naming N K types f n v)

  stays : (p : definition.Part) (a : definition.Held) (xs : List definition.Held) (u : Stars) → is_arrow u ≡ true → as_function p (a ∷ xs) u ≡ give p
  stays p a xs (Arrow b q r) e = refl
  stays p a xs (Leaf b) e = cc
  stays p a xs (Row us) e = cc

  called : (p : definition.Part) (a : definition.Held) (xs : List definition.Held) (u : Stars) → is_arrow u ≡ false → as_function p (a ∷ xs) u ≡ and_then (finished K h n p) (λ v. whole naming N K types f n v)
  called p a xs (Arrow b q r) e = cc
  called p a xs (Leaf b) e = refl
  called p a xs (Row us) e = refl

  module _ (p : Part) (xs : List Held) where
    abbrev here_part : definition.Part
    here_part = part_with p xs

    abbrev left_stars : Stars
    left_stars = stars_behind (helds_of xs) (function_stars (value_of p.head.value.now))

    used_step : length xs ≡ 0 → ready naming N K types h f n here_part ≡ and_then (use_name K h here_part) (λ z. give (record { head = held_of p.head; name = None; type = type_of p.ty.now; arguments = [] }))
    used_step l = by_arguments xs l
      where
        by_arguments : (ys : List Held) → length ys ≡ 0 → ready naming N K types h f n (part_with p ys) ≡ and_then (use_name K h (part_with p ys)) (λ z. give (record { head = held_of p.head; name = None; type = type_of p.ty.now; arguments = [] }))
        by_arguments [] l = refl
        by_arguments (y ∷ ys) l = absurd (omega (arith, l))

    stays_step : 0 < length xs → is_arrow left_stars ≡ true → ready naming N K types h f n here_part ≡ give here_part
    stays_step l e = by_arguments xs l e
      where
        by_arguments : (ys : List Held) → 0 < length ys → is_arrow (stars_behind (helds_of ys) (function_stars (value_of p.head.value.now))) ≡ true → ready naming N K types h f n (part_with p ys) ≡ give (part_with p ys)
        by_arguments [] l e = absurd (omega (arith, l))
        by_arguments (y ∷ ys) l e = stays (part_with p (y ∷ ys)) (held_of y) (helds_of ys) (stars_behind (helds_of (y ∷ ys)) (function_stars (value_of p.head.value.now))) e

    called_step : 0 < length xs → is_arrow left_stars ≡ false → ready naming N K types h f n here_part ≡ and_then (finished K h n here_part) (λ v. whole naming N K types f n v)
    called_step l e = by_arguments xs l e
      where
        by_arguments : (ys : List Held) → 0 < length ys → is_arrow (stars_behind (helds_of ys) (function_stars (value_of p.head.value.now))) ≡ false → ready naming N K types h f n (part_with p ys) ≡ and_then (finished K h n (part_with p ys)) (λ v. whole naming N K types f n v)
        by_arguments [] l e = absurd (omega (arith, l))
        by_arguments (y ∷ ys) l e = called (part_with p (y ∷ ys)) (held_of y) (helds_of ys) (stars_behind (helds_of (y ∷ ys)) (function_stars (value_of p.head.value.now))) e

    module _ (zs : List Held) (ls : Losses) where
      abbrev with_these : Part → definition.Part
      with_these q = part_with q zs

      pub ready_used : length xs ≡ 0 → zs ≡ xs → Stepped (λ (u : Unit {0}). tt) (use_name K h here_part) ls ls (Ok tt) → Stepped with_these (ready naming N K types h f n here_part) ls ls (Ok (record { head = p.head; name = None; ty = p.ty; arguments = p.arguments }))
      ready_used l z m = reworded with_these (and_then (use_name K h here_part) (λ z. give (record { head = held_of p.head; name = None; type = type_of p.ty.now; arguments = [] }))) (ready naming N K types h f n here_part) ls ls (Ok (record { head = p.head; name = None; ty = p.ty; arguments = p.arguments })) (ap (λ (k : Step definition.Part). k ls) (used_step l))
          (bind_ok (λ (u : Unit {0}). tt) with_these (use_name K h here_part) (λ z. give (record { head = held_of p.head; name = None; type = type_of p.ty.now; arguments = [] })) ls ls ls tt (Ok (record { head = p.head; name = None; ty = p.ty; arguments = p.arguments })) m
          (given with_these (record { head = held_of p.head; name = None; type = type_of p.ty.now; arguments = [] }) (record { head = p.head; name = None; ty = p.ty; arguments = p.arguments }) ls (ap (λ y. record { head = held_of p.head; name = None; type = type_of p.ty.now; arguments = y }) (ap helds_of z ∙ no_helds xs l))))

      pub ready_unused : (s : Stop) → length xs ≡ 0 → Stepped (λ (u : Unit {0}). tt) (use_name K h here_part) ls ls (Err s) → Stepped with_these (ready naming N K types h f n here_part) ls ls (Err s)
      ready_unused s l m = reworded with_these (and_then (use_name K h here_part) (λ z. give (record { head = held_of p.head; name = None; type = type_of p.ty.now; arguments = [] }))) (ready naming N K types h f n here_part) ls ls (Err s) (ap (λ (k : Step definition.Part). k ls) (used_step l))
          (bind_stop (λ (u : Unit {0}). tt) with_these (use_name K h here_part) (λ z. give (record { head = held_of p.head; name = None; type = type_of p.ty.now; arguments = [] })) ls ls ls s m)

      pub ready_stays : (q : Part) (w : Option (Bor StarTree)) → 0 < length xs → wanted_of w ≡ wanted_parameter here_part → true ≡ is_some w → with_these q ≡ here_part → Stepped with_these (ready naming N K types h f n here_part) ls ls (Ok q)
      ready_stays q w l e k g = reworded with_these (give here_part) (ready naming N K types h f n here_part) ls ls (Ok q) (ap (λ (m : Step definition.Part). m ls) (stays_step l (arrow_wanted w left_stars e k))) (given with_these here_part q ls g)

      module _ (w : Option (Bor StarTree)) (l : 0 < length xs) (e : wanted_of w ≡ wanted_parameter here_part) (k : false ≡ is_some w) where
        pub ready_stopped : (ms : Losses) (s : Stop) → Stepped shown_value (finished K h n here_part) ls ms (Err s) → Stepped with_these (ready naming N K types h f n here_part) ls ms (Err s)
        ready_stopped ms s m = reworded with_these (and_then (finished K h n here_part) (λ v. whole naming N K types f n v)) (ready naming N K types h f n here_part) ls ms (Err s) (ap (λ (j : Step definition.Part). j ls) (called_step l (arrow_not w left_stars e k)))
            (bind_stop shown_value with_these (finished K h n here_part) (λ v. whole naming N K types f n v) ls ms ms s m)

        pub ready_called : (ms : Losses) (b : Bor ValueTree) (r : Result Part Stop) → Stepped shown_value (finished K h n here_part) ls ms (Ok b) → Stepped with_these (whole naming N K types f n (value_of b.now)) ms ms r → Stepped with_these (ready naming N K types h f n here_part) ls ms r
        ready_called ms b r m j = reworded with_these (and_then (finished K h n here_part) (λ v. whole naming N K types f n v)) (ready naming N K types h f n here_part) ls ms r (ap (λ (i : Step definition.Part). i ls) (called_step l (arrow_not w left_stars e k)))
            (bind_ok shown_value with_these (finished K h n here_part) (λ v. whole naming N K types f n v) ls ms ms b r m j)

-- a whole has no arguments
abbrev arguments_in : Answer (Done definition.Part) → List definition.Held
arguments_in (Ok d) = d.result.arguments
arguments_in (Err e) = []

pub whole_alone : (naming : Naming) (N : Names) (K : Kinds) (types : Sub) (f : FlatTerm) (n : ℕ) (v : Value) (zs : List Held) (ls ms : Losses) (r : Result Part Stop) → zs ≡ [] → Stepped part_of (whole naming N K types f n v) ls ms r → Stepped (λ (p : Part). part_with p zs) (whole naming N K types f n v) ls ms r
whole_alone naming N K types f n v zs ls ms (Ok q) z (stepped e g) = stepped (e ∙ ap (λ y. Ok (record { result = record { head = held_of q.head; name = q.name; type = type_of q.ty.now; arguments = y }; losses = ms })) (sym (ap arguments_in e) ∙ ap helds_of (sym z))) g
whole_alone naming N K types f n v zs ls ms (Err s) z (refused q) = refused q
whole_alone naming N K types f n v zs ls ms (Err s) z no_memory = no_memory
