-- Definitions, one after another.
use Rattle.std.proofs.Common.{◌≡◌, ℕ, ◌+◌, ◌<◌, ◌≤◌, true, false, List, [], ◌∷◌, map, length, get_or, drop, Some, None, Result, Ok, Err, refl, sym, ap, ◌∙◌, subst, arith}
use Rattle.fut_flat.specs.declared.program.Definition.{Definition}
use Rattle.fut_flat.specs.Erased.{term_of}
use Rattle.fut_flat.specs.Numbers.{numbers}
use Rattle.fut_types.specs.Types.{Kinds, Sub}
use Rattle.fut_typing.specs.Names.{Names}
use Rattle.fut_typing.specs.Program.{Defined, defined}
use Rattle.fut_aliases.specs.Aliases.{Naming, Set}
use Rattle.fut_aliases.specs.declared.refusals.Broken.{Broken}
use Rattle.fut_aliases.specs.Calls as definition
use Rattle.fut_aliases.specs.Calls.{Here}
use Rattle.fut_aliases.specs.Looking.{by_itself, looked, value_looked}
use Rattle.fut_aliases.specs.Patterns.{Scope, bound, nothing, with_value}
use Rattle.fut_aliases.specs.Programs.{broken, definition_looked, definitions_looked, first_broken}
use Rattle.fut_aliases.specs.Steps.{Answer, Done, Losses, Step, then_do}
use Rattle.fut_aliases.specs.Values.{Value, named}
use Rattle.alias_values.proofs.Rows.{one_more, drop_past}
use Rattle.uniqueness.specs.Answers.{Stepped, stepped, refused}
use Rattle.uniqueness.specs.declared.held.Stop.{Stop}
use Rattle.uniqueness.specs.declared.held.Stop.TheVariants as stop
use Rattle.alias_forms.specs.declared.seen.Found.{Found}
use Rattle.alias_forms.specs.Seen.{FoundEnds, held_found}

-- a stop is the same whatever the result would have been
abbrev stop_in : {A : Type 0} → Stop → Result A Stop → Stop
stop_in d (Ok a) = d
stop_in d (Err e) = e

pub same_stop : {A B : Type 0} {x y : Stop} → ◌≡◌ {A = Result A Stop} (Err x) (Err y) → ◌≡◌ {A = Result B Stop} (Err x) (Err y)
same_stop {y = y} e = ap Err (ap (stop_in y) e)

-- nothing was consumed before
pub from_none : {m : Step definition.Held} {xs new : Losses} {r : Result Found Stop} → xs ≡ [] → Stepped held_found m xs new r → Stepped held_found m [] new r
from_none {m = m} {new = new} {r = r} e x = subst (λ z. Stepped held_found m z new r) e x

pub as_refused : {m : Step definition.Held} {xs new : Losses} {r : Result Found Stop} {b : Broken} → r ≡ Err (stop.Refused b) → Stepped held_found m xs new r → Stepped held_found m xs new (Err (stop.Refused b))
as_refused {m = m} {xs = xs} {new = new} e x = subst (λ z. Stepped held_found m xs new z) e x

module _ (naming : Naming) (N : Names) (K : Kinds) (types : Sub) where
  -- ---- one definition

  module _ (d : Definition) (more_of : List Defined) (lo node : ℕ) (scope : Scope) (fixed : Set) (new : Losses) where
    abbrev pub top_here : Here
    top_here = record { scope = scope; fixed = fixed; loop_from = lo; function_from = lo; asked = true }

    abbrev pub value_step : Losses → Answer (Done definition.Held)
    value_step = by_itself naming N K types (term_of d.value.now) node top_here (looked naming N K types (term_of d.value.now) node top_here None)

    value_is : fixed ≡ [] → node ≡ lo + 1 → definition_looked naming N K types (defined d) lo scope ≡ value_step []
    unfolding value_looked
    value_is e f = rw (e, f) refl

    abbrev rest_of : Done definition.Held → Answer (Unit {0})
    rest_of a = definitions_looked naming N K types more_of (lo + (1 + numbers (term_of d.value.now))) (bound naming N types false (defined d).name lo a.result.value scope)

    pub one_refused : {end : Losses} {b : Broken} → fixed ≡ [] → node ≡ lo + 1 → Stepped held_found value_step [] end (Err (stop.Refused b)) → definitions_looked naming N K types (defined d ∷ more_of) lo scope ≡ Err b
    one_refused e f (refused q) = ap (λ z. then_do z rest_of) (value_is e f ∙ q)

    pub one_fits : (f : Found) (v : Value) (next : ℕ) (behind : Scope) → fixed ≡ [] → node ≡ lo + 1 → Stepped held_found value_step [] new (Ok f) → FoundEnds (term_of d.value.now) node f → v ≡ named naming false lo d.bind 0 (held_found f).value → behind ≡ with_value d.bind.0 v scope → next ≡ f.after → definitions_looked naming N K types (defined d ∷ more_of) lo scope ≡ definitions_looked naming N K types more_of next behind
    unfolding bound
    one_fits f v next behind e g (stepped q grows) ends n b a = ap (λ z. then_do z rest_of) (value_is e g ∙ q)
        ∙ ap (λ z. definitions_looked naming N K types more_of z (bound naming N types false (defined d).name lo (held_found f).value scope)) after_is
        ∙ ap (λ z. definitions_looked naming N K types more_of next z) (ap (λ z. with_value d.bind.0 z scope) (sym n) ∙ sym b)
      where
        after_is : lo + (1 + numbers (term_of d.value.now)) ≡ next
        after_is = omega (arith, a, ends.next, g)

-- ---- all definitions

module _ (naming : Naming) (K : Kinds) (types : Sub) (Known : Names → Type 0) (ds : List Definition) where
  pub record Reaching (at : ℕ) (scope : Scope) (i : ℕ) : Type 0 where
    pub steps : (N : Names) → Known N → definitions_looked naming N K types (map defined ds) 0 nothing ≡ definitions_looked naming N K types (map defined (drop i ds)) at scope

  pub reach_begins : (scope : Scope) → scope ≡ nothing → Reaching 0 scope 0
  reach_begins scope e = record { steps = λ N k. ap (λ z. definitions_looked naming N K types (map defined ds) 0 z) (sym e) }

  module _ (at : ℕ) (scope : Scope) (i : ℕ) (reaching : Reaching at scope i) where
    module _ (x : Definition) (l : i < length ds) where
      one_more_is : (N : Names) → Known N → definitions_looked naming N K types (map defined ds) 0 nothing ≡ definitions_looked naming N K types (defined (get_or ds i x) ∷ map defined (drop (i + 1) ds)) at scope
      one_more_is N k = reaching.steps N k ∙ ap (λ z. definitions_looked naming N K types (map defined z) at scope) (one_more ds i x l)

      pub reach_goes : (next : ℕ) (behind : Scope) → ((N : Names) → Known N → (more_of : List Defined) → definitions_looked naming N K types (defined (get_or ds i x) ∷ more_of) at scope ≡ definitions_looked naming N K types more_of next behind) → Reaching next behind (i + 1)
      reach_goes next behind u = record { steps = λ N k. one_more_is N k ∙ u N k (map defined (drop (i + 1) ds)) }

      pub reach_refused : {b : Broken} (N : Names) → Known N → ((more_of : List Defined) → definitions_looked naming N K types (defined (get_or ds i x) ∷ more_of) at scope ≡ Err b) → first_broken naming N K types (map defined ds) ≡ Some b
      unfolding first_broken
      reach_refused N k u = ap (broken naming N K types) (one_more_is N k ∙ u (map defined (drop (i + 1) ds)))

    pub reach_ends : length ds ≤ i → (N : Names) → Known N → first_broken naming N K types (map defined ds) ≡ None
    unfolding first_broken
    reach_ends l N k = ap (broken naming N K types) (reaching.steps N k ∙ ap (λ z. definitions_looked naming N K types (map defined z) at scope) (drop_past ds i l))
