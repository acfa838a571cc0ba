-- Loops, step by step.
use Rattle.std.proofs.Common.{◌≡◌, ℕ, ◌+◌, List, [], Option, None, Ok, Err, refl, sym}
use Rattle.fut_flat.specs.Erased.{FlatPattern, FlatTerm, FlatTurns}
use Rattle.fut_flat.specs.Numbers.{numbers, pattern_numbers, turn_numbers}
use Rattle.fut_flat.specs.Terms.{Loop}
use Rattle.fut_scalar.specs.declared.place.BindId.{BindId}
use Rattle.fut_scalar.specs.declared.place.Place.{Place}
use Rattle.fut_types.specs.Types.{Kinds, Sub}
use Rattle.fut_typing.specs.Names.{Names}
use Rattle.fut_aliases.specs.Aliases.{Naming}
use Rattle.fut_aliases.specs.Calls as definition
use Rattle.fut_aliases.specs.Calls.{Here}
use Rattle.fut_aliases.specs.Looking.{Flow, Going, carried_by, condition_looked, flowing, looked, looked_again, turn_here, turns_looked, whole}
use Rattle.fut_aliases.specs.Loops.{Carried, enter, leave, over_all_turns, results}
use Rattle.fut_aliases.specs.Stars.{Stars}
use Rattle.fut_aliases.specs.Steps.{Answer, Done, Losses, Step, and_then, give, then_do}
use Rattle.fut_aliases.specs.Values.{components, having}
use Rattle.alias_forms.specs.Turns.{flow_looked, turn_again, turn_looked, turned_looked}
use Rattle.alias_forms.proofs.Binding.{then_then}
use Rattle.alias_forms.proofs.WalkForms.{alone}

module _ (naming : Naming) (N : Names) (K : Kinds) (types : Sub) where
  pub loop_is : (mark : Place) (sizes : List BindId) (p : FlatPattern) (first : FlatTerm) (turns : FlatTurns) (body : FlatTerm) (lo node at : ℕ) (h : Here) (w : Option Stars) → node ≡ 1 + lo + pattern_numbers p → at ≡ node + numbers first
      → looked naming N K types (Loop mark sizes p first turns body) lo h w ≡ and_then (alone naming N K types first node h None) (λ a. and_then (turns_looked naming N K types turns at h) (λ going. and_then (flow_looked naming N K types h p turns body at lo going) (λ flow. and_then (turned_looked naming N K types h p turns body at lo a going flow (carried_by naming N K types p (1 + lo) first node a flow)) (λ v. whole naming N K types (Loop mark sizes p first turns body) lo v))))
  unfolding looked
  loop_is mark sizes p first turns body lo node at h w e f = rw (f, e) refl

  pub turned_is : (h : Here) (p : FlatPattern) (turns : FlatTurns) (body : FlatTerm) (at lo node : ℕ) (a : definition.Held) (going : Going naming N K types) (flow : Flow naming N K types) (cs : List Carried) → node ≡ at + turn_numbers turns
      → turned_looked naming N K types h p turns body at lo a going flow cs ≡ and_then (enter h a going.over node cs) (λ z. and_then (looked_again naming N K types h.asked flow (turn_again naming N K types h turns body at lo cs (turn_here naming N K types h p lo going (over_all_turns lo cs)))) (λ v. give (having (results cs (over_all_turns lo cs) (components v)) v)))
  turned_is h p turns body at lo node a going flow cs e = rw e refl

  -- a look at a turn, and then at what was consumed
  module _ (h : Here) (p : FlatPattern) (turns : FlatTurns) (body : FlatTerm) (at lo : ℕ) (going : Going naming N K types) where
    abbrev pub turn_flowing : Step definition.Held
    turn_flowing = turn_looked naming N K types turns body at (flowing (turn_here naming N K types h p lo going []))

    abbrev found : Losses → Done definition.Held → Answer (Done (Flow naming N K types))
    found old d = give (record { value = d.result.value; losses = d.losses }) old

    abbrev put_back : Losses → Done (Flow naming N K types) → Answer (Done (Flow naming N K types))
    put_back old d = give d.result old

    abbrev noted : Done definition.Held → Answer (Done (Flow naming N K types))
    noted d = give (record { value = d.result.value; losses = d.losses }) d.losses

    by_body : (old : Losses) (x : Answer (Done definition.Held)) → then_do (then_do x noted) (put_back old) ≡ then_do x (found old)
    by_body old (Ok d) = refl
    by_body old (Err b) = refl

    abbrev inside : Here
    inside = flowing (turn_here naming N K types h p lo going [])

    by_condition : (old : Losses) (x : Answer (Done (Unit {0}))) → then_do (then_do x (λ z. then_do (alone naming N K types body (at + turn_numbers turns) inside None z.losses) noted)) (put_back old) ≡ then_do (then_do x (λ z. alone naming N K types body (at + turn_numbers turns) inside None z.losses)) (found old)
    by_condition old (Ok z) = by_body old (alone naming N K types body (at + turn_numbers turns) inside None z.losses)
    by_condition old (Err b) = refl

    pub flow_is : (old : Losses) → flow_looked naming N K types h p turns body at lo going old ≡ then_do (turn_flowing old) (found old)
    flow_is old = by_condition old (condition_looked naming N K types turns at inside old)

  -- the last look at a turn, by its condition and body together
  pub again_is : (h : Here) (turns : FlatTurns) (body : FlatTerm) (at lo : ℕ) (cs : List Carried) (inside : Here) (old : Losses) → turn_again naming N K types h turns body at lo cs inside old ≡ and_then (turn_looked naming N K types turns body at inside) (λ g. and_then (leave h lo (at + turn_numbers turns) cs (components g.value)) (λ x. give g.value)) old
  again_is h turns body at lo cs inside old = sym (then_then (condition_looked naming N K types turns at inside old) (λ z. alone naming N K types body (at + turn_numbers turns) inside None z.losses) (λ d. and_then (leave h lo (at + turn_numbers turns) cs (components d.result.value)) (λ x. give d.result.value) d.losses))
