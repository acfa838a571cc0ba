-- What the looks at a loop's turns answer.
use Rattle.std.proofs.Common.{◌≡◌, ℕ, ◌++◌, length, take, Ok, Err, sym, ap, ◌∙◌, subst}
use Rattle.std.specs.Borrow.{Bor}
use Rattle.fut_flat.specs.Erased.{FlatPattern, FlatTerm, FlatTurns}
use Rattle.fut_types.specs.Types.{Kinds, Sub}
use Rattle.fut_typing.specs.Names.{Names}
use Rattle.fut_aliases.specs.Aliases.{first_name_alone}
use Rattle.fut_aliases.specs.Calls as definition
use Rattle.fut_aliases.specs.Calls.{Here}
use Rattle.fut_aliases.specs.Looking.{Flow, Going}
use Rattle.fut_aliases.specs.Steps.{Losses, Step, behind, give, then_do}
use Rattle.alias_values.specs.declared.trees.ValueTree.{ValueTree}
use Rattle.alias_values.specs.Trees.{value_of}
use Rattle.uniqueness.specs.Answers.{Grows, Stepped, stepped, refused, no_memory}
use Rattle.uniqueness.specs.declared.held.Stop.{Stop}
use Rattle.uniqueness.proofs.Growing.{grows_not}
use Rattle.alias_forms.specs.declared.loops.LoopFlow.{LoopFlow}
use Rattle.alias_forms.specs.declared.loops.Turn.{Turn}
use Rattle.alias_forms.specs.Loops.{flow_shown, turn_shown}
use Rattle.alias_forms.specs.Turns.{flow_looked}
use Rattle.alias_forms.proofs.BranchForms.{back_is, joined_is}
use Rattle.alias_forms.proofs.LoopForms.{flow_is, turn_flowing}

module _ (N : Names) (K : Kinds) (types : Sub) (h : Here) (p : FlatPattern) (turns : FlatTurns) (body : FlatTerm) (at lo : ℕ) (going : Going first_name_alone N K types) where
  abbrev flow_step : Step (Flow first_name_alone N K types)
  flow_step = flow_looked first_name_alone N K types h p turns body at lo going

  abbrev turn_step : Step definition.Held
  turn_step = turn_flowing first_name_alone N K types h p turns body at lo going

  pub flow_stops : {old mid new : Losses} {s : Stop} → Stepped turn_shown turn_step old mid (Err s) → Stepped (flow_shown N K types old) flow_step old new (Err s)
  flow_stops {old = old} (refused q) = refused (flow_is first_name_alone N K types h p turns body at lo going old ∙ ap (λ z. then_do z (λ d. give (record { value = d.result.value; losses = d.losses }) old)) q)
  flow_stops no_memory = no_memory

  pub flow_done : {old mid new : Losses} {before : ℕ} {t : Turn} {f : LoopFlow} → Stepped turn_shown turn_step old mid (Ok t) → before ≡ length old → f.later.now ≡ behind before mid → new ≡ take before mid → f.value ≡ t.held.value → Stepped (flow_shown N K types old) flow_step old new (Ok f)
  flow_done {old = old} {mid = mid} {new = new} {t = t} {f = f} (stepped q g) b l n v = stepped (flow_is first_name_alone N K types h p turns body at lo going old ∙ ap (λ z. then_do z (λ d. give (record { value = d.result.value; losses = d.losses }) old)) q
      ∙ ap (λ (z : Losses). give (record { value = value_of t.held.value.now; losses = z }) old) (sym (joined_is old g b l)) ∙ ap (λ (z : Bor ValueTree). give (record { value = value_of z.now; losses = old ++ f.later.now }) old) (sym v) ∙ ap (λ (z : Losses). Ok (record { result = flow_shown N K types old f; losses = z })) (sym (back_is g b n))) (subst (Grows old) (sym (back_is g b n)) (grows_not old))
