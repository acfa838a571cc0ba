-- Types that module types ask for.
use Rattle.std.proofs.Common.{◌≡◌, List, Bool, true, false, Option, Some, None, Result, Ok, refl, sym, subst}
use Rattle.fut_ast.specs.Sorts.{SourceType}
use Rattle.fut_ast.specs.declared.node.Label.{Label as PlainLabel}
use Rattle.fut_flat.specs.declared.prim.Ref.{Ref}
use Rattle.fut_tree.specs.declared.module.Label.{Label}
use Rattle.fut_tree.specs.ModTypes.{label_of}
use Rattle.elab_scopes.specs.Scopes.{Module_ref}
use Rattle.elab_scopes.specs.Declarations.{Given_type, Here, State, given_for, hidden, shown, type_spec}
use Rattle.elab_scopes.specs.declared.meanings.Member.{Member}
use Rattle.elab_scopes.specs.declared.meanings.Member.TheVariants as held_member
use Rattle.elab_scopes.specs.declared.refusal.Stop.{Stop}
use Rattle.module_state.specs.declared.state.Declaring.{Declaring}
use Rattle.module_state.specs.Standing.{Does, does, alone}
use Rattle.module_state.proofs.Stands.{same_step}
use Rattle.module_members.specs.Steps.{hidden_or_shown, kept_type, type_of_met}

pub shown_kept : (hides : Bool) (h : Here) (gs : List Given_type) (x : Label) (r : Ref) (d : Declaring) → hides ≡ false → given_for gs x.name.now ≡ None → Does alone (kept_type hides h gs (label_of x) r) d d (Ok (held_member.Type x.name r))
shown_kept hides h gs x r d e i = subst (λ t. Does alone (kept_type t h gs (label_of x) r) d d (Ok (held_member.Type x.name r))) (sym e)
    (subst (λ o. Does alone (hidden_or_shown false h (label_of x) o r) d d (Ok (held_member.Type x.name r))) (sym i) (does (λ s st. record { state = s; is = refl; stands = st })))

module _ (h : Here) (m : Module_ref) (gs : List Given_type) (x : PlainLabel) {d d1 : Declaring} {r : Result Member Stop} where
  pub hidden_spec : (t : Option SourceType) → Does alone (type_of_met true h m gs x t) d d1 r → Does alone (type_spec h (hidden m gs) x t) d d1 r
  hidden_spec t w = same_step alone (type_of_met true h m gs x t) (type_spec h (hidden m gs) x t) (λ s. is t s) w
    where
      is : (t : Option SourceType) (s : State) → type_spec h (hidden m gs) x t s ≡ type_of_met true h m gs x t s
      is None s = refl
      is (Some t) s = refl

  pub shown_spec : (t : Option SourceType) → Does alone (type_of_met false h m gs x t) d d1 r → Does alone (type_spec h (shown m gs) x t) d d1 r
  shown_spec t w = same_step alone (type_of_met false h m gs x t) (type_spec h (shown m gs) x t) (λ s. is t s) w
    where
      is : (t : Option SourceType) (s : State) → type_spec h (shown m gs) x t s ≡ type_of_met false h m gs x t s
      is None s = refl
      is (Some t) s = refl
