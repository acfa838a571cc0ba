-- What modules and files are where they are opened.
use Rattle.std.proofs.Common.{◌≡◌, ℕ, List, [], true, Result, Ok, Err, IfOk, IfErr, refl, sym, ap, ◌∙◌, subst}
use Rattle.std.specs.Borrow.{Bor}
use Rattle.fut_scalar.specs.declared.place.Place.{Place}
use Rattle.fut_ast.specs.Sorts.{Text}
use Rattle.elab_scopes.specs.Scopes.{Module_ref, Member, Contents}
use Rattle.elab_scopes.specs.Table.{modules_in}
use Rattle.elab_scopes.specs.Declarations.{Block, State, brought, contents_of as contents_in_state, opened}
use Rattle.elab_scopes.specs.declared.modules.Contents.{Contents as HeldContents}
use Rattle.elab_scopes.specs.declared.modules.Contents.TheVariants as held_contents
use Rattle.elab_scopes.specs.declared.refusal.Refusal.TheVariants as held
use Rattle.elab_scopes.specs.declared.refusal.Stop.{Stop}
use Rattle.elab_scopes.specs.declared.refusal.Stop.TheVariants as stop
use Rattle.elab_scopes.specs.Modules.{contents_of, modules_of}
use Rattle.module_state.specs.declared.state.Block.{Block as HeldBlock}
use Rattle.module_state.specs.declared.state.Declaring.{Declaring}
use Rattle.module_state.specs.Standing.{Stands, Does, does, refuses, stops, block_of}
use Rattle.module_state.specs.Steps.{contents_in}
use Rattle.module_members.proofs.Steps.{in_state}
use Rattle.module_walk.specs.Steps.{module_contents, opened_file}

module _ (m : Module_ref) {d : Declaring} (cs : List HeldContents) (same : modules_of cs ≡ modules_in d.names) (c : HeldContents) (is : contents_of c ≡ contents_in (modules_of cs) m) where
  seen : (s : State) → Stands d s → contents_in_state s m ≡ contents_of c
  seen s st = in_state s m ∙ ap (λ z. contents_in z m) (sym st.modules) ∙ ap (λ z. contents_in z m) (sym same) ∙ sym is

  pub contents_are : Does contents_of (module_contents m) d d (Ok c)
  contents_are = does (λ s st. record { state = s; is = ap (λ z. Ok (z, s)) (seen s st); stands = st })

  module _ (at : Place) (x : Bor Text) (b : Block) where
    pub members_open : (ms : Bor (List Member)) (r : Result HeldBlock Stop) → c ≡ held_contents.Members ms → IfOk r (λ a. block_of a ≡ brought true ms.now [] b) → IfErr r (λ e. e ≡ stop.Memory) → Does block_of (opened_file at x.now b m) d d r
    members_open ms (Ok a) i e f = does (λ s st. record { state = s; is = ap (λ z. opened true at x.now z b s) (seen s st ∙ ap contents_of i) ∙ (λ j. Ok (sym e j, s)); stands = st })
    members_open ms (Err a) i _ f = subst (λ z. Does block_of (opened_file at x.now b m) d d (Err z)) (sym f) stops

    pub parametric_opens : (k : ℕ) → c ≡ held_contents.Parametric k → Does block_of (opened_file at x.now b m) d d (Err (stop.Refused (held.Unbound x at)))
    parametric_opens k i = refuses (λ s st. ap (λ z. opened true at x.now z b s) (seen s st ∙ ap contents_of i))
