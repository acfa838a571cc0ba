-- Levels, forms and modules by their numbers.
use Rattle.std.proofs.Common.{◌≡◌, ℕ, suc, List, Option, Some, None, Result, Ok, Err, refl, sym, ap, ◌∙◌, subst}
use Rattle.fut_ast.specs.declared.module.ModExp.{ModExp as PlainModExp, out-ModExp}
use Rattle.fut_ast.specs.declared.module.ModForm.{out-ModForm}
use Rattle.fut_ast.specs.declared.module.ModType.{ModType as PlainModType, out-ModType}
use Rattle.fut_ast.specs.declared.module.ModTypeForm.{out-ModTypeForm}
use Rattle.elab_scopes.specs.Imports.{Source_file, item}
use Rattle.elab_scopes.specs.Scopes.{Module_ref}
use Rattle.elab_scopes.specs.Table.{modules_in}
use Rattle.elab_scopes.specs.Declarations.{Functor, Here, Meeting, State, Walks, applied_with, contents_of as contents_in_state, file_with, function_in, mod_with, sig_with, walks}
use Rattle.elab_scopes.specs.declared.meanings.ModuleRef.{ModuleRef}
use Rattle.elab_scopes.specs.declared.modules.Contents.{Contents as HeldContents}
use Rattle.elab_scopes.specs.declared.refusal.Stop.{Stop}
use Rattle.elab_scopes.specs.Held.{module_ref_of}
use Rattle.elab_scopes.specs.Modules.{contents_of, modules_of}
use Rattle.module_state.specs.declared.state.Declaring.{Declaring}
use Rattle.module_state.specs.Standing.{Stands, Does, does}
use Rattle.module_state.specs.Steps.{contents_in}
use Rattle.module_state.proofs.Stands.{same_where}
use Rattle.module_members.proofs.Steps.{in_state, looked}
use Rattle.module_walk.specs.Steps.{argument_met}

-- ---- one level deeper

module _ (fs : List Source_file) (n m : ℕ) (deeper : n ≡ suc m) (h : Here) {d d1 : Declaring} where
  pub module_down : (e : PlainModExp) {r : Result ModuleRef Stop} → Does module_ref_of (mod_with fs (walks fs m) h (out-ModExp e).place (out-ModForm (out-ModExp e).form)) d d1 r → Does module_ref_of ((walks fs n).module_of h e) d d1 r
  unfolding walks
  module_down e {r} w = subst (λ k. Does module_ref_of ((walks fs k).module_of h e) d d1 r) (sym deeper) w

  pub met_down : (meeting : Meeting) (t : PlainModType) {r : Result HeldContents Stop} → Does contents_of (sig_with fs (walks fs m) h meeting (out-ModType t).place (out-ModTypeForm (out-ModType t).form)) d d1 r → Does contents_of ((walks fs n).met h meeting t) d d1 r
  unfolding walks
  met_down meeting t {r} w = subst (λ k. Does contents_of ((walks fs k).met h meeting t) d d1 r) (sym deeper) w

  pub applied_down : (k : ℕ) (f : Functor) (a : Module_ref) {r : Result ModuleRef Stop} → ((s : State) → Stands d s → Some f ≡ item s.functors k) → Does module_ref_of (argument_met fs (walks fs m) h f a) d d1 r → Does module_ref_of ((walks fs n).applied h k a) d d1 r
  unfolding walks
  applied_down k f a {r} there w = subst (λ j. Does module_ref_of ((walks fs j).applied h k a) d d1 r) (sym deeper)
      (same_where module_ref_of (argument_met fs (walks fs m) h f a) (λ s. applied_with fs (walks fs m) h (item s.functors k) a s) (λ s st. ap (λ o. applied_with fs (walks fs m) h o a s) (sym (there s st))) w)

pub file_down : (fs : List Source_file) (n m : ℕ) (k : ℕ) {d d1 : Declaring} {r : Result ModuleRef Stop} → n ≡ suc m → Does module_ref_of (file_with fs (walks fs m) k) d d1 r → Does module_ref_of ((walks fs n).file_of k) d d1 r
unfolding walks
file_down fs n m k {d} {d1} {r} deeper w = subst (λ j. Does module_ref_of ((walks fs j).file_of k) d d1 r) (sym deeper) w

-- ---- modules by their numbers

pub function_seen : (m : Module_ref) {d : Declaring} (cs : List HeldContents) → modules_of cs ≡ modules_in d.names → (o : Option ℕ) → o ≡ function_in (contents_in (modules_of cs) m) → (s : State) → Stands d s → function_in (contents_in_state s m) ≡ o
function_seen m cs same o is s st = ap function_in (in_state s m) ∙ looked (λ cs. function_in (contents_in cs m)) cs same o is s st

-- what needs no step
pub made_at_once : {R A : Type 0} (view : R → A) (x : R) (a : A) {d : Declaring} → view x ≡ a → Does view (λ s. Ok (a, s)) d d (Ok x)
made_at_once view x a e = does (λ s st. record { state = s; is = λ i. Ok (sym e i, s); stands = st })
