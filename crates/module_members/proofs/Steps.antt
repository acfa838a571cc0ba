-- One step after another, of what code has answered.
use Rattle.std.proofs.Common.{◌≡◌, ◌<◌, length, arith, List, [], ◌∷◌, Option, Some, None, Result, Ok, Err, refl, sym, ap, ◌∙◌, subst}
use Rattle.std.specs.Borrow.{Bor}
use Rattle.fut_ast.specs.Sorts.{Text}
use Rattle.fut_tree.specs.Names.{names}
use Rattle.fut_tree.specs.declared.module.Label.{Label}
use Rattle.fut_tree.specs.ModTypes.{label_of}
use Rattle.elab_scopes.specs.Names.{Refusal}
use Rattle.elab_scopes.specs.Scopes.{Contents, Module_ref, made_module, scalar_module}
use Rattle.elab_scopes.specs.Resolve.{after}
use Rattle.elab_scopes.specs.Table.{modules_in}
use Rattle.elab_scopes.specs.Declarations.{State, Step, contents_of as contents_in_state, from, member_of_met}
use Rattle.elab_scopes.specs.declared.modules.Contents.{Contents as HeldContents}
use Rattle.elab_scopes.specs.Answers.{refusal_of, viewed}
use Rattle.elab_scopes.specs.declared.refusal.Refusal.{Refusal as HeldRefusal}
use Rattle.elab_scopes.specs.declared.refusal.Refusal.TheVariants as held
use Rattle.elab_scopes.specs.declared.refusal.Stop.{Stop}
use Rattle.elab_scopes.specs.declared.refusal.Stop.TheVariants as stop
use Rattle.elab_scopes.specs.Modules.{modules_of}
use Rattle.module_state.specs.declared.state.Declaring.{Declaring}
use Rattle.module_state.specs.Standing.{Stands, Does, does, refuses, stops}
use Rattle.module_state.specs.Steps.{contents_in}
use Rattle.module_state.proofs.Stands.{then_does, first_stops, makes, same_where, told}
use Rattle.module_members.specs.Steps.{Behind, made, ended, no_memory}

pub goes : {R A Q B : Type 0} (view : R → A) (show : Q → B) (step : Step A) (k : A → Step B) {d d1 d2 : Declaring} {x : R} {q : Result R Stop} {r : Result Q Stop} → q ≡ Ok x → Does view step d d1 q → Does show (k (view x)) d1 d2 r → Does show (λ s. after (step s) k) d d2 r
goes view show step k is w v = then_does view show step k (told view step is w) v

pub halts : {R A Q B : Type 0} (view : R → A) (show : Q → B) (step : Step A) (k : A → Step B) {d d1 d2 : Declaring} {e : Stop} {q : Result R Stop} → q ≡ Err e → Does view step d d1 q → Does show (λ s. after (step s) k) d d2 (Err e)
halts view show step k is w = first_stops view show step k (told view step is w)

-- the same step where something is in other words
pub where_is : {R A T : Type 0} (view : R → A) (f : T → Step A) {x y : T} {d d1 : Declaring} {r : Result R Stop} → x ≡ y → Does view (f x) d d1 r → Does view (f y) d d1 r
where_is view f {d = d} {d1 = d1} {r = r} e w = subst (λ z. Does view (f z) d d1 r) e w

-- ---- steps that look at modules by their numbers

module _ {A : Type 0} (look : List Contents → A) {d : Declaring} (cs : List HeldContents) (same : modules_of cs ≡ modules_in d.names) (a : A) (is : a ≡ look (modules_of cs)) where
  pub looked : (s : State) → Stands d s → look s.modules ≡ a
  looked s st = ap look (sym st.modules) ∙ ap look (sym same) ∙ sym is

module _ {R A : Type 0} (view : R → A) (look : List Contents → Result A Refusal) {d : Declaring} (cs : List HeldContents) (same : modules_of cs ≡ modules_in d.names) (r : Result R HeldRefusal) (is : viewed view r ≡ look (modules_of cs)) where
  pub from_found : (x : R) → r ≡ Ok x → Does view (λ s. from (look s.modules) s) d d (Ok x)
  from_found x e = does (λ s st. record { state = s; is = ap (λ q. from q s) (looked look cs same (viewed view r) is s st ∙ ap (viewed view) e); stands = st })

  pub from_refused : (x : HeldRefusal) {d1 : Declaring} → r ≡ Err x → Does view (λ s. from (look s.modules) s) d d1 (Err (stop.Refused x))
  from_refused x e = refuses (λ s st. ap (λ q. from q s) (looked look cs same (viewed view r) is s st ∙ ap (viewed view) e))

pub in_state : (s : State) (m : Module_ref) → contents_in_state s m ≡ contents_in s.modules m
in_state s (made_module k) = refl
in_state s (scalar_module t) = refl

-- a member of the module that is met
module _ {R A B : Type 0} (view : R → B) (look : List Contents → Option A) (x : Label) (k : A → Step B) {d : Declaring} (cs : List HeldContents) (same : modules_of cs ≡ modules_in d.names) (o : Option A) (is : o ≡ look (modules_of cs)) where
  pub met_found : (a : A) {d1 : Declaring} {r : Result R Stop} → o ≡ Some a → Does view (k a) d d1 r → Does view (λ s. member_of_met (label_of x) (look s.modules) k s) d d1 r
  unfolding member_of_met
  met_found a e w = same_where view (k a) (λ s. member_of_met (label_of x) (look s.modules) k s) (λ s st. ap (λ z. member_of_met (label_of x) z k s) (looked look cs same o is s st ∙ e)) w

  pub met_missing : {d1 : Declaring} → o ≡ None → Does view (λ s. member_of_met (label_of x) (look s.modules) k s) d d1 (Err (stop.Refused (held.SealMissing x.name x.place)))
  unfolding member_of_met
  met_missing e = refuses (λ s st. ap (λ z. member_of_met (label_of x) z k s) (looked look cs same o is s st ∙ e))

-- ---- what is made of what a step has answered

pub behind_makes : {R A Q B : Type 0} (view : R → A) (show : Q → B) (step : Step A) (f : A → B) {d d1 : Declaring} {q : Result R Stop} {r : Result Q Stop} → Does view step d d1 q → Behind view show f q r → Does show (λ s. after (step s) (λ a s. Ok (f a, s))) d d1 r
behind_makes view show step f w (made {y = y} e) = makes view show step f y e w
behind_makes view show step f w ended = first_stops view show step (λ a s. Ok (f a, s)) w
behind_makes view show step f w no_memory = stops

-- one step after another, from the other side
pub nested : {A B C : Type 0} (q : Result (A × State) Refusal) (k : A → Step B) (l : B → Step C) → after (after q k) l ≡ after q (λ a s. after (k a s) l)
unfolding after
nested (Ok (a, s)) k l = refl
nested (Err e) k l = refl

pub then_made : {A B C : Type 0} (q : Result (A × State) Refusal) (f : A → B) (l : B → Step C) → after (after q (λ a s. Ok (f a, s))) l ≡ after q (λ a s. l (f a) s)
unfolding after
then_made (Ok (a, s)) f l = refl
then_made (Err e) f l = refl

-- ---- paths

pub path_none : (ps : List (Bor Text)) → length ps < 1 → names ps ≡ []
path_none [] le = refl
path_none (p ∷ ps) le = absurd (omega (arith, le))
