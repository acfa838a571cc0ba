-- Declaring keeps what holds of all that was declared, form by form.
use Rattle.std.proofs.Common.{◌≡◌, ℕ, zero, suc, ◌++◌, nat_lt, List, [], ◌∷◌, Bool, true, false, cond, Option, Some, None, Result, Ok, Err, refl, subst, length}
use Rattle.fut_scalar.specs.declared.place.Place.{Place}
use Rattle.fut_ast.specs.Sorts.{Text, Path, SourceType}
use Rattle.fut_ast.specs.declared.node.Label.{Label}
use Rattle.fut_ast.specs.declared.pat.Head.{Head}
use Rattle.fut_ast.specs.declared.module.Dec.{Dec, out-Dec}
use Rattle.fut_ast.specs.declared.module.DecForm.{DecForm-F, out-DecForm}
use Rattle.fut_ast.specs.declared.module.ModExp.{ModExp, out-ModExp}
use Rattle.fut_ast.specs.declared.module.ModForm.{ModForm-F, out-ModForm}
use Rattle.fut_ast.specs.declared.module.ModType.{ModType, out-ModType}
use Rattle.fut_ast.specs.declared.module.ModTypeForm.{ModTypeForm-F, out-ModTypeForm}
use Rattle.fut_ast.specs.declared.module.Param.{Param}
use Rattle.fut_ast.specs.declared.module.Spec.{Spec, out-Spec}
use Rattle.fut_ast.specs.declared.module.SpecForm.{SpecForm-F, out-SpecForm}
use Rattle.fut_ast.specs.declared.module.With.{With}
use Rattle.fut_flat.specs.declared.prim.Ref.{Ref}
use Rattle.fut_flat.specs.Sources.{SourceTerm, WrittenType, source_type}
use Rattle.elab_scopes.specs.Names.{Refusal, TooManyApplications, TooFar}
use Rattle.elab_scopes.specs.Scopes.{Module_ref, made_module, scalar_module, Member, value_member, type_member, module_member, signature_member, Contents, members, parametric, contents_at, members_of, module_in_module, or_deeper}
use Rattle.elab_scopes.specs.Resolve.{after}
use Rattle.elab_scopes.specs.Programs.{definition_term, DecLayer}
use Rattle.elab_scopes.specs.Elaboration.{Declare}
use Rattle.elab_scopes.specs.Imports.{Source_file, item, imported_file}
use Rattle.elab_scopes.specs.Declarations.{Giving, the_body, of_another, names_alone, Functor, Signature, State, Step, Here, seeing, also_seeing, bare, with_module, with_functor, with_signature, with_loaded, once_more, no_value, no_type, declare, type_term, inner_name, given_name, named_type, sealed_term, hiding_term, same_term, Given_type, Meeting, hidden, shown, nothing, Walks, from, contents_of, function_in, SigLayer, ModLayer, seen_later, member_of_met, given_for, given_within, same_type, given_type, hidden_type, shown_type, SpecLayer, value_spec, type_spec, last_name, with_type, with_types, with_type_at, given_in, refined, included, in_body, within, Block, no_names, brought, once, curried, opened, may_begin, loaded_at, decs_of, module_met, module_spec, spec_with, specs_with, signature_met, refined_met, function_met, arrow_met, sig_with, looked_at, sealed_by, lambda_with, given_by, result_of, applied_with, counted, applied_once, applied_to, import_of, module_with, signature_with, dec_with, decs_with, block_of, mod_with, file_known, no_walks, next_walks, walks, at_first, started, declared_by}
use Rattle.elab_laws.proofs.Told.{Told, definition_told}
use Rattle.elab_laws.proofs.Readings.{Such, under_up, Ref_under, Under, Contents_under, All_under, Option_under, members_under, in_module_under}
use Rattle.elab_laws.proofs.Scalars.{scalars_under}
use Rattle.elab_laws.proofs.Keeping.{held, under_append, Functors_under, Signatures_under, chain_none, Fine, Any, Keeps, keeps_then, keeps_end, keeps_stop, as_it_is, fine_module, fine_functor, fine_signature, fine_once_more, fine_loaded, fine_started, declare_keeps}

-- what walks promise, of modules and of members
pub record Good_walks (R : Walks) : Type 0 where
  pub module_of : (h : Here) (m : ModExp) (s : State) → Fine s → Under (held s) h.names → Keeps Any s (R.module_of h m s)
  pub met : (h : Here) (meeting : Meeting) (t : ModType) (s : State) → Fine s → Under (held s) h.names → Keeps Contents_under s (R.met h meeting t s)
  pub applied : (h : Here) (k : ℕ) (m : Module_ref) (s : State) → Fine s → Keeps Any s (R.applied h k m s)
  pub file_of : (k : ℕ) (s : State) → Fine s → Keeps Any s (R.file_of k s)

value_keeps : (h : Here) (is_entry : Bool) (x : Text) (hs : List Head) (value : SourceTerm) (s : State) → Told value → Fine s → Under (held s) h.names → Keeps Ref_under s (declare no_value h is_entry x hs value s)
value_keeps h is_entry x hs value s t f u = declare_keeps Ref_under (λ n b lt. lt) no_value h is_entry x hs value s (λ n. tt) t f u

type_keeps : (h : Here) (x : Text) (hs : List Head) (value : SourceTerm) (s : State) → Told value → Fine s → Under (held s) h.names → Keeps (Any {A = Ref}) s (declare no_type h false x hs value s)
type_keeps h x hs value s t f u = declare_keeps (Any {A = Ref}) (λ n b lt. tt) no_type h false x hs value s (λ n. tt) t f u

as_value_keeps : (x : Text) (s : State) (q : Result (Ref × State) Refusal) → Keeps Ref_under s q → Keeps Under s (after q (λ r s. Ok (value_member x r ∷ [], s)))
as_value_keeps x s q k = keeps_then s q _ k (λ a s1 y. keeps_end s1 s1 _ (record { more = λ k h. h; fine = y.fine; good = (y.good, tt) }))

as_type_keeps : (x : Text) (s : State) (q : Result (Ref × State) Refusal) → Keeps (Any {A = Ref}) s q → Keeps Under s (after q (λ r s. Ok (type_member x r ∷ [], s)))
as_type_keeps x s q k = keeps_then s q _ k (λ a s1 y. keeps_end s1 s1 _ (record { more = λ k h. h; fine = y.fine; good = tt }))

as_module_keeps : (x : Text) (s : State) (q : Result (Module_ref × State) Refusal) → Keeps (Any {A = Module_ref}) s q → Keeps Under s (after q (λ m s. Ok (module_member x m ∷ [], s)))
as_module_keeps x s q k = keeps_then s q _ k (λ a s1 y. keeps_end s1 s1 _ (record { more = λ k h. h; fine = y.fine; good = tt }))

from_keeps : {A : Type 0} (r : Result A Refusal) (s : State) → Fine s → Keeps (Any {A = A}) s (from r s)
from_keeps (Ok a) s f = as_it_is s a f tt
from_keeps (Err e) s f = keeps_stop s e

-- ---- modules

contents_all : (n : Such) (cs : List Contents) (k : ℕ) → All_under n cs → Contents_under n (contents_at cs k)
unfolding contents_at
contents_all n [] k u = tt
contents_all n (c ∷ cs) zero u = u.0
contents_all n (c ∷ cs) (suc k) u = contents_all n cs k u.1

contents_fine : (s : State) (m : Module_ref) → Fine s → Contents_under (held s) (contents_of s m)
contents_fine s (made_module k) f = contents_all (held s) s.modules k f.modules
contents_fine s (scalar_module t) f = scalars_under (held s) t

members_fine : (s : State) (m : Module_ref) → Fine s → Under (held s) (members_of (contents_of s m))
members_fine s m f = members_under (held s) (contents_of s m) (contents_fine s m f)

new_keeps : (c : Contents) (s : State) → Fine s → Contents_under (held s) c → Keeps (Any {A = Module_ref}) s (Ok (made_module (length s.modules), with_module c s))
new_keeps c s f u = keeps_end s (with_module c s) _ (record { more = λ k h. h; fine = fine_module s c f u; good = tt })

functor_keeps : (g : Functor) (s : State) → Fine s → Under (held s) g.names → Keeps Contents_under s (Ok (parametric (length s.functors), with_functor g s))
functor_keeps g s f u = keeps_end s (with_functor g s) _ (record { more = λ k h. h; fine = fine_functor s g f u; good = tt })

-- ---- module types

met_value : (x : Label) (o : Option Ref) (k : Ref → Step (List Member)) (s : State) → Option_under (held s) o → ((r : Ref) → Ref_under (held s) r → Keeps Under s (k r s)) → Keeps Under s (member_of_met x o k s)
unfolding member_of_met
met_value x None k s b f = keeps_stop s _
met_value x (Some r) k s b f = f r b

met_other : {A B : Type 0} {P : Such → B → Type 0} (x : Label) (o : Option A) (k : A → Step B) (s : State) → ((a : A) → Keeps P s (k a s)) → Keeps P s (member_of_met x o k s)
unfolding member_of_met
met_other x None k s f = keeps_stop s _
met_other x (Some a) k s f = f a

later_under : (n : Such) (ms : List Member) → Under n (seen_later ms)
later_under n [] = tt
later_under n (value_member x r ∷ ms) = later_under n ms
later_under n (type_member x r ∷ ms) = later_under n ms
later_under n (module_member x m ∷ ms) = later_under n ms
later_under n (signature_member x k ∷ ms) = later_under n ms

told_sealed : (at : Place) (t : SourceType) → Told (sealed_term at t)
told_sealed at t = (refl, tt)

told_same : (at : Place) (t : WrittenType) → Told (same_term at t)
told_same at t = (tt, tt)

value_met_keeps : (h : Here) (x : Label) (hs : List Head) (t : SourceType) (m : Module_ref) (s : State) → Fine s → Under (held s) h.names → Keeps Under s (value_spec h (hidden m []) x hs t s)
value_met_keeps h x hs t m s f u = met_value x _ _ s (in_module_under (held s) s.modules m x.name f.modules) (λ r b. as_value_keeps x.name s _ (value_keeps (also_seeing (value_member inner_name r) h) false x.name hs (sealed_term x.place t) s (told_sealed x.place t) f (b, u)))

value_spec_keeps : (h : Here) (meeting : Meeting) (x : Label) (hs : List Head) (t : SourceType) (s : State) → Fine s → Under (held s) h.names → Keeps Under s (value_spec h meeting x hs t s)
value_spec_keeps h nothing x hs t s f u = as_value_keeps x.name s _ (value_keeps h false x.name hs (type_term x.place (source_type t)) s tt f u)
value_spec_keeps h (hidden m gs) x hs t s f u = value_met_keeps h x hs t m s f u
value_spec_keeps h (shown m gs) x hs t s f u = value_met_keeps h x hs t m s f u

same_keeps : (h : Here) (x : Label) (t : WrittenType) (r : Ref) (s : State) → Fine s → Under (held s) h.names → Keeps Under s (same_type h x t r s)
same_keeps h x t r s f u = as_type_keeps x.name s _ (type_keeps (also_seeing (type_member inner_name r) h) x.name [] (same_term x.place t) s (told_same x.place t) f u)

given_keeps : (h : Here) (x : Label) (g r : Ref) (s : State) → Fine s → Under (held s) h.names → Keeps Under s (given_type h x g r s)
given_keeps h x g r s f u = same_keeps (also_seeing (type_member given_name g) h) x (named_type given_name x.place) r s f u

hidden_keeps : (h : Here) (x : Label) (o : Option Ref) (r : Ref) (s : State) → Fine s → Under (held s) h.names → Keeps Under s (hidden_type h x o r s)
hidden_keeps h x (Some g) r s f u = given_keeps h x g r s f u
hidden_keeps h x None r s f u = as_type_keeps x.name s _ (type_keeps (also_seeing (type_member inner_name r) h) x.name [] (hiding_term x.place) s tt f u)

shown_keeps : (h : Here) (x : Label) (o : Option Ref) (r : Ref) (s : State) → Fine s → Under (held s) h.names → Keeps Under s (shown_type h x o r s)
shown_keeps h x (Some g) r s f u = given_keeps h x g r s f u
shown_keeps h x None r s f u = as_it_is s (type_member x.name r ∷ []) f tt

type_spec_keeps : (h : Here) (meeting : Meeting) (x : Label) (t : Option SourceType) (s : State) → Fine s → Under (held s) h.names → Keeps Under s (type_spec h meeting x t s)
type_spec_keeps h nothing x None s f u = as_it_is s _ f tt
type_spec_keeps h nothing x (Some t) s f u = as_type_keeps x.name s _ (type_keeps h x.name [] (type_term x.place (source_type t)) s tt f u)
type_spec_keeps h (hidden m gs) x None s f u = met_other x _ _ s (λ r. hidden_keeps h x (given_for gs x.name) r s f u)
type_spec_keeps h (hidden m gs) x (Some t) s f u = met_other x _ _ s (λ r. same_keeps h x (source_type t) r s f u)
type_spec_keeps h (shown m gs) x None s f u = met_other x _ _ s (λ r. shown_keeps h x (given_for gs x.name) r s f u)
type_spec_keeps h (shown m gs) x (Some t) s f u = met_other x _ _ s (λ r. same_keeps h x (source_type t) r s f u)

included_keeps : (at : Place) (x : Text) (c : Contents) (s : State) → Fine s → Contents_under (held s) c → Keeps Under s (included at x c s)
included_keeps at x (members ms) s f u = as_it_is s ms f u
included_keeps at x (parametric k) s f u = keeps_stop s _

-- ---- types that are given

with_type_keeps : (h : Here) (w : With) (s : State) → Fine s → Under (held s) h.names → Keeps (Any {A = Ref}) s (with_type h w s)
with_type_keeps h w s f u = type_keeps h (last_name w.path) [] (type_term w.place (source_type w.ty)) s tt f u

with_types_keep : (h : Here) (ws : List With) (gs : List Given_type) (s : State) → Fine s → Under (held s) h.names → Keeps (Any {A = List Given_type}) s (with_types h ws gs s)
unfolding with_types
with_types_keep h [] gs s f u = as_it_is s gs f tt
with_types_keep h (w ∷ ws) gs s f u = keeps_then s _ _ (with_type_keeps h w s f u) (λ r s1 y. with_types_keep h ws (record { path = w.path; type = r } ∷ gs) s1 y.fine (under_up (held s) (held s1) h.names y.more u))

deeper_keeps : {A : Type 0} {P : Such → A → Type 0} (s : State) (o : Option Module_ref) (k : Module_ref → Result (A × State) Refusal) (q : Result (A × State) Refusal) → ((n : Module_ref) → Keeps P s (k n)) → Keeps P s q → Keeps P s (or_deeper o k q)
deeper_keeps s None k q f g = g
deeper_keeps s (Some n) k q f g = f n

type_at_keeps : (m : Module_ref) (x : Text) (ys : Path) (r : Ref) (s : State) → Fine s → Keeps (Any {A = Module_ref}) s (with_type_at m x ys r s)
unfolding with_type_at
type_at_keeps m x [] r s f = new_keeps (members (type_member x r ∷ members_of (contents_of s m))) s f (members_fine s m f)
type_at_keeps m x (y ∷ ys) r s f =
    deeper_keeps s (module_in_module s.modules m x) _ _
    (λ n. keeps_then s _ _ (type_at_keeps n y ys r s f) (λ l s1 z. new_keeps (members (module_member x l ∷ members_of (contents_of s1 m))) s1 z.fine (members_fine s1 m z.fine)))
    (as_it_is s m f tt)

given_in_keeps : (m : Module_ref) (p : Path) (r : Ref) (s : State) → Fine s → Keeps (Any {A = Module_ref}) s (given_in m p r s)
given_in_keeps m [] r s f = as_it_is s m f tt
given_in_keeps m (x ∷ xs) r s f = type_at_keeps m x xs r s f

refined_keeps : (h : Here) (m : Module_ref) (ws : List With) (s : State) → Fine s → Under (held s) h.names → Keeps (Any {A = Module_ref}) s (refined h m ws s)
unfolding refined
refined_keeps h m [] s f u = as_it_is s m f tt
refined_keeps h m (w ∷ ws) s f u =
    keeps_then s _ _ (from_keeps _ s f) (λ q s1 y1.
    let u1 = under_up (held s) (held s1) h.names y1.more u in
    keeps_then s1 _ _ (with_type_keeps h w s1 y1.fine u1) (λ r s2 y2.
    let u2 = under_up (held s1) (held s2) h.names y2.more u1 in
    keeps_then s2 _ _ (given_in_keeps m w.path r s2 y2.fine) (λ n s3 y3.
    refined_keeps h n ws s3 y3.fine (under_up (held s2) (held s3) h.names y3.more u2))))

-- ---- what is met, and what is applied, by number

signature_under : (n : Such) (gs : List Signature) (k : ℕ) (g : Signature) → Signatures_under n gs → item gs k ≡ Some g → Under n g.names
unfolding item
signature_under n [] k g u e = absurd (let z : None ≡ Some g = e in cc)
signature_under n (h ∷ gs) zero g u e = let z : h ≡ g = cc in subst (λ y. Under n y.names) z u.0
signature_under n (h ∷ gs) (suc k) g u e = signature_under n gs k g u.1 e

functor_under : (n : Such) (fs : List Functor) (k : ℕ) (g : Functor) → Functors_under n fs → item fs k ≡ Some g → Under n g.names
unfolding item
functor_under n [] k g u e = absurd (let z : None ≡ Some g = e in cc)
functor_under n (h ∷ fs) zero g u e = let z : h ≡ g = cc in subst (λ y. Under n y.names) z u.0
functor_under n (h ∷ fs) (suc k) g u e = functor_under n fs k g u.1 e

-- ---- blocks

pub record Block_under (n : Such) (b : Block) : Type 0 where
  pub names : Under n b.names
  pub exported : Under n b.exported

cond_under : (n : Such) (t : Bool) (ms ns : List Member) → Under n ms → Under n ns → Under n (cond t ms ns)
cond_under n true ms ns u v = u
cond_under n false ms ns u v = v

brought_under : (n : Such) (is_local : Bool) (ms own : List Member) (b : Block) → Under n ms → Block_under n b → Block_under n (brought is_local ms own b)
brought_under n is_local ms own b u v = record { names = under_append n ms b.names u v.names; exported = cond_under n is_local b.exported (ms ++ b.exported) v.exported (under_append n ms b.exported u v.exported) }

block_up : (n m : Such) (b : Block) → ((k : ℕ) → n k → m k) → Block_under n b → Block_under m b
block_up n m b le u = record { names = under_up n m b.names le u.names; exported = under_up n m b.exported le u.exported }

once_keeps : {A : Type 0} (is_local : Bool) (x : Label) (o : Option A) (k : Step Block) (s : State) → Keeps Block_under s (k s) → Keeps Block_under s (once is_local x o k s)
unfolding once
once_keeps true x o k s y = y
once_keeps false x None k s y = y
once_keeps false x (Some a) k s y = keeps_stop s _

declares_keeps : (is_local : Bool) (b : Block) (s : State) (q : Result (List Member × State) Refusal) → Block_under (held s) b → Keeps Under s q → Keeps Block_under s (after q (λ ms s. Ok (brought is_local ms ms b, s)))
declares_keeps is_local b s q u k = keeps_then s q _ k (λ ns s1 y. keeps_end s1 s1 _ (record { more = λ k h. h; fine = y.fine; good = brought_under (held s1) is_local ns ns b y.good (block_up (held s) (held s1) b y.more u) }))

opened_keeps : (is_local : Bool) (at : Place) (x : Text) (c : Contents) (b : Block) (s : State) → Fine s → Contents_under (held s) c → Block_under (held s) b → Keeps Block_under s (opened is_local at x c b s)
opened_keeps is_local at x (members ms) b s f u v = as_it_is s _ f (brought_under (held s) is_local ms [] b u v)
opened_keeps is_local at x (parametric k) b s f u v = keeps_stop s _

module _ (files : List Source_file) (R : Walks) (good : Good_walks R) where
  module_met_keeps : (h : Here) (meeting : Meeting) (t : ModType) (s : State) → Fine s → Under (held s) h.names → Keeps (Any {A = Module_ref}) s (module_met files R h meeting t s)
  module_met_keeps h meeting t s f u = keeps_then s _ _ (good.met h meeting t s f u) (λ c s1 y. new_keeps c s1 y.fine y.good)

  module_spec_keeps : (h : Here) (meeting : Meeting) (x : Label) (t : ModType) (s : State) → Fine s → Under (held s) h.names → Keeps Under s (module_spec files R h meeting x t s)
  module_spec_keeps h nothing x t s f u = as_module_keeps x.name s _ (module_met_keeps h nothing t s f u)
  module_spec_keeps h (hidden m gs) x t s f u = met_other x _ _ s (λ n. as_module_keeps x.name s _ (module_met_keeps h (hidden n (given_within gs x.name)) t s f u))
  module_spec_keeps h (shown m gs) x t s f u = met_other x _ _ s (λ n. as_module_keeps x.name s _ (module_met_keeps h (shown n (given_within gs x.name)) t s f u))

  spec_keeps : (h : Here) (meeting : Meeting) (l : SpecLayer) (s : State) → Fine s → Under (held s) h.names → Keeps Under s (spec_with files R h meeting l s)
  spec_keeps h meeting (SpecForm-F.Value x heads t) s f u = value_spec_keeps h meeting x heads t s f u
  spec_keeps h meeting (SpecForm-F.TypeName x t) s f u = type_spec_keeps h meeting x t s f u
  spec_keeps h meeting (SpecForm-F.Module x t) s f u = module_spec_keeps h meeting x t s f u
  spec_keeps h meeting (SpecForm-F.Include t) s f u = keeps_then s _ _ (good.met h meeting t s f u) (λ c s1 y. included_keeps _ _ c s1 y.fine y.good)

  specs_keep : (h : Here) (meeting : Meeting) (ss : List Spec) (out : List Member) (s : State) → Fine s → Under (held s) h.names → Under (held s) out → Keeps Under s (specs_with files R h meeting ss out s)
  unfolding specs_with
  specs_keep h meeting [] out s f u o = as_it_is s out f o
  specs_keep h meeting (sp ∷ ss) out s f u o =
      keeps_then s _ _ (spec_keeps h meeting (out-SpecForm (out-Spec sp).form) s f u) (λ ms s1 y.
      specs_keep (seeing (seen_later ms ++ h.names) h) meeting ss (ms ++ out) s1 y.fine
      (under_append (held s1) (seen_later ms) h.names (later_under (held s1) ms) (under_up (held s) (held s1) h.names y.more u))
      (under_append (held s1) ms out y.good (under_up (held s) (held s1) out y.more o)))

  signature_met_keeps : (h : Here) (meeting : Meeting) (o : Option Signature) (k : ℕ) (s : State) → Fine s → item s.signatures k ≡ o → Keeps Contents_under s (signature_met files R h meeting o s)
  signature_met_keeps h meeting None k s f e = keeps_stop s _
  signature_met_keeps h meeting (Some g) k s f e = good.met (seeing g.names h) meeting g.tree s f (signature_under (held s) s.signatures k g f.signatures e)

  refined_met_keeps : (h : Here) (meeting : Meeting) (t : ModType) (ws : List With) (m : Module_ref) (s : State) → Fine s → Under (held s) h.names → Keeps Contents_under s (refined_met files R h meeting t ws m s)
  refined_met_keeps h nothing t ws m s f u = as_it_is s (contents_of s m) f (contents_fine s m f)
  refined_met_keeps h (hidden n gs) t ws m s f u = keeps_then s _ _ (with_types_keep h ws gs s f u) (λ l s1 y. good.met h (hidden n l) t s1 y.fine (under_up (held s) (held s1) h.names y.more u))
  refined_met_keeps h (shown n gs) t ws m s f u = keeps_then s _ _ (with_types_keep h ws gs s f u) (λ l s1 y. good.met h (shown n l) t s1 y.fine (under_up (held s) (held s1) h.names y.more u))

  function_met_keeps : (h : Here) (hides : Bool) (x : Label) (t w : ModType) (p : Module_ref) (k : ℕ) (s : State) → Fine s → Under (held s) h.names → Keeps Contents_under s (function_met files R h hides x t w p k s)
  function_met_keeps h hides x t w p k s f u =
      keeps_then s _ _ (good.applied (bare h) k p s f) (λ r s1 y1.
      let u1 = under_up (held s) (held s1) h.names y1.more u in
      keeps_then s1 _ _ (module_met_keeps (in_body (bare h) x.name p h.names) (hidden r []) w s1 y1.fine u1) (λ m s2 y2.
      functor_keeps (record { file = h.file; parameter = x.name; bound = t; names = h.names; gives = of_another k hides w; bare = m }) s2 y2.fine (under_up (held s1) (held s2) h.names y2.more u1)))

  arrow_met_keeps : (h : Here) (meeting : Meeting) (x : Label) (t w : ModType) (p : Module_ref) (s : State) → Fine s → Under (held s) h.names → Keeps Contents_under s (arrow_met files R h meeting x t w p s)
  arrow_met_keeps h nothing x t w p s f u =
      keeps_then s _ _ (module_met_keeps (in_body (bare h) x.name p h.names) nothing w s f u) (λ m s1 y.
      functor_keeps (record { file = h.file; parameter = x.name; bound = t; names = h.names; gives = names_alone; bare = m }) s1 y.fine (under_up (held s) (held s1) h.names y.more u))
  arrow_met_keeps h (hidden n gs) x t w p s f u = met_other x (function_in (contents_of s n)) _ s (λ k. function_met_keeps h true x t w p k s f u)
  arrow_met_keeps h (shown n gs) x t w p s f u = met_other x (function_in (contents_of s n)) _ s (λ k. function_met_keeps h false x t w p k s f u)

  sig_keeps : (h : Here) (meeting : Meeting) (at : Place) (l : SigLayer) (s : State) → Fine s → Under (held s) h.names → Keeps Contents_under s (sig_with files R h meeting at l s)
  sig_keeps h meeting at (ModTypeForm-F.Path p) s f u = keeps_then s _ _ (from_keeps _ s f) (λ k s1 y. signature_met_keeps h meeting _ k s1 y.fine refl)
  sig_keeps h meeting at (ModTypeForm-F.Specs ss) s f u = keeps_then s _ _ (specs_keep h meeting ss [] s f u tt) (λ ms s1 y. as_it_is s1 (members ms) y.fine y.good)
  sig_keeps h meeting at (ModTypeForm-F.With t ws) s f u =
      keeps_then s _ _ (module_met_keeps (bare h) nothing t s f u) (λ m s1 y1.
      let u1 = under_up (held s) (held s1) h.names y1.more u in
      keeps_then s1 _ _ (refined_keeps (bare h) m ws s1 y1.fine u1) (λ n s2 y2. refined_met_keeps h meeting t ws n s2 y2.fine (under_up (held s1) (held s2) h.names y2.more u1)))
  sig_keeps h meeting at (ModTypeForm-F.Arrow x t w) s f u =
      keeps_then s _ _ (module_met_keeps (bare h) nothing t s f u) (λ p s1 y. arrow_met_keeps h meeting x t w p s1 y.fine (under_up (held s) (held s1) h.names y.more u))

  -- ---- module expressions

  looked_keeps : (h : Here) (t : Option ModType) (s : State) → Fine s → Under (held s) h.names → Keeps Contents_under s (looked_at files R h t s)
  looked_keeps h None s f u = as_it_is s (members []) f tt
  looked_keeps h (Some t) s f u = good.met (bare h) nothing t s f u

  sealed_keeps : (h : Here) (t : Option ModType) (m : Module_ref) (s : State) → Fine s → Under (held s) h.names → Keeps (Any {A = Module_ref}) s (sealed_by files R h t m s)
  sealed_keeps h None m s f u = as_it_is s m f tt
  sealed_keeps h (Some t) m s f u = module_met_keeps h (hidden m []) t s f u

  lambda_keeps : (h : Here) (x : Label) (t : ModType) (w : Option ModType) (body : ModExp) (s : State) → Fine s → Under (held s) h.names → Keeps Contents_under s (lambda_with files R h x t w body s)
  lambda_keeps h x t w body s f u =
      keeps_then s _ _ (module_met_keeps (bare h) nothing t s f u) (λ p s1 y1.
      let u1 = under_up (held s) (held s1) h.names y1.more u in
      keeps_then s1 _ _ (looked_keeps (in_body h x.name p h.names) w s1 y1.fine u1) (λ c s2 y2.
      let u2 = under_up (held s1) (held s2) h.names y2.more u1 in
      keeps_then s2 _ _ (good.module_of (in_body (bare h) x.name p h.names) body s2 y2.fine u2) (λ m s3 y3.
      let u3 = under_up (held s2) (held s3) h.names y3.more u2 in
      keeps_then s3 _ _ (sealed_keeps (in_body (bare h) x.name p h.names) w m s3 y3.fine u3) (λ n s4 y4.
      functor_keeps (record { file = h.file; parameter = x.name; bound = t; names = h.names; gives = the_body w body; bare = n }) s4 y4.fine (under_up (held s3) (held s4) h.names y4.more u3)))))

  given_by_keeps : (h : Here) (g : Functor) (gives : Giving) (p : Module_ref) (s : State) → Fine s → Under (held s) g.names → Keeps (Any {A = Module_ref}) s (given_by files R h g gives p s)
  given_by_keeps h g (the_body t body) p s f u =
      keeps_then s _ _ (good.module_of (within h g p) body s f u) (λ m s1 y. sealed_keeps (within h g p) t m s1 y.fine (under_up (held s) (held s1) g.names y.more u))
  given_by_keeps h g (of_another k true t) p s f u =
      keeps_then s _ _ (good.applied h k p s f) (λ m s1 y. module_met_keeps (within h g p) (hidden m []) t s1 y.fine (under_up (held s) (held s1) g.names y.more u))
  given_by_keeps h g (of_another k false t) p s f u =
      keeps_then s _ _ (good.applied h k p s f) (λ m s1 y. module_met_keeps (within h g p) (shown m []) t s1 y.fine (under_up (held s) (held s1) g.names y.more u))
  given_by_keeps h g names_alone p s f u = as_it_is s g.bare f tt

  result_keeps : (live : Bool) (h : Here) (g : Functor) (p : Module_ref) (s : State) → Fine s → Under (held s) g.names → Keeps (Any {A = Module_ref}) s (result_of files R live h g p s)
  result_keeps true h g p s f u = given_by_keeps h g g.gives p s f u
  result_keeps false h g p s f u = as_it_is s g.bare f tt

  applied_with_keeps : (h : Here) (o : Option Functor) (k : ℕ) (m : Module_ref) (s : State) → Fine s → item s.functors k ≡ o → Keeps (Any {A = Module_ref}) s (applied_with files R h o m s)
  applied_with_keeps h None k m s f e = keeps_stop s _
  applied_with_keeps h (Some g) k m s f e =
      let u = functor_under (held s) s.functors k g f.functors e in
      keeps_then s _ _ (module_met_keeps (seeing g.names h) (shown m []) g.bound s f u) (λ p s1 y. result_keeps h.live h g p s1 y.fine (under_up (held s) (held s1) g.names y.more u))

  limit_keeps : (t : Bool) (h : Here) (at : Place) (k : ℕ) (m : Module_ref) (s : State) → Fine s → Keeps (Any {A = Module_ref}) s (cond t (R.applied h k m (once_more s)) (Err (TooManyApplications at)))
  limit_keeps true h at k m s f = λ n s' e. let y = good.applied h k m (once_more s) (fine_once_more s f) n s' e in record { more = y.more; fine = y.fine; good = tt }
  limit_keeps false h at k m s f = keeps_stop s _

  counted_keeps : (live : Bool) (h : Here) (at : Place) (k : ℕ) (m : Module_ref) (s : State) → Fine s → Keeps (Any {A = Module_ref}) s (counted files R live h at k m s)
  counted_keeps true h at k m s f = limit_keeps (nat_lt s.applications 1024) h at k m s f
  counted_keeps false h at k m s f = good.applied h k m s f

  applied_once_keeps : (h : Here) (name_at : Place) (x : Text) (at : Place) (o : Option ℕ) (a : ModExp) (s : State) → Fine s → Under (held s) h.names → Keeps (Any {A = Module_ref}) s (applied_once files R h name_at x at o a s)
  applied_once_keeps h name_at x at None a s f u = keeps_stop s _
  applied_once_keeps h name_at x at (Some k) a s f u = keeps_then s _ _ (good.module_of h a s f u) (λ m s1 y. counted_keeps h.live h at k m s1 y.fine)

  applied_keeps : (h : Here) (at : Place) (x : Text) (as' : List ModExp) (m : Module_ref) (s : State) → Fine s → Under (held s) h.names → Keeps (Any {A = Module_ref}) s (applied_to files R h at x as' m s)
  unfolding applied_to
  applied_keeps h at x [] m s f u = as_it_is s m f tt
  applied_keeps h at x (a ∷ more) m s f u =
      keeps_then s _ _ (applied_once_keeps h at x (out-ModExp a).place (function_in (contents_of s m)) a s f u) (λ n s1 y.
      applied_keeps h at x more n s1 y.fine (under_up (held s) (held s1) h.names y.more u))

  import_keeps : (at : Place) (x : Text) (o : Option ℕ) (s : State) → Fine s → Keeps (Any {A = Module_ref}) s (import_of files R at x o s)
  import_keeps at x None s f = keeps_stop s _
  import_keeps at x (Some k) s f = good.file_of k s f

  -- ---- declarations

  module_keeps : (h : Here) (at : Place) (ps : List Param) (t : Option ModType) (m : ModExp) (s : State) → Fine s → Under (held s) h.names → Keeps (Any {A = Module_ref}) s (module_with files R h at ps t m s)
  module_keeps h at [] t m s f u =
      keeps_then s _ _ (looked_keeps h t s f u) (λ c s1 y1.
      let u1 = under_up (held s) (held s1) h.names y1.more u in
      keeps_then s1 _ _ (good.module_of h m s1 y1.fine u1) (λ n s2 y2. sealed_keeps h t n s2 y2.fine (under_up (held s1) (held s2) h.names y2.more u1)))
  module_keeps h at (p ∷ ps) t m s f u = good.module_of h (curried at p ps t m) s f u

  signature_keeps : (h : Here) (x : Text) (t : ModType) (s : State) → Fine s → Under (held s) h.names → Keeps Under s (signature_with files R h x t s)
  signature_keeps h x t s f u =
      keeps_then s _ _ (good.met (bare h) nothing t s f u) (λ c s1 y.
      keeps_end s1 (with_signature (record { tree = t; names = h.names }) s1) _ (record { more = λ k h. h; fine = fine_signature s1 (record { tree = t; names = h.names }) y.fine (under_up (held s) (held s1) h.names y.more u); good = tt }))

  dec_keeps : (h : Here) (is_top is_local : Bool) (at : Place) (l : DecLayer) (b : Block) (s : State) → Fine s → Under (held s) h.names → Block_under (held s) b → Keeps Block_under s (dec_with files R h is_top is_local at l b s)
  dec_keeps h is_top is_local at (DecForm-F.Def is_entry x heads ps t e) b s f u v =
      once_keeps is_local x _ _ s (declares_keeps is_local b s _ v (as_value_keeps x.name s _ (value_keeps h (may_begin is_top is_entry x.name) x.name heads (definition_term ps t e) s (definition_told ps t e) f u)))
  dec_keeps h is_top is_local at (DecForm-F.TypeName x heads t) b s f u v =
      once_keeps is_local x _ _ s (declares_keeps is_local b s _ v (as_type_keeps x.name s _ (type_keeps h x.name heads (type_term x.place (source_type t)) s tt f u)))
  dec_keeps h is_top is_local at (DecForm-F.Module x ps t m) b s f u v =
      once_keeps is_local x _ _ s (declares_keeps is_local b s _ v (as_module_keeps x.name s _ (module_keeps h at ps t m s f u)))
  dec_keeps h is_top is_local at (DecForm-F.ModType x t) b s f u v =
      once_keeps is_local x _ _ s (declares_keeps is_local b s _ v (signature_keeps h x.name t s f u))
  dec_keeps h is_top is_local at (DecForm-F.Open m) b s f u v =
      keeps_then s _ _ (good.module_of h m s f u) (λ n s1 y. opened_keeps is_local _ _ _ b s1 y.fine (contents_fine s1 n y.fine) (block_up (held s) (held s1) b y.more v))
  dec_keeps h is_top is_local at (DecForm-F.«DecForm::Import» x) b s f u v =
      keeps_then s _ _ (import_keeps at x (imported_file files h.file x) s f) (λ n s1 y. opened_keeps true _ _ _ b s1 y.fine (contents_fine s1 n y.fine) (block_up (held s) (held s1) b y.more v))

  decs_keep : (h : Here) (is_top : Bool) (ds : List Dec) (b : Block) (s : State) → Fine s → Block_under (held s) b → Keeps Block_under s (decs_with files R h is_top ds b s)
  unfolding decs_with
  decs_keep h is_top [] b s f v = as_it_is s b f v
  decs_keep h is_top (d ∷ ds) b s f v =
      keeps_then s _ _ (dec_keeps (seeing b.names h) is_top (out-Dec d).local (out-Dec d).place (out-DecForm (out-Dec d).form) b s f v.names v) (λ c s1 y. decs_keep h is_top ds c s1 y.fine y.good)

  block_keeps : (h : Here) (is_top : Bool) (ds : List Dec) (s : State) → Fine s → Under (held s) h.names → Keeps (Any {A = Module_ref}) s (block_of files R h is_top ds s)
  block_keeps h is_top ds s f u =
      keeps_then s _ _ (decs_keep h is_top ds (no_names h.names) s f (record { names = u; exported = tt })) (λ b s1 y. new_keeps (members b.exported) s1 y.fine y.good.exported)

  mod_keeps : (h : Here) (at : Place) (l : ModLayer) (s : State) → Fine s → Under (held s) h.names → Keeps (Any {A = Module_ref}) s (mod_with files R h at l s)
  mod_keeps h at (ModForm-F.Path []) s f u = keeps_stop s _
  mod_keeps h at (ModForm-F.Path (x ∷ xs)) s f u = from_keeps _ s f
  mod_keeps h at (ModForm-F.Decs ds) s f u = block_keeps h false ds s f u
  mod_keeps h at (ModForm-F.Apply m given) s f u =
      keeps_then s _ _ (good.module_of h m s f u) (λ n s1 y. applied_keeps h _ _ given n s1 y.fine (under_up (held s) (held s1) h.names y.more u))
  mod_keeps h at (ModForm-F.«ModForm::Import» x) s f u = import_keeps at x (imported_file files h.file x) s f
  mod_keeps h at (ModForm-F.Lambda x t w body) s f u = keeps_then s _ _ (lambda_keeps h x t w body s f u) (λ c s1 y. new_keeps c s1 y.fine y.good)
  mod_keeps h at (ModForm-F.Seal m t) s f u =
      keeps_then s _ _ (good.module_of h m s f u) (λ n s1 y. module_met_keeps h (hidden n []) t s1 y.fine (under_up (held s) (held s1) h.names y.more u))

  -- ---- files

  known_keeps : (k : ℕ) (o : Option Module_ref) (s : State) → Fine s → Keeps (Any {A = Module_ref}) s (file_known files R k o s)
  known_keeps k (Some m) s f = as_it_is s m f tt
  known_keeps k None s f =
      keeps_then s _ _ (block_keeps (record { file = k; live = true; names = s.start }) true (decs_of (item files k)) s f f.start) (λ m s1 y.
      keeps_end s1 (with_loaded k m s1) _ (record { more = λ k h. h; fine = fine_loaded k m s1 y.fine; good = tt }))

  pub next_good : Good_walks (next_walks files R)
  next_good = record {
    module_of = λ h m s f u. mod_keeps h (out-ModExp m).place (out-ModForm (out-ModExp m).form) s f u;
    met = λ h meeting t s f u. sig_keeps h meeting (out-ModType t).place (out-ModTypeForm (out-ModType t).form) s f u;
    applied = λ h k m s f. applied_with_keeps h (item s.functors k) k m s f refl;
    file_of = λ k s f. known_keeps k (loaded_at s.loaded k) s f;
  }

no_good : Good_walks no_walks
no_good = record { module_of = λ h m s f u. keeps_stop s TooFar; met = λ h meeting t s f u. keeps_stop s TooFar; applied = λ h k m s f. keeps_stop s TooFar; file_of = λ k s f. keeps_stop s TooFar }

pub good_walks : (files : List Source_file) (depth : ℕ) → Good_walks (walks files depth)
unfolding walks
good_walks files zero = no_good
good_walks files (suc depth) = next_good files (walks files depth) (good_walks files depth)

fine_at_first : Fine at_first
fine_at_first = record { chain = chain_none; modules = tt; functors = tt; signatures = tt; start = tt }

started_fine : (s : State) (m : Module_ref) → Fine s → Fine (started s m)
started_fine s m f = fine_started (members_of (contents_of s m)) s f (members_fine s m f)

declared_keeps : (R : Walks) → Good_walks R → Keeps (Any {A = Module_ref}) at_first (after (R.file_of 0 at_first) (λ m s. R.file_of 1 (started s m)))
declared_keeps R good = keeps_then at_first _ _ (good.file_of 0 at_first fine_at_first) (λ m s y n s' e. let z = good.file_of 1 (started s m) (started_fine s m y.fine) n s' e in record { more = z.more; fine = z.fine; good = tt })

-- what files declare
pub declared_fine : (files : List Source_file) (s : State) → Declare files s → Fine s
unfolding declared_by
declared_fine files s d = (declared_keeps (walks files d.depth) (good_walks files d.depth) d.run s d.is).fine
