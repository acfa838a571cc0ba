-- Where modules are looked at more deeply, files declare the same, but for those for which the first look ended too soon. So
-- what they come to is one.
use Rattle.std.proofs.Common.{◌≡◌, ℕ, zero, suc, ◌+◌, ◌++◌, nat_lt, List, [], ◌∷◌, Bool, true, false, cond, Option, Some, None, Result, Ok, Err, refl, sym, ap, ◌∙◌, subst, arith}
use mathlib.Core.Logic.{◌⊎◌, inl, inr}
use Rattle.fut_scalar.specs.declared.place.Place.{Place}
use Rattle.fut_ast.specs.Sorts.{Text}
use Rattle.fut_ast.specs.declared.node.Label.{Label}
use Rattle.fut_ast.specs.declared.module.Dec.{Dec, out-Dec}
use Rattle.fut_ast.specs.declared.module.DecForm.{DecForm-F, out-DecForm}
use Rattle.fut_ast.specs.declared.module.ModExp.{ModExp, out-ModExp}
use Rattle.fut_ast.specs.declared.module.ModForm.{ModForm-F, out-ModForm}
use Rattle.fut_ast.specs.declared.module.ModType.{ModType, out-ModType}
use Rattle.fut_ast.specs.declared.module.ModTypeForm.{ModTypeForm-F, out-ModTypeForm}
use Rattle.fut_ast.specs.declared.module.Param.{Param}
use Rattle.fut_ast.specs.declared.module.Spec.{Spec, out-Spec}
use Rattle.fut_ast.specs.declared.module.SpecForm.{SpecForm-F, out-SpecForm}
use Rattle.fut_ast.specs.declared.module.With.{With}
use Rattle.elab_scopes.specs.Names.{Refusal, TooFar}
use Rattle.elab_scopes.specs.Scopes.{Module_ref, Member}
use Rattle.elab_scopes.specs.Resolve.{after}
use Rattle.elab_scopes.specs.Programs.{DecLayer, FlatProgram}
use Rattle.elab_scopes.specs.Elaboration.{Declare, Elaborates, answer_of, flat_program}
use Rattle.elab_scopes.specs.Imports.{Source_file, item, imported_file}
use Rattle.elab_scopes.specs.Declarations.{Giving, the_body, of_another, names_alone, Functor, Signature, State, Step, Here, seeing, bare, once_more, Meeting, hidden, shown, nothing, Walks, contents_of, function_in, SigLayer, ModLayer, seen_later, member_of_met, given_within, SpecLayer, in_body, within, Block, no_names, once, curried, loaded_at, decs_of, module_met, module_spec, spec_with, specs_with, signature_met, refined_met, function_met, arrow_met, sig_with, looked_at, sealed_by, lambda_with, given_by, result_of, applied_with, counted, applied_once, applied_to, import_of, module_with, dec_with, decs_with, block_of, mod_with, file_known, no_walks, next_walks, walks, at_first, started, declared_by}
unfoldable use Rattle.elab_laws.specs.Claims.{more_than}
use Rattle.elab_laws.specs.Claims.{DeeperIsSame, FilesComeToOne, DeclaredIsElaborated}
use Rattle.elab_laws.proofs.Grown.{ok_rest}

abbrev More : {A : Type 0} → Result (A × State) Refusal → Result (A × State) Refusal → Type 0
More p q = (p ≡ q) ⊎ (p ≡ Err TooFar)

same : {A : Type 0} (p : Result (A × State) Refusal) → More p p
same p = inl refl

more_then : {A B : Type 0} (p q : Result (A × State) Refusal) (k l : A → Step B) → More p q → ((a : A) (s : State) → More (k a s) (l a s)) → More (after p k) (after q l)
unfolding after
more_then {A} p q k l (inl e) f = subst (λ r. More (after p k) (after r l)) e (both p)
  where
    both : (r : Result (A × State) Refusal) → More (after r k) (after r l)
    both (Ok (a, s)) = f a s
    both (Err x) = inl refl
more_then p q k l (inr e) f = inr (ap (λ r. after r k) e)

record Deeper (R R' : Walks) : Type 0 where
  module_of : (h : Here) (m : ModExp) (s : State) → More (R.module_of h m s) (R'.module_of h m s)
  met : (h : Here) (meeting : Meeting) (t : ModType) (s : State) → More (R.met h meeting t s) (R'.met h meeting t s)
  applied : (h : Here) (k : ℕ) (m : Module_ref) (s : State) → More (R.applied h k m s) (R'.applied h k m s)
  file_of : (k : ℕ) (s : State) → More (R.file_of k s) (R'.file_of k s)

met_more : {A B : Type 0} (x : Label) (o : Option A) (k l : A → Step B) (s : State) → ((a : A) → More (k a s) (l a s)) → More (member_of_met x o k s) (member_of_met x o l s)
unfolding member_of_met
met_more x None k l s f = same _
met_more x (Some a) k l s f = f a

once_more_deeply : {A : Type 0} (is_local : Bool) (x : Label) (o : Option A) (k l : Step Block) (s : State) → More (k s) (l s) → More (once is_local x o k s) (once is_local x o l s)
unfolding once
once_more_deeply true x o k l s m = m
once_more_deeply false x None k l s m = m
once_more_deeply false x (Some a) k l s m = same _

cond_more : {A : Type 0} (t : Bool) (p q e : Result (A × State) Refusal) → More p q → More (cond t p e) (cond t q e)
cond_more true p q e m = m
cond_more false p q e m = same _

module _ (files : List Source_file) (R R' : Walks) (d : Deeper R R') where
  module_met_more : (h : Here) (meeting : Meeting) (t : ModType) (s : State) → More (module_met files R h meeting t s) (module_met files R' h meeting t s)
  module_met_more h meeting t s = more_then _ _ _ _ (d.met h meeting t s) (λ c s1. same _)

  module_spec_more : (h : Here) (meeting : Meeting) (x : Label) (t : ModType) (s : State) → More (module_spec files R h meeting x t s) (module_spec files R' h meeting x t s)
  module_spec_more h nothing x t s = more_then _ _ _ _ (module_met_more h nothing t s) (λ m s1. same _)
  module_spec_more h (hidden m gs) x t s = met_more x _ _ _ s (λ n. more_then _ _ _ _ (module_met_more h (hidden n (given_within gs x.name)) t s) (λ m s1. same _))
  module_spec_more h (shown m gs) x t s = met_more x _ _ _ s (λ n. more_then _ _ _ _ (module_met_more h (shown n (given_within gs x.name)) t s) (λ m s1. same _))

  spec_more : (h : Here) (meeting : Meeting) (l : SpecLayer) (s : State) → More (spec_with files R h meeting l s) (spec_with files R' h meeting l s)
  spec_more h meeting (SpecForm-F.Value x heads t) s = same _
  spec_more h meeting (SpecForm-F.TypeName x t) s = same _
  spec_more h meeting (SpecForm-F.Module x t) s = module_spec_more h meeting x t s
  spec_more h meeting (SpecForm-F.Include t) s = more_then _ _ _ _ (d.met h meeting t s) (λ c s1. same _)

  specs_more : (h : Here) (meeting : Meeting) (ss : List Spec) (out : List Member) (s : State) → More (specs_with files R h meeting ss out s) (specs_with files R' h meeting ss out s)
  unfolding specs_with
  specs_more h meeting [] out s = same _
  specs_more h meeting (sp ∷ ss) out s = more_then _ _ _ _ (spec_more h meeting (out-SpecForm (out-Spec sp).form) s) (λ ms s1. specs_more (seeing (seen_later ms ++ h.names) h) meeting ss (ms ++ out) s1)

  signature_met_more : (h : Here) (meeting : Meeting) (o : Option Signature) (s : State) → More (signature_met files R h meeting o s) (signature_met files R' h meeting o s)
  signature_met_more h meeting None s = same _
  signature_met_more h meeting (Some g) s = d.met (seeing g.names h) meeting g.tree s

  refined_met_more : (h : Here) (meeting : Meeting) (t : ModType) (ws : List With) (m : Module_ref) (s : State) → More (refined_met files R h meeting t ws m s) (refined_met files R' h meeting t ws m s)
  refined_met_more h nothing t ws m s = same _
  refined_met_more h (hidden n gs) t ws m s = more_then _ _ _ _ (same _) (λ l s1. d.met h (hidden n l) t s1)
  refined_met_more h (shown n gs) t ws m s = more_then _ _ _ _ (same _) (λ l s1. d.met h (shown n l) t s1)

  function_met_more : (h : Here) (hides : Bool) (x : Label) (t u : ModType) (p : Module_ref) (k : ℕ) (s : State) → More (function_met files R h hides x t u p k s) (function_met files R' h hides x t u p k s)
  function_met_more h hides x t u p k s =
      more_then _ _ _ _ (d.applied (bare h) k p s) (λ r s1.
      more_then _ _ _ _ (module_met_more (in_body (bare h) x.name p h.names) (hidden r []) u s1) (λ m s2. same _))

  arrow_met_more : (h : Here) (meeting : Meeting) (x : Label) (t u : ModType) (p : Module_ref) (s : State) → More (arrow_met files R h meeting x t u p s) (arrow_met files R' h meeting x t u p s)
  arrow_met_more h nothing x t u p s = more_then _ _ _ _ (module_met_more (in_body (bare h) x.name p h.names) nothing u s) (λ m s1. same _)
  arrow_met_more h (hidden n gs) x t u p s = met_more x (function_in (contents_of s n)) _ _ s (λ k. function_met_more h true x t u p k s)
  arrow_met_more h (shown n gs) x t u p s = met_more x (function_in (contents_of s n)) _ _ s (λ k. function_met_more h false x t u p k s)

  sig_more : (h : Here) (meeting : Meeting) (at : Place) (l : SigLayer) (s : State) → More (sig_with files R h meeting at l s) (sig_with files R' h meeting at l s)
  sig_more h meeting at (ModTypeForm-F.Path p) s = more_then _ _ _ _ (same _) (λ k s1. signature_met_more h meeting (item s1.signatures k) s1)
  sig_more h meeting at (ModTypeForm-F.Specs ss) s = more_then _ _ _ _ (specs_more h meeting ss [] s) (λ ms s1. same _)
  sig_more h meeting at (ModTypeForm-F.With t ws) s = more_then _ _ _ _ (module_met_more (bare h) nothing t s) (λ m s1. more_then _ _ _ _ (same _) (λ n s2. refined_met_more h meeting t ws n s2))
  sig_more h meeting at (ModTypeForm-F.Arrow x t u) s = more_then _ _ _ _ (module_met_more (bare h) nothing t s) (λ p s1. arrow_met_more h meeting x t u p s1)

  looked_more : (h : Here) (t : Option ModType) (s : State) → More (looked_at files R h t s) (looked_at files R' h t s)
  looked_more h None s = same _
  looked_more h (Some t) s = d.met (bare h) nothing t s

  sealed_more : (h : Here) (t : Option ModType) (m : Module_ref) (s : State) → More (sealed_by files R h t m s) (sealed_by files R' h t m s)
  sealed_more h None m s = same _
  sealed_more h (Some t) m s = module_met_more h (hidden m []) t s

  lambda_more : (h : Here) (x : Label) (t : ModType) (u : Option ModType) (body : ModExp) (s : State) → More (lambda_with files R h x t u body s) (lambda_with files R' h x t u body s)
  lambda_more h x t u body s =
      more_then _ _ _ _ (module_met_more (bare h) nothing t s) (λ p s1.
      more_then _ _ _ _ (looked_more (in_body h x.name p h.names) u s1) (λ c s2.
      more_then _ _ _ _ (d.module_of (in_body (bare h) x.name p h.names) body s2) (λ m s3.
      more_then _ _ _ _ (sealed_more (in_body (bare h) x.name p h.names) u m s3) (λ n s4. same _))))

  given_by_more : (h : Here) (g : Functor) (gives : Giving) (p : Module_ref) (s : State) → More (given_by files R h g gives p s) (given_by files R' h g gives p s)
  given_by_more h g (the_body t body) p s = more_then _ _ _ _ (d.module_of (within h g p) body s) (λ m s1. sealed_more (within h g p) t m s1)
  given_by_more h g (of_another k true t) p s = more_then _ _ _ _ (d.applied h k p s) (λ m s1. module_met_more (within h g p) (hidden m []) t s1)
  given_by_more h g (of_another k false t) p s = more_then _ _ _ _ (d.applied h k p s) (λ m s1. module_met_more (within h g p) (shown m []) t s1)
  given_by_more h g names_alone p s = same _

  result_more : (live : Bool) (h : Here) (g : Functor) (p : Module_ref) (s : State) → More (result_of files R live h g p s) (result_of files R' live h g p s)
  result_more true h g p s = given_by_more h g g.gives p s
  result_more false h g p s = same _

  applied_with_more : (h : Here) (o : Option Functor) (m : Module_ref) (s : State) → More (applied_with files R h o m s) (applied_with files R' h o m s)
  applied_with_more h None m s = same _
  applied_with_more h (Some g) m s = more_then _ _ _ _ (module_met_more (seeing g.names h) (shown m []) g.bound s) (λ p s1. result_more h.live h g p s1)

  counted_more : (live : Bool) (h : Here) (at : Place) (k : ℕ) (m : Module_ref) (s : State) → More (counted files R live h at k m s) (counted files R' live h at k m s)
  counted_more true h at k m s = cond_more (nat_lt s.applications 1024) _ _ _ (d.applied h k m (once_more s))
  counted_more false h at k m s = d.applied h k m s

  applied_once_more : (h : Here) (name_at : Place) (x : Text) (at : Place) (o : Option ℕ) (a : ModExp) (s : State) → More (applied_once files R h name_at x at o a s) (applied_once files R' h name_at x at o a s)
  applied_once_more h name_at x at None a s = same _
  applied_once_more h name_at x at (Some k) a s = more_then _ _ _ _ (d.module_of h a s) (λ m s1. counted_more h.live h at k m s1)

  applied_more : (h : Here) (at : Place) (x : Text) (as' : List ModExp) (m : Module_ref) (s : State) → More (applied_to files R h at x as' m s) (applied_to files R' h at x as' m s)
  unfolding applied_to
  applied_more h at x [] m s = same _
  applied_more h at x (a ∷ more) m s = more_then _ _ _ _ (applied_once_more h at x (out-ModExp a).place (function_in (contents_of s m)) a s) (λ n s1. applied_more h at x more n s1)

  import_more : (at : Place) (x : Text) (o : Option ℕ) (s : State) → More (import_of files R at x o s) (import_of files R' at x o s)
  import_more at x None s = same _
  import_more at x (Some k) s = d.file_of k s

  module_more : (h : Here) (at : Place) (ps : List Param) (t : Option ModType) (m : ModExp) (s : State) → More (module_with files R h at ps t m s) (module_with files R' h at ps t m s)
  module_more h at [] t m s = more_then _ _ _ _ (looked_more h t s) (λ c s1. more_then _ _ _ _ (d.module_of h m s1) (λ n s2. sealed_more h t n s2))
  module_more h at (p ∷ ps) t m s = d.module_of h (curried at p ps t m) s

  dec_more : (h : Here) (is_top is_local : Bool) (at : Place) (l : DecLayer) (b : Block) (s : State) → More (dec_with files R h is_top is_local at l b s) (dec_with files R' h is_top is_local at l b s)
  dec_more h is_top is_local at (DecForm-F.Def is_entry x heads ps t e) b s = same _
  dec_more h is_top is_local at (DecForm-F.TypeName x heads t) b s = same _
  dec_more h is_top is_local at (DecForm-F.Module x ps t m) b s = once_more_deeply is_local x _ _ _ s (more_then _ _ _ _ (more_then _ _ _ _ (module_more h at ps t m s) (λ n s1. same _)) (λ ms s1. same _))
  dec_more h is_top is_local at (DecForm-F.ModType x t) b s = once_more_deeply is_local x _ _ _ s (more_then _ _ _ _ (more_then _ _ _ _ (d.met (bare h) nothing t s) (λ c s1. same _)) (λ ms s1. same _))
  dec_more h is_top is_local at (DecForm-F.Open m) b s = more_then _ _ _ _ (d.module_of h m s) (λ n s1. same _)
  dec_more h is_top is_local at (DecForm-F.«DecForm::Import» x) b s = more_then _ _ _ _ (import_more at x (imported_file files h.file x) s) (λ n s1. same _)

  decs_more : (h : Here) (is_top : Bool) (ds : List Dec) (b : Block) (s : State) → More (decs_with files R h is_top ds b s) (decs_with files R' h is_top ds b s)
  unfolding decs_with
  decs_more h is_top [] b s = same _
  decs_more h is_top (c ∷ ds) b s = more_then _ _ _ _ (dec_more (seeing b.names h) is_top (out-Dec c).local (out-Dec c).place (out-DecForm (out-Dec c).form) b s) (λ b s1. decs_more h is_top ds b s1)

  block_more : (h : Here) (is_top : Bool) (ds : List Dec) (s : State) → More (block_of files R h is_top ds s) (block_of files R' h is_top ds s)
  block_more h is_top ds s = more_then _ _ _ _ (decs_more h is_top ds (no_names h.names) s) (λ b s1. same _)

  mod_more : (h : Here) (at : Place) (l : ModLayer) (s : State) → More (mod_with files R h at l s) (mod_with files R' h at l s)
  mod_more h at (ModForm-F.Path []) s = same _
  mod_more h at (ModForm-F.Path (x ∷ xs)) s = same _
  mod_more h at (ModForm-F.Decs ds) s = block_more h false ds s
  mod_more h at (ModForm-F.Apply m given) s = more_then _ _ _ _ (d.module_of h m s) (λ n s1. applied_more h _ _ given n s1)
  mod_more h at (ModForm-F.«ModForm::Import» x) s = import_more at x (imported_file files h.file x) s
  mod_more h at (ModForm-F.Lambda x t u body) s = more_then _ _ _ _ (lambda_more h x t u body s) (λ c s1. same _)
  mod_more h at (ModForm-F.Seal m t) s = more_then _ _ _ _ (d.module_of h m s) (λ n s1. module_met_more h (hidden n []) t s1)

  known_more : (k : ℕ) (o : Option Module_ref) (s : State) → More (file_known files R k o s) (file_known files R' k o s)
  known_more k (Some m) s = same _
  known_more k None s = more_then _ _ _ _ (block_more (record { file = k; live = true; names = s.start }) true (decs_of (item files k)) s) (λ m s1. same _)

  next_deeper : Deeper (next_walks files R) (next_walks files R')
  next_deeper = record {
    module_of = λ h m s. mod_more h (out-ModExp m).place (out-ModForm (out-ModExp m).form) s;
    met = λ h meeting t s. sig_more h meeting (out-ModType t).place (out-ModTypeForm (out-ModType t).form) s;
    applied = λ h k m s. applied_with_more h (item s.functors k) m s;
    file_of = λ k s. known_more k (loaded_at s.loaded k) s;
  }

none_deeper : (R : Walks) → Deeper no_walks R
none_deeper R = record { module_of = λ h m s. inr refl; met = λ h meeting t s. inr refl; applied = λ h k m s. inr refl; file_of = λ k s. inr refl }

walks_deeper : (files : List Source_file) (depth more : ℕ) → Deeper (walks files depth) (walks files (more_than depth more))
unfolding walks more_than
walks_deeper files zero more = none_deeper (walks files more)
walks_deeper files (suc depth) more = next_deeper files (walks files depth) (walks files (more_than depth more)) (walks_deeper files depth more)

declared_deeper : (R R' : Walks) → Deeper R R' → More (after (R.file_of 0 at_first) (λ m s. R.file_of 1 (started s m))) (after (R'.file_of 0 at_first) (λ m s. R'.file_of 1 (started s m)))
declared_deeper R R' d = more_then _ _ _ _ (d.file_of 0 at_first) (λ m s. d.file_of 1 (started s m))

pub deeper_is_same : DeeperIsSame
unfolding declared_by
deeper_is_same depth more files = declared_deeper (walks files depth) (walks files (more_than depth more)) (walks_deeper files depth more)

-- ---- so files come to one answer

more_is : (depth more : ℕ) → more_than depth more ≡ depth + more
unfolding more_than
more_is zero more = omega arith
more_is (suc depth) more = let i = more_is depth more in omega (arith, i)

either_first : (a b : ℕ) → more_than a b ≡ more_than b a
either_first a b = let i = more_is a b in let j = more_is b a in omega (arith, i, j)

answer_deeper : (files : List Source_file) (answer : Result FlatProgram Refusal) → (e : Elaborates files answer) → (more : ℕ) → answer_of (declared_by (more_than e.depth more) files) ≡ answer
answer_deeper files answer e more = by (deeper_is_same e.depth more files)
  where
    by : (declared_by e.depth files ≡ declared_by (more_than e.depth more) files) ⊎ (declared_by e.depth files ≡ Err TooFar) → answer_of (declared_by (more_than e.depth more) files) ≡ answer
    by (inl i) = ap answer_of (sym i) ∙ e.is
    by (inr far) = absurd (e.ends (sym e.is ∙ ap answer_of far))

pub files_come_to_one : FilesComeToOne
files_come_to_one files answer other x y =
    sym (answer_deeper files answer x y.depth) ∙ ap (λ k. answer_of (declared_by k files)) (either_first x.depth y.depth) ∙ answer_deeper files other y x.depth

pub declared_is_elaborated : DeclaredIsElaborated
declared_is_elaborated files s d = record { depth = d.depth; is = ap answer_of d.is; ends = λ e. absurd (let z : ◌≡◌ {A = Result FlatProgram Refusal} (Ok (flat_program s)) (Err TooFar) = e in cc) }

declared_deeply : (files : List Source_file) (s : State) (d : Declare files s) (more : ℕ) → declared_by (more_than d.depth more) files ≡ Ok (d.run, s)
declared_deeply files s d more = by (deeper_is_same d.depth more files)
  where
    by : (declared_by d.depth files ≡ declared_by (more_than d.depth more) files) ⊎ (declared_by d.depth files ≡ Err TooFar) → declared_by (more_than d.depth more) files ≡ Ok (d.run, s)
    by (inl i) = sym i ∙ d.is
    by (inr far) = absurd (let z : ◌≡◌ {A = Result (Module_ref × State) Refusal} (Err TooFar) (Ok (d.run, s)) = sym far ∙ d.is in cc)

-- and declare one thing
pub declared_once : (files : List Source_file) (s t : State) → Declare files s → Declare files t → s ≡ t
declared_once files s t d c =
    ok_rest (sym (declared_deeply files s d c.depth) ∙ ap (λ k. declared_by k files) (either_first d.depth c.depth) ∙ declared_deeply files t c d.depth)
