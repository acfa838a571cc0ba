-- Files by their numbers.
use Rattle.std.proofs.Common.{◌≡◌, ℕ, zero, suc, ◌+◌, ◌-◌, ◌<◌, ◌≤◌, List, [], ◌∷◌, ◌++◌, map, length, reverse, take, get_or, slice_index_or, Bool, true, false, cond, nat_eq, option_map, Option, Some, None, Result, Ok, Err, refl, sym, ap, ◌∙◌, subst, arith}
use Rattle.std.proofs.lemmas.List.{map-append, reverse-append, take_all, take_more}
use Rattle.fut_ast.specs.declared.module.Dec.{Dec as PlainDec}
use Rattle.elab_scopes.specs.Resolve.{after}
use Rattle.elab_scopes.specs.Imports.{Source_file, item}
use Rattle.elab_scopes.specs.Scopes.{Module_ref}
use Rattle.elab_scopes.specs.Declarations.{Here, State, Step, Walks, block_of, decs_of as decs_in, file_declared, file_known, file_with, loaded_at, with_loaded}
use Rattle.elab_scopes.specs.declared.meanings.ModuleRef.{ModuleRef}
use Rattle.elab_scopes.specs.declared.refusal.Stop.{Stop}
use Rattle.elab_scopes.specs.Held.{module_ref_of}
use Rattle.module_state.specs.declared.state.Declaring.{Declaring}
use Rattle.module_state.specs.declared.state.Loaded.{Loaded}
use Rattle.elab_scopes.specs.Table.{locals_of, made_of, modules_in}
use Rattle.module_state.specs.Standing.{Stands, Does, does, definition_of, functor_of, loaded_of, signature_of}
use Rattle.module_state.specs.declared.written.SourceFile.{SourceFile}
use Rattle.module_state.specs.Written.{file_of, files_of}
use Rattle.module_state.proofs.Stands.{at_once, same_where}
use Rattle.module_members.proofs.Steps.{goes, halts}
use Rattle.module_members.proofs.Loops.{same_at}
use Rattle.module_walk.specs.Steps.{now_loaded}

-- ---- files that were declared, the newest last

abbrev pub among : List Loaded → ℕ → ℕ → Option Module_ref
among ls n k = loaded_at (reverse (map loaded_of (take n ls))) k

one_newer : (ls : List Loaded) (n k : ℕ) (e : Loaded) → n < length ls → among ls (n + 1) k ≡ cond (nat_eq (slice_index_or ls n e).file k) (Some (module_ref_of (slice_index_or ls n e).module)) (among ls n k)
one_newer ls n k e lt = ap (λ l. loaded_at (reverse (map loaded_of l)) k) (take_more ls n e lt ∙ ap (λ x. take n ls ++ x ∷ []) (same_at ls n e))
    ∙ ap (λ l. loaded_at (reverse l) k) (map-append loaded_of (take n ls) (slice_index_or ls n e ∷ [])) ∙ ap (λ l. loaded_at l k) (reverse-append (map loaded_of (take n ls)) (loaded_of (slice_index_or ls n e) ∷ []))

module _ (ls : List Loaded) (k : ℕ) where
  pub loaded_start : (left : ℕ) → left ≡ length ls → loaded_at (reverse (map loaded_of ls)) k ≡ among ls left k
  loaded_start left e = ap (λ l. loaded_at (reverse (map loaded_of l)) k) (sym (take_all left ls (omega (arith, e))))

  pub loaded_other : (left less : ℕ) (e : Loaded) → less + 1 ≡ left → left ≤ length ls → nat_eq (slice_index_or ls less e).file k ≡ false → loaded_at (reverse (map loaded_of ls)) k ≡ among ls left k → loaded_at (reverse (map loaded_of ls)) k ≡ among ls less k
  loaded_other left less e one le other so = so ∙ ap (λ n. among ls n k) (sym one) ∙ one_newer ls less k e (omega (arith, one, le)) ∙ ap (λ t. cond t (Some (module_ref_of (slice_index_or ls less e).module)) (among ls less k)) other

  pub loaded_found : (left less : ℕ) (e : Loaded) → less + 1 ≡ left → left ≤ length ls → nat_eq (slice_index_or ls less e).file k ≡ true → loaded_at (reverse (map loaded_of ls)) k ≡ among ls left k → Some (module_ref_of (slice_index_or ls less e).module) ≡ loaded_at (reverse (map loaded_of ls)) k
  loaded_found left less e one le found so = sym (so ∙ ap (λ n. among ls n k) (sym one) ∙ one_newer ls less k e (omega (arith, one, le)) ∙ ap (λ t. cond t (Some (module_ref_of (slice_index_or ls less e).module)) (among ls less k)) found)

  pub loaded_none : (left : ℕ) → left ≡ 0 → loaded_at (reverse (map loaded_of ls)) k ≡ among ls left k → None ≡ loaded_at (reverse (map loaded_of ls)) k
  loaded_none left none so = sym (so ∙ ap (λ n. among ls n k) none)

-- ---- a file is declared once

module _ (fs : List Source_file) (R : Walks) (k : ℕ) where
  pub file_is_known : (m : ModuleRef) {d : Declaring} → ((s : State) → Stands d s → Some (module_ref_of m) ≡ loaded_at s.loaded k) → Does module_ref_of (file_with fs R k) d d (Ok m)
  file_is_known m there = does (λ s st. record { state = s; is = ap (λ o. file_known fs R k o s) (sym (there s st)); stands = st })

  pub file_is_new : {d d1 : Declaring} {r : Result ModuleRef Stop} → ((s : State) → Stands d s → None ≡ loaded_at s.loaded k) → Does module_ref_of (file_declared fs R k) d d1 r → Does module_ref_of (file_with fs R k) d d1 r
  file_is_new new w = same_where module_ref_of (file_declared fs R k) (file_with fs R k) (λ s st. ap (λ o. file_known fs R k o s) (sym (new s st))) w

  abbrev at_start : State → Here
  at_start s = record { file = k; live = true; names = s.start }

  abbrev starts : Step Module_ref
  starts s = block_of fs R (at_start s) true (decs_in (item fs k)) s

  began : (ds : List PlainDec) {d d1 : Declaring} {q : Result ModuleRef Stop} → ds ≡ decs_in (item fs k) → Does module_ref_of (block_of fs R (record { file = k; live = true; names = d.start.now }) true ds) d d1 q → Does module_ref_of starts d d1 q
  began ds {d} is w = same_where module_ref_of (block_of fs R (record { file = k; live = true; names = d.start.now }) true ds) starts (λ s st. (λ i. block_of fs R (record { file = k; live = true; names = sym st.start i }) true (sym is i) s)) w

  pub file_goes : (ds : List PlainDec) (m : ModuleRef) {d d1 d2 : Declaring} {q r : Result ModuleRef Stop} → ds ≡ decs_in (item fs k) → q ≡ Ok m → Does module_ref_of (block_of fs R (record { file = k; live = true; names = d.start.now }) true ds) d d1 q → Does module_ref_of (now_loaded k (module_ref_of m)) d1 d2 r → Does module_ref_of (file_declared fs R k) d d2 r
  file_goes ds m is ok w v = goes module_ref_of module_ref_of starts (now_loaded k) ok (began ds is w) v

  pub file_stops : (ds : List PlainDec) (e : Stop) {d d1 : Declaring} {q : Result ModuleRef Stop} → ds ≡ decs_in (item fs k) → q ≡ Err e → Does module_ref_of (block_of fs R (record { file = k; live = true; names = d.start.now }) true ds) d d1 q → Does module_ref_of (file_declared fs R k) d d1 (Err e)
  file_stops ds e is err w = halts module_ref_of module_ref_of starts (now_loaded k) err (began ds is w)

-- ---- a file that was declared

newest : (ls : List Loaded) (l : Loaded) → reverse (map loaded_of (ls ++ l ∷ [])) ≡ loaded_of l ∷ reverse (map loaded_of ls)
newest ls l = ap reverse (map-append loaded_of ls (l ∷ [])) ∙ reverse-append (map loaded_of ls) (loaded_of l ∷ [])

pub loaded_added : (k : ℕ) (m : ModuleRef) (d d1 : Declaring) → d1.loaded ≡ d.loaded ++ record { file = k; «module» = m } ∷ [] → d1.names ≡ d.names → d1.functors ≡ d.functors → d1.signatures ≡ d.signatures → d1.definitions ≡ d.definitions → d1.applications ≡ d.applications → d1.start ≡ d.start
    → Does module_ref_of (now_loaded k (module_ref_of m)) d d1 (Ok m)
loaded_added k m d d1 more ns fs gs ds as' ss = does (λ s st. record {
  state = with_loaded k (module_ref_of m) s;
  is = refl;
  stands = record {
    made = ap made_of ns ∙ st.made;
    modules = ap modules_in ns ∙ st.modules;
    functors = ap (map functor_of) fs ∙ st.functors;
    signatures = ap (map signature_of) gs ∙ st.signatures;
    definitions = ap (λ v. map definition_of v.items) ds ∙ st.definitions;
    applications = as' ∙ st.applications;
    start = ap (λ b. b.now) ss ∙ st.start;
    loaded = ap (λ l. reverse (map loaded_of l)) more ∙ newest d.loaded (record { file = k; «module» = m }) ∙ ap (λ l. (k, module_ref_of m) ∷ l) st.loaded;
    locals = ap locals_of ns ∙ st.locals;
  };
})

-- ---- the declarations of a file

item_there : (fs : List SourceFile) (k : ℕ) (f : SourceFile) → k < length fs → f ≡ get_or fs k f → item (files_of fs) k ≡ Some (file_of f)
unfolding item
item_there [] k f lt is = absurd (omega (arith, lt))
item_there (g ∷ fs) zero f lt is = ap (λ z. Some (file_of z)) (sym is)
item_there (g ∷ fs) (suc k) f lt is = item_there fs k f (omega (arith, lt)) is

pub decs_there : (fs : List SourceFile) (k : ℕ) (f : SourceFile) → k < length fs → f ≡ get_or fs k f → f.program.now.decs ≡ decs_in (item (files_of fs) k)
decs_there fs k f lt is = sym (ap decs_in (item_there fs k f lt is))

pub decs_past : (fs : List SourceFile) (k : ℕ) → length fs ≤ k → [] ≡ decs_in (item (files_of fs) k)
unfolding item
decs_past [] k le = refl
decs_past (f ∷ fs) zero le = absurd (omega (arith, le))
decs_past (f ∷ fs) (suc k) le = decs_past fs k (omega (arith, le))
