-- The flat program of what files declare stands for the files, and binds each number once.
use Rattle.std.proofs.Common.{◌≡◌, ◌<◌, Bool, Result, Err, ℕ, suc, ◌+◌, ◌≤◌, List, [], ◌∷◌, map, true, false, Option, Some, None, Ok, refl, sym, ◌∙◌, subst, arith, length, flat_map, IsPermutation}
use Rattle.std.specs.List.{range_with_len}
use Rattle.fut_scalar.specs.declared.place.BindId.{BindId}
use Rattle.fut_ast.specs.Sorts.{Text}
use Rattle.fut_flat.specs.Numbers.{numbers}
use Rattle.elab_scopes.specs.Scopes.{Module_ref, World, a_world, value_in, world_of}
use Rattle.elab_scopes.specs.Names.{Refusal}
use Rattle.elab_scopes.specs.Programs.{FlatProgram}
use Rattle.elab_scopes.specs.Elaboration.{Declare, Elaborates, answer_of, flats, flat_program}
use Rattle.elab_scopes.specs.Imports.{Source_file}
use Rattle.elab_scopes.specs.Declarations.{Instance, State, declared_by}
use Rattle.fut_flat.specs.Sources.{source_parameters}
use Rattle.fut_meaning.specs.Datums.{Datum, as_value, all_values}
use Rattle.fut_meaning.specs.Found.{Sizing, Told}
use Rattle.fut_meaning.specs.Meaning.{plain}
use Rattle.fut_meaning.specs.Outcomes.{Out, Val, Fail}
use Rattle.fut_meaning.specs.Programs.{Program_means}
use Rattle.fut_meaning.specs.Sames.{Same, Left, Right}
use Rattle.fut_meaning.specs.Sources.{SourceValue, Source_means}
use Rattle.fut_meaning.specs.Flats.{FlatValue, flat_names, flat_tops}
use Rattle.fut_meaning.specs.Resolved.{Resolved, Sizes_hide, Definitions_resolved, no_definition, definition_and, Sees_below}
use Rattle.fut_meaning.proofs.SameNumbers.{numbers_same}
use Rattle.fut_meaning.proofs.SamePrograms.{program_sim}
use Rattle.fut_meaning.proofs.Sims.{go_back, go_forth}
use Rattle.fut_meaning.proofs.SameData.{all_datums_same, source_allows, source_reports, flat_allows, flat_reports}
use Rattle.elab_laws.specs.Binders.{definition_binders}
use Rattle.elab_laws.specs.OnceClaims.{defined_of, definitions_of, EachIsBoundOnce}
use Rattle.elab_laws.specs.Sized.{Sizes_are_told}
use Rattle.elab_laws.specs.Sourced.{outside_of, hiding, named_values, declared_tops, source_of, flat_of}
use Rattle.elab_laws.proofs.OwnSizes.{sees_hiding}
use Rattle.elab_laws.proofs.Filled.{Filled, fill_none, fill_both}
use Rattle.elab_laws.proofs.OnceDefinitions.{flat_binders, define_filled}
use Rattle.elab_laws.proofs.Definitions.{define_so}
use Rattle.elab_laws.proofs.Readings.{Such, any_number, World_under, world_up, sees_below}
use Rattle.elab_laws.specs.Claims.{DeclaredAddsNothing, DeclaredLosesNothing, SameReports, SameResults}
use Rattle.elab_laws.proofs.Deeper.{files_come_to_one, declared_is_elaborated}
use Rattle.elab_laws.proofs.Keeping.{Good, Chain, chain_none, chain_more}
use Rattle.elab_laws.proofs.Walking.{declared_fine}

-- ---- what a definition sees

at_world : (S : Such) (w : World) → World_under S w → World_under S (world_of (a_world w ∷ []))
unfolding world_of
at_world S w u = u

no_value : (w : World) (x : Text) (b : BindId) → value_in (a_world w ∷ []) x ≡ Some b → ⊥
unfolding value_in
no_value w x b e = let z : None ≡ Some b = e in cc

world_sees : (n m : ℕ) (w : World) → n ≤ m → World_under (λ k. k < n) w → Sees_below m (outside_of (a_world w ∷ []))
world_sees n m w le u =
    let s = sees_below n (a_world w ∷ []) (λ x b e. elim (no_value w x b e) [ ]) (at_world (λ k. k < n) w u) in
    record { below = λ p r j h. let b = s.below p r j h in omega (arith, b, le) }

-- ---- all definitions

tops_resolved : {z : Option Sizing} {all : List Instance} {n m : ℕ} {is : List Instance} (lo : ℕ) → Chain all n is m → Sizes_are_told z lo (flats is) → Definitions_resolved z n (declared_tops lo is) (flat_tops lo (named_values (flats is)))
unfolding flat_tops
tops_resolved lo chain_none p = no_definition
tops_resolved {z} lo (chain_more {n = n} {k = k} {m = m} {i = i} {is = is} g c) p =
    let hs = source_parameters i.heads in
    let y = define_so z g.file g.is_entry g.name i.heads i.value (a_world g.world ∷ []) g.made g.made' i.flat (at_world any_number g.world (world_up (λ k h. tt) g.under)) p.0 g.told g.resolved in
    let number : i.flat.bind.0 ≡ n = y.bind ∙ g.first in
    let many : numbers i.value ≡ numbers i.flat.value = numbers_same y.resolved in
    let rest = tops_resolved {z = z} (lo + (1 + numbers i.value)) c (subst (λ j. Sizes_are_told z (lo + (1 + j)) (flats is)) (sym many) p.2) in
    definition_and refl refl (omega (arith, number)) (omega (arith, number, y.more, g.first, g.last))
    (subst (λ sc. Sees_below (suc i.flat.bind.0) (hiding hs (outside_of sc))) (sym g.outside) (sees_hiding hs (world_sees n (suc i.flat.bind.0) g.world (omega (arith, number)) g.under)))
    (subst (λ sc. Sizes_hide z (suc i.flat.bind.0) (hiding hs (outside_of sc)) y.locals y.upto) (sym g.outside) (subst (λ j. Sizes_hide z (suc j) (hiding hs (outside_of (a_world g.world ∷ []))) y.locals y.upto) (sym y.bind) y.hide))
    (subst (λ sc. Resolved y.upto y.locals (hiding hs (outside_of sc)) i.value i.flat.value) (sym g.outside) y.resolved)
    p.1
    (subst (λ j. Definitions_resolved z k (declared_tops (lo + (1 + numbers i.value)) is) (flat_tops (lo + (1 + j)) (named_values (flats is)))) many rest)

pub declared : (files : List Source_file) (s : State) (z : Option Sizing) → Declare files s → Sizes_are_told z 0 (flats s.instances) → Definitions_resolved z 0 (source_of s) (flat_of (flat_program s))
declared files s z d p = tops_resolved 0 (declared_fine files s d).chain p

pub declared_adds_nothing : DeclaredAddsNothing
declared_adds_nothing files st d told p tight budget entry vs ws s o f x = go_back (program_sim told tight budget entry true (declared files st told.sizes d p) s) o f x

pub declared_loses_nothing : DeclaredLosesNothing
declared_loses_nothing files st d told p tight budget entry vs ws s o f x = go_forth (program_sim told tight budget entry false (declared files st told.sizes d p) s) o f x

-- ---- the flat program of files

-- a flat program is that of what the files declare
pub declared_of : (files : List Source_file) (flat : FlatProgram) → Elaborates files (Ok flat) → (s : State) × Declare files s × (flat_program s ≡ flat)
declared_of files flat e = of (declared_by e.depth files) refl e.is
  where
    of : (r : Result (Module_ref × State) Refusal) → declared_by e.depth files ≡ r → answer_of r ≡ Ok flat → (s : State) × Declare files s × (flat_program s ≡ flat)
    of (Ok (m, s)) d a = (s, record { depth = e.depth; run = m; is = d }, let z : ◌≡◌ {A = Result FlatProgram Refusal} (Ok (flat_program s)) (Ok flat) = a in cc)
    of (Err x) d a = absurd (let z : ◌≡◌ {A = Result FlatProgram Refusal} (Err x) (Ok flat) = a in cc)

pub flat_is : (files : List Source_file) (flat : FlatProgram) → Elaborates files (Ok flat) → (s : State) → Declare files s → flat_program s ≡ flat
flat_is files flat e s d = let z : ◌≡◌ {A = Result FlatProgram Refusal} (Ok (flat_program s)) (Ok flat) = files_come_to_one files (Ok (flat_program s)) (Ok flat) (declared_is_elaborated files s d) e in cc

module _ (files : List Source_file) (flat : FlatProgram) (e : Elaborates files (Ok flat)) (told : Told) (p : Sizes_are_told told.sizes 0 flat.definitions) (tight : Bool) (budget entry : ℕ) (arguments : List Datum) where
  abbrev Flat_allows : FlatProgram → Out FlatValue → ℕ → Type 0
  Flat_allows flat = Program_means (flat_names told) (plain tight) budget (flat_of flat) entry (all_values arguments)

  sizes_of : (s : State) → flat_program s ≡ flat → Sizes_are_told told.sizes 0 (flats s.instances)
  sizes_of s is = subst (λ (f : FlatProgram). Sizes_are_told told.sizes 0 f.definitions) (sym is) p

  to_source : (o : Out FlatValue) (f : ℕ) → Flat_allows flat o f → (s : State) × Declare files s × Left (Same told.sizes) (Source_means told (plain tight) budget (source_of s) entry (all_values arguments)) o f
  to_source o f x =
      let d = declared_of files flat e in
      (d.0, d.1, declared_adds_nothing files d.0 d.1 told (sizes_of d.0 d.2) tight budget entry _ _ (all_datums_same arguments) o f (subst (λ (z : FlatProgram). Flat_allows z o f) (sym d.2) x))

  from_source : (s : State) → Declare files s → (o : Out SourceValue) (f : ℕ) → Source_means told (plain tight) budget (source_of s) entry (all_values arguments) o f → Right (Same told.sizes) (Flat_allows flat) o f
  from_source s d o f x =
      let is = flat_is files flat e s d in
      subst (λ (z : FlatProgram). Right (Same told.sizes) (Flat_allows z) o f) is (declared_loses_nothing files s d told (sizes_of s is) tight budget entry _ _ (all_datums_same arguments) o f x)

pub same_results : SameResults
same_results files flat e told p tight budget entry arguments result words = (
  λ x. let y = to_source files flat e told p tight budget entry arguments (Val (as_value result)) words x in (y.0, y.1, source_allows _ result words y.2),
  λ x. flat_allows _ result words (from_source files flat e told p tight budget entry arguments x.0 x.1 (Val (as_value result)) words x.2),
)

pub same_reports : SameReports
same_reports files flat e told p tight budget entry arguments report words = (
  λ x. let y = to_source files flat e told p tight budget entry arguments (Fail report) words x in (y.0, y.1, source_reports _ report words y.2),
  λ x. flat_reports _ report words (from_source files flat e told p tight budget entry arguments x.0 x.1 (Fail report) words x.2),
)

-- ---- numbers

good_filled : {all : List Instance} {n m : ℕ} {i : Instance} → Good all n m i → Filled n m (flat_binders i.flat)
good_filled {all} {n} {m} {i} g = subst (λ z. Filled z m (flat_binders i.flat)) g.first (subst (λ z. Filled (length g.made) z (flat_binders i.flat)) g.last (define_filled g.file g.is_entry g.name i.heads i.value (a_world g.world ∷ []) g.made g.made' i.flat g.resolved))

chain_filled : {all : List Instance} {n m : ℕ} {is : List Instance} → Chain all n is m → Filled n m (flat_map definition_binders (map defined_of (flats is)))
chain_filled chain_none = fill_none refl
chain_filled (chain_more g c) = fill_both (good_filled g) (chain_filled c)

pub each_is_bound_once : EachIsBoundOnce
each_is_bound_once files flat e =
    let d = declared_of files flat e in
    let s = d.0 in
    let f = chain_filled (declared_fine files s d.1).chain in
    let all : f.many ≡ length s.made = omega (arith, f.upto) in
    subst (λ (z : FlatProgram). IsPermutation (range_with_len 0 (length z.names)) (flat_map definition_binders (definitions_of z))) d.2
    (subst (λ k. IsPermutation (range_with_len 0 k) (flat_map definition_binders (map defined_of (flats s.instances)))) all f.each)
