-- A sizing that tells of each use the size whose name it is, found by its node, is right about the sizes of an elaborated
-- program.
use Rattle.std.proofs.Common.{◌≡◌, Bool, true, false, sym, ℕ, ◌+◌, ◌<◌, ◌≤◌, List, [], ◌∷◌, cond, nat_lt, Option, Some, None, Result, Ok, Err, refl, ap, ◌∙◌, subst, arith}
use mathlib.Core.Logic.{inl, inr}
use Rattle.std.proofs.lemmas.Bool.{lt-ltb, le-ltb}
use Rattle.fut_scalar.specs.declared.place.BindId.{BindId}
use Rattle.fut_scalar.specs.declared.place.Place.{Place}
use Rattle.fut_ast.specs.Sorts.{Text, Path}
use Rattle.fut_ast.specs.declared.node.Label.{Label}
use Rattle.fut_ast.specs.declared.pat.Head.{Head}
use Rattle.fut_flat.specs.declared.prim.Ref.{Ref}
use Rattle.fut_flat.specs.declared.prim.Ref.TheVariants as ref
use Rattle.fut_flat.specs.Erased.{FlatTerm, FlatTurns}
use Rattle.fut_flat.specs.Numbers.{pattern_numbers, all_pattern_numbers, own_numbers, numbers, all_numbers, turn_numbers}
use Rattle.fut_flat.specs.Sources.{Spelled, SourceTerm, SourceTurns, source_parameters}
use Rattle.fut_flat.specs.Terms.{Patterns, no_pattern, pattern_and, Parameter, Project, Use, Strict, Lambda, Apply, Let, If, Loop, Terms, no_term, term_and, Counted, Over, While}
use Rattle.fut_meaning.specs.Found.{Sizing}
use Rattle.fut_meaning.specs.Uses.{Sizes_told, All_sizes_told, Turns_told}
use Rattle.elab_scopes.specs.Names.{Refusal}
use Rattle.elab_scopes.specs.Scopes.{World, value_among, Entry, a_value, a_type, a_world, Scope, value_in, world_of, enter, Found, by_value, value_at, value_of}
use Rattle.elab_scopes.specs.Resolve.{Numbered, with_text, Bound, resolve_parameters, number_sizes, number_heads, projected, use_found, is_declared, section_name, stands_behind, resolve, resolve_all, resolve_turns}
use Rattle.elab_scopes.specs.Programs.{FlatDefinition, FlatProgram, define}
use Rattle.elab_scopes.specs.Elaboration.{flats}
use Rattle.elab_scopes.specs.Declarations.{Instance}
use Rattle.elab_laws.specs.Sized.{Sizes_are_told}
use Rattle.elab_laws.specs.Used.{Definitions_are_no_sizes, used_at, all_used_at, turns_used_at, used_in_definitions, Use_plain, Uses_plain, All_plain, Turns_plain, Sizes_bound, All_bound, Turns_bound, Definitions_bound, UsesAreTold}
use Rattle.elab_laws.proofs.Grown.{went, led_so, ok_part}
use Rattle.elab_laws.proofs.Readings.{Such, World_under, among_under, Finds, finds_bound, finds_primitive, finds_none, finds_outside, No_world}
use Rattle.elab_laws.proofs.Terms.{whole_local, sizes_local, heads_local, either_order}
use Rattle.elab_laws.proofs.Keeping.{Is_defined, Chain, chain_none, chain_more}
use Rattle.elab_laws.proofs.Programs.{declared_of}
use Rattle.elab_laws.proofs.Walking.{declared_fine}

abbrev Definitions_plain : Such → List FlatDefinition → Type 0
Definitions_plain S [] = Unit {0}
Definitions_plain S (d ∷ ds) = Uses_plain S d.value × Definitions_plain S ds

-- where no such number is that of a size
module _ (Z : Sizing) (S : Such) (apart : (k : ℕ) → S k → Z.is_size k ≡ false) where
  -- what the sizing tells of the nodes from one on and below another
  abbrev Agrees : ℕ → ℕ → (ℕ → Option ℕ) → Type 0
  Agrees from upto f = (node : ℕ) → from ≤ node → node < upto → Z.used node ≡ f node

  within : {a b c d : ℕ} {f : ℕ → Option ℕ} → a ≤ c → d ≤ b → Agrees a b f → Agrees c d f
  within le ge h node from upto = h node (omega (arith, le, from)) (omega (arith, ge, upto))

  first : {a b mid : ℕ} (f g : ℕ → Option ℕ) → mid ≤ b → Agrees a b (λ node. cond (nat_lt node mid) (f node) (g node)) → Agrees a mid f
  first {mid = mid} f g le h node from upto = h node from (omega (arith, le, upto)) ∙ ap (λ t. cond t (f node) (g node)) (lt-ltb node mid upto)

  second : {a b mid : ℕ} (f g : ℕ → Option ℕ) → a ≤ mid → Agrees a b (λ node. cond (nat_lt node mid) (f node) (g node)) → Agrees mid b g
  second {mid = mid} f g le h node from upto = h node (omega (arith, le, from)) upto ∙ ap (λ t. cond t (f node) (g node)) (le-ltb node mid from)

  abbrev at : ℕ → FlatTerm → ℕ → Option ℕ
  at = used_at Z.is_size

  behind_no_module : (b : BindId) (k : ℕ) → Use_plain S (ref.Bound b) k → Z.is_size b.0 ≡ true → k ≡ 0
  behind_no_module b k (inl e) is = e
  behind_no_module b k (inr h) is = absurd (let z : false ≡ true = sym (apart b.0 h) ∙ is in cc)

  mutual
    unfolding used_at all_used_at turns_used_at

    term_told : (lo : ℕ) (t : FlatTerm) → Uses_plain S t → Sizes_bound (Some Z) t → Agrees lo (lo + numbers t) (used_at Z.is_size lo t) → Sizes_told (Some Z) lo t
    term_told lo (Use (ref.Bound b) place k) u n h = (h (lo + (k + k)) (omega arith) (omega arith), behind_no_module b k u)
    term_told lo (Use (ref.Prim p) place k) u n h = h (lo + (k + k)) (omega arith) (omega arith)
    term_told lo (Use (ref.Scalar s) place k) u n h = h (lo + (k + k)) (omega arith) (omega arith)
    term_told lo (Strict o mark ts) u n h = terms_told (lo + own_numbers o) ts u n (within (omega arith) (omega arith) h)
    term_told lo (Lambda ps e) u n h = term_told (1 + lo + all_pattern_numbers ps) e u n (within (omega arith) (omega arith) h)
    term_told lo (Apply f e) u n h = (
      term_told (1 + lo) f u.0 n.0 (within (omega arith) (omega arith) (first (at (1 + lo) f) (at (1 + lo + numbers f) e) (omega arith) h)),
      term_told (1 + lo + numbers f) e u.1 n.1 (within (omega arith) (omega arith) (second (at (1 + lo) f) (at (1 + lo + numbers f) e) (omega arith) h)),
    )
    term_told lo (Let b v e) u n h =
        let here = 1 + lo + pattern_numbers b.pattern in (
          n.0,
          n.1,
          term_told here v u.0 n.2 (within (omega arith) (omega arith) (first (at here v) (at (here + numbers v) e) (omega arith) h)),
          term_told (here + numbers v) e u.1 n.3 (within (omega arith) (omega arith) (second (at here v) (at (here + numbers v) e) (omega arith) h)),
        )
    term_told lo (If c a b) u n h =
        let then = 1 + lo + numbers c in
        let rest = second (at (1 + lo) c) (λ node. cond (nat_lt node (then + numbers a)) (at then a node) (at (then + numbers a) b node)) (omega arith) h in (
          term_told (1 + lo) c u.0 n.0 (within (omega arith) (omega arith) (first (at (1 + lo) c) (λ node. cond (nat_lt node (then + numbers a)) (at then a node) (at (then + numbers a) b node)) (omega arith) h)),
          term_told then a u.1 n.1 (within (omega arith) (omega arith) (first (at then a) (at (then + numbers a) b) (omega arith) rest)),
          term_told (then + numbers a) b u.2 n.2 (within (omega arith) (omega arith) (second (at then a) (at (then + numbers a) b) (omega arith) rest)),
        )
    term_told lo (Loop mark sizes p e ts body) u n h =
        let here = 1 + lo + pattern_numbers p in
        let mid = here + numbers e in
        let turning = turns_used_at Z.is_size mid ts in
        let rest = second (at here e) (λ node. cond (nat_lt node (mid + turn_numbers ts)) (turning node) (at (mid + turn_numbers ts) body node)) (omega arith) h in (
          n.0,
          term_told here e u.0 n.1 (within (omega arith) (omega arith) (first (at here e) (λ node. cond (nat_lt node (mid + turn_numbers ts)) (turning node) (at (mid + turn_numbers ts) body node)) (omega arith) h)),
          turns_told mid ts u.1 n.2 (within (omega arith) (omega arith) (first turning (at (mid + turn_numbers ts) body) (omega arith) rest)),
          term_told (mid + turn_numbers ts) body u.2 n.3 (within (omega arith) (omega arith) (second turning (at (mid + turn_numbers ts) body) (omega arith) rest)),
        )

    terms_told : (lo : ℕ) (ts : Terms Ref BindId) → All_plain S ts → All_bound (Some Z) ts → Agrees lo (lo + all_numbers ts) (all_used_at Z.is_size lo ts) → All_sizes_told (Some Z) lo ts
    terms_told lo no_term u n h = tt
    terms_told lo (term_and t ts) u n h = (
      term_told lo t u.0 n.0 (first (at lo t) (all_used_at Z.is_size (lo + numbers t) ts) (omega arith) h),
      terms_told (lo + numbers t) ts u.1 n.1 (within (omega arith) (omega arith) (second (at lo t) (all_used_at Z.is_size (lo + numbers t) ts) (omega arith) h)),
    )

    turns_told : (lo : ℕ) (ts : FlatTurns) → Turns_plain S ts → Turns_bound (Some Z) ts → Agrees lo (lo + turn_numbers ts) (turns_used_at Z.is_size lo ts) → Turns_told (Some Z) lo ts
    turns_told lo (Counted i e) u n h = term_told (1 + lo) e u n (within (omega arith) (omega arith) h)
    turns_told lo (Over p e) u n h = term_told (lo + pattern_numbers p) e u n (within (omega arith) (omega arith) h)
    turns_told lo (While c) u n h = term_told lo c u n h

  -- from a number of nodes on
  pub definitions_told : (lo : ℕ) (ds : List FlatDefinition) → Definitions_plain S ds → Definitions_bound (Some Z) ds → ((node : ℕ) → lo ≤ node → Z.used node ≡ used_in_definitions Z.is_size lo ds node) → Sizes_are_told (Some Z) lo ds
  unfolding used_in_definitions
  definitions_told lo [] u n h = tt
  definitions_told lo (d ∷ ds) u n h =
      let next = lo + (1 + numbers d.value) in (
        n.0,
        term_told (1 + lo) d.value u.0 n.1 (within (omega arith) (omega arith) (first {a = lo} {b = next} (at (1 + lo) d.value) (used_in_definitions Z.is_size next ds) (omega arith) (λ node from upto. h node from))),
        definitions_told next ds u.1 n.2 (λ node from. h node (omega (arith, from)) ∙ ap (λ t. cond t (at (1 + lo) d.value node) (used_in_definitions Z.is_size next ds node)) (le-ltb node next from)),
      )

-- ---- behind a module an elaborated program uses numbers of definitions

module _ (S : Such) where
  Plain_found : Result Found Refusal → Type 0
  Plain_found (Ok f) = Use_plain S f.names f.modules
  Plain_found (Err e) = Unit {0}

  -- of an outside without values
  outside_plain : {p : Path} {r : Result Found Refusal} → Finds (λ b. S b.0) p r → Plain_found r
  unfolding Plain_found
  outside_plain (finds_bound b k fs u h) = inr u
  outside_plain (finds_primitive q k fs h) = tt
  outside_plain (finds_none e) = tt

  value_plain : (w : World) (at : Place) (x : Text) (rest : Path) (o : Option BindId) → World_under S w → Plain_found (by_value w at x rest o)
  unfolding Plain_found
  value_plain w at x rest (Some b) u = inl refl
  value_plain w at x rest None u = outside_plain (finds_outside S w at x rest (value_among w.names x) (among_under S w.names x u.names) u)

  path_plain : (sc : Scope) (at : Place) (p : Path) → World_under S (world_of sc) → Plain_found (value_at sc at p)
  unfolding Plain_found
  path_plain sc at [] u = tt
  path_plain sc at (x ∷ rest) u = value_plain (world_of sc) at x rest (value_in sc x) u

  projected_plain : (at : Place) (fs : Path) (e : FlatTerm) → Uses_plain S e → Uses_plain S (projected at e fs)
  unfolding projected
  projected_plain at [] e u = u
  projected_plain at (f ∷ fs) e u = projected_plain at fs (Strict (Project f) at (term_and e no_term)) (u, tt)

  use_plain : (at : Place) (made made' : List Text) (u : FlatTerm) (r : Result Found Refusal) → Plain_found r → use_found at made r ≡ Ok (u, made') → Uses_plain S u
  unfolding Plain_found
  use_plain at made made' u (Ok f) p e = subst (Uses_plain S) (ok_part e) (projected_plain at f.fields (Use f.names at f.modules) p)
  use_plain at made made' u (Err x) p e = absurd (let z : ◌≡◌ {A = Numbered FlatTerm} (Err x) (Ok (u, made')) = e in cc)

  -- local names leave what stands outside
  world_kept : (es : List Entry) (sc : Scope) → No_world es → World_under S (world_of sc) → World_under S (world_of (enter es sc))
  unfolding enter world_of
  world_kept [] sc n u = u
  world_kept (a_value x b ∷ es) sc n u = world_kept es (a_value x b ∷ sc) n u
  world_kept (a_type x b ∷ es) sc n u = world_kept es (a_type x b ∷ sc) n u
  world_kept (a_world w ∷ es) sc n u = absurd n

  parameters_kept : (ps : Patterns Spelled Label) (sc : Scope) (made made' : List Text) (r : Patterns Ref BindId × Scope) → World_under S (world_of sc) → resolve_parameters ps sc made ≡ Ok (r, made') → World_under S (world_of r.1)
  unfolding resolve_parameters
  parameters_kept no_pattern sc made made' r u e = subst (λ (z : Patterns Ref BindId × Scope). World_under S (world_of z.1)) (ok_part e) u
  parameters_kept (pattern_and p ps) sc made made' r u e =
      went _ _ _ e (λ b m h g. went _ _ _ g (λ qs n i w.
      subst (λ (z : Patterns Ref BindId × Scope). World_under S (world_of z.1)) (ok_part w) (parameters_kept ps (enter b.1 sc) m n qs (world_kept b.1 sc (whole_local p sc made m b h) u) i)))

  sizes_kept : (xs : List Label) (made m : List Text) (s : Bound (List BindId)) (sc : Scope) → ◌≡◌ {A = Numbered (Bound (List BindId))} (Ok (number_sizes xs made)) (Ok (s, m)) → World_under S (world_of sc) → World_under S (world_of (enter s.1 sc))
  sizes_kept xs made m s sc e u = world_kept s.1 sc (subst (λ (z : Bound (List BindId)). No_world z.1) (ok_part e) (sizes_local xs made)) u

  heads_kept : (hs : List (Parameter Label)) (made m : List Text) (g : Bound (List (Parameter BindId))) (sc : Scope) → ◌≡◌ {A = Numbered (Bound (List (Parameter BindId)))} (Ok (number_heads hs made)) (Ok (g, m)) → World_under S (world_of sc) → World_under S (world_of (enter g.1 sc))
  heads_kept hs made m g sc e u = world_kept g.1 sc (subst (λ (z : Bound (List (Parameter BindId))). No_world z.1) (ok_part e) (heads_local hs made)) u

  -- what a turn binds is local, and its form uses no name behind a module
  record Turned (b : Bound FlatTurns) : Type 0 where
    plain : Turns_plain S b.0
    local : No_world b.1

  mutual
    unfolding resolve resolve_all resolve_turns value_of

    term_plain : (t : SourceTerm) (sc : Scope) (made made' : List Text) (u : FlatTerm) → World_under S (world_of sc) → resolve t sc made ≡ Ok (u, made') → Uses_plain S u
    term_plain (Use p at k) sc made made' u w e = use_plain at made made' u (value_at sc p.place p.path) (path_plain sc p.place p.path w) e
    term_plain (Strict o mark ts) sc made made' u w e =
        either_order (is_declared o) e
        (λ g. went _ _ _ g (λ a m h g. went _ _ _ g (λ us l i q. subst (Uses_plain S) (ok_part q) (all_plain ts sc m l us w i))))
        (λ g. went _ _ _ g (λ us m h g. went _ _ _ g (λ a l i q. subst (Uses_plain S) (ok_part q) (all_plain ts sc made m us w h))))
    term_plain (Lambda ps body) sc made made' u w e =
        went _ _ _ e (λ a m h g. went _ _ _ g (λ b l i q. subst (Uses_plain S) (ok_part q) (term_plain body a.1 m l b (parameters_kept ps sc made m a w h) i)))
    term_plain (Apply f a) sc made made' u w e =
        either_order (stands_behind f) e
        (λ g. went _ _ _ g (λ b m h g. went _ _ _ g (λ c l i q. subst (Uses_plain S) (ok_part q) (term_plain f sc m l c w i, term_plain a sc made m b w h))))
        (λ g. went _ _ _ g (λ b m h g. went _ _ _ g (λ c l i q. subst (Uses_plain S) (ok_part q) (term_plain f sc made m b w h, term_plain a sc m l c w i))))
    term_plain (Let b v body) sc made made' u w e =
        led_so (section_name body) sc _ _ e (λ g0. went _ _ _ g0 (λ s m1 h1 g1. went _ _ _ g1 (λ p m2 h2 g2. went _ _ _ g2 (λ hs m3 h3 g3. went _ _ _ g3 (λ v' m4 h4 g4. went _ _ _ g4 (λ e' m5 h5 q.
        let inner = sizes_kept b.sizes made m1 s sc h1 w in
        subst (Uses_plain S) (ok_part q) (term_plain v (enter hs.1 sc) m3 m4 v' (heads_kept b.parameters m2 m3 hs sc h3 w) h4, term_plain body (enter p.1 (enter s.1 sc)) m4 m5 e' (world_kept p.1 (enter s.1 sc) (whole_local b.pattern (enter s.1 sc) m1 m2 p h2) inner) h5)))))))
    term_plain (If c a b) sc made made' u w e =
        went _ _ _ e (λ c' m h g. went _ _ _ g (λ a' l i g. went _ _ _ g (λ b' k j q. subst (Uses_plain S) (ok_part q) (term_plain c sc made m c' w h, term_plain a sc m l a' w i, term_plain b sc l k b' w j))))
    term_plain (Loop mark sizes p first turns body) sc made made' u w e =
        went _ _ _ e (λ s m1 h1 g1. went _ _ _ g1 (λ p' m2 h2 g2. went _ _ _ g2 (λ f m3 h3 g3. went _ _ _ g3 (λ t m4 h4 g4. went _ _ _ g4 (λ b m5 h5 q.
        let inner = world_kept p'.1 (enter s.1 sc) (whole_local p (enter s.1 sc) m1 m2 p' h2) (sizes_kept sizes made m1 s sc h1 w) in
        let turned = turns_plain turns sc (enter p'.1 (enter s.1 sc)) m3 m4 t w inner h4 in
        subst (Uses_plain S) (ok_part q) (term_plain first sc m2 m3 f w h3, turned.plain, term_plain body (enter t.1 (enter p'.1 (enter s.1 sc))) m4 m5 b (world_kept t.1 (enter p'.1 (enter s.1 sc)) turned.local inner) h5))))))

    all_plain : (ts : Terms Spelled Label) (sc : Scope) (made made' : List Text) (us : Terms Ref BindId) → World_under S (world_of sc) → resolve_all ts sc made ≡ Ok (us, made') → All_plain S us
    all_plain no_term sc made made' us w e = subst (All_plain S) (ok_part e) tt
    all_plain (term_and t ts) sc made made' us w e =
        went _ _ _ e (λ a m h g. went _ _ _ g (λ b l i q. subst (All_plain S) (ok_part q) (term_plain t sc made m a w h, all_plain ts sc m l b w i)))

    turns_plain : (ts : SourceTurns) (out inner : Scope) (made made' : List Text) (b : Bound FlatTurns) → World_under S (world_of out) → World_under S (world_of inner) → resolve_turns ts out inner made ≡ Ok (b, made') → Turned b
    turns_plain (Counted x n) out inner made made' b w wi e =
        went _ _ _ e (λ a m h q. subst Turned (ok_part q) (record { plain = term_plain n out (with_text made x.name) m a w h; local = tt }))
    turns_plain (Over p a) out inner made made' b w wi e =
        went _ _ _ e (λ p' m h g. went _ _ _ g (λ a' l i q. subst Turned (ok_part q) (record { plain = term_plain a out m l a' w i; local = whole_local p inner made m p' h })))
    turns_plain (While c) out inner made made' b w wi e =
        went _ _ _ e (λ a m h q. subst Turned (ok_part q) (record { plain = term_plain c inner made m a wi h; local = tt }))

  define_plain : (file : ℕ) (is_entry : Bool) (x : Text) (heads : List Head) (value : SourceTerm) (sc : Scope) (made m : List Text) (d : FlatDefinition) → World_under S (world_of sc) → define file is_entry x heads value sc made ≡ Ok (d, m) → Uses_plain S d.value
  unfolding define
  define_plain file is_entry x heads value sc made m d w e =
      went _ _ _ e (λ h o i g. went _ _ _ g (λ v l j q.
      subst (λ (z : FlatDefinition). Uses_plain S z.value) (ok_part q) (term_plain value (enter h.1 sc) o l v (heads_kept (source_parameters heads) (with_text made x) o h sc i w) j)))

chain_plain : {all : List Instance} {n m : ℕ} {is : List Instance} → Chain all n is m → Definitions_plain (Is_defined all) (flats is)
unfolding world_of
chain_plain chain_none = tt
chain_plain {all} (chain_more {i = i} g c) = (define_plain (Is_defined all) g.file g.is_entry g.name i.heads i.value (a_world g.world ∷ []) g.made g.made' i.flat g.named g.resolved, chain_plain c)

defined_apart : (is_size : ℕ → Bool) (is : List Instance) → Definitions_are_no_sizes is_size (flats is) → (k : ℕ) → Is_defined is k → is_size k ≡ false
defined_apart is_size [] a k h = elim h [ ]
defined_apart is_size (i ∷ is) a k (inl e) = subst (λ j. is_size j ≡ false) e a.0
defined_apart is_size (i ∷ is) a k (inr h) = defined_apart is_size is a.1 k h

pub uses_are_told : UsesAreTold
uses_are_told files flat e Z =
    let d = declared_of files flat e in
    subst (λ (f : FlatProgram). Definitions_bound (Some Z) f.definitions → Definitions_are_no_sizes Z.is_size f.definitions → ((node : ℕ) → Z.used node ≡ used_in_definitions Z.is_size 0 f.definitions node) → Sizes_are_told (Some Z) 0 f.definitions) d.2
    (λ n apart h. definitions_told Z (Is_defined d.0.instances) (defined_apart Z.is_size d.0.instances apart) 0 (flats d.0.instances) (chain_plain (declared_fine files d.0 d.1).chain) n (λ node from. h node))
