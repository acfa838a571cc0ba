-- Each value that a sized term may give is of its sized type.
use Rattle.sized_meaning.specs.There.{Operation_there, Term_there, Terms_there, Turns_there}
use Rattle.sized_meaning.proofs.Environments.{Quiet}
use Rattle.sized_meaning.proofs.Outcomes.{gives_quiet, gives_each_way, out_quiet}
use Rattle.sized_meaning.proofs.Loops.{while_asks}
use Rattle.sized_meaning.proofs.Size_reports.{truth_of_fine, look_fine}
use Rattle.fut_meaning.specs.Outcomes.{Out, Fail, Wrong}
use Rattle.sized_meaning.proofs.Quiet.{too_many_turns}
use Rattle.sized_meaning.specs.There.{There}
use Rattle.sized_meaning.proofs.Reading.{fits_same, each_hole_as}
use Rattle.std.proofs.Common.{◌≡◌, ◌⊎◌, ℕ, ◌+◌, ◌≤◌, List, [], ◌∷◌, Bool, true, false, cond, Some, Ok, refl, sym, ap, ◌∙◌, subst, arith, inl, inr, eq-eqb}
use Rattle.fut_typing.proofs.Ranges.{numbers_some}
use Rattle.fut_scalar.specs.declared.place.BindId.{BindId}
use Rattle.fut_scalar.specs.declared.place.Place.{Place}
use Rattle.fut_flat.specs.declared.prim.Ref.{Ref}
use Rattle.fut_flat.specs.declared.prim.Ref.TheVariants as ref
use Rattle.fut_flat.specs.Numbers.{pattern_numbers, all_pattern_numbers, own_numbers, numbers, all_numbers, turn_numbers}
use Rattle.fut_flat.specs.Terms.{Typed_pattern, Bound_pattern, Wild_pattern, Tuple_pattern, Record_pattern, pattern_and, Binding, Operation, Binary, Project, Use, Strict, Lambda, Apply, Let, If, Loop, Terms, no_term, term_and, Counted, Over, While}
use Rattle.fut_flat.specs.Erased.{FlatTerm, FlatTurns, FlatPattern}
use Rattle.fut_scalar.specs.declared.report.FailKind.TheVariants as kind
use Rattle.fut_scalar.specs.declared.report.Report.{Report}
use Rattle.fut_scalar.specs.declared.scalar.IntType.{IntType}
use Rattle.fut_scalar.specs.declared.scalar.Scalar.TheVariants as scalar
use Rattle.fut_scalar.specs.declared.scalar.ScalarType.TheVariants as sort
use Rattle.fut_types.specs.Types.{Sub, scalar_ty}
use Rattle.fut_typing.specs.Names.{Names}
use Rattle.fut_meaning.specs.Accessors.{bound, truth_of, turns_of}
use Rattle.fut_meaning.specs.Arrays.{rows_of}
use Rattle.fut_meaning.specs.Datums.{as_value, datum_of}
use Rattle.fut_meaning.specs.Taken.{size_value}
use Rattle.fut_meaning.proofs.Safe.{Every}
use Rattle.fut_meaning.specs.Flats.{FlatValue, FlatEnv, flat_look, flat_names}
use Rattle.fut_meaning.specs.Meaning.{placed, plain, row_told, fits_type, Of_literal, looped, counts}
use Rattle.fut_meaning.specs.Operations.{report, operated}
use Rattle.fut_meaning.specs.Outcomes.{Val, Rel, and_then, the, Then, choose, each_of, turns, while_turns}
use Rattle.fut_meaning.specs.Values.{Scalar_value, Closure, bind, entered, Evaluate, values}
use Rattle.sized_types.specs.Sizes.{Free, Const, Name, Own, Unknown, Slot, Dim, Size, Level, Sizes, no_size, size_and, renamed, Variable, Hole}
use Rattle.fut_sizes.specs.Agreeing.{is_among}
use Rattle.fut_sizes.specs.Operations.{operation}
use Rattle.fut_sizes.specs.Scopes.{i64_size, names}
use Rattle.fut_sizes.specs.Scoping.{Context, with_name, with_size_names, with_pattern}
use Rattle.fut_sizes.specs.Sizing.{all_part_names, bind_ids, row_of}
use Rattle.fut_sizes.specs.Suiting.{Each, Scoped, Data, Suits, Free_of, Never_at}
use Rattle.fut_sizes.specs.Rules.{taken_by, Away, Pattern_takes, Filled_use, part_sizes, Let_sized, Loops, Branches, General_form, Generalised, Compared_found, with_general, counter, Sized, All_sized, Turns_sized, For_each_choice}
use Rattle.sized_meaning.specs.Worth.{Worth, no_frames}
use Rattle.sized_meaning.specs.Shapes.{Meant, exactly, Has_datum}
use Rattle.sized_meaning.specs.Finding.{One_kind_each}
use Rattle.sized_meaning.specs.Fits.{Out_fits, Gives, Fits, All_fit}
use Rattle.sized_meaning.specs.Law.{Sound, Name_home, Simple, Nodes_away, Sizes_apart, No_lambda, Plain_operation, Plain_term, Plain_terms, Plain_turns, World, told, means, calls, Beyond as Out_beyond, Env_fits, Result as Res, ValuesHaveTheirSizes, One_type, Single}
use Rattle.sized_meaning.proofs.Ways.{gives_as}
use Rattle.sized_meaning.proofs.Words.{nothing_filled, Part_values, part_value, part_words}
use Rattle.sized_meaning.proofs.Outcomes.{gives_exact, gives_then, gives_more, out_of}
use Rattle.sized_meaning.proofs.Suiting.{at_node, suits_fits, node_else, instance_fits}
use Rattle.sized_meaning.proofs.Finding.{exact_kinds}
use Rattle.sized_meaning.proofs.Operations.{operation_fits}
use Rattle.fut_meaning.specs.Operations.{primitive_use}
use Rattle.sized_meaning.proofs.Primitives.{primitive_fits}
use Rattle.sized_meaning.proofs.Applications.{evaluates, Worth_of, argument_worth, called, together}
use Rattle.sized_meaning.proofs.Functions.{closure_fits, Body_law}
use Rattle.sized_meaning.proofs.Patterns.{kept, named_by, nodes_away}
use Rattle.sized_meaning.proofs.Lets.{taking, Taken_value, taken_env, let_result, general_env, names_leave}
use Rattle.sized_meaning.proofs.Loops.{Loop_known, Turn_now, each_lacking, gives_turns, gives_while, starts, ends, while_turn, counted_turn, row_turn, scalar_is, counted_type, any_counts, rows_out, row_apart, row_formed}
use Rattle.sized_meaning.proofs.Branches.{same_form, all_of, first_branch, second_branch}
use Rattle.sized_meaning.proofs.Alike.{Alike, alike_fits}
use Rattle.sized_meaning.proofs.Environments.{beyond_node, outside_narrower, away_narrower, fits_away, env_moves}

module _ (N : Names) (types : Sub) (τ : Meant) (W : World) (S : Sound N types W.sizing) (one : One_kind_each τ) where
  abbrev s : ℕ → Size
  s n = W.sizing.size_at n

  abbrev home : ℕ → ℕ
  home b = W.sizing.home b

  abbrev Env_of : ℕ → ℕ → Worth → Context → FlatEnv → Type 0
  Env_of lo hi m G env = Env_fits N types τ W lo hi m G env

  abbrev R_of : ℕ → ℕ → Worth → Size → FlatValue → Type 0
  R_of lo hi m t v = Res N types τ W lo hi m t v

  abbrev Beyond : ℕ → ℕ → Free → Type 0
  Beyond lo hi d = Out_beyond N types τ W lo hi d

  abbrev Of : Worth → Size → FlatValue → Type 0
  Of m t v = Fits N τ W.sizing W.is_there (calls W) m no_frames t v

  -- what names and nodes may be worth under an environment
  abbrev Worths : ℕ → ℕ → Context → FlatEnv → Type 0
  Worths lo hi G env = (m : Worth) × Env_of lo hi m G env

  abbrev All_results : ℕ → ℕ → Context → FlatEnv → Size → FlatValue → Type 0
  All_results lo hi G env t v = (w : Worths lo hi G env) → R_of lo hi w.0 t v

  -- what is given is of its type, and reports of sizes are where they may be, where the environment fits
  abbrev All_given : ℕ → ℕ → Context → FlatEnv → Size → Rel FlatValue → Type 0
  All_given lo hi G env t m = Gives (Quiet N types τ W lo hi G env) (All_results lo hi G env t) m

  narrowed : (lo hi lo' hi' : ℕ) (G : Context) (env : FlatEnv) → lo ≤ lo' → hi' ≤ hi → Worths lo hi G env → Worths lo' hi' G env
  narrowed lo hi lo' hi' G env l l' w = (w.0, env_moves N types τ W lo hi lo' hi' w.0 w.0 G env l l' (λ d o. refl) w.1)

  -- from the nodes of a part to all
  wider : {A : Type 0} (lo hi lo' hi' : ℕ) (G : Context) (env : FlatEnv) (P : A → Type 0) (m : Rel A) → lo ≤ lo' → hi' ≤ hi → Gives (Quiet N types τ W lo' hi' G env) P m → Gives (Quiet N types τ W lo hi G env) P m
  wider lo hi lo' hi' G env P m l l' h = gives_quiet P P m (λ r q w. q (narrowed lo hi lo' hi' G env l l' w)) h (λ a x. x)

  -- under one worth
  at_worth : (lo hi : ℕ) (G : Context) (env : FlatEnv) (t : Size) (m : Rel FlatValue) (w : Worths lo hi G env) → All_given lo hi G env t m → Gives (There W.is_there) (R_of lo hi w.0 t) m
  at_worth lo hi G env t m w h = gives_quiet (All_results lo hi G env t) (R_of lo hi w.0 t) m (λ r q. q w) h (λ v k. k w)

  -- ---- parts in a row
  record Parts_now (lo hi : ℕ) (m : Worth) (ts : Sizes) (vs : List FlatValue) : Type 0 where
    now : Worth
    old : (d : Free) → Beyond lo hi d → now d ≡ m d
    fits : All_fit N τ W.sizing W.is_there (calls W) now no_frames ts (values vs)

  abbrev All_parts : ℕ → ℕ → Context → FlatEnv → Sizes → List FlatValue → Type 0
  All_parts lo hi G env ts vs = (w : Worths lo hi G env) → Parts_now lo hi w.0 ts vs

  parts_and : (lo mid hi : ℕ) (G : Context) (env : FlatEnv) (ts : Sizes) (v : FlatValue) (vs : List FlatValue) → lo ≤ mid → mid ≤ hi → Away N types W.sizing.size_at W.sizing.home mid hi (s lo) → All_results lo mid G env (s lo) v → All_parts mid hi G env ts vs → All_parts lo hi G env (size_and (s lo) ts) (v ∷ vs)
  unfolding All_fit
  parts_and lo mid hi G env ts v vs l l' a h k = λ w.
      let x = h (w.0, env_moves N types τ W lo hi lo mid w.0 w.0 G env (omega arith) l' (λ d o. refl) w.1) in
      let moved : (d : Free) → Beyond lo hi d → x.now d ≡ w.0 d = λ d o. x.old d (outside_narrower N types τ W lo hi lo mid (omega arith) l' d o) in
      let y = k (x.now, env_moves N types τ W lo hi mid hi w.0 x.now G env l (omega arith) moved w.1) in record {
        now = y.now;
        old = λ d o. y.old d (outside_narrower N types τ W lo hi mid hi l (omega arith) d o) ∙ moved d o;
        fits = (fits_away N types τ W mid hi x.now y.now (s lo) v a y.old x.fits, y.fits);
      }

  no_parts : (lo hi : ℕ) (G : Context) (env : FlatEnv) → All_parts lo hi G env no_size []
  unfolding All_fit
  no_parts lo hi G env = λ w. record { now = w.0; old = λ d o. refl; fits = tt }

  own_some : (o : Operation Ref BindId) → 1 ≤ own_numbers o
  own_some (Binary op) = omega arith
  own_some (Project f) = omega arith
  own_some o = omega arith

  abbrev Operated_at : Operation Ref BindId → Place → ℕ → FlatEnv → List FlatValue → Rel FlatValue
  Operated_at o mark lo env vs = operated false (row_told ((flat_names (told W)).lang W.tops) (Of_literal env lo)) (fits_type ((flat_names (told W)).lang W.tops) env lo) (W.integer_at lo) o mark vs

  -- an operation behind its parts
  strict_gives : (o : Operation Ref BindId) (mark : Place) → Operation_there W.is_there o mark → (ts : Terms Ref BindId) (lo : ℕ) (G : Context) (env : FlatEnv) (vs : List FlatValue) → Plain_operation N types W o lo ts
      → operation N types o lo (lo + own_numbers o) ts (part_sizes N types W.sizing.size_at W.sizing.home ts (lo + own_numbers o)) ≡ Ok (s lo) → Compared_found o G
      → All_sized N types W.sizing.size_at W.sizing.home ts (lo + own_numbers o) (lo + own_numbers o + all_numbers ts) G
      → All_parts (lo + own_numbers o) (lo + own_numbers o + all_numbers ts) G env (part_sizes N types W.sizing.size_at W.sizing.home ts (lo + own_numbers o)) vs × Part_values N types τ W S one env ts (lo + own_numbers o) vs
      → All_given lo (lo + own_numbers o + all_numbers ts) G env (s lo) (Operated_at o mark lo env vs)
  strict_gives o mark there ts lo G env vs p e compared sized k = gives_each_way (λ w v. R_of lo (lo + own_numbers o + all_numbers ts) w.0 (s lo) v) (Operated_at o mark lo env vs) (λ w.
      let at : ℕ = lo + own_numbers o in
      let hi : ℕ = lo + own_numbers o + all_numbers ts in
      let some = own_some o in
      let E = env_moves N types τ W lo hi at hi w.0 w.0 G env (omega arith) (omega arith) (λ d o. refl) w.1 in
      let x = k.0 (w.0, E) in
      gives_as (R_of lo (1 + lo) x.now (s lo)) (R_of lo hi w.0 (s lo)) (Operated_at o mark lo env vs) (operation_fits N types τ W S one o mark there ts lo env x.now vs p (part_words N types τ W S one at hi G env w.0 x.now E x.old ts at hi vs sized k.1) (G, compared, (λ b k f. let r = (w.1).finds (Name b) (lo, omega arith, omega (arith, some), k) f in let q = E.sizes_right (Name b) r.0 r.1 in (r.0, r.1, q.0 ∙ sym (x.old (Name b) q.1)))) x.fits e)
      (λ v r. record { now = r.now; old = λ d q. r.old d (outside_narrower N types τ W lo hi lo (1 + lo) (omega arith) (omega (arith, some)) d q) ∙ x.old d (outside_narrower N types τ W lo hi at hi (omega arith) (omega arith) d q); fits = r.fits }))

  -- ---- branches
  -- the value of a branch, whose nodes are those from at up to end
  branch_fits : (lo at end hi : ℕ) (G : Context) (env : FlatEnv) (v : FlatValue) → 1 + lo ≤ at → at ≤ end → end ≤ hi
      → ((m : Worth) → (F : ℕ → ℕ) × Alike m (at_node lo F m) (s at) (s lo)) → All_results at end G env (s at) v → All_results lo hi G env (s lo) v
  branch_fits lo at end hi G env v l l' l'' alike h = λ w.
      let x = h (w.0, env_moves N types τ W lo hi at end w.0 w.0 G env (omega (arith, l)) l'' (λ d o. refl) w.1) in
      let a = alike x.now in record {
        now = at_node lo a.0 x.now;
        old = λ d o. beyond_node N types τ W lo a.0 x.now d (outside_narrower N types τ W lo hi lo (1 + lo) (omega arith) (omega (arith, l, l', l'')) d o) ∙ x.old d (outside_narrower N types τ W lo hi at end (omega (arith, l)) l'' d o);
        fits = (alike_fits N τ x.now (at_node lo a.0 x.now) W.sizing W.is_there (calls W) a.1 v).0 x.fits;
      }

  first_alike : (lo at other : ℕ) (B : Branches N types W.sizing.size_at W.sizing.home lo at other) (m : Worth) → (F : ℕ → ℕ) × Alike m (at_node lo F m) (s at) (s lo)
  first_alike lo at other B m = (
    all_of m (s at),
    subst (λ t. Alike m (at_node lo (all_of m (s at)) m) (s at) t) (sym B.kept_sizes)
        (first_branch (Beyond lo (1 + lo)) lo m (s at) (s other) (λ d o. beyond_node N types τ W lo (all_of m (s at)) m d o) B.no_function.0 B.away.0),
  )

  second_alike : (lo at other : ℕ) (B : Branches N types W.sizing.size_at W.sizing.home lo at other) (m : Worth) → (F : ℕ → ℕ) × Alike m (at_node lo F m) (s other) (s lo)
  second_alike lo at other B m = (
    all_of m (s other),
    subst (λ t. Alike m (at_node lo (all_of m (s other)) m) (s other) t) (sym B.kept_sizes)
        (second_branch (Beyond lo (1 + lo)) lo m (s at) (s other) (λ d o. beyond_node N types τ W lo (all_of m (s other)) m d o)
        (same_form W.sizing.fields (s at) (s other) B.no_function.0 B.no_function.1 (S.formed at) (S.formed other) B.one_type) B.away.0),
  )

  if_gives : (c a b : FlatTerm) (lo at other hi : ℕ) (G : Context) (env : FlatEnv) → 1 + lo + numbers c ≡ at → at + numbers a ≡ other → other + numbers b ≡ hi → Branches N types W.sizing.size_at W.sizing.home lo at other
      → All_given (1 + lo) at G env (s (1 + lo)) (means W (Evaluate env (1 + lo) c)) → All_given at (at + numbers a) G env (s at) (means W (Evaluate env at a)) → All_given other (other + numbers b) G env (s other) (means W (Evaluate env other b))
      → All_given lo hi G env (s lo) (Then (means W (Evaluate env (1 + lo) c)) (λ v. Then (the (truth_of v)) (λ holds. choose holds (means W (Evaluate env at a)) (means W (Evaluate env other b)))))
  if_gives c a b lo at other hi G env z z' z'' B hc ha hb =
      gives_then (All_results (1 + lo) at G env (s (1 + lo))) (All_results lo hi G env (s lo)) _ _ (wider lo hi (1 + lo) at G env (All_results (1 + lo) at G env (s (1 + lo))) (means W (Evaluate env (1 + lo) c)) (omega arith) (omega (arith, z', z'')) hc)
      (λ v u. gives_then (λ h. Unit {0}) (All_results lo hi G env (s lo)) _ _
      (gives_exact (Quiet N types τ W lo hi G env) (λ h. Unit {0}) 0 (truth_of v) (out_quiet (There W.is_there) (Quiet N types τ W lo hi G env) (λ h. Unit {0}) (λ h. Unit {0}) (truth_of v) (λ r q w. q) (λ h k. k) (truth_of_fine W.is_there v)))
      (λ holds u. chosen holds))
    where
      chosen : (holds : Bool) → All_given lo hi G env (s lo) (choose holds (means W (Evaluate env at a)) (means W (Evaluate env other b)))
      chosen true = gives_as (All_results at (at + numbers a) G env (s at)) (All_results lo hi G env (s lo)) (means W (Evaluate env at a)) (wider lo hi at (at + numbers a) G env (All_results at (at + numbers a) G env (s at)) (means W (Evaluate env at a)) (omega (arith, z)) (omega (arith, z', z'')) ha)
          (λ v h. branch_fits lo at (at + numbers a) hi G env v (omega (arith, z)) (omega arith) (omega (arith, z', z'')) (first_alike lo at other B) h)
      chosen false = gives_as (All_results other (other + numbers b) G env (s other)) (All_results lo hi G env (s lo)) (means W (Evaluate env other b)) (wider lo hi other (other + numbers b) G env (All_results other (other + numbers b) G env (s other)) (means W (Evaluate env other b)) (omega (arith, z, z')) (omega (arith, z'')) hb)
          (λ v h. branch_fits lo other (other + numbers b) hi G env v (omega (arith, z, z')) (omega arith) (omega (arith, z'')) (second_alike lo at other B) h)

  -- ---- all forms
  abbrev Law : FlatTerm → Type 0
  Law t = (lo : ℕ) (G : Context) (env : FlatEnv) → Plain_term N types W t lo → Term_there W.is_there t → Sized N types W.sizing.size_at W.sizing.home t lo G → All_given lo (lo + numbers t) G env (s lo) (means W (Evaluate env lo t))

  abbrev All_law : Terms Ref BindId → Type 0
  All_law ts = (lo hi : ℕ) (G : Context) (env : FlatEnv) → lo + all_numbers ts ≡ hi → Plain_terms N types W ts lo → Terms_there W.is_there ts → All_sized N types W.sizing.size_at W.sizing.home ts lo hi G → Gives (Quiet N types τ W lo hi G env) (λ vs. All_parts lo hi G env (part_sizes N types W.sizing.size_at W.sizing.home ts lo) vs × Part_values N types τ W S one env ts lo vs) (each_of (λ t. means W (Evaluate env t.0 t.1)) (placed lo ts))

  body_law : (e : FlatTerm) (at hi : ℕ) → at + numbers e ≡ hi → Plain_term N types W e at → Term_there W.is_there e → Law e → Body_law N types τ W S one e at hi
  body_law e at hi z plain there law G env m sized E = subst (λ h. Env_of at h m G env → Gives (There W.is_there) (R_of at h m (s at)) (means W (Evaluate env at e))) z (λ E'. at_worth at (at + numbers e) G env (s at) (means W (Evaluate env at e)) (m, E') (law at G env plain there sized)) E

  -- ---- lets

  same_types : (d : Free) (what : ℕ → Free) → taken_by what [] d ≡ d
  same_types (Const c) what = refl
  same_types (Name b) what = refl
  same_types (Own n i) what = refl
  same_types (Unknown n i) what = refl
  same_types (Slot i) what = refl

  top_taken : (what : Free → Free) (p : FlatPattern) (q : ℕ) (t : Size) → Pattern_takes N types W.sizing.size_at W.sizing.home what p q t → renamed what (s q) ≡ t
  unfolding Pattern_takes
  top_taken what (Bound_pattern b) q t k = k
  top_taken what Wild_pattern q t k = k
  top_taken what (Tuple_pattern ps) q t k = k.0
  top_taken what (Record_pattern fs ps) q t k = k.0
  top_taken what (Typed_pattern p e) q t k = top_taken what p q t k

  nodes_of : (sizes : List BindId) (p : FlatPattern) (q at hi : ℕ) (t : Size) (what : ℕ → Free) → Sizes_apart N types W at hi sizes p q → Pattern_takes N types W.sizing.size_at W.sizing.home (taken_by what (bind_ids sizes)) p q t
      → (renamed (taken_by what []) (s q) ≡ t → Away N types W.sizing.size_at W.sizing.home at hi t) → Nodes_away N types W at hi p q
  nodes_of [] p q at hi t what apart k away = nodes_away N types τ W at hi (taken_by what []) (λ d. same_types d what) p q t k (away (top_taken (taken_by what []) p q t k))
  nodes_of (b ∷ bs) p q at hi t what apart k away = apart.1

  apart_of : (sizes : List BindId) (p : FlatPattern) (q at hi : ℕ) → Sizes_apart N types W at hi sizes p q → (c : ℕ) → is_among (bind_ids sizes) c ≡ true → is_among (names p) c ≡ false
  apart_of [] p q at hi h c e = absurd (let z : false ≡ true = e in cc)
  apart_of (b ∷ bs) p q at hi h c e = h.0 c e

  let_taken : (b : Binding Ref BindId) (lo mid at hi : ℕ) → Simple W.sizing b.pattern (1 + lo) → Sizes_apart N types W at hi b.sizes b.pattern (1 + lo) → Let_sized N types W.sizing.size_at W.sizing.home b lo mid at hi → Taken_value N types τ W S one b.pattern b.sizes lo mid at hi (s mid)
  let_taken b lo mid at hi simple apart L = record {
    simple = simple;
    what = L.what;
    taken = L.taken;
    sizes_met = L.sizes_met;
    sizes_apart = apart_of b.sizes b.pattern (1 + lo) at hi apart;
    bound_here = L.bound;
    value_away = L.value_away;
    nodes = nodes_of b.sizes b.pattern (1 + lo) at hi (s mid) L.what apart L.taken (λ e. subst (Away N types W.sizing.size_at W.sizing.home at hi) (sym (kept (taken_by L.what []) (λ d. same_types d L.what) (s (1 + lo))) ∙ e) L.body_away);
  }

  let_gives : (b : Binding Ref BindId) (v e : FlatTerm) (lo mid at hi : ℕ) (G : Context) (env : FlatEnv) → mid ≡ 1 + lo + pattern_numbers b.pattern → mid + numbers v ≡ at → at + numbers e ≡ hi → Simple W.sizing b.pattern (1 + lo) → Sizes_apart N types W at hi b.sizes b.pattern (1 + lo)
      → Plain_term N types W v mid → Plain_term N types W e at → Term_there W.is_there v → Term_there W.is_there e → Law v → Law e → Sized N types W.sizing.size_at W.sizing.home v mid G → Let_sized N types W.sizing.size_at W.sizing.home b lo mid at hi × Sized N types W.sizing.size_at W.sizing.home e at (with_pattern W.sizing.size_at b.pattern (1 + lo) (with_size_names (bind_ids b.sizes) G))
      → All_given lo hi G env (s lo) (Then (means W (Evaluate env mid v)) (λ w. Then (the (bound (1 + lo) b.pattern w env)) (λ inner. means W (Evaluate inner at e))))
  let_gives b v e lo mid at hi G env z z' z'' simple apart plain_v plain_e there_v there_e law_v law_e sized_v q =
      gives_then (All_results mid at G env (s mid)) (All_results lo hi G env (s lo)) _ _
      (wider lo hi mid at G env (All_results mid at G env (s mid)) (means W (Evaluate env mid v)) (omega (arith, z)) (omega (arith, z'')) (subst (λ n. All_given mid n G env (s mid) (means W (Evaluate env mid v))) z' (law_v mid G env plain_v there_v sized_v)))
      (λ w hw. gives_each_way (λ X u. R_of lo hi X.0 (s lo) u) (Then (the (bound (1 + lo) b.pattern w env)) (λ inner. means W (Evaluate inner at e))) (λ X. body w hw X))
    where
      body : (w : FlatValue) → All_results mid at G env (s mid) w → (X : Worths lo hi G env) → Gives (There W.is_there) (R_of lo hi X.0 (s lo)) (Then (the (bound (1 + lo) b.pattern w env)) (λ inner. means W (Evaluate inner at e)))
      body w hw X =
          let r = hw (X.0, env_moves N types τ W lo hi mid at X.0 X.0 G env (omega (arith, z)) (omega (arith, z'')) (λ d o. refl) X.1) in
          let T : Taken_value N types τ W S one b.pattern b.sizes lo mid at hi (s mid) = let_taken b lo mid at hi simple apart q.0 in
          let inside : Context = with_pattern W.sizing.size_at b.pattern (1 + lo) (with_size_names (bind_ids b.sizes) G) in
          let m' : Worth = named_by b.pattern w (taking T.what (bind_ids b.sizes) r.now) in
          let old : (d : Free) → Beyond lo hi d → r.now d ≡ X.0 d = λ d o. r.old d (outside_narrower N types τ W lo hi mid at (omega (arith, z)) (omega (arith, z'')) d o) in
          gives_then (λ inner. Env_of at hi m' inside inner) (R_of lo hi X.0 (s lo)) _ _
          (gives_exact _ (λ inner. Env_of at hi m' inside inner) 0 (bound (1 + lo) b.pattern w env) (taken_env N types τ W S one b.pattern b.sizes lo mid at hi (s mid) T z (omega (arith, z')) (omega (arith, z'')) w X.0 r.now G env X.1 old r.fits))
          (λ inner E'. gives_quiet (All_results at hi inside inner (s at)) (R_of lo hi X.0 (s lo)) (means W (Evaluate inner at e)) (λ r k. k (m', E'))
          (subst (λ n. All_given at n inside inner (s at) (means W (Evaluate inner at e))) z'' (law_e at inside inner plain_e there_e q.1))
          (λ u k. let_result N types τ W S one b.pattern b.sizes lo mid at hi (s mid) T z (omega (arith, z')) (omega (arith, z'')) w X.0 r.now (omega (arith, z, z', z'')) old (q.0).own_away (q.0).result u (k (m', E'))))

  not_general : (p : FlatPattern) (v : FlatTerm) → No_lambda v → General_form N types W.sizing.size_at W.sizing.home p v → ⊥
  not_general (Bound_pattern x) (Lambda ps e) n g = absurd n
  not_general p v n g = absurd g

  -- a let of a function's name
  general_gives : (p : FlatPattern) (v e : FlatTerm) (lo mid at hi : ℕ) (G : Context) (env : FlatEnv) → mid ≡ 1 + lo + pattern_numbers p → mid + numbers v ≡ at → at + numbers e ≡ hi → Single N types W p lo → Plain_term N types W v mid → Plain_term N types W e at → Term_there W.is_there v → Term_there W.is_there e → Law v → Law e → Sized N types W.sizing.size_at W.sizing.home v mid G
      → (A : Generalised N types W.sizing.size_at W.sizing.home p v lo mid at hi G) → Sized N types W.sizing.size_at W.sizing.home e at (with_general N types W.sizing.size_at W.sizing.home p (1 + lo) A.new G)
      → All_given lo hi G env (s lo) (Then (means W (Evaluate env mid v)) (λ w. Then (the (bound (1 + lo) p w env)) (λ inner. means W (Evaluate inner at e))))
  unfolding bound
  general_gives (Bound_pattern x) v e lo mid at hi G env z z' z'' single plain_v plain_e there_v there_e law_v law_e sized_v A sized_e =
      gives_then (All_results mid at G env (s mid)) (All_results lo hi G env (s lo)) _ _
      (wider lo hi mid at G env (All_results mid at G env (s mid)) (means W (Evaluate env mid v)) (omega (arith, z)) (omega (arith, z'')) (subst (λ n. All_given mid n G env (s mid) (means W (Evaluate env mid v))) z' (law_v mid G env plain_v there_v sized_v)))
      (λ w hw. gives_then (λ inner. inner ≡ bind x w (entered (1 + lo) w env)) (All_results lo hi G env (s lo)) _ _
      (gives_exact (Quiet N types τ W lo hi G env) (λ inner. inner ≡ bind x w (entered (1 + lo) w env)) 0 (Val (bind x w (entered (1 + lo) w env))) refl)
      (λ inner q. subst (λ y. All_given lo hi G env (s lo) (means W (Evaluate y at e))) (sym q)
      (gives_quiet (All_results at hi (with_general N types W.sizing.size_at W.sizing.home (Bound_pattern x) (1 + lo) A.new G) (bind x w (entered (1 + lo) w env)) (s at)) (All_results lo hi G env (s lo)) (means W (Evaluate (bind x w (entered (1 + lo) w env)) at e))
      (λ r k X. let y = inside w hw X in k (y.0, y.2))
      (subst (λ n. All_given at n (with_general N types W.sizing.size_at W.sizing.home (Bound_pattern x) (1 + lo) A.new G) (bind x w (entered (1 + lo) w env)) (s at) (means W (Evaluate (bind x w (entered (1 + lo) w env)) at e))) z'' (law_e at (with_general N types W.sizing.size_at W.sizing.home (Bound_pattern x) (1 + lo) A.new G) (bind x w (entered (1 + lo) w env)) plain_e there_e sized_e))
      (λ u k. λ X.
      let i = inside w hw X in
      let y = names_leave N types τ W S one lo at hi (names (Bound_pattern x)) i.0 u (omega (arith, z, z')) (omega (arith, z'')) A.own_away (k (i.0, i.2)) in record {
        now = y.0;
        old = λ d o. y.1 d (outside_narrower N types τ W lo hi lo (1 + lo) (omega arith) (omega (arith, z, z', z'')) d o) (outside_narrower N types τ W lo hi at hi (omega (arith, z, z')) (omega arith) d o) ∙ i.1 d o;
        fits = subst (λ t. Of y.0 t u) (sym A.result) y.2;
      }))))
    where
      -- what the name is worth inside
      inside : (w : FlatValue) → All_results mid at G env (s mid) w → (X : Worths lo hi G env)
          → (m' : Worth) × ((d : Free) → Beyond lo hi d → m' d ≡ X.0 d) × Env_of at hi m' (with_general N types W.sizing.size_at W.sizing.home (Bound_pattern x) (1 + lo) A.new G) (bind x w (entered (1 + lo) w env))
      inside w hw X =
          let r = hw (X.0, env_moves N types τ W lo hi mid at X.0 X.0 G env (omega (arith, z)) (omega (arith, z'')) (λ d o. refl) X.1) in
          let old : (d : Free) → Beyond lo hi d → r.now d ≡ X.0 d = λ d o. r.old d (outside_narrower N types τ W lo hi mid at (omega (arith, z)) (omega (arith, z'')) d o) in (
            r.now,
            old,
            general_env N types τ W S one x lo at hi w A.new G env r.now (env_moves N types τ W lo hi at hi X.0 r.now G env (omega (arith, z, z')) (omega arith) old X.1) (subst (λ y. Of r.now y w) (sym A.type) r.fits)
                (subst (Away N types W.sizing.size_at W.sizing.home at hi) (sym A.type) A.away) (each_hole_as (λ a. true ≡ false) (λ a. A.new a ≡ false) (λ a i. absurd (let y : true ≡ false = i in cc)) (s (1 + lo)) single.1) single.0
                (λ i. let y = (A.bound x.0 (ap (λ b. cond b true false) (eq-eqb x.0 x.0 refl))).1 in let f = i.0 in omega (arith, y, f, z, z')),
          )
  general_gives p v e lo mid at hi G env z z' z'' single plain_v plain_e there_v there_e law_v law_e sized_v A sized_e = absurd single

  let_by : (b : Binding Ref BindId) (v e : FlatTerm) (lo mid at hi : ℕ) (G : Context) (env : FlatEnv) → mid ≡ 1 + lo + pattern_numbers b.pattern → mid + numbers v ≡ at → at + numbers e ≡ hi → Simple W.sizing b.pattern (1 + lo) → Sizes_apart N types W at hi b.sizes b.pattern (1 + lo) → No_lambda v ⊎ Single N types W b.pattern lo
      → Plain_term N types W v mid → Plain_term N types W e at → Term_there W.is_there v → Term_there W.is_there e → Law v → Law e → Sized N types W.sizing.size_at W.sizing.home v mid G
      → (Let_sized N types W.sizing.size_at W.sizing.home b lo mid at hi × Sized N types W.sizing.size_at W.sizing.home e at (with_pattern W.sizing.size_at b.pattern (1 + lo) (with_size_names (bind_ids b.sizes) G)))
      ⊎ ((A : Generalised N types W.sizing.size_at W.sizing.home b.pattern v lo mid at hi G) × Sized N types W.sizing.size_at W.sizing.home e at (with_general N types W.sizing.size_at W.sizing.home b.pattern (1 + lo) A.new G))
      → All_given lo hi G env (s lo) (Then (means W (Evaluate env mid v)) (λ w. Then (the (bound (1 + lo) b.pattern w env)) (λ inner. means W (Evaluate inner at e))))
  let_by b v e lo mid at hi G env z z' z'' simple apart form plain_v plain_e there_v there_e law_v law_e sized_v (inl q) = let_gives b v e lo mid at hi G env z z' z'' simple apart plain_v plain_e there_v there_e law_v law_e sized_v q
  let_by b v e lo mid at hi G env z z' z'' simple apart (inl n) plain_v plain_e there_v there_e law_v law_e sized_v (inr q) = absurd (not_general b.pattern v n (q.0).form)
  let_by b v e lo mid at hi G env z z' z'' simple apart (inr single) plain_v plain_e there_v there_e law_v law_e sized_v (inr q) = general_gives b.pattern v e lo mid at hi G env z z' z'' single plain_v plain_e there_v there_e law_v law_e sized_v q.0 q.1

  -- ---- loops

  loop_known : (sizes : List BindId) (p : FlatPattern) (lo mid ts te at hi : ℕ) → mid ≡ 1 + lo + pattern_numbers p → mid ≤ ts → Simple W.sizing p (1 + lo) → Sizes_apart N types W ts hi sizes p (1 + lo) → Data (s at) → Loops N types W.sizing.size_at W.sizing.home sizes p lo mid ts at hi → Loop_known N types τ W S one p sizes lo mid ts te at hi
  loop_known sizes p lo mid ts te at hi z l simple apart data_at L = record {
    named = record {
      simple = simple;
      what = L.what;
      taken = L.taken;
      sizes_met = L.sizes_met;
      sizes_apart = apart_of sizes p (1 + lo) ts hi apart;
      bound_here = L.bound;
      value_away = subst (Away N types W.sizing.size_at W.sizing.home (1 + lo) mid) (sym L.carried) (each_lacking N types (Beyond (1 + lo) mid) lo L.dropped (λ i j. let x = j.0 in omega (arith, x)) 0 0 (s mid) (away_narrower N types τ W lo mid (1 + lo) mid (omega arith) (omega arith) (s mid) L.value_away));
      nodes = nodes_of sizes p (1 + lo) ts hi (s lo) L.what apart L.taken (λ e. subst (Away N types W.sizing.size_at W.sizing.home ts hi) (sym L.carried) (each_lacking N types (Beyond ts hi) lo L.dropped (λ i j. let x = j.0 in omega (arith, x, z, l)) 0 0 (s mid) L.turns_away));
    };
    dropped = L.dropped;
    carried = L.carried;
    no_function = L.no_function;
    form = same_form W.sizing.fields (s mid) (s at) L.no_function data_at (S.formed mid) (S.formed at) L.one_type;
    kept = L.kept;
    value_away = L.value_away;
    turns_away = L.turns_away;
  }

  -- what a condition asks is quiet, or all is
  abbrev Asks_quietly : FlatTerm → List BindId → FlatPattern → ℕ → ℕ → ℕ → Context → Type 0
  Asks_quietly c sizes p lo ts at G = ((place : Place) → W.is_there place ≡ true)
      ⊎ ((e : FlatEnv) → All_given ts at (with_pattern W.sizing.size_at p (1 + lo) (with_size_names (bind_ids sizes) G)) e (s ts) (means W (Evaluate e ts c)))

  out_anything : ((place : Place) → W.is_there place ≡ true) → {A : Type 0} (o : Out A) → Out_fits (There W.is_there) (λ a. Unit {0}) o
  out_anything any (Val a) = tt
  out_anything any (Fail r) = λ e. any r.place
  out_anything any Wrong = tt

  gives_anything : ((place : Place) → W.is_there place ≡ true) → {A : Type 0} (m : Rel A) → Gives (There W.is_there) (λ a. Unit {0}) m
  gives_anything any m o f x = out_anything any o

  while_gives : (c body : FlatTerm) (r : Report) → There W.is_there r → (sizes : List BindId) (p : FlatPattern) (lo mid ts at hi : ℕ) (G : Context) (env : FlatEnv) (w : FlatValue) → mid ≡ 1 + lo + pattern_numbers p → mid ≤ ts → ts ≤ at → at + numbers body ≡ hi → Loop_known N types τ W S one p sizes lo mid ts ts at hi
      → Asks_quietly c sizes p lo ts at G → Plain_term N types W body at → Term_there W.is_there body → Law body → Sized N types W.sizing.size_at W.sizing.home body at (with_pattern W.sizing.size_at p (1 + lo) (with_size_names (bind_ids sizes) G)) → All_results mid ts G env (s mid) w
      → All_given lo hi G env (s lo) (while_turns W.budget r (λ w. Then (Then (the (bound (1 + lo) p w env)) (λ e. means W (Evaluate e ts c))) (λ b. the (truth_of b))) (λ w. Then (the (bound (1 + lo) p w env)) (λ e. means W (Evaluate e at body))) w)
  while_gives c body r told sizes p lo mid ts at hi G env w z l1 l2 z' L asks plain there_b law_b sized hw = gives_each_way (λ X u. R_of lo hi X.0 (s lo) u) _ (λ X.
      let x = hw (X.0, env_moves N types τ W lo hi mid ts X.0 X.0 G env (omega (arith, z)) (omega (arith, l2, z')) (λ d o. refl) X.1) in
      let old : (d : Free) → Beyond lo hi d → x.now d ≡ X.0 d = λ d o. x.old d (outside_narrower N types τ W lo hi mid ts (omega (arith, z)) (omega (arith, l2, z')) d o) in
      gives_as (Turn_now N types τ W S one p sizes lo mid ts ts at hi L z l1 (omega arith) l2 (omega (arith, z')) x.now) (R_of lo hi X.0 (s lo)) _
      (gives_while (Turn_now N types τ W S one p sizes lo mid ts ts at hi L z l1 (omega arith) l2 (omega (arith, z')) x.now) r told _ _
      (λ v k. asked asks X x.now old v k)
      (λ v k. while_turn N types τ W S one p sizes lo mid ts ts at hi L z l1 (omega arith) l2 (omega (arith, z')) X.0 x.now G env X.1 old body
      (λ e. subst (λ n. All_given at n (with_pattern W.sizing.size_at p (1 + lo) (with_size_names (bind_ids sizes) G)) e (s at) (means W (Evaluate e at body))) z' (law_b at (with_pattern W.sizing.size_at p (1 + lo) (with_size_names (bind_ids sizes) G)) e plain there_b sized)) v k)
      W.budget w (starts N types τ W S one p sizes lo mid ts ts at hi L z l1 (omega arith) l2 (omega (arith, z')) x.now w x.fits))
      (λ v k. ends N types τ W S one p sizes lo mid ts ts at hi L z l1 (omega arith) l2 (omega (arith, z')) X.0 x.now v old k))
    where
      asked : Asks_quietly c sizes p lo ts at G → (X : Worths lo hi G env) (start : Worth) → ((d : Free) → Beyond lo hi d → start d ≡ X.0 d) → (v : FlatValue) → Turn_now N types τ W S one p sizes lo mid ts ts at hi L z l1 (omega arith) l2 (omega (arith, z')) start v
          → Gives (There W.is_there) (λ b. Unit {0}) (Then (Then (the (bound (1 + lo) p v env)) (λ e. means W (Evaluate e ts c))) (λ b. the (truth_of b)))
      asked (inl any) X start old v k = gives_anything any (Then (Then (the (bound (1 + lo) p v env)) (λ e. means W (Evaluate e ts c))) (λ b. the (truth_of b)))
      asked (inr ask) X start old v k = while_asks N types τ W S one p sizes lo mid ts ts at hi L z l1 (omega arith) l2 (omega (arith, z')) X.0 start G env X.1 old body c at (omega (arith, z')) ask v k

  -- the first value under what is worth once the turns are known
  still_fits : (ts hi : ℕ) (m m' : Worth) (mid : ℕ) (w : FlatValue) → Away N types W.sizing.size_at W.sizing.home ts hi (s mid) → ((d : Free) → Beyond ts hi d → m' d ≡ m d) → Of m (s mid) w → Of m' (s mid) w
  still_fits ts hi m m' mid w away old h = fits_away N types τ W ts hi m m' (s mid) w away old h

  counted_gives : (i : BindId) (n body : FlatTerm) (sizes : List BindId) (p : FlatPattern) (lo mid ts at hi : ℕ) (G : Context) (env : FlatEnv) (w : FlatValue) → mid ≡ 1 + lo + pattern_numbers p → mid ≤ ts → 1 + ts + numbers n ≡ at → at + numbers body ≡ hi → Loop_known N types τ W S one p sizes lo mid ts (1 + ts) at hi
      → W.sizing.home i.0 ≡ ts → Simple W.sizing (Bound_pattern i) ts → (t : IntType) → types (1 + ts) ≡ scalar_ty (sort.Int t) → s ts ≡ s (1 + ts) → All_given (1 + ts) at G env (s (1 + ts)) (means W (Evaluate env (1 + ts) n))
      → Plain_term N types W body at → Term_there W.is_there body → Law body → Sized N types W.sizing.size_at W.sizing.home body at (with_name i.0 (s ts) (with_pattern W.sizing.size_at p (1 + lo) (with_size_names (bind_ids sizes) G))) → All_results mid ts G env (s mid) w
      → All_given lo hi G env (s lo) (Then (means W (Evaluate env (1 + ts) n)) (λ k. Then (the (turns_of k)) (λ c. turns (λ j w. Then (the (bound (1 + lo) p w env)) (λ e. means W (Evaluate (bind i (Scalar_value (scalar.Int c.0 j)) (entered ts (Scalar_value (scalar.Int c.0 j)) e)) at body))) (counts c.1 0) w)))
  counted_gives i n body sizes p lo mid ts at hi G env w z l1 z1 z' L at_home simple t typed same hn plain there_b law_b sized hw =
      gives_then (All_results (1 + ts) at G env (s (1 + ts))) (All_results lo hi G env (s lo)) _ _ (wider lo hi (1 + ts) at G env (All_results (1 + ts) at G env (s (1 + ts))) (means W (Evaluate env (1 + ts) n)) (omega (arith, z, l1)) (omega (arith, z')) hn)
      (λ k hk. gives_each_way (λ X u. R_of lo hi X.0 (s lo) u) _ (λ X.
      let x = hw (X.0, env_moves N types τ W lo hi mid ts X.0 X.0 G env (omega (arith, z)) (omega (arith, z1, z')) (λ d o. refl) X.1) in
      let old1 : (d : Free) → Beyond lo hi d → x.now d ≡ X.0 d = λ d o. x.old d (outside_narrower N types τ W lo hi mid ts (omega (arith, z)) (omega (arith, z1, z')) d o) in
      let y = hk (x.now, env_moves N types τ W lo hi (1 + ts) at X.0 x.now G env (omega (arith, z, l1)) (omega (arith, z')) old1 X.1) in
      let old : (d : Free) → Beyond lo hi d → y.now d ≡ X.0 d = λ d o. y.old d (outside_narrower N types τ W lo hi (1 + ts) at (omega (arith, z, l1)) (omega (arith, z')) d o) ∙ old1 d o in
      let sc = scalar_is N types τ W S one y.now (s (1 + ts)) (sort.Int t) k (S.formed (1 + ts)) (S.typed (1 + ts) ∙ typed) y.fits in
      gives_then (λ c. c.0 ≡ t) (R_of lo hi X.0 (s lo)) _ _
      (gives_exact _ (λ c. c.0 ≡ t) 0 (turns_of k) (counted_type N types τ W S one y.now t k (subst (λ u. Of y.now u k) sc y.fits)))
      (λ c e. gives_as (Turn_now N types τ W S one p sizes lo mid ts (1 + ts) at hi L z l1 (omega arith) (omega (arith, z1)) (omega (arith, z')) y.now) (R_of lo hi X.0 (s lo)) _
      (gives_turns (Turn_now N types τ W S one p sizes lo mid ts (1 + ts) at hi L z l1 (omega arith) (omega (arith, z1)) (omega (arith, z')) y.now) (λ j. Unit {0}) _
      (λ j v u k. subst (λ t'. Gives (There W.is_there) (Turn_now N types τ W S one p sizes lo mid ts (1 + ts) at hi L z l1 (omega arith) (omega (arith, z1)) (omega (arith, z')) y.now) (Then (the (bound (1 + lo) p v env)) (λ e. means W (Evaluate (bind i (Scalar_value (scalar.Int t' j)) (entered ts (Scalar_value (scalar.Int t' j)) e)) at body)))) (sym e)
      (counted_turn N types τ W S one p sizes lo mid ts (1 + ts) at hi L z l1 (omega arith) (omega (arith, z1)) (omega (arith, z')) X.0 y.now G env X.1 old body i t (same ∙ sc) at_home (omega arith) simple
      (λ e. subst (λ n. All_given at n (with_name i.0 (s ts) (with_pattern W.sizing.size_at p (1 + lo) (with_size_names (bind_ids sizes) G))) e (s at) (means W (Evaluate e at body))) z' (law_b at (with_name i.0 (s ts) (with_pattern W.sizing.size_at p (1 + lo) (with_size_names (bind_ids sizes) G))) e plain there_b sized)) j v k))
      (counts c.1 0) w (any_counts c.1 0)
      (starts N types τ W S one p sizes lo mid ts (1 + ts) at hi L z l1 (omega arith) (omega (arith, z1)) (omega (arith, z')) y.now w
      (still_fits ts hi x.now y.now mid w L.turns_away (λ d o. y.old d (outside_narrower N types τ W ts hi (1 + ts) at (omega arith) (omega (arith, z')) d o)) x.fits)))
      (λ v k. ends N types τ W S one p sizes lo mid ts (1 + ts) at hi L z l1 (omega arith) (omega (arith, z1)) (omega (arith, z')) X.0 y.now v old k))))

  rows_gives : (q : FlatPattern) (a body : FlatTerm) (sizes : List BindId) (p : FlatPattern) (lo mid ts te at hi : ℕ) (G : Context) (env : FlatEnv) (w : FlatValue) → mid ≡ 1 + lo + pattern_numbers p → mid ≤ ts → ts + pattern_numbers q ≡ te → te + numbers a ≡ at → at + numbers body ≡ hi → Loop_known N types τ W S one p sizes lo mid ts te at hi
      → Name_home W.sizing q ts → Simple W.sizing q ts → (d : Dim) (t : Size) → s te ≡ Level d t → Away N types W.sizing.size_at W.sizing.home lo te (s te) → Away N types W.sizing.size_at W.sizing.home at hi (s te)
      → Pattern_takes N types W.sizing.size_at W.sizing.home (λ d. d) q ts (row_of N types (s te)) → All_given te at G env (s te) (means W (Evaluate env te a))
      → Plain_term N types W body at → Term_there W.is_there body → Law body → Sized N types W.sizing.size_at W.sizing.home body at (with_pattern W.sizing.size_at q ts (with_pattern W.sizing.size_at p (1 + lo) (with_size_names (bind_ids sizes) G))) → All_results mid ts G env (s mid) w
      → All_given lo hi G env (s lo) (Then (means W (Evaluate env te a)) (λ k. Then (the (and_then (datum_of k) rows_of)) (λ r. turns (λ d w. Then (the (bound (1 + lo) p w env)) (λ e. Then (the (bound ts q (as_value d) e)) (λ e. means W (Evaluate e at body)))) r.1 w)))
  rows_gives q a body sizes p lo mid ts te at hi G env w z l1 z0 z1 z' L at_home simple d t level away away' takes ha plain there_b law_b sized hw =
      gives_then (All_results te at G env (s te)) (All_results lo hi G env (s lo)) _ _ (wider lo hi te at G env (All_results te at G env (s te)) (means W (Evaluate env te a)) (omega (arith, z, l1, z0)) (omega (arith, z')) ha)
      (λ k hk. gives_each_way (λ X u. R_of lo hi X.0 (s lo) u) _ (λ X.
      let x = hw (X.0, env_moves N types τ W lo hi mid ts X.0 X.0 G env (omega (arith, z)) (omega (arith, z0, z1, z')) (λ d o. refl) X.1) in
      let old1 : (d : Free) → Beyond lo hi d → x.now d ≡ X.0 d = λ d o. x.old d (outside_narrower N types τ W lo hi mid ts (omega (arith, z)) (omega (arith, z0, z1, z')) d o) in
      let y = hk (x.now, env_moves N types τ W lo hi te at X.0 x.now G env (omega (arith, z, l1, z0)) (omega (arith, z')) old1 X.1) in
      let old : (d : Free) → Beyond lo hi d → y.now d ≡ X.0 d = λ d o. y.old d (outside_narrower N types τ W lo hi te at (omega (arith, z, l1, z0)) (omega (arith, z')) d o) ∙ old1 d o in
      let rows = rows_out N types τ W S one y.now d t k (subst (λ u. Of y.now u k) level y.fits) in
      let row_away : Each (Scoped (λ e. Beyond lo te e × Beyond at hi e)) 0 t = row_apart N types τ W S one lo te at hi d t (subst (Away N types W.sizing.size_at W.sizing.home lo te) level away) (subst (Away N types W.sizing.size_at W.sizing.home at hi) level away') in
      let row_takes : Pattern_takes N types W.sizing.size_at W.sizing.home (λ d. d) q ts t = subst (λ u. Pattern_takes N types W.sizing.size_at W.sizing.home (λ d. d) q ts (row_of N types u)) level takes in
      gives_then (λ r. Data t × Every (Has_datum N τ y.now no_frames t) r.1) (R_of lo hi X.0 (s lo)) _ _
      (gives_exact _ (λ r. Data t × Every (Has_datum N τ y.now no_frames t) r.1) 0 (and_then (datum_of k) rows_of) (rows (row_formed N types τ W S one d t te level)))
      (λ r hr. gives_as (Turn_now N types τ W S one p sizes lo mid ts te at hi L z l1 (omega (arith, z0)) (omega (arith, z1)) (omega (arith, z')) y.now) (R_of lo hi X.0 (s lo)) _
      (gives_turns (Turn_now N types τ W S one p sizes lo mid ts te at hi L z l1 (omega (arith, z0)) (omega (arith, z1)) (omega (arith, z')) y.now) (Has_datum N τ y.now no_frames t) _
      (λ e v he kv. row_turn N types τ W S one p sizes lo mid ts te at hi L z l1 (omega (arith, z0)) (omega (arith, z1)) (omega (arith, z')) X.0 y.now G env X.1 old body q t hr.0 row_away at_home simple z0 row_takes
      (λ e. subst (λ n. All_given at n (with_pattern W.sizing.size_at q ts (with_pattern W.sizing.size_at p (1 + lo) (with_size_names (bind_ids sizes) G))) e (s at) (means W (Evaluate e at body))) z' (law_b at (with_pattern W.sizing.size_at q ts (with_pattern W.sizing.size_at p (1 + lo) (with_size_names (bind_ids sizes) G))) e plain there_b sized)) e v he kv)
      r.1 w hr.1
      (starts N types τ W S one p sizes lo mid ts te at hi L z l1 (omega (arith, z0)) (omega (arith, z1)) (omega (arith, z')) y.now w
      (still_fits ts hi x.now y.now mid w L.turns_away (λ d o. y.old d (outside_narrower N types τ W ts hi te at (omega (arith, z0)) (omega (arith, z')) d o)) x.fits)))
      (λ v k. ends N types τ W S one p sizes lo mid ts te at hi L z l1 (omega (arith, z0)) (omega (arith, z1)) (omega (arith, z')) X.0 y.now v old k))))

  -- a size's name is an i64
  size_fits : (b : BindId) (lo hi : ℕ) (G : Context) (env : FlatEnv) → s lo ≡ i64_size → All_results lo hi G env (s lo) (size_value W.sizing env b.0)
  unfolding Fits size_value
  size_fits b lo hi G env e = λ w. record { now = w.0; old = λ d o. refl; fits = subst (λ u. Of w.0 u (size_value W.sizing env b.0)) (sym e) refl }

  -- a use of a general name of one type
  general_fits : (m : Worth) (is_general : Variable → Bool) (t u : Size) (v : FlatValue) → One_type is_general t → Filled_use is_general t u → Of m t v → Of m u v
  general_fits m is_general t u v one_type U h = by_use (subst (λ x. Suits x u ⊎ ((C : For_each_choice x u) × Never_at C.n t)) (nothing_filled U.types t (each_hole_as (λ a. is_general a ≡ false) (λ a. U.types a ≡ Hole a) (λ a e. U.others a e) t one_type)) U.used)
    where
      by_use : Suits t u ⊎ ((C : For_each_choice t u) × Never_at C.n t) → Of m u v
      by_use (inl q) = suits_fits N τ W.sizing W.is_there (calls W) q m v h
      by_use (inr (C, away)) = subst (λ x. Of m x v) (sym C.wanted)
          (instance_fits N τ W.sizing W.is_there (calls W) C.chosen C.from C.to C.wanted_chosen C.wanted_from C.wanted_to C.n C.m C.δ C.ρ C.at_choice C.parameter C.result
          (λ m v x. suits_fits N τ W.sizing W.is_there (calls W) C.parameter m v x) (λ m v x. suits_fits N τ W.sizing W.is_there (calls W) C.result m v x) m v
          (λ F. subst (λ x. Of (at_node C.n F m) x v) C.is_function
          (fits_same (Free_of C.n) m (at_node C.n F m) N τ W.sizing W.is_there (calls W) (λ d o. sym (node_else C.n F m d o)) t 0 no_frames no_frames away (λ j i l. refl) v h)))

  use_fits : (b : BindId) (lo hi : ℕ) (G : Context) (env : FlatEnv) → ((t : Size) × (G.sizes b.0 ≡ Some t) × Suits t (s lo)) ⊎ ((t : Size) × (G.schemes b.0 ≡ Some t) × Filled_use (G.general b.0) t (s lo)) → (v : FlatValue) → flat_look W.tops env b.0 ≡ Val v → All_results lo hi G env (s lo) v
  use_fits b lo hi G env (inl q) v l = λ w. record { now = w.0; old = λ d o. refl; fits = suits_fits N τ W.sizing W.is_there (calls W) q.2 w.0 v ((w.1).values b.0 q.0 q.1 v l).0 }
  use_fits b lo hi G env (inr q) v l = λ w. record { now = w.0; old = λ d o. refl; fits = general_fits w.0 (G.general b.0) q.0 (s lo) v ((w.1).general b.0 q.0 q.1).0 q.2 (((w.1).general b.0 q.0 q.1).2 v l) }

  named_or_size : (b : BindId) (lo hi : ℕ) (G : Context) (env : FlatEnv) → (W.sizing.is_size b.0 ≡ true → s lo ≡ i64_size) → ((t : Size) × (G.sizes b.0 ≡ Some t) × Suits t (s lo)) ⊎ ((t : Size) × (G.schemes b.0 ≡ Some t) × Filled_use (G.general b.0) t (s lo))
      → Out_fits (Quiet N types τ W lo hi G env) (All_results lo hi G env (s lo)) (cond (W.sizing.is_size b.0) (Val (size_value W.sizing env b.0)) (flat_look W.tops env b.0))
  named_or_size b lo hi G env p h = by_test (W.sizing.is_size b.0) refl
    where
      by_test : (c : Bool) → W.sizing.is_size b.0 ≡ c → Out_fits (Quiet N types τ W lo hi G env) (All_results lo hi G env (s lo)) (cond c (Val (size_value W.sizing env b.0)) (flat_look W.tops env b.0))
      by_test true e = size_fits b lo hi G env (p e)
      by_test false e = out_of _ (All_results lo hi G env (s lo)) (flat_look W.tops env b.0) (out_quiet (There W.is_there) (Quiet N types τ W lo hi G env) (λ a. Unit {0}) (λ a. Unit {0}) (flat_look W.tops env b.0) (λ r q w. q) (λ a k. k) (look_fine W.is_there W.tops env b.0)) (λ v l. use_fits b lo hi G env h v l)

  asks_by : {A B C : Type 0} → (B → C) → A ⊎ B → A ⊎ C
  asks_by go (inl a) = inl a
  asks_by go (inr b) = inr (go b)

  abbrev Turns_law : FlatTurns → Type 0
  Turns_law turns = (mark : Place) → Turns_there W.is_there turns → (sizes : List BindId) (p : FlatPattern) (body : FlatTerm) (lo mid ts at hi : ℕ) (G : Context) (env : FlatEnv) (w : FlatValue) → mid ≡ 1 + lo + pattern_numbers p → mid ≤ ts → ts + turn_numbers turns ≡ at → at + numbers body ≡ hi → ((te : ℕ) → Loop_known N types τ W S one p sizes lo mid ts te at hi)
      → Plain_turns N types W turns lo ts at hi → Turns_sized N types W.sizing.size_at W.sizing.home turns ts G (with_pattern W.sizing.size_at p (1 + lo) (with_size_names (bind_ids sizes) G))
      → Plain_term N types W body at → Term_there W.is_there body → Law body → Sized N types W.sizing.size_at W.sizing.home body at (counter N types W.sizing.size_at W.sizing.home turns ts (with_pattern W.sizing.size_at p (1 + lo) (with_size_names (bind_ids sizes) G))) → All_results mid ts G env (s mid) w
      → All_given lo hi G env (s lo) (looped W.budget (means W) env (1 + lo) p mark turns body ts at w)

  mutual
    unfolding flat_names plain Term_there Terms_there Turns_there

    pub law : (t : FlatTerm) → Law t
    law (Use (ref.Bound b) at k) = λ lo G env p there h. evaluates N types τ W S one (All_results lo (lo + (1 + (k + k))) G env (s lo)) (Evaluate env lo (Use (ref.Bound b) at k))
        (gives_exact _ (All_results lo (lo + (1 + (k + k))) G env (s lo)) 0 (cond (W.sizing.is_size b.0) (Val (size_value W.sizing env b.0)) (flat_look W.tops env b.0)) (named_or_size b lo (lo + (1 + (k + k))) G env p h))
    law (Use (ref.Prim p) at k) = λ lo G env pl there h. evaluates N types τ W S one (All_results lo (lo + (1 + (k + k))) G env (s lo)) (Evaluate env lo (Use (ref.Prim p) at k))
        (gives_exact _ (All_results lo (lo + (1 + (k + k))) G env (s lo)) 0 (Val (primitive_use p at)) (λ w. record { now = w.0; old = λ d o. refl; fits = primitive_fits N types τ W S one p at there (s lo) pl h w.0 }))
    law (Strict o mark ts) = λ lo G env p there h.
        let at : ℕ = lo + own_numbers o in
        evaluates N types τ W S one (All_results lo (lo + (own_numbers o + all_numbers ts)) G env (s lo)) (Evaluate env lo (Strict o mark ts))
        (gives_then (λ vs. All_parts at (at + all_numbers ts) G env (part_sizes N types W.sizing.size_at W.sizing.home ts at) vs × Part_values N types τ W S one env ts at vs) (All_results lo (lo + (own_numbers o + all_numbers ts)) G env (s lo)) _ _
        (wider lo (lo + (own_numbers o + all_numbers ts)) at (at + all_numbers ts) G env (λ vs. All_parts at (at + all_numbers ts) G env (part_sizes N types W.sizing.size_at W.sizing.home ts at) vs × Part_values N types τ W S one env ts at vs) (each_of (λ t. means W (Evaluate env t.0 t.1)) (placed at ts)) (omega arith) (omega arith) (all_law ts at (at + all_numbers ts) G env refl p.1 there.1 h.0))
        (λ vs k. subst (λ hi. All_given lo hi G env (s lo) (Operated_at o mark lo env vs)) (let z : lo + own_numbers o + all_numbers ts ≡ lo + (own_numbers o + all_numbers ts) = omega arith in z)
        (strict_gives o mark there.0 ts lo G env vs p.0 h.1 h.2 h.0 k)))
    law (Lambda (pattern_and p ps) e) = λ lo G env plain there h.
        let at : ℕ = 1 + lo + (pattern_numbers p + all_pattern_numbers ps) in
        evaluates N types τ W S one (All_results lo (lo + numbers (Lambda (pattern_and p ps) e)) G env (s lo)) (Evaluate env lo (Lambda (pattern_and p ps) e))
        (gives_exact _ (All_results lo (lo + numbers (Lambda (pattern_and p ps) e)) G env (s lo)) 0 (Val (Closure (pattern_and p ps) e at env))
        (λ w. record {
          now = w.0;
          old = λ d o. refl;
          fits = closure_fits N types τ W S one ps p e (all_part_names (pattern_and p ps)) lo (1 + lo) at (at + numbers e) (s lo) G env w.0 plain.0 (λ c e. e) plain.1 (omega arith) refl (let some = numbers_some e in omega (arith, some)) (body_law e at (at + numbers e) refl plain.2 there (law e)) h
              (env_moves N types τ W lo (lo + numbers (Lambda (pattern_and p ps) e)) (1 + lo) (at + numbers e) w.0 w.0 G env (omega arith) (omega arith) (λ d o. refl) w.1);
        }))
    law (Apply f e) = λ lo G env plain there h.
        let mid : ℕ = 1 + lo + numbers f in
        let hi : ℕ = 1 + lo + numbers f + numbers e in
        let A = h.2 in
        evaluates N types τ W S one (All_results lo (lo + numbers (Apply f e)) G env (s lo)) (Evaluate env lo (Apply f e))
        (gives_then (All_results (1 + lo) mid G env (s (1 + lo))) (All_results lo (lo + numbers (Apply f e)) G env (s lo)) _ _
        (wider lo (lo + numbers (Apply f e)) (1 + lo) mid G env (All_results (1 + lo) mid G env (s (1 + lo))) (means W (Evaluate env (1 + lo) f)) (omega arith) (omega arith) (law f (1 + lo) G env plain.0 there.0 h.0))
        (λ g hg. gives_then (λ v. All_results mid hi G env (s mid) v × Worth_of N types τ W S one lo (A.base + A.chosen) G env (A.inside A.chosen) v) (All_results lo (lo + numbers (Apply f e)) G env (s lo)) _ _
        (gives_more (All_results mid hi G env (s mid)) (Worth_of N types τ W S one lo (A.base + A.chosen) G env (A.inside A.chosen)) (means W (Evaluate env mid e))
        (wider lo (lo + numbers (Apply f e)) mid hi G env (All_results mid hi G env (s mid)) (means W (Evaluate env mid e)) (omega arith) (omega arith) (law e mid G env plain.1 there.1 h.1))
        (λ v c r. argument_worth N types τ W S one e lo mid (A.base + A.chosen) G env (A.inside A.chosen) plain.1 plain.2 A.value v c r))
        (λ v hv. subst (λ z. All_given lo z G env (s lo) (calls W g v)) (let z : hi ≡ lo + numbers (Apply f e) = omega arith in z)
        (gives_each_way (λ x u. R_of lo hi x.0 (s lo) u) (calls W g v)
        (λ x. called N types τ W S one e lo mid hi G env A (omega arith) (omega arith) g v hv.1 x.0 x.1 (together N types τ W S one e lo mid hi G env A (omega arith) (omega arith) g v hv.1 x.0 x.1 hg hv.0 A.order))))))
    law (Let b v e) = λ lo G env plain there h.
        let mid : ℕ = 1 + lo + pattern_numbers b.pattern in
        let at : ℕ = 1 + lo + pattern_numbers b.pattern + numbers v in
        let hi : ℕ = 1 + lo + pattern_numbers b.pattern + numbers v + numbers e in
        evaluates N types τ W S one (All_results lo (lo + numbers (Let b v e)) G env (s lo)) (Evaluate env lo (Let b v e))
        (subst (λ z. All_given lo z G env (s lo) (Then (means W (Evaluate env mid v)) (λ w. Then (the (bound (1 + lo) b.pattern w env)) (λ inner. means W (Evaluate inner at e))))) (let z : hi ≡ lo + numbers (Let b v e) = omega arith in z)
        (let_by b v e lo mid at hi G env refl refl refl plain.0 plain.1 plain.2 plain.3 plain.4 there.0 there.1 (law v) (law e) h.0 h.1))
    law (If c a b) = λ lo G env plain there h.
        let at : ℕ = 1 + lo + numbers c in
        let other : ℕ = 1 + lo + numbers c + numbers a in
        evaluates N types τ W S one (All_results lo (lo + numbers (If c a b)) G env (s lo)) (Evaluate env lo (If c a b))
        (subst (λ z. All_given lo z G env (s lo) (Then (means W (Evaluate env (1 + lo) c)) (λ v. Then (the (truth_of v)) (λ holds. choose holds (means W (Evaluate env at a)) (means W (Evaluate env other b)))))) (let z : 1 + lo + numbers c + numbers a + numbers b ≡ lo + numbers (If c a b) = omega arith in z)
        (if_gives c a b lo at other (1 + lo + numbers c + numbers a + numbers b) G env refl refl refl h.3 (law c (1 + lo) G env plain.0 there.0 h.0) (law a at G env plain.1 there.1 h.1) (law b other G env plain.2 there.2 h.2)))
    law (Loop mark sizes p first turns body) = λ lo G env plain there h.
        let mid : ℕ = 1 + lo + pattern_numbers p in
        let ts : ℕ = 1 + lo + pattern_numbers p + numbers first in
        let at : ℕ = 1 + lo + pattern_numbers p + numbers first + turn_numbers turns in
        let hi : ℕ = 1 + lo + pattern_numbers p + numbers first + turn_numbers turns + numbers body in
        evaluates N types τ W S one (All_results lo (lo + numbers (Loop mark sizes p first turns body)) G env (s lo)) (Evaluate env lo (Loop mark sizes p first turns body))
        (subst (λ z. All_given lo z G env (s lo) (Then (means W (Evaluate env mid first)) (λ w. looped W.budget (means W) env (1 + lo) p mark turns body ts at w))) (let z : hi ≡ lo + numbers (Loop mark sizes p first turns body) = omega arith in z)
        (gives_then (All_results mid ts G env (s mid)) (All_results lo hi G env (s lo)) _ _ (wider lo hi mid ts G env (All_results mid ts G env (s mid)) (means W (Evaluate env mid first)) (omega arith) (omega arith) (law first mid G env plain.4 there.0 h.0))
        (λ w hw. turns_law turns mark there.1 sizes p body lo mid ts at hi G env w refl (omega arith) refl refl (λ te. loop_known sizes p lo mid ts te at hi refl (omega arith) plain.0 plain.1 plain.2 h.3) plain.3 h.1 plain.5 there.2 (law body) h.2 hw)))
    law t = λ lo G env plain there h. absurd plain

    turns_law : (turns : FlatTurns) → Turns_law turns
    turns_law (Counted i n) = λ mark there sizes p body lo mid ts at hi G env w z l z1 z' L plain h plain_b there_b law_b sized hw.
        let e : 1 + ts + numbers n ≡ at = (let x : 1 + ts + numbers n ≡ ts + (1 + numbers n) = omega arith in x) ∙ z1 in
        counted_gives i n body sizes p lo mid ts at hi G env w z l e z' (L (1 + ts)) plain.0 plain.1 (plain.2).0 (plain.2).1 h.1
        (subst (λ k. All_given (1 + ts) k G env (s (1 + ts)) (means W (Evaluate env (1 + ts) n))) e (law n (1 + ts) G env plain.3 there h.0)) plain_b there_b law_b sized hw
    turns_law (Over q a) = λ mark there sizes p body lo mid ts at hi G env w z l z1 z' L plain h plain_b there_b law_b sized hw.
        let te : ℕ = ts + pattern_numbers q in
        let e : ts + pattern_numbers q + numbers a ≡ at = (let x : ts + pattern_numbers q + numbers a ≡ ts + (pattern_numbers q + numbers a) = omega arith in x) ∙ z1 in
        rows_gives q a body sizes p lo mid ts te at hi G env w z l refl e z' (L te) plain.0 plain.1 (plain.2).0 (plain.2).1 (plain.2).2 plain.3 plain.4 h.1
        (subst (λ k. All_given te k G env (s te) (means W (Evaluate env te a))) e (law a te G env plain.5 there h.0)) plain_b there_b law_b sized hw
    turns_law (While c) = λ mark there sizes p body lo mid ts at hi G env w z l z1 z' L plain h plain_b there_b law_b sized hw.
        let asks : ((place : Place) → W.is_there place ≡ true) ⊎ Plain_term N types W c ts → Asks_quietly c sizes p lo ts at G = λ a. asks_by (λ pl e. subst (λ k. All_given ts k (with_pattern W.sizing.size_at p (1 + lo) (with_size_names (bind_ids sizes) G)) e (s ts) (means W (Evaluate e ts c))) z1 (law c ts (with_pattern W.sizing.size_at p (1 + lo) (with_size_names (bind_ids sizes) G)) e pl there h)) a in
        while_gives c body (report kind.Turns mark) (too_many_turns W.is_there mark) sizes p lo mid ts at hi G env w z l (omega (arith, z1)) z' (L ts) (asks plain) plain_b there_b law_b sized hw

    all_law : (ts : Terms Ref BindId) → All_law ts
    all_law no_term = λ lo hi G env z plain there h. gives_exact _ (λ vs. All_parts lo hi G env no_size vs × Part_values N types τ W S one env no_term lo vs) 0 (Val []) (no_parts lo hi G env, tt)
    all_law (term_and t ts) = λ lo hi G env z plain there h.
        let rest : Sizes = part_sizes N types W.sizing.size_at W.sizing.home ts (lo + numbers t) in
        let R : List FlatValue → Type 0 = λ vs. All_parts lo hi G env (part_sizes N types W.sizing.size_at W.sizing.home (term_and t ts) lo) vs × Part_values N types τ W S one env (term_and t ts) lo vs in
        gives_then (λ v. All_results lo (lo + numbers t) G env (s lo) v × Part_values N types τ W S one env (term_and t no_term) lo (v ∷ [])) R _ _
        (gives_more (All_results lo (lo + numbers t) G env (s lo)) (λ v. Part_values N types τ W S one env (term_and t no_term) lo (v ∷ [])) (means W (Evaluate env lo t)) (wider lo hi lo (lo + numbers t) G env (All_results lo (lo + numbers t) G env (s lo)) (means W (Evaluate env lo t)) (omega arith) (omega (arith, z)) (law t lo G env plain.0 there.0 h.0)) (λ v f r. (part_value N types τ W S one t lo env v f r, tt)))
        (λ v hv. gives_then (λ vs. All_parts (lo + numbers t) hi G env rest vs × Part_values N types τ W S one env ts (lo + numbers t) vs) R _ _
        (wider lo hi (lo + numbers t) hi G env (λ vs. All_parts (lo + numbers t) hi G env rest vs × Part_values N types τ W S one env ts (lo + numbers t) vs) (each_of (λ t. means W (Evaluate env t.0 t.1)) (placed (lo + numbers t) ts)) (omega arith) (omega arith) (all_law ts (lo + numbers t) hi G env (omega (arith, z)) plain.1 there.1 h.2))
        (λ vs hvs. gives_exact _ R 0 (Val (v ∷ vs)) (parts_and lo (lo + numbers t) hi G env rest v vs (omega arith) (omega (arith, z)) h.1 hv.0 hvs.0, (hv.1.0, hvs.1))))

pub values_have_their_sizes : ValuesHaveTheirSizes
values_have_their_sizes N types τ W t lo G env m S one plain there h E = at_worth N types (exactly τ) W S (exact_kinds τ one) lo (lo + numbers t) G env (W.sizing.size_at lo) (means W (Evaluate env lo t)) (m, E) (law N types (exactly τ) W S (exact_kinds τ one) t lo G env plain there h)
