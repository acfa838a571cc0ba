-- Primitives: each takes so many parameters, data or functions of so much data, and gives data.
use Rattle.std.proofs.Common.{◌≡◌, Bool, true, false, ℕ, zero, suc, ◌+◌, ◌≤◌, min, refl, sym, ◌∙◌, arith, List, [], ◌∷◌, length, nat_lt, lt-ltb, le-ltb}
use Rattle.fut_scalar.specs.declared.scalar.ScalarType.TheVariants as types
use Rattle.fut_scalar.specs.declared.scalar.IntType.{IntType}
use Rattle.fut_scalar.specs.declared.scalar.IntType.TheVariants as int
use Rattle.fut_flat.specs.declared.prim.Primitive.{Primitive}
use Rattle.fut_flat.specs.declared.prim.Folding.TheVariants as folding
use Rattle.fut_flat.specs.declared.prim.Primitive.TheVariants as prim
use Rattle.fut_flat.specs.Erased.{FlatTerm}
use Rattle.fut_types.specs.declared.Kind.TheVariants as kind
use Rattle.fut_types.specs.Types.{Ty, Sub, Kinds, HasKind, rank, least, scalar_ty, fun_ty, applied, all_applied}
use Rattle.fut_typing.specs.Names.{Names}
use Rattle.fut_typing.specs.Primitives.{array_ty, pair_ty, triple_ty, bool_ty, i64_ty, prim_type}
use Rattle.fut_meaning.specs.Operations.{parameters_of, arity}
use Rattle.fut_meaning.specs.Knowns.{Known, Data, Known_primitive, Knowns, known_none, known_and, Scope as Seen, known_primitive, count, with_known}
use Rattle.fut_meaning.specs.Walk.{Runs, r_primitive_waits, r_primitive}
use Rattle.fut_meaning.specs.Comes.{Inside_run, in_primitive, Inside_given, in_given, in_later, Inside_function, in_applied, in_applied_on, is_function, Stuck_run, no_function, no_given, Stuck_given, stuck_here, stuck_later, Stuck_function, no_data, stuck_run, stuck_on}
use Rattle.type_soundness.specs.Knows.{Clear, Learns, Never_lost, Runs_well, Knows}
use Rattle.type_soundness.proofs.Knowing.{learns_self, knows_learn, is_no_data, kind_data, kind_only}
use Rattle.type_soundness.proofs.Resulting.{scalar_data, array_data}

-- a type of data, or of a function of so much data that gives data
pub data Takes (K : Kinds) : ℕ → Ty → Type 0 where
  takes_data : {t : Ty} → HasKind K kind.Data t → Takes K zero t
  takes_function : {k : ℕ} {t u : Ty} → HasKind K kind.Data t → Takes K k u → Takes K (suc k) (fun_ty t u)

-- the type of a function of these parameters that gives data
pub data Asks (K : Kinds) : List ℕ → Ty → Type 0 where
  gives_data : {t : Ty} → HasKind K kind.Data t → Asks K [] t
  asks : {k : ℕ} {ks : List ℕ} {t u : Ty} → Takes K k t → Asks K ks u → Asks K (k ∷ ks) (fun_ty t u)

module _ (N : Names) (S : ℕ → Bool) (K : Kinds) where
  -- ---- functions
  pub function_known : (t u : Ty) (tops : Seen) (h : Known) → is_function h ≡ true → ((tops' : Seen) → Learns S tops tops' → (s : Known) → Knows N S t tops' s → Runs_well tops' h s (Knows N S u tops')) → Knows N S (fun_ty t u) tops h
  unfolding Knows
  function_known t u tops h e k = (e, k)

  pub known_function : (t u : Ty) (tops : Seen) → Clear S tops → (h : Known) → Knows N S (fun_ty t u) tops h → (s : Known) → Knows N S t tops s → Runs_well tops h s (Knows N S u tops)
  unfolding Knows
  known_function t u tops clear h k s d = k.1 tops (learns_self S tops clear) s d

  -- ---- a function of data
  pub never_stuck : (k : ℕ) (t : Ty) (tops : Seen) → Clear S tops → (s : Known) → Takes K k t → Knows N S t tops s → Stuck_function tops k s → ⊥
  never_stuck zero t tops clear s (takes_data d) h (no_data e) = is_no_data (kind_only N S K t tops s d h) e
  never_stuck (suc k) _ tops clear s (takes_function {t = t} {u = u} d q) h (stuck_run r) = (known_function t u tops clear s h Data (kind_data N S K t tops d)).0 r
  never_stuck (suc k) _ tops clear s (takes_function {t = t} {u = u} d q) h (stuck_on {s = s'} {m = m} {d = n} r w) = never_stuck k u tops clear s' q ((known_function t u tops clear s h Data (kind_data N S K t tops d)).2 s' m n r) w

  pub function_inside : (k : ℕ) (t : Ty) (tops : Seen) → Clear S tops → (s : Known) → Takes K k t → Knows N S t tops s → (n : ℕ) (sc : Seen) (e : FlatTerm) → Inside_function tops k s n sc e → Never_lost tops sc e
  function_inside zero t tops clear s q h n sc e i = elim i [ ]
  function_inside (suc k) _ tops clear s (takes_function {t = t} {u = u} d q) h n sc e (in_applied i) = (known_function t u tops clear s h Data (kind_data N S K t tops d)).1 n sc e i
  function_inside (suc k) _ tops clear s (takes_function {t = t} {u = u} d q) h _ sc e (in_applied_on {s = s'} {m = m} {d = d'} {n = n} r i) =
      function_inside k u tops clear s' q ((known_function t u tops clear s h Data (kind_data N S K t tops d)).2 s' m d' r) n sc e i

  -- ---- arguments so far
  -- the arguments that a primitive has are of the types of its first parameters; these are left
  data Given (tops : Seen) : List ℕ → Knowns → List ℕ → Type 0 where
    none_given : {ks : List ℕ} → Given tops ks known_none ks
    one_given : {k : ℕ} {ks rest : List ℕ} {t : Ty} {s : Known} {ss : Knowns} → Takes K k t → Knows N S t tops s → Given tops ks ss rest → Given tops (k ∷ ks) (known_and s ss) rest

  given_learn : {tops : Seen} {ks rest : List ℕ} {ss : Knowns} (tops' : Seen) → Learns S tops tops' → Given tops ks ss rest → Given tops' ks ss rest
  given_learn tops' g none_given = none_given
  given_learn {tops = tops} tops' g (one_given {t = t} {s = s} q h rest) = one_given q (knows_learn N S t tops tops' g s h) (given_learn tops' g rest)

  given_one : {tops : Seen} {ks rest : List ℕ} {ss : Knowns} {k : ℕ} (t : Ty) (s : Known) → Takes K k t → Knows N S t tops s → Given tops ks ss (k ∷ rest) → Given tops ks (with_known ss s) rest
  given_one t s q h none_given = one_given q h none_given
  given_one t s q h (one_given q' h' g) = one_given q' h' (given_one t s q h g)

  given_long : {tops : Seen} {ks rest : List ℕ} {ss : Knowns} → Given tops ks ss rest → length ks ≡ count ss + length rest
  given_long none_given = omega arith
  given_long (one_given q h g) = let r = given_long g in omega (arith, r)

  given_stuck : {tops : Seen} {ks : List ℕ} {ss : Knowns} → Clear S tops → Given tops ks ss [] → Stuck_given tops ks ss → ⊥
  given_stuck clear none_given w = elim w [ ]
  given_stuck {tops = tops} clear (one_given {k = k} {t = t} {s = s} q h g) (stuck_here w) = never_stuck k t tops clear s q h w
  given_stuck clear (one_given q h g) (stuck_later f w) = given_stuck clear g w

  given_inside : {tops sc : Seen} {ks : List ℕ} {ss : Knowns} {n : ℕ} {e : FlatTerm} → Clear S tops → Given tops ks ss [] → Inside_given tops ks ss n sc e → Never_lost tops sc e
  given_inside clear none_given i = elim i [ ]
  given_inside {tops = tops} {sc = sc} {e = e} clear (one_given {k = k} {t = t} {s = s} q h g) (in_given {m = m} i) = function_inside k t tops clear s q h m sc e i
  given_inside clear (one_given q h g) (in_later f i) = given_inside clear g i

  -- a primitive that waits for the last argument, and one that waits for more
  last_runs : (p : Primitive) (u : Ty) (tops : Seen) → Clear S tops → (ss : Knowns) (s : Known) → nat_lt (suc (count ss)) (arity p) ≡ false → Given tops (parameters_of p) (with_known ss s) [] → HasKind K kind.Data u → Runs_well tops (Known_primitive p ss) s (Knows N S u tops)
  last_runs p u tops clear ss s e g d = ((λ w. stuck w), (λ n sc t i. inside n sc t i), (λ s' m k r. result s' m k r))
    where
      stuck : Stuck_run tops (Known_primitive p ss) s → ⊥
      stuck (no_function f) = let z : true ≡ false = f in cc
      stuck (no_given f w) = given_stuck clear g w

      inside : (n : ℕ) (sc : Seen) (t : FlatTerm) → Inside_run tops (Known_primitive p ss) s n sc t → Never_lost tops sc t
      inside n sc t (in_primitive f i) = given_inside clear g i

      result : (s' : Known) (m k : ℕ) → Runs tops (Known_primitive p ss) s s' m k → Knows N S u tops s'
      result _ _ _ (r_primitive_waits f) = absurd (let z : true ≡ false = sym f ∙ e in cc)
      result _ _ _ (r_primitive f v) = kind_data N S K u tops d

  waits_runs : (p : Primitive) (u : Ty) (tops : Seen) (ss : Knowns) (s : Known) → nat_lt (suc (count ss)) (arity p) ≡ true → Knows N S u tops (Known_primitive p (with_known ss s)) → Runs_well tops (Known_primitive p ss) s (Knows N S u tops)
  waits_runs p u tops ss s e h = ((λ w. stuck w), (λ n sc t i. inside n sc t i), (λ s' m k r. result s' m k r))
    where
      stuck : Stuck_run tops (Known_primitive p ss) s → ⊥
      stuck (no_function f) = let z : true ≡ false = f in cc
      stuck (no_given f w) = let z : true ≡ false = sym e ∙ f in cc

      inside : (n : ℕ) (sc : Seen) (t : FlatTerm) → Inside_run tops (Known_primitive p ss) s n sc t → Never_lost tops sc t
      inside n sc t (in_primitive f i) = absurd (let z : true ≡ false = sym e ∙ f in cc)

      result : (s' : Known) (m k : ℕ) → Runs tops (Known_primitive p ss) s s' m k → Knows N S u tops s'
      result _ _ _ (r_primitive_waits f) = h
      result _ _ _ (r_primitive f v) = absurd (let z : true ≡ false = sym e ∙ f in cc)

  is_last : {tops : Seen} (p : Primitive) (ss : Knowns) (k : ℕ) → Given tops (parameters_of p) ss (k ∷ []) → nat_lt (suc (count ss)) (arity p) ≡ false
  is_last p ss k g = let r : length (parameters_of p) ≡ count ss + 1 = given_long g in le-ltb (suc (count ss)) (arity p) (omega (arith, r))

  is_early : {tops : Seen} (p : Primitive) (ss : Knowns) (k k' : ℕ) (ks : List ℕ) → Given tops (parameters_of p) ss (k ∷ k' ∷ ks) → nat_lt (suc (count ss)) (arity p) ≡ true
  is_early p ss k k' ks g = let r : length (parameters_of p) ≡ count ss + suc (suc (length ks)) = given_long g in lt-ltb (suc (count ss)) (arity p) (omega (arith, r))

  primitive_knows : (p : Primitive) (k : ℕ) (ks : List ℕ) (t : Ty) (tops : Seen) (ss : Knowns) → Asks K (k ∷ ks) t → Given tops (parameters_of p) ss (k ∷ ks) → Knows N S t tops (Known_primitive p ss)
  primitive_knows p k [] _ tops ss (asks {t = t} {u = u} q (gives_data d)) g =
      function_known t u tops (Known_primitive p ss) refl (λ tops' l s h. let g' = given_learn tops' l g in last_runs p u tops' l.1 ss s (is_last p ss k g') (given_one t s q h g') d)
  primitive_knows p k (k' ∷ ks) _ tops ss (asks {t = t} {u = u} q w) g =
      function_known t u tops (Known_primitive p ss) refl (λ tops' l s h. let g' = given_learn tops' l g in waits_runs p u tops' ss s (is_early p ss k k' ks g') (primitive_knows p k' ks u tops' (with_known ss s) w (given_one t s q h g')))

  -- ---- the types of the primitives
  data_one : {t u : Ty} {ks : List ℕ} → HasKind K kind.Data t → Asks K ks u → Asks K (zero ∷ ks) (fun_ty t u)
  data_one d w = asks (takes_data d) w

  fun_one : {x y u : Ty} {ks : List ℕ} → HasKind K kind.Data x → HasKind K kind.Data y → Asks K ks u → Asks K (1 ∷ ks) (fun_ty (fun_ty x y) u)
  fun_one x y w = asks (takes_function x (takes_data y)) w

  fun_two : {x y z u : Ty} {ks : List ℕ} → HasKind K kind.Data x → HasKind K kind.Data y → HasKind K kind.Data z → Asks K ks u → Asks K (2 ∷ ks) (fun_ty (fun_ty x (fun_ty y z)) u)
  fun_two x y z w = asks (takes_function x (takes_function y (takes_data z))) w

  pair_data : (t u : Ty) → HasKind K kind.Data t → HasKind K kind.Data u → HasKind K kind.Data (pair_ty t u)
  unfolding rank least
  pair_data t u h k = let x : 1 ≤ rank K t = h in let y : 1 ≤ rank K u = k in let z : 1 ≤ min 2 (min (rank K t) (min (rank K u) 4)) = omega (arith, x, y) in z

  triple_data : (t u v : Ty) → HasKind K kind.Data t → HasKind K kind.Data u → HasKind K kind.Data v → HasKind K kind.Data (triple_ty t u v)
  unfolding rank least
  triple_data t u v h k l = let x : 1 ≤ rank K t = h in let y : 1 ≤ rank K u = k in let w : 1 ≤ rank K v = l in let z : 1 ≤ min 2 (min (rank K t) (min (rank K u) (min (rank K v) 4))) = omega (arith, x, y, w) in z

  module _ (given : Sub) (h : (n : ℕ) → HasKind K kind.Data (given n)) where
    r : (n : ℕ) → HasKind K kind.Data (array_ty (given n))
    r n = array_data K (given n) (h n)

    rr : (n : ℕ) → HasKind K kind.Data (array_ty (array_ty (given n)))
    rr n = array_data K (array_ty (given n)) (r n)

    size : HasKind K kind.Data i64_ty
    size = scalar_data K (types.Int int.I64)

    sizes : HasKind K kind.Data (array_ty i64_ty)
    sizes = array_data K i64_ty size

    numbers : (t : IntType) → HasKind K kind.Data (array_ty (scalar_ty (types.Int t)))
    numbers t = array_data K (scalar_ty (types.Int t)) (scalar_data K (types.Int t))

    truth : HasKind K kind.Data bool_ty
    truth = scalar_data K types.Bool

    arrays : HasKind K kind.Data (pair_ty (array_ty (given 0)) (array_ty (given 0)))
    arrays = pair_data (array_ty (given 0)) (array_ty (given 0)) (r 0) (r 0)

    pairs : HasKind K kind.Data (array_ty (pair_ty (given 0) (given 1)))
    pairs = array_data K (pair_ty (given 0) (given 1)) (pair_data (given 0) (given 1) (h 0) (h 1))

    triples : HasKind K kind.Data (array_ty (triple_ty (given 0) (given 1) (given 2)))
    triples = array_data K (triple_ty (given 0) (given 1) (given 2)) (triple_data (given 0) (given 1) (given 2) (h 0) (h 1) (h 2))

    unzipped : HasKind K kind.Data (pair_ty (array_ty (given 0)) (array_ty (given 1)))
    unzipped = pair_data (array_ty (given 0)) (array_ty (given 1)) (r 0) (r 1)

    unzipped3 : HasKind K kind.Data (triple_ty (array_ty (given 0)) (array_ty (given 1)) (array_ty (given 2)))
    unzipped3 = triple_data (array_ty (given 0)) (array_ty (given 1)) (array_ty (given 2)) (r 0) (r 1) (r 2)

    pub prim_known : (p : Primitive) (tops : Seen) → Knows N S (applied given (prim_type p)) tops (known_primitive p)
    unfolding applied all_applied
    prim_known prim.Map tops = primitive_knows prim.Map _ _ _ tops known_none (fun_one (h 0) (h 1) (data_one (r 0) (gives_data (r 1)))) none_given
    prim_known prim.Map2 tops = primitive_knows prim.Map2 _ _ _ tops known_none (fun_two (h 0) (h 1) (h 2) (data_one (r 0) (data_one (r 1) (gives_data (r 2))))) none_given
    prim_known prim.Map3 tops = primitive_knows prim.Map3 _ _ _ tops known_none (asks (takes_function (h 0) (takes_function (h 1) (takes_function (h 2) (takes_data (h 3))))) (data_one (r 0) (data_one (r 1) (data_one (r 2) (gives_data (r 3)))))) none_given
    prim_known prim.Map4 tops = primitive_knows prim.Map4 _ _ _ tops known_none (asks (takes_function (h 0) (takes_function (h 1) (takes_function (h 2) (takes_function (h 3) (takes_data (h 4)))))) (data_one (r 0) (data_one (r 1) (data_one (r 2) (data_one (r 3) (gives_data (r 4))))))) none_given
    prim_known prim.Map5 tops = primitive_knows prim.Map5 _ _ _ tops known_none (asks (takes_function (h 0) (takes_function (h 1) (takes_function (h 2) (takes_function (h 3) (takes_function (h 4) (takes_data (h 5))))))) (data_one (r 0) (data_one (r 1) (data_one (r 2) (data_one (r 3) (data_one (r 4) (gives_data (r 5)))))))) none_given
    prim_known prim.Reduce tops = primitive_knows prim.Reduce _ _ _ tops known_none (fun_two (h 0) (h 0) (h 0) (data_one (h 0) (data_one (r 0) (gives_data (h 0))))) none_given
    prim_known prim.ReduceComm tops = primitive_knows prim.ReduceComm _ _ _ tops known_none (fun_two (h 0) (h 0) (h 0) (data_one (h 0) (data_one (r 0) (gives_data (h 0))))) none_given
    prim_known prim.Scan tops = primitive_knows prim.Scan _ _ _ tops known_none (fun_two (h 0) (h 0) (h 0) (data_one (h 0) (data_one (r 0) (gives_data (r 0))))) none_given
    prim_known prim.Filter tops = primitive_knows prim.Filter _ _ _ tops known_none (fun_one (h 0) truth (data_one (r 0) (gives_data (r 0)))) none_given
    prim_known prim.Partition tops = primitive_knows prim.Partition _ _ _ tops known_none (fun_one (h 0) truth (data_one (r 0) (gives_data arrays))) none_given
    prim_known prim.Scatter tops = primitive_knows prim.Scatter _ _ _ tops known_none (data_one (r 0) (data_one sizes (data_one (r 0) (gives_data (r 0))))) none_given
    prim_known prim.ReduceByIndex tops = primitive_knows prim.ReduceByIndex _ _ _ tops known_none (data_one (r 0) (fun_two (h 0) (h 0) (h 0) (data_one (h 0) (data_one sizes (data_one (r 0) (gives_data (r 0))))))) none_given
    prim_known prim.Zip tops = primitive_knows prim.Zip _ _ _ tops known_none (data_one (r 0) (data_one (r 1) (gives_data pairs))) none_given
    prim_known prim.Zip3 tops = primitive_knows prim.Zip3 _ _ _ tops known_none (data_one (r 0) (data_one (r 1) (data_one (r 2) (gives_data triples)))) none_given
    prim_known prim.Unzip tops = primitive_knows prim.Unzip _ _ _ tops known_none (data_one pairs (gives_data unzipped)) none_given
    prim_known prim.Unzip3 tops = primitive_knows prim.Unzip3 _ _ _ tops known_none (data_one triples (gives_data unzipped3)) none_given
    prim_known prim.Iota tops = primitive_knows prim.Iota _ _ _ tops known_none (data_one size (gives_data sizes)) none_given
    prim_known prim.Replicate tops = primitive_knows prim.Replicate _ _ _ tops known_none (data_one size (data_one (h 0) (gives_data (r 0)))) none_given
    prim_known prim.Tabulate tops = primitive_knows prim.Tabulate _ _ _ tops known_none (data_one size (fun_one size (h 0) (gives_data (r 0)))) none_given
    prim_known prim.Indices tops = primitive_knows prim.Indices _ _ _ tops known_none (data_one (r 0) (gives_data sizes)) none_given
    prim_known prim.Length tops = primitive_knows prim.Length _ _ _ tops known_none (data_one (r 0) (gives_data size)) none_given
    prim_known prim.Null tops = primitive_knows prim.Null _ _ _ tops known_none (data_one (r 0) (gives_data truth)) none_given
    prim_known prim.Head tops = primitive_knows prim.Head _ _ _ tops known_none (data_one (r 0) (gives_data (h 0))) none_given
    prim_known prim.Last tops = primitive_knows prim.Last _ _ _ tops known_none (data_one (r 0) (gives_data (h 0))) none_given
    prim_known prim.Init tops = primitive_knows prim.Init _ _ _ tops known_none (data_one (r 0) (gives_data (r 0))) none_given
    prim_known prim.Tail tops = primitive_knows prim.Tail _ _ _ tops known_none (data_one (r 0) (gives_data (r 0))) none_given
    prim_known prim.Take tops = primitive_knows prim.Take _ _ _ tops known_none (data_one size (data_one (r 0) (gives_data (r 0)))) none_given
    prim_known prim.Drop tops = primitive_knows prim.Drop _ _ _ tops known_none (data_one size (data_one (r 0) (gives_data (r 0)))) none_given
    prim_known prim.Reverse tops = primitive_knows prim.Reverse _ _ _ tops known_none (data_one (r 0) (gives_data (r 0))) none_given
    prim_known prim.Rotate tops = primitive_knows prim.Rotate _ _ _ tops known_none (data_one size (data_one (r 0) (gives_data (r 0)))) none_given
    prim_known prim.Concat tops = primitive_knows prim.Concat _ _ _ tops known_none (data_one (r 0) (data_one (r 0) (gives_data (r 0)))) none_given
    prim_known prim.Flatten tops = primitive_knows prim.Flatten _ _ _ tops known_none (data_one (rr 0) (gives_data (r 0))) none_given
    prim_known prim.Unflatten tops = primitive_knows prim.Unflatten _ _ _ tops known_none (data_one size (data_one size (data_one (r 0) (gives_data (rr 0))))) none_given
    prim_known prim.Transpose tops = primitive_knows prim.Transpose _ _ _ tops known_none (data_one (rr 0) (gives_data (rr 0))) none_given
    prim_known prim.Copy tops = primitive_knows prim.Copy _ _ _ tops known_none (data_one (h 0) (gives_data (h 0))) none_given
    prim_known (prim.Convert to from) tops = primitive_knows (prim.Convert to from) _ _ _ tops known_none (data_one (scalar_data K from) (gives_data (scalar_data K to))) none_given
    prim_known (prim.Min t) tops = let n = scalar_data K (types.Int t) in primitive_knows (prim.Min t) _ _ _ tops known_none (data_one n (data_one n (gives_data n))) none_given
    prim_known (prim.Max t) tops = let n = scalar_data K (types.Int t) in primitive_knows (prim.Max t) _ _ _ tops known_none (data_one n (data_one n (gives_data n))) none_given
    prim_known (prim.Abs t) tops = let n = scalar_data K (types.Int t) in primitive_knows (prim.Abs t) _ _ _ tops known_none (data_one n (gives_data n)) none_given
    prim_known (prim.Popc t) tops = primitive_knows (prim.Popc t) _ _ _ tops known_none (data_one (scalar_data K (types.Int t)) (gives_data (scalar_data K (types.Int int.I32)))) none_given
    prim_known (prim.Lowest t) tops = kind_data N S K (scalar_ty (types.Int t)) tops (scalar_data K (types.Int t))
    prim_known (prim.Highest t) tops = kind_data N S K (scalar_ty (types.Int t)) tops (scalar_data K (types.Int t))
    prim_known (prim.NumBits t) tops = kind_data N S K (scalar_ty (types.Int int.I32)) tops (scalar_data K (types.Int int.I32))
    prim_known (prim.Fold folding.Sum t) tops = primitive_knows (prim.Fold folding.Sum t) _ _ _ tops known_none (data_one (numbers t) (gives_data (scalar_data K (types.Int t)))) none_given
    prim_known (prim.Fold folding.Product t) tops = primitive_knows (prim.Fold folding.Product t) _ _ _ tops known_none (data_one (numbers t) (gives_data (scalar_data K (types.Int t)))) none_given
    prim_known (prim.Fold folding.Minimum t) tops = primitive_knows (prim.Fold folding.Minimum t) _ _ _ tops known_none (data_one (numbers t) (gives_data (scalar_data K (types.Int t)))) none_given
    prim_known (prim.Fold folding.Maximum t) tops = primitive_knows (prim.Fold folding.Maximum t) _ _ _ tops known_none (data_one (numbers t) (gives_data (scalar_data K (types.Int t)))) none_given
