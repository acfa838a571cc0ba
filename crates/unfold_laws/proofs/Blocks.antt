-- Typed blocks never go wrong.
use Rattle.std.proofs.Common.{◌≡◌, ℕ, suc, ◌≤◌, ◌<◌, refl, sym, subst, arith, List, [], ◌∷◌, Bool, true, false, Option, ℤ}
use Rattle.fut_scalar.specs.declared.report.FailKind.TheVariants as fail
use Rattle.fut_scalar.specs.declared.scalar.IntType.{IntType}
use Rattle.fut_scalar.specs.declared.scalar.Scalar.TheVariants as scalar
use Rattle.fut_scalar.specs.declared.scalar.ScalarType.TheVariants as types
use Rattle.fut_scalar.specs.declared.place.Place.{Place}
use Rattle.fut_types.specs.declared.Kind.TheVariants as kind
use Rattle.fut_types.specs.declared.Head.TheVariants as head
use Rattle.fut_types.specs.Types.{Ty, Made, Tys, none, more, Kinds, HasKind}
use Rattle.fut_typing.specs.Names.{Names, AreNames}
use Rattle.fut_typing.specs.Primitives.{array_ty, bool_ty, i64_ty}
use Rattle.fut_value.specs.Data.{Shape, Scalar_datum, Tuple_datum, datums}
use Rattle.fut_meaning.specs.Found.{Told}
use Rattle.fut_meaning.specs.Arrays.{Making, Make_array, Make_index, Make_update, Make_range, made, rows_of, truth_of_datum, checked}
use Rattle.fut_meaning.specs.Claims.{HasOut, Safe}
use Rattle.fut_meaning.specs.Jobs.{Applied, job}
use Rattle.fut_meaning.specs.Jobs as jobs
use Rattle.fut_meaning.specs.Meaning.{plain, counts}
use Rattle.fut_meaning.specs.Operations.{report}
use Rattle.fut_meaning.specs.Outcomes.{Val, Fail, Wrong, Rel, Then, the, and_then}
use Rattle.fut_meaning.proofs.Safe.{Every, Any_truth, safe_exact, safe_then, safe_choose, safe_turns, safe_while}
use Rattle.fut_blocks.specs.declared.block.Atom.{Atom}
use Rattle.fut_blocks.specs.declared.block.Operation.{Operation}
use Rattle.fut_blocks.specs.declared.block.Operation.TheVariants as operation
use Rattle.fut_blocks.specs.Meaning.{Component, Names as Environment, value_of, values_of, row_shape, extent_worth, passes, size_given, sizes_tested, under, operated, turns_of_datum, holds, the_one, function_of, act_means, body_means}
use Rattle.fut_blocks.specs.Numbered.{Act_numbered, Body_numbered}
use Rattle.fut_blocks.specs.Plain.{Action, Operate, Tuple, Make, Read, Size_of, Coerce, Job, If, For, Over, While, Body, Give, Let, body_of}
use Rattle.fut_blocks.specs.Programs.{Program_means}
use Rattle.fut_blocks.specs.Records.{reads}
use Rattle.type_soundness.specs.Fits.{Fits}
use Rattle.type_soundness.proofs.Binding.{has_then}
use Rattle.type_soundness.proofs.Making.{Of_counted, Rows_fit, rows_fit, row_data, has_as, has_checked}
use Rattle.type_soundness.proofs.Makings.{array_is, array_has, index_is, update_is, range_is}
use Rattle.unfold_laws.specs.Safety.{Is_of, Are_of, ProgramsNeverStuck}
use Rattle.unfold_laws.specs.Typed.{Types, of_constants, Are, Stands, with_names, with_name, with_each, Operation_typed, Makes, Act_typed, Body_typed, Names_typed, any_types}
use Rattle.unfold_laws.proofs.Binding.{upward_le, Sees, sees_nothing, value_is, values_are, with_value, with_values, sees_names, under_names, named_each}
use Rattle.unfold_laws.proofs.Jobs.{Job_is, job_is}
use Rattle.unfold_laws.proofs.Reading.{reads_are}
use Rattle.unfold_laws.proofs.Standing.{Any, row_out, extent_out, test_out}
use Rattle.unfold_laws.proofs.Safety.{as_each, integer_datum, truth_datum, binary_is, unary_is, convert_is, assert_is, parts_are, tuple_is}

-- names inside are not below the first
mutual
  unfolding Act_numbered Body_numbered

  act_le : (a : Action) (n m : ℕ) → Act_numbered n a m → n ≤ m
  act_le (Operate o) n m h = h
  act_le (Tuple us) n m h = h
  act_le (Make row o at us) n m h = h
  act_le (Read k us) n m h = h
  act_le (Size_of e) n m h = h
  act_le (Coerce at test row) n m h = h
  act_le (Job row p at us xs b) n m (k, u, h) = let r = upward_le xs n k u in let q = body_le b k m h in omega (arith, r, q)
  act_le (If c a b) n m (k, g, h) = let r = body_le a n k g in let q = body_le b k m h in omega (arith, r, q)
  act_le (For xs us i c b) n m (k, u, le, h) = let r = upward_le xs n k u in let q = body_le b (suc i) m h in omega (arith, r, q, le)
  act_le (Over xs us x r b) n m (k, u, le, h) = let s = upward_le xs n k u in let q = body_le b (suc x) m h in omega (arith, s, q, le)
  act_le (While at xs us t b) n m (k, u, l, g, h) = let r = upward_le xs n k u in let q = body_le t k l g in let s = body_le b l m h in omega (arith, r, q, s)

  body_le : (b : Body) (n m : ℕ) → Body_numbered n b m → n ≤ m
  body_le (Give us) n m h = h
  body_le (Let xs a b) n m (k, g, l, u, h) = let r = act_le a n k g in let q = upward_le xs k l u in let s = body_le b l m h in omega (arith, r, q, s)

module _ (N : Names) (are : AreNames N) (T : Told) (K : Kinds) (tight : Bool) (budget : ℕ) where
  abbrev Of : Ty → Component → Type 0
  Of t d = Is_of N T tight budget t d

  abbrev All_of : Tys → List Component → Type 0
  All_of ts ds = Are_of N T tight budget ts ds

  abbrev Sees_at : Types → Environment Component → ℕ → Type 0
  Sees_at G env n = Sees N T tight budget G env n

  sees_more : (G : Types) (env : Environment Component) (n m : ℕ) → n ≤ m → Sees_at G env n → Sees_at G env m
  sees_more G env n m le s = record { named = s.named; constants = s.constants; below = λ x t h. let lt = s.below x t h in omega (arith, lt, le) }

  -- with a name for this component
  sees_one : (G : Types) (env : Environment Component) (n x : ℕ) (t : Ty) (d : Component) → n ≤ x → Sees_at G env n → Of t d → Sees_at (with_name x t G) ((x, d) ∷ env) (suc x)
  sees_one G env n x t d le s h = sees_names N T tight budget G env n s (more t none) (x ∷ []) n (suc x) (d ∷ []) ((x, d) ∷ env) (let z : n ≤ n = omega arith in z) (le, (let z : suc x ≤ suc x = omega arith in z)) refl (h, tt)

  size_is : (z : Option ℤ) → Any z → HasOut (All_of (more i64_ty none)) (size_given z)
  unfolding Fits
  size_is z x = (refl, tt)

  -- ---- operations
  module _ (G : Types) (env : Environment Component) (n : ℕ) (sees : Sees_at G env n) where
    operated_is : (o : Operation) (ts : Tys) → Operation_typed K G o ts → HasOut (All_of ts) (operated env o)
    unfolding operated
    operated_is (operation.Binary op at a b) ts (t, u, rule, ha, hb, e) =
        subst (λ y. HasOut (All_of y) (operated env (operation.Binary op at a b))) (sym e)
        (with_value N T tight budget G env n sees (All_of (more t none)) a u _ ha (λ v hv. with_value N T tight budget G env n sees (All_of (more t none)) b u _ hb (λ w hw. binary_is N are T K tight budget op at t u v w rule hv hw)))
    operated_is (operation.Unary op a) ts (t, u, rule, ha, e) =
        subst (λ y. HasOut (All_of y) (operated env (operation.Unary op a))) (sym e) (with_value N T tight budget G env n sees (All_of (more t none)) a u _ ha (λ v hv. unary_is N are T K tight budget op t u v rule hv))
    operated_is (operation.Convert to a) ts (u, k, ha, e) =
        subst (λ y. HasOut (All_of y) (operated env (operation.Convert to a))) (sym e) (with_value N T tight budget G env n sees (All_of (more _ none)) a u _ ha (λ v hv. convert_is N are T K tight budget to u v k hv))
    operated_is (operation.Assert at a) ts (ha, e) =
        subst (λ y. HasOut (All_of y) (operated env (operation.Assert at a))) (sym e) (with_value N T tight budget G env n sees (All_of none) a bool_ty _ ha (λ v hv. assert_is N are T K tight budget at v hv))
    operated_is (operation.Parts a) ts ha = with_value N T tight budget G env n sees (All_of ts) a (Made head.Tuple ts) _ ha (λ v hv. parts_are N are T K tight budget ts v hv)

    -- what is asked of rows, extents and tests
    stands_out : (u : Atom) → Stands G u → HasOut Any (value_of env u)
    stands_out u (t, h) = let a = value_is N T tight budget G env n sees u t h in subst (HasOut Any) (sym a.1) tt

    -- the first values of a loop, and others
    values_safe : (us : List Atom) (ts : Tys) → Are G us ts → HasOut (All_of ts) (values_of env us)
    values_safe us ts h = let a = values_are N T tight budget G env n sees us ts h in subst (HasOut (All_of ts)) (sym a.1) a.2

    truth_safe : (c : Atom) → G c bool_ty → HasOut Any_truth (and_then (value_of env c) truth_of_datum)
    truth_safe c h = with_value N T tight budget G env n sees Any_truth c bool_ty truth_of_datum h (λ d k. let r = truth_datum N are T K tight budget d k in subst (λ z. HasOut Any_truth (truth_of_datum z)) (sym r.1) tt)

  -- ---- arrays
  made_is : (told : Shape) (m : Making) (at : Place) (us : Tys) (t : Ty) (ds : List Component) → Makes N K m us t → All_of us ds → HasOut (Of_counted (Of t)) (made false told m at ds)
  made_is told Make_array at us t ds (meant, (u, (el, arr, a))) h = array_is N are T (plain tight) budget false [] K kind.Data (let z : 1 ≤ 1 = omega arith in z) told at t el us ds arr a (as_each N are T K tight budget us ds h)
  made_is told (Make_index []) at us t ds (meant, (u, r)) h = absurd meant
  made_is told (Make_index (p ∷ ps)) at none t ds (meant, (u, r)) h = absurd r
  made_is told (Make_index (p ∷ ps)) at (more x is) t ds (meant, (u, r)) h =
      index_is N are T (plain tight) budget false [] K kind.Data (let z : 1 ≤ 1 = omega arith in z) told at (p ∷ ps) t x is ds (array_has N are T (plain tight) budget false [] K kind.Data (let z : 1 ≤ 1 = omega arith in z) x r.2.0 r.2.2) r.0 r.1 r.2
      (as_each N are T K tight budget (more x is) ds h)
  made_is told Make_update at none t ds (meant, (u, r)) h = absurd r
  made_is told Make_update at (more x none) t ds (meant, (u, r)) h = absurd r.1
  made_is told Make_update at (more x (more v none)) t ds (meant, (u, r)) h = absurd (let z : 2 < 2 = meant in omega (arith, z))
  made_is told Make_update at (more x (more i (more v vs))) t ds (meant, (u, r)) h =
      update_is N are T (plain tight) budget false [] K kind.Data (let z : 1 ≤ 1 = omega arith in z) told at t x (more i (more v vs)) ds (array_has N are T (plain tight) budget false [] K kind.Data (let z : 1 ≤ 1 = omega arith in z) x r.1.1.0 r.1.1.1) r.0 r.1
      (as_each N are T K tight budget (more x (more i (more v vs))) ds h)
  made_is told (Make_range true end) at (more x (more y (more z none))) t ds (meant, (u, (el, arr, k, a))) h =
      range_is N are T (plain tight) budget false [] K kind.Data (let z : 1 ≤ 1 = omega arith in z) told at true end t el (more x (more y (more z none))) ds arr k a refl (as_each N are T K tight budget (more x (more y (more z none))) ds h)
  made_is told (Make_range false end) at (more x (more z none)) t ds (meant, (u, (el, arr, k, a))) h =
      range_is N are T (plain tight) budget false [] K kind.Data (let z : 1 ≤ 1 = omega arith in z) told at false end t el (more x (more z none)) ds arr k a refl (as_each N are T K tight budget (more x (more z none)) ds h)
  made_is told (Make_range stepped end) at us t ds (meant, (u, r)) h = absurd r

  -- ---- blocks
  every_one : (xs : List ℕ) → Every (λ x. Unit {0}) xs
  every_one [] = tt
  every_one (x ∷ xs) = (tt, every_one xs)

  -- how many turns, of this type
  abbrev Turns_of : Ty → IntType × ℕ → Type 0
  Turns_of t c = (ts : Tys) × (t ≡ Made (head.Scalar (types.Int c.0)) ts)

  turns_is : (t : Ty) (d : Component) → HasKind K kind.Integer t → Of t d → HasOut (Turns_of t) (turns_of_datum d)
  turns_is t d k h = let a = integer_datum N are T K tight budget t d k h in subst (λ z. HasOut (Turns_of t) (turns_of_datum z)) (sym a.4) (a.1, a.3)

  turn_number : (t : Ty) (c : IntType × ℕ) (j : ℕ) → Turns_of t c → Of t (Scalar_datum (scalar.Int c.0 j))
  unfolding Fits
  turn_number t c j (ts, e) = subst (λ y. Of y (Scalar_datum (scalar.Int c.0 j))) (sym e) refl

  test_holds : (ws : List Component) → All_of (more bool_ty none) ws → HasOut Any_truth (holds ws)
  test_holds [] h = absurd h
  test_holds (v ∷ []) h = let r = truth_datum N are T K tight budget v h.0 in subst (λ z. HasOut Any_truth (truth_of_datum z)) (sym r.1) tt
  test_holds (v ∷ w ∷ ws) h = absurd h.1

  -- what a primitive's job gives
  abbrev Job_gives : Applied → Ty → jobs.Job → Type 0
  Job_gives g t j = Job_is N are T K tight budget g t j

  one_is : (t : Ty) (ws : List Component) → All_of (more t none) ws → HasOut (Of t) (the_one ws)
  one_is t [] h = absurd h
  one_is t (v ∷ []) h = h.0
  one_is t (v ∷ w ∷ ws) h = absurd h.1

  -- what a step gives is of each type that it may have
  all_types : (Typed : Tys → Type 0) (means : Rel (List Component)) (ss : Tys) → Typed ss → ((us : Tys) → Typed us → Safe (All_of us) means) → Safe (λ ds. (us : Tys) → Typed us → All_of us ds) means
  all_types Typed means ss h safe (Val ds) f x = λ us k. safe us k (Val ds) f x
  all_types Typed means ss h safe (Fail r) f x = tt
  all_types Typed means ss h safe Wrong f x = safe ss h Wrong f x

  mutual
    unfolding Act_typed Body_typed act_means body_means Act_numbered Body_numbered

    act_safe : (a : Action) (G : Types) (env : Environment Component) (n m : ℕ) → Act_numbered n a m → Sees_at G env n → (ts : Tys) → Act_typed N K any_types a G ts → Safe (All_of ts) (act_means tight budget a env)
    act_safe (Operate o) G env n m u s ts h = safe_exact (All_of ts) 0 (operated env o) (operated_is G env n s o ts h)
    act_safe (Tuple us) G env n m u s ts (parts, h, lt, e) =
        subst (λ y. Safe (All_of y) (act_means tight budget (Tuple us) env)) (sym e)
        (safe_exact (All_of (more (Made head.Tuple parts) none)) 0 (and_then (values_of env us) (λ vs. Val (Tuple_datum (datums vs) ∷ [])))
        (with_values N T tight budget G env n s (All_of (more (Made head.Tuple parts) none)) us parts (λ vs. Val (Tuple_datum (datums vs) ∷ [])) h (λ ds k. (tuple_is N are T K tight budget parts ds lt k, tt))))
    act_safe (Read k us) G env n m u s ts (parts, h, r) = safe_exact (All_of ts) 0 (and_then (values_of env us) (reads k)) (with_values N T tight budget G env n s (All_of ts) us parts (reads k) h (λ ds q. reads_are N are T K tight budget k parts ts ds r q))
    act_safe (Make row o at us) G env n m u s ts (parts, t, w', h, k, e) =
        subst (λ y. Safe (All_of y) (act_means tight budget (Make row o at us) env)) (sym e)
        (safe_then (All_of parts) (All_of (more t none)) _ _ (safe_exact (All_of parts) 0 (values_of env us) (values_safe G env n s us parts h)) (λ ds q.
        safe_then (Of_counted (Of t)) (All_of (more t none)) _ _ (safe_exact (Of_counted (Of t)) 0 (and_then (row_shape env row) (λ told. made false told o at ds)) (has_then Any (Of_counted (Of t)) (row_shape env row) _ (row_out env (Stands G) (stands_out G env n s) row w') (λ told x. made_is told o at parts t ds k q))) (λ r w. safe_exact (All_of (more t none)) r.0 (Val (r.1 ∷ [])) (w, tt))))
    act_safe (Job row p at us xs b) G env n m (k, up, gb) s ts (taken, fs, r, t, w', hu, typed, m', hb, l, e) =
        subst (λ y. Safe (All_of y) (act_means tight budget (Job row p at us xs b) env)) (sym e)
        (safe_then (All_of taken) (All_of (more t none)) _ _ (safe_exact (All_of taken) 0 (values_of env us) (values_safe G env n s us taken hu)) (λ ds q.
        safe_then (Job_gives (function_of (body_means tight budget b) xs env) t) (All_of (more t none)) _ _
        (safe_exact (Job_gives (function_of (body_means tight budget b) xs env) t) 0 (and_then (row_shape env row) (λ told. job false told p at ds)) (has_then Any (Job_gives (function_of (body_means tight budget b) xs env) t) (row_shape env row) _ (row_out env (Stands G) (stands_out G env n s) row w') (λ told x. job_is N are T K tight budget told p at taken fs r t (function_of (body_means tight budget b) xs env) ds typed (λ es w.
        safe_then (All_of (more r none)) (Of r) _ _
        (under_names N T tight budget G env n s (All_of (more r none)) fs xs n k es (body_means tight budget b) (let y : n ≤ n = omega arith in y) up l w (λ inner sees. body_safe b (with_names xs fs G) inner k m gb sees (more r none) hb))
        (λ ws z. safe_exact (Of r) 0 (the_one ws) (one_is r ws z))) q)))
        (λ j w. safe_then (Of t) (All_of (more t none)) _ _ w (λ d z. safe_exact (All_of (more t none)) 0 (Val (d ∷ [])) (z, tt)))))
    act_safe (Size_of e) G env n m u s ts (h, same) =
        subst (λ y. Safe (All_of y) (act_means tight budget (Size_of e) env)) (sym same)
        (safe_exact (All_of (more i64_ty none)) 0 _ (has_then Any (All_of (more i64_ty none)) (extent_worth env e) size_given (extent_out env (Stands G) (stands_out G env n s) e h) size_is))
    act_safe (Coerce at test row) G env n m u s ts (h, w', same) =
        subst (λ y. Safe (All_of y) (act_means tight budget (Coerce at test row) env)) (sym same)
        (safe_exact (All_of none) 0 _ (has_then Any (All_of none) (row_shape env row) (sizes_tested env at test) (row_out env (Stands G) (stands_out G env n s) row w') (λ told x.
        has_then Any (All_of none) (passes env test told) (λ b. checked b fail.Size at (Val [])) (test_out env (Stands G) (stands_out G env n s) test told h) (λ b y. has_checked (All_of none) b fail.Size at (Val []) (λ same. tt)))))
    act_safe (If c a b) G env n m (k, ga, gb) s ts (hc, ha, hb) =
        safe_then Any_truth (All_of ts) _ _ (safe_exact Any_truth 0 _ (truth_safe G env n s c hc)) (λ t w. safe_choose (All_of ts) t _ _ (body_safe a G env n k ga s ts ha) (body_safe b G env k m gb (sees_more G env n k (body_le a n k ga) s) ts hb))
    act_safe (For xs us i c b) G env n m (k, up, le, gb) s ts (hu, l, t, m', integral, hn, hb) =
        safe_then (All_of ts) (All_of ts) _ _ (safe_exact (All_of ts) 0 (values_of env us) (values_safe G env n s us ts hu)) (λ ds q.
        safe_then (Turns_of t) (All_of ts) _ _ (safe_exact (Turns_of t) 0 _ (with_value N T tight budget G env n s (Turns_of t) c t turns_of_datum hn (λ d w. turns_is t d integral w))) (λ r w.
        safe_turns (λ j. Unit {0}) (All_of ts) (λ j ws. under xs ws env (λ e. body_means tight budget b ((i, Scalar_datum (scalar.Int r.0 j)) ∷ e))) (λ j vs x z. under_names N T tight budget G env n s (All_of ts) ts xs n k vs (λ e. body_means tight budget b ((i, Scalar_datum (scalar.Int r.0 j)) ∷ e)) (let y : n ≤ n = omega arith in y) up l z
        (λ inner sees. body_safe b (with_name i t (with_names xs ts G)) ((i, Scalar_datum (scalar.Int r.0 j)) ∷ inner) (suc i) m gb (sees_one (with_names xs ts G) inner k i t (Scalar_datum (scalar.Int r.0 j)) le sees (turn_number t r j w)) ts hb)) (counts r.1 0) ds (every_one (counts r.1 0)) q))
    act_safe (Over xs us x rows b) G env n m (k, up, le, gb) s ts (hu, l, t, m', hr, hb) =
        safe_then (All_of ts) (All_of ts) _ _ (safe_exact (All_of ts) 0 (values_of env us) (values_safe G env n s us ts hu)) (λ ds q.
        safe_then (λ rs. Every (Of t) rs.1) (All_of ts) _ _
        (safe_exact (λ rs. Every (Of t) rs.1) 0 _ (with_value N T tight budget G env n s (λ rs. Every (Of t) rs.1) rows (array_ty t) rows_of hr (λ d w. has_as (Rows_fit N are T (plain tight) budget false [] K t) (λ rs. Every (Of t) rs.1) (rows_of d) (λ rs z. row_data N are T (plain tight) budget false [] K t rs.0 rs.1 z) (rows_fit N are T (plain tight) budget false [] K t d w)))) (λ rs w.
        safe_turns (Of t) (All_of ts) (λ d ws. under xs ws env (λ e. body_means tight budget b ((x, d) ∷ e))) (λ d vs y z. under_names N T tight budget G env n s (All_of ts) ts xs n k vs (λ e. body_means tight budget b ((x, d) ∷ e)) (let v : n ≤ n = omega arith in v) up l z
        (λ inner sees. body_safe b (with_name x t (with_names xs ts G)) ((x, d) ∷ inner) (suc x) m gb (sees_one (with_names xs ts G) inner k x t d le sees y) ts hb)) rs.1 ds w q))
    act_safe (While at xs us c b) G env n m (k, up, l', gc, gb) s ts (hu, l, m', hc, hb) =
        safe_then (All_of ts) (All_of ts) _ _ (safe_exact (All_of ts) 0 (values_of env us) (values_safe G env n s us ts hu)) (λ ds q.
        safe_while (All_of ts) budget (report fail.Turns at) (λ vs. under xs vs env (λ e. Then (body_means tight budget c e) (λ ws. the (holds ws)))) (λ vs. under xs vs env (body_means tight budget b))
        (λ vs z. under_names N T tight budget G env n s Any_truth ts xs n k vs (λ e. Then (body_means tight budget c e) (λ ws. the (holds ws))) (let y : n ≤ n = omega arith in y) up l z (λ inner sees.
        safe_then (All_of (more bool_ty none)) Any_truth _ _ (body_safe c (with_names xs ts G) inner k l' gc sees (more bool_ty none) hc) (λ ws w. safe_exact Any_truth 0 (holds ws) (test_holds ws w))))
        (λ vs z. under_names N T tight budget G env n s (All_of ts) ts xs n k vs (body_means tight budget b) (let y : n ≤ n = omega arith in y) up l z (λ inner sees. body_safe b (with_names xs ts G) inner l' m gb (sees_more (with_names xs ts G) inner k l' (body_le c k l' gc) sees) ts hb))
        ds q)

    body_safe : (b : Body) (G : Types) (env : Environment Component) (n m : ℕ) → Body_numbered n b m → Sees_at G env n → (ts : Tys) → Body_typed N K any_types b G ts → Safe (All_of ts) (body_means tight budget b env)
    body_safe (Give us) G env n m u s ts h = safe_exact (All_of ts) 0 (values_of env us) (values_safe G env n s us ts h)
    body_safe (Let xs a b) G env n m (k, ga, l, up, gb) s ts ((ss, ha, long), hb) =
        safe_then (λ inner. Sees_at (with_each xs (Names_typed N K any_types a G) G) inner l) (All_of ts) _ _
        (safe_then (λ ds. (us : Tys) → Names_typed N K any_types a G us → All_of us ds) (λ inner. Sees_at (with_each xs (Names_typed N K any_types a G) G) inner l) _ _
        (all_types (Names_typed N K any_types a G) (act_means tight budget a env) ss ha (λ us h. act_safe a G env n k ga s us h.1))
        (λ ds all. named_each N T tight budget G env n s (Names_typed N K any_types a G) xs k l ss ds (act_le a n k ga) up long ha all))
        (λ inner sees. body_safe b (with_each xs (Names_typed N K any_types a G) G) inner l m gb sees ts hb)

pub programs_never_stuck : ProgramsNeverStuck
unfolding Program_means
programs_never_stuck N are K T tight budget p ts us rising long typed ds h =
    under_names N T tight budget of_constants [] 0 (sees_nothing N T tight budget) (Are_of N T tight budget us) ts p.params.now 0 rising.first ds (body_means tight budget (body_of p.body)) (let z : 0 ≤ 0 = omega arith in z) rising.parameters long h
    (λ inner sees. body_safe N are T K tight budget (body_of p.body) (with_names p.params.now ts of_constants) inner rising.first p.names rising.numbered sees us typed)
