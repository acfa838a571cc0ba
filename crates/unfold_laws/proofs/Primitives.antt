-- A primitive on arrays is known by its type, whatever it does: its data may be one component each, its function is applied to
-- new names for data, and its result is one component. So it is said of types as the table of primitives writes them.
use Rattle.std.proofs.Common.{◌≡◌, Bool, true, false, ◌&&◌, ℕ, zero, suc, ◌+◌, ◌≤◌, ◌++◌, refl, sym, ap, ◌∙◌, subst, arith, List, [], ◌∷◌, map, length, nat_lt, Some, le-ltb, lt-ltb}
use mathlib.Core.Logic.{inl}
use Rattle.std.proofs.lemmas.List.{append_assoc, length-append}
use Rattle.fut_meaning.specs.Found.{Told}
use Rattle.fut_scalar.specs.declared.place.Place.{Place}
use Rattle.fut_scalar.specs.declared.scalar.ScalarType.{ScalarType}
use Rattle.fut_flat.specs.declared.prim.Folding.TheVariants as folding
use Rattle.fut_flat.specs.declared.prim.Primitive.{Primitive}
use Rattle.fut_flat.specs.declared.prim.Primitive.TheVariants as prim
use Rattle.fut_primitives.specs.Written.{Written, Variable, Scalar, Own, From, Array, Unique, Pair, Triple, Named, Function, number, arguments, parameters}
use Rattle.fut_primitives.specs.Table.{written, own_of, from_of}
use Rattle.fut_types.specs.declared.Kind.TheVariants as kind
use Rattle.fut_types.specs.declared.Head.TheVariants as head
use Rattle.fut_types.specs.Types.{Ty, Made, Tys, none, more, Sub, Kinds, HasKind, fun_ty, applied, all_applied}
use Rattle.fut_typing.specs.Names.{Names, AreNames, count}
use Rattle.fut_typing.specs.Patterns.{arrows}
use Rattle.fut_typing.specs.Primitives.{plain_type, prim_type}
use Rattle.fut_meaning.specs.Datums.{takes}
use Rattle.fut_meaning.specs.Knowns.{with_some}
use Rattle.fut_meaning.specs.Operations.{parameters_of, arity, is_of_scalars}
use Rattle.fut_blocks.specs.declared.block.Atom.{Atom}
use Rattle.fut_blocks.specs.declared.block.Atom.TheVariants as atom
use Rattle.fut_blocks.specs.Plain.{lets}
use Rattle.fut_blocks.specs.Plain as act
use Rattle.fut_blocks.specs.Rows.{Row}
use Rattle.unfold.specs.Knowns.{Known, Tuple_known, Scalar_known, Primitive_known, Knowns, no_known, listed, knowns}
use Rattle.unfold.specs.Stuck.{No_data, Stuck_run, no_function, no_primitive, no_arguments, stuck_job, job_function, Stuck_runs, stuck_run, stuck_on}
use Rattle.unfold.specs.Unfolding.{Bindings, step, names, named, Packs, p_none, p_more, data_known, function_known, Applies, a_primitive_waits, a_primitive, a_job, Applies_all, a_none, a_more}
use Rattle.unfold_laws.specs.Fits.{Given, Context, behind, World, types_of, Learns, Comes, Runs_well, Is_data, All_data, Fits, All_fit}
use Rattle.unfold.specs.Telling.{function_row}
use Rattle.unfold_laws.specs.Entered.{All_in_knowns}
use Rattle.unfold_laws.specs.Standing.{All_in_row}
use Rattle.unfold_laws.proofs.Telling.{are_stand, function_row_all}
use Rattle.unfold_laws.specs.Typed.{Are, Stands, data_types, function_type, Act_typed, any_types}
use Rattle.unfold_laws.proofs.Entered.{knowns_as, one_more}
use Rattle.unfold_laws.proofs.Fitting.{some_same, stands_learn, fits_stand, fits_learn, kind_data, fits_data, data_fits}
use Rattle.unfold_laws.proofs.Operating.{step_gives}
use Rattle.unfold_laws.proofs.Packed.{packs_come, packs_all_come}
use Rattle.unfold_laws.proofs.Shaping.{shaped, All_packing, shaped_packing}
use Rattle.unfold_laws.proofs.Recording.{Each_fits, each_learn}
use Rattle.unfold_laws.proofs.Functions.{fits_function, function_fits}
use Rattle.unfold_laws.proofs.TypedSteps.{are_kept, learns_more, learns_given, learns_steps, comes_none, comes_then, block_typed, stand_are, names_length}

-- ---- types as the table writes them

-- a type of data
abbrev is_simple : Written → Bool
is_simple (Array n t) = is_simple t
is_simple (Unique t) = is_simple t
is_simple (Pair t u) = is_simple t && is_simple u
is_simple (Triple t u v) = is_simple t && (is_simple u && is_simple v)
is_simple (Named n t) = is_simple t
is_simple (Function t u) = false
is_simple w = true

-- or of a function from data to data
abbrev is_curried : Written → Bool
is_curried (Function t u) = is_simple t && is_curried u
is_curried w = is_simple w

-- a primitive takes such arguments, and gives data
abbrev pub is_applied : Written → Bool
is_applied (Function t u) = is_curried t && is_applied u
is_applied w = is_simple w

pub all_applied_so : (p : Primitive) → is_applied (written p) ≡ true
all_applied_so prim.Map = refl
all_applied_so (prim.Fold folding.Sum i) = refl
all_applied_so (prim.Fold folding.Product i) = refl
all_applied_so (prim.Fold folding.Minimum i) = refl
all_applied_so (prim.Fold folding.Maximum i) = refl
all_applied_so p = refl

both : (a b : Bool) → (a && b) ≡ true → (a ≡ true) × (b ≡ true)
both true b e = (refl, e)
both false b e = absurd (let z : false ≡ true = e in cc)

-- a function that takes so much data and then gives data
abbrev Applicable : Names → ℕ → Ty → Type 0
Applicable N zero t = Is_data N t
Applicable N (suc k) (Made head.Fun (more t (more u none))) = Is_data N t × Applicable N k u
Applicable N (suc k) t = ⊥

abbrev Takes : Names → List ℕ → Tys → Type 0
Takes N [] none = Unit {0}
Takes N [] (more t ts) = ⊥
Takes N (k ∷ ks) none = ⊥
Takes N (k ∷ ks) (more t ts) = Applicable N k t × Takes N ks ts

module _ (N : Names) (K : Kinds) (own from : ScalarType) (given : Sub) (kinds : (n : ℕ) → HasKind K kind.Data (given n)) where
  abbrev ty : Written → Ty
  ty w = applied given (plain_type own from w)

  abbrev param_types : Written → Tys
  param_types (Function t u) = more (ty t) (param_types u)
  param_types w = none

  abbrev result_type : Written → Ty
  result_type (Function t u) = result_type u
  result_type w = ty w

  simple_data : (w : Written) → is_simple w ≡ true → Is_data N (ty w)
  unfolding applied all_applied Is_data All_data
  simple_data (Variable x) e = kind_data N K (given (number x)) (kinds (number x))
  simple_data (Scalar s) e = tt
  simple_data Own e = tt
  simple_data From e = tt
  simple_data (Array n t) e = (simple_data t e, tt)
  simple_data (Unique t) e = simple_data t e
  simple_data (Pair t u) e = let b = both (is_simple t) (is_simple u) e in (simple_data t b.0, (simple_data u b.1, tt))
  simple_data (Triple t u v) e =
      let b = both (is_simple t) (is_simple u && is_simple v) e in
      let c = both (is_simple u) (is_simple v) b.1 in (simple_data t b.0, (simple_data u c.0, (simple_data v c.1, tt)))
  simple_data (Named n t) e = simple_data t e
  simple_data (Function t u) e = absurd (let z : false ≡ true = e in cc)

  applicable : (w : Written) → is_curried w ≡ true → Applicable N (arguments w) (ty w)
  unfolding applied all_applied
  applicable (Function t u) e = let b = both (is_simple t) (is_curried u) e in (simple_data t b.0, applicable u b.1)
  applicable w e = simple_data w e

  arrows_of : (w : Written) → ty w ≡ arrows (param_types w) (result_type w)
  unfolding applied all_applied
  arrows_of (Function t u) = ap (fun_ty (ty t)) (arrows_of u)
  arrows_of w = refl

  takes_of : (w : Written) → is_applied w ≡ true → Takes N (parameters w) (param_types w)
  takes_of (Function t u) e = let b = both (is_curried t) (is_applied u) e in (applicable t b.0, takes_of u b.1)
  takes_of w e = tt

  result_data : (w : Written) → is_applied w ≡ true → Is_data N (result_type w)
  result_data (Function t u) e = result_data u (both (is_curried t) (is_applied u) e).1
  result_data w e = simple_data w e

  params_count : (w : Written) → count (param_types w) ≡ length (parameters w)
  params_count (Function t u) = let r = params_count u in omega (arith, r)
  params_count w = refl

listed_knowns : (ss : List Known) → listed (knowns ss) ≡ ss
listed_knowns [] = refl
listed_knowns (s ∷ ss) = ap (λ z. s ∷ z) (listed_knowns ss)

-- the arguments and the result of a function
abbrev arguments_of : ℕ → Ty → Tys
arguments_of zero t = none
arguments_of (suc k) (Made head.Fun (more t (more u none))) = more t (arguments_of k u)
arguments_of (suc k) t = none

abbrev result_of : ℕ → Ty → Ty
result_of zero t = t
result_of (suc k) (Made head.Fun (more t (more u none))) = result_of k u
result_of (suc k) t = t

module _ (N : Names) where
  function_is : (k : ℕ) (t : Ty) → Applicable N k t → (t ≡ arrows (arguments_of k t) (result_of k t)) × (count (arguments_of k t) ≡ k) × Is_data N (result_of k t)
  function_is zero t d = (refl, refl, d)
  function_is (suc k) (Made head.Fun (more t (more u none))) d = let r = function_is k u d.1 in let c : count (arguments_of k u) ≡ k = r.1 in (ap (fun_ty t) r.0, omega (arith, c), r.2)
  function_is (suc k) t d = absurd d

module _ (N : Names) (are : AreNames N) (T : Told) (K : Kinds) where
  abbrev At : World → Ty → Known → Type 0
  At world t s = Fits N T K t world s

  abbrev Each : World → Tys → List Known → Type 0
  Each world ts ss = Each_fits N T K world ts ss

  -- ---- arguments
  data_args : (world : World) (ks : List ℕ) (ts : Tys) (ss : List Known) → Takes N ks ts → Each world ts ss → (us : List Known) × (data_known ks ss ≡ Some us) × All_packing us × Each world (data_types ks ts) us
  data_args world [] none [] d h = ([], refl, (λ n. ([], [], n, p_none)), tt)
  data_args world [] none (s ∷ ss) d h = absurd h
  data_args world [] (more t ts) ss d h = absurd d
  data_args world (k ∷ ks) none ss d h = absurd d
  data_args world (k ∷ ks) (more t ts) [] d h = absurd h
  data_args world (zero ∷ ks) (more t ts) (s ∷ ss) d h =
      let r = data_args world ks ts ss d.1 h.1 in (
        s ∷ r.0,
        ap (λ o. with_some o (λ us. Some (s ∷ us))) r.1,
        (λ n. let p = shaped_packing s (shaped N T K world t s d.0 h.0) n in let q = r.2 p.2 in (_, _, _, p_more p.3 q.3)),
        (h.0, r.3),
      )
  data_args world (suc k ∷ ks) (more t ts) (s ∷ ss) d h = data_args world ks ts ss d.1 h.1

  -- the function; where there is none, it is taken to be a tuple without parts
  function_arg : (world : World) (ks : List ℕ) (ts : Tys) (ss : List Known) → Takes N ks ts → Each world ts ss → Applicable N (takes ks) (function_type ks ts) × At world (function_type ks ts) (function_known ks ss (Tuple_known no_known))
  unfolding Fits All_fit Is_data All_data
  function_arg world [] none ss d h = (tt, (omega arith, tt))
  function_arg world [] (more t ts) ss d h = absurd d
  function_arg world (k ∷ ks) none ss d h = absurd d
  function_arg world (k ∷ ks) (more t ts) [] d h = absurd h
  function_arg world (zero ∷ ks) (more t ts) (s ∷ ss) d h = function_arg world ks ts ss d.1 h.1
  function_arg world (suc k ∷ ks) (more t ts) (s ∷ ss) d h = (d.0, h.0)

  -- it is applied to names for data, and gives data
  abbrev Applied_well : World → Ty → Known → List ℕ → Type 0
  Applied_well world u f xs = (Stuck_runs T world.0 (map named xs) f → ⊥) × ((n n' : ℕ) (bs : Bindings) (r : Known) → Applies_all T world.0 (map named xs) f n bs r n' → Comes N K world bs (λ there. At there u r))

  none_applied : (world : World) (t : Ty) (f : Known) → At world t f → Applied_well world t f []
  none_applied world t f h = ((λ w. elim w [ ]), (λ n n' bs r x. known n n' bs r x))
    where
      known : (n n' : ℕ) (bs : Bindings) (r : Known) → Applies_all T world.0 [] f n bs r n' → Comes N K world bs (λ there. At there t r)
      known _ _ _ _ a_none = comes_none N K world (λ there. At there t f) h

  more_applied : (world : World) (u v : Ty) (f : Known) (x : ℕ) (xs : List ℕ) → Runs_well N K T world f (named x) (Fits N T K u) → ((C : Context) → Learns N K world (world.0, C) → (g : Known) → At (world.0, C) u g → Applied_well (world.0, C) v g xs) → Applied_well world v f (x ∷ xs)
  more_applied world u v f x xs well rec = ((λ w. stuck w), (λ n n' bs r y. known n n' bs r y))
    where
      stuck : Stuck_runs T world.0 (named x ∷ map named xs) f → ⊥
      stuck (stuck_run w) = well.0 w
      stuck (stuck_on {g = g} {bs = bs} y w) = (rec (behind world.1 bs) (learns_steps N K bs world) g (well.1 _ _ bs g y).1).0 w

      known : (n n' : ℕ) (bs : Bindings) (r : Known) → Applies_all T world.0 (named x ∷ map named xs) f n bs r n' → Comes N K world bs (λ there. At there v r)
      known _ _ _ r (a_more {g = g} {bs = bs} {cs = cs} y z) = comes_then N K world bs cs (λ there. At there u g) (λ there. At there v r) (well.1 _ _ bs g y) (λ C l q. (rec C l g q).1 _ _ cs r z)

  applied_well : (k : ℕ) (t : Ty) (f : Known) (xs : List ℕ) (world : World) → Applicable N k t → At world t f → Are (types_of N K world.1) (names xs) (arguments_of k t) → Applied_well world (result_of k t) f xs
  applied_well zero t f [] world d h a = none_applied world t f h
  applied_well zero t f (x ∷ xs) world d h a = absurd a
  applied_well (suc k) (Made head.Fun (more t (more u none))) f [] world d h a = absurd a
  applied_well (suc k) (Made head.Fun (more t (more u none))) f (x ∷ xs) world d h a =
      more_applied world u (result_of k u) f x xs (function_fits N T K t u world f h (named x) (data_fits N T K t world (atom.Name x) d.0 a.0))
      (λ C l g q. applied_well k u g xs (world.0, C) d.1 q (are_kept (types_of N K world.1) (types_of N K C) l.1 (names xs) (arguments_of k u) a.1))
  applied_well (suc k) t f xs world d h a = absurd d

  no_data : (world : World) (t : Ty) (s : Known) → Is_data N t → At world t s → No_data s → ⊥
  no_data world t s d h lacks = let r = shaped N T K world t s d h in let l = r.1 [] in lacks r.0 l.0 l.1

  -- ---- a primitive with all its arguments, and with fewer
  module _ (p : Primitive) (at : Place) (of : is_of_scalars p ≡ false) (given : Sub) (kinds : (n : ℕ) → HasKind K kind.Data (given n)) where
    abbrev the_function : Knowns → Known → Known
    the_function ss s = function_known (parameters_of p) (listed ss ++ s ∷ []) (Tuple_known no_known)

    -- all that the table tells of this use of the primitive
    record Used (ts : Tys) (u : Ty) : Type 0 where
      some : 1 ≤ arity p
      is : applied given (prim_type p) ≡ arrows ts u
      all : count ts ≡ arity p
      takes_so : Takes N (parameters_of p) ts
      result : Is_data N u

    module _ (ss : Knowns) (s : Known) (ts : Tys) (u : Ty) (used : Used ts u) where
      abbrev ft : Ty
      ft = function_type (parameters_of p) ts

      abbrev fs : Tys
      fs = arguments_of (takes (parameters_of p)) (function_type (parameters_of p) ts)

      abbrev rt : Ty
      rt = result_of (takes (parameters_of p)) (function_type (parameters_of p) ts)

      -- the function, on names for its arguments
      on_names : (world : World) → Each world ts (listed ss ++ s ∷ []) → (xs : List ℕ) → length xs ≡ takes (parameters_of p) → Applied_well (world.0, Given (names xs) fs ∷ world.1) rt (the_function ss s) xs
      on_names world h xs l =
          let g = function_arg world (parameters_of p) ts (listed ss ++ s ∷ []) used.takes_so h in
          let q = function_is N (takes (parameters_of p)) ft g.0 in
          applied_well (takes (parameters_of p)) ft (the_function ss s) xs (world.0, Given (names xs) fs ∷ world.1) g.0
          (fits_learn N T K ft world (world.0, Given (names xs) fs ∷ world.1) (learns_given N K (names xs) fs world) (the_function ss s) g.1)
          (stand_are (types_of N K (Given (names xs) fs ∷ world.1)) (names xs) fs (λ w v i. inl i) (names_length xs ∙ l ∙ sym q.1))

      -- the function's results tell of rows that are missing
      abbrev told_row : List Atom → Row
      told_row ws = function_row T.sizes p (the_function ss s) ws

      told_stands : (world : World) → Each world ts (listed ss ++ s ∷ []) → (ws : List Atom) → Are (types_of N K world.1) ws (data_types (parameters_of p) ts) → All_in_row (Stands (types_of N K world.1)) (told_row ws)
      told_stands world h ws a =
          let g = function_arg world (parameters_of p) ts (listed ss ++ s ∷ []) used.takes_so h in
          function_row_all (Stands (types_of N K world.1)) T.sizes p (the_function ss s) ws (fits_stand N T K world ft (the_function ss s) g.1) (are_stand (types_of N K world.1) ws (data_types (parameters_of p) ts) a)

      job_typed : (world : World) → Each world ts (listed ss ++ s ∷ []) → (xs : List ℕ) (ws : List Atom) (cs ds : Bindings) (r : Known) (w : Atom) (n n' m m' : ℕ) → length xs ≡ takes (parameters_of p) → Are (types_of N K world.1) ws (data_types (parameters_of p) ts)
          → Applies_all T world.0 (map named xs) (the_function ss s) n cs r n' → Packs r m ds w m' → Act_typed N K any_types (act.Job (told_row ws) p at ws xs (lets (cs ++ ds) (w ∷ []))) (types_of N K world.1) (more u none)
      unfolding Act_typed
      job_typed world h xs ws cs ds r w n n' m m' l a x k =
          let g = function_arg world (parameters_of p) ts (listed ss ++ s ∷ []) used.takes_so h in
          let q = function_is N (takes (parameters_of p)) ft g.0 in
          let C : Context = Given (names xs) fs ∷ world.1 in
          let c = comes_then N K (world.0, C) cs ds (λ there. At there rt r) (λ there. At there rt (Scalar_known w)) ((on_names world h xs l).1 n n' cs r x) (λ D g' f. packs_come N are T K r m ds w m' k (world.0, D) rt f) in (
            data_types (parameters_of p) ts,
            fs,
            rt,
            u,
            told_stands world h ws a,
            a,
            record { on_arrays = of; some = used.some; given = given; kinds = kinds; parameters = ts; is = used.is; all = used.all; taken = refl; function = q.0; of_function = q.1 },
            tt,
            block_typed N K (cs ++ ds) (w ∷ []) C (more rt none) c.0 ((fits_data N T K rt (world.0, behind C (cs ++ ds)) w c.1).1, tt),
            l ∙ sym q.1,
            refl,
          )

      full_job : (world : World) → nat_lt (length (listed ss ++ s ∷ [])) (arity p) ≡ false → Each world ts (listed ss ++ s ∷ []) → Runs_well N K T world (Primitive_known p at ss) s (Fits N T K u)
      full_job world full h = ((λ w. stuck w), (λ n n' bs r x. known n n' bs r x))
        where
          stuck : Stuck_run T world.0 (Primitive_known p at ss) s → ⊥
          stuck (no_function f) = let z : true ≡ false = f in cc
          stuck (no_primitive f i lacks) = let z : true ≡ false = sym i ∙ of in cc
          stuck (no_arguments f i lacks) = let a = data_args world (parameters_of p) ts (listed ss ++ s ∷ []) used.takes_so h in let q = a.2 0 in lacks a.0 0 q.2 q.0 q.1 a.1 q.3
          stuck (stuck_job xs f i l w) = (on_names world h xs l).0 w
          stuck (job_function {r = r} {bs = bs} xs f i l x lacks) =
              let k = (on_names world h xs l).1 _ _ bs r x in
              let g = function_arg world (parameters_of p) ts (listed ss ++ s ∷ []) used.takes_so h in
              no_data (world.0, behind (Given (names xs) fs ∷ world.1) bs) rt r (function_is N (takes (parameters_of p)) ft g.0).2 k.1 lacks

          known : (n n' : ℕ) (bs : Bindings) (r : Known) → Applies T world.0 (Primitive_known p at ss) s n bs r n' → Comes N K world bs (λ there. At there u r)
          known _ _ _ _ (a_primitive_waits f) = absurd (let z : true ≡ false = sym f ∙ full in cc)
          known _ _ _ _ (a_primitive f i o) = absurd (let z : true ≡ false = sym i ∙ of in cc)
          known n _ _ _ (a_job {r = r} {us = us} {n1 = n1} {n2 = n2} {n3 = n3} {n4 = n4} {x = x} {bs = bs} {cs = cs} {ds = ds} {ws = ws} {w = w} xs f i e pk up l applies k le) =
              let a = data_args world (parameters_of p) ts (listed ss ++ s ∷ []) used.takes_so h in
              let same : a.0 ≡ us = some_same (sym a.1 ∙ e) in
              comes_then N K world bs (step (x ∷ []) (act.Job (told_row ws) p at ws xs (lets (cs ++ ds) (w ∷ [])))) (λ there. Are (types_of N K there.1) ws (data_types (parameters_of p) ts)) (λ there. At there u (named x))
              (packs_all_come N are T K us n bs ws n1 pk world (data_types (parameters_of p) ts) (subst (Each world (data_types (parameters_of p) ts)) same a.3))
              (λ C g b. step_gives N T K (world.0, C) u used.result x (act.Job (told_row ws) p at ws xs (lets (cs ++ ds) (w ∷ [])))
              (job_typed (world.0, C) (each_learn N T K world (world.0, C) g ts (listed ss ++ s ∷ []) h) xs ws cs ds r w n2 n3 n3 n4 l b applies k))

    waiting : (world : World) (ss : Knowns) (s : Known) (u : Ty) → nat_lt (length (listed ss ++ s ∷ [])) (arity p) ≡ true → At world u (Primitive_known p at (knowns (listed ss ++ s ∷ []))) → Runs_well N K T world (Primitive_known p at ss) s (Fits N T K u)
    waiting world ss s u few h = ((λ w. stuck w), (λ n n' bs r x. known n n' bs r x))
      where
        stuck : Stuck_run T world.0 (Primitive_known p at ss) s → ⊥
        stuck (no_function f) = let z : true ≡ false = f in cc
        stuck (no_primitive f i lacks) = let z : true ≡ false = sym few ∙ f in cc
        stuck (no_arguments f i lacks) = let z : true ≡ false = sym few ∙ f in cc
        stuck (stuck_job xs f i l w) = let z : true ≡ false = sym few ∙ f in cc
        stuck (job_function xs f i l x lacks) = let z : true ≡ false = sym few ∙ f in cc

        known : (n n' : ℕ) (bs : Bindings) (r : Known) → Applies T world.0 (Primitive_known p at ss) s n bs r n' → Comes N K world bs (λ there. At there u r)
        known _ _ _ r (a_primitive_waits f) = comes_none N K world (λ there. At there u (Primitive_known p at (knowns (listed ss ++ s ∷ [])))) h
        known _ _ _ _ (a_primitive f i o) = absurd (let z : true ≡ false = sym few ∙ f in cc)
        known _ _ _ _ (a_job xs f i e r up l a k le) = absurd (let z : true ≡ false = sym few ∙ f in cc)

    -- what follows of its arguments stands behind those that it has
    waits : (t : Ty) (ts : Tys) (u : Ty) (all : Tys) (ss : Knowns) (world : World) → All_in_knowns (Stands (types_of N K world.1)) ss → length (listed ss) + (1 + count ts) ≡ arity p → Used all u → ((world' : World) → Learns N K world world' → (rs : List Known) → Each world' (more t ts) rs → Each world' all (listed ss ++ rs)) → At world (arrows (more t ts) u) (Primitive_known p at ss)
    waits t none u all ss world stand a used full = fits_function N T K t u world (Primitive_known p at ss) refl stand (λ world' g s h.
        let b : length (listed ss ++ s ∷ []) ≡ length (listed ss) + 1 = length-append (listed ss) (s ∷ []) in
        full_job ss s all u used world' (le-ltb (length (listed ss ++ s ∷ [])) (arity p) (omega (arith, a, b))) (full world' g (s ∷ []) (h, tt)))
    waits t (more x ts) u all ss world stand a used full = fits_function N T K t (arrows (more x ts) u) world (Primitive_known p at ss) refl stand (λ world' g s h.
        let b : length (listed ss ++ s ∷ []) ≡ length (listed ss) + 1 = length-append (listed ss) (s ∷ []) in
        let few : nat_lt (length (listed ss ++ s ∷ [])) (arity p) ≡ true = lt-ltb (length (listed ss ++ s ∷ [])) (arity p) (omega (arith, a, b)) in
        let same : listed (knowns (listed ss ++ s ∷ [])) ≡ listed ss ++ s ∷ [] = listed_knowns (listed ss ++ s ∷ []) in
        let long : length (listed (knowns (listed ss ++ s ∷ []))) ≡ length (listed ss ++ s ∷ []) = ap length same in
        waiting world' ss s (arrows (more x ts) u) few
        (waits x ts u all (knowns (listed ss ++ s ∷ [])) world' (one_more _ ss s (knowns_as _ _ (stands_learn N T K world world' g) ss stand) (fits_stand N T K world' t s h)) (omega (arith, a, b, long)) used (λ world'' g' rs e.
        subst (Each world'' all) (sym (ap (λ z. z ++ rs) same ∙ append_assoc (listed ss) (s ∷ []) rs))
        (full world'' (learns_more N K world world' world'' g g') (s ∷ rs) (fits_learn N T K t world' world'' g' s h, e)))))

  pub arrays_fit : (p : Primitive) (at : Place) (given : Sub) → ((n : ℕ) → HasKind K kind.Data (given n)) → (world : World) (t u : Written) → written p ≡ Function t u → is_of_scalars p ≡ false → is_applied (written p) ≡ true → At world (applied given (prim_type p)) (Primitive_known p at no_known)
  arrays_fit p at given kinds world t u e of like =
      let own : ScalarType = own_of p in
      let from : ScalarType = from_of p in
      let takes_so : is_applied (Function t u) ≡ true = subst (λ z. is_applied z ≡ true) e like in
      let long : arity p ≡ length (parameters (Function t u)) = ap (λ z. length (parameters z)) e in
      let parts : count (param_types N K own from given kinds u) ≡ length (parameters u) = params_count N K own from given kinds u in
      let is : applied given (prim_type p) ≡ arrows (param_types N K own from given kinds (Function t u)) (result_type N K own from given kinds (Function t u)) = ap (ty N K own from given kinds) e ∙ arrows_of N K own from given kinds (Function t u) in
      subst (λ z. At world z (Primitive_known p at no_known)) (sym is)
      (waits p at of given kinds (ty N K own from given kinds t) (param_types N K own from given kinds u) (result_type N K own from given kinds u) (param_types N K own from given kinds (Function t u)) no_known world tt (omega (arith, long, parts))
      (record {
        some = omega (arith, long);
        is = is;
        all = omega (arith, long, parts);
        takes_so = subst (λ z. Takes N (parameters z) (param_types N K own from given kinds (Function t u))) (sym e) (takes_of N K own from given kinds (Function t u) takes_so);
        result = result_data N K own from given kinds (Function t u) takes_so;
      })
      (λ world' g rs h. h))
