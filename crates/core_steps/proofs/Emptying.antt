-- Arrays of no rows.
use Rattle.std.proofs.Common.{◌≡◌, ℕ, zero, suc, ◌+◌, ◌-◌, ◌*◌, ◌<◌, ◌≤◌, ◌^◌, min, max, List, [], ◌∷◌, ◌++◌, map, length, take, drop, get_or, slice_get, Some, Bor, Result, Ok, Err, false, nat_le, refl, sym, ap, ◌∙◌, subst, arith, add-one, append_assoc}
use Rattle.std.specs.Prelude.{ℤ}
use Rattle.std.proofs.Math.ListN.{get_or-map}
use Rattle.std.proofs.Math.Seq.{drop-cons}
use Rattle.std.proofs.lemmas.List.{append-nil, length-append, length-map, take_all}
use Rattle.fut_scalar.specs.Integers.{integer_of}
use Rattle.fut_scalar.specs.declared.place.Place.{Place}
use Rattle.fut_scalar.specs.declared.report.FailKind.TheVariants as kind
use Rattle.fut_scalar.specs.declared.scalar.IntType.{IntType}
use Rattle.fut_scalar.specs.declared.scalar.Scalar.TheVariants as scalar
use Rattle.fut_scalar.specs.declared.scalar.ScalarType.{ScalarType}
use Rattle.fut_scalar.specs.declared.scalar.ScalarType.TheVariants as sort
use Rattle.fut_value.specs.Leaves.{extent, extents, peak, peaks}
use Rattle.fut_meaning.specs.Accessors.{count_of, turns_of_scalar}
use Rattle.fut_meaning.specs.Arrays.{each_out, checked, most_words}
use Rattle.fut_meaning.specs.Outcomes.{Out, Val, Fail, Wrong, and_then}
use Rattle.fut_meaning.specs.Sames.{All_same, all_none, all_more}
use Rattle.core_arrays.specs.Arenas.{Array, Arena, array, with_array}
use Rattle.core_ir.specs.declared.block.Atom.{Atom}
use Rattle.core_ir.specs.Arrays.{scalar_in, exact_in, told_sizes, all_told}
use Rattle.core_ir.specs.Bundles.{Component, One, Many, Row, all_sizes, columns, bundle, weight_of, within_weight, stacked, glued}
use Rattle.core_ir.specs.Meaning.{Env, value_of, values_of, groups_of, scalar_at, collected}
use Rattle.core_ir.specs.Plain.{group}
use Rattle.core_ir.specs.Typed.{Sort, Sorts, lifted, Integer, integer, Integers, integer_and, Told, Bundled, bare, Atom_is, Atoms_are, Groups_are}
use Rattle.core_code.specs.Registers.{State, elem_of, ShowsArray, AllShow, none_shown, shown_and, Stands}
use Rattle.core_code.specs.Answers.{Answer, TurnsTold, turns_told, no_turns, Turns_read, Pushed, pushed}
use Rattle.core_code.specs.Answers as answer
use Rattle.core_code.specs.declared.stop.Stop.{Stop}
use Rattle.core_code.specs.declared.stop.Stop.TheVariants.{Memory}
use Rattle.core_code.proofs.Frames.{all_show_on, stands_on}
use Rattle.core_code.proofs.Reading.{elem_is, show_append}
use Rattle.core_steps.specs.Empties.{size_told, told_of, SizeTold, told_size, no_size, Size_read, SizesPut, sizes_put, no_sizes_put, Sizes_put, EmptyPushed, empty_pushed, no_empty, Empty_pushed, None_told}
use Rattle.core_steps.specs.Gluing.{Made, GluedTold, glued_told, no_glue, Bare_told}
use Rattle.core_steps.proofs.Gathering.{take_get, lifted_append}
use Rattle.core_steps.proofs.Glueing.{test_yes, bare_weight, columns_sizes, bundled_lifted}
use Rattle.core_steps.proofs.Operands.{get_behind, get_front, drop_past, none_before, one_behind, same_many}
use Rattle.core_steps.proofs.Sizing.{shown_many}

-- ---- one size

module _ (t : List ℕ) (u : Atom) where
  pub size_ok : (ty : IntType) (r : Result ℕ Stop) → elem_of u ≡ sort.Int ty → Turns_read t ty u r → Size_read t u r
  unfolding Turns_read Size_read
  size_ok ty r e h G env n rs s st i a = by_integer s i a
    where
      by_component : (c : Component) (k : ℕ) → and_then (scalar_in c) turns_of_scalar ≡ Val (ty, k) → and_then (exact_in c) (λ z. Val (count_of z)) ≡ Val k
      by_component (One (scalar.Int u m)) k q = let z : (u, count_of (integer_of u m)) ≡ (ty, k) = cc in ap (λ (p : IntType × ℕ). Val p.1) z
      by_component (One (scalar.Bool b)) k q = cc
      by_component (Many ds ws) k q = cc

      by_value : (o : Out Component) (k : ℕ) → and_then (and_then o scalar_in) turns_of_scalar ≡ Val (ty, k) → and_then o (λ c. and_then (exact_in c) (λ z. Val (count_of z))) ≡ Val k
      by_value (Val c) k q = by_component c k q
      by_value (Fail f) k q = cc
      by_value Wrong k q = cc

      by_told : {r : Result ℕ Stop} → TurnsTold ty (and_then (scalar_at env u) turns_of_scalar) r → SizeTold (size_told env u) r
      by_told (turns_told {k} q l) = told_size (by_value (value_of env u) k q)
      by_told no_turns = no_size

      by_integer : (s : Sort) → Integer s → Atom_is G u s → SizeTold (size_told env u) r
      by_integer _ (integer {t = t'}) a = by_told (h G env n rs st (subst (λ (z : ScalarType). Atom_is G u (z, 0)) (sym (elem_is G u (sort.Int t', 0) a) ∙ e) a))

  pub size_stop : (e : Stop) → e ≡ Memory → Size_read t u (Err e)
  unfolding Size_read
  size_stop e q G env n rs s st i a = subst (λ z. SizeTold (size_told env u) (Err z)) (sym q) no_size

pub ruleset telling = (size_ok, size_stop)

-- ---- the sizes of one component

told_cons : (env : Env) (u : Atom) (us : List Atom) (w : ℕ) → size_told env u ≡ Val w → told_of env (u ∷ us) ≡ and_then (told_of env us) (λ ds. Val (w ∷ ds))
told_cons env u us w e = by_first (value_of env u) (values_of env us) e
  where
    by_others : (z : ℤ) → count_of z ≡ w → (o : Out (List ℤ)) → and_then (and_then o (λ ys. Val (z ∷ ys))) (λ zs. Val (map count_of zs)) ≡ and_then (and_then o (λ zs. Val (map count_of zs))) (λ ds. Val (w ∷ ds))
    by_others z k (Val ys) = ap (λ x. Val (x ∷ map count_of ys)) k
    by_others z k (Fail r) = refl
    by_others z k Wrong = refl

    by_rest : (c : Component) (z : ℤ) → exact_in c ≡ Val z → count_of z ≡ w → (p : Out Row) → and_then (and_then p (λ cs. Val (c ∷ cs))) told_sizes ≡ and_then (and_then p told_sizes) (λ ds. Val (w ∷ ds))
    by_rest c z q k (Val cs) = ap (λ x. and_then (and_then x (λ y. and_then (each_out exact_in cs) (λ ys. Val (y ∷ ys)))) (λ zs. Val (map count_of zs))) q ∙ by_others z k (each_out exact_in cs)
    by_rest c z q k (Fail r) = refl
    by_rest c z q k Wrong = refl

    by_exact : (c : Component) (o : Out ℤ) → exact_in c ≡ o → and_then o (λ z. Val (count_of z)) ≡ Val w → (p : Out Row) → and_then (and_then p (λ cs. Val (c ∷ cs))) told_sizes ≡ and_then (and_then p told_sizes) (λ ds. Val (w ∷ ds))
    by_exact c (Val z) q e p = by_rest c z q (let y : count_of z ≡ w = cc in y) p
    by_exact c (Fail r) q e p = cc
    by_exact c Wrong q e p = cc

    by_first : (o : Out Component) (p : Out Row) → and_then o (λ c. and_then (exact_in c) (λ z. Val (count_of z))) ≡ Val w → and_then (and_then o (λ c. and_then p (λ cs. Val (c ∷ cs)))) told_sizes ≡ and_then (and_then p told_sizes) (λ ds. Val (w ∷ ds))
    by_first (Val c) p e = by_exact c (exact_in c) refl e p
    by_first (Fail r) p e = cc
    by_first Wrong p e = cc

record Integer_at (G : Sorts) (u : Atom) : Type 0 where
  sort : Sort
  integer : Integer sort
  is : Atom_is G u sort

integer_at : (G : Sorts) (us : List Atom) (ss : List Sort) (j : ℕ) (d : Atom) → j < length us → Atoms_are G us ss → Integers ss → Integer_at G (get_or us j d)
integer_at G _ _ j d l all_none i = absurd (omega (arith, l))
integer_at G _ _ zero d l (all_more {x' = s} x a) (integer_and i is) = record { sort = s; integer = i; is = x }
integer_at G _ _ (suc j) d l (all_more {xs = us} {xs' = ss} x a) (integer_and i is) = integer_at G us ss j d (omega (arith, l)) a is

-- the sizes so far, and those of the rest
pub record Sizes_so (env : Env) (us : List Atom) (j : ℕ) (ds0 ds : List ℕ) : Type 0 where
  pub sizes : List ℕ
  pub behind : ds ≡ ds0 ++ sizes
  pub many : length sizes + length (drop j us) ≡ length us
  pub whole : told_of env us ≡ and_then (told_of env (drop j us)) (λ es. Val (sizes ++ es))

unfoldable pub Sizes_go : List ℕ → List Atom → ℕ → List ℕ → List ℕ → Type 0
Sizes_go t us j ds0 ds = (G : Sorts) (env : Env) (n : ℕ) (rs : List Array) (ss : List Sort) → Stands G env n rs t → Atoms_are G us ss → Integers ss → Sizes_so env us j ds0 ds

module _ (t : List ℕ) (us : List Atom) (ds0 : List ℕ) where
  pub sizes_start : Sizes_go t us 0 ds0 ds0
  unfolding Sizes_go
  sizes_start G env n rs ss st a i = record { sizes = []; behind = sym (append-nil ds0); many = omega arith; whole = none_before (told_of env us) }

  pub sizes_more : (j : ℕ) (d : Atom) (ds ds' : List ℕ) (w : ℕ) → j < length us → Sizes_go t us j ds0 ds → Size_read t (get_or us j d) (Ok w) → ds' ≡ ds ++ w ∷ [] → Sizes_go t us (j + 1) ds0 ds'
  unfolding Sizes_go Size_read
  sizes_more j d ds ds' w l h k p G env n rs ss st a i = subst (λ z. Sizes_so env us z ds0 ds') (sym (add-one j)) (by_size (h G env n rs ss st a i) (k G env n rs x.sort st x.integer x.is))
    where
      x : Integer_at G (get_or us j d)
      x = integer_at G us ss j d l a i

      next : drop j us ≡ get_or us j d ∷ drop (suc j) us
      next = drop-cons us j d l

      by_size : Sizes_so env us j ds0 ds → SizeTold (size_told env (get_or us j d)) (Ok w) → Sizes_so env us (suc j) ds0 ds'
      by_size so (told_size e) = record {
        sizes = so.sizes ++ w ∷ [];
        behind = p ∙ ap (λ z. z ++ w ∷ []) so.behind ∙ append_assoc ds0 so.sizes (w ∷ []);
        many = let y : length (drop j us) ≡ suc (length (drop (suc j) us)) = ap length next in omega (arith, so.many, y, length-append so.sizes (w ∷ []));
        whole = so.whole ∙ ap (λ z. and_then (told_of env z) (λ es. Val (so.sizes ++ es))) next ∙ ap (λ z. and_then z (λ es. Val (so.sizes ++ es))) (told_cons env (get_or us j d) (drop (suc j) us) w e)
            ∙ one_behind (told_of env (drop (suc j) us)) so.sizes w;
      }

  pub sizes_end : (j : ℕ) (ds : List ℕ) → length us ≤ j → Sizes_go t us j ds0 ds → Sizes_put t us ds0 ds (Ok tt)
  unfolding Sizes_go Sizes_put
  sizes_end j ds l h G env n rs ss st a i =
      let so = h G env n rs ss st a i in
      let none : drop j us ≡ [] = drop_past us j l in
      let long : length (drop j us) ≡ 0 = ap length none in
      sizes_put so.sizes (so.whole ∙ ap (λ z. and_then (told_of env z) (λ es. Val (so.sizes ++ es))) none ∙ ap Val (append-nil so.sizes)) (omega (arith, so.many, long, same_many (Atom_is G) us ss a)) so.behind

  pub sizes_stop : (ds : List ℕ) (e : Stop) → e ≡ Memory → Sizes_put t us ds0 ds (Err e)
  unfolding Sizes_put
  sizes_stop ds e q G env n rs ss st a i = subst (λ z. SizesPut (told_of env us) (length ss) ds0 ds (Err z)) (sym q) no_sizes_put

pub ruleset all_sizes_put = (sizes_start, sizes_more, sizes_end, sizes_stop)

-- ---- one array

module _ (us : List Atom) (S S' : State) where
  pub empty_ok : (sizes first : List ℕ) (number : ℕ) (r : Answer) → first ≡ 0 ∷ [] → Sizes_put S.words us first sizes (Ok tt) → number ≡ length S.arena.arrays → S'.arena ≡ with_array S.arena sizes [] → Pushed number S.stack S'.stack r → Empty_pushed us S S' r
  unfolding Sizes_put Empty_pushed
  empty_ok sizes first number r f h n p k G env m ss s st a t = by_sizes (h G env m S.arena.arrays ss st a t.are) k
    where
      made : Array
      made = array sizes []

      shown : (es : List ℕ) → sizes ≡ 0 ∷ es → length es ≡ s.1 → ShowsArray S'.arena.arrays s.0 (suc s.1) (Many (0 ∷ es) []) number
      shown es e q = record {
        array = made;
        there = ap (λ (z : Arena). slice_get z.arrays number) p ∙ ap (slice_get (S.arena.arrays ++ made ∷ [])) n ∙ get_behind S.arena.arrays made;
        is = ap (λ z. Many z []) (sym e);
        deep = ap length e ∙ ap suc q;
        full = sym (ap extent e ∙ (let c : 0 * extent es ≡ 0 = omega arith in c));
      }

      grown : Made S.arena S'.arena 0
      grown = record { arrays = λ i a z. ap (λ (y : Arena). slice_get y.arrays i) p ∙ get_front S.arena.arrays (made ∷ []) i a z; handed = let c : S'.arena.handed ≡ min (S.arena.handed + 0) (2 ^ 64 - 1) = ap (λ (z : Arena). z.handed) p in omega (arith, c) }

      by_push : {r : Answer} (es : List ℕ) → told_of env us ≡ Val es → sizes ≡ 0 ∷ es → length es ≡ s.1 → Pushed number S.stack S'.stack r → EmptyPushed (told_of env us) s S S' r
      by_push es v e q (pushed y) = empty_pushed es number v (shown es e q) y grown
      by_push es v e q answer.not_pushed = no_empty

      by_sizes : {r : Answer} → SizesPut (told_of env us) (length ss) first sizes (Ok tt) → Pushed number S.stack S'.stack r → EmptyPushed (told_of env us) s S S' r
      by_sizes (sizes_put es v q e) k = by_push es v (e ∙ ap (λ z. z ++ es) f) (q ∙ t.many) k

  pub empty_stop : (e : Stop) → e ≡ Memory → Empty_pushed us S S' (Err e)
  unfolding Empty_pushed
  empty_stop e q G env m ss s st a t = subst (λ z. EmptyPushed (told_of env us) s S S' (Err z)) (sym q) no_empty

pub ruleset empties = (empty_stop)

-- ---- all arrays

abbrev all_told_of : Env → List (List Atom) → Out (List (List ℕ))
all_told_of env uss = and_then (groups_of env uss) all_told

groups_cons : (env : Env) (us : List Atom) (uss : List (List Atom)) (d : List ℕ) → told_of env us ≡ Val d → all_told_of env (us ∷ uss) ≡ and_then (all_told_of env uss) (λ ds. Val (d ∷ ds))
groups_cons env us uss d e = by_first (values_of env us) (groups_of env uss) e
  where
    by_first : (o : Out Row) (p : Out (List Row)) → and_then o told_sizes ≡ Val d → and_then (and_then o (λ cs. and_then p (λ css. Val (cs ∷ css)))) all_told ≡ and_then (and_then p all_told) (λ ds. Val (d ∷ ds))
    by_first (Val cs) (Val css) e = ap (λ z. and_then z (λ y. and_then (all_told css) (λ ys. Val (y ∷ ys)))) e
    by_first (Val cs) (Fail r) e = refl
    by_first (Val cs) Wrong e = refl
    by_first (Fail r) p e = cc
    by_first Wrong p e = cc

record Told_at (G : Sorts) (row : List Sort) (j : ℕ) (us : List Atom) : Type 0 where
  sorts : List Sort
  sort : Sort
  are : Atoms_are G us sorts
  told : Told sorts sort
  there : slice_get row j ≡ Some sort

told_at : (G : Sorts) (uss : List (List Atom)) (sss : List (List Sort)) (row : List Sort) (j : ℕ) (d : List Atom) → j < length uss → Groups_are G uss sss → All_same Told sss row → Told_at G row j (get_or uss j d)
told_at G _ _ _ j d l all_none t = absurd (omega (arith, l))
told_at G _ _ _ zero d l (all_more {x' = ss} x g) (all_more {x' = s} y t) = record { sorts = ss; sort = s; are = x; told = y; there = refl }
told_at G _ _ _ (suc j) d l (all_more {xs = uss} {xs' = sss} x g) (all_more {xs' = row} y t) = let k = told_at G uss sss row j d (omega (arith, l)) g t in record { sorts = k.sorts; sort = k.sort; are = k.are; told = k.told; there = k.there }

columns_behind : (ds : List (List ℕ)) (d : List ℕ) → columns 0 (ds ++ d ∷ []) [] ≡ columns 0 ds [] ++ Many (0 ∷ d) [] ∷ []
columns_behind [] d = refl
columns_behind (e ∷ ds) d = ap (λ z. Many (0 ∷ e) [] ∷ z) (columns_behind ds d)

-- no rows weigh nothing
peak_none : (d : List ℕ) → peak 0 d ≡ 0
peak_none [] = refl
peak_none (n ∷ d) = let a : 0 * n ≡ 0 = omega arith in let b = peak_none d in ap (λ z. max z (peak z d)) a ∙ (let c : max 0 (peak 0 d) ≡ 0 = omega (arith, b) in c)

peaks_none : (ds : List (List ℕ)) → peaks 1 (map (λ d. 0 ∷ d) ds) ≡ 0
peaks_none [] = refl
peaks_none (d ∷ ds) =
    let a : 1 * 0 ≡ 0 = omega arith in
    let b = peak_none d in
    let c = peaks_none ds in
    ap (λ z. max (max z (peak z d)) (peaks 1 (map (λ d. 0 ∷ d) ds))) a ∙ (let e : max (max 0 (peak 0 d)) (peaks 1 (map (λ d. 0 ∷ d) ds)) ≡ 0 = omega (arith, b, c) in e)

extents_none : (ds : List (List ℕ)) → extents (map (λ d. 0 ∷ d) ds) ≡ 0
extents_none [] = refl
extents_none (d ∷ ds) = let a : 0 * extent d ≡ 0 = omega arith in let b = extents_none ds in omega (arith, a, b)

none_weight : (ds : List (List ℕ)) → weight_of (all_sizes (bundle 0 ds [])) ≡ 0
none_weight [] = bare_weight 0
none_weight (d ∷ ds) = ap weight_of (columns_sizes 0 (d ∷ ds) []) ∙ (let a = peaks_none (d ∷ ds) in let b = extents_none (d ∷ ds) in let c : max (peaks 1 (map (λ d. 0 ∷ d) (d ∷ ds))) (extents (map (λ d. 0 ∷ d) (d ∷ ds))) ≡ 0 = omega (arith, a, b) in c)

pub glued_none : (at : Place) (ds : List (List ℕ)) → glued false at ds [] ≡ Val (bundle 0 ds [])
unfolding glued stacked within_weight
glued_none at ds = ap (λ z. checked z kind.TooLarge at (Val (bundle 0 ds []))) (ap (λ z. nat_le z most_words) (none_weight ds) ∙ test_yes 0 most_words (omega arith))

collected_then : (at : Place) (env : Env) (uss : List (List Atom)) → collected false at env uss [] ≡ and_then (all_told_of env uss) (λ ds. glued false at ds [])
collected_then at env uss = by_groups (groups_of env uss)
  where
    by_groups : (o : Out (List Row)) → and_then o (λ css. and_then (all_told css) (λ ds. glued false at ds [])) ≡ and_then (and_then o all_told) (λ ds. glued false at ds [])
    by_groups (Val css) = refl
    by_groups (Fail r) = refl
    by_groups Wrong = refl

lifted_many : (ss : List Sort) → length (lifted ss) ≡ length ss
lifted_many [] = refl
lifted_many (s ∷ ss) = ap suc (lifted_many ss)

-- the arrays so far, and the sizes of the rest
pub record None_so (env : Env) (uss : List (List Atom)) (row : List Sort) (j : ℕ) (S0 S : State) : Type 0 where
  pub sizes : List (List ℕ)
  pub ws : List ℕ
  pub stack : S.stack ≡ S0.stack ++ ws
  pub shown : AllShow S.arena.arrays (lifted (take j row)) (columns 0 sizes []) ws
  pub grown : Made S0.arena S.arena 0
  pub whole : all_told_of env uss ≡ and_then (all_told_of env (drop j uss)) (λ ds. Val (sizes ++ ds))

unfoldable pub None_goes : List (List Atom) → ℕ → State → State → Type 0
None_goes uss j S0 S = (G : Sorts) (env : Env) (n : ℕ) (sss : List (List Sort)) (row : List Sort) → Stands G env n S0.arena.arrays S0.words → Groups_are G uss sss → All_same Told sss row → None_so env uss row j S0 S

module _ (told : List (Bor (List Atom))) (at : Place) (S0 : State) where
  abbrev uss : List (List Atom)
  uss = map group told

  pub none_bare : (mark : ℕ) (S : State) (r : Answer) → length told ≡ 0 → mark ≡ length S0.stack → Bare_told 0 mark at S0 S r → None_told uss at S0 S r
  unfolding Bare_told None_told glued stacked
  none_bare mark S r e m h G env n sss row out st g t b = by_told told e g t b
    where
      by_told : (told : List (Bor (List Atom))) {sss : List (List Sort)} {row out : List Sort} → length told ≡ 0 → Groups_are G (map group told) sss → All_same Told sss row → Bundled row out → GluedTold (collected false at env (map group told) []) out S0.stack S0 S r
      by_told [] q all_none all_none (bare {t = ty}) = h S0.stack [] ty (sym (append-nil S0.stack)) (sym m)
      by_told (u ∷ us) q g t b = absurd (omega (arith, q))

  pub none_start : None_goes uss 0 S0 S0
  unfolding None_goes
  none_start G env n sss row st g t = record { sizes = []; ws = []; stack = sym (append-nil S0.stack); shown = none_shown; grown = record { arrays = λ i a e. e; handed = omega arith }; whole = none_before (all_told_of env uss) }

  module _ (j : ℕ) (S : State) (h : None_goes uss j S0 S) where
    pub none_more : (d : Bor (List Atom)) (S1 : State) → j < length told → S.words ≡ S0.words → Empty_pushed (get_or told j d).now S S1 (Ok tt) → None_goes uss (j + 1) S0 S1
    unfolding None_goes Empty_pushed
    none_more d S1 l w k G env n sss row st g t =
        subst (λ z. None_so env uss row z S0 S1) (sym (add-one j)) (by_so (h G env n sss row st g t))
      where
        us : List Atom
        us = get_or uss j d.now

        same : us ≡ (get_or told j d).now
        same = get_or-map group told j d

        long : length uss ≡ length told
        long = length-map told group

        next : drop j uss ≡ us ∷ drop (suc j) uss
        next = drop-cons uss j d.now (omega (arith, l, long))

        x : Told_at G row j us
        x = told_at G uss sss row j d.now (omega (arith, l, long)) g t

        by_push : None_so env uss row j S0 S → EmptyPushed (told_of env us) x.sort S S1 (Ok tt) → None_so env uss row (suc j) S0 S1
        by_push so (empty_pushed ds v e y q m) = record {
          sizes = so.sizes ++ ds ∷ [];
          ws = so.ws ++ v ∷ [];
          stack = q ∙ ap (λ z. z ++ v ∷ []) so.stack ∙ append_assoc S0.stack so.ws (v ∷ []);
          shown =
              let s = x.sort in
              let shown : AllShow S1.arena.arrays (lifted (take j row) ++ (s.0, suc s.1) ∷ []) (columns 0 so.sizes [] ++ Many (0 ∷ ds) [] ∷ []) (so.ws ++ v ∷ []) =
              show_append S1.arena.arrays (lifted (take j row)) (columns 0 so.sizes []) so.ws ((s.0, suc s.1) ∷ []) (Many (0 ∷ ds) [] ∷ []) (v ∷ []) (all_show_on S.arena.arrays S1.arena.arrays (lifted (take j row)) (columns 0 so.sizes []) so.ws m.arrays so.shown) (shown_and y none_shown) in
              subst (λ z. AllShow S1.arena.arrays (lifted (take (suc j) row)) z (so.ws ++ v ∷ [])) (sym (columns_behind so.sizes ds))
              (subst (λ z. AllShow S1.arena.arrays z (columns 0 so.sizes [] ++ Many (0 ∷ ds) [] ∷ []) (so.ws ++ v ∷ [])) (sym (ap lifted (take_get row j s x.there) ∙ lifted_append (take j row) s)) shown);
          grown = record { arrays = λ i a e. m.arrays i a (so.grown.arrays i a e); handed = omega (arith, so.grown.handed, m.handed) };
          whole = so.whole ∙ ap (λ z. and_then (all_told_of env z) (λ ds. Val (so.sizes ++ ds))) next ∙ ap (λ z. and_then z (λ ds. Val (so.sizes ++ ds))) (groups_cons env us (drop (suc j) uss) ds e)
              ∙ one_behind (all_told_of env (drop (suc j) uss)) so.sizes ds;
        }

        by_so : None_so env uss row j S0 S → None_so env uss row (suc j) S0 S1
        by_so so =
            by_push so
            (subst (λ z. EmptyPushed (told_of env z) x.sort S S1 (Ok tt)) (sym same)
            (k G env n x.sorts x.sort (stands_on G env n n S0.arena.arrays S.arena.arrays S0.words S.words (omega arith) (λ i q. ap (λ z. slice_get z i) w) so.grown.arrays st) (subst (λ z. Atoms_are G z x.sorts) same x.are) x.told))

    pub none_end : length told ≤ j → (length told ≡ 0 → ⊥) → None_told uss at S0 S (Ok tt)
    unfolding None_goes None_told
    none_end l ne G env n sss row out st g t b = by_so (h G env n sss row st g t)
      where
        long : length row ≡ length told
        long = omega (arith, length-map told group, same_many (Atoms_are G) uss sss g, same_many Told sss row t)

        by_sizes : (ds : List (List ℕ)) (ws : List ℕ) → all_told_of env uss ≡ Val ds → AllShow S.arena.arrays (lifted row) (columns 0 ds []) ws → S.stack ≡ S0.stack ++ ws → Made S0.arena S.arena 0 → GluedTold (collected false at env uss []) (lifted row) S0.stack S0 S (Ok tt)
        by_sizes [] ws v sh q m = absurd (ne (let k : 0 ≡ length (lifted row) = (shown_many S.arena.arrays (lifted row) [] ws sh).0 in omega (arith, k, long, lifted_many row)))
        by_sizes (d ∷ ds) ws v sh q m =
            glued_told (columns 0 (d ∷ ds) []) ws (collected_then at env uss ∙ ap (λ z. and_then z (λ ds. glued false at ds [])) v ∙ glued_none at (d ∷ ds)) sh q (record { arrays = m.arrays; handed = omega (arith, m.handed) })

        by_so : None_so env uss row j S0 S → GluedTold (collected false at env uss []) out S0.stack S0 S (Ok tt)
        by_so so =
            let none : drop j uss ≡ [] = drop_past uss j (omega (arith, l, length-map told group)) in
            let all : take j row ≡ row = take_all j row (omega (arith, l, long)) in
            subst (λ z. GluedTold (collected false at env uss []) z S0.stack S0 S (Ok tt)) (sym (bundled_lifted row out b (λ e. ne (omega (arith, e, long)))))
            (by_sizes so.sizes so.ws (so.whole ∙ ap (λ z. and_then (all_told_of env z) (λ ds. Val (so.sizes ++ ds))) none ∙ ap Val (append-nil so.sizes)) (subst (λ z. AllShow S.arena.arrays (lifted z) (columns 0 so.sizes []) so.ws) all so.shown) so.stack so.grown)

  pub none_stop : (S : State) (e : Stop) → e ≡ Memory → None_told uss at S0 S (Err e)
  unfolding None_told
  none_stop S e q G env n sss row out st g t b = subst (λ z. GluedTold (collected false at env uss []) out S0.stack S0 S (Err z)) (sym q) no_glue

pub ruleset nones = (none_bare, none_start, none_more, none_end, none_stop)
