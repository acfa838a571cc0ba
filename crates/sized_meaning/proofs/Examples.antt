-- Sizings that meet their rules.
use Rattle.sized_meaning.proofs.Quiet.{term_anywhere}
use Rattle.sized_meaning.specs.There.{There, anywhere}
use Rattle.std.proofs.Common.{◌≡◌, ◌⊎◌, ℕ, zero, suc, ◌+◌, ◌<◌, [], ◌∷◌, true, false, Option, Some, None, refl, ap, arith, inl, inr, Bool, cond, nat_eq, sym, subst, eqb-true}
use Rattle.fut_scalar.specs.declared.place.Place.{Place}
use Rattle.fut_scalar.specs.declared.scalar.IntType.TheVariants as int
use Rattle.fut_scalar.specs.declared.scalar.ScalarType.TheVariants as scalar
use Rattle.fut_flat.specs.declared.prim.Primitive.TheVariants as prim
use Rattle.fut_flat.specs.declared.prim.Ref.TheVariants as ref
use Rattle.fut_flat.specs.Terms.{Bound_pattern, Tuple_pattern, no_pattern, pattern_and, Integer, Tuple_of, Use, Strict, Apply, Let, no_term, term_and}
use Rattle.fut_types.specs.declared.Head.TheVariants as head
use Rattle.fut_sizes.specs.Agreeing.{is_among}
use Rattle.sized_types.specs.Standing.{stands}
use Rattle.fut_flat.specs.Erased.{FlatTerm}
use Rattle.fut_types.specs.Types.{Sub}
use Rattle.fut_typing.specs.Names.{Names, AreNames}
use Rattle.fut_value.specs.Data.{Shape}
use Rattle.fut_meaning.specs.Flats.{FlatTops}
use Rattle.fut_meaning.specs.Telling.{found}
use Rattle.fut_meaning.specs.Values.{base, Evaluate}
use Rattle.fut_sizes.specs.Agreeing.{of_type, of_types}
use Rattle.fut_sizes.specs.Operations.{operation}
use Rattle.fut_sizes.specs.Primitives.{scalar_size, prim_size, sized_type}
use Rattle.fut_sizes.specs.Scopes.{i64_size}
use Rattle.fut_sizes.specs.Scoping.{Context}
use Rattle.sized_types.specs.Sizes.{Free, Const, Name, Unknown, Dim, At, Bound, Variable, Size, Hole, Level, Built, Fun, no_size, size_and, takes, replaced, all_replaced, erased, all_erased}
use Rattle.fut_sizes.specs.Suiting.{Each, Each_all, Data, suits_same}
use Rattle.fut_sizes.specs.Rules.{Inside, Away, Pattern_takes, Outside, Filled_use, filled, all_filled, Applies, Sized}
use Rattle.sized_meaning.specs.Worth.{Worth}
use Rattle.sized_meaning.specs.Shapes.{exactly}
use Rattle.sized_meaning.specs.Finding.{One_shape_each, Well_formed}
use Rattle.sized_meaning.specs.Fits.{Gives}
use Rattle.sized_meaning.specs.Law.{Sound, World, Plain_term, means, Env_fits, Result}
use Rattle.sized_meaning.proofs.Finding.{none_no}
use Rattle.sized_meaning.proofs.Law.{values_have_their_sizes}

here : Place
here = record { file = 0; line = 1; column = 1 }

abbrev name : ℕ → FlatTerm
name n = Use (ref.Bound (record { 0 = n })) here 0

abbrev array : Dim → Size
array d = Level d (scalar_size (scalar.Int int.I64))

abbrev to_itself : Size
to_itself = Fun 1 (array (Bound 0 0)) (array (Bound 0 0))

-- g xs, where g gives an array of the size that it takes, and xs has the size n: 0 is n, 1 is g, 2 is xs
abbrev sizes : ℕ → Size
sizes zero = array (At (Name 0))
sizes (suc zero) = to_itself
sizes (suc (suc k)) = array (At (Name 0))

abbrev known : ℕ → Option Size
known zero = None
known (suc zero) = Some to_itself
known (suc (suc k)) = Some (array (At (Name 0)))

abbrev context : Context
context = record { sizes = known; schemes = λ b. None; general = λ b v. false; finds = λ d. false; finds_types = λ v. false }

-- all names are bound elsewhere
abbrev home : ℕ → ℕ
home b = 10

abbrev inside : ℕ → Free
inside zero = Name 0
inside (suc i) = Unknown 0 (suc i)

module _ (N : Names) (types : Sub) where
  elsewhere : (lo hi : ℕ) → hi < 10 → Outside N types sizes home lo hi (Name 0)
  elsewhere lo hi l i = let x = i.1 in omega (arith, l, x)

  known_inside : (i : ℕ) → i < 1 → Outside N types sizes home 0 1 (inside i) ⊎ (inside i ≡ Unknown 0 (0 + i))
  known_inside zero l = inl (elsewhere 0 1 (omega arith))
  known_inside (suc i) l = absurd (omega (arith, l))

  met_inside : (i : ℕ) → 1 < i → inside i ≡ Unknown 0 (0 + i)
  met_inside zero l = absurd (omega (arith, l))
  met_inside (suc i) l = ap (Unknown 0) (let z : suc i ≡ 0 + suc i = omega arith in z)

  applies : Applies N types sizes home (name 2) 0 2 3 context
  unfolding Each Each_all replaced all_replaced
  applies = record {
    chosen = 1;
    from = array (Bound 0 0);
    to = array (Bound 0 0);
    function = refl;
    closed = ((omega arith, tt), (omega arith, tt));
    inside = inside;
    low = ((λ e. omega arith), tt);
    argument = suits_same;
    base = 0;
    known = known_inside;
    value = inr refl;
    new = met_inside;
    result = inl refl;
    order = inl (elsewhere 1 2 (omega arith), tt);
  }

  -- g xs has the size n
  applied : Sized N types sizes home (Apply (name 1) (name 2)) 0 context
  applied = (inl (to_itself, refl, suits_same), inl (array (At (Name 0)), refl, suits_same), applies)

-- ---- `iota 5` gives an array of the size 5: 0 is the application, 1 is iota, 2 is the literal

abbrev iota_five : FlatTerm
iota_five = Apply (Use (ref.Prim prim.Iota) here 0) (Strict (Integer 5 None) here no_term)

abbrev five_sizes : ℕ → Size
five_sizes zero = Level (At (Const 5)) i64_size
five_sizes (suc zero) = Fun 0 i64_size (Level (Bound 0 0) i64_size)
five_sizes (suc (suc k)) = i64_size

abbrev five_types : Sub
five_types n = erased (five_sizes n)

abbrev five_world : FlatTops → World
five_world tops = record { integer_at = λ n. int.I64; sizing = record { size_at = five_sizes; home = home; fields = λ n. []; is_size = λ b. false; used = λ n. None }; tops = tops; tight = false; budget = 0; is_there = λ at. true }

abbrev nothing_known : Context
nothing_known = record { sizes = λ b. None; schemes = λ b. None; general = λ b v. false; finds = λ d. false; finds_types = λ v. false }

abbrev five_inside : ℕ → Free
five_inside zero = Const 5
five_inside (suc i) = Unknown 0 (suc i)

five_formed : (n : ℕ) → Well_formed (λ n. []) (five_sizes n)
unfolding Well_formed
five_formed zero = (tt, tt)
five_formed (suc zero) = ((tt, tt), (tt, tt))
five_formed (suc (suc k)) = (tt, tt)

module _ (N : Names) (named : AreNames N) (τ : Variable → Shape) (one : One_shape_each τ) (tops : FlatTops) where
  five_sound : Sound N five_types (five_world tops).sizing
  five_sound = record { names = named; fields = λ n. tt; formed = five_formed; typed = λ n. refl }

  iota_used : Filled_use (λ v. true) (prim_size prim.Iota) (five_sizes 1)
  unfolding Data Each filled all_filled prim_size sized_type
  iota_used = record { types = λ v. Hole v; data_types = λ v. tt; closed = λ v. tt; others = λ v e. refl; used = inl suits_same }

  five_new : (i : ℕ) → 0 < i → five_inside i ≡ Unknown 0 (0 + i)
  five_new zero l = absurd (omega (arith, l))
  five_new (suc i) l = ap (Unknown 0) (let z : suc i ≡ 0 + suc i = omega arith in z)

  five_applies : Applies N five_types five_sizes home (Strict (Integer 5 None) here no_term) 0 2 3 nothing_known
  unfolding Each Each_all replaced all_replaced
  five_applies = record {
    chosen = 0;
    from = i64_size;
    to = Level (Bound 0 0) i64_size;
    function = refl;
    closed = (tt, (omega arith, tt));
    inside = five_inside;
    low = tt;
    argument = suits_same;
    base = 0;
    known = λ i l. absurd (omega (arith, l));
    value = inl (refl, refl, omega arith);
    new = five_new;
    result = inl refl;
    order = inl tt;
  }

  five_sized : Sized N five_types five_sizes home iota_five 0 nothing_known
  unfolding operation of_type of_types erased all_erased
  five_sized = (iota_used, (tt, refl, tt), five_applies)

  five_env : (m : Worth) → Env_fits N five_types (exactly τ) (five_world tops) 0 3 m nothing_known (base tt)
  unfolding found
  five_env m = record {
    values = λ b t e v l. none_no e;
    away = λ b t e. none_no e;
    general = λ b t e. none_no e;
    general_worth = λ b t e i. none_no e;
    fresh = λ b v i l. let x = i.1 in absurd (omega (arith, x));
    sizes_right = λ d n e. none_no e;
    types_right = λ v h e. none_no e;
    finds = λ d k e. absurd (let z : false ≡ true = e in cc);
    finds_types = λ v e. absurd (let z : false ≡ true = e in cc);
  }

  five_plain : Plain_term N five_types (five_world tops) iota_five 0
  unfolding erased all_erased
  five_plain = (tt, (refl, tt), tt)

  -- each value that it gives is an array of five numbers
  iota_gives_five : (m : Worth) → Gives (There anywhere) (Result N five_types (exactly τ) (five_world tops) 0 3 m (Level (At (Const 5)) i64_size)) (means (five_world tops) (Evaluate (base tt) 0 iota_five))
  iota_gives_five m = values_have_their_sizes N five_types τ (five_world tops) iota_five 0 nothing_known (base tt) m five_sound one five_plain (term_anywhere iota_five) five_sized (five_env m)

-- ---- `let (a, b) = (k, k) in a`: 0 is the let, 1 to 3 are the pattern and its parts a and b, 4 is the pair, 5 to 7 are uses; in the
-- scope are the size n and k, an array of that size

abbrev halves : FlatTerm
halves = Let (record { pattern = Tuple_pattern (pattern_and (Bound_pattern (record { 0 = 2 })) (pattern_and (Bound_pattern (record { 0 = 3 })) no_pattern)); parameters = []; sizes = []; is_function = false })
    (Strict Tuple_of here (term_and (name 1) (term_and (name 1) no_term))) (name 2)

abbrev row_of_n : Size
row_of_n = array (At (Name 0))

abbrev two_rows : Size
two_rows = Built head.Tuple (size_and row_of_n (size_and row_of_n no_size))

abbrev half_sizes : ℕ → Size
half_sizes zero = row_of_n
half_sizes (suc zero) = two_rows
half_sizes (suc (suc zero)) = row_of_n
half_sizes (suc (suc (suc zero))) = row_of_n
half_sizes (suc (suc (suc (suc zero)))) = two_rows
half_sizes (suc (suc (suc (suc (suc k))))) = row_of_n

abbrev half_home : ℕ → ℕ
half_home zero = 10
half_home (suc zero) = 10
half_home (suc (suc zero)) = 2
half_home (suc (suc (suc zero))) = 3
half_home (suc (suc (suc (suc b)))) = 10

abbrev half_known : ℕ → Option Size
half_known zero = None
half_known (suc zero) = Some row_of_n
half_known (suc (suc k)) = None

abbrev half_context : Context
half_context = record { sizes = half_known; schemes = λ b. None; general = λ b v. false; finds = λ d. false; finds_types = λ v. false }

module _ (N : Names) (types : Sub) (tops : FlatTops) where
  half_elsewhere : (lo hi : ℕ) → hi < 10 → Outside N types half_sizes half_home lo hi (Name 0)
  half_elsewhere lo hi l i = let x = i.1 in omega (arith, l, x)

  half_bound : (c : ℕ) → is_among (2 ∷ 3 ∷ []) c ≡ true → Inside N types half_sizes half_home 1 4 (Name c)
  half_bound c e = first (nat_eq c 2) refl e
    where
      second : (b : Bool) → nat_eq c 3 ≡ b → cond b true false ≡ true → Inside N types half_sizes half_home 1 4 (Name c)
      second true q e = subst (λ n. Inside N types half_sizes half_home 1 4 (Name n)) (sym (eqb-true c 3 q)) (omega arith, omega arith)
      second false q e = absurd (let z : false ≡ true = e in cc)

      first : (b : Bool) → nat_eq c 2 ≡ b → cond b true (cond (nat_eq c 3) true false) ≡ true → Inside N types half_sizes half_home 1 4 (Name c)
      first true q e = subst (λ n. Inside N types half_sizes half_home 1 4 (Name n)) (sym (eqb-true c 2 q)) (omega arith, omega arith)
      first false q e = second (nat_eq c 3) refl e

  -- an array of n rows, or two, mention nothing that is made here
  row_away : (lo hi : ℕ) → hi < 10 → Away N types half_sizes half_home lo hi row_of_n
  unfolding Each Each_all
  row_away lo hi l = (half_elsewhere lo hi l, tt)

  rows_away : (lo hi : ℕ) → hi < 10 → Away N types half_sizes half_home lo hi two_rows
  unfolding Each Each_all
  rows_away lo hi l = ((half_elsewhere lo hi l, tt), ((half_elsewhere lo hi l, tt), tt))

  half_used : Sized N types half_sizes half_home (name 1) 5 half_context
  half_used = inl (row_of_n, refl, suits_same)

  halves_sized : Sized N types half_sizes half_home halves 0 half_context
  unfolding Each Each_all replaced all_replaced operation Pattern_takes takes stands
  halves_sized = (
    ((inl (row_of_n, refl, suits_same), row_away 6 7 (omega arith), (inl (row_of_n, refl, suits_same), row_away 7 7 (omega arith), tt)), refl, tt),
    inl (
      record {
        what = λ c. Name c;
        taken = (refl, size_and row_of_n (size_and row_of_n no_size), refl, (refl, (refl, tt)));
        sizes_met = λ c e. absurd (let z : false ≡ true = e in cc);
        bound = half_bound;
        value_away = rows_away 1 4 (omega arith);
        body_away = rows_away 7 8 (omega arith);
        own_away = row_away 0 1 (omega arith);
        no_parameter = refl;
        result = refl;
      },
      inl (row_of_n, refl, suits_same),
    ),
  )
