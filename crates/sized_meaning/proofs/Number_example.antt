-- `def n = 3  def main (a: []i64): [n]i64 = a :> [n]i64` gives arrays of three rows alone: the number n is found as a size in main.
use Rattle.sized_meaning.specs.There.{There, anywhere}
use Rattle.std.specs.Prelude.{map, pos}
use Rattle.std.proofs.Common.{◌≡◌, ℕ, zero, suc, ◌<◌, ◌≤◌, List, [], ◌∷◌, Bool, true, false, cond, nat_eq, Option, Some, None, refl, sym, ap, ◌∙◌, subst, arith, inl, inr, eqb-true}
use Rattle.fut_scalar.specs.declared.place.Place.{Place}
use Rattle.fut_scalar.specs.declared.place.BindId.{BindId}
use Rattle.fut_scalar.specs.declared.scalar.IntType.TheVariants as int
use Rattle.fut_scalar.specs.declared.scalar.ScalarType.TheVariants as sort
use Rattle.fut_flat.specs.declared.prim.Ref.TheVariants as ref
use Rattle.fut_flat.specs.Erased.{FlatTerm, FlatType}
use Rattle.fut_flat.specs.Terms.{Integer, Coerce, Size_use, Array_type, Type_use, no_arg, Bound_pattern, pattern_and, no_pattern, Use, Strict, Lambda, no_term, term_and}
use Rattle.fut_types.specs.Types.{Sub}
use Rattle.fut_typing.specs.Names.{Names, AreNames}
use Rattle.fut_value.specs.Data.{Shape, Scalar_shape, Tuple_shape, Record_shape, Array_shape, Unmet_shape}
use Rattle.fut_meaning.specs.Flats.{FlatValue, FlatTops, Named_term, flat_names, flat_tops, Flat_means}
use Rattle.fut_meaning.specs.Meaning.{plain}
use Rattle.fut_meaning.specs.Operators.{integer}
use Rattle.fut_meaning.specs.Outcomes.{Out, Val, Fail, Wrong}
use Rattle.fut_meaning.specs.Programs.{top, names_size, name_size, some_names, evaluated}
use Rattle.fut_meaning.specs.Telling.{value_shape}
use Rattle.fut_meaning.specs.Values.{Scalar_value, base}
use Rattle.sized_types.specs.Sizes.{Free, Const, Name, Own, Unknown, Slot, At, Bound, Variable, Size, Level, Fun, erased, all_erased, is_free, is_dim, replaced, all_replaced, has, some_has, takes, some_takes}
use Rattle.sized_types.specs.Standing.{stands}
use Rattle.fut_sizes.specs.Agreeing.{is_among, of_type, of_types}
use Rattle.fut_sizes.specs.Operations.{operation}
use Rattle.fut_sizes.specs.ProgramRules.{Program_sized}
use Rattle.fut_sizes.specs.Rules.{Each_hole, Each_holes, Inside, Pattern_takes, Binder, Sized}
use Rattle.fut_sizes.specs.Scopes.{i64_size}
use Rattle.fut_sizes.specs.Scoping.{Context, nothing_known, with_scheme}
use Rattle.fut_sizes.specs.Suiting.{Each, Each_all, Data, All_data, suits_same}
use Rattle.fut_sizes.specs.WrittenSizes.{has_sizes, with_sizes, coerced, coercion}
use Rattle.sized_meaning.specs.Worth.{Worth, no_frames, push}
use Rattle.sized_meaning.specs.Shapes.{exactly, Has_shape, Has_datum}
use Rattle.sized_meaning.specs.Finding.{One_shape_each, Well_formed}
use Rattle.sized_meaning.specs.Fits.{Out_fits, Gives, word, Is_data}
use Rattle.sized_meaning.specs.Law.{Sound, World, told}
use Rattle.sized_meaning.specs.Programs.{as_defined, Definitions_are, Plain_definitions, Data_arguments, Result_shaped, Gives_data}
use Rattle.sized_meaning.proofs.Ways.{gives_as}
use Rattle.sized_meaning.proofs.Outcomes.{gives_exact, gives_then}
use Rattle.sized_meaning.proofs.Finding.{exact_kinds}
use Rattle.sized_meaning.proofs.Applications.{literal_type, literal_value, literal_word}
use Rattle.sized_meaning.proofs.Given.{programs_give_their_shapes}
use Rattle.sized_meaning.proofs.Quiet.{definitions_anywhere}

abbrev here : Place
here = record { file = 0; line = 1; column = 1 }

abbrev bind : ℕ → BindId
bind n = record { 0 = n }

abbrev name : ℕ → FlatTerm
name n = Use (ref.Bound (record { 0 = n })) here 0

-- [n]i64, where n has the number 0
abbrev rows_of_n : FlatType
rows_of_n = Array_type (Size_use (ref.Bound (record { 0 = 0 }))) (Type_use (ref.Scalar (sort.Int int.I64)) no_arg)

abbrev three : FlatTerm
three = Strict (Integer 3 None) here no_term

abbrev coerces : FlatTerm
coerces = Strict (Coerce rows_of_n) here (term_and (name 2) no_term)

-- n is 0, main 1 and a 2; the nodes 0 and 1 are n's name and the literal, 2 to 6 are main's name, the function, a's pattern, the
-- coercion and the use of a
abbrev definitions : List Named_term
definitions = (bind 0, three) ∷ (bind 1, Lambda (pattern_and (Bound_pattern (record { 0 = 2 })) no_pattern) coerces) ∷ []

abbrev array : Free → Size
array d = Level (At d) i64_size

abbrev to_three : Size
to_three = Fun 1 (Level (Bound 0 0) i64_size) (array (Name 0))

abbrev sizes : ℕ → Size
sizes zero = i64_size
sizes (suc zero) = i64_size
sizes (suc (suc zero)) = to_three
sizes (suc (suc (suc zero))) = to_three
sizes (suc (suc (suc (suc zero)))) = array (Own 4 0)
sizes (suc (suc (suc (suc (suc zero))))) = array (Name 0)
sizes (suc (suc (suc (suc (suc (suc k)))))) = array (Own 4 0)

abbrev home : ℕ → ℕ
home zero = 0
home (suc zero) = 2
home (suc (suc zero)) = 4
home (suc (suc (suc k))) = 10

abbrev types : Sub
types n = erased (sizes n)

abbrev world : World
world = record { integer_at = λ n. int.I64; sizing = record { size_at = sizes; home = home; fields = λ n. []; is_size = λ b. false; used = λ n. None }; tops = []; tight = false; budget = 0; is_there = λ at. true }

formed : (n : ℕ) → Well_formed (λ n. []) (sizes n)
unfolding Well_formed
formed zero = (tt, tt)
formed (suc zero) = (tt, tt)
formed (suc (suc zero)) = ((tt, tt), (tt, tt))
formed (suc (suc (suc zero))) = ((tt, tt), (tt, tt))
formed (suc (suc (suc (suc zero)))) = (tt, tt)
formed (suc (suc (suc (suc (suc zero))))) = (tt, tt)
formed (suc (suc (suc (suc (suc (suc k)))))) = (tt, tt)

-- what main knows of n: it is found
abbrev known : Context
known = with_scheme 0 i64_size (λ v. true) nothing_known

abbrev inside : ℕ → Free
inside zero = Own 4 0
inside (suc zero) = Name 2
inside (suc (suc i)) = Unknown 4 (suc (suc i))

abbrev position : Free → Option ℕ
position (Own n i) = cond (nat_eq n 4) (cond (nat_eq i 0) (Some 0) None) None
position (Name b) = cond (nat_eq b 2) (Some 1) None
position d = None

module _ (N : Names) where
  made_there : (d : Free) (i : ℕ) → position d ≡ Some i → Inside N types sizes home 4 5 d
  made_there (Own n k) i e = by_test (nat_eq n 4) refl e
    where
      by_test : (b : Bool) → nat_eq n 4 ≡ b → cond b (cond (nat_eq k 0) (Some 0) None) None ≡ Some i → (4 ≤ n) × (n < 5)
      by_test true q e = let z = eqb-true n 4 q in (omega (arith, z), omega (arith, z))
      by_test false q e = absurd (let z : ◌≡◌ {A = Option ℕ} None (Some i) = e in cc)
  made_there (Name b) i e = by_test (nat_eq b 2) refl e
    where
      by_test : (c : Bool) → nat_eq b 2 ≡ c → cond c (Some 1) None ≡ Some i → (4 ≤ home b) × (home b < 5)
      by_test true q e = subst (λ x. (4 ≤ home x) × (home x < 5)) (sym (eqb-true b 2 q)) (omega arith, omega arith)
      by_test false q e = absurd (let z : ◌≡◌ {A = Option ℕ} None (Some i) = e in cc)
  made_there (Const c) i e = absurd (let z : ◌≡◌ {A = Option ℕ} None (Some i) = e in cc)
  made_there (Unknown n k) i e = absurd (let z : ◌≡◌ {A = Option ℕ} None (Some i) = e in cc)
  made_there (Slot k) i e = absurd (let z : ◌≡◌ {A = Option ℕ} None (Some i) = e in cc)

  placed : (i : ℕ) → i ≤ 1 → position (inside i) ≡ Some i
  placed zero l = refl
  placed (suc zero) l = refl
  placed (suc (suc i)) l = absurd (omega (arith, l))

  -- the array that main takes, whose size its caller chooses
  takes_array : Binder N types sizes home 3 5 7 (Bound_pattern (record { 0 = 2 })) 4 to_three
  unfolding Each Each_all replaced all_replaced Pattern_takes
  takes_array = record {
    chosen = 1;
    from = Level (Bound 0 0) i64_size;
    to = array (Name 0);
    function = refl;
    inside = inside;
    position = position;
    placed = placed;
    own = made_there;
    parameter = refl;
    parts = refl;
    low = ((λ e. omega arith), tt);
    kept = ((omega arith, tt), ((refl, (λ i. let x = i.0 in omega (arith, x)), (λ i. let x = i.0 in omega (arith, x))), tt));
    away = ((λ i. let x = i.0 in omega (arith, x)), tt);
    named = refl;
  }

  main_sized : Sized N types sizes home (Lambda (pattern_and (Bound_pattern (record { 0 = 2 })) no_pattern) coerces) 3 known
  unfolding takes_array Each Each_all Each_hole Each_holes replaced all_replaced has some_has takes some_takes stands is_dim is_free operation coercion coerced has_sizes with_sizes Data All_data
  main_sized = (
    takes_array,
    refl,
    (λ x y p. ((inr refl, tt), tt)),
    (refl, refl, ((inl (array (Own 4 0), refl, suits_same), ((λ i. let x = i.0 in let y = i.1 in omega (arith, x, y)), tt), tt), refl, (refl, tt))),
  )

  one_name : (b lo hi c : ℕ) → lo ≤ home b → home b < hi → is_among (b ∷ []) c ≡ true → Inside N types sizes home lo hi (Name c)
  one_name b lo hi c l l' e = by_test (nat_eq c b) refl e
    where
      by_test : (x : Bool) → nat_eq c b ≡ x → cond x true false ≡ true → (lo ≤ home c) × (home c < hi)
      by_test true q e = subst (λ k. (lo ≤ home k) × (home k < hi)) (sym (eqb-true c b q)) (l, l')
      by_test false q e = absurd (let z : false ≡ true = e in cc)

  sized : Program_sized N types sizes home (map as_defined definitions)
  unfolding Each Each_all operation of_type of_types erased all_erased
  sized = (
    (tt, refl, tt),
    record { type = refl; bound = λ c e. one_name 0 0 1 c (omega arith) (omega arith) e; away = tt },
    (main_sized, record { type = refl; bound = λ c e. one_name 1 2 3 c (omega arith) (omega arith) e; away = ((omega arith, tt), ((λ i. let x = i.0 in omega (arith, x)), tt)) }, tt),
  )

  simple : Plain_definitions N types world definitions 0
  unfolding Each_hole Each_holes erased all_erased Data All_data
  simple = (tt, (refl, tt), ((tt, tt), (((λ c e i. let z : false ≡ true = i in cc), tt), tt, ((tt, (tt, tt)), ((λ e. let z : false ≡ true = e in cc), tt))), tt))

  -- applied to any array of whole numbers, which has as many rows as its caller chooses
  module _ (named : AreNames N) (τ : Variable → Shape) (one : One_shape_each τ) (v : FlatValue) (F : ℕ → ℕ) (argument : F 1 ≡ word v) (rows : (m : Worth) → Is_data (Has_datum N (exactly τ) m (push F no_frames) (Level (Bound 0 0) i64_size)) v) where
    sound : Sound N types world.sizing
    sound = record { names = named; fields = λ n. tt; formed = formed; typed = λ n. refl }

    arguments : (m : Worth) → Data_arguments N (exactly τ) m no_frames to_three (v ∷ [])
    unfolding Data All_data
    arguments m = (F, argument, tt, rows m, λ F' e. tt)

    gives_data : Gives_data to_three (v ∷ [])
    unfolding Data All_data
    gives_data = tt

    abbrev three_value : FlatValue
    three_value = Scalar_value (integer int.I64 (pos 3))

    -- the entry reaches n, which only a size names
    n_is_three : Gives (There anywhere) (λ (T : FlatTops). top T 0 ≡ Val three_value) (evaluated (flat_names (told world)) (plain false) 0 1 (flat_tops 0 definitions) [] [])
    unfolding flat_tops flat_names some_names names_size name_size is_dim is_free literal_type
    n_is_three = gives_then (λ x. x ≡ three_value) (λ T. top T 0 ≡ Val three_value) _ _ (literal_value N types (exactly τ) world sound (exact_kinds τ one) 3 None here 1 (base tt))
        (λ x q. gives_then (λ w. Unit {0}) (λ T. top T 0 ≡ Val three_value) _ _ (λ o f y. anything o) (λ w u. gives_exact _ (λ T. top T 0 ≡ Val three_value) 0 (Val ((1, w) ∷ (0, x) ∷ [])) (ap Val q)))
      where
        anything : (o : Out FlatValue) → Out_fits (There anywhere) (λ w. Unit {0}) o
        anything (Val w) = tt
        anything (Fail r) = λ e. refl
        anything Wrong = tt

    worth_three : (tops : FlatTops) (m : Worth) → Definitions_are world definitions (bind 1) tops m → m (Name 0) ≡ 3
    worth_three tops m are = sym (are.numbers 0 three_value (n_is_three (Val tops) (are.evaluated_to).0 (are.evaluated_to).1) refl) ∙ literal_word N types (exactly τ) world sound (exact_kinds τ one) 3 int.I64 three_value refl refl (omega arith)

    three_rows : (m : Worth) (h : Shape) → m (Name 0) ≡ 3 → Result_shaped N (exactly τ) m no_frames to_three (v ∷ []) (arguments m) h → h ≡ Array_shape 3 (Scalar_shape (sort.Int int.I64))
    unfolding arguments Has_shape push
    three_rows m (Array_shape n row) e x = ap (λ k. Array_shape k row) ((x.2).0 ∙ e) ∙ ap (Array_shape 3) (x.2).1
    three_rows m (Scalar_shape s) e x = absurd x.2
    three_rows m (Tuple_shape hs) e x = absurd x.2
    three_rows m (Record_shape hs) e x = absurd x.2
    three_rows m Unmet_shape e x = absurd x.2

    coerced_to_three : Gives (There anywhere) (λ w. value_shape w ≡ Array_shape 3 (Scalar_shape (sort.Int int.I64))) (Flat_means (told world) (plain false) 0 definitions (bind 1) (v ∷ []))
    coerced_to_three = gives_as _ (λ w. value_shape w ≡ Array_shape 3 (Scalar_shape (sort.Int int.I64))) _ (programs_give_their_shapes N types τ world definitions (bind 1) (v ∷ []) sound one sized simple (definitions_anywhere definitions) (λ tops m are. arguments m) gives_data)
        (λ w x. three_rows x.1 (value_shape w) (worth_three x.0 x.1 x.2) x.3)
