-- The steps of operations and primitives give what these do.
use Rattle.std.proofs.Common.{◌≡◌, ℕ, suc, ◌≤◌, ◌++◌, List, [], ◌∷◌, Bool, true, false, cond, not, Some, None, refl, sym, ap, ◌∙◌, subst, arith, Option}
use Rattle.std.specs.Str.{bytes_eq}
use Rattle.fut_scalar.specs.declared.operator.BinOp.{BinOp}
use Rattle.fut_scalar.specs.declared.operator.BinOp.TheVariants as binary
use Rattle.fut_scalar.specs.declared.operator.UnOp.{UnOp}
use Rattle.fut_scalar.specs.declared.operator.UnOp.TheVariants as unary
use Rattle.fut_scalar.specs.declared.place.BindId.{BindId}
use Rattle.fut_scalar.specs.declared.place.Place.{Place}
use Rattle.fut_scalar.specs.declared.report.FailKind.TheVariants as kind
use Rattle.fut_scalar.specs.declared.scalar.IntType.{IntType}
use Rattle.fut_scalar.specs.declared.scalar.Scalar.{Scalar}
use Rattle.fut_scalar.specs.declared.scalar.Scalar.TheVariants as scalar
use Rattle.fut_flat.specs.declared.prim.Primitive.{Primitive}
use Rattle.fut_flat.specs.declared.prim.Ref.{Ref}
use Rattle.fut_flat.specs.Terms.{Operation}
use Rattle.fut_arithmetic.specs.Conversions.{converted}
use Rattle.fut_arithmetic.specs.Operations.{result_of_one}
use Rattle.fut_scalar.specs.declared.scalar.ScalarType.{ScalarType}
use Rattle.fut_value.specs.Data.{Scalar_datum}
use Rattle.fut_meaning.specs.Found.{Sizing}
use Rattle.fut_blocks.specs.Rows.{Row, Size_test}
use Rattle.fut_blocks.specs.Sizes.{row_shape, passes}
use Rattle.unfold.specs.Telling.{known_row}
use Rattle.fut_value.specs.Data.{Shape as Data_shape}
use Rattle.fut_value.specs.Data.{Datum}
use Rattle.fut_meaning.specs.Arrays.{Making, Make_array, Make_index, Make_update, Make_range, checked, made}
use Rattle.unfold.specs.Unfolding.{tested, made_row}
use Rattle.fut_meaning.specs.Arrays.{scalar_of_datum, truth_of_datum}
use Rattle.fut_meaning.specs.Datums.{all_values}
use Rattle.fut_meaning.specs.Accessors.{or_wrong, scalar_of, truth_of, turns_of, part, fields_of}
use Rattle.fut_meaning.specs.Flats.{FlatValue}
use Rattle.fut_meaning.specs.Operations as operations
use Rattle.fut_meaning.specs.Operations.{report, reported, equal, all_equal, fields_equal, truth, binary_value, on_scalars, on_scalar, operate, coerced, operated_by, making, primitive}
use Rattle.fut_meaning.specs.Operators.{binary_result, unary_result}
use Rattle.fut_meaning.specs.Outcomes.{Out, Val, Fail, Wrong, and_then, Rel, the, choose}
use Rattle.fut_meaning.specs.Sames.{All_same, all_none, all_more, Same_out, same_value, same_report, same_wrong, Sim}
use Rattle.fut_meaning.specs.Values.{Scalar_value, Record_value}
use Rattle.fut_meaning.specs.Values as values
use Rattle.fut_meaning.proofs.Sims.{the_sim, then_sim}
use Rattle.fut_blocks.specs.declared.block.Atom.{Atom}
use Rattle.fut_blocks.specs.declared.block.Atom.TheVariants as atom
use Rattle.fut_blocks.specs.declared.block.Operation.{Operation as Block_operation}
use Rattle.fut_blocks.specs.declared.block.Operation.TheVariants as operation
use Rattle.fut_blocks.specs.Meaning.{Component, Names, bound, value_of, values_of, one, asserted, as_flat, binary_scalar, turns_of_datum, operated, truth_of_atom, act_means, body_means}
use Rattle.fut_blocks.specs.Plain.{Action, Operate}
use Rattle.fut_blocks.specs.Plain as act
use Rattle.fut_blocks.specs.Records.{reads}
use Rattle.unfold.specs.Knowns.{Known, Scalar_known, Knowns, Known_fields}
use Rattle.unfold.specs.Shapes.{Scalar_shape, laid_scalar, split_scalar, Is_value}
use Rattle.unfold.specs.Unfolding.{Bindings, step, both_hold, Equals, e_scalars, e_packed, e_tuples, e_records, All_equal, e_none, e_more, Fields_equal, e_no_field, e_field, Operates, o_integer, o_truth, o_tuple, o_record, o_binary, o_equal, o_unequal, o_negate, o_complement, o_project, o_part, o_changed, o_replace, o_ascribe, o_coerce, o_declared, o_assert, o_made, Primitive_operates, p_convert, p_min, p_max, p_abs, p_popc}
use Rattle.unfold.proofs.Alike.{alike_value, alike_joined, alike_given, alike_back, sim_left, sim_right, known_left}
use Rattle.unfold.proofs.Stands.{scalar_value, FlatValues, FlatFields, Has, has_on, has_new, extends_one, Stands, s_scalar, s_tuple, s_record, All_stand, s_none, s_more, Fields_stand, s_no_field, s_field, Extends, extends_same, all_on, fields_on}
use Rattle.unfold.proofs.Patterns.{knowns_stand, part_stands, replaced_stands, fields_stand, named_stand}
use Rattle.unfold.proofs.Components.{values_are}
use Rattle.unfold.proofs.Packing.{All_packed, packs_grow, packs_all_grow, packs_all_sim, packs_all_data, make_sim, pack_stands}
use Rattle.unfold.proofs.Records.{and_then_twice, part_read, replace_read}
use Rattle.unfold.proofs.Runs.{Gives, Standing, run, none_sim, seq_sim, made_sim, step_sim}

-- a scalar of an outcome, on both sides
scalar_same : (o : Out Scalar) → Same_out (Is_value Scalar_shape) (one o) (and_then o (λ s. Val (Scalar_value s)))
scalar_same (Val s) = same_value (split_scalar refl)
scalar_same (Fail r) = same_report
scalar_same Wrong = same_wrong

abbrev unary_scalar : UnOp → Component → Out Scalar
unary_scalar op v = and_then (scalar_of_datum v) (λ s. or_wrong (unary_result op s))

module _ (tight : Bool) (budget : ℕ) (dir : Bool) where
  -- a step that gives one scalar
  one_sim : {sizes : Option Sizing} {d : Names Component} {n x : ℕ} (a : Block_operation) (o : Out Scalar) {p : Out FlatValue} → n ≤ x → operated d a ≡ one o → p ≡ and_then o (λ s. Val (Scalar_value s)) → Sim (Gives d n (Standing sizes (Scalar_known (atom.Name x)) (suc x))) (run tight budget (step (x ∷ []) (Operate a)) d) (the p) dir
  unfolding act_means
  one_sim {d} {n} {x} a o {p} le e f =
      step_sim tight budget dir {h = Scalar_shape} (x ∷ []) (Operate a)
      (the_sim dir (subst (λ z. Same_out (Is_value Scalar_shape) z p) (sym e) (subst (λ z. Same_out (Is_value Scalar_shape) (one o) z) (sym f) (scalar_same o))))
      (le, omega arith) laid_scalar

  operated_binary : (op : BinOp) (at : Place) {d : Names Component} {n : ℕ} {u w : Atom} {a b : Component} → Has d n u a → Has d n w b → operated d (operation.Binary op at u w) ≡ one (binary_scalar op at a b)
  unfolding operated
  operated_binary op at {d} {w = w} {a} h k =
      ap (λ z. and_then z (λ v. and_then (value_of d w) (λ v'. one (binary_scalar op at v v')))) h.value
      ∙ ap (λ z. and_then z (λ v'. one (binary_scalar op at a v'))) k.value

  operated_unary : (op : UnOp) {d : Names Component} {n : ℕ} {u : Atom} {a : Component} → Has d n u a → operated d (operation.Unary op u) ≡ one (unary_scalar op a)
  unfolding operated
  operated_unary op h = ap (λ z. and_then z (λ v. one (and_then (scalar_of_datum v) (λ s. or_wrong (unary_result op s))))) h.value

-- ---- comparisons

-- one truth value
abbrev Is_truth : List Component → Bool → Type 0
Is_truth cs b = cs ≡ Scalar_datum (scalar.Bool b) ∷ []

compared_same : (o : Out Bool) → Same_out Is_truth (one (and_then o (λ b. Val (scalar.Bool b)))) o
compared_same (Val b) = same_value refl
compared_same (Fail r) = same_report
compared_same Wrong = same_wrong

truth_given : (k : Bool → Bool) (o : Out Bool) → and_then o (λ b. Val (truth (k b))) ≡ and_then (and_then o (λ b. Val (scalar.Bool (k b)))) (λ s. Val (scalar_value s))
truth_given k (Val b) = refl
truth_given k (Fail r) = refl
truth_given k Wrong = refl

reported_given : (op : BinOp) (at : Place) (v w : Component) → on_scalars op at (as_flat v) (as_flat w) ≡ and_then (and_then (scalar_of_datum v) (λ a. and_then (scalar_of_datum w) (λ b. reported at (binary_result op a b)))) (λ s. Val (scalar_value s))
reported_given op at (Scalar_datum a) (Scalar_datum b) = refl
reported_given op at (Scalar_datum a) w = refl
reported_given op at v w = refl

-- what an operation gives
given_value : (op : BinOp) (at : Place) (v w : Component) → binary_value op at (as_flat v) (as_flat w) ≡ and_then (binary_scalar op at v w) (λ s. Val (scalar_value s))
given_value binary.Eq at v w = truth_given (λ b. b) (equal (as_flat v) (as_flat w))
given_value binary.Ne at v w = truth_given not (equal (as_flat v) (as_flat w))
given_value op at v w = reported_given op at v w

given_one : (op : UnOp) (v : Component) → on_scalar op (as_flat v) ≡ and_then (unary_scalar op v) (λ s. Val (scalar_value s))
given_one op (Scalar_datum a) = refl
given_one op v = refl

given_converted : (to : ScalarType) (v : Component) → and_then (scalar_of (as_flat v)) (λ s. Val (scalar_value (converted to s))) ≡ and_then (and_then (scalar_of_datum v) (λ s. Val (converted to s))) (λ s. Val (scalar_value s))
given_converted to (Scalar_datum a) = refl
given_converted to v = refl

pub truth_of-as : (v : Component) → truth_of (as_flat v) ≡ truth_of_datum v
truth_of-as (Scalar_datum (scalar.Int t n)) = refl
truth_of-as (Scalar_datum (scalar.Bool b)) = refl
truth_of-as v = refl

pub turns_of-as : (v : Component) → turns_of (as_flat v) ≡ turns_of_datum v
turns_of-as (Scalar_datum s) = refl
turns_of-as v = refl

abbrev Truth_standing : Atom → ℕ → Names Component → Bool → Type 0
Truth_standing u n e b = Has e n u (Scalar_datum (scalar.Bool b))

-- whether two components are equal
abbrev compared : List Component → Out Bool
compared (a ∷ b ∷ []) = equal (as_flat a) (as_flat b)
compared ds = Wrong

compared_is : (v w : FlatValue) (cs : List Component) → v ∷ w ∷ [] ≡ all_values cs → equal v w ≡ compared cs
compared_is v w [] q = absurd (cc)
compared_is v w (a ∷ []) q = absurd (let z : v ∷ w ∷ [] ≡ as_flat a ∷ [] = q in cc)
compared_is v w (a ∷ b ∷ []) q =
    let z : v ∷ w ∷ [] ≡ as_flat a ∷ as_flat b ∷ [] = q in
    let e : v ≡ as_flat a = cc in
    let f : w ≡ as_flat b = cc in
    ap (λ y. equal y w) e ∙ ap (λ y. equal (as_flat a) y) f
compared_is v w (a ∷ b ∷ c ∷ cs) q = absurd (let z : v ∷ w ∷ [] ≡ as_flat a ∷ as_flat b ∷ as_flat c ∷ all_values cs = q in cc)

mutual
  pub equals_grow : {at : Place} {s t : Known} {n m : ℕ} {bs : Bindings} {u : Atom} → Equals at s t n bs u m → n ≤ m
  equals_grow (e_scalars le) = omega (arith, le)
  equals_grow (e_packed r le) = omega (arith, packs_all_grow r, le)
  equals_grow (e_tuples h) = all_equal_grow h
  equals_grow (e_records h) = fields_equal_grow h

  all_equal_grow : {at : Place} {ss ts : Knowns} {n m : ℕ} {bs : Bindings} {u : Atom} → All_equal at ss ts n bs u m → n ≤ m
  all_equal_grow e_none = omega arith
  all_equal_grow (e_more h k le) = omega (arith, equals_grow h, all_equal_grow k, le)

  fields_equal_grow : {at : Place} {fs gs : Known_fields} {n m : ℕ} {bs : Bindings} {u : Atom} → Fields_equal at fs gs n bs u m → n ≤ m
  fields_equal_grow e_no_field = omega arith
  fields_equal_grow (e_field q h k le) = omega (arith, equals_grow h, fields_equal_grow k, le)

module _ (tight : Bool) (budget : ℕ) (dir : Bool) where
  truth_named : {d : Names Component} {n x : ℕ} (b : Bool) → n ≤ x → (cs : List Component) → Is_truth cs b → Same_out (Gives d n (Truth_standing (atom.Name x) (suc x))) (or_wrong (bound (x ∷ []) cs d)) (Val b)
  truth_named {d} {n} {x} b le cs e =
      subst (λ z. Same_out (Gives d n (Truth_standing (atom.Name x) (suc x))) (or_wrong (bound (x ∷ []) z d)) (Val b)) (sym e)
      (same_value (record { extends = extends_one n x (Scalar_datum (scalar.Bool b)) d le; says = has_new x (Scalar_datum (scalar.Bool b)) d }))

  truth_step : {d : Names Component} {n x : ℕ} (a : Action) {P : Rel Bool} → n ≤ x → Sim Is_truth (act_means tight budget a d) P dir → Sim (Gives d n (Truth_standing (atom.Name x) (suc x))) (run tight budget (step (x ∷ []) a) d) P dir
  unfolding run
  truth_step a {P} le sim =
      sim_left dir (alike_back (alike_given _)) (sim_right dir (alike_given P) (then_sim dir sim (λ cs b e. the_sim dir (truth_named b le cs e))))

  chosen : (a b : Bool) {d : Names Component} {n : ℕ} {w : Atom} → Has d n w (Scalar_datum (scalar.Bool b)) → Sim Is_truth (choose a (the (values_of d (w ∷ []))) (the (values_of d (atom.Constant (scalar.Bool false) ∷ [])))) (the (Val (cond a b false))) dir
  chosen true b {d} h = the_sim dir (subst (λ z. Same_out Is_truth (and_then z (λ v. Val (v ∷ []))) (Val b)) (sym h.value) (same_value refl))
  chosen false b h = the_sim dir (same_value refl)

  both_step : {d : Names Component} {n m m' x : ℕ} {u w : Atom} (a b : Bool) → n ≤ x → Has d m u (Scalar_datum (scalar.Bool a)) → Has d m' w (Scalar_datum (scalar.Bool b)) → Sim (Gives d n (Truth_standing (atom.Name x) (suc x))) (run tight budget (step (x ∷ []) (both_hold u w)) d) (the (Val (cond a b false))) dir
  unfolding act_means body_means
  both_step {d} {u = u} {w} a b le h k = truth_step (both_hold u w) le (known_left dir (truth_of_atom d u) a _ _ (ap (λ z. and_then z truth_of_datum) h.value) (chosen a b k))

  if_same_name : {d : Names Component} {n : ℕ} {S : Names Component → Bool → Type 0} {K : Rel (Names Component)} (z : Bool) → z ≡ true → (o p : Out Bool) → Sim (Gives d n S) K (the o) dir → Sim (Gives d n S) K (the (cond z o p)) dir
  if_same_name {d} {n} {S} {K} z e o p h = subst (λ y. Sim (Gives d n S) K (the (cond y o p)) dir) (sym e) h

  -- a comparison, those that follow it, and whether both hold
  both_sim : {d : Names Component} {n n1 n2 x : ℕ} (bs cs : Bindings) {u w : Atom} {o p : Out Bool} → n2 ≤ x → n ≤ n1 → n1 ≤ n2 → Sim (Gives d n (Truth_standing u n1)) (run tight budget bs d) (the o) dir → ((e : Names Component) → Extends n d e → Sim (Gives e n1 (Truth_standing w n2)) (run tight budget cs e) (the p) dir) → Sim (Gives d n (Truth_standing (atom.Name x) (suc x))) (run tight budget (bs ++ (cs ++ step (x ∷ []) (both_hold u w))) d) (the (operations.both_hold o p)) dir
  both_sim {d} {n} {n1} {n2} {x} bs cs {u} {w} {o} {p} le g1 g2 h l =
      sim_right dir (alike_joined o _)
      (seq_sim tight budget dir bs (cs ++ step (x ∷ []) (both_hold u w)) g1 h
      (λ e a ext ha. sim_right dir (alike_joined p _)
      (seq_sim tight budget dir cs (step (x ∷ []) (both_hold u w)) g2 (l e ext)
      (λ e' b ext' hb. both_step a b le (has_on ext' g2 u ha) hb))))

  packed_equal : (at : Place) {e : Names Component} {m x : ℕ} {a b : Atom} {ds : List Component} → m ≤ x → All_same (Has e m) (a ∷ b ∷ []) ds → Sim (Gives e m (Truth_standing (atom.Name x) (suc x))) (run tight budget (step (x ∷ []) (Operate (operation.Binary binary.Eq at a b))) e) (the (compared ds)) dir
  unfolding act_means
  packed_equal at le (all_more {x' = c} h (all_more {x' = c'} k all_none)) =
      truth_step _ le (the_sim dir (subst (λ z. Same_out Is_truth z (equal (as_flat c) (as_flat c'))) (sym (operated_binary tight budget dir binary.Eq at h k)) (compared_same (equal (as_flat c) (as_flat c')))))

  mutual
    unfolding all_equal fields_equal act_means

    equals_sim : {sizes : Option Sizing} {at : Place} {s t : Known} {n m : ℕ} {bs : Bindings} {u : Atom} {d : Names Component} {v w : FlatValue} → Equals at s t n bs u m → Stands sizes d n s v → Stands sizes d n t w → Sim (Gives d n (Truth_standing u m)) (run tight budget bs d) (the (equal v w)) dir
    equals_sim {at} {d = d} (e_scalars {u = u} {w} {n = n} {x = x} le) (s_scalar {c = a} {v = v} e h) (s_scalar {c = b} {v = v'} f k) =
        subst (λ y. Sim (Gives d n (Truth_standing (atom.Name x) (suc x))) (run tight budget (step (x ∷ []) (Operate (operation.Binary binary.Eq at u w))) d) (the (equal y v')) dir) (sym e)
        (subst (λ y. Sim (Gives d n (Truth_standing (atom.Name x) (suc x))) (run tight budget (step (x ∷ []) (Operate (operation.Binary binary.Eq at u w))) d) (the (equal (as_flat a) y)) dir) (sym f)
        (truth_step _ le (the_sim dir (subst (λ z. Same_out Is_truth z (equal (as_flat a) (as_flat b))) (sym (operated_binary tight budget dir binary.Eq at h k)) (compared_same (equal (as_flat a) (as_flat b)))))))
    equals_sim {at} {d = d} {v = v} {w = w} (e_packed {u = a} {w = b} {n = n} {m = m} {x = x} {bs = bs} r le) h k =
        let q = packs_all_data tight budget dir r (all_more h (all_more k all_none)) in
        subst (λ z. Sim (Gives d n (Truth_standing (atom.Name x) (suc x))) (run tight budget (bs ++ step (x ∷ []) (Operate (operation.Binary binary.Eq at a b))) d) (the z) dir) (sym (compared_is v w q.0 q.2))
        (sim_right dir (alike_value q.0 (λ ds. the (compared ds)))
        (seq_sim tight budget dir bs _ (packs_all_grow r) (subst (λ z. Sim (Gives d n (All_packed (a ∷ b ∷ []) m)) (run tight budget bs d) (the z) dir) q.1 (packs_all_sim tight budget dir r (all_more h (all_more k all_none))))
        (λ e ds y hs. packed_equal at le hs)))
    equals_sim (e_tuples r) (s_tuple h) (s_tuple k) = all_equal_sim r h k
    equals_sim (e_records r) (s_record h) (s_record k) = fields_equal_sim r h k

    all_equal_sim : {sizes : Option Sizing} {at : Place} {ss ts : Knowns} {n m : ℕ} {bs : Bindings} {u : Atom} {d : Names Component} {vs ws : FlatValues} → All_equal at ss ts n bs u m → All_stand sizes d n ss vs → All_stand sizes d n ts ws → Sim (Gives d n (Truth_standing u m)) (run tight budget bs d) (the (all_equal vs ws)) dir
    all_equal_sim e_none s_none s_none = none_sim tight budget dir true refl (record { value = refl; below = tt })
    all_equal_sim (e_more {bs = bs} {cs} {u} {w} r rs le) (s_more h hs) (s_more k ks) = both_sim bs cs le (equals_grow r) (all_equal_grow rs) (equals_sim r h k) (λ e x. all_equal_sim rs (all_on x (equals_grow r) hs) (all_on x (equals_grow r) ks))

    fields_equal_sim : {sizes : Option Sizing} {at : Place} {fs gs : Known_fields} {n m : ℕ} {bs : Bindings} {u : Atom} {d : Names Component} {vs ws : FlatFields} → Fields_equal at fs gs n bs u m → Fields_stand sizes d n fs vs → Fields_stand sizes d n gs ws → Sim (Gives d n (Truth_standing u m)) (run tight budget bs d) (the (fields_equal vs ws)) dir
    fields_equal_sim e_no_field s_no_field s_no_field = none_sim tight budget dir true refl (record { value = refl; below = tt })
    fields_equal_sim (e_field {f} {g} {bs = bs} {cs} q r rs le) (s_field h hs) (s_field k ks) =
        if_same_name (bytes_eq f g) q _ _ (both_sim bs cs le (equals_grow r) (fields_equal_grow rs) (equals_sim r h k) (λ e x. fields_equal_sim rs (fields_on x (equals_grow r) hs) (fields_on x (equals_grow r) ks)))

-- ---- operations

pub operates_grow : {row : Row} {wanted : Option Size_test} {t : IntType} {o : Operation Ref BindId} {at : Place} {ss : List Known} {n m : ℕ} {bs : Bindings} {s : Known} → Operates row wanted t o at ss n bs s m → n ≤ m
operates_grow (o_integer q) = omega arith
operates_grow o_truth = omega arith
operates_grow o_tuple = omega arith
operates_grow (o_record q) = omega arith
operates_grow (o_binary le) = omega (arith, le)
operates_grow (o_equal r) = equals_grow r
operates_grow (o_unequal r le) = omega (arith, equals_grow r, le)
operates_grow (o_negate le) = omega (arith, le)
operates_grow (o_complement le) = omega (arith, le)
operates_grow (o_project q) = omega arith
operates_grow o_replace = omega arith
operates_grow (o_part le) = omega (arith, le)
operates_grow (o_changed r le) = omega (arith, packs_grow r, le)
operates_grow o_ascribe = omega arith
operates_grow o_coerce = omega arith
operates_grow o_declared = omega arith
operates_grow o_assert = omega arith
operates_grow (o_made q r le) = omega (arith, packs_all_grow r, le)

pub primitive_grows : {p : Primitive} {at : Place} {ss : List Known} {n m : ℕ} {bs : Bindings} {s : Known} → Primitive_operates p at ss n bs s m → n ≤ m
primitive_grows (p_convert le) = omega (arith, le)
primitive_grows (p_min le) = omega (arith, le)
primitive_grows (p_max le) = omega (arith, le)
primitive_grows (p_abs le) = omega (arith, le)
primitive_grows (p_popc le) = omega (arith, le)

-- nothing, for this value
abbrev Is_nothing : FlatValue → List Component → FlatValue → Type 0
Is_nothing w cs v = (cs ≡ []) × (v ≡ w)

asserted_same : (at : Place) (w : FlatValue) (o : Out Bool) → Same_out (Is_nothing w) (and_then o (asserted at)) (and_then o (λ b. cond b (Val w) (Fail (report kind.Assert at))))
asserted_same at w (Val true) = same_value (refl, refl)
asserted_same at w (Val false) = same_report
asserted_same at w (Fail r) = same_report
asserted_same at w Wrong = same_wrong

-- a row that is told, whatever names stand beside
abbrev pub Told_row : Row → Data_shape → ℕ → Names Component → Type 0
Told_row row told n d = (e : Names Component) → Extends n d e → row_shape e row ≡ Val told

-- a test that is told: none, which each value passes, or one of the shape of what is known of a value
abbrev pub Told_test : Option Sizing → Option Size_test → (FlatValue → Bool) → ℕ → Names Component → Type 0
Told_test sizes None test n d = (e : Names Component) → Extends n d e → (s : Known) (v : FlatValue) → Stands sizes e n s v → test v ≡ true
Told_test sizes (Some t) test n d = (e : Names Component) → Extends n d e → (s : Known) (v : FlatValue) → Stands sizes e n s v → and_then (row_shape e (known_row s)) (passes e t) ≡ Val (test v)

-- only an array literal looks at the row
made_told : (e : Names Component) (row : Row) (told : Data_shape) (k : Making) (at : Place) (ds : List Datum) → row_shape e row ≡ Val told → and_then (row_shape e (made_row row k)) (λ h. made false h k at ds) ≡ made false told k at ds
unfolding made
made_told e row told Make_array at ds q = ap (λ z. and_then z (λ h. made false h Make_array at ds)) q
made_told e row told (Make_index parts) at [] q = refl
made_told e row told (Make_index parts) at (d ∷ ds) q = refl
made_told e row told Make_update at [] q = refl
made_told e row told Make_update at (d ∷ ds) q = refl
made_told e row told (Make_range stepped end) at ds q = refl

module _ (tight : Bool) (budget : ℕ) (dir : Bool) where
  after_nothing : {sizes : Option Sizing} {d : Names Component} {n : ℕ} {s : Known} (w : FlatValue) → Stands sizes d n s w → (cs : List Component) (v : FlatValue) → Is_nothing w cs v → Same_out (Gives d n (Standing sizes s n)) (or_wrong (bound [] cs d)) (Val v)
  after_nothing {sizes = sizes} {d} {n} {s} w h cs v e =
      subst (λ z. Same_out (Gives d n (Standing sizes s n)) (or_wrong (bound [] z d)) (Val v)) (sym e.0)
      (same_value (record { extends = extends_same n d; says = subst (λ z. Stands sizes d n s z) (sym e.1) h }))

  assert_sim : {sizes : Option Sizing} (at : Place) {d : Names Component} {n : ℕ} {u : Atom} {c : Component} {s : Known} {w : FlatValue} → Has d n u c → Stands sizes d n s w → Sim (Gives d n (Standing sizes s n)) (run tight budget (step [] (Operate (operation.Assert at u))) d) (the (and_then (truth_of_datum c) (λ b. cond b (Val w) (Fail (report kind.Assert at))))) dir
  unfolding run act_means operated
  assert_sim at {d} {n} {u} {c} {s} {w} h k =
      sim_left dir (alike_back (alike_given _)) (sim_right dir (alike_given _) (then_sim dir
      (the_sim dir (subst (λ z. Same_out (Is_nothing w) (and_then z (λ v. and_then (truth_of_datum v) (asserted at))) (and_then (truth_of_datum c) (λ b. cond b (Val w) (Fail (report kind.Assert at))))) (sym h.value) (asserted_same at w (truth_of_datum c))))
      (λ cs v e. the_sim dir (after_nothing w k cs v e))))

  -- a step that reads components
  read_sim : {sizes : Option Sizing} {d : Names Component} {n x : ℕ} {us : List Atom} {cs : List Component} {o : Out FlatValue} (k : act.Reading) → n ≤ x → All_same (Has d n) us cs → Same_out (Is_value Scalar_shape) (reads k cs) o → Sim (Gives d n (Standing sizes (Rattle.unfold.specs.Unfolding.named x) (suc x))) (run tight budget (step (x ∷ []) (act.Read k us)) d) (the o) dir
  unfolding act_means
  read_sim {x = x} {us = us} {o = o} k le h same =
      step_sim tight budget dir {h = Scalar_shape} (x ∷ []) (act.Read k us) (the_sim dir (subst (λ z. Same_out (Is_value Scalar_shape) (and_then z (reads k)) o) (sym (values_are h)) same)) (le, omega arith) laid_scalar

  changed : {sizes : Option Sizing} {d : Names Component} {n x : ℕ} {u w : Atom} {c : Component} {v z : FlatValue} (f : _) → v ≡ as_flat c → Has d n u c → Stands sizes d n (Scalar_known w) z → n ≤ x
      → Sim (Gives d n (Standing sizes (Rattle.unfold.specs.Unfolding.named x) (suc x))) (run tight budget (step (x ∷ []) (act.Read (act.Replace_at f) (u ∷ w ∷ []))) d) (the (and_then (fields_of v) (λ fs. Val (Record_value (values.replaced f z fs))))) dir
  changed {c = c} {v = v} {z = z} f e h (s_scalar {c = b} q g) le =
      read_sim (act.Replace_at f) le (all_more h (all_more g all_none))
      (subst (λ y. Same_out (Is_value Scalar_shape) (reads (act.Replace_at f) (c ∷ b ∷ [])) (and_then (fields_of y) (λ fs. Val (Record_value (values.replaced f z fs))))) (sym e)
      (subst (λ y. Same_out (Is_value Scalar_shape) (reads (act.Replace_at f) (c ∷ b ∷ [])) (and_then (fields_of (as_flat c)) (λ fs. Val (Record_value (values.replaced f y fs))))) (sym q) (replace_read f c b)))

  -- `:>`, where there is a sizing and where there is none
  coerced_same : (at : Place) (w : FlatValue) (b : Bool) → Same_out (Is_nothing w) (checked b kind.Size at (Val [])) (cond b (Val w) (Fail (report kind.Size at)))
  coerced_same at w true = same_value (refl, refl)
  coerced_same at w false = same_report

  coerce_sim : {sizes : Option Sizing} (at : Place) (wanted : Option Size_test) (test : FlatValue → Bool) {d : Names Component} {n : ℕ} {s : Known} {v : FlatValue} → Told_test sizes wanted test n d → Stands sizes d n s v → Sim (Gives d n (Standing sizes s n)) (run tight budget (tested wanted at s) d) (the (cond (test v) (Val v) (Fail (report kind.Size at)))) dir
  unfolding run act_means
  coerce_sim at None test {v = v} tests h = none_sim tight budget dir _ (ap (λ z. cond z (Val v) (Fail (report kind.Size at))) (tests _ (extends_same _ _) _ _ h)) h
  coerce_sim at (Some t) test {d} {s = s} {v} tests h =
      sim_left dir (alike_back (alike_given _)) (sim_right dir (alike_given _) (then_sim dir
      (the_sim dir (subst (λ z. Same_out (Is_nothing v) z (cond (test v) (Val v) (Fail (report kind.Size at)))) (sym (sym (and_then_twice (row_shape d (known_row s)) (passes d t) (λ b. checked b kind.Size at (Val []))) ∙ ap (λ z. and_then z (λ b. checked b kind.Size at (Val []))) (tests _ (extends_same _ _) _ _ h)))
      (coerced_same at v (test v))))
      (λ cs w e. the_sim dir (after_nothing v h cs w e))))

  pub operates_sim : {sizes : Option Sizing} {t : IntType} {o : Operation Ref BindId} {at : Place} {ss : List Known} {n m : ℕ} {bs : Bindings} {s : Known} {d : Names Component} {vs : List FlatValue} {row : Row} {told : Data_shape} {wanted : Option Size_test} (test : FlatValue → Bool) → Told_row row told n d → Told_test sizes wanted test n d → Operates row wanted t o at ss n bs s m → All_same (Stands sizes d n) ss vs → Sim (Gives d n (Standing sizes s m)) (run tight budget bs d) (operated_by false told (making o) (coerced test o at vs (operate t o at vs)) at vs) dir
  unfolding operate coerced unary_result result_of_one
  operates_sim test rows tests (o_integer {suffix = None} q) all_none = none_sim tight budget dir _ refl (s_scalar refl (record { value = ap (λ z. Val (Scalar_datum z)) q; below = tt }))
  operates_sim test rows tests (o_integer {suffix = Some u} q) all_none = none_sim tight budget dir _ refl (s_scalar refl (record { value = ap (λ z. Val (Scalar_datum z)) q; below = tt }))
  operates_sim test rows tests o_truth all_none = none_sim tight budget dir _ refl (s_scalar refl (record { value = refl; below = tt }))
  operates_sim test rows tests o_tuple hs = none_sim tight budget dir _ refl (s_tuple (knowns_stand hs))
  operates_sim test rows tests (o_record {fs = names} {known} q) hs =
      let r = named_stand names known hs q in
      none_sim tight budget dir _ (ap (λ z. and_then (or_wrong z) (λ fs. Val (Record_value (values.fields fs)))) r.is) (s_record (fields_stand r.stand))
  operates_sim test rows tests (o_binary {op} {at = at} {u} {w} le) (all_more (s_scalar {c = a} e h) (all_more (s_scalar {c = b} {v = v'} f k) all_none)) =
      one_sim tight budget dir (operation.Binary op at u w) (binary_scalar op at a b) le (operated_binary tight budget dir op at h k) (ap (λ z. binary_value op at z v') e ∙ ap (binary_value op at (as_flat a)) f ∙ given_value op at a b)
  operates_sim test rows tests (o_equal {bs = bs} r) (all_more {x' = v} h (all_more {x' = w} k all_none)) =
      sim_right dir (alike_joined (equal v w) (λ b. Val (truth b))) (made_sim tight budget dir truth bs (equals_sim tight budget dir r h k) (λ e b x k. s_scalar refl k))
  operates_sim test rows tests (o_unequal {bs = bs} {u} r le) (all_more {x' = v} h (all_more {x' = w} k all_none)) =
      sim_right dir (alike_joined (equal v w) (λ b. Val (truth (not b))))
      (seq_sim tight budget dir bs _ (equals_grow r) (equals_sim tight budget dir r h k)
      (λ e b x t. one_sim tight budget dir (operation.Unary unary.Not u) (Val (scalar.Bool (not b))) le (operated_unary tight budget dir unary.Not t) refl))
  operates_sim test rows tests (o_negate {u = u} le) (all_more (s_scalar {c = a} e h) all_none) = one_sim tight budget dir (operation.Unary unary.Neg u) (unary_scalar unary.Neg a) le (operated_unary tight budget dir unary.Neg h) (ap (on_scalar unary.Neg) e ∙ given_one unary.Neg a)
  operates_sim test rows tests (o_complement {u = u} le) (all_more (s_scalar {c = a} e h) all_none) = one_sim tight budget dir (operation.Unary unary.Not u) (unary_scalar unary.Not a) le (operated_unary tight budget dir unary.Not h) (ap (on_scalar unary.Not) e ∙ given_one unary.Not a)
  operates_sim test rows tests (o_project {f = f} {s' = s'} q) (all_more h all_none) = let r = part_stands f s' h q in none_sim tight budget dir r.value r.is r.stands
  operates_sim test rows tests (o_part {f = f} {u = u} le) (all_more {x' = v} (s_scalar {c = c} e h) all_none) =
      read_sim (act.Part_at f) le (all_more h all_none) (subst (λ z. Same_out (Is_value Scalar_shape) (reads (act.Part_at f) (c ∷ [])) (part f z)) (sym e) (part_read f c))
  operates_sim {n = n} {d = d} test rows tests (o_changed {m = m} {x = x} {f = f} {u = u} {w = w} {bs = bs} r le) (all_more {x' = v} (s_scalar {c = c} e h) (all_more {x' = v'} k all_none)) =
      sim_right dir (alike_value v' (λ z. the (and_then (fields_of v) (λ fs. Val (Record_value (values.replaced f z fs))))))
      (seq_sim tight budget dir bs _ (packs_grow r) (pack_stands tight budget dir r k)
      (λ e' z y kz. changed f e (has_on y (packs_grow r) u h) kz le))
  operates_sim test rows tests (o_replace {f = f}) (all_more (s_record h) (all_more k all_none)) = none_sim tight budget dir _ refl (s_record (replaced_stands f k h))
  operates_sim test rows tests o_ascribe (all_more h all_none) = none_sim tight budget dir _ refl h
  operates_sim {at = at} test rows tests o_coerce (all_more {x' = v} h all_none) = coerce_sim at _ test tests h
  operates_sim test rows tests o_declared (all_more h all_none) = none_sim tight budget dir _ refl h
  operates_sim {sizes = sizes} {d = d} test rows tests (o_assert {n = n} {at = at} {u = u}) (all_more {x' = v} (s_scalar {c = c} e h) all_none) =
      subst (λ z. Sim (Gives d n (Standing sizes (Scalar_known u) n)) (run tight budget (step [] (Operate (operation.Assert at u))) d) (the (and_then z (λ b. cond b (Val v) (Fail (report kind.Assert at))))) dir) (sym (ap truth_of e ∙ truth_of-as c)) (assert_sim at h (s_scalar e h))
  operates_sim {sizes = sizes} {t} {o} {at} {n = n} {d = d} {vs = vs} {row = row} {told} test rows tests (o_made {m = m} {x = x} {k = k} {bs = bs} {us} q r le) hs =
      subst (λ z. Sim (Gives d n (Standing sizes (Rattle.unfold.specs.Unfolding.named x) (suc x))) (run tight budget (bs ++ step (x ∷ []) (Rattle.fut_blocks.specs.Plain.Make (made_row row k) k at us)) d) (operated_by false told z (coerced test o at vs (operate t o at vs)) at vs) dir) (sym q)
      (seq_sim tight budget dir bs _ (packs_all_grow r) (packs_all_sim tight budget dir r hs) (λ e ds x h. make_sim tight budget dir told (made_row row k) k at le h (made_told e row told k at ds (rows e x))))

  pub primitive_sim : {sizes : Option Sizing} {p : Primitive} {at : Place} {ss : List Known} {n m : ℕ} {bs : Bindings} {s : Known} {d : Names Component} {vs : List FlatValue} → Primitive_operates p at ss n bs s m → All_same (Stands sizes d n) ss vs → Sim (Gives d n (Standing sizes s m)) (run tight budget bs d) (the (primitive p at vs)) dir
  unfolding primitive operated
  primitive_sim (p_convert {to} {u = u} le) (all_more (s_scalar {c = a} e h) all_none) =
      one_sim tight budget dir (operation.Convert to u) (and_then (scalar_of_datum a) (λ s. Val (converted to s))) le (ap (λ z. and_then z (λ v. one (and_then (scalar_of_datum v) (λ s. Val (converted to s))))) h.value)
      (ap (λ z. and_then (scalar_of z) (λ s. Val (scalar_value (converted to s)))) e ∙ given_converted to a)
  primitive_sim (p_min {at = at} {u} {w} le) (all_more (s_scalar {c = a} e h) (all_more (s_scalar {c = b} {v = v'} f k) all_none)) =
      one_sim tight budget dir (operation.Binary binary.Min at u w) (binary_scalar binary.Min at a b) le (operated_binary tight budget dir binary.Min at h k) (ap (λ z. on_scalars binary.Min at z v') e ∙ ap (on_scalars binary.Min at (as_flat a)) f ∙ reported_given binary.Min at a b)
  primitive_sim (p_max {at = at} {u} {w} le) (all_more (s_scalar {c = a} e h) (all_more (s_scalar {c = b} {v = v'} f k) all_none)) =
      one_sim tight budget dir (operation.Binary binary.Max at u w) (binary_scalar binary.Max at a b) le (operated_binary tight budget dir binary.Max at h k) (ap (λ z. on_scalars binary.Max at z v') e ∙ ap (on_scalars binary.Max at (as_flat a)) f ∙ reported_given binary.Max at a b)
  primitive_sim (p_abs {u = u} le) (all_more (s_scalar {c = a} e h) all_none) = one_sim tight budget dir (operation.Unary unary.Abs u) (unary_scalar unary.Abs a) le (operated_unary tight budget dir unary.Abs h) (ap (on_scalar unary.Abs) e ∙ given_one unary.Abs a)
  primitive_sim (p_popc {u = u} le) (all_more (s_scalar {c = a} e h) all_none) = one_sim tight budget dir (operation.Unary unary.Popc u) (unary_scalar unary.Popc a) le (operated_unary tight budget dir unary.Popc h) (ap (on_scalar unary.Popc) e ∙ given_one unary.Popc a)
