-- Steps without a function: where what they give are the components of what the blocks make, they are covered.
use Rattle.std.proofs.Common.{◌≡◌, ℕ, List, [], ◌∷◌, Bool, true, false, cond, map, refl, sym, ap, ◌∙◌, subst, arith}
use Rattle.std.specs.Prelude.{flat_map, nat_le}
use Rattle.std.proofs.lemmas.List.{append-nil}
use Rattle.fut_scalar.specs.declared.place.Place.{Place}
use Rattle.fut_scalar.specs.declared.report.FailKind.TheVariants as kind
use Rattle.fut_scalar.specs.declared.scalar.ScalarType.{ScalarType}
use Rattle.fut_value.specs.Data.{Shape, Scalar_shape, Datum, Scalar_datum, Tuple_datum, Record_datum, Array_datum, shape_of, weight}
use Rattle.fut_value.specs.Data as shape
use Rattle.fut_value.proofs.Leaves.{weight_of_leaves}
use Rattle.fut_meaning.specs.Arrays.{Making, each_out, exact_of, integer_of_scalar, all_fresh, all_shared, made, checked, most_words}
use Rattle.fut_meaning.specs.Arrays as meaning
use Rattle.fut_meaning.specs.Outcomes.{Out, Val, Fail, Wrong, and_then, gives, the, Then}
use Rattle.fut_meaning.specs.Sames.{All_same, all_none, all_more, same_value}
use Rattle.fut_blocks.specs.declared.block.Atom.{Atom as Source_atom}
use Rattle.fut_blocks.specs.Meaning.{Names}
use Rattle.fut_blocks.specs.Meaning as source
use Rattle.fut_blocks.specs.Plain as block
use Rattle.fut_blocks.specs.Sizes as sizes_of
use Rattle.fut_blocks.specs.Rows.{Row as Told_row, Unknown_row, Scalar_row, Tuple_row, Record_row, Array_row, Shape_of, Rows_of, Part_of, Field_of, Unzipped_row, Rows, no_row, row_and, Named_rows, no_named_row, named_row_and, Extent, Nowhere, Exactly, Worth_of, Length_of}
use Rattle.steps_simulate.specs.Covers.{Covers}
use Rattle.steps_simulate.proofs.Covers.{covers_exact, covers_more_words, covers_known_left, covers_known_right, covers_report, covers_wrong}
use Rattle.core_ir.specs.declared.block.Atom.{Atom}
use Rattle.core_ir.specs.Arrays.{exact_in, done, is_new}
use Rattle.core_ir.specs.Bundles.{Component, Row, array_words, weight_of, within_weight}
use Rattle.core_ir.specs.Meaning.{Env, value_of, values_of, groups_of, act_means}
use Rattle.core_ir.specs.Plain.{Deed, Do}
use Rattle.core_values.specs.Claims.{apart}
use Rattle.core_values.specs.Components.{components, One_type, scalars, Regular}
use Rattle.core_values.proofs.Counts.{counts_agree}
use Rattle.core_values.proofs.Good.{components_are_sized}
use Rattle.core_values.proofs.Updating.{On_value}
use Rattle.lowering.specs.Arrays.{Integers, no_integer, integer_and, Each_operand, no_more, and_more, Row_in, Rows_in, Named_in, Extent_in}
use Rattle.lowering.specs.Knowns.{Scope}
use Rattle.lowering.specs.Programs.{Is_data, Are_data, Are_components}
use Rattle.lowering.proofs.Stands.{Have, Holds, lowers_found, operand_found, values_are}

-- ---- results

pub one_datum : {k : Shape} {d : Datum} → Is_data k d → Are_components (k ∷ []) (components d) (d ∷ [])
one_datum {d = d} i = record { are = sym (append-nil (components d)); data_are = all_more i all_none }

-- what is new on both sides is counted there
fresh_out : (k : Shape) (p : Out Datum) → On_value (Is_data k) p → Covers (Are_components (k ∷ [])) (Then (the (apart p)) (λ cs. gives (array_words cs) cs)) (Then (the (all_fresh p)) source.counted)
fresh_out k (Val d) g =
    covers_known_left (Val (components d)) (components d) (λ cs. gives (array_words cs) cs) _ refl
    (covers_known_right (Val (shape.array_words (shape_of d), d)) (shape.array_words (shape_of d), d) source.counted _ refl
    (covers_more_words (let e = counts_agree d (g d refl).regular in omega (arith, e)) (same_value (one_datum (g d refl)))))
fresh_out k (Fail r) g = covers_report r _ _
fresh_out k Wrong g = covers_wrong _ _

shared_out : (k : Shape) (p : Out Datum) → On_value (Is_data k) p → Covers (Are_components (k ∷ [])) (Then (the (apart p)) (λ cs. gives 0 cs)) (Then (the (all_shared p)) source.counted)
shared_out k (Val d) g =
    covers_known_left (Val (components d)) (components d) (λ cs. gives 0 cs) _ refl
    (covers_known_right (Val (0, d)) (0, d) source.counted _ refl (covers_exact (same_value (one_datum (g d refl)))))
shared_out k (Fail r) g = covers_report r _ _
shared_out k Wrong g = covers_wrong _ _

abbrev counted_by : Bool → Out Datum → Out meaning.Counted
counted_by true p = all_fresh p
counted_by false p = all_shared p

made_out : (b : Bool) (k : Shape) (p : Out Datum) → On_value (Is_data k) p → Covers (Are_components (k ∷ [])) (Then (the (apart p)) (λ cs. gives (cond b (array_words cs) 0) cs)) (Then (the (counted_by b p)) source.counted)
made_out true k p g = fresh_out k p g
made_out false k p g = shared_out k p g

module _ (tight : Bool) (budget : ℕ) where
  -- a step that gives the components of what is made
  pub make_covers : (d : Env) (env : Names Datum) (deed : Deed) (at : Place) (uss : List (List Atom)) (r : Told_row) (m : Making) (us : List Source_atom) (vs : List Datum) (h k : Shape) (p : Out Datum)
      → and_then (groups_of d uss) (done false deed at) ≡ apart p → source.values_of env us ≡ Val vs → source.row_shape env r ≡ Val h → made false h m at vs ≡ counted_by (is_new deed) p → On_value (Is_data k) p
      → Covers (Are_components (k ∷ [])) (act_means tight false budget (Do deed at uss) d) (source.act_means tight budget (block.Make r m at us) env)
  unfolding act_means source.act_means
  make_covers d env deed at uss r m us vs h k p e q s t g =
      covers_known_right (source.values_of env us) vs (λ vs. Then (the (and_then (source.row_shape env r) (λ h. made false h m at vs))) source.counted) _ q
      (subst (λ z. Covers (Are_components (k ∷ [])) (Then (the z) (λ cs. gives (cond (is_new deed) (array_words cs) 0) cs)) (Then (the (and_then (source.row_shape env r) (λ h. made false h m at vs))) source.counted)) (sym e)
      (subst (λ z. Covers (Are_components (k ∷ [])) (Then (the (apart p)) (λ cs. gives (cond (is_new deed) (array_words cs) 0) cs)) (Then (the z) source.counted)) (sym (ap (λ z. and_then z (λ h. made false h m at vs)) s ∙ t))
      (made_out (is_new deed) k p g)))

-- ---- operands

-- each operand with its data, each atom with its component, each group with its row
pub record Stood (env : Names Datum) (u : Source_atom) (v : Datum) : Type 0 where
  pub is : source.value_of env u ≡ Val v

pub record Valued (d : Env) (u : Atom) (c : Component) : Type 0 where
  pub is : value_of d u ≡ Val c

pub record Grouped (d : Env) (us : List Atom) (cs : Row) : Type 0 where
  pub are : values_of d us ≡ Val cs

pub values_so : {env : Names Datum} {us : List Source_atom} {vs : List Datum} → All_same (Stood env) us vs → source.values_of env us ≡ Val vs
values_so all_none = refl
values_so {env} (all_more {x' = v} {xs = us} e a) = ap (λ z. and_then z (λ v. and_then (source.values_of env us) (λ vs. Val (v ∷ vs)))) e.is ∙ ap (λ z. and_then z (λ vs. Val (v ∷ vs))) (values_so a)

pub stood : {v : Datum} (env : Names Datum) (u : Source_atom) → source.value_of env u ≡ Val v → Stood env u v
stood env u e = record { is = e }

pub valued : {c : Component} (d : Env) (u : Atom) → value_of d u ≡ Val c → Valued d u c
valued d u e = record { is = e }

pub grouped : {cs : Row} (d : Env) (us : List Atom) → values_of d us ≡ Val cs → Grouped d us cs
grouped d us e = record { are = e }

pub atoms_so : {d : Env} {us : List Atom} {cs : Row} → All_same (Valued d) us cs → values_of d us ≡ Val cs
atoms_so all_none = refl
atoms_so {d} (all_more {x' = c} {xs = us} e a) = ap (λ z. and_then z (λ v. and_then (values_of d us) (λ vs. Val (v ∷ vs)))) e.is ∙ ap (λ z. and_then z (λ vs. Val (c ∷ vs))) (atoms_so a)

pub groups_so : {d : Env} {uss : List (List Atom)} {css : List Row} → All_same (Grouped d) uss css → groups_of d uss ≡ Val css
groups_so all_none = refl
groups_so {d} (all_more {x' = cs} {xs = uss} e a) = ap (λ z. and_then z (λ cs. and_then (groups_of d uss) (λ css. Val (cs ∷ css)))) e.are ∙ ap (λ z. and_then z (λ css. Val (cs ∷ css))) (groups_so a)

pub group_is : {d : Env} {n : ℕ} {us : List Atom} {cs : Row} → Have d n us cs → Grouped d us cs
group_is a = record { are = values_are a }

exact_case : (ds : List Datum) {t : ScalarType} (d : Datum) → One_type (Scalar_shape t) (shape_of d) → each_out exact_in (flat_map components ds) ≡ each_out exact_of ds → each_out exact_in (flat_map components (d ∷ ds)) ≡ each_out exact_of (d ∷ ds)
unfolding components shape_of
exact_case es (Scalar_datum s) scalars e = ap (λ z. and_then (integer_of_scalar s) (λ y. and_then z (λ ys. Val (y ∷ ys)))) e
exact_case es (Tuple_datum ds) x e = elim x [ ]
exact_case es (Record_datum fs) x e = elim x [ ]
exact_case es (Array_datum row ds) x e = elim x [ ]

-- integers, each of one atom
pub exact_same : {hs : List Shape} {ds : List Datum} → Integers hs → Are_data hs ds → each_out exact_in (flat_map components ds) ≡ each_out exact_of ds
exact_same no_integer all_none = refl
exact_same (integer_and i) (all_more {x' = d} {xs' = ds} s a) = exact_case ds d s.typed (exact_same i a)

-- operands of one type
pub record Each_found (d : Env) (h : Shape) (wss : List (List Atom)) (o : Out (List Datum)) : Type 0 where
  pub list : List Datum
  pub is : o ≡ Val list
  pub groups : groups_of d wss ≡ Val (map components list)
  pub typed : All_same Is_data (map (λ d. h) list) list

pub each_found : {d : Env} {n : ℕ} {sc : Scope} {env : Names Datum} {h : Shape} {us : List Source_atom} {wss : List (List Atom)} → Holds d n sc env → Each_operand sc h us wss → Each_found d h wss (source.values_of env us)
each_found k no_more = record { list = []; is = refl; groups = refl; typed = all_none }
each_found {d} {env = env} k (and_more {us = us} {ws = ws} {wss = wss} o os) =
    let f = operand_found k o in
    let g = each_found k os in
    record {
      list = f.datum ∷ g.list;
      is = ap (λ z. and_then z (λ v. and_then (source.values_of env us) (λ vs. Val (v ∷ vs)))) f.is ∙ ap (λ z. and_then z (λ vs. Val (f.datum ∷ vs))) g.is;
      groups = ap (λ z. and_then z (λ cs. and_then (groups_of d wss) (λ css. Val (cs ∷ css)))) (values_are f.have) ∙ ap (λ z. and_then z (λ css. Val (components f.datum ∷ css))) g.groups;
      typed = all_more f.is_data g.typed;
    }

-- ---- rows whose names are all known

pub record Shaped {A : Type 0} (o : Out A) : Type 0 where
  pub shape : A
  pub is : o ≡ Val shape

then_shaped : {A B : Type 0} {o : Out A} {k : A → Out B} → Shaped o → ((a : A) → Shaped (k a)) → Shaped (and_then o k)
then_shaped {k = k} s l = let t = l s.shape in record { shape = t.shape; is = ap (λ z. and_then z k) s.is ∙ t.is }

known_shaped : {A : Type 0} (a : A) → Shaped (Val a)
known_shaped a = record { shape = a; is = refl }

module _ {d : Env} {n : ℕ} {sc : Scope} {env : Names Datum} (k : Holds d n sc env) where
  mutual
    pub row_shaped : (r : Told_row) → Row_in sc r → Shaped (source.row_shape env r)
    row_shaped Unknown_row i = record { shape = shape.Unmet_shape; is = refl }
    row_shaped (Scalar_row t) i = record { shape = Scalar_shape t; is = refl }
    row_shaped (Tuple_row rs) i = let s = rows_shaped rs i in record { shape = shape.Tuple_shape s.shape; is = ap (λ z. and_then z (λ hs. Val (shape.Tuple_shape hs))) s.is }
    row_shaped (Record_row fs) i = let s = named_shaped fs i in record { shape = shape.Record_shape s.shape; is = ap (λ z. and_then z (λ hs. Val (shape.Record_shape hs))) s.is }
    row_shaped (Array_row e r) i = then_shaped (extent_found e i.0) (λ z. then_shaped (row_shaped r i.1) (λ h. known_shaped _))
    row_shaped (Shape_of u) i = let f = lowers_found k i.2 in record { shape = shape_of f.datum; is = ap (λ z. and_then z (λ d. Val (shape_of d))) f.is }
    row_shaped (Rows_of r) i = then_shaped (row_shaped r i) (λ h. known_shaped _)
    row_shaped (Part_of p r) i = then_shaped (row_shaped r i) (λ h. known_shaped _)
    row_shaped (Field_of f r) i = then_shaped (row_shaped r i) (λ h. known_shaped _)
    row_shaped (Unzipped_row e r) i = then_shaped (extent_found e i.0) (λ z. then_shaped (row_shaped r i.1) (λ h. known_shaped _))

    rows_shaped : (rs : Rows) → Rows_in sc rs → Shaped (sizes_of.row_shapes env rs)
    rows_shaped no_row i = known_shaped _
    rows_shaped (row_and r rs) i = then_shaped (row_shaped r i.0) (λ h. then_shaped (rows_shaped rs i.1) (λ hs. known_shaped _))

    named_shaped : (fs : Named_rows) → Named_in sc fs → Shaped (sizes_of.named_shapes env fs)
    named_shaped no_named_row i = known_shaped _
    named_shaped (named_row_and f r fs) i = then_shaped (row_shaped r i.0) (λ h. then_shaped (named_shaped fs i.1) (λ hs. known_shaped _))

    pub extent_found : (e : Extent) → Extent_in sc e → Shaped (source.extent_worth env e)
    extent_found Nowhere i = known_shaped _
    extent_found (Exactly n) i = known_shaped _
    extent_found (Worth_of u) i = let f = lowers_found k i.2 in record { shape = sizes_of.datum_worth f.datum; is = ap (λ z. and_then z (λ d. Val (sizes_of.datum_worth d))) f.is }
    extent_found (Length_of r) i = then_shaped (row_shaped r i) (λ h. known_shaped _)

-- ---- weights

apart_checked : (b : Bool) (at : Place) (d : Datum) → checked b kind.TooLarge at (Val (components d)) ≡ apart (checked b kind.TooLarge at (Val d))
apart_checked true at d = refl
apart_checked false at d = refl

-- data is as heavy as its components
pub within_agrees : (at : Place) (d : Datum) → Regular d → within_weight at (components d) ≡ apart (meaning.within_weight at d)
unfolding within_weight
within_agrees at d g =
    ap (λ z. checked (nat_le (weight_of z) most_words) kind.TooLarge at (Val (components d))) (components_are_sized d g)
    ∙ ap (λ z. checked (nat_le z most_words) kind.TooLarge at (Val (components d))) (sym (weight_of_leaves (shape_of d)))
    ∙ apart_checked (nat_le (weight (shape_of d)) most_words) at d
