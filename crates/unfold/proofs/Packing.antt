-- Data as one component: the steps that make tuples of its parts give what it is.
use Rattle.std.proofs.Common.{◌≡◌, false, ℕ, suc, ◌≤◌, ◌++◌, List, [], ◌∷◌, Bool, refl, sym, ap, ◌∙◌, subst, arith, Option}
use Rattle.fut_scalar.specs.declared.place.Place.{Place}
use Rattle.fut_meaning.specs.Found.{Sizing}
use Rattle.fut_meaning.specs.Arrays.{Making, Counted, made}
use Rattle.fut_ast.specs.Sorts.{Text}
use Rattle.fut_blocks.specs.Records.{named_data, reads}
use Rattle.fut_value.specs.Data.{Shape as Data_shape}
use Rattle.fut_value.specs.Data.{Datum, Tuple_datum, Record_datum, named_and, datums}
use Rattle.fut_meaning.specs.Datums.{as_value, as_values, as_fields, named_datums_of, all_values, datum_of, datums_of, all_data}
use Rattle.fut_meaning.specs.Flats.{FlatValue}
use Rattle.fut_meaning.specs.Outcomes.{Out, Val, Fail, Wrong, and_then, Rel, gives, the, Then}
use Rattle.fut_meaning.specs.Accessors.{or_wrong}
use Rattle.fut_meaning.specs.Sames.{All_same, all_none, all_more, Same_out, same_value, Sim}
use Rattle.fut_meaning.specs.Values as values
use Rattle.fut_meaning.specs.Values.{Tuple_value, no_value, value_and, Record_value, no_field, field_and}
use Rattle.fut_meaning.proofs.Data.{datum_of-as}
use Rattle.fut_meaning.proofs.Sims.{the_sim, then_sim, out_same}
use Rattle.fut_blocks.specs.declared.block.Atom.{Atom}
use Rattle.fut_blocks.specs.declared.block.Atom.TheVariants as atom
use Rattle.fut_blocks.specs.Meaning.{Component, Names, bound, values_of, counted, act_means}
use Rattle.fut_blocks.specs.Plain.{Action}
use Rattle.fut_blocks.specs.Plain as act
use Rattle.fut_blocks.specs.Rows.{Row}
use Rattle.fut_blocks.specs.Sizes.{row_shape}
use Rattle.unfold.specs.Knowns.{Known, Scalar_known, Known_fields}
use Rattle.unfold.specs.Shapes.{Scalar_shape, laid_scalar, split_scalar, Is_value}
use Rattle.unfold.specs.Unfolding.{Bindings, step, named, field_names, field_knowns, Packs, p_atom, p_tuple, p_record, Packs_all, p_none, p_more}
use Rattle.unfold.proofs.Alike.{alike_value, alike_joined, alike_given, alike_back, sim_left, sim_right, known_left}
use Rattle.unfold.proofs.Components.{values_are}
use Rattle.unfold.proofs.Patterns.{listed_stand}
use Rattle.unfold.proofs.Records.{and_then_twice}
use Rattle.unfold.proofs.Stands.{FlatValues, FlatFields, Fields_stand, s_no_field, s_field, s_record, Has, has_new, has_on, Stands, s_scalar, s_tuple, extends_one, list_on}
use Rattle.unfold.proofs.Runs.{Gives, Standing, run, none_sim, seq_sim, made_sim, step_sim}

mutual
  pub packs_grow : {s : Known} {n m : ℕ} {bs : Bindings} {u : Atom} → Packs s n bs u m → n ≤ m
  packs_grow p_atom = omega arith
  packs_grow (p_tuple r le) = omega (arith, packs_all_grow r, le)
  packs_grow (p_record r le) = omega (arith, packs_all_grow r, le)

  pub packs_all_grow : {ss : List Known} {n m : ℕ} {bs : Bindings} {us : List Atom} → Packs_all ss n bs us m → n ≤ m
  packs_all_grow p_none = omega arith
  packs_all_grow (p_more r rs) = omega (arith, packs_grow r, packs_all_grow rs)

-- the same of records, whose fields have the names that are known
abbrev field_values : FlatFields → List FlatValue
field_values no_field = []
field_values (field_and f v fs) = v ∷ field_values fs

fields_list : {sizes : Option Sizing} {d : Names Component} {n : ℕ} {fs : Known_fields} {gs : FlatFields} → Fields_stand sizes d n fs gs → All_same (Stands sizes d n) (field_knowns fs) (field_values gs)
fields_list s_no_field = all_none
fields_list (s_field h hs) = all_more h (fields_list hs)

fields_data : {sizes : Option Sizing} {d : Names Component} {n : ℕ} {fs : Known_fields} {gs : FlatFields} → Fields_stand sizes d n fs gs → named_datums_of gs ≡ and_then (all_data (field_values gs)) (λ ds. Val (named_data (field_names fs) ds))
unfolding named_datums_of
fields_data s_no_field = refl
fields_data (s_field {f = f} {fs = fs} {v = v} {gs = gs} h hs) = ap (λ z. and_then (datum_of v) (λ d. and_then z (λ ds. Val (named_and f d ds)))) (fields_data hs) ∙ moved (datum_of v) (all_data (field_values gs))
  where
    inside : (d : Datum) (o : Out (List Datum)) → and_then (and_then o (λ ds. Val (named_data (field_names fs) ds))) (λ ds. Val (named_and f d ds)) ≡ and_then (and_then o (λ ds. Val (d ∷ ds))) (λ ds. Val (named_data (f ∷ field_names fs) ds))
    inside d (Val ds) = refl
    inside d (Fail r) = refl
    inside d Wrong = refl

    moved : (w : Out Datum) (o : Out (List Datum)) → and_then w (λ d. and_then (and_then o (λ ds. Val (named_data (field_names fs) ds))) (λ ds. Val (named_and f d ds))) ≡ and_then (and_then w (λ d. and_then o (λ ds. Val (d ∷ ds)))) (λ ds. Val (named_data (f ∷ field_names fs) ds))
    moved (Val d) o = inside d o
    moved (Fail r) o = refl
    moved Wrong o = refl

record_datum : {sizes : Option Sizing} {d : Names Component} {n : ℕ} {fs : Known_fields} {gs : FlatFields} → Fields_stand sizes d n fs gs → datum_of (Record_value gs) ≡ and_then (all_data (field_values gs)) (λ ds. Val (Record_datum (named_data (field_names fs) ds)))
unfolding datum_of
record_datum {fs = fs} {gs = gs} h = ap (λ z. and_then z (λ ds. Val (Record_datum ds))) (fields_data h) ∙ and_then_twice (all_data (field_values gs)) (λ ds. Val (named_data (field_names fs) ds)) (λ ds. Val (Record_datum ds))

fields_rebuilt : {sizes : Option Sizing} {d : Names Component} {n : ℕ} {fs : Known_fields} {gs : FlatFields} → Fields_stand sizes d n fs gs → (cs : List Datum) → field_values gs ≡ all_values cs → gs ≡ as_fields (named_data (field_names fs) cs)
fields_rebuilt s_no_field cs q = refl
fields_rebuilt (s_field h hs) [] q = absurd (cc)
fields_rebuilt (s_field {f = f} {v = v} {gs = gs} h hs) (c ∷ cs) q =
    let z : v ∷ field_values gs ≡ as_value c ∷ all_values cs = q in
    let e : v ≡ as_value c = cc in
    let g : field_values gs ≡ all_values cs = cc in
    ap (λ z. field_and f z gs) e ∙ ap (λ z. field_and f (as_value c) z) (fields_rebuilt hs cs g)

-- what is packed is data
rebuilt : (vs : FlatValues) (cs : List Datum) → values.listed vs ≡ all_values cs → vs ≡ as_values (datums cs)
rebuilt no_value [] q = refl
rebuilt no_value (c ∷ cs) q = absurd (cc)
rebuilt (value_and v vs) [] q = absurd (cc)
rebuilt (value_and v vs) (c ∷ cs) q =
    let z : v ∷ values.listed vs ≡ as_value c ∷ all_values cs = q in
    let e : v ≡ as_value c = cc in
    let f : values.listed vs ≡ all_values cs = cc in
    ap (λ z. value_and z vs) e ∙ ap (λ z. value_and (as_value c) z) (rebuilt vs cs f)

abbrev pub Packed : Atom → ℕ → Names Component → Datum → Type 0
Packed u n e c = Has e n u c

abbrev pub All_packed : List Atom → ℕ → Names Component → List Datum → Type 0
All_packed us n e cs = All_same (Has e n) us cs

-- one component
abbrev Is_one : List Component → Datum → Type 0
Is_one cs c = cs ≡ c ∷ []

-- the data of a list of values, as that of a tuple
tuple_data : (vs : FlatValues) → datums_of vs ≡ and_then (all_data (values.listed vs)) (λ ds. Val (datums ds))
unfolding datums_of
tuple_data no_value = refl
tuple_data (value_and v vs) = ap (λ z. and_then (datum_of v) (λ d. and_then z (λ ds. Val (Rattle.fut_value.specs.Data.datum_and d ds)))) (tuple_data vs) ∙ moved (datum_of v) (all_data (values.listed vs))
  where
    inside : (d : Datum) (o : Out (List Datum)) → and_then (and_then o (λ ds. Val (datums ds))) (λ ds. Val (Rattle.fut_value.specs.Data.datum_and d ds)) ≡ and_then (and_then o (λ ds. Val (d ∷ ds))) (λ ds. Val (datums ds))
    inside d (Val ds) = refl
    inside d (Fail r) = refl
    inside d Wrong = refl

    moved : (w : Out Datum) (o : Out (List Datum)) → and_then w (λ d. and_then (and_then o (λ ds. Val (datums ds))) (λ ds. Val (Rattle.fut_value.specs.Data.datum_and d ds))) ≡ and_then (and_then w (λ d. and_then o (λ ds. Val (d ∷ ds)))) (λ ds. Val (datums ds))
    moved (Val d) o = inside d o
    moved (Fail r) o = refl
    moved Wrong o = refl

tuple_datum : (vs : FlatValues) → datum_of (Tuple_value vs) ≡ and_then (all_data (values.listed vs)) (λ ds. Val (Tuple_datum (datums ds)))
unfolding datum_of
tuple_datum vs = ap (λ z. and_then z (λ ds. Val (Tuple_datum ds))) (tuple_data vs) ∙ and_then_twice (all_data (values.listed vs)) (λ ds. Val (datums ds)) (λ ds. Val (Tuple_datum ds))

module _ (tight : Bool) (budget : ℕ) (dir : Bool) where
  one_named : {d : Names Component} {n x : ℕ} (c : Datum) → n ≤ x → (cs : List Component) → Is_one cs c → Same_out (Gives d n (Packed (atom.Name x) (suc x))) (or_wrong (bound (x ∷ []) cs d)) (Val c)
  one_named {d} {n} {x} c le cs e =
      subst (λ z. Same_out (Gives d n (Packed (atom.Name x) (suc x))) (or_wrong (bound (x ∷ []) z d)) (Val c)) (sym e)
      (same_value (record { extends = extends_one n x c d le; says = has_new x c d }))

  -- a step of one name
  one_step : {d : Names Component} {n x : ℕ} (a : Action) {P : Rel Datum} → n ≤ x → Sim Is_one (act_means tight budget a d) P dir → Sim (Gives d n (Packed (atom.Name x) (suc x))) (run tight budget (step (x ∷ []) a) d) P dir
  unfolding run
  one_step a {P} le sim =
      sim_left dir (alike_back (alike_given _)) (sim_right dir (alike_given P) (then_sim dir sim (λ cs c e. the_sim dir (one_named c le cs e))))

  tuple_step : {d : Names Component} {n x : ℕ} {us : List Atom} {ds : List Datum} → n ≤ x → All_same (Has d n) us ds → Sim (Gives d n (Packed (atom.Name x) (suc x))) (run tight budget (step (x ∷ []) (act.Tuple us)) d) (the (Val (Tuple_datum (datums ds)))) dir
  unfolding act_means
  tuple_step {us = us} {ds} le h =
      one_step (act.Tuple us) le (the_sim dir (subst (λ z. Same_out Is_one (and_then z (λ vs. Val (Tuple_datum (datums vs) ∷ []))) (Val (Tuple_datum (datums ds)))) (sym (values_are h)) (same_value refl)))

  record_step : {d : Names Component} {n x : ℕ} {us : List Atom} {ds : List Datum} (fs : List Text) → n ≤ x → All_same (Has d n) us ds → Sim (Gives d n (Packed (atom.Name x) (suc x))) (run tight budget (step (x ∷ []) (act.Read (act.Record_with fs) us)) d) (the (Val (Record_datum (named_data fs ds)))) dir
  unfolding act_means reads
  record_step {us = us} {ds} fs le h =
      one_step (act.Read (act.Record_with fs) us) le (the_sim dir (subst (λ z. Same_out Is_one (and_then z (λ vs. Val (Record_datum (named_data fs vs) ∷ []))) (Val (Record_datum (named_data fs ds)))) (sym (values_are h)) (same_value refl)))

  mutual
    pub packs_sim : {sizes : Option Sizing} {s : Known} {n m : ℕ} {bs : Bindings} {u : Atom} {d : Names Component} {v : FlatValue} → Packs s n bs u m → Stands sizes d n s v → Sim (Gives d n (Packed u m)) (run tight budget bs d) (the (datum_of v)) dir
    packs_sim p_atom (s_scalar {c = c} e h) = none_sim tight budget dir c (ap datum_of e ∙ datum_of-as c) h
    packs_sim {n = n} {d = d} (p_tuple {x = x} {bs = bs} {us} r le) (s_tuple {vs = vs} h) =
        subst (λ z. Sim (Gives d n (Packed (atom.Name x) (suc x))) (run tight budget (bs ++ step (x ∷ []) (act.Tuple us)) d) (the z) dir) (sym (tuple_datum vs))
        (sim_right dir (alike_joined (all_data (values.listed vs)) (λ ds. Val (Tuple_datum (datums ds))))
        (seq_sim tight budget dir bs _ (packs_all_grow r) (packs_all_sim r (listed_stand h)) (λ e ds x k. tuple_step le k)))
    packs_sim {n = n} {d = d} (p_record {x = x} {fs = fs} {bs = bs} {us} r le) (s_record {gs = gs} h) =
        subst (λ z. Sim (Gives d n (Packed (atom.Name x) (suc x))) (run tight budget (bs ++ step (x ∷ []) (act.Read (act.Record_with (field_names fs)) us)) d) (the z) dir) (sym (record_datum h))
        (sim_right dir (alike_joined (all_data (field_values gs)) (λ ds. Val (Record_datum (named_data (field_names fs) ds))))
        (seq_sim tight budget dir bs _ (packs_all_grow r) (packs_all_sim r (fields_list h)) (λ e ds x k. record_step (field_names fs) le k)))

    pub packs_all_sim : {sizes : Option Sizing} {ss : List Known} {n m : ℕ} {bs : Bindings} {us : List Atom} {d : Names Component} {vs : List FlatValue} → Packs_all ss n bs us m → All_same (Stands sizes d n) ss vs → Sim (Gives d n (All_packed us m)) (run tight budget bs d) (the (all_data vs)) dir
    packs_all_sim p_none all_none = none_sim tight budget dir [] refl all_none
    packs_all_sim {d = d} (p_more {bs = bs} {cs} r rs) (all_more {x' = v} {xs' = vs} h hs) =
        sim_right dir (alike_joined (datum_of v) (λ d. and_then (all_data vs) (λ ds. Val (d ∷ ds))))
        (seq_sim tight budget dir bs cs (packs_grow r) (packs_sim r h)
        (λ e c x k. sim_right dir (alike_joined (all_data vs) (λ ds. Val (c ∷ ds)))
        (made_sim tight budget dir (λ ds. c ∷ ds) cs (packs_all_sim rs (list_on x (packs_grow r) hs)) (λ e' ds x' ks. all_more (has_on x' (packs_all_grow rs) _ k) ks))))

  mutual
    unfolding datum_of

    packs_data : {sizes : Option Sizing} {s : Known} {n m k : ℕ} {bs : Bindings} {u : Atom} {d : Names Component} {v : FlatValue} → Packs s n bs u m → Stands sizes d k s v → (c : Datum) × (datum_of v ≡ Val c) × (v ≡ as_value c)
    packs_data p_atom (s_scalar {c = c} e h) = (c, ap datum_of e ∙ datum_of-as c, e)
    packs_data (p_tuple r le) (s_tuple {vs = vs} h) =
        let a = packs_all_data r (listed_stand h) in
        (Tuple_datum (datums a.0), tuple_datum vs ∙ ap (λ z. and_then z (λ ds. Val (Tuple_datum (datums ds)))) a.1, ap (λ z. Tuple_value z) (rebuilt vs a.0 a.2))
    packs_data (p_record {fs = fs} r le) (s_record {gs = gs} h) =
        let a = packs_all_data r (fields_list h) in
        (Record_datum (named_data (field_names fs) a.0), record_datum h ∙ ap (λ z. and_then z (λ ds. Val (Record_datum (named_data (field_names fs) ds)))) a.1, ap (λ z. Record_value z) (fields_rebuilt h a.0 a.2))

    pub packs_all_data : {sizes : Option Sizing} {ss : List Known} {n m k : ℕ} {bs : Bindings} {us : List Atom} {d : Names Component} {vs : List FlatValue} → Packs_all ss n bs us m → All_same (Stands sizes d k) ss vs → (cs : List Datum) × (all_data vs ≡ Val cs) × (vs ≡ all_values cs)
    packs_all_data p_none all_none = ([], refl, refl)
    packs_all_data (p_more r rs) (all_more {xs' = vs} h hs) =
        let a = packs_data r h in
        let b = packs_all_data rs hs in
        (a.0 ∷ b.0, ap (λ z. and_then z (λ d. and_then (all_data vs) (λ ds. Val (d ∷ ds)))) a.1 ∙ ap (λ z. and_then z (λ ds. Val (a.0 ∷ ds))) b.1, ap (λ z. z ∷ vs) a.2 ∙ ap (λ z. as_value a.0 ∷ z) b.2)

  -- known data, as one component
  pub pack_stands : {sizes : Option Sizing} {s : Known} {n m : ℕ} {bs : Bindings} {u : Atom} {d : Names Component} {v : FlatValue} → Packs s n bs u m → Stands sizes d n s v → Sim (Gives d n (Standing sizes (Scalar_known u) m)) (run tight budget bs d) (gives 0 v) dir
  pack_stands {sizes = sizes} {n = n} {m} {bs} {u} {d} {v} pk h =
      let r = packs_data pk h in
      subst (λ z. Sim (Gives d n (Standing sizes (Scalar_known u) m)) (run tight budget bs d) (gives 0 z) dir) (sym r.2)
      (sim_right dir (alike_value r.0 (λ c. gives 0 (as_value c)))
      (made_sim tight budget dir (λ c. as_value c) bs (subst (λ z. Sim (Gives d n (Packed u m)) (run tight budget bs d) (the z) dir) r.1 (packs_sim pk h)) (λ e c x k. s_scalar refl k)))

  counted_same : (r r' : Counted) → r ≡ r' → Sim (Is_value Scalar_shape) (counted r) (gives r'.0 (as_value r'.1)) dir
  counted_same r r' e = subst (λ z. Sim (Is_value Scalar_shape) (counted r) (gives z.0 (as_value z.1)) dir) e (the_sim dir (same_value (split_scalar refl)))

  pub make_sim : {sizes : Option Sizing} {d : Names Component} {n x : ℕ} {us : List Atom} {ds : List Datum} (told : Data_shape) (r : Row) (k : Making) (at : Place) → n ≤ x → All_same (Has d n) us ds → and_then (row_shape d r) (λ h. made false h k at ds) ≡ made false told k at ds → Sim (Gives d n (Standing sizes (named x) (suc x))) (run tight budget (step (x ∷ []) (act.Make r k at us)) d) (Then (the (made false told k at ds)) (λ r. gives r.0 (as_value r.1))) dir
  unfolding act_means
  make_sim {d} {x = x} {us} {ds} told r k at le h e =
      step_sim tight budget dir {h = Scalar_shape} (x ∷ []) (act.Make r k at us)
      (known_left dir (values_of d us) ds _ _ (values_are h) (then_sim dir (the_sim dir (subst (λ z. Same_out ◌≡◌ z (made false told k at ds)) (sym e) (out_same (made false told k at ds)))) (λ r r' e. counted_same r r' e)))
      (le, omega arith) laid_scalar
