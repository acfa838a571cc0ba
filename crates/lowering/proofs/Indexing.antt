-- An index of several parts: the bundle of what it takes of an array.
use Rattle.std.proofs.Common.{◌≡◌, ℕ, suc, ◌<◌, ◌≤◌, ◌&&◌, nat_le, List, [], ◌∷◌, Bool, true, false, Option, Some, None, ℤ, pos, negsuc, length, refl, sym, ap, ◌∙◌, subst, arith}
use Rattle.std.proofs.lemmas.Bool.{and_parts, leb-true}
use Rattle.fut_scalar.specs.declared.place.Place.{Place}
use Rattle.fut_scalar.specs.declared.report.FailKind.{FailKind}
use Rattle.fut_flat.specs.declared.act.Part.{Part}
use Rattle.fut_flat.specs.declared.act.Part.TheVariants as part
use Rattle.fut_value.specs.Data.{Shape, Array_shape, Datum, shape_of}
use Rattle.fut_value.specs.Leaves.{in_rows, leaves}
use Rattle.fut_meaning.specs.Arrays.{Pick, Pick_at, Pick_slice, Pick_backwards, picks, and_pick, Cut, Cut_at, Cut_slice, Cut_backwards, cut_of, slice_cut, cut_shape, or_else, checked, each_out, exact_of}
use Rattle.fut_meaning.specs.Arrays as meaning
use Rattle.fut_meaning.specs.Outcomes.{Out, Val, Fail, Wrong, and_then}
use Rattle.core_ir.specs.Bundles.{Row, all_sizes, within_weight}
use Rattle.core_ir.specs.Arrays.{exact_in, cuts, cut, first_sizes, indexed}
use Rattle.core_values.specs.Claims.{apart, Cuts_fit, fit_end, fit_row, fit_rows, fit_slice, fit_reverse}
use Rattle.core_values.specs.Components.{components, One_type, arrays}
use Rattle.core_values.proofs.Cutting.{cut_agrees, cut_still}
use Rattle.core_values.proofs.Good.{components_are_sized}
use Rattle.core_values.proofs.Making.{failed}
use Rattle.core_values.proofs.Same.{leaves_many}
use Rattle.core_values.proofs.Updating.{Is_row, On_value, on_then, on_given}
use Rattle.lowering.specs.Arrays.{Indexed, at_end, last_row, row_then, slice_then, reverse_then}
use Rattle.lowering.specs.Programs.{Is_data}
use Rattle.lowering.proofs.Deeds.{within_agrees}

-- ---- what is asked for of each part

-- picks that stand for the parts
data Picked : List Part → List Pick → Type 0 where
  no_pick : Picked [] []
  pick_row : {z : ℤ} {ps : List Part} {qs : List Pick} → Picked ps qs → Picked (part.At ∷ ps) (Pick_at z ∷ qs)
  pick_slice : {a b : Bool} {i j : Option ℤ} {ps : List Part} {qs : List Pick} → Picked ps qs → Picked (part.Slice a b ∷ ps) (Pick_slice i j ∷ qs)
  pick_backwards : {ps : List Part} {qs : List Pick} → Picked ps qs → Picked (part.Backwards ∷ ps) (Pick_backwards ∷ qs)

and_picked : (p : Part) (q : Pick) (ps : List Part) (o : Out (List Pick)) → ((qs : List Pick) → Picked ps qs → Picked (p ∷ ps) (q ∷ qs)) → On_value (Picked ps) o → On_value (Picked (p ∷ ps)) (and_pick q o)
and_picked p q ps o k h = on_then (Picked ps) (Picked (p ∷ ps)) o (λ qs. Val (q ∷ qs)) h (λ qs c. on_given (Picked (p ∷ ps)) (q ∷ qs) (k qs c))

no_value : {A X : Type 0} {a : A} → Wrong ≡ Val a → X
no_value {a = a} e = absurd (let z : Wrong ≡ Val a = e in cc)

picks_are : (ps : List Part) (zs : List ℤ) → On_value (Picked ps) (picks ps zs)
unfolding picks
picks_are [] [] = on_given (Picked []) [] no_pick
picks_are [] (z ∷ zs) = λ e q. no_value q
picks_are (part.At ∷ ps) [] = λ e q. no_value q
picks_are (part.At ∷ ps) (z ∷ zs) = and_picked part.At (Pick_at z) ps (picks ps zs) (λ qs c. pick_row c) (picks_are ps zs)
picks_are (part.Slice true true ∷ ps) [] = λ e q. no_value q
picks_are (part.Slice true true ∷ ps) (z ∷ []) = λ e q. no_value q
picks_are (part.Slice true true ∷ ps) (z ∷ w ∷ zs) = and_picked (part.Slice true true) (Pick_slice (Some z) (Some w)) ps (picks ps zs) (λ qs c. pick_slice c) (picks_are ps zs)
picks_are (part.Slice true false ∷ ps) [] = λ e q. no_value q
picks_are (part.Slice true false ∷ ps) (z ∷ zs) = and_picked (part.Slice true false) (Pick_slice (Some z) None) ps (picks ps zs) (λ qs c. pick_slice c) (picks_are ps zs)
picks_are (part.Slice false true ∷ ps) [] = λ e q. no_value q
picks_are (part.Slice false true ∷ ps) (z ∷ zs) = and_picked (part.Slice false true) (Pick_slice None (Some z)) ps (picks ps zs) (λ qs c. pick_slice c) (picks_are ps zs)
picks_are (part.Slice false false ∷ ps) zs = and_picked (part.Slice false false) (Pick_slice None None) ps (picks ps zs) (λ qs c. pick_slice c) (picks_are ps zs)
picks_are (part.Backwards ∷ ps) zs = and_picked part.Backwards Pick_backwards ps (picks ps zs) (λ qs c. pick_backwards c) (picks_are ps zs)

-- ---- what is cut out

-- what fits, and is of the type that the parts leave
record Fitting (w : ℕ) (k : Shape) (h : Shape) (cs : List Cut) : Type 0 where
  fits : Cuts_fit w cs h
  typed : One_type k (cut_shape cs h)

abbrev first_of : List (List ℕ) → List ℕ
first_of [] = []
first_of (d ∷ ds) = d

-- the sizes of the arrays that the parts go through
data Starts : List Part → List ℕ → Shape → Type 0 where
  no_size : {ds : List ℕ} {h : Shape} → Starts [] ds h
  size_and : {n : ℕ} {p : Part} {ps : List Part} {ds : List ℕ} {h : Shape} → Starts ps ds h → Starts (p ∷ ps) (n ∷ ds) (Array_shape n h)

starts_in : {ps : List Part} (p : Part) (n : ℕ) (ls : List (List ℕ)) (h : Shape) → Starts ps (first_of ls) h → Starts (p ∷ ps) (first_of (in_rows n ls)) (Array_shape n h)
starts_in p n [] h no_size = size_and no_size
starts_in p n (d ∷ ds) h s = size_and s

starts : {w : ℕ} {ps : List Part} {h k h' : Shape} → Indexed w ps h k → One_type h h' → Starts ps (first_of (leaves h')) h'
unfolding leaves
starts at_end o = no_size
starts (last_row e) (arrays {m = n} {k = h'} o) = starts_in part.At n (leaves h') h' no_size
starts (row_then i) (arrays {m = n} {k = h'} o) = starts_in part.At n (leaves h') h' (starts i o)
starts (slice_then {a = a} {b = b} i) (arrays {m = n} {k = h'} o) = starts_in (part.Slice a b) n (leaves h') h' (starts i o)
starts (reverse_then i) (arrays {m = n} {k = h'} o) = starts_in part.Backwards n (leaves h') h' (starts i o)

picked_rest : {p : Part} {q : Pick} {ps : List Part} {qs : List Pick} → Picked (p ∷ ps) (q ∷ qs) → Picked ps qs
picked_rest (pick_row c) = c
picked_rest (pick_slice c) = c
picked_rest (pick_backwards c) = c

cuts_same : (at : Place) {ps : List Part} {ds : List ℕ} {h : Shape} (qs : List Pick) → Starts ps ds h → Picked ps qs → cuts at qs ds ≡ meaning.cuts at qs h
unfolding meaning.cuts
cuts_same at [] no_size c = refl
cuts_same at [] (size_and s) c = elim c [ ]
cuts_same at (q ∷ qs) no_size c = elim c [ ]
cuts_same at (q ∷ qs) (size_and {n = n} s) c = ap (λ z. and_then (cut_of at n q) (λ c. and_then z (λ cs. Val (c ∷ cs)))) (cuts_same at qs s (picked_rest c))

-- ---- and it fits

record Row_cut (n : ℕ) (c : Cut) : Type 0 where
  row : ℕ
  is : c ≡ Cut_at row
  there : row < n

pub on_checked : {A : Type 0} (P : A → Type 0) (b : Bool) (k : FailKind) (at : Place) (o : Out A) → (b ≡ true → On_value P o) → On_value P (checked b k at o)
on_checked P true k at o h = h refl
on_checked P false k at o h = λ e q. failed q

row_cut : (at : Place) (n : ℕ) (z : ℤ) → On_value (Row_cut n) (cut_of at n (Pick_at z))
row_cut at n (pos i) = on_checked (Row_cut n) (nat_le (suc i) n) _ at (Val (Cut_at i)) (λ e. on_given (Row_cut n) (Cut_at i) (record { row = i; is = refl; there = leb-true (suc i) n e }))
row_cut at n (negsuc i) = λ e q. failed q

record Slice_cut (n : ℕ) (c : Cut) : Type 0 where
  from : ℕ
  to : ℕ
  is : c ≡ Cut_slice from to
  in_order : from ≤ to
  there : to ≤ n

cut_slice : (at : Place) (n : ℕ) (i j : ℤ) → On_value (Slice_cut n) (slice_cut at n i j)
cut_slice at n (pos i) (pos j) =
    on_checked (Slice_cut n) (nat_le i j && nat_le j n) _ at (Val (Cut_slice i j)) (λ e. let p = and_parts (nat_le i j) (nat_le j n) e in on_given (Slice_cut n) (Cut_slice i j) (record { from = i; to = j; is = refl; in_order = leb-true i j p.0; there = leb-true j n p.1 }))
cut_slice at n (pos i) (negsuc j) = λ e q. failed q
cut_slice at n (negsuc i) j = λ e q. failed q

-- as many cuts as parts
record Cut_out (w : ℕ) (ps : List Part) (k : Shape) (h : Shape) (cs : List Cut) : Type 0 where
  fitting : Fitting w k h cs
  many : length cs ≡ length ps

row_out : {w n : ℕ} {p : Part} {ps : List Part} {k h : Shape} (c : Cut) (cs : List Cut) → Row_cut n c → Cut_out w (p ∷ ps) k h cs → Cut_out w (part.At ∷ p ∷ ps) k (Array_shape n h) (c ∷ cs)
row_out {w} {n} {p} {ps} {k} {h} c [] r o = absurd (let e = o.many in omega (arith, e))
row_out {w} {n} {p} {ps} {k} {h} c (c' ∷ cs) r o =
    subst (λ z. Cut_out w (part.At ∷ p ∷ ps) k (Array_shape n h) (z ∷ c' ∷ cs)) (sym r.is) (record { fitting = record { fits = fit_rows r.there o.fitting.fits; typed = o.fitting.typed }; many = ap suc o.many })

cuts_fit : (at : Place) {w : ℕ} {ps : List Part} {qs : List Pick} {h k h' : Shape} → Indexed w ps h k → Picked ps qs → One_type h h' → On_value (Cut_out w ps k h') (meaning.cuts at qs h')
unfolding meaning.cuts
cuts_fit at {w} {k = k} {h' = h'} at_end no_pick o = on_given (Cut_out w [] k h') [] (record { fitting = record { fits = fit_end; typed = o }; many = refl })
cuts_fit at {w} {k = k} (last_row e) (pick_row {z = z} no_pick) (arrays {m = n} {k = h'} o) =
    on_then (Row_cut n) (Cut_out w (part.At ∷ []) k (Array_shape n h')) (cut_of at n (Pick_at z)) (λ c. and_then (Val []) (λ cs. Val (c ∷ cs))) (row_cut at n z) (λ c r.
    on_given (Cut_out w (part.At ∷ []) k (Array_shape n h')) (c ∷ []) (subst (λ x. Cut_out w (part.At ∷ []) k (Array_shape n h') (x ∷ [])) (sym r.is) (record { fitting = record { fits = fit_row r.there (e ∙ leaves_many o); typed = o }; many = refl })))
cuts_fit at {w} {k = k} (row_then {p = p} {ps = ps} i) (pick_row {z = z} {qs = qs} c) (arrays {m = n} {k = h'} o) =
    on_then (Row_cut n) (Cut_out w (part.At ∷ p ∷ ps) k (Array_shape n h')) (cut_of at n (Pick_at z)) (λ c. and_then (meaning.cuts at qs h') (λ cs. Val (c ∷ cs))) (row_cut at n z) (λ x r.
    on_then (Cut_out w (p ∷ ps) k h') (Cut_out w (part.At ∷ p ∷ ps) k (Array_shape n h')) (meaning.cuts at qs h') (λ cs. Val (x ∷ cs)) (cuts_fit at i c o) (λ cs f. on_given (Cut_out w (part.At ∷ p ∷ ps) k (Array_shape n h')) (x ∷ cs) (row_out x cs r f)))
cuts_fit at {w} (slice_then {a = a} {b = b} {k = k} {ps = ps} i) (pick_slice {i = from} {j = to} {qs = qs} c) (arrays {m = n} {k = h'} o) =
    on_then (Slice_cut n) (Cut_out w (part.Slice a b ∷ ps) (Array_shape 0 k) (Array_shape n h')) (cut_of at n (Pick_slice from to)) (λ c. and_then (meaning.cuts at qs h') (λ cs. Val (c ∷ cs))) (cut_slice at n (or_else (pos 0) from) (or_else (pos n) to)) (λ x r.
    on_then (Cut_out w ps k h') (Cut_out w (part.Slice a b ∷ ps) (Array_shape 0 k) (Array_shape n h')) (meaning.cuts at qs h') (λ cs. Val (x ∷ cs)) (cuts_fit at i c o) (λ cs f. on_given (Cut_out w (part.Slice a b ∷ ps) (Array_shape 0 k) (Array_shape n h')) (x ∷ cs)
    (subst (λ y. Cut_out w (part.Slice a b ∷ ps) (Array_shape 0 k) (Array_shape n h') (y ∷ cs)) (sym r.is) (record { fitting = record { fits = fit_slice r.in_order r.there f.fitting.fits; typed = arrays f.fitting.typed }; many = ap suc f.many }))))
cuts_fit at {w} (reverse_then {k = k} {ps = ps} i) (pick_backwards {qs = qs} c) (arrays {m = n} {k = h'} o) =
    on_then (Cut_out w ps k h') (Cut_out w (part.Backwards ∷ ps) (Array_shape 0 k) (Array_shape n h')) (meaning.cuts at qs h') (λ cs. Val (Cut_backwards ∷ cs)) (cuts_fit at i c o) (λ cs f. on_given (Cut_out w (part.Backwards ∷ ps) (Array_shape 0 k) (Array_shape n h')) (Cut_backwards ∷ cs)
    (record { fitting = record { fits = fit_reverse f.fitting.fits; typed = arrays f.fitting.typed }; many = ap suc f.many }))

-- ---- the whole

pub then_apart : {A : Type 0} (o : Out A) (k : A → Out Row) (l : A → Out Datum) → ((a : A) → o ≡ Val a → k a ≡ apart (l a)) → and_then o k ≡ apart (and_then o l)
then_apart (Val a) k l h = h a refl
then_apart (Fail r) k l h = refl
then_apart Wrong k l h = refl

sizes_first : (cs : Row) → first_sizes cs ≡ first_of (all_sizes cs)
sizes_first [] = refl
sizes_first (c ∷ cs) = refl

module _ (at : Place) {w : ℕ} {ps : List Part} {h k : Shape} (i : Indexed w ps h k) (d : Datum) (a : Is_data h d) where
  -- an index that is there
  taken : (cs : List Cut) → Cuts_fit w cs (shape_of d) → and_then (cut false at w cs (components d)) (within_weight at) ≡ apart (and_then (meaning.cut cs d) (meaning.within_weight at))
  taken cs f =
      ap (λ z. and_then z (within_weight at)) (cut_agrees false at w cs d a.regular f)
      ∙ heavy (meaning.cut cs d) (cut_still false at w cs d a.regular f)
    where
      heavy : (o : Out Datum) → On_value (Is_row (cut_shape cs (shape_of d))) o → and_then (apart o) (within_weight at) ≡ apart (and_then o (meaning.within_weight at))
      heavy (Val e) g = within_agrees at e (g e refl).regular
      heavy (Fail r) g = refl
      heavy Wrong g = refl

  pub index_agrees : (is : Row) (js : List Datum) → each_out exact_in is ≡ each_out exact_of js → indexed false at w ps (components d) is ≡ apart (meaning.indexed at ps d js)
  unfolding meaning.indexed
  index_agrees is js e =
      ap (λ z. and_then z (λ zs. and_then (picks ps zs) (λ qs. and_then (cuts at qs (first_sizes (components d))) (λ cs. and_then (cut false at w cs (components d)) (within_weight at))))) e
      ∙ then_apart (each_out exact_of js) _ _ (λ zs q. then_apart (picks ps zs) _ _ (λ qs r.
      let c = picks_are ps zs qs r in
      ap (λ z. and_then z (λ cs. and_then (cut false at w cs (components d)) (within_weight at))) (ap (cuts at qs) (sizes_first (components d) ∙ ap first_of (components_are_sized d a.regular)) ∙ cuts_same at qs (starts i a.typed) c)
      ∙ then_apart (meaning.cuts at qs (shape_of d)) _ _ (λ cs s. taken cs (cuts_fit at i c a.typed cs s).fitting.fits)))

  abbrev Anything : {A : Type 0} → A → Type 0
  Anything x = Unit {0}

  pub index_data : (js : List Datum) → On_value (Is_data k) (meaning.indexed at ps d js)
  unfolding meaning.indexed
  index_data js =
      on_then Anything (Is_data k) (each_out exact_of js) _ (λ zs q. tt) (λ zs u. on_then (Picked ps) (Is_data k) (picks ps zs) _ (picks_are ps zs) (λ qs c.
      on_then (Cut_out w ps k (shape_of d)) (Is_data k) (meaning.cuts at qs (shape_of d)) _ (cuts_fit at i c a.typed) (λ cs f.
      on_then (Is_row (cut_shape cs (shape_of d))) (Is_data k) (meaning.cut cs d) _ (cut_still false at w cs d a.regular f.fitting.fits) (λ e r.
      on_checked (Is_data k) _ _ at (Val e) (λ b. on_given (Is_data k) e (record { regular = r.regular; typed = subst (λ z. One_type k z) (sym r.shaped) f.fitting.typed }))))))
