-- Slices and indices of an array are of the sized type that is left: how many rows a slice has is met, or
-- the number that it goes to; `[:]` and `[::-1]` keep a size.
use Rattle.fut_scalar.specs.declared.report.Report.{Report}
use Rattle.sized_meaning.proofs.Quiet.{out_of_bounds, too_large}
use Rattle.sized_meaning.proofs.Size_reports.{datum_fine}
use Rattle.sized_meaning.specs.There.{There}
use Rattle.std.specs.Prelude.{ℤ, pos, negsuc, nat_le}
use Rattle.std.proofs.Common.{◌≡◌, ℕ, zero, suc, ◌+◌, ◌-◌, ◌≤◌, List, [], ◌∷◌, length, take, drop, reverse, Bool, true, false, ◌⊎◌, inl, inr, ◌&&◌, Some, None, Ok, refl, sym, ap, ◌∙◌, subst, arith, leb-true, cond, ◌^◌, lt-ltb}
use Rattle.std.proofs.lemmas.List.{length-take-le, length-drop, length-reverse}
use Rattle.fut_scalar.specs.declared.place.BindId.{BindId}
use Rattle.fut_scalar.specs.declared.place.Place.{Place}
use Rattle.fut_scalar.specs.declared.report.FailKind.TheVariants as kind
use Rattle.fut_flat.specs.declared.act.Part.{Part}
use Rattle.fut_flat.specs.declared.act.Part.TheVariants as part
use Rattle.fut_flat.specs.declared.prim.Ref.{Ref}
use Rattle.fut_flat.specs.declared.prim.Ref.TheVariants as ref
use Rattle.fut_flat.specs.Numbers.{numbers}
use Rattle.fut_flat.specs.Terms.{Index, Integer, Use, Strict, Terms, no_term, term_and}
use Rattle.fut_flat.specs.Erased.{FlatTerm}
use Rattle.fut_types.specs.Types.{Sub}
use Rattle.fut_typing.specs.Names.{Names}
use Rattle.fut_value.specs.Data.{Shape, Array_shape, Datum, Array_datum, datums, listed, shape_of, weight}
use Rattle.fut_meaning.specs.Arrays.{Pick, Pick_at, Pick_slice, Pick_backwards, Cut, Cut_at, Cut_slice, Cut_backwards, picks, slice_cut, cuts, cut, cut_shape, exact_of, each_out, or_else, indexed as indexed_data, checked, most_words, within_weight, shared, made, Make_index}
use Rattle.fut_meaning.specs.Datums.{as_value, datum_of, all_data}
use Rattle.fut_meaning.specs.Flats.{FlatValue, FlatEnv, flat_names}
use Rattle.fut_meaning.specs.Meaning.{row_told, fits_type, Of_literal}
use Rattle.fut_meaning.specs.Operations.{operated}
use Rattle.fut_meaning.specs.Outcomes.{Out, Val, Fail, Wrong, and_then, gives, the, Then}
use Rattle.fut_meaning.specs.Values.{values}
use Rattle.fut_meaning.proofs.Data.{datum_of_as}
use Rattle.fut_meaning.proofs.Safe.{Every}
use Rattle.sized_types.specs.Sizes.{Free, Const, Unknown, Dim, At, Size, Level, Sizes}
use Rattle.fut_sizes.specs.Operations.{operation, value_of, slice_size, is_literal, indexed}
use Rattle.fut_sizes.specs.Rules.{part_sizes}
use Rattle.fut_sizes.specs.Suiting.{Each, Scoped, Data}
use Rattle.sized_meaning.specs.Worth.{Worth, free, no_frames, number}
use Rattle.sized_meaning.specs.Shapes.{Meant, Has_shape, Has_datum}
use Rattle.sized_meaning.specs.Finding.{One_kind_each}
use Rattle.sized_meaning.specs.Fits.{Out_fits, Gives, Fits, All_fit}
use Rattle.sized_meaning.specs.Law.{Beyond as Out_beyond, Sound, Literal, Size_number, Slices, Slice_sizes, World, told, calls, Result as Res}
use Rattle.sized_meaning.proofs.Outcomes.{gives_exact, gives_then, out_of}
use Rattle.sized_meaning.proofs.Suiting.{same_ok, at_node}
use Rattle.sized_meaning.proofs.Scalars.{out_then}
use Rattle.sized_meaning.proofs.Reading.{shape_same, datum_same}
use Rattle.sized_meaning.proofs.Environments.{beyond_node}
use Rattle.sized_meaning.proofs.Datas.{datum_shaped, datum_fits, fits_datum}
use Rattle.sized_meaning.proofs.Entered.{both_true}
use Rattle.sized_meaning.proofs.Branches.{same_number, here}
use Rattle.sized_meaning.proofs.Mapping.{every_listed, listed_every, same_list}
use Rattle.sized_meaning.proofs.First_order.{checked_out}
use Rattle.sized_meaning.proofs.Row_primitives.{every_taken, every_dropped, every_reversed}
use Rattle.sized_meaning.proofs.Zipping.{each_out_fits}
use Rattle.sized_meaning.proofs.Indexing.{row_there}
use Rattle.sized_meaning.proofs.Words.{Part_words}
use Rattle.sized_meaning.proofs.Slice_ends.{Exacts, exacts, Picks_known, picks_known, Cuts_known, cuts_known}

-- what is picked at each part of an index
Picked : List Part → List Pick → Type 0
Picked [] [] = Unit {0}
Picked (part.At ∷ ps) (Pick_at z ∷ qs) = Picked ps qs
Picked (part.Slice false false ∷ ps) (Pick_slice None None ∷ qs) = Picked ps qs
Picked (part.Slice true b ∷ ps) (Pick_slice x y ∷ qs) = Picked ps qs
Picked (part.Slice false true ∷ ps) (Pick_slice x y ∷ qs) = Picked ps qs
Picked (part.Backwards ∷ ps) (Pick_backwards ∷ qs) = Picked ps qs
Picked ps qs = ⊥

pick_out : (quiet : Report → Type 0) (p : Part) (ps : List Part) (q : Pick) (o : Out (List Pick)) → Out_fits quiet (Picked ps) o → ((qs : List Pick) → Picked ps qs → Picked (p ∷ ps) (q ∷ qs)) → Out_fits quiet (Picked (p ∷ ps)) (and_then o (λ qs. Val (q ∷ qs)))
pick_out quiet p ps q o h go = out_then _ (Picked ps) (Picked (p ∷ ps)) o (λ qs. Val (q ∷ qs)) h go

picked : (quiet : Report → Type 0) (ps : List Part) (zs : List ℤ) → Out_fits quiet (Picked ps) (picks ps zs)
unfolding picks Picked
picked quiet [] [] = tt
picked quiet [] (z ∷ zs) = tt
picked quiet (part.At ∷ ps) [] = tt
picked quiet (part.At ∷ ps) (z ∷ zs) = pick_out quiet part.At ps (Pick_at z) (picks ps zs) (picked quiet ps zs) (λ qs h. h)
picked quiet (part.Slice true true ∷ ps) [] = tt
picked quiet (part.Slice true true ∷ ps) (z ∷ []) = tt
picked quiet (part.Slice true true ∷ ps) (z ∷ w ∷ zs) = pick_out quiet (part.Slice true true) ps (Pick_slice (Some z) (Some w)) (picks ps zs) (picked quiet ps zs) (λ qs h. h)
picked quiet (part.Slice true false ∷ ps) [] = tt
picked quiet (part.Slice true false ∷ ps) (z ∷ zs) = pick_out quiet (part.Slice true false) ps (Pick_slice (Some z) None) (picks ps zs) (picked quiet ps zs) (λ qs h. h)
picked quiet (part.Slice false true ∷ ps) [] = tt
picked quiet (part.Slice false true ∷ ps) (z ∷ zs) = pick_out quiet (part.Slice false true) ps (Pick_slice None (Some z)) (picks ps zs) (picked quiet ps zs) (λ qs h. h)
picked quiet (part.Slice false false ∷ ps) zs = pick_out quiet (part.Slice false false) ps (Pick_slice None None) (picks ps zs) (picked quiet ps zs) (λ qs h. h)
picked quiet (part.Backwards ∷ ps) zs = pick_out quiet part.Backwards ps Pick_backwards (picks ps zs) (picked quiet ps zs) (λ qs h. h)

-- how many rows each cut keeps, from a level on
abbrev counts : List Cut → List ℕ
counts [] = []
counts (Cut_at i ∷ cs) = counts cs
counts (Cut_slice i j ∷ cs) = (j - i) ∷ counts cs
counts (Cut_backwards ∷ cs) = 0 ∷ counts cs

abbrev Counts : (ℕ → ℕ) → ℕ → List Cut → Type 0
Counts F i [] = Unit {0}
Counts F i (Cut_at k ∷ cs) = Counts F i cs
Counts F i (Cut_slice k j ∷ cs) = (F i ≡ j - k) × Counts F (suc i) cs
Counts F i (Cut_backwards ∷ cs) = Counts F (suc i) cs

nth : List ℕ → ℕ → ℕ
nth [] k = 0
nth (x ∷ xs) zero = x
nth (x ∷ xs) (suc k) = nth xs k

counted : (F : ℕ → ℕ) (i : ℕ) (cs : List Cut) → ((k : ℕ) → F (k + i) ≡ nth (counts cs) k) → Counts F i cs
unfolding nth
counted F i [] h = tt
counted F i (Cut_at k ∷ cs) h = counted F i cs h
counted F i (Cut_slice k j ∷ cs) h = (ap F (let z : i ≡ 0 + i = omega arith in z) ∙ h 0, counted F (suc i) cs (λ k. ap F (let z : k + suc i ≡ suc k + i = omega arith in z) ∙ h (suc k)))
counted F i (Cut_backwards ∷ cs) h = counted F (suc i) cs (λ k. ap F (let z : k + suc i ≡ suc k + i = omega arith in z) ∙ h (suc k))

slice_long : (i j : ℕ) (ds : List Datum) → j ≤ length ds → length (take (j - i) (drop i ds)) ≡ j - i
slice_long i j ds l = length-take-le (j - i) (drop i ds) (let e = length-drop i ds in omega (arith, l, e))

module _ (N : Names) (types : Sub) (τ : Meant) (W : World) (S : Sound N types W.sizing) (one : One_kind_each τ) (m : Worth) where
  abbrev s : ℕ → Size
  s n = W.sizing.size_at n

  abbrev parts : Terms Ref BindId → ℕ → Sizes
  parts ts at = part_sizes N types W.sizing.size_at W.sizing.home ts at

  -- cuts within the sizes of a type
  Cuts_of : List Part → Size → List Cut → Type 0
  Cuts_of [] t [] = Unit {0}
  Cuts_of (part.At ∷ ps) (Level d t) (Cut_at i ∷ cs) = Cuts_of ps t cs
  Cuts_of (part.Slice false false ∷ ps) (Level d t) (Cut_slice i j ∷ cs) = (i ≡ 0) × (j ≡ number m no_frames d) × Cuts_of ps t cs
  Cuts_of (part.Slice true b ∷ ps) (Level d t) (Cut_slice i j ∷ cs) = (j ≤ number m no_frames d) × Cuts_of ps t cs
  Cuts_of (part.Slice false true ∷ ps) (Level d t) (Cut_slice i j ∷ cs) = (j ≤ number m no_frames d) × Cuts_of ps t cs
  Cuts_of (part.Backwards ∷ ps) (Level d t) (Cut_backwards ∷ cs) = Cuts_of ps t cs
  Cuts_of ps t cs = ⊥

  -- a slice ends within its array
  within : (at : Place) (n : ℕ) (x y : ℤ) → Out_fits (There W.is_there) (λ c. (i : ℕ) × (j : ℕ) × (c ≡ Cut_slice i j) × (j ≤ n)) (slice_cut at n x y)
  within at n (pos i) (pos j) = tested (nat_le i j && nat_le j n) refl
    where
      tested : (b : Bool) → nat_le i j && nat_le j n ≡ b → Out_fits (There W.is_there) (λ c. (i : ℕ) × (j : ℕ) × (c ≡ Cut_slice i j) × (j ≤ n)) (checked b kind.Bounds at (Val (Cut_slice i j)))
      tested true e = (i, j, refl, leb-true j n (both_true (nat_le i j) (nat_le j n) e).1)
      tested false e = out_of_bounds W.is_there at
  within at n (pos i) (negsuc j) = out_of_bounds W.is_there at
  within at n (negsuc i) y = out_of_bounds W.is_there at

  whole : (at : Place) (n : ℕ) → Out_fits (There W.is_there) (λ c. c ≡ Cut_slice 0 n) (slice_cut at n (pos 0) (pos n))
  whole at n = tested (nat_le 0 n && nat_le n n)
    where
      tested : (b : Bool) → Out_fits (There W.is_there) (λ c. c ≡ Cut_slice 0 n) (checked b kind.Bounds at (Val (Cut_slice 0 n)))
      tested true = refl
      tested false = out_of_bounds W.is_there at

  and_cut : (p : Part) (ps : List Part) (d : Dim) (t : Size) (c : Cut) (o : Out (List Cut)) → Out_fits (There W.is_there) (Cuts_of ps t) o → ((cs : List Cut) → Cuts_of ps t cs → Cuts_of (p ∷ ps) (Level d t) (c ∷ cs)) → Out_fits (There W.is_there) (Cuts_of (p ∷ ps) (Level d t)) (and_then o (λ cs. Val (c ∷ cs)))
  and_cut p ps d t c o h go = out_then _ (Cuts_of ps t) (Cuts_of (p ∷ ps) (Level d t)) o (λ cs. Val (c ∷ cs)) h go

  cuts_out : (n i : ℕ) (at : Place) (ps : List Part) (es : Terms Ref BindId) (t : Size) (qs : List Pick) (h : Shape) → Slices ps es t → Picked ps qs → Has_shape N τ m no_frames t h → Out_fits (There W.is_there) (Cuts_of ps t) (cuts at qs h)
  unfolding cuts Picked Cuts_of Has_shape
  cuts_out n i at [] es t [] h p q x = tt
  cuts_out n i at [] es t (z ∷ qs) h p q x = absurd q
  cuts_out n i at (part.At ∷ ps) (term_and e es) (Level d t) (Pick_at (negsuc k) ∷ qs) (Array_shape l row) p q x = out_of_bounds W.is_there at
  cuts_out n i at (part.At ∷ ps) (term_and e es) (Level d t) (Pick_at (pos k) ∷ qs) (Array_shape l row) p q x = tested (nat_le (suc k) l) (cuts_out n i at ps es t qs row p q x.1)
    where
      tested : (b : Bool) → Out_fits (There W.is_there) (Cuts_of ps t) (cuts at qs row) → Out_fits (There W.is_there) (Cuts_of (part.At ∷ ps) (Level d t)) (and_then (checked b kind.Bounds at (Val (Cut_at k))) (λ c. and_then (cuts at qs row) (λ cs. Val (c ∷ cs))))
      tested true rest = and_cut part.At ps d t (Cut_at k) (cuts at qs row) rest (λ cs z. z)
      tested false rest = out_of_bounds W.is_there at
  cuts_out n i at (part.At ∷ ps) (term_and e es) (Level d t) (Pick_at z ∷ qs) h p q x = absurd x
  cuts_out n i at (part.At ∷ ps) (term_and e es) (Level d t) qs h p q x = absurd q
  cuts_out n i at (part.At ∷ ps) es t qs h p q x = absurd p
  cuts_out n i at (part.Slice false false ∷ ps) es (Level d t) (Pick_slice None None ∷ qs) (Array_shape l row) p q x =
      out_then _ (λ c. c ≡ Cut_slice 0 l) (Cuts_of (part.Slice false false ∷ ps) (Level d t)) (slice_cut at l (pos 0) (pos l)) (λ c. and_then (cuts at qs row) (λ cs. Val (c ∷ cs))) (whole at l)
      (λ c e. subst (λ z. Out_fits (There W.is_there) (Cuts_of (part.Slice false false ∷ ps) (Level d t)) (and_then (cuts at qs row) (λ cs. Val (z ∷ cs)))) (sym e) (and_cut (part.Slice false false) ps d t (Cut_slice 0 l) (cuts at qs row) (cuts_out n (suc i) at ps es t qs row p q x.1) (λ cs z. (refl, x.0, z))))
  cuts_out n i at (part.Slice false false ∷ ps) es (Level d t) (Pick_slice None None ∷ qs) h p q x = absurd x
  cuts_out n i at (part.Slice false false ∷ ps) es (Level d t) qs h p q x = absurd q
  cuts_out n i at (part.Slice false false ∷ ps) es t qs h p q x = absurd p
  cuts_out n i at (part.Slice false true ∷ ps) (term_and e es) (Level d t) (Pick_slice a b ∷ qs) (Array_shape l row) p q x =
      out_then _ (λ c. (i : ℕ) × (j : ℕ) × (c ≡ Cut_slice i j) × (j ≤ l)) (Cuts_of (part.Slice false true ∷ ps) (Level d t)) (slice_cut at l (or_else (pos 0) a) (or_else (pos l) b)) (λ c. and_then (cuts at qs row) (λ cs. Val (c ∷ cs))) (within at l (or_else (pos 0) a) (or_else (pos l) b))
      (λ c w. subst (λ z. Out_fits (There W.is_there) (Cuts_of (part.Slice false true ∷ ps) (Level d t)) (and_then (cuts at qs row) (λ cs. Val (z ∷ cs)))) (sym w.2) (and_cut (part.Slice false true) ps d t (Cut_slice w.0 w.1) (cuts at qs row) (cuts_out n (suc i) at ps es t qs row p q x.1) (λ cs z. (subst (λ k. w.1 ≤ k) x.0 w.3, z))))
  cuts_out n i at (part.Slice false true ∷ ps) (term_and e es) (Level d t) (Pick_slice a b ∷ qs) h p q x = absurd x
  cuts_out n i at (part.Slice false true ∷ ps) (term_and e es) (Level d t) qs h p q x = absurd q
  cuts_out n i at (part.Slice false true ∷ ps) es t qs h p q x = absurd p
  cuts_out n i at (part.Slice true false ∷ ps) (term_and e es) (Level d t) (Pick_slice a b ∷ qs) (Array_shape l row) p q x =
      out_then _ (λ c. (i : ℕ) × (j : ℕ) × (c ≡ Cut_slice i j) × (j ≤ l)) (Cuts_of (part.Slice true false ∷ ps) (Level d t)) (slice_cut at l (or_else (pos 0) a) (or_else (pos l) b)) (λ c. and_then (cuts at qs row) (λ cs. Val (c ∷ cs))) (within at l (or_else (pos 0) a) (or_else (pos l) b))
      (λ c w. subst (λ z. Out_fits (There W.is_there) (Cuts_of (part.Slice true false ∷ ps) (Level d t)) (and_then (cuts at qs row) (λ cs. Val (z ∷ cs)))) (sym w.2) (and_cut (part.Slice true false) ps d t (Cut_slice w.0 w.1) (cuts at qs row) (cuts_out n (suc i) at ps es t qs row p q x.1) (λ cs z. (subst (λ k. w.1 ≤ k) x.0 w.3, z))))
  cuts_out n i at (part.Slice true false ∷ ps) (term_and e es) (Level d t) (Pick_slice a b ∷ qs) h p q x = absurd x
  cuts_out n i at (part.Slice true false ∷ ps) (term_and e es) (Level d t) qs h p q x = absurd q
  cuts_out n i at (part.Slice true false ∷ ps) es t qs h p q x = absurd p
  cuts_out n i at (part.Slice true true ∷ ps) (term_and e (term_and f es)) (Level d t) (Pick_slice a b ∷ qs) (Array_shape l row) p q x =
      out_then _ (λ c. (i : ℕ) × (j : ℕ) × (c ≡ Cut_slice i j) × (j ≤ l)) (Cuts_of (part.Slice true true ∷ ps) (Level d t)) (slice_cut at l (or_else (pos 0) a) (or_else (pos l) b)) (λ c. and_then (cuts at qs row) (λ cs. Val (c ∷ cs))) (within at l (or_else (pos 0) a) (or_else (pos l) b))
      (λ c w. subst (λ z. Out_fits (There W.is_there) (Cuts_of (part.Slice true true ∷ ps) (Level d t)) (and_then (cuts at qs row) (λ cs. Val (z ∷ cs)))) (sym w.2) (and_cut (part.Slice true true) ps d t (Cut_slice w.0 w.1) (cuts at qs row) (cuts_out n (suc i) at ps es t qs row p q x.1) (λ cs z. (subst (λ k. w.1 ≤ k) x.0 w.3, z))))
  cuts_out n i at (part.Slice true true ∷ ps) (term_and e (term_and f es)) (Level d t) (Pick_slice a b ∷ qs) h p q x = absurd x
  cuts_out n i at (part.Slice true true ∷ ps) (term_and e (term_and f es)) (Level d t) qs h p q x = absurd q
  cuts_out n i at (part.Slice true true ∷ ps) es t qs h p q x = absurd p
  cuts_out n i at (part.Backwards ∷ ps) es (Level d t) (Pick_backwards ∷ qs) (Array_shape l row) p q x = and_cut part.Backwards ps d t Cut_backwards (cuts at qs row) (cuts_out n (suc i) at ps es t qs row p q x.1) (λ cs z. z)
  cuts_out n i at (part.Backwards ∷ ps) es (Level d t) (Pick_backwards ∷ qs) h p q x = absurd x
  cuts_out n i at (part.Backwards ∷ ps) es (Level d t) qs h p q x = absurd q
  cuts_out n i at (part.Backwards ∷ ps) es t qs h p q x = absurd p

  -- ---- what is cut

  module _ (n : ℕ) (F : ℕ → ℕ) where
    still : (d : Free) → Out_beyond N types τ W n (1 + n) d → at_node n F m d ≡ m d
    still d o = beyond_node N types τ W n F m d o

    kept_number : (d : Dim) → Scoped (Out_beyond N types τ W n (1 + n)) 0 d → number m no_frames d ≡ number (at_node n F m) no_frames d
    kept_number d a = same_number (Out_beyond N types τ W n (1 + n)) n F m still d a

    met_number : (i k : ℕ) (e : Free) → e ≡ Unknown n i → F i ≡ k → k ≡ number (at_node n F m) no_frames (At e)
    met_number i k e q h = here (Out_beyond N types τ W n (1 + n)) n F m still i k h ∙ ap (λ d. number (at_node n F m) no_frames (At d)) (sym q)

    -- the numbers of the rows that slices keep
    abbrev Cut_sizes : ℕ → List Cut → List Part → Terms Ref BindId → Type 0
    Cut_sizes i [] ps es = Unit {0}
    Cut_sizes i (c ∷ cs) (part.At ∷ ps) (term_and e es) = Cut_sizes i cs ps es
    Cut_sizes i (c ∷ cs) (part.Backwards ∷ ps) es = Cut_sizes (suc i) cs ps es
    Cut_sizes i (c ∷ cs) (part.Slice false false ∷ ps) es = Cut_sizes (suc i) cs ps es
    Cut_sizes i (Cut_slice u v ∷ cs) (part.Slice false true ∷ ps) (term_and e es) = (v - u ≡ number (at_node n F m) no_frames (At (value_of n i e))) × Cut_sizes (suc i) cs ps es
    Cut_sizes i (Cut_slice u v ∷ cs) (part.Slice true false ∷ ps) (term_and e es) = (v - u ≡ number (at_node n F m) no_frames (At (Unknown n i))) × Cut_sizes (suc i) cs ps es
    Cut_sizes i (Cut_slice u v ∷ cs) (part.Slice true true ∷ ps) (term_and e (term_and f es)) = (v - u ≡ number (at_node n F m) no_frames (At (slice_size n i (is_literal 0 e) f))) × Cut_sizes (suc i) cs ps es
    Cut_sizes i cs ps es = Unit {0}

    -- a number that a size may be is worth the same once sizes are met
    number_stays : (i : ℕ) (e : FlatTerm) (at k : ℕ) → Size_number N types W e at → k ≡ free m (value_of n i e) → k ≡ number (at_node n F m) no_frames (At (value_of n i e))
    unfolding at_node
    number_stays i (Use (ref.Bound b) mark j) at k p e = e
    number_stays i (Strict (Integer c t) mark no_term) at k p e = let fits = lt-ltb c (2 ^ 63) p.1 in
        subst (λ b. k ≡ number (at_node n F m) no_frames (At (cond b (Const c) (Unknown n i)))) (sym fits) (e ∙ ap (λ b. free m (cond b (Const c) (Unknown n i))) fits)
    number_stays i e at k p q = absurd p

    ends : (i : ℕ) (e : FlatTerm) (at u v : ℕ) → (value_of n i e ≡ Unknown n i) ⊎ Size_number N types W e at → F i ≡ v - u → ((n i : ℕ) → Size_number N types W e at → v - u ≡ free m (value_of n i e)) → v - u ≡ number (at_node n F m) no_frames (At (value_of n i e))
    ends i e at u v (inl q) met known = met_number i (v - u) (value_of n i e) q met
    ends i e at u v (inr p) met known = number_stays i e at (v - u) p (known n i p)

    goes : (i : ℕ) (e f : FlatTerm) (at u v : ℕ) → (slice_size n i (is_literal 0 e) f ≡ Unknown n i) ⊎ (Literal N types W 0 e at × Size_number N types W f (at + numbers e)) → F i ≡ v - u
        → ((n i : ℕ) → Literal N types W 0 e at → Size_number N types W f (at + numbers e) → v - u ≡ free m (value_of n i f)) → v - u ≡ number (at_node n F m) no_frames (At (slice_size n i (is_literal 0 e) f))
    unfolding slice_size
    goes i e f at u v (inl q) met known = met_number i (v - u) (slice_size n i (is_literal 0 e) f) q met
    goes i e f at u v (inr (l, p)) met known = subst (λ b. v - u ≡ number (at_node n F m) no_frames (At (slice_size n i b f))) (sym l.0) (number_stays i f (at + numbers e) (v - u) p (known n i l p))

    cut_sizes : (i : ℕ) (ps : List Part) (es : Terms Ref BindId) (at : ℕ) (t : Size) (cs : List Cut) → Slices ps es t → Slice_sizes N types W n i ps es at → Cuts_of ps t cs → Cuts_known N types τ W S one m cs ps es at → Counts F i cs → Cut_sizes i cs ps es
    unfolding Cuts_of
    cut_sizes i ps es at t [] p z c k f = tt
    cut_sizes i (part.At ∷ ps) (term_and e es) at (Level d t) (Cut_at x ∷ cs) p z c k f = cut_sizes i ps es (at + numbers e) t cs p z c k f
    cut_sizes i (part.Backwards ∷ ps) es at (Level d t) (Cut_backwards ∷ cs) p z c k f = cut_sizes (suc i) ps es at t cs p z c k f
    cut_sizes i (part.Slice false false ∷ ps) es at (Level d t) (Cut_slice u v ∷ cs) p z c k f = cut_sizes (suc i) ps es at t cs p z c.2 k f.1
    cut_sizes i (part.Slice false true ∷ ps) (term_and e es) at (Level d t) (Cut_slice u v ∷ cs) p z c k f = (ends i e at u v z.0 f.0 k.0, cut_sizes (suc i) ps es (at + numbers e) t cs p z.1 c.1 k.1 f.1)
    cut_sizes i (part.Slice true false ∷ ps) (term_and e es) at (Level d t) (Cut_slice u v ∷ cs) p z c k f = (met_number i (v - u) (Unknown n i) refl f.0, cut_sizes (suc i) ps es (at + numbers e) t cs p z c.1 k f.1)
    cut_sizes i (part.Slice true true ∷ ps) (term_and e (term_and f es)) at (Level d t) (Cut_slice u v ∷ cs) p z c k g = (goes i e f at u v z.0 g.0 k.0, cut_sizes (suc i) ps es (at + numbers e + numbers f) t cs p z.1 c.1 k.1 g.1)
    cut_sizes i [] es at t (x ∷ cs) p z c k f = absurd c
    cut_sizes i (part.At ∷ ps) (term_and e es) at (Level d t) (x ∷ cs) p z c k f = absurd c
    cut_sizes i (part.Backwards ∷ ps) es at (Level d t) (x ∷ cs) p z c k f = absurd c
    cut_sizes i (part.Slice false false ∷ ps) es at (Level d t) (x ∷ cs) p z c k f = absurd c
    cut_sizes i (part.Slice false true ∷ ps) (term_and e es) at (Level d t) (x ∷ cs) p z c k f = absurd c
    cut_sizes i (part.Slice true false ∷ ps) (term_and e es) at (Level d t) (x ∷ cs) p z c k f = absurd c
    cut_sizes i (part.Slice true true ∷ ps) (term_and e (term_and f es)) at (Level d t) (x ∷ cs) p z c k g = absurd c
    cut_sizes i ps es at t cs p z c k f = absurd p

    all_of_it : (i j k : ℕ) → i ≡ 0 → j ≡ k → j - i ≡ k
    all_of_it i j k e f = omega (arith, e, f)

    shape_cut : (i : ℕ) (ps : List Part) (es : Terms Ref BindId) (t : Size) (cs : List Cut) (h : Shape) → Slices ps es t → Cuts_of ps t cs → Cut_sizes i cs ps es → Each (Scoped (Out_beyond N types τ W n (1 + n))) 0 t → Has_shape N τ m no_frames t h → Has_shape N τ (at_node n F m) no_frames (indexed n i ps es t) (cut_shape cs h)
    unfolding Cuts_of Has_shape indexed Each
    shape_cut i [] es t [] h p c k a x = shape_same (Out_beyond N types τ W n (1 + n)) m (at_node n F m) N τ (λ d o. sym (still d o)) t 0 no_frames no_frames a (λ j i l. refl) h x
    shape_cut i [] es t (c0 ∷ cs) h p c k a x = absurd c
    shape_cut i (part.At ∷ ps) (term_and e es) (Level d t) (Cut_at z ∷ cs) (Array_shape l row) p c k a x = shape_cut i ps es t cs row p c k a.1 x.1
    shape_cut i (part.At ∷ ps) (term_and e es) (Level d t) (Cut_at z ∷ cs) h p c k a x = absurd x
    shape_cut i (part.At ∷ ps) (term_and e es) (Level d t) cs h p c k a x = absurd c
    shape_cut i (part.At ∷ ps) es t cs h p c k a x = absurd p
    shape_cut i (part.Slice false false ∷ ps) es (Level d t) (Cut_slice u v ∷ cs) (Array_shape l row) p c k a x = (all_of_it u v (number m no_frames d) c.0 c.1 ∙ kept_number d a.0, shape_cut (suc i) ps es t cs row p c.2 k a.1 x.1)
    shape_cut i (part.Slice false false ∷ ps) es (Level d t) (Cut_slice u v ∷ cs) h p c k a x = absurd x
    shape_cut i (part.Slice false false ∷ ps) es (Level d t) cs h p c k a x = absurd c
    shape_cut i (part.Slice false false ∷ ps) es t cs h p c k a x = absurd p
    shape_cut i (part.Slice false true ∷ ps) (term_and e es) (Level d t) (Cut_slice u v ∷ cs) (Array_shape l row) p c k a x = (k.0, shape_cut (suc i) ps es t cs row p c.1 k.1 a.1 x.1)
    shape_cut i (part.Slice false true ∷ ps) (term_and e es) (Level d t) (Cut_slice u v ∷ cs) h p c k a x = absurd x
    shape_cut i (part.Slice false true ∷ ps) (term_and e es) (Level d t) cs h p c k a x = absurd c
    shape_cut i (part.Slice false true ∷ ps) es t cs h p c k a x = absurd p
    shape_cut i (part.Slice true false ∷ ps) (term_and e es) (Level d t) (Cut_slice u v ∷ cs) (Array_shape l row) p c k a x = (k.0, shape_cut (suc i) ps es t cs row p c.1 k.1 a.1 x.1)
    shape_cut i (part.Slice true false ∷ ps) (term_and e es) (Level d t) (Cut_slice u v ∷ cs) h p c k a x = absurd x
    shape_cut i (part.Slice true false ∷ ps) (term_and e es) (Level d t) cs h p c k a x = absurd c
    shape_cut i (part.Slice true false ∷ ps) es t cs h p c k a x = absurd p
    shape_cut i (part.Slice true true ∷ ps) (term_and e (term_and f es)) (Level d t) (Cut_slice u v ∷ cs) (Array_shape l row) p c k a x = (k.0, shape_cut (suc i) ps es t cs row p c.1 k.1 a.1 x.1)
    shape_cut i (part.Slice true true ∷ ps) (term_and e (term_and f es)) (Level d t) (Cut_slice u v ∷ cs) h p c k a x = absurd x
    shape_cut i (part.Slice true true ∷ ps) (term_and e (term_and f es)) (Level d t) cs h p c k a x = absurd c
    shape_cut i (part.Slice true true ∷ ps) es t cs h p c k a x = absurd p
    shape_cut i (part.Backwards ∷ ps) es (Level d t) (Cut_backwards ∷ cs) (Array_shape l row) p c k a x = (x.0 ∙ kept_number d a.0, shape_cut (suc i) ps es t cs row p c k a.1 x.1)
    shape_cut i (part.Backwards ∷ ps) es (Level d t) (Cut_backwards ∷ cs) h p c k a x = absurd x
    shape_cut i (part.Backwards ∷ ps) es (Level d t) cs h p c k a x = absurd c
    shape_cut i (part.Backwards ∷ ps) es t cs h p c k a x = absurd p

    -- an array of rows that are cut
    cut_rows : (e : Dim) (t u : Size) (cs : List Cut) (row : Shape) (ds : List Datum) (l : ℕ) → length ds ≡ l → l ≡ number (at_node n F m) no_frames e → Every (Has_datum N τ m no_frames t) ds → ((d : Datum) → Has_datum N τ m no_frames t d → Out_fits (There W.is_there) (Has_datum N τ (at_node n F m) no_frames u) (cut cs d)) → Has_shape N τ (at_node n F m) no_frames u row
        → Out_fits (There W.is_there) (Has_datum N τ (at_node n F m) no_frames (Level e u)) (and_then (each_out (cut cs) ds) (λ ys. Val (Array_datum row (datums ys))))
    unfolding Has_datum
    cut_rows e t u cs row ds l long is all go shaped = out_then _ (λ ys. Every (Has_datum N τ (at_node n F m) no_frames u) ys × (length ys ≡ length ds)) (Has_datum N τ (at_node n F m) no_frames (Level e u)) (each_out (cut cs) ds) (λ ys. Val (Array_datum row (datums ys)))
        (each_out_fits _ (Has_datum N τ m no_frames t) (Has_datum N τ (at_node n F m) no_frames u) (cut cs) go ds all)
        (λ ys q. (ap length (same_list ys) ∙ q.1 ∙ long ∙ is, shaped, listed_every (Has_datum N τ (at_node n F m) no_frames u) ys q.0))

    datum_cut : (i : ℕ) (ps : List Part) (es : Terms Ref BindId) (t : Size) (cs : List Cut) (d : Datum) → Slices ps es t → Cuts_of ps t cs → Cut_sizes i cs ps es → Each (Scoped (Out_beyond N types τ W n (1 + n))) 0 t → Has_datum N τ m no_frames t d → Out_fits (There W.is_there) (Has_datum N τ (at_node n F m) no_frames (indexed n i ps es t)) (cut cs d)
    unfolding Cuts_of Has_datum indexed Each cut
    datum_cut i [] es t [] y p c k a x = datum_same (Out_beyond N types τ W n (1 + n)) m (at_node n F m) N τ (λ d o. sym (still d o)) t 0 no_frames no_frames a (λ j i l. refl) y x
    datum_cut i [] es t (c0 ∷ cs) y p c k a x = absurd c
    datum_cut i (part.At ∷ ps) (term_and e es) (Level d t) (Cut_at z ∷ cs) (Array_datum row ds) p c k a x =
        row_there _ (Has_datum N τ m no_frames t) (Has_datum N τ (at_node n F m) no_frames (indexed n i ps es t)) (listed ds) z (cut cs) (every_listed (Has_datum N τ m no_frames t) ds x.2) (λ y hy. datum_cut i ps es t cs y p c k a.1 hy)
    datum_cut i (part.At ∷ ps) (term_and e es) (Level d t) (Cut_at z ∷ cs) y p c k a x = absurd x
    datum_cut i (part.At ∷ ps) (term_and e es) (Level d t) cs y p c k a x = absurd c
    datum_cut i (part.At ∷ ps) es t cs y p c k a x = absurd p
    datum_cut i (part.Slice false false ∷ ps) es (Level d t) (Cut_slice u v ∷ cs) (Array_datum row ds) p c k a x =
        cut_rows d t (indexed n (suc i) ps es t) cs (cut_shape cs row) (take (v - u) (drop u (listed ds))) (v - u) (slice_long u v (listed ds) (let e = x.0 in let f = c.1 in omega (arith, e, f))) (all_of_it u v (number m no_frames d) c.0 c.1 ∙ kept_number d a.0)
        (every_taken (Has_datum N τ m no_frames t) (v - u) (drop u (listed ds)) (every_dropped (Has_datum N τ m no_frames t) u (listed ds) (every_listed (Has_datum N τ m no_frames t) ds x.2))) (λ y hy. datum_cut (suc i) ps es t cs y p c.2 k a.1 hy) (shape_cut (suc i) ps es t cs row p c.2 k a.1 x.1)
    datum_cut i (part.Slice false false ∷ ps) es (Level d t) (Cut_slice u v ∷ cs) y p c k a x = absurd x
    datum_cut i (part.Slice false false ∷ ps) es (Level d t) cs y p c k a x = absurd c
    datum_cut i (part.Slice false false ∷ ps) es t cs y p c k a x = absurd p
    datum_cut i (part.Slice false true ∷ ps) (term_and e es) (Level d t) (Cut_slice u v ∷ cs) (Array_datum row ds) p c k a x =
        cut_rows (At (value_of n i e)) t (indexed n (suc i) ps es t) cs (cut_shape cs row) (take (v - u) (drop u (listed ds))) (v - u) (slice_long u v (listed ds) (subst (λ z. v ≤ z) (sym x.0) c.0)) k.0
        (every_taken (Has_datum N τ m no_frames t) (v - u) (drop u (listed ds)) (every_dropped (Has_datum N τ m no_frames t) u (listed ds) (every_listed (Has_datum N τ m no_frames t) ds x.2))) (λ y hy. datum_cut (suc i) ps es t cs y p c.1 k.1 a.1 hy) (shape_cut (suc i) ps es t cs row p c.1 k.1 a.1 x.1)
    datum_cut i (part.Slice false true ∷ ps) (term_and e es) (Level d t) (Cut_slice u v ∷ cs) y p c k a x = absurd x
    datum_cut i (part.Slice false true ∷ ps) (term_and e es) (Level d t) cs y p c k a x = absurd c
    datum_cut i (part.Slice false true ∷ ps) es t cs y p c k a x = absurd p
    datum_cut i (part.Slice true false ∷ ps) (term_and e es) (Level d t) (Cut_slice u v ∷ cs) (Array_datum row ds) p c k a x =
        cut_rows (At (Unknown n i)) t (indexed n (suc i) ps es t) cs (cut_shape cs row) (take (v - u) (drop u (listed ds))) (v - u) (slice_long u v (listed ds) (subst (λ z. v ≤ z) (sym x.0) c.0)) k.0
        (every_taken (Has_datum N τ m no_frames t) (v - u) (drop u (listed ds)) (every_dropped (Has_datum N τ m no_frames t) u (listed ds) (every_listed (Has_datum N τ m no_frames t) ds x.2))) (λ y hy. datum_cut (suc i) ps es t cs y p c.1 k.1 a.1 hy) (shape_cut (suc i) ps es t cs row p c.1 k.1 a.1 x.1)
    datum_cut i (part.Slice true false ∷ ps) (term_and e es) (Level d t) (Cut_slice u v ∷ cs) y p c k a x = absurd x
    datum_cut i (part.Slice true false ∷ ps) (term_and e es) (Level d t) cs y p c k a x = absurd c
    datum_cut i (part.Slice true false ∷ ps) es t cs y p c k a x = absurd p
    datum_cut i (part.Slice true true ∷ ps) (term_and e (term_and f es)) (Level d t) (Cut_slice u v ∷ cs) (Array_datum row ds) p c k a x =
        cut_rows (At (slice_size n i (is_literal 0 e) f)) t (indexed n (suc i) ps es t) cs (cut_shape cs row) (take (v - u) (drop u (listed ds))) (v - u) (slice_long u v (listed ds) (subst (λ z. v ≤ z) (sym x.0) c.0)) k.0
        (every_taken (Has_datum N τ m no_frames t) (v - u) (drop u (listed ds)) (every_dropped (Has_datum N τ m no_frames t) u (listed ds) (every_listed (Has_datum N τ m no_frames t) ds x.2))) (λ y hy. datum_cut (suc i) ps es t cs y p c.1 k.1 a.1 hy) (shape_cut (suc i) ps es t cs row p c.1 k.1 a.1 x.1)
    datum_cut i (part.Slice true true ∷ ps) (term_and e (term_and f es)) (Level d t) (Cut_slice u v ∷ cs) y p c k a x = absurd x
    datum_cut i (part.Slice true true ∷ ps) (term_and e (term_and f es)) (Level d t) cs y p c k a x = absurd c
    datum_cut i (part.Slice true true ∷ ps) es t cs y p c k a x = absurd p
    datum_cut i (part.Backwards ∷ ps) es (Level d t) (Cut_backwards ∷ cs) (Array_datum row ds) p c k a x =
        cut_rows d t (indexed n (suc i) ps es t) cs (cut_shape cs row) (reverse (listed ds)) (number m no_frames d) (length-reverse (listed ds) ∙ x.0) (kept_number d a.0)
        (every_reversed (Has_datum N τ m no_frames t) (listed ds) (every_listed (Has_datum N τ m no_frames t) ds x.2)) (λ y hy. datum_cut (suc i) ps es t cs y p c k a.1 hy) (shape_cut (suc i) ps es t cs row p c k a.1 x.1)
    datum_cut i (part.Backwards ∷ ps) es (Level d t) (Cut_backwards ∷ cs) y p c k a x = absurd x
    datum_cut i (part.Backwards ∷ ps) es (Level d t) cs y p c k a x = absurd c
    datum_cut i (part.Backwards ∷ ps) es t cs y p c k a x = absurd p

  left_data : (n i : ℕ) (ps : List Part) (es : Terms Ref BindId) (t : Size) → Slices ps es t → Data t → Data (indexed n i ps es t)
  unfolding Data indexed
  left_data n i [] es t p d = d
  left_data n i (part.At ∷ ps) (term_and e es) (Level x t) p d = left_data n i ps es t p d
  left_data n i (part.Slice false false ∷ ps) es (Level x t) p d = left_data n (suc i) ps es t p d
  left_data n i (part.Slice false true ∷ ps) (term_and e es) (Level x t) p d = left_data n (suc i) ps es t p d
  left_data n i (part.Slice true false ∷ ps) (term_and e es) (Level x t) p d = left_data n (suc i) ps es t p d
  left_data n i (part.Slice true true ∷ ps) (term_and e (term_and f es)) (Level x t) p d = left_data n (suc i) ps es t p d
  left_data n i (part.Backwards ∷ ps) es (Level x t) p d = left_data n (suc i) ps es t p d
  left_data n i ps es t p d = absurd p

  abbrev Sliced : ℕ → Size → Datum → Type 0
  Sliced lo u y = (F : ℕ → ℕ) × Has_datum N τ (at_node lo F m) no_frames u y

  out_both : {A : Type 0} (P Q : A → Type 0) (o : Out A) → Out_fits (There W.is_there) P o → Out_fits (There W.is_there) Q o → Out_fits (There W.is_there) (λ a. P a × Q a) o
  out_both P Q (Val a) h k = (h, k)
  out_both P Q (Fail r) h k = h
  out_both P Q Wrong h k = tt

  sliced_out : (mark : Place) (lo : ℕ) (ps : List Part) (es : Terms Ref BindId) (at : ℕ) (t : Size) (d : Datum) (is : List Datum) → Slices ps es t → Slice_sizes N types W lo 0 ps es at → Each (Scoped (Out_beyond N types τ W lo (1 + lo))) 0 t → Has_datum N τ m no_frames t d
      → Out_fits (There W.is_there) (λ zs. Exacts N types τ W S one m zs es at) (each_out exact_of is) → Out_fits (There W.is_there) (Sliced lo (indexed lo 0 ps es t)) (indexed_data mark ps d is)
  unfolding indexed_data
  sliced_out mark lo ps es at t d is p sizes a h exact =
      out_then _ (λ zs. Exacts N types τ W S one m zs es at) (Sliced lo (indexed lo 0 ps es t)) (each_out exact_of is) (λ zs. and_then (picks ps zs) (λ qs. and_then (cuts mark qs (shape_of d)) (λ cs. and_then (cut cs d) (within_weight mark)))) exact
      (λ zs z. out_then _ (λ qs. Picked ps qs × Picks_known N types τ W S one m qs ps es at) (Sliced lo (indexed lo 0 ps es t)) (picks ps zs) (λ qs. and_then (cuts mark qs (shape_of d)) (λ cs. and_then (cut cs d) (within_weight mark)))
      (out_both (Picked ps) (λ qs. Picks_known N types τ W S one m qs ps es at) (picks ps zs) (picked _ ps zs) (picks_known N types τ W S one m ps es at zs z))
      (λ qs q. out_then _ (λ cs. Cuts_of ps t cs × Cuts_known N types τ W S one m cs ps es at) (Sliced lo (indexed lo 0 ps es t)) (cuts mark qs (shape_of d)) (λ cs. and_then (cut cs d) (within_weight mark))
      (out_both (Cuts_of ps t) (λ cs. Cuts_known N types τ W S one m cs ps es at) (cuts mark qs (shape_of d)) (cuts_out lo 0 mark ps es t qs (shape_of d) p q.0 (datum_shaped N τ m no_frames t d h)) (cuts_known N types τ W S one m mark ps es at qs (shape_of d) q.1))
      (λ cs c. let F : ℕ → ℕ = nth (counts cs) in
      out_then _ (Has_datum N τ (at_node lo F m) no_frames (indexed lo 0 ps es t)) (Sliced lo (indexed lo 0 ps es t)) (cut cs d) (within_weight mark)
      (datum_cut lo F 0 ps es t cs d p c.0 (cut_sizes lo F 0 ps es at t cs p sizes c.0 c.1 (counted F 0 cs (λ k. ap F (let z : k + 0 ≡ k = omega arith in z)))) a h)
      (λ y hy. checked_out _ (Sliced lo (indexed lo 0 ps es t)) (nat_le (weight (shape_of y)) most_words) kind.TooLarge mark (too_large W.is_there mark) (Val y) (F, hy)))))

  record First_is (es : Terms Ref BindId) (at : ℕ) (t : Size) (ds : List Datum) : Type 0 where
    first : Datum
    indices : List Datum
    all : ds ≡ first ∷ indices
    has_type : Has_datum N τ m no_frames t first
    exact : Out_fits (There W.is_there) (λ zs. Exacts N types τ W S one m zs es at) (each_out exact_of indices)

  pub slices_fit : (ps : List Part) (mark : Place) (x : FlatTerm) (es : Terms Ref BindId) (lo : ℕ) (env : FlatEnv) (vs : List FlatValue) → Data (s (lo + 1)) → Slices ps es (s (lo + 1)) → Slice_sizes N types W lo 0 ps es (lo + 1 + numbers x) → Each (Scoped (Out_beyond N types τ W lo (1 + lo))) 0 (s (lo + 1))
      → Part_words N types τ W S one m (term_and x es) (lo + 1) vs → All_fit N τ W.sizing W.is_there (calls W) m no_frames (parts (term_and x es) (lo + 1)) (values vs) → operation N types (Index ps) lo (lo + 1) (term_and x es) (parts (term_and x es) (lo + 1)) ≡ Ok (s lo)
      → Gives (There W.is_there) (Res N types τ W lo (1 + lo) m (s lo)) (operated false (row_told ((flat_names (told W)).lang W.tops) (Of_literal env lo)) (fits_type ((flat_names (told W)).lang W.tops) env lo) (W.integer_at lo) (Index ps) mark vs)
  unfolding All_fit operation made
  slices_fit ps mark x es lo env [] d p sizes a w h e = absurd h
  slices_fit ps mark x es lo env (v ∷ ws) dt p sizes a w h e =
      let t : Size = s (lo + 1) in
      let at : ℕ = lo + 1 + numbers x in
      let u : Size = indexed lo 0 ps es (s (lo + 1)) in
      gives_then (First_is es at t) (Res N types τ W lo (1 + lo) m (s lo)) _ _
      (gives_exact _ (First_is es at t) 0 _ (out_then _ (Has_datum N τ m no_frames t) (First_is es at t) (datum_of v) _
      (out_of _ (Has_datum N τ m no_frames t) (datum_of v) (datum_fine W.is_there v) (λ d q. fits_datum N τ W.sizing W.is_there (calls W) m no_frames t dt v d q h.0))
      (λ d hd. out_then _ (λ is. Out_fits (There W.is_there) (λ zs. Exacts N types τ W S one m zs es at) (each_out exact_of is)) (First_is es at t) (all_data ws) (λ is. Val (d ∷ is)) (exacts N types τ W S one m es at ws w.1 h.1) (λ is z. record { first = d; indices = is; all = refl; has_type = hd; exact = z }))))
      (λ ds q. subst (λ z. Gives (There W.is_there) (Res N types τ W lo (1 + lo) m (s lo)) (Then (the (made false (row_told ((flat_names (told W)).lang W.tops) (Of_literal env lo)) (Make_index ps) mark z)) (λ r. gives r.0 (as_value r.1)))) (sym q.all)
      (gives_then (λ r. Sliced lo u r.1) (Res N types τ W lo (1 + lo) m (s lo)) _ _
      (gives_exact _ (λ r. Sliced lo u r.1) 0 _ (out_then _ (Sliced lo u) (λ r. Sliced lo u r.1) (indexed_data mark ps q.first q.indices) shared (sliced_out mark lo ps es at t q.first q.indices p sizes a q.has_type q.exact) (λ y hy. hy)))
      (λ r y. gives_exact _ (Res N types τ W lo (1 + lo) m (s lo)) r.0 (Val (as_value r.1)) (record {
        now = at_node lo y.0 m;
        old = λ d o. beyond_node N types τ W lo y.0 m d o;
        fits = subst (λ w. Fits N τ W.sizing W.is_there (calls W) (at_node lo y.0 m) no_frames w (as_value r.1)) (same_ok u (s lo) e)
            (datum_fits N τ W.sizing W.is_there (calls W) (at_node lo y.0 m) no_frames u (left_data lo 0 ps es t p dt) (as_value r.1) r.1 (datum_of_as Ref BindId (Unit {0}) r.1) y.1);
      }))))
