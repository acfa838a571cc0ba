-- An element of an array, at an index for each of its first levels, is of the sized type that is left.
use Rattle.fut_scalar.specs.declared.report.Report.{Report}
use Rattle.sized_meaning.proofs.Quiet.{out_of_bounds, too_large}
use Rattle.sized_meaning.proofs.Reporting.{exact_fine, each_fine}
use Rattle.sized_meaning.proofs.Size_reports.{all_fine}
use Rattle.sized_meaning.proofs.Size_reports.{datum_fine}
use Rattle.sized_meaning.specs.There.{There}
use Rattle.std.specs.Prelude.{ℤ, pos, negsuc, nat_le}
use Rattle.std.proofs.Common.{◌≡◌, ℕ, zero, suc, ◌+◌, List, [], ◌∷◌, slice_get, Bool, true, false, Ok, refl, sym, subst}
use Rattle.fut_scalar.specs.declared.place.BindId.{BindId}
use Rattle.fut_scalar.specs.declared.place.Place.{Place}
use Rattle.fut_scalar.specs.declared.report.FailKind.TheVariants as kind
use Rattle.fut_flat.specs.declared.act.Part.{Part}
use Rattle.fut_flat.specs.declared.act.Part.TheVariants as part
use Rattle.fut_flat.specs.declared.prim.Ref.{Ref}
use Rattle.fut_flat.specs.Terms.{Index, Terms, term_and}
use Rattle.fut_flat.specs.Erased.{FlatTerm}
use Rattle.fut_types.specs.Types.{Sub}
use Rattle.fut_typing.specs.Names.{Names}
use Rattle.fut_value.specs.Data.{Shape, Datum, Array_datum, listed, shape_of, weight}
use Rattle.fut_meaning.specs.Arrays.{Pick, Pick_at, Cut, Cut_at, picks, cuts, cut, size, inner, exact_of, each_out, indexed as indexed_data, checked, within_weight, most_words, row_or_wrong, shared, made, Make_index}
use Rattle.fut_meaning.specs.Datums.{as_value, datum_of, all_data}
use Rattle.fut_meaning.specs.Flats.{FlatValue, FlatEnv, flat_names}
use Rattle.fut_meaning.specs.Meaning.{row_told, fits_type, Of_literal}
use Rattle.fut_meaning.specs.Operations.{operated}
use Rattle.fut_meaning.specs.Outcomes.{Out, Val, and_then, gives, the, Then}
use Rattle.fut_meaning.specs.Values.{values}
use Rattle.fut_meaning.proofs.Data.{datum_of_as}
use Rattle.fut_meaning.proofs.Safe.{Every}
use Rattle.sized_types.specs.Sizes.{Size, Level, Sizes}
use Rattle.fut_sizes.specs.Operations.{operation, indexed}
use Rattle.fut_sizes.specs.Rules.{part_sizes}
use Rattle.fut_sizes.specs.Suiting.{Data}
use Rattle.sized_meaning.specs.Worth.{Worth, no_frames}
use Rattle.sized_meaning.specs.Shapes.{Meant, Has_datum}
use Rattle.sized_meaning.specs.Finding.{One_kind_each}
use Rattle.sized_meaning.specs.Fits.{Out_fits, Gives, Fits, All_fit}
use Rattle.sized_meaning.specs.Law.{Sound, World, told, calls, Indices, Result as Res}
use Rattle.sized_meaning.proofs.Outcomes.{gives_exact, gives_then, out_of}
use Rattle.sized_meaning.proofs.Suiting.{same_ok}
use Rattle.sized_meaning.proofs.Scalars.{out_then}
use Rattle.sized_meaning.proofs.Datas.{datum_fits, fits_datum}
use Rattle.sized_meaning.proofs.Mapping.{every_listed}

-- each part of the index asks for one row
Picked : List Part → List Pick → Type 0
Picked [] [] = Unit {0}
Picked (p ∷ ps) (Pick_at z ∷ qs) = Picked ps qs
Picked ps qs = ⊥

Cutted : List Part → List Cut → Type 0
Cutted [] [] = Unit {0}
Cutted (p ∷ ps) (Cut_at i ∷ cs) = Cutted ps cs
Cutted ps cs = ⊥

All_at : List Part → Type 0
All_at [] = Unit {0}
All_at (part.At ∷ ps) = All_at ps
All_at ps = ⊥

picked : (quiet : Report → Type 0) (ps : List Part) (zs : List ℤ) → All_at ps → Out_fits quiet (Picked ps) (picks ps zs)
unfolding picks Picked All_at
picked quiet [] [] h = tt
picked quiet [] (z ∷ zs) h = tt
picked quiet (part.At ∷ ps) [] h = tt
picked quiet (part.At ∷ ps) (z ∷ zs) h = out_then _ (Picked ps) (Picked (part.At ∷ ps)) (picks ps zs) (λ qs. Val (Pick_at z ∷ qs)) (picked quiet ps zs h) (λ qs q. q)
picked quiet (p ∷ ps) zs h = absurd h

cutted : (is_there : Place → Bool) (at : Place) (ps : List Part) (qs : List Pick) (h : Shape) → Picked ps qs → Out_fits (There is_there) (Cutted ps) (cuts at qs h)
unfolding cuts Picked Cutted
cutted is_there at [] [] h p = tt
cutted is_there at (x ∷ ps) (Pick_at (negsuc i) ∷ qs) h p = out_of_bounds is_there at
cutted is_there at (x ∷ ps) (Pick_at (pos i) ∷ qs) h p = tested (nat_le (suc i) (size h)) (cutted is_there at ps qs (inner h) p)
  where
    tested : (b : Bool) → Out_fits (There is_there) (Cutted ps) (cuts at qs (inner h)) → Out_fits (There is_there) (Cutted (x ∷ ps)) (and_then (checked b kind.Bounds at (Val (Cut_at i))) (λ c. and_then (cuts at qs (inner h)) (λ cs. Val (c ∷ cs))))
    tested true rest = out_then _ (Cutted ps) (Cutted (x ∷ ps)) (cuts at qs (inner h)) (λ cs. Val (Cut_at i ∷ cs)) rest (λ cs q. q)
    tested false rest = out_of_bounds is_there at
cutted is_there at ps qs h p = absurd p

pub row_there : (quiet : Report → Type 0) (P Q : Datum → Type 0) (xs : List Datum) (i : ℕ) (k : Datum → Out Datum) → Every P xs → ((d : Datum) → P d → Out_fits quiet Q (k d)) → Out_fits quiet Q (row_or_wrong (slice_get xs i) k)
row_there quiet P Q [] i k e go = tt
row_there quiet P Q (x ∷ xs) zero k e go = go x e.0
row_there quiet P Q (x ∷ xs) (suc i) k e go = row_there quiet P Q xs i k e.1 go

module _ (N : Names) (types : Sub) (τ : Meant) (W : World) (S : Sound N types W.sizing) (one : One_kind_each τ) (m : Worth) where
  abbrev s : ℕ → Size
  s n = W.sizing.size_at n

  abbrev parts : Terms Ref BindId → ℕ → Sizes
  parts ts at = part_sizes N types W.sizing.size_at W.sizing.home ts at

  all_at : (ps : List Part) (es : Terms Ref BindId) (t : Size) → Indices ps es t → All_at ps
  unfolding All_at
  all_at [] es t h = tt
  all_at (part.At ∷ ps) (term_and e es) (Level d t) h = all_at ps es t h
  all_at ps es t h = absurd h

  -- the element that is cut out
  cut_fits : (n i : ℕ) (ps : List Part) (es : Terms Ref BindId) (t : Size) (cs : List Cut) (d : Datum) → Indices ps es t → Cutted ps cs → Has_datum N τ m no_frames t d → Out_fits (There W.is_there) (Has_datum N τ m no_frames (indexed n i ps es t)) (cut cs d)
  unfolding Cutted Has_datum cut indexed
  cut_fits n i [] es t [] d p c h = h
  cut_fits n i (part.At ∷ ps) (term_and e es) (Level x t) (Cut_at k ∷ cs) (Array_datum row ds) p c h =
      row_there _ (Has_datum N τ m no_frames t) (Has_datum N τ m no_frames (indexed n i ps es t)) (listed ds) k (cut cs) (every_listed (Has_datum N τ m no_frames t) ds h.2) (λ y hy. cut_fits n i ps es t cs y p c hy)
  cut_fits n i (part.At ∷ ps) (term_and e es) (Level x t) (Cut_at k ∷ cs) d p c h = absurd h
  cut_fits n i (part.At ∷ ps) (term_and e es) (Level x t) cs d p c h = absurd c
  cut_fits n i [] es t cs d p c h = absurd c
  cut_fits n i ps es t cs d p c h = absurd p

  left_data : (n i : ℕ) (ps : List Part) (es : Terms Ref BindId) (t : Size) → Indices ps es t → Data t → Data (indexed n i ps es t)
  unfolding Data indexed
  left_data n i [] es t p d = d
  left_data n i (part.At ∷ ps) (term_and e es) (Level x t) p d = left_data n i ps es t p d
  left_data n i ps es t p d = absurd p

  weighed : (at : Place) (t : Size) (d : Datum) → Has_datum N τ m no_frames t d → Out_fits (There W.is_there) (Has_datum N τ m no_frames t) (within_weight at d)
  weighed at t d h = tested (nat_le (weight (shape_of d)) most_words)
    where
      tested : (c : Bool) → Out_fits (There W.is_there) (Has_datum N τ m no_frames t) (checked c kind.TooLarge at (Val d))
      tested true = h
      tested false = too_large W.is_there at

  index_out : (at : Place) (n : ℕ) (ps : List Part) (es : Terms Ref BindId) (t : Size) (d : Datum) (is : List Datum) → Indices ps es t → Has_datum N τ m no_frames t d → Out_fits (There W.is_there) (Has_datum N τ m no_frames (indexed n 0 ps es t)) (indexed_data at ps d is)
  unfolding indexed_data
  index_out at n ps es t d is p h =
      let u : Size = indexed n 0 ps es t in
      out_then _ (λ zs. Unit {0}) (Has_datum N τ m no_frames u) (each_out exact_of is) _ (each_fine W.is_there exact_of (λ d. exact_fine W.is_there d) is)
      (λ zs z. out_then _ (Picked ps) (Has_datum N τ m no_frames u) (picks ps zs) _ (picked _ ps zs (all_at ps es t p))
      (λ qs q. out_then _ (Cutted ps) (Has_datum N τ m no_frames u) (cuts at qs (shape_of d)) _ (cutted W.is_there at ps qs (shape_of d) q)
      (λ cs c. out_then _ (Has_datum N τ m no_frames u) (Has_datum N τ m no_frames u) (cut cs d) (within_weight at) (cut_fits n 0 ps es t cs d p c h) (λ x hx. weighed at u x hx))))

  abbrev First_is : Size → List Datum → Type 0
  First_is t ds = (d : Datum) × (is : List Datum) × (ds ≡ d ∷ is) × Has_datum N τ m no_frames t d

  pub index_fits : (ps : List Part) (mark : Place) (x : FlatTerm) (es : Terms Ref BindId) (lo : ℕ) (env : FlatEnv) (vs : List FlatValue) → Data (s (lo + 1)) × Indices ps es (s (lo + 1)) → All_fit N τ W.sizing W.is_there (calls W) m no_frames (parts (term_and x es) (lo + 1)) (values vs)
      → operation N types (Index ps) lo (lo + 1) (term_and x es) (parts (term_and x es) (lo + 1)) ≡ Ok (s lo)
      → Gives (There W.is_there) (Res N types τ W lo (1 + lo) m (s lo)) (operated false (row_told ((flat_names (told W)).lang W.tops) (Of_literal env lo)) (fits_type ((flat_names (told W)).lang W.tops) env lo) (W.integer_at lo) (Index ps) mark vs)
  unfolding All_fit operation made
  index_fits ps mark x es lo env [] p h e = absurd h
  index_fits ps mark x es lo env (v ∷ ws) p h e =
      let t : Size = s (lo + 1) in
      let u : Size = indexed lo 0 ps es (s (lo + 1)) in
      gives_then (First_is t) (Res N types τ W lo (1 + lo) m (s lo)) _ _
      (gives_exact _ (First_is t) 0 _ (out_then _ (Has_datum N τ m no_frames t) (First_is t) (datum_of v) _
      (out_of _ (Has_datum N τ m no_frames t) (datum_of v) (datum_fine W.is_there v) (λ d q. fits_datum N τ W.sizing W.is_there (calls W) m no_frames t p.0 v d q h.0))
      (λ d hd. out_then _ (λ is. Unit {0}) (First_is t) (all_data ws) (λ is. Val (d ∷ is)) (all_fine W.is_there ws) (λ is z. (d, is, refl, hd)))))
      (λ ds q. subst (λ z. Gives (There W.is_there) (Res N types τ W lo (1 + lo) m (s lo)) (Then (the (made false (row_told ((flat_names (told W)).lang W.tops) (Of_literal env lo)) (Make_index ps) mark z)) (λ r. gives r.0 (as_value r.1)))) (sym q.2)
      (gives_then (λ r. Has_datum N τ m no_frames u r.1) (Res N types τ W lo (1 + lo) m (s lo)) _ _
      (gives_exact _ (λ r. Has_datum N τ m no_frames u r.1) 0 _ (out_then _ (Has_datum N τ m no_frames u) (λ r. Has_datum N τ m no_frames u r.1) (indexed_data mark ps q.0 q.1) shared (index_out mark lo ps es t q.0 q.1 p.1 q.3) (λ y hy. hy)))
      (λ r y. gives_exact _ (Res N types τ W lo (1 + lo) m (s lo)) r.0 (Val (as_value r.1)) (record {
        now = m;
        old = λ d o. refl;
        fits = subst (λ w. Fits N τ W.sizing W.is_there (calls W) m no_frames w (as_value r.1)) (same_ok u (s lo) e)
            (datum_fits N τ W.sizing W.is_there (calls W) m no_frames u (left_data lo 0 ps es t p.1 p.0) (as_value r.1) r.1 (datum_of_as Ref BindId (Unit {0}) r.1) y);
      }))))
