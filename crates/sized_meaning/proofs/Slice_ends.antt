-- Where a slice ends that begins with the first row: at the number that stands there.
use Rattle.fut_scalar.specs.declared.report.Report.{Report}
use Rattle.sized_meaning.proofs.Quiet.{out_of_bounds}
use Rattle.sized_meaning.proofs.Reporting.{exact_fine, cut_of_fine}
use Rattle.sized_meaning.proofs.Size_reports.{datum_fine}
use Rattle.sized_meaning.specs.There.{There}
use Rattle.std.specs.Prelude.{ℤ, pos, negsuc, nat_le, ◌&&◌}
use Rattle.std.proofs.Common.{◌≡◌, ℕ, ◌+◌, ◌-◌, List, [], ◌∷◌, Bool, true, false, Option, Some, None, refl, sym, ap, ◌∙◌, subst, arith}
use Rattle.fut_scalar.specs.Integers.{integer_of}
use Rattle.fut_scalar.specs.declared.place.BindId.{BindId}
use Rattle.fut_scalar.specs.declared.place.Place.{Place}
use Rattle.fut_scalar.specs.declared.report.FailKind.TheVariants as kind
use Rattle.fut_scalar.specs.declared.scalar.IntType.TheVariants.{I64}
use Rattle.fut_scalar.specs.declared.scalar.Scalar.TheVariants as scalar
use Rattle.fut_scalar.specs.declared.scalar.ScalarType.TheVariants as sort
use Rattle.fut_flat.specs.declared.act.Part.{Part}
use Rattle.fut_flat.specs.declared.act.Part.TheVariants as part
use Rattle.fut_flat.specs.declared.prim.Ref.{Ref}
use Rattle.fut_flat.specs.Erased.{FlatTerm}
use Rattle.fut_flat.specs.Numbers.{numbers}
use Rattle.fut_flat.specs.Terms.{Terms, no_term, term_and}
use Rattle.fut_types.specs.Types.{Sub}
use Rattle.fut_typing.specs.Names.{Names}
use Rattle.fut_value.specs.Data.{Shape, Datum}
use Rattle.fut_meaning.specs.Accessors.{count_of}
use Rattle.fut_meaning.specs.Arrays.{Pick, Pick_at, Pick_slice, Pick_backwards, Cut, Cut_slice, picks, slice_cut, cut_of, cuts, size, inner, exact_of, each_out, or_else, checked}
use Rattle.fut_meaning.specs.Datums.{datum_of, all_data}
use Rattle.fut_meaning.specs.Flats.{FlatValue}
use Rattle.fut_meaning.specs.Outcomes.{Out, Val, and_then}
use Rattle.fut_meaning.specs.Values.{Scalar_value, values}
use Rattle.sized_types.specs.Sizes.{Size, Sizes}
use Rattle.fut_sizes.specs.Operations.{value_of}
use Rattle.fut_sizes.specs.Rules.{part_sizes}
use Rattle.sized_meaning.specs.Worth.{Worth, free, no_frames}
use Rattle.sized_meaning.specs.Shapes.{Meant}
use Rattle.sized_meaning.specs.Finding.{One_kind_each}
use Rattle.sized_meaning.specs.Fits.{Out_fits, word, Is_scalar, Fits, All_fit}
use Rattle.sized_meaning.specs.Law.{Sound, Literal, Size_number, World, calls}
use Rattle.sized_meaning.proofs.Outcomes.{out_of}
use Rattle.sized_meaning.proofs.Scalars.{out_then}
use Rattle.sized_meaning.proofs.Words.{Part_word, Part_words, is_i64, literal_is, number_is}

pick_more : (quiet : Report → Type 0) (P Q : List Pick → Type 0) (q : Pick) (o : Out (List Pick)) → Out_fits quiet P o → ((qs : List Pick) → P qs → Q (q ∷ qs)) → Out_fits quiet Q (and_then o (λ qs. Val (q ∷ qs)))
pick_more quiet P Q q o h go = out_then _ P Q o (λ qs. Val (q ∷ qs)) h go

cut_more : (quiet : Report → Type 0) (C : Cut → Type 0) (P Q : List Cut → Type 0) (c : Out Cut) (o : Out (List Cut)) → Out_fits quiet C c → Out_fits quiet P o → ((x : Cut) → C x → (cs : List Cut) → P cs → Q (x ∷ cs)) → Out_fits quiet Q (and_then c (λ x. and_then o (λ cs. Val (x ∷ cs))))
cut_more quiet C P Q c o hc ho go = out_then _ C Q c (λ x. and_then o (λ cs. Val (x ∷ cs))) hc (λ x hx. out_then _ P Q o (λ cs. Val (x ∷ cs)) ho (λ cs h. go x hx cs h))

exact_value : FlatValue → ℤ
exact_value (Scalar_value (scalar.Int t n)) = integer_of t n
exact_value v = pos 0

module _ (N : Names) (types : Sub) (τ : Meant) (W : World) (S : Sound N types W.sizing) (one : One_kind_each τ) (m : Worth) where
  abbrev s : ℕ → Size
  s n = W.sizing.size_at n

  abbrev Of : Size → FlatValue → Type 0
  Of t v = Fits N τ W.sizing W.is_there (calls W) m no_frames t v

  abbrev parts : Terms Ref BindId → ℕ → Sizes
  parts ts at = part_sizes N types W.sizing.size_at W.sizing.home ts at

  -- ---- the integers that the parts of an index are

  pub record Exact (e : FlatTerm) (at : ℕ) (z : ℤ) : Type 0 where
    is_zero : Literal N types W 0 e at → z ≡ pos 0
    is_size : (n i : ℕ) → Size_number N types W e at → count_of z ≡ free m (value_of n i e)

  abbrev pub Exacts : List ℤ → Terms Ref BindId → ℕ → Type 0
  Exacts [] no_term at = Unit {0}
  Exacts (z ∷ zs) (term_and e es) at = Exact e at z × Exacts zs es (at + numbers e)
  Exacts zs es at = ⊥

  no_number : (e : FlatTerm) (at : ℕ) (w : FlatValue) (z : ℤ) → Part_word N types τ W S one m e at w → Of (s at) w → (Is_scalar (sort.Int I64) w → ⊥) → Exact e at z
  no_number e at w z P h never = record {
    is_zero = λ p. absurd (never (is_i64 N types τ W S one m at w p.1 h));
    is_size = λ n i p. absurd (never (number_is N types τ W S one m n i e at w p P h).0);
  }

  exact_part : (e : FlatTerm) (at : ℕ) (w : FlatValue) → Part_word N types τ W S one m e at w → Of (s at) w → Out_fits (There W.is_there) (λ d. Out_fits (There W.is_there) (Exact e at) (exact_of d)) (datum_of w)
  unfolding datum_of word exact_value
  exact_part e at (Scalar_value (scalar.Int t n)) P h = record {
    is_zero = λ p. ap exact_value (literal_is N types τ W S one m 0 e at (Scalar_value (scalar.Int t n)) p P h);
    is_size = λ k i p. (number_is N types τ W S one m k i e at (Scalar_value (scalar.Int t n)) p P h).1;
  }
  exact_part e at (Scalar_value (scalar.Bool b)) P h = tt
  exact_part e at w P h = out_of (There W.is_there) (λ d. Out_fits (There W.is_there) (Exact e at) (exact_of d)) (datum_of w) (datum_fine W.is_there w) (λ d q. out_of (There W.is_there) (Exact e at) (exact_of d) (exact_fine W.is_there d) (λ z r. no_number e at w z P h (λ x. x)))

  pub exacts : (es : Terms Ref BindId) (at : ℕ) (ws : List FlatValue) → Part_words N types τ W S one m es at ws → All_fit N τ W.sizing W.is_there (calls W) m no_frames (parts es at) (values ws)
      → Out_fits (There W.is_there) (λ is. Out_fits (There W.is_there) (λ zs. Exacts zs es at) (each_out exact_of is)) (all_data ws)
  unfolding All_fit
  exacts no_term at [] P h = tt
  exacts no_term at (w ∷ ws) P h = absurd h
  exacts (term_and e es) at [] P h = absurd h
  exacts (term_and e es) at (w ∷ ws) P h =
      let All : List Datum → Type 0 = λ is. Out_fits (There W.is_there) (λ zs. Exacts zs (term_and e es) at) (each_out exact_of is) in
      let Rest : List Datum → Type 0 = λ is. Out_fits (There W.is_there) (λ zs. Exacts zs es (at + numbers e)) (each_out exact_of is) in
      out_then _ (λ d. Out_fits (There W.is_there) (Exact e at) (exact_of d)) All (datum_of w) (λ d. and_then (all_data ws) (λ ds. Val (d ∷ ds))) (exact_part e at w P.0 h.0)
      (λ d hd. out_then _ Rest All (all_data ws) (λ ds. Val (d ∷ ds)) (exacts es (at + numbers e) ws P.1 h.1)
      (λ ds hds. out_then _ (Exact e at) (λ zs. Exacts zs (term_and e es) at) (exact_of d) (λ y. and_then (each_out exact_of ds) (λ ys. Val (y ∷ ys))) hd
      (λ y hy. out_then _ (λ zs. Exacts zs es (at + numbers e)) (λ zs. Exacts zs (term_and e es) at) (each_out exact_of ds) (λ ys. Val (y ∷ ys)) hds (λ ys hys. (hy, hys)))))

  -- ---- what is picked

  pub record To_end (e : FlatTerm) (at : ℕ) (x y : Option ℤ) : Type 0 where
    last : ℤ
    starts : x ≡ None
    ends : y ≡ Some last
    exact_last : Exact e at last

  pub record Between (e f : FlatTerm) (at : ℕ) (x y : Option ℤ) : Type 0 where
    first : ℤ
    last : ℤ
    starts : x ≡ Some first
    ends : y ≡ Some last
    exact_first : Exact e at first
    exact_last : Exact f (at + numbers e) last

  abbrev pub Picks_known : List Pick → List Part → Terms Ref BindId → ℕ → Type 0
  Picks_known [] [] es at = Unit {0}
  Picks_known [] (p ∷ ps) es at = ⊥
  Picks_known (q ∷ qs) [] es at = ⊥
  Picks_known (q ∷ qs) (part.At ∷ ps) (term_and e es) at = Picks_known qs ps es (at + numbers e)
  Picks_known (q ∷ qs) (part.Backwards ∷ ps) es at = Picks_known qs ps es at
  Picks_known (q ∷ qs) (part.Slice false false ∷ ps) es at = Picks_known qs ps es at
  Picks_known (Pick_slice x y ∷ qs) (part.Slice false true ∷ ps) (term_and e es) at = To_end e at x y × Picks_known qs ps es (at + numbers e)
  Picks_known (q ∷ qs) (part.Slice true false ∷ ps) (term_and e es) at = Picks_known qs ps es (at + numbers e)
  Picks_known (Pick_slice x y ∷ qs) (part.Slice true true ∷ ps) (term_and e (term_and f es)) at = Between e f at x y × Picks_known qs ps es (at + numbers e + numbers f)
  Picks_known qs ps es at = ⊥

  pub picks_known : (ps : List Part) (es : Terms Ref BindId) (at : ℕ) (zs : List ℤ) → Exacts zs es at → Out_fits (There W.is_there) (λ qs. Picks_known qs ps es at) (picks ps zs)
  unfolding picks
  picks_known [] es at [] k = tt
  picks_known [] es at (z ∷ zs) k = tt
  picks_known (part.At ∷ ps) es at [] k = tt
  picks_known (part.At ∷ ps) (term_and e es) at (z ∷ zs) k = pick_more _ (λ qs. Picks_known qs ps es (at + numbers e)) (λ qs. Picks_known qs (part.At ∷ ps) (term_and e es) at) (Pick_at z) (picks ps zs) (picks_known ps es (at + numbers e) zs k.1) (λ qs h. h)
  picks_known (part.At ∷ ps) no_term at (z ∷ zs) k = absurd k
  picks_known (part.Backwards ∷ ps) es at zs k = pick_more _ (λ qs. Picks_known qs ps es at) (λ qs. Picks_known qs (part.Backwards ∷ ps) es at) Pick_backwards (picks ps zs) (picks_known ps es at zs k) (λ qs h. h)
  picks_known (part.Slice false false ∷ ps) es at zs k = pick_more _ (λ qs. Picks_known qs ps es at) (λ qs. Picks_known qs (part.Slice false false ∷ ps) es at) (Pick_slice None None) (picks ps zs) (picks_known ps es at zs k) (λ qs h. h)
  picks_known (part.Slice false true ∷ ps) es at [] k = tt
  picks_known (part.Slice false true ∷ ps) (term_and e es) at (z ∷ zs) k = pick_more _ (λ qs. Picks_known qs ps es (at + numbers e)) (λ qs. Picks_known qs (part.Slice false true ∷ ps) (term_and e es) at) (Pick_slice None (Some z)) (picks ps zs) (picks_known ps es (at + numbers e) zs k.1)
      (λ qs h. (record { last = z; starts = refl; ends = refl; exact_last = k.0 }, h))
  picks_known (part.Slice false true ∷ ps) no_term at (z ∷ zs) k = absurd k
  picks_known (part.Slice true false ∷ ps) es at [] k = tt
  picks_known (part.Slice true false ∷ ps) (term_and e es) at (z ∷ zs) k = pick_more _ (λ qs. Picks_known qs ps es (at + numbers e)) (λ qs. Picks_known qs (part.Slice true false ∷ ps) (term_and e es) at) (Pick_slice (Some z) None) (picks ps zs) (picks_known ps es (at + numbers e) zs k.1) (λ qs h. h)
  picks_known (part.Slice true false ∷ ps) no_term at (z ∷ zs) k = absurd k
  picks_known (part.Slice true true ∷ ps) es at [] k = tt
  picks_known (part.Slice true true ∷ ps) es at (z ∷ []) k = tt
  picks_known (part.Slice true true ∷ ps) (term_and e (term_and f es)) at (z ∷ w ∷ zs) k = pick_more _ (λ qs. Picks_known qs ps es (at + numbers e + numbers f)) (λ qs. Picks_known qs (part.Slice true true ∷ ps) (term_and e (term_and f es)) at) (Pick_slice (Some z) (Some w)) (picks ps zs)
      (picks_known ps es (at + numbers e + numbers f) zs k.1.1) (λ qs h. (record { first = z; last = w; starts = refl; ends = refl; exact_first = k.0; exact_last = k.1.0 }, h))
  picks_known (part.Slice true true ∷ ps) (term_and e no_term) at (z ∷ w ∷ zs) k = absurd k.1
  picks_known (part.Slice true true ∷ ps) no_term at (z ∷ w ∷ zs) k = absurd k

  -- ---- and what is cut

  record Slice_is (P : ℕ → ℕ → Type 0) (c : Cut) : Type 0 where
    first : ℕ
    last : ℕ
    is_slice : c ≡ Cut_slice first last
    known : P first last

  abbrev pub Ends_at : FlatTerm → ℕ → ℕ → ℕ → Type 0
  Ends_at e at u v = (n i : ℕ) → Size_number N types W e at → v - u ≡ free m (value_of n i e)

  abbrev pub Goes_to : FlatTerm → FlatTerm → ℕ → ℕ → ℕ → Type 0
  Goes_to e f at u v = (n i : ℕ) → Literal N types W 0 e at → Size_number N types W f (at + numbers e) → v - u ≡ free m (value_of n i f)

  abbrev pub Cuts_known : List Cut → List Part → Terms Ref BindId → ℕ → Type 0
  Cuts_known [] ps es at = Unit {0}
  Cuts_known (c ∷ cs) (part.At ∷ ps) (term_and e es) at = Cuts_known cs ps es (at + numbers e)
  Cuts_known (c ∷ cs) (part.Backwards ∷ ps) es at = Cuts_known cs ps es at
  Cuts_known (c ∷ cs) (part.Slice false false ∷ ps) es at = Cuts_known cs ps es at
  Cuts_known (Cut_slice u v ∷ cs) (part.Slice false true ∷ ps) (term_and e es) at = Ends_at e at u v × Cuts_known cs ps es (at + numbers e)
  Cuts_known (c ∷ cs) (part.Slice true false ∷ ps) (term_and e es) at = Cuts_known cs ps es (at + numbers e)
  Cuts_known (Cut_slice u v ∷ cs) (part.Slice true true ∷ ps) (term_and e (term_and f es)) at = Goes_to e f at u v × Cuts_known cs ps es (at + numbers e + numbers f)
  Cuts_known cs ps es at = Unit {0}

  to_end : (mark : Place) (l : ℕ) (e : FlatTerm) (at : ℕ) (z : ℤ) → Exact e at z → Out_fits (There W.is_there) (Slice_is (Ends_at e at)) (slice_cut mark l (pos 0) z)
  to_end mark l e at (negsuc j) x = out_of_bounds W.is_there mark
  to_end mark l e at (pos j) x = tested (nat_le 0 j && nat_le j l)
    where
      tested : (b : Bool) → Out_fits (There W.is_there) (Slice_is (Ends_at e at)) (checked b kind.Bounds mark (Val (Cut_slice 0 j)))
      tested true = record { first = 0; last = j; is_slice = refl; known = λ n i p. (let y : j - 0 ≡ j = omega arith in y) ∙ x.is_size n i p }
      tested false = out_of_bounds W.is_there mark

  same_pos : (i : ℕ) → pos i ≡ pos 0 → i ≡ 0
  same_pos i e = ap count_of e

  between : (mark : Place) (l : ℕ) (e f : FlatTerm) (at : ℕ) (a b : ℤ) → Exact e at a → Exact f (at + numbers e) b → Out_fits (There W.is_there) (Slice_is (Goes_to e f at)) (slice_cut mark l a b)
  between mark l e f at (negsuc i) b x y = out_of_bounds W.is_there mark
  between mark l e f at (pos i) (negsuc j) x y = out_of_bounds W.is_there mark
  between mark l e f at (pos i) (pos j) x y = tested (nat_le i j && nat_le j l)
    where
      tested : (b : Bool) → Out_fits (There W.is_there) (Slice_is (Goes_to e f at)) (checked b kind.Bounds mark (Val (Cut_slice i j)))
      tested true = record { first = i; last = j; is_slice = refl; known = λ n k p q. let z = same_pos i (x.is_zero p) in (let y : j - i ≡ j = omega (arith, z) in y) ∙ y.is_size n k q }
      tested false = out_of_bounds W.is_there mark

  pub cuts_known : (mark : Place) (ps : List Part) (es : Terms Ref BindId) (at : ℕ) (qs : List Pick) (h : Shape) → Picks_known qs ps es at → Out_fits (There W.is_there) (λ cs. Cuts_known cs ps es at) (cuts mark qs h)
  unfolding cuts
  cuts_known mark [] es at [] h k = tt
  cuts_known mark (p ∷ ps) es at [] h k = absurd k
  cuts_known mark [] es at (q ∷ qs) h k = absurd k
  cuts_known mark (part.At ∷ ps) (term_and e es) at (q ∷ qs) h k =
      cut_more _ (λ c. Unit {0}) (λ cs. Cuts_known cs ps es (at + numbers e)) (λ cs. Cuts_known cs (part.At ∷ ps) (term_and e es) at) (cut_of mark (size h) q) (cuts mark qs (inner h)) (cut_of_fine W.is_there mark (size h) q) (cuts_known mark ps es (at + numbers e) qs (inner h) k) (λ c u cs r. r)
  cuts_known mark (part.Backwards ∷ ps) es at (q ∷ qs) h k =
      cut_more _ (λ c. Unit {0}) (λ cs. Cuts_known cs ps es at) (λ cs. Cuts_known cs (part.Backwards ∷ ps) es at) (cut_of mark (size h) q) (cuts mark qs (inner h)) (cut_of_fine W.is_there mark (size h) q) (cuts_known mark ps es at qs (inner h) k) (λ c u cs r. r)
  cuts_known mark (part.Slice false false ∷ ps) es at (q ∷ qs) h k =
      cut_more _ (λ c. Unit {0}) (λ cs. Cuts_known cs ps es at) (λ cs. Cuts_known cs (part.Slice false false ∷ ps) es at) (cut_of mark (size h) q) (cuts mark qs (inner h)) (cut_of_fine W.is_there mark (size h) q) (cuts_known mark ps es at qs (inner h) k) (λ c u cs r. r)
  cuts_known mark (part.Slice true false ∷ ps) (term_and e es) at (q ∷ qs) h k =
      cut_more _ (λ c. Unit {0}) (λ cs. Cuts_known cs ps es (at + numbers e)) (λ cs. Cuts_known cs (part.Slice true false ∷ ps) (term_and e es) at) (cut_of mark (size h) q) (cuts mark qs (inner h)) (cut_of_fine W.is_there mark (size h) q) (cuts_known mark ps es (at + numbers e) qs (inner h) k) (λ c u cs r. r)
  cuts_known mark (part.Slice false true ∷ ps) (term_and e es) at (Pick_slice x y ∷ qs) h k =
      let E = k.0 in
      cut_more _ (Slice_is (Ends_at e at)) (λ cs. Cuts_known cs ps es (at + numbers e)) (λ cs. Cuts_known cs (part.Slice false true ∷ ps) (term_and e es) at) (slice_cut mark (size h) (or_else (pos 0) x) (or_else (pos (size h)) y)) (cuts mark qs (inner h))
      (subst (λ a. Out_fits (There W.is_there) (Slice_is (Ends_at e at)) (slice_cut mark (size h) (or_else (pos 0) a) (or_else (pos (size h)) y))) (sym E.starts)
      (subst (λ b. Out_fits (There W.is_there) (Slice_is (Ends_at e at)) (slice_cut mark (size h) (pos 0) (or_else (pos (size h)) b))) (sym E.ends) (to_end mark (size h) e at E.last E.exact_last)))
      (cuts_known mark ps es (at + numbers e) qs (inner h) k.1)
      (λ c C cs r. subst (λ x. Cuts_known (x ∷ cs) (part.Slice false true ∷ ps) (term_and e es) at) (sym C.is_slice) (C.known, r))
  cuts_known mark (part.Slice true true ∷ ps) (term_and e (term_and f es)) at (Pick_slice x y ∷ qs) h k =
      let E = k.0 in
      cut_more _ (Slice_is (Goes_to e f at)) (λ cs. Cuts_known cs ps es (at + numbers e + numbers f)) (λ cs. Cuts_known cs (part.Slice true true ∷ ps) (term_and e (term_and f es)) at) (slice_cut mark (size h) (or_else (pos 0) x) (or_else (pos (size h)) y)) (cuts mark qs (inner h))
      (subst (λ a. Out_fits (There W.is_there) (Slice_is (Goes_to e f at)) (slice_cut mark (size h) (or_else (pos 0) a) (or_else (pos (size h)) y))) (sym E.starts)
      (subst (λ b. Out_fits (There W.is_there) (Slice_is (Goes_to e f at)) (slice_cut mark (size h) E.first (or_else (pos (size h)) b))) (sym E.ends) (between mark (size h) e f at E.first E.last E.exact_first E.exact_last)))
      (cuts_known mark ps es (at + numbers e + numbers f) qs (inner h) k.1)
      (λ c C cs r. subst (λ x. Cuts_known (x ∷ cs) (part.Slice true true ∷ ps) (term_and e (term_and f es)) at) (sym C.is_slice) (C.known, r))
  cuts_known mark (part.Slice false true ∷ ps) no_term at (Pick_slice x y ∷ qs) h k = absurd k
  cuts_known mark (part.Slice true true ∷ ps) no_term at (Pick_slice x y ∷ qs) h k = absurd k
  cuts_known mark (part.Slice true true ∷ ps) (term_and e no_term) at (Pick_slice x y ∷ qs) h k = absurd k
  cuts_known mark ps es at qs h k = absurd k
