-- Data as values.
use Rattle.std.proofs.Common.{◌≡◌, ℕ, zero, suc, ◌+◌, ◌-◌, ◌*◌, ◌<◌, ◌≤◌, ◌%◌, ◌^◌, List, [], ◌∷◌, ◌++◌, map, length, take, drop, get_or, All, ◌==◌, Bool, true, false, append_assoc, refl, sym, ap, ◌∙◌, subst, arith}
use Rattle.std.proofs.lemmas.List.Elements.{All-cons, All-nil, All-append}
use Rattle.std.proofs.Math.Seq.{take-append_seam, drop-append_seam, drop-length}
use Rattle.std.proofs.Math.ListN.{drop_of_length-le}
use Rattle.std.proofs.lemmas.List.{append-nil, length-append, length-map, map-append, take_more, take_all, drop_more}
use Rattle.fut_scalar.specs.Integers.{FitsType, width_of}
use Rattle.fut_scalar.specs.declared.scalar.IntType.{IntType}
use Rattle.fut_scalar.specs.declared.scalar.IntType.TheVariants as int
use Rattle.fut_scalar.specs.declared.scalar.Scalar.{Scalar}
use Rattle.fut_scalar.specs.declared.scalar.Scalar.TheVariants as scalar
use Rattle.fut_scalar.specs.declared.scalar.ScalarType.{ScalarType}
use Rattle.fut_scalar.specs.declared.scalar.ScalarType.TheVariants as sort
use Rattle.fut_arithmetic.specs.Conversions.{one_if}
use Rattle.fut_arithmetic.specs.Types.{type_of}
use Rattle.fut_arithmetic.specs.Words.{scalar_of_word, word_of}
use Rattle.fut_value.specs.Data.{Shape, Scalar_shape, Tuple_shape, Record_shape, Array_shape, Unmet_shape, Datum, Scalar_datum, Array_datum, Datums, no_datum, datum_and, datums}
use Rattle.fut_value.specs.Values.{product, cut, shape_with, datum_with, word_count}
use Rattle.array_data.specs.declared.data.Data.{Data}
use Rattle.array_data.specs.declared.data.Data.TheVariants as hold
use Rattle.array_data.specs.declared.form.Form.{Form}
use Rattle.array_data.specs.declared.form.Form.TheVariants as form
use Rattle.array_data.specs.Held.{fitted, held, held_all, scalars, shape_held}
use Rattle.array_data.proofs.Holding.{held_scalar, held_words, held_rows, form_array, form_scalar, form_tuple, form_record, form_unmet}
use Rattle.data_values.specs.Met.{IsLevel, sizes_in, met, all_met}
use Rattle.data_values.specs.Put.{Words_put, Rows_put, row_datum}
use Rattle.data_values.proofs.FromValues.{refitted, row_cut}

-- ---- sizes

pub level_array : (n : ℕ) (h : Form) → IsLevel (shape_held (form.Array n h)) n (shape_held h)
unfolding sizes_in
level_array n h r = ap (sizes_in (suc r)) (form_array n h)

pub level_unmet : IsLevel (shape_held form.Unmet) 0 (shape_held form.Unmet)
unfolding sizes_in
level_unmet r = ap (sizes_in (suc r)) form_unmet ∙ ap (λ h. 0 ∷ sizes_in r h) (sym form_unmet)

pub level_scalar : (t : ScalarType) → IsLevel (shape_held (form.Scalar t)) 0 (shape_held (form.Scalar t))
unfolding sizes_in
level_scalar t r = ap (sizes_in (suc r)) (form_scalar t) ∙ ap (λ h. 0 ∷ sizes_in r h) (sym (form_scalar t))

pub level_tuple : (hs : List Form) → IsLevel (shape_held (form.Tuple hs)) 0 (shape_held (form.Tuple hs))
unfolding sizes_in
level_tuple hs r = ap (sizes_in (suc r)) (form_tuple hs) ∙ ap (λ h. 0 ∷ sizes_in r h) (sym (form_tuple hs))

pub level_record : (fs : List (List ℕ)) (hs : List Form) → IsLevel (shape_held (form.Record fs hs)) 0 (shape_held (form.Record fs hs))
unfolding sizes_in
level_record fs hs r = ap (sizes_in (suc r)) (form_record fs hs) ∙ ap (λ h. 0 ∷ sizes_in r h) (sym (form_record fs hs))

pub ruleset levels = (level_array, level_unmet, level_scalar, level_tuple, level_record)

pub no_level : (h : Shape) → sizes_in 0 h ≡ []
unfolding sizes_in
no_level h = refl

pub many_levels : (r : ℕ) (h : Shape) → length (sizes_in r h) ≡ r
unfolding sizes_in
many_levels zero h = refl
many_levels (suc r) (Array_shape n h) = ap suc (many_levels r h)
many_levels (suc r) (Scalar_shape t) = ap suc (many_levels r (Scalar_shape t))
many_levels (suc r) (Tuple_shape hs) = ap suc (many_levels r (Tuple_shape hs))
many_levels (suc r) (Record_shape hs) = ap suc (many_levels r (Record_shape hs))
many_levels (suc r) Unmet_shape = ap suc (many_levels r Unmet_shape)

-- one level more
pub level_more : (rank i n : ℕ) (h below : Shape) (old new all : List ℕ) → i < rank → IsLevel h n below → new ≡ old ++ n ∷ [] → all ≡ old ++ sizes_in (rank - i) h → all ≡ new ++ sizes_in (rank - (i + 1)) below
level_more rank i n h below old new all l is b a = a ∙ ap (λ z. old ++ sizes_in z h) (let e : rank - i ≡ suc (rank - (i + 1)) = omega (arith, l) in e) ∙ ap (λ z. old ++ z) (is (rank - (i + 1))) ∙ sym (append_assoc old (n ∷ []) (sizes_in (rank - (i + 1)) below)) ∙ ap (λ z. z ++ sizes_in (rank - (i + 1)) below) (sym b)

pub levels_end : (rank i : ℕ) (h : Shape) (sizes all : List ℕ) → rank ≤ i → all ≡ sizes ++ sizes_in (rank - i) h → sizes ≡ all
levels_end rank i h sizes all l a = sym (a ∙ ap (λ z. sizes ++ sizes_in z h) (let e : rank - i ≡ 0 = omega (arith, l) in e) ∙ ap (λ z. sizes ++ z) (no_level h) ∙ append-nil sizes)

pub sizes_found : (ns : List ℕ) (i : ℕ) (h below : Shape) → length ns ≤ i → sizes_in (length ns) h ≡ take i ns ++ sizes_in (length ns - i) below → sizes_in (length ns) h ≡ ns
sizes_found ns i h below l a = sym (levels_end (length ns) i below (take i ns) (sizes_in (length ns) h) l a) ∙ take_all i ns l

-- ---- scalars

abbrev pub reduced : ScalarType → ℕ → ℕ
reduced t w = word_of (scalar_of_word t w)

word_back : (s : Scalar) → scalar_of_word (type_of s) (word_of s) ≡ fitted s
word_back (scalar.Int t n) = refl
word_back (scalar.Bool true) = refl
word_back (scalar.Bool false) = refl

twice_fitted : (s : Scalar) → fitted (fitted s) ≡ fitted s
twice_fitted (scalar.Int t n) = refitted (sort.Int t) n
twice_fitted (scalar.Bool b) = refl

low_word : (s : Scalar) → FitsType s → word_of s < word_count (type_of s)
low_word (scalar.Int t n) f = f
low_word (scalar.Bool true) f = omega arith
low_word (scalar.Bool false) f = omega arith

pub scalar_words : (t : ScalarType) (s r : Scalar) (w : ℕ) (old new : List ℕ) → r ≡ fitted s → FitsType r → type_of r ≡ t → w ≡ word_of r → new ≡ old ++ w ∷ [] → Words_put t [] (held (hold.Scalar s)) old new
unfolding met
scalar_words t s r w old new e f of is b = record {
  words = w ∷ [];
  behind = b;
  long = refl;
  fit = All-cons (λ z. z < word_count t) w [] (subst (λ z. w < word_count z) of (subst (λ z. z < word_count (type_of r)) (sym is) (low_word r f))) (All-nil (λ z. z < word_count t));
  same = ap Scalar_datum (ap (scalar_of_word t) is ∙ ap (λ z. scalar_of_word z (word_of r)) (sym of) ∙ word_back r ∙ ap fitted e ∙ twice_fitted s) ∙ sym (held_scalar s);
}

-- ---- words

scalar_back : (t : ScalarType) (w : ℕ) → scalar_of_word t (reduced t w) ≡ scalar_of_word t w
scalar_back (sort.Int t) w = refitted (sort.Int t) w
scalar_back sort.Bool w = ap scalar.Bool (bit_back (w % 2) (omega arith))
  where
    bit_back : (b : ℕ) → b < 2 → (one_if (b == 1) % 2 == 1) ≡ (b == 1)
    bit_back zero l = refl
    bit_back (suc zero) l = refl
    bit_back (suc (suc b)) l = absurd (omega (arith, l))

scalars_back : (t : ScalarType) (ws : List ℕ) → scalars t (map (reduced t) ws) ≡ scalars t ws
unfolding scalars
scalars_back t [] = refl
scalars_back t (w ∷ ws) = ap (λ z. Scalar_datum z ∷ scalars t (map (reduced t) ws)) (scalar_back t w) ∙ ap (λ z. Scalar_datum (scalar_of_word t w) ∷ z) (scalars_back t ws)

reduced_low : (t : ScalarType) (w : ℕ) → reduced t w < word_count t
reduced_low (sort.Int t) w = Rattle.std.proofs.Math.Nat.mod-lt w (power_high t)
  where
    power_high : (t : IntType) → 0 < 2 ^ width_of t
    power_high int.I8 = omega arith
    power_high int.I16 = omega arith
    power_high int.I32 = omega arith
    power_high int.I64 = omega arith
    power_high int.U8 = omega arith
    power_high int.U16 = omega arith
    power_high int.U32 = omega arith
    power_high int.U64 = omega arith
reduced_low sort.Bool w = one_low (w % 2 == 1)
  where
    one_low : (b : Bool) → one_if b < 2
    one_low true = omega arith
    one_low false = omega arith

all_reduced : (t : ScalarType) (ws : List ℕ) → All (λ w. w < word_count t) (map (reduced t) ws)
all_reduced t [] = All-nil (λ w. w < word_count t)
all_reduced t (w ∷ ws) = All-cons (λ w. w < word_count t) (reduced t w) (map (reduced t) ws) (reduced_low t w) (all_reduced t ws)

all_met_scalars : (t : ScalarType) (ds : Datums) → all_met t 0 ds ≡ ds
unfolding met
all_met_scalars t no_datum = refl
all_met_scalars t (datum_and d ds) = ap (datum_and d) (all_met_scalars t ds)

pub row_words : (t : ScalarType) (row old new : List ℕ) → new ≡ old ++ map (reduced t) row → Words_put t (length row ∷ []) (row_datum t row) old new
unfolding met sizes_in scalars
row_words t row old new b = record {
  words = map (reduced t) row;
  behind = b;
  long = omega (arith, length-map row (reduced t));
  fit = all_reduced t row;
  same = ap (λ z. Array_datum (Scalar_shape t) (datums (map (datum_with t []) (cut z 1 (map (reduced t) row))))) (sym (length-map row (reduced t))) ∙ ap (λ z. Array_datum (Scalar_shape t) (datums z)) (row_cut t (map (reduced t) row) ∙ scalars_back t row) ∙ ap (Array_datum (Scalar_shape t)) (sym (all_met_scalars t (datums (scalars t row))));
}

pub words_held : (t : ScalarType) (ws : List ℕ) → held (hold.Words t ws) ≡ row_datum t ws
unfolding scalars
words_held t ws = held_words t ws

-- ---- rows

pub no_rows_put : (t : ScalarType) (ns old : List ℕ) → Rows_put t ns [] old old
unfolding all_met
no_rows_put t ns old = record { words = []; behind = sym (append-nil old); long = omega arith; fit = All-nil (λ w. w < word_count t); same = refl }

product_more : (n p : ℕ) → p + n * p ≡ suc n * p
product_more n p = grind arith

pub row_and_rows : (t : ScalarType) (ns : List ℕ) (d : Datum) (ds : List Datum) (old mid new : List ℕ) → Words_put t ns d old mid → Rows_put t ns ds mid new → Rows_put t ns (d ∷ ds) old new
unfolding all_met
row_and_rows t ns d ds old mid new a b = record {
  words = a.words ++ b.words;
  behind = b.behind ∙ ap (λ z. z ++ b.words) a.behind ∙ append_assoc old a.words b.words;
  long = length-append a.words b.words ∙ ap (λ z. z + length b.words) a.long ∙ ap (λ z. product ns + z) b.long ∙ product_more (length ds) (product ns);
  fit = All-append (λ w. w < word_count t) a.words b.words a.fit b.fit;
  same = ap (λ z. datums (datum_with t ns (take z (a.words ++ b.words)) ∷ map (datum_with t ns) (cut (length ds) (product ns) (drop z (a.words ++ b.words))))) (sym a.long)
      ∙ ap (λ z. datums (datum_with t ns z ∷ map (datum_with t ns) (cut (length ds) (product ns) (drop (length a.words) (a.words ++ b.words))))) (take-append_seam a.words b.words)
      ∙ ap (λ z. datums (datum_with t ns a.words ∷ map (datum_with t ns) (cut (length ds) (product ns) z))) (drop-append_seam a.words b.words)
      ∙ ap (λ z. datum_and z (datums (map (datum_with t ns) (cut (length ds) (product ns) b.words)))) a.same
      ∙ ap (datum_and (met t (length ns) d)) b.same;
}

pub array_words : (t : ScalarType) (n : ℕ) (ns : List ℕ) (h : Shape) (ds : List Datum) (old new : List ℕ) → n ≡ length ds → sizes_in (length ns) h ≡ ns → Rows_put t ns ds old new → Words_put t (n ∷ ns) (Array_datum h (datums ds)) old new
unfolding met
array_words t n ns h ds old new e s r = record {
  words = r.words;
  behind = r.behind;
  long = r.long ∙ ap (λ z. z * product ns) (sym e);
  fit = r.fit;
  same = ap (λ z. Array_datum (shape_with t ns) (datums (map (datum_with t ns) (cut z (product ns) r.words)))) e ∙ ap (Array_datum (shape_with t ns)) r.same ∙ ap (λ z. Array_datum (shape_with t z) (all_met t (length ns) (datums ds))) (sym s);
}

-- ---- loops

pub reduced_more : (t : ScalarType) (row all old new : List ℕ) (i w : ℕ) → i < length row → w ≡ reduced t (get_or row i 0) → new ≡ old ++ w ∷ [] → old ≡ all ++ map (reduced t) (take i row) → new ≡ all ++ map (reduced t) (take (i + 1) row)
reduced_more t row all old new i w l is b o = b ∙ ap (λ z. z ++ w ∷ []) o ∙ append_assoc all (map (reduced t) (take i row)) (w ∷ []) ∙ ap (λ z. all ++ (map (reduced t) (take i row) ++ z ∷ [])) is ∙ ap (λ z. all ++ z) (sym (map-append (reduced t) (take i row) (get_or row i 0 ∷ []))) ∙ ap (λ z. all ++ map (reduced t) z) (sym (take_more row i 0 l))

pub reduced_end : (t : ScalarType) (row all new : List ℕ) (i : ℕ) → length row ≤ i → new ≡ all ++ map (reduced t) (take i row) → new ≡ all ++ map (reduced t) row
reduced_end t row all new i l o = o ∙ ap (λ z. all ++ map (reduced t) z) (take_all i row l)

pub next_row : (t : ScalarType) (ns : List ℕ) (rows : List Data) (i : ℕ) (row : Data) (old mid new : List ℕ) → i < length rows → row ≡ get_or rows i row → Words_put t ns (held row) old mid → Rows_put t ns (held_all (drop (i + 1) rows)) mid new → Rows_put t ns (held_all (drop i rows)) old new
unfolding held_all
next_row t ns rows i row old mid new l is a b = subst (λ z. Rows_put t ns (map held z) old new) (ap (λ z. z ∷ drop (i + 1) rows) is ∙ sym (drop_more rows i row l)) (row_and_rows t ns (held row) (map held (drop (i + 1) rows)) old mid new a b)

pub last_row : (t : ScalarType) (ns : List ℕ) (rows : List Data) (i : ℕ) (old : List ℕ) → length rows ≤ i → Rows_put t ns (held_all (drop i rows)) old old
unfolding held_all
last_row t ns rows i old l = subst (λ z. Rows_put t ns (map held z) old old) (sym (drop_of_length-le rows l)) (no_rows_put t ns old)

-- ---- data

pub words_data : (t u : ScalarType) (whole : Data) (held_row row sizes : List ℕ) (old new : List ℕ) → whole ≡ hold.Words u held_row → row ≡ held_row → u ≡ t → 1 ≤ length sizes → length sizes < 2 → length row ≡ get_or sizes 0 0 → Words_put t (length row ∷ []) (row_datum t row) old new → Words_put t sizes (held whole) old new
words_data t u whole held_row row [] old new is now same l m long w = absurd (omega (arith, l))
words_data t u whole held_row row (n ∷ []) old new is now same l m long w = subst (λ z. Words_put t (z ∷ []) (held whole) old new) long (subst (λ z. Words_put t (length row ∷ []) z old new) (sym (ap held is ∙ ap (λ z. held (hold.Words z held_row)) same ∙ ap (λ z. held (hold.Words t z)) (sym now) ∙ words_held t row)) w)
words_data t u whole held_row row (n ∷ k ∷ ns) old new is now same l m long w = absurd (omega (arith, m))

held_long : (ds : List Data) → length (held_all ds) ≡ length ds
unfolding held_all
held_long ds = length-map ds held

pub rows_data : (t : ScalarType) (whole : Data) (n : ℕ) (held_form h : Form) (held_rows_now rows : List Data) (sizes rest : List ℕ) (old new : List ℕ) → whole ≡ hold.Rows n held_form held_rows_now → h ≡ held_form → rows ≡ held_rows_now → rest ≡ drop 1 sizes → 1 ≤ length sizes → length rows ≡ get_or sizes 0 0 → sizes_in (length rest) (shape_held h) ≡ rest → Rows_put t rest (held_all rows) old new → Words_put t sizes (held whole) old new
rows_data t whole n held_form h held_rows_now rows [] rest old new is formed rowed part l long s r = absurd (omega (arith, l))
rows_data t whole n held_form h held_rows_now rows (k ∷ ns) rest old new is formed rowed part l long s r = subst (λ z. Words_put t (k ∷ z) (held whole) old new) part (subst (λ z. Words_put t (k ∷ rest) z old new) (sym (ap held is ∙ held_rows n held_form held_rows_now ∙ ap (λ z. Array_datum (shape_held z) (datums (held_all held_rows_now))) (sym formed) ∙ ap (λ z. Array_datum (shape_held h) (datums (held_all z))) (sym rowed))) (array_words t k rest (shape_held h) (held_all rows) old new (sym (held_long rows ∙ long)) s r))
