-- What is printed of scalars and arrays is a text of the grammar, and so reads back.
use Rattle.std.proofs.Common.{◌≡◌, ◌*◌, ◌^◌, ◌<◌, ◌≤◌, ℕ, zero, suc, List, [], ◌∷◌, ◌++◌, All, length, map, take, drop, arith, refl, sym, ap, ◌∙◌, subst, append_assoc, append-nil}
use Rattle.std.specs.Prelude.{Bool, true, false, max, ◌==◌, codes, decimal, flat_map}
use Rattle.std.proofs.Math.Nat.{mod-eq_of_lt, mul-le-mul_right}
use Rattle.std.proofs.lemmas.Fmt.{digits_decimal, digits_value-decimal, decimal_nonempty}
use Rattle.std.proofs.lemmas.List.{take-append-drop, take_all}
use Rattle.std.proofs.lemmas.List.Elements.{All-drop, All-take}
use Rattle.fut_scalar.specs.Integers.{width_of}
use Rattle.fut_scalar.specs.declared.scalar.ScalarType.{ScalarType}
use Rattle.fut_scalar.specs.declared.scalar.ScalarType.TheVariants as sort
use Rattle.fut_scalar.specs.declared.sizes.ArgType.{ArgType}
use Rattle.fut_arithmetic.specs.Types.{IsOf}
use Rattle.fut_arithmetic.specs.Words.{scalar_of_word, word_of}
use Rattle.fut_value.specs.Values.{IsWellFormed, cut, datum_of, datum_with, greatest_weight, product, shape_with, weight_of, word_count}
use Rattle.fut_value.specs.declared.value.Value.{Value}
use Rattle.name_characters.specs.Names.{goes_on_name}
use Rattle.value_text.specs.Claims.{LinesReadBack, ValuesReadBack}
use Rattle.value_text.specs.FlatText.{array_text, bracketed, joined, other_row}
use Rattle.value_text.specs.Gives.{HaveTypes, IsLight}
use Rattle.value_text.specs.Grammar.{Gap, nothing, blank, closed, in_comment, Spells}
use Rattle.value_text.specs.Printing.{data_output, data_text, empty_text, text_of, type_text}
use Rattle.value_text.specs.Values.{All_digits, Brackets, no_bracket, bracket_and, Spells_empty, Row, Rows, last_row, row_and, rows, empty, Spells_scalar, Spells_value, Ends, Spelled_all, ended, value_and}
use Rattle.value_text.specs.Words.{name_goes_on}
use Rattle.value_text.specs.Written.{has_zero}
use Rattle.value_text.proofs.Formed.{zero_product}
use Rattle.value_text.proofs.Names.{ascii_goes_on}
use Rattle.value_text.proofs.Printed.{data_is, empty_is, first_long, rest_long, right_false, sizes_are}
use Rattle.value_text.proofs.RoundTrip.{IsDigits, digit, own, spells}
use Rattle.value_text.proofs.Spelt.{arguments_are_read}

-- ---- scalars

bool_word : (w : ℕ) → w < 2 → word_of (scalar_of_word sort.Bool w) ≡ w
bool_word zero h = refl
bool_word (suc zero) h = refl
bool_word (suc (suc w)) h = absurd (omega arith)

word_back : (ty : ScalarType) (w : ℕ) → w < word_count ty → word_of (scalar_of_word ty w) ≡ w
word_back (sort.Int ty) w h = mod-eq_of_lt h
word_back sort.Bool w h = bool_word w h

word_fits : (ty : ScalarType) (w : ℕ) → w < word_count ty → IsOf ty (scalar_of_word ty w)
word_fits (sort.Int ty) w h = (refl, subst (λ m. m < 2 ^ width_of ty) (sym (mod-eq_of_lt h)) h)
word_fits sort.Bool w h = (refl, tt)

scalar_spelled : (ty : ScalarType) (w : ℕ) → w < word_count ty → Spells_scalar ty (w ∷ []) (text_of (scalar_of_word ty w))
scalar_spelled ty w h =
    let v = scalar_of_word ty w in
    let o = word_fits ty w h in
    record { value = v; spells = subst (λ t. Spells t (text_of v) v) o.0 (spells v o.1); is = ap (λ k. k ∷ []) (sym (word_back ty w h)) }

-- ---- rows

module _ (fits : ℕ → Type 0) (row : Row) (g : List ℕ → List ℕ) (p : ℕ) (each : (ws : List ℕ) → length ws ≡ p → All fits ws → row ws (g ws)) where
  rows_spelled : (m : ℕ) (ws before : List ℕ) → Gap before → length ws ≡ suc m * p → All fits ws → Rows row (suc m) ws (before ++ (joined g (cut (suc m) p ws) ++ 93 ∷ []))
  rows_spelled zero ws before b l f =
      let long : length ws ≡ p = l ∙ omega arith in
      let whole : take p ws ≡ ws = take_all p ws (omega (arith, long)) in
      subst (λ w. Rows row 1 ws (before ++ (w ++ 93 ∷ []))) (sym (append-nil (g (take p ws)) ∙ ap g whole)) (last_row before (g ws) [] b (each ws long f) nothing)
  rows_spelled (suc m) ws before b l f =
      let a = take p ws in
      let r = drop p ws in
      let more = rows_spelled m r (32 ∷ []) (blank refl nothing) (rest_long (suc m) p ws l) (All-drop fits p ws f) in
      let one = row_and before (g a) [] ((32 ∷ []) ++ (joined g (cut (suc m) p r) ++ 93 ∷ [])) b (each a (first_long (suc m) p ws l) (All-take fits p ws f)) nothing more in
      subst (λ v. Rows row (suc (suc m)) v (before ++ (joined g (cut (suc (suc m)) p ws) ++ 93 ∷ []))) (take-append-drop p ws)
      (subst (λ w. Rows row (suc (suc m)) (a ++ r) (before ++ w)) (sym (append_assoc (g a) (flat_map (other_row g) (cut (suc m) p r)) (93 ∷ []))) one)

inner_light : (m w : ℕ) → suc m * max 1 w ≤ greatest_weight → w ≤ greatest_weight
inner_light m w h = let l = mul-le-mul_right {m = 1} {n = suc m} (max 1 w) (omega arith) in omega (arith, h, l)

value_spelled : (ty : ScalarType) (ns ws : List ℕ) → has_zero ns ≡ false → length ws ≡ product ns → All (λ w. w < word_count ty) ws → weight_of ns ≤ greatest_weight → Spells_value ty ns ws (array_text ty ns ws)
value_spelled ty [] [] z l f k = absurd (omega (arith, l))
value_spelled ty [] (w ∷ []) z l f k = scalar_spelled ty w (f 0 w (omega arith))
value_spelled ty [] (w ∷ v ∷ ws) z l f k = absurd (omega (arith, l))
value_spelled ty (zero ∷ ns) ws z l f k = absurd cc
value_spelled ty (suc m ∷ ns) ws z l f k =
    rows (rows_spelled (λ w. w < word_count ty) (Spells_value ty ns) (array_text ty ns) (product ns) (λ vs e h. value_spelled ty ns vs (right_false (suc m == 0) (has_zero ns) z) e h (inner_light m (weight_of ns) k)) m ws [] nothing l f) k

-- ---- empty arrays

all_digits : (cs : List ℕ) → IsDigits cs → All_digits cs
all_digits [] p = tt
all_digits (c ∷ cs) p = (digit c p.0, all_digits cs p.1)

brackets_spelled : (ns : List ℕ) → All (λ n. n < 2 ^ 63) ns → Brackets ns (flat_map bracketed ns)
brackets_spelled [] h = no_bracket
brackets_spelled (n ∷ ns) h =
    let less : n < 2 ^ 63 = h 0 n (omega arith) in
    let small : n < 2 ^ 64 = omega (arith, less) in
    let more = brackets_spelled ns (λ k d l. h (suc k) d (omega arith)) in
    subst (λ b. Brackets (n ∷ ns) (91 ∷ b)) (sym (append_assoc (decimal n) (93 ∷ []) (flat_map bracketed ns)))
    (bracket_and [] [] (decimal n) [] (flat_map bracketed ns) nothing nothing (decimal_nonempty n small) (all_digits (decimal n) (digits_decimal own n small)) (digits_value-decimal own n small) less nothing more)

empty_spelled : (ty : ScalarType) (ns : List ℕ) → has_zero ns ≡ true → All (λ n. n < 2 ^ 63) ns → weight_of ns ≤ greatest_weight → Spells_empty ty ns (empty_text (shape_with ty ns))
empty_spelled ty ns z h l = record {
  opening = [];
  brackets = flat_map bracketed ns;
  before = [];
  behind = [];
  is = ap (λ t. codes "empty(" ++ (t ++ codes ")")) (sizes_are ty ns) ∙ ap (λ t. codes "empty(" ++ t) (append_assoc (flat_map bracketed ns) (type_text ty) (codes ")"));
  opening_gap = nothing;
  sized = brackets_spelled ns h;
  before_gap = nothing;
  behind_gap = nothing;
  zero = z;
  light = l;
}

none_left : (ws : List ℕ) → length ws ≡ 0 → ws ≡ []
none_left [] h = refl
none_left (w ∷ ws) h = absurd (omega arith)

without_scalars : (ty : ScalarType) (ns ws : List ℕ) → has_zero ns ≡ true → length ws ≡ product ns → All (λ n. n < 2 ^ 63) ns → weight_of ns ≤ greatest_weight → Spells_value ty ns ws (empty_text (shape_with ty ns))
without_scalars ty [] ws z l h k = absurd cc
without_scalars ty (n ∷ ns) ws z l h k = empty (empty_spelled ty (n ∷ ns) z h k) (none_left ws (l ∙ zero_product (n ∷ ns) z))

data_spelled : (ty : ScalarType) (ns ws : List ℕ) (t : Bool) → has_zero ns ≡ t → length ws ≡ product ns → All (λ w. w < word_count ty) ws → All (λ n. n < 2 ^ 63) ns → weight_of ns ≤ greatest_weight → Spells_value ty ns ws (data_text (datum_with ty ns ws))
data_spelled ty ns ws true z l f h k = subst (Spells_value ty ns ws) (sym (empty_is ty ns ws z)) (without_scalars ty ns ws z l h k)
data_spelled ty ns ws false z l f h k = subst (Spells_value ty ns ws) (sym (data_is ty ns ws z l)) (value_spelled ty ns ws z l f k)

pub text_spelled : (value : Value) → IsWellFormed value → IsLight value → Spells_value value.shape.elem value.shape.sizes value.words (data_text (datum_of value))
text_spelled value f l = data_spelled value.shape.elem value.shape.sizes value.words (has_zero value.shape.sizes) refl f.all f.fit f.below l

-- ---- texts

one_ends : (ns : List ℕ) → Ends ns []
unfolding name_goes_on
one_ends [] = refl
one_ends (n ∷ ns) = tt

line_ends : (ns rest : List ℕ) → Ends ns (10 ∷ rest)
unfolding goes_on_name
line_ends [] rest = ascii_goes_on 10 rest refl
line_ends (n ∷ ns) rest = tt

pub values_read_back : ValuesReadBack
values_read_back t value known elem rank f l agree =
    arguments_are_read (t ∷ []) (data_text (datum_of value)) (value ∷ []) (record {
      spelled = subst (λ b. Spelled_all (t ∷ []) b (value ∷ [])) (append-nil (data_text (datum_of value)))
          (value_and [] (data_text (datum_of value)) [] nothing elem rank (subst (λ ty. Spells_value ty value.shape.sizes value.words (data_text (datum_of value))) elem (text_spelled value f l)) (one_ends value.shape.sizes) (ended (closed nothing)));
      known = known;
      agree = agree;
    })

newline : (types : List ArgType) (bytes : List ℕ) (values : List Value) → Spelled_all types bytes values → Spelled_all types (10 ∷ bytes) values
newline _ bytes _ (ended (closed g)) = ended (closed (blank refl g))
newline _ _ _ (ended (in_comment bs line g l)) = ended (in_comment (10 ∷ bs) line (blank refl g) l)
newline _ _ _ (value_and gap word rest g elem rank s z t) = value_and (10 ∷ gap) word rest (blank refl g) elem rank s z t

lines_spelled : (types : List ArgType) (values : List Value) → HaveTypes types values → All IsWellFormed values → All IsLight values → Spelled_all types (data_output (map datum_of values)) values
lines_spelled [] [] h f l = ended (closed nothing)
lines_spelled [] (v ∷ vs) h f l = absurd h
lines_spelled (t ∷ ts) [] h f l = absurd h
lines_spelled (t ∷ ts) (v ∷ vs) h f l =
    let text = data_text (datum_of v) in
    let rest = data_output (map datum_of vs) in
    let more = newline ts rest vs (lines_spelled ts vs h.2 (λ k d m. f (suc k) d (omega arith)) (λ k d m. l (suc k) d (omega arith))) in
    subst (λ b. Spelled_all (t ∷ ts) b (v ∷ vs)) (sym (append_assoc text (codes "\n") rest))
    (value_and [] text (10 ∷ rest) nothing h.0 h.1 (subst (λ ty. Spells_value ty v.shape.sizes v.words text) h.0 (text_spelled v (f 0 v (omega arith)) (l 0 v (omega arith)))) (line_ends v.shape.sizes rest) more)

pub lines_read_back : LinesReadBack
lines_read_back types values known h f l agree = arguments_are_read types (data_output (map datum_of values)) values (record { spelled = lines_spelled types values h f l; known = known; agree = agree })
