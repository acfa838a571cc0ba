-- Views of whole blocks.
use Rattle.std.proofs.Common.{◌≡◌, ℕ, zero, suc, ◌+◌, ◌-◌, ◌*◌, ◌%◌, ◌^◌, ◌<◌, ◌≤◌, List, [], ◌∷◌, ◌++◌, map, take, drop, length, get_or, set, arith, refl, sym, ap, ◌∙◌, subst}
use Rattle.std.specs.Prelude.{ℤ, pos, ◌+ℤ◌, ◌*ℤ◌, unsigned_abs, slice_index}
use Rattle.std.specs.Int.{cast_signed}
use Rattle.std.specs.List.{flat_map, range_with_len}
use Rattle.std.proofs.lemmas.Int.{ints, to_z_pos}
use Rattle.std.proofs.lemmas.List.{drop-drop, drop_more, take_all, length-set, drop-set}
use Rattle.std.proofs.Math.Nat.{mod-eq_of_lt, mul-add, suc-mul, mul_comm, mul-zero}
use mir.Syntax.{w64}
use Rattle.fut_value.specs.Values.{product}
use Rattle.block_store.specs.declared.view.BlockId.{BlockId}
use Rattle.block_store.specs.declared.view.View.{View}
use Rattle.block_store.specs.Blocks.{Blocks, words_at}
use Rattle.block_store.specs.Indices.{IsIndex, Below, EachBelow, indices, place_from, cells_from}
use Rattle.block_store.specs.Views.{IsWhole, IsWithin, cells}
use Rattle.block_store.specs.Walks.{strides_of, wrapped_product}
use Rattle.block_store.proofs.Reading.{unrolled, same_pieces}

-- ---- products

product_wraps : (ns : List ℕ) → 0 < product ns → product ns < 2 ^ 63 → wrapped_product ns ≡ product ns
product_wraps [] a b = refl
product_wraps (zero ∷ ns) a b = absurd (omega arith)
product_wraps (suc n ∷ ns) a b =
    let m = suc-mul n (product ns) in
    let z : 0 < product ns = some n (product ns) a in
    let e = product_wraps ns z (omega (arith, m, b)) in
    ap (λ w. w * suc n % 2 ^ 64) e ∙ ap (λ w. w % 2 ^ 64) (mul_comm (product ns) (suc n)) ∙ mod-eq_of_lt (omega (arith, b))
  where
    some : (n p : ℕ) → 0 < suc n * p → 0 < p
    some n zero h = absurd (omega (arith, h, mul-zero (suc n)))
    some n (suc p) h = omega arith

stride_is : (ns : List ℕ) → 0 < product ns → product ns < 2 ^ 63 → cast_signed w64 (wrapped_product ns) ≡ pos (product ns)
stride_is ns a b = ap (cast_signed w64) (product_wraps ns a b) ∙ to_z_pos w64 (product ns) b

inner : (n p : ℕ) → 0 < n → p ≤ n * p
inner zero p l = absurd (omega arith)
inner (suc n) p l = omega (arith, suc-mul n p)

within_rows : (i n p : ℕ) → i < n → i * p + p ≤ n * p
within_rows i zero p l = absurd (omega arith)
within_rows zero (suc n) p l = let z : 0 * p ≡ 0 = omega arith in omega (arith, suc-mul n p, z)
within_rows (suc i) (suc n) p l = let r = within_rows i n p (omega (arith, l)) in omega (arith, r, suc-mul i p, suc-mul n p)

-- ---- places

counted : (ns at : List ℕ) → IsIndex at ns → 0 < product ns
counted [] [] h = omega arith
counted [] (i ∷ at) h = absurd h
counted (n ∷ ns) [] h = absurd h
counted (n ∷ ns) (i ∷ at) h = let r = counted ns at h.1 in let w = inner n (product ns) (omega (arith, h.0)) in omega (arith, r, w)

whole_place : (k o : ℕ) (ns at : List ℕ) → product ns < 2 ^ 63 → o + product ns ≤ k → IsIndex at ns → Below (place_from (pos o) (strides_of ns) at) k
whole_place k o [] [] b l h = record { number = o; is = refl; below = omega (arith, l) }
whole_place k o [] (i ∷ at) b l h = absurd h
whole_place k o (n ∷ ns) [] b l h = absurd h
whole_place k o (n ∷ ns) (i ∷ at) b l h =
    let p = product ns in
    let w : p ≤ n * p = inner n p (omega (arith, h.0)) in
    let r : i * p + p ≤ n * p = within_rows i n p h.0 in
    let s = stride_is ns (counted ns at h.1) (omega (arith, w, b)) in
    subst (λ z. Below (place_from (pos o +ℤ (pos i *ℤ z)) (strides_of ns) at) k) (sym s)
    (whole_place k (o + i * p) ns at (omega (arith, w, b)) (omega (arith, r, l)) h.1)

-- ---- cells

take_none : (m : ℕ) → take {A = ℕ} m [] ≡ []
take_none zero = refl
take_none (suc m) = refl

take_more_words : (p m : ℕ) (l : List ℕ) → take (p + m) l ≡ take p l ++ take m (drop p l)
take_more_words zero m l = ap (λ z. take z l) (let e : 0 + m ≡ m = omega arith in e)
take_more_words (suc p) m [] = take_none (suc p + m) ∙ sym (take_none m)
take_more_words (suc p) m (x ∷ l) = ap (λ z. take z (x ∷ l)) (let e : suc p + m ≡ suc (p + m) = omega arith in e) ∙ ap (λ z. x ∷ z) (take_more_words p m l)

rows_joined : (ws : List ℕ) (o p a n : ℕ) → flat_map (λ i. take p (drop (o + i * p) ws)) (range_with_len a n) ≡ take (n * p) (drop (o + a * p) ws)
rows_joined ws o p a zero = ap (λ z. take z (drop (o + a * p) ws)) (let e : 0 ≡ 0 * p = omega arith in e)
rows_joined ws o p a (suc n) =
    let rest : List ℕ = drop (o + a * p) ws in
    let next : o + (a + 1) * p ≡ (o + a * p) + p = omega (arith, Rattle.std.proofs.Math.Nat.add-mul a 1 p) in
    ap (λ z. take p rest ++ z) (rows_joined ws o p (a + 1) n ∙ ap (λ z. take (n * p) (drop z ws)) next ∙ ap (take (n * p)) (sym (drop-drop p (o + a * p) ws)))
    ∙ sym (take_more_words p (n * p) rest)
    ∙ ap (λ z. take z rest) (let e : p + n * p ≡ suc n * p = omega (arith, suc-mul n p) in e)

no_index : (ns : List ℕ) → product ns ≡ 0 → indices ns ≡ []
no_index [] e = absurd (omega (arith, e))
no_index (zero ∷ ns) e = refl
no_index (suc n ∷ ns) e = ap (λ z. flat_map (λ i. map (λ at. i ∷ at) z) (range_with_len 0 (suc n))) (no_index ns (omega (arith, e, suc-mul n (product ns)))) ∙ nothing (range_with_len 0 (suc n))
  where
    nothing : (is : List ℕ) → flat_map (λ i. map (λ at. i ∷ at) []) is ≡ []
    nothing [] = refl
    nothing (i ∷ is) = nothing is

one_word : (ws : List ℕ) (o : ℕ) → o < length ws → slice_index ws o ∷ [] ≡ take 1 (drop o ws)
one_word ws o l = ap (take 1) (sym (drop_more ws o 0 l))

one_row : (ws : List ℕ) (o i n : ℕ) (ns : List ℕ) → n * product ns < 2 ^ 63 → o + n * product ns ≤ length ws → 0 < product ns → ((q : ℕ) → product ns < 2 ^ 63 → q + product ns ≤ length ws → cells_from ws (pos q) (strides_of ns) ns ≡ take (product ns) (drop q ws)) → i < n → cells_from ws (pos o +ℤ (pos i *ℤ cast_signed w64 (wrapped_product ns))) (strides_of ns) ns ≡ take (product ns) (drop (o + i * product ns) ws)
one_row ws o i n ns b l some rest li =
    let w : product ns ≤ n * product ns = inner n (product ns) (omega (arith, li)) in
    let r : i * product ns + product ns ≤ n * product ns = within_rows i n (product ns) li in
    let s = stride_is ns some (omega (arith, w, b)) in
    ap (λ z. cells_from ws (pos o +ℤ (pos i *ℤ z)) (strides_of ns) ns) s
    ∙ rest (o + i * product ns) (omega (arith, w, b)) (omega (arith, r, l))

all_rows : (ws : List ℕ) (o n : ℕ) (ns : List ℕ) → n * product ns < 2 ^ 63 → o + n * product ns ≤ length ws → ((q : ℕ) → product ns < 2 ^ 63 → q + product ns ≤ length ws → cells_from ws (pos q) (strides_of ns) ns ≡ take (product ns) (drop q ws)) → (p : ℕ) → product ns ≡ p → cells_from ws (pos o) (strides_of (n ∷ ns)) (n ∷ ns) ≡ take (n * product ns) (drop o ws)
all_rows ws o n ns b l rest zero e =
    let none : n * product ns ≡ 0 = ap (λ z. n * z) e ∙ mul-zero n in
    ap (map (λ at. slice_index ws (unsigned_abs (place_from (pos o) (strides_of (n ∷ ns)) at)))) (no_index (n ∷ ns) none)
    ∙ ap (λ z. take z (drop o ws)) (sym none)
all_rows ws o n ns b l rest (suc p) e =
    unrolled ws (pos o) (cast_signed w64 (wrapped_product ns)) (strides_of ns) n ns
    ∙ same_pieces (λ i. cells_from ws (pos o +ℤ (pos i *ℤ cast_signed w64 (wrapped_product ns))) (strides_of ns) ns) (λ i. take (product ns) (drop (o + i * product ns) ws)) 0 n (λ i lo hi. one_row ws o i n ns b l (omega (arith, e)) rest (omega (arith, hi)))
    ∙ rows_joined ws o (product ns) 0 n
    ∙ ap (λ z. take (n * product ns) (drop z ws)) (let z : o + 0 * product ns ≡ o = omega arith in z)

whole_cells : (ws : List ℕ) (o : ℕ) (ns : List ℕ) → product ns < 2 ^ 63 → o + product ns ≤ length ws → cells_from ws (pos o) (strides_of ns) ns ≡ take (product ns) (drop o ws)
whole_cells ws o [] b l = one_word ws o (omega (arith, l))
whole_cells ws o (n ∷ ns) b l = all_rows ws o n ns b l (λ q b' l'. whole_cells ws q ns b' l') (product ns) refl

strides_long : (ns : List ℕ) → length (strides_of ns) ≡ length ns
strides_long [] = refl
strides_long (n ∷ ns) = ap suc (strides_long ns)

whole_long : (v : View) (b : BlockId) (n : ℕ) (s : Blocks) → v.block ≡ b → length (words_at s b) ≡ n → length (words_at s v.block) ≡ n
whole_long v b n s eb l = ap (λ z. length (words_at s z)) eb ∙ l

whole_at : (v : View) (b : BlockId) (sizes : List ℕ) (s : Blocks) → v.block ≡ b → v.offset ≡ 0 → v.strides ≡ strides_of sizes → length (words_at s b) ≡ product sizes → product sizes < 2 ^ 63 → (at : List ℕ) → IsIndex at sizes → Below (place_from (pos v.offset) v.strides at) (length (words_at s v.block))
whole_at v b sizes s eb eo er l small at h =
    let w : Below (place_from (pos 0) (strides_of sizes) at) (product sizes) = whole_place (product sizes) 0 sizes at small (omega arith) h in
    let r : Below (place_from (pos 0) v.strides at) (product sizes) = subst (λ z. Below (place_from (pos 0) z at) (product sizes)) (sym er) w in
    let o : Below (place_from (pos v.offset) v.strides at) (product sizes) = subst (λ z. Below (place_from (pos z) v.strides at) (product sizes)) (sym eo) r in
    subst (λ z. Below (place_from (pos v.offset) v.strides at) z) (sym (whole_long v b (product sizes) s eb l)) o

pub is_whole : (v : View) (b : BlockId) (sizes : List ℕ) → v.block ≡ b → v.offset ≡ 0 → v.strides ≡ strides_of sizes → v.shape ≡ sizes → IsWhole v b sizes
is_whole v b sizes eb eo er eh = record {
  block = eb;
  shape = eh;
  within = λ s l small. record {
    levels = ap length er ∙ strides_long sizes ∙ sym (ap length eh);
    places = λ at h. whole_at v b sizes s eb eo er l small at (subst (IsIndex at) eh h);
    short = subst (λ z. z < 2 ^ 63) (sym (whole_long v b (product sizes) s eb l)) small;
  };
  cells = λ s l small.
      ap (λ z. cells_from (words_at s z) (pos v.offset) v.strides v.shape) eb
      ∙ ap (λ z. cells_from (words_at s b) (pos z) v.strides v.shape) eo
      ∙ ap (λ z. cells_from (words_at s b) (pos 0) z v.shape) er
      ∙ ap (cells_from (words_at s b) (pos 0) (strides_of sizes)) eh
      ∙ whole_cells (words_at s b) 0 sizes small (omega (arith, l))
      ∙ take_all (product sizes) (words_at s b) (omega (arith, l));
}

-- ---- the loop from the innermost level outwards

pub strides_more : (sizes : List ℕ) (k words : ℕ) (old new : List ℤ) (n : ℕ) (s : ℤ) → k < length sizes → length old ≡ length sizes → n ≡ get_or sizes k n → s ≡ cast_signed w64 words → new ≡ set old k s → words ≡ wrapped_product (drop (k + 1) sizes) → drop (k + 1) old ≡ strides_of (drop (k + 1) sizes) → (words * n % 2 ^ 64 ≡ wrapped_product (drop k sizes)) × (drop k new ≡ strides_of (drop k sizes))
strides_more sizes k words old new n s l e is es b w d =
    let split : drop k sizes ≡ n ∷ drop (k + 1) sizes = drop_more sizes k n l ∙ ap (λ z. z ∷ drop (k + 1) sizes) (sym is) in (
      ap (λ z. z * n % 2 ^ 64) w ∙ ap wrapped_product (sym split),
      ap (drop k) b ∙ drop-set old k s (omega (arith, l, e)) ∙ ap (λ z. z ∷ drop (k + 1) old) (es ∙ ap (cast_signed w64) w) ∙ ap (λ z. cast_signed w64 (wrapped_product (drop (k + 1) sizes)) ∷ z) d ∙ ap strides_of (sym split),
    )
