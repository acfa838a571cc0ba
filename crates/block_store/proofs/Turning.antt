-- Rows, slices and reversals of views.
use Rattle.std.proofs.Common.{◌≡◌, ℕ, zero, suc, ◌+◌, ◌-◌, ◌*◌, ◌%◌, ◌^◌, ◌<◌, ◌≤◌, List, [], ◌∷◌, take, drop, length, get_or, set, arith, refl, sym, ap, ◌∙◌, subst}
use Rattle.std.specs.Prelude.{ℤ, pos, negsuc, ◌+ℤ◌, ◌-ℤ◌, ◌*ℤ◌, slice_index, slice_set, neg_ℤ, unsigned_abs}
use Rattle.std.specs.Int.{int_wrap, int_wrapping_neg}
use Rattle.std.proofs.lemmas.Int.{ints, to_z-of_z, int_wrap_fits, wrapping_neg_is, fits_signed_from_abs}
use Rattle.std.proofs.lemmas.List.{length-drop, length-set, take_rest}
use mir.Syntax.{w64}
use mir.Val.{SFits}
use Rattle.block_store.specs.declared.view.View.{View}
use Rattle.block_store.specs.Indices.{IsIndex, Below, EachBelow, place_from, on_first, swapped}
use Rattle.block_store.specs.Views.{IsPlaced, Shows, place}
use Rattle.block_store.specs.Walks.{moved, wrapped}
use Rattle.block_store.proofs.Placing.{moved_is, stands, plus_zero}

-- ---- multiples of strides

times_add : (a b : ℕ) (s : ℤ) → pos (a + b) *ℤ s ≡ pos a *ℤ s +ℤ pos b *ℤ s
times_add a b (pos n) = omega (arith, ints)
times_add a b (negsuc n) = omega (arith, ints)

times_neg : (a : ℕ) (s : ℤ) → pos a *ℤ neg_ℤ s ≡ pos 0 -ℤ (pos a *ℤ s)
times_neg a (pos zero) = omega (arith, ints)
times_neg a (pos (suc n)) = omega (arith, ints)
times_neg a (negsuc n) = omega (arith, ints)

times_one : (s : ℤ) → pos 1 *ℤ s ≡ s
times_one (pos n) = omega (arith, ints)
times_one (negsuc n) = omega (arith, ints)

further : (o : ℤ) (a b : ℕ) (s : ℤ) → (o +ℤ (pos a *ℤ s)) +ℤ (pos b *ℤ s) ≡ o +ℤ (pos (a + b) *ℤ s)
further o a b s = let t = times_add a b s in omega (arith, ints, t)

back : (o : ℤ) (a b c : ℕ) (s : ℤ) → c ≡ a + b → (o +ℤ (pos c *ℤ s)) +ℤ (pos b *ℤ neg_ℤ s) ≡ o +ℤ (pos a *ℤ s)
back o a b c s e = let t = times_add a b s in let n = times_neg b s in let m : pos c *ℤ s ≡ pos (a + b) *ℤ s = ap (λ z. pos z *ℤ s) e in omega (arith, ints, t, n, m)

-- ---- one level

-- where an array has a cell, each of its rows stands at its exact place
exact : (o i m : ℕ) (s : ℤ) (ss : List ℤ) (at ns : List ℕ) → EachBelow (2 ^ 63) (pos o) (s ∷ ss) (m ∷ ns) → i < m → IsIndex at ns → Below (pos o +ℤ (pos i *ℤ s)) (2 ^ 63) × (pos (moved o i (wrapped s)) ≡ pos o +ℤ (pos i *ℤ s))
exact o i m s ss at ns all l h =
    let whole = stands (2 ^ 63) (pos o) (s ∷ ss) (i ∷ at) (m ∷ ns) all (l, h) in
    let b = stands (2 ^ 63) (pos o +ℤ (pos i *ℤ s)) ss at ns (λ at' h'. all (i ∷ at') (l, h')) h in
    let k : o ≡ whole.number = (let z = whole.is in cc) in
    (b, ap pos (moved_is o i s b.number (omega (arith, whole.below, k)) (omega (arith, b.below)) b.is) ∙ sym b.is)

-- a stride between two rows
one_stride : (o : ℤ) (s : ℤ) → Below (o +ℤ (pos 0 *ℤ s)) (2 ^ 63) → Below (o +ℤ (pos 1 *ℤ s)) (2 ^ 63) → unsigned_abs s < 2 ^ 63
one_stride o (pos n) a b = let x = a.is in let y = b.is in omega (arith, ints, a.below, b.below)
one_stride o (negsuc n) a b = let x = a.is in let y = b.is in omega (arith, ints, a.below, b.below)

pub neg_is : (s : ℤ) → SFits w64 s → unsigned_abs s < 2 ^ 63 → int_wrapping_neg w64 s ≡ neg_ℤ s
neg_is s f l = wrapping_neg_is w64 s f ∙ int_wrap_fits w64 (neg_ℤ s) (fits_signed_from_abs w64 (neg_ℤ s) (small s l))
  where
    small : (s : ℤ) → unsigned_abs s < 2 ^ 63 → unsigned_abs (neg_ℤ s) < 2 ^ 63
    small (pos zero) l = omega arith
    small (pos (suc n)) l = l
    small (negsuc n) l = l

-- ---- rows and slices

row_place : (o q i : ℕ) (s : ℤ) (ss : List ℤ) (ns : List ℕ) → length ss ≡ length ns → EachBelow (2 ^ 63) (pos o) ss ns → 0 < length ns → i < slice_index ns 0 → s ≡ get_or ss 0 (pos 0) → q ≡ moved o i (wrapped s) → (at : List ℕ) → IsIndex at (drop 1 ns) → IsIndex (i ∷ at) ns × (place_from (pos q) (drop 1 ss) at ≡ place_from (pos o) ss (i ∷ at))
row_place o q i s ss [] e all r l es is at h = absurd (omega (arith, r))
row_place o q i s [] (m ∷ ns) e all r l es is at h = absurd (omega (arith, e))
row_place o q i s (t ∷ ss) (m ∷ ns) e all r l es is at h =
    let all' : EachBelow (2 ^ 63) (pos o) (s ∷ ss) (m ∷ ns) = subst (λ z. EachBelow (2 ^ 63) (pos o) (z ∷ ss) (m ∷ ns)) (sym es) all in
    ((l, h), ap (λ z. place_from z ss at) (ap pos is ∙ (exact o i m s ss at ns all' l h).1 ∙ ap (λ z. pos o +ℤ (pos i *ℤ z)) es))

slice_place : (o q low high : ℕ) (s : ℤ) (ss : List ℤ) (ns : List ℕ) → length ss ≡ length ns → EachBelow (2 ^ 63) (pos o) ss ns → 0 < length ns → low ≤ high → high ≤ slice_index ns 0 → s ≡ get_or ss 0 (pos 0) → q ≡ moved o low (wrapped s) → (at : List ℕ) → IsIndex at (set ns 0 (high - low)) → IsIndex (on_first (λ i. low + i) at) ns × (place_from (pos q) ss at ≡ place_from (pos o) ss (on_first (λ i. low + i) at))
slice_place o q low high s ss [] e all r lh hn es is at h = absurd (omega (arith, r))
slice_place o q low high s [] (m ∷ ns) e all r lh hn es is at h = absurd (omega (arith, e))
slice_place o q low high s (t ∷ ss) (m ∷ ns) e all r lh hn es is [] h = absurd h
slice_place o q low high s (t ∷ ss) (m ∷ ns) e all r lh hn es is (i ∷ at) h =
    let l : low + i < m = omega (arith, h.0, lh, hn) in
    let first : low < m = omega (arith, l) in
    let all' : EachBelow (2 ^ 63) (pos o) (s ∷ ss) (m ∷ ns) = subst (λ z. EachBelow (2 ^ 63) (pos o) (z ∷ ss) (m ∷ ns)) (sym es) all in (
      (l, h.1),
      ap (λ z. place_from (pos q +ℤ (pos i *ℤ z)) ss at) (sym es)
          ∙ ap (λ z. place_from z ss at) (ap (λ z. z +ℤ (pos i *ℤ s)) (ap pos is ∙ (exact o low m s ss at ns all' first h.1).1) ∙ further (pos o) low i s)
          ∙ ap (λ z. place_from (pos o +ℤ (pos (low + i) *ℤ z)) ss at) es,
    )

-- ---- reversals

reverse_place : (o q : ℕ) (s s' : ℤ) (ss rs : List ℤ) (ns : List ℕ) → length ss ≡ length ns → EachBelow (2 ^ 63) (pos o) ss ns → 0 < length ns → 1 < slice_index ns 0 → s ≡ get_or ss 0 (pos 0) → (unsigned_abs s < 2 ^ 63 → s' ≡ neg_ℤ s) → rs ≡ set ss 0 s' → q ≡ moved o (slice_index ns 0 - 1) (wrapped s) → (at : List ℕ) → IsIndex at ns → IsIndex (on_first (λ i. slice_index ns 0 - 1 - i) at) ns × (place_from (pos q) rs at ≡ place_from (pos o) ss (on_first (λ i. slice_index ns 0 - 1 - i) at))
reverse_place o q s s' ss rs [] e all r l es en is eq at h = absurd (omega (arith, r))
reverse_place o q s s' [] rs (m ∷ ns) e all r l es en is eq at h = absurd (omega (arith, e))
reverse_place o q s s' (t ∷ ss) rs (m ∷ ns) e all r l es en is eq [] h = absurd h
reverse_place o q s s' (t ∷ ss) rs (m ∷ ns) e all r l es en is eq (i ∷ at) h =
    let here : m - 1 - i < m = omega (arith, h.0, l) in
    let last : m - 1 < m = omega (arith, l) in
    let all' : EachBelow (2 ^ 63) (pos o) (s ∷ ss) (m ∷ ns) = subst (λ z. EachBelow (2 ^ 63) (pos o) (z ∷ ss) (m ∷ ns)) (sym es) all in
    let none = exact o 0 m s ss at ns all' (omega (arith, l)) h.1 in
    let one = exact o 1 m s ss at ns all' l h.1 in
    let neg : s' ≡ neg_ℤ s = en (one_stride (pos o) s none.0 one.0) in (
      (here, h.1),
      ap (λ z. place_from (pos q) z (i ∷ at)) is
          ∙ ap (λ z. place_from (pos q +ℤ (pos i *ℤ z)) ss at) neg
          ∙ ap (λ z. place_from (z +ℤ (pos i *ℤ neg_ℤ s)) ss at) (ap pos eq ∙ (exact o (m - 1) m s ss at ns all' last h.1).1)
          ∙ ap (λ z. place_from z ss at) (back (pos o) (m - 1 - i) i (m - 1) s (omega (arith, h.0)))
          ∙ ap (λ z. place_from (pos o +ℤ (pos (m - 1 - i) *ℤ z)) ss at) es,
    )

-- one row, or none, is its own reversal
few_place : (o : ℕ) (ss : List ℤ) (ns : List ℕ) → slice_index ns 0 ≤ 1 → (at : List ℕ) → IsIndex at ns → IsIndex (on_first (λ i. slice_index ns 0 - 1 - i) at) ns × (place_from (pos o) ss at ≡ place_from (pos o) ss (on_first (λ i. slice_index ns 0 - 1 - i) at))
few_place o ss [] l [] h = (tt, refl)
few_place o ss [] l (i ∷ at) h = absurd h
few_place o ss (m ∷ ns) l [] h = absurd h
few_place o ss (m ∷ ns) l (i ∷ at) h =
    let e : i ≡ m - 1 - i = omega (arith, h.0, l) in
    ((omega (arith, h.0, e), h.1), ap (λ z. place_from (pos o) ss (z ∷ at)) e)

-- ---- transposition

swapped_place : (o : ℕ) (ss rs : List ℤ) (ns ms : List ℕ) → length ss ≡ length ns → 2 ≤ length ns → rs ≡ swapped ss → ms ≡ swapped ns → (at : List ℕ) → IsIndex at ms → IsIndex (swapped at) ns × (place_from (pos o) rs at ≡ place_from (pos o) ss (swapped at))
swapped_place o ss rs ns ms e l is eq at h = subst (λ z. IsIndex (swapped at) ns × (place_from (pos o) z at ≡ place_from (pos o) ss (swapped at))) (sym is) (go ss ns e l at (subst (IsIndex at) eq h))
  where
    go : (ss : List ℤ) (ns : List ℕ) → length ss ≡ length ns → 2 ≤ length ns → (at : List ℕ) → IsIndex at (swapped ns) → IsIndex (swapped at) ns × (place_from (pos o) (swapped ss) at ≡ place_from (pos o) ss (swapped at))
    go ss [] e l at h = absurd (omega (arith, l))
    go ss (m ∷ []) e l at h = absurd (omega (arith, l))
    go [] (m ∷ n ∷ ns) e l at h = absurd (omega (arith, e))
    go (s ∷ []) (m ∷ n ∷ ns) e l at h = absurd (omega (arith, e))
    go (s ∷ t ∷ ss) (m ∷ n ∷ ns) e l [] h = absurd h
    go (s ∷ t ∷ ss) (m ∷ n ∷ ns) e l (i ∷ []) h = absurd h.1
    go (s ∷ t ∷ ss) (m ∷ n ∷ ns) e l (i ∷ j ∷ at) h =
        ((h.1.0, (h.0, h.1.1)), ap (λ z. place_from z ss at) (omega (arith, ints)))

-- ---- views

swapped_long : {A : Type 0} (xs : List A) → length (swapped xs) ≡ length xs
swapped_long [] = refl
swapped_long (a ∷ []) = refl
swapped_long (a ∷ b ∷ xs) = refl

pub shows_row : (v w : View) (i : ℕ) (s : ℤ) → IsPlaced v → 0 < length v.shape → i < slice_index v.shape 0 → s ≡ get_or v.strides 0 (pos 0) → w.block ≡ v.block → w.offset ≡ moved v.offset i (wrapped s) → w.strides ≡ drop 1 v.strides → w.shape ≡ drop 1 v.shape → Shows v w (λ at. i ∷ at)
shows_row v w i s p r l es eb eo er eh =
    let part : (at : List ℕ) → IsIndex at w.shape → IsIndex (i ∷ at) v.shape × (place w at ≡ place v (i ∷ at)) = λ at h.
    let x = row_place v.offset w.offset i s v.strides v.shape p.levels p.places r l es eo at (subst (IsIndex at) eh h) in
    (x.0, ap (λ z. place_from (pos w.offset) z at) er ∙ x.1) in
    record {
      block = eb;
      levels = ap length er ∙ length-drop 1 v.strides ∙ ap (λ z. z - 1) p.levels ∙ sym (length-drop 1 v.shape) ∙ sym (ap length eh);
      index = λ at h. (part at h).0;
      place = λ at h. (part at h).1;
    }

pub shows_slice : (v w : View) (low high : ℕ) (s : ℤ) → IsPlaced v → 0 < length v.shape → low ≤ high → high ≤ slice_index v.shape 0 → s ≡ get_or v.strides 0 (pos 0) → w.block ≡ v.block → w.offset ≡ moved v.offset low (wrapped s) → w.strides ≡ v.strides → w.shape ≡ set v.shape 0 (high - low) → Shows v w (on_first (λ i. low + i))
shows_slice v w low high s p r lh hn es eb eo er eh =
    let part : (at : List ℕ) → IsIndex at w.shape → IsIndex (on_first (λ i. low + i) at) v.shape × (place w at ≡ place v (on_first (λ i. low + i) at)) = λ at h.
    let x = slice_place v.offset w.offset low high s v.strides v.shape p.levels p.places r lh hn es eo at (subst (IsIndex at) eh h) in
    (x.0, ap (λ z. place_from (pos w.offset) z at) er ∙ x.1) in
    record {
      block = eb;
      levels = ap length er ∙ p.levels ∙ sym (ap length eh ∙ length-set v.shape 0 (high - low));
      index = λ at h. (part at h).0;
      place = λ at h. (part at h).1;
    }

pub shows_reverse : (v w : View) (s s' : ℤ) → IsPlaced v → 0 < length v.shape → 1 < slice_index v.shape 0 → s ≡ get_or v.strides 0 (pos 0) → (unsigned_abs s < 2 ^ 63 → s' ≡ neg_ℤ s) → w.block ≡ v.block → w.offset ≡ moved v.offset (slice_index v.shape 0 - 1) (wrapped s) → w.strides ≡ set v.strides 0 s' → w.shape ≡ v.shape → Shows v w (on_first (λ i. slice_index v.shape 0 - 1 - i))
shows_reverse v w s s' p r l es en eb eo er eh =
    let part : (at : List ℕ) → IsIndex at w.shape → IsIndex (on_first (λ i. slice_index v.shape 0 - 1 - i) at) v.shape × (place w at ≡ place v (on_first (λ i. slice_index v.shape 0 - 1 - i) at)) = λ at h.
    reverse_place v.offset w.offset s s' v.strides w.strides v.shape p.levels p.places r l es en er eo at (subst (IsIndex at) eh h) in
    record {
      block = eb;
      levels = ap length er ∙ length-set v.strides 0 s' ∙ p.levels ∙ sym (ap length eh);
      index = λ at h. (part at h).0;
      place = λ at h. (part at h).1;
    }

pub shows_few : (v : View) → IsPlaced v → slice_index v.shape 0 ≤ 1 → Shows v v (on_first (λ i. slice_index v.shape 0 - 1 - i))
shows_few v p l = record {
  block = refl;
  levels = p.levels;
  index = λ at h. (few_place v.offset v.strides v.shape l at h).0;
  place = λ at h. (few_place v.offset v.strides v.shape l at h).1;
}

pub shows_transpose : (v w : View) → IsPlaced v → 2 ≤ length v.shape → w.block ≡ v.block → w.offset ≡ v.offset → w.strides ≡ swapped v.strides → w.shape ≡ swapped v.shape → Shows v w swapped
shows_transpose v w p l eb eo er eh =
    let part : (at : List ℕ) → IsIndex at w.shape → IsIndex (swapped at) v.shape × (place w at ≡ place v (swapped at)) = λ at h.
    let x = swapped_place v.offset v.strides w.strides v.shape w.shape p.levels l er eh at h in
    (x.0, ap (λ z. place_from (pos z) w.strides at) eo ∙ x.1) in
    record {
      block = eb;
      levels = ap length er ∙ swapped_long v.strides ∙ p.levels ∙ sym (ap length eh ∙ swapped_long v.shape);
      index = λ at h. (part at h).0;
      place = λ at h. (part at h).1;
    }

-- two writes take two levels the other way round
pub swapped_set : {A : Type 0} (xs : List A) (d : A) → 2 ≤ length xs → set (set xs 0 (get_or xs 1 d)) 1 (get_or xs 0 d) ≡ swapped xs
swapped_set [] d l = absurd (omega (arith, l))
swapped_set (a ∷ []) d l = absurd (omega (arith, l))
swapped_set (a ∷ b ∷ xs) d l = refl

-- ---- steps that are read off a list

pub stepped : (ss seen : List ℤ) (step o q i : ℕ) → seen ≡ ss → step ≡ wrapped (get_or seen 0 (pos 0)) → q ≡ moved o i step → q ≡ moved o i (wrapped (get_or ss 0 (pos 0)))
stepped ss seen step o q i e es is = is ∙ ap (moved o i) (es ∙ ap (λ z. wrapped (get_or z 0 (pos 0))) e)

pub turned : (ss seen : List ℤ) (s' : ℤ) → seen ≡ ss → (unsigned_abs (get_or seen 0 (pos 0)) < 2 ^ 63 → s' ≡ neg_ℤ (get_or seen 0 (pos 0))) → unsigned_abs (get_or ss 0 (pos 0)) < 2 ^ 63 → s' ≡ neg_ℤ (get_or ss 0 (pos 0))
turned ss seen s' e f = subst (λ z. unsigned_abs (get_or z 0 (pos 0)) < 2 ^ 63 → s' ≡ neg_ℤ (get_or z 0 (pos 0))) e f

pub rest_is : {A : Type 0} (xs seen ys : List A) → seen ≡ xs → ys ≡ take (length seen - 1) (drop 1 seen) → ys ≡ drop 1 xs
rest_is xs seen ys e is = is ∙ take_rest seen 1 ∙ ap (drop 1) e

pub ruleset swapping = (swapped_set, to_z-of_z)
