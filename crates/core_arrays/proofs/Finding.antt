-- Arrays by their numbers.
use Rattle.std.proofs.Common.{◌≡◌, ℕ, zero, suc, ◌+◌, ◌-◌, ◌<◌, ◌≤◌, List, [], ◌∷◌, ◌++◌, length, take, drop, Option, Some, None, slice_get, IfSome, Bor, refl, sym, ap, ◌∙◌, arith, append_assoc}
use Rattle.std.proofs.lemmas.List.{append-nil, drop-take}
use Rattle.core_arrays.specs.declared.arrays.Whole.{Whole}
use Rattle.core_arrays.specs.declared.arrays.Cells.TheVariants as cells
use Rattle.core_arrays.specs.Arenas.{Array}
use Rattle.core_arrays.specs.Wholes.{owned, own_words, words_of, array_of, arrays_of}

same : {A : Type 0} (o : _) (a b : A) → o ≡ Some a → o ≡ Some b → a ≡ b
same o a b e f = let h : Some a ≡ Some b = sym e ∙ f in cc

-- an array is seen with those in front of it
arrays_get : (before ws : List Whole) (at : ℕ) (w : Whole) → slice_get ws at ≡ Some w → slice_get (arrays_of before ws) at ≡ Some (array_of (before ++ take at ws) w)
arrays_get before [] at w e = cc
arrays_get before (x ∷ ws) zero w e = let q : x ≡ w = cc in ap (λ z. Some (array_of before z)) q ∙ ap (λ z. Some (array_of z w)) (sym (append-nil before))
arrays_get before (x ∷ ws) (suc at) w e = arrays_get (before ++ x ∷ []) ws at w e ∙ ap (λ z. Some (array_of z w)) (append_assoc before (x ∷ []) (take at ws))

seen : (ws : List Whole) (at : ℕ) (w : Whole) (a : Array) → slice_get ws at ≡ Some w → slice_get (arrays_of [] ws) at ≡ Some a → array_of (take at ws) w ≡ a
seen ws at w a e f = same (slice_get (arrays_of [] ws) at) (array_of (take at ws) w) a (arrays_get [] ws at w e) f

in_front : {A : Type 0} (ws : List A) (at i : ℕ) → i < at → slice_get (take at ws) i ≡ slice_get ws i
in_front ws zero i l = absurd (omega arith)
in_front [] (suc at) i l = refl
in_front (w ∷ ws) (suc at) zero l = refl
in_front (w ∷ ws) (suc at) (suc i) l = in_front ws at i (omega arith)

pub sizes_are : (ws : List Whole) (at : ℕ) (w : Whole) (xs : List ℕ) → slice_get ws at ≡ Some w → xs ≡ w.sizes → (a : Array) → slice_get (arrays_of [] ws) at ≡ Some a → xs ≡ a.sizes
sizes_are ws at w xs e q a f = q ∙ ap (λ (z : Array). z.sizes) (seen ws at w a e f)

pub own_are : (ws : List Whole) (at : ℕ) (w : Whole) (xs : List ℕ) → slice_get ws at ≡ Some w → w.cells ≡ cells.Own xs → (a : Array) → slice_get (arrays_of [] ws) at ≡ Some a → xs ≡ a.words
own_are ws at w xs e q a f = sym (ap (words_of (take at ws)) q) ∙ ap (λ (z : Array). z.words) (seen ws at w a e f)

pub part_are : (ws : List Whole) (at : ℕ) (w : Whole) (owner from count : ℕ) (xs : List ℕ) → slice_get ws at ≡ Some w → w.cells ≡ cells.Part owner from count → owner < at → xs ≡ take count (drop from (own_words (slice_get ws owner))) → (a : Array) → slice_get (arrays_of [] ws) at ≡ Some a → xs ≡ a.words
part_are ws at w owner from count xs e q l p a f =
    p ∙ ap (λ z. take count (drop from (own_words z))) (sym (in_front ws at owner l)) ∙ sym (ap (words_of (take at ws)) q) ∙ ap (λ (z : Array). z.words) (seen ws at w a e f)

pub are_own : (ws : List Whole) (at : ℕ) (w : Whole) (xs : List ℕ) → slice_get ws at ≡ Some w → w.cells ≡ cells.Own xs → own_words (slice_get ws at) ≡ xs
are_own ws at w xs e q = ap own_words e ∙ ap owned q

pub of_own : (ws : List Whole) (at : ℕ) (w : Whole) (xs : List ℕ) (from count : ℕ) → slice_get ws at ≡ Some w → w.cells ≡ cells.Own xs → (a : Array) → slice_get (arrays_of [] ws) at ≡ Some a → take count (drop from (own_words (slice_get ws at))) ≡ take count (drop from a.words)
of_own ws at w xs from count e q a f = ap (λ z. take count (drop from z)) (are_own ws at w xs e q ∙ own_are ws at w xs e q a f)

take_fewer : {A : Type 0} (n m : ℕ) (xs : List A) → n ≤ m → take n (take m xs) ≡ take n xs
take_fewer zero m xs l = refl
take_fewer (suc n) zero xs l = absurd (omega arith)
take_fewer (suc n) (suc m) [] l = refl
take_fewer (suc n) (suc m) (x ∷ xs) l = ap (λ z. x ∷ z) (take_fewer n m xs (omega arith))

drop_more : {A : Type 0} (n m : ℕ) (xs : List A) → drop m (drop n xs) ≡ drop (n + m) xs
drop_more zero m xs = let e : m ≡ 0 + m = omega arith in ap (λ z. drop z xs) e
drop_more (suc n) m [] = drop_none m ∙ sym (drop_none (suc n + m))
  where
    drop_none : {A : Type 0} (m : ℕ) → drop {A = A} m [] ≡ []
    drop_none zero = refl
    drop_none (suc m) = refl
drop_more (suc n) m (x ∷ xs) = let e : suc (n + m) ≡ suc n + m = omega arith in drop_more n m xs ∙ ap (λ z. drop z (x ∷ xs)) e

part_of_part : {A : Type 0} (base all from count : ℕ) (xs : List A) → from ≤ all → count ≤ all - from → take count (drop from (take all (drop base xs))) ≡ take count (drop (base + from) xs)
part_of_part base all from count xs l m =
    let e : all ≡ from + (all - from) = omega arith in
    ap (λ z. take count (drop from (take z (drop base xs)))) e ∙ ap (take count) (drop-take from (all - from) (drop base xs))
    ∙ take_fewer count (all - from) (drop from (drop base xs)) m ∙ ap (take count) (drop_more base from xs)

pub of_part : (ws : List Whole) (at : ℕ) (w : Whole) (owner base all from to count : ℕ) → slice_get ws at ≡ Some w → w.cells ≡ cells.Part owner base all → owner < at → from ≤ all → count ≤ all - from → to ≡ base + from → (a : Array) → slice_get (arrays_of [] ws) at ≡ Some a → take count (drop to (own_words (slice_get ws owner))) ≡ take count (drop from a.words)
of_part ws at w owner base all from to count e q l m k r a f =
    ap (λ z. take count (drop z (own_words (slice_get ws owner)))) r ∙ sym (part_of_part base all from count (own_words (slice_get ws owner)) m k)
    ∙ ap (λ z. take count (drop from z)) (part_are ws at w owner base all (take all (drop base (own_words (slice_get ws owner)))) e q l refl a f)

pub shown_part : (ws : List Whole) (at : ℕ) (w : Whole) (owner from count : ℕ) (own : List ℕ) (r : Option (Bor (List ℕ))) → slice_get ws at ≡ Some w → w.cells ≡ cells.Part owner from count → owner < at → own ≡ own_words (slice_get ws owner) → IfSome r (λ part. part.now ≡ take count (drop from own)) → IfSome r (λ words. (array : Array) → slice_get (arrays_of [] ws) at ≡ Some array → words.now ≡ array.words)
shown_part ws at w owner from count own None e q l p h = h
shown_part ws at w owner from count own (Some x) e q l p h = part_are ws at w owner from count x.now e q l (h ∙ ap (λ z. take count (drop from z)) p)

pub ruleset finding = (sizes_are)

pub ruleset parts = (sizes_are, own_are, part_are, are_own)

-- ---- changes

arrays_append : (before ws : List Whole) (w : Whole) → arrays_of before (ws ++ w ∷ []) ≡ arrays_of before ws ++ array_of (before ++ ws) w ∷ []
arrays_append before [] w = ap (λ z. array_of z w ∷ []) (sym (append-nil before))
arrays_append before (x ∷ ws) w = ap (λ z. array_of before x ∷ z) (arrays_append (before ++ x ∷ []) ws w ∙ ap (λ z. arrays_of (before ++ x ∷ []) ws ++ array_of z w ∷ []) (append_assoc before (x ∷ []) ws))

pub seen_append : (ws : List Whole) (w : Whole) → arrays_of [] (ws ++ w ∷ []) ≡ arrays_of [] ws ++ array_of ws w ∷ []
seen_append ws w = arrays_append [] ws w

arrays_take : (before : List Whole) (n : ℕ) (ws : List Whole) → arrays_of before (take n ws) ≡ take n (arrays_of before ws)
arrays_take before zero ws = refl
arrays_take before (suc n) [] = refl
arrays_take before (suc n) (x ∷ ws) = ap (λ z. array_of before x ∷ z) (arrays_take (before ++ x ∷ []) n ws)

pub seen_take : (n : ℕ) (ws : List Whole) → arrays_of [] (take n ws) ≡ take n (arrays_of [] ws)
seen_take n ws = arrays_take [] n ws

arrays_length : (before ws : List Whole) → length ws ≡ length (arrays_of before ws)
arrays_length before [] = refl
arrays_length before (x ∷ ws) = ap suc (arrays_length (before ++ x ∷ []) ws)

pub seen_length : (ws : List Whole) → length ws ≡ length (arrays_of [] ws)
seen_length ws = arrays_length [] ws

pub ruleset changes = (seen_append, seen_take, seen_length)
