-- Reading an array level by level.
use Rattle.std.proofs.Common.{◌≡◌, ℕ, zero, suc, ◌+◌, ◌-◌, ◌*◌, ◌%◌, ◌^◌, ◌<◌, ◌≤◌, List, [], ◌∷◌, ◌++◌, map, take, drop, length, get_or, ◌⊎◌, inl, inr, Result, Ok, Err, arith, refl, sym, ap, ◌∙◌, subst, append_assoc}
use Rattle.std.specs.Prelude.{ℤ, pos, negsuc, ◌+ℤ◌, ◌*ℤ◌, unsigned_abs, slice_index, IfOk}
use Rattle.std.specs.List.{flat_map, range_with_len}
use Rattle.std.proofs.lemmas.List.{append-nil, map-append, drop_more, drop_all, take_more, take_all}
use Rattle.std.proofs.lemmas.List.FromFn.{map-range_with_len_more}
use Rattle.std.proofs.lemmas.List.Folds.{flat_map-map}
use Rattle.std.proofs.lemmas.List.Concat.{flat_map_single}
use Rattle.std.proofs.lemmas.Grind.{flat_map-append}
use Rattle.std.proofs.lemmas.Simd.{map-map}
use Rattle.block_store.specs.Indices.{IsIndex, indices, Below, EachBelow, place_from, cells_from}
use Rattle.block_store.specs.Walks.{moved, rows_at, row_words, read_from, wrapped}
use Rattle.block_store.proofs.Placing.{bounded, moved_is, stands}

-- ---- lists

pub map-flat_map : {A B C : Type 0} (h : B → C) (f : A → List B) (xs : List A) → map h (flat_map f xs) ≡ flat_map (λ x. map h (f x)) xs
map-flat_map h f [] = refl
map-flat_map h f (x ∷ xs) = map-append h (f x) (flat_map f xs) ∙ ap (λ z. map h (f x) ++ z) (map-flat_map h f xs)

pub flat_map-flat_map : {A B C : Type 0} (g : B → List C) (f : A → List B) (xs : List A) → flat_map g (flat_map f xs) ≡ flat_map (λ x. flat_map g (f x)) xs
flat_map-flat_map g f [] = refl
flat_map-flat_map g f (x ∷ xs) = flat_map-append g (f x) (flat_map f xs) ∙ ap (λ z. flat_map g (f x) ++ z) (flat_map-flat_map g f xs)

pub same_pieces : {A : Type 0} (f g : ℕ → List A) (a n : ℕ) → ((i : ℕ) → a ≤ i → i < a + n → f i ≡ g i) → flat_map f (range_with_len a n) ≡ flat_map g (range_with_len a n)
same_pieces f g a zero same = refl
same_pieces f g a (suc n) same =
    ap (λ l. l ++ flat_map f (range_with_len (a + 1) n)) (same a (omega arith) (omega arith))
    ∙ ap (λ l. g a ++ l) (same_pieces f g (a + 1) n (λ i lo hi. same i (omega arith) (omega arith)))

no_pieces : {A B : Type 0} (f : A → List B) (xs : List A) → ((x : A) → f x ≡ []) → flat_map f xs ≡ []
no_pieces f [] none = refl
no_pieces f (x ∷ xs) none = ap (λ z. z ++ flat_map f xs) (none x) ∙ no_pieces f xs none

-- ---- cells, level by level

pub unrolled : (ws : List ℕ) (o : ℤ) (s : ℤ) (ss : List ℤ) (n : ℕ) (ns : List ℕ) → cells_from ws o (s ∷ ss) (n ∷ ns) ≡ flat_map (λ i. cells_from ws (o +ℤ (pos i *ℤ s)) ss ns) (range_with_len 0 n)
unrolled ws o s ss n ns =
    let h : List ℕ → ℕ = λ at. slice_index ws (unsigned_abs (place_from o (s ∷ ss) at)) in
    map-flat_map h (λ i. map (λ at. i ∷ at) (indices ns)) (range_with_len 0 n)
    ∙ same_pieces (λ i. map h (map (λ at. i ∷ at) (indices ns))) (λ i. cells_from ws (o +ℤ (pos i *ℤ s)) ss ns) 0 n (λ i lo hi. map-map h (λ at. i ∷ at) (indices ns))

-- an index, or no cell at all
data Has (ns : List ℕ) : Type 0 where
  indexed : (at : List ℕ) → IsIndex at ns → Has ns
  bare : ((ws : List ℕ) (z : ℤ) (ss : List ℤ) → length ss ≡ length ns → cells_from ws z ss ns ≡ []) → ((ws : List ℕ) (q : ℕ) (ss : List ℤ) → length ss ≡ length ns → read_from ws ss ns q ≡ []) → Has ns

has : (ns : List ℕ) → Has ns
has [] = indexed [] tt
has (zero ∷ ns) = bare no_cells no_words
  where
    no_cells : (ws : List ℕ) (z : ℤ) (ss : List ℤ) → length ss ≡ length (0 ∷ ns) → cells_from ws z ss (0 ∷ ns) ≡ []
    no_cells ws z ss e = refl

    no_words : (ws : List ℕ) (q : ℕ) (ss : List ℤ) → length ss ≡ length (0 ∷ ns) → read_from ws ss (0 ∷ ns) q ≡ []
    no_words ws q [] e = refl
    no_words ws q (s ∷ ss) e = refl
has (suc m ∷ ns) = more (has ns)
  where
    more : Has ns → Has (suc m ∷ ns)
    more (indexed at h) = indexed (0 ∷ at) (omega arith, h)
    more (bare cs rs) = bare no_cells no_words
      where
        no_cells : (ws : List ℕ) (z : ℤ) (ss : List ℤ) → length ss ≡ length (suc m ∷ ns) → cells_from ws z ss (suc m ∷ ns) ≡ []
        no_cells ws z [] e = absurd (omega (arith, e))
        no_cells ws z (s ∷ ss) e = unrolled ws z s ss (suc m) ns ∙ no_pieces _ (range_with_len 0 (suc m)) (λ i. cs ws (z +ℤ (pos i *ℤ s)) ss (omega (arith, e)))

        no_words : (ws : List ℕ) (q : ℕ) (ss : List ℤ) → length ss ≡ length (suc m ∷ ns) → read_from ws ss (suc m ∷ ns) q ≡ []
        no_words ws q [] e = absurd (omega (arith, e))
        no_words ws q (s ∷ ss) e = no_pieces (read_from ws ss ns) (rows_at (suc m) (wrapped s) q) (λ p. rs ws p ss (omega (arith, e)))

piece : (ws : List ℕ) (n o i m : ℕ) (s : ℤ) (ss : List ℤ) (ns : List ℕ) → n < 2 ^ 64 → length ss ≡ length ns → EachBelow n (pos o) (s ∷ ss) (m ∷ ns) → ((q : ℕ) → EachBelow n (pos q) ss ns → cells_from ws (pos q) ss ns ≡ read_from ws ss ns q) → i < m → Has ns → cells_from ws (pos o +ℤ (pos i *ℤ s)) ss ns ≡ read_from ws ss ns (moved o i (wrapped s))
piece ws n o i m s ss ns l e all rest li (bare cs rs) = cs ws (pos o +ℤ (pos i *ℤ s)) ss e ∙ sym (rs ws (moved o i (wrapped s)) ss e)
piece ws n o i m s ss ns l e all rest li (indexed at h) =
    let next : EachBelow n (pos o +ℤ (pos i *ℤ s)) ss ns = λ at' h'. all (i ∷ at') (li, h') in
    let b = stands n (pos o +ℤ (pos i *ℤ s)) ss at ns next h in
    let small : b.number < 2 ^ 64 = omega (arith, b.below, l) in
    let here = stands n (pos o) (s ∷ ss) (i ∷ at) (m ∷ ns) all (li, h) in
    let lo : o < 2 ^ 64 = bounded (2 ^ 64) o (pos o) refl (record { number = here.number; is = here.is; below = omega (arith, here.below, l) }) in
    ap (λ z. cells_from ws z ss ns) b.is
    ∙ rest b.number (subst (λ z. EachBelow n z ss ns) b.is next)
    ∙ ap (read_from ws ss ns) (sym (moved_is o i s b.number lo small b.is))

-- the words that are read level by level are those of the cells
pub cells_are : (ws : List ℕ) (n o : ℕ) (ss : List ℤ) (ns : List ℕ) → n < 2 ^ 64 → length ss ≡ length ns → EachBelow n (pos o) ss ns → cells_from ws (pos o) ss ns ≡ read_from ws ss ns o
cells_are ws n o [] [] l e all = refl
cells_are ws n o (s ∷ ss) [] l e all = absurd (omega (arith, e))
cells_are ws n o [] (m ∷ ns) l e all = absurd (omega (arith, e))
cells_are ws n o (s ∷ ss) (m ∷ ns) l e all =
    let e' : length ss ≡ length ns = omega (arith, e) in
    unrolled ws (pos o) s ss m ns
    ∙ same_pieces (λ i. cells_from ws (pos o +ℤ (pos i *ℤ s)) ss ns) (λ i. read_from ws ss ns (moved o i (wrapped s))) 0 m (λ i low high. piece ws n o i m s ss ns l e' all (λ q each. cells_are ws n q ss ns l e' each) (omega (arith, high)) (has ns))
    ∙ sym (flat_map-map (read_from ws ss ns) (λ i. moved o i (wrapped s)) (range_with_len 0 m))

-- at a view's offset, where the block is short
pub view_cells : (ws : List ℕ) (o : ℕ) (ss : List ℤ) (ns read : List ℕ) → length ws < 2 ^ 63 → length ss ≡ length ns → EachBelow (length ws) (pos o) ss ns → read ≡ read_from ws ss ns o → read ≡ cells_from ws (pos o) ss ns
view_cells ws o ss ns read l e all is = is ∙ sym (cells_are ws (length ws) o ss ns (omega (arith, l)) e all)

-- ---- loops

-- arrays at places, and their rows
pub down : (ws : List ℕ) (k : ℕ) (ss : List ℤ) (ns old places rows : List ℕ) (step : ℕ) (all : List ℕ) → k < length ss → k < length ns → step ≡ wrapped (get_or ss k (pos 0)) → places ≡ old → rows ≡ flat_map (rows_at (get_or ns k 0) step) places → flat_map (read_from ws (drop k ss) (drop k ns)) old ≡ all → flat_map (read_from ws (drop (k + 1) ss) (drop (k + 1) ns)) rows ≡ all
down ws k ss ns old places rows step all ls ln es ep is h =
    let g = read_from ws (drop (k + 1) ss) (drop (k + 1) ns) in
    let s : ℤ = get_or ss k (pos 0) in
    let n : ℕ = get_or ns k 0 in
    ap (flat_map g) is ∙ ap (λ z. flat_map g (flat_map (rows_at n z) places)) es ∙ flat_map-flat_map g (rows_at n (wrapped s)) places
    ∙ ap (λ z. flat_map (read_from ws z (n ∷ drop (k + 1) ns)) places) (sym (drop_more ss k (pos 0) ls))
    ∙ ap (λ z. flat_map (read_from ws (drop k ss) z) places) (sym (drop_more ns k 0 ln))
    ∙ ap (flat_map (read_from ws (drop k ss) (drop k ns))) ep
    ∙ h

pub one_place : (ws : List ℕ) (ss : List ℤ) (ns : List ℕ) (o : ℕ) (start places : List ℕ) → start ≡ [] → places ≡ start ++ o ∷ [] → flat_map (read_from ws ss ns) places ≡ read_from ws ss ns o
one_place ws ss ns o start places n e = ap (flat_map (read_from ws ss ns)) (e ∙ ap (λ z. z ++ o ∷ []) n) ∙ append-nil (read_from ws ss ns o)

pub row_more : (place i step x : ℕ) (start old new : List ℕ) → x ≡ moved place i step → new ≡ old ++ x ∷ [] → old ≡ start ++ rows_at i step place → new ≡ start ++ rows_at (i + 1) step place
row_more place i step x start old new is b o = b ∙ ap (λ z. z ++ x ∷ []) o ∙ append_assoc start (rows_at i step place) (x ∷ []) ∙ ap (λ z. start ++ (rows_at i step place ++ z ∷ [])) is ∙ ap (λ z. start ++ z) (sym (map-range_with_len_more (λ k. moved place k step) 0 i i (omega arith)))

pub word_more : (ws : List ℕ) (place i step x y : ℕ) (start old new : List ℕ) → y ≡ moved place i step → x ≡ slice_index ws y → new ≡ old ++ x ∷ [] → old ≡ start ++ row_words ws i step place → new ≡ start ++ row_words ws (i + 1) step place
word_more ws place i step x y start old new at is b o = b ∙ ap (λ z. z ++ x ∷ []) o ∙ append_assoc start (row_words ws i step place) (x ∷ []) ∙ ap (λ z. start ++ (row_words ws i step place ++ z ∷ [])) (is ∙ ap (slice_index ws) at) ∙ ap (λ z. start ++ z) (sym (map-range_with_len_more (λ k. slice_index ws (moved place k step)) 0 i i (omega arith)))

pub one_more_piece : {A : Type 0} (f : ℕ → List A) (xs : List ℕ) (i : ℕ) (start old new : List A) → i < length xs → new ≡ old ++ f (get_or xs i 0) → old ≡ start ++ flat_map f (take i xs) → new ≡ start ++ flat_map f (take (i + 1) xs)
one_more_piece f xs i start old new l b o =
    let x : ℕ = get_or xs i 0 in
    b ∙ ap (λ z. z ++ f x) o ∙ append_assoc start (flat_map f (take i xs)) (f x) ∙ ap (λ z. start ++ (flat_map f (take i xs) ++ z)) (sym (append-nil (f x))) ∙ ap (λ z. start ++ z) (sym (flat_map-append f (take i xs) (x ∷ [])))
    ∙ ap (λ z. start ++ flat_map f z) (sym (take_more xs i 0 l))

pub all_pieces : {A : Type 0} (f : ℕ → List A) (xs : List ℕ) (i : ℕ) (start old : List A) → length xs ≤ i → old ≡ start ++ flat_map f (take i xs) → old ≡ start ++ flat_map f xs
all_pieces f xs i start old l o = o ∙ ap (λ z. start ++ flat_map f z) (take_all i xs l)

pub no_level_read : (ws : List ℕ) (ss : List ℤ) (ns : List ℕ) (o x : ℕ) (start new : List ℕ) → length ns ≡ 0 → start ≡ [] → x ≡ slice_index ws o → new ≡ start ++ x ∷ [] → new ≡ read_from ws ss ns o
no_level_read ws ss [] o x start new e n is b = b ∙ ap (λ z. z ++ x ∷ []) n ∙ ap (λ z. z ∷ []) is
no_level_read ws ss (n ∷ ns) o x start new e m is b = absurd (omega (arith, e))

row_is : (ws : List ℕ) (n : ℕ) (s : ℤ) (p : ℕ) → row_words ws n (wrapped s) p ≡ read_from ws (s ∷ []) (n ∷ []) p
row_is ws n s p = sym (flat_map-map (read_from ws [] []) (λ i. moved p i (wrapped s)) (range_with_len 0 n) ∙ flat_map_single (λ i. slice_index ws (moved p i (wrapped s))) (range_with_len 0 n))

flat_same : {A B : Type 0} (f g : A → List B) (xs : List A) → ((x : A) → f x ≡ g x) → flat_map f xs ≡ flat_map g xs
flat_same f g [] same = refl
flat_same f g (x ∷ xs) same = ap (λ z. z ++ flat_map f xs) (same x) ∙ ap (λ z. g x ++ z) (flat_same f g xs same)

last_level : {A : Type 0} (xs : List A) (k : ℕ) (d : A) → length xs ≡ suc k → drop k xs ≡ get_or xs k d ∷ []
last_level xs k d e = drop_more xs k d (omega (arith, e)) ∙ ap (λ z. get_or xs k d ∷ z) (drop_all (k + 1) xs (omega (arith, e)))

pub all_read : (ws : List ℕ) (ss : List ℤ) (ns : List ℕ) (o last step : ℕ) (places start into : List ℕ) → length ss ≡ length ns → length ns ≡ suc last → start ≡ [] → step ≡ wrapped (get_or ss last (pos 0)) → flat_map (read_from ws (drop last ss) (drop last ns)) places ≡ read_from ws ss ns o → into ≡ start ++ flat_map (row_words ws (get_or ns last 0) step) places → into ≡ read_from ws ss ns o
all_read ws ss ns o last step places start into e long en es h is =
    let n : ℕ = get_or ns last 0 in
    let s : ℤ = get_or ss last (pos 0) in
    is ∙ ap (λ z. z ++ flat_map (row_words ws n step) places) en
    ∙ ap (λ z. flat_map (row_words ws n z) places) es
    ∙ flat_same (row_words ws n (wrapped s)) (read_from ws (s ∷ []) (n ∷ [])) places (row_is ws n s)
    ∙ ap (λ z. flat_map (read_from ws z (n ∷ [])) places) (sym (last_level ss last (pos 0) (e ∙ long)))
    ∙ ap (λ z. flat_map (read_from ws (drop last ss) z) places) (sym (last_level ns last 0 long))
    ∙ h

pub if_ok_weaker : {T E : Type 0} (P Q : T → Type 0) (r : Result T E) → ((v : T) → P v → Q v) → IfOk r P → IfOk r Q
if_ok_weaker P Q (Ok v) f h = f v h
if_ok_weaker P Q (Err e) f h = tt

-- a view's cells in its block
pub view_read : (ws seen : List ℕ) (o : ℕ) (ss rs : List ℤ) (ns ms read : List ℕ) → length ws < 2 ^ 63 → length ss ≡ length ns → EachBelow (length ws) (pos o) ss ns → seen ≡ ws → rs ≡ ss → ms ≡ ns → read ≡ read_from seen rs ms o → read ≡ cells_from ws (pos o) ss ns
view_read ws seen o ss rs ns ms read l e all ew er em is = view_cells ws o ss ns read l e all (is ∙ ap (λ z. read_from z rs ms o) ew ∙ ap (λ z. read_from ws z ms o) er ∙ ap (λ z. read_from ws ss z o) em)
